use Rattle.std.proofs.Common.{◌<◌, ◌≤◌, ◌-◌, sym, ◌∙◌, arith}
use Rattle.compiler.proofs.TechnologyLemmas.{most_is, may_be_prefix, found_longest, found_none}
use Rattle.compiler.proofs.technologies.technology_of.Goals as goal

pub declared-requires : goal.declared-requires
declared-requires c =
    let within : c.loop-shorter.shorter < c.min-most.result = c.loop-shorter-test.true in
    may_be_prefix c.args.text.now c.min-most.result
    (most_is _ _ _ c.technology_bytes.ensures.counted c.technology_bytes.ensures.within
    c.min-most.ensures)
    (c.min-most.result - c.loop-shorter.shorter) (omega arith) (omega arith)

pub returns-in-Some : goal.returns-in-Some
returns-in-Some c =
    let within : c.loop-shorter.shorter < c.min-most.result = c.loop-shorter-test.true in
    found_longest c.args.technologies.now c.args.text.now c.min-most.result
    (most_is _ _ _ c.technology_bytes.ensures.counted c.technology_bytes.ensures.within
    c.min-most.ensures) c.requires
    (c.min-most.result - c.loop-shorter.shorter) c.in-Some.found.0 c.in-Some.found.1
    (omega arith) (omega arith) (sym c.declared.ensures ∙ c.in-Some.is)
    (λ count longer most. c.loop-shorter.invariant count (omega arith) most)

pub returns : goal.returns
returns c =
    found_none c.args.technologies.now c.args.text.now c.min-most.result
    (most_is _ _ _ c.technology_bytes.ensures.counted c.technology_bytes.ensures.within
    c.min-most.ensures) c.requires
    (λ count some most. c.loop-shorter.invariant count
    (let past : c.min-most.result ≤ c.loop-shorter.shorter =
    c.loop-shorter-test.false in omega arith) most)
