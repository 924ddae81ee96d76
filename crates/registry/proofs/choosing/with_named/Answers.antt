use Rattle.std.proofs.Common.{◌&&◌, nat_lt, sym, ap, subst, ◌∙◌}
use Rattle.compiler.specs.Priority.{named_priority}
use Rattle.registry.specs.Chosen.{IsBestAt, is_other_than, first_of, is_first, is_greater}
use Rattle.registry.specs.Served.{found_serving}
use Rattle.registry.proofs.NamedLemmas.{drop_unknown, drop_failing, looked_at, keeps_first, keeps_greater}
use Rattle.registry.proofs.choosing.with_named.Goals as goal

pub returns-then-is_greater : goal.returns-then-is_greater
returns-then-is_greater c rest distinct h =
    keeps_greater c.args.endpoints.now.entries c.args.named.now.entries c.args.zone.now
    c.args.prefix.now c.args.id.now rest c.args.best h
    (ap (is_greater c.args.best) (sym c.requires)
    ∙ sym c.is_greater.ensures ∙ c.if-is_greater.true)

pub returns-then-is_first : goal.returns-then-is_first
returns-then-is_first c rest distinct h =
    keeps_first c.args.endpoints.now.entries c.args.named.now.entries c.args.zone.now
    c.args.prefix.now c.args.endpoints.now.next c.args.id.now c.in-Some.number
    c.in-Some.ensures.0 rest c.args.best h
    (ap (λ p. is_first c.args.best (p, c.in-Some.number)) (sym c.requires)
    ∙ sym c.is_first.ensures ∙ c.if-is_first.true)

pub returns-in_default : goal.returns-in_default
returns-in_default c rest distinct h =
    drop_unknown c.args.endpoints.now.entries c.args.named.now.entries c.args.zone.now
    c.args.prefix.now c.args.id.now c.in_default.ensures rest c.args.best h

pub returns-else-serves-priority : goal.returns-else-serves-priority
returns-else-serves-priority c rest distinct h =
    let zone = c.args.zone.now in
    let prefix = c.args.prefix.now in
    drop_failing c.args.endpoints.now.entries c.args.named.now.entries zone prefix
    c.args.endpoints.now.next c.args.id.now c.in-Some.number c.in-Some.ensures.0 rest
    c.args.best h
    (ap (λ b. b && nat_lt 0 (named_priority c.args.named.now.entries c.args.id.now))
    (ap (λ found. found_serving found zone prefix) (sym c.at_number.ensures) ∙ sym c.serves.ensures)
    ∙ ap (λ p. c.serves.result && nat_lt 0 p) (sym c.requires)
    ∙ c.if-serves-priority.false)

pub returns-then-serves-priority : goal.returns-then-serves-priority
returns-then-serves-priority c rest distinct h =
    let zone = c.args.zone.now in
    let prefix = c.args.prefix.now in
    let entries = c.args.endpoints.now.entries in
    let named = c.args.named.now.entries in
    let best = looked_at entries named zone prefix
    c.args.endpoints.now.next c.args.id.now c.in-Some.number c.in-Some.ensures.0 rest
    c.args.best h distinct c.in-Some.ensures.1
    (ap (λ b. b && nat_lt 0 (named_priority c.args.named.now.entries c.args.id.now))
    (ap (λ found. found_serving found zone prefix) (sym c.at_number.ensures) ∙ sym c.serves.ensures)
    ∙ ap (λ p. c.serves.result && nat_lt 0 p) (sym c.requires)
    ∙ c.if-serves-priority.true) in
    subst (λ b. IsBestAt entries named (is_other_than named zone prefix rest) b.0 b.1)
    (ap (λ p. first_of c.args.best (p, c.in-Some.number)) (sym c.requires)
    ∙ sym c.first_of.ensures) best
