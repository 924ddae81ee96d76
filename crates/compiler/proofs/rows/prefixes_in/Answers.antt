use Rattle.std.proofs.Common.{◌≡◌, length, ap, ◌∙◌, arith}
use Rattle.std.specs.Prelude.{Err, None}
use Rattle.digit_patterns.specs.Duplicate.{duplicate_of}
use Rattle.raw_trie.specs.declared.trie.TrieFault.{TrieFault}
use Rattle.compiler.proofs.FirstRows.{duplicate_of-places_of, length-places_of}
use Rattle.compiler.proofs.rows.prefixes_in.Goals as goal

-- the rows are of different patterns
pub unreachable-requires : goal.unreachable-requires
unreachable-requires c =
    let none : duplicate_of c.deref.result.now ≡ None =
    ap duplicate_of (c.deref.ensures.value ∙ c.in_ok-places.ensures)
    ∙ duplicate_of-places_of c.args.rows.now.entries
    ∙ c.requires.distinct in
    let some = c.build.ensures.duplicate c.in-Err-Duplicate.field-0-0
    (c.in-Err-Duplicate.is
    ∙ ap (λ (fault : TrieFault). Err fault) c.in-Err-Duplicate.field-0-is) in
    cc

-- each pattern takes at most 32 nodes
pub unreachable-requires-in-Err-TooManyNodes : goal.unreachable-requires-in-Err-TooManyNodes
unreachable-requires-in-Err-TooManyNodes c =
    let rows = c.args.rows.now.entries in
    let lack = c.build.ensures.enough
    (c.in-Err-TooManyNodes.is
    ∙ ap (λ (fault : TrieFault). Err fault) c.in-Err-TooManyNodes.field-0-is) in
    omega (
      arith,
      lack,
      ap length (c.deref.ensures.value ∙ c.in_ok-places.ensures),
      length-places_of rows,
      c.requires.few,
    )
