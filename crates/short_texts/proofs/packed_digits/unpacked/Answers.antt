use Rattle.std.proofs.Common.{◌≡◌, suc, ◌+◌, ◌-◌, ◌++◌, take, replicate, Some, slice_get, slice_set, ap, ◌∙◌, arith}
use Rattle.short_texts.specs.PackedDigits as Spec
use Rattle.short_texts.proofs.PackedLemmas.{all_held, further_read, within_read}
use Rattle.short_texts.proofs.packed_digits.unpacked.Goals as goal

pub dialled-requires : goal.dialled-requires
dialled-requires c =
    let held = c.loop-place.invariant in
    rw (all_held _ _ _ _ held.1 held.0 (c.character_at.ensures ∙ c.in-None.is)) c.requires.digits

pub returns-in-None : goal.returns-in-None
returns-in-None c =
    let held = c.loop-place.invariant in
    c.dialled.ensures ∙ all_held _ _ _ _ held.1 held.0 (c.character_at.ensures ∙ c.in-None.is)

pub loop-place-preserved : goal.loop-place-preserved
loop-place-preserved c =
    let text = Spec.unpacked c.args.bytes.now in
    let place = c.loop-place.place in
    let character = c.in-Some.character in
    let held = c.loop-place.invariant in
    let found : slice_get text place ≡ Some character = c.character_at.ensures ∙ c.in-Some.is in
    let within = within_read text place character found in
    let rest : 32 - place ≡ suc (32 - (place + 1)) = omega (arith, c.loop-place-test.true) in
    let next : suc place ≡ place + 1 = omega arith in (
      omega arith,
      ap (λ held. slice_set held place character) held.1
          ∙ ap (λ count. slice_set (take place text ++ replicate count 0) place character) rest
          ∙ further_read text place (32 - (place + 1)) character found
          ∙ ap (λ p. take p text ++ replicate (32 - (place + 1)) 0) next,
    )
