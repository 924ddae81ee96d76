use Rattle.std.proofs.Common.{◌≡◌, ◌==◌, ℕ, ◌+◌, ◌-◌, List, length, take, drop, arith}
use Rattle.std.specs.List.{position_or_len}
use Rattle.std.proofs.lemmas.List.{take_all, length-drop}
use Rattle.std.proofs.lemmas.List.Splits.{slice_split_first}
use Rattle.gk_terms.proofs.PartsLemmas.{one_part}
use Rattle.gk_terms.proofs.addresses.cut.Goals as goal

pub returns-then-end-text : goal.returns-then-end-text
returns-then-end-text c =
    let text : List ℕ = c.args.text.now in
    let n : ℕ = c.length_before-end.result in
    let at : n ≡ position_or_len (λ b. b == c.args.separator) text = c.length_before-end.ensures in
    let all : take (length text - (n + 1)) (drop (n + 1) text) ≡ drop (n + 1) text =
    take_all _ (drop (n + 1) text) (omega (arith, length-drop (n + 1) text)) in
    rw (all, at) (slice_split_first (λ b. b == c.args.separator) text 0 (omega (arith, at)))

pub returns-else-end-text : goal.returns-else-end-text
returns-else-end-text c =
    one_part (λ b. b == c.args.separator) c.args.text.now
    (omega (arith, c.length_before-end.ensures))
