use Rattle.std.proofs.Common.{◌≡◌, drop, arith, sym, ap, ◌∙◌}
use Rattle.std.specs.Prelude.{not}
use Rattle.std.specs.List.{prefix_len, position_or_len}
use Rattle.std.proofs.lemmas.List.Sums.{prefix_len-le-length}
use Rattle.gk_terms.specs.Text.{is_blank}
use Rattle.gk_terms.proofs.WordsLemmas.{a_word, no_word}
use Rattle.gk_terms.proofs.words.first_word.Goals as goal

pub split_at-requires : goal.split_at-requires
split_at-requires c = rw c.blanks_in_front.ensures (prefix_len-le-length is_blank c.args.line.now)

pub split_at-requires-2 : goal.split_at-requires-2
split_at-requires-2 c = rw c.length_of_word.ensures (prefix_len-le-length (λ b. not (is_blank b))
    c.split_at.result.1.now)

pub returns-clause-word : goal.returns-clause-word
returns-clause-word c h =
    let rest = c.split_at.result.1.now in
    let e : rest ≡ drop (prefix_len is_blank c.args.line.now) c.args.line.now =
    c.split_at.ensures.back ∙ ap (λ n. drop n c.args.line.now) c.blanks_in_front.ensures in
    let n : c.length_of_word.result ≡ position_or_len is_blank rest = c.length_of_word.ensures in
    rw (c.split_at-2.ensures.front, c.split_at-2.ensures.back, n)
    (a_word c.args.line.now rest e (omega (arith, n, c.split_at-2.ensures.front_len)))

pub returns-clause-none : goal.returns-clause-none
returns-clause-none c h =
    let rest = c.split_at.result.1.now in
    let e : rest ≡ drop (prefix_len is_blank c.args.line.now) c.args.line.now =
    c.split_at.ensures.back ∙ ap (λ n. drop n c.args.line.now) c.blanks_in_front.ensures in
    let n : c.length_of_word.result ≡ position_or_len is_blank rest = c.length_of_word.ensures in
    no_word c.args.line.now (ap (position_or_len is_blank) (sym e) ∙ sym n ∙ omega
    (arith, c.split_at-2.ensures.front_len))
