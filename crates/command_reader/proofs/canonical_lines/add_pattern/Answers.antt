use Rattle.std.proofs.Common.{ap, ◌∙◌, ◌≡◌, [], ◌∷◌, cond}
use Rattle.std.specs.Prelude.{replicate}
use Rattle.command_reader.proofs.CanonicalLemmas.{pattern_whole}
use Rattle.command_reader.proofs.canonical_lines.add_pattern.Goals as goal

pub returns : goal.returns
returns c =
    let dots : c.dots-2.result.now ≡ replicate c.args.pattern.now.dots 46 = c.dots-2.ensures ∙ ap
    (λ n. replicate n 46) c.dots.ensures in
    let star : c.star.result.now ≡ cond c.args.pattern.now.star (42 ∷ []) [] = c.star.ensures ∙ ap
    (λ b. cond b (42 ∷ []) []) c.has_star.ensures in
    rw (c.push-2.ensures, c.push.ensures, c.word.ensures, dots, star, c.literals.ensures.literals)
    (pattern_whole c.args.line.now c.args.pattern.now)
