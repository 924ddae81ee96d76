use Rattle.std.proofs.Common.{◌≡◌, [], ◌∷◌, ◌++◌, map, Some, sym, ap, subst, ◌∙◌}
use Rattle.std.specs.Option.{option_map}
use Rattle.std.specs.List.{cons_option}
use Rattle.decision_record.specs.Reloads.{ArePlaced, plain_past, plain_last, reloads_told}
use Rattle.decision_record.proofs.PastLemmas.{placed_more, told_more}
use Rattle.decision_record.proofs.reloads.Reloads.push.Goals as goal

pub invariant_of-self : goal.invariant_of-self
invariant_of-self c =
    subst (ArePlaced c.past.new.known.items) (sym (ap (λ p. p.items) c.push.ensures))
    (placed_more c.self.inside.known c.past.new.known c.past.ensures.kept
    c.self.inside.past.items c.past.result c.self.invariant c.past.ensures.placed)

pub returns-in-Some-clause-entries : goal.returns-in-Some-clause-entries
returns-in-Some-clause-entries c =
    let old = c.self.inside.known.items in
    let new = c.past.new.known.items in
    let reloads = c.self.inside.past.items in
    let one = plain_last c.args.reload ∷ [] in
    let was : c.self.inside.last ≡ Some c.in-Some.before = sym c.replace.ensures.value
    ∙ c.in-Some.is in
    ap (reloads_told new c.push.new.self.items) c.replace.ensures.after
    ∙ ap (λ p. map (plain_past new) p.items ++ one) c.push.ensures
    ∙ ap (λ told. told ++ one)
    (told_more c.self.inside.known c.past.new.known c.past.ensures.kept reloads c.past.result
    (plain_last c.in-Some.before) c.self.invariant c.past.ensures.said
    ∙ sym (ap (λ last. map (plain_past old) reloads
    ++ cons_option (option_map plain_last last) []) was))
    ∙ ap (λ r. r.entries ++ one) c.self.view_is
