use Rattle.std.proofs.Common.{◌≡◌, sym, subst, ◌∙◌}
use Rattle.std.specs.Prelude.{bytes_eq}
use Rattle.std.specs.List.{AllByRecursion, IsDistinct}
use Rattle.std.specs.Map.{keys_of}
use Rattle.std.proofs.lemmas.Map.Keys.{IsDistinct-tail}
use Rattle.compiler.specs.Priority.{named_priority}
use Rattle.registry.specs.Chosen.{IsBestGateway, is_other_than}
use Rattle.registry.proofs.NamedLemmas.{all_looked_at, all_ranked}
use Rattle.registry.proofs.choosing.best_named.Goals as goal

pub loop-id-init : goal.loop-id-init
loop-id-init c =
    let entries = c.args.endpoints.now.entries in
    let named = c.args.named.now.entries in
    let pairs = c.into_iter-id-iterator.ensures.into_iter_gives ∙ c.iter-id-items.ensures.rest in
    record {
      different = subst (λ left. IsDistinct bytes_eq (keys_of left)) (sym pairs)
          c.iter-id-items.ensures.unique;
      ranked = subst (AllByRecursion (λ e. e.1 ≡ named_priority named e.0)) (sym pairs)
          (all_ranked named c.iter-id-items.ensures.unique);
      best = subst (λ left. IsBestGateway entries named
          (is_other_than named c.args.zone.now c.args.prefix.now (keys_of left)) c.args.unnamed)
          (sym pairs) c.requires.unnamed;
    }

pub with_named-best-requires : goal.with_named-best-requires
with_named-best-requires c =
    let named = c.args.named.now.entries in
    let ranked = subst (AllByRecursion (λ e. e.1 ≡ named_priority named e.0))
    c.in-Some.ensures.steps c.loop-id.invariant.ranked in
    ranked.0

pub loop-id-preserved : goal.loop-id-preserved
loop-id-preserved c =
    let entries = c.args.endpoints.now.entries in
    let named = c.args.named.now.entries in
    let id = c.in-Some.id.now in
    let rest = c.next.new.self in
    let left = c.in-Some.ensures.steps in
    let different = subst (λ pairs. IsDistinct bytes_eq (keys_of pairs)) left
    c.loop-id.invariant.different in
    let ranked = subst (AllByRecursion (λ e. e.1 ≡ named_priority named e.0)) left
    c.loop-id.invariant.ranked in
    record {
      different = IsDistinct-tail bytes_eq id (keys_of rest) different;
      ranked = ranked.1;
      best = c.with_named-best.ensures (keys_of rest) different
          (subst (λ pairs. IsBestGateway entries named
          (is_other_than named c.args.zone.now c.args.prefix.now (keys_of pairs)) c.loop-id.best)
          left c.loop-id.invariant.best);
    }

pub returns : goal.returns
returns c =
    let entries = c.args.endpoints.now.entries in
    let named = c.args.named.now.entries in
    all_looked_at entries named c.args.zone.now c.args.prefix.now c.loop-id.best
    (subst (λ pairs. IsBestGateway entries named
    (is_other_than named c.args.zone.now c.args.prefix.now (keys_of pairs)) c.loop-id.best)
    c.in-None.ensures.steps.0 c.loop-id.invariant.best)
