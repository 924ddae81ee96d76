use Rattle.std.proofs.Common.{◌≡◌, Bool, refl, ap, ◌∙◌, rules}
use Rattle.std.specs.Prelude.{Option, Some, None, bytes_eq}
use Rattle.std.specs.Map.{lookup}
use Rattle.std.proofs.lemmas.Cmp.{nat_list_eq_equiv}
use Rattle.std.proofs.lemmas.Map.Entries.{lookup-filter-values, option_filter}
use Rattle.std.proofs.lemmas.Map.Made.{filter_same_pairs}
use Rattle.bandwidth.specs.Named.{that_has_calls}
use Rattle.bandwidth.proofs.named.let_go.Goals as goal

as_filtered : {V : Type 0} (has_calls : V → Bool) (found : Option V)
    → option_filter has_calls found ≡ that_has_calls has_calls found
as_filtered has_calls None = refl
as_filtered has_calls (Some value) = refl

pub returns : goal.returns
returns g c name =
    let has_calls = g.V.Tally.has_calls in
    let kept = filter_same_pairs _ (λ e. has_calls e.1) _ (λ k v b w f t. search rules) _ _
    c.retain.ensures.filtered in
    ap (lookup (bytes_eq name)) kept
    ∙ lookup-filter-values nat_list_eq_equiv has_calls name c.args.map.now.entries
    c.retain.ensures.was_unique
    ∙ as_filtered has_calls (lookup (bytes_eq name) c.args.map.now.entries)
