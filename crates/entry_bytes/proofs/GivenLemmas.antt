-- Aliases and technology prefixes that an endpoint is given, one after the other.
use Rattle.std.proofs.Common.{◌≡◌, ◌<◌, ℕ, Bool, false, cond, List, [], ◌∷◌, ◌++◌, length, nat_le, sym, ap, ◌∙◌}
use Rattle.std.specs.Prelude.{Result, Ok, Err}
use Rattle.std.proofs.lemmas.Bool.{lt-leb}
use Rattle.gk_terms.specs.declared.limits.TheConstants.{MOST_ALIASES, MOST_TECHNOLOGIES}
use Rattle.registry.specs.Endpoint.{EndpointParts, has_alias, has_technology, with_alias, with_technology}
use Rattle.registry.specs.declared.faults.RegistryFault.{RegistryFault}
use Rattle.registry.specs.declared.faults.RegistryFault.TheVariants.{TooMany}

-- ---- one more
pub alias_given : (e : EndpointParts) (alias : List ℕ) → has_alias e alias ≡ false
    → length e.aliases < MOST_ALIASES
    → with_alias e alias ≡ Ok (record e { aliases = e.aliases ++ alias ∷ [] })
alias_given e alias free room =
    let more : Result EndpointParts RegistryFault =
    Ok (record e { aliases = e.aliases ++ alias ∷ [] }) in
    ap
    (λ (b : Bool).
    cond b (Ok e) (cond (nat_le MOST_ALIASES (length e.aliases)) (Err TooMany) more)) free
    ∙ ap (λ (b : Bool). cond b (Err TooMany) more) (lt-leb MOST_ALIASES (length e.aliases) room)

pub technology_given : (e : EndpointParts) (prefix : List ℕ) → has_technology e prefix ≡ false
    → length e.technologies < MOST_TECHNOLOGIES
    → with_technology e prefix ≡ Ok (record e { technologies = e.technologies ++ prefix ∷ [] })
technology_given e prefix free room =
    let more : Result EndpointParts RegistryFault =
    Ok (record e { technologies = e.technologies ++ prefix ∷ [] }) in
    ap
    (λ (b : Bool).
    cond b (Ok e) (cond (nat_le MOST_TECHNOLOGIES (length e.technologies)) (Err TooMany) more))
    free
    ∙ ap (λ (b : Bool). cond b (Err TooMany) more)
    (lt-leb MOST_TECHNOLOGIES (length e.technologies) room)

-- ---- nothing else changes
abbrev pub with_aliases : EndpointParts → List (List ℕ) → EndpointParts
with_aliases e aliases = record e { aliases = aliases }

pub aliases_alone : (old now new : EndpointParts) (aliases : List (List ℕ))
    → now ≡ with_aliases old now.aliases → new ≡ with_aliases now aliases
    → new ≡ with_aliases old new.aliases
aliases_alone old now new aliases so_far next =
    next ∙ ap (λ e. with_aliases e aliases) so_far
    ∙ ap (with_aliases old) (sym (ap (λ e. e.aliases) next))

abbrev pub with_technologies : EndpointParts → List (List ℕ) → EndpointParts
with_technologies e prefixes = record e { technologies = prefixes }

pub technologies_alone : (old now new : EndpointParts) (prefixes : List (List ℕ))
    → now ≡ with_technologies old now.technologies → new ≡ with_technologies now prefixes
    → new ≡ with_technologies old new.technologies
technologies_alone old now new prefixes so_far next =
    next ∙ ap (λ e. with_technologies e prefixes) so_far
    ∙ ap (with_technologies old) (sym (ap (λ e. e.technologies) next))
