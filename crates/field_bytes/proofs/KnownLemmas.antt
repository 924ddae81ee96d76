-- What is known to begin with a name begins with a text, which is one.
use Rattle.std.proofs.Common.{◌≡◌, ℕ, Bool, true, false, List, Option, Some, None, refl, ap, ◌∙◌, subst}
use Rattle.std.specs.Prelude.{IsSome}
use Rattle.std.specs.Bool.{then_some}
use Rattle.gk_terms.specs.Name.{IsName, is_name, name_of}
use Rattle.field_bytes.specs.Fields.{◌>>=◌, name_in, text_in}

abbrev Text : Type 0
Text = List ℕ × List ℕ

-- a name, if the text that was read is one
abbrev named : Option Text → Option Text
named read = read >>= λ t. name_of t.0 >>= λ x. Some (x, t.1)

abbrev named_by : Bool → Text → Option Text
named_by passes t = then_some passes t.0 >>= λ x. Some (x, t.1)

pub text_there : (bytes : List ℕ) → IsSome (name_in bytes) → text_in bytes ≡ None → ⊥
text_there bytes known none =
    let impossible : IsSome (named None) = subst (λ read. IsSome (named read)) none known in
    let never : ⊥ = cc in never

-- the text is a name, and is what is read
pub record IsKnown (bytes : List ℕ) (t : Text) : Type 0 where
  pub name : IsName t.0
  pub read : name_in bytes ≡ Some t

of_text : (t : Text) (passes : Bool) → is_name t.0 ≡ passes → IsSome (named_by passes t)
    → (is_name t.0 ≡ true) × (named_by passes t ≡ Some t)
of_text t true is known = (is, refl)
of_text t false is known = let never : ⊥ = cc in absurd never

pub name_known : (bytes text rest : List ℕ) → IsSome (name_in bytes)
    → text_in bytes ≡ Some (text, rest) → IsKnown bytes (text, rest)
name_known bytes text rest known is =
    let some : IsSome (named (Some (text, rest))) = subst (λ read. IsSome (named read)) is known in
    let both = of_text (text, rest) (is_name text) refl some in
    record {
      name = both.0;
      read = ap named is ∙ both.1;
    }
