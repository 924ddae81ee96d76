-- A file of endpoints, line by line.
use Rattle.std.proofs.Common.{◌≡◌, ◌⊎◌, ℕ, ◌+◌, ◌<◌, ◌≤◌, List, [], ◌∷◌, ◌++◌, length, refl, sym, ap, subst, ◌∙◌, append_assoc, append-nil, length-append, inl, inr, ⊎_elim, arith}
use Rattle.std.specs.Prelude.{min, Ok, Err}
use Rattle.std.proofs.lemmas.Bool.{cases_lt}
use Rattle.std.proofs.Math.Nat.{min-eq_left, min-eq_right}
use Rattle.gk_commands.specs.declared.commands.Command.{Command}
use Rattle.registry.specs.Registration.{RegistryParts}
use Rattle.gk_protocol.specs.declared.endpoint_files.EndpointsFault.{EndpointsFault}
use Rattle.gk_protocol.specs.declared.endpoint_files.EndpointsFaultKind.{EndpointsFaultKind}
use Rattle.gk_protocol.specs.declared.endpoint_files.EndpointsFaultKind.TheVariants.{NoMemory}
use Rattle.gk_protocol.specs.EndpointFiles.{line_added, lines_added, added_then, number_after, fault_after, no_endpoints, endpoints_in, MayLackMemory, ReadsEndpoints}

-- a count that stops at the greatest number of 32 bits
pub counted_on : (passed line : ℕ) → line ≡ min passed 4294967295
    → min (line + 1) 4294967295 ≡ number_after passed
counted_on passed line is =
    ⊎_elim
    (λ (over : 4294967295 < passed).
    ap (λ n. min (n + 1) 4294967295) (is ∙ min-eq_right (omega (arith, over)))
    ∙ sym (min-eq_right (omega (arith, over))))
    (λ (within : passed ≤ 4294967295). ap (λ n. min (n + 1) 4294967295) (is ∙ min-eq_left within))
    (cases_lt 4294967295 passed)

-- the lines so far were added, and the others remain
pub record AreAddedSoFar (commands : List Command) (whole rest : List (List ℕ)) (line : ℕ)
    (r : RegistryParts) : Type 0 where
  pub front : List (List ℕ)
  pub split : whole ≡ front ++ rest
  pub counted : line ≡ min (length front) 4294967295
  pub goes_on : (more : List (List ℕ)) → endpoints_in commands (front ++ more)
      ≡ lines_added commands (length front) r more

pub none_added : (commands : List Command) (whole : List (List ℕ))
    → AreAddedSoFar commands whole whole 0 no_endpoints
none_added commands whole = record {
  front = [];
  split = refl;
  counted = refl;
  goes_on = λ more. refl;
}

module _ (commands : List Command) (whole rest : List (List ℕ)) (line : ℕ) (r : RegistryParts)
    (u : AreAddedSoFar commands whole rest line r) where
  -- at the end
  pub all_added : rest ≡ [] → endpoints_in commands whole ≡ Ok r
  all_added none =
      ap (endpoints_in commands) (u.split ∙ ap (λ t. u.front ++ t) none) ∙ u.goes_on []

  module _ (text : List ℕ) (others : List (List ℕ)) (next : rest ≡ text ∷ others) where
    -- the next line as a line of the whole
    next_split : whole ≡ u.front ++ text ∷ others
    next_split = u.split ∙ ap (λ t. u.front ++ t) next

    -- one line more
    pub one_added : (new : RegistryParts) → line_added commands r text ≡ Ok new
        → AreAddedSoFar commands whole others (min (line + 1) 4294967295) new
    one_added new is = record {
      front = u.front ++ text ∷ [];
      split = next_split ∙ sym (append_assoc u.front (text ∷ []) others);
      counted = counted_on (length u.front) line u.counted
          ∙ ap (λ n. min n 4294967295) (sym (length-append u.front (text ∷ [])));
      goes_on = λ more.
          ap (endpoints_in commands) (append_assoc u.front (text ∷ []) more)
          ∙ u.goes_on (text ∷ more)
          ∙ ap (added_then (length u.front)
          (λ now. lines_added commands (length u.front + 1) now more)) is
          ∙ ap (λ n. lines_added commands n new more) (sym (length-append u.front (text ∷ [])));
    }

    -- a fault
    pub one_refused : (fault : EndpointsFault) → fault.line ≡ min (line + 1) 4294967295
        → (line_added commands r text ≡ Err fault.kind)
        ⊎ ((fault.kind ≡ NoMemory) × MayLackMemory commands r text)
        → ReadsEndpoints commands whole (Err fault)
    one_refused fault at_line why =
        subst
        (λ (n : ℕ). ReadsEndpoints commands whole
        (Err (record { line = n; kind = fault.kind })))
        (sym at_line) (refused_here fault.kind why)
      where
        refused_here : (kind : EndpointsFaultKind)
            → (line_added commands r text ≡ Err kind)
            ⊎ ((kind ≡ NoMemory) × MayLackMemory commands r text)
            → ReadsEndpoints commands whole
            (Err (record { line = min (line + 1) 4294967295; kind = kind }))
        refused_here kind (inl is) =
            inl
            (ap (endpoints_in commands) next_split ∙ u.goes_on (text ∷ others)
            ∙ ap (added_then (length u.front)
            (λ now. lines_added commands (length u.front + 1) now others)) is
            ∙ ap (λ n. Err (record { line = n; kind = kind }))
            (sym (counted_on (length u.front) line u.counted)))
        refused_here kind (inr lacking) =
            inr (record {
              front = u.front;
              line = text;
              rest = others;
              split = next_split;
              before = r;
              read = ap (endpoints_in commands) (sym (append-nil u.front)) ∙ u.goes_on [];
              lacks = lacking.1;
              is = ap (λ n. record { line = n; kind = kind })
                  (counted_on (length u.front) line u.counted)
                  ∙ ap (fault_after (length u.front)) lacking.0;
            })
