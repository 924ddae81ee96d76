-- The limits that a call is held against: of the sums that are tried, those that have one.
use Rattle.std.proofs.Common.{◌≡◌, ℕ, ◌+◌, Bool, true, false, not, map, List, [], ◌∷◌, ◌++◌, Some, None, refl, sym, ap, ◌∙◌, append-nil}
use Rattle.std.specs.Prelude.{Option, bytes_eq, if◌then◌else◌}
use Rattle.std.specs.List.{cons_option, filter_map}
use Rattle.std.specs.Option.{option_to_list}
use Rattle.std.proofs.lemmas.List.Elements.{filter_map-append}
use Rattle.gk_commands.specs.declared.commands.Command.{Command}
use Rattle.gk_commands.specs.declared.commands.LimitKind.{LimitKind}
use Rattle.gk_commands.specs.declared.commands.LimitKind.TheVariants.{Session, Total, Interzone}
use Rattle.compiler.specs.Limit.{limit_of}
use Rattle.bandwidth.specs.declared.open_call.OpenCall.{OpenCall}
use Rattle.bandwidth.specs.declared.over.Over.TheVariants as overs
use Rattle.bandwidth.specs.Fits.{Try, remote_try, tries_of_kind}
use Rattle.bandwidth.specs.Use.{interzone_of, total_of}
use Rattle.explanation.specs.declared.steps.HeldLimit.{HeldLimit}
use Rattle.explanation.specs.HeldLimits.{between, of_kind, remotely}
use Rattle.explanation.specs.Steps.{held_between, held_in}

cons_is : {X : Type 0} (o : Option X) (xs : List X) → cons_option o xs ≡ option_to_list o ++ xs
cons_is None xs = refl
cons_is (Some x) xs = refl

-- one limit, or two
one_is : (t : Try) → filter_map held_in (t ∷ []) ≡ option_to_list (held_in t) ++ []
one_is t = cons_is (held_in t) []

two_are : (t u : Try)
    → filter_map held_in (t ∷ u ∷ []) ≡ option_to_list (held_in t) ++ option_to_list (held_in u)
two_are t u =
    cons_is (held_in t) (cons_option (held_in u) [])
    ∙ ap (λ xs. option_to_list (held_in t) ++ xs) (cons_is (held_in u) [] ∙ append-nil _)

module _ (commands : List Command) (caller zone : List ℕ) (is_remote : Bool) where
  abbrev call : OpenCall
  call = record {
    number = 0;
    units = 0;
    remote = is_remote;
    owner = [];
    source = Some caller;
    target = zone;
    answerer = None;
  }

  -- the limits of a kind
  kind_is : (kind : LimitKind) (sum : List ℕ → ℕ)
      → filter_map held_in (tries_of_kind commands kind sum call)
      ≡ of_kind commands kind caller zone
  kind_is kind sum = by (bytes_eq caller zone)
    where
      try : List ℕ → Try
      try name = record {
        sum = sum name;
        limit = limit_of commands kind name;
        over = overs.Zone kind name;
      }

      by : (b : Bool)
          → filter_map held_in
          (map try (if b then caller ∷ [] else caller ∷ zone ∷ []))
          ≡ option_to_list (held_in (try caller))
          ++ (if b then [] else option_to_list (held_in (try zone)))
      by true = one_is (try caller)
      by false = two_are (try caller) (try zone)

  -- the interzone limits
  between_is : (b : Bool) (xs : List Try) (ys : List HeldLimit) → filter_map held_in xs ≡ ys
      → filter_map held_in (if not b then xs else []) ≡ (if b then [] else ys)
  between_is true xs ys e = refl
  between_is false xs ys e = e

  -- the limit of all calls to and from other gatekeepers
  remote_is : (b : Bool) (t : Try)
      → filter_map held_in (if b then t ∷ [] else [])
      ≡ (if b then option_to_list (held_in t) else [])
  remote_is true t = one_is t ∙ append-nil _
  remote_is false t = refl

  held_is : held_between commands caller zone is_remote
      ≡ of_kind commands Session caller zone ++ of_kind commands Total caller zone
      ++ between commands caller zone ++ remotely commands is_remote
  held_is =
      let session = tries_of_kind commands Session (λ name. call.units) call in
      let total = tries_of_kind commands Total (λ name. total_of [] name + call.units) call in
      let interzone = tries_of_kind commands Interzone (λ name. interzone_of [] name + call.units)
      call in
      let if_between = if not (bytes_eq caller zone) then interzone else [] in
      let if_remote = if is_remote then remote_try commands [] call ∷ [] else [] in
      let both = of_kind commands Session caller zone ++ of_kind commands Total caller zone in
      filter_map-append held_in (session ++ total ++ if_between) if_remote
      ∙ ap (λ xs. xs ++ filter_map held_in if_remote)
      (filter_map-append held_in (session ++ total) if_between
      ∙ ap (λ xs. xs ++ filter_map held_in if_between)
      (filter_map-append held_in session total
      ∙ ap (λ xs. xs ++ filter_map held_in total) (kind_is Session (λ name. call.units))
      ∙ ap (λ xs. of_kind commands Session caller zone ++ xs)
      (kind_is Total (λ name. total_of [] name + call.units)))
      ∙ ap (λ xs. both ++ xs)
      (between_is (bytes_eq caller zone) interzone (of_kind commands Interzone caller zone)
      (kind_is Interzone (λ name. interzone_of [] name + call.units))))
      ∙ ap (λ xs. both ++ between commands caller zone ++ xs)
      (remote_is is_remote (remote_try commands [] call))

  -- what is added kind by kind
  pub held_all : (none one two three four : List HeldLimit) → none ≡ []
      → one ≡ none ++ of_kind commands Session caller zone
      → two ≡ one ++ of_kind commands Total caller zone
      → three ≡ two ++ between commands caller zone → four ≡ three ++ remotely commands is_remote
      → four ≡ held_between commands caller zone is_remote
  held_all none one two three four is_none is_one is_two is_three is_four =
      is_four
      ∙ ap (λ l. l ++ remotely commands is_remote)
      (is_three ∙ ap (λ l. l ++ between commands caller zone)
      (is_two ∙ ap (λ l. l ++ of_kind commands Total caller zone)
      (is_one ∙ ap (λ l. l ++ of_kind commands Session caller zone) is_none)))
      ∙ sym held_is
