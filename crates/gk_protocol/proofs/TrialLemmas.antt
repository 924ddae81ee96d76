-- The text of a report, written from its beginning; and what may be answered to a trial, by its
-- steps.
use Rattle.std.proofs.Common.{◌≡◌, ◌⊎◌, Bool, true, List, ℕ, [], ◌++◌, refl, sym, ap, subst, ◌∙◌, inl, inr}
use Rattle.std.specs.Prelude.{Result, Ok, MatchBool}
use Rattle.gk_commands.specs.declared.faults.LineFault.{LineFault}
use Rattle.gk_commands.specs.Configuration.{Configuration}
use Rattle.gk_commands.specs.Reading.{reading_in}
use Rattle.call_rows.specs.Rows.{SnapshotParts}
use Rattle.gk_protocol.specs.declared.answers.Answer.{Answer}
use Rattle.gk_protocol.specs.declared.answers.Answer.TheVariants.{TryRefused}
use Rattle.gk_protocol.specs.declared.answers.TrialRefusal.{TrialRefusal}
use Rattle.gk_protocol.specs.declared.answers.TrialRefusal.TheVariants as trial
use Rattle.gk_protocol.specs.Requests.{trial_without_memory}
use Rattle.gk_protocol.specs.Answering.{MayLackMemory, are_workers, IsNoTrial, TriesOn, TriesBy, MayTry}

-- what was added to nothing is the text
pub text_written : (before after result text : List ℕ) → before ≡ [] → after ≡ before ++ text
    → result ≡ after → result ≡ text
text_written before after result text empty added same =
    same ∙ added ∙ ap (λ front. front ++ text) empty

-- ---- the steps of a trial, whoever answers
module _ {S : Type 0} (MayShow : S → SnapshotParts → Type 0) (s : S) (sequence workers : ℕ)
    (lines : List (List ℕ)) where
  -- what may be answered, if there may be so many workers or not, by what was read
  abbrev TriesIf : Bool → Result Configuration LineFault → Answer → Type 0
  TriesIf may read answer =
      MatchBool may
      (TriesBy MayShow s sequence read answer
      ⊎ ((answer ≡ trial_without_memory sequence) × MayLackMemory lines))
      (answer ≡ TryRefused sequence trial.BadWorkers)

  -- why there are no tables is an answer
  pub refused_trial : (reason : TrialRefusal) → IsNoTrial workers lines reason
      → MayTry MayShow s sequence workers lines (TryRefused sequence reason)
  refused_trial trial.BadWorkers too_many =
      subst
      (λ may. TriesIf may (reading_in lines) (TryRefused sequence trial.BadWorkers))
      (sym too_many) refl
  refused_trial (trial.Misconfigured fault) (enough, faulty) =
      subst
      (λ may. TriesIf may (reading_in lines) (TryRefused sequence (trial.Misconfigured fault)))
      (sym enough)
      (inl (subst
      (λ read. TriesBy MayShow s sequence read (TryRefused sequence (trial.Misconfigured fault)))
      (sym faulty) refl))
  refused_trial trial.NoThread impossible = absurd impossible
  refused_trial trial.NoMemory (enough, lacking) =
      subst
      (λ may. TriesIf may (reading_in lines) (TryRefused sequence trial.NoMemory))
      (sym enough) (inr (refl, lacking))

  module _ (configuration : Configuration) (enough : are_workers workers ≡ true)
      (read : reading_in lines ≡ Ok configuration) where
    -- once there are tables, memory may run out
    pub lacking_trial : MayTry MayShow s sequence workers lines (trial_without_memory sequence)
    lacking_trial =
        subst (λ may. TriesIf may (reading_in lines) (trial_without_memory sequence)) (sym enough)
        (inr (refl, inr (configuration, read)))

    -- what is answered on what the trial may be of is an answer
    pub tried_on : (shown : SnapshotParts) (answer : Answer) → MayShow s shown
        → TriesOn sequence shown configuration answer
        → MayTry MayShow s sequence workers lines answer
    tried_on shown answer may (inl reported) =
        subst (λ b. TriesIf b (reading_in lines) answer) (sym enough)
        (inl (subst (λ r. TriesBy MayShow s sequence r answer) (sym read)
        (inl (shown, may, reported))))
    tried_on shown answer may (inr (inl not_started)) =
        subst (λ b. TriesIf b (reading_in lines) answer) (sym enough)
        (inl (subst (λ r. TriesBy MayShow s sequence r answer) (sym read) (inr not_started)))
    tried_on shown answer may (inr (inr lacking)) =
        subst (λ b. TriesIf b (reading_in lines) answer) (sym enough)
        (inr (lacking, inr (configuration, read)))
