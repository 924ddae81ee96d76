-- Rows that wait for a writer, and what it has taken of them.
use Rattle.std.proofs.Common.{◌≡◌, ℕ, List, [], ◌++◌, refl, sym, ap, subst, ◌∙◌, append_assoc}
use Rattle.std.specs.Prelude.{Option, Result, Ok, Err, OnOk, OnErr}
use Rattle.std.specs.Io.KnownBytes.{Appends}
use Rattle.gk_lines.specs.Streams.{AppendsFront, AppendsUpTo}
use Rattle.gk_lines.proofs.StreamLemmas.{appends_more, appends_nothing}

-- nothing was taken
pub nothing_taken : (known : Option (List ℕ)) (bytes : List ℕ) → AppendsFront known known bytes
nothing_taken known bytes = (bytes, ([], refl, appends_nothing known))

-- what holds anyway, if there is a fault
pub at_fault : {A E : Type 0} (r : Result A E) (P : Type 0) → P → OnErr r P
at_fault (Ok x) P h = tt
at_fault (Err fault) P h = h

-- the same of a text that is equal
pub front_of_same : {A E : Type 0} (r : Result A E) (old new : Option (List ℕ)) (bytes same : List ℕ)
    → bytes ≡ same → OnErr r (AppendsFront old new bytes) → OnErr r (AppendsFront old new same)
front_of_same r old new bytes same e h = subst (λ text. OnErr r (AppendsFront old new text)) e h

-- what waited was sent but for a rest, and so was what waits then
pub up_to_more : (a b c : Option (List ℕ)) (bytes waiting more rest : List ℕ)
    → AppendsUpTo a b bytes waiting → AppendsUpTo b c (waiting ++ more) rest
    → AppendsUpTo a c (bytes ++ more) rest
up_to_more a b c bytes waiting more rest (sent, split, appended) (next, next_split, next_appended) =
    let whole : bytes ++ more ≡ (sent ++ next) ++ rest =
    ap (λ text. text ++ more) split ∙ append_assoc sent waiting more
    ∙ ap (λ text. sent ++ text) next_split ∙ sym (append_assoc sent next rest) in (
      sent ++ next,
      whole,
      appends_more a b c sent next appended next_appended,
    )

-- what waited was sent but for a rest, and a front of what waits then
pub front_of_more : (a b c : Option (List ℕ)) (bytes waiting more : List ℕ)
    → AppendsUpTo a b bytes waiting → AppendsFront b c (waiting ++ more)
    → AppendsFront a c (bytes ++ more)
front_of_more a b c bytes waiting more before (rest, after) =
    (rest, up_to_more a b c bytes waiting more rest before after)

-- all that waited was sent
pub whole_sent : (a b c : Option (List ℕ)) (bytes waiting : List ℕ) → AppendsUpTo a b bytes waiting
    → Appends b c waiting → Appends a c bytes
whole_sent a b c bytes waiting (sent, split, appended) last =
    subst (Appends a c) (sym split) (appends_more a b c sent waiting appended last)

-- and a front of it
pub front_of_rest : (a b c : Option (List ℕ)) (bytes waiting : List ℕ) → AppendsUpTo a b bytes waiting
    → AppendsFront b c waiting → AppendsFront a c bytes
front_of_rest a b c bytes waiting (sent, split, appended) (rest, (front, last_split, last)) =
    let whole : bytes ≡ (sent ++ front) ++ rest =
    split ∙ ap (λ text. sent ++ text) last_split ∙ sym (append_assoc sent front rest) in
    (rest, (sent ++ front, whole, appends_more a b c sent front appended last))

-- a front of a text is one of a longer text
pub front_and_more : (old new : Option (List ℕ)) (bytes more : List ℕ) → AppendsFront old new bytes
    → AppendsFront old new (bytes ++ more)
front_and_more old new bytes more (rest, (front, split, appended)) =
    let whole : bytes ++ more ≡ front ++ (rest ++ more) =
    ap (λ text. text ++ more) split ∙ append_assoc front rest more in
    (rest ++ more, (front, whole, appended))

-- what follows of a call that succeeded, or that had a fault
pub of_success : {A E : Type 0} (r : Result A E) (P Q : Type 0) → (P → Q) → OnOk r P → OnOk r Q
of_success (Ok x) P Q f h = f h
of_success (Err fault) P Q f h = tt

pub of_fault : {A E : Type 0} (r : Result A E) (P Q : Type 0) → (P → Q) → OnErr r P → OnErr r Q
of_fault (Ok x) P Q f h = tt
of_fault (Err fault) P Q f h = f h
