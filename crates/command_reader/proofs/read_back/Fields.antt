-- What was read of a field, from the reading of a line that came through.
use Rattle.std.proofs.Common.{◌≡◌, ℕ, ◌≤◌, Bool, true, false, cond, List, [], ◌∷◌, length, Option, Some, None, Result, Ok, Err, refl, sym, ap, subst, ◌∙◌, arith}
use Rattle.std.specs.Prelude.{bytes_eq, ◌&&◌, nat_le}
use Rattle.std.specs.Option.{ok_or}
use Rattle.std.specs.List.{list_all}
use Rattle.std.specs.Cmp.Lexicographic.{same_text}
use Rattle.std.proofs.lemmas.Bool.{and_parts, leb-true}
use Rattle.gk_terms.specs.Name.{is_name, name_of}
use Rattle.gk_terms.specs.Spelling.{is_visible}
use Rattle.gk_commands.specs.declared.faults.FaultKind.{FaultKind}
use Rattle.gk_commands.specs.declared.faults.FaultKind.TheVariants.{Unsupported, Extra}
use Rattle.gk_terms.specs.Fields.{◌>>=◌, with_rest}
use Rattle.gk_commands.specs.Fields.{is_one_of, value_but, field_but, nothing_more_but}
use Rattle.gk_commands.specs.Accepted.{is_word}
use Rattle.command_reader.proofs.read_back.Words.{word_from}
use Rattle.command_reader.proofs.read_back.Numbers.{then_some-parts}

-- a step that came through, and what it came from
pub record IsBound {A B : Type 0} (first : Result A FaultKind) (f : A → Result B FaultKind) (z : B)
    : Type 0 where
  pub value : A
  pub read : first ≡ Ok value
  pub next : f value ≡ Ok z

pub bound : {A B : Type 0} (first : Result A FaultKind) (f : A → Result B FaultKind) (z : B) → first
    >>= f ≡ Ok z → IsBound first f z
bound (Ok x) f z h = record { value = x; read = refl; next = h }
bound (Err kind) f z h = absurd (let no : ⊥ = cc in no)

-- a step whose first part is known
pub bind_at : {A B : Type 0} (first : Result A FaultKind) (f : A → Result B FaultKind) (x : A) →
    first ≡ Ok x → first >>= f ≡ f x
bind_at first f x h = ap (λ r. r >>= f) h

-- a choice that came through, by its test
pub chosen : {X P : Type 0} (b : Bool) (x y z : X) → cond b x y ≡ z → (b ≡ true → x ≡ z → P) →
    (b ≡ false → y ≡ z → P) → P
chosen true x y z h f g = f refl h
chosen false x y z h f g = g refl h

-- the same text
pub same_word : (word other : List ℕ) → bytes_eq word other ≡ true → word ≡ other
same_word word other h = same_text word other (sym h)

pub ok_or-some : {A : Type 0} (o : Option A) (kind : FaultKind) (x : A) → ok_or o kind ≡ Ok x → o ≡
    Some x
ok_or-some (Some y) kind x h = cc
ok_or-some None kind x h = absurd (let no : ⊥ = cc in no)

-- a word that was read in its place
pub record IsRead {A : Type 0} (left_out : List (List ℕ)) (read : List ℕ → Option A) (word : List ℕ)
    (x : A) : Type 0 where
  pub kept : is_one_of left_out word ≡ false
  pub spelled : read word ≡ Some x

pub value_read : {A : Type 0} (left_out : List (List ℕ)) (read : List ℕ → Option A)
    (kind : FaultKind) (word : List ℕ) (x : A)
    → value_but left_out read kind word ≡ Ok x → IsRead left_out read word x
value_read left_out read kind word x h = by (is_one_of left_out word) refl h
  where
    by : (b : Bool) → is_one_of left_out word ≡ b → cond b (Err Unsupported)
        (ok_or (read word) kind) ≡ Ok x → IsRead left_out read word x
    by true e f = absurd (let no : ⊥ = cc in no)
    by false e f = record { kept = e; spelled = ok_or-some (read word) kind x f }

-- and it reads again
pub value_again : {A : Type 0} (left_out : List (List ℕ)) (read : List ℕ → Option A)
    (kind : FaultKind) (word : List ℕ) (x : A)
    → IsRead left_out read word x → value_but left_out read kind word ≡ Ok x
value_again left_out read kind word x r =
    ap (λ b. cond b (Err Unsupported) (ok_or (read word) kind)) r.kept ∙ ap (λ o. ok_or o kind)
    r.spelled

-- a field that was read, with the words after it
pub record IsField {A : Type 0} (left_out : List (List ℕ)) (read : List ℕ → Option A)
    (words : List (List ℕ)) (x : A × List (List ℕ)) : Type 0 where
  pub word : List ℕ
  pub whole : words ≡ word ∷ x.1
  pub taken : IsRead left_out read word x.0

pub field_read : {A : Type 0} (left_out : List (List ℕ)) (read : List ℕ → Option A)
    (kind : FaultKind) (words : List (List ℕ)) (x : A × List (List ℕ))
    → field_but left_out read kind words ≡ Ok x → IsField left_out read words x
field_read left_out read kind [] x h = absurd (let no : ⊥ = cc in no)
field_read {A} left_out read kind (word ∷ words) x h =
    let b = bound (value_but left_out read kind word) (with_rest words) x h in
    let pair : (b.value, words) ≡ x = cc in
    record {
      word = word;
      whole = ap (λ (p : A × List (List ℕ)). word ∷ p.1) pair;
      taken = subst (λ (p : A × List (List ℕ)). IsRead left_out read word p.0) pair
          (value_read left_out read kind word b.value b.read);
    }

pub field_again : {A : Type 0} (left_out : List (List ℕ)) (read : List ℕ → Option A)
    (kind : FaultKind) (word : List ℕ) (words : List (List ℕ)) (x : A)
    → IsRead left_out read word x → field_but left_out read kind (word ∷ words) ≡ Ok (x, words)
field_again left_out read kind word words x r = ap (λ v. v >>= with_rest words)
    (value_again left_out read kind word x r)

-- the end of a line that was reached
pub record IsEnded {A : Type 0} (x : A) (words : List (List ℕ)) (z : A) : Type 0 where
  pub none : words ≡ []
  pub same : x ≡ z

pub nothing_more_read : {A : Type 0} (left_out : List (List ℕ)) (x : A) (words : List (List ℕ))
    (z : A) → nothing_more_but left_out x words ≡ Ok z → IsEnded x words z
nothing_more_read left_out x [] z h = record { none = refl; same = cc }
nothing_more_read {A} left_out x (word ∷ words) z h = by (is_one_of left_out word) h
  where
    by : (b : Bool) → cond {A = Result A FaultKind} b (Err Unsupported) (Err Extra) ≡ Ok z → IsEnded
        x (word ∷ words) z
    by true f = absurd (let no : ⊥ = cc in no)
    by false f = absurd (let no : ⊥ = cc in no)

-- ---- names
-- a name: a word of at most 128 bytes
pub record IsNamed (name : List ℕ) : Type 0 where
  pub solid : is_word name ≡ true
  pub short : length name ≤ 128
  pub spelled : name_of name ≡ Some name

-- a name that was read: the word itself
pub record IsNameOf (word name : List ℕ) : Type 0 where
  pub same : name ≡ word
  pub is : IsNamed name

pub name_read : (word name : List ℕ) → name_of word ≡ Some name → IsNameOf word name
name_read word name h =
    let t = then_some-parts (is_name word) word name h in
    let same : name ≡ word = sym t.1 in
    let p = and_parts (nat_le 1 (length word) && nat_le (length word) 128)
    (list_all is_visible word) t.0 in
    let q = and_parts (nat_le 1 (length word)) (nat_le (length word) 128) p.0 in
    record {
      same = same;
      is = record {
        solid = ap is_word same ∙ word_from word (omega (arith, leb-true _ _ q.0)) p.1;
        short = subst (λ text. length text ≤ 128) t.1 (leb-true _ _ q.1);
        spelled = ap name_of same ∙ h;
      };
    }
