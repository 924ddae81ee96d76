-- What a contract sees of a log, and of the pieces that it is made of.
use Rattle.std.specs.Prelude.{ℕ, Bool, true, false, List, refl}
use Rattle.std.specs.Coded.{Coded, code_by, coded×, coded_ℕ, coded_list}

-- of a log: the items in order; for how many further short ones there is room without memory; and
-- how many bytes the next one may have, if it is longer than a piece
pub record LogParts : Type 0 where
  pub items : List (List ℕ)
  pub room : ℕ
  pub longest : ℕ

-- of a piece: its items, and for how many further ones there is room
pub record PieceParts (T : Type 0) : Type 0 where
  pub items : List T
  pub room : ℕ

-- what is written, for so many further items, or what was closed
abbrev pub piece_of : {T : Type 0} → Bool → List T → ℕ → List T → PieceParts T
piece_of false written room closed = record { items = written; room = room }
piece_of true written room closed = record { items = closed; room = 0 }

-- it is stored as a pair
abbrev pub piece_code : {T : Type 0} → Coded T → Coded (PieceParts T)
piece_code {T} code =
    code_by
    (List T × ℕ)
    (coded× (coded_list code) coded_ℕ)
    (λ p. (p.items, p.room))
    (λ p. record { items = p.0; room = p.1 })
    (λ _. refl)

-- of a list of pieces: the items of each piece; how many empty pieces are kept ready; for how many
-- items the next of them has room, 0 if there is none; and for how many each piece has room at
-- least
pub record ListParts (T : Type 0) : Type 0 where
  pub pieces : List (List T)
  pub spare : ℕ
  pub next : ℕ
  pub size : ℕ

-- it is stored as a tuple
abbrev pub list_code : {T : Type 0} → Coded T → Coded (ListParts T)
list_code {T} code =
    code_by
    (List (List T) × (ℕ × (ℕ × ℕ)))
    (coded× (coded_list (coded_list code)) (coded× coded_ℕ (coded× coded_ℕ coded_ℕ)))
    (λ l. (l.pieces, (l.spare, (l.next, l.size))))
    (λ l. record { pieces = l.0; spare = l.1.0; next = l.1.1.0; size = l.1.1.1 })
    (λ _. refl)
