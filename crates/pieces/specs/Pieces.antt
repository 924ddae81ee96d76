-- What a contract sees of a list in pieces.
use Rattle.std.specs.Prelude.{ℕ, List, refl}
use Rattle.std.specs.Coded.{Coded, code_by, coded×, coded_ℕ, coded_list}

-- the items in order, and for how many further ones there is room without memory
pub record PiecesParts (T : Type 0) : Type 0 where
  pub items : List T
  pub room : ℕ

-- they are stored as a pair
abbrev pub pieces_code : {T : Type 0} → Coded T → Coded (PiecesParts T)
pieces_code {T} code =
    code_by
    (List T × ℕ)
    (coded× (coded_list code) coded_ℕ)
    (λ p. (p.items, p.room))
    (λ p. record { items = p.0; room = p.1 })
    (λ _. refl)
