-- Texts that are held in an array: the text, and zeros after it.
use Rattle.std.specs.Prelude.{◌≡◌, ℕ, ◌-◌, ◌≤◌, Bool, ◌&&◌, IsTrue, nat_le, List, ◌++◌, length, take, replicate}
use Rattle.std.specs.List.{list_all}
use Rattle.std.proofs.Common.{sym, arith, length-take-le}

-- from ! to ~: neither a blank nor a control byte, and ASCII
abbrev pub is_visible : ℕ → Bool
is_visible b = nat_le 0x21 b && nat_le b 0x7E

-- each of its bytes is visible
abbrev pub IsVisible : List ℕ → Type 0
IsVisible text = IsTrue (list_all is_visible text)

-- the text, filled up with zeros to a size
abbrev pub padded : ℕ → List ℕ → List ℕ
padded size text = text ++ replicate (size - length text) 0

-- so many bytes of the array are a visible text, and zeros follow them to the array's end
pub record Holds (size : ℕ) (bytes : List ℕ) (len : ℕ) : Type 0 where
  pub filled : length bytes ≡ size
  pub fits : len ≤ size
  pub zeros : bytes ≡ padded size (take len bytes)
  pub visible : IsVisible (take len bytes)

-- an array that holds a text is that text, padded again
pub padded-take : (size : ℕ) (bytes : List ℕ) (len : ℕ)
    → Holds size bytes len → padded size (take len bytes) ≡ bytes
padded-take size bytes len h = sym h.zeros

-- the length of the text that an array holds
pub length-take-held : (size : ℕ) (bytes : List ℕ) (len : ℕ)
    → Holds size bytes len → length (take len bytes) ≡ len
length-take-held size bytes len h =
    let within : len ≤ length bytes = omega (arith, h.filled, h.fits) in
    length-take-le len bytes within
