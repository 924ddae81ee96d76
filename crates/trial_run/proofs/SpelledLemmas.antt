-- Routes of the same text are the same: no name has a blank, and numbers are their digits.
use Rattle.std.proofs.Common.{get_or, drop, ◌≡◌, ◌+◌, ◌<◌, ◌≤◌, ◌^◌, ◌==◌, ◌++◌, append-nil, nat_le, inl, inr, ℕ, Bool, true, false, List, [], ◌∷◌, length, refl, ap, sym, ◌∙◌, arith}
use Rattle.std.specs.Prelude.{◌%◌, ◌&&◌, ◌⊎◌, decimal, bytes_eq, codes, flat_map}
use Rattle.std.specs.List.{AllByRecursion, list_all}
use Rattle.std.proofs.lemmas.Bool.{and_parts}
use Rattle.std.proofs.lemmas.Bool.Decides.{nat_tests}
use Rattle.std.proofs.lemmas.Fmt.{decimal_injective, decimal_by_steps}
use Rattle.std.proofs.lemmas.List.Elements.{recursion_from_All}
use Rattle.std.proofs.lemmas.Bool.Decides.{same_from_decides}
use Rattle.std.proofs.lemmas.Slice.Eq.{bytes_eq-Decides}
use Rattle.std.specs.Bool.{Decides}
use Rattle.gk_terms.specs.declared.limits.TheConstants.{MOST_NAME_BYTES}
use Rattle.gk_terms.specs.Spelling.{is_visible}
use Rattle.gk_terms.specs.Name.{IsName}
use Rattle.gk_terms.specs.Address.{AddressParts, ip_text, address_text}
use Rattle.rulings.specs.declared.routes.Destination.TheVariants.{Gateway, Terminal, Zone}
use Rattle.rulings.specs.declared.routes.RouteRefusal.TheVariants.{UnknownPrefix, NoGateway, NoDefault}
use Rattle.rulings.specs.declared.routes.Route.{Route}
use Rattle.rulings.specs.declared.routes.Route.TheVariants.{To, Refused}
use Rattle.rulings.specs.Routes.{route_text}
use Rattle.trial_run.specs.Spelled.{IsPlace, IsSpelled}

-- ---- a text up to its first separator
abbrev Free : ℕ → List ℕ → Type 0
Free mark text = AllByRecursion (λ b. (b ≡ mark) → ⊥) text

first_differs : (b mark : ℕ) (xs ys : List ℕ) → ((b ≡ mark) → ⊥) → b ∷ xs ≡ mark ∷ ys → ⊥
first_differs b mark xs ys free e = free (let is : b ≡ mark = cc in is)

-- two texts that have no separator, each before one
pub parted : (mark : ℕ) (p q x y : List ℕ) → Free mark p → Free mark q
    → p ++ mark ∷ x ≡ q ++ mark ∷ y → (p ≡ q) × (x ≡ y)
parted mark [] [] x y f g e = (refl, let is : x ≡ y = cc in is)
parted mark [] (b ∷ q) x y f g e = absurd (first_differs b mark (q ++ mark ∷ y) x g.0 (sym e))
parted mark (a ∷ p) [] x y f g e = absurd (first_differs a mark (p ++ mark ∷ x) y f.0 e)
parted mark (a ∷ p) (b ∷ q) x y f g e =
    let first : a ≡ b = cc in
    let others : p ++ mark ∷ x ≡ q ++ mark ∷ y = cc in
    let rest = parted mark p q x y f.1 g.1 others in
    (ap (λ n. n ∷ p) first ∙ ap (λ l. b ∷ l) rest.0, rest.1)

free_append : (mark : ℕ) (p q : List ℕ) → Free mark p → Free mark q → Free mark (p ++ q)
free_append mark [] q f g = g
free_append mark (b ∷ p) q f g = (f.0, free_append mark p q f.1 g)

-- ---- digits
abbrev AreDigits : List ℕ → Type 0
AreDigits text = AllByRecursion (λ b. (48 ≤ b) × (b < 58)) text

digits_more : (ds : List ℕ) (b : ℕ) → AreDigits ds → (48 ≤ b) × (b < 58) → AreDigits (ds ++ b ∷ [])
digits_more [] b h own = (own, tt)
digits_more (d ∷ ds) b h own = (h.0, digits_more ds b h.1 own)

last_digit : (n : ℕ) → (48 ≤ 48 + n % 10) × (48 + n % 10 < 58)
last_digit n = (omega arith, omega arith)

digits_of_number : (n : ℕ) → n < 2 ^ 64 → AreDigits (decimal n)
digits_of_number n h =
    decimal_by_steps (λ m ds. AreDigits ds) (λ m small. ((omega arith, omega arith), tt))
    (λ m ds large front. digits_more ds (48 + m % 10) front (last_digit m)) n h

free_digits : (mark : ℕ) (ds : List ℕ) → (mark < 48) ⊎ (57 < mark) → AreDigits ds → Free mark ds
free_digits mark [] apart h = tt
free_digits mark (d ∷ ds) apart h =
    ((λ is. let no : ⊥ = grind (arith, apart, h.0, is) in no), free_digits mark ds apart h.1)

free_number : (mark n : ℕ) → (mark < 48) ⊎ (57 < mark) → n < 2 ^ 64 → Free mark (decimal n)
free_number mark n apart h = free_digits mark (decimal n) apart (digits_of_number n h)

-- ---- names
free_visible : (text : List ℕ) → list_all is_visible text ≡ true → Free 32 text
free_visible [] h = tt
free_visible (b ∷ bs) h =
    let p = and_parts (is_visible b) (list_all is_visible bs) h in
    ((λ is. let no : ⊥ = grind (arith, nat_tests, is) in no), free_visible bs p.1)

free_name : (name : List ℕ) → IsName name → Free 32 name
free_name name h =
    let p = and_parts (nat_le 1 (length name) && nat_le (length name) MOST_NAME_BYTES)
    (list_all is_visible name) h in
    free_visible name p.1

-- ---- addresses
-- a number of at most five digits
small : (n : ℕ) → n < 65536 → n < 2 ^ 64
small n h = omega (arith, h)

abbrev AreOctets : List ℕ → Type 0
AreOctets ip = AllByRecursion (λ octet. octet < 256) ip

abbrev dotted : List ℕ → List ℕ
dotted others = flat_map (λ b. 46 ∷ decimal b) others

free_dotted : (mark : ℕ) (others : List ℕ) → (57 < mark) → AreOctets others
    → Free mark (dotted others)
free_dotted mark [] apart h = tt
free_dotted mark (a ∷ others) apart h = (
  (λ is. let no : ⊥ = omega (arith, apart, is) in no),
  free_append mark (decimal a) (dotted others)
      (free_number mark a (inr apart) (omega (arith, h.0))) (free_dotted mark others apart h.1),
)

-- octets with a dot before each
dotted_same : (xs ys : List ℕ) → length xs ≡ length ys → AreOctets xs → AreOctets ys
    → (a b : ℕ) → a < 256 → b < 256
    → decimal a ++ dotted xs ≡ decimal b ++ dotted ys → a ∷ xs ≡ b ∷ ys
dotted_same [] [] len f g a b low below e =
    ap (λ n. n ∷ [])
    (decimal_injective a b (omega (arith, low)) (omega (arith, below))
    (sym (append-nil (decimal a)) ∙ e ∙ append-nil (decimal b)))
dotted_same [] (y ∷ ys) len f g a b low below e = absurd (let no : ⊥ = omega (arith, len) in no)
dotted_same (x ∷ xs) [] len f g a b low below e = absurd (let no : ⊥ = omega (arith, len) in no)
dotted_same (x ∷ xs) (y ∷ ys) len f g a b low below e =
    let p = parted 46 (decimal a) (decimal b) (decimal x ++ dotted xs) (decimal y ++ dotted ys)
    (free_number 46 a (inl (omega arith)) (omega (arith, low)))
    (free_number 46 b (inl (omega arith)) (omega (arith, below))) e in
    let first = decimal_injective a b (omega (arith, low)) (omega (arith, below)) p.0 in
    let rest = dotted_same xs ys (omega (arith, len)) f.1 g.1 x y f.0 g.0 p.1 in
    ap (λ n. n ∷ x ∷ xs) first ∙ ap (λ l. b ∷ l) rest

free_ip : (ip : List ℕ) → AreOctets ip → Free 58 (ip_text ip)
free_ip [] h = tt
free_ip (a ∷ others) h =
    free_append 58 (decimal a) (dotted others)
    (free_number 58 a (inr (omega arith)) (omega (arith, h.0)))
    (free_dotted 58 others (omega arith) h.1)

ip_same : (ip other : List ℕ) → length ip ≡ length other → AreOctets ip → AreOctets other
    → ip_text ip ≡ ip_text other → ip ≡ other
ip_same [] [] len f g e = refl
ip_same [] (y ∷ ys) len f g e = absurd (let no : ⊥ = omega (arith, len) in no)
ip_same (x ∷ xs) [] len f g e = absurd (let no : ⊥ = omega (arith, len) in no)
ip_same (x ∷ xs) (y ∷ ys) len f g e = dotted_same xs ys (omega (arith, len)) f.1 g.1 x y f.0 g.0 e

abbrev address_from : List ℕ → ℕ → AddressParts
address_from ip port = record { ip = ip; port = port }

address_same : (a b : AddressParts) → length a.ip ≡ length b.ip → AreOctets a.ip → AreOctets b.ip
    → a.port < 65536 → b.port < 65536 → address_text a ≡ address_text b → a ≡ b
address_same a b len f g low below e =
    let p = parted 58 (ip_text a.ip) (ip_text b.ip) (decimal a.port) (decimal b.port)
    (free_ip a.ip f) (free_ip b.ip g) e in
    let ip = ip_same a.ip b.ip len f g p.0 in
    let port = decimal_injective a.port b.port (small a.port low) (small b.port below) p.1 in
    ap (λ i. address_from i a.port) ip ∙ ap (λ n. address_from b.ip n) port

-- ---- a name and an address
place_same : (name other : List ℕ) (a b : AddressParts) → IsPlace name a → IsPlace other b
    → name ++ (32 ∷ address_text a ++ []) ≡ other ++ (32 ∷ address_text b ++ [])
    → (name ≡ other) × (a ≡ b)
place_same name other a b f g e =
    let p = parted 32 name other (address_text a ++ []) (address_text b ++ [])
    (free_name name f.0) (free_name other g.0) e in (
      p.0,
      address_same a b (f.1 ∙ sym g.1) (recursion_from_All _ a.ip f.2)
          (recursion_from_All _ b.ip g.2) f.3 g.3
          (sym (append-nil (address_text a)) ∙ p.1 ∙ append-nil (address_text b)),
    )

-- ---- routes
-- texts that differ at a place are not the same
apart : (place m n : ℕ) (x y : List ℕ) → get_or x place 0 ≡ m → get_or y place 0 ≡ n
    → (m == n) ≡ false → x ≡ y → ⊥
apart place m n x y a b differ e =
    let is : m ≡ n = sym a ∙ ap (λ l. get_or l place 0) e ∙ b in
    let no : ⊥ = grind (arith, nat_tests, is, differ) in no

-- routes of the same text are the same
pub same_route : (a b : Route) → IsSpelled a → IsSpelled b → route_text a ≡ route_text b → a ≡ b
same_route (To (Gateway id a)) (To (Gateway other b)) f g e =
    let p = place_same id other a b f g (ap (drop 3) e) in
    ap (λ n. To (Gateway n a)) p.0 ∙ ap (λ x. To (Gateway other x)) p.1
same_route (To (Gateway id a)) (To (Terminal other b)) f g e = absurd (apart 0 71 84 _ _ refl refl
    refl e)
same_route (To (Gateway id a)) (To (Zone other b)) f g e = absurd (apart 0 71 90 _ _ refl refl
    refl e)
same_route (To (Terminal id a)) (To (Gateway other b)) f g e = absurd (apart 0 84 71 _ _ refl refl
    refl e)
same_route (To (Terminal id a)) (To (Terminal other b)) f g e =
    let p = place_same id other a b f g (ap (drop 5) e) in
    ap (λ n. To (Terminal n a)) p.0 ∙ ap (λ x. To (Terminal other x)) p.1
same_route (To (Terminal id a)) (To (Zone other b)) f g e = absurd (apart 0 84 90 _ _ refl refl
    refl e)
same_route (To (Zone name a)) (To (Gateway other b)) f g e = absurd (apart 0 90 71 _ _ refl refl
    refl e)
same_route (To (Zone name a)) (To (Terminal other b)) f g e = absurd (apart 0 90 84 _ _ refl refl
    refl e)
same_route (To (Zone name a)) (To (Zone other b)) f g e =
    let p = place_same name other a b f g (ap (drop 5) e) in
    ap (λ n. To (Zone n a)) p.0 ∙ ap (λ x. To (Zone other x)) p.1
same_route (To (Gateway id a)) (Refused UnknownPrefix) f g e = absurd (apart 0 71 117 _ _ refl
    refl refl e)
same_route (To (Gateway id a)) (Refused NoGateway) f g e = absurd (apart 0 71 110 _ _ refl refl
    refl e)
same_route (To (Gateway id a)) (Refused NoDefault) f g e = absurd (apart 0 71 110 _ _ refl refl
    refl e)
same_route (To (Terminal id a)) (Refused UnknownPrefix) f g e = absurd (apart 0 84 117 _ _ refl
    refl refl e)
same_route (To (Terminal id a)) (Refused NoGateway) f g e = absurd (apart 0 84 110 _ _ refl refl
    refl e)
same_route (To (Terminal id a)) (Refused NoDefault) f g e = absurd (apart 0 84 110 _ _ refl refl
    refl e)
same_route (To (Zone name a)) (Refused UnknownPrefix) f g e = absurd (apart 0 90 117 _ _ refl refl
    refl e)
same_route (To (Zone name a)) (Refused NoGateway) f g e = absurd (apart 0 90 110 _ _ refl refl
    refl e)
same_route (To (Zone name a)) (Refused NoDefault) f g e = absurd (apart 0 90 110 _ _ refl refl
    refl e)
same_route (Refused UnknownPrefix) (To (Gateway other b)) f g e = absurd (apart 0 117 71 _ _ refl
    refl refl e)
same_route (Refused UnknownPrefix) (To (Terminal other b)) f g e = absurd (apart 0 117 84 _ _ refl
    refl refl e)
same_route (Refused UnknownPrefix) (To (Zone other b)) f g e = absurd (apart 0 117 90 _ _ refl
    refl refl e)
same_route (Refused NoGateway) (To (Gateway other b)) f g e = absurd (apart 0 110 71 _ _ refl refl
    refl e)
same_route (Refused NoGateway) (To (Terminal other b)) f g e = absurd (apart 0 110 84 _ _ refl
    refl refl e)
same_route (Refused NoGateway) (To (Zone other b)) f g e = absurd (apart 0 110 90 _ _ refl refl
    refl e)
same_route (Refused NoDefault) (To (Gateway other b)) f g e = absurd (apart 0 110 71 _ _ refl refl
    refl e)
same_route (Refused NoDefault) (To (Terminal other b)) f g e = absurd (apart 0 110 84 _ _ refl
    refl refl e)
same_route (Refused NoDefault) (To (Zone other b)) f g e = absurd (apart 0 110 90 _ _ refl refl
    refl e)
same_route (Refused UnknownPrefix) (Refused UnknownPrefix) f g e = refl
same_route (Refused UnknownPrefix) (Refused NoGateway) f g e = absurd (apart 0 117 110 _ _ refl
    refl refl e)
same_route (Refused UnknownPrefix) (Refused NoDefault) f g e = absurd (apart 0 117 110 _ _ refl
    refl refl e)
same_route (Refused NoGateway) (Refused UnknownPrefix) f g e = absurd (apart 0 110 117 _ _ refl
    refl refl e)
same_route (Refused NoGateway) (Refused NoGateway) f g e = refl
same_route (Refused NoGateway) (Refused NoDefault) f g e = absurd (apart 3 103 100 _ _ refl refl
    refl e)
same_route (Refused NoDefault) (Refused UnknownPrefix) f g e = absurd (apart 0 110 117 _ _ refl
    refl refl e)
same_route (Refused NoDefault) (Refused NoGateway) f g e = absurd (apart 3 100 103 _ _ refl refl
    refl e)
same_route (Refused NoDefault) (Refused NoDefault) f g e = refl

-- so a test of the one is a test of the other
pub same_texts : (r : Bool) (a b : Route) → IsSpelled a → IsSpelled b → Decides r (a ≡ b)
    → r ≡ bytes_eq (route_text a) (route_text b)
same_texts r a b f g h =
    let texts = bytes_eq-Decides (route_text a) (route_text b) in
    same_from_decides r (bytes_eq (route_text a) (route_text b)) h
    (λ e. same_route a b f g (texts.0 e), λ is. texts.1 (ap route_text is))

-- no route has the text of a caller that is not registered
pub never_unregistered : (a : Route)
    → bytes_eq (route_text a) (codes "callerNotRegistered") ≡ false
never_unregistered (To (Gateway id address)) = refl
never_unregistered (To (Terminal id address)) = refl
never_unregistered (To (Zone name address)) = refl
never_unregistered (Refused UnknownPrefix) = refl
never_unregistered (Refused NoGateway) = refl
never_unregistered (Refused NoDefault) = refl
