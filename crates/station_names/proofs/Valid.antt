-- The test of a name is true exactly for a NameOfStation.
use Rattle.std.proofs.Common.{◌≡◌, ◌⊎◌, ◌+◌, ◌-◌, ◌<◌, ◌≤◌, ℕ, zero, suc, Bool, List, [], ◌∷◌, ◌++◌, length, take, drop, get_or, Some, refl, sym, ap, ◌∙◌, subst, inl, inr, arith, leb, length-append}
use Rattle.std.specs.Prelude.{slice_get, slice_index, IsTrue}
use Rattle.std.specs.Bool.{Decides}
use Rattle.std.specs.List.{All, list_all}
use Rattle.std.specs.Cmp.Lexicographic.{bytes_decides}
use Rattle.std.proofs.lemmas.Bool.Decides.{nat_tests, Decides-like, Decides-not, Decides-and, Decides-or, Decides-ltb, Decides-eqb, Decides-by_and}
use Rattle.std.proofs.lemmas.Grind.{common_steps}
use Rattle.std.proofs.lemmas.List.{take-append-drop, take_more, take_all, get_or_push, drop_more, drop-drop, drop_all, append_assoc}
use Rattle.std.proofs.lemmas.Option.{get_or_from_slice_get, slice_get-get_or}
use Rattle.pn_values.specs.StationName.{hyphen, is_digit, is_label_byte, labels_of, IsAddressPart, IsLabel, LooksLikeAddress, IsPort, IsStationName}
use Rattle.station_names.specs.Valid.{has_byte, is_label, is_address_part, looks_like_address, is_port, is_station_name}

-- ---- tests in general

Decides-leb : (a b : ℕ) → Decides (leb a b) (a ≤ b)
Decides-leb a b = grind (arith, nat_tests)

module _ {X : Type 0} (p : X → Bool) (P : X → Type 0) (each : (x : X) → Decides (p x) (P x)) where
  Decides-list_all : (xs : List X) → Decides (list_all p xs) (All P xs)
  Decides-list_all = Decides-by_and p P (list_all p) each refl (λ _ _. refl)

Decides-digits : (xs : List ℕ) → Decides (list_all is_digit xs) (All (λ byte. IsTrue (is_digit byte)) xs)
Decides-digits = Decides-list_all is_digit (λ byte. IsTrue (is_digit byte)) (λ _. (λ h. h, λ h. h))

-- ---- labels

byte_here : (label : List ℕ) (place byte : ℕ) → place < length label → get_or label place 0 ≡ byte → slice_get label place ≡ Some byte
byte_here label place byte below e = slice_get-get_or label place 0 below ∙ ap (λ x. Some x) e

inside : (label : List ℕ) (place byte : ℕ) → slice_get label place ≡ Some byte → place < length label
inside [] place byte h = cc
inside (x ∷ xs) zero byte h = omega arith
inside (x ∷ xs) (suc place) byte h = let below : place < length xs = inside xs place byte h in omega arith

-- the byte at an index
Decides-has_byte : (label : List ℕ) (place byte : ℕ) → Decides (has_byte label place byte) (slice_get label place ≡ Some byte)
Decides-has_byte label place byte =
    Decides-like (has_byte label place byte)
    (λ h. byte_here label place byte h.0 h.1)
    (λ h. (inside label place byte h, get_or_from_slice_get label place byte 0 h))
    (Decides-and _ _ (Decides-ltb place (length label)) (Decides-eqb (slice_index label place) byte))

-- a list that ends in a byte
last_back : (label : List ℕ) (byte : ℕ) → slice_get label (length label - 1) ≡ Some byte → (front : List ℕ) × (label ≡ front ++ byte ∷ [])
last_back label byte h =
    let below : length label - 1 < length label = inside label (length label - 1) byte h in
    let whole : length label - 1 + 1 ≡ length label = omega arith in
    let all : take (length label - 1 + 1) label ≡ label = take_all (length label - 1 + 1) label (omega arith) in
    let more : take (length label - 1 + 1) label ≡ take (length label - 1) label ++ get_or label (length label - 1) 0 ∷ [] = take_more label (length label - 1) 0 below in
    let end : get_or label (length label - 1) 0 ≡ byte = get_or_from_slice_get label (length label - 1) byte 0 h in
    (take (length label - 1) label, cc)

last_there : (label : List ℕ) (byte : ℕ) → (front : List ℕ) × (label ≡ front ++ byte ∷ []) → slice_get label (length label - 1) ≡ Some byte
last_there label byte (front, e) =
    let long : length label ≡ length front + 1 = omega (arith, length-append front (byte ∷ []), ap length e) in
    let place : length label - 1 ≡ length front = omega arith in
    byte_here label (length label - 1) byte (omega arith)
    (rw (place, e) (get_or_push front byte 0 (length front) refl))

Decides-last : (label : List ℕ) (byte : ℕ) → Decides (has_byte label (length label - 1) byte) ((front : List ℕ) × (label ≡ front ++ byte ∷ []))
Decides-last label byte =
    Decides-like (has_byte label (length label - 1) byte) (last_back label byte) (last_there label byte) (Decides-has_byte label (length label - 1) byte)

Decides-label : (label : List ℕ) → Decides (is_label label) (IsLabel label)
Decides-label label =
    Decides-like (is_label label)
    (λ h. record { some = h.0.0.0.0; short = h.0.0.0.1; bytes = h.0.0.1; first = h.0.1; last = λ front e. h.1 (front, e) })
    (λ l. ((((l.some, l.short), l.bytes), l.first), λ (front, e). l.last front e))
    (Decides-and _ _ (Decides-and _ _ (Decides-and _ _ (Decides-and _ _
    (Decides-ltb 0 (length label)) (Decides-leb (length label) 63))
    (Decides-list_all is_label_byte (λ byte. IsTrue (is_label_byte byte)) (λ _. (λ h. h, λ h. h)) label))
    (Decides-not _ (Decides-has_byte label 0 hyphen)))
    (Decides-not _ (Decides-last label hyphen)))

-- ---- names

Decides-address_part : (label : List ℕ) → Decides (is_address_part label) (IsAddressPart label)
Decides-address_part label =
    Decides-like (is_address_part label) (λ h. (h.0.0, h.0.1, h.1)) (λ h. ((h.0, h.1), h.2))
    (Decides-and _ _ (Decides-and _ _ (Decides-ltb 0 (length label)) (Decides-leb (length label) 3)) (Decides-digits label))

Decides-looks_like_address : (labels : List (List ℕ)) → Decides (looks_like_address labels) (LooksLikeAddress labels)
Decides-looks_like_address labels =
    Decides-and _ _ (Decides-eqb (length labels) 4) (Decides-list_all is_address_part IsAddressPart Decides-address_part labels)

abbrev port : List ℕ
port = 112 ∷ 111 ∷ 114 ∷ 116 ∷ hyphen ∷ []

abbrev digits_in : List ℕ → List ℕ
digits_in label = take 3 (drop 5 label)

-- the parts that the test of a port looks at
abbrev PortParts : List ℕ → Type 0
PortParts label = ((port ≡ take 5 label) × All (λ byte. IsTrue (is_digit byte)) (digits_in label))
    × ((length label ≡ 8) ⊎ (((length label ≡ 14) × (slice_get label 8 ≡ Some hyphen)) × All (λ byte. IsTrue (is_digit byte)) (drop 9 label)))

front_of : (label : List ℕ) → port ≡ take 5 label → label ≡ (port ++ digits_in label) ++ drop 8 label
front_of label e =
    let first : take 5 label ++ drop 5 label ≡ label = take-append-drop 5 label in
    let second : digits_in label ++ drop 3 (drop 5 label) ≡ drop 5 label = take-append-drop 3 (drop 5 label) in
    let third : drop 3 (drop 5 label) ≡ drop 8 label = drop-drop 3 5 label in
    let joined : (port ++ digits_in label) ++ drop 8 label ≡ port ++ (digits_in label ++ drop 8 label) = append_assoc port (digits_in label) (drop 8 label) in
    cc

port_back : (label : List ℕ) → PortParts label → IsPort label
port_back label ((e, digits), inl eight) =
    let none : drop 8 label ≡ [] = drop_all 8 label (omega arith) in
    let whole : label ≡ (port ++ digits_in label) ++ drop 8 label = front_of label e in
    let nil : (port ++ digits_in label) ++ [] ≡ port ++ digits_in label = grind (arith, common_steps) in
    (digits_in label, (grind (arith, common_steps), digits), inl cc)
port_back label ((e, digits), inr ((long, byte), more)) =
    let whole : label ≡ (port ++ digits_in label) ++ drop 8 label = front_of label e in
    let mid : drop 8 label ≡ get_or label 8 0 ∷ drop 9 label = drop_more label 8 0 (omega arith) in
    let here : get_or label 8 0 ≡ hyphen = get_or_from_slice_get label 8 hyphen 0 byte in
    (digits_in label, (grind (arith, common_steps), digits), inr (drop 9 label, (grind (arith, common_steps), more), cc))

-- a list of three
three_of : (xs : List ℕ) → length xs ≡ 3 → (a : ℕ) × (b : ℕ) × (c : ℕ) × (xs ≡ a ∷ b ∷ c ∷ [])
three_of [] h = absurd (omega arith)
three_of (a ∷ []) h = absurd (omega arith)
three_of (a ∷ b ∷ []) h = absurd (omega arith)
three_of (a ∷ b ∷ c ∷ []) h = (a, b, c, refl)
three_of (a ∷ b ∷ c ∷ d ∷ xs) h = absurd (omega arith)

port_there : (label : List ℕ) → IsPort label → PortParts label
port_there label (digits, (three, all), inl e) =
    let AllDigits : List ℕ → Type 0 = All (λ byte. IsTrue (is_digit byte)) in
    let (a, b, c, d) = three_of digits three in
    let whole : label ≡ port ++ a ∷ b ∷ c ∷ [] = e ∙ ap (λ xs. port ++ xs) d in
    subst PortParts (sym whole) ((refl, subst AllDigits d all), inl refl)
port_there label (digits, (three, all), inr (more, (five, others), e)) =
    let AllDigits : List ℕ → Type 0 = All (λ byte. IsTrue (is_digit byte)) in
    let (a, b, c, d) = three_of digits three in
    let whole : label ≡ (port ++ a ∷ b ∷ c ∷ []) ++ hyphen ∷ more = e ∙ ap (λ xs. (port ++ xs) ++ hyphen ∷ more) d in
    subst PortParts (sym whole) ((refl, subst AllDigits d all), inr ((omega arith, refl), others))

Decides-port : (label : List ℕ) → Decides (is_port label) (IsPort label)
Decides-port label =
    Decides-like (is_port label) (port_back label) (port_there label)
    (Decides-and _ _ (Decides-and _ _ (bytes_decides port (take 5 label)) (Decides-digits (digits_in label)))
    (Decides-or _ _ (Decides-eqb (length label) 8)
    (Decides-and _ _ (Decides-and _ _ (Decides-eqb (length label) 14) (Decides-has_byte label 8 hyphen)) (Decides-digits (drop 9 label)))))

pub Decides-station_name : (bytes : List ℕ) → Decides (is_station_name bytes) (IsStationName bytes)
unfolding is_station_name
Decides-station_name bytes =
    Decides-like (is_station_name bytes)
    (λ h. record { short = h.0.0.0; labels = h.0.0.1; no_address = h.0.1; no_port = h.1 })
    (λ n. (((n.short, n.labels), n.no_address), n.no_port))
    (Decides-and _ _ (Decides-and _ _ (Decides-and _ _
    (Decides-leb (length bytes) 240)
    (Decides-list_all is_label IsLabel Decides-label (labels_of bytes)))
    (Decides-not _ (Decides-looks_like_address (labels_of bytes))))
    (Decides-not _ (Decides-list_all is_port IsPort Decides-port (take 1 (labels_of bytes)))))
