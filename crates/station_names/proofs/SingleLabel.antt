-- The kinds of single labels, from tests of their bytes.
use Rattle.std.proofs.Common.{◌≡◌, ◌↔◌, inl, inr, ℕ, ◌+◌, ◌-◌, Bool, true, false, eqb, List, [], ◌∷◌, ◌++◌, length, take, drop, get_or, slice_get, Some, IsTrue, All, sym, ap, ◌∙◌, subst, arith}
use Rattle.std.specs.Cmp.Lexicographic.{pointwise}
use Rattle.std.proofs.Math.Seq.{take-append_seam, get_or-append_seam, drop-append-add, drop-cons}
use Rattle.std.proofs.lemmas.List.{take_all, take-append-drop, length-take, length-drop}
use Rattle.std.proofs.lemmas.List.Elements.{All-same}
use Rattle.std.proofs.lemmas.Bool.Decides.{Decides-eqb}
use Rattle.std.proofs.lemmas.Slice.Eq.{starts_is, ends_is}
use Rattle.pn_values.specs.StationName.{hyphen, is_digit, IsDigits, IsPort}
use Rattle.station_names.specs.NameFault.{HasHyphenEnd}

no_hyphen_first : (label : List ℕ) (starts : Bool) → starts ≡ pointwise eqb (hyphen ∷ []) (take 1 label) → starts ≡ false
    → slice_get label 0 ≡ Some hyphen → ⊥
no_hyphen_first [] starts is not at = cc
no_hyphen_first (byte ∷ label) starts is not at =
    let e : byte ∷ label ≡ hyphen ∷ label = cc in
    let yes : starts ≡ true = (starts_is Decides-eqb (byte ∷ label) (hyphen ∷ []) starts is).1 label e in cc

-- whether a label that does not begin with '-' ends with it
pub hyphen_end : (label : List ℕ) (starts ends : Bool) → starts ≡ pointwise eqb (hyphen ∷ []) (take 1 label) → starts ≡ false
    → ends ≡ pointwise eqb (hyphen ∷ []) (drop (length label - 1) label) → IsTrue ends ↔ HasHyphenEnd label
hyphen_end label starts ends first none last =
    let k = ends_is Decides-eqb label (hyphen ∷ []) ends last in (
      λ yes. inr (take (length label - 1) label, k.0 yes),
      λ h. elim h [ inl at ↦ absurd (no_hyphen_first label starts first none at) | inr at ↦ k.1 at.0 at.1 ],
    )

-- three digits, '-' and what follows
parts : (digits more : List ℕ) → length digits ≡ 3
    → (take 3 (digits ++ hyphen ∷ more) ≡ digits) × (get_or (digits ++ hyphen ∷ more) 3 0 ≡ hyphen) × (drop 4 (digits ++ hyphen ∷ more) ≡ more)
parts digits more three =
    let at : ℕ → Type 0 = λ n. (take n (digits ++ hyphen ∷ more) ≡ digits) × (get_or (digits ++ hyphen ∷ more) n 0 ≡ hyphen) × (drop (n + 1) (digits ++ hyphen ∷ more) ≡ more) in
    subst at three (take-append_seam digits (hyphen ∷ more), get_or-append_seam digits hyphen more 0, drop-append-add digits (hyphen ∷ more) 1)

abbrev pub IsDigit : ℕ → Type 0
IsDigit byte = IsTrue (is_digit byte)

-- "port-" and nine more bytes
long_port_parts : (label port digits more : List ℕ) → label ≡ (112 ∷ 111 ∷ 114 ∷ 116 ∷ hyphen ∷ []) ++ port → IsDigits 3 digits → IsDigits 5 more
    → label ≡ ((112 ∷ 111 ∷ 114 ∷ 116 ∷ hyphen ∷ []) ++ digits) ++ hyphen ∷ more
    → All IsDigit (take 3 port) × (get_or port 3 0 ≡ hyphen) × All IsDigit (drop 4 port)
long_port_parts label port digits more is three five form =
    let same : port ≡ digits ++ hyphen ∷ more = cc in
    let at = parts digits more three.0 in
    (All-same IsDigit _ _ (ap (take 3) same ∙ at.0) three.1, ap (λ bytes. get_or bytes 3 0) same ∙ at.1, All-same IsDigit _ _ (ap (drop 4) same ∙ at.2) five.1)

pub long_port : (label port : List ℕ) → label ≡ (112 ∷ 111 ∷ 114 ∷ 116 ∷ hyphen ∷ []) ++ port → length port ≡ 9
    → IsPort label ↔ (All IsDigit (take 3 port) × (get_or port 3 0 ≡ hyphen) × All IsDigit (take (length port - 4) (drop 4 port)))
long_port label port is nine =
    let to_end : take (length port - 4) (drop 4 port) ≡ drop 4 port = take_all (length port - 4) (drop 4 port) (omega (arith, length-drop {A = ℕ})) in (
      λ (digits, three, form). elim form [
        | inl short ↦ (let same : port ≡ digits = cc in absurd (omega (arith, ap length same)))
        | inr long ↦ (let at = long_port_parts label port digits long.0 is three long.1 long.2 in (at.0, at.1, All-same IsDigit _ _ to_end at.2))
      ],
      λ (front, between, back).
          let whole : port ≡ take 3 port ++ hyphen ∷ drop 4 port =
          sym (take-append-drop 3 port) ∙ ap (λ rest. take 3 port ++ rest) (drop-cons port 3 0 (omega arith) ∙ ap (λ byte. byte ∷ drop 4 port) between) in
          (take 3 port, (omega (arith, length-take {A = ℕ}), front), inr (drop 4 port, (omega (arith, length-drop {A = ℕ}), All-same IsDigit _ _ (sym to_end) back), cc)),
    )
