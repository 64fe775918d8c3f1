-- The labels of a text, found by looking at one byte after the other.
use Rattle.std.proofs.Common.{◌≡◌, ◌↔◌, ◌⊎◌, inl, inr, ℕ, ◌<◌, ◌≤◌, ◌+◌, ◌-◌, ◌≢◌, ◌==◌, take, drop, get_or, Bool, true, false, cond, leb, ◌&&◌, ◌||◌, List, [], ◌∷◌, ◌++◌, length, IsTrue, Any, refl, sym, ap, ◌∙◌, subst, append_assoc, arith}
use Rattle.std.specs.List.{slice_range}
use Rattle.std.proofs.lemmas.Bool.{eq-eqb, ne_eqb, false≢true}
use Rattle.std.proofs.lemmas.List.{append-nil, take_more, drop_more, drop_all, length-drop, get_or-drop}
use Rattle.std.proofs.lemmas.List.Quantifiers.{Any-push}
use Rattle.pn_values.specs.StationName.{dot, hyphen, is_digit, is_label_byte, onto_first, labels_of}
use Rattle.station_names.specs.declared.scan.Labels.{Labels}
use Rattle.station_names.specs.Found.{HasBadByte, Seen}
use Rattle.station_names.proofs.Lists.{any_push_cases, any_push_old}

-- bytes put at the front of the first label
abbrev all_onto_first : List ℕ → List (List ℕ) → List (List ℕ)
all_onto_first front [] = front ∷ []
all_onto_first front (label ∷ labels) = (front ++ label) ∷ labels

-- the state between two bytes: some labels are complete, some bytes of the next were seen, and the rest of the text is
-- to come
pub record Between (bytes front rest : List ℕ) (labels : Labels) (has_bad_byte : Bool) : Type 0 where
  pub closed : List (List ℕ)
  pub seen : Seen closed labels
  pub whole : labels_of bytes ≡ closed ++ all_onto_first front (labels_of rest)
  pub bad : IsTrue has_bad_byte ↔ (Any HasBadByte closed ⊎ HasBadByte front)

first_onto : (byte : ℕ) (labels : List (List ℕ)) → (first : List ℕ) × (more : List (List ℕ)) × (onto_first byte labels ≡ first ∷ more)
first_onto byte [] = (byte ∷ [], [], refl)
first_onto byte (label ∷ labels) = (byte ∷ label, labels, refl)

-- a text has a first label
first_of : (bytes : List ℕ) → (first : List ℕ) × (more : List (List ℕ)) × (labels_of bytes ≡ first ∷ more)
first_of [] = ([], [], refl)
first_of (byte ∷ bytes) =
    elim (byte == dot) as (λ b. (first : List ℕ) × (more : List (List ℕ)) × (cond b ([] ∷ labels_of bytes) (onto_first byte (labels_of bytes)) ≡ first ∷ more))
    [ true ↦ ([], labels_of bytes, refl) | false ↦ first_onto byte (labels_of bytes) ]

-- a text has at least one label
pub some_labels : (bytes : List ℕ) → 0 < length (labels_of bytes)
some_labels bytes = let (first, more, is) = first_of bytes in rw is (omega arith)

nothing_onto : (bytes : List ℕ) → all_onto_first [] (labels_of bytes) ≡ labels_of bytes
nothing_onto bytes = let (first, more, is) = first_of bytes in rw is refl

one_more_onto : (front : List ℕ) (byte : ℕ) (labels : List (List ℕ)) → all_onto_first front (onto_first byte labels) ≡ all_onto_first (front ++ byte ∷ []) labels
one_more_onto front byte [] = refl
one_more_onto front byte (label ∷ labels) = ap (λ l. l ∷ labels) (sym (append_assoc front (byte ∷ []) label))

none_bad : HasBadByte [] → ⊥
none_bad (k, x, below, at, holds) = omega arith

-- the state before the first byte
pub at_start : (bytes : List ℕ) (labels : Labels) → Seen [] labels → Between bytes [] bytes labels false
at_start bytes labels seen = record {
  closed = [];
  seen = seen;
  whole = sym (nothing_onto bytes);
  bad = (λ yes. cc, λ h. elim h [ inl (k, x, below, at, holds) ↦ absurd (omega arith) | inr bad ↦ absurd (none_bad bad) ]);
}

-- a dot ends a label
pub at_dot : (bytes front rest : List ℕ) (byte : ℕ) (labels now : Labels) (has_bad_byte : Bool) → (byte == dot) ≡ true
    → Between bytes front (byte ∷ rest) labels has_bad_byte
    → ((closed : List (List ℕ)) → Seen closed labels → Seen (closed ++ front ∷ []) now)
    → Between bytes [] rest now has_bad_byte
at_dot bytes front rest byte labels now has_bad_byte is before add = record {
  closed = before.closed ++ front ∷ [];
  seen = add before.closed before.seen;
  whole =
      let here : labels_of (byte ∷ rest) ≡ [] ∷ labels_of rest = ap (λ b. cond b ([] ∷ labels_of rest) (onto_first byte (labels_of rest))) is in
      before.whole ∙ ap (λ l. before.closed ++ all_onto_first front l) here
      ∙ ap (λ l. before.closed ++ l ∷ labels_of rest) (append-nil front)
      ∙ sym (append_assoc before.closed (front ∷ []) (labels_of rest))
      ∙ ap (λ l. (before.closed ++ front ∷ []) ++ l) (sym (nothing_onto rest));
  bad = (
    λ yes. elim (before.bad.0 yes) [
      | inl old ↦ inl (any_push_old HasBadByte before.closed front old)
      | inr bad ↦ inl (Any-push HasBadByte before.closed front bad)
    ],
    λ h. elim h [
      | inl some ↦ before.bad.1 (any_push_cases HasBadByte before.closed front some)
      | inr bad ↦ absurd (none_bad bad)
    ],
  );
}

-- any other byte belongs to the label
pub at_other : (bytes front rest : List ℕ) (byte : ℕ) (labels : Labels) (before now : Bool) → (byte == dot) ≡ false
    → Between bytes front (byte ∷ rest) labels before
    → IsTrue now ↔ (IsTrue before ⊎ (is_label_byte byte ≡ false))
    → Between bytes (front ++ byte ∷ []) rest labels now
at_other bytes front rest byte labels before now not_dot between step = record {
  closed = between.closed;
  seen = between.seen;
  whole =
      let here : labels_of (byte ∷ rest) ≡ onto_first byte (labels_of rest) = ap (λ b. cond b ([] ∷ labels_of rest) (onto_first byte (labels_of rest))) not_dot in
      between.whole ∙ ap (λ l. between.closed ++ all_onto_first front l) here ∙ ap (λ l. between.closed ++ l) (one_more_onto front byte (labels_of rest));
  bad = (
    λ yes. elim (step.0 yes) [
      | inl old ↦ elim (between.bad.0 old) [ inl closed ↦ inl closed | inr bad ↦ inr (any_push_old (λ b. is_label_byte b ≡ false) front byte bad) ]
      | inr bad ↦ inr (Any-push (λ b. is_label_byte b ≡ false) front byte bad)
    ],
    λ h. elim h [
      | inl closed ↦ step.1 (inl (between.bad.1 (inl closed)))
      | inr some ↦ elim (any_push_cases (λ b. is_label_byte b ≡ false) front byte some) [
        | inl old ↦ step.1 (inl (between.bad.1 (inr old)))
        | inr bad ↦ step.1 (inr bad)
      ]
    ],
  );
}

-- the end of the text ends the last label
pub at_end : (bytes front : List ℕ) (labels now : Labels) (has_bad_byte : Bool) → Between bytes front [] labels has_bad_byte
    → ((closed : List (List ℕ)) → Seen closed labels → Seen (closed ++ front ∷ []) now)
    → Seen (labels_of bytes) now × (IsTrue has_bad_byte ↔ Any HasBadByte (labels_of bytes))
at_end bytes front labels now has_bad_byte before add =
    let all : before.closed ++ front ∷ [] ≡ labels_of bytes = sym (before.whole ∙ ap (λ l. before.closed ++ l ∷ []) (append-nil front)) in (
      subst (λ ls. Seen ls now) all (add before.closed before.seen),
      subst (λ ls. IsTrue has_bad_byte ↔ Any HasBadByte ls) all (
        λ yes. elim (before.bad.0 yes) [ inl old ↦ any_push_old HasBadByte before.closed front old | inr bad ↦ Any-push HasBadByte before.closed front bad ],
        λ some. before.bad.1 (any_push_cases HasBadByte before.closed front some),
      ),
    )

-- ---- the same if the bytes of the incomplete label begin at an index of the text

nothing_from : (bytes : List ℕ) (place : ℕ) → slice_range bytes place place ≡ []
nothing_from bytes place = ap (λ (n : ℕ). take n (drop place bytes)) (let none : place - place ≡ 0 = omega arith in none)

one_more_from : (bytes : List ℕ) (start index : ℕ) → start ≤ index → index < length bytes
    → slice_range bytes start (index + 1) ≡ slice_range bytes start index ++ get_or bytes index 0 ∷ []
one_more_from bytes start index within below =
    let count : index + 1 - start ≡ index - start + 1 = omega arith in
    let there : start + (index - start) ≡ index = omega arith in
    ap (λ (n : ℕ). take n (drop start bytes)) count
    ∙ take_more (drop start bytes) (index - start) 0 (omega (arith, length-drop start bytes))
    ∙ ap (λ (x : ℕ). take (index - start) (drop start bytes) ++ x ∷ []) (get_or-drop start bytes (index - start) 0 ∙ ap (λ (n : ℕ). get_or bytes n 0) there)

abbrev IsAt : List ℕ → ℕ → ℕ → Labels → Bool → Type 0
IsAt bytes start index labels has_bad_byte = Between bytes (slice_range bytes start index) (drop index bytes) labels has_bad_byte

from_here : (bytes : List ℕ) (start index : ℕ) (labels : Labels) (has_bad_byte : Bool) → index < length bytes → IsAt bytes start index labels has_bad_byte
    → Between bytes (slice_range bytes start index) (get_or bytes index 0 ∷ drop (index + 1) bytes) labels has_bad_byte
from_here bytes start index labels has_bad_byte below before =
    subst (λ (rest : List ℕ). Between bytes (slice_range bytes start index) rest labels has_bad_byte) (drop_more bytes index 0 below) before

pub after_dot : (bytes : List ℕ) (start index : ℕ) (labels now : Labels) (has_bad_byte : Bool) → index < length bytes → get_or bytes index 0 ≡ dot
    → IsAt bytes start index labels has_bad_byte
    → ((closed : List (List ℕ)) → Seen closed labels → Seen (closed ++ slice_range bytes start index ∷ []) now)
    → IsAt bytes (index + 1) (index + 1) now has_bad_byte
after_dot bytes start index labels now has_bad_byte below is before add =
    subst (λ (front : List ℕ). Between bytes front (drop (index + 1) bytes) now has_bad_byte) (sym (nothing_from bytes (index + 1)))
    (at_dot bytes (slice_range bytes start index) (drop (index + 1) bytes) (get_or bytes index 0) labels now has_bad_byte (eq-eqb _ _ is)
    (from_here bytes start index labels has_bad_byte below before) add)

pub after_other : (bytes : List ℕ) (start index : ℕ) (labels : Labels) (before now : Bool) → start ≤ index → index < length bytes → get_or bytes index 0 ≢ dot
    → IsAt bytes start index labels before
    → IsTrue now ↔ (IsTrue before ⊎ (is_label_byte (get_or bytes index 0) ≡ false))
    → IsAt bytes start (index + 1) labels now
after_other bytes start index labels before now within below not_dot between step =
    subst (λ (front : List ℕ). Between bytes front (drop (index + 1) bytes) labels now) (sym (one_more_from bytes start index within below))
    (at_other bytes (slice_range bytes start index) (drop (index + 1) bytes) (get_or bytes index 0) labels before now (ne_eqb _ _ not_dot)
    (from_here bytes start index labels before below between) step)

pub after_all : (bytes : List ℕ) (start index : ℕ) (labels now : Labels) (has_bad_byte : Bool) → length bytes ≤ index → index ≤ length bytes
    → IsAt bytes start index labels has_bad_byte
    → ((closed : List (List ℕ)) → Seen closed labels → Seen (closed ++ slice_range bytes start (length bytes) ∷ []) now)
    → Seen (labels_of bytes) now × (IsTrue has_bad_byte ↔ Any HasBadByte (labels_of bytes))
after_all bytes start index labels now has_bad_byte least most before add =
    let end : index ≡ length bytes = omega arith in
    let whole : Between bytes (slice_range bytes start (length bytes)) [] labels has_bad_byte =
    subst (λ (rest : List ℕ). Between bytes (slice_range bytes start (length bytes)) rest labels has_bad_byte) (drop_all (length bytes) bytes (omega arith))
    (subst (λ (n : ℕ). IsAt bytes start n labels has_bad_byte) end before) in
    at_end bytes (slice_range bytes start (length bytes)) labels now has_bad_byte whole add

-- a letter is not a dot, and may be in a label
pub after_letter : (bytes : List ℕ) (start index : ℕ) (labels : Labels) (has_bad_byte : Bool) → start ≤ index → index < length bytes
    → (leb 97 (get_or bytes index 0) && leb (get_or bytes index 0) 122) ≡ true
    → IsAt bytes start index labels has_bad_byte → IsAt bytes start (index + 1) labels has_bad_byte
after_letter bytes start index labels has_bad_byte within below letter between =
    let byte : ℕ = get_or bytes index 0 in
    let good : is_label_byte byte ≡ true = ap (λ (b : Bool). b || is_digit byte || byte == hyphen) letter in
    after_other bytes start index labels has_bad_byte has_bad_byte within below
    (λ is. absurd (false≢true (sym (ap (λ (b : ℕ). leb 97 b && leb b 122) is) ∙ letter))) between
    (λ old. inl old, λ h. elim h [ inl old ↦ old | inr bad ↦ absurd (false≢true (sym bad ∙ good)) ])
