-- Choices that tests make.
use Rattle.std.proofs.Common.{◌≡◌, ◌==◌, ◌&&◌, ◌||◌, ◌≤◌, ◌⊎◌, inl, inr, ℕ, Bool, true, false, nat_le, List, [], ◌++◌, Result, Ok, Err, if◌then◌else◌, refl, sym, ap, ◌∙◌, arith}
use Rattle.std.specs.Prelude.{IsErr}
use Rattle.std.proofs.lemmas.Bool.{false≢true, leb-true, ne_eqb}
use Rattle.std.proofs.lemmas.List.{append-nil}
use Rattle.frame_codec.specs.FrameId.{is_alarm, is_cyclic}
use Rattle.pn_alarms.specs.declared.pdu.PduType.{PduType}
use Rattle.pn_alarms.specs.declared.pdu.PduType.TheVariants.{Data, Nack, Ack, Error}
use Rattle.diagnosis.specs.declared.reports.priority.Priority.{Priority}
use Rattle.diagnosis.specs.declared.reports.priority.Priority.TheVariants.{High, Low}
use Rattle.diagnosis.specs.reports.Priority.{frame_id_at}

-- ---- of a device, which tests for DCP first, then for alarms, then for cyclic frames

pub cyclic_chosen : {A : Type 0} (own cast first second alarm cyclic : Bool) (a b c d : A) → first ≡ false → second ≡ false → alarm ≡ false → cyclic ≡ true
    → (if (first && own) || (second && (own || cast)) then a else if own && alarm then b else if own && cyclic then c else d) ≡ (if own then c else d)
cyclic_chosen true cast first second alarm cyclic a b c d e f g h = rw (e, f, g, h) refl
cyclic_chosen false cast first second alarm cyclic a b c d e f g h = rw (e, f) refl

pub alarm_chosen : {A : Type 0} (own cast first second alarm cyclic : Bool) (a b c d : A) → first ≡ false → second ≡ false → alarm ≡ true
    → (if (first && own) || (second && (own || cast)) then a else if own && alarm then b else if own && cyclic then c else d) ≡ (if own then b else d)
alarm_chosen true cast first second alarm cyclic a b c d e f g = rw (e, f, g) refl
alarm_chosen false cast first second alarm cyclic a b c d e f g = rw (e, f) refl

-- a request to all stations, and one to this device only
pub cast_chosen : {A : Type 0} (own : Bool) (a b : A) → (if (false && own) || (true && (own || true)) then a else b) ≡ a
cast_chosen true a b = refl
cast_chosen false a b = refl

pub own_chosen : {A : Type 0} (own cast : Bool) (a b c d : A)
    → (if (true && own) || (false && (own || cast)) then a else if own && false then b else if own && false then c else d) ≡ (if own then a else d)
own_chosen true cast a b c d = refl
own_chosen false cast a b c d = refl

-- both branches are the same
pub same_chosen : {A : Type 0} (test : Bool) (a : A) → (if test then a else a) ≡ a
same_chosen true a = refl
same_chosen false a = refl

-- what holds of both branches holds of the choice
pub holds_if : {A : Type 0} (Holds : A → Type 0) (test : Bool) (one other : A) → Holds one → Holds other → Holds (if test then one else other)
holds_if Holds true one other first second = first
holds_if Holds false one other first second = second

-- ---- what is read

-- what follows from each fault follows from an error
pub faulty : {A E B : Type 0} (made : Result A E → B) (value : B) (read : Result A E) → ((fault : E) → made (Err fault) ≡ value) → IsErr read → made read ≡ value
faulty made value (Ok found) each none = absurd (false≢true none)
faulty made value (Err fault) each none = each fault

-- the case without anything after the octets
pub bare : {A : Type 0} (f : List ℕ → A) (octets : List ℕ) (value : A) → f (octets ++ []) ≡ value → f octets ≡ value
bare f octets value e = ap f (sym (append-nil octets)) ∙ e

-- ---- FrameIDs

either : (a b c d : Bool) → ((a && b) || (c && d)) ≡ true → (b ≡ true) ⊎ (d ≡ true)
either a true c d e = inl refl
either a false c true e = inr refl
either true false true false e = absurd cc
either true false false false e = absurd cc
either false false true false e = absurd cc
either false false false false e = absurd cc

-- the FrameID of a cyclic frame is below those of alarms and of DCP
below : (frame_id : ℕ) → is_cyclic frame_id ≡ true → frame_id ≤ 0xF7FF
below frame_id e = elim (either (nat_le 0x8000 frame_id) (nat_le frame_id 0xBBFF) (nat_le 0xC000 frame_id) (nat_le frame_id 0xF7FF) e) [
  | inl t ↦ let most = leb-true frame_id 0xBBFF t in omega (arith, most)
  | inr t ↦ leb-true frame_id 0xF7FF t
]

pub cyclic_small : (frame_id : ℕ) → is_cyclic frame_id ≡ true → frame_id ≤ 0xF7FF
cyclic_small frame_id e = below frame_id e

pub no_get_set : (frame_id : ℕ) → is_cyclic frame_id ≡ true → (frame_id == 0xFEFD) ≡ false
no_get_set frame_id e = let most = below frame_id e in ne_eqb frame_id 0xFEFD (λ same. omega (arith, most, same))

pub no_identify : (frame_id : ℕ) → is_cyclic frame_id ≡ true → (frame_id == 0xFEFE) ≡ false
no_identify frame_id e = let most = below frame_id e in ne_eqb frame_id 0xFEFE (λ same. omega (arith, most, same))

neither : (a b : Bool) → a ≡ false → b ≡ false → (a || b) ≡ false
neither a b e f = rw (e, f) refl

pub no_alarm : (frame_id : ℕ) → is_cyclic frame_id ≡ true → is_alarm frame_id ≡ false
no_alarm frame_id e =
    let most = below frame_id e in
    neither (frame_id == 0xFC01) (frame_id == 0xFE01) (ne_eqb frame_id 0xFC01 (λ same. omega (arith, most, same))) (ne_eqb frame_id 0xFE01 (λ same. omega (arith, most, same)))

-- the FrameID of an alarm frame is not one of DCP or of cyclic frames
pub alarm_is : (priority : Priority) (kind : PduType) → is_alarm (frame_id_at priority kind) ≡ true
alarm_is Low kind = refl
alarm_is High Data = refl
alarm_is High Nack = refl
alarm_is High Ack = refl
alarm_is High Error = refl

pub alarm_no_get_set : (priority : Priority) (kind : PduType) → (frame_id_at priority kind == 0xFEFD) ≡ false
alarm_no_get_set Low kind = refl
alarm_no_get_set High Data = refl
alarm_no_get_set High Nack = refl
alarm_no_get_set High Ack = refl
alarm_no_get_set High Error = refl

pub alarm_no_identify : (priority : Priority) (kind : PduType) → (frame_id_at priority kind == 0xFEFE) ≡ false
alarm_no_identify Low kind = refl
alarm_no_identify High Data = refl
alarm_no_identify High Nack = refl
alarm_no_identify High Ack = refl
alarm_no_identify High Error = refl
