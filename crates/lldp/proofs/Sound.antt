-- The format of a message is sound.
use Rattle.std.proofs.Common.{◌≡◌, ℕ, zero, suc, ◌+◌, ◌%◌, ◌<◌, ◌≤◌, ◌==◌, ◌&&◌, Bool, true, false, List, [], ◌∷◌, ◌++◌, length, sum_by, Option, Some, None, Result, Ok, Err, refl, sym, ap, subst, ◌∙◌, append_assoc, arith, inl, inr, ◌⊎◌}
use Rattle.std.specs.Prelude.{nat_le, if◌then◌else◌}
use Rattle.std.specs.List.{AllByRecursion}
use Rattle.std.proofs.lemmas.Bool.{eqb-true, ne_eqb}
use Rattle.std.proofs.lemmas.Bool.Decides.{nat_tests}
use Rattle.std.proofs.lemmas.List.{length-append, nil_from_length}
use Rattle.std.proofs.lemmas.List.Sums.{sum_by-cons}
use Rattle.wire.specs.Codec.{IsSound, IsSoundWhole, ◌>>=◌}
use Rattle.wire.proofs.Fields.{bind_ok, ok_is, raw_sound, number_sound}
use Rattle.wire.proofs.Joined.{then_by_sound, seen_sound, framed_sound}
use Rattle.wire.proofs.Handled.{checked_sound, fixed_sound, closed_sound}
use Rattle.wire.proofs.Wholes.{everything_sound, ends_by_sound, seen_whole_sound, loose_sound}
use Rattle.lldp.specs.declared.fault.LldpFault.{LldpFault}
use Rattle.lldp.specs.declared.fault.LldpFault.TheVariants.{Short, Order, Length, Repeated}
use Rattle.lldp.specs.Tlv.{Tlv, Id, type_of, tlv, typed, id_octets, id, lifetime, chassis_mac}
use Rattle.lldp.specs.Message.{IsOther, EndsAt, SpellOthers, write_tlvs, judged, next_of, read_next, read_others, others, message}

-- ---- TLVs

pub tlv_sound : IsSound tlv
unfolding tlv
tlv_sound = seen_sound _ _ _ (λ _. refl) (then_by_sound _ _ (number_sound Short 2) (λ head. raw_sound Short (head % 512)))

typed_sound : (kind : ℕ) → IsSound (typed kind)
unfolding typed
typed_sound kind = seen_sound _ _ _ (λ size. omega arith) (checked_sound _ Order _ (number_sound Short 2))

id_octets_sound : IsSoundWhole id_octets
unfolding id_octets
id_octets_sound = seen_whole_sound _ _ _ (λ _. refl) (ends_by_sound _ _ (number_sound Short 1) (λ _. everything_sound))

pub id_sound : (kind : ℕ) → IsSound (id kind)
unfolding id
id_sound kind = framed_sound _ Short _ (checked_sound _ Length _ (typed_sound kind)) id_octets_sound

pub lifetime_sound : IsSound lifetime
unfolding lifetime
lifetime_sound = framed_sound _ Short _ (typed_sound 3) (loose_sound _ (number_sound Short 2))

pub chassis_mac_sound : IsSoundWhole chassis_mac
unfolding chassis_mac
chassis_mac_sound = closed_sound Short _ (seen_sound _ _ _ (λ _. refl) (then_by_sound _ _ (fixed_sound Short 4 0x000ECF05) (λ _. raw_sound Short 6)))

-- a TLV takes an octet at least
pub tlv_shrinks : (bytes : List ℕ) (t : Tlv) (rest : List ℕ) → tlv.Spells bytes t rest → length rest < length bytes
unfolding tlv
tlv_shrinks bytes t rest s =
    let parts = s.2 in
    let one : length bytes ≡ length parts.1.0 + length parts.0 = ap length parts.1.2 ∙ length-append parts.1.0 parts.0 in
    let two : length parts.0 ≡ length s.0.1 + length rest = ap length parts.2.1 ∙ length-append s.0.1 rest in
    omega (arith, one, two, parts.1.1)

-- ---- the next TLV

not_empty : (bytes : List ℕ) → 0 < length bytes → (length bytes == 0) ≡ false
not_empty [] h = absurd (omega (arith, h))
not_empty (byte ∷ bytes) h = ne_eqb _ _ (omega arith)

-- a choice that gave a value
chosen : {F A : Type 0} (b : Bool) (x y : Result A F) (value : A) → (if b then x else y) ≡ Ok value → ((b ≡ true) × (x ≡ Ok value)) ⊎ ((b ≡ false) × (y ≡ Ok value))
chosen true x y value e = inl (refl, e)
chosen false x y value e = inr (refl, e)

-- a judgement that refuses nothing
passed : {F A : Type 0} (end again : Bool) (fault : F) (x : A) (value : Option A) → (if end then Ok None else if again then Err fault else Ok (Some x)) ≡ Ok value
    → ((end ≡ true) × (None ≡ value)) ⊎ ((end ≡ false) × (again ≡ false) × (Some x ≡ value))
passed {F = F} true again fault x value e = inl (refl, ok_is {F = F} None value e)
passed false true fault x value e = absurd cc
passed {F = F} false false fault x value e = inr (refl, refl, ok_is {F = F} (Some x) value e)

-- what there is at the front of these octets
abbrev IsNext : List ℕ → Option (Tlv × List ℕ) → Type 0
IsNext bytes None = EndsAt bytes
IsNext bytes (Some x) = tlv.Spells bytes x.0 x.1 × IsOther x.0

next_takes : (bytes : List ℕ) (value : Option (Tlv × List ℕ)) → next_of bytes ≡ Ok value → IsNext bytes value
unfolding next_of
next_takes bytes value e =
    elim (chosen (length bytes == 0) (Ok None) (tlv.read bytes >>= judged) value e) [
      | inl t ↦ subst (IsNext bytes) (ok_is {F = LldpFault} None value t.1) (inl (nil_from_length bytes (eqb-true _ _ t.0)))
      | inr t ↦
          let a = bind_ok (tlv.read bytes) judged value t.1 in
          let spelled = tlv_sound.takes bytes a.0.0 a.0.1 a.1 in
          elim (passed (type_of a.0.0 == 0) (nat_le (type_of a.0.0) 3) Repeated a.0 value a.2) [
            | inl u ↦ subst (IsNext bytes) u.1 (inr (a.0.0, a.0.1, spelled, eqb-true _ _ u.0))
            | inr u ↦ subst (IsNext bytes) u.2 (spelled, u.1)
          ]
    ]

next_ends : (bytes : List ℕ) → EndsAt bytes → next_of bytes ≡ Ok None
unfolding next_of
next_ends bytes (inl none) = rw none refl
next_ends bytes (inr s) =
    rw (not_empty bytes (omega (arith, tlv_shrinks bytes s.0 s.1 s.2)), tlv_sound.again bytes s.0 s.1 s.2, s.3) refl

-- a type above 3 is not 0
above : (n : ℕ) → nat_le n 3 ≡ false → (n == 0) ≡ false
above n e = grind (arith, nat_tests)

next_goes_on : (bytes : List ℕ) (t : Tlv) (rest : List ℕ) → tlv.Spells bytes t rest → IsOther t → next_of bytes ≡ Ok (Some (t, rest))
unfolding next_of
next_goes_on bytes t rest s other =
    rw (not_empty bytes (omega (arith, tlv_shrinks bytes t rest s)), tlv_sound.again bytes t rest s, above (type_of t) other, other) refl

-- the octets after a TLV are fewer
pub next_shrinks : (bytes : List ℕ) (x : Tlv × List ℕ) → next_of bytes ≡ Ok (Some x) → length x.1 < length bytes
next_shrinks bytes x e = tlv_shrinks bytes x.0 x.1 (next_takes bytes (Some x) e).0

-- ---- the TLVs after the first three

others_next : (most : ℕ) (bytes : List ℕ) (ts : List Tlv) → ((rest : List ℕ) (us : List Tlv) → length rest ≤ most → read_others most rest ≡ Ok us → SpellOthers rest us)
    → length bytes ≤ suc most → (value : Option (Tlv × List ℕ)) → next_of bytes ≡ Ok value → read_next (λ x. read_others most x.1) (λ x. x.0) value ≡ Ok ts → SpellOthers bytes ts
others_next most bytes ts behind few None e f = subst (SpellOthers bytes) (ok_is {F = LldpFault} [] ts f) (next_takes bytes None e)
others_next most bytes ts behind few (Some x) e f =
    let b = bind_ok (read_others most x.1) (λ values. Ok (x.0 ∷ values)) ts f in
    let here = next_takes bytes (Some x) e in
    let fewer = next_shrinks bytes x e in
    subst (SpellOthers bytes) (ok_is {F = LldpFault} (x.0 ∷ b.0) ts b.2) (x.1, here.0, here.1, behind x.1 b.0 (omega (arith, few, fewer)) b.1)

others_take : (most : ℕ) (bytes : List ℕ) (ts : List Tlv) → length bytes ≤ most → read_others most bytes ≡ Ok ts → SpellOthers bytes ts
unfolding read_others
others_take zero bytes ts few e =
    subst (SpellOthers bytes) (ok_is {F = LldpFault} [] ts e) (inl (nil_from_length bytes (omega (arith, few))))
others_take (suc most) bytes ts few e =
    let a = bind_ok (next_of bytes) (read_next (λ x. read_others most x.1) (λ x. x.0)) ts e in
    others_next most bytes ts (others_take most) few a.0 a.1 a.2

others_again : (most : ℕ) (bytes : List ℕ) (ts : List Tlv) → length bytes ≤ most → SpellOthers bytes ts → read_others most bytes ≡ Ok ts
unfolding read_others
others_again zero bytes [] few s = refl
others_again zero bytes (t ∷ ts) few s = absurd (omega (arith, few, tlv_shrinks bytes t s.0 s.1))
others_again (suc most) bytes [] few s = rw (next_ends bytes s) refl
others_again (suc most) bytes (t ∷ ts) few s =
    rw (next_goes_on bytes t s.0 s.1 s.2, others_again most s.0 ts (omega (arith, few, tlv_shrinks bytes t s.0 s.1)) s.3) refl

end_spelled : (more : List ℕ) → EndsAt (0 ∷ 0 ∷ more)
unfolding tlv
end_spelled more = inr (record { head = 0; octets = [] }, more, tlv_sound.written (record { head = 0; octets = [] }) more (omega arith, refl), refl)

-- what is written is spelled, whatever follows the TLV that ends it
pub others_written : (ts : List Tlv) (more : List ℕ) → AllByRecursion (λ t. tlv.Fits t × IsOther t) ts → SpellOthers (write_tlvs ts ++ 0 ∷ 0 ∷ more) ts
others_written [] more fits = end_spelled more
others_written (t ∷ ts) more fits =
    let rest = write_tlvs ts ++ 0 ∷ 0 ∷ more in
    let parts : tlv.write t rest ≡ (tlv.write t [] ++ write_tlvs ts) ++ 0 ∷ 0 ∷ more = tlv_sound.local t rest ∙ sym (append_assoc (tlv.write t []) (write_tlvs ts) (0 ∷ 0 ∷ more)) in
    (rest, subst (λ (bytes : List ℕ). tlv.Spells bytes t rest) parts (tlv_sound.written t rest fits.0.0), fits.0.1, others_written ts more fits.1)

tlvs_sized : (ts : List Tlv) → length (write_tlvs ts) ≡ sum_by tlv.size ts
tlvs_sized [] = refl
tlvs_sized (t ∷ ts) =
    let one : length (tlv.write t []) ≡ tlv.size t + 0 = tlv_sound.sized t [] in
    let sum : sum_by tlv.size (t ∷ ts) ≡ tlv.size t + sum_by tlv.size ts = sum_by-cons tlv.size t ts in
    let both : length (tlv.write t [] ++ write_tlvs ts) ≡ length (tlv.write t []) + length (write_tlvs ts) = length-append (tlv.write t []) (write_tlvs ts) in
    let tail : length (write_tlvs ts) ≡ sum_by tlv.size ts = tlvs_sized ts in
    omega (arith, one, sum, both, tail)

pub others_sound : IsSoundWhole others
others_sound = record {
  takes = λ bytes ts e. others_take (length bytes) bytes ts (omega arith) e;
  again = λ bytes ts s. others_again (length bytes) bytes ts (omega arith) s;
  written = λ ts fits. others_written ts [] fits;
  sized = λ ts. omega (arith, tlvs_sized ts, length-append (write_tlvs ts) (0 ∷ 0 ∷ []));
}

-- ---- a message

pub message_sound : IsSoundWhole message
unfolding message
message_sound = seen_whole_sound _ _ _ (λ _. refl)
    (ends_by_sound _ _ (id_sound 1) (λ _. ends_by_sound _ _ (id_sound 2) (λ _. ends_by_sound _ _ lifetime_sound (λ _. others_sound))))

-- ---- one TLV after another

-- what a list of TLVs gives
abbrev pub each : {A B : Type 0} → (List A → B) → Result (List A) LldpFault → Result B LldpFault
each value read = read >>= λ ts. Ok (value ts)

-- the same of each list
pub each_same : {A B : Type 0} (one other : List A → B) (read : Result (List A) LldpFault) → ((ts : List A) → one ts ≡ other ts) → each one read ≡ each other read
each_same one other (Ok ts) same = ap (λ value. Ok value) (same ts)
each_same one other (Err fault) same = refl

regroup : {A B : Type 0} (value : List A → B) (first : A) (read : Result (List A) LldpFault) → each value (read >>= λ values. Ok (first ∷ values)) ≡ each (λ ts. value (first ∷ ts)) read
regroup value first (Ok ts) = refl
regroup value first (Err fault) = refl

-- one more TLV is read
pub others_step : {B : Type 0} (value : List Tlv → B) (most : ℕ) (bytes : List ℕ) (x : Tlv × List ℕ) → length bytes ≤ most → next_of bytes ≡ Ok (Some x)
    → (fewer : ℕ) × (length x.1 ≤ fewer) × (each value (read_others most bytes) ≡ each (λ ts. value (x.0 ∷ ts)) (read_others fewer x.1))
unfolding read_others
others_step value zero bytes x few e = absurd (omega (arith, few, next_shrinks bytes x e))
others_step value (suc most) bytes x few e = (most, omega (arith, few, next_shrinks bytes x e), rw e (regroup value x.0 (read_others most x.1)))

-- the message ends
pub others_end : {B : Type 0} (value : List Tlv → B) (most : ℕ) (bytes : List ℕ) → next_of bytes ≡ Ok None → each value (read_others most bytes) ≡ Ok (value [])
unfolding read_others
others_end value zero bytes e = refl
others_end value (suc most) bytes e = rw e refl

-- the next TLV has a fault
pub others_fail : {B : Type 0} (value : List Tlv → B) (most : ℕ) (bytes : List ℕ) (fault : LldpFault) → length bytes ≤ most → next_of bytes ≡ Err fault → each value (read_others most bytes) ≡ Err fault
unfolding read_others
others_fail value zero bytes fault few e = absurd (let none = nil_from_length bytes (omega (arith, few)) in let clean = next_ends bytes (inl none) in cc)
others_fail value (suc most) bytes fault few e = rw e refl

-- ---- the lengths of identifiers

at_most : (n : ℕ) → (nat_le 2 n && nat_le n 256) ≡ true → n ≤ 256
at_most n e = grind (arith, nat_tests)

-- an identifier that was read has at most 255 octets
pub id_length : (kind : ℕ) (bytes : List ℕ) (i : Id) (rest : List ℕ) → (id kind).read bytes ≡ Ok (i, rest) → length i.octets ≤ 255
unfolding id id_octets
id_length kind bytes i rest e =
    let s = (id_sound kind).takes bytes i rest e in
    let octets = s.4.2 in
    let few : length s.0 ≤ 256 = at_most (length s.0) s.2.0 in
    let parts : length s.0 ≡ length octets.1.0 + length octets.0 = ap length octets.1.2 ∙ length-append octets.1.0 octets.0 in
    let same : length octets.0 ≡ length i.octets = ap length octets.2 ∙ ap (λ (x : Id). length x.octets) s.4.1 in
    omega (arith, few, parts, same, octets.1.1)
