-- A set-up that could follow the next one: of other calls than it, and than those that a device has answered.
use Rattle.std.proofs.Common.{◌≡◌, ◌≤◌, ◌<◌, ◌+◌, ℕ, suc, Bool, true, false, List, [], ◌∷◌, Some, None, refl, sym, ap, subst, arith}
use Rattle.std.specs.Prelude.{if◌then◌else◌}
use Rattle.std.specs.Cmp.Lexicographic.{same_text}
use Rattle.flash_model.specs.declared.flash.Flash.{Ghosts as Flash}
use Rattle.pn_values.specs.declared.identity.Identity.{Identity}
use Rattle.rpc_core.specs.Cache.{Kept, is_of, kept_of}
use Rattle.plans.specs.declared.parts.Parts.{Parts}
use Rattle.controller_messages.specs.declared.setup.Setup.{Setup}
use Rattle.end_laws.specs.hearing.Stations.{IsSetup}
use Rattle.rounds_law.specs.Path.{hold_of}
use Rattle.rounds_law.specs.Start.{CanStart}
use Rattle.rounds_law.proofs.AnywhereParts.{IsLong}

-- The first number of an activity, and one that is not less than that of any stored answer.
abbrev first_of : List ℕ → ℕ
first_of [] = 0
first_of (number ∷ numbers) = number

abbrev above : List Kept → ℕ
above [] = 0
above (kept ∷ calls) = first_of kept.activity + above calls

abbrev rest : List ℕ
rest = 0 ∷ 0 ∷ 0 ∷ 0 ∷ 0 ∷ 0 ∷ 0 ∷ 0 ∷ 0 ∷ 0 ∷ 0 ∷ 0 ∷ 0 ∷ 0 ∷ 0 ∷ []

-- It has other calls.
abbrev pub after_next : Setup → List Kept → Setup
after_next next calls = record next { activity = suc (first_of next.activity + above calls) ∷ rest }

none_stored : (number : ℕ) (calls : List Kept) → above calls < number → kept_of (number ∷ rest) calls ≡ None
none_stored number [] less = refl
none_stored number (kept ∷ calls) less = by_test (is_of (number ∷ rest) kept) refl (none_stored number calls (omega (arith, less)))
  where
    by_test : (same : Bool) → is_of (number ∷ rest) kept ≡ same → kept_of (number ∷ rest) calls ≡ None
        → (if same then Some kept else kept_of (number ∷ rest) calls) ≡ None
    by_test true e none =
        let first : first_of kept.activity ≡ number = ap first_of (same_text kept.activity (number ∷ rest) (sym e)) in absurd (omega (arith, less, first))
    by_test false e none = none

-- The device has answered none of them.
pub uncalled : (next : Setup) (calls : List Kept) → kept_of (after_next next calls).activity calls ≡ None
uncalled next calls = none_stored (suc (first_of next.activity + above calls)) calls (omega arith)

other_calls : (next : Setup) (calls : List Kept) → (after_next next calls).activity ≡ next.activity → ⊥
other_calls next calls same =
    let first : suc (first_of next.activity + above calls) ≡ first_of next.activity = ap first_of same in absurd (omega (arith, first))

sized_after : (next : Setup) (calls : List Kept) → IsSetup next → IsSetup (after_next next calls)
sized_after next calls sized = record {
  plan = sized.plan;
  mac = sized.mac;
  address = sized.address;
  station = sized.station;
  mask = sized.mask;
  gateway = sized.gateway;
  ar = sized.ar;
  activity = refl;
}

can_after : (next : Setup) (calls : List Kept) (identity : Identity) → CanStart next identity → CanStart (after_next next calls) identity
can_after next calls identity can = record {
  can_meet = record { apart = can.can_meet.apart; named = can.can_meet.named; records = can.can_meet.records };
  has_address = can.has_address;
  patient = can.patient;
  holds = can.holds;
  records = can.records;
}

-- What holds of two starts holds of the next one and of it.
pub long_after : {F : Type 0} {S : ℕ} (as_flash : Flash F S) (setup next : Setup) (identity : Identity) (silence : ℕ) (calls : List Kept)
    → IsLong as_flash setup next identity silence → IsLong as_flash next (after_next next calls) identity silence
long_after as_flash setup next identity silence calls long = record {
  real = long.real_next;
  real_next = sized_after next calls long.real_next;
  of_device = long.of_device;
  can = long.can_next;
  can_next = can_after next calls identity long.can_next;
  starts = record { plan = refl; options = refl; calls = other_calls next calls };
  active = long.active;
  holds = subst (λ (p : Parts). hold_of p ≤ silence) (sym long.starts.plan) long.holds;
}
