-- A plan that is checked to be valid is in its ranges.
use Rattle.std.proofs.Common.{◌≡◌, ◌≤◌, ◌<◌, ◌+◌, ◌*◌, ◌%◌, ◌==◌, ℕ, Bool, true, false, List, [], ◌∷◌, length, map, take, refl, sym, ap, subst, arith}
use Rattle.std.specs.Prelude.{◌&&◌, not, nat_le, slice_index, if◌then◌else◌, Result, Ok, Err}
use Rattle.std.specs.List.{AllByRecursion, list_all, list_any}
use Rattle.std.proofs.lemmas.Bool.{and_parts, eqb-true, leb-true}
use Rattle.std.proofs.lemmas.List.{length-append, length-map, length-take}
use Rattle.std.proofs.Math.Nat.{min-le_left}
use Rattle.pn_values.specs.IpSuite.{is_host, is_suite}
use Rattle.pn_values.specs.declared.real.RealModule.{RealModule}
use Rattle.pn_values.specs.declared.real.RealSubmodule.{RealSubmodule}
use Rattle.station_names.specs.Valid.{is_station_name}
use Rattle.pn_values.specs.StationName.{IsStationName}
use Rattle.plans.specs.Connect.{does_connect_fit}
use Rattle.plans.specs.Plan.{AreShort, IsPlan, do_frames_fit, long_of, plan_of}
use Rattle.plans.specs.declared.parts.Parts.{Parts}
use Rattle.plans.specs.declared.plan.TooLong.{TooLong}
use Rattle.plans.specs.declared.plan.TooLong.TheVariants.{Frame, Connect}
use Rattle.plans.specs.Parts.{AreOrdered, AreParts, IsRising, data_in_slot, data_of, slots_of, subslots_of}
use Rattle.c_layout.specs.declared.plugged.Module.{Module}
use Rattle.c_layout.specs.declared.plugged.Submodule.{Submodule}
use Rattle.c_layout.specs.Modules.{is_module, is_submodule, module_of, submodule_of, submodules_in}
use Rattle.controller_abi.specs.declared.plan.WrittenPlan.{WrittenPlan}
use Rattle.controller_abi.specs.declared.plan.WrittenRecord.{WrittenRecord}
use Rattle.controller_abi.specs.Plans.{IsShort, IsWritten, are_addresses, are_low, are_named, are_numbers, are_ordered, are_placed, are_times, does_take, fault_of_length, has_room, is_name, is_part, is_plan, length_number}
use Rattle.controller_abi.specs.Plans.{is_record, record_of, is_rising, is_sound, is_written, controller_name_in, is_told, modules_in, name_in, parts_of, records_in, suite_in}

-- ---- numbers in order

all_so : {A : Type 0} (P Q : A → Type 0) (xs : List A) → ((x : A) → P x → Q x) → AllByRecursion P xs → AllByRecursion Q xs
all_so P Q [] then_so all = tt
all_so P Q (x ∷ xs) then_so all = (then_so x all.0, all_so P Q xs then_so all.1)

rising_from : (least : ℕ) (numbers : List ℕ) → is_rising least numbers ≡ true → AllByRecursion (λ other. least ≤ other) numbers × IsRising numbers
rising_from least [] is = (tt, tt)
rising_from least (number ∷ numbers) is =
    let parts = and_parts (nat_le least number) (is_rising (number + 1) numbers) is in
    let low : least ≤ number = leb-true least number parts.0 in
    let rest = rising_from (number + 1) numbers parts.1 in (
      (low, all_so (λ other. number + 1 ≤ other) (λ other. least ≤ other) numbers (λ other above. omega (arith, low, above)) rest.0),
      (all_so (λ other. number + 1 ≤ other) (λ other. number < other) numbers (λ other above. omega (arith, above)) rest.0, rest.1),
    )

slots_same : (modules : List Module) → slots_of (map module_of modules) ≡ map (λ entry. entry.slot) modules
slots_same [] = refl
slots_same (entry ∷ modules) = ap (λ slots. entry.slot ∷ slots) (slots_same modules)

subslots_same : (parts : List Submodule) → map (λ (part : RealSubmodule). part.subslot) (map submodule_of parts) ≡ map (λ part. part.subslot) parts
subslots_same [] = refl
subslots_same (part ∷ parts) = ap (λ subslots. part.subslot ∷ subslots) (subslots_same parts)

all_few : (modules : List Module) → list_all (λ entry. nat_le entry.slot 15) modules ≡ true
    → AllByRecursion (λ (entry : RealModule). entry.slot ≤ 15) (map module_of modules)
all_few [] are = tt
all_few (entry ∷ modules) are =
    let parts = and_parts (nat_le entry.slot 15) (list_all (λ (other : Module). nat_le other.slot 15) modules) are in
    (leb-true entry.slot 15 parts.0, all_few modules parts.1)

all_rising : (modules : List Module) → list_all is_sound modules ≡ true
    → AllByRecursion (λ (entry : RealModule). IsRising (subslots_of entry)) (map module_of modules)
all_rising [] are = tt
all_rising (entry ∷ modules) are =
    let subslots = map (λ (part : Submodule). part.subslot) (submodules_in entry) in
    let parts = and_parts (is_sound entry) (list_all is_sound modules) are in
    let own = and_parts (nat_le 1 entry.ident) (is_rising 1 subslots && list_all is_part (submodules_in entry)) parts.0 in
    let up = and_parts (is_rising 1 subslots) (list_all is_part (submodules_in entry)) own.1 in
    (subst IsRising (sym (subslots_same (submodules_in entry))) (rising_from 1 subslots up.0).1, all_rising modules parts.1)

-- The access point is in slot 0, and the others come after it.
all_ordered : (modules : List Module) → are_ordered modules ≡ true → (1 ≤ length (map module_of modules)) × IsRising (slots_of (map module_of modules))
all_ordered [] are = cc are
all_ordered (entry ∷ modules) are =
    let slots = map (λ (other : Module). other.slot) modules in
    let parts = and_parts (entry.slot == 0) (is_rising 1 slots) are in
    let first : entry.slot ≡ 0 = eqb-true entry.slot 0 parts.0 in
    let rest = rising_from 1 slots parts.1 in
    let above = all_so (λ other. 1 ≤ other) (λ other. entry.slot < other) slots (λ other low. omega (arith, low, first)) rest.0 in
    (omega arith, subst IsRising (sym (slots_same (entry ∷ modules))) (above, rest.1))

all_short : (modules : List Module) (records : List WrittenRecord) → list_all (is_record modules) records ≡ true → AllByRecursion IsShort records
all_short modules [] are = tt
all_short modules (entry ∷ records) are =
    let parts = and_parts (is_record modules entry) (list_all (is_record modules) records) are in
    let own = and_parts (nat_le entry.length 64) (list_any (does_take entry) modules) parts.0 in
    (leb-true entry.length 64 own.0, all_short modules records parts.1)

-- ---- names and addresses

record AreNamed (written : WrittenPlan) : Type 0 where
  few_octets : written.name_length ≤ 240
  named : is_station_name (name_in written) ≡ true
  few_controller_octets : written.controller_name_length ≤ 240
  controlled : is_station_name (controller_name_in written) ≡ true

named_in : (written : WrittenPlan) → are_named written ≡ true → AreNamed written
named_in written are =
    let own = is_name written.name_length written.name in
    let other = is_name written.controller_name_length written.controller_name in
    let both = and_parts own other are in
    let name = and_parts (nat_le written.name_length 240) (is_station_name (name_in written)) both.0 in
    let controller = and_parts (nat_le written.controller_name_length 240) (is_station_name (controller_name_in written)) both.1 in
    record {
      few_octets = leb-true written.name_length 240 name.0;
      named = name.1;
      few_controller_octets = leb-true written.controller_name_length 240 controller.0;
      controlled = controller.1;
    }

record AreAddressed (written : WrittenPlan) : Type 0 where
  alone : slice_index written.controller_mac 0 % 2 ≡ 0
  addressed : is_suite (suite_in written) ≡ true

addressed_in : (written : WrittenPlan) → are_addresses written ≡ true → AreAddressed written
addressed_in written are =
    let mac = slice_index written.controller_mac 0 % 2 == 0 in
    let host = is_host (slice_index written.controller_address 0) in
    let first = and_parts (is_suite (suite_in written)) (mac && host) are in
    let second = and_parts mac host first.1 in
    record { alone = eqb-true (slice_index written.controller_mac 0 % 2) 0 second.0; addressed = first.0 }

-- ---- times

record AreTimes (written : WrittenPlan) : Type 0 where
  clock_least : 1 ≤ written.send_clock_factor
  clock_greatest : written.send_clock_factor ≤ 128
  ratio_least : 1 ≤ written.reduction_ratio
  ratio_greatest : written.reduction_ratio ≤ 512
  hold_least : 1 ≤ written.data_hold_factor
  hold_greatest : written.data_hold_factor ≤ 7680

timed_in : (written : WrittenPlan) → are_times written ≡ true → AreTimes written
timed_in written are =
    let clock = nat_le 1 written.send_clock_factor && nat_le written.send_clock_factor 128 in
    let ratio = nat_le 1 written.reduction_ratio && nat_le written.reduction_ratio 512 in
    let hold = nat_le 1 written.data_hold_factor && nat_le written.data_hold_factor 7680 in
    let first = and_parts clock (ratio && hold) are in
    let second = and_parts ratio hold first.1 in
    let clocks = and_parts (nat_le 1 written.send_clock_factor) (nat_le written.send_clock_factor 128) first.0 in
    let ratios = and_parts (nat_le 1 written.reduction_ratio) (nat_le written.reduction_ratio 512) second.0 in
    let holds = and_parts (nat_le 1 written.data_hold_factor) (nat_le written.data_hold_factor 7680) second.1 in
    record {
      clock_least = leb-true 1 written.send_clock_factor clocks.0;
      clock_greatest = leb-true written.send_clock_factor 128 clocks.1;
      ratio_least = leb-true 1 written.reduction_ratio ratios.0;
      ratio_greatest = leb-true written.reduction_ratio 512 ratios.1;
      hold_least = leb-true 1 written.data_hold_factor holds.0;
      hold_greatest = leb-true written.data_hold_factor 7680 holds.1;
    }

-- ---- all of it

record AllParts (written : WrittenPlan) : Type 0 where
  times : AreTimes written
  names : AreNamed written
  addresses : AreAddressed written
  few_modules : written.module_count ≤ 16
  small_modules : list_all is_module (modules_in written) ≡ true
  some : 1 ≤ length (map module_of (modules_in written))
  ordered : AreOrdered (map module_of (modules_in written))
  few_records : written.record_count ≤ 32
  short_records : AllByRecursion IsShort (records_in written)

all_parts : (written : WrittenPlan) → is_written written ≡ true → AllParts written
all_parts written is =
    let modules = modules_in written in
    let past = list_all (λ (entry : WrittenRecord). not (entry.slot == 0)) (records_in written) in
    let records = list_all (is_record modules) (records_in written) in
    let first = and_parts (has_room written) (are_numbers written && (are_named written && (are_addresses written && (are_placed written && are_low written)))) is in
    let second = and_parts (are_numbers written) (are_named written && (are_addresses written && (are_placed written && are_low written))) first.1 in
    let third = and_parts (are_named written) (are_addresses written && (are_placed written && are_low written)) second.1 in
    let fourth = and_parts (are_addresses written) (are_placed written && are_low written) third.1 in
    let fifth = and_parts (are_placed written) (are_low written) fourth.1 in
    let room = and_parts (nat_le written.module_count 16) (list_all is_module modules && nat_le written.record_count 32) first.0 in
    let lists = and_parts (list_all is_module modules) (nat_le written.record_count 32) room.1 in
    let told = and_parts (is_told written.identity) (are_times written && (list_all is_sound modules && records)) second.0 in
    let numbers = and_parts (are_times written) (list_all is_sound modules && records) told.1 in
    let sound = and_parts (list_all is_sound modules) records numbers.1 in
    let placed = and_parts (are_ordered modules) past fifth.0 in
    let ordered = all_ordered modules placed.0 in
    record {
      times = timed_in written numbers.0;
      names = named_in written third.0;
      addresses = addressed_in written fourth.0;
      few_modules = leb-true written.module_count 16 room.0;
      small_modules = lists.0;
      some = ordered.0;
      ordered = record { slots = ordered.1; few = all_few modules fifth.1; subslots = all_rising modules sound.0 };
      few_records = leb-true written.record_count 32 lists.1;
      short_records = all_short modules (records_in written) sound.1;
    }

-- A plan in which no fault is found is in its ranges.
handled : (a b c d e f : Bool) (rest : ℕ)
    → ((if not a then 38 else (if not b then 36 else (if not c then 41 else (if not d then 42 else (if not e then 37 else (if not f then 38 else rest)))))) == 0) ≡ true
    → ((a && (b && (c && (d && (e && f))))) ≡ true) × ((rest == 0) ≡ true)
handled true true true true true true rest is = (refl, is)
handled true true true true true false rest is = cc
handled true true true true false f rest is = cc
handled true true true false e f rest is = cc
handled true true false d e f rest is = cc
handled true false c d e f rest is = cc
handled false b c d e f rest is = cc

pub planned_in : (written : WrittenPlan) → is_plan written ≡ true → (is_written written ≡ true) × ((fault_of_length (plan_of (parts_of written)) == 0) ≡ true)
planned_in written is =
    handled (has_room written) (are_numbers written) (are_named written) (are_addresses written) (are_placed written) (are_low written)
    (fault_of_length (plan_of (parts_of written))) is

-- What is too long has the number of the fault.
pub of_lengths : (read : Result Parts TooLong) → length_number (long_of read) ≡ fault_of_length read
of_lengths (Ok parts) = refl
of_lengths (Err Frame) = refl
of_lengths (Err Connect) = refl

-- What its parts are made from.
pub written_in : (written : WrittenPlan) → is_written written ≡ true → IsWritten written
written_in written is =
    let all = all_parts written is in
    record {
      few_octets = all.names.few_octets;
      named = all.names.named;
      few_controller_octets = all.names.few_controller_octets;
      controlled = all.names.controlled;
      addressed = all.addresses.addressed;
      few_modules = all.few_modules;
      small_modules = all.small_modules;
      few_records = all.few_records;
      short_records = all.short_records;
    }

-- With both names they are those of a plan.
pub good_in : (written : WrittenPlan) → is_written written ≡ true → IsStationName (name_in written) → IsStationName (controller_name_in written) → AreParts (parts_of written)
good_in written is named controlled =
    let all = all_parts written is in
    record {
      named = named;
      controlled = controlled;
      alone = all.addresses.alone;
      clock_least = all.times.clock_least;
      clock_greatest = all.times.clock_greatest;
      ratio_least = all.times.ratio_least;
      ratio_greatest = all.times.ratio_greatest;
      hold_least = all.times.hold_least;
      hold_greatest = all.times.hold_greatest;
      plugged = all.some;
      ordered = all.ordered;
    }

-- ---- a plan

-- Then nothing is too long.
fitting : (do_frames_fit does_connect_fit : Bool) (parts : Parts)
    → (fault_of_length (if not do_frames_fit then Err Frame else if not does_connect_fit then Err Connect else Ok parts) == 0) ≡ true
    → (do_frames_fit ≡ true) × (does_connect_fit ≡ true)
fitting true true parts is = (refl, refl)
fitting true false parts is = cc
fitting false does_connect_fit parts is = cc

taken_few : {A : Type 0} (n : ℕ) (xs : List A) → length (take n xs) ≤ n
taken_few n xs = subst (λ len. len ≤ n) (sym (length-take n xs)) (min-le_left n (length xs))

data_length : (slot : ℕ) (submodules : List RealSubmodule) → length (data_in_slot slot submodules) ≡ length submodules
data_length slot [] = refl
data_length slot (part ∷ submodules) = omega (arith, data_length slot submodules)

-- A module has at most four submodules.
data_few : (slot : ℕ) (submodules : List Submodule) → length submodules ≤ 4 → length (data_in_slot slot (map submodule_of submodules)) ≤ 4
data_few slot submodules few = omega (arith, data_length slot (map submodule_of submodules), length-map submodules submodule_of, few)

-- N modules have at most 4 N submodules.
all_data_few : (modules : List Module) → list_all is_module modules ≡ true → length (data_of (map module_of modules)) ≤ 4 * length modules
all_data_few [] are = omega arith
all_data_few (entry ∷ modules) are =
    let parts = and_parts (is_module entry) (list_all is_module modules) are in
    let own = and_parts (nat_le entry.submodule_count 4) (list_all is_submodule (submodules_in entry)) parts.0 in
    let count : entry.submodule_count ≤ 4 = leb-true entry.submodule_count 4 own.0 in
    let few : length (submodules_in entry) ≤ 4 = omega (arith, taken_few entry.submodule_count entry.submodules, count) in
    let first = data_few entry.slot (submodules_in entry) few in
    let rest = all_data_few modules parts.1 in
    omega (arith, length-append (data_in_slot entry.slot (map submodule_of (submodules_in entry))) (data_of (map module_of modules)), first, rest)

-- Each record has at most 64 octets.
records_short : (records : List WrittenRecord) → AllByRecursion IsShort records → AreShort (map record_of records)
records_short [] all = tt
records_short (entry ∷ records) all = (omega (arith, taken_few entry.length entry.octets, all.0), records_short records all.1)

-- A plan that a host wrote, and that has no fault, is a plan.
pub plan_in : (written : WrittenPlan) → is_plan written ≡ true → IsStationName (name_in written) → IsStationName (controller_name_in written) → IsPlan (parts_of written)
plan_in written is named controlled =
    let found = planned_in written is in
    let all = all_parts written found.0 in
    let parts = parts_of written in
    let fits = fitting (do_frames_fit parts) (does_connect_fit parts) parts found.1 in
    let modules : length (modules_in written) ≤ 16 = omega (arith, taken_few written.module_count written.modules, all.few_modules) in
    record {
      good = good_in written found.0 named controlled;
      few_modules = omega (arith, length-map (modules_in written) module_of, modules);
      few_submodules = omega (arith, all_data_few (modules_in written) all.small_modules, modules);
      few_records = omega (arith, length-map (records_in written) record_of, taken_few written.record_count written.records, all.few_records);
      short_records = records_short (records_in written) all.short_records;
      input = leb-true _ 1440 (and_parts _ _ fits.0).0;
      output = leb-true _ 1440 (and_parts _ _ fits.0).1;
      connect = fits.1;
    }
