-- No count of a station without a fault is greater than its list can hold.
use Rattle.std.proofs.Common.{◌≡◌, ◌≤◌, ◌==◌, ℕ, Bool, true, false, List, [], length, refl, sym, ap, ◌∙◌}
use Rattle.std.specs.Prelude.{◌&&◌, is_ok, nat_le, nat_lt, not, Err, Ok, Option, None, Result, Some, if◌then◌else◌}
use Rattle.std.specs.List.{list_all}
use Rattle.std.proofs.lemmas.Bool.{and_parts, leb-true}
use Rattle.c_layout.specs.Modules.{is_module}
use Rattle.device_abi.specs.declared.c_station.Station.{Station}
use Rattle.asked_records.specs.declared.names.NameFault.{NameFault}
use Rattle.asked_records.specs.declared.names.RecordName.{RecordName}
use Rattle.asked_records.specs.declared.names.NameFault.TheVariants.{TooMany}
use Rattle.asked_records.specs.Names.{first_fault, most_names, named_of, named_unless}
use Rattle.device_abi.specs.Stations.{are_slots, has_interval, has_names, has_room, is_carried, is_described, is_parted, is_single, is_station, modules_in}

first_of : (has_room : Bool) (rest : ℕ) → ((if not has_room then 4 else rest) == 0) ≡ true → has_room ≡ true
first_of true rest is = refl
first_of false rest is = cc

named_of_last : (named : Bool) → ((if not named then 46 else 0) == 0) ≡ true → named ≡ true
named_of_last true is = refl
named_of_last false is = cc

-- Each count.
pub record IsSmall (station : Station) : Type 0 where
  pub station_type : station.station_type_length ≤ 25
  pub modules : station.module_count ≤ 16
  pub counted : list_all is_module (modules_in station) ≡ true
  pub records : station.record_count ≤ 16

pub station_small : (station : Station) → is_station station ≡ true → IsSmall station
station_small station is =
    let room = first_of (has_room station) _ is in
    let parts = and_parts (nat_le station.station_type_length 25) (nat_le station.module_count 16 && (list_all is_module (modules_in station) && nat_le station.record_count 16)) room in
    let others = and_parts (nat_le station.module_count 16) (list_all is_module (modules_in station) && nat_le station.record_count 16) parts.1 in
    let last = and_parts (list_all is_module (modules_in station)) (nat_le station.record_count 16) others.1 in
    record {
      station_type = leb-true station.station_type_length 25 parts.0;
      modules = leb-true station.module_count 16 others.0;
      counted = last.0;
      records = leb-true station.record_count 16 last.1;
    }

-- The fault of the records is the last one: without any fault there is not this one either.
last_of : (room single slots parted carried described interval named : Bool)
    → ((if not room then 4 else (if not single then 18 else (if not slots then 19 else (if not parted then 20 else (if not carried then 21 else
    (if not described then 22 else (if not interval then 23 else (if not named then 46 else 0)))))))) == 0) ≡ true → named ≡ true
last_of true true true true true true true named is = named_of_last named is
last_of false single slots parted carried described interval named is = cc
last_of true false slots parted carried described interval named is = cc
last_of true true false parted carried described interval named is = cc
last_of true true true false carried described interval named is = cc
last_of true true true true false described interval named is = cc
last_of true true true true true false interval named is = cc
last_of true true true true true true false named is = cc

pub station_named : (station : Station) → is_station station ≡ true → has_names station ≡ true
station_named station is = last_of (has_room station) (is_single station) (are_slots (modules_in station)) (list_all is_parted (modules_in station))
    (list_all is_carried (modules_in station)) (list_all is_described (modules_in station)) (has_interval station) (has_names station) is

-- The records of a list without a fault are its own.
named_by : (is_long : Bool) (names : List RecordName) (fault : Option NameFault) (read : List RecordName) → (if is_long then Err TooMany else named_unless names fault) ≡ Ok read → read ≡ names
named_by true names fault read is = absurd cc
named_by false names (Some fault) read is = absurd cc
named_by false names None read is = cc

pub named_are : (names read : List RecordName) → named_of names ≡ Ok read → read ≡ names
named_are names read is = named_by (nat_lt most_names (length names)) names (first_fault [] names) read is

-- A list without a fault is not refused.
pub never_refused : {A : Type 0} (names : List RecordName) (fault : NameFault) → is_ok (named_of names) ≡ true → named_of names ≡ Err fault → A
never_refused names fault fine is = let e : ◌≡◌ {A = Bool} false true = sym (ap (λ (r : Result (List RecordName) NameFault). is_ok r) is) ∙ fine in absurd cc
