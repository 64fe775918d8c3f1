-- The Connect of a plan, read at its places.
use Rattle.std.proofs.Common.{◌≡◌, ◌+◌, ◌<◌, ◌≤◌, ◌++◌, ℕ, List, [], ◌∷◌, length, map, Option, Some, None, refl, sym, ap, ◌∙◌, subst, arith}
use Rattle.std.specs.List.{AllByRecursion}
use Rattle.std.proofs.lemmas.List.Sums.{sum_by-cons}
use Rattle.pn_values.specs.declared.real.RealModule.{RealModule}
use Rattle.pn_values.specs.declared.real.RealSubmodule.{RealSubmodule}
use Rattle.connect_blocks.specs.declared.iocr.IocrType.{IocrType}
use Rattle.connect_blocks.specs.declared.iocr.IocrType.TheVariants.{Input, Output}
use Rattle.cyclic_data.specs.declared.place.ExpectedData.{ExpectedData}
use Rattle.cyclic_data.specs.declared.place.Place.{Place}
use Rattle.cyclic_data.specs.declared.place.PlaceKind.{PlaceKind}
use Rattle.cyclic_data.specs.declared.place.PlaceKind.TheVariants.{Data, Iocs}
use Rattle.cyclic_data.specs.Places.{taken}
use Rattle.block_codec.specs.declared.block.Block.TheVariants as is
use Rattle.block_codec.specs.Block.{block_bytes}
use Rattle.plans.specs.declared.parts.Parts.{Parts}
use Rattle.plans.specs.Connect.{bytes_of, connect_of, expected_block, expected_blocks}
use Rattle.plans.specs.Packed.{frame_octets, object_of, octets_in, octets_of, packed, place_at}
use Rattle.plans.specs.Parts.{data_in_slot, data_of}
use Rattle.plans.specs.Plan.{IsPlan}
use Rattle.fields_law.specs.Blocks.{after_block, first_block}
use Rattle.fields_law.specs.Connect.{IsAlarmRequest, IsCyclicRequest, IsExpectedRequest, IsRelationRequest, IsSizedAlarm, IsSizedCyclic, IsSizedModule, IsSizedPlace, IsSizedRelation, IsSizedSubmodule}
use Rattle.fields_law.specs.Planned.{AreExpected, IsConnect, IsSizedPlan, alarms_of, cyclic_of, id_in, reference_in, relation_of}
use Rattle.fields_law.proofs.ReadingBlocks.{AreLong, after_is, first_is}
use Rattle.fields_law.proofs.ReadingConnect.{alarm_few, alarm_inside, alarm_made, alarm_read, cyclic_few, cyclic_inside, cyclic_made, cyclic_read, expected_few, expected_inside, expected_made, expected_read, relation_few, relation_inside, relation_made, relation_read}

-- ---- the places fit

module _ (direction : IocrType) (kind : PlaceKind) where
  one_place : (offset : ℕ) (sub : ExpectedData) (size : Option ℕ) (more : List Place) → (sub.slot < 65536) × (sub.subslot < 65536) → offset < 65536
      → AllByRecursion IsSizedPlace (map object_of more) → AllByRecursion IsSizedPlace (map object_of (place_at kind offset sub size ++ more))
  one_place offset sub None more fits few all = all
  one_place offset sub (Some size) more fits few all = (record { slot = fits.0; subslot = fits.1; offset = few }, all)

  one_more : (offset : ℕ) (sub : ExpectedData) (size : Option ℕ) (more : List Place)
      → length (map object_of (place_at kind offset sub size ++ more)) ≤ 1 + length (map object_of more)
  one_more offset sub None more = omega arith
  one_more offset sub (Some size) more = omega arith

  places_fit : (offset : ℕ) (subs : List ExpectedData) → AllByRecursion (λ (sub : ExpectedData). (sub.slot < 65536) × (sub.subslot < 65536)) subs
      → offset + octets_of direction kind subs < 65536 → AllByRecursion IsSizedPlace (map object_of (packed direction kind offset subs))
  places_fit offset [] all few = tt
  places_fit offset (sub ∷ subs) all few =
      let sum = sum_by-cons (octets_in direction kind) sub subs in
      one_place offset sub (taken direction kind sub.io_data) (packed direction kind (offset + octets_in direction kind sub) subs) all.0
      (omega (arith, sum, few)) (places_fit (offset + octets_in direction kind sub) subs all.1 (omega (arith, sum, few)))

  places_few : (offset : ℕ) (subs : List ExpectedData) → length (map object_of (packed direction kind offset subs)) ≤ length subs
  places_few offset [] = omega arith
  places_few offset (sub ∷ subs) =
      let one = one_more offset sub (taken direction kind sub.io_data) (packed direction kind (offset + octets_in direction kind sub) subs) in
      let others = places_few (offset + octets_in direction kind sub) subs in
      omega (arith, one, others)

parts_sized : (slot : ℕ) (parts : List RealSubmodule) (more : List ExpectedData) → slot < 65536 → AllByRecursion IsSizedSubmodule parts
    → AllByRecursion (λ (sub : ExpectedData). (sub.slot < 65536) × (sub.subslot < 65536)) more
    → AllByRecursion (λ (sub : ExpectedData). (sub.slot < 65536) × (sub.subslot < 65536)) (data_in_slot slot parts ++ more)
parts_sized slot [] more fits all others = others
parts_sized slot (part ∷ parts) more fits all others = ((fits, all.0.subslot), parts_sized slot parts more fits all.1 others)

data_sized : (modules : List RealModule) → AllByRecursion IsSizedModule modules
    → AllByRecursion (λ (sub : ExpectedData). (sub.slot < 65536) × (sub.subslot < 65536)) (data_of modules)
data_sized [] all = tt
data_sized (entry ∷ modules) all =
    parts_sized entry.slot entry.submodules.items (data_of modules) all.0.slot all.0.submodules (data_sized modules all.1)

-- ---- the fields of the blocks fit

module _ (parts : Parts) (ar : List ℕ) (plan : IsPlan parts) (uuid : length ar ≡ 16) (sized : IsSizedPlan parts) where
  abbrev subs : List ExpectedData
  subs = data_of parts.real.modules.items

  relation_sized : IsSizedRelation (relation_of parts ar)
  relation_sized = record {
    ar_uuid = uuid;
    session_key = omega arith;
    mac = sized.mac;
    object = refl;
    properties = omega arith;
    activity_timeout = omega arith;
    port = omega arith;
    name = plan.good.controlled.short;
  }

  reference_fits : (direction : IocrType) → reference_in direction < 65536
  reference_fits Input = omega arith
  reference_fits Output = omega arith

  id_fits : (direction : IocrType) → id_in direction < 65536
  id_fits Input = omega arith
  id_fits Output = omega arith

  frame_few : (direction : IocrType) → frame_octets direction subs ≤ 1440
  frame_few Input = plan.input
  frame_few Output = plan.output

  cyclic_sized : (direction : IocrType) → IsSizedCyclic (cyclic_of parts direction)
  cyclic_sized direction =
      let few = frame_few direction in
      let fit = data_sized parts.real.modules.items sized.modules in
      let clock = plan.good.clock_greatest in
      let ratio = plan.good.ratio_greatest in
      let hold = plan.good.hold_greatest in
      let count = plan.few_submodules in
      let objects = places_few direction Data 0 subs in
      let iocs = places_few direction Iocs (octets_of direction Data subs) subs in
      record {
        reference = reference_fits direction;
        data_length = omega (arith, few);
        frame_id = id_fits direction;
        send_clock_factor = omega (arith, clock);
        reduction_ratio = omega (arith, ratio);
        phase = omega arith;
        sequence = omega arith;
        frame_send_offset = omega arith;
        watchdog_factor = omega (arith, hold);
        data_hold_factor = omega (arith, hold);
        tag_header = omega arith;
        multicast = refl;
        objects = places_fit direction Data 0 subs fit (omega (arith, few));
        few_objects = omega (arith, objects, count);
        iocs = places_fit direction Iocs (octets_of direction Data subs) subs fit (omega (arith, few));
        few_iocs = omega (arith, iocs, count);
      }

alarms_sized : IsSizedAlarm alarms_of
alarms_sized = record {
  properties = omega arith;
  timeout_factor = omega arith;
  retries = omega arith;
  reference = omega arith;
  data_length = omega arith;
  tag_high = omega arith;
  tag_low = omega arith;
}

-- ---- the modules, one after another

expected_there : AreLong → (modules : List RealModule) → AllByRecursion IsSizedModule modules → AreExpected (bytes_of (expected_blocks modules)) modules
expected_there long [] all = refl
expected_there long (entry ∷ modules) all =
    let octets = block_bytes (is.ExpectedSubmoduleBlockReq (expected_block entry)) in
    let rest = bytes_of (expected_blocks modules) in
    let inside = expected_inside long entry all.0 in
    let made = expected_made long entry all.0 in
    let few = expected_few long entry all.0 in (
      subst (λ (xs : List ℕ). IsExpectedRequest xs entry) (sym (first_is 0x0104 inside rest octets made few)) (expected_read long entry all.0),
      subst (λ (xs : List ℕ). AreExpected xs modules) (sym (after_is 0x0104 inside rest octets made few)) (expected_there long modules all.1),
    )

-- ---- the whole

pub connect_is : AreLong → (parts : Parts) (ar : List ℕ) → IsPlan parts → length ar ≡ 16 → IsSizedPlan parts
    → IsConnect (connect_of parts ar) parts ar
connect_is long parts ar plan uuid sized =
    let modules = bytes_of (expected_blocks parts.real.modules.items) in
    let alarms = block_bytes (is.AlarmCrBlockReq alarms_of) in
    let outputs = block_bytes (is.IocrBlockReq (cyclic_of parts Output)) in
    let inputs = block_bytes (is.IocrBlockReq (cyclic_of parts Input)) in
    let relation = block_bytes (is.ArBlockReq (relation_of parts ar)) in
    let r = relation_sized parts ar plan uuid sized in
    let i = cyclic_sized parts ar plan uuid sized Input in
    let o = cyclic_sized parts ar plan uuid sized Output in
    let a = alarms_sized in
    let first_r : first_block (relation ++ (inputs ++ (outputs ++ (alarms ++ modules)))) ≡ relation =
    first_is 0x0101 (relation_inside long (relation_of parts ar) r) (inputs ++ (outputs ++ (alarms ++ modules))) relation
    (relation_made long (relation_of parts ar) r) (relation_few long (relation_of parts ar) r) in
    let after_r : after_block (relation ++ (inputs ++ (outputs ++ (alarms ++ modules)))) ≡ inputs ++ (outputs ++ (alarms ++ modules)) =
    after_is 0x0101 (relation_inside long (relation_of parts ar) r) (inputs ++ (outputs ++ (alarms ++ modules))) relation
    (relation_made long (relation_of parts ar) r) (relation_few long (relation_of parts ar) r) in
    let first_i : first_block (inputs ++ (outputs ++ (alarms ++ modules))) ≡ inputs =
    first_is 0x0102 (cyclic_inside long (cyclic_of parts Input) i) (outputs ++ (alarms ++ modules)) inputs
    (cyclic_made long (cyclic_of parts Input) i) (cyclic_few long (cyclic_of parts Input) i) in
    let after_i : after_block (inputs ++ (outputs ++ (alarms ++ modules))) ≡ outputs ++ (alarms ++ modules) =
    after_is 0x0102 (cyclic_inside long (cyclic_of parts Input) i) (outputs ++ (alarms ++ modules)) inputs
    (cyclic_made long (cyclic_of parts Input) i) (cyclic_few long (cyclic_of parts Input) i) in
    let first_o : first_block (outputs ++ (alarms ++ modules)) ≡ outputs =
    first_is 0x0102 (cyclic_inside long (cyclic_of parts Output) o) (alarms ++ modules) outputs
    (cyclic_made long (cyclic_of parts Output) o) (cyclic_few long (cyclic_of parts Output) o) in
    let after_o : after_block (outputs ++ (alarms ++ modules)) ≡ alarms ++ modules =
    after_is 0x0102 (cyclic_inside long (cyclic_of parts Output) o) (alarms ++ modules) outputs
    (cyclic_made long (cyclic_of parts Output) o) (cyclic_few long (cyclic_of parts Output) o) in
    let first_a : first_block (alarms ++ modules) ≡ alarms =
    first_is 0x0103 (alarm_inside long alarms_of a) modules alarms (alarm_made long alarms_of a) (alarm_few long alarms_of a) in
    let after_a : after_block (alarms ++ modules) ≡ modules =
    after_is 0x0103 (alarm_inside long alarms_of a) modules alarms (alarm_made long alarms_of a) (alarm_few long alarms_of a) in
    let two : after_block (after_block (relation ++ (inputs ++ (outputs ++ (alarms ++ modules))))) ≡ outputs ++ (alarms ++ modules) =
    ap after_block after_r ∙ after_i in
    let three : after_block (after_block (after_block (relation ++ (inputs ++ (outputs ++ (alarms ++ modules)))))) ≡ alarms ++ modules =
    ap after_block two ∙ after_o in
    record {
      relation = subst (λ (xs : List ℕ). IsRelationRequest xs (relation_of parts ar)) (sym first_r) (relation_read long (relation_of parts ar) r);
      inputs =
          subst (λ (xs : List ℕ). IsCyclicRequest xs (cyclic_of parts Input)) (sym (ap first_block after_r ∙ first_i))
          (cyclic_read long (cyclic_of parts Input) i);
      outputs =
          subst (λ (xs : List ℕ). IsCyclicRequest xs (cyclic_of parts Output)) (sym (ap first_block two ∙ first_o))
          (cyclic_read long (cyclic_of parts Output) o);
      alarms = subst (λ (xs : List ℕ). IsAlarmRequest xs alarms_of) (sym (ap first_block three ∙ first_a)) (alarm_read long alarms_of a);
      modules =
          subst (λ (xs : List ℕ). AreExpected xs parts.real.modules.items) (sym (ap after_block three ∙ after_a))
          (expected_there long parts.real.modules.items sized.modules);
    }
