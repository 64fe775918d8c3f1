-- The blocks of a Connect are accepted.
use Rattle.std.proofs.Common.{◌≡◌, ℕ, ◌+◌, ◌<◌, ◌≤◌, ◌==◌, true, false, List, [], ◌∷◌, ◌++◌, map, length, take, Option, Some, None, option_map, unwrap_or, refl, sym, ap, subst, ◌∙◌, arith}
use Rattle.std.specs.Prelude.{IfSome}
use Rattle.std.specs.List.{AllByRecursion, IsDistinct}
use Rattle.std.proofs.lemmas.Bool.{eqb-true, false_from_ne_true}
use Rattle.std.proofs.lemmas.List.{length-map}
use Rattle.std.proofs.lemmas.List.Sums.{sum_by-cons}
use Rattle.std.proofs.Math.Nat.{le-max_left, max-le}
use Rattle.std.proofs.Math.Seq.{take-length}
use Rattle.pn_values.specs.declared.real.RealModule.{RealModule}
use Rattle.pn_values.specs.declared.real.RealSubmodule.{RealSubmodule}
use Rattle.connect_blocks.specs.declared.iocr.IocrType.{IocrType}
use Rattle.connect_blocks.specs.declared.iocr.IocrType.TheVariants.{Input, Output}
use Rattle.connect_blocks.specs.ArBlock.{IsArBlockReq, is_some_uuid}
use Rattle.connect_blocks.specs.Iocr.{IsIocrBlockReq, is_frame_id}
use Rattle.connect_blocks.specs.AlarmCr.{IsAlarmCrBlockReq}
use Rattle.connect_blocks.specs.declared.expected.ExpectedSubmodule.{ExpectedSubmodule}
use Rattle.connect_blocks.specs.Expected.{IsExpectedSubmoduleBlockReq, IsShort, own_of}
use Rattle.block_codec.specs.declared.block.Block.TheVariants as is
use Rattle.cyclic_data.specs.declared.place.PlaceKind.TheVariants.{Data}
use Rattle.cyclic_data.specs.declared.place.ExpectedData.{ExpectedData}
use Rattle.cyclic_data.specs.Places.{input_of}
use Rattle.plans.specs.declared.parts.Parts.{Parts}
use Rattle.plans.specs.Packed.{frame_octets, octets_in, octets_of}
use Rattle.plans.specs.Parts.{AreParts, IsRising, data_in_slot, data_of, io_data_of, module_of, submodule_of, subslots_of}
use Rattle.plans.specs.Connect.{IsRead, alarm_block, ar_block, asked_id, blocks_of, expected_block, expected_blocks, iocr_block}
use Rattle.plans.specs.Plan.{IsPlan}
use Rattle.plans.proofs.Distinct.{all_mapped, all_of_mapped, all_so}

-- ---- the relations

pub ar_accepted : (parts : Parts) (ar : List ℕ) → AreParts parts → is_some_uuid ar ≡ true → IsArBlockReq (ar_block parts ar)
ar_accepted parts ar good some = record { uuid = some; address = rw good.alone refl; least = omega arith; greatest = omega arith }

id_asked : (direction : IocrType) → is_frame_id direction (asked_id direction) ≡ true
id_asked Input = refl
id_asked Output = refl

pub iocr_accepted : (parts : Parts) (direction : IocrType) → AreParts parts → frame_octets direction (data_of parts.real.modules.items) ≤ 1440
    → IsIocrBlockReq (iocr_block parts direction)
iocr_accepted parts direction good short = record {
  data_least = le-max_left 40 (frame_octets direction (data_of parts.real.modules.items));
  data_greatest = max-le (omega arith) short;
  id = id_asked direction;
  clock_least = good.clock_least;
  clock_greatest = good.clock_greatest;
  ratio_least = good.ratio_least;
  ratio_greatest = good.ratio_greatest;
  hold_least = good.hold_least;
  hold_greatest = good.hold_greatest;
}

pub alarm_accepted : IsAlarmCrBlockReq alarm_block
alarm_accepted = record { timeout = omega arith; retries_least = omega arith; retries_greatest = omega arith; data_least = omega arith; data_greatest = omega arith }

-- ---- the cyclic data of submodules is not too long

short_input : (input output : Option ℕ) → unwrap_or (option_map (λ (size : ℕ). size + 1) (input_of input output)) 0 ≤ 1440 → IfSome input (λ octets. octets ≤ 1440)
short_input None output below = tt
short_input (Some input) output below = omega (arith, below)

short_output : (output : Option ℕ) → unwrap_or (option_map (λ (size : ℕ). size + 1) output) 0 ≤ 1440 → IfSome output (λ octets. octets ≤ 1440)
short_output None below = tt
short_output (Some output) below = omega (arith, below)

one_short : (sub : ExpectedData) → octets_in Input Data sub ≤ 1440 → octets_in Output Data sub ≤ 1440 → IsShort sub.io_data
one_short sub input output = (short_input sub.io_data.input sub.io_data.output input, short_output sub.io_data.output output)

all_short : (subs : List ExpectedData) → octets_of Input Data subs ≤ 1440 → octets_of Output Data subs ≤ 1440 → AllByRecursion (λ sub. IsShort sub.io_data) subs
all_short [] input output = tt
all_short (sub ∷ subs) input output =
    let one = sum_by-cons (octets_in Input Data) sub subs in
    let other = sum_by-cons (octets_in Output Data) sub subs in
    (one_short sub (omega (arith, one, input)) (omega (arith, other, output)), all_short subs (omega (arith, one, input)) (omega (arith, other, output)))

pub all_front : {A : Type 0} (P : A → Type 0) (xs ys : List A) → AllByRecursion P (xs ++ ys) → AllByRecursion P xs
all_front P [] ys all = tt
all_front P (x ∷ xs) ys all = (all.0, all_front P xs ys all.1)

pub all_back : {A : Type 0} (P : A → Type 0) (xs ys : List A) → AllByRecursion P (xs ++ ys) → AllByRecursion P ys
all_back P [] ys all = all
all_back P (x ∷ xs) ys all = all_back P xs ys all.1

-- ---- what is expected

other_number : (m n : ℕ) → m < n → (m == n) ≡ false
other_number m n below = false_from_ne_true (m == n) (λ t. let e = eqb-true m n t in absurd (omega (arith, e, below)))

subslots_differ : (parts : List RealSubmodule) → IsRising (map (λ (part : RealSubmodule). part.subslot) parts)
    → IsDistinct (λ (one other : ExpectedSubmodule). one.subslot_number == other.subslot_number) (map submodule_of parts)
unfolding IsDistinct
subslots_differ [] rising = tt
subslots_differ (part ∷ parts) rising = (
  all_mapped (λ (other : ExpectedSubmodule). (part.subslot == other.subslot_number) ≡ false) submodule_of parts
      (all_so (λ (other : RealSubmodule). part.subslot < other.subslot) (λ (other : RealSubmodule). (part.subslot == other.subslot) ≡ false) parts
      (λ other below. other_number part.subslot other.subslot below)
      (all_of_mapped (λ (n : ℕ). part.subslot < n) (λ (other : RealSubmodule). other.subslot) parts rising.0)),
  subslots_differ parts rising.1,
)

all_own : (parts : List RealSubmodule) → take (length parts) (map submodule_of parts) ≡ map submodule_of parts
all_own parts =
    ap (λ (n : ℕ). take n (map submodule_of parts)) (sym (length-map parts submodule_of)) ∙ take-length (map submodule_of parts)

expected_accepted : (entry : RealModule) → IsRising (subslots_of entry) → AllByRecursion (λ part. IsShort (io_data_of part)) entry.submodules.items
    → IsExpectedSubmoduleBlockReq (expected_block entry)
unfolding IsDistinct
expected_accepted entry rising short = record {
  counted = let one = sum_by-cons own_of (module_of entry) [] in let other = length-map entry.submodules.items submodule_of in omega (arith, one, other);
  slots = (tt, tt);
  subslots = (
    subst (λ (subs : List ExpectedSubmodule). IsDistinct (λ (one other : ExpectedSubmodule). one.subslot_number == other.subslot_number) subs)
        (sym (all_own entry.submodules.items)) (subslots_differ entry.submodules.items rising),
    tt,
  );
  short = all_mapped (λ (part : ExpectedSubmodule). IsShort part.io_data) submodule_of entry.submodules.items short;
}

pub all_expected_accepted : (modules : List RealModule) → AllByRecursion (λ entry. IsRising (subslots_of entry)) modules
    → AllByRecursion (λ sub. IsShort sub.io_data) (data_of modules) → AllByRecursion (λ entry. IsExpectedSubmoduleBlockReq (expected_block entry)) modules
all_expected_accepted [] rising short = tt
all_expected_accepted (entry ∷ modules) rising short = (
  expected_accepted entry rising.0
      (all_of_mapped (λ (sub : ExpectedData). IsShort sub.io_data)
      (λ (part : RealSubmodule). record { slot = entry.slot; subslot = part.subslot; io_data = io_data_of part }) entry.submodules.items
      (all_front (λ (sub : ExpectedData). IsShort sub.io_data) (data_in_slot entry.slot entry.submodules.items) (data_of modules) short)),
  all_expected_accepted modules rising.1 (all_back (λ (sub : ExpectedData). IsShort sub.io_data) (data_in_slot entry.slot entry.submodules.items) (data_of modules) short),
)

pub modules_accepted : (parts : Parts) → IsPlan parts → AllByRecursion (λ entry. IsExpectedSubmoduleBlockReq (expected_block entry)) parts.real.modules.items
modules_accepted parts plan =
    let input = plan.input in
    let output = plan.output in
    all_expected_accepted parts.real.modules.items plan.good.ordered.subslots
    (all_short (data_of parts.real.modules.items) (omega (arith, input)) (omega (arith, output)))

-- ---- all blocks

pub all_read : (parts : Parts) (ar : List ℕ) → IsPlan parts → is_some_uuid ar ≡ true
    → (IsArBlockReq (ar_block parts ar) → IsRead (is.ArBlockReq (ar_block parts ar)))
    → (IsIocrBlockReq (iocr_block parts Input) → IsRead (is.IocrBlockReq (iocr_block parts Input)))
    → (IsIocrBlockReq (iocr_block parts Output) → IsRead (is.IocrBlockReq (iocr_block parts Output)))
    → (IsAlarmCrBlockReq alarm_block → IsRead (is.AlarmCrBlockReq alarm_block))
    → (AllByRecursion (λ entry. IsExpectedSubmoduleBlockReq (expected_block entry)) parts.real.modules.items → AllByRecursion IsRead (expected_blocks parts.real.modules.items))
    → AllByRecursion IsRead (blocks_of parts ar)
all_read parts ar plan some one input output alarm expected = (
  one (ar_accepted parts ar plan.good some),
  (
    input (iocr_accepted parts Input plan.good plan.input),
    (output (iocr_accepted parts Output plan.good plan.output), (alarm alarm_accepted, expected (modules_accepted parts plan))),
  ),
)
