-- What the Connect of a plan asks for.
use Rattle.std.proofs.Common.{◌≡◌, ℕ, suc, ◌+◌, ◌-◌, ◌<◌, ◌≤◌, ◌^◌, ◌==◌, ◌&&◌, ◌||◌, Bool, true, false, not, lit<, List, [], ◌∷◌, ◌++◌, map, length, Option, Some, None, is_some, Result, Ok, append_assoc, append-nil, length-append, refl, ap, subst, ◌∙◌, arith}
use Rattle.std.specs.List.{AllByRecursion, list_any}
use Rattle.std.proofs.lemmas.Bool.{le-ltb, or_from}
use Rattle.std.proofs.lemmas.List.{length-map}
use Rattle.std.proofs.lemmas.List.Folds.{list_any-append}
use Rattle.pn_values.specs.declared.real.RealModule.{RealModule}
use Rattle.pn_values.specs.declared.real.RealSubmodule.{RealSubmodule}
use Rattle.wire.specs.Codec.{◌>>=◌}
use Rattle.connect_blocks.specs.declared.iocr.IocrType.{IocrType}
use Rattle.connect_blocks.specs.declared.iocr.IocrType.TheVariants.{Input, Output}
use Rattle.connect_blocks.specs.declared.iocr.IocrBlockReq.{IocrBlockReq}
use Rattle.connect_blocks.specs.declared.ar_block.ArBlockReq.{ArBlockReq}
use Rattle.byteorder.specs.Endian.{big_number}
use Rattle.wire.specs.Checks.{or_fault}
use Rattle.records.specs.declared.status.call_fault.CallFault.TheVariants as faults
use Rattle.connect_blocks.specs.declared.expected.ExpectedModule.{ExpectedModule}
use Rattle.connect_blocks.specs.declared.expected.ExpectedSubmodule.{ExpectedSubmodule}
use Rattle.block_codec.specs.declared.block.Block.{Block}
use Rattle.block_codec.specs.declared.block.Block.TheVariants as is
use Rattle.block_codec.specs.declared.block_type.BlockType.TheVariants as kind
use Rattle.block_codec.specs.Kinds.{number_of}
use Rattle.block_codec.specs.Block.{block_bytes, block_of, in_ar_block_req}
use Rattle.cyclic_data.specs.declared.place.PlaceKind.TheVariants.{Data, Iocs}
use Rattle.cyclic_data.specs.declared.place.Place.{Place}
use Rattle.cyclic_data.specs.declared.place.ExpectedData.{ExpectedData}
use Rattle.cyclic_data.specs.Places.{asked}
use Rattle.cyclic_data.specs.Layout.{IsLayout}
use Rattle.records.specs.declared.status.call_fault.CallFault.{CallFault}
use Rattle.records.specs.calls.Handled.{handled}
use Rattle.connects.specs.declared.requests.parts.AlarmCr.{AlarmCr}
use Rattle.connects.specs.requests.Pieces.{block_in, piece_at, pieces_in}
use Rattle.connects.specs.requests.Layouts.{data_of as asked_of, layout_at, layout_of}
use Rattle.connects.specs.requests.Request.{alarm_of, ar_of}
use Rattle.connects.specs.requests.Handled.{Sofar, asked_initiator, initiator_in, ar_in, expected_with, is_further, nothing, request_behind, request_in, request_of, request_with, well_formed, with_pieces}
use Rattle.plans.specs.declared.parts.Parts.{Parts}
use Rattle.plans.specs.Packed.{layout_in, object_of, octets_of, packed, packed_places}
use Rattle.plans.specs.Parts.{AreOrdered, IsRising, data_in_slot, data_of, module_of, slots_of, submodule_of}
use Rattle.plans.specs.Connect.{IsRead, alarm_block, ar_block, blocks_of, bytes_of, connect_of, expected_block, expected_blocks, iocr_block}
use Rattle.plans.specs.Plan.{IsPlan}
use Rattle.both_ends.specs.startup.request.Request.{expected_of, request_for, submodules_in}
use Rattle.both_ends.proofs.StartupRequestSame.{other_number, same_data}
use Rattle.both_ends.proofs.StartupRequestFold.{AreTaken, IsTaken, as_many, block_left, four_at_least, number_in_front, taken_all}

-- ---- what was read so far

-- With these communication relations, and these modules expected.
abbrev sofar_with : Option IocrBlockReq → Option IocrBlockReq → Bool → Option AlarmCr → Bool → List ExpectedModule → List ExpectedSubmodule → Sofar
sofar_with input output first alarm has modules submodules = record {
  input = input;
  output = output;
  input_first = first;
  alarm = alarm;
  has_expected = has;
  expected = record { modules = record { items = modules }; submodules = record { items = submodules } };
}

-- ---- what is expected, slot by slot

-- No module is expected in the slot yet.
abbrev IsFree : List ExpectedModule → RealModule → Type 0
IsFree before entry = list_any (λ (other : ExpectedModule). other.slot_number == entry.slot) before ≡ false

handled_three : {A : Type 0} (a b c : Bool) (x y z : CallFault) (otherwise : Result A CallFault) → a ≡ false → b ≡ false → c ≡ false
    → handled ((a, x) ∷ (b, y) ∷ (c, z) ∷ []) otherwise ≡ otherwise
handled_three a b c x y z otherwise e f g = rw (e, f, g) refl

handled_two : {A : Type 0} (a b : Bool) (x y : CallFault) (otherwise : Result A CallFault) → a ≡ false → b ≡ false → handled ((a, x) ∷ (b, y) ∷ []) otherwise ≡ otherwise
handled_two a b x y otherwise e f = rw (e, f) refl

one_expected : (before : List ExpectedModule) (submodules : List ExpectedSubmodule) (entry : RealModule) → IsFree before entry
    → length before + 1 ≤ 64 → length submodules + length entry.submodules.items ≤ 64
    → expected_with (record { modules = record { items = before }; submodules = record { items = submodules } }) (expected_block entry).modules
    ≡ Ok (record {
      modules = record { items = before ++ module_of entry ∷ [] };
      submodules = record { items = submodules ++ map submodule_of entry.submodules.items };
    })
one_expected before submodules entry free few_modules few_submodules =
    let own = length-map entry.submodules.items submodule_of in
    handled_three _ _ _ _ _ _ _
    (or_from (list_any (λ (other : ExpectedModule). other.slot_number == entry.slot) before) false free refl)
    (le-ltb 64 (length before + 1) few_modules)
    (le-ltb 64 (length submodules + length (map submodule_of entry.submodules.items)) (omega (arith, own, few_submodules)))

still_free : (before : List ExpectedModule) (one entry : RealModule) → IsFree before entry → one.slot < entry.slot → IsFree (before ++ module_of one ∷ []) entry
still_free before one entry free below =
    list_any-append (λ (other : ExpectedModule). other.slot_number == entry.slot) before (module_of one ∷ [])
    ∙ or_from (list_any (λ (other : ExpectedModule). other.slot_number == entry.slot) before) ((one.slot == entry.slot) || false) free
    (or_from (one.slot == entry.slot) false (other_number one.slot entry.slot below) refl)

all_still_free : (before : List ExpectedModule) (one : RealModule) (modules : List RealModule) → AllByRecursion (IsFree before) modules
    → AllByRecursion (λ other. one.slot < other) (slots_of modules) → AllByRecursion (IsFree (before ++ module_of one ∷ [])) modules
all_still_free before one [] free above = tt
all_still_free before one (entry ∷ modules) free above = (still_free before one entry free.0 above.0, all_still_free before one modules free.1 above.1)

expected_short : number_of kind.ExpectedSubmoduleBlockReq < 256 ^ 2
unfolding number_of
expected_short = lit< tt

iocr_short : number_of kind.IocrBlockReq < 256 ^ 2
unfolding number_of
iocr_short = lit< tt

alarm_short : number_of kind.AlarmCrBlockReq < 256 ^ 2
unfolding number_of
alarm_short = lit< tt

ar_short : number_of kind.ArBlockReq < 256 ^ 2
unfolding number_of
ar_short = lit< tt

expected_is_further : not (is_further (number_of kind.ExpectedSubmoduleBlockReq)) ≡ false
unfolding number_of
expected_is_further = refl

expected_no_alarm : (there : Bool) → (number_of kind.ExpectedSubmoduleBlockReq == number_of kind.AlarmCrBlockReq && there) ≡ false
unfolding number_of
expected_no_alarm there = refl

iocr_is_further : not (is_further (number_of kind.IocrBlockReq)) ≡ false
unfolding number_of
iocr_is_further = refl

iocr_no_alarm : (there : Bool) → (number_of kind.IocrBlockReq == number_of kind.AlarmCrBlockReq && there) ≡ false
unfolding number_of
iocr_no_alarm there = refl

alarm_is_further : not (is_further (number_of kind.AlarmCrBlockReq)) ≡ false
unfolding number_of
alarm_is_further = refl

alarm_is_first : (number_of kind.AlarmCrBlockReq == number_of kind.AlarmCrBlockReq && false) ≡ false
unfolding number_of
alarm_is_first = refl

counted_in_slot : (slot : ℕ) (parts : List RealSubmodule) → length (data_in_slot slot parts) ≡ length parts
counted_in_slot slot [] = refl
counted_in_slot slot (part ∷ parts) = ap (λ (n : ℕ). suc n) (counted_in_slot slot parts)

data_counted : (entry : RealModule) (modules : List RealModule) → length (data_of (entry ∷ modules)) ≡ length entry.submodules.items + length (data_of modules)
data_counted entry modules =
    length-append (data_in_slot entry.slot entry.submodules.items) (data_of modules)
    ∙ ap (λ (n : ℕ). n + length (data_of modules)) (counted_in_slot entry.slot entry.submodules.items)

-- Some module is expected if there is a module.
abbrev has_some : List RealModule → Bool → Bool
has_some [] has = has
has_some (entry ∷ modules) has = true

module _ (input output : Option IocrBlockReq) (first : Bool) (alarm : Option AlarmCr) where
  one_block : (has : Bool) (before : List ExpectedModule) (submodules : List ExpectedSubmodule) (entry : RealModule) → IsFree before entry
      → length before + 1 ≤ 64 → length submodules + length entry.submodules.items ≤ 64 → IsRead (is.ExpectedSubmoduleBlockReq (expected_block entry))
      → IsTaken (sofar_with input output first alarm has before submodules) (is.ExpectedSubmoduleBlockReq (expected_block entry))
      (sofar_with input output first alarm true (before ++ module_of entry ∷ []) (submodules ++ map submodule_of entry.submodules.items))
  one_block has before submodules entry free few_modules few_submodules read = record {
    read = read;
    short = expected_short;
    further = expected_is_further;
    once = expected_no_alarm (is_some alarm);
    taken = let one = one_expected before submodules entry free few_modules few_submodules in rw one refl;
  }

  has_still : (modules : List RealModule) → has_some modules true ≡ true
  has_still [] = refl
  has_still (entry ∷ modules) = refl

  all_blocks : (has : Bool) (before : List ExpectedModule) (submodules : List ExpectedSubmodule) (modules : List RealModule)
      → AllByRecursion (IsFree before) modules → IsRising (slots_of modules)
      → length before + length modules ≤ 64 → length submodules + length (data_of modules) ≤ 64 → AllByRecursion IsRead (expected_blocks modules)
      → AreTaken (sofar_with input output first alarm has before submodules) (expected_blocks modules)
      (sofar_with input output first alarm (has_some modules has) (before ++ map module_of modules) (submodules ++ submodules_in modules))
  all_blocks has before submodules [] free rising few_modules few_submodules read =
      rw (append-nil before, append-nil submodules) refl
  all_blocks has before submodules (entry ∷ modules) free rising few_modules few_submodules read =
      let own = data_counted entry modules in
      let head = length-append submodules (map submodule_of entry.submodules.items) in
      let mapped = length-map entry.submodules.items submodule_of in
      let grown = length-append before (module_of entry ∷ []) in (
        sofar_with input output first alarm true (before ++ module_of entry ∷ []) (submodules ++ map submodule_of entry.submodules.items),
        one_block has before submodules entry free.0 (omega (arith, few_modules)) (omega (arith, own, few_submodules)) read.0,
        as_last (before ++ module_of entry ∷ []) (submodules ++ map submodule_of entry.submodules.items) entry before submodules modules
            (append_assoc before (module_of entry ∷ []) (map module_of modules))
            (append_assoc submodules (map submodule_of entry.submodules.items) (submodules_in modules))
            (all_blocks true (before ++ module_of entry ∷ []) (submodules ++ map submodule_of entry.submodules.items) modules
            (all_still_free before entry modules free.1 rising.0) rising.1
            (omega (arith, grown, few_modules)) (omega (arith, own, head, mapped, few_submodules)) read.1),
      )
    where
      as_last : (m : List ExpectedModule) (s : List ExpectedSubmodule) (entry : RealModule) (b : List ExpectedModule) (t : List ExpectedSubmodule) (modules : List RealModule)
          → m ++ map module_of modules ≡ b ++ map module_of (entry ∷ modules)
          → s ++ submodules_in modules ≡ t ++ submodules_in (entry ∷ modules)
          → AreTaken (sofar_with input output first alarm true m s) (expected_blocks modules)
          (sofar_with input output first alarm (has_some modules true) (m ++ map module_of modules) (s ++ submodules_in modules))
          → AreTaken (sofar_with input output first alarm true m s) (expected_blocks modules)
          (sofar_with input output first alarm true (b ++ map module_of (entry ∷ modules)) (t ++ submodules_in (entry ∷ modules)))
      as_last m s entry b t modules e f taken =
          subst (λ (x : Bool). AreTaken (sofar_with input output first alarm true m s) (expected_blocks modules)
          (sofar_with input output first alarm x (b ++ map module_of (entry ∷ modules)) (t ++ submodules_in (entry ∷ modules)))) (has_still modules)
          (subst (λ (x : List ExpectedSubmodule). AreTaken (sofar_with input output first alarm true m s) (expected_blocks modules)
          (sofar_with input output first alarm (has_some modules true) (b ++ map module_of (entry ∷ modules)) x)) f
          (subst (λ (x : List ExpectedModule). AreTaken (sofar_with input output first alarm true m s) (expected_blocks modules)
          (sofar_with input output first alarm (has_some modules true) x (s ++ submodules_in modules))) e taken))

-- ---- the five parts

module _ (parts : Parts) (ar : List ℕ) where
  abbrev modules : List RealModule
  modules = parts.real.modules.items

  abbrev input : IocrBlockReq
  input = iocr_block parts Input

  abbrev output : IocrBlockReq
  output = iocr_block parts Output

  abbrev others : List Block
  others = is.IocrBlockReq input ∷ is.IocrBlockReq output ∷ is.AlarmCrBlockReq alarm_block ∷ expected_blocks modules

  -- All that is read after the ARBlockReq.
  abbrev last : Sofar
  last = sofar_with (Some input) (Some output) true (Some (alarm_of alarm_block)) true (map module_of modules) (submodules_in modules)

  input_taken : IsRead (is.IocrBlockReq input) → IsTaken nothing (is.IocrBlockReq input) (sofar_with (Some input) None true None false [] [])
  input_taken read = record { read = read; short = iocr_short; further = iocr_is_further; once = iocr_no_alarm false; taken = refl }

  output_taken : IsRead (is.IocrBlockReq output)
      → IsTaken (sofar_with (Some input) None true None false [] []) (is.IocrBlockReq output) (sofar_with (Some input) (Some output) true None false [] [])
  output_taken read = record { read = read; short = iocr_short; further = iocr_is_further; once = iocr_no_alarm false; taken = refl }

  alarm_taken : IsRead (is.AlarmCrBlockReq alarm_block)
      → IsTaken (sofar_with (Some input) (Some output) true None false [] []) (is.AlarmCrBlockReq alarm_block)
      (sofar_with (Some input) (Some output) true (Some (alarm_of alarm_block)) false [] [])
  alarm_taken read = record { read = read; short = alarm_short; further = alarm_is_further; once = alarm_is_first; taken = refl }

  all_free : (entries : List RealModule) → AllByRecursion (IsFree []) entries
  all_free [] = tt
  all_free (entry ∷ entries) = (refl, all_free entries)

  some_there : (entries : List RealModule) → 1 ≤ length entries → has_some entries false ≡ true
  some_there [] some = absurd (omega (arith, some))
  some_there (entry ∷ entries) some = refl

  others_taken : IsPlan parts → AllByRecursion IsRead others → AreTaken nothing others last
  others_taken plan read =
      let few_modules = plan.few_modules in
      let few_submodules = plan.few_submodules in (
        sofar_with (Some input) None true None false [] [],
        input_taken read.0,
        (
          sofar_with (Some input) (Some output) true None false [] [],
          output_taken read.1.0,
          (
            sofar_with (Some input) (Some output) true (Some (alarm_of alarm_block)) false [] [],
            alarm_taken read.1.1.0,
            subst (λ (x : Bool). AreTaken (sofar_with (Some input) (Some output) true (Some (alarm_of alarm_block)) false [] []) (expected_blocks modules)
                (sofar_with (Some input) (Some output) true (Some (alarm_of alarm_block)) x (map module_of modules) (submodules_in modules)))
                (some_there modules plan.good.plugged)
                (all_blocks (Some input) (Some output) true (Some (alarm_of alarm_block)) false [] [] modules (all_free modules) plan.good.ordered.slots
                (omega (arith, few_modules)) (omega (arith, few_submodules)) read.1.1.1),
          ),
        ),
      )

  -- ---- the layouts

  layout_taken : (direction : IocrType) → AreOrdered modules
      → ((size : ℕ) (d : IocrType) (expected : List ExpectedData) (places : List Place) → IsLayout size d expected places
      → layout_at size d expected places ≡ Ok (record { data_length = size; places = places }))
      → asked direction (data_of modules) (map object_of (packed direction Data 0 (data_of modules))) (map object_of (packed direction Iocs (octets_of direction Data (data_of modules)) (data_of modules)))
      ≡ packed_places direction (data_of modules)
      → IsLayout (layout_in direction (data_of modules)).data_length direction (data_of modules) (packed_places direction (data_of modules))
      → layout_of (asked_of (expected_of modules)) (iocr_block parts direction) ≡ Ok (layout_in direction (data_of modules))
  layout_taken direction ordered takes places good =
      ap (λ (subs : List ExpectedData). layout_of subs (iocr_block parts direction)) (same_data modules)
      ∙ (ap (λ (at : List Place). layout_at (layout_in direction (data_of modules)).data_length direction (data_of modules) at) places
      ∙ takes (layout_in direction (data_of modules)).data_length direction (data_of modules) (packed_places direction (data_of modules)) good)

  request_is : layout_of (asked_of (expected_of modules)) input ≡ Ok (layout_in Input (data_of modules))
      → layout_of (asked_of (expected_of modules)) output ≡ Ok (layout_in Output (data_of modules))
      → request_with (ar_of (ar_block parts ar)) last ≡ Ok (request_for parts ar)
  unfolding request_with
  request_is one other = rw (one, other) refl

  -- ---- the first block

  ar_number : not (number_of kind.ArBlockReq == number_of kind.ArBlockReq) ≡ false
  unfolding number_of
  ar_number = refl

  ar_found : (rest : List ℕ) → IsRead (is.ArBlockReq (ar_block parts ar))
      → (well_formed (big_number 2 (block_bytes (is.ArBlockReq (ar_block parts ar)) ++ rest)) (block_in (block_of (block_bytes (is.ArBlockReq (ar_block parts ar)) ++ rest)))
      >>= λ (x : Block). or_fault faults.BlockType (in_ar_block_req x) >>= λ (y : ArBlockReq). Ok (ar_of y)) ≡ Ok (ar_of (ar_block parts ar))
  ar_found rest read = let e = read rest in rw e refl

  ar_taken : (rest : List ℕ) → IsRead (is.ArBlockReq (ar_block parts ar)) → ar_in (piece_at (block_bytes (is.ArBlockReq (ar_block parts ar)) ++ rest)) ≡ Ok (ar_of (ar_block parts ar))
  unfolding ar_in
  ar_taken rest read =
      let number = number_in_front (is.ArBlockReq (ar_block parts ar)) rest ar_short in
      handled_two _ _ _ _ _
      (le-ltb (length (block_bytes (is.ArBlockReq (ar_block parts ar)) ++ rest)) 4 (four_at_least (is.ArBlockReq (ar_block parts ar)) rest))
      (ap (λ (n : ℕ). not (n == number_of kind.ArBlockReq)) number ∙ ar_number)
      ∙ ar_found rest read

  pub initiator_is : IsRead (is.ArBlockReq (ar_block parts ar)) → asked_initiator (connect_of parts ar) ≡ Some parts.controller.mac
  unfolding asked_initiator
  initiator_is read = ap initiator_in (ar_taken (bytes_of others) read)

  -- ---- the whole

  behind_ar : (most : ℕ) → with_pieces nothing (pieces_in most (bytes_of others)) ≡ Ok last
      → request_with (ar_of (ar_block parts ar)) last ≡ Ok (request_for parts ar)
      → request_behind (ar_of (ar_block parts ar)) (pieces_in most (bytes_of others)) ≡ Ok (request_for parts ar)
  unfolding request_behind
  behind_ar most taken request = rw (taken, request) refl

  counted : (bytes : List ℕ) (n : ℕ) → n + 1 ≤ length bytes → length bytes ≡ suc (length bytes - 1)
  counted bytes n some = omega (arith, some)

  first_read : (most : ℕ) → IsRead (is.ArBlockReq (ar_block parts ar))
      → request_behind (ar_of (ar_block parts ar)) (pieces_in most (bytes_of others)) ≡ Ok (request_for parts ar)
      → request_in None (pieces_in (suc most) (connect_of parts ar)) ≡ Ok (request_for parts ar)
  unfolding request_in
  first_read most read rest =
      let left = block_left most (is.ArBlockReq (ar_block parts ar)) (bytes_of others) read in
      let one = ar_taken (bytes_of others) read in
      rw (left, one) rest

  with_room : (n : ℕ) → length (connect_of parts ar) ≡ suc n
      → ((most : ℕ) → length others ≤ most → request_in None (pieces_in (suc most) (connect_of parts ar)) ≡ Ok (request_for parts ar))
      → request_of None (connect_of parts ar) ≡ Ok (request_for parts ar)
  unfolding request_of
  with_room n size each =
      let many = as_many (blocks_of parts ar) in
      ap (λ (most : ℕ). request_in None (pieces_in most (connect_of parts ar))) size ∙ each n (omega (arith, many, size))

  pub connect_read : IsPlan parts → AllByRecursion IsRead (blocks_of parts ar)
      → layout_of (asked_of (expected_of modules)) input ≡ Ok (layout_in Input (data_of modules))
      → layout_of (asked_of (expected_of modules)) output ≡ Ok (layout_in Output (data_of modules))
      → request_of None (connect_of parts ar) ≡ Ok (request_for parts ar)
  connect_read plan read one other =
      let many = as_many (blocks_of parts ar) in
      with_room (length (connect_of parts ar) - 1) (counted (connect_of parts ar) (length others) (omega (arith, many)))
      (λ most few. first_read most read.0
      (behind_ar most (taken_all others most nothing last few (others_taken plan read.1)) (request_is one other)))

-- ---- by the laws of the crates below

-- Places that are a layout are accepted as they are.
abbrev AreTakenAsLayouts : Type 0
AreTakenAsLayouts =
    (size : ℕ) (direction : IocrType) (expected : List ExpectedData) (places : List Place) → IsLayout size direction expected places
    → layout_at size direction expected places ≡ Ok (record { data_length = size; places = places })

-- A plan asks for its packed places.
abbrev ArePacked : Type 0
ArePacked =
    (direction : IocrType) (modules : List RealModule) → AreOrdered modules
    → asked direction (data_of modules) (map object_of (packed direction Data 0 (data_of modules)))
    (map object_of (packed direction Iocs (octets_of direction Data (data_of modules)) (data_of modules)))
    ≡ packed_places direction (data_of modules)

-- They are a layout.
abbrev AreLayouts : Type 0
AreLayouts =
    (direction : IocrType) (modules : List RealModule) → AreOrdered modules
    → IsLayout (layout_in direction (data_of modules)).data_length direction (data_of modules) (packed_places direction (data_of modules))

pub request_read : AreTakenAsLayouts → ArePacked → AreLayouts → (parts : Parts) (ar : List ℕ) → IsPlan parts → AllByRecursion IsRead (blocks_of parts ar)
    → request_of None (connect_of parts ar) ≡ Ok (request_for parts ar)
request_read takes places good parts ar plan read =
    let ordered = plan.good.ordered in
    connect_read parts ar plan read
    (layout_taken parts ar Input ordered takes (places Input parts.real.modules.items ordered) (good Input parts.real.modules.items ordered))
    (layout_taken parts ar Output ordered takes (places Output parts.real.modules.items ordered) (good Output parts.real.modules.items ordered))
