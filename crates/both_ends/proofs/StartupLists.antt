-- A list of records that the controller writes: the device reads it as these records, and the controller reads the outcomes
-- of the records in the response.
use Rattle.std.proofs.Common.{◌≡◌, ◌<◌, ◌≤◌, ◌+◌, ◌-◌, ◌*◌, ◌/◌, ◌%◌, ◌&&◌, ◌==◌, ℕ, zero, suc, Bool, true, false, cond, List, [], ◌∷◌, ◌++◌, length, take, drop, map, Option, Some, None, Result, refl, sym, ap, subst, ◌∙◌, append_assoc, arith}
use Rattle.std.specs.Prelude.{nat_lt, replicate}
use Rattle.std.specs.List.{AllByRecursion}
use Rattle.std.proofs.lemmas.Bool.{and_parts, eq-eqb, eqb-true, lt-ltb, ltb-true}
use Rattle.std.proofs.lemmas.List.{drop_at, length-append, map-append, take_at}
use Rattle.std.proofs.Math.Seq.{take-add}
use Rattle.rpc_core.specs.declared.response.Status.{Status}
use Rattle.rpc_core.specs.Response.{is_done}
use Rattle.rpc_core.specs.Sendable.{IsStatus}
use Rattle.wire.specs.declared.blocks.fault.BlockFault.{BlockFault}
use Rattle.block_codec.specs.declared.block.Block.{Block}
use Rattle.block_codec.specs.declared.block.Block.TheVariants as variant
use Rattle.block_codec.specs.Block.{block, block_bytes, block_of, block_size, fields_of, front}
use Rattle.wire.specs.blocks.Fields.{body, version}
use Rattle.record_blocks.specs.RecordHeader.{record_header}
use Rattle.record_blocks.specs.WriteRecord.{iod_write_req}
use Rattle.record_blocks.specs.declared.write_record.IodWriteReq.{IodWriteReq}
use Rattle.records.specs.declared.writes.taken.TakenRecord.{TakenRecord}
use Rattle.records.specs.status.Status.{done}
use Rattle.records.specs.writes.Answer.{answer_of, header_of as outcome_header, number_of, outcome_of, outcomes_of}
use Rattle.records.specs.writes.Entry.{Entry}
use Rattle.records.specs.writes.Several.{entries_in, entries_then, entry_in, entry_of, is_list, list_behind, list_of as list_in, padded}
use Rattle.block_codec.specs.Writable.{CanBeWritten, IsRecord}
use Rattle.plans.specs.declared.parts.PlanRecord.{PlanRecord}
use Rattle.plans.specs.Plan.{AreShort}
use Rattle.controller_messages.specs.declared.setup.Setup.{Setup}
use Rattle.controller_messages.specs.Requests.{entries_bytes, entry_bytes, first_of, group_of, list_of, padding_of, per_call, write_blocks, write_count, write_of}
use Rattle.controller_core.specs.declared.start_up.outcomes.Outcomes.TheVariants.{AllWritten, Refused}
use Rattle.controller_core.specs.start_up.Outcomes.{are_written, is_all_written, outcome_at, outcome_in, outcomes_behind, outcomes_by, outcomes_from, status_in}
use Rattle.device_core.specs.State.{Station}
use Rattle.end_laws.specs.both.Steps.{records_before}
use Rattle.end_laws.specs.controller.Small.{says_written}
use Rattle.end_laws.specs.device.Small.{AreDone, AreOutcomesOf}
use Rattle.both_ends.specs.startup.View.{AreThePlans, rules_of, taken_for}
use Rattle.both_ends.proofs.StartupEach.{some_is}

-- ---- some items of a list

pub take_few : {A : Type 0} (n : ℕ) (xs : List A) → length (take n xs) ≤ n
take_few zero [] = omega arith
take_few zero (x ∷ xs) = omega arith
take_few (suc n) [] = omega arith
take_few (suc n) (x ∷ xs) = omega (arith, take_few n xs)

-- a part of a list that is not empty is not empty
pub take_some : {A : Type 0} (n : ℕ) (xs : List A) → 0 < n → 0 < length xs → 0 < length (take n xs)
take_some zero xs none some = absurd (omega (arith, none))
take_some (suc n) [] none some = absurd (omega (arith, some))
take_some (suc n) (x ∷ xs) none some = omega arith

take_long : {A : Type 0} (n : ℕ) (xs : List A) → n ≤ length xs → length (take n xs) ≡ n
take_long zero [] enough = refl
take_long zero (x ∷ xs) enough = refl
take_long (suc n) [] enough = absurd (omega (arith, enough))
take_long (suc n) (x ∷ xs) enough = omega (arith, take_long n xs (omega (arith, enough)))

take_all : {A : Type 0} (n : ℕ) (xs : List A) → length xs ≤ n → take n xs ≡ xs
take_all zero [] few = refl
take_all zero (x ∷ xs) few = absurd (omega (arith, few))
take_all (suc n) [] few = refl
take_all (suc n) (x ∷ xs) few = ap (λ ys. x ∷ ys) (take_all n xs (omega (arith, few)))

pub each_take : {A : Type 0} (P : A → Type 0) (n : ℕ) (xs : List A) → AllByRecursion P xs → AllByRecursion P (take n xs)
each_take P zero [] all = tt
each_take P zero (x ∷ xs) all = tt
each_take P (suc n) [] all = tt
each_take P (suc n) (x ∷ xs) all = (all.0, each_take P n xs all.1)

pub each_drop : {A : Type 0} (P : A → Type 0) (n : ℕ) (xs : List A) → AllByRecursion P xs → AllByRecursion P (drop n xs)
each_drop P zero [] all = tt
each_drop P zero (x ∷ xs) all = all
each_drop P (suc n) [] all = tt
each_drop P (suc n) (x ∷ xs) all = each_drop P n xs all.1

-- a number that is not below another one
not_below : (a b : ℕ) → b ≤ a → nat_lt a b ≡ false
not_below a b most = by_test (nat_lt a b) refl
  where
    by_test : (c : Bool) → nat_lt a b ≡ c → c ≡ false
    by_test true e = let below = ltb-true a b e in absurd (omega (arith, below, most))
    by_test false e = refl

-- ---- the records of the plan, Write by Write

module _ (setup : Setup) (station : Station) where
  abbrev all : List PlanRecord
  all = setup.plan.records.items

  -- as many records as the first Writes carry
  start_more : (number : ℕ) (b : Bool) → cond b (suc number * 10) (suc number) ≡ cond b (number * 10) number + cond b 10 1
  start_more number true = omega arith
  start_more number false = omega arith

  first_records : (number : ℕ) → records_before (rules_of setup station) number ≡ map taken_for (take (first_of setup.plan number) all)
  first_records zero = sym (ap (λ (xs : List PlanRecord). map taken_for xs) (none_yet setup.plan.multiple_write))
    where
      take_none : (xs : List PlanRecord) → take 0 xs ≡ []
      take_none [] = refl
      take_none (x ∷ xs) = refl

      none_yet : (b : Bool) → take (cond b (0 * 10) 0) all ≡ []
      none_yet true = take_none all
      none_yet false = take_none all
  first_records (suc number) =
      let start = first_of setup.plan number in
      let each = per_call setup.plan in
      ap (λ (xs : List TakenRecord). xs ++ map taken_for (group_of setup.plan number)) (first_records number)
      ∙ (sym (map-append taken_for (take start all) (take each (drop start all)))
      ∙ (ap (λ (xs : List PlanRecord). map taken_for xs) (sym (take-add start each all))
      ∙ ap (λ (n : ℕ). map taken_for (take n all)) (sym (start_more number setup.plan.multiple_write))))

  enough : (b : Bool) (count : ℕ) → count ≤ cond b (cond b ((count + 9) / 10) count * 10) (cond b ((count + 9) / 10) count)
  enough true count = omega arith
  enough false count = omega arith

  pub are_the_plans : AreThePlans setup station
  are_the_plans =
      first_records (write_count setup.plan)
      ∙ ap (λ (xs : List PlanRecord). map taken_for xs) (take_all (first_of setup.plan (write_count setup.plan)) all (enough setup.plan.multiple_write (length all)))

-- ---- the padding of a record

padded_is : (size : ℕ) → size + length (padding_of size) ≡ padded size
padded_is size =
    let zeros : List ℕ = replicate 3 0 in
    let enough : (size + 3) / 4 * 4 - size ≤ 3 = omega arith in
    omega (arith, take_long ((size + 3) / 4 * 4 - size) zeros enough)

nothing_read : entry_of [] ≡ None
unfolding entry_of block_of block
nothing_read = refl

-- ---- what the device reads

module _ (read : (block_is : Block) (rest : List ℕ) → CanBeWritten block_is → block_of (block_bytes block_is ++ rest) ≡ front block_is rest) (setup : Setup) (number : ℕ) where
  abbrev asked : PlanRecord → IodWriteReq
  asked entry = write_of setup number entry

  abbrev pub AreWritable : List PlanRecord → Type 0
  AreWritable entries = AllByRecursion (λ entry. CanBeWritten (variant.IodWriteReq (asked entry))) entries

  -- the records of the list, as the device sees them
  abbrev pub listed : List PlanRecord → List Entry
  listed entries = map (λ entry. (asked entry, entry.data.items)) entries

  entry_read : (entry : PlanRecord) (rest : List ℕ) → CanBeWritten (variant.IodWriteReq (asked entry))
      → entry_of (entry_bytes setup number entry ++ rest) ≡ Some ((asked entry, entry.data.items), rest)
  unfolding entry_of
  entry_read entry rest can =
      let octets = entry.data.items in
      let size = length octets in
      let padding = padding_of size in
      let front_is = block_bytes (variant.IodWriteReq (asked entry)) in
      let behind = octets ++ (padding ++ rest) in
      let shape : (front_is ++ octets ++ padding) ++ rest ≡ front_is ++ behind =
      append_assoc (front_is ++ octets) padding rest ∙ append_assoc front_is octets (padding ++ rest) in
      let all_there : nat_lt (length behind) size ≡ false = not_below (length behind) size (omega (arith, length-append octets (padding ++ rest))) in
      let taken : take size behind ≡ octets = take_at octets (padding ++ rest) size refl in
      let left : drop (padded size) behind ≡ rest =
      ap (λ (xs : List ℕ). drop (padded size) xs) (sym (append_assoc octets padding rest)) ∙ drop_at (octets ++ padding) rest (padded size) (length-append octets padding ∙ padded_is size) in
      ap (λ (xs : List ℕ). entry_in (block_of xs)) shape
      ∙ (ap (λ (found : Result (Block × List ℕ) BlockFault). entry_in found) (read (variant.IodWriteReq (asked entry)) behind can)
      ∙ (ap (λ (b : Bool). let o : Option (Entry × List ℕ) = cond b None (Some ((asked entry, take size behind), drop (padded size) behind)) in o) all_there
      ∙ (ap (λ (xs : List ℕ). let o : Option (Entry × List ℕ) = Some ((asked entry, xs), drop (padded size) behind) in o) taken
      ∙ ap (λ (xs : List ℕ). let o : Option (Entry × List ℕ) = Some ((asked entry, octets), xs) in o) left)))

  entries_read : (entries : List PlanRecord) (fuel : ℕ) → length entries ≤ fuel → AreWritable entries → entries_in fuel (entries_bytes setup number entries) ≡ listed entries
  unfolding entries_in
  entries_read [] zero few can = refl
  entries_read [] (suc fuel) few can = ap (λ (x : Option (Entry × List ℕ)). entries_then x (λ behind. entries_in fuel behind)) nothing_read
  entries_read (entry ∷ entries) zero few can = absurd (omega (arith, few))
  entries_read (entry ∷ entries) (suc fuel) few can =
      ap (λ (x : Option (Entry × List ℕ)). entries_then x (λ behind. entries_in fuel behind)) (entry_read entry (entries_bytes setup number entries) can.0)
      ∙ ap (λ (others : List Entry). (asked entry, entry.data.items) ∷ others) (entries_read entries fuel (omega (arith, few)) can.1)

  -- the list that the device finds
  list_there : (entries : List PlanRecord) (octets : List ℕ) (found : List Entry) → list_behind (list_of setup number (length octets)) octets ≡ Some found
      → cond (is_list 16 octets) (Some (entries_in 16 octets)) None ≡ Some found
  list_there entries octets found e =
      sym (ap (λ (b : Bool). let o : Option (List Entry) = cond b None (list_in (take (length octets) octets)) in o) (not_below (length octets) (length octets) (omega arith))
      ∙ ap (λ (xs : List ℕ). list_in xs) (take_all (length octets) octets (omega arith)))
      ∙ e

  list_by : (entries : List PlanRecord) (octets : List ℕ) (found : List Entry) (b : Bool) → entries_in 16 octets ≡ listed entries
      → cond b (Some (entries_in 16 octets)) None ≡ Some found → found ≡ listed entries
  list_by entries octets found true are f = sym (some_is (entries_in 16 octets) found f) ∙ are
  list_by entries octets found false are f = absurd cc

  pub list_read : (entries : List PlanRecord) → length entries ≤ 10 → AreWritable entries → (found : List Entry)
      → list_behind (list_of setup number (length (entries_bytes setup number entries))) (entries_bytes setup number entries) ≡ Some found → found ≡ listed entries
  list_read entries few can found e =
      let octets = entries_bytes setup number entries in
      list_by entries octets found (is_list 16 octets) (entries_read entries 16 (omega (arith, few)) can) (list_there entries octets found e)

  -- ---- what the controller reads

  outcome_read : (header : IodWriteReq) (status : Status) (rest : List ℕ) → IsRecord header.header → IsStatus status
      → outcome_at (outcome_of header status ++ rest) ≡ Some (status_in (number_of status), rest)
  unfolding outcome_at outcome_of
  outcome_read header status rest sized is =
      ap outcome_in (read (variant.IodWriteRes (outcome_header header status)) rest (record {
        header = sized;
        additional_value_1 = omega arith;
        additional_value_2 = omega arith;
        pnio_status = omega (arith, is.code, is.decode, is.code1, is.code2);
      }))

  both : (a b : Bool) → a ≡ true → b ≡ true → (a && b) ≡ true
  both true b e f = f
  both false b e f = absurd cc

  -- a status that is read as no error is not an error
  done_status : (status : Status) → IsStatus status → is_done (status_in (number_of status)) ≡ true → is_done status ≡ true
  done_status status is e =
      let n = number_of status in
      let one = and_parts (n / 16777216 % 256 == 0) ((n / 65536 % 256 == 0) && ((n / 256 % 256 == 0) && (n % 256 == 0))) e in
      let two = and_parts (n / 65536 % 256 == 0) ((n / 256 % 256 == 0) && (n % 256 == 0)) one.1 in
      let three = and_parts (n / 256 % 256 == 0) (n % 256 == 0) two.1 in
      let code_is = eqb-true (n / 16777216 % 256) 0 one.0 in
      let decode_is = eqb-true (n / 65536 % 256) 0 two.0 in
      let code1_is = eqb-true (n / 256 % 256) 0 three.0 in
      let code2_is = eqb-true (n % 256) 0 three.1 in
      let code2 : status.code2 ≡ 0 = omega (arith, code2_is, is.code2) in
      let code1 : status.code1 ≡ 0 = omega (arith, code1_is, is.code1, code2) in
      let decode : status.decode ≡ 0 = omega (arith, decode_is, is.decode, code1, code2) in
      let code : status.code ≡ 0 = omega (arith, code_is, is.code, decode, code1, code2) in
      both (status.code == 0) ((status.decode == 0) && ((status.code1 == 0) && (status.code2 == 0))) (eq-eqb status.code 0 code)
      (both (status.decode == 0) ((status.code1 == 0) && (status.code2 == 0)) (eq-eqb status.decode 0 decode)
      (both (status.code1 == 0) (status.code2 == 0) (eq-eqb status.code1 0 code1) (eq-eqb status.code2 0 code2)))

  -- if all were written, each was
  each_done : (entries : List PlanRecord) (outcomes : List (IodWriteReq × Status)) (place : ℕ) → AreWritable entries → AreOutcomesOf (listed entries) outcomes
      → is_all_written (outcomes_from (length entries) place (outcomes_of outcomes)) ≡ true → AreDone outcomes
  unfolding outcomes_from
  each_done [] [] place can are all = tt
  each_done [] (outcome ∷ outcomes) place can are all = absurd are
  each_done (entry ∷ entries) [] place can are all = absurd are
  each_done (entry ∷ entries) (outcome ∷ outcomes) place can are all =
      let rest = outcomes_of outcomes in
      let sized : IsRecord outcome.0.header = subst (λ (request : IodWriteReq). IsRecord request.header) (sym are.0) can.0.header in
      let there = outcome_read outcome.0 outcome.1 rest sized are.1 in
      by_test (is_done (status_in (number_of outcome.1))) refl (each_done entries outcomes (place + 1) can.1 are.2)
      (sym (ap (λ (x : Option (Status × List ℕ)). is_all_written (outcomes_by x place (λ behind. outcomes_from (length entries) (place + 1) behind))) there) ∙ all)
    where
      by_test : (b : Bool) → is_done (status_in (number_of outcome.1)) ≡ b
          → (is_all_written (outcomes_from (length entries) (place + 1) (outcomes_of outcomes)) ≡ true → AreDone outcomes)
          → is_all_written (cond b (outcomes_from (length entries) (place + 1) (outcomes_of outcomes)) (Refused place (status_in (number_of outcome.1)))) ≡ true
          → AreDone (outcome ∷ outcomes)
      by_test true e later f = (done_status outcome.1 are.1 e, later f)
      by_test false e later f = absurd cc

  list_sized : (entries : List PlanRecord) → length setup.ar ≡ 16 → number + 1 < 65536 → length entries ≤ 10
      → length (entries_bytes setup number entries) ≤ 128 * length entries → IsRecord (list_of setup number (length (entries_bytes setup number entries))).header
  list_sized entries named numbered few bounded = record {
    seq_number = numbered;
    ar_uuid = named;
    api = omega arith;
    slot_number = omega arith;
    subslot_number = omega arith;
    index = omega arith;
    record_data_length = omega (arith, few, bounded);
  }

  write_size : (block_is : IodWriteReq) → length block_is.header.ar_uuid ≡ 16 → block_size (variant.IodWriteReq block_is) ≤ 64
  unfolding block_size fields_of body version iod_write_req record_header
  write_size block_is sixteen = omega (arith, sixteen)

  entries_few : (long : (block_is : Block) → length (block_bytes block_is) ≡ block_size block_is) (entries : List PlanRecord) → length setup.ar ≡ 16 → AreShort entries
      → length (entries_bytes setup number entries) ≤ 128 * length entries
  entries_few long [] named short = omega arith
  entries_few long (entry ∷ entries) named short =
      let zeros : List ℕ = replicate 3 0 in
      omega (
        arith,
        length-append (entry_bytes setup number entry) (entries_bytes setup number entries),
        length-append (write_blocks setup number (Some entry)) (padding_of (length entry.data.items)),
        length-append (block_bytes (variant.IodWriteReq (asked entry))) entry.data.items,
        long (variant.IodWriteReq (asked entry)),
        write_size (asked entry) named,
        take_few ((length entry.data.items + 3) / 4 * 4 - length entry.data.items) zeros,
        short.0,
        entries_few long entries named short.1,
      )

  pub list_can : (long : (block_is : Block) → length (block_bytes block_is) ≡ block_size block_is) (entries : List PlanRecord) → length setup.ar ≡ 16 → number + 1 < 65536 → length entries ≤ 10
      → AreShort entries → IsRecord (list_of setup number (length (entries_bytes setup number entries))).header
  list_can long entries named numbered few short = list_sized entries named numbered few (entries_few long entries named short)

  pub list_done : (entries : List PlanRecord) → IsRecord (list_of setup number (length (entries_bytes setup number entries))).header → AreWritable entries
      → (outcomes : List (IodWriteReq × Status)) → AreOutcomesOf (listed entries) outcomes
      → is_all_written (outcomes_behind (outcome_at (answer_of (list_of setup number (length (entries_bytes setup number entries))) ++ outcomes_of outcomes)) (length entries)) ≡ true
      → AreDone outcomes
  unfolding answer_of
  list_done entries sized can outcomes are all =
      let header = list_of setup number (length (entries_bytes setup number entries)) in
      let there = outcome_read header done (outcomes_of outcomes) sized (record { code = omega arith; decode = omega arith; code1 = omega arith; code2 = omega arith }) in
      each_done entries outcomes 0 can are
      (sym (ap (λ (x : Option (Status × List ℕ)). is_all_written (outcomes_behind x (length entries))) there) ∙ all)

-- what a positive response to a Write of several records says
pub says_all : (setup : Setup) (number : ℕ) → setup.plan.multiple_write ≡ true → number < write_count setup.plan → (blocks : List ℕ) → says_written setup.plan (suc number) blocks ≡ true
    → is_all_written (outcomes_behind (outcome_at blocks) (length (group_of setup.plan number))) ≡ true
says_all setup number several listed blocks says =
    let inside : nat_lt number (write_count setup.plan) ≡ true = lt-ltb number (write_count setup.plan) listed in
    let written : are_written setup.plan number blocks ≡ true =
    sym (ap (λ (b : Bool). cond b (are_written setup.plan number blocks) true) inside) ∙ says in
    sym (ap (λ (b : Bool). is_all_written (cond b (outcomes_behind (outcome_at blocks) (length (group_of setup.plan number))) AllWritten)) several) ∙ written
