-- Each call that a device hears is one of the start-up or of the application.
use Rattle.std.proofs.Common.{◌≡◌, inl, inr, ◌<◌, ◌≤◌, ◌+◌, ◌*◌, ◌/◌, ◌&&◌, ◌==◌, ℕ, zero, suc, Bool, true, false, not, cond, List, [], ◌∷◌, ◌++◌, length, take, drop, map, Option, Some, None, Result, Ok, Err, refl, sym, ap, subst, ◌∙◌, length-drop, arith}
use Rattle.std.specs.Prelude.{is_some, nat_eq, nat_lt, slice_get}
use Rattle.std.specs.Cmp.Lexicographic.{pointwise, same_text}
use Rattle.std.specs.List.{AllByRecursion, find}
use Rattle.std.proofs.lemmas.Bool.{and_parts, cond-false, ltb-true, ne_eqb}
use Rattle.wire.specs.Codec.{◌>>=◌}
use Rattle.wire.specs.Checks.{or_fault}
use Rattle.wire.specs.Formats.{big_number}
use Rattle.pn_values.specs.declared.real.Real.{Real}
use Rattle.frame_codec.specs.declared.udp.Caller.{Caller}
use Rattle.rpc_core.specs.Call.{Asked as Call}
use Rattle.wire.specs.declared.blocks.fault.BlockFault.{BlockFault}
use Rattle.block_codec.specs.declared.block.Block.{Block}
use Rattle.block_codec.specs.declared.block.Block.TheVariants as variant
use Rattle.block_codec.specs.declared.block_type.BlockType.{BlockType}
use Rattle.block_codec.specs.declared.block_type.BlockType.TheVariants as kind
use Rattle.block_codec.specs.Kinds.{number_of}
use Rattle.block_codec.specs.Block.{block_bytes, block_of, block_size, front, in_iod_write_req}
use Rattle.records.specs.declared.status.call_fault.CallFault.{CallFault}
use Rattle.records.specs.declared.status.call_fault.CallFault.TheVariants as fault
use Rattle.records.specs.status.Operation.{operation_of}
use Rattle.records.specs.calls.Handled.{handled as in_order}
use Rattle.records.specs.calls.Naming.{in_relation}
use Rattle.records.specs.calls.Single.{formed, single_of}
use Rattle.connects.specs.requests.Request.{Request as Asked_for}
use Rattle.connects.specs.requests.Handled.{request_of}
use Rattle.record_blocks.specs.declared.write_record.IodWriteReq.{IodWriteReq}
use Rattle.im_records.specs.declared.record.Record.{Record}
use Rattle.im_records.specs.Indices.{is_read_only, is_text, record_with}
use Rattle.im_records.specs.Records.{is_device}
use Rattle.im_records.specs.Writable.{is_writable}
use Rattle.records.specs.reads.Parameters.{parameter_length}
use Rattle.records.specs.declared.writes.taken.TakenRecord.{TakenRecord}
use Rattle.records.specs.declared.writes.write.Effect.{Effect}
use Rattle.records.specs.declared.writes.write.Effect.TheVariants.{Keeps}
use Rattle.records.specs.declared.writes.write.Write.{Write}
use Rattle.records.specs.declared.writes.writing.Writing.{Writing}
use Rattle.records.specs.declared.writes.writing.Writing.TheVariants.{One, Each}
use Rattle.records.specs.writes.Asked.{handled_writing, several_of, writing_of}
use Rattle.records.specs.writes.Handled.{effect_of, is_known, is_length, handled_request, kept, stored, targeted, written}
use Rattle.records.specs.writes.Entry.{Entry}
use Rattle.records.specs.writes.Several.{is_several, list_behind}
use Rattle.records.specs.declared.status.operation.Operation.TheVariants as operation
use Rattle.records.specs.reads.Handled.{has_parameter}
use Rattle.record_blocks.specs.declared.record_header.RecordHeader.{RecordHeader}
use Rattle.rpc_core.specs.declared.response.Status.{Status}
use Rattle.asked_records.specs.Answers.{unanswered_status}
use Rattle.asked_records.specs.Judging.{asked_name}
use Rattle.asked_records.specs.Names.{is_named, last_index, named_at}
use Rattle.asked_records.specs.declared.names.RecordName.{RecordName}
use Rattle.asked_records.specs.declared.status.Unanswered.TheVariants.{InList}
use Rattle.plans.specs.declared.parts.Parts.{Parts}
use Rattle.plans.specs.declared.parts.PlanRecord.{PlanRecord}
use Rattle.plans.specs.Connect.{connect_of}
use Rattle.plans.specs.Plan.{AreShort}
use Rattle.both_ends.specs.startup.request.Request.{request_for}
use Rattle.device_frames.specs.Heard as device
use Rattle.device_frames.specs.Heard.{Heard}
use Rattle.device_core.specs.State.{Station}
use Rattle.device_core.specs.Asking.{write_within}
use Rattle.device_core.specs.Several.{judged_each, with_status}
use Rattle.controller_messages.specs.declared.plug_request.PlugStep.{PlugStep}
use Rattle.controller_messages.specs.declared.plug_request.PlugStep.TheVariants as plug_step
use Rattle.controller_messages.specs.declared.record_request.RecordService.{RecordService}
use Rattle.controller_messages.specs.declared.record_request.RecordService.TheVariants as service
use Rattle.controller_messages.specs.declared.request.Request.{Request}
use Rattle.controller_messages.specs.declared.request.Request.TheVariants as asks
use Rattle.controller_messages.specs.declared.setup.Setup.{Setup}
use Rattle.controller_messages.specs.PlugRequests.{plug_blocks, plug_operation}
use Rattle.controller_messages.specs.RecordRequests.{record_blocks, service_operation}
use Rattle.controller_messages.specs.Requests.{blocks_of, call_for, entries_bytes, first_of, group_of, list_blocks, list_of as list_asked, per_call, write_blocks, write_count, write_of as write_asked, writing_blocks}
use Rattle.block_codec.specs.Writable.{CanBeWritten, IsRecord}
use Rattle.controller_core.specs.start_up.Outcomes.{is_all_written, outcome_at, outcomes_behind}
use Rattle.end_laws.specs.hearing.Stations.{IsCalled}
use Rattle.end_laws.specs.both.Small.{Rules}
use Rattle.end_laws.specs.controller.Small.{says_written}
use Rattle.end_laws.specs.device.Small.{AreKeeping, IsPlanned, IsPlannedAs, IsPlannedCall, IsPlannedIn, IsPlannedWrite, IsWritingOf, number_by, number_in}
use Rattle.both_ends.specs.startup.Played.{ArePlaced, AreUnnamed, IsParameter, IsPlaced, IsUnnamed}
use Rattle.both_ends.specs.startup.View.{is_planned, rules_of, taken_for}
use Rattle.wire.proofs.Fields.{bind_ok, ok_is}
use Rattle.both_ends.proofs.StartupEach.{each_at, some_is}
use Rattle.both_ends.proofs.StartupLists.{AreWritable, each_drop, each_take, list_can, list_done, list_read, listed, says_all, take_few, take_some}
use Rattle.both_ends.proofs.StartupHeard.{IsKnownCall, IsKnownHeard, IsKnownSaid, IsListed}

-- if no earlier judgement fails, the rest decides
handled_ok : {A : Type 0} (judgements : List (Bool × CallFault)) (otherwise : Result A CallFault) (value : A) → in_order judgements otherwise ≡ Ok value → otherwise ≡ Ok value
handled_ok [] otherwise value e = e
handled_ok {A} (judgement ∷ others) otherwise value e = by_test judgement.0 (λ f. handled_ok others otherwise value f) e
  where
    by_test : (b : Bool) → (in_order others otherwise ≡ Ok value → otherwise ≡ Ok value) → cond b (Err judgement.1) (in_order others otherwise) ≡ Ok value → otherwise ≡ Ok value
    by_test true rest f = absurd cc
    by_test false rest f = rest f

fault_ok : {A : Type 0} (why : CallFault) (value : Option A) (x : A) → or_fault why value ≡ Ok x → value ≡ Some x
fault_ok why (Some value) x e = ap (λ y. Some y) (ok_is value x e)
fault_ok why None x e = absurd cc

formed_ok : {A : Type 0} (read : Result A BlockFault) (x : A) → formed read ≡ Ok x → read ≡ Ok x
formed_ok (Ok value) x e = ap (λ y. Ok y) (ok_is value x e)
formed_ok (Err why) x e = absurd cc

-- ---- a record that is written

single_is : (type : BlockType) (blocks : List ℕ) (x : Block × List ℕ) → single_of type blocks ≡ Ok x → block_of blocks ≡ Ok x
unfolding single_of
single_is type blocks x e = formed_ok (block_of blocks) x (handled_ok
    ((length blocks == 0, fault.BlockMissing)
    ∷ (nat_lt (length blocks) 4, fault.BlockHeader)
    ∷ (not (big_number 2 blocks == number_of type), fault.BlockType)
    ∷ [])
    (formed (block_of blocks)) x e)

all_octets : (xs : List ℕ) → take (length xs) xs ≡ xs
all_octets [] = refl
all_octets (x ∷ xs) = ap (λ (ys : List ℕ). x ∷ ys) (all_octets xs)

differs : (index number : ℕ) → index < number → (index == number) ≡ false
differs index number below = ne_eqb index number (λ same. omega (arith, below, same))

-- an index below 0x8000 is not one of the device's own records
none_below : (index : ℕ) → index < 0x8000 → record_with index ≡ None
unfolding record_with
none_below index below =
    let not_0 : (index == 0xAFF0) ≡ false = differs index 0xAFF0 (omega (arith, below)) in
    let not_1 : (index == 0xAFF1) ≡ false = differs index 0xAFF1 (omega (arith, below)) in
    let not_2 : (index == 0xAFF2) ≡ false = differs index 0xAFF2 (omega (arith, below)) in
    let not_3 : (index == 0xAFF3) ≡ false = differs index 0xAFF3 (omega (arith, below)) in
    let not_4 : (index == 0xAFF4) ≡ false = differs index 0xAFF4 (omega (arith, below)) in
    let not_filter : (index == 0xF840) ≡ false = differs index 0xF840 (omega (arith, below)) in
    let not_diff : (index == 0xE002) ≡ false = differs index 0xE002 (omega (arith, below)) in
    rw (not_0, not_1, not_2, not_3, not_4, not_filter, not_diff) refl

not_writable : (index slot subslot : ℕ) → index < 0x8000 → is_writable index slot subslot ≡ false
not_writable index slot subslot below = ap (λ (one : Option Record). is_text one && is_device slot subslot) (none_below index below)

module _ (setup : Setup) (real : Real) (number : ℕ) (entry : PlanRecord) (below : IsParameter entry) where
  abbrev asked : IodWriteReq
  asked = write_asked setup number entry

  kept_is : (size : Option ℕ) (effect : Effect) → cond (is_length size (length entry.data.items)) (Some (Keeps (taken_for entry))) None ≡ Some effect → effect ≡ Keeps (taken_for entry)
  kept_is size effect e = by_length (is_length size (length entry.data.items)) e
    where
      by_length : (b : Bool) → cond b (Some (Keeps (taken_for entry))) None ≡ Some effect → effect ≡ Keeps (taken_for entry)
      by_length true f = sym (some_is (Keeps (taken_for entry)) effect f)
      by_length false f = absurd cc

  effect_is : (effect : Effect) → effect_of real asked entry.data.items ≡ Some effect → effect ≡ Keeps (taken_for entry)
  effect_is effect e =
      kept_is (parameter_length real.modules.items entry.slot entry.subslot entry.index) effect
      (ap (λ (b : Bool). cond b (stored entry.index entry.data.items) (kept real asked entry.data.items)) (sym (not_writable entry.index entry.slot entry.subslot below)) ∙ e)

  written_is : (effect : Effect) → written real asked entry.data.items ≡ Ok effect → effect ≡ Keeps (taken_for entry)
  unfolding written
  written_is effect e =
      let all = take (length entry.data.items) entry.data.items in
      let there = fault_ok fault.WriteLength (effect_of real asked all) effect (handled_ok
      ((not (is_known real asked), fault.Index)
      ∷ (is_read_only (record_with entry.index), fault.Access)
      ∷ (nat_lt (length entry.data.items) (length entry.data.items), fault.WriteLength)
      ∷ [])
      (or_fault fault.WriteLength (effect_of real asked all)) effect e) in
      effect_is effect (ap (λ (octets : List ℕ). effect_of real asked octets) (sym (all_octets entry.data.items)) ∙ there)

  request_is : (standing : Option (List ℕ)) (write : Write) → handled_request standing real asked entry.data.items ≡ Ok write → write.effect ≡ Keeps (taken_for entry)
  unfolding handled_request
  request_is standing write e =
      let one = bind_ok (targeted standing real asked) (λ _. written real asked entry.data.items >>= λ effect. Ok (record { request = asked; effect = effect })) write e in
      let two = bind_ok (written real asked entry.data.items) (λ effect. Ok (record { request = asked; effect = effect })) write one.2 in
      ap (λ (w : Write). w.effect) (sym (ok_is (record { request = asked; effect = two.0 }) write two.2)) ∙ written_is two.0 two.1

  -- one record, which is kept
  abbrev IsKeeping : Writing → Type 0
  IsKeeping writing = (write : Write) × (writing ≡ One write) × (write.effect ≡ Keeps (taken_for entry))

  one_record : is_several asked ≡ false
  one_record = ap (λ (b : Bool). b && (0 == 0xFFFFFFFF && (entry.slot == 0xFFFF && entry.subslot == 0xFFFF))) (differs entry.index 0xE040 (omega (arith, below)))

  writing_is : (standing : Option (List ℕ)) (writing : Writing) → handled_writing standing real asked entry.data.items ≡ Ok writing → IsKeeping writing
  writing_is standing writing e =
      let alone : (handled_request standing real asked entry.data.items >>= λ write. Ok (One write)) ≡ Ok writing =
      sym (cond-false _ _ _ one_record) ∙ e in
      let there = bind_ok (handled_request standing real asked entry.data.items) (λ write. Ok (One write)) writing alone in
      (there.0, sym (ok_is (One there.0) writing there.2), request_is standing there.0 there.1)

  -- what is read of the blocks that the controller writes
  write_is : ((rest : List ℕ) → block_of (block_bytes (variant.IodWriteReq asked) ++ rest) ≡ front (variant.IodWriteReq asked) rest)
      → (standing : Option (List ℕ)) (writing : Writing) → writing_of standing real (block_bytes (variant.IodWriteReq asked) ++ entry.data.items) ≡ Ok writing → IsKeeping writing
  unfolding writing_of
  write_is read standing writing e =
      let blocks = block_bytes (variant.IodWriteReq asked) ++ entry.data.items in
      let one = bind_ok (single_of kind.IodWriteReq blocks) (λ x. or_fault fault.BlockForm (in_iod_write_req x.0) >>= λ request. handled_writing standing real request x.1) writing e in
      let same : one.0 ≡ (variant.IodWriteReq asked, entry.data.items) =
      ok_is one.0 (variant.IodWriteReq asked, entry.data.items) (sym (single_is kind.IodWriteReq blocks one.0 one.1) ∙ read entry.data.items) in
      writing_is standing writing
      (subst (λ (x : Block × List ℕ). (or_fault fault.BlockForm (in_iod_write_req x.0) >>= λ request. handled_writing standing real request x.1) ≡ Ok writing) same one.2)

-- ---- the plan's records

there_is : {A : Type 0} (xs : List A) (number : ℕ) → number < length xs → (x : A) × (slice_get xs number ≡ Some x)
there_is [] number below = absurd (omega (arith, below))
there_is (x ∷ xs) zero below = (x, refl)
there_is (x ∷ xs) (suc number) below = there_is xs number (omega (arith, below))

-- there are no more Writes than records
few_by : (is_list : Bool) (count : ℕ) → count ≤ 32 → cond is_list ((count + 9) / 10) count ≤ 32
few_by true count few = omega (arith, few)
few_by false count few = few

pub count_few : (plan : Parts) → length plan.records.items ≤ 32 → write_count plan ≤ 32
count_few plan few = few_by plan.multiple_write (length plan.records.items) few

-- the one record of a Write
one_at : {A : Type 0} (xs : List A) (number : ℕ) (x : A) → slice_get xs number ≡ Some x → take 1 (drop number xs) ≡ x ∷ []
one_at [] number x there = absurd cc
one_at (y ∷ xs) zero x there = ap (λ z. z ∷ []) (some_is y x there)
one_at (y ∷ xs) (suc number) x there = one_at xs number x there

-- the premises about a set-up: its Connect is read as its request, and its records are written in blocks that are read,
-- and are stored
pub record IsGood (setup : Setup) : Type 0 where
  pub connect : request_of None (connect_of setup.plan setup.ar) ≡ Ok (request_for setup.plan setup.ar)
  pub few : write_count setup.plan ≤ 32
  pub short : AreShort setup.plan.records.items
  pub records : AllByRecursion IsParameter setup.plan.records.items
  pub placed : ArePlaced setup.plan.records.items
  pub named : length setup.ar ≡ 16

-- ---- a list of records

-- a record that is judged well in a list would be by itself: it is not one of the application
judged_alone : (b : Bool) (judged : Result Write CallFault) (write : Write)
    → ◌≡◌ {A = Result Write Status} (cond b (Err (unanswered_status operation.Write InList)) (with_status judged)) (Ok write) → judged ≡ Ok write
judged_alone true judged write e = absurd cc
judged_alone false (Ok one) write e = ap (λ (w : Write). Ok w) (same_write one write e)
  where
    same_write : (one other : Write) → ◌≡◌ {A = Result Write Status} (Ok one) (Ok other) → one ≡ other
    same_write one other f = cc
judged_alone false (Err why) write e = absurd cc

-- what is read of the blocks of a list that the controller writes
module _ (read : (block : Block) (rest : List ℕ) → CanBeWritten block → block_of (block_bytes block ++ rest) ≡ front block rest)
    (setup : Setup) (named : List RecordName) (real : Real) (number : ℕ) where
  abbrev listing : List PlanRecord → IodWriteReq
  listing entries = list_asked setup number (length (entries_bytes setup number entries))

  listed_is : (standing : Option (List ℕ)) (entries : List PlanRecord) → length entries ≤ 10 → AreWritable read setup number entries
      → (writing : Writing) → (several_of standing (listing entries) (entries_bytes setup number entries) >>= λ found. Ok (Each (listing entries) found)) ≡ Ok writing
      → writing ≡ Each (listing entries) (listed read setup number entries)
  unfolding several_of
  listed_is standing entries few can writing e =
      let octets = entries_bytes setup number entries in
      let there = bind_ok (in_relation standing (listing entries).header.ar_uuid >>= λ _. or_fault fault.WriteLength (list_behind (listing entries) octets)) (λ found. Ok (Each (listing entries) found)) writing e in
      let found = bind_ok (in_relation standing (listing entries).header.ar_uuid) (λ _. or_fault fault.WriteLength (list_behind (listing entries) octets)) there.0 there.1 in
      let same = list_read read setup number entries few can there.0 (fault_ok fault.WriteLength (list_behind (listing entries) octets) there.0 found.2) in
      sym (ok_is (Each (listing entries) there.0) writing there.2) ∙ ap (λ (all : List Entry). Each (listing entries) all) same

  list_is : (entry : PlanRecord) (entries : List PlanRecord) → length (entry ∷ entries) ≤ 10 → AreWritable read setup number (entry ∷ entries) → IsRecord (listing (entry ∷ entries)).header
      → (standing : Option (List ℕ)) (writing : Writing) → writing_of standing real (list_blocks setup number (entry ∷ entries)) ≡ Ok writing
      → writing ≡ Each (listing (entry ∷ entries)) (listed read setup number (entry ∷ entries))
  unfolding writing_of
  list_is entry entries few can sized standing writing e =
      let octets = entries_bytes setup number (entry ∷ entries) in
      let block = variant.IodWriteReq (listing (entry ∷ entries)) in
      let blocks = block_bytes block ++ octets in
      let one = bind_ok (single_of kind.IodWriteReq blocks) (λ x. or_fault fault.BlockForm (in_iod_write_req x.0) >>= λ request. handled_writing standing real request x.1) writing e in
      let same : one.0 ≡ (block, octets) =
      ok_is one.0 (block, octets) (sym (single_is kind.IodWriteReq blocks one.0 one.1) ∙ read block octets (record { header = sized })) in
      listed_is standing (entry ∷ entries) few can writing
      (subst (λ (x : Block × List ℕ). (or_fault fault.BlockForm (in_iod_write_req x.0) >>= λ request. handled_writing standing real request x.1) ≡ Ok writing) same one.2)

  -- each record that is judged well is kept
  each_keeps : (standing : Option (List ℕ)) (entries : List PlanRecord) → AllByRecursion IsParameter entries
      → AreKeeping (judged_each named standing real (listed read setup number entries)) (map taken_for entries)
  each_keeps standing [] below = tt
  each_keeps standing (entry ∷ entries) below =
      let request = write_asked setup number entry in
      let judged = handled_request standing real request entry.data.items in (
        λ write e. request_is setup real number entry below.0 standing write (judged_alone (is_some (asked_name real named request.header)) judged write e),
        each_keeps standing entries below.1,
      )

nothing_single : (type : BlockType) (x : Block × List ℕ) → single_of type [] ≡ Ok x → ⊥
unfolding single_of
nothing_single type x e = absurd cc

nothing_written : (standing : Option (List ℕ)) (real : Real) (writing : Writing) → writing_of standing real [] ≡ Ok writing → ⊥
unfolding writing_of
nothing_written standing real writing e =
    let one = bind_ok (single_of kind.IodWriteReq []) (λ x. or_fault fault.BlockForm (in_iod_write_req x.0) >>= λ request. handled_writing standing real request x.1) writing e in
    nothing_single kind.IodWriteReq one.0 one.1

-- ---- which Writes are of a record of the application

-- what a Write names, if its blocks are read
within_is : (request : IodWriteReq) (octets : List ℕ)
    → block_of (block_bytes (variant.IodWriteReq request) ++ octets) ≡ front (variant.IodWriteReq request) octets
    → (standing : Option (List ℕ)) (write : IodWriteReq × List ℕ)
    → write_within standing (block_bytes (variant.IodWriteReq request) ++ octets) ≡ Ok write → write.0 ≡ request
unfolding write_within
within_is request octets read standing write e =
    let blocks = block_bytes (variant.IodWriteReq request) ++ octets in
    let one = bind_ok (single_of kind.IodWriteReq blocks)
    (λ x. or_fault fault.BlockForm (in_iod_write_req x.0) >>= λ found. in_relation standing found.header.ar_uuid >>= λ _. Ok (found, x.1)) write e in
    let same : one.0 ≡ (variant.IodWriteReq request, octets) =
    ok_is one.0 (variant.IodWriteReq request, octets) (sym (single_is kind.IodWriteReq blocks one.0 one.1) ∙ read) in
    let two : (in_relation standing request.header.ar_uuid >>= λ _. Ok (request, octets)) ≡ Ok write =
    subst (λ (x : Block × List ℕ). (or_fault fault.BlockForm (in_iod_write_req x.0)
    >>= λ found. in_relation standing found.header.ar_uuid >>= λ _. Ok (found, x.1)) ≡ Ok write) same one.2 in
    let three = bind_ok (in_relation standing request.header.ar_uuid) (λ _. Ok (request, octets)) write two in
    ap (λ (x : IodWriteReq × List ℕ). x.0) (sym (ok_is (request, octets) write three.2))

-- no Write without a block names one
nothing_within : (standing : Option (List ℕ)) (write : IodWriteReq × List ℕ) → write_within standing [] ≡ Ok write → ⊥
unfolding write_within
nothing_within standing write e =
    let one = bind_ok (single_of kind.IodWriteReq [])
    (λ x. or_fault fault.BlockForm (in_iod_write_req x.0) >>= λ found. in_relation standing found.header.ar_uuid >>= λ _. Ok (found, x.1)) write e in
    nothing_single kind.IodWriteReq one.0 one.1

-- a header names none of the application's records if the application does not answer its place and index
unnamed_is : (real : Real) (named : List RecordName) (header : RecordHeader)
    → named_at header.slot_number header.subslot_number header.index named ≡ None → asked_name real named header ≡ None
unnamed_is real named header none = by_parameter (has_parameter real header.slot_number header.subslot_number header.index)
  where
    by_parameter : (b : Bool) → cond b None (named_at header.slot_number header.subslot_number header.index named) ≡ None
    by_parameter true = refl
    by_parameter false = none

and_false : (a b c : Bool) → c ≡ false → (a && (b && c)) ≡ false
and_false true true c e = e
and_false true false c e = refl
and_false false b c e = refl

-- an index above 0x7FFF is not one of the application
none_above : (named : List RecordName) → AllByRecursion (λ name. name.index ≤ last_index) named
    → (slot subslot index : ℕ) → last_index < index → named_at slot subslot index named ≡ None
none_above [] low slot subslot index above = refl
none_above (name ∷ named) low slot subslot index above =
    let other : is_named slot subslot index name ≡ false =
    and_false (name.slot == slot) (name.subslot == subslot) (name.index == index) (ne_eqb name.index index (λ same. omega (arith, low.0, above, same))) in
    ap (λ (b : Bool). cond b (Some name) (find (is_named slot subslot index) named)) other ∙ none_above named low.1 slot subslot index above

module _ (read : (block : Block) (rest : List ℕ) → CanBeWritten block → block_of (block_bytes block ++ rest) ≡ front block rest) (long : (block : Block) → length (block_bytes block) ≡ block_size block)
    (setup : Setup) (station : Station) (real : Real) (good : IsGood setup) (unnamed : AreUnnamed station.named setup.plan.records.items) where
  abbrev rules : Rules TakenRecord Asked_for
  rules = rules_of setup station

  abbrev named : List RecordName
  named = station.named

  -- the blocks of a record can be written
  record_can : (number : ℕ) → number < write_count setup.plan → (entry : PlanRecord) → IsParameter entry → IsPlaced entry → length entry.data.items ≤ 64
      → CanBeWritten (variant.IodWriteReq (write_asked setup number entry))
  record_can number listed entry below fits short = record {
    header = record {
      seq_number = omega (arith, listed, good.few);
      ar_uuid = good.named;
      api = omega arith;
      slot_number = fits.0;
      subslot_number = fits.1;
      index = omega (arith, below);
      record_data_length = omega (arith, short);
    };
  }

  records_can : (number : ℕ) → number < write_count setup.plan → (entries : List PlanRecord) → AllByRecursion IsParameter entries → AllByRecursion IsPlaced entries → AreShort entries
      → AllByRecursion (λ entry. CanBeWritten (variant.IodWriteReq (write_asked setup number entry))) entries
  records_can number listed [] below fits short = tt
  records_can number listed (entry ∷ entries) below fits short =
      (record_can number listed entry below.0 fits.0 short.0, records_can number listed entries below.1 fits.1 short.1)

  module _ (number : ℕ) (listed : number < write_count setup.plan) where
    abbrev records : List PlanRecord
    records = setup.plan.records.items

    abbrev group : List PlanRecord
    group = group_of setup.plan number

    -- SeqNumber of its first block is one more than the number of the Write
    number_read : (asked : IodWriteReq) (rest : List ℕ) → asked.header.seq_number ≡ number + 1 → CanBeWritten (variant.IodWriteReq asked)
        → number_in (block_bytes (variant.IodWriteReq asked) ++ rest) ≡ number
    number_read asked rest is can = ap number_by (read (variant.IodWriteReq asked) rest can) ∙ omega (arith, is)

    one_number : setup.plan.multiple_write ≡ false → number_in (writing_blocks setup number) ≡ number
    one_number alone =
        let inside : number < length records =
        subst (λ (count : ℕ). number < count) (ap (λ (b : Bool). cond b ((length records + 9) / 10) (length records)) alone) listed in
        let there = there_is records number inside in
        let entry = there.0 in
        let can = record_can number listed entry (each_at IsParameter records number entry good.records there.1) (each_at IsPlaced records number entry good.placed there.1)
        (each_at (λ (e : PlanRecord). length e.data.items ≤ 64) records number entry good.short there.1) in
        let blocks : writing_blocks setup number ≡ write_blocks setup number (Some entry) =
        ap (λ (b : Bool). cond b (list_blocks setup number group) (write_blocks setup number (slice_get records number))) alone
        ∙ ap (λ (o : Option PlanRecord). write_blocks setup number o) there.1 in
        ap number_in blocks ∙ number_read (write_asked setup number entry) entry.data.items refl can

    list_number : (entries : List PlanRecord) → 0 < length entries → IsRecord (list_asked setup number (length (entries_bytes setup number entries))).header
        → number_in (list_blocks setup number entries) ≡ number
    list_number [] some sized = absurd (omega (arith, some))
    list_number (entry ∷ entries) some sized =
        let octets = entries_bytes setup number (entry ∷ entries) in
        number_read (list_asked setup number (length octets)) octets refl (record { header = sized })

    lists_number : setup.plan.multiple_write ≡ true → number_in (writing_blocks setup number) ≡ number
    lists_number several =
        let start = first_of setup.plan number in
        let each = per_call setup.plan in
        let blocks : writing_blocks setup number ≡ list_blocks setup number group =
        ap (λ (b : Bool). cond b (list_blocks setup number group) (write_blocks setup number (slice_get records number))) several in
        let short = each_take (λ (e : PlanRecord). length e.data.items ≤ 64) each (drop start records)
        (each_drop (λ (e : PlanRecord). length e.data.items ≤ 64) start records good.short) in
        let ten : each ≡ 10 = ap (λ (b : Bool). cond b 10 1) several in
        let at : start ≡ number * 10 = ap (λ (b : Bool). cond b (number * 10) number) several in
        let inside : number < (length records + 9) / 10 =
        subst (λ (count : ℕ). number < count) (ap (λ (b : Bool). cond b ((length records + 9) / 10) (length records)) several) listed in
        let few : length group ≤ 10 = omega (arith, take_few each (drop start records), ten) in
        let some : 0 < length group = take_some each (drop start records) (omega (arith, ten)) (omega (arith, at, inside, length-drop start records)) in
        ap number_in blocks ∙ list_number group some (list_can read setup number long group good.named (omega (arith, listed, good.few)) few short)

    pub number_is : number_in (writing_blocks setup number) ≡ number
    number_is = by_kind setup.plan.multiple_write refl
      where
        by_kind : (b : Bool) → setup.plan.multiple_write ≡ b → number_in (writing_blocks setup number) ≡ number
        by_kind true several = lists_number several
        by_kind false alone = one_number alone

    -- what the Write asks for, by the number of its blocks
    numbered_writing : (standing : Option (List ℕ)) (writing : Writing) → IsWritingOf rules named real standing (suc number) (rules.group number) writing
        → IsWritingOf rules named real standing (suc (number_in (writing_blocks setup number))) (rules.group (number_in (writing_blocks setup number))) writing
    numbered_writing standing writing is = subst (λ (n : ℕ). IsWritingOf rules named real standing (suc n) (rules.group n) writing) (sym number_is) is

    -- a Write that carries one record
    one_planned : setup.plan.multiple_write ≡ false → IsPlannedWrite rules named real (writing_blocks setup number)
    one_planned alone =
        let inside : number < length records =
        subst (λ (count : ℕ). number < count) (ap (λ (b : Bool). cond b ((length records + 9) / 10) (length records)) alone) listed in
        let there = there_is records number inside in
        let entry = there.0 in
        let below : IsParameter entry = each_at IsParameter records number entry good.records there.1 in
        let fits : IsPlaced entry = each_at IsPlaced records number entry good.placed there.1 in
        let short : length entry.data.items ≤ 64 = each_at (λ (e : PlanRecord). length e.data.items ≤ 64) records number entry good.short there.1 in
        let blocks : writing_blocks setup number ≡ write_blocks setup number (Some entry) =
        ap (λ (b : Bool). cond b (list_blocks setup number group) (write_blocks setup number (slice_get records number))) alone
        ∙ ap (λ (o : Option PlanRecord). write_blocks setup number o) there.1 in
        let is_one : group ≡ entry ∷ [] =
        ap (λ (b : Bool). take (cond b 10 1) (drop (cond b (number * 10) number) records)) alone ∙ one_at records number entry there.1 in
        record {
          keeps = λ standing writing e.
              let keeping = write_is setup real number entry below (λ rest. read (variant.IodWriteReq (write_asked setup number entry)) rest (record_can number listed entry below fits short))
              standing writing (subst (λ (b : List ℕ). writing_of standing real b ≡ Ok writing) blocks e) in
              numbered_writing standing writing (subst (λ (w : Writing). IsWritingOf rules named real standing (suc number) (map taken_for group) w) (sym keeping.1)
              (taken_for entry, ap (λ (entries : List PlanRecord). map taken_for entries) is_one, keeping.2));
          unasked = λ standing write e.
              let asked = write_asked setup number entry in
              let same = within_is asked entry.data.items
              (read (variant.IodWriteReq asked) entry.data.items (record_can number listed entry below fits short)) standing write
              (subst (λ (b : List ℕ). write_within standing b ≡ Ok write) blocks e) in
              subst (λ (request : IodWriteReq). asked_name real named request.header ≡ None) (sym same)
              (unnamed_is real named asked.header (each_at (IsUnnamed named) records number entry unnamed.records there.1));
        }

    -- a Write that carries a list of these records
    list_kept : setup.plan.multiple_write ≡ true → (standing : Option (List ℕ)) (entries : List PlanRecord) → length entries ≤ 10 → AreWritable read setup number entries
        → AllByRecursion IsParameter entries → IsRecord (list_asked setup number (length (entries_bytes setup number entries))).header
        → ((octets : List ℕ) → says_written setup.plan (suc number) octets ≡ true → is_all_written (outcomes_behind (outcome_at octets) (length entries)) ≡ true)
        → (writing : Writing) → writing_of standing real (list_blocks setup number entries) ≡ Ok writing
        → IsWritingOf rules named real standing (suc number) (map taken_for entries) writing
    list_kept several standing [] few can below sized says writing e = absurd (nothing_written standing real writing e)
    list_kept several standing (entry ∷ entries) few can below sized says writing e =
        let outcome = list_is read setup named real number entry entries few can sized standing writing e in
        subst (λ (w : Writing). IsWritingOf rules named real standing (suc number) (map taken_for (entry ∷ entries)) w) (sym outcome) (
          each_keeps read setup named real number standing (entry ∷ entries) below,
          λ outcomes are said. list_done read setup number (entry ∷ entries) sized can outcomes are (says _ said),
        )

    -- the Write of a list is not of one of the application's records
    list_unasked : (entries : List PlanRecord) → IsRecord (list_asked setup number (length (entries_bytes setup number entries))).header
        → (standing : Option (List ℕ)) (write : IodWriteReq × List ℕ) → write_within standing (list_blocks setup number entries) ≡ Ok write
        → asked_name real named write.0.header ≡ None
    list_unasked [] sized standing write e = absurd (nothing_within standing write e)
    list_unasked (entry ∷ entries) sized standing write e =
        let octets = entries_bytes setup number (entry ∷ entries) in
        let asked = list_asked setup number (length octets) in
        let same = within_is asked octets (read (variant.IodWriteReq asked) octets (record { header = sized })) standing write e in
        subst (λ (request : IodWriteReq). asked_name real named request.header ≡ None) (sym same)
        (unnamed_is real named asked.header (none_above named unnamed.indices 0xFFFF 0xFFFF 0xE040 (omega arith)))

    list_planned : setup.plan.multiple_write ≡ true → IsPlannedWrite rules named real (writing_blocks setup number)
    list_planned several = record {
      keeps = λ standing writing e.
          let start = first_of setup.plan number in
          let each = per_call setup.plan in
          let blocks : writing_blocks setup number ≡ list_blocks setup number group =
          ap (λ (b : Bool). cond b (list_blocks setup number group) (write_blocks setup number (slice_get records number))) several in
          let below = each_take IsParameter each (drop start records) (each_drop IsParameter start records good.records) in
          let fits = each_take IsPlaced each (drop start records) (each_drop IsPlaced start records good.placed) in
          let short = each_take (λ (e : PlanRecord). length e.data.items ≤ 64) each (drop start records) (each_drop (λ (e : PlanRecord). length e.data.items ≤ 64) start records good.short) in
          let ten : each ≡ 10 = ap (λ (b : Bool). cond b 10 1) several in
          let few : length group ≤ 10 = omega (arith, take_few each (drop start records), ten) in
          numbered_writing standing writing (list_kept several standing group few (records_can number listed group below fits short) below
          (list_can read setup number long group good.named (omega (arith, listed, good.few)) few short)
          (λ octets says. says_all setup number several listed octets says) writing (subst (λ (b : List ℕ). writing_of standing real b ≡ Ok writing) blocks e));
      unasked = λ standing write e.
          let start = first_of setup.plan number in
          let each = per_call setup.plan in
          let blocks : writing_blocks setup number ≡ list_blocks setup number group =
          ap (λ (b : Bool). cond b (list_blocks setup number group) (write_blocks setup number (slice_get records number))) several in
          let short = each_take (λ (e : PlanRecord). length e.data.items ≤ 64) each (drop start records)
          (each_drop (λ (e : PlanRecord). length e.data.items ≤ 64) start records good.short) in
          let ten : each ≡ 10 = ap (λ (b : Bool). cond b 10 1) several in
          let few : length group ≤ 10 = omega (arith, take_few each (drop start records), ten) in
          list_unasked group (list_can read setup number long group good.named (omega (arith, listed, good.few)) few short) standing write
          (subst (λ (b : List ℕ). write_within standing b ≡ Ok write) blocks e);
    }

    write_planned : IsPlannedWrite rules named real (writing_blocks setup number)
    write_planned = by_kind setup.plan.multiple_write refl
      where
        by_kind : (b : Bool) → setup.plan.multiple_write ≡ b → IsPlannedWrite rules named real (writing_blocks setup number)
        by_kind true several = list_planned several
        by_kind false alone = one_planned alone

  asked_planned : (request : Request) → IsCalled request → IsListed setup.plan request
      → IsPlannedAs rules named real (call_for setup request).header.sequence (blocks_of setup request) (operation_of (call_for setup request).header.operation)
  unfolding operation_of
  asked_planned asks.Identify called listed = absurd called
  asked_planned asks.Address called listed = absurd called
  asked_planned asks.Connect called listed = good.connect
  asked_planned (asks.Write number) called listed = λ planned. write_planned number listed
  asked_planned asks.PrmEnd called listed = tt
  asked_planned (asks.PrmEndAfter tries) called listed = tt
  asked_planned (asks.WriteAfter number tries) called listed = λ planned. write_planned number listed
  asked_planned (asks.Release sequence) called listed = tt

  -- a Write of the application, or after a plug, that is one of the plan
  access_write : (sequence : ℕ) (blocks : List ℕ) → is_planned setup sequence blocks ≡ true → IsPlannedWrite rules named real blocks
  access_write sequence blocks e =
      let number = number_in blocks in
      let parts = and_parts (nat_lt number (write_count setup.plan)) (pointwise nat_eq blocks (writing_blocks setup number) && nat_lt number sequence) e in
      let same = (and_parts (pointwise nat_eq blocks (writing_blocks setup number)) (nat_lt number sequence) parts.1).0 in
      subst (λ (b : List ℕ). IsPlannedWrite rules named real b) (sym (same_text blocks _ (sym same)))
      (write_planned number (ltb-true number (write_count setup.plan) parts.0))

  access_planned : (kind : RecordService) (sequence : ℕ) (blocks : List ℕ) → IsPlannedAs rules named real sequence blocks (operation_of (service_operation kind))
  unfolding operation_of
  access_planned service.Read sequence blocks = tt
  access_planned service.Write sequence blocks = λ planned. access_write sequence blocks planned

  -- a Write after a plug, whose record may be one of the plan, or PrmEnd
  plug_planned : (step : PlugStep) (sequence : ℕ) (blocks : List ℕ) → IsPlannedAs rules named real sequence blocks (operation_of (plug_operation step))
  unfolding operation_of
  plug_planned (plug_step.Record number) sequence blocks = λ planned. access_write sequence blocks planned
  plug_planned plug_step.PrmEnd sequence blocks = tt

  call_planned : (caller : Caller) (call : Call) → IsKnownCall setup caller call → IsPlannedCall rules setup.activity named real call
  call_planned caller call (inl own) = subst (λ (c : Call). IsPlannedCall rules setup.activity named real c) (sym own.is) (record {
    own = refl;
    blocks = blocks_of setup own.request;
    counted = refl;
    asks = asked_planned own.request own.called own.listed;
  })
  call_planned caller call (inr (inl access)) = subst (λ (c : Call). IsPlannedCall rules setup.activity named real c) (sym access.is) (record {
    own = refl;
    blocks = record_blocks setup access.request access.octets access.request.service;
    counted = refl;
    asks = access_planned access.request.service access.request.sequence (record_blocks setup access.request access.octets access.request.service);
  })
  call_planned caller call (inr (inr plugged)) = subst (λ (c : Call). IsPlannedCall rules setup.activity named real c) (sym plugged.is) (record {
    own = refl;
    blocks = plug_blocks setup plugged.request plugged.request.step;
    counted = refl;
    asks = plug_planned plugged.request.step plugged.request.sequence (plug_blocks setup plugged.request plugged.request.step);
  })

  said_planned : (caller : Caller) (reported : device.Said) → IsKnownSaid setup caller reported → IsPlannedIn rules setup.activity named real reported
  said_planned caller (device.Calls call) known = call_planned caller call known
  said_planned caller reported known = tt

  pub heard_planned : (heard : Heard) → IsKnownHeard setup heard → IsPlanned rules setup.activity named real heard
  heard_planned (device.Reported caller address reported) known = said_planned caller reported known
  heard_planned heard known = tt
