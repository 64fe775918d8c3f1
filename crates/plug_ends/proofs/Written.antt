-- What a device accepts with the Write of a record after a plug: the plan's record, after its others.
use Rattle.std.proofs.Common.{◌≡◌, ◌⊎◌, inl, inr, ◌<◌, ◌≤◌, ◌&&◌, ◌==◌, ◌%◌, ℕ, zero, suc, Bool, true, false, not, cond, List, [], ◌∷◌, ◌++◌, length}
use Rattle.std.proofs.Common.{take, Option, Some, None, Result, Ok, Err, refl, sym, ap, subst, ◌∙◌, arith}
use Rattle.std.specs.Prelude.{if◌then◌else◌, nat_lt, slice_get}
use Rattle.std.specs.List.{AllByRecursion}
use Rattle.std.proofs.Math.Nat.{mod-lt}
use Rattle.std.proofs.lemmas.Bool.{cond-false, cond_both, false≢true, ne_eqb}
use Rattle.wire.specs.Codec.{◌>>=◌}
use Rattle.wire.specs.Checks.{or_fault}
use Rattle.wire.specs.Formats.{big_number}
use Rattle.wire.specs.declared.blocks.fault.BlockFault.{BlockFault}
use Rattle.wire.proofs.Fields.{bind_ok, ok_is}
use Rattle.settings_journal.specs.settings_store.Machine.{Outcome}
use Rattle.pn_values.specs.declared.real.Real.{Real}
use Rattle.pn_values.specs.declared.im_value.ImValue.{ImValue}
use Rattle.frame_codec.specs.declared.udp.Caller.{Caller}
use Rattle.rpc_core.specs.Call.{Asked as Call}
use Rattle.rpc_core.specs.Response.{is_done}
use Rattle.block_codec.specs.declared.block.Block.{Block}
use Rattle.block_codec.specs.declared.block.Block.TheVariants as variant
use Rattle.block_codec.specs.declared.block_type.BlockType.{BlockType}
use Rattle.block_codec.specs.declared.block_type.BlockType.TheVariants as kind
use Rattle.block_codec.specs.Kinds.{number_of}
use Rattle.block_codec.specs.Block.{block_bytes, block_of, front, in_iod_write_req}
use Rattle.block_codec.specs.Writable.{CanBeWritten}
use Rattle.record_blocks.specs.declared.write_record.IodWriteReq.{IodWriteReq}
use Rattle.im_records.specs.declared.record.Record.{Record}
use Rattle.im_records.specs.Indices.{is_read_only, is_text, record_with}
use Rattle.im_records.specs.Records.{is_device}
use Rattle.im_records.specs.Writable.{is_writable}
use Rattle.records.specs.declared.status.call_fault.CallFault.{CallFault}
use Rattle.records.specs.declared.status.call_fault.CallFault.TheVariants as fault
use Rattle.records.specs.declared.status.operation.Operation.{Operation}
use Rattle.records.specs.declared.status.operation.Operation.TheVariants as operation
use Rattle.records.specs.status.Operation.{operation_of}
use Rattle.records.specs.status.Status.{status_of}
use Rattle.records.specs.calls.Handled.{handled as in_order}
use Rattle.records.specs.calls.Single.{formed, single_of}
use Rattle.records.specs.reads.Parameters.{parameter_length}
use Rattle.records.specs.declared.writes.taken.TakenRecord.{TakenRecord}
use Rattle.records.specs.declared.writes.write.Effect.{Effect}
use Rattle.records.specs.declared.writes.write.Effect.TheVariants.{Keeps, Stores}
use Rattle.records.specs.declared.writes.write.Write.{Write}
use Rattle.records.specs.declared.writes.writing.Writing.{Writing}
use Rattle.records.specs.declared.writes.writing.Writing.TheVariants.{One, Each}
use Rattle.records.specs.writes.Asked.{handled_writing, writing_of}
use Rattle.records.specs.writes.Entry.{Entry}
use Rattle.records.specs.writes.Handled.{effect_of, is_known, is_length, handled_request, kept, stored, targeted, written}
use Rattle.records.specs.writes.Several.{is_several}
use Rattle.records.specs.writes.Taken.{keep_of}
use Rattle.connects.specs.requests.Request.{Request}
use Rattle.plans.specs.Plan.{AreShort}
use Rattle.plans.specs.declared.parts.PlanRecord.{PlanRecord}
use Rattle.relations.specs.Passed.{PassedOn}
use Rattle.relations.specs.Phases.{Records, keeping, kept_in}
use Rattle.relations.specs.RelationState.{RelationState, passes_on, uuid_of}
use Rattle.device_frames.specs.Heard.{Calls, Heard, Reported}
use Rattle.device_frames.specs.Sent.{Sent}
use Rattle.device_core.specs.Handled.{Handled, Moves, outcome_of}
use Rattle.device_core.specs.State.{Live, Rest, Station}
use Rattle.device_core.specs.Machine.{heard_step}
use Rattle.controller_messages.specs.declared.plug_request.PlugRequest.{PlugRequest}
use Rattle.controller_messages.specs.declared.plug_request.PlugStep.{PlugStep}
use Rattle.controller_messages.specs.declared.setup.Setup.{Setup}
use Rattle.controller_messages.specs.PlugRequests.{plug_blocks, plug_call, plug_operation, plug_write_blocks}
use Rattle.end_laws.specs.both.Small as small
use Rattle.end_laws.specs.both.Small.{Rules}
use Rattle.end_laws.specs.device.Does.{Does, Following, GivesWay, Implicitly, IsEffect, IsForRecord, IsUncalled, Plugging, Readying, Replies, Serves, Written, readied_from}
use Rattle.end_laws.specs.device.Small.{IsPlanned, IsPlannedAs, Planned, heard_as}
use Rattle.end_laws.specs.device.Turn.{Turn}
use Rattle.end_laws.specs.hearing.Stations.{IsSetup}
use Rattle.both_ends.specs.startup.Played.{IsParameter, IsUnnamed}
use Rattle.both_ends.specs.startup.request.Request.{request_for}
use Rattle.both_ends.specs.startup.View.{taken_for}
use Rattle.std.specs.Option.{option_map}
use Rattle.asked_records.specs.Asked.{question_in}
use Rattle.asked_records.specs.Judging.{asked_name, asked_write, write_found}
use Rattle.asked_records.specs.Names.{named_at}
use Rattle.asked_records.specs.declared.names.RecordName.{RecordName}
use Rattle.asked_records.specs.declared.question.Question.{Question}
use Rattle.asked_records.specs.declared.question.Request.{Request as Wanted}
use Rattle.asked_records.specs.declared.question.Request.TheVariants as wanted
use Rattle.asked_records.specs.Answers.{unanswered_status}
use Rattle.asked_records.specs.Questions.{operation_of as operation_asked}
use Rattle.asked_records.specs.declared.status.Unanswered.TheVariants.{Busy}
use Rattle.pn_values.specs.IpSuite.{is_zero}
use Rattle.device_frames.specs.Relation.{where_due}
use Rattle.records.specs.calls.Naming.{in_relation}
use Rattle.records.specs.reads.Handled.{has_parameter}
use Rattle.device_core.specs.Asking.{Asking, asking_of, asking_write, is_kept, is_new, looked_if, question_of, refused_reply, refused_sent, write_within}
use Rattle.end_laws.specs.both.Steps.{IsSameOrNone}
use Rattle.plug_ends.specs.Taken.{IsPositive, IsWriteOf, TakesOne, hears_plug, taken_in}

some_is : {A : Type 0} (x y : A) → Some x ≡ Some y → x ≡ y
some_is x y e = cc

-- rules by which no Write is one of a start-up
abbrev pub plain_rules : Setup → Rules TakenRecord Request
plain_rules setup = record {
  request = request_for setup.plan setup.ar;
  count = 0;
  group = λ number. [];
  is_planned = λ sequence blocks. false;
  grants = λ sequence blocks. true;
  skips = false;
  to_device = λ octets. small.Idle;
  to_controller = λ octets. small.Nothing;
}

pub plain_none : (setup : Setup) → (plain_rules setup).is_planned ≡ (λ sequence blocks. false)
plain_none setup = refl

-- one record
abbrev One_of : Write → Writing
One_of write = One write

-- a call is refused
abbrev IsErr : Result (List ℕ) CallFault → Type 0
IsErr (Err why) = Unit {0}
IsErr (Ok octets) = ⊥

-- if no earlier judgement fails, the rest decides
pub handled_ok : {A : Type 0} (judgements : List (Bool × CallFault)) (otherwise : Result A CallFault) (value : A) → in_order judgements otherwise ≡ Ok value
    → otherwise ≡ Ok value
handled_ok [] otherwise value e = e
handled_ok {A} (judgement ∷ others) otherwise value e = by_test judgement.0 (λ f. handled_ok others otherwise value f) e
  where
    by_test : (b : Bool) → (in_order others otherwise ≡ Ok value → otherwise ≡ Ok value) → cond b (Err judgement.1) (in_order others otherwise) ≡ Ok value
        → otherwise ≡ Ok value
    by_test true rest f = absurd cc
    by_test false rest f = rest f

pub fault_ok : {A : Type 0} (why : CallFault) (value : Option A) (x : A) → or_fault why value ≡ Ok x → value ≡ Some x
fault_ok why (Some value) x e = ap (λ y. Some y) (ok_is value x e)
fault_ok why None x e = absurd cc

formed_ok : {A : Type 0} (read : Result A BlockFault) (x : A) → formed read ≡ Ok x → read ≡ Ok x
formed_ok (Ok value) x e = ap (λ y. Ok y) (ok_is value x e)
formed_ok (Err why) x e = absurd cc

-- ---- a record that is written

pub single_is : (type : BlockType) (blocks : List ℕ) (x : Block × List ℕ) → single_of type blocks ≡ Ok x → block_of blocks ≡ Ok x
unfolding single_of
single_is type blocks x e = formed_ok (block_of blocks) x (handled_ok
    ((length blocks == 0, fault.BlockMissing)
    ∷ (nat_lt (length blocks) 4, fault.BlockHeader)
    ∷ (not (big_number 2 blocks == number_of type), fault.BlockType)
    ∷ [])
    (formed (block_of blocks)) x e)

all_octets : (xs : List ℕ) → take (length xs) xs ≡ xs
all_octets [] = refl
all_octets (x ∷ xs) = ap (λ (ys : List ℕ). x ∷ ys) (all_octets xs)

differs : (index number : ℕ) → index < number → (index == number) ≡ false
differs index number below = ne_eqb index number (λ same. omega (arith, below, same))

-- an index below 0x8000 is not one of the device's own records
none_below : (index : ℕ) → index < 0x8000 → record_with index ≡ None
unfolding record_with
none_below index below =
    let not_0 : (index == 0xAFF0) ≡ false = differs index 0xAFF0 (omega (arith, below)) in
    let not_1 : (index == 0xAFF1) ≡ false = differs index 0xAFF1 (omega (arith, below)) in
    let not_2 : (index == 0xAFF2) ≡ false = differs index 0xAFF2 (omega (arith, below)) in
    let not_3 : (index == 0xAFF3) ≡ false = differs index 0xAFF3 (omega (arith, below)) in
    let not_4 : (index == 0xAFF4) ≡ false = differs index 0xAFF4 (omega (arith, below)) in
    let not_filter : (index == 0xF840) ≡ false = differs index 0xF840 (omega (arith, below)) in
    let not_diff : (index == 0xE002) ≡ false = differs index 0xE002 (omega (arith, below)) in
    rw (not_0, not_1, not_2, not_3, not_4, not_filter, not_diff) refl

not_writable : (index slot subslot : ℕ) → index < 0x8000 → is_writable index slot subslot ≡ false
not_writable index slot subslot below = ap (λ (one : Option Record). is_text one && is_device slot subslot) (none_below index below)

-- a Write of the record, whatever its number
module _ (setup : Setup) (real : Real) (number : ℕ) (entry : PlanRecord) (below : IsParameter entry) where
  abbrev asked : IodWriteReq
  asked = record {
    header = record {
      seq_number = number;
      ar_uuid = setup.ar;
      api = 0;
      slot_number = entry.slot;
      subslot_number = entry.subslot;
      index = entry.index;
      record_data_length = length entry.data.items;
    };
  }

  kept_is : (size : Option ℕ) (effect : Effect) → cond (is_length size (length entry.data.items)) (Some (Keeps (taken_for entry))) None ≡ Some effect
      → effect ≡ Keeps (taken_for entry)
  kept_is size effect e = by_length (is_length size (length entry.data.items)) e
    where
      by_length : (b : Bool) → cond b (Some (Keeps (taken_for entry))) None ≡ Some effect → effect ≡ Keeps (taken_for entry)
      by_length true f = sym (some_is (Keeps (taken_for entry)) effect f)
      by_length false f = absurd cc

  effect_is : (effect : Effect) → effect_of real asked entry.data.items ≡ Some effect → effect ≡ Keeps (taken_for entry)
  effect_is effect e =
      kept_is (parameter_length real.modules.items entry.slot entry.subslot entry.index) effect
      (ap (λ (b : Bool). cond b (stored entry.index entry.data.items) (kept real asked entry.data.items))
      (sym (not_writable entry.index entry.slot entry.subslot below)) ∙ e)

  written_is : (effect : Effect) → written real asked entry.data.items ≡ Ok effect → effect ≡ Keeps (taken_for entry)
  unfolding written
  written_is effect e =
      let all = take (length entry.data.items) entry.data.items in
      let there = fault_ok fault.WriteLength (effect_of real asked all) effect (handled_ok
      ((not (is_known real asked), fault.Index)
      ∷ (is_read_only (record_with entry.index), fault.Access)
      ∷ (nat_lt (length entry.data.items) (length entry.data.items), fault.WriteLength)
      ∷ [])
      (or_fault fault.WriteLength (effect_of real asked all)) effect e) in
      effect_is effect (ap (λ (octets : List ℕ). effect_of real asked octets) (sym (all_octets entry.data.items)) ∙ there)

  request_is : (standing : Option (List ℕ)) (write : Write) → handled_request standing real asked entry.data.items ≡ Ok write
      → write.effect ≡ Keeps (taken_for entry)
  unfolding handled_request
  request_is standing write e =
      let one = bind_ok (targeted standing real asked) (λ _. written real asked entry.data.items >>= λ effect. Ok
      (record { request = asked; effect = effect })) write e in
      let two = bind_ok (written real asked entry.data.items) (λ effect. Ok (record { request = asked; effect = effect })) write one.2 in
      ap (λ (w : Write). w.effect) (sym (ok_is (record { request = asked; effect = two.0 }) write two.2)) ∙ written_is two.0 two.1

  -- one record, which is kept
  abbrev IsKeeping : Writing → Type 0
  IsKeeping writing = (write : Write) × (writing ≡ One write) × (write.effect ≡ Keeps (taken_for entry))

  one_record : is_several asked ≡ false
  one_record = ap (λ (b : Bool). b && (0 == 0xFFFFFFFF && (entry.slot == 0xFFFF && entry.subslot == 0xFFFF)))
      (differs entry.index 0xE040 (omega (arith, below)))

  writing_is : (standing : Option (List ℕ)) (writing : Writing) → handled_writing standing real asked entry.data.items ≡ Ok writing → IsKeeping writing
  writing_is standing writing e =
      let alone : (handled_request standing real asked entry.data.items >>= λ write. Ok (One write)) ≡ Ok writing =
      sym (cond-false _ _ _ one_record) ∙ e in
      let there = bind_ok (handled_request standing real asked entry.data.items) (λ write. Ok (One write)) writing alone in
      (there.0, sym (ok_is (One there.0) writing there.2), request_is standing there.0 there.1)

  -- what is read of the blocks that the controller writes
  write_is : ((rest : List ℕ) → block_of (block_bytes (variant.IodWriteReq asked) ++ rest) ≡ front (variant.IodWriteReq asked) rest)
      → (standing : Option (List ℕ)) (writing : Writing) → writing_of standing real
      (block_bytes (variant.IodWriteReq asked) ++ entry.data.items) ≡ Ok writing → IsKeeping writing
  unfolding writing_of
  write_is read standing writing e =
      let blocks = block_bytes (variant.IodWriteReq asked) ++ entry.data.items in
      let one = bind_ok (single_of kind.IodWriteReq blocks) (λ x. or_fault fault.BlockForm
      (in_iod_write_req x.0) >>= λ request. handled_writing standing real request x.1) writing e in
      let same : one.0 ≡ (variant.IodWriteReq asked, entry.data.items) =
      ok_is one.0 (variant.IodWriteReq asked, entry.data.items) (sym (single_is kind.IodWriteReq blocks one.0 one.1) ∙ read entry.data.items) in
      writing_is standing writing
      (subst (λ (x : Block × List ℕ). (or_fault fault.BlockForm (in_iod_write_req x.0) >>= λ request. handled_writing standing real request x.1) ≡ Ok
      writing) same one.2)

-- ---- the Write of a record after a plug

-- a record of a list has what each of them has
each_short : (entries : List PlanRecord) → AreShort entries → (number : ℕ) (entry : PlanRecord) → slice_get entries number ≡ Some entry
    → length entry.data.items ≤ 64
each_short [] short number entry e = absurd (none_is e)
  where
    none_is : {A : Type 0} {x : A} → None ≡ Some x → ⊥
    none_is f = absurd cc
each_short (one ∷ entries) short zero entry e = subst (λ (r : PlanRecord). length r.data.items ≤ 64) (some_is one entry e) short.0
each_short (one ∷ entries) short (suc number) entry e = each_short entries short.1 number entry e

module _ (read : (block : Block) (rest : List ℕ) → CanBeWritten block → block_of (block_bytes block ++ rest) ≡ front block rest)
    (undone : (which : Operation) (why : CallFault) → is_done (status_of which why) ≡ false)
    (turns : (rules : Rules TakenRecord Request) (activity : List ℕ) (outcomes : List Outcome) (station : Station) (live : Live) (heard : Heard)
    → IsPlanned rules activity station.named live.rest.real heard
    → Turn station live heard (heard_step outcomes station live heard).live.rest (heard_step outcomes station live heard).sent)
    (setup : Setup) (good : IsSetup setup) (request : PlugRequest) (entry : PlanRecord) (is : IsWriteOf setup request entry) where
  abbrev number : ℕ
  number = request.sequence % 65536

  short : length entry.data.items ≤ 64
  short = each_short setup.plan.records.items good.plan.short_records is.number entry is.is

  abbrev block : IodWriteReq
  block = record {
    header = record {
      seq_number = number;
      ar_uuid = setup.ar;
      api = 0;
      slot_number = entry.slot;
      subslot_number = entry.subslot;
      index = entry.index;
      record_data_length = length entry.data.items;
    };
  }

  can_be : CanBeWritten (variant.IodWriteReq block)
  can_be =
      let below : entry.index < 0x8000 = is.parameter in
      record {
        header = record {
          seq_number = mod-lt request.sequence (omega arith);
          ar_uuid = good.ar;
          api = omega arith;
          slot_number = is.placed.0;
          subslot_number = is.placed.1;
          index = omega (arith, below);
          record_data_length = omega (arith, short);
        };
      }

  -- the blocks of the call are those of the record
  blocks_are : plug_blocks setup request request.step ≡ block_bytes (variant.IodWriteReq block) ++ entry.data.items
  blocks_are =
      ap (λ (step : PlugStep). plug_blocks setup request step) is.step
      ∙ (ap (λ (found : Option PlanRecord). plug_write_blocks setup request found) is.is
      ∙ (ap (λ (slot : ℕ). block_bytes (variant.IodWriteReq (record block
      { header = record block.header { slot_number = slot; subslot_number = request.subslot } })) ++ entry.data.items) is.slot
      ∙ ap (λ (subslot : ℕ). block_bytes (variant.IodWriteReq (record block { header = record block.header { subslot_number = subslot } })) ++
      entry.data.items) is.subslot))

  operation_is : operation_of (plug_call setup request).header.operation ≡ Some operation.Write
  unfolding operation_of
  operation_is = ap (λ (step : PlugStep). operation_of (plug_operation step)) is.step

  abbrev none_planned : Planned
  none_planned = λ sequence blocks. false

  heard_is : (caller : Caller) (address : List ℕ) → heard_as none_planned (hears_plug setup caller address request) ≡ small.Call request.sequence small.Accesses
  heard_is caller address =
      ap (λ (which : Option Operation). Rattle.end_laws.specs.device.Small.asked_by none_planned request.sequence
      (plug_blocks setup request request.step) which) operation_is

  module _ (rules : Rules TakenRecord Request) (none : rules.is_planned ≡ none_planned) (outcomes : List Outcome) (station : Station) (live : Live)
      (caller : Caller) (address : List ℕ) where
    abbrev heard : Heard
    heard = hears_plug setup caller address request

    planned : IsPlanned rules setup.activity station.named live.rest.real heard
    planned = record {
      own = refl;
      blocks = plug_blocks setup request request.step;
      counted = refl;
      asks = subst (λ (which : Option Operation). IsPlannedAs rules station.named live.rest.real request.sequence
          (plug_blocks setup request request.step) which) (sym operation_is)
          (λ e. absurd (false≢true (ap (λ (p : Planned). p request.sequence (plug_blocks setup request request.step)) (sym none) ∙ e)));
    }

    abbrev after : Rest
    after = (heard_step outcomes station live heard).live.rest

    abbrev sent : List Sent
    sent = (heard_step outcomes station live heard).sent

    abbrev OneMore : Type 0
    OneMore = TakesOne (taken_for entry) live.rest.link after.link

    abbrev Same : Type 0
    Same = taken_in after.link ≡ taken_in live.rest.link

    -- it passes on what it accepts
    abbrev Passes : Type 0
    Passes = (link : RelationState) × (live.rest.link ≡ Some link) × (passes_on link ≡ true)

    abbrev Came : Type 0
    Came = OneMore ⊎ (Same × Passes)

    call_not_confirms : small.Call request.sequence small.Accesses ≡ small.Confirms → ⊥
    call_not_confirms e = absurd cc

    call_not_idle : small.Call request.sequence small.Accesses ≡ small.Idle → ⊥
    call_not_idle e = absurd cc

    -- ---- what the Write does

    same_one : (one other : Write) → One_of one ≡ One_of other → one ≡ other
    same_one one other e = cc

    one_each : (write : Write) (header : IodWriteReq) (entries : List Entry) → Each header entries ≡ One_of write → ⊥
    one_each write header entries e = absurd cc

    keeps_same : (one other : TakenRecord) → Keeps one ≡ Keeps other → one ≡ other
    keeps_same one other e = cc

    stores_keeps : (value : ImValue) (record_kept : TakenRecord) → Stores value ≡ Keeps record_kept → ⊥
    stores_keeps value record_kept e = absurd cc

    -- the Write is judged as that of the record
    judged_is : (blocks : List ℕ) → blocks ≡ block_bytes (variant.IodWriteReq block) ++ entry.data.items → (standing : Option (List ℕ)) (writing : Writing)
        → writing_of standing live.rest.real blocks ≡ Ok writing → (write : Write) × (writing ≡ One_of write) × (write.effect ≡ Keeps (taken_for entry))
    judged_is blocks same standing writing e =
        write_is setup live.rest.real number entry is.parameter (λ rest. read (variant.IodWriteReq block) rest can_be) standing writing
        (ap (λ (octets : List ℕ). writing_of standing live.rest.real octets) (sym same) ∙ e)

    -- the records of the relation afterwards
    kept_more_of : (value : TakenRecord) (taken : List TakenRecord) (passed : PassedOn) (more : Records) → kept_in passed (keep_of value taken) ≡ Ok more
        → more.taken ≡ taken ++ value ∷ []
    unfolding keep_of
    kept_more_of value taken passed more = by_room (nat_lt (length taken) 64)
      where
        by_room : (b : Bool) → kept_in passed (if b then Ok (taken ++ value ∷ []) else Err fault.TooManyRecords) ≡ Ok more → more.taken ≡ taken ++ value ∷ []
        by_room true e = ap (λ (r : Records). r.taken) (sym (ok_is (record { taken = taken ++ value ∷ []; passed = passed }) more e))
        by_room false e = absurd cc

    written_came : (blocks : List ℕ) → blocks ≡ block_bytes (variant.IodWriteReq block) ++ entry.data.items
        → Written live.rest.real blocks live.rest.link after.link → Came
    written_came blocks same it = by_passing (passes_on it.link) refl it.kept
      where
        found : (write : Write) × (One_of it.write ≡ One_of write) × (write.effect ≡ Keeps (taken_for entry))
        found = judged_is blocks same (uuid_of live.rest.link) (One_of it.write) it.judged

        value_is : it.value ≡ taken_for entry
        value_is = keeps_same it.value (taken_for entry) (sym it.keeps ∙ (ap (λ (w : Write). w.effect) (same_one it.write found.0 found.1) ∙ found.2))

        now : taken_in after.link ≡ Some it.more.taken
        now = ap (λ (l : Option RelationState). taken_in l) it.becomes

        by_passing : (b : Bool) → passes_on it.link ≡ b → keeping it.value (Some it.link) ≡ Ok it.more → Came
        by_passing true e kept_is = inr (
          now ∙ (ap (λ (taken : List TakenRecord). Some taken) (same_taken e kept_is)
              ∙ ap (λ (l : Option RelationState). taken_in l) (sym it.was)),
          (it.link, it.was, e),
        )
          where
            same_taken : passes_on it.link ≡ true → keeping it.value (Some it.link) ≡ Ok it.more → it.more.taken ≡ it.link.taken
            same_taken f g =
                ap (λ (r : Records). r.taken) (sym (ok_is _ it.more (ap (λ (b : Bool). if b
                then Ok (record { taken = it.link.taken; passed = Rattle.relations.specs.Passed.passed_more it.value it.link.passed })
                else kept_in it.link.passed (keep_of it.value it.link.taken)) (sym f) ∙ g)))
        by_passing false e kept_is = inl (record {
          link = it.link;
          was = it.was;
          becomes = now ∙ (ap (λ (taken : List TakenRecord). Some taken) (kept_more_of it.value it.link.taken it.link.passed it.more (more_taken e kept_is))
              ∙ ap (λ (value : TakenRecord). Some (it.link.taken ++ value ∷ [])) value_is);
        })
          where
            more_taken : passes_on it.link ≡ false → keeping it.value (Some it.link) ≡ Ok it.more
                → kept_in it.link.passed (keep_of it.value it.link.taken) ≡ Ok it.more
            more_taken f g =
                ap (λ (b : Bool). if b
                then Ok (record { taken = it.link.taken; passed = Rattle.relations.specs.Passed.passed_more it.value it.link.passed })
                else kept_in it.link.passed (keep_of it.value it.link.taken)) (sym f) ∙ g

    -- ---- what the step does

    same_call : (one other : Caller) (here there : List ℕ) (call asked_call : Call)
        → Reported one here (Calls call) ≡ Reported other there (Calls asked_call) → call ≡ asked_call
    same_call one other here there call asked_call e = cc

    write_other : (which : Operation) → which ≡ operation.Write → operation.Write ≡ which
    write_other which e = sym e

    module _ (it : Serves station live heard after sent) where
      call_is : plug_call setup request ≡ it.call
      call_is = same_call caller it.caller address it.address (plug_call setup request) it.call it.is

      which_is : it.which ≡ operation.Write
      which_is = some_is it.which operation.Write (sym it.asks ∙ (ap (λ (call : Call). operation_of call.header.operation) (sym call_is) ∙ operation_is))

      blocks_here : it.blocks ≡ block_bytes (variant.IodWriteReq block) ++ entry.data.items
      blocks_here =
          some_is it.blocks (plug_blocks setup request request.step) (sym it.counted ∙ ap (λ (call : Call). call.blocks) (sym call_is)) ∙ blocks_are

      effect_came : (outcome : Result (List ℕ) CallFault) (which : Operation) → which ≡ operation.Write
          → IsEffect station live.rest.real it.caller it.blocks outcome which live.rest.link after.link → (Same × IsErr outcome) ⊎ Came
      effect_came (Err why) which e effect = inl (ap (λ (l : Option RelationState). taken_in l) effect, tt)
      effect_came (Ok octets) operation.Write e (inl effect) = inr (written_came it.blocks blocks_here effect)
      effect_came (Ok octets) operation.Write e (inr (inl effect)) =
          let found = judged_is it.blocks blocks_here (uuid_of live.rest.link) (One_of effect.write) effect.judged in
          absurd (stores_keeps effect.value (taken_for entry) (sym effect.stores
          ∙ (ap (λ (w : Write). w.effect) (same_one effect.write found.0 found.1) ∙ found.2)))
      effect_came (Ok octets) operation.Write e (inr (inr effect)) =
          let found = judged_is it.blocks blocks_here (uuid_of live.rest.link) (Each effect.header effect.entries) effect.judged in
          absurd (one_each found.0 effect.header effect.entries found.1)
      effect_came (Ok octets) operation.Connect e effect = absurd cc
      effect_came (Ok octets) operation.Control e effect = absurd cc
      effect_came (Ok octets) operation.Release e effect = absurd cc
      effect_came (Ok octets) operation.Read e effect = absurd cc
      effect_came (Ok octets) operation.ReadImplicit e effect = absurd cc

      served : (Same × IsErr it.outcome) ⊎ Came
      served = effect_came it.outcome it.which which_is it.effect

      -- a response that is positive
      response_so : ((link : RelationState) → live.rest.link ≡ Some link → passes_on link ≡ false) → is_done (outcome_of it.which it.outcome).0 ≡ true → OneMore
      response_so keeps_all done = by_served served
        where
          err_done : (outcome : Result (List ℕ) CallFault) → IsErr outcome → is_done (outcome_of it.which outcome).0 ≡ true → ⊥
          err_done (Err why) e positive = false≢true (sym (undone it.which why) ∙ positive)
          err_done (Ok octets) e positive = e

          by_served : (Same × IsErr it.outcome) ⊎ Came → OneMore
          by_served (inl refused) = absurd (err_done it.outcome refused.1 done)
          by_served (inr (inl one)) = one
          by_served (inr (inr same)) = absurd (false≢true (sym (keeps_all same.1.0 same.1.1) ∙ same.1.2))

    same_moves : (one other : Rest) (messages more : List Sent) → ◌≡◌ {A = Handled} (Moves one messages) (Moves other more)
        → (one ≡ other) × (messages ≡ more)
    same_moves one other messages more e = (cc, cc)

    -- a call is heard, so a Read Implicit that is asked gives way, if it does not stay
    given_way : (it : Implicitly station live heard after sent) → GivesWay station live heard it.question after sent
    given_way it = by_kind it.does
      where
        by_kind : ((station.options.reads_not_kept ≡ true) × Replies false station live heard after sent)
            ⊎ ((station.options.asks_own_first ≡ true) × GivesWay station live heard it.question after sent)
            → GivesWay station live heard it.question after sent
        by_kind (inl replies) = absurd (call_not_idle (sym (heard_is caller address) ∙ replies.1.idle none_planned))
        by_kind (inr gives) = gives.1

    pub any_came : Same ⊎ OneMore
    any_came = by_does (turns rules setup.activity outcomes station live heard planned).does
      where
        rest_same : after ≡ live.rest → Same
        rest_same e = ap (λ (r : Rest). taken_in r.link) e

        by_served : {P : Type 0} → (Same × P) ⊎ Came → Same ⊎ OneMore
        by_served (inl refused) = inl refused.0
        by_served (inr (inl one)) = inr one
        by_served (inr (inr same)) = inl same.0

        by_does : Does station live heard after sent → Same ⊎ OneMore
        by_does (inl it) = inl (rest_same it.same)
        by_does (inr (inl it)) = absurd (subst (λ (what : small.ToDevice). IsUncalled what) (heard_is caller address) (it.uncalled none_planned))
        by_does (inr (inr (inl it))) = absurd (call_not_confirms (sym (heard_is caller address) ∙ it.confirms none_planned))
        by_does (inr (inr (inr (inl it)))) = inl (rest_same it.same)
        by_does (inr (inr (inr (inr (inl it))))) = by_served (served it)
        by_does (inr (inr (inr (inr (inr (inl it)))))) = inl (ap (λ (r : Rest). taken_in r.link) it.becomes)
        by_does (inr (inr (inr (inr (inr (inr (inl it))))))) = inl (ap (λ (r : Rest). taken_in r.link) it.becomes)
        by_does (inr (inr (inr (inr (inr (inr (inr (inr it)))))))) = inl (ap (λ (r : Rest). taken_in r.link) (same_moves after _ sent _ (given_way it).moves).0)
        by_does (inr (inr (inr (inr (inr (inr (inr (inl it)))))))) = absurd (call_not_idle (sym (heard_is caller address) ∙ it.idle none_planned))

    abbrev Each_so : List Sent → Type 0
    Each_so messages = AllByRecursion (λ message. IsPositive message → OneMore) messages

    pub positive_so : ((link : RelationState) → live.rest.link ≡ Some link → passes_on link ≡ false)
        → AllByRecursion (λ message. IsPositive message → OneMore) sent
    positive_so keeps_all = by_does (turns rules setup.activity outcomes station live heard planned).does
      where
        none_sent : sent ≡ [] → Each_so sent
        none_sent e = subst (λ (messages : List Sent). Each_so messages) (sym e) tt

        readied_so : (own : List ℕ) (ready : Option Following) → Each_so (readied_from own ready)
        readied_so own None = tt
        readied_so own (Some (Readying ready)) = ((λ positive. absurd positive), tt)
        readied_so own (Some (Plugging ready)) = ((λ positive. absurd positive), tt)

        -- the response to a call that gives way is negative
        busy_undone : (request : Wanted) → is_done (unanswered_status (operation_asked request) Busy) ≡ false
        busy_undone (wanted.Read request) = refl
        busy_undone (wanted.ReadImplicit request) = refl
        busy_undone (wanted.Write request) = refl

        busy_so : (question : Question) → Each_so (refused_sent station.options live.values.running.suite.address Busy (Some question) live.rest.calls)
        busy_so question =
            let kept = is_kept station.options (operation_asked question.request) in
            cond_both (is_zero live.values.running.suite.address) _ _ Each_so (λ _. tt)
            (λ _. by_due (is_new (looked_if kept question.header.activity question.header.sequence live.rest.calls)))
          where
            by_due : (b : Bool) → Each_so (where_due b (refused_reply live.values.running.suite.address Busy question ∷ []))
            by_due true = ((λ positive. absurd (false≢true (sym (busy_undone question.request) ∙ positive))), tt)
            by_due false = tt

        by_does : Does station live heard after sent → Each_so sent
        by_does (inl it) = none_sent it.silent
        by_does (inr (inl it)) = absurd (subst (λ (what : small.ToDevice). IsUncalled what) (heard_is caller address) (it.uncalled none_planned))
        by_does (inr (inr (inl it))) = absurd (call_not_confirms (sym (heard_is caller address) ∙ it.confirms none_planned))
        by_does (inr (inr (inr (inl it)))) = subst (λ (messages : List Sent). Each_so messages) (sym it.sends) ((λ positive. absurd positive), tt)
        by_does (inr (inr (inr (inr (inl it))))) =
            subst (λ (messages : List Sent). Each_so messages) (sym it.sends)
            ((λ positive. response_so it keeps_all positive), readied_so live.values.running.suite.address it.ready)
        by_does (inr (inr (inr (inr (inr (inl it)))))) = none_sent it.silent
        by_does (inr (inr (inr (inr (inr (inr (inl it))))))) =
            subst (λ (messages : List Sent). Each_so messages) (sym it.sends) ((λ positive. absurd (false≢true (sym it.undone ∙ positive))), tt)
        by_does (inr (inr (inr (inr (inr (inr (inr (inr it)))))))) =
            subst (λ (messages : List Sent). Each_so messages) (sym (same_moves after _ sent _ (given_way it).moves).1) (busy_so it.question)
        by_does (inr (inr (inr (inr (inr (inr (inr (inl it)))))))) = absurd (call_not_idle (sym (heard_is caller address) ∙ it.idle none_planned))

    -- it is not asked of the application, whose records are others
    module _ (unnamed : IsUnnamed station.named entry) where
      question_of_write : (standing : Option (List ℕ)) (which : Caller) (call : Call) (asking : Asking) (written_here : Result (IodWriteReq × List ℕ) CallFault)
          → write_within standing (block_bytes (variant.IodWriteReq block) ++ entry.data.items) ≡ written_here
          → asking_write live.rest.real station.named which call written_here ≡ Ok (Some asking) → ⊥
      unfolding write_within asked_write
      question_of_write standing which call asking (Err why) e f = absurd cc
      question_of_write standing which call asking (Ok x) e f =
          let blocks = block_bytes (variant.IodWriteReq block) ++ entry.data.items in
          let one = bind_ok (single_of kind.IodWriteReq blocks) (λ y. or_fault fault.BlockForm
          (in_iod_write_req y.0) >>= λ write. in_relation standing write.header.ar_uuid >>= λ _. Ok (write, y.1)) x e in
          let same : one.0 ≡ (variant.IodWriteReq block, entry.data.items) =
          ok_is one.0 (variant.IodWriteReq block, entry.data.items)
          (sym (single_is kind.IodWriteReq blocks one.0 one.1) ∙ read (variant.IodWriteReq block) entry.data.items can_be) in
          let two = bind_ok (in_relation standing block.header.ar_uuid) (λ _. Ok (block, entry.data.items)) x
          (subst (λ (y : Block × List ℕ). (or_fault fault.BlockForm (in_iod_write_req y.0) >>= λ write. in_relation standing write.header.ar_uuid >>= λ _.
          Ok (write, y.1)) ≡ Ok x) same one.2) in
          none_asked (subst (λ (y : IodWriteReq × List ℕ). asking_write live.rest.real station.named which call (Ok y) ≡ Ok (Some asking))
          (sym (ok_is (block, entry.data.items) x two.2)) f)
        where
          by_parameter : (b : Bool) → cond b None (named_at entry.slot entry.subslot entry.index station.named) ≡ None
          by_parameter true = refl
          by_parameter false = unnamed

          none_there : asked_name live.rest.real station.named block.header ≡ None
          none_there = by_parameter (has_parameter live.rest.real entry.slot entry.subslot entry.index)

          none_asked : asking_write live.rest.real station.named which call (Ok (block, entry.data.items)) ≡ Ok (Some asking) → ⊥
          none_asked g = not_some (sym (ap (λ (found : Option RecordName). write_found live.rest.real block entry.data.items found >>= λ name. Ok (option_map
              (λ (n : RecordName). (question_of which call (wanted.Write block) n, take block.header.record_data_length entry.data.items)) name)) none_there) ∙ g)
            where
              not_some : ◌≡◌ {A = Result (Option Asking) CallFault} (Ok None) (Ok (Some asking)) → ⊥
              not_some h = absurd cc

      same_or : (before now : Option Question) → IsSameOrNone before now → (question : Question) → now ≡ Some question → before ≡ Some question
      same_or before now (inl same) question e = sym same ∙ e
      same_or before now (inr none) question e = absurd (none_question (sym none ∙ e))
        where
          none_question : None ≡ Some question → ⊥
          none_question f = absurd cc

      pub unasked_so : (question : Question) → question_in after.asked ≡ Some question → question_in live.rest.asked ≡ Some question
      unasked_so question e = by_does (turns rules setup.activity outcomes station live heard planned).does
        where
          same_rest : after ≡ live.rest → question_in live.rest.asked ≡ Some question
          same_rest f = ap (λ (r : Rest). question_in r.asked) (sym f) ∙ e

          asks_none : (asking : Asking) (it : IsForRecord station live heard asking) → ⊥
          asks_none asking it =
              let call_is : plug_call setup request ≡ it.call =
              same_call caller it.caller address it.address (plug_call setup request) it.call it.is in
              let which_is : it.which ≡ operation.Write =
              some_is it.which operation.Write (sym it.operation_is
              ∙ (ap (λ (call : Call). operation_of call.header.operation) (sym call_is) ∙ operation_is)) in
              let blocks_here : it.blocks ≡ block_bytes (variant.IodWriteReq block) ++ entry.data.items =
              some_is it.blocks (plug_blocks setup request request.step)
              (sym it.counted ∙ ap (λ (call : Call). call.blocks) (sym call_is)) ∙ blocks_are in
              question_of_write (uuid_of live.rest.link) it.caller it.call asking
              (write_within (uuid_of live.rest.link) (block_bytes (variant.IodWriteReq block) ++ entry.data.items)) refl
              (subst (λ (blocks : List ℕ). asking_of live.rest.real station.named (uuid_of live.rest.link) it.caller it.call blocks operation.Write
              ≡ Ok (Some asking)) blocks_here
              (subst (λ (which : Operation). asking_of live.rest.real station.named (uuid_of live.rest.link) it.caller it.call it.blocks which
              ≡ Ok (Some asking)) which_is it.asks))

          by_does : Does station live heard after sent → question_in live.rest.asked ≡ Some question
          by_does (inl it) = same_rest it.same
          by_does (inr (inl it)) = same_or _ _ it.asked question e
          by_does (inr (inr (inl it))) = absurd (call_not_confirms (sym (heard_is caller address) ∙ it.confirms none_planned))
          by_does (inr (inr (inr (inl it)))) = same_rest it.same
          by_does (inr (inr (inr (inr (inl it))))) = same_or _ _ it.asked question e
          by_does (inr (inr (inr (inr (inr (inl it)))))) = absurd (asks_none it.asking it.new_call)
          by_does (inr (inr (inr (inr (inr (inr (inl it))))))) = ap (λ (r : Rest). question_in r.asked) (sym it.becomes) ∙ e
          by_does (inr (inr (inr (inr (inr (inr (inr (inr it)))))))) = absurd (asks_none (given_way it).asking (given_way it).new_call)
          by_does (inr (inr (inr (inr (inr (inr (inr (inl it)))))))) = absurd (call_not_idle (sym (heard_is caller address) ∙ it.idle none_planned))
