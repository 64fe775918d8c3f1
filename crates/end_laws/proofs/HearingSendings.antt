-- Each call of a controller for its plan can be sent.
use Rattle.std.proofs.Common.{◌≡◌, ◌≤◌, ◌<◌, ◌+◌, ◌-◌, ◌*◌, ◌/◌, ℕ, zero, suc, Bool, true, false, cond, List, [], ◌∷◌, length, take, drop, Some, refl, arith}
use Rattle.std.specs.List.{AllByRecursion, slice_get}
use Rattle.std.specs.Prelude.{replicate}
use Rattle.std.proofs.lemmas.Bool.{leb-true}
use Rattle.std.proofs.lemmas.List.{length-append}
use Rattle.wire.specs.blocks.Fields.{body, version}
use Rattle.connect_blocks.specs.Control.{command, control}
use Rattle.connect_blocks.specs.ArBlock.{ar_block_req, ar_uuid, initiator_mac}
use Rattle.connect_blocks.specs.declared.control.ControlBlock.{ControlBlock}
use Rattle.record_blocks.specs.declared.write_record.IodWriteReq.{IodWriteReq}
use Rattle.record_blocks.specs.declared.read_record.IodReadReq.{IodReadReq}
use Rattle.record_blocks.specs.ReadRecord.{iod_read_req}
use Rattle.record_blocks.specs.RecordHeader.{record_header as place_of}
use Rattle.record_blocks.specs.WriteRecord.{iod_write_req}
use Rattle.block_codec.specs.declared.block.Block.{Block}
use Rattle.block_codec.specs.declared.block.Block.TheVariants as is
use Rattle.block_codec.specs.Block.{block_bytes, block_size, fields_of}
use Rattle.rpc_core.specs.declared.interface.Interface.TheVariants.{Controller, Device}
use Rattle.rpc_core.specs.Interface.{interface_uuid}
use Rattle.plans.specs.declared.parts.Parts.{Parts}
use Rattle.plans.specs.declared.parts.PlanRecord.{PlanRecord}
use Rattle.plans.specs.declared.parts.Station.{Station}
use Rattle.plans.specs.Connect.{ar_block, blocks_of, bytes_of, connect_of, size_of, some_uuid}
use Rattle.plans.specs.Plan.{AreShort, IsPlan}
use Rattle.controller_messages.specs.declared.plug_request.PlugRequest.{PlugRequest}
use Rattle.controller_messages.specs.declared.plug_request.PlugStep.{PlugStep}
use Rattle.controller_messages.specs.declared.plug_request.PlugStep.TheVariants as step
use Rattle.controller_messages.specs.declared.record_request.RecordRequest.{RecordRequest}
use Rattle.controller_messages.specs.declared.record_request.RecordService.{RecordService}
use Rattle.controller_messages.specs.declared.record_request.RecordService.TheVariants as service
use Rattle.controller_messages.specs.declared.request.Request.{Request}
use Rattle.controller_messages.specs.declared.request.Request.TheVariants as asks
use Rattle.controller_messages.specs.declared.setup.Setup.{Setup}
use Rattle.controller_messages.specs.PlugRequests.{plug_blocks, plug_call, plug_end, plug_operation, plug_write, plug_write_blocks}
use Rattle.controller_messages.specs.RecordRequests.{read_of, record_blocks, record_call, service_operation, written_of}
use Rattle.controller_messages.specs.Requests.{blocks_of as blocks_for, call_for, control_of, entries_bytes, entry_bytes, first_of, group_of, header_of, list_blocks, list_of, object_of, operation_of, padding_of, per_call, sequence_of, write_blocks, write_of, writing_blocks}
use Rattle.relations.specs.declared.plugging.PlugReady.{PlugReady}
use Rattle.relations.specs.declared.ready.Ready.{Ready}
use Rattle.connect_blocks.specs.PlugControl.{plug_control}
use Rattle.rpc_core.specs.Call.{Asked as Call}
use Rattle.controller_messages.specs.Sent.{ready_answer, ready_done}
use Rattle.rpc_core.specs.Sendable.{CanBeAnswered, CanBeCalled, IsHeader, IsUuid}
use Rattle.end_laws.specs.hearing.Stations.{IsCalled, IsNumbered, IsPlugCall, IsRecordCall, IsSetup, plug_ready_call, ready_call}
use Rattle.end_laws.proofs.HearingGiven.{BlocksAreLong}
use Rattle.end_laws.proofs.SendingSizes.{count_few, plug_size}

-- ---- the header

object_long : (station : Station) → length (object_of station) ≡ 16
unfolding object_of
object_long station = refl

sequence_small : (plan : Parts) (request : Request) → IsPlan plan → IsNumbered request → sequence_of plan request < 4294967296
sequence_small plan asks.Identify is numbered = omega arith
sequence_small plan asks.Address is numbered = omega arith
sequence_small plan asks.Connect is numbered = omega arith
sequence_small plan (asks.Write number) is numbered = omega (arith, numbered)
sequence_small plan asks.PrmEnd is numbered = omega (arith, count_few plan is)
sequence_small plan (asks.Release sequence) is numbered = numbered
sequence_small plan (asks.WriteAfter number tries) is numbered = omega (arith, numbered.0, numbered.1)
sequence_small plan (asks.PrmEndAfter tries) is numbered = omega (arith, count_few plan is, numbered)

operation_small : (request : Request) → operation_of request < 65536
operation_small asks.Identify = omega arith
operation_small asks.Address = omega arith
operation_small asks.Connect = omega arith
operation_small (asks.Write number) = omega arith
operation_small asks.PrmEnd = omega arith
operation_small (asks.Release sequence) = omega arith
operation_small (asks.WriteAfter number tries) = omega arith
operation_small (asks.PrmEndAfter tries) = omega arith

header_is : (setup : Setup) (request : Request) → IsSetup setup → IsNumbered request → IsHeader (header_of setup request)
header_is setup request good numbered = record {
  object = object_long setup.plan.station;
  interface = refl;
  activity = good.activity;
  sequence = sequence_small setup.plan request good.plan numbered;
  operation = operation_small request;
}

-- ---- the blocks

-- the length of the ARBlockReq depends only on the length of the ARUUID
ar_size : (parts : Parts) (ar : List ℕ) → length ar ≡ 16 → block_size (is.ArBlockReq (ar_block parts ar)) ≡ block_size (is.ArBlockReq (ar_block parts some_uuid))
unfolding block_size fields_of body version ar_block_req ar_uuid initiator_mac
ar_size parts ar sixteen = rw sixteen refl

control_size : (block : ControlBlock) → length block.ar_uuid ≡ 16 → block_size (is.PrmEnd block) ≡ 32
unfolding block_size fields_of body version control command
control_size block sixteen = omega (arith, sixteen)

release_size : (block : ControlBlock) → length block.ar_uuid ≡ 16 → block_size (is.Release block) ≡ 32
unfolding block_size fields_of body version control command
release_size block sixteen = omega (arith, sixteen)

ready_size : (block : ControlBlock) → length block.ar_uuid ≡ 16 → block_size (is.ApplicationReady block) ≡ 32
unfolding block_size fields_of body version control command
ready_size block sixteen = omega (arith, sixteen)

done_size : (block : ControlBlock) → length block.ar_uuid ≡ 16 → block_size (is.ApplicationReadyRes block) ≡ 32
unfolding block_size fields_of body version control command
done_size block sixteen = omega (arith, sixteen)

write_size : (block : IodWriteReq) → length block.header.ar_uuid ≡ 16 → block_size (is.IodWriteReq block) ≤ 100
unfolding block_size fields_of body version iod_write_req place_of
write_size block sixteen = omega (arith, sixteen)

written_size : (block : IodWriteReq) → length block.header.ar_uuid ≡ 16 → block_size (is.IodWriteReq block) ≤ 64
unfolding block_size fields_of body version iod_write_req place_of
written_size block sixteen = omega (arith, sixteen)

read_size : (block : IodReadReq) → length block.header.ar_uuid ≡ 16 → length block.target_ar_uuid ≡ 16 → block_size (is.IodReadReq block) ≤ 64
unfolding block_size fields_of body version iod_read_req place_of
read_size block sixteen other = omega (arith, sixteen, other)

-- ---- some items of a list

take_few : {A : Type 0} (n : ℕ) (xs : List A) → length (take n xs) ≤ n
take_few zero [] = omega arith
take_few zero (x ∷ xs) = omega arith
take_few (suc n) [] = omega arith
take_few (suc n) (x ∷ xs) = omega (arith, take_few n xs)

each_take : {A : Type 0} (P : A → Type 0) (n : ℕ) (xs : List A) → AllByRecursion P xs → AllByRecursion P (take n xs)
each_take P zero [] all = tt
each_take P zero (x ∷ xs) all = tt
each_take P (suc n) [] all = tt
each_take P (suc n) (x ∷ xs) all = (all.0, each_take P n xs all.1)

each_drop : {A : Type 0} (P : A → Type 0) (n : ℕ) (xs : List A) → AllByRecursion P xs → AllByRecursion P (drop n xs)
each_drop P zero [] all = tt
each_drop P zero (x ∷ xs) all = all
each_drop P (suc n) [] all = tt
each_drop P (suc n) (x ∷ xs) all = each_drop P n xs all.1

module _ (long : BlocksAreLong) where
  bytes_long : (blocks : List Block) → length (bytes_of blocks) ≡ size_of blocks
  bytes_long [] = refl
  bytes_long (block ∷ blocks) = omega (arith, length-append (block_bytes block) (bytes_of blocks), long block, bytes_long blocks)

  connect_few : (setup : Setup) → IsSetup setup → length (connect_of setup.plan setup.ar) ≤ 1372
  connect_few setup good =
      let fits = leb-true (size_of (blocks_of setup.plan some_uuid)) 1372 good.plan.connect in
      omega (arith, bytes_long (blocks_of setup.plan setup.ar), ar_size setup.plan setup.ar good.ar, fits)

  -- a record of a list has at most 128 octets with its block and its padding
  padding_few : (size : ℕ) → size ≤ 64 → size + length (padding_of size) ≤ 64
  padding_few size few =
      let zeros : List ℕ = replicate 3 0 in
      omega (arith, few, take_few ((size + 3) / 4 * 4 - size) zeros)

  entries_few : (setup : Setup) (number : ℕ) (entries : List PlanRecord) → IsSetup setup → AreShort entries → length (entries_bytes setup number entries) ≤ 128 * length entries
  entries_few setup number [] good short = omega arith
  entries_few setup number (entry ∷ entries) good short =
      let block = write_of setup number entry in
      omega (
        arith,
        length-append (entry_bytes setup number entry) (entries_bytes setup number entries),
        length-append (write_blocks setup number (Some entry)) (padding_of (length entry.data.items)),
        length-append (block_bytes (is.IodWriteReq block)) entry.data.items,
        long (is.IodWriteReq block),
        written_size block good.ar,
        padding_few (length entry.data.items) short.0,
        entries_few setup number entries good short.1,
      )

  list_few : (setup : Setup) (number : ℕ) (entries : List PlanRecord) → IsSetup setup → AreShort entries → length entries ≤ 10 → length (list_blocks setup number entries) ≤ 1372
  list_few setup number [] good short few = omega arith
  list_few setup number (entry ∷ entries) good short few =
      let octets = entries_bytes setup number (entry ∷ entries) in
      let block = list_of setup number (length octets) in
      omega (
        arith,
        few,
        length-append (block_bytes (is.IodWriteReq block)) octets,
        long (is.IodWriteReq block),
        written_size block good.ar,
        entries_few setup number (entry ∷ entries) good short,
      )

  record_few : (setup : Setup) (number : ℕ) (entries : List PlanRecord) (at : ℕ) → IsSetup setup → AreShort entries → length (write_blocks setup number (slice_get entries at)) ≤ 1372
  record_few setup number [] at good short = omega arith
  record_few setup number (entry ∷ entries) zero good short =
      omega (arith, length-append (block_bytes (is.IodWriteReq (write_of setup number entry))) entry.data.items, long (is.IodWriteReq (write_of setup number entry)), write_size (write_of setup number entry) good.ar, short.0)
  record_few setup number (entry ∷ entries) (suc at) good short = record_few setup number entries at good short.1

  either_few : (b : Bool) (one other : List ℕ) → length one ≤ 1372 → length other ≤ 1372 → length (cond b one other) ≤ 1372
  either_few true one other few more = few
  either_few false one other few more = more

  call_few : (b : Bool) → cond b 10 1 ≤ 10
  call_few true = omega arith
  call_few false = omega arith

  written_few : (setup : Setup) (number : ℕ) → IsSetup setup → length (writing_blocks setup number) ≤ 1372
  written_few setup number good =
      let records = setup.plan.records.items in
      either_few setup.plan.multiple_write (list_blocks setup number (group_of setup.plan number)) (write_blocks setup number (slice_get records number))
      (list_few setup number (group_of setup.plan number) good
      (each_take (λ (entry : PlanRecord). length entry.data.items ≤ 64) (per_call setup.plan) (drop (first_of setup.plan number) records)
      (each_drop (λ (entry : PlanRecord). length entry.data.items ≤ 64) (first_of setup.plan number) records good.plan.short_records))
      (omega (arith, take_few (per_call setup.plan) (drop (first_of setup.plan number) records), call_few setup.plan.multiple_write)))
      (record_few setup number records number good good.plan.short_records)

  blocks_few : (setup : Setup) (request : Request) → IsSetup setup → length (blocks_for setup request) ≤ 1372
  blocks_few setup asks.Identify good = omega arith
  blocks_few setup asks.Address good = omega arith
  blocks_few setup asks.Connect good = connect_few setup good
  blocks_few setup (asks.Write number) good = written_few setup number good
  blocks_few setup (asks.WriteAfter number tries) good = written_few setup number good
  blocks_few setup (asks.PrmEndAfter tries) good = omega (arith, long (is.PrmEnd (control_of setup 1)), control_size (control_of setup 1) good.ar)
  blocks_few setup asks.PrmEnd good = omega (arith, long (is.PrmEnd (control_of setup 1)), control_size (control_of setup 1) good.ar)
  blocks_few setup (asks.Release sequence) good = omega (arith, long (is.Release (control_of setup 4)), release_size (control_of setup 4) good.ar)

  pub call_can : (setup : Setup) (request : Request) → IsSetup setup → IsCalled request → IsNumbered request → CanBeCalled Device (call_for setup request)
  call_can setup request good called numbered = record {
    header = header_is setup request good numbered;
    named = refl;
    maximum = omega arith;
    blocks = blocks_for setup request;
    whole = refl;
    few = blocks_few setup request good;
  }

  -- ---- a request of the application

  asked_few : (setup : Setup) (request : RecordRequest) (octets : List ℕ) (asked : RecordService) → IsSetup setup → length octets ≤ 1308
      → length (record_blocks setup request octets asked) ≤ 1372
  asked_few setup request octets service.Read good few =
      omega (arith, long (is.IodReadReq (read_of setup request)), read_size (read_of setup request) good.ar refl)
  asked_few setup request octets service.Write good few =
      let block = written_of setup request (length octets) in
      omega (arith, length-append (block_bytes (is.IodWriteReq block)) octets, long (is.IodWriteReq block), written_size block good.ar, few)

  service_small : (asked : RecordService) → service_operation asked < 65536
  service_small service.Read = omega arith
  service_small service.Write = omega arith

  pub record_can : (setup : Setup) (request : RecordRequest) (octets : List ℕ) → IsSetup setup → IsRecordCall request octets → CanBeCalled Device (record_call setup request octets)
  record_can setup request octets good can = record {
    header = record {
      object = object_long setup.plan.station;
      interface = refl;
      activity = good.activity;
      sequence = can.0;
      operation = service_small request.service;
    };
    named = refl;
    maximum = omega arith;
    blocks = record_blocks setup request octets request.service;
    whole = refl;
    few = asked_few setup request octets request.service good can.1;
  }

  -- ---- a request after a plug

  entry_few : (setup : Setup) (request : PlugRequest) (entries : List PlanRecord) (at : ℕ) → IsSetup setup → AreShort entries
      → length (plug_write_blocks setup request (slice_get entries at)) ≤ 1372
  entry_few setup request [] at good short = omega arith
  entry_few setup request (entry ∷ entries) zero good short =
      asked_few setup (plug_write request entry) entry.data.items service.Write good (omega (arith, short.0))
  entry_few setup request (entry ∷ entries) (suc at) good short = entry_few setup request entries at good short.1

  plug_few : (setup : Setup) (request : PlugRequest) (asked : PlugStep) → IsSetup setup → length (plug_blocks setup request asked) ≤ 1372
  plug_few setup request (step.Record number) good = entry_few setup request setup.plan.records.items number good good.plan.short_records
  plug_few setup request step.PrmEnd good = omega (arith, plug_size 0x0111 (plug_end setup request.number) good.ar)

  step_small : (asked : PlugStep) → plug_operation asked < 65536
  step_small (step.Record number) = omega arith
  step_small step.PrmEnd = omega arith

  pub plug_call_can : (setup : Setup) (request : PlugRequest) → IsSetup setup → IsPlugCall request → CanBeCalled Device (plug_call setup request)
  plug_call_can setup request good can = record {
    header = record {
      object = object_long setup.plan.station;
      interface = refl;
      activity = good.activity;
      sequence = can;
      operation = step_small request.step;
    };
    named = refl;
    maximum = omega arith;
    blocks = plug_blocks setup request request.step;
    whole = refl;
    few = plug_few setup request request.step good;
  }

  ready_few : (block : ControlBlock) → length block.ar_uuid ≡ 16 → length (block_bytes (is.ApplicationReady block)) ≤ 1372
  ready_few block sixteen = omega (arith, long (is.ApplicationReady block), ready_size block sixteen)

  pub ready_can : (ready : Ready) → IsHeader ready.header → ready.header.interface ≡ interface_uuid Controller → IsUuid ready.block.ar_uuid → CanBeCalled Controller (ready_call ready)
  ready_can ready header named sixteen = record {
    header = header;
    named = named;
    maximum = omega arith;
    blocks = block_bytes (is.ApplicationReady ready.block);
    whole = refl;
    few = ready_few ready.block sixteen;
  }

  pub answer_can : (call : Call) (block : ControlBlock) → IsHeader call.header → call.args_maximum < 4294967296 → IsUuid block.ar_uuid → CanBeAnswered (ready_answer call block)
  answer_can call block header maximum sixteen = record {
    header = header;
    status = record { code = omega arith; decode = omega arith; code1 = omega arith; code2 = omega arith };
    maximum = maximum;
    few = omega (arith, long (is.ApplicationReadyRes (ready_done block)), done_size (ready_done block) sixteen);
  }

pub plug_can : (ready : PlugReady) → IsHeader ready.header → ready.header.interface ≡ interface_uuid Controller → IsUuid ready.block.ar_uuid → CanBeCalled Controller (plug_ready_call ready)
plug_can ready header named sixteen = record {
  header = header;
  named = named;
  maximum = omega arith;
  blocks = (plug_control 0x0113).write ready.block [];
  whole = refl;
  few = omega (arith, plug_size 0x0113 ready.block sixteen);
}
