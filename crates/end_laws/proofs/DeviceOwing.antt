-- The status of each response in a start-up has four octets.
use Rattle.std.proofs.Common.{◌≡◌, ◌<◌, ℕ, Bool, true, false, not, cond, List, [], ◌∷◌, ◌++◌, length, take, Option, Some, None, option_map, Result, Ok, Err, refl, sym, subst, ◌∙◌, arith}
use Rattle.std.specs.Prelude.{◌==◌, ◌||◌, ◌&&◌, is_some, nat_lt, nat_eq}
use Rattle.std.specs.List.{AllByRecursion}
use Rattle.std.specs.Cmp.Lexicographic.{pointwise}
use Rattle.wire.specs.Codec.{◌>>=◌}
use Rattle.wire.specs.Checks.{or_fault}
use Rattle.wire.specs.Formats.{big_number}
use Rattle.pn_values.specs.declared.real.Real.{Real}
use Rattle.frame_codec.specs.declared.udp.Caller.{Caller}
use Rattle.rpc_core.specs.Call.{Asked as Call}
use Rattle.rpc_core.specs.Response.{is_done}
use Rattle.rpc_core.specs.Sendable.{IsStatus}
use Rattle.asked_records.specs.Answers.{unanswered_status}
use Rattle.asked_records.specs.Judging.{asked_name, asked_place, asked_read, asked_write, read_found, write_found}
use Rattle.asked_records.specs.declared.names.RecordName.{RecordName}
use Rattle.asked_records.specs.declared.question.Request.{Request as Wanted}
use Rattle.asked_records.specs.declared.question.Request.TheVariants as wanted
use Rattle.asked_records.specs.declared.status.Unanswered.TheVariants.{Busy}
use Rattle.device_core.specs.Asking.{asking_of, asking_read, asking_write, question_of, write_within}
use Rattle.wire.specs.declared.blocks.fault.BlockFault.{BlockFault}
use Rattle.connect_blocks.specs.declared.control.ControlBlock.{ControlBlock}
use Rattle.block_codec.specs.declared.block_type.BlockType.{BlockType}
use Rattle.block_codec.specs.declared.block_type.BlockType.TheVariants as kind
use Rattle.block_codec.specs.Kinds.{number_of}
use Rattle.block_codec.specs.Block.{block_of, in_iod_read_req, in_iod_write_req}
use Rattle.records.specs.declared.status.call_fault.CallFault.{CallFault}
use Rattle.records.specs.declared.status.call_fault.CallFault.TheVariants as fault
use Rattle.records.specs.declared.status.operation.Operation.{Operation}
use Rattle.records.specs.declared.status.operation.Operation.TheVariants as operation
use Rattle.records.specs.status.Operation.{code_of}
use Rattle.records.specs.status.Status.{status_of}
use Rattle.records.specs.calls.Handled.{handled as in_order}
use Rattle.records.specs.calls.Naming.{in_relation, is_relation}
use Rattle.records.specs.calls.Single.{formed, single_of}
use Rattle.connects.specs.declared.requests.parts.Ar.{Ar}
use Rattle.connects.specs.requests.Pieces.{Piece, pieces_of}
use Rattle.connects.specs.requests.Request.{Request}
use Rattle.connects.specs.requests.Handled.{admitted, any_short, ar_in, conflict, request_behind, request_in, request_of, request_within}
use Rattle.record_blocks.specs.declared.write_record.IodWriteReq.{IodWriteReq}
use Rattle.im_records.specs.Indices.{is_anywhere, is_read_only, record_with}
use Rattle.im_records.specs.Records.{is_real}
use Rattle.record_blocks.specs.declared.read_record.IodReadReq.{IodReadReq}
use Rattle.records.specs.declared.reads.listing.Level.{Level}
use Rattle.records.specs.declared.reads.listing.Listing.{Listing}
use Rattle.records.specs.reads.Answer.{answer_of as read_answer_of}
use Rattle.records.specs.reads.Handled.{found, has_parameter, placed, read_of, request_of as read_request_of}
use Rattle.records.specs.reads.Listing.{is_of_relation, is_there, listed_at, listing_of, octets_of, served as read_served, served_by}
use Rattle.records.specs.reads.Within.{record_within, request_within as read_within}
use Rattle.device_records.specs.Own.{own_of}
use Rattle.device_records.specs.Reading.{relation_read}
use Rattle.device_records.specs.Sources.{Known}
use Rattle.records.specs.declared.writes.taken.TakenRecord.{TakenRecord}
use Rattle.records.specs.declared.writes.writing.Writing.TheVariants.{One, Each}
use Rattle.records.specs.writes.Asked.{handled_writing, several_of, writing_of}
use Rattle.records.specs.writes.Handled.{effect_of, is_known, handled_request as write_handled, targeted, written}
use Rattle.records.specs.writes.Several.{is_several, list_behind}
use Rattle.records.specs.writes.Taken.{keep_of}
use Rattle.relations.specs.RelationState.{RelationState, is_named, is_session, is_started, passes_on, phase_of, uuid_of}
use Rattle.relations.specs.Phases.{Records, differing_in, keeping, kept_in}
use Rattle.relations.specs.Plugging.{block_in, is_told_in, plug_end_in, plug_named, plug_told}
use Rattle.connect_blocks.specs.declared.plug_control.PlugControlBlock.{PlugControlBlock}
use Rattle.connect_blocks.specs.PlugControl.{plug_control}
use Rattle.relations.specs.Passed.{passed_more}
use Rattle.relations.specs.declared.options.DeviceOptions.{DeviceOptions}
use Rattle.relations.specs.Calls.{control_block, in_control, in_started, named_of, prm_end_of, release_of}
use Rattle.relations.specs.Connect.{connect_within, is_foreign}
use Rattle.device_core.specs.Handled.{outcome_of, kept_answer}
use Rattle.device_core.specs.Machine.{written_as}
use Rattle.pn_values.specs.declared.identity.Identity.{Identity}
use Rattle.pn_values.specs.declared.mac.Mac.{Mac}
use Rattle.pn_values.specs.declared.settings.Settings.{Settings}
use Rattle.pn_values.specs.declared.set_item.BlockError.{BlockError}
use Rattle.pn_values.specs.declared.set_item.BlockError.TheVariants as error

pub bind_ok : {A B : Type 0} (r : Result A CallFault) (f : A → Result B CallFault) (y : B) → (r >>= f) ≡ Ok y → (x : A) × (r ≡ Ok x) × (f x ≡ Ok y)
bind_ok (Ok x) f y e = (x, refl, e)
bind_ok (Err why) f y e = absurd cc

-- ---- faults whose status has four octets

-- a fault that names no field of a block, or one of an ARBlockReq or an IOCRBlockReq whose number is one octet
abbrev pub IsPlain : CallFault → Type 0
IsPlain (fault.ArField field) = field < 256
IsPlain (fault.IocrField field) = field < 256
IsPlain (fault.ExpectedField field) = ⊥
IsPlain (fault.AlarmCrField field) = ⊥
IsPlain why = Unit {0}

pub code_small : (which : Operation) → code_of which < 256
code_small operation.Connect = omega arith
code_small which = omega arith

pub status_sized : (which : Operation) (why : CallFault) → IsPlain why → IsStatus (status_of which why)
unfolding status_of
status_sized which (fault.ArField field) plain = record { code = code_small which; decode = omega arith; code1 = omega arith; code2 = plain }
status_sized which (fault.IocrField field) plain = record { code = code_small which; decode = omega arith; code1 = omega arith; code2 = plain }
status_sized which (fault.ExpectedField field) plain = absurd plain
status_sized which (fault.AlarmCrField field) plain = absurd plain
status_sized which why plain = record { code = code_small which; decode = omega arith; code1 = omega arith; code2 = omega arith }

-- if a call is refused, it is for such a fault
abbrev pub IsPlainIn : {A : Type 0} → Result A CallFault → Type 0
IsPlainIn (Ok value) = Unit {0}
IsPlainIn (Err why) = IsPlain why

pub outcome_sized : (which : Operation) (outcome : Result (List ℕ) CallFault) → IsPlainIn outcome → IsStatus (outcome_of which outcome).0
outcome_sized which (Ok blocks) plain = record { code = omega arith; decode = omega arith; code1 = omega arith; code2 = omega arith }
outcome_sized which (Err why) plain = status_sized which why plain

pub bind_plain : {A B : Type 0} (r : Result A CallFault) (next : A → Result B CallFault) → IsPlainIn r → ((value : A) → IsPlainIn (next value)) → IsPlainIn (r >>= next)
bind_plain (Ok value) next one others = others value
bind_plain (Err why) next one others = one

fault_plain : {A : Type 0} (why : CallFault) (value : Option A) → IsPlain why → IsPlainIn (or_fault why value)
fault_plain why (Some value) plain = tt
fault_plain why None plain = plain

handled_plain : {A : Type 0} (judgements : List (Bool × CallFault)) (otherwise : Result A CallFault) → AllByRecursion (λ (one : Bool × CallFault). IsPlain one.1) judgements → IsPlainIn otherwise
    → IsPlainIn (in_order judgements otherwise)
handled_plain [] otherwise plain other = other
handled_plain {A} (judgement ∷ others) otherwise plain other = by_test judgement.0 (handled_plain others otherwise plain.1 other)
  where
    by_test : (b : Bool) → IsPlainIn (in_order others otherwise) → IsPlainIn (cond b (Err judgement.1) (in_order others otherwise))
    by_test true rest = plain.0
    by_test false rest = rest

-- ---- a block, and what it is for

formed_plain : {A : Type 0} (r : Result A BlockFault) → IsPlainIn (formed r)
formed_plain (Ok value) = tt
formed_plain (Err why) = tt

single_plain : (type : BlockType) (blocks : List ℕ) → IsPlainIn (single_of type blocks)
unfolding single_of
single_plain type blocks = handled_plain
    ((length blocks == 0, fault.BlockMissing)
    ∷ (nat_lt (length blocks) 4, fault.BlockHeader)
    ∷ (not (big_number 2 blocks == number_of type), fault.BlockType)
    ∷ [])
    (formed (block_of blocks)) (tt, (tt, (tt, tt))) (formed_plain (block_of blocks))

control_plain : (type : BlockType) (blocks : List ℕ) → IsPlainIn (control_block type blocks)
control_plain type blocks =
    bind_plain (single_of type blocks) (λ x. or_fault fault.BlockForm (in_control x.0)) (single_plain type blocks) (λ x. fault_plain fault.BlockForm (in_control x.0) tt)

named_plain : (link : Option RelationState) (block : ControlBlock) (command : ℕ) → IsPlainIn (named_of link block command)
named_plain link block command = handled_plain
    ((not (is_named block.ar_uuid link), fault.UnknownRelation)
    ∷ (not (is_session block.session_key link), fault.UnknownSession)
    ∷ (not (block.control_command == command), fault.ControlCommand)
    ∷ [])
    (Ok tt) (tt, (tt, (tt, tt))) tt

started_plain : (link : Option RelationState) → IsPlainIn (in_started link)
started_plain link = handled_plain ((not (is_started (phase_of link)), fault.Phase) ∷ []) (Ok tt) (tt, tt) tt

pub prm_plain : (link : Option RelationState) (blocks : List ℕ) → IsPlainIn (prm_end_of link blocks)
unfolding prm_end_of
prm_plain link blocks =
    bind_plain (control_block kind.PrmEnd blocks) (λ block. named_of link block 1 >>= λ _. in_started link >>= λ _. Ok block) (control_plain kind.PrmEnd blocks)
    (λ block. bind_plain (named_of link block 1) (λ _. in_started link >>= λ _. Ok block) (named_plain link block 1)
    (λ _. bind_plain (in_started link) (λ _. Ok block) (started_plain link) (λ _. tt)))

-- that after a plug
block_plain : {A : Type 0} (read : Result (PlugControlBlock × A) BlockFault) → IsPlainIn (block_in read)
block_plain (Ok x) = tt
block_plain (Err why) = tt

pub plug_plain : (link : Option RelationState) (blocks : List ℕ) → IsPlainIn (plug_end_in blocks link)
unfolding plug_end_in
plug_plain link blocks =
    bind_plain (block_in ((plug_control 0x0111).read blocks)) (λ block. plug_named link block >>= λ _. plug_told link block >>= λ _. Ok block)
    (block_plain ((plug_control 0x0111).read blocks))
    (λ block. bind_plain (plug_named link block) (λ _. plug_told link block >>= λ _. Ok block)
    (handled_plain
    ((not (is_named block.ar_uuid link), fault.UnknownRelation)
    ∷ (not (is_session block.session_key link), fault.UnknownSession)
    ∷ (not (block.control_command == 1), fault.ControlCommand)
    ∷ [])
    (Ok tt) (tt, (tt, (tt, tt))) tt)
    (λ _. bind_plain (plug_told link block) (λ _. Ok block)
    (handled_plain ((not (is_told_in block.alarm_sequence_number link), fault.Phase) ∷ []) (Ok tt) (tt, tt) tt) (λ _. tt)))

pub release_plain : (link : Option RelationState) (blocks : List ℕ) → IsPlainIn (release_of link blocks)
unfolding release_of
release_plain link blocks =
    bind_plain (control_block kind.Release blocks) (λ block. named_of link block 4 >>= λ _. Ok block) (control_plain kind.Release blocks)
    (λ block. bind_plain (named_of link block 4) (λ _. Ok block) (named_plain link block 4) (λ _. tt))

-- ---- a Write

related_plain : (standing : Option (List ℕ)) (uuid : List ℕ) → IsPlainIn (in_relation standing uuid)
unfolding in_relation
related_plain standing uuid = handled_plain ((not (is_relation standing uuid), fault.UnknownRelation) ∷ []) (Ok tt) (tt, tt) tt

placed_plain : (real : Real) (api slot subslot index : ℕ) → IsPlainIn (placed real api slot subslot index)
unfolding placed
placed_plain real api slot subslot index = handled_plain
    ((not (api == 0), fault.Api)
    ∷ (not (is_anywhere (record_with index) || is_real real slot subslot), fault.Place)
    ∷ [])
    (Ok tt) (tt, (tt, tt)) tt

targeted_plain : (standing : Option (List ℕ)) (real : Real) (request : IodWriteReq) → IsPlainIn (targeted standing real request)
unfolding targeted
targeted_plain standing real request =
    bind_plain (in_relation standing request.header.ar_uuid) (λ _. placed real request.header.api request.header.slot_number request.header.subslot_number request.header.index)
    (related_plain standing request.header.ar_uuid) (λ _. placed_plain real request.header.api request.header.slot_number request.header.subslot_number request.header.index)

written_plain : (real : Real) (request : IodWriteReq) (behind : List ℕ) → IsPlainIn (written real request behind)
unfolding written
written_plain real request behind = handled_plain
    ((not (is_known real request), fault.Index)
    ∷ (is_read_only (record_with request.header.index), fault.Access)
    ∷ (nat_lt (length behind) request.header.record_data_length, fault.WriteLength)
    ∷ [])
    (or_fault fault.WriteLength (effect_of real request (take request.header.record_data_length behind))) (tt, (tt, (tt, tt)))
    (fault_plain fault.WriteLength (effect_of real request (take request.header.record_data_length behind)) tt)

pub request_plain : (standing : Option (List ℕ)) (real : Real) (request : IodWriteReq) (behind : List ℕ) → IsPlainIn (write_handled standing real request behind)
unfolding write_handled
request_plain standing real request behind =
    bind_plain (targeted standing real request) (λ _. written real request behind >>= λ effect. Ok (record { request = request; effect = effect })) (targeted_plain standing real request)
    (λ _. bind_plain (written real request behind) (λ effect. Ok (record { request = request; effect = effect })) (written_plain real request behind) (λ effect. tt))

several_plain : (standing : Option (List ℕ)) (request : IodWriteReq) (behind : List ℕ) → IsPlainIn (several_of standing request behind)
unfolding several_of
several_plain standing request behind =
    bind_plain (in_relation standing request.header.ar_uuid) (λ _. or_fault fault.WriteLength (list_behind request behind)) (related_plain standing request.header.ar_uuid)
    (λ _. fault_plain fault.WriteLength (list_behind request behind) tt)

asked_plain : (standing : Option (List ℕ)) (real : Real) (request : IodWriteReq) (behind : List ℕ) → IsPlainIn (handled_writing standing real request behind)
asked_plain standing real request behind = by_kind (is_several request)
  where
    by_kind : (b : Bool) → IsPlainIn (cond b (several_of standing request behind >>= λ entries. Ok (Each request entries)) (write_handled standing real request behind >>= λ write. Ok (One write)))
    by_kind true = bind_plain (several_of standing request behind) (λ entries. Ok (Each request entries)) (several_plain standing request behind) (λ entries. tt)
    by_kind false = bind_plain (write_handled standing real request behind) (λ write. Ok (One write)) (request_plain standing real request behind) (λ write. tt)

pub writing_plain : (standing : Option (List ℕ)) (real : Real) (blocks : List ℕ) → IsPlainIn (writing_of standing real blocks)
unfolding writing_of
writing_plain standing real blocks =
    bind_plain (single_of kind.IodWriteReq blocks) (λ x. or_fault fault.BlockForm (in_iod_write_req x.0) >>= λ request. handled_writing standing real request x.1)
    (single_plain kind.IodWriteReq blocks)
    (λ x. bind_plain (or_fault fault.BlockForm (in_iod_write_req x.0)) (λ request. handled_writing standing real request x.1) (fault_plain fault.BlockForm (in_iod_write_req x.0) tt)
    (λ request. asked_plain standing real request x.1))

keep_plain : (value : TakenRecord) (records : List TakenRecord) → IsPlainIn (keep_of value records)
unfolding keep_of
keep_plain value records = by_room (nat_lt (length records) 64)
  where
    by_room : (b : Bool) → IsPlainIn (cond b (Ok (records ++ value ∷ [])) (Err fault.TooManyRecords))
    by_room true = tt
    by_room false = tt

pub keeping_plain : (value : TakenRecord) (link : Option RelationState) → IsPlainIn (keeping value link)
keeping_plain value None = tt
keeping_plain value (Some link) = by_option (passes_on link)
  where
    by_room : (kept : Result (List TakenRecord) CallFault) → IsPlainIn kept → IsPlainIn (kept_in link.passed kept)
    by_room (Ok taken) plain = tt
    by_room (Err why) plain = plain

    by_option : (b : Bool) → IsPlainIn (cond b (Ok (record { taken = link.taken; passed = passed_more value link.passed })) (kept_in link.passed (keep_of value link.taken)))
    by_option true = tt
    by_option false = by_room (keep_of value link.taken) (keep_plain value link.taken)

pub kept_plain : (header : IodWriteReq) (kept : Result Records CallFault) → IsPlainIn kept → IsPlainIn (kept_answer header kept)
kept_plain header (Ok records) plain = tt
kept_plain header (Err why) plain = plain

-- ---- a Read

read_request_plain : (blocks : List ℕ) → IsPlainIn (read_request_of blocks)
unfolding read_request_of
read_request_plain blocks =
    bind_plain (single_of kind.IodReadReq blocks) (λ x. or_fault fault.BlockForm (in_iod_read_req x.0)) (single_plain kind.IodReadReq blocks)
    (λ x. fault_plain fault.BlockForm (in_iod_read_req x.0) tt)

within_request_plain : (standing : Option (List ℕ)) (blocks : List ℕ) → IsPlainIn (read_within standing blocks)
unfolding read_within
within_request_plain standing blocks =
    bind_plain (read_request_of blocks) (λ request. in_relation standing request.header.ar_uuid >>= λ _. Ok request) (read_request_plain blocks)
    (λ request. bind_plain (in_relation standing request.header.ar_uuid) (λ _. Ok request) (related_plain standing request.header.ar_uuid) (λ _. tt))

found_plain : (real : Real) (request : IodReadReq) (readable : Option (List ℕ)) → IsPlainIn (found real request readable)
found_plain real request readable = handled_plain
    ((not (is_some readable || has_parameter real request.header.slot_number request.header.subslot_number request.header.index), fault.Index)
    ∷ [])
    (or_fault fault.Access readable) (tt, tt) (fault_plain fault.Access readable tt)

record_plain : (real : Real) (request : IodReadReq) (readable : Option (List ℕ)) → IsPlainIn (read_of real request readable)
unfolding read_of
record_plain real request readable =
    bind_plain (placed real request.header.api request.header.slot_number request.header.subslot_number request.header.index)
    (λ _. found real request readable >>= λ octets. Ok (read_answer_of request octets))
    (placed_plain real request.header.api request.header.slot_number request.header.subslot_number request.header.index)
    (λ _. bind_plain (found real request readable) (λ octets. Ok (read_answer_of request octets)) (found_plain real request readable) (λ octets. tt))

listed_plain : (is_within : Bool) (real : Real) (own : Option (List ℕ)) (request : IodReadReq) (level : Level) (listing : Listing)
    → IsPlainIn (listed_at is_within real own request level listing)
unfolding listed_at
listed_plain is_within real own request level listing =
    let checks =
    (not (request.header.api == 0), fault.Api)
    ∷ (not (is_there real level request.header.slot_number request.header.subslot_number), fault.Place)
    ∷ (is_of_relation level && not is_within, fault.Index)
    ∷ [] in
    let octets = octets_of real own level request.header.slot_number request.header.subslot_number listing in
    bind_plain (in_order checks (or_fault fault.Index octets)) (λ found. Ok (read_answer_of request found))
    (handled_plain checks (or_fault fault.Index octets) (tt, (tt, (tt, tt))) (fault_plain fault.Index octets tt)) (λ found. tt)

served_plain : (is_within : Bool) (real : Real) (own : Option (List ℕ)) (request : IodReadReq) (readable : Option (List ℕ)) → IsPlainIn (read_served is_within real own request readable)
unfolding read_served
served_plain is_within real own request readable = by_listing (listing_of real request)
  where
    by_listing : (x : Option (Level × Listing)) → IsPlainIn (served_by is_within real own request x readable)
    by_listing (Some x) = listed_plain is_within real own request x.0 x.1
    by_listing None = record_plain real request readable

pub read_plain : (known : Known) (identity : Identity) (real : Real) (running : Settings) (blocks : List ℕ) → IsPlainIn (relation_read known identity real running blocks)
unfolding relation_read
read_plain known identity real running blocks =
    bind_plain (read_within (uuid_of known.link) blocks)
    (λ request. read_served true real (own_of true known real request) request (record_within (differing_in real.modules.items known.link) request identity real running)) (within_request_plain (uuid_of known.link) blocks)
    (λ request. served_plain true real (own_of true known real request) request (record_within (differing_in real.modules.items known.link) request identity real running))

-- ---- a call for a record of the application

found_read_plain : (real : Real) (request : IodReadReq) (found : Option RecordName) → IsPlainIn (read_found real request found)
found_read_plain real request None = tt
found_read_plain real request (Some name) =
    bind_plain (asked_place real request.header) (λ _. in_order ((not name.is_readable, fault.Access) ∷ []) (Ok (Some name)))
    (placed_plain real request.header.api request.header.slot_number request.header.subslot_number request.header.index)
    (λ _. handled_plain ((not name.is_readable, fault.Access) ∷ []) (Ok (Some name)) (tt, tt) tt)

found_write_plain : (real : Real) (request : IodWriteReq) (octets : List ℕ) (found : Option RecordName) → IsPlainIn (write_found real request octets found)
found_write_plain real request octets None = tt
found_write_plain real request octets (Some name) =
    let checks =
    (not name.is_writable, fault.Access)
    ∷ (nat_lt (length octets) request.header.record_data_length || nat_lt name.greatest_length request.header.record_data_length, fault.WriteLength)
    ∷ [] in
    bind_plain (asked_place real request.header) (λ _. in_order checks (Ok (Some name)))
    (placed_plain real request.header.api request.header.slot_number request.header.subslot_number request.header.index)
    (λ _. handled_plain checks (Ok (Some name)) (tt, (tt, tt)) tt)

asked_read_plain : (real : Real) (named : List RecordName) (request : IodReadReq) → IsPlainIn (asked_read real named request)
unfolding asked_read
asked_read_plain real named request = found_read_plain real request (asked_name real named request.header)

asked_write_plain : (real : Real) (named : List RecordName) (request : IodWriteReq) (octets : List ℕ) → IsPlainIn (asked_write real named request octets)
unfolding asked_write
asked_write_plain real named request octets = found_write_plain real request octets (asked_name real named request.header)

read_asking_plain : (real : Real) (named : List RecordName) (request : IodReadReq → Wanted) (caller : Caller) (call : Call) (read : Result IodReadReq CallFault)
    → IsPlainIn (asking_read real named request caller call read)
read_asking_plain real named request caller call (Err why) = tt
read_asking_plain real named request caller call (Ok read) =
    bind_plain (asked_read real named read) (λ (found : Option RecordName). Ok
    (option_map (λ (name : RecordName). (question_of caller call (request read) name, [])) found))
    (asked_read_plain real named read) (λ found. tt)

write_asking_plain : (real : Real) (named : List RecordName) (caller : Caller) (call : Call) (write : Result (IodWriteReq × List ℕ) CallFault)
    → IsPlainIn (asking_write real named caller call write)
write_asking_plain real named caller call (Err why) = tt
write_asking_plain real named caller call (Ok x) =
    bind_plain (asked_write real named x.0 x.1)
    (λ (found : Option RecordName). Ok (option_map (λ (name : RecordName).
    (question_of caller call (wanted.Write x.0) name, take x.0.header.record_data_length x.1)) found))
    (asked_write_plain real named x.0 x.1) (λ found. tt)

pub asking_plain : (real : Real) (named : List RecordName) (standing : Option (List ℕ)) (caller : Caller) (call : Call) (blocks : List ℕ) (which : Operation)
    → IsPlainIn (asking_of real named standing caller call blocks which)
asking_plain real named standing caller call blocks operation.Connect = tt
asking_plain real named standing caller call blocks operation.Release = tt
asking_plain real named standing caller call blocks operation.Control = tt
asking_plain real named standing caller call blocks operation.Read = read_asking_plain real named wanted.Read caller call (read_within standing blocks)
asking_plain real named standing caller call blocks operation.Write = write_asking_plain real named caller call (write_within standing blocks)
asking_plain real named standing caller call blocks operation.ReadImplicit = read_asking_plain real named wanted.ReadImplicit caller call
    (read_request_of blocks)

-- a call that is refused while another one is asked
pub busy_sized : (which : Operation) → IsStatus (unanswered_status which Busy)
busy_sized which = record { code = code_small which; decode = omega arith; code1 = omega arith; code2 = omega arith }

pub busy_undone : (which : Operation) → is_done (unanswered_status which Busy) ≡ false
busy_undone operation.Connect = refl
busy_undone operation.Release = refl
busy_undone operation.Read = refl
busy_undone operation.Write = refl
busy_undone operation.Control = refl
busy_undone operation.ReadImplicit = refl

-- ---- a Write whose record the settings store

pub stored_plain : (header : IodWriteReq) (answer : BlockError) → IsPlainIn (written_as header answer)
stored_plain header error.Done = tt
stored_plain header error.Exhausted = tt
stored_plain header error.Local = tt
stored_plain header error.Option = tt
stored_plain header error.Suboption = tt
stored_plain header error.Value = tt
stored_plain header error.InOperation = tt

-- ---- a Connect that is accepted if there is no relation

err_ok : {A B : Type 0} (why : B) (value : A) → ◌≡◌ {A = Result A B} (Err why) (Ok value) → ⊥
err_ok why value e = absurd cc

same_ok : {A B : Type 0} (x y : A) → ◌≡◌ {A = Result A B} (Ok x) (Ok y) → x ≡ y
same_ok x y e = cc

-- one that is accepted asks for what its blocks say, and there was no relation
same_pieces : (standing : Option (List ℕ)) (pieces : List Piece) (one other : Request) → request_in standing pieces ≡ Ok one → request_in None pieces ≡ Ok other → one ≡ other
unfolding request_in
same_pieces None pieces one other e f = same_ok one other (sym e ∙ f)
same_pieces (Some standing) [] one other e f = absurd cc
same_pieces (Some standing) (piece ∷ pieces) one other e f =
    let there = bind_ok (ar_in piece) (λ ar. admitted None ar >>= λ _. request_behind ar pieces) other f in
    absurd (err_ok (conflict standing there.0.uuid) one
    (subst (λ (r : Result Ar CallFault). (r >>= λ ar. admitted (Some standing) ar >>= λ _. request_behind ar pieces) ≡ Ok one) there.1 e))

pub same_request : (standing : Option (List ℕ)) (blocks : List ℕ) (one other : Request) → request_of standing blocks ≡ Ok one → request_of None blocks ≡ Ok other → one ≡ other
unfolding request_of
same_request standing blocks one other e f = same_pieces standing (pieces_of blocks) one other e f

conflict_plain : (standing asked : List ℕ) → IsPlain (conflict standing asked)
conflict_plain standing asked = by_name (pointwise nat_eq asked standing)
  where
    by_name : (b : Bool) → IsPlain (cond b fault.RelationExists fault.OtherRelationExists)
    by_name true = tt
    by_name false = tt

pieces_plain : (standing : Option (List ℕ)) (pieces : List Piece) (request : Request) → request_in None pieces ≡ Ok request → IsPlainIn (request_in standing pieces)
unfolding request_in
pieces_plain None pieces request reads = subst (λ (r : Result Request CallFault). IsPlainIn r) (sym reads) tt
pieces_plain (Some standing) [] request reads = absurd cc
pieces_plain (Some standing) (piece ∷ pieces) request reads =
    let there = bind_ok (ar_in piece) (λ ar. admitted None ar >>= λ _. request_behind ar pieces) request reads in
    subst (λ (r : Result Ar CallFault). IsPlainIn (r >>= λ ar. admitted (Some standing) ar >>= λ _. request_behind ar pieces)) (sym there.1) (conflict_plain standing there.0.uuid)

within_plain : (short : Bool) (read : Result Request CallFault) → IsPlainIn read → IsPlainIn (cond short (Err (fault.IocrField 10)) read)
within_plain true read plain = omega arith
within_plain false read plain = plain

foreign_plain : (foreign : Bool) (read : Result Request CallFault) → IsPlainIn read → IsPlainIn (cond foreign (Err (fault.ArField 7)) read)
foreign_plain true read plain = omega arith
foreign_plain false read plain = plain

pub connect_plain : (options : DeviceOptions) (source : Mac) (link : Option RelationState) (blocks : List ℕ) (request : Request) → request_of None blocks ≡ Ok request
    → IsPlainIn (connect_within options source link blocks)
unfolding request_of request_within
connect_plain options source link blocks request reads =
    let smallest = options.smallest_interval in
    foreign_plain (is_foreign options source link blocks) (request_within smallest (uuid_of link) blocks)
    (within_plain (any_short smallest (uuid_of link) (pieces_of blocks)) (request_in (uuid_of link) (pieces_of blocks)) (pieces_plain (uuid_of link) (pieces_of blocks) request reads))
