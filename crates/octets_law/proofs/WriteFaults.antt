-- A Write is refused for no fault of the flash, and with a status of four octets.
use Rattle.std.proofs.Common.{◌≢◌, ◌<◌, ◌^◌, ℕ, Bool, true, false, not, cond, List, [], ◌∷◌, ◌++◌, length, take, lit<, Option, Some, None, Result, Ok, Err, subst}
use Rattle.std.specs.Prelude.{◌==◌, ◌||◌, nat_lt}
use Rattle.std.specs.List.{AllByRecursion}
use Rattle.wire.specs.Codec.{◌>>=◌}
use Rattle.wire.specs.Checks.{or_fault}
use Rattle.wire.specs.Formats.{big_number}
use Rattle.pn_values.specs.declared.real.Real.{Real}
use Rattle.pn_values.specs.declared.set_item.BlockError.{BlockError}
use Rattle.pn_values.specs.declared.set_item.BlockError.TheVariants as error
use Rattle.wire.specs.declared.blocks.fault.BlockFault.{BlockFault}
use Rattle.block_codec.specs.declared.block_type.BlockType.{BlockType}
use Rattle.block_codec.specs.declared.block_type.BlockType.TheVariants as kind
use Rattle.block_codec.specs.Kinds.{number_of}
use Rattle.block_codec.specs.Block.{block_of, in_iod_write_req}
use Rattle.record_blocks.specs.declared.write_record.IodWriteReq.{IodWriteReq}
use Rattle.im_records.specs.Indices.{is_anywhere, is_read_only, record_with}
use Rattle.im_records.specs.Records.{is_real}
use Rattle.records.specs.declared.status.call_fault.CallFault.{CallFault}
use Rattle.records.specs.declared.status.call_fault.CallFault.TheVariants as fault
use Rattle.records.specs.declared.status.operation.Operation.TheVariants.{Write as Writing}
use Rattle.records.specs.declared.writes.write.Effect.{Effect}
use Rattle.records.specs.declared.writes.write.Effect.TheVariants.{Stores, Keeps}
use Rattle.records.specs.declared.writes.write.Write.{Write}
use Rattle.records.specs.status.Status.{status_of}
use Rattle.rpc_core.specs.declared.response.Status.{Status}
use Rattle.records.specs.calls.Handled.{handled as in_order}
use Rattle.records.specs.calls.Naming.{in_relation, is_relation}
use Rattle.records.specs.calls.Single.{formed, single_of}
use Rattle.records.specs.reads.Handled.{placed}
use Rattle.records.specs.declared.writes.taken.TakenRecord.{TakenRecord}
use Rattle.records.specs.declared.writes.writing.Writing.TheVariants.{One, Each}
use Rattle.records.specs.writes.Answer.{number_of as status_number}
use Rattle.records.specs.writes.Asked.{handled_writing, several_of, writing_of}
use Rattle.records.specs.writes.Handled.{effect_of, is_known, handled_request as write_handled, targeted, written}
use Rattle.records.specs.writes.Several.{is_several, list_behind}
use Rattle.records.specs.writes.Taken.{keep_of}
use Rattle.relations.specs.RelationState.{RelationState, passes_on}
use Rattle.relations.specs.Phases.{Records, keeping, kept_in}
use Rattle.relations.specs.Passed.{passed_more}
use Rattle.device_core.specs.Handled.{outcome_of, kept_answer}
use Rattle.device_core.specs.Machine.{effect_outcome, first_answer, one_status, written_as}

-- A fault that is neither one of the flash nor names a field of a block.
abbrev pub IsPlain : CallFault → Type 0
IsPlain (fault.ArField field) = ⊥
IsPlain (fault.IocrField field) = ⊥
IsPlain (fault.ExpectedField field) = ⊥
IsPlain (fault.AlarmCrField field) = ⊥
IsPlain fault.FlashFault = ⊥
IsPlain why = Unit {0}

-- if a call is refused, it is for such a fault
abbrev pub IsPlainIn : {A : Type 0} → Result A CallFault → Type 0
IsPlainIn (Ok value) = Unit {0}
IsPlainIn (Err why) = IsPlain why

pub plain_not : (why : CallFault) → IsPlain why → why ≢ fault.FlashFault
plain_not why plain is = subst IsPlain is plain

-- The number of its status has four octets.
pub plain_small : (why : CallFault) → IsPlain why → status_number (status_of Writing why) < 256 ^ 4
unfolding status_of
plain_small (fault.ArField field) plain = absurd plain
plain_small (fault.IocrField field) plain = absurd plain
plain_small (fault.ExpectedField field) plain = absurd plain
plain_small (fault.AlarmCrField field) plain = absurd plain
plain_small fault.FlashFault plain = absurd plain
plain_small why plain = lit< tt

pub bind_plain : {A B : Type 0} (r : Result A CallFault) (next : A → Result B CallFault) → IsPlainIn r → ((value : A) → IsPlainIn (next value)) → IsPlainIn (r >>= next)
bind_plain (Ok value) next one others = others value
bind_plain (Err why) next one others = one

fault_plain : {A : Type 0} (why : CallFault) (value : Option A) → IsPlain why → IsPlainIn (or_fault why value)
fault_plain why (Some value) plain = tt
fault_plain why None plain = plain

pub handled_plain : {A : Type 0} (judgements : List (Bool × CallFault)) (otherwise : Result A CallFault)
    → AllByRecursion (λ (one : Bool × CallFault). IsPlain one.1) judgements → IsPlainIn otherwise
    → IsPlainIn (in_order judgements otherwise)
handled_plain [] otherwise plain other = other
handled_plain {A} (judgement ∷ others) otherwise plain other = by_test judgement.0 (handled_plain others otherwise plain.1 other)
  where
    by_test : (b : Bool) → IsPlainIn (in_order others otherwise) → IsPlainIn (cond b (Err judgement.1) (in_order others otherwise))
    by_test true rest = plain.0
    by_test false rest = rest

formed_plain : {A : Type 0} (r : Result A BlockFault) → IsPlainIn (formed r)
formed_plain (Ok value) = tt
formed_plain (Err why) = tt

single_plain : (type : BlockType) (blocks : List ℕ) → IsPlainIn (single_of type blocks)
unfolding single_of
single_plain type blocks = handled_plain
    ((length blocks == 0, fault.BlockMissing)
    ∷ (nat_lt (length blocks) 4, fault.BlockHeader)
    ∷ (not (big_number 2 blocks == number_of type), fault.BlockType)
    ∷ [])
    (formed (block_of blocks)) (tt, (tt, (tt, tt))) (formed_plain (block_of blocks))

-- ---- a Write

related_plain : (standing : Option (List ℕ)) (uuid : List ℕ) → IsPlainIn (in_relation standing uuid)
unfolding in_relation
related_plain standing uuid = handled_plain ((not (is_relation standing uuid), fault.UnknownRelation) ∷ []) (Ok tt) (tt, tt) tt

pub placed_plain : (real : Real) (api slot subslot index : ℕ) → IsPlainIn (placed real api slot subslot index)
unfolding placed
placed_plain real api slot subslot index = handled_plain
    ((not (api == 0), fault.Api)
    ∷ (not (is_anywhere (record_with index) || is_real real slot subslot), fault.Place)
    ∷ [])
    (Ok tt) (tt, (tt, tt)) tt

targeted_plain : (standing : Option (List ℕ)) (real : Real) (request : IodWriteReq) → IsPlainIn (targeted standing real request)
unfolding targeted
targeted_plain standing real request =
    bind_plain (in_relation standing request.header.ar_uuid) (λ _. placed real request.header.api request.header.slot_number request.header.subslot_number request.header.index)
    (related_plain standing request.header.ar_uuid) (λ _. placed_plain real request.header.api request.header.slot_number request.header.subslot_number request.header.index)

written_plain : (real : Real) (request : IodWriteReq) (behind : List ℕ) → IsPlainIn (written real request behind)
unfolding written
written_plain real request behind = handled_plain
    ((not (is_known real request), fault.Index)
    ∷ (is_read_only (record_with request.header.index), fault.Access)
    ∷ (nat_lt (length behind) request.header.record_data_length, fault.WriteLength)
    ∷ [])
    (or_fault fault.WriteLength (effect_of real request (take request.header.record_data_length behind))) (tt, (tt, (tt, tt)))
    (fault_plain fault.WriteLength (effect_of real request (take request.header.record_data_length behind)) tt)

pub request_plain : (standing : Option (List ℕ)) (real : Real) (request : IodWriteReq) (behind : List ℕ) → IsPlainIn (write_handled standing real request behind)
unfolding write_handled
request_plain standing real request behind =
    bind_plain (targeted standing real request) (λ _. written real request behind >>= λ effect. Ok (record { request = request; effect = effect })) (targeted_plain standing real request)
    (λ _. bind_plain (written real request behind) (λ effect. Ok (record { request = request; effect = effect })) (written_plain real request behind) (λ effect. tt))

several_plain : (standing : Option (List ℕ)) (request : IodWriteReq) (behind : List ℕ) → IsPlainIn (several_of standing request behind)
unfolding several_of
several_plain standing request behind =
    bind_plain (in_relation standing request.header.ar_uuid) (λ _. or_fault fault.WriteLength (list_behind request behind)) (related_plain standing request.header.ar_uuid)
    (λ _. fault_plain fault.WriteLength (list_behind request behind) tt)

asked_plain : (standing : Option (List ℕ)) (real : Real) (request : IodWriteReq) (behind : List ℕ) → IsPlainIn (handled_writing standing real request behind)
asked_plain standing real request behind = by_kind (is_several request)
  where
    by_kind : (b : Bool) → IsPlainIn (cond b (several_of standing request behind >>= λ entries. Ok (Each request entries)) (write_handled standing real request behind >>= λ write. Ok (One write)))
    by_kind true = bind_plain (several_of standing request behind) (λ entries. Ok (Each request entries)) (several_plain standing request behind) (λ entries. tt)
    by_kind false = bind_plain (write_handled standing real request behind) (λ write. Ok (One write)) (request_plain standing real request behind) (λ write. tt)

pub writing_plain : (standing : Option (List ℕ)) (real : Real) (blocks : List ℕ) → IsPlainIn (writing_of standing real blocks)
unfolding writing_of
writing_plain standing real blocks =
    bind_plain (single_of kind.IodWriteReq blocks) (λ x. or_fault fault.BlockForm (in_iod_write_req x.0) >>= λ request. handled_writing standing real request x.1)
    (single_plain kind.IodWriteReq blocks)
    (λ x. bind_plain (or_fault fault.BlockForm (in_iod_write_req x.0)) (λ request. handled_writing standing real request x.1) (fault_plain fault.BlockForm (in_iod_write_req x.0) tt)
    (λ request. asked_plain standing real request x.1))

keep_plain : (value : TakenRecord) (records : List TakenRecord) → IsPlainIn (keep_of value records)
unfolding keep_of
keep_plain value records = by_room (nat_lt (length records) 64)
  where
    by_room : (b : Bool) → IsPlainIn (cond b (Ok (records ++ value ∷ [])) (Err fault.TooManyRecords))
    by_room true = tt
    by_room false = tt

pub keeping_plain : (value : TakenRecord) (link : Option RelationState) → IsPlainIn (keeping value link)
keeping_plain value None = tt
keeping_plain value (Some link) = by_option (passes_on link)
  where
    by_room : (kept : Result (List TakenRecord) CallFault) → IsPlainIn kept → IsPlainIn (kept_in link.passed kept)
    by_room (Ok taken) plain = tt
    by_room (Err why) plain = plain

    by_option : (b : Bool) → IsPlainIn (cond b (Ok (record { taken = link.taken; passed = passed_more value link.passed })) (kept_in link.passed (keep_of value link.taken)))
    by_option true = tt
    by_option false = by_room (keep_of value link.taken) (keep_plain value link.taken)

-- ---- the status of a record of a list

kept_small : (header : IodWriteReq) (kept : Result Records CallFault) → IsPlainIn kept → status_number (outcome_of Writing (kept_answer header kept)).0 < 256 ^ 4
kept_small header (Ok records) plain = lit< tt
kept_small header (Err why) plain = plain_small why plain

text_small : (header : IodWriteReq) (answer : BlockError) → status_number (outcome_of Writing (written_as header answer)).0 < 256 ^ 4
unfolding status_of
text_small header error.Done = lit< tt
text_small header error.Exhausted = lit< tt
text_small header error.Local = lit< tt
text_small header error.Option = lit< tt
text_small header error.Suboption = lit< tt
text_small header error.Value = lit< tt
text_small header error.InOperation = lit< tt

effect_small : (header : IodWriteReq) (effect : Effect) (answers : List BlockError) (link : Option RelationState) → status_number (outcome_of Writing (effect_outcome header effect answers link)).0 < 256 ^ 4
effect_small header (Stores value) answers link = text_small header (first_answer answers)
effect_small header (Keeps parameter) answers link = kept_small header (keeping parameter link) (keeping_plain parameter link)

-- A record that is refused has a status of four octets.
abbrev pub IsSmallIn : Result Write Status → Type 0
IsSmallIn (Ok write) = Unit {0}
IsSmallIn (Err status) = status_number status < 256 ^ 4

pub one_small : (header : IodWriteReq) (one : Result Write Status) (answers : List BlockError) (link : Option RelationState) → IsSmallIn one
    → status_number (one_status header one answers link) < 256 ^ 4
one_small header (Ok write) answers link small = effect_small header write.effect answers link
one_small header (Err status) answers link small = small
