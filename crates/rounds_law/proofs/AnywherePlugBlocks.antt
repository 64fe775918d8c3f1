-- The calls of a controller after a plug, as a device reads their blocks, and what a controller finds in their responses.
use Rattle.std.proofs.Common.{◌≡◌, ◌⊎◌, inl, inr, ◌<◌, ◌≤◌, ◌%◌, ◌==◌, ◌++◌, ℕ, suc, Bool, true, false, not, List, [], ◌∷◌, length, take}
use Rattle.std.proofs.Common.{Option, Some, None, Result, Ok, Err, refl, sym, ap, subst, ◌∙◌, arith}
use Rattle.std.specs.Prelude.{if◌then◌else◌, drop, is_some, nat_lt, slice_get}
use Rattle.std.specs.Cmp.Lexicographic.{same_text}
use Rattle.std.proofs.Math.Nat.{mod-lt}
use Rattle.std.proofs.lemmas.Bool.{false≢true}
use Rattle.std.proofs.lemmas.Bool.Decides.{nat_tests}
use Rattle.std.proofs.lemmas.List.{length-append}
use Rattle.wire.specs.Codec.{◌>>=◌}
use Rattle.wire.specs.Checks.{or_fault}
use Rattle.wire.specs.Formats.{big_bytes, big_number, framed, number, raw}
use Rattle.wire.specs.Whole.{everything}
use Rattle.wire.specs.blocks.Fields.{number_bytes, octet_bytes, zeros}
use Rattle.wire.specs.declared.blocks.fault.BlockFault.{BlockFault}
use Rattle.wire.specs.declared.blocks.fault.BlockFault.TheVariants.{Truncated}
use Rattle.wire.proofs.Fields.{bind_ok}
use Rattle.pn_values.specs.declared.real.Real.{Real}
use Rattle.frame_codec.specs.declared.udp.Caller.{Caller}
use Rattle.rpc_core.specs.Call.{Asked as Call}
use Rattle.connect_blocks.specs.declared.control.ControlBlock.{ControlBlock}
use Rattle.connect_blocks.specs.declared.plug_control.PlugControlBlock.{PlugControlBlock}
use Rattle.connect_blocks.specs.PlugControl.{plug_control}
use Rattle.record_blocks.specs.declared.write_record.IodWriteReq.{IodWriteReq}
use Rattle.block_codec.specs.declared.block.Block.{Block}
use Rattle.block_codec.specs.declared.block.Block.TheVariants as is
use Rattle.block_codec.specs.declared.block_type.BlockType.TheVariants as kind
use Rattle.block_codec.specs.Kinds.{number_of}
use Rattle.block_codec.specs.Block.{block, block_bytes, block_of, front}
use Rattle.block_codec.specs.Writable.{CanBeWritten}
use Rattle.connects.specs.answers.OtherBlock.{other_block}
use Rattle.asked_records.specs.declared.names.RecordName.{RecordName}
use Rattle.asked_records.specs.Judging.{asked_name}
use Rattle.asked_records.specs.Names.{named_at}
use Rattle.records.specs.declared.status.call_fault.CallFault.{CallFault}
use Rattle.records.specs.declared.status.call_fault.CallFault.TheVariants as fault
use Rattle.records.specs.calls.Handled.{handled as in_order}
use Rattle.records.specs.calls.Naming.{in_relation}
use Rattle.records.specs.calls.Single.{formed, single_of}
use Rattle.records.specs.status.Status.{done}
use Rattle.records.specs.declared.writes.taken.TakenRecord.{TakenRecord}
use Rattle.records.specs.declared.writes.write.Effect.TheVariants.{Keeps}
use Rattle.records.specs.declared.writes.writing.Writing.{Writing}
use Rattle.records.specs.declared.writes.writing.Writing.TheVariants.{One, Each}
use Rattle.records.specs.writes.Answer.{answer_of, header_of, outcome_of}
use Rattle.records.specs.writes.Asked.{handled_writing, writing_of}
use Rattle.plans.specs.declared.parts.PlanRecord.{PlanRecord}
use Rattle.relations.specs.Calls.{control_block, in_control, in_started, named_of, prm_end_of}
use Rattle.relations.specs.Plugging.{block_in, plug_end_in, plug_named, plug_told}
use Rattle.relations.specs.RelationState.{RelationState, is_named, is_session, is_started, phase_of}
use Rattle.relations.specs.Timers.{is_timed}
use Rattle.relations.specs.declared.phase.Phase.{Phase}
use Rattle.relations.specs.declared.phase.Phase.TheVariants.{Started, Preparing, Awaiting, Exchanging}
use Rattle.device_core.specs.Asking.{asking_write, write_within}
use Rattle.controller_messages.specs.declared.plug_request.PlugRequest.{PlugRequest}
use Rattle.controller_messages.specs.declared.plug_request.PlugStep.TheVariants.{Record}
use Rattle.controller_messages.specs.declared.setup.Setup.{Setup}
use Rattle.controller_messages.specs.PlugRequests.{plug_write_blocks}
use Rattle.end_laws.specs.turns.Turns.{chosen_in}
use Rattle.rounds_law.specs.AnywhereFrames.{IsOfPlug}
use Rattle.rounds_law.proofs.AnywhereDeviceReleased.{IsSkipped, none_chosen, skipped}
use Rattle.rounds_law.proofs.AnywhereDeviceWrites.{named_or, nothing_written, writing_refused}
use Rattle.rounds_law.proofs.WriteJudged.{asked_for, one_is, writing_is}
use Rattle.rounds_law.proofs.WriteListed.{AreBlocksLong, AreBlocksRead, AreFit, IsFit, found_fit}
use Rattle.rounds_law.proofs.WriteUnasked.{block_asks, empty_asks}

-- ---- the response to a Write

written_type : (request : IodWriteReq) → big_number 2 (answer_of request) ≡ 0x8008
unfolding answer_of outcome_of block block_bytes number_of
written_type request = refl

-- A controller finds nothing of a Connect in it.
written_unchosen : (request : IodWriteReq) → block_of (answer_of request) ≡ Ok (is.IodWriteRes (header_of request done), []) → chosen_in (answer_of request) ≡ None
written_unchosen request read =
    none_chosen (answer_of request) 0x8008 (written_type request) refl (skipped (is.IodWriteRes (header_of request done)) (answer_of request) read)

-- ---- the Write of a record of the plan

-- A Write that is refused, or keeps its one record. In its response a controller finds nothing of a Connect.
abbrev pub IsPlain : Result Writing CallFault → Type 0
IsPlain (Err refusal) = Unit {0}
IsPlain (Ok (One write)) = (parameter : TakenRecord) × (write.effect ≡ Keeps parameter) × (chosen_in (answer_of write.request) ≡ None)
IsPlain (Ok (Each header entries)) = ⊥

module _ (read : AreBlocksRead) (alone : (block : Block) → CanBeWritten block → block_of (block_bytes block) ≡ front block []) (long : AreBlocksLong)
    (setup : Setup) (wide : length setup.ar ≡ 16) (real : Real) (request : PlugRequest) where
  -- The header of the Write.
  abbrev header_for : PlanRecord → IodWriteReq
  header_for entry = asked_for setup.ar (request.sequence % 65536) entry.slot entry.subslot entry.index entry.data.items

  module _ (entry : PlanRecord) (fit : IsFit real entry) where
    can_read : CanBeWritten (is.IodWriteReq (header_for entry))
    can_read = record {
      header = record {
        seq_number = mod-lt request.sequence (omega arith);
        ar_uuid = wide;
        api = omega arith;
        slot_number = fit.slot;
        subslot_number = fit.subslot;
        index = let below : entry.index < 0x8000 = fit.below in omega (arith, below);
        record_data_length = let short : length entry.data.items ≤ 64 = fit.short in omega (arith, short);
      };
    }

    can_answer : CanBeWritten (is.IodWriteRes (header_of (header_for entry) done))
    can_answer = record {
      header = can_read.header;
      additional_value_1 = omega arith;
      additional_value_2 = omega arith;
      pnio_status = omega arith;
    }

    answer_read : block_of (answer_of (header_for entry)) ≡ Ok (is.IodWriteRes (header_of (header_for entry) done), [])
    unfolding answer_of outcome_of
    answer_read = alone (is.IodWriteRes (header_of (header_for entry) done)) can_answer

    blocks_are : request.slot ≡ entry.slot → request.subslot ≡ entry.subslot
        → plug_write_blocks setup request (Some entry) ≡ block_bytes (is.IodWriteReq (header_for entry)) ++ entry.data.items
    blocks_are slot subslot =
        ap (λ (n : ℕ). block_bytes (is.IodWriteReq (asked_for setup.ar (request.sequence % 65536) n request.subslot entry.index entry.data.items))
        ++ entry.data.items) slot
        ∙ ap (λ (n : ℕ). block_bytes (is.IodWriteReq (asked_for setup.ar (request.sequence % 65536) entry.slot n entry.index entry.data.items))
        ++ entry.data.items) subslot

    block_read : block_of (block_bytes (is.IodWriteReq (header_for entry)) ++ entry.data.items) ≡ front (is.IodWriteReq (header_for entry)) entry.data.items
    block_read = read (is.IodWriteReq (header_for entry)) entry.data.items can_read

    entry_plain : (standing : Option (List ℕ)) → IsPlain (writing_of standing real (block_bytes (is.IodWriteReq (header_for entry)) ++ entry.data.items))
    entry_plain standing =
        subst IsPlain (sym (writing_is long standing real (header_for entry) entry.data.items block_read)) (by_name (named_or standing setup.ar))
      where
        by_name : (standing ≡ Some setup.ar) ⊎ (in_relation standing setup.ar ≡ Err fault.UnknownRelation)
            → IsPlain (handled_writing standing real (header_for entry) entry.data.items)
        by_name (inl named) =
            subst (λ (s : Option (List ℕ)). IsPlain (handled_writing s real (header_for entry) entry.data.items)) (sym named)
            (subst IsPlain
            (sym (one_is real setup.ar (request.sequence % 65536) entry.slot entry.subslot entry.index entry.data.items fit.below fit.there fit.short))
            (_, refl, written_unchosen (header_for entry) answer_read))
        by_name (inr unnamed) = subst IsPlain (sym (writing_refused standing real (header_for entry) entry.data.items unnamed)) tt

    unnamed : (named : List RecordName) → asked_name real named (header_for entry).header ≡ None
    unnamed named =
        ap (λ (size : Option ℕ). let o : Option RecordName = if is_some size then None else named_at entry.slot entry.subslot entry.index named in o)
        fit.there

  -- The Write of a request of the plan's.
  module _ (of : IsOfPlug setup request) (number : ℕ) (step : request.step ≡ Record number) (fits : AreFit real setup.plan.records.items) where
    found_plain : (found : Option PlanRecord) → slice_get setup.plan.records.items number ≡ found → (standing : Option (List ℕ))
        → IsPlain (writing_of standing real (plug_write_blocks setup request found))
    found_plain None e standing = subst IsPlain (sym (nothing_written standing real)) tt
    found_plain (Some entry) e standing =
        let fit = found_fit real setup.plan.records.items number fits entry e in
        let places = of.placed number entry step e in
        subst (λ (blocks : List ℕ). IsPlain (writing_of standing real blocks)) (sym (blocks_are entry fit places.0 places.1)) (entry_plain entry fit standing)

    -- It is refused, or keeps its record.
    pub plug_plain : (standing : Option (List ℕ))
        → IsPlain (writing_of standing real (plug_write_blocks setup request (slice_get setup.plan.records.items number)))
    plug_plain standing = found_plain (slice_get setup.plan.records.items number) refl standing

    found_unasked : (found : Option PlanRecord) → slice_get setup.plan.records.items number ≡ found → (named : List RecordName) (standing : Option (List ℕ))
        (caller : Caller) (call : Call) → asking_write real named caller call (write_within standing (plug_write_blocks setup request found)) ≡ Ok None
    found_unasked None e named standing caller call = empty_asks real named caller call standing
    found_unasked (Some entry) e named standing caller call =
        let fit = found_fit real setup.plan.records.items number fits entry e in
        let places = of.placed number entry step e in
        ap (λ (blocks : List ℕ). asking_write real named caller call (write_within standing blocks)) (blocks_are entry fit places.0 places.1)
        ∙ block_asks real named caller call long standing (header_for entry) entry.data.items (block_read entry fit) (unnamed entry fit named)

    -- It asks the application nothing.
    pub plug_unasked : (named : List RecordName) (standing : Option (List ℕ)) (caller : Caller) (call : Call)
        → asking_write real named caller call (write_within standing (plug_write_blocks setup request (slice_get setup.plan.records.items number))) ≡ Ok None
    plug_unasked named standing caller call = found_unasked (slice_get setup.plan.records.items number) refl named standing caller call

-- ---- PrmEnd after a plug

end_type : (one : PlugControlBlock) → big_number 2 ((plug_control 0x0111).write one []) ≡ 0x0111
unfolding plug_control number_bytes
end_type one = refl

-- It is no PrmEnd of a start-up.
refused_by : {A : Type 0} (empty short : Bool) (otherwise : Result A CallFault)
    → (refusal : CallFault) × (in_order ((empty, fault.BlockMissing) ∷ (short, fault.BlockHeader) ∷ (true, fault.BlockType) ∷ []) otherwise ≡ Err refusal)
refused_by true short otherwise = (fault.BlockMissing, refl)
refused_by false true otherwise = (fault.BlockHeader, refl)
refused_by false false otherwise = (fault.BlockType, refl)

single_refused : (one : PlugControlBlock) → (refusal : CallFault) × (single_of kind.PrmEnd ((plug_control 0x0111).write one []) ≡ Err refusal)
unfolding single_of number_of
single_refused one =
    let blocks = (plug_control 0x0111).write one [] in
    let refused = refused_by (length blocks == 0) (nat_lt (length blocks) 4) (formed (block_of blocks)) in (
      refused.0,
      ap (λ (n : ℕ). in_order ((length blocks == 0, fault.BlockMissing) ∷ (nat_lt (length blocks) 4, fault.BlockHeader)
          ∷ (not (n == 0x0110), fault.BlockType) ∷ []) (formed (block_of blocks))) (end_type one) ∙ refused.1,
    )

pub plug_end_refused : (link : Option RelationState) (one : PlugControlBlock)
    → (refusal : CallFault) × (prm_end_of link ((plug_control 0x0111).write one []) ≡ Err refusal)
unfolding prm_end_of
plug_end_refused link one =
    let single = single_refused one in (
      single.0,
      ap (λ (r : Result (Block × List ℕ) CallFault). (r >>= λ x. or_fault fault.BlockForm (in_control x.0)) >>= λ block. named_of link block 1
          >>= λ _. in_started link >>= λ _. Ok block) single.1,
    )

-- ---- what is accepted

-- A check that does not fail.
check_passed : (failed : Bool) (why : CallFault) (others : List (Bool × CallFault)) (value : Unit {0})
    → in_order ((failed, why) ∷ others) (let r : Result (Unit {0}) CallFault = Ok tt in r) ≡ Ok value → failed ≡ false
check_passed true why others value e = absurd cc
check_passed false why others value e = refl

not_false : (b : Bool) → not b ≡ false → b ≡ true
not_false true e = refl
not_false false e = absurd cc

-- A PrmEnd after a plug that is accepted names the relation.
pub end_named : (blocks : List ℕ) (link : Option RelationState) (one : PlugControlBlock) → plug_end_in blocks link ≡ Ok one → is_named one.ar_uuid link ≡ true
unfolding plug_end_in
end_named blocks link one e =
    let first = bind_ok (block_in ((plug_control 0x0111).read blocks)) (λ b. plug_named link b >>= λ _. plug_told link b >>= λ _. Ok b) one e in
    let second = bind_ok (plug_named link first.0) (λ _. plug_told link first.0 >>= λ _. Ok first.0) one first.2 in
    let third = bind_ok (plug_told link first.0) (λ _. Ok first.0) one second.2 in
    let others = (not (is_session first.0.session_key link), fault.UnknownSession) ∷ (not (first.0.control_command == 1), fault.ControlCommand) ∷ [] in
    let same : first.0 ≡ one = some_is first.0 one third.2 in
    subst (λ (b : PlugControlBlock). is_named b.ar_uuid link ≡ true) same
    (not_false (is_named first.0.ar_uuid link) (check_passed (not (is_named first.0.ar_uuid link)) fault.UnknownRelation others second.0 second.1))
  where
    some_is : (a b : PlugControlBlock) → (let r : Result PlugControlBlock CallFault = Ok a in r) ≡ Ok b → a ≡ b
    some_is a b f = cc

-- Its ARUUID has the length of that of the relation.
pub end_uuid : (blocks : List ℕ) (link : Option RelationState) (one : PlugControlBlock) → plug_end_in blocks link ≡ Ok one
    → ((its : RelationState) → link ≡ Some its → length its.request.ar.uuid ≡ 16) → length one.ar_uuid ≡ 16
end_uuid blocks link one e wide = by_link link refl (end_named blocks link one e)
  where
    by_link : (l : Option RelationState) → link ≡ l → is_named one.ar_uuid l ≡ true → length one.ar_uuid ≡ 16
    by_link None is named = absurd (false≢true named)
    by_link (Some its) is named = ap length (sym (same_text its.request.ar.uuid one.ar_uuid (sym named))) ∙ wide its is

-- A PrmEnd that is accepted belongs to a relation that waits for it.
pub end_timed : (blocks : List ℕ) (link : Option RelationState) (one : ControlBlock) → prm_end_of link blocks ≡ Ok one
    → (its : RelationState) → link ≡ Some its → is_timed its.phase ≡ true
unfolding prm_end_of
end_timed blocks link one e its has =
    let first = bind_ok (control_block kind.PrmEnd blocks) (λ b. named_of link b 1 >>= λ _. in_started link >>= λ _. Ok b) one e in
    let second = bind_ok (named_of link first.0 1) (λ _. in_started link >>= λ _. Ok first.0) one first.2 in
    let third = bind_ok (in_started link) (λ _. Ok first.0) one second.2 in
    let started = not_false (is_started (phase_of link)) (check_passed (not (is_started (phase_of link))) fault.Phase [] third.0 third.1) in
    by_phase its.phase (subst (λ (l : Option RelationState). is_started (phase_of l) ≡ true) has started)
  where
    by_phase : (phase : Phase) → is_started (Some phase) ≡ true → is_timed phase ≡ true
    by_phase Started e = refl
    by_phase Preparing e = refl
    by_phase Awaiting e = refl
    by_phase Exchanging e = absurd (false≢true e)

-- ---- the response to a PrmEnd after a plug

response_type : (one : PlugControlBlock) → big_number 2 ((plug_control 0x8111).write one []) ≡ 0x8111
unfolding plug_control number_bytes
response_type one = refl

-- What follows BlockType and BlockLength.
abbrev inside : PlugControlBlock → List ℕ
inside one = 1 ∷ 0 ∷ 0 ∷ 0 ∷ (one.ar_uuid ++ (big_bytes 2 one.session_key ++ (big_bytes 2 one.alarm_sequence_number
    ++ (big_bytes 2 one.control_command ++ (big_bytes 2 one.control_block_properties ++ [])))))

response_is : (one : PlugControlBlock) → (plug_control 0x8111).write one [] ≡ 0x81 ∷ 0x11 ∷ 0 ∷ 28 ∷ inside one
unfolding plug_control number_bytes octet_bytes zeros
response_is one = refl

inside_long : (one : PlugControlBlock) → length one.ar_uuid ≡ 16 → length (inside one) ≡ 28
inside_long one wide =
    let rest = big_bytes 2 one.session_key ++ (big_bytes 2 one.alarm_sequence_number
    ++ (big_bytes 2 one.control_command ++ (big_bytes 2 one.control_block_properties ++ []))) in
    omega (arith, wide, length-append one.ar_uuid rest)

drop_whole : (octets : List ℕ) → drop (length octets) octets ≡ []
drop_whole [] = refl
drop_whole (octet ∷ octets) = drop_whole octets

long_enough : (n : ℕ) → nat_lt (suc (suc n)) 2 ≡ false
long_enough n = grind (arith, nat_tests)

not_less : (n : ℕ) → nat_lt n n ≡ false
not_less n = grind (arith, nat_tests)

abbrev Raw : Type 0
Raw = Result (List ℕ × List ℕ) BlockFault

-- All of the octets are read.
all_read : (octets : List ℕ) (size : ℕ) → length octets ≡ size
    → (let r : Raw = if nat_lt (length octets) size then Err Truncated else Ok (take size octets, drop size octets) in r) ≡ Ok (take size octets, [])
all_read octets size same =
    ap (λ (b : Bool). let r : Raw = if b then Err Truncated else Ok (take size octets, drop size octets) in r)
    (ap (λ (n : ℕ). nat_lt n size) same ∙ not_less size)
    ∙ ap (λ (rest : List ℕ). let r : Raw = Ok (take size octets, rest) in r) (ap (λ (n : ℕ). drop n octets) (sym same) ∙ drop_whole octets)

abbrev Framed : Type 0
Framed = Result ((ℕ × List ℕ) × List ℕ) BlockFault

framed_is : (octets : List ℕ) → length octets ≡ 28
    → (framed (number Truncated 2) Truncated everything).read (0 ∷ 28 ∷ octets) ≡ Ok (take 28 octets, [])
framed_is octets same =
    ap (λ (b : Bool). (let r : Result (ℕ × List ℕ) BlockFault = if b then Err Truncated else Ok (28, octets) in r)
    >>= λ x. (raw Truncated x.0).read x.1 >>= λ cut. (everything {F = BlockFault}).read cut.0 >>= λ value. Ok (value, cut.1)) (long_enough (length octets))
    ∙ ap (λ (r : Raw). r >>= λ cut. (everything {F = BlockFault}).read cut.0 >>= λ value. Ok (value, cut.1)) (all_read octets 28 same)

response_skipped : (octets : List ℕ) → length octets ≡ 28 → IsSkipped (other_block.read (0x81 ∷ 0x11 ∷ 0 ∷ 28 ∷ octets))
unfolding other_block
response_skipped octets same = (
  (0x8111, take 28 octets),
  ap (λ (b : Bool). (let r : Result (ℕ × List ℕ) BlockFault = if b then Err Truncated else Ok (0x8111, 0 ∷ 28 ∷ octets) in r)
      >>= λ x. (framed (number Truncated 2) Truncated everything).read x.1 >>= λ y. let f : Framed = Ok ((x.0, y.0), y.1) in f) (long_enough (suc (suc (length octets))))
      ∙ ap (λ (r : Raw). r >>= λ y. let f : Framed = Ok ((0x8111, y.0), y.1) in f) (framed_is octets same),
)

pub end_unchosen : (one : PlugControlBlock) → length one.ar_uuid ≡ 16 → chosen_in ((plug_control 0x8111).write one []) ≡ None
end_unchosen one wide =
    none_chosen ((plug_control 0x8111).write one []) 0x8111 (response_type one) refl
    (subst (λ (octets : List ℕ). IsSkipped (other_block.read octets)) (sym (response_is one)) (response_skipped (inside one) (inside_long one wide)))
