-- What a call asks of the application: it is of this call, and a call that may not ask is refused for no fault of the flash.
use Rattle.std.proofs.Common.{◌≡◌, ◌||◌, ℕ, true, not, nat_lt, is_some, List, [], ◌∷◌, length, take, Option, Some, None, Result, Ok, Err, refl, sym, ap, subst, ◌∙◌}
use Rattle.std.proofs.lemmas.Bool.{cond_both}
use Rattle.std.specs.Option.{option_map}
use Rattle.wire.specs.Codec.{◌>>=◌}
use Rattle.wire.specs.Checks.{or_fault}
use Rattle.pn_values.specs.declared.real.Real.{Real}
use Rattle.frame_codec.specs.declared.udp.Caller.{Caller}
use Rattle.block_codec.specs.declared.block_type.BlockType.TheVariants as kind
use Rattle.block_codec.specs.Block.{IsBlock, in_iod_write_req}
use Rattle.block_codec.proofs.Sound.{block_takes}
use Rattle.record_blocks.specs.declared.read_record.IodReadReq.{IodReadReq}
use Rattle.record_blocks.specs.declared.record_header.RecordHeader.{RecordHeader}
use Rattle.record_blocks.specs.declared.write_record.IodWriteReq.{IodWriteReq}
use Rattle.rpc_core.specs.Call.{Asked as Called}
use Rattle.records.specs.calls.Naming.{in_relation}
use Rattle.records.specs.calls.Single.{single_of}
use Rattle.records.specs.declared.status.call_fault.CallFault.{CallFault}
use Rattle.records.specs.declared.status.call_fault.CallFault.TheVariants as fault
use Rattle.records.specs.declared.status.operation.Operation.{Operation}
use Rattle.records.specs.declared.status.operation.Operation.TheVariants as operation
use Rattle.records.specs.reads.Handled.{has_parameter, request_of}
use Rattle.records.specs.reads.Within.{request_within}
use Rattle.records.specs.calls.Handled.{handled}
use Rattle.asked_records.specs.Judging.{asked_name, asked_place, asked_read, asked_write, read_found, write_found}
use Rattle.asked_records.specs.Names.{named_at}
use Rattle.asked_records.specs.declared.names.RecordName.{RecordName}
use Rattle.asked_records.specs.declared.question.Request.{Request}
use Rattle.asked_records.specs.declared.question.Request.TheVariants as request
use Rattle.device_core.specs.Asking.{Asking, asking_of, asking_read, asking_write, question_of, write_within}
use Rattle.octets_law.specs.Octets.{number}
use Rattle.octets_law.specs.Owed.{is_named}
use Rattle.octets_law.proofs.WriteCalls.{bind_ok, fault_ok, request_in, single_ok}
use Rattle.octets_law.proofs.WriteFaults.{IsPlainIn, bind_plain, handled_plain, placed_plain}
use Rattle.octets_law.proofs.WriteReads.{IsHeaderRead, header_read}

-- ---- a call asks for itself

module _ (real : Real) (named : List RecordName) (standing : Option (List ℕ)) (caller : Caller) (call : Called) where
  -- What is asked has the header of the call.
  abbrev pub IsOwn : Result (Option Asking) CallFault → Type 0
  IsOwn (Ok (Some asking)) = asking.0.header ≡ call.header
  IsOwn (Ok None) = Unit {0}
  IsOwn (Err why) = Unit {0}

  read_own : (wanted : IodReadReq → Request) (read : Result IodReadReq CallFault) → IsOwn (asking_read real named wanted caller call read)
  read_own wanted (Err why) = tt
  read_own wanted (Ok read) = by_found (asked_read real named read)
    where
      by_found : (found : Result (Option RecordName) CallFault)
          → IsOwn (found >>= λ found. Ok (option_map (λ name. (question_of caller call (wanted read) name, [])) found))
      by_found (Ok (Some name)) = refl
      by_found (Ok None) = tt
      by_found (Err why) = tt

  write_own : (read : Result (IodWriteReq × List ℕ) CallFault) → IsOwn (asking_write real named caller call read)
  write_own (Err why) = tt
  write_own (Ok x) = by_found (asked_write real named x.0 x.1)
    where
      by_found : (found : Result (Option RecordName) CallFault) → IsOwn (found >>= λ found. Ok (option_map
          (λ name. (question_of caller call (request.Write x.0) name, take x.0.header.record_data_length x.1)) found))
      by_found (Ok (Some name)) = refl
      by_found (Ok None) = tt
      by_found (Err why) = tt

  pub asking_own : (blocks : List ℕ) (asks : Operation) → IsOwn (asking_of real named standing caller call blocks asks)
  asking_own blocks operation.Connect = tt
  asking_own blocks operation.Release = tt
  asking_own blocks operation.Read = read_own request.Read (request_within standing blocks)
  asking_own blocks operation.Write = write_own (write_within standing blocks)
  asking_own blocks operation.Control = tt
  asking_own blocks operation.ReadImplicit = read_own request.ReadImplicit (request_of blocks)

-- ---- a Write that may not ask

found_plain : (real : Real) (write : IodWriteReq) (octets : List ℕ) (name : Option RecordName) → IsPlainIn (write_found real write octets name)
found_plain real write octets None = tt
found_plain real write octets (Some name) =
    bind_plain (asked_place real write.header) (λ _. handled
    ((not name.is_writable, fault.Access)
    ∷ (nat_lt (length octets) write.header.record_data_length || nat_lt name.greatest_length write.header.record_data_length, fault.WriteLength)
    ∷ [])
    (Ok (Some name)))
    (placed_plain real write.header.api write.header.slot_number write.header.subslot_number write.header.index)
    (λ _. handled_plain
    ((not name.is_writable, fault.Access)
    ∷ (nat_lt (length octets) write.header.record_data_length || nat_lt name.greatest_length write.header.record_data_length, fault.WriteLength)
    ∷ [])
    (Ok (Some name)) (tt, (tt, tt)) tt)

pub write_plain : (real : Real) (named : List RecordName) (standing : Option (List ℕ)) (caller : Caller) (call : Called) (blocks : List ℕ)
    → IsPlainIn (asking_of real named standing caller call blocks operation.Write)
unfolding asked_write
write_plain real named standing caller call blocks = by_read (write_within standing blocks)
  where
    by_read : (read : Result (IodWriteReq × List ℕ) CallFault) → IsPlainIn (asking_write real named caller call read)
    by_read (Err why) = tt
    by_read (Ok x) =
        bind_plain (write_found real x.0 x.1 (asked_name real named x.0.header))
        (λ found. Ok (option_map (λ name. (question_of caller call (request.Write x.0) name, take x.0.header.record_data_length x.1)) found))
        (found_plain real x.0 x.1 (asked_name real named x.0.header)) (λ found. tt)

-- ---- a Write that asks is of a record that the station names

within_read : (standing : Option (List ℕ)) (blocks : List ℕ) (x : IodWriteReq × List ℕ) → write_within standing blocks ≡ Ok x → IsHeaderRead blocks x.0 x.1
unfolding write_within
within_read standing blocks x e =
    let one = bind_ok (single_of kind.IodWriteReq blocks)
    (λ x. or_fault fault.BlockForm (in_iod_write_req x.0) >>= λ write. in_relation standing write.header.ar_uuid >>= λ _. Ok (write, x.1)) x e in
    let two =
    bind_ok (or_fault fault.BlockForm (in_iod_write_req one.0.0)) (λ write. in_relation standing write.header.ar_uuid >>= λ _. Ok (write, one.0.1)) x one.2 in
    let three = bind_ok (in_relation standing two.0.header.ar_uuid) (λ _. Ok (two.0, one.0.1)) x two.2 in
    let is_block = block_takes blocks one.0.0 one.0.1 (single_ok blocks one.0 one.1) in
    let same = request_in one.0.0 two.0 (fault_ok fault.BlockForm (in_iod_write_req one.0.0) two.0 two.1) in
    subst (λ (x : IodWriteReq × List ℕ). IsHeaderRead blocks x.0 x.1) (same_pair (two.0, one.0.1) x three.2)
    (header_read blocks two.0 one.0.1 (subst (λ v. IsBlock blocks v one.0.1) (sym same) is_block))
  where
    same_pair : (one other : IodWriteReq × List ℕ) → ◌≡◌ {A = Result (IodWriteReq × List ℕ) CallFault} (Ok one) (Ok other) → one ≡ other
    same_pair one other e = cc

-- The record that is found is one of the names.
name_in : (real : Real) (named : List RecordName) (header : RecordHeader)
    → is_some (asked_name real named header) ≡ true → is_some (named_at header.slot_number header.subslot_number header.index named) ≡ true
name_in real named header =
    cond_both (has_parameter real header.slot_number header.subslot_number header.index) _ _
    (λ (r : Option RecordName). is_some r ≡ true → is_some (named_at header.slot_number header.subslot_number header.index named) ≡ true)
    (λ _ e. absurd cc) (λ _ e. e)

some_found : (real : Real) (write : IodWriteReq) (octets : List ℕ) (found : Option RecordName) (name : RecordName)
    → write_found real write octets found ≡ Ok (Some name) → is_some found ≡ true
some_found real write octets None name e = absurd cc
some_found real write octets (Some it) name e = refl

is_named_by : (named : List RecordName) (blocks : List ℕ) (header : RecordHeader) → number 28 2 blocks ≡ header.slot_number
    → number 30 2 blocks ≡ header.subslot_number
    → number 34 2 blocks ≡ header.index → is_some (named_at header.slot_number header.subslot_number header.index named) ≡ true → is_named named blocks ≡ true
is_named_by named blocks header slot subslot index is =
    ap (λ n. is_some (named_at n (number 30 2 blocks) (number 34 2 blocks) named)) slot
    ∙ ap (λ n. is_some (named_at header.slot_number n (number 34 2 blocks) named)) subslot
    ∙ ap (λ n. is_some (named_at header.slot_number header.subslot_number n named)) index ∙ is

pub asks_named : (real : Real) (named : List RecordName) (standing : Option (List ℕ)) (caller : Caller) (call : Called) (blocks : List ℕ) (asking : Asking)
    → asking_of real named standing caller call blocks operation.Write ≡ Ok (Some asking) → is_named named blocks ≡ true
unfolding asked_write
asks_named real named standing caller call blocks asking = by_read (write_within standing blocks) refl
  where
    by_name : (x : IodWriteReq × List ℕ) → IsHeaderRead blocks x.0 x.1 → (found : Option RecordName)
        → write_found real x.0 x.1 (asked_name real named x.0.header) ≡ Ok found
        → ◌≡◌ {A = Result (Option Asking) CallFault} (Ok
        (option_map (λ name. (question_of caller call (request.Write x.0) name, take x.0.header.record_data_length x.1)) found)) (Ok (Some asking))
        → is_named named blocks ≡ true
    by_name x header None is e = absurd cc
    by_name x header (Some name) is e =
        is_named_by named blocks x.0.header header.slot header.subslot header.index
        (name_in real named x.0.header (some_found real x.0 x.1 (asked_name real named x.0.header) name is))

    by_read : (read : Result (IodWriteReq × List ℕ) CallFault) → write_within standing blocks ≡ read
        → asking_write real named caller call read ≡ Ok (Some asking)
        → is_named named blocks ≡ true
    by_read (Err why) is e = absurd cc
    by_read (Ok x) is e =
        let t = bind_ok (write_found real x.0 x.1 (asked_name real named x.0.header))
        (λ found. Ok (option_map (λ name. (question_of caller call (request.Write x.0) name, take x.0.header.record_data_length x.1)) found)) (Some asking) e in
        by_name x (within_read standing blocks x is) t.0 t.1 t.2

-- ---- a station that names no records asks for nothing

none_named : (real : Real) (header : RecordHeader) → asked_name real [] header ≡ None
none_named real header =
    cond_both (has_parameter real header.slot_number header.subslot_number header.index) _ _ (λ (r : Option RecordName). r ≡ None) (λ _. refl) (λ _. refl)

none_some : (asking : Asking) → ◌≡◌ {A = Result (Option Asking) CallFault} (Ok None) (Ok (Some asking)) → ⊥
none_some asking e = cc

pub no_names : (real : Real) (standing : Option (List ℕ)) (caller : Caller) (call : Called) (blocks : List ℕ) (asks : Operation) (asking : Asking)
    → asking_of real [] standing caller call blocks asks ≡ Ok (Some asking) → ⊥
unfolding asked_read asked_write
no_names real standing caller call blocks asks asking = by_operation asks
  where
    read_none : (wanted : IodReadReq → Request) (read : Result IodReadReq CallFault) → asking_read real [] wanted caller call read ≡ Ok (Some asking) → ⊥
    read_none wanted (Err why) e = none_some asking e
    read_none wanted (Ok read) e =
        none_some asking (ap (λ name. read_found real read name >>= λ found. Ok (option_map (λ name. (question_of caller call (wanted read) name, [])) found))
        (sym (none_named real read.header)) ∙ e)

    write_none : (read : Result (IodWriteReq × List ℕ) CallFault) → asking_write real [] caller call read ≡ Ok (Some asking) → ⊥
    write_none (Err why) e = none_some asking e
    write_none (Ok x) e =
        none_some asking (ap (λ name. write_found real x.0 x.1 name >>= λ found. Ok (option_map
        (λ name. (question_of caller call (request.Write x.0) name, take x.0.header.record_data_length x.1)) found)) (sym (none_named real x.0.header)) ∙ e)

    by_operation : (asks : Operation) → asking_of real [] standing caller call blocks asks ≡ Ok (Some asking) → ⊥
    by_operation operation.Connect e = none_some asking e
    by_operation operation.Release e = none_some asking e
    by_operation operation.Read e = read_none request.Read (request_within standing blocks) e
    by_operation operation.Write e = write_none (write_within standing blocks) e
    by_operation operation.Control e = none_some asking e
    by_operation operation.ReadImplicit e = read_none request.ReadImplicit (request_of blocks) e
