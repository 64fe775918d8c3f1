-- Which calls strangers ask of the application: none that names the relation.
use Rattle.std.proofs.Common.{◌≡◌, ◌&&◌, ℕ, Bool, true, false, not, List, [], Option, Some, None, Result, Ok, Err, refl, ap, subst}
use Rattle.std.proofs.lemmas.Bool.{cond-false}
use Rattle.std.specs.Option.{option_map}
use Rattle.wire.specs.Codec.{◌>>=◌}
use Rattle.wire.specs.Checks.{or_fault}
use Rattle.pn_values.specs.declared.real.Real.{Real}
use Rattle.frame_codec.specs.declared.udp.Caller.{Caller}
use Rattle.block_codec.specs.declared.block_type.BlockType.TheVariants as kind
use Rattle.block_codec.specs.Block.{in_iod_write_req}
use Rattle.record_blocks.specs.declared.read_record.IodReadReq.{IodReadReq}
use Rattle.record_blocks.specs.declared.write_record.IodWriteReq.{IodWriteReq}
use Rattle.rpc_core.specs.Call.{Asked as Call}
use Rattle.records.specs.declared.status.call_fault.CallFault.{CallFault}
use Rattle.records.specs.declared.status.call_fault.CallFault.TheVariants as fault
use Rattle.records.specs.declared.status.operation.Operation.{Operation}
use Rattle.records.specs.declared.status.operation.Operation.TheVariants as operation
use Rattle.records.specs.calls.Naming.{in_relation, is_relation}
use Rattle.records.specs.calls.Single.{single_of}
use Rattle.records.specs.reads.Handled.{request_of}
use Rattle.records.specs.reads.Within.{request_within}
use Rattle.asked_records.specs.Judging.{asked_read}
use Rattle.asked_records.specs.Asked.{AskedState, Standing, displaced_by, gives_way}
use Rattle.asked_records.specs.Questions.{header_of, is_implicit}
use Rattle.asked_records.specs.declared.question.Question.{Question}
use Rattle.asked_records.specs.declared.names.RecordName.{RecordName}
use Rattle.asked_records.specs.declared.question.Request.{Request}
use Rattle.asked_records.specs.declared.question.Request.TheVariants as request
use Rattle.relations.specs.RelationState.{RelationState, uuid_of}
use Rattle.device_core.specs.Asking.{Asking, asking_of, asking_read, asking_write, question_of, write_within}
use Rattle.octets_law.specs.Octets.{part}
use Rattle.octets_law.proofs.WriteCalls.{bind_ok, fault_ok}
use Rattle.strangers_law.proofs.Blocks.{header_named, request_named}
use Rattle.strangers_law.proofs.Harmless.{Names}
use Rattle.strangers_law.proofs.Unnamed.{refused_in, unnamed}

-- ---- what strangers ask

module _ (real : Real) (named : List RecordName) (standing : Option (List ℕ)) (caller : Caller) (call : Call) (blocks : List ℕ)
    (apart : (uuid : List ℕ) → part 8 16 blocks ≡ uuid → is_relation standing uuid ≡ false) where
  -- A call that is asked does not name the relation: it is a Read Implicit.
  abbrev IsUnnamedIn : Result (Option Asking) CallFault → Type 0
  IsUnnamedIn (Ok (Some asking)) = (is_relation standing (header_of asking.0.request).ar_uuid ≡ false) × (is_implicit asking.0.request ≡ true)
  IsUnnamedIn (Ok None) = Unit {0}
  IsUnnamedIn (Err why) = Unit {0}

  within_none : (wanted : IodReadReq → Request) (read : Result IodReadReq CallFault) → request_within standing blocks ≡ read
      → IsUnnamedIn (asking_read real named wanted caller call read)
  unfolding request_within
  within_none wanted (Err why) is = tt
  within_none wanted (Ok read) is =
      let one = bind_ok (request_of blocks) (λ request. in_relation standing request.header.ar_uuid >>= λ _. Ok request) read is in
      let two = bind_ok (in_relation standing one.0.header.ar_uuid) (λ _. Ok one.0) read one.2 in
      absurd (refused_in standing one.0.header.ar_uuid (apart one.0.header.ar_uuid (request_named blocks one.0 one.1)) two.1)

  write_none : (read : Result (IodWriteReq × List ℕ) CallFault) → write_within standing blocks ≡ read
      → IsUnnamedIn (asking_write real named caller call read)
  unfolding write_within
  write_none (Err why) is = tt
  write_none (Ok x) is =
      let one = bind_ok (single_of kind.IodWriteReq blocks)
      (λ x. or_fault fault.BlockForm (in_iod_write_req x.0) >>= λ write. in_relation standing write.header.ar_uuid >>= λ _. Ok
      (write, x.1)) x is in
      let two =
      bind_ok (or_fault fault.BlockForm (in_iod_write_req one.0.0))
      (λ write. in_relation standing write.header.ar_uuid >>= λ _. Ok (write, one.0.1)) x one.2 in
      let three = bind_ok (in_relation standing two.0.header.ar_uuid) (λ _. Ok (two.0, one.0.1)) x two.2 in
      let named = header_named blocks one.0 two.0 one.1 (fault_ok fault.BlockForm (in_iod_write_req one.0.0) two.0 two.1) in
      absurd (refused_in standing two.0.header.ar_uuid (apart two.0.header.ar_uuid named) three.1)

  implicit_unnamed : (read : Result IodReadReq CallFault) → request_of blocks ≡ read
      → IsUnnamedIn (asking_read real named request.ReadImplicit caller call read)
  implicit_unnamed (Err why) is = tt
  implicit_unnamed (Ok read) is = by_found (asked_read real named read)
    where
      by_found : (found : Result (Option RecordName) CallFault)
          → IsUnnamedIn (found >>= λ found. Ok (option_map (λ name. (question_of caller call (request.ReadImplicit read) name, [])) found))
      by_found (Ok (Some name)) = (apart read.header.ar_uuid (request_named blocks read is), refl)
      by_found (Ok None) = tt
      by_found (Err why) = tt

  asking_unnamed : (asks : Operation) → IsUnnamedIn (asking_of real named standing caller call blocks asks)
  asking_unnamed operation.Connect = tt
  asking_unnamed operation.Release = tt
  asking_unnamed operation.Read = within_none request.Read (request_within standing blocks) refl
  asking_unnamed operation.Write = write_none (write_within standing blocks) refl
  asking_unnamed operation.Control = tt
  asking_unnamed operation.ReadImplicit = implicit_unnamed (request_of blocks) refl

  pub asks_apart : (asks : Operation) (asking : Asking) → asking_of real named standing caller call blocks asks ≡ Ok (Some asking)
      → (is_relation standing (header_of asking.0.request).ar_uuid ≡ false) × (is_implicit asking.0.request ≡ true)
  asks_apart asks asking is = subst IsUnnamedIn is (asking_unnamed asks)

pub asks_unnamed : (real : Real) (named : List RecordName) (link : RelationState) (caller : Caller) (call : Call) (blocks : List ℕ)
    → Names link blocks ≡ false → (asks : Operation) (asking : Asking) → asking_of real named (uuid_of (Some link)) caller call blocks asks ≡ Ok (Some asking)
    → is_relation (uuid_of (Some link)) (header_of asking.0.request).ar_uuid ≡ false
asks_unnamed real named link caller call blocks other asks asking is =
    (asks_apart real named (uuid_of (Some link)) caller call blocks (λ uuid at. unnamed link blocks uuid other at) asks asking is).0

-- ---- a Read Implicit displaces nothing

pub displaces_none : (own_first : Bool) (question : Question) (asked : AskedState) → is_implicit question.request ≡ true
    → displaced_by own_first question asked ≡ None
displaces_none true question asked implicit = by_standing asked.standing
  where
    by_standing : (standing : Option Standing) → gives_way question standing ≡ None
    by_standing None = refl
    by_standing (Some one) = cond-false _ _ _ (ap (λ b. not b && is_implicit one.question.request) implicit)
displaces_none false question asked implicit = refl
