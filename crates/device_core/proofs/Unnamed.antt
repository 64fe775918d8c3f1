-- A station that names no records asks its application nothing.
use Rattle.std.proofs.Common.{◌≡◌, ◌==◌, true, eqb-true, ℕ, List, [], ◌∷◌, length, arith, Option, None, option_map, take, Result, Ok, Err, refl, ap}
use Rattle.std.proofs.lemmas.Bool.{cond_both}
use Rattle.pn_values.specs.declared.real.Real.{Real}
use Rattle.wire.specs.Codec.{◌>>=◌}
use Rattle.frame_codec.specs.declared.udp.Caller.{Caller}
use Rattle.rpc_core.specs.Call.{Asked as Call}
use Rattle.record_blocks.specs.declared.read_record.IodReadReq.{IodReadReq}
use Rattle.record_blocks.specs.declared.record_header.RecordHeader.{RecordHeader}
use Rattle.record_blocks.specs.declared.write_record.IodWriteReq.{IodWriteReq}
use Rattle.records.specs.declared.status.call_fault.CallFault.{CallFault}
use Rattle.records.specs.declared.status.operation.Operation.{Operation}
use Rattle.records.specs.declared.status.operation.Operation.TheVariants.{Connect, Release, Read, Write, Control, ReadImplicit}
use Rattle.records.specs.reads.Handled.{has_parameter, request_of}
use Rattle.records.specs.reads.Within.{request_within}
use Rattle.asked_records.specs.Judging.{asked_name, asked_read, asked_write, read_found, write_found}
use Rattle.asked_records.specs.declared.names.RecordName.{RecordName}
use Rattle.asked_records.specs.declared.question.Request.{Request}
use Rattle.asked_records.specs.declared.question.Request.TheVariants as request
use Rattle.device_core.specs.Asking.{asking_of, asking_read, asking_write, question_of, write_within}

none_named : (real : Real) (header : RecordHeader) → asked_name real [] header ≡ None
none_named real header = cond_both (has_parameter real header.slot_number header.subslot_number header.index) _ _
    (λ (name : Option RecordName). name ≡ None) (λ _. refl) (λ _. refl)

read_none : (real : Real) (read : IodReadReq) → asked_read real [] read ≡ Ok None
unfolding asked_read
read_none real read = ap (λ (name : Option RecordName). read_found real read name) (none_named real read.header)

write_none : (real : Real) (write : IodWriteReq) (octets : List ℕ) → asked_write real [] write octets ≡ Ok None
unfolding asked_write
write_none real write octets = ap (λ (name : Option RecordName). write_found real write octets name) (none_named real write.header)

reading_none : (real : Real) (wanted : IodReadReq → Request) (caller : Caller) (call : Call) (came : Result IodReadReq CallFault)
    → asking_read real [] wanted caller call came ≡ Ok None
reading_none real wanted caller call (Ok read) =
    ap (λ (found : Result (Option RecordName) CallFault). found >>= λ name. Ok (option_map (λ name. (question_of caller call (wanted read) name, [])) name)) (read_none real read)
reading_none real wanted caller call (Err it) = refl

writing_none : (real : Real) (caller : Caller) (call : Call) (came : Result (IodWriteReq × List ℕ) CallFault) → asking_write real [] caller call came ≡ Ok None
writing_none real caller call (Ok x) =
    ap (λ (found : Result (Option RecordName) CallFault).
    found >>= λ name. Ok (option_map (λ name. (question_of caller call (request.Write x.0) name, take x.0.header.record_data_length x.1)) name))
    (write_none real x.0 x.1)
writing_none real caller call (Err it) = refl

pub nothing_asked : (real : Real) (standing : Option (List ℕ)) (caller : Caller) (call : Call) (blocks : List ℕ) (operation : Operation)
    → asking_of real [] standing caller call blocks operation ≡ Ok None
nothing_asked real standing caller call blocks Connect = refl
nothing_asked real standing caller call blocks Release = refl
nothing_asked real standing caller call blocks Read = reading_none real request.Read caller call (request_within standing blocks)
nothing_asked real standing caller call blocks Write = writing_none real caller call (write_within standing blocks)
nothing_asked real standing caller call blocks Control = refl
nothing_asked real standing caller call blocks ReadImplicit = reading_none real request.ReadImplicit caller call (request_of blocks)

-- A list without a length has no names.
pub no_names : (names : List RecordName) → (length names == 0) ≡ true → names ≡ []
no_names [] e = refl
no_names (name ∷ names) e = absurd (omega (arith, eqb-true (length (name ∷ names)) 0 e))
