-- What was read of a Connect so far, in place.
use Rattle.std.specs.Prelude.{ℕ, List, [], ◌∷◌, IfSome, Result, Ok, Err, if◌then◌else◌}
use Rattle.wire.specs.Codec.{◌>>=◌}
use Rattle.connect_blocks.specs.Iocr.{IsIocrBlockReq}
use Rattle.module_diff.specs.declared.expected.Expected.{Expected}
use Rattle.connects.specs.declared.requests.draft.Draft.{Draft}
use Rattle.records.specs.declared.status.call_fault.CallFault.{CallFault}
use Rattle.records.specs.declared.status.call_fault.CallFault.TheVariants as fault
use Rattle.records.specs.calls.Handled.{handled}
use Rattle.connects.specs.declared.requests.parts.Ar.{Ar}
use Rattle.connects.specs.requests.Handled.{Sofar, is_short_in, nothing, request_behind, some_short, with_piece, with_pieces}
use Rattle.connects.specs.requests.Pieces.{Piece}
use Rattle.connects.specs.requests.Request.{Request, IsAlarmCr}

-- What the blocks after the ARBlockReq contained so far.
abbrev pub sofar_of : Draft → Expected → Sofar
sofar_of draft expected = record {
  input = draft.input;
  output = draft.output;
  input_first = draft.input_first;
  alarm = draft.alarm;
  has_expected = draft.has_expected;
  expected = expected;
}

-- What was read so far is in its ranges.
pub record AreAccepted (draft : Draft) : Type 0 where
  pub input : IfSome draft.input (λ block. IsIocrBlockReq block)
  pub output : IfSome draft.output (λ block. IsIocrBlockReq block)
  pub alarm : IfSome draft.alarm (λ alarm. IsAlarmCr alarm)

-- One more block, all blocks, and the whole after the ARBlockReq, if the device has a smallest interval.
abbrev pub piece_within : ℕ → Sofar → Piece → Result Sofar CallFault
piece_within smallest sofar piece =
    with_piece sofar piece >>= λ next. handled ((is_short_in smallest piece.found, fault.IocrField 10) ∷ []) (Ok next)

-- The request after these blocks, or the fault; with a smallest interval also of an IOCR that is shorter.
abbrev pub pieces_within : ℕ → Sofar → List Piece → Result Sofar CallFault
pieces_within smallest sofar pieces = if some_short smallest sofar pieces then Err (fault.IocrField 10) else with_pieces sofar pieces

-- The request of a Connect after its AR block, or the fault; with a smallest interval also of an IOCR that is shorter.
abbrev pub behind_within : ℕ → Ar → List Piece → Result Request CallFault
behind_within smallest ar pieces = if some_short smallest nothing pieces then Err (fault.IocrField 10) else request_behind ar pieces
