-- The FrameID of the outputs of a relation is one of cyclic frames, whichever number the relation has.
use Rattle.std.proofs.Common.{◌≡◌, ◌<◌, ◌==◌, ◌+◌, ◌||◌, ◌&&◌, nat_lt, not, ℕ, zero, suc, Bool, true, false, List, [], ◌∷◌, length, Option, Some, None, is_some, Result, Ok, Err, refl, ap, subst, if◌then◌else◌, arith}
use Rattle.std.proofs.Math.Nat.{mod-lt}
use Rattle.std.proofs.lemmas.Bool.{cond_both}
use Rattle.std.proofs.lemmas.Bool.Decides.{nat_tests}
use Rattle.std.specs.List.{AllByRecursion}
use Rattle.wire.specs.Codec.{◌>>=◌}
use Rattle.wire.specs.Checks.{or_fault}
use Rattle.wire.specs.declared.blocks.fault.BlockFault.{BlockFault}
use Rattle.connect_blocks.specs.declared.iocr.IocrBlockReq.{IocrBlockReq}
use Rattle.connect_blocks.specs.declared.iocr.IocrType.{IocrType}
use Rattle.connect_blocks.specs.declared.iocr.IocrType.TheVariants.{Input, Output}
use Rattle.connect_blocks.specs.declared.iocr.RtClass.{RtClass}
use Rattle.connect_blocks.specs.declared.iocr.RtClass.TheVariants.{Class1, Class2}
use Rattle.connect_blocks.specs.Iocr.{is_frame_id}
use Rattle.frame_codec.specs.FrameId.{is_cyclic}
use Rattle.block_codec.specs.declared.block.Block.{Block}
use Rattle.block_codec.specs.declared.block.Block.TheVariants as is
use Rattle.block_codec.specs.declared.block_type.BlockType.TheVariants as kind
use Rattle.block_codec.specs.Block.{IsAccepted, block_of}
use Rattle.block_codec.specs.Kinds.{number_of as number_of_kind}
use Rattle.block_codec.proofs.Accepted.{block_accepted}
use Rattle.block_codec.proofs.Sound.{block_takes}
use Rattle.cyclic_data.specs.Layout.{Table}
use Rattle.records.specs.declared.status.call_fault.CallFault.{CallFault}
use Rattle.records.specs.declared.status.call_fault.CallFault.TheVariants as fault
use Rattle.records.specs.calls.Handled.{handled}
use Rattle.connects.specs.declared.requests.parts.AlarmCr.{AlarmCr}
use Rattle.connects.specs.declared.requests.parts.Ar.{Ar}
use Rattle.connects.specs.requests.Handled.{Sofar, any_short, ar_in, expected_with, has_iocr, is_further, nothing, request_behind, request_in, request_of, request_with, request_within, well_formed, with_block, with_iocr, with_piece, with_pieces}
use Rattle.connects.specs.requests.Layouts.{data_of, in_order, layout_of}
use Rattle.connects.specs.requests.Pieces.{Piece, behind, block_in, piece_at, pieces_in, pieces_of}
use Rattle.connects.specs.requests.Request.{Request, chosen_id, given_id, iocr_of, leaves_choice}
use Rattle.pn_values.specs.declared.mac.Mac.{Mac}
use Rattle.relations.specs.declared.options.DeviceOptions.{DeviceOptions}
use Rattle.relations.specs.Connect.{connect_within, is_foreign}
use Rattle.relations.specs.Numbers.{number_of, output_id}
use Rattle.octets_law.proofs.WriteCalls.{bind_ok, fault_ok}

-- ---- a FrameID

chosen_cyclic : (class : RtClass) (number : ℕ) → number < 14336 → is_cyclic (chosen_id class + number) ≡ true
chosen_cyclic Class1 number few = grind (arith, nat_tests)
chosen_cyclic Class2 number few = grind (arith, nat_tests)

assigned : (number : ℕ) (type : IocrType) (class : RtClass) (id : ℕ) → number < 14336 → is_frame_id type id ≡ true
    → is_cyclic (if leaves_choice type id then chosen_id class + number else given_id type class id) ≡ true
assigned number Input class id few is = is
assigned number Output class id few is = by_choice (id == 0xFFFF) is
  where
    by_choice : (b : Bool) → is_cyclic id || b ≡ true → is_cyclic (if b then chosen_id class + number else (if b then chosen_id class else id)) ≡ true
    by_choice true is = chosen_cyclic class number few
    by_choice false is = alone (is_cyclic id) is
      where
        alone : (c : Bool) → c || false ≡ true → c ≡ true
        alone true is = refl
        alone false is = absurd cc

-- ---- the blocks of a Connect

abbrev Assigns : Option IocrBlockReq → Type 0
Assigns None = Unit {0}
Assigns (Some block) = is_frame_id block.iocr_type block.frame_id ≡ true

with_type : (sofar : Sofar) (block : IocrBlockReq) (type : IocrType) → is_frame_id block.iocr_type block.frame_id ≡ true → Assigns sofar.output
    → Assigns (with_iocr sofar block type).output
with_type sofar block Input is before = before
with_type sofar block Output is before = is

same_ok : {A : Type 0} (one other : A) → (let r : Result A CallFault = Ok one in r) ≡ Ok other → one ≡ other
same_ok one other e = cc

handled_ok : {A : Type 0} (judgements : List (Bool × CallFault)) (otherwise : Result A CallFault) (y : A) → handled judgements otherwise ≡ Ok y → otherwise ≡ Ok y
handled_ok [] otherwise y e = e
handled_ok {A} (one ∷ others) otherwise y e =
    cond_both one.0 (Err one.1) (handled others otherwise) (λ (r : Result A CallFault). r ≡ Ok y → otherwise ≡ Ok y) (λ _ e. absurd cc) (λ _ e. handled_ok others otherwise y e) e

block_assigns : (sofar next : Sofar) (block : Block) → IsAccepted block → Assigns sofar.output → with_block sofar block ≡ Ok next → Assigns next.output
block_assigns sofar next (is.IocrBlockReq block) accepted before e =
    subst (λ (s : Sofar). Assigns s.output)
    (same_ok (with_iocr sofar block block.iocr_type) next (handled_ok ((has_iocr sofar block.iocr_type, fault.IocrField 4) ∷ []) (Ok (with_iocr sofar block block.iocr_type)) next e))
    (with_type sofar block block.iocr_type accepted.id before)
block_assigns sofar next (is.AlarmCrBlockReq block) accepted before e = subst (λ (s : Sofar). Assigns s.output) (same_ok _ next e) before
block_assigns sofar next (is.ExpectedSubmoduleBlockReq block) accepted before e =
    let one = bind_ok (expected_with sofar.expected block.modules) _ next e in
    subst (λ (s : Sofar). Assigns s.output) (same_ok _ next one.2) before
block_assigns sofar next _ accepted before e = absurd cc

abbrev IsAcceptedPiece : Piece → Type 0
IsAcceptedPiece piece = (block : Block) → piece.found ≡ Ok block → IsAccepted block

well_ok : (number : ℕ) (found : Result Block BlockFault) (block : Block) → well_formed number found ≡ Ok block → found ≡ Ok block
well_ok number (Ok value) block e = cc
well_ok number (Err form) block e = absurd cc

piece_assigns : (sofar next : Sofar) (piece : Piece) → IsAcceptedPiece piece → Assigns sofar.output → with_piece sofar piece ≡ Ok next → Assigns next.output
unfolding with_piece
piece_assigns sofar next piece accepted before e =
    let one = bind_ok (well_formed piece.number piece.found) (λ block. with_block sofar block) next
    (handled_ok ((nat_lt piece.left 4, fault.BlockHeader) ∷ (not (is_further piece.number), fault.BlockType)
    ∷ (piece.number == number_of_kind kind.AlarmCrBlockReq && is_some sofar.alarm, fault.AlarmCrRepeated) ∷ [])
    (well_formed piece.number piece.found >>= λ block. with_block sofar block) next e) in
    block_assigns sofar next one.0 (accepted one.0 (well_ok piece.number piece.found one.0 one.1)) before one.2

pieces_assign : (sofar next : Sofar) (pieces : List Piece) → AllByRecursion IsAcceptedPiece pieces → Assigns sofar.output → with_pieces sofar pieces ≡ Ok next → Assigns next.output
unfolding with_pieces
pieces_assign sofar next [] accepted before e = subst (λ (s : Sofar). Assigns s.output) (same_ok sofar next e) before
pieces_assign sofar next (piece ∷ pieces) accepted before e =
    let one = bind_ok (with_piece sofar piece) (λ later. with_pieces later pieces) next e in
    pieces_assign one.0 next pieces accepted.1 (piece_assigns sofar one.0 piece accepted.0 before one.1) one.2

-- ---- the pieces of octets

read_ok : (came : Result (Block × List ℕ) BlockFault) (block : Block) → block_in came ≡ Ok block → (rest : List ℕ) × (came ≡ Ok (block, rest))
read_ok (Ok x) block e = (x.1, (let same : x.0 ≡ block = cc in ap (λ (b : Block). let r : Result (Block × List ℕ) BlockFault = Ok (b, x.1) in r) same))
read_ok (Err form) block e = absurd cc

at_accepted : (bytes : List ℕ) → IsAcceptedPiece (piece_at bytes)
at_accepted bytes = λ block e. let read = read_ok (block_of bytes) block e in block_accepted bytes block read.0 (block_takes bytes block read.0 read.1)

in_accepted : (most : ℕ) (bytes : List ℕ) → AllByRecursion IsAcceptedPiece (pieces_in most bytes)
unfolding pieces_in
in_accepted zero bytes = tt
in_accepted (suc most) bytes = by_length (length bytes == 0) (in_accepted most (behind (block_of bytes)))
  where
    by_length : (b : Bool) → AllByRecursion IsAcceptedPiece (pieces_in most (behind (block_of bytes)))
        → AllByRecursion IsAcceptedPiece (if b then [] else piece_at bytes ∷ pieces_in most (behind (block_of bytes)))
    by_length true others = tt
    by_length false others = (at_accepted bytes, others)

-- ---- the request

-- What follows each part of it.
abbrev with_layouts : Ar → Sofar → IocrBlockReq → IocrBlockReq → AlarmCr → Table × Table → Result Request CallFault
with_layouts ar sofar input output alarm layouts = Ok (record {
  ar = ar;
  input_first = sofar.input_first;
  input = iocr_of input layouts.0;
  output = iocr_of output layouts.1;
  alarm = alarm;
  expected = sofar.expected;
})

abbrev with_alarm : Ar → Sofar → IocrBlockReq → IocrBlockReq → AlarmCr → Result Request CallFault
with_alarm ar sofar input output alarm =
    in_order sofar.input_first (layout_of (data_of sofar.expected) input) (layout_of (data_of sofar.expected) output) >>= with_layouts ar sofar input output alarm

abbrev with_output : Ar → Sofar → IocrBlockReq → IocrBlockReq → Result Request CallFault
with_output ar sofar input output = or_fault fault.AlarmCrMissing sofar.alarm >>= with_alarm ar sofar input output

abbrev with_input : Ar → Sofar → IocrBlockReq → Result Request CallFault
with_input ar sofar input = or_fault fault.IocrMissing sofar.output >>= with_output ar sofar input

request_assigns : (number : ℕ) (ar : Ar) (sofar : Sofar) (request : Request) → number < 14336 → Assigns sofar.output → request_with ar sofar ≡ Ok request
    → is_cyclic (output_id number request.output) ≡ true
unfolding request_with
request_assigns number ar sofar request few before e =
    let one = bind_ok (handled ((not sofar.has_expected, fault.BlockMissing) ∷ []) (or_fault fault.IocrMissing sofar.input)) (with_input ar sofar) request e in
    let two = bind_ok (or_fault fault.IocrMissing sofar.output) (with_output ar sofar one.0) request one.2 in
    let three = bind_ok (or_fault fault.AlarmCrMissing sofar.alarm) (with_alarm ar sofar one.0 two.0) request two.2 in
    let four = bind_ok (in_order sofar.input_first (layout_of (data_of sofar.expected) one.0) (layout_of (data_of sofar.expected) two.0))
    (with_layouts ar sofar one.0 two.0 three.0) request three.2 in
    let output : is_frame_id two.0.iocr_type two.0.frame_id ≡ true = subst Assigns (fault_ok fault.IocrMissing sofar.output two.0 two.1) before in
    subst (λ (r : Request). is_cyclic (output_id number r.output) ≡ true) (same_ok _ request four.2)
    (assigned number two.0.iocr_type two.0.iocr_properties two.0.frame_id few output)

pieces_assigned : (number : ℕ) (pieces : List Piece) (request : Request) → number < 14336 → AllByRecursion IsAcceptedPiece pieces → request_in None pieces ≡ Ok request
    → is_cyclic (output_id number request.output) ≡ true
unfolding request_in request_behind
pieces_assigned number [] request few accepted e = absurd cc
pieces_assigned number (piece ∷ pieces) request few accepted e =
    let one = bind_ok (ar_in piece) _ request e in
    let two = bind_ok (with_pieces nothing pieces) (λ sofar. request_with one.0 sofar) request one.2 in
    request_assigns number one.0 two.0 request few (pieces_assign nothing two.0 pieces accepted.1 tt two.1) two.2

-- A Connect is accepted only with such a FrameID, or if it leaves the choice to the device.
pub connect_assigns : (smallest number : ℕ) (blocks : List ℕ) (request : Request) → number < 14336 → request_within smallest None blocks ≡ Ok request
    → is_cyclic (output_id number request.output) ≡ true
unfolding request_within request_of
connect_assigns smallest number blocks request few e =
    cond_both (any_short smallest None (pieces_of blocks)) _ _ (λ (r : Result Request CallFault). r ≡ Ok request → is_cyclic (output_id number request.output) ≡ true)
    (λ _ e. absurd cc) (λ _ e. pieces_assigned number (pieces_of blocks) request few (in_accepted (length blocks) blocks) e) e

-- The same at a device with these options that has no relation.
pub connect_cyclic : (options : DeviceOptions) (source : Mac) (number : ℕ) (blocks : List ℕ) (request : Request) → number < 14336
    → connect_within options source None blocks ≡ Ok request → is_cyclic (output_id number request.output) ≡ true
connect_cyclic options source number blocks request few e =
    cond_both (is_foreign options source None blocks) _ _ (λ (r : Result Request CallFault). r ≡ Ok request → is_cyclic (output_id number request.output) ≡ true)
    (λ _ e. absurd cc) (λ _ e. connect_assigns options.smallest_interval number blocks request few e) e

-- ---- a number

pub number_few : (numbers_from : Option ℕ) (made : ℕ) → number_of numbers_from made < 14336
number_few None made = omega arith
number_few (Some first) made = mod-lt (first + made) (omega arith)
