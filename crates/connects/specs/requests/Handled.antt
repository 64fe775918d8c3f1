-- The order in which the blocks of a Connect are checked (IEC 61158-6-10, 5.2.4 and 5.2.6): the ARBlockReq first, then
-- the others in their order, then which are missing, and then the layouts.
use Rattle.std.specs.Prelude.{◌+◌, ◌*◌, ◌==◌, ◌&&◌, ◌||◌, ℕ, Bool, true, false, not, List, [], ◌∷◌, ◌++◌, length, nat_eq, nat_lt, replicate, Option, Some, None, is_some, Result, Ok, Err, if◌then◌else◌}
use Rattle.std.specs.List.{list_any}
use Rattle.std.specs.Cmp.Lexicographic.{pointwise}
use Rattle.pn_values.specs.declared.mac.Mac.{Mac}
use Rattle.wire.specs.Checks.{or_fault}
use Rattle.wire.specs.Codec.{◌>>=◌}
use Rattle.wire.specs.declared.blocks.fault.BlockFault.{BlockFault}
use Rattle.wire.specs.declared.blocks.fault.BlockFault.TheVariants as form
use Rattle.connect_blocks.specs.declared.iocr.IocrType.{IocrType}
use Rattle.connect_blocks.specs.declared.iocr.IocrType.TheVariants.{Input, Output}
use Rattle.connect_blocks.specs.declared.iocr.IocrBlockReq.{IocrBlockReq}
use Rattle.connect_blocks.specs.declared.expected.ExpectedModule.{ExpectedModule}
use Rattle.connect_blocks.specs.declared.expected.ExpectedSubmodule.{ExpectedSubmodule}
use Rattle.wire.specs.blocks.modules.Lists.{Listed}
use Rattle.block_codec.specs.declared.block.Block.{Block}
use Rattle.block_codec.specs.declared.block.Block.TheVariants as is
use Rattle.block_codec.specs.declared.block_type.BlockType.TheVariants as kind
use Rattle.block_codec.specs.Kinds.{number_of}
use Rattle.block_codec.specs.Block.{in_ar_block_req}
use Rattle.module_diff.specs.declared.expected.Expected.{Expected}
use Rattle.records.specs.declared.status.call_fault.CallFault.{CallFault}
use Rattle.records.specs.declared.status.call_fault.CallFault.TheVariants as fault
use Rattle.records.specs.calls.Handled.{handled}
use Rattle.connects.specs.declared.requests.parts.Ar.{Ar}
use Rattle.connects.specs.declared.requests.parts.AlarmCr.{AlarmCr}
use Rattle.connects.specs.requests.Pieces.{Piece, piece_at, pieces_of}
use Rattle.connects.specs.requests.Layouts.{data_of, layout_of, in_order}
use Rattle.connects.specs.requests.Request.{Request, ar_of, alarm_of, iocr_of}

-- ---- the form of a block

-- The number of the field that a block's fault is in. The version and each field are counted. BlockLength is field 1;
-- it is also wrong if there are more or fewer octets or entries than allowed.
abbrev pub field_of : BlockFault → ℕ
field_of (form.Version field) = field
field_of (form.Field field) = field
field_of form.Truncated = 1
field_of form.Kind = 1
field_of form.Length = 1
field_of form.Count = 1

-- The fault of a call if one of its blocks, of this BlockType, has this fault.
abbrev pub faulty : ℕ → BlockFault → CallFault
faulty number form =
    if number == number_of kind.ArBlockReq then fault.ArField (field_of form)
    else if number == number_of kind.IocrBlockReq then fault.IocrField (field_of form)
    else if number == number_of kind.AlarmCrBlockReq then fault.AlarmCrField (field_of form)
    else fault.ExpectedField (field_of form)

-- A block, or the fault of the call.
abbrev pub well_formed : ℕ → Result Block BlockFault → Result Block CallFault
well_formed number (Ok block) = Ok block
well_formed number (Err form) = Err (faulty number form)

-- ---- the first block

-- The existing relation is the one that is asked for, or another one.
abbrev pub conflict : List ℕ → List ℕ → CallFault
conflict standing asked = if pointwise nat_eq asked standing then fault.RelationExists else fault.OtherRelationExists

-- No relation is established while one exists.
abbrev pub admitted : Option (List ℕ) → Ar → Result (Unit {0}) CallFault
admitted None ar = Ok tt
admitted (Some standing) ar = Err (conflict standing ar.uuid)

-- An ARBlockReq.
unfoldable pub ar_in : Piece → Result Ar CallFault
ar_in piece = handled
    ((nat_lt piece.left 4, fault.BlockHeader)
    ∷ (not (piece.number == number_of kind.ArBlockReq), fault.BlockType)
    ∷ [])
    (well_formed piece.number piece.found >>= λ block. or_fault fault.BlockType (in_ar_block_req block) >>= λ ar. Ok (ar_of ar))

-- ARUUID of a Connect: that of its first block, zeros if that cannot be read.
abbrev pub uuid_in : Result Ar CallFault → List ℕ
uuid_in (Ok ar) = ar.uuid
uuid_in (Err fault) = replicate 16 0

-- The ARUUID of a Connect, or of its first block if the rest cannot be read.
unfoldable pub asked_uuid : List ℕ → List ℕ
asked_uuid blocks = uuid_in (ar_in (piece_at blocks))

-- CMInitiatorMacAdd of a Connect, if its first block can be read.
abbrev pub initiator_in : Result Ar CallFault → Option Mac
initiator_in (Ok ar) = Some ar.initiator
initiator_in (Err fault) = None

-- CMInitiatorMacAdd of a Connect, if its AR block can be read.
unfoldable pub asked_initiator : List ℕ → Option Mac
asked_initiator blocks = initiator_in (ar_in (piece_at blocks))

-- ---- the other blocks

-- What the blocks after the ARBlockReq contained so far.
pub record Sofar : Type 0 where
  pub input : Option IocrBlockReq
  pub output : Option IocrBlockReq
  pub input_first : Bool
  pub alarm : Option AlarmCr
  pub has_expected : Bool
  pub expected : Expected

-- The state before the first of them.
abbrev pub nothing : Sofar
nothing = record {
  input = None;
  output = None;
  input_first = false;
  alarm = None;
  has_expected = false;
  expected = record { modules = record { items = [] }; submodules = record { items = [] } };
}

-- The types that may follow.
abbrev pub is_further : ℕ → Bool
is_further number =
    number == number_of kind.IocrBlockReq || number == number_of kind.AlarmCrBlockReq || number == number_of kind.ExpectedSubmoduleBlockReq

-- Whether there was an IOCRBlockReq of this type, and the state with one more.
abbrev pub has_iocr : Sofar → IocrType → Bool
has_iocr sofar Input = is_some sofar.input
has_iocr sofar Output = is_some sofar.output

-- The request so far with one more IOCR, of inputs or outputs.
abbrev pub with_iocr : Sofar → IocrBlockReq → IocrType → Sofar
with_iocr sofar block Input = record sofar { input = Some block; input_first = not (is_some sofar.output) }
with_iocr sofar block Output = record sofar { output = Some block }

-- Whether one of these modules is in a slot for which a module is already expected.
abbrev pub repeats_slot : List ExpectedModule → List ExpectedModule → Bool
repeats_slot before modules = list_any (λ entry. list_any (λ other. other.slot_number == entry.slot_number) before) modules

-- What is expected with one more ExpectedSubmoduleBlockReq: each slot once, and at most 64 modules and 64 submodules in
-- all.
abbrev pub expected_with : Expected → Listed ExpectedModule ExpectedSubmodule → Result Expected CallFault
expected_with before block = handled
    ((repeats_slot before.modules.items block.modules, fault.ExpectedField 6)
    ∷ (nat_lt 64 (length before.modules.items + length block.modules), fault.TooManyModules)
    ∷ (nat_lt 64 (length before.submodules.items + length block.submodules), fault.TooManySubmodules)
    ∷ [])
    (Ok (record {
      modules = record { items = before.modules.items ++ block.modules };
      submodules = record { items = before.submodules.items ++ block.submodules };
    }))

-- The state with one more block that was read without a fault. Each IOCRType may occur once.
abbrev pub with_block : Sofar → Block → Result Sofar CallFault
with_block sofar (is.IocrBlockReq block) =
    handled ((has_iocr sofar block.iocr_type, fault.IocrField 4) ∷ []) (Ok (with_iocr sofar block block.iocr_type))
with_block sofar (is.AlarmCrBlockReq block) = Ok (record sofar { alarm = Some (alarm_of block) })
with_block sofar (is.ExpectedSubmoduleBlockReq block) =
    expected_with sofar.expected block.modules >>= λ expected. Ok (record sofar { has_expected = true; expected = expected })
with_block sofar _ = Err fault.BlockType

-- One more block. Its header is checked first, then its type, then whether it may occur there, its form, and last its
-- content.
unfoldable pub with_piece : Sofar → Piece → Result Sofar CallFault
with_piece sofar piece = handled
    ((nat_lt piece.left 4, fault.BlockHeader)
    ∷ (not (is_further piece.number), fault.BlockType)
    ∷ (piece.number == number_of kind.AlarmCrBlockReq && is_some sofar.alarm, fault.AlarmCrRepeated)
    ∷ [])
    (well_formed piece.number piece.found >>= λ block. with_block sofar block)

-- All blocks.
unfoldable pub with_pieces : Sofar → List Piece → Result Sofar CallFault
with_pieces sofar [] = Ok sofar
with_pieces sofar (piece ∷ pieces) = with_piece sofar piece >>= λ next. with_pieces next pieces

-- ---- after the last block

-- Which blocks are missing, and the layouts, that of the first IOCRBlockReq before that of the second.
unfoldable pub request_with : Ar → Sofar → Result Request CallFault
request_with ar sofar =
    handled ((not sofar.has_expected, fault.BlockMissing) ∷ []) (or_fault fault.IocrMissing sofar.input) >>= λ input.
    or_fault fault.IocrMissing sofar.output >>= λ output.
    or_fault fault.AlarmCrMissing sofar.alarm >>= λ alarm.
    in_order sofar.input_first (layout_of (data_of sofar.expected) input) (layout_of (data_of sofar.expected) output) >>= λ layouts.
    Ok (record {
      ar = ar;
      input_first = sofar.input_first;
      input = iocr_of input layouts.0;
      output = iocr_of output layouts.1;
      alarm = alarm;
      expected = sofar.expected;
    })

-- ---- the whole

-- The blocks after the ARBlockReq.
unfoldable pub request_behind : Ar → List Piece → Result Request CallFault
request_behind ar pieces = with_pieces nothing pieces >>= λ sofar. request_with ar sofar

-- All blocks.
unfoldable pub request_in : Option (List ℕ) → List Piece → Result Request CallFault
request_in standing [] = Err fault.BlockMissing
request_in standing (piece ∷ pieces) =
    ar_in piece >>= λ ar. admitted standing ar >>= λ _. request_behind ar pieces

-- What the blocks of a Connect ask for, or their first fault. The first argument is the ARUUID of the existing
-- relation, if any.
unfoldable pub request_of : Option (List ℕ) → List ℕ → Result Request CallFault
request_of standing blocks = request_in standing (pieces_of blocks)

-- ---- the smallest interval

-- Whether a block asks for cyclic frames at a smaller interval than this, in units of 31.25 microseconds. The interval
-- is SendClockFactor times ReductionRatio.
abbrev pub is_short : ℕ → Block → Bool
is_short smallest (is.IocrBlockReq block) = nat_lt (block.send_clock_factor * block.reduction_ratio) smallest
is_short smallest _ = false

-- Whether a block is an IOCR with an interval shorter than this.
abbrev pub is_short_in : ℕ → Result Block BlockFault → Bool
is_short_in smallest (Ok block) = is_short smallest block
is_short_in smallest (Err form) = false

-- Whether one of the blocks does, if it and all before it are accepted otherwise.
abbrev pub this_or : Result Sofar CallFault → Bool → (Sofar → Bool) → Bool
this_or (Ok next) this others = this || others next
this_or (Err fault) this others = false

-- Whether one of these blocks is, before a fault.
unfoldable pub some_short : ℕ → Sofar → List Piece → Bool
some_short smallest sofar [] = false
some_short smallest sofar (piece ∷ pieces) = this_or (with_piece sofar piece) (is_short_in smallest piece.found) (λ next. some_short smallest next pieces)

-- Whether this holds of the blocks after an ARBlockReq that is accepted. While a relation exists no further block is looked
-- at.
abbrev pub behind_ar : Result Ar CallFault → Bool → Bool
behind_ar (Ok ar) others = others
behind_ar (Err fault) others = false

-- Whether a Connect has an IOCR with an interval shorter than this before its first fault. While a relation exists its blocks
-- are not looked at.
unfoldable pub any_short : ℕ → Option (List ℕ) → List Piece → Bool
any_short smallest (Some standing) pieces = false
any_short smallest None [] = false
any_short smallest None (piece ∷ pieces) = behind_ar (ar_in piece) (some_short smallest nothing pieces)

-- What the blocks of a Connect ask for, or their first fault, if the device has a smallest interval. A smaller one is
-- refused in the turn of its IOCRBlockReq: after each other fault of that block, and before the faults of later blocks.
unfoldable pub request_within : ℕ → Option (List ℕ) → List ℕ → Result Request CallFault
request_within smallest standing blocks =
    if any_short smallest standing (pieces_of blocks) then Err (fault.IocrField 10) else request_of standing blocks
