-- The blocks of PrmEnd and of the answers to ApplicationReady: those of a start-up are not read as those after a plug, and the number of a
-- plug is read as it was written.
use Rattle.std.proofs.Common.{◌≡◌, ◌<◌, ◌==◌, ◌%◌, ◌/◌, ℕ, Bool, true, false, List, [], ◌∷◌, length, drop, Result, Ok, Err, refl, sym, ap, ◌∙◌, arith}
use Rattle.std.specs.Prelude.{if◌then◌else◌, nat_lt}
use Rattle.std.proofs.lemmas.Bool.{eq-eqb, eqb-true}
use Rattle.wire.specs.Formats.{big_number}
use Rattle.wire.specs.blocks.Fields.{blank, number_at, number_bytes, octet_bytes}
use Rattle.wire.specs.declared.blocks.fault.BlockFault.{BlockFault}
use Rattle.wire.specs.declared.blocks.fault.BlockFault.TheVariants.{Field, Length}
use Rattle.wire.proofs.Fields.{bind_ok, ok_is}
use Rattle.block_codec.specs.declared.block.Block.TheVariants as is
use Rattle.block_codec.specs.Block.{block as block_format, block_bytes}
use Rattle.block_codec.specs.Kinds.{number_of}
use Rattle.connect_blocks.specs.declared.control.ControlBlock.{ControlBlock}
use Rattle.connect_blocks.specs.declared.plug_control.PlugControlBlock.{PlugControlBlock}
use Rattle.connect_blocks.specs.PlugControl.{plug_control}

-- ---- types

short_ok : (b : Bool) (number : ℕ) (rest : List ℕ) (t : ℕ × List ℕ) → ◌≡◌ {A = Result (ℕ × List ℕ) BlockFault} (if b then Err Length else Ok (number, rest)) (Ok t)
    → number ≡ t.0
short_ok true number rest t e = absurd cc
short_ok false number rest t e = ap (λ (p : ℕ × List ℕ). p.0) (ok_is (number, rest) t e)

kind_ok : (b : Bool) (t s : ℕ × List ℕ) → ◌≡◌ {A = Result (ℕ × List ℕ) BlockFault} (if b then Ok t else Err (Field 0)) (Ok s) → b ≡ true
kind_ok true t s e = refl
kind_ok false t s e = absurd cc

-- What is read as such a block begins with its type.
pub type_read : (kind : ℕ) (bytes : List ℕ) (x : PlugControlBlock × List ℕ) → (plug_control kind).read bytes ≡ Ok x → big_number 2 bytes ≡ kind
unfolding plug_control number_at
type_read kind bytes x e =
    let whole = bind_ok _ _ x e in
    let first = bind_ok _ _ whole.0 whole.1 in
    let seen = bind_ok _ _ first.0 first.1 in
    let test = bind_ok _ _ seen.0 seen.1 in
    short_ok (nat_lt (length bytes) 2) (big_number 2 bytes) (drop 2 bytes) test.0 test.1 ∙ eqb-true test.0.0 kind (kind_ok (test.0.0 == kind) test.0 seen.0 test.2)

-- PrmEnd of a start-up, and the answer to its ApplicationReady.
pub end_type : (block : ControlBlock) → big_number 2 (block_bytes (is.PrmEnd block)) ≡ 0x0110
unfolding block_bytes block_format number_of
end_type block = refl

pub ready_type : (block : ControlBlock) → big_number 2 (block_bytes (is.ApplicationReadyRes block)) ≡ 0x8112
unfolding block_bytes block_format number_of
ready_type block = refl

-- ---- numbers

-- The fields of a block have their sizes, but for the properties, which may be any.
pub record IsSized (block : PlugControlBlock) : Type 0 where
  pub ar_uuid : length block.ar_uuid ≡ 16
  pub session_key : block.session_key < 65536
  pub number : block.alarm_sequence_number < 65536
  pub command : block.control_command < 65536

abbrev cut : PlugControlBlock → PlugControlBlock
cut block = record block { control_block_properties = block.control_block_properties % 65536 }

-- two octets of a number
same_octets : (n : ℕ) → number_bytes 2 n [] ≡ number_bytes 2 (n % 65536) []
unfolding number_bytes
same_octets n = ap (λ (b : ℕ). b ∷ n % 256 ∷ []) (omega arith) ∙ ap (λ (b : ℕ). n % 65536 / 256 % 256 ∷ b ∷ []) (omega arith)

same_write : (kind : ℕ) (block : PlugControlBlock) → (plug_control kind).write block [] ≡ (plug_control kind).write (cut block) []
unfolding plug_control
same_write kind block =
    ap (λ (last : List ℕ). number_bytes 2 kind (number_bytes 2 28 (number_bytes 1 1 (number_bytes 1 0 ((blank 2).write tt
    (octet_bytes block.ar_uuid (number_bytes 2 block.session_key (number_bytes 2 block.alarm_sequence_number (number_bytes 2 block.control_command last)))))))))
    (same_octets block.control_block_properties)

cut_fits : (kind : ℕ) → kind < 65536 → (block : PlugControlBlock) → IsSized block → (plug_control kind).Fits (cut block)
unfolding plug_control
cut_fits kind small block sized =
    ((eq-eqb kind kind refl, small), ((refl, omega arith), ((refl, omega arith), ((refl, omega arith), (tt, (sized.ar_uuid, (sized.session_key, (sized.number, (sized.command, small_rest)))))))))
  where
    small_rest : block.control_block_properties % 65536 < 65536
    small_rest = omega arith

-- the number of the plug is read as it was written
pub number_read : (kind : ℕ) → kind < 65536
    → ((b : PlugControlBlock) (tail : List ℕ) → (plug_control kind).Fits b → (plug_control kind).read ((plug_control kind).write b tail) ≡ Ok (b, tail))
    → (block : PlugControlBlock) → IsSized block → (x : PlugControlBlock × List ℕ) → (plug_control kind).read ((plug_control kind).write block []) ≡ Ok x
    → x.0.alarm_sequence_number ≡ block.alarm_sequence_number
number_read kind small read_back block sized x e =
    sym (ap (λ (p : PlugControlBlock × List ℕ). p.0.alarm_sequence_number)
    (ok_is (cut block, []) x (sym (read_back (cut block) [] (cut_fits kind small block sized))
    ∙ (ap (λ (bytes : List ℕ). (plug_control kind).read bytes) (sym (same_write kind block)) ∙ e))))
