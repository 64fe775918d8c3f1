-- Octets that are a sequence of blocks are read block by block.
use Rattle.std.proofs.Common.{◌≡◌, ℕ, zero, suc, ◌<◌, ◌≤◌, ◌^◌, ◌==◌, ◌&&◌, Bool, false, not, List, [], ◌∷◌, ◌++◌, length, is_some, Result, Ok, append_assoc, length-append, refl, ap, ◌∙◌, arith}
use Rattle.std.proofs.lemmas.Bool.{eqb-true, false_from_ne_true, le-ltb}
use Rattle.byteorder.specs.Endian.{big_bytes, big_number}
use Rattle.byteorder.specs.Numbers.{big_number-reads_back, length-bytes_high_first}
use Rattle.wire.specs.Codec.{◌>>=◌}
use Rattle.block_codec.specs.declared.block.Block.{Block}
use Rattle.block_codec.specs.declared.block_type.BlockType.TheVariants as kind
use Rattle.block_codec.specs.Kinds.{number_of, type_of}
use Rattle.block_codec.specs.Block.{block, block_bytes, block_of, body_of, kind_of}
use Rattle.records.specs.declared.status.call_fault.CallFault.{CallFault}
use Rattle.records.specs.calls.Handled.{handled}
use Rattle.connects.specs.requests.Pieces.{Piece, behind, block_in, piece_at, pieces_in}
use Rattle.connects.specs.requests.Handled.{Sofar, is_further, well_formed, with_block, with_piece, with_pieces}
use Rattle.plans.specs.Connect.{IsRead, bytes_of}

-- ---- what a block begins with

front_of : (value : Block) → (tail : List ℕ) × (block_bytes value ≡ big_bytes 2 (number_of (kind_of value)) ++ (big_bytes 2 ((body_of (type_of (number_of (kind_of value)))).size value) ++ tail))
unfolding block_bytes block
front_of value = ((body_of (type_of (number_of (kind_of value)))).write value ++ [], refl)

pub number_in_front : (value : Block) (rest : List ℕ) → number_of (kind_of value) < 256 ^ 2 → big_number 2 (block_bytes value ++ rest) ≡ number_of (kind_of value)
number_in_front value rest short =
    let front = front_of value in
    let behind_number : List ℕ = big_bytes 2 ((body_of (type_of (number_of (kind_of value)))).size value) ++ front.0 in
    ap (λ (bytes : List ℕ). big_number 2 (bytes ++ rest)) front.1
    ∙ (ap (λ (bytes : List ℕ). big_number 2 bytes) (append_assoc (big_bytes 2 (number_of (kind_of value))) behind_number rest)
    ∙ big_number-reads_back 2 (number_of (kind_of value)) (behind_number ++ rest) short)

pub four_at_least : (value : Block) (rest : List ℕ) → 4 ≤ length (block_bytes value ++ rest)
four_at_least value rest =
    let front = front_of value in
    let size : ℕ = (body_of (type_of (number_of (kind_of value)))).size value in
    let all = length-append (block_bytes value) rest in
    let one = length-append (big_bytes 2 (number_of (kind_of value))) (big_bytes 2 size ++ front.0) in
    let two = length-append (big_bytes 2 size) front.0 in
    let a = length-bytes_high_first 2 (number_of (kind_of value)) in
    let b = length-bytes_high_first 2 size in
    let e = ap (λ (xs : List ℕ). length xs) front.1 in
    omega (arith, all, one, two, a, b, e)

-- There are at least as many octets as blocks.
pub as_many : (blocks : List Block) → length blocks ≤ length (bytes_of blocks)
as_many [] = omega arith
as_many (value ∷ blocks) =
    let here = four_at_least value [] in
    let none = length-append (block_bytes value) [] in
    let both = length-append (block_bytes value) (bytes_of blocks) in
    let rest = as_many blocks in
    omega (arith, here, none, both, rest)

-- ---- one block

passes : {A : Type 0} (a b c : Bool) (x y z : CallFault) (otherwise : Result A CallFault) → a ≡ false → b ≡ false → c ≡ false
    → handled ((a, x) ∷ (b, y) ∷ (c, z) ∷ []) otherwise ≡ otherwise
passes a b c x y z otherwise e f g = rw (e, f, g) refl

-- A block that is accepted: it is read as it was written, it may occur there, and the state with it becomes this.
pub record IsTaken (sofar : Sofar) (value : Block) (next : Sofar) : Type 0 where
  pub read : IsRead value
  pub short : number_of (kind_of value) < 256 ^ 2
  pub further : not (is_further (number_of (kind_of value))) ≡ false
  pub once : (number_of (kind_of value) == number_of kind.AlarmCrBlockReq && is_some sofar.alarm) ≡ false
  pub taken : with_block sofar value ≡ Ok next

piece_taken : (sofar next : Sofar) (value : Block) (rest : List ℕ) → IsTaken sofar value next → with_piece sofar (piece_at (block_bytes value ++ rest)) ≡ Ok next
unfolding with_piece
piece_taken sofar next value rest h =
    let number = number_in_front value rest h.short in
    passes _ _ _ _ _ _ _
    (le-ltb (length (block_bytes value ++ rest)) 4 (four_at_least value rest))
    (ap (λ (n : ℕ). not (is_further n)) number ∙ h.further)
    (ap (λ (n : ℕ). n == number_of kind.AlarmCrBlockReq && is_some sofar.alarm) number ∙ h.once)
    ∙ found
  where
    found : (well_formed (big_number 2 (block_bytes value ++ rest)) (block_in (block_of (block_bytes value ++ rest))) >>= λ (x : Block). with_block sofar x) ≡ Ok next
    found = let read = h.read rest in let taken = h.taken in rw (read, taken) refl

-- ---- all of them

some_octets : (bytes : List ℕ) → 4 ≤ length bytes → (length bytes == 0) ≡ false
some_octets bytes four = false_from_ne_true (length bytes == 0) (λ t. let e = eqb-true (length bytes) 0 t in absurd (omega (arith, e, four)))

pub one_left : (most : ℕ) (bytes rest : List ℕ) → (length bytes == 0) ≡ false → behind (block_of bytes) ≡ rest
    → pieces_in (suc most) bytes ≡ piece_at bytes ∷ pieces_in most rest
unfolding pieces_in
one_left most bytes rest some e = rw (some, e) refl

none_left : (most : ℕ) → pieces_in most [] ≡ []
unfolding pieces_in
none_left zero = refl
none_left (suc most) = refl

goes_on : (sofar next : Sofar) (piece : Piece) (pieces : List Piece) → with_piece sofar piece ≡ Ok next → with_pieces sofar (piece ∷ pieces) ≡ with_pieces next pieces
unfolding with_pieces
goes_on sofar next piece pieces took = rw took refl

ends : (sofar : Sofar) → with_pieces sofar [] ≡ Ok sofar
unfolding with_pieces
ends sofar = refl

pub block_left : (most : ℕ) (value : Block) (rest : List ℕ) → IsRead value
    → pieces_in (suc most) (block_bytes value ++ rest) ≡ piece_at (block_bytes value ++ rest) ∷ pieces_in most rest
block_left most value rest read =
    one_left most (block_bytes value ++ rest) rest (some_octets (block_bytes value ++ rest) (four_at_least value rest)) (let e = read rest in rw e refl)

-- Each block is accepted in its turn.
abbrev pub AreTaken : Sofar → List Block → Sofar → Type 0
AreTaken sofar [] last = sofar ≡ last
AreTaken sofar (value ∷ blocks) last = (next : Sofar) × IsTaken sofar value next × AreTaken next blocks last

pub taken_all : (blocks : List Block) (most : ℕ) (sofar last : Sofar) → length blocks ≤ most → AreTaken sofar blocks last
    → with_pieces sofar (pieces_in most (bytes_of blocks)) ≡ Ok last
taken_all [] most sofar last few taken =
    ap (λ (pieces : List Piece). with_pieces sofar pieces) (none_left most) ∙ (ends sofar ∙ ap (λ (s : Sofar). Ok s) taken)
taken_all (value ∷ blocks) zero sofar last few taken = absurd (omega (arith, few))
taken_all (value ∷ blocks) (suc most) sofar last few (next, one, others) =
    ap (λ (pieces : List Piece). with_pieces sofar pieces) (block_left most value (bytes_of blocks) one.read)
    ∙ (goes_on sofar next (piece_at (block_bytes value ++ bytes_of blocks)) (pieces_in most (bytes_of blocks)) (piece_taken sofar next value (bytes_of blocks) one)
    ∙ taken_all blocks most next last (omega (arith, few)) others)
