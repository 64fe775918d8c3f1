-- Blocks of DCP that were written, read at fixed places.
use Rattle.std.proofs.Common.{◌≡◌, ◌≤◌, ◌<◌, ◌+◌, ◌*◌, ◌/◌, ◌%◌, ℕ, zero, suc, List, [], ◌∷◌, ◌++◌, length, map, take, drop, replicate, refl, ap, subst, ◌∙◌, arith, append_assoc, length-append}
use Rattle.std.proofs.lemmas.List.{length-replicate}
use Rattle.byteorder.specs.Endian.{big_bytes}
use Rattle.dcp_core.specs.Bytes.{block_bytes}
use Rattle.dcp_core.specs.declared.kind.Kind.{Kind}
use Rattle.dcp_core.specs.Kinds.{option_of, suboption_of}
use Rattle.octets_law.specs.Octets.{blocks_in, number, part}
use Rattle.octets_law.proofs.CallPlaces.{skip}
use Rattle.octets_law.proofs.SetAnswers.{alone}
use Rattle.octets_law.proofs.SetFrames.{number_front, take_front}
use Rattle.octets_law.proofs.SetReads.{drop_past}

-- Blocks one after another.
abbrev pub spelled : List (Kind × List ℕ) → List ℕ
spelled [] = []
spelled (block ∷ blocks) = block_bytes block.0 block.1 ++ spelled blocks

-- Option and Suboption as one number.
abbrev pub code_of : Kind → ℕ
code_of kind = option_of kind * 256 + suboption_of kind

padded : (contents : List ℕ) → length (contents ++ replicate (length contents % 2) 0) ≡ (length contents + 1) / 2 * 2
padded contents = length-append contents (replicate (length contents % 2) 0) ∙ ap (λ n. length contents + n) (length-replicate (length contents % 2) 0) ∙ omega arith

block_size : (kind : Kind) (contents : List ℕ) → length (block_bytes kind contents) ≡ 4 + (length contents + 1) / 2 * 2
block_size kind contents = let p = padded contents in omega arith

block_read : (most : ℕ) (kind : Kind) (contents rest : List ℕ) → length contents < 65536
    → blocks_in (suc most) (block_bytes kind contents ++ rest) ≡ (code_of kind, contents) ∷ blocks_in most rest
block_read most kind contents rest small =
    let padding : List ℕ = replicate (length contents % 2) 0 in
    let octets : List ℕ = block_bytes kind contents ++ rest in
    let size : number 2 2 octets ≡ length contents = number_front 2 (length contents) ((contents ++ padding) ++ rest) small in
    let behind : drop 4 octets ≡ (contents ++ padding) ++ rest = refl in
    let inside : part 4 (length contents) octets ≡ contents = ap (take (length contents)) (append_assoc contents padding rest) ∙ take_front contents (padding ++ rest) in
    let sized : length (contents ++ padding) + 0 ≡ (length contents + 1) / 2 * 2 = let p = padded contents in omega arith in
    let after : drop (4 + (length contents + 1) / 2 * 2) octets ≡ rest =
    skip ((length contents + 1) / 2 * 2) 4 (option_of kind ∷ suboption_of kind ∷ big_bytes 2 (length contents)) ((contents ++ padding) ++ rest) refl
    ∙ subst (λ n. drop n ((contents ++ padding) ++ rest) ≡ rest) sized (drop_past (contents ++ padding) rest 0) in
    ap (λ n. (number 0 2 octets, part 4 n octets) ∷ blocks_in most (drop (4 + (n + 1) / 2 * 2) octets)) size
    ∙ ap (λ l. (number 0 2 octets, l) ∷ blocks_in most (drop (4 + (length contents + 1) / 2 * 2) octets)) inside
    ∙ ap (λ l. (number 0 2 octets, contents) ∷ blocks_in most l) after
    ∙ ap (λ n. (option_of kind * 256 + n, contents) ∷ blocks_in most rest) (alone (suboption_of kind))

-- They are read as they are.
pub spelled_read : (most : ℕ) (blocks : List (Kind × List ℕ)) → length blocks ≤ most → length (spelled blocks) < 65536
    → blocks_in most (spelled blocks) ≡ map (λ (block : Kind × List ℕ). (code_of block.0, block.1)) blocks
spelled_read zero [] few small = refl
spelled_read (suc most) [] few small = refl
spelled_read zero (block ∷ blocks) few small = absurd (omega arith)
spelled_read (suc most) (block ∷ blocks) few small =
    let all = length-append (block_bytes block.0 block.1) (spelled blocks) in
    let one = block_size block.0 block.1 in
    block_read most block.0 block.1 (spelled blocks) (omega arith) ∙ ap (λ l. (code_of block.0, block.1) ∷ l) (spelled_read most blocks (omega arith) (omega arith))
