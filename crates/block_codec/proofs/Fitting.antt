-- What fits the format of its kind is read as it was written.
use Rattle.std.proofs.Common.{◌≡◌, ◌<◌, ℕ, List, [], ◌++◌, length, arith}
use Rattle.block_codec.specs.declared.block.Block.{Block}
use Rattle.block_codec.specs.Block.{block, block_bytes, block_of, block_size, body_of, fields_of, front, kind_of}
use Rattle.block_codec.proofs.Sound.{block_again, block_sound, block_written, type_of_number}

pub read : (value : Block) (rest : List ℕ) → (fields_of (kind_of value)).size value < 65536 → (fields_of (kind_of value)).Fits value → block_of (block_bytes value ++ rest) ≡ front value rest
read value rest short fits = block_again (block_bytes value ++ rest) value rest (block_written value rest short fits)

-- The number of octets that the format gives.
format_size : (value : Block) → block.size value ≡ block_size value
unfolding block block_size body_of
format_size value = rw (type_of_number (kind_of value)) (omega arith)

pub long : (value : Block) → length (block_bytes value) ≡ block_size value
unfolding block_bytes
long value = omega (arith, block_sound.sized value [], format_size value)
