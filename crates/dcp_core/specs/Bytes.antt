-- How blocks and responses are spelled.
use Rattle.std.specs.Prelude.{◌%◌, ℕ, List, [], ◌∷◌, ◌++◌, length, replicate}
use Rattle.std.specs.Int.{w16, w32, to_be_bytes}
use Rattle.pn_values.specs.declared.set_item.BlockError.{BlockError}
use Rattle.pn_values.specs.declared.set_item.BlockError.TheVariants as error
use Rattle.dcp_core.specs.declared.kind.Kind.{Kind}
use Rattle.dcp_core.specs.declared.kind.Kind.TheVariants.{Response}
use Rattle.dcp_core.specs.Kinds.{option_of, suboption_of}

-- a block: Option, Suboption, Length, contents, and a zero byte if Length is odd
abbrev pub block_bytes : Kind → List ℕ → List ℕ
block_bytes kind contents =
    (option_of kind ∷ suboption_of kind ∷ to_be_bytes w16 (length contents)) ++ contents ++ replicate (length contents % 2) 0

-- the number of a BlockError
abbrev pub error_number : BlockError → ℕ
error_number error.Done = 0
error_number error.Option = 1
error_number error.Suboption = 2
error_number error.Value = 3
error_number error.Exhausted = 4
error_number error.Local = 5
error_number error.InOperation = 6

-- the block with the outcome of a block or pair of this kind
abbrev pub response_bytes : Kind → BlockError → List ℕ
response_bytes kind error = block_bytes Response (option_of kind ∷ suboption_of kind ∷ error_number error ∷ [])

-- a response: ServiceID, success, the transaction, two reserved bytes, DCPDataLength, blocks
abbrev pub answer_bytes : ℕ → ℕ → List ℕ → List ℕ
answer_bytes service xid blocks =
    (service ∷ 1 ∷ to_be_bytes w32 xid) ++ (0 ∷ 0 ∷ to_be_bytes w16 (length blocks)) ++ blocks
