-- A list of one block or pair.
use Rattle.std.proofs.Common.{◌≡◌, ◌<◌, ℕ, List, [], ◌∷◌, length, Result, Ok, arith}
use Rattle.wire.specs.Filled.{read_all}
use Rattle.wire.proofs.Lists.{list_ends, list_goes_on, list_starts}
use Rattle.dcp_core.specs.declared.request.DcpFault.{DcpFault}
use Rattle.dcp_core.specs.declared.request.DcpFault.TheVariants as fault
use Rattle.dcp_core.specs.declared.request.Service.{Service}
use Rattle.dcp_core.specs.Format.{block_of, blocks_of}
use Rattle.dcp_core.specs.Request.{AskedBlock}

-- Bytes that one block reads to their end are this block alone.
pub one_block : (service : Service) (bytes after : List ℕ) (asked : AskedBlock) → (block_of service).read bytes ≡ Ok (asked, after)
    → 0 < length bytes → length after ≡ 0 → (blocks_of service).read bytes ≡ Ok (asked ∷ [])
unfolding blocks_of
one_block service bytes after asked one some none =
    let total : Result (List AskedBlock) DcpFault = read_all 16 fault.Block (block_of service) bytes in
    list_ends fault.Block (block_of service) (asked ∷ []) 16 after total none
    (list_goes_on fault.Block (block_of service) [] 16 bytes total asked after (omega arith) some one (list_starts total))
