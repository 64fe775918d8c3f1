-- What is written is read.
use Rattle.std.proofs.Common.{◌≡◌, ◌≤◌, ◌<◌, ◌^◌, ℕ, List, ◌++◌, length, Option, Ok, ap, arith}
use Rattle.pn_values.specs.declared.identity.Identity.{Identity}
use Rattle.pn_values.specs.declared.set_item.BlockError.{BlockError}
use Rattle.pn_values.specs.declared.settings.Settings.{Settings}
use Rattle.dcp_core.specs.Answer.{answer_of}
use Rattle.wire.specs.Filled.{write_all}
use Rattle.wire.specs.Formats.{big_bytes}
use Rattle.dcp_core.specs.Format.{block_of, frame_id_of}
use Rattle.dcp_core.specs.Get.{get_bytes}
use Rattle.dcp_core.specs.Identify.{identify_bytes}
use Rattle.dcp_core.specs.Reading.{request_of}
use Rattle.dcp_core.specs.Request.{Asked}
use Rattle.dcp_core.specs.Set.{set_bytes}
use Rattle.dcp_core.specs.Reported.{get_said, identify_said, set_said}
use Rattle.dcp_core.specs.Writing.{blocks_size, request_bytes}
use Rattle.dcp_core.proofs.AnswerSound.{answer_again, answer_behind}
use Rattle.dcp_core.proofs.AnswerWritten.{get_spelled, identify_spelled, set_spelled}
use Rattle.dcp_core.proofs.Written.{parts, read_behind, sized, spelled}
use Rattle.dcp_core.specs.Sendable.{CanBeAsked}

pub request_read : (asked : Asked) (more : List ℕ) → CanBeAsked asked → request_of (frame_id_of asked.service) (request_bytes asked ++ more) ≡ Ok asked
request_read asked more is = read_behind asked more (spelled asked is.named is.few (omega (arith, is.xid)))

-- a header of ten octets, and the blocks
pub request_short : (asked : Asked) → CanBeAsked asked → length (request_bytes asked) ≤ 1498
request_short asked is =
    let blocks = write_all (block_of asked.service) asked.blocks in
    let inner = big_bytes 2 (blocks_size asked) ++ blocks in
    let whole = ap (λ (xs : List ℕ). length xs) (parts asked.service asked.xid asked.blocks) in
    omega (arith, whole, sized asked.service asked.blocks, is.named.1)

pub identify_read : (identity : Identity) (settings : Settings) (xid : ℕ) (more : List ℕ) → xid < 4294967296 → length (identify_bytes identity settings xid) ≤ 1498
    → answer_of 0xFEFF (identify_bytes identity settings xid ++ more) ≡ Ok (identify_said identity settings xid)
identify_read identity settings xid more small few =
    answer_again 0xFEFF _ _ (answer_behind 0xFEFF (identify_bytes identity settings xid) more _ (identify_spelled identity settings xid few (omega (arith, small))))

pub get_read : (identity : Identity) (settings : Settings) (alias : Option (List ℕ)) (request : Asked) (more : List ℕ) → request.xid < 4294967296 → length (get_bytes identity settings alias request) ≤ 1498
    → answer_of 0xFEFD (get_bytes identity settings alias request ++ more) ≡ Ok (get_said identity settings alias request)
get_read identity settings alias request more small few =
    answer_again 0xFEFD _ _ (answer_behind 0xFEFD (get_bytes identity settings alias request) more _ (get_spelled identity settings alias request few (omega (arith, small))))

pub set_read : (request : Asked) (outcomes : List BlockError) (more : List ℕ) → request.xid < 4294967296 → length (set_bytes request outcomes) ≤ 1498
    → answer_of 0xFEFD (set_bytes request outcomes ++ more) ≡ Ok (set_said request outcomes)
set_read request outcomes more small few =
    answer_again 0xFEFD _ _ (answer_behind 0xFEFD (set_bytes request outcomes) more _ (set_spelled request outcomes few (omega (arith, small))))
