-- Requests are written as their format says.
use Rattle.std.proofs.Common.{◌≡◌, ◌+◌, ◌%◌, ◌<◌, ◌≤◌, ◌^◌, ℕ, List, [], ◌∷◌, ◌++◌, length, map, drop, get_or, replicate, sum_by, Ok, append_assoc, arith, refl, sym, ap, subst, ◌∙◌}
use Rattle.std.specs.List.{AllByRecursion}
use Rattle.std.proofs.lemmas.List.{append-nil, drop_more, length-append}
use Rattle.std.proofs.lemmas.List.Sums.{sum_by-cons}
use Rattle.wire.specs.Codec.{IsSound}
use Rattle.wire.specs.Filled.{write_all}
use Rattle.wire.specs.Formats.{big_bytes}
use Rattle.wire.specs.Whole.{everything}
use Rattle.dcp_core.specs.declared.request.Block.{Block}
use Rattle.dcp_core.specs.declared.request.Service.{Service}
use Rattle.dcp_core.specs.declared.request.Service.TheVariants.{Get, Set, Identify}
use Rattle.dcp_core.specs.Format.{block, block_of, blocks_of, data_of, delay_under, frame_id_of, header_and_data, id_of, kind, pair, request}
use Rattle.dcp_core.specs.Reading.{IsRequest, request_of}
use Rattle.dcp_core.specs.Request.{Asked, AskedBlock, asked, asked_block}
use Rattle.dcp_core.specs.Writing.{IsNamed, IsRequestable, IsWritable, blocks_size, request_bytes}
use Rattle.dcp_core.proofs.Sound.{block_of_sound, blocks_sound, kind_sound, request_again, request_behind, request_sound}

-- ---- a block

-- a kind, a length, that many bytes, and a zero if the length is odd
pub block_parts : (value : AskedBlock)
    → (block everything).write value [] ≡ kind.write value.kind [] ++ (big_bytes 2 (length value.contents) ++ (value.contents ++ replicate (length value.contents % 2) 0))
unfolding block
block_parts value =
    kind_sound.local value.kind (big_bytes 2 (length value.contents) ++ (value.contents ++ (replicate (length value.contents % 2) 0 ++ [])))
    ∙ ap (λ (xs : List ℕ). kind.write value.kind [] ++ (big_bytes 2 (length value.contents) ++ (value.contents ++ xs))) (append-nil (replicate (length value.contents % 2) 0))

-- four parts, one after the other
pub four : (old a b c new first second third fourth : List ℕ) → a ≡ old ++ first → b ≡ a ++ second → c ≡ b ++ third → new ≡ c ++ fourth
    → new ≡ old ++ (first ++ (second ++ (third ++ fourth)))
four old a b c new first second third fourth x y z w =
    w ∙ ap (λ (xs : List ℕ). xs ++ fourth) (z ∙ ap (λ (xs : List ℕ). xs ++ third) (y ∙ ap (λ (xs : List ℕ). xs ++ second) x))
    ∙ append_assoc ((old ++ first) ++ second) third fourth ∙ append_assoc (old ++ first) second (third ++ fourth)
    ∙ append_assoc old first (second ++ (third ++ fourth))

-- ---- all blocks

pub step : (service : Service) (blocks : List Block) (i : ℕ) (d : Block) (out new whole : List ℕ) → i < length blocks
    → out ++ write_all (block_of service) (map asked_block (drop i blocks)) ≡ whole
    → new ≡ out ++ (block_of service).write (asked_block (get_or blocks i d)) []
    → new ++ write_all (block_of service) (map asked_block (drop (i + 1) blocks)) ≡ whole
step service blocks i d out new whole below so next =
    let value = asked_block (get_or blocks i d) in
    let rest = write_all (block_of service) (map asked_block (drop (i + 1) blocks)) in
    ap (λ (xs : List ℕ). xs ++ rest) next
    ∙ append_assoc out ((block_of service).write value []) rest
    ∙ ap (λ (xs : List ℕ). out ++ xs) (sym ((block_of_sound service).local value rest))
    ∙ ap (λ (xs : List Block). out ++ write_all (block_of service) (map asked_block xs)) (sym (drop_more blocks i d below))
    ∙ so

pub whole : (service : Service) (out : List ℕ) (left : List Block) (all : List AskedBlock) → left ≡ []
    → out ++ write_all (block_of service) (map asked_block left) ≡ write_all (block_of service) all → out ≡ write_all (block_of service) all
whole service out left all none so =
    sym (append-nil out) ∙ ap (λ (blocks : List Block). out ++ write_all (block_of service) (map asked_block blocks)) (sym none) ∙ so

-- how many bytes all blocks take
pub sized : (service : Service) (blocks : List AskedBlock) → length (write_all (block_of service) blocks) ≡ sum_by (block_of service).size blocks
unfolding blocks_of
sized service blocks = (blocks_sound service).sized blocks

pub room : (service : Service) (blocks : List Block) (i : ℕ) (d : Block) (out : List ℕ) (all : List AskedBlock) (most : ℕ) → i < length blocks
    → out ++ write_all (block_of service) (map asked_block (drop i blocks)) ≡ write_all (block_of service) all
    → sum_by (block_of service).size all ≤ most
    → length out + (block_of service).size (asked_block (get_or blocks i d)) ≤ most
room service blocks i d out all most below so few =
    let value = asked_block (get_or blocks i d) in
    let rest = write_all (block_of service) (map asked_block (drop (i + 1) blocks)) in
    omega (
      arith,
      few,
      sized service all,
      ap (λ (xs : List ℕ). length xs) so,
      length-append out (write_all (block_of service) (map asked_block (drop i blocks))),
      ap (λ (xs : List Block). length (write_all (block_of service) (map asked_block xs))) (drop_more blocks i d below),
      (block_of_sound service).sized value rest,
    )

-- ---- requests

-- the header, DCPDataLength, and the blocks
pub parts : (service : Service) (xid : ℕ) (blocks : List AskedBlock)
    → request_bytes (record { service = service; xid = xid; blocks = blocks })
    ≡ big_bytes 1 (id_of service) ++ (big_bytes 1 0 ++ (big_bytes 4 xid ++ (big_bytes 2 (delay_under (frame_id_of service))
    ++ (big_bytes 2 (sum_by (block_of service).size blocks) ++ write_all (block_of service) blocks))))
unfolding request_bytes header_and_data data_of blocks_of
parts Get xid blocks = ap (λ (xs : List ℕ). big_bytes 1 3 ++ (big_bytes 1 0 ++ (big_bytes 4 xid ++ (big_bytes 2 0 ++ (big_bytes 2 (sum_by (block_of Get).size blocks) ++ xs))))) (append-nil (write_all (block_of Get) blocks))
parts Set xid blocks = ap (λ (xs : List ℕ). big_bytes 1 4 ++ (big_bytes 1 0 ++ (big_bytes 4 xid ++ (big_bytes 2 0 ++ (big_bytes 2 (sum_by (block_of Set).size blocks) ++ xs))))) (append-nil (write_all (block_of Set) blocks))
parts Identify xid blocks = ap (λ (xs : List ℕ). big_bytes 1 5 ++ (big_bytes 1 0 ++ (big_bytes 4 xid ++ (big_bytes 2 1 ++ (big_bytes 2 (sum_by (block_of Identify).size blocks) ++ xs))))) (append-nil (write_all (block_of Identify) blocks))

-- a block that can be written fits its format
fits_block : (service : Service) (value : AskedBlock) → IsWritable service value → (block_of service).size value ≤ 1488 → (block_of service).Fits value
unfolding block_of pair block kind
fits_block Get value w few =
    (((w.0.1, w.0.2), w.0.0), ap (λ (xs : List ℕ). let b : AskedBlock = record { kind = value.kind; contents = xs } in b) (sym w.1))
fits_block Set value w few = ((((w.0.1, w.0.2), w.0.0), (omega (arith, few), w.1)), tt)
fits_block Identify value w few = ((((w.1, w.2), w.0), (omega (arith, few), tt)), tt)

all_fit : (service : Service) (blocks : List AskedBlock) → AllByRecursion (IsWritable service) blocks → sum_by (block_of service).size blocks ≤ 1488
    → AllByRecursion (block_of service).Fits blocks
all_fit service [] w few = tt
all_fit service (value ∷ values) w few =
    let whole = sum_by-cons (block_of service).size value values in
    (fits_block service value w.0 (omega (arith, few, whole)), all_fit service values w.1 (omega (arith, few, whole)))

fits_request : (service : Service) (xid : ℕ) (blocks : List AskedBlock) → AllByRecursion (block_of service).Fits blocks → length blocks ≤ 16
    → sum_by (block_of service).size blocks ≤ 1488 → xid < 256 ^ 4
    → (header_and_data (frame_id_of service)).Fits (record { service = service; xid = xid; blocks = blocks })
unfolding header_and_data data_of blocks_of
fits_request Get xid blocks fits short few small = ((omega arith, (omega arith, (small, omega arith))), (omega (arith, few), ((fits, short), refl)))
fits_request Set xid blocks fits short few small = ((omega arith, (omega arith, (small, omega arith))), (omega (arith, few), ((fits, short), refl)))
fits_request Identify xid blocks fits short few small = ((omega arith, (omega arith, (small, omega arith))), (omega (arith, few), ((fits, short), refl)))

-- a written request spells the request
pub spelled : (value : Asked) → IsRequestable value → length value.blocks ≤ 16 → value.xid < 256 ^ 4 → IsRequest (frame_id_of value.service) (request_bytes value) value
unfolding IsRequest request_bytes request
spelled value w short small =
    (request_sound (frame_id_of value.service)).written value
    (fits_request value.service value.xid value.blocks (all_fit value.service value.blocks w.0 w.1) short w.1 small)

-- with anything after it, a written request is read back
pub read_behind : (value : Asked) (more : List ℕ) → IsRequest (frame_id_of value.service) (request_bytes value) value
    → request_of (frame_id_of value.service) (request_bytes value ++ more) ≡ Ok value
read_behind value more s =
    request_again (frame_id_of value.service) (request_bytes value ++ more) value (request_behind (frame_id_of value.service) (request_bytes value) more value s)

-- six parts, one after the other
pub six : (old a b c d e new p1 p2 p3 p4 p5 p6 : List ℕ) → a ≡ old ++ p1 → b ≡ a ++ p2 → c ≡ b ++ p3 → d ≡ c ++ p4 → e ≡ d ++ p5 → new ≡ e ++ p6
    → new ≡ old ++ (p1 ++ (p2 ++ (p3 ++ (p4 ++ (p5 ++ p6)))))
six old a b c d e new p1 p2 p3 p4 p5 p6 x y z w v u =
    four b c d e new p3 p4 p5 p6 z w v u ∙ ap (λ (xs : List ℕ). xs ++ (p3 ++ (p4 ++ (p5 ++ p6)))) (y ∙ ap (λ (xs : List ℕ). xs ++ p2) x)
    ∙ append_assoc (old ++ p1) p2 (p3 ++ (p4 ++ (p5 ++ p6))) ∙ append_assoc old p1 (p2 ++ (p3 ++ (p4 ++ (p5 ++ p6))))
