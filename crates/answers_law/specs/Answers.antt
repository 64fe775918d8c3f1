-- The answers of a station: by DCP (IEC 61158-6-10, 4.3), and by ARP (RFC 826), octet by octet.
use Rattle.std.specs.Prelude.{◌-◌, ◌%◌, ◌==◌, ◌&&◌, ◌||◌, ℕ, Bool, List, [], ◌∷◌, ◌++◌, length, replicate, flat_map, zip, Option, Some, None, if◌then◌else◌}
use Rattle.std.specs.Int.{w16, to_be_bytes}
use Rattle.std.specs.List.{list_all, list_any}
use Rattle.field_words.specs.Octets.{part_at}
use Rattle.answers_law.specs.Requests.{Block, Station, packet, suite, xid_in}

-- A frame of at least 60 octets: zeros follow a shorter one (IEEE 802.3, 3.2.8).
abbrev pub padded : List ℕ → List ℕ
padded octets = octets ++ replicate (60 - length octets) 0

-- ---- DCP

-- An answer (4.3.1.2): to, from, EtherType 0x8892, FrameID (its first octet is 0xFE), ServiceID, ServiceType 1 (done), Xid, two reserved octets,
-- DCPDataLength, and the blocks.
abbrev pub answer_octets : List ℕ → List ℕ → ℕ → ℕ → List ℕ → List ℕ → List ℕ
answer_octets to from id service xid blocks =
    padded (to ++ (from ++ (0x88 ∷ 0x92 ∷ 0xFE ∷ id ∷ service ∷ 1 ∷ (xid ++ (0 ∷ 0 ∷ to_be_bytes w16 (length blocks)) ++ blocks))))

-- The answer to a request: to the MAC address that it came from, with its Xid.
abbrev pub answer_to : Station → List ℕ → ℕ → ℕ → List ℕ → List ℕ
answer_to has frame id service blocks = answer_octets (part_at 6 6 frame) has.mac id service (xid_in frame) blocks

-- A block (4.3.1.4): Option, Suboption, length, contents, and an octet of padding after contents of an odd length.
abbrev pub block_octets : ℕ → ℕ → List ℕ → List ℕ
block_octets option suboption contents = (option ∷ suboption ∷ to_be_bytes w16 (length contents)) ++ contents ++ replicate (length contents % 2) 0

-- BlockInfo of the IP suite (4.3.1.4.3): 1 if one is set.
abbrev pub suite_contents : List ℕ → List ℕ
suite_contents octets = (if list_all (λ octet. octet == 0) octets then 0 ∷ 0 ∷ [] else 0 ∷ 1 ∷ []) ++ octets

-- The Options and Suboptions that a station knows (2/5).
abbrev pub known : List ℕ
known = 1 ∷ 1 ∷ 1 ∷ 2 ∷ 2 ∷ 1 ∷ 2 ∷ 2 ∷ 2 ∷ 3 ∷ 2 ∷ 4 ∷ 2 ∷ 5 ∷ 2 ∷ 7 ∷ 5 ∷ 3 ∷ 5 ∷ 4 ∷ 5 ∷ 5 ∷ 5 ∷ 6 ∷ []

-- Identify (4.3.2.3): type, name, VendorID and DeviceID, role, known Options, instance, and the IP suite. BlockInfo of all but the last is 0.
abbrev pub identity_blocks : Station → List ℕ
identity_blocks has =
    block_octets 2 1 (0 ∷ 0 ∷ has.kind) ++ block_octets 2 2 (0 ∷ 0 ∷ has.name) ++ block_octets 2 3 (0 ∷ 0 ∷ has.device) ++ block_octets 2 4 (0 ∷ 0 ∷ 1 ∷ 0 ∷ [])
    ++ block_octets 2 5 (0 ∷ 0 ∷ known) ++ block_octets 2 7 (0 ∷ 0 ∷ has.instance) ++ block_octets 1 2 (suite_contents (suite has))

-- The answer to an Identify: FrameID 0xFEFF, ServiceID 5.
abbrev pub identify_answer : Station → List ℕ → List ℕ
identify_answer has frame = answer_to has frame 0xFF 5 (identity_blocks has)

-- The contents that a station has under a pair, after BlockInfo.
abbrev pub property_of : Station → ℕ → Option (List ℕ)
property_of has suboption =
    if suboption == 1 then Some has.kind
    else if suboption == 2 then Some has.name
    else if suboption == 3 then Some has.device
    else if suboption == 4 then Some (1 ∷ 0 ∷ [])
    else if suboption == 5 then Some known
    else if suboption == 6 then has.alias
    else if suboption == 7 then Some has.instance
    else None

-- BlockError (4.3.1.4.3): 2 for an unknown Suboption of a known Option, which is 1, 2 or 5; else 1.
abbrev pub unknown : ℕ → ℕ
unknown option = if option == 1 || option == 2 || option == 5 then 2 else 1

-- The outcome of a pair or of a block of a request (5/4): its Option, its Suboption and a BlockError.
abbrev pub outcome_octets : Block → ℕ → List ℕ
outcome_octets block error = block_octets 5 4 (block.option ∷ block.suboption ∷ error ∷ [])

-- What answers a pair: the value with a BlockInfo of 0, or why it has no value.
abbrev pub value_or_outcome : Option (List ℕ) → Block → List ℕ
value_or_outcome (Some value) pair = block_octets pair.option pair.suboption (0 ∷ 0 ∷ value)
value_or_outcome None pair = outcome_octets pair (unknown pair.option)

-- A pair of a Get is answered (4.3.2.4).
abbrev pub pair_answer : Station → Block → List ℕ
pair_answer has pair =
    if pair.option == 1 && pair.suboption == 1 then block_octets 1 1 (0 ∷ 0 ∷ has.mac)
    else if pair.option == 1 && pair.suboption == 2 then block_octets 1 2 (suite_contents (suite has))
    else if pair.option == 2 then value_or_outcome (property_of has pair.suboption) pair
    else outcome_octets pair (unknown pair.option)

-- Whether two pairs are the same.
abbrev pub is_same_pair : Block → Block → Bool
is_same_pair one other = one.option == other.option && one.suboption == other.suboption

-- Each pair once, at its first place, given the pairs before these.
abbrev pub first_pairs : List Block → List Block → List Block
first_pairs before [] = []
first_pairs before (pair ∷ pairs) =
    if list_any (is_same_pair pair) before then first_pairs (before ++ pair ∷ []) pairs else pair ∷ first_pairs (before ++ pair ∷ []) pairs

-- The answer to a Get: FrameID 0xFEFD, ServiceID 3.
abbrev pub get_answer : Station → List Block → List ℕ → List ℕ
get_answer has pairs frame = answer_to has frame 0xFD 3 (flat_map (pair_answer has) (first_pairs [] pairs))

-- A Set (4.3.2.5): each block is answered with a BlockError, in order.
abbrev pub set_answer : Station → List Block → List ℕ → List ℕ → List ℕ
set_answer has blocks errors frame = answer_to has frame 0xFD 4 (flat_map (λ one. outcome_octets one.0 one.1) (zip blocks errors))

-- ---- ARP

-- The reply: EtherType 0x0806, Ethernet and IPv4 with addresses of 6 and 4 octets, operation 2; the station's addresses, and those of the asker.
abbrev pub resolve_answer : Station → List ℕ → List ℕ
resolve_answer has frame =
    padded (part_at 6 6 frame ++ (has.mac ++ (0x08 ∷ 0x06 ∷ 0 ∷ 1 ∷ 0x08 ∷ 0 ∷ 6 ∷ 4 ∷ 0 ∷ 2 ∷ (has.mac ++ (has.address ++ (part_at 8 6 (packet frame) ++ part_at 14 4 (packet frame)))))))
