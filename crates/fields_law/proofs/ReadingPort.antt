-- The records of the port and of the interface, read at their places.
use Rattle.std.proofs.Common.{◌≡◌, ◌+◌, ◌-◌, ◌%◌, ◌<◌, ◌≤◌, ◌++◌, ℕ, Bool, true, false, List, [], ◌∷◌, drop, length, take, Option, Some, None, refl, sym, ap, ◌∙◌, subst, if◌then◌else◌, arith}
use Rattle.std.proofs.lemmas.List.{append-nil, length-append, length-take-le}
use Rattle.byteorder.specs.Endian.{big_bytes, big_number}
use Rattle.byteorder.specs.Numbers.{big_number-reads_back}
use Rattle.pn_values.specs.declared.identity.Identity.{Identity}
use Rattle.pn_values.specs.declared.real.Real.{Real}
use Rattle.pn_values.specs.declared.settings.Settings.{Settings}
use Rattle.im_records.specs.Records.{is_real}
use Rattle.lldp.specs.Announcement.{own_chassis}
use Rattle.lldp.specs.Peer.{Peer}
use Rattle.device_records.specs.topology.Blocks.{aligned, block, counted}
use Rattle.device_records.specs.topology.Port.{interface_body, interface_bytes, multiple, network_bytes, port_body, port_bytes, port_end, port_front, where_plugged}
use Rattle.end_laws.specs.log_data.Reading.{number_at, octets_at}
use Rattle.fields_law.specs.Port.{AreMultiple, IsBlock, IsInterface, IsMultiple, IsNeighbour, IsPeer, IsPort, IsPortEnd, IsPortHead, IsSuite, after_names, aligned_place, block_of}
use Rattle.fields_law.proofs.ReadingPlaces.{at_place, front_of, joined, joined_long, number_is, octets_are, spread, total}

-- ---- blocks and padding

block_is : (kind : ℕ) (octets : List ℕ) → kind < 65536 → length octets < 65000 → IsBlock (block kind octets) kind
block_is kind octets fits few =
    let size : big_number 2 (big_bytes 2 (2 + length octets) ++ []) ≡ 2 + length octets = big_number-reads_back 2 (2 + length octets) []
    (omega (arith, few)) in
    record {
      kind = big_number-reads_back 2 kind [] fits;
      size = ap (λ (n : ℕ). n + 4) size ∙ omega arith;
      version = refl;
    }

-- the padding after this many octets of a block without its header
abbrev padding : ℕ → List ℕ
padding size = take (3 - (size + 1) % 4) (0 ∷ 0 ∷ 0 ∷ [])

padding_long : (size : ℕ) → length (padding size) ≡ 3 - (size + 1) % 4
padding_long size = length-take-le (3 - (size + 1) % 4) (0 ∷ 0 ∷ 0 ∷ []) (omega arith)

padding_few : (size : ℕ) → length (padding size) ≤ 3
padding_few size = let long = padding_long size in omega (arith, long)

-- the block's header before some octets
abbrev headed : ℕ → ℕ → List ℕ → List ℕ
headed kind size rest = big_bytes 2 kind ++ (big_bytes 2 (2 + size) ++ (1 ∷ 0 ∷ rest))

-- ---- PDPortDataReal

few_in_all : (whole with_mac names port chassis first second : ℕ) → whole ≡ with_mac + second + 20 → with_mac ≡ names + first + 10
    → names ≡ 20 + port + chassis
    → first ≤ 3 → second ≤ 3 → port < 256 → chassis < 256 → whole ≤ 570
few_in_all whole with_mac names port chassis first second a b c d e f g = omega (arith, a, b, c, d, e, f, g)

port_end_is : IsPortEnd port_end
port_end_is = record {
  mau_type = refl;
  domain_boundary = refl;
  multicast_boundary = refl;
  link_state_port = refl;
  link_state_link = refl;
  media_type = refl;
  end = refl;
}

port_alone : IsPort (port_bytes None) None
unfolding port_bytes
port_alone = (
  record { block = block_is 0x020F (port_body None) (omega arith) (omega arith); slot = refl; subslot = refl; own_length = refl; own = refl; count = refl },
  port_end_is,
)

module _ (peer : Peer) (is : IsNeighbour peer) where
  abbrev names : List ℕ
  names = port_front 1 ++ counted peer.port ++ counted peer.chassis

  abbrev with_mac : List ℕ
  with_mac = aligned names ++ (0 ∷ 0 ∷ 0 ∷ 0 ∷ peer.mac.octets)

  abbrev body : List ℕ
  body = port_body (Some peer)

  abbrev parts : List (List ℕ)
  parts =
      headed 0x020F (length body) [] ∷ port_front 1 ∷ big_bytes 1 (length peer.port) ∷ peer.port ∷ big_bytes 1 (length peer.chassis) ∷ peer.chassis
      ∷ padding (length names) ∷ big_bytes 4 0 ∷ peer.mac.octets ∷ padding (length with_mac) ∷ []

  abbrev first : ℕ → List (List ℕ)
  first count = take count parts

  abbrev whole : List ℕ
  whole = block 0x020F body

  made : whole ≡ joined parts port_end
  made =
      ap (headed 0x020F (length body))
      (spread names (padding (length names) ∷ (0 ∷ 0 ∷ 0 ∷ 0 ∷ peer.mac.octets) ∷ padding (length with_mac) ∷ []) port_end
      ∙ spread (port_front 1) (counted peer.port ∷ counted peer.chassis ∷ [])
      (padding (length names) ++ (0 ∷ 0 ∷ 0 ∷ 0 ∷ (peer.mac.octets ++ (padding (length with_mac) ++ port_end)))))

  names_long : length names ≡ 20 + length peer.port + length peer.chassis
  names_long =
      let a = length-append (port_front 1 ++ counted peer.port) (counted peer.chassis) in
      let b = length-append (port_front 1) (counted peer.port) in
      omega (arith, a, b)

  mac_long : length with_mac ≡ length names + length (padding (length names)) + 10
  mac_long =
      let a = length-append (aligned names) (0 ∷ 0 ∷ 0 ∷ 0 ∷ peer.mac.octets) in
      let b = length-append names (padding (length names)) in
      let c = is.mac in
      omega (arith, a, b, c)

  before_delay : total (first 7) ≡ after_names peer
  before_delay =
      let a = names_long in
      let b = padding_long (length names) in
      omega (arith, a, b)

  before_end : total parts ≡ aligned_place (after_names peer + 10)
  before_end =
      let a = names_long in
      let b = padding_long (length names) in
      let c = mac_long in
      let d = padding_long (length with_mac) in
      let e = is.mac in
      let f = before_delay in
      omega (arith, a, b, c, d, e, f)

  body_long : length body ≡ length with_mac + length (padding (length with_mac)) + 20
  body_long =
      let a = length-append (aligned with_mac) port_end in
      let b = length-append with_mac (padding (length with_mac)) in
      omega (arith, a, b)

  body_few : length body ≤ 570
  body_few =
      few_in_all (length body) (length with_mac) (length names) (length peer.port) (length peer.chassis) (length (padding (length names)))
      (length (padding (length with_mac)))
      body_long mac_long names_long (padding_few (length names)) (padding_few (length with_mac)) is.port is.chassis

  pub port_long : length (port_bytes (Some peer)) ≤ 600
  unfolding port_bytes
  port_long = let few = body_few in omega (arith, few)

  peer_is : IsPeer whole peer
  peer_is =
      let delay = before_delay in
      let m = is.mac in
      record {
        port_length = number_is _ (first 2) 24 1 (length peer.port) made refl is.port;
        port = octets_are _ (first 3) 25 (length peer.port) peer.port made refl refl;
        chassis_length = number_is _ (first 4) (25 + length peer.port) 1 (length peer.chassis) made (omega arith) is.chassis;
        chassis = octets_are _ (first 5) (26 + length peer.port) (length peer.chassis) peer.chassis made (omega arith) refl;
        line_delay = number_is _ (first 7) (after_names peer) 4 0 made delay (omega arith);
        mac = octets_are _ (first 8) (after_names peer + 4) 6 peer.mac.octets made (omega (arith, delay)) m;
        after = subst IsPortEnd (sym (at_place whole port_end parts (aligned_place (after_names peer + 10)) made before_end)) port_end_is;
      }

  head_is : IsPortHead whole 1
  head_is = record {
    block = block_is 0x020F body (omega arith) (let few = body_few in omega (arith, few));
    slot = ap (λ (xs : List ℕ). number_at 8 2 xs) made;
    subslot = ap (λ (xs : List ℕ). number_at 10 2 xs) made;
    own_length = ap (λ (xs : List ℕ). number_at 12 1 xs) made;
    own = ap (λ (xs : List ℕ). octets_at 13 8 xs) made;
    count = ap (λ (xs : List ℕ). number_at 21 1 xs) made;
  }

  pub port_with : IsPort (port_bytes (Some peer)) (Some peer)
  unfolding port_bytes
  port_with = (head_is, peer_is)

pub port_is : (peer : Option Peer) → ((known : Peer) → peer ≡ Some known → IsNeighbour known) → IsPort (port_bytes peer) peer
port_is None is = port_alone
port_is (Some peer) is = port_with peer (is peer refl)

-- ---- PDInterfaceDataReal

module _ (identity : Identity) (settings : Settings) where
  abbrev chassis : List ℕ
  chassis = own_chassis identity.mac settings.name

  module _ (few : length (own_chassis identity.mac settings.name) < 256) (mac_long : length identity.mac.octets ≡ 6) (is : IsSuite settings.suite) where
    abbrev own_body : List ℕ
    own_body = interface_body identity settings

    abbrev own_parts : List (List ℕ)
    own_parts =
        headed 0x0240 (length own_body) [] ∷ big_bytes 1 (length chassis) ∷ chassis ∷ padding (length (counted chassis)) ∷ identity.mac.octets ∷ (0 ∷ 0 ∷ [])
        ∷ settings.suite.address ∷ settings.suite.mask ∷ settings.suite.gateway ∷ []

    abbrev own_first : ℕ → List (List ℕ)
    own_first count = take count own_parts

    abbrev own_whole : List ℕ
    own_whole = block 0x0240 own_body

    own_made : own_whole ≡ joined own_parts []
    own_made =
        ap (headed 0x0240 (length own_body))
        (spread (counted chassis) (padding (length (counted chassis)) ∷ identity.mac.octets ∷ (0 ∷ 0 ∷ []) ∷ [])
        (settings.suite.address ++ settings.suite.mask ++ settings.suite.gateway)
        ∙ ap (λ (xs : List ℕ). counted chassis ++ (padding (length (counted chassis)) ++ (identity.mac.octets ++ (0 ∷ 0 ∷ xs))))
        (spread settings.suite.address (settings.suite.mask ∷ []) settings.suite.gateway
        ∙ ap (λ (xs : List ℕ). settings.suite.address ++ (settings.suite.mask ++ xs)) (sym (append-nil settings.suite.gateway))))

    before_mac : total (own_first 4) ≡ aligned_place (7 + length chassis)
    before_mac = let a = padding_long (length (counted chassis)) in omega (arith, a)

    own_long : length own_whole ≡ aligned_place (7 + length chassis) + 20
    own_long =
        let a = ap length own_made in
        let b = joined_long own_parts [] in
        let c = before_mac in
        let d = is.address in
        let e = is.mask in
        let f = is.gateway in
        omega (arith, a, b, c, d, e, f, mac_long)

    own_few : length own_body < 65000
    own_few = let a = own_long in omega (arith, a, few)

    pub interface_long : length (interface_bytes identity settings) ≤ 600
    unfolding interface_bytes
    interface_long = let a = own_long in omega (arith, a, few)

    pub interface_is : IsInterface (interface_bytes identity settings) (own_chassis identity.mac settings.name) identity.mac settings.suite
    unfolding interface_bytes
    interface_is =
        let m = before_mac in
        let a = is.address in
        let b = is.mask in
        record {
          block = block_is 0x0240 own_body (omega arith) own_few;
          chassis_length = number_is _ (own_first 1) 6 1 (length chassis) own_made refl few;
          chassis_is = octets_are _ (own_first 2) 7 (length chassis) chassis own_made refl refl;
          mac_is = octets_are _ (own_first 4) (aligned_place (7 + length chassis)) 6 identity.mac.octets own_made m mac_long;
          address = octets_are _ (own_first 6) (aligned_place (7 + length chassis) + 8) 4 settings.suite.address own_made (omega (arith, m, mac_long)) a;
          mask = octets_are _ (own_first 7) (aligned_place (7 + length chassis) + 12) 4 settings.suite.mask own_made (omega (arith, m, mac_long, a)) b;
          gateway = octets_are _ (own_first 8) (aligned_place (7 + length chassis) + 16) 4 settings.suite.gateway own_made
              (omega (arith, m, mac_long, a, b)) is.gateway;
        }

-- ---- PDRealData

module _ (subslot : ℕ) (inside rest : List ℕ) (subslot_fits : subslot < 65536) (few : length inside ≤ 600) where
  abbrev contents : List ℕ
  contents = 0 ∷ 0 ∷ 0 ∷ 0 ∷ 0 ∷ 0 ∷ 0 ∷ 0 ∷ (big_bytes 2 subslot ++ inside)

  multiple_size : number_at 2 2 (multiple subslot inside ++ rest) ≡ 12 + length inside
  multiple_size =
      let same : 2 + length contents ≡ 12 + length inside = omega arith in
      big_number-reads_back 2 (2 + length contents) [] (omega (arith, few)) ∙ same

  multiple_is : IsMultiple (multiple subslot inside ++ rest) subslot inside
  multiple_is = record {
    kind = refl;
    size = multiple_size;
    version = refl;
    api = refl;
    slot = refl;
    subslot = big_number-reads_back 2 subslot [] subslot_fits;
    inside_is = front_of inside rest;
  }

  multiple_after : drop (4 + number_at 2 2 (multiple subslot inside ++ rest)) (multiple subslot inside ++ rest) ≡ rest
  multiple_after =
      let size = multiple_size in
      at_place (multiple subslot inside ++ rest) rest (multiple subslot inside ∷ []) (4 + number_at 2 2 (multiple subslot inside ++ rest)) refl
      (omega (arith, size))

plugged_are : (real : Real) (subslot : ℕ) (inside rest : List ℕ) (blocks : List (ℕ × List ℕ)) → subslot < 65536 → length inside ≤ 600
    → AreMultiple rest blocks
    → AreMultiple (where_plugged real subslot inside ++ rest) (block_of real subslot inside ++ blocks)
plugged_are real subslot inside rest blocks fits few are = by_test (is_real real 0 subslot)
  where
    by_test : (b : Bool) → AreMultiple ((if b then multiple subslot inside else []) ++ rest) ((if b then (subslot, inside) ∷ [] else []) ++ blocks)
    by_test true = (
      multiple_is subslot inside rest fits few,
      subst (λ (xs : List ℕ). AreMultiple xs blocks) (sym (multiple_after subslot inside rest fits few)) are,
    )
    by_test false = are

port_few : (peer : Option Peer) → ((known : Peer) → peer ≡ Some known → IsNeighbour known) → length (port_bytes peer) ≤ 600
unfolding port_bytes
port_few None is = omega arith
port_few (Some peer) is = port_long peer (is peer refl)

pub network_is : (identity : Identity) (real : Real) (settings : Settings) (peer : Option Peer) → length (own_chassis identity.mac settings.name) < 256
    → length identity.mac.octets ≡ 6 → IsSuite settings.suite → ((known : Peer) → peer ≡ Some known → IsNeighbour known)
    → AreMultiple (network_bytes identity real settings peer)
    (block_of real 0x8000 (interface_bytes identity settings) ++ block_of real 0x8001 (port_bytes peer))
unfolding network_bytes
network_is identity real settings peer few mac_long suite known =
    let interface_few = interface_long identity settings few mac_long suite in
    let port = plugged_are real 0x8001 (port_bytes peer) [] [] (omega arith) (port_few peer known) refl in
    let same = append-nil (where_plugged real 0x8001 (port_bytes peer)) in
    let blocks = append-nil (block_of real 0x8001 (port_bytes peer)) in
    plugged_are real 0x8000 (interface_bytes identity settings) (where_plugged real 0x8001 (port_bytes peer))
    (block_of real 0x8001 (port_bytes peer)) (omega arith) interface_few
    (subst (λ (xs : List ℕ). AreMultiple xs (block_of real 0x8001 (port_bytes peer))) same
    (subst (λ (bs : List (ℕ × List ℕ)). AreMultiple (where_plugged real 0x8001 (port_bytes peer) ++ []) bs) blocks port))
