-- ARBlockReq and ARBlockRes (IEC 61158-6-10, 5.2.4.1 and 5.2.4.2).
use Rattle.std.specs.Prelude.{◌≡◌, ◌%◌, ◌==◌, ◌≤◌, ℕ, Bool, true, not, nat_eq, List, length, replicate, slice_index}
use Rattle.std.specs.Cmp.Lexicographic.{pointwise}
use Rattle.arrayvec.specs.ArrayVec.{ArrayVec}
use Rattle.pn_values.specs.declared.mac.Mac.{Mac}
use Rattle.wire.specs.Codec.{Codec}
use Rattle.wire.specs.Formats.{◌⨾◌, then_by, seen}
use Rattle.wire.specs.Checks.{checked}
use Rattle.wire.specs.declared.blocks.fault.BlockFault.{BlockFault}
use Rattle.wire.specs.declared.blocks.fault.BlockFault.TheVariants.{Field}
use Rattle.wire.specs.blocks.Fields.{two, four, ranged, fixed, unchecked_two, octets, mac}
use Rattle.connect_blocks.specs.declared.ar_block.ArBlockReq.{ArBlockReq}
use Rattle.connect_blocks.specs.declared.ar_block.ArBlockRes.{ArBlockRes}

-- Whether a UUID is not zero.
abbrev pub is_some_uuid : List ℕ → Bool
is_some_uuid octets = not (pointwise nat_eq octets (replicate 16 0))

-- An ARUUID, field 5.
unfoldable pub ar_uuid : Codec BlockFault (List ℕ)
ar_uuid = checked is_some_uuid (Field 5) (octets 16)

-- Whether an address is a unicast address: its first octet is even.
abbrev pub is_unicast : Mac → Bool
is_unicast address = not (slice_index address.octets 0 % 2 == 1)

-- A CMInitiatorMacAdd, field 7.
unfoldable pub initiator_mac : Codec BlockFault Mac
initiator_mac = checked is_unicast (Field 7) mac

-- A StationNameLength, field 12, and the name.
unfoldable pub station_name : Codec BlockFault (ArrayVec ℕ)
station_name = seen (λ x. record { items = x.1 }) (λ name. (length name.items, name.items))
    (then_by (ranged 12 0 240) octets)

-- The fields of an ARBlockReq: ARType 1, ARUUID, SessionKey, CMInitiatorMacAdd, CMInitiatorObjectUUID, ARProperties,
-- CMInitiatorActivityTimeoutFactor, CMInitiatorUDPRTPort and CMInitiatorStationName.
unfoldable pub ar_block_req : Codec BlockFault ArBlockReq
ar_block_req = seen
    (λ x. record {
      ar_uuid = x.1.0;
      session_key = x.1.1.0;
      cm_initiator_mac_add = x.1.1.1.0;
      cm_initiator_object_uuid = x.1.1.1.1.0;
      ar_properties = x.1.1.1.1.1.0;
      cm_initiator_activity_timeout_factor = x.1.1.1.1.1.1.0;
      cm_initiator_udp_rt_port = x.1.1.1.1.1.1.1.0;
      cm_initiator_station_name = x.1.1.1.1.1.1.1.1;
    })
    (λ block. (
      tt,
      (
        block.ar_uuid,
        (
          block.session_key,
          (
            block.cm_initiator_mac_add,
            (
              block.cm_initiator_object_uuid,
              (block.ar_properties, (block.cm_initiator_activity_timeout_factor, (block.cm_initiator_udp_rt_port, block.cm_initiator_station_name))),
            ),
          ),
        ),
      ),
    ))
    (fixed 4 1 ⨾ ar_uuid ⨾ two ⨾ initiator_mac ⨾ octets 16
    ⨾ four ⨾ ranged 10 1 1000 ⨾ two ⨾ station_name)

-- The fields of an ARBlockReq are accepted.
pub record IsArBlockReq (block : ArBlockReq) : Type 0 where
  pub uuid : is_some_uuid block.ar_uuid ≡ true
  pub address : is_unicast block.cm_initiator_mac_add ≡ true
  pub least : 1 ≤ block.cm_initiator_activity_timeout_factor
  pub greatest : block.cm_initiator_activity_timeout_factor ≤ 1000

-- The fields of an ARBlockRes: ARType, ARUUID, SessionKey, CMResponderMacAdd, ResponderUDPRTPort.
unfoldable pub ar_block_res : Codec BlockFault ArBlockRes
ar_block_res = seen
    (λ x. record { ar_uuid = x.1.0; session_key = x.1.1.0; cm_responder_mac_add = x.1.1.1.0 })
    (λ block. (tt, (block.ar_uuid, (block.session_key, (block.cm_responder_mac_add, tt)))))
    (unchecked_two 1 ⨾ octets 16 ⨾ two ⨾ mac ⨾ unchecked_two 0x8892)
