-- The blocks of a Connect, read at their places.
use Rattle.std.proofs.Common.{◌≡◌, ◌+◌, ◌*◌, ◌^◌, ◌==◌, ◌<◌, ◌≤◌, ◌++◌, ℕ, Bool, true, false, List, [], ◌∷◌, drop, length, map, take, Some, None, refl, sym, ap, ◌∙◌, subst, if◌then◌else◌, arith}
use Rattle.std.specs.List.{AllByRecursion}
use Rattle.std.proofs.lemmas.List.{append-nil}
use Rattle.byteorder.specs.Endian.{big_bytes}
use Rattle.byteorder.specs.Numbers.{big_number-reads_back}
use Rattle.pn_values.specs.declared.real.RealModule.{RealModule}
use Rattle.pn_values.specs.declared.real.RealSubmodule.{RealSubmodule}
use Rattle.wire.specs.Counted.{write_each}
use Rattle.wire.specs.blocks.Fields.{body, number_bytes, octet_bytes, version}
use Rattle.wire.specs.blocks.modules.Lists.{listed_modules, module_list, next_entry}
use Rattle.connect_blocks.specs.declared.alarm_cr.AlarmCrBlockReq.{AlarmCrBlockReq}
use Rattle.connect_blocks.specs.declared.ar_block.ArBlockReq.{ArBlockReq}
use Rattle.connect_blocks.specs.declared.expected.ExpectedSubmodule.{ExpectedSubmodule}
use Rattle.connect_blocks.specs.declared.io_object.IoObject.{IoObject}
use Rattle.connect_blocks.specs.declared.iocr.IocrBlockReq.{IocrBlockReq}
use Rattle.connect_blocks.specs.declared.iocr.IocrType.{IocrType}
use Rattle.connect_blocks.specs.declared.iocr.IocrType.TheVariants.{Input, Output}
use Rattle.connect_blocks.specs.declared.iocr.RtClass.{RtClass}
use Rattle.connect_blocks.specs.declared.iocr.RtClass.TheVariants.{Class1, Class2}
use Rattle.connect_blocks.specs.AlarmCr.{alarm_cr_block_req}
use Rattle.connect_blocks.specs.ArBlock.{ar_block_req, ar_uuid, initiator_mac, station_name}
use Rattle.connect_blocks.specs.Expected.{data_of as described_data, description, description_kind, expected, expected_module, expected_modules, expected_submodule, new_slot, new_subslot, no_data, submodule_data}
use Rattle.connect_blocks.specs.Iocr.{frame_id, iocr_block_req, iocr_head, iocr_places, iocr_times, iocr_type, number_of_class, number_of_iocr, rt_class}
use Rattle.connect_blocks.specs.Objects.{io_object, io_objects, next_object}
use Rattle.block_codec.specs.declared.block.Block.TheVariants as is
use Rattle.block_codec.specs.Block.{block, block_bytes, body_of, fields_of}
use Rattle.block_codec.specs.Kinds.{number_of, type_of}
use Rattle.end_laws.specs.log_data.Reading.{number_at}
use Rattle.connects.specs.requests.Request.{alarm_of, ar_of, iocr_of}
use Rattle.cyclic_data.specs.Layout.{Table}
use Rattle.plans.specs.Connect.{expected_block}
use Rattle.plans.specs.Parts.{submodule_of}
use Rattle.fields_law.specs.Connect.{ArePlaces, AreDescribed, AreSubmodules, IsAlarmRequest, IsCyclicRequest, IsExpectedRequest, IsRelationRequest, IsSizedAlarm, IsSizedCyclic, IsSizedModule, IsSizedPlace, IsSizedRelation, IsSizedSubmodule, submodule_size}
use Rattle.fields_law.specs.Kept.{IsKeptAlarm, IsKeptCyclic, IsKeptRelation}
use Rattle.fields_law.specs.Connect as of_connect
use Rattle.fields_law.specs.Relation as of_relation
use Rattle.fields_law.proofs.ReadingBlocks.{AreLong, block_is, headed, headed_is, headed_long, header, size_in, with_size}
use Rattle.fields_law.proofs.ReadingPlaces.{at_place, joined, joined_long, number_is, octets_are, total}

-- ---- ARBlockReq

module _ (long : AreLong) (asked : ArBlockReq) (sized : IsSizedRelation asked) where
  abbrev name : List ℕ
  name = asked.cm_initiator_station_name.items

  abbrev relation_parts : List (List ℕ)
  relation_parts =
      big_bytes 2 1 ∷ asked.ar_uuid ∷ big_bytes 2 asked.session_key ∷ asked.cm_initiator_mac_add.octets ∷ asked.cm_initiator_object_uuid
      ∷ big_bytes 4 asked.ar_properties ∷ big_bytes 2 asked.cm_initiator_activity_timeout_factor ∷ big_bytes 2 asked.cm_initiator_udp_rt_port
      ∷ big_bytes 2 (length name) ∷ name ∷ []

  abbrev pub relation_inside : List ℕ
  relation_inside = joined relation_parts []

  relation_written : block_bytes (is.ArBlockReq asked) ≡ with_size 0x0101 (size_in (is.ArBlockReq asked)) relation_inside
  unfolding block_bytes block body_of fields_of number_of type_of body version ar_block_req ar_uuid initiator_mac station_name number_bytes octet_bytes
  relation_written =
      ap (λ (xs : List ℕ). big_bytes 2 0x0101 ++ (big_bytes 2 (size_in (is.ArBlockReq asked)) ++ xs)) (append-nil (1 ∷ 0 ∷ relation_inside))

  pub relation_made : block_bytes (is.ArBlockReq asked) ≡ headed 0x0101 relation_inside
  relation_made = headed_is long (is.ArBlockReq asked) 0x0101 relation_inside relation_written

  relation_long : length relation_inside ≡ 52 + length name
  relation_long =
      let all = joined_long relation_parts [] in
      let a = sized.ar_uuid in
      let b = sized.mac in
      let c = sized.object in
      omega (arith, all, a, b, c)

  pub relation_few : length relation_inside < 65000
  relation_few = let l = relation_long in let n = sized.name in omega (arith, l, n)

  relation_whole : headed 0x0101 relation_inside ≡ joined (header 0x0101 relation_inside ∷ relation_parts) []
  relation_whole = refl

  abbrev relation_first : ℕ → List (List ℕ)
  relation_first count = take count (header 0x0101 relation_inside ∷ relation_parts)

  relation_is : IsRelationRequest (headed 0x0101 relation_inside) asked
  relation_is =
      let a = sized.ar_uuid in
      let b = sized.mac in
      let c = sized.object in
      let n = sized.name in
      let l = relation_long in
      let h = headed_long 0x0101 relation_inside in
      record {
        block = block_is 0x0101 relation_inside (omega arith) relation_few;
        ar_type = number_is _ (relation_first 1) 6 2 1 relation_whole refl (omega arith);
        ar_uuid = octets_are _ (relation_first 2) 8 16 asked.ar_uuid relation_whole refl a;
        session_key = number_is _ (relation_first 3) 24 2 asked.session_key relation_whole (omega (arith, a)) sized.session_key;
        mac = octets_are _ (relation_first 4) 26 6 asked.cm_initiator_mac_add.octets relation_whole (omega (arith, a)) b;
        object = octets_are _ (relation_first 5) 32 16 asked.cm_initiator_object_uuid relation_whole (omega (arith, a, b)) c;
        properties = number_is _ (relation_first 6) 48 4 asked.ar_properties relation_whole (omega (arith, a, b, c)) sized.properties;
        activity_timeout = number_is _ (relation_first 7) 52 2 asked.cm_initiator_activity_timeout_factor relation_whole (omega (arith, a, b, c)) sized.activity_timeout;
        port = number_is _ (relation_first 8) 54 2 asked.cm_initiator_udp_rt_port relation_whole (omega (arith, a, b, c)) sized.port;
        name_length = number_is _ (relation_first 9) 56 2 (length name) relation_whole (omega (arith, a, b, c)) (omega (arith, n));
        name = octets_are _ (relation_first 10) 58 (length name) name relation_whole (omega (arith, a, b, c)) refl;
        end = omega (arith, h, l);
      }

  pub relation_read : IsRelationRequest (block_bytes (is.ArBlockReq asked)) asked
  relation_read = subst (λ (xs : List ℕ). IsRelationRequest xs asked) (sym relation_made) relation_is

  -- what a device keeps of it
  pub kept_relation : IsKeptRelation (block_bytes (is.ArBlockReq asked)) (ar_of asked)
  kept_relation =
      let all = relation_read in
      record {
        uuid = all.ar_uuid;
        session_key = all.session_key;
        initiator = all.mac;
        object = all.object;
        properties = all.properties;
        timeout = all.activity_timeout;
        name = all.name;
      }

-- ---- places in a frame

abbrev object_bytes : IoObject → List ℕ
object_bytes object = big_bytes 2 object.slot_number ++ (big_bytes 2 object.subslot_number ++ big_bytes 2 object.frame_offset)

abbrev objects_bytes : List IoObject → List ℕ
objects_bytes [] = []
objects_bytes (object ∷ objects) = object_bytes object ++ objects_bytes objects

objects_written : (before objects : List IoObject) (rest : List ℕ) → write_each next_object before objects rest ≡ objects_bytes objects ++ rest
unfolding next_object io_object number_bytes
objects_written before [] rest = refl
objects_written before (object ∷ objects) rest =
    ap (λ (xs : List ℕ). object_bytes object ++ xs) (objects_written (before ++ object ∷ []) objects rest)

objects_long : (objects : List IoObject) → length (objects_bytes objects) ≡ 6 * length objects
objects_long [] = refl
objects_long (object ∷ objects) = let others = objects_long objects in omega (arith, others)

places_read : (objects : List IoObject) (rest : List ℕ) → AllByRecursion IsSizedPlace objects → ArePlaces (objects_bytes objects ++ rest) objects
places_read [] rest all = tt
places_read (object ∷ objects) rest all = (
  big_number-reads_back 2 object.slot_number [] all.0.slot,
  big_number-reads_back 2 object.subslot_number [] all.0.subslot,
  big_number-reads_back 2 object.frame_offset [] all.0.offset,
  places_read objects rest all.1,
)

-- ---- IOCRBlockReq

type_is_read : (direction : IocrType) → (number_of_iocr direction ≡ of_connect.iocr_type direction) × (number_of_iocr direction < 65536)
type_is_read Input = (refl, omega arith)
type_is_read Output = (refl, omega arith)

class_is_read : (class : RtClass) → (number_of_class class ≡ of_relation.rt_class class) × (number_of_class class < 256 ^ 4)
class_is_read Class1 = (refl, omega arith)
class_is_read Class2 = (refl, omega arith)

module _ (long : AreLong) (asked : IocrBlockReq) (sized : IsSizedCyclic asked) where
  abbrev objects : List IoObject
  objects = asked.io_data_objects

  abbrev iocs : List IoObject
  iocs = asked.iocs

  -- the fields before the data objects
  abbrev cyclic_front : List (List ℕ)
  cyclic_front =
      big_bytes 2 (number_of_iocr asked.iocr_type) ∷ big_bytes 2 asked.iocr_reference ∷ big_bytes 2 0x8892 ∷ big_bytes 4 (number_of_class asked.iocr_properties)
      ∷ big_bytes 2 asked.data_length ∷ big_bytes 2 asked.frame_id ∷ big_bytes 2 asked.send_clock_factor ∷ big_bytes 2 asked.reduction_ratio
      ∷ big_bytes 2 asked.phase ∷ big_bytes 2 asked.sequence ∷ big_bytes 4 asked.frame_send_offset ∷ big_bytes 2 asked.watchdog_factor
      ∷ big_bytes 2 asked.data_hold_factor ∷ big_bytes 2 asked.iocr_tag_header ∷ asked.iocr_multicast_mac_add.octets ∷ big_bytes 2 1 ∷ big_bytes 4 0
      ∷ big_bytes 2 (length objects) ∷ []

  abbrev pub cyclic_inside : List ℕ
  cyclic_inside = joined cyclic_front (objects_bytes objects ++ (big_bytes 2 (length iocs) ++ (objects_bytes iocs ++ [])))

  cyclic_spelled : iocr_block_req.write asked [] ≡ cyclic_inside
  unfolding iocr_block_req iocr_head iocr_times iocr_places iocr_type rt_class frame_id io_objects number_bytes octet_bytes
  cyclic_spelled =
      ap (λ (xs : List ℕ). joined cyclic_front xs) (objects_written [] objects (big_bytes 2 (length iocs) ++ write_each next_object [] iocs []))
      ∙ ap (λ (xs : List ℕ). joined cyclic_front (objects_bytes objects ++ (big_bytes 2 (length iocs) ++ xs))) (objects_written [] iocs [])

  cyclic_written : block_bytes (is.IocrBlockReq asked) ≡ with_size 0x0102 (size_in (is.IocrBlockReq asked)) (iocr_block_req.write asked [])
  unfolding block_bytes block body_of fields_of number_of type_of body version number_bytes
  cyclic_written =
      ap (λ (xs : List ℕ). big_bytes 2 0x0102 ++ (big_bytes 2 (size_in (is.IocrBlockReq asked)) ++ xs)) (append-nil (1 ∷ 0 ∷ iocr_block_req.write asked []))

  pub cyclic_made : block_bytes (is.IocrBlockReq asked) ≡ headed 0x0102 cyclic_inside
  cyclic_made =
      headed_is long (is.IocrBlockReq asked) 0x0102 cyclic_inside
      (cyclic_written ∙ ap (λ (xs : List ℕ). with_size 0x0102 (size_in (is.IocrBlockReq asked)) xs) cyclic_spelled)

  -- all parts of the block
  abbrev cyclic_parts : List (List ℕ)
  cyclic_parts =
      header 0x0102 cyclic_inside ∷ big_bytes 2 (number_of_iocr asked.iocr_type) ∷ big_bytes 2 asked.iocr_reference ∷ big_bytes 2 0x8892
      ∷ big_bytes 4 (number_of_class asked.iocr_properties) ∷ big_bytes 2 asked.data_length ∷ big_bytes 2 asked.frame_id
      ∷ big_bytes 2 asked.send_clock_factor ∷ big_bytes 2 asked.reduction_ratio ∷ big_bytes 2 asked.phase ∷ big_bytes 2 asked.sequence
      ∷ big_bytes 4 asked.frame_send_offset ∷ big_bytes 2 asked.watchdog_factor ∷ big_bytes 2 asked.data_hold_factor ∷ big_bytes 2 asked.iocr_tag_header
      ∷ asked.iocr_multicast_mac_add.octets ∷ big_bytes 2 1 ∷ big_bytes 4 0 ∷ big_bytes 2 (length objects) ∷ objects_bytes objects
      ∷ big_bytes 2 (length iocs) ∷ objects_bytes iocs ∷ []

  cyclic_whole : headed 0x0102 cyclic_inside ≡ joined cyclic_parts []
  cyclic_whole = refl

  abbrev cyclic_first : ℕ → List (List ℕ)
  cyclic_first count = take count cyclic_parts

  cyclic_long : length cyclic_inside ≡ 48 + 6 * length objects + 6 * length iocs
  cyclic_long =
      let all : length (headed 0x0102 cyclic_inside) ≡ total cyclic_parts + 0 = joined_long cyclic_parts [] in
      let h = headed_long 0x0102 cyclic_inside in
      let a = sized.multicast in
      let b = objects_long objects in
      let c = objects_long iocs in
      omega (arith, all, h, a, b, c)

  pub cyclic_few : length cyclic_inside < 65000
  cyclic_few =
      let l = cyclic_long in
      let a = sized.few_objects in
      let b = sized.few_iocs in
      omega (arith, l, a, b)

  objects_there : drop 52 (headed 0x0102 cyclic_inside) ≡ objects_bytes objects ++ (big_bytes 2 (length iocs) ++ (objects_bytes iocs ++ []))
  objects_there =
      let a = sized.multicast in
      at_place (headed 0x0102 cyclic_inside) (objects_bytes objects ++ (big_bytes 2 (length iocs) ++ (objects_bytes iocs ++ []))) (cyclic_first 19) 52 refl
      (omega (arith, a))

  iocs_there : drop (54 + 6 * length objects) (headed 0x0102 cyclic_inside) ≡ objects_bytes iocs ++ []
  iocs_there =
      let a = sized.multicast in
      let b = objects_long objects in
      at_place (headed 0x0102 cyclic_inside) (objects_bytes iocs ++ []) (cyclic_first 21) (54 + 6 * length objects) refl (omega (arith, a, b))

  cyclic_is : IsCyclicRequest (headed 0x0102 cyclic_inside) asked
  cyclic_is =
      let a = sized.multicast in
      let b = objects_long objects in
      let f = sized.few_objects in
      let g = sized.few_iocs in
      let l = cyclic_long in
      let h = headed_long 0x0102 cyclic_inside in
      record {
        block = block_is 0x0102 cyclic_inside (omega arith) cyclic_few;
        type_is = number_is _ (cyclic_first 1) 6 2 (number_of_iocr asked.iocr_type) cyclic_whole refl (type_is_read asked.iocr_type).1 ∙ (type_is_read asked.iocr_type).0;
        reference = number_is _ (cyclic_first 2) 8 2 asked.iocr_reference cyclic_whole refl sized.reference;
        ether_type = number_is _ (cyclic_first 3) 10 2 0x8892 cyclic_whole refl (omega arith);
        properties =
            number_is _ (cyclic_first 4) 12 4 (number_of_class asked.iocr_properties) cyclic_whole refl (class_is_read asked.iocr_properties).1
            ∙ (class_is_read asked.iocr_properties).0;
        data_length = number_is _ (cyclic_first 5) 16 2 asked.data_length cyclic_whole refl sized.data_length;
        frame_id = number_is _ (cyclic_first 6) 18 2 asked.frame_id cyclic_whole refl sized.frame_id;
        send_clock_factor = number_is _ (cyclic_first 7) 20 2 asked.send_clock_factor cyclic_whole refl sized.send_clock_factor;
        reduction_ratio = number_is _ (cyclic_first 8) 22 2 asked.reduction_ratio cyclic_whole refl sized.reduction_ratio;
        phase = number_is _ (cyclic_first 9) 24 2 asked.phase cyclic_whole refl sized.phase;
        sequence = number_is _ (cyclic_first 10) 26 2 asked.sequence cyclic_whole refl sized.sequence;
        frame_send_offset = number_is _ (cyclic_first 11) 28 4 asked.frame_send_offset cyclic_whole refl sized.frame_send_offset;
        watchdog_factor = number_is _ (cyclic_first 12) 32 2 asked.watchdog_factor cyclic_whole refl sized.watchdog_factor;
        data_hold_factor = number_is _ (cyclic_first 13) 34 2 asked.data_hold_factor cyclic_whole refl sized.data_hold_factor;
        tag_header = number_is _ (cyclic_first 14) 36 2 asked.iocr_tag_header cyclic_whole refl sized.tag_header;
        multicast = octets_are _ (cyclic_first 15) 38 6 asked.iocr_multicast_mac_add.octets cyclic_whole refl a;
        apis = number_is _ (cyclic_first 16) 44 2 1 cyclic_whole (omega (arith, a)) (omega arith);
        api = number_is _ (cyclic_first 17) 46 4 0 cyclic_whole (omega (arith, a)) (omega arith);
        object_count = number_is _ (cyclic_first 18) 50 2 (length objects) cyclic_whole (omega (arith, a)) (omega (arith, f));
        objects =
            subst (λ (xs : List ℕ). ArePlaces xs objects) (sym objects_there)
            (places_read objects (big_bytes 2 (length iocs) ++ (objects_bytes iocs ++ [])) sized.objects);
        iocs_count = number_is _ (cyclic_first 20) (52 + 6 * length objects) 2 (length iocs) cyclic_whole (omega (arith, a, b)) (omega (arith, g));
        iocs = subst (λ (xs : List ℕ). ArePlaces xs iocs) (sym iocs_there) (places_read iocs [] sized.iocs);
        end = omega (arith, h, l);
      }

  pub cyclic_read : IsCyclicRequest (block_bytes (is.IocrBlockReq asked)) asked
  cyclic_read = subst (λ (xs : List ℕ). IsCyclicRequest xs asked) (sym cyclic_made) cyclic_is

  -- what a device keeps of it
  kept_here : (layout : Table) → IsKeptCyclic (block_bytes (is.IocrBlockReq asked)) (iocr_of asked layout)
  kept_here layout =
      let all = cyclic_read in
      record {
        reference = all.reference;
        class = all.properties;
        send_clock_factor = all.send_clock_factor;
        reduction_ratio = all.reduction_ratio;
        data_hold_factor = all.data_hold_factor;
        tag_header = all.tag_header;
      }

pub kept_cyclic : AreLong → (asked : IocrBlockReq) (layout : Table) → IsSizedCyclic asked
    → IsKeptCyclic (block_bytes (is.IocrBlockReq asked)) (iocr_of asked layout)
kept_cyclic long asked layout sized = kept_here long asked sized layout

-- ---- AlarmCRBlockReq

module _ (long : AreLong) (asked : AlarmCrBlockReq) (sized : IsSizedAlarm asked) where
  abbrev alarm_parts : List (List ℕ)
  alarm_parts =
      big_bytes 2 1 ∷ big_bytes 2 0x8892 ∷ big_bytes 4 asked.alarm_cr_properties ∷ big_bytes 2 asked.rta_timeout_factor ∷ big_bytes 2 asked.rta_retries
      ∷ big_bytes 2 asked.local_alarm_reference ∷ big_bytes 2 asked.max_alarm_data_length ∷ big_bytes 2 asked.tag_header_high
      ∷ big_bytes 2 asked.tag_header_low ∷ []

  abbrev pub alarm_inside : List ℕ
  alarm_inside = joined alarm_parts []

  alarm_written : block_bytes (is.AlarmCrBlockReq asked) ≡ with_size 0x0103 (size_in (is.AlarmCrBlockReq asked)) alarm_inside
  unfolding block_bytes block body_of fields_of number_of type_of body version alarm_cr_block_req number_bytes
  alarm_written = refl

  pub alarm_made : block_bytes (is.AlarmCrBlockReq asked) ≡ headed 0x0103 alarm_inside
  alarm_made = headed_is long (is.AlarmCrBlockReq asked) 0x0103 alarm_inside alarm_written

  alarm_whole : headed 0x0103 alarm_inside ≡ joined (header 0x0103 alarm_inside ∷ alarm_parts) []
  alarm_whole = refl

  abbrev alarm_first : ℕ → List (List ℕ)
  alarm_first count = take count (header 0x0103 alarm_inside ∷ alarm_parts)

  pub alarm_few : length alarm_inside < 65000
  alarm_few = omega arith

  alarm_is : IsAlarmRequest (headed 0x0103 alarm_inside) asked
  alarm_is = record {
    block = block_is 0x0103 alarm_inside (omega arith) alarm_few;
    type_is = number_is _ (alarm_first 1) 6 2 1 alarm_whole refl (omega arith);
    ether_type = number_is _ (alarm_first 2) 8 2 0x8892 alarm_whole refl (omega arith);
    properties = number_is _ (alarm_first 3) 10 4 asked.alarm_cr_properties alarm_whole refl sized.properties;
    timeout_factor = number_is _ (alarm_first 4) 14 2 asked.rta_timeout_factor alarm_whole refl sized.timeout_factor;
    retries = number_is _ (alarm_first 5) 16 2 asked.rta_retries alarm_whole refl sized.retries;
    reference = number_is _ (alarm_first 6) 18 2 asked.local_alarm_reference alarm_whole refl sized.reference;
    data_length = number_is _ (alarm_first 7) 20 2 asked.max_alarm_data_length alarm_whole refl sized.data_length;
    tag_high = number_is _ (alarm_first 8) 22 2 asked.tag_header_high alarm_whole refl sized.tag_high;
    tag_low = number_is _ (alarm_first 9) 24 2 asked.tag_header_low alarm_whole refl sized.tag_low;
    end = refl;
  }

  pub alarm_read : IsAlarmRequest (block_bytes (is.AlarmCrBlockReq asked)) asked
  alarm_read = subst (λ (xs : List ℕ). IsAlarmRequest xs asked) (sym alarm_made) alarm_is

  -- what a device keeps of it
  pub kept_alarm : IsKeptAlarm (block_bytes (is.AlarmCrBlockReq asked)) (alarm_of asked)
  kept_alarm =
      let all = alarm_read in
      record {
        timeout_factor = all.timeout_factor;
        retries = all.retries;
        reference = all.reference;
        tag_high = all.tag_high;
        tag_low = all.tag_low;
      }

-- ---- ExpectedSubmoduleBlockReq

-- a submodule as it is written, by whether it has no input and no output
abbrev described : Bool → Bool → RealSubmodule → ExpectedSubmodule
described no_input no_output part = record {
  subslot_number = part.subslot;
  submodule_ident_number = part.ident;
  io_data = record { input = if no_input then None else Some part.input; output = if no_output then None else Some part.output };
}

abbrev IsOneRead : Bool → Bool → RealSubmodule → List ℕ → List ℕ → Type 0
IsOneRead no_input no_output part octets after =
    (number_at 0 2 octets ≡ part.subslot) × (number_at 2 4 octets ≡ part.ident)
    × AreDescribed no_input no_output (drop 6 octets) part × (drop (submodule_size no_input no_output) octets ≡ after)

one_read : (no_input no_output : Bool) (part : RealSubmodule) (after : List ℕ) → IsSizedSubmodule part
    → IsOneRead no_input no_output part ((expected_submodule []).write (described no_input no_output part) after) after
unfolding expected_submodule new_subslot submodule_data no_data described_data description description_kind number_bytes
one_read true true part after sized = (
  big_number-reads_back 2 part.subslot [] sized.subslot,
  big_number-reads_back 4 part.ident [] sized.ident,
  (refl, record { type_is = refl; data_length = refl; length_iocs = refl; length_iops = refl }),
  refl,
)
one_read false true part after sized = (
  big_number-reads_back 2 part.subslot [] sized.subslot,
  big_number-reads_back 4 part.ident [] sized.ident,
  (refl, record { type_is = refl; data_length = big_number-reads_back 2 part.input [] sized.input; length_iocs = refl; length_iops = refl }),
  refl,
)
one_read true false part after sized = (
  big_number-reads_back 2 part.subslot [] sized.subslot,
  big_number-reads_back 4 part.ident [] sized.ident,
  (refl, record { type_is = refl; data_length = big_number-reads_back 2 part.output [] sized.output; length_iocs = refl; length_iops = refl }),
  refl,
)
one_read false false part after sized = (
  big_number-reads_back 2 part.subslot [] sized.subslot,
  big_number-reads_back 4 part.ident [] sized.ident,
  (
    refl,
    record { type_is = refl; data_length = big_number-reads_back 2 part.input [] sized.input; length_iocs = refl; length_iops = refl },
    record { type_is = refl; data_length = big_number-reads_back 2 part.output [] sized.output; length_iocs = refl; length_iops = refl },
  ),
  refl,
)

-- the submodules of a module, as they are written
abbrev submodules_bytes : List ExpectedSubmodule → List RealSubmodule → List ℕ
submodules_bytes before parts = write_each (next_entry expected_submodule 0) before (map submodule_of parts) []

abbrev one_bytes : RealSubmodule → List ℕ → List ℕ
one_bytes part after = (expected_submodule []).write (described (part.input == 0) (part.output == 0) part) after

one_first : (before : List ExpectedSubmodule) (part : RealSubmodule) (parts : List RealSubmodule)
    → submodules_bytes before (part ∷ parts) ≡ one_bytes part (submodules_bytes (before ++ submodule_of part ∷ []) parts)
unfolding next_entry expected_submodule new_subslot
one_first before part parts = refl

submodules_read : (before : List ExpectedSubmodule) (parts : List RealSubmodule) → AllByRecursion IsSizedSubmodule parts
    → AreSubmodules (submodules_bytes before parts) parts
submodules_read before [] all = refl
submodules_read before (part ∷ parts) all =
    let after = submodules_bytes (before ++ submodule_of part ∷ []) parts in
    let one = one_read (part.input == 0) (part.output == 0) part after all.0 in
    subst (λ (xs : List ℕ). AreSubmodules xs (part ∷ parts)) (sym (one_first before part parts)) (
      one.0,
      one.1,
      one.2,
      subst (λ (xs : List ℕ). AreSubmodules xs parts) (sym one.3) (submodules_read (before ++ submodule_of part ∷ []) parts all.1),
    )

one_few : (no_input no_output : Bool) (part : RealSubmodule) (after : List ℕ)
    → length ((expected_submodule []).write (described no_input no_output part) after) ≤ 20 + length after
unfolding expected_submodule new_subslot submodule_data no_data described_data description description_kind number_bytes
one_few true true part after = omega arith
one_few false true part after = omega arith
one_few true false part after = omega arith
one_few false false part after = omega arith

submodules_few : (before : List ExpectedSubmodule) (parts : List RealSubmodule) → length (submodules_bytes before parts) ≤ 20 * length parts
submodules_few before [] = omega arith
submodules_few before (part ∷ parts) =
    let after = submodules_bytes (before ++ submodule_of part ∷ []) parts in
    let first = ap length (one_first before part parts) in
    let one = one_few (part.input == 0) (part.output == 0) part after in
    let others = submodules_few (before ++ submodule_of part ∷ []) parts in
    omega (arith, first, one, others)

all_taken : (parts : List RealSubmodule) → take (length parts) (map submodule_of parts) ≡ map submodule_of parts
all_taken [] = refl
all_taken (part ∷ parts) = ap (λ (xs : List ExpectedSubmodule). submodule_of part ∷ xs) (all_taken parts)

module _ (long : AreLong) (entry : RealModule) (sized : IsSizedModule entry) where
  abbrev own : List RealSubmodule
  own = entry.submodules.items

  -- the block with these submodules after its module
  abbrev expected_with : List ExpectedSubmodule → List ℕ
  expected_with submodules =
      big_bytes 2 1 ++ (big_bytes 4 0 ++ (big_bytes 2 entry.slot ++ (big_bytes 4 entry.ident ++ (big_bytes 2 0 ++ (big_bytes 2 (length own)
      ++ write_each (next_entry expected_submodule 0) [] submodules [])))))

  abbrev pub expected_inside : List ℕ
  expected_inside = expected_with (map submodule_of own)

  expected_spelled : expected.write (expected_block entry) [] ≡ expected_with (take (length own) (map submodule_of own))
  unfolding expected expected_modules listed_modules module_list next_entry expected_module new_slot number_bytes
  expected_spelled = refl

  expected_written : block_bytes (is.ExpectedSubmoduleBlockReq (expected_block entry))
      ≡ with_size 0x0104 (size_in (is.ExpectedSubmoduleBlockReq (expected_block entry))) (expected.write (expected_block entry) [])
  unfolding block_bytes block body_of fields_of number_of type_of body version number_bytes
  expected_written =
      ap (λ (xs : List ℕ). big_bytes 2 0x0104 ++ (big_bytes 2 (size_in (is.ExpectedSubmoduleBlockReq (expected_block entry))) ++ xs))
      (append-nil (1 ∷ 0 ∷ expected.write (expected_block entry) []))

  pub expected_made : block_bytes (is.ExpectedSubmoduleBlockReq (expected_block entry)) ≡ headed 0x0104 expected_inside
  expected_made =
      headed_is long (is.ExpectedSubmoduleBlockReq (expected_block entry)) 0x0104 expected_inside
      (expected_written
      ∙ ap (λ (xs : List ℕ). with_size 0x0104 (size_in (is.ExpectedSubmoduleBlockReq (expected_block entry))) xs)
      (expected_spelled ∙ ap (λ (xs : List ExpectedSubmodule). expected_with xs) (all_taken own)))

  pub expected_few : length expected_inside < 65000
  expected_few =
      let all = submodules_few [] own in
      let few = sized.few in
      omega (arith, all, few)

  expected_is : IsExpectedRequest (headed 0x0104 expected_inside) entry
  expected_is =
      let few = sized.few in
      record {
        block = block_is 0x0104 expected_inside (omega arith) expected_few;
        apis = refl;
        api = refl;
        slot = big_number-reads_back 2 entry.slot [] sized.slot;
        ident = big_number-reads_back 4 entry.ident [] sized.ident;
        properties = refl;
        count = big_number-reads_back 2 (length own) [] (omega (arith, few));
        submodules = submodules_read [] own sized.submodules;
      }

  pub expected_read : IsExpectedRequest (block_bytes (is.ExpectedSubmoduleBlockReq (expected_block entry))) entry
  expected_read = subst (λ (xs : List ℕ). IsExpectedRequest xs entry) (sym expected_made) expected_is
