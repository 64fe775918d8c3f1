-- ARData, read at its places.
use Rattle.std.proofs.Common.{◌≡◌, ◌+◌, ◌-◌, ◌*◌, ◌%◌, ◌^◌, ◌<◌, ◌++◌, ℕ, Bool, true, false, List, [], ◌∷◌, drop, length, take, nat_lt, Some, None, refl, sym, ap, ◌∙◌, subst, if◌then◌else◌, arith}
use Rattle.std.proofs.lemmas.List.{drop-drop}
use Rattle.byteorder.specs.Endian.{big_bytes, big_number}
use Rattle.byteorder.specs.Numbers.{big_number-reads_back}
use Rattle.connect_blocks.specs.Iocr.{number_of_class}
use Rattle.connect_blocks.specs.declared.iocr.RtClass.{RtClass}
use Rattle.connect_blocks.specs.declared.iocr.RtClass.TheVariants.{Class1, Class2}
use Rattle.connects.specs.declared.requests.parts.Iocr.{Iocr}
use Rattle.connects.specs.requests.Request.{Request}
use Rattle.cyclic_data.specs.declared.exchange.route.Route.{Route}
use Rattle.cyclic_data.specs.declared.status.StationState.{StationState}
use Rattle.cyclic_data.specs.declared.tail.CyclicTail.{CyclicTail}
use Rattle.cyclic_data.specs.Status.{data_status_of}
use Rattle.cyclic_data.specs.Tail.{cyclic_tail}
use Rattle.cyclic_data.specs.exchange.Cyclic.{Cyclic}
use Rattle.cyclic_data.specs.exchange.Process.{taken_tail}
use Rattle.device_records.specs.ArData.{alarm_bytes, ar_bytes, ar_data, iocr_bytes, iocrs_bytes, last_sent, sent_tail}
use Rattle.end_laws.specs.log_data.Reading.{number_at}
use Rattle.fields_law.specs.Relation.{AreNumbers, AreRelations, IsArData, IsEmptyArData, IsIocr, IsRequest, IsTail, rt_class}
use Rattle.fields_law.proofs.ReadingPlaces.{at_place, joined, joined_long, number_is, octets_are, spread, total}

-- ---- a communication relation

class_is : (class : RtClass) → (number_of_class class ≡ rt_class class) × (number_of_class class < 256 ^ 4)
class_is Class1 = (refl, omega arith)
class_is Class2 = (refl, omega arith)

iocr_read : (type_of : ℕ) (iocr : Iocr) (frame_id : ℕ) (tail : CyclicTail) (rest : List ℕ) → type_of < 65536 → frame_id < 65536 → IsTail tail
    → IsIocr (iocr_bytes type_of iocr frame_id tail ++ rest) type_of iocr frame_id tail
unfolding cyclic_tail
iocr_read type_of iocr frame_id tail rest type_fits id_fits fits = record {
  type_is = big_number-reads_back 2 type_of [] type_fits;
  properties = big_number-reads_back 4 (number_of_class iocr.class) [] (class_is iocr.class).1 ∙ (class_is iocr.class).0;
  id_is = big_number-reads_back 2 frame_id [] id_fits;
  cycle_counter = big_number-reads_back 2 tail.counter [] fits.counter;
  data_status = big_number-reads_back 1 tail.data_status.0 [] fits.data_status;
  transfer_status = big_number-reads_back 1 tail.transfer_status [] fits.transfer_status;
  initiator_port = refl;
  responder_port = refl;
}

-- ---- all of them

module _ (request : Request) (route : Route) (sent taken : CyclicTail) (endpoint : ℕ) (is : IsRequest request) (are : AreNumbers route endpoint)
    (sent_fits : IsTail sent) (taken_fits : IsTail taken) where
  abbrev input_bytes : List ℕ
  input_bytes = iocr_bytes 1 request.input route.sent_id sent

  abbrev output_bytes : List ℕ
  output_bytes = iocr_bytes 2 request.output route.taken_id taken

  abbrev relations_in : Bool → List ℕ
  relations_in input_first = big_bytes 2 2 ++ ((if input_first then input_bytes ++ output_bytes else output_bytes ++ input_bytes) ++ alarm_bytes request endpoint)

  input_by : (input_first : Bool) → IsIocr (drop (if input_first then 2 else 18) (relations_in input_first)) 1 request.input route.sent_id sent
  unfolding cyclic_tail
  input_by true = iocr_read 1 request.input route.sent_id sent (output_bytes ++ alarm_bytes request endpoint) (omega arith) are.sent sent_fits
  input_by false = iocr_read 1 request.input route.sent_id sent (alarm_bytes request endpoint) (omega arith) are.sent sent_fits

  output_by : (input_first : Bool) → IsIocr (drop (if input_first then 18 else 2) (relations_in input_first)) 2 request.output route.taken_id taken
  unfolding cyclic_tail
  output_by true = iocr_read 2 request.output route.taken_id taken (alarm_bytes request endpoint) (omega arith) are.taken taken_fits
  output_by false = iocr_read 2 request.output route.taken_id taken (input_bytes ++ alarm_bytes request endpoint) (omega arith) are.taken taken_fits

  alarm_by : (input_first : Bool) → drop 34 (relations_in input_first) ≡ alarm_bytes request endpoint
  unfolding cyclic_tail
  alarm_by true = refl
  alarm_by false = refl

  end_by : (input_first : Bool) → length (relations_in input_first) ≡ 64
  unfolding cyclic_tail
  end_by true = refl
  end_by false = refl

  abbrev relations : List ℕ
  relations = relations_in request.input_first

  -- a place in the part on alarms
  later : (more : ℕ) → drop (34 + more) relations ≡ drop more (alarm_bytes request endpoint)
  later more = sym (drop-drop more 34 relations) ∙ ap (drop more) (alarm_by request.input_first)

  relations_are : AreRelations relations request route sent taken endpoint
  relations_are = record {
    iocrs = refl;
    input = input_by request.input_first;
    output = output_by request.input_first;
    alarm_type = ap (big_number 2) (alarm_by request.input_first);
    local_reference = ap (big_number 2) (later 2) ∙ big_number-reads_back 2 endpoint [] are.endpoint_fits;
    remote_reference = ap (big_number 2) (later 4) ∙ big_number-reads_back 2 request.alarm.reference [] is.alarm;
    parameter_server = ap (take 16) (later 6);
    parameter_server_name = ap (big_number 2) (later 22);
    apis = ap (big_number 2) (later 24);
    api = ap (big_number 4) (later 26);
    end = end_by request.input_first;
  }

  -- ---- the record

  abbrev name : List ℕ
  name = request.ar.name.items

  abbrev size : ℕ
  size = 2 + (2 + (104 + length name))

  abbrev whole : List ℕ
  whole = big_bytes 2 0x0018 ++ big_bytes 2 size ++ 1 ∷ 0 ∷ 0 ∷ 1 ∷
      (ar_bytes request ++ big_bytes 2 2 ++ iocrs_bytes request route sent taken ++ alarm_bytes request endpoint)

  abbrev parts : List (List ℕ)
  parts =
      big_bytes 2 0x0018 ∷ big_bytes 2 size ∷ (1 ∷ 0 ∷ []) ∷ big_bytes 2 1 ∷ request.ar.uuid ∷ big_bytes 2 1 ∷ big_bytes 4 request.ar.properties
      ∷ request.ar.object ∷ big_bytes 2 (length name) ∷ name ∷ []

  abbrev first : ℕ → List (List ℕ)
  first count = take count parts

  abbrev header : List ℕ → List ℕ
  header rest = big_bytes 2 0x0018 ++ (big_bytes 2 size ++ (1 ∷ 0 ∷ 0 ∷ 1 ∷ rest))

  made : whole ≡ joined parts relations
  made =
      ap header (spread (ar_bytes request) (big_bytes 2 2 ∷ iocrs_bytes request route sent taken ∷ []) (alarm_bytes request endpoint))
      ∙ ap header (spread request.ar.uuid (big_bytes 2 1 ∷ big_bytes 4 request.ar.properties ∷ request.ar.object ∷ big_bytes 2 (length name) ∷ name ∷
      []) relations)

  before_type : total (first 5) ≡ 24
  before_type = let a = is.uuid in omega (arith, a)

  before_name : total (first 9) ≡ 48
  before_name = let a = is.uuid in let b = is.object in omega (arith, a, b)

  before_relations : total parts ≡ 48 + length name
  before_relations = let a = before_name in omega (arith, a)

  whole_long : length whole ≡ 4 + size
  whole_long =
      let a = ap length made in
      let b = joined_long parts relations in
      let c = before_relations in
      let d = end_by request.input_first in
      omega (arith, a, b, c, d)

  size_is : number_at 2 2 whole ≡ size
  size_is = number_is _ (first 1) 2 2 size made refl (let few = is.name in omega (arith, few))

  relations_there : drop (48 + length name) whole ≡ relations
  relations_there = at_place whole relations parts (48 + length name) made before_relations

  pub ar_is : IsArData whole request route sent taken endpoint
  ar_is =
      let uuid_long = is.uuid in
      let few = is.name in
      let t = before_type in
      let o = is.object in
      record {
        kind = number_is _ (first 0) 0 2 0x0018 made refl (omega arith);
        size = let s = size_is in let l = whole_long in omega (arith, s, l);
        version = octets_are _ (first 2) 4 2 (1 ∷ 0 ∷ []) made refl refl;
        count = number_is _ (first 3) 6 2 1 made refl (omega arith);
        uuid = octets_are _ (first 4) 8 16 request.ar.uuid made refl uuid_long;
        type_is = number_is _ (first 5) 24 2 1 made t (omega arith);
        properties = number_is _ (first 6) 26 4 request.ar.properties made (omega (arith, t)) is.properties;
        object = octets_are _ (first 7) 30 16 request.ar.object made (omega (arith, t)) o;
        name_length = number_is _ (first 8) 46 2 (length name) made (omega (arith, t, o)) (omega (arith, few));
        name = octets_are _ (first 9) 48 (length name) name made before_name refl;
        relations = subst (λ (xs : List ℕ). AreRelations xs request route sent taken endpoint) (sym relations_there) relations_are;
      }

-- ---- the fields of the last frames fit

status_fits : (is_running has_problem : Bool) → data_status_of (record { is_running = is_running; has_problem = has_problem }) < 256
status_fits true true = omega arith
status_fits true false = omega arith
status_fits false true = omega arith
status_fits false false = omega arith

counter_fits : (counter : ℕ) (state : StationState) → counter < 65536 → IsTail (sent_tail (Some counter) state)
counter_fits counter state fits = record { counter = fits; data_status = status_fits state.is_running state.has_problem; transfer_status = omega arith }

last_fits : (began units interval : ℕ) (state : StationState) → IsTail (sent_tail (last_sent began units interval) state)
last_fits began units interval state = by_test (nat_lt (units - began) interval)
  where
    by_test : (b : Bool) → IsTail (sent_tail (if b then None else Some ((units - (units - began) % interval) % 65536)) state)
    by_test true = record { counter = omega arith; data_status = omega arith; transfer_status = omega arith }
    by_test false = counter_fits ((units - (units - began) % interval) % 65536) state (omega arith)

pub relation_is : (units : ℕ) (request : Request) (cyclic : Cyclic) (began : ℕ) (state : StationState) (endpoint : ℕ) → IsRequest request
    → AreNumbers cyclic.route endpoint → IsTail (taken_tail cyclic)
    → IsArData (ar_data units (Some (request, cyclic, began, state, endpoint))) request cyclic.route
    (sent_tail (last_sent began units (request.input.send_clock_factor * request.input.reduction_ratio)) state) (taken_tail cyclic) endpoint
unfolding ar_data
relation_is units request cyclic began state endpoint is are taken =
    ar_is request cyclic.route (sent_tail (last_sent began units (request.input.send_clock_factor * request.input.reduction_ratio)) state)
    (taken_tail cyclic) endpoint is are
    (last_fits began units (request.input.send_clock_factor * request.input.reduction_ratio) state) taken

pub no_relation_is : (units : ℕ) → IsEmptyArData (ar_data units None)
unfolding ar_data
no_relation_is units = record { kind = refl; size = refl; version = refl; count = refl }
