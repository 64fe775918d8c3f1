-- What either end of a relation has of cyclic data, said of octets.
use Rattle.std.specs.Prelude.{◌+◌, ◌-◌, ℕ, List, map, Option, Some}
use Rattle.std.specs.List.{AllByRecursion}
use Rattle.cyclic_data.specs.declared.place.Place.{Place}
use Rattle.cyclic_data.specs.Image.{Cell, Shown}
use Rattle.cyclic_data.specs.exchange.Cyclic.{Cyclic}
use Rattle.field_words.specs.Cyclic.{Consumer, IsCyclic, IsProvided, Provider, counter_in, data_in, status_in}
use Rattle.field_words.specs.Octets.{octet_at, part_at}

-- What an end with this MAC address knows of the frames that it accepts.
abbrev pub consumer_of : List ℕ → Cyclic → Consumer
consumer_of own cyclic = record {
  own = own;
  partner = cyclic.route.partner.octets;
  frame_id = cyclic.route.taken_id;
  size = cyclic.taken.data_length;
  last = cyclic.hearing.last;
}

-- What the data of a frame has at a place: the value, and after it the status.
abbrev pub cell_at : List ℕ → Place → Cell
cell_at octets place = record {
  place = place;
  value = part_at place.offset (place.size - 1) octets;
  status = octet_at (place.offset + (place.size - 1)) octets;
}

-- An end after it accepted a frame: each place has what the frame has there, DataStatus and the counter are those of the frame, and the data hold
-- time begins again. All else is as before.
abbrev pub accepted_by : List ℕ → Cyclic → Cyclic
accepted_by frame cyclic =
    let size = cyclic.taken.data_length in
    record cyclic {
      taken = record { data_length = size; cells = map (λ cell. cell_at (data_in size frame) cell.place) cyclic.taken.cells };
      data_status = status_in size frame;
      hearing = record { last = Some (counter_in size frame); held = 0; limit = cyclic.hearing.limit };
    }

-- What an end has of the frames that it accepted: the data and the status at each place, DataStatus, and the CycleCounter of the last one.
pub record Got : Type 0 where
  pub taken : Shown
  pub data_status : ℕ
  pub last : Option ℕ

-- What this end has of them.
abbrev pub got_at : Cyclic → Got
got_at cyclic = record { taken = cyclic.taken; data_status = cyclic.data_status; last = cyclic.hearing.last }

-- Each of these frames that is a cyclic frame is one of this provider, at this CycleCounter.
abbrev pub AreProvided : Provider → ℕ → List (List ℕ) → Type 0
AreProvided provider cycle sent = AllByRecursion (λ frame. IsCyclic frame → IsProvided provider cycle frame) sent
