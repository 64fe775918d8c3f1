-- A device as a station that is asked.
use Rattle.std.specs.Prelude.{true, ◌≡◌, ◌⊎◌, ◌<◌, ◌++◌, ◌+◌, ℕ, List, [], ◌∷◌, length, get_or, Option}
use Rattle.std.specs.Int.{w16, to_be_bytes}
use Rattle.pn_values.specs.declared.identity.Identity.{Identity}
use Rattle.pn_values.specs.declared.mac.Mac.{Mac}
use Rattle.pn_values.specs.declared.settings.Settings.{Settings}
use Rattle.device_frames.specs.declared.event.Event.{Event}
use Rattle.device_frames.specs.declared.event.Event.TheVariants.{Frame}
use Rattle.device_core.specs.State.{Live, Station as Fixed, alias_in}
use Rattle.field_words.specs.Octets.{type_place, word_at}
use Rattle.octets_law.specs.Octets.{in_order}
use Rattle.octets_law.specs.Owed.{IsFor, is_whole_call}
use Rattle.answers_law.specs.Requests.{Block, Station}
use Rattle.answers_law.specs.Answers.{set_answer}

-- What a device has with this identity and these running settings, and with this name by its place.
abbrev pub station_of : Identity → Settings → Option (List ℕ) → Station
station_of identity running alias = record {
  mac = identity.mac.octets;
  address = running.suite.address;
  mask = running.suite.mask;
  gateway = running.suite.gateway;
  kind = identity.station_type.items;
  name = running.name;
  device = to_be_bytes w16 identity.vendor_id ++ to_be_bytes w16 identity.device_id;
  alias = alias;
  instance = to_be_bytes w16 identity.instance;
}

-- What a device has now.
abbrev pub station_at : Fixed → Live → Station
station_at station live = station_of station.identity live.values.running (alias_in live.rest.peer)

-- The octets of a frame are below 256.
abbrev pub AreOctets : Event → Type 0
AreOctets (Frame frame) = (k : ℕ) → get_or frame.items k 0 < 256
AreOctets event = Unit {0}

-- What is sent at a Set: one answer, which has a BlockError for each block. Before it the ERR of a relation that the Set ends, an alarm frame of low
-- priority (FrameID 0xFE01), or nothing.
pub record AnswersSet (has : Station) (blocks : List Block) (frame : List ℕ) (sent : List (List ℕ)) : Type 0 where
  pub errors : List ℕ
  pub each : length errors ≡ length blocks
  pub ended : List (List ℕ)
  pub at_most_one : (ended ≡ []) ⊎ ((farewell : List ℕ) × (ended ≡ farewell ∷ []) × (word_at (type_place farewell + 2) farewell ≡ 0xFE01))
  pub is : sent ≡ ended ++ set_answer has blocks errors frame ∷ []

-- An event has a whole Read Implicit (operation 5) for the MAC address and the running address of a device.
pub record IsReadImplicit (mac : Mac) (address : List ℕ) (event : Event) (call : List ℕ) : Type 0 where
  pub for : IsFor mac address event call
  pub whole : is_whole_call call ≡ true
  pub operation : in_order 68 2 call ≡ 5
