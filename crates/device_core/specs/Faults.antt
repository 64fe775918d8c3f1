-- What a flash fault changes of steps, and what goes on.
use Rattle.std.specs.Prelude.{◌≡◌, ℕ, Bool, true, false, List, [], ◌∷◌, ◌++◌, map}
use Rattle.pn_values.specs.declared.set_item.SetItem.{SetItem}
use Rattle.pn_values.specs.declared.set_item.SetItem.TheVariants.{Ask, Signal, Answer}
use Rattle.pn_values.specs.declared.set_item.BlockError.{BlockError}
use Rattle.settings_journal.specs.settings_store.Faults.{GoesOn}
use Rattle.device_frames.specs.declared.event.Event.{Event}
use Rattle.device_frames.specs.declared.note.Note.{Note}
use Rattle.device_core.specs.State.{Station, State, Live}
use Rattle.device_frames.specs.Sent.{bytes_of}
use Rattle.device_frames.specs.Heard.{Heard, heard_of}
use Rattle.device_core.specs.Handled.{handled}
use Rattle.device_core.specs.Machine.{Stepped, items_of, finished, heard_step}

-- Whether items ask for nothing to be stored.
abbrev pub asks_nothing : List SetItem → Bool
asks_nothing [] = true
asks_nothing (Ask command ∷ items) = false
asks_nothing (Signal ∷ items) = asks_nothing items
asks_nothing (Answer answer ∷ items) = asks_nothing items

-- An event has the outcome that it has in this step, except for the settings.
pub record IsAsIn (step : Stepped) (sent : List (List ℕ)) (said : Note) (next : Live) : Type 0 where
  pub rest : next.rest ≡ step.live.rest
  pub frames : sent ≡ step.frames
  pub note : said ≡ step.note

-- The outcome of an event, for any behaviour of the flash. Its commands before the first in which a flash call failed
-- are carried out as if none failed. That one and each later one, until the next start, is answered with a local fault
-- and changes neither the running nor the stored settings. Everything else is the outcome of the event with these
-- answers. An event that asks for nothing to be stored has exactly the outcome that it has, if no flash call fails, at
-- any device with the same running settings and the same rest: a failed commit shows in nothing else.
pub record StepGoesOn (station : Station) (live : Live) (heard : Heard) (sent : List (List ℕ)) (said : Note) (next : Live) : Type 0 where
  pub answers : List BlockError
  pub settings : GoesOn live.values (items_of station live heard) answers next.values
  pub rest : next.rest ≡ (finished station.identity live.rest (handled station live heard) answers).rest
  pub frames : sent ≡ map (bytes_of station.identity) (finished station.identity live.rest (handled station live heard) answers).sent
  pub note : said ≡ (finished station.identity live.rest (handled station live heard) answers).note
  pub as_ever : asks_nothing (items_of station live heard) ≡ true → (other : Live) → other.values.running ≡ live.values.running → other.rest ≡ live.rest
      → IsAsIn (heard_step [] station other heard) sent said next

-- The events one by one, each in the state that the one before it left, and the frames that they sent: for any
-- behaviour of the flash, each goes on.
abbrev pub EachGoesOn : Station → Live → List Event → List (List ℕ) → Live → Type 0
EachGoesOn station live [] frames last = (frames ≡ []) × (last ≡ live)
EachGoesOn station live (event ∷ events) frames last =
    (next : Live) × (sent : List (List ℕ)) × (said : Note) × (more : List (List ℕ))
    × StepGoesOn station live (heard_of station.identity event) sent said next × (frames ≡ sent ++ more) × EachGoesOn station next events more last

-- A run goes on, for any flash faults: all frames of all events are handed on.
pub record RunGoesOn {F : Type 0} (old : State F) (events : List Event) (before now : List (List ℕ)) (new : State F) : Type 0 where
  pub frames : List (List ℕ)
  pub handed_on : now ≡ before ++ frames
  pub each : EachGoesOn old.station old.live events frames new.live
