-- Units of time that are counted for services, which learn of them later.
use Rattle.std.specs.Prelude.{◌≡◌, ◌-◌, ◌<◌, ◌≤◌, ◌⊎◌, ⊤, ℕ, min, true, false, List, [], Option, Some, None}
use Rattle.std.specs.Option.{option_map}
use Rattle.settings_journal.specs.settings_store.State.{Values}
use Rattle.services.specs.Leaps.{never}
use Rattle.pn_values.specs.declared.identity.Identity.{Identity}
use Rattle.device_station.specs.Leaps.{NoNewsBeside, NoneSendsBeside, beside_ticks, tick_beside}
use Rattle.device_station.specs.Serving.{Serving, due_in, knows, serving_ticks}

-- Services that have nothing to see or to tell beside a device with these settings: it has power, they know its running settings,
-- and it knows its neighbour. The unit of this number is the next one with which something is due of them.
pub record Calm (limit : ℕ) (values : Values) (state : Serving) : Type 0 where
  pub power : values.is_lost ≡ false
  pub seen : knows state values.running ≡ true
  pub told : state.has_news ≡ false
  pub due : limit ≡ due_in state
  pub few : limit < never

-- The services, if there are any, have nothing due in this many units.
abbrev pub AreCalm : ℕ → Values → Option Serving → Type 0
AreCalm limit values None = ⊤
AreCalm limit values (Some state) = Calm limit values state

-- The services do not know of the last units, this limit less the rest: no frame of theirs remains, and what is due of them next is
-- due at the limit. So it is due after the rest.
pub record Resting (rest limit : ℕ) (values : Values) (services : Option Serving) (frames : List (List ℕ)) : Type 0 where
  pub some : 0 < rest
  pub inside : rest ≤ limit
  pub fetched : frames ≡ []
  pub calm : AreCalm limit values services

-- Either the services know of all units, or this.
abbrev pub IsPaced : ℕ → ℕ → Values → Option Serving → List (List ℕ) → Type 0
IsPaced rest limit values services frames = ((rest ≡ 0) × (limit ≡ 0)) ⊎ Resting rest limit values services frames

-- What is due of both, if this is due of the device, and the services, if there are any, rest for this many units.
abbrev pub soonest : ℕ → ℕ → Option Serving → ℕ
soonest due rest None = due
soonest due rest (Some state) = min due rest

-- Fewer units than are due of the services, if there are any.
abbrev pub IsBehind : ℕ → Option Serving → Type 0
IsBehind behind None = ⊤
IsBehind behind (Some state) = (behind ≡ 0) ⊎ (behind < due_in state)

-- The services once they learn of units with which nothing is due of them.
abbrev pub caught_up : ℕ → Option Serving → Option Serving
caught_up behind services = option_map (serving_ticks behind) services

-- The device knows its neighbour.
abbrev pub HasNoNews : Option Serving → Type 0
HasNoNews None = ⊤
HasNoNews (Some state) = state.has_news ≡ false

-- What services do beside this many units of time of a device with these settings: only the last may send or change the neighbour.
pub record TicksBeside (units : ℕ) (identity : Identity) (values : Values) (old new : Serving) (sent : List (List ℕ)) : Type 0 where
  pub is : new ≡ beside_ticks identity values units old
  pub none : NoneSendsBeside (units - 1) identity values old
  pub quiet : NoNewsBeside units identity values old
  pub frames : sent ≡ (tick_beside identity values (beside_ticks identity values (units - 1) old)).sent

-- What services, if there are any, do beside this many units of time of a device with these settings.
abbrev pub TicksBesideAny : ℕ → Identity → Values → Option Serving → Option Serving → List (List ℕ) → Type 0
TicksBesideAny units identity values None new sent = (new ≡ None) × (sent ≡ [])
TicksBesideAny units identity values (Some state) new sent = (after : Serving) × TicksBeside units identity values state after sent × (new ≡ Some after)
