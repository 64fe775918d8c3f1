-- The turn of a place that begins after an event or with a unit: what it changes, and what is then sent.
use Rattle.std.specs.Prelude.{◌≡◌, ◌⊎◌, ◌++◌, ◌∷◌, [], true, ℕ, Some, None}
use Rattle.plan_places.specs.declared.report.Plug.{Plug}
use Rattle.plan_places.specs.Places.{next_waiting, with_state}
use Rattle.controller_messages.specs.declared.plug_request.PlugRequest.{PlugRequest}
use Rattle.controller_messages.specs.declared.setup.Setup.{Setup}
use Rattle.controller_messages.specs.Access.{call_number, plugged}
use Rattle.controller_messages.specs.Sent.{Parametrizes}
use Rattle.controller_core.specs.declared.stored.state.State.TheVariants.{Exchanging}
use Rattle.controller_core.specs.stored.State.{Live}
use Rattle.controller_core.specs.Machine.{Turn, exchange_later, is_again, later, state_of_step, step_from, turn_due}

-- These alone may differ: the timer of the request, the places, and the requests beside the exchange.
abbrev pub IsBeside : Live → Live → Type 0
IsBeside before after = after ≡ record before { waited = after.waited; places = after.places; access = after.access }

-- What is asked first of a place, with this sequence number.
abbrev pub first_asked : Setup → ℕ → Plug → PlugRequest
first_asked setup sequence plug = record {
  sequence = sequence;
  slot = plug.slot;
  subslot = plug.subslot;
  number = plug.number;
  step = step_from setup.plan plug.slot plug.subslot 0;
}

-- The turn of a place begins: data is exchanged, no request waits, and the first request of the next place that waits is made, with
-- the next sequence number.
pub record IsBegun (setup : Setup) (before after : Live) : Type 0 where
  pub stands : before.stands ≡ true
  pub phase : before.phase ≡ Exchanging
  pub waiting : before.access.waiting ≡ None
  pub plug : before.access.plug ≡ None
  pub next : Plug
  pub is_next : next_waiting before.places ≡ Some next
  pub request : PlugRequest
  pub request_is : request ≡ first_asked setup (call_number setup.plan before.access.calls) next
  pub numbered : request.sequence ≡ call_number setup.plan before.access.calls
  pub beside : IsBeside before after
  pub waited : after.waited ≡ 0
  pub access : after.access ≡ plugged request before.access
  pub places : after.places ≡ with_state next.slot next.subslot (state_of_step request.step next.number) before.places

-- With a unit nothing begins, or a turn does.
abbrev pub MayBegin : Setup → Live → Live → Type 0
MayBegin setup before after = (after ≡ before) ⊎ IsBegun setup before after

-- A turn begins after an event: its request is sent after the messages of the event.
pub record IsFollowed (setup : Setup) (turn after : Turn) : Type 0 where
  pub begun : IsBegun setup turn.live after.live
  pub sent : after.sent ≡ turn.sent ++ Parametrizes turn.live.device begun.request ∷ []

-- Nothing follows an event, or a turn begins.
abbrev pub MayFollow : Setup → Turn → Turn → Type 0
MayFollow setup turn after = (after ≡ turn) ⊎ IsFollowed setup turn after

-- The exchange of the relation a unit later, and the turn that begins with the unit in which a request is due.
abbrev pub flow_begun : Setup → Live → Live
flow_begun setup live = exchange_later (turn_due setup (is_again live) (later live))
