-- The frames of a controller in any state, as a device hears them.
use Rattle.std.specs.Prelude.{◌≡◌, ℕ, true, List, slice_get, Some}
use Rattle.std.specs.List.{AllByRecursion}
use Rattle.plans.specs.declared.parts.PlanRecord.{PlanRecord}
use Rattle.controller_messages.specs.declared.plug_request.PlugRequest.{PlugRequest}
use Rattle.controller_messages.specs.declared.plug_request.PlugStep.TheVariants.{Record}
use Rattle.controller_messages.specs.declared.request.Request.TheVariants as asks
use Rattle.controller_messages.specs.declared.setup.Setup.{Setup}
use Rattle.controller_messages.specs.Sent.{Sent, Requests, Accesses, Parametrizes, Agrees, Cycles, Confirms, Replies, Ends, bytes_of as controller_bytes}
use Rattle.end_laws.specs.hearing.Stations.{IsRoute}
use Rattle.end_laws.specs.sending.Messages.{CanBeSent}

-- A request after a plug: the plan writes parameters then, and a record that is written is one of the plan, at its own place.
pub record IsOfPlug (setup : Setup) (request : PlugRequest) : Type 0 where
  pub keyed : setup.plan.parameters_after_plug ≡ true
  pub placed : (number : ℕ) (entry : PlanRecord) → request.step ≡ Record number → slice_get setup.plan.records.items number ≡ Some entry
      → (request.slot ≡ entry.slot) × (request.subslot ≡ entry.subslot)

-- The message is heard as what it is: its FrameID is one of cyclic data. No request of an application is among them.
abbrev pub HasWay : Setup → Sent → Type 0
HasWay setup (Requests device request) = Unit {0}
HasWay setup (Accesses device request octets) = ⊥
HasWay setup (Parametrizes device request) = IsOfPlug setup request
HasWay setup (Agrees caller answer) = Unit {0}
HasWay setup (Cycles route shown counter) = IsRoute route
HasWay setup (Confirms route priority header ack) = IsRoute route
HasWay setup (Replies route priority header) = IsRoute route
HasWay setup (Ends route header reason) = IsRoute route

-- A frame of a controller, of such a kind.
pub record IsOwn (setup : Setup) (kind : Sent → Type 0) (octets : List ℕ) : Type 0 where
  pub message : Sent
  pub frame : octets ≡ controller_bytes setup message
  pub sendable : CanBeSent setup message
  pub way : HasWay setup message
  pub is : kind message

-- Each of the frames is one.
abbrev pub AreOwn : Setup → (Sent → Type 0) → List (List ℕ) → Type 0
AreOwn setup kind frames = AllByRecursion (IsOwn setup kind) frames

-- Any message.
abbrev pub IsAnything : Sent → Type 0
IsAnything message = Unit {0}

-- A Release.
abbrev pub IsRelease : Sent → Type 0
IsRelease (Requests device (asks.Release sequence)) = Unit {0}
IsRelease message = ⊥
