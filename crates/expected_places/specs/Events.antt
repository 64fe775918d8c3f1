-- What happens to the places of a relation, one event after another, and when a place is released.
use Rattle.std.specs.Prelude.{◌≡◌, ℕ, Bool, true, false, Some}
use Rattle.wire.specs.blocks.modules.Lists.{Listed}
use Rattle.connect_blocks.specs.declared.module_diff.DiffModule.{DiffModule}
use Rattle.connect_blocks.specs.declared.module_diff.DiffSubmodule.{DiffSubmodule}
use Rattle.module_diff.specs.declared.changes.Affected.{Affected}
use Rattle.expected_places.specs.declared.calls.PlugCall.{PlugCall}
use Rattle.expected_places.specs.declared.place.Step.TheVariants.{Pulled, Plugged}
use Rattle.expected_places.specs.Calls.{counted}
use Rattle.expected_places.specs.Machine.{PlugState, answered, ended, is_touched_at, next_called, readied, restated, told, touched}

-- The modules changed, and these rows list what differs. Something was pulled, or the expected submodule plugged. The alarm of a plug
-- was sent. The controller ended the parameters of a plug. The application is ready. The next call is sent. The active one was
-- answered. A unit of time passed.
pub data PlugEvent : Type 0 where
  Restates : Listed DiffModule DiffSubmodule → PlugEvent
  Pulls : Affected → PlugEvent
  Plugs : Affected → PlugEvent
  Tells : ℕ → ℕ → ℕ → Bool → PlugEvent
  Ends : ℕ → Bool → PlugEvent
  Readies : ℕ → ℕ → PlugEvent
  CallsNext : PlugEvent
  Answers : Bool → PlugEvent
  Passes : PlugEvent

-- What an event makes of the places and calls.
abbrev pub after_event : PlugEvent → PlugState → PlugState
after_event (Restates rows) state = restated rows state
after_event (Pulls affected) state = touched affected Pulled state
after_event (Plugs affected) state = touched affected Plugged state
after_event (Tells slot subslot number is_last) state = told slot subslot number is_last state
after_event (Ends number is_ready) state = ended number is_ready state
after_event (Readies slot subslot) state = readied slot subslot state
after_event CallsNext state = next_called state
after_event (Answers is_positive) state = answered is_positive state
after_event Passes state = record state { calls = counted state.calls }

-- The place in a slot and subslot was touched, and is not touched any more.
pub record IsReleased (slot subslot : ℕ) (before after : PlugState) : Type 0 where
  pub was : is_touched_at slot subslot before ≡ true
  pub is : is_touched_at slot subslot after ≡ false

-- The event is the positive answer to the active call, and that is for this slot and subslot.
pub record Confirms (slot subslot : ℕ) (event : PlugEvent) (state : PlugState) : Type 0 where
  pub call : PlugCall
  pub active : state.calls.standing ≡ Some call
  pub slot_is : call.slot ≡ slot
  pub subslot_is : call.subslot ≡ subslot
  pub positive : event ≡ Answers true
