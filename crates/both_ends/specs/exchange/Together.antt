-- What holds of a world that was begun and played: its start-up, its outputs, its alarms and its reported diagnosis, over one run
-- of its moves, and that the next controller can begin at its device.
use Rattle.std.specs.Prelude.{◌≡◌, ◌≤◌, ◌<◌, ◌+◌, ℕ, true, false, List, [], length, take, Some, None}
use Rattle.flash_model.specs.declared.flash.Flash.{Ghosts as Flash}
use Rattle.asked_records.specs.Asked.{question_in}
use Rattle.rpc_core.specs.Cache.{kept_of}
use Rattle.both_ends.specs.startup.request.Request.{request_for}
use Rattle.relations.specs.Exchanged.{output_in}
use Rattle.relations.specs.RelationState.{RelationState, is_exchanging}
use Rattle.relations.specs.declared.phase.Phase.TheVariants.{Exchanging as in_exchange}
use Rattle.device_core.specs.State.{State}
use Rattle.controller_messages.specs.declared.setup.Setup.{Setup}
use Rattle.controller_core.specs.declared.stored.state.State.TheVariants.{Exchanging}
use Rattle.diagnosis.specs.declared.reports.priority.Priority.TheVariants.{High, Low}
use Rattle.end_laws.specs.turns.Alarms.{last_of}
use Rattle.diagnosis.specs.World.{IsPrefixOf}
use Rattle.network_world.specs.declared.moves.Move.{Move}
use Rattle.network_world.specs.World.{AreMade, last_world, World}
use Rattle.end_laws.specs.both.StartUp.{WasExchanging, WasHanded}
use Rattle.both_ends.specs.startup.Played.{Begins, moves_of, viewed}
use Rattle.both_ends.specs.startup.View.{rules_of, view_of}
use Rattle.both_ends.specs.exchange.Given.{AreOfOneFrame, zero_for}
use Rattle.both_ends.specs.exchange.Shown.{has_accepted}
use Rattle.both_ends.specs.exchange.Sized.{NoneIsAtZero}
use Rattle.both_ends.specs.exchange.Over.{IsOneOfTheLastTwo, raised_over, reported_over, taken_over}
use Rattle.both_ends.specs.exchange.Told.{AreKnown, IsTold, known_at}

-- A world that was begun with this set-up and this device, and in which these moves were made, one after the other.
pub record IsBegunAndPlayed {F : Type 0} {S : ℕ} (as_flash : Flash F S) (setup : Setup) (device : State F) (moves : List Move) (last : World F) : Type 0 where
  pub first : World F
  pub begins : Begins setup device.station.identity first
  pub of_device : first.device ≡ device
  pub run : List (Move × World F)
  pub are : moves_of run ≡ moves
  pub made : AreMade as_flash first run
  pub ends : last_world first run ≡ last
  -- If the controller exchanges data, it received an ApplicationReady that the device had sent before, with one of its
  -- own moves. When the device sent it, it had accepted the plan's Connect and, unless the plan goes on after a refused
  -- record, the plan's records in order, each once.
  pub handed : last.controller.live.phase ≡ Exchanging → WasHanded (rules_of first.controller.setup first.device.station) (view_of first) (viewed run)
  -- If the device exchanges data, its controller did so before.
  pub exchanging : (link : RelationState) → last.device.live.rest.link ≡ Some link → link.phase ≡ in_exchange → WasExchanging (viewed run)
  -- A relation of the device is the plan's.
  pub relation : (link : RelationState) → last.device.live.rest.link ≡ Some link → link.request ≡ request_for setup.plan setup.ar
  -- All outputs that the device shows are zeros as long as it accepted no cyclic frame in its relation, then they come
  -- from one frame of the controller, or are zeros of a touched place.
  pub zeros : (link : RelationState) → last.device.live.rest.link ≡ Some link → has_accepted link ≡ false
      → (slot subslot : ℕ) → output_in slot subslot (Some link) ≡ zero_for setup slot subslot
  pub values : (link : RelationState) → last.device.live.rest.link ≡ Some link → has_accepted link ≡ true → AreOfOneFrame setup device.station.identity first run link
  -- If at most 32,768 alarms are raised, those that the controller accepted are a prefix of those that the device
  -- raised, and lack at most the last.
  pub front : length (raised_over first run) ≤ 32768 → IsPrefixOf (taken_over High first run) (raised_over first run)
  pub lacks : length (raised_over first run) ≤ 32768 → length (raised_over first run) ≤ length (taken_over High first run) + 1
  -- The controller shows the last alarm that it accepted. If at most 32,768 alarms are raised, it is the last one
  -- raised or the one before it.
  pub shown : last.controller.live.alarm ≡ last_of (taken_over High first run)
  pub alarm : length (raised_over first run) ≤ 32768 → IsOneOfTheLastTwo (raised_over first run) last.controller.live.alarm
  -- If at most 32,768 changes of diagnosis, pulls and plugs are reported, those that the controller accepted are a prefix of those
  -- that the device reported, and lack at most the last.
  pub reports : length (reported_over first run) ≤ 32768 → IsPrefixOf (taken_over Low first run) (reported_over first run)
  pub reported_last : length (reported_over first run) ≤ 32768 → length (reported_over first run) ≤ length (taken_over Low first run) + 1
  -- While the device exchanges data, the changes that it reported, and then those that wait, lead from no diagnosis to
  -- those that exist at the submodules of the relation.
  pub told : AreKnown device.live.rest.diagnoses → (link : RelationState) → last.device.live.rest.link ≡ Some link → is_exchanging link.phase ≡ true
      → IsTold link.flow.low last.device.live.rest.diagnoses (reported_over first run)
  -- If nothing was plugged in a subslot 0 at the start, at most 32,768 changes are reported, no alarm of a change is unconfirmed and
  -- none waits, then a controller whose relation is established has in its list what exists at the submodules of the relation.
  pub list : AreKnown device.live.rest.diagnoses → NoneIsAtZero device.live.rest.real.modules.items → length (reported_over first run) ≤ 32768
      → (link : RelationState) → last.device.live.rest.link ≡ Some link → is_exchanging link.phase ≡ true → link.flow.low.alarms.sender.standing ≡ None
      → link.flow.low.waiting ≡ [] → last.controller.live.stands ≡ true
      → last.controller.live.diagnosis ≡ known_at link.flow.low last.device.live.rest.diagnoses
  -- If the device has no relation, nothing is asked of its application.
  pub unasked : last.device.live.rest.link ≡ None → question_in last.device.live.rest.asked ≡ None
  -- The device is the same, and has stored no answer to a call of another activity that it had not stored before. So when it has no
  -- relation, a controller can begin whose calls have such an activity and whose plan has no record that the application answers;
  -- `told` and `list` hold of its relation if they hold of this one.
  pub station : last.device.station ≡ device.station
  pub others : (activity : List ℕ) → (setup.activity ≡ activity → ⊥) → kept_of activity device.live.rest.calls ≡ None
      → kept_of activity last.device.live.rest.calls ≡ None
  pub known : AreKnown device.live.rest.diagnoses → AreKnown last.device.live.rest.diagnoses
  pub plugged : AreKnown device.live.rest.diagnoses → NoneIsAtZero device.live.rest.real.modules.items → NoneIsAtZero last.device.live.rest.real.modules.items

-- If memory ran out, all of this holds of the moves before the one for which it did.
pub record IsBegunAndCut {F : Type 0} {S : ℕ} (as_flash : Flash F S) (setup : Setup) (device : State F) (moves : List Move) (last : World F) : Type 0 where
  pub count : ℕ
  pub before : count < length moves
  pub played : IsBegunAndPlayed as_flash setup device (take count moves) last
