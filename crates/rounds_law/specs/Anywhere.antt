-- Both ends in any state, with any of their frames under way: what losses, repeats, power failures and restarts can leave.
use Rattle.std.specs.Prelude.{◌≡◌, ◌≢◌, ◌⊎◌, ◌≤◌, ◌<◌, ◌+◌, ◌*◌, ◌==◌, ℕ, zero, suc, true, false, if◌then◌else◌, List, ◌∷◌, Option, Some, None}
use Rattle.std.specs.List.{AllByRecursion}
use Rattle.flash_model.specs.declared.flash.Flash.{Ghosts as Flash}
use Rattle.pn_values.specs.declared.identity.Identity.{Identity}
use Rattle.pn_values.specs.declared.settings.Settings.{Settings}
use Rattle.settings_journal.specs.Image.{StartsWith}
use Rattle.frame_codec.specs.FrameId.{is_cyclic}
use Rattle.rpc_core.specs.Cache.{Kept, kept_of}
use Rattle.rpc_core.specs.Response.{is_done}
use Rattle.rpc_core.specs.Sendable.{IsHeader, IsUuid}
use Rattle.asked_records.specs.Asked.{Standing}
use Rattle.asked_records.specs.Questions.{is_of_relation}
use Rattle.plans.specs.declared.parts.Parts.{Parts}
use Rattle.relations.specs.RelationState.{RelationState, uuid_of}
use Rattle.relations.specs.Diagnosed.{has_sent_low}
use Rattle.relations.specs.Timers.{is_timed, limit_of}
use Rattle.relations.specs.declared.phase.Phase.TheVariants.{Exchanging as in_exchange}
use Rattle.device_core.specs.State.{Live, Station}
use Rattle.controller_messages.specs.declared.request.Request.TheVariants as asks
use Rattle.controller_messages.specs.declared.setup.ControllerOptions.{ControllerOptions}
use Rattle.controller_messages.specs.declared.setup.Setup.{Setup}
use Rattle.controller_messages.specs.Heard.{Heard, Nothing, Answers, Responds, Refuses, Calls, Cyclic, Alarms, heard_of}
use Rattle.connects.specs.answers.Connect.{Chosen}
use Rattle.controller_core.specs.start_up.Answers.{is_answer}
use Rattle.controller_core.specs.declared.stored.state.State.TheVariants.{Exchanging}
use Rattle.controller_core.specs.stored.State.{Controlling}
use Rattle.network_world.specs.World.{is_ended}
use Rattle.end_laws.specs.device.Orderly.{AreNumbered}
use Rattle.end_laws.specs.hearing.Stations.{IsCaller}
use Rattle.end_laws.specs.turns.Runs.{IsReached}
use Rattle.end_laws.specs.turns.Turns.{chosen_in}
use Rattle.rounds_law.specs.AnywhereFrames.{AreOwn, IsAnything, IsRelease}
use Rattle.rounds_law.specs.Path.{IsAddressed, IsIgnored, IsNamed, IsSized, hold_of}
use Rattle.rounds_law.specs.Rounds.{BothExchange, Net}
use Rattle.rounds_law.specs.Start.{CanBeAddressed, IsOfPlan, start_up_limit}
use Rattle.rounds_law.specs.Again.{Plant, PlantRound, units_left}

-- ---- the device

-- Before data is exchanged no alarm of low priority was sent, and so no plug was reported.
abbrev pub IsUntold : RelationState → Type 0
IsUntold link = is_timed link.phase ≡ true → (has_sent_low (Some link) ≡ false) × (link.plugs.has_told ≡ false)

-- A relation of anybody: its data hold time runs while data is exchanged, and neither that nor its activity time has more units than these. So
-- it ends after at most that many if its controller is silent. Its identifiers and the numbers of its calls for plugs have their sizes, and its
-- inputs have a FrameID of cyclic data. If the plan of this set-up writes parameters after a plug, no plug was reported before data is exchanged.
pub record Lasts (setup : Setup) (silence : ℕ) (link : RelationState) : Type 0 where
  pub runs : is_timed link.phase ≡ false → link.flow.cyclic.begun ≡ true
  pub active : limit_of link ≤ silence
  pub holds : link.flow.cyclic.hearing.limit ≤ silence
  pub named : IsUuid link.request.ar.uuid
  pub object : IsUuid link.request.ar.object
  pub called : AreNumbered link.plugs.calls
  pub inputs : is_cyclic link.flow.cyclic.route.sent_id ≡ true
  pub untold : setup.plan.parameters_after_plug ≡ true → IsUntold link

-- The relation of the device, if it has one, lasts at most this long without its controller.
abbrev pub AllLast : Setup → ℕ → Option RelationState → Type 0
AllLast setup silence None = Unit {0}
AllLast setup silence (Some link) = Lasts setup silence link

-- The outputs of a controller with an established relation have a FrameID of cyclic data, and the alarm endpoint of the device has two octets.
abbrev pub HasRoute : Controlling → Type 0
HasRoute controller =
    controller.live.stands ≡ true → (is_cyclic controller.live.cyclic.route.sent_id ≡ true) × (controller.live.cyclic.route.reference < 65536)

-- What a controller of this set-up hears: a positive answer to its Connect chooses such a FrameID and such an endpoint, if it chooses any, and a
-- call has its sizes.
abbrev pub IsFit : Setup → Heard → Type 0
IsFit setup (Responds response) = is_answer setup asks.Connect response.header ≡ true → is_done response.status ≡ true
    → (chosen : Chosen) → chosen_in response.blocks ≡ Some chosen → (is_cyclic chosen.frame_id ≡ true) × (chosen.reference < 65536)
IsFit setup (Calls caller call) = IsCaller caller × IsHeader call.header × (call.args_maximum < 4294967296)
IsFit setup heard = Unit {0}

-- A frame in which it hears this.
abbrev pub ChoosesWell : Setup → List ℕ → Type 0
ChoosesWell setup octets = IsFit setup (heard_of setup.plan.controller octets)

-- What is asked of the application, if anything is, was asked in the relation with this ARUUID. The call is not of the next start, and not the
-- Connect of this one.
abbrev pub IsQuestionOf : Setup → Setup → Option (List ℕ) → Option Standing → Type 0
IsQuestionOf setup next uuid None = Unit {0}
IsQuestionOf setup next None (Some standing) = ⊥
IsQuestionOf setup next (Some uuid) (Some standing) =
    (is_of_relation uuid standing.question.request ≡ true)
    × (standing.question.header.activity ≡ next.activity → ⊥)
    × (standing.question.header.activity ≡ setup.activity → (standing.question.header.sequence == 0) ≡ false)

-- The stored answers to one controller choose so, as all answers of a device do.
abbrev pub StoresWell : Setup → Live → Type 0
StoresWell setup live = (kept : Kept) → kept_of setup.activity live.rest.calls ≡ Some kept → ChoosesWell setup kept.frame

-- No frame of cyclic data.
abbrev pub IsNoData : Heard → Type 0
IsNoData Nothing = Unit {0}
IsNoData (Answers source answer) = Unit {0}
IsNoData (Responds response) = Unit {0}
IsNoData (Refuses refusal) = Unit {0}
IsNoData (Calls caller call) = Unit {0}
IsNoData (Cyclic source frame_id body) = ⊥
IsNoData (Alarms source under header notice) = Unit {0}

-- The stored answers to one controller are no frames of cyclic data.
abbrev pub StoresAnswers : Setup → Live → Type 0
StoresAnswers setup live =
    (kept : Kept) → kept_of setup.activity live.rest.calls ≡ Some kept → IsNoData (heard_of setup.plan.controller kept.frame)

-- The stored answers to one controller are not for one of the next start, as all answers of a device to its calls are not.
abbrev pub StoresForOther : Setup → Setup → Live → Type 0
StoresForOther setup next live = (kept : Kept) → kept_of setup.activity live.rest.calls ≡ Some kept → IsIgnored next kept.frame

-- The device is the plan's, uses its name, and has its IP suite or can store it. It may have any relation, or none, and what is asked of its
-- application was asked in that relation. It has stored no answer of the next start. If the plan writes parameters after a plug, the stored
-- answers are no frames of cyclic data.
pub record IsAnyDevice (setup next : Setup) (identity : Identity) (silence : ℕ) (station : Station) (live : Live) : Type 0 where
  pub of_device : station.identity ≡ identity
  pub of_plan : IsOfPlan setup station live.rest.real
  pub named : IsNamed setup live
  pub sized : IsSized live.values.running.suite
  pub addressed : IsAddressed setup live ⊎ CanBeAddressed live
  pub lasts : AllLast setup silence live.rest.link
  pub stored : StoresWell setup live
  pub answers : setup.plan.parameters_after_plug ≡ true → StoresAnswers setup live
  pub stored_other : StoresForOther setup next live
  pub uncalled_next : kept_of next.activity live.rest.calls ≡ None
  pub asked : IsQuestionOf setup next (uuid_of live.rest.link) live.rest.asked.standing

-- ---- the controller

-- Any events have led to this state of the controller. No request of its application is open.
pub record IsAnyController (setup : Setup) (controller : Controlling) : Type 0 where
  pub of_setup : controller.setup ≡ setup
  pub reached : IsReached controller
  pub routed : HasRoute controller
  pub alone : controller.live.access.waiting ≡ None

-- Each state but the search, the exchange and the end has a patience.
pub record HasPatience (options : ControllerOptions) : Type 0 where
  pub patience : options.patience ≢ 0
  pub waiting : options.waiting_patience ≢ 0

-- ---- both

-- The units that remain of the device's relation, none without one.
abbrev pub remains : Option RelationState → ℕ
remains None = 0
remains (Some link) = units_left link

-- The controller ended in the last round, or only its Releases are under way to the device. The relation of the device, if it has one, has been
-- silent since, but for two units.
abbrev pub IsLate : {F : Type 0} → Setup → ℕ → Plant F → Type 0
IsLate setup silence plant =
    (plant.idle ≤ 1)
    ⊎ (AreOwn setup IsRelease plant.net.to_device
    × ((plant.net.device.live.rest.link ≡ None) ⊎ (remains plant.net.device.live.rest.link + plant.idle ≤ silence + 2)))

-- Both ends are in any state, and any frames of theirs are under way, in any order, repeated or not. The controller will be started again with
-- the next set-up. If it has ended, that was in the last round, or only its Releases have been under way to the device since.
pub record IsAnywhere {F : Type 0} (setup next : Setup) (identity : Identity) (silence : ℕ) (plant : Plant F) : Type 0 where
  pub controller : IsAnyController setup plant.net.controller
  pub device : IsAnyDevice setup next identity silence plant.net.device.station plant.net.device.live
  pub to_device : AreOwn setup IsAnything plant.net.to_device
  pub to_controller : AllByRecursion (ChoosesWell setup) plant.net.to_controller
  pub more : List Setup
  pub later : plant.later ≡ next ∷ more
  pub idle : is_ended plant.net.controller.live.phase ≡ false → plant.idle ≡ 0
  pub late : is_ended plant.net.controller.live.phase ≡ true → IsLate setup silence plant

-- Both ends exchange data with each other: each accepts the cyclic frames of the other, by their FrameID and sender.
pub record BothServe {F : Type 0} (identity : Identity) (net : Net F) : Type 0 where
  pub link : RelationState
  pub device : net.device.live.rest.link ≡ Some link
  pub exchanges : link.phase ≡ in_exchange
  pub controller : net.controller.live.phase ≡ Exchanging
  pub outputs : net.controller.live.cyclic.route.sent_id ≡ link.flow.cyclic.route.taken_id
  pub inputs : link.flow.cyclic.route.sent_id ≡ net.controller.live.cyclic.route.taken_id
  pub device_hears : link.flow.cyclic.route.partner ≡ net.controller.setup.plan.controller.mac
  pub controller_hears : net.controller.live.cyclic.route.partner ≡ identity.mac

-- They do, in the same relation or at least so that neither sees a difference.
abbrev pub AreBack : {F : Type 0} → Identity → Net F → Type 0
AreBack identity net = BothExchange net ⊎ BothServe identity net

-- In each run they do after at most this many rounds.
abbrev pub LeadsAnywhereBack : {F : Type 0} {S : ℕ} → Flash F S → Identity → ℕ → ℕ → Plant F → Type 0
LeadsAnywhereBack as_flash identity pause zero plant = AreBack identity plant.net
LeadsAnywhereBack {F} as_flash identity pause (suc limit) plant =
    AreBack identity plant.net ⊎ ((next : Plant F) → PlantRound as_flash pause plant next → LeadsAnywhereBack as_flash identity pause limit next)

-- ---- a power failure

-- A start on this flash gives the plan's name, and the plan's IP suite or room to store it.
pub record HasStored {F : Type 0} {S : ℕ} (as_flash : Flash F S) (setup : Setup) (flash : F) : Type 0 where
  pub settings : Settings
  pub room : ℕ
  pub starts : StartsWith (as_flash.image flash) settings room
  pub named : settings.name ≡ setup.plan.station.name
  pub sized : IsSized settings.suite
  pub addressed : (settings.suite ≡ setup.plan.station.suite) ⊎ (1 ≤ room)

-- ---- the time

-- The units until the controller exchanges data or has ended: a second until its Identify is sent again, and the patience of each state.
abbrev pub ahead_limit : ControllerOptions → ℕ
ahead_limit options = 32001 + (4 * options.patience + options.waiting_patience)

-- The units by which records that are written after a plug can delay that: before data is exchanged each of them starts the activity time again,
-- and a relation keeps 64.
abbrev pub plug_limit : Parts → ℕ → ℕ
plug_limit plan silence = 64 * (if plan.parameters_after_plug then silence else 0)

-- The units until it has ended then, unless both serve: the relation of the device ends before data is exchanged, or while it is, and then the
-- data hold time of the controller.
abbrev pub parting_limit : Parts → ℕ → ℕ
parting_limit plan silence = silence + silence + hold_of plan + 5 + plug_limit plan silence

-- Within how many units both exchange data, from any state.
abbrev pub anywhere_limit : Setup → ℕ → ℕ → ℕ
anywhere_limit setup silence pause =
    ahead_limit setup.options + (parting_limit setup.plan silence + (pause + start_up_limit setup.plan))
