-- Both ends of a network on which strangers call the device too: beside each run with such calls there is a run of both ends alone.
use Rattle.std.specs.Prelude.{◌≡◌, ℕ, List, [], ◌∷◌, Some}
use Rattle.flash_model.specs.declared.flash.Flash.{Ghosts as Flash}
use Rattle.pn_values.specs.declared.identity.Identity.{Identity}
use Rattle.relations.specs.RelationState.{RelationState}
use Rattle.controller_messages.specs.declared.setup.Setup.{Setup}
use Rattle.controller_core.specs.declared.stored.state.State.TheVariants.{Exchanging}
use Rattle.network_world.specs.declared.moves.Move.{Move}
use Rattle.network_world.specs.World.{AreMade, World, last_world}
use Rattle.end_laws.specs.both.StartUp.{WasHanded}
use Rattle.both_ends.specs.exchange.Sized.{AreSizedModules}
use Rattle.both_ends.specs.exchange.Told.{AreSizedMoves}
use Rattle.both_ends.specs.startup.Played.{Begins, CanMeet, viewed}
use Rattle.both_ends.specs.startup.View.{rules_of, view_of}
use Rattle.strangers_law.specs.Calling.{AreOthers, IsCallOf, IsLike}
use Rattle.strangers_law.specs.Runs.{Happening, HappensAmong, IsTaken, own_with}

-- ---- runs with callers

-- What occurs on such a network: what happens on one without calls of strangers, a move of both ends or the frame of a quiet stranger; or a call of a
-- stranger comes to the device.
pub data Occurrence : Type 0 where
  Uncalled : (one : Happening) → Occurrence
  Called : (octets : List ℕ) → Occurrence

-- The call has one of these other activities, or its answer is not stored, and the application is not asked it. The device takes it as any frame, whatever its flash does. What it
-- sends at it is not among the frames of both ends.
abbrev pub Occurs : {F : Type 0} {S : ℕ} → Flash F S → List (List ℕ) → World F → Occurrence → World F → Type 0
Occurs as_flash others before (Uncalled one) after = HappensAmong as_flash before one after
Occurs as_flash others before (Called octets) after =
    IsCallOf others before.device octets × IsTaken as_flash before octets after × (after.device.live.rest.asked ≡ before.device.live.rest.asked)

-- Each of these occurs, with the world after it; the world after all.
abbrev pub AreMadeWithCallers : {F : Type 0} {S : ℕ} → Flash F S → List (List ℕ) → World F → List (Occurrence × World F) → Type 0
AreMadeWithCallers as_flash others before [] = Unit {0}
AreMadeWithCallers as_flash others before (one ∷ run) = Occurs as_flash others before one.0 one.1 × AreMadeWithCallers as_flash others one.1 run

-- The world at the end of a run with calls of strangers.
abbrev pub last_with_callers : {F : Type 0} → World F → List (Occurrence × World F) → World F
last_with_callers before [] = before
last_with_callers before (one ∷ run) = last_with_callers one.1 run

-- The moves of both ends in such a run, each with the world after it.
abbrev pub moves_with : {F : Type 0} → Occurrence → World F → List (Move × World F) → List (Move × World F)
moves_with (Uncalled one) after others = own_with one after others
moves_with (Called octets) after others = others

-- The moves of such a run, each with its world, without the calls of strangers.
abbrev pub moves_in : {F : Type 0} → List (Occurrence × World F) → List (Move × World F)
moves_in [] = []
moves_in (one ∷ run) = moves_with one.0 one.1 (moves_in run)

-- ---- the run beside it

-- Two worlds that differ in the stored answers of other activities alone: the controller is the same, the device has the same flash, settings and
-- relation and the same stored answer for the activity of the controller, and the frames that both ends sent are the same.
pub record AreAlike {F : Type 0} (others : List (List ℕ)) (called alone : World F) : Type 0 where
  pub controller : called.controller ≡ alone.controller
  pub device : IsLike alone.controller.setup.activity others called.device alone.device
  pub sent : called.sent ≡ alone.sent

-- Two runs of the same moves, with worlds that are alike after each of them.
abbrev pub AreBeside : {F : Type 0} → List (List ℕ) → List (Move × World F) → List (Move × World F) → Type 0
AreBeside others [] [] = Unit {0}
AreBeside others (one ∷ run) (other ∷ alone) = (one.0 ≡ other.0) × AreAlike others one.1 other.1 × AreBeside others run alone
AreBeside others run alone = ⊥

-- A run of both ends alone, with exactly the moves that they make in a run with callers: the worlds are alike at the beginning, after each move and at
-- the end.
pub record IsRunBeside {F : Type 0} {S : ℕ} (as_flash : Flash F S) (others : List (List ℕ)) (called beside : World F)
    (run : List (Occurrence × World F)) : Type 0 where
  pub alone : List (Move × World F)
  pub made : AreMade as_flash beside alone
  pub begins : AreAlike others called beside
  pub moves : AreBeside others (moves_in run) alone
  pub last : AreAlike others (last_with_callers called run) (last_world beside alone)

-- ---- the laws

-- This holds of each run with callers from the start of this set-up and this device. The calls of the whole run whose answers are
-- stored have at most three other activities.
abbrev pub HoldsWithCallers : {F : Type 0} {S : ℕ} → Flash F S → Setup → Identity → (List (List ℕ) → World F → List (Occurrence × World F) → Type 0) → Type 0
HoldsWithCallers {F} as_flash setup identity holds = CanMeet setup identity
    → (others : List (List ℕ)) (first : World F) (run : List (Occurrence × World F))
    → AreOthers setup.activity others → Begins setup identity first → AreMadeWithCallers as_flash others first run → holds others first run

-- Beside each run with callers there is a run of both ends alone, from the same first world.
abbrev pub RunsGoOnWithCallers : {F : Type 0} {S : ℕ} → Flash F S → Setup → Identity → Type 0
RunsGoOnWithCallers as_flash setup identity = HoldsWithCallers as_flash setup identity (λ others first run. IsRunBeside as_flash others first first run)

-- With these moves an ApplicationReady was received that the device had sent at an earlier point.
abbrev pub WasStarted : {F : Type 0} → World F → List (Move × World F) → Type 0
WasStarted first moves = WasHanded (rules_of first.controller.setup first.device.station) (view_of first) (viewed moves)

-- If the controller exchanges data at the end of a run with callers, that is so.
abbrev pub StartsWithCallers : {F : Type 0} {S : ℕ} → Flash F S → Setup → Identity → Type 0
StartsWithCallers as_flash setup identity = HoldsWithCallers as_flash setup identity (λ others first run.
    (last_with_callers first run).controller.live.phase ≡ Exchanging → WasStarted first (moves_in run))

-- If the device has a relation at the end of a run with callers, this holds of the moves of both ends and of this relation.
abbrev pub RelatesWithCallers : {F : Type 0} {S : ℕ} → Flash F S → Setup → Identity → (World F → List (Move × World F) → RelationState → Type 0) → Type 0
RelatesWithCallers as_flash setup identity holds = HoldsWithCallers as_flash setup identity (λ others first run.
    (link : RelationState) → (last_with_callers first run).device.live.rest.link ≡ Some link → holds first (moves_in run) link)

-- If the modules that are plugged at first and the moves have their sizes, this holds of the moves of both ends in a run with callers and of
-- its last world.
abbrev pub TakesWithCallers : {F : Type 0} {S : ℕ} → Flash F S → Setup → Identity → (World F → List (Move × World F) → World F → Type 0) → Type 0
TakesWithCallers as_flash setup identity holds = HoldsWithCallers as_flash setup identity (λ others first run.
    AreSizedModules first.device.live.rest.real.modules.items → AreSizedMoves (moves_in run) → holds first (moves_in run) (last_with_callers first run))
