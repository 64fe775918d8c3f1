-- Both ends of a network on which there are strangers too: the runs of both ends alone are the same.
use Rattle.std.specs.Prelude.{◌≡◌, ℕ, false, List, [], ◌∷◌}
use Rattle.std.specs.List.{AllByRecursion}
use Rattle.flash_model.specs.declared.flash.Flash.{Ghosts as Flash}
use Rattle.device_frames.specs.declared.note.Note.{Note}
use Rattle.device_core.specs.State.{State}
use Rattle.device_core.specs.Steps.{Steps}
use Rattle.controller_core.specs.declared.stored.event.Event.TheVariants as controller
use Rattle.network_world.specs.declared.moves.End.{End}
use Rattle.network_world.specs.declared.moves.End.TheVariants.{Device, Controller}
use Rattle.network_world.specs.declared.moves.Move.{Move}
use Rattle.network_world.specs.World.{AreMade, Happens, World, at_controller, last_world}
use Rattle.octets_law.specs.Octets.{part, untagged}
use Rattle.strangers_law.specs.Controller.{belongs_to}
use Rattle.strangers_law.specs.Quiet.{IsQuietAt, heard_in}
use Rattle.strangers_law.specs.Strange.{same}

-- ---- runs with strangers

-- The octets are the frame of a stranger to an end, in the state that the end is in now.
abbrev pub IsStrangerTo : {F : Type 0} → World F → End → List ℕ → Type 0
IsStrangerTo world Device octets = IsQuietAt world.device octets
IsStrangerTo world Controller octets = belongs_to world.controller (untagged octets) ≡ false

-- A device takes the frame of a stranger as any frame, whatever its flash does. What it sends at it is not among the frames of both ends.
pub record IsTaken {F : Type 0} {S : ℕ} (as_flash : Flash F S) (before : World F) (octets : List ℕ) (after : World F) : Type 0 where
  pub frames : List (List ℕ)
  pub note : Note
  pub steps : Steps as_flash before.device (heard_in before.device.station.identity octets) frames note after.device
  pub controller : after.controller ≡ before.controller
  pub sent : after.sent ≡ before.sent

-- An end takes it. What a controller sends at it would be among the frames of both ends.
abbrev pub Takes : {F : Type 0} {S : ℕ} → Flash F S → World F → End → List ℕ → World F → Type 0
Takes as_flash before Device octets after = IsTaken as_flash before octets after
Takes as_flash before Controller octets after = after ≡ at_controller before (controller.Frame (record { items = octets }))

-- What happens on such a network: a move of both ends, with the frames that they sent; or the frame of a stranger comes to an end.
pub data Happening : Type 0 where
  Own : (one : Move) → Happening
  Stranger : (end : End) → (octets : List ℕ) → Happening

-- A move of both ends, or the frame of a stranger, leads from one world to the next.
abbrev pub HappensAmong : {F : Type 0} {S : ℕ} → Flash F S → World F → Happening → World F → Type 0
HappensAmong as_flash before (Own one) after = Happens as_flash before one after
HappensAmong as_flash before (Stranger end octets) after = IsStrangerTo before end octets × Takes as_flash before end octets after

-- Each of these happens, with the world after it; the world after all.
abbrev pub AreMadeAmong : {F : Type 0} {S : ℕ} → Flash F S → World F → List (Happening × World F) → Type 0
AreMadeAmong as_flash before [] = Unit {0}
AreMadeAmong as_flash before (one ∷ run) = HappensAmong as_flash before one.0 one.1 × AreMadeAmong as_flash one.1 run

-- The world at the end of a run with frames of strangers.
abbrev pub last_among : {F : Type 0} → World F → List (Happening × World F) → World F
last_among before [] = before
last_among before (one ∷ run) = last_among one.1 run

-- The moves of both ends in such a run, each with the world after it.
abbrev pub own_with : {F : Type 0} → Happening → World F → List (Move × World F) → List (Move × World F)
own_with (Own one) after others = (one, after) ∷ others
own_with (Stranger end octets) after others = others

-- The moves of both ends in such a run, each with its world.
abbrev pub own_in : {F : Type 0} → List (Happening × World F) → List (Move × World F)
own_in [] = []
own_in (one ∷ run) = own_with one.0 one.1 (own_in run)

-- ---- the laws

-- The moves of both ends in a run with strangers are a run of both ends alone, with the same world after each of them and at the end.
pub record IsRunAlone {F : Type 0} {S : ℕ} (as_flash : Flash F S) (first : World F) (run : List (Happening × World F)) : Type 0 where
  pub made : AreMade as_flash first (own_in run)
  pub last : last_world first (own_in run) ≡ last_among first run

-- In any run with frames of strangers the moves of both ends, by themselves, are a run.
abbrev pub RunsGoOn : {F : Type 0} {S : ℕ} → Flash F S → Type 0
RunsGoOn {F} as_flash = (first : World F) (run : List (Happening × World F)) → AreMadeAmong as_flash first run → IsRunAlone as_flash first run

-- ---- what a device answers

-- A MAC address is that of neither end.
abbrev pub IsOfNeither : {F : Type 0} → World F → List ℕ → Type 0
IsOfNeither world address =
    (same address world.device.station.identity.mac.octets ≡ false) × (same address world.controller.setup.plan.controller.mac.octets ≡ false)

-- The frames with which a device answers a stranger that is neither end are themselves frames of strangers to both ends, now and later. So a
-- network may bring them to either end at any time: that is a run with strangers too.
abbrev pub AnswersAreStrangers : {F : Type 0} {S : ℕ} → Flash F S → Type 0
AnswersAreStrangers {F} as_flash = (before later : World F) (after : State F) (octets : List ℕ) (sent : List (List ℕ)) (said : Note)
    → Steps as_flash before.device (heard_in before.device.station.identity octets) sent said after → IsQuietAt before.device octets
    → IsOfNeither later (part 6 6 (untagged octets))
    → AllByRecursion (λ frame. (end : End) → IsStrangerTo later end frame) sent
