-- Runs of both ends with strangers.
use Rattle.std.proofs.Common.{◌≡◌, ◌&&◌, not, ℕ, Bool, true, false, List, [], ◌∷◌, ◌++◌, take, Option, Some, None, refl, sym, ap, subst, ◌∙◌}
use Rattle.std.proofs.lemmas.List.{append-nil}
use Rattle.std.specs.List.{AllByRecursion}
use Rattle.flash_model.specs.declared.flash.Flash.{Ghosts as Flash}
use Rattle.relations.specs.RelationState.{RelationState}
use Rattle.controller_core.specs.declared.stored.event.Event.TheVariants as controller
use Rattle.network_world.specs.declared.moves.End.{End}
use Rattle.network_world.specs.declared.moves.End.TheVariants.{Device, Controller}
use Rattle.network_world.specs.World.{AreMade, at_controller, last_world, World}
use Rattle.octets_law.specs.Octets.{part, untagged}
use Rattle.strangers_law.specs.Controller.{belongs_to}
use Rattle.strangers_law.specs.Device.{marks_of}
use Rattle.strangers_law.specs.Quiet.{is_asking, is_quiet_stranger}
use Rattle.strangers_law.specs.Runs.{AnswersAreStrangers, AreMadeAmong, Happening, HappensAmong, IsOfNeither, IsRunAlone, IsStrangerTo, Own, Takes, Stranger, last_among, own_in}
use Rattle.strangers_law.specs.Strange.{belongs, same}
use Rattle.strangers_law.proofs.Controllers.{leaves_controllers}
use Rattle.strangers_law.proofs.Quiet.{answers_senders, leaves_devices}
use Rattle.strangers_law.proofs.Sending.{PacketsAreRead, RealTimeIsRead}

-- ---- one frame

same_world : {F : Type 0} (before after : World F) → after.device ≡ before.device → after.controller ≡ before.controller → after.sent ≡ before.sent → after ≡ before
same_world before after device control sent =
    ap (λ d. record { device = d; controller = after.controller; sent = after.sent }) device ∙ ap (λ c. record { device = before.device; controller = c; sent = after.sent }) control
    ∙ ap (λ s. record { device = before.device; controller = before.controller; sent = s }) sent

controller_still : {F : Type 0} (before : World F) (octets : List ℕ) → belongs_to before.controller (untagged octets) ≡ false
    → at_controller before (controller.Frame (record { items = octets })) ≡ before
controller_still before octets strange =
    let same = leaves_controllers before.controller (controller.Frame (record { items = octets })) strange in
    same_world before (at_controller before (controller.Frame (record { items = octets }))) refl (ap (λ s. s.controller) same)
    (ap (λ s. before.sent ++ s.frames) same ∙ append-nil before.sent)

pub leaves_worlds : {F : Type 0} {S : ℕ} (as_flash : Flash F S) (before after : World F) (end : End) (octets : List ℕ)
    → IsStrangerTo before end octets → Takes as_flash before end octets after → after ≡ before
leaves_worlds as_flash before after Device octets quiet taken =
    same_world before after (leaves_devices as_flash before.device after.device octets taken.frames taken.note taken.steps quiet) taken.controller taken.sent
leaves_worlds as_flash before after Controller octets strange is = is ∙ controller_still before octets strange

-- ---- a run

module _ {F : Type 0} {S : ℕ} (as_flash : Flash F S) where
  one_more : (before : World F) (one : Happening) (after : World F) (run : List (Happening × World F)) → HappensAmong as_flash before one after → IsRunAlone as_flash after run
      → IsRunAlone as_flash before ((one, after) ∷ run)
  one_more before (Own one) after run happens alone = record { made = (happens, alone.made); last = alone.last }
  one_more before (Stranger end octets) after run happens alone =
      subst (λ (w : World F). AreMade as_flash w (own_in run) × (last_world w (own_in run) ≡ last_among after run) → IsRunAlone as_flash before ((Stranger end octets, after) ∷ run))
      (sym (leaves_worlds as_flash before after end octets happens.0 happens.1)) (λ x. record { made = x.0; last = x.1 }) (alone.made, alone.last)

  pub runs_go_on : (first : World F) (run : List (Happening × World F)) → AreMadeAmong as_flash first run → IsRunAlone as_flash first run
  runs_go_on first [] are = record { made = tt; last = refl }
  runs_go_on first (one ∷ run) are = one_more first one.0 one.1 run are.0 (runs_go_on one.1 run are.1)

-- ---- what a device answers

first_not : (a b : Bool) → a ≡ false → a && b ≡ false
first_not false b is = refl
first_not true b is = absurd cc

both_not : (a b : Bool) → a ≡ false → b ≡ false → not a && not b ≡ true
both_not false false p q = refl
both_not true b p q = absurd cc
both_not false true p q = absurd cc

-- A frame to another station.
quiet_elsewhere : (station : List ℕ) (link : Option RelationState) (frame : List ℕ) → same (take 6 frame) station ≡ false → is_quiet_stranger station link frame ≡ true
quiet_elsewhere station None frame other = both_not (is_asking station None frame) false (first_not (same (take 6 frame) station) _ other) refl
quiet_elsewhere station (Some link) frame other =
    both_not (is_asking station (Some link) frame) (belongs station (marks_of link) frame) (first_not (same (take 6 frame) station) _ other) (first_not (same (take 6 frame) station) _ other)

module _ {F : Type 0} (later : World F) (asker : List ℕ) (apart : IsOfNeither later asker) where
  strange_to : (frame : List ℕ) → take 6 (untagged frame) ≡ asker → (end : End) → IsStrangerTo later end frame
  strange_to frame to Device =
      let station : List ℕ = later.device.station.identity.mac.octets in
      quiet_elsewhere station later.device.live.rest.link (untagged frame) (ap (λ l. same l station) to ∙ apart.0)
  strange_to frame to Controller =
      let station : List ℕ = later.controller.setup.plan.controller.mac.octets in
      first_not (same (take 6 (untagged frame)) station) _ (ap (λ l. same l station) to ∙ apart.1)

  all_strange : (frames : List (List ℕ)) → AllByRecursion (λ frame. take 6 (untagged frame) ≡ asker) frames
      → AllByRecursion (λ frame. (end : End) → IsStrangerTo later end frame) frames
  all_strange [] are = tt
  all_strange (frame ∷ frames) are = (strange_to frame are.0, all_strange frames are.1)

pub answers_strange : {F : Type 0} {S : ℕ} (as_flash : Flash F S) → RealTimeIsRead → PacketsAreRead → AnswersAreStrangers as_flash
answers_strange as_flash real_time packets before later after octets sent said steps quiet apart =
    all_strange later (part 6 6 (untagged octets)) apart sent (answers_senders as_flash real_time packets before.device after octets sent said steps quiet)
