use Rattle.std.proofs.Common.{◌≡◌, ◌++◌, ℕ, List, Option, refl, subst, ◌∙◌}
use Rattle.arrayvec.specs.ArrayVec.{ArrayVec}
use Rattle.lldp.specs.Peer.{Peer}
use Rattle.device_frames.specs.declared.local.Local.{Local}
use Rattle.device_frames.specs.Heard.{Applied, Met, heard_of}
use Rattle.controller_core.specs.declared.stored.event.Event.{Event as ControllerEvent}
use Rattle.controller_core.specs.declared.stored.event.Event.TheVariants as controller
use Rattle.controller_core.specs.stored.State.{Controlling}
use Rattle.controller_core.specs.Machine.{step_of}
use Rattle.network_world.specs.World.{IsHeard, World, at_controller, world_of}
use Rattle.network_world.proofs.world.happen.Goals as goal

pub returns-in-Application : goal.returns-in-Application
unfolding heard_of
returns-in-Application g c = rw c.in-Application.is (record {
  hears = subst (λ (local : Local (ArrayVec ℕ)). IsHeard g.F.Flash c.args.device.now c.args.sent.now.frames (Applied local) c.happen_at_device.new.device c.happen_at_device.new.sent.frames)
      c.borrowed.ensures c.happen_at_device.ensures;
  controller = refl;
})

pub returns-in-Neighbour : goal.returns-in-Neighbour
unfolding heard_of
returns-in-Neighbour g c = rw c.in-Neighbour.is (record {
  hears = subst (λ (peer : Option Peer). IsHeard g.F.Flash c.args.device.now c.args.sent.now.frames (Met peer) c.happen_at_device-in-Neighbour.new.device c.happen_at_device-in-Neighbour.new.sent.frames)
      c.copied.ensures c.happen_at_device-in-Neighbour.ensures;
  controller = refl;
})

-- the controller and the frames after its step are those of the world
given_at : {F : Type 0} (before : World F) (event : ControllerEvent) (after : Controlling) (frames : List (List ℕ)) → after ≡ (step_of before.controller event).controller
    → frames ≡ before.sent ++ (step_of before.controller event).frames → record before { controller = after; sent = frames } ≡ at_controller before event
given_at before event after frames state sent = rw state (rw sent refl)

pub returns-in-Give : goal.returns-in-Give
returns-in-Give g c =
    let before = world_of c.args.device.now c.args.controller.now c.args.sent.now in
    rw c.in-Give.is (subst (λ (octets : List ℕ). world_of c.args.device.now c.happen_at_controller.new.controller c.happen_at_controller.new.sent
    ≡ at_controller before (controller.Give c.in-Give.slot c.in-Give.subslot (record { items = octets })))
    (c.bytes_of.ensures ∙ c.as_slice.ensures.value)
    (given_at before (controller.Give c.in-Give.slot c.in-Give.subslot c.bytes_of.result) c.happen_at_controller.new.controller c.happen_at_controller.new.sent.frames
    c.happen_at_controller.ensures.state c.happen_at_controller.ensures.frames))

pub returns-in-Write : goal.returns-in-Write
returns-in-Write g c =
    let before = world_of c.args.device.now c.args.controller.now c.args.sent.now in
    rw c.in-Write.is (subst (λ (octets : List ℕ). world_of c.args.device.now c.happen_at_controller-in-Write.new.controller c.happen_at_controller-in-Write.new.sent
    ≡ at_controller before (controller.Write c.in-Write.slot c.in-Write.subslot c.in-Write.index (record { items = octets })))
    (c.bytes_of-in-Write.ensures ∙ c.as_slice-in-Write.ensures.value)
    (given_at before (controller.Write c.in-Write.slot c.in-Write.subslot c.in-Write.index c.bytes_of-in-Write.result) c.happen_at_controller-in-Write.new.controller c.happen_at_controller-in-Write.new.sent.frames
    c.happen_at_controller-in-Write.ensures.state c.happen_at_controller-in-Write.ensures.frames))
