-- The facts about a frame persist: records that were accepted stay accepted, a call that was answered is never new again, and
-- what was true of an earlier point stays true.
use Rattle.std.proofs.Common.{◌≡◌, ◌<◌, ◌≤◌, inl, inr, ℕ, zero, suc, true, false, List, Option, Some, None, sym, subst, arith}
use Rattle.end_laws.specs.both.Small.{Ask, ToDevice, Call, Confirms, Idle, Reply, ToController, Answers, Readies, Nothing, Rules, RelationState, Kept}
use Rattle.end_laws.specs.both.Steps.{IsNew, SaysAtMost}
use Rattle.end_laws.proofs.BothEach.{each_so}
use Rattle.end_laws.proofs.BothHolds.{At, IsOld, earlier, Took, IsHeldIn, Behind, IsCall, TellsDevice, Reported, IsResponse, TellsController, IsFine, AreFine, KeepsFine}

module _ {T Q : Type 0} (rules : Rules T Q) where
  -- The records that were accepted stay accepted, and a call that was answered is not new any more. If the current call was
  -- answered, no record is accepted any more; and no relation is made after a later call.
  pub record Grows (at : At) (kept : Option Kept) (link : Option (RelationState T Q)) (kept_now : Option Kept) (link_now : Option (RelationState T Q)) : Type 0 where
    pub took : (count : ℕ) → Took rules count kept link → Took rules count kept_now link_now
    pub newer : (sequence : ℕ) → IsNew sequence kept_now → IsNew sequence kept
    pub older : (sequence : ℕ) → IsOld sequence kept → IsOld sequence kept_now
    pub held : IsOld at.number kept → IsHeldIn rules (earlier at.stage) link → IsHeldIn rules (earlier at.stage) link_now
    pub gone : (sequence : ℕ) → IsOld sequence kept → at.number ≤ sequence → link ≡ None → link_now ≡ None

  module _ (at : At) (kept kept_now : Option Kept) (link link_now : Option (RelationState T Q)) (grows : Grows at kept link kept_now link_now) where
    pub behind_on : (stage : ℕ) → Behind rules stage kept link → Behind rules stage kept_now link_now
    behind_on zero behind = tt
    behind_on (suc count) behind = λ strict. grows.took count (behind strict)

    call_on : (sequence : ℕ) (ask : Ask) → IsCall rules at sequence ask kept → IsCall rules at sequence ask kept_now
    call_on sequence ask (inl releases) = inl releases
    call_on sequence ask (inr current) = inr (λ new. current (grows.newer sequence new))

    module _ (Good GoodNow : List ℕ → Type 0) (good_on : (frame : List ℕ) → Good frame → GoodNow frame) where
      device_on : (heard : ToDevice) → TellsDevice rules at kept heard → TellsDevice rules at kept_now heard
      device_on (Call sequence ask) tells = call_on sequence ask tells
      device_on Confirms tells = tells
      device_on Idle tells = tt

      response_on : (sequence : ℕ) (reply : Reply) → IsResponse rules at kept link sequence reply → IsResponse rules at kept_now link_now sequence reply
      response_on sequence reply tells = record {
        old = grows.older sequence tells.old;
        now = λ is. record {
          refused = λ refused. grows.held (subst (λ (n : ℕ). IsOld n kept) is tells.old) ((tells.now is).refused refused);
          well = λ yes few strict. grows.took at.stage ((tells.now is).well yes few strict);
        };
        later = λ more done. grows.gone sequence tells.old (omega (arith, more)) (tells.later more done);
      }

      controller_on : (frame : List ℕ) (heard : ToController) → TellsController rules Good at kept link frame heard → TellsController rules GoodNow at kept_now link_now frame heard
      controller_on frame (Answers sequence reply) tells = response_on sequence reply tells
      controller_on frame Readies tells = good_on frame tells
      controller_on frame Nothing tells = tt

      pub fine_on : (frame : List ℕ) → IsFine rules Good at kept link frame → IsFine rules GoodNow at kept_now link_now frame
      fine_on frame fine = record {
        device = device_on (rules.to_device frame) fine.device;
        controller = controller_on frame (rules.to_controller frame) fine.controller;
      }

      pub are_fine_on : (frames : List (List ℕ)) → AreFine rules Good at kept link frames → AreFine rules GoodNow at kept_now link_now frames
      are_fine_on frames fine = each_so (IsFine rules Good at kept link) (IsFine rules GoodNow at kept_now link_now) fine_on frames fine

      pub keeps_on : (answer : Option Kept) → KeepsFine rules Good at kept link answer → KeepsFine rules GoodNow at kept_now link_now answer
      keeps_on None fine = tt
      keeps_on (Some answer) fine = fine_on answer.frame fine

  pub same_grows : (at : At) (kept : Option Kept) (link : Option (RelationState T Q)) → Grows at kept link kept link
  same_grows at kept link = record {
    took = λ count took. took;
    newer = λ sequence new. new;
    older = λ sequence old. old;
    held = λ old held. held;
    gone = λ sequence old more none. none;
  }

  -- a frame is fine if what each end hears of it is
  pub fine_as : (Good : List ℕ → Type 0) (at : At) (kept : Option Kept) (link : Option (RelationState T Q)) (frame : List ℕ) (to_device : ToDevice) (to_controller : ToController)
      → rules.to_device frame ≡ to_device → rules.to_controller frame ≡ to_controller
      → TellsDevice rules at kept to_device → TellsController rules Good at kept link frame to_controller → IsFine rules Good at kept link frame
  fine_as Good at kept link frame to_device to_controller e f device controller = record {
    device = subst (λ (heard : ToDevice). TellsDevice rules at kept heard) (sym e) device;
    controller = subst (λ (heard : ToController). TellsController rules Good at kept link frame heard) (sym f) controller;
  }

  -- the same for a frame of which the controller hears at most this
  pub fine_at_most : (Good : List ℕ → Type 0) (at : At) (kept : Option Kept) (link : Option (RelationState T Q)) (frame : List ℕ) (heard : ToController)
      → rules.to_device frame ≡ Idle → SaysAtMost rules heard frame → TellsController rules Good at kept link frame heard → IsFine rules Good at kept link frame
  fine_at_most Good at kept link frame heard idle (inl nothing) tells = fine_as Good at kept link frame Idle Nothing idle nothing tt tt
  fine_at_most Good at kept link frame heard idle (inr says) tells = fine_as Good at kept link frame Idle heard idle says tt tells
