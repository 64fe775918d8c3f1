-- Beside each run with callers there is a run of both ends alone.
use Rattle.std.proofs.Common.{◌≡◌, ◌⊎◌, ℕ, inl, inr, List, Some, ap, subst, sym, ◌∙◌}
use Rattle.flash_model.specs.declared.flash.Flash.{Ghosts as Flash}
use Rattle.connects.specs.requests.Request.{Request}
use Rattle.records.specs.declared.writes.taken.TakenRecord.{TakenRecord}
use Rattle.relations.specs.RelationState.{RelationState}
use Rattle.device_core.specs.State.{State}
use Rattle.controller_core.specs.stored.State.{Controlling}
use Rattle.network_world.specs.World.{World, last_world}
use Rattle.end_laws.specs.both.Small as small
use Rattle.end_laws.specs.both.StartUp.{WasExchanging, WasHanded}
use Rattle.both_ends.specs.startup.View.{rules_of, view_of}
use Rattle.both_ends.specs.startup.Played.{viewed}
use Rattle.strangers_law.specs.CallingRuns.{IsRunBeside, Occurrence, last_with_callers, moves_in}
use Rattle.strangers_law.proofs.CallingRuns.{runs_beside, same_viewed}
use Rattle.strangers_law.proofs.callers.callers_leave_both_ends.Goals as goal

pub returns-clause-runs : goal.returns-clause-runs
returns-clause-runs g c = λ can others first run few begins are.
    runs_beside g.F.Flash others c.callers_leave_a_device.ensures.left c.callers_leave_a_device.ensures.alike c.args.setup.now c.args.identity.now first
    (λ alone made one. c.worlds_start_up.ensures.next can first alone begins made one) few begins run are

module _ {F : Type 0} {S : ℕ} (as_flash : Flash F S) (others : List (List ℕ)) (first : World F) (run : List (Occurrence × World F))
    (beside : IsRunBeside as_flash others first first run) where
  -- what is stated of the views of the run alone holds of those of the run with callers
  of_views : (P : List (small.Move × small.World TakenRecord Request) → Type 0) → P (viewed beside.alone) → P (viewed (moves_in run))
  of_views P holds = subst P (sym (same_viewed others (moves_in run) beside.alone beside.moves)) holds

  link_alone : (link : RelationState) → (last_with_callers first run).device.live.rest.link ≡ Some link
      → (last_world first beside.alone).device.live.rest.link ≡ Some link
  link_alone link is = ap (λ (d : State F). d.live.rest.link) beside.last.device.is ∙ is

pub returns-clause-starts : goal.returns-clause-starts
returns-clause-starts g c = λ can others first run few begins are exchanges.
    let beside = returns-clause-runs g c can others first run few begins are in
    of_views g.F.Flash others first run beside (λ views. WasHanded (rules_of first.controller.setup first.device.station) (view_of first) views)
    (c.worlds_start_up.ensures.controller can first beside.alone begins beside.made
    (sym (ap (λ (control : Controlling). control.live.phase) beside.last.controller) ∙ exchanges))

part_or_started : (P H more : Type 0) → (H → more) → P ⊎ H → P ⊎ more
part_or_started P H more so (inl part) = inl part
part_or_started P H more so (inr handed) = inr (so handed)

pub returns-clause-part : goal.returns-clause-part
returns-clause-part g c = λ can others first run few begins are link is.
    let beside = returns-clause-runs g c can others first run few begins are in
    part_or_started _ _ _
    (λ handed. of_views g.F.Flash others first run beside
    (λ views. WasHanded (rules_of first.controller.setup first.device.station) (view_of first) views) handed)
    (c.worlds_start_up.ensures.part can first beside.alone begins beside.made link (link_alone g.F.Flash others first run beside link is))

pub returns-clause-device : goal.returns-clause-device
returns-clause-device g c = λ can others first run few begins are link is exchanges.
    let beside = returns-clause-runs g c can others first run few begins are in
    of_views g.F.Flash others first run beside (λ views. WasExchanging views)
    (c.worlds_start_up.ensures.device can first beside.alone begins beside.made link (link_alone g.F.Flash others first run beside link is) exchanges)

pub returns-clause-relation : goal.returns-clause-relation
returns-clause-relation g c = λ can others first run few begins are link is.
    let beside = returns-clause-runs g c can others first run few begins are in
    c.worlds_start_up.ensures.relation can first beside.alone begins beside.made link (link_alone g.F.Flash others first run beside link is)
