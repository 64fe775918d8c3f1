-- Units at once, at a controller and what is beside it.
use Rattle.std.proofs.Common.{◌≡◌, ◌<◌, ◌++◌, ℕ, zero, suc, List, [], refl, sym, ap, ◌∙◌, arith}
use Rattle.controller_core.specs.declared.stored.event.Event.TheVariants.{Tick}
use Rattle.controller_core.specs.Leaps.{NoneSends as NoneOfController, ticks_of as controller_ticks}
use Rattle.controller_core.specs.stored.State.{Controlling}
use Rattle.controller_station.specs.Beside.{Beside, NoneSends, sent_by_tick, ticked, ticks_of}
use Rattle.controller_station.specs.Leaps.{NoneSends as NoneOfBoth, sent_beside}
use Rattle.controller_station.specs.Served.{Frames, Served}
use Rattle.controller_station.proofs.Besides.{plan_kept}

-- Units keep role and addresses of the services of the IP address, and the configuration of the controller.
pub ticks_keep : (units : ℕ) (state : Beside) → ((ticks_of units state).ip.role ≡ state.ip.role) × ((ticks_of units state).ip.mac ≡ state.ip.mac) × ((ticks_of units state).ip.address ≡ state.ip.address)
ticks_keep zero state = (refl, refl, refl)
ticks_keep (suc units) state = ticks_keep units state

pub setup_kept : (units : ℕ) (controller : Controlling) → (controller_ticks units controller).controller.setup ≡ controller.setup
setup_kept zero controller = refl
setup_kept (suc units) controller = plan_kept (controller_ticks units controller).controller Tick ∙ setup_kept units controller

-- What is sent by none of these units is nothing.
pub none_beside : (units : ℕ) (state : Beside) → NoneSends units state → sent_beside units state ≡ []
none_beside zero state none = refl
none_beside (suc units) state none =
    let sooner : sent_beside units state ≡ [] = none_beside units state (λ before earlier. none before (omega (arith, earlier))) in
    ap (λ (frames : List (List ℕ)). frames ++ sent_by_tick (ticks_of units state)) sooner ∙ none units (omega arith)

abbrev both_sent : List (List ℕ) → List (List ℕ) → Frames
both_sent controller services = record { controller = controller; services = services }

-- The same of both.
pub none_sent : (units : ℕ) (served : Served) → NoneOfController units served.controller → NoneSends units served.services → NoneOfBoth units served
none_sent units served quiet none before few =
    ap (λ (frames : List (List ℕ)). both_sent frames (sent_beside before served.services)) (quiet before few)
    ∙ ap (both_sent []) (none_beside before served.services (λ first sooner. none first (omega (arith, sooner, few))))

module _ (units less : ℕ) (old between : Beside) (count : units ≡ suc less) (quiet : between ≡ ticks_of less old) (none : NoneSends less old) where
  pub one_more : (new : Beside) → new ≡ ticked between → new ≡ ticks_of units old
  one_more new tick = tick ∙ ap ticked quiet ∙ sym (ap (λ (n : ℕ). ticks_of n old) count)

  pub one_sends : (frames : List (List ℕ)) → frames ≡ sent_by_tick between → frames ≡ sent_beside units old
  one_sends frames tick =
      tick ∙ ap sent_by_tick quiet
      ∙ sym (ap (λ (f : List (List ℕ)). f ++ sent_by_tick (ticks_of less old)) (none_beside less old none))
      ∙ sym (ap (λ (n : ℕ). sent_beside n old) count)

  pub only_last : (before : ℕ) → before < units → sent_beside before old ≡ []
  only_last before earlier = none_beside before old (λ first sooner. none first (omega (arith, count, earlier, sooner)))
