-- A controller in the middle of its start-up whose device has no relation any more ends, and is started again.
use Rattle.std.proofs.Common.{◌≡◌, ◌⊎◌, inl, inr, ◌≤◌, ◌+◌, ◌-◌, ℕ, zero, suc, Bool, true, false, List, [], ◌∷◌, ◌++◌, Some, None, refl, sym, ap, subst, ◌∙◌, arith}
use Rattle.std.specs.Prelude.{nat_le, if◌then◌else◌}
use Rattle.std.specs.List.{AllByRecursion}
use Rattle.flash_model.specs.declared.flash.Flash.{Ghosts as Flash}
use Rattle.pn_values.specs.declared.identity.Identity.{Identity}
use Rattle.device_frames.specs.declared.event.Event.TheVariants.{Frame as comes}
use Rattle.device_frames.specs.Heard.{heard_of}
use Rattle.device_core.specs.State.{Live, State, Station}
use Rattle.rpc_core.specs.Cache.{kept_of}
use Rattle.controller_messages.specs.declared.request.Request.TheVariants as asks
use Rattle.controller_messages.specs.declared.setup.Setup.{Setup}
use Rattle.controller_messages.specs.Requests.{write_count, writing_from}
use Rattle.controller_core.specs.Machine.{opening_of}
use Rattle.network_world.specs.World.{is_ended}
use Rattle.rounds_law.specs.Rounds.{HearsAll, Net, Round}
use Rattle.rounds_law.specs.Path.{IsAddressed, IsIgnored, IsNamed, IsOutputs, IsSized, device_step, request_to}
use Rattle.rounds_law.specs.Stages.{IsLooking, Leads}
use Rattle.rounds_law.specs.Start.{CanBeAddressed, CanStart, start_up_limit}
use Rattle.rounds_law.specs.Again.{AreStarts, LeadsBack, Plant, PlantRound, begun_with, made}
use Rattle.rounds_law.specs.Abandoned.{AsksInVain, Awaited, IsAbandoned, IsNewCall, IsUnasked, IsUnreached, LastsFor, Response, WaitsInVain, denials_left}
use Rattle.rounds_law.specs.Abandoned.{is_reached, last_call, units_to_denial}
use Rattle.rounds_law.proofs.AbandonedRounds.{DeniedLaws, EndsSoon, HalfwayLaws, IsBare, IsGone, IsQuit, IsUnheard, asked_soon, away_soon, cause_of, ended_for}
use Rattle.rounds_law.proofs.AbandonedRounds.{mute_soon, quit_on, to_ask_soon}
use Rattle.rounds_law.proofs.AgainLaw.{AgainLaws, EndedLaws, Stands, at_most, begins, ended_round, goes_on_with, leads_more, more_than, plant_leads}
use Rattle.rounds_law.proofs.AgainLaw.{sum, sum_is}
use Rattle.rounds_law.proofs.CompositionLaws.{Laws}
use Rattle.rounds_law.proofs.CompositionLists.{Went, arrives_as, went_on}
use Rattle.rounds_law.proofs.PlanKept.{plan_moved}

module _ {F : Type 0} {S : ℕ} (as_flash : Flash F S) (setup next : Setup) (identity : Identity) (laws : Laws setup identity) (again : AgainLaws setup identity)
    (again_next : AgainLaws next identity) (ends : EndedLaws setup identity) (can : CanStart setup identity) (starts : AreStarts setup next)
    (denies : DeniedLaws setup identity) (halfway : HalfwayLaws setup identity) where
  -- ---- a frame that changes nothing

  -- The same net with another state of the device, in which nothing is under way to it.
  abbrev cleared : Net F → State F → Net F
  cleared net device = record net { device = device; to_device = [] }

  stands_as : (net : Net F) (device : State F) → device.station ≡ net.device.station → device.live ≡ net.device.live → Stands setup next identity net
      → Stands setup next identity (cleared net device)
  stands_as net device same still stands = record {
    ignored = stands.ignored;
    ignored_next = stands.ignored_next;
    of_device = ap (λ (s : Station). s.identity) same ∙ stands.of_device;
    of_plan = plan_moved as_flash laws.modules setup net.device device same (ap (λ (l : Live). l.rest.real) still) stands.of_plan;
    named = subst (λ (l : Live). IsNamed setup l) (sym still) stands.named;
    sized = subst (λ (l : Live). IsSized l.values.running.suite) (sym still) stands.sized;
    addressed = subst (λ (l : Live). IsAddressed setup l ⊎ CanBeAddressed l) (sym still) stands.addressed;
    uncalled_next = ap (λ (l : Live). kept_of next.activity l.rest.calls) still ∙ stands.uncalled_next;
    unasked = ap (λ (l : Live). l.rest.asked.standing) still ∙ stands.unasked;
  }

  -- If it comes before others, it is as if these came alone.
  skips : (n : ℕ) (net : Net F) (frame : List ℕ) (frames : List (List ℕ)) → net.to_device ≡ frame ∷ frames
      → ((device_step [] net.device.station net.device.live frame).frames ≡ []) × ((device_step [] net.device.station net.device.live frame).live ≡ net.device.live)
      → net.device.live.rest.link ≡ None → is_ended net.controller.live.phase ≡ false
      → ((device : State F) → device.station ≡ net.device.station → device.live ≡ net.device.live
      → Leads as_flash (suc n) (record net { device = device; to_device = frames }))
      → Leads as_flash (suc n) net
  skips n net frame frames under_way vain none begun leads = inr (begun, after)
    where
      after : (next : Net F) → Round as_flash net next → Leads as_flash n next
      after next round = by_lead (leads between went.of_station still)
        where
          hears : HearsAll as_flash net.device (frame ∷ frames) round.answers round.device
          hears = arrives_as as_flash net next round (frame ∷ frames) under_way

          between : State F
          between = hears.0

          went : Went net.device.station net.device.live (heard_of net.device.station.identity (comes (record { items = frame }))) hears.1 between
          went = went_on as_flash net.device net.device.station frame hears.1 between refl hears.3

          still : between.live ≡ net.device.live
          still = went.state ∙ vain.1

          unsent : round.answers ≡ hears.2
          unsent = hears.5 ∙ ap (λ (fs : List (List ℕ)). fs ++ hears.2) (went.sent ∙ vain.0)

          rest : Round as_flash (record net { device = between; to_device = frames }) next
          rest = record {
            device = round.device;
            answers = round.answers;
            arrives = subst (λ (answers : List (List ℕ)). HearsAll as_flash between frames answers round.device) (sym unsent) hears.4;
            unit = round.unit;
            controller = round.controller;
            to_device = round.to_device;
          }

          by_lead : Leads as_flash (suc n) (record net { device = between; to_device = frames }) → Leads as_flash n next
          by_lead (inl both) = absurd (no_link (sym (ap (λ (l : Live). l.rest.link) still ∙ none) ∙ both.device))
            where
              no_link : None ≡ Some both.link → ⊥
              no_link bad = absurd cc
          by_lead (inr on) = on.1 next rest

  module _ (pause : ℕ) (more : List Setup) (next_starts : (net : Net F) → IsLooking next identity net → Leads as_flash (start_up_limit setup.plan) net) where
    abbrev limit : ℕ
    limit = start_up_limit setup.plan

    abbrev gone : Net F → Type 0
    gone net = IsGone as_flash setup next identity laws again again_next ends can starts denies halfway net

    abbrev quit : Net F → Type 0
    quit net = IsQuit as_flash setup next identity laws again again_next ends can starts denies halfway net

    starts_clear : (net : Net F) → Stands setup next identity net → net.to_device ≡ [] → net.device.live.rest.link ≡ None
        → Leads as_flash limit (begun_with next net)
    starts_clear net stands nothing none =
        next_starts (begun_with next net) (begins as_flash setup next identity laws again again_next ends can starts net stands nothing none)

    starts_by : (net : Net F) → (unheard : IsUnheard as_flash setup next identity laws again again_next ends can starts denies halfway net)
        → (net.to_device ≡ []) ⊎ (net.to_device ≡ request_to setup identity (asks.Release unheard.sequence) ∷ [])
        → Leads as_flash limit (begun_with next net)
    starts_by net unheard (inl nothing) = starts_clear net unheard.bare.stands nothing unheard.bare.unrelated
    starts_by net unheard (inr one) =
        subst (λ (n : ℕ). Leads as_flash n (begun_with next net)) one_less
        (skips (write_count setup.plan + 4) (begun_with next net) (request_to setup identity (asks.Release unheard.sequence)) (opening_of (made next) ∷ [])
        (ap (λ (fs : List (List ℕ)). fs ++ opening_of (made next) ∷ []) one)
        (denies.unreached [] net.device.station net.device.live (asks.Release unheard.sequence) unheard.bare.stands.of_device unheard.unreached tt unheard.numbered)
        unheard.bare.unrelated refl
        (λ device same still.
        subst (λ (n : ℕ). Leads as_flash n (begun_with next (cleared net device))) (sym one_less)
        (starts_clear (cleared net device) (stands_as net device same still unheard.bare.stands) refl
        (ap (λ (l : Live). l.rest.link) still ∙ unheard.bare.unrelated))))
      where
        one_less : suc (write_count setup.plan + 4) ≡ limit
        one_less = omega arith

    starts_again : (net : Net F) → gone net → Leads as_flash limit (begun_with next net)
    starts_again net (inl over) = starts_clear net over.stands over.nothing over.lasts
    starts_again net (inr unheard) = starts_by net unheard unheard.under_way

    -- ---- the pause

    starts_now : (plant after : Plant F) (round : PlantRound as_flash pause plant after) → plant.later ≡ next ∷ more → nat_le pause (plant.idle + 1) ≡ true
        → gone round.net → LeadsBack as_flash pause limit after
    starts_now plant after round later now is =
        subst (LeadsBack as_flash pause limit) (sym (round.goes_on
        ∙ ended_round as_flash setup next identity laws again again_next ends can starts pause more next_starts plant round.net later
        (cause_of as_flash setup next identity laws again again_next ends can starts denies halfway round.net (inl is))
        (ended_for as_flash setup next identity laws again again_next ends can starts denies halfway round.net (inl is)) true now))
        (plant_leads as_flash pause limit (record { net = begun_with next round.net; later = more; idle = 0 }) (starts_again round.net is))

    waits_yet : (plant after : Plant F) (round : PlantRound as_flash pause plant after) → plant.later ≡ next ∷ more → nat_le pause (plant.idle + 1) ≡ false
        → quit round.net → after ≡ record { net = round.net; later = next ∷ more; idle = plant.idle + 1 }
    waits_yet plant after round later early is =
        round.goes_on
        ∙ ended_round as_flash setup next identity laws again again_next ends can starts pause more next_starts plant round.net later
        (cause_of as_flash setup next identity laws again again_next ends can starts denies halfway round.net is)
        (ended_for as_flash setup next identity laws again again_next ends can starts denies halfway round.net is) false early

    -- The controller has ended, and this many units of the pause are left after the next one.
    pub quit_leads : (r : ℕ) (plant : Plant F) → plant.later ≡ next ∷ more → pause ≡ plant.idle + suc r → quit plant.net
        → LeadsBack as_flash pause (suc (sum r limit)) plant
    quit_leads zero plant later is at = inr (λ after round.
        starts_now plant after round later
        (at_most as_flash setup next identity laws again again_next ends can starts pause more next_starts pause (plant.idle + 1) (omega (arith, is)))
        (quit_on as_flash setup next identity laws again again_next ends can starts denies halfway plant.net round.net at round.round))
    quit_leads (suc r) plant later is at = inr (λ after round.
        let on = quit_on as_flash setup next identity laws again again_next ends can starts denies halfway plant.net round.net at round.round in
        subst (LeadsBack as_flash pause (suc (sum r limit)))
        (sym (waits_yet plant after round later
        (more_than as_flash setup next identity laws again again_next ends can starts pause more next_starts pause (plant.idle + 1) (omega (arith, is))) (inl on)))
        (quit_leads r (record { net = round.net; later = next ∷ more; idle = plant.idle + 1 }) refl (omega (arith, is)) (inl on)))

    -- ---- until the end

    abbrev soon : ℕ → Net F → Type 0
    soon n net = EndsSoon as_flash setup next identity laws again again_next ends can starts denies halfway n net

    abbrev end_limit : ℕ
    end_limit = suc (sum (pause - 2) limit)

    enough_to_end : (n : ℕ) → end_limit ≤ sum n end_limit
    enough_to_end n = let is : sum n end_limit ≡ n + end_limit = sum_is n end_limit in omega (arith, is)

    soon_step : (n : ℕ) (plant after : Plant F) (round : PlantRound as_flash pause plant after) → plant.later ≡ next ∷ more → plant.idle ≡ 0 → 2 ≤ pause
        → (soon n round.net → LeadsBack as_flash pause (sum n end_limit) (record { net = round.net; later = plant.later; idle = 0 }))
        → quit round.net ⊎ ((is_ended round.net.controller.live.phase ≡ false) × soon n round.net)
        → LeadsBack as_flash pause (sum n end_limit) after
    soon_step n plant after round later idle long on (inl ended) =
        leads_more as_flash pause end_limit (sum n end_limit) after (enough_to_end n)
        (subst (LeadsBack as_flash pause end_limit)
        (sym (waits_yet plant after round later
        (more_than as_flash setup next identity laws again again_next ends can starts pause more next_starts pause (plant.idle + 1) (omega (arith, long, idle)))
        ended))
        (quit_leads (pause - 2) (record { net = round.net; later = next ∷ more; idle = plant.idle + 1 }) refl (omega (arith, idle, long)) ended))
    soon_step n plant after round later idle long on (inr still) =
        subst (LeadsBack as_flash pause (sum n end_limit)) (sym (round.goes_on ∙ goes_on_with pause plant round.net still.0)) (on still.1)

    soon_leads : (n : ℕ) (plant : Plant F) → plant.later ≡ next ∷ more → plant.idle ≡ 0 → 2 ≤ pause → soon n plant.net
        → LeadsBack as_flash pause (sum n end_limit) plant
    soon_leads zero plant later idle long never = absurd never
    soon_leads (suc n) plant later idle long ending = inr (λ after round.
        soon_step n plant after round later idle long
        (λ rest. soon_leads n (record { net = round.net; later = plant.later; idle = 0 }) later refl long rest) (ending round.net round.round))

    pub leads_by : (n left : ℕ) → n ≤ left → 2 ≤ pause → (plant : Plant F) → plant.later ≡ next ∷ more → plant.idle ≡ 0 → soon n plant.net
        → LeadsBack as_flash pause (left + pause + limit) plant
    leads_by n left few long plant later idle ending =
        leads_more as_flash pause (sum n end_limit) (left + pause + limit) plant enough (soon_leads n plant later idle long ending)
      where
        enough : sum n end_limit ≤ left + pause + limit
        enough =
            let is : sum n end_limit ≡ n + end_limit = sum_is n end_limit in
            let end : sum (pause - 2) limit ≡ pause - 2 + limit = sum_is (pause - 2) limit in
            omega (arith, is, end, long, few)

    -- ---- the two laws

    bare_at : (awaited : Awaited) (plant : Plant F) → IsAbandoned setup next identity awaited plant
        → IsBare as_flash setup next identity laws again again_next ends can starts denies halfway plant.net
    bare_at awaited plant at = record {
      stands = record {
        ignored = subst (λ (fs : List (List ℕ)). AllByRecursion (IsIgnored setup) fs) (sym at.silent) tt;
        ignored_next = subst (λ (fs : List (List ℕ)). AllByRecursion (IsIgnored next) fs) (sym at.silent) tt;
        of_device = at.of_device;
        of_plan = at.of_plan;
        named = at.named;
        sized = at.sized;
        addressed = at.addressed;
        uncalled_next = at.uncalled_next;
        unasked = at.unasked;
      };
      silent = at.silent;
      unrelated = at.unrelated;
    }

    -- Each call is answered negatively.
    asks_soon : (number left : ℕ) (plant : Plant F) → (at : AsksInVain setup next identity number left plant) → (sent : Bool) → at.sent ≡ sent
        → soon (units_to_denial setup.plan number sent plant.net.controller) plant.net
    asks_soon number left plant at true e =
        subst (λ (n : ℕ). soon n plant.net) (none_more (denials_left setup.plan number))
        (asked_soon as_flash setup next identity laws again again_next ends can starts denies halfway at.at.serial number plant.net (record {
          bare = bare_at (Response number) plant at.at;
          few = at.at.in_plan;
          expects = at.at.expects;
          reached = at.reached;
          new_call = at.new_call;
          outputs = at.outputs;
          are = at.are;
          under_way = at.under_way
              ∙ ap (λ (b : Bool). if b then request_to setup identity (writing_from setup.plan number) ∷ at.outputs else at.outputs) e;
        })
        (subst (λ (n : ℕ). LastsFor n plant.net.controller) (sym (none_more (denials_left setup.plan number)))
        (subst (λ (b : Bool). LastsFor (units_to_denial setup.plan number b plant.net.controller) plant.net.controller) e at.patient)))
      where
        none_more : (n : ℕ) → n ≡ 0 + n
        none_more n = omega arith
    asks_soon number left plant at false e =
        let rest = 31999 - plant.net.controller.live.waited in
        let is : 32000 - plant.net.controller.live.waited ≡ suc rest = omega (arith, at.unrepeated) in
        subst (λ (n : ℕ). soon (n + denials_left setup.plan number) plant.net) (sym is)
        (to_ask_soon as_flash setup next identity laws again again_next ends can starts denies halfway at.at.serial rest number plant.net is (record {
          bare = bare_at (Response number) plant at.at;
          few = at.at.in_plan;
          expects = at.at.expects;
          reached = at.reached;
          new_call = at.new_call;
          outputs = subst (AllByRecursion (IsOutputs setup (Some at.at.serial) identity.mac)) (sym (at.under_way
              ∙ ap (λ (b : Bool). if b then request_to setup identity (writing_from setup.plan number) ∷ at.outputs else at.outputs) e)) at.are;
        })
        (subst (λ (n : ℕ). LastsFor (n + denials_left setup.plan number) plant.net.controller) is
        (subst (λ (b : Bool). LastsFor (units_to_denial setup.plan number b plant.net.controller) plant.net.controller) e at.patient)))

    pub comes_back_refused : (number left : ℕ) → 2 ≤ pause → (plant : Plant F) → (at : AsksInVain setup next identity number left plant) → at.at.more ≡ more
        → LeadsBack as_flash pause (left + pause + limit) plant
    comes_back_refused number left long plant at same =
        leads_by (units_to_denial setup.plan number at.sent plant.net.controller) left at.time long plant
        (at.at.later ∙ ap (λ (l : List Setup). next ∷ l) same) at.at.idle (asks_soon number left plant at at.sent refl)

    -- Nothing is answered.
    waits_soon : (awaited : Awaited) (left n : ℕ) (plant : Plant F) → (at : WaitsInVain setup next identity awaited left plant)
        → plant.net.controller.live.left ≡ suc n
        → IsUnreached setup at.at.serial identity awaited plant.net ⊎ IsUnasked setup at.at.serial identity awaited plant.net → soon (suc n) plant.net
    waits_soon awaited left n plant at is (inl away) =
        away_soon as_flash setup next identity laws again again_next ends can starts denies halfway at.at.serial n awaited plant.net is (record {
          bare = bare_at awaited plant at.at;
          in_plan = at.at.in_plan;
          expects = at.at.expects;
          unreached = away.unreached;
          under_way = away.under_way;
        })
    waits_soon awaited left n plant at is (inr unasked) =
        mute_soon as_flash setup next identity laws again again_next ends can starts denies halfway at.at.serial n awaited plant.net is (record {
          bare = bare_at awaited plant at.at;
          in_plan = at.at.in_plan;
          expects = at.at.expects;
          outputs = unasked.outputs;
          unrepeated = unasked.unrepeated;
          new_call = by_reach (is_reached setup plant.net.device.live) refl;
        })
      where
        by_reach : (reached : Bool) → is_reached setup plant.net.device.live ≡ reached
            → (is_reached setup plant.net.device.live ≡ false)
            ⊎ ((is_reached setup plant.net.device.live ≡ true) × IsNewCall setup (last_call setup.plan awaited + 1) plant.net.device.live)
        by_reach true e = inr (e, unasked.new_call)
        by_reach false e = inl e

    pub comes_back_unanswered : (awaited : Awaited) (left : ℕ) → 2 ≤ pause → (plant : Plant F) → (at : WaitsInVain setup next identity awaited left plant)
        → at.at.more ≡ more → LeadsBack as_flash pause (left + pause + limit) plant
    comes_back_unanswered awaited left long plant at same =
        let n = plant.net.controller.live.left - 1 in
        let is : plant.net.controller.live.left ≡ suc n = omega (arith, at.limited) in
        leads_by (suc n) left (omega (arith, is, at.time)) long plant
        (at.at.later ∙ ap (λ (l : List Setup). next ∷ l) same) at.at.idle (waits_soon awaited left n plant at is at.unheard)
