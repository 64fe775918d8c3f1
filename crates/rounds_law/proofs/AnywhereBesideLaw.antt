-- A controller that is started again as often as is needed: each start at a device with a relation ends in two rounds, and the relation is over in
-- time.
use Rattle.std.proofs.Common.{◌≡◌, ◌⊎◌, inl, inr, ◌≤◌, ◌+◌, ◌-◌, ◌*◌, ℕ, zero, suc, true, false, List, [], ◌∷◌, ◌++◌, length, None, Some, refl}
use Rattle.std.proofs.Common.{sym, ap, subst, ◌∙◌, arith}
use Rattle.std.specs.Prelude.{nat_le}
use Rattle.std.specs.List.{AllByRecursion}
use Rattle.std.proofs.Math.Nat.{suc-mul}
use Rattle.flash_model.specs.declared.flash.Flash.{Ghosts as Flash}
use Rattle.pn_values.specs.declared.identity.Identity.{Identity}
use Rattle.relations.specs.RelationState.{RelationState}
use Rattle.controller_messages.specs.declared.setup.Setup.{Setup}
use Rattle.controller_messages.specs.Requests.{write_count}
use Rattle.network_world.specs.World.{is_ended}
use Rattle.rounds_law.specs.Again.{Plant, begun_with}
use Rattle.rounds_law.specs.Anywhere.{IsLate, LeadsAnywhereBack, remains}
use Rattle.rounds_law.specs.AnywhereAgain.{StartLaws}
use Rattle.rounds_law.specs.Rounds.{Net}
use Rattle.rounds_law.specs.Start.{CanStart, start_up_limit}
use Rattle.rounds_law.proofs.AgainLaw.{goes_on_with, sum, sum_is}
use Rattle.rounds_law.proofs.AnywhereBesideEarly.{UnitLaws}
use Rattle.rounds_law.proofs.AnywhereBesideFree.{free_leads}
use Rattle.rounds_law.proofs.AnywhereBesideLooks.{AsksBeside, IsReady, asks_beside}
use Rattle.rounds_law.proofs.AnywhereBesidePause.{IsOver, IsPast, past_first, past_leads, settled_after}
use Rattle.rounds_law.proofs.AnywhereBesideRefused.{IsEndedBeside, ends_beside}
use Rattle.rounds_law.proofs.AnywhereBesideRound.{Pair, UnderWayForAll}
use Rattle.rounds_law.proofs.AnywhereParted.{there_or_not}
use Rattle.rounds_law.proofs.AnywhereRounds.{leads_longer}

-- The units that these starts and the pauses before them take, if each is refused.
abbrev pub room : List Setup → ℕ → ℕ
room [] pause = 0
room (start ∷ starts) pause = suc (pause + room starts pause)

pub room_is : (starts : List Setup) (pause : ℕ) → room starts pause ≡ length starts * suc pause
room_is [] pause = omega arith
room_is (start ∷ starts) pause =
    let one = suc-mul (length starts) (suc pause) in
    let more : room starts pause ≡ length starts * suc pause = room_is starts pause in
    omega (arith, one, more)

module _ {F : Type 0} {S : ℕ} (as_flash : Flash F S) (identity : Identity) (silence : ℕ) (said : UnitLaws) where
  -- What is known of the starts that follow.
  abbrev pub AllApart : Setup → List Setup → Type 0
  AllApart before [] = Unit {0}
  AllApart before (setup ∷ later) =
      StartLaws as_flash identity setup × CanStart setup identity × AllByRecursion (Pair as_flash identity silence before) (setup ∷ later)
      × AllApart setup later

  pub pairs_of : (before : Setup) (starts : List Setup) → AllApart before starts → AllByRecursion (Pair as_flash identity silence before) starts
  pairs_of before [] all = tt
  pairs_of before (setup ∷ later) all = all.2

  -- A controller that asks has not ended.
  asks_on : (before setup : Setup) (later : List Setup) (pairs : AllByRecursion (Pair as_flash identity silence before) (setup ∷ later))
      (laws : StartLaws as_flash identity setup) (can : CanStart setup identity) (left : ℕ) (net : Net F)
      → AsksBeside as_flash identity silence said before setup later pairs laws can left net → is_ended net.controller.live.phase ≡ false
  asks_on before setup later pairs laws can left net (inl (addressed, at)) = ap is_ended at.asks.in_phase
  asks_on before setup later pairs laws can left net (inr (able, at)) = ap is_ended at.asks.in_phase

  asks_time : (before setup : Setup) (later : List Setup) (pairs : AllByRecursion (Pair as_flash identity silence before) (setup ∷ later))
      (laws : StartLaws as_flash identity setup) (can : CanStart setup identity) (left : ℕ) (net : Net F)
      → AsksBeside as_flash identity silence said before setup later pairs laws can left net
      → (net.device.live.rest.link ≡ None) ⊎ (suc (remains net.device.live.rest.link) ≤ left)
  asks_time before setup later pairs laws can left net (inl (addressed, at)) = at.time
  asks_time before setup later pairs laws can left net (inr (able, at)) = at.time

  -- With a relation, some units remained before the round.
  some_left : (left : ℕ) (net : Net F) (link : RelationState) → net.device.live.rest.link ≡ Some link
      → (net.device.live.rest.link ≡ None) ⊎ (suc (remains net.device.live.rest.link) ≤ left) → 1 ≤ left
  some_left left net link has (inl none) = absurd (not_both (sym none ∙ has))
    where
      not_both : None ≡ Some link → ⊥
      not_both bad = absurd cc
  some_left left net link has (inr few) = omega (arith, few)

  module _ (pause : ℕ) (some : 1 ≤ pause) (more : List Setup) where
    -- The start has begun at a device whose relation has at most this many units, and this many rounds are enough.
    abbrev Leads : (before setup : Setup) (later : List Setup) → Type 0
    Leads before setup later = (all : AllApart before (setup ∷ later)) (fewer left : ℕ) (net : Net F)
        → IsReady as_flash identity silence said before setup later all.2 all.0 all.1 fewer net
        → fewer ≤ room later pause → start_up_limit before.plan ≤ left → (1 ≤ fewer → fewer + pause + start_up_limit before.plan ≤ left)
        → LeadsAnywhereBack as_flash identity pause left (record { net = begun_with setup net; later = later ++ more; idle = 0 })

    -- The same of the first of these starts, if there is one.
    abbrev LeadsAfter : Setup → List Setup → Type 0
    LeadsAfter before [] = Unit {0}
    LeadsAfter before (setup ∷ later) = Leads before setup later

    -- After the round of a start that was refused.
    past_ended : (before setup next : Setup) (rest : List Setup) (pairs : AllByRecursion (Pair as_flash identity silence before) (setup ∷ next ∷ rest))
        (laws : StartLaws as_flash identity setup) (can : CanStart setup identity)
        (later_pairs : AllByRecursion (Pair as_flash identity silence setup) (next ∷ rest)) (fewer : ℕ) (net : Net F)
        → IsEndedBeside as_flash identity silence said before setup next rest pairs laws can later_pairs fewer net
        → IsPast as_flash identity silence said setup (next ∷ rest) fewer 1 net
    past_ended before setup next rest pairs laws can later_pairs fewer net over = record {
      nets = over.nets;
      ended = over.ended;
      releases = over.releases;
      early = over.early;
      time = by_time over.time;
    }
      where
        by_time : (net.device.live.rest.link ≡ None) ⊎ (suc (remains net.device.live.rest.link) ≤ fewer)
            → (net.device.live.rest.link ≡ None) ⊎ (remains net.device.live.rest.link + 1 ≤ fewer)
        by_time (inl none) = inl none
        by_time (inr few) = inr (omega (arith, few))

    ready_of : (before setup : Setup) (later : List Setup) (all : AllApart before (setup ∷ later)) (fewer : ℕ) (net : Net F)
        → IsOver as_flash identity silence said before setup later all.2 fewer net
        → IsReady as_flash identity silence said before setup later all.2 all.0 all.1 fewer net
    ready_of before setup later all fewer net over = record { nets = over.nets; releases = over.releases; early = over.early.0; few = over.few }

    -- From the second round of a start that is refused.
    refused_leads : (before setup next : Setup) (rest : List Setup) (all : AllApart before (setup ∷ next ∷ rest)) → Leads setup next rest
        → (fewer left : ℕ) (net : Net F)
        → AsksBeside as_flash identity silence said before setup (next ∷ rest) all.2 all.0 all.1 fewer net
        → (link : RelationState) → net.device.live.rest.link ≡ Some link
        → fewer ≤ room (next ∷ rest) pause → 1 ≤ fewer → fewer + pause + start_up_limit before.plan ≤ suc left
        → LeadsAnywhereBack as_flash identity pause left (record { net = net; later = next ∷ (rest ++ more); idle = 0 })
    refused_leads before setup next rest all leads zero left net asks link has few one enough = absurd (omega (arith, one))
    refused_leads before setup next rest all leads (suc fewer) zero net asks link has few one enough = absurd (omega (arith, enough, some))
    refused_leads before setup next rest all leads (suc fewer) (suc left) net asks link has few one enough = inr (λ after round.
        let over = ends_beside as_flash identity silence said before setup next rest all.2 all.0 all.1 all.3.2 fewer net round.net asks link has round.round in
        let past = past_ended before setup next rest all.2 all.0 all.1 all.3.2 fewer round.net over in
        let plan : start_up_limit setup.plan ≡ start_up_limit before.plan = ap start_up_limit all.2.0.long.starts.plan in
        let r = pause - 1 in
        let same : sum r (left - r) ≡ r + (left - r) = sum_is r (left - r) in
        subst (LeadsAnywhereBack as_flash identity pause left)
        (sym (round.goes_on
        ∙ settled_after pause (record { net = net; later = next ∷ (rest ++ more); idle = 0 }) round.net next (rest ++ more) refl over.ended))
        (leads_longer as_flash identity pause (sum r (left - r)) left _ (omega (arith, same, enough, some))
        (past_leads as_flash identity silence said setup next rest all.3.2 pause fewer (left - r) (rest ++ more)
        (λ at ready. leads all.3 (fewer - pause) (left - r) at (ready_of setup next rest all.3 (fewer - pause) at ready)
        (omega (arith, few)) (omega (arith, enough, some, plan)) (λ remaining. omega (arith, remaining, enough, some, plan)))
        r 1 round.net past (omega (arith, some)) (nat_le pause 1) refl)))

    by_link : (before setup : Setup) (later : List Setup) (all : AllApart before (setup ∷ later)) → LeadsAfter setup later
        → (fewer left : ℕ) (net : Net F) → AsksBeside as_flash identity silence said before setup later all.2 all.0 all.1 fewer net
        → fewer ≤ room later pause → start_up_limit before.plan ≤ suc left → (1 ≤ fewer → fewer + pause + start_up_limit before.plan ≤ suc left)
        → (net.device.live.rest.link ≡ None) ⊎ ((link : RelationState) × (net.device.live.rest.link ≡ Some link))
        → LeadsAnywhereBack as_flash identity pause left (record { net = net; later = later ++ more; idle = 0 })
    by_link before setup later all leads fewer left net asks few limit enough (inl none) =
        let plan : write_count setup.plan ≡ write_count before.plan = ap write_count all.2.0.long.starts.plan in
        let plant : Plant F = record { net = net; later = later ++ more; idle = 0 } in
        leads_longer as_flash identity pause (write_count setup.plan + 4) left plant (omega (arith, limit, plan))
        (free_leads as_flash identity silence said before setup later all.2 all.0 all.1 pause fewer plant asks none)
    by_link before setup [] all leads fewer left net asks few limit enough (inr is) =
        let one = some_left fewer net is.0 is.1 (asks_time before setup [] all.2 all.0 all.1 fewer net asks) in
        absurd (omega (arith, one, few))
    by_link before setup (next ∷ rest) all leads fewer left net asks few limit enough (inr is) =
        let one = some_left fewer net is.0 is.1 (asks_time before setup (next ∷ rest) all.2 all.0 all.1 fewer net asks) in
        refused_leads before setup next rest all leads fewer left net asks is.0 is.1 few one (enough one)

    -- One start, if those that follow it lead.
    one_leads : (before setup : Setup) (later : List Setup) → LeadsAfter setup later → Leads before setup later
    one_leads before setup later leads all fewer zero net ready few limit enough = absurd (omega (arith, limit))
    one_leads before setup later leads all fewer (suc left) net ready few limit enough = inr (λ after round.
        let asks = asks_beside as_flash identity silence said before setup later all.2 all.0 all.1 (pairs_of setup later all.3) fewer net round.net ready
        round.round in
        subst (LeadsAnywhereBack as_flash identity pause left)
        (sym (round.goes_on ∙ goes_on_with pause (record { net = begun_with setup net; later = later ++ more; idle = 0 }) round.net
        (asks_on before setup later all.2 all.0 all.1 fewer round.net asks)))
        (by_link before setup later all leads fewer left round.net asks few limit enough (there_or_not round.net.device.live.rest.link)))

    pub starts_lead : (later : List Setup) (before setup : Setup) → Leads before setup later
    starts_lead [] before setup = one_leads before setup [] tt
    starts_lead (next ∷ rest) before setup = one_leads before setup (next ∷ rest) (starts_lead rest setup next)

    -- ---- from the end on

    -- From the end of a controller in any state on, both ends exchange data within the time of the relation, the pause, and the time of a start.
    pub parted_again : (setup next : Setup) (rest : List Setup) (all : AllApart setup (next ∷ rest)) → silence + 3 ≤ room (next ∷ rest) pause
        → (plant : Plant F) → UnderWayForAll as_flash identity silence setup (next ∷ rest) plant.net → plant.later ≡ next ∷ (rest ++ more)
        → is_ended plant.net.controller.live.phase ≡ true → IsLate setup silence plant
        → LeadsAnywhereBack as_flash identity pause (silence + pause + 2 + start_up_limit setup.plan) plant
    parted_again setup next rest all enough plant nets later ended late =
        let left = silence + 2 + start_up_limit setup.plan in
        let r = pause - 1 in
        let same : sum r left ≡ r + left = sum_is r left in
        leads_longer as_flash identity pause (suc (sum r left)) (silence + pause + 2 + start_up_limit setup.plan) plant (omega (arith, same, some))
        (inr (λ after round.
        let past = past_first as_flash identity silence said setup next rest all.2 plant round.net nets ended late round.round in
        subst (LeadsAnywhereBack as_flash identity pause (sum r left))
        (sym (round.goes_on ∙ settled_after pause plant round.net next (rest ++ more) later past.ended))
        (past_leads as_flash identity silence said setup next rest all.2 pause (silence + 2) left (rest ++ more)
        (λ at ready. starts_lead rest setup next all (silence + 2 - pause) left at (ready_of setup next rest all (silence + 2 - pause) at ready)
        (omega (arith, enough)) (omega arith) (λ remaining. omega (arith, remaining)))
        r (plant.idle + 1) round.net past (omega (arith, some)) (nat_le pause (plant.idle + 1)) refl)))
