-- A start after the end of a controller: no relation of an earlier start is in its way, since the device has none.
use Rattle.std.proofs.Common.{◌≡◌, inl, inr, ◌+◌, ◌++◌, ℕ, zero, suc, false, List, [], ◌∷◌, Some, None, refl, sym, ap, subst, ◌∙◌, arith}
use Rattle.std.specs.List.{AllByRecursion}
use Rattle.std.proofs.lemmas.Bool.{false≢true}
use Rattle.flash_model.specs.declared.flash.Flash.{Ghosts as Flash}
use Rattle.pn_values.specs.declared.identity.Identity.{Identity}
use Rattle.plans.specs.declared.parts.Parts.{Parts}
use Rattle.rpc_core.specs.Cache.{Kept, kept_of}
use Rattle.device_core.specs.State.{State}
use Rattle.relations.specs.RelationState.{uuid_of}
use Rattle.controller_messages.specs.declared.setup.Setup.{Setup}
use Rattle.controller_messages.specs.Requests.{write_count}
use Rattle.controller_core.specs.declared.stored.event.Event.TheVariants.{Tick}
use Rattle.controller_core.specs.declared.stored.state.State.TheVariants.{Exchanging, Looking}
use Rattle.controller_core.specs.stored.State.{Controlling}
use Rattle.controller_core.specs.Machine.{Stepped, opening_of, step_of}
use Rattle.rounds_law.specs.Again.{LeadsBack, Plant, begun_with, made}
use Rattle.rounds_law.specs.Anywhere.{AllLast, AreBack, HasPatience, IsAnyDevice, LeadsAnywhereBack}
use Rattle.rounds_law.specs.AnywhereFrames.{AreOwn, IsOwn, IsRelease}
use Rattle.rounds_law.specs.AnywhereSame.{IsOfStart, IsOfThisStart}
use Rattle.rounds_law.specs.Path.{IsIgnored}
use Rattle.rounds_law.specs.Rounds.{Net, Round, hears_all}
use Rattle.rounds_law.specs.Stages.{IsLooking, Leads}
use Rattle.rounds_law.specs.Start.{start_up_limit}
use Rattle.rounds_law.proofs.AnywhereControllerEnded.{ended_frame, ended_unit}
use Rattle.rounds_law.proofs.AnywhereControllerSteps.{controller_frame}
use Rattle.rounds_law.proofs.AnywhereDeviceLaw.{device_frame}
use Rattle.rounds_law.proofs.AnywhereLaw.{any_first}
use Rattle.rounds_law.proofs.AnywhereLaws.{AnywhereLaws, keeps}
use Rattle.rounds_law.proofs.AnywhereLinkRelease.{link_release, release_ignored}
use Rattle.rounds_law.proofs.AnywhereAsked.{nothing_asked, unrelated_asked}
use Rattle.rounds_law.proofs.AnywhereLinkUnit.{link_unit}
use Rattle.rounds_law.proofs.AnywhereParts.{Hears, IsLong, LinkRelease, ReleaseIgnored}
use Rattle.rounds_law.proofs.AnywherePlants.{IsUnderWay}
use Rattle.rounds_law.proofs.AnywhereRounds.{device_after}
use Rattle.rounds_law.proofs.AnywhereRuns.{own_opening}
use Rattle.rounds_law.proofs.AnywhereSameDevice.{SameLaws}
use Rattle.rounds_law.proofs.AnywhereSameFresh.{after_next, long_after, uncalled}
use Rattle.rounds_law.proofs.AnywhereSameLeads.{going, round_leads, same_on, start_leads as same_start, under_on}
use Rattle.rounds_law.proofs.AnywhereStarts.{InParts, addressed_next, bare_on, in_parts, of_plan_next, start_leads}

-- A controller that was just made ignores such frames.
ignored_all : (setup : Setup) (controller : Controlling) (frames others : List (List ℕ)) → controller.setup ≡ setup → controller.live.stands ≡ false
    → AllByRecursion (IsIgnored setup) frames → hears_all controller (frames ++ others) ≡ hears_all controller others
ignored_all setup controller [] others of_setup unestablished all = refl
ignored_all setup controller (octets ∷ frames) others of_setup unestablished all =
    ap (λ (step : Stepped). record {
      controller = (hears_all step.controller (frames ++ others)).controller;
      frames = step.frames ++ (hears_all step.controller (frames ++ others)).frames;
    }) (all.0 controller of_setup unestablished)
    ∙ ignored_all setup controller frames others of_setup unestablished all.1

looks_not : Looking ≡ Exchanging → ⊥
looks_not bad = absurd cc

-- A controller that was just made exchanges no data yet.
not_back : {F : Type 0} (setup : Setup) (identity : Identity) (net : Net F) → net.controller ≡ made setup → AreBack identity net → ⊥
not_back setup identity net is (inl both) = looks_not (sym (ap (λ (c : Controlling). c.live.phase) is) ∙ both.controller)
not_back setup identity net is (inr both) = looks_not (sym (ap (λ (c : Controlling). c.live.phase) is) ∙ both.controller)

module _ {F : Type 0} {S : ℕ} (as_flash : Flash F S) (setup next : Setup) (identity : Identity) (silence : ℕ) (laws : AnywhereLaws setup identity)
    (next_laws : SameLaws next identity) (next_starts : (net : Net F) → IsLooking next identity net → Leads as_flash (start_up_limit next.plan) net)
    (long : IsLong as_flash setup next identity silence) (patience : HasPatience setup.options) (pause : ℕ) where
  -- In any state, without a relation.
  abbrev IsBare : State F → Type 0
  IsBare device = IsAnyDevice setup next identity silence device.station device.live × (device.live.rest.link ≡ None)

  releases_heard : LinkRelease as_flash setup next identity silence
  releases_heard = link_release as_flash setup next identity silence laws.calls

  releases_ignored : ReleaseIgnored as_flash setup next identity silence
  releases_ignored = release_ignored as_flash setup next identity silence laws.calls laws.answers long.of_device

  bare_after : (before after : State F) (octets : List ℕ) (frames : List (List ℕ)) → Hears as_flash before octets frames after → IsBare before
      → IsOwn setup IsRelease octets → IsBare after × AllByRecursion (IsIgnored next) frames
  bare_after =
      bare_on as_flash setup next identity silence (controller_frame laws.controller setup) (ended_frame laws.controller setup)
      (ended_unit laws.controller setup)
      (device_frame as_flash setup next identity silence laws.device) (link_unit as_flash setup next identity silence) releases_heard
      (keeps as_flash setup next identity silence laws long) releases_ignored next_starts long patience

  start : (net : Net F) → IsBare net.device → AreOwn setup IsRelease net.to_device → net.to_controller ≡ []
      → Leads as_flash (start_up_limit setup.plan) (begun_with next net)
  start =
      start_leads as_flash setup next identity silence (controller_frame laws.controller setup) (ended_frame laws.controller setup)
      (ended_unit laws.controller setup)
      (device_frame as_flash setup next identity silence laws.device) (link_unit as_flash setup next identity silence) releases_heard
      (keeps as_flash setup next identity silence laws long) releases_ignored next_starts long patience

  -- ---- the first net of the start: the device has heard the Releases

  abbrev first : State F → Net F
  first device = record { device = device; controller = made next; to_device = opening_of (made next) ∷ []; to_controller = [] }

  -- One that could follow the next start.
  abbrev third : State F → Setup
  third device = after_next next device.live.rest.calls

  device_is : (device : State F) → IsBare device → IsAnyDevice next (third device) identity silence device.station device.live
  device_is device is = record {
    of_device = is.0.of_device;
    of_plan = of_plan_next as_flash setup next identity silence (controller_frame laws.controller setup) (ended_frame laws.controller setup)
        (ended_unit laws.controller setup)
        (device_frame as_flash setup next identity silence laws.device) (link_unit as_flash setup next identity silence) releases_heard
        (keeps as_flash setup next identity silence laws long) releases_ignored next_starts long patience device.station device.live.rest.real is.0.of_plan;
    named = record { name = is.0.named.name ∙ ap (λ (p : Parts). p.station.name) (sym long.starts.plan) };
    sized = is.0.sized;
    addressed = addressed_next as_flash setup next identity silence (controller_frame laws.controller setup) (ended_frame laws.controller setup)
        (ended_unit laws.controller setup)
        (device_frame as_flash setup next identity silence laws.device) (link_unit as_flash setup next identity silence) releases_heard
        (keeps as_flash setup next identity silence laws long) releases_ignored next_starts long patience device.live is.0.addressed;
    lasts = subst (AllLast next silence) (sym is.1) tt;
    stored = λ kept found. none_found kept found;
    stored_other = λ kept found. none_found kept found;
    answers = λ keyed kept found. none_found kept found;
    uncalled_next = uncalled next device.live.rest.calls;
    asked = nothing_asked next (third device) (uuid_of device.live.rest.link) device.live.rest.asked.standing
        (unrelated_asked setup next device.live.rest.link device.live.rest.asked.standing is.1 is.0.asked);
  }
    where
      none_found : {A : Type 0} (kept : Kept) → kept_of next.activity device.live.rest.calls ≡ Some kept → A
      none_found kept found = not_both kept (sym is.0.uncalled_next ∙ found)
        where
          not_both : {A : Type 0} (kept : Kept) → None ≡ Some kept → A
          not_both kept bad = absurd cc

  under_first : (device : State F) → IsBare device → IsUnderWay as_flash next (third device) identity silence (first device)
  under_first device is = record {
    controller = any_first next;
    device = device_is device is;
    to_device = (own_opening next, tt);
    to_controller = tt;
  }

  same_first : (device : State F) → IsBare device → IsOfThisStart next (first device)
  same_first device is = record {
    route = λ up. absurd (false≢true up);
    stored = λ kept found. none_found kept found;
    under_way = tt;
    relation = inl (subst (IsOfStart next) (sym is.1) tt);
  }
    where
      none_found : {A : Type 0} (kept : Kept) → kept_of next.activity device.live.rest.calls ≡ Some kept → A
      none_found kept found = not_both kept (sym is.0.uncalled_next ∙ found)
        where
          not_both : {A : Type 0} (kept : Kept) → None ≡ Some kept → A
          not_both kept bad = absurd cc

  -- The first round, from there.
  first_round : (net after : Net F) → net.to_controller ≡ [] → (round : Round as_flash (begun_with next net) after)
      → (parts : InParts as_flash net.device net.to_device (opening_of (made next) ∷ []) round.answers round.device)
      → AllByRecursion (IsIgnored next) parts.one → Round as_flash (first parts.between) after
  first_round net after silent round parts ignored =
      let same : hears_all (made next) (net.to_controller ++ round.answers) ≡ hears_all (made next) parts.other =
      ap (λ (fs : List (List ℕ)). hears_all (made next) (fs ++ round.answers)) silent
      ∙ (ap (λ (fs : List (List ℕ)). hears_all (made next) fs) parts.all
      ∙ ignored_all next (made next) parts.one parts.other refl refl ignored) in
      record {
        device = round.device;
        answers = parts.other;
        arrives = parts.later;
        unit = round.unit;
        controller = round.controller ∙ ap (λ (step : Stepped). (step_of step.controller Tick).controller) same;
        to_device = round.to_device ∙ ap (λ (step : Stepped). step.frames ++ (step_of step.controller Tick).frames) same;
      }

  -- ---- the start

  patience_next : HasPatience next.options
  patience_next = subst HasPatience (sym long.starts.options) patience

  five : start_up_limit setup.plan ≡ suc (write_count setup.plan + 4)
  five = omega arith

  after_first : (net after : Net F) → Leads as_flash (suc (write_count setup.plan + 4)) (begun_with next net) → Round as_flash (begun_with next net) after
      → Leads as_flash (write_count setup.plan + 4) after
  after_first net after (inl both) round = absurd (not_back next identity (begun_with next net) refl (inl both))
  after_first net after (inr leads) round = leads.1 after round

  -- The start leads to the same relation within the rounds after which both serve.
  pub begun_leads : (limit : ℕ) (net : Net F) (more : List Setup) → IsUnderWay as_flash setup next identity silence net → AreOwn setup IsRelease net.to_device
      → net.to_controller ≡ [] → net.device.live.rest.link ≡ None
      → LeadsAnywhereBack as_flash identity pause limit (record { net = begun_with next net; later = more; idle = 0 })
      → LeadsBack as_flash pause limit (record { net = begun_with next net; later = more; idle = 0 })
  begun_leads zero net more under releases silent none back = absurd (not_back next identity (begun_with next net) refl back)
  begun_leads (suc limit) net more under releases silent none (inl back) = absurd (not_back next identity (begun_with next net) refl back)
  begun_leads (suc limit) net more under releases silent none (inr back) = inr (λ after round.
      let plant : Plant F = record { net = begun_with next net; later = more; idle = 0 } in
      let parts = in_parts as_flash net.device net.to_device (opening_of (made next) ∷ []) round.round.answers round.round.device round.round.arrives in
      let heard = device_after as_flash IsBare (IsOwn setup IsRelease) (IsIgnored next) bare_after net.device net.to_device parts.one parts.between
      parts.arrives (under.device, none) releases in
      let other = third parts.between in
      let longer = long_after as_flash setup next identity silence parts.between.live.rest.calls long in
      let one = first_round net round.net silent round.round parts heard.1 in
      let under_one = under_first parts.between heard.0 in
      let at = under_on as_flash next other identity silence next_laws longer patience_next (first parts.between) round.net under_one one in
      let same = same_on as_flash next other identity silence next_laws longer (first parts.between) round.net under_one one
      (same_first parts.between heard.0) in
      let lead = after_first net round.net
      (subst (λ (n : ℕ). Leads as_flash n (begun_with next net)) five (start net (under.device, none) releases silent)) round.round in
      round_leads as_flash next other identity silence next_laws longer patience_next pause limit (write_count setup.plan + 4) plant after round lead
      (λ goes. same_start as_flash next other identity silence next_laws longer patience_next pause limit (write_count setup.plan + 4)
      (going plant round.net) at same lead goes) (back after round))
