-- The relation of a device whose controller exchanges data: what a round leaves of it, and which of the device's frames the controller accepts.
use Rattle.std.proofs.Common.{◌≡◌, ◌⊎◌, inl, inr, ◌≤◌, ℕ, suc, List, Option, Some, None, refl, sym, ap, subst, ◌∙◌}
use Rattle.std.specs.List.{AllByRecursion}
use Rattle.flash_model.specs.declared.flash.Flash.{Ghosts as Flash}
use Rattle.pn_values.specs.declared.identity.Identity.{Identity}
use Rattle.cyclic_data.specs.declared.exchange.route.Route.{Route}
use Rattle.relations.specs.RelationState.{RelationState}
use Rattle.device_frames.specs.Heard.{Ticks}
use Rattle.device_core.specs.State.{State}
use Rattle.controller_messages.specs.declared.setup.Setup.{Setup}
use Rattle.controller_core.specs.declared.stored.state.State.TheVariants.{Exchanging}
use Rattle.controller_core.specs.stored.State.{Controlling}
use Rattle.rounds_law.specs.Again.{units_left}
use Rattle.rounds_law.specs.Anywhere.{ChoosesWell, IsAnyController, IsAnyDevice}
use Rattle.rounds_law.specs.Rounds.{Goes, HearsAll, Net, Round}
use Rattle.rounds_law.proofs.AnywhereParts.{Accepts, AcceptsInputs, AreOwn, DeviceFrame, Hears, InputsOfFrame, InputsOfUnit, IsAnything, IsLong, IsMoved}
use Rattle.rounds_law.proofs.AnywhereParts.{IsOfExchange, IsOwn, LinkFrame, LinkGoesOn, LinkUnit}
use Rattle.rounds_law.proofs.AnywhereRounds.{all_as, device_after}
use Rattle.rounds_law.proofs.AnywhereExchangingController.{NoneAccepted}

-- ---- a relation, if there is one

-- If there is a relation, this holds of it.
abbrev pub Every : (RelationState → Type 0) → Option RelationState → Type 0
Every Is link = (its : RelationState) → link ≡ Some its → Is its

same_some : (one other : RelationState) → ◌≡◌ {A = Option RelationState} (Some one) (Some other) → one ≡ other
same_some one other e = cc

never_some : (one : RelationState) → ◌≡◌ {A = Option RelationState} None (Some one) → ⊥
never_some one e = absurd cc

pub every_none : (Is : RelationState → Type 0) (link : Option RelationState) → link ≡ None → Every Is link
every_none Is link none its has = absurd (never_some its (sym none ∙ has))

pub every_some : (Is : RelationState → Type 0) (link : Option RelationState) (its : RelationState) → link ≡ Some its → Is its → Every Is link
every_some Is link its has is other has_other = subst Is (same_some its other (sym has ∙ has_other)) is

-- The controller does not accept its inputs.
abbrev pub IsRefused : Identity → Controlling → RelationState → Type 0
IsRefused identity controller its = AcceptsInputs identity controller its → ⊥

-- ---- what holds of it in a round

module _ {F : Type 0} {S : ℕ} (as_flash : Flash F S) (setup next : Setup) (identity : Identity) (silence : ℕ)
    (long : IsLong as_flash setup next identity silence) (device_frame : DeviceFrame as_flash setup next identity silence)
    (link_frame : LinkFrame as_flash setup next identity silence) (link_unit : LinkUnit as_flash setup next identity silence) where
  -- The device is in some state.
  abbrev IsAt : State F → Type 0
  IsAt device = IsAnyDevice setup next identity silence device.station device.live

  own_frame : (route : Route) (octets : List ℕ) → IsOwn setup (IsOfExchange route) octets → IsOwn setup IsAnything octets
  own_frame route octets own = record { message = own.message; frame = own.frame; sendable = own.sendable; way = own.way; is = tt }

  module _ (route : Route) (Is : RelationState → Type 0)
      (moves : (before after : RelationState) → LinkGoesOn setup before after → IsMoved setup route before after → Is before → Is after) where
    moved : (after : State F) (its : RelationState) → Is its
        → (after.live.rest.link ≡ None)
        ⊎ ((later : RelationState) × (after.live.rest.link ≡ Some later) × LinkGoesOn setup its later × IsMoved setup route its later)
        → Every Is after.live.rest.link
    moved after its is (inl none) = every_none Is after.live.rest.link none
    moved after its is (inr on) = every_some Is after.live.rest.link on.0 on.1 (moves its on.0 on.2 on.3 is)

    -- A frame of the exchange.
    pub kept_by_frame : (before after : State F) (octets : List ℕ) (frames : List (List ℕ)) → Hears as_flash before octets frames after → IsAt before
        → IsOwn setup (IsOfExchange route) octets → Every Is before.live.rest.link → Every Is after.live.rest.link
    kept_by_frame before after octets frames hears at own every = by_link before.live.rest.link refl
      where
        by_link : (link : Option RelationState) → before.live.rest.link ≡ link → Every Is after.live.rest.link
        by_link None e = every_none Is after.live.rest.link ((link_frame long route before after octets frames hears at own).0 e).0
        by_link (Some its) e = moved after its (every its e) ((link_frame long route before after octets frames hears at own).1 its e)

    -- Several of them.
    pub kept_by_frames : (before : State F) (frames answers : List (List ℕ)) (after : State F) → HearsAll as_flash before frames answers after
        → IsAt before × Every Is before.live.rest.link → AreOwn setup (IsOfExchange route) frames
        → (IsAt after × Every Is after.live.rest.link) × AllByRecursion (ChoosesWell setup) answers
    kept_by_frames =
        device_after as_flash (λ device. IsAt device × Every Is device.live.rest.link) (IsOwn setup (IsOfExchange route)) (ChoosesWell setup)
        (λ before after octets frames hears at own.
        let device = device_frame long before after octets frames hears at.0 (own_frame route octets own) in
        ((device.0, kept_by_frame before after octets frames hears at.0 own at.1), device.1))

  module _ (Is Will : RelationState → Type 0)
      (ages : (before after : RelationState) → LinkGoesOn setup before after → after.phase ≡ before.phase → suc (units_left after) ≤ units_left before → Is before
      → Will after) where
    aged : (after : State F) (its : RelationState) → Is its
        → (after.live.rest.link ≡ None)
        ⊎ ((later : RelationState) × (after.live.rest.link ≡ Some later) × LinkGoesOn setup its later × (later.phase ≡ its.phase)
        × (suc (units_left later) ≤ units_left its))
        → Every Will after.live.rest.link
    aged after its is (inl none) = every_none Will after.live.rest.link none
    aged after its is (inr on) = every_some Will after.live.rest.link on.0 on.1 (ages its on.0 on.2 on.3 on.4 is)

    -- A unit.
    pub kept_by_unit : (before after : State F) (frames : List (List ℕ)) → Goes as_flash before Ticks frames after → IsAt before
        → Every Is before.live.rest.link → Every Will after.live.rest.link
    kept_by_unit before after frames goes at every = by_link before.live.rest.link refl
      where
        by_link : (link : Option RelationState) → before.live.rest.link ≡ link → Every Will after.live.rest.link
        by_link None e = every_none Will after.live.rest.link ((link_unit before after frames goes at).0 e).0
        by_link (Some its) e = aged after its (every its e) ((link_unit before after frames goes at).1 its e)

  -- A round.
  pub kept_by_round : (route : Route) (Is Will : RelationState → Type 0)
      → ((before after : RelationState) → LinkGoesOn setup before after → IsMoved setup route before after → Is before → Is after)
      → ((before after : RelationState) → LinkGoesOn setup before after → after.phase ≡ before.phase → suc (units_left after) ≤ units_left before → Is before
      → Will after)
      → (net after : Net F) → Round as_flash net after → IsAt net.device → AreOwn setup (IsOfExchange route) net.to_device
      → Every Is net.device.live.rest.link → Every Will after.device.live.rest.link
  kept_by_round route Is Will moves ages net after round at own every =
      let all = kept_by_frames route Is moves net.device net.to_device round.answers round.device round.arrives (at, every) own in
      kept_by_unit Is Will ages round.device after.device after.to_controller round.unit all.0.0 all.0.1

  -- ---- a relation whose inputs the controller does not accept

  refused_on : (controller : Controlling) (before after : RelationState) → LinkGoesOn setup before after → IsRefused identity controller before
      → IsRefused identity controller after
  refused_on controller before after on refused accepts = refused (record {
    inputs = ap (λ (r : Route). r.sent_id) (sym on.route) ∙ accepts.inputs;
    addressed = ap (λ (r : Route). r.partner) (sym on.route) ∙ accepts.addressed;
    sender = accepts.sender;
  })

  module _ (inputs_of_frame : InputsOfFrame as_flash setup next identity silence) (inputs_of_unit : InputsOfUnit as_flash setup next identity silence)
      (controller : Controlling) (is : IsAnyController setup controller) (exchanges : controller.live.phase ≡ Exchanging) where
    refused_frames : (its : RelationState) (frames : List (List ℕ)) → IsRefused identity controller its
        → AllByRecursion (λ octets. Accepts controller octets → AcceptsInputs identity controller its) frames → NoneAccepted controller frames
    refused_frames its frames refused all =
        all_as (λ octets. Accepts controller octets → ⊥) (λ octets. Accepts controller octets → AcceptsInputs identity controller its)
        (λ octets inputs accepts. refused (inputs accepts)) frames all

    answers_refused : (route : Route) (before after : State F) (octets : List ℕ) (frames : List (List ℕ)) → Hears as_flash before octets frames after
        → IsAt before → IsOwn setup (IsOfExchange route) octets → Every (IsRefused identity controller) before.live.rest.link → NoneAccepted controller frames
    answers_refused route before after octets frames hears at own every = by_link before.live.rest.link refl
      where
        by_link : (link : Option RelationState) → before.live.rest.link ≡ link → NoneAccepted controller frames
        by_link None e = ((link_frame long route before after octets frames hears at own).0 e).1 controller is.of_setup
        by_link (Some its) e =
            refused_frames its frames (every its e)
            (inputs_of_frame long controller is exchanges route before after octets frames hears at own its e)

    unit_refused : (before after : State F) (frames : List (List ℕ)) → Goes as_flash before Ticks frames after → IsAt before
        → Every (IsRefused identity controller) before.live.rest.link → NoneAccepted controller frames
    unit_refused before after frames goes at every = by_link before.live.rest.link refl
      where
        by_link : (link : Option RelationState) → before.live.rest.link ≡ link → NoneAccepted controller frames
        by_link None e = subst (NoneAccepted controller) (sym ((link_unit before after frames goes at).0 e).1) tt
        by_link (Some its) e = refused_frames its frames (every its e) (inputs_of_unit long controller is exchanges before after frames goes at its e)

    -- The controller accepts nothing that the device sends in such a round, and its relation is such a one again.
    pub refused_round : (route : Route) (net after : Net F) → (round : Round as_flash net after) → IsAt net.device
        → AreOwn setup (IsOfExchange route) net.to_device → Every (IsRefused identity controller) net.device.live.rest.link
        → NoneAccepted controller round.answers × Every (IsRefused identity controller) after.device.live.rest.link
        × NoneAccepted controller after.to_controller
    refused_round route net after round at own every =
        let all = device_after as_flash (λ device. IsAt device × Every (IsRefused identity controller) device.live.rest.link) (IsOwn setup (IsOfExchange route))
        (λ octets. Accepts controller octets → ⊥)
        (λ before between octets frames hears here is_own. (
          (
            (device_frame long before between octets frames hears here.0 (own_frame route octets is_own)).0,
            kept_by_frame route (IsRefused identity controller) (λ one other on moves. refused_on controller one other on) before between octets frames hears
                here.0 is_own here.1,
          ),
          answers_refused route before between octets frames hears here.0 is_own here.1,
        ))
        net.device net.to_device round.answers round.device round.arrives (at, every) own in (
          all.1,
          kept_by_unit (IsRefused identity controller) (IsRefused identity controller) (λ one other on same less. refused_on controller one other on)
              round.device after.device after.to_controller round.unit all.0.0 all.0.1,
          unit_refused round.device after.device after.to_controller round.unit all.0.0 all.0.1,
        )
