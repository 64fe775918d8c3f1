-- What a unit does to a relation of a device: it is over, or it is a unit nearer to its end.
use Rattle.std.proofs.Common.{◌≡◌, ◌⊎◌, inl, inr, ◌+◌, ◌-◌, ◌≤◌, ◌==◌, ◌&&◌, ℕ, suc, Bool, true, false, nat_le}
use Rattle.std.proofs.Common.{List, Option, Some, None, refl, sym, ap, subst, ◌∙◌, arith}
use Rattle.std.specs.Prelude.{min, if◌then◌else◌}
use Rattle.std.proofs.lemmas.Bool.Decides.{nat_tests}
use Rattle.flash_model.specs.declared.flash.Flash.{Ghosts as Flash}
use Rattle.pn_values.specs.declared.identity.Identity.{Identity}
use Rattle.settings_journal.specs.settings_store.Machine.{Outcome}
use Rattle.pn_alarms.specs.declared.abort.Abort.{Abort}
use Rattle.pn_alarms.specs.declared.abort.Abort.TheVariants.{Activity, DataHold}
use Rattle.pn_alarms.specs.declared.repeats.Due.{Due as AlarmDue}
use Rattle.cyclic_data.specs.Timing.{held_on}
use Rattle.cyclic_data.specs.exchange.Cyclic.{Cyclic}
use Rattle.cyclic_data.specs.exchange.Units.{ending_by, ending_of as cyclic_ending, tick_by}
use Rattle.relations.specs.exchange.Units.{alarm_due}
use Rattle.relations.specs.RelationState.{RelationState}
use Rattle.relations.specs.Phases.{passing_by, updated}
use Rattle.relations.specs.Timers.{ending_of, is_timed, limit_of, unit_later}
use Rattle.device_frames.specs.Heard.{Ticks}
use Rattle.device_core.specs.State.{Live, Station}
use Rattle.device_core.specs.Machine.{heard_step}
use Rattle.controller_messages.specs.declared.setup.Setup.{Setup}
use Rattle.rounds_law.specs.Again.{units_left}
use Rattle.rounds_law.specs.Anywhere.{AllLast}
use Rattle.rounds_law.proofs.AgainUnits.{no_relation_unit}
use Rattle.rounds_law.proofs.AnywhereLinkMoved.{no_more}
use Rattle.rounds_law.proofs.AnywhereParts.{LinkGoesOn, LinkUnit, room_of}
use Rattle.rounds_law.proofs.DevicePassingTimers.{tick_ending}
use Rattle.rounds_law.proofs.AskedUnits.{unit_link}
use Rattle.rounds_law.proofs.AnywhereAsked.{unrelated_asked}

-- ---- the units until it ends

-- A test by which a relation ends has failed, if the relation does not end.
failed : (test : Bool) (reason : Abort) (other : Option Abort) → (if test then Some reason else other) ≡ None → test ≡ false
failed true reason other e = absurd cc
failed false reason other e = refl

timed_nearer : (limit inactive : ℕ) → nat_le limit (inactive + 1) ≡ false → suc (limit - (inactive + 1)) ≤ limit - inactive
timed_nearer limit inactive h = grind (arith, nat_tests, h)

held_nearer : (limit held : ℕ) → (min limit (held + 1) == limit) ≡ false → suc (limit - min limit (held + 1)) ≤ limit - held
held_nearer limit held h = grind (arith, nat_tests, h)

nearer_by : (timed begun : Bool) (limit inactive : ℕ) (cyclic : Cyclic) (alarm : AlarmDue) → (timed ≡ false → begun ≡ true) → cyclic.begun ≡ begun
    → (if timed then (if nat_le limit (inactive + 1) then Some Activity else None) else (tick_by cyclic alarm (cyclic_ending cyclic alarm)).ending) ≡ None
    → suc (if timed then limit - (if timed then inactive + 1 else inactive)
    else (if begun then held_on cyclic.hearing else cyclic.hearing).limit - (if begun then held_on cyclic.hearing else cyclic.hearing).held)
    ≤ (if timed then limit - inactive else cyclic.hearing.limit - cyclic.hearing.held)
nearer_by true begun limit inactive cyclic alarm runs same stays = timed_nearer limit inactive (failed (nat_le limit (inactive + 1)) Activity None stays)
nearer_by false true limit inactive cyclic alarm runs same stays =
    let reached = min cyclic.hearing.limit (cyclic.hearing.held + 1) == cyclic.hearing.limit in
    held_nearer cyclic.hearing.limit cyclic.hearing.held (failed reached DataHold (ending_by alarm)
    (sym (ap (λ (b : Bool). if b && reached then Some DataHold else ending_by alarm) same)
    ∙ (sym (tick_ending cyclic alarm (cyclic_ending cyclic alarm)) ∙ stays)))
nearer_by false false limit inactive cyclic alarm runs same stays = absurd (clash (runs refl))
  where
    clash : false ≡ true → ⊥
    clash e = absurd cc

pub nearer : (link : RelationState) → (is_timed link.phase ≡ false → link.flow.cyclic.begun ≡ true) → ending_of link ≡ None
    → suc (units_left (unit_later link)) ≤ units_left link
nearer link runs stays =
    nearer_by (is_timed link.phase) link.flow.cyclic.begun (limit_of link) link.inactive link.flow.cyclic (alarm_due link.flow) runs refl stays

-- ---- the step

-- It is over, or goes on, a unit nearer to its end, in the same phase.
abbrev pub Ages : Setup → RelationState → Option RelationState → Type 0
Ages setup link after = (after ≡ None)
    ⊎ ((later : RelationState) × (after ≡ Some later) × LinkGoesOn setup link later × (later.phase ≡ link.phase) × (suc (units_left later) ≤ units_left link))

module _ (setup : Setup) (outcomes : List Outcome) (station : Station) (live : Live) (link : RelationState) where
  ages_by : (is_timed link.phase ≡ false → link.flow.cyclic.begun ≡ true) → (ending : Option Abort) → ending_of link ≡ ending
      → Ages setup link (updated (passing_by ending) (Some link))
  ages_by runs (Some reason) is = inl refl
  ages_by runs None is = inr (
    unit_later link,
    refl,
    record { route = refl; limit = refl; room = λ keyed timed. no_more (room_of link) },
    refl,
    nearer link runs is,
  )

  pub ages : (is_timed link.phase ≡ false → link.flow.cyclic.begun ≡ true) → live.rest.link ≡ Some link
      → Ages setup link (heard_step outcomes station live Ticks).live.rest.link
  ages runs has = subst (Ages setup link) (sym (unit_link outcomes station live link (ending_of link) has refl)) (ages_by runs (ending_of link) refl)

module _ {F : Type 0} {S : ℕ} (as_flash : Flash F S) (setup next : Setup) (identity : Identity) (silence : ℕ) where
  pub link_unit : LinkUnit as_flash setup next identity silence
  link_unit = λ before after frames goes device.
      let step = heard_step goes.steps.outcomes before.station before.live Ticks in (
        λ none. (
            let nothing = unrelated_asked setup next before.live.rest.link before.live.rest.asked.standing none device.asked in
            let quiet = no_relation_unit goes.steps.outcomes before.station before.live none nothing in
            (ap (λ (l : Live). l.rest.link) goes.steps.live ∙ quiet.3, goes.steps.frames ∙ quiet.0)
            ),
        λ link has. subst (Ages setup link) (sym (ap (λ (l : Live). l.rest.link) goes.steps.live))
            (ages setup goes.steps.outcomes before.station before.live link (subst (AllLast setup silence) has device.lasts).runs has),
      )
