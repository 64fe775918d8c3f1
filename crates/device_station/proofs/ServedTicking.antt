-- Units of time at a port and at the services beside its device.
use Rattle.std.proofs.Common.{◌≡◌, ◌+◌, ◌-◌, ℕ, zero, suc, Bool, true, false, List, [], Option, Some, None, if◌then◌else◌, refl, sym, ap, subst, ◌∙◌, arith}
use Rattle.pn_values.specs.declared.identity.Identity.{Identity}
use Rattle.pn_values.specs.declared.settings.Settings.{Settings}
use Rattle.settings_journal.specs.settings_store.State.{Values}
use Rattle.device_frames.specs.Heard.{heard_of}
use Rattle.device_frames.specs.declared.event.Event.TheVariants.{Tick}
use Rattle.device_frames.specs.declared.note.Note.{Note}
use Rattle.device_frames.specs.declared.note.Note.TheVariants.{Done}
use Rattle.device_core.specs.Machine.{handled_step, heard_step, step_of}
use Rattle.device_core.specs.State.{Live, Station}
use Rattle.device_station.specs.Beside.{Beside, event_beside, idle, observing}
use Rattle.device_station.specs.Leaps.{NoNewsBeside, NoneSendsBeside, beside_ticks, tick_beside}
use Rattle.device_station.specs.Serving.{Serving}
use Rattle.device_station.specs.port.State.{State, barred}
use Rattle.device_station.specs.port.Steps.{Takes, Ticks}
use Rattle.device_station.specs.port.Pace.{HasNoNews, TicksBeside, TicksBesideAny}
use Rattle.device_station.specs.port.Served.{Served}
use Rattle.device_station.specs.port.ServedSteps.{IsBeside, TakesBoth, TicksBoth}
use Rattle.device_station.proofs.ServedBarring.{barred_alone}
use Rattle.device_station.proofs.ServedTelling.{tells_none}

abbrev pub at : Bool → State → Option Serving → List (List ℕ) → Served
at serves port services frames = record { port = port; serves = serves; services = services; frames = frames }

-- ---- a unit of time keeps what is fixed, and the settings

step_values : (station : Station) (live : Live) → (step_of [] station live Tick).live.values ≡ live.values
unfolding heard_of heard_step handled_step
step_values station live = refl

pub ticks_kept : (units : ℕ) (old new : State) → Ticks units old new → (new.device.station ≡ old.device.station) × (new.device.live.values ≡ old.device.live.values)
ticks_kept zero old new same = (ap (λ (p : State). p.device.station) same, ap (λ (p : State). p.device.live.values) same)
ticks_kept (suc units) old new ticks =
    let before = ticks_kept units old ticks.0 ticks.2 in (
      ticks.4.exact.same ∙ before.0,
      ap (λ (l : Live). l.values) ticks.4.exact.live ∙ (step_values ticks.0.device.station ticks.0.device.live ∙ before.1),
    )

-- ---- one unit

-- The note of the device does not matter.
abbrev tick_by : Bool → Identity → Serving → Settings → Note → Beside
tick_by is_lost identity state running note = if is_lost then idle state note else observing running (event_beside identity state note Tick)

any_note : (is_lost : Bool) (identity : Identity) (state : Serving) (running : Settings) (note : Note)
    → ((tick_by is_lost identity state running Done).services ≡ (tick_by is_lost identity state running note).services)
    × ((tick_by is_lost identity state running Done).sent ≡ (tick_by is_lost identity state running note).sent) × (note ≡ (tick_by is_lost identity state running note).note)
any_note true identity state running note = (refl, refl, refl)
any_note false identity state running note = (refl, refl, refl)

ticks_beside : (identity : Identity) (values : Values) (state after : Serving) (sent : List (List ℕ)) (note : Note) → after ≡ (tick_beside identity values state).services → sent ≡ (tick_beside identity values state).sent
    → IsBeside (Some state) identity values note Tick (Some after) sent note
ticks_beside identity values state after sent note is frames =
    let any = any_note values.is_lost identity state values.running note in
    (ap (λ (s : Serving). let o : Option Serving = Some s in o) (is ∙ any.0), frames ∙ any.1, any.2)

takes_both : (serves : Bool) (old new : State) (state after : Serving) (sent : List (List ℕ)) (note : Note) → state.has_news ≡ false → barred old ≡ None → Takes old Tick note new
    → after ≡ (tick_beside old.device.station.identity new.device.live.values state).services → sent ≡ (tick_beside old.device.station.identity new.device.live.values state).sent
    → TakesBoth (at serves old (Some state) []) Tick note (at serves new (Some after) sent)
takes_both serves old new state after sent note told free takes is frames = record {
  between = at serves old (Some state) [];
  tells = tells_none (at serves old (Some state) []) told;
  free = barred_alone (at serves old (Some state) []) refl ∙ free;
  steps = record {
    said = note;
    middle = new;
    alone = takes;
    serves = refl;
    beside = ticks_beside old.device.station.identity new.device.live.values state after sent note is frames;
    gives = refl;
  };
}

-- ---- several units

-- One more after some that sent nothing.
one_more : (units : ℕ) (serves : Bool) (old between new : State) (state after : Serving) (sent : List (List ℕ)) (note : Note) → Ticks units old between → barred between ≡ None
    → Takes between Tick note new
    → TicksBoth units (at serves old (Some state) []) (at serves between (Some (beside_ticks old.device.station.identity old.device.live.values units state)) [])
    → (beside_ticks old.device.station.identity old.device.live.values units state).has_news ≡ false
    → after ≡ beside_ticks old.device.station.identity old.device.live.values (suc units) state
    → sent ≡ (tick_beside old.device.station.identity old.device.live.values (beside_ticks old.device.station.identity old.device.live.values units state)).sent
    → TicksBoth (suc units) (at serves old (Some state) []) (at serves new (Some after) sent)
one_more units serves old between new state after sent note ticks free takes all told is frames =
    let kept = ticks_kept units old between ticks in
    let identity = old.device.station.identity in
    let values = old.device.live.values in
    let before = beside_ticks identity values units state in
    let now : new.device.live.values ≡ values = ap (λ (l : Live). l.values) takes.exact.live ∙ (step_values between.device.station between.device.live ∙ kept.1) in
    let here : tick_beside between.device.station.identity new.device.live.values before ≡ tick_beside identity values before =
    ap (λ (s : Station). tick_beside s.identity new.device.live.values before) kept.0 ∙ ap (λ (v : Values). tick_beside identity v before) now in (
      at serves between (Some before) [],
      note,
      all,
      barred_alone (at serves between (Some before) []) refl ∙ free,
      takes_both serves between new before after sent note told free takes (is ∙ ap (λ (b : Beside). b.services) (sym here)) (frames ∙ ap (λ (b : Beside). b.sent) (sym here)),
    )

-- None of them sends, or changes the neighbour.
pub ticks_quiet : (units : ℕ) (serves : Bool) (old new : State) (state : Serving) → Ticks units old new
    → NoneSendsBeside units old.device.station.identity old.device.live.values state
    → NoNewsBeside units old.device.station.identity old.device.live.values state
    → state.has_news ≡ false
    → TicksBoth units (at serves old (Some state) []) (at serves new (Some (beside_ticks old.device.station.identity old.device.live.values units state)) [])
ticks_quiet zero serves old new state same none quiet told = ap (λ (p : State). at serves p (Some state) []) same
ticks_quiet (suc units) serves old new state ticks none quiet told =
    one_more units serves old ticks.0 new state (beside_ticks old.device.station.identity old.device.live.values (suc units) state) [] ticks.1 ticks.2 ticks.3 ticks.4
    (ticks_quiet units serves old ticks.0 state ticks.2 (λ first sooner. none first (omega (arith, sooner))) (λ first sooner. quiet first (omega (arith, sooner))) told)
    (quiet units (omega arith) ∙ told) refl (sym (none units (omega arith)))

ticks_next : (units : ℕ) (serves : Bool) (old new : State) (state after : Serving) (sent : List (List ℕ)) → Ticks (suc units) old new
    → TicksBeside (suc units) new.device.station.identity new.device.live.values state after sent → state.has_news ≡ false
    → TicksBoth (suc units) (at serves old (Some state) []) (at serves new (Some after) sent)
ticks_next units serves old new state after sent ticks beside told =
    let count : suc units - 1 ≡ units = omega arith in
    let kept = ticks_kept (suc units) old new ticks in
    let own : TicksBeside (suc units) old.device.station.identity old.device.live.values state after sent =
    subst (λ (v : Values). TicksBeside (suc units) old.device.station.identity v state after sent) kept.1
    (subst (λ (s : Station). TicksBeside (suc units) s.identity new.device.live.values state after sent) kept.0 beside) in
    one_more units serves old ticks.0 new state after sent ticks.1 ticks.2 ticks.3 ticks.4
    (ticks_quiet units serves old ticks.0 state ticks.2 (λ first sooner. own.none first (omega (arith, sooner))) (λ first sooner. own.quiet first (omega (arith, sooner))) told)
    (own.quiet units (omega arith) ∙ told)
    own.is (own.frames ∙ ap (λ (n : ℕ). (tick_beside old.device.station.identity old.device.live.values (beside_ticks old.device.station.identity old.device.live.values n state)).sent) count)

-- A device alone.
pub ticks_alone : (units : ℕ) (serves : Bool) (old new : State) → Ticks units old new → TicksBoth units (at serves old None []) (at serves new None [])
ticks_alone zero serves old new same = ap (λ (p : State). at serves p None []) same
ticks_alone (suc units) serves old new ticks = (
  at serves ticks.0 None [],
  ticks.1,
  ticks_alone units serves old ticks.0 ticks.2,
  barred_alone (at serves ticks.0 None []) refl ∙ ticks.3,
  record {
    between = at serves ticks.0 None [];
    tells = refl;
    free = barred_alone (at serves ticks.0 None []) refl ∙ ticks.3;
    steps = record { said = ticks.1; middle = new; alone = ticks.4; serves = refl; beside = (refl, refl, refl); gives = refl };
  },
)

-- The same of units that are counted.
pub ticks_passed : (units before : ℕ) (serves : Bool) (old new : State) (state after : Serving) (sent : List (List ℕ)) → units ≡ suc before → Ticks units old new
    → TicksBeside units new.device.station.identity new.device.live.values state after sent → state.has_news ≡ false
    → TicksBoth units (at serves old (Some state) []) (at serves new (Some after) sent)
ticks_passed units before serves old new state after sent count ticks beside told =
    subst (λ (n : ℕ). TicksBoth n (at serves old (Some state) []) (at serves new (Some after) sent)) (sym count)
    (ticks_next before serves old new state after sent (subst (λ (n : ℕ). Ticks n old new) count ticks)
    (subst (λ (n : ℕ). TicksBeside n new.device.station.identity new.device.live.values state after sent) count beside) told)

-- The same of services that there may be.
pub ticks_any : (units before : ℕ) (serves : Bool) (old new : State) (services after : Option Serving) (sent : List (List ℕ)) → units ≡ suc before → Ticks units old new
    → TicksBesideAny units new.device.station.identity new.device.live.values services after sent → HasNoNews services
    → TicksBoth units (at serves old services []) (at serves new after sent)
ticks_any units before serves old new None after sent count ticks beside told =
    subst (λ (o : Option Serving). TicksBoth units (at serves old None []) (at serves new o sent)) (sym beside.0)
    (subst (λ (f : List (List ℕ)). TicksBoth units (at serves old None []) (at serves new None f)) (sym beside.1) (ticks_alone units serves old new ticks))
ticks_any units before serves old new (Some state) after sent count ticks beside told =
    subst (λ (o : Option Serving). TicksBoth units (at serves old (Some state) []) (at serves new o sent)) (sym beside.2)
    (ticks_passed units before serves old new state beside.0 sent count ticks beside.1 told)

-- Units that passed after others.
pub ticks_on : (units more : ℕ) (old between new : Served) → TicksBoth units old between → TicksBoth more between new → TicksBoth (more + units) old new
ticks_on units zero old between new ticks same =
    let none : units ≡ zero + units = omega arith in
    subst (λ (s : Served). TicksBoth (zero + units) old s) (sym same) (subst (λ (n : ℕ). TicksBoth n old between) none ticks)
ticks_on units (suc more) old between new ticks last =
    let one : suc (more + units) ≡ suc more + units = omega arith in
    subst (λ (n : ℕ). TicksBoth n old new) one (last.0, last.1, ticks_on units more old between last.0 ticks last.2, last.3, last.4)
