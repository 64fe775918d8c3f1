-- What an exchange keeps over many events is what its end of cyclic data keeps.
use Rattle.std.proofs.Common.{◌≡◌, inl, inr, ◌+◌, ◌%◌, ◌==◌, ◌++◌, ℕ, Bool, true, false, cond, nat_le, List, [], ◌∷◌, Option, Some, None, option_map, unwrap_or, Result, Ok, Err, refl, sym, ap, ◌∙◌, arith}
use Rattle.std.proofs.lemmas.Bool.{cases_Bool}
use Rattle.pn_values.specs.declared.mac.Mac.{Mac}
use Rattle.module_diff.specs.Plugged.{module_ident, submodule_ident}
use Rattle.cyclic_data.specs.declared.tail.CyclicTail.{CyclicTail}
use Rattle.cyclic_data.specs.declared.tail.ShortFrame.{ShortFrame}
use Rattle.cyclic_data.specs.Tail.{cyclic_of}
use Rattle.cyclic_data.specs.Timing.{is_due}
use Rattle.cyclic_data.specs.exchange.Cyclic.{Cyclic}
use Rattle.cyclic_data.specs.exchange.Process.{given_at as cyclic_given}
use Rattle.cyclic_data.specs.exchange.Units.{is_silent as is_cyclic_silent}
use Rattle.cyclic_data.specs.exchange.Received.{behind_read, is_new, is_of_partner}
use Rattle.cyclic_data.specs.exchange.Received.{behind_frame as cyclic_behind}
use Rattle.cyclic_data.specs.exchange.Runs as core
use Rattle.cyclic_data.specs.exchange.Runs.{held_in}
use Rattle.relations.specs.exchange.Flow.{Flow}
use Rattle.relations.specs.exchange.Opening.{interval_of, opened}
use Rattle.relations.specs.exchange.Marks.{awaits}
use Rattle.relations.specs.exchange.Process.{remarked, with_cyclic, with_input}
use Rattle.relations.specs.exchange.Notices.{may_raise, raised_by}
use Rattle.relations.specs.exchange.Runs.{Event, Begins, Passes, Comes, Gives, Rates, Raises, Says, Lowers, Turns, behind, behind_all, cyclic_event, cyclic_events, iops_after, states_after, units_of, units_in, IsDueEachInterval, AreOfTheLast, IsHeldSoLong}

-- Raising an alarm does not change cyclic data.
pub cyclic_raised : (flow : Flow) (slot subslot : ℕ) (octets : List ℕ) (ident part : Option ℕ)
    → (unwrap_or (raised_by flow slot subslot octets ident part) flow).cyclic ≡ flow.cyclic
cyclic_raised flow slot subslot octets (Some ident) (Some part) =
    elim (cases_Bool (may_raise flow octets)) [ inl t ↦ rw t refl | inr t ↦ rw t refl ]
cyclic_raised flow slot subslot octets (Some ident) None = refl
cyclic_raised flow slot subslot octets None part = refl

settled_where : (flow : Flow) (slot subslot : ℕ) (cyclic : Cyclic) (b : Bool)
    → (cond b (remarked (with_cyclic flow cyclic) slot subslot None) (with_cyclic flow cyclic)).cyclic
    ≡ core.behind_all (cond b (core.States slot subslot (iops_after flow slot subslot None) ∷ []) []) cyclic
settled_where flow slot subslot cyclic true = refl
settled_where flow slot subslot cyclic false = refl

given_where : (flow : Flow) (slot subslot : ℕ) (given : Option Cyclic)
    → (unwrap_or (option_map (with_input flow slot subslot) given) flow).cyclic
    ≡ core.behind_all (states_after flow slot subslot given) (unwrap_or given flow.cyclic)
given_where flow slot subslot (Some cyclic) = settled_where flow slot subslot cyclic (awaits slot subslot flow.marks)
given_where flow slot subslot None = refl

-- An event changes the cyclic data of an exchange as it changes an end of cyclic data.
cyclic_with : (event : Event) (flow : Flow) → (behind event flow).cyclic ≡ core.behind_all (cyclic_event event flow) flow.cyclic
cyclic_with Begins flow = refl
cyclic_with Passes flow = refl
cyclic_with (Comes source frame_id body) flow = refl
cyclic_with (Gives slot subslot value) flow = given_where flow slot subslot (cyclic_given flow.cyclic slot subslot value)
cyclic_with (Rates slot subslot is_good) flow = refl
cyclic_with (Raises real slot subslot octets) flow = cyclic_raised flow slot subslot octets (module_ident real slot) (submodule_ident real slot subslot)
cyclic_with (Says message) flow = refl
cyclic_with (Lowers low) flow = refl
cyclic_with (Turns is_running) flow = refl

behind_both : (front more : List core.Event) (cyclic : Cyclic) → core.behind_all (front ++ more) cyclic ≡ core.behind_all more (core.behind_all front cyclic)
behind_both [] more cyclic = refl
behind_both (event ∷ front) more cyclic = behind_both front more (core.behind event cyclic)

pub cyclic_all : (events : List Event) (flow : Flow) → (behind_all events flow).cyclic ≡ core.behind_all (cyclic_events events flow) flow.cyclic
cyclic_all [] flow = refl
cyclic_all (event ∷ events) flow =
    cyclic_all events (behind event flow)
    ∙ (ap (core.behind_all (cyclic_events events (behind event flow))) (cyclic_with event flow)
    ∙ sym (behind_both (cyclic_event event flow) (cyclic_events events (behind event flow)) flow.cyclic))

-- ---- units

units_both : (front more : List core.Event) → core.units_in (front ++ more) ≡ core.units_in front + core.units_in more
units_both [] more = omega arith
units_both (event ∷ front) more = let rest = units_both front more in omega (arith, rest)

settled_units : (slot subslot iops : ℕ) (b : Bool) → core.units_in (cond b (core.States slot subslot iops ∷ []) []) ≡ 0
settled_units slot subslot iops true = refl
settled_units slot subslot iops false = refl

given_units : (flow : Flow) (slot subslot : ℕ) (given : Option Cyclic) → core.units_in (states_after flow slot subslot given) ≡ 0
given_units flow slot subslot (Some cyclic) = settled_units slot subslot (iops_after flow slot subslot None) (awaits slot subslot flow.marks)
given_units flow slot subslot None = refl

units_with : (event : Event) (flow : Flow) → core.units_in (cyclic_event event flow) ≡ units_of event
units_with Begins flow = refl
units_with Passes flow = refl
units_with (Comes source frame_id body) flow = refl
units_with (Gives slot subslot value) flow = ap (λ (units : ℕ). 0 + units) (given_units flow slot subslot (cyclic_given flow.cyclic slot subslot value))
units_with (Rates slot subslot is_good) flow = refl
units_with (Raises real slot subslot octets) flow = refl
units_with (Says message) flow = refl
units_with (Lowers low) flow = refl
units_with (Turns is_running) flow = refl

units_all : (events : List Event) (flow : Flow) → core.units_in (cyclic_events events flow) ≡ units_in events
units_all [] flow = refl
units_all (event ∷ events) flow =
    let both = units_both (cyclic_event event flow) (cyclic_events events (behind event flow)) in
    let one = units_with event flow in
    let rest = units_all events (behind event flow) in
    omega (arith, both, one, rest)

-- ---- the laws

pub is_due_each_interval : core.IsDueEachInterval → IsDueEachInterval
is_due_each_interval law request rows starting events long =
    let flow = opened request rows starting in
    ap (λ (cyclic : Cyclic). is_due cyclic.sending) (cyclic_all events flow)
    ∙ (law flow.cyclic (cyclic_events events flow) refl long ∙ ap (λ (units : ℕ). (units + 1) % interval_of request.input == 0) (units_all events flow))

pub are_of_the_last : core.AreOfTheLast → AreOfTheLast
are_of_the_last law events flow = ap (λ (cyclic : Cyclic). cyclic.taken) (cyclic_all events flow) ∙ law (cyclic_events events flow) flow.cyclic

pub is_held_so_long : core.IsHeldSoLong → IsHeldSoLong
is_held_so_long law events flow begun fresh none =
    ap is_cyclic_silent (cyclic_all events flow)
    ∙ (law (cyclic_events events flow) flow.cyclic begun fresh none ∙ ap (λ (units : ℕ). nat_le flow.cyclic.hearing.limit (units + 1)) (units_all events flow))

-- ---- frames do not change the inputs

shown_read : (cyclic : Cyclic) (r : Result (List ℕ × CyclicTail) ShortFrame) → (behind_read cyclic r).shown ≡ cyclic.shown
shown_read cyclic (Ok x) = elim (cases_Bool (is_new cyclic x.1)) [ inl t ↦ rw t refl | inr t ↦ rw t refl ]
shown_read cyclic (Err short) = refl

pub shown_behind : (cyclic : Cyclic) (source : Mac) (frame_id : ℕ) (body : List ℕ) → (cyclic_behind cyclic source frame_id body).shown ≡ cyclic.shown
shown_behind cyclic source frame_id body =
    elim (cases_Bool (is_of_partner cyclic.route source frame_id)) [
      | inl t ↦ rw t (shown_read cyclic (cyclic_of cyclic.taken.data_length body))
      | inr t ↦ rw t refl
    ]
