-- Whether the ends of a relation accept the cyclic frames of each other.
use Rattle.std.proofs.Common.{◌≡◌, ◌⊎◌, inl, inr, ◌≤◌, ◌-◌, ℕ, Bool, true, false, List, Option, Some, refl, sym, ap, subst, ◌∙◌, arith}
use Rattle.std.specs.Prelude.{nat_eq, if◌then◌else◌}
use Rattle.std.specs.Cmp.Lexicographic.{pointwise, same_text}
use Rattle.std.proofs.lemmas.Bool.{both_ways, cases_eq}
use Rattle.std.proofs.lemmas.Cmp.{nat_list_eq_equiv}
use Rattle.pn_values.specs.declared.identity.Identity.{Identity}
use Rattle.pn_values.specs.declared.mac.Mac.{Mac}
use Rattle.cyclic_data.specs.declared.exchange.route.Route.{Route}
use Rattle.relations.specs.RelationState.{RelationState}
use Rattle.relations.specs.Timers.{is_timed, limit_of}
use Rattle.relations.specs.declared.phase.Phase.{Phase}
use Rattle.relations.specs.declared.phase.Phase.TheVariants.{Started, Preparing, Awaiting, Exchanging as in_exchange}
use Rattle.controller_messages.specs.declared.setup.Setup.{Setup}
use Rattle.controller_core.specs.stored.State.{Controlling}
use Rattle.rounds_law.specs.Again.{units_left}
use Rattle.rounds_law.specs.Anywhere.{AllLast, Lasts}
use Rattle.rounds_law.proofs.AnywhereParts.{AcceptsInputs, AcceptsOutputs}

-- ---- decided

same_mac : (one other : Mac) → one.octets ≡ other.octets → one ≡ other
same_mac one other e = ap (λ (octets : List ℕ). record { octets = octets }) e

cases_mac : (one other : Mac) → (one ≡ other) ⊎ (one ≡ other → ⊥)
cases_mac one other = by_test (pointwise nat_eq one.octets other.octets) refl
  where
    by_test : (b : Bool) → pointwise nat_eq one.octets other.octets ≡ b → (one ≡ other) ⊎ (one ≡ other → ⊥)
    by_test true e = inl (same_mac one other (same_text one.octets other.octets (sym e)))
    by_test false e = inr (λ same.
        both_ways (pointwise nat_eq one.octets other.octets) e
        (subst (λ (m : Mac). pointwise nat_eq one.octets m.octets ≡ true) same (nat_list_eq_equiv.refl one.octets)))

pub cases_outputs : (setup : Setup) (route : Route) (its : RelationState) → AcceptsOutputs setup route its ⊎ (AcceptsOutputs setup route its → ⊥)
cases_outputs setup route its =
    by_parts (cases_eq route.sent_id its.flow.cyclic.route.taken_id) (cases_mac its.flow.cyclic.route.partner setup.plan.controller.mac)
  where
    by_parts : (route.sent_id ≡ its.flow.cyclic.route.taken_id) ⊎ (route.sent_id ≡ its.flow.cyclic.route.taken_id → ⊥)
        → (its.flow.cyclic.route.partner ≡ setup.plan.controller.mac) ⊎ (its.flow.cyclic.route.partner ≡ setup.plan.controller.mac → ⊥)
        → AcceptsOutputs setup route its ⊎ (AcceptsOutputs setup route its → ⊥)
    by_parts (inl outputs) (inl sender) = inl (record { outputs = outputs; sender = sender })
    by_parts (inl outputs) (inr other) = inr (λ accepts. other accepts.sender)
    by_parts (inr other) either = inr (λ accepts. other accepts.outputs)

pub cases_inputs : (identity : Identity) (controller : Controlling) (its : RelationState)
    → AcceptsInputs identity controller its ⊎ (AcceptsInputs identity controller its → ⊥)
cases_inputs identity controller its =
    by_parts (cases_eq its.flow.cyclic.route.sent_id controller.live.cyclic.route.taken_id)
    (cases_mac its.flow.cyclic.route.partner controller.setup.plan.controller.mac) (cases_mac controller.live.cyclic.route.partner identity.mac)
  where
    by_parts : (its.flow.cyclic.route.sent_id ≡ controller.live.cyclic.route.taken_id)
        ⊎ (its.flow.cyclic.route.sent_id ≡ controller.live.cyclic.route.taken_id → ⊥)
        → (its.flow.cyclic.route.partner ≡ controller.setup.plan.controller.mac)
        ⊎ (its.flow.cyclic.route.partner ≡ controller.setup.plan.controller.mac → ⊥)
        → (controller.live.cyclic.route.partner ≡ identity.mac) ⊎ (controller.live.cyclic.route.partner ≡ identity.mac → ⊥)
        → AcceptsInputs identity controller its ⊎ (AcceptsInputs identity controller its → ⊥)
    by_parts (inl inputs) (inl addressed) (inl sender) = inl (record { inputs = inputs; addressed = addressed; sender = sender })
    by_parts (inl inputs) (inl addressed) (inr other) = inr (λ accepts. other accepts.sender)
    by_parts (inl inputs) (inr other) either = inr (λ accepts. other accepts.addressed)
    by_parts (inr other) either third = inr (λ accepts. other accepts.inputs)

-- ---- with another controller of the same set-up and route

pub accepts_inputs_as : (identity : Identity) (one other : Controlling) (its : RelationState) → other.setup ≡ one.setup
    → other.live.cyclic.route ≡ one.live.cyclic.route → AcceptsInputs identity one its → AcceptsInputs identity other its
accepts_inputs_as identity one other its setups routes accepts = record {
  inputs = accepts.inputs ∙ ap (λ (r : Route). r.taken_id) (sym routes);
  addressed = accepts.addressed ∙ ap (λ (s : Setup). s.plan.controller.mac) (sym setups);
  sender = ap (λ (r : Route). r.partner) routes ∙ accepts.sender;
}

-- ---- how long a relation lasts

-- Without its activity timer a relation exchanges data.
pub untimed : (phase : Phase) → is_timed phase ≡ false → phase ≡ in_exchange
untimed Started e = absurd cc
untimed Preparing e = absurd cc
untimed Awaiting e = absurd cc
untimed in_exchange e = refl

-- No relation lasts longer than the longest time without its controller.
pub lasts_few : (setup : Setup) (silence : ℕ) (link : Option RelationState) (its : RelationState) → AllLast setup silence link → link ≡ Some its
    → units_left its ≤ silence
lasts_few setup silence link its lasts has = by_lasts (subst (AllLast setup silence) has lasts)
  where
    by_timer : (timed : Bool) (limit inactive hold held : ℕ) → limit ≤ silence → hold ≤ silence → (if timed then limit - inactive else hold - held) ≤ silence
    by_timer true limit inactive hold held active holds = omega (arith, active)
    by_timer false limit inactive hold held active holds = omega (arith, holds)

    by_lasts : Lasts setup silence its → units_left its ≤ silence
    by_lasts each =
        by_timer (is_timed its.phase) (limit_of its) its.inactive its.flow.cyclic.hearing.limit its.flow.cyclic.hearing.held each.active each.holds
