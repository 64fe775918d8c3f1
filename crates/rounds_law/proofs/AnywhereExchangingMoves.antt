-- A relation whose controller exchanges data: how long it lasts, after a frame and after a unit.
use Rattle.std.proofs.Common.{◌≡◌, ◌⊎◌, inl, inr, ◌≤◌, ◌+◌, ◌-◌, ◌*◌, ℕ, suc, Bool, true, false, if◌then◌else◌, refl, sym, ap, subst, ◌∙◌, arith}
use Rattle.std.proofs.Math.Nat.{suc-mul}
use Rattle.std.proofs.lemmas.Nat.{mul-le}
use Rattle.std.proofs.lemmas.Bool.{false≢true}
use Rattle.pn_values.specs.declared.identity.Identity.{Identity}
use Rattle.cyclic_data.specs.declared.exchange.route.Route.{Route}
use Rattle.relations.specs.RelationState.{RelationState}
use Rattle.relations.specs.Timers.{is_timed, limit_of}
use Rattle.relations.specs.declared.phase.Phase.TheVariants.{Exchanging as in_exchange}
use Rattle.controller_messages.specs.declared.setup.Setup.{Setup}
use Rattle.controller_core.specs.stored.State.{Controlling}
use Rattle.rounds_law.specs.Again.{units_left}
use Rattle.rounds_law.proofs.AnywhereParts.{AcceptsOutputs, IsMoved, LinkGoesOn, room_of}
use Rattle.rounds_law.proofs.AnywhereExchangingDevice.{IsRefused}

-- Data is exchanged, but the relation does not accept the outputs, and lasts this many units at most.
pub record IsUnserved (setup : Setup) (route : Route) (left : ℕ) (its : RelationState) : Type 0 where
  pub exchanges : its.phase ≡ in_exchange
  pub few : units_left its ≤ left
  pub refuses : AcceptsOutputs setup route its → ⊥

accepts_on : (setup : Setup) (route : Route) (before after : RelationState) → LinkGoesOn setup before after → AcceptsOutputs setup route after
    → AcceptsOutputs setup route before
accepts_on setup route before after on accepts = record {
  outputs = accepts.outputs ∙ ap (λ (r : Route). r.taken_id) on.route;
  sender = ap (λ (r : Route). r.partner) (sym on.route) ∙ accepts.sender;
}

not_timed : (its : RelationState) → its.phase ≡ in_exchange → is_timed its.phase ≡ true → ⊥
not_timed its exchanges timed = absurd (never (sym (ap is_timed exchanges) ∙ timed))
  where
    never : false ≡ true → ⊥
    never e = absurd cc

pub unserved_moves : (setup : Setup) (route : Route) (left : ℕ) (before after : RelationState) → LinkGoesOn setup before after → IsMoved setup route before after
    → IsUnserved setup route left before → IsUnserved setup route left after
unserved_moves setup route left before after on (inl stays) is = record {
  exchanges = stays.0 ∙ is.exchanges;
  few = let more : units_left after ≤ units_left before = stays.1 in let few : units_left before ≤ left = is.few in omega (arith, more, few);
  refuses = λ accepts. is.refuses (accepts_on setup route before after on accepts);
}
unserved_moves setup route left before after on (inr (inl served)) is = absurd (is.refuses served.2)
unserved_moves setup route left before after on (inr (inr (inl begins))) is = absurd (not_timed before is.exchanges begins.0)
unserved_moves setup route left before after on (inr (inr (inr keeps))) is = absurd (not_timed before is.exchanges keeps.1)

pub unserved_ages : (setup : Setup) (route : Route) (left : ℕ) (before after : RelationState) → LinkGoesOn setup before after → after.phase ≡ before.phase
    → suc (units_left after) ≤ units_left before → IsUnserved setup route (suc left) before → IsUnserved setup route left after
unserved_ages setup route left before after on same less is = record {
  exchanges = same ∙ is.exchanges;
  few = let few : units_left before ≤ suc left = is.few in omega (arith, less, few);
  refuses = λ accepts. is.refuses (accepts_on setup route before after on accepts);
}

pub unserved_ends : (setup : Setup) (identity : Identity) (controller : Controlling) (route : Route) (before after : RelationState) → LinkGoesOn setup before after
    → after.phase ≡ before.phase → suc (units_left after) ≤ units_left before → IsUnserved setup route 0 before → IsRefused identity controller after
unserved_ends setup identity controller route before after on same less is =
    let few : units_left before ≤ 0 = is.few in absurd (omega (arith, less, few))

-- The units that each record costs which a relation may still keep.
abbrev pub reserve_of : Setup → ℕ → ℕ
reserve_of setup silence = if setup.plan.parameters_after_plug then silence else 0

-- Data is exchanged, or the activity timer ends it after this many units at most, also if it keeps all the records that it has room for.
pub record IsTimedFor (setup : Setup) (silence left : ℕ) (its : RelationState) : Type 0 where
  pub timed : is_timed its.phase ≡ true
  pub limit : limit_of its ≤ silence
  pub few : units_left its + room_of its * reserve_of setup silence ≤ left

abbrev pub IsEarly : Setup → ℕ → ℕ → RelationState → Type 0
IsEarly setup silence left its = (its.phase ≡ in_exchange) ⊎ IsTimedFor setup silence left its

-- Before data is exchanged the activity time is all that it has.
timed_few : (its : RelationState) → is_timed its.phase ≡ true → units_left its ≤ limit_of its
timed_few its timed = by_timer (is_timed its.phase) timed
  where
    by_timer : (b : Bool) → b ≡ true → (if b then limit_of its - its.inactive else its.flow.cyclic.hearing.limit - its.flow.cyclic.hearing.held) ≤ limit_of its
    by_timer true e = omega arith
    by_timer false e = absurd (false≢true e)

-- No more units and no more room.
no_more_left : (units units_after room room_after reserve left : ℕ) → units_after ≤ units → room_after ≤ room → units + room * reserve ≤ left
    → units_after + room_after * reserve ≤ left
no_more_left units units_after room room_after reserve left fewer less few =
    let product : room_after * reserve ≤ room * reserve = mul-le room_after reserve room reserve less (omega arith) in
    omega (arith, fewer, product, few)

-- The room counts only if the plan writes parameters after a plug.
kept_left : (keyed : Bool) (silence units units_after room room_after left : ℕ) → units_after ≤ units → (keyed ≡ true → room_after ≤ room)
    → units + room * (if keyed then silence else 0) ≤ left → units_after + room_after * (if keyed then silence else 0) ≤ left
kept_left true silence units units_after room room_after left fewer less few =
    no_more_left units units_after room room_after silence left fewer (less refl) few
kept_left false silence units units_after room room_after left fewer less few =
    let none : room_after * 0 ≡ 0 = omega arith in
    let any : units ≤ units + room * 0 = omega arith in
    omega (arith, none, any, few, fewer)

-- A record was kept: the activity time starts again.
spent_left : (silence units units_after room room_after left : ℕ) → units_after ≤ silence → suc room_after ≤ room → units + room * silence ≤ left
    → units_after + room_after * silence ≤ left
spent_left silence units units_after room room_after left fewer less few =
    let product : suc room_after * silence ≤ room * silence = mul-le (suc room_after) silence room silence less (omega arith) in
    let one = suc-mul room_after silence in
    omega (arith, fewer, product, one, few)

pub early_moves : (setup : Setup) (route : Route) (silence left : ℕ) (before after : RelationState) → LinkGoesOn setup before after
    → IsMoved setup route before after → IsEarly setup silence left before → IsEarly setup silence left after
early_moves setup route silence left before after on (inl stays) (inl exchanges) = inl (stays.0 ∙ exchanges)
early_moves setup route silence left before after on (inl stays) (inr is) =
    let timed : is_timed after.phase ≡ true = ap is_timed stays.0 ∙ is.timed in
    inr (record {
      timed = timed;
      limit = subst (λ (n : ℕ). n ≤ silence) (sym on.limit) is.limit;
      few = kept_left setup.plan.parameters_after_plug silence (units_left before) (units_left after) (room_of before) (room_of after) left stays.1
          (λ keyed. on.room keyed timed) is.few;
    })
early_moves setup route silence left before after on (inr (inl served)) (inl exchanges) = inl (served.1 ∙ exchanges)
early_moves setup route silence left before after on (inr (inl served)) (inr is) = absurd (false≢true (sym served.0 ∙ is.timed))
early_moves setup route silence left before after on (inr (inr (inl begins))) either = inl begins.1
early_moves setup route silence left before after on (inr (inr (inr keeps))) (inl exchanges) = inl (keeps.2 ∙ exchanges)
early_moves setup route silence left before after on (inr (inr (inr keeps))) (inr is) =
    let timed : is_timed after.phase ≡ true = ap is_timed keeps.2 ∙ is.timed in
    let limit : limit_of after ≤ silence = subst (λ (n : ℕ). n ≤ silence) (sym on.limit) is.limit in
    let least : units_left after ≤ limit_of after = timed_few after timed in
    let reserve : reserve_of setup silence ≡ silence = ap (λ (b : Bool). if b then silence else 0) keeps.0 in
    inr (record {
      timed = timed;
      limit = limit;
      few = subst (λ (n : ℕ). units_left after + room_of after * n ≤ left) (sym reserve)
          (spent_left silence (units_left before) (units_left after) (room_of before) (room_of after) left (omega (arith, limit, least)) keeps.3
          (subst (λ (n : ℕ). units_left before + room_of before * n ≤ left) reserve is.few));
    })

-- A unit passes: its units and its room.
later_left : (keyed : Bool) (silence units units_after room room_after left : ℕ) → suc units_after ≤ units → (keyed ≡ true → room_after ≤ room)
    → units + room * (if keyed then silence else 0) ≤ suc left → units_after + room_after * (if keyed then silence else 0) ≤ left
later_left keyed silence units units_after room room_after left fewer less few =
    let all : suc units_after + room_after * (if keyed then silence else 0) ≤ suc left =
    kept_left keyed silence units (suc units_after) room room_after (suc left) fewer less few in
    omega (arith, all)

pub early_ages : (setup : Setup) (silence left : ℕ) (before after : RelationState) → LinkGoesOn setup before after → after.phase ≡ before.phase
    → suc (units_left after) ≤ units_left before → IsEarly setup silence (suc left) before → IsEarly setup silence left after
early_ages setup silence left before after on same less (inl exchanges) = inl (same ∙ exchanges)
early_ages setup silence left before after on same less (inr is) =
    let timed : is_timed after.phase ≡ true = ap is_timed same ∙ is.timed in
    inr (record {
      timed = timed;
      limit = subst (λ (n : ℕ). n ≤ silence) (sym on.limit) is.limit;
      few = later_left setup.plan.parameters_after_plug silence (units_left before) (units_left after) (room_of before) (room_of after) left less
          (λ keyed. on.room keyed timed) is.few;
    })

pub early_ends : (setup : Setup) (silence : ℕ) (before after : RelationState) → LinkGoesOn setup before after → after.phase ≡ before.phase
    → suc (units_left after) ≤ units_left before → IsEarly setup silence 0 before → after.phase ≡ in_exchange
early_ends setup silence before after on same less (inl exchanges) = same ∙ exchanges
early_ends setup silence before after on same less (inr is) =
    let few : units_left before + room_of before * reserve_of setup silence ≤ 0 = is.few in
    let any : units_left before ≤ units_left before + room_of before * reserve_of setup silence = omega arith in
    absurd (omega (arith, less, few, any))
