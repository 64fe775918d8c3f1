-- What other stations call does not restart the activity timer, if only its own controller holds a relation.
use Rattle.std.proofs.Common.{◌≡◌, ◌+◌, ℕ, Bool, true, false, not, [], ◌∷◌, Some, refl, ap, arith, subst, sym, ◌∙◌}
use Rattle.std.specs.Prelude.{if◌then◌else◌, ◌||◌}
use Rattle.relations.specs.declared.options.DeviceOptions.{DeviceOptions}
use Rattle.relations.specs.declared.phase.Phase.TheVariants.{Awaiting}
use Rattle.relations.specs.declared.phase.Partner.{Partner}
use Rattle.relations.specs.RelationState.{RelationState, is_alive, is_from, is_preparing}
use Rattle.relations.specs.Phases.{Handled, Made, Parameterized, Prepared, Confirmed, Named, Took, Exchanged, Reported, Passed, Ended, Unmoved, parameterized_from, phase_behind, prepared_from, restarted, with_flow, with_records, with_reported, updated}
use Rattle.relations.specs.Timers.{is_timed, unit_later}
use Rattle.relations.specs.Runs.{AreOfOthers, IsHeldByItsOwn, all_updated, leaves_timer, units_in}

-- The next relation: it has the same options and the same partner, its timer still runs, and has run for these units more.
record IsOn (link : RelationState) (units : ℕ) (next : RelationState) : Type 0 where
  options : next.options ≡ link.options
  partner : next.partner ≡ link.partner
  timed : is_timed next.phase ≡ true
  inactive : next.inactive ≡ link.inactive + units

record Goes (link : RelationState) (event : Handled) : Type 0 where
  next : RelationState
  becomes : updated event (Some link) ≡ Some next
  on : IsOn link (units_in event) next

stays : (link next : RelationState) → next.options ≡ link.options → next.partner ≡ link.partner → is_timed next.phase ≡ true → next.inactive ≡ link.inactive → IsOn link 0 next
stays link next options partner timed inactive = record { options = options; partner = partner; timed = timed; inactive = omega (arith, inactive) }

behind_timed : (by_application : Bool) → is_timed (phase_behind by_application) ≡ true
behind_timed true = refl
behind_timed false = refl

prepared_on : (link : RelationState) (b : Bool) → is_timed link.phase ≡ true → IsOn link 0 (if b then record link { phase = Awaiting; waited = 0 } else link)
prepared_on link true timed = stays link (record link { phase = Awaiting; waited = 0 }) refl refl refl refl
prepared_on link false timed = stays link link refl refl timed refl

-- Another station shows nothing.
not_alive : (only same : Bool) → only ≡ true → not same ≡ true → (not only || same) ≡ false
not_alive true false own other = refl
not_alive true true own other = cc other
not_alive false same own other = cc own

not_restarted : (link : RelationState) (b : Bool) → b ≡ false → (if b then 0 else link.inactive) ≡ link.inactive
not_restarted link true e = cc e
not_restarted link false e = refl

goes : (link : RelationState) (event : Handled) → link.options.only_own_controller ≡ true → is_timed link.phase ≡ true → leaves_timer link.partner event ≡ true → Goes link event
goes link (Made request partner rows options starting) own timed leaves = absurd (cc leaves)
goes link (Parameterized by_application) own timed leaves =
    let next = parameterized_from by_application link in
    record { next = next; becomes = refl; on = stays link next refl refl (behind_timed by_application) refl }
goes link Prepared own timed leaves = record { next = prepared_from link; becomes = refl; on = prepared_on link (is_preparing (Some link.phase)) timed }
goes link Confirmed own timed leaves = absurd (cc leaves)
goes link (Named source) own timed leaves =
    let none = not_alive link.options.only_own_controller (is_from source link.partner) own leaves in
    record { next = restarted source link; becomes = refl; on = stays link (restarted source link) refl refl timed (not_restarted link (is_alive source link) none) }
goes link (Took records) own timed leaves = record { next = with_records records link; becomes = refl; on = stays link (with_records records link) refl refl timed refl }
goes link (Exchanged flow) own timed leaves = record { next = with_flow flow link; becomes = refl; on = stays link (with_flow flow link) refl refl timed refl }
goes link (Reported flow taken plugs) own timed leaves =
    let next = with_reported flow taken plugs link in
    record { next = next; becomes = refl; on = stays link next refl refl timed refl }
goes link Passed own timed leaves = record {
  next = unit_later link;
  becomes = refl;
  on = record { options = refl; partner = refl; timed = timed; inactive = ap (λ (b : Bool). if b then link.inactive + 1 else link.inactive) timed };
}
goes link Ended own timed leaves = absurd (cc leaves)
goes link Unmoved own timed leaves = record { next = link; becomes = refl; on = stays link link refl refl timed refl }

some_is : (x y : RelationState) → Some x ≡ Some y → x ≡ y
some_is x y e = cc

pub is_held_by_its_own : IsHeldByItsOwn
is_held_by_its_own link now [] own timed others e =
    let same = some_is link now e in
    ap (λ (l : RelationState). l.inactive) (sym same) ∙ omega arith
is_held_by_its_own link now (event ∷ more) own timed others e =
    let step = goes link event own timed others.0 in
    let left : AreOfOthers step.next.partner more = subst (λ (p : Partner). AreOfOthers p more) (sym step.on.partner) others.1 in
    let after : all_updated more (Some step.next) ≡ Some now = ap (all_updated more) (sym step.becomes) ∙ e in
    let rest = is_held_by_its_own step.next now more (ap (λ (o : DeviceOptions). o.only_own_controller) step.on.options ∙ own) step.on.timed left after in
    omega (arith, rest, step.on.inactive)
