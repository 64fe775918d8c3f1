-- For any events while a relation waits for the answer to ApplicationReady.
use Rattle.std.proofs.Common.{◌≡◌, ◌+◌, ◌%◌, ℕ, true, List, [], ◌∷◌, Some, ap, arith, subst, ◌∙◌}
use Rattle.relations.specs.RelationState.{RelationState, is_awaiting}
use Rattle.relations.specs.Phases.{Handled, Made, Parameterized, Prepared, Confirmed, Named, Took, Exchanged, Reported, Passed, Ended, Unmoved, restarted, with_flow, with_records, with_reported}
use Rattle.relations.specs.Timers.{unit_later}
use Rattle.relations.specs.Runs.{AreWaiting, IsDueWhateverComes, all_updated, units_of}
use Rattle.relations.proofs.Kept.{again_with, waited_next}

-- The relation still waits, and has waited for the units among the events.
waits_on : (events : List Handled) (link now : RelationState) (units : ℕ) → is_awaiting link.phase ≡ true → link.waited ≡ units % 32000 → AreWaiting events
    → all_updated events (Some link) ≡ Some now → (is_awaiting now.phase ≡ true) × (now.waited ≡ (units_of events + units) % 32000)
waits_on [] link now units waits so still e =
    let same : link ≡ now = cc in
    let count : units ≡ units_of [] + units = omega arith in
    subst (λ (l : RelationState). (is_awaiting l.phase ≡ true) × (l.waited ≡ (units_of [] + units) % 32000)) same
    (waits, so ∙ ap (λ (n : ℕ). n % 32000) count)
waits_on (Made request partner rows options starting ∷ more) link now units waits so still e = absurd (let no = still.0 in cc)
waits_on (Parameterized by_application ∷ more) link now units waits so still e = absurd (let no = still.0 in cc)
waits_on (Prepared ∷ more) link now units waits so still e = absurd (let no = still.0 in cc)
waits_on (Confirmed ∷ more) link now units waits so still e = absurd (let no = still.0 in cc)
waits_on (Named source ∷ more) link now units waits so still e =
    let on = waits_on more (restarted source link) now units waits so still.1 e in
    let count : units_of more + units ≡ units_of (Named source ∷ more) + units = omega arith in
    (on.0, on.1 ∙ ap (λ (n : ℕ). n % 32000) count)
waits_on (Took records ∷ more) link now units waits so still e =
    let on = waits_on more (with_records records link) now units waits so still.1 e in
    let count : units_of more + units ≡ units_of (Took records ∷ more) + units = omega arith in
    (on.0, on.1 ∙ ap (λ (n : ℕ). n % 32000) count)
waits_on (Exchanged flow ∷ more) link now units waits so still e =
    let on = waits_on more (with_flow flow link) now units waits so still.1 e in
    let count : units_of more + units ≡ units_of (Exchanged flow ∷ more) + units = omega arith in
    (on.0, on.1 ∙ ap (λ (n : ℕ). n % 32000) count)
waits_on (Reported flow taken plugs ∷ more) link now units waits so still e =
    let on = waits_on more (with_reported flow taken plugs link) now units waits so still.1 e in
    let count : units_of more + units ≡ units_of (Reported flow taken plugs ∷ more) + units = omega arith in
    (on.0, on.1 ∙ ap (λ (n : ℕ). n % 32000) count)
waits_on (Passed ∷ more) link now units waits so still e =
    let on = waits_on more (unit_later link) now (units + 1) waits (waited_next link units waits so) still.1 e in
    let count : units_of more + (units + 1) ≡ units_of (Passed ∷ more) + units = omega arith in
    (on.0, on.1 ∙ ap (λ (n : ℕ). n % 32000) count)
waits_on (Ended ∷ more) link now units waits so still e = absurd (let no = still.0 in cc)
waits_on (Unmoved ∷ more) link now units waits so still e =
    let on = waits_on more link now units waits so still.1 e in
    let count : units_of more + units ≡ units_of (Unmoved ∷ more) + units = omega arith in
    (on.0, on.1 ∙ ap (λ (n : ℕ). n % 32000) count)

pub is_due_whatever_comes : IsDueWhateverComes
is_due_whatever_comes link now events waits new still e =
    let on = waits_on events link now 0 waits new still e in
    let count : units_of events + 0 ≡ units_of events = omega arith in
    rw on.0 (again_with now.waited (units_of events) (on.1 ∙ ap (λ (n : ℕ). n % 32000) count))
