-- How a relation moves from phase to phase.
use Rattle.std.proofs.Common.{◌≡◌, inl, inr, true, false, refl, sym, ◌∙◌, Option, Some, None}
use Rattle.std.specs.Prelude.{Bool, if◌then◌else◌}
use Rattle.relations.specs.declared.phase.Phase.{Phase}
use Rattle.relations.specs.declared.phase.Phase.TheVariants.{Started, Preparing, Awaiting, Exchanging}
use Rattle.relations.specs.RelationState.{RelationState, is_preparing, phase_of}
use Rattle.relations.specs.Phases.{Handled, Made, Parameterized, Prepared, Confirmed, Named, Took, Exchanged, Reported, Passed, Ended, Unmoved, updated}
use Rattle.relations.specs.Runs.{IsByApplication, IsByPrmEnd, IsByReady}

-- The phase after the application said that it is ready: only a relation that waits for that moves.
abbrev behind : Phase → Phase
behind phase = if is_preparing (Some phase) then Awaiting else phase

prepared_phase : (link : RelationState) → phase_of (updated Prepared (Some link)) ≡ Some (behind link.phase)
prepared_phase link = by_phase (is_preparing (Some link.phase))
  where
    by_phase : (b : Bool) → phase_of (Some (if b then record link { phase = Awaiting; waited = 0 } else link)) ≡ Some (if b then Awaiting else link.phase)
    by_phase true = refl
    by_phase false = refl

-- It moves no relation that waits for PrmEnd or for the answer to ApplicationReady.
from_started : (phase next : Phase) → Some phase ≡ Some Started → Some (behind phase) ≡ Some next → next ≡ Started
from_started Started next was is = cc is
from_started Preparing next was is = cc was
from_started Awaiting next was is = cc was
from_started Exchanging next was is = cc was

from_awaiting : (phase next : Phase) → Some phase ≡ Some Awaiting → Some (behind phase) ≡ Some next → next ≡ Awaiting
from_awaiting Started next was is = cc was
from_awaiting Preparing next was is = cc was
from_awaiting Awaiting next was is = cc is
from_awaiting Exchanging next was is = cc was

-- From Started on.
to_awaiting : (handled : Handled) (link : Option RelationState) → phase_of link ≡ Some Started → phase_of (updated handled link) ≡ Some Awaiting → handled ≡ Parameterized false
to_awaiting (Made request partner rows options starting) None was is = cc was
to_awaiting (Made request partner rows options starting) (Some link) was is = cc is
to_awaiting (Parameterized by_application) None was is = cc was
to_awaiting (Parameterized true) (Some link) was is = cc is
to_awaiting (Parameterized false) (Some link) was is = refl
to_awaiting Prepared None was is = cc was
to_awaiting Prepared (Some link) was is = let no = from_started link.phase Awaiting was (sym (prepared_phase link) ∙ is) in cc no
to_awaiting Confirmed None was is = cc was
to_awaiting Confirmed (Some link) was is = cc is
to_awaiting (Named source) None was is = cc was
to_awaiting (Named source) (Some link) was is = cc (was, is)
to_awaiting (Took records) None was is = cc was
to_awaiting (Took records) (Some link) was is = cc (was, is)
to_awaiting (Exchanged flow) None was is = cc was
to_awaiting (Exchanged flow) (Some link) was is = cc (was, is)
to_awaiting (Reported flow taken plugs) None was is = cc was
to_awaiting (Reported flow taken plugs) (Some link) was is = cc (was, is)
to_awaiting Passed None was is = cc was
to_awaiting Passed (Some link) was is = cc (was, is)
to_awaiting Ended None was is = cc was
to_awaiting Ended (Some link) was is = cc is
to_awaiting Unmoved None was is = cc was
to_awaiting Unmoved (Some link) was is = cc (was, is)

to_preparing : (handled : Handled) (link : Option RelationState) → phase_of link ≡ Some Started → phase_of (updated handled link) ≡ Some Preparing → handled ≡ Parameterized true
to_preparing (Made request partner rows options starting) None was is = cc was
to_preparing (Made request partner rows options starting) (Some link) was is = cc is
to_preparing (Parameterized by_application) None was is = cc was
to_preparing (Parameterized true) (Some link) was is = refl
to_preparing (Parameterized false) (Some link) was is = cc is
to_preparing Prepared None was is = cc was
to_preparing Prepared (Some link) was is = let no = from_started link.phase Preparing was (sym (prepared_phase link) ∙ is) in cc no
to_preparing Confirmed None was is = cc was
to_preparing Confirmed (Some link) was is = cc is
to_preparing (Named source) None was is = cc was
to_preparing (Named source) (Some link) was is = cc (was, is)
to_preparing (Took records) None was is = cc was
to_preparing (Took records) (Some link) was is = cc (was, is)
to_preparing (Exchanged flow) None was is = cc was
to_preparing (Exchanged flow) (Some link) was is = cc (was, is)
to_preparing (Reported flow taken plugs) None was is = cc was
to_preparing (Reported flow taken plugs) (Some link) was is = cc (was, is)
to_preparing Passed None was is = cc was
to_preparing Passed (Some link) was is = cc (was, is)
to_preparing Ended None was is = cc was
to_preparing Ended (Some link) was is = cc is
to_preparing Unmoved None was is = cc was
to_preparing Unmoved (Some link) was is = cc (was, is)

pub is_by_prm_end : IsByPrmEnd
is_by_prm_end handled link was = (to_awaiting handled link was, to_preparing handled link was)

-- From Preparing on.
pub is_by_application : IsByApplication
is_by_application (Made request partner rows options starting) None was is = absurd (cc was)
is_by_application (Made request partner rows options starting) (Some link) was is = absurd (cc is)
is_by_application (Parameterized by_application) None was is = absurd (cc was)
is_by_application (Parameterized true) (Some link) was is = absurd (cc is)
is_by_application (Parameterized false) (Some link) was is = inr refl
is_by_application Prepared None was is = absurd (cc was)
is_by_application Prepared (Some link) was is = inl refl
is_by_application Confirmed None was is = absurd (cc was)
is_by_application Confirmed (Some link) was is = absurd (cc is)
is_by_application (Named source) None was is = absurd (cc was)
is_by_application (Named source) (Some link) was is = absurd (cc (was, is))
is_by_application (Took records) None was is = absurd (cc was)
is_by_application (Took records) (Some link) was is = absurd (cc (was, is))
is_by_application (Exchanged flow) None was is = absurd (cc was)
is_by_application (Exchanged flow) (Some link) was is = absurd (cc (was, is))
is_by_application (Reported flow taken plugs) None was is = absurd (cc was)
is_by_application (Reported flow taken plugs) (Some link) was is = absurd (cc (was, is))
is_by_application Passed None was is = absurd (cc was)
is_by_application Passed (Some link) was is = absurd (cc (was, is))
is_by_application Ended None was is = absurd (cc was)
is_by_application Ended (Some link) was is = absurd (cc is)
is_by_application Unmoved None was is = absurd (cc was)
is_by_application Unmoved (Some link) was is = absurd (cc (was, is))

-- From Awaiting on.
pub is_by_ready : IsByReady
is_by_ready (Made request partner rows options starting) None was is = cc was
is_by_ready (Made request partner rows options starting) (Some link) was is = cc is
is_by_ready (Parameterized by_application) None was is = cc was
is_by_ready (Parameterized true) (Some link) was is = cc is
is_by_ready (Parameterized false) (Some link) was is = cc is
is_by_ready Prepared None was is = cc was
is_by_ready Prepared (Some link) was is = let no = from_awaiting link.phase Exchanging was (sym (prepared_phase link) ∙ is) in cc no
is_by_ready Confirmed None was is = refl
is_by_ready Confirmed (Some link) was is = refl
is_by_ready (Named source) None was is = cc was
is_by_ready (Named source) (Some link) was is = cc (was, is)
is_by_ready (Took records) None was is = cc was
is_by_ready (Took records) (Some link) was is = cc (was, is)
is_by_ready (Exchanged flow) None was is = cc was
is_by_ready (Exchanged flow) (Some link) was is = cc (was, is)
is_by_ready (Reported flow taken plugs) None was is = cc was
is_by_ready (Reported flow taken plugs) (Some link) was is = cc (was, is)
is_by_ready Passed None was is = cc was
is_by_ready Passed (Some link) was is = cc (was, is)
is_by_ready Ended None was is = cc was
is_by_ready Ended (Some link) was is = cc is
is_by_ready Unmoved None was is = cc was
is_by_ready Unmoved (Some link) was is = cc (was, is)
