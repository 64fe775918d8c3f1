-- This follows from the laws of the crates below.
use Rattle.std.proofs.Common.{None, arith}
use Rattle.dcp_core.specs.Get.{get_bytes}
use Rattle.dcp_core.specs.Identify.{identify_bytes}
use Rattle.dcp_core.specs.Set.{set_bytes}
use Rattle.dcp_core.specs.Reported.{get_said, identify_said, set_said}
use Rattle.end_laws.proofs.HearingController.{answer_heard, get_set_is, identify_is}
use Rattle.end_laws.proofs.hearing.discovery.answers_are_heard.Goals as goal

pub returns-clause-identify : goal.returns-clause-identify
returns-clause-identify c =
    λ mine identity asker running xid is mac small few.
    answer_heard c.frames_are_read.ensures.real_time 65279 identify_is mine asker identity.mac None (identify_bytes identity running xid) (identify_said identity running xid) (record { destination = mac; source = is; tag = tt; content = (omega arith, few) })
    (λ more. c.answers_are_read.ensures.identify identity running xid more small few)

pub returns-clause-get : goal.returns-clause-get
returns-clause-get c =
    λ mine identity asker running alias request is mac small few.
    answer_heard c.frames_are_read.ensures.real_time 65277 get_set_is mine asker identity.mac None (get_bytes identity running alias request) (get_said identity running alias request) (record { destination = mac; source = is; tag = tt; content = (omega arith, few) })
    (λ more. c.answers_are_read.ensures.get identity running alias request more small few)

pub returns-clause-set : goal.returns-clause-set
returns-clause-set c =
    λ mine identity asker request outcomes is mac small few.
    answer_heard c.frames_are_read.ensures.real_time 65277 get_set_is mine asker identity.mac None (set_bytes request outcomes) (set_said request outcomes) (record { destination = mac; source = is; tag = tt; content = (omega arith, few) })
    (λ more. c.answers_are_read.ensures.set request outcomes more small few)
