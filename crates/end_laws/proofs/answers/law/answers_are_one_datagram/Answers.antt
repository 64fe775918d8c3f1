-- This follows from what each outcome sends and stores.
use Rattle.std.proofs.Common.{sym, subst}
use Rattle.device_core.specs.State.{Live}
use Rattle.end_laws.specs.answers.Whole.{AreStoredWhole}
use Rattle.end_laws.proofs.AnswersWalking.{step_good}
use Rattle.end_laws.proofs.answers.law.answers_are_one_datagram.Goals as goal

pub returns-clause-first : goal.returns-clause-first
returns-clause-first g c = λ given settings room. tt

pub returns-clause-step : goal.returns-clause-step
returns-clause-step g c = λ old new heard sent said steps stored.
    let good = step_good c.frames_are_read.ensures.udp c.responses_are_read.ensures.read c.application_is_local.ensures steps.outcomes old.station old.live heard steps.sendable stored in
    (good.0, subst (λ (live : Live). AreStoredWhole live.rest.calls) (sym steps.live) good.1)
