-- It is accepted, or refused.
use Rattle.std.proofs.Common.{ℕ, refl}
use Rattle.arrayvec.specs.ArrayVec.{ArrayVec}
use Rattle.asked_records.specs.Answers.{gives_refusal}
use Rattle.asked_records.specs.Asked.{seen_in}
use Rattle.device_core.specs.State.{Live, Station}
use Rattle.device_frames.specs.declared.local.Local.{Local}
use Rattle.device_frames.specs.declared.local.Local.TheVariants.{Refuse}
use Rattle.device_abi.specs.Reasons.{why_no_answer}
use Rattle.device_abi.proofs.Kept.{reason_before, said_with}
use Rattle.device_abi.proofs.asking.refuse_with.Goals as goal

pub returns : goal.returns
returns c =
    let old = c.args.port.now in
    let new = c.refuse-outcome.new.self in
    let said : Local (ArrayVec ℕ) = Refuse c.args.op.now.number c.args.codes.0 c.args.codes.1 in
    let why = λ (station : Station) (live : Live). why_no_answer (seen_in live.rest.asked) c.args.op.now.number (gives_refusal c.args.codes.0 c.args.codes.1) in
    let before = why old.port.device.station old.port.device.live in
    said_with old new said c.refuse-outcome.result before c.why_no_answer-why.result c.args.op.now c.conclude.new.op c.conclude.result c.refuse-outcome.ensures
    (reason_before why c.device.result.now old.port new.port c.why_no_answer-why.result (λ station live peer. refl) c.device.ensures c.why_no_answer-why.ensures) c.conclude.ensures
