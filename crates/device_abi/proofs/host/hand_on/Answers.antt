-- What the application says is handed in as what it is.
use Rattle.std.proofs.Common.{ℕ}
use Rattle.arrayvec.specs.ArrayVec.{ArrayVec}
use Rattle.pn_values.specs.declared.real.RealSubmodule.{RealSubmodule}
use Rattle.device_frames.specs.declared.event.Event.TheVariants.{Application}
use Rattle.device_frames.specs.declared.local.Local.TheVariants.{Alarm, Answer, Input, Plug}
use Rattle.device_abi.proofs.PortHanded.{answered_in, copied_in, heard_in, whole_in}
use Rattle.device_abi.proofs.host.hand_on.Goals as goal

pub returns-in-Input : goal.returns-in-Input
returns-in-Input c =
    rw c.in-Input.is (whole_in (λ (octets : ArrayVec ℕ). Application (Input c.in-Input.slot c.in-Input.subslot octets)) _ _ _ _ c.as_slice.ensures.value c.as_slice.ensures.few (heard_in _ _ _ _ c.input.ensures))

pub returns-in-Alarm : goal.returns-in-Alarm
returns-in-Alarm c =
    rw c.in-Alarm.is (whole_in (λ (octets : ArrayVec ℕ). Application (Alarm c.in-Alarm.slot c.in-Alarm.subslot octets)) _ _ _ _ c.as_slice-in-Alarm.ensures.value c.as_slice-in-Alarm.ensures.few (answered_in _ _ _ _ c.alarm.ensures))

pub returns-in-Status : goal.returns-in-Status
returns-in-Status c = rw c.in-Status.is (answered_in _ _ _ _ c.status.ensures)

pub returns-in-Diagnosis : goal.returns-in-Diagnosis
returns-in-Diagnosis c = rw c.in-Diagnosis.is (answered_in _ _ _ _ c.diagnosis.ensures)

pub returns-in-Pull : goal.returns-in-Pull
returns-in-Pull c = rw c.in-Pull.is (answered_in _ _ _ _ c.pull.ensures)

pub returns-in-PullModule : goal.returns-in-PullModule
returns-in-PullModule c = rw c.in-PullModule.is (answered_in _ _ _ _ c.pull_module.ensures)

pub returns-in-Plug : goal.returns-in-Plug
returns-in-Plug c = rw c.in-Plug.is (copied_in (λ (part : RealSubmodule). Application (Plug c.in-Plug.slot c.in-Plug.ident part)) _ _ _ _ c.copy.ensures (answered_in _ _ _ _ c.plug.ensures))

pub returns-in-ReadyAt : goal.returns-in-ReadyAt
returns-in-ReadyAt c = rw c.in-ReadyAt.is (answered_in _ _ _ _ c.ready_at.ensures)

pub returns-in-Ready : goal.returns-in-Ready
returns-in-Ready c = rw c.in-Ready.is (answered_in _ _ _ _ c.ready.ensures)

pub returns-in-ProviderState : goal.returns-in-ProviderState
returns-in-ProviderState c = rw c.in-ProviderState.is (answered_in _ _ _ _ c.provider_state.ensures)

pub returns-in-Answer : goal.returns-in-Answer
returns-in-Answer c =
    rw c.in-Answer.is (whole_in (λ (octets : ArrayVec ℕ). Application (Answer c.in-Answer.number octets)) _ _ _ _ c.as_slice-in-Answer.ensures.value c.as_slice-in-Answer.ensures.few (answered_in _ _ _ _ c.answer.ensures))

pub returns-in-Written : goal.returns-in-Written
returns-in-Written c = rw c.in-Written.is (answered_in _ _ _ _ c.written.ensures)

pub returns-in-Refuse : goal.returns-in-Refuse
returns-in-Refuse c = rw c.in-Refuse.is (answered_in _ _ _ _ c.refuse.ensures)
