-- Each field at its place.
use Rattle.std.proofs.Common.{refl}
use Rattle.fields_law.proofs.ReadingAlarm.{ack_is, diagnosis_alarm, id_read, module_alarm, process_is, reply_is}
use Rattle.fields_law.proofs.alarms.alarms_are_read_back.Goals as goal

pub returns : goal.returns
returns c = record {
  priority = id_read;
  low = λ route tag header alarm sequence. refl;
  diagnosis = λ tag header alarm sequence change fits queued sized is. diagnosis_alarm tag header alarm sequence fits queued change sized is;
  modules = λ tag header alarm sequence made fits queued sized is. module_alarm tag header alarm sequence fits queued made sized is;
  process = process_is;
  ack = λ priority header ack fits sized. ack_is header ack fits sized priority;
  reply = reply_is;
}
