-- Each field at its place.
use Rattle.fields_law.proofs.ReadingDiagnosis.{diagnosis_is}
use Rattle.fields_law.proofs.ReadingPort.{interface_is, network_is, port_is}
use Rattle.fields_law.proofs.ReadingRelation.{no_relation_is, relation_is}
use Rattle.fields_law.proofs.reading.records_are_read_back.Goals as goal

pub returns : goal.returns
returns c = record {
  diagnosis = λ has diagnoses real few all. diagnosis_is has diagnoses few all real;
  relation = relation_is;
  no_relation = no_relation_is;
  port = port_is;
  interface = interface_is;
  network = network_is;
}
