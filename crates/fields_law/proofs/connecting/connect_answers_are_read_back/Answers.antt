-- Each field at its place.
use Rattle.fields_law.proofs.ReadingAnswer.{answer_is}
use Rattle.fields_law.proofs.ReadingModules.{module_diff_read}
use Rattle.fields_law.proofs.ReadingStates.{module_says, submodule_says}
use Rattle.fields_law.proofs.connecting.connect_answers_are_read_back.Goals as goal

pub returns : goal.returns
returns c =
    let long = c.blocks_are_read.ensures.long in
    record {
      answer = λ identity request number differing sized. answer_is long identity request number sized differing;
      differing = module_diff_read long;
      module_says = module_says;
      submodule_says = submodule_says;
    }
