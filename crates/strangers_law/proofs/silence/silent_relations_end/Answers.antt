-- A relation ends if its controller is silent.
use Rattle.strangers_law.proofs.Endings.{counts_down, ends_in_time, ends_or_hears, ends_unplugged}
use Rattle.strangers_law.proofs.Timed.{stay_timed}
use Rattle.strangers_law.proofs.silence.silent_relations_end.Goals as goal

pub returns-clause-counts : goal.returns-clause-counts
returns-clause-counts c = counts_down

pub returns-clause-ends : goal.returns-clause-ends
returns-clause-ends c = λ station live link outcomes events exists timed unasked silent many.
    ends_in_time station live link outcomes events exists timed unasked silent many

pub returns-clause-heard : goal.returns-clause-heard
returns-clause-heard c = λ station live link outcomes events exists timed unasked many.
    ends_or_hears station live link outcomes events exists timed unasked many

pub returns-clause-unplugged : goal.returns-clause-unplugged
returns-clause-unplugged c = λ station live outcomes events timed unasked none many.
    ends_unplugged station live outcomes events timed unasked none many

pub returns-clause-timed : goal.returns-clause-timed
returns-clause-timed c = stay_timed
