-- This follows from the laws of the crates below.
use Rattle.end_laws.proofs.HearingSendings.{answer_can, call_can, plug_call_can, ready_can, record_can}
use Rattle.end_laws.proofs.SendingSizes.{plug_answer_can}
use Rattle.end_laws.proofs.hearing.calls.calls_can_be_sent.Goals as goal

pub returns-clause-call : goal.returns-clause-call
returns-clause-call c = call_can c.blocks_are_read.ensures.long

pub returns-clause-record_call : goal.returns-clause-record_call
returns-clause-record_call c = record_can c.blocks_are_read.ensures.long

pub returns-clause-ready : goal.returns-clause-ready
returns-clause-ready c = ready_can c.blocks_are_read.ensures.long

pub returns-clause-answer : goal.returns-clause-answer
returns-clause-answer c = answer_can c.blocks_are_read.ensures.long

pub returns-clause-plug_call : goal.returns-clause-plug_call
returns-clause-plug_call c = plug_call_can c.blocks_are_read.ensures.long

pub returns-clause-plug_answer : goal.returns-clause-plug_answer
returns-clause-plug_answer c = plug_answer_can
