-- This follows from the proofs of the formats.
use Rattle.rpc_core.proofs.Heads.{answered_is_none, called_is_none, no_call, no_response}
use Rattle.rpc_core.proofs.law.calls_and_responses_differ.Goals as goal

pub returns-clause-call : goal.returns-clause-call
returns-clause-call c = no_response

pub returns-clause-response : goal.returns-clause-response
returns-clause-response c = no_call

pub returns-clause-called : goal.returns-clause-called
returns-clause-called c = called_is_none

pub returns-clause-answered : goal.returns-clause-answered
returns-clause-answered c = answered_is_none
