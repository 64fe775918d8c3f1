-- It follows from the packet type.
use Rattle.controller_messages.proofs.Refusals.{no_refusal}
use Rattle.controller_messages.proofs.law.calls_are_no_refusals.Goals as goal

pub returns : goal.returns
returns c = record { apart = no_refusal }
