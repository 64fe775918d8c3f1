use Rattle.end_laws.proofs.device.owed.device_sends_what_it_owes.Goals as goal

pub returns : goal.returns
returns c = λ rules activity outcomes station live heard planned. (c.device_turns.ensures.turn rules activity outcomes station live heard planned).owed
