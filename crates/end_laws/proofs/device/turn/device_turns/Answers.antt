use Rattle.end_laws.proofs.DeviceNumbers.{number_now_is}
use Rattle.end_laws.proofs.DeviceOrderly.{after_keys, changed_keys, changed_standing}
use Rattle.end_laws.proofs.DeviceTurns.{step_own}
use Rattle.end_laws.proofs.DeviceWalk.{step_numbers, step_raises, step_turns}
use Rattle.end_laws.proofs.device.turn.device_turns.Goals as goal

pub returns-clause-turn : goal.returns-clause-turn
returns-clause-turn c = λ rules activity outcomes station live heard plan. step_turns rules activity outcomes station live heard plan

pub returns-clause-own : goal.returns-clause-own
returns-clause-own c = λ rules activity outcomes station live heard plan own.
    step_own rules activity outcomes station live heard plan (step_turns rules activity outcomes station live heard plan).asked own

pub returns-clause-raises : goal.returns-clause-raises
returns-clause-raises c = λ outcomes station live slot subslot octets. step_raises outcomes station live slot subslot octets

pub returns-clause-numbers : goal.returns-clause-numbers
returns-clause-numbers c = λ rules activity outcomes station live heard plan. step_numbers rules activity outcomes station live heard plan

pub returns-clause-numbered : goal.returns-clause-numbered
returns-clause-numbered c = λ station live. number_now_is station live

pub returns-clause-sent_keys : goal.returns-clause-sent_keys
returns-clause-sent_keys c = after_keys

pub returns-clause-changed_keys : goal.returns-clause-changed_keys
returns-clause-changed_keys c = changed_keys

pub returns-clause-changed_standing : goal.returns-clause-changed_standing
returns-clause-changed_standing c = changed_standing
