use Rattle.std.proofs.Common.{refl}
use Rattle.plug_ends.proofs.Written.{any_came, plain_rules, positive_so}
use Rattle.plug_ends.proofs.taken.writes_after_plugs_are_taken.Goals as goal

pub returns-clause-once : goal.returns-clause-once
returns-clause-once c = λ setup request entry good is outcomes station live caller address.
    any_came c.blocks_are_read.ensures.read c.refusals_are_not_done.ensures c.device_turns.ensures.turn setup good request entry is
    (plain_rules setup) refl outcomes station live caller address

pub returns-clause-granted : goal.returns-clause-granted
returns-clause-granted c = λ setup request entry good is outcomes station live caller address keeps_all.
    positive_so c.blocks_are_read.ensures.read c.refusals_are_not_done.ensures c.device_turns.ensures.turn setup good request entry is
    (plain_rules setup) refl outcomes station live caller address keeps_all
