-- This follows from what a controller finds in the blocks.
use Rattle.both_ends.proofs.ExchangeDiffers.{chosen_well}
use Rattle.both_ends.proofs.exchange.chosen.answers_choose_well.Goals as goal

pub returns : goal.returns
returns c = λ setup identity real number good six few.
    chosen_well c.blocks_are_read.ensures.read c.blocks_are_found.ensures.known c.blocks_are_found.ensures.written c.blocks_are_found.ensures.stays setup identity good six number few real
