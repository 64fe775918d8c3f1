use Rattle.connect_blocks.specs.declared.iocr.IocrType.TheVariants.{Output}
use Rattle.both_ends.proofs.ExchangeOutputsMoves.{ArePlaced}
use Rattle.both_ends.proofs.ExchangeOutputsOneFrame.{as_given, other_mac, shows_one_frame, shows_zeros}
use Rattle.both_ends.proofs.ExchangeOutputsPlaced.{placed}
use Rattle.both_ends.proofs.exchange.outputs.worlds_show_what_is_given.Goals as goal

-- the places of the plan's outputs
there : (g : _) → (c : goal.After-outputs_are_given g) → ArePlaced c.args.setup.now
there g c = placed c.args.setup.now (c.packed_places_are_asked.ensures.good Output c.args.setup.now.plan.real.modules.items c.stations_are_real.ensures.setup.plan.good.ordered)

pub returns-clause-zeros : goal.returns-clause-zeros
returns-clause-zeros g c = λ can first run begins made link is none.
    let setup = c.args.setup.now in
    let identity = c.args.identity.now in
    let sound = c.formats_are_sound.ensures.ethernet in
    let whole = c.formats_are_sound.ensures.layers in
    let differ = other_mac identity.mac setup.plan.controller.mac can.apart in
    let six = c.stations_are_real.ensures.setup.mac in
    let meant = c.worlds_start_up.ensures.meant can first run begins made in
    shows_zeros c.device_turns.ensures.turn c.device_turns.ensures.numbers c.device_turns.ensures.changed_standing c.turns_are_of_a_kind.ensures.event sound whole setup identity differ six (there g c) first begins g.F.Flash run made meant
    (as_given c.device_turns.ensures.turn c.device_turns.ensures.numbers c.device_turns.ensures.changed_standing c.turns_are_of_a_kind.ensures.event sound whole setup identity differ six (there g c) first begins g.F.Flash run made meant c.outputs_are_given.ensures)
    link is none

pub returns-clause-values : goal.returns-clause-values
returns-clause-values g c = λ can first run begins made link is some.
    let setup = c.args.setup.now in
    let identity = c.args.identity.now in
    let sound = c.formats_are_sound.ensures.ethernet in
    let whole = c.formats_are_sound.ensures.layers in
    let differ = other_mac identity.mac setup.plan.controller.mac can.apart in
    let six = c.stations_are_real.ensures.setup.mac in
    let meant = c.worlds_start_up.ensures.meant can first run begins made in
    shows_one_frame c.device_turns.ensures.turn c.device_turns.ensures.numbers c.device_turns.ensures.changed_standing c.turns_are_of_a_kind.ensures.event sound whole setup identity differ six (there g c) first begins g.F.Flash run made meant
    (as_given c.device_turns.ensures.turn c.device_turns.ensures.numbers c.device_turns.ensures.changed_standing c.turns_are_of_a_kind.ensures.event sound whole setup identity differ six (there g c) first begins g.F.Flash run made meant c.outputs_are_given.ensures)
    link is some
