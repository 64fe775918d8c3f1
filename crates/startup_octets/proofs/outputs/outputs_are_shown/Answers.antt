use Rattle.connect_blocks.specs.declared.iocr.IocrType.TheVariants.{Output}
use Rattle.both_ends.proofs.ExchangeOutputsMoves.{ArePlaced}
use Rattle.both_ends.proofs.ExchangeOutputsOneFrame.{other_mac}
use Rattle.both_ends.proofs.ExchangeOutputsPlaced.{placed}
use Rattle.startup_octets.proofs.OutputRuns.{all_shown}
use Rattle.startup_octets.proofs.OutputSteps.{all_kept}
use Rattle.startup_octets.proofs.outputs.outputs_are_shown.Goals as goal

-- the places of the plan's outputs
there : (g : _) → (c : goal.After-worlds_show_what_is_given g) → ArePlaced c.args.setup.now
there g c =
    placed c.args.setup.now (c.packed_places_are_asked.ensures.good Output c.args.setup.now.plan.real.modules.items c.stations_are_real.ensures.setup.plan.good.ordered)

pub returns-clause-shown : goal.returns-clause-shown
returns-clause-shown g c = λ can first run begins made.
    all_shown g.F.Flash c.args.setup.now c.args.identity.now (there g c) (λ first run begins made. c.worlds_show_what_is_given.ensures.zeros can first run begins made)
    (λ first run begins made. c.worlds_show_what_is_given.ensures.values can first run begins made) first begins run made

pub returns-clause-kept : goal.returns-clause-kept
returns-clause-kept g c = λ can first run begins made.
    let setup = c.args.setup.now in
    let identity = c.args.identity.now in
    all_kept setup identity (there g c) c.device_turns.ensures.turn c.device_turns.ensures.numbers c.device_turns.ensures.changed_standing c.turns_are_of_a_kind.ensures.event c.formats_are_sound.ensures.ethernet c.formats_are_sound.ensures.layers
    (other_mac identity.mac setup.plan.controller.mac can.apart) c.stations_are_real.ensures.setup.mac g.F.Flash first begins run made
    (c.worlds_start_up.ensures.meant can first run begins made)
