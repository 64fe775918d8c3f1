-- This follows from what a unit and a frame do to the parts of the controller's state, and from the laws of hearing.
use Rattle.rounds_law.proofs.ControllerPassingFrames.{inputs_before, inputs_later, reported}
use Rattle.rounds_law.proofs.ControllerPassingUnits.{later_unit, unit, unsent}
use Rattle.rounds_law.proofs.controller.passing.controller_goes_on_in_time.Goals as goal

pub returns-clause-unit : goal.returns-clause-unit
returns-clause-unit c = λ controller phase request stands spare limited is.
    unit c.args.setup.now c.args.identity.now.mac phase request spare controller stands is

pub returns-clause-unsent : goal.returns-clause-unsent
returns-clause-unsent c = λ controller phase request spare limited is. unsent c.args.setup.now c.args.identity.now.mac phase request spare controller is

pub returns-clause-inputs : goal.returns-clause-inputs
returns-clause-inputs c = λ controller phase request stands spare octets inputs is.
    inputs_before c.inputs_are_heard.ensures.controller c.formats_are_sound.ensures.ethernet
    c.formats_are_sound.ensures.layers c.args.setup.now c.args.identity.now
    c.stations_are_real.ensures.setup c.stations_are_real.ensures.device controller octets inputs phase request stands spare is

pub returns-clause-later_unit : goal.returns-clause-later_unit
returns-clause-later_unit c = λ serial controller age holds young is. later_unit c.args.setup.now serial c.args.identity.now.mac age controller holds young is

pub returns-clause-later_inputs : goal.returns-clause-later_inputs
returns-clause-later_inputs c = λ serial controller age octets inputs is.
    inputs_later c.inputs_are_heard.ensures.controller c.formats_are_sound.ensures.ethernet
    c.formats_are_sound.ensures.layers c.args.setup.now c.args.identity.now
    c.stations_are_real.ensures.setup c.stations_are_real.ensures.device controller octets inputs serial age is

pub returns-clause-reported : goal.returns-clause-reported
returns-clause-reported c = λ serial controller age octets report is.
    reported serial c.alarms_are_heard.ensures.low c.args.setup.now c.args.identity.now c.stations_are_real.ensures.setup
    c.stations_are_real.ensures.device controller age octets report is
