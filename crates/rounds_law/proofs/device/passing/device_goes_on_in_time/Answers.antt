-- Each clause is a lemma about units or about frames of outputs.
use Rattle.rounds_law.proofs.DevicePassingTaken.{exchange_stays, relation_stays}
use Rattle.rounds_law.proofs.DevicePassingUnits.{exchange_unit, free_unit, relation_unit}
use Rattle.rounds_law.proofs.device.passing.device_goes_on_in_time.Goals as goal

pub returns-clause-free : goal.returns-clause-free
returns-clause-free c = free_unit c.args.setup.now

pub returns-clause-unit : goal.returns-clause-unit
returns-clause-unit c = λ serial. relation_unit serial c.args.setup.now c.args.identity.now

pub returns-clause-outputs : goal.returns-clause-outputs
returns-clause-outputs c = λ serial.
    relation_stays c.formats_are_sound.ensures.ethernet c.formats_are_sound.ensures.layers c.args.setup.now c.args.identity.now
    c.stations_are_real.ensures.setup c.stations_are_real.ensures.device serial

pub returns-clause-later_unit : goal.returns-clause-later_unit
returns-clause-later_unit c = λ serial outcomes station live age same. exchange_unit serial c.args.setup.now outcomes station live age

pub returns-clause-later_outputs : goal.returns-clause-later_outputs
returns-clause-later_outputs c = λ serial.
    exchange_stays c.formats_are_sound.ensures.ethernet c.formats_are_sound.ensures.layers c.args.setup.now c.args.identity.now
    c.stations_are_real.ensures.setup c.stations_are_real.ensures.device serial
