-- By the laws of a unit and of a frame of outputs at a device that waits.
use Rattle.rounds_law.proofs.MiddleDevice.{waits_on, waits_still}
use Rattle.rounds_law.proofs.middle.device.device_waits_for_a_response.Goals as goal

pub returns-clause-unit : goal.returns-clause-unit
returns-clause-unit c = λ serial outcomes station live waited inactive same addressed few awaits.
    waits_on c.args.setup.now c.args.identity.now outcomes station live waited inactive serial awaits same addressed few

pub returns-clause-outputs : goal.returns-clause-outputs
returns-clause-outputs c = λ serial.
    waits_still serial c.formats_are_sound.ensures.ethernet c.formats_are_sound.ensures.layers c.args.setup.now c.args.identity.now
    c.stations_are_real.ensures.setup c.stations_are_real.ensures.device
