-- The neighbour is reported to the device, and then the frame is handled.
use Rattle.std.proofs.Common.{◌∙◌, sym}
use Rattle.device_station.proofs.port.served.Port.hear.Goals as goal

pub returns-in-None : goal.returns-in-None
returns-in-None c = (
  sym c.barred.ensures ∙ c.in-None.is,
  record {
    between = c.tell.new.self;
    tells = c.tell.ensures.tells;
    free = c.tell.ensures.free;
    steps = c.take_frame.ensures;
  },
)
