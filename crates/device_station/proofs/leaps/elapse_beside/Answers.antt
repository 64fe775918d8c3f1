-- The neighbour is reported to the device, and then the units pass.
use Rattle.std.proofs.Common.{◌-◌}
use Rattle.device_station.specs.State.{in_order}
use Rattle.device_station.specs.Steps.{station_of}
use Rattle.device_station.proofs.Leaping.{one_before, some_units}
use Rattle.device_station.proofs.Telling.{elapsed, none_elapsed}
use Rattle.device_station.proofs.leaps.elapse_beside.Goals as goal

pub returns-then-units-eq0-clause-device : goal.returns-then-units-eq0-clause-device
returns-then-units-eq0-clause-device g c =
    (none_elapsed c.args.units c.args.device.now c.args.services.now c.elapse_told.new.device c.elapse_told.new.services (in_order c.elapse_told.new.outbox) c.if-units-eq0.true
    (record { device = c.elapse_told.ensures.device; services = c.elapse_told.ensures.services; frames = c.elapse_told.ensures.frames; last = c.elapse_told.ensures.last; quiet = c.elapse_told.ensures.quiet })).device

pub returns-then-units-eq0-clause-services : goal.returns-then-units-eq0-clause-services
returns-then-units-eq0-clause-services g c =
    (none_elapsed c.args.units c.args.device.now c.args.services.now c.elapse_told.new.device c.elapse_told.new.services (in_order c.elapse_told.new.outbox) c.if-units-eq0.true
    (record { device = c.elapse_told.ensures.device; services = c.elapse_told.ensures.services; frames = c.elapse_told.ensures.frames; last = c.elapse_told.ensures.last; quiet = c.elapse_told.ensures.quiet })).services

pub returns-then-units-eq0-clause-frames : goal.returns-then-units-eq0-clause-frames
returns-then-units-eq0-clause-frames g c =
    (none_elapsed c.args.units c.args.device.now c.args.services.now c.elapse_told.new.device c.elapse_told.new.services (in_order c.elapse_told.new.outbox) c.if-units-eq0.true
    (record { device = c.elapse_told.ensures.device; services = c.elapse_told.ensures.services; frames = c.elapse_told.ensures.frames; last = c.elapse_told.ensures.last; quiet = c.elapse_told.ensures.quiet })).frames

pub returns-then-units-eq0-clause-last : goal.returns-then-units-eq0-clause-last
returns-then-units-eq0-clause-last g c =
    (none_elapsed c.args.units c.args.device.now c.args.services.now c.elapse_told.new.device c.elapse_told.new.services (in_order c.elapse_told.new.outbox) c.if-units-eq0.true
    (record { device = c.elapse_told.ensures.device; services = c.elapse_told.ensures.services; frames = c.elapse_told.ensures.frames; last = c.elapse_told.ensures.last; quiet = c.elapse_told.ensures.quiet })).last

pub returns-clause-device : goal.returns-clause-device
returns-clause-device g c =
    (elapsed g.F.Flash c.args.units (c.args.units - 1) (station_of c.args.device.now c.args.services.now) (station_of c.tell_beside.new.device c.tell_beside.new.services) c.elapse_told-2.new.device
    c.elapse_told-2.new.services (in_order c.elapse_told-2.new.outbox) (one_before c.args.units (some_units c.args.units c.if-units-eq0.false)) c.tell_beside.ensures.tells
    (record { device = c.elapse_told-2.ensures.device; services = c.elapse_told-2.ensures.services; frames = c.elapse_told-2.ensures.frames; last = c.elapse_told-2.ensures.last; quiet = c.elapse_told-2.ensures.quiet })).device

pub returns-clause-services : goal.returns-clause-services
returns-clause-services g c =
    (elapsed g.F.Flash c.args.units (c.args.units - 1) (station_of c.args.device.now c.args.services.now) (station_of c.tell_beside.new.device c.tell_beside.new.services) c.elapse_told-2.new.device
    c.elapse_told-2.new.services (in_order c.elapse_told-2.new.outbox) (one_before c.args.units (some_units c.args.units c.if-units-eq0.false)) c.tell_beside.ensures.tells
    (record { device = c.elapse_told-2.ensures.device; services = c.elapse_told-2.ensures.services; frames = c.elapse_told-2.ensures.frames; last = c.elapse_told-2.ensures.last; quiet = c.elapse_told-2.ensures.quiet })).services

pub returns-clause-frames : goal.returns-clause-frames
returns-clause-frames g c =
    (elapsed g.F.Flash c.args.units (c.args.units - 1) (station_of c.args.device.now c.args.services.now) (station_of c.tell_beside.new.device c.tell_beside.new.services) c.elapse_told-2.new.device
    c.elapse_told-2.new.services (in_order c.elapse_told-2.new.outbox) (one_before c.args.units (some_units c.args.units c.if-units-eq0.false)) c.tell_beside.ensures.tells
    (record { device = c.elapse_told-2.ensures.device; services = c.elapse_told-2.ensures.services; frames = c.elapse_told-2.ensures.frames; last = c.elapse_told-2.ensures.last; quiet = c.elapse_told-2.ensures.quiet })).frames

pub returns-clause-last : goal.returns-clause-last
returns-clause-last g c =
    (elapsed g.F.Flash c.args.units (c.args.units - 1) (station_of c.args.device.now c.args.services.now) (station_of c.tell_beside.new.device c.tell_beside.new.services) c.elapse_told-2.new.device
    c.elapse_told-2.new.services (in_order c.elapse_told-2.new.outbox) (one_before c.args.units (some_units c.args.units c.if-units-eq0.false)) c.tell_beside.ensures.tells
    (record { device = c.elapse_told-2.ensures.device; services = c.elapse_told-2.ensures.services; frames = c.elapse_told-2.ensures.frames; last = c.elapse_told-2.ensures.last; quiet = c.elapse_told-2.ensures.quiet })).last
