-- The options of a device.
use Rattle.std.specs.Prelude.{false, None}
use Rattle.relations.specs.declared.options.DeviceOptions.{DeviceOptions}

-- The default: any interval is accepted, inputs begin good, the device is ready as soon as its parameters have ended, any station
-- may hold a relation, each record is kept, the numbers of a relation are always the first ones, each answer is stored, and what is
-- asked of the application is asked until it is answered.
abbrev pub default_options : DeviceOptions
default_options = record {
  smallest_interval = 1;
  inputs_begin_bad = false;
  ready_by_application = false;
  only_own_controller = false;
  records_passed_on = false;
  numbers_from = None;
  reads_not_kept = false;
  asks_own_first = false;
}
