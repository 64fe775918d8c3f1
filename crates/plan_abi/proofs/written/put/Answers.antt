-- Each field of the plan by itself: all of them at once are too many for one search.
use Rattle.std.proofs.Common.{rules}
use Rattle.plan_abi.proofs.written.put.Goals as goal

pub returns-clause-filled : goal.returns-clause-filled
returns-clause-filled c = record {
  whole = search rules;
  name = cc (c.put_octets.ensures.laid, c.requires.name, c.as_bytes-name.ensures.value, c.station.ensures.value);
  controller_name = cc (c.put_octets-2.ensures.laid, c.requires.controller_name, c.as_bytes-controller_name.ensures.value, c.controller.ensures.value);
  name_length = search rules;
  controller_name_length = search rules;
  station_type_length = search rules;
  octets = search rules;
  module_count = search rules;
  record_count = search rules;
  modules = search rules;
  records = search rules;
  continue_on_refused_record = search rules;
  multiple_write = search rules;
  release_on_refused_record = search rules;
  patience = search rules;
  waiting_patience = search rules;
  parameters_after_plug = search rules;
  persistent_start = search rules;
  identity = search rules;
}
