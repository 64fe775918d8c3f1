-- This follows from the laws of both ends.
use Rattle.rounds_law.proofs.CompositionLaws.{Laws}
use Rattle.rounds_law.proofs.CompositionRounds.{confirming_leads, ending_leads}
use Rattle.rounds_law.proofs.MiddleLaws.{WaitLaws}
use Rattle.rounds_law.proofs.MiddleRounds.{readied_leads, waiting_law, writing_law}
use Rattle.rounds_law.proofs.middle.law.both_ends_go_on.Goals as goal

laws_of : (g : _) (c : goal.After-controller_waits_for_ready g) → Laws c.args.setup.now c.args.identity.now
laws_of g c = record {
  modules = c.only_pulls_and_plugs_change_modules.ensures;
  device_found = c.device_answers_the_search.ensures.found;
  device_set = c.device_answers_the_search.ensures.set;
  device_connected = c.device_takes_calls.ensures.connected;
  device_ended = c.device_takes_calls.ensures.ended;
  device_confirmed = c.device_takes_calls.ensures.confirmed;
  device_written = c.device_takes_writes.ensures.written;
  device_free = c.device_goes_on_in_time.ensures.free;
  device_unit = c.device_goes_on_in_time.ensures.unit;
  device_outputs = c.device_goes_on_in_time.ensures.outputs;
  device_later_unit = c.device_goes_on_in_time.ensures.later_unit;
  device_later_outputs = c.device_goes_on_in_time.ensures.later_outputs;
  controller_found = c.controller_finds_its_device.ensures.found;
  controller_set = c.controller_finds_its_device.ensures.set;
  controller_connected = c.controller_takes_responses.ensures.connected;
  controller_written = c.controller_takes_responses.ensures.written;
  controller_readied = c.controller_takes_responses.ensures.readied;
  controller_unit = c.controller_goes_on_in_time.ensures.unit;
  controller_unsent = c.controller_goes_on_in_time.ensures.unsent;
  controller_inputs = c.controller_goes_on_in_time.ensures.inputs;
  controller_later_unit = c.controller_goes_on_in_time.ensures.later_unit;
  controller_later_inputs = c.controller_goes_on_in_time.ensures.later_inputs;
  controller_reported = c.controller_goes_on_in_time.ensures.reported;
}

waits_of : (g : _) (c : goal.After-controller_waits_for_ready g) → WaitLaws c.args.setup.now c.args.identity.now
waits_of g c = record {
  device_unit = c.device_waits_for_a_response.ensures.unit;
  device_outputs = c.device_waits_for_a_response.ensures.outputs;
  controller_unit = c.controller_waits_for_ready.ensures.unit;
  controller_inputs = c.controller_waits_for_ready.ensures.inputs;
  controller_readied = c.controller_waits_for_ready.ensures.readied;
  controller_quiet = c.controller_waits_for_ready.ensures.quiet;
}

pub returns-clause-writing : goal.returns-clause-writing
returns-clause-writing g c = λ can number net at.
    writing_law g.F.Flash c.args.setup.now c.args.identity.now (laws_of g c) (waits_of g c) can number net at

pub returns-clause-ending : goal.returns-clause-ending
returns-clause-ending g c = λ can net at. ending_leads g.F.Flash c.args.setup.now c.args.identity.now (laws_of g c) can net at

pub returns-clause-waiting : goal.returns-clause-waiting
returns-clause-waiting g c = λ can waited net at.
    waiting_law g.F.Flash c.args.setup.now c.args.identity.now (laws_of g c) (waits_of g c) can waited net at

pub returns-clause-readied : goal.returns-clause-readied
returns-clause-readied g c = λ can net at.
    readied_leads g.F.Flash c.args.setup.now c.args.identity.now (laws_of g c) (waits_of g c) can net at

pub returns-clause-confirming : goal.returns-clause-confirming
returns-clause-confirming g c = λ can net at. confirming_leads g.F.Flash c.args.setup.now c.args.identity.now (laws_of g c) can net at
