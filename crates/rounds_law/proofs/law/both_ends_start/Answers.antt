-- This follows from the laws of both ends.
use Rattle.rounds_law.proofs.AskingRounds.{asking_law}
use Rattle.rounds_law.proofs.CompositionLaws.{Laws}
use Rattle.rounds_law.proofs.CompositionRounds.{addressing_law, connecting_law, looking_law}
use Rattle.rounds_law.proofs.CompositionRuns.{start_looks, within}
use Rattle.rounds_law.specs.Start.{start_up_limit}
use Rattle.rounds_law.proofs.law.both_ends_start.Goals as goal

laws_of : (g : _) (c : goal.After-controller_goes_on_in_time g) → Laws c.args.setup.now c.args.identity.now
laws_of g c = record {
  modules = c.only_pulls_and_plugs_change_modules.ensures;
  device_found = c.device_answers_the_search.ensures.found;
  device_set = c.device_answers_the_search.ensures.set;
  device_connected = c.device_takes_calls.ensures.connected;
  device_ended = c.device_takes_calls.ensures.ended;
  device_confirmed = c.device_takes_calls.ensures.confirmed;
  device_written = c.device_takes_writes.ensures.written;
  device_free = c.device_goes_on_in_time.ensures.free;
  device_unit = c.device_goes_on_in_time.ensures.unit;
  device_outputs = c.device_goes_on_in_time.ensures.outputs;
  device_later_unit = c.device_goes_on_in_time.ensures.later_unit;
  device_later_outputs = c.device_goes_on_in_time.ensures.later_outputs;
  controller_found = c.controller_finds_its_device.ensures.found;
  controller_set = c.controller_finds_its_device.ensures.set;
  controller_connected = c.controller_takes_responses.ensures.connected;
  controller_written = c.controller_takes_responses.ensures.written;
  controller_readied = c.controller_takes_responses.ensures.readied;
  controller_unit = c.controller_goes_on_in_time.ensures.unit;
  controller_unsent = c.controller_goes_on_in_time.ensures.unsent;
  controller_inputs = c.controller_goes_on_in_time.ensures.inputs;
  controller_later_unit = c.controller_goes_on_in_time.ensures.later_unit;
  controller_later_inputs = c.controller_goes_on_in_time.ensures.later_inputs;
  controller_reported = c.controller_goes_on_in_time.ensures.reported;
}

pub returns-clause-looking : goal.returns-clause-looking
returns-clause-looking g c = λ can net at. looking_law g.F.Flash c.args.setup.now c.args.identity.now (laws_of g c) can net at

pub returns-clause-addressing : goal.returns-clause-addressing
returns-clause-addressing g c = λ can net at. addressing_law g.F.Flash c.args.setup.now c.args.identity.now (laws_of g c) can net at

pub returns-clause-connecting : goal.returns-clause-connecting
returns-clause-connecting g c = λ can net at. connecting_law g.F.Flash c.args.setup.now c.args.identity.now (laws_of g c) can net at

pub returns-clause-repeated : goal.returns-clause-repeated
returns-clause-repeated g c = λ can stage net at.
    asking_law g.F.Flash c.args.setup.now c.args.identity.now (laws_of g c) (record { again = c.controller_asks_again.ensures }) can stage net at

pub returns-clause-start : goal.returns-clause-start
returns-clause-start g c = λ can first last start rounds.
    within g.F.Flash (start_up_limit c.args.setup.now.plan) first last
    (looking_law g.F.Flash c.args.setup.now c.args.identity.now (laws_of g c) can first (start_looks c.args.setup.now c.args.identity.now first start)) rounds
