-- This follows from the laws of both ends.
use Rattle.rounds_law.proofs.CauseRounds.{EndLaws, fails_law, modules_law, other_law, unstored_law}
use Rattle.rounds_law.proofs.causes.law.starts_end_with_their_cause.Goals as goal
use Rattle.rounds_law.proofs.causes.law.starts_end_with_their_cause.Goals.{After-controller_ends_with_its_cause}

laws_of : (g : _) (c : After-controller_ends_with_its_cause g) → EndLaws c.args.setup.now c.args.identity.now
laws_of g c = record {
  device_found = c.device_answers_the_search.ensures.found;
  other = c.controller_ends_with_its_cause.ensures.other;
  device_free = c.device_goes_on_in_time.ensures.free;
  device_unstored = c.device_cannot_store.ensures;
  controller_found = c.controller_finds_its_device.ensures.found;
  controller_unit = c.controller_goes_on_in_time.ensures.unit;
  controller_unsent = c.controller_goes_on_in_time.ensures.unsent;
  unstored = c.controller_ends_with_its_cause.ensures.unstored;
  device_differing = c.device_reports_its_modules.ensures;
  differing = c.controller_ends_with_its_cause.ensures.differing;
  unit = c.controller_ends_with_its_cause.ensures.unit;
}

pub returns-clause-other : goal.returns-clause-other
returns-clause-other g c = λ other net at. other_law g.F.Flash c.args.setup.now c.args.identity.now (laws_of g c) other net at

pub returns-clause-unstored : goal.returns-clause-unstored
returns-clause-unstored g c = λ patient net at cannot. unstored_law g.F.Flash c.args.setup.now c.args.identity.now (laws_of g c) patient net at cannot

pub returns-clause-fails : goal.returns-clause-fails
returns-clause-fails g c = λ patient net next last at round fails.
    fails_law g.F.Flash c.args.setup.now c.args.identity.now (laws_of g c) patient net next last at round fails

pub returns-clause-modules : goal.returns-clause-modules
returns-clause-modules g c = λ meets some net at. modules_law g.F.Flash c.args.setup.now c.args.identity.now (laws_of g c) meets some net at
