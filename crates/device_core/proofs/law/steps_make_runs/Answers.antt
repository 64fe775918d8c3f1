use Rattle.std.proofs.Common.{sym, subst}
use Rattle.device_core.specs.State.{Live}
use Rattle.device_core.specs.Steps.{IsBehindCalls}
use Rattle.device_core.proofs.Called.{run_called}
use Rattle.device_core.proofs.Faults.{event_more, no_event}
use Rattle.device_core.proofs.Runs.{no_run, run_finely, run_more, run_quietly, run_takes_room}
use Rattle.device_core.proofs.law.steps_make_runs.Goals as goal

pub returns-clause-begins : goal.returns-clause-begins
returns-clause-begins g c = λ device taken holds. (no_run g.F.Flash device taken holds, no_event device taken)

pub returns-clause-goes_on : goal.returns-clause-goes_on
returns-clause-goes_on g c = λ old between new events event before taken now run on. run_more g.F.Flash old between new events event before taken now run on

pub returns-clause-all_go_on : goal.returns-clause-all_go_on
returns-clause-all_go_on g c = λ old between new events event before taken now same so_far on there.
    event_more g.F.Flash old between new events event before taken now same so_far on there

pub returns-clause-exact : goal.returns-clause-exact
returns-clause-exact g c = λ old new events before now run same below. run_quietly g.F.Flash old new events before now run same below

pub returns-clause-fine : goal.returns-clause-fine
returns-clause-fine g c = λ old new events before now run fine. run_finely g.F.Flash old new events before now run fine

pub returns-clause-calls : goal.returns-clause-calls
returns-clause-calls g c = λ old new events before now run.
    subst (λ (live : Live). IsBehindCalls old.live.rest.calls live.rest.calls) (sym run.live) (run_called run.outcomes old.station old.live events)

pub returns-clause-room : goal.returns-clause-room
returns-clause-room g c = λ old new events before now run fine. run_takes_room g.F.Flash old new events before now run fine
