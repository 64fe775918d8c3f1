use Rattle.both_ends.proofs.StartupAsked.{none_named}
use Rattle.both_ends.proofs.startup.meeting.nothing_is_named.Goals as goal

pub returns : goal.returns
returns c = none_named
