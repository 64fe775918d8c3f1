-- Both ends stay as they are at the frames of strangers.
use Rattle.strangers_law.proofs.Controllers.{leaves_controllers}
use Rattle.strangers_law.proofs.Quiet.{answers_senders, leaves_devices}
use Rattle.strangers_law.proofs.Runs.{answers_strange, leaves_worlds, runs_go_on}
use Rattle.strangers_law.proofs.ends.strangers_leave_both_ends.Goals as goal

pub returns-clause-device : goal.returns-clause-device
returns-clause-device g c = λ old new octets sent said steps quiet. leaves_devices g.F.Flash old new octets sent said steps quiet

pub returns-clause-controller : goal.returns-clause-controller
returns-clause-controller g c = leaves_controllers

pub returns-clause-answers : goal.returns-clause-answers
returns-clause-answers g c = λ old new octets sent said steps quiet.
    answers_senders g.F.Flash c.frames_are_read.ensures.real_time c.frames_are_read.ensures.arp old new octets sent said steps quiet

pub returns-clause-others : goal.returns-clause-others
returns-clause-others g c = λ before later after octets sent said steps quiet apart.
    answers_strange g.F.Flash c.frames_are_read.ensures.real_time c.frames_are_read.ensures.arp before later after octets sent said steps quiet apart

pub returns-clause-still : goal.returns-clause-still
returns-clause-still g c = λ before after end octets strange takes. leaves_worlds g.F.Flash before after end octets strange takes

pub returns-clause-runs : goal.returns-clause-runs
returns-clause-runs g c = λ first run are. runs_go_on g.F.Flash first run are
