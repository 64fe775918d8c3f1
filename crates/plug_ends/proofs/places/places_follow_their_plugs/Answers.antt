use Rattle.plug_ends.proofs.DeviceRuns.{ended_so, released_so, told_so}
use Rattle.plug_ends.proofs.places.places_follow_their_plugs.Goals as goal

pub returns-clause-told : goal.returns-clause-told
returns-clause-told c = λ heard link next it slot subslot number old here e. told_so heard link next it slot subslot old here number e

pub returns-clause-ended : goal.returns-clause-ended
returns-clause-ended c = λ heard link next it slot subslot number old here e. ended_so heard link next it slot subslot old here number e

pub returns-clause-released : goal.returns-clause-released
returns-clause-released c = λ heard link next it slot subslot old here e. released_so heard link next it slot subslot old here e
