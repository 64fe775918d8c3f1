-- Messages that can be sent.
use Rattle.std.proofs.Common.{◌≡◌, List, [], ◌∷◌, ◌++◌}
use Rattle.pn_values.specs.declared.identity.Identity.{Identity}
use Rattle.device_frames.specs.Sendable.{AreSendable}
use Rattle.device_frames.specs.Sent.{Sent}

-- If nothing is sent, all of it can be.
pub none_sendable : (identity : Identity) (sent : List Sent) → sent ≡ [] → AreSendable identity sent
none_sendable identity [] none = tt
none_sendable identity (message ∷ messages) none = cc

-- Some messages, and others after them.
pub all_sendable : (identity : Identity) (front back : List Sent) → AreSendable identity front → AreSendable identity back → AreSendable identity (front ++ back)
all_sendable identity [] back first last = last
all_sendable identity (message ∷ front) back first last = (first.0, all_sendable identity front back first.1 last)
