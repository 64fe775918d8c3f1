-- The frames so far were copied.
use Rattle.std.proofs.Common.{◌≡◌, ◌++◌, take}
use Rattle.network_world.specs.Sent.{octets_of}
use Rattle.startup_octets.proofs.playing.sent_since.Given as goal

abbrev pub invariant-loop-number : goal.invariant-loop-number
invariant-loop-number g l =
    take l.number (l.world.sent) ≡ take l.count (l.world.sent) ++ octets_of l.sent.items
