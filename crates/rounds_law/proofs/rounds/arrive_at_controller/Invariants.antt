-- The frames so far arrived.
use Rattle.std.proofs.Common.{◌≡◌, ◌++◌, take}
use Rattle.network_world.specs.Sent.{octets_of}
use Rattle.rounds_law.specs.Rounds.{hears_all}
use Rattle.rounds_law.proofs.rounds.arrive_at_controller.Given as goal

abbrev pub invariant-loop-frame : goal.invariant-loop-frame
invariant-loop-frame l =
    (l.controller ≡ (hears_all l.initial.controller (octets_of (take l.frame-index l.frames))).controller)
    × (octets_of l.sent.items ≡ octets_of l.initial.sent.items ++ (hears_all l.initial.controller (octets_of (take l.frame-index l.frames))).frames)
