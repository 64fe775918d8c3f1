-- The frames so far are appended.
use Rattle.std.proofs.Common.{◌≡◌, ◌++◌, take}
use Rattle.network_world.specs.Sent.{octets_of}
use Rattle.rounds_law.proofs.rounds.append.Given as goal

abbrev pub invariant-loop-frame : goal.invariant-loop-frame
invariant-loop-frame l = octets_of l.all.items ≡ octets_of l.initial.all.items ++ octets_of (take l.frame-index l.frames)
