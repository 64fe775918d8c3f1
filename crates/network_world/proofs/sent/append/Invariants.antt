-- the frames so far are stored, and there is room for the others
use Rattle.std.proofs.Common.{◌≡◌, ◌+◌, ◌-◌, ◌≤◌, ◌++◌, length, take}
use Rattle.std.specs.Vec.{vec_capacity, vec_len}
use Rattle.network_world.specs.Sent.{octets_of}
use Rattle.network_world.proofs.sent.append.Given as goal

abbrev pub invariant-loop-frame : goal.invariant-loop-frame
invariant-loop-frame l =
    (octets_of l.all.items ≡ octets_of l.initial.all.items ++ octets_of (take l.frame-index l.frames))
    × (vec_len l.all + (length l.frames - l.frame-index) ≤ vec_capacity l.all)
