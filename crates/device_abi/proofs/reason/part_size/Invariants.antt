-- The submodules so far are in other subslots.
use Rattle.std.proofs.Common.{◌≡◌, ◌==◌, drop}
use Rattle.std.specs.Prelude.{option_map}
use Rattle.std.specs.List.{find}
use Rattle.device_abi.proofs.reason.part_size.Given as goal

abbrev pub invariant-loop-part : goal.invariant-loop-part
invariant-loop-part l = option_map (λ part. part.input) (find (λ part. part.subslot == l.subslot) (drop l.part-index l.entry.submodules.items))
    ≡ option_map (λ part. part.input) (find (λ part. part.subslot == l.subslot) l.entry.submodules.items)
