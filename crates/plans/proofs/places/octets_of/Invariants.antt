-- the octets of the submodules so far, and those of the rest
use Rattle.std.proofs.Common.{◌≡◌, ◌+◌, ◌*◌, ◌≤◌, drop}
use Rattle.plans.specs.Packed.{octets_of}
use Rattle.plans.proofs.places.octets_of.Given as goal

abbrev pub invariant-loop-sub : goal.invariant-loop-sub
invariant-loop-sub l = record {
  value : l.sum + octets_of l.direction l.kind (drop l.sub-index l.subs) ≡ octets_of l.direction l.kind l.subs;
  few : l.sum ≤ l.sub-index * 65536;
}
