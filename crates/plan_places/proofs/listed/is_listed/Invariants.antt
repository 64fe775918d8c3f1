-- The blocks so far do not list the submodule.
use Rattle.std.proofs.Common.{◌≡◌, ◌-◌}
use Rattle.plan_places.specs.Listed.{is_listed_in}
use Rattle.plan_places.proofs.listed.is_listed.Given as goal

abbrev pub invariant-loop-index : goal.invariant-loop-index
invariant-loop-index l = is_listed_in (l.most - l._index) l.rest l.slot l.subslot ≡ is_listed_in l.most l.bytes l.slot l.subslot
