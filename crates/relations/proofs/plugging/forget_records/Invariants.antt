-- The places whose records are left to be forgotten.
use Rattle.std.proofs.Common.{◌≡◌, drop}
use Rattle.relations.specs.Plugging.{kept_records}
use Rattle.relations.proofs.plugging.forget_records.Given as goal

abbrev pub invariant-loop-place : goal.invariant-loop-place
invariant-loop-place l = kept_records l.affected (drop l.place-index l.places) l.taken ≡ kept_records l.affected l.places l.initial.taken
