-- The records so far are of other submodules.
use Rattle.std.proofs.Common.{◌≡◌, drop}
use Rattle.plan_places.specs.Records.{first_record}
use Rattle.plan_places.proofs.plan_records.record_from.Given as goal

abbrev pub invariant-loop-number : goal.invariant-loop-number
invariant-loop-number l =
    first_record l.slot l.subslot l.number (drop l.number l.records) ≡ first_record l.slot l.subslot l.from (drop l.from l.records)
