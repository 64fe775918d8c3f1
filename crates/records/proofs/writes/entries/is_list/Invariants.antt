-- the octets that are left are a list of as many entries as are left exactly if all are one
use Rattle.std.proofs.Common.{◌≡◌, ◌-◌}
use Rattle.records.specs.writes.Several.{is_list}
use Rattle.records.proofs.writes.entries.is_list.Given as goal

abbrev pub invariant-loop : goal.invariant-loop
invariant-loop l = is_list (16 - l.counter) l.rest ≡ is_list 16 l.octets
