use Rattle.std.proofs.Common.{◌≡◌, ◌+◌, ◌≤◌, ◌++◌, drop, length, map}
use Rattle.std.specs.List.{AllByRecursion}
use Rattle.configurator.specs.Planned.{record_at}
use Rattle.configurator.proofs.records.push_records.Given as goal

-- the records so far; each remaining one has at most 64 octets
abbrev pub invariant-loop-item : goal.invariant-loop-item
invariant-loop-item l = record {
  items : l.records.items ++ map (record_at l.slot) (drop l.item-index l.items) ≡ l.initial.records.items ++ map (record_at l.slot) l.items;
  len : length l.records.items ≡ length l.initial.records.items + l.item-index;
  short : AllByRecursion (λ item. length item.octets ≤ 64) (drop l.item-index l.items);
}
