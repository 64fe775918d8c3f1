-- The places so far, and those of the remaining objects, for which there is room.
use Rattle.std.proofs.Common.{◌≡◌, ◌+◌, ◌++◌, length, drop, map}
use Rattle.std.specs.List.{AllByRecursion}
use Rattle.cyclic_data.specs.Places.{place_of}
use Rattle.cyclic_data.specs.Layout.{IsInside, IsOutside, AnyByRecursion}
use Rattle.cyclic_data.proofs.judge.Judge.place_all.Given as goal

abbrev pub invariant-loop-index : goal.invariant-loop-index
invariant-loop-index l = record {
  items : l.places.items ++ map (place_of l.self.direction l.self.expected.now l.kind) (drop l.index l.objects)
      ≡ l.initial.places.items ++ map (place_of l.self.direction l.self.expected.now l.kind) l.objects;
  room : length l.places.items ≡ length l.initial.places.items + l.index;
  inside : AllByRecursion (IsInside l.self.data_length) (map (place_of l.self.direction l.self.expected.now l.kind) (drop l.index l.objects))
      → AllByRecursion (IsInside l.self.data_length) (map (place_of l.self.direction l.self.expected.now l.kind) l.objects);
  outside : AnyByRecursion (IsOutside l.self.data_length) (map (place_of l.self.direction l.self.expected.now l.kind) (drop l.index l.objects))
      → AnyByRecursion (IsOutside l.self.data_length) (map (place_of l.self.direction l.self.expected.now l.kind) l.objects);
}
