-- The memory that a list of places borrows.
use Rattle.std.specs.Prelude.{◌≤◌, List, length}
use Rattle.connect_blocks.specs.declared.io_object.IoObject.{IoObject}
use Rattle.connect_blocks.specs.declared.io_objects.Place.{Place}
use Rattle.connect_blocks.specs.declared.io_objects.Place.TheVariants.{Octets, Listed}
use Rattle.connect_blocks.specs.Objects.{objects_in, AreObjects}

-- The list of places that is borrowed.
abbrev pub objects_at : Place → List IoObject
objects_at (Octets octets count) = objects_in count octets.now
objects_at (Listed list) = list.now

-- The borrowed octets begin with the list.
abbrev pub IsRead : Place → Type 0
IsRead (Octets octets count) = AreObjects count octets.now
IsRead (Listed list) = Unit {0}

-- The borrowed octets begin with the list, and it has at most 256 places.
pub record IsPlace (place : Place) : Type 0 where
  pub read : IsRead place
  pub few : length (objects_at place) ≤ 256
