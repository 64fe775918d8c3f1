-- Faults and their places.
use Rattle.std.specs.Prelude.{List, [], ◌∷◌, take, Result, Ok, Err}
use Rattle.catalogue.specs.declared.keys.key.Key.{Key}
use Rattle.catalogue.specs.declared.keys.fault.CatalogueFault.{CatalogueFault}
use Rattle.catalogue.specs.declared.keys.fault.PlacedFault.{PlacedFault}
use Rattle.catalogue.specs.declared.keys.fault.Step.{Step}
use Rattle.catalogue.specs.declared.keys.fault.Step.TheVariants.{At}

-- a fault of the value itself: its place has no steps
abbrev pub here : CatalogueFault → PlacedFault
here fault = record { fault = fault; place = record { items = [] } }

-- a fault of the value at a key
abbrev pub at_key : Key → CatalogueFault → PlacedFault
at_key key fault = record { fault = fault; place = record { items = At key ∷ [] } }

-- the same fault with one more step before its place: the eight outermost steps are kept, and no key is further in
abbrev pub further : Step → PlacedFault → PlacedFault
further step found = record { fault = found.fault; place = record { items = step ∷ take 7 found.place.items } }

-- what is read from the value itself
abbrev pub bare : {A : Type 0} → Result A CatalogueFault → Result A PlacedFault
bare (Ok value) = Ok value
bare (Err fault) = Err (here fault)

-- what is read from the value at a key
abbrev pub placed : {A : Type 0} → Key → Result A CatalogueFault → Result A PlacedFault
placed key (Ok value) = Ok value
placed key (Err fault) = Err (at_key key fault)

-- what is read after a step: a fault gets that step before its place
abbrev pub behind : {A : Type 0} → Step → Result A PlacedFault → Result A PlacedFault
behind step (Ok value) = Ok value
behind step (Err found) = Err (further step found)
