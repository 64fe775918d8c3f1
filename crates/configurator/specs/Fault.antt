-- The faults of a text that gives no plan.
use Rattle.std.specs.Prelude.{ℕ}
use Rattle.catalogue.specs.declared.keys.fault.CatalogueFault.{CatalogueFault}
use Rattle.catalogue.specs.declared.keys.fault.CatalogueFault.TheVariants as reading
use Rattle.plans.specs.declared.plan.TooLong.{TooLong}
use Rattle.plans.specs.declared.plan.TooLong.TheVariants as long
use Rattle.configurator.specs.declared.fault.PlanFault.{PlanFault}
use Rattle.configurator.specs.declared.fault.PlanFault.TheVariants.{Json, MissingKey, WrongKind, Number, NotAllowedInSlot, TooManySlots, FrameTooLong, ConnectTooLong, Name, Address, OutOfMemory}

-- their numbers
abbrev pub number_of : PlanFault → ℕ
number_of Json = 1
number_of MissingKey = 2
number_of WrongKind = 3
number_of Number = 4
number_of NotAllowedInSlot = 5
number_of TooManySlots = 6
number_of FrameTooLong = 7
number_of ConnectTooLong = 8
number_of Name = 9
number_of Address = 10
number_of OutOfMemory = 11

-- a fault that is found while the text is read
abbrev pub of_catalogue : CatalogueFault → PlanFault
of_catalogue reading.Json = Json
of_catalogue reading.MissingKey = MissingKey
of_catalogue reading.WrongKind = WrongKind
of_catalogue reading.Number = Number
of_catalogue reading.OutOfMemory = OutOfMemory

-- a frame or the Connect that is too long
abbrev pub of_length : TooLong → PlanFault
of_length long.Frame = FrameTooLong
of_length long.Connect = ConnectTooLong
