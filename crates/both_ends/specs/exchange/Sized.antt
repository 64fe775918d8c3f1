-- The premises about the modules in a device, whose numbers have their sizes, and about the FrameID that it chooses for
-- outputs.
use Rattle.std.specs.Prelude.{◌≡◌, ◌<◌, true, false, ℕ, List, Some}
use Rattle.std.specs.List.{AllByRecursion}
use Rattle.pn_values.specs.declared.real.RealModule.{RealModule}
use Rattle.pn_values.specs.declared.real.RealSubmodule.{RealSubmodule}
use Rattle.frame_codec.specs.FrameId.{is_alarm}
use Rattle.connects.specs.answers.Connect.{Chosen, chosen_of, found_in, is_whole, nothing}
use Rattle.end_laws.specs.sending.Sized.{Found}

-- ---- what is plugged

-- the subslot of a submodule has 16 bits, and its ident number has 32
abbrev pub IsSizedPart : RealSubmodule → Type 0
IsSizedPart part = (part.subslot < 65536) × (part.ident < 4294967296)

-- the slot of a module has 16 bits, and its ident number has 32, and its submodules have their sizes
abbrev pub IsSizedModule : RealModule → Type 0
IsSizedModule entry = (entry.slot < 65536) × (entry.ident < 4294967296) × AllByRecursion IsSizedPart entry.submodules.items

-- each module has its sizes
abbrev pub AreSizedModules : List RealModule → Type 0
AreSizedModules modules = AllByRecursion IsSizedModule modules

-- A submodule is in another subslot than 0.
abbrev pub IsPastZero : RealSubmodule → Type 0
IsPastZero part = 0 < part.subslot

-- All submodules of a module are.
abbrev pub HasNoneAtZero : RealModule → Type 0
HasNoneAtZero entry = AllByRecursion IsPastZero entry.submodules.items

-- Nothing is plugged in a subslot 0: with this SubslotNumber an alarm reports the pull of a whole module.
abbrev pub NoneIsAtZero : List RealModule → Type 0
NoneIsAtZero modules = AllByRecursion HasNoneAtZero modules

-- ---- the response of a device

-- If the blocks of a response have everything that a relation needs and no module differs, the FrameID that the device
-- chose for outputs has two octets and is not one of alarms, and its alarm endpoint has two octets.
abbrev pub IsChosenWell : List ℕ → Type 0
IsChosenWell blocks = (found : Found) → found_in 400 blocks nothing ≡ Some found → is_whole found ≡ true → found.differs ≡ false
    → (chosen : Chosen) → chosen_of found ≡ Some chosen → (chosen.frame_id < 65536) × (chosen.reference < 65536) × (is_alarm chosen.frame_id ≡ false)
