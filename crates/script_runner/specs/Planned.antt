-- The plan of a catalogue as text, and what its writer gets.
use Rattle.std.specs.Prelude.{◌≡◌, ◌⊎◌, ℕ, List, [], ◌++◌, codes, decimal, flat_map, Option, Result, Ok, Err}
use Rattle.std.specs.Io.KnownBytes.{Appends, Keeps}
use Rattle.connect_blocks.specs.declared.iocr.IocrType.TheVariants.{Input, Output}
use Rattle.cyclic_data.specs.declared.place.PlaceKind.{PlaceKind}
use Rattle.cyclic_data.specs.declared.place.PlaceKind.TheVariants.{Data, Iocs}
use Rattle.cyclic_data.specs.declared.place.Place.{Place}
use Rattle.cyclic_data.specs.Layout.{Table}
use Rattle.plans.specs.declared.parts.Parts.{Parts}
use Rattle.plans.specs.Packed.{layout_in}
use Rattle.plans.specs.Parts.{data_of}
use Rattle.configurator.specs.declared.fault.PlanFault.{PlanFault}
use Rattle.configurator.specs.Planned.{IsPlanOf, IsRefused}
use Rattle.script_runner.specs.declared.fault.RunFault.{RunFault}
use Rattle.script_runner.specs.declared.fault.RunFault.TheVariants.{Read, Write, Line, OutOfMemory, Config, EndlessInput}
use Rattle.script_runner.specs.Fault.{fault_of}
use Rattle.script_runner.specs.Output.{AppendsLess}
use Rattle.script_lines.specs.Text.{printed}

-- ---- the lines

-- The word for data or a consumer status.
abbrev pub kind_word : PlaceKind → List ℕ
kind_word Data = codes "data "
kind_word Iocs = codes "iocs "

-- The number of octets of data with its IOPS; omitted for an IOCS, which is always one octet.
abbrev pub size_shown : PlaceKind → ℕ → List ℕ
size_shown Data size = codes " " ++ decimal size
size_shown Iocs size = []

-- A place: its kind, its slot and subslot, and its first octet.
unfoldable pub place_line : Place → List ℕ
place_line place =
    printed (kind_word place.kind ++ decimal place.slot ++ codes " " ++ decimal place.subslot ++ codes " " ++ decimal place.offset ++ size_shown place.kind place.size)

-- A layout: its DataLength and its places.
abbrev pub layout_lines : List ℕ → Table → List ℕ
layout_lines label layout = printed (label ++ decimal layout.data_length) ++ flat_map place_line layout.places

-- The layouts of a plan: of the frames from the device, and of the frames from the controller.
abbrev pub plan_lines : Parts → List ℕ
plan_lines parts =
    layout_lines (codes "input ") (layout_in Input (data_of parts.real.modules.items))
    ++ layout_lines (codes "output ") (layout_in Output (data_of parts.real.modules.items))

-- ---- the outcome for a catalogue

-- A text is a catalogue that has a plan, and these are the lines of the plan.
pub record HasText (input text : List ℕ) : Type 0 where
  pub parts : Parts
  pub plan : IsPlanOf input parts
  pub lines : text ≡ plan_lines parts

-- A text has no plan for this fault, or memory was refused.
abbrev pub HasNoText : List ℕ → RunFault → Type 0
HasNoText input fault = (fault ≡ OutOfMemory) ⊎ ((plan : PlanFault) × IsRefused input plan × (fault ≡ fault_of plan))

-- What is written for a catalogue: the lines of its plan, less than these if a write failed, and nothing if memory was
-- refused or there is no plan.
abbrev pub IsPlanned : Option (List ℕ) → Option (List ℕ) → List ℕ → Result (Unit {0}) RunFault → Type 0
IsPlanned old new input (Ok done) = (text : List ℕ) × HasText input text × Appends old new text
IsPlanned old new input (Err Write) = (text : List ℕ) × HasText input text × AppendsLess old new text
IsPlanned old new input (Err (Config n)) = HasNoText input (Config n) × Keeps old new
IsPlanned old new input (Err OutOfMemory) = Keeps old new
IsPlanned old new input (Err Read) = Keeps old new
IsPlanned old new input (Err EndlessInput) = Keeps old new
IsPlanned old new input (Err (Line n)) = ⊥
