-- What the cyclic frames of a controller carry: the outputs of its plan, each with its IOPS, then an IOCS for each submodule that sends.
use Rattle.std.specs.Prelude.{◌≡◌, ◌+◌, ◌%◌, ◌==◌, ◌&&◌, ◌||◌, ℕ, zero, suc, Bool, true, not, List, [], ◌∷◌, ◌++◌, filter, flat_map, fold, length, max, replicate, Option, Some, None, is_some, unwrap_or, if◌then◌else◌}
use Rattle.std.specs.List.{AllByRecursion}
use Rattle.pn_values.specs.declared.real.RealModule.{RealModule}
use Rattle.pn_values.specs.declared.real.RealSubmodule.{RealSubmodule}
use Rattle.controller_core.specs.declared.stored.event.Event.{Event}
use Rattle.controller_core.specs.declared.stored.event.Event.TheVariants.{Give, Status, Tick}
use Rattle.field_words.specs.Cyclic.{counter_in, data_in}
use Rattle.field_words.specs.Octets.{octet_at, part_at}
use Rattle.exchange_law.specs.Told.{Told}
use Rattle.exchange_law.specs.Interval.{cyclic_in}

-- ---- the submodules of a plan

-- The output of a submodule, without its IOPS.
pub record Output : Type 0 where
  pub slot : ℕ
  pub subslot : ℕ
  pub size : ℕ

-- The output of a submodule in a slot, if it has any.
abbrev pub part_outputs : ℕ → RealSubmodule → List Output
part_outputs slot part = if part.output == 0 then [] else record { slot = slot; subslot = part.subslot; size = part.output } ∷ []

-- The outputs of the modules of a plan, in the order of slots and subslots.
abbrev pub outputs_in : List RealModule → List Output
outputs_in modules = flat_map (λ entry. flat_map (part_outputs entry.slot) entry.submodules.items) modules

-- Whether a submodule sends data, which has an IOCS: it has an input, or no data at all.
abbrev pub is_sender : RealSubmodule → Bool
is_sender part = not (part.input == 0) || (part.output == 0)

-- The submodules that send.
abbrev pub senders_in : List RealModule → List RealSubmodule
senders_in modules = flat_map (λ entry. filter is_sender entry.submodules.items) modules

-- The octets that outputs take, with their IOPS.
abbrev pub room_of : List Output → ℕ
room_of [] = 0
room_of (output ∷ outputs) = output.size + 1 + room_of outputs

-- The octets of data of each frame: at least 40 (IEC 61158-6-10, 4.7.1).
abbrev pub size_of : List RealModule → ℕ
size_of modules = max 40 (room_of (outputs_in modules) + length (senders_in modules))

-- ---- what the application said

-- The value of an output after one more event: the one that is given, if it has its length, else the one before.
abbrev pub given_with : Output → Option (List ℕ) → Event → Option (List ℕ)
given_with output last (Give slot subslot value) =
    if ((output.slot == slot) && (output.subslot == subslot)) && (output.size == length value.items) then Some value.items else last
given_with output last event = last

-- Whether the application says that the output is good, after one more event.
abbrev pub said_with : Output → Bool → Event → Bool
said_with output last (Status slot subslot is_good) = if (output.slot == slot) && (output.subslot == subslot) then is_good else last
said_with output last event = last

-- The value that was given last, if one was.
abbrev pub given_in : List Told → Output → Option (List ℕ)
given_in told output = fold (λ last one. given_with output last one.event) None told

-- Whether the application says that the output is good; it is as long as nothing is said.
abbrev pub said_in : List Told → Output → Bool
said_in told output = fold (λ last one. said_with output last one.event) true told

-- How many units passed.
abbrev pub tick_with : ℕ → Event → ℕ
tick_with units Tick = units + 1
tick_with units event = units

-- The units since the controller was started.
abbrev pub units_in : List Told → ℕ
units_in told = fold (λ units one. tick_with units one.event) 0 told

-- ---- a frame

-- Data has an output at a place: the value that was given last, or zeros; then its IOPS, which is GOOD (0x80) if a value was given and the
-- application does not say that it is bad.
pub record HasOutput (told : List Told) (place : ℕ) (output : Output) (octets : List ℕ) : Type 0 where
  pub value : part_at place output.size octets ≡ unwrap_or (given_in told output) (replicate output.size 0)
  pub iops : octet_at (place + output.size) octets ≡ (if is_some (given_in told output) && said_in told output then 0x80 else 0)

-- Data has these outputs from a place on, one after another.
abbrev pub HasOutputs : List Told → ℕ → List Output → List ℕ → Type 0
HasOutputs told place [] octets = Unit {0}
HasOutputs told place (output ∷ outputs) octets = HasOutput told place output octets × HasOutputs told (place + output.size + 1) outputs octets

-- This many octets from a place on are GOOD.
abbrev pub AreGood : ℕ → ℕ → List ℕ → Type 0
AreGood place zero octets = Unit {0}
AreGood place (suc count) octets = (octet_at place octets ≡ 0x80) × AreGood (place + 1) count octets

-- A frame of the outputs of these modules, after these entries: its CycleCounter counts the units since the start, modulo 65,536; its data has
-- each output, and then the IOCS of each submodule that sends.
pub record CarriesOutputs (modules : List RealModule) (told : List Told) (frame : List ℕ) : Type 0 where
  pub counter : counter_in (size_of modules) frame ≡ units_in told % 65536
  pub outputs : HasOutputs told 0 (outputs_in modules) (data_in (size_of modules) frame)
  pub senders : AreGood (room_of (outputs_in modules)) (length (senders_in modules)) (data_in (size_of modules) frame)

-- Each frame of cyclic data that is sent with an entry is one.
abbrev pub CarriesWhatIsGiven : List RealModule → List Told → Told → Type 0
CarriesWhatIsGiven modules before one = AllByRecursion (CarriesOutputs modules (before ++ one ∷ [])) (cyclic_in one.sent)
