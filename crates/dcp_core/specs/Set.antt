-- What the blocks of a Set ask for, and the response (IEC 61158-6-10, 4.3.2.5).
use Rattle.std.specs.Prelude.{◌/◌, ◌%◌, ◌==◌, ◌&&◌, ◌||◌, ℕ, Bool, nat_le, List, [], ◌∷◌, length, map, flat_map, if◌then◌else◌, take, drop, nat_eq}
use Rattle.std.specs.Cmp.Lexicographic.{pointwise}
use Rattle.std.specs.List.{zip}
use Rattle.std.specs.Int.{w16, from_be_bytes}
use Rattle.pn_values.specs.declared.command.Command.{Command}
use Rattle.pn_values.specs.declared.command.Command.TheVariants.{SetName, SetIp, ResetApplication, ResetCommunication, ResetAll}
use Rattle.pn_values.specs.declared.set_item.SetItem.{SetItem}
use Rattle.pn_values.specs.declared.set_item.SetItem.TheVariants as item
use Rattle.pn_values.specs.declared.set_item.SetItem.TheVariants.{Ask, Answer}
use Rattle.pn_values.specs.declared.set_item.BlockError.{BlockError}
use Rattle.pn_values.specs.declared.set_item.BlockError.TheVariants as error
use Rattle.pn_values.specs.IpSuite.{Suite, is_suite}
use Rattle.station_names.specs.Valid.{is_station_name}
use Rattle.dcp_core.specs.declared.kind.Kind.{Kind}
use Rattle.dcp_core.specs.declared.kind.Kind.TheVariants.{IpSuite, NameOfStation, Signal, FactoryReset, ResetToFactory}
use Rattle.dcp_core.specs.Request.{Asked}
use Rattle.dcp_core.specs.Bytes.{response_bytes, answer_bytes}
use Rattle.dcp_core.specs.Kinds.{blame}

-- BlockQualifier: bit 0 says permanent, and the bits above it are the mode of a reset
abbrev pub qualifier_of : List ℕ → ℕ
qualifier_of contents = from_be_bytes w16 (take 2 contents)

-- whether a value must be kept over a power failure: bit 0 of the BlockQualifier
abbrev pub is_permanent : List ℕ → Bool
is_permanent contents = qualifier_of contents % 2 == 1

-- the value after the qualifier
abbrev pub value_in : List ℕ → List ℕ
value_in contents = drop 2 contents

-- address, mask and gateway, one after the other
abbrev pub suite_in : List ℕ → Suite
suite_in value = record { address = take 4 value; mask = take 4 (drop 4 value); gateway = take 4 (drop 8 value) }

-- the command, refused while an application relation exists: this is so for name and address
abbrev pub handled : Bool → Command → SetItem
handled in_operation command = if in_operation then Answer error.InOperation else Ask command

-- NameOfStation: a qualifier, and then a name or nothing
abbrev pub name_item : Bool → List ℕ → SetItem
name_item in_operation contents =
    if nat_le 2 (length contents) && ((length contents == 2) || is_station_name (value_in contents))
    then handled in_operation (SetName (is_permanent contents) (value_in contents))
    else Answer error.Value

-- the IP suite: a qualifier and twelve bytes
abbrev pub suite_item : Bool → List ℕ → SetItem
suite_item in_operation contents =
    if (length contents == 14) && is_suite (suite_in (value_in contents))
    then handled in_operation (SetIp (is_permanent contents) (suite_in (value_in contents)))
    else Answer error.Value

-- whether a Signal block asks to flash once, which is the only valid request
abbrev pub is_flash : List ℕ → Bool
is_flash contents = pointwise nat_eq (value_in contents) (1 ∷ 0 ∷ [])

-- Signal
abbrev pub signal_item : List ℕ → SetItem
signal_item contents = if is_flash contents then item.Signal else Answer error.Value

-- FactoryReset: only a qualifier
abbrev pub factory_item : List ℕ → SetItem
factory_item contents = if length contents == 2 then Ask ResetAll else Answer error.Value

-- ResetToFactory: only a qualifier, in which mode 1 resets the texts and mode 2 name and address
abbrev pub reset_item : List ℕ → SetItem
reset_item contents =
    if length contents == 2 then reset_by (qualifier_of contents / 2) else Answer error.Value
  where
    reset_by : ℕ → SetItem
    reset_by mode = if mode == 1 then Ask ResetApplication else (if mode == 2 then Ask ResetCommunication else Answer error.Suboption)

-- What a block of a Set asks for, or its error. The first fault is given: option, suboption, value, and then whether
-- the device operates.
abbrev pub item_of : Bool → Kind → List ℕ → SetItem
item_of in_operation NameOfStation contents = name_item in_operation contents
item_of in_operation IpSuite contents = suite_item in_operation contents
item_of in_operation Signal contents = signal_item contents
item_of in_operation FactoryReset contents = factory_item contents
item_of in_operation ResetToFactory contents = reset_item contents
item_of in_operation kind contents = Answer (blame kind)

-- one item for each block of a Set, in order
unfoldable pub plan_of : Bool → Asked → List SetItem
plan_of in_operation request = map (λ block. item_of in_operation block.kind block.contents) request.blocks

-- the response to a Set, given the outcome of each block: what follows the FrameID
unfoldable pub set_bytes : Asked → List BlockError → List ℕ
set_bytes request answers =
    answer_bytes 4 request.xid (flat_map (λ pair. response_bytes pair.0.kind pair.1) (zip request.blocks answers))
