-- The inputs that the application of a device gives, and what its controller shows of them.
use Rattle.std.specs.Prelude.{◌≡◌, ◌==◌, ◌&&◌, ◌+◌, ◌++◌, ℕ, List, [], ◌∷◌, length, map, slice_get, nat_lt, Option, Some, None, is_none, option_map, unwrap_or, if◌then◌else◌}
use Rattle.pn_values.specs.declared.identity.Identity.{Identity}
use Rattle.pn_values.specs.declared.real.RealModule.{RealModule}
use Rattle.connect_blocks.specs.declared.iocr.IocrType.TheVariants.{Input}
use Rattle.module_diff.specs.declared.changes.Affected.{Affected}
use Rattle.module_diff.specs.declared.changes.RealChange.{RealChange}
use Rattle.module_diff.specs.Changes.{affected_by, covers, plugged_with, pulled, slot_pulled}
use Rattle.expected_places.specs.Machine.{PlugState, closed, differs_at, is_touched_at}
use Rattle.cyclic_data.specs.declared.place.Place.{Place}
use Rattle.cyclic_data.specs.declared.place.PlaceKind.{PlaceKind}
use Rattle.cyclic_data.specs.declared.place.PlaceKind.TheVariants.{Data, Iocs}
use Rattle.cyclic_data.specs.Image.{Cell, Shown as Image, good, octets_of, place_at}
use Rattle.cyclic_data.specs.declared.exchange.exchange.ProviderStatus.{ProviderStatus}
use Rattle.cyclic_data.specs.exchange.Process.{value_at}
use Rattle.relations.specs.declared.exchange.marks.Mark.{Mark}
use Rattle.relations.specs.declared.exchange.statuses.InputStatus.{InputStatus}
use Rattle.relations.specs.exchange.Marks.{iops_by}
use Rattle.relations.specs.exchange.Modules.{is_shut}
use Rattle.relations.specs.exchange.Statuses.{is_bad, remaining_statuses, statuses_at}
use Rattle.relations.specs.Plugging.{is_crowded}
use Rattle.relations.specs.RelationState.{RelationState}
use Rattle.device_core.specs.Modules.{outside, plug_of, pull_of, slot_pull_of}
use Rattle.device_core.specs.State.{Rest, Station}
use Rattle.controller_messages.specs.declared.setup.Setup.{Setup}
use Rattle.controller_core.specs.stored.State.{Live}
use Rattle.controller_core.specs.Machine.{provider_of}
use Rattle.network_world.specs.declared.moves.End.TheVariants.{Device, Controller}
use Rattle.device_frames.specs.declared.local.Local.TheVariants as local
use Rattle.device_frames.specs.Heard.{Heard, Applied, Elsewhere}
use Rattle.network_world.specs.declared.moves.Move.{Move}
use Rattle.network_world.specs.declared.moves.Move.TheVariants as move
use Rattle.network_world.specs.World.{end_at, last_world, World}
use Rattle.both_ends.specs.startup.request.Request.{iocr_for}
use Rattle.both_ends.specs.exchange.Given.{value_or_zeros, zeros_at}
use Rattle.inputs_law.specs.Shown.{brought_by, zeros_for}

-- the places of the inputs of a plan
abbrev pub places_for : Setup → List Place
places_for setup = (iocr_for setup.plan Input).layout.places

-- ---- what is pulled and plugged

-- What a change affects, if the device carries it out: these modules are plugged afterwards, and its alarm can wait.
abbrev pub carried_out : Rest → RealChange → Option (List RealModule) → Option Affected
carried_out rest made None = None
carried_out rest made (Some real) = if is_crowded (affected_by made) rest.link then None else Some (affected_by made)

-- What an event pulls or plugs, if the device carries it out.
abbrev pub renewed_in : Rest → Heard → Option Affected
renewed_in rest (Applied (local.Pull slot subslot)) =
    let real = rest.real.modules.items in carried_out rest (pull_of real slot subslot) (outside slot (pulled slot subslot real))
renewed_in rest (Applied (local.PullModule slot)) =
    let real = rest.real.modules.items in carried_out rest (slot_pull_of real slot) (outside slot (slot_pulled slot real))
renewed_in rest (Applied (local.Plug slot ident part)) = carried_out rest (plug_of slot ident part) (plugged_with slot ident part rest.real.modules.items)
renewed_in rest heard = None

-- What a move says to the device, if the application makes it.
abbrev pub heard_with : Move → Heard
heard_with (move.Application local) = Applied local
heard_with other = Elsewhere

-- The input at a place after something was pulled or plugged: none is given where that was.
abbrev pub left_input : Option Affected → Place → Option (List ℕ) → Option (List ℕ)
left_input None place value = value
left_input (Some affected) place value = if covers affected place.slot place.subslot then None else value

-- The statuses after that: what was pulled takes its status with it.
abbrev pub left_statuses : Option Affected → List InputStatus → List InputStatus
left_statuses None statuses = statuses
left_statuses (Some affected) statuses = remaining_statuses affected statuses

-- ---- what the application gives

-- the value that a move gives for the input at a place, if it has the right length, else the one that was given last
abbrev pub input_by : Place → Move → Option (List ℕ) → Option (List ℕ)
input_by place (move.Application (local.Input slot subslot value)) last =
    if ((place.slot == slot) && (place.subslot == subslot)) && (place.size == length value.items + 1) then Some value.items else last
input_by place one last = last

-- a value that is given belongs to the relation of the device; without a relation no value counts as given
abbrev pub in_relation : Option RelationState → Option (List ℕ) → Option (List ℕ)
in_relation None value = None
in_relation (Some link) value = value

-- the value that was given last over a run from a world on, in the relation that the device has then, and since something was pulled
-- or plugged there
abbrev pub last_input : {F : Type 0} → Place → World F → Option (List ℕ) → List (Move × World F) → Option (List ℕ)
last_input place before last [] = last
last_input place before last (one ∷ run) =
    last_input place one.1
    (in_relation one.1.device.live.rest.link (left_input (renewed_in before.device.live.rest (heard_with one.0)) place (input_by place one.0 last))) run

-- the statuses of inputs after a move: one that is said of a submodule that is plugged
abbrev pub said_by : List RealModule → Move → List InputStatus → List InputStatus
said_by real (move.Application (local.Status slot subslot is_good)) statuses =
    unwrap_or (statuses_at real (record { slot = slot; subslot = subslot; is_good = is_good }) statuses) statuses
said_by real one statuses = statuses

-- the statuses after a run from a world on
abbrev pub last_said : {F : Type 0} → World F → List InputStatus → List (Move × World F) → List InputStatus
last_said before statuses [] = statuses
last_said before statuses (one ∷ run) =
    let rest = before.device.live.rest in
    last_said one.1 (left_statuses (renewed_in rest (heard_with one.0)) (said_by rest.real.modules.items one.0 statuses)) run

-- ---- what is sent of it

-- the places of the relation that a device has, if it has one
abbrev pub plugs_of : Option RelationState → PlugState
plugs_of None = closed
plugs_of (Some link) = link.plugs

-- Why the IOPS of an input is bad: at its place something else is plugged than is expected, or something was pulled or plugged that the
-- controller has not released since; no value was given, if the options of the device say that inputs are bad until then; or the
-- application said so last.
abbrev pub mark_for : Station → PlugState → List InputStatus → Place → Option (List ℕ) → Mark
mark_for station plugs statuses place given = record {
  place = place;
  differs = differs_at place.slot place.subslot plugs;
  is_touched = is_touched_at place.slot place.subslot plugs;
  is_awaited = is_none given && (station.options.inputs_begin_bad && nat_lt 1 place.size);
  is_bad = is_bad place.slot place.subslot statuses;
}

-- the cell of a place: the value that was given, or zeros, and its IOPS; or the IOCS for data that the device consumes, which is
-- bad if the place differs or is touched
abbrev pub cell_for : PlaceKind → Station → PlugState → List InputStatus → Place → Option (List ℕ) → Cell
cell_for Data station plugs statuses place given =
    record { place = place; value = value_or_zeros place given; status = iops_by (mark_for station plugs statuses place given) }
cell_for Iocs station plugs statuses place given =
    record { place = place; value = zeros_at place; status = if is_shut plugs place.slot place.subslot then 0 else good }

module _ {F : Type 0} where
  -- the statuses of the device after a run
  abbrev pub statuses_after : World F → List (Move × World F) → List InputStatus
  statuses_after first run = last_said first first.device.live.rest.statuses run

  -- the places of its relation then
  abbrev pub plugs_after : World F → List (Move × World F) → PlugState
  plugs_after first run = plugs_of (last_world first run).device.live.rest.link

  -- the inputs of a plan, each as it was given last in this run
  abbrev pub image_given : Setup → World F → List (Move × World F) → Image
  image_given setup first run = record {
    data_length = (zeros_for setup).data_length;
    cells = map (λ place. cell_for place.kind first.device.station (plugs_after first run) (statuses_after first run) place (last_input place first None run)) (places_for setup);
  }

  -- the IOPS of an input; and that of a submodule, if the plan has a place for it
  abbrev pub iops_at : Setup → World F → List (Move × World F) → Place → ℕ
  iops_at setup first run place =
      iops_by (mark_for first.device.station (plugs_after first run) (statuses_after first run) place (last_input place first None run))

  -- The IOPS that the device sends for the input of a submodule after these moves, if the plan has one.
  abbrev pub iops_for : Setup → World F → List (Move × World F) → ℕ → ℕ → Option ℕ
  iops_for setup first run slot subslot = option_map (iops_at setup first run) (place_at Data slot subslot (places_for setup))

  -- its value: the one that was given last, or zeros if none was; zeros if its IOPS is bad
  abbrev pub value_given : Setup → World F → List (Move × World F) → Place → List ℕ
  value_given setup first run place = if iops_at setup first run place == good then value_or_zeros place (last_input place first None run) else zeros_at place

  -- The value that the application of the device gave last in this relation for the input of a submodule, since something was pulled or
  -- plugged there, if the plan has one.
  abbrev pub given_for : Setup → World F → List (Move × World F) → ℕ → ℕ → Option (List ℕ)
  given_for setup first run slot subslot = option_map (value_given setup first run) (place_at Data slot subslot (places_for setup))

-- zeros, as many octets as the input of a submodule has, if the plan has a place for it
abbrev pub zero_for : Setup → ℕ → ℕ → Option (List ℕ)
zero_for setup slot subslot = option_map zeros_at (place_at Data slot subslot (places_for setup))

-- the IOPS of an input that a controller reports
abbrev pub iops_in : ProviderStatus → ℕ
iops_in provider = provider.iops

-- All inputs that a controller shows come from one frame. The device sent it with one of its moves. It brings for each
-- submodule the value that was given last at that point, and the IOPS that follows from what the application gave and said. It
-- was delivered to the controller by a later move.
pub record AreOfOneFrame {F : Type 0} (setup : Setup) (identity : Identity) (first : World F) (run : List (Move × World F)) (live : Live) : Type 0 where
  pub before : List (Move × World F)
  pub one : Move × World F
  pub later : List (Move × World F)
  pub all : run ≡ before ++ one ∷ later
  pub by_device : end_at one.0 ≡ Device
  -- the frame is one of those sent by that move
  pub frame : List ℕ
  pub frames : List (List ℕ)
  pub behind : one.1.sent ≡ (last_world first before).sent ++ frames
  pub number : ℕ
  pub sent : slice_get frames number ≡ Some frame
  -- the frame was delivered to the controller later
  pub between : List (Move × World F)
  pub came : ℕ
  pub next : World F
  pub others : List (Move × World F)
  pub since : later ≡ between ++ (move.Deliver Controller came, next) ∷ others
  pub there : slice_get (last_world one.1 between).sent came ≡ Some frame
  -- the frame brings these inputs, and they are what is shown, with their IOPS
  pub brings : brought_by setup identity frame ≡ Some (octets_of (image_given setup first (before ++ one ∷ [])))
  pub taken : live.cyclic.taken ≡ image_given setup first (before ++ one ∷ [])
  pub shown : (slot subslot : ℕ) → value_at live.cyclic slot subslot ≡ given_for setup first (before ++ one ∷ []) slot subslot
  pub iops : (slot subslot : ℕ) → option_map iops_in (provider_of live slot subslot) ≡ iops_for setup first (before ++ one ∷ []) slot subslot
