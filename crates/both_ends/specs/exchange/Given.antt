-- The values that the application of a controller set, in the worlds of a plan.
use Rattle.std.specs.Prelude.{◌≡◌, ◌==◌, ◌&&◌, ◌-◌, ◌+◌, ◌++◌, ℕ, List, [], ◌∷◌, length, map, replicate, slice_get, Bool, true, false, Option, Some, None, option_map, if◌then◌else◌}
use Rattle.pn_values.specs.declared.identity.Identity.{Identity}
use Rattle.connect_blocks.specs.declared.iocr.IocrType.TheVariants.{Output}
use Rattle.cyclic_data.specs.declared.place.Place.{Place}
use Rattle.cyclic_data.specs.declared.place.PlaceKind.{PlaceKind}
use Rattle.cyclic_data.specs.declared.place.PlaceKind.TheVariants.{Data, Iocs}
use Rattle.cyclic_data.specs.Image.{Cell, Shown as Image, good, place_at}
use Rattle.both_ends.specs.startup.request.Request.{iocr_for}
use Rattle.expected_places.specs.Machine.{is_touched_at}
use Rattle.relations.specs.Exchanged.{output_in, shown_as}
use Rattle.relations.specs.RelationState.{RelationState}
use Rattle.controller_messages.specs.declared.setup.Setup.{Setup}
use Rattle.network_world.specs.declared.moves.End.TheVariants.{Device, Controller}
use Rattle.network_world.specs.declared.moves.Move.{Move}
use Rattle.network_world.specs.declared.moves.Move.TheVariants as move
use Rattle.network_world.specs.World.{end_at, last_world, World}
use Rattle.both_ends.specs.startup.Played.{moves_of}
use Rattle.both_ends.specs.exchange.Shown.{outputs_of, taken_in, zeros_for}

-- the places of the outputs of a plan
abbrev pub places_for : Setup → List Place
places_for setup = (iocr_for setup.plan Output).layout.places

-- the value that a move sets for the output at a place, if it has the right length, else the one that was set last
abbrev pub given_by : Place → Move → Option (List ℕ) → Option (List ℕ)
given_by place (move.Give slot subslot value) last =
    if ((place.slot == slot) && (place.subslot == subslot)) && (place.size == length value.items + 1) then Some value.items else last
given_by place one last = last

-- whether the application says that the output at a place is good, after a move
abbrev pub rated_by : Place → Move → Bool → Bool
rated_by place (move.OutputStatus slot subslot is_good) last = if (place.slot == slot) && (place.subslot == subslot) then is_good else last
rated_by place one last = last

-- the value that was set last by these moves, if any
abbrev pub last_given : Place → Option (List ℕ) → List Move → Option (List ℕ)
last_given place last [] = last
last_given place last (one ∷ moves) = last_given place (given_by place one last) moves

-- what the application said last with these moves; an output is good as long as it says nothing
abbrev pub last_rated : Place → Bool → List Move → Bool
last_rated place last [] = last
last_rated place last (one ∷ moves) = last_rated place (rated_by place one last) moves

-- zeros, as many octets as the data at a place has
abbrev pub zeros_at : Place → List ℕ
zeros_at place = replicate (place.size - 1) 0

-- the value that was set, or zeros if none was
abbrev pub value_or_zeros : Place → Option (List ℕ) → List ℕ
value_or_zeros place (Some value) = value
value_or_zeros place None = zeros_at place

-- the value with good IOPS: none is good if the application says that the output is bad
abbrev pub if_good : Bool → Option (List ℕ) → Option (List ℕ)
if_good true value = value
if_good false value = None

-- an output: the value that was set, with good IOPS unless the application says that it is bad; before that, zeros
abbrev pub output_at : Place → Option (List ℕ) → Bool → Cell
output_at place (Some value) is_good = record { place = place; value = value; status = if is_good then good else 0 }
output_at place None is_good = record { place = place; value = zeros_at place; status = 0 }

-- the cell of a place: an output, or the IOCS for data that the controller consumes, which is good
abbrev pub cell_of_kind : PlaceKind → Place → Option (List ℕ) → Bool → Cell
cell_of_kind Data place given is_good = output_at place given is_good
cell_of_kind Iocs place given is_good = record { place = place; value = zeros_at place; status = good }

-- the outputs of a plan, each as it was set last by these moves
abbrev pub image_given : Setup → List Move → Image
image_given setup moves = record {
  data_length = (zeros_for setup).data_length;
  cells = map (λ place. cell_of_kind place.kind place (last_given place None moves) (last_rated place true moves)) (places_for setup);
}

-- zeros, as many octets as the output of a submodule has, if the plan has a place for it
abbrev pub zero_for : Setup → ℕ → ℕ → Option (List ℕ)
zero_for setup slot subslot = option_map zeros_at (place_at Data slot subslot (places_for setup))

-- the value that was set last by these moves for the output of a submodule, or zeros if none was or if the application says
-- that the output is bad, if the plan has a place for it
abbrev pub given_for : Setup → List Move → ℕ → ℕ → Option (List ℕ)
given_for setup moves slot subslot =
    option_map (λ place. value_or_zeros place (if_good (last_rated place true moves) (last_given place None moves))) (place_at Data slot subslot (places_for setup))

-- All outputs of this relation that a device shows come from one frame, or are zeros of a touched place. The controller sent the
-- frame with one of its moves. It brings for each submodule the value set last at that point, or zeros if none was set or if the
-- application said last that the output is bad. It was delivered to the device by a later move.
pub record AreOfOneFrame {F : Type 0} (setup : Setup) (identity : Identity) (first : World F) (run : List (Move × World F)) (link : RelationState) : Type 0 where
  pub before : List (Move × World F)
  pub one : Move × World F
  pub later : List (Move × World F)
  pub all : run ≡ before ++ one ∷ later
  pub by_controller : end_at one.0 ≡ Controller
  -- the frame is one of those sent by that move
  pub frame : List ℕ
  pub frames : List (List ℕ)
  pub behind : one.1.sent ≡ (last_world first before).sent ++ frames
  pub number : ℕ
  pub sent : slice_get frames number ≡ Some frame
  -- the frame was delivered to the device later
  pub between : List (Move × World F)
  pub came : ℕ
  pub next : World F
  pub others : List (Move × World F)
  pub since : later ≡ between ++ (move.Deliver Device came, next) ∷ others
  pub there : slice_get (last_world one.1 between).sent came ≡ Some frame
  -- the frame brings these outputs to a device with the options of this one, and they are what is shown
  pub brings : (outputs_of first.device.station.options setup identity).brought_by frame ≡ Some ((outputs_of first.device.station.options setup identity).octets_of (image_given setup (moves_of (before ++ one ∷ []))))
  pub taken : taken_in link ≡ image_given setup (moves_of (before ++ one ∷ []))
  pub shown : (slot subslot : ℕ) → output_in slot subslot (Some link)
      ≡ option_map (shown_as (is_touched_at slot subslot link.plugs)) (given_for setup (moves_of (before ++ one ∷ [])) slot subslot)
