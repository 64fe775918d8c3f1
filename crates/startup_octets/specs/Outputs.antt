-- The outputs that a device shows, said of the frames that were sent and that came.
use Rattle.std.specs.Prelude.{◌≡◌, ◌⊎◌, ◌+◌, ◌==◌, ◌&&◌, ℕ, Bool, true, false, List, [], ◌∷◌, ◌++◌, length, map, get_or, replicate, flat_map, Option, Some, None, IfSome, option_map, unwrap_or, if◌then◌else◌}
use Rattle.std.specs.List.{AllByRecursion, fold}
use Rattle.pn_values.specs.declared.real.RealModule.{RealModule}
use Rattle.pn_values.specs.declared.real.RealSubmodule.{RealSubmodule}
use Rattle.expected_places.specs.declared.place.ExpectedPlace.{ExpectedPlace}
use Rattle.expected_places.specs.Machine.{touches}
use Rattle.expected_places.specs.Places.{place_at}
use Rattle.relations.specs.declared.options.DeviceOptions.{DeviceOptions}
use Rattle.relations.specs.Numbers.{is_own_id}
use Rattle.network_world.specs.declared.moves.Move.{Move}
use Rattle.network_world.specs.declared.moves.Move.TheVariants.{Give, OutputStatus}
use Rattle.octets_law.specs.Octets.{number, part, untagged}
use Rattle.startup_octets.specs.declared.outputs.Output.{Output}
use Rattle.startup_octets.specs.StartUp.{IsIn, Turn}
use Rattle.startup_octets.specs.Log.{Entry, moves_in}

-- The output of a submodule in a slot, with its number of octets, if it has any.
abbrev pub part_outputs : ℕ → RealSubmodule → List Output
part_outputs slot part = if part.output == 0 then [] else record { slot = slot; subslot = part.subslot; size = part.output } ∷ []

-- The outputs of the modules of a plan, in their order.
abbrev pub outputs_in : List RealModule → List Output
outputs_in modules = flat_map (λ entry. flat_map (part_outputs entry.slot) entry.submodules.items) modules

-- Zeros for an output.
abbrev pub zeros_for : Output → List ℕ
zeros_for output = replicate output.size 0

-- ---- a cyclic frame (IEC 61158-6-10, 4.7): EtherType 12, FrameID 14, data from 16 on

-- What a frame carries from a place on for outputs, one after another without gaps: the octets of each, and then its IOPS. If
-- that is not GOOD, zeros are shown.
abbrev pub carried : ℕ → List Output → List ℕ → List (Option (List ℕ))
carried place [] frame = []
carried place (output ∷ outputs) frame =
    Some (if get_or frame (place + output.size) 0 == 0x80 then part place output.size frame else zeros_for output)
    ∷ carried (place + output.size + 1) outputs frame

-- ---- what the application of the controller says

-- Whether a move names the submodule of an output.
abbrev pub is_at : Output → ℕ → ℕ → Bool
is_at output slot subslot = output.slot == slot && output.subslot == subslot

-- The value of an output after a move: the one that the move gives, if it has the right length, else the one before.
abbrev pub given_by : Output → Option (List ℕ) → Move → Option (List ℕ)
given_by output last (Give slot subslot value) = if is_at output slot subslot && output.size == length value.items then Some value.items else last
given_by output last other = last

-- Whether the application says that the output is good, after a move.
abbrev pub rated_by : Output → Bool → Move → Bool
rated_by output last (OutputStatus slot subslot is_good) = if is_at output slot subslot then is_good else last
rated_by output last other = last

-- The value of an output after moves: the one that was given last. Zeros if none was, or if the application said last that it is
-- bad.
abbrev pub value_after : List Move → Output → List ℕ
value_after moves output = if fold (rated_by output) true moves then unwrap_or (fold (given_by output) None moves) (zeros_for output) else zeros_for output

-- ---- what is pulled and plugged

-- Whether something was pulled or plugged at the place of an output that the controller has not released since, by the places that the
-- device shows.
abbrev pub touched_by : Option (List ExpectedPlace) → Output → Bool
touched_by None output = false
touched_by (Some places) output = touches (place_at output.slot output.subslot places)

-- A value, or as many zeros at a touched place.
abbrev pub zeroed : Bool → List ℕ → List ℕ
zeroed is_touched value = if is_touched then replicate (length value) 0 else value

-- The values of outputs, with zeros at touched places.
abbrev pub hidden : Option (List ExpectedPlace) → List Output → List (Option (List ℕ)) → List (Option (List ℕ))
hidden places [] values = []
hidden places (output ∷ outputs) [] = []
hidden places (output ∷ outputs) (value ∷ values) = option_map (zeroed (touched_by places output)) value ∷ hidden places outputs values

-- ---- the law

-- A cyclic frame comes to a device with these options, with a FrameID that it chooses for outputs: 0xC000, or any of 0xC000 to
-- 0xF7FF if its numbers go round. The frame carries these outputs.
pub record Brings (options : DeviceOptions) (outputs : List Output) (turn : Turn) (shown : List (Option (List ℕ))) : Type 0 where
  pub at_device : turn.at_device ≡ true
  pub ether_type : number 12 2 (untagged turn.came) ≡ 0x8892
  pub frame_id : is_own_id options (number 14 2 (untagged turn.came)) ≡ true
  pub carries : shown ≡ carried 16 outputs (untagged turn.came)

-- All outputs come from one frame. The controller sent it in one turn, and in a later one it came to the device and brought
-- them. Each is the value that was given last when the frame was sent.
pub record AreOfOneFrame (options : DeviceOptions) (outputs : List Output) (entries : List Entry) (shown : List (Option (List ℕ))) : Type 0 where
  pub before : List Entry
  pub sending : Entry
  pub between : List Entry
  pub coming : Entry
  pub behind : List Entry
  pub parts : entries ≡ before ++ sending ∷ (between ++ coming ∷ behind)
  pub at_controller : sending.turn.at_device ≡ false
  pub sent : IsIn coming.turn.came sending.turn.sent
  pub brings : Brings options outputs coming.turn shown
  pub given : shown ≡ map (λ output. Some (value_after (moves_in (before ++ sending ∷ [])) output)) outputs

-- Each output that is shown is zeros.
abbrev pub AreZeros : List (Option (List ℕ)) → Type 0
AreZeros shown = AllByRecursion (λ one. IfSome one (λ octets. octets ≡ replicate (length octets) 0)) shown

-- The outputs of an entry are zeros at touched places, and the others all come from one frame.
abbrev pub AreBrought : DeviceOptions → List Output → List Entry → Entry → Type 0
AreBrought options outputs entries entry =
    (values : List (Option (List ℕ))) × (entry.outputs ≡ hidden entry.places outputs values) × AreOfOneFrame options outputs entries values

-- After each turn the outputs that the device shows are all zeros, or all come from one frame, with zeros at touched places.
abbrev pub AreShown : DeviceOptions → List Output → List Entry → Type 0
AreShown options outputs entries =
    (front : List Entry) (entry : Entry) (behind : List Entry) → entries ≡ front ++ entry ∷ behind
    → AreZeros entry.outputs ⊎ AreBrought options outputs (front ++ entry ∷ []) entry

-- The outputs before a turn and after it are these values, with zeros at touched places. With the turn the values stay the same, or they
-- become zeros, or all become those of the frame that comes in it.
pub record IsKept (options : DeviceOptions) (outputs : List Output) (one other : Entry) : Type 0 where
  pub before : List (Option (List ℕ))
  pub after : List (Option (List ℕ))
  pub was : one.outputs ≡ hidden one.places outputs before
  pub is : other.outputs ≡ hidden other.places outputs after
  pub kept : (after ≡ before) ⊎ (AreZeros after ⊎ Brings options outputs other.turn after)

-- In each turn the outputs stay the same, or they become zeros, or all become those of the frame that comes in this turn. At touched places
-- they are zeros meanwhile.
abbrev pub AreKept : DeviceOptions → List Output → List Entry → Type 0
AreKept options outputs entries =
    (front : List Entry) (one other : Entry) (behind : List Entry) → entries ≡ front ++ one ∷ other ∷ behind → IsKept options outputs one other
