-- Rows of outputs that were worked out by hand.
use Rattle.std.proofs.Common.{◌≡◌, ℕ, true, false, List, [], ◌∷◌, map, Option, Some, None, refl, sym, ap, ◌∙◌}
use Rattle.std.proofs.lemmas.Bool.{eqb-true}
use Rattle.relations.specs.declared.options.DeviceOptions.{DeviceOptions}
use Rattle.relations.specs.Numbers.{is_id_from, is_own_id}
use Rattle.relations.specs.Options.{default_options}
use Rattle.network_world.specs.declared.moves.Move.{Move}
use Rattle.network_world.specs.declared.moves.Move.TheVariants.{Give, OutputStatus}
use Rattle.octets_law.specs.Octets.{number, untagged}
use Rattle.startup_octets.specs.declared.outputs.Output.{Output}
use Rattle.startup_octets.specs.Outputs.{carried, value_after}

-- two submodules with outputs of two octets
abbrev two : List Output
two = record { slot = 2; subslot = 1; size = 2 } ∷ record { slot = 3; subslot = 1; size = 2 } ∷ []

-- a frame with a tag of priority 6: the first output has 5 and 6 with a good IOPS, the second one 7 and 8 with a bad one
abbrev frame : List ℕ
frame = 2 ∷ 0 ∷ 0 ∷ 0 ∷ 0 ∷ 1 ∷ 2 ∷ 0 ∷ 0 ∷ 0 ∷ 0 ∷ 2 ∷ 0x81 ∷ 0 ∷ 0xC0 ∷ 0 ∷ 0x88 ∷ 0x92 ∷ 0xC0 ∷ 0 ∷ 5 ∷ 6 ∷ 0x80 ∷ 7 ∷ 8 ∷ 0 ∷ 0x80 ∷ 0 ∷ []

id_row : number 14 2 (untagged frame) ≡ 0xC000
id_row = refl

-- a device chooses no other FrameID than 0xC000 unless its numbers go round, and then any of 0xC000 to 0xF7FF
abbrev ids : List ℕ
ids = 0x8000 ∷ 0xBFFF ∷ 0xC000 ∷ 0xC001 ∷ 0xF7FF ∷ 0xF800 ∷ []

own_row : map (is_own_id default_options) ids ≡ false ∷ false ∷ true ∷ false ∷ false ∷ false ∷ []
own_row = refl

round_row : map (is_own_id (record default_options { numbers_from = Some 5 })) ids ≡ false ∷ false ∷ true ∷ true ∷ true ∷ false ∷ []
round_row = refl

only_own : (options : DeviceOptions) (frame_id : ℕ) → options.numbers_from ≡ None → is_own_id options frame_id ≡ true → frame_id ≡ 0xC000
only_own options frame_id none own = eqb-true frame_id 0xC000 (ap (λ (from : Option ℕ). is_id_from from frame_id) (sym none) ∙ own)

carried_row : carried 16 two (untagged frame) ≡ Some (5 ∷ 6 ∷ []) ∷ Some (0 ∷ 0 ∷ []) ∷ []
carried_row = refl

-- a value, one of a wrong length, and a value of an output that is said to be bad
abbrev moves : List Move
moves =
    Give 2 1 (record { items = 5 ∷ 6 ∷ [] }) ∷ Give 2 1 (record { items = 1 ∷ 2 ∷ 3 ∷ [] }) ∷ OutputStatus 3 1 false ∷ Give 3 1 (record { items = 7 ∷ 8 ∷ [] }) ∷ []

value_row : map (value_after moves) two ≡ (5 ∷ 6 ∷ []) ∷ (0 ∷ 0 ∷ []) ∷ []
value_row = refl
