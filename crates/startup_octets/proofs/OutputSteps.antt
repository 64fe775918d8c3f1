-- How the outputs that a device shows change in a turn.
use Rattle.std.proofs.Common.{◌≡◌, ◌⊎◌, inl, inr, ◌++◌, ℕ, Bool, true, false, cond, nat_eq, List, [], ◌∷◌, map, Option, Some, None, option_map, length, replicate, refl, sym, ap, subst, ◌∙◌}
use Rattle.std.specs.Prelude.{IfSome, slice_get, unwrap_or}
use Rattle.std.specs.List.{AllByRecursion}
use Rattle.std.specs.Cmp.Lexicographic.{pointwise}
use Rattle.wire.specs.Codec.{IsSound, IsSoundWhole}
use Rattle.flash_model.specs.declared.flash.Flash.{Ghosts as Flash}
use Rattle.pn_values.specs.declared.identity.Identity.{Identity}
use Rattle.pn_values.specs.declared.real.Real.{Real}
use Rattle.frame_codec.specs.Frame.{ethernet, layers}
use Rattle.frame_codec.specs.Sendable.{IsMac}
use Rattle.cyclic_data.specs.declared.place.Place.{Place}
use Rattle.cyclic_data.specs.declared.place.PlaceKind.TheVariants.{Data}
use Rattle.cyclic_data.specs.Layout.{is_of}
use Rattle.cyclic_data.specs.Image.{Cell, Shown as Image, cell_at, cell_of, output_of as output_of_cell, place_at, with_frame, zero_cell}
use Rattle.expected_places.specs.declared.place.ExpectedPlace.{ExpectedPlace}
use Rattle.relations.specs.Outputs.{module_at, output_of}
use Rattle.relations.specs.RelationState.{RelationState}
use Rattle.controller_messages.specs.declared.setup.Setup.{Setup}
use Rattle.network_world.specs.declared.moves.End.TheVariants.{Device, Controller}
use Rattle.network_world.specs.declared.moves.Move.{Move}
use Rattle.network_world.specs.declared.moves.Move.TheVariants as move
use Rattle.network_world.specs.World.{AreMade, World}
use Rattle.end_laws.specs.both.Outputs.{BringsTo, GivesAtController, IsShownRun, Outputs, Shown, Shows, ShowsAtDevice, ShowsBehind}
use Rattle.both_ends.specs.startup.Played.{AreMeant, Begins}
use Rattle.both_ends.specs.startup.View.{move_of}
use Rattle.both_ends.specs.exchange.Given.{places_for, zeros_at}
use Rattle.both_ends.specs.exchange.Shown.{image_in, outputs_of, shown_of, shown_run, zeros_for}
use Rattle.both_ends.proofs.ExchangeKeys.{StandingSo}
use Rattle.both_ends.proofs.ExchangeOutputsMoves.{ArePlaced}
use Rattle.both_ends.proofs.ExchangeOutputsTurns.{KindsSo}
use Rattle.both_ends.proofs.ExchangeOutputsValues.{zeros_are_shown}
use Rattle.both_ends.proofs.ExchangeOutputsWorlds.{NumbersSo, TurnsSo, shown_runs}
use Rattle.startup_octets.specs.declared.outputs.Output.{Output}
use Rattle.startup_octets.specs.Log.{Entry}
use Rattle.startup_octets.specs.Outputs.{AreKept, AreZeros, Brings, IsKept, hidden, outputs_in}
use Rattle.startup_octets.specs.OutputWorlds.{outputs_shown, places_shown, shown_at}
use Rattle.startup_octets.specs.Played.{turn_by}
use Rattle.startup_octets.specs.Run.{entries_of, entry_by, opening_entry}
use Rattle.startup_octets.specs.StartUp.{Turn}
use Rattle.relations.specs.declared.options.DeviceOptions.{DeviceOptions}
use Rattle.startup_octets.proofs.OutputFrames.{carrier}
use Rattle.startup_octets.proofs.OutputPlaces.{all_mapped, all_so, outputs_are}
use Rattle.startup_octets.proofs.OutputRuns.{all_zeros, brought_at, brought_in, plugged_zeros, related_zeros, same_head, same_tail, setup_kept, shown_hidden}
use Rattle.startup_octets.proofs.OutputValues.{IsTaken, IsThere, are_there, carried_if, places, subs}

-- ---- what is shown of a relation

-- The cells of a frame, found by their submodules.
frame_cell : (octets : List ℕ) (slot subslot : ℕ) (all : List Place)
    → cell_at Data slot subslot (map (λ (cell : Cell). cell_of octets cell.place) (map zero_cell all)) ≡ option_map (cell_of octets) (place_at Data slot subslot all)
frame_cell octets slot subslot [] = refl
frame_cell octets slot subslot (place ∷ all) = by_test (is_of Data slot subslot place) (frame_cell octets slot subslot all)
  where
    by_test : (b : Bool)
        → cell_at Data slot subslot (map (λ (cell : Cell). cell_of octets cell.place) (map zero_cell all)) ≡ option_map (cell_of octets) (place_at Data slot subslot all)
        → cond b (Some (cell_of octets place)) (cell_at Data slot subslot (map (λ (cell : Cell). cell_of octets cell.place) (map zero_cell all)))
        ≡ option_map (cell_of octets) (cond b (Some place) (place_at Data slot subslot all))
    by_test true rest = refl
    by_test false rest = rest

module _ (options : DeviceOptions) (setup : Setup) (identity : Identity) (there : ArePlaced setup) where
  abbrev planned : List Output
  planned = outputs_in setup.plan.real.modules.items

  -- what is shown of an image
  abbrev value_in : Image → ℕ → ℕ → Option (List ℕ)
  value_in image slot subslot = option_map output_of_cell (cell_at Data slot subslot image.cells)

  abbrev shown_in : Real → (ℕ → ℕ → Option (List ℕ)) → List (Option (List ℕ))
  shown_in real found = map (λ (output : Output). output_of real output.slot output.subslot (found output.slot output.subslot)) planned

  -- what a device shows with this relation
  abbrev list_for : Real → Option RelationState → List (Option (List ℕ))
  list_for real link = shown_in real (λ slot subslot. brought_in slot subslot link)

  zero_image : (real : Real) (image : Image) → image ≡ zeros_for setup → AreZeros (shown_in real (value_in image))
  zero_image real image is =
      subst (λ (i : Image). AreZeros (shown_in real (value_in i))) (sym is)
      (all_zeros (λ (output : Output). output_of real output.slot output.subslot (value_in (zeros_for setup) output.slot output.subslot)) planned
      (λ output. subst (λ (v : Option (List ℕ)). IfSome (output_of real output.slot output.subslot v) (λ octets. octets ≡ replicate (length octets) 0)) (sym (zeros_are_shown output.slot output.subslot (places_for setup)))
      (related_zeros real output.slot output.subslot (place_at Data output.slot output.subslot (places_for setup)))))

  no_relation : (real : Real) → AreZeros (list_for real None)
  no_relation real = all_zeros (λ (output : Output). output_of real output.slot output.subslot None) planned (λ output. plugged_zeros output.subslot (module_at output.slot real.modules.items))

  zeros_if : (real : Real) (link : Option RelationState) → image_in setup link ≡ zeros_for setup → AreZeros (list_for real link)
  zeros_if real None is = no_relation real
  zeros_if real (Some link) is = zero_image real (image_in setup (Some link)) is

  -- ---- each output has a place

  -- there is something for an output in an image
  abbrev pub HasValue : Image → ℕ → ℕ → Type 0
  HasValue image slot subslot = (value : List ℕ) × (value_in image slot subslot ≡ Some value)

  abbrev pub AreIn : Image → Type 0
  AreIn image = AllByRecursion (λ (output : Output). HasValue image output.slot output.subslot) planned

  in_places : (image : Image) → AllByRecursion (λ (place : Place). HasValue image place.slot place.subslot) (places setup there) → AreIn image
  in_places image all =
      subst (λ (outputs : List Output). AllByRecursion (λ (output : Output). HasValue image output.slot output.subslot) outputs)
      (sym (outputs_are setup.plan.real.modules.items)) (all_mapped (HasValue image) 0 (subs setup there) all)

  pub zeros_in : AreIn (zeros_for setup)
  zeros_in =
      in_places (zeros_for setup) (all_so (IsThere setup there) (λ (place : Place). HasValue (zeros_for setup) place.slot place.subslot)
      (λ place here. (
        zeros_at place,
        zeros_are_shown place.slot place.subslot (places_for setup) ∙ ap (λ (p : Option Place). option_map zeros_at p) here,
      ))
      (places setup there) (are_there setup there))

  frame_in : (octets : List ℕ) → AreIn (with_frame octets (zeros_for setup))
  frame_in octets =
      in_places (with_frame octets (zeros_for setup))
      (all_so (IsThere setup there) (λ (place : Place). HasValue (with_frame octets (zeros_for setup)) place.slot place.subslot)
      (λ place here. (
        output_of_cell (cell_of octets place),
        ap (λ (c : Option Cell). option_map output_of_cell c)
            (frame_cell octets place.slot place.subslot (places_for setup) ∙ ap (λ (p : Option Place). option_map (cell_of octets) p) here),
      ))
      (places setup there) (are_there setup there))

  -- then what is plugged does not count
  real_free : (one other : Real) (found : ℕ → ℕ → Option (List ℕ)) (outputs : List Output)
      → AllByRecursion (λ (output : Output). (value : List ℕ) × (found output.slot output.subslot ≡ Some value)) outputs
      → map (λ (output : Output). output_of one output.slot output.subslot (found output.slot output.subslot)) outputs
      ≡ map (λ (output : Output). output_of other output.slot output.subslot (found output.slot output.subslot)) outputs
  real_free one other found [] all = refl
  real_free one other found (output ∷ outputs) all =
      ap (λ (v : Option (List ℕ)). v ∷ map (λ (o : Output). output_of one o.slot o.subslot (found o.slot o.subslot)) outputs)
      (ap (λ (v : Option (List ℕ)). output_of one output.slot output.subslot v) all.0.1
      ∙ sym (ap (λ (v : Option (List ℕ)). output_of other output.slot output.subslot v) all.0.1))
      ∙ ap (λ (l : List (Option (List ℕ))). output_of other output.slot output.subslot (found output.slot output.subslot) ∷ l)
      (real_free one other found outputs all.1)

  -- the same image
  same_if : (was real : Real) (before after : Option RelationState) → AreIn (image_in setup before) → image_in setup after ≡ image_in setup before
      → (list_for real after ≡ list_for was before) ⊎ AreZeros (list_for real after)
  same_if was real before None are is = inr (no_relation real)
  same_if was real None (Some after) are is = inr (zeros_if real (Some after) is)
  same_if was real (Some before) (Some after) are is =
      inl (ap (λ (i : Image). shown_in real (value_in i)) is ∙ real_free real was (value_in (image_in setup (Some before))) planned are)

  -- the image of a frame
  brought_if : (real : Real) (link : Option RelationState) (turn : Turn) (octets : List ℕ) → turn.at_device ≡ true → (outputs_of options setup identity).brought_by turn.came ≡ Some octets
      → image_in setup link ≡ with_frame octets (zeros_for setup) → AreZeros (list_for real link) ⊎ Brings options planned turn (list_for real link)
  brought_if real None turn octets at brings is = inl (no_relation real)
  brought_if real (Some link) turn octets at brings is =
      let carries = carrier options setup identity octets turn.came brings in
      let found = λ (slot subslot : ℕ). brought_in slot subslot (Some link) in
      inr (record {
        at_device = at;
        ether_type = carries.ether_type;
        frame_id = carries.frame_id;
        carries = carried_if setup there options turn.came octets carries real found
            (all_so (IsThere setup there) (IsTaken setup there octets found)
            (λ place here. ap (λ (i : Image). value_in i place.slot place.subslot) is
            ∙ ap (λ (c : Option Cell). option_map output_of_cell c) (frame_cell octets place.slot place.subslot (places_for setup) ∙ ap (λ (p : Option Place). option_map (cell_of octets) p) here))
            (places setup there) (are_there setup there));
      })

  -- ---- a turn

  abbrev pub IsKeptBy : Turn → List (Option (List ℕ)) → List (Option (List ℕ)) → Type 0
  IsKeptBy turn before after = (after ≡ before) ⊎ (AreZeros after ⊎ Brings options planned turn after)

  kept : (turn : Turn) (before after : List (Option (List ℕ))) → (after ≡ before) ⊎ AreZeros after → IsKeptBy turn before after
  kept turn before after (inl same) = inl same
  kept turn before after (inr zeros) = inr (inl zeros)

  abbrev Point : Type 0
  Point = Shown Image Image

  abbrev rules : Outputs Image Image
  rules = outputs_of options setup identity

  module _ (plugged real : Real) (old new : Option RelationState) (before after : Point) (was : before.outputs ≡ image_in setup old)
      (is : after.outputs ≡ image_in setup new) (turn : Turn) (are : AreIn (image_in setup old)) where
    abbrev Goal : Type 0
    Goal = IsKeptBy turn (list_for plugged old) (list_for real new) × AreIn (image_in setup new)

    by_outputs : after.outputs ≡ before.outputs → Goal
    by_outputs same =
        let image : image_in setup new ≡ image_in setup old = sym is ∙ same ∙ was in
        (kept turn (list_for plugged old) (list_for real new) (same_if plugged real old new are image), subst AreIn (sym image) are)

    by_shows : (brought : Option (List ℕ)) → ((octets : List ℕ) → brought ≡ Some octets → (turn.at_device ≡ true) × (rules.brought_by turn.came ≡ Some octets))
        → Shows rules brought before after → Goal
    by_shows brought so (inl same) = by_outputs same.1
    by_shows brought so (inr (inl none)) = (inr (inl (zeros_if real new (sym is ∙ none.1))), subst AreIn (sym (sym is ∙ none.1)) zeros_in)
    by_shows brought so (inr (inr accepts)) =
        let came = so accepts.octets accepts.brings in (
          inr (brought_if real new turn accepts.octets came.0 came.1 (sym is ∙ accepts.shown)),
          subst AreIn (sym (sym is ∙ accepts.shown)) (frame_in accepts.octets),
        )

    none_brought : (octets : List ℕ) → ◌≡◌ {A = Option (List ℕ)} None (Some octets) → (turn.at_device ≡ true) × (rules.brought_by turn.came ≡ Some octets)
    none_brought octets e = absurd cc

    at_device : (after ≡ before) ⊎ ShowsAtDevice rules None before after → Goal
    at_device (inl same) = by_outputs (ap (λ (p : Point). p.outputs) same)
    at_device (inr steps) = by_shows None none_brought steps.shows

    at_controller : (after ≡ before) ⊎ GivesAtController rules before after → Goal
    at_controller (inl same) = by_outputs (ap (λ (p : Point). p.outputs) same)
    at_controller (inr steps) = by_outputs steps.outputs

    to_device : (number : ℕ) → turn.at_device ≡ true → turn.came ≡ unwrap_or (slice_get before.sent number) [] → (after ≡ before) ⊎ BringsTo rules number before after → Goal
    to_device number at came (inl same) = by_outputs (ap (λ (p : Point). p.outputs) same)
    to_device number at came (inr brings) =
        by_shows (rules.brought_by brings.frame)
        (λ octets e. (at, ap (λ (f : List ℕ). rules.brought_by f) (came ∙ ap (λ (f : Option (List ℕ)). unwrap_or f []) brings.there) ∙ e)) brings.steps.shows

  module _ {F : Type 0} (before after : World F) (one_setup : before.controller.setup ≡ setup) (other_setup : after.controller.setup ≡ setup)
      (are : AreIn (image_in setup before.device.live.rest.link)) where
    abbrev old : Option RelationState
    old = before.device.live.rest.link

    abbrev new : Option RelationState
    new = after.device.live.rest.link

    abbrev plugged : Real
    plugged = before.device.live.rest.real

    abbrev real : Real
    real = after.device.live.rest.real

    abbrev came_turn : Move → Turn
    came_turn one = turn_by before.sent one after.sent

    was : (shown_of before).outputs ≡ image_in setup old
    was = ap (λ (s : Setup). image_in s old) one_setup

    is : (shown_of after).outputs ≡ image_in setup new
    is = ap (λ (s : Setup). image_in s new) other_setup

    abbrev Steps : Move → Type 0
    Steps one = ShowsBehind rules (shown_of before) (move_of one) (shown_of after)

    abbrev IsDone : Move → Type 0
    IsDone one = IsKeptBy (came_turn one) (list_for plugged old) (list_for real new) × AreIn (image_in setup new)

    by_move : (one : Move) → Steps one → IsDone one
    by_move (move.Deliver Device number) steps = to_device plugged real old new (shown_of before) (shown_of after) was is (came_turn (move.Deliver Device number)) are number refl refl steps
    by_move (move.Deliver Controller number) steps = at_controller plugged real old new (shown_of before) (shown_of after) was is (came_turn (move.Deliver Controller number)) are steps
    by_move (move.Tick Device) steps = at_device plugged real old new (shown_of before) (shown_of after) was is (came_turn (move.Tick Device)) are steps
    by_move (move.Tick Controller) steps = at_controller plugged real old new (shown_of before) (shown_of after) was is (came_turn (move.Tick Controller)) are steps
    by_move (move.Application local) steps = at_device plugged real old new (shown_of before) (shown_of after) was is (came_turn (move.Application local)) are steps
    by_move (move.Neighbour neighbour) steps = at_device plugged real old new (shown_of before) (shown_of after) was is (came_turn (move.Neighbour neighbour)) are steps
    by_move (move.Give slot subslot value) steps = at_controller plugged real old new (shown_of before) (shown_of after) was is (came_turn (move.Give slot subslot value)) are steps
    by_move (move.OutputStatus slot subslot is_good) steps =
        at_controller plugged real old new (shown_of before) (shown_of after) was is (came_turn (move.OutputStatus slot subslot is_good)) are steps
    by_move (move.Read slot subslot index) steps = at_controller plugged real old new (shown_of before) (shown_of after) was is (came_turn (move.Read slot subslot index)) are steps
    by_move (move.Write slot subslot index octets) steps =
        at_controller plugged real old new (shown_of before) (shown_of after) was is (came_turn (move.Write slot subslot index octets)) are steps
    by_move move.Stop steps = at_controller plugged real old new (shown_of before) (shown_of after) was is (came_turn move.Stop) are steps

    pub turn_kept : (one : Move) → Steps one
        → IsKeptBy (came_turn one) (map (brought_at before.device) planned) (map (brought_at after.device) planned) × AreIn (image_in setup new)
    turn_kept one steps = by_move one steps

  -- ---- runs

  module _ {F : Type 0} {S : ℕ} (as_flash : Flash F S) where
    -- an entry shows the outputs and the places of this world
    record IsOfWorld (entry : Entry) (world : World F) : Type 0 where
      outputs : entry.outputs ≡ outputs_shown world
      places : entry.places ≡ places_shown world

    is_hidden : (entry : Entry) (world : World F) → IsOfWorld entry world → world.controller.setup ≡ setup
        → entry.outputs ≡ hidden entry.places planned (map (brought_at world.device) planned)
    is_hidden entry world of at =
        of.outputs
        ∙ (ap (λ (s : Setup). map (shown_at world.device) (outputs_in s.plan.real.modules.items)) at
        ∙ (shown_hidden world.device planned
        ∙ ap (λ (p : Option (List ExpectedPlace)). hidden p planned (map (brought_at world.device) planned)) (sym of.places)))

    chain : (entry : Entry) (before : World F) (run : List (Move × World F)) → IsOfWorld entry before → before.controller.setup ≡ setup
        → AreIn (image_in setup before.device.live.rest.link) → AreMade as_flash before run → IsShownRun rules (shown_of before) (shown_run run)
        → (front : List Entry) (one other : Entry) (behind : List Entry) → entry ∷ entries_of before run ≡ front ++ one ∷ other ∷ behind
        → IsKept options planned one other
    chain entry before [] was at are made shown [] one other behind e = absurd cc
    chain entry before [] was at are made shown (x ∷ []) one other behind e = absurd cc
    chain entry before [] was at are made shown (x ∷ y ∷ front) one other behind e = absurd cc
    chain entry before (step ∷ run) was at are made shown [] one other behind e =
        let next = entry_by before step.0 step.1 in
        let first : entry ≡ one = same_head entry one (next ∷ entries_of step.1 run) (other ∷ behind) e in
        let second : next ≡ other = same_head next other (entries_of step.1 run) behind (same_tail entry one (next ∷ entries_of step.1 run) (other ∷ behind) e) in
        let at_next : step.1.controller.setup ≡ setup = setup_kept as_flash before step.1 step.0 made.0 ∙ at in
        subst (λ (x : Entry). IsKept options planned one x) second (subst (λ (x : Entry). IsKept options planned x next) first (record {
          before = map (brought_at before.device) planned;
          after = map (brought_at step.1.device) planned;
          was = is_hidden entry before was at;
          is = is_hidden next step.1 (record { outputs = refl; places = refl }) at_next;
          kept = (turn_kept before step.1 at at_next are step.0 shown.0).0;
        }))
    chain entry before (step ∷ run) was at are made shown (x ∷ front) one other behind e =
        let next = entry_by before step.0 step.1 in
        let at_next : step.1.controller.setup ≡ setup = setup_kept as_flash before step.1 step.0 made.0 ∙ at in
        chain next step.1 run (record { outputs = refl; places = refl }) at_next (turn_kept before step.1 at at_next are step.0 shown.0).1 made.1 shown.1
        front one other behind (same_tail entry x (next ∷ entries_of step.1 run) (front ++ one ∷ other ∷ behind) e)

pub all_kept : (setup : Setup) (identity : Identity) (there : ArePlaced setup) (turns : TurnsSo) (numbers : NumbersSo) (standing : StandingSo) (kinds : KindsSo) (sound : IsSound ethernet) (whole : IsSoundWhole layers)
    (apart : pointwise nat_eq identity.mac.octets setup.plan.controller.mac.octets ≡ false) (six : IsMac setup.plan.controller.mac) {F : Type 0} {S : ℕ} (as_flash : Flash F S) (first : World F)
    → Begins setup identity first → (run : List (Move × World F)) → AreMade as_flash first run → AreMeant first run
    → AreKept first.device.station.options (outputs_in setup.plan.real.modules.items) (opening_entry first ∷ entries_of first run)
all_kept setup identity there turns numbers standing kinds sound whole apart six as_flash first begins run made meant =
    chain first.device.station.options setup identity there as_flash (opening_entry first) first run (record { outputs = refl; places = refl }) begins.of_setup
    (subst (λ (l : Option RelationState). AreIn first.device.station.options setup identity there (image_in setup l)) (sym begins.unrelated)
    (zeros_in first.device.station.options setup identity there)) made
    (shown_runs turns numbers standing kinds sound whole setup identity apart six first begins as_flash run made meant)

pub none_kept : (options : DeviceOptions) (outputs : List Output) → AreKept options outputs []
none_kept options outputs [] one other behind e = absurd cc
none_kept options outputs (x ∷ front) one other behind e = absurd cc
