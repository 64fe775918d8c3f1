-- The outputs of a device after each turn, from the runs of both ends.
use Rattle.std.proofs.Common.{◌≡◌, ◌⊎◌, inl, inr, ◌-◌, ◌++◌, ℕ, zero, suc, Bool, true, false, List, [], ◌∷◌, length, map, drop, replicate, Option, Some, None, option_map, refl, sym, ap, subst, ◌∙◌}
use Rattle.std.specs.Prelude.{IfSome, slice_get, unwrap_or}
use Rattle.std.proofs.lemmas.List.{length-replicate}
use Rattle.flash_model.specs.declared.flash.Flash.{Ghosts as Flash}
use Rattle.pn_values.specs.declared.identity.Identity.{Identity}
use Rattle.pn_values.specs.declared.real.Real.{Real}
use Rattle.pn_values.specs.declared.real.RealModule.{RealModule}
use Rattle.pn_values.specs.declared.real.RealSubmodule.{RealSubmodule}
use Rattle.cyclic_data.specs.declared.place.Place.{Place}
use Rattle.cyclic_data.specs.declared.place.PlaceKind.TheVariants.{Data}
use Rattle.cyclic_data.specs.Image.{Shown as Image, cell_at, octets_of, output_of as output_of_cell, place_at}
use Rattle.expected_places.specs.declared.place.ExpectedPlace.{ExpectedPlace}
use Rattle.relations.specs.Exchanged.{output_in}
use Rattle.relations.specs.Outputs.{module_at, output_of, output_part, zero_output, zero_part, zeros_of}
use Rattle.relations.specs.Plugging.{places_in}
use Rattle.relations.specs.RelationState.{RelationState}
use Rattle.relations.specs.exchange.Process.{output_at}
use Rattle.device_core.specs.State.{State}
use Rattle.controller_messages.specs.declared.setup.Setup.{Setup}
use Rattle.controller_core.specs.declared.stored.event.Event.{Event}
use Rattle.controller_core.specs.stored.State.{Controlling}
use Rattle.network_world.specs.declared.moves.End.TheVariants.{Device, Controller}
use Rattle.network_world.specs.declared.moves.Move.{Move}
use Rattle.network_world.specs.declared.moves.Move.TheVariants as move
use Rattle.network_world.specs.World.{AreMade, at_controller, Happens, last_world, World}
use Rattle.both_ends.specs.startup.Played.{Begins, moves_of}
use Rattle.both_ends.specs.exchange.Given.{AreOfOneFrame as OfOneFrame, image_given, places_for, zero_for, zeros_at}
use Rattle.both_ends.specs.exchange.Shown.{has_accepted, zeros_for}
use Rattle.both_ends.proofs.ExchangeOutputsMoves.{ArePlaced, all_long, values_of}
use Rattle.both_ends.proofs.ExchangeOutputsValues.{outputs_shown as values_shown}
use Rattle.both_ends.proofs.StartupRuns.{controller_is, delivered}
use Rattle.startup_octets.specs.declared.outputs.Output.{Output}
use Rattle.startup_octets.specs.Log.{Entry, moves_in}
use Rattle.startup_octets.specs.Outputs.{AreOfOneFrame, AreShown, AreZeros, hidden, outputs_in, touched_by, value_after, zeroed}
use Rattle.startup_octets.specs.OutputWorlds.{outputs_shown, places_shown, shown_at}
use Rattle.startup_octets.specs.Played.{is_device}
use Rattle.startup_octets.specs.Run.{entries_of, entry_by, opening_entry}
use Rattle.startup_octets.specs.StartUp.{IsIn}
use Rattle.relations.specs.declared.options.DeviceOptions.{DeviceOptions}
use Rattle.startup_octets.proofs.OutputFrames.{IsCarrier, carrier}
use Rattle.startup_octets.proofs.OutputValues.{carried_if, given_if, taken_of}
use Rattle.startup_octets.proofs.Points.{dropped}

-- ---- zeros

abbrev IsZeros : Option (List ℕ) → Type 0
IsZeros one = IfSome one (λ octets. octets ≡ replicate (length octets) 0)

abbrev zeros_of_length : ℕ → List ℕ
zeros_of_length n = replicate n 0

zeros_are : (n : ℕ) → zeros_of_length n ≡ zeros_of_length (length (zeros_of_length n))
zeros_are n = ap zeros_of_length (sym (length-replicate {A = ℕ} n 0))

part_zeros : (part : Option RealSubmodule) → IsZeros (option_map zeros_of part)
part_zeros None = tt
part_zeros (Some part) = zeros_are _

pub plugged_zeros : (subslot : ℕ) (entry : Option RealModule) → IsZeros (zero_part subslot entry)
plugged_zeros subslot None = tt
plugged_zeros subslot (Some entry) = part_zeros (output_part subslot entry.submodules.items)

pub related_zeros : (real : Real) (slot subslot : ℕ) (place : Option Place) → IsZeros (output_of real slot subslot (option_map zeros_at place))
related_zeros real slot subslot None = plugged_zeros subslot (module_at slot real.modules.items)
related_zeros real slot subslot (Some place) = zeros_are (place.size - 1)

-- What is shown without a relation, and in one that has accepted no frame.
unrelated_zeros : {F : Type 0} (device : State F) (output : Output) → device.live.rest.link ≡ None → IsZeros (shown_at device output)
unrelated_zeros device output none =
    subst (λ (l : Option RelationState). IsZeros (output_of device.live.rest.real output.slot output.subslot (output_in output.slot output.subslot l))) (sym none)
    (plugged_zeros output.subslot (module_at output.slot device.live.rest.real.modules.items))

early_zeros : {F : Type 0} (setup : Setup) (device : State F) (output : Output) (link : RelationState) → device.live.rest.link ≡ Some link
    → ((slot subslot : ℕ) → output_in slot subslot (Some link) ≡ zero_for setup slot subslot) → IsZeros (shown_at device output)
early_zeros setup device output link is early =
    subst (λ (v : Option (List ℕ)). IsZeros (output_of device.live.rest.real output.slot output.subslot v))
    (sym (early output.slot output.subslot) ∙ ap (λ (l : Option RelationState). output_in output.slot output.subslot l) (sym is))
    (related_zeros device.live.rest.real output.slot output.subslot (place_at Data output.slot output.subslot (places_for setup)))

pub all_zeros : (f : Output → Option (List ℕ)) (outputs : List Output) → ((output : Output) → IsZeros (f output)) → AreZeros (map f outputs)
all_zeros f [] so = tt
all_zeros f (output ∷ outputs) so = (so output, all_zeros f outputs so)

-- ---- what came in frames, and what is shown of it

-- What the last cyclic frame that was accepted brought for an output, at a touched place or not.
abbrev pub brought_in : ℕ → ℕ → Option RelationState → Option (List ℕ)
brought_in slot subslot None = None
brought_in slot subslot (Some link) = output_at link.flow slot subslot

abbrev pub brought_at : {F : Type 0} → State F → Output → Option (List ℕ)
brought_at device output = output_of device.live.rest.real output.slot output.subslot (brought_in output.slot output.subslot device.live.rest.link)

not_hidden : (value : Option (List ℕ)) → value ≡ option_map (zeroed false) value
not_hidden None = refl
not_hidden (Some value) = refl

zeros_hidden : (is_touched : Bool) (value : Option (List ℕ)) → IsZeros value → value ≡ option_map (zeroed is_touched) value
zeros_hidden is_touched None zeros = refl
zeros_hidden true (Some value) zeros = ap (λ (v : List ℕ). Some v) zeros
zeros_hidden false (Some value) zeros = refl

-- An output is shown as it came, or as zeros at a touched place.
one_hidden : (real : Real) (output : Output) (link : Option RelationState) → output_of real output.slot output.subslot (output_in output.slot output.subslot link)
    ≡ option_map (zeroed (touched_by (places_in link) output)) (output_of real output.slot output.subslot (brought_in output.slot output.subslot link))
one_hidden real output None = not_hidden (zero_output real output.slot output.subslot)
one_hidden real output (Some link) = by_value (output_at link.flow output.slot output.subslot)
  where
    by_value : (value : Option (List ℕ))
        → output_of real output.slot output.subslot (option_map (zeroed (touched_by (places_in (Some link)) output)) value)
        ≡ option_map (zeroed (touched_by (places_in (Some link)) output)) (output_of real output.slot output.subslot value)
    by_value (Some value) = refl
    by_value None =
        zeros_hidden (touched_by (places_in (Some link)) output) (zero_output real output.slot output.subslot)
        (plugged_zeros output.subslot (module_at output.slot real.modules.items))

pub shown_hidden : {F : Type 0} (device : State F) (outputs : List Output)
    → map (shown_at device) outputs ≡ hidden (places_in device.live.rest.link) outputs (map (brought_at device) outputs)
shown_hidden device [] = refl
shown_hidden device (output ∷ outputs) =
    ap (λ (v : Option (List ℕ)). v ∷ map (shown_at device) outputs) (one_hidden device.live.rest.real output device.live.rest.link)
    ∙ ap (λ (l : List (Option (List ℕ))). option_map (zeroed (touched_by (places_in device.live.rest.link) output)) (brought_at device output) ∷ l)
    (shown_hidden device outputs)

-- ---- lists

in_slice : (sent : List (List ℕ)) (number : ℕ) (frame : List ℕ) → slice_get sent number ≡ Some frame → IsIn frame sent
in_slice [] number frame there = absurd cc
in_slice (one ∷ sent) zero frame there = inl (let e : one ≡ frame = cc in sym e)
in_slice (one ∷ sent) (suc number) frame there = inr (in_slice sent number frame there)

pub same_head : {A : Type 0} (x y : A) (xs ys : List A) → x ∷ xs ≡ y ∷ ys → x ≡ y
same_head x y xs ys e = cc

pub same_tail : {A : Type 0} (x y : A) (xs ys : List A) → x ∷ xs ≡ y ∷ ys → xs ≡ ys
same_tail x y xs ys e = cc

module _ {F : Type 0} where
  -- ---- entries of a run

  entries_append : (first : World F) (some more : List (Move × World F)) → entries_of first (some ++ more) ≡ entries_of first some ++ entries_of (last_world first some) more
  entries_append first [] more = refl
  entries_append first (one ∷ some) more = ap (λ (l : List Entry). entry_by first one.0 one.1 ∷ l) (entries_append one.1 some more)

  moves_are : (first : World F) (run : List (Move × World F)) → moves_in (entries_of first run) ≡ moves_of run
  moves_are first [] = refl
  moves_are first (one ∷ run) = ap (λ (l : List Move). one.0 ∷ l) (moves_are one.1 run)

  last_append : (first : World F) (some : List (Move × World F)) (one : Move × World F) → last_world first (some ++ one ∷ []) ≡ one.1
  last_append first [] one = refl
  last_append first (other ∷ some) one = last_append other.1 some one

  -- A run that is cut after one of its entries.
  record IsCutAt (first : World F) (run : List (Move × World F)) (front : List Entry) (entry : Entry) : Type 0 where
    some : List (Move × World F)
    one : Move × World F
    more : List (Move × World F)
    all : run ≡ some ++ one ∷ more
    front_is : entries_of first some ≡ front
    entry_is : entry_by (last_world first some) one.0 one.1 ≡ entry

  cut_at : (first : World F) (run : List (Move × World F)) (front : List Entry) (entry : Entry) (behind : List Entry) → entries_of first run ≡ front ++ entry ∷ behind → IsCutAt first run front entry
  cut_at first [] [] entry behind e = absurd cc
  cut_at first [] (other ∷ front) entry behind e = absurd cc
  cut_at first (one ∷ run) [] entry behind e = record {
    some = [];
    one = one;
    more = run;
    all = refl;
    front_is = refl;
    entry_is = same_head (entry_by first one.0 one.1) entry (entries_of one.1 run) behind e;
  }
  cut_at first (one ∷ run) (other ∷ front) entry behind e =
      let rest = cut_at one.1 run front entry behind (same_tail (entry_by first one.0 one.1) other (entries_of one.1 run) (front ++ entry ∷ behind) e) in
      record {
        some = one ∷ rest.some;
        one = rest.one;
        more = rest.more;
        all = ap (λ (l : List (Move × World F)). one ∷ l) rest.all;
        front_is = ap (λ (l : List Entry). entry_by first one.0 one.1 ∷ l) rest.front_is
            ∙ ap (λ (x : Entry). x ∷ front) (same_head (entry_by first one.0 one.1) other (entries_of one.1 run) (front ++ entry ∷ behind) e);
        entry_is = rest.entry_is;
      }

  module _ {S : ℕ} (as_flash : Flash F S) where
    made_front : (first : World F) (some : List (Move × World F)) (one : Move × World F) (more : List (Move × World F)) → AreMade as_flash first (some ++ one ∷ more)
        → AreMade as_flash first (some ++ one ∷ [])
    made_front first [] one more made = (made.0, tt)
    made_front first (other ∷ some) one more made = (made.0, made_front other.1 some one more made.1)

    -- ---- the set-up stays the same

    abbrev KeepsSetup : World F → World F → Type 0
    KeepsSetup before after = after.controller.setup ≡ before.controller.setup

    by_same : (before after : World F) → after ≡ before → KeepsSetup before after
    by_same before after same = ap (λ (w : World F). w.controller.setup) same

    by_controller : (before after : World F) (event : Event) → after ≡ at_controller before event → KeepsSetup before after
    by_controller before after event made = ap (λ (w : World F). w.controller.setup) made ∙ ap (λ (c : Controlling). c.setup) (controller_is before.controller event)

    by_device : (before after : World F) → after.controller ≡ before.controller → KeepsSetup before after
    by_device before after same = ap (λ (c : Controlling). c.setup) same

    pub setup_kept : (before after : World F) (one : Move) → Happens as_flash before one after → KeepsSetup before after
    setup_kept before after (move.Deliver Device number) happens =
        delivered as_flash before after Device (KeepsSetup before after) (slice_get before.sent number) happens (by_same before after) (λ frame there comes. by_device before after comes.controller)
    setup_kept before after (move.Deliver Controller number) happens =
        delivered as_flash before after Controller (KeepsSetup before after) (slice_get before.sent number) happens (by_same before after) (λ frame there comes. by_controller before after _ comes)
    setup_kept before after (move.Tick Device) happens = by_device before after happens.controller
    setup_kept before after (move.Application local) happens = by_device before after happens.controller
    setup_kept before after (move.Neighbour neighbour) happens = by_device before after happens.controller
    setup_kept before after one happens = by_controller before after _ happens

    setup_stays : (first : World F) (run : List (Move × World F)) → AreMade as_flash first run → KeepsSetup first (last_world first run)
    setup_stays first [] made = refl
    setup_stays first (one ∷ run) made = setup_stays one.1 run made.1 ∙ setup_kept first one.1 one.0 made.0

-- ---- one frame

module _ {F : Type 0} (setup : Setup) (identity : Identity) (there : ArePlaced setup) (first : World F) (run : List (Move × World F)) (link : RelationState) (it : OfOneFrame setup identity first run link) where
  abbrev outputs : List Output
  outputs = outputs_in setup.plan.real.modules.items

  abbrev moves : List Move
  moves = moves_of (it.before ++ it.one ∷ [])

  abbrev sending : Entry
  sending = entry_by (last_world first it.before) it.one.0 it.one.1

  abbrev coming : Entry
  coming = entry_by (last_world it.one.1 it.between) (move.Deliver Device it.came) it.next

  came_is : coming.turn.came ≡ it.frame
  came_is = ap (λ (f : Option (List ℕ)). unwrap_or f []) it.there

  sent_is : sending.turn.sent ≡ it.frames
  sent_is =
      ap (λ (l : List (List ℕ)). drop (length (last_world first it.before).sent) l) it.behind ∙ dropped (last_world first it.before).sent it.frames

  carries : IsCarrier first.device.station.options (zeros_for setup).data_length coming.turn.came (octets_of (image_given setup moves))
  carries =
      subst (λ (frame : List ℕ). IsCarrier first.device.station.options (zeros_for setup).data_length frame (octets_of (image_given setup moves))) (sym came_is)
      (carrier first.device.station.options setup identity (octets_of (image_given setup moves)) it.frame it.brings)

  parts_are : entries_of first run ≡ entries_of first it.before ++ sending ∷ (entries_of it.one.1 it.between ++ coming ∷ entries_of it.next it.others)
  parts_are =
      ap (entries_of first) it.all
      ∙ entries_append first it.before (it.one ∷ it.later)
      ∙ ap (λ (l : List (Move × World F)). entries_of first it.before ++ sending ∷ entries_of it.one.1 l) it.since
      ∙ ap (λ (l : List Entry). entries_of first it.before ++ sending ∷ l) (entries_append it.one.1 it.between ((move.Deliver Device it.came, it.next) ∷ it.others))

  moves_told : moves_in (opening_entry first ∷ entries_of first it.before ++ sending ∷ []) ≡ moves
  moves_told = ap moves_in (sym (entries_append first it.before (it.one ∷ []))) ∙ moves_are first (it.before ++ it.one ∷ [])

  pub of_one_frame : (device : State F) → device.live.rest.link ≡ Some link
      → AreOfOneFrame first.device.station.options outputs (opening_entry first ∷ entries_of first run) (map (brought_at device) outputs)
  of_one_frame device is =
      let real = device.live.rest.real in
      let found = λ (slot subslot : ℕ). brought_in slot subslot device.live.rest.link in
      let taken = λ (slot subslot : ℕ). ap (λ (l : Option RelationState). brought_in slot subslot l) is
      ∙ ap (λ (i : Image). option_map output_of_cell (cell_at Data slot subslot i.cells)) it.taken in
      let given = λ (slot subslot : ℕ). taken slot subslot ∙ values_shown slot subslot (values_of moves) (places_for setup) (all_long moves (places_for setup)) in
      record {
        before = opening_entry first ∷ entries_of first it.before;
        sending = sending;
        between = entries_of it.one.1 it.between;
        coming = coming;
        behind = entries_of it.next it.others;
        parts = ap (λ (l : List Entry). opening_entry first ∷ l) parts_are;
        at_controller = ap is_device it.by_controller;
        sent = subst (λ (frame : List ℕ). IsIn frame sending.turn.sent) (sym came_is)
            (subst (λ (l : List (List ℕ)). IsIn it.frame l) (sym sent_is) (in_slice it.frames it.number it.frame it.sent));
        brings = record {
          at_device = refl;
          ether_type = carries.ether_type;
          frame_id = carries.frame_id;
          carries = carried_if setup there first.device.station.options coming.turn.came (octets_of (image_given setup moves)) carries real found (taken_of setup there moves real found taken);
        };
        given = given_if setup there moves real found given
            ∙ ap (λ (ms : List Move). map (λ output. Some (value_after ms output)) outputs) (sym moves_told);
      }

-- ---- after each turn

module _ {F : Type 0} {S : ℕ} (as_flash : Flash F S) (setup : Setup) (identity : Identity) (there : ArePlaced setup)
    (zeros : (first : World F) (run : List (Move × World F)) → Begins setup identity first → AreMade as_flash first run
    → (link : RelationState) → (last_world first run).device.live.rest.link ≡ Some link → has_accepted link ≡ false
    → (slot subslot : ℕ) → output_in slot subslot (Some link) ≡ zero_for setup slot subslot)
    (values : (first : World F) (run : List (Move × World F)) → Begins setup identity first → AreMade as_flash first run
    → (link : RelationState) → (last_world first run).device.live.rest.link ≡ Some link → has_accepted link ≡ true → OfOneFrame setup identity first run link)
    (first : World F) (begins : Begins setup identity first) where
  abbrev planned : List Output
  planned = outputs_in setup.plan.real.modules.items

  abbrev IsShown : List Entry → List (Option (List ℕ)) → Option (List ExpectedPlace) → Type 0
  IsShown entries shown places = AreZeros shown
      ⊎ ((values : List (Option (List ℕ))) × (shown ≡ hidden places planned values) × AreOfOneFrame first.device.station.options planned entries values)

  -- the outputs and the places of a world
  abbrev IsShownIn : List Entry → World F → Type 0
  IsShownIn entries world = IsShown entries (outputs_shown world) (places_shown world)

  at_end : (run : List (Move × World F)) → AreMade as_flash first run → IsShownIn (opening_entry first ∷ entries_of first run) (last_world first run)
  at_end run made =
      subst (λ (s : Setup). IsShown (opening_entry first ∷ entries_of first run) (map (shown_at device) (outputs_in s.plan.real.modules.items))
      (places_in device.live.rest.link))
      (sym (setup_stays as_flash first run made ∙ begins.of_setup)) (by_link device.live.rest.link refl)
    where
      device : State F
      device = (last_world first run).device

      Goal : Type 0
      Goal = IsShown (opening_entry first ∷ entries_of first run) (map (shown_at device) planned) (places_in device.live.rest.link)

      by_accepted : (link : RelationState) → device.live.rest.link ≡ Some link → (b : Bool) → has_accepted link ≡ b → Goal
      by_accepted link is true some = inr (
        map (brought_at device) planned,
        shown_hidden device planned,
        of_one_frame setup identity there first run link (values first run begins made link is some) device is,
      )
      by_accepted link is false none =
          inl (all_zeros (shown_at device) planned (λ output. early_zeros setup device output link is (zeros first run begins made link is none)))

      by_link : (link : Option RelationState) → device.live.rest.link ≡ link → Goal
      by_link None none = inl (all_zeros (shown_at device) planned (λ output. unrelated_zeros device output none))
      by_link (Some link) is = by_accepted link is (has_accepted link) refl

  pub all_shown : (run : List (Move × World F)) → AreMade as_flash first run → AreShown first.device.station.options planned (opening_entry first ∷ entries_of first run)
  all_shown run made [] entry behind e =
      subst (λ (one : Entry). IsShown (one ∷ []) one.outputs one.places) (same_head (opening_entry first) entry (entries_of first run) behind e) (at_end [] tt)
  all_shown run made (other ∷ front) entry behind e =
      let cut = cut_at first run front entry behind (same_tail (opening_entry first) other (entries_of first run) (front ++ entry ∷ behind) e) in
      let some = cut.some ++ cut.one ∷ [] in
      let now = at_end some (made_front as_flash first cut.some cut.one cut.more (subst (AreMade as_flash first) cut.all made)) in
      let entries : opening_entry first ∷ entries_of first some ≡ (other ∷ front) ++ entry ∷ [] =
      ap (λ (l : List Entry). opening_entry first ∷ l) (entries_append first cut.some (cut.one ∷ []) ∙ ap (λ (l : List Entry). l ++ entry_by (last_world first cut.some) cut.one.0 cut.one.1 ∷ []) cut.front_is
      ∙ ap (λ (x : Entry). front ++ x ∷ []) cut.entry_is)
      ∙ ap (λ (x : Entry). x ∷ front ++ entry ∷ []) (same_head (opening_entry first) other (entries_of first run) (front ++ entry ∷ behind) e) in
      subst (λ (l : List Entry). IsShown l entry.outputs entry.places) entries
      (subst (λ (x : Entry). IsShown (opening_entry first ∷ entries_of first some) x.outputs x.places) cut.entry_is
      (subst (λ (w : World F). IsShownIn (opening_entry first ∷ entries_of first some) w) (last_append first cut.some cut.one) now))

pub none_shown : (options : DeviceOptions) (outputs : List Output) → AreShown options outputs []
none_shown options outputs [] entry behind e = absurd cc
none_shown options outputs (other ∷ front) entry behind e = absurd cc
