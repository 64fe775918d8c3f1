-- All outputs that are shown come from one frame, which brings the values set before it was sent.
use Rattle.std.proofs.Common.{◌≡◌, ◌++◌, ℕ, Bool, true, false, List, [], ◌∷◌, map, Option, Some, refl, sym, ap, subst, ◌∙◌}
use Rattle.std.specs.Prelude.{nat_eq, option_map, slice_get}
use Rattle.std.specs.Cmp.Lexicographic.{pointwise, same_text}
use Rattle.wire.specs.Codec.{IsSound, IsSoundWhole}
use Rattle.flash_model.specs.declared.flash.Flash.{Ghosts as Flash}
use Rattle.pn_values.specs.declared.identity.Identity.{Identity}
use Rattle.pn_values.specs.declared.mac.Mac.{Mac}
use Rattle.frame_codec.specs.Frame.{ethernet, layers}
use Rattle.frame_codec.specs.Sendable.{IsMac}
use Rattle.cyclic_data.specs.declared.place.PlaceKind.TheVariants.{Data}
use Rattle.expected_places.specs.Machine.{is_touched_at}
use Rattle.cyclic_data.specs.Image.{Shown as Image, cell_at, octets_of, output_of, place_at, with_frame}
use Rattle.relations.specs.Exchanged.{output_in, shown_as}
use Rattle.relations.specs.RelationState.{RelationState}
use Rattle.controller_messages.specs.declared.setup.Setup.{Setup}
use Rattle.network_world.specs.declared.moves.End.TheVariants.{Device, Controller}
use Rattle.network_world.specs.declared.moves.Move.{Move}
use Rattle.network_world.specs.declared.moves.Move.TheVariants as move
use Rattle.network_world.specs.World.{AreMade, end_at, last_world, World}
use Rattle.end_laws.specs.both.Small as small
use Rattle.end_laws.specs.both.Outputs.{AreAsGiven, ComesFromOne, IsShownRun, Outputs, Shown, ShowsNone, shown_last}
use Rattle.both_ends.specs.startup.Played.{AreMeant, Begins, moves_of}
use Rattle.both_ends.specs.startup.View.{move_of}
use Rattle.both_ends.specs.exchange.Shown.{accepted_in, has_accepted, image_in, outputs_of, shown_of, shown_run, taken_in, zeros_for}
use Rattle.both_ends.specs.exchange.Given.{AreOfOneFrame, image_given, places_for, zero_for}
use Rattle.both_ends.proofs.ExchangeOutputsMoves.{ArePlaced, all_long, image_shown, values_of}
use Rattle.both_ends.proofs.ExchangeOutputsValues.{outputs_shown, touched_zeros, zeros_are_shown}
use Rattle.both_ends.proofs.ExchangeOutputsTurns.{KindsSo}
use Rattle.both_ends.proofs.ExchangeKeys.{StandingSo}
use Rattle.both_ends.proofs.ExchangeOutputsWorlds.{NumbersSo, TurnsSo, first_same, given_in_run, last_shown, rest_same, shown_runs, shows_none}

-- ---- lists

module _ {A B : Type 0} (f : A → B) where
  -- if the image of a list under a map is divided, so is the list
  pub record Divides (run : List A) (before : List B) (x : B) (later : List B) : Type 0 where
    pub front : List A
    pub one : A
    pub rest : List A
    pub all : run ≡ front ++ one ∷ rest
    pub front_is : map f front ≡ before
    pub one_is : f one ≡ x
    pub rest_is : map f rest ≡ later

  divides : (run : List A) (before : List B) (x : B) (later : List B) → map f run ≡ before ++ x ∷ later → Divides run before x later
  divides [] [] x later e = absurd cc
  divides [] (b ∷ before) x later e = absurd cc
  divides (a ∷ run) [] x later e = record { front = []; one = a; rest = run; all = refl; front_is = refl; one_is = first_same (f a) x (map f run) later e; rest_is = rest_same (f a) x (map f run) later e }
  divides (a ∷ run) (b ∷ before) x later e =
      let behind = divides run before x later (rest_same (f a) b (map f run) (before ++ x ∷ later) e) in
      record {
        front = a ∷ behind.front;
        one = behind.one;
        rest = behind.rest;
        all = ap (λ (xs : List A). a ∷ xs) behind.all;
        front_is = ap (λ (ys : List B). f a ∷ ys) behind.front_is ∙ ap (λ (y : B). y ∷ before) (first_same (f a) b (map f run) (before ++ x ∷ later) e);
        one_is = behind.one_is;
        rest_is = behind.rest_is;
      }

-- ---- moves

-- moves, as a small machine sees them
abbrev seen : {F : Type 0} → Move × World F → small.Move × Shown Image Image
seen one = (move_of one.0, shown_of one.1)

by_controller : (one : Move) → small.IsByController (move_of one) → end_at one ≡ Controller
by_controller (move.Deliver Device number) by = absurd by
by_controller (move.Tick Device) by = absurd by
by_controller (move.Application local) by = absurd by
by_controller (move.Neighbour neighbour) by = absurd by
by_controller other by = refl

came_to : (one : Move) (number : ℕ) → move_of one ≡ small.ComesToDevice number → one ≡ move.Deliver Device number
came_to (move.Deliver Device other) number is = same other number is
  where
    same : (n m : ℕ) → small.ComesToDevice n ≡ small.ComesToDevice m → move.Deliver Device n ≡ move.Deliver Device m
    same n m e = cc
came_to (move.Tick Device) number is = absurd cc
came_to other number is = absurd cc

pub other_mac : (one other : Mac) → (one ≡ other → ⊥) → pointwise nat_eq one.octets other.octets ≡ false
other_mac one other apart = by_test (pointwise nat_eq one.octets other.octets) refl
  where
    by_test : (b : Bool) → pointwise nat_eq one.octets other.octets ≡ b → b ≡ false
    by_test true e = absurd (apart (ap (λ (octets : List ℕ). let m : Mac = record { octets = octets } in m) (same_text one.octets other.octets (sym e))))
    by_test false e = refl

-- ---- runs

module _ (turns : TurnsSo) (numbers : NumbersSo) (standing : StandingSo) (kinds : KindsSo) (sound : IsSound ethernet) (whole : IsSoundWhole layers) {F : Type 0} (setup : Setup) (identity : Identity) (apart : pointwise nat_eq identity.mac.octets setup.plan.controller.mac.octets ≡ false)
    (six : IsMac setup.plan.controller.mac) (there : ArePlaced setup) (first : World F) (begins : Begins setup identity first)
    {S : ℕ} (as_flash : Flash F S) (run : List (Move × World F)) (made : AreMade as_flash first run) (meant : AreMeant first run) where
  abbrev rules : Outputs Image Image
  rules = outputs_of first.device.station.options setup identity

  one_frame : (link : RelationState) → ComesFromOne rules (shown_of first) (shown_run run) (taken_in link) → AreOfOneFrame setup identity first run link
  one_frame link came =
      let cut : Divides seen run came.before (came.move, came.point) came.later =
      divides seen run came.before (came.move, came.point) came.later came.all in
      let point_is : shown_of cut.one.1 ≡ came.point = ap (λ (x : small.Move × Shown Image Image). x.1) cut.one_is in
      let before_is : shown_last (shown_of first) came.before ≡ shown_of (last_world first cut.front) =
      ap (λ (xs : List (small.Move × Shown Image Image)). shown_last (shown_of first) xs) (sym cut.front_is) ∙ last_shown first cut.front in
      let moves = moves_of (cut.front ++ cut.one ∷ []) in
      let given_is : came.point.given ≡ image_given setup moves =
      ap (λ (s : Shown Image Image). s.given) (sym point_is)
      ∙ given_in_run turns numbers standing kinds sound whole setup identity apart six first begins there.once as_flash run made meant cut.front cut.one cut.rest cut.all in
      let taken : taken_in link ≡ image_given setup moves =
      came.shown ∙ (ap (λ (i : Image). with_frame (octets_of i) (zeros_for setup)) given_is ∙ image_shown setup there moves) in
      let then : Divides seen cut.rest came.between (small.ComesToDevice came.came, came.next) came.others =
      divides seen cut.rest came.between (small.ComesToDevice came.came, came.next) came.others (cut.rest_is ∙ came.since) in
      let since : then.one.0 ≡ move.Deliver Device came.came = came_to then.one.0 came.came (ap (λ (x : small.Move × Shown Image Image). x.0) then.one_is) in
      record {
        before = cut.front;
        one = cut.one;
        later = cut.rest;
        all = cut.all;
        by_controller = by_controller cut.one.0 (subst (λ (m : small.Move). small.IsByController m) (sym (ap (λ (x : small.Move × Shown Image Image). x.0) cut.one_is)) came.by_controller);
        between = then.front;
        came = came.came;
        next = then.one.1;
        others = then.rest;
        since = then.all ∙ ap (λ (m : Move). then.front ++ (m, then.one.1) ∷ then.rest) since;
        there = ap (λ (s : Shown Image Image). slice_get s.sent came.came)
            (sym (last_shown cut.one.1 then.front)
            ∙ (ap (λ (xs : List (small.Move × Shown Image Image)). shown_last (shown_of cut.one.1) xs) then.front_is
            ∙ ap (λ (s : Shown Image Image). shown_last s came.between) point_is)) ∙ came.there;
        frame = came.frame;
        frames = came.frames;
        behind = ap (λ (s : Shown Image Image). s.sent) point_is ∙ (came.behind ∙ ap (λ (s : Shown Image Image). s.sent ++ came.frames) before_is);
        number = came.number;
        sent = came.sent;
        brings = came.brings ∙ ap (λ (i : Image). Some (octets_of i)) given_is;
        taken = taken;
        shown = λ slot subslot. ap (λ (value : Option (List ℕ)). option_map (shown_as (is_touched_at slot subslot link.plugs)) value)
            (ap (λ (i : Image). option_map output_of (cell_at Data slot subslot i.cells)) taken
            ∙ outputs_shown slot subslot (values_of moves) (places_for setup) (all_long moves (places_for setup)));
      }

  pub as_given : ((rules : Outputs Image Image) (start : Shown Image Image) (steps : List (small.Move × Shown Image Image)) → ShowsNone rules start → IsShownRun rules start steps
      → AreAsGiven rules start steps (shown_last start steps).accepted (shown_last start steps).outputs)
      → AreAsGiven rules (shown_of first) (shown_run run) (shown_of (last_world first run)).accepted (shown_of (last_world first run)).outputs
  as_given law =
      subst (λ (s : Shown Image Image). AreAsGiven rules (shown_of first) (shown_run run) s.accepted s.outputs) (last_shown first run)
      (law rules (shown_of first) (shown_run run) (shows_none turns numbers standing kinds sound whole setup identity apart six first begins)
      (shown_runs turns numbers standing kinds sound whole setup identity apart six first begins as_flash run made meant))

  zeros_if : (accepted : Bool) (outputs : Image) → AreAsGiven rules (shown_of first) (shown_run run) accepted outputs → accepted ≡ false → outputs ≡ zeros_for setup
  zeros_if false outputs so e = so
  zeros_if true outputs so e = absurd cc

  one_if : (accepted : Bool) (outputs : Image) → AreAsGiven rules (shown_of first) (shown_run run) accepted outputs → accepted ≡ true
      → ComesFromOne rules (shown_of first) (shown_run run) outputs
  one_if false outputs so e = absurd cc
  one_if true outputs so e = so

  -- what a relation shows at the end of the run
  module _ (so : AreAsGiven rules (shown_of first) (shown_run run) (shown_of (last_world first run)).accepted (shown_of (last_world first run)).outputs)
      (link : RelationState) (is : (last_world first run).device.live.rest.link ≡ Some link) where
    accepted_is : (b : Bool) → has_accepted link ≡ b → (shown_of (last_world first run)).accepted ≡ b
    accepted_is b e = ap (λ (l : Option RelationState). accepted_in l) is ∙ e

    outputs_are : (shown_of (last_world first run)).outputs ≡ taken_in link
    outputs_are = ap (λ (l : Option RelationState). image_in (last_world first run).controller.setup l) is

    pub shows_zeros : has_accepted link ≡ false → (slot subslot : ℕ) → output_in slot subslot (Some link) ≡ zero_for setup slot subslot
    shows_zeros none slot subslot =
        let zeros = zeros_if (shown_of (last_world first run)).accepted (shown_of (last_world first run)).outputs so (accepted_is false none) in
        ap (λ (value : Option (List ℕ)). option_map (shown_as (is_touched_at slot subslot link.plugs)) value)
        (ap (λ (i : Image). option_map output_of (cell_at Data slot subslot i.cells)) (sym outputs_are ∙ zeros) ∙ zeros_are_shown slot subslot (places_for setup))
        ∙ touched_zeros (is_touched_at slot subslot link.plugs) (place_at Data slot subslot (places_for setup))

    pub shows_one_frame : has_accepted link ≡ true → AreOfOneFrame setup identity first run link
    shows_one_frame some =
        one_frame link (subst (λ (i : Image). ComesFromOne rules (shown_of first) (shown_run run) i) outputs_are
        (one_if (shown_of (last_world first run)).accepted (shown_of (last_world first run)).outputs so (accepted_is true some)))
