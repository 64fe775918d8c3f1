-- The law of inputs, over any run.
use Rattle.std.proofs.Common.{◌≡◌, ◌⊎◌, inl, inr, ◌++◌, ℕ, Bool, true, false, List, [], ◌∷◌, Option, Some, None, option_map, refl, sym, ap, subst, ◌∙◌, append_assoc, arith}
use Rattle.std.specs.Prelude.{nat_eq, slice_get}
use Rattle.std.specs.Cmp.Lexicographic.{pointwise}
use Rattle.std.specs.List.{AllByRecursion}
use Rattle.wire.specs.Codec.{IsSound, IsSoundWhole}
use Rattle.flash_model.specs.declared.flash.Flash.{Ghosts as Flash}
use Rattle.pn_values.specs.declared.identity.Identity.{Identity}
use Rattle.frame_codec.specs.Frame.{ethernet, layers}
use Rattle.rpc_core.specs.Cache.{kept_of}
use Rattle.cyclic_data.specs.declared.place.Place.{Place}
use Rattle.cyclic_data.specs.declared.place.PlaceKind.TheVariants.{Data}
use Rattle.cyclic_data.specs.Image.{Cell, Shown as Image, cell_at, octets_of, output_of, with_frame}
use Rattle.cyclic_data.specs.exchange.Process.{value_at}
use Rattle.relations.specs.RelationState.{RelationState}
use Rattle.device_core.specs.State.{Station}
use Rattle.controller_messages.specs.declared.request.Request.TheVariants as asks
use Rattle.controller_messages.specs.declared.setup.Setup.{Setup}
use Rattle.controller_messages.specs.Sent.{Requests, bytes_of}
use Rattle.controller_core.specs.declared.stored.event.Event.{Event}
use Rattle.controller_core.specs.declared.stored.event.Event.TheVariants as controller
use Rattle.controller_core.specs.stored.State.{Controlling, Live as ControllerLive}
use Rattle.controller_core.specs.Machine.{first as first_live, fresh_with, opening_of, step_of}
use Rattle.diagnosis.specs.declared.reports.priority.Priority.TheVariants.{High}
use Rattle.network_world.specs.declared.moves.End.TheVariants.{Device, Controller}
use Rattle.device_frames.specs.declared.local.Local.TheVariants as local
use Rattle.network_world.specs.declared.moves.Move.{Move}
use Rattle.network_world.specs.declared.moves.Move.TheVariants as move
use Rattle.network_world.specs.World.{AreMade, at_controller, end_at, Happens, last_world, World}
use Rattle.end_laws.specs.both.Small as small
use Rattle.end_laws.specs.both.Outputs.{AreAsGiven, ComesFromOne, IsShownRun, Outputs, Shown, ShowsBehind, ShowsNone, shown_last}
use Rattle.end_laws.specs.hearing.Stations.{IsSetup}
use Rattle.end_laws.specs.turns.Inputs.{AreZeros, ShowsNothingWithout}
use Rattle.end_laws.specs.turns.Runs.{behind_all}
use Rattle.both_ends.specs.startup.Played.{AreMeant, Begins, CanMeet}
use Rattle.both_ends.specs.startup.View.{IsMeant, move_of}
use Rattle.both_ends.specs.exchange.Sized.{AreSizedModules}
use Rattle.both_ends.specs.exchange.Told.{AreSizedMoves, IsSizedMove}
use Rattle.both_ends.proofs.ExchangeLaw.{DeviceSo, first_follows}
use Rattle.both_ends.proofs.ExchangeMessages.{HearsSo}
use Rattle.both_ends.proofs.ExchangeOutputsOneFrame.{other_mac}
use Rattle.both_ends.proofs.ExchangeOutputsTurns.{IsKept, KindsSo}
use Rattle.both_ends.proofs.ExchangeOutputsWorlds.{TurnsSo, first_same, rest_same}
use Rattle.both_ends.proofs.StartupRuns.{delivered}
use Rattle.inputs_law.specs.Shown.{brought_by, has_accepted, zeros_for}
use Rattle.inputs_law.specs.Given.{AreOfOneFrame, heard_with, image_given, in_relation, input_by, last_input, left_input, plugs_of, renewed_in, statuses_after, zero_for}
use Rattle.inputs_law.proofs.BroughtFrames.{request_silent}
use Rattle.inputs_law.proofs.ControllerShows.{IsShowing, fresh_showing, inputs_of, taken_if, zeros_taken}
use Rattle.inputs_law.proofs.GivenCells.{Values}
use Rattle.inputs_law.proofs.InputsPlaced.{ArePlaced}
use Rattle.inputs_law.proofs.RunShows.{IsUnmade, image_shown, input_more, iops_shown, reported_iops, said_after, said_more, values_given, values_shown, values_statuses, zeros_shown}
use Rattle.inputs_law.proofs.WorldSteps.{Holds, Provides, image_with, images_same, mirrored, none_silent, provides_same, rules_for, seen, seen_as, step_holds, unmade_by, values_after}

-- ---- moves, with the ends exchanged

by_device : (one : Move) → small.IsByController (mirrored (move_of one)) → end_at one ≡ Device
by_device (move.Deliver Device number) by = refl
by_device (move.Tick Device) by = refl
by_device (move.Application local) by = refl
by_device (move.Neighbour neighbour) by = refl
by_device other by = absurd by

came_to : (one : Move) (number : ℕ) → mirrored (move_of one) ≡ small.ComesToDevice number → one ≡ move.Deliver Controller number
came_to (move.Deliver Controller other) number is = same other number is
  where
    same : (n m : ℕ) → small.ComesToDevice n ≡ small.ComesToDevice m → move.Deliver Controller n ≡ move.Deliver Controller m
    same n m e = cc
came_to (move.Tick Device) number is = absurd cc
came_to other number is = absurd cc

opening_is : (controlling : Controlling) → opening_of controlling ≡ bytes_of controlling.setup (Requests controlling.live.device asks.Identify)
unfolding opening_of
opening_is controlling = refl

-- ---- a controller over events

behind_last : (happened : List Event) (event : Event) (first : Controlling) → behind_all (happened ++ event ∷ []) first ≡ (step_of (behind_all happened first) event).controller
behind_last [] event first = refl
behind_last (one ∷ more) event first = behind_last more event (step_of first one).controller

-- some events led to it
abbrev IsLed : Controlling → Controlling → Type 0
IsLed first now = (events : List Event) × (now ≡ behind_all events first)

module _ {F : Type 0} {S : ℕ} (as_flash : Flash F S) (start : Controlling) (before after : World F) (led : IsLed start before.controller) where
  led_by : (event : Event) → after ≡ at_controller before event → IsLed start after.controller
  led_by event is = (
    led.0 ++ event ∷ [],
    ap (λ (w : World F). w.controller) is ∙ (ap (λ (c : Controlling). (step_of c event).controller) led.1 ∙ sym (behind_last led.0 event start)),
  )

  led_same : after.controller ≡ before.controller → IsLed start after.controller
  led_same same = (led.0, same ∙ led.1)

  led_on : (one : Move) → Happens as_flash before one after → IsLed start after.controller
  led_on (move.Deliver Device number) happens =
      delivered as_flash before after Device (IsLed start after.controller) (slice_get before.sent number) happens (λ same. led_same (ap (λ (w : World F). w.controller) same)) (λ frame is comes. led_same comes.controller)
  led_on (move.Deliver Controller number) happens =
      delivered as_flash before after Controller (IsLed start after.controller) (slice_get before.sent number) happens (λ same. led_same (ap (λ (w : World F). w.controller) same))
      (λ frame is comes. led_by (controller.Frame (record { items = frame })) comes)
  led_on (move.Tick Device) happens = led_same happens.controller
  led_on (move.Application local) happens = led_same happens.controller
  led_on (move.Neighbour neighbour) happens = led_same happens.controller
  led_on other happens = led_by _ happens

all_led : {F : Type 0} {S : ℕ} (as_flash : Flash F S) (start : Controlling) (w : World F) (run : List (Move × World F)) → IsLed start w.controller → AreMade as_flash w run → IsLed start (last_world w run).controller
all_led as_flash start w [] led made = led
all_led as_flash start w (one ∷ run) led made = all_led as_flash start one.1 run (led_on as_flash start w one.1 led one.0 made.0) made.1

-- ---- runs

module _ (turns : TurnsSo) (kinds : KindsSo) (so : DeviceSo) (hears : HearsSo) (sound : IsSound ethernet) (whole : IsSoundWhole layers) (there : (setup : Setup) → IsSetup setup → ArePlaced setup)
    {F : Type 0} (first : World F) where
  -- what was given and said over a run
  abbrev values_now : List (Move × World F) → Values
  values_now run = record { given = λ place. last_input place first None run; statuses = statuses_after first run }

  -- a world after these moves
  record At (so_far : List (Move × World F)) (w : World F) : Type 0 where
    ends : last_world first so_far ≡ w
    setup_is : w.controller.setup ≡ first.controller.setup
    station_is : w.device.station ≡ first.device.station
    holds : Holds turns kinds so hears sound whole there w
    provides : Provides w.controller.setup w.device.station (values_now so_far) w.device.live.rest
    unrelated : w.device.live.rest.link ≡ None → (place : Place) → last_input place first None so_far ≡ None

  abbrev rules : Outputs Image Image
  rules = rules_for first.controller.setup first.device.station.identity

  -- a run, as the small machines see it
  abbrev shown_from : List (Move × World F) → List (Move × World F) → List (small.Move × Shown Image Image)
  shown_from so_far [] = []
  shown_from so_far (one ∷ run) = (mirrored (move_of one.0), seen one.1 (values_now (so_far ++ one ∷ []))) ∷ shown_from (so_far ++ one ∷ []) run

  -- the world after one more move
  last_more : (w : World F) (so_far : List (Move × World F)) (one : Move × World F) → last_world w (so_far ++ one ∷ []) ≡ one.1
  last_more w [] one = refl
  last_more w (other ∷ so_far) one = last_more other.1 so_far one

  -- what was given last then
  input_then : (place : Place) (so_far : List (Move × World F)) (before : World F) (one : Move × World F) → At so_far before
      → last_input place first None (so_far ++ one ∷ [])
      ≡ in_relation one.1.device.live.rest.link (left_input (renewed_in before.device.live.rest (heard_with one.0)) place (input_by place one.0 (last_input place first None so_far)))
  input_then place so_far before one at =
      input_more place first None so_far one
      ∙ ap (λ (w : World F). in_relation one.1.device.live.rest.link (left_input (renewed_in w.device.live.rest (heard_with one.0)) place (input_by place one.0 (last_input place first None so_far)))) at.ends

  module _ {S : ℕ} (as_flash : Flash F S) where
    unmade_at : (before after : World F) (so_far : List (Move × World F)) → At so_far before → (one : Move) → IsMeant before one → Happens as_flash before one after
        → IsUnmade after.device.live.rest.link before.device.live.rest.link one
    unmade_at before after so_far at (move.Application (local.Input slot subslot value)) meant happens =
        unmade_by turns kinds so hears sound whole there before after at.holds (values_now so_far) at.provides at.unrelated as_flash slot subslot value.items meant happens
    unmade_at before after so_far at other meant happens = tt

    record StepsTo (so_far : List (Move × World F)) (before : World F) (one : Move × World F) : Type 0 where
      is : ShowsBehind rules (seen before (values_now so_far)) (mirrored (move_of one.0)) (seen one.1 (values_now (so_far ++ one ∷ [])))
      at : At (so_far ++ one ∷ []) one.1

    step_at : (so_far : List (Move × World F)) (before : World F) (one : Move × World F) → At so_far before → IsMeant before one.0 → IsSizedMove one.0 → Happens as_flash before one.0 one.1 → StepsTo so_far before one
    step_at so_far before one at meant sized happens =
        let both = step_holds turns kinds so hears sound whole there before one.1 at.holds (values_now so_far) at.provides at.unrelated as_flash one.0 meant sized happens in
        let step = both.0 in
        let rest = before.device.live.rest in
        let affected = renewed_in rest (heard_with one.0) in
        let next = one.1.device.live.rest.link in
        let was = before.device.live.rest.link in
        let to = values_after next was rest (heard_with one.0) (values_now so_far) in
        let now = values_now (so_far ++ one ∷ []) in
        let given_is : (place : Place) → to.given place ≡ now.given place = λ place.
        values_given next was rest one.0 (values_now so_far) place (unmade_at before one.1 so_far at one.0 meant happens) (λ none. at.unrelated none place) ∙ sym (input_then place so_far before one at) in
        let statuses_are : to.statuses ≡ now.statuses =
        values_statuses next was rest one.0 (values_now so_far)
        ∙ (ap (λ (w : World F). said_after w.device.live.rest one.0 (statuses_after first so_far)) (sym at.ends) ∙ sym (said_more first first.device.live.rest.statuses so_far one)) in
        let rules_are : rules_for before.controller.setup before.device.station.identity ≡ rules =
        ap (λ (s : Setup). rules_for s before.device.station.identity) at.setup_is ∙ ap (λ (s : Station). rules_for first.controller.setup s.identity) at.station_is in
        record {
          is = subst (λ (r : Outputs Image Image). ShowsBehind r (seen before (values_now so_far)) (mirrored (move_of one.0)) (seen one.1 now)) rules_are
              (subst (λ (i : Image). ShowsBehind (rules_for before.controller.setup before.device.station.identity) (seen before (values_now so_far)) (mirrored (move_of one.0)) (seen_as one.1.controller.setup one.1.controller.live i one.1.sent))
              (images_same one.1.controller.setup one.1.device.station (plugs_of next) to now given_is statuses_are) step.is);
          at = record {
            ends = last_more first so_far one;
            setup_is = step.setup ∙ at.setup_is;
            station_is = step.station ∙ at.station_is;
            holds = both.1;
            provides = provides_same one.1.controller.setup one.1.device.station to now one.1.device.live.rest given_is statuses_are step.provides;
            unrelated = λ none place. input_then place so_far before one at
                ∙ ap (λ (l : Option RelationState). in_relation l (left_input affected place (input_by place one.0 (last_input place first None so_far)))) none;
          };
        }

    runs : (so_far : List (Move × World F)) (before : World F) (run : List (Move × World F)) → At so_far before → AreMade as_flash before run → AreSizedMoves run → AreMeant before run
        → IsShownRun rules (seen before (values_now so_far)) (shown_from so_far run)
    runs so_far before [] at made sized meant = tt
    runs so_far before (one ∷ run) at made sized meant =
        let step = step_at so_far before one at meant.0 sized.0 made.0 in (step.is, runs (so_far ++ one ∷ []) one.1 run step.at made.1 sized.1 meant.1)

    -- each point of a run
    at_point : (so_far : List (Move × World F)) (before : World F) (run : List (Move × World F)) → At so_far before → AreMade as_flash before run → AreSizedMoves run → AreMeant before run
        → (front : List (Move × World F)) (one : Move × World F) (rest : List (Move × World F)) → run ≡ front ++ one ∷ rest → At (so_far ++ (front ++ one ∷ [])) one.1
    at_point so_far before [] at made sized meant [] one rest e = absurd cc
    at_point so_far before [] at made sized meant (other ∷ front) one rest e = absurd cc
    at_point so_far before (next ∷ run) at made sized meant [] one rest e =
        subst (λ (x : Move × World F). At (so_far ++ x ∷ []) x.1) (first_same next one run rest e) (step_at so_far before next at meant.0 sized.0 made.0).at
    at_point so_far before (next ∷ run) at made sized meant (other ∷ front) one rest e =
        let same = first_same next other run (front ++ one ∷ rest) e in
        subst (λ (x : Move × World F). At (so_far ++ x ∷ (front ++ one ∷ [])) one.1) same
        (subst (λ (xs : List (Move × World F)). At xs one.1) (append_assoc so_far (next ∷ []) (front ++ one ∷ []))
        (at_point (so_far ++ next ∷ []) next.1 run (step_at so_far before next at meant.0 sized.0 made.0).at made.1 sized.1 meant.1 front one rest (rest_same next other run (front ++ one ∷ rest) e)))

    -- the end of a run
    at_end : (so_far : List (Move × World F)) (before : World F) (run : List (Move × World F)) → At so_far before → AreMade as_flash before run → AreSizedMoves run → AreMeant before run
        → (all : List (Move × World F)) × At all (last_world before run)
    at_end so_far before [] at made sized meant = (so_far, at)
    at_end so_far before (one ∷ run) at made sized meant = at_end (so_far ++ one ∷ []) one.1 run (step_at so_far before one at meant.0 sized.0 made.0).at made.1 sized.1 meant.1

  last_seen : (so_far : List (Move × World F)) (w : World F) (run : List (Move × World F)) → (values : Values) × (shown_last (seen w (values_now so_far)) (shown_from so_far run) ≡ seen (last_world w run) values)
  last_seen so_far w [] = (values_now so_far, refl)
  last_seen so_far w (one ∷ run) = last_seen (so_far ++ one ∷ []) one.1 run

  -- if what the small machines see is divided, so is the run
  record Divides (so_far run : List (Move × World F)) (before : List (small.Move × Shown Image Image)) (x : small.Move × Shown Image Image) (later : List (small.Move × Shown Image Image)) : Type 0 where
    front : List (Move × World F)
    one : Move × World F
    rest : List (Move × World F)
    all : run ≡ front ++ one ∷ rest
    front_is : shown_from so_far front ≡ before
    one_is : (mirrored (move_of one.0), seen one.1 (values_now (so_far ++ (front ++ one ∷ [])))) ≡ x
    rest_is : shown_from (so_far ++ (front ++ one ∷ [])) rest ≡ later

  divides : (so_far run : List (Move × World F)) (before : List (small.Move × Shown Image Image)) (x : small.Move × Shown Image Image) (later : List (small.Move × Shown Image Image))
      → shown_from so_far run ≡ before ++ x ∷ later → Divides so_far run before x later
  divides so_far [] [] x later e = absurd cc
  divides so_far [] (b ∷ before) x later e = absurd cc
  divides so_far (one ∷ run) [] x later e = record {
    front = [];
    one = one;
    rest = run;
    all = refl;
    front_is = refl;
    one_is = first_same (mirrored (move_of one.0), seen one.1 (values_now (so_far ++ one ∷ []))) x (shown_from (so_far ++ one ∷ []) run) later e;
    rest_is = rest_same (mirrored (move_of one.0), seen one.1 (values_now (so_far ++ one ∷ []))) x (shown_from (so_far ++ one ∷ []) run) later e;
  }
  divides so_far (other ∷ run) (b ∷ before) x later e =
      let head : small.Move × Shown Image Image = (mirrored (move_of other.0), seen other.1 (values_now (so_far ++ other ∷ []))) in
      let behind = divides (so_far ++ other ∷ []) run before x later (rest_same head b (shown_from (so_far ++ other ∷ []) run) (before ++ x ∷ later) e) in
      let assoc = append_assoc so_far (other ∷ []) (behind.front ++ behind.one ∷ []) in
      record {
        front = other ∷ behind.front;
        one = behind.one;
        rest = behind.rest;
        all = ap (λ (xs : List (Move × World F)). other ∷ xs) behind.all;
        front_is = ap (λ (ys : List (small.Move × Shown Image Image)). head ∷ ys) behind.front_is ∙ ap (λ (y : small.Move × Shown Image Image). y ∷ before) (first_same head b (shown_from (so_far ++ other ∷ []) run) (before ++ x ∷ later) e);
        one_is = ap (λ (xs : List (Move × World F)). let p : small.Move × Shown Image Image = (mirrored (move_of behind.one.0), seen behind.one.1 (values_now xs)) in p) (sym assoc) ∙ behind.one_is;
        rest_is = ap (λ (xs : List (Move × World F)). shown_from xs behind.rest) (sym assoc) ∙ behind.rest_is;
      }

  -- ---- the start

  module _ (setup : Setup) (identity : Identity) (good : IsSetup setup) (can : CanMeet setup identity) (begins : Begins setup identity first) (real : AreSizedModules first.device.live.rest.real.modules.items) where
    own : IsSetup first.controller.setup
    own = subst (λ (s : Setup). IsSetup s) (sym begins.of_setup) good

    apart : pointwise nat_eq first.controller.setup.plan.controller.mac.octets first.device.station.identity.mac.octets ≡ false
    apart = subst (λ (s : Setup). pointwise nat_eq s.plan.controller.mac.octets first.device.station.identity.mac.octets ≡ false) (sym begins.of_setup)
        (subst (λ (i : Identity). pointwise nat_eq setup.plan.controller.mac.octets i.mac.octets ≡ false) (sym begins.of_device) (other_mac setup.plan.controller.mac identity.mac (λ e. can.apart (sym e))))

    kept : IsKept (first_live setup.plan).cyclic.shown.data_length first.controller.live
    kept = subst (λ (l : ControllerLive). IsKept (first_live setup.plan).cyclic.shown.data_length l) (sym begins.made)
        (record { device = refl; way = record { partner = refl; sent_tag = omega arith; alarm_tag = omega arith }; size = refl })

    showing : IsShowing first.controller.setup first.controller.live
    showing = subst (λ (l : ControllerLive). IsShowing first.controller.setup l) (sym begins.made)
        (subst (λ (s : Setup). IsShowing s (first_live setup.plan)) (sym begins.of_setup) (fresh_showing setup (first_live setup.plan) refl refl))

    at_first : At [] first
    at_first = record {
      ends = refl;
      setup_is = refl;
      station_is = refl;
      holds = record {
        silent = none_silent first.controller.setup first.device.station first.device.live.rest.calls
            (subst (λ (s : Setup). kept_of s.activity first.device.live.rest.calls ≡ None) (sym begins.of_setup) begins.uncalled);
        many = (first_live setup.plan).cyclic.shown.data_length;
        kept = kept;
        showing = showing;
        raised = [];
        taken = [];
        follows = first_follows High so hears setup identity good can first begins real;
      };
      provides = record { statuses = refl; sends = λ link is. absurd (no_link link (sym begins.unrelated ∙ is)) };
      unrelated = λ none place. refl;
    }
      where
        no_link : (link : RelationState) → None ≡ Some link → ⊥
        no_link link e = cc

    shows_none : ShowsNone rules (seen first (values_now []))
    shows_none = record {
      unaccepted = ap (λ (l : ControllerLive). has_accepted l) begins.made;
      zeros = ap (λ (l : ControllerLive). inputs_of first.controller.setup l) begins.made;
      none = subst (λ (frames : List (List ℕ)). AllByRecursion (λ frame. rules.brought_by frame ≡ None) frames) (sym begins.opened) (
        subst (λ (frame : List ℕ). rules.brought_by frame ≡ None) (sym (opening_is first.controller))
            (request_silent first.controller.setup first.device.station.identity sound apart own.mac first.controller.live.device asks.Identify kept.device),
        tt,
      );
    }

    -- ---- the law

    module _ {S : ℕ} (as_flash : Flash F S) (run : List (Move × World F)) (made : AreMade as_flash first run) (sized : AreSizedMoves run) (meant : AreMeant first run) where
      abbrev last : ControllerLive
      last = (last_world first run).controller.live

      abbrev at_last : (all : List (Move × World F)) × At all (last_world first run)
      at_last = at_end as_flash [] first run at_first made sized meant

      setup_last : (last_world first run).controller.setup ≡ setup
      setup_last = at_last.1.setup_is ∙ begins.of_setup

      one_frame : has_accepted last ≡ true → ComesFromOne rules (seen first (values_now [])) (shown_from [] run) (inputs_of (last_world first run).controller.setup last) → AreOfOneFrame setup identity first run last
      one_frame has came =
          let cut : Divides [] run came.before (came.move, came.point) came.later = divides [] run came.before (came.move, came.point) came.later came.all in
          let moves = cut.front ++ cut.one ∷ [] in
          let point_is : seen cut.one.1 (values_now moves) ≡ came.point = ap (λ (x : small.Move × Shown Image Image). x.1) cut.one_is in
          let at = at_point as_flash [] first run at_first made sized meant cut.front cut.one cut.rest cut.all in
          let given_is : came.point.given ≡ image_given setup first moves =
          ap (λ (s : Shown Image Image). s.given) (sym point_is)
          ∙ (ap (λ (s : Setup). image_with s cut.one.1.device.station (plugs_of cut.one.1.device.live.rest.link) (values_now moves)) (at.setup_is ∙ begins.of_setup)
          ∙ (ap (λ (s : Station). image_with setup s (plugs_of cut.one.1.device.live.rest.link) (values_now moves)) at.station_is
          ∙ ap (λ (w : World F). image_with setup first.device.station (plugs_of w.device.live.rest.link) (values_now moves)) (sym at.ends))) in
          let taken : last.cyclic.taken ≡ image_given setup first moves =
          sym (taken_if (last_world first run).controller.setup last has)
          ∙ (came.shown ∙ (ap (λ (s : Setup). with_frame (octets_of came.point.given) (zeros_for s)) begins.of_setup
          ∙ (ap (λ (i : Image). with_frame (octets_of i) (zeros_for setup)) given_is ∙ image_shown setup (there setup good) first moves))) in
          let front_last = last_seen [] first cut.front in
          let before_is : (shown_last (seen first (values_now [])) came.before).sent ≡ (last_world first cut.front).sent =
          ap (λ (xs : List (small.Move × Shown Image Image)). (shown_last (seen first (values_now [])) xs).sent) (sym cut.front_is) ∙ ap (λ (s : Shown Image Image). s.sent) front_last.1 in
          let rest : Divides moves cut.rest came.between (small.ComesToDevice came.came, came.next) came.others =
          divides moves cut.rest came.between (small.ComesToDevice came.came, came.next) came.others (cut.rest_is ∙ came.since) in
          let since : rest.one.0 ≡ move.Deliver Controller came.came = came_to rest.one.0 came.came (ap (λ (x : small.Move × Shown Image Image). x.0) rest.one_is) in
          let between_last = last_seen moves cut.one.1 rest.front in
          record {
            before = cut.front;
            one = cut.one;
            later = cut.rest;
            all = cut.all;
            by_device = by_device cut.one.0 (subst (λ (m : small.Move). small.IsByController m) (sym (ap (λ (x : small.Move × Shown Image Image). x.0) cut.one_is)) came.by_controller);
            frame = came.frame;
            frames = came.frames;
            behind = ap (λ (s : Shown Image Image). s.sent) point_is ∙ (came.behind ∙ ap (λ (s : List (List ℕ)). s ++ came.frames) before_is);
            number = came.number;
            sent = came.sent;
            between = rest.front;
            came = came.came;
            next = rest.one.1;
            others = rest.rest;
            since = rest.all ∙ ap (λ (m : Move). rest.front ++ (m, rest.one.1) ∷ rest.rest) since;
            there = ap (λ (s : List (List ℕ)). slice_get s came.came)
                (sym (ap (λ (s : Shown Image Image). s.sent) between_last.1)
                ∙ (ap (λ (xs : List (small.Move × Shown Image Image)). (shown_last (seen cut.one.1 (values_now moves)) xs).sent) rest.front_is
                ∙ ap (λ (s : Shown Image Image). (shown_last s came.between).sent) point_is)) ∙ came.there;
            brings = ap (λ (s : Setup). brought_by s identity came.frame) (sym begins.of_setup)
                ∙ (ap (λ (i : Identity). brought_by first.controller.setup i came.frame) (sym begins.of_device) ∙ (came.brings ∙ ap (λ (i : Image). Some (octets_of i)) given_is));
            taken = taken;
            shown = λ slot subslot. ap (λ (i : Image). option_map output_of (cell_at Data slot subslot i.cells)) taken ∙ values_shown setup (there setup good) first moves slot subslot;
            iops = λ slot subslot. reported_iops last has slot subslot
                ∙ (ap (λ (i : Image). option_map (λ (cell : Cell). cell.status) (cell_at Data slot subslot i.cells)) taken ∙ iops_shown setup (there setup good) first moves slot subslot);
          }

      abbrev LawSo : Type 0
      LawSo = (r : Outputs Image Image) (start : Shown Image Image) (steps : List (small.Move × Shown Image Image)) → ShowsNone r start → IsShownRun r start steps
          → AreAsGiven r start steps (shown_last start steps).accepted (shown_last start steps).outputs

      as_given : LawSo → AreAsGiven rules (seen first (values_now [])) (shown_from [] run) (has_accepted last) (inputs_of (last_world first run).controller.setup last)
      as_given law =
          subst (λ (s : Shown Image Image). AreAsGiven rules (seen first (values_now [])) (shown_from [] run) s.accepted s.outputs) (last_seen [] first run).1
          (law rules (seen first (values_now [])) (shown_from [] run) shows_none (runs as_flash [] first run at_first made sized meant))

      one_if : (accepted : Bool) (outputs : Image) → AreAsGiven rules (seen first (values_now [])) (shown_from [] run) accepted outputs → accepted ≡ true → ComesFromOne rules (seen first (values_now [])) (shown_from [] run) outputs
      one_if false outputs so e = absurd cc
      one_if true outputs so e = so

      pub shows_one_frame : LawSo → has_accepted last ≡ true → AreOfOneFrame setup identity first run last
      shows_one_frame law has = one_frame has (one_if (has_accepted last) (inputs_of (last_world first run).controller.setup last) (as_given law) has)

      -- zeros, if no frame was accepted
      fresh_first : first.controller ≡ fresh_with setup.plan setup.ar setup.activity setup.options
      fresh_first =
          ap (λ (l : ControllerLive). let c : Controlling = record { setup = first.controller.setup; live = l } in c) begins.made
          ∙ ap (λ (s : Setup). let c : Controlling = record { setup = s; live = first_live setup.plan } in c) begins.of_setup

      zeros_without : ShowsNothingWithout → last.stands ≡ false → AreZeros setup.plan last.cyclic.taken
      zeros_without law down =
          let led = all_led as_flash (fresh_with setup.plan setup.ar setup.activity setup.options) first run ([], fresh_first) made in
          subst (λ (c : Controlling). AreZeros setup.plan c.live.cyclic.taken) (sym led.1)
          (law setup.plan setup.ar setup.activity setup.options led.0 (ap (λ (c : Controlling). c.live.stands) (sym led.1) ∙ down))

      pub shows_zeros : ShowsNothingWithout → has_accepted last ≡ false → (slot subslot : ℕ) → value_at last.cyclic slot subslot ≡ zero_for setup slot subslot
      shows_zeros law none = by_state (zeros_taken (last_world first run).controller.setup last at_last.1.holds.showing none)
        where
          by_state : (last.stands ≡ false) ⊎ (last.cyclic.taken ≡ zeros_for (last_world first run).controller.setup) → (slot subslot : ℕ) → value_at last.cyclic slot subslot ≡ zero_for setup slot subslot
          by_state (inl down) slot subslot = zeros_shown setup (there setup good) last.cyclic.taken (zeros_without law down) slot subslot
          by_state (inr same) slot subslot = zeros_shown setup (there setup good) last.cyclic.taken (inl (same ∙ ap (λ (s : Setup). zeros_for s) setup_last)) slot subslot
