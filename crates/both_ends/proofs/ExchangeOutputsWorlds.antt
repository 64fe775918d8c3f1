-- Each move of a world shows and sets outputs as the small machines do.
use Rattle.std.proofs.Common.{◌≡◌, ◌⊎◌, inl, inr, ℕ, Bool, true, false, List, [], ◌∷◌, ◌++◌, map, Option, Some, None, option_map, refl, sym, ap, subst, ◌∙◌, append_assoc, arith}
use Rattle.std.specs.Prelude.{slice_get, nat_eq}
use Rattle.std.specs.Cmp.Lexicographic.{pointwise}
use Rattle.std.specs.List.{AllByRecursion}
use Rattle.lldp.specs.Views.{peer_as}
use Rattle.flash_model.specs.declared.flash.Flash.{Ghosts as Flash}
use Rattle.wire.specs.Codec.{IsSound, IsSoundWhole}
use Rattle.pn_values.specs.declared.identity.Identity.{Identity}
use Rattle.frame_codec.specs.Frame.{ethernet, layers}
use Rattle.frame_codec.specs.Sendable.{IsMac}
use Rattle.rpc_core.specs.Cache.{Kept as Answer, kept_of}
use Rattle.cyclic_data.specs.Image.{Shown as Image}
use Rattle.relations.specs.RelationState.{RelationState}
use Rattle.device_frames.specs.declared.event.Event.TheVariants.{Frame}
use Rattle.device_frames.specs.Heard.{Heard, Ticks, Applied, Met, heard_of}
use Rattle.device_core.specs.State.{Live, Station}
use Rattle.device_core.specs.Machine.{heard_step}
use Rattle.controller_messages.specs.declared.setup.Setup.{Setup}
use Rattle.controller_messages.specs.declared.request.Request.TheVariants as asks
use Rattle.controller_messages.specs.Sent.{Requests, Sent, bytes_of}
use Rattle.controller_core.specs.declared.stored.event.Event.{Event}
use Rattle.controller_core.specs.declared.stored.event.Event.TheVariants as controller
use Rattle.controller_core.specs.stored.State.{Controlling, Live as ControllerLive, with_live}
use Rattle.controller_core.specs.Machine.{first as first_live, opening_of, step_of, turn_of}
use Rattle.network_world.specs.declared.moves.End.TheVariants.{Device, Controller}
use Rattle.network_world.specs.declared.moves.Move.{Move}
use Rattle.network_world.specs.declared.moves.Move.TheVariants as move
use Rattle.network_world.specs.World.{AreMade, at_controller, AtDevice, Comes, Delivers, Happens, is_skipped, last_world, World}
use Rattle.end_laws.specs.both.Small as small
use Rattle.end_laws.specs.both.Outputs.{BringsNone, GivesAtController, IsShownRun, Outputs, Shown, Shows, ShowsAtDevice, ShowsBehind, ShowsNone, shown_last}
use Rattle.both_ends.specs.startup.Played.{AreMeant, Begins, moves_of}
use Rattle.both_ends.specs.startup.View.{IsMeant, IsMeantAtDevice, move_of, rules_of}
use Rattle.end_laws.specs.both.Small.{Rules}
use Rattle.settings_journal.specs.settings_store.Machine.{Outcome}
use Rattle.connects.specs.requests.Request.{Request}
use Rattle.records.specs.declared.writes.taken.TakenRecord.{TakenRecord}
use Rattle.end_laws.specs.device.Small.{IsPlanned}
use Rattle.end_laws.specs.device.Turn.{BeginsNumbered, Turn}
use Rattle.both_ends.specs.exchange.Shown.{accepted_in, brought_in, image_in, outputs_of, shown_of, shown_run, zeros_for}
use Rattle.both_ends.specs.exchange.Given.{image_given}
use Rattle.both_ends.proofs.ExchangeOutputsMoves.{ArePlacedOnce, Sets, first_image, given_more, sets_given, sets_of, shown_with}
use Rattle.both_ends.proofs.ExchangeOutputsBrings.{IsAddressed, IsNow, all_bring, request_silent}
use Rattle.both_ends.proofs.ExchangeOutputsTurns.{IsKept, KindsSo, IsSaid, shown_behind, turn_tells}
use Rattle.both_ends.proofs.ExchangeOutputsSix.{six_event}
use Rattle.both_ends.proofs.ExchangeKeys.{StandingSo}
use Rattle.both_ends.proofs.ExchangeOutputsShows.{AreKeptSilent, IsOursIn, ShowsIn, frames_silent, none_silent, turn_shows}

controller_is : (old : Controlling) (event : Event) → (step_of old event).controller ≡ with_live old (turn_of old.setup old.live event).live
unfolding step_of
controller_is old event = refl

frames_are : (old : Controlling) (event : Event) → (step_of old event).frames ≡ map (bytes_of old.setup) (turn_of old.setup old.live event).sent
unfolding step_of
frames_are old event = refl

-- the relation is that of the plan, the stored responses bring no outputs, and the controller goes on as that of the
-- plan
record HoldsBy (setup : Setup) (station : Station) (link_is : Option RelationState) (calls : List Answer) (live : ControllerLive) : Type 0 where
  ours : IsOursIn setup station link_is
  calls_silent : AreKeptSilent setup station calls
  kept : IsKept (zeros_for setup).data_length live
  apart : pointwise nat_eq station.identity.mac.octets setup.plan.controller.mac.octets ≡ false
  six : IsMac setup.plan.controller.mac

abbrev seen : Setup → Option RelationState → Image → List (List ℕ) → Shown Image Image
seen setup link given sent = record { accepted = accepted_in link; outputs = image_in setup link; given = given; sent = sent }

shows_as : (setup : Setup) (station : Station) (brought : Option (List ℕ)) (before after : Option RelationState) (given now : Image) (sent all : List (List ℕ)) → ShowsIn setup station brought before after
    → Shows (outputs_of station.options setup station.identity) brought (seen setup before given sent) (seen setup after now all)
shows_as setup station brought before after given now sent all (inl stays) = inl stays
shows_as setup station brought before after given now sent all (inr (inl none)) = inr (inl none)
shows_as setup station brought before after given now sent all (inr (inr accepts)) =
    inr (inr (record { octets = accepts.octets; brings = accepts.brings; accepted = accepts.accepted; shown = accepts.shown }))

pub first_same : {A : Type 0} (x y : A) (xs ys : List A) → x ∷ xs ≡ y ∷ ys → x ≡ y
first_same x y xs ys e = cc

pub rest_same : {A : Type 0} (x y : A) (xs ys : List A) → x ∷ xs ≡ y ∷ ys → xs ≡ ys
rest_same x y xs ys e = cc

opening_is : (controlling : Controlling) → opening_of controlling ≡ bytes_of controlling.setup (Requests controlling.live.device asks.Identify)
unfolding opening_of
opening_is controlling = refl

-- what is said now, and to whom
all_now : (shown : Image) (sent : List Sent) → AllByRecursion (IsSaid shown) sent → AllByRecursion (IsNow shown) sent
all_now shown [] all = tt
all_now shown (message ∷ sent) all = (all.0.0, all_now shown sent all.1)

all_addressed : (shown : Image) (sent : List Sent) → AllByRecursion (IsSaid shown) sent → AllByRecursion IsAddressed sent
all_addressed shown [] all = tt
all_addressed shown (message ∷ sent) all = (all.0.1, all_addressed shown sent all.1)

-- the law of a device's turns
abbrev pub TurnsSo : Type 0
TurnsSo = (rules : Rules TakenRecord Request) (activity : List ℕ) (outcomes : List Outcome) (station : Station) (live : Live) (heard : Heard) → IsPlanned rules activity station.named live.rest.real heard
    → Turn station live heard (heard_step outcomes station live heard).live.rest (heard_step outcomes station live heard).sent

-- the law of the number of a relation that begins
abbrev pub NumbersSo : Type 0
NumbersSo = (rules : Rules TakenRecord Request) (activity : List ℕ) (outcomes : List Outcome) (station : Station) (live : Live) (heard : Heard) → IsPlanned rules activity station.named live.rest.real heard
    → BeginsNumbered station.options live.rest.link (heard_step outcomes station live heard).live.rest.link

module _ (turns : TurnsSo) (numbers : NumbersSo) (standing : StandingSo) (kinds : KindsSo) (sound : IsSound ethernet) (whole : IsSoundWhole layers) {F : Type 0} where
  abbrev rules_at : World F → Outputs Image Image
  rules_at w = outputs_of w.device.station.options w.controller.setup w.device.station.identity

  abbrev Holds : World F → Type 0
  Holds w = HoldsBy w.controller.setup w.device.station w.device.live.rest.link w.device.live.rest.calls w.controller.live

  -- the effect of a move on the world, that it is a step, and the outputs of the controller then
  record Refines (before after : World F) (sets : Sets) (steps : Type 0) : Type 0 where
    is : steps
    sets_are : sets_of after.controller.live ≡ sets
    setup : after.controller.setup ≡ before.controller.setup
    station : after.device.station ≡ before.device.station
    holds : Holds after

  -- ---- a step of the controller

  at_controller_gives : (before after : World F) (event : Event) → Holds before → after ≡ at_controller before event
      → Refines before after (shown_behind before.controller.live event) (GivesAtController (rules_at before) (shown_of before) (shown_of after))
  at_controller_gives before after event holds is =
      let setup = before.controller.setup in
      let size = (zeros_for setup).data_length in
      let turn = turn_of setup before.controller.live event in
      let now : World F = record { device = before.device; controller = with_live before.controller turn.live; sent = before.sent ++ map (bytes_of setup) turn.sent } in
      let there : after ≡ now =
      is ∙ (ap (λ (c : Controlling). record { device = before.device; controller = c; sent = before.sent ++ (step_of before.controller event).frames }) (controller_is before.controller event)
      ∙ ap (λ (frames : List (List ℕ)). record { device = before.device; controller = with_live before.controller turn.live; sent = before.sent ++ frames }) (frames_are before.controller event)) in
      let tells = turn_tells size kinds setup before.controller.live event (six_event whole setup event) holds.kept in
      let shown = turn.live.cyclic.shown in
      subst (λ (w : World F). Refines before w (shown_behind before.controller.live event) (GivesAtController (rules_at before) (shown_of before) (shown_of w))) (sym there) (record {
        is = record {
          accepted = refl;
          outputs = refl;
          frames = map (bytes_of setup) turn.sent;
          brings = all_bring before.device.station.options setup before.device.station.identity sound holds.six shown tells.kept.size turn.sent (all_now shown turn.sent tells.reported) (all_addressed shown turn.sent tells.reported);
          behind = refl;
        };
        sets_are = tells.same;
        setup = refl;
        station = refl;
        holds = record { ours = holds.ours; calls_silent = holds.calls_silent; kept = tells.kept; apart = holds.apart; six = holds.six };
      })

  -- ---- a step of the device

  module _ {S : ℕ} (as_flash : Flash F S) where
    at_device_shows : (before after : World F) (heard : Heard) → Holds before → IsMeantAtDevice before heard → AtDevice as_flash before heard after
        → Refines before after (sets_of before.controller.live) (ShowsAtDevice (rules_at before) (brought_in before.device.station.options before.controller.setup heard) (shown_of before) (shown_of after))
    at_device_shows before after heard holds meant made =
        let hears = made.hears in
        let setup = before.controller.setup in
        let station = before.device.station in
        let outcomes = hears.steps.outcomes in
        let live = before.device.live in
        let step = heard_step outcomes station live heard in
        let rules = rules_at before in
        let brought = brought_in station.options setup heard in
        let goes = turn_shows setup station sound holds.apart standing live heard holds.ours holds.calls_silent meant.planned step.live.rest step.sent
        (turns (rules_of setup station) setup.activity outcomes station live heard meant.planned)
        (numbers (rules_of setup station) setup.activity outcomes station live heard meant.planned) in
        let shows : Shows rules brought (shown_of before) (shown_of after) =
        subst (λ (c : Controlling). Shows rules brought (shown_of before) (seen c.setup after.device.live.rest.link after.controller.live.cyclic.shown after.sent)) (sym made.controller)
        (subst (λ (l : Live). Shows rules brought (shown_of before) (seen setup l.rest.link after.controller.live.cyclic.shown after.sent)) (sym hears.steps.live)
        (shows_as setup station brought live.rest.link step.live.rest.link before.controller.live.cyclic.shown after.controller.live.cyclic.shown before.sent after.sent goes.shows)) in
        record {
          is = record {
            shows = shows;
            given = ap (λ (c : Controlling). c.live.cyclic.shown) made.controller;
            frames = hears.frames;
            none = subst (λ (frames : List (List ℕ)). AllByRecursion (BringsNone rules) frames) (sym hears.steps.frames)
                (frames_silent setup station sound holds.apart outcomes live heard hears.steps.sendable goes.known);
            behind = hears.behind;
          };
          sets_are = ap (λ (c : Controlling). sets_of c.live) made.controller;
          setup = ap (λ (c : Controlling). c.setup) made.controller;
          station = hears.steps.same;
          holds = subst (λ (c : Controlling). HoldsBy c.setup after.device.station after.device.live.rest.link after.device.live.rest.calls c.live) (sym made.controller)
              (subst (λ (s : Station). HoldsBy setup s after.device.live.rest.link after.device.live.rest.calls before.controller.live) (sym hears.steps.same)
              (subst (λ (l : Live). HoldsBy setup station l.rest.link l.rest.calls before.controller.live) (sym hears.steps.live)
              (record { ours = goes.ours; calls_silent = goes.calls hears.steps.sendable; kept = holds.kept; apart = holds.apart; six = holds.six })));
        }

    rests : (before after : World F) (Does : Type 0) → Holds before → after ≡ before → Refines before after (sets_of before.controller.live) ((shown_of after ≡ shown_of before) ⊎ Does)
    rests before after Does holds same = record {
      is = inl (ap shown_of same);
      sets_are = ap (λ (w : World F). sets_of w.controller.live) same;
      setup = ap (λ (w : World F). w.controller.setup) same;
      station = ap (λ (w : World F). w.device.station) same;
      holds = subst (λ (w : World F). Holds w) (sym same) holds;
    }

    does : (before after : World F) (sets : Sets) (Same Does More : Type 0) → (Does → More) → Refines before after sets Does → Refines before after sets (Same ⊎ More)
    does before after sets Same Does More more refines = record { is = inr (more refines.is); sets_are = refines.sets_are; setup = refines.setup; station = refines.station; holds = refines.holds }

    module _ (before after : World F) (holds : Holds before) where
      comes_to_device : (number : ℕ) (octets : List ℕ) (skipped : Bool) → slice_get before.sent number ≡ Some octets
          → IsMeantAtDevice before (heard_of before.device.station.identity (Frame (record { items = octets })))
          → Comes as_flash skipped before Device octets after
          → Refines before after (sets_of before.controller.live) (ShowsBehind (rules_at before) (shown_of before) (small.ComesToDevice number) (shown_of after))
      comes_to_device number octets true there meant comes = rests before after _ holds comes
      comes_to_device number octets false there meant comes =
          does before after _ _ _ _ (λ steps. record { frame = octets; there = there; steps = steps }) (at_device_shows before after _ holds meant comes)

      comes_to_controller : (number : ℕ) (octets : List ℕ) (skipped : Bool)
          → Comes as_flash skipped before Controller octets after
          → Refines before after (sets_of before.controller.live) (ShowsBehind (rules_at before) (shown_of before) (small.ComesToController number) (shown_of after))
      comes_to_controller number octets true comes = rests before after _ holds comes
      comes_to_controller number octets false comes =
          does before after _ _ _ _ (λ steps. steps) (at_controller_gives before after (controller.Frame (record { items = octets })) holds comes)

      delivered_to_device : (number : ℕ) (octets : Option (List ℕ)) → slice_get before.sent number ≡ octets
          → ((frame : List ℕ) → octets ≡ Some frame → IsMeantAtDevice before (heard_of before.device.station.identity (Frame (record { items = frame }))))
          → Delivers as_flash octets before Device after
          → Refines before after (sets_of before.controller.live) (ShowsBehind (rules_at before) (shown_of before) (small.ComesToDevice number) (shown_of after))
      delivered_to_device number None there meant comes = rests before after _ holds comes
      delivered_to_device number (Some octets) there meant comes =
          comes_to_device number octets (is_skipped before.device before.controller Device octets) there (meant octets refl) comes

      delivered_to_controller : (number : ℕ) (octets : Option (List ℕ))
          → Delivers as_flash octets before Controller after
          → Refines before after (sets_of before.controller.live) (ShowsBehind (rules_at before) (shown_of before) (small.ComesToController number) (shown_of after))
      delivered_to_controller number None comes = rests before after _ holds comes
      delivered_to_controller number (Some octets) comes =
          comes_to_controller number octets (is_skipped before.device before.controller Controller octets) comes

      happens_shows : (one : Move) → IsMeant before one → Happens as_flash before one after
          → Refines before after (shown_with before.controller.live one) (ShowsBehind (rules_at before) (shown_of before) (move_of one) (shown_of after))
      happens_shows (move.Deliver Device number) meant happens = delivered_to_device number (slice_get before.sent number) refl meant happens
      happens_shows (move.Deliver Controller number) meant happens = delivered_to_controller number (slice_get before.sent number) happens
      happens_shows (move.Tick Device) meant happens = does before after _ _ _ _ (λ steps. steps) (at_device_shows before after Ticks holds meant happens)
      happens_shows (move.Tick Controller) meant happens = does before after _ _ _ _ (λ steps. steps) (at_controller_gives before after controller.Tick holds happens)
      happens_shows (move.Application local) meant happens = does before after _ _ _ _ (λ steps. steps) (at_device_shows before after (Applied local) holds meant happens)
      happens_shows (move.Neighbour neighbour) meant happens = does before after _ _ _ _ (λ steps. steps) (at_device_shows before after (Met (option_map peer_as neighbour)) holds meant happens)
      happens_shows (move.Give slot subslot value) meant happens =
          does before after _ _ _ _ (λ steps. steps) (at_controller_gives before after (controller.Give slot subslot value) holds happens)
      happens_shows (move.OutputStatus slot subslot is_good) meant happens =
          does before after _ _ _ _ (λ steps. steps) (at_controller_gives before after (controller.Status slot subslot is_good) holds happens)
      happens_shows (move.Read slot subslot index) meant happens =
          does before after _ _ _ _ (λ steps. steps) (at_controller_gives before after (controller.Read slot subslot index) holds happens)
      happens_shows (move.Write slot subslot index octets) meant happens =
          does before after _ _ _ _ (λ steps. steps) (at_controller_gives before after (controller.Write slot subslot index octets) holds happens)
      happens_shows move.Stop meant happens = does before after _ _ _ _ (λ steps. steps) (at_controller_gives before after controller.Stop holds happens)

    -- ---- runs

    runs : (rules : Outputs Image Image) (before : World F) (run : List (Move × World F)) → rules_at before ≡ rules → Holds before
        → AreMade as_flash before run → AreMeant before run → IsShownRun rules (shown_of before) (shown_run run)
    runs rules before [] same holds made meant = tt
    runs rules before (one ∷ run) same holds made meant =
        let step = happens_shows before one.1 holds one.0 meant.0 made.0 in
        let still : rules_at one.1 ≡ rules_at before =
        ap (λ (s : Setup). outputs_of one.1.device.station.options s one.1.device.station.identity) step.setup ∙ ap (λ (s : Station). outputs_of s.options before.controller.setup s.identity) step.station in (
          subst (λ (r : Outputs Image Image). ShowsBehind r (shown_of before) (move_of one.0) (shown_of one.1)) same step.is,
          runs rules one.1 run (still ∙ same) step.holds made.1 meant.1,
        )

    -- at each point of a run, the controller sends the outputs set before it
    given_at : (setup : Setup) (places_once : ArePlacedOnce setup) (so_far : List Move) (before : World F) (run : List (Move × World F)) → Holds before → sets_of before.controller.live ≡ sets_given setup so_far
        → AreMade as_flash before run → AreMeant before run
        → (front : List (Move × World F)) (one : Move × World F) (later : List (Move × World F)) → run ≡ front ++ one ∷ later
        → sets_of one.1.controller.live ≡ sets_given setup (so_far ++ moves_of (front ++ one ∷ []))
    given_at setup once so_far before [] holds was made meant [] one later e = absurd cc
    given_at setup once so_far before [] holds was made meant (other ∷ front) one later e = absurd cc
    given_at setup once so_far before (next ∷ run) holds was made meant [] one later e =
        let step = happens_shows before next.1 holds next.0 meant.0 made.0 in
        subst (λ (x : Move × World F). sets_of x.1.controller.live ≡ sets_given setup (so_far ++ x.0 ∷ [])) (first_same next one run later e)
        (step.sets_are ∙ given_more setup once so_far before.controller.live was next.0)
    given_at setup once so_far before (next ∷ run) holds was made meant (other ∷ front) one later e =
        let step = happens_shows before next.1 holds next.0 meant.0 made.0 in
        let same = first_same next other run (front ++ one ∷ later) e in
        given_at setup once (so_far ++ next.0 ∷ []) next.1 run step.holds (step.sets_are ∙ given_more setup once so_far before.controller.live was next.0) made.1 meant.1 front one later (rest_same next other run (front ++ one ∷ later) e)
        ∙ ap (λ (moves : List Move). sets_given setup moves)
        (append_assoc so_far (next.0 ∷ []) (moves_of (front ++ one ∷ []))
        ∙ ap (λ (x : Move × World F). so_far ++ x.0 ∷ moves_of (front ++ one ∷ [])) same)

  -- ---- the start

  module _ (setup : Setup) (identity : Identity) (apart : pointwise nat_eq identity.mac.octets setup.plan.controller.mac.octets ≡ false) (six : IsMac setup.plan.controller.mac)
      (first : World F) (begins : Begins setup identity first) where
    rules_are : rules_at first ≡ outputs_of first.device.station.options setup identity
    rules_are = ap (λ (s : Setup). outputs_of first.device.station.options s first.device.station.identity) begins.of_setup
        ∙ ap (λ (i : Identity). outputs_of first.device.station.options setup i) begins.of_device

    first_kept : IsKept (zeros_for setup).data_length (first_live setup.plan)
    first_kept = record { device = refl; way = record { partner = refl; sent_tag = omega arith; alarm_tag = omega arith }; size = refl }

    abbrev HoldsFirst : Setup → Identity → Type 0
    HoldsFirst s i = (pointwise nat_eq i.mac.octets s.plan.controller.mac.octets ≡ false) × IsMac s.plan.controller.mac

    both : HoldsFirst first.controller.setup first.device.station.identity
    both = subst (λ (s : Setup). HoldsFirst s first.device.station.identity) (sym begins.of_setup) (subst (λ (i : Identity). HoldsFirst setup i) (sym begins.of_device) (apart, six))

    kept : IsKept (zeros_for first.controller.setup).data_length first.controller.live
    kept = subst (λ (l : ControllerLive). IsKept (zeros_for first.controller.setup).data_length l) (sym begins.made)
        (subst (λ (s : Setup). IsKept (zeros_for s).data_length (first_live setup.plan)) (sym begins.of_setup) first_kept)

    uncalled : kept_of first.controller.setup.activity first.device.live.rest.calls ≡ None
    uncalled = subst (λ (s : Setup). kept_of s.activity first.device.live.rest.calls ≡ None) (sym begins.of_setup) begins.uncalled

    holds_first : Holds first
    holds_first =
        subst (λ (l : Option RelationState). HoldsBy first.controller.setup first.device.station l first.device.live.rest.calls first.controller.live) (sym begins.unrelated)
        (record { ours = tt; calls_silent = none_silent first.controller.setup first.device.station first.device.live.rest.calls uncalled; kept = kept; apart = both.0; six = both.1 })

    opening_silent : BringsNone (rules_at first) (opening_of first.controller)
    opening_silent = subst (λ (frame : List ℕ). BringsNone (rules_at first) frame) (sym (opening_is first.controller))
        (request_silent first.device.station.options first.controller.setup first.device.station.identity sound both.1 first.controller.live.device asks.Identify kept.device)

    pub shows_none : ShowsNone (outputs_of first.device.station.options setup identity) (shown_of first)
    shows_none = subst (λ (r : Outputs Image Image). ShowsNone r (shown_of first)) rules_are (record {
      unaccepted = ap (λ (l : Option RelationState). accepted_in l) begins.unrelated;
      zeros = ap (λ (l : Option RelationState). image_in first.controller.setup l) begins.unrelated;
      none = subst (λ (frames : List (List ℕ)). AllByRecursion (BringsNone (rules_at first)) frames) (sym begins.opened) (opening_silent, tt);
    })

    first_given : sets_of first.controller.live ≡ sets_given setup []
    first_given = ap (λ (l : ControllerLive). sets_of l) begins.made ∙ first_image setup

    pub given_in_run : ArePlacedOnce setup → {S : ℕ} (as_flash : Flash F S) (run : List (Move × World F)) → AreMade as_flash first run
        → AreMeant first run → (front : List (Move × World F)) (one : Move × World F) (later : List (Move × World F)) → run ≡ front ++ one ∷ later
        → one.1.controller.live.cyclic.shown ≡ image_given setup (moves_of (front ++ one ∷ []))
    given_in_run once as_flash run made meant front one later e =
        ap (λ (s : Sets). s.shown) (given_at as_flash setup once [] first run holds_first first_given made meant front one later e)

    pub shown_runs : {S : ℕ} (as_flash : Flash F S) (run : List (Move × World F)) → AreMade as_flash first run
        → AreMeant first run → IsShownRun (outputs_of first.device.station.options setup identity) (shown_of first) (shown_run run)
    shown_runs as_flash run made meant = runs as_flash (outputs_of first.device.station.options setup identity) first run rules_are holds_first made meant

pub last_shown : {F : Type 0} (first : World F) (run : List (Move × World F)) → shown_last (shown_of first) (shown_run run) ≡ shown_of (last_world first run)
last_shown first [] = refl
last_shown first (one ∷ run) = last_shown one.1 run
