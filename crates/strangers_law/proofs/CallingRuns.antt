-- Runs of both ends with callers.
use Rattle.std.proofs.Common.{◌≡◌, ℕ, Bool, true, false, List, [], ◌∷◌, ◌++◌, Option, Some, None, option_map, refl, sym, ap, subst, ◌∙◌}
use Rattle.std.specs.Prelude.{slice_get, IsSome}
use Rattle.lldp.specs.Views.{peer_as}
use Rattle.flash_model.specs.declared.flash.Flash.{Ghosts as Flash}
use Rattle.pn_values.specs.declared.identity.Identity.{Identity}
use Rattle.pn_values.specs.declared.real.Real.{Real}
use Rattle.rpc_core.specs.Cache.{Kept as Answer, kept_of}
use Rattle.connects.specs.requests.Request.{Request}
use Rattle.records.specs.declared.writes.taken.TakenRecord.{TakenRecord}
use Rattle.relations.specs.RelationState.{RelationState}
use Rattle.device_frames.specs.Heard.{Heard, Ticks, Reported, Met, Applied, Calls}
use Rattle.device_core.specs.State.{State, Station}
use Rattle.controller_messages.specs.declared.setup.Setup.{Setup}
use Rattle.controller_core.specs.declared.stored.event.Event.{Event}
use Rattle.controller_core.specs.declared.stored.event.Event.TheVariants as controller
use Rattle.controller_core.specs.stored.State.{Controlling}
use Rattle.controller_core.specs.Machine.{step_of}
use Rattle.network_world.specs.declared.moves.End.TheVariants.{Device, Controller}
use Rattle.network_world.specs.declared.moves.Move.{Move}
use Rattle.network_world.specs.declared.moves.Move.TheVariants as move
use Rattle.network_world.specs.World.{AreMade, AtDevice, Comes, Delivers, Happens, World, at_controller, is_skipped, last_world}
use Rattle.end_laws.specs.both.Small as small
use Rattle.end_laws.specs.both.Small.{Rules}
use Rattle.end_laws.specs.controller.Small.{small_of}
use Rattle.end_laws.specs.device.Small as device
use Rattle.asked_records.specs.Asked.{AskedState, question_in}
use Rattle.asked_records.specs.declared.names.RecordName.{RecordName}
use Rattle.asked_records.specs.declared.question.Question.{Question}
use Rattle.end_laws.specs.device.Small.{IsPlanned, asked_in, kept_in, link_of}
use Rattle.both_ends.specs.startup.Played.{Begins, viewed}
use Rattle.both_ends.specs.startup.View.{IsMeant, IsMeantAtDevice, move_of, view_of}
use Rattle.strangers_law.specs.Calling.{AreOthers, CallsLeave, GoesAlike, IsLike, IsOwn}
use Rattle.strangers_law.specs.CallingRuns.{AreAlike, AreBeside, AreMadeWithCallers, Called, IsRunBeside, Occurrence, Occurs, Uncalled}
use Rattle.strangers_law.specs.Quiet.{heard_in}
use Rattle.strangers_law.specs.Runs.{Own, Stranger}
use Rattle.strangers_law.proofs.Runs.{leaves_worlds}

-- ---- what is heard

-- A call that is planned has the activity of the set-up.
own_heard : (rules : Rules TakenRecord Request) (activity : List ℕ) (named : List RecordName) (real : Real) (heard : Heard)
    → IsPlanned rules activity named real heard → IsOwn activity heard
own_heard rules activity named real (Reported caller address (Calls call)) planned = planned.own
own_heard rules activity named real heard planned = tt

own_meant : {F : Type 0} (world : World F) (heard : Heard) → IsMeantAtDevice world heard → IsOwn world.controller.setup.activity heard
own_meant world heard meant = own_heard _ world.controller.setup.activity world.device.station.named world.device.live.rest.real heard meant.planned

setup_still : (old : Controlling) (event : Event) → (step_of old event).controller.setup ≡ old.setup
unfolding step_of
setup_still old event = refl

-- ---- one move

module _ {F : Type 0} {S : ℕ} (as_flash : Flash F S) (others : List (List ℕ)) where
  -- The world after a move of the run alone is like the one after the same move of the run with callers.
  record GoesOn (beside after : World F) (does : World F → Type 0) : Type 0 where
    pub next : World F
    pub is : does next
    pub like : AreAlike others after next
    pub setup : next.controller.setup ≡ beside.controller.setup

  module _ (goes : GoesAlike as_flash) (before beside : World F) (like : AreAlike others before beside) (after : World F) where
    abbrev own : List ℕ
    own = beside.controller.setup.activity

    goes_at_device : (heard : Heard) → IsOwn own heard → AtDevice as_flash before heard after
        → GoesOn beside after (λ next. AtDevice as_flash beside heard next)
    goes_at_device heard is made =
        let hears = made.hears in
        let step = goes own others before.device after.device beside.device heard hears.frames hears.note like.device is hears.steps in
        record {
          next = record { device = step.next; controller = beside.controller; sent = beside.sent ++ hears.frames };
          is = record { hears = record { frames = hears.frames; note = hears.note; steps = step.steps; behind = refl }; controller = refl };
          like = record {
            controller = made.controller ∙ like.controller;
            device = step.like;
            sent = hears.behind ∙ ap (λ (sent : List (List ℕ)). sent ++ hears.frames) like.sent;
          };
          setup = refl;
        }

    goes_at_controller : (event : Event) → after ≡ at_controller before event → GoesOn beside after (λ next. next ≡ at_controller beside event)
    goes_at_controller event is = record {
      next = at_controller beside event;
      is = refl;
      like = subst (λ (w : World F). AreAlike others w (at_controller beside event)) (sym is) (record {
        controller = ap (λ (c : Controlling). (step_of c event).controller) like.controller;
        device = subst (λ (s : Setup). IsLike s.activity others before.device beside.device) (sym (setup_still beside.controller event)) like.device;
        sent = ap (λ (c : Controlling). before.sent ++ (step_of c event).frames) like.controller
            ∙ ap (λ (sent : List (List ℕ)). sent ++ (step_of beside.controller event).frames) like.sent;
      });
      setup = setup_still beside.controller event;
    }

    still : after ≡ before → GoesOn beside after (λ next. next ≡ beside)
    still is = record { next = beside; is = refl; like = subst (λ (w : World F). AreAlike others w beside) (sym is) like; setup = refl }

    -- ---- a frame that is delivered

    same_station : before.device.station ≡ beside.device.station
    same_station = sym (ap (λ (d : State F). d.station) like.device.is)

    same_skipped_by_device : (octets : List ℕ)
        → is_skipped before.device before.controller Device octets ≡ is_skipped beside.device beside.controller Device octets
    same_skipped_by_device octets =
        ap (λ (c : Controlling). is_skipped before.device c Device octets) like.controller
        ∙ sym (ap (λ (d : State F). is_skipped d beside.controller Device octets) like.device.is)

    same_skipped_by_controller : (octets : List ℕ)
        → is_skipped before.device before.controller Controller octets ≡ is_skipped beside.device beside.controller Controller octets
    same_skipped_by_controller octets = ap (λ (c : Controlling). is_skipped before.device c Controller octets) like.controller

    comes_to_device : (octets : List ℕ) (skipped : Bool) → IsOwn own (heard_in beside.device.station.identity octets)
        → Comes as_flash skipped before Device octets after → GoesOn beside after (λ next. Comes as_flash skipped beside Device octets next)
    comes_to_device octets true is comes = still comes
    comes_to_device octets false is comes =
        goes_at_device (heard_in beside.device.station.identity octets) is
        (subst (λ (s : Station). AtDevice as_flash before (heard_in s.identity octets) after) same_station comes)

    comes_to_controller : (octets : List ℕ) (skipped : Bool) → Comes as_flash skipped before Controller octets after
        → GoesOn beside after (λ next. Comes as_flash skipped beside Controller octets next)
    comes_to_controller octets true comes = still comes
    comes_to_controller octets false comes = goes_at_controller (controller.Frame (record { items = octets })) comes

    to_device : (frame : Option (List ℕ)) → ((octets : List ℕ) → frame ≡ Some octets → IsOwn own (heard_in beside.device.station.identity octets))
        → Delivers as_flash frame before Device after → GoesOn beside after (λ next. Delivers as_flash frame beside Device next)
    to_device None is delivered = still delivered
    to_device (Some octets) is delivered =
        comes_to_device octets (is_skipped beside.device beside.controller Device octets) (is octets refl)
        (subst (λ (b : Bool). Comes as_flash b before Device octets after) (same_skipped_by_device octets) delivered)

    to_controller : (frame : Option (List ℕ)) → Delivers as_flash frame before Controller after
        → GoesOn beside after (λ next. Delivers as_flash frame beside Controller next)
    to_controller None delivered = still delivered
    to_controller (Some octets) delivered =
        comes_to_controller octets (is_skipped beside.device beside.controller Controller octets)
        (subst (λ (b : Bool). Comes as_flash b before Controller octets after) (same_skipped_by_controller octets) delivered)

    -- ---- any move

    goes_on : (one : Move) → IsMeant beside one → Happens as_flash before one after → GoesOn beside after (λ next. Happens as_flash beside one next)
    goes_on (move.Deliver Device number) meant happens =
        to_device (slice_get beside.sent number) (λ octets there. own_meant beside (heard_in beside.device.station.identity octets) (meant octets there))
        (subst (λ (sent : List (List ℕ)). Delivers as_flash (slice_get sent number) before Device after) like.sent happens)
    goes_on (move.Deliver Controller number) meant happens =
        to_controller (slice_get beside.sent number)
        (subst (λ (sent : List (List ℕ)). Delivers as_flash (slice_get sent number) before Controller after) like.sent happens)
    goes_on (move.Tick Device) meant happens = goes_at_device Ticks tt happens
    goes_on (move.Tick Controller) meant happens = goes_at_controller controller.Tick happens
    goes_on (move.Application local) meant happens = goes_at_device (Applied local) tt happens
    goes_on (move.Neighbour neighbour) meant happens = goes_at_device (Met (option_map peer_as neighbour)) tt happens
    goes_on (move.Give slot subslot value) meant happens = goes_at_controller (controller.Give slot subslot value) happens
    goes_on (move.OutputStatus slot subslot is_good) meant happens = goes_at_controller (controller.Status slot subslot is_good) happens
    goes_on (move.Read slot subslot index) meant happens = goes_at_controller (controller.Read slot subslot index) happens
    goes_on (move.Write slot subslot index octets) meant happens = goes_at_controller (controller.Write slot subslot index octets) happens
    goes_on move.Stop meant happens = goes_at_controller controller.Stop happens

  -- ---- a run

  made_more : (from : World F) (run : List (Move × World F)) (one : Move) (next : World F) → AreMade as_flash from run
      → Happens as_flash (last_world from run) one next → AreMade as_flash from (run ++ (one, next) ∷ [])
  made_more from [] one next made happens = (happens, tt)
  made_more from (first ∷ run) one next made happens = (made.0, made_more first.1 run one next made.1 happens)

  last_more : (from : World F) (run : List (Move × World F)) (one : Move × World F) → last_world from (run ++ one ∷ []) ≡ one.1
  last_more from [] one = refl
  last_more from (other ∷ run) one = last_more other.1 run one

  module _ (leaves : CallsLeave as_flash) (goes : GoesAlike as_flash) (first : World F)
      (meant : (run : List (Move × World F)) → AreMade as_flash first run → (one : Move) → IsMeant (last_world first run) one) where
    -- A run alone that leads to a world which is like the one that is reached with callers.
    record Reached (called beside : World F) : Type 0 where
      pub run : List (Move × World F)
      pub made : AreMade as_flash first run
      pub last : last_world first run ≡ beside
      pub like : AreAlike others called beside
      pub few : AreOthers beside.controller.setup.activity others

    one_more : (called beside : World F) (one : Occurrence) (after : World F) (run : List (Occurrence × World F)) → Reached called beside
        → Occurs as_flash others called one after → ((next : World F) → Reached after next → IsRunBeside as_flash others after next run)
        → IsRunBeside as_flash others called beside ((one, after) ∷ run)
    one_more called beside (Uncalled (Own one)) after run so happens rest =
        let next = goes_on goes called beside so.like after one (subst (λ (w : World F). IsMeant w one) so.last (meant so.run so.made one)) happens in
        let more = rest next.next (record {
          run = so.run ++ (one, next.next) ∷ [];
          made = made_more first so.run one next.next so.made (subst (λ (w : World F). Happens as_flash w one next.next) (sym so.last) next.is);
          last = last_more first so.run (one, next.next);
          like = next.like;
          few = subst (λ (s : Setup). AreOthers s.activity others) (sym next.setup) so.few;
        }) in
        record { alone = (one, next.next) ∷ more.alone; made = (next.is, more.made); begins = so.like; moves = (refl, next.like, more.moves); last = more.last }
    one_more called beside (Uncalled (Stranger end octets)) after run so happens rest =
        let more = rest beside (record {
          run = so.run;
          made = so.made;
          last = so.last;
          like = subst (λ (w : World F). AreAlike others w beside) (sym (leaves_worlds as_flash called after end octets happens.0 happens.1)) so.like;
          few = so.few;
        }) in
        record { alone = more.alone; made = more.made; begins = so.like; moves = more.moves; last = more.last }
    one_more called beside (Called octets) after run so happens rest =
        let taken = happens.1 in
        let left = leaves beside.controller.setup.activity others called.device after.device octets taken.frames taken.note so.few happens.0 taken.steps in
        let more = rest beside (record {
          run = so.run;
          made = so.made;
          last = so.last;
          like = record {
            controller = taken.controller ∙ so.like.controller;
            device = left.like happens.2 beside.device so.like.device;
            sent = taken.sent ∙ so.like.sent;
          };
          few = so.few;
        }) in
        record { alone = more.alone; made = more.made; begins = so.like; moves = more.moves; last = more.last }

    all_more : (called beside : World F) (run : List (Occurrence × World F)) → Reached called beside → AreMadeWithCallers as_flash others called run
        → IsRunBeside as_flash others called beside run
    all_more called beside [] so are = record { alone = []; made = tt; begins = so.like; moves = tt; last = so.like }
    all_more called beside (one ∷ run) so are =
        one_more called beside one.0 one.1 run so are.0 (λ next more. all_more one.1 next run more are.1)

  -- A device that stores no answer for an activity is like itself.
  none_kept : (kept : Option Answer) → kept ≡ None → IsSome kept → ⊥
  none_kept None none some = absurd cc
  none_kept (Some answer) none some = absurd cc

  none_asked : (question : Question) → None ≡ Some question → ⊥
  none_asked question is = cc

  like_first : (activity : List ℕ) (device : State F) → kept_of activity device.live.rest.calls ≡ None → question_in device.live.rest.asked ≡ None
      → IsLike activity others device device
  like_first activity device none unasked = record {
    is = refl;
    kept = refl;
    recent = λ some. absurd (none_kept (kept_of activity device.live.rest.calls) none some);
    asked = λ question is. absurd (none_asked question (sym unasked ∙ is));
  }

  pub runs_beside : CallsLeave as_flash → GoesAlike as_flash → (setup : Setup) (identity : Identity) (first : World F)
      → ((run : List (Move × World F)) → AreMade as_flash first run → (one : Move) → IsMeant (last_world first run) one)
      → AreOthers setup.activity others → Begins setup identity first → (run : List (Occurrence × World F)) → AreMadeWithCallers as_flash others first run
      → IsRunBeside as_flash others first first run
  runs_beside leaves goes setup identity first meant few begins run are =
      let own : first.controller.setup.activity ≡ setup.activity = ap (λ (s : Setup). s.activity) begins.of_setup in
      all_more leaves goes first meant first first run (record {
        run = [];
        made = tt;
        last = refl;
        like = record {
          controller = refl;
          device = like_first first.controller.setup.activity first.device (ap (λ (a : List ℕ). kept_of a first.device.live.rest.calls) own ∙ begins.uncalled)
              begins.unasked;
          sent = refl;
        };
        few = subst (λ (a : List ℕ). AreOthers a others) (sym own) few;
      }) are

-- ---- what a start-up sees

module _ {F : Type 0} (others : List (List ℕ)) where
  same_view : (called alone : World F) → AreAlike others called alone → view_of called ≡ view_of alone
  same_view called alone like =
      let own : List ℕ = alone.controller.setup.activity in
      let now : small.Controller = small_of alone.controller.setup.plan alone.controller.live in
      ap (λ (c : Controlling). record {
        device = device.small_of c.setup.activity called.device.live;
        controller = small_of c.setup.plan c.live;
        sent = called.sent;
      }) like.controller
      ∙ ap (λ (kept : Option Answer). record {
        device =
            record { kept = option_map kept_in kept; link = option_map link_of called.device.live.rest.link; asked = asked_in called.device.live.rest.asked };
        controller = now;
        sent = called.sent;
      }) (sym like.device.kept)
      ∙ ap (λ (link : Option RelationState). record {
        device =
            record {
              kept = option_map kept_in
                  (kept_of own alone.device.live.rest.calls);
              link = option_map link_of link;
              asked = asked_in called.device.live.rest.asked;
            };
        controller = now;
        sent = called.sent;
      }) (sym (ap (λ (d : State F). d.live.rest.link) like.device.is))
      ∙ ap (λ (asked : AskedState). record {
        device = record {
          kept = option_map kept_in (kept_of own alone.device.live.rest.calls);
          link = option_map link_of alone.device.live.rest.link;
          asked = asked_in asked;
        };
        controller = now;
        sent = called.sent;
      }) (sym (ap (λ (d : State F). d.live.rest.asked) like.device.is))
      ∙ ap (λ (sent : List (List ℕ)). record { device = device.small_of own alone.device.live; controller = now; sent = sent }) like.sent

  pub same_viewed : (run alone : List (Move × World F)) → AreBeside others run alone → viewed run ≡ viewed alone
  same_viewed [] [] beside = refl
  same_viewed [] (other ∷ alone) beside = absurd beside
  same_viewed (one ∷ run) [] beside = absurd beside
  same_viewed (one ∷ run) (other ∷ alone) beside =
      ap (λ (m : Move). (move_of m, view_of one.1) ∷ viewed run) beside.0
      ∙ ap (λ (w : small.World TakenRecord Request). (move_of other.0, w) ∷ viewed run) (same_view one.1 other.1 beside.1)
      ∙ ap (λ (vs : List (small.Move × small.World TakenRecord Request)). (move_of other.0, view_of other.1) ∷ vs) (same_viewed run alone beside.2)
