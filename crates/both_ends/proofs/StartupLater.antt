-- What a run leaves at the device for the next controller: its fixed properties, and of other activities no response that it did
-- not have before.
use Rattle.std.proofs.Common.{◌≡◌, inl, inr, ℕ, List, [], ◌∷◌, Option, Some, None, refl, sym, ap, subst, ◌∙◌}
use Rattle.std.proofs.lemmas.Bool.{false≢true}
use Rattle.std.specs.Prelude.{slice_get}
use Rattle.std.specs.Cmp.Lexicographic.{same_text}
use Rattle.lldp.specs.Views.{peer_as}
use Rattle.std.specs.Option.{option_map}
use Rattle.flash_model.specs.declared.flash.Flash.{Ghosts as Flash}
use Rattle.rpc_core.specs.Cache.{Kept as Answer, kept_more, kept_of}
use Rattle.frame_codec.specs.declared.udp.Caller.{Caller}
use Rattle.rpc_core.specs.Call.{Asked as Call}
use Rattle.device_frames.specs.Heard.{Heard, Ticks, Applied, Met, Reported, Calls}
use Rattle.device_frames.specs.Sent.{Sent}
use Rattle.device_core.specs.State.{Live, Rest, Station}
use Rattle.device_core.specs.Machine.{heard_step}
use Rattle.controller_messages.specs.declared.setup.Setup.{Setup}
use Rattle.controller_core.specs.declared.stored.event.Event.{Event}
use Rattle.controller_core.specs.stored.State.{Controlling}
use Rattle.network_world.specs.declared.moves.End.TheVariants.{Device, Controller}
use Rattle.network_world.specs.declared.moves.Move.{Move}
use Rattle.network_world.specs.declared.moves.Move.TheVariants as move
use Rattle.network_world.specs.World.{AreMade, at_controller, AtDevice, Happens, last_world, World}
use Rattle.end_laws.specs.device.Does.{Does}
use Rattle.end_laws.specs.device.Owed.{IsAskedOf}
use Rattle.end_laws.specs.device.Small.{IsAskedOwn, IsPlanned, IsPlannedCall}
use Rattle.both_ends.specs.startup.Played.{AreMeant}
use Rattle.both_ends.specs.startup.View.{IsMeant, IsMeantAtDevice, rules_of}
use Rattle.both_ends.proofs.ExchangeOutputsShows.{AreKept, kept_at, more_kept, none_kept}
use Rattle.both_ends.proofs.ExchangeOutputsWorlds.{TurnsSo}
use Rattle.both_ends.proofs.StartupAsked.{OwnsSo}
use Rattle.both_ends.proofs.StartupRuns.{controller_is, delivered}

-- ---- the responses of another activity

module _ (activity : List ℕ) where
  -- no response of it is stored
  abbrev IsUncalled : List Answer → Type 0
  IsUncalled calls = kept_of activity calls ≡ None

  abbrev Nowhere : List ℕ → Type 0
  Nowhere frame = ⊥

  kept_none : (calls : List Answer) → AreKept Nowhere activity calls → IsUncalled calls
  kept_none calls all = by_kept (kept_of activity calls) refl
    where
      by_kept : (found : Option Answer) → kept_of activity calls ≡ found → found ≡ None
      by_kept None is = refl
      by_kept (Some kept) is = absurd (kept_at Nowhere activity calls all kept is)

  more_none : (kept : Answer) (calls : List Answer) → (kept.activity ≡ activity → ⊥) → IsUncalled calls → IsUncalled (kept_more 4 kept calls)
  more_none kept calls other none =
      kept_none (kept_more 4 kept calls)
      (more_kept Nowhere activity kept calls (λ own. other (same_text kept.activity activity (sym own))) (none_kept Nowhere activity calls none))

  -- ---- a step of the device

  module _ (setup : Setup) (station : Station) (live : Live) (heard : Heard) (other : setup.activity ≡ activity → ⊥)
      (planned : IsPlanned (rules_of setup station) setup.activity station.named live.rest.real heard) (own : IsAskedOwn setup.activity live.rest.asked) where
    -- a call that is heard has the activity of the controller
    call_own : (caller : Caller) (address : List ℕ) (call : Call) → heard ≡ Reported caller address (Calls call) → call.header.activity ≡ setup.activity
    call_own caller address call is =
        let plan : IsPlannedCall (rules_of setup station) setup.activity station.named live.rest.real call =
        subst (λ (h : Heard). IsPlanned (rules_of setup station) setup.activity station.named live.rest.real h) is planned in
        plan.own

    does_none : (after : Rest) (sent : List Sent) → Does station live heard after sent → IsUncalled live.rest.calls → IsUncalled after.calls
    does_none after sent (inl rests) none = ap (λ (r : Rest). kept_of activity r.calls) rests.same ∙ none
    does_none after sent (inr (inl goes)) none = ap (λ (c : List Answer). kept_of activity c) goes.calls ∙ none
    does_none after sent (inr (inr (inl confirms))) none = ap (λ (r : Rest). kept_of activity r.calls) confirms.becomes ∙ none
    does_none after sent (inr (inr (inr (inl repeats)))) none = ap (λ (r : Rest). kept_of activity r.calls) repeats.same ∙ none
    does_none after sent (inr (inr (inr (inr (inl serves))))) none =
        ap (λ (c : List Answer). kept_of activity c) serves.keeps
        ∙ more_none _ live.rest.calls (λ same. other (sym (call_own serves.caller serves.address serves.call serves.is) ∙ same)) none
    does_none after sent (inr (inr (inr (inr (inr (inl asks)))))) none = ap (λ (r : Rest). kept_of activity r.calls) asks.becomes ∙ none
    does_none after sent (inr (inr (inr (inr (inr (inr (inl declines))))))) none =
        let it = declines.new_call in
        ap (λ (r : Rest). kept_of activity r.calls) declines.becomes
        ∙ more_none _ live.rest.calls (λ same. other (sym (call_own it.caller it.address it.call it.is) ∙ same)) none
    does_none after sent (inr (inr (inr (inr (inr (inr (inr (inl replies)))))))) none =
        ap (λ (c : List Answer). kept_of activity c) replies.keeps
        ∙ more_none _ live.rest.calls (λ same. other (sym (own replies.question replies.asked).0 ∙ same)) none
    does_none after sent (inr (inr (inr (inr (inr (inr (inr (inr implicitly)))))))) none =
        absurd (false≢true (sym (own implicitly.question implicitly.asked).1 ∙ implicitly.implicit))

  -- ---- worlds

  module _ (turns : TurnsSo) (owns : OwnsSo) {F : Type 0} where
    -- what a move leaves
    pub record Leaves (before after : World F) : Type 0 where
      pub station : after.device.station ≡ before.device.station
      pub setup : after.controller.setup ≡ before.controller.setup
      pub uncalled : IsAskedOwn before.controller.setup.activity before.device.live.rest.asked → (before.controller.setup.activity ≡ activity → ⊥)
          → IsUncalled before.device.live.rest.calls → IsUncalled after.device.live.rest.calls
      pub own : IsAskedOwn before.controller.setup.activity before.device.live.rest.asked
          → IsAskedOwn after.controller.setup.activity after.device.live.rest.asked
      pub related : IsAskedOf before.device.live.rest.link before.device.live.rest.asked → IsAskedOf after.device.live.rest.link after.device.live.rest.asked

    same_leaves : (before after : World F) → after ≡ before → Leaves before after
    same_leaves before after same = subst (λ (w : World F). Leaves before w) (sym same) (record {
      station = refl;
      setup = refl;
      uncalled = λ own other none. none;
      own = λ was. was;
      related = λ was. was;
    })

    controller_leaves : (before after : World F) (event : Event) → after ≡ at_controller before event → Leaves before after
    controller_leaves before after event is = record {
      station = ap (λ (w : World F). w.device.station) is;
      setup = same_setup;
      uncalled = λ own other none. ap (λ (w : World F). kept_of activity w.device.live.rest.calls) is ∙ none;
      own = λ was. subst (λ (w : World F). IsAskedOwn after.controller.setup.activity w.device.live.rest.asked) (sym is)
          (subst (λ (s : Setup). IsAskedOwn s.activity before.device.live.rest.asked) (sym same_setup) was);
      related = λ was. subst (λ (w : World F). IsAskedOf w.device.live.rest.link w.device.live.rest.asked) (sym is) was;
    }
      where
        same_setup : after.controller.setup ≡ before.controller.setup
        same_setup = ap (λ (w : World F). w.controller.setup) is ∙ ap (λ (c : Controlling). c.setup) (controller_is before.controller event)

    module _ {S : ℕ} (as_flash : Flash F S) where
      device_leaves : (before after : World F) (heard : Heard) → IsMeantAtDevice before heard → AtDevice as_flash before heard after → Leaves before after
      device_leaves before after heard meant made =
          let setup = before.controller.setup in
          let station = before.device.station in
          let live = before.device.live in
          let outcomes = made.hears.steps.outcomes in
          let turn = turns (rules_of setup station) setup.activity outcomes station live heard meant.planned in
          record {
            station = made.hears.steps.same;
            setup = ap (λ (c : Controlling). c.setup) made.controller;
            uncalled = λ own other none. ap (λ (l : Live). kept_of activity l.rest.calls) made.hears.steps.live
                ∙ does_none setup station live heard other meant.planned own (heard_step outcomes station live heard).live.rest (heard_step outcomes station live heard).sent turn.does none;
            own = λ was. subst (λ (c : Controlling). IsAskedOwn c.setup.activity after.device.live.rest.asked) (sym made.controller)
                (subst (λ (l : Live). IsAskedOwn setup.activity l.rest.asked) (sym made.hears.steps.live)
                (owns (rules_of setup station) setup.activity outcomes station live heard meant.planned was));
            related = λ was. subst (λ (l : Live). IsAskedOf l.rest.link l.rest.asked) (sym made.hears.steps.live) (turn.related was);
          }

      leaves : (before after : World F) (one : Move) → IsMeant before one → Happens as_flash before one after → Leaves before after
      leaves before after (move.Deliver Device number) meant happens =
          delivered as_flash before after Device (Leaves before after) (slice_get before.sent number) happens (same_leaves before after) (λ frame there comes. device_leaves before after _ (meant frame there) comes)
      leaves before after (move.Deliver Controller number) meant happens =
          delivered as_flash before after Controller (Leaves before after) (slice_get before.sent number) happens (same_leaves before after) (λ frame there comes. controller_leaves before after _ comes)
      leaves before after (move.Tick Device) meant happens = device_leaves before after Ticks meant happens
      leaves before after (move.Application local) meant happens = device_leaves before after (Applied local) meant happens
      leaves before after (move.Neighbour neighbour) meant happens = device_leaves before after (Met (option_map peer_as neighbour)) meant happens
      leaves before after other meant happens = controller_leaves before after _ happens

      pub run_leaves : (before : World F) (run : List (Move × World F)) → AreMade as_flash before run → AreMeant before run → Leaves before (last_world before run)
      run_leaves before [] made meant = same_leaves before before refl
      run_leaves before (one ∷ run) made meant =
          let first = leaves before one.1 one.0 meant.0 made.0 in
          let rest = run_leaves one.1 run made.1 meant.1 in
          record {
            station = rest.station ∙ first.station;
            setup = rest.setup ∙ first.setup;
            uncalled = λ own other none.
                rest.uncalled (first.own own) (λ same. other (ap (λ (s : Setup). s.activity) (sym first.setup) ∙ same)) (first.uncalled own other none);
            own = λ was. rest.own (first.own was);
            related = λ was. rest.related (first.related was);
          }
