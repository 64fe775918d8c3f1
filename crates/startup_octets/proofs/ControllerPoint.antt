-- The point after a step of the controller.
use Rattle.std.proofs.Common.{◌≡◌, ◌⊎◌, inl, inr, ℕ, false, List, [], ◌∷◌, ◌++◌, map, flat_map, Option, if◌then◌else◌, sym, ap, subst, ◌∙◌}
use Rattle.std.specs.List.{AllByRecursion}
use Rattle.pn_values.specs.declared.mac.Mac.{Mac}
use Rattle.connects.specs.requests.Request.{Request as Asked}
use Rattle.records.specs.declared.writes.taken.TakenRecord.{TakenRecord}
use Rattle.relations.specs.RelationState.{RelationState}
use Rattle.device_core.specs.State.{Station}
use Rattle.controller_messages.specs.declared.request.Request.{Request}
use Rattle.controller_messages.specs.declared.request.Request.TheVariants as asks
use Rattle.controller_messages.specs.declared.setup.Setup.{Setup}
use Rattle.controller_messages.specs.Requests.{write_count}
use Rattle.controller_messages.specs.Heard.{heard_of}
use Rattle.controller_messages.specs.Sent.{Sent, Requests, Accesses, Parametrizes, Agrees, Cycles, Confirms, Replies, Ends, bytes_of}
use Rattle.controller_core.specs.declared.stored.event.Event.{Event}
use Rattle.controller_core.specs.stored.State.{Live}
use Rattle.controller_core.specs.Machine.{turn_of}
use Rattle.end_laws.specs.both.Small as small
use Rattle.end_laws.specs.both.Small.{Move}
use Rattle.end_laws.specs.both.Steps.{SaysToDevice}
use Rattle.end_laws.specs.controller.Small.{GoesOn, said_by, said_in, small_of}
use Rattle.end_laws.specs.hearing.Stations.{IsSetup}
use Rattle.end_laws.specs.sending.Addressed.{IsAimedAt}
use Rattle.both_ends.specs.startup.View.{IsSaidAs, rules_of, says_to_device}
use Rattle.both_ends.proofs.StartupGiven.{HeardSo}
use Rattle.octets_law.specs.Octets.{statuses}
use Rattle.startup_octets.specs.StartUp.{IsIn, Turn}
use Rattle.startup_octets.proofs.DeviceTurn.{early_same}
use Rattle.startup_octets.proofs.Exact.{written_of}
use Rattle.startup_octets.proofs.Lists.{parameterized_more, ready_more, sent_at, sent_behind}
use Rattle.startup_octets.proofs.PlugEnds.{IsNoPlugEnd, all_no_end}
use Rattle.startup_octets.proofs.Points.{IsAfter, IsBefore, IsPoint, SmallRules, SmallWorld, each_so, early_waits, named_more, silent_taken, traced_more}
use Rattle.startup_octets.proofs.SmallSteps.{IsNoAccess, calls_no_access, each_both, not_exchanging}
use Rattle.startup_octets.proofs.DevicePoint.{each_in}

module _ (setup : Setup) (station : Station) where
  abbrev rules : SmallRules
  rules = rules_of setup station

  -- ---- messages

  no_call : (heard : small.ToDevice) (sequence : ℕ) → heard ≡ small.Idle → heard ≡ small.Call sequence small.Accesses → ⊥
  no_call heard sequence idle call = let e = sym idle ∙ call in cc

  other_ask : (device : Mac) (request : Request) (sequence : ℕ) → said_by setup.plan (Requests device request) ≡ small.Call sequence small.Accesses → ⊥
  other_ask device asks.Identify sequence e = cc
  other_ask device asks.Address sequence e = cc
  other_ask device asks.Connect sequence e = cc
  other_ask device (asks.Write number) sequence e = cc
  other_ask device asks.PrmEnd sequence e = cc
  other_ask device (asks.WriteAfter number tries) sequence e = cc
  other_ask device (asks.PrmEndAfter tries) sequence e = cc
  other_ask device (asks.Release other) sequence e = cc

  says_no_access : (now : small.Controller) → (now ≡ small.Exchanges → ⊥) → (message : Sent) → SaysToDevice (write_count setup.plan) now (said_by setup.plan message) → (sequence : ℕ)
      → says_to_device setup message ≡ small.Call sequence small.Accesses → ⊥
  says_no_access now not (Requests device request) says sequence e = other_ask device request sequence e
  says_no_access now not (Accesses device request octets) says sequence e = calls_no_access rules now not request.sequence says
  says_no_access now not (Parametrizes device request) says sequence e = calls_no_access rules now not request.sequence says
  says_no_access now not (Agrees caller answer) says sequence e = cc
  says_no_access now not (Cycles route shown counter) says sequence e = cc
  says_no_access now not (Confirms route priority header ack) says sequence e = cc
  says_no_access now not (Replies route priority header) says sequence e = cc
  says_no_access now not (Ends route header reason) says sequence e = cc

  message_no_access : (now : small.Controller) → (now ≡ small.Exchanges → ⊥) → (message : Sent) → IsSaidAs setup station message
      → SaysToDevice (write_count setup.plan) now (said_by setup.plan message) → IsNoAccess rules (bytes_of setup message)
  message_no_access now not message said says sequence is = by_said said.1
    where
      by_said : (rules.to_device (bytes_of setup message) ≡ says_to_device setup message) ⊎ (rules.to_device (bytes_of setup message) ≡ small.Idle) → ⊥
      by_said (inl same) = says_no_access now not message says sequence (sym same ∙ is)
      by_said (inr idle) = no_call (rules.to_device (bytes_of setup message)) sequence idle is

  all_no_access : (now : small.Controller) → (now ≡ small.Exchanges → ⊥) → (messages : List Sent) → AllByRecursion (IsSaidAs setup station) messages
      → AllByRecursion (λ message. SaysToDevice (write_count setup.plan) now (said_by setup.plan message)) messages → AllByRecursion (IsNoAccess rules) (map (bytes_of setup) messages)
  all_no_access now not [] said says = tt
  all_no_access now not (message ∷ messages) said says = (message_no_access now not message said.0 says.0, all_no_access now not messages said.1 says.1)

  all_nothing : (messages : List Sent) → AllByRecursion (IsSaidAs setup station) messages → AllByRecursion (λ frame. rules.to_controller frame ≡ small.Nothing) (map (bytes_of setup) messages)
  all_nothing [] said = tt
  all_nothing (message ∷ messages) said = (said.0.0, all_nothing messages said.1)

  -- ---- the point

  module _ (mac : Mac) (run : List (Move × SmallWorld)) (turns : List Turn) (device : small.Device TakenRecord Asked) (link : Option RelationState) (before_sent : List (List ℕ)) (live : Live) (event : Event)
      (move : Move) (turn : Turn) (at : turn.at_device ≡ false) (frames : turn.sent ≡ map (bytes_of setup) (turn_of setup live event).sent) where
    abbrev relation : List ℕ
    relation = setup.ar

    -- The device hears no PrmEnd after a plug in a frame.
    abbrev unended : List ℕ → Type 0
    unended = IsNoPlugEnd setup station.identity

    abbrev point : SmallWorld
    point = record { device = device; controller = small_of setup.plan live; sent = before_sent }

    abbrev next : SmallWorld
    next = record { device = device; controller = small_of setup.plan (turn_of setup live event).live; sent = before_sent ++ turn.sent }

    module _ (it : IsPoint rules unended mac relation setup.activity run turns point link) (said : AllByRecursion (IsSaidAs setup station) (turn_of setup live event).sent)
        (so : HeardSo) (good : IsSetup setup) (aimed : AllByRecursion (IsAimedAt station.identity.mac) (turn_of setup live event).sent)
        (on : GoesOn setup.plan (said_in setup (heard_of setup.plan.controller) event) live (turn_of setup live event))
        (unready : AllByRecursion (λ frame. rules.to_controller frame ≡ small.Readies → ⊥) before_sent → said_in setup (heard_of setup.plan.controller) event ≡ small.Readies → ⊥) where
      nothing_sent : AllByRecursion (λ frame. rules.to_controller frame ≡ small.Nothing) turn.sent
      nothing_sent = subst (AllByRecursion (λ frame. rules.to_controller frame ≡ small.Nothing)) (sym frames) (all_nothing (turn_of setup live event).sent said)

      no_ready : (frame : List ℕ) → rules.to_controller frame ≡ small.Nothing → rules.to_controller frame ≡ small.Readies → ⊥
      no_ready frame nothing ready = let e = sym nothing ∙ ready in cc

      in_nothing : (frames : List (List ℕ)) (frame : List ℕ) → AllByRecursion (λ frame. rules.to_controller frame ≡ small.Nothing) frames → IsIn frame frames → rules.to_controller frame ≡ small.Nothing
      in_nothing [] frame all there = absurd there
      in_nothing (one ∷ frames) frame all (inl is) = ap (λ f. rules.to_controller f) is ∙ all.0
      in_nothing (one ∷ frames) frame all (inr there) = in_nothing frames frame all.1 there

      silent : (asked : List ℕ) → flat_map (statuses asked) (if turn.at_device then turn.sent else []) ≡ []
      silent asked = ap (λ b. flat_map (statuses asked) (if b then turn.sent else [])) at

      abbrev NextHistory : Type 0
      NextHistory = IsBefore rules unended mac relation setup.activity (run ++ (move, next) ∷ []) (turns ++ turn ∷ []) next link ⊎ IsAfter rules unended mac relation setup.activity (turns ++ turn ∷ []) next

      still_before : IsBefore rules unended mac relation setup.activity run turns point link → NextHistory
      still_before before =
          let idle : next.controller ≡ small.Exchanges → ⊥ =
          not_exchanging rules rules.grants setup.plan.continue_on_refused_record (write_count setup.plan) _ point.controller next.controller on.moves before.idle (unready before.unready) in
          inl (record {
            unready = each_both _ before_sent turn.sent before.unready (each_so _ _ turn.sent no_ready nothing_sent);
            idle = idle;
            unawaited = each_both _ run ((move, next) ∷ []) before.unawaited (early_waits rules unended mac relation setup.activity turns device link before.early it.seen, tt);
            no_access = each_both _ before_sent turn.sent before.no_access
                (subst (AllByRecursion (IsNoAccess rules)) (sym frames) (all_no_access next.controller idle (turn_of setup live event).sent said on.says));
            unended = each_both _ before_sent turn.sent before.unended
                (subst (AllByRecursion unended) (sym frames) (all_no_end so setup station good next.controller idle (turn_of setup live event).sent aimed said on.says));
            unasked = before.unasked;
            early = early_same mac relation turns turn link before.early (silent_taken rules unended mac relation setup.activity turns turn silent);
          })

      still_after : IsAfter rules unended mac relation setup.activity turns point → NextHistory
      still_after after = inr (record {
        taken = after.taken;
        since = parameterized_more mac relation turns turn (map written_of after.taken) after.since;
        whole = after.whole;
        ready = each_both _ before_sent turn.sent
            (each_so _ _ before_sent (λ frame so ready. ready_more mac relation turns turn (map written_of after.taken) after.since frame (so ready)) after.ready)
            (each_so _ _ turn.sent (λ frame nothing ready. absurd (no_ready frame nothing ready)) nothing_sent);
      })

      by_history : IsBefore rules unended mac relation setup.activity run turns point link ⊎ IsAfter rules unended mac relation setup.activity turns point → NextHistory
      by_history (inl before) = still_before before
      by_history (inr after) = still_after after

      pub controller_point : IsPoint rules unended mac relation setup.activity (run ++ (move, next) ∷ []) (turns ++ turn ∷ []) next link
      controller_point = record {
        seen = it.seen;
        traced = each_both _ before_sent turn.sent (each_so _ _ before_sent (traced_more rules unended mac relation setup.activity turns turn) it.traced)
            (each_in _ turn.sent (λ frame there. inr (in_nothing turn.sent frame nothing_sent there, sent_behind false frame turns (turn ∷ []) (sent_at false frame turn at there))));
        fine = it.fine;
        named = λ answer is. named_more rules unended mac relation setup.activity turns turn _ (it.named answer is);
        asked = λ sequence is. named_more rules unended mac relation setup.activity turns turn _ (it.asked sequence is);
        history = by_history it.history;
      }
