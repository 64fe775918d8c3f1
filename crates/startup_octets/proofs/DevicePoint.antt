-- The point after a step of the device.
use Rattle.std.proofs.Common.{◌≡◌, ◌⊎◌, inl, inr, ℕ, Bool, true, false, nat_eq, List, [], ◌∷◌, ◌++◌, length, drop, map, Option, Some, None, option_map, if◌then◌else◌, refl, sym, ap, subst, ◌∙◌}
use Rattle.std.specs.Prelude.{◌||◌}
use Rattle.std.specs.Cmp.Lexicographic.{pointwise}
use Rattle.std.specs.List.{AllByRecursion, list_any}
use Rattle.pn_values.specs.declared.mac.Mac.{Mac}
use Rattle.frame_codec.specs.declared.udp.Caller.{Caller}
use Rattle.rpc_core.specs.Cache.{Kept, kept_of}
use Rattle.rpc_core.specs.Call.{Asked as Called}
use Rattle.device_frames.specs.Heard.{Calls, Heard, Reported}
use Rattle.device_frames.specs.Sendable.{AreSendable}
use Rattle.device_frames.specs.Sent.{Sent, bytes_of}
use Rattle.asked_records.specs.Asked.{AskedState, question_in}
use Rattle.asked_records.specs.declared.question.Question.{Question}
use Rattle.device_core.specs.State.{Live, Rest, Station}
use Rattle.controller_messages.specs.declared.setup.Setup.{Setup}
use Rattle.controller_messages.specs.Heard.{heard_of as controller_hears}
use Rattle.end_laws.specs.both.Small as small
use Rattle.end_laws.specs.both.Small.{Move}
use Rattle.end_laws.specs.both.StartUp.{Begins, IsRun}
use Rattle.end_laws.specs.both.Steps.{DeviceSteps}
use Rattle.end_laws.specs.controller.Small.{said_to}
use Rattle.end_laws.specs.device.Does.{Does}
use Rattle.end_laws.specs.device.Orderly.{IsOrderlyIn}
use Rattle.end_laws.specs.device.Small.{IsPlanned, asked_in, heard_as, kept_in, link_of}
use Rattle.end_laws.specs.device.Small as device
use Rattle.both_ends.specs.startup.View.{is_planned, rules_of}
use Rattle.both_ends.proofs.StartupHeard.{IsKnownHeard, known_activity}
use Rattle.frame_codec.specs.Sendable.{IsMac}
use Rattle.block_codec.specs.declared.block.Block.{Block}
use Rattle.block_codec.specs.Block.{block_bytes, block_size}
use Rattle.octets_law.specs.Octets.{called as name_of}
use Rattle.octets_law.proofs.CallPlaces.{name_for}
use Rattle.startup_octets.specs.StartUp.{IsIn, Turn, asking_at, is_of, names_at, names_in, sent_by}
use Rattle.startup_octets.proofs.CallsIn.{IsCallIn}
use Rattle.startup_octets.proofs.DeviceTurn.{IsEarly, IsEnding, device_turn, same_octets}
use Rattle.startup_octets.proofs.Exact.{written_of}
use Rattle.startup_octets.proofs.Hands.{IsHandedBy, taken_whole}
use Rattle.startup_octets.proofs.Lists.{named_at, names_more, parameterized_more, parameterized_now, ready_first, ready_more, ready_now}
use Rattle.startup_octets.proofs.PlugEnds.{IsNoPlugEnd, IsPlugEnd, idle_no_end}
use Rattle.startup_octets.proofs.Points.{IsAfter, IsBefore, IsPoint, IsTraced, SmallRules, SmallWorld, any_behind, call_heard, each_so, early_waits, named_more, traced_more}
use Rattle.startup_octets.proofs.SmallSteps.{Awaits, IsHeardCall, IsKeptFine, IsNoAccess, IsOfDevice, IsStored, asked_of, device_frames, each_both, still_unasked, stored_of}
use Rattle.startup_octets.proofs.Taking.{AreNotDone}
use Rattle.startup_octets.proofs.Writes.{AreBlocksRead, IsFit}

-- Frames among those that are sent.
pub each_in : (P : List ℕ → Type 0) (frames : List (List ℕ)) → ((frame : List ℕ) → IsIn frame frames → P frame) → AllByRecursion P frames
each_in P [] so = tt
each_in P (frame ∷ frames) so = (so frame (inl refl), each_in P frames (λ one there. so one (inr there)))

in_each : (P : List ℕ → Type 0) (frames : List (List ℕ)) (frame : List ℕ) → AllByRecursion P frames → IsIn frame frames → P frame
in_each P [] frame all there = absurd there
in_each P (one ∷ frames) frame all (inl is) = subst P (sym is) all.0
in_each P (one ∷ frames) frame all (inr there) = in_each P frames frame all.1 there

-- Nothing is asked, if no number of a call is.
none_asked : (state : AskedState) → asked_in state ≡ None → question_in state ≡ None
none_asked state e = by_question (question_in state) e
  where
    by_question : (found : Option Question) → option_map (λ (question : Question). question.header.sequence) found ≡ None → found ≡ None
    by_question None is = refl
    by_question (Some question) is = absurd cc

module _ (undone : AreNotDone) (blocks_read : AreBlocksRead) (long : (block : Block) → length (block_bytes block) ≡ block_size block) (setup : Setup) (station : Station) (fit : IsFit setup)
    (own : IsMac station.identity.mac) (strict : setup.plan.continue_on_refused_record ≡ false) (handed : IsHandedBy (rules_of setup station)) where
  abbrev rules : SmallRules
  rules = rules_of setup station

  abbrev mac : Mac
  mac = station.identity.mac

  abbrev relation : List ℕ
  relation = setup.ar

  -- The device hears no PrmEnd after a plug in a frame.
  abbrev unended : List ℕ → Type 0
  unended = IsNoPlugEnd setup station.identity

  -- A point before a step of the device, and the step.
  module _ (first : SmallWorld) (begins : Begins rules first) (run : List (Move × SmallWorld)) (turns : List Turn) (controller : small.Controller) (before_sent : List (List ℕ)) (live : Live)
      (heard : Heard) (rest : Rest) (later : Live) (rest_is : later.rest ≡ rest) (sent : List Sent) (move : Move) (turn : Turn) (at : turn.at_device ≡ true)
      (frames : turn.sent ≡ map (bytes_of station.identity) sent) (sendable : AreSendable station.identity sent) where
    abbrev point : SmallWorld
    point = record { device = device.small_of setup.activity live; controller = controller; sent = before_sent }

    abbrev next : SmallWorld
    next = record { device = device.small_of setup.activity later; controller = controller; sent = before_sent ++ turn.sent }

    module _ (it : IsPoint rules unended mac relation setup.activity run turns point live.rest.link) (known : IsKnownHeard setup heard) (orderly : IsOrderlyIn live.rest.link)
        (planned : IsPlanned rules setup.activity station.named live.rest.real heard)
        (does : Does station live heard rest sent)
        (steps : DeviceSteps rules (heard_as (is_planned setup) heard) (device.small_of setup.activity live) (device.small_of setup.activity later) turn.sent)
        (flat : (caller : Caller) (address : List ℕ) (call : Called) → heard ≡ Reported caller address (Calls call) → IsCallIn mac turn.came call)
        (came : (sequence : ℕ) (ask : small.Ask) → heard_as (is_planned setup) heard ≡ small.Call sequence ask → IsIn turn.came (sent_by false turns))
        (access : AllByRecursion (IsNoAccess rules) before_sent → (sequence : ℕ) → heard_as (is_planned setup) heard ≡ small.Call sequence small.Accesses → ⊥)
        (ending : AllByRecursion unended before_sent → (caller : Caller) (address : List ℕ) (call : Called) → heard ≡ Reported caller address (Calls call) → IsPlugEnd setup call → ⊥)
        (readies : AllByRecursion (λ frame. said_to setup (controller_hears setup.plan.controller frame) ≡ small.Readies → is_of 4 0x0112 setup.ar (drop 42 frame) ≡ true) turn.sent)
        (runs : IsRun rules first (run ++ (move, next) ∷ [])) where
      sent_fine : AllByRecursion (IsOfDevice rules next.device) turn.sent × IsKeptFine rules next.device.kept
      sent_fine = device_frames rules (heard_as (is_planned setup) heard) point.device next.device turn.sent steps it.fine

      some_kept : (kept : Kept) → kept_of setup.activity live.rest.calls ≡ Some kept → list_any (pointwise nat_eq (name_for setup.activity kept.sequence)) (names_at mac turns) ≡ true
      some_kept kept is = it.named (kept_in kept) (ap (option_map kept_in) is)

      abbrev IsNamed : ℕ → Type 0
      IsNamed sequence = list_any (pointwise nat_eq (name_for setup.activity sequence)) (names_at mac (turns ++ turn ∷ [])) ≡ true

      -- The call that was heard is named from then on.
      heard_named : (sequence : ℕ) → IsHeardCall rules (heard_as (is_planned setup) heard) sequence → IsNamed sequence
      heard_named sequence it =
          let name_is = pointwise nat_eq (name_for setup.activity sequence) in
          let called = call_heard (is_planned setup) heard sequence it.ask it.heard_as in
          let call = flat called.caller called.address called.call called.is in
          let activity : called.call.header.activity ≡ setup.activity = known_activity setup called.caller called.call (subst (λ (h : Heard). IsKnownHeard setup h) called.is known) in
          let name : name_of call.octets ≡ name_for setup.activity sequence =
          call.read.name ∙ ap (λ a. name_for a called.call.header.sequence) activity ∙ ap (name_for setup.activity) called.numbered in
          ap (list_any name_is) (names_more mac turns turn)
          ∙ any_behind name_is (names_at mac turns) (named_at mac turn)
          (ap (λ (b : Bool). list_any name_is (if b then names_in (asking_at mac turn) else [])) at
          ∙ ap (λ a. list_any name_is (names_in a)) call.asks
          ∙ ap (λ b. b || false) (ap name_is name ∙ same_octets (name_for setup.activity sequence)))

      named_next : (answer : small.Kept) → next.device.kept ≡ Some answer → IsNamed answer.sequence
      named_next answer is = by_stored (stored_of rules (heard_as (is_planned setup) heard) point.device next.device turn.sent steps answer is)
        where
          by_stored : IsStored rules (heard_as (is_planned setup) heard) point.device answer → IsNamed answer.sequence
          by_stored (inl was) = named_more rules unended mac relation setup.activity turns turn _ (it.named answer was)
          by_stored (inr (inl called)) = heard_named answer.sequence called
          by_stored (inr (inr asked)) = named_more rules unended mac relation setup.activity turns turn _ (it.asked answer.sequence asked)

      -- The call that is asked of the application is named from then on, too.
      asked_next : (sequence : ℕ) → next.device.asked ≡ Some sequence → IsNamed sequence
      asked_next sequence is = by_asked (asked_of rules (heard_as (is_planned setup) heard) point.device next.device turn.sent steps sequence is)
        where
          by_asked : (point.device.asked ≡ Some sequence) ⊎ (heard_as (is_planned setup) heard ≡ small.Call sequence small.Accesses) → IsNamed sequence
          by_asked (inl was) = named_more rules unended mac relation setup.activity turns turn _ (it.asked sequence was)
          by_asked (inr called) = heard_named sequence (record { ask = small.Accesses; heard_as = called })

      traced_next : AllByRecursion (IsTraced rules unended mac relation setup.activity (turns ++ turn ∷ [])) next.sent
      traced_next = each_both _ before_sent turn.sent (each_so _ _ before_sent (traced_more rules unended mac relation setup.activity turns turn) it.traced)
          (each_so _ _ turn.sent (λ frame of. inl of.idle) sent_fine.0)

      abbrev NextHistory : Type 0
      NextHistory = IsBefore rules unended mac relation setup.activity (run ++ (move, next) ∷ []) (turns ++ turn ∷ []) next later.rest.link
          ⊎ IsAfter rules unended mac relation setup.activity (turns ++ turn ∷ []) next

      -- It goes on writing parameters, or has no relation.
      still_before : IsBefore rules unended mac relation setup.activity run turns point live.rest.link → IsEarly mac relation (turns ++ turn ∷ []) later.rest.link → NextHistory
      still_before before early =
          let no_wait = early_waits rules unended mac relation setup.activity (turns ++ turn ∷ []) next.device later.rest.link early refl in
          inl (record {
            unready = each_both _ before_sent turn.sent before.unready (each_so _ _ turn.sent (λ frame of ready. no_wait (of.ready ready)) sent_fine.0);
            idle = before.idle;
            unawaited = each_both _ run ((move, next) ∷ []) before.unawaited (no_wait, tt);
            no_access = each_both _ before_sent turn.sent before.no_access
                (each_so _ _ turn.sent (λ frame of sequence is. let e = sym of.idle ∙ is in absurd cc) sent_fine.0);
            unended = each_both _ before_sent turn.sent before.unended
                (each_so _ _ turn.sent (λ frame of. idle_no_end setup station.identity (is_planned setup) frame of.idle) sent_fine.0);
            unasked = still_unasked rules (heard_as (is_planned setup) heard) point.device next.device turn.sent steps (access before.no_access) before.unasked;
            early = early;
          })

      -- The parameters end.
      ends_now : IsBefore rules unended mac relation setup.activity run turns point live.rest.link → IsEnding mac relation turns turn later.rest.link → NextHistory
      ends_now before ending =
          let waits : Awaits rules next.device = record { link = link_of ending.link; has = ap (option_map link_of) ending.is; awaits = ending.waits } in
          inr (record {
            taken = ending.link.taken;
            since = parameterized_now mac relation turns turn (map written_of ending.link.taken) ending.begun ending.grants;
            whole = λ frame idle ready. taken_whole rules handed first begins run move next before.unawaited runs waits frame idle ready strict;
            ready = each_both _ before_sent turn.sent (each_so _ _ before_sent (λ frame un ready. absurd (un ready)) before.unready)
                (each_in _ turn.sent (λ frame there ready.
                ready_first mac relation turns turn (map written_of ending.link.taken) ending.begun ending.grants frame at there (in_each _ turn.sent frame readies there ready)));
          })

      still_after : IsAfter rules unended mac relation setup.activity turns point → NextHistory
      still_after after = inr (record {
        taken = after.taken;
        since = parameterized_more mac relation turns turn (map written_of after.taken) after.since;
        whole = after.whole;
        ready = each_both _ before_sent turn.sent
            (each_so _ _ before_sent (λ frame so ready. ready_more mac relation turns turn (map written_of after.taken) after.since frame (so ready)) after.ready)
            (each_in _ turn.sent (λ frame there ready. ready_now mac relation turns turn (map written_of after.taken) after.since frame at there (in_each _ turn.sent frame readies there ready)));
      })

      by_history : IsBefore rules unended mac relation setup.activity run turns point live.rest.link ⊎ IsAfter rules unended mac relation setup.activity turns point → NextHistory
      by_history (inr after) = still_after after
      by_history (inl before) =
          by_turn (device_turn undone blocks_read long setup station fit own live heard rest sent turns turn at frames sendable before.early orderly known planned flat came
          (access before.no_access) (ending before.unended) (none_asked live.rest.asked before.unasked) some_kept does)
        where
          by_turn : IsEarly mac relation (turns ++ turn ∷ []) rest.link ⊎ IsEnding mac relation turns turn rest.link → NextHistory
          by_turn (inl early) = still_before before (subst (λ (r : Rest). IsEarly mac relation (turns ++ turn ∷ []) r.link) (sym rest_is) early)
          by_turn (inr ending) = ends_now before (subst (λ (r : Rest). IsEnding mac relation turns turn r.link) (sym rest_is) ending)

      pub device_point : IsPoint rules unended mac relation setup.activity (run ++ (move, next) ∷ []) (turns ++ turn ∷ []) next later.rest.link
      device_point = record { seen = refl; traced = traced_next; fine = sent_fine.1; named = named_next; asked = asked_next; history = by_history it.history }
