-- What is stated of a run alone holds of the moves in a run with callers beside it.
use Rattle.std.proofs.Common.{◌≡◌, ℕ, List, [], ◌∷◌, ◌++◌, Option, Some, None, option_map, refl, sym, ap, subst, ◌∙◌}
use Rattle.std.specs.Prelude.{slice_get}
use Rattle.pn_values.specs.declared.identity.Identity.{Identity}
use Rattle.record_blocks.specs.declared.alarm_notification.AlarmNotification.{AlarmNotification}
use Rattle.diagnosis.specs.declared.reports.priority.Priority.{Priority}
use Rattle.relations.specs.RelationState.{RelationState}
use Rattle.device_frames.specs.declared.local.Local.TheVariants as local
use Rattle.device_core.specs.State.{State}
use Rattle.controller_messages.specs.declared.setup.Setup.{Setup}
use Rattle.controller_core.specs.stored.State.{Controlling}
use Rattle.network_world.specs.declared.moves.End.TheVariants.{Device, Controller}
use Rattle.network_world.specs.declared.moves.Move.{Move}
use Rattle.network_world.specs.declared.moves.Move.TheVariants as move
use Rattle.network_world.specs.World.{World, end_at, is_skipped, last_world}
use Rattle.expected_places.specs.Machine.{is_touched_at}
use Rattle.relations.specs.Exchanged.{raised_to, shown_as}
use Rattle.both_ends.specs.exchange.Given.{AreOfOneFrame, given_for, image_given}
use Rattle.both_ends.specs.exchange.Over.{raised_in, raised_over, raised_with, reported_by, reported_over, reported_with}
use Rattle.both_ends.specs.exchange.Over.{taken_from, taken_in, taken_over, taken_with}
use Rattle.both_ends.specs.exchange.Shown.{outputs_of}
use Rattle.both_ends.specs.exchange.Told.{AreSizedMoves, IsSizedMove}
use Rattle.both_ends.specs.startup.Played.{moves_of}
use Rattle.strangers_law.specs.CallingRuns.{AreAlike, AreBeside}

module _ {F : Type 0} (others : List (List ℕ)) where
  -- ---- worlds that are alike

  pub same_link : (called alone : World F) → AreAlike others called alone → alone.device.live.rest.link ≡ called.device.live.rest.link
  same_link called alone like = ap (λ (d : State F). d.live.rest.link) like.device.is

  pub same_diagnoses : (called alone : World F) → AreAlike others called alone → alone.device.live.rest.diagnoses ≡ called.device.live.rest.diagnoses
  same_diagnoses called alone like = ap (λ (d : State F). d.live.rest.diagnoses) like.device.is

  last_alike : (called alone : World F) (run beside : List (Move × World F)) → AreAlike others called alone → AreBeside others run beside
      → AreAlike others (last_world called run) (last_world alone beside)
  last_alike called alone [] [] like are = like
  last_alike called alone [] (other ∷ beside) like are = absurd are
  last_alike called alone (one ∷ run) [] like are = absurd are
  last_alike called alone (one ∷ run) (other ∷ beside) like are = last_alike one.1 other.1 run beside are.1 are.2

  -- ---- the moves up to one of them

  moves_up_to : (run beside : List (Move × World F)) (one other : Move × World F) → AreBeside others run beside → one.0 ≡ other.0
      → moves_of (run ++ one ∷ []) ≡ moves_of (beside ++ other ∷ [])
  moves_up_to [] [] one other are same = ap (λ (m : Move). m ∷ []) same
  moves_up_to [] (next ∷ beside) one other are same = absurd are
  moves_up_to (next ∷ run) [] one other are same = absurd are
  moves_up_to (next ∷ run) (beyond ∷ beside) one other are same =
      ap (λ (m : Move). m ∷ moves_of (run ++ one ∷ [])) are.0 ∙ ap (λ (ms : List Move). beyond.0 ∷ ms) (moves_up_to run beside one other are.2 same)

  -- The move of a run at which the run beside it is split.
  record IsSplit (run before : List (Move × World F)) (one : Move × World F) (later : List (Move × World F)) : Type 0 where
    pub start : List (Move × World F)
    pub at : Move × World F
    pub rest : List (Move × World F)
    pub all : run ≡ start ++ at ∷ rest
    pub before_it : AreBeside others start before
    pub same : at.0 ≡ one.0
    pub like : AreAlike others at.1 one.1
    pub after_it : AreBeside others rest later

  split : (run before : List (Move × World F)) (one : Move × World F) (later : List (Move × World F))
      → AreBeside others run (before ++ one ∷ later) → IsSplit run before one later
  split [] [] one later are = absurd are
  split [] (other ∷ before) one later are = absurd are
  split (next ∷ run) [] one later are =
      record { start = []; at = next; rest = run; all = refl; before_it = tt; same = are.0; like = are.1; after_it = are.2 }
  split (next ∷ run) (other ∷ before) one later are =
      let more = split run before one later are.2 in
      record {
        start = next ∷ more.start;
        at = more.at;
        rest = more.rest;
        all = ap (λ (xs : List (Move × World F)). next ∷ xs) more.all;
        before_it = (are.0, are.1, more.before_it);
        same = more.same;
        like = more.like;
        after_it = more.after_it;
      }

  -- ---- outputs

  pub one_frame : (setup : Setup) (identity : Identity) (first : World F) (run beside : List (Move × World F)) (link : RelationState)
      → AreAlike others first first → AreBeside others run beside → AreOfOneFrame setup identity first beside link → AreOfOneFrame setup identity first run link
  one_frame setup identity first run beside link like are frame =
      let sent = split run frame.before frame.one frame.later (subst (λ (xs : List (Move × World F)). AreBeside others run xs) frame.all are) in
      let came = split sent.rest frame.between (move.Deliver Device frame.came, frame.next) frame.others
      (subst (λ (xs : List (Move × World F)). AreBeside others sent.rest xs) frame.since sent.after_it) in
      let moves : moves_of (frame.before ++ frame.one ∷ []) ≡ moves_of (sent.start ++ sent.at ∷ []) =
      sym (moves_up_to sent.start frame.before sent.at frame.one sent.before_it sent.same) in
      record {
        before = sent.start;
        one = sent.at;
        later = sent.rest;
        all = sent.all;
        by_controller = ap (λ (m : Move). end_at m) sent.same ∙ frame.by_controller;
        frame = frame.frame;
        frames = frame.frames;
        behind = sent.like.sent ∙ frame.behind
            ∙ ap (λ (s : List (List ℕ)). s ++ frame.frames) (sym (last_alike first first sent.start frame.before like sent.before_it).sent);
        number = frame.number;
        sent = frame.sent;
        between = came.start;
        came = frame.came;
        next = came.at.1;
        others = came.rest;
        since = came.all ∙ ap (λ (m : Move). came.start ++ (m, came.at.1) ∷ came.rest) came.same;
        there = ap (λ (s : List (List ℕ)). slice_get s frame.came) (last_alike sent.at.1 frame.one.1 came.start frame.between sent.like came.before_it).sent
            ∙ frame.there;
        brings = subst (λ (ms : List Move). (outputs_of first.device.station.options setup identity).brought_by frame.frame
            ≡ Some ((outputs_of first.device.station.options setup identity).octets_of (image_given setup ms))) moves frame.brings;
        taken = frame.taken ∙ ap (λ (ms : List Move). image_given setup ms) moves;
        shown = λ slot subslot. frame.shown slot subslot
            ∙ ap (λ (ms : List Move). option_map (shown_as (is_touched_at slot subslot link.plugs)) (given_for setup ms slot subslot)) moves;
      }

  -- ---- alarms

  same_raised : (called alone : World F) → AreAlike others called alone → (one : Move) → raised_with called one ≡ raised_with alone one
  same_raised called alone like (move.Application (local.Alarm slot subslot octets)) =
      sym (ap (λ (d : State F). raised_in (raised_to d.live.rest.real.modules.items slot subslot octets.items d.live.rest.link)) like.device.is)
  same_raised called alone like one = refl

  pub all_raised : (called alone : World F) (run beside : List (Move × World F)) → AreAlike others called alone → AreBeside others run beside
      → raised_over called run ≡ raised_over alone beside
  all_raised called alone [] [] like are = refl
  all_raised called alone [] (other ∷ beside) like are = absurd are
  all_raised called alone (one ∷ run) [] like are = absurd are
  all_raised called alone (one ∷ run) (other ∷ beside) like are =
      ap (λ (m : Move). raised_with called m ++ raised_over one.1 run) are.0
      ∙ (ap (λ (xs : List AlarmNotification). xs ++ raised_over one.1 run) (same_raised called alone like other.0)
      ∙ ap (λ (xs : List AlarmNotification). raised_with alone other.0 ++ xs) (all_raised one.1 other.1 run beside are.1 are.2))

  pub all_reported : (called alone : World F) (run beside : List (Move × World F)) → AreAlike others called alone → AreBeside others run beside
      → reported_over called run ≡ reported_over alone beside
  all_reported called alone [] [] like are = refl
  all_reported called alone [] (other ∷ beside) like are = absurd are
  all_reported called alone (one ∷ run) [] like are = absurd are
  all_reported called alone (one ∷ run) (other ∷ beside) like are =
      ap (λ (l : Option RelationState). reported_by l one.1.device.live.rest.link ++ reported_over one.1 run) (sym (same_link called alone like))
      ∙ (ap (λ (l : Option RelationState). reported_by alone.device.live.rest.link l ++ reported_over one.1 run) (sym (same_link one.1 other.1 are.1))
      ∙ ap (λ (xs : List AlarmNotification). reported_with alone other.1 ++ xs) (all_reported one.1 other.1 run beside are.1 are.2))

  same_from : (priority : Priority) (called alone : World F) → AreAlike others called alone → (frame : Option (List ℕ))
      → taken_from priority called frame ≡ taken_from priority alone frame
  same_from priority called alone like None = refl
  same_from priority called alone like (Some octets) =
      ap (λ (c : Controlling). taken_in priority (is_skipped called.device c Controller octets) c octets) like.controller

  same_taken : (priority : Priority) (called alone : World F) → AreAlike others called alone → (one : Move)
      → taken_with priority called one ≡ taken_with priority alone one
  same_taken priority called alone like (move.Deliver Controller number) =
      ap (λ (s : List (List ℕ)). taken_from priority called (slice_get s number)) like.sent ∙ same_from priority called alone like (slice_get alone.sent number)
  same_taken priority called alone like one = refl

  pub all_taken : (priority : Priority) (called alone : World F) (run beside : List (Move × World F)) → AreAlike others called alone
      → AreBeside others run beside → taken_over priority called run ≡ taken_over priority alone beside
  all_taken priority called alone [] [] like are = refl
  all_taken priority called alone [] (other ∷ beside) like are = absurd are
  all_taken priority called alone (one ∷ run) [] like are = absurd are
  all_taken priority called alone (one ∷ run) (other ∷ beside) like are =
      ap (λ (m : Move). taken_with priority called m ++ taken_over priority one.1 run) are.0
      ∙ (ap (λ (xs : List AlarmNotification). xs ++ taken_over priority one.1 run) (same_taken priority called alone like other.0)
      ∙ ap (λ (xs : List AlarmNotification). taken_with priority alone other.0 ++ xs) (all_taken priority one.1 other.1 run beside are.1 are.2))

  pub all_sized : (run beside : List (Move × World F)) → AreBeside others run beside → AreSizedMoves run → AreSizedMoves beside
  all_sized [] [] are sized = tt
  all_sized [] (other ∷ beside) are sized = absurd are
  all_sized (one ∷ run) [] are sized = absurd are
  all_sized (one ∷ run) (other ∷ beside) are sized = (subst (λ (m : Move). IsSizedMove m) are.0 sized.0, all_sized run beside are.2 sized.1)
