-- A call of a controller after a plug: its response chooses nothing.
use Rattle.std.proofs.Common.{◌≡◌, ◌⊎◌, inl, inr, ℕ, Bool, true, false, List, [], length, Option, Some, None, Ok, subst}
use Rattle.std.specs.List.{AllByRecursion}
use Rattle.pn_values.specs.declared.identity.Identity.{Identity}
use Rattle.settings_journal.specs.settings_store.Machine.{Outcome}
use Rattle.frame_codec.specs.declared.udp.Caller.{Caller}
use Rattle.rpc_core.specs.Response.{Answered, answer_to, is_done}
use Rattle.connect_blocks.specs.declared.plug_control.PlugControlBlock.{PlugControlBlock}
use Rattle.connect_blocks.specs.PlugControl.{plug_control}
use Rattle.records.specs.status.Status.{done, status_of}
use Rattle.records.specs.writes.Answer.{answer_of}
use Rattle.relations.specs.Phases.{Named, updated}
use Rattle.relations.specs.Plugging.{calling_next, is_calling, plug_done, plug_end_in, plug_ready_of}
use Rattle.relations.specs.Plugging.{ended_by as plug_ended_by}
use Rattle.relations.specs.RelationState.{RelationState}
use Rattle.relations.specs.declared.plugging.PlugReady.{PlugReady}
use Rattle.device_frames.specs.Heard.{Calls, Reported}
use Rattle.device_frames.specs.Relation.{plug_call_in, plug_calls, where_due}
use Rattle.device_frames.specs.Sent.{Sent}
use Rattle.device_core.specs.State.{Live, Station}
use Rattle.device_core.specs.Handled.{Handled, partner_of}
use Rattle.device_core.specs.Machine.{handled_step, heard_step}
use Rattle.controller_messages.specs.declared.plug_request.PlugRequest.{PlugRequest}
use Rattle.controller_messages.specs.declared.setup.Setup.{Setup}
use Rattle.controller_messages.specs.Heard.{Responds}
use Rattle.controller_messages.specs.PlugRequests.{plug_call}
use Rattle.end_laws.specs.turns.Turns.{chosen_in}
use Rattle.both_ends.specs.startup.answer.Answer.{caller_of}
use Rattle.rounds_law.specs.Anywhere.{AllLast, IsAnyDevice}
use Rattle.rounds_law.specs.AnywhereFrames.{IsOfPlug}
use Rattle.rounds_law.specs.AnywhereSame.{Chooses, IsNoneChosen}
use Rattle.rounds_law.proofs.AnywhereDeviceAnswers.{CallLaws}
use Rattle.rounds_law.proofs.AnywhereLinkPlugs.{said_at}
use Rattle.rounds_law.proofs.AnywherePlugBlocks.{end_unchosen, end_uuid}
use Rattle.rounds_law.proofs.AnywherePlugWalk.{Walks, end_blocks, ends_by}
use Rattle.rounds_law.proofs.AnywhereSameReleased.{IsUnchosen}

module _ (setup next : Setup) (identity : Identity) (silence : ℕ) (station : Station) (live : Live) (laws : CallLaws setup next silence station)
    (before : IsAnyDevice setup next identity silence station live) (request : PlugRequest) (of : IsOfPlug setup request) (outcomes : List Outcome) where
  abbrev caller : Caller
  caller = caller_of setup.plan.controller

  -- All that is sent with such an outcome.
  abbrev Unchosen : Handled → Type 0
  Unchosen what = AllByRecursion (IsUnchosen setup) (handled_step outcomes station live what).sent

  none_of : (response : Answered) → (is_done response.status ≡ false) ⊎ (chosen_in response.blocks ≡ None) → Chooses setup IsNoneChosen (Responds response)
  none_of response (inl refused) = λ right positive chosen is. absurd cc
  none_of response (inr none) = λ right positive chosen is. absurd cc

  call_unchosen : (address : List ℕ) (ready : Option PlugReady) → AllByRecursion (IsUnchosen setup) (plug_call_in address ready)
  call_unchosen address None = tt
  call_unchosen address (Some ready) = (tt, tt)

  due_unchosen : (is_due : Bool) (sent : List Sent) → AllByRecursion (IsUnchosen setup) sent → AllByRecursion (IsUnchosen setup) (where_due is_due sent)
  due_unchosen true sent all = all
  due_unchosen false sent all = tt

  uuid_wide : (its : RelationState) → live.rest.link ≡ Some its → length its.request.ar.uuid ≡ 16
  uuid_wide its has = (subst (AllLast setup silence) has before.lasts).named

  ends_unchosen : (blocks : List ℕ) (one : PlugControlBlock) → plug_end_in blocks live.rest.link ≡ Ok one
      → Unchosen (ends_by setup station live caller request (Ok one))
  unfolding handled_step
  ends_unchosen blocks one e =
      let named = updated (Named (partner_of caller)) (plug_ended_by station.options.ready_by_application (Ok one) live.rest.link) in (
        none_of (answer_to (plug_call setup request) done ((plug_control 0x8111).write (plug_done one) []))
            (inr (end_unchosen (plug_done one) (end_uuid blocks live.rest.link one e uuid_wide))),
        due_unchosen (is_calling named) (plug_calls live.values.running.suite.address (calling_next named))
            (call_unchosen live.values.running.suite.address (plug_ready_of (calling_next named))),
      )

  unchosen_walks : Walks setup station live caller request Unchosen
  unfolding handled_step
  unchosen_walks = record {
    refuses = λ why. tt;
    silent = tt;
    repeats = λ kept found. (tt, tt);
    denies = λ operation kept refusal.
        (none_of (answer_to (plug_call setup request) (status_of operation refusal) []) (inl (laws.negative operation refusal)), tt);
    keeps = λ header unchosen parameter records e. (none_of (answer_to (plug_call setup request) done (answer_of header)) (inr unchosen), tt);
    ends = λ one e told. ends_unchosen (end_blocks setup station live caller request) one e;
  }

  -- With a call after a plug, no response is sent that chooses anything.
  pub plug_chooses_none : (address : List ℕ)
      → AllByRecursion (IsUnchosen setup) (heard_step outcomes station live (Reported caller address (Calls (plug_call setup request)))).sent
  unfolding heard_step
  plug_chooses_none address = said_at setup next identity silence station live laws before request of Unchosen unchosen_walks address
