-- The answer to ApplicationReady begins the exchange of data.
use Rattle.std.proofs.Common.{◌≡◌, ℕ, true, List, map, Option, Some, refl, sym, ap, subst, ◌∙◌, arith}
use Rattle.std.specs.Prelude.{is_some}
use Rattle.std.specs.List.{AllByRecursion}
use Rattle.std.proofs.lemmas.Cmp.{nat_list_eq_equiv}
use Rattle.pn_values.specs.declared.identity.Identity.{Identity}
use Rattle.pn_values.specs.declared.real.RealModule.{RealModule}
use Rattle.frame_codec.specs.declared.udp.Caller.{Caller}
use Rattle.rpc_core.specs.Response.{Answered}
use Rattle.block_codec.specs.declared.block.Block.TheVariants as is
use Rattle.records.specs.declared.writes.taken.TakenRecord.{TakenRecord}
use Rattle.settings_journal.specs.settings_store.Machine.{Outcome}
use Rattle.diagnosis.specs.Queue.{begun, next_in}
use Rattle.diagnosis.specs.alarms.Alarms.{Low}
use Rattle.diagnosis.specs.declared.alarms.alarms.SentAlarm.{SentAlarm}
use Rattle.relations.specs.declared.hearing.ReadyAnswer.{ReadyAnswer}
use Rattle.relations.specs.declared.hearing.ReadyAnswer.TheVariants.{Confirmed as to_confirm}
use Rattle.relations.specs.declared.phase.Phase.TheVariants.{Awaiting}
use Rattle.relations.specs.Phases.{Confirmed, exchanging_from, updated, with_reported}
use Rattle.relations.specs.Plugging.{first_sent, plug_answer_in, plugs_after, taken_after}
use Rattle.relations.specs.Ready.{answer_of}
use Rattle.relations.specs.RelationState.{RelationState, is_in_exchange}
use Rattle.device_frames.specs.Heard.{Reported, Responds, heard_of}
use Rattle.device_frames.specs.Sendable.{AreSendable}
use Rattle.device_frames.specs.Sent.{Sent, bytes_of}
use Rattle.device_core.specs.State.{Live, Rest, Station}
use Rattle.device_core.specs.Handled.{Moves, handled_answer, handled_beginning, handled_plug_answer, handled_said, is_running}
use Rattle.device_core.specs.Machine.{Stepped}
use Rattle.controller_messages.specs.declared.setup.Setup.{Setup}
use Rattle.controller_messages.specs.Sent.{ready_answer, ready_done}
use Rattle.end_laws.specs.hearing.Hearing.{comes}
use Rattle.end_laws.specs.hearing.Stations.{ready_call}
use Rattle.both_ends.specs.startup.answer.Answer.{caller_of}
use Rattle.rounds_law.specs.Path.{Exchanges, HasNumber, HasRelation, IsReport, confirmed_frame, device_step, ready_for}
use Rattle.rounds_law.proofs.Choices.{where_not}
use Rattle.rounds_law.proofs.DeviceCallingBlocks.{IsReadAlone, ready_confirmed}
use Rattle.rounds_law.proofs.DeviceCallingEnded.{is_stated, stated}
use Rattle.rounds_law.proofs.DeviceCallingReport.{IsReported, is_reported, next_is, told, told_flow}
use Rattle.rounds_law.proofs.DeviceCallingSteps.{step_is}

-- what the device does then
abbrev pub IsConfirmed : ℕ → Setup → Identity → Live → Stepped → Type 0
IsConfirmed serial setup identity live step =
    AllByRecursion (IsReport setup identity) step.frames
    × (step.live.values ≡ live.values)
    × Exchanges setup serial 0 step.live

-- the answer to ApplicationReady
abbrev pub response_of : Setup → Answered
response_of setup = ready_answer (ready_call (ready_for setup)) (ready_for setup).block

module _ (setup : Setup) (identity : Identity) (station : Station) (live : Live) (taken : List TakenRecord) (last age : ℕ)
    (serial : ℕ) (relation : HasRelation setup serial Awaiting taken last age live) where
  abbrev caller : Caller
  caller = caller_of setup.plan.controller

  abbrev base : RelationState
  base = stated setup Awaiting relation.link

  -- the relation as data exchange begins, the alarms of low priority then, and the next state of these, if one is reported
  abbrev now : RelationState
  now = exchanging_from base

  abbrev real : List RealModule
  real = live.rest.real.modules.items

  abbrev low : Low
  low = begun real live.rest.diagnoses now.flow.low

  abbrev next : Option Low
  next = next_in low

  -- the alarm that is sent with it, if one is
  abbrev first : Option SentAlarm
  first = first_sent (is_some next) (told_flow now.flow low next).low

  abbrev made : RelationState
  made = with_reported (told_flow now.flow low next) (taken_after first now.plugs.places now.taken)
      (plugs_after first (told_flow now.flow low next).low.waiting now.plugs) now

  abbrev rest : Rest
  rest = record live.rest { link = Some made }

  abbrev sent : List Sent
  sent = told now.flow low next

  is_confirmed : IsReadAlone (is.ApplicationReadyRes (ready_done (ready_for setup).block))
      → answer_of (response_of setup) live.rest.link ≡ to_confirm
  is_confirmed read =
      ap (λ (link : Option RelationState). answer_of (response_of setup) link) (is_stated serial setup Awaiting taken last age live relation)
      ∙ ready_confirmed base (ready_for setup).header (ready_for setup).block read refl (nat_list_eq_equiv.refl setup.ar) refl refl
      (nat_list_eq_equiv.refl setup.ar)

  is_handled : IsReadAlone (is.ApplicationReadyRes (ready_done (ready_for setup).block))
      → handled_said station live caller (Responds (response_of setup)) ≡ Moves rest sent
  is_handled read =
      where_not (is_in_exchange live.rest.link)
      (handled_plug_answer live (response_of setup) (plug_answer_in (response_of setup) live.rest.link))
      (handled_answer station live (answer_of (response_of setup) live.rest.link))
      (ap is_in_exchange (is_stated serial setup Awaiting taken last age live relation))
      ∙ ap (λ (answer : ReadyAnswer). handled_answer station live answer) (is_confirmed read)
      ∙ ap (λ (link : Option RelationState). handled_beginning station live (updated Confirmed link)) (is_stated serial setup Awaiting taken last age live relation)

  same_number : HasNumber setup serial now.flow
  same_number = record { few = relation.numbered.few; route = relation.numbered.route; endpoint = relation.numbered.endpoint }

  exchanges : IsReported setup identity now.flow low next → Exchanges setup serial 0 (record { values = live.values; rest = rest })
  exchanges reported = record {
    link = made;
    has = refl;
    in_phase = refl;
    request = refl;
    limit = relation.limit;
    numbered = record { few = same_number.few; route = same_number.route; endpoint = same_number.endpoint };
    held_few = omega arith;
    high = relation.calm.high;
    low = reported.waits;
    low_limit = reported.limit;
  }

  pub confirms : (outcomes : List Outcome) → station.identity ≡ identity
      → IsReadAlone (is.ApplicationReadyRes (ready_done (ready_for setup).block))
      → heard_of station.identity (comes (confirmed_frame setup identity)) ≡ Reported caller setup.plan.station.suite.address (Responds (response_of setup))
      → is_running live.values.running setup.plan.station.suite.address ≡ true
      → AreSendable identity (device_step outcomes station live (confirmed_frame setup identity)).sent
      → IsConfirmed serial setup identity live (device_step outcomes station live (confirmed_frame setup identity))
  confirms outcomes same read hears running sendable =
      let stepped = step_is outcomes station live (confirmed_frame setup identity) caller setup.plan.station.suite.address (Responds (response_of setup))
      rest sent hears running (is_handled read) in
      let can = subst (λ (step : Stepped). AreSendable identity step.sent) stepped sendable in
      let reported = is_reported setup identity now.flow serial same_number low next relation.low_new (next_is low) can in
      subst (λ (step : Stepped). IsConfirmed serial setup identity live step) (sym stepped)
      (subst (λ (i : Identity). AllByRecursion (IsReport setup identity) (map (bytes_of i) sent)) (sym same) reported.frames, refl, exchanges reported)
