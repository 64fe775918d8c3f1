-- A device without a relation drops what belongs to an exchange.
use Rattle.std.proofs.Common.{◌≡◌, ◌⊎◌, inl, inr, ◌&&◌, ◌++◌, ℕ, Bool, true, false, List, [], Option, Some, None, Result, Ok, Err, refl, sym, subst, arith}
use Rattle.std.specs.Prelude.{if◌then◌else◌}
use Rattle.std.proofs.lemmas.Cmp.{nat_list_eq_equiv}
use Rattle.wire.specs.Codec.{IsSound, IsSoundWhole}
use Rattle.pn_values.specs.declared.identity.Identity.{Identity}
use Rattle.pn_values.specs.declared.mac.Mac.{Mac}
use Rattle.frame_codec.specs.declared.fault.FrameFault.{FrameFault}
use Rattle.frame_codec.specs.Frame.{ethernet, frame_bytes, frame_of, layers, padding_of}
use Rattle.frame_codec.specs.Meaning.{Meaning, RealTime}
use Rattle.frame_codec.specs.Sendable.{carrying}
use Rattle.settings_journal.specs.settings_store.Machine.{Outcome}
use Rattle.pn_alarms.specs.declared.fault.AlarmFault.{AlarmFault}
use Rattle.pn_alarms.specs.declared.message.Notice.TheVariants as message
use Rattle.pn_alarms.specs.declared.pdu.Header.{Header}
use Rattle.pn_alarms.specs.Format.{pdu_bytes}
use Rattle.pn_alarms.specs.Message.{ToDevice, message_of}
use Rattle.plans.specs.Connect.{alarm_block}
use Rattle.diagnosis.specs.declared.reports.priority.Priority.TheVariants.{Low}
use Rattle.diagnosis.specs.reports.Message.{low_message_of}
use Rattle.relations.specs.Diagnosed.{has_sent_low}
use Rattle.relations.specs.Exchanged.{received_by, receiving}
use Rattle.relations.specs.Phases.{updated}
use Rattle.relations.specs.RelationState.{RelationState, is_alarm_of}
use Rattle.device_frames.specs.declared.note.Note.TheVariants as note
use Rattle.device_frames.specs.Heard.{Heard, Unreadable, Elsewhere, Cyclic, Alarms, LowReplies, LowConfirms, heard_alarm, heard_content, heard_frame, heard_low, heard_of, heard_reply}
use Rattle.device_core.specs.State.{Live, Station}
use Rattle.device_core.specs.Handled.{Refuses, handled_low, handled_message, handled_received}
use Rattle.device_core.specs.Machine.{Stepped, handled_step, heard_step}
use Rattle.controller_messages.specs.declared.setup.Setup.{Setup}
use Rattle.controller_messages.specs.Sent.{end_pdu}
use Rattle.end_laws.specs.hearing.Hearing.{comes}
use Rattle.end_laws.specs.hearing.Stations.{IsDevice, IsSetup}
use Rattle.rounds_law.specs.Path.{IsOutputs, device_step}
use Rattle.rounds_law.specs.Again.{IsEnd}
use Rattle.rounds_law.proofs.DevicePassingHeard.{AreOutputs, outputs_heard}
use Rattle.rounds_law.proofs.DevicePassingRead.{data_is_read}

-- ---- what belongs to an exchange

abbrev pub IsVain : Heard → Type 0
IsVain Unreadable = Unit {0}
IsVain Elsewhere = Unit {0}
IsVain (Cyclic source frame_id body) = Unit {0}
IsVain (Alarms source header message) = Unit {0}
IsVain (LowReplies source header message) = Unit {0}
IsVain (LowConfirms source header message) = Unit {0}
IsVain heard = ⊥

-- Nothing is sent, and nothing changes.
abbrev pub Keeps : Live → Stepped → Type 0
Keeps live step = (step.frames ≡ []) × (step.live ≡ live)

pub in_vain : (outcomes : List Outcome) (station : Station) (live : Live) (heard : Heard) → live.rest.link ≡ None → IsVain heard
    → Keeps live (heard_step outcomes station live heard)
unfolding heard_step handled_step
in_vain outcomes station live Unreadable none vain = (refl, refl)
in_vain outcomes station live Elsewhere none vain = (refl, refl)
in_vain outcomes station live (Cyclic source frame_id body) none vain =
    subst (λ (l : Option RelationState). Keeps live (handled_step outcomes station live
    (handled_received live (received_by source frame_id body l) (updated (receiving source frame_id body l) l)))) (sym none) (refl, refl)
in_vain outcomes station live (Alarms source header message) none vain =
    subst (λ (l : Option RelationState). Keeps live (handled_step outcomes station live
    (if is_alarm_of source header.destination header.source l then handled_message live message else Refuses note.NoRelation))) (sym none) (refl, refl)
in_vain outcomes station live (LowReplies source header message) none vain =
    subst (λ (l : Option RelationState). Keeps live (handled_step outcomes station live
    (if has_sent_low l then handled_low station live source header message
    else (if is_alarm_of source header.destination header.source l then handled_message live message else Refuses note.NoRelation)))) (sym none) (refl, refl)
in_vain outcomes station live (LowConfirms source header message) none vain =
    subst (λ (l : Option RelationState). Keeps live (handled_step outcomes station live
    (if has_sent_low l then handled_low station live source header message else Refuses note.Fault))) (sym none) (refl, refl)
in_vain outcomes station live heard none vain = absurd vain

-- ---- an ERR

reply_vain : (source : Mac) (header : Header) (said : ToDevice) → IsVain (heard_reply source Low header said)
reply_vain source header (message.Ack number) = tt
reply_vain source header (message.Data number ack) = tt
reply_vain source header message.Nack = tt
reply_vain source header (message.Abort status) = tt

low_vain : (source : Mac) (read : Result (Header × ToDevice) AlarmFault) → IsVain (heard_low source read)
low_vain source (Ok x) = tt
low_vain source (Err fault) = tt

alarm_vain : (source : Mac) (body : List ℕ) (read : Result (Header × ToDevice) AlarmFault) → IsVain (heard_alarm source 0xFE01 body read)
alarm_vain source body (Ok x) = reply_vain source x.0 x.1
alarm_vain source body (Err fault) = low_vain source (low_message_of body)

content_vain : (identity : Identity) (source : Mac) (body : List ℕ) → IsVain (heard_content identity identity.mac source (RealTime 0xFE01 body))
content_vain identity source body =
    subst (λ (own : Bool). IsVain (if own && true then heard_alarm source 0xFE01 body (message_of body) else (if own && false then Cyclic source 0xFE01 body else Elsewhere)))
    (sym (nat_list_eq_equiv.refl identity.mac.octets)) (alarm_vain source body (message_of body))

frame_vain : (identity : Identity) (source : Mac) (tag : ℕ) (body : List ℕ) (read : Result Meaning FrameFault)
    → (read ≡ Ok (carrying identity.mac source (Some tag) (RealTime 0xFE01 body))) ⊎ ((fault : FrameFault) × (read ≡ Err fault))
    → IsVain (heard_frame identity read)
frame_vain identity source tag body read (inl e) =
    subst (λ (r : Result Meaning FrameFault). IsVain (heard_frame identity r)) (sym e) (content_vain identity source body)
frame_vain identity source tag body read (inr e) = subst (λ (r : Result Meaning FrameFault). IsVain (heard_frame identity r)) (sym e.1) tt

end_vain : (serial : ℕ) → IsSound ethernet → IsSoundWhole layers → (setup : Setup) (identity : Identity) (octets : List ℕ) → IsSetup setup → IsDevice identity
    → IsEnd setup serial identity.mac octets → IsVain (heard_of identity (comes octets))
unfolding heard_of
end_vain serial sound whole setup identity octets good real is =
    let body = pdu_bytes (end_pdu is.header is.reason) in
    let source = setup.plan.controller.mac in
    let meaning = carrying identity.mac source (Some alarm_block.tag_header_low) (RealTime 0xFE01 body) in
    subst (λ (xs : List ℕ). IsVain (heard_frame identity (frame_of xs))) (sym is.frame)
    (frame_vain identity source alarm_block.tag_header_low (body ++ padding_of meaning) (frame_of (frame_bytes meaning))
    (data_is_read sound whole identity.mac source alarm_block.tag_header_low 0xFE01 body real good.mac (omega arith) (omega arith)))

outputs_vain : (setup : Setup) (heard : Heard) → AreOutputs setup heard → IsVain heard
outputs_vain setup heard (inl is) = subst IsVain (sym is.2) tt
outputs_vain setup heard (inr is) = subst IsVain (sym is) tt

-- ---- both

pub said_in_vain : (serial : ℕ) → IsSound ethernet → IsSoundWhole layers → (setup : Setup) (identity : Identity) → IsSetup setup → IsDevice identity
    → (outcomes : List Outcome) (station : Station) (live : Live) (octets : List ℕ) → station.identity ≡ identity → live.rest.link ≡ None
    → IsOutputs setup (Some serial) identity.mac octets ⊎ IsEnd setup serial identity.mac octets → Keeps live (device_step outcomes station live octets)
said_in_vain serial sound whole setup identity good real outcomes station live octets same none said =
    in_vain outcomes station live (heard_of station.identity (comes octets)) none
    (subst (λ (i : Identity). IsVain (heard_of i (comes octets))) (sym same) (by_said said))
  where
    by_said : IsOutputs setup (Some serial) identity.mac octets ⊎ IsEnd setup serial identity.mac octets → IsVain (heard_of identity (comes octets))
    by_said (inl outputs) = outputs_vain setup (heard_of identity (comes octets)) (outputs_heard (Some serial) sound whole setup identity octets good real outputs)
    by_said (inr end) = end_vain serial sound whole setup identity octets good real end
