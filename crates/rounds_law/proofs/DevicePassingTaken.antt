-- What a frame of outputs does to a device with a relation.
use Rattle.std.proofs.Common.{◌≡◌, inl, inr, ℕ, List, [], Option, Some, refl, sym, subst, ◌∙◌, arith}
use Rattle.pn_values.specs.declared.identity.Identity.{Identity}
use Rattle.pn_values.specs.declared.mac.Mac.{Mac}
use Rattle.settings_journal.specs.settings_store.Machine.{Outcome}
use Rattle.wire.specs.Codec.{IsSound, IsSoundWhole}
use Rattle.frame_codec.specs.Frame.{ethernet, layers}
use Rattle.records.specs.declared.writes.taken.TakenRecord.{TakenRecord}
use Rattle.cyclic_data.specs.declared.exchange.received.Received.{Received}
use Rattle.cyclic_data.specs.declared.exchange.received.Received.TheVariants.{Foreign, Short, Stale, Taken}
use Rattle.cyclic_data.specs.exchange.Cyclic.{Cyclic as Data}
use Rattle.cyclic_data.specs.exchange.Received.{behind_frame as cyclic_behind}
use Rattle.relations.specs.declared.phase.Phase.{Phase}
use Rattle.relations.specs.exchange.Flow.{Flow}
use Rattle.relations.specs.exchange.Received.{behind_frame, received_as}
use Rattle.relations.specs.Exchanged.{received_by, receiving, receiving_as}
use Rattle.relations.specs.Phases.{updated, with_flow}
use Rattle.relations.specs.RelationState.{RelationState}
use Rattle.device_frames.specs.Heard.{Cyclic, Heard, Unreadable, heard_of}
use Rattle.device_core.specs.State.{Live, Station}
use Rattle.device_core.specs.Handled.{handled_received}
use Rattle.device_core.specs.Machine.{Stepped, handled_step, heard_step}
use Rattle.controller_messages.specs.declared.setup.Setup.{Setup}
use Rattle.end_laws.specs.hearing.Hearing.{comes}
use Rattle.end_laws.specs.hearing.Stations.{IsDevice, IsSetup}
use Rattle.rounds_law.specs.Path.{Exchanges, HasRelation, IsOutputs, device_step}
use Rattle.rounds_law.proofs.DevicePassingHeard.{AreOutputs, outputs_heard}
use Rattle.rounds_law.proofs.DevicePassingLeft.{IsLeft, frame_left}

-- Nothing is sent, the settings stay, and this holds of the device.
abbrev pub Stays : (Live → Type 0) → Live → Stepped → Type 0
Stays Holds live step = (step.frames ≡ []) × (step.live.values ≡ live.values) × Holds step.live

-- The device with this relation.
abbrev pub with_link : Live → RelationState → Live
with_link live link = record live { rest = record live.rest { link = Some link } }

-- The relation with this end of cyclic data.
abbrev pub with_data : RelationState → Data → RelationState
with_data link cyclic = with_flow (record link.flow { cyclic = cyclic }) link

-- ---- a frame, by what happens to it

frame_stays : (Holds : Live → Type 0) (outcomes : List Outcome) (station : Station) (live : Live) (link : RelationState) (flow : Flow) (received : Received)
    → Holds live → Holds (with_link live (with_flow flow link))
    → Stays Holds live (handled_step outcomes station live (handled_received live received (updated (receiving_as received flow) (Some link))))
unfolding handled_step
frame_stays Holds outcomes station live link flow Foreign before after = (refl, refl, before)
frame_stays Holds outcomes station live link flow Short before after = (refl, refl, before)
frame_stays Holds outcomes station live link flow Stale before after = (refl, refl, before)
frame_stays Holds outcomes station live link flow Taken before after = (refl, refl, after)

cyclic_stays : (Holds : Live → Type 0) (outcomes : List Outcome) (station : Station) (live : Live) (link : RelationState)
    (source : Mac) (frame_id : ℕ) (body : List ℕ)
    → live.rest.link ≡ Some link → Holds live → ((cyclic : Data) → IsLeft link.flow.cyclic cyclic → Holds (with_link live (with_data link cyclic)))
    → Stays Holds live (heard_step outcomes station live (Cyclic source frame_id body))
unfolding heard_step
cyclic_stays Holds outcomes station live link source frame_id body has before after =
    subst (λ (l : Option RelationState). Stays Holds live (handled_step outcomes station live
    (handled_received live (received_by source frame_id body l) (updated (receiving source frame_id body l) l)))) (sym has)
    (frame_stays Holds outcomes station live link (behind_frame link.flow source frame_id body) (received_as link.flow source frame_id body) before
    (after (cyclic_behind link.flow.cyclic source frame_id body) (frame_left link.flow.cyclic source frame_id body)))

unread_stays : (Holds : Live → Type 0) (outcomes : List Outcome) (station : Station) (live : Live) → Holds live
    → Stays Holds live (heard_step outcomes station live Unreadable)
unfolding heard_step handled_step
unread_stays Holds outcomes station live before = (refl, refl, before)

heard_stays : (Holds : Live → Type 0) (setup : Setup) (outcomes : List Outcome) (station : Station) (live : Live) (link : RelationState)
    (heard : Heard) → AreOutputs setup heard
    → live.rest.link ≡ Some link → Holds live → ((cyclic : Data) → IsLeft link.flow.cyclic cyclic → Holds (with_link live (with_data link cyclic)))
    → Stays Holds live (heard_step outcomes station live heard)
heard_stays Holds setup outcomes station live link heard (inl is) has before after =
    subst (λ (h : Heard). Stays Holds live (heard_step outcomes station live h)) (sym is.2)
    (cyclic_stays Holds outcomes station live link setup.plan.controller.mac is.0 is.1 has before after)
heard_stays Holds setup outcomes station live link heard (inr is) has before after =
    subst (λ (h : Heard). Stays Holds live (heard_step outcomes station live h)) (sym is) (unread_stays Holds outcomes station live before)

-- ---- frames of outputs

module _ (sound : IsSound ethernet) (whole : IsSoundWhole layers) (setup : Setup) (identity : Identity) (good : IsSetup setup) (real : IsDevice identity) where
  pub outputs_stay : (serial : ℕ) (Holds : Live → Type 0) (outcomes : List Outcome) (station : Station) (live : Live) (link : RelationState) (octets : List ℕ)
      → station.identity ≡ identity → IsOutputs setup (Some serial) identity.mac octets → live.rest.link ≡ Some link → Holds live
      → ((cyclic : Data) → IsLeft link.flow.cyclic cyclic → Holds (with_link live (with_data link cyclic)))
      → Stays Holds live (device_step outcomes station live octets)
  outputs_stay serial Holds outcomes station live link octets same is has before after =
      subst (λ (i : Identity). Stays Holds live (heard_step outcomes station live (heard_of i (comes octets)))) (sym same)
      (heard_stays Holds setup outcomes station live link (heard_of identity (comes octets)) (outputs_heard (Some serial) sound whole setup identity octets good real is)
      has before after)

  pub relation_stays : (serial : ℕ) (outcomes : List Outcome) (station : Station) (live : Live) (phase : Phase) (taken : List TakenRecord) (last age : ℕ) (octets : List ℕ)
      → station.identity ≡ identity → IsOutputs setup (Some serial) identity.mac octets → HasRelation setup serial phase taken last age live
      → Stays (HasRelation setup serial phase taken last age) live (device_step outcomes station live octets)
  relation_stays serial outcomes station live phase taken last age octets same is before =
      outputs_stay serial (HasRelation setup serial phase taken last age) outcomes station live before.link octets same is before.has before (λ cyclic left. record {
        link = with_data before.link cyclic;
        has = refl;
        in_phase = before.in_phase;
        request = before.request;
        partner = before.partner;
        taken_all = before.taken_all;
        active = before.active;
        waited = before.waited;
        calm = record { high = before.calm.high; low = before.calm.low };
        numbered = record { few = before.numbered.few; route = left.route ∙ before.numbered.route; endpoint = before.numbered.endpoint };
        unbegun = left.begun ∙ before.unbegun;
        limit = left.limit ∙ before.limit;
        low_limit = before.low_limit;
        low_new = before.low_new;
        kept = before.kept;
        answered = before.answered;
        number = before.number;
        unasked = before.unasked;
      })

  pub exchange_stays : (serial : ℕ) (outcomes : List Outcome) (station : Station) (live : Live) (age : ℕ) (octets : List ℕ)
      → station.identity ≡ identity → IsOutputs setup (Some serial) identity.mac octets → Exchanges setup serial age live
      → Stays (Exchanges setup serial age) live (device_step outcomes station live octets)
  exchange_stays serial outcomes station live age octets same is before =
      outputs_stay serial (Exchanges setup serial age) outcomes station live before.link octets same is before.has before (λ cyclic left. record {
        link = with_data before.link cyclic;
        has = refl;
        in_phase = before.in_phase;
        request = before.request;
        limit = left.limit ∙ before.limit;
        numbered = record { few = before.numbered.few; route = left.route ∙ before.numbered.route; endpoint = before.numbered.endpoint };
        held_few = omega (arith, left.held, before.held_few);
        high = before.high;
        low = before.low;
        low_limit = before.low_limit;
      })
