-- A device that waits for the response to ApplicationReady: a unit, and a frame of outputs.
use Rattle.std.proofs.Common.{◌≡◌, ◌+◌, ◌<◌, ℕ, suc, List, None, ap, refl, ◌∙◌, Some}
use Rattle.pn_values.specs.declared.identity.Identity.{Identity}
use Rattle.settings_journal.specs.settings_store.Machine.{Outcome}
use Rattle.wire.specs.Codec.{IsSound, IsSoundWhole}
use Rattle.frame_codec.specs.Frame.{ethernet, layers}
use Rattle.pn_alarms.specs.Device.{end_later}
use Rattle.pn_alarms.specs.Ends.{DeviceEnd}
use Rattle.relations.specs.declared.phase.Phase.TheVariants.{Awaiting}
use Rattle.relations.specs.Timers.{unit_later}
use Rattle.device_frames.specs.Heard.{Ticks}
use Rattle.device_core.specs.State.{Live, Station}
use Rattle.device_core.specs.Machine.{Stepped, handled_step, heard_step}
use Rattle.controller_messages.specs.declared.setup.Setup.{Setup}
use Rattle.end_laws.specs.hearing.Stations.{IsDevice, IsSetup}
use Rattle.rounds_law.specs.Middle.{IsAwaiting, WaitsOn}
use Rattle.rounds_law.specs.Path.{IsAddressed, IsOutputs, device_step}
use Rattle.rounds_law.specs.Repeating.{Awaits, counts_on}
use Rattle.rounds_law.proofs.DevicePassingTaken.{Stays, outputs_stay, with_data}
use Rattle.rounds_law.proofs.DevicePassingTimers.{active_more, calm_later, limit_later, waited_more}
use Rattle.rounds_law.proofs.AskedUnits.{unit_goes}
use Rattle.rounds_law.proofs.DeviceRepeatingUnits.{awaiting_unit, inactive_is, stays, waited_is}

-- What counts for its frames.
abbrev pub awaits_of : (serial : ℕ) (setup : Setup) (waited inactive : ℕ) (live : Live) → IsAwaiting setup serial waited inactive live → Awaits setup serial waited inactive live
awaits_of serial setup waited inactive live is = record {
  link = is.related.link;
  has = is.related.has;
  in_phase = is.related.in_phase;
  request = is.related.request;
  partner = is.related.partner;
  calm = is.related.calm;
  numbered = is.related.numbered;
  waits = is.waits;
  runs = is.runs;
  unasked = is.related.unasked;
}

module _ (setup : Setup) (identity : Identity) (outcomes : List Outcome) (station : Station) (live : Live) (waited inactive : ℕ)
    (serial : ℕ) (before : IsAwaiting setup serial waited inactive live) where
  abbrev awaits : Awaits setup serial waited inactive live
  awaits = awaits_of serial setup waited inactive live before

  -- The relation is the same a unit later.
  awaiting_on : inactive + 1 < 1920000 → IsAwaiting setup serial (counts_on waited) (inactive + 1) (heard_step outcomes station live Ticks).live
  unfolding handled_step
  awaiting_on few =
      let is = before.related in
      let link = is.link in
      unit_goes (λ (step : Stepped). IsAwaiting setup serial (counts_on waited) (inactive + 1) step.live) outcomes station live link None is.unasked is.has
      (stays setup identity outcomes station live waited inactive serial awaits few)
      (record {
        taken = before.taken;
        last = before.last;
        age = suc before.age;
        related = record {
          link = unit_later link;
          has = refl;
          in_phase = is.in_phase;
          request = is.request;
          partner = is.partner;
          taken_all = is.taken_all;
          active = active_more link before.age is.active;
          waited = waited_more link Awaiting before.age is.in_phase is.waited;
          calm = record {
            high = calm_later link.flow.alarms.sender.sending is.calm.high;
            low = calm_later link.flow.low.alarms.sender.sending is.calm.low;
          };
          numbered = record { few = is.numbered.few; route = is.numbered.route; endpoint = is.numbered.endpoint };
          unbegun = is.unbegun;
          limit = limit_later link.flow.cyclic.begun link.flow.cyclic.hearing ∙ is.limit;
          low_limit = is.low_limit;
          low_new = ap (λ (e : DeviceEnd). end_later e) is.low_new;
          kept = is.kept;
          answered = is.answered;
          number = is.number;
          unasked = is.unasked;
        };
        waits = waited_is setup identity outcomes station live waited inactive serial awaits;
        runs = inactive_is setup identity outcomes station live waited inactive serial awaits;
      })

  pub waits_on : station.identity ≡ identity → IsAddressed setup live → inactive + 1 < 1920000
      → WaitsOn setup serial identity waited inactive live (heard_step outcomes station live Ticks)
  waits_on same addressed few =
      let unit = awaiting_unit setup identity outcomes station live waited inactive serial awaits same addressed few in
      record {
        inputs = unit.inputs;
        are_inputs = unit.are_inputs;
        frames = unit.frames;
        values = unit.values;
        awaits = awaiting_on few;
      }

-- A frame of outputs does not change this.
pub waits_still : (serial : ℕ) → IsSound ethernet → IsSoundWhole layers → (setup : Setup) (identity : Identity) → IsSetup setup → IsDevice identity
    → (outcomes : List Outcome) (station : Station) (live : Live) (waited inactive : ℕ) (octets : List ℕ)
    → station.identity ≡ identity → IsOutputs setup (Some serial) identity.mac octets → IsAwaiting setup serial waited inactive live
    → Stays (IsAwaiting setup serial waited inactive) live (device_step outcomes station live octets)
waits_still serial sound whole setup identity good real outcomes station live waited inactive octets same outputs before =
    let is = before.related in
    outputs_stay sound whole setup identity good real serial (IsAwaiting setup serial waited inactive) outcomes station live is.link octets same outputs is.has before
    (λ cyclic left. record {
      taken = before.taken;
      last = before.last;
      age = before.age;
      related = record {
        link = with_data is.link cyclic;
        has = refl;
        in_phase = is.in_phase;
        request = is.request;
        partner = is.partner;
        taken_all = is.taken_all;
        active = is.active;
        waited = is.waited;
        calm = record { high = is.calm.high; low = is.calm.low };
        numbered = record { few = is.numbered.few; route = left.route ∙ is.numbered.route; endpoint = is.numbered.endpoint };
        unbegun = left.begun ∙ is.unbegun;
        limit = left.limit ∙ is.limit;
        low_limit = is.low_limit;
        low_new = is.low_new;
        kept = is.kept;
        answered = is.answered;
        number = is.number;
        unasked = is.unasked;
      };
      waits = before.waits;
      runs = before.runs;
    })
