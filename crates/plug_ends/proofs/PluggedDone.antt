-- A place that is good again after its plug: the controller confirmed the ApplicationReady of its last plug.
use Rattle.std.proofs.Common.{◌≡◌, ◌⊎◌, inl, inr, ◌++◌, ℕ, Bool, true, false, List, [], Option, Some, None, refl, sym, ap, subst, ◌∙◌, append-nil}
use Rattle.std.specs.Prelude.{◌||◌, if◌then◌else◌}
use Rattle.std.proofs.lemmas.List.Folds.{list_any-append}
use Rattle.frame_codec.specs.declared.udp.Caller.{Caller}
use Rattle.record_blocks.specs.declared.alarm_notification.AlarmNotification.{AlarmNotification}
use Rattle.expected_places.specs.declared.place.Step.{Step}
use Rattle.expected_places.specs.declared.place.Step.TheVariants.{Settled, Pulled, Plugged, Told, Ended, Refused}
use Rattle.relations.specs.RelationState.{RelationState}
use Rattle.device_frames.specs.declared.event.Event.TheVariants.{Frame}
use Rattle.device_frames.specs.Heard.{Heard, Reported, Responds, Said, heard_of}
use Rattle.device_core.specs.State.{Live, Station}
use Rattle.plug_ends.specs.Places.{step_in}
use Rattle.plug_ends.specs.Told.{LastPlug, concerns, concerns_any}
use Rattle.plug_ends.proofs.AskedWords.{HearsDone}
use Rattle.plug_ends.proofs.CallsTurns.{false_true, none_some, some_same}
use Rattle.plug_ends.proofs.DeviceGoes.{answer_as, holding_of}
use Rattle.plug_ends.proofs.DeviceTurns.{AnswersAt}
use Rattle.plug_ends.proofs.PluggedState.{WasIn}
use Rattle.plug_ends.proofs.PluggedWritten.{in_more}
use Rattle.plug_ends.proofs.ToldGoes.{Goes}
use Rattle.plug_ends.proofs.ToldPlaces.{HasTold, has_told_more}

module _ (slot subslot : ℕ) where
  abbrev pub HasDone : Station → List (List ℕ) → ℕ → Type 0
  HasDone station sent number = (frame : List ℕ) × WasIn sent frame × HearsDone station.identity frame number

  -- if something was reported of a place that is settled, its last plug was confirmed
  pub record IsDone (station : Station) (live : Live) (sent : List (List ℕ)) (raised : List AlarmNotification) : Type 0 where
    pub settled : (link : RelationState) → live.rest.link ≡ Some link → step_in slot subslot link ≡ Some Settled → concerns_any slot subslot raised ≡ true
        → (number : ℕ) × LastPlug slot subslot number raised × HasDone station sent number

  -- more frames
  pub done_more : (station : Station) (live : Live) (sent more : List (List ℕ)) (raised : List AlarmNotification) → IsDone station live sent raised
      → IsDone station live (sent ++ more) raised
  done_more station live sent more raised was = record {
    settled = λ link is step some.
        let it = was.settled link is step some in
        (it.0, it.1, (it.2.0, in_more sent more it.2.0 it.2.1, it.2.2));
  }

  or_false : (b d : Bool) → d ≡ false → (b || d) ≡ true → b ≡ true
  or_false true d e f = refl
  or_false false d e f = absurd (false_true (sym e ∙ f))

  pub any_before : (one other : List AlarmNotification) → concerns_any slot subslot other ≡ false → concerns_any slot subslot (one ++ other) ≡ true
      → concerns_any slot subslot one ≡ true
  any_before one other e f =
      or_false (concerns_any slot subslot one) (concerns_any slot subslot other) e (sym (list_any-append (concerns slot subslot) one other) ∙ f)

  -- a step of the device
  module _ (station : Station) (live after : Live) (sent frames : List (List ℕ)) (heard : Heard) (raised now : List AlarmNotification)
      (from : ((frame : List ℕ) × WasIn sent frame × (heard ≡ heard_of station.identity (Frame (record { items = frame }))))
      ⊎ ((caller : Caller) (address : List ℕ) (said : Said) → heard ≡ Reported caller address said → ⊥))
      (was : IsDone station live sent raised) (goes : Goes slot subslot live heard live.rest.link after.rest.link raised now)
      (told : (link : RelationState) → live.rest.link ≡ Some link → (step : Step) → step_in slot subslot link ≡ Some step → HasTold slot subslot step raised) where
    abbrev Result : Type 0
    Result = (number : ℕ) × LastPlug slot subslot number (raised ++ now) × HasDone station (sent ++ frames) number

    more : (number : ℕ) → HasDone station sent number → HasDone station (sent ++ frames) number
    more number it = (it.0, in_more sent frames it.0 it.1, it.2)

    kept_done : (link : RelationState) → live.rest.link ≡ Some link → step_in slot subslot link ≡ Some Settled → concerns_any slot subslot now ≡ false
        → concerns_any slot subslot (raised ++ now) ≡ true → Result
    kept_done link is step quiet some =
        let it = was.settled link is step (any_before raised now quiet some) in
        (it.0, has_told_more slot subslot (Told it.0) raised now quiet it.1, more it.0 it.2)

    quiet_by : now ≡ [] → concerns_any slot subslot now ≡ false
    quiet_by silent = ap (λ (xs : List AlarmNotification). concerns_any slot subslot xs) silent

    answered_done : (link next : RelationState) → live.rest.link ≡ Some link → now ≡ []
        → AnswersAt slot subslot heard live.rest.link after.rest.link (holding_of link) (holding_of next) → step_in slot subslot next ≡ Some Settled → Result
    answered_done link next is silent it step = by_positive it.answer.is_positive refl it.now
      where
        refused : Some Refused ≡ Some Settled → ⊥
        refused e = absurd cc

        framed : (frame : List ℕ) × WasIn sent frame × (heard ≡ heard_of station.identity (Frame (record { items = frame })))
        framed = by_from from
          where
            by_from : ((frame : List ℕ) × WasIn sent frame × (heard ≡ heard_of station.identity (Frame (record { items = frame }))))
                ⊎ ((caller : Caller) (address : List ℕ) (said : Said) → heard ≡ Reported caller address said → ⊥)
                → (frame : List ℕ) × WasIn sent frame × (heard ≡ heard_of station.identity (Frame (record { items = frame })))
            by_from (inl it_there) = it_there
            by_from (inr un) = absurd (un it.answer.caller it.answer.address (Responds it.answer.response) it.answer.is)

        by_positive : (b : Bool) → it.answer.is_positive ≡ b → step_in slot subslot next ≡ Some (if b then Settled else Refused) → Result
        by_positive false e f = absurd (refused (sym f ∙ step))
        by_positive true e f = (
          it.call.number,
          subst (λ (xs : List AlarmNotification). LastPlug slot subslot it.call.number xs) (sym (ap (λ (xs : List AlarmNotification). raised ++ xs) silent ∙ append-nil raised))
              (told link is (Ended it.call.number) it.was),
          more it.call.number (
            framed.0,
            framed.1,
            record {
              caller = it.answer.caller;
              address = it.answer.address;
              response = it.answer.response;
              is = sym framed.2 ∙ it.answer.is;
              link = it.answer.link;
              call = it.call;
              active = ap (λ (l : RelationState). l.plugs.calls.standing) (some_same it.answer.link link (sym it.answer.was ∙ is)) ∙ it.active;
              confirms = it.answer.means ∙ ap answer_as e;
              number_is = refl;
            },
          ),
        )

    pub device_done : IsDone station after (sent ++ frames) (raised ++ now)
    device_done = record { settled = λ next is step some. by_goes next is step some goes }
      where
        step_of : (next other : RelationState) → after.rest.link ≡ Some next → after.rest.link ≡ Some other → (step : Option Step)
            → step_in slot subslot other ≡ step → step_in slot subslot next ≡ step
        step_of next other e f step g = ap (λ (l : RelationState). step_in slot subslot l) (some_same next other (sym e ∙ f)) ∙ g

        pulled : Some Pulled ≡ Some Settled → ⊥
        pulled e = absurd cc

        plugged : Some Plugged ≡ Some Settled → ⊥
        plugged e = absurd cc

        told_settled : (number : ℕ) → Some (Told number) ≡ Some Settled → ⊥
        told_settled number e = absurd cc

        ended_settled : (number : ℕ) → Some (Ended number) ≡ Some Settled → ⊥
        ended_settled number e = absurd cc

        none_settled : None ≡ Some Settled → ⊥
        none_settled e = absurd cc

        by_goes : (next : RelationState) → after.rest.link ≡ Some next → step_in slot subslot next ≡ Some Settled → concerns_any slot subslot (raised ++ now) ≡ true
            → Goes slot subslot live heard live.rest.link after.rest.link raised now → Result
        by_goes next is step some (inl it) = kept_done it.link it.was (sym (step_of next it.next is it.is _ it.step) ∙ step) it.quiet some
        by_goes next is step some (inr (inl it)) = by_touched it.step
          where
            by_touched : (step_in slot subslot it.next ≡ Some Pulled) ⊎ (step_in slot subslot it.next ≡ Some Plugged) → Result
            by_touched (inl e) = absurd (pulled (sym (step_of next it.next is it.is _ e) ∙ step))
            by_touched (inr e) = absurd (plugged (sym (step_of next it.next is it.is _ e) ∙ step))
        by_goes next is step some (inr (inr (inl it))) = absurd (told_settled it.number (sym (step_of next it.next is it.is _ it.step) ∙ step))
        by_goes next is step some (inr (inr (inr (inl it)))) =
            absurd (ended_settled it.it.end.block.alarm_sequence_number (sym (step_of next it.next is it.is _ it.it.now) ∙ step))
        by_goes next is step some (inr (inr (inr (inr (inl it))))) =
            answered_done it.link it.next it.was it.silent it.it (ap (λ (l : RelationState). step_in slot subslot l) (some_same it.next next (sym it.is ∙ is)) ∙ step)
        by_goes next is step some (inr (inr (inr (inr (inr (inl it)))))) =
            kept_done it.link it.was (sym (step_of next it.next is it.is _ it.it.step) ∙ step) (quiet_by it.silent) some
        by_goes next is step some (inr (inr (inr (inr (inr (inr (inl it))))))) = absurd (none_settled (sym (step_of next it.next is it.is _ it.step) ∙ step))
        by_goes next is step some (inr (inr (inr (inr (inr (inr (inr (inl it)))))))) =
            absurd (false_true (sym (ap (λ (xs : List AlarmNotification). concerns_any slot subslot (xs ++ now)) it.empty ∙ quiet_by it.silent) ∙ some))
        by_goes next is step some (inr (inr (inr (inr (inr (inr (inr (inr it)))))))) = absurd (none_some next (sym it.over ∙ is))
