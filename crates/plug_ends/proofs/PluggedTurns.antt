-- The records of one submodule after a plug, with a step of either end.
use Rattle.std.proofs.Common.{◌≡◌, ◌⊎◌, inl, inr, ◌<◌, ◌+◌, ◌++◌, ℕ, suc, Bool, true, false, List, [], ◌∷◌, length, take, Option, Some, None, option_map, refl, sym, ap, subst, ◌∙◌, append-nil, add-one, arith}
use Rattle.std.specs.Prelude.{slice_get, if◌then◌else◌}
use Rattle.std.specs.List.{AllByRecursion}
use Rattle.settings_journal.specs.settings_store.Machine.{Outcome}
use Rattle.frame_codec.specs.declared.udp.Caller.{Caller}
use Rattle.record_blocks.specs.declared.alarm_notification.AlarmNotification.{AlarmNotification}
use Rattle.rpc_core.specs.Call.{Asked as Call}
use Rattle.connects.specs.requests.Request.{Request}
use Rattle.diagnosis.specs.World.{IsPrefixOf}
use Rattle.expected_places.specs.declared.place.Step.{Step}
use Rattle.expected_places.specs.declared.place.Step.TheVariants.{Settled, Pulled, Plugged, Told, Ended, Refused}
use Rattle.records.specs.declared.status.operation.Operation.{Operation}
use Rattle.records.specs.declared.status.operation.Operation.TheVariants as operation
use Rattle.records.specs.status.Operation.{operation_of}
use Rattle.records.specs.declared.writes.taken.TakenRecord.{TakenRecord}
use Rattle.asked_records.specs.Asked.{question_in}
use Rattle.asked_records.specs.Questions.{operation_of as operation_asked}
use Rattle.asked_records.specs.declared.question.Question.{Question}
use Rattle.asked_records.specs.declared.question.Request.{Request as Wanted}
use Rattle.asked_records.specs.declared.question.Request.TheVariants as wanted
use Rattle.relations.specs.RelationState.{RelationState, passes_on}
use Rattle.device_frames.specs.declared.event.Event.TheVariants.{Frame}
use Rattle.device_frames.specs.Heard.{Calls, Heard, Reported, Said, heard_of}
use Rattle.device_frames.specs.Sendable.{AreSendable}
use Rattle.device_core.specs.State.{Live, Station}
use Rattle.device_core.specs.Machine.{heard_step}
use Rattle.controller_messages.specs.declared.plug_request.PlugRequest.{PlugRequest}
use Rattle.controller_messages.specs.declared.plug_request.PlugStep.{PlugStep}
use Rattle.controller_messages.specs.declared.plug_request.PlugStep.TheVariants.{Record, PrmEnd}
use Rattle.controller_messages.specs.declared.setup.Setup.{Setup}
use Rattle.controller_messages.specs.PlugRequests.{plug_call, plug_operation}
use Rattle.controller_messages.specs.Sent.{Sent, Requests, Accesses, Parametrizes, Agrees, Cycles, Confirms, Replies, Ends, bytes_of}
use Rattle.controller_core.specs.stored.State.{Controlling, Live as ControllerLive, with_live}
use Rattle.controller_core.specs.Machine.{step_from}
use Rattle.network_world.specs.World.{is_ended}
use Rattle.end_laws.specs.hearing.Stations.{IsDevice, IsSetup}
use Rattle.end_laws.specs.both.Small as small
use Rattle.end_laws.specs.both.Small.{Ask, Rules, ToController, ToDevice}
use Rattle.end_laws.specs.both.Steps.{DeviceSteps, IsNew}
use Rattle.end_laws.specs.device.Owed.{IsAsking}
use Rattle.end_laws.specs.device.Small.{IsHeardAs, IsPlanned, IsPlannedCall, heard_as}
use Rattle.end_laws.specs.device.Small as device
use Rattle.both_ends.specs.startup.Played.{ArePlaced, IsParameter}
use Rattle.both_ends.specs.startup.View.{is_planned, rules_of, taken_for}
use Rattle.plug_ends.specs.Places.{step_in, taken_at}
use Rattle.plug_ends.specs.Plugged.{EndsWith, records_at}
use Rattle.plug_ends.specs.Taken.{TakesOne, taken_in}
use Rattle.plug_ends.specs.Told.{LastPlug, concerns_any}
use Rattle.plug_ends.proofs.AskedLists.{last_was, plug_here, was_few, was_more}
use Rattle.plug_ends.proofs.AskedWords.{HearsEnd, WasPlug}
use Rattle.plug_ends.proofs.CallsFine.{kept_after}
use Rattle.plug_ends.proofs.CallsFrames.{Grows, IsFrame, covers_old, grows_new, idle_call, nothing_answers}
use Rattle.plug_ends.proofs.CallsRuns.{Held, all_at, kept_for}
use Rattle.plug_ends.proofs.CallsTurns.{none_some, number_in, plugged_is, present_of, some_same}
use Rattle.plug_ends.proofs.DeviceGoes.{TakesRecords, holding_of}
use Rattle.plug_ends.proofs.DeviceTurns.{AnswersAt, EndsAt}
use Rattle.plug_ends.proofs.PluggedDevice.{PluggedSo, came, frames_show, its_call, kept_shows, not_new, unasked, unreported_idle}
use Rattle.plug_ends.proofs.PluggedLists.{IsRecordAt, IsStepAt, ends_more, ends_none, none_before, own_step, planned_before, step_next}
use Rattle.plug_ends.proofs.PluggedState.{AskedSo, Grants, HasEnd, IsBegunNow, IsDead, IsKnownWrite, IsNewIn, IsNextNow, IsWriteBy, Joined, PlugTurns, WasIn, all_of, grants_answers}
use Rattle.plug_ends.proofs.PluggedWorlds.{IsIdle, IsLast, IsNumberedIn, IsPlugFrame, Numbered, beside_alone, device_numbered, next_of, not_first, steps_idle}
use Rattle.plug_ends.proofs.PluggedWrites.{own_more}
use Rattle.plug_ends.proofs.PluggedWritten.{Known, in_more, present_new, same_since, split_in, write_fresh, write_no_end, write_no_release, writes_known}
use Rattle.plug_ends.proofs.ToldGoes.{Goes}
use Rattle.plug_ends.proofs.ToldPlaces.{HasTold, has_told_more}

-- ---- frames

-- PrmEnd after a plug is a call
pub end_small : (setup : Setup) (station : Station) (frame : List ℕ) (number : ℕ) (hears : HearsEnd station.identity frame number)
    → (rules_of setup station).to_device frame ≡ small.Call hears.call.header.sequence small.Parameterized
end_small setup station frame number hears =
    ap (λ (h : Heard). heard_as (is_planned setup) h) hears.is
    ∙ ap (λ (which : Option Operation). device.asked_by (is_planned setup) hears.call.header.sequence
    (Rattle.std.specs.Prelude.unwrap_or hears.call.blocks []) which) hears.asks

-- the device answers calls alone
device_grows : (rules : Rules TakenRecord Request) (heard : ToDevice) (before after : small.Device TakenRecord Request) (frames : List (List ℕ))
    → DeviceSteps rules heard before after frames → Grows before.kept after.kept
device_grows rules (small.Call sequence ask) before after frames (inl it) = inr (record { sequence = sequence; frame = it.frame }, it.keeps, it.new)
device_grows rules (small.Call sequence ask) before after frames (inr (inl it)) = inl (ap (λ (d : small.Device TakenRecord Request). d.kept) it.unchanged)
device_grows rules (small.Call sequence ask) before after frames (inr (inr (inl it))) = inl (ap (λ (d : small.Device TakenRecord Request). d.kept) it.0)
device_grows rules (small.Call sequence ask) before after frames (inr (inr (inr it))) = inl (ap (λ (d : small.Device TakenRecord Request). d.kept) it.becomes)
device_grows rules small.Confirms before after frames (inl it) = inl (ap (λ (d : small.Device TakenRecord Request). d.kept) it.becomes)
device_grows rules small.Confirms before after frames (inr it) = inl it.keeps
device_grows rules small.Idle before after frames (inl it) = inl it.keeps
device_grows rules small.Idle before after frames (inr it) = inr (record { sequence = it.sequence; frame = it.frame }, it.keeps, it.new)

-- a place that is this far is not that far
settled_told : (number : ℕ) → Settled ≡ Told number → ⊥
settled_told number e = absurd cc

settled_ended : (number : ℕ) → Settled ≡ Ended number → ⊥
settled_ended number e = absurd cc

told_same : (one other : ℕ) → Told one ≡ Told other → one ≡ other
told_same one other e = cc

ended_same : (one other : ℕ) → Ended one ≡ Ended other → one ≡ other
ended_same one other e = cc

told_ended : (one other : ℕ) → Told one ≡ Ended other → ⊥
told_ended one other e = absurd cc

told_settled : (one : ℕ) → Told one ≡ Settled → ⊥
told_settled one e = absurd cc

ended_told : (one other : ℕ) → Ended one ≡ Told other → ⊥
ended_told one other e = absurd cc

ended_settled : (one : ℕ) → Ended one ≡ Settled → ⊥
ended_settled one e = absurd cc

record_end : (number : ℕ) → PrmEnd ≡ Record number → ⊥
record_end number e = absurd cc

none_some_step : (step : Step) → None ≡ Some step → ⊥
none_some_step step e = absurd cc

-- ---- a step of the controller

module _ (slot subslot : ℕ) (c : Controlling) (next : ControllerLive) (station : Station) (live : Live) (sent more : List (List ℕ))
    (alarms extra raised : List AlarmNotification) (was : Joined slot subslot c station live sent raised)
    (known : Known c station sent alarms slot subslot) (held : Held c station live sent) (held_now : Held (with_live c next) station live (sent ++ more))
    (goes : PlugTurns c next station sent (sent ++ more))
    (silent : AllByRecursion (λ frame. (rules_of c.setup station).to_controller frame ≡ small.Nothing) more)
    (known_now : (request : PlugRequest) → next.access.plug ≡ Some request → WasPlug request.slot request.subslot request.number (alarms ++ extra))
    (prefix_before : IsPrefixOf alarms raised) (prefix : IsPrefixOf (alarms ++ extra) raised)
    (last_told : (link : RelationState) → live.rest.link ≡ Some link → (number : ℕ) → step_in slot subslot link ≡ Some (Told number)
    → LastPlug slot subslot number raised)
    (stays_ended : is_ended c.live.phase ≡ true → is_ended next.phase ≡ true)
    (numbered_now : is_ended next.phase ≡ false → (IsDead (kept_for c.setup live) → ⊥) → Numbered (with_live c next) station live (sent ++ more))
    (last_stays : is_ended next.phase ≡ false → (IsDead (kept_for c.setup live) → ⊥) → (message : Sent) → present_of c.live ≡ Some message → number_in c.setup.plan message ≡ 4294967295
    → present_of next ≡ Some message)
    (sizes : is_ended next.phase ≡ false → AllByRecursion (λ frame. (sequence : ℕ) (ask : Ask) → (rules_of c.setup station).to_device frame ≡ small.Call sequence ask
    → sequence < 4294967296) more)
    (ending : is_ended next.phase ≡ true → AllByRecursion (λ frame. (sequence : ℕ) (ask : Ask) → (rules_of c.setup station).to_device frame ≡ small.Call sequence ask
    → ask ≡ small.Releases) more) where
  abbrev kept : Option small.Kept
  kept = kept_for c.setup live

  true_false : true ≡ false → ⊥
  true_false e = absurd cc

  going_before : is_ended next.phase ≡ false → is_ended c.live.phase ≡ false
  going_before e = by_ended (is_ended c.live.phase) refl
    where
      by_ended : (b : Bool) → is_ended c.live.phase ≡ b → is_ended c.live.phase ≡ false
      by_ended true f = absurd (true_false (sym (stays_ended f) ∙ e))
      by_ended false f = f

  going_now : (request : PlugRequest) → next.access.plug ≡ Some request → is_ended next.phase ≡ false
  going_now request e = (beside_alone c.setup.plan next request held_now.steady e).1

  below_new : (number bound : ℕ) (answer : Option small.Kept) → number ≡ bound → ((found : small.Kept) → answer ≡ Some found → found.sequence < bound) → IsNew number answer
  below_new number bound None same less = tt
  below_new number bound (Some answer) same less =
      let under = less answer refl in
      omega (arith, under, same)

  -- the number of a request that is made is new
  fresh : (IsDead kept → ⊥) → (request : PlugRequest) → next.access.plug ≡ Some request → request.sequence ≡ next_of c → IsNew request.sequence kept
  fresh alive request e same = by_next numbered.next
    where
      numbered : Numbered c station live sent
      numbered = was.numbered (going_before (going_now request e)) alive

      by_next : (next_of c ≡ numbered.bound) ⊎ ((next_of c ≡ 0) × IsLast c) → IsNew request.sequence kept
      by_next (inl at) = below_new request.sequence numbered.bound kept (same ∙ at) numbered.kept
      by_next (inr last) =
          absurd (not_first c.setup.plan next request held_now.steady e (same ∙ last.0) last.1.0 (last_stays (going_now request e) alive last.1.0 last.1.1 last.1.2) last.1.2)

  -- so no frame grants it
  none_grants : (sequence : ℕ) → IsNew sequence kept → (frame : List ℕ) → IsFrame (rules_of c.setup station) kept held_now.last (is_ended next.phase) frame
      → Grants c.setup sequence frame → ⊥
  none_grants sequence is_new frame is grants =
      covers_old sequence kept (is.answers sequence _ (grants_answers c.setup sequence frame grants)) is_new

  nothing_granted : (since : List TakenRecord) (request : PlugRequest) → IsNew request.sequence kept
      → EndsWith since (planned_before c.setup.plan slot subslot request.step) → AskedSo slot subslot c.setup live (sent ++ more) since request
  nothing_granted since request is_new ends = record {
    new = λ e. ends;
    granted = λ number is frame there grants. absurd (none_grants request.sequence is_new frame
        (all_at _ (sent ++ more) held_now.holds.frames there.0 frame there.1) grants);
    again = λ number is answer e grants. absurd (none_grants request.sequence is_new answer.frame (held_now.holds.again answer e) grants);
  }

  asked_now : (link : RelationState) → live.rest.link ≡ Some link → (request : PlugRequest) → next.access.plug ≡ Some request
      → request.slot ≡ slot → request.subslot ≡ subslot → step_in slot subslot link ≡ Some (Told request.number) → (IsDead kept → ⊥)
      → AskedSo slot subslot c.setup live (sent ++ more) (taken_at slot subslot link.taken) request
  asked_now link is request e slot_is subslot_is told_is alive = by_goes goes
    where
      from_here : (from : ℕ) (one : PlugRequest) → one.slot ≡ slot → one.subslot ≡ subslot → one.step ≡ step_from c.setup.plan one.slot one.subslot from
          → one.step ≡ step_from c.setup.plan slot subslot from
      from_here from one at below step =
          step ∙ (ap (λ (s : ℕ). step_from c.setup.plan s one.subslot from) at ∙ ap (λ (s : ℕ). step_from c.setup.plan slot s from) below)

      same_asked : c.live.access.plug ≡ Some request → AskedSo slot subslot c.setup live (sent ++ more) (taken_at slot subslot link.taken) request
      same_asked waits =
          let old = was.asked link is request waits slot_is subslot_is told_is alive in
          record {
            new = old.new;
            granted = λ number step_is frame there grants. by_split old number step_is frame grants (split_in sent more frame there);
            again = old.again;
          }
        where
          by_split : AskedSo slot subslot c.setup live sent (taken_at slot subslot link.taken) request → (number : ℕ) → request.step ≡ Record number → (frame : List ℕ)
              → Grants c.setup request.sequence frame → WasIn sent frame ⊎ WasIn more frame
              → EndsWith (taken_at slot subslot link.taken) (records_at slot subslot (take (suc number) c.setup.plan.records.items))
          by_split old number step_is frame grants (inl there) = old.granted number step_is frame there grants
          by_split old number step_is frame grants (inr there) =
              absurd (nothing_answers request.sequence _
              (sym (all_at (λ f. (rules_of c.setup station).to_controller f ≡ small.Nothing) more silent there.0 frame there.1)
              ∙ grants_answers c.setup request.sequence frame grants))

      begun_asked : IsBegunNow c next station sent (sent ++ more) → AskedSo slot subslot c.setup live (sent ++ more) (taken_at slot subslot link.taken) request
      begun_asked it =
          let same : it.request ≡ request = some_same it.request request (sym it.is ∙ e) in
          subst (λ (r : PlugRequest). AskedSo slot subslot c.setup live (sent ++ more) (taken_at slot subslot link.taken) r) same
          (nothing_granted (taken_at slot subslot link.taken) it.request (fresh alive it.request it.is it.sequence)
          (subst (λ (xs : List TakenRecord). EndsWith (taken_at slot subslot link.taken) xs)
          (sym (none_before c.setup.plan slot subslot it.request.step
          (from_here 0 it.request (ap (λ (r : PlugRequest). r.slot) same ∙ slot_is) (ap (λ (r : PlugRequest). r.subslot) same ∙ subslot_is) it.step)))
          (ends_none (taken_at slot subslot link.taken))))

      next_asked : IsNextNow c next station sent (sent ++ more) → AskedSo slot subslot c.setup live (sent ++ more) (taken_at slot subslot link.taken) request
      next_asked it =
          let same : it.request ≡ request = some_same it.request request (sym it.is ∙ e) in
          let at : it.request.slot ≡ slot = ap (λ (r : PlugRequest). r.slot) same ∙ slot_is in
          let below : it.request.subslot ≡ subslot = ap (λ (r : PlugRequest). r.subslot) same ∙ subslot_is in
          let number_same : it.last.number ≡ request.number = sym it.number_is ∙ ap (λ (r : PlugRequest). r.number) same in
          let old = was.asked link is it.last it.was (sym it.slot_is ∙ at) (sym it.subslot_is ∙ below)
          (told_is ∙ ap (λ (n : ℕ). Some (Told n)) (sym number_same)) alive in
          let ends = old.granted it.number it.record_is it.frame it.there it.grants in
          let step : it.request.step ≡ step_from c.setup.plan slot subslot (it.number + 1) = from_here (it.number + 1) it.request at below it.step in
          let before : planned_before c.setup.plan slot subslot it.request.step
          ≡ records_at slot subslot (take (suc it.number) c.setup.plan.records.items) =
          ap (λ (s : PlugStep). planned_before c.setup.plan slot subslot s) step
          ∙ ((step_next c.setup.plan slot subslot (it.number + 1)).before
          ∙ ap (λ (n : ℕ). records_at slot subslot (take n c.setup.plan.records.items)) (add-one it.number)) in
          subst (λ (r : PlugRequest). AskedSo slot subslot c.setup live (sent ++ more) (taken_at slot subslot link.taken) r) same
          (nothing_granted (taken_at slot subslot link.taken) it.request (fresh alive it.request it.is it.sequence) (subst (λ (xs : List TakenRecord). EndsWith (taken_at slot subslot link.taken) xs) (sym before) ends))

      by_goes : PlugTurns c next station sent (sent ++ more) → AskedSo slot subslot c.setup live (sent ++ more) (taken_at slot subslot link.taken) request
      by_goes (inl it) = same_asked (sym it.0 ∙ e)
      by_goes (inr (inl it)) = absurd (none_some request (sym it.0 ∙ e))
      by_goes (inr (inr (inl it))) = begun_asked it
      by_goes (inr (inr (inr it))) = next_asked it

  in_raised : (at below other : ℕ) → WasPlug at below other (alarms ++ extra) → WasPlug at below other raised
  in_raised at below other plug = subst (λ (xs : List AlarmNotification). WasPlug at below other xs) prefix.1 (was_more at below other (alarms ++ extra) prefix.0 plug)

  -- PrmEnd that is sent now
  own_end : (link : RelationState) → live.rest.link ≡ Some link → (number : ℕ) → step_in slot subslot link ≡ Some (Told number) → (request : PlugRequest)
      → next.access.plug ≡ Some request → request.sequence ≡ next_of c → request.step ≡ PrmEnd → request.number ≡ number → (IsDead kept → ⊥)
      → EndsWith (taken_at slot subslot link.taken) (all_of slot subslot c.setup)
  own_end link is number told_is request e sequence step_is number_is alive =
      let last = last_told link is number told_is in
      let plug : WasPlug request.slot request.subslot number raised =
      subst (λ (n : ℕ). WasPlug request.slot request.subslot n raised) number_is
      (in_raised request.slot request.subslot request.number (known_now request e)) in
      let place = plug_here request.slot request.subslot slot subslot number raised plug (last_was slot subslot number raised last) in
      let ends = (asked_now link is request e place.0 place.1 (told_is ∙ ap (λ (n : ℕ). Some (Told n)) (sym number_is)) alive).new (fresh alive request e sequence) in
      subst (λ (step : PlugStep). EndsWith (taken_at slot subslot link.taken) (planned_before c.setup.plan slot subslot step)) step_is ends

  told_now : (link : RelationState) → live.rest.link ≡ Some link → (number : ℕ) → step_in slot subslot link ≡ Some (Told number)
      → (frame : List ℕ) → WasIn (sent ++ more) frame → HearsEnd station.identity frame number → IsNewIn c.setup station live frame
      → EndsWith (taken_at slot subslot link.taken) (all_of slot subslot c.setup)
  told_now link is number told_is frame there hears is_new = by_split (split_in sent more frame there)
    where
      old : WasIn sent frame → EndsWith (taken_at slot subslot link.taken) (all_of slot subslot c.setup)
      old before = was.told link is number told_is frame before hears is_new

      by_none : WasIn sent frame ⊎ ⊥ → EndsWith (taken_at slot subslot link.taken) (all_of slot subslot c.setup)
      by_none (inl before) = old before
      by_none (inr never) = absurd never

      alive_of : WasIn more frame → is_ended next.phase ≡ false → IsDead kept → ⊥
      alive_of now going dead =
          dead is_new.sequence (all_at _ more (sizes going) now.0 frame now.1 is_new.sequence is_new.ask is_new.is) is_new.new

      by_begun : (it : IsBegunNow c next station sent (sent ++ more)) → WasIn more frame → WasIn sent frame ⊎ ((it.request.step ≡ PrmEnd) × (it.request.number ≡ number)) → EndsWith (taken_at slot subslot link.taken) (all_of slot subslot c.setup)
      by_begun it here (inl before) = old before
      by_begun it here (inr now) =
          own_end link is number told_is it.request it.is it.sequence now.0 now.1 (λ dead. alive_of here (going_now it.request it.is) dead)

      by_next : (it : IsNextNow c next station sent (sent ++ more)) → WasIn more frame → WasIn sent frame ⊎ ((it.request.step ≡ PrmEnd) × (it.request.number ≡ number)) → EndsWith (taken_at slot subslot link.taken) (all_of slot subslot c.setup)
      by_next it here (inl before) = old before
      by_next it here (inr now) =
          own_end link is number told_is it.request it.is it.sequence now.0 now.1 (λ dead. alive_of here (going_now it.request it.is) dead)

      by_goes : WasIn more frame → PlugTurns c next station sent (sent ++ more) → EndsWith (taken_at slot subslot link.taken) (all_of slot subslot c.setup)
      by_goes here (inl it) = by_none (it.1 frame number there hears)
      by_goes here (inr (inl it)) = by_none (it.1 frame number there hears)
      by_goes here (inr (inr (inl it))) = by_begun it here (it.ended frame number there hears)
      by_goes here (inr (inr (inr it))) = by_next it here (it.ended frame number there hears)

      by_split : WasIn sent frame ⊎ WasIn more frame → EndsWith (taken_at slot subslot link.taken) (all_of slot subslot c.setup)
      by_split (inl before) = old before
      by_split (inr here) = by_goes here goes

  end_more : (number : ℕ) → HasEnd slot subslot station sent number → HasEnd slot subslot station (sent ++ more) number
  end_more number it = (it.0, in_more sent more it.0 it.1, it.2)

  -- after the end no parameters of a plug end
  ends_before : is_ended next.phase ≡ true → (frame : List ℕ) (number : ℕ) → WasIn (sent ++ more) frame → HearsEnd station.identity frame number → WasIn sent frame
  ends_before over frame number there hears = by_goes goes
    where
      by_none : WasIn sent frame ⊎ ⊥ → WasIn sent frame
      by_none (inl before) = before
      by_none (inr never) = absurd never

      by_goes : PlugTurns c next station sent (sent ++ more) → WasIn sent frame
      by_goes (inl it) = by_none (it.1 frame number there hears)
      by_goes (inr (inl it)) = by_none (it.1 frame number there hears)
      by_goes (inr (inr (inl it))) = absurd (true_false (sym over ∙ going_now it.request it.is))
      by_goes (inr (inr (inr it))) = absurd (true_false (sym over ∙ going_now it.request it.is))

  late_now : is_ended next.phase ≡ true → (frame : List ℕ) → WasIn (sent ++ more) frame → (is_new : IsNewIn c.setup station live frame)
      → (is_new.ask ≡ small.Parameterized → ⊥) → (is_new.ask ≡ small.Releases → ⊥)
      → IsKnownWrite slot subslot raised c.setup station (sent ++ more) frame
  late_now over frame there is_new no_end no_release = by_split (split_in sent more frame there)
    where
      by_message : (m : Sent) → IsWriteBy slot subslot raised c.setup station sent m → IsWriteBy slot subslot raised c.setup station (sent ++ more) m
      by_message (Requests to request) by = λ other number other_there hears. by other number (ends_before over other number other_there hears) hears
      by_message (Accesses to request octets) by = by
      by_message (Parametrizes to request) by = (
        by.0,
        by.1,
        by.2,
        by.3,
        λ slot_is subslot_is number step_is other other_number other_there hears.
            let end = by.4 slot_is subslot_is number step_is other other_number (ends_before over other other_number other_there hears) hears in
            (end.0, end.1, end.2, end.3),
      )
      by_message (Agrees caller answer) by = by
      by_message (Cycles route shown counter) by = by
      by_message (Confirms route priority header ack) by = by
      by_message (Replies route priority header) by = by
      by_message (Ends route header reason) by = by

      by_split : WasIn sent frame ⊎ WasIn more frame → IsKnownWrite slot subslot raised c.setup station (sent ++ more) frame
      by_split (inl before) =
          let it = writes_known slot subslot c station live sent alarms raised prefix_before held was known frame before is_new no_end no_release in
          record { message = it.message; is = it.is; by = by_message it.message it.by }
      by_split (inr now) = absurd (no_release (all_at _ more (ending over) now.0 frame now.1 is_new.sequence is_new.ask is_new.is))

  own_now : (request : PlugRequest) → next.access.plug ≡ Some request → IsStepAt c.setup.plan request.slot request.subslot request.step
  own_now request e = by_goes goes
    where
      to : (one : PlugRequest) → next.access.plug ≡ Some one → IsStepAt c.setup.plan one.slot one.subslot one.step
          → IsStepAt c.setup.plan request.slot request.subslot request.step
      to one f is = subst (λ (r : PlugRequest). IsStepAt c.setup.plan r.slot r.subslot r.step) (some_same one request (sym f ∙ e)) is

      by_goes : PlugTurns c next station sent (sent ++ more) → IsStepAt c.setup.plan request.slot request.subslot request.step
      by_goes (inl it) = was.own request (sym it.0 ∙ e)
      by_goes (inr (inl it)) = absurd (none_some request (sym it.0 ∙ e))
      by_goes (inr (inr (inl it))) = to it.request it.is (own_step c.setup.plan it.request.slot it.request.subslot 0 it.request.step it.step)
      by_goes (inr (inr (inr it))) = to it.request it.is (own_step c.setup.plan it.request.slot it.request.subslot (it.number + 1) it.request.step it.step)

  pub controller_joined : Joined slot subslot (with_live c next) station live (sent ++ more) raised
  controller_joined = record {
    asked = asked_now;
    told = told_now;
    ended = λ link is number step.
        let it = was.ended link is number step in
        (it.0, end_more number it.1);
    settled = λ link is step some.
        let it = was.settled link is step some in
        (it.0, it.1, it.2, end_more it.1 it.3);
    late = late_now;
    own = own_now;
    unnamed = was.unnamed;
    idle = was.idle;
    numbered = numbered_now;
  }

-- ---- a step of the device

module _ (so : PluggedSo) (slot subslot : ℕ) (c : Controlling) (station : Station) (live : Live) (sent : List (List ℕ)) (outcomes : List Outcome) (heard : Heard)
    (good : IsSetup c.setup) (real : IsDevice station.identity)
    (planned : IsPlanned (rules_of c.setup station) c.setup.activity station.named live.rest.real heard)
    (meant : AllByRecursion (IsHeardAs (rules_of c.setup station) station.identity) (heard_step outcomes station live heard).sent)
    (sendable : AreSendable station.identity (heard_step outcomes station live heard).sent)
    (steps : DeviceSteps (rules_of c.setup station) (heard_as (is_planned c.setup) heard) (device.small_of c.setup.activity live)
    (device.small_of c.setup.activity (heard_step outcomes station live heard).live) (heard_step outcomes station live heard).frames)
    (from : ((frame : List ℕ) × WasIn sent frame × (heard ≡ heard_of station.identity (Frame (record { items = frame }))))
    ⊎ ((caller : Caller) (address : List ℕ) (said : Said) → heard ≡ Reported caller address said → ⊥))
    (keeps : (link : RelationState) → live.rest.link ≡ Some link → passes_on link ≡ false)
    (placed : ArePlaced c.setup.plan.records.items) (parameters : AllByRecursion IsParameter c.setup.plan.records.items)
    (alarms raised now : List AlarmNotification) (was : Joined slot subslot c station live sent raised) (held : Held c station live sent)
    (known : Known c station sent alarms slot subslot) (prefix : IsPrefixOf alarms raised)
    (goes : Goes slot subslot live heard live.rest.link (heard_step outcomes station live heard).live.rest.link raised now)
    (told : (link : RelationState) → live.rest.link ≡ Some link → (step : Step) → step_in slot subslot link ≡ Some step → HasTold slot subslot step raised) where
  abbrev after : Live
  after = (heard_step outcomes station live heard).live

  abbrev frames : List (List ℕ)
  frames = (heard_step outcomes station live heard).frames

  abbrev rules : Rules TakenRecord Request
  rules = rules_of c.setup station

  idle_frames : AllByRecursion (IsIdle rules) frames
  idle_frames = steps_idle rules (heard_as (is_planned c.setup) heard) (device.small_of c.setup.activity live) (device.small_of c.setup.activity after) frames steps was.idle

  -- a call in a frame that was sent is one that was sent before
  call_before : (frame : List ℕ) → WasIn (sent ++ frames) frame → (sequence : ℕ) (ask : Ask) → rules.to_device frame ≡ small.Call sequence ask → WasIn sent frame
  call_before frame there sequence ask e = by_split (split_in sent frames frame there)
    where
      by_split : WasIn sent frame ⊎ WasIn frames frame → WasIn sent frame
      by_split (inl before) = before
      by_split (inr fresh) = absurd (idle_call sequence ask (sym (all_at (IsIdle rules) frames idle_frames fresh.0 frame fresh.1) ∙ e))

  grows : Grows (kept_for c.setup live) (kept_for c.setup after)
  grows = device_grows rules (heard_as (is_planned c.setup) heard) (device.small_of c.setup.activity live) (device.small_of c.setup.activity after) frames steps

  new_before : (sequence : ℕ) → IsNew sequence (kept_for c.setup after) → IsNew sequence (kept_for c.setup live)
  new_before sequence is_new = grows_new (kept_for c.setup live) (kept_for c.setup after) grows sequence is_new

  alive_before : (IsDead (kept_for c.setup after) → ⊥) → IsDead (kept_for c.setup live) → ⊥
  alive_before alive dead = alive (λ sequence few is_new. dead sequence few (new_before sequence is_new))

  fresh_before : (frame : List ℕ) → IsNewIn c.setup station after frame → IsNewIn c.setup station live frame
  fresh_before frame it = record { sequence = it.sequence; ask = it.ask; is = it.is; new = new_before it.sequence it.new }

  has_more : (number : ℕ) → HasEnd slot subslot station sent number → HasEnd slot subslot station (sent ++ frames) number
  has_more number it = (it.0, in_more sent frames it.0 it.1, it.2)

  raised_has : (at below other : ℕ) → WasPlug at below other alarms → WasPlug at below other raised
  raised_has at below other plug = subst (λ (xs : List AlarmNotification). WasPlug at below other xs) prefix.1 (was_more at below other alarms prefix.0 plug)

  too_many : (at below number : ℕ) → number ≡ length raised → WasPlug at below number alarms → ⊥
  too_many at below number count plug =
      let few = was_few at below number raised (raised_has at below number plug) in
      not_less few count
    where
      not_less : number < length raised → number ≡ length raised → ⊥
      not_less less same = omega (arith, less, same)

  -- a call comes in a frame
  framed : (caller : Caller) (address : List ℕ) (call : Call) → heard ≡ Reported caller address (Calls call)
      → (frame : List ℕ) × WasIn sent frame × (heard ≡ heard_of station.identity (Frame (record { items = frame })))
  framed caller address call e = by_from from
    where
      by_from : ((frame : List ℕ) × WasIn sent frame × (heard ≡ heard_of station.identity (Frame (record { items = frame }))))
          ⊎ ((caller : Caller) (address : List ℕ) (said : Said) → heard ≡ Reported caller address said → ⊥)
          → (frame : List ℕ) × WasIn sent frame × (heard ≡ heard_of station.identity (Frame (record { items = frame })))
      by_from (inl it) = it
      by_from (inr un) = absurd (un caller address (Calls call) e)

  same_since_at : (write : TakesRecords live heard live.rest.link after.rest.link) (link next : RelationState) → live.rest.link ≡ Some link → after.rest.link ≡ Some next
      → taken_at slot subslot next.taken ≡ taken_at slot subslot link.taken ++ taken_at slot subslot write.values
      → (number : ℕ) → LastPlug slot subslot number raised → HasEnd slot subslot station sent number
      → taken_at slot subslot next.taken ≡ taken_at slot subslot link.taken
  same_since_at write link next before_is after_is since number last ended =
      let it = framed write.caller write.came.address write.call write.came.is in
      same_since so slot subslot c station live sent outcomes heard good planned placed parameters write it.0 it.2 link next before_is after_is since raised
      number last ended
      (writes_known slot subslot c station live sent alarms raised prefix held was known it.0 it.1
      (write_fresh so slot subslot c station live sent outcomes heard good planned placed parameters write it.0 it.2)
      (write_no_end so slot subslot c station live sent outcomes heard good planned placed parameters write it.0 it.2)
      (write_no_release so slot subslot c station live sent outcomes heard good planned placed parameters write it.0 it.2))

  -- ---- the request that waits, while its place is reported

  module _ (link next : RelationState) (before_is : live.rest.link ≡ Some link) (after_is : after.rest.link ≡ Some next) (request : PlugRequest)
      (waits : c.live.access.plug ≡ Some request) (slot_is : request.slot ≡ slot) (subslot_is : request.subslot ≡ subslot)
      (alive : IsDead (kept_for c.setup live) → ⊥)
      (old : AskedSo slot subslot c.setup live sent (taken_at slot subslot link.taken) request) where
    abbrev since : List TakenRecord
    since = taken_at slot subslot link.taken

    abbrev later : List TakenRecord
    later = taken_at slot subslot next.taken

    going : is_ended c.live.phase ≡ false
    going = (beside_alone c.setup.plan c.live request held.steady waits).1

    numbered : Numbered c station live sent
    numbered = was.numbered going alive

    -- it is PrmEnd, or another call came: nothing was accepted
    same_asked : later ≡ since → request.step ≡ PrmEnd → AskedSo slot subslot c.setup after (sent ++ frames) later request
    same_asked same step_is = record {
      new = λ is_new. subst (λ (xs : List TakenRecord). EndsWith xs (planned_before c.setup.plan slot subslot request.step)) (sym same)
          (old.new (new_before request.sequence is_new));
      granted = λ number is. absurd (record_end number (sym step_is ∙ is));
      again = λ number is. absurd (record_end number (sym step_is ∙ is));
    }

    module _ (number : ℕ) (step_is : request.step ≡ Record number) where
      own : IsRecordAt c.setup.plan request.slot request.subslot number
      own = subst (λ (step : PlugStep). IsStepAt c.setup.plan request.slot request.subslot step) step_is (was.own request waits)

      abbrev More : Type 0
      More = TakesOne (taken_for own.entry) live.rest.link after.rest.link

      -- nothing was accepted, or the record of the request, whose call was new
      abbrev Since : Type 0
      Since = (later ≡ since) ⊎ (More × IsNew request.sequence (kept_for c.setup live))

      one_more : More → later ≡ since ++ taken_for own.entry ∷ []
      one_more more =
          let before_taken : more.link.taken ≡ link.taken =
          some_same more.link.taken link.taken (sym (ap (λ (l : Option RelationState). taken_in l) more.was) ∙ ap (λ (l : Option RelationState). taken_in l) before_is) in
          ap (λ (xs : List TakenRecord). taken_at slot subslot xs)
          (some_same next.taken (more.link.taken ++ taken_for own.entry ∷ []) (sym (ap (λ (l : Option RelationState). taken_in l) after_is) ∙ more.becomes)
          ∙ ap (λ (xs : List TakenRecord). xs ++ taken_for own.entry ∷ []) before_taken)
          ∙ own_more slot subslot link.taken (taken_for own.entry) (sym own.slot_is ∙ slot_is) (sym own.subslot_is ∙ subslot_is)

      here : (xs : List TakenRecord) → records_at slot subslot (take (suc number) c.setup.plan.records.items)
          ≡ records_at slot subslot (take number c.setup.plan.records.items) ++ taken_for own.entry ∷ []
      here xs =
          subst (λ (s : ℕ). records_at s subslot (take (suc number) c.setup.plan.records.items)
          ≡ records_at s subslot (take number c.setup.plan.records.items) ++ taken_for own.entry ∷ []) slot_is
          (subst (λ (s : ℕ). records_at request.slot s (take (suc number) c.setup.plan.records.items)
          ≡ records_at request.slot s (take number c.setup.plan.records.items) ++ taken_for own.entry ∷ []) subslot_is own.more)

      more_ends : More → IsNew request.sequence (kept_for c.setup live) → EndsWith later (records_at slot subslot (take (suc number) c.setup.plan.records.items))
      more_ends more is_new =
          let before : EndsWith since (records_at slot subslot (take number c.setup.plan.records.items)) =
          subst (λ (step : PlugStep). EndsWith since (planned_before c.setup.plan slot subslot step)) step_is (old.new is_new) in
          subst (λ (xs : List TakenRecord). EndsWith later xs) (sym (here later))
          (subst (λ (xs : List TakenRecord). EndsWith xs (records_at slot subslot (take number c.setup.plan.records.items) ++ taken_for own.entry ∷ []))
          (sym (one_more more)) (ends_more since (records_at slot subslot (take number c.setup.plan.records.items)) (taken_for own.entry ∷ []) before))

      none_granted : IsNew request.sequence (kept_for c.setup live) → (frame : List ℕ)
          → IsFrame rules (kept_for c.setup live) held.last (is_ended c.live.phase) frame → Grants c.setup request.sequence frame → ⊥
      none_granted is_new frame is grants =
          covers_old request.sequence (kept_for c.setup live) (is.answers request.sequence _ (grants_answers c.setup request.sequence frame grants)) is_new

      old_ends : Since → EndsWith since (records_at slot subslot (take (suc number) c.setup.plan.records.items)) → (IsNew request.sequence (kept_for c.setup live) → ⊥)
          → EndsWith later (records_at slot subslot (take (suc number) c.setup.plan.records.items))
      old_ends (inl same) ends not_fresh =
          subst (λ (xs : List TakenRecord). EndsWith xs (records_at slot subslot (take (suc number) c.setup.plan.records.items))) (sym same) ends
      old_ends (inr one) ends not_fresh = absurd (not_fresh one.1)

      kept_ends : Since → (answer : small.Kept) → kept_for c.setup live ≡ Some answer → Grants c.setup request.sequence answer.frame
          → EndsWith later (records_at slot subslot (take (suc number) c.setup.plan.records.items))
      kept_ends how answer e grants =
          old_ends how (old.again number step_is answer e grants) (λ is_new. none_granted is_new answer.frame (held.holds.again answer e) grants)

      abbrev Shown : List ℕ → Type 0
      Shown frame = (More × IsNew request.sequence (kept_for c.setup live))
          ⊎ ((answer : small.Kept) × (kept_for c.setup live ≡ Some answer) × (answer.frame ≡ frame))

      shown_ends : Since → (frame : List ℕ) → Grants c.setup request.sequence frame → Shown frame
          → EndsWith later (records_at slot subslot (take (suc number) c.setup.plan.records.items))
      shown_ends how frame grants (inl it) = more_ends it.0 it.1
      shown_ends how frame grants (inr it) =
          kept_ends how it.0 it.1 (subst (λ (f : List ℕ). Grants c.setup request.sequence f) (sym it.2) grants)

      number_is : (n : ℕ) → request.step ≡ Record n → number ≡ n
      number_is n e = record_same (sym step_is ∙ e)
        where
          record_same : Record number ≡ Record n → number ≡ n
          record_same f = cc

      abbrev IsAtEnd : ℕ → Type 0
      IsAtEnd n = EndsWith later (records_at slot subslot (take (suc n) c.setup.plan.records.items))

      record_asked : Since → (More → IsNew request.sequence (kept_for c.setup after) → ⊥) → AskedSo slot subslot c.setup after (sent ++ frames) later request
      record_asked how over = record {
        new = λ is_new. by_new how is_new;
        granted = λ n is frame there grants. subst IsAtEnd (number_is n is) (by_split frame grants (split_in sent frames frame there));
        again = λ n is answer e grants. subst IsAtEnd (number_is n is)
            (shown_ends how answer.frame grants
            (kept_shows so c station live sent outcomes heard good real planned meant sendable steps from numbered keeps request waits number step_is own placed parameters
            was.unnamed answer e grants));
      }
        where
          by_new : Since → IsNew request.sequence (kept_for c.setup after) → EndsWith later (planned_before c.setup.plan slot subslot request.step)
          by_new (inl same) is_new = subst (λ (xs : List TakenRecord). EndsWith xs (planned_before c.setup.plan slot subslot request.step)) (sym same)
              (old.new (new_before request.sequence is_new))
          by_new (inr one) is_new = absurd (over one.0 is_new)

          by_split : (frame : List ℕ) → Grants c.setup request.sequence frame → WasIn sent frame ⊎ WasIn frames frame → IsAtEnd number
          by_split frame grants (inl there) =
              old_ends how (old.granted number step_is frame there grants)
              (λ is_new. none_granted is_new frame (all_at _ sent held.holds.frames there.0 frame there.1) grants)
          by_split frame grants (inr there) =
              shown_ends how frame grants
              (all_at _ frames
              (frames_show so c station live sent outcomes heard good real planned meant sendable steps from numbered keeps request waits number step_is own placed parameters
              was.unnamed) there.0 frame there.1 grants)

      -- the Write of the request, or of nothing else
      taken_asked : (write : TakesRecords live heard live.rest.link after.rest.link) → AskedSo slot subslot c.setup after (sent ++ frames) later request
      taken_asked write =
          let it = framed write.caller write.came.address write.call write.came.is in
          let fresh = write_fresh so slot subslot c station live sent outcomes heard good planned placed parameters write it.0 it.2 in
          let present = present_new slot subslot c station live sent alarms raised prefix held was known going it.0 it.1 fresh
          (write_no_end so slot subslot c station live sent outcomes heard good planned placed parameters write it.0 it.2)
          (write_no_release so slot subslot c station live sent outcomes heard good planned placed parameters write it.0 it.2) in
          let alone = (beside_alone c.setup.plan c.live request held.steady waits).0 in
          let message : present.0 ≡ Parametrizes c.live.device request =
          some_same present.0 (Parametrizes c.live.device request) (sym present.1 ∙ plugged_is c.live request alone waits) in
          let plug : IsPlugFrame c.setup request it.0 = record {
            to = c.live.device;
            mac = known.aimed.device;
            can = subst (λ (p : Option PlugRequest). Rattle.end_laws.specs.sending.Sized.IsPlugging p) waits known.aimed.access.1;
            is = sym present.2 ∙ ap (λ (m : Sent). bytes_of c.setup m) message;
          } in
          let heard_small : heard_as (is_planned c.setup) heard ≡ small.Call fresh.sequence fresh.ask = ap (λ (h : Heard). heard_as (is_planned c.setup) h) it.2 ∙ fresh.is in
          let call = its_call so c station live sent outcomes heard good real planned meant sendable steps from numbered keeps request waits number step_is own placed
          parameters was.unnamed it.0 plug it.2 fresh.sequence fresh.ask heard_small in
          record_asked
          (by_came (by_fresh call fresh heard_small)
          (came so c station live sent outcomes heard good real planned meant sendable steps from numbered keeps request waits number step_is own placed parameters
          was.unnamed call))
          (not_new so c station live sent outcomes heard good real planned meant sendable steps from numbered keeps request waits number step_is own placed parameters
          was.unnamed call)
        where
          by_fresh : Rattle.plug_ends.proofs.PluggedDevice.IsItsCall so c station live sent outcomes heard good real planned meant sendable steps from numbered keeps
              request waits number step_is own placed parameters was.unnamed
              → (fresh : IsNewIn c.setup station live (framed write.caller write.came.address write.call write.came.is).0)
              → heard_as (is_planned c.setup) heard ≡ small.Call fresh.sequence fresh.ask → IsNew request.sequence (kept_for c.setup live)
          by_fresh call fresh e =
              let small_is = Rattle.plug_ends.proofs.PluggedDevice.plug_small c.setup call.caller call.address request number step_is (is_planned c.setup) in
              subst (λ (n : ℕ). IsNew n (kept_for c.setup live))
              (call_same fresh.sequence request.sequence fresh.ask small_is.0
              (sym e ∙ (ap (λ (h : Heard). heard_as (is_planned c.setup) h) call.is ∙ small_is.1))) fresh.new
            where
              call_same : (one other : ℕ) (ask other_ask : Ask) → small.Call one ask ≡ small.Call other other_ask → one ≡ other
              call_same one other ask other_ask f = cc

          by_came : IsNew request.sequence (kept_for c.setup live) → (taken_in after.rest.link ≡ taken_in live.rest.link) ⊎ More → Since
          by_came is_new (inl same) =
              inl (ap (λ (xs : List TakenRecord). taken_at slot subslot xs)
              (some_same next.taken link.taken
              (sym (ap (λ (l : Option RelationState). taken_in l) after_is) ∙ (same ∙ ap (λ (l : Option RelationState). taken_in l) before_is))))
          by_came is_new (inr one) = inr (one, is_new)

    -- PrmEnd is no Write
    end_no_write : request.step ≡ PrmEnd → TakesRecords live heard live.rest.link after.rest.link → ⊥
    end_no_write step_is write =
        let it = framed write.caller write.came.address write.call write.came.is in
        let fresh = write_fresh so slot subslot c station live sent outcomes heard good planned placed parameters write it.0 it.2 in
        let present = present_new slot subslot c station live sent alarms raised prefix held was known going it.0 it.1 fresh
        (write_no_end so slot subslot c station live sent outcomes heard good planned placed parameters write it.0 it.2)
        (write_no_release so slot subslot c station live sent outcomes heard good planned placed parameters write it.0 it.2) in
        let alone = (beside_alone c.setup.plan c.live request held.steady waits).0 in
        let message : present.0 ≡ Parametrizes c.live.device request =
        some_same present.0 (Parametrizes c.live.device request) (sym present.1 ∙ plugged_is c.live request alone waits) in
        let there : heard ≡ heard_of station.identity (Frame (record { items = bytes_of c.setup (Parametrizes c.live.device request) })) =
        it.2 ∙ ap (λ (octets : List ℕ). heard_of station.identity (Frame (record { items = octets })))
        (sym present.2 ∙ ap (λ (m : Sent). bytes_of c.setup m) message) in
        let heard_small : heard_as (is_planned c.setup) heard ≡ small.Call fresh.sequence fresh.ask = ap (λ (h : Heard). heard_as (is_planned c.setup) h) it.2 ∙ fresh.is in
        let call = Rattle.plug_ends.proofs.PluggedDevice.frame_call so station.identity c.setup c.live.device (plug_call c.setup request) good known.aimed.device
        (so.fine.heard.plug_call_can c.setup request good
        (subst (λ (p : Option PlugRequest). Rattle.end_laws.specs.sending.Sized.IsPlugging p) waits known.aimed.access.1))
        (is_planned c.setup) fresh.sequence fresh.ask (ap (λ (h : Heard). heard_as (is_planned c.setup) h) (sym there) ∙ heard_small) in
        control_write (ap (λ (step : PlugStep). operation_of (plug_operation step)) (sym step_is)
        ∙ (ap (λ (x : Call). operation_of x.header.operation)
        (sym (same_call write.caller call.caller write.came.address call.address write.call (plug_call c.setup request) (sym write.came.is ∙ (there ∙ call.is))))
        ∙ write.came.asks))
      where
        same_call : (one other : Caller) (here_one there_one : List ℕ) (call asked_call : Call)
            → Reported one here_one (Calls call) ≡ Reported other there_one (Calls asked_call) → call ≡ asked_call
        same_call one other here_one there_one call asked_call e = cc

        control_write : operation_of 4 ≡ Some operation.Write → ⊥
        control_write e = Rattle.plug_ends.proofs.PluggedWritten.control_write e

    pub asked_kept : later ≡ since → AskedSo slot subslot c.setup after (sent ++ frames) later request
    asked_kept same = by_step request.step refl
      where
        over : (number : ℕ) → (step_is : request.step ≡ Record number) → More number step_is → IsNew request.sequence (kept_for c.setup after) → ⊥
        over number step_is more is_new =
            Rattle.plug_ends.proofs.PluggedDevice.longer (taken_at slot subslot link.taken) (taken_for (own number step_is).entry)
            (sym same ∙ one_more number step_is more)

        by_step : (step : PlugStep) → request.step ≡ step → AskedSo slot subslot c.setup after (sent ++ frames) later request
        by_step (Record number) e = record_asked number e (inl same) (over number e)
        by_step PrmEnd e = same_asked same e

    pub asked_taken : TakesRecords live heard live.rest.link after.rest.link → AskedSo slot subslot c.setup after (sent ++ frames) later request
    asked_taken write = by_step request.step refl
      where
        by_step : (step : PlugStep) → request.step ≡ step → AskedSo slot subslot c.setup after (sent ++ frames) later request
        by_step (Record number) e = taken_asked number e write
        by_step PrmEnd e = absurd (end_no_write e write)

  -- ---- what becomes of the place

  -- the relation after it, in which the place is this far
  module _ (next : RelationState) (after_is : after.rest.link ≡ Some next) where
    next_same : (other : RelationState) → after.rest.link ≡ Some other → other ≡ next
    next_same other e = some_same other next (sym e ∙ after_is)

    abbrev then_taken : List TakenRecord
    then_taken = taken_at slot subslot next.taken

    pub record At : Type 0 where
      pub asked : (request : PlugRequest) → c.live.access.plug ≡ Some request → request.slot ≡ slot → request.subslot ≡ subslot
          → step_in slot subslot next ≡ Some (Told request.number) → (IsDead (kept_for c.setup after) → ⊥) → AskedSo slot subslot c.setup after (sent ++ frames) then_taken request
      pub told_at : (number : ℕ) → step_in slot subslot next ≡ Some (Told number) → (frame : List ℕ) → WasIn (sent ++ frames) frame
          → HearsEnd station.identity frame number → IsNewIn c.setup station after frame → EndsWith then_taken (all_of slot subslot c.setup)
      pub ended : (number : ℕ) → step_in slot subslot next ≡ Some (Ended number)
          → EndsWith then_taken (all_of slot subslot c.setup) × HasEnd slot subslot station (sent ++ frames) number
      pub settled : step_in slot subslot next ≡ Some Settled → concerns_any slot subslot (raised ++ now) ≡ true
          → EndsWith then_taken (all_of slot subslot c.setup) × (number : ℕ) × LastPlug slot subslot number (raised ++ now) × HasEnd slot subslot station (sent ++ frames) number

    -- it is not reported, not ended and not settled
    elsewhere : (step : Step) → step_in slot subslot next ≡ Some step → ((number : ℕ) → step ≡ Told number → ⊥) → ((number : ℕ) → step ≡ Ended number → ⊥)
        → (step ≡ Settled → ⊥) → At
    elsewhere step is no_told no_ended no_settled = record {
      asked = λ request e at below told_is. absurd (no_told request.number (some_same step (Told request.number) (sym is ∙ told_is)));
      told_at = λ number e. absurd (no_told number (some_same step (Told number) (sym is ∙ e)));
      ended = λ number e. absurd (no_ended number (some_same step (Ended number) (sym is ∙ e)));
      settled = λ e. absurd (no_settled (some_same step Settled (sym is ∙ e)));
    }

    absent : step_in slot subslot next ≡ None → At
    absent is = record {
      asked = λ request e at below told_is. absurd (none_some_step (Told request.number) (sym is ∙ told_is));
      told_at = λ number e. absurd (none_some_step (Told number) (sym is ∙ e));
      ended = λ number e. absurd (none_some_step (Ended number) (sym is ∙ e));
      settled = λ e. absurd (none_some_step Settled (sym is ∙ e));
    }

    -- as far as before, with the same records
    module _ (link : RelationState) (before_is : live.rest.link ≡ Some link) (step_same : step_in slot subslot next ≡ step_in slot subslot link) where
      told_same_at : then_taken ≡ taken_at slot subslot link.taken → (number : ℕ) → step_in slot subslot link ≡ Some (Told number) → (frame : List ℕ)
          → WasIn (sent ++ frames) frame → HearsEnd station.identity frame number → IsNewIn c.setup station after frame → EndsWith then_taken (all_of slot subslot c.setup)
      told_same_at same number told_is frame there hears is_new =
          subst (λ (xs : List TakenRecord). EndsWith xs (all_of slot subslot c.setup)) (sym same)
          (was.told link before_is number told_is frame
          (call_before frame there hears.call.header.sequence small.Parameterized (end_small c.setup station frame number hears)) hears (fresh_before frame is_new))

      last_more : concerns_any slot subslot now ≡ false → (number : ℕ) → LastPlug slot subslot number raised → LastPlug slot subslot number (raised ++ now)
      last_more quiet number last = has_told_more slot subslot (Told number) raised now quiet last

      concerned : concerns_any slot subslot now ≡ false → concerns_any slot subslot (raised ++ now) ≡ true → concerns_any slot subslot raised ≡ true
      concerned quiet some = any_before raised now quiet some
        where
          or_false : (b d : Bool) → d ≡ false → Rattle.std.specs.Prelude.◌||◌ b d ≡ true → b ≡ true
          or_false true d e f = refl
          or_false false d e f = absurd (false_true (sym e ∙ f))
            where
              false_true : false ≡ true → ⊥
              false_true g = absurd cc

          any_before : (one other : List AlarmNotification) → concerns_any slot subslot other ≡ false → concerns_any slot subslot (one ++ other) ≡ true
              → concerns_any slot subslot one ≡ true
          any_before one other e f =
              or_false (concerns_any slot subslot one) (concerns_any slot subslot other) e
              (sym (Rattle.std.proofs.lemmas.List.Folds.list_any-append (Rattle.plug_ends.specs.Told.concerns slot subslot) one other) ∙ f)

      kept_at : then_taken ≡ taken_at slot subslot link.taken → concerns_any slot subslot now ≡ false → At
      kept_at same quiet = record {
        asked = λ request waits at below told_is alive.
            asked_kept link next before_is after_is request waits at below (alive_before alive)
            (was.asked link before_is request waits at below (sym step_same ∙ told_is) (alive_before alive)) same;
        told_at = λ number told_is. told_same_at same number (sym step_same ∙ told_is);
        ended = λ number is.
            let it = was.ended link before_is number (sym step_same ∙ is) in
            (subst (λ (xs : List TakenRecord). EndsWith xs (all_of slot subslot c.setup)) (sym same) it.0, has_more number it.1);
        settled = λ is some.
            let it = was.settled link before_is (sym step_same ∙ is) (concerned quiet some) in (
              subst (λ (xs : List TakenRecord). EndsWith xs (all_of slot subslot c.setup)) (sym same) it.0,
              it.1,
              last_more quiet it.1 it.2,
              has_more it.1 it.3,
            );
      }

      -- a Write is accepted
      taken_there : (write : TakesRecords live heard live.rest.link after.rest.link)
          → then_taken ≡ taken_at slot subslot link.taken ++ taken_at slot subslot write.values → concerns_any slot subslot now ≡ false → At
      taken_there write since quiet = record {
        asked = λ request waits at below told_is alive.
            asked_taken link next before_is after_is request waits at below (alive_before alive)
            (was.asked link before_is request waits at below (sym step_same ∙ told_is) (alive_before alive)) write;
        told_at = λ number told_is frame there hears is_new.
            let before = call_before frame there hears.call.header.sequence small.Parameterized (end_small c.setup station frame number hears) in
            told_same_at (same_since_at write link next before_is after_is since number (told link before_is (Told number) (sym step_same ∙ told_is)) (frame, before, hears))
            number (sym step_same ∙ told_is) frame there hears is_new;
        ended = λ number is.
            let it = was.ended link before_is number (sym step_same ∙ is) in
            let same = same_since_at write link next before_is after_is since number (told link before_is (Ended number) (sym step_same ∙ is)) it.1 in
            (subst (λ (xs : List TakenRecord). EndsWith xs (all_of slot subslot c.setup)) (sym same) it.0, has_more number it.1);
        settled = λ is some.
            let it = was.settled link before_is (sym step_same ∙ is) (concerned quiet some) in
            let same = same_since_at write link next before_is after_is since it.1 it.2 it.3 in (
              subst (λ (xs : List TakenRecord). EndsWith xs (all_of slot subslot c.setup)) (sym same) it.0,
              it.1,
              last_more quiet it.1 it.2,
              has_more it.1 it.3,
            );
      }

    -- its alarm is sent now
    told_there : (number : ℕ) → step_in slot subslot next ≡ Some (Told number) → number ≡ length raised → At
    told_there number is count = record {
      asked = λ request waits at below told_is.
          absurd (too_many request.slot request.subslot request.number
          (told_same request.number number (some_same (Told request.number) (Told number) (sym told_is ∙ is)) ∙ count) (known.request request waits));
      told_at = λ other told_is frame there hears is_new.
          let end = known.ends frame other
          (call_before frame there hears.call.header.sequence small.Parameterized (end_small c.setup station frame other hears)) hears in
          absurd (too_many end.0 end.1 other (told_same other number (some_same (Told other) (Told number) (sym told_is ∙ is)) ∙ count) end.2.plug);
      ended = λ other e. absurd (told_ended number other (some_same (Told number) (Ended other) (sym is ∙ e)));
      settled = λ e. absurd (told_settled number (some_same (Told number) Settled (sym is ∙ e)));
    }

    -- its parameters end
    ended_there : (link : RelationState) → live.rest.link ≡ Some link
        → EndsAt slot subslot live heard live.rest.link after.rest.link (holding_of link) (holding_of next) → At
    ended_there link before_is it =
        let number = it.end.block.alarm_sequence_number in
        let came_in = framed it.end.caller it.end.came.address it.end.call it.end.came.is in
        let hears : HearsEnd station.identity came_in.0 number = record {
          caller = it.end.caller;
          address = it.end.came.address;
          call = it.end.call;
          blocks = it.end.blocks;
          is = sym came_in.2 ∙ it.end.came.is;
          asks = it.end.came.asks;
          counted = it.end.came.counted;
          link = Some it.end.link;
          block = it.end.block;
          read = it.end.read;
          number_is = refl;
        } in
        let plan : IsPlannedCall rules c.setup.activity station.named live.rest.real it.end.call =
        subst (λ (h : Heard). IsPlanned rules c.setup.activity station.named live.rest.real h) it.end.came.is planned in
        let is_new : IsNewIn c.setup station live came_in.0 = record {
          sequence = it.end.call.header.sequence;
          ask = small.Parameterized;
          is = end_small c.setup station came_in.0 number hears;
          new = subst (λ (activity : List ℕ). IsNew it.end.call.header.sequence
              (option_map device.kept_in (Rattle.rpc_core.specs.Cache.kept_of activity live.rest.calls))) plan.own
              (Rattle.plug_ends.proofs.CallsWorlds.new_kept it.end.call.header.activity it.end.call.header.sequence live.rest.calls it.end.came.fresh);
        } in
        let ends = was.told link before_is number it.was came_in.0 came_in.1 hears is_new in
        record {
          asked = λ request waits at below told_is. absurd (ended_told number request.number (some_same (Ended number) (Told request.number) (sym it.now ∙ told_is)));
          told_at = λ other told_is. absurd (ended_told number other (some_same (Ended number) (Told other) (sym it.now ∙ told_is)));
          ended = λ other e. (
            subst (λ (xs : List TakenRecord). EndsWith xs (all_of slot subslot c.setup)) (sym it.taken) ends,
            subst (λ (n : ℕ). HasEnd slot subslot station (sent ++ frames) n) (ended_same number other (some_same (Ended number) (Ended other) (sym it.now ∙ e)))
                (has_more number (came_in.0, came_in.1, hears)),
          );
          settled = λ e. absurd (ended_settled number (some_same (Ended number) Settled (sym it.now ∙ e)));
        }

    -- its ApplicationReady is answered
    answered_there : (link : RelationState) → live.rest.link ≡ Some link → now ≡ []
        → AnswersAt slot subslot heard live.rest.link after.rest.link (holding_of link) (holding_of next) → At
    answered_there link before_is silent it = by_positive it.answer.is_positive it.now
      where
        by_positive : (b : Bool) → step_in slot subslot next ≡ Some (if b then Settled else Refused) → At
        by_positive false e = elsewhere Refused e (λ n f. absurd cc) (λ n f. absurd cc) (λ f. absurd cc)
        by_positive true e =
            let old = was.ended link before_is it.call.number it.was in
            let last = told link before_is (Ended it.call.number) it.was in
            record {
              asked = λ request waits at below told_is. absurd (settled_told request.number (some_same Settled (Told request.number) (sym e ∙ told_is)));
              told_at = λ other told_is. absurd (settled_told other (some_same Settled (Told other) (sym e ∙ told_is)));
              ended = λ other f. absurd (settled_ended other (some_same Settled (Ended other) (sym e ∙ f)));
              settled = λ f some. (
                subst (λ (xs : List TakenRecord). EndsWith xs (all_of slot subslot c.setup)) (sym it.taken) old.0,
                it.call.number,
                subst (λ (xs : List AlarmNotification). LastPlug slot subslot it.call.number xs)
                    (sym (ap (λ (xs : List AlarmNotification). raised ++ xs) silent ∙ append-nil raised)) last,
                has_more it.call.number old.1,
              );
            }

    pub place_at : At
    place_at = by_goes goes
      where
        quiet_by : now ≡ [] → concerns_any slot subslot now ≡ false
        quiet_by silent = ap (λ (xs : List AlarmNotification). concerns_any slot subslot xs) silent

        step_of : (other : RelationState) (step : Option Step) → after.rest.link ≡ Some other → step_in slot subslot other ≡ step → step_in slot subslot next ≡ step
        step_of other step e f = ap (λ (l : RelationState). step_in slot subslot l) (sym (next_same other e)) ∙ f

        since_of : (other : RelationState) (taken : List TakenRecord) → after.rest.link ≡ Some other → taken_at slot subslot other.taken ≡ taken → then_taken ≡ taken
        since_of other taken e f = ap (λ (l : RelationState). taken_at slot subslot l.taken) (sym (next_same other e)) ∙ f

        none_link : {A : Type 0} (x : A) → None ≡ Some x → ⊥
        none_link x e = absurd cc

        concerns_none : raised ≡ [] → now ≡ [] → concerns_any slot subslot (raised ++ now) ≡ false
        concerns_none e f =
            ap (λ (xs : List AlarmNotification). concerns_any slot subslot (xs ++ now)) e ∙ ap (λ (xs : List AlarmNotification). concerns_any slot subslot xs) f

        begun_there : raised ≡ [] → now ≡ [] → ((step : Step) → step_in slot subslot next ≡ Some step → step ≡ Settled) → At
        begun_there empty silent all = record {
          asked = λ request waits at below told_is. absurd (settled_told request.number (sym (all (Told request.number) told_is)));
          told_at = λ number e. absurd (settled_told number (sym (all (Told number) e)));
          ended = λ number e. absurd (settled_ended number (sym (all (Ended number) e)));
          settled = λ e some. absurd (false_true (sym (concerns_none empty silent) ∙ some));
        }
          where
            false_true : false ≡ true → ⊥
            false_true f = absurd cc

        by_touched : (step_in slot subslot next ≡ Some Pulled) ⊎ (step_in slot subslot next ≡ Some Plugged) → At
        by_touched (inl e) = elsewhere Pulled e (λ n f. absurd cc) (λ n f. absurd cc) (λ f. absurd cc)
        by_touched (inr e) = elsewhere Plugged e (λ n f. absurd cc) (λ n f. absurd cc) (λ f. absurd cc)

        touched_of : (other : RelationState) → after.rest.link ≡ Some other → (step_in slot subslot other ≡ Some Pulled) ⊎ (step_in slot subslot other ≡ Some Plugged)
            → (step_in slot subslot next ≡ Some Pulled) ⊎ (step_in slot subslot next ≡ Some Plugged)
        touched_of other e (inl f) = inl (step_of other (Some Pulled) e f)
        touched_of other e (inr f) = inr (step_of other (Some Plugged) e f)

        by_goes : Goes slot subslot live heard live.rest.link after.rest.link raised now → At
        by_goes (inl it) = kept_at it.link it.was (step_of it.next _ it.is it.step) (since_of it.next _ it.is it.since) it.quiet
        by_goes (inr (inl it)) = by_touched (touched_of it.next it.is it.step)
        by_goes (inr (inr (inl it))) = told_there it.number (step_of it.next _ it.is it.step) it.count
        by_goes (inr (inr (inr (inl it)))) =
            ended_there it.link it.was
            (subst (λ (l : RelationState). EndsAt slot subslot live heard live.rest.link after.rest.link (holding_of it.link) (holding_of l)) (next_same it.next it.is) it.it)
        by_goes (inr (inr (inr (inr (inl it))))) =
            answered_there it.link it.was it.silent
            (subst (λ (l : RelationState). AnswersAt slot subslot heard live.rest.link after.rest.link (holding_of it.link) (holding_of l)) (next_same it.next it.is) it.it)
        by_goes (inr (inr (inr (inr (inr (inl it)))))) =
            taken_there it.link it.was (step_of it.next _ it.is it.it.step) it.it.write (since_of it.next _ it.is it.it.taken) (quiet_by it.silent)
        by_goes (inr (inr (inr (inr (inr (inr (inl it))))))) = absent (step_of it.next _ it.is it.step)
        by_goes (inr (inr (inr (inr (inr (inr (inr (inl it)))))))) =
            begun_there it.empty it.silent (λ step e. it.step step (ap (λ (l : RelationState). step_in slot subslot l) (next_same it.next it.is) ∙ e))
        by_goes (inr (inr (inr (inr (inr (inr (inr (inr it)))))))) = absurd (none_link next (sym it.over ∙ after_is))

  -- ---- the numbers

  control_asked : (what : Wanted) → operation_of 4 ≡ Some (operation_asked what) → ⊥
  unfolding operation_of
  control_asked (wanted.Read read) f = absurd cc
  control_asked (wanted.Write write) f = absurd cc
  control_asked (wanted.ReadImplicit read) f = absurd cc

  module _ (numbered_before : Numbered c station live sent) (sequence : ℕ) (question : Question) (same : question.header.sequence ≡ sequence)
      (asked_is : question_in after.rest.asked ≡ Some question) where
    abbrev Asks : Type 0
    Asks = ((device.small_of c.setup.activity live).asked ≡ Some sequence) ⊎ IsNumberedIn c numbered_before.bound sequence

    old_question : question_in live.rest.asked ≡ Some question → Asks
    old_question there = inl (ap (λ (q : Option Question). option_map (λ (x : Question). x.header.sequence) q) there ∙ ap (λ (n : ℕ). Some n) same)

    module _ (asking : IsAsking heard question) where
      is_number : asking.call.header.sequence ≡ sequence
      is_number = sym (ap (λ (h : Rattle.rpc_core.specs.declared.header.CallHeader.CallHeader). h.sequence) asking.header) ∙ same

      plan : IsPlannedCall rules c.setup.activity station.named live.rest.real asking.call
      plan = subst (λ (h : Heard). IsPlanned rules c.setup.activity station.named live.rest.real h) asking.is planned

      abbrev blocks : List ℕ
      blocks = Rattle.std.specs.Prelude.unwrap_or asking.call.blocks []

      abbrev Small : Type 0
      Small = (ask : Ask) × (heard_as (is_planned c.setup) heard ≡ small.Call asking.call.header.sequence ask)

      by_which : (which : Operation) → operation_of asking.call.header.operation ≡ Some which
          → (ask : Ask) × (device.asked_by (is_planned c.setup) asking.call.header.sequence blocks (Some which) ≡ small.Call asking.call.header.sequence ask) → Small
      by_which which f said = (
        said.0,
        ap (λ (h : Heard). heard_as (is_planned c.setup) h) asking.is
            ∙ (ap (λ (w : Option Operation). device.asked_by (is_planned c.setup) asking.call.header.sequence blocks w) f ∙ said.1),
      )

      by_test : (b : Bool) (write : ℕ) → (ask : Ask) × (device.written_by b asking.call.header.sequence write ≡ small.Call asking.call.header.sequence ask)
      by_test true write = (_, refl)
      by_test false write = (_, refl)

      by_wanted : (what : Wanted) → operation_of asking.call.header.operation ≡ Some (operation_asked what) → Small
      by_wanted (wanted.Read read) f = by_which operation.Read f (_, refl)
      by_wanted (wanted.Write write) f = by_which operation.Write f (by_test (is_planned c.setup asking.call.header.sequence blocks) (device.number_in blocks))
      by_wanted (wanted.ReadImplicit read) f =
          absurd (subst (λ (which : Option Operation). device.IsPlannedAs rules station.named live.rest.real asking.call.header.sequence plan.blocks which) f plan.asks)

      asked_small : Small
      asked_small = by_wanted question.request asking.asks

      same_call : (one other : Caller) (first second : List ℕ) (call asked_call : Call) → Reported one first (Calls call) ≡ Reported other second (Calls asked_call)
          → call ≡ asked_call
      same_call one other first second call asked_call e = cc

      module _ (frame : List ℕ) (there : WasIn sent frame) (is : heard ≡ heard_of station.identity (Frame (record { items = frame }))) where
        below : (asking.call.header.sequence < numbered_before.bound)
            × ((request : PlugRequest) → c.live.access.plug ≡ Some request
            → (asking.call.header.sequence < request.sequence) ⊎ IsPlugFrame c.setup request frame)
        below =
            all_at _ sent numbered_before.frames there.0 frame there.1 asking.call.header.sequence asked_small.0
            (ap (λ (h : Heard). heard_as (is_planned c.setup) h) (sym is) ∙ asked_small.1)

        now_below : sequence < numbered_before.bound
        now_below = subst (λ (n : ℕ). n < numbered_before.bound) is_number below.0

        by_less : (request : PlugRequest) → c.live.access.plug ≡ Some request → asking.call.header.sequence < request.sequence → Asks
        by_less request waits less = inr (
          now_below,
          λ other f. subst (λ (r : PlugRequest). sequence < r.sequence) (some_same request other (sym waits ∙ f))
              (subst (λ (n : ℕ). n < request.sequence) is_number less),
        )

        by_step : (request : PlugRequest) → c.live.access.plug ≡ Some request → IsPlugFrame c.setup request frame → (step : PlugStep) → request.step ≡ step → Asks
        by_step request waits plug (Record number) f =
            let own_record : IsRecordAt c.setup.plan request.slot request.subslot number =
            subst (λ (step : PlugStep). IsStepAt c.setup.plan request.slot request.subslot step) f (was.own request waits) in
            let call = its_call so c station live sent outcomes heard good real planned meant sendable steps from numbered_before keeps request waits number f own_record
            placed parameters was.unnamed frame plug is asking.call.header.sequence asked_small.0 asked_small.1 in
            old_question
            (unasked so c station live sent outcomes heard good real planned meant sendable steps from numbered_before keeps request waits number f own_record
            placed parameters was.unnamed call question asked_is)
        by_step request waits plug PrmEnd f =
            let heard_there : heard ≡ heard_of station.identity (Frame (record { items = bytes_of c.setup (Parametrizes plug.to request) })) =
            is ∙ ap (λ (octets : List ℕ). heard_of station.identity (Frame (record { items = octets }))) plug.is in
            let call = Rattle.plug_ends.proofs.PluggedDevice.frame_call so station.identity c.setup plug.to (plug_call c.setup request) good plug.mac
            (so.fine.heard.plug_call_can c.setup request good plug.can) (is_planned c.setup) asking.call.header.sequence asked_small.0
            (ap (λ (h : Heard). heard_as (is_planned c.setup) h) (sym heard_there) ∙ asked_small.1) in
            absurd (control_asked question.request (ap (λ (step : PlugStep). operation_of (plug_operation step)) (sym f)
            ∙ (ap (λ (x : Call). operation_of x.header.operation)
            (sym (same_call question.caller call.caller asking.address call.address asking.call (plug_call c.setup request) (sym asking.is ∙ (heard_there ∙ call.is))))
            ∙ asking.asks)))

        by_plug : (plug : Option PlugRequest) → c.live.access.plug ≡ plug → Asks
        by_plug None f = inr (now_below, λ request g. absurd (none_some request (sym f ∙ g)))
        by_plug (Some request) f = by_below (below.1 request f)
          where
            by_below : (asking.call.header.sequence < request.sequence) ⊎ IsPlugFrame c.setup request frame → Asks
            by_below (inl less) = by_less request f less
            by_below (inr plug) = by_step request f plug request.step refl

      new_question : Asks
      new_question =
          let it = framed question.caller asking.address asking.call asking.is in
          by_plug it.0 it.1 it.2 c.live.access.plug refl

    asks_later : (question_in live.rest.asked ≡ Some question) ⊎ IsAsking heard question → Asks
    asks_later (inl before) = old_question before
    asks_later (inr asking) = new_question asking

  asked_numbers : (numbered_before : Numbered c station live sent) → (sequence : ℕ) → (device.small_of c.setup.activity after).asked ≡ Some sequence
      → ((device.small_of c.setup.activity live).asked ≡ Some sequence) ⊎ IsNumberedIn c numbered_before.bound sequence
  asked_numbers numbered_before sequence e = by_question (question_in after.rest.asked) refl
    where
      by_question : (found : Option Question) → question_in after.rest.asked ≡ found
          → ((device.small_of c.setup.activity live).asked ≡ Some sequence) ⊎ IsNumberedIn c numbered_before.bound sequence
      by_question None is = absurd (none_some sequence (ap (λ (q : Option Question). option_map (λ (x : Question). x.header.sequence) q) (sym is) ∙ e))
      by_question (Some question) is =
          asks_later numbered_before sequence question (some_same question.header.sequence sequence (ap (λ (q : Option Question). option_map (λ (x : Question). x.header.sequence) q) (sym is) ∙ e)) is
          ((so.turns rules c.setup.activity outcomes station live heard planned).asked question is)

  called_numbers : (numbered_before : Numbered c station live sent) → (sequence : ℕ) (ask : Ask) → heard_as (is_planned c.setup) heard ≡ small.Call sequence ask → sequence < numbered_before.bound
  called_numbers numbered_before sequence ask e = by_from from
    where
      by_from : ((frame : List ℕ) × WasIn sent frame × (heard ≡ heard_of station.identity (Frame (record { items = frame }))))
          ⊎ ((caller : Caller) (address : List ℕ) (said : Said) → heard ≡ Reported caller address said → ⊥) → sequence < numbered_before.bound
      by_from (inl it) =
          (all_at _ sent numbered_before.frames it.1.0 it.0 it.1.1 sequence ask (ap (λ (h : Heard). heard_as (is_planned c.setup) h) (sym it.2) ∙ e)).0
      by_from (inr un) = absurd (idle_call sequence ask (sym (unreported_idle (is_planned c.setup) heard un) ∙ e))

  -- ---- the state afterwards

  late_then : is_ended c.live.phase ≡ true → (frame : List ℕ) → WasIn (sent ++ frames) frame → (is_new : IsNewIn c.setup station after frame)
      → (is_new.ask ≡ small.Parameterized → ⊥) → (is_new.ask ≡ small.Releases → ⊥) → IsKnownWrite slot subslot (raised ++ now) c.setup station (sent ++ frames) frame
  unfolding fresh_before
  late_then over frame there is_new no_end no_release =
      let it = was.late over frame (call_before frame there is_new.sequence is_new.ask is_new.is) (fresh_before frame is_new) no_end no_release in
      record { message = it.message; is = it.is; by = by_message it.message it.by }
    where
      before : (other : List ℕ) (number : ℕ) → WasIn (sent ++ frames) other → (hears : HearsEnd station.identity other number) → WasIn sent other
      before other number other_there hears =
          call_before other other_there hears.call.header.sequence small.Parameterized (end_small c.setup station other number hears)

      by_message : (m : Sent) → IsWriteBy slot subslot raised c.setup station sent m → IsWriteBy slot subslot (raised ++ now) c.setup station (sent ++ frames) m
      by_message (Requests to request) by = λ other number other_there hears. by other number (before other number other_there hears) hears
      by_message (Accesses to request octets) by = by
      by_message (Parametrizes to request) by = (
        by.0,
        by.1,
        by.2,
        was_more request.slot request.subslot request.number raised now by.3,
        λ slot_is subslot_is number step_is other other_number other_there hears.
            let end = by.4 slot_is subslot_is number step_is other other_number (before other other_number other_there hears) hears in
            (end.0, end.1, was_more end.0 end.1 other_number raised now end.2, end.3),
      )
      by_message (Agrees caller answer) by = by
      by_message (Cycles route shown counter) by = by
      by_message (Confirms route priority header ack) by = by
      by_message (Replies route priority header) by = by
      by_message (Ends route header reason) by = by

  pub device_joined : Joined slot subslot c station after (sent ++ frames) (raised ++ now)
  device_joined = record {
    asked = λ next is. (place_at next is).asked;
    told = λ next is. (place_at next is).told_at;
    ended = λ next is. (place_at next is).ended;
    settled = λ next is. (place_at next is).settled;
    late = late_then;
    own = was.own;
    unnamed = was.unnamed;
    idle = kept_after rules (IsIdle rules) (heard_as (is_planned c.setup) heard) (device.small_of c.setup.activity live) (device.small_of c.setup.activity after) frames
        steps was.idle idle_frames;
    numbered = λ going alive.
        let numbered = was.numbered going (alive_before alive) in
        device_numbered c station live after sent frames (heard_as (is_planned c.setup) heard) steps idle_frames numbered (called_numbers numbered) (asked_numbers numbered);
  }
