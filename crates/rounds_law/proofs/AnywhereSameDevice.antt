-- A step of a device: its relation stays that of this start, and what it stores and sends chooses as before.
use Rattle.std.proofs.Common.{◌≡◌, ◌<◌, ◌⊎◌, inl, inr, ◌==◌, ◌++◌, ℕ, true, false, List, [], ◌∷◌, map, Some, None, Ok, refl, sym, ap, subst, ◌∙◌}
use Rattle.std.specs.List.{AllByRecursion}
use Rattle.flash_model.specs.declared.flash.Flash.{Ghosts as Flash}
use Rattle.pn_values.specs.declared.identity.Identity.{Identity}
use Rattle.settings_journal.specs.settings_store.Machine.{Outcome}
use Rattle.connect_blocks.specs.ArBlock.{is_some_uuid}
use Rattle.rpc_core.specs.Cache.{Kept, kept_of}
use Rattle.asked_records.specs.Asked.{question_in}
use Rattle.asked_records.specs.Questions.{is_implicit}
use Rattle.asked_records.specs.declared.question.Question.{Question}
use Rattle.relations.specs.RelationState.{uuid_of}
use Rattle.frame_codec.specs.declared.udp.Caller.{Caller}
use Rattle.records.specs.declared.writes.taken.TakenRecord.{TakenRecord}
use Rattle.connects.specs.answers.Connect.{Chosen}
use Rattle.connects.specs.requests.Handled.{request_of}
use Rattle.connects.specs.requests.Request.{Request}
use Rattle.plans.specs.Connect.{connect_of}
use Rattle.device_frames.specs.Heard.{Calls, Heard, Reported, Ticks, heard_of}
use Rattle.device_frames.specs.Sent.{Sent, bytes_of}
use Rattle.device_core.specs.State.{Live, Rest, State, Station}
use Rattle.device_core.specs.Machine.{handled_step, heard_step}
use Rattle.controller_messages.specs.declared.plug_request.PlugRequest.{PlugRequest}
use Rattle.controller_messages.specs.declared.request.Request.TheVariants as asks
use Rattle.controller_messages.specs.declared.setup.Setup.{Setup}
use Rattle.controller_messages.specs.PlugRequests.{plug_call}
use Rattle.controller_messages.specs.Requests.{call_for}
use Rattle.end_laws.specs.both.Small.{Rules}
use Rattle.end_laws.specs.device.Small.{IsPlanned}
use Rattle.end_laws.specs.device.Turn.{Turn}
use Rattle.end_laws.specs.hearing.Hearing.{comes}
use Rattle.end_laws.specs.hearing.Stations.{IsDevice}
use Rattle.both_ends.specs.startup.answer.Answer.{caller_of, chosen_with}
use Rattle.both_ends.specs.startup.request.Request.{request_for}
use Rattle.rounds_law.specs.Anywhere.{IsAnyDevice}
use Rattle.rounds_law.specs.AnywhereFrames.{IsAnything, IsOfPlug, IsOwn}
use Rattle.rounds_law.specs.AnywhereSame.{ChoosesIn, IsOfStart, StoresChosen}
use Rattle.rounds_law.specs.Rounds.{Goes}
use Rattle.rounds_law.proofs.AnywhereDeviceAnswers.{CallLaws}
use Rattle.rounds_law.proofs.AnywhereDeviceHears.{IsHeardAs, message_heard, message_said}
use Rattle.rounds_law.proofs.AnywhereDeviceLaw.{AreSizedPlugs, DeviceLaws, calls, frame_sized, unit_sized}
use Rattle.rounds_law.proofs.AnywhereParts.{Hears, IsLong}
use Rattle.rounds_law.proofs.AnywhereAsked.{not_connect, plain_asked}
use Rattle.rounds_law.proofs.AnywhereSameAnswers.{AnswersLaws, IsStoredFrom, turn_says}
use Rattle.rounds_law.proofs.AnywhereControllerLaws.{ControllerLaws}
use Rattle.rounds_law.proofs.AnywhereSameHears.{IsKnown, message_known, rules_for, unit_known}
use Rattle.rounds_law.proofs.AnywhereSameLink.{link_on}
use Rattle.rounds_law.proofs.AnywhereSamePlugs.{plug_chooses_none}
use Rattle.rounds_law.proofs.AnywhereSameReleased.{IsUnchosen, release_unchosen}
use Rattle.rounds_law.proofs.AnywhereSameSays.{IsSaying, PacketsAreNothing, all_say}

-- A clause of a function below: each turn of a device that hears planned calls is of a kind.
abbrev pub TurnsAreKnown : Type 0
TurnsAreKnown = (rules : Rules TakenRecord Request) (activity : List ℕ) (outcomes : List Outcome) (station : Station) (live : Live) (heard : Heard)
    → IsPlanned rules activity station.named live.rest.real heard
    → Turn station live heard (heard_step outcomes station live heard).live.rest (heard_step outcomes station live heard).sent

-- What follows from the clauses of functions below for these stations.
pub record SameLaws (setup : Setup) (identity : Identity) : Type 0 where
  pub device : DeviceLaws setup identity
  pub packets : PacketsAreNothing
  pub read : is_some_uuid setup.ar ≡ true → request_of None (connect_of setup.plan setup.ar) ≡ Ok (request_for setup.plan setup.ar)
  pub turns : TurnsAreKnown
  pub controller : ControllerLaws

frames_are : (outcomes : List Outcome) (station : Station) (live : Live) (heard : Heard)
    → (heard_step outcomes station live heard).frames ≡ map (bytes_of station.identity) (heard_step outcomes station live heard).sent
unfolding heard_step handled_step
frames_are outcomes station live heard = refl

module _ {F : Type 0} {S : ℕ} (as_flash : Flash F S) (setup next : Setup) (identity : Identity) (silence : ℕ) (laws : SameLaws setup identity)
    (long : IsLong as_flash setup next identity silence) where
  read : request_of None (connect_of setup.plan setup.ar) ≡ Ok (request_for setup.plan setup.ar)
  read = laws.read long.can.can_meet.named

  module _ (before after : State F) (heard : Heard) (frames : List (List ℕ)) (goes : Goes as_flash before heard frames after)
      (any : IsAnyDevice setup next identity silence before.station before.live) (known : IsKnown setup before.station.named before.live.rest.real read heard)
      (plugs : AreSizedPlugs as_flash setup next identity silence laws.device before heard goes.steps.outcomes) where
    abbrev outcomes : List Outcome
    outcomes = goes.steps.outcomes

    abbrev sent : List Sent
    sent = (heard_step outcomes before.station before.live heard).sent

    abbrev rest : Rest
    rest = (heard_step outcomes before.station before.live heard).live.rest

    turn : Turn before.station before.live heard rest sent
    turn = laws.turns (rules_for setup) setup.activity outcomes before.station before.live heard known.0

    -- The relation, if it has one, is that of this start.
    stays_of_start : IsOfStart setup before.live.rest.link → IsOfStart setup after.live.rest.link
    stays_of_start start =
        subst (λ (live : Live). IsOfStart setup live.rest.link) (sym goes.steps.live)
        (link_on setup read before.live.rest.real.modules.items rest.real.modules.items before.live.rest.calls before.live.rest.diagnoses rest.diagnoses before.live.rest.link heard
        rest.link sent turn.is known.1 start)

    call_laws : CallLaws setup next silence before.station
    call_laws = calls as_flash setup next identity silence laws.device long before.station before.live any

    releases : (caller : Caller) (address : List ℕ) (sequence : ℕ) → heard ≡ Reported caller address (Calls (call_for setup (asks.Release sequence)))
        → AllByRecursion (IsUnchosen setup) sent
    releases caller address sequence is =
        subst (λ (h : Heard). AllByRecursion (IsUnchosen setup) (heard_step outcomes before.station before.live h).sent) (sym is)
        (release_unchosen setup outcomes before.station before.live caller call_laws.negative call_laws.released call_laws.unchosen sequence address)

    plug_calls : (caller : Caller) (address : List ℕ) (request : PlugRequest) → caller ≡ caller_of setup.plan.controller → IsOfPlug setup request
        → heard ≡ Reported caller address (Calls (plug_call setup request)) → AllByRecursion (IsUnchosen setup) sent
    plug_calls caller address request by of is =
        subst (λ (h : Heard). AllByRecursion (IsUnchosen setup) (heard_step outcomes before.station before.live h).sent)
        (sym (is ∙ ap (λ (c : Caller). Reported c address (Calls (plug_call setup request))) by))
        (plug_chooses_none setup next identity silence before.station before.live call_laws any request of outcomes address)

    module _ (Holds : Chosen → Type 0) (allows : before.live.rest.link ≡ None → (number : ℕ) → number < 14336 → Holds (chosen_with number))
        (stored : StoresChosen setup Holds before.live) where
      answers : AnswersLaws setup Holds before.station before.live
      answers = record {
        negative = call_laws.negative;
        whole = call_laws.whole;
        plugged = any.of_plan.plugged;
        same = call_laws.same;
        read = read;
        allows = allows;
      }

      replies : (question : Question) → question_in before.live.rest.asked ≡ Some question → question.header.activity ≡ setup.activity
          → (question.header.sequence == 0) ≡ false
      replies question is = not_connect setup next (uuid_of before.live.rest.link) before.live.rest.asked question any.asked is

      plain : (question : Question) → question_in before.live.rest.asked ≡ Some question → is_implicit question.request ≡ true → ⊥
      plain question is = plain_asked setup next (uuid_of before.live.rest.link) before.live.rest.asked question any.asked is

      device : IsDevice before.station.identity
      device = subst IsDevice (sym any.of_device) long.of_device

      all_sent : AllByRecursion (ChoosesIn setup Holds) (map (bytes_of before.station.identity) sent)
      all_sent =
          all_say laws.device.says laws.packets setup Holds before.station.identity long.real device sent
          (turn_says setup Holds silence before.station before.live answers heard rest sent any.lasts known.1 stored releases plug_calls replies plain plugs turn.does).0
          goes.steps.sendable

      middle : (front : List Sent) (message : Sent) (others : List Sent)
          → AllByRecursion (ChoosesIn setup Holds) (map (bytes_of before.station.identity) (front ++ message ∷ others))
          → ChoosesIn setup Holds (bytes_of before.station.identity message)
      middle [] message others all = all.0
      middle (one ∷ front) message others all = middle front message others all.1

      stored_by : (kept : Kept)
          → (kept_of setup.activity before.live.rest.calls ≡ Some kept)
          ⊎ ((front : List Sent) × (message : Sent) × (others : List Sent) × (sent ≡ front ++ message ∷ others)
          × (kept.frame ≡ bytes_of before.station.identity message))
          → ChoosesIn setup Holds kept.frame
      stored_by kept (inl old) = stored kept old
      stored_by kept (inr new) =
          subst (ChoosesIn setup Holds) (sym new.4)
          (middle new.0 new.1 new.2
          (subst (λ (messages : List Sent). AllByRecursion (ChoosesIn setup Holds) (map (bytes_of before.station.identity) messages)) new.3 all_sent))

      went : AllByRecursion (IsSaying setup Holds) sent × IsStoredFrom setup Holds silence before.station before.live answers rest.calls sent
      went = turn_says setup Holds silence before.station before.live answers heard rest sent any.lasts known.1 stored releases plug_calls replies plain plugs turn.does

      -- What it stores and sends.
      stays_chosen : StoresChosen setup Holds after.live × AllByRecursion (ChoosesIn setup Holds) frames
      stays_chosen = (
        subst (λ (live : Live). StoresChosen setup Holds live) (sym goes.steps.live)
            (λ kept found. stored_by kept (went.1 kept found)),
        subst (AllByRecursion (ChoosesIn setup Holds)) (sym (goes.steps.frames ∙ frames_are outcomes before.station before.live heard)) all_sent,
      )

  -- ---- a frame of the controller, and a unit

  frame_known : (before : State F) (octets : List ℕ) → IsAnyDevice setup next identity silence before.station before.live → IsOwn setup IsAnything octets
      → IsKnown setup before.station.named before.live.rest.real read (heard_of before.station.identity (comes octets))
  frame_known before octets any own =
      message_known setup before.station.named before.live.rest.real read (heard_of before.station.identity (comes octets)) own.message own.way
      (subst (λ (o : List ℕ). IsHeardAs (heard_of before.station.identity (comes o)) (message_said setup own.message)) (sym own.frame)
      (message_heard laws.device.hears setup before.station.identity long.real own.message own.sendable own.way))

  -- What a step leaves as it is.
  pub record Leaves (before after : State F) (frames : List (List ℕ)) : Type 1 where
    pub of_start : IsOfStart setup before.live.rest.link → IsOfStart setup after.live.rest.link
    pub chosen : (Holds : Chosen → Type 0) → (before.live.rest.link ≡ None → (number : ℕ) → number < 14336 → Holds (chosen_with number))
        → StoresChosen setup Holds before.live → StoresChosen setup Holds after.live × AllByRecursion (ChoosesIn setup Holds) frames

  pub frame_leaves : (before after : State F) (octets : List ℕ) (frames : List (List ℕ)) → Hears as_flash before octets frames after
      → IsAnyDevice setup next identity silence before.station before.live → IsOwn setup IsAnything octets → Leaves before after frames
  frame_leaves before after octets frames goes any own =
      let heard = heard_of before.station.identity (comes octets) in
      let known = frame_known before octets any own in
      let plugs = frame_sized as_flash setup next identity silence laws.device long before after octets frames goes any own in
      record {
        of_start = stays_of_start before after heard frames goes any known plugs;
        chosen = λ Holds allows stored. stays_chosen before after heard frames goes any known plugs Holds allows stored;
      }

  pub unit_leaves : (before after : State F) (frames : List (List ℕ)) → Goes as_flash before Ticks frames after
      → IsAnyDevice setup next identity silence before.station before.live → Leaves before after frames
  unit_leaves before after frames goes any =
      let known = unit_known setup before.station.named before.live.rest.real read in
      let plugs = unit_sized as_flash setup next identity silence laws.device long before after frames goes any in
      record {
        of_start = stays_of_start before after Ticks frames goes any known plugs;
        chosen = λ Holds allows stored. stays_chosen before after Ticks frames goes any known plugs Holds allows stored;
      }
