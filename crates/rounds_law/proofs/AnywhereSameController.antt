-- A step of a controller: it has a relation only if it had it, with the same route, or by a positive response to its Connect.
use Rattle.std.proofs.Common.{◌≡◌, ◌∙◌, ℕ, true, List, [], ◌∷◌, Option, refl, sym, ap, subst}
use Rattle.std.proofs.lemmas.Bool.{false≢true}
use Rattle.frame_codec.specs.declared.udp.Caller.{Caller}
use Rattle.rpc_core.specs.declared.response.Status.{Status}
use Rattle.rpc_core.specs.Call.{Asked as Call}
use Rattle.connect_blocks.specs.declared.plug_control.PlugControlBlock.{PlugControlBlock}
use Rattle.pn_alarms.specs.Receiver.{taken_as}
use Rattle.diagnosis.specs.declared.reports.report.Report.{Report}
use Rattle.cyclic_data.specs.declared.exchange.route.Route.{Route}
use Rattle.cyclic_data.specs.exchange.Cyclic.{Cyclic}
use Rattle.connects.specs.answers.Connect.{Chosen}
use Rattle.controller_messages.specs.declared.setup.Setup.{Setup}
use Rattle.plan_places.specs.Places.{Told}
use Rattle.controller_messages.specs.Access.{Accessing}
use Rattle.controller_messages.specs.Heard.{Heard, Responds, heard_of}
use Rattle.controller_messages.specs.PlugRequests.{plug_answer}
use Rattle.controller_messages.specs.Sent.{Agrees}
use Rattle.controller_core.specs.declared.stored.event.Event.TheVariants.{Frame, Tick}
use Rattle.controller_core.specs.declared.stored.state.RefusedRecord.{RefusedRecord}
use Rattle.controller_core.specs.stored.State.{Controlling, Live}
use Rattle.controller_core.specs.Machine.{Turn, after_turn, asks_next, behind_ack, behind_data, can_begin, end_of, exchange_later, is_again, later}
use Rattle.controller_core.specs.Machine.{plug_readied, stays}
use Rattle.controller_core.specs.Machine.{step_of, taken, turn_of}
use Rattle.end_laws.specs.turns.Turns.{Hears, IsKind, Kind, Passes}
use Rattle.end_laws.specs.turns.Turns.{Ends, Releases, Relates}
use Rattle.end_laws.specs.turns.Turns.{Follows, Takes, IsAcked, Gives, GivesStatus, IsReplied, IsPlugAnswered, IsPlugReadied, Flows, Breaks, Idles, turn_by}
use Rattle.rounds_law.specs.AnywhereSame.{Chooses, ChoosesIn}
use Rattle.rounds_law.specs.Path.{controller_step}
use Rattle.rounds_law.proofs.AnywhereControllerLaws.{TurnsAreOfAKind}
use Rattle.rounds_law.proofs.AnywhereControllerReached.{heard_in}
use Rattle.rounds_law.proofs.AnywhereControllerTurns.{IsAlike, ack_alike, data_alike}
use Rattle.rounds_law.proofs.ControllerPassingParts.{frame_on}
use Rattle.rounds_law.proofs.PlaceTurns.{due_beside, followed_beside}

module _ (setup : Setup) (Of : ℕ → ℕ → Type 0) where
  -- If it has a relation, this holds of the FrameID of its outputs and of the endpoint of the device.
  abbrev pub IsRelated : Live → Type 0
  IsRelated live = live.stands ≡ true → Of live.cyclic.route.sent_id live.cyclic.route.reference

  -- The same of what the device chose.
  abbrev pub OfChosen : Chosen → Type 0
  OfChosen chosen = Of chosen.frame_id chosen.reference

  alike_related : (live after : Live) → IsAlike live after → IsRelated live → IsRelated after
  alike_related live after is related up =
      subst (λ (c : Cyclic). Of c.route.sent_id c.route.reference) (sym is.cyclic) (related (sym is.stands ∙ up))

  module _ (live : Live) (related : IsRelated live) where
    -- The turn of a place may begin.
    followed_related : (turn : Turn) → IsRelated turn.live → IsRelated (after_turn setup (can_begin live) turn).live
    followed_related turn at = followed_beside IsRelated setup (can_begin live) turn (λ waited places access less same. at)

    taken_related : (number : ℕ) (report : Report) → IsRelated (turn_by setup live (Takes number report)).live
    taken_related number report =
        let as_what = taken_as (end_of live report.priority).seen number in
        let turn = taken (behind_data live report.priority number) report as_what in
        followed_related turn (alike_related live turn.live (data_alike live report number as_what) related)

    -- The request after a plug is answered, and so is the ApplicationReady of a plug.
    abbrev plug_turn : Option Status → Option RefusedRecord → ℕ → Told → Accessing → Turn
    plug_turn refusal refused waited places access =
        asks_next (record live { refusal = refusal; refused_record = refused; waited = waited; places = places; access = access })

    abbrev ready_turn : Caller → Call → PlugControlBlock → Turn
    ready_turn caller call block = record {
      live = plug_readied live block.alarm_sequence_number;
      sent = Agrees caller (plug_answer call block) ∷ [];
    }

    -- The turn of a frame.
    frame_related : (heard : Heard) → Chooses setup OfChosen heard → (kind : Kind) → IsKind setup live (Hears heard) kind
        → IsRelated (turn_by setup live kind).live
    frame_related heard fit (Ends cause refusal refused units) holds = λ up. absurd (false≢true up)
    frame_related heard fit (Releases cause refusal refused units) holds = λ up. absurd (false≢true up)
    frame_related heard fit (Relates places chosen) holds = λ up.
        let fits : Chooses setup OfChosen (Responds holds.0.response) = subst (λ (h : Heard). Chooses setup OfChosen h) (ap heard_in holds.0.comes) fit in
        fits holds.0.right holds.0.granted chosen holds.1
    frame_related heard fit (Follows source frame_id body) holds = λ up.
        subst (λ (r : Route). Of r.sent_id r.reference) (sym (frame_on live.cyclic source frame_id body).route) (related up)
    frame_related heard fit (Takes number report) holds = taken_related number report
    frame_related heard fit (IsAcked priority number) holds =
        alike_related live (behind_ack live priority number) (ack_alike live priority number) related
    frame_related heard fit (Gives slot subslot value) holds = absurd cc
    frame_related heard fit (GivesStatus slot subslot is_good) holds = absurd cc
    frame_related heard fit (IsReplied refusal access) holds = followed_related (stays (record live { refusal = refusal; access = access })) related
    frame_related heard fit (IsPlugAnswered refusal refused waited places access) holds =
        followed_related (plug_turn refusal refused waited places access) related
    frame_related heard fit (IsPlugReadied caller call block) holds = followed_related (ready_turn caller call block) related
    frame_related heard fit Flows holds = let bad = holds.0 in absurd cc
    frame_related heard fit (Breaks reason) holds = let bad = holds.0 in absurd cc
    frame_related heard fit Idles holds = let bad = holds.0 in absurd cc
    frame_related heard fit kind holds = related

    -- The turn of a unit.
    unit_related : (kind : Kind) → IsKind setup live Passes kind → IsRelated (turn_by setup live kind).live
    unit_related (Ends cause refusal refused units) holds = λ up. absurd (false≢true up)
    unit_related (Releases cause refusal refused units) holds = λ up. absurd (false≢true up)
    unit_related (Relates places chosen) holds = let bad = holds.0.comes in absurd cc
    unit_related (Follows source frame_id body) holds = λ up.
        subst (λ (r : Route). Of r.sent_id r.reference) (sym (frame_on live.cyclic source frame_id body).route) (related up)
    unit_related (Takes number report) holds = taken_related number report
    unit_related (IsAcked priority number) holds =
        alike_related live (behind_ack live priority number) (ack_alike live priority number) related
    unit_related (Gives slot subslot value) holds = absurd cc
    unit_related (GivesStatus slot subslot is_good) holds = absurd cc
    unit_related (IsReplied refusal access) holds = followed_related (stays (record live { refusal = refusal; access = access })) related
    unit_related (IsPlugAnswered refusal refused waited places access) holds =
        followed_related (plug_turn refusal refused waited places access) related
    unit_related (IsPlugReadied caller call block) holds = followed_related (ready_turn caller call block) related
    unit_related Flows holds =
        due_beside (λ (l : Live). IsRelated (exchange_later l)) setup (is_again live) (later live) (λ waited places access less same. related)
    unit_related (Breaks reason) holds = λ up. absurd (false≢true up)
    unit_related kind holds = related

  -- ---- a step

  -- A controller of this set-up.
  abbrev pub IsRelatedIn : Controlling → Type 0
  IsRelatedIn controller = (controller.setup ≡ setup) × IsRelated controller.live

  frame_turn : TurnsAreOfAKind → (live : Live) (octets : List ℕ) → ChoosesIn setup OfChosen octets → IsRelated live
      → IsRelated (turn_of setup live (Frame (record { items = octets }))).live
  frame_turn kinds live octets fit related =
      let is = kinds setup live (Frame (record { items = octets })) in
      subst (λ (t : Turn). IsRelated t.live) (sym is.is) (frame_related live related (heard_of setup.plan.controller octets) fit is.kind is.holds)

  unit_turn : TurnsAreOfAKind → (live : Live) → IsRelated live → IsRelated (turn_of setup live Tick).live
  unit_turn kinds live related =
      let is = kinds setup live Tick in
      subst (λ (t : Turn). IsRelated t.live) (sym is.is) (unit_related live related is.kind is.holds)

  frame_own : TurnsAreOfAKind → (live : Live) (octets : List ℕ) → ChoosesIn setup OfChosen octets → IsRelated live
      → IsRelatedIn (controller_step (record { setup = setup; live = live }) octets).controller
  unfolding step_of
  frame_own kinds live octets fit related = (refl, frame_turn kinds live octets fit related)

  unit_own : TurnsAreOfAKind → (live : Live) → IsRelated live → IsRelatedIn (step_of (record { setup = setup; live = live }) Tick).controller
  unfolding step_of
  unit_own kinds live related = (refl, unit_turn kinds live related)

  own_is : (controller : Controlling) → controller.setup ≡ setup → record { setup = setup; live = controller.live } ≡ controller
  own_is controller of_setup = ap (λ (s : Setup). record { setup = s; live = controller.live }) (sym of_setup)

  -- A frame that chooses so, and a unit.
  pub frame_keeps : TurnsAreOfAKind → (controller : Controlling) (octets : List ℕ) → ChoosesIn setup OfChosen octets → IsRelatedIn controller
      → IsRelatedIn (controller_step controller octets).controller
  frame_keeps kinds controller octets fit related =
      subst (λ (c : Controlling). IsRelatedIn (controller_step c octets).controller) (own_is controller related.0)
      (frame_own kinds controller.live octets fit related.1)

  pub unit_keeps : TurnsAreOfAKind → (controller : Controlling) → IsRelatedIn controller → IsRelatedIn (step_of controller Tick).controller
  unit_keeps kinds controller related =
      subst (λ (c : Controlling). IsRelatedIn (step_of c Tick).controller) (own_is controller related.0) (unit_own kinds controller.live related.1)
