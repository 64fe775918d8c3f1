-- What the services of a station send belongs to no relation of the other end.
use Rattle.std.proofs.Common.{◌≡◌, ◌==◌, ◌&&◌, ◌/◌, ◌<◌, ℕ, zero, suc, Bool, true, false, List, [], ◌∷◌, ◌++◌, append_assoc, length, get_or, Option, Some, None, Result, Ok, Err, refl, sym, ap, subst, ◌∙◌, arith, if◌then◌else◌}
use Rattle.std.specs.Prelude.{nat_lt}
use Rattle.std.proofs.lemmas.Bool.{and_parts, cond_both, ltb-true}
use Rattle.std.specs.List.{AllByRecursion}
use Rattle.std.specs.Option.{option_map}
use Rattle.flash_model.specs.declared.flash.Flash.{Ghosts as Flash}
use Rattle.pn_values.specs.declared.identity.Identity.{Identity}
use Rattle.settings_journal.specs.settings_store.State.{Values}
use Rattle.rpc_core.specs.declared.fault.RpcFault.{RpcFault}
use Rattle.rpc_core.specs.declared.call_headers.call.Head.{Head}
use Rattle.rpc_core.specs.Fields.{turned}
use Rattle.rpc_core.specs.call_headers.Call.{head, in_order, is_little}
use Rattle.rpc_core.specs.call_headers.Unserved.{unserved_answer}
use Rattle.services.specs.State as ip
use Rattle.services.specs.Answer.{Call, answer_to, call_in}
use Rattle.rpc_services.specs.declared.pieces.piece.Kind.{Kind}
use Rattle.rpc_services.specs.pieces.Piece.{Piece, is_piece, piece_by, piece_of}
use Rattle.rpc_services.specs.pieces.State as calls
use Rattle.rpc_services.specs.pieces.State.{Unfinished, Outcome, Nothing, Drops, Waits, Joined, acknowledged, at_place, begun, blank, completes, continued, fack_bytes, fack_head, heard_as, is_next, outcome_by, outcome_of, place_in, starts, whole_bytes, whole_head}
use Rattle.rpc_services.specs.endpoint_mapper.Mapper.{mapped_frame}
use Rattle.lldp.specs.Announcement as lldp
use Rattle.lldp.specs.State as near
use Rattle.relations.specs.RelationState.{RelationState}
use Rattle.device_frames.specs.declared.event.Event.{Event}
use Rattle.device_frames.specs.declared.event.Event.TheVariants.{Frame, Call as Given, Tick}
use Rattle.device_frames.specs.declared.note.Note.{Note}
use Rattle.device_frames.specs.Heard.{heard_of}
use Rattle.device_core.specs.State.{Live, Station}
use Rattle.device_core.specs.Machine.{handled_step, heard_step}
use Rattle.device_station.specs.Beside.{Beside, answer_beside, beside, event_beside, is_dropped}
use Rattle.device_station.specs.Leaps.{told_if}
use Rattle.device_station.specs.Serving.{Serving, announces, answer_by, answered, completed_or, or_else, piece_by as piece_for, piece_of as piece_from, replied, reply_to, said_of}
use Rattle.controller_core.specs.declared.stored.event.Event.{Event as ControllerEvent}
use Rattle.controller_core.specs.declared.stored.event.Event.TheVariants as said
use Rattle.controller_core.specs.Machine.{step_of}
use Rattle.controller_core.specs.stored.State.{Controlling}
use Rattle.controller_station.specs.Beside as with
use Rattle.controller_station.specs.Served.{beside_frame}
use Rattle.controller_station.specs.Served as served
use Rattle.octets_law.specs.Octets.{activity_of}
use Rattle.octets_law.proofs.CallReads.{name_in, tested}
use Rattle.octets_law.proofs.Repeats.{same_octets}
use Rattle.strangers_law.specs.Beside.{AreQuietAt, AreStrangeTo, HaveAddresses, HaveSizes, IsHeaded, IsNoPacketOf, ServicesLeaveControllers, ServicesLeaveDevices}
use Rattle.strangers_law.proofs.Answering.{Fate, Fates, answering, call_is, fate_at, fate_to, mapping_frame, replying}
use Rattle.strangers_law.proofs.Layers.{IsOther, arp_other, lldp_other, other_at, other_to}
use Rattle.strangers_law.proofs.Replying.{IsHead, Replies, head_is, headed, unserved, written}

some_is : {A : Type 0} (one other : A) → Some one ≡ Some other → one ≡ other
some_is one other e = cc

-- ---- fragments

-- A fragment that was read.
pub record IsPiece (body : List ℕ) (p : Piece) : Type 0 where
  pub head : IsHead body p.head
  pub order : nat_lt (p.head.opening.representation / 16) 2 ≡ true

first_of_seven : (a b c d e f g : Bool) → (a && b && c && d && e && f && g) ≡ true → a ≡ true
first_of_seven true b c d e f g is = refl
first_of_seven false b c d e f g is = absurd cc

pub piece_is : (kind : Kind) (body : List ℕ) (p : Piece) → piece_of kind body ≡ Some p → IsPiece body p
unfolding piece_of
piece_is kind body p e = by_read (head.read body) refl e
  where
    by_read : (read : Result (Head × List ℕ) RpcFault) → head.read body ≡ read → piece_by kind body read ≡ Some p → IsPiece body p
    by_read (Ok (h, rest)) is e =
        cond_both (is_piece kind h rest) _ _ (λ (o : Option Piece). o ≡ Some p → IsPiece body p)
        (λ reads e. subst (IsPiece body) (some_is _ _ e) (record { head = head_is body h rest is; order = first_of_seven _ _ _ _ _ _ _ reads })) (λ _ e. absurd cc) e
    by_read (Err fault) is e = absurd cc

six_parts : (a b c d e f : List ℕ) → ((((a ++ b) ++ c) ++ d) ++ e) ++ f ≡ a ++ (b ++ (c ++ (d ++ (e ++ f))))
six_parts a b c d e f = append_assoc (((a ++ b) ++ c) ++ d) e f ∙ append_assoc ((a ++ b) ++ c) d (e ++ f) ∙ append_assoc (a ++ b) c (d ++ (e ++ f)) ∙ append_assoc a b (c ++ (d ++ (e ++ f)))

-- The acknowledgement of a fragment.
acknowledging : (body : List ℕ) (p : Piece) (n : ℕ) → IsPiece body p → Replies false body (fack_bytes p n)
acknowledging body p n it =
    let low = is_little p.head.opening.representation in
    let front = head.write (fack_head p.head n) [] in
    subst (Replies false body)
    (sym (six_parts front (0 ∷ 0 ∷ (in_order low 2).write 4 []) ((in_order low 4).write 1472 []) ((in_order low 4).write 1472 []) ((in_order low 2).write p.serial []) ((in_order low 2).write 0 [])))
    (headed false body _ p.head (fack_head p.head n) 9 it.head it.order refl refl refl refl refl)

-- A call that was joined has the activity of its last fragment, and so has the refusal of it.
record IsHeld (p : Piece) (u : Unfinished) : Type 0 where
  activity : p.head.names.activity ≡ u.head.names.activity
  order : p.head.opening.representation / 16 ≡ u.head.opening.representation / 16

held : (u : Unfinished) (p : Piece) → completes u p ≡ true → IsHeld p u
held u p e =
    let holding = (and_parts _ _ (and_parts _ _ (and_parts _ _ e).0).0).0 in
    let same = (and_parts _ _ holding).1 in
    record {
      activity = same_octets _ _ (and_parts _ _ (and_parts _ _ same).0).0;
      order = tested _ _ (and_parts _ _ same).1;
    }

joining : (body inner answer : List ℕ) (p : Piece) (u : Unfinished) → IsPiece body p → IsHeaded u → completes u p ≡ true
    → unserved_answer (whole_bytes u.head inner) ≡ Some answer → Replies false body answer
joining body inner answer p u it named all e =
    let same = held u p all in
    let reply = unserved (whole_bytes u.head inner) answer e in
    let small : u.head.opening.representation < 256 = let few : p.head.opening.representation / 16 < 2 = ltb-true _ _ it.order in omega (arith, few, same.order) in
    record {
      kind = reply.kind;
      kind_is = reply.kind_is;
      called = reply.called;
      responded = reply.responded;
      activity = λ more other. reply.activity more []
          ∙ (ap activity_of (append_assoc (head.write (whole_head u.head (length inner)) []) inner [])
          ∙ written (whole_head u.head (length inner)) (inner ++ []) (record {
            object = named.object;
            interface = named.interface;
            activity = ap length (sym same.activity) ∙ it.head.names.activity;
          }) small)
          ∙ ap (name_in u.head.opening.representation) (sym same.activity)
          ∙ ap (λ n. if n == 1 then turned p.head.names.activity else p.head.names.activity) (sym same.order)
          ∙ sym (it.head.activity other);
    }

pub get_headed : (us : List Unfinished) → AllByRecursion IsHeaded us → (place : ℕ) → IsHeaded (get_or us place blank)
get_headed [] all place = record { object = refl; interface = refl }
get_headed (u ∷ us) all zero = all.0
get_headed (u ∷ us) all (suc place) = get_headed us all.1 place

-- What a fragment is answered with.
abbrev OutcomeReplies : List ℕ → Outcome → Type 0
OutcomeReplies body Nothing = Unit {0}
OutcomeReplies body (Drops None) = Unit {0}
OutcomeReplies body (Drops (Some fack)) = Replies false body fack
OutcomeReplies body (Waits None) = Unit {0}
OutcomeReplies body (Waits (Some fack)) = Replies false body fack
OutcomeReplies body (Joined octets) = (answer : List ℕ) → unserved_answer octets ≡ Some answer → Replies false body answer

outcome_replies : (state : calls.State) (body : List ℕ) → AllByRecursion IsHeaded state.calls → OutcomeReplies body (heard_as state body)
unfolding heard_as
outcome_replies state body all = by_piece (piece_of state.kind body) refl
  where
    dropped : (p : Piece) → IsPiece body p → (acknowledged : Option ℕ) → OutcomeReplies body (Drops (option_map (fack_bytes p) acknowledged))
    dropped p it None = tt
    dropped p it (Some n) = acknowledging body p n it

    waits : (p : Piece) → IsPiece body p → (acknowledged : Option ℕ) → OutcomeReplies body (Waits (option_map (fack_bytes p) acknowledged))
    waits p it None = tt
    waits p it (Some n) = acknowledging body p n it

    by_place : (p : Piece) → IsPiece body p → (u : Unfinished) → IsHeaded u → OutcomeReplies body (outcome_by u p)
    by_place p it u named =
        cond_both (completes u p) _ _ (OutcomeReplies body) (λ all answer e. joining body _ answer p u it named all e)
        (λ _. cond_both (is_next u p) _ _ (OutcomeReplies body) (λ _. waits p it (acknowledged (continued u p) p)) (λ _. dropped p it (acknowledged (continued u p) p)))

    begun_named : (p : Piece) → IsPiece body p → IsHeaded (begun (at_place state p) p)
    begun_named p it =
        cond_both (starts (at_place state p) p) _ _ IsHeaded (λ _. record { object = it.head.names.object; interface = it.head.names.interface })
        (λ _. get_headed state.calls all (place_in state p))

    by_piece : (piece : Option Piece) → piece_of state.kind body ≡ piece → OutcomeReplies body (outcome_of state piece)
    by_piece None is = tt
    by_piece (Some p) is = let it = piece_is state.kind body p is in by_place p it (begun (at_place state p) p) (begun_named p it)

-- ---- what is answered to a frame

module _ (identity : Identity) (services : Serving) (heard : List ℕ) (sizes : HaveSizes services) where
  abbrev IsFated : List ℕ → Type 0
  IsFated frame = Fates services.ip.mac.octets heard frame

  replied_fates : (frame : List ℕ) → replied identity services heard ≡ Some frame → IsFated frame
  replied_fates frame e = by_answer (answer_to services.ip heard) refl e
    where
      by_answer : (answer : Option (List ℕ)) → answer_to services.ip heard ≡ answer → or_else answer (mapped_frame services.ip identity heard) ≡ Some frame → IsFated frame
      by_answer None is e = mapping_frame services.ip identity heard frame sizes.ip e
      by_answer (Some answer) is e = (false, answering services.ip heard frame sizes.ip (is ∙ e))

  by_outcome : (frame : List ℕ) (call : Call) → call_in services.ip heard ≡ Some call → (outcome : Outcome) → OutcomeReplies call.body outcome
      → answer_by (piece_for services call outcome) (replied identity services heard) ≡ Some frame → IsFated frame
  by_outcome frame call is Nothing replies e = replied_fates frame e
  by_outcome frame call is (Drops None) replies e = replied_fates frame e
  by_outcome frame call is (Drops (Some fack)) replies e = (
    false,
    subst (Fate false services.ip.mac.octets heard) (some_is _ _ e)
        (replying false services.ip heard call fack sizes.ip (call_is services.ip heard call is) replies),
  )
  by_outcome frame call is (Waits None) replies e = absurd cc
  by_outcome frame call is (Waits (Some fack)) replies e = (
    false,
    subst (Fate false services.ip.mac.octets heard) (some_is _ _ e)
        (replying false services.ip heard call fack sizes.ip (call_is services.ip heard call is) replies),
  )
  by_outcome frame call is (Joined octets) replies e = by_refusal (unserved_answer octets) refl e
    where
      by_refusal : (refusal : Option (List ℕ)) → unserved_answer octets ≡ refusal
          → answer_by (completed_or (Given (record { mac = call.source; endpoint = call.caller }) services.ip.address (record { items = octets })) (option_map (reply_to services call) refusal))
          (replied identity services heard) ≡ Some frame → IsFated frame
      by_refusal None says e = absurd cc
      by_refusal (Some refusal) says e = (
        false,
        subst (Fate false services.ip.mac.octets heard) (some_is _ _ e)
            (replying false services.ip heard call refusal sizes.ip (call_is services.ip heard call is) (replies refusal says)),
      )

  answered_fates : (frame : List ℕ) → answered identity services heard ≡ Some frame → IsFated frame
  answered_fates frame e = by_call (call_in services.ip heard) refl e
    where
      by_call : (call : Option Call) → call_in services.ip heard ≡ call → answer_by (piece_from services call) (replied identity services heard) ≡ Some frame → IsFated frame
      by_call None is e = replied_fates frame e
      by_call (Some call) is e =
          by_outcome frame call is (heard_as services.pieces call.body) (outcome_replies services.pieces call.body sizes.calls) e

-- ---- units of time

all_in : (Q : List ℕ → Type 0) (frame : Option (List ℕ)) → ((one : List ℕ) → frame ≡ Some one → Q one) → AllByRecursion Q (ip.frames_in frame)
all_in Q None each = tt
all_in Q (Some one) each = (each one refl, tt)

all_both : (Q : List ℕ → Type 0) (frames others : List (List ℕ)) → AllByRecursion Q frames → AllByRecursion Q others → AllByRecursion Q (frames ++ others)
all_both Q [] others one other = other
all_both Q (frame ∷ frames) others one other = (one.0, all_both Q frames others one.1 other)

ip_ticks : (Q : List ℕ → Type 0) (state : ip.State) → length state.mac.octets ≡ 6 → ((frame : List ℕ) → IsOther frame → Q frame)
    → AllByRecursion Q (ip.frames_in (ip.sent_by_tick state))
ip_ticks Q state mac other =
    cond_both (ip.announces state) _ _ (λ (o : Option (List ℕ)). AllByRecursion Q (ip.frames_in o))
    (λ _. (other _ (arp_other (record { octets = ip.broadcast }) state.mac _ refl mac), tt)) (λ _. tt)

lldp_ticks : (Q : List ℕ → Type 0) (b : Bool) (station : lldp.Station) → length station.mac.octets ≡ 6 → ((frame : List ℕ) → IsOther frame → Q frame)
    → AllByRecursion Q (if b then lldp.announcement station ∷ [] else [])
lldp_ticks Q true station mac other = (other _ (lldp_other station mac), tt)
lldp_ticks Q false station mac other = tt

-- ---- the services beside a device

module _ (controlling : Controlling) (identity : Identity) (services : Serving) (sizes : HaveSizes services) (note : Note) where
  event_strange : (event : Event) → IsNoPacketOf controlling services.ip.mac.octets event
      → AreStrangeTo controlling (event_beside identity services note event).sent
  event_strange (Frame bytes) other =
      all_in _ (answer_beside identity services note bytes.items) (λ frame e.
      let it : Fates services.ip.mac.octets bytes.items frame =
      cond_both (is_dropped note) _ _ (λ (o : Option (List ℕ)). o ≡ Some frame → Fates services.ip.mac.octets bytes.items frame)
      (λ _ e. answered_fates identity services bytes.items sizes frame e) (λ _ e. absurd cc) e in
      fate_to controlling it.0 services.ip.mac.octets bytes.items frame other it.1)
  event_strange Tick other =
      all_both _ _ _ (ip_ticks _ services.ip sizes.ip (other_to controlling)) (lldp_ticks _ (announces services) (said_of services) sizes.near (other_to controlling))
  event_strange event other = tt

  beside_strange : (values : Values) (event : Event) → IsNoPacketOf controlling services.ip.mac.octets event
      → AreStrangeTo controlling (beside identity services values note event).sent
  beside_strange values event other =
      cond_both values.is_lost _ _ (λ (b : Beside). AreStrangeTo controlling b.sent) (λ _. tt) (λ _. event_strange event other)

pub told_sizes : (station : Station) (live : Live) (services : Serving) (news : Bool) → HaveSizes services → HaveSizes (told_if news station live services).services
unfolding heard_of heard_step handled_step
told_sizes station live services true sizes = record { ip = sizes.ip; near = sizes.near; calls = sizes.calls }
told_sizes station live services false sizes = sizes

told_mac : (station : Station) (live : Live) (services : Serving) (news : Bool) → (told_if news station live services).services.ip ≡ services.ip
unfolding heard_of heard_step handled_step
told_mac station live services true = refl
told_mac station live services false = refl

pub services_leave_controllers : {F : Type 0} {S : ℕ} (as_flash : Flash F S) → ServicesLeaveControllers as_flash
services_leave_controllers as_flash old new event frames said controlling takes sizes other =
    let between = subst HaveSizes (sym takes.ready.services) (told_sizes old.device.station old.device.live old.services old.services.has_news sizes) in
    let same : takes.between.services.ip ≡ old.services.ip =
    ap (λ (s : Serving). s.ip) takes.ready.services ∙ told_mac old.device.station old.device.live old.services old.services.has_news in
    subst (AreStrangeTo controlling) (sym takes.steps.sends)
    (beside_strange controlling takes.between.device.station.identity takes.between.services between takes.steps.note takes.steps.middle.live.values event
    (subst (λ (s : ip.State). IsNoPacketOf controlling s.mac.octets event) (sym same) other))

-- ---- the services beside a controller

module _ (station : List ℕ) (link : Option RelationState) (services : with.Beside) (sizes : HaveAddresses services) where
  frame_quiet : (heard : List ℕ) (frames : List (List ℕ)) → AreQuietAt station link (beside_frame services heard frames)
  frame_quiet heard [] =
      all_in _ (answer_to services.ip heard) (λ frame e. fate_at station link services.ip.mac.octets heard frame (answering services.ip heard frame sizes.ip e))
  frame_quiet heard (frame ∷ frames) = tt

  event_quiet : (event : ControllerEvent) (frames : List (List ℕ)) → AreQuietAt station link (served.beside services event frames)
  event_quiet (said.Frame octets) frames = frame_quiet octets.items frames
  event_quiet said.Tick frames =
      all_both _ _ _ (ip_ticks _ services.ip sizes.ip (other_at station link))
      (lldp_ticks _ (near.is_sending services.near) (with.said_of services) sizes.near (other_at station link))
  event_quiet (said.Give slot subslot value) frames = tt
  event_quiet (said.Status slot subslot is_good) frames = tt
  event_quiet (said.Read slot subslot index) frames = tt
  event_quiet (said.Write slot subslot index octets) frames = tt
  event_quiet said.Stop frames = tt

pub services_leave_devices : ServicesLeaveDevices
services_leave_devices served event station link sizes = event_quiet station link served.services sizes event (step_of served.controller event).frames
