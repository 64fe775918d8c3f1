-- The effect of a response on a controller; its FrameID counts if it is the response to a Connect.
use Rattle.std.proofs.Common.{◌≡◌, ◌<◌, ◌≤◌, ◌+◌, ◌/◌, ◌||◌, ℕ, Bool, true, false, not, cond, List, length, Option, Some, None, refl, sym, ap, subst, ◌∙◌, arith, ◌&&◌}
use Rattle.std.proofs.Math.Nat.{mod-lt}
use Rattle.std.specs.Prelude.{nat_lt}
use Rattle.std.specs.List.{AllByRecursion}
use Rattle.std.proofs.lemmas.Bool.{ltb-true, and_parts}
use Rattle.pn_values.specs.declared.mac.Mac.{Mac}
use Rattle.frame_codec.specs.Sendable.{IsMac}
use Rattle.rpc_core.specs.declared.response.Status.{Status}
use Rattle.rpc_core.specs.Response.{Answered as Response, is_done}
use Rattle.plans.specs.Plan.{IsPlan}
use Rattle.plans.specs.declared.parts.Parts.{Parts}
use Rattle.block_codec.specs.Block.{block_of}
use Rattle.controller_messages.specs.declared.plug_request.PlugRequest.{PlugRequest}
use Rattle.controller_messages.specs.declared.record_request.RecordRequest.{RecordRequest}
use Rattle.controller_messages.specs.declared.record_request.RecordService.{RecordService}
use Rattle.controller_messages.specs.declared.record_request.RecordService.TheVariants as service
use Rattle.controller_messages.specs.declared.request.Request.{Request}
use Rattle.controller_messages.specs.declared.request.Request.TheVariants as asks
use Rattle.controller_messages.specs.declared.setup.Setup.{Setup}
use Rattle.controller_messages.specs.Heard.{Responds}
use Rattle.controller_messages.specs.PlugRequests.{is_plug_answer}
use Rattle.controller_messages.specs.Requests.{first_of, write_count, writing_from, writing_after}
use Rattle.controller_core.specs.declared.stored.state.Cause.{Cause}
use Rattle.controller_core.specs.declared.stored.state.Cause.TheVariants as cause
use Rattle.controller_core.specs.declared.stored.state.State.{State}
use Rattle.controller_core.specs.declared.stored.state.State.TheVariants.{Ended, Waiting}
use Rattle.controller_messages.specs.Access.{Accessing, is_reply, record_in}
use Rattle.controller_core.specs.start_up.Answers.{is_answer, is_held, is_busy, is_tried}
use Rattle.connects.specs.answers.Connect.{Chosen, chosen_of, found_in, is_whole, nothing}
use Rattle.controller_core.specs.declared.start_up.outcomes.Outcomes.{Outcomes}
use Rattle.controller_core.specs.declared.start_up.outcomes.Outcomes.TheVariants.{AllWritten, Unreadable}
use Rattle.controller_core.specs.declared.start_up.outcomes.Outcomes.TheVariants.{Refused as Denied}
use Rattle.controller_core.specs.start_up.Outcomes.{outcomes_of}
use Rattle.controller_core.specs.Machine.{Turn, after_turn, after_write, asking, begun_turn, beside, can_begin, past_record, placed, plug_replied, plugs_by, plugs_of, turned, brings, connected, decided, denied, done, failed, granted, handled, noted, over, related_by, released, replied, replied_by, responded, standing, stays, undone, writing, refused_end, refused_write, trying}
use Rattle.controller_core.specs.start_up.Requests.{next_sequence}
use Rattle.controller_core.specs.stored.State.{phase_for}
use Rattle.controller_core.specs.stored.State.{Live}
use Rattle.end_laws.specs.hearing.Stations.{IsNumbered, IsSetup}
use Rattle.end_laws.specs.sending.Messages.{CanBeSent}
use Rattle.end_laws.specs.sending.Sized.{AreFew, Found, IsFew, IsLive, IsPlugging, IsWaiting}
use Rattle.both_ends.specs.exchange.Sized.{IsChosenWell}
use Rattle.both_ends.proofs.ExchangeLists.{each_behind}
use Rattle.both_ends.proofs.ExchangePlugs.{IsAside, replied_aside, turn_aside}
use Rattle.both_ends.proofs.ExchangeReported.{IsWell}

-- the state has its sizes, and so has what the controller sends
abbrev pub IsRight : Setup → Turn → Type 0
IsRight setup turn = IsLive turn.live × AllByRecursion (CanBeSent setup) turn.sent

module _ (setup : Setup) (good : IsSetup setup) where
  either : (b : Bool) (x y : Turn) → (b ≡ true → IsRight setup x) → (b ≡ false → IsRight setup y) → IsRight setup (cond b x y)
  either true x y one other = one refl
  either false x y one other = other refl

  stays_right : (live : Live) → IsLive live → IsRight setup (stays live)
  stays_right live is = (is, tt)

  numbered : (request : Request) → IsFew request → IsNumbered request
  numbered (asks.Write number) few = omega (arith, few)
  numbered (asks.Release sequence) few = few
  numbered (asks.WriteAfter number tries) few = (omega (arith, few.0), few.1)
  numbered (asks.PrmEndAfter tries) few = few
  numbered other few = tt

  asking_right : (phase : State) (request : Request) (live : Live) → IsLive live → IsFew request → IsRight setup (asking setup phase request live)
  asking_right phase request live is few = (
    record { device = is.device; asked = few; way = is.way; few = is.few; high = is.high; low = is.low; access = is.access },
    ((is.device, numbered request few), tt),
  )

  unasked : (live : Live) (phase : State) (left : ℕ) → IsLive live → IsLive (record live { phase = phase; asked = None; left = left })
  unasked live phase left is = record { device = is.device; asked = tt; way = is.way; few = is.few; high = is.high; low = is.low; access = is.access }

  over_live : (why : Cause) (live : Live) → IsLive live → IsLive (over why live)
  over_live why live is = record { device = is.device; asked = tt; way = is.way; few = is.few; high = is.high; low = is.low; access = (tt, tt) }

  few_by : (is_list : Bool) (count : ℕ) → count ≤ 32 → cond is_list ((count + 9) / 10) count ≤ 32
  few_by true count few = omega (arith, few)
  few_by false count few = few

  sequence_few : (plan : Parts) (calls : ℕ) (asked : Option Request) → AreFew asked → next_sequence plan calls asked < 4294967296
  sequence_few plan calls (Some asks.Connect) few = omega arith
  sequence_few plan calls (Some (asks.Write number)) few = omega (arith, few)
  sequence_few plan calls (Some (asks.WriteAfter number tries)) few = omega (arith, few.0, few.1)
  sequence_few plan calls other few = mod-lt (write_count plan + 2 + calls) (omega arith)

  released_right : (why : Cause) (live : Live) → IsLive live → IsRight setup (released setup why live)
  released_right why live is =
      asking_right (Ended why) (asks.Release (next_sequence setup.plan live.access.calls live.asked)) (over why live) (over_live why live is) (sequence_few setup.plan live.access.calls live.asked is.asked)

  -- the next request is a Write, or PrmEnd
  picked_few : (number : ℕ) (b : Bool) → (b ≡ true → number < 32) → IsFew (cond b (asks.Write number) asks.PrmEnd)
  picked_few number true few = few refl
  picked_few number false few = tt

  picked_again : (number tries : ℕ) (b : Bool) → (b ≡ true → number < 32) → tries < 65536 → IsFew (cond b (asks.WriteAfter number tries) (asks.PrmEndAfter tries))
  picked_again number tries true few tried = (few refl, tried)
  picked_again number tries false few tried = tried

  writing_few : (plan : Parts) (number : ℕ) → IsPlan plan → IsFew (writing_from plan number)
  writing_few plan number is =
      picked_few number (nat_lt number (write_count plan))
      (λ e. let below = ltb-true number (write_count plan) e in omega (arith, below, few_by plan.multiple_write (length plan.records.items) is.few_records))

  again_few : (plan : Parts) (number tries : ℕ) → IsPlan plan → tries < 65536 → IsFew (writing_after plan number tries)
  again_few plan number tries is tried =
      picked_again number tries (nat_lt number (write_count plan))
      (λ e. let below = ltb-true number (write_count plan) e in omega (arith, below, few_by plan.multiple_write (length plan.records.items) is.few_records)) tried

  writing_right : (next : Request) (live : Live) → IsFew next → IsLive live → IsRight setup (writing setup next live)
  writing_right next live few is = asking_right (phase_for next) next live is few

  stands_live : (live : Live) (chosen : Chosen) → IsLive live → (chosen.frame_id < 65536) × (chosen.reference < 65536) → IsLive (standing setup live chosen)
  stands_live live chosen is small = record {
    device = is.device;
    asked = is.asked;
    way = record { partner = is.device; sent_id = small.0; sent_tag = omega arith; alarm_tag = omega arith; reference = small.1 };
    few = is.few;
    high = is.high;
    low = is.low;
    access = is.access;
  }

  related_right : (live : Live) (found : Option Chosen) → IsLive live → ((chosen : Chosen) → found ≡ Some chosen → (chosen.frame_id < 65536) × (chosen.reference < 65536))
      → IsRight setup (related_by setup live found)
  related_right live (Some chosen) is small = writing_right (writing_from setup.plan 0) (standing setup live chosen) (writing_few setup.plan 0 good.plan) (stands_live live chosen is (small chosen refl))
  related_right live None is small = stays_right live is

  -- the places of the plan, by the response to the Connect
  told_live : (live : Live) (blocks : List ℕ) → IsLive live → IsLive (placed setup blocks live)
  told_live live blocks is = record { device = is.device; asked = is.asked; way = is.way; few = is.few; high = is.high; low = is.low; access = is.access }

  connected_right : (live : Live) (blocks : List ℕ) (read : Option Found) → found_in 400 blocks nothing ≡ read → IsLive live → IsChosenWell blocks → IsRight setup (connected setup live blocks read)
  connected_right live blocks (Some found) e is well =
      either (is_whole found) _ _
      (λ whole. either found.differs _ _ (λ differs. released_right cause.ModuleDiff live is)
      (λ same. related_right (placed setup blocks live) (chosen_of found) (told_live live blocks is) (λ chosen there. let all = well found e whole same chosen there in (all.0, all.1))))
      (λ lacks. stays_right live is)
  connected_right live blocks None e is well = stays_right live is

  noted_live : (status : Status) (number : ℕ) (live : Live) → IsLive live → IsLive (noted status number live)
  noted_live status number live is =
      record { device = is.device; asked = is.asked; way = is.way; few = is.few; high = is.high; low = is.low; access = is.access }

  -- a record is refused: the next Write, or the end
  passed_right : (live : Live) (next : Request) (refused : ℕ) (status : Status) → IsFew next → IsLive live → IsRight setup (past_record setup next (noted status refused live))
  passed_right live next refused status few is =
      either setup.plan.continue_on_refused_record _ _
      (λ goes. writing_right next (noted status refused live) few (noted_live status refused live is))
      (λ ends. either setup.plan.release_on_refused_record _ _
      (λ informs. released_right cause.Refused (noted status refused live) (noted_live status refused live is))
      (λ silent. stays_right (over cause.Refused (noted status refused live)) (over_live cause.Refused (noted status refused live) (noted_live status refused live is))))

  wrote_right : (live : Live) (number : ℕ) (next : Request) (outcomes : Outcomes) → IsFew next → IsLive live → IsRight setup (after_write setup live number next outcomes)
  wrote_right live number next AllWritten few is = writing_right next live few is
  wrote_right live number next (Denied place status) few is = passed_right live next (first_of setup.plan number + place) status few is
  wrote_right live number next Unreadable few is = stays_right live is

  -- a request that is refused as busy is tried again
  tried_below : (status : Status) (tries : ℕ) → is_tried setup.plan status tries ≡ true → tries < 65535
  tried_below status tries again =
      let keyed = and_parts setup.plan.persistent_start (is_busy status && nat_lt tries 65535) again in
      ltb-true tries 65535 (and_parts (is_busy status) (nat_lt tries 65535) keyed.1).1

  trying_right : (live : Live) (next : Request) (status : Status) → IsFew next → IsLive live → IsRight setup (trying next status live)
  trying_right live next status few is =
      (record { device = is.device; asked = few; way = is.way; few = is.few; high = is.high; low = is.low; access = is.access }, tt)

  refused_write_right : (live : Live) (status : Status) (number tries : ℕ) (next : Request) → number < 32 → IsFew next → IsLive live
      → IsRight setup (refused_write setup live status number tries next)
  refused_write_right live status number tries next below few is =
      either (is_tried setup.plan status tries) _ _
      (λ again. trying_right live (asks.WriteAfter number (tries + 1)) status (below, omega (arith, tried_below status tries again)) is)
      (λ other. passed_right live next (first_of setup.plan number) status few is)

  refused_end_right : (live : Live) (status : Status) (tries : ℕ) → IsLive live → IsRight setup (refused_end setup live status tries)
  refused_end_right live status tries is =
      either (is_tried setup.plan status tries) _ _
      (λ again. trying_right live (asks.PrmEndAfter (tries + 1)) status (omega (arith, tried_below status tries again)) is)
      (λ other. stays_right (denied status live)
      (record { device = is.device; asked = tt; way = is.way; few = is.few; high = is.high; low = is.low; access = (tt, tt) }))

  done_right : (live : Live) (blocks : List ℕ) (request : Request) → IsFew request → IsLive live → (request ≡ asks.Connect → IsChosenWell blocks) → IsRight setup (done setup live blocks request)
  done_right live blocks asks.Identify few is well = stays_right live is
  done_right live blocks asks.Address few is well = stays_right live is
  done_right live blocks asks.Connect few is well = connected_right live blocks (found_in 400 blocks nothing) refl is (well refl)
  done_right live blocks (asks.Write number) few is well =
      wrote_right live number (writing_from setup.plan (number + 1)) (outcomes_of setup.plan number blocks) (writing_few setup.plan (number + 1) good.plan) is
  done_right live blocks (asks.WriteAfter number tries) few is well =
      wrote_right live number (writing_after setup.plan (number + 1) tries) (outcomes_of setup.plan number blocks)
      (again_few setup.plan (number + 1) tries good.plan few.1) is
  done_right live blocks asks.PrmEnd few is well = stays_right _ (unasked live Waiting setup.options.waiting_patience is)
  done_right live blocks (asks.PrmEndAfter tries) few is well = stays_right _ (unasked live Waiting setup.options.waiting_patience is)
  done_right live blocks (asks.Release sequence) few is well = stays_right _ (unasked live live.phase live.left is)

  undone_right : (live : Live) (status : Status) (request : Request) → IsFew request → IsLive live → IsRight setup (undone setup live status request)
  undone_right live status (asks.Write number) few is =
      refused_write_right live status number 0 (writing_from setup.plan (number + 1)) few (writing_few setup.plan (number + 1) good.plan) is
  undone_right live status (asks.WriteAfter number tries) few is =
      refused_write_right live status number tries (writing_after setup.plan (number + 1) tries) few.0 (again_few setup.plan (number + 1) tries good.plan few.1) is
  undone_right live status asks.PrmEnd few is = refused_end_right live status 0 is
  undone_right live status (asks.PrmEndAfter tries) few is = refused_end_right live status tries is
  undone_right live status asks.Connect few is =
      let next : Live = record live { refusal = Some status } in
      let same : IsLive next =
      record { device = is.device; asked = is.asked; way = is.way; few = is.few; high = is.high; low = is.low; access = is.access } in
      either (is_held setup.plan status) _ _ (λ held. released_right cause.Refused next same) (λ not. stays_right (over cause.Refused next) (over_live cause.Refused next same))
  undone_right live status request few is =
      stays_right (denied status live) (record { device = is.device; asked = tt; way = is.way; few = is.few; high = is.high; low = is.low; access = (tt, tt) })

  handled_right : (live : Live) (response : Response) (request : Request) → IsFew request → IsLive live → (request ≡ asks.Connect → is_done response.status ≡ true → IsChosenWell response.blocks)
      → IsRight setup (handled setup live response request)
  handled_right live response request few is well =
      either (is_done response.status) _ _ (λ positive. done_right live response.blocks request few is (λ connects. well connects positive))
      (λ negative. undone_right live response.status request few is)

  decided_right : (live : Live) (response : Response) (request : Request) → IsFew request → IsLive live → (request ≡ asks.Connect → is_done response.status ≡ true → IsChosenWell response.blocks)
      → IsRight setup (decided setup live response request)
  decided_right live response asks.Identify few is well = handled_right live response asks.Identify few is well
  decided_right live response asks.Address few is well = handled_right live response asks.Address few is well
  decided_right live response asks.Connect few is well = handled_right live response asks.Connect few is well
  decided_right live response (asks.Write number) few is well = handled_right live response (asks.Write number) few is well
  decided_right live response asks.PrmEnd few is well = handled_right live response asks.PrmEnd few is well
  decided_right live response (asks.WriteAfter number tries) few is well = handled_right live response (asks.WriteAfter number tries) few is well
  decided_right live response (asks.PrmEndAfter tries) few is well = handled_right live response (asks.PrmEndAfter tries) few is well
  decided_right live response (asks.Release sequence) few is well = stays_right _ (unasked live live.phase live.left is)

  -- the answer to a request of the application
  answered_live : (live : Live) (refusal : Option Status) (access : Accessing) → access.waiting ≡ None → access.plug ≡ live.access.plug → IsLive live
      → IsLive (record live { refusal = refusal; access = access })
  answered_live live refusal access e same is = record {
    device = is.device;
    asked = is.asked;
    way = is.way;
    few = is.few;
    high = is.high;
    low = is.low;
    access = (subst (λ (w : Option RecordRequest). IsWaiting w access.octets) (sym e) tt, subst (λ (plug : Option PlugRequest). IsPlugging plug) (sym same) is.access.1);
  }

  live_if : (b : Bool) (x y : Live) → IsLive x → IsLive y → IsLive (cond b x y)
  live_if true x y one other = one
  live_if false x y one other = other

  brings_live : (request : RecordRequest) (read : Option (List ℕ)) (live : Live) → IsLive live → IsLive (brings request read live)
  brings_live request (Some octets) live is = answered_live live live.refusal _ refl refl is
  brings_live request None live is = is

  granted_live : (request : RecordRequest) (blocks : List ℕ) (asked : RecordService) (live : Live) → IsLive live → IsLive (granted request blocks asked live)
  granted_live request blocks service.Read live is = brings_live request (record_in (block_of blocks)) live is
  granted_live request blocks service.Write live is = answered_live live live.refusal _ refl refl is

  replied_live : (live : Live) (response : Response) (waiting : Option RecordRequest) → IsLive live → IsLive (replied setup live response waiting)
  replied_live live response (Some request) is =
      live_if (is_reply setup request response.header) (replied_by live response request) live
      (live_if (is_done response.status) (granted request response.blocks request.service live) (failed response.status request live)
      (granted_live request response.blocks request.service live is) (answered_live live (Some response.status) _ refl refl is)) is
  replied_live live response None is = is

  -- ---- after a plug

  aside_live : (live after : Live) → IsAside live after → IsLive live → IsLive after
  aside_live live after aside is = subst (λ (l : Live). IsLive l) (sym aside.is) (record {
    device = is.device;
    asked = is.asked;
    way = is.way;
    few = is.few;
    high = is.high;
    low = is.low;
    access = (
      subst (λ (w : Option RecordRequest). IsWaiting w aside.access.octets) (sym aside.waits)
          (subst (λ (octets : List ℕ). IsWaiting live.access.waiting octets) (sym aside.carries) is.access.0),
      aside.sized is.access.1,
    );
  })

  plugs_right : (device : Mac) (plug : Option PlugRequest) → IsMac device → IsPlugging plug → AllByRecursion (CanBeSent setup) (plugs_by device plug)
  plugs_right device (Some request) six sized = ((six, sized), tt)
  plugs_right device None six sized = tt

  -- after a turn, that of a place begins, if one can
  after_right : (could : Bool) (turn : Turn) → IsRight setup turn → IsRight setup (after_turn setup could turn)
  after_right could turn right =
      let begun = begun_turn setup turn.live in
      let now = aside_live turn.live begun (turn_aside setup turn.live) right.0 in
      either (could || not (can_begin turn.live)) _ _ (λ none. right)
      (λ begins. (now, each_behind (CanBeSent setup) turn.sent (plugs_of begun) right.1 (plugs_right begun.device begun.access.plug now.device now.access.1)))

  -- a response, if no request of the start-up waits
  beside_right : (live : Live) (response : Response) (plug : Option PlugRequest) → IsLive live → IsRight setup (beside setup live response plug)
  beside_right live response (Some request) is =
      let after = plug_replied setup live response.status request in
      let now = aside_live live after (replied_aside setup live response.status request) is in
      either (is_plug_answer setup request response.header.activity response.header.sequence) _ _
      (λ answers. (now, plugs_right after.device after.access.plug now.device now.access.1)) (λ other. stays_right live is)
  beside_right live response None is = stays_right (replied setup live response live.access.waiting) (replied_live live response live.access.waiting is)

  responded_right : (live : Live) (response : Response) (asked : Option Request) → AreFew asked → IsLive live → IsWell setup (Responds response) → IsRight setup (responded setup live response asked)
  responded_right live response (Some request) few is fit =
      either (is_answer setup request response.header) _ _
      (λ answers. decided_right live response request few is (λ connects. fit (ap (λ (one : Request). is_answer setup one response.header) (sym connects) ∙ answers)))
      (λ other. stays_right live is)
  responded_right live response None few is fit = beside_right live response live.access.plug is

  -- the turn of a response, and that of a place which may begin then
  pub response_right : (live : Live) (response : Response) → IsLive live → IsWell setup (Responds response) → IsRight setup (turned setup live (Responds response))
  response_right live response is fit = after_right (can_begin live) (responded setup live response live.asked) (responded_right live response live.asked is.asked is fit)
