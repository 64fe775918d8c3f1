-- Each turn of a device, as far as its outputs are concerned.
use Rattle.std.proofs.Common.{◌≡◌, ◌⊎◌, inl, inr, ◌==◌, ◌+◌, ◌<◌, ℕ, Bool, true, false, cond, List, [], ◌∷◌, map, Option, Some, None, option_map, Result, Ok, Err, refl, sym, ap, subst, ◌∙◌, arith}
use Rattle.std.specs.Prelude.{is_some, nat_eq, nat_le}
use Rattle.std.proofs.lemmas.Bool.{and_parts, and_from, eqb-true, le-leb}
use Rattle.std.specs.List.{AllByRecursion}
use Rattle.std.specs.Cmp.Lexicographic.{pointwise}
use Rattle.wire.specs.Codec.{IsSound}
use Rattle.frame_codec.specs.Frame.{ethernet}
use Rattle.pn_values.specs.declared.mac.Mac.{Mac}
use Rattle.pn_values.specs.declared.real.RealModule.{RealModule}
use Rattle.rpc_core.specs.Cache.{Kept as Answer}
use Rattle.module_diff.specs.Plugged.{module_ident, submodule_ident}
use Rattle.connects.specs.requests.Request.{Request}
use Rattle.pn_alarms.specs.declared.message.Notice.TheVariants as notice
use Rattle.pn_alarms.specs.Device.{end_with}
use Rattle.pn_alarms.specs.Sender.{notice_of}
use Rattle.cyclic_data.specs.declared.tail.CyclicTail.{CyclicTail}
use Rattle.cyclic_data.specs.declared.tail.ShortFrame.{ShortFrame}
use Rattle.cyclic_data.specs.Image.{Cell, Shown as Image, cell_of, with_frame}
use Rattle.cyclic_data.specs.Tail.{cyclic_of}
use Rattle.cyclic_data.specs.Timing.{Hearing, held_on}
use Rattle.cyclic_data.specs.declared.exchange.received.Received.TheVariants as received
use Rattle.cyclic_data.specs.declared.exchange.route.Route.{Route}
use Rattle.cyclic_data.specs.exchange.Cyclic.{Cyclic}
use Rattle.cyclic_data.specs.exchange.Received.{behind_read, is_new, is_of_partner, received_in}
use Rattle.relations.specs.exchange.Flow.{Flow}
use Rattle.relations.specs.exchange.Notices.{may_raise, raised_by}
use Rattle.diagnosis.specs.declared.diagnosis.Diagnosis.{Diagnosis}
use Rattle.relations.specs.Diagnosed.{diagnosing}
use Rattle.relations.specs.RelationState.{RelationState}
use Rattle.relations.specs.Exchanged.{hearing}
use Rattle.both_ends.specs.startup.request.Request.{request_for}
use Rattle.device_frames.specs.Heard.{Heard, Cyclic as Comes}
use Rattle.device_frames.specs.Sent.{Sent, CallAnswer, Again, bytes_of}
use Rattle.device_frames.specs.Sendable.{AreSendable, IsSendable}
use Rattle.device_core.specs.State.{Station, Rest, Live}
use Rattle.settings_journal.specs.settings_store.Machine.{Outcome, carried}
use Rattle.device_core.specs.Handled.{kept_for, handled}
use Rattle.device_core.specs.Machine.{finished, items_in, handled_step, heard_step}
use Rattle.end_laws.specs.both.Outputs.{BringsNone, Outputs}
use Rattle.end_laws.specs.device.Small.{IsPlanned}
use Rattle.controller_messages.specs.declared.setup.Setup.{Setup}
use Rattle.both_ends.specs.startup.View.{rules_of}
use Rattle.end_laws.specs.device.Turn.{Answers, BeginsNumbered, IsNumbered, IsSameOr, IsTurn, Makes, Standing, Takes, Turn, heard_low_in, standing_of}
use Rattle.both_ends.proofs.ExchangeKeys.{StandingSo}
use Rattle.end_laws.specs.device.Owed.{IsOwed}
use Rattle.both_ends.proofs.StartupEach.{each_of}
use Rattle.both_ends.proofs.ExchangeOutputsBrings.{IsKnown, message_silent}
use Rattle.both_ends.proofs.ExchangeTied.{begun_link, changed_link, diagnosed_link, next_link}
use Rattle.both_ends.specs.exchange.Shown.{accepted_in, brought_in, image_in, is_output, octets_in, outputs_of, route_for, zeros_for}
use Rattle.rpc_core.specs.Cache.{is_of, kept_of, without, kept_more}
use Rattle.wire.specs.Codec.{◌>>=◌}
use Rattle.connects.specs.requests.Pieces.{Piece, pieces_of}
use Rattle.connects.specs.requests.Handled.{admitted, ar_in, request_behind, request_in, request_of}
use Rattle.records.specs.declared.status.call_fault.CallFault.{CallFault}
use Rattle.records.specs.declared.status.operation.Operation.{Operation}
use Rattle.records.specs.declared.status.operation.Operation.TheVariants as operation
use Rattle.relations.specs.Connect.{connect_of}
use Rattle.relations.specs.Numbers.{IsNumber, is_id_from, is_own_id}
use Rattle.relations.specs.declared.options.DeviceOptions.{DeviceOptions}
use Rattle.relations.specs.Phases.{exchanging_from, made_of, with_flow, updated}
use Rattle.relations.specs.Plugging.{modules_changing, rows_now}
use Rattle.relations.specs.Timers.{unit_later}
use Rattle.end_laws.specs.device.Small.{IsPlannedAs, IsPlannedCall}
use Rattle.std.proofs.Common.{zero, suc, take}

-- ---- an end of cyclic data

-- the accepted image, its source and its counter are unchanged
record IsSame (before after : Cyclic) : Type 0 where
  route : after.route ≡ before.route
  last : after.hearing.last ≡ before.hearing.last
  taken : after.taken ≡ before.taken

same : (cyclic : Cyclic) → IsSame cyclic cyclic
same cyclic = record { route = refl; last = refl; taken = refl }

-- a frame followed by another one has the same effect as the second one
cells_again : (octets others : List ℕ) (cells : List Cell) → map (λ (cell : Cell). cell_of octets cell.place) (map (λ (cell : Cell). cell_of others cell.place) cells) ≡ map (λ (cell : Cell). cell_of octets cell.place) cells
cells_again octets others [] = refl
cells_again octets others (cell ∷ cells) = ap (λ (more : List Cell). cell_of octets cell.place ∷ more) (cells_again octets others cells)

frame_again : (octets others : List ℕ) (image : Image) → with_frame octets (with_frame others image) ≡ with_frame octets image
frame_again octets others image = ap (λ (cells : List Cell). record { data_length = image.data_length; cells = cells }) (cells_again octets others image.cells)

held_last : (begun : Bool) (hearing : Hearing) → (cond begun (held_on hearing) hearing).last ≡ hearing.last
held_last true hearing = refl
held_last false hearing = refl

-- ---- the FrameID of outputs

own_id : (numbers_from : Option ℕ) (number : ℕ) → number < 14336 → (numbers_from ≡ None → number ≡ 0) → is_id_from numbers_from (0xC000 + number) ≡ true
own_id None number few fixed = ap (λ (n : ℕ). 0xC000 + n == 0xC000) (fixed refl)
own_id (Some first) number few fixed =
    and_from (nat_le 0xC000 (0xC000 + number)) (nat_le (0xC000 + number) 0xF7FF) (le-leb 0xC000 (0xC000 + number) (omega arith)) (le-leb (0xC000 + number) 0xF7FF (omega (arith, few)))

-- a frame that a device accepts in a relation of such a number brings outputs
accepted_is_output : (options : DeviceOptions) (setup : Setup) (number : ℕ) → IsNumber options number → (source : Mac) (frame_id : ℕ)
    → is_of_partner (route_for number setup) source frame_id ≡ true → is_output options setup source frame_id ≡ true
accepted_is_output options setup number numbered source frame_id partner =
    let own = pointwise nat_eq source.octets setup.plan.controller.mac.octets in
    let parts = and_parts own (frame_id == 0xC000 + number) partner in
    and_from own (is_own_id options frame_id) parts.0
    (subst (λ (id : ℕ). is_own_id options id ≡ true) (sym (eqb-true frame_id (0xC000 + number) parts.1)) (own_id options.numbers_from number numbered.few numbered.fixed))

-- ---- a relation

-- the relation ends, or what it accepts is unchanged
abbrev IsSameIn : Option RelationState → RelationState → Type 0
IsSameIn None after = ⊥
IsSameIn (Some before) after = IsSame before.flow.cyclic after.flow.cyclic

abbrev Stays : Option RelationState → Option RelationState → Type 0
Stays before None = Unit {0}
Stays before (Some after) = IsSameIn before after

some_is : {A : Type 0} (x y : A) → Some x ≡ Some y → x ≡ y
some_is x y e = cc

standing_same : (before after : Option RelationState) → option_map standing_of after ≡ option_map standing_of before → Stays before after
standing_same before None e = tt
standing_same None (Some after) e = absurd cc
standing_same (Some before) (Some after) e =
    let same = some_is (standing_of after) (standing_of before) e in
    record { route = ap (λ (s : Standing). s.route) same; last = ap (λ (s : Standing). s.last) same; taken = ap (λ (s : Standing). s.outputs) same }

stays_by : (before after : Option RelationState) → IsSameOr before after → Stays before after
stays_by before after (inl same) = standing_same before after same
stays_by before after (inr ends) = subst (λ (l : Option RelationState). Stays before l) (sym ends) tt

-- the relation became this
becomes_so : (before after : Option RelationState) (link now : RelationState) → before ≡ Some link → after ≡ Some now → IsSame link.flow.cyclic now.flow.cyclic → Stays before after
becomes_so before after link now was is same = subst (λ (l : Option RelationState). Stays l after) (sym was) (subst (λ (l : Option RelationState). Stays (Some link) l) (sym is) same)

-- an alarm does not change the outputs
abbrev IsSameFlow : RelationState → Option Flow → Type 0
IsSameFlow link None = Unit {0}
IsSameFlow link (Some flow) = IsSame link.flow.cyclic flow.cyclic

raised_if : (link : RelationState) (may : Bool) (flow : Flow) → IsSame link.flow.cyclic flow.cyclic → IsSameFlow link (cond may (Some flow) None)
raised_if link true flow is = is
raised_if link false flow is = tt

raised_same : (link : RelationState) (slot subslot : ℕ) (octets : List ℕ) (ident part : Option ℕ) → IsSameFlow link (raised_by link.flow slot subslot octets ident part)
raised_same link slot subslot octets (Some ident) (Some part) =
    raised_if link (may_raise link.flow octets)
    (record link.flow { alarms = end_with link.flow.alarms (notice_of link.flow.alarms.sender.specifier slot subslot ident part octets) }) (same link.flow.cyclic)
raised_same link slot subslot octets (Some ident) None = tt
raised_same link slot subslot octets None part = tt

-- ---- what a Connect asks for

bind_ok : {A B : Type 0} (r : Result A CallFault) (f : A → Result B CallFault) (y : B) → (r >>= f) ≡ Ok y → (x : A) × (r ≡ Ok x) × (f x ≡ Ok y)
bind_ok (Ok x) f y e = (x, refl, e)
bind_ok (Err why) f y e = absurd cc

same_ok : {A B : Type 0} (x y : A) → ◌≡◌ {A = Result A B} (Ok x) (Ok y) → x ≡ y
same_ok x y e = cc

-- no relation is made while another exists
none_beside : (standing : List ℕ) (pieces : List Piece) (request : Request) → request_in (Some standing) pieces ≡ Ok request → ⊥
unfolding request_in
none_beside standing [] request e = absurd cc
none_beside standing (piece ∷ pieces) request e =
    let first = bind_ok (ar_in piece) (λ ar. admitted (Some standing) ar >>= λ _. request_behind ar pieces) request e in
    refused first.2
  where
    refused : {why : CallFault} → ◌≡◌ {A = Result Request CallFault} (Err why) (Ok request) → ⊥
    refused f = absurd cc

made_from : (link : Option RelationState) (blocks : List ℕ) (request asked : Request) → connect_of link blocks ≡ Ok request → request_of None blocks ≡ Ok asked → request ≡ asked
unfolding request_of
made_from None blocks request asked is reads = same_ok request asked (sym is ∙ reads)
made_from (Some link) blocks request asked is reads = absurd (none_beside link.request.ar.uuid (pieces_of blocks) request is)

made_alone : (link : Option RelationState) (blocks : List ℕ) (request : Request) → connect_of link blocks ≡ Ok request → link ≡ None
unfolding request_of
made_alone None blocks request is = refl
made_alone (Some link) blocks request is = absurd (none_beside link.request.ar.uuid (pieces_of blocks) request is)

-- ---- responses that are stored

all_taken : {A : Type 0} (P : A → Type 0) (count : ℕ) (xs : List A) → AllByRecursion P xs → AllByRecursion P (take count xs)
all_taken P zero xs all = tt
all_taken P (suc count) [] all = tt
all_taken P (suc count) (x ∷ xs) all = (all.0, all_taken P count xs all.1)

module _ (P : List ℕ → Type 0) (activity : List ℕ) where
  -- a property of a response, if it is stored for this activity
  abbrev pub IsKeptSo : Answer → Type 0
  IsKeptSo kept = is_of activity kept ≡ true → P kept.frame

  -- a property of each response that is stored for this activity
  abbrev pub AreKept : List Answer → Type 0
  AreKept calls = AllByRecursion IsKeptSo calls

  without_kept : (other : List ℕ) (calls : List Answer) → AreKept calls → AreKept (without other calls)
  without_kept other [] all = tt
  without_kept other (kept ∷ calls) all = by_name (is_of other kept) (without_kept other calls all.1)
    where
      by_name : (b : Bool) → AreKept (without other calls) → AreKept (cond b calls (kept ∷ without other calls))
      by_name true others = all.1
      by_name false others = (all.0, others)

  pub more_kept : (answer : Answer) (calls : List Answer) → IsKeptSo answer → AreKept calls → AreKept (kept_more 4 answer calls)
  more_kept answer calls one all = (one, all_taken IsKeptSo 3 (without answer.activity calls) (without_kept answer.activity calls all))

  pub kept_at : (calls : List Answer) → AreKept calls → (kept : Answer) → kept_of activity calls ≡ Some kept → P kept.frame
  kept_at [] all kept is = absurd cc
  kept_at (other ∷ calls) all kept is = by_name (is_of activity other) refl is (λ there. kept_at calls all.1 kept there)
    where
      by_name : (b : Bool) → is_of activity other ≡ b → cond b (Some other) (kept_of activity calls) ≡ Some kept → (kept_of activity calls ≡ Some kept → P kept.frame) → P kept.frame
      by_name true own e others = subst (λ (k : Answer). P k.frame) (same_some other kept e) (all.0 own)
        where
          same_some : (x y : Answer) → Some x ≡ Some y → x ≡ y
          same_some x y f = cc
      by_name false own e others = others e

  -- no response is stored for this activity
  pub none_kept : (calls : List Answer) → kept_of activity calls ≡ None → AreKept calls
  none_kept [] none = tt
  none_kept (kept ∷ calls) none = by_name (is_of activity kept) refl none (none_kept calls)
    where
      by_name : (b : Bool) → is_of activity kept ≡ b → cond b (Some kept) (kept_of activity calls) ≡ None → (kept_of activity calls ≡ None → AreKept calls) → IsKeptSo kept × AreKept calls
      by_name true is e others = absurd cc
      by_name false is e others = (λ own. absurd (not_own (sym own ∙ is)), others e)
        where
          not_own : true ≡ false → ⊥
          not_own f = cc

-- ---- steps

module _ (setup : Setup) (station : Station) where
  abbrev rules : Outputs Image Image
  rules = outputs_of station.options setup station.identity

  -- what is accepted is of the plan, in a relation of a number that the device may give
  pub record IsOurs (cyclic : Cyclic) : Type 0 where
    pub number : ℕ
    pub numbered : IsNumber station.options number
    pub route : cyclic.route ≡ route_for number setup
    pub size : cyclic.taken.data_length ≡ (zeros_for setup).data_length
    pub places : (octets : List ℕ) → with_frame octets cyclic.taken ≡ with_frame octets (zeros_for setup)

  abbrev pub IsOursIn : Option RelationState → Type 0
  IsOursIn None = Unit {0}
  IsOursIn (Some link) = IsOurs link.flow.cyclic

  -- the response that is stored for the activity of this set-up brings no outputs
  abbrev pub AreKeptSilent : List Answer → Type 0
  AreKeptSilent calls = AreKept (BringsNone rules) setup.activity calls

  -- no response is stored for it
  pub none_silent : (calls : List Answer) → kept_of setup.activity calls ≡ None → AreKeptSilent calls
  none_silent calls none = none_kept (BringsNone rules) setup.activity calls none

  -- a frame that brings these octets is accepted
  pub record Accepts (brought : Option (List ℕ)) (after : Option RelationState) : Type 0 where
    pub octets : List ℕ
    pub brings : brought ≡ Some octets
    pub accepted : accepted_in after ≡ true
    pub shown : image_in setup after ≡ with_frame octets (zeros_for setup)

  abbrev pub ShowsIn : Option (List ℕ) → Option RelationState → Option RelationState → Type 0
  ShowsIn brought before after =
      ((accepted_in after ≡ accepted_in before) × (image_in setup after ≡ image_in setup before))
      ⊎ (((accepted_in after ≡ false) × (image_in setup after ≡ zeros_for setup)) ⊎ Accepts brought after)

  stays_shows : (brought : Option (List ℕ)) (before after : Option RelationState) → Stays before after → ShowsIn brought before after
  stays_shows brought before None stays = inr (inl (refl, refl))
  stays_shows brought None (Some after) stays = absurd stays
  stays_shows brought (Some before) (Some after) stays = inl (ap (λ (last : Option ℕ). is_some last) stays.last, stays.taken)

  stays_ours : (before after : Option RelationState) → Stays before after → IsOursIn before → IsOursIn after
  stays_ours before None stays ours = tt
  stays_ours None (Some after) stays ours = absurd stays
  stays_ours (Some before) (Some after) stays ours = record {
    number = ours.number;
    numbered = ours.numbered;
    route = stays.route ∙ ours.route;
    size = ap (λ (image : Image). image.data_length) stays.taken ∙ ours.size;
    places = λ octets. ap (λ (image : Image). with_frame octets image) stays.taken ∙ ours.places octets;
  }

  -- the effect of a step to which these octets are brought
  pub record Goes (brought : Option (List ℕ)) (before after : Rest) (sent : List Sent) : Type 0 where
    pub shows : ShowsIn brought before.link after.link
    pub ours : IsOursIn after.link
    pub calls : AreSendable station.identity sent → AreKeptSilent after.calls
    pub known : AllByRecursion (IsKnown rules) sent

  module _ (sound : IsSound ethernet) (apart : pointwise nat_eq station.identity.mac.octets setup.plan.controller.mac.octets ≡ false) where
    all_silent : (sent : List Sent) → AreSendable station.identity sent → AllByRecursion (IsKnown rules) sent → AllByRecursion (BringsNone rules) (map (bytes_of station.identity) sent)
    all_silent [] can known = tt
    all_silent (message ∷ sent) can known = (message_silent station.options setup station.identity sound apart message can.0 known.0, all_silent sent can.1 known.1)

    -- ---- a cyclic frame

    module _ (source : Mac) (frame_id : ℕ) (body : List ℕ) where
      -- a frame that is accepted
      abbrev Shows_by : RelationState → Option RelationState → Type 0
      Shows_by link after = ShowsIn (brought_in station.options setup (Comes source frame_id body)) (Some link) after × IsOursIn after

      brought_is : (link : RelationState) (x : List ℕ × CyclicTail) → IsOurs link.flow.cyclic → is_of_partner link.flow.cyclic.route source frame_id ≡ true
          → cyclic_of link.flow.cyclic.taken.data_length body ≡ Ok x → brought_in station.options setup (Comes source frame_id body) ≡ Some x.0
      brought_is link x is partner read =
          ap (λ (b : Bool). cond b (octets_in (cyclic_of (zeros_for setup).data_length body)) None)
          (accepted_is_output station.options setup is.number is.numbered source frame_id (ap (λ (r : Route). is_of_partner r source frame_id) (sym is.route) ∙ partner))
          ∙ ap (λ (r : Result (List ℕ × CyclicTail) ShortFrame). octets_in r) (ap (λ (n : ℕ). cyclic_of n body) (sym is.size) ∙ read)

      new_as : (link : RelationState) (x : List ℕ × CyclicTail) → IsOurs link.flow.cyclic → brought_in station.options setup (Comes source frame_id body) ≡ Some x.0 → (b : Bool)
          → cond b received.Taken received.Stale ≡ received.Taken
          → Shows_by link (Some (record link {
            flow = record link.flow {
              cyclic = cond b (record link.flow.cyclic {
                hearing = cond b (record { last = Some x.1.counter; held = 0; limit = link.flow.cyclic.hearing.limit }) link.flow.cyclic.hearing;
                taken = with_frame x.0 link.flow.cyclic.taken;
                data_status = x.1.data_status.0;
              }) link.flow.cyclic;
            };
          }))
      new_as link x is brings true e = (
        inr (inr (record { octets = x.0; brings = brings; accepted = refl; shown = is.places x.0 })),
        record { number = is.number; numbered = is.numbered; route = is.route; size = is.size; places = λ octets. frame_again octets x.0 link.flow.cyclic.taken ∙ is.places octets },
      )
      new_as link x is brings false e = absurd cc

      read_as : (link : RelationState) → IsOurs link.flow.cyclic → is_of_partner link.flow.cyclic.route source frame_id ≡ true
          → (read : Result (List ℕ × CyclicTail) ShortFrame) → cyclic_of link.flow.cyclic.taken.data_length body ≡ read
          → received_in link.flow.cyclic read ≡ received.Taken → Shows_by link (Some (record link { flow = record link.flow { cyclic = behind_read link.flow.cyclic read } }))
      read_as link is partner (Ok x) reads e = new_as link x is (brought_is link x is partner reads) (is_new link.flow.cyclic x.1) e
      read_as link is partner (Err short) reads e = absurd cc

      partner_as : (link : RelationState) → IsOurs link.flow.cyclic → (b : Bool) → is_of_partner link.flow.cyclic.route source frame_id ≡ b
          → cond b (received_in link.flow.cyclic (cyclic_of link.flow.cyclic.taken.data_length body)) received.Foreign ≡ received.Taken
          → Shows_by link (Some (record link { flow = record link.flow { cyclic = cond b (behind_read link.flow.cyclic (cyclic_of link.flow.cyclic.taken.data_length body)) link.flow.cyclic } }))
      partner_as link is true partner e = read_as link is partner (cyclic_of link.flow.cyclic.taken.data_length body) refl e
      partner_as link is false partner e = absurd cc

    -- ---- a turn

    module _ (standing : StandingSo) (live : Live) (heard : Heard) (ours : IsOursIn live.rest.link) (silent : AreKeptSilent live.rest.calls)
        (planned : IsPlanned (rules_of setup station) setup.activity station.named live.rest.real heard) where
      -- what is shown after a turn, and that it is of the plan
      abbrev ShowsSo : Option RelationState → Type 0
      ShowsSo after = ShowsIn (brought_in station.options setup heard) live.rest.link after × IsOursIn after

      stays_so : (after : Option RelationState) → Stays live.rest.link after → ShowsSo after
      stays_so after stays = (stays_shows (brought_in station.options setup heard) live.rest.link after stays, stays_ours live.rest.link after stays ours)

      -- a relation that is made is that of the plan
      makes_so : (after : Option RelationState) (sent : List Sent) → BeginsNumbered station.options live.rest.link after → Makes live.rest.calls live.rest.link heard after sent → ShowsSo after
      makes_so after sent numbers makes =
          let plan : IsPlannedCall (rules_of setup station) setup.activity station.named live.rest.real makes.call =
          subst (λ (h : Heard). IsPlanned (rules_of setup station) setup.activity station.named live.rest.real h) makes.is planned in
          let asks : IsPlannedAs (rules_of setup station) station.named live.rest.real makes.call.header.sequence plan.blocks (Some operation.Connect) =
          subst (λ (o : Option Operation). IsPlannedAs (rules_of setup station) station.named live.rest.real makes.call.header.sequence plan.blocks o) makes.connects plan.asks in
          let same : plan.blocks ≡ makes.blocks = some_is plan.blocks makes.blocks (sym plan.counted ∙ makes.counted) in
          let request : makes.request ≡ request_for setup.plan setup.ar =
          made_from live.rest.link makes.blocks makes.request (request_for setup.plan setup.ar) makes.read (ap (λ (b : List ℕ). request_of None b) (sym same) ∙ asks) in
          let link = made_of makes.request makes.partner makes.rows makes.options makes.starting in
          let numbered = numbers link (made_alone live.rest.link makes.blocks makes.request makes.read) makes.made in
          subst (λ (l : Option RelationState). ShowsSo l) (sym makes.made)
          (subst (λ (r : Request). IsNumbered station.options (made_of r makes.partner makes.rows makes.options makes.starting) → ShowsSo (Some (made_of r makes.partner makes.rows makes.options makes.starting))) (sym request)
          (λ has. (inr (inl (refl, refl)), record { number = has.number; numbered = has.is; route = has.route; size = refl; places = λ octets. refl })) numbered)

      takes_so : (after : Option RelationState) (sent : List Sent) → Takes live.rest.link heard after sent → ShowsSo after
      takes_so after sent takes =
          let link = takes.link in
          let here : IsOursIn (Some link) = subst (λ (l : Option RelationState). IsOursIn l) takes.was ours in
          subst (λ (h : Heard). ShowsIn (brought_in station.options setup h) live.rest.link after × IsOursIn after) (sym takes.is)
          (subst (λ (l : Option RelationState). ShowsIn (brought_in station.options setup (Comes takes.source takes.frame_id takes.body)) l after × IsOursIn after) (sym takes.was)
          (subst (λ (l : Option RelationState). Shows_by takes.source takes.frame_id takes.body link l) (sym takes.becomes)
          (partner_as takes.source takes.frame_id takes.body link here (is_of_partner link.flow.cyclic.route takes.source takes.frame_id) refl takes.taken)))

      link_shows : (now : List RealModule) (later : List Diagnosis) (after : Option RelationState) (sent : List Sent) → (Makes live.rest.calls live.rest.link heard after sent → ShowsSo after)
          → IsTurn live.rest.real.modules.items now live.rest.calls live.rest.diagnoses later live.rest.link heard after sent → ShowsSo after
      link_shows now later after sent made (inl stays) = stays_so after (stays_by live.rest.link after stays.link)
      link_shows now later after sent made (inr (inl makes)) = made makes
      link_shows now later after sent made (inr (inr (inl raises))) =
          let link = raises.link in
          let ident = module_ident live.rest.real.modules.items raises.slot in
          let part = submodule_ident live.rest.real.modules.items raises.slot raises.subslot in
          stays_so after (becomes_so live.rest.link after link (with_flow raises.flow link) raises.was raises.becomes
          (subst (λ (flow : Option Flow). IsSameFlow link flow) raises.raised (raised_same link raises.slot raises.subslot raises.octets ident part)))
      link_shows now later after sent made (inr (inr (inr (inl acked)))) = stays_so after (becomes_so live.rest.link after acked.link _ acked.was acked.becomes (same acked.link.flow.cyclic))
      link_shows now later after sent made (inr (inr (inr (inr (inl came))))) = stays_so after (becomes_so live.rest.link after came.link _ came.was came.becomes (same came.link.flow.cyclic))
      link_shows now later after sent made (inr (inr (inr (inr (inr (inl passes)))))) =
          let cyclic = passes.link.flow.cyclic in
          stays_so after (becomes_so live.rest.link after passes.link (unit_later passes.link) passes.was passes.becomes
          (record { route = refl; last = held_last cyclic.begun cyclic.hearing; taken = refl }))
      link_shows now later after sent made (inr (inr (inr (inr (inr (inr (inl takes))))))) = takes_so after sent takes
      link_shows now later after sent made (inr (inr (inr (inr (inr (inr (inr (inl acked)))))))) = stays_so after (becomes_so live.rest.link after acked.link _ acked.was acked.becomes (same acked.link.flow.cyclic))
      link_shows now later after sent made (inr (inr (inr (inr (inr (inr (inr (inr (inl came))))))))) =
          stays_so after (becomes_so live.rest.link after came.link (next_link (heard_low_in came.link (notice.Data came.number came.ack))) came.was came.becomes (same came.link.flow.cyclic))
      link_shows now later after sent made (inr (inr (inr (inr (inr (inr (inr (inr (inr (inl begins)))))))))) =
          stays_so after (becomes_so live.rest.link after begins.link (begun_link live.rest.real.modules.items live.rest.diagnoses (exchanging_from begins.link)) begins.was begins.becomes (record { route = refl; last = refl; taken = refl }))
      link_shows now later after sent made (inr (inr (inr (inr (inr (inr (inr (inr (inr (inr (inl changes))))))))))) = stays_so after (by_link live.rest.link changes.becomes)
        where
          by_link : (link : Option RelationState) → after ≡ updated (diagnosing live.rest.real.modules.items changes.change later link) link → Stays link after
          by_link None becomes = subst (λ (l : Option RelationState). Stays None l) (sym becomes) tt
          by_link (Some link) becomes = becomes_so (Some link) after link (diagnosed_link live.rest.real.modules.items changes.change later link) refl becomes (same link.flow.cyclic)
      link_shows now later after sent made (inr (inr (inr (inr (inr (inr (inr (inr (inr (inr (inr changes))))))))))) = stays_so after (by_link live.rest.link changes.becomes)
        where
          by_link : (link : Option RelationState) → after ≡ modules_changing now changes.made later link → Stays link after
          by_link None becomes = subst (λ (l : Option RelationState). Stays None l) (sym becomes) tt
          by_link (Some link) becomes =
              let same = standing (rows_now now link) changes.made later link in
              becomes_so (Some link) after link (changed_link now changes.made later link) refl becomes
              (record { route = ap (λ (s : Standing). s.route) same; last = ap (λ (s : Standing). s.last) same; taken = ap (λ (s : Standing). s.outputs) same })

      calls_silent : (after : List Answer) (sent : List Sent) → (after ≡ live.rest.calls) ⊎ Answers station.identity live.rest.calls after sent → AreSendable station.identity sent → AreKeptSilent after
      calls_silent after sent (inl same) can = subst (λ (c : List Answer). AreKeptSilent c) (sym same) silent
      calls_silent after sent (inr answers) can =
          let answer = CallAnswer answers.caller answers.address answers.answer in
          let one : IsSendable station.identity answer =
          each_of (IsSendable station.identity) answers.first answer answers.others
          (subst (λ (messages : List Sent). AreSendable station.identity messages) answers.sends can) in
          subst (λ (c : List Answer). AreKeptSilent c) (sym answers.keeps)
          (more_kept (BringsNone rules) setup.activity (kept_for station.identity answers.call answer) live.rest.calls (λ own. message_silent station.options setup station.identity sound apart answer one tt) silent)

      owed_known : (message : Sent) → IsOwed heard live message → IsKnown rules message
      owed_known (Again frame) owed =
          let plan : IsPlannedCall (rules_of setup station) setup.activity station.named live.rest.real owed.call =
          subst (λ (h : Heard). IsPlanned (rules_of setup station) setup.activity station.named live.rest.real h) owed.is planned in
          subst (λ (f : List ℕ). BringsNone rules f) owed.same
          (kept_at (BringsNone rules) setup.activity live.rest.calls silent owed.kept (ap (λ (a : List ℕ). kept_of a live.rest.calls) (sym plan.own) ∙ owed.there))
      owed_known other owed = tt

      all_known : (sent : List Sent) → AllByRecursion (IsOwed heard live) sent → AllByRecursion (IsKnown rules) sent
      all_known [] owed = tt
      all_known (message ∷ sent) owed = (owed_known message owed.0, all_known sent owed.1)

      pub turn_shows : (after : Rest) (sent : List Sent) → Turn station live heard after sent → BeginsNumbered station.options live.rest.link after.link
          → Goes (brought_in station.options setup heard) live.rest after sent
      turn_shows after sent turn numbers =
          let shows = link_shows after.real.modules.items after.diagnoses after.link sent (makes_so after.link sent numbers) turn.is in
          record { shows = shows.0; ours = shows.1; calls = calls_silent after.calls sent turn.answers; known = all_known sent turn.owed }

    pub frames_silent : (outcomes : List Outcome) (live : Live) (heard : Heard) → AreSendable station.identity (heard_step outcomes station live heard).sent
        → AllByRecursion (IsKnown rules) (heard_step outcomes station live heard).sent → AllByRecursion (BringsNone rules) (heard_step outcomes station live heard).frames
    unfolding heard_step handled_step
    frames_silent outcomes live heard silent known =
        all_silent (finished station.identity live.rest (handled station live heard) (carried outcomes live.values (items_in (handled station live heard))).answers).sent silent known
