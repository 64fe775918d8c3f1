-- A Write of the plan at a device that has the plan's relation: it is heard as that call, its records are kept, and its response says so.
use Rattle.std.proofs.Common.{◌≡◌, ◌<◌, ◌≤◌, ◌+◌, ◌*◌, ◌/◌, ◌&&◌, ◌||◌, ◌==◌, ℕ, zero, suc, Bool, true, false, not, cond, List, []}
use Rattle.std.proofs.Common.{◌∷◌, ◌++◌, length, take, drop, map, Option, Some, None, Result, Ok, refl, sym, ap, subst, ◌∙◌, arith}
use Rattle.std.specs.Prelude.{nat_eq, nat_lt, slice_get}
use Rattle.std.specs.Cmp.Lexicographic.{pointwise}
use Rattle.std.specs.List.{AllByRecursion}
use Rattle.std.proofs.lemmas.Bool.{cond-false, ne_eqb}
use Rattle.std.proofs.lemmas.Cmp.{nat_list_eq_equiv}
use Rattle.std.proofs.lemmas.List.{length-map, map-append}
use Rattle.std.proofs.Math.Seq.{take-add}
use Rattle.pn_values.specs.declared.identity.Identity.{Identity}
use Rattle.pn_values.specs.declared.mac.Mac.{Mac}
use Rattle.pn_values.specs.declared.real.Real.{Real}
use Rattle.pn_values.specs.IpSuite.{Suite, is_zero}
use Rattle.settings_journal.specs.settings_store.Machine.{Outcome}
use Rattle.frame_codec.specs.declared.udp.Caller.{Caller}
use Rattle.frame_codec.specs.Sendable.{IsMac}
use Rattle.rpc_core.specs.Cache.{Kept, Reported as Looked, again, kept_of, looked, new, old, reported_by}
use Rattle.rpc_core.specs.Call.{Asked as Call}
use Rattle.rpc_core.specs.Response.{answer_to}
use Rattle.rpc_core.specs.declared.interface.Interface.TheVariants.{Device as devices}
use Rattle.rpc_core.specs.Sendable.{CanBeCalled, IsHeader}
use Rattle.block_codec.specs.declared.block.Block.TheVariants as is
use Rattle.block_codec.specs.Block.{block_bytes}
use Rattle.connects.specs.requests.Request.{Request as Related}
use Rattle.record_blocks.specs.declared.write_record.IodWriteReq.{IodWriteReq}
use Rattle.records.specs.declared.status.call_fault.CallFault.{CallFault}
use Rattle.records.specs.declared.status.operation.Operation.{Operation}
use Rattle.records.specs.declared.status.operation.Operation.TheVariants.{Write as writes}
use Rattle.records.specs.status.Operation.{operation_of as operation_in}
use Rattle.records.specs.status.Status.{done}
use Rattle.records.specs.declared.writes.taken.TakenRecord.{TakenRecord}
use Rattle.records.specs.declared.writes.write.Effect.TheVariants.{Keeps}
use Rattle.records.specs.declared.writes.writing.Writing.{Writing}
use Rattle.records.specs.declared.writes.writing.Writing.TheVariants.{Each, One}
use Rattle.records.specs.writes.Answer.{answer_of}
use Rattle.records.specs.writes.Asked.{writing_of}
use Rattle.records.specs.writes.Entry.{Entry}
use Rattle.plans.specs.declared.parts.Parts.{Parts}
use Rattle.plans.specs.declared.parts.PlanRecord.{PlanRecord}
use Rattle.plans.specs.Plan.{AreShort}
use Rattle.relations.specs.declared.phase.Partner.{Partner}
use Rattle.relations.specs.declared.phase.Phase.TheVariants.{Started}
use Rattle.relations.specs.Phases.{restarted}
use Rattle.relations.specs.RelationState.{RelationState, is_alive, is_from, uuid_of}
use Rattle.device_frames.specs.declared.note.Note.TheVariants as note
use Rattle.device_frames.specs.Heard.{Calls, Elsewhere, Heard, Reported, heard_of}
use Rattle.device_frames.specs.Sent.{response_frame}
use Rattle.device_core.specs.State.{Live, Station}
use Rattle.device_core.specs.Handled.{Handled, Refuses, WritesEach, handled, handled_asking, handled_call, handled_looked, handled_said, handled_write}
use Rattle.device_core.specs.Handled.{is_running, partner_of}
use Rattle.device_core.specs.Machine.{Stepped, heard_step}
use Rattle.device_core.specs.Several.{Judged, judged_each}
use Rattle.device_core.specs.Asking.{Asking, asking_of, asking_write, write_within}
use Rattle.asked_records.specs.Asked.{AskedState}
use Rattle.controller_messages.specs.declared.request.Request.TheVariants as asks
use Rattle.controller_messages.specs.declared.setup.Setup.{Setup}
use Rattle.controller_messages.specs.Requests.{call_for, entries_bytes, first_of, group_of, list_blocks, per_call}
use Rattle.controller_messages.specs.Requests.{write_blocks, write_count, write_of, writing_blocks}
use Rattle.controller_core.specs.declared.start_up.outcomes.Outcomes.TheVariants.{AllWritten}
use Rattle.controller_core.specs.start_up.Outcomes.{outcome_at, outcomes_behind, outcomes_of}
use Rattle.controller_messages.specs.Sent.{call_frame, calls_at}
use Rattle.end_laws.specs.hearing.Hearing.{comes, own_reported}
use Rattle.end_laws.specs.hearing.Stations.{IsDevice, IsSetup}
use Rattle.both_ends.specs.startup.answer.Answer.{caller_of}
use Rattle.both_ends.specs.startup.Played.{ArePlaced, IsParameter}
use Rattle.both_ends.specs.startup.View.{taken_for}
use Rattle.rounds_law.specs.Path.{HasRelation, IsAddressed, IsWritten, request_to}
use Rattle.rounds_law.specs.Start.{IsWritable}
use Rattle.rounds_law.proofs.WriteJudged.{not_below, one_is, one_true, writing_is}
use Rattle.rounds_law.proofs.WriteListed.{AreBlocksLong, AreBlocksRead, AreFit, IsFit, each_drop, each_is, each_take, header_for, judged_is, judged_well}
use Rattle.rounds_law.proofs.WriteListed.{list_few, list_response, list_sized, listed, one_can, one_few, take_few}
use Rattle.rounds_law.proofs.WriteAnswered.{list_written}
use Rattle.rounds_law.proofs.WriteUnasked.{AreNames, write_unasked}
use Rattle.rounds_law.proofs.AskedUnits.{unasked_new}
use Rattle.rounds_law.proofs.WriteKept.{IsTaken, list_taken, one_taken, with_more}
use Rattle.rounds_law.proofs.Choices.{both_true}
use Rattle.rounds_law.proofs.ControllerCallingAsks.{few_by}

-- ---- lists

take_least : {A : Type 0} (n : ℕ) (xs : List A) → length (take n xs) ≤ length xs
take_least zero [] = omega arith
take_least zero (x ∷ xs) = omega arith
take_least (suc n) [] = omega arith
take_least (suc n) (x ∷ xs) = omega (arith, take_least n xs)

take_none : {A : Type 0} (xs : List A) → take 0 xs ≡ []
take_none [] = refl
take_none (x ∷ xs) = refl

-- A place in a list.
record IsAt {A : Type 0} (xs : List A) (number : ℕ) : Type 0 where
  item : A
  rest : List A
  dropped : drop number xs ≡ item ∷ rest
  got : slice_get xs number ≡ Some item

at : {A : Type 0} (xs : List A) (number : ℕ) → number < length xs → IsAt xs number
at [] number below = absurd (omega (arith, below))
at (x ∷ xs) zero below = record { item = x; rest = xs; dropped = refl; got = refl }
at (x ∷ xs) (suc number) below = let it = at xs number (omega (arith, below)) in record { item = it.item; rest = it.rest; dropped = it.dropped; got = it.got }

-- ---- the number of a Write

left_over : (number count : ℕ) → number < (count + 9) / 10 → number * 10 < count
left_over number count below = omega (arith, below)

start_more : (number : ℕ) (b : Bool) → cond b ((number + 1) * 10) (number + 1) ≡ cond b (number * 10) number + cond b 10 1
start_more number true = omega arith
start_more number false = omega arith

write_operation : operation_in 3 ≡ Some writes
unfolding operation_in
write_operation = refl

pub number_few : (plan : Parts) (number : ℕ) → number < write_count plan → length plan.records.items ≤ 32 → number < 65535
number_few plan number below few = omega (arith, below, few_by plan.multiple_write (length plan.records.items) few)

-- ---- the premises about the records

pub fit_each : (real : Real) (entries : List PlanRecord) → AllByRecursion IsParameter entries → ArePlaced entries → AreShort entries
    → AllByRecursion (IsWritable real) entries → AreFit real entries
fit_each real [] parameters placed short there = tt
fit_each real (entry ∷ entries) parameters placed short there = (
  record { below = parameters.0; slot = placed.0.0; subslot = placed.0.1; short = short.0; there = there.0 },
  fit_each real entries parameters.1 placed.1 short.1 there.1,
)

-- ---- what the device hears

-- The law by which a device hears a call of the controller.
abbrev pub AreCallsHeard : Type 0
AreCallsHeard = (identity : Identity) (setup : Setup) (to : Mac) (call : Call) → IsSetup setup → IsMac to → CanBeCalled devices call
    → heard_of identity (comes (call_frame setup to call))
    ≡ own_reported identity setup.plan.controller.mac to (calls_at setup.plan.controller.address) (calls_at setup.plan.station.suite.address) (Calls call)

pub write_heard : AreCallsHeard → (setup : Setup) (identity heard_by : Identity) (number : ℕ) → IsSetup setup → IsDevice identity
    → CanBeCalled devices (call_for setup (asks.Write number)) → heard_by ≡ identity
    → heard_of heard_by (comes (request_to setup identity (asks.Write number)))
    ≡ Reported (caller_of setup.plan.controller) setup.plan.station.suite.address (Calls (call_for setup (asks.Write number)))
write_heard hear setup identity heard_by number good real can own =
    let call = call_for setup (asks.Write number) in
    ap (λ (one : Identity). heard_of one (comes (request_to setup identity (asks.Write number)))) own
    ∙ (hear identity setup identity.mac call good real can
    ∙ ap (λ (b : Bool). cond (b && 34964 == 34964) (Reported (caller_of setup.plan.controller) setup.plan.station.suite.address (Calls call)) Elsewhere)
    (nat_list_eq_equiv.refl identity.mac.octets))

-- ---- the call of a Write

module _ (read : AreBlocksRead) (long : AreBlocksLong) (setup : Setup) (identity : Identity) (wide : length setup.ar ≡ 16)
    (few : length setup.plan.records.items ≤ 32)
    (fits : AreFit setup.plan.real setup.plan.records.items) (has_address : is_zero setup.plan.station.suite.address ≡ false)
    (number : ℕ) (below : number < write_count setup.plan) (headed : IsHeader (call_for setup (asks.Write number)).header)
    (outcomes : List Outcome) (station : Station) (live : Live) (age : ℕ) (own : station.identity ≡ identity) (plugged : live.rest.real ≡ setup.plan.real)
    (names : AreNames station.named)
    (addressed : IsAddressed setup live)
    (serial : ℕ) (relation : HasRelation setup serial Started (map taken_for (take (first_of setup.plan number) setup.plan.records.items)) number age live) where
  abbrev plan : Parts
  plan = setup.plan

  abbrev records : List PlanRecord
  records = plan.records.items

  abbrev caller : Caller
  caller = caller_of plan.controller

  abbrev call : Call
  call = call_for setup (asks.Write number)

  abbrev link : RelationState
  link = relation.link

  abbrev heard : Heard
  heard = Reported caller plan.station.suite.address (Calls call)

  abbrev group : List PlanRecord
  group = group_of plan number

  small : number + 1 < 65536
  small = omega (arith, number_few plan number below few)

  -- ---- it is a new call, of a Write

  running : is_running live.values.running plan.station.suite.address ≡ true
  running =
      ap (λ (suite : Suite). pointwise nat_eq plan.station.suite.address suite.address && not (is_zero plan.station.suite.address)) addressed.suite
      ∙ both_true (pointwise nat_eq plan.station.suite.address plan.station.suite.address) (not (is_zero plan.station.suite.address))
      (nat_list_eq_equiv.refl plan.station.suite.address) (ap not has_address)

  is_new : looked setup.activity (number + 1) live.rest.calls ≡ new
  is_new =
      let last = relation.kept.sequence in
      ap (λ (kept : Option Kept). reported_by (number + 1) kept) relation.answered
      ∙ cond-false (number + 1 == last) (again relation.kept.frame) (cond (nat_lt (number + 1) last) old new)
      (ne_eqb (number + 1) last (λ same. omega (arith, same, relation.number)))
      ∙ cond-false (nat_lt (number + 1) last) old new (not_below (number + 1) last (omega (arith, relation.number)))

  named : uuid_of live.rest.link ≡ Some setup.ar
  named = ap uuid_of relation.has ∙ ap (λ (request : Related). Some request.ar.uuid) relation.request

  -- It asks the application nothing.
  unasked : asking_of live.rest.real station.named (uuid_of live.rest.link) caller call (writing_blocks setup number) writes ≡ Ok None
  unasked =
      ap (λ (real : Real). asking_write real station.named caller call (write_within (uuid_of live.rest.link) (writing_blocks setup number))) plugged
      ∙ write_unasked read long setup wide number small plan.real station.named names caller call (uuid_of live.rest.link) fits

  handled_is : (writing : Result Writing CallFault) → writing_of (Some setup.ar) plan.real (writing_blocks setup number) ≡ writing
      → handled station live heard ≡ handled_write station live caller call writing
  handled_is writing e =
      ap (λ (b : Bool). cond b (handled_said station live caller (Calls call)) (Refuses note.NotMine)) running
      ∙ (ap (λ (operation : Option Operation). handled_call station live caller call operation) write_operation
      ∙ (ap (λ (l : Looked). handled_looked station live caller call (writing_blocks setup number) writes l) is_new
      ∙ (unasked_new station live caller call (writing_blocks setup number) writes relation.unasked
      ∙ (ap (λ (asking : Result (Option Asking) CallFault). handled_asking station live caller call (writing_blocks setup number) writes asking) unasked
      ∙ ap (λ (w : Result Writing CallFault). handled_write station live caller call w)
      (ap (λ (standing : Option (List ℕ)). writing_of standing live.rest.real (writing_blocks setup number)) named
      ∙ (ap (λ (real : Real). writing_of (Some setup.ar) real (writing_blocks setup number)) plugged ∙ e))))))

  -- ---- its records

  fit : AreFit plan.real group
  fit = each_take (IsFit plan.real) (per_call plan) (drop (first_of plan number) records) (each_drop (IsFit plan.real) (first_of plan number) records fits)

  kept_few : length link.taken ≤ 32
  kept_few = omega (
    arith,
    ap (λ (taken : List TakenRecord). length taken) relation.taken_all,
    length-map (take (first_of plan number) records) taken_for,
    take_least (first_of plan number) records,
    few,
  )

  -- What the device does with the Write.
  record IsDone (step : Stepped) : Type 0 where
    blocks : List ℕ
    fewer : length blocks ≤ 1372
    written : outcomes_of plan number blocks ≡ AllWritten
    taken : IsTaken station live caller call link (map taken_for group) blocks step

  abbrev step : Stepped
  step = heard_step outcomes station live heard

  one_done : plan.multiple_write ≡ false → IsDone step
  one_done single =
      let inside : number < length records =
      subst (λ (count : ℕ). number < count) (ap (λ (b : Bool). cond b ((length records + 9) / 10) (length records)) single) below in
      let there = at records number inside in
      let entry = there.item in
      let asked = write_of setup number entry in
      let group_is : group ≡ entry ∷ [] =
      ap (λ (b : Bool). take (cond b 10 1) (drop (cond b (number * 10) number) records)) single
      ∙ (ap (take 1) there.dropped ∙ ap (λ (others : List PlanRecord). entry ∷ others) (take_none there.rest)) in
      let its : IsFit plan.real entry = (subst (AreFit plan.real) group_is fit).0 in
      let blocks_are : writing_blocks setup number ≡ block_bytes (is.IodWriteReq asked) ++ entry.data.items =
      ap (λ (b : Bool). cond b (list_blocks setup number group) (write_blocks setup number (slice_get records number))) single
      ∙ ap (λ (o : Option PlanRecord). write_blocks setup number o) there.got in
      let writing = ap (λ (blocks : List ℕ). writing_of (Some setup.ar) plan.real blocks) blocks_are
      ∙ (writing_is long (Some setup.ar) plan.real asked entry.data.items
      (read (is.IodWriteReq asked) entry.data.items (one_can read long setup wide number small plan.real entry its))
      ∙ one_is plan.real setup.ar (number + 1) entry.slot entry.subslot entry.index entry.data.items its.below its.there its.short) in
      record {
        blocks = answer_of asked;
        fewer = one_few read long setup wide number small plan.real entry;
        written = ap (λ (b : Bool). cond b (outcomes_behind (outcome_at (answer_of asked)) (length group)) AllWritten) single;
        taken = subst (λ (entries : List PlanRecord). IsTaken station live caller call link (map taken_for entries) (answer_of asked) step) (sym group_is)
            (one_taken outcomes station live caller call link relation.has relation.in_phase heard asked (taken_for entry) (omega (arith, kept_few))
            (handled_is (Ok (One (record { request = asked; effect = Keeps (taken_for entry) }))) writing));
      }

  abbrev handled_each : Option (List ℕ) → Real → IodWriteReq → List Entry → Handled
  handled_each standing real header entries = WritesEach caller live.values.running.suite.address call header (judged_each station.named standing real entries)

  list_done : plan.multiple_write ≡ true → IsDone step
  list_done several =
      let inside : number * 10 < length records =
      left_over number (length records)
      (subst (λ (count : ℕ). number < count) (ap (λ (b : Bool). cond b ((length records + 9) / 10) (length records)) several) below) in
      let there = at records (number * 10) inside in
      let entries : List PlanRecord = there.item ∷ take 9 there.rest in
      let group_is : group ≡ entries =
      ap (λ (b : Bool). take (cond b 10 1) (drop (cond b (number * 10) number) records)) several ∙ ap (take 10) there.dropped in
      let its : AreFit plan.real entries = subst (AreFit plan.real) group_is fit in
      let ten : length entries ≤ 10 = omega (arith, take_few 9 there.rest) in
      let header = header_for setup number entries in
      let octets = entries_bytes setup number entries in
      let sized = list_sized read long setup wide number small plan.real entries ten its in
      let blocks_are : writing_blocks setup number ≡ block_bytes (is.IodWriteReq header) ++ octets =
      ap (λ (b : Bool). cond b (list_blocks setup number group) (write_blocks setup number (slice_get records number))) several
      ∙ ap (λ (some : List PlanRecord). list_blocks setup number some) group_is in
      let writing = ap (λ (blocks : List ℕ). writing_of (Some setup.ar) plan.real blocks) blocks_are
      ∙ (writing_is long (Some setup.ar) plan.real header octets (read (is.IodWriteReq header) octets (record { header = sized }))
      ∙ each_is read long setup wide number small plan.real entries ten its) in
      let judged : handled_write station live caller call (Ok (Each header (listed setup number entries)))
      ≡ WritesEach caller live.values.running.suite.address call header (judged_well setup number entries) =
      ap (λ (standing : Option (List ℕ)). handled_each standing live.rest.real header (listed setup number entries)) named
      ∙ (ap (λ (real : Real). handled_each (Some setup.ar) real header (listed setup number entries)) plugged
      ∙ ap (λ (each : List Judged). WritesEach caller live.values.running.suite.address call header each)
      (judged_is read long setup wide number small plan.real station.named entries its)) in
      record {
        blocks = list_response setup number entries;
        fewer = list_few read long setup wide number small plan.real entries ten;
        written = ap (λ (b : Bool). cond b (outcomes_behind (outcome_at (list_response setup number entries)) (length group)) AllWritten) several
            ∙ (ap (λ (some : List PlanRecord). outcomes_behind (outcome_at (list_response setup number entries)) (length some)) group_is
            ∙ list_written read long setup wide number small plan.real entries ten its);
        taken = subst (λ (some : List PlanRecord). IsTaken station live caller call link (map taken_for some) (list_response setup number entries) step)
            (sym group_is)
            (list_taken outcomes station live caller call link relation.has relation.in_phase setup number entries (omega (arith, kept_few, ten)) heard
            (handled_is (Ok (Each header (listed setup number entries))) writing ∙ judged));
      }

  is_done : IsDone step
  is_done = by_kind plan.multiple_write refl
    where
      by_kind : (b : Bool) → plan.multiple_write ≡ b → IsDone step
      by_kind true several = list_done several
      by_kind false single = one_done single

  -- ---- the relation after it

  abbrev source : Partner
  source = partner_of caller

  alive : (more : List TakenRecord) → is_alive source (with_more more link) ≡ true
  alive more =
      ap (λ (partner : Partner). not link.options.only_own_controller || is_from source partner) relation.partner
      ∙ one_true (not link.options.only_own_controller) (is_from source source)
      (both_true (pointwise nat_eq source.mac.octets source.mac.octets) (pointwise nat_eq source.address source.address)
      (nat_list_eq_equiv.refl source.mac.octets) (nat_list_eq_equiv.refl source.address))

  grown : link.taken ++ map taken_for group ≡ map taken_for (take (first_of plan (number + 1)) records)
  grown =
      let start = first_of plan number in
      ap (λ (taken : List TakenRecord). taken ++ map taken_for group) relation.taken_all
      ∙ (sym (map-append taken_for (take start records) group)
      ∙ (ap (λ (some : List PlanRecord). map taken_for some) (sym (take-add start (per_call plan) records))
      ∙ ap (λ (count : ℕ). map taken_for (take count records)) (sym (start_more number plan.multiple_write))))

  kept_again : (kept : Kept) (others : List Kept) → kept.activity ≡ setup.activity → kept_of setup.activity (kept ∷ others) ≡ Some kept
  kept_again kept others same =
      ap (λ (b : Bool). cond b (Some kept) (kept_of setup.activity others))
      (ap (λ (activity : List ℕ). pointwise nat_eq activity setup.activity) same ∙ nat_list_eq_equiv.refl setup.activity)

  abbrev IsAnswered : Stepped → Type 0
  IsAnswered after =
      (octets : List ℕ)
      × (after.frames ≡ octets ∷ [])
      × IsWritten setup identity number octets
      × (after.live.values ≡ live.values)
      × HasRelation setup serial Started (map taken_for (take (first_of plan (number + 1)) records)) (number + 1) 0 after.live

  has_more : (after : Stepped) → IsDone after → HasRelation setup serial Started (map taken_for (take (first_of plan (number + 1)) records)) (number + 1) 0 after.live
  has_more after it = record {
    link = restarted source (with_more (map taken_for group) link);
    has = it.taken.becomes;
    in_phase = relation.in_phase;
    request = relation.request;
    partner = relation.partner;
    taken_all = grown;
    active = subst (λ (b : Bool). cond b 0 link.inactive ≤ 0) (sym (alive (map taken_for group))) (omega arith);
    waited = tt;
    calm = relation.calm;
    numbered = relation.numbered;
    unbegun = relation.unbegun;
    limit = relation.limit;
    low_limit = relation.low_limit;
    low_new = relation.low_new;
    unasked = ap (λ (asked : AskedState). asked.standing) it.taken.asked ∙ relation.unasked;
    kept = record { activity = setup.activity; sequence = number + 1; frame = it.taken.octets };
    answered = ap (λ (calls : List Kept). kept_of setup.activity calls) it.taken.stored
        ∙ kept_again (record { activity = setup.activity; sequence = number + 1; frame = it.taken.octets }) _ refl;
    number = refl;
  }

  finish : (after : Stepped) → IsDone after → IsAnswered after
  finish after it = (
    it.taken.octets,
    it.taken.frames,
    record {
      blocks = it.blocks;
      frame = it.taken.is
          ∙ (ap (λ (one : Identity). response_frame one caller live.values.running.suite.address (answer_to call done it.blocks)) own
          ∙ ap (λ (suite : Suite). response_frame identity caller suite.address (answer_to call done it.blocks)) addressed.suite);
      fits = record {
        header = headed;
        status = record { code = omega arith; decode = omega arith; code1 = omega arith; code2 = omega arith };
        maximum = omega arith;
        few = it.fewer;
      };
      written = it.written;
    },
    it.taken.values,
    has_more after it,
  )

  -- The response of a device to the call of a Write.
  pub write_answered : (came : Heard) → came ≡ heard → IsAnswered (heard_step outcomes station live came)
  write_answered came is = subst (λ (h : Heard). IsAnswered (heard_step outcomes station live h)) (sym is) (finish step is_done)
