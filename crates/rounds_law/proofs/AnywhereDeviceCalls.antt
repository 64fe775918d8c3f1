-- The calls of a controller at a device in any state.
use Rattle.std.proofs.Common.{◌≡◌, ◌⊎◌, inl, inr, ◌<◌, ◌+◌, ◌==◌, ℕ, Bool, true, false, not, List, [], ◌∷◌, length}
use Rattle.std.proofs.Common.{Option, Some, None, Result, Ok, Err, refl, sym, ap, subst, ◌∙◌, arith}
use Rattle.std.specs.Prelude.{if◌then◌else◌, nat_lt, slice_get}
use Rattle.std.specs.List.{AllByRecursion}
use Rattle.std.proofs.lemmas.Bool.Decides.{nat_tests}
use Rattle.pn_values.specs.declared.identity.Identity.{Identity}
use Rattle.pn_values.specs.declared.real.Real.{Real}
use Rattle.wire.specs.Codec.{◌>>=◌}
use Rattle.wire.specs.blocks.modules.Lists.{Listed}
use Rattle.connect_blocks.specs.declared.control.ControlBlock.{ControlBlock}
use Rattle.connect_blocks.specs.declared.plug_control.PlugControlBlock.{PlugControlBlock}
use Rattle.connect_blocks.specs.PlugControl.{plug_control}
use Rattle.connect_blocks.specs.declared.module_diff.DiffModule.{DiffModule}
use Rattle.connect_blocks.specs.declared.module_diff.DiffSubmodule.{DiffSubmodule}
use Rattle.block_codec.specs.declared.block.Block.TheVariants as is
use Rattle.block_codec.specs.Block.{block_bytes}
use Rattle.frame_codec.specs.declared.udp.Caller.{Caller}
use Rattle.rpc_core.specs.Cache.{Kept, again, kept_of, looked, new, old, reported_by}
use Rattle.rpc_core.specs.Call.{Asked as Call}
use Rattle.rpc_core.specs.Response.{answer_to}
use Rattle.records.specs.declared.status.call_fault.CallFault.{CallFault}
use Rattle.records.specs.declared.status.operation.Operation.{Operation}
use Rattle.records.specs.declared.status.operation.Operation.TheVariants.{Connect, Control, Release, Write}
use Rattle.records.specs.status.Operation.{operation_of}
use Rattle.records.specs.status.Status.{done}
use Rattle.rpc_core.specs.declared.response.Status.{Status}
use Rattle.record_blocks.specs.declared.write_record.IodWriteReq.{IodWriteReq}
use Rattle.records.specs.declared.writes.taken.TakenRecord.{TakenRecord}
use Rattle.records.specs.declared.writes.write.Effect.{Effect}
use Rattle.records.specs.declared.writes.write.Effect.TheVariants.{Keeps, Stores}
use Rattle.records.specs.declared.writes.write.Write.{Write as Asking}
use Rattle.records.specs.declared.writes.writing.Writing.{Writing}
use Rattle.records.specs.declared.writes.writing.Writing.TheVariants.{Each, One}
use Rattle.records.specs.writes.Answer.{answer_of}
use Rattle.records.specs.writes.Asked.{writing_of}
use Rattle.connects.specs.requests.Request.{Request}
use Rattle.relations.specs.Calls.{done_of, prm_end_of, release_of}
use Rattle.relations.specs.Connect.{connect_blocks, connect_within, differing_of, making, rows_of}
use Rattle.relations.specs.Numbers.{endpoint_of}
use Rattle.relations.specs.Plugging.{calling_next, is_calling, is_plug_control, plug_done, plug_end_answer, plug_end_in}
use Rattle.relations.specs.Plugging.{ended_by as plug_ended_by}
use Rattle.relations.specs.Phases.{Ended, Named, Parameterized, Records, Took, answered, differing_octets, keeping, made_of, taking, updated}
use Rattle.relations.specs.RelationState.{RelationState, uuid_of}
use Rattle.device_frames.specs.Heard.{Calls}
use Rattle.device_frames.specs.Relation.{ready_calls}
use Rattle.device_core.specs.State.{Live, Station}
use Rattle.device_core.specs.Modules.{next_call_sent}
use Rattle.device_core.specs.Log.{but_rest, connect_log, release_log, with_log}
use Rattle.asked_records.specs.Asked.{is_repeat}
use Rattle.device_core.specs.Asking.{Asking as Question, asking_of, is_kept, left_asked, looked_if, released_by}
use Rattle.device_core.specs.Handled.{Handled, Moves, counted_by, handled_asking, handled_blocks, handled_call, handled_effect, handled_looked}
use Rattle.device_core.specs.Handled.{handled_new, handled_unanswered, handled_plug_end, handled_said, handled_write, kept_answer}
use Rattle.device_core.specs.Handled.{number_now, partner_of, ready_behind, served, starting_of}
use Rattle.device_core.specs.Machine.{effect_link, link_behind, one_link, several_answer}
use Rattle.device_core.specs.Several.{Judged, judged_each}
use Rattle.controller_messages.specs.declared.plug_request.PlugRequest.{PlugRequest}
use Rattle.controller_messages.specs.declared.plug_request.PlugStep.TheVariants.{Record}
use Rattle.controller_messages.specs.declared.setup.Setup.{Setup}
use Rattle.controller_messages.specs.declared.request.Request.TheVariants as asks
use Rattle.controller_messages.specs.Heard.{Responds}
use Rattle.controller_messages.specs.PlugRequests.{plug_call, plug_write_blocks}
use Rattle.controller_messages.specs.Requests.{blocks_of, call_for, control_of, write_count}
use Rattle.end_laws.specs.turns.Turns.{chosen_in}
use Rattle.both_ends.specs.startup.answer.Answer.{IsAllThere, caller_of}
use Rattle.both_ends.specs.startup.request.Request.{request_for}
use Rattle.rounds_law.specs.Anywhere.{AllLast, IsAnyDevice, IsFit, IsQuestionOf}
use Rattle.rounds_law.specs.AnywhereFrames.{IsOfPlug}
use Rattle.rounds_law.proofs.AgainKept.{refused_within}
use Rattle.rounds_law.proofs.AnywhereAsked.{left_so, nothing_asked, unrelated_asked}
use Rattle.rounds_law.proofs.AnywhereDeviceExchange.{calling_lasts, calling_named, due_fit, plugs_fit}
use Rattle.rounds_law.proofs.AnywhereDeviceFine.{IsFine, parameterized_lasts, records_last, restarted_lasts, stored_before}
use Rattle.rounds_law.proofs.AnywhereDeviceSays.{IsFitting}
use Rattle.rounds_law.proofs.AnywhereDeviceWrites.{IsQuiet}
use Rattle.rounds_law.proofs.AnywherePlugBlocks.{IsPlain, end_timed, end_unchosen, end_uuid}
use Rattle.rounds_law.proofs.AnywherePlugWalk.{end_blocks, ends_by, walk}
use Rattle.rounds_law.proofs.AnywherePlugs.{ended_numbered, ended_told}
use Rattle.rounds_law.proofs.Choices.{where_not}
use Rattle.rounds_law.proofs.DeviceCallingBlocks.{not_of_plug}
use Rattle.rounds_law.proofs.DeviceCallingConnected.{is_connect}
use Rattle.rounds_law.proofs.Numbers.{number_few}
use Rattle.rounds_law.proofs.AnywhereDeviceAnswers.{CallLaws, chosen_fit, fit_later, fit_no, served_move, unchosen_fit}

module _ (setup next : Setup) (identity : Identity) (silence : ℕ) (station : Station) (laws : CallLaws setup next silence station) where
  abbrev caller : Caller
  caller = caller_of setup.plan.controller

  abbrev Fine : Live → Handled → Type 0
  Fine live what = IsFine setup next identity silence station live what

  -- ---- Connect

  abbrev connect_by : Live → Result Request CallFault → Handled
  connect_by live asked =
      let answer = asked >>= λ request. Ok (connect_blocks station.identity (number_now station live) request (differing_of request live.rest.real)) in
      served station (but_rest live (counted_by answer (with_log (connect_log (blocks_of setup asks.Connect) answer) live.rest)))
      caller (call_for setup asks.Connect) Connect answer
      (updated (making live.rest.real (partner_of caller) station.options (starting_of station live) asked) live.rest.link) []

  connect_refused : (live : Live) → IsAnyDevice setup next identity silence station live → (refusal : CallFault) → Fine live (connect_by live (Err refusal))
  connect_refused live before refusal =
      served_move setup next identity silence station laws live before (counted_by (let e : Result (List ℕ) CallFault = Err refusal in e)
      (with_log (connect_log (blocks_of setup asks.Connect) (let e : Result (List ℕ) CallFault = Err refusal in e)) live.rest))
      refl (call_for setup asks.Connect) refl live.values.running.suite.address Connect (Err refusal)
      (fit_no setup next identity silence station laws (call_for setup asks.Connect) Connect refusal) live.rest.link before.lasts before.asked [] tt

  no_difference : (live : Live) → IsAnyDevice setup next identity silence station live → differing_of (request_for setup.plan setup.ar) live.rest.real ≡ []
  no_difference live before =
      ap (λ (real : Real). differing_of (request_for setup.plan setup.ar) real) before.of_plan.plugged
      ∙ ap (λ (rows : Listed DiffModule DiffSubmodule). differing_octets rows) laws.same

  connect_taken : (live : Live) → IsAnyDevice setup next identity silence station live → live.rest.link ≡ None
      → Fine live (connect_by live (Ok (request_for setup.plan setup.ar)))
  connect_taken live before none =
      let request = request_for setup.plan setup.ar in
      let number = number_now station live in
      let blocks = connect_blocks station.identity number request (differing_of request live.rest.real) in
      let answer : Result (List ℕ) CallFault = Ok blocks in
      let few = number_few station.options.numbers_from live.rest.made in
      served_move setup next identity silence station laws live before
      (counted_by answer (with_log (connect_log (blocks_of setup asks.Connect) answer) live.rest))
      refl (call_for setup asks.Connect) refl live.values.running.suite.address Connect answer
      (chosen_fit setup (answer_to (call_for setup asks.Connect) done blocks) number few
      (subst (λ (differing : List ℕ). IsAllThere (connect_blocks station.identity number request differing) (0xC000 + number) (endpoint_of number))
      (sym (no_difference live before)) (laws.whole number few)))
      (Some (made_of request (partner_of caller) (rows_of request live.rest.real) station.options (starting_of station live)))
      (record {
        runs = λ untimed. absurd cc;
        active = laws.active;
        holds = laws.holds;
        named = laws.good.ar;
        object = refl;
        called = (omega arith, tt);
        inputs = refl;
        untold = λ keyed timed. (refl, refl);
      })
      (nothing_asked setup next (Some setup.ar) live.rest.asked.standing (unrelated_asked setup next live.rest.link live.rest.asked.standing none before.asked))
      [] tt

  connect_fine : (live : Live) → IsAnyDevice setup next identity silence station live
      → Fine live (handled_new station live caller (call_for setup asks.Connect) (blocks_of setup asks.Connect) Connect)
  connect_fine live before = by_link live.rest.link refl
    where
      by_link : (link : Option RelationState) → live.rest.link ≡ link
          → Fine live (connect_by live (connect_within station.options setup.plan.controller.mac live.rest.link (blocks_of setup asks.Connect)))
      by_link None has =
          subst (λ (r : Result Request CallFault). Fine live (connect_by live r))
          (sym (ap (λ (l : Option RelationState). connect_within station.options setup.plan.controller.mac l (blocks_of setup asks.Connect)) has
          ∙ laws.accepted))
          (connect_taken live before has)
      by_link (Some link) has =
          let because = refused_within station.options.smallest_interval link.request.ar.uuid (blocks_of setup asks.Connect) in
          subst (λ (r : Result Request CallFault). Fine live (connect_by live r))
          (sym (ap (λ (l : Option RelationState). connect_within station.options setup.plan.controller.mac l (blocks_of setup asks.Connect)) has ∙ because.1))
          (connect_refused live before because.0)

  -- ---- Release

  abbrev release_by : Live → Call → Result ControlBlock CallFault → Handled
  release_by live call ended =
      let answer = ended >>= λ block. Ok (block_bytes (is.ReleaseRes (done_of block))) in
      let asked = left_asked (released_by answer (uuid_of live.rest.link)) live.rest.asked in
      served station (but_rest live (record (with_log (release_log (uuid_of live.rest.link) answer) live.rest) { asked = asked })) caller call Release answer
      (updated (answered Ended ended) live.rest.link) []

  release_fine : (live : Live) → IsAnyDevice setup next identity silence station live → (sequence : ℕ)
      → Fine live (handled_new station live caller (call_for setup (asks.Release sequence)) (blocks_of setup (asks.Release sequence)) Release)
  release_fine live before sequence = by_outcome (laws.released live.rest.link)
    where
      by_outcome : (release_of live.rest.link (blocks_of setup (asks.Release 0)) ≡ Ok (control_of setup 4))
          ⊎ ((refusal : CallFault) × (release_of live.rest.link (blocks_of setup (asks.Release 0)) ≡ Err refusal))
          → Fine live (release_by live (call_for setup (asks.Release sequence)) (release_of live.rest.link (blocks_of setup (asks.Release 0))))
      by_outcome (inl e) =
          let blocks = block_bytes (is.ReleaseRes (done_of (control_of setup 4))) in
          let answer : Result (List ℕ) CallFault = Ok blocks in
          subst (λ (r : Result ControlBlock CallFault). Fine live (release_by live (call_for setup (asks.Release sequence)) r)) (sym e)
          (served_move setup next identity silence station laws live before
          (record (with_log (release_log (uuid_of live.rest.link) answer) live.rest) { asked = left_asked (uuid_of live.rest.link) live.rest.asked }) refl
          (call_for setup (asks.Release sequence)) refl
          live.values.running.suite.address Release answer (unchosen_fit setup (answer_to (call_for setup (asks.Release sequence)) done blocks) laws.unchosen)
          None tt (left_so setup next (uuid_of live.rest.link) None live.rest.asked before.asked) [] tt)
      by_outcome (inr e) =
          let answer : Result (List ℕ) CallFault = Err e.0 in
          subst (λ (r : Result ControlBlock CallFault). Fine live (release_by live (call_for setup (asks.Release sequence)) r)) (sym e.1)
          (served_move setup next identity silence station laws live before
          (with_log (release_log (uuid_of live.rest.link) answer) live.rest) refl (call_for setup (asks.Release sequence)) refl
          live.values.running.suite.address Release answer
          (fit_no setup next identity silence station laws (call_for setup (asks.Release sequence)) Release e.0) live.rest.link before.lasts before.asked [] tt)

  -- ---- PrmEnd

  not_first : (n : ℕ) → ((n + 1) == 0) ≡ false
  not_first n = grind (arith, nat_tests)

  ready_fits : (address : List ℕ) (link : Option RelationState) → AllLast setup silence link → AllByRecursion (IsFitting setup) (ready_calls address link)
  ready_fits address None lasts = tt
  ready_fits address (Some link) lasts = (
    record {
      header = record { object = lasts.object; interface = refl; activity = lasts.named; sequence = omega arith; operation = omega arith };
      interface = refl;
      uuid = lasts.named;
    },
    tt,
  )

  behind_fits : (by_application : Bool) (address : List ℕ) (link : Option RelationState) (block : ControlBlock) → AllLast setup silence link
      → AllByRecursion (IsFitting setup) (ready_behind by_application address link (Ok block))
  behind_fits true address link block lasts = tt
  behind_fits false address link block lasts = ready_fits address link lasts

  -- The relation keeps its ARUUID.
  restarted_named : (link : Option RelationState) → uuid_of (updated (Named (partner_of caller)) link) ≡ uuid_of link
  restarted_named None = refl
  restarted_named (Some link) = refl

  parameterized_named : (by_application : Bool) (link : Option RelationState) → uuid_of (updated (Parameterized by_application) link) ≡ uuid_of link
  parameterized_named by_application None = refl
  parameterized_named true (Some link) = refl
  parameterized_named false (Some link) = refl

  ended_named : (by_application : Bool) (link : Option RelationState)
      → uuid_of (updated (Named (partner_of caller)) (updated (Parameterized by_application) link)) ≡ uuid_of link
  ended_named by_application link = restarted_named (updated (Parameterized by_application) link) ∙ parameterized_named by_application link

  -- A call of the controller after its Connect.
  record IsLater (call : Call) : Type 0 where
    own : call.header.activity ≡ setup.activity
    number : (call.header.sequence == 0) ≡ false

  abbrev control_by : Live → Call → Result ControlBlock CallFault → Handled
  control_by live call ended =
      let by_application = station.options.ready_by_application in
      let link = updated (answered (Named (partner_of caller)) ended) (updated (answered (Parameterized by_application) ended) live.rest.link) in
      served station live caller call Control (ended >>= λ block. Ok (block_bytes (is.PrmEndRes (done_of block)))) link
      (ready_behind by_application live.values.running.suite.address link ended)

  control_fine : (live : Live) → IsAnyDevice setup next identity silence station live → (call : Call) → IsLater call
      → Fine live (handled_new station live caller call (blocks_of setup asks.PrmEnd) Control)
  control_fine live before call later =
      let blocks = blocks_of setup asks.PrmEnd in
      subst (Fine live) (sym (where_not (is_plug_control blocks live.rest.link)
      (handled_plug_end station live caller call blocks) (control_by live call (prm_end_of live.rest.link blocks))
      (not_of_plug live.rest.link (control_of setup 1)))) (by_outcome (prm_end_of live.rest.link blocks) refl)
    where
      by_outcome : (ended : Result ControlBlock CallFault) → prm_end_of live.rest.link (blocks_of setup asks.PrmEnd) ≡ ended
          → Fine live (control_by live call ended)
      by_outcome (Ok block) e =
          let by_application = station.options.ready_by_application in
          let after = updated (Named (partner_of caller)) (updated (Parameterized by_application) live.rest.link) in
          let lasts = restarted_lasts setup silence (partner_of caller) (updated (Parameterized by_application) live.rest.link)
          (parameterized_lasts setup silence by_application live.rest.link (end_timed (blocks_of setup asks.PrmEnd) live.rest.link block e) before.lasts) in
          served_move setup next identity silence station laws live before
          live.rest refl call later.own live.values.running.suite.address Control
          (Ok (block_bytes (is.PrmEndRes (done_of block))))
          (fit_later setup next identity silence station laws call (block_bytes (is.PrmEndRes (done_of block))) later.number) after lasts
          (subst (λ (uuid : Option (List ℕ)). IsQuestionOf setup next uuid live.rest.asked.standing)
          (sym (ended_named by_application live.rest.link)) before.asked)
          (ready_behind by_application live.values.running.suite.address after (Ok block))
          (behind_fits by_application live.values.running.suite.address after block lasts)
      by_outcome (Err refusal) e =
          served_move setup next identity silence station laws live before
          live.rest refl call later.own live.values.running.suite.address Control (Err refusal)
          (fit_no setup next identity silence station laws call Control refusal) live.rest.link before.lasts before.asked [] tt

  -- ---- Write

  took_lasts : (parameter : TakenRecord) (kept : Result Records CallFault) (link : Option RelationState) → AllLast setup silence link
      → AllLast setup silence (updated (taking kept) link)
  took_lasts parameter (Ok records) link lasts = records_last setup silence records link lasts
  took_lasts parameter (Err refusal) link lasts = lasts

  one_lasts : (one : Judged) (link : Option RelationState) → AllLast setup silence link → AllLast setup silence (one_link one.1 link)
  one_lasts one link lasts = by_result one.1
    where
      by_effect : (effect : Effect) → AllLast setup silence (effect_link effect link)
      by_effect (Stores value) = lasts
      by_effect (Keeps parameter) = took_lasts parameter (keeping parameter link) link lasts

      by_result : (result : Result Asking Status) → AllLast setup silence (one_link result link)
      by_result (Ok write) = by_effect write.effect
      by_result (Err status) = lasts

  each_lasts : (judged : List Judged) (link : Option RelationState) → AllLast setup silence link → AllLast setup silence (link_behind judged link)
  each_lasts [] link lasts = lasts
  each_lasts (one ∷ judged) link lasts = each_lasts judged (one_link one.1 link) (one_lasts one link lasts)

  took_named : (kept : Result Records CallFault) (link : Option RelationState) → uuid_of (updated (taking kept) link) ≡ uuid_of link
  took_named (Ok records) None = refl
  took_named (Ok records) (Some link) = refl
  took_named (Err refusal) link = refl

  one_named : (one : Judged) (link : Option RelationState) → uuid_of (one_link one.1 link) ≡ uuid_of link
  one_named one link = by_result one.1
    where
      by_effect : (effect : Effect) → uuid_of (effect_link effect link) ≡ uuid_of link
      by_effect (Stores value) = refl
      by_effect (Keeps parameter) = took_named (keeping parameter link) link

      by_result : (result : Result Asking Status) → uuid_of (one_link result link) ≡ uuid_of link
      by_result (Ok write) = by_effect write.effect
      by_result (Err status) = refl

  each_named : (judged : List Judged) (link : Option RelationState) → uuid_of (link_behind judged link) ≡ uuid_of link
  each_named [] link = refl
  each_named (one ∷ judged) link = each_named judged (one_link one.1 link) ∙ one_named one link

  -- so the application is asked the same
  same_asked : (live : Live) → IsAnyDevice setup next identity silence station live → (link : Option RelationState) → uuid_of link ≡ uuid_of live.rest.link
      → IsQuestionOf setup next (uuid_of link) live.rest.asked.standing
  same_asked live before link same = subst (λ (uuid : Option (List ℕ)). IsQuestionOf setup next uuid live.rest.asked.standing) (sym same) before.asked

  kept_fine : (live : Live) → IsAnyDevice setup next identity silence station live → (call : Call) → IsLater call → (header : IodWriteReq) (kept : Result Records CallFault)
      → Fine live (served station live caller call Write (kept_answer header kept)
      (updated (answered (Named (partner_of caller)) kept) (updated (taking kept) live.rest.link)) [])
  kept_fine live before call later header (Ok records) =
      served_move setup next identity silence station laws live before
      live.rest refl call later.own live.values.running.suite.address Write (kept_answer header (Ok records))
      (fit_later setup next identity silence station laws call (answer_of header) later.number)
      (updated (Named (partner_of caller)) (updated (Took records) live.rest.link))
      (restarted_lasts setup silence (partner_of caller) (updated (Took records) live.rest.link) (records_last setup silence records live.rest.link before.lasts))
      (same_asked live before (updated (Named (partner_of caller)) (updated (Took records) live.rest.link))
      (restarted_named (updated (Took records) live.rest.link) ∙ took_named (Ok records) live.rest.link)) [] tt
  kept_fine live before call later header (Err refusal) =
      served_move setup next identity silence station laws live before
      live.rest refl call later.own live.values.running.suite.address Write (Err refusal)
      (fit_no setup next identity silence station laws call Write refusal) live.rest.link before.lasts before.asked [] tt

  writing_fine : (live : Live) → IsAnyDevice setup next identity silence station live → (call : Call) → IsLater call → (writing : Result Writing CallFault)
      → IsQuiet station.named (uuid_of live.rest.link) live.rest.real writing
      → Fine live (handled_write station live caller call writing)
  writing_fine live before call later (Err refusal) quiet =
      served_move setup next identity silence station laws live before
      live.rest refl call later.own live.values.running.suite.address Write (Err refusal)
      (fit_no setup next identity silence station laws call Write refusal) live.rest.link before.lasts before.asked [] tt
  writing_fine live before call later (Ok (One write)) quiet =
      subst (λ (effect : Effect). Fine live (handled_effect station live caller call write.request effect)) (sym quiet.1)
      (kept_fine live before call later write.request (keeping quiet.0 live.rest.link))
  writing_fine live before call later (Ok (Each header entries)) quiet =
      let judged = judged_each station.named (uuid_of live.rest.link) live.rest.real entries in (
        quiet,
        served_move setup next identity silence station laws live before
            live.rest refl call later.own live.values.running.suite.address Write
            (Ok (several_answer header judged [] live.rest.link))
            (fit_later setup next identity silence station laws call (several_answer header judged [] live.rest.link)
            later.number)
            (updated (Named (partner_of caller)) (link_behind judged live.rest.link))
            (restarted_lasts setup silence (partner_of caller) (link_behind judged live.rest.link) (each_lasts judged live.rest.link before.lasts))
            (same_asked live before (updated (Named (partner_of caller)) (link_behind judged live.rest.link))
            (restarted_named (link_behind judged live.rest.link) ∙ each_named judged live.rest.link)) [] tt,
      )

  write_fine : (live : Live) → IsAnyDevice setup next identity silence station live → (call : Call) → IsLater call → (number : ℕ) → number < 65536
      → Fine live (handled_new station live caller call (blocks_of setup (asks.Write number)) Write)
  write_fine live before call later number small =
      let blocks = blocks_of setup (asks.Write number) in
      let unasked = ap (λ (real : Real). asking_of real station.named (uuid_of live.rest.link) caller call blocks Write) before.of_plan.plugged
      ∙ laws.unasked number small (uuid_of live.rest.link) caller call in
      subst (λ (asking : Result (Option Question) CallFault). Fine live (handled_asking station live caller call blocks Write asking)) (sym unasked)
      (writing_fine live before call later (writing_of (uuid_of live.rest.link) live.rest.real blocks)
      (subst (λ (real : Real). IsQuiet station.named (uuid_of live.rest.link) real (writing_of (uuid_of live.rest.link) real blocks))
      (sym before.of_plan.plugged) (laws.quiet number small (uuid_of live.rest.link))))

  -- ---- a Write after a plug

  plug_fit : (request : PlugRequest) (blocks : List ℕ) → chosen_in blocks ≡ None
      → IsFit setup (Responds (answer_to (plug_call setup request) done blocks))
  plug_fit request blocks none = unchosen_fit setup (answer_to (plug_call setup request) done blocks) none

  -- Its Write is refused or keeps its record, and asks the application nothing.
  pub plain_at : (live : Live) → IsAnyDevice setup next identity silence station live → (request : PlugRequest) → IsOfPlug setup request → (number : ℕ)
      → request.step ≡ Record number
      → IsPlain (writing_of (uuid_of live.rest.link) live.rest.real (plug_write_blocks setup request (slice_get setup.plan.records.items number)))
  plain_at live before request of number step =
      subst (λ (real : Real). IsPlain (writing_of (uuid_of live.rest.link) real
      (plug_write_blocks setup request (slice_get setup.plan.records.items number)))) (sym before.of_plan.plugged)
      (laws.plain request of number step (uuid_of live.rest.link))

  pub unasked_at : (live : Live) → IsAnyDevice setup next identity silence station live → (request : PlugRequest) → IsOfPlug setup request → (number : ℕ)
      → request.step ≡ Record number
      → asking_of live.rest.real station.named (uuid_of live.rest.link) caller (plug_call setup request)
      (plug_write_blocks setup request (slice_get setup.plan.records.items number)) Write ≡ Ok None
  unasked_at live before request of number step =
      ap (λ (real : Real). asking_of real station.named (uuid_of live.rest.link) caller (plug_call setup request)
      (plug_write_blocks setup request (slice_get setup.plan.records.items number)) Write) before.of_plan.plugged
      ∙ laws.plug_unasked request of number step (uuid_of live.rest.link) caller (plug_call setup request)

  plug_no : (live : Live) → IsAnyDevice setup next identity silence station live → (request : PlugRequest) (operation : Operation)
      → is_kept station.options operation ≡ true → (refusal : CallFault)
      → Fine live (served station live caller (plug_call setup request) operation (Err refusal) live.rest.link [])
  plug_no live before request operation kept refusal = rw kept
      (served_move setup next identity silence station laws live before
      live.rest refl (plug_call setup request) refl live.values.running.suite.address operation (Err refusal)
      (fit_no setup next identity silence station laws (plug_call setup request) operation refusal) live.rest.link before.lasts before.asked [] tt)

  plug_kept : (live : Live) → IsAnyDevice setup next identity silence station live → (request : PlugRequest) (header : IodWriteReq)
      → chosen_in (answer_of header) ≡ None → (records : Records)
      → Fine live (served station live caller (plug_call setup request) Write (Ok (answer_of header))
      (updated (Named (partner_of caller)) (updated (Took records) live.rest.link)) [])
  plug_kept live before request header none records =
      served_move setup next identity silence station laws live before
      live.rest refl (plug_call setup request) refl live.values.running.suite.address Write (Ok (answer_of header))
      (plug_fit request (answer_of header) none)
      (updated (Named (partner_of caller)) (updated (Took records) live.rest.link))
      (restarted_lasts setup silence (partner_of caller) (updated (Took records) live.rest.link)
      (records_last setup silence records live.rest.link before.lasts))
      (same_asked live before (updated (Named (partner_of caller)) (updated (Took records) live.rest.link))
      (restarted_named (updated (Took records) live.rest.link) ∙ took_named (Ok records) live.rest.link)) [] tt

  -- ---- PrmEnd after a plug

  ended_lasts : (by_application : Bool) (one : PlugControlBlock) (link : Option RelationState) → AllLast setup silence link
      → AllLast setup silence (plug_ended_by by_application (Ok one) link)
  ended_lasts by_application one None lasts = tt
  ended_lasts by_application one (Some link) lasts = record {
    runs = lasts.runs;
    active = lasts.active;
    holds = lasts.holds;
    named = lasts.named;
    object = lasts.object;
    called = ended_numbered one.alarm_sequence_number (not by_application) link.plugs lasts.called;
    inputs = lasts.inputs;
    untold = λ keyed timed. (
      (lasts.untold keyed timed).0,
      ended_told one.alarm_sequence_number (not by_application) link.plugs ∙ (lasts.untold keyed timed).1,
    );
  }

  plug_ended_named : (by_application : Bool) (one : PlugControlBlock) (link : Option RelationState)
      → uuid_of (plug_ended_by by_application (Ok one) link) ≡ uuid_of link
  plug_ended_named by_application one None = refl
  plug_ended_named by_application one (Some link) = refl

  uuid_wide : (live : Live) → IsAnyDevice setup next identity silence station live → (its : RelationState) → live.rest.link ≡ Some its
      → length its.request.ar.uuid ≡ 16
  uuid_wide live before its has = (subst (AllLast setup silence) has before.lasts).named

  plug_end_fine : (live : Live) → IsAnyDevice setup next identity silence station live → (request : PlugRequest) (blocks : List ℕ)
      (one : PlugControlBlock) → plug_end_in blocks live.rest.link ≡ Ok one → Fine live (ends_by setup station live caller request (Ok one))
  plug_end_fine live before request blocks one e =
      let by_application = station.options.ready_by_application in
      let address = live.values.running.suite.address in
      let after = plug_ended_by by_application (Ok one) live.rest.link in
      let named = updated (Named (partner_of caller)) after in
      let lasts = calling_lasts setup next identity silence station named
      (restarted_lasts setup silence (partner_of caller) after (ended_lasts by_application one live.rest.link before.lasts)) in
      let wide : length one.ar_uuid ≡ 16 = end_uuid blocks live.rest.link one e (uuid_wide live before) in
      served_move setup next identity silence station laws live before
      live.rest refl (plug_call setup request) refl address Control (plug_end_answer (Ok one))
      (plug_fit request ((plug_control 0x8111).write (plug_done one) []) (end_unchosen (plug_done one) wide))
      (calling_next named) lasts
      (same_asked live before (calling_next named)
      (calling_named setup next identity silence station named
      ∙ (restarted_named after ∙ plug_ended_named by_application one live.rest.link)))
      (next_call_sent address named) (due_fit setup (is_calling named) _ (plugs_fit setup silence address (calling_next named) lasts))

  pub plug_said : (live : Live) → IsAnyDevice setup next identity silence station live → (request : PlugRequest) → IsOfPlug setup request
      → Fine live (handled_said station live caller (Calls (plug_call setup request)))
  plug_said live before request of =
      walk setup station live caller request (plain_at live before request of) (unasked_at live before request of) (Fine live) (record {
        refuses = λ why. tt;
        silent = (before.lasts, λ can. stored_before setup next identity silence station live before, tt, before.asked);
        repeats = λ kept found.
            (before.lasts, λ can. stored_before setup next identity silence station live before, (before.stored kept found, tt), before.asked);
        denies = plug_no live before request;
        keeps = λ header none parameter records e. plug_kept live before request header none records;
        ends = λ one e told. plug_end_fine live before request (end_blocks setup station live caller request) one e;
      })

  -- ---- a call, by what is stored

  looked_fine : (live : Live) → IsAnyDevice setup next identity silence station live → (call : Call) → call.header.activity ≡ setup.activity
      → (blocks : List ℕ) (operation : Operation) → Fine live (handled_new station live caller call blocks operation)
      → Fine live (handled_looked station live caller call blocks operation (looked call.header.activity call.header.sequence live.rest.calls))
  looked_fine live before call own blocks operation fine =
      subst (λ (activity : List ℕ). Fine live (handled_looked station live caller call blocks operation (looked activity call.header.sequence live.rest.calls)))
      (sym own)
      (by_kept (kept_of setup.activity live.rest.calls) refl)
    where
      -- a repeat of the call that is asked is dropped
      by_repeat : (repeats : Bool) → Fine live (if repeats then Moves live.rest [] else handled_new station live caller call blocks operation)
      by_repeat true = (before.lasts, λ can. stored_before setup next identity silence station live before, tt, before.asked)
      by_repeat false = fine

      unanswered : Fine live (handled_unanswered station live caller call blocks operation)
      unanswered = by_repeat (is_repeat call.header.activity call.header.sequence live.rest.asked)

      by_number : (kept : Kept) → kept_of setup.activity live.rest.calls ≡ Some kept → (same less : Bool)
          → Fine live (handled_looked station live caller call blocks operation (if same then again kept.frame else (if less then old else new)))
      by_number kept found true less =
          (before.lasts, λ can. stored_before setup next identity silence station live before, (before.stored kept found, tt), before.asked)
      by_number kept found false true = tt
      by_number kept found false false = unanswered

      by_kept : (found : Option Kept) → kept_of setup.activity live.rest.calls ≡ found
          → Fine live (handled_looked station live caller call blocks operation (reported_by call.header.sequence found))
      by_kept None e = unanswered
      by_kept (Some kept) e = by_number kept e (call.header.sequence == kept.sequence) (nat_lt call.header.sequence kept.sequence)

  said_fine : (live : Live) (call : Call) (operation : Operation) (blocks : List ℕ) → call.blocks ≡ Some blocks
      → operation_of call.header.operation ≡ Some operation → is_kept station.options operation ≡ true
      → Fine live (handled_looked station live caller call blocks operation (looked call.header.activity call.header.sequence live.rest.calls))
      → Fine live (handled_said station live caller (Calls call))
  said_fine live call operation blocks counted is kept fine =
      subst (λ (o : Option Operation). Fine live (handled_call station live caller call o)) (sym is)
      (subst (λ (o : Option (List ℕ)). Fine live (handled_blocks station live caller call operation o)) (sym counted)
      (subst (λ (b : Bool). Fine live (handled_looked station live caller call blocks operation
      (looked_if b call.header.activity call.header.sequence live.rest.calls))) (sym kept) fine))

  is_release : operation_of 1 ≡ Some Release
  unfolding operation_of
  is_release = refl

  is_write : operation_of 3 ≡ Some Write
  unfolding operation_of
  is_write = refl

  is_control : operation_of 4 ≡ Some Control
  unfolding operation_of
  is_control = refl

  -- ---- each call

  pub connect_said : (live : Live) → IsAnyDevice setup next identity silence station live
      → Fine live (handled_said station live caller (Calls (call_for setup asks.Connect)))
  connect_said live before =
      let call = call_for setup asks.Connect in
      said_fine live call Connect (blocks_of setup asks.Connect) refl is_connect refl
      (looked_fine live before call refl (blocks_of setup asks.Connect) Connect (connect_fine live before))

  later_call : (call : Call) → call.header.activity ≡ setup.activity → (number : ℕ) → call.header.sequence ≡ number + 1 → IsLater call
  later_call call own number is = record { own = own; number = ap (λ (n : ℕ). n == 0) is ∙ not_first number }

  pub write_said : (live : Live) → IsAnyDevice setup next identity silence station live → (number : ℕ) → number < 65536
      → Fine live (handled_said station live caller (Calls (call_for setup (asks.Write number))))
  write_said live before number small =
      let call = call_for setup (asks.Write number) in
      said_fine live call Write (blocks_of setup (asks.Write number)) refl is_write refl
      (looked_fine live before call refl (blocks_of setup (asks.Write number)) Write
      (write_fine live before call (later_call call refl number refl) number small))

  pub write_again_said : (live : Live) → IsAnyDevice setup next identity silence station live → (number tries : ℕ) → number < 65536
      → Fine live (handled_said station live caller (Calls (call_for setup (asks.WriteAfter number tries))))
  write_again_said live before number tries small =
      let call = call_for setup (asks.WriteAfter number tries) in
      said_fine live call Write (blocks_of setup (asks.Write number)) refl is_write refl
      (looked_fine live before call refl (blocks_of setup (asks.Write number)) Write
      (write_fine live before call (later_call call refl (number + tries) refl) number small))

  pub prm_end_said : (live : Live) → IsAnyDevice setup next identity silence station live
      → Fine live (handled_said station live caller (Calls (call_for setup asks.PrmEnd)))
  prm_end_said live before =
      let call = call_for setup asks.PrmEnd in
      said_fine live call Control (blocks_of setup asks.PrmEnd) refl is_control refl
      (looked_fine live before call refl (blocks_of setup asks.PrmEnd) Control
      (control_fine live before call (later_call call refl (write_count setup.plan) refl)))

  pub prm_end_again_said : (live : Live) → IsAnyDevice setup next identity silence station live → (tries : ℕ)
      → Fine live (handled_said station live caller (Calls (call_for setup (asks.PrmEndAfter tries))))
  prm_end_again_said live before tries =
      let call = call_for setup (asks.PrmEndAfter tries) in
      said_fine live call Control (blocks_of setup asks.PrmEnd) refl is_control refl
      (looked_fine live before call refl (blocks_of setup asks.PrmEnd) Control
      (control_fine live before call (later_call call refl (write_count setup.plan + tries) refl)))

  pub release_said : (live : Live) → IsAnyDevice setup next identity silence station live → (sequence : ℕ)
      → Fine live (handled_said station live caller (Calls (call_for setup (asks.Release sequence))))
  release_said live before sequence =
      let call = call_for setup (asks.Release sequence) in
      said_fine live call Release (blocks_of setup (asks.Release sequence)) refl is_release refl
      (looked_fine live before call refl (blocks_of setup (asks.Release sequence)) Release (release_fine live before sequence))
