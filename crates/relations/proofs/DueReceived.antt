-- A cyclic frame only puts off what is due.
use Rattle.std.proofs.Common.{◌≡◌, ◌≤◌, ℕ, Bool, true, false, List, Some, Result, Ok, Err, if◌then◌else◌, refl, ap, subst, sym, ◌∙◌, arith}
use Rattle.std.specs.Prelude.{min}
use Rattle.pn_values.specs.declared.mac.Mac.{Mac}
use Rattle.pn_alarms.specs.Ends.{DeviceEnd}
use Rattle.pn_alarms.specs.Leaps.{data_due_in, never}
use Rattle.cyclic_data.specs.declared.tail.CyclicTail.{CyclicTail}
use Rattle.cyclic_data.specs.declared.tail.ShortFrame.{ShortFrame}
use Rattle.cyclic_data.specs.Leaps.{frame_due_in, over_in}
use Rattle.cyclic_data.specs.Tail.{cyclic_of}
use Rattle.cyclic_data.specs.Timing.{Hearing, Sending, is_taken}
use Rattle.cyclic_data.specs.exchange.Cyclic.{Cyclic}
use Rattle.cyclic_data.specs.exchange.Leaps.{silent_in}
use Rattle.cyclic_data.specs.exchange.Received.{behind_read, is_new, is_of_partner, taken_from}
use Rattle.diagnosis.specs.alarms.Alarms.{Low}
use Rattle.relations.specs.declared.steady.Steady.{Steady}
use Rattle.relations.specs.exchange.Flow.{Flow}
use Rattle.relations.specs.exchange.Received.{behind_frame}
use Rattle.relations.specs.Leaps.{inactive_in, link_due_in, plug_again_in, ready_in}
use Rattle.relations.specs.Phases.{with_flow}
use Rattle.relations.specs.RelationState.{RelationState}
use Rattle.relations.specs.Steady.{IsSteady}
use Rattle.relations.specs.Timers.{limit_of}
use Rattle.relations.proofs.SteadyKept.{KeepsCyclic, KeepsFlow, stays, still}

abbrev heard_if : Bool → Hearing → ℕ → Hearing
heard_if b hearing counter = if b then record { last = Some counter; held = 0; limit = hearing.limit } else hearing

silent_heard : (begun b : Bool) (hearing : Hearing) (counter : ℕ)
    → (if begun then over_in hearing else never) ≤ (if begun then over_in (heard_if b hearing counter) else never)
silent_heard true true hearing counter = omega arith
silent_heard true false hearing counter = omega arith
silent_heard false b hearing counter = omega arith

taken_due : (cyclic : Cyclic) (octets : List ℕ) (tail : CyclicTail) → KeepsCyclic cyclic (taken_from cyclic octets tail)
taken_due cyclic octets tail = record {
  sending = refl;
  silent = silent_heard cyclic.begun (is_taken cyclic.hearing.last tail.counter tail.data_status.0 tail.transfer_status) cyclic.hearing tail.counter;
}

new_due : (b : Bool) (cyclic : Cyclic) (octets : List ℕ) (tail : CyclicTail) → KeepsCyclic cyclic (if b then taken_from cyclic octets tail else cyclic)
new_due true cyclic octets tail = taken_due cyclic octets tail
new_due false cyclic octets tail = still cyclic

read_due : (cyclic : Cyclic) (read : Result (List ℕ × CyclicTail) ShortFrame) → KeepsCyclic cyclic (behind_read cyclic read)
read_due cyclic (Ok x) = new_due (is_new cyclic x.1) cyclic x.0 x.1
read_due cyclic (Err short) = still cyclic

frame_due : (b : Bool) (cyclic : Cyclic) (read : Result (List ℕ × CyclicTail) ShortFrame) → KeepsCyclic cyclic (if b then behind_read cyclic read else cyclic)
frame_due true cyclic read = read_due cyclic read
frame_due false cyclic read = still cyclic

flow_received : (flow : Flow) (source : Mac) (frame_id : ℕ) (body : List ℕ) → KeepsFlow flow (behind_frame flow source frame_id body)
flow_received flow source frame_id body = record {
  alarms = refl;
  low = refl;
  cyclic = frame_due (is_of_partner flow.cyclic.route source frame_id) flow.cyclic (cyclic_of flow.cyclic.taken.data_length body);
}

-- What is due of a relation with these parts of its exchange.
abbrev due_with : RelationState → Sending → ℕ → DeviceEnd → Low → ℕ
due_with link sending silent alarms low =
    min (min (min (min (frame_due_in sending) silent) (data_due_in alarms.sender.sending)) (data_due_in low.alarms.sender.sending))
    (min (plug_again_in link.phase link.plugs) (min (inactive_in link.phase (limit_of link) link.inactive) (ready_in link.phase link.waited)))

put_off : (frame silent later high low own : ℕ) → silent ≤ later → min (min (min (min frame silent) high) low) own ≤ min (min (min (min frame later) high) low) own
put_off frame silent later high low own off = omega (arith, off)

flow_due : (link : RelationState) (new : Flow) → KeepsFlow link.flow new → link_due_in link ≤ link_due_in (with_flow new link)
flow_due link new kept =
    let old = link.flow in
    let silent = silent_in new.cyclic in
    let own = min (plug_again_in link.phase link.plugs) (min (inactive_in link.phase (limit_of link) link.inactive) (ready_in link.phase link.waited)) in
    let same : link_due_in (with_flow new link) ≡ due_with link old.cyclic.sending silent old.alarms old.low =
    ap (λ (s : Sending). due_with link s silent new.alarms new.low) kept.cyclic.sending
    ∙ (ap (λ (e : DeviceEnd). due_with link old.cyclic.sending silent e new.low) kept.alarms
    ∙ ap (due_with link old.cyclic.sending silent old.alarms) kept.low) in
    subst (λ (n : ℕ). link_due_in link ≤ n) (sym same)
    (put_off (frame_due_in old.cyclic.sending) (silent_in old.cyclic) silent (data_due_in old.alarms.sender.sending) (data_due_in old.low.alarms.sender.sending) own kept.cyclic.silent)

flow_kept : (flow new : Flow) (source : Mac) (frame_id : ℕ) (body : List ℕ) → new ≡ behind_frame flow source frame_id body → KeepsFlow flow new
flow_kept flow new source frame_id body is = subst (KeepsFlow flow) (sym is) (flow_received flow source frame_id body)

pub received_due : (link : RelationState) (source : Mac) (frame_id : ℕ) (body : List ℕ) (new : Flow) → new ≡ behind_frame link.flow source frame_id body
    → link_due_in link ≤ link_due_in (with_flow new link)
received_due link source frame_id body new is = flow_due link new (flow_kept link.flow new source frame_id body is)

pub received_steady : (steady : Steady) (link : RelationState) (source : Mac) (frame_id : ℕ) (body : List ℕ) (new : Flow) → new ≡ behind_frame link.flow source frame_id body
    → IsSteady steady (Some link) → IsSteady steady (Some (with_flow new link))
received_steady steady link source frame_id body new is old = stays steady link new (flow_kept link.flow new source frame_id body is) old
