-- What is asked of the application: a device that asks nothing does with calls and units what it did before, and what a unit does to a call
-- that is asked.
use Rattle.std.proofs.Common.{◌≡◌, ◌⊎◌, inl, inr, ◌++◌, ◌-◌, ◌&&◌, ℕ, Bool, true, false, not, List, [], ◌∷◌, length}
use Rattle.std.proofs.Common.{Option, Some, None, refl, sym, ap, subst, ◌∙◌}
use Rattle.std.specs.Prelude.{if◌then◌else◌, option_map}
use Rattle.std.proofs.lemmas.List.{append-nil}
use Rattle.pn_values.specs.declared.identity.Identity.{Identity}
use Rattle.frame_codec.specs.declared.udp.Caller.{Caller}
use Rattle.rpc_core.specs.Cache.{Kept, Reported as Looked, again, behind_reported, kept_more, looked, new, old}
use Rattle.rpc_core.specs.Call.{Asked as Call}
use Rattle.records.specs.declared.status.operation.Operation.{Operation}
use Rattle.settings_journal.specs.settings_store.Machine.{Outcome}
use Rattle.asked_records.specs.Asked.{AskedState, Standing, is_of, is_over, is_repeat, repeats, settled}
use Rattle.asked_records.specs.Questions.{operation_of}
use Rattle.asked_records.specs.declared.question.Question.{Question}
use Rattle.asked_records.specs.declared.status.Unanswered.TheVariants.{Late}
use Rattle.relations.specs.declared.options.DeviceOptions.{DeviceOptions}
use Rattle.pn_values.specs.IpSuite.{is_zero}
use Rattle.pn_alarms.specs.declared.abort.Abort.{Abort}
use Rattle.relations.specs.Phases.{passing, passing_by, updated}
use Rattle.relations.specs.RelationState.{RelationState}
use Rattle.relations.specs.Timers.{due_by, due_of, ending_of}
use Rattle.device_frames.specs.Heard.{Ticks}
use Rattle.device_frames.specs.Relation.{due_frames, where_due}
use Rattle.device_frames.specs.Sent.{Sent}
use Rattle.device_core.specs.State.{Live, Station, counter_of, units_after}
use Rattle.device_core.specs.Asking.{asked_later, calls_after, is_full, is_kept, is_new, kept_reply, late_calls, late_in, late_sent, left_asked, question_replies, refused_reply}
use Rattle.device_core.specs.Handled.{Handled, Moves, counted_sent, handled_new, handled_unanswered, ticked, unit_rest, unit_sent}
use Rattle.device_core.specs.Log.{err_log, with_log}
use Rattle.device_core.specs.Machine.{Stepped, handled_step, heard_step}
use Rattle.rounds_law.specs.Path.{AsksNothing}
use Rattle.rounds_law.proofs.Choices.{where_not}

-- ---- calls

-- No call is a repeat of one that is asked if none is asked.
pub none_repeated : (live : Live) (activity : List ℕ) (sequence : ℕ) → AsksNothing live → is_repeat activity sequence live.rest.asked ≡ false
none_repeated live activity sequence nothing = ap (λ (s : Option Standing). repeats activity sequence s) nothing

-- A call that is no repeat is handled as a new one.
pub unrepeated : (station : Station) (live : Live) (caller : Caller) (call : Call) (blocks : List ℕ) (operation : Operation)
    → is_repeat call.header.activity call.header.sequence live.rest.asked ≡ false
    → handled_unanswered station live caller call blocks operation ≡ handled_new station live caller call blocks operation
unrepeated station live caller call blocks operation first =
    where_not (is_repeat call.header.activity call.header.sequence live.rest.asked) (Moves live.rest [])
    (handled_new station live caller call blocks operation) first

pub unasked_new : (station : Station) (live : Live) (caller : Caller) (call : Call) (blocks : List ℕ) (operation : Operation) → AsksNothing live
    → handled_unanswered station live caller call blocks operation ≡ handled_new station live caller call blocks operation
unasked_new station live caller call blocks operation nothing =
    unrepeated station live caller call blocks operation (none_repeated live call.header.activity call.header.sequence nothing)

-- ---- a unit while nothing is asked

-- A unit of the relation alone, at a device with this relation, and with one that ends for this reason, if it does.
abbrev pub ticked_at : Live → Option RelationState → Handled
ticked_at live link =
    let due = due_of link in
    let later = updated (passing link) link in
    let units = units_after 1 live.rest.units in
    Moves (with_log (err_log due.farewell) (record live.rest { lamp = live.rest.lamp - 1; link = later; units = units }))
    (due_frames live.values.running.suite.address (counter_of units) due later)

abbrev pub ticked_by : Live → RelationState → Option Abort → Handled
ticked_by live link ending =
    let due = due_by link ending in
    let later = updated (passing_by ending) (Some link) in
    let units = units_after 1 live.rest.units in
    Moves (with_log (err_log due.farewell) (record live.rest { lamp = live.rest.lamp - 1; link = later; units = units }))
    (due_frames live.values.running.suite.address (counter_of units) due later)

still_asked : (standing : Option Standing) (last count : ℕ) (by : Option (List ℕ)) → standing ≡ None
    → asked_later count (left_asked by (record { standing = standing; last = last })) ≡ record { standing = standing; last = last }
still_asked None last count None none = refl
still_asked None last count (Some uuid) none = refl
still_asked (Some one) last count by none = absurd cc

none_late : (standing : Option Standing) (last count : ℕ) (by : Option (List ℕ)) → standing ≡ None
    → late_in count (left_asked by (record { standing = standing; last = last })) ≡ None
none_late None last count None none = refl
none_late None last count (Some uuid) none = refl
none_late (Some one) last count by none = absurd cc

-- A unit does what it does to the relation, and nothing more.
pub quiet_unit : (station : Station) (live : Live) → AsksNothing live → ticked station live ≡ ticked_at live live.rest.link
quiet_unit station live nothing =
    let address = live.values.running.suite.address in
    let before = unit_rest live in
    let sent = unit_sent live in
    let count = length sent in
    let by = option_map (λ farewell. farewell.uuid) (due_of live.rest.link).farewell in
    let late = none_late live.rest.asked.standing live.rest.asked.last count by nothing in
    ap (λ (question : Option Question). Moves
    (record before { asked = asked_later count before.asked; calls = late_calls station.options station.identity address question before.calls })
    (sent ++ late_sent station.options address question before.calls)) late
    ∙ (ap (λ (asked : AskedState). Moves (record before { asked = asked }) (sent ++ []))
    (still_asked live.rest.asked.standing live.rest.asked.last count by nothing)
    ∙ ap (λ (messages : List Sent). Moves (record before { asked = live.rest.asked }) messages) (append-nil sent))

-- What holds of the step of the relation holds of the unit.
pub unit_goes : (Goes : Stepped → Type 0) (outcomes : List Outcome) (station : Station) (live : Live) (link : RelationState) (reason : Option Abort)
    → AsksNothing live → live.rest.link ≡ Some link → ending_of link ≡ reason
    → Goes (handled_step outcomes station live (ticked_by live link reason)) → Goes (heard_step outcomes station live Ticks)
unfolding heard_step
unit_goes Goes outcomes station live link reason nothing has ending goes =
    subst (λ (what : Handled). Goes (handled_step outcomes station live what)) (sym (quiet_unit station live nothing))
    (subst (λ (l : Option RelationState). Goes (handled_step outcomes station live (ticked_at live l))) (sym has)
    (subst (λ (e : Option Abort). Goes (handled_step outcomes station live (ticked_by live link e))) (sym ending) goes))

-- ---- any unit

-- The settings stay, and the relation ages, whatever is asked.
pub unit_values : (outcomes : List Outcome) (station : Station) (live : Live) → (heard_step outcomes station live Ticks).live.values ≡ live.values
unfolding heard_step handled_step
unit_values outcomes station live = refl

pub unit_link : (outcomes : List Outcome) (station : Station) (live : Live) (link : RelationState) (reason : Option Abort)
    → live.rest.link ≡ Some link → ending_of link ≡ reason
    → (heard_step outcomes station live Ticks).live.rest.link ≡ updated (passing_by reason) (Some link)
unfolding heard_step handled_step
unit_link outcomes station live link reason has ending =
    ap (λ (l : Option RelationState). updated (passing l) l) has ∙ ap (λ (e : Option Abort). updated (passing_by e) (Some link)) ending

-- What is sent for a call that had no answer in time.
abbrev pub late_at : Station → Live → List Sent
late_at station live = counted_sent station live.values.running.suite.address (length (unit_sent live)) (unit_rest live)

pub unit_sends : (outcomes : List Outcome) (station : Station) (live : Live) (link : RelationState) (reason : Option Abort)
    → live.rest.link ≡ Some link → ending_of link ≡ reason
    → (heard_step outcomes station live Ticks).sent
    ≡ due_frames live.values.running.suite.address (counter_of (units_after 1 live.rest.units)) (due_by link reason) (updated (passing_by reason) (Some link))
    ++ late_at station live
unfolding heard_step handled_step
unit_sends outcomes station live link reason has ending =
    let address = live.values.running.suite.address in
    let counter = counter_of (units_after 1 live.rest.units) in
    ap (λ (l : Option RelationState). due_frames address counter (due_of l) (updated (passing l) l) ++ late_at station live) has
    ∙ ap (λ (e : Option Abort). due_frames address counter (due_by link e) (updated (passing_by e) (Some link)) ++ late_at station live) ending

-- ---- a call that had no answer in time

-- Nothing is sent and stored, or the refusal of the call that was asked is sent, and stored or not.
abbrev pub IsLate : Identity → List ℕ → Option Standing → List Kept → List Sent → List Kept → Type 0
IsLate identity address standing calls sent stored =
    ((sent ≡ []) × (stored ≡ calls))
    ⊎ ((one : Standing) × (standing ≡ Some one) × (sent ≡ refused_reply address Late one.question ∷ [])
    × ((stored ≡ kept_more 4 (kept_reply identity one.question (refused_reply address Late one.question)) calls) ⊎ (stored ≡ calls)))

module _ (options : DeviceOptions) (identity : Identity) (address : List ℕ) (calls : List Kept) where
  by_cache : (one : Standing) (found : Looked)
      → IsLate identity address (Some one) calls (where_due (is_new found) (refused_reply address Late one.question ∷ []))
      (behind_reported 4 (kept_reply identity one.question (refused_reply address Late one.question)) calls found)
  by_cache one new = inr (one, refl, refl, inl refl)
  by_cache one (again frame) = inl (refl, refl)
  by_cache one old = inl (refl, refl)

  by_stored : (one : Standing) (kept : Bool)
      → IsLate identity address (Some one) calls (question_replies kept one.question (refused_reply address Late one.question) calls)
      (calls_after kept identity one.question (refused_reply address Late one.question) calls)
  by_stored one true = by_cache one (looked one.question.header.activity one.question.header.sequence calls)
  by_stored one false = inr (one, refl, refl, inr refl)

  -- it is dropped if the device has no IP address any more
  by_address : (one : Standing) (kept zero : Bool)
      → IsLate identity address (Some one) calls (if zero then [] else question_replies kept one.question (refused_reply address Late one.question) calls)
      (if zero then calls else calls_after kept identity one.question (refused_reply address Late one.question) calls)
  by_address one kept true = inl (refl, refl)
  by_address one kept false = by_stored one kept

  by_test : (one : Standing) (is : Bool)
      → IsLate identity address (Some one) calls
      (late_sent options address (if is then Some one.question else None) calls) (late_calls options identity address (if is then Some one.question else None) calls)
  by_test one true = by_address one (is_kept options (operation_of one.question.request)) (is_zero address)
  by_test one false = inl (refl, refl)

  by_end : (one : Standing) (last count : ℕ) (uuid : List ℕ) (is : Bool)
      → IsLate identity address (Some one) calls
      (late_sent options address (late_in count (let state : AskedState = record { standing = Some one; last = last } in if is then settled state else state)) calls)
      (late_calls options identity address
      (late_in count (let state : AskedState = record { standing = Some one; last = last } in if is then settled state else state)) calls)
  by_end one last count uuid true = inl (refl, refl)
  by_end one last count uuid false = by_test one (is_over (record { standing = Some one; last = last }) && not (is_full count))

  late_either : (standing : Option Standing) (last count : ℕ) (by : Option (List ℕ))
      → IsLate identity address standing calls
      (late_sent options address (late_in count (left_asked by (record { standing = standing; last = last }))) calls)
      (late_calls options identity address (late_in count (left_asked by (record { standing = standing; last = last }))) calls)
  late_either None last count None = inl (refl, refl)
  late_either None last count (Some uuid) = inl (refl, refl)
  late_either (Some one) last count None = by_test one (is_over (record { standing = Some one; last = last }) && not (is_full count))
  late_either (Some one) last count (Some uuid) = by_end one last count uuid (is_of uuid (record { standing = Some one; last = last }))

-- With a unit: what is sent and stored for a call that had no answer.
pub late_of : (station : Station) (live : Live)
    → IsLate station.identity live.values.running.suite.address live.rest.asked.standing live.rest.calls (late_at station live)
    (late_calls station.options station.identity live.values.running.suite.address (late_in (length (unit_sent live)) (unit_rest live).asked) (unit_rest live).calls)
late_of station live =
    late_either station.options station.identity live.values.running.suite.address live.rest.calls live.rest.asked.standing live.rest.asked.last (length (unit_sent live))
    (option_map (λ farewell. farewell.uuid) (due_of live.rest.link).farewell)

pub late_is : (outcomes : List Outcome) (station : Station) (live : Live)
    → IsLate station.identity live.values.running.suite.address live.rest.asked.standing live.rest.calls (late_at station live)
    (heard_step outcomes station live Ticks).live.rest.calls
unfolding heard_step handled_step
late_is outcomes station live = late_of station live
