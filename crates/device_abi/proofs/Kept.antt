-- A device that refuses what its application says is as before, and the reason is that of its state before.
use Rattle.std.proofs.Common.{◌≡◌, ◌==◌, ◌∙◌, ℕ, Bool, true, false, List, [], refl, sym, ap, subst}
use Rattle.std.specs.Prelude.{if◌then◌else◌, Option, Some, None, Result, Ok, Err}
use Rattle.arrayvec.specs.ArrayVec.{ArrayVec}
use Rattle.pn_values.specs.declared.identity.Identity.{Identity}
use Rattle.settings_journal.specs.settings_store.State.{Values}
use Rattle.device_frames.specs.declared.event.Event.TheVariants.{Application}
use Rattle.device_frames.specs.declared.local.Local.{Local}
use Rattle.device_frames.specs.declared.note.Note.{Note}
use Rattle.device_frames.specs.Heard.{heard_of}
use Rattle.device_frames.specs.Notes.{note_number}
use Rattle.device_core.specs.State as device
use Rattle.device_core.specs.State.{Live, Station}
use Rattle.lldp.specs.Peer.{Peer}
use Rattle.device_station.specs.declared.recorded.flash.RecordedFlash.{RecordedFlash}
use Rattle.device_core.specs.Handled.{Handled, Refuses, Sets, Writes, WritesEach, Moves, handled}
use Rattle.device_core.specs.Machine.{handled_step, heard_step, step_of}
use Rattle.device_station.specs.Beside.{idle, observing}
use Rattle.device_station.specs.Serving.{Serving, news_in}
use Rattle.pn_values.specs.declared.settings.Settings.{Settings}
use Rattle.device_station.specs.declared.port.refusal.Refusal.{Refusal}
use Rattle.device_station.specs.port.State.{State}
use Rattle.device_station.specs.port.Served.{Served}
use Rattle.device_station.specs.port.ServedSteps.{AnswersBoth, GivesAny, IsBeside, TakesBoth, TellsIf, TellsOf}
use Rattle.c_layout.specs.declared.op.Op.{Op}
use Rattle.device_abi.specs.declared.reason.Reason.{Reason}
use Rattle.device_abi.specs.Reasons.{reason_number}
use Rattle.device_abi.specs.Serves.{IsOutcome, IsOutcomeBy, IsSaid, IsUntouched, KeepsIf, is_refused}

-- Only the neighbour may be another one.
abbrev IsButPeer : Live → Live → Type 0
IsButPeer before after = after ≡ record before { rest = record before.rest { peer = after.rest.peer } }

-- A step that is refused leaves what lives as it was.
still : (station : Station) (live : Live) (what : Handled) → (note_number (handled_step [] station live what).note == 7) ≡ true
    → (handled_step [] station live what).live ≡ live
unfolding handled_step
still station live (Refuses note) is = refl
still station live (Sets asker request in_operation) is = cc
still station live (Writes caller address call header value) is = cc
still station live (WritesEach caller address call header judged) is = cc
still station live (Moves rest sent) is = cc

-- The same of a step of the application.
still_said : (station : Station) (live : Live) (said : Local (ArrayVec ℕ)) → (note_number (step_of [] station live (Application said)).note == 7) ≡ true
    → (step_of [] station live (Application said)).live ≡ live
unfolding heard_step
still_said station live said is = still station live (handled station live (heard_of station.identity (Application said))) is

-- The device learns of its neighbour.
told_live : (station : Station) (live : Live) (state : Serving) → IsButPeer live (step_of [] station live (news_in state)).live
unfolding heard_of heard_step handled_step
told_live station live state = refl

told_if : (has_news : Bool) (old : Served) (state : Serving) (new : Served) → TellsIf has_news old state new → IsUntouched old.port new.port
told_if true old state new is = (
  is.takes.exact.same,
  subst (λ (live : Live). IsButPeer old.port.device.live live) (sym is.takes.exact.live) (told_live old.port.device.station old.port.device.live state),
)
told_if false old state new is = rw is (refl, refl)

told_of : (services : Option Serving) (old new : Served) → TellsOf services old new → IsUntouched old.port new.port
told_of None old new is = rw is (refl, refl)
told_of (Some state) old new is = told_if state.has_news old state new is

-- The services leave the note of what the application said.
note_by : (is_lost : Bool) (running : Settings) (state : Serving) (said : Note) → (if is_lost then idle state said else observing running (idle state said)).note ≡ said
note_by true running state said = refl
note_by false running state said = refl

note_beside : (services : Option Serving) (identity : Identity) (values : Values) (noted : Note) (said : Local (ArrayVec ℕ)) (after : Option Serving) (frames : List (List ℕ)) (note : Note)
    → IsBeside services identity values noted (Application said) after frames note → note ≡ noted
note_beside None identity values noted said after frames note is = is.2
note_beside (Some state) identity values noted said after frames note is = is.2 ∙ note_by values.is_lost values.running state noted

-- No call comes of what the application said.
none_given : (services : Option Serving) (values : Values) (noted : Note) (said : Local (ArrayVec ℕ)) (old new : State) → GivesAny services values noted (Application said) old new → new ≡ old
none_given None values noted said old new is = is
none_given (Some state) values noted said old new is = is

-- A refused event: nothing of the device changes but that it may know another neighbour.
untouched : (old new : Served) (said : Local (ArrayVec ℕ)) (note : Note) → (note_number note == 7) ≡ true → TakesBoth old (Application said) note new → IsUntouched old.port new.port
untouched old new said note is takes =
    let between = takes.between in
    let steps = takes.steps in
    let middle = steps.middle in
    let exact = steps.alone.exact in
    let station = between.port.device.station in
    let live = between.port.device.live in
    let told = told_of old.services old between takes.tells in
    let same : note ≡ steps.said = note_beside between.services station.identity middle.device.live.values steps.said said new.services new.frames note steps.beside in
    let refused : (note_number (step_of [] station live (Application said)).note == 7) ≡ true =
    subst (λ (n : Note). (note_number n == 7) ≡ true) (same ∙ exact.note) is in
    let last : new.port ≡ middle = none_given between.services middle.device.live.values steps.said said middle new.port steps.gives in
    let lives : new.port.device.live ≡ live = ap (λ (port : State). port.device.live) last ∙ (exact.live ∙ still_said station live said refused) in (
      ap (λ (port : State). port.device.station) last ∙ (exact.same ∙ told.0),
      subst (λ (l : Live). IsButPeer old.port.device.live l) (sym lives) told.1,
    )

kept_by : (refuses : Bool) (old new : State) → (refuses ≡ true → IsUntouched old new) → KeepsIf refuses old new
kept_by true old new keeps = keeps refl
kept_by false old new keeps = tt

kept : (old new : Served) (said : Local (ArrayVec ℕ)) (result : Result Note Refusal) → AnswersBoth old (Application said) result new → KeepsIf (is_refused result) old.port new.port
kept old new said (Ok note) is = kept_by (note_number note == 7) old.port new.port (λ refuses. untouched old new said note refuses is.1)
kept old new said (Err refusal) is = tt

outcome_by : (refuses : Bool) (result : Result Note Refusal) (before after : Reason) (old new : Served) (asked reported : Op) (answer : ℕ) → KeepsIf refuses old.port new.port
    → (IsUntouched old.port new.port → after ≡ before) → IsOutcomeBy refuses result after new asked answer reported → IsOutcomeBy refuses result before new asked answer reported
outcome_by true result before after old new asked reported answer keeps same is =
    (is.0, is.1 ∙ ap (λ (why : Reason). let op : Op = record asked { reason = reason_number why } in op) (same keeps))
outcome_by false result before after old new asked reported answer keeps same is = is

-- What the application said is handled, or refused for the reason that its state before gives.
pub said_with : (old new : Served) (said : Local (ArrayVec ℕ)) (result : Result Note Refusal) (before after : Reason) (asked reported : Op) (answer : ℕ)
    → AnswersBoth old (Application said) result new → (IsUntouched old.port new.port → after ≡ before) → IsOutcome result after new asked answer reported
    → IsSaid old said before asked answer new reported
said_with old new said result before after asked reported answer is same outcome =
    let keeps = kept old new said result is in
    (result, is, keeps, outcome_by (is_refused result) result before after old new asked reported answer keeps same outcome)

-- A reason that does not depend on the neighbour is that of the state before.
pub reason_before : (why : Station → Live → Reason) (read : device.State (RecordedFlash 4096)) (old new : State) (result : Reason)
    → ((station : Station) (live : Live) (peer : Option Peer) → why station (record live { rest = record live.rest { peer = peer } }) ≡ why station live)
    → read ≡ new.device → result ≡ why read.station read.live → IsUntouched old new → result ≡ why old.device.station old.device.live
reason_before why read old new result apart is found same =
    found ∙ (ap (λ (d : device.State (RecordedFlash 4096)). why d.station d.live) is
    ∙ (ap (λ (s : Station). why s new.device.live) same.0
    ∙ (ap (λ (l : Live). why old.device.station l) same.1 ∙ apart old.device.station old.device.live new.device.live.rest.peer)))
