-- The operations of a host, one after another: all steps that they make, and all frames that they fetch.
use Rattle.std.proofs.Common.{◌≡◌, ◌+◌, ◌<◌, ◌++◌, ℕ, get_or, length, take, Bool, true, false, List, [], ◌∷◌, Option, Some, None, refl, sym, ap, subst, ◌∙◌, arith}
use Rattle.std.specs.Prelude.{drop, map}
use Rattle.std.proofs.lemmas.List.{append-nil, append_assoc, append_cancel_left, map-append, take-append-drop, take_more}
use Rattle.controller_core.specs.declared.stored.event.Event.{Event}
use Rattle.controller_core.specs.stored.State.{Controlling}
use Rattle.controller_station.specs.Runs.{after, alone}
use Rattle.controller_station.specs.Served.{Served}
use Rattle.c_layout.specs.declared.op.Op.{Op}
use Rattle.controller_abi.specs.declared.operation.Operation.{Operation}
use Rattle.controller_abi.specs.declared.operation.Operation.TheVariants as operation
use Rattle.controller_abi.specs.Host.{AreFetched, AreServed, Entry, Runs, Shows, accepted_by, accepted_in, all_sent, asked_in, both, fetched_by, fetched_in, operation_in}
use Rattle.controller_abi.specs.Plays.{IsPlayed, IsTurn, Plays}
use Rattle.controller_abi.specs.Serves.{IsInput, IsPlace, Performs, ServesIf, with_next}
use Rattle.controller_abi.specs.State.{State}
use Rattle.controller_abi.proofs.HostTurns.{Turned, after_both, all_sent_both, turned}

-- ---- one after another

pub plays_more : (front : List Entry) (entry : Entry) (old between new : State) → Plays old front between → IsTurn between entry new → Plays old (front ++ entry ∷ []) new
plays_more [] entry old between new same turn = (new, subst (λ (p : State). IsTurn p entry new) same turn, refl)
plays_more (one ∷ front) entry old between new plays turn = (plays.0, plays.1, plays_more front entry plays.0 between new plays.2 turn)

plays_apart : (front back : List Entry) (old new : State) → Plays old (front ++ back) new → (between : State) × Plays old front between × Plays between back new
plays_apart [] back old new plays = (old, refl, plays)
plays_apart (one ∷ front) back old new plays =
    let more = plays_apart front back plays.0 new plays.2 in
    (more.0, (plays.0, plays.1, more.1), more.2)

-- ---- all steps and all frames

turn_is : (old : State) (entry : Entry) (new : State) → IsTurn old entry new → Turned (operation_in entry) old entry new
turn_is old entry new turn = turned old.is_started (operation_in entry) old entry new turn

runs_first : (old between new : State) (entry : Entry) (more : List Entry) → Turned (operation_in entry) old entry between → Runs between more new → Runs old (entry ∷ more) new
runs_first old between new entry more turn runs =
    let first : List Event = accepted_by (operation_in entry) entry in
    let rest : List Event = accepted_in more in
    let frame : List (List ℕ) = fetched_by (operation_in entry) entry in
    let frames : List (List ℕ) = all_sent (both old) first in
    record {
      steps = runs.steps ∙ ap (λ (s : Served). after s rest) turn.steps ∙ sym (after_both (both old) first rest);
      frames = append_assoc frame (fetched_in more) new.frames ∙ ap (λ (f : List (List ℕ)). frame ++ f) runs.frames
          ∙ sym (append_assoc frame between.frames (all_sent (both between) rest)) ∙ ap (λ (f : List (List ℕ)). f ++ all_sent (both between) rest) turn.frames
          ∙ append_assoc old.frames frames (all_sent (both between) rest) ∙ ap (λ (s : Served). old.frames ++ (frames ++ all_sent s rest)) turn.steps
          ∙ ap (λ (f : List (List ℕ)). old.frames ++ f) (sym (all_sent_both (both old) first rest));
      started = runs.started ∙ turn.started;
    }

pub runs_all : (entries : List Entry) (old new : State) → Plays old entries new → Runs old entries new
runs_all [] old new same = record {
  steps = ap both same;
  frames = ap (λ (p : State). p.frames) same ∙ sym (append-nil old.frames);
  started = ap (λ (p : State). p.is_started) same;
}
runs_all (entry ∷ more) old new plays = runs_first old plays.0 new entry more (turn_is old entry plays.0 plays.1) (runs_all more plays.0 new plays.2)

-- ---- each operation

pub served_all : (entries : List Entry) (old new : State) → Plays old entries new → AreServed old entries
served_all entries old new plays = λ before entry more is.
    let apart = plays_apart before (entry ∷ more) old new (subst (λ (e : List Entry). Plays old e new) is plays) in
    let turn = turn_is apart.0 entry apart.2.0 apart.2.1 in
    record {
      port = apart.0;
      runs = runs_all before old apart.0 apart.1;
      next = apart.2.0;
      serves = apart.2.1;
      refused = turn.refused;
      waits = turn.waits;
    }

-- ---- frames that were all fetched

none_by : (frames : List (List ℕ)) (asked reported : Op) → reported ≡ with_next frames asked → reported.work ≡ 0 → drop 1 frames ≡ []
none_by [] asked reported is none = refl
none_by (frame ∷ frames) asked reported is none = absurd (let three : reported.work ≡ 3 = ap (λ (o : Op). o.work) is in omega (arith, none, three))

none_waits : (is_started : Bool) (old : State) (entry : Entry) (new : State) → entry.answer ≡ 0 → entry.reported.work ≡ 0
    → ServesIf is_started (Some operation.Next) old entry.asked entry.given entry.answer new entry.reported → new.frames ≡ []
none_waits true old entry new done none is = ap (λ (p : State). p.frames) is.taken ∙ none_by old.frames entry.asked entry.reported is.handed none
none_waits false old entry new done none is = absurd (let late = is.0 in omega (arith, done, late))

last_none : (front back : List (List ℕ)) → front ++ back ≡ [] → back ≡ []
last_none [] back none = none
last_none (frame ∷ front) back none = absurd (cc none)

pub fetched_all : (entries : List Entry) (old new : State) → Plays old entries new → AreFetched entries
fetched_all entries old new plays = λ before fetch since entry more is finds quiet seven.
    let apart = plays_apart before (fetch ∷ (since ++ entry ∷ more)) old new (subst (λ (e : List Entry). Plays old e new) is plays) in
    let at : State = apart.0 in
    let then : State = apart.2.0 in
    let later = plays_apart since (entry ∷ more) then new apart.2.2 in
    let now : State = later.0 in
    let none : then.frames ≡ [] = none_waits at.is_started at fetch then finds.answered finds.none
    (subst (λ (w : Option Operation). ServesIf at.is_started w at fetch.asked fetch.given fetch.answer then fetch.reported) finds.fetch apart.2.1) in
    let runs = runs_all since then now later.1 in
    let still : now.frames ≡ [] = last_none (fetched_in since) now.frames
    (runs.frames ∙ ap (λ (f : List (List ℕ)). f ++ all_sent (both then) (accepted_in since)) none ∙ ap (all_sent (both then)) quiet) in
    (turn_is now entry later.2.0 later.2.1).waits seven still

-- ---- what is read

shown : (what : Option Operation) (port : State) (entry : Entry) (next : State) → Performs what port entry.asked entry.given entry.answer next entry.reported → Shows what port.controller entry
shown (Some operation.Frame) port entry next is = tt
shown (Some operation.Tick) port entry next is = tt
shown (Some operation.Give) port entry next is = tt
shown (Some operation.Next) port entry next is = tt
shown (Some operation.Value) port entry next is = λ place at. subst (λ (o : Option (ℕ × ℕ)). IsInput o port entry.asked entry.answer entry.reported) at is.1
shown (Some operation.State) port entry next is = is.2
shown (Some operation.Alarm) port entry next is = is.1
shown (Some operation.Stop) port entry next is = tt
shown (Some operation.Due) port entry next is = tt
shown (Some operation.Status) port entry next is = tt
shown (Some operation.Provider) port entry next is = tt
shown (Some operation.Conflicts) port entry next is = tt
shown (Some operation.Refusal) port entry next is = tt
shown (Some operation.ReadRecord) port entry next is = tt
shown (Some operation.WriteRecord) port entry next is = tt
shown (Some operation.Answer) port entry next is = tt
shown (Some operation.RefusedRecord) port entry next is = tt
shown (Some operation.Report) port entry next is = tt
shown (Some operation.Diagnoses) port entry next is = is.2
shown (Some operation.Diagnosis) port entry next is = is.1
shown (Some operation.Neighbour) port entry next is = tt
shown (Some operation.Place) port entry next is = λ place at. subst (λ (o : Option (ℕ × ℕ)). IsPlace o port entry.asked entry.answer entry.reported) at is.1
shown None port entry next is = tt

-- ---- the controller alone

abbrev Law : Type 0
Law = (served : Served) (events : List Event) → (after served events).controller ≡ alone served.controller events

pub alone_all : Law → (entries : List Entry) (old new : State) → Plays old entries new → new.controller ≡ alone old.controller (accepted_in entries)
alone_all law entries old new plays =
    ap (λ (s : Served). s.controller) (runs_all entries old new plays).steps ∙ law (both old) (accepted_in entries)

pub shown_all : Law → (before : List Entry) (entry : Entry) (more : List Entry) (old new : State) → Plays old (before ++ entry ∷ more) new → old.is_started ≡ true
    → Shows (operation_in entry) (alone old.controller (accepted_in before)) entry
shown_all law before entry more old new plays started =
    let apart = plays_apart before (entry ∷ more) old new plays in
    let port : State = apart.0 in
    let next : State = apart.2.0 in
    let is_started : port.is_started ≡ true = (runs_all before old port apart.1).started ∙ started in
    let performs : Performs (operation_in entry) port entry.asked entry.given entry.answer next entry.reported =
    subst (λ (b : Bool). ServesIf b (operation_in entry) port entry.asked entry.given entry.answer next entry.reported) is_started apart.2.1 in
    subst (λ (c : Controlling). Shows (operation_in entry) c entry) (alone_all law before old port apart.1) (shown (operation_in entry) port entry next performs)

-- ---- what the host learned

-- The entries are those that were played.
pub plays_told : (operations : List (Op × List ℕ)) (before now : List Entry) (are_all : Bool) (old new : State) → IsPlayed operations before now are_all old new
    → (entries : List Entry) → now ≡ before ++ entries → Plays old entries new
plays_told operations before now are_all old new played entries is =
    subst (λ (e : List Entry). Plays old e new) (append_cancel_left before played.entries entries (sym played.told ∙ is)) played.plays

-- ---- the operations so far

pub both_same : {A B : Type 0} (one other : A) (first second : B) → one ≡ other → first ≡ second → ◌≡◌ {A = A × B} (one, first) (other, second)
both_same {A} {B} one other first second left right =
    subst (λ (a : A). ◌≡◌ {A = A × B} (one, first) (a, second)) left (subst (λ (b : B). ◌≡◌ {A = A × B} (one, first) (one, b)) right refl)

module _ {A : Type 0} (written : A → Op × List ℕ) (operations : List A) where
  pub asked_more : (at : ℕ) (none : A) (entries : List Entry) (entry : Entry) → at < length operations → map written (take at operations) ≡ asked_in entries
      → (entry.asked, entry.given) ≡ written (get_or operations at none) → map written (take (at + 1) operations) ≡ asked_in (entries ++ entry ∷ [])
  asked_more at none entries entry low so_far same =
      ap (map written) (take_more operations at none low) ∙ map-append written (take at operations) (get_or operations at none ∷ [])
      ∙ ap (λ (l : List (Op × List ℕ)). l ++ written (get_or operations at none) ∷ []) so_far
      ∙ ap (λ (o : Op × List ℕ). asked_in entries ++ o ∷ []) (sym same)
      ∙ sym (map-append (λ (e : Entry). (e.asked, e.given)) entries (entry ∷ []))

  pub asked_apart : (at : ℕ) (entries : List Entry) → map written (take at operations) ≡ asked_in entries → map written operations ≡ asked_in entries ++ map written (drop at operations)
  asked_apart at entries so_far =
      ap (map written) (sym (take-append-drop at operations)) ∙ map-append written (take at operations) (drop at operations)
      ∙ ap (λ (l : List (Op × List ℕ)). l ++ map written (drop at operations)) so_far
