-- What holds of both ends at each point of a run, and of the turns up to it.
use Rattle.std.proofs.Common.{◌≡◌, ◌⊎◌, inl, inr, ℕ, Bool, true, false, nat_eq, List, [], ◌∷◌, ◌++◌, length, drop, map, flat_map, Option, Some, None, option_map, if◌then◌else◌, refl, sym, ap, ◌∙◌}
use Rattle.std.specs.Prelude.{◌||◌, slice_get, unwrap_or}
use Rattle.std.specs.Cmp.Lexicographic.{pointwise}
use Rattle.std.specs.List.{AllByRecursion, list_any}
use Rattle.pn_values.specs.declared.mac.Mac.{Mac}
use Rattle.frame_codec.specs.declared.udp.Caller.{Caller}
use Rattle.rpc_core.specs.Call.{Asked as Called}
use Rattle.records.specs.declared.status.operation.Operation.{Operation}
use Rattle.records.specs.declared.status.operation.Operation.TheVariants as operation
use Rattle.records.specs.status.Operation.{operation_of}
use Rattle.records.specs.declared.writes.taken.TakenRecord.{TakenRecord}
use Rattle.connects.specs.requests.Request.{Request}
use Rattle.relations.specs.RelationState.{RelationState}
use Rattle.device_frames.specs.Heard.{Heard, Reported, Calls, Responds}
use Rattle.end_laws.specs.both.Small as small
use Rattle.end_laws.specs.both.Small.{Rules, Move, World}
use Rattle.end_laws.specs.both.Steps.{records_of}
use Rattle.end_laws.specs.device.Small.{Planned, asked_by, confirms, heard_as, link_of, phase_in, written_by}
use Rattle.both_ends.proofs.StartupEach.{each_at}
use Rattle.octets_law.specs.Octets.{statuses}
use Rattle.octets_law.proofs.CallPlaces.{name_for}
use Rattle.startup_octets.specs.StartUp.{IsIn, IsStartUp, Turn, Written, asking_at, names_at, sent_by}
use Rattle.startup_octets.proofs.DeviceTurn.{IsEarly, confirmed_none, early_same}
use Rattle.startup_octets.proofs.Exact.{written_of}
use Rattle.startup_octets.proofs.Lists.{IsParameterized, IsReadySince, IsTakenAt, named_at, names_more, parameterized_more, ready_more, sent_front, start_up}
use Rattle.startup_octets.proofs.SmallSteps.{Awaits, IsKeptFine, IsNoAccess, each_both}

-- ---- lists

pub each_so : {A : Type 0} (P R : A → Type 0) (some : List A) → ((one : A) → P one → R one) → AllByRecursion P some → AllByRecursion R some
each_so P R [] so all = tt
each_so P R (one ∷ some) so all = (so one all.0, each_so P R some so all.1)

pub any_front : (p : List ℕ → Bool) (some more : List (List ℕ)) → list_any p some ≡ true → list_any p (some ++ more) ≡ true
any_front p [] more is = absurd cc
any_front p (one ∷ some) more is = by_first (p one) (any_front p some more) is
  where
    by_first : (b : Bool) → (list_any p some ≡ true → list_any p (some ++ more) ≡ true) → b || list_any p some ≡ true → b || list_any p (some ++ more) ≡ true
    by_first true later e = refl
    by_first false later e = later e

pub any_behind : (p : List ℕ → Bool) (some more : List (List ℕ)) → list_any p more ≡ true → list_any p (some ++ more) ≡ true
any_behind p [] more is = is
any_behind p (one ∷ some) more is = by_first (p one) (any_behind p some more is)
  where
    by_first : (b : Bool) → list_any p (some ++ more) ≡ true → b || list_any p (some ++ more) ≡ true
    by_first true e = refl
    by_first false e = e

pub dropped : {A : Type 0} (front rest : List A) → drop (length front) (front ++ rest) ≡ rest
dropped [] rest = refl
dropped (one ∷ front) rest = dropped front rest

-- ---- which call it is

-- A call with this number is heard.
pub record IsCallHeard (heard : Heard) (sequence : ℕ) : Type 0 where
  pub caller : Caller
  pub address : List ℕ
  pub call : Called
  pub is : heard ≡ Reported caller address (Calls call)
  pub numbered : call.header.sequence ≡ sequence

same_sequence : (one other : ℕ) (a b : small.Ask) → small.Call one a ≡ small.Call other b → one ≡ other
same_sequence one other a b e = cc

written_sequence : (b : Bool) (one write other : ℕ) (ask : small.Ask) → written_by b one write ≡ small.Call other ask → one ≡ other
written_sequence true one write other ask e = same_sequence one other _ ask e
written_sequence false one write other ask e = same_sequence one other _ ask e

asked_sequence : (planned : Planned) (one other : ℕ) (blocks : List ℕ) (which : Option Operation) (ask : small.Ask) → asked_by planned one blocks which ≡ small.Call other ask → one ≡ other
asked_sequence planned one other blocks (Some operation.Connect) ask e = same_sequence one other _ ask e
asked_sequence planned one other blocks (Some operation.Write) ask e = written_sequence (planned one blocks) one _ other ask e
asked_sequence planned one other blocks (Some operation.Control) ask e = same_sequence one other _ ask e
asked_sequence planned one other blocks (Some operation.Release) ask e = same_sequence one other _ ask e
asked_sequence planned one other blocks (Some operation.Read) ask e = same_sequence one other _ ask e
asked_sequence planned one other blocks (Some operation.ReadImplicit) ask e = absurd cc
asked_sequence planned one other blocks None ask e = absurd cc

no_confirm : (b : Bool) (sequence : ℕ) (ask : small.Ask) → (if b then small.Confirms else small.Idle) ≡ small.Call sequence ask → ⊥
no_confirm true sequence ask e = cc
no_confirm false sequence ask e = cc

pub call_heard : (planned : Planned) (heard : Heard) (sequence : ℕ) (ask : small.Ask) → heard_as planned heard ≡ small.Call sequence ask → IsCallHeard heard sequence
call_heard planned (Reported caller address (Calls call)) sequence ask e = record {
  caller = caller;
  address = address;
  call = call;
  is = refl;
  numbered = asked_sequence planned call.header.sequence sequence (unwrap_or call.blocks []) (operation_of call.header.operation) ask e;
}
call_heard planned (Reported caller address (Responds response)) sequence ask e = absurd (no_confirm (confirms response) sequence ask e)
call_heard planned heard sequence ask e = absurd cc

-- ---- points

abbrev pub SmallWorld : Type 0
SmallWorld = World TakenRecord Request

abbrev pub SmallRules : Type 0
SmallRules = Rules TakenRecord Request

module _ (rules : SmallRules) (IsUnended : List ℕ → Type 0) (mac : Mac) (relation activity : List ℕ) where
  -- A frame says nothing to the device; or nothing to the controller, which sent it.
  abbrev pub IsTraced : List Turn → List ℕ → Type 0
  IsTraced turns frame = (rules.to_device frame ≡ small.Idle) ⊎ ((rules.to_controller frame ≡ small.Nothing) × IsIn frame (sent_by false turns))

  -- No ApplicationReady was sent yet, and no call after a plug; and nothing is asked of the application.
  pub record IsBefore (run : List (Move × SmallWorld)) (turns : List Turn) (point : SmallWorld) (link : Option RelationState) : Type 0 where
    pub unready : AllByRecursion (λ frame. rules.to_controller frame ≡ small.Readies → ⊥) point.sent
    pub idle : point.controller ≡ small.Exchanges → ⊥
    pub unawaited : AllByRecursion (λ (one : Move × SmallWorld). Awaits rules one.1.device → ⊥) run
    pub no_access : AllByRecursion (IsNoAccess rules) point.sent
    pub unended : AllByRecursion IsUnended point.sent
    pub unasked : point.device.asked ≡ None
    pub early : IsEarly mac relation turns link

  -- The parameters ended, and what the controller hears as ApplicationReady was sent since.
  pub record IsAfter (turns : List Turn) (point : SmallWorld) : Type 0 where
    pub taken : List TakenRecord
    pub since : IsParameterized mac relation turns (map written_of taken)
    pub whole : (frame : List ℕ) → rules.to_device frame ≡ small.Idle → rules.to_controller frame ≡ small.Readies → taken ≡ records_of rules
    pub ready : AllByRecursion (λ frame. rules.to_controller frame ≡ small.Readies → IsReadySince mac relation turns (map written_of taken) since frame) point.sent

  pub record IsPoint (run : List (Move × SmallWorld)) (turns : List Turn) (point : SmallWorld) (link : Option RelationState) : Type 0 where
    pub seen : point.device.link ≡ option_map link_of link
    pub traced : AllByRecursion (IsTraced turns) point.sent
    pub fine : IsKeptFine rules point.device.kept
    pub named : (answer : small.Kept) → point.device.kept ≡ Some answer → list_any (pointwise nat_eq (name_for activity answer.sequence)) (names_at mac turns) ≡ true
    pub asked : (sequence : ℕ) → point.device.asked ≡ Some sequence → list_any (pointwise nat_eq (name_for activity sequence)) (names_at mac turns) ≡ true
    pub history : IsBefore run turns point link ⊎ IsAfter turns point

  pub traced_more : (turns : List Turn) (turn : Turn) (frame : List ℕ) → IsTraced turns frame → IsTraced (turns ++ turn ∷ []) frame
  traced_more turns turn frame (inl idle) = inl idle
  traced_more turns turn frame (inr it) = inr (it.0, sent_front false frame turns (turn ∷ []) it.1)

  pub named_more : (turns : List Turn) (turn : Turn) (p : List ℕ → Bool) → list_any p (names_at mac turns) ≡ true → list_any p (names_at mac (turns ++ turn ∷ [])) ≡ true
  named_more turns turn p is = ap (list_any p) (names_more mac turns turn) ∙ any_front p (names_at mac turns) (named_at mac turn) is

  -- While its parameters are written, a relation does not wait.
  no_wait : (link one : small.RelationState TakenRecord Request) → Some link ≡ Some one → link ≡ one
  no_wait link one e = cc

  pub early_waits : (turns : List Turn) (device : small.Device TakenRecord Request) (link : Option RelationState) → IsEarly mac relation turns link → device.link ≡ option_map link_of link
      → Awaits rules device → ⊥
  early_waits turns device None early seen waits = let e = sym waits.has ∙ seen in absurd cc
  early_waits turns device (Some link) early seen waits =
      let same = no_wait waits.link (link_of link) (sym waits.has ∙ seen) in
      let phase = sym (ap phase_in early.0) ∙ (ap (λ (l : small.RelationState TakenRecord Request). l.phase) (sym same) ∙ waits.awaits) in
      absurd cc

  -- A turn in which nothing happens at either end.
  pub silent_taken : (turns : List Turn) (turn : Turn) → ((asked : List ℕ) → flat_map (statuses asked) (if turn.at_device then turn.sent else []) ≡ []) → IsTakenAt mac relation turns turn []
  silent_taken turns turn silent = inl (sym (confirmed_none relation (asking_at mac turn) (if turn.at_device then turn.sent else []) silent))

  pub same_point : (run : List (Move × SmallWorld)) (turns : List Turn) (point : SmallWorld) (link : Option RelationState) (move : Move) (turn : Turn) → turn.sent ≡ []
      → IsPoint run turns point link → IsPoint (run ++ (move, point) ∷ []) (turns ++ turn ∷ []) point link
  same_point run turns point link move turn silent it = record {
    seen = it.seen;
    traced = each_so _ _ point.sent (traced_more turns turn) it.traced;
    fine = it.fine;
    named = λ answer is. named_more turns turn _ (it.named answer is);
    asked = λ sequence is. named_more turns turn _ (it.asked sequence is);
    history = by_history it.history;
  }
    where
      nothing : (b : Bool) (asked : List ℕ) → flat_map (statuses asked) (if b then turn.sent else []) ≡ []
      nothing true asked = ap (flat_map (statuses asked)) silent
      nothing false asked = refl

      by_history : IsBefore run turns point link ⊎ IsAfter turns point → IsBefore (run ++ (move, point) ∷ []) (turns ++ turn ∷ []) point link ⊎ IsAfter (turns ++ turn ∷ []) point
      by_history (inl before) = inl (record {
        unready = before.unready;
        idle = before.idle;
        unawaited = each_both _ run ((move, point) ∷ []) before.unawaited (early_waits turns point.device link before.early it.seen, tt);
        no_access = before.no_access;
        unended = before.unended;
        unasked = before.unasked;
        early = early_same mac relation turns turn link before.early (silent_taken turns turn (nothing turn.at_device));
      })
      by_history (inr after) = inr (record {
        taken = after.taken;
        since = parameterized_more mac relation turns turn (map written_of after.taken) after.since;
        whole = after.whole;
        ready = each_so _ _ point.sent (λ frame so readies. ready_more mac relation turns turn (map written_of after.taken) after.since frame (so readies)) after.ready;
      })

  -- ---- what the point says of an ApplicationReady

  pub started_up : (run : List (Move × SmallWorld)) (turns : List Turn) (point : SmallWorld) (link : Option RelationState) (records : List Written) (frame : List ℕ) (number : ℕ)
      → IsPoint run turns point link → map written_of (records_of rules) ≡ records → slice_get point.sent number ≡ Some frame → rules.to_controller frame ≡ small.Readies
      → IsStartUp mac relation records turns frame
  started_up run turns point link records frame number it same there readies = by_history it.history
    where
      says_both : (frame : List ℕ) → IsTraced turns frame → rules.to_controller frame ≡ small.Readies → rules.to_device frame ≡ small.Idle
      says_both frame (inl idle) readies = idle
      says_both frame (inr it) readies = let e = sym it.0 ∙ readies in absurd cc

      by_history : IsBefore run turns point link ⊎ IsAfter turns point → IsStartUp mac relation records turns frame
      by_history (inl before) = absurd (each_at (λ frame. rules.to_controller frame ≡ small.Readies → ⊥) point.sent number frame before.unready there readies)
      by_history (inr after) =
          start_up mac relation turns (map written_of after.taken) records after.since frame
          (each_at (λ frame. rules.to_controller frame ≡ small.Readies → IsReadySince mac relation turns (map written_of after.taken) after.since frame) point.sent number frame after.ready there readies)
          (ap (map written_of) (after.whole frame (says_both frame (each_at (IsTraced turns) point.sent number frame it.traced there) readies) readies) ∙ same)
