-- The law of outputs.
use Rattle.std.proofs.Common.{◌≡◌, ◌⊎◌, inl, inr, ℕ, suc, Bool, true, false, List, [], ◌∷◌, ◌++◌, Option, Some, None, refl, sym, ap, subst, ◌∙◌}
use Rattle.std.specs.List.{AllByRecursion}
use Rattle.std.specs.Prelude.{slice_get}
use Rattle.end_laws.specs.both.Small.{Move, ComesToDevice, ComesToController, AtDevice, AtController, IsByController}
use Rattle.end_laws.specs.both.Outputs.{Outputs, Shown, BringsNone, Shows, ShowsAtDevice, GivesAtController, BringsTo, ShowsBehind, IsShownRun, shown_last, ShowsNone, ComesFromOne, AreAsGiven}
use Rattle.end_laws.proofs.BothEach.{each_at, each_behind, each_so}
use Rattle.end_laws.proofs.BothRuns.{holds_behind_run, later_on}

some_is : {A : Type 0} (x y : A) → Some x ≡ Some y → x ≡ y
some_is x y e = cc

none_is : {A : Type 0} (x : A) (o : Option A) → o ≡ None → o ≡ Some x → ⊥
none_is x o e f = absurd cc

module _ {O V : Type 0} (rules : Outputs O V) where
  -- These octets were sent in this frame: `Sent` says that they were sent at an earlier point, and `Came` that they
  -- were delivered to the device since.
  abbrev IsBrought : (List ℕ → List ℕ → Type 0) → List ℕ → Type 0
  IsBrought Sent frame = (octets : List ℕ) → rules.brought_by frame ≡ Some octets → Sent frame octets

  -- what is shown comes from octets that were delivered
  pub record IsOf (Came : List ℕ → Type 0) (outputs : O) : Type 0 where
    pub octets : List ℕ
    pub came : Came octets
    pub shown : outputs ≡ rules.shown_by octets

  abbrev IsShown : (List ℕ → Type 0) → Bool → O → Type 0
  IsShown Came false outputs = outputs ≡ rules.zeros
  IsShown Came true outputs = IsOf Came outputs

  record IsKept (Sent : List ℕ → List ℕ → Type 0) (Came : List ℕ → Type 0) (w : Shown O V) : Type 0 where
    all : AllByRecursion (IsBrought Sent) w.sent
    shown : IsShown Came w.accepted w.outputs

  -- frames that bring no outputs bring none that were not sent
  none_brought : (Sent : List ℕ → List ℕ → Type 0) (frames : List (List ℕ)) → AllByRecursion (BringsNone rules) frames → AllByRecursion (IsBrought Sent) frames
  none_brought Sent frames all =
      each_so (BringsNone rules) (IsBrought Sent) (λ frame none octets is. absurd (none_is octets (rules.brought_by frame) none is)) frames all

  module _ (Sent SentNow : List ℕ → List ℕ → Type 0) (Came CameNow : List ℕ → Type 0) (sent_on : (frame octets : List ℕ) → Sent frame octets → SentNow frame octets)
      (came_on : (octets : List ℕ) → Came octets → CameNow octets) where
    all_on : (frames : List (List ℕ)) → AllByRecursion (IsBrought Sent) frames → AllByRecursion (IsBrought SentNow) frames
    all_on frames all = each_so (IsBrought Sent) (IsBrought SentNow) (λ frame brought octets is. sent_on frame octets (brought octets is)) frames all

    shown_on : (accepted : Bool) (outputs : O) → IsShown Came accepted outputs → IsShown CameNow accepted outputs
    shown_on false outputs shown = shown
    shown_on true outputs shown = record { octets = shown.octets; came = came_on shown.octets shown.came; shown = shown.shown }

    given_brought : (frame octets now : List ℕ) → (rules.brought_by frame ≡ Some now → SentNow frame now) → BringsNone rules frame ⊎ (rules.brought_by frame ≡ Some now)
        → rules.brought_by frame ≡ Some octets → SentNow frame octets
    given_brought frame octets now sent (inl none) is = absurd (none_is octets (rules.brought_by frame) none is)
    given_brought frame octets now sent (inr brings) is = subst (λ (o : List ℕ). SentNow frame o) (some_is now octets (sym brings ∙ is)) (sent brings)

    all_given : (now : List ℕ) (frames : List (List ℕ))
        → ((number : ℕ) (frame : List ℕ) → slice_get frames number ≡ Some frame → rules.brought_by frame ≡ Some now → SentNow frame now)
        → AllByRecursion (λ frame. BringsNone rules frame ⊎ (rules.brought_by frame ≡ Some now)) frames → AllByRecursion (IsBrought SentNow) frames
    all_given now [] sent all = tt
    all_given now (frame ∷ frames) sent all = (
      λ octets is. given_brought frame octets now (λ brings. sent 0 frame refl brings) all.0 is,
      all_given now frames (λ number other there brings. sent (suc number) other there brings) all.1,
    )

    module _ (w v : Shown O V) (kept : IsKept Sent Came w) where
      rests : v ≡ w → IsKept SentNow CameNow v
      rests same = subst (λ (u : Shown O V). IsKept SentNow CameNow u) (sym same) (record { all = all_on w.sent kept.all; shown = shown_on w.accepted w.outputs kept.shown })

      shows_by : (brought : Option (List ℕ)) → ((octets : List ℕ) → brought ≡ Some octets → CameNow octets) → Shows rules brought w v → IsShown CameNow v.accepted v.outputs
      shows_by brought there (inl same) =
          subst (λ (b : Bool). IsShown CameNow b v.outputs) (sym same.0)
          (subst (λ (o : O). IsShown CameNow w.accepted o) (sym same.1) (shown_on w.accepted w.outputs kept.shown))
      shows_by brought there (inr (inl none)) = subst (λ (b : Bool). IsShown CameNow b v.outputs) (sym none.0) none.1
      shows_by brought there (inr (inr accepts)) =
          subst (λ (b : Bool). IsShown CameNow b v.outputs) (sym accepts.accepted)
          (record { octets = accepts.octets; came = there accepts.octets accepts.brings; shown = accepts.shown })

      at_device : (brought : Option (List ℕ)) → ((octets : List ℕ) → brought ≡ Some octets → CameNow octets) → ShowsAtDevice rules brought w v → IsKept SentNow CameNow v
      at_device brought there steps = record {
        all = subst (λ (fs : List (List ℕ)). AllByRecursion (IsBrought SentNow) fs) (sym steps.behind)
            (each_behind (IsBrought SentNow) w.sent steps.frames (all_on w.sent kept.all) (none_brought SentNow steps.frames steps.none));
        shown = shows_by brought there steps.shows;
      }

      at_controller : ((frames : List (List ℕ)) → v.sent ≡ w.sent ++ frames → (number : ℕ) (frame : List ℕ) → slice_get frames number ≡ Some frame
          → rules.brought_by frame ≡ Some (rules.octets_of v.given) → SentNow frame (rules.octets_of v.given)) → GivesAtController rules w v → IsKept SentNow CameNow v
      at_controller sent steps = record {
        all = subst (λ (fs : List (List ℕ)). AllByRecursion (IsBrought SentNow) fs) (sym steps.behind)
            (each_behind (IsBrought SentNow) w.sent steps.frames (all_on w.sent kept.all) (all_given (rules.octets_of v.given) steps.frames (sent steps.frames steps.behind) steps.brings));
        shown = subst (λ (b : Bool). IsShown CameNow b v.outputs) (sym steps.accepted)
            (subst (λ (o : O). IsShown CameNow w.accepted o) (sym steps.outputs) (shown_on w.accepted w.outputs kept.shown));
      }

  module _ (Sent SentNow : List ℕ → List ℕ → Type 0) (Came CameNow : List ℕ → Type 0) (sent_on : (frame octets : List ℕ) → Sent frame octets → SentNow frame octets)
      (came_on : (octets : List ℕ) → Came octets → CameNow octets) (move : Move) (w v : Shown O V) (kept : IsKept Sent Came w)
      (came : (number : ℕ) → move ≡ ComesToDevice number → (frame octets : List ℕ) → slice_get w.sent number ≡ Some frame → Sent frame octets → CameNow octets)
      (sent : IsByController move → (frames : List (List ℕ)) → v.sent ≡ w.sent ++ frames → (number : ℕ) (frame : List ℕ) → slice_get frames number ≡ Some frame
      → rules.brought_by frame ≡ Some (rules.octets_of v.given) → SentNow frame (rules.octets_of v.given)) where
    comes : (number : ℕ) → move ≡ ComesToDevice number → (v ≡ w) ⊎ BringsTo rules number w v → IsKept SentNow CameNow v
    comes number is (inl same) = rests Sent SentNow Came CameNow sent_on came_on w v kept same
    comes number is (inr brings) =
        at_device Sent SentNow Came CameNow sent_on came_on w v kept (rules.brought_by brings.frame)
        (λ octets brought. came number is brings.frame octets brings.there (each_at (IsBrought Sent) w.sent number brings.frame kept.all brings.there octets brought)) brings.steps

    alone : (v ≡ w) ⊎ ShowsAtDevice rules None w v → IsKept SentNow CameNow v
    alone (inl same) = rests Sent SentNow Came CameNow sent_on came_on w v kept same
    alone (inr steps) = at_device Sent SentNow Came CameNow sent_on came_on w v kept None (λ octets is. absurd (none_is octets None refl is)) steps

    gives : IsByController move → (v ≡ w) ⊎ GivesAtController rules w v → IsKept SentNow CameNow v
    gives by (inl same) = rests Sent SentNow Came CameNow sent_on came_on w v kept same
    gives by (inr steps) = at_controller Sent SentNow Came CameNow sent_on came_on w v kept (sent by) steps

  kept_behind : (Sent SentNow : List ℕ → List ℕ → Type 0) (Came CameNow : List ℕ → Type 0) (sent_on : (frame octets : List ℕ) → Sent frame octets → SentNow frame octets)
      (came_on : (octets : List ℕ) → Came octets → CameNow octets) (move : Move) (w v : Shown O V) (kept : IsKept Sent Came w)
      (came : (number : ℕ) → move ≡ ComesToDevice number → (frame octets : List ℕ) → slice_get w.sent number ≡ Some frame → Sent frame octets → CameNow octets)
      (sent : IsByController move → (frames : List (List ℕ)) → v.sent ≡ w.sent ++ frames → (number : ℕ) (frame : List ℕ) → slice_get frames number ≡ Some frame
      → rules.brought_by frame ≡ Some (rules.octets_of v.given) → SentNow frame (rules.octets_of v.given))
      → ShowsBehind rules w move v → IsKept SentNow CameNow v
  kept_behind Sent SentNow Came CameNow sent_on came_on (ComesToDevice number) w v kept came sent steps =
      comes Sent SentNow Came CameNow sent_on came_on (ComesToDevice number) w v kept came sent number refl steps
  kept_behind Sent SentNow Came CameNow sent_on came_on (ComesToController number) w v kept came sent steps =
      gives Sent SentNow Came CameNow sent_on came_on (ComesToController number) w v kept came sent tt steps
  kept_behind Sent SentNow Came CameNow sent_on came_on AtDevice w v kept came sent steps = alone Sent SentNow Came CameNow sent_on came_on AtDevice w v kept came sent steps
  kept_behind Sent SentNow Came CameNow sent_on came_on AtController w v kept came sent steps = gives Sent SentNow Came CameNow sent_on came_on AtController w v kept came sent tt steps

  -- ---- any list of moves

  -- the end of a run, from one of its points on
  end_behind : (first : Shown O V) (before : List (Move × Shown O V)) (one : Move × Shown O V) (later : List (Move × Shown O V))
      → shown_last first (before ++ one ∷ later) ≡ shown_last one.1 later
  end_behind first [] one later = refl
  end_behind first (other ∷ before) one later = end_behind other.1 before one later

  module _ (first : Shown O V) where
    -- at an earlier point the controller sent this frame, which brings these octets: the values set then
    record WasGiven (run : List (Move × Shown O V)) (frame octets : List ℕ) : Type 0 where
      before : List (Move × Shown O V)
      move : Move
      point : Shown O V
      later : List (Move × Shown O V)
      all : run ≡ before ++ (move, point) ∷ later
      by_controller : IsByController move
      frames : List (List ℕ)
      behind : point.sent ≡ (shown_last first before).sent ++ frames
      number : ℕ
      sent : slice_get frames number ≡ Some frame
      brings : rules.brought_by frame ≡ Some (rules.octets_of point.given)
      is : octets ≡ rules.octets_of point.given

    -- what is shown of these octets comes from one frame
    abbrev HasCome : List (Move × Shown O V) → List ℕ → Type 0
    HasCome run octets = ComesFromOne rules first run (rules.shown_by octets)

    given_on : (run : List (Move × Shown O V)) (one : Move × Shown O V) (frame octets : List ℕ) → WasGiven run frame octets → WasGiven (run ++ one ∷ []) frame octets
    given_on run one frame octets was = record {
      before = was.before;
      move = was.move;
      point = was.point;
      later = was.later ++ one ∷ [];
      all = later_on run was.before was.later (was.move, was.point) one was.all;
      by_controller = was.by_controller;
      frames = was.frames;
      behind = was.behind;
      number = was.number;
      sent = was.sent;
      brings = was.brings;
      is = was.is;
    }

    come_on : (run : List (Move × Shown O V)) (one : Move × Shown O V) (outputs : O) → ComesFromOne rules first run outputs → ComesFromOne rules first (run ++ one ∷ []) outputs
    come_on run one outputs was = record {
      before = was.before;
      move = was.move;
      point = was.point;
      later = was.later ++ one ∷ [];
      all = later_on run was.before was.later (was.move, was.point) one was.all;
      by_controller = was.by_controller;
      frame = was.frame;
      frames = was.frames;
      behind = was.behind;
      number = was.number;
      sent = was.sent;
      brings = was.brings;
      between = was.between;
      came = was.came;
      next = was.next;
      others = was.others ++ one ∷ [];
      since = later_on was.later was.between was.others (ComesToDevice was.came, was.next) one was.since;
      there = was.there;
      shown = was.shown;
    }

    -- a frame is delivered to the device now
    comes_now : (run : List (Move × Shown O V)) (one : Move × Shown O V) (number : ℕ) → one.0 ≡ ComesToDevice number → (frame octets : List ℕ)
        → slice_get (shown_last first run).sent number ≡ Some frame → WasGiven run frame octets → ComesFromOne rules first (run ++ one ∷ []) (rules.shown_by octets)
    comes_now run one number is frame octets there was = record {
      before = was.before;
      move = was.move;
      point = was.point;
      later = was.later ++ one ∷ [];
      all = later_on run was.before was.later (was.move, was.point) one was.all;
      by_controller = was.by_controller;
      frame = frame;
      frames = was.frames;
      behind = was.behind;
      number = was.number;
      sent = was.sent;
      brings = was.brings;
      between = was.later;
      came = number;
      next = one.1;
      others = [];
      since = ap (λ (m : Move). was.later ++ (m, one.1) ∷ []) is;
      there = ap (λ (w : Shown O V). slice_get w.sent number)
          (sym (ap (λ (r : List (Move × Shown O V)). shown_last first r) was.all ∙ end_behind first was.before (was.move, was.point) was.later)) ∙ there;
      shown = ap (λ (xs : List ℕ). rules.shown_by xs) was.is;
    }

    kept_more : (run : List (Move × Shown O V)) (one : Move × Shown O V) → IsKept (WasGiven run) (HasCome run) (shown_last first run) → ShowsBehind rules (shown_last first run) one.0 one.1
        → IsKept (WasGiven (run ++ one ∷ [])) (HasCome (run ++ one ∷ [])) one.1
    kept_more run one kept steps =
        kept_behind (WasGiven run) (WasGiven (run ++ one ∷ [])) (HasCome run) (HasCome (run ++ one ∷ [])) (given_on run one) (λ octets. come_on run one (rules.shown_by octets))
        one.0 (shown_last first run) one.1 kept (comes_now run one)
        (λ by frames behind number frame there brings. record {
          before = run;
          move = one.0;
          point = one.1;
          later = [];
          all = refl;
          by_controller = by;
          frames = frames;
          behind = behind;
          number = number;
          sent = there;
          brings = brings;
          is = refl;
        }) steps

    kept_first : ShowsNone rules first → IsKept (WasGiven []) (HasCome []) first
    kept_first none = record {
      all = none_brought (WasGiven []) first.sent none.none;
      shown = subst (λ (b : Bool). IsShown (HasCome []) b first.outputs) (sym none.unaccepted) none.zeros;
    }

    as_given : (run : List (Move × Shown O V)) (accepted : Bool) (outputs : O) → IsShown (HasCome run) accepted outputs → AreAsGiven rules first run accepted outputs
    as_given run false outputs shown = shown
    as_given run true outputs shown = subst (λ (o : O). ComesFromOne rules first run o) (sym shown.shown) shown.came

    pub are_as_given : (run : List (Move × Shown O V)) → ShowsNone rules first → IsShownRun rules first run
        → AreAsGiven rules first run (shown_last first run).accepted (shown_last first run).outputs
    are_as_given run none steps =
        as_given run (shown_last first run).accepted (shown_last first run).outputs
        (holds_behind_run (ShowsBehind rules) first (λ before w. IsKept (WasGiven before) (HasCome before) w) kept_more run (kept_first none) steps).shown
