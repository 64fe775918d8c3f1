-- When the parameters end for the first time, the plan's records were accepted, in order, each once. It follows from the law of
-- a start-up: the run could go on with an ApplicationReady that the controller answers.
use Rattle.std.proofs.Common.{◌≡◌, inl, inr, ℕ, zero, suc, false, List, [], ◌∷◌, ◌++◌, length, Some, refl, sym, ap, subst, ◌∙◌, append_assoc}
use Rattle.std.proofs.lemmas.List.{append-nil}
use Rattle.std.specs.Prelude.{slice_get}
use Rattle.std.specs.List.{AllByRecursion}
use Rattle.end_laws.specs.both.Small.{AtController, AtDevice, ComesToController, ComesToDevice, Exchanges, Idle, Move, Readies, RelationState, Rules, World}
use Rattle.end_laws.specs.both.Runs.{AreSteps, end_of}
use Rattle.end_laws.specs.both.StartUp.{Begins, IsRun, WasHanded, last_of}
use Rattle.end_laws.specs.both.Steps.{Steps, records_of}
use Rattle.startup_octets.proofs.SmallSteps.{Awaits, each_both}

there_last : {A : Type 0} (all : List A) (one : A) → slice_get (all ++ one ∷ []) (length all) ≡ Some one
there_last [] one = refl
there_last (first ∷ all) one = there_last all one

each_split : {A : Type 0} (P : A → Type 0) (front : List A) (one : A) (behind : List A) → AllByRecursion P (front ++ one ∷ behind) → P one
each_split P [] one behind all = all.0
each_split P (first ∷ front) one behind all = each_split P front one behind all.1

each_so : {A : Type 0} (P R : A → Type 0) (some : List A) → ((one : A) → P one → R one) → AllByRecursion P some → AllByRecursion R some
each_so P R [] so all = tt
each_so P R (one ∷ some) so all = (so one all.0, each_so P R some so all.1)

module _ {T Q : Type 0} (rules : Rules T Q) where
  steps_behind : (from : World T Q) (run more : List (Move × World T Q)) → AreSteps (Steps rules) from run → AreSteps (Steps rules) (end_of from run) more → AreSteps (Steps rules) from (run ++ more)
  steps_behind from [] more all others = others
  steps_behind from (one ∷ run) more all others = (all.0, steps_behind one.1 run more all.1 others)

  end_behind : (from : World T Q) (run : List (Move × World T Q)) (one : Move × World T Q) → end_of from (run ++ one ∷ []) ≡ one.1
  end_behind from [] one = refl
  end_behind from (first ∷ run) one = end_behind first.1 run one

  end_two : (from : World T Q) (run : List (Move × World T Q)) (one other : Move × World T Q) → end_of from (run ++ one ∷ other ∷ []) ≡ other.1
  end_two from [] one other = refl
  end_two from (first ∷ run) one other = end_two first.1 run one other

  -- The law of a start-up.
  abbrev pub IsHandedBy : Type 0
  IsHandedBy = (first : World T Q) (run : List (Move × World T Q)) → Begins rules first → IsRun rules first run → (last_of first run).controller ≡ Exchanges → WasHanded rules first run

  -- ---- a frame stays in the list of what was sent

  slice_front : (some more : List (List ℕ)) (number : ℕ) (frame : List ℕ) → slice_get some number ≡ Some frame → slice_get (some ++ more) number ≡ Some frame
  slice_front [] more number frame there = absurd cc
  slice_front (one ∷ some) more zero frame there = there
  slice_front (one ∷ some) more (suc number) frame there = slice_front some more number frame there

  abbrev IsThere : World T Q → ℕ → List ℕ → Type 0
  IsThere w number frame = slice_get w.sent number ≡ Some frame

  same_there : (before after : World T Q) (number : ℕ) (frame : List ℕ) → after ≡ before → IsThere before number frame → IsThere after number frame
  same_there before after number frame same there = subst (λ (w : World T Q). IsThere w number frame) (sym same) there

  more_there : (before after : World T Q) (frames : List (List ℕ)) (number : ℕ) (frame : List ℕ) → after.sent ≡ before.sent ++ frames → IsThere before number frame → IsThere after number frame
  more_there before after frames number frame behind there = ap (λ (l : List (List ℕ)). slice_get l number) behind ∙ slice_front before.sent frames number frame there

  step_there : (before after : World T Q) (move : Move) (number : ℕ) (frame : List ℕ) → Steps rules before move after → IsThere before number frame → IsThere after number frame
  step_there before after (ComesToDevice which) number frame (inl same) there = same_there before after number frame same there
  step_there before after (ComesToDevice which) number frame (inr comes) there = more_there before after comes.steps.frames number frame comes.steps.behind there
  step_there before after (ComesToController which) number frame (inl same) there = same_there before after number frame same there
  step_there before after (ComesToController which) number frame (inr comes) there = more_there before after comes.steps.frames number frame comes.steps.behind there
  step_there before after AtDevice number frame (inl same) there = same_there before after number frame same there
  step_there before after AtDevice number frame (inr steps) there = more_there before after steps.frames number frame steps.behind there
  step_there before after AtController number frame (inl same) there = same_there before after number frame same there
  step_there before after AtController number frame (inr steps) there = more_there before after steps.frames number frame steps.behind there

  run_there : (from : World T Q) (run : List (Move × World T Q)) (number : ℕ) (frame : List ℕ) → AreSteps (Steps rules) from run → IsThere from number frame → IsThere (end_of from run) number frame
  run_there from [] number frame steps there = there
  run_there from (one ∷ run) number frame steps there = run_there one.1 run number frame steps.1 (step_there from one.1 one.0 number frame steps.0 there)

  front_there : (from : World T Q) (front behind : List (Move × World T Q)) (number : ℕ) (frame : List ℕ) → AreSteps (Steps rules) from (front ++ behind) → IsThere (end_of from front) number frame
      → IsThere (end_of from (front ++ behind)) number frame
  front_there from [] behind number frame steps there = run_there from behind number frame steps there
  front_there from (one ∷ front) behind number frame steps there = front_there one.1 front behind number frame steps.1 there

  -- the ApplicationReady that the controller received
  pub handed_there : (first : World T Q) (run : List (Move × World T Q)) → IsRun rules first run → (handed : WasHanded rules first run)
      → slice_get (last_of first run).sent handed.number ≡ Some handed.frame
  handed_there first run steps handed =
      let behind : List (Move × World T Q) = (ComesToController handed.number, handed.point) ∷ handed.later in
      subst (λ (l : List (Move × World T Q)). IsThere (end_of first l) handed.number handed.frame) (sym handed.all)
      (front_there first handed.before behind handed.number handed.frame (subst (λ (l : List (Move × World T Q)). AreSteps (Steps rules) first l) handed.all steps) handed.there)

  some_link : (one other : RelationState T Q) → Some one ≡ Some other → one ≡ other
  some_link one other e = cc

  module _ (law : IsHandedBy) (first : World T Q) (begins : Begins rules first) (front : List (Move × World T Q)) (move : Move) (now : World T Q)
      (unawaited : AllByRecursion (λ (one : Move × World T Q). Awaits rules one.1.device → ⊥) front) (runs : IsRun rules first (front ++ (move, now) ∷ []))
      (waits : Awaits rules now.device) (frame : List ℕ) (idle : rules.to_device frame ≡ Idle) (readies : rules.to_controller frame ≡ Readies) where
    abbrev run : List (Move × World T Q)
    run = front ++ (move, now) ∷ []

    -- The device sends it again, and it comes to the controller.
    abbrev sends : World T Q
    sends = record { device = now.device; controller = now.controller; sent = now.sent ++ frame ∷ [] }

    abbrev comes : World T Q
    comes = record { device = now.device; controller = Exchanges; sent = now.sent ++ frame ∷ [] }

    abbrev more : List (Move × World T Q)
    more = (AtDevice, sends) ∷ (ComesToController (length now.sent), comes) ∷ []

    first_step : Steps rules now AtDevice sends
    first_step = inr (record {
      frames = frame ∷ [];
      steps = inl (record {
        keeps = refl;
        link = inl refl;
        sent = (inr (record { to_device = idle; to_controller = inr readies; link = waits.link; has = waits.has; awaits = waits.awaits }), tt);
        asked = inl refl;
      });
      controller = refl;
      behind = refl;
    })

    next_step : Steps rules sends (ComesToController (length now.sent)) comes
    next_step = inr (record {
      frame = frame;
      there = there_last now.sent frame;
      steps = record {
        frames = [];
        steps = record { moves = inr (inr (inr (inr (inl (readies, refl))))); sent = tt };
        device = refl;
        behind = sym (append-nil (now.sent ++ frame ∷ []));
      };
    })

    goes_on : IsRun rules first (run ++ more)
    goes_on = steps_behind first run more runs
        (subst (λ (w : World T Q). AreSteps (Steps rules) w more) (sym (end_behind first front (move, now))) (first_step, (next_step, tt)))

    -- At each point that waits, the relation is this one.
    abbrev IsThis : Move × World T Q → Type 0
    IsThis one = Awaits rules one.1.device → one.1.device.link ≡ Some waits.link

    all_this : AllByRecursion IsThis (run ++ more)
    all_this = each_both IsThis run more
        (each_both IsThis front ((move, now) ∷ []) (each_so _ IsThis front (λ one no a. absurd (no a)) unawaited) ((λ _. waits.has), tt))
        ((λ _. waits.has), ((λ _. waits.has), tt))

    pub taken_whole : rules.skips ≡ false → waits.link.taken ≡ records_of rules
    taken_whole strict =
        let handed = law first (run ++ more) begins goes_on (ap (λ (w : World T Q). w.controller) (end_two first run (AtDevice, sends) (ComesToController (length now.sent), comes))) in
        let was = handed.sent in
        let parts : run ++ more ≡ was.before ++ (was.move, was.point) ∷ (was.later ++ (ComesToController handed.number, handed.point) ∷ handed.later) =
        handed.all ∙ ap (λ l. l ++ (ComesToController handed.number, handed.point) ∷ handed.later) was.all
        ∙ append_assoc was.before ((was.move, was.point) ∷ was.later) ((ComesToController handed.number, handed.point) ∷ handed.later) in
        let same = each_split IsThis was.before (was.move, was.point) _ (subst (λ (l : List (Move × World T Q)). AllByRecursion IsThis l) parts all_this)
        (record { link = was.link; has = was.has; awaits = was.awaits }) in
        ap (λ (l : RelationState T Q). l.taken) (some_link waits.link was.link (sym same ∙ was.has)) ∙ was.taken strict
