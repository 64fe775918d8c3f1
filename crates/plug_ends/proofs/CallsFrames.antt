-- The frames of both ends, over small steps: a call that is new for the device is the last one of the controller, or ends parameters or
-- the relation.
use Rattle.std.proofs.Common.{◌≡◌, ◌⊎◌, inl, inr, ◌≤◌, ◌<◌, ◌++◌, ℕ, Bool, true, List, [], ◌∷◌, Option, Some, None, sym, ap, subst, ◌∙◌, arith}
use Rattle.std.specs.List.{AllByRecursion}
use Rattle.end_laws.specs.both.Small.{Answers, Ask, Call, Confirms, Device, Idle, Kept, Nothing, Parameterized, Readies, Releases, Reply, Rules, ToDevice}
use Rattle.end_laws.specs.both.Steps.{DeviceSteps, GoesBy, IsAgain, IsConfirmed, IsDull, IsNew, IsReady, SaysAtMost}

-- ---- the last response

-- the device answered this call, or a later one
abbrev pub Covers : ℕ → Option Kept → Type 0
Covers sequence None = ⊥
Covers sequence (Some kept) = sequence ≤ kept.sequence

pub covers_old : (sequence : ℕ) (kept : Option Kept) → Covers sequence kept → IsNew sequence kept → ⊥
covers_old sequence None covers is_new = covers
covers_old sequence (Some kept) covers is_new = omega arith

-- it is the same, or that of a new call
abbrev pub Grows : Option Kept → Option Kept → Type 0
Grows before after = (after ≡ before) ⊎ ((answer : Kept) × (after ≡ Some answer) × IsNew answer.sequence before)

pub grows_new : (before after : Option Kept) → Grows before after → (sequence : ℕ) → IsNew sequence after → IsNew sequence before
grows_new before after (inl same) sequence is_new = subst (λ (k : Option Kept). IsNew sequence k) same is_new
grows_new before after (inr more) sequence is_new = by_kept before more.2 (subst (λ (k : Option Kept). IsNew sequence k) more.1 is_new)
  where
    by_kept : (kept : Option Kept) → IsNew more.0.sequence kept → more.0.sequence < sequence → IsNew sequence kept
    by_kept None one other = tt
    by_kept (Some kept) one other = omega arith

grows_covers : (before after : Option Kept) → Grows before after → (sequence : ℕ) → Covers sequence before → Covers sequence after
grows_covers before after (inl same) sequence covers = subst (λ (k : Option Kept). Covers sequence k) (sym same) covers
grows_covers before after (inr more) sequence covers = subst (λ (k : Option Kept). Covers sequence k) (sym more.1) (by_kept before more.2 covers)
  where
    by_kept : (kept : Option Kept) → IsNew more.0.sequence kept → Covers sequence kept → sequence ≤ more.0.sequence
    by_kept None one other = absurd other
    by_kept (Some kept) one other = omega arith

pub idle_call : (sequence : ℕ) (ask : Ask) → Idle ≡ Call sequence ask → ⊥
idle_call sequence ask e = absurd cc

pub nothing_answers : (sequence : ℕ) (reply : Reply) → Nothing ≡ Answers sequence reply → ⊥
nothing_answers sequence reply e = absurd cc

pub readies_answers : (sequence : ℕ) (reply : Reply) → Readies ≡ Answers sequence reply → ⊥
readies_answers sequence reply e = absurd cc

pub answers_same : (one other : ℕ) (first second : Reply) → Answers one first ≡ Answers other second → one ≡ other
answers_same one other first second e = cc

some_kept : (one other : Kept) → Some one ≡ Some other → one ≡ other
some_kept one other e = cc

all_after : {A : Type 0} (P : A → Type 0) (one other : List A) → AllByRecursion P one → AllByRecursion P other → AllByRecursion P (one ++ other)
all_after P [] other first second = second
all_after P (x ∷ one) other first second = (first.0, all_after P one other first.1 second)

all_to : {A : Type 0} (P Q : A → Type 0) → ((x : A) → P x → Q x) → (xs : List A) → AllByRecursion P xs → AllByRecursion Q xs
all_to P Q to [] all = tt
all_to P Q to (x ∷ xs) all = (to x all.0, all_to P Q to xs all.1)

module _ {T Q : Type 0} (rules : Rules T Q) where
  -- what each end hears in a frame, where this was the last call of the controller
  pub record IsFrame (kept : Option Kept) (last : Option (List ℕ)) (ended : Bool) (frame : List ℕ) : Type 0 where
    pub calls : (sequence : ℕ) (ask : Ask) → rules.to_device frame ≡ Call sequence ask → IsNew sequence kept
        → (ask ≡ Parameterized) ⊎ ((last ≡ Some frame) ⊎ ((ask ≡ Releases) × (ended ≡ true)))
    pub answers : (sequence : ℕ) (reply : Reply) → rules.to_controller frame ≡ Answers sequence reply → Covers sequence kept

  pub record Holds (kept : Option Kept) (last : Option (List ℕ)) (ended : Bool) (sent : List (List ℕ)) : Type 0 where
    pub frames : AllByRecursion (IsFrame kept last ended) sent
    pub again : (answer : Kept) → kept ≡ Some answer → IsFrame kept last ended answer.frame

  -- ---- the device

  module _ (last : Option (List ℕ)) (ended : Bool) where
    stays_frame : (before after : Option Kept) → Grows before after → (frame : List ℕ) → IsFrame before last ended frame → IsFrame after last ended frame
    stays_frame before after grows frame is = record {
      calls = λ sequence ask e is_new. is.calls sequence ask e (grows_new before after grows sequence is_new);
      answers = λ sequence reply e. grows_covers before after grows sequence (is.answers sequence reply e);
    }

    dull_frame : (kept : Option Kept) (frame : List ℕ) → IsDull rules frame → IsFrame kept last ended frame
    dull_frame kept frame dull = record {
      calls = λ sequence ask e is_new. absurd (idle_call sequence ask (sym dull.0 ∙ e));
      answers = λ sequence reply e. absurd (nothing_answers sequence reply (sym dull.1 ∙ e));
    }

    ready_frame : (kept : Option Kept) (after : Device T Q) (frame : List ℕ) → IsReady rules after frame → IsFrame kept last ended frame
    ready_frame kept after frame ready = record {
      calls = λ sequence ask e is_new. absurd (idle_call sequence ask (sym ready.to_device ∙ e));
      answers = λ sequence reply e. absurd (by_most ready.to_controller sequence reply e);
    }
      where
        by_most : SaysAtMost rules Readies frame → (sequence : ℕ) (reply : Reply) → rules.to_controller frame ≡ Answers sequence reply → ⊥
        by_most (inl none) sequence reply e = nothing_answers sequence reply (sym none ∙ e)
        by_most (inr ready_said) sequence reply e = readies_answers sequence reply (sym ready_said ∙ e)

    answer_frame : (kept : Option Kept) (frame : List ℕ) (number : ℕ) (granted : Reply) → rules.to_device frame ≡ Idle
        → SaysAtMost rules (Answers number granted) frame
        → Covers number kept → IsFrame kept last ended frame
    answer_frame kept frame number granted idle at_most covers = record {
      calls = λ sequence ask e is_new. absurd (idle_call sequence ask (sym idle ∙ e));
      answers = λ sequence reply e. by_most at_most sequence reply e;
    }
      where
        by_most : SaysAtMost rules (Answers number granted) frame → (sequence : ℕ) (reply : Reply) → rules.to_controller frame ≡ Answers sequence reply
            → Covers sequence kept
        by_most (inl none) sequence reply e = absurd (nothing_answers sequence reply (sym none ∙ e))
        by_most (inr said) sequence reply e =
            subst (λ (n : ℕ). Covers n kept) (answers_same number sequence granted reply (sym said ∙ e)) covers

    other_frame : (kept : Option Kept) (after : Device T Q) (frame : List ℕ) → IsDull rules frame ⊎ IsReady rules after frame → IsFrame kept last ended frame
    other_frame kept after frame (inl dull) = dull_frame kept frame dull
    other_frame kept after frame (inr ready) = ready_frame kept after frame ready

    -- what the frames and the last response are after a step
    goes : (before after : Option Kept) (sent frames : List (List ℕ)) → Grows before after → Holds before last ended sent
        → AllByRecursion (IsFrame after last ended) frames
        → ((answer : Kept) → after ≡ Some answer → IsFrame after last ended answer.frame) → Holds after last ended (sent ++ frames)
    goes before after sent frames grows holds those again = record {
      frames = all_after (IsFrame after last ended) sent frames (all_to (IsFrame before last ended) (IsFrame after last ended)
          (stays_frame before after grows) sent holds.frames) those;
      again = again;
    }

    same_again : (before after : Option Kept) (sent : List (List ℕ)) → after ≡ before → Holds before last ended sent → (answer : Kept) → after ≡ Some answer
        → IsFrame after last ended answer.frame
    same_again before after sent same holds answer e = stays_frame before after (inl same) answer.frame (holds.again answer (sym same ∙ e))

    module _ (before after : Device T Q) (sent frames : List (List ℕ)) (holds : Holds before.kept last ended sent) where
      abbrev After : Type 0
      After = Holds after.kept last ended (sent ++ frames)

      silent : after.kept ≡ before.kept → frames ≡ [] → After
      silent same none =
          goes before.kept after.kept sent frames (inl same) holds (subst (λ (fs : List (List ℕ)). AllByRecursion (IsFrame after.kept last ended) fs)
          (sym none) tt)
          (same_again before.kept after.kept sent same holds)

      -- the response to a call is stored, and sent between other messages
      stored : (sequence : ℕ) (reply : Reply) (frame : List ℕ) (first others : List (List ℕ)) → IsNew sequence before.kept
          → after.kept ≡ Some (record { sequence = sequence; frame = frame }) → rules.to_device frame ≡ Idle
          → SaysAtMost rules (Answers sequence reply) frame
          → AllByRecursion (λ f. IsDull rules f ⊎ IsReady rules after f) first → AllByRecursion (λ f. IsDull rules f ⊎ IsReady rules after f) others
          → frames ≡ first ++ frame ∷ others → After
      stored sequence reply frame first others is_new keeps idle at_most front back is =
          let P = IsFrame after.kept last ended in
          let same : sequence ≤ sequence = omega arith in
          let now : P frame = answer_frame after.kept frame sequence reply idle at_most (subst (λ (k : Option Kept). Covers sequence k) (sym keeps) same) in
          goes before.kept after.kept sent frames (inr (record { sequence = sequence; frame = frame }, keeps, is_new)) holds
          (subst (λ (fs : List (List ℕ)). AllByRecursion P fs) (sym is)
          (all_after P first (frame ∷ others) (all_to (λ f. IsDull rules f ⊎ IsReady rules after f) P (other_frame after.kept after) first front)
          (now, all_to (λ f. IsDull rules f ⊎ IsReady rules after f) P (other_frame after.kept after) others back)))
          (λ answer e. subst P (ap (λ (k : Kept). k.frame) (some_kept (record { sequence = sequence; frame = frame }) answer (sym keeps ∙ e))) now)

      goes_by : GoesBy rules before after frames → After
      goes_by it =
          let P = IsFrame after.kept last ended in
          goes before.kept after.kept sent frames (inl it.keeps) holds
          (all_to (λ f. IsDull rules f ⊎ IsReady rules after f) P (other_frame after.kept after) frames it.sent)
          (same_again before.kept after.kept sent it.keeps holds)

      confirmed : IsConfirmed rules before after frames → After
      confirmed it =
          let same : after.kept ≡ before.kept = ap (λ (d : Device T Q). d.kept) it.becomes in
          goes before.kept after.kept sent frames (inl same) holds
          (all_to (IsDull rules) (IsFrame after.kept last ended) (dull_frame after.kept) frames it.dull)
          (same_again before.kept after.kept sent same holds)

      again_sent : (sequence : ℕ) → IsAgain sequence before after frames → After
      again_sent sequence it =
          let same : after.kept ≡ before.kept = ap (λ (d : Device T Q). d.kept) it.unchanged in
          goes before.kept after.kept sent frames (inl same) holds
          (subst (λ (fs : List (List ℕ)). AllByRecursion (IsFrame after.kept last ended) fs) (sym it.sent)
          (stays_frame before.kept after.kept (inl same) it.kept.frame (holds.again it.kept it.has), tt))
          (same_again before.kept after.kept sent same holds)

      pub device_holds : (heard : ToDevice) → DeviceSteps rules heard before after frames → After
      device_holds (Call sequence ask) (inl it) = stored sequence it.reply it.frame [] it.others it.new it.keeps it.to_device it.to_controller tt
          it.readies it.sent
      device_holds (Call sequence ask) (inr (inl it)) = again_sent sequence it
      device_holds (Call sequence ask) (inr (inr (inl it))) = silent (ap (λ (d : Device T Q). d.kept) it.0) it.1
      device_holds (Call sequence ask) (inr (inr (inr it))) = silent (ap (λ (d : Device T Q). d.kept) it.becomes) it.silent
      device_holds Confirms (inl it) = confirmed it
      device_holds Confirms (inr it) = goes_by it
      device_holds Idle (inl it) = goes_by it
      device_holds Idle (inr it) = stored it.sequence it.reply it.frame it.others [] it.new it.keeps it.to_device it.to_controller it.dull tt it.sent

  -- ---- the controller

  -- a frame in which the device hears no new call but one that ends parameters
  abbrev pub IsSettled : Option Kept → List ℕ → Type 0
  IsSettled kept frame = (sequence : ℕ) (ask : Ask) → rules.to_device frame ≡ Call sequence ask → IsNew sequence kept → ask ≡ Parameterized

  -- a frame of the controller: the controller hears nothing in it, and the device its call, or one that ends its relation
  pub record IsSaidNow (last : Option (List ℕ)) (ended : Bool) (frame : List ℕ) : Type 0 where
    pub nothing : rules.to_controller frame ≡ Nothing
    pub calls : (sequence : ℕ) (ask : Ask) → rules.to_device frame ≡ Call sequence ask → (last ≡ Some frame) ⊎ ((ask ≡ Releases) × (ended ≡ true))

  module _ (kept : Option Kept) (last now : Option (List ℕ)) (ended over : Bool) (ends : ended ≡ true → over ≡ true)
      (follows : (frame : List ℕ) → last ≡ Some frame → (now ≡ Some frame) ⊎ IsSettled kept frame) where
    follows_frame : (frame : List ℕ) → IsFrame kept last ended frame → IsFrame kept now over frame
    follows_frame frame is = record {
      calls = λ sequence ask e is_new. by_case sequence ask e is_new (is.calls sequence ask e is_new);
      answers = is.answers;
    }
      where
        by_last : (sequence : ℕ) (ask : Ask) → rules.to_device frame ≡ Call sequence ask → IsNew sequence kept → (now ≡ Some frame) ⊎ IsSettled kept frame
            → (ask ≡ Parameterized) ⊎ ((now ≡ Some frame) ⊎ ((ask ≡ Releases) × (over ≡ true)))
        by_last sequence ask e is_new (inl same) = inr (inl same)
        by_last sequence ask e is_new (inr settled) = inl (settled sequence ask e is_new)

        by_case : (sequence : ℕ) (ask : Ask) → rules.to_device frame ≡ Call sequence ask → IsNew sequence kept
            → (ask ≡ Parameterized) ⊎ ((last ≡ Some frame) ⊎ ((ask ≡ Releases) × (ended ≡ true)))
            → (ask ≡ Parameterized) ⊎ ((now ≡ Some frame) ⊎ ((ask ≡ Releases) × (over ≡ true)))
        by_case sequence ask e is_new (inl parameters) = inl parameters
        by_case sequence ask e is_new (inr (inl is_last)) = by_last sequence ask e is_new (follows frame is_last)
        by_case sequence ask e is_new (inr (inr release)) = inr (inr (release.0, ends release.1))

    said_frame : (frame : List ℕ) → IsSaidNow now over frame → IsFrame kept now over frame
    said_frame frame said = record {
      calls = λ sequence ask e is_new. inr (said.calls sequence ask e);
      answers = λ sequence reply e. absurd (nothing_answers sequence reply (sym said.nothing ∙ e));
    }

    pub controller_holds : (sent frames : List (List ℕ)) → Holds kept last ended sent → AllByRecursion (IsSaidNow now over) frames
        → Holds kept now over (sent ++ frames)
    controller_holds sent frames holds those = record {
      frames = all_after (IsFrame kept now over) sent frames (all_to (IsFrame kept last ended) (IsFrame kept now over) follows_frame sent holds.frames)
          (all_to (IsSaidNow now over) (IsFrame kept now over) said_frame frames those);
      again = λ answer e. follows_frame answer.frame (holds.again answer e);
    }
