-- What the frames of a step say to either end, as far as a start-up is concerned.
use Rattle.std.proofs.Common.{◌≡◌, ◌⊎◌, ◌≤◌, ◌+◌, inl, inr, ℕ, Bool, List, [], ◌∷◌, ◌++◌, Option, Some, None, refl, sym, ap, subst, ◌∙◌}
use Rattle.std.specs.List.{AllByRecursion}
use Rattle.end_laws.specs.both.Small.{Accesses, Answers, Ask, Asking, Awaiting, Call, Confirms, Controller, Device, Exchanges, Idle, Kept, Readies, RelationState, Reply, Rules, ToController, ToDevice, Waiting}
use Rattle.end_laws.specs.both.Steps.{CallsWhile, DeviceSteps, IsDull, IsReady, IsSameOrNone, Moves, SaysAtMost}

pub each_both : {A : Type 0} (P : A → Type 0) (some more : List A) → AllByRecursion P some → AllByRecursion P more → AllByRecursion P (some ++ more)
each_both P [] more all others = others
each_both P (one ∷ some) more all others = (all.0, each_both P some more all.1 others)

module _ {T Q : Type 0} (rules : Rules T Q) where
  -- The relation waits for the response to ApplicationReady.
  pub record Awaits (device : Device T Q) : Type 0 where
    pub link : RelationState T Q
    pub has : device.link ≡ Some link
    pub awaits : link.phase ≡ Awaiting

  -- A frame of the device says nothing to the device, and ApplicationReady to the controller only while the relation waits.
  pub record IsOfDevice (device : Device T Q) (frame : List ℕ) : Type 0 where
    pub idle : rules.to_device frame ≡ Idle
    pub ready : rules.to_controller frame ≡ Readies → Awaits device

  -- The stored response says nothing to the device, and no ApplicationReady.
  abbrev pub IsKeptFine : Option Kept → Type 0
  IsKeptFine kept = (answer : Kept) → kept ≡ Some answer → (rules.to_device answer.frame ≡ Idle) × (rules.to_controller answer.frame ≡ Readies → ⊥)

  no_answer : (sequence : ℕ) (reply : Reply) (frame : List ℕ) → SaysAtMost rules (Answers sequence reply) frame → rules.to_controller frame ≡ Readies → ⊥
  no_answer sequence reply frame (inl nothing) readies = let e = sym nothing ∙ readies in cc
  no_answer sequence reply frame (inr answers) readies = let e = sym answers ∙ readies in cc

  dull_frame : (device : Device T Q) (frame : List ℕ) → IsDull rules frame → IsOfDevice device frame
  dull_frame device frame dull = record { idle = dull.0; ready = λ readies. absurd (let e = sym dull.1 ∙ readies in cc) }

  ready_frame : (device : Device T Q) (frame : List ℕ) → IsReady rules device frame → IsOfDevice device frame
  ready_frame device frame it = record { idle = it.to_device; ready = λ _. record { link = it.link; has = it.has; awaits = it.awaits } }

  either_frame : (device : Device T Q) (frame : List ℕ) → IsDull rules frame ⊎ IsReady rules device frame → IsOfDevice device frame
  either_frame device frame (inl dull) = dull_frame device frame dull
  either_frame device frame (inr ready) = ready_frame device frame ready

  each_frame : (P : List ℕ → Type 0) (device : Device T Q) (frames : List (List ℕ)) → ((frame : List ℕ) → P frame → IsOfDevice device frame) → AllByRecursion P frames
      → AllByRecursion (IsOfDevice device) frames
  each_frame P device [] so all = tt
  each_frame P device (frame ∷ frames) so all = (so frame all.0, each_frame P device frames so all.1)

  some_kept : (one other : Kept) → Some one ≡ Some other → one ≡ other
  some_kept one other e = cc

  kept_frame : (device : Device T Q) (kept : Kept) (before : Option Kept) → before ≡ Some kept → IsKeptFine before → IsOfDevice device kept.frame
  kept_frame device kept before is fine = record { idle = (fine kept is).0; ready = λ readies. absurd ((fine kept is).1 readies) }

  -- The frames of a step of the device, and the response that it then stores.
  pub device_frames : (heard : ToDevice) (before after : Device T Q) (frames : List (List ℕ)) → DeviceSteps rules heard before after frames → IsKeptFine before.kept
      → AllByRecursion (IsOfDevice after) frames × IsKeptFine after.kept
  device_frames (Call sequence ask) before after frames (inl it) fine =
      let no = no_answer sequence it.reply it.frame it.to_controller in
      let first : IsOfDevice after it.frame = record { idle = it.to_device; ready = λ readies. absurd (no readies) } in (
        subst (λ (l : List (List ℕ)). AllByRecursion (IsOfDevice after) l) (sym it.sent) (
          first,
          each_frame (λ frame. IsDull rules frame ⊎ IsReady rules after frame) after it.others (either_frame after) it.readies,
        ),
        λ answer is. subst (λ (k : Kept). (rules.to_device k.frame ≡ Idle) × (rules.to_controller k.frame ≡ Readies → ⊥))
            (some_kept (record { sequence = sequence; frame = it.frame }) answer (sym it.keeps ∙ is)) (it.to_device, no),
      )
  device_frames (Call sequence ask) before after frames (inr (inl it)) fine = (
    subst (λ (l : List (List ℕ)). AllByRecursion (IsOfDevice after) l) (sym it.sent) (kept_frame after it.kept before.kept it.has fine, tt),
    subst (λ (d : Device T Q). IsKeptFine d.kept) (sym it.unchanged) fine,
  )
  device_frames (Call sequence ask) before after frames (inr (inr (inl it))) fine =
      (subst (λ (l : List (List ℕ)). AllByRecursion (IsOfDevice after) l) (sym it.1) tt, subst (λ (d : Device T Q). IsKeptFine d.kept) (sym it.0) fine)
  device_frames (Call sequence ask) before after frames (inr (inr (inr it))) fine = (
    subst (λ (l : List (List ℕ)). AllByRecursion (IsOfDevice after) l) (sym it.silent) tt,
    subst (λ (d : Device T Q). IsKeptFine d.kept) (sym it.becomes) fine,
  )
  device_frames Confirms before after frames (inl it) fine =
      (each_frame (IsDull rules) after frames (dull_frame after) it.dull, subst (λ (d : Device T Q). IsKeptFine d.kept) (sym it.becomes) fine)
  device_frames Confirms before after frames (inr it) fine =
      (each_frame (λ frame. IsDull rules frame ⊎ IsReady rules after frame) after frames (either_frame after) it.sent, subst IsKeptFine (sym it.keeps) fine)
  device_frames Idle before after frames (inl it) fine =
      (each_frame (λ frame. IsDull rules frame ⊎ IsReady rules after frame) after frames (either_frame after) it.sent, subst IsKeptFine (sym it.keeps) fine)
  device_frames Idle before after frames (inr it) fine =
      let no = no_answer it.sequence it.reply it.frame it.to_controller in
      let last : IsOfDevice after it.frame = record { idle = it.to_device; ready = λ readies. absurd (no readies) } in (
        subst (λ (l : List (List ℕ)). AllByRecursion (IsOfDevice after) l) (sym it.sent)
            (each_both (IsOfDevice after) it.others (it.frame ∷ [])
            (each_frame (λ frame. IsDull rules frame ⊎ IsReady rules after frame) after it.others (either_frame after) it.dull) (last, tt)),
        λ answer is. subst (λ (k : Kept). (rules.to_device k.frame ≡ Idle) × (rules.to_controller k.frame ≡ Readies → ⊥))
            (some_kept (record { sequence = it.sequence; frame = it.frame }) answer (sym it.keeps ∙ is)) (it.to_device, no),
      )

  -- A call with this sequence number is heard.
  pub record IsHeardCall (heard : ToDevice) (sequence : ℕ) : Type 0 where
    pub ask : Ask
    pub heard_as : heard ≡ Call sequence ask

  -- The response that is stored after a step is the one before it, or one to the call that was heard, or to the one that was asked.
  abbrev pub IsStored : ToDevice → Device T Q → Kept → Type 0
  IsStored heard before kept = (before.kept ≡ Some kept) ⊎ (IsHeardCall heard kept.sequence ⊎ (before.asked ≡ Some kept.sequence))

  pub stored_of : (heard : ToDevice) (before after : Device T Q) (frames : List (List ℕ)) → DeviceSteps rules heard before after frames → (kept : Kept)
      → after.kept ≡ Some kept → IsStored heard before kept
  stored_of (Call sequence ask) before after frames (inl it) kept is =
      let same = some_kept (record { sequence = sequence; frame = it.frame }) kept (sym it.keeps ∙ is) in
      inr (inl (record { ask = ask; heard_as = ap (λ (k : Kept). Call k.sequence ask) same }))
  stored_of (Call sequence ask) before after frames (inr (inl it)) kept is = inl (sym (ap (λ (d : Device T Q). d.kept) it.unchanged) ∙ is)
  stored_of (Call sequence ask) before after frames (inr (inr (inl it))) kept is = inl (sym (ap (λ (d : Device T Q). d.kept) it.0) ∙ is)
  stored_of (Call sequence ask) before after frames (inr (inr (inr it))) kept is = inl (sym (ap (λ (d : Device T Q). d.kept) it.becomes) ∙ is)
  stored_of Confirms before after frames (inl it) kept is = inl (sym (ap (λ (d : Device T Q). d.kept) it.becomes) ∙ is)
  stored_of Confirms before after frames (inr it) kept is = inl (sym it.keeps ∙ is)
  stored_of Idle before after frames (inl it) kept is = inl (sym it.keeps ∙ is)
  stored_of Idle before after frames (inr it) kept is =
      inr (inr (it.asked ∙ ap (λ (k : Kept). Some k.sequence) (some_kept (record { sequence = it.sequence; frame = it.frame }) kept (sym it.keeps ∙ is))))

  -- What is asked after a step was asked before it, or it is the call of the application that was heard.
  same_asked : (before after : Option ℕ) (sequence : ℕ) → IsSameOrNone before after → after ≡ Some sequence → before ≡ Some sequence
  same_asked before after sequence (inl same) is = sym same ∙ is
  same_asked before after sequence (inr none) is = let e = sym none ∙ is in absurd cc

  some_number : (one other : ℕ) → Some one ≡ Some other → one ≡ other
  some_number one other e = cc

  pub asked_of : (heard : ToDevice) (before after : Device T Q) (frames : List (List ℕ)) → DeviceSteps rules heard before after frames → (sequence : ℕ)
      → after.asked ≡ Some sequence → (before.asked ≡ Some sequence) ⊎ (heard ≡ Call sequence Accesses)
  asked_of (Call number ask) before after frames (inl it) sequence is = inl (same_asked before.asked after.asked sequence it.asked is)
  asked_of (Call number ask) before after frames (inr (inl it)) sequence is = inl (sym (ap (λ (d : Device T Q). d.asked) it.unchanged) ∙ is)
  asked_of (Call number ask) before after frames (inr (inr (inl it))) sequence is = inl (sym (ap (λ (d : Device T Q). d.asked) it.0) ∙ is)
  asked_of (Call number ask) before after frames (inr (inr (inr it))) sequence is =
      inr (ap (λ (n : ℕ). Call n ask) (some_number number sequence (sym (ap (λ (d : Device T Q). d.asked) it.becomes) ∙ is)) ∙ ap (Call sequence) it.accesses)
  asked_of Confirms before after frames (inl it) sequence is = inl (sym (ap (λ (d : Device T Q). d.asked) it.becomes) ∙ is)
  asked_of Confirms before after frames (inr it) sequence is = inl (same_asked before.asked after.asked sequence it.asked is)
  asked_of Idle before after frames (inl it) sequence is = inl (same_asked before.asked after.asked sequence it.asked is)
  asked_of Idle before after frames (inr it) sequence is = let e = sym it.settled ∙ is in absurd cc

  -- While no call of the application is heard, nothing is asked.
  pub still_unasked : (heard : ToDevice) (before after : Device T Q) (frames : List (List ℕ)) → DeviceSteps rules heard before after frames
      → ((sequence : ℕ) → heard ≡ Call sequence Accesses → ⊥) → before.asked ≡ None → after.asked ≡ None
  still_unasked heard before after frames steps unheard none = by_asked after.asked refl
    where
      by_source : (sequence : ℕ) → (before.asked ≡ Some sequence) ⊎ (heard ≡ Call sequence Accesses) → after.asked ≡ None
      by_source sequence (inl was) = let e = sym none ∙ was in absurd cc
      by_source sequence (inr call) = absurd (unheard sequence call)

      by_asked : (now : Option ℕ) → after.asked ≡ now → after.asked ≡ None
      by_asked None is = is
      by_asked (Some sequence) is = by_source sequence (asked_of heard before after frames steps sequence is)

  -- ---- the controller

  -- A controller that does not exchange data, and hears no ApplicationReady, does not exchange data afterwards.
  pub not_exchanging : (grants : ℕ → List ℕ → Bool) (skips : Bool) (count : ℕ) (heard : ToController) (before after : Controller)
      → Moves grants skips count heard before after → (before ≡ Exchanges → ⊥)
      → (heard ≡ Readies → ⊥) → after ≡ Exchanges → ⊥
  not_exchanging grants skips count heard before after (inl same) not silent e = not (sym same ∙ e)
  not_exchanging grants skips count heard before after (inr (inl ended)) not silent e = let f = sym ended ∙ e in cc
  not_exchanging grants skips count heard before after (inr (inr (inl asks))) not silent e = let f = sym asks.1 ∙ e in cc
  not_exchanging grants skips count heard before after (inr (inr (inr (inl next)))) not silent e = by_next next.becomes
    where
      by_next : ((next.stage ≤ count) × (after ≡ Asking (next.stage + 1) next.tries)) ⊎ (after ≡ Waiting) → ⊥
      by_next (inl asks) = let f = sym asks.1 ∙ e in cc
      by_next (inr waits) = let f = sym waits ∙ e in cc
  not_exchanging grants skips count heard before after (inr (inr (inr (inr (inl readies))))) not silent e = silent readies.0
  not_exchanging grants skips count heard before after (inr (inr (inr (inr (inr tried))))) not silent e = let f = sym tried.becomes ∙ e in cc

  -- Then its frames carry no call of the application.
  abbrev pub IsNoAccess : List ℕ → Type 0
  IsNoAccess frame = (sequence : ℕ) → rules.to_device frame ≡ Call sequence Accesses → ⊥

  pub calls_no_access : (now : Controller) → (now ≡ Exchanges → ⊥) → (sequence : ℕ) → CallsWhile rules.count now sequence Accesses → ⊥
  calls_no_access now not sequence (inl releases) = cc
  calls_no_access now not sequence (inr (inl calling)) = calling.asked
  calls_no_access now not sequence (inr (inr accesses)) = not accesses.1
