-- If an answered call comes again while its activity is held, it is answered by the same frame or not at all.
use Rattle.std.proofs.Common.{◌≡◌, ◌≢◌, ℕ, zero, suc, ◌-◌, ◌<◌, ◌≤◌, ◌⊎◌, inl, inr, Bool, true, false, cond, eqb, ltb, List, [], ◌∷◌, take, Option, Some, None, refl, sym, ap, subst, ◌∙◌, arith}
use Rattle.std.specs.Prelude.{IsSome, nat_eq}
use Rattle.std.specs.Cmp.Lexicographic.{pointwise, same_text, other_text}
use Rattle.std.proofs.lemmas.Bool.{false≢true, eqb-true, eq-eqb, lt-ltb, ltb-true, ltb-false}
use Rattle.rpc_core.specs.Cache.{Kept, Reported, new, again, old, is_of, kept_of, reported_by, looked, without, kept_more, behind_reported, behind_call, answer_of, behind_calls, HoldsThrough, IsFaithful}

-- an activity equals itself
is_itself : (activity : List ℕ) (b : Bool) → b ≡ pointwise nat_eq activity activity → b ≡ true
is_itself activity true e = refl
is_itself activity false e = absurd (other_text activity activity e refl)

-- ---- the response of an activity

kept_first : (kept : Kept) (others : List Kept) (activity : List ℕ) → activity ≡ kept.activity → kept_of activity (kept ∷ others) ≡ Some kept
kept_first kept others activity same = rw same (rw (is_itself kept.activity (pointwise nat_eq kept.activity kept.activity) refl) refl)

kept_step : (b : Bool) (kept : Kept) (front all : Option Kept) → IsSome (cond b (Some kept) front) → (IsSome front → front ≡ all)
    → cond b (Some kept) front ≡ cond b (Some kept) all
kept_step true kept front all held same = refl
kept_step false kept front all held same = same held

kept_take : (activity : List ℕ) (n : ℕ) (cache : List Kept) → IsSome (kept_of activity (take n cache)) → kept_of activity (take n cache) ≡ kept_of activity cache
kept_take activity zero [] held = absurd (false≢true held)
kept_take activity zero (kept ∷ others) held = absurd (false≢true held)
kept_take activity (suc n) [] held = refl
kept_take activity (suc n) (kept ∷ others) held =
    kept_step (is_of activity kept) kept (kept_of activity (take n others)) (kept_of activity others) held (kept_take activity n others)

-- another activity is not found in what was removed for this one
kept_other : (activity : List ℕ) (kept : Kept) (others : List Kept) (b : Bool) → b ≡ is_of activity kept → kept.activity ≢ activity
    → cond b (Some kept) (kept_of activity others) ≡ kept_of activity others
kept_other activity kept others true e differs = absurd (differs (same_text kept.activity activity e))
kept_other activity kept others false e differs = refl

without_step : (activity other : List ℕ) (kept : Kept) (others : List Kept) (b : Bool) → other ≢ activity → kept_of activity (without other others) ≡ kept_of activity others
    → b ≡ is_of other kept → kept_of activity (cond b others (kept ∷ without other others)) ≡ kept_of activity (kept ∷ others)
without_step activity other kept others true differs rest e =
    sym (kept_other activity kept others (is_of activity kept) refl (λ same_as. differs (sym (same_text kept.activity other e) ∙ same_as)))
without_step activity other kept others false differs rest e = ap (λ (o : Option Kept). cond (is_of activity kept) (Some kept) o) rest

kept_without : (activity other : List ℕ) (cache : List Kept) → other ≢ activity → kept_of activity (without other cache) ≡ kept_of activity cache
kept_without activity other [] differs = refl
kept_without activity other (kept ∷ others) differs =
    without_step activity other kept others (is_of other kept) differs (kept_without activity other others differs) refl

-- the response to a call of another activity is stored, and the response of this one stays or is dropped
kept_apart : (most : ℕ) (activity : List ℕ) (call : Kept) (cache : List Kept) → call.activity ≢ activity
    → IsSome (kept_of activity (kept_more most call cache)) → kept_of activity (kept_more most call cache) ≡ kept_of activity cache
kept_apart most activity call cache differs held =
    let rest = take (most - 1) (without call.activity cache) in
    let passed : kept_of activity (call ∷ rest) ≡ kept_of activity rest = kept_other activity call rest (is_of activity call) refl differs in
    passed ∙ kept_take activity (most - 1) (without call.activity cache) (subst (λ (o : Option Kept). IsSome o) passed held) ∙ kept_without activity call.activity cache differs

-- ---- what the cache says

-- this response, or one to a later call
abbrev Follows : ℕ → List ℕ → Kept → Type 0
Follows sequence frame kept = ((kept.sequence ≡ sequence) × (kept.frame ≡ frame)) ⊎ (sequence < kept.sequence)

record Holds (activity : List ℕ) (sequence : ℕ) (frame : List ℕ) (cache : List Kept) : Type 0 where
  kept : Kept
  is : kept_of activity cache ≡ Some kept
  follows : Follows sequence frame kept

-- what a response says of a call of its activity
pub reported_again : (kept : Kept) (sequence : ℕ) → sequence ≡ kept.sequence → reported_by sequence (Some kept) ≡ again kept.frame
reported_again kept sequence e = rw (eq-eqb sequence kept.sequence e) refl

pub reported_old : (kept : Kept) (sequence : ℕ) → sequence < kept.sequence → reported_by sequence (Some kept) ≡ old
reported_old kept sequence less = step (eqb sequence kept.sequence) refl
  where
    step : (b : Bool) → b ≡ eqb sequence kept.sequence → cond b (again kept.frame) (cond (ltb sequence kept.sequence) old new) ≡ old
    step true e = absurd (omega (arith, less, eqb-true sequence kept.sequence (sym e)))
    step false e = rw (lt-ltb sequence kept.sequence less) refl

-- the cases: which of the two numbers is greater, if they differ
data Case (kept : Kept) (sequence : ℕ) : Type 0 where
  later : reported_by sequence (Some kept) ≡ new → kept.sequence < sequence → Case kept sequence
  same : reported_by sequence (Some kept) ≡ again kept.frame → sequence ≡ kept.sequence → Case kept sequence
  earlier : reported_by sequence (Some kept) ≡ old → Case kept sequence

different : (b : Bool) → b ≡ false → b ≡ true → ⊥
different b e p = absurd cc

beyond : (a b : ℕ) → b ≤ a → a ≢ b → b < a
beyond a b le ne = omega (arith, le, ne)

case_by : (kept : Kept) (sequence : ℕ) (b l : Bool) → eqb sequence kept.sequence ≡ b → ltb sequence kept.sequence ≡ l → Case kept sequence
case_by kept sequence true l e f = same (reported_again kept sequence (eqb-true sequence kept.sequence e)) (eqb-true sequence kept.sequence e)
case_by kept sequence false true e f = earlier (rw (e, f) refl)
case_by kept sequence false false e f =
    later (rw (e, f) refl) (beyond sequence kept.sequence (ltb-false sequence kept.sequence f) (λ p. different (eqb sequence kept.sequence) e (eq-eqb sequence kept.sequence p)))

case_of : (kept : Kept) (sequence : ℕ) → Case kept sequence
case_of kept sequence = case_by kept sequence (eqb sequence kept.sequence) (ltb sequence kept.sequence) refl refl

module _ (most : ℕ) (activity : List ℕ) (sequence : ℕ) (frame : List ℕ) where
  -- what is held of the activity after a call of the activity
  own_call : (call : Kept) (cache : List Kept) → activity ≡ call.activity → Holds activity sequence frame cache → Holds activity sequence frame (behind_call most call cache)
  own_call call cache same_as holds = by (case_of holds.kept call.sequence)
    where
      found : looked call.activity call.sequence cache ≡ reported_by call.sequence (Some holds.kept)
      found = ap (λ (o : Option Kept). reported_by call.sequence o) (subst (λ (a : List ℕ). kept_of a cache ≡ Some holds.kept) same_as holds.is)

      later_than : holds.kept.sequence < call.sequence → Follows sequence frame holds.kept → sequence < call.sequence
      later_than less (inl is) = omega (arith, less, is.0)
      later_than less (inr more) = omega (arith, less, more)

      by : Case holds.kept call.sequence → Holds activity sequence frame (behind_call most call cache)
      by (later reported less) = rw (found, reported) (record {
        kept = call;
        is = kept_first call (take (most - 1) (without call.activity cache)) activity same_as;
        follows = inr (later_than less holds.follows);
      })
      by (same reported e) = rw (found, reported) holds
      by (earlier reported) = rw (found, reported) holds

  -- what is held of the activity after a call of another one
  other_call : (call : Kept) (cache : List Kept) → call.activity ≢ activity → (reported : Reported) → IsSome (kept_of activity (behind_reported most call cache reported))
      → Holds activity sequence frame cache → Holds activity sequence frame (behind_reported most call cache reported)
  other_call call cache differs new held holds = record {
    kept = holds.kept;
    is = kept_apart most activity call cache differs held ∙ holds.is;
    follows = holds.follows;
  }
  other_call call cache differs (again frame_is) held holds = holds
  other_call call cache differs old held holds = holds

  one_call : (call : Kept) (cache : List Kept) → IsSome (kept_of activity (behind_call most call cache)) → Holds activity sequence frame cache
      → Holds activity sequence frame (behind_call most call cache)
  one_call call cache held holds = by (is_of activity call) refl
    where
      by : (b : Bool) → b ≡ is_of activity call → Holds activity sequence frame (behind_call most call cache)
      by true e = own_call call cache (sym (same_text call.activity activity e)) holds
      by false e = other_call call cache (other_text call.activity activity e) (looked call.activity call.sequence cache) held holds

  now_held : (calls cache : List Kept) → HoldsThrough most activity calls cache → IsSome (kept_of activity cache)
  now_held [] cache held = held
  now_held (call ∷ calls) cache held = held.0

  all_calls : (calls cache : List Kept) → HoldsThrough most activity calls cache → Holds activity sequence frame cache → Holds activity sequence frame (behind_calls most calls cache)
  all_calls [] cache held holds = holds
  all_calls (call ∷ calls) cache held holds =
      all_calls calls (behind_call most call cache) held.1 (one_call call cache (now_held calls (behind_call most call cache) held.1) holds)

  -- the response is the same, or none is stored
  reported_at_last : (cache : List Kept) → Holds activity sequence frame cache → IsFaithful frame (looked activity sequence cache)
  reported_at_last cache holds = by holds.follows
    where
      by : Follows sequence frame holds.kept → IsFaithful frame (looked activity sequence cache)
      by (inl is) = rw (holds.is, reported_again holds.kept sequence (sym is.0)) is.1
      by (inr less) = rw (holds.is, reported_old holds.kept sequence less) tt

-- equal optional frames are equal frames
some_is : (x y : List ℕ) → Some x ≡ Some y → x ≡ y
some_is x y e = cc

first_held : (most : ℕ) (call : Kept) (cache : List Kept) (frame : List ℕ) → answer_of call cache ≡ Some frame → Holds call.activity call.sequence frame (behind_call most call cache)
first_held most call cache frame answered = by (kept_of call.activity cache) refl
  where
    fresh : reported_by call.sequence (kept_of call.activity cache) ≡ new → Holds call.activity call.sequence frame (behind_call most call cache)
    fresh reported = rw reported (record {
      kept = call;
      is = kept_first call (take (most - 1) (without call.activity cache)) call.activity refl;
      follows = inl (refl, some_is call.frame frame (rw reported at answered));
    })

    known : (kept : Kept) → kept_of call.activity cache ≡ Some kept → Case kept call.sequence → Holds call.activity call.sequence frame (behind_call most call cache)
    known kept is (later reported less) = fresh (rw is reported)
    known kept is (same reported e) =
        let said : looked call.activity call.sequence cache ≡ again kept.frame = rw is reported in
        rw said (record { kept = kept; is = is; follows = inl (sym e, some_is kept.frame frame (rw said at answered)) })
    known kept is (earlier reported) =
        let said : looked call.activity call.sequence cache ≡ old = rw is reported in
        let none : None ≡ Some frame = rw said at answered in absurd cc

    by : (o : Option Kept) → kept_of call.activity cache ≡ o → Holds call.activity call.sequence frame (behind_call most call cache)
    by None e = fresh (rw e refl)
    by (Some kept) e = known kept e (case_of kept call.sequence)

-- an answered call that comes again after any calls, while its activity is held
pub faithful : (most : ℕ) (cache calls : List Kept) (call : Kept) (frame : List ℕ) → answer_of call cache ≡ Some frame
    → HoldsThrough most call.activity calls (behind_call most call cache)
    → IsFaithful frame (looked call.activity call.sequence (behind_calls most calls (behind_call most call cache)))
faithful most cache calls call frame answered held =
    reported_at_last most call.activity call.sequence frame (behind_calls most calls (behind_call most call cache))
    (all_calls most call.activity call.sequence frame calls (behind_call most call cache) held (first_held most call cache frame answered))

-- the same for a call that is looked up
pub faithful_reported : (most : ℕ) (activity : List ℕ) (sequence : ℕ) (now_is : List Kept) (reported : Reported) → looked activity sequence now_is ≡ reported
    → (cache calls : List Kept) (call : Kept) (frame : List ℕ) → call.activity ≡ activity → call.sequence ≡ sequence → answer_of call cache ≡ Some frame
    → HoldsThrough most call.activity calls (behind_call most call cache) → now_is ≡ behind_calls most calls (behind_call most call cache) → IsFaithful frame reported
faithful_reported most activity sequence now_is reported t cache calls call frame ea es answered held is =
    let behind = behind_calls most calls (behind_call most call cache) in
    let same_reported : looked call.activity call.sequence behind ≡ reported = ap (λ (a : List ℕ). looked a call.sequence behind) ea
    ∙ ap (λ (s : ℕ). looked activity s behind) es ∙ ap (λ (ks : List Kept). looked activity sequence ks) (sym is) ∙ t in
    subst (λ (x : Reported). IsFaithful frame x) same_reported (faithful most cache calls call frame answered held)

-- a call with a greater number than the answered one is new
new_by : (kept : Kept) (sequence : ℕ) (b l : Bool) → eqb sequence kept.sequence ≡ b → ltb sequence kept.sequence ≡ l → kept.sequence < sequence → reported_by sequence (Some kept) ≡ new
new_by kept sequence true l e f less = absurd (omega (arith, less, eqb-true sequence kept.sequence e))
new_by kept sequence false true e f less = absurd (omega (arith, less, ltb-true sequence kept.sequence f))
new_by kept sequence false false e f less = rw (e, f) refl

pub reported_new : (kept : Kept) (sequence : ℕ) → kept.sequence < sequence → reported_by sequence (Some kept) ≡ new
reported_new kept sequence less = new_by kept sequence (eqb sequence kept.sequence) (ltb sequence kept.sequence) refl refl less
