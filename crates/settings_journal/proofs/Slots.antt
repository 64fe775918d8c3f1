-- The effect of slots on a base: it is unique, and closed slots have none.
use Rattle.std.proofs.Common.{◌≡◌, ◌≢◌, ◌<◌, ◌≤◌, ℕ, zero, suc, List, get_or, refl, sym, ap, subst, ◌∙◌, inl, inr, arith, Some, true, false, lit<, lit≤}
use Rattle.std.specs.Cmp.Lexicographic.{same_text}
use Rattle.std.proofs.lemmas.Bool.{cases_eq, cases_Bool, cond_both, cond-true, cond-false, false_from_ne_true}
use Rattle.std.proofs.lemmas.List.{get_or-replicate}
use Rattle.pn_values.specs.Command.{apply}
use Rattle.pn_values.specs.declared.settings.Settings.{Settings}
use Rattle.flash_model.specs.Image.{erased}
use Rattle.settings_journal.specs.declared.head.Version.{Version}
use Rattle.settings_journal.specs.Slot.{slot_at, slot_gate, Follows, After, is_blank, next_slot}

some_same : {A : Type 0} (a b : A) → Some a ≡ Some b → a ≡ b
some_same a b e = cc

-- one slot turns settings into at most one value
Follows-same : (version : Version) (slot : List ℕ) (a b x y : Settings) → a ≡ b → Follows version slot a x → Follows version slot b y → x ≡ y
Follows-same version slot a b x y e (inl p) (inl q) = p.1 ∙ e ∙ sym q.1
Follows-same version slot a b x y e (inl p) (inr q) = absurd (p.0 q.0)
Follows-same version slot a b x y e (inr p) (inl q) = absurd (q.0 p.0)
Follows-same version slot a b x y e (inr p) (inr q) =
    let same : p.1.0 ≡ q.1.0 = some_same _ _ (sym p.1.1.is ∙ q.1.1.is) in
    p.1.2 ∙ ap (λ c. apply c a) same ∙ ap (apply q.1.0) e ∙ sym q.1.2

-- the same for all slots together
pub After-same : (version : Version) (sector : List ℕ) (count : ℕ) (a b x y : Settings) → a ≡ b → After version sector count a x → After version sector count b y → x ≡ y
After-same version sector zero a b x y e p q = p ∙ e ∙ sym q
After-same version sector (suc count) a b x y e p q =
    Follows-same version (slot_at sector count) p.0 q.0 x y (After-same version sector count a b p.0 q.0 e p.1 q.1) p.2 q.2

-- the effect of many slots begins with the effect of the first ones
pub After-front : (version : Version) (sector : List ℕ) (count total : ℕ) (base x : Settings) → count ≤ total → After version sector total base x → (y : Settings) × After version sector count base y
After-front version sector count zero base x le p =
    let e : count ≡ 0 = omega (arith, le) in
    (x, subst (λ n. After version sector n base x) (sym e) p)
After-front version sector count (suc total) base x le p =
    elim (cases_eq count (suc total)) [
      | inl e ↦ (x, subst (λ n. After version sector n base x) (sym e) p)
      | inr ne ↦ After-front version sector count total base p.0 (omega (arith, ne, le)) p.1
    ]

-- equal slots have the same effect
pub After-slots : (version : Version) (old new : List ℕ) (count : ℕ) (base x : Settings) → ((k : ℕ) → k < count → slot_at new k ≡ slot_at old k) → After version old count base x → After version new count base x
After-slots version old new zero base x same p = p
After-slots version old new (suc count) base x same p =
    (p.0, After-slots version old new count base p.0 (λ k h. same k (omega arith)) p.1, subst (λ slot. Follows version slot p.0 x) (sym (same count (omega arith))) p.2)

-- closed slots after the first ones change nothing
pub After-closed : (version : Version) (sector : List ℕ) (count total : ℕ) (base x : Settings) → count ≤ total → ((k : ℕ) → count ≤ k → k < total → slot_gate (slot_at sector k) ≢ 0) → After version sector count base x → After version sector total base x
After-closed version sector count zero base x le closed p =
    let e : count ≡ 0 = omega (arith, le) in
    subst (λ n. After version sector n base x) e p
After-closed version sector count (suc total) base x le closed p =
    elim (cases_eq count (suc total)) [
      | inl e ↦ subst (λ n. After version sector n base x) e p
      | inr ne ↦
          (x, After-closed version sector count total base x (omega (arith, ne, le)) (λ k h l. closed k h (omega arith)) p, inl (closed total (omega (arith, ne, le)) (omega arith), refl))
    ]

Follows-closed : (version : Version) (slot : List ℕ) (x y : Settings) → slot_gate slot ≢ 0 → Follows version slot x y → y ≡ x
Follows-closed version slot x y closed (inl p) = p.1
Follows-closed version slot x y closed (inr p) = absurd (closed p.0)

pub After-open : (version : Version) (sector : List ℕ) (count total : ℕ) (base x : Settings) → count ≤ total → ((k : ℕ) → count ≤ k → k < total → slot_gate (slot_at sector k) ≢ 0) → After version sector total base x → After version sector count base x
After-open version sector count zero base x le closed p =
    let e : count ≡ 0 = omega (arith, le) in
    subst (λ n. After version sector n base x) (sym e) p
After-open version sector count (suc total) base x le closed p =
    elim (cases_eq count (suc total)) [
      | inl e ↦ subst (λ n. After version sector n base x) (sym e) p
      | inr ne ↦
          (let same = Follows-closed version (slot_at sector total) p.0 x (closed total (omega (arith, ne, le)) (omega arith)) p.2 in
          subst (λ s. After version sector count base s) (sym same) (After-open version sector count total base p.0 (omega (arith, ne, le)) (λ k h l. closed k h (omega arith)) p.1))
    ]

-- ---- blank slots

erased_255 : get_or (erased 256) 255 0 ≡ 255
erased_255 = get_or-replicate {A = ℕ} 256 255 255 0 (lit< tt)

255≢0 : ◌≡◌ {A = ℕ} 255 0 → ⊥
255≢0 e = cc

-- the gate of a blank slot is closed
pub blank_closed : (slot : List ℕ) → slot ≡ erased 256 → slot_gate slot ≢ 0
blank_closed slot e gate = 255≢0 (sym (ap (λ bytes. get_or bytes 255 0) e ∙ erased_255) ∙ gate)

pub blank_is : (slot : List ℕ) → slot ≡ erased 256 → is_blank slot ≡ true
blank_is slot e = rw e refl

pub blank_from : (slot : List ℕ) → is_blank slot ≡ true → slot ≡ erased 256
blank_from slot e = same_text slot (erased 256) (sym e)

-- a slot whose gate is open is not blank
pub open_not : (slot : List ℕ) → slot_gate slot ≡ 0 → is_blank slot ≡ false
open_not slot gate = false_from_ne_true (is_blank slot) (λ e. blank_closed slot (blank_from slot e) gate)

-- blank slots change nothing
pub After-blank : (version : Version) (sector : List ℕ) (count : ℕ) (base : Settings) → ((k : ℕ) → k < count → slot_at sector k ≡ erased 256) → After version sector count base base
After-blank version sector zero base blank = refl
After-blank version sector (suc count) base blank =
    (base, After-blank version sector count base (λ k h. blank k (omega arith)), inl (blank_closed (slot_at sector count) (blank count (omega arith)), refl))

-- ---- the next slot

pub next_le : (sector : List ℕ) (count : ℕ) → next_slot sector count ≤ count
next_le sector zero = lit≤ tt
next_le sector (suc count) =
    cond_both (is_blank (slot_at sector count)) (next_slot sector count) (suc count) (λ n. n ≤ suc count) (λ _. (let h = next_le sector count in omega arith)) (λ _. omega arith)

-- from the next slot on each slot is blank
pub next_blank : (sector : List ℕ) (count k : ℕ) → next_slot sector count ≤ k → k < count → slot_at sector k ≡ erased 256
next_blank sector zero k le lt = absurd (omega arith)
next_blank sector (suc count) k le lt =
    elim (cases_Bool (is_blank (slot_at sector count))) [
      | inl blank ↦
          (let e = cond-true (is_blank (slot_at sector count)) (next_slot sector count) (suc count) blank in
          elim (cases_eq k count) [
            | inl same ↦ subst (λ j. slot_at sector j ≡ erased 256) (sym same) (blank_from (slot_at sector count) blank)
            | inr less ↦ next_blank sector count k (omega (arith, e, le)) (omega (arith, less, lt))
          ])
      | inr used ↦
          (let e = cond-false (is_blank (slot_at sector count)) (next_slot sector count) (suc count) used in
          absurd (omega (arith, e, le, lt)))
    ]

-- if each slot is blank, the first one is the next
pub next_none : (sector : List ℕ) (count : ℕ) → ((k : ℕ) → k < count → slot_at sector k ≡ erased 256) → next_slot sector count ≡ 0
next_none sector zero blank = refl
next_none sector (suc count) blank =
    cond-true _ _ _ (blank_is (slot_at sector count) (blank count (omega arith))) ∙ next_none sector count (λ k h. blank k (omega arith))

-- if a slot is not blank and those after it are, the one after it is the next
pub next_after : (sector : List ℕ) (count k : ℕ) → k < count → is_blank (slot_at sector k) ≡ false → ((j : ℕ) → k < j → j < count → slot_at sector j ≡ erased 256) → next_slot sector count ≡ suc k
next_after sector zero k lt used blank = absurd (omega arith)
next_after sector (suc count) k lt used blank =
    elim (cases_eq k count) [
      | inl same ↦ (cond-false _ _ _ (subst (λ j. is_blank (slot_at sector j) ≡ false) same used) ∙ ap suc (sym same))
      | inr less ↦
          (cond-true _ _ _ (blank_is (slot_at sector count) (blank count (omega (arith, less, lt)) (omega arith)))
          ∙ next_after sector count k (omega (arith, less, lt)) used (λ j h l. blank j h (omega arith)))
    ]
