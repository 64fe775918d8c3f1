-- What is plugged after a pull or a plug, if each slot has at most one module and each subslot at most one submodule.
use Rattle.std.proofs.Common.{◌≡◌, ◌==◌, ◌||◌, ℕ, Bool, true, false, cond, List, [], ◌∷◌, Option, Some, None, option_map, refl, sym, ap, subst, ◌∙◌}
use Rattle.std.specs.Prelude.{unwrap_or}
use Rattle.std.specs.List.{AllByRecursion, find, list_any}
use Rattle.std.proofs.lemmas.Bool.{eq-eqb, eqb-true, or_parts, true≢false}
use Rattle.pn_values.specs.declared.real.RealModule.{RealModule}
use Rattle.pn_values.specs.declared.real.RealSubmodule.{RealSubmodule}
use Rattle.module_diff.specs.Changes.{is_in_slot, is_in_subslot, is_past_slot, is_past_subslot, module_with, part_added, part_pulled, plugged_with, pulled, slot_pulled, with_before, with_first, without}
use Rattle.module_diff.specs.Plugged.{part_ident, part_ident_of, submodule_ident}
use Rattle.both_ends.proofs.ExchangeLists.{some_is}
use Rattle.both_ends.proofs.ExchangeReal.{add_to, before_all, first_all, first_found, may_plug, none_first, part_left, plug_empty, without_all}
use Rattle.both_ends.proofs.ExchangeSmall.{found_is}
use Rattle.places_law.specs.Agreed.{AreApart, ArePluggedApart, HasPartsApart}

-- ---- lists

pub eqb_turned : (a b : ℕ) → (a == b) ≡ (b == a)
eqb_turned a b = by_test (a == b) refl (b == a) refl
  where
    by_test : (c : Bool) → (a == b) ≡ c → (d : Bool) → (b == a) ≡ d → c ≡ d
    by_test true e d f = sym (eq-eqb b a (sym (eqb-true a b e))) ∙ f
    by_test false e true f = absurd (true≢false (sym (eq-eqb a b (sym (eqb-true b a f))) ∙ e))
    by_test false e false f = refl

or_false : (a b : Bool) → a ≡ false → b ≡ false → (a || b) ≡ false
or_false a b e f = ap (λ (c : Bool). c || b) e ∙ f

module _ {A : Type 0} where
  pub none_found : (test : A → Bool) (xs : List A) → list_any test xs ≡ false → find test xs ≡ None
  none_found test [] e = refl
  none_found test (x ∷ xs) e =
      let parts = or_parts (test x) (list_any test xs) e in
      ap (λ (b : Bool). cond b (Some x) (find test xs)) parts.0 ∙ none_found test xs parts.1

  pub found_none : (test : A → Bool) (xs : List A) → find test xs ≡ None → list_any test xs ≡ false
  found_none test [] e = refl
  found_none test (x ∷ xs) e = by_test (test x) refl e (λ f. found_none test xs f)
    where
      by_test : (b : Bool) → test x ≡ b → cond b (Some x) (find test xs) ≡ None → (find test xs ≡ None → list_any test xs ≡ false) → (test x || list_any test xs) ≡ false
      by_test true f g later = absurd cc
      by_test false f g later = or_false (test x) (list_any test xs) f (later g)

  -- what none is, none that remains is
  any_without : (test other : A → Bool) (xs ys : List A) → list_any other xs ≡ false → without test xs ≡ Some ys → list_any other ys ≡ false
  any_without test other [] ys none e = absurd cc
  any_without test other (x ∷ xs) ys none e = by_test (test x) e (λ zs f. any_without test other xs zs parts.1 f)
    where
      parts : (other x ≡ false) × (list_any other xs ≡ false)
      parts = or_parts (other x) (list_any other xs) none

      by_rest : (rest : Option (List A)) → without test xs ≡ rest → option_map (λ (zs : List A). x ∷ zs) rest ≡ Some ys
          → ((zs : List A) → without test xs ≡ Some zs → list_any other zs ≡ false) → list_any other ys ≡ false
      by_rest None f g later = absurd cc
      by_rest (Some zs) f g later = subst (λ (ws : List A). list_any other ws ≡ false) (some_is (x ∷ zs) ys g) (or_false (other x) (list_any other zs) parts.0 (later zs f))

      by_test : (b : Bool) → cond b (Some xs) (option_map (λ (zs : List A). x ∷ zs) (without test xs)) ≡ Some ys
          → ((zs : List A) → without test xs ≡ Some zs → list_any other zs ≡ false) → list_any other ys ≡ false
      by_test true g later = subst (λ (ws : List A). list_any other ws ≡ false) (some_is xs ys g) parts.1
      by_test false g later = by_rest (without test xs) refl g later

  any_before : (test other : A → Bool) (y : A) (xs : List A) → other y ≡ false → list_any other xs ≡ false → list_any other (with_before test y xs) ≡ false
  any_before test other y [] apart none = or_false (other y) false apart refl
  any_before test other y (x ∷ xs) apart none = by_test (test x) (any_before test other y xs apart parts.1)
    where
      parts : (other x ≡ false) × (list_any other xs ≡ false)
      parts = or_parts (other x) (list_any other xs) none

      by_test : (b : Bool) → list_any other (with_before test y xs) ≡ false → list_any other (cond b (y ∷ x ∷ xs) (x ∷ with_before test y xs)) ≡ false
      by_test true rest = or_false (other y) (other x || list_any other xs) apart none
      by_test false rest = or_false (other x) (list_any other (with_before test y xs)) parts.0 rest

  module _ (number : A → ℕ) where
    -- no other has the number of the one that was pulled out
    pub apart_without : (k : ℕ) (xs ys : List A) → AreApart number xs → without (λ (x : A). number x == k) xs ≡ Some ys → list_any (λ (x : A). number x == k) ys ≡ false
    apart_without k [] ys apart e = absurd cc
    apart_without k (x ∷ xs) ys apart e = by_test (number x == k) refl e (λ zs f. apart_without k xs zs apart.1 f)
      where
        by_rest : (number x == k) ≡ false → (rest : Option (List A)) → without (λ (y : A). number y == k) xs ≡ rest → option_map (λ (zs : List A). x ∷ zs) rest ≡ Some ys
            → ((zs : List A) → without (λ (y : A). number y == k) xs ≡ Some zs → list_any (λ (y : A). number y == k) zs ≡ false) → list_any (λ (y : A). number y == k) ys ≡ false
        by_rest h None f g later = absurd cc
        by_rest h (Some zs) f g later =
            subst (λ (ws : List A). list_any (λ (y : A). number y == k) ws ≡ false) (some_is (x ∷ zs) ys g) (or_false (number x == k) (list_any (λ (y : A). number y == k) zs) h (later zs f))

        by_test : (b : Bool) → (number x == k) ≡ b → cond b (Some xs) (option_map (λ (zs : List A). x ∷ zs) (without (λ (y : A). number y == k) xs)) ≡ Some ys
            → ((zs : List A) → without (λ (y : A). number y == k) xs ≡ Some zs → list_any (λ (y : A). number y == k) zs ≡ false) → list_any (λ (y : A). number y == k) ys ≡ false
        by_test true f g later =
            subst (λ (ws : List A). list_any (λ (y : A). number y == k) ws ≡ false) (some_is xs ys g)
            (ap (λ (n : ℕ). list_any (λ (y : A). number y == n) xs) (sym (eqb-true (number x) k f)) ∙ apart.0)
        by_test false f g later = by_rest f (without (λ (y : A). number y == k) xs) refl g later

    pub apart_kept : (test : A → Bool) (xs ys : List A) → AreApart number xs → without test xs ≡ Some ys → AreApart number ys
    apart_kept test [] ys apart e = absurd cc
    apart_kept test (x ∷ xs) ys apart e = by_test (test x) e (λ zs f. apart_kept test xs zs apart.1 f)
      where
        by_rest : (rest : Option (List A)) → without test xs ≡ rest → option_map (λ (zs : List A). x ∷ zs) rest ≡ Some ys
            → ((zs : List A) → without test xs ≡ Some zs → AreApart number zs) → AreApart number ys
        by_rest None f g later = absurd cc
        by_rest (Some zs) f g later =
            subst (λ (ws : List A). AreApart number ws) (some_is (x ∷ zs) ys g) (any_without test (λ (y : A). number y == number x) xs zs apart.0 f, later zs f)

        by_test : (b : Bool) → cond b (Some xs) (option_map (λ (zs : List A). x ∷ zs) (without test xs)) ≡ Some ys
            → ((zs : List A) → without test xs ≡ Some zs → AreApart number zs) → AreApart number ys
        by_test true g later = subst (λ (ws : List A). AreApart number ws) (some_is xs ys g) apart.1
        by_test false g later = by_rest (without test xs) refl g later

    pub apart_before : (test : A → Bool) (y : A) (xs : List A) → list_any (λ (x : A). number x == number y) xs ≡ false → AreApart number xs → AreApart number (with_before test y xs)
    apart_before test y [] none apart = (refl, tt)
    apart_before test y (x ∷ xs) none apart = by_test (test x) (apart_before test y xs parts.1 apart.1)
      where
        parts : ((number x == number y) ≡ false) × (list_any (λ (z : A). number z == number y) xs ≡ false)
        parts = or_parts (number x == number y) (list_any (λ (z : A). number z == number y) xs) none

        by_test : (b : Bool) → AreApart number (with_before test y xs) → AreApart number (cond b (y ∷ x ∷ xs) (x ∷ with_before test y xs))
        by_test true rest = (none, apart)
        by_test false rest = (any_before test (λ (z : A). number z == number x) y xs (eqb_turned (number y) (number x) ∙ parts.0) apart.0, rest)

    module _ (test : A → Bool) (change : A → Option A) (keeps : (x y : A) → change x ≡ Some y → number y ≡ number x) where
      any_first : (k : ℕ) (xs ys : List A) → with_first test change xs ≡ Some ys → list_any (λ (x : A). number x == k) xs ≡ false → list_any (λ (x : A). number x == k) ys ≡ false
      any_first k [] ys e none = absurd cc
      any_first k (x ∷ xs) ys e none = by_test (test x) e (λ zs f. any_first k xs zs f parts.1)
        where
          parts : ((number x == k) ≡ false) × (list_any (λ (z : A). number z == k) xs ≡ false)
          parts = or_parts (number x == k) (list_any (λ (z : A). number z == k) xs) none

          by_rest : (rest : Option (List A)) → with_first test change xs ≡ rest → option_map (λ (zs : List A). x ∷ zs) rest ≡ Some ys
              → ((zs : List A) → with_first test change xs ≡ Some zs → list_any (λ (z : A). number z == k) zs ≡ false) → list_any (λ (z : A). number z == k) ys ≡ false
          by_rest None f g later = absurd cc
          by_rest (Some zs) f g later =
              subst (λ (ws : List A). list_any (λ (z : A). number z == k) ws ≡ false) (some_is (x ∷ zs) ys g) (or_false (number x == k) (list_any (λ (z : A). number z == k) zs) parts.0 (later zs f))

          by_change : (one : Option A) → change x ≡ one → option_map (λ (y : A). y ∷ xs) one ≡ Some ys → list_any (λ (z : A). number z == k) ys ≡ false
          by_change None f g = absurd cc
          by_change (Some y) f g =
              subst (λ (ws : List A). list_any (λ (z : A). number z == k) ws ≡ false) (some_is (y ∷ xs) ys g)
              (or_false (number y == k) (list_any (λ (z : A). number z == k) xs) (ap (λ (n : ℕ). n == k) (keeps x y f) ∙ parts.0) parts.1)

          by_test : (b : Bool) → cond b (option_map (λ (y : A). y ∷ xs) (change x)) (option_map (λ (zs : List A). x ∷ zs) (with_first test change xs)) ≡ Some ys
              → ((zs : List A) → with_first test change xs ≡ Some zs → list_any (λ (z : A). number z == k) zs ≡ false) → list_any (λ (z : A). number z == k) ys ≡ false
          by_test true g later = by_change (change x) refl g
          by_test false g later = by_rest (with_first test change xs) refl g later

      pub apart_first : (xs ys : List A) → AreApart number xs → with_first test change xs ≡ Some ys → AreApart number ys
      apart_first [] ys apart e = absurd cc
      apart_first (x ∷ xs) ys apart e = by_test (test x) e (λ zs f. apart_first xs zs apart.1 f)
        where
          by_rest : (rest : Option (List A)) → with_first test change xs ≡ rest → option_map (λ (zs : List A). x ∷ zs) rest ≡ Some ys
              → ((zs : List A) → with_first test change xs ≡ Some zs → AreApart number zs) → AreApart number ys
          by_rest None f g later = absurd cc
          by_rest (Some zs) f g later = subst (λ (ws : List A). AreApart number ws) (some_is (x ∷ zs) ys g) (any_first (number x) xs zs f apart.0, later zs f)

          by_change : (one : Option A) → change x ≡ one → option_map (λ (y : A). y ∷ xs) one ≡ Some ys → AreApart number ys
          by_change None f g = absurd cc
          by_change (Some y) f g =
              subst (λ (ws : List A). AreApart number ws) (some_is (y ∷ xs) ys g) (ap (λ (n : ℕ). list_any (λ (z : A). number z == n) xs) (keeps x y f) ∙ apart.0, apart.1)

          by_test : (b : Bool) → cond b (option_map (λ (y : A). y ∷ xs) (change x)) (option_map (λ (zs : List A). x ∷ zs) (with_first test change xs)) ≡ Some ys
              → ((zs : List A) → with_first test change xs ≡ Some zs → AreApart number zs) → AreApart number ys
          by_test true g later = by_change (change x) refl g
          by_test false g later = by_rest (with_first test change xs) refl g later

  -- what the change of the first one gives, and what held of the others
  first_one : (P : A → Type 0) (test : A → Bool) (change : A → Option A) (xs ys : List A) → ((x y : A) → find test xs ≡ Some x → P x → change x ≡ Some y → P y)
      → AllByRecursion P xs → with_first test change xs ≡ Some ys → AllByRecursion P ys
  first_one P test change [] ys so all e = absurd cc
  first_one P test change (x ∷ xs) ys so all e = by_test (test x) refl e (λ none zs f. first_one P test change xs zs (λ one other found. so one other (ap (λ (b : Bool). cond b (Some x) (find test xs)) none ∙ found)) all.1 f)
    where
      by_rest : (rest : Option (List A)) → with_first test change xs ≡ rest → option_map (λ (zs : List A). x ∷ zs) rest ≡ Some ys
          → ((zs : List A) → with_first test change xs ≡ Some zs → AllByRecursion P zs) → AllByRecursion P ys
      by_rest None f g later = absurd cc
      by_rest (Some zs) f g later = subst (λ (ws : List A). AllByRecursion P ws) (some_is (x ∷ zs) ys g) (all.0, later zs f)

      by_change : test x ≡ true → (one : Option A) → change x ≡ one → option_map (λ (y : A). y ∷ xs) one ≡ Some ys → AllByRecursion P ys
      by_change h None f g = absurd cc
      by_change h (Some y) f g =
          subst (λ (ws : List A). AllByRecursion P ws) (some_is (y ∷ xs) ys g) (so x y (ap (λ (b : Bool). cond b (Some x) (find test xs)) h) all.0 f, all.1)

      by_test : (b : Bool) → test x ≡ b → cond b (option_map (λ (y : A). y ∷ xs) (change x)) (option_map (λ (zs : List A). x ∷ zs) (with_first test change xs)) ≡ Some ys
          → (test x ≡ false → (zs : List A) → with_first test change xs ≡ Some zs → AllByRecursion P zs) → AllByRecursion P ys
      by_test true f g later = by_change f (change x) refl g
      by_test false f g later = by_rest (with_first test change xs) refl g (later f)

-- ---- a pull

kept_slot : (subslot : ℕ) (x y : RealModule) → part_pulled subslot x ≡ Some y → y.slot ≡ x.slot
kept_slot subslot x y e = ap (λ (m : RealModule). m.slot) (part_left subslot x y e).is

pub pull_apart : (slot subslot : ℕ) (real now : List RealModule) → ArePluggedApart real → pulled slot subslot real ≡ Some now → ArePluggedApart now
pull_apart slot subslot real now apart e = (
  apart_first (λ (entry : RealModule). entry.slot) (is_in_slot slot) (part_pulled subslot) (kept_slot subslot) real now apart.0 e,
  first_all (is_in_slot slot) (part_pulled subslot) HasPartsApart (λ x y is changed.
      let left = part_left subslot x y changed in
      subst (λ (m : RealModule). HasPartsApart m) (sym left.is)
      (apart_kept (λ (part : RealSubmodule). part.subslot) (is_in_subslot subslot) x.submodules.items left.rest is left.left)) real now apart.1 e,
)

-- nothing is plugged where a submodule was pulled
pub pull_gone : (slot subslot : ℕ) (real now : List RealModule) → ArePluggedApart real → pulled slot subslot real ≡ Some now → submodule_ident now slot subslot ≡ None
pull_gone slot subslot real now apart e =
    let first = first_found (is_in_slot slot) (part_pulled subslot) (λ x y is changed. ap (λ (n : ℕ). n == slot) (kept_slot subslot x y changed) ∙ is) real now e in
    let left = part_left subslot first.from first.to first.changed in
    let own : HasPartsApart first.from = (found_is HasPartsApart (is_in_slot slot) real first.from apart.1 first.found).0 in
    ap (λ (o : Option RealModule). part_ident_of o subslot) first.after
    ∙ (ap (λ (m : RealModule). part_ident m.submodules.items subslot) left.is
    ∙ ap (λ (o : Option RealSubmodule). option_map (λ (part : RealSubmodule). part.ident) o)
    (none_found (λ (part : RealSubmodule). part.subslot == subslot) left.rest
    (apart_without (λ (part : RealSubmodule). part.subslot) subslot first.from.submodules.items left.rest own left.left)))

pub slot_pull_apart : (slot : ℕ) (real now : List RealModule) → ArePluggedApart real → slot_pulled slot real ≡ Some now → ArePluggedApart now
slot_pull_apart slot real now apart e =
    (apart_kept (λ (entry : RealModule). entry.slot) (is_in_slot slot) real now apart.0 e, without_all HasPartsApart (is_in_slot slot) real now apart.1 e)

pub slot_pull_gone : (slot : ℕ) (real now : List RealModule) → ArePluggedApart real → slot_pulled slot real ≡ Some now → (subslot : ℕ) → submodule_ident now slot subslot ≡ None
slot_pull_gone slot real now apart e subslot =
    ap (λ (o : Option RealModule). part_ident_of o subslot)
    (none_found (λ (entry : RealModule). entry.slot == slot) now (apart_without (λ (entry : RealModule). entry.slot) slot real now apart.0 e))

-- ---- a plug

added_kept : (part : RealSubmodule) (x y : RealModule) → add_to part x ≡ Some y → y.slot ≡ x.slot
added_kept part x y e = sym (ap (λ (m : RealModule). m.slot) (some_is (part_added part x) y e))

can_add : (part : RealSubmodule) (entry : RealModule) → add_to part entry ≡ None → ⊥
can_add part entry e = absurd cc

unplugged : (o : Option RealSubmodule) → option_map (λ (part : RealSubmodule). part.ident) o ≡ None → o ≡ None
unplugged None e = refl
unplugged (Some part) e = absurd cc

pub plug_apart : (slot ident : ℕ) (part : RealSubmodule) (real now : List RealModule) → ArePluggedApart real → plugged_with slot ident part real ≡ Some now → ArePluggedApart now
plug_apart slot ident part real now apart e =
    subst (λ (ms : List RealModule). ArePluggedApart ms) (may_plug slot ident part real now e).is (by_first (with_first (is_in_slot slot) (add_to part) real) refl)
  where
    own : (x y : RealModule) → find (is_in_slot slot) real ≡ Some x → HasPartsApart x → add_to part x ≡ Some y → HasPartsApart y
    own x y found is changed =
        subst (λ (m : RealModule). HasPartsApart m) (some_is (part_added part x) y changed)
        (apart_before (λ (p : RealSubmodule). p.subslot) (is_past_subslot part.subslot) part x.submodules.items
        (found_none (λ (p : RealSubmodule). p.subslot == part.subslot) x.submodules.items
        (unplugged (find (λ (p : RealSubmodule). p.subslot == part.subslot) x.submodules.items)
        (ap (λ (o : Option RealModule). part_ident_of o part.subslot) (sym found) ∙ plug_empty slot ident part real now e))) is)

    by_first : (found : Option (List RealModule)) → with_first (is_in_slot slot) (add_to part) real ≡ found
        → ArePluggedApart (unwrap_or found (with_before (is_past_slot slot) (module_with slot ident part) real))
    by_first (Some ys) f = (
      apart_first (λ (entry : RealModule). entry.slot) (is_in_slot slot) (add_to part) (added_kept part) real ys apart.0 f,
      first_one HasPartsApart (is_in_slot slot) (add_to part) real ys own apart.1 f,
    )
    by_first None f = (
      apart_before (λ (entry : RealModule). entry.slot) (is_past_slot slot) (module_with slot ident part) real
          (found_none (λ (entry : RealModule). entry.slot == slot) real (none_first (is_in_slot slot) (add_to part) (can_add part) real f)) apart.0,
      before_all (is_past_slot slot) (module_with slot ident part) HasPartsApart (refl, tt) real apart.1,
    )
