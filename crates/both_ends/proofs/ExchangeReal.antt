-- What is plugged elsewhere after a pull or a plug, and the sizes of what is plugged.
use Rattle.std.proofs.Common.{◌≡◌, ◌⊎◌, inl, inr, ◌==◌, ◌&&◌, ◌<◌, ℕ, Bool, true, false, cond, not, List, [], ◌∷◌, length, Option, Some, None, option_map, refl, sym, ap, subst, ◌∙◌, arith}
use Rattle.std.specs.Prelude.{is_none, nat_le, nat_lt, unwrap_or}
use Rattle.std.specs.List.{AllByRecursion, find}
use Rattle.std.proofs.lemmas.Bool.{and_parts, eq-eqb, eqb-true, leb-true, ltb-true}
use Rattle.pn_values.specs.declared.real.RealModule.{RealModule}
use Rattle.pn_values.specs.declared.real.RealSubmodule.{RealSubmodule}
use Rattle.module_diff.specs.Changes.{added, has_room_in, is_in_slot, is_in_subslot, is_past_slot, is_past_subslot, is_pluggable, is_sized, module_with, part_added, part_pulled, plugged_with, pulled, slot_pulled, with_before, with_first, with_parts, without}
use Rattle.module_diff.specs.Plugged.{module_ident, module_in, part_ident, part_ident_of, submodule_ident}
use Rattle.both_ends.specs.exchange.Sized.{AreSizedModules, HasNoneAtZero, IsPastZero, IsSizedModule, IsSizedPart, NoneIsAtZero}
use Rattle.both_ends.proofs.ExchangeLists.{some_is}
use Rattle.both_ends.proofs.ExchangeSmall.{found_is}

-- ---- lists

module _ {A : Type 0} where
  -- without the first one that passes a test, another test finds what it found
  pub without_find : (test other : A → Bool) → ((x : A) → test x ≡ true → other x ≡ false) → (xs ys : List A) → without test xs ≡ Some ys → find other ys ≡ find other xs
  without_find test other apart [] ys e = absurd cc
  without_find test other apart (x ∷ xs) ys e = by_test (λ zs f. without_find test other apart xs zs f) (test x) refl e
    where
      by_rest : ((zs : List A) → without test xs ≡ Some zs → find other zs ≡ find other xs) → (rest : Option (List A)) → without test xs ≡ rest
          → option_map (λ (zs : List A). x ∷ zs) rest ≡ Some ys → find other ys ≡ find other (x ∷ xs)
      by_rest so None f g = absurd cc
      by_rest so (Some zs) f g =
          subst (λ (ws : List A). find other ws ≡ find other (x ∷ xs)) (some_is (x ∷ zs) ys g) (ap (λ (o : Option A). cond (other x) (Some x) o) (so zs f))

      by_test : ((zs : List A) → without test xs ≡ Some zs → find other zs ≡ find other xs) → (b : Bool) → test x ≡ b
          → cond b (Some xs) (option_map (λ (zs : List A). x ∷ zs) (without test xs)) ≡ Some ys → find other ys ≡ find other (x ∷ xs)
      by_test so true f g = subst (λ (ws : List A). find other ws ≡ find other (x ∷ xs)) (some_is xs ys g) (sym (ap (λ (b : Bool). cond b (Some x) (find other xs)) (apart x f)))
      by_test so false f g = by_rest so (without test xs) refl g

  -- what holds of each holds of each that remains
  pub without_all : (P : A → Type 0) (test : A → Bool) (xs ys : List A) → AllByRecursion P xs → without test xs ≡ Some ys → AllByRecursion P ys
  without_all P test [] ys all e = absurd cc
  without_all P test (x ∷ xs) ys all e = by_test (λ zs f. without_all P test xs zs all.1 f) (test x) e
    where
      by_rest : ((zs : List A) → without test xs ≡ Some zs → AllByRecursion P zs) → (rest : Option (List A)) → without test xs ≡ rest
          → option_map (λ (zs : List A). x ∷ zs) rest ≡ Some ys → AllByRecursion P ys
      by_rest so None f g = absurd cc
      by_rest so (Some zs) f g = subst (λ (ws : List A). AllByRecursion P ws) (some_is (x ∷ zs) ys g) (all.0, so zs f)

      by_test : ((zs : List A) → without test xs ≡ Some zs → AllByRecursion P zs) → (b : Bool)
          → cond b (Some xs) (option_map (λ (zs : List A). x ∷ zs) (without test xs)) ≡ Some ys → AllByRecursion P ys
      by_test so true g = subst (λ (ws : List A). AllByRecursion P ws) (some_is xs ys g) all.1
      by_test so false g = by_rest so (without test xs) refl g

  -- one of them passed the test
  pub record IsWithout (P : A → Type 0) (test : A → Bool) : Type 0 where
    pub one : A
    pub passes : test one ≡ true
    pub holds : P one

  pub without_one : (P : A → Type 0) (test : A → Bool) (xs ys : List A) → AllByRecursion P xs → without test xs ≡ Some ys → IsWithout P test
  without_one P test [] ys all e = absurd cc
  without_one P test (x ∷ xs) ys all e = by_test (λ zs f. without_one P test xs zs all.1 f) (test x) refl e
    where
      by_rest : ((zs : List A) → without test xs ≡ Some zs → IsWithout P test) → (rest : Option (List A)) → without test xs ≡ rest
          → option_map (λ (zs : List A). x ∷ zs) rest ≡ Some ys → IsWithout P test
      by_rest so None f g = absurd cc
      by_rest so (Some zs) f g = so zs f

      by_test : ((zs : List A) → without test xs ≡ Some zs → IsWithout P test) → (b : Bool) → test x ≡ b
          → cond b (Some xs) (option_map (λ (zs : List A). x ∷ zs) (without test xs)) ≡ Some ys → IsWithout P test
      by_test so true f g = record { one = x; passes = f; holds = all.0 }
      by_test so false f g = by_rest so (without test xs) refl g

  module _ (test : A → Bool) (change : A → Option A) where
    -- the first one that passes the test is changed to another
    pub record IsFirst (xs ys : List A) : Type 0 where
      pub from : A
      pub to : A
      pub found : find test xs ≡ Some from
      pub changed : change from ≡ Some to
      pub after : find test ys ≡ Some to

    -- a test that neither passes finds what it found
    pub first_find : (other : A → Bool) → ((x : A) → test x ≡ true → other x ≡ false) → ((x y : A) → test x ≡ true → change x ≡ Some y → other y ≡ false)
        → (xs ys : List A) → with_first test change xs ≡ Some ys → find other ys ≡ find other xs
    first_find other apart later [] ys e = absurd cc
    first_find other apart later (x ∷ xs) ys e = by_test (λ zs f. first_find other apart later xs zs f) (test x) refl e
      where
        by_rest : ((zs : List A) → with_first test change xs ≡ Some zs → find other zs ≡ find other xs) → (rest : Option (List A)) → with_first test change xs ≡ rest
            → option_map (λ (zs : List A). x ∷ zs) rest ≡ Some ys → find other ys ≡ find other (x ∷ xs)
        by_rest so None f g = absurd cc
        by_rest so (Some zs) f g =
            subst (λ (ws : List A). find other ws ≡ find other (x ∷ xs)) (some_is (x ∷ zs) ys g) (ap (λ (o : Option A). cond (other x) (Some x) o) (so zs f))

        by_change : test x ≡ true → (one : Option A) → change x ≡ one → option_map (λ (y : A). y ∷ xs) one ≡ Some ys → find other ys ≡ find other (x ∷ xs)
        by_change f None h g = absurd cc
        by_change f (Some y) h g =
            subst (λ (ws : List A). find other ws ≡ find other (x ∷ xs)) (some_is (y ∷ xs) ys g)
            (ap (λ (b : Bool). cond b (Some y) (find other xs)) (later x y f h) ∙ sym (ap (λ (b : Bool). cond b (Some x) (find other xs)) (apart x f)))

        by_test : ((zs : List A) → with_first test change xs ≡ Some zs → find other zs ≡ find other xs) → (b : Bool) → test x ≡ b
            → cond b (option_map (λ (y : A). y ∷ xs) (change x)) (option_map (λ (zs : List A). x ∷ zs) (with_first test change xs)) ≡ Some ys → find other ys ≡ find other (x ∷ xs)
        by_test so true f g = by_change f (change x) refl g
        by_test so false f g = by_rest so (with_first test change xs) refl g

    -- the test finds the changed one
    pub first_found : ((x y : A) → test x ≡ true → change x ≡ Some y → test y ≡ true) → (xs ys : List A) → with_first test change xs ≡ Some ys → IsFirst xs ys
    first_found keeps [] ys e = absurd cc
    first_found keeps (x ∷ xs) ys e = by_test (λ zs f. first_found keeps xs zs f) (test x) refl e
      where
        by_rest : ((zs : List A) → with_first test change xs ≡ Some zs → IsFirst xs zs) → test x ≡ false → (rest : Option (List A)) → with_first test change xs ≡ rest
            → option_map (λ (zs : List A). x ∷ zs) rest ≡ Some ys → IsFirst (x ∷ xs) ys
        by_rest so h None f g = absurd cc
        by_rest so h (Some zs) f g =
            let there = so zs f in
            subst (λ (ws : List A). IsFirst (x ∷ xs) ws) (some_is (x ∷ zs) ys g) (record {
              from = there.from;
              to = there.to;
              found = ap (λ (b : Bool). cond b (Some x) (find test xs)) h ∙ there.found;
              changed = there.changed;
              after = ap (λ (b : Bool). cond b (Some x) (find test zs)) h ∙ there.after;
            })

        by_change : test x ≡ true → (one : Option A) → change x ≡ one → option_map (λ (y : A). y ∷ xs) one ≡ Some ys → IsFirst (x ∷ xs) ys
        by_change f None h g = absurd cc
        by_change f (Some y) h g =
            subst (λ (ws : List A). IsFirst (x ∷ xs) ws) (some_is (y ∷ xs) ys g) (record {
              from = x;
              to = y;
              found = ap (λ (b : Bool). cond b (Some x) (find test xs)) f;
              changed = h;
              after = ap (λ (b : Bool). cond b (Some y) (find test xs)) (keeps x y f h);
            })

        by_test : ((zs : List A) → with_first test change xs ≡ Some zs → IsFirst xs zs) → (b : Bool) → test x ≡ b
            → cond b (option_map (λ (y : A). y ∷ xs) (change x)) (option_map (λ (zs : List A). x ∷ zs) (with_first test change xs)) ≡ Some ys → IsFirst (x ∷ xs) ys
        by_test so true f g = by_change f (change x) refl g
        by_test so false f g = by_rest so f (with_first test change xs) refl g

    -- what the change keeps holds of each
    pub first_all : (P : A → Type 0) → ((x y : A) → P x → change x ≡ Some y → P y) → (xs ys : List A) → AllByRecursion P xs → with_first test change xs ≡ Some ys → AllByRecursion P ys
    first_all P keeps [] ys all e = absurd cc
    first_all P keeps (x ∷ xs) ys all e = by_test (λ zs f. first_all P keeps xs zs all.1 f) (test x) e
      where
        by_rest : ((zs : List A) → with_first test change xs ≡ Some zs → AllByRecursion P zs) → (rest : Option (List A)) → with_first test change xs ≡ rest
            → option_map (λ (zs : List A). x ∷ zs) rest ≡ Some ys → AllByRecursion P ys
        by_rest so None f g = absurd cc
        by_rest so (Some zs) f g = subst (λ (ws : List A). AllByRecursion P ws) (some_is (x ∷ zs) ys g) (all.0, so zs f)

        by_change : (one : Option A) → change x ≡ one → option_map (λ (y : A). y ∷ xs) one ≡ Some ys → AllByRecursion P ys
        by_change None h g = absurd cc
        by_change (Some y) h g = subst (λ (ws : List A). AllByRecursion P ws) (some_is (y ∷ xs) ys g) (keeps x y all.0 h, all.1)

        by_test : ((zs : List A) → with_first test change xs ≡ Some zs → AllByRecursion P zs) → (b : Bool)
            → cond b (option_map (λ (y : A). y ∷ xs) (change x)) (option_map (λ (zs : List A). x ∷ zs) (with_first test change xs)) ≡ Some ys → AllByRecursion P ys
        by_test so true g = by_change (change x) refl g
        by_test so false g = by_rest so (with_first test change xs) refl g

    -- if the change is always possible and none is changed, none passes the test
    pub none_first : ((x : A) → change x ≡ None → ⊥) → (xs : List A) → with_first test change xs ≡ None → find test xs ≡ None
    none_first can [] e = refl
    none_first can (x ∷ xs) e = by_test (λ f. none_first can xs f) (test x) e
      where
        by_rest : (with_first test change xs ≡ None → find test xs ≡ None) → (rest : Option (List A)) → with_first test change xs ≡ rest
            → option_map (λ (zs : List A). x ∷ zs) rest ≡ None → find test xs ≡ None
        by_rest so None f g = so f
        by_rest so (Some zs) f g = absurd cc

        by_change : (one : Option A) → change x ≡ one → option_map (λ (y : A). y ∷ xs) one ≡ None → ⊥
        by_change None h g = can x h
        by_change (Some y) h g = absurd cc

        by_test : (with_first test change xs ≡ None → find test xs ≡ None) → (b : Bool)
            → cond b (option_map (λ (y : A). y ∷ xs) (change x)) (option_map (λ (zs : List A). x ∷ zs) (with_first test change xs)) ≡ None
            → cond b (Some x) (find test xs) ≡ None
        by_test so true g = absurd (by_change (change x) refl g)
        by_test so false g = by_rest so (with_first test change xs) refl g

  module _ (test : A → Bool) (y : A) where
    -- with one more, a test that it does not pass finds what it found
    pub before_find : (other : A → Bool) → other y ≡ false → (xs : List A) → find other (with_before test y xs) ≡ find other xs
    before_find other apart [] = ap (λ (b : Bool). cond b (Some y) (find other [])) apart
    before_find other apart (x ∷ xs) = by_test (before_find other apart xs) (test x)
      where
        by_test : find other (with_before test y xs) ≡ find other xs → (b : Bool) → find other (cond b (y ∷ x ∷ xs) (x ∷ with_before test y xs)) ≡ find other (x ∷ xs)
        by_test so true = ap (λ (b : Bool). cond b (Some y) (find other (x ∷ xs))) apart
        by_test so false = ap (λ (o : Option A). cond (other x) (Some x) o) so

    -- a test that it passes finds it, if it found none
    pub before_found : (own : A → Bool) → own y ≡ true → (xs : List A) → find own xs ≡ None → find own (with_before test y xs) ≡ Some y
    before_found own is [] e = ap (λ (b : Bool). cond b (Some y) (find own [])) is
    before_found own is (x ∷ xs) e = by_test (λ f. before_found own is xs f) (test x) (own x) refl e
      where
        by_test : (find own xs ≡ None → find own (with_before test y xs) ≡ Some y) → (b c : Bool) → own x ≡ c → cond c (Some x) (find own xs) ≡ None
            → find own (cond b (y ∷ x ∷ xs) (x ∷ with_before test y xs)) ≡ Some y
        by_test so true c f g = ap (λ (d : Bool). cond d (Some y) (find own (x ∷ xs))) is
        by_test so false true f g = absurd cc
        by_test so false false f g = ap (λ (d : Bool). cond d (Some x) (find own (with_before test y xs))) f ∙ so g

    pub before_all : (P : A → Type 0) → P y → (xs : List A) → AllByRecursion P xs → AllByRecursion P (with_before test y xs)
    before_all P is [] all = (is, tt)
    before_all P is (x ∷ xs) all = by_test (before_all P is xs all.1) (test x)
      where
        by_test : AllByRecursion P (with_before test y xs) → (b : Bool) → AllByRecursion P (cond b (y ∷ x ∷ xs) (x ∷ with_before test y xs))
        by_test so true = (is, (all.0, all.1))
        by_test so false = (all.0, so)

taken : {A : Type 0} (b : Bool) (x after : A) → cond b (Some x) None ≡ Some after → (b ≡ true) × (x ≡ after)
taken true x after e = (refl, cc)
taken false x after e = absurd cc

-- ---- what is plugged elsewhere

-- At this slot and subslot the same is plugged after a change, or nothing before it and after it.
abbrev pub IsSameAt : List RealModule → List RealModule → ℕ → ℕ → Type 0
IsSameAt real now slot subslot =
    ((module_ident now slot ≡ module_ident real slot) × (submodule_ident now slot subslot ≡ submodule_ident real slot subslot))
    ⊎ ((submodule_ident real slot subslot ≡ None) × (submodule_ident now slot subslot ≡ None))

same_by : (real now : List RealModule) (slot subslot : ℕ) → module_in now slot ≡ module_in real slot → IsSameAt real now slot subslot
same_by real now slot subslot e =
    inl (ap (λ (o : Option RealModule). option_map (λ (entry : RealModule). entry.ident) o) e, ap (λ (o : Option RealModule). part_ident_of o subslot) e)

other_slot : (slot other : ℕ) → (slot == other) ≡ false → (entry : RealModule) → (entry.slot == slot) ≡ true → (entry.slot == other) ≡ false
other_slot slot other apart entry is = ap (λ (n : ℕ). n == other) (eqb-true entry.slot slot is) ∙ apart

other_subslot : (subslot other : ℕ) → (subslot == other) ≡ false → (part : RealSubmodule) → (part.subslot == subslot) ≡ true → (part.subslot == other) ≡ false
other_subslot subslot other apart part is = ap (λ (n : ℕ). n == other) (eqb-true part.subslot subslot is) ∙ apart

-- a module without a submodule is in its slot
pub record IsPartPulled (subslot : ℕ) (from to : RealModule) : Type 0 where
  pub rest : List RealSubmodule
  pub left : without (is_in_subslot subslot) from.submodules.items ≡ Some rest
  pub is : to ≡ with_parts from rest

pub part_left : (subslot : ℕ) (from to : RealModule) → part_pulled subslot from ≡ Some to → IsPartPulled subslot from to
part_left subslot from to e = by_rest (without (is_in_subslot subslot) from.submodules.items) refl e
  where
    by_rest : (rest : Option (List RealSubmodule)) → without (is_in_subslot subslot) from.submodules.items ≡ rest → option_map (with_parts from) rest ≡ Some to → IsPartPulled subslot from to
    by_rest None f g = absurd cc
    by_rest (Some rest) f g = record { rest = rest; left = f; is = sym (some_is (with_parts from rest) to g) }

pulled_slot : (subslot : ℕ) (from to : RealModule) → part_pulled subslot from ≡ Some to → to.slot ≡ from.slot
pulled_slot subslot from to e = ap (λ (m : RealModule). m.slot) (part_left subslot from to e).is

-- the same is plugged in another subslot of a changed module
same_in : (real now : List RealModule) (slot subslot : ℕ) (from to : RealModule) → module_in real slot ≡ Some from → module_in now slot ≡ Some to → to.ident ≡ from.ident
    → part_ident to.submodules.items subslot ≡ part_ident from.submodules.items subslot → IsSameAt real now slot subslot
same_in real now slot subslot from to found after ident parts = inl (
  ap (λ (o : Option RealModule). option_map (λ (entry : RealModule). entry.ident) o) after
      ∙ (ap (λ (n : ℕ). let o : Option ℕ = Some n in o) ident ∙ sym (ap (λ (o : Option RealModule). option_map (λ (entry : RealModule). entry.ident) o) found)),
  ap (λ (o : Option RealModule). part_ident_of o subslot) after ∙ (parts ∙ sym (ap (λ (o : Option RealModule). part_ident_of o subslot) found)),
)

-- after a pull
pub pull_same : (slot subslot : ℕ) (real now : List RealModule) → pulled slot subslot real ≡ Some now → (other there : ℕ) → (slot == other && subslot == there) ≡ false → IsSameAt real now other there
pull_same slot subslot real now e other there apart = by_slot (slot == other) refl apart
  where
    by_slot : (b : Bool) → (slot == other) ≡ b → (b && subslot == there) ≡ false → IsSameAt real now other there
    by_slot false f g =
        same_by real now other there
        (first_find (is_in_slot slot) (part_pulled subslot) (λ (entry : RealModule). entry.slot == other) (other_slot slot other f)
        (λ x y is changed. ap (λ (n : ℕ). n == other) (pulled_slot subslot x y changed) ∙ other_slot slot other f x is) real now e)
    by_slot true f g =
        let first = first_found (is_in_slot slot) (part_pulled subslot) (λ x y is changed. ap (λ (n : ℕ). n == slot) (pulled_slot subslot x y changed) ∙ is) real now e in
        let left = part_left subslot first.from first.to first.changed in
        subst (λ (n : ℕ). IsSameAt real now n there) (eqb-true slot other f)
        (same_in real now slot there first.from first.to first.found first.after (ap (λ (m : RealModule). m.ident) left.is)
        (ap (λ (m : RealModule). part_ident m.submodules.items there) left.is
        ∙ ap (λ (o : Option RealSubmodule). option_map (λ (part : RealSubmodule). part.ident) o)
        (without_find (is_in_subslot subslot) (λ (part : RealSubmodule). part.subslot == there) (other_subslot subslot there g) first.from.submodules.items left.rest left.left)))

-- after the pull of a module
pub slot_pull_same : (slot : ℕ) (real now : List RealModule) → slot_pulled slot real ≡ Some now → (other there : ℕ) → (slot == other) ≡ false → IsSameAt real now other there
slot_pull_same slot real now e other there apart =
    same_by real now other there (without_find (is_in_slot slot) (λ (entry : RealModule). entry.slot == other) (other_slot slot other apart) real now e)

-- ---- a plug

-- what may be plugged: its slot and its subslot are small, and there is room
pub record MayPlug (slot ident : ℕ) (part : RealSubmodule) (real now : List RealModule) : Type 0 where
  pub slot_few : nat_le slot 15 ≡ true
  pub subslot_few : nat_le part.subslot 36863 ≡ true
  pub past_zero : nat_lt 0 part.subslot ≡ true
  pub room : has_room_in (module_in real slot) (length real) ident part.subslot ≡ true
  pub is : added slot ident part real ≡ now

pub may_plug : (slot ident : ℕ) (part : RealSubmodule) (real now : List RealModule) → plugged_with slot ident part real ≡ Some now → MayPlug slot ident part real now
may_plug slot ident part real now e =
    let all = taken (is_pluggable slot ident part real) (added slot ident part real) now e in
    let room = has_room_in (module_in real slot) (length real) ident part.subslot in
    let one = and_parts (nat_lt 0 slot) (nat_le slot 15 && (not (ident == 0) && (is_sized part && room))) all.0 in
    let two = and_parts (nat_le slot 15) (not (ident == 0) && (is_sized part && room)) one.1 in
    let three = and_parts (not (ident == 0)) (is_sized part && room) two.1 in
    let four = and_parts (is_sized part) room three.1 in
    let five = and_parts (nat_lt 0 part.subslot) _ four.0 in
    let six = and_parts (nat_le part.subslot 36863) _ five.1 in
    record { slot_few = two.0; subslot_few = six.0; past_zero = five.0; room = four.1; is = all.1 }

abbrev pub add_to : RealSubmodule → RealModule → Option RealModule
add_to part entry = Some (part_added part entry)

added_slot : (part : RealSubmodule) (from to : RealModule) → add_to part from ≡ Some to → to.slot ≡ from.slot
added_slot part from to e = sym (ap (λ (m : RealModule). m.slot) (some_is (part_added part from) to e))

can_add : (part : RealSubmodule) (entry : RealModule) → add_to part entry ≡ None → ⊥
can_add part entry e = absurd cc

pub plug_same : (slot ident : ℕ) (part : RealSubmodule) (real now : List RealModule) → plugged_with slot ident part real ≡ Some now
    → (other there : ℕ) → (slot == other && part.subslot == there) ≡ false → IsSameAt real now other there
plug_same slot ident part real now e other there apart =
    subst (λ (ms : List RealModule). IsSameAt real ms other there) (may_plug slot ident part real now e).is
    (by_first (with_first (is_in_slot slot) (add_to part) real) refl (slot == other) refl apart)
  where
    new : RealModule
    new = module_with slot ident part

    by_first : (found : Option (List RealModule)) → with_first (is_in_slot slot) (add_to part) real ≡ found → (b : Bool) → (slot == other) ≡ b → (b && part.subslot == there) ≡ false
        → IsSameAt real (unwrap_or found (with_before (is_past_slot slot) (module_with slot ident part) real)) other there
    by_first (Some ys) f false g h =
        same_by real ys other there
        (first_find (is_in_slot slot) (add_to part) (λ (entry : RealModule). entry.slot == other) (other_slot slot other g)
        (λ x y is changed. ap (λ (n : ℕ). n == other) (added_slot part x y changed) ∙ other_slot slot other g x is) real ys f)
    by_first (Some ys) f true g h =
        let first = first_found (is_in_slot slot) (add_to part) (λ x y is changed. ap (λ (n : ℕ). n == slot) (added_slot part x y changed) ∙ is) real ys f in
        let is : part_added part first.from ≡ first.to = some_is (part_added part first.from) first.to first.changed in
        subst (λ (n : ℕ). IsSameAt real ys n there) (eqb-true slot other g)
        (same_in real ys slot there first.from first.to first.found first.after (sym (ap (λ (m : RealModule). m.ident) is))
        (sym (ap (λ (m : RealModule). part_ident m.submodules.items there) is)
        ∙ ap (λ (o : Option RealSubmodule). option_map (λ (p : RealSubmodule). p.ident) o)
        (before_find (is_past_subslot part.subslot) part (λ (p : RealSubmodule). p.subslot == there) h first.from.submodules.items)))
    by_first None f false g h =
        same_by real (with_before (is_past_slot slot) new real) other there (before_find (is_past_slot slot) new (λ (entry : RealModule). entry.slot == other) g real)
    by_first None f true g h =
        let none = none_first (is_in_slot slot) (add_to part) (can_add part) real f in
        subst (λ (n : ℕ). IsSameAt real (with_before (is_past_slot slot) new real) n there) (eqb-true slot other g) (inr (
          ap (λ (o : Option RealModule). part_ident_of o there) none,
          ap (λ (o : Option RealModule). part_ident_of o there) (before_found (is_past_slot slot) new (is_in_slot slot) (eq-eqb slot slot refl) real none)
              ∙ ap (λ (b : Bool). option_map (λ (p : RealSubmodule). p.ident) (cond b (Some part) None)) h,
        ))

-- nothing is plugged where something is plugged
pub plug_empty : (slot ident : ℕ) (part : RealSubmodule) (real now : List RealModule) → plugged_with slot ident part real ≡ Some now → submodule_ident real slot part.subslot ≡ None
plug_empty slot ident part real now e = by_module (module_in real slot) (may_plug slot ident part real now e).room
  where
    none_is : (o : Option ℕ) → is_none o ≡ true → o ≡ None
    none_is None f = refl
    none_is (Some n) f = absurd cc

    by_module : (found : Option RealModule) → has_room_in found (length real) ident part.subslot ≡ true → part_ident_of found part.subslot ≡ None
    by_module None f = refl
    by_module (Some entry) f =
        let parts = and_parts (entry.ident == ident) (is_none (part_ident entry.submodules.items part.subslot) && nat_lt (length entry.submodules.items) 4) f in
        let empty = and_parts (is_none (part_ident entry.submodules.items part.subslot)) (nat_lt (length entry.submodules.items) 4) parts.1 in
        none_is (part_ident entry.submodules.items part.subslot) empty.0

-- ---- sizes

pub pull_sized : (slot subslot : ℕ) (real now : List RealModule) → AreSizedModules real → pulled slot subslot real ≡ Some now → AreSizedModules now
pull_sized slot subslot real now sized e =
    first_all (is_in_slot slot) (part_pulled subslot) IsSizedModule (λ x y is changed.
    let left = part_left subslot x y changed in
    subst (λ (m : RealModule). IsSizedModule m) (sym left.is)
    (is.0, is.1, without_all IsSizedPart (is_in_subslot subslot) x.submodules.items left.rest is.2 left.left)) real now sized e

pub slot_pull_sized : (slot : ℕ) (real now : List RealModule) → AreSizedModules real → slot_pulled slot real ≡ Some now → AreSizedModules now
slot_pull_sized slot real now sized e = without_all IsSizedModule (is_in_slot slot) real now sized e

pub slot_small : (slot ident : ℕ) (part : RealSubmodule) (real now : List RealModule) → MayPlug slot ident part real now → slot < 65536
slot_small slot ident part real now may = let few = leb-true slot 15 may.slot_few in omega (arith, few)

pub subslot_small : (slot ident : ℕ) (part : RealSubmodule) (real now : List RealModule) → MayPlug slot ident part real now → part.subslot < 65536
subslot_small slot ident part real now may = let few = leb-true part.subslot 36863 may.subslot_few in omega (arith, few)

pub plug_sized : (slot ident : ℕ) (part : RealSubmodule) (real now : List RealModule) → AreSizedModules real → ident < 4294967296 → part.ident < 4294967296
    → plugged_with slot ident part real ≡ Some now → AreSizedModules now
plug_sized slot ident part real now sized small_ident small_part e =
    subst (λ (ms : List RealModule). AreSizedModules ms) may.is (by_first (with_first (is_in_slot slot) (add_to part) real) refl)
  where
    may : MayPlug slot ident part real now
    may = may_plug slot ident part real now e

    own : IsSizedPart part
    own = (subslot_small slot ident part real now may, small_part)

    by_first : (found : Option (List RealModule)) → with_first (is_in_slot slot) (add_to part) real ≡ found
        → AreSizedModules (unwrap_or found (with_before (is_past_slot slot) (module_with slot ident part) real))
    by_first (Some ys) f =
        first_all (is_in_slot slot) (add_to part) IsSizedModule (λ x y is changed.
        subst (λ (m : RealModule). IsSizedModule m) (some_is (part_added part x) y changed)
        (is.0, is.1, before_all (is_past_subslot part.subslot) part IsSizedPart own x.submodules.items is.2)) real ys sized f
    by_first None f = before_all (is_past_slot slot) (module_with slot ident part) IsSizedModule (slot_small slot ident part real now may, small_ident, (own, tt)) real sized

-- ---- subslot 0

-- while nothing is plugged in a subslot 0, nothing is pulled there
pub pull_past_zero : (slot subslot : ℕ) (real now : List RealModule) → NoneIsAtZero real → pulled slot subslot real ≡ Some now → 0 < subslot
pull_past_zero slot subslot real now none e =
    let first = first_found (is_in_slot slot) (part_pulled subslot) (λ x y is changed. ap (λ (n : ℕ). n == slot) (pulled_slot subslot x y changed) ∙ is) real now e in
    let left = part_left subslot first.from first.to first.changed in
    let one = without_one IsPastZero (is_in_subslot subslot) first.from.submodules.items left.rest (found_is HasNoneAtZero (is_in_slot slot) real first.from none first.found).0 left.left in
    subst (λ (n : ℕ). 0 < n) (eqb-true one.one.subslot subslot one.passes) one.holds

-- and nothing is afterwards
pub pull_none : (slot subslot : ℕ) (real now : List RealModule) → NoneIsAtZero real → pulled slot subslot real ≡ Some now → NoneIsAtZero now
pull_none slot subslot real now none e =
    first_all (is_in_slot slot) (part_pulled subslot) HasNoneAtZero (λ x y is changed.
    let left = part_left subslot x y changed in
    subst (λ (m : RealModule). HasNoneAtZero m) (sym left.is) (without_all IsPastZero (is_in_subslot subslot) x.submodules.items left.rest is left.left)) real now none e

pub slot_pull_none : (slot : ℕ) (real now : List RealModule) → NoneIsAtZero real → slot_pulled slot real ≡ Some now → NoneIsAtZero now
slot_pull_none slot real now none e = without_all HasNoneAtZero (is_in_slot slot) real now none e

pub plug_none : (slot ident : ℕ) (part : RealSubmodule) (real now : List RealModule) → NoneIsAtZero real → plugged_with slot ident part real ≡ Some now → NoneIsAtZero now
plug_none slot ident part real now none e =
    subst (λ (ms : List RealModule). NoneIsAtZero ms) may.is (by_first (with_first (is_in_slot slot) (add_to part) real) refl)
  where
    may : MayPlug slot ident part real now
    may = may_plug slot ident part real now e

    own : IsPastZero part
    own = ltb-true 0 part.subslot may.past_zero

    by_first : (found : Option (List RealModule)) → with_first (is_in_slot slot) (add_to part) real ≡ found
        → NoneIsAtZero (unwrap_or found (with_before (is_past_slot slot) (module_with slot ident part) real))
    by_first (Some ys) f =
        first_all (is_in_slot slot) (add_to part) HasNoneAtZero (λ x y is changed.
        subst (λ (m : RealModule). HasNoneAtZero m) (some_is (part_added part x) y changed)
        (before_all (is_past_subslot part.subslot) part IsPastZero own x.submodules.items is)) real ys none f
    by_first None f = before_all (is_past_slot slot) (module_with slot ident part) HasNoneAtZero (own, tt) real none
