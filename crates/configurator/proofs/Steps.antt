-- One more module, or one more slot.
use Rattle.std.proofs.Common.{if◌then◌else◌, ◌≡◌, ◌==◌, ◌&&◌, ◌||◌, ◌∙◌, ◌<◌, ◌+◌, ℕ, refl, sym, ap, subst, Bool, true, false, cond, List, [], ◌∷◌, Option, Some, None, is_some, arith}
use Rattle.std.specs.Option.{option_or}
use Rattle.std.specs.Ordering.{is_eq, nat_cmp}
use Rattle.std.proofs.lemmas.Bool.Decides.{nat_tests}
use Rattle.std.specs.Str.{bytes_eq}
use Rattle.std.specs.BTreeMap.{BTreeMap, get}
use Rattle.std.specs.BTreeMap as tree
use Rattle.std.specs.BTreeSet.{BTreeSet, contains}
use Rattle.std.specs.BTreeSet as sorted
use Rattle.std.proofs.lemmas.Bool.{eqb-true, false≢true}
use Rattle.std.proofs.lemmas.Slice.Eq.{bytes_eq-Decides}
use Rattle.catalogue.specs.Modules.{Module, has_id}
use Rattle.configurator.specs.Allowed.{is_in}
use Rattle.configurator.specs.Known.{AreNumbers, place_cmp}

-- ---- slots

pub cmp_is : (x y : ℕ) → is_eq (nat_cmp x y) ≡ (x == y)
cmp_is x y = grind (arith, nat_tests)

pub place_is : (slot n other m : ℕ) → is_eq (place_cmp (slot, n) (other, m)) ≡ (slot == other && n == m)
place_is slot n other m = grind (arith, nat_tests)

or_updated : (a b c : Bool) → (cond b true a || c) ≡ (a || (b || c))
or_updated true true c = refl
or_updated true false c = refl
or_updated false true c = refl
or_updated false false c = refl

-- a set to which one slot was added, and the remaining slots
pub slot_more : (old new : BTreeSet ℕ) (slot : ℕ) → sorted.Updates nat_cmp old new slot true → (slots : List ℕ) (other : ℕ)
    → (contains nat_cmp new other || is_in other slots) ≡ (contains nat_cmp old other || is_in other (slot ∷ slots))
slot_more old new slot updates slots other =
    ap (λ (b : Bool). b || is_in other slots) (updates.0 other ∙ ap (λ (b : Bool). cond b true (contains nat_cmp old other)) (cmp_is slot other))
    ∙ or_updated (contains nat_cmp old other) (slot == other) (is_in other slots)

-- the pairs of slots and a module
place_updated : (a b c d : Bool) → (cond (b && c) true a || (c && d)) ≡ (a || (c && (b || d)))
place_updated true true true d = refl
place_updated true true false d = refl
place_updated true false true d = refl
place_updated true false false d = refl
place_updated false true true d = refl
place_updated false true false d = refl
place_updated false false true d = refl
place_updated false false false d = refl

pub place_more : (old new : BTreeSet (ℕ × ℕ)) (slot number : ℕ) → sorted.Updates place_cmp old new (slot, number) true → (slots : List ℕ) (other n : ℕ)
    → (contains place_cmp new (other, n) || (number == n && is_in other slots)) ≡ (contains place_cmp old (other, n) || (number == n && is_in other (slot ∷ slots)))
place_more old new slot number updates slots other n =
    ap (λ (b : Bool). b || (number == n && is_in other slots))
    (updates.0 (other, n) ∙ ap (λ (b : Bool). cond b true (contains place_cmp old (other, n))) (place_is slot number other n))
    ∙ place_updated (contains place_cmp old (other, n)) (slot == other) (number == n) (is_in other slots)

-- ---- what is fixed

absent : (o : Option ℕ) → is_some o ≡ false → o ≡ None
absent None e = refl
absent (Some x) e = absurd cc

-- a module is noted in a slot in which none was
pub fixed_there : (old new : BTreeMap ℕ ℕ) (slot number : ℕ) → tree.Updates nat_cmp old new slot (Some number) → is_some (get nat_cmp old slot) ≡ false → (other : ℕ)
    → get nat_cmp new other ≡ option_or (get nat_cmp old other) (if slot == other then Some number else None)
fixed_there old new slot number updates none other =
    updates.0 other ∙ ap (λ (b : Bool). cond b (Some number) (get nat_cmp old other)) (cmp_is slot other)
    ∙ either (get nat_cmp old other) (slot == other) (λ e. subst (λ (n : ℕ). get nat_cmp old n ≡ None) (eqb-true slot other e) (absent (get nat_cmp old slot) none))
  where
    either : (o : Option ℕ) (b : Bool) → (b ≡ true → o ≡ None) → cond b (Some number) o ≡ option_or o (if b then Some number else None)
    either o true gone = rw (gone refl) refl
    either None false gone = refl
    either (Some x) false gone = refl

-- one was noted already
pub kept_there : (old : BTreeMap ℕ ℕ) (slot number : ℕ) → is_some (get nat_cmp old slot) ≡ true → (other : ℕ)
    → get nat_cmp old other ≡ option_or (get nat_cmp old other) (if slot == other then Some number else None)
kept_there old slot number some other = either (get nat_cmp old other) (slot == other) (λ e. subst (λ (n : ℕ). is_some (get nat_cmp old n) ≡ true) (eqb-true slot other e) some)
  where
    either : (o : Option ℕ) (b : Bool) → (b ≡ true → is_some o ≡ true) → o ≡ option_or o (if b then Some number else None)
    either (Some x) b there = refl
    either None true there = absurd (false≢true (there refl))
    either None false there = refl

-- one more slot, and the remaining ones
pub fix_more : (o p : Option ℕ) (number slot other : ℕ) (slots : List ℕ) → p ≡ option_or o (if slot == other then Some number else None)
    → option_or p (if is_in other slots then Some number else None) ≡ option_or o (if is_in other (slot ∷ slots) then Some number else None)
fix_more o p number slot other slots is = ap (λ (q : Option ℕ). option_or q (if is_in other slots then Some number else None)) is ∙ either o (slot == other) (is_in other slots)
  where
    either : (o : Option ℕ) (b c : Bool) → option_or (option_or o (if b then Some number else None)) (if c then Some number else None) ≡ option_or o (if b || c then Some number else None)
    either (Some x) b c = refl
    either None true c = refl
    either None false c = refl

pub option_or_updated : (a b c : Option ℕ) → option_or (option_or a b) c ≡ option_or a (option_or b c)
option_or_updated None b c = refl
option_or_updated (Some x) b c = refl

pub or_or_updated : (a b c : Bool) → ((a || b) || c) ≡ (a || (b || c))
or_or_updated true b c = refl
or_or_updated false b c = refl

pub and_or_updated : (a c x y : Bool) → ((a || (c && x)) || (c && y)) ≡ (a || (c && (x || y)))
and_or_updated true c x y = refl
and_or_updated false true x y = refl
and_or_updated false false x y = refl

pub or_nothing : (a : Bool) → (a || false) ≡ a
or_nothing true = refl
or_nothing false = refl

pub option_or_nothing : (o : Option ℕ) → option_or o None ≡ o
option_or_nothing None = refl
option_or_nothing (Some x) = refl

-- ---- numbers

-- the modules with numbers and the remaining ones are all; each number is less than the next one
pub record AreNumbered (modules rest : List Module) (next : ℕ) (number : List ℕ → Option ℕ) : Type 0 where
  pub known : (id : List ℕ) → (is_some (number id) || has_id id rest) ≡ has_id id modules
  pub below : (id : List ℕ) (n : ℕ) → number id ≡ Some n → n < next
  pub apart : (one other : List ℕ) (n : ℕ) → number one ≡ Some n → number other ≡ Some n → one ≡ other

some_is : (m n : ℕ) → Some m ≡ Some n → m ≡ n
some_is m n e = cc

-- one more module has a number
pub numbered_more : (modules rest : List Module) (entry : Module) (next : ℕ) (old new : List ℕ → Option ℕ)
    → AreNumbered modules (entry ∷ rest) next old → ((id : List ℕ) → new id ≡ cond (bytes_eq entry.id id) (Some next) (old id))
    → AreNumbered modules rest (next + 1) new
numbered_more modules rest entry next old new before is = record {
  known = λ id. ap (λ (o : Option ℕ). is_some o || has_id id rest) (is id) ∙ found (bytes_eq entry.id id) (old id) (has_id id rest) ∙ before.known id;
  below = λ id n e. lower (bytes_eq entry.id id) (old id) n (before.below id n) (sym (is id) ∙ e);
  apart = λ one other n e f.
      same one other n (bytes_eq entry.id one) (bytes_eq entry.id other) (λ t. (bytes_eq-Decides entry.id one).0 t) (λ t. (bytes_eq-Decides entry.id other).0 t)
      (sym (is one) ∙ e) (sym (is other) ∙ f);
}
  where
    found : (b : Bool) (o : Option ℕ) (c : Bool) → (is_some (cond b (Some next) o) || c) ≡ (is_some o || (b || c))
    found true None c = refl
    found true (Some x) c = refl
    found false o c = refl

    lower : (b : Bool) (o : Option ℕ) (n : ℕ) → (o ≡ Some n → n < next) → cond b (Some next) o ≡ Some n → n < next + 1
    lower true o n less e = omega (arith, some_is next n e)
    lower false o n less e = omega (arith, less e)

    same : (one other : List ℕ) (n : ℕ) (b c : Bool) → (b ≡ true → entry.id ≡ one) → (c ≡ true → entry.id ≡ other)
        → cond b (Some next) (old one) ≡ Some n → cond c (Some next) (old other) ≡ Some n → one ≡ other
    same one other n true true mine yours e f = sym (mine refl) ∙ yours refl
    same one other n true false mine yours e f = absurd (omega (arith, some_is next n e, before.below other n f))
    same one other n false true mine yours e f = absurd (omega (arith, some_is next n f, before.below one n e))
    same one other n false false mine yours e f = before.apart one other n e f

pub none_numbered : (modules : List Module) (number : List ℕ → Option ℕ) → ((id : List ℕ) → number id ≡ None) → AreNumbered modules modules 0 number
none_numbered modules number none = record {
  known = λ id. ap (λ (o : Option ℕ). is_some o || has_id id modules) (none id);
  below = λ id n e. absurd (gone n (sym (none id) ∙ e));
  apart = λ one other n e f. absurd (gone n (sym (none one) ∙ e));
}
  where
    gone : (n : ℕ) → None ≡ Some n → ⊥
    gone n e = absurd cc

pub all_numbered : (modules : List Module) (next : ℕ) (number : List ℕ → Option ℕ) → AreNumbered modules [] next number → AreNumbers modules number
all_numbered modules next number all = record { known = λ id. sym (or_nothing (is_some (number id))) ∙ all.known id; apart = all.apart }

pub or_none : (a b : Bool) → (a || (b && false)) ≡ a
or_none true b = refl
or_none false true = refl
or_none false false = refl
