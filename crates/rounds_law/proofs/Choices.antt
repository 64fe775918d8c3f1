-- Choices, and Booleans that are joined.
use Rattle.std.proofs.Common.{◌≡◌, ◌&&◌, Bool, true, false, refl, ap}
use Rattle.std.specs.Prelude.{if◌then◌else◌}

-- A choice whose condition is true is its first value.
pub where_so : {A : Type 0} (is : Bool) (x y : A) → is ≡ true → (if is then x else y) ≡ x
where_so is x y e = ap (λ (b : Bool). if b then x else y) e

-- A choice whose condition is false is its second value.
pub where_not : {A : Type 0} (is : Bool) (x y : A) → is ≡ false → (if is then x else y) ≡ y
where_not is x y e = ap (λ (b : Bool). if b then x else y) e

-- A choice whose two conditions are both true is its first value.
pub where_both : {A : Type 0} (a b : Bool) (x y : A) → a ≡ true → b ≡ true → (if a && b then x else y) ≡ x
where_both true true x y e h = refl
where_both true false x y e h = absurd cc
where_both false b x y e h = absurd cc

-- Two Booleans that are both true.
pub both_true : (a b : Bool) → a ≡ true → b ≡ true → (a && b) ≡ true
both_true true b e f = f
both_true false b e f = absurd cc

-- A Boolean, and false.
pub and_false : (a : Bool) → (a && false) ≡ false
and_false true = refl
and_false false = refl
