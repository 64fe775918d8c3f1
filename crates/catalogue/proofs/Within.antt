-- What was read is in its range.
use Rattle.std.proofs.Common.{subst, if◌then◌else◌, ◌≡◌, ◌≢◌, ◌≤◌, ◌∙◌, ◌++◌, ◌&&◌, ℕ, refl, sym, ap, List, [], ◌∷◌, length, Bool, true, false, cond, Option, Some, None, Result, Ok, Err, nat_le, nat_lt}
use Rattle.std.specs.List.{AllByRecursion, list_any}
use Rattle.std.specs.Str.{bytes_eq}
use Rattle.std.specs.Option.{ok_or}
use Rattle.std.proofs.lemmas.Bool.{and_parts, leb-true, eqb-false}
use Rattle.serde_json.specs.Data.{Data, Items, no_items, item}
use Rattle.wire.proofs.Fields.{bind_ok, ok_is}
use Rattle.catalogue.specs.declared.keys.key.Key.{Key}
use Rattle.catalogue.specs.declared.keys.fault.CatalogueFault.{CatalogueFault}
use Rattle.catalogue.specs.declared.keys.fault.CatalogueFault.TheVariants.{Number}
use Rattle.catalogue.specs.declared.keys.fault.PlacedFault.{PlacedFault}
use Rattle.catalogue.specs.declared.keys.fault.Step.{Step}
use Rattle.catalogue.specs.declared.keys.fault.Step.TheVariants.{At, Entry}
use Rattle.catalogue.specs.keys.Placed.{behind, placed}
use Rattle.catalogue.specs.keys.Reader.{◌>>=◌, Reader, each, whole, within, number, number_at, member, list_at, items_of}

-- a value that passed a test
pub passed : {F A : Type 0} (b : Bool) (fault : F) (x y : A) → cond b (Ok x) (Err fault) ≡ Ok y → (b ≡ true) × (x ≡ y)
passed true fault x y e = (refl, ok_is x y e)
passed false fault x y e = absurd cc

-- the reading after a test that found no fault
pub went_on : {F A : Type 0} (b : Bool) (fault : F) (r : Result A F) (y : A) → cond b (Err fault) r ≡ Ok y → (b ≡ false) × (r ≡ Ok y)
went_on true fault r y e = absurd cc
went_on false fault r y e = (refl, e)

-- a value that exists
pub there : {F A : Type 0} (o : Option A) (fault : F) (y : A) → ok_or o fault ≡ Ok y → o ≡ Some y
there None fault y e = absurd cc
there (Some x) fault y e = cc

-- a reading without a fault has no place
pub placed_ok : {A : Type 0} (key : Key) (r : Result A CatalogueFault) (y : A) → placed key r ≡ Ok y → r ≡ Ok y
placed_ok key (Ok x) y e = ap Ok (ok_is x y e)
placed_ok key (Err fault) y e = absurd cc

pub behind_ok : {A : Type 0} (step : Step) (r : Result A PlacedFault) (y : A) → behind step r ≡ Ok y → r ≡ Ok y
behind_ok step (Ok x) y e = ap Ok (ok_is x y e)
behind_ok step (Err found) y e = absurd cc

within_range : (least greatest m n : ℕ) → within least greatest m ≡ Ok n → (least ≤ n) × (n ≤ greatest)
within_range least greatest m n e =
    let g = passed (nat_le least m && nat_le m greatest) Number m n e in
    let p = and_parts (nat_le least m) (nat_le m greatest) g.0 in
    subst (λ k. (least ≤ k) × (k ≤ greatest)) g.1 (leb-true least m p.0, leb-true m greatest p.1)

in_range : (least greatest : ℕ) (tree : Data) (n : ℕ) → number least greatest tree ≡ Ok n → (least ≤ n) × (n ≤ greatest)
unfolding number
in_range least greatest tree n e =
    let a = bind_ok (whole tree) (within least greatest) n e in
    within_range least greatest a.0 n a.2

-- a number at a key is in its range
pub number_within : (key : Key) (least greatest : ℕ) (tree : Data) (n : ℕ) → number_at key least greatest tree ≡ Ok n → (least ≤ n) × (n ≤ greatest)
unfolding number_at
number_within key least greatest tree n e =
    let a = bind_ok (member key tree) (λ value. placed key (number least greatest value)) n e in
    in_range least greatest a.0 n (placed_ok key (number least greatest a.0) n a.2)

-- what holds after each entry, if it held before it, holds of the whole list
pub each_keeps : {A : Type 0} (reader : List A → Reader A) (P : List A → Type 0)
    → ((before : List A) (value : A) (tree : Data) → P before → reader before tree ≡ Ok value → P (before ++ value ∷ []))
    → (before : List A) (trees : Items) (found : List A) → P before → each reader before trees ≡ Ok found → P found
each_keeps reader P step before no_items found kept e = subst P (ok_is {F = PlacedFault} before found e) kept
each_keeps reader P step before (item tree trees) found kept e =
    let a = bind_ok (behind (Entry (length before)) (reader before tree)) (λ value. each reader (before ++ value ∷ []) trees) found e in
    each_keeps reader P step (before ++ a.0 ∷ []) trees found (step before a.0 tree kept (behind_ok (Entry (length before)) (reader before tree) a.0 a.1)) a.2

-- the same for the list at a key
pub list_keeps : {A : Type 0} (reader : List A → Reader A) (P : List A → Type 0)
    → ((before : List A) (value : A) (tree : Data) → P before → reader before tree ≡ Ok value → P (before ++ value ∷ []))
    → (key : Key) (tree : Data) (found : List A) → P [] → list_at key reader tree ≡ Ok found → P found
unfolding list_at
list_keeps reader P step key tree found kept e =
    let a = bind_ok (items_of key tree) (λ trees. behind (At key) (each reader [] trees)) found e in
    each_keeps reader P step [] a.0 found kept (behind_ok (At key) (each reader [] a.0) found a.2)

-- ---- lists

pub all_behind : {A : Type 0} (P : A → Type 0) (xs : List A) (x : A) → AllByRecursion P xs → P x → AllByRecursion P (xs ++ x ∷ [])
all_behind P [] x all one = (one, tt)
all_behind P (y ∷ ys) x all one = (all.0, all_behind P ys x all.1 one)

-- what holds of each entry holds of all
pub list_of : {A : Type 0} (reader : List A → Reader A) (P : A → Type 0)
    → ((before : List A) (value : A) (tree : Data) → reader before tree ≡ Ok value → P value)
    → (key : Key) (tree : Data) (found : List A) → list_at key reader tree ≡ Ok found → AllByRecursion P found
list_of reader P step key tree found e =
    list_keeps reader (AllByRecursion P) (λ before value tree kept e. all_behind P before value kept (step before value tree e)) key tree found tt e
