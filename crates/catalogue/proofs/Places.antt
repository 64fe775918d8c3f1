-- The first entry of a list that passes a test: its place, and a value of it.
use Rattle.std.proofs.Common.{if◌then◌else◌, ◌≡◌, ◌==◌, ◌∙◌, ◌++◌, ◌||◌, ℕ, zero, suc, refl, sym, ap, subst, Bool, true, false, cond, is_some, Option, Some, None, option_map, List, [], ◌∷◌, length, get_or, ◌<◌, arith}
use Rattle.std.specs.List.{list_any}
use Rattle.std.specs.Str.{bytes_eq}
use Rattle.std.specs.Ordering.{is_eq, nat_cmp}
use Rattle.std.specs.BTreeMap.{BTreeMap, Updates, get}
use Rattle.std.proofs.lemmas.Bool.{eqb-true}
use Rattle.std.proofs.lemmas.Bool.Decides.{nat_tests}
use Rattle.std.proofs.lemmas.Slice.Eq.{bytes_eq-Decides}
use Rattle.catalogue.specs.declared.submodule.ParameterItem.{ParameterItem}
use Rattle.catalogue.specs.Submodules.{Submodule, has_index, has_subslot, place_of, place_where}
use Rattle.catalogue.specs.Modules.{Module, has_id, submodules_of}
use Rattle.catalogue.specs.Modules as modules
use Rattle.catalogue.specs.Slots.{length_of, parameters_of}

-- ---- any list

pred_is : (m n : ℕ) → Some (suc m) ≡ Some (suc n) → Some m ≡ Some n
pred_is m n e = cc

-- an entry passes exactly if there is a place
pub placed : {A : Type 0} (test : A → Bool) (xs : List A) → is_some (place_where test xs) ≡ list_any test xs
placed test [] = refl
placed test (x ∷ xs) = first (test x) (place_where test xs) (list_any test xs) (placed test xs)
  where
    first : (b : Bool) (place : Option ℕ) (has : Bool) → is_some place ≡ has → is_some (if b then Some 0 else option_map suc place) ≡ (b || has)
    first true place has e = refl
    first false None has e = e
    first false (Some n) has e = e

-- the place is less than the length
pub is_there : {A : Type 0} (test : A → Bool) (xs : List A) (place : ℕ) → Some place ≡ place_where test xs → place < length xs
is_there test [] place is = absurd cc
is_there test (x ∷ xs) place is = first (test x) (place_where test xs) (length xs) place (λ n e. is_there test xs n (sym e)) is
  where
    first : (b : Bool) (rest : Option ℕ) (count place : ℕ) → ((n : ℕ) → rest ≡ Some n → n < count) → Some place ≡ (if b then Some 0 else option_map suc rest) → place < suc count
    first true rest count zero next is = omega arith
    first true rest count (suc n) next is = absurd cc
    first false None count place next is = absurd cc
    first false (Some n) count zero next is = absurd cc
    first false (Some n) count (suc m) next is = let below = next m (sym (pred_is m n is)) in omega arith

rest_not : (c has : Bool) → (c || has) ≡ false → has ≡ false
rest_not true has none = absurd cc
rest_not false has none = none

first_not : (c has : Bool) → c ≡ true → (c || has) ≡ false → ⊥
first_not true has is none = absurd cc
first_not false has is none = absurd cc

-- the place if one more entry is appended, which passes only if no entry before it does
pub place_behind : {A : Type 0} (test : A → Bool) (before : List A) (entry : A) → (test entry ≡ true → list_any test before ≡ false)
    → place_where test (before ++ entry ∷ []) ≡ cond (test entry) (Some (length before)) (place_where test before)
place_behind test [] entry new = refl
place_behind test (x ∷ xs) entry new =
    first (test x) (test entry) (length xs) (place_where test xs) (place_where test (xs ++ entry ∷ [])) (λ a b. first_not (test x) (list_any test xs) a (new b))
    (place_behind test xs entry (λ b. rest_not (test x) (list_any test xs) (new b)))
  where
    first : (a b : Bool) (n : ℕ) (rest more : Option ℕ) → (a ≡ true → b ≡ true → ⊥) → more ≡ cond b (Some n) rest
        → (if a then Some 0 else option_map suc more) ≡ cond b (Some (suc n)) (if a then Some 0 else option_map suc rest)
    first true true n rest more apart e = absurd (apart refl refl)
    first true false n rest more apart e = refl
    first false true n rest more apart e = ap (option_map suc) e
    first false false n rest more apart e = ap (option_map suc) e

-- the value of the entry at the place, and the value if there is no place
at_first : {A C : Type 0} (kept : A → C) (b : Bool) (x : A) (xs : List A) (rest : Option ℕ) (others : C) (place : ℕ) (d : A)
    → ((n : ℕ) → rest ≡ Some n → kept (get_or xs n d) ≡ others)
    → Some place ≡ (if b then Some 0 else option_map suc rest) → kept (get_or (x ∷ xs) place d) ≡ (if b then kept x else others)
at_first kept true x xs rest others zero d next is = refl
at_first kept true x xs rest others (suc n) d next is = absurd cc
at_first kept false x xs None others place d next is = absurd cc
at_first kept false x xs (Some n) others zero d next is = absurd cc
at_first kept false x xs (Some n) others (suc m) d next is = next m (sym (pred_is m n is))

none_first : {C : Type 0} (b : Bool) (rest : Option ℕ) (one others none : C) → (None ≡ rest → others ≡ none) → None ≡ (if b then Some 0 else option_map suc rest) → (if b then one else others) ≡ none
none_first true rest one others none next is = absurd cc
none_first false None one others none next is = next refl
none_first false (Some n) one others none next is = absurd cc

-- ---- modules by their IDs

pub placed_id : (id : List ℕ) (entries : List Module) → is_some (modules.place_of id entries) ≡ has_id id entries
placed_id id entries = placed (λ (other : Module). bytes_eq other.id id) entries

-- a module with a new ID is at the place after the others
pub id_behind : (before : List Module) (entry : Module) (id : List ℕ) → has_id entry.id before ≡ false
    → modules.place_of id (before ++ entry ∷ []) ≡ cond (bytes_eq entry.id id) (Some (length before)) (modules.place_of id before)
id_behind before entry id new =
    place_behind (λ (other : Module). bytes_eq other.id id) before entry (λ t. subst (λ (one : List ℕ). has_id one before ≡ false) ((bytes_eq-Decides entry.id id).0 t) new)

pub at_place : (id : List ℕ) (entries : List Module) (place : ℕ) (d : Module) → Some place ≡ modules.place_of id entries → (get_or entries place d).submodules ≡ submodules_of id entries
at_place id [] place d is = absurd cc
at_place id (entry ∷ entries) place d is =
    at_first (λ (one : Module). one.submodules) (bytes_eq entry.id id) entry entries (modules.place_of id entries) (submodules_of id entries) place d (λ n e. at_place id entries n d (sym e)) is

pub no_place : (id : List ℕ) (entries : List Module) → None ≡ modules.place_of id entries → submodules_of id entries ≡ []
no_place id [] is = refl
no_place id (entry ∷ entries) is = none_first (bytes_eq entry.id id) (modules.place_of id entries) entry.submodules (submodules_of id entries) [] (no_place id entries) is

pub module_there : (id : List ℕ) (entries : List Module) (place : ℕ) → Some place ≡ modules.place_of id entries → place < length entries
module_there id entries place is = is_there (λ (other : Module). bytes_eq other.id id) entries place is

-- ---- submodules by their subslots

pub subslotted : (subslot : ℕ) (entries : List Submodule) → is_some (place_of subslot entries) ≡ has_subslot subslot entries
subslotted subslot entries = placed (λ (other : Submodule). other.subslot == subslot) entries

-- a submodule with a new subslot is at the place after the others
pub subslot_behind : (before : List Submodule) (entry : Submodule) (subslot : ℕ) → has_subslot entry.subslot before ≡ false
    → place_of subslot (before ++ entry ∷ []) ≡ cond (entry.subslot == subslot) (Some (length before)) (place_of subslot before)
subslot_behind before entry subslot new =
    place_behind (λ (other : Submodule). other.subslot == subslot) before entry (λ t. subst (λ (one : ℕ). has_subslot one before ≡ false) (eqb-true entry.subslot subslot t) new)

pub part_at : (subslot : ℕ) (entries : List Submodule) (place : ℕ) (d : Submodule) → Some place ≡ place_of subslot entries → Some (get_or entries place d).parameters ≡ parameters_of subslot entries
part_at subslot [] place d is = absurd cc
part_at subslot (entry ∷ entries) place d is =
    at_first (λ (one : Submodule). Some one.parameters) (entry.subslot == subslot) entry entries (place_of subslot entries) (parameters_of subslot entries) place d (λ n e. part_at subslot entries n d (sym e)) is

pub no_part : (subslot : ℕ) (entries : List Submodule) → None ≡ place_of subslot entries → parameters_of subslot entries ≡ None
no_part subslot [] is = refl
no_part subslot (entry ∷ entries) is =
    none_first (entry.subslot == subslot) (place_of subslot entries) (Some entry.parameters) (parameters_of subslot entries) None (no_part subslot entries) is

pub part_there : (subslot : ℕ) (entries : List Submodule) (place : ℕ) → Some place ≡ place_of subslot entries → place < length entries
part_there subslot entries place is = is_there (λ (other : Submodule). other.subslot == subslot) entries place is

-- ---- parameter records by their indexes

-- a record has an index exactly if there is a length for that
pub indexed : (index : ℕ) (items : List ParameterItem) → is_some (length_of index items) ≡ has_index index items
indexed index [] = refl
indexed index (item ∷ items) = first (item.index == index) (length_of index items) (has_index index items) (indexed index items)
  where
    first : (b : Bool) (found : Option ℕ) (has : Bool) → is_some found ≡ has → is_some (if b then Some item.length else found) ≡ (b || has)
    first true found has e = refl
    first false found has e = e

-- a parameter record with a new index has its length
pub length_behind : (before : List ParameterItem) (entry : ParameterItem) (index : ℕ) → has_index entry.index before ≡ false
    → length_of index (before ++ entry ∷ []) ≡ cond (entry.index == index) (Some entry.length) (length_of index before)
length_behind before entry index new = behind before (λ t. subst (λ (one : ℕ). has_index one before ≡ false) (eqb-true entry.index index t) new)
  where
    first : (a b : Bool) (one : ℕ) (rest more : Option ℕ) → (a ≡ true → b ≡ true → ⊥) → more ≡ cond b (Some entry.length) rest
        → (if a then Some one else more) ≡ cond b (Some entry.length) (if a then Some one else rest)
    first true true one rest more apart e = absurd (apart refl refl)
    first true false one rest more apart e = refl
    first false b one rest more apart e = e

    behind : (before : List ParameterItem) → (entry.index == index ≡ true → has_index index before ≡ false)
        → length_of index (before ++ entry ∷ []) ≡ cond (entry.index == index) (Some entry.length) (length_of index before)
    behind [] new = refl
    behind (x ∷ xs) new =
        first (x.index == index) (entry.index == index) x.length (length_of index xs) (length_of index (xs ++ entry ∷ []))
        (λ a b. first_not (x.index == index) (has_index index xs) a (new b)) (behind xs (λ b. rest_not (x.index == index) (has_index index xs) (new b)))

-- ---- maps by numbers

cmp_is : (x y : ℕ) → is_eq (nat_cmp x y) ≡ (x == y)
cmp_is x y = grind (arith, nat_tests)

-- a map to which one number was added
pub put_at : (old new : BTreeMap ℕ ℕ) (number value : ℕ) → Updates nat_cmp old new number (Some value) → (other : ℕ)
    → get nat_cmp new other ≡ cond (number == other) (Some value) (get nat_cmp old other)
put_at old new number value updates other = updates.0 other ∙ ap (λ (b : Bool). cond b (Some value) (get nat_cmp old other)) (cmp_is number other)
