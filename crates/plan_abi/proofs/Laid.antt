-- The items at the start of a room are those that were written there.
use Rattle.std.proofs.Common.{◌≡◌, ◌∙◌, ◌++◌, ◌<◌, ◌≤◌, ℕ, zero, suc, refl, ap, List, [], ◌∷◌, length, map, take, drop, set, get_or, arith}
use Rattle.pn_values.specs.declared.real.ParameterRecord.{ParameterRecord}
use Rattle.pn_values.specs.declared.real.RealModule.{RealModule}
use Rattle.pn_values.specs.declared.real.RealSubmodule.{RealSubmodule}
use Rattle.plans.specs.declared.parts.PlanRecord.{PlanRecord}
use Rattle.c_layout.specs.Modules.{module_of, parameter_of, submodule_of}
use Rattle.controller_abi.specs.Plans.{record_of}
use Rattle.plan_abi.specs.Readings.{no_parameters, no_submodules, over, written_module, written_parameter, written_record, written_submodule}

-- one more item is written
pub laid_more : {A B : Type 0} (f : A → B) (given : List A) (room : List B) (i : ℕ) (x : B) (d : A) → i < length given → length given ≤ length room → x ≡ f (get_or given i d)
    → set (map f (take i given) ++ drop i room) i x ≡ map f (take (suc i) given) ++ drop (suc i) room
laid_more f [] room i x d below few is = absurd (omega arith)
laid_more f (g ∷ gs) [] i x d below few is = absurd (omega arith)
laid_more f (g ∷ gs) (r ∷ rs) zero x d below few is = ap (λ y. y ∷ rs) is
laid_more f (g ∷ gs) (r ∷ rs) (suc i) x d below few is = ap (λ ys. f g ∷ ys) (laid_more f gs rs i x d (omega arith) (omega arith) is)

taken : {A : Type 0} (xs rest : List A) → take (length xs) (xs ++ rest) ≡ xs
taken [] rest = refl
taken (x ∷ xs) rest = ap (λ ys. x ∷ ys) (taken xs rest)

-- the start of a room
pub front : {A : Type 0} (room xs : List A) → take (length xs) (over room xs) ≡ xs
front room xs = taken xs (drop (length xs) room)

taken_map : {A B : Type 0} (f : A → B) (xs : List A) (rest : List B) → take (length xs) (map f xs ++ rest) ≡ map f xs
taken_map f [] rest = refl
taken_map f (x ∷ xs) rest = ap (λ ys. f x ∷ ys) (taken_map f xs rest)

map_back : {A B : Type 0} (f : A → B) (g : B → A) (back : (x : A) → g (f x) ≡ x) (xs : List A) → map g (map f xs) ≡ xs
map_back f g back [] = refl
map_back f g back (x ∷ xs) = ap (λ y. y ∷ map g (map f xs)) (back x) ∙ ap (λ ys. x ∷ ys) (map_back f g back xs)

-- the start of a room, as it is read back
pub read_back : {A B : Type 0} (f : A → B) (g : B → A) (back : (x : A) → g (f x) ≡ x) (room : List B) (xs : List A)
    → map g (take (length xs) (over room (map f xs))) ≡ xs
read_back f g back room xs = ap (map g) (taken_map f xs (drop (length (map f xs)) room)) ∙ map_back f g back xs

pub parameter_back : (entry : ParameterRecord) → parameter_of (written_parameter entry) ≡ entry
parameter_back entry = refl

pub submodule_back : (entry : RealSubmodule) → submodule_of (written_submodule entry) ≡ entry
submodule_back entry =
    ap (λ (items : List ParameterRecord). record entry { parameters = record { items = items } })
    (read_back written_parameter parameter_of parameter_back no_parameters entry.parameters.items)

pub module_back : (entry : RealModule) → module_of (written_module entry) ≡ entry
module_back entry =
    ap (λ (items : List RealSubmodule). record entry { submodules = record { items = items } })
    (read_back written_submodule submodule_of submodule_back no_submodules entry.submodules.items)

pub record_back : (entry : PlanRecord) → record_of (written_record entry) ≡ entry
record_back entry =
    ap (λ (items : List ℕ). record entry { «data» = record { items = items } }) (front _ entry.«data».items)
