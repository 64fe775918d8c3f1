-- The numbers of what is plugged have their sizes.
use Rattle.std.proofs.Common.{◌≡◌, ◌==◌, ◌<◌, ℕ, Bool, true, false, cond, List, [], ◌∷◌, Option, Some, None, option_map, refl, sym, ap, subst, ◌∙◌}
use Rattle.std.specs.List.{AllByRecursion, find}
use Rattle.std.proofs.lemmas.Bool.{eqb-true}
use Rattle.pn_values.specs.declared.real.RealModule.{RealModule}
use Rattle.pn_values.specs.declared.real.RealSubmodule.{RealSubmodule}
use Rattle.module_diff.specs.Plugged.{module_ident, module_in, part_ident_of, submodule_ident}
use Rattle.both_ends.specs.exchange.Sized.{AreSizedModules, IsSizedModule, IsSizedPart}
use Rattle.both_ends.proofs.ExchangeLists.{some_is}

found_by : {A : Type 0} (P : A → Type 0) (test : A → Bool) (y x : A) (b : Bool) (rest : Option A) → test y ≡ b → P y → (rest ≡ Some x → P x × (test x ≡ true)) → cond b (Some y) rest ≡ Some x → P x × (test x ≡ true)
found_by P test y x true rest f is more g = let same = some_is y x g in (subst P same is, ap test (sym same) ∙ f)
found_by P test y x false rest f is more g = more g

-- what holds of each holds of one that is found
pub found_is : {A : Type 0} (P : A → Type 0) (test : A → Bool) (xs : List A) (x : A) → AllByRecursion P xs → find test xs ≡ Some x → P x × (test x ≡ true)
found_is P test [] x all e = absurd cc
found_is P test (y ∷ ys) x all e = found_by P test y x (test y) (find test ys) refl all.0 (λ found. found_is P test ys x all.1 found) e

part_sized : (entry : Option RealModule) (subslot part : ℕ) → ((found : RealModule) → entry ≡ Some found → IsSizedModule found) → part_ident_of entry subslot ≡ Some part
    → (subslot < 65536) × (part < 4294967296)
part_sized None subslot part sized e = absurd cc
part_sized (Some entry) subslot part sized e = by_find (find (λ (one : RealSubmodule). one.subslot == subslot) entry.submodules.items) refl e
  where
    by_find : (o : Option RealSubmodule) → find (λ (one : RealSubmodule). one.subslot == subslot) entry.submodules.items ≡ o → option_map (λ (one : RealSubmodule). one.ident) o ≡ Some part
        → (subslot < 65536) × (part < 4294967296)
    by_find None f g = absurd cc
    by_find (Some one) f g =
        let there = found_is IsSizedPart (λ (x : RealSubmodule). x.subslot == subslot) entry.submodules.items one (sized entry refl).2 f in
        (subst (λ (n : ℕ). n < 65536) (eqb-true one.subslot subslot there.1) there.0.0, subst (λ (n : ℕ). n < 4294967296) (some_is one.ident part g) there.0.1)

module_sized : (entry : Option RealModule) (slot ident : ℕ) → ((found : RealModule) → entry ≡ Some found → IsSizedModule found × ((found.slot == slot) ≡ true)) → option_map (λ (one : RealModule). one.ident) entry ≡ Some ident
    → (slot < 65536) × (ident < 4294967296)
module_sized None slot ident sized e = absurd cc
module_sized (Some entry) slot ident sized e =
    let there = sized entry refl in
    (subst (λ (n : ℕ). n < 65536) (eqb-true entry.slot slot there.1) there.0.0, subst (λ (n : ℕ). n < 4294967296) (some_is entry.ident ident e) there.0.1)

pub in_slot : (real : List RealModule) (slot : ℕ) → AreSizedModules real → (found : RealModule) → module_in real slot ≡ Some found → IsSizedModule found × ((found.slot == slot) ≡ true)
in_slot real slot all found e = found_is IsSizedModule (λ (entry : RealModule). entry.slot == slot) real found all e

-- an ident number that is plugged, with its slot
pub module_small : (real : List RealModule) (slot ident : ℕ) → AreSizedModules real → module_ident real slot ≡ Some ident → (slot < 65536) × (ident < 4294967296)
module_small real slot ident all e = module_sized (module_in real slot) slot ident (λ found is. in_slot real slot all found is) e

-- an ident number of a submodule that is plugged, with its subslot
pub part_small : (real : List RealModule) (slot subslot part : ℕ) → AreSizedModules real → submodule_ident real slot subslot ≡ Some part → (subslot < 65536) × (part < 4294967296)
part_small real slot subslot part all e = part_sized (module_in real slot) subslot part (λ found is. (in_slot real slot all found is).0) e
