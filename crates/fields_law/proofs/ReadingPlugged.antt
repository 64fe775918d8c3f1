-- RealIdentificationData of the whole device, read at its places.
use Rattle.std.proofs.Common.{◌≡◌, ◌+◌, ◌*◌, ◌^◌, ◌<◌, ◌≤◌, ◌++◌, ℕ, List, [], ◌∷◌, drop, length, take, refl, ap, ◌∙◌, subst, arith}
use Rattle.std.specs.List.{AllByRecursion}
use Rattle.std.proofs.lemmas.List.{length-append}
use Rattle.pn_values.specs.declared.real.Real.{Real}
use Rattle.pn_values.specs.declared.real.RealModule.{RealModule}
use Rattle.pn_values.specs.declared.real.RealSubmodule.{RealSubmodule}
use Rattle.record_blocks.specs.declared.filter_data.FilterModule.{FilterModule}
use Rattle.record_blocks.specs.declared.filter_data.FilterSubmodule.{FilterSubmodule}
use Rattle.records.specs.declared.reads.listing.Level.TheVariants.{Device}
use Rattle.records.specs.reads.Listing.{identification_bytes, modules_at, parts_at, plugged_of, submodules_at}
use Rattle.fields_law.specs.Modules.{AreListedModules, AreListedSubmodules, ArePlugged, ArePluggedParts, IsPluggedList, IsPluggedModule, IsSizedListed, IsSizedListedPart, IsSizedListing, listed_count}
use Rattle.fields_law.proofs.ReadingBlocks.{AreLong}
use Rattle.fields_law.proofs.ReadingModules.{identification_read}

-- ---- lists of submodules, one after another

front_taken : {S : Type 0} (front rest : List S) → take (length front) (front ++ rest) ≡ front
front_taken [] rest = refl
front_taken (x ∷ xs) rest = ap (λ ys. x ∷ ys) (front_taken xs rest)

front_left : {S : Type 0} (front rest : List S) → drop (length front) (front ++ rest) ≡ rest
front_left [] rest = refl
front_left (x ∷ xs) rest = front_left xs rest

module _ (slot subslot : ℕ) where
  abbrev own_parts : List RealSubmodule → List FilterSubmodule
  own_parts parts = parts_at Device subslot parts

  abbrev all_modules : List RealModule → List FilterModule
  all_modules entries = modules_at Device slot subslot entries

  abbrev all_parts : List RealModule → List FilterSubmodule
  all_parts entries = submodules_at Device slot subslot entries

  parts_long : (parts : List RealSubmodule) → length (own_parts parts) ≡ length parts
  parts_long [] = refl
  parts_long (part ∷ parts) = let others = parts_long parts in omega (arith, others)

  -- ---- what is read is what is plugged

  parts_plugged : (octets : List ℕ) (parts : List RealSubmodule) → AreListedSubmodules octets (own_parts parts) → ArePluggedParts octets parts
  parts_plugged octets [] there = tt
  parts_plugged octets (part ∷ parts) there = (there.0, there.1, parts_plugged (drop 6 octets) parts there.2)

  modules_plugged : (octets : List ℕ) (entries : List RealModule) → AreListedModules octets (all_modules entries) (all_parts entries) → ArePlugged octets entries
  modules_plugged octets [] there = there.0
  modules_plugged octets (entry ∷ entries) there =
      let own = own_parts entry.submodules.items in
      let long : length own ≡ length entry.submodules.items = parts_long entry.submodules.items in
      let place : 8 + 6 * length own ≡ 8 + 6 * length entry.submodules.items = omega (arith, long) in (
        there.0,
        there.1,
        there.2 ∙ long,
        parts_plugged (drop 8 octets) entry.submodules.items
            (subst (λ (xs : List FilterSubmodule). AreListedSubmodules (drop 8 octets) xs) (front_taken own (all_parts entries)) there.3),
        modules_plugged (drop (8 + 6 * length entry.submodules.items) octets) entries
            (subst (λ (n : ℕ). AreListedModules (drop n octets) (all_modules entries) (all_parts entries)) place
            (subst (λ (xs : List FilterSubmodule). AreListedModules (drop (8 + 6 * length own) octets) (all_modules entries) xs)
            (front_left own (all_parts entries)) there.4)),
      )

  -- ---- the numbers fit

  parts_sized : (parts : List RealSubmodule) (more : List FilterSubmodule)
      → AllByRecursion (λ (part : RealSubmodule). (part.subslot < 65536) × (part.ident < 256 ^ 4)) parts → AllByRecursion IsSizedListedPart more
      → AllByRecursion IsSizedListedPart (own_parts parts ++ more)
  parts_sized [] more all others = others
  parts_sized (part ∷ parts) more all others = (record { subslot = all.0.0; ident = all.0.1 }, parts_sized parts more all.1 others)

  all_parts_sized : (entries : List RealModule) → AllByRecursion IsPluggedModule entries → AllByRecursion IsSizedListedPart (all_parts entries)
  all_parts_sized [] all = tt
  all_parts_sized (entry ∷ entries) all = parts_sized entry.submodules.items (all_parts entries) all.0.submodules (all_parts_sized entries all.1)

  all_modules_sized : (entries : List RealModule) → AllByRecursion IsPluggedModule entries → AllByRecursion IsSizedListed (all_modules entries)
  all_modules_sized [] all = tt
  all_modules_sized (entry ∷ entries) all =
      let long = parts_long entry.submodules.items in
      let few = all.0.few in
      (record { slot = all.0.slot; ident = all.0.ident; count = omega (arith, long, few) }, all_modules_sized entries all.1)

  modules_long : (entries : List RealModule) → length (all_modules entries) ≡ length entries
  modules_long [] = refl
  modules_long (entry ∷ entries) = let others = modules_long entries in omega (arith, others)

  all_few : (entries : List RealModule) → AllByRecursion IsPluggedModule entries → length (all_parts entries) ≤ 4 * length entries
  all_few [] all = omega arith
  all_few (entry ∷ entries) all =
      let both = length-append (own_parts entry.submodules.items) (all_parts entries) in
      let long = parts_long entry.submodules.items in
      let few = all.0.few in
      let others = all_few entries all.1 in
      omega (arith, both, long, few, others)

  counted : (entries : List RealModule) → listed_count (all_modules entries) ≡ length (all_parts entries)
  counted [] = refl
  counted (entry ∷ entries) =
      let both = length-append (own_parts entry.submodules.items) (all_parts entries) in
      let others = counted entries in
      omega (arith, both, others)

  sized : (real : Real) → AllByRecursion IsPluggedModule real.modules.items → length real.modules.items ≤ 16
      → IsSizedListing (plugged_of real Device slot subslot).modules
  sized real all few =
      let modules = modules_long real.modules.items in
      let parts = all_few real.modules.items all in
      record {
        modules = all_modules_sized real.modules.items all;
        few_modules = omega (arith, modules, few);
        submodules = all_parts_sized real.modules.items all;
        few_submodules = omega (arith, parts, few);
        counted = counted real.modules.items;
      }

  pub plugged_is : AreLong → (real : Real) → AllByRecursion IsPluggedModule real.modules.items → length real.modules.items ≤ 16
      → IsPluggedList (identification_bytes 0x0013 (plugged_of real Device slot subslot)) real.modules.items
  plugged_is long real all few =
      let read = identification_read (plugged_of real Device slot subslot).modules (sized real all few) long 0x0013 (omega arith) in
      let modules = modules_long real.modules.items in
      record {
        kind = read.kind;
        size = read.size;
        version = read.version;
        apis = read.apis;
        api = read.api;
        count = read.count ∙ modules;
        modules_are = modules_plugged (drop 14 (identification_bytes 0x0013 (plugged_of real Device slot subslot))) real.modules.items read.modules;
      }
