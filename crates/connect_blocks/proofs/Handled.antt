-- The modules and submodules of an ExpectedSubmoduleBlockReq that is read are accepted.
use Rattle.std.proofs.Common.{◌≡◌, ◌==◌, ◌≤◌, ℕ, zero, suc, Bool, true, false, not, List, [], ◌∷◌, ◌++◌, length, take, drop, Option, refl, sym, subst, ◌∙◌, append_assoc}
use Rattle.std.specs.Prelude.{IfSome, nat_le}
use Rattle.std.specs.List.{list_any, AllByRecursion, IsDistinct}
use Rattle.std.proofs.lemmas.Bool.{and_parts, leb-true, or_parts, true≢false}
use Rattle.std.proofs.lemmas.List.{append-nil, drop_at}
use Rattle.std.proofs.lemmas.List.Folds.{list_any-append}
use Rattle.wire.specs.Counted.{SpellEach}
use Rattle.wire.specs.Nested.{SpellOuter}
use Rattle.wire.specs.blocks.Fields.{body}
use Rattle.wire.specs.blocks.modules.Lists.{Listed, next_entry, module_list, listed_modules}
use Rattle.wire.proofs.BlocksModulesTaken.{listed_counted}
use Rattle.connect_blocks.specs.declared.submodule_data.SubmoduleData.{SubmoduleData}
use Rattle.connect_blocks.specs.declared.expected.ExpectedModule.{ExpectedModule}
use Rattle.connect_blocks.specs.declared.expected.ExpectedSubmodule.{ExpectedSubmodule}
use Rattle.connect_blocks.specs.declared.expected.ExpectedSubmoduleBlockReq.{ExpectedSubmoduleBlockReq}
use Rattle.connect_blocks.specs.Expected.{description, data_of, submodule_data, new_slot, new_subslot, expected_module, expected_submodule, own_of, expected_modules, expected, IsShort, SubslotsDiffer, IsExpected, IsExpectedSubmoduleBlockReq}

-- ---- numbers that differ

not_so : (b : Bool) → not b ≡ true → b ≡ false
not_so true h = absurd (true≢false (sym h))
not_so false h = refl

module _ {A : Type 0} (key : A → ℕ) where
  -- Each value has another number than those before it.
  abbrev DifferFrom : List A → List A → Type 0
  DifferFrom before [] = Unit {0}
  DifferFrom before (value ∷ values) = (list_any (λ (entry : A). key entry == key value) before ≡ false) × DifferFrom (before ++ value ∷ []) values

  -- None of the values has the number of an entry before them.
  abbrev AreOthers : List A → List A → Type 0
  AreOthers before values = AllByRecursion (λ (value : A). list_any (λ (entry : A). key entry == key value) before ≡ false) values

  parted : (before : List A) (entry : A) (values : List A) → AreOthers (before ++ entry ∷ []) values
      → AreOthers before values × AllByRecursion (λ (value : A). (key entry == key value) ≡ false) values
  parted before entry [] others = (tt, tt)
  parted before entry (value ∷ values) others =
      let test : A → Bool = λ (one : A). key one == key value in
      let both = or_parts (list_any test before) (list_any test (entry ∷ [])) (sym (list_any-append test before (entry ∷ [])) ∙ others.0) in
      let one = or_parts (test entry) (list_any test []) both.1 in
      let more = parted before entry values others.1 in
      ((both.0, more.0), (one.0, more.1))

  all_differ : (before values : List A) → DifferFrom before values → AreOthers before values × IsDistinct (λ (one other : A). key one == key other) values
  unfolding IsDistinct
  all_differ before [] differ = (tt, tt)
  all_differ before (value ∷ values) differ =
      let more = all_differ (before ++ value ∷ []) values differ.1 in
      let two = parted before value values more.0 in
      ((differ.0, two.0), (two.1, more.1))

-- ---- entries

module_new : (before : List ExpectedModule) (bytes rest : List ℕ) (entry : ExpectedModule) → (expected_module before).Spells bytes entry rest
    → list_any (λ (one : ExpectedModule). one.slot_number == entry.slot_number) before ≡ false
unfolding expected_module new_slot
module_new before bytes rest entry s =
    subst (λ (x : ExpectedModule). list_any (λ (one : ExpectedModule). one.slot_number == x.slot_number) before ≡ false) s.1 (not_so _ s.2.2.1.0)

submodule_new : (before : List ExpectedSubmodule) (bytes rest : List ℕ) (entry : ExpectedSubmodule) → (expected_submodule before).Spells bytes entry rest
    → list_any (λ (one : ExpectedSubmodule). one.subslot_number == entry.subslot_number) before ≡ false
unfolding expected_submodule new_subslot
submodule_new before bytes rest entry s =
    subst (λ (x : ExpectedSubmodule). list_any (λ (one : ExpectedSubmodule). one.subslot_number == x.subslot_number) before ≡ false) s.1 (not_so _ s.2.1.0)

length_short : (kind : ℕ) (bytes rest : List ℕ) (octets : ℕ) → (description kind 1440).Spells bytes octets rest → octets ≤ 1440
unfolding description
length_short kind bytes rest octets s =
    let two = and_parts (nat_le 0 s.0.1.0) (nat_le s.0.1.0 1440) s.2.2.1.0 in
    subst (λ (n : ℕ). n ≤ 1440) s.1 (leb-true s.0.1.0 1440 two.1)

described_short : (there : Bool) (kind : ℕ) (bytes rest : List ℕ) (value : Option ℕ) → (data_of there kind).Spells bytes value rest
    → IfSome value (λ octets. octets ≤ 1440)
unfolding data_of
described_short true kind bytes rest value s = subst (λ (x : Option ℕ). IfSome x (λ octets. octets ≤ 1440)) s.1 (length_short kind bytes rest s.0 s.2)
described_short false kind bytes rest value s = subst (λ (x : Option ℕ). IfSome x (λ octets. octets ≤ 1440)) (sym s.0) tt

data_short : (bytes rest : List ℕ) (value : SubmoduleData) → submodule_data.Spells bytes value rest → IsShort value
unfolding submodule_data
data_short bytes rest value s =
    let behind = s.2.2.2 in
    subst (λ (x : SubmoduleData). IsShort x) s.1 (described_short _ 1 _ _ s.0.1.1.0 behind.1, described_short _ 2 _ _ s.0.1.1.1 behind.2)

submodule_short : (before : List ExpectedSubmodule) (bytes rest : List ℕ) (entry : ExpectedSubmodule) → (expected_submodule before).Spells bytes entry rest → IsShort entry.io_data
unfolding expected_submodule
submodule_short before bytes rest entry s =
    subst (λ (x : ExpectedSubmodule). IsShort x.io_data) s.1 (data_short _ _ s.0.1.1 s.2.2.2)

-- ---- lists

-- The submodules of a slot that are read after some of them are accepted.
own_handled : (second own : List ExpectedSubmodule) (bytes : List ℕ) (values : List ExpectedSubmodule) (rest : List ℕ)
    → SpellEach (next_entry expected_submodule (length second)) (second ++ own) bytes values rest
    → DifferFrom (λ (entry : ExpectedSubmodule). entry.subslot_number) own values × AllByRecursion (λ (entry : ExpectedSubmodule). IsShort entry.io_data) values
unfolding next_entry
own_handled second own bytes [] rest s = (tt, tt)
own_handled second own bytes (entry ∷ values) rest s =
    let one : (expected_submodule own).Spells bytes entry s.0 =
    subst (λ (before : List ExpectedSubmodule). (expected_submodule before).Spells bytes entry s.0) (drop_at second own (length second) refl) s.1.1 in
    let more = own_handled second (own ++ entry ∷ []) s.0 values rest
    (subst (λ (before : List ExpectedSubmodule). SpellEach (next_entry expected_submodule (length second)) before s.0 values rest) (append_assoc second own (entry ∷ [])) s.2) in
    ((submodule_new own bytes s.0 entry one, more.0), (submodule_short own bytes s.0 entry one, more.1))

all_joined : {A : Type 0} (P : A → Type 0) (n : ℕ) (values : List A) → AllByRecursion P (take n values) → AllByRecursion P (drop n values) → AllByRecursion P values
all_joined P zero values front behind = behind
all_joined P (suc n) [] front behind = tt
all_joined P (suc n) (value ∷ values) front behind = (front.0, all_joined P n values front.1 behind)

-- Modules that are read after some of them are accepted, with their submodules.
all_handled : (first : List ExpectedModule) (second : List ExpectedSubmodule) (bytes : List ℕ) (modules : List ExpectedModule) (submodules : List ExpectedSubmodule) (rest : List ℕ)
    → SpellOuter (next_entry expected_module 0) own_of (next_entry expected_submodule) first second bytes modules submodules rest
    → DifferFrom (λ (entry : ExpectedModule). entry.slot_number) first modules × SubslotsDiffer modules submodules × AllByRecursion (λ (entry : ExpectedSubmodule). IsShort entry.io_data) submodules
unfolding next_entry
all_handled first second bytes [] submodules rest s =
    (tt, tt, subst (λ (xs : List ExpectedSubmodule). AllByRecursion (λ (entry : ExpectedSubmodule). IsShort entry.io_data) xs) (sym s.0) tt)
all_handled first second bytes (entry ∷ modules) submodules rest s =
    let n = own_of entry in
    let own = take n submodules in
    let mine = own_handled second [] s.0 own s.1
    (subst (λ (before : List ExpectedSubmodule). SpellEach (next_entry expected_submodule (length second)) before s.0 own s.1) (sym (append-nil second)) s.4) in
    let more = all_handled (first ++ entry ∷ []) (second ++ own) s.1 modules (drop n submodules) rest s.5 in (
      (module_new first bytes s.0 entry s.2.1, more.0),
      ((all_differ (λ (part : ExpectedSubmodule). part.subslot_number) [] own mine.0).1, more.1),
      all_joined (λ (part : ExpectedSubmodule). IsShort part.io_data) n submodules mine.1 more.2,
    )

modules_handled : (bytes : List ℕ) (value : Listed ExpectedModule ExpectedSubmodule) (rest : List ℕ) → expected_modules.Spells bytes value rest → IsExpected value
unfolding expected_modules listed_modules module_list
modules_handled bytes value rest s =
    let all = all_handled [] [] s.2.0 s.0.0 s.0.1 rest s.2.2 in
    subst (λ (x : Listed ExpectedModule ExpectedSubmodule). IsExpected x) s.1 (record {
      counted = listed_counted expected_module own_of expected_submodule bytes (record { modules = s.0.0; submodules = s.0.1 }) rest (s.0, refl, s.2);
      slots = (all_differ (λ (entry : ExpectedModule). entry.slot_number) [] s.0.0 all.0).1;
      subslots = all.1;
      short = all.2;
    })

pub expected_accepted : (inside : List ℕ) (value : ExpectedSubmoduleBlockReq) → (body expected).Spells inside value → IsExpectedSubmoduleBlockReq value
unfolding body expected
expected_accepted inside value s =
    let fields = s.2.2 in
    let all : IsExpectedSubmoduleBlockReq s.0.1 = subst (λ (block : ExpectedSubmoduleBlockReq). IsExpectedSubmoduleBlockReq block) fields.1 (modules_handled _ fields.0 _ fields.2) in
    subst (λ (block : ExpectedSubmoduleBlockReq). IsExpectedSubmoduleBlockReq block) s.1 all
