-- DiagnosisData, read block by block.
use Rattle.std.proofs.Common.{◌≡◌, ◌+◌, ◌*◌, ◌<◌, ◌≤◌, ◌++◌, ℕ, zero, suc, Bool, true, false, List, [], ◌∷◌, drop, length, take, refl, sym, ap, ◌∙◌, append_assoc, subst, if◌then◌else◌, arith}
use Rattle.std.specs.List.{AllByRecursion, filter, flat_map}
use Rattle.std.proofs.lemmas.List.{append-nil}
use Rattle.byteorder.specs.Numbers.{big_number-reads_back}
use Rattle.pn_values.specs.declared.real.RealModule.{RealModule}
use Rattle.pn_values.specs.declared.real.RealSubmodule.{RealSubmodule}
use Rattle.diagnosis.specs.Existing.{is_at}
use Rattle.diagnosis.specs.Record.{block_bytes, channels_bytes, head_bytes, modules_bytes, record_bytes, slot_bytes, submodule_bytes}
use Rattle.diagnosis.specs.declared.diagnosis.Diagnosis.{Diagnosis}
use Rattle.end_laws.specs.log_data.Reading.{number_at}
use Rattle.fields_law.specs.Diagnosis.{AreChannels, IsBlock, IsDiagnosis, IsDiagnosisData, IsModule, Reported, reported_at, reported_in, reported_of}
use Rattle.fields_law.proofs.ReadingPlaces.{at_place}

-- ---- lists

all_append : {A : Type 0} (P : A → Type 0) (xs ys : List A) → AllByRecursion P xs → AllByRecursion P ys → AllByRecursion P (xs ++ ys)
all_append P [] ys all others = others
all_append P (x ∷ xs) ys all others = (all.0, all_append P xs ys all.1 others)

-- one more in a list that is filtered
all_chosen : {A : Type 0} (P : A → Type 0) (chosen : Bool) (x : A) (xs : List A) → P x → AllByRecursion P xs
    → AllByRecursion P (if chosen then x ∷ xs else xs)
all_chosen P true x xs is all = (is, all)
all_chosen P false x xs is all = all

all_filter : {A : Type 0} (P : A → Type 0) (test : A → Bool) (xs : List A) → AllByRecursion P xs → AllByRecursion P (filter test xs)
all_filter P test [] all = tt
all_filter P test (x ∷ xs) all = all_chosen P (test x) x (filter test xs) all.0 (all_filter P test xs all.1)

few_chosen : {A : Type 0} (chosen : Bool) (x : A) (xs : List A) (most : ℕ) → length xs ≤ most → length (if chosen then x ∷ xs else xs) ≤ suc most
few_chosen true x xs most few = omega (arith, few)
few_chosen false x xs most few = omega (arith, few)

filter_few : {A : Type 0} (test : A → Bool) (xs : List A) → length (filter test xs) ≤ length xs
filter_few test [] = omega arith
filter_few test (x ∷ xs) = few_chosen (test x) x (filter test xs) (length xs) (filter_few test xs)

whole_of : (n : ℕ) (xs : List ℕ) → length (take n xs) < n → take n xs ≡ xs
whole_of zero xs few = absurd (omega (arith, few))
whole_of (suc n) [] few = refl
whole_of (suc n) (x ∷ xs) few = ap (λ (ys : List ℕ). x ∷ ys) (whole_of n xs (omega (arith, few)))

-- ---- the record is its blocks

abbrev full : Reported → List ℕ
full reported = head_bytes reported.slot reported.subslot (length reported.own) ++ channels_bytes reported.own

abbrev blocks_bytes : List Reported → List ℕ
blocks_bytes [] = []
blocks_bytes (reported ∷ more) = full reported ++ blocks_bytes more

blocks_append : (xs ys : List Reported) → blocks_bytes xs ++ blocks_bytes ys ≡ blocks_bytes (xs ++ ys)
blocks_append [] ys = refl
blocks_append (x ∷ xs) ys = append_assoc (full x) (blocks_bytes xs) (blocks_bytes ys) ∙ ap (λ (zs : List ℕ). full x ++ zs) (blocks_append xs ys)

own_is : (slot subslot : ℕ) (own : List Diagnosis) → block_bytes slot subslot own ≡ blocks_bytes (reported_of slot subslot own)
own_is slot subslot [] = refl
own_is slot subslot (diagnosis ∷ diagnoses) = sym (append-nil (full (record { slot = slot; subslot = subslot; own = diagnosis ∷ diagnoses })))

module _ (has : ℕ → ℕ → Bool) (diagnoses : List Diagnosis) where
  part_is : (slot : ℕ) (part : RealSubmodule) → submodule_bytes has diagnoses slot part.subslot ≡ blocks_bytes (reported_at has diagnoses slot part)
  part_is slot part = by_test (has slot part.subslot)
    where
      by_test : (b : Bool) → (if b then block_bytes slot part.subslot (filter (is_at slot part.subslot) diagnoses) else []) ≡ blocks_bytes
          (if b then reported_of slot part.subslot (filter (is_at slot part.subslot) diagnoses) else [])
      by_test true = own_is slot part.subslot (filter (is_at slot part.subslot) diagnoses)
      by_test false = refl

  slot_is : (slot : ℕ) (parts : List RealSubmodule) → slot_bytes has diagnoses slot parts ≡ blocks_bytes (flat_map (reported_at has diagnoses slot) parts)
  slot_is slot [] = refl
  slot_is slot (part ∷ parts) =
      ap (λ (xs : List ℕ). submodule_bytes has diagnoses slot part.subslot ++ xs) (slot_is slot parts)
      ∙ ap (λ (xs : List ℕ). xs ++ blocks_bytes (flat_map (reported_at has diagnoses slot) parts)) (part_is slot part)
      ∙ blocks_append (reported_at has diagnoses slot part) (flat_map (reported_at has diagnoses slot) parts)

  modules_are : (real : List RealModule) → modules_bytes has diagnoses real ≡ blocks_bytes (reported_in has diagnoses real)
  modules_are [] = refl
  modules_are (entry ∷ entries) =
      ap (λ (xs : List ℕ). slot_bytes has diagnoses entry.slot entry.submodules.items ++ xs) (modules_are entries)
      ∙ ap (λ (xs : List ℕ). xs ++ blocks_bytes (reported_in has diagnoses entries)) (slot_is entry.slot entry.submodules.items)
      ∙ blocks_append (flat_map (reported_at has diagnoses entry.slot) entry.submodules.items) (reported_in has diagnoses entries)

-- ---- a block is read

record IsReady (reported : Reported) : Type 0 where
  slot : reported.slot < 65536
  subslot : reported.subslot < 65536
  few : length reported.own ≤ 32
  all : AllByRecursion IsDiagnosis reported.own

channels_read : (own : List Diagnosis) (rest : List ℕ) → AllByRecursion IsDiagnosis own → AreChannels (channels_bytes own ++ rest) own
channels_read [] rest all = tt
channels_read (diagnosis ∷ diagnoses) rest all = (
  big_number-reads_back 2 diagnosis.channel [] all.0.channel,
  refl,
  big_number-reads_back 2 diagnosis.error [] all.0.error,
  channels_read diagnoses rest all.1,
)

channels_long : (own : List Diagnosis) → length (channels_bytes own) ≡ 6 * length own
channels_long [] = refl
channels_long (diagnosis ∷ diagnoses) = let others = channels_long diagnoses in omega (arith, others)

block_read : (reported : Reported) (rest : List ℕ) → IsReady reported → IsBlock (full reported ++ rest) reported
block_read reported rest ready = record {
  kind = refl;
  size = big_number-reads_back 2 (16 + 6 * length reported.own) [] (let few = ready.few in omega (arith, few));
  version = refl;
  api = refl;
  slot = big_number-reads_back 2 reported.slot [] ready.slot;
  subslot = big_number-reads_back 2 reported.subslot [] ready.subslot;
  channel = refl;
  properties = refl;
  structure = refl;
  channels = channels_read reported.own rest ready.all;
}

block_after : (reported : Reported) (rest : List ℕ) → IsReady reported → drop (4 + number_at 2 2 (full reported ++ rest)) (full reported ++ rest) ≡ rest
block_after reported rest ready =
    let size : number_at 2 2 (full reported ++ rest) ≡ 16 + 6 * length reported.own = (block_read reported rest ready).size in
    let own = channels_long reported.own in
    at_place (full reported ++ rest) rest (full reported ∷ []) (4 + number_at 2 2 (full reported ++ rest)) refl (omega (arith, size, own))

blocks_read : (all : List Reported) → AllByRecursion IsReady all → IsDiagnosisData (blocks_bytes all) all
blocks_read [] ready = refl
blocks_read (reported ∷ more) ready = (
  block_read reported (blocks_bytes more) ready.0,
  subst (λ (xs : List ℕ). IsDiagnosisData xs more) (sym (block_after reported (blocks_bytes more) ready.0)) (blocks_read more ready.1),
)

-- ---- all are ready

module _ (has : ℕ → ℕ → Bool) (diagnoses : List Diagnosis) (few : length diagnoses ≤ 32) (all : AllByRecursion IsDiagnosis diagnoses) where
  own_ready : (slot subslot : ℕ) (own : List Diagnosis) → slot < 65536 → subslot < 65536 → length own ≤ 32 → AllByRecursion IsDiagnosis own
      → AllByRecursion IsReady (reported_of slot subslot own)
  own_ready slot subslot [] slot_fits subslot_fits own_few own_all = tt
  own_ready slot subslot (diagnosis ∷ others) slot_fits subslot_fits own_few own_all =
      (record { slot = slot_fits; subslot = subslot_fits; few = own_few; all = own_all }, tt)

  part_ready : (slot : ℕ) (part : RealSubmodule) → slot < 65536 → part.subslot < 65536 → AllByRecursion IsReady (reported_at has diagnoses slot part)
  part_ready slot part slot_fits subslot_fits = by_test (has slot part.subslot)
    where
      own_few : length (filter (is_at slot part.subslot) diagnoses) ≤ 32
      own_few = let some = filter_few (is_at slot part.subslot) diagnoses in omega (arith, some, few)

      by_test : (b : Bool) → AllByRecursion IsReady (if b then reported_of slot part.subslot (filter (is_at slot part.subslot) diagnoses) else [])
      by_test true = own_ready slot part.subslot (filter (is_at slot part.subslot) diagnoses) slot_fits subslot_fits own_few
          (all_filter IsDiagnosis (is_at slot part.subslot) diagnoses all)
      by_test false = tt

  slot_ready : (slot : ℕ) (parts : List RealSubmodule) → slot < 65536 → AllByRecursion (λ part. part.subslot < 65536) parts
      → AllByRecursion IsReady (flat_map (reported_at has diagnoses slot) parts)
  slot_ready slot [] slot_fits parts_fit = tt
  slot_ready slot (part ∷ parts) slot_fits parts_fit =
      all_append IsReady (reported_at has diagnoses slot part) (flat_map (reported_at has diagnoses slot) parts)
      (part_ready slot part slot_fits parts_fit.0) (slot_ready slot parts slot_fits parts_fit.1)

  modules_ready : (real : List RealModule) → AllByRecursion IsModule real → AllByRecursion IsReady (reported_in has diagnoses real)
  modules_ready [] real_fits = tt
  modules_ready (entry ∷ entries) real_fits =
      all_append IsReady (flat_map (reported_at has diagnoses entry.slot) entry.submodules.items) (reported_in has diagnoses entries)
      (slot_ready entry.slot entry.submodules.items real_fits.0.slot real_fits.0.subslots) (modules_ready entries real_fits.1)

  pub diagnosis_is : (real : List RealModule) → AllByRecursion IsModule real → length (record_bytes has diagnoses real) < 1308
      → IsDiagnosisData (record_bytes has diagnoses real) (reported_in has diagnoses real)
  diagnosis_is real real_fits short =
      let whole = whole_of 1308 (modules_bytes has diagnoses real) short ∙ modules_are has diagnoses real in
      subst (λ (xs : List ℕ). IsDiagnosisData xs (reported_in has diagnoses real)) (sym whole)
      (blocks_read (reported_in has diagnoses real) (modules_ready real real_fits))
