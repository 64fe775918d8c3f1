-- A text is a station name if and only if it has no fault.
use Rattle.std.proofs.Common.{◌≡◌, ◌≢◌, ◌∷◌, inl, inr, ℕ, ◌<◌, ◌≤◌, Bool, false, List, [], length, get_or, All, Any, IsTrue, refl, lit≤, arith}
use Rattle.std.proofs.lemmas.Bool.{true_from_ne_false}
use Rattle.std.proofs.lemmas.List.{get_or_default}
use Rattle.pn_values.specs.StationName.{is_label_byte, labels_of, IsStationName}
use Rattle.station_names.specs.NameFault.{HasFault, HasHyphenEnd, number_of}
use Rattle.station_names.specs.declared.name_fault.NameFault.{NameFault}
use Rattle.station_names.specs.declared.name_fault.NameFault.TheVariants.{TooLong, EmptyLabel, LabelTooLong, BadByte, HyphenEnd, LooksLikeAddress, PortForm}

-- if no item has a property, each lacks it
each_not : {X : Type 0} (P : X → Type 0) (xs : List X) → ¬ Any P xs → All (λ x. ¬ P x) xs
each_not P xs none k x below holds = none (k, get_or xs k x, below, get_or_default xs k (get_or xs k x) x below, holds)

-- if a test fails for no item, it passes for each
each_true : {X : Type 0} (test : X → Bool) (xs : List X) → ¬ Any (λ x. test x ≡ false) xs → All (λ x. IsTrue (test x)) xs
each_true test xs none k x below = true_from_ne_false (test (get_or xs k x)) (each_not (λ x. test x ≡ false) xs none k x below)

full : (label : List ℕ) → label ≢ [] → 0 < length label
full [] some = absurd (some refl)
full (byte ∷ label) some = omega arith

-- a text without a fault is a station name
name_from_faultless : (bytes : List ℕ) → ((fault : NameFault) → ¬ HasFault bytes fault) → IsStationName bytes
name_from_faultless bytes none = record {
  short = omega (arith, none TooLong);
  labels = λ k label below. record {
    some = full (get_or (labels_of bytes) k label) (each_not (λ label. label ≡ []) (labels_of bytes) (none EmptyLabel) k label below);
    short = (let short = each_not (λ label. 63 < length label) (labels_of bytes) (none LabelTooLong) k label below in omega (arith, short));
    bytes = each_true is_label_byte (get_or (labels_of bytes) k label)
        (each_not (λ label. Any (λ byte. is_label_byte byte ≡ false) label) (labels_of bytes) (none BadByte) k label below);
    first = λ at. each_not HasHyphenEnd (labels_of bytes) (none HyphenEnd) k label below (inl at);
    last = λ front at. each_not HasHyphenEnd (labels_of bytes) (none HyphenEnd) k label below (inr (front, at));
  };
  no_address = none LooksLikeAddress;
  no_port = none PortForm;
}

seven : (fault : NameFault) → number_of fault ≤ 7
seven TooLong = lit≤ tt
seven EmptyLabel = lit≤ tt
seven LabelTooLong = lit≤ tt
seven BadByte = lit≤ tt
seven HyphenEnd = lit≤ tt
seven LooksLikeAddress = lit≤ tt
seven PortForm = lit≤ tt

-- the same after seven faults were looked for
pub name_at_end : (bytes : List ℕ) (count : ℕ) → 7 ≤ count → ((fault : NameFault) → number_of fault ≤ count → ¬ HasFault bytes fault) → IsStationName bytes
name_at_end bytes count most none =
    name_from_faultless bytes (λ fault. none fault (let top = seven fault in omega arith))
