-- What holds of each Option and Suboption that the device tells apart, and of all others, holds of all.
use Rattle.std.proofs.Common.{◌≡◌, ◌==◌, ◌&&◌, ◌||◌, ℕ, true, false, List, [], ◌∷◌, Option, Some, None, refl, sym, ap, subst, ◌∙◌}
use Rattle.std.proofs.lemmas.Bool.{and_parts, cond-false, eqb-true}
use Rattle.pn_values.specs.declared.identity.Identity.{Identity}
use Rattle.pn_values.specs.declared.settings.Settings.{Settings}
use Rattle.pn_values.specs.declared.set_item.BlockError.{BlockError}
use Rattle.pn_values.specs.declared.set_item.BlockError.TheVariants as error
use Rattle.dcp_core.specs.declared.kind.Kind.TheVariants.{AliasName}
use Rattle.dcp_core.specs.Bytes.{block_bytes, error_number, response_bytes}
use Rattle.dcp_core.specs.declared.kind.Kind.TheVariants as kinds
use Rattle.dcp_core.specs.Get.{got}
use Rattle.dcp_core.specs.Identify.{is_value, kind_matches}
use Rattle.dcp_core.specs.Kinds.{blame, kind_of, option_of, suboption_of}
use Rattle.answers_law.specs.Requests.{Block, Station, fits, is_alias}
use Rattle.answers_law.specs.Answers.{outcome_octets, pair_answer, value_or_outcome}
use Rattle.answers_law.specs.Device.{station_of}
use Rattle.answers_law.proofs.Tests.{by_test}

-- Each case.
pub record ByKind (Q : ℕ → ℕ → Type 0) : Type 0 where
  pub all : Q 255 255
  pub ip_1 : Q 1 1
  pub ip_2 : Q 1 2
  pub ip : (s : ℕ) → (s == 1) ≡ false → (s == 2) ≡ false → Q 1 s
  pub device_1 : Q 2 1
  pub device_2 : Q 2 2
  pub device_3 : Q 2 3
  pub device_4 : Q 2 4
  pub device_5 : Q 2 5
  pub device_6 : Q 2 6
  pub device_7 : Q 2 7
  pub device : (s : ℕ) → (s == 1) ≡ false → (s == 2) ≡ false → (s == 3) ≡ false → (s == 4) ≡ false → (s == 5) ≡ false → (s == 6) ≡ false → (s == 7) ≡ false → Q 2 s
  pub control_3 : Q 5 3
  pub control_4 : Q 5 4
  pub control_5 : Q 5 5
  pub control_6 : Q 5 6
  pub control : (s : ℕ) → (s == 3) ≡ false → (s == 4) ≡ false → (s == 5) ≡ false → (s == 6) ≡ false → Q 5 s
  pub other : (o s : ℕ) → (o == 255 && s == 255) ≡ false → (o == 1) ≡ false → (o == 2) ≡ false → (o == 5) ≡ false → Q o s

-- A number that passed the test with another one.
at_number : (P : ℕ → Type 0) (n wanted : ℕ) → (n == wanted) ≡ true → P wanted → P n
at_number P n wanted is for = subst P (sym (eqb-true n wanted is)) for

module _ (Q : ℕ → ℕ → Type 0) (each : ByKind Q) where
  in_ip : (s : ℕ) → Q 1 s
  in_ip s =
      by_test (s == 1) (λ is. at_number (Q 1) s 1 is each.ip_1)
      (λ a. by_test (s == 2) (λ is. at_number (Q 1) s 2 is each.ip_2) (λ b. each.ip s a b))

  in_device : (s : ℕ) → Q 2 s
  in_device s =
      by_test (s == 1) (λ is. at_number (Q 2) s 1 is each.device_1)
      (λ a. by_test (s == 2) (λ is. at_number (Q 2) s 2 is each.device_2)
      (λ b. by_test (s == 3) (λ is. at_number (Q 2) s 3 is each.device_3)
      (λ c. by_test (s == 4) (λ is. at_number (Q 2) s 4 is each.device_4)
      (λ d. by_test (s == 5) (λ is. at_number (Q 2) s 5 is each.device_5)
      (λ e. by_test (s == 6) (λ is. at_number (Q 2) s 6 is each.device_6)
      (λ f. by_test (s == 7) (λ is. at_number (Q 2) s 7 is each.device_7) (λ g. each.device s a b c d e f g)))))))

  in_control : (s : ℕ) → Q 5 s
  in_control s =
      by_test (s == 3) (λ is. at_number (Q 5) s 3 is each.control_3)
      (λ a. by_test (s == 4) (λ is. at_number (Q 5) s 4 is each.control_4)
      (λ b. by_test (s == 5) (λ is. at_number (Q 5) s 5 is each.control_5)
      (λ c. by_test (s == 6) (λ is. at_number (Q 5) s 6 is each.control_6) (λ d. each.control s a b c d))))

  pub by_kind : (o s : ℕ) → Q o s
  by_kind o s =
      by_test (o == 255 && s == 255)
      (λ is. let parts = and_parts (o == 255) (s == 255) is in at_number (λ n. Q n s) o 255 parts.0 (at_number (Q 255) s 255 parts.1 each.all))
      (λ x. by_test (o == 1) (λ is. at_number (λ n. Q n s) o 1 is (in_ip s))
      (λ a. by_test (o == 2) (λ is. at_number (λ n. Q n s) o 2 is (in_device s))
      (λ b. by_test (o == 5) (λ is. at_number (λ n. Q n s) o 5 is (in_control s)) (λ c. each.other o s x a b c))))

-- ---- a kind keeps its Option and its Suboption

abbrev IsKept : ℕ → ℕ → Type 0
IsKept o s = (option_of (kind_of o s) ≡ o) × (suboption_of (kind_of o s) ≡ s)

pub kept : (o s : ℕ) → IsKept o s
kept = by_kind IsKept (record {
  all = (refl, refl);
  ip_1 = (refl, refl);
  ip_2 = (refl, refl);
  ip = λ s a b. rw (a, b) (refl, refl);
  device_1 = (refl, refl);
  device_2 = (refl, refl);
  device_3 = (refl, refl);
  device_4 = (refl, refl);
  device_5 = (refl, refl);
  device_6 = (refl, refl);
  device_7 = (refl, refl);
  device = λ s a b c d e f g. rw (a, b, c, d, e, f, g) (refl, refl);
  control_3 = (refl, refl);
  control_4 = (refl, refl);
  control_5 = (refl, refl);
  control_6 = (refl, refl);
  control = λ s a b c d. rw (a, b, c, d) (refl, refl);
  other = λ o s x a b c. rw (x, a, b, c) (refl, refl);
})

-- ---- what fits a station

module _ (identity : Identity) (running : Settings) (alias : Option (List ℕ)) where
  abbrev has : Station
  has = station_of identity running alias

  alias_same : (alias : Option (List ℕ)) (value : List ℕ) → is_value alias value ≡ is_alias alias value
  alias_same (Some name) value = refl
  alias_same None value = refl

  module _ (value : List ℕ) where
    abbrev Fits : ℕ → ℕ → Type 0
    Fits o s = kind_matches identity running alias (kind_of o s) value ≡ fits has (record { option = o; suboption = s; value = value })

    fits_each : (o s : ℕ) → Fits o s
    fits_each = by_kind Fits (record {
      all = refl;
      ip_1 = refl;
      ip_2 = refl;
      ip = λ s a b. rw (a, b) refl;
      device_1 = refl;
      device_2 = refl;
      device_3 = refl;
      device_4 = refl;
      device_5 = refl;
      device_6 = alias_same alias value;
      device_7 = refl;
      device = λ s a b c d e f g. rw (a, b, c, d, e, f, g) refl;
      control_3 = refl;
      control_4 = refl;
      control_5 = refl;
      control_6 = refl;
      control = λ s a b c d. rw (a, b, c, d) refl;
      other = λ o s x a b c. rw (x, a, b, c) refl;
    })

  pub block_fits : (block : Block) → kind_matches identity running alias (kind_of block.option block.suboption) block.value ≡ fits has block
  block_fits block = fits_each block.value block.option block.suboption

  -- ---- what answers a pair

  module _ (value : List ℕ) where
    abbrev Gives : ℕ → ℕ → Type 0
    Gives o s = got identity running alias (kind_of o s) ≡ pair_answer has (record { option = o; suboption = s; value = value })

    alias_given : (alias : Option (List ℕ)) → got identity running alias AliasName ≡ value_or_outcome alias (record { option = 2; suboption = 6; value = value })
    alias_given (Some name) = refl
    alias_given None = refl

    blame_other : (o s : ℕ) → (o == 1) ≡ false → (o == 2) ≡ false → (o == 5) ≡ false → blame (kinds.Other o s) ≡ error.Option
    blame_other o s a b c = cond-false (o == 1 || o == 2 || o == 5) error.Suboption error.Option (rw (a, b, c) refl)

    gives_each : (o s : ℕ) → Gives o s
    gives_each = by_kind Gives (record {
      all = refl;
      ip_1 = refl;
      ip_2 = refl;
      ip = λ s a b. rw (a, b) refl;
      device_1 = refl;
      device_2 = refl;
      device_3 = refl;
      device_4 = refl;
      device_5 = refl;
      device_6 = alias_given alias;
      device_7 = refl;
      device = λ s a b c d e f g. rw (a, b, c, d, e, f, g) refl;
      control_3 = refl;
      control_4 = refl;
      control_5 = refl;
      control_6 = refl;
      control = λ s a b c d. rw (a, b, c, d) refl;
      other = λ o s x a b c. rw (x, a, b, c) (ap (λ (e : BlockError). block_bytes kinds.Response (o ∷ s ∷ error_number e ∷ [])) (blame_other o s a b c));
    })

  pub pair_given : (pair : Block) → got identity running alias (kind_of pair.option pair.suboption) ≡ pair_answer has pair
  pair_given pair = gives_each pair.value pair.option pair.suboption

-- ---- the outcome of a block

pub outcome_is : (block : Block) (error : BlockError) → response_bytes (kind_of block.option block.suboption) error ≡ outcome_octets block (error_number error)
outcome_is block error =
    let k = kept block.option block.suboption in
    ap (λ (o : ℕ). block_bytes kinds.Response (o ∷ suboption_of (kind_of block.option block.suboption) ∷ error_number error ∷ [])) k.0
    ∙ ap (λ (s : ℕ). block_bytes kinds.Response (block.option ∷ s ∷ error_number error ∷ [])) k.1
