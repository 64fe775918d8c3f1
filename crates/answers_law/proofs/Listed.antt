-- Blocks of a request, all together: whether they fit, and what answers them.
use Rattle.std.proofs.Common.{◌≡◌, ap₂, ◌==◌, ◌&&◌, ◌||◌, ℕ, suc, Bool, nat_lt, List, [], ◌∷◌, ◌++◌, length, map, zip, flat_map, Option, refl, sym, ap, ◌∙◌}
use Rattle.std.proofs.lemmas.Bool.{cond-false, cond-true}
use Rattle.std.proofs.lemmas.List.{map-append}
use Rattle.std.specs.List.{list_all, list_any}
use Rattle.pn_values.specs.declared.identity.Identity.{Identity}
use Rattle.pn_values.specs.declared.settings.Settings.{Settings}
use Rattle.pn_values.specs.declared.set_item.BlockError.{BlockError}
use Rattle.dcp_core.specs.declared.kind.Kind.{Kind}
use Rattle.dcp_core.specs.Bytes.{error_number, response_bytes}
use Rattle.dcp_core.specs.Get.{firsts_of, got}
use Rattle.dcp_core.specs.Identify.{kind_matches, matches}
use Rattle.dcp_core.specs.Kinds.{is_same, kind_of}
use Rattle.dcp_core.specs.Request.{Asked, AskedBlock}
use Rattle.answers_law.specs.Requests.{Block, Station, fits}
use Rattle.answers_law.specs.Answers.{first_pairs, is_same_pair, outcome_octets, pair_answer}
use Rattle.answers_law.specs.Device.{station_of}
use Rattle.answers_law.proofs.Tests.{by_test}
use Rattle.answers_law.proofs.KindCases.{block_fits, kept, outcome_is, pair_given}
use Rattle.answers_law.proofs.Lists.{asked_of}

pub many : (blocks : List Block) → length (map asked_of blocks) ≡ length blocks
many [] = refl
many (block ∷ blocks) = ap suc (many blocks)

abbrev kind_at : Block → Kind
kind_at block = kind_of block.option block.suboption

module _ (identity : Identity) (running : Settings) (alias : Option (List ℕ)) where
  abbrev has : Station
  has = station_of identity running alias

  -- ---- Identify

  all_fit : (blocks : List Block) → list_all (λ (block : AskedBlock). kind_matches identity running alias block.kind block.contents) (map asked_of blocks) ≡ list_all (fits has) blocks
  all_fit [] = refl
  all_fit (block ∷ blocks) = ap₂ (λ (a b : Bool). a && b) (block_fits identity running alias block) (all_fit blocks)

  pub matched : (request : Asked) (blocks : List Block) → request.blocks ≡ map asked_of blocks
      → matches identity running alias request ≡ (nat_lt 0 (length blocks) && list_all (fits has) blocks)
  unfolding matches
  matched request blocks is =
      ap (λ (l : List AskedBlock). nat_lt 0 (length l) && list_all (λ (block : AskedBlock). kind_matches identity running alias block.kind block.contents) l) is
      ∙ ap₂ (λ (a b : Bool). a && b) (ap (λ (n : ℕ). nat_lt 0 n) (many blocks)) (all_fit blocks)

  -- ---- Get

  kinds_are : (pairs : List Block) → map (λ (block : AskedBlock). block.kind) (map asked_of pairs) ≡ map kind_at pairs
  kinds_are [] = refl
  kinds_are (pair ∷ pairs) = ap (λ (l : List Kind). kind_at pair ∷ l) (kinds_are pairs)

  same_pair : (one other : Block) → is_same (kind_at one) (kind_at other) ≡ is_same_pair one other
  same_pair one other =
      let a = kept one.option one.suboption in
      let b = kept other.option other.suboption in
      ap₂ (λ (x y : Bool). x && y) (ap₂ (λ (n m : ℕ). n == m) a.0 b.0) (ap₂ (λ (n m : ℕ). n == m) a.1 b.1)

  any_same : (pair : Block) (before : List Block) → list_any (is_same (kind_at pair)) (map kind_at before) ≡ list_any (is_same_pair pair) before
  any_same pair [] = refl
  any_same pair (one ∷ before) = ap₂ (λ (x y : Bool). x || y) (same_pair pair one) (any_same pair before)

  firsts_are : (before pairs : List Block) → flat_map (got identity running alias) (firsts_of (map kind_at before) (map kind_at pairs)) ≡ flat_map (pair_answer has) (first_pairs before pairs)
  firsts_are before [] = refl
  firsts_are before (pair ∷ pairs) =
      let answers : List Kind → List ℕ = flat_map (got identity running alias) in
      let later : flat_map (got identity running alias) (firsts_of (map kind_at before ++ kind_at pair ∷ []) (map kind_at pairs)) ≡ flat_map (pair_answer has) (first_pairs (before ++ pair ∷ []) pairs) =
      ap (λ (l : List Kind). answers (firsts_of l (map kind_at pairs))) (sym (map-append kind_at before (pair ∷ []))) ∙ firsts_are (before ++ pair ∷ []) pairs in
      by_test (list_any (is_same_pair pair) before)
      (λ is.
      ap answers (cond-true (list_any (is_same (kind_at pair)) (map kind_at before)) _ _ (any_same pair before ∙ is))
      ∙ (later ∙ ap (flat_map (pair_answer has)) (sym (cond-true (list_any (is_same_pair pair) before) _ _ is))))
      (λ other.
      ap answers (cond-false (list_any (is_same (kind_at pair)) (map kind_at before)) _ _ (any_same pair before ∙ other))
      ∙ (ap₂ (λ (x y : List ℕ). x ++ y) (pair_given identity running alias pair) later
      ∙ ap (flat_map (pair_answer has)) (sym (cond-false (list_any (is_same_pair pair) before) _ _ other))))

  pub pairs_given : (request : Asked) (pairs : List Block) → request.blocks ≡ map asked_of pairs
      → flat_map (got identity running alias) (firsts_of [] (map (λ (block : AskedBlock). block.kind) request.blocks)) ≡ flat_map (pair_answer has) (first_pairs [] pairs)
  pairs_given request pairs is =
      ap (λ (l : List AskedBlock). flat_map (got identity running alias) (firsts_of [] (map (λ (block : AskedBlock). block.kind) l))) is
      ∙ (ap (λ (l : List Kind). flat_map (got identity running alias) (firsts_of [] l)) (kinds_are pairs) ∙ firsts_are [] pairs)

-- ---- Set

pub outcomes_are : (blocks : List Block) (answers : List BlockError)
    → flat_map (λ (pair : AskedBlock × BlockError). response_bytes pair.0.kind pair.1) (zip (map asked_of blocks) answers)
    ≡ flat_map (λ (one : Block × ℕ). outcome_octets one.0 one.1) (zip blocks (map error_number answers))
outcomes_are [] answers = refl
outcomes_are (block ∷ blocks) [] = refl
outcomes_are (block ∷ blocks) (answer ∷ answers) = ap₂ (λ (x y : List ℕ). x ++ y) (outcome_is block answer) (outcomes_are blocks answers)

pub errors_many : (answers : List BlockError) → length (map error_number answers) ≡ length answers
errors_many [] = refl
errors_many (answer ∷ answers) = ap suc (errors_many answers)
