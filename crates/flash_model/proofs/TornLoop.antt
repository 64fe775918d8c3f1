-- A loop that tears a range, byte by byte.
use Rattle.std.proofs.Common.{◌≡◌, ◌+◌, ◌<◌, ◌≤◌, ◌%◌, ◌∙◌, ℕ, List, length, set, get_or, sym, ap, subst, arith, below_more, inl, inr}
use Rattle.std.proofs.lemmas.Bool.{cases_lt}
use Rattle.std.proofs.lemmas.List.{get_or_past}
use Rattle.std.specs.Int.{bit_at}
use Rattle.flash_model.specs.Fate.{torn_byte, torn_bytes}
use Rattle.flash_model.specs.Torn.{IsBetween, AreBetween}
use Rattle.flash_model.proofs.TornLemmas.{length-torn_bytes, get_or-torn_bytes}
use Rattle.flash_model.proofs.Written.{written, get_or-written, written_step, written_all}

-- The range so far; finished, it would hold these bytes.
pub record TornSoFar (mask finished old bytes : List ℕ) (place : ℕ) : Type 0 where
  pub value : bytes ≡ written (torn_bytes mask old finished) old place
  pub between : (k : ℕ) → k < place → IsBetween (get_or old k 0) (get_or finished k 0) (get_or (torn_bytes mask old finished) k 0)

-- the next byte is still the old one
pub torn_next : (mask finished old now : List ℕ) (place : ℕ) → TornSoFar mask finished old now place → place < length old → get_or now place 0 ≡ get_or old place 0
torn_next mask finished old now place so_far h =
    ap (λ s. get_or s place 0) so_far.value ∙ get_or-written (torn_bytes mask old finished) old place (length-torn_bytes mask old finished) h

-- one more byte, torn between the old one and the finished one
pub torn_more : (mask finished old now : List ℕ) (place new byte : ℕ) → TornSoFar mask finished old now place → place < length old →
    new ≡ get_or finished place 0 → byte ≡ torn_byte (get_or now place 0) new (get_or mask (place % 8) 0) →
    IsBetween (get_or now place 0) new byte → TornSoFar mask finished old (set now place byte) (place + 1)
torn_more mask finished old now place new byte so_far h n value between =
    let long : length (torn_bytes mask old finished) ≡ length old = length-torn_bytes mask old finished in
    let here : get_or (torn_bytes mask old finished) place 0 ≡ torn_byte (get_or old place 0) new (get_or mask (place % 8) 0) =
    get_or-torn_bytes mask old finished place h ∙ ap (λ x. torn_byte (get_or old place 0) x (get_or mask (place % 8) 0)) (sym n) in
    let was : get_or now place 0 ≡ get_or old place 0 = torn_next mask finished old now place so_far h in
    let made : byte ≡ get_or (torn_bytes mask old finished) place 0 = value ∙ ap (λ x. torn_byte x new (get_or mask (place % 8) 0)) was ∙ sym here in
    let Old : ℕ → Type 0 = λ x. IsBetween x new byte in
    let New : ℕ → Type 0 = λ x. IsBetween (get_or old place 0) x byte in
    let Byte : ℕ → Type 0 = λ x. IsBetween (get_or old place 0) (get_or finished place 0) x in
    record {
      value = ap (λ x. set now place x) value
          ∙ written_step (torn_bytes mask old finished) old now place (λ (x : ℕ). torn_byte x new (get_or mask (place % 8) 0)) so_far.value long h here;
      between = below_more _ _ so_far.between (subst Byte made (subst New n (subst Old was between)));
    }

pub torn_all : (mask finished old now : List ℕ) (place : ℕ) → TornSoFar mask finished old now place → length old ≤ place → length finished ≤ length old →
    (now ≡ torn_bytes mask old finished) × AreBetween old finished now
torn_all mask finished old now place so_far h short =
    let long : length (torn_bytes mask old finished) ≡ length old = length-torn_bytes mask old finished in
    let all : now ≡ torn_bytes mask old finished = written_all (torn_bytes mask old finished) old now place so_far.value long h in
    let Bytes : List ℕ → Type 0 = λ bytes. AreBetween old finished bytes in (
      all,
      subst Bytes (sym all) (record {
        length = long;
        each = λ k. elim (cases_lt k place) [
          | inl below ↦ so_far.between k below
          | inr past ↦ λ i. inl (ap (λ x. bit_at x i) (get_or_past (torn_bytes mask old finished) k 0 (omega arith) ∙ sym (get_or_past old k 0 (omega arith))))
        ];
      }),
    )
