-- Octets that are appended to a list with room for a number of them, and cut there.
use Rattle.std.proofs.Common.{◌≡◌, ◌==◌, false, ◌+◌, ◌≤◌, ◌++◌, ℕ, zero, suc, List, [], ◌∷◌, length, take, refl, sym, ap, ◌∙◌, append_assoc}
use Rattle.std.proofs.lemmas.List.{append-nil, take_all}
use Rattle.std.proofs.Math.Seq.{take-append-add}
use Rattle.diagnosis.specs.Record.{block_bytes, channels_bytes, head_bytes}
use Rattle.diagnosis.specs.declared.diagnosis.Diagnosis.{Diagnosis}

-- What was cut before is cut once more.
pub cut_again : (n : ℕ) (xs ys : List ℕ) → take n (take n xs ++ ys) ≡ take n (xs ++ ys)
cut_again zero xs ys = refl
cut_again (suc n) [] ys = refl
cut_again (suc n) (x ∷ xs) ys = ap (λ more. x ∷ more) (cut_again n xs ys)

-- Two pieces, one after the other.
pub cut_both : (n : ℕ) (xs ys zs : List ℕ) → take n (take n (xs ++ ys) ++ zs) ≡ take n (xs ++ (ys ++ zs))
cut_both n xs ys zs = cut_again n (xs ++ ys) zs ∙ ap (take n) (append_assoc xs ys zs)

-- As many as there is room for.
pub cut_to_room : (n : ℕ) (xs ys : List ℕ) (room : ℕ) → length xs + room ≡ n → xs ++ take room ys ≡ take n (xs ++ ys)
cut_to_room n xs ys room whole = sym (take-append-add xs ys room) ∙ ap (λ most. take most (xs ++ ys)) whole

-- Nothing is appended.
pub cut_whole : (n : ℕ) (xs : List ℕ) → length xs ≤ n → xs ≡ take n (xs ++ [])
cut_whole n xs few = sym (ap (take n) (append-nil xs) ∙ take_all n xs few)

-- A piece was appended and cut, and the rest follows.
pub goes_on : (n : ℕ) (now before piece rest whole : List ℕ) → now ≡ take n (before ++ piece) → take n (before ++ (piece ++ rest)) ≡ whole
    → take n (now ++ rest) ≡ whole
goes_on n now before piece rest whole cut e = ap (λ octets. take n (octets ++ rest)) cut ∙ cut_both n before piece rest ∙ e

-- Nothing follows.
pub is_cut : (n : ℕ) (now whole : List ℕ) → length now ≤ n → take n (now ++ []) ≡ whole → now ≡ whole
is_cut n now whole few e = cut_whole n now few ∙ e

-- The block of a submodule that has a diagnosis.
pub some_is_block : (slot subslot : ℕ) (own : List Diagnosis) → (length own == 0) ≡ false
    → head_bytes slot subslot (length own) ++ channels_bytes own ≡ block_bytes slot subslot own
some_is_block slot subslot [] none = absurd cc
some_is_block slot subslot (diagnosis ∷ diagnoses) some = refl
