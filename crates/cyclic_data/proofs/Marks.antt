-- Marks on a part of a frame.
use Rattle.std.proofs.Common.{◌≡◌, inl, inr, ℕ, zero, suc, ◌+◌, ◌-◌, ◌<◌, ◌≤◌, ◌++◌, Bool, true, false, List, [], ◌∷◌, length, get_or, take, drop, refl, sym, ap, ◌∙◌, arith}
use Rattle.std.specs.List.{list_any, between}
use Rattle.std.proofs.lemmas.Bool.{false≢true, or_cases, or_parts}
use Rattle.std.proofs.lemmas.List.{length-take-le, get_or-append_right, get_or_append_left, get_or-take, get_or-drop}
use Rattle.std.proofs.lemmas.List.Edits.{get_or-between, length-between}
use borrow.Rule.Slice.PartMut.{put_mid, post_of}
use Rattle.cyclic_data.specs.Marked.{IsTaken, IsFree, IsMarkedWith}

any_found : (marks : List Bool) → list_any (λ mark. mark) marks ≡ true → (k : ℕ) × (k < length marks) × (get_or marks k false ≡ true)
any_found [] h = absurd (false≢true h)
any_found (m ∷ marks) h =
    elim (or_cases m (list_any (λ mark. mark) marks) h) [
      | inl t ↦ (0, omega arith, t)
      | inr t ↦ let r = any_found marks t in (suc r.0, omega (arith, r.1), r.2)
    ]

any_none : (marks : List Bool) → list_any (λ mark. mark) marks ≡ false → (k : ℕ) → get_or marks k false ≡ false
any_none [] h k = refl
any_none (m ∷ marks) h zero = (or_parts m (list_any (λ mark. mark) marks) h).0
any_none (m ∷ marks) h (suc k) = any_none marks (or_parts m (list_any (λ mark. mark) marks) h).1 k

pub part_taken : (marks : List Bool) (start size : ℕ) → start + size ≤ length marks → list_any (λ mark. mark) (between start (start + size) marks) ≡ true
    → IsTaken marks start size
part_taken marks start size fits h =
    let r = any_found (between start (start + size) marks) h in
    let long : length (between start (start + size) marks) ≡ start + size - start = length-between marks start (start + size) fits in
    let below : start + r.0 < start + size = omega (arith, long, r.1) in
    (start + r.0, omega arith, below, sym (get_or-between marks start (start + size) r.0 false below) ∙ r.2)

pub part_free : (marks : List Bool) (start size : ℕ) → start + size ≤ length marks → list_any (λ mark. mark) (between start (start + size) marks) ≡ false
    → IsFree marks start size
part_free marks start size fits h k from to =
    let here : start + (k - start) ≡ k = omega arith in
    let below : start + (k - start) < start + size = omega arith in
    ap (λ (i : ℕ). get_or marks i false) (sym here) ∙ (sym (get_or-between marks start (start + size) (k - start) false below)
    ∙ any_none (between start (start + size) marks) h (k - start))

pub part_long : (marks : List Bool) (start size : ℕ) → start + size ≤ length marks → length (between start (start + size) marks) ≡ size
part_long marks start size fits = length-between marks start (start + size) fits ∙ omega arith

pub part_marked : (old part : List Bool) (start size n : ℕ) → n ≡ size → start + size ≤ length old → length part ≡ size → ((k : ℕ) → k < size → get_or part k false ≡ true)
    → IsMarkedWith old (put_mid start n old part) start size
part_marked old part start size n same fits long each =
    let front : length (take start old) ≡ start = length-take-le start old (omega arith) in
    record {
      inside = λ k from to.
          get_or-append_right (take start old) (part ++ post_of start n old) start k false front from
          ∙ (get_or_append_left part (post_of start n old) false (k - start) (omega arith) ∙ each (k - start) (omega arith));
      below = λ k lt. get_or_append_left (take start old) (part ++ post_of start n old) false k (omega arith) ∙ get_or-take start old k false lt;
      above = λ k le.
          let here : start + (n + (k - start - size)) ≡ k = omega arith in
          get_or-append_right (take start old) (part ++ post_of start n old) start k false front (omega arith)
          ∙ (get_or-append_right part (post_of start n old) size (k - start) false long (omega arith)
          ∙ (get_or-drop n (drop start old) (k - start - size) false
          ∙ (get_or-drop start old (n + (k - start - size)) false ∙ ap (λ (i : ℕ). get_or old i false) here)));
    }
