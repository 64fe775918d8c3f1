-- What a failed call leaves of a sector.
use Rattle.std.proofs.Common.{◌≡◌, ◌+◌, ◌-◌, ◌<◌, ◌≤◌, ◌∙◌, ℕ, List, ◌++◌, length, take, drop, get_or, slice_range, refl, sym, ap, subst, arith, inr}
use Rattle.std.proofs.lemmas.List.{length-append, length-take-le, length-drop, take_at, append_assoc, get_or-take, get_or-drop, get_or-append_right, get_or_append_left}
use Rattle.std.proofs.lemmas.Slice.{drop-append-drop}
use Rattle.flash_model.specs.Torn.{IsBetween, AreBetween, TornSector}

-- a call that finished also counts as torn, if it changed only the range
pub torn-finished : (start end : ℕ) (finished old : List ℕ) → length finished ≡ length old → take start finished ≡ take start old → drop end finished ≡ drop end old →
    TornSector start end finished old finished
torn-finished start end finished old l b d = record { length = l; before = b; behind = d; inside = λ k s e i. inr refl }

-- the bytes of a range
get_or-slice_range : (bytes : List ℕ) (start end k : ℕ) → start ≤ k → k < end → get_or (slice_range bytes start end) (k - start) 0 ≡ get_or bytes k 0
get_or-slice_range bytes start end k s e =
    let at : start + (k - start) ≡ k = omega arith in
    get_or-take (end - start) (drop start bytes) (k - start) 0 (omega arith) ∙ get_or-drop start bytes (k - start) 0 ∙ ap (λ n. get_or bytes n 0) at

-- only the range is torn
pub torn-range : (start end : ℕ) (finished old range : List ℕ) → start ≤ end → end ≤ length old →
    AreBetween (slice_range old start end) (slice_range finished start end) range → TornSector start end finished old (take start old ++ range ++ drop end old)
torn-range start end finished old range order within between =
    let front : length (take start old) ≡ start = length-take-le start old (omega arith) in
    let long : length range ≡ end - start =
    between.length ∙ length-take-le (end - start) (drop start old) (omega (arith, length-drop start old)) in
    let both : length (take start old ++ range) ≡ end = omega (arith, length-append (take start old) range) in
    let here : (k : ℕ) → start ≤ k → k < end → get_or (take start old ++ range ++ drop end old) k 0 ≡ get_or range (k - start) 0 =
    λ k s e. get_or_append_left (take start old ++ range) (drop end old) 0 k (omega arith) ∙ get_or-append_right (take start old) range start k 0 front s in
    record {
      length = omega (arith, length-append (take start old ++ range) (drop end old), length-drop end old);
      before = ap (take start) (append_assoc (take start old) range (drop end old)) ∙ take_at (take start old) (range ++ drop end old) start front;
      behind = drop-append-drop end old (take start old ++ range) end (omega arith) both;
      inside = λ k s e.
          let Old : ℕ → Type 0 = λ x. IsBetween x (get_or (slice_range finished start end) (k - start) 0) (get_or range (k - start) 0) in
          let Finished : ℕ → Type 0 = λ x. IsBetween (get_or old k 0) x (get_or range (k - start) 0) in
          let New : ℕ → Type 0 = λ x. IsBetween (get_or old k 0) (get_or finished k 0) x in
          subst New (sym (here k s e)) (subst Finished (get_or-slice_range finished start end k s e)
          (subst Old (get_or-slice_range old start end k s e) (between.each (k - start))));
    }
