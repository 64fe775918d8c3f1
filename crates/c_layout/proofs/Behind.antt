-- Octets that are written after others.
use Rattle.std.proofs.Common.{◌≡◌, ◌+◌, ◌++◌, ◌≤◌, ℕ, List, length, take, drop, refl, sym, ap, ◌∙◌, length-append, arith}
use Rattle.std.proofs.Math.Seq.{take-append_seam}
use Rattle.std.proofs.lemmas.Slice.{drop-append-drop}
use Rattle.c_layout.specs.declared.op.Op.{Op}
use Rattle.c_layout.specs.Reported.{with_octets}

-- The memory, if it already begins with octets.
pub both : (before octets room : List ℕ)
    → (take (length before) (before ++ drop (length before) room) ++ octets) ++ drop (length before + length octets) (before ++ drop (length before) room)
    ≡ (before ++ octets) ++ drop (length before + length octets) room
both before octets room =
    let front = take-append_seam before (drop (length before) room) in
    let past : length before ≤ length before + length octets = omega arith in
    let rest = drop-append-drop (length before) room before (length before + length octets) past refl in
    ap (λ xs. (xs ++ octets) ++ drop (length before + length octets) (before ++ drop (length before) room)) front
    ∙ ap (λ xs. (before ++ octets) ++ xs) rest

-- The operation has both.
pub more : (before octets : List ℕ) (asked old new : Op)
    → new ≡ record old { length = old.length + length octets; octets = (take old.length old.octets ++ octets) ++ drop (old.length + length octets) old.octets }
    → old ≡ with_octets before asked → new ≡ with_octets (before ++ octets) asked
more before octets asked old new is was =
    let after : Op → Op = λ (op : Op). record op { length = op.length + length octets; octets = (take op.length op.octets ++ octets) ++ drop (op.length + length octets) op.octets } in
    let room = both before octets asked.octets in
    let long : length before + length octets ≡ length (before ++ octets) = sym (length-append before octets) in
    is ∙ ap after was ∙ ap (λ (xs : List ℕ). record asked { length = length before + length octets; octets = xs }) room
    ∙ ap (λ (n : ℕ). record asked { length = n; octets = (before ++ octets) ++ drop n asked.octets }) long
