use Rattle.std.proofs.Common.{◌≡◌, ℕ, ◌-◌, List, replicate, ◌++◌, take, drop, refl, ap, ◌∙◌, arith}
use Rattle.std.proofs.lemmas.List.{drop-replicate, take_all, length-replicate}
use Rattle.lldp.proofs.writing.pad.Goals as goal

-- a suffix of a list of zeros is zeros
rest_of_zeros : (zeros : List ℕ) (size n : ℕ) → zeros ≡ replicate size 0 → take (size - n) (drop n zeros) ≡ replicate (size - n) 0
rest_of_zeros zeros size n e =
    let tail : drop n zeros ≡ replicate (size - n) 0 = ap (λ (xs : List ℕ). drop n xs) e ∙ drop-replicate n size 0 in
    rw tail (take_all (size - n) (replicate (size - n) 0) (omega (arith, length-replicate {A = ℕ} (size - n) 0)))

pub returns-then-len-lt60 : goal.returns-then-len-lt60
returns-then-len-lt60 c =
    let n = c.len-then-len-lt60.ensures.value in
    c.append.ensures.items ∙ ap (λ (xs : List ℕ). c.args.frame.now.items ++ xs) (rest_of_zeros _ 60 c.len-then-len-lt60.result refl ∙ ap (λ (k : ℕ). replicate (60 - k) 0) n)
