use Rattle.std.proofs.Common.{◌≡◌, ℕ, ◌-◌, List, replicate, ◌++◌, take, drop, length, refl, ap, ◌∙◌, arith, append_assoc}
use Rattle.std.proofs.lemmas.List.{drop-replicate, take_all, length-replicate}
use Rattle.rpc_services.proofs.endpoint_mapper.annotation.put_type.Goals as goal

-- a suffix of a list of spaces is spaces
rest_of_spaces : (spaces : List ℕ) (size n : ℕ) → spaces ≡ replicate size 32 → take (size - n) (drop n spaces) ≡ replicate (size - n) 32
rest_of_spaces spaces size n e =
    let tail : drop n spaces ≡ replicate (size - n) 32 = ap (λ (xs : List ℕ). drop n xs) e ∙ drop-replicate n size 32 in
    rw tail (take_all (size - n) (replicate (size - n) 32) (omega (arith, length-replicate {A = ℕ} (size - n) 32)))

pub returns-clause-items : goal.returns-clause-items
returns-clause-items c =
    let out = c.args.out.now.items in
    let type = c.args.identity.now.station_type.items in
    let front = c.append.ensures.items ∙ ap (λ (xs : List ℕ). out ++ xs) c.as_slice.ensures.value in
    let spaces = rest_of_spaces _ 25 c.len.result refl ∙ ap (λ (k : ℕ). replicate (25 - k) 32) c.len.ensures.value in
    c.append-2.ensures.items ∙ ap (λ (xs : List ℕ). xs ++ take (25 - c.len.result) (drop c.len.result (replicate 25 32))) front
    ∙ append_assoc out type _ ∙ ap (λ (xs : List ℕ). out ++ (type ++ xs)) spaces
