-- Units since the start, and since the last multiple of an interval.
use Rattle.std.proofs.Common.{◌≡◌, ℕ, ◌+◌, ◌<◌, ◌%◌, ◌==◌, false, sym, ap, subst, ◌∙◌, arith}
use Rattle.std.proofs.lemmas.Bool.{ne_eqb}
use Rattle.std.proofs.Math.Nat.{mod-add-mod, mod-eq_of_lt}
use Rattle.cyclic_data.specs.Timing.{Sending}

pub not_due : (interval elapsed units : ℕ) → elapsed + 1 < interval → elapsed ≡ units % interval
    → (elapsed + 1 ≡ (units + 1) % interval) × (false ≡ ((units + 1) % interval == 0))
not_due interval elapsed units below run =
    let next : elapsed + 1 ≡ (units + 1) % interval =
    sym (mod-eq_of_lt below) ∙ (ap (λ (x : ℕ). (x + 1) % interval) run ∙ mod-add-mod units interval 1) in
    (next, sym (ne_eqb ((units + 1) % interval) 0 (λ e. omega (arith, next, e))))

-- The fields of a provider that has no frame due.
pub not_due_from : (interval elapsed : ℕ) (old : Sending) → ◌≡◌ {A = Sending} (record { interval = interval; elapsed = elapsed }) old → elapsed + 1 < interval
    → (units : ℕ) → old.elapsed ≡ units % old.interval
    → (elapsed + 1 ≡ (units + 1) % interval) × (false ≡ ((units + 1) % old.interval == 0))
not_due_from interval elapsed old is below units run =
    let i : interval ≡ old.interval = ap (λ (s : Sending). s.interval) is in
    let e : elapsed ≡ old.elapsed = ap (λ (s : Sending). s.elapsed) is in
    let law = not_due interval elapsed units below (e ∙ (run ∙ ap (λ (n : ℕ). units % n) (sym i))) in
    (law.0, subst (λ (n : ℕ). false ≡ ((units + 1) % n == 0)) i law.1)
