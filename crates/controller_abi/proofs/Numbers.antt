-- The numbers of requests are those of 32 bits, one after another.
use Rattle.std.proofs.Common.{◌≡◌, ◌≢◌, ◌+◌, ◌<◌, ◌==◌, ◌⊎◌, inl, inr, ℕ, zero, suc, Bool, true, false, refl, arith}
use Rattle.std.specs.Prelude.{if◌then◌else◌}
use Rattle.std.proofs.lemmas.Bool.{eqb-true, eqb-false}
use Rattle.controller_abi.specs.Tool.{next_number, number_after}

-- The number after some requests, before the numbers begin again or after it.
abbrev Follows : ℕ → ℕ → ℕ → Type 0
Follows more number last = (last ≡ number + more) ⊎ (last + 4294967296 ≡ number + more)

-- One more request.
by_next : (b : Bool) (more number last : ℕ) → (number == 4294967295) ≡ b → suc more < 4294967296 → number < 4294967296
    → Follows more (if b then 0 else number + 1) last → Follows (suc more) number last
by_next true more number last end few below (inl e) = let same = eqb-true number 4294967295 end in inr (omega (arith, same, e))
by_next true more number last end few below (inr e) = absurd (omega (arith, e, few))
by_next false more number last end few below (inl e) = inl (omega (arith, e))
by_next false more number last end few below (inr e) = inr (omega (arith, e))

next_below : (b : Bool) (number : ℕ) → (number == 4294967295) ≡ b → number < 4294967296 → (if b then 0 else number + 1) < 4294967296
next_below true number end below = omega arith
next_below false number end below = let differs = eqb-false number 4294967295 end in omega (arith, differs, below)

follows : (more number : ℕ) → more < 4294967296 → number < 4294967296 → Follows more number (number_after more number)
follows zero number few below = inl (omega arith)
follows (suc more) number few below =
    by_next (number == 4294967295) more number (number_after (suc more) number) refl few below
    (follows more (next_number number) (omega (arith, few)) (next_below (number == 4294967295) number refl below))

by_follows : (more number last : ℕ) → suc more < 4294967296 → Follows (suc more) number last → last ≢ number
by_follows more number last few (inl e) same = omega (arith, e, same)
by_follows more number last few (inr e) same = omega (arith, e, same, few)

pub another : (number more : ℕ) → number < 4294967296 → suc more < 4294967296 → number_after (suc more) number ≢ number
another number more below few = by_follows more number (number_after (suc more) number) few (follows (suc more) number few below)
