-- How many calls a record has counted, and which of them are new.
use Rattle.std.proofs.Common.{◌≡◌, ◌+◌, ◌-◌, ◌≤◌, ◌<◌, ◌%◌, ◌^◌, ℕ, List, [], ◌∷◌, ◌++◌, length, drop, sym, ap, ◌∙◌, arith}
use Rattle.std.proofs.Math.Nat.{mod-add-mod, mod-eq_of_lt, mod-lt}
use Rattle.std.proofs.Math.Seq.{drop-append_seam}
use Rattle.std.proofs.lemmas.List.{length-append}
use Rattle.flash_model.specs.Calls.{Call}
use Rattle.device_station.specs.recorded.Record.{Record, after_one, after_all}

-- Each call is counted, modulo 2 ^ 32.
pub count_after : (before : Record) (calls : List Call) → before.count < 2 ^ 32 → (after_all before calls).count ≡ (before.count + length calls) % 2 ^ 32
count_after before [] small = sym (ap (λ n. n % 2 ^ 32) (omega arith) ∙ mod-eq_of_lt {n = before.count} {m = 2 ^ 32} small)
count_after before (call ∷ calls) small =
    count_after (after_one before call) calls (mod-lt (before.count + 1) {m = 2 ^ 32} (omega arith))
    ∙ mod-add-mod (before.count + 1) (2 ^ 32) (length calls) ∙ ap (λ n. n % 2 ^ 32) (omega arith)

-- The last of some calls, as many as there are, are those calls.
pub last_of : (front calls : List Call) → drop (length (front ++ calls) - length calls) (front ++ calls) ≡ calls
last_of front calls = ap (λ n. drop n (front ++ calls)) (ap (λ k. k - length calls) (length-append front calls) ∙ omega arith) ∙ drop-append_seam front calls

-- After the older ones follow the new ones.
pub new_ones : (front calls recent : List Call) (past : ℕ) → recent ≡ front ++ calls → past ≡ length recent - length calls → drop past recent ≡ calls
new_ones front calls recent past is old =
    ap (λ n. drop n recent) old ∙ ap (λ r. drop (length r - length calls) r) is ∙ last_of front calls

-- They are among those that are stored.
pub few_new : (front calls recent : List Call) → recent ≡ front ++ calls → length calls ≤ length recent
few_new front calls recent is =
    let both = ap length is ∙ length-append front calls in
    omega (arith, both)
