use Rattle.std.proofs.Common.{◌≡◌, ℕ, ◌-◌, ◌<◌, List, ◌++◌, length, take, drop, sym, refl, arith}
use Rattle.std.proofs.lemmas.Bool.Decides.{nat_tests}
use Rattle.std.proofs.lemmas.List.{take-append-drop, take_rest}
use Rattle.script_runner.proofs.Known.{so_far_less, so_far_on, so_far_still}
use Rattle.script_runner.proofs.output.put_all.Goals as goal

-- The bytes that were written, and the rest.
two_parts : (text : List ℕ) (taken : ℕ) → text ≡ take taken text ++ take (length text - taken) (drop taken text)
two_parts text taken = rw (take_rest text taken) (sym (take-append-drop taken text))

pub loop-rest-preserved : goal.loop-rest-preserved
loop-rest-preserved g c =
    so_far_on _ _ _ _ _ _ _ c.loop-rest.invariant (two_parts c.loop-rest.rest.now c.in-Ok.taken) c.in-Ok.ensures.bytes

pub returns-in_default : goal.returns-in_default
returns-in_default g c =
    let some : 0 < length c.loop-rest.rest.now = grind (arith, nat_tests) in
    (refl, so_far_less _ _ _ _ _ c.loop-rest.invariant c.in_default.ensures.bytes some)

pub returns-then-taken-eq0 : goal.returns-then-taken-eq0
returns-then-taken-eq0 g c =
    let some : 0 < length c.loop-rest.rest.now = grind (arith, nat_tests) in
    (refl, so_far_still _ _ _ _ _ c.in-Ok.taken c.loop-rest.invariant c.in-Ok.ensures.bytes c.if-taken-eq0.true some)
