-- The first part, or the second.
use Rattle.std.proofs.Common.{◌≡◌, ◌-◌, ◌≤◌, ◌∙◌, ℕ, List, Some, length, drop, take, ap, sym, arith}
use Rattle.std.proofs.lemmas.List.{length-drop, length-take-le, take_all}
use Rattle.device_station.proofs.PortOwn.{first_at, second_at}
use Rattle.device_station.proofs.port.own.one_of.Goals as goal

pub returns-then-index-eq0-clause-at : goal.returns-then-index-eq0-clause-at
returns-then-index-eq0-clause-at c = first_at c.args.index (take c.args.first c.args.octets.now) (drop c.args.first c.args.octets.now) c.if-index-eq0.true

pub returns-then-index-eq0-clause-short : goal.returns-then-index-eq0-clause-short
returns-then-index-eq0-clause-short c =
    let long = length-take-le c.args.first c.args.octets.now c.requires.fits.1 in
    omega (arith, long, c.requires.fits.0)

-- The second part is all the rest.
pub returns-else-index-eq0-clause-at : goal.returns-else-index-eq0-clause-at
returns-else-index-eq0-clause-at c =
    let all = c.args.octets.now in
    let rest = take_all (length all - c.args.first) (drop c.args.first all) (omega (arith, length-drop c.args.first all)) in
    second_at c.args.index (take c.args.first all) (drop c.args.first all) c.if-index-eq0.false c.requires.there ∙ ap (λ (octets : List ℕ). Some octets) (sym rest)

pub returns-else-index-eq0-clause-short : goal.returns-else-index-eq0-clause-short
returns-else-index-eq0-clause-short c =
    let all = c.args.octets.now in
    let long = length-drop c.args.first all in
    let rest = ap length (take_all (length all - c.args.first) (drop c.args.first all) (omega (arith, long))) in
    omega (arith, rest, long, c.requires.fits.2)
