-- The octets, or the first 1,308 of them.
use Rattle.std.proofs.Common.{◌≡◌, ◌≤◌, length, take, sym, arith}
use Rattle.std.proofs.lemmas.List.{length-take-le, take_all}
use Rattle.device_records.proofs.reading.cut.Goals as goal

pub returns-then-octets-le1308-clause-cut : goal.returns-then-octets-le1308-clause-cut
returns-then-octets-le1308-clause-cut c = sym (take_all 1308 c.args.octets.now c.if-octets-le1308.true)

pub slice_bounds-result-end : goal.slice_bounds-result-end
slice_bounds-result-end c = sym (length-take-le 1308 c.args.octets.now (omega (arith, c.if-octets-le1308.false)))

pub returns-clause-few : goal.returns-clause-few
returns-clause-few c =
    let size = length-take-le 1308 c.args.octets.now (omega (arith, c.if-octets-le1308.false)) in
    omega (arith, size)
