-- Octets after those that are there.
use Rattle.std.proofs.Common.{◌+◌, List, ℕ, length, ap}
use Rattle.c_layout.proofs.Behind.{more}
use Rattle.c_layout.proofs.op.put_more.Goals as goal

pub returns : goal.returns
returns c = λ before asked was.
    let op = c.args.op.now in
    more before c.args.octets.now asked op _ (ap (λ (xs : List ℕ). record op { length = op.length + length c.args.octets.now; octets = xs }) c.write_at.ensures) was
