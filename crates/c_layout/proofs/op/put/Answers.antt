-- An operation without octets yet.
use Rattle.std.proofs.Common.{[], refl}
use Rattle.c_layout.proofs.op.put.Goals as goal

pub returns : goal.returns
returns c = c.put_more.ensures [] c.args.op.now refl
