use Rattle.std.proofs.Common.{arith}
use Rattle.script_lines.proofs.Hex.{values_are}
use Rattle.script_lines.proofs.digits.values.Goals as goal

pub returns : goal.returns
returns c first second is_first is_second = values_are c.args.pair first second (omega arith) is_first is_second
