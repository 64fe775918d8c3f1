use Rattle.std.proofs.Common.{◌<◌, length, arith}
use Rattle.std.proofs.lemmas.Bool.Decides.{nat_tests}
use Rattle.script_lines.proofs.Hex.{bytes_decoded}
use Rattle.script_lines.proofs.command.decoded.Goals as goal

pub returns : goal.returns
returns c =
    let some : 0 < length c.args.digits.now = grind (arith, nat_tests) in
    bytes_decoded c.args.digits.now c.read.new.bytes some (grind (arith, c.read.ensures.decoded))
