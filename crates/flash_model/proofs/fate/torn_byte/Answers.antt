use Rattle.std.proofs.Common.{arith}
use Rattle.flash_model.proofs.TornLemmas.{torn_byte-bits, torn_byte-between}
use Rattle.flash_model.proofs.fate.torn_byte.Goals as goal

pub returns-clause-bits : goal.returns-clause-bits
returns-clause-bits c = torn_byte-bits c.args.old c.args.new c.args.mask (omega arith) (omega arith) (omega arith)

pub returns-clause-between : goal.returns-clause-between
returns-clause-between c = torn_byte-between c.args.old c.args.new c.args.mask (omega arith) (omega arith) (omega arith)
