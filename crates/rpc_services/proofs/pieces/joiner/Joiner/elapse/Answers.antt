-- By the closed form.
use Rattle.std.proofs.Common.{◌∙◌, sym}
use Rattle.rpc_services.proofs.PiecesLeaping.{ticks_later}
use Rattle.rpc_services.proofs.pieces.joiner.Joiner.elapse.Goals as goal

pub returns : goal.returns
returns c = record { state = c.pass.ensures ∙ sym (ticks_later c.args.ticks c.args.self.now) }
