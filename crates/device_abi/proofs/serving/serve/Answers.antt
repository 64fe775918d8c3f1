-- What happens in each millisecond, or another operation.
use Rattle.std.proofs.Common.{ℕ, subst, sym}
use Rattle.device_abi.specs.Serves.{Serves, operation_of}
use Rattle.device_abi.proofs.serving.serve.Goals as goal

pub returns-then-op-eq4 : goal.returns-then-op-eq4
returns-then-op-eq4 c =
    subst (λ (what : ℕ). Serves (operation_of what) c.args.port.now c.args.op.now c.args.given.now c.tick.result c.tick.new.port c.tick.new.op) (sym c.if-op-eq4.true) c.tick.ensures
