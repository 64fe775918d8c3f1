-- What happens in each millisecond, or another operation.
use Rattle.std.proofs.Common.{ℕ, refl, subst, sym}
use Rattle.controller_abi.specs.Serves.{Performs, operation_of}
use Rattle.controller_abi.proofs.serving.serve_started.Goals as goal

pub returns-then-op-eq7 : goal.returns-then-op-eq7
returns-then-op-eq7 c =
    subst (λ (what : ℕ). Performs (operation_of what) c.args.port.now c.args.op.now c.args.given.now c.next.result c.next.new.port c.next.new.op) (sym c.if-op-eq7.true) c.next.ensures

pub returns-then-op-eq4 : goal.returns-then-op-eq4
returns-then-op-eq4 c =
    subst (λ (what : ℕ). Performs (operation_of what) c.args.port.now c.args.op.now c.args.given.now c.tick.result c.tick.new.port c.tick.new.op) (sym c.if-op-eq4.true) c.tick.ensures

pub returns-then-op-eq3 : goal.returns-then-op-eq3
returns-then-op-eq3 c =
    subst (λ (what : ℕ). Performs (operation_of what) c.args.port.now c.args.op.now c.args.given.now c.frame.result c.frame.new.port c.args.op.now) (sym c.if-op-eq3.true) (refl, c.frame.ensures)

pub returns-then-op-eq5 : goal.returns-then-op-eq5
returns-then-op-eq5 c =
    subst (λ (what : ℕ). Performs (operation_of what) c.args.port.now c.args.op.now c.args.given.now c.give.result c.give.new.port c.args.op.now) (sym c.if-op-eq5.true) (refl, c.give.ensures)

pub returns-then-op-eq8 : goal.returns-then-op-eq8
returns-then-op-eq8 c =
    subst (λ (what : ℕ). Performs (operation_of what) c.args.port.now c.args.op.now c.args.given.now c.value.result c.args.port.now c.value.new.op) (sym c.if-op-eq8.true) (refl, c.value.ensures)
