-- An operation of a controller that was started.
use Rattle.std.proofs.Common.{◌≡◌, Bool, true, refl, sym, subst, ◌∙◌}
use Rattle.controller_abi.specs.Serves.{ServesIf, operation_of}
use Rattle.controller_abi.proofs.serving.serve.Goals as goal

pub returns-then-not-is_started : goal.returns-then-not-is_started
returns-then-not-is_started c = rw (sym c.is_started.ensures ∙ c.if-not-is_started.true) (refl, refl, refl)

pub returns : goal.returns
returns c =
    let is : c.args.port.now.is_started ≡ true = sym c.is_started.ensures ∙ c.if-not-is_started.false in
    subst (λ (b : Bool). ServesIf b (operation_of c.args.op.now.what) c.args.port.now c.args.op.now c.args.given.now c.serve_started.result c.serve_started.new.port c.serve_started.new.op)
    (sym is) c.serve_started.ensures
