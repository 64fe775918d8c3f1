-- Each place is older.
use Rattle.std.proofs.Common.{◌∙◌, ap, length, arith}
use Rattle.std.proofs.lemmas.List.{length-map}
use Rattle.rpc_services.specs.pieces.State.{older}
use Rattle.rpc_services.proofs.PiecesLeaping.{less_left}
use Rattle.rpc_services.proofs.pieces.joiner.Joiner.pass.Goals as goal

pub invariant_of-self : goal.invariant_of-self
invariant_of-self c =
    let j = c.self.inside in (
      ap length c.age.ensures ∙ (length-map j.calls (older c.args.ticks) ∙ c.self.invariant.0),
      less_left c.args.ticks j.busy c.saturating_sub-self-inside.result j.calls c.age.new.calls (omega (arith, c.saturating_sub-self-inside.ensures)) c.age.ensures c.self.invariant.1,
      omega (arith, c.saturating_sub-self-inside.ensures, c.self.invariant.2),
      c.self.invariant.3,
      c.self.invariant.4,
    )
