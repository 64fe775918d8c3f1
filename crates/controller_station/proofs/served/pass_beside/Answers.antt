-- Units beside the controller: with most of them nothing is due there.
use Rattle.std.proofs.Common.{◌≡◌, List, ℕ, map, sym, ap, ◌∙◌, arith}
use Rattle.arrayvec.specs.ArrayVec.{ArrayVec as Items}
use Rattle.controller_station.proofs.Leaping.{none_beside}
use Rattle.controller_station.proofs.served.pass_beside.Goals as goal

pub returns-then-units-calm-clause-frames : goal.returns-then-units-calm-clause-frames
returns-then-units-calm-clause-frames c =
    ap (λ (items : List (Items ℕ)). map (λ frame. frame.items) items) c.clear.ensures ∙ sym (none_beside c.args.units c.args.services.now c.pass.ensures.none)

pub returns-then-units-calm-clause-last : goal.returns-then-units-calm-clause-last
returns-then-units-calm-clause-last c before earlier =
    none_beside before c.args.services.now (λ first sooner. c.pass.ensures.none first (omega (arith, earlier, sooner)))

pub returns-then-units-calm-clause-calm : goal.returns-then-units-calm-clause-calm
returns-then-units-calm-clause-calm c = omega (arith, c.requires.calm, c.pass.ensures.due)
