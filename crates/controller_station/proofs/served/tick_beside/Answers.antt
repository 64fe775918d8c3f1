-- Units beside the controller: those that send nothing, and then one more.
use Rattle.std.proofs.Common.{◌≡◌, ◌-◌, ◌++◌, ℕ, suc, List, map, ap, ◌∙◌, arith}
use Rattle.arrayvec.specs.ArrayVec.{ArrayVec as Items}
use Rattle.controller_station.specs.Beside.{sent_by_tick}
use Rattle.controller_station.proofs.Leaping.{one_more, one_sends, only_last}
use Rattle.controller_station.proofs.served.tick_beside.Goals as goal

pub returns-clause-state : goal.returns-clause-state
returns-clause-state c =
    let count : c.args.units ≡ suc (c.args.units - 1) = omega arith in
    one_more c.args.units (c.args.units - 1) c.args.services.now c.pass.new.self count c.pass.ensures.state c.pass.ensures.none c.tick.new.self c.tick.ensures.state

pub returns-clause-frames : goal.returns-clause-frames
returns-clause-frames c =
    let count : c.args.units ≡ suc (c.args.units - 1) = omega arith in
    one_sends c.args.units (c.args.units - 1) c.args.services.now c.pass.new.self count c.pass.ensures.state c.pass.ensures.none _
    (c.tick.ensures.frames ∙ ap (λ (items : List (Items ℕ)). map (λ frame. frame.items) items ++ sent_by_tick c.pass.new.self) c.requires.empty)

pub returns-clause-last : goal.returns-clause-last
returns-clause-last c =
    let count : c.args.units ≡ suc (c.args.units - 1) = omega arith in
    only_last c.args.units (c.args.units - 1) c.args.services.now c.pass.new.self count c.pass.ensures.state c.pass.ensures.none
