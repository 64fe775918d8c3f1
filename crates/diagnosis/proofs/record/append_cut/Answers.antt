-- There is room for what is appended.
use Rattle.std.proofs.Common.{◌≡◌, ◌+◌, ◌-◌, ◌∙◌, ◌++◌, List, ℕ, ap, length, take, arith}
use Rattle.diagnosis.proofs.Cut.{cut_to_room}
use Rattle.diagnosis.proofs.record.append_cut.Goals as goal

pub returns-clause-items : goal.returns-clause-items
returns-clause-items c =
    let room : length c.args.octets.now.items + (1308 - length c.args.octets.now.items) ≡ 1308 = grind (arith, c.args.octets.now.items) in
    let front : c.at_most.result.now ≡ take (1308 - length c.args.octets.now.items) c.args.more.now = grind (arith, c.at_most.ensures.value) in
    c.append.ensures.items ∙ ap (λ (more : List ℕ). c.args.octets.now.items ++ more) front
    ∙ cut_to_room 1308 c.args.octets.now.items c.args.more.now (1308 - length c.args.octets.now.items) room
