use Rattle.std.proofs.Common.{◌-◌, ◌<◌, length, rules}
use Rattle.std.proofs.lemmas.List.{get_or_read}
use Rattle.rpc_core.proofs.Cached.{taken, one_more}
use Rattle.rpc_core.proofs.cache.take_slot.Goals as goal

pub returns-in-Some-clause-tidy : goal.returns-in-Some-clause-tidy
returns-in-Some-clause-tidy g c =
    let order = c.args.order.now.items in
    let below = rw c.in-Some.is at c.requires.there in
    taken (length order) order c.remove.new.self.items c.in-Some.place c.remove.result below c.requires.tidy c.remove.ensures.items
    (get_or_read order _ _ below c.remove.ensures.value 0) c.remove.ensures.len

pub returns-in-None-clause-tidy : goal.returns-in-None-clause-tidy
returns-in-None-clause-tidy g c =
    let order = c.args.order.now.items in
    let below : g.row.N - 1 < length order = search rules in
    taken (length order) order c.remove-in-None.new.self.items (g.row.N - 1) c.remove-in-None.result below c.requires.tidy c.remove-in-None.ensures.items
    (get_or_read order _ _ below c.remove-in-None.ensures.value 0) c.remove-in-None.ensures.len

pub returns-in-None-2-clause-tidy : goal.returns-in-None-2-clause-tidy
returns-in-None-2-clause-tidy g c =
    rw c.len.ensures.value (one_more (length c.args.order.now.items) c.args.order.now.items c.requires.tidy)
