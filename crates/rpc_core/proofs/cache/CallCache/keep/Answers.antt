use Rattle.std.proofs.Common.{ℕ, ◌-◌, List, take, ap, ◌∙◌, arith}
use Rattle.rpc_core.specs.Cache.{Kept, without}
use Rattle.rpc_core.proofs.Cached.{places_below, stays, kept_written}
use Rattle.rpc_core.proofs.cache.CallCache.keep.Goals as goal

pub place_of-place-requires : goal.place_of-place-requires
place_of-place-requires g c =
    places_below g.row.N c.self.inside.slots c.self.inside.order.items c.as_slice.result.now c.as_slice.ensures.value c.self.invariant.0 c.self.invariant.1 c.self.invariant.2

pub returns : goal.returns
returns g c =
    let slots = c.self.inside.slots in
    let order = c.self.inside.order.items in
    let activity = c.into_bytes-activity.result in
    let seen = c.as_slice.ensures.value in
    let rest = stays g.row.N activity slots order c.take_slot-index.new.order.items c.place_of-place.result c.self.invariant.1
    (rw seen at c.place_of-place.ensures.before) (rw seen at c.place_of-place.ensures.there) (rw seen at c.place_of-place.ensures.found) (rw seen at c.place_of-place.ensures.none)
    c.take_slot-index.ensures.found c.take_slot-index.ensures.none in
    kept_written slots c.take_slot-index.result _ c.take_slot-index.new.order.items _
    (record { activity = c.args.activity.now; sequence = c.args.sequence; frame = c.args.frame.now.items }) _
    (omega (arith, c.take_slot-index.ensures.tidy.0, c.take_slot-index.ensures.room, c.self.invariant.0))
    (c.fill.ensures ∙ ap (λ (a : List ℕ). record { activity = a; sequence = c.args.sequence; frame = c.args.frame.now.items }) c.into_bytes-activity.ensures)
    c.take_slot-index.ensures.tidy.1
    (rest ∙ ap (λ (ks : List Kept). take (g.row.N - 1) (without activity ks)) c.self.view_is ∙ ap (λ (a : List ℕ). take (g.row.N - 1) (without a c.args.self.now)) c.into_bytes-activity.ensures)
    c.insert.ensures.items
