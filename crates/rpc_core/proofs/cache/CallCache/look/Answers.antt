use Rattle.std.proofs.Common.{get_or, ap, ◌∙◌, Option, arith}
use Rattle.rpc_core.specs.Cache.{Kept, new, again, reported_by}
use Rattle.rpc_core.specs.Slots.{kept_in}
use Rattle.rpc_core.proofs.Cached.{places_below, look_none, look_read}
use Rattle.rpc_core.proofs.Faithful.{reported_again, reported_old, reported_new, faithful_reported}
use Rattle.rpc_core.proofs.cache.CallCache.look.Goals as goal

pub place_of-place-requires : goal.place_of-place-requires
place_of-place-requires g c =
    places_below g.row.N c.self.inside.slots c.self.inside.order.items c.as_slice.result.now c.as_slice.ensures.value c.self.invariant.0 c.self.invariant.1 c.self.invariant.2

pub returns-in_default-clause-reported : goal.returns-in_default-clause-reported
returns-in_default-clause-reported g c =
    ap (λ (o : Option Kept). reported_by c.args.sequence o) (look_none c.args.activity.now c.into_bytes.result c.self.inside.slots c.self.inside.order.items c.as_slice.result.now c.args.self.now
    c.into_bytes.ensures c.as_slice.ensures.value c.self.view_is c.in_default.ensures.none)

pub returns-in_default-clause-faithful : goal.returns-in_default-clause-faithful
returns-in_default-clause-faithful g c = faithful_reported g.row.N c.args.activity.now c.args.sequence c.args.self.now new (returns-in_default-clause-reported g c)

pub returns-then-sequence-slot-clause-reported : goal.returns-then-sequence-slot-clause-reported
returns-then-sequence-slot-clause-reported g c =
    ap (λ (o : Option Kept). reported_by c.args.sequence o) (look_read g.row.N c.args.activity.now c.into_bytes.result c.self.inside.slots c.self.inside.order.items c.as_slice.result.now c.as_slice-2.result.now c.args.self.now
    c.in-Some.place c.index-self-as_slice.result c.into_bytes.ensures c.as_slice.ensures.value c.as_slice-2.ensures.value c.self.view_is c.self.invariant.0 c.self.invariant.1 c.self.invariant.2
    c.in-Some.ensures.there c.in-Some.ensures.before c.in-Some.ensures.found)
    ∙ reported_again (kept_in (get_or c.self.inside.slots (get_or c.as_slice-2.result.now c.in-Some.place 0) c.index-self-as_slice.result)) c.args.sequence c.if-sequence-slot.true

pub returns-then-sequence-slot-clause-faithful : goal.returns-then-sequence-slot-clause-faithful
returns-then-sequence-slot-clause-faithful g c =
    faithful_reported g.row.N c.args.activity.now c.args.sequence c.args.self.now
    (again (kept_in (get_or c.self.inside.slots (get_or c.as_slice-2.result.now c.in-Some.place 0) c.index-self-as_slice.result)).frame) (returns-then-sequence-slot-clause-reported g c)

pub returns-then-sequence-slot-2-clause-reported : goal.returns-then-sequence-slot-2-clause-reported
returns-then-sequence-slot-2-clause-reported g c =
    ap (λ (o : Option Kept). reported_by c.args.sequence o) (look_read g.row.N c.args.activity.now c.into_bytes.result c.self.inside.slots c.self.inside.order.items c.as_slice.result.now c.as_slice-2.result.now c.args.self.now
    c.in-Some.place c.index-self-as_slice.result c.into_bytes.ensures c.as_slice.ensures.value c.as_slice-2.ensures.value c.self.view_is c.self.invariant.0 c.self.invariant.1 c.self.invariant.2
    c.in-Some.ensures.there c.in-Some.ensures.before c.in-Some.ensures.found)
    ∙ reported_old (kept_in (get_or c.self.inside.slots (get_or c.as_slice-2.result.now c.in-Some.place 0) c.index-self-as_slice.result)) c.args.sequence c.if-sequence-slot-2.true

pub returns-clause-reported : goal.returns-clause-reported
returns-clause-reported g c =
    ap (λ (o : Option Kept). reported_by c.args.sequence o) (look_read g.row.N c.args.activity.now c.into_bytes.result c.self.inside.slots c.self.inside.order.items c.as_slice.result.now c.as_slice-2.result.now c.args.self.now
    c.in-Some.place c.index-self-as_slice.result c.into_bytes.ensures c.as_slice.ensures.value c.as_slice-2.ensures.value c.self.view_is c.self.invariant.0 c.self.invariant.1 c.self.invariant.2
    c.in-Some.ensures.there c.in-Some.ensures.before c.in-Some.ensures.found)
    ∙ reported_new (kept_in (get_or c.self.inside.slots (get_or c.as_slice-2.result.now c.in-Some.place 0) c.index-self-as_slice.result)) c.args.sequence (omega arith)

pub returns-clause-faithful : goal.returns-clause-faithful
returns-clause-faithful g c = faithful_reported g.row.N c.args.activity.now c.args.sequence c.args.self.now new (returns-clause-reported g c)
