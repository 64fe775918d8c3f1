-- The frame at a place: one of the controller, or one of the services after them.
use Rattle.std.proofs.Common.{◌≡◌, ◌+◌, ◌-◌, ◌<◌, ℕ, List, length, map, get_or, subst, arith}
use Rattle.std.proofs.lemmas.List.{length-map}
use Rattle.arrayvec.specs.ArrayVec.{ArrayVec as Items}
use Rattle.controller_station.proofs.Order.{first_at, second_at}
use Rattle.controller_station.proofs.outbox.ServedOutbox.get.Goals as goal

pub returns-then-place-first : goal.returns-then-place-first
returns-then-place-first c =
    let inside = c.self.inside in
    let octets : Items ℕ → List ℕ = λ frame. frame.items in
    let one = c.index-as_slice-place.result in
    let some : c.args.place < length inside.controller.items = omega (arith, c.if-place-first.true, c.len-first.ensures.value) in
    let at : one ≡ get_or inside.controller.items c.args.place one =
    subst (λ items. one ≡ get_or items c.args.place one) c.as_slice.ensures.value c.index-as_slice-place.is in
    rw (← c.self.view_is) (first_at octets inside.controller.items (map octets inside.services.items) c.args.place one some at)

pub returns-then-place-first-2 : goal.returns-then-place-first-2
returns-then-place-first-2 c =
    let inside = c.self.inside in
    let octets : Items ℕ → List ℕ = λ frame. frame.items in
    let one = c.index-as_slice-place-then-place-first-2.result in
    let k = c.args.place - c.len-first.result in
    let e : c.args.place ≡ length (map octets inside.controller.items) + k =
    omega (arith, c.if-place-first.false, c.len-first.ensures.value, length-map inside.controller.items octets) in
    let some : k < length inside.services.items = omega (arith, c.if-place-first-2.true, c.len.ensures.value) in
    let at : one ≡ get_or inside.services.items k one =
    subst (λ items. one ≡ get_or items k one) c.as_slice-then-place-first-2.ensures.value c.index-as_slice-place-then-place-first-2.is in
    rw (← c.self.view_is) (second_at octets (map octets inside.controller.items) inside.services.items c.args.place k one e some at)
