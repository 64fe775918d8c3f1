-- The frame at a position.
use Rattle.std.proofs.Common.{◌≡◌, ◌+◌, ◌<◌, ◌≤◌, ◌∙◌, ◌∷◌, ℕ, List, [], Some, length, take, drop, ap, subst, sym, arith}
use Rattle.std.specs.Prelude.{slice_get}
use Rattle.device_station.specs.Views.{call_octets}
use Rattle.device_station.specs.port.Own.{Own}
use Rattle.device_station.proofs.PortOwn.{one_at, two_at}
use Rattle.device_station.proofs.port.own.OwnFrames.frame.Goals as goal

pub returns-then-self-eq1-clause-at : goal.returns-then-self-eq1-clause-at
returns-then-self-eq1-clause-at c =
    let own = c.self.inside in
    let there = subst (λ (o : Own). c.args.index < length o.frames) (sym c.self.view_is) c.requires in
    let one = one_at own.count own.first c.args.index (call_octets own.room) c.if-self-eq1.true there c.self.invariant in
    rw (← c.self.view_is) (one.0 ∙ ap (λ (o : List ℕ). Some o) (sym c.octets.ensures))

pub returns-then-self-eq1-clause-short : goal.returns-then-self-eq1-clause-short
returns-then-self-eq1-clause-short c =
    let own = c.self.inside in
    let there = subst (λ (o : Own). c.args.index < length o.frames) (sym c.self.view_is) c.requires in
    let one = one_at own.count own.first c.args.index (call_octets own.room) c.if-self-eq1.true there c.self.invariant in
    subst (λ (o : List ℕ). length o ≤ 1518) (sym c.octets.ensures) one.1

pub one_of-requires-clause-fits : goal.one_of-requires-clause-fits
one_of-requires-clause-fits c =
    let own = c.self.inside in
    let there = subst (λ (o : Own). c.args.index < length o.frames) (sym c.self.view_is) c.requires in
    let two = two_at own.count own.first c.args.index (call_octets own.room) c.if-self-eq1.false there c.self.invariant in
    subst (λ (o : List ℕ). (own.first ≤ 1518) × (own.first ≤ length o) × (length o ≤ own.first + 1518)) (sym c.octets-2.ensures) two.2

pub one_of-requires-clause-there : goal.one_of-requires-clause-there
one_of-requires-clause-there c =
    let own = c.self.inside in
    let there = subst (λ (o : Own). c.args.index < length o.frames) (sym c.self.view_is) c.requires in
    (two_at own.count own.first c.args.index (call_octets own.room) c.if-self-eq1.false there c.self.invariant).1

pub returns-clause-at : goal.returns-clause-at
returns-clause-at c =
    let own = c.self.inside in
    let there = subst (λ (o : Own). c.args.index < length o.frames) (sym c.self.view_is) c.requires in
    let two = two_at own.count own.first c.args.index (call_octets own.room) c.if-self-eq1.false there c.self.invariant in
    let at = subst (λ (o : List ℕ). slice_get (take own.first o ∷ drop own.first o ∷ []) c.args.index ≡ Some c.one_of.result.now) c.octets-2.ensures c.one_of.ensures.at in
    rw (← c.self.view_is) (ap (λ (f : List (List ℕ)). slice_get f c.args.index) two.0 ∙ at)
