-- A status is kept, and the relation follows, or it is refused.
use Rattle.std.proofs.Common.{◌≡◌, true, false, is_some, refl, sym, ◌∙◌}
use Rattle.relations.specs.exchange.Statuses.{statuses_at}
use Rattle.device_core.proofs.Rated.{kept_note, kept_rest, refused_note, refused_rest}
use Rattle.device_core.proofs.device.Device.rate.Goals as goal

pub returns-then-not-put_status-clause-state : goal.returns-then-not-put_status-clause-state
returns-then-not-put_status-clause-state g c =
    let old = c.args.self.now in
    let statuses = statuses_at old.live.rest.real.modules.items (record { slot = c.args.slot; subslot = c.args.subslot; is_good = c.args.is_good }) old.live.rest.statuses in
    let none : is_some statuses ≡ false = rw (← c.self.view_is) (sym c.put_status.ensures.done ∙ c.if-not-put_status.true) in
    rw (refused_rest old.station old.live c.args.slot c.args.subslot c.args.is_good statuses none) (rw (← c.self.view_is) (rw c.put_status.ensures.state refl))

pub returns-then-not-put_status-clause-note : goal.returns-then-not-put_status-clause-note
returns-then-not-put_status-clause-note g c =
    let old = c.args.self.now in
    let statuses = statuses_at old.live.rest.real.modules.items (record { slot = c.args.slot; subslot = c.args.subslot; is_good = c.args.is_good }) old.live.rest.statuses in
    let none : is_some statuses ≡ false = rw (← c.self.view_is) (sym c.put_status.ensures.done ∙ c.if-not-put_status.true) in
    sym (refused_note old.station old.live c.args.slot c.args.subslot c.args.is_good statuses none)

pub returns-clause-state : goal.returns-clause-state
returns-clause-state g c =
    let old = c.args.self.now in
    let statuses = statuses_at old.live.rest.real.modules.items (record { slot = c.args.slot; subslot = c.args.subslot; is_good = c.args.is_good }) old.live.rest.statuses in
    let there : is_some statuses ≡ true = rw (← c.self.view_is) (sym c.put_status.ensures.done ∙ c.if-not-put_status.false) in
    rw (kept_rest old.station old.live c.args.slot c.args.subslot c.args.is_good statuses there) (rw (← c.self.view_is) (rw (c.rate.ensures, c.put_status.ensures.state) refl))

pub returns-clause-note : goal.returns-clause-note
returns-clause-note g c =
    let old = c.args.self.now in
    let statuses = statuses_at old.live.rest.real.modules.items (record { slot = c.args.slot; subslot = c.args.subslot; is_good = c.args.is_good }) old.live.rest.statuses in
    let there : is_some statuses ≡ true = rw (← c.self.view_is) (sym c.put_status.ensures.done ∙ c.if-not-put_status.false) in
    sym (kept_note old.station old.live c.args.slot c.args.subslot c.args.is_good statuses there)
