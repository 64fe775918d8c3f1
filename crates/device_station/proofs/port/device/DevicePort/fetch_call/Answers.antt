-- A flash call is fetched and handed out.
use Rattle.std.proofs.Common.{◌≡◌, ◌∙◌, true, length, refl, sym, ap, subst, arith}
use Rattle.std.specs.Prelude.{slice_get}
use Rattle.device_station.specs.recorded.Entry.{call_of}
use Rattle.device_station.specs.recorded.Record.{recalled}
use Rattle.device_station.specs.port.State.{advanced, has_some}
use Rattle.device_station.specs.contracts.port.device.DevicePort.{the_view}
use Rattle.device_station.proofs.PortLeft.{call_taken, known_call, next_at, some_there, steady_call}
use Rattle.device_station.proofs.port.device.DevicePort.fetch_call.Goals as goal

pub overflow_add-self : goal.overflow_add-self
overflow_add-self c =
    let port = c.self.inside in
    let left : has_some (the_view port).calls ≡ true = subst (λ p. has_some p.calls ≡ true) (sym c.self.view_is) c.requires in
    let some = some_there port.calls_past (recalled port.device.flash) left in
    let all = ap (λ f. length (recalled f)) c.flash.ensures in
    omega (arith, some, c.stored-self-inside.ensures, all, c.stored-self-inside.type_inv)

pub invariant_of-self : goal.invariant_of-self
invariant_of-self c =
    let port = c.self.inside in
    let left : has_some (the_view port).calls ≡ true = subst (λ p. has_some p.calls ≡ true) (sym c.self.view_is) c.requires in
    let some = some_there port.calls_past (recalled port.device.flash) left in (
      omega (arith, some),
      c.self.invariant.1,
      steady_call port.stage port.device.live.values.has_failed port.calls_past (recalled port.device.flash) _ some c.self.invariant.2,
      known_call port.steady port.device.live port.stage port.calls_past (recalled port.device.flash) some c.self.invariant.3,
    )

pub call-requires : goal.call-requires
call-requires c =
    let port = c.self.inside in
    let left : has_some (the_view port).calls ≡ true = subst (λ p. has_some p.calls ≡ true) (sym c.self.view_is) c.requires in
    let some = some_there port.calls_past (recalled port.device.flash) left in
    let all = ap (λ f. length (recalled f)) c.flash-2.ensures in
    omega (arith, some, all)

pub returns : goal.returns
returns c =
    let port = c.self.inside in
    let left : has_some (the_view port).calls ≡ true = subst (λ p. has_some p.calls ≡ true) (sym c.self.view_is) c.requires in
    let some = some_there port.calls_past (recalled port.device.flash) left in
    let at = ap (λ f. slice_get (recalled f) port.calls_past) (sym c.flash-2.ensures) ∙ c.call.ensures.at in (
      (
        refl,
        (λ _. tt),
        (
          rw (← c.self.view_is) (next_at port.calls_past (recalled port.device.flash) (call_of c.call.result) at),
          sym (call_taken (the_view port) port.calls_past (recalled port.device.flash) some) ∙ ap advanced c.self.view_is,
          c.waiting.ensures,
        ),
      ),
      record { fetches = tt; fits = c.call.ensures.fits },
    )
