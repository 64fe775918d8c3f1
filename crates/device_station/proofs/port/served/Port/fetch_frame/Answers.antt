-- The first frame of the device is the first of all.
use Rattle.std.proofs.Common.{◌≡◌, ◌∙◌, ℕ, [], true, drop, refl, subst, sym, ap}
use Rattle.std.specs.Prelude.{option_map}
use Rattle.device_station.specs.port.State.{has_some, waiting}
use Rattle.device_station.specs.port.Served.{Served, advanced_both, or_own}
use Rattle.device_station.specs.contracts.port.served.Port.{the_view}
use Rattle.device_station.proofs.ServedFetching.{after_frame, first_of_port, with_port}
use Rattle.device_station.proofs.port.served.Port.fetch_frame.Goals as goal

pub returns : goal.returns
returns c =
    let all = c.self.inside in
    let frames = drop all.frames_past all.own.frames in
    let some = subst (λ (s : Served). has_some s.port.frames ≡ true) (sym c.self.view_is) c.requires.frames in
    let none = subst (λ (s : Served). s.port.calls ≡ []) (sym c.self.view_is) c.requires.calls in
    let fetched = c.fetch_frame-frame.follows.holds-at-none in
    let own : c.waiting_own-own.result ≡ waiting [] frames = c.waiting_own-own.ensures in (
      (
        refl,
        (λ _. tt),
        (
          rw (← c.self.view_is) (first_of_port all.port.frames frames (option_map (λ frame. frame.now.items) c.fetch_frame-frame.result) some fetched.0),
          ap (with_port (the_view all)) fetched.1 ∙ after_frame (the_view all) none some ∙ ap advanced_both c.self.view_is,
          c.or_own.ensures ∙ (ap (λ (n : ℕ). or_own n c.waiting_own-own.result) fetched.2 ∙ ap (or_own (waiting c.fetch_frame-frame.follows.lender-at-none.calls c.fetch_frame-frame.follows.lender-at-none.frames)) own),
        ),
      ),
      tt,
    )
