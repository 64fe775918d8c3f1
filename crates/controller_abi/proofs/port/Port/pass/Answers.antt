-- Units before anything is due pass at once.
use Rattle.std.proofs.Common.{◌≡◌, ◌-◌, ◌≤◌, ℕ, refl, subst, arith}
use Rattle.controller_abi.specs.State.{is_over, port_due_in}
use Rattle.controller_abi.specs.Steps.{Ticks}
use Rattle.controller_abi.specs.contracts.port.Port.{the_view}
use Rattle.controller_abi.proofs.Leaps.{free_of, known_of}
use Rattle.controller_abi.proofs.port.Port.pass.Goals as goal

pub rest-requires : goal.rest-requires
rest-requires c =
    let port = c.self.inside in
    let known = known_of c.args.units port.due (the_view port) c.if-units-due.true c.self.invariant in
    record { idle = c.requires; few = c.if-units-due.true; due = subst (λ p. port.due ≤ port_due_in p) c.self.view_is known }

pub returns-then-units-due : goal.returns-then-units-due
returns-then-units-due c =
    let old = c.args.self.now in
    let all : c.args.units ≡ c.args.units - 0 = omega arith in
    record {
      few = omega arith;
      ticks = subst (λ (n : ℕ). Ticks (is_over old.controller.live.phase) n old c.rest.new.self) all (c.rest.ensures _ (free_of old c.requires));
      stops = λ left. absurd (left refl);
    }
