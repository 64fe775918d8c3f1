-- More units pass, or work stops them.
use Rattle.std.proofs.Common.{◌≡◌, ◌-◌, ◌+◌, refl, sym, subst, arith}
use Rattle.device_station.specs.port.Steps.{Ticks}
use Rattle.device_station.proofs.PortLeaps.{ticks_on}
use Rattle.device_station.proofs.PortStages.{free_at, working_at}
use Rattle.device_station.proofs.port.device.DevicePort.pass.Goals as goal

pub loop-due-init : goal.loop-due-init
loop-due-init c =
    let port = c.args.self.now in
    let none : 0 ≡ c.args.units - c.args.units = omega arith in
    record {
      few = omega arith;
      ticks = subst (λ n. Ticks n port port) none refl;
      free = c.requires;
      due = rw (← c.self.view_is) (omega (arith, c.due-due.ensures.value));
      some = c.due-due.ensures.some;
    }

pub loop-due-preserved : goal.loop-due-preserved
loop-due-preserved c =
    let now = c.loop-due.self in
    let new = c.leap-due.new.self in
    let count : c.loop-due.due + (c.args.units - c.loop-due.left) ≡ c.args.units - (c.loop-due.left - c.loop-due.due) = omega arith in
    record {
      few = omega arith;
      ticks = subst (λ n. Ticks n c.args.self.now new) count
          (ticks_on (c.args.units - c.loop-due.left) c.loop-due.due c.args.self.now now new c.loop-due.invariant.ticks c.leap-due.ensures.ticks);
      free = free_at new.stage new.calls new.frames c.leap-due.ensures.stage c.leap-due.ensures.quiet (sym c.if-has_frames.ensures);
      due = omega (arith, c.leap-due.ensures.due);
      some = c.leap-due.ensures.some;
    }

-- All units passed except those that remain.
pub returns-then-has_frames-clause-passes : goal.returns-then-has_frames-clause-passes
returns-then-has_frames-clause-passes c =
    let now = c.loop-due.self in
    let new = c.leap-due.new.self in
    let count : c.loop-due.due + (c.args.units - c.loop-due.left) ≡ c.args.units - (c.loop-due.left - c.loop-due.due) = omega arith in
    record {
      few = omega arith;
      ticks = subst (λ n. Ticks n c.args.self.now new) count
          (ticks_on (c.args.units - c.loop-due.left) c.loop-due.due c.args.self.now now new c.loop-due.invariant.ticks c.leap-due.ensures.ticks);
      stops = λ left. working_at new.stage new.calls new.frames c.leap-due.ensures.stage c.leap-due.ensures.quiet (sym c.if-has_frames.ensures);
    }

-- The rest passed at once.
pub returns-clause-passes : goal.returns-clause-passes
returns-clause-passes c =
    let now = c.loop-due.self in
    let count : c.loop-due.left + (c.args.units - c.loop-due.left) ≡ c.args.units - 0 = omega arith in
    record {
      few = omega arith;
      ticks = subst (λ n. Ticks n c.args.self.now c.skip.new.self) count
          (ticks_on (c.args.units - c.loop-due.left) c.loop-due.left c.args.self.now now c.skip.new.self c.loop-due.invariant.ticks c.skip.ensures.ticks);
      stops = λ left. absurd (left refl);
    }
