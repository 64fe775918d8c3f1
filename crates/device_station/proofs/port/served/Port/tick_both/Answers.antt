-- More units pass, or work stops them.
use Rattle.std.proofs.Common.{◌≡◌, ◌-◌, ◌+◌, ◌∙◌, sym, ap, subst, arith}
use Rattle.device_station.specs.port.Served.{due_both}
use Rattle.device_station.specs.port.ServedSteps.{TicksBoth}
use Rattle.device_station.proofs.PortStages.{free_of, working_of}
use Rattle.device_station.proofs.ServedComposed.{passes_on}
use Rattle.device_station.proofs.ServedTicking.{ticks_on}
use Rattle.device_station.proofs.port.served.Port.tick_both.Goals.{else-loop-left-test, then-loop-left-test+then-has_work}
use Rattle.device_station.proofs.port.served.Port.tick_both.Goals as goal

pub loop-left-preserved : goal.loop-left-preserved
loop-left-preserved c =
    let new = c.leap-left.new.self in
    let known = c.loop-left.invariant in
    let count : c.leap-left.result + (c.args.units - c.loop-left.left) ≡ c.args.units - (c.loop-left.left - c.leap-left.result) = omega (arith, known.few, c.leap-left.ensures.most) in
    record {
      few = omega (arith, known.few);
      ticks = subst (λ n. TicksBoth n c.args.self.now new) count
          (ticks_on (c.args.units - c.loop-left.left) c.leap-left.result c.args.self.now c.loop-left.self new known.ticks c.leap-left.ensures.ticks);
      free = free_of new.port.stage _ c.leap-left.ensures.stage (sym c.has_work.ensures ∙ c.if-has_work.false);
    }

pub returns : goal.returns
returns c =
    let known = c.loop-left.invariant in (
      sym c.barred.ensures ∙ c.in_default.is,
      elim c.loop-left-test.branch [
        | else-loop-left-test w ↦
            passes_on c.args.units c.loop-left-test.left c.args.self.now c.loop-left.self c.count.new.self (omega (arith, w.left-is, known.few))
            (subst (λ n. TicksBoth (c.args.units - n) c.args.self.now c.loop-left.self) (sym w.left-is) known.ticks) (c.count.ensures.same ∙ w.self-is) (λ some. absurd (omega (arith, w.left-is, w.loop-left-test.false, some)))
        | then-loop-left-test+then-has_work w ↦
            let new = w.leap-left.new.self in
            let count : w.leap-left.result + (c.args.units - c.loop-left.left) ≡ c.args.units - c.loop-left-test.left = omega (arith, known.few, w.leap-left.ensures.most, w.left-is) in
            passes_on c.args.units c.loop-left-test.left c.args.self.now new c.count.new.self (omega (arith, w.left-is, known.few))
            (subst (λ n. TicksBoth n c.args.self.now new) count (ticks_on (c.args.units - c.loop-left.left) w.leap-left.result c.args.self.now c.loop-left.self new known.ticks w.leap-left.ensures.ticks)) (c.count.ensures.same ∙ w.self-is)
            (λ some. working_of new.port.stage _ w.leap-left.ensures.stage (sym w.has_work.ensures ∙ w.if-has_work.true))
      ],
      c.count.ensures.due ∙ ap (λ s. due_both s) (sym c.count.ensures.same),
    )
