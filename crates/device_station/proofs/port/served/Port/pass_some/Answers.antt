-- Units pass as far as it is found that they bring nothing.
use Rattle.std.proofs.Common.{◌≡◌, ◌-◌, ◌∙◌, ◌<◌, Option, Some, min, drop, refl, sym, ap, subst, arith}
use Rattle.device_core.specs.Leaps.{live_due_in}
use Rattle.device_station.specs.Serving.{Serving}
use Rattle.device_station.specs.port.Pace.{AreCalm, caught_up, soonest}
use Rattle.device_station.specs.port.Served.{Served, barred_both, due_both}
use Rattle.device_station.specs.port.ServedSteps.{TicksBoth}
use Rattle.device_station.proofs.ServedBarring.{barred_alone, free_fetched}
use Rattle.device_station.proofs.ServedComposed.{passed_paced, ticks_calm}
use Rattle.device_station.proofs.ServedPacing.{caught_zero, due_soonest, few_soonest, renewed, resting_of}
use Rattle.device_station.proofs.ServedTicking.{at}
use Rattle.device_station.proofs.port.served.Port.pass_some.Goals as goal

pub invariant_of-self : goal.invariant_of-self
invariant_of-self c =
    let all = c.self.inside in
    let frames = drop all.frames_past all.own.frames in
    let rest = c.rest_of-rest.result in
    let free = sym c.barred.ensures ∙ c.in_default.is in
    let fetched = ap (λ (s : Served). s.frames) c.self.view_is ∙ (free_fetched c.args.self.now free).1 in
    renewed rest all.port.device.live.values c.catch_up.new.services frames fetched c.rest_of-rest.ensures.calm

-- None passes: something is due of the services with the next one, or they have something to see or to tell first.
pub returns-then-rest-le1 : goal.returns-then-rest-le1
returns-then-rest-le1 c =
    let all = c.self.inside in
    let frames = drop all.frames_past all.own.frames in
    let rest = c.rest_of-rest.result in
    let services = c.catch_up.new.services in
    let free = sym c.barred.ensures ∙ c.in_default.is in
    let now = at all.serves all.port (caught_up (rest - rest) services) frames in
    let same : c.args.self.now ≡ now =
    sym c.self.view_is ∙ ap (λ (o : Option Serving). at all.serves all.port o frames) (sym c.catch_up.ensures ∙ caught_zero (rest - rest) services (omega arith)) in
    let zero : 0 ≡ c.args.units - c.args.units = omega arith in (
      free,
      record {
        few = omega arith;
        ticks = subst (λ n. TicksBoth n c.args.self.now now) zero (sym same);
        none = λ some. absurd (omega (arith, some));
        free = ap (λ (s : Served). barred_both s) (sym same) ∙ free;
        stops = λ some state is limit more calm.
            let known = subst (λ (o : Option Serving). AreCalm limit c.args.self.now.port.device.live.values o) (sym is) calm in
            let shown = subst (λ (s : Served). AreCalm limit s.port.device.live.values s.services) (sym c.self.view_is) known in
            let here = subst (λ (o : Option Serving). AreCalm limit all.port.device.live.values o) (sym c.catch_up.ensures) shown in
            absurd (omega (arith, c.if-rest-le1.true, c.rest_of-rest.ensures.known limit more here));
      },
    )

pub invariant_of-self-2 : goal.invariant_of-self-2
invariant_of-self-2 c =
    let all = c.self.inside in
    let frames = drop all.frames_past all.own.frames in
    let rest = c.rest_of-rest.result in
    let free = sym c.barred.ensures ∙ c.in_default.is in
    let fetched = ap (λ (s : Served). s.frames) c.self.view_is ∙ (free_fetched c.args.self.now free).1 in
    let paced = renewed rest all.port.device.live.values c.catch_up.new.services frames fetched c.rest_of-rest.ensures.calm in
    let few : c.min-quiet.result < rest = omega (arith, c.if-rest-le1.false, c.min-first.ensures, c.min-quiet.ensures) in
    passed_paced c.min-quiet.result rest rest all.port c.skip.new.self c.catch_up.new.services frames few paced c.skip.ensures.ticks

pub returns : goal.returns
returns c =
    let all = c.self.inside in
    let frames = drop all.frames_past all.own.frames in
    let rest = c.rest_of-rest.result in
    let quiet = c.min-quiet.result in
    let services = c.catch_up.new.services in
    let values = all.port.device.live.values in
    let laws = c.quiet_units_are_ticks.ensures in
    let new = c.skip.new.self in
    let free = sym c.barred.ensures ∙ c.in_default.is in
    let fetched = ap (λ (s : Served). s.frames) c.self.view_is ∙ (free_fetched c.args.self.now free).1 in
    let paced = renewed rest values services frames fetched c.rest_of-rest.ensures.calm in
    let few : quiet < rest = omega (arith, c.if-rest-le1.false, c.min-first.ensures, c.min-quiet.ensures) in
    let value : c.due-due.result ≡ live_due_in all.port.device.live = c.due-due.ensures.value ∙ ap (λ d. live_due_in d.live) c.device.ensures in
    let sooner : quiet < live_due_in all.port.device.live = omega (arith, value, c.due-due.ensures.some, c.min-first.ensures, c.min-quiet.ensures) in
    let resting = resting_of rest rest values services frames (omega (arith, few)) paced in
    let before = at all.serves all.port (caught_up (rest - rest) services) frames in
    let after = at all.serves new (caught_up (rest - (rest - quiet)) services) frames in
    let same : c.args.self.now ≡ before =
    sym c.self.view_is ∙ ap (λ (o : Option Serving). at all.serves all.port o frames) (sym c.catch_up.ensures ∙ caught_zero (rest - rest) services (omega arith)) in
    let due = due_soonest laws.count laws.down laws.news (live_due_in all.port.device.live) rest rest all.port.device.live services refl (omega (arith, few)) resting.inside resting.calm in
    let first : quiet < due_both c.args.self.now = subst (λ (s : Served). quiet < due_both s) (sym same) (subst (λ n. quiet < n) due (few_soonest quiet (live_due_in all.port.device.live) rest services sooner few)) in
    let count : quiet ≡ c.args.units - (c.args.units - quiet) = omega (arith, c.min-quiet.ensures) in (
      free,
      record {
        few = omega arith;
        ticks = subst (λ n. TicksBoth n c.args.self.now after) count (subst (λ (s : Served). TicksBoth quiet s after) (sym same)
            (ticks_calm laws.ticks laws.count laws.news quiet rest rest all.serves all.port new services frames few paced c.skip.ensures.ticks));
        none = λ some. omega (arith, first, count);
        free = barred_alone after fetched ∙ c.skip.ensures.free;
        stops = λ some state is limit more calm.
            let own : services ≡ Some state = c.catch_up.ensures ∙ (ap (λ (s : Served). s.services) c.self.view_is ∙ is) in
            let least : soonest (live_due_in all.port.device.live) rest services ≡ min (live_due_in all.port.device.live) rest = ap (soonest (live_due_in all.port.device.live) rest) own in
            let whole : due_both c.args.self.now ≡ min (live_due_in all.port.device.live) rest = ap (λ (s : Served). due_both s) same ∙ (sym due ∙ least) in
            omega (arith, whole, value, c.due-due.ensures.some, c.min-first.ensures, c.min-quiet.ensures, c.if-rest-le1.false, count, some);
      },
    )
