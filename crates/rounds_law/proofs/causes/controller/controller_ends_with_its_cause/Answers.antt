-- This follows from what is heard of the device's answers.
use Rattle.std.proofs.Common.{◌≤◌, ◌<◌, ℕ, List, [], ◌∷◌, length, sym, subst, arith}
use Rattle.plans.specs.declared.parts.Station.{Station}
use Rattle.controller_messages.specs.Requests.{address_asked}
use Rattle.rounds_law.proofs.CauseController.{ended_unit, other_so, unset_short, unstored_so}
use Rattle.rounds_law.proofs.CauseModules.{differing_so}
use Rattle.rounds_law.proofs.SearchingSizes.{identify_short}
use Rattle.rounds_law.proofs.causes.controller.controller_ends_with_its_cause.Goals as goal

pub returns-clause-other : goal.returns-clause-other
returns-clause-other c = λ other settings controller named sized of_setup made.
    let setup = c.stations_are_real.ensures.setup in
    let short : length settings.name ≤ 240 = subst (λ (name : List ℕ). length name ≤ 240) (sym named) setup.plan.good.named.short in
    other_so c.args.setup.now c.args.identity.now settings controller _
    (c.answers_are_heard.ensures.identify c.args.setup.now.plan.controller c.args.identity.now c.args.setup.now.plan.controller.mac settings 1
    c.stations_are_real.ensures.device setup.mac (omega arith) (identify_short c.args.identity.now settings c.type_is_short.ensures short sized))
    (record {
      vendor = c.has_two.ensures;
      device = c.has_two-2.ensures;
      plan_vendor = subst (λ (s : Station). s.vendor_id < 65536) c.station-station.ensures.value c.has_two-3.ensures;
      plan_device = subst (λ (s : Station). s.device_id < 65536) c.station-station.ensures.value c.has_two-4.ensures;
    }) other named of_setup made

pub returns-clause-unstored : goal.returns-clause-unstored
returns-clause-unstored c = λ controller spare error unstored waits.
    unstored_so c.args.setup.now c.args.identity.now controller _ spare error
    (c.answers_are_heard.ensures.set c.args.setup.now.plan.controller c.args.identity.now c.args.setup.now.plan.controller.mac
    (address_asked c.args.setup.now.plan) (error ∷ []) c.stations_are_real.ensures.device c.stations_are_real.ensures.setup.mac (omega arith)
    (unset_short c.args.setup.now error unstored))
    unstored waits

pub returns-clause-differing : goal.returns-clause-differing
returns-clause-differing c = λ serial real controller spare waits differs can.
    differing_so c.args.setup.now c.args.identity.now serial real controller spare c.stations_are_real.ensures.setup c.stations_are_real.ensures.device
    c.responses_are_heard.ensures.controller waits differs can

pub returns-clause-unit : goal.returns-clause-unit
returns-clause-unit c = λ why controller ended. ended_unit why controller ended
