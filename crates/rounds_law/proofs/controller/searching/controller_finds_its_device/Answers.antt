-- This follows from what is heard of the device's answers.
use Rattle.std.proofs.Common.{◌≤◌, ℕ, List, [], ◌∷◌, length, sym, subst, arith}
use Rattle.pn_values.specs.declared.set_item.BlockError.TheVariants as error
use Rattle.controller_messages.specs.Requests.{address_asked}
use Rattle.rounds_law.proofs.SearchingController.{found_so, set_so}
use Rattle.rounds_law.proofs.SearchingSizes.{identify_short, set_short}
use Rattle.rounds_law.proofs.controller.searching.controller_finds_its_device.Goals as goal

pub returns-clause-found : goal.returns-clause-found
returns-clause-found c = λ patient vendor device settings controller named sized searches.
    let setup = c.stations_are_real.ensures.setup in
    let short : length settings.name ≤ 240 = subst (λ (name : List ℕ). length name ≤ 240) (sym named) setup.plan.good.named.short in
    found_so c.args.setup.now c.args.identity.now settings controller _
    (c.answers_are_heard.ensures.identify c.args.setup.now.plan.controller c.args.identity.now c.args.setup.now.plan.controller.mac settings 1
    c.stations_are_real.ensures.device setup.mac (omega arith) (identify_short c.args.identity.now settings c.type_is_short.ensures short sized))
    setup.plan.few_records patient (record { address = setup.station; mask = setup.mask; gateway = setup.gateway })
    vendor device named sized searches

pub returns-clause-set : goal.returns-clause-set
returns-clause-set c = λ patient controller spare waits.
    let setup = c.stations_are_real.ensures.setup in
    set_so c.args.setup.now c.args.identity.now controller _ spare
    (c.answers_are_heard.ensures.set c.args.setup.now.plan.controller c.args.identity.now c.args.setup.now.plan.controller.mac
    (address_asked c.args.setup.now.plan) (error.Done ∷ []) c.stations_are_real.ensures.device setup.mac (omega arith)
    (set_short c.args.setup.now.plan.station.suite))
    setup.plan.few_records patient waits
