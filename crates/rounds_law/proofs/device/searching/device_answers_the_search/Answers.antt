-- This follows from what is heard of the controller's requests.
use Rattle.std.proofs.Common.{◌≡◌, true, subst}
use Rattle.pn_values.specs.IpSuite.{is_suite}
use Rattle.plans.specs.declared.parts.Station.{Station}
use Rattle.rounds_law.proofs.SearchingDevice.{found_so, set_so, some_name}
use Rattle.rounds_law.proofs.device.searching.device_answers_the_search.Goals as goal

pub returns-clause-found : goal.returns-clause-found
returns-clause-found c = λ outcomes station live same named.
    let setup = c.stations_are_real.ensures.setup in
    found_so c.args.setup.now c.args.identity.now outcomes station live _
    (c.requests_are_heard.ensures.identify station.identity c.args.setup.now c.args.identity.now.mac setup)
    same named (some_name c.args.setup.now.plan.station.name setup.plan.good.named)

pub returns-clause-set : goal.returns-clause-set
returns-clause-set c = λ station live same named free can.
    let setup = c.stations_are_real.ensures.setup in
    set_so c.args.setup.now c.args.identity.now station live _
    (c.requests_are_heard.ensures.address station.identity c.args.setup.now c.args.identity.now.mac setup c.stations_are_real.ensures.device)
    same (record { address = setup.station; mask = setup.mask; gateway = setup.gateway })
    (subst (λ (s : Station). is_suite s.suite ≡ true) c.station-station.ensures.value c.suite_is_valid.ensures) named free can
