-- This follows from what is heard of the controller's requests.
use Rattle.std.proofs.Common.{◌≡◌, true, subst}
use Rattle.pn_values.specs.IpSuite.{is_suite}
use Rattle.plans.specs.declared.parts.Station.{Station}
use Rattle.rounds_law.proofs.CauseDevice.{unstored_so}
use Rattle.rounds_law.proofs.causes.device.device_cannot_store.Goals as goal

pub returns : goal.returns
returns c = λ outcomes station live same free cannot.
    let setup = c.stations_are_real.ensures.setup in
    unstored_so c.args.setup.now c.args.identity.now outcomes station live _
    (c.requests_are_heard.ensures.address station.identity c.args.setup.now c.args.identity.now.mac setup c.stations_are_real.ensures.device)
    same (record { address = setup.station; mask = setup.mask; gateway = setup.gateway })
    (subst (λ (s : Station). is_suite s.suite ≡ true) c.station-station.ensures.value c.suite_can_be_set.ensures) free cannot
