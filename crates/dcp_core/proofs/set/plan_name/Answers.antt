-- The check of the name agrees with its test in the definition.
use Rattle.std.proofs.Common.{◌≡◌, true, false, sym, arith}
use Rattle.std.proofs.lemmas.Grind.{common_steps}
use Rattle.station_names.specs.Valid.{is_station_name}
use Rattle.dcp_core.proofs.set.plan_name.Goals as goal

pub returns-in-Ok : goal.returns-in-Ok
returns-in-Ok c =
    let valid : is_station_name c.in-Some.value.now ≡ true = sym c.in-Ok.ensures.test in
    grind (arith, common_steps, valid)

pub returns-in-Err : goal.returns-in-Err
returns-in-Err c =
    let invalid : is_station_name c.in-Some.value.now ≡ false = sym c.in-Err.ensures.test in
    grind (arith, common_steps, invalid)
