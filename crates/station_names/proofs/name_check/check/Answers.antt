-- The test agrees with the definition.
use Rattle.std.proofs.lemmas.Bool.Decides.{same_from_decides}
use Rattle.std.specs.Prelude.{is_ok}
use Rattle.station_names.proofs.Valid.{Decides-station_name}
use Rattle.station_names.proofs.name_check.check.Goals as goal

pub returns-clause-test : goal.returns-clause-test
returns-clause-test c =
    same_from_decides (is_ok c.named.result) _ c.named.ensures.valid (Decides-station_name c.args.bytes.now)
