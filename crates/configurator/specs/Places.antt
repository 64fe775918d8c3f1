-- The places of faults of the whole catalogue.
use Rattle.std.specs.Prelude.{List, [], ◌∷◌, if◌then◌else◌}
use Rattle.station_names.specs.Valid.{is_station_name}
use Rattle.catalogue.specs.declared.keys.fault.Step.{Step}
use Rattle.catalogue.specs.declared.keys.fault.Step.TheVariants.{At}
use Rattle.catalogue.specs.declared.keys.key.Key.TheVariants as key
use Rattle.catalogue.specs.Projects.{Project}
use Rattle.catalogue.specs.Catalogues.{Catalogue}
use Rattle.configurator.specs.declared.fault.PlanFault.{PlanFault}
use Rattle.configurator.specs.declared.fault.PlanFault.TheVariants.{Name}

-- the place of the first station name that is not valid: the controller's, if the station's is valid
abbrev pub name_place : Project → List Step
name_place project =
    At key.Project ∷ (if is_station_name project.station.name then At key.Controller ∷ At key.NameOfStation ∷ [] else At key.NameOfStation ∷ [])

-- the place of a fault of the whole catalogue: only an invalid name has one
abbrev pub place_of : Catalogue → PlanFault → List Step
place_of found Name = name_place found.project
place_of found fault = []
