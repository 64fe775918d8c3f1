-- What a device shows as the outputs of its controller's plan, and of its places.
use Rattle.std.specs.Prelude.{ℕ, List, map, Option, option_map}
use Rattle.arrayvec.specs.ArrayVec.{ArrayVec}
use Rattle.expected_places.specs.declared.place.ExpectedPlace.{ExpectedPlace}
use Rattle.relations.specs.Exchanged.{output_in}
use Rattle.relations.specs.Outputs.{output_of}
use Rattle.relations.specs.Plugging.{places_in}
use Rattle.device_core.specs.State.{State}
use Rattle.network_world.specs.World.{World}
use Rattle.startup_octets.specs.declared.outputs.Output.{Output}
use Rattle.startup_octets.specs.Outputs.{outputs_in}

-- the octets of what is shown
abbrev pub octets_in : List (Option (ArrayVec ℕ)) → List (Option (List ℕ))
octets_in shown = map (λ one. option_map (λ octets. octets.items) one) shown

-- what a device shows as an output
abbrev pub shown_at : {F : Type 0} → State F → Output → Option (List ℕ)
shown_at device output = output_of device.live.rest.real output.slot output.subslot (output_in output.slot output.subslot device.live.rest.link)

-- what the device of a world shows as the outputs of the plan
abbrev pub outputs_shown : {F : Type 0} → World F → List (Option (List ℕ))
outputs_shown world = map (shown_at world.device) (outputs_in world.controller.setup.plan.real.modules.items)

-- what the device of a world shows of its places
abbrev pub places_shown : {F : Type 0} → World F → Option (List ExpectedPlace)
places_shown world = places_in world.device.live.rest.link
