-- The inputs of a controller, in the worlds of a plan.
use Rattle.std.specs.Prelude.{◌&&◌, ℕ, Bool, List, Option, None, is_some, nat_eq, if◌then◌else◌}
use Rattle.std.specs.Cmp.Lexicographic.{pointwise}
use Rattle.pn_values.specs.declared.identity.Identity.{Identity}
use Rattle.connect_blocks.specs.declared.iocr.IocrType.TheVariants.{Input}
use Rattle.cyclic_data.specs.Image.{Shown as Image}
use Rattle.cyclic_data.specs.Tail.{cyclic_of}
use Rattle.cyclic_data.specs.exchange.Opening.{first_taken}
use Rattle.controller_messages.specs.declared.setup.Setup.{Setup}
use Rattle.controller_messages.specs.Heard.{Heard, Cyclic, heard_of}
use Rattle.controller_core.specs.stored.State.{Live}
use Rattle.both_ends.specs.startup.request.Request.{iocr_for}
use Rattle.both_ends.specs.exchange.Shown.{octets_in}

-- what the controller of a plan shows before it accepted a frame: zeros, at each place of the plan's inputs
abbrev pub zeros_for : Setup → Image
zeros_for setup = first_taken (iocr_for setup.plan Input).layout

-- the octets of inputs that are brought by what a controller hears: a cyclic frame of the device brings some, if it is long
-- enough
abbrev pub brought_in : Setup → Identity → Heard → Option (List ℕ)
brought_in setup identity (Cyclic source frame_id body) =
    if pointwise nat_eq source.octets identity.mac.octets then octets_in (cyclic_of (zeros_for setup).data_length body) else None
brought_in setup identity heard = None

-- the same of a frame that comes to the controller
abbrev pub brought_by : Setup → Identity → List ℕ → Option (List ℕ)
brought_by setup identity octets = brought_in setup identity (heard_of setup.plan.controller octets)

-- whether a controller has accepted a cyclic frame in its relation, which is established: then the counter of the last one is
-- stored
abbrev pub has_accepted : Live → Bool
has_accepted live = live.stands && is_some live.cyclic.hearing.last
