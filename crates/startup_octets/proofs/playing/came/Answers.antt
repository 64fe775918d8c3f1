-- A move that delivers nothing brings no octets.
use Rattle.std.proofs.Common.{take}
use Rattle.startup_octets.proofs.Entries.{came_none}
use Rattle.startup_octets.proofs.playing.came.Goals as goal

pub returns-in_default : goal.returns-in_default
returns-in_default g c = came_none c.args.one.now (take c.args.count c.args.world.now.sent) c.in_default.not-Deliver
