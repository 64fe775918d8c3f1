-- The place with an index, in the octets.
use Rattle.std.proofs.Common.{rules}
use Rattle.connect_blocks.proofs.Objects.{place_inside, place_found, place_missed}
use Rattle.connect_blocks.proofs.io_objects.object_in.Goals as goal

pub slice_bounds-from-count : goal.slice_bounds-from-count
slice_bounds-from-count c = place_inside c.args.count c.args.octets.now _ c.requires.read.0 c.args.index c.requires.read.1 c.requires.below

pub slice_bounds-from-start : goal.slice_bounds-from-start
slice_bounds-from-start c =
    let inside = place_inside c.args.count c.args.octets.now _ c.requires.read.0 c.args.index c.requires.read.1 c.requires.below in search rules

pub unreachable-requires : goal.unreachable-requires
unreachable-requires c = place_missed c.args.count c.args.octets.now _ c.requires.read.0 c.args.index c.requires.read.1 c.requires.below _ c.in-Err.ensures

pub returns : goal.returns
returns c = place_found c.args.count c.args.octets.now _ c.requires.read.0 c.args.index c.requires.read.1 c.requires.below _ _ c.in-Ok.ensures
