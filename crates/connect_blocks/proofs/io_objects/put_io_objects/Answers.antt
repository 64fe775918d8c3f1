-- Appends one place after another.
use Rattle.std.proofs.Common.{rules, ◌≡◌, ◌≤◌, ◌++◌, ℕ, List, [], length, take, arith}
use Rattle.std.proofs.lemmas.List.{take_all}
use Rattle.wire.specs.Counted.{write_each}
use Rattle.connect_blocks.specs.Objects.{next_object}
use Rattle.connect_blocks.proofs.Objects.{put_starts, put_one, put_all, objects_put, list_size, list_fits}
use Rattle.connect_blocks.proofs.io_objects.put_io_objects.Goals as goal

pub append_u16-requires : goal.append_u16-requires
append_u16-requires g c = let size = list_size c.args.list.now in search rules

pub loop-index-init : goal.loop-index-init
loop-index-init g c = put_starts c.append_u16.new.out.items c.args.list.now

pub put_io_object-requires : goal.put_io_object-requires
put_io_object-requires g c =
    let size = list_size c.args.list.now in let room = c.loop-index.invariant.room in search rules

pub loop-index-preserved : goal.loop-index-preserved
loop-index-preserved g c =
    put_one c.append_u16.new.out.items c.loop-index.out.items c.put_io_object.new.out.items c.args.list.now c.loop-index.index c.object.result
    (omega (arith, c.loop-index-test.true, c.len-index-end.ensures.len)) (omega (arith, c.len.ensures.len, c.len.ensures.few)) c.object.ensures
    c.put_io_object.ensures.items c.put_io_object.ensures.len c.put_io_object.ensures.fits c.loop-index.invariant

pub returns-clause-items : goal.returns-clause-items
returns-clause-items g c =
    let all : (tail : List ℕ) → c.loop-index.out.items ++ tail ≡ c.append_u16.new.out.items ++ write_each next_object [] c.args.list.now tail =
    put_all c.append_u16.new.out.items c.loop-index.out.items c.args.list.now c.loop-index.index (omega (arith, c.loop-index-test.false, c.len-index-end.ensures.len)) c.loop-index.invariant in
    objects_put c.args.out.now.items c.append_u16.new.out.items c.loop-index.out.items c.args.list.now (rw c.len.ensures.len at c.append_u16.ensures.items) all

pub returns-clause-len : goal.returns-clause-len
returns-clause-len g c =
    let size = list_size c.args.list.now in let room = c.loop-index.invariant.room in omega arith

pub returns-clause-fits : goal.returns-clause-fits
returns-clause-fits g c =
    let end : length c.args.list.now ≤ c.loop-index.index = omega (arith, c.loop-index-test.false, c.len-index-end.ensures.len) in
    let whole : take c.loop-index.index c.args.list.now ≡ c.args.list.now = take_all c.loop-index.index c.args.list.now end in
    list_fits c.args.list.now (omega (arith, c.len.ensures.len, c.len.ensures.few)) (rw whole at c.loop-index.invariant.fits)
