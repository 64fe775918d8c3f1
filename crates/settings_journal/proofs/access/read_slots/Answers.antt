-- One more slot is read.
use Rattle.std.proofs.Common.{◌∙◌, [], ap, arith}
use Rattle.flash_model.specs.Image.{sector_of, slots_in}
use Rattle.settings_journal.specs.Slot.{slot_at}
use Rattle.settings_journal.proofs.Reading.{after_more, next_more, none_after}
use Rattle.settings_journal.proofs.access.read_slots.Goals as goal

pub returns-in_err-read_slot-clause-calls : goal.returns-in_err-read_slot-clause-calls
returns-in_err-read_slot-clause-calls g c = g.met.F.Flash.asked_more _ _ _ [] [] c.loop-number.invariant.calls c.in_err-read_slot.ensures.calls

pub returns-in_default-clause-calls : goal.returns-in_default-clause-calls
returns-in_default-clause-calls g c = g.met.F.Flash.asked_more _ _ _ [] [] c.loop-number.invariant.calls c.in_ok-read_slot.ensures.calls

pub returns-in_default-clause-found : goal.returns-in_default-clause-found
returns-in_default-clause-found g c =
    let slot = c.in_ok-read_slot.ensures.slot ∙ ap (λ image. slot_at (sector_of image c.args.sector) c.loop-number.number) c.loop-number.invariant.same in
    none_after c.args.version _ _ c.loop-number.number (slots_in g.row.S) c.args.settings.now c.loop-number.settings (omega (arith, c.loop-number-test.true, c.slots_of-number-end.ensures))
    c.loop-number.invariant.after slot c.in_default.ensures

pub loop-number-preserved : goal.loop-number-preserved
loop-number-preserved g c =
    let slot = c.in_ok-read_slot.ensures.slot ∙ ap (λ image. slot_at (sector_of image c.args.sector) c.loop-number.number) c.loop-number.invariant.same in
    record {
      after = after_more c.args.version _ _ c.loop-number.number c.args.settings.now c.loop-number.settings c.follow.new.settings c.loop-number.invariant.after slot c.in-Some.ensures;
      next = next_more _ _ c.loop-number.number c.loop-number.next c.behind-next.result c.loop-number.invariant.next slot c.behind-next.ensures;
      same = c.in_ok-read_slot.ensures.same ∙ c.loop-number.invariant.same;
      calls = g.met.F.Flash.asked_more _ _ _ [] [] c.loop-number.invariant.calls c.in_ok-read_slot.ensures.calls;
      failures = c.in_ok-read_slot.ensures.cause.done ∙ c.loop-number.invariant.failures;
      lost = c.in_ok-read_slot.ensures.lost.done;
      reliable = λ sound. (c.in_ok-read_slot.ensures.reliable (c.loop-number.invariant.reliable sound)).1;
    }
