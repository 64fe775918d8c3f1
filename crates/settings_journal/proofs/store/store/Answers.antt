-- What the write of a slot and that of a base leave, and which calls they make.
use Rattle.std.proofs.Common.{◌∙◌, ◌-◌, ◌≤◌, length, ap, sym, subst, arith, refl}
use Rattle.std.proofs.lemmas.Result.{err_from_is_err_and}
use Rattle.flash_model.specs.Image.{slots_in}
use Rattle.settings_journal.specs.Slot.{IsEntryOf}
use Rattle.settings_journal.proofs.Apart.{apart_slot, apart_base}
use Rattle.settings_journal.proofs.Asking.{calls_slot, calls_base, failed_as}
use Rattle.settings_journal.proofs.Cut.{safe_slot, safe_base, writes_slot, writes_base}
use Rattle.settings_journal.proofs.Storing.{slot_first, in_slot, stored_failed, stored_slot, slot_kept_at, none_free, base_written, stored_base, base_kept}
use Rattle.settings_journal.proofs.store.store.Goals as goal

pub overflow_sub-number : goal.overflow_sub-number
overflow_sub-number g c =
    let first = slot_first _ _ _ _ _ _ _ c.in-Some.ensures.0 c.in-Some.ensures.1 (g.met.F.Flash.sized c.args.flash.now) c.requires.stands.1.starts in
    omega (arith, first.few, c.slots_of.ensures)

pub write_slot-requires-clause-blank : goal.write_slot-requires-clause-blank
write_slot-requires-clause-blank g c =
    let first = slot_first _ _ _ _ _ _ _ c.in-Some.ensures.0 c.in-Some.ensures.1 (g.met.F.Flash.sized c.args.flash.now) c.requires.stands.1.starts in
    first.blank _ (omega (arith, c.slots_of.ensures)) (omega (arith, first.inside, c.slots_of.ensures))

pub returns-in_err-write_slot-in-Some-clause-stored : goal.returns-in_err-write_slot-in-Some-clause-stored
returns-in_err-write_slot-in-Some-clause-stored g c = λ before b.
    let number = ap (λ n. n - c.args.position.free) c.slots_of.ensures in
    let entry = subst (λ e. IsEntryOf e c.args.command.now) (sym c.as_slice.ensures.value) c.encode_command-entry.ensures.kept in
    let w = in_slot _ _ c.args.position _ before _ _ _ _ _ c.in-Some.ensures.0 c.in-Some.ensures.1 (g.met.F.Flash.sized c.args.flash.now) b entry number c.write_slot.ensures.others c.write_slot.ensures.other in
    let fault = err_from_is_err_and c.from_residual.result c.from_residual.ensures.1 in
    stored_failed _ _ _ c.args.position before _ _ _ fault.1 (λ left. slot_kept_at _ _ _ before _ _ _ _ _ _ _ w number c.write_slot.ensures.left left)

pub returns-in_err-write_slot-in-Some-clause-calls : goal.returns-in_err-write_slot-in-Some-clause-calls
returns-in_err-write_slot-in-Some-clause-calls g c = λ before b.
    let number = ap (λ n. n - c.args.position.free) c.slots_of.ensures in
    let fault = err_from_is_err_and c.from_residual.result c.from_residual.ensures.1 in
    let asked = c.in_err-write_slot-in-Some.ensures.calls in
    (asked.0, asked.1, failed_as _ _ _ _ _ _ _ fault.1 (calls_slot (slots_in g.row.S) _ _ c.args.position.generation _ _ before c.args.command.now _ c.in-Some.ensures.0 c.in-Some.ensures.1 number (c.as_slice.ensures.value ∙ c.encode_command-entry.ensures.value)) asked.2)

pub returns-in_ok-write_slot-in-Some-clause-stored : goal.returns-in_ok-write_slot-in-Some-clause-stored
returns-in_ok-write_slot-in-Some-clause-stored g c = λ before b.
    let number = ap (λ n. n - c.args.position.free) c.slots_of.ensures in
    let entry = subst (λ e. IsEntryOf e c.args.command.now) (sym c.as_slice.ensures.value) c.encode_command-entry.ensures.kept in
    let w = in_slot _ _ c.args.position _ before _ _ _ _ _ c.in-Some.ensures.0 c.in-Some.ensures.1 (g.met.F.Flash.sized c.args.flash.now) b entry number c.write_slot.ensures.others c.write_slot.ensures.other in
    stored_slot _ _ c.args.position _ before _ _ _ _ _ w number c.in_ok-write_slot-in-Some.ensures.done

pub returns-in_ok-write_slot-in-Some-clause-calls : goal.returns-in_ok-write_slot-in-Some-clause-calls
returns-in_ok-write_slot-in-Some-clause-calls g c = λ before b.
    let number = ap (λ n. n - c.args.position.free) c.slots_of.ensures in
    let asked = c.in_ok-write_slot-in-Some.ensures.calls in
    (asked.0, asked.1, asked.2 ∙ calls_slot (slots_in g.row.S) _ _ c.args.position.generation _ _ before c.args.command.now _ c.in-Some.ensures.0 c.in-Some.ensures.1 number (c.as_slice.ensures.value ∙ c.encode_command-entry.ensures.value))

pub returns-in_err-write_base-in-None-clause-stored : goal.returns-in_err-write_base-in-None-clause-stored
returns-in_err-write_base-in-None-clause-stored g c = λ before b.
    let bytes = c.as_slice-in-None.ensures.value ∙ c.encode-base.ensures.value in
    let w = base_written _ _ c.args.position _ before _ _ _ _ _ c.in-None.ensures c.requires.few (g.met.F.Flash.sized c.write_base.new.flash) b c.spare_of-sector.ensures refl bytes c.encode-base.ensures.valid c.write_base.ensures.other c.write_base.ensures.left in
    let fault = err_from_is_err_and c.from_residual-in_err-write_base-in-None.result c.from_residual-in_err-write_base-in-None.ensures.1 in
    stored_failed _ _ _ c.args.position before _ _ _ fault.1 (λ left. base_kept _ _ _ _ _ _ _ _ w left)

pub returns-in_err-write_base-in-None-clause-calls : goal.returns-in_err-write_base-in-None-clause-calls
returns-in_err-write_base-in-None-clause-calls g c = λ before b.
    let bytes = c.as_slice-in-None.ensures.value ∙ c.encode-base.ensures.value in
    let none = none_free _ _ before _ _ b.starts c.in-None.ensures in
    let fault = err_from_is_err_and c.from_residual-in_err-write_base-in-None.result c.from_residual-in_err-write_base-in-None.ensures.1 in
    let asked = c.in_err-write_base-in-None.ensures.calls in
    (asked.0, asked.1, failed_as _ _ _ _ _ _ _ fault.1 (calls_base (slots_in g.row.S) _ _ c.args.position.generation _ _ before _ _ _ none c.spare_of-sector.ensures refl b.next_is bytes) asked.2)

pub returns-in_ok-write_base-in-None-clause-stored : goal.returns-in_ok-write_base-in-None-clause-stored
returns-in_ok-write_base-in-None-clause-stored g c = λ before b.
    let bytes = c.as_slice-in-None.ensures.value ∙ c.encode-base.ensures.value in
    let w = base_written _ _ c.args.position _ before _ _ _ _ _ c.in-None.ensures c.requires.few (g.met.F.Flash.sized c.write_base.new.flash) b c.spare_of-sector.ensures refl bytes c.encode-base.ensures.valid c.write_base.ensures.other c.write_base.ensures.left in
    stored_base _ _ c.args.position _ before _ _ _ _ _ _ w b c.in-None.ensures c.spare_of-sector.ensures refl bytes c.slots_of-in-None.ensures c.in_ok-write_base-in-None.ensures.done

pub returns-in_ok-write_base-in-None-clause-calls : goal.returns-in_ok-write_base-in-None-clause-calls
returns-in_ok-write_base-in-None-clause-calls g c = λ before b.
    let bytes = c.as_slice-in-None.ensures.value ∙ c.encode-base.ensures.value in
    let none = none_free _ _ before _ _ b.starts c.in-None.ensures in
    let asked = c.in_ok-write_base-in-None.ensures.calls in
    (asked.0, asked.1, asked.2 ∙ calls_base (slots_in g.row.S) _ _ c.args.position.generation _ _ before _ _ _ none c.spare_of-sector.ensures refl b.next_is bytes)

pub returns-in_err-write_slot-in-Some-clause-apart : goal.returns-in_err-write_slot-in-Some-clause-apart
returns-in_err-write_slot-in-Some-clause-apart g c =
    let number = ap (λ n. n - c.args.position.free) c.slots_of.ensures in
    apart_slot (slots_in g.row.S) c.args.position.free _ c.args.position.active _ (g.F.Flash.image c.args.flash.now) (g.F.Flash.image c.write_slot.new.flash) c.in-Some.ensures.0 c.in-Some.ensures.1 number c.write_slot.ensures.others c.write_slot.ensures.other

pub returns-in_ok-write_slot-in-Some-clause-apart : goal.returns-in_ok-write_slot-in-Some-clause-apart
returns-in_ok-write_slot-in-Some-clause-apart g c =
    let number = ap (λ n. n - c.args.position.free) c.slots_of.ensures in
    apart_slot (slots_in g.row.S) c.args.position.free _ c.args.position.active _ (g.F.Flash.image c.args.flash.now) (g.F.Flash.image c.write_slot.new.flash) c.in-Some.ensures.0 c.in-Some.ensures.1 number c.write_slot.ensures.others c.write_slot.ensures.other

pub returns-in_err-write_base-in-None-clause-apart : goal.returns-in_err-write_base-in-None-clause-apart
returns-in_err-write_base-in-None-clause-apart g c =
    apart_base (slots_in g.row.S) c.args.position.free c.args.position.active _ (g.F.Flash.image c.args.flash.now) (g.F.Flash.image c.write_base.new.flash) c.in-None.ensures c.spare_of-sector.ensures c.write_base.ensures.other

pub returns-in_ok-write_base-in-None-clause-apart : goal.returns-in_ok-write_base-in-None-clause-apart
returns-in_ok-write_base-in-None-clause-apart g c =
    apart_base (slots_in g.row.S) c.args.position.free c.args.position.active _ (g.F.Flash.image c.args.flash.now) (g.F.Flash.image c.write_base.new.flash) c.in-None.ensures c.spare_of-sector.ensures c.write_base.ensures.other

pub returns-in_err-write_slot-in-Some-clause-cut : goal.returns-in_err-write_slot-in-Some-clause-cut
returns-in_err-write_slot-in-Some-clause-cut g c = λ before b.
    let number = ap (λ n. n - c.args.position.free) c.slots_of.ensures in
    let entry = subst (λ e. IsEntryOf e c.args.command.now) (sym c.as_slice.ensures.value) c.encode_command-entry.ensures.kept in
    let short = subst (λ e. length e ≤ 242) (sym c.as_slice.ensures.value) c.encode_command-entry.ensures.length in
    safe_slot _ c.args.position _ before _ _ _ g.row.S _ c.in-Some.ensures.0 c.in-Some.ensures.1 (g.met.F.Flash.sector_size c.args.flash.now) (g.met.F.Flash.sized c.args.flash.now) b entry (c.as_slice.ensures.value ∙ c.encode_command-entry.ensures.value) c.write_slot.ensures.bytes short number

pub returns-in_err-write_base-in-None-clause-cut : goal.returns-in_err-write_base-in-None-clause-cut
returns-in_err-write_base-in-None-clause-cut g c = λ before b.
    let bytes = c.as_slice-in-None.ensures.value ∙ c.encode-base.ensures.value in
    let long = ap length c.as_slice-in-None.ensures.value ∙ c.encode-base.ensures.length in
    safe_base _ c.args.position _ before _ _ _ g.row.S _ c.in-None.ensures c.requires.few (g.met.F.Flash.sector_size c.args.flash.now) (g.met.F.Flash.sized c.args.flash.now) b c.spare_of-sector.ensures refl bytes c.encode-base.ensures.valid c.write_base.ensures.bytes long

pub returns-in_ok-write_slot-in-Some-clause-cut : goal.returns-in_ok-write_slot-in-Some-clause-cut
returns-in_ok-write_slot-in-Some-clause-cut g c = λ before b.
    let number = ap (λ n. n - c.args.position.free) c.slots_of.ensures in
    let entry = subst (λ e. IsEntryOf e c.args.command.now) (sym c.as_slice.ensures.value) c.encode_command-entry.ensures.kept in
    let short = subst (λ e. length e ≤ 242) (sym c.as_slice.ensures.value) c.encode_command-entry.ensures.length in
    safe_slot _ c.args.position _ before _ _ _ g.row.S _ c.in-Some.ensures.0 c.in-Some.ensures.1 (g.met.F.Flash.sector_size c.args.flash.now) (g.met.F.Flash.sized c.args.flash.now) b entry (c.as_slice.ensures.value ∙ c.encode_command-entry.ensures.value) c.write_slot.ensures.bytes short number

pub returns-in_ok-write_base-in-None-clause-cut : goal.returns-in_ok-write_base-in-None-clause-cut
returns-in_ok-write_base-in-None-clause-cut g c = λ before b.
    let bytes = c.as_slice-in-None.ensures.value ∙ c.encode-base.ensures.value in
    let long = ap length c.as_slice-in-None.ensures.value ∙ c.encode-base.ensures.length in
    safe_base _ c.args.position _ before _ _ _ g.row.S _ c.in-None.ensures c.requires.few (g.met.F.Flash.sector_size c.args.flash.now) (g.met.F.Flash.sized c.args.flash.now) b c.spare_of-sector.ensures refl bytes c.encode-base.ensures.valid c.write_base.ensures.bytes long

pub returns-in_err-write_slot-in-Some-clause-writes : goal.returns-in_err-write_slot-in-Some-clause-writes
returns-in_err-write_slot-in-Some-clause-writes g c = λ before b.
    let number = ap (λ n. n - c.args.position.free) c.slots_of.ensures in
    let short = subst (λ e. length e ≤ 242) (sym c.as_slice.ensures.value) c.encode_command-entry.ensures.length in
    writes_slot (slots_in g.row.S) c.args.position _ before _ _ _ c.in-Some.ensures.0 c.in-Some.ensures.1 (c.as_slice.ensures.value ∙ c.encode_command-entry.ensures.value) short number

pub returns-in_err-write_base-in-None-clause-writes : goal.returns-in_err-write_base-in-None-clause-writes
returns-in_err-write_base-in-None-clause-writes g c = λ before b.
    let bytes = c.as_slice-in-None.ensures.value ∙ c.encode-base.ensures.value in
    let long = ap length c.as_slice-in-None.ensures.value ∙ c.encode-base.ensures.length in
    writes_base _ (slots_in g.row.S) c.args.position _ before _ _ _ _ c.in-None.ensures b c.spare_of-sector.ensures refl bytes long

pub returns-in_ok-write_slot-in-Some-clause-writes : goal.returns-in_ok-write_slot-in-Some-clause-writes
returns-in_ok-write_slot-in-Some-clause-writes g c = λ before b.
    let number = ap (λ n. n - c.args.position.free) c.slots_of.ensures in
    let short = subst (λ e. length e ≤ 242) (sym c.as_slice.ensures.value) c.encode_command-entry.ensures.length in
    writes_slot (slots_in g.row.S) c.args.position _ before _ _ _ c.in-Some.ensures.0 c.in-Some.ensures.1 (c.as_slice.ensures.value ∙ c.encode_command-entry.ensures.value) short number

pub returns-in_ok-write_base-in-None-clause-writes : goal.returns-in_ok-write_base-in-None-clause-writes
returns-in_ok-write_base-in-None-clause-writes g c = λ before b.
    let bytes = c.as_slice-in-None.ensures.value ∙ c.encode-base.ensures.value in
    let long = ap length c.as_slice-in-None.ensures.value ∙ c.encode-base.ensures.length in
    writes_base _ (slots_in g.row.S) c.args.position _ before _ _ _ _ c.in-None.ensures b c.spare_of-sector.ensures refl bytes long
