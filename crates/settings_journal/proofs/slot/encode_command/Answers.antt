-- What a slot with the entry is read as.
use Rattle.std.proofs.Common.{◌∙◌, ap, length, sym, subst}
use Rattle.settings_journal.specs.Slot.{suite_in, IsEntryOf}
use Rattle.settings_journal.proofs.Commands.{name_entry, no_name_entry, suite_entry, no_suite_entry, suite_parts}
use Rattle.settings_journal.proofs.slot.encode_command.Goals as goal

pub returns-in-SetName-clause-kept : goal.returns-in-SetName-clause-kept
returns-in-SetName-clause-kept c =
    name_entry _ _ _ _ _ c.entry.ensures c.as_bytes.ensures.value c.as_bytes.ensures.valid (rw (← c.as_bytes.ensures.value) c.as_bytes.ensures.length) c.if-permanent.true c.in-SetName.is

pub returns-in-SetName-2-clause-kept : goal.returns-in-SetName-2-clause-kept
returns-in-SetName-2-clause-kept c = no_name_entry _ _ _ _ c.entry-in-SetName-2.ensures c.if-permanent.false c.in-SetName.is

pub returns-in-SetIp-clause-kept : goal.returns-in-SetIp-clause-kept
returns-in-SetIp-clause-kept c =
    let payload = c.as_slice.ensures.value ∙ c.octets_of.ensures.value in
    let parts = ap suite_in payload ∙ suite_parts c.in-SetIp.suite c.octets_of.ensures.address c.octets_of.ensures.mask c.octets_of.ensures.gateway in
    let long = ap length c.as_slice.ensures.value ∙ c.octets_of.ensures.length in
    suite_entry _ _ _ _ _ c.entry-in-SetIp.ensures long parts c.octets_of.ensures.valid c.if-permanent-2.true c.in-SetIp.is

pub returns-in-SetIp-2-clause-kept : goal.returns-in-SetIp-2-clause-kept
returns-in-SetIp-2-clause-kept c = no_suite_entry _ _ _ _ c.entry-in-SetIp-2.ensures c.if-permanent-2.false c.in-SetIp.is

pub returns-in-SetIm-clause-kept : goal.returns-in-SetIm-clause-kept
returns-in-SetIm-clause-kept c = subst (IsEntryOf c.im_entry.result.items) (sym c.in-SetIm.is) c.im_entry.ensures.kept
