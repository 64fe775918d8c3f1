-- What a slot with the entry of a text is read as.
use Rattle.std.proofs.Common.{ap, refl, lit≤}
use Rattle.pn_values.specs.declared.command.Command.TheVariants.{SetIm}
use Rattle.pn_values.specs.declared.im_value.ImValue.TheVariants.{Im1, Im2, Im3, Im4}
use Rattle.settings_journal.proofs.Commands.{text_entry}
use Rattle.settings_journal.proofs.slot.im_entry.Goals as goal

pub returns-in-Im1-clause-kept : goal.returns-in-Im1-clause-kept
returns-in-Im1-clause-kept c = text_entry 5 54 Im1 _ _ c.in-Im1.text _ c.entry.ensures c.as_bytes.ensures.value c.as_bytes.ensures.length (lit≤ tt) refl (ap SetIm c.in-Im1.is)

pub returns-in-Im2-clause-kept : goal.returns-in-Im2-clause-kept
returns-in-Im2-clause-kept c = text_entry 6 16 Im2 _ _ c.in-Im2.text _ c.entry-in-Im2.ensures c.as_bytes-in-Im2.ensures.value c.as_bytes-in-Im2.ensures.length (lit≤ tt) refl (ap SetIm c.in-Im2.is)

pub returns-in-Im3-clause-kept : goal.returns-in-Im3-clause-kept
returns-in-Im3-clause-kept c = text_entry 7 54 Im3 _ _ c.in-Im3.text _ c.entry-in-Im3.ensures c.as_bytes-in-Im3.ensures.value c.as_bytes-in-Im3.ensures.length (lit≤ tt) refl (ap SetIm c.in-Im3.is)

pub returns-in-Im4-clause-kept : goal.returns-in-Im4-clause-kept
returns-in-Im4-clause-kept c = text_entry 11 54 Im4 _ _ c.in-Im4.text _ c.entry-in-Im4.ensures c.as_bytes-in-Im4.ensures.value c.as_bytes-in-Im4.ensures.length (lit≤ tt) refl (ap SetIm c.in-Im4.is)
