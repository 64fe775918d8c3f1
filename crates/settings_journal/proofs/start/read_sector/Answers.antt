-- What the base and the slots say about the sector.
use Rattle.std.proofs.Common.{◌∙◌, ap, arith, Some}
use Rattle.flash_model.specs.Image.{sector_of, slots_in}
use Rattle.settings_journal.specs.Slot.{left_by}
use Rattle.settings_journal.proofs.Reading.{reads_as, reads_none, left_as, unspelled, found_some, found_none}
use Rattle.settings_journal.proofs.Slots.{next_le}
use Rattle.settings_journal.proofs.Writes.{sector_size}
use Rattle.settings_journal.proofs.start.read_sector.Goals as goal

pub returns-in_default-clause-read : goal.returns-in_default-clause-read
returns-in_default-clause-read g c = unspelled _ c.args.head.now c.requires.head (λ settings s. let e = c.in_default.ensures.only settings s in cc e)

pub returns-in_default-2-clause-read : goal.returns-in_default-2-clause-read
returns-in_default-2-clause-read g c =
    let long = sector_size _ _ c.args.sector (g.met.F.Flash.sized c.args.flash.now) in
    reads_none _ c.args.head.now c.version_of-version.result g.row.S c.requires.head c.version_of-version.ensures long c.in-Some.settings c.in-Some.ensures.spelled
    (found_none c.version_of-version.result (sector_of (g.F.Flash.image c.args.flash.now) c.args.sector) (slots_in g.row.S) c.in-Some.settings c.read_slots.new.settings c.in_ok-next.field-0 c.in_default-2.is c.in_ok-next.ensures.found)

pub left_of-requires : goal.left_of-requires
left_of-requires g c =
    let found = found_some c.version_of-version.result (sector_of (g.F.Flash.image c.args.flash.now) c.args.sector) (slots_in g.row.S) c.in-Some.settings c.read_slots.new.settings c.in_ok-next.field-0 c.in-Some-2.next c.in-Some-2.is c.in_ok-next.ensures.found in
    let le = next_le (sector_of (g.F.Flash.image c.args.flash.now) c.args.sector) (slots_in g.row.S) in
    omega (arith, found.1, le, c.slots_of.ensures)

pub returns-clause-read : goal.returns-clause-read
returns-clause-read g c =
    let long = sector_size _ _ c.args.sector (g.met.F.Flash.sized c.args.flash.now) in
    let found = found_some c.version_of-version.result (sector_of (g.F.Flash.image c.args.flash.now) c.args.sector) (slots_in g.row.S) c.in-Some.settings c.read_slots.new.settings c.in_ok-next.field-0 c.in-Some-2.next c.in-Some-2.is c.in_ok-next.ensures.found in
    let free = left_as _ c.args.head.now c.version_of-version.result g.row.S c.requires.head c.version_of-version.ensures long c.in-Some-2.next c.left_of.result found.1
    (c.left_of.ensures ∙ ap (λ n. left_by c.version_of-version.result n c.in-Some-2.next) c.slots_of.ensures) in (
      reads_as _ c.args.head.now c.version_of-version.result g.row.S c.requires.head c.version_of-version.ensures long c.in-Some.settings _ c.in-Some.ensures.spelled found.0,
      λ i. record { active = Some c.args.sector; generation = c.args.generation; free = free i },
    )
