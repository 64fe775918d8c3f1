-- Each TLV at its place.
use Rattle.fields_law.proofs.ReadingAnnouncement.{announcement_is}
use Rattle.fields_law.proofs.announcing.announcements_are_read_back.Goals as goal

pub returns : goal.returns
returns c = announcement_is
