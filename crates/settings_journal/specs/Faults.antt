-- The numbers of the faults.
use Rattle.std.specs.Prelude.{ℕ}
use Rattle.settings_journal.specs.declared.journal.BootFault.{BootFault}
use Rattle.settings_journal.specs.declared.journal.BootFault.TheVariants as boot
use Rattle.settings_journal.specs.declared.journal.CommitFault.{CommitFault}
use Rattle.settings_journal.specs.declared.journal.CommitFault.TheVariants as commit

-- the number of a fault of a start
abbrev pub boot_number : BootFault → ℕ
boot_number boot.FlashFault = 1
boot_number boot.Foreign = 2

-- the number of a fault of a commit
abbrev pub commit_number : CommitFault → ℕ
commit_number commit.Exhausted = 1
commit_number commit.FlashFault = 2
commit_number commit.Failed = 3
