-- Data that is read carries the block of the expected type.
use Rattle.std.proofs.Common.{◌≡◌, ℕ, List, [], ◌++◌, Option, Some, None, Result, Ok, Err, Bor, refl, sym, ap, subst, ◌∙◌}
use Rattle.std.proofs.lemmas.List.{append-nil}
use Rattle.std.specs.Prelude.{IfOk}
use Rattle.wire.specs.Checks.{or_fault}
use Rattle.wire.specs.Codec.{Gives}
use Rattle.wire.specs.declared.blocks.fault.BlockFault.{BlockFault}
use Rattle.record_blocks.specs.declared.alarm_ack.AlarmAck.{AlarmAck}
use Rattle.record_blocks.specs.declared.alarm_notification.AlarmNotification.{AlarmNotification}
use Rattle.block_codec.specs.declared.block.Block.{Block}
use Rattle.block_codec.specs.declared.block.Block.TheVariants as is
use Rattle.block_codec.specs.Block.{block_of, block_bytes, in_alarm_ack}
use Rattle.pn_alarms.specs.declared.fault.AlarmFault.TheVariants as fault
use Rattle.pn_alarms.specs.Carried.{notification_of, wanted}

-- A block that was read, and where the octets after it lie.
abbrev pub Read : Type 0
Read = Result (Block × Bor (List ℕ)) BlockFault

-- The same without where they lie.
abbrev pub lying : Block × Bor (List ℕ) → Block × List ℕ
lying x = (x.0, x.1.now)

-- The expected block does not depend on that.
pub same_wanted : {A : Type 0} (pick : Block → Option A) (r : Read) (read : Result (Block × List ℕ) BlockFault) → Gives lying r read → wanted pick r ≡ wanted pick read
same_wanted pick (Ok x) read e = ap (λ (y : Result (Block × List ℕ) BlockFault). wanted pick y) (sym e)
same_wanted pick (Err reason) read e = ap (λ (y : Result (Block × List ℕ) BlockFault). wanted pick y) (sym e)

of_or_fault : {A : Type 0} (o : Option A) (value : A) → or_fault fault.Block o ≡ Ok value → o ≡ Some value
of_or_fault (Some v) value e = cc
of_or_fault None value e = absurd cc

-- A property of the block that was read is a property of the expected block.
found_in : {A : Type 0} (pick : Block → Option A) (P : Block → List ℕ → Type 0) (r : Read) (value : A) (block : Block) → ((b : Block) → pick b ≡ Some value → b ≡ block)
    → IfOk r (λ x. P x.0 x.1.now) → wanted pick r ≡ Ok value → (rest : List ℕ) × P block rest
found_in pick P (Ok x) value block named holds e =
    (x.1.now, subst (λ (b : Block). P b x.1.now) (named x.0 (of_or_fault (pick x.0) value e)) holds)
found_in pick P (Err reason) value block named holds e = absurd cc

ack_is : (block : Block) (ack : AlarmAck) → in_alarm_ack block ≡ Some ack → block ≡ is.AlarmAck ack
ack_is (is.AlarmAck value) ack e = cc
ack_is _ ack e = absurd cc

pub ack_found : (P : Block → List ℕ → Type 0) (r : Read) (ack : AlarmAck) → IfOk r (λ x. P x.0 x.1.now) → wanted in_alarm_ack r ≡ Ok ack
    → (rest : List ℕ) × P (is.AlarmAck ack) rest
ack_found P r ack holds e = found_in in_alarm_ack P r ack (is.AlarmAck ack) (λ b. ack_is b ack) holds e

-- A property of the value, if there is one.
pub of_ok : {A F : Type 0} (P : A → Type 0) (result : Result A F) → ((value : A) → result ≡ Ok value → P value) → IfOk result P
of_ok P (Ok value) holds = holds value refl
of_ok P (Err reason) holds = tt

-- The block of an alarm is read as the alarm.
pub carried : (alarm : AlarmNotification) (out : List ℕ) → out ≡ block_bytes (is.AlarmNotification alarm)
    → block_of (block_bytes (is.AlarmNotification alarm) ++ []) ≡ Ok (is.AlarmNotification alarm, []) → notification_of out ≡ Ok alarm
carried alarm out e read =
    let whole : block_of out ≡ Ok (is.AlarmNotification alarm, []) = ap block_of (e ∙ sym (append-nil (block_bytes (is.AlarmNotification alarm)))) ∙ read in
    rw whole refl
