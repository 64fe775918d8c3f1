-- The receiver of data: it accepts each number once, in order.
use Rattle.std.specs.Prelude.{◌==◌, ℕ, Option, Some, if◌then◌else◌}
use Rattle.pn_alarms.specs.declared.pdu.PduType.{PduType}
use Rattle.pn_alarms.specs.declared.pdu.PduType.TheVariants as pdu
use Rattle.pn_alarms.specs.declared.receiver.Taken.{Taken}
use Rattle.pn_alarms.specs.declared.receiver.Taken.TheVariants.{New, Again, Refused}
use Rattle.pn_alarms.specs.Numbers.{next_number, is_last}

-- What happens to data of this number: the expected number is accepted, the last number was accepted before, any other
-- number is refused.
abbrev pub taken_as : Option ℕ → ℕ → Taken
taken_as last number = if number == next_number last then New else (if is_last last number then Again else Refused)

-- The number of the last data that was accepted, after this data.
abbrev pub last_behind : Option ℕ → ℕ → Option ℕ
last_behind last number = if number == next_number last then Some number else last

-- The PDU that is the response.
abbrev pub answer_to : Taken → PduType
answer_to New = pdu.Ack
answer_to Again = pdu.Ack
answer_to Refused = pdu.Nack
