-- The octets of a cyclic frame after its FrameID (IEC 61158-6-10, 4.7): its data, CycleCounter, DataStatus and
-- TransferStatus.
use Rattle.std.specs.Prelude.{ℕ, List, length, Result}
use Rattle.wire.specs.Codec.{Codec}
use Rattle.wire.specs.Formats.{raw, number, ◌⨾◌, seen}
use Rattle.wire.specs.Whole.{loose}
use Rattle.cyclic_data.specs.declared.tail.ShortFrame.{ShortFrame}
use Rattle.cyclic_data.specs.declared.tail.CyclicTail.{CyclicTail}

-- The only fault: the frame is too short.
abbrev pub short : ShortFrame
short = record {}

-- The format of the fields after the data.
unfoldable pub cyclic_tail : Codec ShortFrame CyclicTail
cyclic_tail = seen (λ x. record { counter = x.0; data_status = record { 0 = x.1.0 }; transfer_status = x.1.1 })
    (λ tail. (tail.counter, (tail.data_status.0, tail.transfer_status)))
    (number short 2 ⨾ number short 1 ⨾ number short 1)

-- The format of `data_length` octets of data and the fields after them.
unfoldable pub cyclic_frame : ℕ → Codec ShortFrame (List ℕ × CyclicTail)
cyclic_frame data_length = raw short data_length ⨾ cyclic_tail

-- The octets after a FrameID are this data and these fields, followed by any padding.
abbrev pub IsCyclic : ℕ → List ℕ → List ℕ × CyclicTail → Type 0
IsCyclic data_length bytes value = (loose (cyclic_frame data_length)).Spells bytes value

-- The data and the fields after it, read from the octets after a FrameID.
abbrev pub cyclic_of : ℕ → List ℕ → Result (List ℕ × CyclicTail) ShortFrame
cyclic_of data_length bytes = (loose (cyclic_frame data_length)).read bytes

-- The octets of the data and the fields after it, followed by the rest.
abbrev pub cyclic_bytes : List ℕ → CyclicTail → List ℕ → List ℕ
cyclic_bytes octets tail rest = (cyclic_frame (length octets)).write (octets, tail) rest
