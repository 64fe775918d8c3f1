-- The numbers that the Connect of every plan has (IEC 61158-6-10, 5.2.4). Both ends use them.
use Rattle.std.specs.Prelude.{ℕ}

-- SessionKey of the relation
abbrev pub session_number : ℕ
session_number = 1

-- CMInitiatorActivityTimeoutFactor: the device waits 60 s for the next call
abbrev pub activity_factor : ℕ
activity_factor = 600

-- the FrameID of inputs
abbrev pub input_frame_id : ℕ
input_frame_id = 0xC001

-- IOCRTagHeader and TagHeaderHigh: VLAN priority 6
abbrev pub high_tag : ℕ
high_tag = 0xC000

-- TagHeaderLow: VLAN priority 5
abbrev pub low_tag : ℕ
low_tag = 0xA000

-- RTATimeoutFactor and RTARetries: an alarm is sent again after 100 ms, at most three times
abbrev pub alarm_factor : ℕ
alarm_factor = 1

-- RTARetries of a plan.
abbrev pub alarm_retries : ℕ
alarm_retries = 3

-- LocalAlarmReference of the controller
abbrev pub alarm_endpoint : ℕ
alarm_endpoint = 1
