-- What was received, without where it lies in memory.
use Rattle.dcp_core.specs.Answered.{answered as answered_as}
use Rattle.rpc_core.specs.Call.{asked}
use Rattle.rpc_core.specs.Response.{answered}
use Rattle.controller_messages.specs.declared.hearing.Hearing.{Hearing}
use Rattle.controller_messages.specs.declared.hearing.Hearing.TheVariants as found
use Rattle.controller_messages.specs.Heard.{Heard, Nothing, Answers, Responds, Refuses, Calls, Cyclic, Alarms}

-- What the functions return is what was heard.
abbrev pub reported : Hearing → Heard
reported found.Nothing = Nothing
reported (found.Answers source answer) = Answers source (answered_as answer)
reported (found.Responds response) = Responds (answered response)
reported (found.Refuses refusal) = Refuses refusal
reported (found.Calls caller call) = Calls caller (asked call)
reported (found.Cyclic source frame_id body) = Cyclic source frame_id body.now
reported (found.Alarms source under header notice) = Alarms source under header notice
