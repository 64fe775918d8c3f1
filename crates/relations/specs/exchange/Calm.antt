-- An exchange whose alarms have nothing to do.
use Rattle.std.specs.Prelude.{◌≡◌, ◌&&◌, Bool, not, is_some, None}
use Rattle.relations.specs.exchange.Flow.{Flow}

-- No process alarm is open, and no alarm of either priority waits for its ACK.
pub record IsCalm (flow : Flow) : Type 0 where
  pub closed : flow.alarms.sender.standing ≡ None
  pub high : flow.alarms.sender.sending.waiting ≡ None
  pub low : flow.low.alarms.sender.sending.waiting ≡ None

-- Whether it is such an exchange.
abbrev pub is_calm : Flow → Bool
is_calm flow = not (is_some flow.alarms.sender.sending.waiting) && (not (is_some flow.low.alarms.sender.sending.waiting) && not (is_some flow.alarms.sender.standing))
