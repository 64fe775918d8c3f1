-- The state of one end of cyclic data.
use Rattle.std.specs.Prelude.{ℕ, Bool}
use Rattle.cyclic_data.specs.Image.{Shown}
use Rattle.cyclic_data.specs.Timing.{Hearing, Sending}
use Rattle.cyclic_data.specs.declared.exchange.route.Route.{Route}

-- One end: the partner and the numbers of the frames; whether data is exchanged, during which the data hold time runs;
-- when frames are due and the content of each of their places; which frames were accepted, the content of the last
-- accepted frame at each place, and its DataStatus, which is 0 before.
pub record Cyclic : Type 0 where
  pub route : Route
  pub begun : Bool
  pub sending : Sending
  pub shown : Shown
  pub hearing : Hearing
  pub taken : Shown
  pub data_status : ℕ
