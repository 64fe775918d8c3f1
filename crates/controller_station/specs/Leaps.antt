-- Several units of time at once, at a controller and what is beside it: they do what as many Tick events do, one by one.
use Rattle.std.specs.Prelude.{◌≡◌, ◌<◌, ◌≤◌, ◌++◌, ℕ, zero, suc, min, List, []}
use Rattle.controller_core.specs.Leaps.{live_due_in, ticks_of}
use Rattle.controller_station.specs.Beside as beside
use Rattle.controller_station.specs.Beside.{Beside, sent_by_tick}
use Rattle.controller_station.specs.Served.{Frames, Served, no_frames}

-- The number of units up to and including the next one with which either of both sends something, the neighbour is forgotten, or
-- the controller ends.
abbrev pub served_due_in : Served → ℕ
served_due_in served = min (live_due_in served.controller.live) (beside.due_in served.services)

-- The frames that are sent beside in this many units, in order.
abbrev pub sent_beside : ℕ → Beside → List (List ℕ)
sent_beside zero state = []
sent_beside (suc units) state = sent_beside units state ++ sent_by_tick (beside.ticks_of units state)

-- Both after this many Tick events, one by one.
abbrev pub ticked_by : ℕ → Served → Served
ticked_by units served = record {
  controller = (ticks_of units served.controller).controller;
  services = beside.ticks_of units served.services;
}

-- The frames that they send, those of each in order.
abbrev pub sent_by : ℕ → Served → Frames
sent_by units served = record {
  controller = (ticks_of units served.controller).frames;
  services = sent_beside units served.services;
}

-- None of these units sends anything.
abbrev pub NoneSends : ℕ → Served → Type 0
NoneSends units served = (before : ℕ) → before ≤ units → sent_by before served ≡ no_frames

-- None but the last of these units sends anything.
abbrev pub OnlyTheLastSends : ℕ → Served → Type 0
OnlyTheLastSends units served = (before : ℕ) → before < units → sent_by before served ≡ no_frames
