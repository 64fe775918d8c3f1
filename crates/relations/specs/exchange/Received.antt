-- Which cyclic frames are accepted (IEC 61158-6-10, 4.7).
use Rattle.std.specs.Prelude.{ℕ, List}
use Rattle.pn_values.specs.declared.mac.Mac.{Mac}
use Rattle.cyclic_data.specs.declared.exchange.received.Received.{Received}
use Rattle.cyclic_data.specs.exchange.Received.{behind_frame as cyclic_behind, received_as as cyclic_received}
use Rattle.relations.specs.exchange.Flow.{Flow}

-- What happens to a frame with this source and this FrameID.
abbrev pub received_as : Flow → Mac → ℕ → List ℕ → Received
received_as flow source frame_id body = cyclic_received flow.cyclic source frame_id body

-- The state after a frame. An accepted frame replaces the outputs that are read, and the data hold time restarts. Any
-- other frame changes nothing.
abbrev pub behind_frame : Flow → Mac → ℕ → List ℕ → Flow
behind_frame flow source frame_id body = record flow { cyclic = cyclic_behind flow.cyclic source frame_id body }
