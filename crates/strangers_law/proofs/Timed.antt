-- The clocks of a relation are those of its request after any events.
use Rattle.std.proofs.Common.{inl, inr, [], ◌∷◌, Option, Some, None, sym, subst}
use Rattle.relations.specs.RelationState.{RelationState}
use Rattle.device_frames.specs.Heard.{heard_of}
use Rattle.device_core.specs.State.{Live, Station, Rest}
use Rattle.device_core.specs.Machine.{first_step, later_steps, step_of}
use Rattle.strangers_law.specs.Silence.{AreTimed, StayTimed}
use Rattle.strangers_law.proofs.Changes.{Stays}
use Rattle.strangers_law.proofs.Moving.{Moves, step_moves}

stays_timed : (link next : Option RelationState) → Stays link next → AreTimed link → AreTimed next
stays_timed link None stay timed = tt
stays_timed None (Some next) stay timed = absurd stay
stays_timed (Some link) (Some next) same timed = same.timed timed

moves_timed : (station : Station) (was now : Rest) → Moves station was now → AreTimed was.link → AreTimed now.link
moves_timed station was now (inl kept) timed = stays_timed was.link now.link kept.1 timed
moves_timed station was now (inr made) timed = subst AreTimed (sym made.1.is) made.1.timed

pub stay_timed : StayTimed
stay_timed station live outcomes [] timed = timed
stay_timed station live outcomes (event ∷ events) timed =
    let next : Live = (step_of (first_step outcomes) station live event).live in
    stay_timed station next (later_steps outcomes) events
    (moves_timed station live.rest next.rest (step_moves station live (first_step outcomes) (heard_of station.identity event)) timed)
