-- While only the timers of an exchange run.
use Rattle.std.specs.Prelude.{◌≡◌, ◌==◌, Option, Some, None, if◌then◌else◌}
use Rattle.asked_records.specs.Asked.{Standing}
use Rattle.relations.specs.declared.steady.Steady.{Steady}
use Rattle.relations.specs.RelationState.{RelationState}
use Rattle.relations.specs.Steady.{IsSteady, steady_in, unknown}
use Rattle.device_core.specs.State.{Live}

-- Nothing is due of a device before the inputs of its relation: nothing is asked of its application, and the lamp is off.
pub record IsSteadyAt (steady : Steady) (live : Live) : Type 0 where
  pub relation : IsSteady steady live.rest.link
  pub unasked : live.rest.asked.standing ≡ None
  pub dark : live.rest.lamp ≡ 0

-- What is known beside what is asked, if something is.
abbrev pub steady_beside : Option Standing → Option RelationState → Steady
steady_beside None link = steady_in link
steady_beside (Some standing) link = unknown

-- What is known of a device: nothing while the lamp flashes or something is asked.
abbrev pub steady_at : Live → Steady
steady_at live = if live.rest.lamp == 0 then steady_beside live.rest.asked.standing live.rest.link else unknown
