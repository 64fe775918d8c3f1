-- A port that accepts events has no work.
use Rattle.std.proofs.Common.{◌≡◌, Bool, true, false, List, [], ◌∷◌, ◌++◌, ℕ, refl, Option, Some, None}
use Rattle.flash_model.specs.Calls.{Call}
use Rattle.device_station.specs.declared.port.stage.Stage.{Stage}
use Rattle.device_station.specs.declared.port.stage.Stage.TheVariants.{Made, Booted, Lost}
use Rattle.device_station.specs.port.State.{State, IsIdle, barred, barred_by, has_work}
use Rattle.device_station.specs.port.Served.{Served, IsFetched, barred_both, frames_of}

none_left : (calls : List Call) (frames own : List (List ℕ)) → has_work calls (frames ++ own) ≡ false → ((calls ≡ []) × (frames ≡ [])) × (own ≡ [])
none_left [] [] [] none = ((refl, refl), refl)
none_left [] [] (frame ∷ own) none = cc none
none_left [] (frame ∷ frames) own none = cc none
none_left (call ∷ calls) frames own none = cc none

none_by : (stage : Stage) (is_left : Bool) → barred_by stage is_left ≡ None → is_left ≡ false
none_by Made is_left free = cc free
none_by Booted true free = cc free
none_by Booted false free = refl
none_by Lost is_left free = cc free

pub fetched_of : (served : Served) → has_work served.port.calls (frames_of served) ≡ false → IsFetched served
fetched_of served none = none_left served.port.calls served.port.frames served.frames none

pub free_fetched : (served : Served) → barred_both served ≡ None → IsFetched served
free_fetched served free = fetched_of served (none_by served.port.stage (has_work served.port.calls (frames_of served)) free)

idle_by : (calls : List Call) (frames : List (List ℕ)) → has_work calls frames ≡ false → (calls ≡ []) × (frames ≡ [])
idle_by [] [] none = (refl, refl)
idle_by [] (frame ∷ frames) none = cc none
idle_by (call ∷ calls) frames none = cc none

pub free_idle : (port : State) → barred port ≡ None → IsIdle port
free_idle port free = idle_by port.calls port.frames (none_by port.stage (has_work port.calls port.frames) free)
