-- Why no event is accepted, with the services beside the device.
use Rattle.std.proofs.Common.{◌≡◌, ◌++◌, ℕ, true, false, List, [], ◌∷◌, None, refl, sym, ap, ◌∙◌}
use Rattle.std.proofs.lemmas.List.{append-nil}
use Rattle.flash_model.specs.Calls.{Call}
use Rattle.device_station.specs.port.State.{barred, barred_by, has_some, has_work, waiting}
use Rattle.device_station.specs.port.Served.{Served, IsFetched, barred_both, frames_of, or_own, waiting_both}
use Rattle.device_station.proofs.PortStages.{by_stage, idle_of}

pub frames_alone : (served : Served) → served.frames ≡ [] → frames_of served ≡ served.port.frames
frames_alone served none = ap (λ (f : List (List ℕ)). served.port.frames ++ f) none ∙ append-nil served.port.frames

-- If no frame of the services remains, it is as the port says.
pub barred_alone : (served : Served) → served.frames ≡ [] → barred_both served ≡ barred served.port
barred_alone served none = ap (λ (f : List (List ℕ)). barred_by served.port.stage (has_work served.port.calls f)) (frames_alone served none)

-- ---- a port that accepts events has no work

none_in : (frames own : List (List ℕ)) → frames ++ own ≡ [] → (frames ≡ []) × (own ≡ [])
none_in [] own none = (refl, none)
none_in (frame ∷ frames) own none = cc none

-- If no work remains, all is fetched.
pub fetched_of : (served : Served) → has_work served.port.calls (frames_of served) ≡ false → IsFetched served
fetched_of served none =
    let idle = idle_of served.port.calls (frames_of served) none in
    let parts = none_in served.port.frames served.frames idle.1 in
    ((idle.0, parts.0), parts.1)

pub free_fetched : (served : Served) → barred_both served ≡ None → IsFetched served
free_fetched served free = fetched_of served (by_stage served.port.stage (has_work served.port.calls (frames_of served)) free).1

pub free_port : (served : Served) → barred_both served ≡ None → barred served.port ≡ None
free_port served free = sym (barred_alone served (free_fetched served free).1) ∙ free

-- Nothing waits then.
pub nothing_waits : (calls : List Call) (frames own : List (List ℕ)) → calls ≡ [] → frames ≡ [] → own ≡ [] → or_own (waiting calls frames) (waiting [] own) ≡ 0
nothing_waits [] [] [] a b d = refl
nothing_waits [] [] (one ∷ own) a b d = cc (ap has_some d)
nothing_waits [] (frame ∷ frames) own a b d = cc (ap has_some b)
nothing_waits (call ∷ calls) frames own a b d = cc (ap has_some a)

-- Only frames of the device wait.
pub only_frame : (calls : List Call) (frames own : List (List ℕ)) → calls ≡ [] → has_some frames ≡ true → own ≡ [] → or_own (waiting calls frames) (waiting [] own) ≡ 3
only_frame [] [] own a b d = cc b
only_frame [] (frame ∷ frames) own a b d = refl
only_frame (call ∷ calls) frames own a b d = cc (ap has_some a)

pub waits_free : (served : Served) → barred_both served ≡ None → waiting_both served ≡ 0
waits_free served free = let all = free_fetched served free in nothing_waits served.port.calls served.port.frames served.frames all.0.0 all.0.1 all.1
