-- A piece of work is fetched: one of the port, or else a frame of the services.
use Rattle.std.proofs.Common.{◌≡◌, ◌+◌, ◌++◌, ℕ, true, List, [], ◌∷◌, Option, Some, None, drop, refl, sym, ap, ◌∙◌}
use Rattle.std.proofs.lemmas.List.{drop-drop}
use Rattle.flash_model.specs.Calls.{Call}
use Rattle.device_station.specs.port.State.{State, IsFirst, advanced, advanced_by, has_some, has_work, waiting}
use Rattle.device_station.specs.port.Served.{Served, advanced_both, advanced_from, frames_of, or_own}

abbrev pub with_port : Served → State → Served
with_port served port = record served { port = port }

frame_first : (served : Served) (frames : List (List ℕ)) → has_some frames ≡ true → with_port served (advanced served.port) ≡ advanced_from served [] frames
frame_first served [] some = cc some
frame_first served (frame ∷ frames) some = refl

pub after_frame : (served : Served) → served.port.calls ≡ [] → has_some served.port.frames ≡ true → with_port served (advanced served.port) ≡ advanced_both served
after_frame served none some =
    frame_first served served.port.frames some ∙ sym (ap (λ (c : List Call). advanced_from served c served.port.frames) none)

after_by : (served : Served) (calls : List Call) (frames : List (List ℕ)) → has_work calls frames ≡ true → with_port served (advanced served.port) ≡ advanced_from served calls frames
after_by served (call ∷ calls) frames some = refl
after_by served [] (frame ∷ frames) some = refl
after_by served [] [] some = cc some

pub after_work : (served : Served) → has_work served.port.calls served.port.frames ≡ true → with_port served (advanced served.port) ≡ advanced_both served
after_work served some = after_by served served.port.calls served.port.frames some

device_by : (port : State) (calls : List Call) → (advanced_by port calls).device ≡ port.device
device_by port [] = refl
device_by port (call ∷ calls) = refl

pub same_device : (port new : State) → new ≡ advanced port → new.device ≡ port.device
same_device port new on = ap (λ (p : State). p.device) on ∙ device_by port port.calls

-- The first frame is that of the port, if it has one.
pub first_of_port : (frames own : List (List ℕ)) (one : Option (List ℕ)) → has_some frames ≡ true → IsFirst frames one → IsFirst (frames ++ own) one
first_of_port frames own None some none = cc (sym (ap has_some none) ∙ some)
first_of_port frames own (Some one) some first = (first.0 ++ own, ap (λ (f : List (List ℕ)). f ++ own) first.1)

-- Else it is the first of the services.
pub own_frames : (served : Served) → served.port.frames ≡ [] → served.frames ≡ frames_of served
own_frames served none = sym (ap (λ (f : List (List ℕ)). f ++ served.frames) none)

pub after_own : (served : Served) (past : ℕ) (all : List (List ℕ)) → served.port.calls ≡ [] → served.port.frames ≡ [] → served.frames ≡ drop past all
    → record served { frames = drop (past + 1) all } ≡ advanced_both served
after_own served past all no_call no_frame is =
    ap (λ (f : List (List ℕ)). let s : Served = record served { frames = f } in s) (sym (ap (drop 1) is ∙ drop-drop 1 past all))
    ∙ (sym (ap (advanced_from served []) no_frame) ∙ sym (ap (λ (c : List Call). advanced_from served c served.port.frames) no_call))

-- No work remains.
pub after_none : (served : Served) → served.port.calls ≡ [] → served.port.frames ≡ [] → served.frames ≡ [] → served ≡ advanced_both served
after_none served no_call no_frame none =
    ap (λ (f : List (List ℕ)). let s : Served = record served { frames = f } in s) none
    ∙ (sym (ap (λ (f : List (List ℕ)). let s : Served = record served { frames = drop 1 f } in s) none)
    ∙ (sym (ap (advanced_from served []) no_frame) ∙ sym (ap (λ (c : List Call). advanced_from served c served.port.frames) no_call)))

-- The kind of the next piece of work is that of the services then.
pub own_waits : (calls : List Call) (frames : List (List ℕ)) (own : ℕ) → calls ≡ [] → frames ≡ [] → own ≡ or_own (waiting calls frames) own
own_waits [] [] own no_call no_frame = refl
own_waits [] (frame ∷ frames) own no_call no_frame = cc (ap has_some no_frame)
own_waits (call ∷ calls) frames own no_call no_frame = cc (ap has_some no_call)
