-- Operations over a chip whose calls succeed.
use Rattle.std.proofs.Common.{◌≡◌, ◌<◌, ◌+◌, ℕ, false, List, [], ◌∷◌, ◌++◌, length, drop, take, refl, sym, ap, subst, ◌∙◌, inl, inr, append_assoc, Option, Some, None, Result, Ok, Err, get_or}
use Rattle.std.specs.Prelude.{OnOk}
use Rattle.std.proofs.lemmas.List.{append-nil, take_more}
use Rattle.flash_model.specs.Calls.{Call}
use Rattle.flash_model.specs.Image.{Image}
use Rattle.flash_model.specs.declared.flash.FlashFault.{FlashFault}
use Rattle.settings_journal.specs.Cut.{all_carried_out, carried_out}
use Rattle.settings_journal.specs.settings_store.State.{Values}
use Rattle.device_frames.specs.declared.event.Event.{Event}
use Rattle.device_frames.specs.declared.note.Note.{Note}
use Rattle.device_station.specs.Beside.{joined_beside}
use Rattle.device_station.specs.Serving.{Serving}
use Rattle.device_abi.specs.declared.host.Operation.{Operation}
use Rattle.device_abi.specs.declared.host.Operation.TheVariants as operation
use Rattle.device_station.specs.declared.port.stage.Stage.TheVariants.{Booted}
use Rattle.device_abi.specs.Host.{HandsIn, Performs}
use Rattle.device_abi.specs.Plays.{Plays, Point, emptied, point, settled, worked, worked_by}
use Rattle.device_station.specs.port.Served.{Served, IsFetched, advanced_both, advanced_from, frames_of}
use Rattle.device_station.specs.port.ServedSteps.{GivesAny, GivesPort, TakesBoth}
use Rattle.device_station.specs.port.State.{State, advanced_by, barred_by}
use Rattle.device_abi.proofs.PortHosted.{fetched_frames}

points : (port port_is : Served) (chip chip_is : Image) (sent sent_is : List (List ℕ)) → port ≡ port_is → chip ≡ chip_is → sent ≡ sent_is → point port chip sent ≡ point port_is chip_is sent_is
points port port_is chip chip_is sent sent_is a b c = ap (λ p. point p chip sent) a ∙ ap (λ i. point port_is i sent) b ∙ ap (λ s. point port_is chip_is s) c

-- ---- a piece of work

piece_by : (port : Served) (chip : Image) (sent : List (List ℕ)) (new rest : Served) (chip_then : Image) (now : List (List ℕ)) (calls : List Call) (frames : List (List ℕ))
    → Performs {E = FlashFault} calls frames chip sent (Ok tt) chip_then now → new ≡ rest → point new chip_then now ≡ worked_by rest (point port chip sent) calls frames
piece_by port chip sent new rest chip_then now (call ∷ calls) frames is on = points new rest chip_then (carried_out chip call) now sent on is.0 is.1
piece_by port chip sent new rest chip_then now [] (frame ∷ frames) is on = points new rest chip_then chip now (sent ++ frame ∷ []) on is.1 is.2
piece_by port chip sent new rest chip_then now [] [] is on = points new rest chip_then chip now sent on is.1 is.2

pub piece : (port : Served) (chip : Image) (sent : List (List ℕ)) (new : Served) (chip_then : Image) (now : List (List ℕ)) → Performs {E = FlashFault} port.port.calls (frames_of port) chip sent (Ok tt) chip_then now
    → new ≡ advanced_both port → point new chip_then now ≡ worked (point port chip sent)
piece port chip sent new chip_then now is on = piece_by port chip sent new (advanced_both port) chip_then now port.port.calls (frames_of port) is on

stage_port : (port : State) (calls : List Call) → (advanced_by port calls).stage ≡ port.stage
stage_port port [] = refl
stage_port port (call ∷ calls) = refl

stage_by : (port : Served) (calls : List Call) (frames : List (List ℕ)) → (advanced_from port calls frames).port.stage ≡ port.port.stage
stage_by port [] [] = refl
stage_by port [] (frame ∷ frames) = stage_port port.port port.port.calls
stage_by port (call ∷ calls) frames = stage_port port.port port.port.calls

-- A piece of work leaves the stage.
pub stage_on : (port new : Served) → port.port.stage ≡ Booted → new ≡ advanced_both port → new.port.stage ≡ Booted
stage_on port new booted on = ap (λ p. p.port.stage) on ∙ stage_by port port.port.calls port.port.frames ∙ booted

-- A piece of work is one operation.
pub worked_on : (result : Result (Unit {0}) FlashFault) (port : Served) (chip : Image) (sent : List (List ℕ)) (new : Served) (chip_then : Image) (now : List (List ℕ)) → port.port.stage ≡ Booted
    → Performs port.port.calls (frames_of port) chip sent result chip_then now → OnOk result (new ≡ advanced_both port)
    → OnOk result (Plays (operation.Works ∷ []) (point port chip sent) (point new chip_then now) × (new.port.stage ≡ Booted))
worked_on (Ok done) port chip sent new chip_then now booted is on = (piece port chip sent new chip_then now is on, stage_on port new booted on)
worked_on (Err fault) port chip sent new chip_then now booted is on = tt

-- ---- all of it

empties_port : (port : State) (calls : List Call) → (let p : State = record (advanced_by port calls) { calls = []; frames = [] } in p) ≡ record port { calls = []; frames = [] }
empties_port port [] = refl
empties_port port (call ∷ calls) = refl

empties_by : (port : Served) (calls : List Call) (frames : List (List ℕ)) → emptied (advanced_from port calls frames) ≡ emptied port
empties_by port [] [] = refl
empties_by port [] (frame ∷ frames) = ap (λ p. let o : Served = record port { port = p; frames = [] } in o) (empties_port port.port port.port.calls)
empties_by port (call ∷ calls) frames = ap (λ p. let o : Served = record port { port = p; frames = [] } in o) (empties_port port.port port.port.calls)

settles_by : (at : Point) (calls : List Call) (frames own : List (List ℕ)) → at.port.port.calls ≡ calls → at.port.port.frames ≡ frames → at.port.frames ≡ own
    → settled (worked_by (advanced_from at.port calls frames) at calls (frames ++ own)) ≡ settled at
settles_by at (call ∷ calls) frames own e f o =
    let port = at.port in
    let rest = advanced_from port (call ∷ calls) frames in
    let on = ap (advanced_by port.port) e in
    points (emptied rest) (emptied port) (all_carried_out (carried_out at.chip call) rest.port.calls) (all_carried_out at.chip port.port.calls) (at.sent ++ frames_of rest) (at.sent ++ frames_of port)
    (empties_by port (call ∷ calls) frames) (ap (λ p. all_carried_out (carried_out at.chip call) p.calls) on ∙ sym (ap (all_carried_out at.chip) e)) (ap (λ p. at.sent ++ (p.frames ++ port.frames)) on)
settles_by at [] (frame ∷ frames) own e f o =
    let port = at.port in
    let rest = advanced_from port [] (frame ∷ frames) in
    let on = ap (advanced_by port.port) e ∙ ap (λ l. let p : State = record port.port { frames = drop 1 l } in p) f in
    points (emptied rest) (emptied port) (all_carried_out at.chip rest.port.calls) (all_carried_out at.chip port.port.calls) ((at.sent ++ frame ∷ []) ++ frames_of rest) (at.sent ++ frames_of port)
    (empties_by port [] (frame ∷ frames)) (ap (λ p. all_carried_out at.chip p.calls) on)
    (append_assoc at.sent (frame ∷ []) (frames_of rest) ∙ ap (λ p. at.sent ++ frame ∷ (p.frames ++ port.frames)) on ∙ sym (ap (λ l. at.sent ++ (l ++ port.frames)) f))
settles_by at [] [] (one ∷ own) e f o =
    let port = at.port in
    let rest = advanced_from port [] [] in
    points (emptied rest) (emptied port) (all_carried_out at.chip port.port.calls) (all_carried_out at.chip port.port.calls) ((at.sent ++ one ∷ []) ++ frames_of rest) (at.sent ++ frames_of port) refl refl
    (append_assoc at.sent (one ∷ []) (frames_of rest) ∙ ap (λ l. at.sent ++ one ∷ (l ++ drop 1 port.frames)) f ∙ ap (λ l. at.sent ++ one ∷ drop 1 l) o
    ∙ sym (ap (λ l. at.sent ++ (l ++ port.frames)) f ∙ ap (λ l. at.sent ++ l) o))
settles_by at [] [] [] e f o =
    let port = at.port in
    let rest = advanced_from port [] [] in
    points (emptied rest) (emptied port) (all_carried_out at.chip port.port.calls) (all_carried_out at.chip port.port.calls) (at.sent ++ frames_of rest) (at.sent ++ frames_of port) refl refl
    (ap (λ l. at.sent ++ (port.port.frames ++ drop 1 l)) o ∙ sym (ap (λ l. at.sent ++ (port.port.frames ++ l)) o))

-- After a piece of it the same work is settled.
pub settles_on : (at : Point) → settled (worked at) ≡ settled at
settles_on at = settles_by at at.port.port.calls at.port.port.frames at.port.frames refl refl refl

-- If no work remains, all is settled.
pub settled_idle : (at : Point) → IsFetched at.port → at ≡ settled at
settled_idle at idle =
    let port = at.port in
    points port (emptied port) at.chip (all_carried_out at.chip port.port.calls) at.sent (at.sent ++ frames_of port)
    (ap (λ c. let p : Served = record port { port = record port.port { calls = c } } in p) idle.0.0
    ∙ ap (λ f. let p : Served = record port { port = record port.port { calls = []; frames = f } } in p) idle.0.1
    ∙ ap (λ f. let p : Served = record port { port = record port.port { calls = []; frames = [] }; frames = f } in p) idle.1)
    (sym (ap (all_carried_out at.chip) idle.0.0)) (sym (ap (λ f. at.sent ++ f) (fetched_frames port idle) ∙ append-nil at.sent))

-- ---- an event

hands_settled : (at : Point) (event : Event) (new : Served) → at.port.port.stage ≡ Booted → HandsIn (settled at).port event new → (note : Note) × TakesBoth (settled at).port event note new
hands_settled at event new booted (inl taken) = taken.1
hands_settled at event new booted (inr refused) = absurd (refused.0 (ap (λ t. barred_by t false) booted))

given_stage : (joined : Option Event) (middle new : State) → middle.stage ≡ Booted → GivesPort joined middle new → new.stage ≡ Booted
given_stage None middle new booted same = ap (λ p. p.stage) same ∙ booted
given_stage (Some call) middle new booted gives = gives.2.stage

any_stage : (services : Option Serving) (values : Values) (note : Note) (event : Event) (middle new : State) → middle.stage ≡ Booted → GivesAny services values note event middle new → new.stage ≡ Booted
any_stage None values note event middle new booted same = ap (λ p. p.stage) same ∙ booted
any_stage (Some state) values note event middle new booted gives = given_stage (joined_beside state values note event) middle new booted gives

taken_stage : (old new : Served) (event : Event) (note : Note) → TakesBoth old event note new → new.port.stage ≡ Booted
taken_stage old new event note takes =
    let s = takes.steps in any_stage takes.between.services s.middle.device.live.values s.said event s.middle new.port s.alone.stage s.gives

-- Once all work is settled, an event is a step of the device and of the services beside it.
pub handed_on : (at between : Point) (event : Event) (new : Served) → at.port.port.stage ≡ Booted → between ≡ settled at → HandsIn between.port event new
    → Plays (operation.Happens event ∷ []) at (point new between.chip between.sent) × (new.port.stage ≡ Booted)
handed_on at between event new booted is hands =
    let taken = hands_settled at event new booted (subst (λ p. HandsIn p.port event new) is hands) in (
      (new, taken.0, taken.1, points new new between.chip (settled at).chip between.sent (settled at).sent refl (ap (λ p. p.chip) is) (ap (λ p. p.sent) is)),
      taken_stage (settled at).port new event taken.0 taken.1,
    )

-- ---- operations in order

pub plays_append : (front back : List Operation) (first between last : Point) → Plays front first between → Plays back between last → Plays (front ++ back) first last
plays_append [] back first between last same more = subst (λ p. Plays back p last) same more
plays_append (operation.Works ∷ front) back first between last plays more = plays_append front back (worked first) between last plays more
plays_append (operation.Happens event ∷ front) back first between last plays more =
    (plays.0, plays.1, plays.2, plays_append front back (point plays.0 (settled first).chip (settled first).sent) between last plays.3 more)

pub plays_more : (so_far : ℕ) (operations : List Operation) (operation : Operation) (first between last : Point) → so_far < length operations → operation ≡ get_or operations so_far operation
    → Plays (take so_far operations) first between → Plays (operation ∷ []) between last → Plays (take (so_far + 1) operations) first last
plays_more so_far operations operation first between last low is plays more =
    subst (λ o. Plays o first last) (sym (take_more operations so_far operation low ∙ ap (λ o. take so_far operations ++ o ∷ []) (sym is)))
    (plays_append (take so_far operations) (operation ∷ []) first between last plays more)
