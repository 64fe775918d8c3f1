-- The steps of each end, as far as a start-up is concerned. A step is a relation: what it leaves open, a real machine
-- decides.
use Rattle.std.specs.Prelude.{◌≡◌, ◌⊎◌, ◌+◌, ◌<◌, ◌≤◌, ◌&&◌, ℕ, zero, suc, Bool, true, false, List, [], ◌∷◌, ◌++◌, slice_get, Option, Some, None}
use Rattle.std.specs.List.{AllByRecursion}
use Rattle.end_laws.specs.both.Small.{Ask, Connects, Writes, Parameterized, Releases, Accesses, ToDevice, Call, Confirms, Idle, Reply, ToController, Answers, Readies, Nothing, Rules, Started, Awaiting, Exchanging, RelationState, Kept, Device, Controller, Seeking, Asking, Waiting, Exchanges, Ended, World, Move, ComesToDevice, ComesToController, AtDevice, AtController}

-- ---- the device

-- a call with this sequence number is new: later than the last that was answered
abbrev pub IsNew : ℕ → Option Kept → Type 0
IsNew sequence None = Unit {0}
IsNew sequence (Some kept) = kept.sequence < sequence

-- ---- the calls of a controller

-- the request of the call of a stage, given the number of Writes
abbrev pub IsAsked : ℕ → ℕ → Ask → Type 0
IsAsked count stage Connects = stage ≡ 0
IsAsked count stage (Writes number) = (number < count) × (stage ≡ number + 1)
IsAsked count stage Parameterized = stage ≡ count + 1
IsAsked count stage Releases = ⊥
IsAsked count stage Accesses = ⊥

-- the controller makes this call: its sequence number is the stage, and one more for each call that was tried again
pub record IsCalling (count : ℕ) (now : Controller) (sequence : ℕ) (ask : Ask) : Type 0 where
  pub stage : ℕ
  pub tries : ℕ
  pub calls : now ≡ Asking stage tries
  pub number : sequence ≡ stage + tries
  pub asked : IsAsked count stage ask

-- a Release is sent at an end, another call of the start-up as long as the controller makes it, and the calls of the
-- application and those after a plug while data is exchanged
abbrev pub CallsWhile : ℕ → Controller → ℕ → Ask → Type 0
CallsWhile count now sequence ask = (ask ≡ Releases) ⊎ (IsCalling count now sequence ask ⊎ ((ask ≡ Accesses) × (now ≡ Exchanges)))

-- what the device hears in a frame sent now: a call, the response to ApplicationReady while data is exchanged, or
-- nothing of a start-up
abbrev pub SaysToDevice : ℕ → Controller → ToDevice → Type 0
SaysToDevice count now (Call sequence ask) = CallsWhile count now sequence ask
SaysToDevice count now Confirms = now ≡ Exchanges
SaysToDevice count now Idle = Unit {0}

-- a response to the current call, which says that all went well unless records may be skipped: the controller makes the
-- call of the next stage, or after the last one waits for ApplicationReady
pub record IsNext (grants : ℕ → List ℕ → Bool) (skips : Bool) (count : ℕ) (heard : ToController) (before after : Controller) : Type 0 where
  pub stage : ℕ
  pub tries : ℕ
  pub reply : Reply
  pub asked : before ≡ Asking stage tries
  pub answered : heard ≡ Answers (stage + tries) reply
  pub granted : ((reply.done && grants stage reply.blocks) ≡ true) ⊎ (skips ≡ true)
  pub becomes : ((stage ≤ count) × (after ≡ Asking (stage + 1) tries)) ⊎ (after ≡ Waiting)

-- a response that refuses the current call, which is no Connect: the controller makes the call again, with the next
-- sequence number
pub record IsTried (heard : ToController) (before after : Controller) : Type 0 where
  pub stage : ℕ
  pub tries : ℕ
  pub reply : Reply
  pub asked : before ≡ Asking stage tries
  pub later : 0 < stage
  pub answered : heard ≡ Answers (stage + tries) reply
  pub refused : reply.done ≡ false
  pub becomes : after ≡ Asking stage (tries + 1)

-- how the state moves: not at all, to the end, to the first call, from call to call, to the exchange of data with
-- ApplicationReady, or to the same call again
abbrev pub Moves : (ℕ → List ℕ → Bool) → Bool → ℕ → ToController → Controller → Controller → Type 0
Moves grants skips count heard before after =
    (after ≡ before) ⊎ ((after ≡ Ended) ⊎ (((before ≡ Seeking) × (after ≡ Asking 0 0))
    ⊎ (IsNext grants skips count heard before after ⊎ (((heard ≡ Readies) × (after ≡ Exchanges)) ⊎ IsTried heard before after))))

-- it stays the same, or it is gone
abbrev pub IsSameOrNone : {A : Type 0} → Option A → Option A → Type 0
IsSameOrNone before after = (after ≡ before) ⊎ (after ≡ None)

-- a list has these items of another one, in the same order
abbrev pub IsPart : {T : Type 0} → List T → List T → Type 0
IsPart some [] = some ≡ []
IsPart [] (value ∷ all) = Unit {0}
IsPart (one ∷ some) (value ∷ all) = ((one ≡ value) × IsPart some all) ⊎ IsPart (one ∷ some) all

module _ {T Q : Type 0} where
  -- a new relation
  abbrev pub made : Rules T Q → RelationState T Q
  made rules = record { phase = Started; request = rules.request; taken = [] }

  -- the records of the first Writes, in order
  abbrev pub records_before : Rules T Q → ℕ → List T
  records_before rules zero = []
  records_before rules (suc number) = records_before rules number ++ rules.group number

  -- all records, in order
  abbrev pub records_of : Rules T Q → List T
  records_of rules = records_before rules rules.count

  -- a relation accepts the records of a Write, in order
  pub record TakesRecords (rules : Rules T Q) (number : ℕ) (before after : Option (RelationState T Q)) : Type 0 where
    pub link : RelationState T Q
    pub was : before ≡ Some link
    pub becomes : after ≡ Some (record link { taken = link.taken ++ rules.group number })

  -- data is exchanged, and nothing of the start-up changes: the records of a Write are passed on, or the parameters of a plug are
  -- complete
  pub record PassesOn (before after : Option (RelationState T Q)) : Type 0 where
    pub link : RelationState T Q
    pub was : before ≡ Some link
    pub exchanges : link.phase ≡ Exchanging
    pub same : after ≡ before

  -- data is exchanged, and the relation keeps some of the records that it accepted: those of a place are forgotten with a pull or a
  -- plug there
  pub record Forgets (before after : Option (RelationState T Q)) : Type 0 where
    pub link : RelationState T Q
    pub was : before ≡ Some link
    pub exchanges : link.phase ≡ Exchanging
    pub values : List T
    pub part : IsPart values link.taken
    pub becomes : after ≡ Some (record link { taken = values })

  -- a relation accepts some of them, in order
  pub record TakesSome (rules : Rules T Q) (number : ℕ) (before after : Option (RelationState T Q)) : Type 0 where
    pub link : RelationState T Q
    pub values : List T
    pub was : before ≡ Some link
    pub part : IsPart values (rules.group number)
    pub becomes : after ≡ Some (record link { taken = link.taken ++ values })

  -- the parameters of a relation are complete
  pub record IsParameterized (before after : Option (RelationState T Q)) : Type 0 where
    pub link : RelationState T Q
    pub was : before ≡ Some link
    pub started : link.phase ≡ Started
    pub becomes : after ≡ Some (record link { phase = Awaiting })

  -- a relation accepts any records
  pub record TakesAny (before after : Option (RelationState T Q)) : Type 0 where
    pub link : RelationState T Q
    pub values : List T
    pub was : before ≡ Some link
    pub becomes : after ≡ Some (record link { taken = link.taken ++ values })

  -- the effect of a call that succeeds
  abbrev pub Carries : Rules T Q → Ask → Option (RelationState T Q) → Option (RelationState T Q) → Type 0
  Carries rules Connects before after = after ≡ Some (made rules)
  Carries rules (Writes number) before after = TakesRecords rules number before after ⊎ PassesOn before after
  Carries rules Parameterized before after = IsParameterized before after ⊎ PassesOn before after
  Carries rules Releases before after = after ≡ None
  Carries rules Accesses before after = (after ≡ before) ⊎ TakesAny before after

  -- The effect of a Write whose response is positive: the whole, if it says that each record was written. If not, it changed
  -- nothing, or it had some of its effect: of several records each is accepted or refused by itself.
  abbrev pub Written : Rules T Q → Bool → ℕ → Option (RelationState T Q) → Option (RelationState T Q) → Type 0
  Written rules true number before after = Carries rules (Writes number) before after
  Written rules false number before after = (after ≡ before) ⊎ TakesSome rules number before after

  -- the effect of a call whose response is positive, and has these blocks
  abbrev pub Succeeds : Rules T Q → List ℕ → Ask → Option (RelationState T Q) → Option (RelationState T Q) → Type 0
  Succeeds rules blocks (Writes number) before after = Written rules (rules.grants (suc number) blocks) number before after
  Succeeds rules blocks ask before after = Carries rules ask before after

  -- the effect of a call, by its response: if that is negative, none
  abbrev pub ComesBy : Rules T Q → Bool → List ℕ → Ask → Option (RelationState T Q) → Option (RelationState T Q) → Type 0
  ComesBy rules true blocks ask before after = Succeeds rules blocks ask before after
  ComesBy rules false blocks ask before after = after ≡ before

  -- the same, by what the response says
  abbrev pub Comes : Rules T Q → Reply → Ask → Option (RelationState T Q) → Option (RelationState T Q) → Type 0
  Comes rules reply ask before after = ComesBy rules reply.done reply.blocks ask before after

  -- The controller hears this in a frame, or nothing: a frame may go to another station or be too long to be read.
  abbrev pub SaysAtMost : Rules T Q → ToController → List ℕ → Type 0
  SaysAtMost rules heard frame = (rules.to_controller frame ≡ Nothing) ⊎ (rules.to_controller frame ≡ heard)

  -- ApplicationReady, while the relation waits for its response
  pub record IsReady (rules : Rules T Q) (after : Device T Q) (frame : List ℕ) : Type 0 where
    pub to_device : rules.to_device frame ≡ Idle
    pub to_controller : SaysAtMost rules Readies frame
    pub link : RelationState T Q
    pub has : after.link ≡ Some link
    pub awaits : link.phase ≡ Awaiting

  -- A frame that says nothing of a start-up to either end.
  abbrev pub IsDull : Rules T Q → List ℕ → Type 0
  IsDull rules frame = (rules.to_device frame ≡ Idle) × (rules.to_controller frame ≡ Nothing)

  -- A new call: it is answered, and the response is stored. After a PrmEnd that is accepted, ApplicationReady is sent. What is sent
  -- for a plug says nothing of a start-up. What is asked of the application stays, or ends with the relation.
  pub record IsAnswered (rules : Rules T Q) (sequence : ℕ) (ask : Ask) (before after : Device T Q) (frames : List (List ℕ)) : Type 0 where
    pub new : IsNew sequence before.kept
    pub reply : Reply
    pub frame : List ℕ
    pub keeps : after.kept ≡ Some (record { sequence = sequence; frame = frame })
    pub does : Comes rules reply ask before.link after.link
    pub to_device : rules.to_device frame ≡ Idle
    pub to_controller : SaysAtMost rules (Answers sequence reply) frame
    pub others : List (List ℕ)
    pub sent : frames ≡ frame ∷ others
    pub readies : AllByRecursion (λ frame. IsDull rules frame ⊎ IsReady rules after frame) others
    pub asked : IsSameOrNone before.asked after.asked

  -- A new call of the controller's application for a record that the application of the device answers: it is asked, and nothing is
  -- sent.
  pub record IsQuestion (sequence : ℕ) (ask : Ask) (before after : Device T Q) (frames : List (List ℕ)) : Type 0 where
    pub accesses : ask ≡ Accesses
    pub new : IsNew sequence before.kept
    pub free : before.asked ≡ None
    pub becomes : after ≡ record before { asked = Some sequence }
    pub silent : frames ≡ []

  -- The call that was answered last: the same frame is sent again.
  pub record IsAgain (sequence : ℕ) (before after : Device T Q) (frames : List (List ℕ)) : Type 0 where
    pub kept : Kept
    pub has : before.kept ≡ Some kept
    pub same : kept.sequence ≡ sequence
    pub unchanged : after ≡ before
    pub sent : frames ≡ kept.frame ∷ []

  -- nothing happens
  abbrev pub Rests : Device T Q → Device T Q → List (List ℕ) → Type 0
  Rests before after frames = (after ≡ before) × (frames ≡ [])

  -- the response that confirms ApplicationReady, while the relation waits for it: nothing of a start-up is sent, and the relation
  -- keeps the records that it accepted, or some of them if something was pulled or plugged before
  pub record IsConfirmed (rules : Rules T Q) (before after : Device T Q) (frames : List (List ℕ)) : Type 0 where
    pub link : RelationState T Q
    pub was : before.link ≡ Some link
    pub awaits : link.phase ≡ Awaiting
    pub values : List T
    pub part : IsPart values link.taken
    pub becomes : after ≡ record before { link = Some (record link { phase = Exchanging; taken = values }) }
    pub dull : AllByRecursion (IsDull rules) frames

  -- Anything else: the relation stays as it is, forgets records while data is exchanged, or ends, and the frames say nothing of a
  -- start-up except ApplicationReady. What is asked of the application stays, or is dropped.
  pub record GoesBy (rules : Rules T Q) (before after : Device T Q) (frames : List (List ℕ)) : Type 0 where
    pub keeps : after.kept ≡ before.kept
    pub link : (after.link ≡ before.link) ⊎ ((after.link ≡ None) ⊎ Forgets before.link after.link)
    pub sent : AllByRecursion (λ frame. IsDull rules frame ⊎ IsReady rules after frame) frames
    pub asked : IsSameOrNone before.asked after.asked

  -- The call that is asked is answered, by the application or as it gave no answer in time: the response is sent after what else is
  -- sent then, and stored.
  pub record Replies (rules : Rules T Q) (before after : Device T Q) (frames : List (List ℕ)) : Type 0 where
    pub sequence : ℕ
    pub asked : before.asked ≡ Some sequence
    pub settled : after.asked ≡ None
    pub new : IsNew sequence before.kept
    pub reply : Reply
    pub frame : List ℕ
    pub keeps : after.kept ≡ Some (record { sequence = sequence; frame = frame })
    pub link : (after.link ≡ before.link) ⊎ ((after.link ≡ None) ⊎ Forgets before.link after.link)
    pub to_device : rules.to_device frame ≡ Idle
    pub to_controller : SaysAtMost rules (Answers sequence reply) frame
    pub others : List (List ℕ)
    pub dull : AllByRecursion (λ frame. IsDull rules frame ⊎ IsReady rules after frame) others
    pub sent : frames ≡ others ++ frame ∷ []

  -- a step of the device that hears this: a call that is older than the last, that is asked already, or that arrives while the
  -- device has no address, is dropped; a response that confirms nothing says nothing of a start-up
  abbrev pub DeviceSteps : Rules T Q → ToDevice → Device T Q → Device T Q → List (List ℕ) → Type 0
  DeviceSteps rules (Call sequence ask) before after frames =
      IsAnswered rules sequence ask before after frames
      ⊎ (IsAgain sequence before after frames ⊎ (Rests before after frames ⊎ IsQuestion sequence ask before after frames))
  DeviceSteps rules Confirms before after frames = IsConfirmed rules before after frames ⊎ GoesBy rules before after frames
  DeviceSteps rules Idle before after frames = GoesBy rules before after frames ⊎ Replies rules before after frames

  -- ---- the controller

  -- A frame of the controller, in which it hears nothing of a start-up itself. While data is exchanged a call of the
  -- application may say anything.
  abbrev pub IsSaid : Rules T Q → Controller → List ℕ → Type 0
  IsSaid rules now frame = (rules.to_controller frame ≡ Nothing) × (SaysToDevice rules.count now (rules.to_device frame) ⊎ (now ≡ Exchanges))

  -- a step of the controller that hears this
  pub record ControllerSteps (rules : Rules T Q) (heard : ToController) (before after : Controller) (frames : List (List ℕ)) : Type 0 where
    pub moves : Moves rules.grants rules.skips rules.count heard before after
    pub sent : AllByRecursion (IsSaid rules after) frames

  -- ---- both

  -- the device steps, and nothing else changes
  pub record StepsAtDevice (rules : Rules T Q) (heard : ToDevice) (before after : World T Q) : Type 0 where
    pub frames : List (List ℕ)
    pub steps : DeviceSteps rules heard before.device after.device frames
    pub controller : after.controller ≡ before.controller
    pub behind : after.sent ≡ before.sent ++ frames

  -- the controller steps, and nothing else changes
  pub record StepsAtController (rules : Rules T Q) (heard : ToController) (before after : World T Q) : Type 0 where
    pub frames : List (List ℕ)
    pub steps : ControllerSteps rules heard before.controller after.controller frames
    pub device : after.device ≡ before.device
    pub behind : after.sent ≡ before.sent ++ frames

  -- a frame is delivered to the device, if there is one with this number
  pub record ComesToDeviceAs (rules : Rules T Q) (number : ℕ) (before after : World T Q) : Type 0 where
    pub frame : List ℕ
    pub there : slice_get before.sent number ≡ Some frame
    pub steps : StepsAtDevice rules (rules.to_device frame) before after

  -- a frame is delivered to the controller, if there is one with this number
  pub record ComesToControllerAs (rules : Rules T Q) (number : ℕ) (before after : World T Q) : Type 0 where
    pub frame : List ℕ
    pub there : slice_get before.sent number ≡ Some frame
    pub steps : StepsAtController rules (rules.to_controller frame) before after

  -- a move, which may be skipped
  abbrev pub Steps : Rules T Q → World T Q → Move → World T Q → Type 0
  Steps rules before (ComesToDevice number) after = (after ≡ before) ⊎ ComesToDeviceAs rules number before after
  Steps rules before (ComesToController number) after = (after ≡ before) ⊎ ComesToControllerAs rules number before after
  Steps rules before AtDevice after = (after ≡ before) ⊎ StepsAtDevice rules Idle before after
  Steps rules before AtController after = (after ≡ before) ⊎ StepsAtController rules Nothing before after
