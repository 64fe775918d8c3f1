-- The invariant of both ends at each point of a start-up: until the controller exchanges data, and from then on. Facts
-- about earlier points are parameters: `Was`: the controller exchanged data. `Past`: a frame was delivered to the device
-- since. `Good`: the device sent this ApplicationReady. `Handed`: the controller received one.
use Rattle.std.proofs.Common.{◌≡◌, ◌⊎◌, ◌+◌, ◌<◌, ◌≤◌, ◌&&◌, ℕ, zero, suc, true, false, List, length, Option, Some, None}
use Rattle.std.specs.List.{AllByRecursion}
use Rattle.end_laws.specs.both.Small.{Ask, Releases, ToDevice, Call, Confirms, Idle, Reply, ToController, Answers, Readies, Nothing, Rules, Started, Exchanging, RelationState, Kept, Controller, Seeking, Asking, Exchanges, World}
use Rattle.end_laws.specs.both.Steps.{IsAsked, IsNew, IsPart, records_before, records_of}

-- there is a response
abbrev pub IsSomeKept : Option Kept → Type 0
IsSomeKept None = ⊥
IsSomeKept (Some kept) = Unit {0}

-- a call with this sequence number is no longer new
abbrev pub IsOld : ℕ → Option Kept → Type 0
IsOld sequence None = ⊥
IsOld sequence (Some kept) = sequence ≤ kept.sequence

-- the call that the controller makes, or made last: its stage and its sequence number
pub record At : Type 0 where
  pub stage : ℕ
  pub number : ℕ

-- the stage before
abbrev pub earlier : ℕ → ℕ
earlier zero = zero
earlier (suc stage) = stage

-- a controller makes this call
abbrev pub IsCurrent : Controller → At → Type 0
IsCurrent Seeking at = (at.stage ≡ 0) × (at.number ≡ 0)
IsCurrent (Asking stage tries) at = (at.stage ≡ stage) × (at.number ≡ stage + tries)
IsCurrent other at = Unit {0}

module _ {T Q : Type 0} where
  -- at least this many records were accepted, or the relation has ended
  abbrev pub TookIn : ℕ → Option (RelationState T Q) → Type 0
  TookIn count None = Unit {0}
  TookIn count (Some link) = count ≤ length link.taken

  -- The device accepted the Connect and as many records as this many Writes carry. This stays true.
  pub record Took (rules : Rules T Q) (count : ℕ) (kept : Option Kept) (link : Option (RelationState T Q)) : Type 0 where
    pub called : IsSomeKept kept
    pub taken : TookIn (length (records_before rules count)) link

  -- after PrmEnd no Write is new, and all records were accepted before, unless records may be skipped
  abbrev pub IsPast : Rules T Q → ℕ → RelationState T Q → Type 0
  IsPast rules stage link = (link.phase ≡ Started) ⊎ ((rules.count < stage) × (rules.skips ≡ false → link.taken ≡ records_of rules))

  -- These are some of the records of the first Writes, of which there are at most this many: in order, each once.
  pub record HasPart (rules : Rules T Q) (stage : ℕ) (taken : List T) : Type 0 where
    pub number : ℕ
    pub before : number ≤ stage
    pub planned : number ≤ rules.count
    pub part : IsPart taken (records_before rules number)

  -- The relation, after the call of a stage: it accepted no more records than the Writes up to that one carry. If it
  -- accepted as many, it accepted all of them, in order.
  pub record IsHeld (rules : Rules T Q) (stage : ℕ) (link : RelationState T Q) : Type 0 where
    pub few : length link.taken ≤ length (records_before rules stage)
    pub made : link.request ≡ rules.request
    pub whole : length (records_before rules stage) ≤ length link.taken → link.taken ≡ records_before rules stage
    pub past : IsPast rules stage link
    pub part : HasPart rules stage link.taken

  abbrev pub IsHeldIn : Rules T Q → ℕ → Option (RelationState T Q) → Type 0
  IsHeldIn rules stage None = Unit {0}
  IsHeldIn rules stage (Some link) = IsHeld rules stage link

  -- without a response there is no relation; before the current call is answered, the relation is that after the stage before
  abbrev pub HoldsAt : Rules T Q → At → Option Kept → Option (RelationState T Q) → Type 0
  HoldsAt rules at None link = link ≡ None
  HoldsAt rules at (Some kept) link = IsHeldIn rules at.stage link × (kept.sequence < at.number → IsHeldIn rules (earlier at.stage) link)

  -- what was accepted before the call of a stage is made, unless records may be skipped
  abbrev pub Behind : Rules T Q → ℕ → Option Kept → Option (RelationState T Q) → Type 0
  Behind rules zero kept link = Unit {0}
  Behind rules (suc count) kept link = rules.skips ≡ false → Took rules count kept link

  -- a call that was sent at some time: if it is still new, it is the current one
  abbrev pub IsCall : Rules T Q → At → ℕ → Ask → Option Kept → Type 0
  IsCall rules at sequence ask kept = (ask ≡ Releases) ⊎ (IsNew sequence kept → (sequence ≡ at.number) × IsAsked rules.count at.stage ask)

  -- what the device may hear in a frame
  abbrev pub TellsDevice : Rules T Q → At → Option Kept → ToDevice → Type 0
  TellsDevice rules at kept (Call sequence ask) = IsCall rules at sequence ask kept
  TellsDevice rules at kept Confirms = ⊥
  TellsDevice rules at kept Idle = Unit {0}

  -- What the response to the call of a stage reports: if the call was refused, it changed nothing; if it says that all went
  -- well, as many records were accepted, unless records may be skipped.
  pub record Reported (rules : Rules T Q) (stage : ℕ) (reply : Reply) (kept : Option Kept) (link : Option (RelationState T Q)) : Type 0 where
    pub refused : reply.done ≡ false → IsHeldIn rules (earlier stage) link
    pub well : (reply.done && rules.grants stage reply.blocks) ≡ true → stage ≤ rules.count → rules.skips ≡ false → Took rules stage kept link

  -- A response: its call is not new any more. It is that to the current call; or to a later one, a Release, which ended the relation
  -- if it was accepted.
  pub record IsResponse (rules : Rules T Q) (at : At) (kept : Option Kept) (link : Option (RelationState T Q)) (sequence : ℕ) (reply : Reply) : Type 0 where
    pub old : IsOld sequence kept
    pub now : sequence ≡ at.number → Reported rules at.stage reply kept link
    pub later : at.number < sequence → reply.done ≡ true → link ≡ None

  -- what the controller may hear in a frame
  abbrev pub TellsController : Rules T Q → (List ℕ → Type 0) → At → Option Kept → Option (RelationState T Q) → List ℕ → ToController → Type 0
  TellsController rules Good at kept link frame (Answers sequence reply) = IsResponse rules at kept link sequence reply
  TellsController rules Good at kept link frame Readies = Good frame
  TellsController rules Good at kept link frame Nothing = Unit {0}

  -- the invariant of each frame that was ever sent
  pub record IsFine (rules : Rules T Q) (Good : List ℕ → Type 0) (at : At) (kept : Option Kept) (link : Option (RelationState T Q)) (frame : List ℕ) : Type 0 where
    pub device : TellsDevice rules at kept (rules.to_device frame)
    pub controller : TellsController rules Good at kept link frame (rules.to_controller frame)

  abbrev pub AreFine : Rules T Q → (List ℕ → Type 0) → At → Option Kept → Option (RelationState T Q) → List (List ℕ) → Type 0
  AreFine rules Good at kept link frames = AllByRecursion (IsFine rules Good at kept link) frames

  -- the same for the frame that is stored
  abbrev pub KeepsFine : Rules T Q → (List ℕ → Type 0) → At → Option Kept → Option (RelationState T Q) → Option Kept → Type 0
  KeepsFine rules Good at kept link None = Unit {0}
  KeepsFine rules Good at kept link (Some answer) = IsFine rules Good at kept link answer.frame

  -- the device does not exchange data
  abbrev pub Unconfirmed : Option (RelationState T Q) → Type 0
  Unconfirmed None = Unit {0}
  Unconfirmed (Some link) = link.phase ≡ Exchanging → ⊥

  -- what is known of the call that the controller makes, or made last
  pub record IsAt (rules : Rules T Q) (at : At) (kept : Option Kept) (link : Option (RelationState T Q)) (now : Controller) : Type 0 where
    pub current : IsCurrent now at
    pub first : at.stage ≡ 0 → at.number ≡ 0
    pub behind : Behind rules at.stage kept link

  -- until the controller exchanges data: no frame is a call of the application, or confirms ApplicationReady, and nothing is asked of
  -- the device's application
  pub record Holds (rules : Rules T Q) (Good : List ℕ → Type 0) (w : World T Q) : Type 0 where
    pub at : At
    pub is_at : IsAt rules at w.device.kept w.device.link w.controller
    pub held : HoldsAt rules at w.device.kept w.device.link
    pub kept : KeepsFine rules Good at w.device.kept w.device.link w.device.kept
    pub sent : AreFine rules Good at w.device.kept w.device.link w.sent
    pub before : w.controller ≡ Exchanges → ⊥
    pub unconfirmed : Unconfirmed w.device.link
    pub unasked : w.device.asked ≡ None

  -- a relation is the one that the Connect asks for
  abbrev pub MadeIn : Rules T Q → Option (RelationState T Q) → Type 0
  MadeIn rules None = Unit {0}
  MadeIn rules (Some link) = link.request ≡ rules.request

  abbrev pub ConfirmedIn : Type 0 → Option (RelationState T Q) → Type 0
  ConfirmedIn Past None = Unit {0}
  ConfirmedIn Past (Some link) = link.phase ≡ Exchanging → Past

  -- from then on
  pub record HoldsSince (rules : Rules T Q) (Was Past Handed : Type 0) (w : World T Q) : Type 0 where
    pub was : Was
    pub handed : Handed
    pub made : MadeIn rules w.device.link
    pub confirmed : ConfirmedIn Past w.device.link
