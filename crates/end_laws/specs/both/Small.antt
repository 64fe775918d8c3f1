-- Both ends of a start-up as small machines: their state, and what they hear of each other, without the data that they
-- exchange.
use Rattle.std.specs.Prelude.{ℕ, Bool, List, Option}
use Rattle.rpc_core.specs.Response.{Answered, is_done}

-- the request of a call: a relation, that the records of the Write with this number are accepted, the end of the
-- parameters, the end of the relation, or something else while data is exchanged: a record that the application reads or
-- writes, or the parameters after a plug
pub data Ask : Type 0 where
  Connects : Ask
  Writes : (number : ℕ) → Ask
  Parameterized : Ask
  Releases : Ask
  Accesses : Ask

-- what octets mean to the device: a call with this sequence number, the response that confirms ApplicationReady, or
-- neither
pub data ToDevice : Type 0 where
  Call : (sequence : ℕ) → (ask : Ask) → ToDevice
  Confirms : ToDevice
  Idle : ToDevice

-- what a response says: whether its status is positive, and its blocks
pub record Reply : Type 0 where
  pub done : Bool
  pub blocks : List ℕ

-- that of a response
abbrev pub reply_of : Answered → Reply
reply_of response = record { done = is_done response.status; blocks = response.blocks }

-- what octets mean to the controller: the response to its call with this sequence number, and what it says;
-- ApplicationReady; or neither
pub data ToController : Type 0 where
  Answers : (sequence : ℕ) → (reply : Reply) → ToController
  Readies : ToController
  Nothing : ToController

-- A start-up: the request of its Connect, the number of its Writes, the records that each of them carries, in order,
-- whether a Write with a sequence number and blocks is one of these, whether the blocks of a positive response to the call of
-- a stage say that each of its records was written, whether it goes on after a record that was refused, and what each end
-- hears in octets.
pub record Rules (T Q : Type 0) : Type 0 where
  pub request : Q
  pub count : ℕ
  pub group : ℕ → List T
  pub is_planned : ℕ → List ℕ → Bool
  pub grants : ℕ → List ℕ → Bool
  pub skips : Bool
  pub to_device : List ℕ → ToDevice
  pub to_controller : List ℕ → ToController

-- the phase of a relation
pub data Phase : Type 0 where
  Started : Phase
  Awaiting : Phase
  Exchanging : Phase

-- a relation: the request of its Connect, and the records that it accepted
pub record RelationState (T Q : Type 0) : Type 0 where
  pub phase : Phase
  pub request : Q
  pub taken : List T

-- the last response: to the call with this sequence number
pub record Kept : Type 0 where
  pub sequence : ℕ
  pub frame : List ℕ

-- a device: its last response, its relation, if there is one, and the sequence number of the call that is asked of its application,
-- if one is
pub record Device (T Q : Type 0) : Type 0 where
  pub kept : Option Kept
  pub link : Option (RelationState T Q)
  pub asked : Option ℕ

-- A controller: it has not asked for the relation yet; it makes the call of this stage, which is 0 for Connect, and one more
-- for each Write and for PrmEnd, after this many calls were refused and tried again: its sequence number is the sum; it
-- waits for ApplicationReady; it exchanges data; or its relation has ended.
pub data Controller : Type 0 where
  Seeking : Controller
  Asking : (stage tries : ℕ) → Controller
  Waiting : Controller
  Exchanges : Controller
  Ended : Controller

-- both ends, and the octets of each frame that either end ever sent, in order
pub record World (T Q : Type 0) : Type 0 where
  pub device : Device T Q
  pub controller : Controller
  pub sent : List (List ℕ)

-- What may happen: the frame with this number is delivered to the device or the controller, any number of times and in
-- any order, or something happens at one end only.
pub data Move : Type 0 where
  ComesToDevice : (number : ℕ) → Move
  ComesToController : (number : ℕ) → Move
  AtDevice : Move
  AtController : Move

-- a move of the device: a frame is delivered to it, or something happens at the device only
abbrev pub IsByDevice : Move → Type 0
IsByDevice (ComesToDevice number) = Unit {0}
IsByDevice (ComesToController number) = ⊥
IsByDevice AtDevice = Unit {0}
IsByDevice AtController = ⊥

-- a move of the controller
abbrev pub IsByController : Move → Type 0
IsByController (ComesToDevice number) = ⊥
IsByController (ComesToController number) = Unit {0}
IsByController AtDevice = ⊥
IsByController AtController = Unit {0}
