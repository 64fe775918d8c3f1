-- The name for the station at a place, and what that station answers.
use Rattle.std.specs.Prelude.{◌≡◌, ◌==◌, ◌&&◌, ℕ, Bool, true, false, List, [], ◌∷◌, nat_eq, Option, Some, None, Result, Ok, Err, if◌then◌else◌}
use Rattle.std.specs.Cmp.Lexicographic.{pointwise}
use Rattle.arrayvec.specs.ArrayVec.{ArrayVec as Items}
use Rattle.pn_values.specs.declared.mac.Mac.{Mac}
use Rattle.dcp_core.specs.declared.request.Service.{Service}
use Rattle.dcp_core.specs.declared.request.Service.TheVariants.{Get, Set, Identify}
use Rattle.dcp_core.specs.Answer.{number_of}
use Rattle.dcp_core.specs.Response.{Answered, AnsweredBlock, reported, came_out}
use Rattle.plans.specs.declared.parts.Controller.{Controller}
use Rattle.controller_messages.specs.Heard.{Heard, Answers, heard_of}
use Rattle.commissioning.specs.declared.naming.Unnamed.{Unnamed}
use Rattle.commissioning.specs.declared.naming.Unnamed.TheVariants as why
use Rattle.commissioning.specs.Asked.{IsHeardAs, name_asked}
use Rattle.commissioning.specs.Place.{Place, Nobody, One, Several}

-- Why no station at a place gets a name: only a station that is alone and has none gets one.
abbrev pub why_unnamed : Place → Option Unnamed
why_unnamed Nobody = Some why.Nobody
why_unnamed (Several first other) = Some why.Several
why_unnamed (One mac None) = Some why.Untold
why_unnamed (One mac (Some [])) = None
why_unnamed (One mac (Some (letter ∷ letters))) = Some why.Named

-- A Set with this number of this name is sent from this tool, to the only station that answered, whose answer has an empty name; or why none
-- is sent.
abbrev pub IsNaming : Place → Mac → ℕ → List ℕ → Result (Items ℕ) Unnamed → Type 0
IsNaming (One mac (Some [])) source xid name (Ok frame) = IsHeardAs frame.items source (record { octets = mac }) (name_asked xid name)
IsNaming place source xid name (Ok frame) = ⊥
IsNaming place source xid name (Err why) = why_unnamed place ≡ Some why

-- ---- its answer

-- Whether a DCP answer belongs to a Set.
abbrev pub is_set : Service → Bool
is_set Get = false
is_set Set = true
is_set Identify = false

-- Whether an answer is one to the Set of a name, whose number is this.
abbrev pub is_renamed : ℕ → Answered → Bool
is_renamed xid answer = is_set answer.service && answer.xid == xid

-- The BlockError that a block reports. A block with a value reports none.
abbrev pub error_of_block : AnsweredBlock → Option ℕ
error_of_block (reported kind info value) = None
error_of_block (came_out kind outcome) = Some (number_of outcome)

-- The BlockError of a block, or that of the blocks after it if it reports none.
abbrev pub told_first : Option ℕ → ℕ → ℕ
told_first (Some error) rest = error
told_first None rest = rest

-- The first BlockError; 1, as for an option that is not supported, if no block reports one.
abbrev pub error_in : List AnsweredBlock → ℕ
error_in [] = 1
error_in (block ∷ blocks) = told_first (error_of_block block) (error_in blocks)

-- The BlockError of an answer: a service that is not supported counts as an option that is not.
abbrev pub error_of : Answered → ℕ
error_of answer = if answer.is_supported then error_in answer.blocks else 1

-- What an answer of a station says of the Set with this number: only the station at the place answers it.
abbrev pub told_by : ℕ → Place → List ℕ → Answered → Option ℕ
told_by xid (One mac name) source answer = if pointwise nat_eq mac source && is_renamed xid answer then Some (error_of answer) else None
told_by xid Nobody source answer = None
told_by xid (Several first other) source answer = None

-- The BlockError that a message reports of the Set of a name, if it is the answer to it.
abbrev pub named_heard : ℕ → Place → Heard → Option ℕ
named_heard xid place (Answers source answer) = told_by xid place source.octets answer
named_heard xid place heard = None

-- The BlockError that a frame reports of the Set of a name, if it is the answer to it.
abbrev pub named_by : Controller → ℕ → Place → List ℕ → Option ℕ
named_by tool xid place octets = named_heard xid place (heard_of tool octets)
