-- Who is at a place: the stations that answered to a name by the place.
use Rattle.std.specs.Prelude.{◌≡◌, ◌≤◌, ◌⊎◌, ◌==◌, ◌&&◌, ℕ, Bool, true, false, List, [], ◌∷◌, nat_eq, take, Option, Some, None, option_map, if◌then◌else◌}
use Rattle.std.specs.List.{AllByRecursion}
use Rattle.std.specs.Cmp.Lexicographic.{pointwise}
use Rattle.pn_values.specs.declared.mac.Mac.{Mac}
use Rattle.dcp_core.specs.declared.kind.Kind.TheVariants.{NameOfStation}
use Rattle.dcp_core.specs.declared.request.Service.{Service}
use Rattle.dcp_core.specs.declared.request.Service.TheVariants.{Get, Set, Identify}
use Rattle.dcp_core.specs.Answered.{value_among}
use Rattle.dcp_core.specs.Response.{Answered}
use Rattle.plans.specs.declared.parts.Controller.{Controller}
use Rattle.controller_messages.specs.Heard.{Heard, Answers, heard_of}
use Rattle.commissioning.specs.declared.search.Search.{Search}

-- Nobody answered; one station, with the name in its last answer that has one (it is empty if the station has none); or more
-- than one.
pub data Place : Type 0 where
  Nobody : Place
  One : (mac : List ℕ) → (name : Option (List ℕ)) → Place
  Several : (first other : List ℕ) → Place

-- The name in the memory of a host.
abbrev pub name_of : Search → Option (List ℕ)
name_of search = if search.is_told == 1 then Some (take search.length search.name) else None

-- Who answered a search: nobody, one station, or several.
abbrev pub place_of : Search → Place
place_of search =
    if search.stations == 0 then Nobody
    else (if search.stations == 1 then One search.first (name_of search) else Several search.first search.other)

-- What a host finds in a search: it counts to 2, and the name lies in its room. Of a station whose answers have no name, and of nobody, it finds
-- none.
pub record IsTidy (search : Search) : Type 0 where
  pub counted : search.stations ≤ 2
  pub flag : search.is_told ≤ 1
  pub short : search.length ≤ 240
  pub untold : search.is_told ≡ 0 → search.length ≡ 0
  pub nobody : search.stations ≡ 0 → search.is_told ≡ 0

-- After the answer of a station with this name in it.
abbrev pub met : Place → List ℕ → Option (List ℕ) → Place
met Nobody mac name = One mac (option_map (take 240) name)
met (One first before) mac name = if pointwise nat_eq first mac then One mac (option_map (take 240) name) else Several first mac
met (Several first other) mac name = Several first other

-- Whether a DCP answer belongs to an Identify.
abbrev pub is_identify : Service → Bool
is_identify Get = false
is_identify Set = false
is_identify Identify = true

-- Whether an answer is one to the Identify of a search, whose number is this.
abbrev pub is_found : ℕ → Answered → Bool
is_found xid answer = is_identify answer.service && answer.is_supported && answer.xid == xid

-- The name that an answer tells.
abbrev pub told_name : Answered → Option (List ℕ)
told_name answer = value_among NameOfStation answer.blocks

-- After a frame: only an answer to the Identify with this number counts.
abbrev pub after_heard : ℕ → Place → Heard → Place
after_heard xid place (Answers source answer) = if is_found xid answer then met place source.octets (told_name answer) else place
after_heard xid place heard = place

-- Who answered a search after one more frame.
abbrev pub after_frame : Controller → ℕ → Place → List ℕ → Place
after_frame tool xid place octets = after_heard xid place (heard_of tool octets)

-- ---- over all answers

-- After these answers.
abbrev pub after_all : Place → List (List ℕ × Option (List ℕ)) → Place
after_all place [] = place
after_all place (answer ∷ answers) = after_all (met place answer.0 answer.1) answers

-- Each answer came from this station.
abbrev pub AreFrom : List ℕ → List (List ℕ × Option (List ℕ)) → Type 0
AreFrom mac answers = AllByRecursion (λ answer. answer.0 ≡ mac) answers

-- the name in the last answer, after one with this name
abbrev pub last_told : Option (List ℕ) → List (List ℕ × Option (List ℕ)) → Option (List ℕ)
last_told name [] = name
last_told name (answer ∷ answers) = last_told (option_map (take 240) answer.1) answers

-- ---- over all frames

-- A frame brings an answer to the Identify with this number, from this station.
pub record IsAnswerOf (tool : Controller) (xid : ℕ) (mac frame : List ℕ) : Type 0 where
  pub source : Mac
  pub answer : Answered
  pub heard : heard_of tool frame ≡ Answers source answer
  pub from : source.octets ≡ mac
  pub found : is_found xid answer ≡ true

-- After these frames.
abbrev pub after_frames : Controller → ℕ → Place → List (List ℕ) → Place
after_frames tool xid place [] = place
after_frames tool xid place (frame ∷ frames) = after_frames tool xid (after_frame tool xid place frame) frames

-- One of the frames brings an answer to the Identify with this number, from this station.
abbrev pub AnsweredIn : Controller → ℕ → List ℕ → List (List ℕ) → Type 0
AnsweredIn tool xid mac [] = ⊥
AnsweredIn tool xid mac (frame ∷ frames) = IsAnswerOf tool xid mac frame ⊎ AnsweredIn tool xid mac frames

-- ---- searches one after another

-- What a tool does: it asks by the Identify with this number, or hears a frame.
pub data Doing : Type 0 where
  Asks : (xid : ℕ) → Doing
  Hears : (frame : List ℕ) → Doing

-- The number of the search, and who is at its place.
abbrev pub Searching : Type 0
Searching = ℕ × Place

-- After one thing that a tool does: an Identify begins a search, and a frame counts by the number of the search.
abbrev pub after_doing : Controller → Searching → Doing → Searching
after_doing tool search (Asks xid) = (xid, Nobody)
after_doing tool search (Hears frame) = (search.0, after_frame tool search.0 search.1 frame)

-- After all of these.
abbrev pub after_doings : Controller → Searching → List Doing → Searching
after_doings tool search [] = search
after_doings tool search (one ∷ more) = after_doings tool (after_doing tool search one) more
