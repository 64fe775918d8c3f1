-- Who is found by a search answered its Identify.
use Rattle.std.proofs.Common.{◌≡◌, ◌≢◌, ◌⊎◌, inl, inr, ◌&&◌, ◌==◌, ◌++◌, ℕ, Bool, true, false, List, [], ◌∷◌, map, Option, refl, sym, subst, ◌∙◌}
use Rattle.std.specs.Prelude.{nat_eq, if◌then◌else◌}
use Rattle.std.specs.Cmp.Lexicographic.{pointwise}
use Rattle.std.proofs.lemmas.Bool.{eqb-true, ne_eqb}
use Rattle.pn_values.specs.declared.mac.Mac.{Mac}
use Rattle.dcp_core.specs.Response.{Answered}
use Rattle.plans.specs.declared.parts.Controller.{Controller}
use Rattle.controller_messages.specs.Heard.{Heard, Nothing, Answers, Responds, Refuses, Calls, Cyclic, Alarms, heard_of}
use Rattle.commissioning.specs.Place.{AnsweredIn, Asks, Doing, Hears, IsAnswerOf, Nobody, One, Place, Searching, Several, after_doing, after_doings, after_frame, after_frames, after_heard, is_found, is_identify, met, told_name}

-- A place with one station, this one.
abbrev IsOne : List ℕ → Place → Type 0
IsOne mac place = (name : Option (List ℕ)) × (place ≡ One mac name)

-- If an answer leaves one station, it came from that one.
by_same : (same : Bool) (first source : List ℕ) (told : Option (List ℕ)) (mac : List ℕ) (name : Option (List ℕ))
    → (if same then One source told else Several first source) ≡ One mac name → source ≡ mac
by_same true first source told mac name e = cc
by_same false first source told mac name e = absurd cc

met_one : (place : Place) (source : List ℕ) (told : Option (List ℕ)) (mac : List ℕ) (name : Option (List ℕ)) → met place source told ≡ One mac name → source ≡ mac
met_one Nobody source told mac name e = cc
met_one (One first before) source told mac name e = by_same (pointwise nat_eq first source) first source _ mac name e
met_one (Several first other) source told mac name e = absurd cc

module _ (tool : Controller) (xid : ℕ) where
  by_found : (found : Bool) (source : Mac) (answer : Answered) (told : Option (List ℕ)) (place : Place) (mac frame : List ℕ) (name : Option (List ℕ))
      → is_found xid answer ≡ found → heard_of tool frame ≡ Answers source answer
      → (if found then met place source.octets told else place) ≡ One mac name → IsOne mac place ⊎ IsAnswerOf tool xid mac frame
  by_found true source answer told place mac frame name found heard e =
      inr (record { source = source; answer = answer; heard = heard; from = met_one place source.octets told mac name e; found = found })
  by_found false source answer told place mac frame name found heard e = inl (name, e)

  by_heard : (heard : Heard) (place : Place) (mac frame : List ℕ) (name : Option (List ℕ)) → heard_of tool frame ≡ heard → after_heard xid place heard ≡ One mac name
      → IsOne mac place ⊎ IsAnswerOf tool xid mac frame
  by_heard (Answers source answer) place mac frame name heard e = by_found (is_found xid answer) source answer _ place mac frame name refl heard e
  by_heard Nothing place mac frame name heard e = inl (name, e)
  by_heard (Responds response) place mac frame name heard e = inl (name, e)
  by_heard (Refuses refusal) place mac frame name heard e = inl (name, e)
  by_heard (Calls caller call) place mac frame name heard e = inl (name, e)
  by_heard (Cyclic source frame_id body) place mac frame name heard e = inl (name, e)
  by_heard (Alarms source under header notice) place mac frame name heard e = inl (name, e)

  by_first : (frame : List ℕ) (frames : List (List ℕ)) (place : Place) (mac : List ℕ)
      → IsOne mac (after_frame tool xid place frame) ⊎ AnsweredIn tool xid mac frames → IsOne mac place ⊎ AnsweredIn tool xid mac (frame ∷ frames)
  by_first frame frames place mac (inr later) = inr (inr later)
  by_first frame frames place mac (inl now) = by_now (by_heard (heard_of tool frame) place mac frame now.0 refl now.1)
    where
      by_now : IsOne mac place ⊎ IsAnswerOf tool xid mac frame → IsOne mac place ⊎ AnsweredIn tool xid mac (frame ∷ frames)
      by_now (inl before) = inl before
      by_now (inr answer) = inr (inl answer)

  -- Who is found after frames was found before them, or answered in one of them.
  found_in : (frames : List (List ℕ)) (place : Place) (mac : List ℕ) (name : Option (List ℕ)) → after_frames tool xid place frames ≡ One mac name
      → IsOne mac place ⊎ AnsweredIn tool xid mac frames
  found_in [] place mac name e = inl (name, e)
  found_in (frame ∷ frames) place mac name e = by_first frame frames place mac (found_in frames (after_frame tool xid place frame) mac name e)

  -- The frames of one search.
  heard_all : (frames : List (List ℕ)) (place : Place) → (after_doings tool (xid, place) (map Hears frames)).1 ≡ after_frames tool xid place frames
  heard_all [] place = refl
  heard_all (frame ∷ frames) place = heard_all frames (after_frame tool xid place frame)

  nobody_before : (frames : List (List ℕ)) (mac : List ℕ) → IsOne mac Nobody ⊎ AnsweredIn tool xid mac frames → AnsweredIn tool xid mac frames
  nobody_before frames mac (inl one) = absurd (nobody one.0 one.1)
    where
      nobody : (name : Option (List ℕ)) → Nobody ≡ One mac name → ⊥
      nobody name e = cc
  nobody_before frames mac (inr answered) = answered

  -- Whatever a tool did before its Identify.
  pub found_last : (before : List Doing) (search : Searching) (frames : List (List ℕ)) (mac : List ℕ) (name : Option (List ℕ))
      → (after_doings tool search (before ++ Asks xid ∷ map Hears frames)).1 ≡ One mac name → AnsweredIn tool xid mac frames
  found_last [] search frames mac name e = nobody_before frames mac (found_in frames Nobody mac name (sym (heard_all frames Nobody) ∙ e))
  found_last (one ∷ more) search frames mac name e = found_last more (after_doing tool search one) frames mac name e

  -- An answer that has another number.
  by_number : (a b : Bool) (n other : ℕ) → (a && b && n == other) ≡ true → other ≢ xid → (a && b && n == xid) ≡ false
  by_number true true n other found differs = ne_eqb n xid (λ e. differs (sym (eqb-true n other found) ∙ e))
  by_number true false n other found differs = absurd cc
  by_number false b n other found differs = absurd cc

  not_found : (other : ℕ) (answer : Answered) → is_found other answer ≡ true → other ≢ xid → is_found xid answer ≡ false
  not_found other answer found differs = by_number (is_identify answer.service) answer.is_supported answer.xid other found differs

  pub late : (other : ℕ) (place : Place) (mac frame : List ℕ) → IsAnswerOf tool other mac frame → other ≢ xid → after_frame tool xid place frame ≡ place
  late other place mac frame of differs =
      subst (λ (heard : Heard). after_heard xid place heard ≡ place) (sym of.heard)
      (subst (λ (found : Bool). (if found then met place of.source.octets (told_name of.answer) else place) ≡ place) (sym (not_found other of.answer of.found differs)) refl)
