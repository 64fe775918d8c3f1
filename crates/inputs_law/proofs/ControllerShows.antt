-- What a controller shows, over its events: zeros until it accepts a frame in its relation, then what the last accepted frame brought.
use Rattle.std.proofs.Common.{◌≡◌, ◌⊎◌, inl, inr, ◌==◌, ◌&&◌, ◌||◌, ℕ, Bool, true, false, not, cond, List, [], ◌∷◌, ◌++◌, map, Option, Some, None, Result, refl, sym, ap, subst, ◌∙◌}
use Rattle.std.specs.Prelude.{if◌then◌else◌, is_some, nat_eq}
use Rattle.std.specs.Cmp.Lexicographic.{pointwise}
use Rattle.std.proofs.lemmas.Bool.{and_parts, true≢false}
use Rattle.pn_values.specs.declared.identity.Identity.{Identity}
use Rattle.pn_values.specs.declared.mac.Mac.{Mac}
use Rattle.cyclic_data.specs.Image.{Cell, Shown as Image, cell_of, with_frame}
use Rattle.cyclic_data.specs.declared.tail.CyclicTail.{CyclicTail}
use Rattle.cyclic_data.specs.declared.tail.ShortFrame.{ShortFrame}
use Rattle.cyclic_data.specs.Tail.{cyclic_of}
use Rattle.controller_messages.specs.declared.request.Request.{Request}
use Rattle.controller_messages.specs.declared.request.Request.TheVariants as asks
use Rattle.controller_messages.specs.declared.setup.Setup.{Setup}
use Rattle.controller_messages.specs.Heard.{Nothing, Answers, Responds, Refuses, Calls, Alarms}
use Rattle.controller_messages.specs.Heard.{Cyclic as Comes}
use Rattle.controller_core.specs.declared.stored.event.Event.{Event}
use Rattle.controller_core.specs.declared.stored.state.Cause.{Cause}
use Rattle.controller_core.specs.declared.stored.state.State.{State}
use Rattle.controller_core.specs.declared.stored.state.State.TheVariants.{Looking, Addressing, Ending, Waiting, Exchanging, Ended}
use Rattle.controller_core.specs.stored.State.{Live}
use Rattle.controller_core.specs.Machine.{Turn, after_turn, asks_next, begun_turn, can_begin, plugs_of, stays, turn_of}
use Rattle.controller_core.specs.start_up.Requests.{tried_as}
use Rattle.end_laws.specs.turns.Turns.{Came, Hears, Passes, Gets, GetsStatus, AsksRead, AsksWrite, Halts, IsKind, IsTurn, Kind, came_by, turn_by, turn_for}
use Rattle.end_laws.specs.turns.Turns as kind
use Rattle.end_laws.proofs.TurnsCauses.{turn_by_event}
use Rattle.both_ends.specs.exchange.Shown.{octets_in}
use Rattle.both_ends.proofs.ExchangeOutputsTurns.{KindsSo}
use Rattle.both_ends.proofs.ExchangePlugs.{turn_aside}
use Rattle.inputs_law.specs.Shown.{brought_in, has_accepted, zeros_for}
use Rattle.inputs_law.proofs.ControllerGoes.{GoesBy, IsOver, IsReleasedOnly, Keeps, Takes, came_goes}

-- ---- a controller that ended

no_phase : (P : Type 0) (cause : Cause) (phase other : State) → phase ≡ Ended cause → phase ≡ other → (Ended cause ≡ other → ⊥) → P
no_phase P cause phase other is so apart = absurd (apart (sym is ∙ so))

-- an active request is only a Release
no_request : (asked : Option Request) (request : Request) → IsReleasedOnly asked → asked ≡ Some request → IsReleasedOnly (Some request)
no_request asked request only is = subst (λ (a : Option Request). IsReleasedOnly a) is only

-- only a Write and PrmEnd are tried again
no_tries : (request next : Request) → tried_as request ≡ Some next → IsReleasedOnly (Some request) → ⊥
no_tries (asks.Release sequence) next e only = absurd cc
no_tries other next e only = only

module _ (setup : Setup) (live : Live) (came : Came) (over : IsOver live) where
  not_up : (P : Type 0) → live.stands ≡ true → P
  not_up P up = absurd (true≢false (sym up ∙ over.down))

  same_end : (next : Live) → next.phase ≡ live.phase → next.stands ≡ live.stands → next.asked ≡ live.asked → IsOver next
  same_end next phase stands asked = record {
    phase = (over.phase.0, phase ∙ over.phase.1);
    down = stands ∙ over.down;
    asked = subst (λ (a : Option Request). IsReleasedOnly a) (sym asked) over.asked;
  }

  -- the turn of a place changes nothing of it
  after_over : (could : Bool) (turn : Turn) → IsOver turn.live → IsOver (after_turn setup could turn).live
  after_over could turn ended = by_test (could || not (can_begin turn.live))
    where
      begun : IsOver (begun_turn setup turn.live)
      begun = subst (λ (l : Live). IsOver l) (sym (turn_aside setup turn.live).is) (record { phase = ended.phase; down = ended.down; asked = ended.asked })

      by_test : (b : Bool) → IsOver (cond b turn (record { live = begun_turn setup turn.live; sent = turn.sent ++ plugs_of (begun_turn setup turn.live) })).live
      by_test true = ended
      by_test false = begun

  ended_by : (one : Kind) → IsKind setup live came one → IsOver (turn_by setup live one).live
  ended_by kind.Rests holds = over
  ended_by (kind.Connects source) holds = by_phase holds.seeking
    where
      by_phase : (live.phase ≡ Looking) ⊎ (live.phase ≡ Addressing) → IsOver (turn_by setup live (kind.Connects source)).live
      by_phase (inl so) = no_phase _ over.phase.0 live.phase Looking over.phase.1 so (λ e. absurd cc)
      by_phase (inr so) = no_phase _ over.phase.0 live.phase Addressing over.phase.1 so (λ e. absurd cc)
  ended_by (kind.Addresses source) holds = no_phase _ over.phase.0 live.phase Looking over.phase.1 holds.1 (λ e. absurd cc)
  ended_by (kind.Ends cause refusal refused units) holds = record { phase = (cause, refl); down = refl; asked = tt }
  ended_by (kind.Releases cause refusal refused units) holds = record { phase = (cause, refl); down = refl; asked = tt }
  ended_by (kind.Relates places chosen) holds = absurd (no_request live.asked asks.Connect over.asked holds.0.stood)
  ended_by (kind.Writes number None) holds = absurd (no_request live.asked (asks.Write number) over.asked holds.0.stood)
  ended_by (kind.Writes number (Some tries)) holds = absurd (no_request live.asked (asks.WriteAfter number tries) over.asked holds.0.stood)
  ended_by (kind.Skips number None refused status) holds = absurd (no_request live.asked (asks.Write number) over.asked holds.stood)
  ended_by (kind.Skips number (Some tries) refused status) holds = absurd (no_request live.asked (asks.WriteAfter number tries) over.asked holds.stood)
  ended_by (kind.Tries next status) holds = absurd (no_tries holds.request next holds.tries (subst (λ (a : Option Request). IsReleasedOnly a) holds.stood over.asked))
  ended_by (kind.Waits None) holds = absurd (no_request live.asked asks.PrmEnd over.asked holds.stood)
  ended_by (kind.Waits (Some tries)) holds = absurd (no_request live.asked (asks.PrmEndAfter tries) over.asked holds.stood)
  ended_by kind.Forgets holds = record { phase = over.phase; down = over.down; asked = tt }
  ended_by (kind.Begins caller call block) holds = by_phase holds.0
    where
      by_phase : (live.phase ≡ Ending) ⊎ (live.phase ≡ Waiting) → IsOver (turn_by setup live (kind.Begins caller call block)).live
      by_phase (inl so) = no_phase _ over.phase.0 live.phase Ending over.phase.1 so (λ e. absurd cc)
      by_phase (inr so) = no_phase _ over.phase.0 live.phase Waiting over.phase.1 so (λ e. absurd cc)
  ended_by (kind.Repeats caller call block) holds = no_phase _ over.phase.0 live.phase Exchanging over.phase.1 holds.0 (λ e. absurd cc)
  ended_by (kind.Follows source frame_id body) holds = not_up _ holds
  ended_by (kind.Takes number report) holds = not_up _ holds.0
  ended_by (kind.IsAcked priority number) holds = not_up _ holds.0
  ended_by (kind.Gives slot subslot value) holds = same_end _ refl refl refl
  ended_by (kind.GivesStatus slot subslot is_good) holds = same_end _ refl refl refl
  ended_by (kind.Asks request octets) holds = no_phase _ over.phase.0 live.phase Exchanging over.phase.1 holds.0 (λ e. absurd cc)
  ended_by (kind.IsReplied refusal access) holds =
      after_over (can_begin live) (stays (record live { refusal = refusal; access = access })) (same_end _ refl refl refl)
  ended_by (kind.IsPlugAnswered refusal refused waited places access) holds =
      after_over (can_begin live) (asks_next (record live { refusal = refusal; refused_record = refused; waited = waited; places = places; access = access })) (same_end _ refl refl refl)
  ended_by (kind.IsPlugReadied caller call block) holds = no_phase _ over.phase.0 live.phase Exchanging over.phase.1 holds.0 (λ e. absurd cc)
  ended_by kind.Flows holds = not_up _ holds.1
  ended_by (kind.Breaks reason) holds = not_up _ holds.1
  ended_by kind.Idles holds = same_end _ refl refl refl

  ended_turn : (turn : Turn) → IsTurn setup live came turn → IsOver turn.live
  ended_turn turn is = subst (λ (t : Turn). IsOver t.live) (sym is.is) (ended_by is.kind is.holds)

-- ---- what is shown

cells_again : (octets others : List ℕ) (cells : List Cell) → map (λ (cell : Cell). cell_of octets cell.place) (map (λ (cell : Cell). cell_of others cell.place) cells) ≡ map (λ (cell : Cell). cell_of octets cell.place) cells
cells_again octets others [] = refl
cells_again octets others (cell ∷ cells) = ap (λ (more : List Cell). cell_of octets cell.place ∷ more) (cells_again octets others cells)

frame_again : (octets others : List ℕ) (image : Image) → with_frame octets (with_frame others image) ≡ with_frame octets image
frame_again octets others image = ap (λ (cells : List Cell). let shown : Image = record { data_length = image.data_length; cells = cells } in shown) (cells_again octets others image.cells)

-- what is shown: zeros until a frame was accepted, and after the end of the relation
abbrev pub inputs_of : Setup → Live → Image
inputs_of setup live = if has_accepted live then live.cyclic.taken else zeros_for setup

and_false : (b : Bool) → (b && false) ≡ false
and_false true = refl
and_false false = refl

and_true : (b c : Bool) → b ≡ true → c ≡ true → (b && c) ≡ true
and_true true true e f = refl
and_true true false e f = f
and_true false c e f = e

module _ (setup : Setup) where
  abbrev pub zeros : Image
  zeros = zeros_for setup

  -- no frame was accepted yet
  pub record IsFresh (live : Live) : Type 0 where
    pub last : live.cyclic.hearing.last ≡ None
    pub taken : live.cyclic.taken ≡ zeros

  -- a frame was accepted
  pub record IsFilled (live : Live) : Type 0 where
    pub stands : live.stands ≡ true
    pub counted : is_some live.cyclic.hearing.last ≡ true
    pub size : live.cyclic.taken.data_length ≡ zeros.data_length
    pub places : (octets : List ℕ) → with_frame octets live.cyclic.taken ≡ with_frame octets zeros

  abbrev pub IsShowing : Live → Type 0
  IsShowing live = IsFresh live ⊎ (IsFilled live ⊎ IsOver live)

  zeros_if : (live : Live) (b : Bool) → has_accepted live ≡ b → b ≡ false → inputs_of setup live ≡ zeros
  zeros_if live b is e = ap (λ (c : Bool). cond c live.cyclic.taken zeros) (is ∙ e)

  pub taken_if : (live : Live) → has_accepted live ≡ true → inputs_of setup live ≡ live.cyclic.taken
  taken_if live is = ap (λ (c : Bool). cond c live.cyclic.taken zeros) is

  fresh_not : (live : Live) → IsFresh live → has_accepted live ≡ false
  fresh_not live fresh = ap (λ (last : Option ℕ). live.stands && is_some last) fresh.last ∙ and_false live.stands

  over_not : (live : Live) → IsOver live → has_accepted live ≡ false
  over_not live over = ap (λ (b : Bool). b && is_some live.cyclic.hearing.last) over.down

  filled_has : (live : Live) → IsFilled live → has_accepted live ≡ true
  filled_has live filled = and_true live.stands (is_some live.cyclic.hearing.last) filled.stands filled.counted

  -- a frame that brings these octets is accepted
  pub record Accepts (brought : Option (List ℕ)) (next : Live) : Type 0 where
    pub octets : List ℕ
    pub brings : brought ≡ Some octets
    pub accepted : has_accepted next ≡ true
    pub shown : inputs_of setup next ≡ with_frame octets zeros

  abbrev pub ShowsIn : Option (List ℕ) → Live → Live → Type 0
  ShowsIn brought live next =
      ((has_accepted next ≡ has_accepted live) × (inputs_of setup next ≡ inputs_of setup live))
      ⊎ (((has_accepted next ≡ false) × (inputs_of setup next ≡ zeros)) ⊎ Accepts brought next)

  -- what becomes of it
  pub record Shows (brought : Option (List ℕ)) (live next : Live) : Type 0 where
    pub shows : ShowsIn brought live next
    pub showing : IsShowing next

  not_shown : (brought : Option (List ℕ)) (live next : Live) → has_accepted next ≡ false → ShowsIn brought live next
  not_shown brought live next none = inr (inl (none, zeros_if next false none refl))

  module _ (brought : Option (List ℕ)) (live next : Live) where
    over_shows : IsOver next → Shows brought live next
    over_shows over = record { shows = not_shown brought live next (over_not next over); showing = inr (inr over) }

    keeps_fresh : IsFresh live → Keeps setup live next → Shows brought live next
    keeps_fresh fresh keeps =
        let now : IsFresh next = record { last = keeps.last ∙ fresh.last; taken = keeps.taken ∙ fresh.taken } in
        record { shows = not_shown brought live next (fresh_not next now); showing = inl now }

    keeps_filled : IsFilled live → Keeps setup live next → Shows brought live next
    keeps_filled filled keeps =
        let now : IsFilled next = record {
          stands = keeps.stands filled.stands;
          counted = ap (λ (last : Option ℕ). is_some last) keeps.last ∙ filled.counted;
          size = ap (λ (image : Image). image.data_length) keeps.taken ∙ filled.size;
          places = λ octets. ap (λ (image : Image). with_frame octets image) keeps.taken ∙ filled.places octets;
        } in
        record {
          shows = inl (filled_has next now ∙ sym (filled_has live filled), taken_if next (filled_has next now) ∙ (keeps.taken ∙ sym (taken_if live (filled_has live filled))));
          showing = inr (inl now);
        }

    keeps_shows : IsFresh live ⊎ IsFilled live → Keeps setup live next ⊎ IsOver next → Shows brought live next
    keeps_shows (inl fresh) (inl keeps) = keeps_fresh fresh keeps
    keeps_shows (inr filled) (inl keeps) = keeps_filled filled keeps
    keeps_shows before (inr over) = over_shows over

    -- a frame of the device is accepted
    size_of : IsFresh live ⊎ IsFilled live → live.cyclic.taken.data_length ≡ zeros.data_length
    size_of (inl fresh) = ap (λ (image : Image). image.data_length) fresh.taken
    size_of (inr filled) = filled.size

    places_of : IsFresh live ⊎ IsFilled live → (octets : List ℕ) → with_frame octets live.cyclic.taken ≡ with_frame octets zeros
    places_of (inl fresh) octets = ap (λ (image : Image). with_frame octets image) fresh.taken
    places_of (inr filled) octets = filled.places octets

    takes_shows : (source : Mac) (frame_id : ℕ) (body : List ℕ) → IsFresh live ⊎ IsFilled live → (takes : Takes setup live source frame_id body next) → brought ≡ Some takes.octets → Shows brought live next
    takes_shows source frame_id body before takes brings =
        let shown : next.cyclic.taken ≡ with_frame takes.octets zeros = takes.are ∙ places_of before takes.octets in
        let now : IsFilled next = record {
          stands = takes.stands;
          counted = takes.counted;
          size = ap (λ (image : Image). image.data_length) shown;
          places = λ octets. ap (λ (image : Image). with_frame octets image) shown ∙ frame_again octets takes.octets zeros;
        } in
        record {
          shows = inr (inr (record { octets = takes.octets; brings = brings; accepted = filled_has next now; shown = taken_if next (filled_has next now) ∙ shown }));
          showing = inr (inl now);
        }

  -- ---- a turn

  module _ (kinds : KindsSo) (identity : Identity) (live : Live) (partner : live.stands ≡ true → live.cyclic.route.partner ≡ identity.mac) where
    -- the octets that an accepted frame brings
    brings_as : (source : Mac) (frame_id : ℕ) (body : List ℕ) (next : Live) → IsFresh live ⊎ IsFilled live → (takes : Takes setup live source frame_id body next)
        → brought_in setup identity (Comes source frame_id body) ≡ Some takes.octets
    brings_as source frame_id body next before takes =
        let own = and_parts (pointwise nat_eq source.octets live.cyclic.route.partner.octets) (frame_id == live.cyclic.route.taken_id) takes.own in
        ap (λ (b : Bool). cond b (octets_in (cyclic_of zeros.data_length body)) None)
        (ap (λ (m : Mac). pointwise nat_eq source.octets m.octets) (sym (partner takes.stood)) ∙ own.0)
        ∙ ap (λ (r : Result (List ℕ × CyclicTail) ShortFrame). octets_in r) (ap (λ (n : ℕ). cyclic_of n body) (sym (size_of None live live before)) ∙ takes.read)

    -- what is brought by what comes
    abbrev pub brought_with : Came → Option (List ℕ)
    brought_with (Hears heard) = brought_in setup identity heard
    brought_with came = None

    going : (came : Came) (next : Live) → IsFresh live ⊎ IsFilled live → GoesBy setup live came (record { live = next; sent = [] }) → Shows (brought_with came) live next
    going (Hears (Comes source frame_id body)) next before (inl goes) = keeps_shows (brought_in setup identity (Comes source frame_id body)) live next before goes
    going (Hears (Comes source frame_id body)) next before (inr takes) =
        takes_shows (brought_in setup identity (Comes source frame_id body)) live next source frame_id body before takes (brings_as source frame_id body next before takes)
    going (Hears Nothing) next before goes = keeps_shows None live next before goes.either_so
    going (Hears (Answers source answer)) next before goes = keeps_shows None live next before goes.either_so
    going (Hears (Responds response)) next before goes = keeps_shows None live next before goes.either_so
    going (Hears (Refuses refusal)) next before goes = keeps_shows None live next before goes.either_so
    going (Hears (Calls caller call)) next before goes = keeps_shows None live next before goes.either_so
    going (Hears (Alarms source under header reported)) next before goes = keeps_shows None live next before goes.either_so
    going Passes next before goes = keeps_shows None live next before goes.either_so
    going (Gets slot subslot value) next before goes = keeps_shows None live next before goes.either_so
    going (GetsStatus slot subslot is_good) next before goes = keeps_shows None live next before goes.either_so
    going (AsksRead slot subslot index) next before goes = keeps_shows None live next before goes.either_so
    going (AsksWrite slot subslot index octets) next before goes = keeps_shows None live next before goes.either_so
    going Halts next before goes = keeps_shows None live next before goes.either_so

    -- a turn without what is sent
    bare : (came : Came) (turn : Turn) → GoesBy setup live came turn → GoesBy setup live came (record { live = turn.live; sent = [] })
    bare (Hears (Comes source frame_id body)) turn by = by
    bare (Hears Nothing) turn by = record { either_so = by.either_so }
    bare (Hears (Answers source answer)) turn by = record { either_so = by.either_so }
    bare (Hears (Responds response)) turn by = record { either_so = by.either_so }
    bare (Hears (Refuses refusal)) turn by = record { either_so = by.either_so }
    bare (Hears (Calls caller call)) turn by = record { either_so = by.either_so }
    bare (Hears (Alarms source under header reported)) turn by = record { either_so = by.either_so }
    bare Passes turn by = record { either_so = by.either_so }
    bare (Gets slot subslot value) turn by = record { either_so = by.either_so }
    bare (GetsStatus slot subslot is_good) turn by = record { either_so = by.either_so }
    bare (AsksRead slot subslot index) turn by = record { either_so = by.either_so }
    bare (AsksWrite slot subslot index octets) turn by = record { either_so = by.either_so }
    bare Halts turn by = record { either_so = by.either_so }

    turn_shows_as : (event : Event) → IsFresh live ⊎ IsFilled live → Shows (brought_with (came_by setup event)) live (turn_of setup live event).live
    turn_shows_as event before =
        going (came_by setup event) (turn_of setup live event).live before (bare (came_by setup event) (turn_of setup live event)
        (subst (λ (t : Turn). GoesBy setup live (came_by setup event) t) (sym (turn_by_event setup live event)) (came_goes setup live (came_by setup event))))

    pub turn_shows : (event : Event) → IsShowing live → Shows (brought_with (came_by setup event)) live (turn_of setup live event).live
    turn_shows event (inl fresh) = turn_shows_as event (inl fresh)
    turn_shows event (inr (inl filled)) = turn_shows_as event (inr filled)
    turn_shows event (inr (inr over)) =
        over_shows (brought_with (came_by setup event)) live (turn_of setup live event).live (ended_turn setup live (came_by setup event) over (turn_of setup live event) (kinds setup live event))

  -- what is read of what is shown: of a controller that accepted no frame
  pub fresh_showing : (live : Live) → live.cyclic.hearing.last ≡ None → live.cyclic.taken ≡ zeros → IsShowing live
  fresh_showing live last taken = inl (record { last = last; taken = taken })

  -- without an accepted frame, a controller whose relation is established has zeros
  pub zeros_taken : (live : Live) → IsShowing live → has_accepted live ≡ false → (live.stands ≡ false) ⊎ (live.cyclic.taken ≡ zeros)
  zeros_taken live (inl fresh) none = inr fresh.taken
  zeros_taken live (inr (inl filled)) none = absurd (true≢false (sym (filled_has live filled) ∙ none))
  zeros_taken live (inr (inr over)) none = inl over.down
