-- A controller over any events: at each entry it is on time, and its frames carry what the application gave last.
use Rattle.std.proofs.Common.{◌≡◌, ◌⊎◌, inl, inr, ◌+◌, ◌*◌, ◌%◌, ◌<◌, ◌≤◌, ◌&&◌, ◌++◌, ℕ, Bool, true, false, List, [], ◌∷◌, length, map, Option, Some, refl, sym, ap, subst, ◌∙◌, arith}
use Rattle.std.specs.Prelude.{if◌then◌else◌}
use Rattle.std.specs.List.{AllByRecursion}
use Rattle.std.proofs.Math.Nat.{max-le, mod-lt}
use Rattle.wire.specs.Codec.{IsSoundWhole}
use Rattle.rpc_core.specs.Response.{Answered as Response}
use Rattle.frame_codec.specs.Frame.{layers}
use Rattle.frame_codec.specs.Sendable.{IsMac}
use Rattle.cyclic_data.specs.Image.{Shown as Image, octets_of}
use Rattle.cyclic_data.specs.Timing.{Sending, is_due as is_clock_due}
use Rattle.plans.specs.Plan.{IsPlan}
use Rattle.controller_messages.specs.declared.setup.Setup.{Setup}
use Rattle.controller_messages.specs.Heard.{Heard, Responds, heard_of}
use Rattle.controller_messages.specs.Sent.{Sent, Cycles, bytes_of}
use Rattle.controller_core.specs.declared.stored.event.Event.{Event}
use Rattle.controller_core.specs.declared.stored.event.Event.TheVariants.{Frame, Tick, Give, Status, Read, Write, Stop}
use Rattle.controller_core.specs.stored.State.{Controlling, Live}
use Rattle.controller_core.specs.Machine.{Turn, first, step_of, turn_of, where_due}
use Rattle.field_words.specs.Cyclic.{counter_in, data_in, is_cyclic_id}
use Rattle.network_world.specs.declared.moves.Move.{Move}
use Rattle.end_laws.specs.controller.Small.{IsSteady}
use Rattle.end_laws.specs.turns.Turns.{Hears, Passes, came_by}
use Rattle.end_laws.proofs.HearingGiven.{DataIsRead}
use Rattle.both_ends.specs.exchange.Shown.{zeros_for}
use Rattle.both_ends.specs.exchange.Given.{image_given}
use Rattle.both_ends.proofs.ExchangeOutputsBrings.{IsAddressed}
use Rattle.both_ends.proofs.ExchangeOutputsMoves.{ArePlaced, Sets, first_image, given_more, sets_given, sets_of, shown_with}
use Rattle.both_ends.proofs.ExchangeOutputsSix.{six_event}
use Rattle.both_ends.proofs.ExchangeOutputsTurns.{IsKept, IsSaid, KindsSo, Tells, shown_behind, turn_tells}
use Rattle.exchange_law.specs.Told.{AllAlong, Told}
use Rattle.exchange_law.specs.Interval.{BeginsWell, ChoosesCyclic, ComesWell, IsOnTime, completes, cyclic_in, interval_in, is_due, is_related, related_for, related_then, units_then}
use Rattle.exchange_law.specs.Outputs.{CarriesOutputs, CarriesWhatIsGiven, HasOutputs, AreGood, outputs_in, room_of, senders_in, size_of, units_in}
use Rattle.exchange_law.specs.Run.{told_by, told_of}
use Rattle.exchange_law.proofs.Frames.{counter_is, data_is, is_one, last_in, none_in}
use Rattle.exchange_law.proofs.Turns.{Goes, IsOver, IsQuiet, IsUnit, turn_quiet, unit_passes}
use Rattle.exchange_law.proofs.Units.{HasCounted, HasRun, counted_more, counted_none, due_where, no_tick, no_unit, none_run, not_complete, related_more, some_run, then_none, then_some, units_after, units_more}
use Rattle.exchange_law.proofs.Values.{front_all, move_of, moves_in, moves_more, outputs_there, senders_there, size_is}

-- ---- lists of entries

-- What is lost of two lists with the same front.
tail_is : (x y : Told) (one other : List Told) → x ∷ one ≡ y ∷ other → one ≡ other
tail_is x y one other e = cc

pub cancel : (front one other : List Told) → front ++ one ≡ front ++ other → one ≡ other
cancel [] one other e = e
cancel (x ∷ front) one other e = cancel front one other (tail_is x x (front ++ one) (front ++ other) e)

pub all_on : (P Q : List Told → Told → Type 0) → ((before : List Told) (one : Told) → P before one → Q before one) → (before told : List Told) → AllAlong P before told → AllAlong Q before told
all_on P Q so before [] all = tt
all_on P Q so before (one ∷ told) all = (so before one all.0, all_on P Q so (before ++ one ∷ []) told all.1)

pub events_told : (events : List Event) (old : Controlling) → map (λ (one : Told). one.event) (told_of events old) ≡ events
events_told [] old = refl
events_told (event ∷ events) old = ap (λ (l : List Event). event ∷ l) (events_told events (step_of old event).controller)

-- What a witness learns of a step.
abbrev told_at : Setup → Live → Event → Told
told_at setup live event = record { event = event; sent = map (bytes_of setup) (turn_of setup live event).sent; state = (turn_of setup live event).live.phase }

abbrev at : Setup → Live → Controlling
at setup live = record { setup = setup; live = live }

told_is : (setup : Setup) (live : Live) (event : Event) → told_by (at setup live) event ≡ told_at setup live event
unfolding step_of
told_is setup live event = refl

next_is : (setup : Setup) (live : Live) (event : Event) → (step_of (at setup live) event).controller ≡ at setup (turn_of setup live event).live
unfolding step_of
next_is setup live event = refl

-- ---- events

pass_is : (setup : Setup) (event : Event) → (event ≡ Tick → ⊥) → came_by setup event ≡ Passes → ⊥
pass_is setup Tick none e = none refl
pass_is setup (Frame bytes) none e = cc
pass_is setup (Give slot subslot value) none e = cc
pass_is setup (Status slot subslot is_good) none e = cc
pass_is setup (Read slot subslot index) none e = cc
pass_is setup (Write slot subslot index octets) none e = cc
pass_is setup Stop none e = cc

shown_same : (live : Live) (event : Event) → shown_behind live event ≡ shown_with live (move_of event)
shown_same live (Give slot subslot value) = refl
shown_same live (Status slot subslot is_good) = refl
shown_same live (Frame bytes) = refl
shown_same live Tick = refl
shown_same live (Read slot subslot index) = refl
shown_same live (Write slot subslot index octets) = refl
shown_same live Stop = refl

-- What the device chose with the response that an event brings.
well_chosen : (setup : Setup) (event : Event) (response : Response) → came_by setup event ≡ Hears (Responds response) → ComesWell setup.plan.controller event
    → ChoosesCyclic (Responds response)
well_chosen setup (Frame bytes) response comes well = subst (λ (h : Heard). ChoosesCyclic h) (same_heard (heard_of setup.plan.controller bytes.items) comes) well
  where
    same_heard : (heard : Heard) → Hears heard ≡ Hears (Responds response) → heard ≡ Responds response
    same_heard heard e = cc
well_chosen setup Tick response comes well = absurd cc
well_chosen setup (Give slot subslot value) response comes well = absurd cc
well_chosen setup (Status slot subslot is_good) response comes well = absurd cc
well_chosen setup (Read slot subslot index) response comes well = absurd cc
well_chosen setup (Write slot subslot index octets) response comes well = absurd cc
well_chosen setup Stop response comes well = absurd cc

-- ---- the point after some entries

-- A controller after each event keeps its requests in step with its state.
abbrev pub StaysSteady : Setup → Type 0
StaysSteady setup = (live : Live) (event : Event) → IsSteady setup.plan live → IsSteady setup.plan (turn_of setup live event).live

module _ (setup : Setup) (plan : IsPlan setup.plan) (six : IsMac setup.plan.controller.mac) (there : ArePlaced setup) (data_read : DataIsRead) (whole : IsSoundWhole layers)
    (kinds : KindsSo) (steadily : StaysSteady setup) where
  abbrev size : ℕ
  size = (zeros_for setup).data_length

  abbrev interval : ℕ
  interval = interval_in setup.plan.times

  some_interval : 0 < interval
  some_interval = positive setup.plan.times.send_clock_factor setup.plan.times.reduction_ratio plan.good.clock_least plan.good.ratio_least
    where
      positive : (n m : ℕ) → 1 ≤ n → 1 ≤ m → 0 < n * m
      positive n m one other = grind (arith, one, other)

  few : size ≤ 1440
  few = max-le {a = 40} (omega arith) plan.output

  record Point (told : List Told) (live : Live) : Type 0 where
    steady : IsSteady setup.plan live
    up : live.stands ≡ is_related live.phase
    units : live.units ≡ units_in told % 65536
    run : HasRun interval (related_for told) live.stands live.cyclic.sending live.cyclic.route.sent_id
    sets : sets_of live ≡ sets_given setup (moves_in told)
    kept : IsKept size live

  -- What holds at an entry.
  record IsFine (told : List Told) (one : Told) : Type 0 where
    on_time : IsOnTime setup.plan.times told one
    carries : CarriesWhatIsGiven setup.plan.real.modules.items told one

  -- No frame of cyclic data is sent.
  none_fine : (told : List Told) (one : Told) → cyclic_in one.sent ≡ [] → is_due setup.plan.times told one ≡ false → IsFine told one
  none_fine told one none undue = record {
    on_time = ap (λ (l : List (List ℕ)). length l) none ∙ ap (λ (b : Bool). if b then 1 else 0) (sym undue);
    carries = subst (λ (l : List (List ℕ)). AllByRecursion (CarriesOutputs setup.plan.real.modules.items (told ++ one ∷ [])) l) (sym none) tt;
  }

  module _ (told : List Told) (live : Live) (point : Point told live) where
    abbrev turn : Event → Turn
    turn event = turn_of setup live event

    abbrev one : Event → Told
    one event = told_at setup live event

    tells : (event : Event) → Tells size (shown_behind live event) (turn event)
    tells event = turn_tells size kinds setup live event (six_event whole setup event) point.kept

    sets_next : (event : Event) → sets_of (turn event).live ≡ sets_given setup (moves_in (told ++ one event ∷ []))
    sets_next event =
        (tells event).same
        ∙ (shown_same live event
        ∙ (given_more setup there.once (moves_in told) live point.sets (move_of event)
        ∙ ap (λ (moves : List Move). sets_given setup moves) (sym (moves_more told (one event)))))

    -- The next point, if the clock of the relation is right.
    point_next : (event : Event) → (turn event).live.stands ≡ is_related (turn event).live.phase → (turn event).live.units ≡ units_in (told ++ one event ∷ []) % 65536
        → HasRun interval (related_then (related_for told) (one event)) (turn event).live.stands (turn event).live.cyclic.sending (turn event).live.cyclic.route.sent_id
        → Point (told ++ one event ∷ []) (turn event).live
    point_next event up units run = record {
      steady = steadily live event point.steady;
      up = up;
      units = units;
      run = subst (λ (o : Option ℕ). HasRun interval o (turn event).live.stands (turn event).live.cyclic.sending (turn event).live.cyclic.route.sent_id)
          (sym (related_more told (one event))) run;
      sets = sets_next event;
      kept = (tells event).kept;
    }

    addressed : (shown : Image) (sent : List Sent) → AllByRecursion (IsSaid shown) sent → AllByRecursion IsAddressed sent
    addressed shown [] all = tt
    addressed shown (message ∷ sent) all = (all.0.1, addressed shown sent all.1)

    all_addressed : (event : Event) → AllByRecursion IsAddressed (turn event).sent
    all_addressed event = addressed (turn event).live.cyclic.shown (turn event).sent (tells event).reported

    -- An entry with which there is no relation afterwards.
    down_run : (event : Event) → (turn event).live.stands ≡ is_related (turn event).live.phase → (turn event).live.stands ≡ false
        → HasRun interval (related_then (related_for told) (one event)) (turn event).live.stands (turn event).live.cyclic.sending (turn event).live.cyclic.route.sent_id
    down_run event up down =
        subst (λ (o : Option ℕ). HasRun interval o (turn event).live.stands (turn event).live.cyclic.sending (turn event).live.cyclic.route.sent_id)
        (sym (then_none (related_for told) (one event) (sym up ∙ down))) down

    -- ---- an event other than a unit

    module _ (event : Event) (other : event ≡ Tick → ⊥) (well : BeginsWell setup.plan.controller told (one event)) where
      quiet : IsQuiet setup live (came_by setup event) (turn event)
      quiet = turn_quiet setup live (came_by setup event) point.up point.steady (pass_is setup event other) (turn event) (kinds setup live event)

      abbrev next : Live
      next = (turn event).live

      abbrev NextRun : Option ℕ → Type 0
      NextRun units = HasRun interval units next.stands next.cyclic.sending next.cyclic.route.sent_id

      quiet_run : Goes setup live (came_by setup event) next.stands next.cyclic → NextRun (related_then (related_for told) (one event))
      quiet_run (inl down) = down_run event quiet.up down
      quiet_run (inr (inl starts)) =
          let related : is_related next.phase ≡ true = sym quiet.up ∙ starts.after in
          let none = none_run interval (related_for told) live.stands live.cyclic.sending live.cyclic.route.sent_id point.run starts.before in
          let units : related_then (related_for told) (one event) ≡ Some 0 =
          then_some (related_for told) (one event) related ∙ ap (λ (o : Option ℕ). Some (units_then o event)) none in
          let chosen = well_chosen setup event starts.response starts.comes (well none related) starts.chosen starts.is_chosen in
          subst (λ (o : Option ℕ). NextRun o) (sym units) (
            starts.after,
            subst (λ (s : Sending). HasCounted interval 0 s) (sym starts.sending) (counted_none setup.plan.times some_interval),
            ap is_cyclic_id starts.sent_id ∙ chosen,
          )
      quiet_run (inr (inr keeps)) = by_stands live.stands refl
        where
          by_stands : (b : Bool) → live.stands ≡ b → NextRun (related_then (related_for told) (one event))
          by_stands false is = down_run event quiet.up (keeps.same ∙ is)
          by_stands true is =
              let run = some_run interval (related_for told) live.stands live.cyclic.sending live.cyclic.route.sent_id point.run is in
              let related : is_related next.phase ≡ true = sym quiet.up ∙ (keeps.same ∙ is) in
              let units : related_then (related_for told) (one event) ≡ Some run.0 =
              then_some (related_for told) (one event) related
              ∙ (ap (λ (o : Option ℕ). Some (units_then o event)) run.1 ∙ ap (λ (n : ℕ). Some n) (no_unit event other run.0)) in
              subst (λ (o : Option ℕ). NextRun o) (sym units) (
                keeps.same ∙ is,
                subst (λ (s : Sending). HasCounted interval run.0 s) (sym keeps.sending) run.2,
                ap is_cyclic_id keeps.sent_id ∙ run.3,
              )

      quiet_point : Point (told ++ one event ∷ []) next
      quiet_point = point_next event quiet.up
          (quiet.units ∙ (point.units ∙ ap (λ (n : ℕ). n % 65536) (sym (units_more told (one event) ∙ no_tick event other (units_in told))))) (quiet_run quiet.way)

      quiet_fine : IsFine told (one event)
      quiet_fine =
          none_fine told (one event) (none_in setup six (turn event).sent quiet.sent (all_addressed event))
          (undue (is_related next.phase) (completes interval (related_for told) event) (not_complete interval (related_for told) event other))
        where
          undue : (b c : Bool) → c ≡ false → (b && c) ≡ false
          undue true c is = is
          undue false c is = refl

    -- ---- a unit

    abbrev later : Live
    later = (turn Tick).live

    abbrev unit : Told
    unit = one Tick

    abbrev after : List Told
    after = told ++ unit ∷ []

    units_later : later.units ≡ (live.units + 1) % 65536 → later.units ≡ units_in after % 65536
    units_later is = is ∙ (units_after live.units (units_in told) point.units ∙ ap (λ (n : ℕ). n % 65536) (sym (units_more told unit)))

    over_point : IsOver live (turn Tick) → Point after later
    over_point is = point_next Tick is.up (units_later is.units) (down_run Tick is.up is.down)

    over_fine : IsOver live (turn Tick) → IsFine told unit
    over_fine is =
        none_fine told unit (none_in setup six (turn Tick).sent is.sent (all_addressed Tick))
        (ap (λ (b : Bool). b && completes interval (related_for told) Tick) (sym is.up ∙ is.down))

    module _ (is : IsUnit live (turn Tick)) where
      run : (n : ℕ) × (related_for told ≡ Some n) × HasCounted interval n live.cyclic.sending × (is_cyclic_id live.cyclic.route.sent_id ≡ true)
      run = some_run interval (related_for told) live.stands live.cyclic.sending live.cyclic.route.sent_id point.run is.was

      related : is_related later.phase ≡ true
      related = sym is.up ∙ is.is

      id : is_cyclic_id later.cyclic.route.sent_id ≡ true
      id = ap is_cyclic_id is.sent_id ∙ run.3

      unit_point : Point after later
      unit_point =
          let units : related_then (related_for told) unit ≡ Some (run.0 + 1) =
          then_some (related_for told) unit related ∙ ap (λ (o : Option ℕ). Some (units_then o Tick)) run.1 in
          point_next Tick is.up (units_later is.units)
          (subst (λ (o : Option ℕ). HasRun interval o later.stands later.cyclic.sending later.cyclic.route.sent_id) (sym units) (
            is.is,
            subst (λ (s : Sending). HasCounted interval (run.0 + 1) s) (sym is.sending) (counted_more interval run.0 live.cyclic.sending run.2),
            id,
          ))

      -- Whether a frame is due.
      due_is : is_due setup.plan.times told unit ≡ is_clock_due live.cyclic.sending
      due_is =
          ap (λ (b : Bool). b && completes interval (related_for told) Tick) related
          ∙ (ap (λ (o : Option ℕ). completes interval o Tick) run.1 ∙ sym (due_where interval run.0 live.cyclic.sending run.2))

      -- The frame.
      abbrev outputs : List Sent
      outputs = Cycles later.cyclic.route later.cyclic.shown later.units ∷ []

      abbrev frame : List ℕ
      frame = bytes_of setup (Cycles later.cyclic.route later.cyclic.shown later.units)

      small : later.units < 65536
      small = subst (λ (n : ℕ). n < 65536) (sym is.units) (mod-lt (live.units + 1) {m = 65536} (omega arith))

      short : later.cyclic.shown.data_length ≤ 1440
      short = subst (λ (n : ℕ). n ≤ 1440) (sym (tells Tick).kept.size) few

      sent_is : cyclic_in unit.sent ≡ cyclic_in (map (bytes_of setup) (where_due (is_clock_due live.cyclic.sending) outputs))
      sent_is =
          let last = where_due (is_clock_due live.cyclic.sending) outputs in
          let addresses = subst (λ (sent : List Sent). AllByRecursion IsAddressed sent) is.sends (all_addressed Tick) in
          ap (λ (sent : List Sent). cyclic_in (map (bytes_of setup) sent)) is.sends
          ∙ last_in setup six is.first last is.others (front_all IsAddressed is.first last addresses)

      frame_is : cyclic_in (frame ∷ []) ≡ frame ∷ []
      frame_is =
          ap (λ (b : Bool). if b then frame ∷ [] else [])
          (is_one setup six data_read later.cyclic.route later.cyclic.shown later.units (tells Tick).kept.way id short small)

      long : later.cyclic.shown.data_length ≡ size_of setup.plan.real.modules.items
      long = (tells Tick).kept.size ∙ size_is setup

      data_in_frame : data_in (size_of setup.plan.real.modules.items) frame ≡ octets_of (image_given setup (moves_in after))
      data_in_frame =
          ap (λ (n : ℕ). data_in n frame) (sym long)
          ∙ (data_is setup six data_read later.cyclic.route later.cyclic.shown later.units (tells Tick).kept.way id short small
          ∙ ap (λ (sets : Sets). octets_of sets.shown) (sets_next Tick))

      frame_carries : CarriesOutputs setup.plan.real.modules.items after frame
      frame_carries =
          let modules = setup.plan.real.modules.items in
          record {
            counter = ap (λ (n : ℕ). counter_in n frame) (sym long)
                ∙ (counter_is setup six data_read later.cyclic.route later.cyclic.shown later.units (tells Tick).kept.way id short small ∙ units_later is.units);
            outputs = subst (λ (l : List ℕ). HasOutputs after 0 (outputs_in modules) l) (sym data_in_frame) (outputs_there setup there after);
            senders = subst (λ (l : List ℕ). AreGood (room_of (outputs_in modules)) (length (senders_in modules)) l) (sym data_in_frame) (senders_there setup there after);
          }

      unit_fine : IsFine told unit
      unit_fine = by_due (is_clock_due live.cyclic.sending) refl
        where
          by_due : (b : Bool) → is_clock_due live.cyclic.sending ≡ b → IsFine told unit
          by_due false not_due =
              none_fine told unit (sent_is ∙ ap (λ (b : Bool). cyclic_in (map (bytes_of setup) (where_due b outputs))) not_due) (due_is ∙ not_due)
          by_due true due =
              let one_frame : cyclic_in unit.sent ≡ frame ∷ [] =
              sent_is ∙ (ap (λ (b : Bool). cyclic_in (map (bytes_of setup) (where_due b outputs))) due ∙ frame_is) in
              record {
                on_time = ap (λ (l : List (List ℕ)). length l) one_frame ∙ ap (λ (b : Bool). if b then 1 else 0) (sym (due_is ∙ due));
                carries = subst (λ (l : List (List ℕ)). AllByRecursion (CarriesOutputs setup.plan.real.modules.items after) l) (sym one_frame) (frame_carries, tt);
              }

    tick_entry : IsOver live (turn Tick) ⊎ IsUnit live (turn Tick) → Point after later × IsFine told unit
    tick_entry (inl is) = (over_point is, over_fine is)
    tick_entry (inr is) = (unit_point is, unit_fine is)

    entry : (event : Event) → BeginsWell setup.plan.controller told (one event) → Point (told ++ one event ∷ []) (turn event).live × IsFine told (one event)
    entry Tick well = tick_entry (unit_passes setup live point.up)
    entry (Frame bytes) well = (quiet_point (Frame bytes) (λ e. cc) well, quiet_fine (Frame bytes) (λ e. cc) well)
    entry (Give slot subslot value) well = (quiet_point (Give slot subslot value) (λ e. cc) well, quiet_fine (Give slot subslot value) (λ e. cc) well)
    entry (Status slot subslot is_good) well = (quiet_point (Status slot subslot is_good) (λ e. cc) well, quiet_fine (Status slot subslot is_good) (λ e. cc) well)
    entry (Read slot subslot index) well = (quiet_point (Read slot subslot index) (λ e. cc) well, quiet_fine (Read slot subslot index) (λ e. cc) well)
    entry (Write slot subslot index octets) well = (quiet_point (Write slot subslot index octets) (λ e. cc) well, quiet_fine (Write slot subslot index octets) (λ e. cc) well)
    entry Stop well = (quiet_point Stop (λ e. cc) well, quiet_fine Stop (λ e. cc) well)

  -- ---- all entries

  abbrev turns_told : List Event → Live → List Told
  turns_told [] live = []
  turns_told (event ∷ events) live = told_at setup live event ∷ turns_told events (turn_of setup live event).live

  told_so : (events : List Event) (live : Live) → told_of events (at setup live) ≡ turns_told events live
  told_so [] live = refl
  told_so (event ∷ events) live =
      ap (λ (one : Told). one ∷ told_of events (step_of (at setup live) event).controller) (told_is setup live event)
      ∙ ap (λ (more : List Told). told_at setup live event ∷ more)
      (ap (λ (c : Controlling). told_of events c) (next_is setup live event) ∙ told_so events (turn_of setup live event).live)

  along : (events : List Event) (told : List Told) (live : Live) → Point told live → AllAlong (BeginsWell setup.plan.controller) told (turns_told events live)
      → AllAlong IsFine told (turns_told events live)
  along [] told live point well = tt
  along (event ∷ events) told live point well =
      let now = entry told live point event well.0 in
      (now.1, along events (told ++ told_at setup live event ∷ []) (turn_of setup live event).live now.0 well.1)

  first_point : IsSteady setup.plan (first setup.plan) → Point [] (first setup.plan)
  first_point steady = record {
    steady = steady;
    up = refl;
    units = refl;
    run = refl;
    sets = first_image setup;
    kept = record { device = refl; way = record { partner = refl; sent_tag = omega arith; alarm_tag = omega arith }; size = refl };
  }

  module _ (steady : IsSteady setup.plan (first setup.plan)) (events : List Event) (well : AllAlong (BeginsWell setup.plan.controller) [] (told_of events (at setup (first setup.plan)))) where
    all_fine : AllAlong IsFine [] (told_of events (at setup (first setup.plan)))
    all_fine =
        subst (λ (told : List Told). AllAlong IsFine [] told) (sym (told_so events (first setup.plan)))
        (along events [] (first setup.plan) (first_point steady)
        (subst (λ (told : List Told). AllAlong (BeginsWell setup.plan.controller) [] told) (told_so events (first setup.plan)) well))

    pub all_on_time : AllAlong (IsOnTime setup.plan.times) [] (told_of events (at setup (first setup.plan)))
    all_on_time = all_on IsFine (IsOnTime setup.plan.times) (λ before one fine. fine.on_time) [] (told_of events (at setup (first setup.plan))) all_fine

    pub all_carry : AllAlong (CarriesWhatIsGiven setup.plan.real.modules.items) [] (told_of events (at setup (first setup.plan)))
    all_carry = all_on IsFine (CarriesWhatIsGiven setup.plan.real.modules.items) (λ before one fine. fine.carries) [] (told_of events (at setup (first setup.plan))) all_fine
