-- The device of a host from step to step.
use Rattle.std.proofs.Common.{◌≡◌, ◌==◌, ℕ, Bool, true, false, List, [], ◌∷◌, ◌++◌, length, refl, sym, ap, subst, ◌∙◌, inl, append_assoc, Result, Ok, Err}
use Rattle.std.specs.Prelude.{if◌then◌else◌, OnOk, OnErr}
use Rattle.std.proofs.lemmas.List.{append-nil}
use Rattle.pn_values.specs.declared.set_item.SetItem.{SetItem}
use Rattle.pn_values.specs.declared.set_item.SetItem.TheVariants.{Ask, Signal, Answer}
use Rattle.pn_values.specs.declared.settings.Settings.{Settings}
use Rattle.flash_model.specs.Calls.{Call, Programs, Erases, Arms}
use Rattle.flash_model.specs.Image.{Image, IsImage, sector_of, with_sector, erased}
use Rattle.flash_model.specs.Torn.{Torn}
use Rattle.flash_model.specs.declared.flash.Sector.{Sector}
use Rattle.flash_model.specs.declared.flash.Sector.TheVariants.{First, Second}
use Rattle.settings_journal.specs.Cut.{CutOff, IsCutShort, all_carried_out}
use Rattle.settings_journal.specs.Image.{BootsTo, LeftByDevice}
use Rattle.settings_journal.specs.settings_store.Legal.{made_of}
use Rattle.settings_journal.specs.settings_store.Machine.{Accepted, Carried, Pass, carried_one, carried}
use Rattle.settings_journal.specs.settings_store.State.{Values}
use Rattle.device_station.specs.recorded.Record.{image_of}
use Rattle.device_frames.specs.declared.event.Event.{Event}
use Rattle.device_frames.specs.declared.note.Note.{Note}
use Rattle.device_frames.specs.Heard.{Heard, heard_of}
use Rattle.device_core.specs.Cycle.{started}
use Rattle.device_core.specs.Handled.{Handled, handled}
use Rattle.device_core.specs.Machine.{Ran, Stepped, handed, heard_step, items_in, handled_step, run_of, step_of, then_run}
use Rattle.device_core.specs.State.{Live, Station}
use Rattle.device_abi.specs.Host.{Begun, Carries, Keeps, Stores, after}
use Rattle.device_station.specs.port.State.{State, IsIdle}
use Rattle.device_station.specs.port.Steps.{Takes}

-- ---- steps after others

-- A run, and then another.
unfoldable pub then_ran : Ran → Ran → Ran
then_ran ran more = record { live = more.live; frames = ran.frames ++ more.frames; accepted = ran.accepted ++ more.accepted }

pub run_append : (station : Station) (live : Live) (front back : List Event)
    → run_of [] station live (front ++ back) ≡ then_ran (run_of [] station live front) (run_of [] station (run_of [] station live front).live back)
unfolding then_ran
run_append station live [] back = refl
run_append station live (one ∷ front) back =
    ap (then_run (step_of [] station live one)) (run_append station (step_of [] station live one).live front back) ∙ simp append_assoc

pub live_of : (ran more : Ran) → (then_ran ran more).live ≡ more.live
unfolding then_ran
live_of ran more = refl

pub accepted_of : (ran more : Ran) → (then_ran ran more).accepted ≡ ran.accepted ++ more.accepted
unfolding then_ran
accepted_of ran more = refl

pub frames_of : (ran more : Ran) → (then_ran ran more).frames ≡ ran.frames ++ more.frames
unfolding then_ran
frames_of ran more = refl

pub after_more : (begun : Begun) (told more : List Event) → after begun (told ++ more) ≡ then_ran (after begun told) (run_of [] begun.station (after begun told).live more)
unfolding after
after_more begun told more = run_append begun.station (started begun.station.real begun.first begun.room) told more

-- One step.
abbrev one_of : Stepped → Ran
one_of step = record { live = step.live; frames = handed step ++ []; accepted = step.accepted ++ [] }

handed_of : (step : Stepped) → step.live.values.is_lost ≡ false → (one_of step).frames ≡ step.frames
handed_of step power = append-nil (handed step) ∙ ap (λ b. if b then [] else step.frames) power

-- ---- power stays while no call of the flash fails

power_by : (failed full : Bool) (refused exhausted done : Carried) → refused.values.is_lost ≡ false → exhausted.values.is_lost ≡ false → done.values.is_lost ≡ false
    → (if failed then refused else (if full then exhausted else done)).values.is_lost ≡ false
power_by true full refused exhausted done a b c = a
power_by false true refused exhausted done a b c = b
power_by false false refused exhausted done a b c = c

power_one : (values : Values) (item : SetItem) → values.is_lost ≡ false → (carried_one Pass values item).values.is_lost ≡ false
power_one values (Ask command) power = power_by values.has_failed (values.room == 0) _ _ _ power power refl
power_one values Signal power = power
power_one values (Answer answer) power = power

power_all : (values : Values) (items : List SetItem) → values.is_lost ≡ false → (carried [] values items).values.is_lost ≡ false
power_all values [] power = power
power_all values (item ∷ items) power = power_all (carried_one Pass values item).values items (power_one values item power)

power_handled : (station : Station) (live : Live) (what : Handled) → live.values.is_lost ≡ false → (handled_step [] station live what).live.values.is_lost ≡ false
unfolding handled_step
power_handled station live what power = power_all live.values (items_in what) power

power_heard : (station : Station) (live : Live) (heard : Heard) → live.values.is_lost ≡ false → (heard_step [] station live heard).live.values.is_lost ≡ false
unfolding heard_step
power_heard station live heard power = power_handled station live (handled station live heard) power

power_step : (station : Station) (live : Live) (event : Event) → live.values.is_lost ≡ false → (step_of [] station live event).live.values.is_lost ≡ false
power_step station live event power = power_heard station live (heard_of station.identity event) power

-- ---- what commands make

made_append : (front back : List Accepted) (first : Settings) → made_of (front ++ back) first ≡ made_of back (made_of front first)
made_append [] back first = refl
made_append (one ∷ front) back first = made_append front back (made_of (one ∷ []) first)

-- ---- a call that has not begun

pub not_begun : (chip : Image) (call : Call) → IsCutShort chip call chip
not_begun chip (Programs sector place bytes) = record { other = refl; here = record { length = refl; before = refl; behind = refl; inside = λ k low high bit. inl refl } }
not_begun chip (Erases sector) = record { other = refl; here = record { length = refl; before = refl; behind = refl; inside = λ k low high bit. inl refl } }
not_begun chip (Arms order) = refl

-- ---- what a chip stores

-- All calls are carried out.
pub whole : (begun : Begun) (told : List Event) (port : State) (chip : Image) → Keeps begun told port chip → port.calls ≡ [] → Stores begun told told chip
whole begun told port chip s none =
    let is : image_of port.device.flash ≡ chip = s.image ∙ ap (all_carried_out chip) none in
    record {
      stored = [];
      unstored = [];
      commands = sym (append-nil (after begun told).accepted);
      left = subst LeftByDevice is s.left;
      boots = subst (λ i. BootsTo i (made_of ((after begun told).accepted ++ []) begun.first)) is
          (subst (BootsTo (image_of port.device.flash)) (s.stored ∙ ap (λ l. made_of l begun.first) (sym (append-nil (after begun told).accepted))) (port.device.live.values.room, s.boots));
    }

-- What was answered last counts as stored.
stores_from : (begun : Begun) (told more taken : List Event) (chip : Image) → Stores begun (told ++ more) taken chip → Stores begun told taken chip
stores_from begun told more taken chip s =
    let was = (after begun told).accepted in
    let later = (run_of [] begun.station (after begun told).live more).accepted in
    let all : (after begun (told ++ more)).accepted ≡ was ++ later =
    ap (λ r. r.accepted) (after_more begun told more) ∙ accepted_of (after begun told) (run_of [] begun.station (after begun told).live more) in
    record {
      stored = later ++ s.stored;
      unstored = s.unstored;
      commands = s.commands ∙ ap (λ l. l ++ (s.stored ++ s.unstored)) all ∙ append_assoc was later (s.stored ++ s.unstored)
          ∙ ap (λ l. was ++ l) (sym (append_assoc later s.stored s.unstored));
      left = s.left;
      boots = subst (λ l. BootsTo chip (made_of l begun.first)) (ap (λ l. l ++ s.stored) all ∙ append_assoc was later s.stored) s.boots;
    }

-- ---- one step

module _ (begun : Begun) (told : List Event) (port : State) (chip : Image) (s : Keeps begun told port chip) (none : port.calls ≡ []) (event : Event) (step : Stepped)
    (is : step_of [] port.device.station port.device.live event ≡ step) (more : after begun (told ++ event ∷ []) ≡ then_ran (after begun told) (one_of step)) (power : step.live.values.is_lost ≡ false) where
  chip_is : image_of port.device.flash ≡ chip
  chip_is = s.image ∙ ap (all_carried_out chip) none

  accepted_are : (after begun (told ++ event ∷ [])).accepted ≡ (after begun told).accepted ++ step.accepted
  accepted_are = ap (λ r. r.accepted) more ∙ accepted_of (after begun told) (one_of step) ∙ ap (λ l. (after begun told).accepted ++ l) (append-nil step.accepted)

  live_is : (after begun (told ++ event ∷ [])).live ≡ step.live
  live_is = ap (λ r. r.live) more ∙ live_of (after begun told) (one_of step)

  cut_of : (new : State) (note : Note) → (takes : Takes port event note new) → (torn : Image) → IsImage 4096 torn → CutOff chip new.calls torn → Stores begun told (told ++ event ∷ []) torn
  cut_of new note takes torn sized off =
      let there = subst (λ i. CutOff i new.calls torn) (sym chip_is) off in
      let by_calls = subst (λ c. CutOff (image_of port.device.flash) c torn) takes.calls there in
      let l = takes.records.legal torn sized by_calls s.left begun.first (after begun told).accepted s.stored in
      record {
        stored = l.stored;
        unstored = l.unstored;
        commands = accepted_are ∙ ap (λ x. (after begun told).accepted ++ x) (sym (ap (λ x. x.accepted) is) ∙ l.parts);
        left = l.left;
        boots = l.boots;
      }

  stored_is : (new : State) (note : Note) → Takes port event note new → new.device.live.values.stored ≡ made_of (after begun (told ++ event ∷ [])).accepted begun.first
  stored_is new note takes =
      takes.records.made ∙ ap (λ x. made_of x.accepted port.device.live.values.stored) is ∙ ap (made_of step.accepted) s.stored
      ∙ sym (made_append (after begun told).accepted step.accepted begun.first) ∙ ap (λ l. made_of l begun.first) (sym accepted_are)

  keeps_on : (new : State) (note : Note) → Takes port event note new → Keeps begun (told ++ event ∷ []) new chip
  keeps_on new note takes =
      let live : new.device.live ≡ step.live = takes.exact.live ∙ ap (λ x. x.live) is in
      record {
        stage = takes.stage;
        station = takes.exact.same ∙ s.station;
        live = live ∙ sym live_is;
        power = ap (λ l. l.values.is_lost) live ∙ power;
        image = takes.records.image ∙ ap (λ i. all_carried_out i takes.records.calls) chip_is ∙ ap (all_carried_out chip) (sym takes.calls);
        left = takes.records.left s.left;
        stored = stored_is new note takes;
        boots = takes.records.starts;
      }

  sent_is : (new : State) (note : Note) → Takes port event note new → new.frames ≡ (one_of step).frames
  sent_is new note takes = takes.exact.frames ∙ ap (λ x. x.frames) is ∙ sym (handed_of step power)

-- ---- the steps of one event

-- The device heard more after what was reported to it. Its remaining frames are all those of these steps, and wherever the remaining calls are cut
-- off, the chip stores what it stored before and a prefix of the commands of these steps.
pub record Goes (begun : Begun) (told more : List Event) (new : State) (chip : Image) : Type 0 where
  pub keeps : Keeps begun (told ++ more) new chip
  pub frames : new.frames ≡ (run_of [] begun.station (after begun told).live more).frames
  pub cut : (torn : Image) → IsImage 4096 torn → CutOff chip new.calls torn → Stores begun told (told ++ more) torn

pub goes_none : (begun : Begun) (told : List Event) (port : State) (chip : Image) → Keeps begun told port chip → IsIdle port → Goes begun told [] port chip
goes_none begun told port chip s idle =
    let same = sym (append-nil told) in
    record {
      keeps = subst (λ t. Keeps begun t port chip) same s;
      frames = idle.1;
      cut = λ torn sized off.
          let stays : torn ≡ chip = subst (λ c. CutOff chip c torn) idle.0 off in
          subst (λ t. Stores begun told t torn) same (subst (λ i. Stores begun told told i) (sym stays) (whole begun told port chip s idle.0));
    }

-- One step more, which is made only if all work is fetched.
pub goes_on : (begun : Begun) (told more : List Event) (port : State) (chip : Image) → Goes begun told more port chip → IsIdle port → (event : Event) (note : Note) (new : State) → Takes port event note new
    → Goes begun told (more ++ event ∷ []) new chip
goes_on begun told more port chip g idle event note new takes =
    let far = told ++ more in
    let ran = run_of [] begun.station (after begun told).live more in
    let here = (after begun far).live in
    let step = step_of [] begun.station here event in
    let live : here ≡ ran.live = ap (λ r. r.live) (after_more begun told more) ∙ live_of (after begun told) ran in
    let is : step_of [] port.device.station port.device.live event ≡ step =
    ap (λ t. step_of [] t port.device.live event) g.keeps.station ∙ ap (λ l. step_of [] begun.station l event) g.keeps.live in
    let power = power_step begun.station here event (sym (ap (λ l. l.values.is_lost) g.keeps.live) ∙ g.keeps.power) in
    let behind = after_more begun far (event ∷ []) in
    let joined : far ++ event ∷ [] ≡ told ++ (more ++ event ∷ []) = append_assoc told more (event ∷ []) in
    let none : ran.frames ≡ [] = sym g.frames ∙ idle.1 in
    let two = run_append begun.station (after begun told).live more (event ∷ []) in
    let last : (run_of [] begun.station (after begun told).live (more ++ event ∷ [])).frames ≡ (one_of step).frames =
    ap (λ r. r.frames) two ∙ frames_of ran (run_of [] begun.station ran.live (event ∷ [])) ∙ ap (λ f. f ++ (run_of [] begun.station ran.live (event ∷ [])).frames) none
    ∙ ap (λ l. (run_of [] begun.station l (event ∷ [])).frames) (sym live) in
    record {
      keeps = subst (λ t. Keeps begun t new chip) joined (keeps_on begun far port chip g.keeps idle.0 event step is behind power new note takes);
      frames = sent_is begun far port chip g.keeps idle.0 event step is behind power new note takes ∙ sym last;
      cut = λ torn sized off. stores_from begun told more (told ++ (more ++ event ∷ [])) torn
          (subst (λ t. Stores begun far t torn) joined (cut_of begun far port chip g.keeps idle.0 event step is behind power new note takes torn sized off));
    }

-- ---- a call on a chip

long_sector : (size : ℕ) (image : Image) (sector : Sector) → IsImage size image → length (sector_of image sector) ≡ size
long_sector size image First sized = sized.first_size
long_sector size image Second sized = sized.second_size

-- An erase of a chip of some size. The size is not a literal here, or a list of that length is built.
erased_of : {E : Type 0} (size : ℕ) (old new : Image) (sector : Sector) (result : Result (Unit {0}) E) → length (sector_of old sector) ≡ size → OnOk result (new ≡ with_sector old sector (erased size))
    → OnErr result (Torn sector 0 size (erased size) old new) → Carries old (Erases sector) result new
erased_of size old new sector (Ok done) long is torn = is ∙ ap (λ n. with_sector old sector (erased n)) (sym long)
erased_of size old new sector (Err fault) long is torn = subst (λ n. Torn sector 0 n (erased n) old new) (sym long) torn

pub erased_by : {E : Type 0} (size : ℕ) (old new : Image) (sector : Sector) (result : Result (Unit {0}) E) → IsImage size old → OnOk result (new ≡ with_sector old sector (erased size))
    → OnErr result (Torn sector 0 size (erased size) old new) → Carries old (Erases sector) result new
erased_by size old new sector result sized is torn = erased_of size old new sector result (long_sector size old sector sized) is torn
