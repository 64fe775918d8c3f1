-- A cycle, from the steps that were made in it.
use Rattle.std.proofs.Common.{◌≡◌, ◌++◌, ℕ, true, false, List, [], ◌∷◌, append_assoc, map, Result, Ok, Err, IfOk, MatchResult, refl, sym, ap, subst, ◌∙◌, inl, inr}
use Rattle.std.proofs.lemmas.List.{append-nil}
use Rattle.flash_model.specs.Image.{Image}
use Rattle.flash_model.specs.declared.flash.Flash.{Ghosts as Flash}
use Rattle.pn_values.specs.declared.identity.Identity.{Identity}
use Rattle.pn_values.specs.declared.real.Real.{Real}
use Rattle.pn_values.specs.declared.settings.Settings.{Settings}
use Rattle.pn_values.specs.Settings.{factory_settings}
use Rattle.settings_journal.specs.declared.journal.BootFault.{BootFault}
use Rattle.settings_journal.specs.declared.journal.BootFault.TheVariants.{FlashFault}
use Rattle.settings_journal.specs.Image.{LeftByDevice, StartsWith}
use Rattle.settings_journal.specs.settings_store.Legal.{LegalEnd, made_of}
use Rattle.settings_journal.specs.settings_store.Machine.{Accepted, Outcome}
use Rattle.asked_records.specs.declared.names.RecordName.{RecordName}
use Rattle.relations.specs.declared.options.DeviceOptions.{DeviceOptions}
use Rattle.device_frames.specs.declared.event.Event.{Event}
use Rattle.device_core.specs.Cycle.{IsMadeOf, started}
use Rattle.device_core.specs.Machine.{run_of}
use Rattle.device_core.specs.State.{Live, State, Station, station_named}
use Rattle.octets_law.specs.Headline.{AreCycles, IsCycle, IsLife, Told}
use Rattle.octets_law.specs.Turns.{AreSent, HasLived, IsReady, Lives, TurnsAll, told_of}
use Rattle.octets_law.proofs.Asked.{unasked_such}
use Rattle.octets_law.proofs.Exact.{all_exact}
use Rattle.octets_law.proofs.Identified.{first_identified}
use Rattle.octets_law.proofs.Operations.{IsOfKind}
use Rattle.octets_law.proofs.Turned.{cycle_more}
use Rattle.octets_law.proofs.Split.{AreExact, all_answered, made_by_octets, settled, told_events}

-- What is reported of a cycle is a cycle, read from octets.
is_cycle : (outcomes : List (List Outcome)) (station : Station) (first settings : Settings) (room : ℕ) (events : List Event) → AreSent outcomes station (started station.real first room) events
    → IsMadeOf (run_of outcomes station (started station.real first room) events).accepted first settings
    → IsCycle station.options station.identity.mac first (told_of outcomes station (started station.real first room) events) settings
is_cycle outcomes station first settings room events sent made =
    let exact : AreExact station.options station.identity.mac [] outcomes station (started station.real first room) events =
    all_exact [] outcomes station (started station.real first room) events (λ _. refl) (λ lost. absurd (let e : false ≡ true = lost in cc)) (unasked_such IsOfKind) sent in
    record {
      made = made_by_octets station.options station.identity.mac (told_of outcomes station (started station.real first room) events) (run_of outcomes station (started station.real first room) events).accepted first settings
          (settled station.options station.identity.mac [] outcomes station (started station.real first room) events exact refl refl) made;
      answered = all_answered station.options station.identity.mac [] outcomes station (started station.real first room) events exact refl;
      identified = first_identified outcomes station (started station.real first room) events refl sent;
    }

-- The settings that a start finds on a legal end.
record Ends (image : Image) (accepted : List Accepted) (first : Settings) : Type 0 where
  settings : Settings
  room : ℕ
  made : IsMadeOf accepted first settings
  starts : StartsWith image settings room

ends_of : (image : Image) (accepted : List Accepted) (first : Settings) → LegalEnd image accepted first → Ends image accepted first
ends_of image accepted first (inl boots) = record { settings = made_of accepted first; room = boots.0; made = inl refl; starts = boots.1 }
ends_of image accepted first (inr less) = record {
  settings = made_of less.front first;
  room = less.boots.0;
  made = inr (less.front, less.last, less.parts, less.not_done, refl);
  starts = less.boots.1;
}

-- A cycle, and the start after it.
lives_from : {F : Type 0} {S : ℕ} (as_flash : Flash F S) (station : Station) (begun ran : State F) (flash : F) (first : Settings) (events : List Event) (before now : List Told) (again : State F)
    → IsReady as_flash station first begun → TurnsAll as_flash begun events before now ran → as_flash.image flash ≡ as_flash.image ran.flash
    → again.station ≡ station → ((settings : Settings) (room : ℕ) → StartsWith (as_flash.image flash) settings room → again.live ≡ started station.real settings room)
    → as_flash.image again.flash ≡ as_flash.image flash → Lives as_flash station first events before now again
lives_from as_flash station begun ran flash first events before now again ready all same is known kept =
    let accepted : List Accepted = (run_of all.outcomes begun.station begun.live events).accepted in
    let legal : LegalEnd (as_flash.image ran.flash) accepted first =
    subst (LegalEnd (as_flash.image ran.flash) accepted) (ap (λ (l : Live). l.values.stored) ready.fresh) (all.stretch.safe.legal (ap (λ (l : Live). l.values.has_failed) ready.fresh) ready.left) in
    let ends = ends_of (as_flash.image ran.flash) accepted first legal in
    let begun_as : told_of all.outcomes begun.station begun.live events ≡ told_of all.outcomes station (started station.real first ready.room) events =
    ap (λ s. told_of all.outcomes s begun.live events) ready.station_is ∙ ap (λ l. told_of all.outcomes station l events) ready.fresh in
    let made : IsMadeOf (run_of all.outcomes station (started station.real first ready.room) events).accepted first ends.settings =
    subst (λ (l : Live). IsMadeOf (run_of all.outcomes station l events).accepted first ends.settings) ready.fresh
    (subst (λ (s : Station). IsMadeOf (run_of all.outcomes s begun.live events).accepted first ends.settings) ready.station_is ends.made) in
    let sent : AreSent all.outcomes station (started station.real first ready.room) events =
    subst (λ (l : Live). AreSent all.outcomes station l events) ready.fresh (subst (λ (s : Station). AreSent all.outcomes s begun.live events) ready.station_is all.sent) in
    record {
      transcript = told_of all.outcomes station (started station.real first ready.room) events;
      settings = ends.settings;
      told = all.told ∙ ap (λ l. before ++ l) begun_as;
      events_are = told_events all.outcomes station (started station.real first ready.room) events;
      is = is_cycle all.outcomes station first ends.settings ready.room events sent made;
      ready = record {
        room = ends.room;
        station_is = is;
        fresh = known ends.settings ends.room (subst (λ i. StartsWith i ends.settings ends.room) (sym same) ends.starts);
        left = subst LeftByDevice (sym (kept ∙ same)) (all.stretch.safe.left ready.left);
      };
    }

-- The same if the start may be refused.
pub lives_if : {F : Type 0} {S : ℕ} (as_flash : Flash F S) (station : Station) (begun ran : State F) (flash : F) (first : Settings) (events : List Event) (before now : List Told)
    (again : Result (State F) (BootFault × F)) → IsReady as_flash station first begun → TurnsAll as_flash begun events before now ran → as_flash.image flash ≡ as_flash.image ran.flash
    → IfOk again (λ device. device.station ≡ station)
    → ((settings : Settings) (room : ℕ) → StartsWith (as_flash.image flash) settings room → MatchResult again (λ device. device.live ≡ started station.real settings room) (λ refused. refused.0 ≡ FlashFault))
    → MatchResult again (λ device. as_flash.image device.flash ≡ as_flash.image flash) (λ refused. as_flash.image refused.1 ≡ as_flash.image flash)
    → IfOk again (Lives as_flash station first events before now)
lives_if as_flash station begun ran flash first events before now (Ok again) ready all same is known kept =
    lives_from as_flash station begun ran flash first events before now again ready all same is known kept
lives_if as_flash station begun ran flash first events before now (Err refused) ready all same is known kept = tt

-- ---- cycles

pub map_more : {A B : Type 0} (f : A → B) (front : List A) (last : A) → map f (front ++ last ∷ []) ≡ map f front ++ f last ∷ []
map_more f [] last = refl
map_more f (one ∷ front) last = ap (λ l. f one ∷ l) (map_more f front last)

-- A station, by what it is made of.
pub same_station : (identity same_identity : Identity) (real same_real : Real) (options : DeviceOptions) (named same_named : List RecordName)
    → identity ≡ same_identity → real ≡ same_real → named ≡ same_named
    → station_named identity real options named ≡ station_named same_identity same_real options same_named
same_station identity same_identity real same_real options named same_named i r n = cc

-- A device that starts on a blank chip.
pub ready_blank : {F : Type 0} {S : ℕ} (as_flash : Flash F S) (made station : Station) (device : State F) (image : Image) (room : ℕ) → device.station ≡ made → made ≡ station
    → LeftByDevice image × StartsWith image factory_settings room → ((settings : Settings) (room : ℕ) → StartsWith image settings room → device.live ≡ started station.real settings room)
    → as_flash.image device.flash ≡ image → IsReady as_flash station factory_settings device
ready_blank as_flash made station device image room is same blank known kept = record {
  room = room;
  station_is = is ∙ same;
  fresh = known factory_settings room blank.1;
  left = subst LeftByDevice (sym kept) blank.0;
}

pub no_life : {F : Type 0} {S : ℕ} (as_flash : Flash F S) (station : Station) (device : State F) (taken : List Told) → IsReady as_flash station factory_settings device
    → HasLived as_flash station [] taken taken device
no_life as_flash station device taken ready = record { transcript = []; settings = factory_settings; told = sym (append-nil taken); are = (refl, refl); ready = ready }

-- One cycle more.
pub lived_more : {F : Type 0} {S : ℕ} (as_flash : Flash F S) (station : Station) (cycles : List (List Event)) (events : List Event) (before between now : List Told) (device again : State F)
    → (lived : HasLived as_flash station cycles before between device) → Lives as_flash station lived.settings events between now again → HasLived as_flash station (cycles ++ events ∷ []) before now again
lived_more as_flash station cycles events before between now device again lived one = record {
  transcript = lived.transcript ++ one.transcript;
  settings = one.settings;
  told = one.told ∙ ap (λ l. l ++ one.transcript) lived.told ∙ append_assoc before lived.transcript one.transcript;
  are = cycle_more station.options station.identity.mac cycles events lived.transcript one.transcript factory_settings lived.settings one.settings lived.are one.events_are one.is;
  ready = one.ready;
}

-- The settings of the device are those of its life.
pub is_life : {F : Type 0} {S : ℕ} (as_flash : Flash F S) (station : Station) (cycles : List (List Event)) (before now : List Told) (device : State F)
    → HasLived as_flash station cycles before now device → IsLife station.options station.identity.mac cycles before now device.live.values.running
is_life as_flash station cycles before now device lived =
    (lived.transcript, lived.told, subst (AreCycles station.options station.identity.mac cycles lived.transcript factory_settings) (sym (ap (λ (l : Live). l.values.running) lived.ready.fresh)) lived.are)
