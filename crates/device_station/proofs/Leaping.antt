-- Several units of time at once at a station, and as many Tick events.
use Rattle.std.proofs.Common.{◌≡◌, ◌+◌, ◌-◌, ◌≤◌, ◌<◌, ◌++◌, ◌⊎◌, inl, inr, ℕ, zero, suc, Bool, true, false, Option, Some, None, List, [], ◌∷◌, sum, refl, sym, ap, subst, ◌∙◌, arith, append_assoc}
use Rattle.std.specs.Prelude.{◌&&◌, max, min, nat_eq, if◌then◌else◌}
use Rattle.std.specs.Cmp.Lexicographic.{pointwise, same_text}
use Rattle.lldp.specs.State as near
use Rattle.lldp.specs.Leaps.{sooner}
use Rattle.std.proofs.lemmas.List.{append-nil}
use Rattle.std.proofs.lemmas.List.Sums.{sum_by-cons}
use Rattle.pn_values.specs.declared.identity.Identity.{Identity}
use Rattle.pn_values.specs.declared.settings.Settings.{Settings}
use Rattle.settings_journal.specs.settings_store.State.{Values}
use Rattle.device_frames.specs.Heard.{heard_of}
use Rattle.device_frames.specs.declared.event.Event.TheVariants.{Tick}
use Rattle.device_frames.specs.declared.note.Note.{Note}
use Rattle.device_frames.specs.declared.note.Note.TheVariants.{Done}
use Rattle.device_core.specs.State.{Live, State, Station}
use Rattle.device_core.specs.Machine.{handled_step, heard_step, step_of}
use Rattle.device_core.specs.Leaps.{OnlyTheLastSends as OnlyTheLastOfDevice, live_due_in, ticks_of as device_ticks}
use Rattle.services.specs.declared.announcement.Announcement.{Announcement}
use Rattle.services.specs.declared.announcement.Announcement.TheVariants.{Nothing, First, Second}
use Rattle.services.specs.State as ip
use Rattle.services.specs.Leaps.{announcement_due_in, never}
use Rattle.device_station.specs.Serving.{NoNews, NoneSends, Serving, due_in, knows, observed, sent_by_tick, serving_ticks, ticked}
use Rattle.device_station.specs.Beside.{Beside, beside, event_beside, idle, observing}
use Rattle.device_station.specs.Leaps.{Follows, LeapsAreTicks, Leapt, NoNewsBeside, NoneSendsBeside, OnlyTheLastMeets, OnlyTheLastOfPlain, OnlyTheLastSends, QuietUnitsAreTicks, QuietUnitsBringNoNews, QuietUnitsCount, QuietUnitsCountDown}
use Rattle.device_station.specs.Leaps.{beside_ticks, due_at, due_beside, plain_tick, plain_ticks, services_due, then_leap, tick_beside, tick_of, ticks_of, told_at, told_if}
use Rattle.device_station.proofs.ServingTicks.{before_due, counts_down, no_more, quiet_news}

-- ---- one Tick event

-- A Tick event keeps the settings.
tick_values : (station : Station) (live : Live) → (step_of [] station live Tick).live.values ≡ live.values
unfolding heard_of heard_step handled_step
tick_values station live = refl

pub ticks_values : (units : ℕ) (station : Station) (live : Live) → (device_ticks units station live).live.values ≡ live.values
ticks_values zero station live = refl
ticks_values (suc units) station live = tick_values station (device_ticks units station live).live ∙ ticks_values units station live

-- the services after a tick beside a device with these settings, and what they send
abbrev after_tick : Values → Serving → Serving
after_tick values state = if values.is_lost then state else observed (ticked state) values.running

abbrev sent_beside : Values → Serving → List (List ℕ)
sent_beside values state = if values.is_lost then [] else sent_by_tick state

services_if : (b : Bool) (one other : Beside) → (if b then one else other).services ≡ (if b then one.services else other.services)
services_if true one other = refl
services_if false one other = refl

sent_if : (b : Bool) (one other : Beside) → (if b then one else other).sent ≡ (if b then one.sent else other.sent)
sent_if true one other = refl
sent_if false one other = refl

tick_services : (identity : Identity) (state : Serving) (values : Values) (note : Note) → (beside identity state values note Tick).services ≡ after_tick values state
tick_services identity state values note = services_if values.is_lost (idle state note) (observing values.running (event_beside identity state note Tick))

tick_sent : (identity : Identity) (state : Serving) (values : Values) (note : Note) → (beside identity state values note Tick).sent ≡ sent_beside values state
tick_sent identity state values note = sent_if values.is_lost (idle state note) (observing values.running (event_beside identity state note Tick))

-- ---- ticks one by one

-- the services after ticks beside a device with these settings
abbrev pub side : Values → ℕ → Serving → Serving
side values zero state = state
side values (suc units) state = after_tick values (side values units state)

pub live_alone : (units : ℕ) (station : Station) (live : Live) (state : Serving) → (plain_ticks units station live state).live ≡ (device_ticks units station live).live
live_alone zero station live state = refl
live_alone (suc units) station live state = ap (λ (l : Live). (step_of [] station l Tick).live) (live_alone units station live state)

-- the settings with which the services see a tick
seen_values : (units : ℕ) (station : Station) (live : Live) (state : Serving) → (step_of [] station (plain_ticks units station live state).live Tick).live.values ≡ live.values
seen_values units station live state =
    tick_values station (plain_ticks units station live state).live ∙ (ap (λ (l : Live). l.values) (live_alone units station live state) ∙ ticks_values units station live)

pub services_alone : (units : ℕ) (station : Station) (live : Live) (state : Serving) → (plain_ticks units station live state).services ≡ side live.values units state
services_alone zero station live state = refl
services_alone (suc units) station live state =
    let before = plain_ticks units station live state in
    let step = step_of [] station before.live Tick in
    tick_services station.identity before.services step.live.values step.note
    ∙ (ap (λ (v : Values). after_tick v before.services) (seen_values units station live state)
    ∙ ap (after_tick live.values) (services_alone units station live state))

-- what the next tick sends
next_sent : (units : ℕ) (station : Station) (live : Live) (state : Serving)
    → (plain_tick station (plain_ticks units station live state).live (plain_ticks units station live state).services).frames
    ≡ (step_of [] station (device_ticks units station live).live Tick).frames ++ sent_beside live.values (side live.values units state)
next_sent units station live state =
    let before = plain_ticks units station live state in
    let step = step_of [] station before.live Tick in
    ap (λ (f : List (List ℕ)). step.frames ++ f)
    (tick_sent station.identity before.services step.live.values step.note
    ∙ (ap (λ (v : Values). sent_beside v before.services) (seen_values units station live state)
    ∙ ap (sent_beside live.values) (services_alone units station live state)))
    ∙ ap (λ (l : Live). (step_of [] station l Tick).frames ++ sent_beside live.values (side live.values units state)) (live_alone units station live state)

-- ---- units with which nothing is sent

none_of_both : (xs ys : List (List ℕ)) → xs ≡ [] → ys ≡ [] → xs ++ ys ≡ []
none_of_both xs ys one two = ap (λ (l : List (List ℕ)). l ++ ys) one ∙ two

-- the services send nothing in the first ticks
abbrev pub AreSilent : Values → ℕ → Serving → Type 0
AreSilent values units state = (before : ℕ) → before < units → sent_beside values (side values before state) ≡ []

-- the frames of a device that sends nothing earlier
last_step : (units : ℕ) (station : Station) (live : Live) → OnlyTheLastOfDevice (suc units) station live
    → (step_of [] station (device_ticks units station live).live Tick).frames ≡ (device_ticks (suc units) station live).frames
last_step units station live last =
    ap (λ (l : List (List ℕ)). l ++ (step_of [] station (device_ticks units station live).live Tick).frames) (sym (last units (omega arith)))

none_sent : (units : ℕ) (station : Station) (live : Live) (state : Serving) → OnlyTheLastOfDevice (suc units) station live → AreSilent live.values units state
    → (plain_ticks units station live state).frames ≡ []
none_sent zero station live state last silent = refl
none_sent (suc units) station live state last silent =
    let earlier : OnlyTheLastOfDevice (suc units) station live = λ before sooner. last before (omega (arith, sooner)) in
    none_of_both (plain_ticks units station live state).frames
    (plain_tick station (plain_ticks units station live state).live (plain_ticks units station live state).services).frames
    (none_sent units station live state earlier (λ before sooner. silent before (omega (arith, sooner))))
    (next_sent units station live state
    ∙ none_of_both (step_of [] station (device_ticks units station live).live Tick).frames (sent_beside live.values (side live.values units state))
    (last_step units station live earlier ∙ last (suc units) (omega arith)) (silent units (omega arith)))

pub leap_last : (units : ℕ) (station : Station) (live : Live) (state : Serving) → OnlyTheLastOfDevice (suc units) station live → AreSilent live.values units state
    → OnlyTheLastOfPlain (suc units) station live state
leap_last units station live state last silent before sooner =
    none_sent before station live state (λ first earlier. last first (omega (arith, earlier, sooner))) (λ first earlier. silent first (omega (arith, earlier, sooner)))

pub leap_frames : (units : ℕ) (station : Station) (live : Live) (state : Serving) → OnlyTheLastOfDevice (suc units) station live → AreSilent live.values units state
    → (device_ticks (suc units) station live).frames ++ sent_beside live.values (side live.values units state) ≡ (plain_ticks (suc units) station live state).frames
leap_frames units station live state last silent =
    let sent = sent_beside live.values (side live.values units state) in
    ap (λ (l : List (List ℕ)). l ++ sent) (sym (last_step units station live last))
    ∙ (sym (next_sent units station live state)
    ∙ ap (λ (l : List (List ℕ)). l ++ (plain_tick station (plain_ticks units station live state).live (plain_ticks units station live state).services).frames)
    (sym (none_sent units station live state last silent)))

-- ---- services beside a device that lost power

pub idle_side : (values : Values) (units : ℕ) (state : Serving) → values.is_lost ≡ true → side values units state ≡ state
idle_side values zero state lost = refl
idle_side values (suc units) state lost =
    ap (after_tick values) (idle_side values units state lost) ∙ ap (λ (b : Bool). if b then state else observed (ticked state) values.running) lost

pub idle_sent : (values : Values) (state : Serving) → values.is_lost ≡ true → sent_beside values state ≡ []
idle_sent values state lost = ap (λ (b : Bool). if b then [] else sent_by_tick state) lost

-- ---- services that know the running settings

kept_address : (units : ℕ) (state : Serving) → (serving_ticks units state).ip.address ≡ state.ip.address
kept_address zero state = refl
kept_address (suc units) state = kept_address units state

kept_name : (units : ℕ) (state : Serving) → (serving_ticks units state).name ≡ state.name
kept_name zero state = refl
kept_name (suc units) state = kept_name units state

both_parts : (one other : Bool) → (one && other) ≡ true → (one ≡ true) × (other ≡ true)
both_parts true true e = (refl, refl)
both_parts true false e = absurd cc
both_parts false other e = absurd cc

observed_same : (state : Serving) (running : Settings) → knows state running ≡ true → observed state running ≡ state
observed_same state running same =
    let parts = both_parts (pointwise nat_eq running.suite.address state.ip.address) (pointwise nat_eq running.name state.name) same in
    let with_name : List ℕ → Serving = λ name. record state { ip = ip.observed state.ip running.suite.address; name = name } in
    ap with_name (same_text running.name state.name (sym parts.1)) ∙ rw parts.0 refl

still_known : (units : ℕ) (state : Serving) (running : Settings) → knows state running ≡ true → knows (ticked (serving_ticks units state)) running ≡ true
still_known units state running same =
    ap (λ (address : List ℕ). pointwise nat_eq running.suite.address address && pointwise nat_eq running.name (serving_ticks units state).name) (kept_address units state)
    ∙ (ap (λ (name : List ℕ). pointwise nat_eq running.suite.address state.ip.address && pointwise nat_eq running.name name) (kept_name units state) ∙ same)

pub after_seen : (values : Values) (state : Serving) → values.is_lost ≡ false → after_tick values state ≡ observed (ticked state) values.running
after_seen values state there = ap (λ (b : Bool). if b then state else observed (ticked state) values.running) there

pub sent_seen : (values : Values) (state : Serving) → values.is_lost ≡ false → sent_beside values state ≡ sent_by_tick state
sent_seen values state there = ap (λ (b : Bool). if b then [] else sent_by_tick state) there

seen_side : (values : Values) (units : ℕ) (state : Serving) → values.is_lost ≡ false → knows state values.running ≡ true
    → side values units state ≡ serving_ticks units state
seen_side values zero state there same = refl
seen_side values (suc units) state there same =
    let now = serving_ticks units state in
    ap (after_tick values) (seen_side values units state there same)
    ∙ (after_seen values now there
    ∙ observed_same (ticked now) values.running (still_known units state values.running same))

-- the services know the settings, or there is only the one tick
abbrev pub IsSeen : Values → ℕ → Serving → Type 0
IsSeen values units state = (knows state values.running ≡ true) ⊎ (units ≡ 0)

pub quiet_side : (values : Values) (units : ℕ) (state : Serving) → values.is_lost ≡ false → IsSeen values units state → side values units state ≡ serving_ticks units state
quiet_side values units state there (inl same) = seen_side values units state there same
quiet_side values units state there (inr none) = ap (λ (n : ℕ). side values n state) none ∙ sym (ap (λ (n : ℕ). serving_ticks n state) none)

pub silent_side : (values : Values) (units : ℕ) (state : Serving) → values.is_lost ≡ false → IsSeen values units state → NoneSends units state → AreSilent values units state
silent_side values units state there (inl same) none before sooner =
    sent_seen values (side values before state) there
    ∙ (ap sent_by_tick (seen_side values before state there same) ∙ none before sooner)
silent_side values units state there (inr only) none before sooner = absurd (omega (arith, sooner, only))

-- ---- at most as many units as are due

some_due : (announcement : Announcement) → 0 < announcement_due_in announcement
some_due Nothing = omega arith
some_due First = omega arith
some_due (Second ticks) = omega arith

some_due_by : (b : Bool) (announcement : Announcement) → 0 < (if b then 1 else announcement_due_in announcement)
some_due_by true announcement = omega arith
some_due_by false announcement = some_due announcement

near_some : (known : Option near.Known) (ticks : ℕ) → 0 < ticks → 0 < sooner known ticks
near_some None ticks some = some
near_some (Some known) ticks some = omega (arith, some)

pub services_some : (state : Serving) → 0 < due_in state
services_some state =
    let first = some_due_by (ip.is_defended state.ip) state.ip.announcement in
    let second = near_some state.near.known (max state.near.next 1) (omega arith) in
    omega (arith, first, second)

due_there : (values : Values) (state : Serving) → values.is_lost ≡ false
    → services_due values state ≡ (if knows state values.running then due_in state else 1)
due_there values state there = ap (λ (b : Bool). if b then 4294967295 else (if knows state values.running then due_in state else 1)) there

within_seen : (b : Bool) (units due : ℕ) → 0 < due → suc units ≤ (if b then due else 1) → (units < due) × ((b ≡ true) ⊎ (units ≡ 0))
within_seen true units due some within = (omega (arith, within), inl refl)
within_seen false units due some within = (omega (arith, within, some), inr (omega (arith, within)))

pub within : (units : ℕ) (values : Values) (state : Serving) → values.is_lost ≡ false → suc units ≤ services_due values state → (units < due_in state) × IsSeen values units state
within units values state there due =
    within_seen (knows state values.running) units (due_in state) (services_some state)
    (subst (λ (n : ℕ). suc units ≤ n) (due_there values state there) due)

-- the same where power is not lost and the running settings are these
pub within_at : (units : ℕ) (is_lost : Bool) (running : Settings) (state : Serving) → is_lost ≡ false → suc units ≤ due_at is_lost running state → units < due_in state
within_at units is_lost running state there due =
    (within_seen (knows state running) units (due_in state) (services_some state)
    (subst (λ (b : Bool). suc units ≤ (if b then 4294967295 else (if knows state running then due_in state else 1))) there due)).0

-- what is due beside a device with these values, whose parts are known
pub due_of_parts : (units : ℕ) (values : Values) (state : Serving) (is_lost : Bool) (running : Settings) → values.is_lost ≡ is_lost → values.running ≡ running
    → units ≤ due_at is_lost running state → units ≤ services_due values state
due_of_parts units values state is_lost running lost runs due =
    subst (λ (b : Bool). units ≤ due_at b values.running state) (sym lost) (subst (λ (r : Settings). units ≤ due_at is_lost r state) (sym runs) due)

pub parts_of_due : (units : ℕ) (values : Values) (state : Serving) (is_lost : Bool) (running : Settings) → is_lost ≡ values.is_lost → running ≡ values.running
    → units ≤ services_due values state → units ≤ due_at is_lost running state
parts_of_due units values state is_lost running lost runs due =
    subst (λ (b : Bool). units ≤ due_at b running state) (sym lost) (subst (λ (r : Settings). units ≤ due_at values.is_lost r state) (sym runs) due)

lesser : (units one other : ℕ) → units ≤ min one other → units ≤ other
lesser units one other few = omega (arith, few)

-- the same after a leap of the device
pub due_behind : {F : Type 0} (old new : State F) (units : ℕ) (state : Serving) (is_lost : Bool) (running : Settings)
    → new ≡ record old { live = (device_ticks units old.station old.live).live } → is_lost ≡ new.live.values.is_lost → running ≡ new.live.values.running
    → units ≤ due_beside old.live state → units ≤ due_at is_lost running state
due_behind {F} old new units state is_lost running is lost runs due =
    let values : new.live.values ≡ old.live.values = ap (λ (d : State F). d.live.values) is ∙ ticks_values units old.station old.live in
    parts_of_due units old.live.values state is_lost running (lost ∙ ap (λ (v : Values). v.is_lost) values) (runs ∙ ap (λ (v : Values). v.running) values)
    (lesser units (live_due_in old.live) (services_due old.live.values state) due)

pub some_units : (units : ℕ) → (units ≡ 0 → ⊥) → 0 < units
some_units zero none = absurd (none refl)
some_units (suc units) none = omega arith

pub one_before : (units : ℕ) → 0 < units → units ≡ suc (units - 1)
one_before units some = omega (arith, some)

-- ---- the services beside a device with these settings, by their own ticks

beside_side : (identity : Identity) (values : Values) (units : ℕ) (state : Serving) → beside_ticks identity values units state ≡ side values units state
beside_side identity values zero state = refl
beside_side identity values (suc units) state =
    tick_services identity (beside_ticks identity values units state) values Done ∙ ap (after_tick values) (beside_side identity values units state)

beside_sent : (identity : Identity) (values : Values) (units : ℕ) (state : Serving) → (tick_beside identity values (beside_ticks identity values units state)).sent ≡ sent_beside values (side values units state)
beside_sent identity values units state =
    tick_sent identity (beside_ticks identity values units state) values Done ∙ ap (sent_beside values) (beside_side identity values units state)

pub quiet_units : QuietUnitsAreTicks
quiet_units identity values units state there few =
    let inside = within units values state there (omega (arith, few)) in
    let none = (before_due units state inside.0).0 in (
      beside_side identity values units state ∙ quiet_side values units state there inside.1,
      λ before sooner. beside_sent identity values before state ∙ silent_side values units state there inside.1 none before sooner,
      inside.0,
    )

counts_by : (b : Bool) (units due more later : ℕ) → units < (if b then due else 1) → due ≤ units + more → later ≡ (if b then more else 1) → (if b then due else 1) ≤ units + later
counts_by true units due more later few counts is = omega (arith, counts, is)
counts_by false units due more later few counts is = omega (arith, few, is)

kept_known : (units : ℕ) (state : Serving) (running : Settings) → knows (serving_ticks units state) running ≡ knows state running
kept_known units state running =
    ap (λ (address : List ℕ). pointwise nat_eq running.suite.address address && pointwise nat_eq running.name (serving_ticks units state).name) (kept_address units state)
    ∙ ap (λ (name : List ℕ). pointwise nat_eq running.suite.address state.ip.address && pointwise nat_eq running.name name) (kept_name units state)

pub quiet_count : QuietUnitsCount
quiet_count values units state there few =
    let inside = within units values state there (omega (arith, few)) in
    let later = serving_ticks units state in
    let known : (if knows later values.running then due_in later else 1) ≡ (if knows state values.running then due_in later else 1) =
    ap (λ (b : Bool). if b then due_in later else 1) (kept_known units state values.running) in
    let counts : due_in state ≤ units + due_in later = (before_due units state inside.0).1 in
    let was : services_due values state ≡ (if knows state values.running then due_in state else 1) = due_there values state there in
    let more = counts_by (knows state values.running) units (due_in state) (due_in later) (services_due values later)
    (subst (λ (n : ℕ). units < n) was few) counts (due_there values later there ∙ known) in
    omega (arith, was, more)

down_by : (b : Bool) (units due more later : ℕ) → units < (if b then due else 1) → (if b then due else 1) < never → (due < never → units + more ≤ due)
    → later ≡ (if b then more else 1) → units + later ≤ (if b then due else 1)
down_by true units due more later few some counts is = let less = counts some in omega (arith, less, is)
down_by false units due more later few some counts is = omega (arith, few, is)

pub quiet_down : QuietUnitsCountDown
quiet_down values units state there few some =
    let inside = within units values state there (omega (arith, few)) in
    let later = serving_ticks units state in
    let known : (if knows later values.running then due_in later else 1) ≡ (if knows state values.running then due_in later else 1) =
    ap (λ (b : Bool). if b then due_in later else 1) (kept_known units state values.running) in
    let was : services_due values state ≡ (if knows state values.running then due_in state else 1) = due_there values state there in
    let less = down_by (knows state values.running) units (due_in state) (due_in later) (services_due values later)
    (subst (λ (n : ℕ). units < n) was few) (subst (λ (n : ℕ). n < never) was some) (counts_down units state inside.0) (due_there values later there ∙ known) in
    omega (arith, was, less)

-- whether there are news before each of these ticks
abbrev pub SameNews : Values → ℕ → Serving → Type 0
SameNews values units state = (before : ℕ) → before < units → (side values before state).has_news ≡ state.has_news

news_kept : (ticks : ℕ) (state : Serving) → NoNews ticks state → (serving_ticks ticks state).has_news ≡ state.has_news
news_kept zero state none = refl
news_kept (suc ticks) state none =
    let now = serving_ticks ticks state in
    no_more now.has_news (near.is_over now.near.known) (none ticks (omega arith))
    ∙ news_kept ticks state (λ before sooner. none before (omega (arith, sooner)))

pub quiet_no_news : QuietUnitsBringNoNews
quiet_no_news units state few = news_kept units state (quiet_news units state few)

same_news : (values : Values) (units : ℕ) (state : Serving) → values.is_lost ≡ false → IsSeen values units state → NoNews units state → SameNews values (suc units) state
same_news values units state there (inl same) none before sooner =
    ap (λ (s : Serving). s.has_news) (seen_side values before state there same)
    ∙ news_kept before state (λ first earlier. none first (omega (arith, earlier, sooner)))
same_news values units state there (inr only) none zero sooner = refl
same_news values units state there (inr only) none (suc before) sooner = absurd (omega (arith, sooner, only))

lost_news : (values : Values) (units : ℕ) (state : Serving) → values.is_lost ≡ true → SameNews values units state
lost_news values units state lost before sooner = ap (λ (s : Serving). s.has_news) (idle_side values before state lost)

follows_at : (identity : Identity) (values : Values) (units : ℕ) (state after : Serving) (sent : List (List ℕ)) → after ≡ side values (suc units) state → AreSilent values units state
    → SameNews values (suc units) state → sent ≡ sent_beside values (side values units state) → Follows identity values (suc units) state after sent
follows_at identity values units state after sent is silent quiet frames =
    let count : suc units - 1 ≡ units = omega arith in
    record {
      is = is ∙ sym (beside_side identity values (suc units) state);
      none = λ before sooner. beside_sent identity values before state ∙ silent before (omega (arith, sooner));
      quiet = λ before sooner. ap (λ (s : Serving). s.has_news) (beside_side identity values before state) ∙ quiet before sooner;
      frames = frames ∙ (sym (beside_sent identity values units state) ∙ ap (λ (n : ℕ). (tick_beside identity values (beside_ticks identity values n state)).sent) (sym count));
    }

pub follows : (identity : Identity) (values : Values) (units before : ℕ) (state after : Serving) (sent : List (List ℕ)) → units ≡ suc before → after ≡ side values (suc before) state
    → AreSilent values before state → SameNews values (suc before) state → sent ≡ sent_beside values (side values before state) → Follows identity values units state after sent
follows identity values units before state after sent count is silent quiet frames =
    subst (λ (n : ℕ). Follows identity values n state after sent) (sym count) (follows_at identity values before state after sent is silent quiet frames)

-- Units before anything is due of the services, once power is lost and else.
pub lost_quiet : (identity : Identity) (values : Values) (units : ℕ) (state : Serving) → values.is_lost ≡ true
    → (state ≡ beside_ticks identity values units state) × NoneSendsBeside units identity values state × NoNewsBeside units identity values state
lost_quiet identity values units state lost = (
  sym (beside_side identity values units state ∙ idle_side values units state lost),
  λ before sooner. beside_sent identity values before state ∙ idle_sent values (side values before state) lost,
  λ before sooner. ap (λ (s : Serving). s.has_news) (beside_side identity values before state ∙ idle_side values before state lost),
)

pub quiet_passed : (identity : Identity) (values : Values) (units : ℕ) (state after : Serving) → values.is_lost ≡ false → units < services_due values state → after ≡ serving_ticks units state
    → (after ≡ beside_ticks identity values units state) × NoneSendsBeside units identity values state × NoNewsBeside units identity values state
quiet_passed identity values units state after there few is =
    let all = quiet_units identity values units state there few in (
      is ∙ sym all.0,
      all.1,
      λ before sooner.
          let first = quiet_units identity values before state there (omega (arith, sooner, few)) in
          ap (λ (s : Serving). s.has_news) first.0 ∙ quiet_no_news before state first.2,
    )

pub lost_follows : (identity : Identity) (values : Values) (units before : ℕ) (state : Serving) (sent : List (List ℕ)) → units ≡ suc before → values.is_lost ≡ true → sent ≡ []
    → Follows identity values units state state sent
lost_follows identity values units before state sent count lost none =
    follows identity values units before state state sent count (sym (idle_side values (suc before) state lost))
    (λ first sooner. idle_sent values (side values first state) lost) (lost_news values (suc before) state lost) (none ∙ sym (idle_sent values (side values before state) lost))

pub ticks_follow : (identity : Identity) (values : Values) (units before : ℕ) (state after : Serving) (sent : List (List ℕ)) → units ≡ suc before → values.is_lost ≡ false
    → IsSeen values before state → NoneSends before state → NoNews before state
    → after ≡ observed (ticked (serving_ticks before state)) values.running → sent ≡ sent_by_tick (serving_ticks before state)
    → Follows identity values units state after sent
ticks_follow identity values units before state after sent count there seen none quiet is frames =
    let now = quiet_side values before state there seen in
    follows identity values units before state after sent count
    (is ∙ (sym (after_seen values (serving_ticks before state) there) ∙ ap (after_tick values) (sym now)))
    (silent_side values before state there seen none) (same_news values before state there seen quiet)
    (frames ∙ (sym (sent_seen values (serving_ticks before state) there) ∙ ap (sent_beside values) (sym now)))

-- ---- a leap of both

-- What a leap of this many units leaves, if the services are then this and the frames of both are these.
abbrev pub IsLeap : ℕ → Station → Live → Serving → Serving → List (List ℕ) → Type 0
IsLeap units station live state after sent =
    (after ≡ (plain_ticks units station live state).services)
    × ((device_ticks units station live).frames ++ sent ≡ (plain_ticks units station live state).frames)
    × OnlyTheLastOfPlain units station live state × OnlyTheLastMeets units station live state

leap_at : (units : ℕ) (station : Station) (live : Live) (state after : Serving) (sent : List (List ℕ)) → OnlyTheLastOfDevice (suc units) station live
    → Follows station.identity live.values (suc units) state after sent → IsLeap (suc units) station live state after sent
leap_at units station live state after sent last follow =
    let identity = station.identity in
    let values = live.values in
    let one : suc units - 1 ≡ units = omega arith in
    let silent : AreSilent values units state = λ before sooner. sym (beside_sent identity values before state) ∙ follow.none before (omega (arith, sooner)) in (
      follow.is ∙ (beside_side identity values (suc units) state ∙ sym (services_alone (suc units) station live state)),
      ap (λ (s : List (List ℕ)). (device_ticks (suc units) station live).frames ++ s)
          (follow.frames ∙ (ap (λ (n : ℕ). (tick_beside identity values (beside_ticks identity values n state)).sent) one ∙ beside_sent identity values units state))
          ∙ leap_frames units station live state last silent,
      leap_last units station live state last silent,
      λ before sooner. ap (λ (s : Serving). s.has_news) (services_alone before station live state ∙ sym (beside_side identity values before state)) ∙ follow.quiet before sooner,
    )

pub leap_of : (units before : ℕ) (station : Station) (live : Live) (state after : Serving) (sent : List (List ℕ)) → units ≡ suc before → OnlyTheLastOfDevice units station live
    → Follows station.identity live.values units state after sent → IsLeap units station live state after sent
leap_of units before station live state after sent count last follow =
    subst (λ (n : ℕ). IsLeap n station live state after sent) (sym count)
    (leap_at before station live state after sent (subst (λ (n : ℕ). OnlyTheLastOfDevice n station live) count last)
    (subst (λ (n : ℕ). Follows station.identity live.values n state after sent) count follow))

-- The same after a leap of the device.
pub leap_after : {F : Type 0} (old new : State F) (units : ℕ) (state after : Serving) (sent : List (List ℕ)) → 0 < units
    → new ≡ record old { live = (device_ticks units old.station old.live).live } → OnlyTheLastOfDevice units old.station old.live
    → Follows new.station.identity new.live.values units state after sent → IsLeap units old.station old.live state after sent
leap_after {F} old new units state after sent some is last follow =
    let values : new.live.values ≡ old.live.values = ap (λ (d : State F). d.live.values) is ∙ ticks_values units old.station old.live in
    let identity : new.station.identity ≡ old.station.identity = ap (λ (d : State F). d.station.identity) is in
    leap_of units (units - 1) old.station old.live state after sent (omega (arith, some)) last
    (subst (λ (v : Values). Follows old.station.identity v units state after sent) values
    (subst (λ (i : Identity). Follows i new.live.values units state after sent) identity follow))

-- ---- the neighbour is reported before the first unit

ready_quiet : (b : Bool) (station : Station) (live : Live) (state : Serving) → state.has_news ≡ b → (told_if b station live state).services.has_news ≡ false
ready_quiet true station live state is = refl
ready_quiet false station live state is = is

pub told_quiet : (station : Station) (live : Live) (state : Serving) → (told_at station live state).services.has_news ≡ false
told_quiet station live state = ready_quiet state.has_news station live state refl

-- A tick at services without news.
tick_quiet : (station : Station) (now : Leapt) → now.services.has_news ≡ false → tick_of station now.live now.services ≡ plain_tick station now.live now.services
tick_quiet station now quiet =
    ap (λ (b : Bool). let ready = told_if b station now.live now.services in plain_tick station ready.live ready.services) quiet

-- Ticks are those with a report before them, if there are news at most after the last.
pub told_ticks : (units : ℕ) (station : Station) (live : Live) (state : Serving)
    → OnlyTheLastMeets (suc units) station (told_at station live state).live (told_at station live state).services
    → ticks_of (suc units) station live state ≡ plain_ticks (suc units) station (told_at station live state).live (told_at station live state).services
told_ticks zero station live state meets = refl
told_ticks (suc units) station live state meets =
    let ready = told_at station live state in
    let now = plain_ticks (suc units) station ready.live ready.services in
    let quiet = meets (suc units) (omega arith) ∙ told_quiet station live state in
    ap (λ (l : Leapt). then_leap l (tick_of station l.live l.services)) (told_ticks units station live state (λ before sooner. meets before (omega (arith, sooner))))
    ∙ ap (then_leap now) (tick_quiet station now quiet)

pub told_last : (units : ℕ) (station : Station) (live : Live) (state : Serving)
    → OnlyTheLastMeets (suc units) station (told_at station live state).live (told_at station live state).services
    → OnlyTheLastOfPlain (suc units) station (told_at station live state).live (told_at station live state).services
    → OnlyTheLastSends (suc units) station live state
told_last units station live state meets last zero sooner = refl
told_last units station live state meets last (suc before) sooner =
    ap (λ (l : Leapt). l.frames) (told_ticks before station live state (λ first earlier. meets first (omega (arith, earlier, sooner)))) ∙ last (suc before) sooner

-- ---- leaps one after another

abbrev sent_with : Live → Serving → List (List ℕ) → Leapt
sent_with live state frames = record { live = live; services = state; frames = frames }

abbrev and_tick : Station → Leapt → Leapt
and_tick station before = then_leap before (tick_of station before.live before.services)

ticks_more : (station : Station) (live : Live) (state : Serving) (units more : ℕ)
    → ticks_of (units + more) station live state
    ≡ then_leap (ticks_of units station live state) (ticks_of more station (ticks_of units station live state).live (ticks_of units station live state).services)
ticks_more station live state units zero =
    let sent = ticks_of units station live state in
    let none : units + 0 ≡ units = omega arith in
    ap (λ (n : ℕ). ticks_of n station live state) none ∙ ap (sent_with sent.live sent.services) (sym (append-nil sent.frames))
ticks_more station live state units (suc more) =
    let sent = ticks_of units station live state in
    let next = ticks_of more station sent.live sent.services in
    let last = tick_of station next.live next.services in
    let one : units + suc more ≡ suc (units + more) = omega arith in
    ap (λ (n : ℕ). ticks_of n station live state) one
    ∙ (ap (and_tick station) (ticks_more station live state units more)
    ∙ ap (sent_with last.live last.services) (append_assoc sent.frames next.frames last.frames))

pub leaps_are_ticks : LeapsAreTicks
leaps_are_ticks station live state [] = refl
leaps_are_ticks station live state (units ∷ leaps) =
    let first = ticks_of units station live state in
    ap (then_leap first) (leaps_are_ticks station first.live first.services leaps)
    ∙ (sym (ticks_more station live state units (sum leaps)) ∙ ap (λ (n : ℕ). ticks_of n station live state) (sym (sum_by-cons (λ (x : ℕ). x) units leaps)))
