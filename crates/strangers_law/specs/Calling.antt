-- Calls of other stations to a device: they change nothing but the stored answers and what is asked of the application, and as long as at most three
-- other stations call, the answer that is stored for the controller remains. By their octets alone.
use Rattle.std.specs.Prelude.{◌≡◌, ◌≤◌, ◌==◌, ◌&&◌, ◌||◌, ℕ, Bool, true, false, not, List, [], ◌∷◌, drop, take, length, if◌then◌else◌, Some, None, IsSome}
use Rattle.std.specs.List.{AllByRecursion, list_any}
use Rattle.flash_model.specs.declared.flash.Flash.{Ghosts as Flash}
use Rattle.pn_values.specs.declared.identity.Identity.{Identity}
use Rattle.rpc_core.specs.Cache.{Kept, is_of, kept_more, kept_of}
use Rattle.asked_records.specs.Asked.{AskedState, question_in}
use Rattle.asked_records.specs.declared.question.Question.{Question}
use Rattle.relations.specs.declared.options.DeviceOptions.{DeviceOptions}
use Rattle.device_frames.specs.Heard.{Heard, Reported, Calls}
use Rattle.device_frames.specs.declared.note.Note.{Note}
use Rattle.device_core.specs.State.{State}
use Rattle.device_core.specs.Steps.{Steps}
use Rattle.octets_law.specs.Headline.{is_stored}
use Rattle.octets_law.specs.Octets.{activity_of, in_order, untagged}
use Rattle.strangers_law.specs.Quiet.{belongs_in, heard_in, is_call}
use Rattle.strangers_law.specs.Strange.{same}

-- ---- calls of others

-- The operation of a call, at its place (C706, 12.5): 0 is Connect.
abbrev pub operation_in : List ℕ → ℕ
operation_in call = in_order 68 2 call

-- Whether an activity is one of these.
abbrev pub is_among : List ℕ → List (List ℕ) → Bool
is_among activity others = list_any (λ other. same other activity) others

-- A call to this station with one of these activities that is no Connect. Everything is read at fixed places of a frame without its VLAN tag. A Read
-- Implicit may have any activity if the device does not store the answers to these (`is_stored` in the laws of octets).
abbrev pub is_call_among : DeviceOptions → List (List ℕ) → List ℕ → List ℕ → Bool
is_call_among options others station frame =
    same (take 6 frame) station && is_call frame && (is_among (activity_of (drop 42 frame)) others || not (is_stored options (drop 42 frame)))
    && not (operation_in (drop 42 frame) == 0)

-- Such a call does not belong to the relation of the device, if it has one. A Connect is excluded: without a relation it makes one, and with one its
-- refusal is logged.
pub record IsCallOf {F : Type 0} (others : List (List ℕ)) (device : State F) (octets : List ℕ) : Type 0 where
  pub call : is_call_among device.station.options others device.station.identity.mac.octets (untagged octets) ≡ true
  pub strange : belongs_in device.station.identity.mac.octets device.live.rest.link (untagged octets) ≡ false

-- At most three other activities. With four the stored answer of the controller can be replaced, and a call that it repeats is carried out again. The
-- activities of Read Implicit whose answers are not stored need not be among them.
pub record AreOthers (own : List ℕ) (others : List (List ℕ)) : Type 0 where
  pub few : length others ≤ 3
  pub apart : is_among own others ≡ false

-- ---- the stored answers

-- The stored answers, newest first, that are newer than the one of this activity.
abbrev pub newer : List ℕ → List Kept → List Kept
newer activity [] = []
newer activity (kept ∷ calls) = if is_of activity kept then [] else kept ∷ newer activity calls

-- Activities without this one.
abbrev pub without_one : List ℕ → List (List ℕ) → List (List ℕ)
without_one activity [] = []
without_one activity (other ∷ others) = if same other activity then others else other ∷ without_one activity others

-- Each of these answers is of one of these activities, and each of a different one.
abbrev pub AreOf : List (List ℕ) → List Kept → Type 0
AreOf others [] = Unit {0}
AreOf others (kept ∷ calls) = (is_among kept.activity others ≡ true) × AreOf (without_one kept.activity others) calls

-- Only answers of others are newer than the one of this activity, if it is stored.
abbrev pub IsRecent : List ℕ → List (List ℕ) → List Kept → Type 0
IsRecent own others calls = IsSome (kept_of own calls) → AreOf others (newer own calls)

-- ---- two devices

-- The call that the application is asked, if it is asked one, is of this activity.
abbrev pub IsAskedOwn : List ℕ → AskedState → Type 0
IsAskedOwn own asked = (question : Question) → question_in asked ≡ Some question → question.header.activity ≡ own

-- A device with other stored answers.
abbrev pub with_calls : {F : Type 0} → List Kept → State F → State F
with_calls calls device = record {
  flash = device.flash;
  station = device.station;
  live = record { values = device.live.values; rest = record device.live.rest { calls = calls } };
}

-- The device with these stored answers, of whose application this is asked.
abbrev pub with_asked : {F : Type 0} → List Kept → AskedState → State F → State F
with_asked calls asked device = record {
  flash = device.flash;
  station = device.station;
  live = record { values = device.live.values; rest = record device.live.rest { calls = calls; asked = asked } };
}

-- A device that others call too, and one that they do not call: both are the same except for the stored answers, and the answer that is stored for
-- this activity is the same. The call that the application is asked, if it is asked one, is of this activity.
pub record IsLike {F : Type 0} (own : List ℕ) (others : List (List ℕ)) (among alone : State F) : Type 0 where
  pub is : alone ≡ with_calls alone.live.rest.calls among
  pub kept : kept_of own alone.live.rest.calls ≡ kept_of own among.live.rest.calls
  pub recent : IsRecent own others among.live.rest.calls
  pub asked : IsAskedOwn own among.live.rest.asked

-- ---- the laws

-- A call of others changes nothing but the stored answers and what is asked of the application. At a station that names no records that does
-- not change. If it does not, the device remains like any device that it was like before.
pub record IsCalled {F : Type 0} (own : List ℕ) (others : List (List ℕ)) (old new : State F) : Type 0 where
  pub is : new ≡ with_asked new.live.rest.calls new.live.rest.asked old
  pub unasked : old.station.named ≡ [] → new.live.rest.asked ≡ old.live.rest.asked
  pub like : new.live.rest.asked ≡ old.live.rest.asked → (alone : State F) → IsLike own others old alone → IsLike own others new alone

-- This holds of each call of at most three other activities, and of each Read Implicit whose answer is not stored, in any state of the device, whatever its flash does.
abbrev pub CallsLeave : {F : Type 0} {S : ℕ} → Flash F S → Type 0
CallsLeave {F} as_flash = (own : List ℕ) (others : List (List ℕ)) (old new : State F) (octets : List ℕ) (sent : List (List ℕ)) (said : Note)
    → AreOthers own others → IsCallOf others old octets → Steps as_flash old (heard_in old.station.identity octets) sent said new
    → IsCalled own others old new

-- What a device hears is no call, or one with this activity.
abbrev pub IsOwn : List ℕ → Heard → Type 0
IsOwn own (Reported caller address (Calls call)) = call.header.activity ≡ own
IsOwn own heard = Unit {0}

-- If the octets of a frame are a call, it has this activity.
abbrev pub IsOwnAt : List ℕ → List ℕ → Type 0
IsOwnAt own octets = is_call (untagged octets) ≡ true → same (activity_of (drop 42 (untagged octets))) own ≡ true

-- If the octets of a frame are no call, or a call with this activity, so is what a device hears in them.
abbrev pub OwnAreHeard : Type 0
OwnAreHeard = (own : List ℕ) (identity : Identity) (octets : List ℕ) → IsOwnAt own octets → IsOwn own (heard_in identity octets)

-- The other device takes the same step: it sends the same frames, with the same note, and is like the first one after it.
pub record GoesOnAlike {F : Type 0} {S : ℕ} (as_flash : Flash F S) (own : List ℕ) (others : List (List ℕ)) (alone new : State F) (heard : Heard)
    (sent : List (List ℕ)) (said : Note) : Type 0 where
  pub next : State F
  pub steps : Steps as_flash alone heard sent said next
  pub like : IsLike own others new next

-- This holds at anything but a call, and at a call with this activity, in any state of the device, whatever its flash does.
abbrev pub GoesAlike : {F : Type 0} {S : ℕ} → Flash F S → Type 0
GoesAlike {F} as_flash = (own : List ℕ) (others : List (List ℕ)) (old new alone : State F) (heard : Heard) (sent : List (List ℕ)) (said : Note)
    → IsLike own others old alone → IsOwn own heard → Steps as_flash old heard sent said new
    → GoesOnAlike as_flash own others alone new heard sent said

-- No two of these answers are of the same activity.
abbrev pub AreApart : List Kept → Type 0
AreApart [] = Unit {0}
AreApart (kept ∷ calls) = AllByRecursion (λ other. is_of kept.activity other ≡ false) calls × AreApart calls

-- Why at most three: an answer is no longer stored after the answers of four other activities.
abbrev pub FourReplace : Type 0
FourReplace = (kept one two three four : Kept) → AreApart (four ∷ three ∷ two ∷ one ∷ kept ∷ [])
    → kept_of kept.activity (kept_more 4 four (kept_more 4 three (kept_more 4 two (kept_more 4 one (kept ∷ []))))) ≡ None
