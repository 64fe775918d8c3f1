-- What a device does in its life, said of the octets that it was given and of those that it sent.
use Rattle.std.specs.Prelude.{◌≡◌, ◌⊎◌, ◌==◌, ◌&&◌, ℕ, length, Bool, true, not, nat_eq, nat_le, nat_lt, List, [], ◌∷◌, ◌++◌, map, take, drop, flat_map, filter_map, Some, None, if◌then◌else◌}
use Rattle.std.specs.Cmp.Lexicographic.{pointwise}
use Rattle.std.specs.List.{AllByRecursion}
use Rattle.pn_values.specs.declared.mac.Mac.{Mac}
use Rattle.pn_values.specs.declared.command.Command.{Command}
use Rattle.pn_values.specs.declared.settings.Settings.{Settings}
use Rattle.pn_values.specs.Command.{fold_of}
use Rattle.pn_values.specs.Settings.{factory_settings}
use Rattle.relations.specs.declared.options.DeviceOptions.{DeviceOptions}
use Rattle.device_frames.specs.declared.event.Event.{Event}
use Rattle.device_frames.specs.declared.event.Event.TheVariants.{Frame}
use Rattle.octets_law.specs.Octets.{Asking, Set, Call, Nothing, activity_of, asking_of, block_errors, called, commands_in, confirmed, faulted, in_order, is_counted, is_dcp, is_response, is_whole, number, part, dcp_blocks, untagged}

-- An event, and the frames that were sent at it.
abbrev pub Told : Type 0
Told = Event × List (List ℕ)

-- All frames that were sent.
abbrev pub sent_in : List Told → List (List ℕ)
sent_in transcript = flat_map (λ told. told.1) transcript

-- ---- calls that are answered again

-- An answer that is stored: the sequence number and the activity of the call, and the frame.
abbrev pub Stored : Type 0
Stored = List ℕ × List ℕ

-- Whether the answer to a call is stored. The octets are those of the call or of its answer. With the option `reads_not_kept` that to a Read
-- Implicit (operation 5) is not, and what is stored says nothing of such a call.
abbrev pub is_stored : DeviceOptions → List ℕ → Bool
is_stored options call = not (options.reads_not_kept && in_order 68 2 call == 5)

-- The frame that is sent again for a call: that of the stored answer of its activity, if it has the call's sequence number.
abbrev pub again_for : DeviceOptions → Asking → List Stored → List (List ℕ)
again_for options (Call call) (one ∷ others) =
    if pointwise nat_eq (drop 1 one.0) (activity_of call) then (if is_stored options call && pointwise nat_eq (called call) one.0 then one.1 ∷ [] else [])
    else again_for options (Call call) others
again_for options asking stored = []

-- Whether it is a call that is answered again.
abbrev pub is_again : DeviceOptions → Asking → List Stored → Bool
is_again options asking stored = nat_lt 0 (length (again_for options asking stored))

-- Without the answer of this activity.
abbrev pub without : List ℕ → List Stored → List Stored
without activity [] = []
without activity (one ∷ others) = if pointwise nat_eq (drop 1 one.0) activity then others else one ∷ without activity others

-- With one more frame, which answers the call that these octets name.
abbrev pub with_answer : List ℕ → List ℕ → List Stored → List Stored
with_answer call frame stored = (called call, frame) ∷ take 3 (without (activity_of call) stored)

-- What is stored after frames that are sent: each response among them is stored for the call that it names, if the answer to that call is. This is
-- the call that came, or an earlier one that the application was asked.
abbrev pub stored_later : DeviceOptions → List (List ℕ) → List Stored → List Stored
stored_later options [] stored = stored
stored_later options (frame ∷ behind) stored = stored_later options behind
    (if is_response frame && is_stored options (drop 42 frame) then with_answer (drop 42 frame) frame stored else stored)

-- What is stored after an event: the last answer of each of the last four activities. No answer to a call with wrong counts
-- is stored, and none that is sent again.
abbrev pub stored_after : DeviceOptions → Asking → List (List ℕ) → List Stored → List Stored
stored_after options (Call call) sent stored = if is_counted call && not (is_again options (Call call) stored) then stored_later options sent stored else stored
stored_after options asking sent stored = stored_later options sent stored

-- ---- settings

-- The commands that are found by `found` at each event, in order; none at a call that is answered again.
abbrev pub commands_by : (Asking → List (List ℕ) → List Command) → DeviceOptions → Mac → List Stored → List Told → List Command
commands_by found options mac stored [] = []
commands_by found options mac stored (told ∷ transcript) =
    let asking = asking_of mac told.0 in
    (if is_again options asking stored then [] else found asking told.1) ++ commands_by found options mac (stored_after options asking told.1 stored) transcript

-- Some of these commands, in order.
abbrev pub AreAmong : List Command → List Command → Type 0
AreAmong some [] = some ≡ []
AreAmong some (one ∷ others) = AreAmong some others ⊎ ((more : List Command) × (some ≡ one ∷ more) × AreAmong more others)

-- Some commands of one event, from which on nothing was sent any more: power was lost in it.
pub record AreCutOff (mac : Mac) (transcript : List Told) (commands : List Command) : Type 0 where
  pub front : List Told
  pub last : Told
  pub behind : List Told
  pub parts : transcript ≡ front ++ last ∷ behind
  pub silent : sent_in (last ∷ behind) ≡ []
  pub some : AreAmong commands (filter_map (λ command. command) (commands_in (asking_of mac last.0)))

-- The settings are the first ones changed by all confirmed commands; or by these and then the first one that a fault stopped;
-- or by these and then some of the commands at which the device fell silent.
pub record AreMade (options : DeviceOptions) (mac : Mac) (first : Settings) (transcript : List Told) (settings : Settings) : Type 0 where
  pub more : List Command
  pub at_end : (more ≡ []) ⊎ (more ≡ take 1 (commands_by faulted options mac [] transcript)) ⊎ AreCutOff mac transcript more
  pub made : settings ≡ fold_of (commands_by confirmed options mac [] transcript ++ more) first

-- ---- answers

-- What a device owes to what it is asked: to a whole Set one BlockError for each block. To a call that is answered again, with
-- right counts, the stored frame, or nothing if the call does not reach it.
abbrev pub IsAnswered : DeviceOptions → Asking → List Stored → List (List ℕ) → Type 0
IsAnswered options (Set set) stored sent = is_whole set ≡ true → length (flat_map (block_errors set) sent) ≡ length (dcp_blocks set)
IsAnswered options (Call call) stored sent = is_again options (Call call) stored ≡ true → is_counted call ≡ true → (sent ≡ []) ⊎ (sent ≡ again_for options (Call call) stored)
IsAnswered options Nothing stored sent = Unit {0}

-- Each event is answered as it has to be, until the device falls silent.
abbrev pub AreAnswered : DeviceOptions → Mac → List Stored → List Told → Type 0
AreAnswered options mac stored [] = Unit {0}
AreAnswered options mac stored (told ∷ transcript) =
    let asking = asking_of mac told.0 in
    (sent_in (told ∷ transcript) ≡ []) ⊎ (IsAnswered options asking stored told.1 × AreAnswered options mac (stored_after options asking told.1 stored) transcript)

-- ---- Identify (IEC 61158-6-10, 4.3.2.3)

-- The values of this kind in a frame.
abbrev pub values_in : ℕ → List ℕ → List (List ℕ)
values_in kind frame = filter_map (λ block. if block.0 == kind then Some (drop 2 block.1) else None) (dcp_blocks frame)

-- The frame tells this name and this IP suite.
abbrev pub Tells : Settings → List ℕ → Type 0
Tells settings frame =
    (values_in 0x0202 frame ≡ settings.name ∷ []) × (values_in 0x0102 frame ≡ (settings.suite.address ++ settings.suite.mask ++ settings.suite.gateway) ∷ [])

-- Whether it is an Identify request of all stations: to the multicast address, with the one block FF/FF.
abbrev pub is_for_all : List ℕ → Bool
is_for_all frame =
    is_dcp 0xFEFE 5 0 frame && nat_le 30 (length frame) && nat_le (length frame) 1514
    && pointwise nat_eq (take 6 frame) (0x01 ∷ 0x0E ∷ 0xCF ∷ 0 ∷ 0 ∷ 0 ∷ []) && pointwise nat_eq (part 24 6 frame) (0 ∷ 4 ∷ 0xFF ∷ 0xFF ∷ 0 ∷ 0 ∷ [])

-- What is sent at an Identify request tells these settings. One of all stations is answered once.
abbrev pub IsIdentified : Settings → List ℕ → List (List ℕ) → Type 0
IsIdentified settings octets sent =
    (is_dcp 0xFEFE 5 0 (untagged octets) ≡ true → AllByRecursion (Tells settings) sent) × (is_for_all (untagged octets) ≡ true → length sent ≡ 1)

-- ---- a life

-- A cycle, from a start with the first settings to the loss of power, after which a start gives these.
pub record IsCycle (options : DeviceOptions) (mac : Mac) (first : Settings) (transcript : List Told) (settings : Settings) : Type 0 where
  pub made : AreMade options mac first transcript settings
  pub answered : AreAnswered options mac [] transcript
  pub identified : (octets : List ℕ) (sent : List (List ℕ)) (later : List Told)
      → transcript ≡ (Frame (record { items = octets }), sent) ∷ later → IsIdentified first octets sent

-- Cycles of these events, one after another.
abbrev pub AreCycles : DeviceOptions → Mac → List (List Event) → List Told → Settings → Settings → Type 0
AreCycles options mac [] transcript first settings = (transcript ≡ []) × (settings ≡ first)
AreCycles options mac (events ∷ cycles) transcript first settings =
    (now : List Told) × (later : List Told) × (between : Settings) × (transcript ≡ now ++ later) × (map (λ told. told.0) now ≡ events)
    × IsCycle options mac first now between × AreCycles options mac cycles later between settings

-- What was reported since is a life of these cycles, from a blank chip on.
abbrev pub IsLife : DeviceOptions → Mac → List (List Event) → List Told → List Told → Settings → Type 0
IsLife options mac cycles before now settings = (transcript : List Told) × (now ≡ before ++ transcript) × AreCycles options mac cycles transcript factory_settings settings
