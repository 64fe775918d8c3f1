-- The lengths and the numbers of what a controller sends.
use Rattle.std.proofs.Common.{◌≡◌, ◌≤◌, ◌<◌, ◌+◌, ◌/◌, ◌%◌, cond, nat_lt, ℕ, Bool, true, false, List, [], ◌∷◌, ◌++◌, length, Option, Some, None, subst, ◌&&◌}
use Rattle.std.proofs.Common.{Result, Ok, Err, if◌then◌else◌, ◌⊎◌, inl, inr, ◌&&◌, ◌||◌, nat_le, refl, arith}
use Rattle.std.specs.List.{AllByRecursion}
use Rattle.std.proofs.lemmas.Bool.{and_parts, leb-true, ltb-true}
use Rattle.std.proofs.lemmas.List.{length-append}
use Rattle.std.proofs.lemmas.List.FromFn.{length-map-range_with_len}
use Rattle.std.proofs.Math.Nat.{mod-lt}
use Rattle.wire.specs.Formats.{big_bytes}
use Rattle.pn_values.specs.declared.mac.Mac.{Mac}
use Rattle.frame_codec.specs.FrameId.{is_cyclic}
use Rattle.pn_alarms.specs.Numbers.{next_number}
use Rattle.cyclic_data.specs.declared.tail.CyclicTail.{CyclicTail}
use Rattle.cyclic_data.specs.declared.tail.ShortFrame.{ShortFrame}
use Rattle.cyclic_data.specs.Image.{Shown, octets_of}
use Rattle.cyclic_data.specs.Tail.{cyclic_frame, cyclic_of, cyclic_tail}
use Rattle.cyclic_data.specs.exchange.Cyclic.{Cyclic}
use Rattle.cyclic_data.specs.exchange.Frames.{cyclic_body}
use Rattle.cyclic_data.specs.exchange.Received.{behind_frame, behind_read, is_new, is_of_partner}
use Rattle.plans.specs.declared.parts.Parts.{Parts}
use Rattle.plans.specs.Plan.{IsPlan}
use Rattle.controller_messages.specs.declared.request.Request.{Request}
use Rattle.controller_messages.specs.declared.request.Request.TheVariants as asks
use Rattle.controller_messages.specs.Requests.{write_count, writing_from}
use Rattle.controller_messages.specs.Sent.{Sent}
use Rattle.controller_core.specs.start_up.Requests.{next_sequence, behind_write, tried_as, tries_before, write_after}
use Rattle.controller_core.specs.Machine.{where_due}
use Rattle.controller_core.specs.start_up.Answers.{is_busy, is_tried}
use Rattle.end_laws.specs.hearing.Stations.{IsNumbered}
use Rattle.rpc_core.specs.declared.response.Status.{Status}
use Rattle.end_laws.specs.sending.Sized.{AreFew, IsFew, IsShort}

-- ---- cyclic frames

either : (a b c d : Bool) → ((a && b) || (c && d)) ≡ true → (b ≡ true) ⊎ (d ≡ true)
either a true c d e = inl refl
either a false c true e = inr refl
either true false true false e = absurd cc
either true false false false e = absurd cc
either false false true false e = absurd cc
either false false false false e = absurd cc

-- The FrameID of a cyclic frame is below those of alarms and of DCP.
pub cyclic_small : (frame_id : ℕ) → is_cyclic frame_id ≡ true → frame_id ≤ 0xF7FF
cyclic_small frame_id e = elim (either (nat_le 0x8000 frame_id) (nat_le frame_id 0xBBFF) (nat_le 0xC000 frame_id) (nat_le frame_id 0xF7FF) e) [
  | inl t ↦ let most = leb-true frame_id 0xBBFF t in omega (arith, most)
  | inr t ↦ leb-true frame_id 0xF7FF t
]

-- The octets of a cyclic frame fit a frame.
pub body_few : (shown : Shown) (counter : ℕ) → shown.data_length ≤ 1440 → length (cyclic_body shown counter) ≤ 1498
unfolding cyclic_frame cyclic_tail octets_of
body_few shown counter few =
    let octets : length (octets_of shown) ≡ shown.data_length = length-map-range_with_len _ 0 shown.data_length in
    let long : length (cyclic_body shown counter) ≡ length (octets_of shown) + 4 =
    length-append (octets_of shown) (big_bytes 2 counter ++ (big_bytes 1 0x35 ++ (big_bytes 1 0 ++ []))) in
    omega (arith, long, octets, few)

-- A frame that is heard does not change the length of what is sent.
abbrev StaysLong : Cyclic → Cyclic → Type 0
StaysLong before after = after.shown.data_length ≡ before.shown.data_length

long_if : (before : Cyclic) (test : Bool) (one other : Cyclic) → StaysLong before one → StaysLong before other
    → StaysLong before (if test then one else other)
long_if before true one other first second = first
long_if before false one other first second = second

read_long : (cyclic : Cyclic) (read : Result (List ℕ × CyclicTail) ShortFrame) → StaysLong cyclic (behind_read cyclic read)
read_long cyclic (Ok x) = long_if cyclic (is_new cyclic x.1) _ cyclic refl refl
read_long cyclic (Err short) = refl

pub frame_long : (cyclic : Cyclic) (source : Mac) (frame_id : ℕ) (body : List ℕ) → StaysLong cyclic (behind_frame cyclic source frame_id body)
frame_long cyclic source frame_id body =
    long_if cyclic (is_of_partner cyclic.route source frame_id) _ cyclic (read_long cyclic (cyclic_of cyclic.taken.data_length body)) refl

-- ---- numbers

-- The next number of an alarm has 16 bits.
pub next_short : (last : Option ℕ) → IsShort last → next_number last < 65536
next_short None is = omega arith
next_short (Some number) is = let below : (number + 1) % 0x8000 < 0x8000 = mod-lt (number + 1) (omega arith) in omega (arith, below)

-- The number of a call has 32 bits.
pub numbered : (request : Request) → IsFew request → IsNumbered request
numbered (asks.Write number) is = omega (arith, is)
numbered (asks.Release sequence) is = is
numbered (asks.WriteAfter number tries) is = (omega (arith, is.0), is.1)
numbered (asks.PrmEndAfter tries) is = is
numbered request is = tt

picked_few : (number : ℕ) (test : Bool) → (test ≡ true → number < 32) → IsFew (if test then asks.Write number else asks.PrmEnd)
picked_few number true few = few refl
picked_few number false few = tt

-- There are no more Writes than records.
few_by : (is_list : Bool) (count : ℕ) → count ≤ 32 → cond is_list ((count + 9) / 10) count ≤ 32
few_by true count few = omega (arith, few)
few_by false count few = few

count_few : (plan : Parts) → IsPlan plan → write_count plan ≤ 32
count_few plan is = few_by plan.multiple_write (length plan.records.items) is.few_records

pub writing_few : (plan : Parts) (number : ℕ) → IsPlan plan → IsFew (writing_from plan number)
writing_few plan number is =
    picked_few number (nat_lt number (write_count plan)) (λ e. let below = ltb-true number (write_count plan) e in omega (arith, below, count_few plan is))

picked_again : (number tries : ℕ) (test : Bool) → (test ≡ true → number < 32) → tries < 65536 → IsFew (if test then asks.WriteAfter number tries else asks.PrmEndAfter tries)
picked_again number tries true few tried = (few refl, tried)
picked_again number tries false few tried = tried

-- The same of what follows a Write, after calls that were refused as busy.
pub behind_few : (plan : Parts) (number : ℕ) (tries : Option ℕ) → IsPlan plan → IsFew (write_after number tries) → IsFew (behind_write plan number tries)
behind_few plan number None is few = writing_few plan (number + 1) is
behind_few plan number (Some tries) is few =
    picked_again (number + 1) tries (nat_lt (number + 1) (write_count plan))
    (λ e. let below = ltb-true (number + 1) (write_count plan) e in omega (arith, below, count_few plan is)) few.1

pub few_so : (asked : Option Request) (request : Request) → asked ≡ Some request → AreFew asked → IsFew request
few_so asked request is few = subst (λ (a : Option Request). AreFew a) is few

some_few : (one other : Request) → Some one ≡ Some other → IsFew one → IsFew other
some_few one other e few = subst (λ (r : Request). IsFew r) (same e) few
  where
    same : Some one ≡ Some other → one ≡ other
    same e = cc

some_none : {P : Type 0} (request : Request) → None ≡ Some request → P
some_none request e = absurd (never e)
  where
    never : None ≡ Some request → ⊥
    never e = cc

tried_below : (plan : Parts) (status : Status) (tries : ℕ) → is_tried plan status tries ≡ true → tries < 65535
tried_below plan status tries again =
    let keyed = and_parts plan.persistent_start (is_busy status && nat_lt tries 65535) again in
    ltb-true tries 65535 (and_parts (is_busy status) (nat_lt tries 65535) keyed.1).1

-- And of the next try.
pub tried_few : (plan : Parts) (status : Status) (request next : Request) → tried_as request ≡ Some next → is_tried plan status (tries_before request) ≡ true
    → IsFew request → IsFew next
tried_few plan status (asks.Write number) next e again few = some_few _ next e (few, omega arith)
tried_few plan status asks.PrmEnd next e again few = some_few _ next e (omega arith)
tried_few plan status (asks.WriteAfter number tries) next e again few = some_few _ next e (few.0, omega (arith, tried_below plan status tries again))
tried_few plan status (asks.PrmEndAfter tries) next e again few = some_few _ next e (omega (arith, tried_below plan status tries again))
tried_few plan status asks.Identify next e again few = some_none next e
tried_few plan status asks.Address next e again few = some_none next e
tried_few plan status asks.Connect next e again few = some_none next e
tried_few plan status (asks.Release sequence) next e again few = some_none next e

-- The number of the next call has 32 bits.
pub sequence_few : (plan : Parts) (calls : ℕ) (asked : Option Request) → AreFew asked → next_sequence plan calls asked < 4294967296
sequence_few plan calls (Some asks.Connect) few = omega arith
sequence_few plan calls (Some (asks.Write number)) few = omega (arith, few)
sequence_few plan calls (Some (asks.WriteAfter number tries)) few = omega (arith, few.0, few.1)
sequence_few plan calls asked few = mod-lt (write_count plan + 2 + calls) (omega arith)

-- ---- messages

pub all_append : (P : Sent → Type 0) (xs ys : List Sent) → AllByRecursion P xs → AllByRecursion P ys → AllByRecursion P (xs ++ ys)
all_append P [] ys one other = other
all_append P (x ∷ xs) ys one other = (one.0, all_append P xs ys one.1 other)

pub due_all : (P : Sent → Type 0) (test : Bool) (sent : List Sent) → AllByRecursion P sent → AllByRecursion P (where_due test sent)
due_all P true sent is = is
due_all P false sent is = tt
