-- The lengths of what a controller sends.
use Rattle.std.proofs.Common.{◌≡◌, ◌≤◌, ◌<◌, ◌+◌, ◌/◌, ◌%◌, ◌&&◌, cond, nat_eq, nat_lt, ℕ, Bool, true, false, List, [], ◌∷◌, ◌++◌, length, Option, Some, None, Result, Ok, Err, if◌then◌else◌, refl, sym, ap, ◌∙◌, arith, subst}
use Rattle.std.specs.List.{AllByRecursion}
use Rattle.std.specs.Cmp.Lexicographic.{pointwise, same_text}
use Rattle.std.proofs.lemmas.Bool.{and_parts, ltb-true}
use Rattle.std.proofs.lemmas.List.{length-append}
use Rattle.wire.specs.Formats.{big_bytes}
use Rattle.std.proofs.lemmas.List.FromFn.{length-map-range_with_len}
use Rattle.std.proofs.Math.Nat.{mod-lt}
use Rattle.wire.specs.blocks.Fields.{body, number_bytes, octet_bytes, version, zeros}
use Rattle.connect_blocks.specs.Control.{command, control}
use Rattle.connect_blocks.specs.declared.control.ControlBlock.{ControlBlock}
use Rattle.connect_blocks.specs.declared.plug_control.PlugControlBlock.{PlugControlBlock}
use Rattle.connect_blocks.specs.PlugControl.{plug_control}
use Rattle.block_codec.specs.declared.block.Block.{Block}
use Rattle.block_codec.specs.declared.block.Block.TheVariants as is
use Rattle.block_codec.specs.Block.{block_bytes, block_size, fields_of}
use Rattle.rpc_core.specs.Call.{Asked as Call}
use Rattle.pn_values.specs.declared.mac.Mac.{Mac}
use Rattle.cyclic_data.specs.declared.tail.CyclicTail.{CyclicTail}
use Rattle.cyclic_data.specs.declared.tail.ShortFrame.{ShortFrame}
use Rattle.cyclic_data.specs.Image.{Shown, octets_of}
use Rattle.cyclic_data.specs.Tail.{cyclic_frame, cyclic_of, cyclic_tail}
use Rattle.pn_alarms.specs.Numbers.{next_number}
use Rattle.cyclic_data.specs.exchange.Cyclic.{Cyclic}
use Rattle.cyclic_data.specs.exchange.Frames.{cyclic_body}
use Rattle.cyclic_data.specs.exchange.Received.{behind_frame, behind_read, is_new, is_of_partner}
use Rattle.plans.specs.declared.parts.Parts.{Parts}
use Rattle.plans.specs.Plan.{IsPlan}
use Rattle.controller_messages.specs.declared.request.Request.{Request}
use Rattle.controller_messages.specs.declared.request.Request.TheVariants as asks
use Rattle.controller_messages.specs.Heard.{Heard}
use Rattle.controller_messages.specs.PlugRequests.{plug_answer, plug_done}
use Rattle.controller_messages.specs.Requests.{write_count, writing_from}
use Rattle.controller_messages.specs.Sent.{Sent, ready_answer, ready_done}
use Rattle.controller_messages.specs.Access.{call_number}
use Rattle.controller_core.specs.start_up.Requests.{behind_write, next_sequence, tried_as, tries_before, write_after}
use Rattle.controller_core.specs.Machine.{where_due}
use Rattle.controller_core.specs.start_up.Answers.{is_busy, is_tried}
use Rattle.end_laws.specs.turns.Turns.{Came, Hears, Passes, Gets, GetsStatus, AsksRead, AsksWrite, Halts}
use Rattle.rpc_core.specs.Sendable.{CanBeAnswered, IsHeader}
use Rattle.rpc_core.specs.declared.response.Status.{Status}
use Rattle.end_laws.specs.hearing.Stations.{IsNumbered}
use Rattle.end_laws.specs.sending.Sized.{AreFew, IsFew, IsShort}

abbrev pub BlocksAreLong : Type 0
BlocksAreLong = (block : Block) → length (block_bytes block) ≡ block_size block

-- ---- cyclic frames

octets_long : (shown : Shown) → length (octets_of shown) ≡ shown.data_length
unfolding octets_of
octets_long shown = length-map-range_with_len _ 0 shown.data_length

pub body_few : (shown : Shown) (counter : ℕ) → shown.data_length ≤ 1440 → length (cyclic_body shown counter) ≤ 1498
unfolding cyclic_frame cyclic_tail
body_few shown counter few =
    let long : length (cyclic_body shown counter) ≡ length (octets_of shown) + 4 =
    length-append (octets_of shown) (big_bytes 2 counter ++ (big_bytes 1 0x35 ++ (big_bytes 1 0 ++ []))) in
    omega (arith, long, octets_long shown, few)

-- ---- numbers

pub next_short : (last : Option ℕ) → IsShort last → next_number last < 65536
next_short None is = omega arith
next_short (Some number) is = let below : (number + 1) % 0x8000 < 0x8000 = mod-lt (number + 1) (omega arith) in omega (arith, below)

-- ---- the response to ApplicationReady

done_size : (block : ControlBlock) → length block.ar_uuid ≡ 16 → block_size (is.ApplicationReadyRes block) ≡ 32
unfolding block_size fields_of body version control command
done_size block sixteen = omega (arith, sixteen)

pub answer_can : BlocksAreLong → (call : Call) (block : ControlBlock) → IsHeader call.header → call.args_maximum < 4294967296 → length block.ar_uuid ≡ 16
    → CanBeAnswered (ready_answer call block)
answer_can long call block header maximum sixteen = record {
  header = header;
  status = record { code = omega arith; decode = omega arith; code1 = omega arith; code2 = omega arith };
  maximum = maximum;
  few = omega (arith, long (is.ApplicationReadyRes (ready_done block)), done_size (ready_done block) sixteen);
}

-- the block of PrmEnd, of ApplicationReady and of its answer after a plug
pub plug_size : (kind : ℕ) (block : PlugControlBlock) → length block.ar_uuid ≡ 16 → length ((plug_control kind).write block []) ≡ 32
unfolding plug_control number_bytes octet_bytes zeros
plug_size kind block sixteen =
    let behind = number_bytes 2 block.session_key
    (number_bytes 2 block.alarm_sequence_number (number_bytes 2 block.control_command (number_bytes 2 block.control_block_properties []))) in
    omega (arith, sixteen, length-append block.ar_uuid behind)

pub plug_answer_can : (call : Call) (block : PlugControlBlock) → IsHeader call.header → call.args_maximum < 4294967296 → length block.ar_uuid ≡ 16
    → CanBeAnswered (plug_answer call block)
plug_answer_can call block header maximum sixteen = record {
  header = header;
  status = record { code = omega arith; decode = omega arith; code1 = omega arith; code2 = omega arith };
  maximum = maximum;
  few = omega (arith, plug_size 0x8113 (plug_done block) sixteen);
}

-- a block of the relation has its ARUUID
pub named_so : (block ar : List ℕ) (session : Bool) → (pointwise nat_eq block ar && session) ≡ true → length ar ≡ 16 → length block ≡ 16
named_so block ar session e sixteen =
    let parts = and_parts (pointwise nat_eq block ar) session e in
    ap length (same_text block ar (sym parts.0)) ∙ sixteen

-- ---- requests

pub numbered : (request : Request) → IsFew request → IsNumbered request
numbered (asks.Write number) is = omega (arith, is)
numbered (asks.Release sequence) is = is
numbered (asks.WriteAfter number tries) is = (omega (arith, is.0), is.1)
numbered (asks.PrmEndAfter tries) is = is
numbered request is = tt

picked_few : (number : ℕ) (test : Bool) → (test ≡ true → number < 32) → IsFew (if test then asks.Write number else asks.PrmEnd)
picked_few number true few = few refl
picked_few number false few = tt

-- there are no more Writes than records
few_by : (is_list : Bool) (count : ℕ) → count ≤ 32 → cond is_list ((count + 9) / 10) count ≤ 32
few_by true count few = omega (arith, few)
few_by false count few = few

pub count_few : (plan : Parts) → IsPlan plan → write_count plan ≤ 32
count_few plan is = few_by plan.multiple_write (length plan.records.items) is.few_records

pub writing_few : (plan : Parts) (number : ℕ) → IsPlan plan → IsFew (writing_from plan number)
writing_few plan number is =
    picked_few number (nat_lt number (write_count plan)) (λ e. let below = ltb-true number (write_count plan) e in omega (arith, below, count_few plan is))

picked_again : (number tries : ℕ) (test : Bool) → (test ≡ true → number < 32) → tries < 65536 → IsFew (if test then asks.WriteAfter number tries else asks.PrmEndAfter tries)
picked_again number tries true few tried = (few refl, tried)
picked_again number tries false few tried = tried

-- the same after a request, by the number of calls that were refused as busy before it
pub behind_few : (plan : Parts) (number : ℕ) (tries : Option ℕ) → IsPlan plan → IsFew (write_after number tries) → IsFew (behind_write plan number tries)
behind_few plan number None is few = writing_few plan (number + 1) is
behind_few plan number (Some tries) is few =
    picked_again (number + 1) tries (nat_lt (number + 1) (write_count plan))
    (λ e. let below = ltb-true (number + 1) (write_count plan) e in omega (arith, below, count_few plan is)) few.1

-- the active request is a few one
pub few_so : (asked : Option Request) (request : Request) → asked ≡ Some request → AreFew asked → IsFew request
few_so asked request is few = subst (λ (a : Option Request). AreFew a) is few

some_few : (one other : Request) → Some one ≡ Some other → IsFew one → IsFew other
some_few one other e few = subst (λ (r : Request). IsFew r) (same e) few
  where
    same : Some one ≡ Some other → one ≡ other
    same e = cc

some_none : {P : Type 0} (request : Request) → None ≡ Some request → P
some_none request e = absurd (never e)
  where
    never : None ≡ Some request → ⊥
    never e = cc

tried_below : (plan : Parts) (status : Status) (tries : ℕ) → is_tried plan status tries ≡ true → tries < 65535
tried_below plan status tries again =
    let keyed = and_parts plan.persistent_start (is_busy status && nat_lt tries 65535) again in
    ltb-true tries 65535 (and_parts (is_busy status) (nat_lt tries 65535) keyed.1).1

-- and so is the one that is sent after it was refused as busy
pub tried_few : (plan : Parts) (status : Status) (request next : Request) → tried_as request ≡ Some next → is_tried plan status (tries_before request) ≡ true
    → IsFew request → IsFew next
tried_few plan status (asks.Write number) next e again few = some_few _ next e (few, omega arith)
tried_few plan status asks.PrmEnd next e again few = some_few _ next e (omega arith)
tried_few plan status (asks.WriteAfter number tries) next e again few = some_few _ next e (few.0, omega (arith, tried_below plan status tries again))
tried_few plan status (asks.PrmEndAfter tries) next e again few = some_few _ next e (omega (arith, tried_below plan status tries again))
tried_few plan status asks.Identify next e again few = some_none next e
tried_few plan status asks.Address next e again few = some_none next e
tried_few plan status asks.Connect next e again few = some_none next e
tried_few plan status (asks.Release sequence) next e again few = some_none next e

pub number_few : (plan : Parts) (calls : ℕ) → call_number plan calls < 4294967296
number_few plan calls = mod-lt (write_count plan + 2 + calls) (omega arith)

pub sequence_few : (plan : Parts) (calls : ℕ) (asked : Option Request) → AreFew asked → next_sequence plan calls asked < 4294967296
sequence_few plan calls (Some asks.Connect) few = omega arith
sequence_few plan calls (Some (asks.Write number)) few = omega (arith, few)
sequence_few plan calls (Some (asks.WriteAfter number tries)) few = omega (arith, few.0, few.1)
sequence_few plan calls asked few = number_few plan calls

-- ---- messages

pub all_append : (P : Sent → Type 0) (xs ys : List Sent) → AllByRecursion P xs → AllByRecursion P ys → AllByRecursion P (xs ++ ys)
all_append P [] ys one other = other
all_append P (x ∷ xs) ys one other = (one.0, all_append P xs ys one.1 other)

pub due_all : (P : Sent → Type 0) (test : Bool) (sent : List Sent) → AllByRecursion P sent → AllByRecursion P (where_due test sent)
due_all P true sent is = is
due_all P false sent is = tt

-- ---- what arrives

-- what holds of what is heard
abbrev pub CameSo : (Heard → Type 0) → Came → Type 0
CameSo P (Hears heard) = P heard
CameSo P Passes = Unit {0}
CameSo P (Gets slot subslot value) = Unit {0}
CameSo P (GetsStatus slot subslot is_good) = Unit {0}
CameSo P (AsksRead slot subslot index) = Unit {0}
CameSo P (AsksWrite slot subslot index octets) = Unit {0}
CameSo P Halts = Unit {0}

-- ---- cyclic frames

-- neither a frame that is heard nor a value that is set changes the route or the length of what is sent
pub record Stays (before after : Cyclic) : Type 0 where
  pub route : after.route ≡ before.route
  pub long : after.shown.data_length ≡ before.shown.data_length

stays_so : (cyclic : Cyclic) → Stays cyclic cyclic
stays_so cyclic = record { route = refl; long = refl }

stays_if : (before : Cyclic) (test : Bool) (one other : Cyclic) → Stays before one → Stays before other → Stays before (if test then one else other)
stays_if before true one other first second = first
stays_if before false one other first second = second

read_stays : (cyclic : Cyclic) (read : Result (List ℕ × CyclicTail) ShortFrame) → Stays cyclic (behind_read cyclic read)
read_stays cyclic (Ok x) = stays_if cyclic (is_new cyclic x.1) _ cyclic (record { route = refl; long = refl }) (stays_so cyclic)
read_stays cyclic (Err short) = stays_so cyclic

pub frame_stays : (cyclic : Cyclic) (source : Mac) (frame_id : ℕ) (body : List ℕ) → Stays cyclic (behind_frame cyclic source frame_id body)
frame_stays cyclic source frame_id body =
    stays_if cyclic (is_of_partner cyclic.route source frame_id) _ cyclic (read_stays cyclic (cyclic_of cyclic.taken.data_length body)) (stays_so cyclic)
