-- What can be sent can be written and is read back.
use Rattle.std.proofs.Common.{◌≡◌, ◌≤◌, ◌<◌, ◌^◌, ◌+◌, ℕ, List, [], ◌++◌, length, Option, Some, Ok, refl, arith}
use Rattle.rpc_core.specs.declared.header.CallHeader.{CallHeader}
use Rattle.rpc_core.specs.declared.interface.Interface.{Interface}
use Rattle.rpc_core.specs.declared.response.Status.{Status}
use Rattle.rpc_core.specs.Body.{Args, body_size, counts, counts_of, status}
use Rattle.rpc_core.specs.Call.{Asked, call, call_bytes, call_of}
use Rattle.rpc_core.specs.Fields.{ordered, uuid}
use Rattle.rpc_core.specs.Header.{extent, head, head_for, names, opening, order_of, turn}
use Rattle.rpc_core.specs.Response.{Answered, response, response_bytes, response_of}
use Rattle.rpc_core.specs.Pdu.{cut_off, pdu}
use Rattle.rpc_core.proofs.Sound.{call_again, call_behind, call_sound, ordered_sound, response_again, response_behind, response_sound, status_sound}
use Rattle.rpc_core.proofs.Written.{body_long, call_fits, call_spelled, head_fits, response_fits, response_spelled, word_fits}
use Rattle.rpc_core.specs.Sendable.{CanBeAnswered, CanBeCalled, IsHeader, IsStatus}

-- ---- the header

-- the opening of the header of a call, and of a response
pub request_opening_fits : opening.Fits (record { version = 4; packet_type = 0; flags = 0x20; representation = 0 })
unfolding opening
request_opening_fits = (omega arith, (omega arith, (omega arith, (refl, (omega arith, refl)))))

pub response_opening_fits : opening.Fits (record { version = 4; packet_type = 2; flags = 0x0A; representation = 0 })
unfolding opening
response_opening_fits = (omega arith, (omega arith, (omega arith, (refl, (omega arith, refl)))))

names_fit : (header : CallHeader) → IsHeader header → (names (order_of 0)).Fits (record { object = header.object; interface = header.interface; activity = header.activity })
unfolding names uuid
names_fit header is = (is.object, (is.interface, is.activity))

turn_fits : (header : CallHeader) → IsHeader header → (turn (order_of 0)).Fits (record { sequence = header.sequence; operation = header.operation })
unfolding turn ordered
turn_fits header is = (refl, (omega (arith, is.sequence), omega (arith, is.operation)))

extent_fits : (size : ℕ) → size ≤ 1392 → (extent (order_of 0)).Fits (record { length = size; fragment = 0; authentication = 0 })
unfolding extent ordered
extent_fits size few = (refl, (omega (arith, few), (omega arith, (omega arith, refl))))

-- ---- the body

counts_fit : (maximum : ℕ) (blocks : List ℕ) → maximum < 4294967296 → length blocks ≤ 1372
    → (counts (order_of 0)).Fits (counts_of (record { maximum = maximum; blocks = Some blocks }))
unfolding counts ordered
counts_fit maximum blocks small few = (omega (arith, few), (omega (arith, small), (omega arith, omega (arith, few))))

status_fits : (value : Status) → IsStatus value → (status (order_of 0)).Fits value
unfolding status
status_fits value is = (omega (arith, is.code), (omega (arith, is.decode), (omega (arith, is.code1), omega (arith, is.code2))))

-- ---- calls and responses

pub call_read : (interface : Interface) (asked : Asked) (more : List ℕ) → CanBeCalled interface asked → call_of interface (call_bytes interface asked ++ more) ≡ Ok asked
call_read interface asked more is =
    let size = body_size (length is.blocks) in
    let front = head_fits 0 0x20 size asked.header _ refl request_opening_fits (names_fit asked.header is.header) (turn_fits asked.header is.header) (extent_fits size (omega (arith, is.few))) in
    let fits = call_fits interface asked is.blocks is.whole is.named front (word_fits asked.args_maximum (omega (arith, is.maximum))) (counts_fit asked.args_maximum is.blocks is.maximum is.few) in
    call_again interface _ asked (call_behind interface _ more asked (call_spelled interface asked _ fits refl))

pub response_read : (answer : Answered) (more : List ℕ) → CanBeAnswered answer → response_of (response_bytes answer ++ more) ≡ Ok answer
response_read answer more is =
    let size = body_size (length answer.blocks) in
    let front = head_fits 2 0x0A size answer.header _ refl response_opening_fits (names_fit answer.header is.header) (turn_fits answer.header is.header) (extent_fits size (omega (arith, is.few))) in
    let fits = response_fits answer front (status_fits answer.status is.status) (counts_fit answer.maximum_count answer.blocks is.maximum is.few) in
    response_again _ answer (response_behind _ more answer (response_spelled answer _ fits refl))

-- ---- how long they are

-- a header has 80 octets
head_size : (packet_type flags size : ℕ) (header : CallHeader) → IsHeader header → head.size (head_for packet_type flags header size) ≡ 80
unfolding head opening names turn extent uuid ordered
head_size packet_type flags size header is = omega (arith, is.object, is.interface, is.activity)

word_size : (value : ℕ) → (ordered (order_of 0) 4).size value ≡ 4
unfolding ordered
word_size value = refl

status_size : (value : Status) → (status (order_of 0)).size value ≡ 4
unfolding status
status_size value = refl

call_size : (interface : Interface) (asked : Asked) (is : CanBeCalled interface asked) → (call interface).size asked ≡ 100 + length is.blocks
unfolding call pdu cut_off
call_size interface asked is =
    let inside = body_long (ordered (order_of 0) 4) asked.args_maximum asked.args_maximum is.blocks (ordered_sound (order_of 0) 4) (word_size asked.args_maximum) in
    let front = head_size 0 0x20 (body_size (length is.blocks)) asked.header is.header in
    rw is.whole (omega (arith, inside, front))

pub call_short : (interface : Interface) (asked : Asked) → CanBeCalled interface asked → length (call_bytes interface asked) ≤ 1472
unfolding call_bytes
call_short interface asked is = omega (arith, (call_sound interface).sized asked [], call_size interface asked is, is.few)

response_size : (answer : Answered) → IsHeader answer.header → response.size answer ≡ 100 + length answer.blocks
unfolding response pdu cut_off
response_size answer is =
    let inside = body_long (status (order_of 0)) answer.status answer.maximum_count answer.blocks (status_sound (order_of 0)) (status_size answer.status) in
    let front = head_size 2 0x0A (body_size (length answer.blocks)) answer.header is in
    omega (arith, inside, front)

pub response_long : (answer : Answered) → IsHeader answer.header → length (response_bytes answer) ≡ 100 + length answer.blocks
unfolding response_bytes
response_long answer is = omega (arith, response_sound.sized answer [], response_size answer is)

pub response_short : (answer : Answered) → CanBeAnswered answer → length (response_bytes answer) ≤ 1472
response_short answer is = omega (arith, response_long answer is.header, is.few)
