-- A step of a Set, with a relation or without one.
use Rattle.std.proofs.Common.{◌≡◌, ◌≤◌, ◌<◌, ◌==◌, ◌+◌, ◌*◌, ◌^◌, ℕ, suc, Bool, List, [], ◌∷◌, ◌++◌, None, Some, Option, map, flat_map, zip, length, refl, sym, ap, subst, ◌∙◌, arith, length-append}
use Rattle.std.proofs.lemmas.List.{append-nil}
use Rattle.std.proofs.lemmas.Bool.{cond_both}
use Rattle.pn_values.specs.declared.mac.Mac.{Mac}
use Rattle.pn_values.specs.declared.identity.Identity.{Identity}
use Rattle.pn_values.specs.declared.set_item.SetItem.{SetItem}
use Rattle.pn_values.specs.declared.set_item.SetItem.TheVariants.{Ask, Signal, Answer}
use Rattle.pn_values.specs.declared.set_item.BlockError.{BlockError}
use Rattle.byteorder.specs.Endian.{big_bytes}
use Rattle.frame_codec.specs.Frame.{ethernet, frame_bytes, layers, mac, padding_of, real_time, tag_and_type}
use Rattle.frame_codec.specs.Meaning.{RealTime}
use Rattle.frame_codec.specs.Sendable.{carrying}
use Rattle.cyclic_data.specs.exchange.Frames.{tagged_frame}
use Rattle.dcp_core.specs.Bytes.{error_number, response_bytes}
use Rattle.dcp_core.specs.Request.{Asked, AskedBlock}
use Rattle.dcp_core.specs.Set.{item_of, plan_of}
use Rattle.settings_journal.specs.settings_store.State.{Values}
use Rattle.settings_journal.specs.settings_store.Machine.{Outcome, Pass, Fault, Carried, accepted, carried, first_of, rest_of}
use Rattle.relations.specs.declared.farewell.Farewell.{Farewell}
use Rattle.relations.specs.Farewells.{said_by}
use Rattle.pn_alarms.specs.declared.pdu.PduType.TheVariants.{Error}
use Rattle.pn_alarms.specs.Format.{frame_id_of, pdu_bytes}
use Rattle.device_frames.specs.declared.event.Event.{Event}
use Rattle.device_frames.specs.Relation.{farewells_in}
use Rattle.device_frames.specs.Sent.{Sent, Ends, SetAnswer, bytes_of}
use Rattle.device_frames.specs.Sendable.{AreSendable, IsSendable}
use Rattle.device_core.specs.State.{Live, Station}
use Rattle.device_frames.specs.Heard.{heard_of}
use Rattle.device_core.specs.Handled.{Sets, handled}
use Rattle.device_core.specs.Machine.{farewell_at, handled_step, heard_step, items_in, items_of, resets, step_of}
use Rattle.octets_law.specs.Bridge.{Bridges}
use Rattle.octets_law.specs.Octets.{Set, answers_in, asking_of, block_errors, command_in, commands_in, dcp_blocks}
use Rattle.octets_law.proofs.Bridged.{bridged}
use Rattle.octets_law.proofs.Marks.{AreMatched}
use Rattle.octets_law.proofs.SetHeard.{IsSetRead}
use Rattle.octets_law.proofs.SetItems.{AreRead, plan_matched}
use Rattle.octets_law.proofs.SetFrames.{set_answer_read, six}

-- ---- a farewell is no answer to a Set

-- the octets of a frame of real time with a tag
pub tagged_octets : (source destination : Mac) (tag id : ℕ) (body : List ℕ) →
    tagged_frame source destination tag (RealTime id body)
    ≡ (destination.octets ++ (source.octets ++ (0x81 ∷ 0 ∷ (big_bytes 2 tag ++ (0x88 ∷ 0x92 ∷ (big_bytes 2 id ++ body)))))) ++ padding_of (carrying destination source (Some tag) (RealTime id body))
unfolding frame_bytes layers ethernet mac tag_and_type real_time
tagged_octets source destination tag id body = refl

tagged_no_answer : (set destination source rest padding : List ℕ) → length destination ≡ 6 → length source ≡ 6
    → block_errors set ((destination ++ (source ++ (0x81 ∷ 0 ∷ rest))) ++ padding) ≡ []
tagged_no_answer set destination source rest padding d s =
    six (λ d. block_errors set ((d ++ (source ++ (0x81 ∷ 0 ∷ rest))) ++ padding) ≡ []) destination d (λ a b c e f g.
    six (λ s. block_errors set (((a ∷ b ∷ c ∷ e ∷ f ∷ g ∷ []) ++ (s ++ (0x81 ∷ 0 ∷ rest))) ++ padding) ≡ []) source s (λ h i j k l m. refl))

farewell_no_answer : (set : List ℕ) (identity : Identity) (farewell : Farewell) → IsSendable identity (Ends farewell) → block_errors set (bytes_of identity (Ends farewell)) ≡ []
farewell_no_answer set identity farewell can =
    let content = pdu_bytes (said_by farewell) in
    ap (block_errors set) (tagged_octets identity.mac farewell.initiator farewell.tag (frame_id_of Error) content)
    ∙ tagged_no_answer set farewell.initiator.octets identity.mac.octets _ (padding_of (carrying farewell.initiator identity.mac (Some farewell.tag) (RealTime (frame_id_of Error) content)))
    can.destination can.source

farewells_no_answer : (set : List ℕ) (identity : Identity) (farewell : Option Farewell) (behind : List Sent) → AreSendable identity (farewells_in farewell ++ behind)
    → flat_map (block_errors set) (map (bytes_of identity) (farewells_in farewell ++ behind)) ≡ flat_map (block_errors set) (map (bytes_of identity) behind)
farewells_no_answer set identity None behind can = refl
farewells_no_answer set identity (Some farewell) behind can =
    ap (λ l. l ++ flat_map (block_errors set) (map (bytes_of identity) behind)) (farewell_no_answer set identity farewell can.0)

-- The frames of a step of a Set answer it as its SetAnswer does.
set_frames : (outcomes : List Outcome) (station : Station) (live : Live) (asker : Mac) (request : Asked) (in_operation : Bool) (set : List ℕ)
    → AreSendable station.identity (handled_step outcomes station live (Sets asker request in_operation)).sent
    → flat_map (block_errors set) (handled_step outcomes station live (Sets asker request in_operation)).frames
    ≡ block_errors set (bytes_of station.identity (SetAnswer asker request (carried outcomes live.values (plan_of in_operation request)).answers))
unfolding handled_step
set_frames outcomes station live asker request in_operation set can =
    let answers = (carried outcomes live.values (plan_of in_operation request)).answers in
    farewells_no_answer set station.identity (farewell_at (resets (plan_of in_operation request) answers) live.rest.link) (SetAnswer asker request answers ∷ []) can
    ∙ append-nil _

-- ---- a step of a Set

-- Each item has one answer.
answers_many : (outcomes : List Outcome) (values : Values) (items : List SetItem) → length (carried outcomes values items).answers ≡ length items
answers_many outcomes values [] = refl
answers_many outcomes values (Signal ∷ items) = ap suc (answers_many (rest_of outcomes) values items)
answers_many outcomes values (Answer answer ∷ items) = ap suc (answers_many (rest_of outcomes) values items)
answers_many outcomes values (Ask command ∷ items) =
    cond_both values.has_failed _ _ (λ (one : Carried). length (one.answers ++ (carried (rest_of outcomes) one.values items).answers) ≡ suc (length items))
    (λ _. ap suc (answers_many (rest_of outcomes) values items))
    (λ _. cond_both (values.room == 0) _ _ (λ (one : Carried). length (one.answers ++ (carried (rest_of outcomes) one.values items).answers) ≡ suc (length items))
    (λ _. ap suc (answers_many (rest_of outcomes) values items))
    (λ _. by_outcome (λ v. answers_many (rest_of outcomes) v items) (first_of outcomes)))
  where
    by_outcome : ((v : Values) → length (carried (rest_of outcomes) v items).answers ≡ length items) → (outcome : Outcome) → length ((accepted outcome values command).answers ++ (carried (rest_of outcomes) (accepted outcome values command).values items).answers) ≡ suc (length items)
    by_outcome again Pass = ap suc (again (accepted Pass values command).values)
    by_outcome again (Fault is_lost) = ap suc (again (accepted (Fault is_lost) values command).values)

-- Each block of an answer has eight octets.
blocks_short : (pairs : List (AskedBlock × BlockError)) → length (flat_map (λ (pair : AskedBlock × BlockError). response_bytes pair.0.kind pair.1) pairs) ≡ length pairs * 8
blocks_short [] = refl
blocks_short (pair ∷ pairs) =
    length-append (response_bytes pair.0.kind pair.1) (flat_map (λ (pair : AskedBlock × BlockError). response_bytes pair.0.kind pair.1) pairs) ∙ ap (λ n. 8 + n) (blocks_short pairs) ∙ omega arith

zip_many : (blocks : List AskedBlock) (answers : List BlockError) → length (zip blocks answers) ≤ length blocks
zip_many [] answers = omega arith
zip_many (block ∷ blocks) [] = omega arith
zip_many (block ∷ blocks) (answer ∷ answers) = let l = zip_many blocks answers in omega arith

last_can : (identity : Identity) (farewell : Option Farewell) (last : Sent) → AreSendable identity (farewells_in farewell ++ last ∷ []) → IsSendable identity last
last_can identity None last can = can.0
last_can identity (Some farewell) last can = can.1.0

items_many : (in_operation : Bool) (blocks : List AskedBlock) → length (map (λ (block : AskedBlock). item_of in_operation block.kind block.contents) blocks) ≡ length blocks
items_many in_operation [] = refl
items_many in_operation (block ∷ blocks) = ap suc (items_many in_operation blocks)

-- A Set that is read block by block is bridged.
pub set_step : (mac : Mac) (names : List (List ℕ)) (outcomes : List Outcome) (station : Station) (live : Live) (event : Event) (asker : Mac) (request : Asked) (in_operation : Bool) (set : List ℕ)
    → handled station live (heard_of station.identity event) ≡ Sets asker request in_operation → asking_of mac event ≡ Set set → IsSetRead set request → request.xid < 2 ^ 32
    → AreSendable station.identity (handled_step outcomes station live (Sets asker request in_operation)).sent
    → Bridges mac names event live.values (step_of outcomes station live event)
unfolding plan_of heard_step handled_step
set_step mac names outcomes station live event asker request in_operation set is asks read small can =
    let plan : List SetItem = plan_of in_operation request in
    let answers : List BlockError = (carried outcomes live.values plan).answers in
    let items : items_of station live (heard_of station.identity event) ≡ plan = ap items_in is in
    let matched : AreMatched plan (map command_in (dcp_blocks set)) = plan_matched in_operation request.blocks (dcp_blocks set) read.blocks in
    let answer = last_can station.identity (farewell_at (resets plan answers) live.rest.link) (SetAnswer asker request answers) can in
    let all : length answers ≡ length request.blocks = answers_many outcomes live.values plan ∙ items_many in_operation request.blocks in
    let few = read.few in
    let pairs = zip_many request.blocks answers in
    let short : length (flat_map (λ (pair : AskedBlock × BlockError). response_bytes pair.0.kind pair.1) (zip request.blocks answers)) < 65536 =
    let l = blocks_short (zip request.blocks answers) in omega arith in
    let answered = ap (λ what. flat_map (block_errors set) (handled_step outcomes station live what).frames) is
    ∙ set_frames outcomes station live asker request in_operation set can
    ∙ set_answer_read set station.identity.mac asker request answers answer.destination answer.source small read.xid all few short
    ∙ ap (λ l. map error_number (carried outcomes live.values l).answers) (sym items) in
    bridged mac names outcomes station live event
    (subst (λ a. AreMatched (items_of station live (heard_of station.identity event)) (commands_in a)) (sym asks)
    (subst (λ l. AreMatched l (map command_in (dcp_blocks set))) (sym items) matched))
    (subst (λ a. flat_map (answers_in a) (step_of outcomes station live event).frames
    ≡ map error_number (carried outcomes live.values (items_of station live (heard_of station.identity event))).answers) (sym asks) answered)

-- ---- what is owed

map_many : (answers : List BlockError) → length (map error_number answers) ≡ length answers
map_many [] = refl
map_many (answer ∷ answers) = ap suc (map_many answers)

read_many : (blocks : List AskedBlock) (reads : List (ℕ × List ℕ)) → AreRead blocks reads → length reads ≡ length blocks
read_many [] [] read = refl
read_many [] (one ∷ reads) read = absurd read
read_many (block ∷ blocks) [] read = absurd read
read_many (block ∷ blocks) (one ∷ reads) read = ap suc (read_many blocks reads read.1)

-- A Set that is read block by block is answered block by block.
pub set_owed : (outcomes : List Outcome) (station : Station) (live : Live) (event : Event) (asker : Mac) (request : Asked) (in_operation : Bool) (set : List ℕ)
    → handled station live (heard_of station.identity event) ≡ Sets asker request in_operation → IsSetRead set request → request.xid < 2 ^ 32
    → AreSendable station.identity (handled_step outcomes station live (Sets asker request in_operation)).sent
    → length (flat_map (block_errors set) (step_of outcomes station live event).frames) ≡ length (dcp_blocks set)
unfolding plan_of heard_step handled_step
set_owed outcomes station live event asker request in_operation set is read small can =
    let plan : List SetItem = plan_of in_operation request in
    let answers : List BlockError = (carried outcomes live.values plan).answers in
    let answer = last_can station.identity (farewell_at (resets plan answers) live.rest.link) (SetAnswer asker request answers) can in
    let all : length answers ≡ length request.blocks = answers_many outcomes live.values plan ∙ items_many in_operation request.blocks in
    let few = read.few in
    let pairs = zip_many request.blocks answers in
    let short : length (flat_map (λ (pair : AskedBlock × BlockError). response_bytes pair.0.kind pair.1) (zip request.blocks answers)) < 65536 =
    let l = blocks_short (zip request.blocks answers) in omega arith in
    ap length (ap (λ what. flat_map (block_errors set) (handled_step outcomes station live what).frames) is
    ∙ set_frames outcomes station live asker request in_operation set can
    ∙ set_answer_read set station.identity.mac asker request answers answer.destination answer.source small read.xid all few short)
    ∙ map_many answers ∙ all ∙ sym (read_many request.blocks (dcp_blocks set) read.blocks)
