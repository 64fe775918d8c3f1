-- The statuses in the answer to a Write of several records, read at fixed places.
use Rattle.std.proofs.Common.{◌≡◌, ◌≤◌, ◌<◌, ◌^◌, ℕ, zero, suc, List, [], ◌∷◌, ◌++◌, length, drop, replicate, Option, refl, sym, ap, ◌∙◌, arith, append_assoc}
use Rattle.std.proofs.lemmas.List.{append-nil}
use Rattle.byteorder.specs.Endian.{big_bytes}
use Rattle.pn_values.specs.declared.set_item.BlockError.{BlockError}
use Rattle.rpc_core.specs.declared.response.Status.{Status}
use Rattle.wire.specs.blocks.Fields.{body, number_bytes, octet_bytes, version, zeros}
use Rattle.block_codec.specs.declared.block.Block.TheVariants as is
use Rattle.block_codec.specs.Kinds.{number_of as kind_number}
use Rattle.block_codec.specs.Block.{fields_of, kind_of}
use Rattle.block_codec.proofs.Sound.{block_parts}
use Rattle.record_blocks.specs.RecordHeader.{record_header}
use Rattle.record_blocks.specs.WriteRecord.{iod_write_res}
use Rattle.record_blocks.specs.declared.write_record.IodWriteReq.{IodWriteReq}
use Rattle.records.specs.status.Status.{done}
use Rattle.records.specs.writes.Answer.{answer_of, header_of, number_of, outcome_of as response_of, outcomes_of}
use Rattle.relations.specs.RelationState.{RelationState}
use Rattle.device_core.specs.Several.{Judged}
use Rattle.device_core.specs.Machine.{one_answers, one_link, one_status, several_answer, statuses_of}
use Rattle.octets_law.specs.Octets.{number, statuses_in}
use Rattle.octets_law.proofs.CallPlaces.{skip}
use Rattle.octets_law.proofs.SetFrames.{number_front}
use Rattle.octets_law.proofs.WriteFaults.{IsSmallIn, one_small}
use Rattle.octets_law.proofs.WriteMarks.{numbers}

-- The octets of one header: its type, its length, and what that counts.
abbrev octets_for : IodWriteReq → Status → List ℕ
octets_for request status =
    let value = is.IodWriteRes (header_of request status) in
    big_bytes 2 (kind_number (kind_of value)) ++ (big_bytes 2 ((fields_of (kind_of value)).size value) ++ (fields_of (kind_of value)).write value)

response_parts : (request : IodWriteReq) (status : Status) → response_of request status ≡ octets_for request status
unfolding response_of
response_parts request status = block_parts (is.IodWriteRes (header_of request status))

-- It has 64 octets.
behind_one : (request : IodWriteReq) (status : Status) (rest : List ℕ) → length request.header.ar_uuid ≡ 16 → drop 64 (octets_for request status ++ rest) ≡ rest
unfolding kind_number fields_of body version iod_write_res record_header number_bytes octet_bytes zeros
behind_one request status rest wide =
    ap (drop 56) (append_assoc request.header.ar_uuid _ rest) ∙ skip 40 16 request.header.ar_uuid _ wide

-- Its status is at place 44.
status_at : (request : IodWriteReq) (status : Status) (rest : List ℕ) → length request.header.ar_uuid ≡ 16 → number_of status < 256 ^ 4
    → number 44 4 (octets_for request status ++ rest) ≡ number_of status
unfolding kind_number fields_of body version iod_write_res record_header number_bytes octet_bytes zeros
status_at request status rest wide small =
    ap (number 36 4) (append_assoc request.header.ar_uuid _ rest) ∙ ap (number 0 4) (skip 20 16 request.header.ar_uuid _ wide) ∙ number_front 4 (number_of status) (replicate 16 0 ++ rest) small

first_status : (most : ℕ) (request : IodWriteReq) (status : Status) (rest : List ℕ) → length request.header.ar_uuid ≡ 16 → number_of status < 256 ^ 4
    → statuses_in (suc most) (response_of request status ++ rest) ≡ number_of status ∷ statuses_in most rest
unfolding kind_number
first_status most request status rest wide small =
    ap (λ l. statuses_in (suc most) (l ++ rest)) (response_parts request status)
    ∙ ap (λ n. n ∷ statuses_in most (drop 64 (octets_for request status ++ rest))) (status_at request status rest wide small)
    ∙ ap (λ l. number_of status ∷ statuses_in most l) (behind_one request status rest wide)

none_in : (most : ℕ) → statuses_in most [] ≡ []
none_in zero = refl
none_in (suc most) = refl

-- The records of a list: each names a relation by 16 octets, and is refused with a status of four octets if it is.
abbrev pub AreJudged : List Judged → Type 0
AreJudged [] = Unit {0}
AreJudged (one ∷ others) = (length one.0.header.ar_uuid ≡ 16) × IsSmallIn one.1 × AreJudged others

-- The statuses are read as they are.
pub statuses_read : (most : ℕ) (judged : List Judged) (answers : List BlockError) (link : Option RelationState) → AreJudged judged → length judged ≤ most
    → statuses_in most (outcomes_of (statuses_of judged answers link)) ≡ numbers (statuses_of judged answers link)
statuses_read most [] answers link are few = none_in most
statuses_read zero (one ∷ others) answers link are few = absurd (omega arith)
statuses_read (suc most) (one ∷ others) answers link are few =
    first_status most one.0 _ (outcomes_of (statuses_of others (one_answers one.1 answers) (one_link one.1 link))) are.0
    (one_small one.0 one.1 answers link are.1)
    ∙ ap (λ l. number_of (one_status one.0 one.1 answers link) ∷ l)
    (statuses_read most others (one_answers one.1 answers) (one_link one.1 link) are.2 (omega arith))

pub several_read : (header : IodWriteReq) (judged : List Judged) (answers : List BlockError) (link : Option RelationState) → length header.header.ar_uuid ≡ 16
    → AreJudged judged → length judged ≤ 16 → statuses_in 16 (drop 64 (several_answer header judged answers link)) ≡ numbers (statuses_of judged answers link)
unfolding answer_of
several_read header judged answers link wide are few =
    ap (λ l. statuses_in 16 (drop 64 (l ++ outcomes_of (statuses_of judged answers link)))) (response_parts header done)
    ∙ ap (statuses_in 16) (behind_one header done (outcomes_of (statuses_of judged answers link)) wide)
    ∙ statuses_read 16 judged answers link are few

-- The answer to one record has no other status.
pub one_read : (header : IodWriteReq) → length header.header.ar_uuid ≡ 16 → statuses_in 16 (drop 64 (answer_of header)) ≡ []
unfolding answer_of
one_read header wide =
    ap (λ l. statuses_in 16 (drop 64 l)) (response_parts header done ∙ sym (append-nil (octets_for header done)))
    ∙ ap (statuses_in 16) (behind_one header done [] wide)
