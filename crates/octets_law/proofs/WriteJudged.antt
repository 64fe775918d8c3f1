-- The records of a list: at most 16, each with a header that names a relation by 16 octets.
use Rattle.std.proofs.Common.{◌≡◌, ◌≤◌, ℕ, zero, suc, List, length, is_some, lit<, Option, Some, None, Result, Ok, Err, refl, subst, arith}
use Rattle.std.proofs.lemmas.Bool.{cond_both}
use Rattle.pn_values.specs.declared.real.Real.{Real}
use Rattle.record_blocks.specs.declared.write_record.IodWriteReq.{IodWriteReq}
use Rattle.records.specs.declared.status.call_fault.CallFault.{CallFault}
use Rattle.records.specs.declared.writes.write.Write.{Write}
use Rattle.records.specs.declared.writes.writing.Writing.{Writing}
use Rattle.records.specs.declared.writes.writing.Writing.TheVariants.{One, Each}
use Rattle.records.specs.writes.Asked.{handled_writing, several_of, writing_of}
use Rattle.records.specs.writes.Entry.{Entry}
use Rattle.records.specs.writes.Handled.{handled_request}
use Rattle.records.specs.writes.Several.{entries_in, entries_then, entry_of, is_several, most_entries}
use Rattle.asked_records.specs.Judging.{asked_name}
use Rattle.asked_records.specs.declared.names.RecordName.{RecordName}
use Rattle.device_core.specs.Several.{judged_each, judged_entry, with_status}
use Rattle.octets_law.proofs.WriteAnswers.{AreJudged}
use Rattle.octets_law.proofs.WriteCalls.{bind_ok, write_read}
use Rattle.octets_law.proofs.WriteEach.{each_inside, one_each}
use Rattle.octets_law.proofs.WriteFaults.{IsPlainIn, IsSmallIn, plain_small, request_plain}
use Rattle.octets_law.proofs.WriteLists.{entry_facts}
use Rattle.octets_law.proofs.WriteReads.{header_read}

judged_few : (named : List RecordName) (standing : Option (List ℕ)) (real : Real) (most : ℕ) (octets : List ℕ)
    → length (judged_each named standing real (entries_in most octets)) ≤ most
unfolding entries_in
judged_few named standing real zero octets = omega arith
judged_few named standing real (suc most) octets = by_entry (judged_few named standing real most) (entry_of octets)
  where
    by_entry : ((octets : List ℕ) → length (judged_each named standing real (entries_in most octets)) ≤ most) → (found : Option (Entry × List ℕ))
        → length (judged_each named standing real (entries_then found (entries_in most))) ≤ suc most
    by_entry again None = omega arith
    by_entry again (Some x) = let few = again x.1 in omega arith

came_small : (came : Result Write CallFault) → IsPlainIn came → IsSmallIn (with_status came)
came_small (Ok write) plain = tt
came_small (Err why) plain = plain_small why plain

entry_small : (named : List RecordName) (standing : Option (List ℕ)) (real : Real) (entry : Entry) → IsSmallIn (judged_entry named standing real entry)
entry_small named standing real entry =
    cond_both (is_some (asked_name real named entry.0.header)) _ _ IsSmallIn (λ _. lit< tt)
    (λ _. came_small (handled_request standing real entry.0 entry.1) (request_plain standing real entry.0 entry.1))

judged_all : (named : List RecordName) (standing : Option (List ℕ)) (real : Real) (most : ℕ) (octets : List ℕ)
    → AreJudged (judged_each named standing real (entries_in most octets))
unfolding entries_in
judged_all named standing real zero octets = tt
judged_all named standing real (suc most) octets = by_entry (judged_all named standing real most) (entry_of octets) refl
  where
    by_entry : ((octets : List ℕ) → AreJudged (judged_each named standing real (entries_in most octets))) → (found : Option (Entry × List ℕ))
        → entry_of octets ≡ found
        → AreJudged (judged_each named standing real (entries_then found (entries_in most)))
    by_entry again None there = tt
    by_entry again (Some x) there =
        let it = entry_facts octets x there in
        ((header_read octets x.0.0 it.behind it.spelled).uuid, entry_small named standing real x.0, again x.1)

same_header : (one other : IodWriteReq) (some more : List Entry) → ◌≡◌ {A = Result Writing CallFault} (Ok (Each one some)) (Ok (Each other more)) → one ≡ other
same_header one other some more e = cc

each_header : (standing : Option (List ℕ)) (real : Real) (request : IodWriteReq) (rest : List ℕ) (header : IodWriteReq) (entries : List Entry)
    → handled_writing standing real request rest ≡ Ok (Each header entries) → request ≡ header
each_header standing real request rest header entries =
    cond_both (is_several request) _ _ (λ (r : Result Writing CallFault). r ≡ Ok (Each header entries) → request ≡ header)
    (λ _ e. let t = bind_ok (several_of standing request rest) (λ found. Ok (Each request found)) (Each header entries) e in same_header request header t.0 entries t.2)
    (λ _ e. let t = bind_ok (handled_request standing real request rest) (λ write. Ok (One write)) (Each header entries) e in absurd (one_each t.0 header entries t.2))

-- A Write that is a list.
pub record IsList (named : List RecordName) (standing : Option (List ℕ)) (real : Real) (header : IodWriteReq) (entries : List Entry) : Type 0 where
  pub wide : length header.header.ar_uuid ≡ 16
  pub judged : AreJudged (judged_each named standing real entries)
  pub few : length (judged_each named standing real entries) ≤ 16

pub each_listed : (named : List RecordName) (standing : Option (List ℕ)) (real : Real) (blocks : List ℕ) (header : IodWriteReq) (entries : List Entry)
    → writing_of standing real blocks ≡ Ok (Each header entries) → IsList named standing real header entries
each_listed named standing real blocks header entries e =
    let it = write_read standing real blocks (Each header entries) e in
    let of = each_inside standing real it.request it.rest header entries it.asked in
    record {
      wide = subst (λ (r : IodWriteReq). length r.header.ar_uuid ≡ 16) (each_header standing real it.request it.rest header entries it.asked) it.header.uuid;
      judged = subst (λ l. AreJudged (judged_each named standing real l)) of.entries_are (judged_all named standing real most_entries of.octets);
      few = subst (λ l. length (judged_each named standing real l) ≤ 16) of.entries_are (judged_few named standing real most_entries of.octets);
    }
