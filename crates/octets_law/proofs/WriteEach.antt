-- A step of a Write of several records, from the blocks of its call and the statuses of its answer.
use Rattle.std.proofs.Common.{◌≡◌, ◌==◌, ℕ, zero, suc, true, List, [], ◌∷◌, ◌++◌, length, drop, take, nat_lt, Option, Some, None, Result, Ok, refl, sym, ap, subst, ◌∙◌}
use Rattle.std.proofs.lemmas.Bool.{and_parts, cond_both, cond-true}
use Rattle.wire.specs.Checks.{or_fault}
use Rattle.pn_values.specs.declared.real.Real.{Real}
use Rattle.pn_values.specs.declared.command.Command.{Command}
use Rattle.record_blocks.specs.declared.write_record.IodWriteReq.{IodWriteReq}
use Rattle.records.specs.declared.status.call_fault.CallFault.{CallFault}
use Rattle.records.specs.declared.status.call_fault.CallFault.TheVariants as fault
use Rattle.records.specs.declared.writes.write.Write.{Write}
use Rattle.records.specs.declared.writes.writing.Writing.{Writing}
use Rattle.records.specs.declared.writes.writing.Writing.TheVariants.{One, Each}
use Rattle.records.specs.calls.Naming.{in_relation}
use Rattle.records.specs.writes.Asked.{handled_writing, several_of, writing_of}
use Rattle.records.specs.writes.Entry.{Entry}
use Rattle.records.specs.writes.Handled.{handled_request}
use Rattle.records.specs.writes.Several.{entries_in, is_list, is_several, list_behind, most_entries}
use Rattle.asked_records.specs.declared.names.RecordName.{RecordName}
use Rattle.device_core.specs.Several.{judged_each}
use Rattle.octets_law.specs.Octets.{number, texts_in, written_by}
use Rattle.octets_law.proofs.WriteCalls.{bind_ok, fault_ok, write_read}
use Rattle.octets_law.proofs.WriteLists.{texts_listed}
use Rattle.octets_law.proofs.WriteMarks.{AreWritten}

pub one_each : (write : Write) (header : IodWriteReq) (entries : List Entry) → ◌≡◌ {A = Result Writing CallFault} (Ok (One write)) (Ok (Each header entries)) → ⊥
one_each write header entries e = absurd cc

same_entries : (one other : IodWriteReq) (some more : List Entry) → ◌≡◌ {A = Result Writing CallFault} (Ok (Each one some)) (Ok (Each other more)) → some ≡ more
same_entries one other some more e = cc

same_list : (one other : List Entry) → Some one ≡ Some other → one ≡ other
same_list one other e = cc

-- The entries of a list, and its octets.
pub record IsListed (request : IodWriteReq) (rest : List ℕ) (entries : List Entry) : Type 0 where
  pub several : is_several request ≡ true
  pub octets : List ℕ
  pub extra : List ℕ
  pub parts : rest ≡ octets ++ extra
  pub list : is_list most_entries octets ≡ true
  pub entries_are : entries_in most_entries octets ≡ entries

take_drop : (n : ℕ) (octets : List ℕ) → octets ≡ take n octets ++ drop n octets
take_drop zero octets = refl
take_drop (suc n) [] = refl
take_drop (suc n) (x ∷ octets) = ap (λ l. x ∷ l) (take_drop n octets)

list_facts : (request : IodWriteReq) (rest : List ℕ) (entries : List Entry) → is_several request ≡ true → list_behind request rest ≡ Some entries → IsListed request rest entries
list_facts request rest entries several =
    cond_both (nat_lt (length rest) request.header.record_data_length) _ _ P (λ _ e. absurd cc)
    (λ _. cond_both (is_list most_entries (take request.header.record_data_length rest)) _ _ P
    (λ list e. record {
      several = several;
      octets = take request.header.record_data_length rest;
      extra = drop request.header.record_data_length rest;
      parts = take_drop request.header.record_data_length rest;
      list = list;
      entries_are = same_list _ _ e;
    }) (λ _ e. absurd cc))
  where
    P : Option (List Entry) → Type 0
    P r = r ≡ Some entries → IsListed request rest entries

pub each_inside : (standing : Option (List ℕ)) (real : Real) (request : IodWriteReq) (rest : List ℕ) (header : IodWriteReq) (entries : List Entry)
    → handled_writing standing real request rest ≡ Ok (Each header entries) → IsListed request rest entries
unfolding several_of
each_inside standing real request rest header entries =
    cond_both (is_several request) _ _ (λ (r : Result Writing CallFault). r ≡ Ok (Each header entries) → IsListed request rest entries)
    (λ several e. let t = bind_ok (several_of standing request rest) (λ found. Ok (Each request found)) (Each header entries) e in
    let u = bind_ok (in_relation standing request.header.ar_uuid) (λ _. or_fault fault.WriteLength (list_behind request rest)) t.0 t.1 in
    subst (IsListed request rest) (same_entries request header t.0 entries t.2) (list_facts request rest t.0 several (fault_ok fault.WriteLength _ t.0 u.2)))
    (λ _ e. let t = bind_ok (handled_request standing real request rest) (λ write. Ok (One write)) (Each header entries) e in absurd (one_each t.0 header entries t.2))

-- What is read of a list: nothing for its header, and then its records.
pub each_asked : (named : List RecordName) (standing : Option (List ℕ)) (real : Real) (blocks : List ℕ) (header : IodWriteReq) (entries : List Entry)
    → writing_of standing real blocks ≡ Ok (Each header entries)
    → (texts : List (Option Command)) × (written_by blocks ≡ None ∷ texts) × AreWritten (judged_each named standing real entries) texts
each_asked named standing real blocks header entries e =
    let it = write_read standing real blocks (Each header entries) e in
    let of = each_inside standing real it.request it.rest header entries it.asked in
    let listed : (number 34 2 blocks == 0xE040) ≡ true = ap (λ n. n == 0xE040) it.header.index ∙ (and_parts (it.request.header.index == 0xE040) _ of.several).0 in (
      texts_in 16 (drop 64 blocks),
      cond-true (number 34 2 blocks == 0xE040) _ _ listed,
      subst (λ l. AreWritten (judged_each named standing real entries) (texts_in 16 l)) (sym (it.header.behind 0 ∙ of.parts))
          (subst (λ l. AreWritten (judged_each named standing real l) (texts_in 16 (of.octets ++ of.extra))) of.entries_are
          (texts_listed named standing real 16 of.octets of.extra of.list)),
    )
