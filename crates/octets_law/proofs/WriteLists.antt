-- The records of a list, read at fixed places.
use Rattle.std.proofs.Common.{◌≡◌, ◌≤◌, ◌+◌, ◌-◌, ◌*◌, ◌/◌, ℕ, zero, suc, true, false, List, [], ◌∷◌, ◌++◌, length, drop, take, nat_lt, is_some, Option, Some, None, Result, Ok, Err, refl, sym, ap, subst, ◌∙◌, arith}
use Rattle.std.proofs.lemmas.Bool.{cond_both}
use Rattle.std.proofs.lemmas.Bool.Decides.{nat_tests}
use Rattle.pn_values.specs.declared.real.Real.{Real}
use Rattle.wire.specs.declared.blocks.fault.BlockFault.{BlockFault}
use Rattle.block_codec.specs.declared.block.Block.{Block}
use Rattle.block_codec.specs.declared.block.Block.TheVariants as is
use Rattle.block_codec.specs.Block.{IsBlock, block, block_of, in_iod_write_req}
use Rattle.block_codec.proofs.Sound.{block_behind, block_takes}
use Rattle.record_blocks.specs.declared.write_record.IodWriteReq.{IodWriteReq}
use Rattle.records.specs.declared.status.call_fault.CallFault.{CallFault}
use Rattle.records.specs.declared.writes.write.Write.{Write}
use Rattle.records.specs.writes.Entry.{Entry}
use Rattle.records.specs.writes.Handled.{effect_of, handled_request}
use Rattle.records.specs.writes.Several.{entries_in, entries_then, entry_behind, entry_in, entry_of, is_list, is_then, padded}
use Rattle.asked_records.specs.Judging.{asked_name}
use Rattle.asked_records.specs.declared.names.RecordName.{RecordName}
use Rattle.device_core.specs.Several.{judged_each, judged_entry, with_status}
use Rattle.octets_law.specs.Octets.{text_in, texts_in}
use Rattle.octets_law.proofs.CallPlaces.{take_within}
use Rattle.octets_law.proofs.WriteCalls.{request_in, request_ok}
use Rattle.octets_law.proofs.WriteFaults.{IsPlainIn, plain_not, request_plain}
use Rattle.octets_law.proofs.WriteMarks.{AreWritten, IsWritten, other_fault}
use Rattle.octets_law.proofs.WriteReads.{IsHeaderRead, header_read}
use Rattle.octets_law.proofs.WriteTexts.{text_read}

-- The first record of a list, and what follows it.
pub record IsEntry (octets : List ℕ) (x : Entry × List ℕ) : Type 0 where
  pub behind : List ℕ
  pub spelled : IsBlock octets (is.IodWriteReq x.0.0) behind
  pub whole : x.0.0.header.record_data_length ≤ length behind
  pub octets_are : x.0.1 ≡ take x.0.0.header.record_data_length behind
  pub next : x.1 ≡ drop (padded x.0.0.header.record_data_length) behind

enough : (n m : ℕ) → nat_lt n m ≡ false → m ≤ n
enough n m is = grind (arith, nat_tests)

same_entry : (one other : Entry × List ℕ) → Some one ≡ Some other → one ≡ other
same_entry one other e = cc

pub entry_facts : (octets : List ℕ) (x : Entry × List ℕ) → entry_of octets ≡ Some x → IsEntry octets x
unfolding entry_of
entry_facts octets x = by_block (block_of octets) refl
  where
    by_request : (y : Block × List ℕ) → IsBlock octets y.0 y.1 → (found : Option IodWriteReq) → in_iod_write_req y.0 ≡ found → entry_behind found y.1 ≡ Some x → IsEntry octets x
    by_request y spelled None is e = absurd cc
    by_request y spelled (Some request) is e =
        cond_both (nat_lt (length y.1) request.header.record_data_length) _ _ (λ (r : Option (Entry × List ℕ)). r ≡ Some x → IsEntry octets x)
        (λ _ e. absurd cc)
        (λ fits e. subst (IsEntry octets) (same_entry _ x e) (record {
          behind = y.1;
          spelled = subst (λ v. IsBlock octets v y.1) (sym (request_in y.0 request is)) spelled;
          whole = enough (length y.1) request.header.record_data_length fits;
          octets_are = refl;
          next = refl;
        })) e

    by_block : (came : Result (Block × List ℕ) BlockFault) → block_of octets ≡ came → entry_in came ≡ Some x → IsEntry octets x
    by_block (Ok y) is e = by_request y (block_takes octets y.0 y.1 is) (in_iod_write_req y.0) refl e
    by_block (Err why) is e = absurd cc

drop_append : (n : ℕ) (front rest : List ℕ) → drop n (front ++ rest) ≡ drop n front ++ drop (n - length front) rest
drop_append zero front rest = ap (λ k. front ++ drop k rest) (none_less (length front))
  where
    none_less : (m : ℕ) → 0 ≡ 0 - m
    none_less m = omega arith
drop_append (suc n) [] rest = ap (λ k. drop k rest) (less_none n)
  where
    less_none : (n : ℕ) → suc n ≡ suc n - 0
    less_none n = omega arith
drop_append (suc n) (x ∷ front) rest = drop_append n front rest ∙ ap (λ k. drop n front ++ drop k rest) (both_less n (length front))
  where
    both_less : (n m : ℕ) → n - m ≡ suc n - suc m
    both_less n m = omega arith

take_twice : (n : ℕ) (octets : List ℕ) → take n (take n octets) ≡ take n octets
take_twice zero octets = refl
take_twice (suc n) [] = refl
take_twice (suc n) (x ∷ octets) = ap (λ l. x ∷ l) (take_twice n octets)

-- A record of a list is read as what it asks for; one of the application is refused there.
entry_written : (named : List RecordName) (standing : Option (List ℕ)) (real : Real) (octets extra : List ℕ) (x : Entry × List ℕ) (it : IsEntry octets x)
    → IsHeaderRead (octets ++ extra) x.0.0 (it.behind ++ extra) → IsWritten (judged_entry named standing real x.0) (text_in (octets ++ extra))
entry_written named standing real octets extra x it header =
    cond_both (is_some (asked_name real named x.0.0.header)) _ _ (λ r. IsWritten r (text_in (octets ++ extra))) (λ _. record { no_zero = refl; no_five = refl })
    (λ _. by_came (handled_request standing real x.0.0 x.0.1) refl)
  where
    n : ℕ
    n = x.0.0.header.record_data_length

    by_came : (came : Result Write CallFault) → handled_request standing real x.0.0 x.0.1 ≡ came → IsWritten (with_status came) (text_in (octets ++ extra))
    by_came (Ok write) is =
        text_read real (octets ++ extra) x.0.0 (it.behind ++ extra) write.effect header
        (ap (effect_of real x.0.0) (take_within n it.behind extra it.whole ∙ sym (take_twice n it.behind) ∙ ap (take n) (sym it.octets_are))
        ∙ request_ok standing real x.0.0 x.0.1 write is)
    by_came (Err why) is = other_fault why (plain_not why (subst IsPlainIn is (request_plain standing real x.0.0 x.0.1)))

no_entry : entry_of [] ≡ None
unfolding entry_of block_of block
no_entry = refl

-- The records of a list are read as what each asks for, whatever follows the list.
pub texts_listed : (named : List RecordName) (standing : Option (List ℕ)) (real : Real) (most : ℕ) (octets extra : List ℕ) → is_list most octets ≡ true
    → AreWritten (judged_each named standing real (entries_in most octets)) (texts_in most (octets ++ extra))
unfolding entries_in is_list
texts_listed named standing real zero [] extra is = tt
texts_listed named standing real zero (one ∷ others) extra is = absurd cc
texts_listed named standing real (suc most) [] extra is =
    subst (λ (e : Option (Entry × List ℕ)). AreWritten (judged_each named standing real (entries_then e (entries_in most))) (texts_in (suc most) extra))
    (sym no_entry) tt
texts_listed named standing real (suc most) (one ∷ others) extra whole = by_entry (texts_listed named standing real most) (entry_of (one ∷ others)) refl whole
  where
    by_entry : ((octets extra : List ℕ) → is_list most octets ≡ true
        → AreWritten (judged_each named standing real (entries_in most octets)) (texts_in most (octets ++ extra)))
        → (found : Option (Entry × List ℕ)) → entry_of (one ∷ others) ≡ found → is_then found (is_list most) ≡ true
        → AreWritten (judged_each named standing real (entries_then found (entries_in most))) (texts_in (suc most) (one ∷ (others ++ extra)))
    by_entry again None there listed = absurd cc
    by_entry again (Some x) there listed =
        let it = entry_facts (one ∷ others) x there in
        let n = x.0.0.header.record_data_length in
        let header = header_read ((one ∷ others) ++ extra) x.0.0 (it.behind ++ extra) (block_behind (one ∷ others) (is.IodWriteReq x.0.0) it.behind extra it.spelled) in
        let next = ap (λ k. drop (64 + (k + 3) / 4 * 4) ((one ∷ others) ++ extra)) header.count ∙ header.behind (padded n) ∙ drop_append (padded n) it.behind extra
        ∙ ap (λ l. l ++ drop (padded n - length it.behind) extra) (sym it.next) in (
          entry_written named standing real (one ∷ others) extra x it header,
          subst (λ l. AreWritten (judged_each named standing real (entries_in most x.1)) (texts_in most l)) (sym next)
              (again x.1 (drop (padded n - length it.behind) extra) listed),
        )
