-- What a controller finds in blocks that were written, and that what it found stays.
use Rattle.std.proofs.Common.{◌≡◌, ◌==◌, ◌++◌, ◌<◌, ◌^◌, ℕ, zero, suc, Bool, true, false, List, length, Option, Some, None, Result, Ok, Err, append_assoc, refl, ap, subst, ◌∙◌, arith}
use Rattle.std.specs.Prelude.{if◌then◌else◌}
use Rattle.std.proofs.lemmas.Bool.{false≢true}
use Rattle.wire.specs.Codec.{IsSound}
use Rattle.wire.specs.Formats.{big_bytes, number}
use Rattle.wire.proofs.Fields.{number_sound}
use Rattle.wire.proofs.Joined.{then_by_sound, seen_sound}
use Rattle.connect_blocks.specs.AlarmCr.{alarm_cr_block_res}
use Rattle.wire.specs.declared.blocks.fault.BlockFault.{BlockFault}
use Rattle.wire.specs.declared.blocks.fault.BlockFault.TheVariants.{Truncated}
use Rattle.wire.specs.blocks.Fields.{body, number_bytes, version}
use Rattle.wire.proofs.BlocksSound.{fixed_one_sound, fixed_sound, numeral_sound, ranged_sound, unchecked_two_sound}
use Rattle.block_codec.specs.declared.block.Block.{Block}
use Rattle.block_codec.specs.declared.block.Block.TheVariants as is
use Rattle.block_codec.specs.Block.{block, block_bytes, block_of, body_of, fields_of, front, kind_of}
use Rattle.block_codec.specs.Kinds.{number_of, type_of}
use Rattle.connects.specs.declared.answers.alarm_relation.AlarmRelation.{AlarmRelation}
use Rattle.connects.specs.declared.answers.connect.Found.{Found}
use Rattle.connects.specs.answers.AlarmRelation.{alarm_relation}
use Rattle.connects.specs.answers.OtherBlock.{other_block}
use Rattle.connects.specs.answers.Connect.{Keeps, alarm_next, behind_block, first_of, found_in, is_looked_for, next_as, next_by, next_found, other_next, read_next, with_alarm, with_block, with_diff}
use Rattle.connects.specs.answers.Usable.{is_usable}

-- ---- blocks that were written

-- A block begins with its BlockType.
front_of : (one : Block) → (tail : List ℕ) × (block_bytes one ≡ big_bytes 2 (number_of (kind_of one)) ++ tail)
unfolding block_bytes block
front_of one = (_, refl)

begins : (one : Block) (rest : List ℕ) → (tail : List ℕ) × (block_bytes one ++ rest ≡ big_bytes 2 (number_of (kind_of one)) ++ tail)
begins one rest =
    let there = front_of one in
    (there.0 ++ rest, ap (λ (bytes : List ℕ). bytes ++ rest) there.1 ∙ append_assoc (big_bytes 2 (number_of (kind_of one))) there.0 rest)

-- Its BlockType is read.
kind_is : (one : Block) (rest : List ℕ) → number_of (kind_of one) < 256 ^ 2
    → (tail : List ℕ) × ((number Truncated 2).read (block_bytes one ++ rest) ≡ Ok (number_of (kind_of one), tail))
kind_is one rest small =
    let there = begins one rest in
    let sound : IsSound (number Truncated 2) = number_sound Truncated 2 in (
      there.0,
      ap (λ (bytes : List ℕ). (number Truncated 2).read bytes) there.1
          ∙ sound.again (big_bytes 2 (number_of (kind_of one)) ++ there.0) (number_of (kind_of one)) there.0 (sound.written (number_of (kind_of one)) there.0 small),
    )

-- The step is the one for this BlockType.
step_is : (one : Block) (rest : List ℕ) (found : Found) → number_of (kind_of one) < 256 ^ 2
    → next_found found (block_bytes one ++ rest) ≡ next_by found (block_bytes one ++ rest) (number_of (kind_of one))
unfolding next_found
step_is one rest found small = ap (λ (r : Result (ℕ × List ℕ) BlockFault). next_as found (block_bytes one ++ rest) r) (kind_is one rest small).1

looked_for : (one : Block) (rest : List ℕ) (found : Found) → number_of (kind_of one) < 256 ^ 2 → is_looked_for (number_of (kind_of one)) ≡ true
    → block_of (block_bytes one ++ rest) ≡ front one rest → next_found found (block_bytes one ++ rest) ≡ Some (with_block one found, rest)
looked_for one rest found small is read =
    step_is one rest found small
    ∙ (ap (λ (b : Bool). if b then read_next found (block_of (block_bytes one ++ rest))
    else if number_of (kind_of one) == 0x8103 then alarm_next found (alarm_relation.read (block_bytes one ++ rest))
    else other_next found (other_block.read (block_bytes one ++ rest))) is
    ∙ ap (λ (r : Result (Block × List ℕ) BlockFault). read_next found r) read)

pub known_is : (one : Block) (rest : List ℕ) (found : Found) → is_looked_for (number_of (kind_of one)) ≡ true
    → block_of (block_bytes one ++ rest) ≡ front one rest → next_found found (block_bytes one ++ rest) ≡ Some (with_block one found, rest)
unfolding number_of
known_is (is.ArBlockRes value) rest found looks read = looked_for (is.ArBlockRes value) rest found (omega arith) looks read
known_is (is.IocrBlockRes value) rest found looks read = looked_for (is.IocrBlockRes value) rest found (omega arith) looks read
known_is (is.ModuleDiffBlock value) rest found looks read = looked_for (is.ModuleDiffBlock value) rest found (omega arith) looks read
known_is one rest found looks read = absurd (false≢true looks)

-- ---- the AlarmCRBlockRes

alarm_relation_sound : IsSound alarm_relation
unfolding alarm_relation
alarm_relation_sound = seen_sound _ _ _ (λ _. refl) (then_by_sound _ _ (fixed_sound 0 0x8103) (λ _. then_by_sound _ _ (fixed_sound 1 8)
    (λ _. then_by_sound _ _ (fixed_one_sound 2 1) (λ _. then_by_sound _ _ (fixed_one_sound 3 0) (λ _. then_by_sound _ _ (unchecked_two_sound 1)
    (λ _. then_by_sound _ _ (numeral_sound 2) (λ _. ranged_sound 6 200 1432)))))))

pub relation_read : (one : AlarmRelation) (rest : List ℕ) → alarm_relation.Fits one → alarm_relation.read (alarm_relation.write one rest) ≡ Ok (one, rest)
relation_read one rest fits = alarm_relation_sound.again (alarm_relation.write one rest) one rest (alarm_relation_sound.written one rest fits)

abbrev ours : AlarmRelation
ours = record { local_alarm_reference = 1; max_alarm_data_length = 200 }

ours_fits : alarm_relation.Fits ours
unfolding alarm_relation
ours_fits = ((refl, omega arith), ((refl, omega arith), ((refl, omega arith), ((refl, omega arith), (omega arith, (omega arith, (refl, omega arith)))))))

ours_alike : (rest : List ℕ) → block_bytes (is.AlarmCrBlockRes (record {})) ++ rest ≡ alarm_relation.write ours rest
unfolding block_bytes block body_of fields_of number_of type_of body version alarm_cr_block_res alarm_relation number_bytes
ours_alike rest = refl

small : number_of (kind_of (is.AlarmCrBlockRes (record {}))) < 256 ^ 2
unfolding number_of
small = omega arith

by_kind : (rest : List ℕ) (found : Found)
    → next_by found (block_bytes (is.AlarmCrBlockRes (record {})) ++ rest) (number_of (kind_of (is.AlarmCrBlockRes (record {}))))
    ≡ alarm_next found (alarm_relation.read (block_bytes (is.AlarmCrBlockRes (record {})) ++ rest))
unfolding number_of
by_kind rest found = refl

pub alarm_is : (rest : List ℕ) (found : Found) → next_found found (block_bytes (is.AlarmCrBlockRes (record {})) ++ rest) ≡ Some (with_alarm ours found, rest)
alarm_is rest found =
    step_is (is.AlarmCrBlockRes (record {})) rest found small
    ∙ (by_kind rest found
    ∙ ap (λ (r : Result (AlarmRelation × List ℕ) BlockFault). alarm_next found r)
    (ap (λ (bytes : List ℕ). alarm_relation.read bytes) (ours_alike rest) ∙ relation_read ours rest ours_fits))

-- ---- what was found stays

some_is : {A : Type 0} (x y : A) → Some x ≡ Some y → x ≡ y
some_is x y e = cc

first_stays : (seen : Option ℕ) (next number : ℕ) → seen ≡ Some number → first_of seen next ≡ Some number
first_stays seen next number e = rw e refl

keeps_same : (found : Found) → Keeps found found
keeps_same found = record { output = λ number e. e; alarm = λ number e. e }

keeps_on : (one two three : Found) → Keeps one two → Keeps two three → Keeps one three
keeps_on one two three first second =
    record { output = λ number e. second.output number (first.output number e); alarm = λ number e. second.alarm number (first.alarm number e) }

keeps_iocr : (input output : Bool) (frame_id : ℕ) (found : Found)
    → Keeps found (if input then record found { input = true } else if output then record found { output = first_of found.output frame_id } else found)
keeps_iocr true output frame_id found = record { output = λ number e. e; alarm = λ number e. e }
keeps_iocr false true frame_id found = record { output = λ number e. first_stays found.output frame_id number e; alarm = λ number e. e }
keeps_iocr false false frame_id found = keeps_same found

keeps_diff : (usable : Bool) (found : Found) → Keeps found (with_diff usable found)
keeps_diff true found = record { output = λ number e. e; alarm = λ number e. e }
keeps_diff false found = record { output = λ number e. e; alarm = λ number e. e }

keeps_block : (one : Block) (found : Found) → Keeps found (with_block one found)
keeps_block (is.ArBlockRes value) found = record { output = λ number e. e; alarm = λ number e. e }
keeps_block (is.IocrBlockRes value) found = keeps_iocr (value.iocr_type == 1) (value.iocr_type == 2) value.frame_id found
keeps_block (is.ModuleDiffBlock value) found = keeps_diff (is_usable value.modules) found
keeps_block one found = keeps_same found

keeps_alarm : (one : AlarmRelation) (found : Found) → Keeps found (with_alarm one found)
keeps_alarm one found = record { output = λ number e. e; alarm = λ number e. first_stays found.alarm one.local_alarm_reference number e }

abbrev KeepsStep : Found → Option (Found × List ℕ) → Type 0
KeepsStep found step = (next : Found) (rest : List ℕ) → step ≡ Some (next, rest) → Keeps found next

keeps_made : (found made : Found) (left : List ℕ) → Keeps found made → KeepsStep found (Some (made, left))
keeps_made found made left keeps next rest e =
    subst (λ (one : Found). Keeps found one) (ap (λ (p : Found × List ℕ). p.0) (some_is (made, left) (next, rest) e)) keeps

keeps_read : (found : Found) (read : Result (Block × List ℕ) BlockFault) → KeepsStep found (read_next found read)
keeps_read found (Ok x) = keeps_made found (with_block x.0 found) x.1 (keeps_block x.0 found)
keeps_read found (Err fault) = λ next rest e. absurd cc

keeps_relation : (found : Found) (read : Result (AlarmRelation × List ℕ) BlockFault) → KeepsStep found (alarm_next found read)
keeps_relation found (Ok x) = keeps_made found (with_alarm x.0 found) x.1 (keeps_alarm x.0 found)
keeps_relation found (Err fault) = λ next rest e. absurd cc

keeps_other : (found : Found) (read : Result ((ℕ × List ℕ) × List ℕ) BlockFault) → KeepsStep found (other_next found read)
keeps_other found (Ok x) = keeps_made found found x.1 (keeps_same found)
keeps_other found (Err fault) = λ next rest e. absurd cc

either : (found : Found) (b : Bool) (x y : Option (Found × List ℕ)) → KeepsStep found x → KeepsStep found y → KeepsStep found (if b then x else y)
either found true x y first second = first
either found false x y first second = second

keeps_as : (found : Found) (bytes : List ℕ) (read : Result (ℕ × List ℕ) BlockFault) → KeepsStep found (next_as found bytes read)
keeps_as found bytes (Ok x) =
    either found (is_looked_for x.0) _ _ (keeps_read found (block_of bytes))
    (either found (x.0 == 0x8103) _ _ (keeps_relation found (alarm_relation.read bytes)) (keeps_other found (other_block.read bytes)))
keeps_as found bytes (Err fault) = λ next rest e. absurd cc

keeps_step : (found : Found) (bytes : List ℕ) → KeepsStep found (next_found found bytes)
unfolding next_found
keeps_step found bytes = keeps_as found bytes ((number Truncated 2).read bytes)

keeps_behind : (found result : Found) (step : Option (Found × List ℕ)) (next : Found → List ℕ → Option Found) → KeepsStep found step
    → ((one : Found) (rest : List ℕ) → next one rest ≡ Some result → Keeps one result) → behind_block step next ≡ Some result → Keeps found result
keeps_behind found result (Some x) next keeps on e = keeps_on found x.0 result (keeps x.0 x.1 refl) (on x.0 x.1 e)
keeps_behind found result None next keeps on e = absurd cc

keeps_end : (found result : Found) (b : Bool) (more : Option Found) → (more ≡ Some result → Keeps found result) → (if b then Some found else more) ≡ Some result → Keeps found result
keeps_end found result true more on e = subst (λ (one : Found). Keeps found one) (some_is found result e) (keeps_same found)
keeps_end found result false more on e = on e

pub keeps_all : (most : ℕ) (bytes : List ℕ) (found result : Found) → found_in most bytes found ≡ Some result → Keeps found result
unfolding found_in
keeps_all zero bytes found result e = absurd cc
keeps_all (suc most) bytes found result e =
    keeps_end found result (length bytes == 0) _
    (keeps_behind found result (next_found found bytes) (λ next rest. found_in most rest next) (keeps_step found bytes) (λ one rest. keeps_all most rest one result)) e
