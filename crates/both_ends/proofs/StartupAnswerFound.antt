-- What a controller finds in the blocks of a response.
use Rattle.std.proofs.Common.{◌≡◌, ◌<◌, ◌==◌, ◌++◌, ℕ, suc, true, false, List, [], ◌∷◌, length, Some, None, Result, Ok, append_assoc, length-append, refl, ap, ◌∙◌, arith}
use Rattle.std.proofs.lemmas.Bool.{eqb-true, false_from_ne_true}
use Rattle.connect_blocks.specs.declared.ar_block.ArBlockRes.{ArBlockRes}
use Rattle.connect_blocks.specs.declared.iocr.IocrBlockRes.{IocrBlockRes}
use Rattle.wire.specs.Codec.{IsSound}
use Rattle.wire.specs.Formats.{big_bytes, number as two}
use Rattle.wire.proofs.Fields.{number_sound}
use Rattle.wire.specs.declared.blocks.fault.BlockFault.{BlockFault}
use Rattle.wire.specs.declared.blocks.fault.BlockFault.TheVariants.{Truncated}
use Rattle.wire.specs.blocks.Fields.{number_bytes}
use Rattle.block_codec.specs.declared.block.Block.{Block}
use Rattle.block_codec.specs.declared.block.Block.TheVariants as is
use Rattle.block_codec.specs.Block.{block_bytes, block_of, front, kind_of}
use Rattle.block_codec.specs.Kinds.{number_of}
use Rattle.connects.specs.declared.answers.alarm_relation.AlarmRelation.{AlarmRelation}
use Rattle.connects.specs.answers.AlarmRelation.{alarm_relation}
use Rattle.relations.specs.Connect.{alarm_answer}
use Rattle.relations.specs.Numbers.{endpoint_of}
use Rattle.connects.specs.answers.Connect.{alarm_next, next_as, found_in, is_looked_for, next_found, nothing, with_alarm, with_block, with_iocr}
use Rattle.both_ends.specs.startup.answer.Answer.{IsAllThere}

-- the type of what a controller finds
abbrev TypeOf : {A : Type 0} → A → Type 0
TypeOf {A = A} value = A

abbrev Found : Type 0
Found = TypeOf nothing

-- a block is read back, and is not empty
pub record IsOne (block : Block) : Type 0 where
  pub read : (rest : List ℕ) → block_of (block_bytes block ++ rest) ≡ front block rest
  pub some : 0 < length (block_bytes block)

not_none : (block : Block) (rest : List ℕ) → IsOne block → (length (block_bytes block ++ rest) == 0) ≡ false
not_none block rest one =
    false_from_ne_true (length (block_bytes block ++ rest) == 0)
    (λ t. let e = eqb-true (length (block_bytes block ++ rest)) 0 t in absurd (omega (arith, e, one.some, length-append (block_bytes block) rest)))

-- what a controller finds in a block that was written
abbrev pub FindsKnown : Type 0
FindsKnown = (block : Block) (rest : List ℕ) (found : Found) → is_looked_for (number_of (kind_of block)) ≡ true
    → block_of (block_bytes block ++ rest) ≡ front block rest → next_found found (block_bytes block ++ rest) ≡ Some (with_block block found, rest)

-- the AlarmCRBlockRes of a relation of this number
abbrev pub alarm_for : ℕ → AlarmRelation
alarm_for number = record { local_alarm_reference = endpoint_of number; max_alarm_data_length = 200 }

-- any AlarmCRBlockRes that can be written is read back
abbrev pub ReadsAlarms : Type 0
ReadsAlarms = (block : AlarmRelation) (rest : List ℕ) → alarm_relation.Fits block → alarm_relation.read (alarm_relation.write block rest) ≡ Ok (block, rest)

-- it can be written
alarm_fits : (number : ℕ) → number < 14336 → alarm_relation.Fits (alarm_for number)
unfolding alarm_relation
alarm_fits number few = ((refl, omega arith), ((refl, omega arith), ((refl, omega arith), ((refl, omega arith), (omega arith, (omega (arith, few), (refl, omega arith)))))))

-- it begins with its BlockType
alarm_front : (number : ℕ) (rest : List ℕ) → (tail : List ℕ) × (alarm_answer number ++ rest ≡ big_bytes 2 0x8103 ++ tail)
unfolding alarm_relation number_bytes
alarm_front number rest = (_, refl)

alarm_alike : (number : ℕ) (rest : List ℕ) → alarm_answer number ++ rest ≡ alarm_relation.write (alarm_for number) rest
unfolding alarm_relation number_bytes
alarm_alike number rest = refl

alarm_first : (number : ℕ) (rest : List ℕ) (found : Found)
    → next_found found (alarm_answer number ++ rest) ≡ alarm_next found (alarm_relation.read (alarm_answer number ++ rest))
unfolding next_found
alarm_first number rest found =
    let there = alarm_front number rest in
    let sound : IsSound (two Truncated 2) = number_sound Truncated 2 in
    ap (λ (r : Result (ℕ × List ℕ) BlockFault). next_as found (alarm_answer number ++ rest) r)
    (ap (λ (bytes : List ℕ). (two Truncated 2).read bytes) there.1
    ∙ sound.again (big_bytes 2 0x8103 ++ there.0) 0x8103 there.0 (sound.written 0x8103 there.0 (omega arith)))

pub not_empty : (x : ℕ) (xs : List ℕ) → (length (x ∷ xs) == 0) ≡ false
not_empty x xs = false_from_ne_true (length (x ∷ xs) == 0) (λ t. let e = eqb-true (length (x ∷ xs)) 0 t in absurd (omega (arith, e)))

alarm_begins : (number : ℕ) (rest : List ℕ) → (first : ℕ) × (tail : List ℕ) × (alarm_answer number ++ rest ≡ first ∷ tail)
unfolding alarm_relation number_bytes
alarm_begins number rest = (_, _, refl)

alarm_some : (number : ℕ) (rest : List ℕ) → (length (alarm_answer number ++ rest) == 0) ≡ false
alarm_some number rest =
    let there = alarm_begins number rest in
    ap (λ (bytes : List ℕ). length bytes == 0) there.2 ∙ not_empty there.0 there.1

-- it is found
pub alarm_found : ReadsAlarms → (number : ℕ) → number < 14336 → (rest : List ℕ) (found : Found)
    → next_found found (alarm_answer number ++ rest) ≡ Some (with_alarm (alarm_for number) found, rest)
alarm_found reads number few rest found =
    alarm_first number rest found
    ∙ ap (λ (r : Result (AlarmRelation × List ℕ) BlockFault). alarm_next found r)
    (ap (λ (bytes : List ℕ). alarm_relation.read bytes) (alarm_alike number rest) ∙ reads (alarm_for number) rest (alarm_fits number few))

pub found_next : (most : ℕ) (bytes rest : List ℕ) (found next : Found) → (length (bytes ++ rest) == 0) ≡ false → next_found found (bytes ++ rest) ≡ Some (next, rest)
    → found_in (suc most) (bytes ++ rest) found ≡ found_in most rest next
unfolding found_in
found_next most bytes rest found next some read = rw (some, read) refl

pub found_alarm : ReadsAlarms → (number : ℕ) → number < 14336 → (most : ℕ) (rest : List ℕ) (found : Found)
    → found_in (suc most) (alarm_answer number ++ rest) found ≡ found_in most rest (with_alarm (alarm_for number) found)
found_alarm reads number few most rest found =
    found_next most (alarm_answer number) rest found (with_alarm (alarm_for number) found) (alarm_some number rest) (alarm_found reads number few rest found)

found_all : (most : ℕ) (found : Found) → found_in (suc most) [] found ≡ Some found
unfolding found_in
found_all most found = refl

-- which of the two IOCRBlockRes it is
as_input : (block : IocrBlockRes) (found : Found) → block.iocr_type ≡ 1 → with_iocr block found ≡ record found { input = true }
as_input block found e = rw e refl

as_output : (block : IocrBlockRes) (found : Found) → block.iocr_type ≡ 2 → found.output ≡ None → with_iocr block found ≡ record found { output = Some block.frame_id }
as_output block found e none = rw (e, none) refl

module _ (relation : ArBlockRes) (input output : IocrBlockRes) (r : IsOne (is.ArBlockRes relation)) (i : IsOne (is.IocrBlockRes input)) (o : IsOne (is.IocrBlockRes output)) (known : FindsKnown) (reads : ReadsAlarms) (number : ℕ) (few : number < 14336) where
  abbrev relation_bytes : List ℕ
  relation_bytes = block_bytes (is.ArBlockRes relation)

  abbrev input_bytes : List ℕ
  input_bytes = block_bytes (is.IocrBlockRes input)

  abbrev output_bytes : List ℕ
  output_bytes = block_bytes (is.IocrBlockRes output)

  abbrev alarm_bytes : List ℕ
  alarm_bytes = alarm_answer number

  found_behind : (most : ℕ) (block : Block) (rest : List ℕ) (found : Found) → IsOne block → is_looked_for (number_of (kind_of block)) ≡ true
      → found_in (suc most) (block_bytes block ++ rest) found ≡ found_in most rest (with_block block found)
  found_behind most block rest found one is = found_next most (block_bytes block) rest found (with_block block found) (not_none block rest one) (known block rest found is (one.read rest))

  ar_is : is_looked_for (number_of (kind_of (is.ArBlockRes relation))) ≡ true
  unfolding number_of
  ar_is = refl

  iocr_is : (block : IocrBlockRes) → is_looked_for (number_of (kind_of (is.IocrBlockRes block))) ≡ true
  unfolding number_of
  iocr_is block = refl

  -- the blocks, one after the other
  behind_one_another : (first second third fourth : List ℕ) → ((first ++ (second ++ third)) ++ fourth) ++ [] ≡ first ++ (second ++ (third ++ (fourth ++ [])))
  behind_one_another first second third fourth =
      append_assoc (first ++ (second ++ third)) fourth []
      ∙ (append_assoc first (second ++ third) (fourth ++ []) ∙ ap (λ (rest : List ℕ). first ++ rest) (append_assoc second third (fourth ++ [])))

  pub input_first : input.iocr_type ≡ 1 → output.iocr_type ≡ 2 → IsAllThere (((relation_bytes ++ (input_bytes ++ output_bytes)) ++ alarm_bytes) ++ []) output.frame_id (endpoint_of number)
  input_first of_inputs of_outputs =
      let one = record nothing { relation = true } in
      let two = record one { input = true } in
      let three = record two { output = Some output.frame_id } in
      ap (λ (bytes : List ℕ). found_in 400 bytes nothing) (behind_one_another relation_bytes input_bytes output_bytes alarm_bytes)
      ∙ (found_behind 399 (is.ArBlockRes relation) (input_bytes ++ (output_bytes ++ (alarm_bytes ++ []))) nothing r ar_is
      ∙ (found_behind 398 (is.IocrBlockRes input) (output_bytes ++ (alarm_bytes ++ [])) one i (iocr_is input)
      ∙ (ap (λ (found : Found). found_in 398 (output_bytes ++ (alarm_bytes ++ [])) found) (as_input input one of_inputs)
      ∙ (found_behind 397 (is.IocrBlockRes output) (alarm_bytes ++ []) two o (iocr_is output)
      ∙ (ap (λ (found : Found). found_in 397 (alarm_bytes ++ []) found) (as_output output two of_outputs refl)
      ∙ (found_alarm reads number few 396 [] three
      ∙ found_all 395 (record three { alarm = Some (endpoint_of number) })))))))

  pub output_first : input.iocr_type ≡ 1 → output.iocr_type ≡ 2 → IsAllThere (((relation_bytes ++ (output_bytes ++ input_bytes)) ++ alarm_bytes) ++ []) output.frame_id (endpoint_of number)
  output_first of_inputs of_outputs =
      let one = record nothing { relation = true } in
      let two = record one { output = Some output.frame_id } in
      let three = record two { input = true } in
      ap (λ (bytes : List ℕ). found_in 400 bytes nothing) (behind_one_another relation_bytes output_bytes input_bytes alarm_bytes)
      ∙ (found_behind 399 (is.ArBlockRes relation) (output_bytes ++ (input_bytes ++ (alarm_bytes ++ []))) nothing r ar_is
      ∙ (found_behind 398 (is.IocrBlockRes output) (input_bytes ++ (alarm_bytes ++ [])) one o (iocr_is output)
      ∙ (ap (λ (found : Found). found_in 398 (input_bytes ++ (alarm_bytes ++ [])) found) (as_output output one of_outputs refl)
      ∙ (found_behind 397 (is.IocrBlockRes input) (alarm_bytes ++ []) two i (iocr_is input)
      ∙ (ap (λ (found : Found). found_in 397 (alarm_bytes ++ []) found) (as_input input two of_inputs)
      ∙ (found_alarm reads number few 396 [] three
      ∙ found_all 395 (record three { alarm = Some (endpoint_of number) })))))))
