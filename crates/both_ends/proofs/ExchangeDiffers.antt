-- The blocks of a device's response to the Connect of a plan choose a FrameID for outputs that is not one of alarms, and
-- the alarm endpoint of the relation's number, also if they say that modules differ.
use Rattle.std.proofs.Common.{◌≡◌, ◌<◌, ◌==◌, ◌+◌, ◌++◌, ℕ, suc, true, false, List, ◌∷◌, length, Option, Some, append_assoc, refl, sym, ap, subst, ◌∙◌, arith}
use Rattle.std.proofs.lemmas.Bool.{eqb-true, false_from_ne_true}
use Rattle.pn_values.specs.declared.identity.Identity.{Identity}
use Rattle.pn_values.specs.declared.real.Real.{Real}
use Rattle.frame_codec.specs.FrameId.{is_alarm}
use Rattle.block_codec.specs.declared.block.Block.{Block}
use Rattle.block_codec.specs.declared.block.Block.TheVariants as is
use Rattle.block_codec.specs.Block.{block, block_bytes, block_of, front, kind_of}
use Rattle.block_codec.specs.Kinds.{number_of}
use Rattle.block_codec.specs.Writable.{CanBeWritten}
use Rattle.connects.specs.requests.Request.{Request}
use Rattle.both_ends.specs.startup.request.Request.{request_for}
use Rattle.relations.specs.Connect.{alarm_answer, connect_blocks, differing_of}
use Rattle.relations.specs.Numbers.{endpoint_of}
use Rattle.both_ends.proofs.StartupAnswerFound.{ReadsAlarms, found_alarm}
use Rattle.controller_messages.specs.declared.setup.Setup.{Setup}
use Rattle.end_laws.specs.hearing.Stations.{IsDevice, IsSetup}
use Rattle.connects.specs.answers.Connect.{Chosen, Keeps, chosen_by, found_in, is_looked_for, next_found, nothing, with_block}
use Rattle.end_laws.specs.sending.Sized.{Found}
use Rattle.both_ends.specs.exchange.Sized.{IsChosenWell}

not_none : (x : ℕ) (xs : List ℕ) → (length (x ∷ xs) == 0) ≡ false
not_none x xs = false_from_ne_true (length (x ∷ xs) == 0) (λ t. let e = eqb-true (length (x ∷ xs)) 0 t in absurd (omega (arith, e)))

-- ---- the blocks of the response

front_bytes : (one : Block) → (first second : ℕ) × (tail : List ℕ) × (block_bytes one ≡ first ∷ second ∷ tail)
unfolding block_bytes block
front_bytes one = (_, _, _, refl)

some_block : (one : Block) (rest : List ℕ) → (length (block_bytes one ++ rest) == 0) ≡ false
some_block one rest =
    let there = front_bytes one in
    subst (λ (bytes : List ℕ). (length (bytes ++ rest) == 0) ≡ false) (sym there.3) (not_none there.0 (there.1 ∷ there.2 ++ rest))

found_next : (most : ℕ) (one : Block) (rest : List ℕ) (found next : Found) → next_found found (block_bytes one ++ rest) ≡ Some (next, rest)
    → found_in (suc most) (block_bytes one ++ rest) found ≡ found_in most rest next
unfolding found_in
found_next most one rest found next read = let some = some_block one rest in rw (some, read) refl

-- the blocks, one after the other
behind_one_another : (first second third fourth rest : List ℕ) → ((first ++ (second ++ third)) ++ fourth) ++ rest ≡ first ++ (second ++ (third ++ (fourth ++ rest)))
behind_one_another first second third fourth rest =
    append_assoc (first ++ (second ++ third)) fourth rest
    ∙ (append_assoc first (second ++ third) (fourth ++ rest) ∙ ap (λ (more : List ℕ). first ++ more) (append_assoc second third (fourth ++ rest)))

module _ (read : (one : Block) (rest : List ℕ) → CanBeWritten one → block_of (block_bytes one ++ rest) ≡ front one rest)
    (known : (one : Block) (rest : List ℕ) (found : Found) → is_looked_for (number_of (kind_of one)) ≡ true → block_of (block_bytes one ++ rest) ≡ front one rest
    → next_found found (block_bytes one ++ rest) ≡ Some (with_block one found, rest))
    (alarms : ReadsAlarms)
    (stays : (most : ℕ) (bytes : List ℕ) (found result : Found) → found_in most bytes found ≡ Some result → Keeps found result)
    (setup : Setup) (identity : Identity) (good : IsSetup setup) (six : IsDevice identity) (number : ℕ) (few : number < 14336) where
  abbrev request : Request
  request = request_for setup.plan setup.ar

  found_behind : (most : ℕ) (one : Block) (rest : List ℕ) (found : Found) → is_looked_for (number_of (kind_of one)) ≡ true → CanBeWritten one
      → found_in (suc most) (block_bytes one ++ rest) found ≡ found_in most rest (with_block one found)
  found_behind most one rest found is writable = found_next most one rest found (with_block one found) (known one rest found is (read one rest writable))

  abbrev relation_block : Block
  relation_block = is.ArBlockRes (record { ar_uuid = setup.ar; session_key = 1; cm_responder_mac_add = identity.mac })

  abbrev input_block : Block
  input_block = is.IocrBlockRes (record { iocr_type = 1; iocr_reference = 1; frame_id = 0xC001 })

  abbrev output_block : Block
  output_block = is.IocrBlockRes (record { iocr_type = 2; iocr_reference = 2; frame_id = 0xC000 + number })

  abbrev whole : Found
  whole = record nothing { relation = true; input = true; output = Some (0xC000 + number); alarm = Some (endpoint_of number) }

  ar_is : is_looked_for (number_of (kind_of relation_block)) ≡ true
  unfolding number_of
  ar_is = refl

  input_is : is_looked_for (number_of (kind_of input_block)) ≡ true
  unfolding number_of
  input_is = refl

  output_is : is_looked_for (number_of (kind_of output_block)) ≡ true
  unfolding number_of
  output_is = refl

  blocks_found : (differing : List ℕ) → found_in 400 (connect_blocks identity number request differing) nothing ≡ found_in 396 differing whole
  unfolding connect_blocks
  blocks_found differing =
      let one = record nothing { relation = true } in
      let two = record one { input = true } in
      let three = record two { output = Some (0xC000 + number) } in
      ap (λ (bytes : List ℕ). found_in 400 bytes nothing) (behind_one_another (block_bytes relation_block) (block_bytes input_block) (block_bytes output_block) (alarm_answer number) differing)
      ∙ (found_behind 399 relation_block (block_bytes input_block ++ (block_bytes output_block ++ (alarm_answer number ++ differing))) nothing ar_is
      (record { ar_uuid = good.ar; session_key = omega arith; cm_responder_mac_add = six })
      ∙ (found_behind 398 input_block (block_bytes output_block ++ (alarm_answer number ++ differing)) one input_is (record { iocr_type = omega arith; iocr_reference = omega arith; frame_id = omega arith })
      ∙ (found_behind 397 output_block (alarm_answer number ++ differing) two output_is (record { iocr_type = omega arith; iocr_reference = omega arith; frame_id = omega (arith, few) })
      ∙ found_alarm alarms number few 396 differing three)))

  -- the FrameID is not one of alarms
  no_alarm : is_alarm (0xC000 + number) ≡ false
  no_alarm =
      let high = false_from_ne_true (0xC000 + number == 0xFC01) (λ t. let e = eqb-true (0xC000 + number) 0xFC01 t in absurd (omega (arith, e, few))) in
      let low = false_from_ne_true (0xC000 + number == 0xFE01) (λ t. let e = eqb-true (0xC000 + number) 0xFE01 t in absurd (omega (arith, e, few))) in
      rw (high, low) refl

  some_is : {A : Type 0} (x y : A) → Some x ≡ Some y → x ≡ y
  some_is x y e = cc

  abbrev IsWell : Chosen → Type 0
  IsWell chosen = (chosen.frame_id < 65536) × (chosen.reference < 65536) × (is_alarm chosen.frame_id ≡ false)

  -- whatever follows, what was found stays
  chosen_in : (found : Found) (chosen : Chosen) → Keeps whole found → chosen_by found.output found.alarm found.deviates ≡ Some chosen → IsWell chosen
  chosen_in found chosen keeps there =
      let output : found.output ≡ Some (0xC000 + number) = keeps.output (0xC000 + number) refl in
      let alarm : found.alarm ≡ Some (endpoint_of number) = keeps.alarm (endpoint_of number) refl in
      let is : chosen_by (Some (0xC000 + number)) (Some (endpoint_of number)) found.deviates ≡ Some chosen =
      ap (λ (o : Option ℕ). chosen_by o (Some (endpoint_of number)) found.deviates) (sym output) ∙ (ap (λ (o : Option ℕ). chosen_by found.output o found.deviates) (sym alarm) ∙ there) in
      subst IsWell (some_is _ chosen is) (omega (arith, few), omega (arith, few), no_alarm)

  pub chosen_well : (real : Real) → IsChosenWell (connect_blocks identity number request (differing_of request real))
  chosen_well real found e all same chosen there =
      let differing : List ℕ = differing_of request real in
      chosen_in found chosen (stays 396 differing whole found (sym (blocks_found differing) ∙ e)) there
