-- What the response to the Connect of a plan tells its controller: if it says that no module differs, no submodule is listed, and what was
-- plugged then was as expected.
use Rattle.std.proofs.Common.{◌≡◌, ◌==◌, ◌++◌, ◌+◌, ◌<◌, ℕ, suc, Bool, true, false, cond, List, [], ◌∷◌, length, map, Some, Result, Ok, Err, refl, sym, ap, subst, ◌∙◌, append-nil, append_assoc, arith}
use Rattle.std.specs.List.{filter, list_all}
use Rattle.std.proofs.lemmas.Bool.{and_parts, eqb-true, false≢true}
use Rattle.pn_values.specs.declared.identity.Identity.{Identity}
use Rattle.pn_values.specs.declared.real.Real.{Real}
use Rattle.pn_values.specs.declared.real.RealModule.{RealModule}
use Rattle.wire.specs.Codec.{IsSound, ◌>>=◌}
use Rattle.wire.specs.Formats.{big_bytes, framed, number as octets_of, raw, then_by}
use Rattle.wire.specs.blocks.Fields.{body, number_bytes}
use Rattle.wire.specs.declared.blocks.fault.BlockFault.{BlockFault}
use Rattle.wire.specs.declared.blocks.fault.BlockFault.TheVariants.{Truncated}
use Rattle.wire.proofs.Fields.{bind_ok, number_sound, ok_is}
use Rattle.wire.proofs.Joined.{framed_sound, then_by_sound}
use Rattle.wire.proofs.Wholes.{everything_sound}
use Rattle.connect_blocks.specs.AlarmCr.{alarm_cr_block_res}
use Rattle.connect_blocks.specs.declared.alarm_cr.AlarmCrBlockRes.{AlarmCrBlockRes}
use Rattle.connect_blocks.specs.declared.module_diff.DiffModule.{DiffModule}
use Rattle.connect_blocks.specs.declared.module_diff.DiffSubmodule.{DiffSubmodule}
use Rattle.block_codec.specs.declared.block.Block.{Block}
use Rattle.block_codec.specs.declared.block.Block.TheVariants as is
use Rattle.block_codec.specs.Block.{block, block_bytes, block_of, body_of, fields_of, front, kind_of}
use Rattle.block_codec.specs.Kinds.{number_of, type_of}
use Rattle.block_codec.specs.Writable.{CanBeWritten}
use Rattle.module_diff.specs.Diff.{diff_of, differs, is_listed, lists, module_row, submodules_of_all, Wanted, wanted_in}
use Rattle.connects.specs.requests.Request.{Request}
use Rattle.connects.specs.declared.answers.connect.Found.{Found}
use Rattle.connects.specs.answers.AlarmRelation.{alarm_relation}
use Rattle.connects.specs.answers.Connect.{found_in, is_looked_for, is_whole, nothing, with_block, with_diff}
use Rattle.connects.specs.answers.OtherBlock.{other_block}
use Rattle.connects.specs.answers.Usable.{is_usable, is_usable_module, is_usable_submodule}
use Rattle.relations.specs.Connect.{alarm_answer, connect_blocks, differing_of, rows_of}
use Rattle.relations.specs.Numbers.{endpoint_of}
use Rattle.plan_places.specs.Listed.{behind_of, is_listed_by, is_listed_in}
use Rattle.controller_messages.specs.declared.setup.Setup.{Setup}
use Rattle.end_laws.specs.hearing.Stations.{IsDevice, IsSetup}
use Rattle.both_ends.specs.startup.request.Request.{request_for}
use Rattle.both_ends.specs.exchange.Sized.{AreSizedModules}
use Rattle.both_ends.proofs.ExchangeLists.{some_is}
use Rattle.both_ends.proofs.StartupAnswerFound.{FindsKnown, ReadsAlarms, alarm_found, found_next, not_empty}
use Rattle.places_law.proofs.PlacesRows.{planned_wanted, rows_written, usable_none}

-- ---- what a response tells

-- If the blocks of a response have everything that a relation needs and no module that differs, this holds, and they list no submodule.
abbrev pub Tells : Type 0 → List ℕ → Type 0
Tells Clear blocks = (found : Found) → found_in 400 blocks nothing ≡ Some found → is_whole found ≡ true → found.differs ≡ false
    → Clear × ((slot subslot : ℕ) → is_listed_in 400 blocks slot subslot ≡ false)

-- Nothing differs from what the Connect of a plan expects.
abbrev pub IsClear : Setup → List RealModule → Type 0
IsClear setup real = (slot subslot : ℕ) → is_listed slot subslot (diff_of (request_for setup.plan setup.ar).expected real) ≡ false

-- ---- a block that is skipped

-- the format of a block of this BlockType
abbrev framed_by : ℕ → List ℕ → Result (Block × List ℕ) BlockFault
framed_by kind bytes = (framed (octets_of Truncated 2) Truncated (body_of (type_of kind))).read bytes

-- with it, and without it
abbrev with_kind : ℕ → Result (Block × List ℕ) BlockFault → Result ((ℕ × Block) × List ℕ) BlockFault
with_kind kind read = read >>= λ y. Ok ((kind, y.0), y.1)

abbrev kinded : Result (ℕ × List ℕ) BlockFault → Result ((ℕ × Block) × List ℕ) BlockFault
kinded read = read >>= λ x. with_kind x.0 (framed_by x.0 x.1)

abbrev plain : Result ((ℕ × Block) × List ℕ) BlockFault → Result (Block × List ℕ) BlockFault
plain read = read >>= λ x. Ok (x.0.1, x.1)

rest_same : {A : Type 0} (x y : A) (rest more : List ℕ) → ◌≡◌ {A = Result (A × List ℕ) BlockFault} (Ok (x, rest)) (Ok (y, more)) → rest ≡ more
rest_same {A = A} x y rest more e = ap (λ (p : A × List ℕ). p.1) (ok_is {F = BlockFault} (x, rest) (y, more) e)

-- a block that can be read can be skipped
skipped : (bytes : List ℕ) (one : Block) (rest : List ℕ) → block_of bytes ≡ front one rest → behind_of (other_block.read bytes) ≡ Some rest
unfolding block_of block other_block
skipped bytes one rest e =
    let a = bind_ok ((then_by (octets_of Truncated 2) (λ kind. framed (octets_of Truncated 2) Truncated (body_of (type_of kind)))).read bytes) (λ x. Ok (x.0.1, x.1)) (one, rest) e in
    let b = bind_ok ((octets_of Truncated 2).read bytes) (λ x. framed_by x.0 x.1 >>= λ y. Ok ((x.0, y.0), y.1)) a.0 a.1 in
    let c = bind_ok (framed_by b.0.0 b.0.1) (λ y. Ok ((b.0.0, y.0), y.1)) a.0 b.2 in
    let d = bind_ok ((octets_of Truncated 2).read b.0.1) (λ x. (raw Truncated x.0).read x.1 >>= λ cut. (body_of (type_of b.0.0)).read cut.0 >>= λ value. Ok (value, cut.1)) c.0 c.1 in
    let f = bind_ok ((raw Truncated d.0.0).read d.0.1) (λ cut. (body_of (type_of b.0.0)).read cut.0 >>= λ value. Ok (value, cut.1)) c.0 d.2 in
    let g = bind_ok ((body_of (type_of b.0.0)).read f.0.0) (λ value. Ok (value, f.0.1)) c.0 f.2 in
    let cut = rest_same g.0 c.0.0 f.0.1 c.0.1 g.2 in
    let framed_rest = rest_same (b.0.0, c.0.0) a.0.0 c.0.1 a.0.1 c.2 in
    let last = rest_same a.0.0.1 one a.0.1 rest a.2 in
    rw (b.1, d.1, f.1) (ap (λ (xs : List ℕ). Some xs) {x = f.0.1} {y = rest} (◌∙◌ {a = f.0.1} cut (framed_rest ∙ last)))

-- what follows a block that lists nothing
unlisted_next : (most : ℕ) (bytes rest : List ℕ) (slot subslot : ℕ) → is_listed_by slot subslot (block_of bytes) ≡ false → behind_of (other_block.read bytes) ≡ Some rest
    → is_listed_in (suc most) bytes slot subslot ≡ is_listed_in most rest slot subslot
unfolding is_listed_in
unlisted_next most bytes rest slot subslot none skips = rw (none, skips) refl

-- no octets are no block
none_there : (most slot subslot : ℕ) → is_listed_in (suc most) [] slot subslot ≡ false
unfolding is_listed_in block_of block other_block
none_there most slot subslot = refl

-- ---- the AlarmCRBlockRes

other_sound : IsSound other_block
unfolding other_block
other_sound = then_by_sound _ _ (number_sound Truncated 2) (λ _. framed_sound _ Truncated _ (number_sound Truncated 2) everything_sound)

-- what its BlockLength counts
abbrev alarm_inside : ℕ → List ℕ
alarm_inside number = big_bytes 1 1 ++ (big_bytes 1 0 ++ (big_bytes 2 1 ++ (big_bytes 2 (endpoint_of number) ++ big_bytes 2 200)))

alarm_other : (number : ℕ) (rest : List ℕ) → alarm_answer number ++ rest ≡ other_block.write (0x8103, alarm_inside number) rest
unfolding alarm_relation number_bytes other_block
alarm_other number rest = refl

alarm_can : (number : ℕ) → other_block.Fits (0x8103, alarm_inside number)
unfolding other_block
alarm_can number = (omega arith, (omega arith, tt))

alarm_skipped : (number : ℕ) (rest : List ℕ) → behind_of (other_block.read (alarm_answer number ++ rest)) ≡ Some rest
alarm_skipped number rest =
    ap (λ (bytes : List ℕ). behind_of (other_block.read bytes)) (alarm_other number rest)
    ∙ ap (λ (r : Result ((ℕ × List ℕ) × List ℕ) BlockFault). behind_of r)
    (other_sound.again (other_block.write (0x8103, alarm_inside number) rest) (0x8103, alarm_inside number) rest
    (other_sound.written (0x8103, alarm_inside number) rest (alarm_can number)))

alarm_front : (number : ℕ) (rest : List ℕ) → (tail : List ℕ) × (alarm_answer number ++ rest ≡ big_bytes 2 0x8103 ++ tail)
unfolding alarm_relation number_bytes
alarm_front number rest = (_, refl)

-- its BlockType is read
alarm_kind : (number : ℕ) (rest : List ℕ) → (tail : List ℕ) × ((octets_of Truncated 2).read (alarm_answer number ++ rest) ≡ Ok (0x8103, tail))
alarm_kind number rest =
    let there = alarm_front number rest in
    let sound : IsSound (octets_of Truncated 2) = number_sound Truncated 2 in (
      there.0,
      ap (λ (bytes : List ℕ). (octets_of Truncated 2).read bytes) there.1
          ∙ sound.again (big_bytes 2 0x8103 ++ there.0) 0x8103 there.0 (sound.written 0x8103 there.0 (omega arith)),
    )

-- a block of its BlockType is no ModuleDiffBlock, if it is read
module _ (slot subslot : ℕ) where
  abbrev IsUnlisted : Result (Block × List ℕ) BlockFault → Type 0
  IsUnlisted read = is_listed_by slot subslot (plain (with_kind 0x8103 read)) ≡ false

  by_fields : (r : Result AlarmCrBlockRes BlockFault) (rest : List ℕ) → IsUnlisted ((r >>= λ v. Ok (is.AlarmCrBlockRes v)) >>= λ value. Ok (value, rest))
  by_fields (Ok v) rest = refl
  by_fields (Err fault) rest = refl

  by_cut : (r : Result (List ℕ × List ℕ) BlockFault)
      → IsUnlisted (r >>= λ cut. ((body alarm_cr_block_res).read cut.0 >>= λ v. Ok (is.AlarmCrBlockRes v)) >>= λ value. Ok (value, cut.1))
  by_cut (Ok cut) = by_fields ((body alarm_cr_block_res).read cut.0) cut.1
  by_cut (Err fault) = refl

  by_length : (r : Result (ℕ × List ℕ) BlockFault)
      → IsUnlisted (r >>= λ x. (raw Truncated x.0).read x.1 >>= λ cut. ((body alarm_cr_block_res).read cut.0 >>= λ v. Ok (is.AlarmCrBlockRes v)) >>= λ value. Ok (value, cut.1))
  by_length (Ok x) = by_cut ((raw Truncated x.0).read x.1)
  by_length (Err fault) = refl

  alarm_unlisted : (number : ℕ) (rest : List ℕ) → is_listed_by slot subslot (block_of (alarm_answer number ++ rest)) ≡ false
  unfolding block_of block body_of type_of fields_of
  alarm_unlisted number rest =
      let there = alarm_kind number rest in
      ap (λ (r : Result (ℕ × List ℕ) BlockFault). is_listed_by slot subslot (plain (kinded r))) there.1
      ∙ by_length ((octets_of Truncated 2).read there.0)

-- ---- the blocks of the response

front_bytes : (one : Block) → (first second : ℕ) × (tail : List ℕ) × (block_bytes one ≡ first ∷ second ∷ tail)
unfolding block_bytes block
front_bytes one = (_, _, _, refl)

some_block : (one : Block) (rest : List ℕ) → (length (block_bytes one ++ rest) == 0) ≡ false
some_block one rest =
    let there = front_bytes one in
    subst (λ (bytes : List ℕ). (length (bytes ++ rest) == 0) ≡ false) (sym there.3) (not_empty there.0 (there.1 ∷ there.2 ++ rest))

-- the blocks, one after the other
one_after_another : (first second third fourth rest : List ℕ) → ((first ++ (second ++ third)) ++ fourth) ++ rest ≡ first ++ (second ++ (third ++ (fourth ++ rest)))
one_after_another first second third fourth rest =
    append_assoc (first ++ (second ++ third)) fourth rest
    ∙ (append_assoc first (second ++ third) (fourth ++ rest) ∙ ap (λ (more : List ℕ). first ++ more) (append_assoc second third (fourth ++ rest)))

alarm_begins : (number : ℕ) (rest : List ℕ) → (first : ℕ) × (tail : List ℕ) × (alarm_answer number ++ rest ≡ first ∷ tail)
unfolding alarm_relation number_bytes
alarm_begins number rest = (_, _, refl)

alarm_some : (number : ℕ) (rest : List ℕ) → (length (alarm_answer number ++ rest) == 0) ≡ false
alarm_some number rest =
    let there = alarm_begins number rest in
    ap (λ (bytes : List ℕ). length bytes == 0) there.2 ∙ not_empty there.0 there.1

-- The laws of the blocks that are written and read.
pub record BlocksSo : Type 0 where
  pub read : (one : Block) (rest : List ℕ) → CanBeWritten one → block_of (block_bytes one ++ rest) ≡ front one rest
  pub known : FindsKnown
  pub alarms : ReadsAlarms

module _ (so : BlocksSo) (setup : Setup) (identity : Identity) (good : IsSetup setup) (six : IsDevice identity) (number : ℕ) (few : number < 14336) where
  abbrev request : Request
  request = request_for setup.plan setup.ar

  abbrev relation_block : Block
  relation_block = is.ArBlockRes (record { ar_uuid = setup.ar; session_key = 1; cm_responder_mac_add = identity.mac })

  abbrev input_block : Block
  input_block = is.IocrBlockRes (record { iocr_type = 1; iocr_reference = 1; frame_id = 0xC001 })

  abbrev output_block : Block
  output_block = is.IocrBlockRes (record { iocr_type = 2; iocr_reference = 2; frame_id = 0xC000 + number })

  abbrev whole : Found
  whole = record nothing { relation = true; input = true; output = Some (0xC000 + number); alarm = Some (endpoint_of number) }

  -- they can be written
  relation_can : CanBeWritten relation_block
  relation_can = record { ar_uuid = good.ar; session_key = omega arith; cm_responder_mac_add = six }

  input_can : CanBeWritten input_block
  input_can = record { iocr_type = omega arith; iocr_reference = omega arith; frame_id = omega arith }

  output_can : CanBeWritten output_block
  output_can = record { iocr_type = omega arith; iocr_reference = omega arith; frame_id = omega (arith, few) }

  -- and are looked for
  relation_is : is_looked_for (number_of (kind_of relation_block)) ≡ true
  unfolding number_of
  relation_is = refl

  input_is : is_looked_for (number_of (kind_of input_block)) ≡ true
  unfolding number_of
  input_is = refl

  output_is : is_looked_for (number_of (kind_of output_block)) ≡ true
  unfolding number_of
  output_is = refl

  one_found : (most : ℕ) (one : Block) (rest : List ℕ) (found : Found) → is_looked_for (number_of (kind_of one)) ≡ true → CanBeWritten one
      → found_in (suc most) (block_bytes one ++ rest) found ≡ found_in most rest (with_block one found)
  one_found most one rest found is writable =
      found_next most (block_bytes one) rest found (with_block one found) (some_block one rest) (so.known one rest found is (so.read one rest writable))

  one_unlisted : (most : ℕ) (one : Block) (rest : List ℕ) (slot subslot : ℕ) → is_listed_by slot subslot (front one rest) ≡ false → CanBeWritten one
      → is_listed_in (suc most) (block_bytes one ++ rest) slot subslot ≡ is_listed_in most rest slot subslot
  one_unlisted most one rest slot subslot none writable =
      unlisted_next most (block_bytes one ++ rest) rest slot subslot
      (ap (λ (r : Result (Block × List ℕ) BlockFault). is_listed_by slot subslot r) (so.read one rest writable) ∙ none)
      (skipped (block_bytes one ++ rest) one rest (so.read one rest writable))

  blocks_found : (differing : List ℕ) → found_in 400 (connect_blocks identity number request differing) nothing ≡ found_in 396 differing whole
  unfolding connect_blocks
  blocks_found differing =
      let one = record nothing { relation = true } in
      let two = record one { input = true } in
      let three = record two { output = Some (0xC000 + number) } in
      ap (λ (bytes : List ℕ). found_in 400 bytes nothing) (one_after_another (block_bytes relation_block) (block_bytes input_block) (block_bytes output_block) (alarm_answer number) differing)
      ∙ (one_found 399 relation_block (block_bytes input_block ++ (block_bytes output_block ++ (alarm_answer number ++ differing))) nothing relation_is relation_can
      ∙ (one_found 398 input_block (block_bytes output_block ++ (alarm_answer number ++ differing)) one input_is input_can
      ∙ (one_found 397 output_block (alarm_answer number ++ differing) two output_is output_can
      ∙ found_next 396 (alarm_answer number) differing three whole (alarm_some number differing) (alarm_found so.alarms number few differing three))))

  blocks_unlisted : (differing : List ℕ) (slot subslot : ℕ) → is_listed_in 400 (connect_blocks identity number request differing) slot subslot ≡ is_listed_in 396 differing slot subslot
  unfolding connect_blocks
  blocks_unlisted differing slot subslot =
      ap (λ (bytes : List ℕ). is_listed_in 400 bytes slot subslot)
      (one_after_another (block_bytes relation_block) (block_bytes input_block) (block_bytes output_block) (alarm_answer number) differing)
      ∙ (one_unlisted 399 relation_block (block_bytes input_block ++ (block_bytes output_block ++ (alarm_answer number ++ differing))) slot subslot refl relation_can
      ∙ (one_unlisted 398 input_block (block_bytes output_block ++ (alarm_answer number ++ differing)) slot subslot refl input_can
      ∙ (one_unlisted 397 output_block (alarm_answer number ++ differing) slot subslot refl output_can
      ∙ unlisted_next 396 (alarm_answer number ++ differing) differing slot subslot (alarm_unlisted slot subslot number differing) (alarm_skipped number differing))))

  -- ---- the ModuleDiffBlock

  module _ (real : Real) (sized : AreSizedModules real.modules.items) (planned : AreSizedModules setup.plan.real.modules.items) where
    abbrev wanteds : List Wanted
    wanteds = filter (differs real.modules.items) (wanted_in request.expected.modules.items request.expected.submodules.items)

    abbrev differing_block : Block
    differing_block = is.ModuleDiffBlock (record { api = 0; modules = rows_of request real })

    differing_can : CanBeWritten differing_block
    differing_can =
        subst (λ (ws : List Wanted). CanBeWritten (is.ModuleDiffBlock (record {
          api = 0;
          modules = record {
            modules = map (module_row real.modules.items) (filter (differs real.modules.items) ws);
            submodules = submodules_of_all real.modules.items (filter (differs real.modules.items) ws);
          };
        }))) (sym (planned_wanted setup.plan.real.modules.items))
        (rows_written real.modules.items sized setup.plan.real.modules.items planned good.plan.few_modules good.plan.few_submodules)

    differing_is : is_looked_for (number_of (kind_of differing_block)) ≡ true
    unfolding number_of
    differing_is = refl

    found_all : (most : ℕ) (found : Found) → found_in (suc most) [] found ≡ Some found
    unfolding found_in
    found_all most found = refl

    empty_rows : (modules : List DiffModule) (submodules : List DiffSubmodule) → (length modules == 0) ≡ true → (slot subslot : ℕ) → lists slot subslot modules submodules ≡ false
    empty_rows [] submodules e slot subslot = refl
    empty_rows (row ∷ modules) submodules e slot subslot = absurd (let none = eqb-true (length (row ∷ modules)) 0 e in omega (arith, none))

    -- whatever differs is found, and then no relation is established
    by_usable : (b : Bool) → is_usable (rows_of request real) ≡ b → (found : Found) → with_diff b whole ≡ found → found.differs ≡ false
        → (slot subslot : ℕ) → is_listed slot subslot (rows_of request real) ≡ false
    by_usable true e found is same slot subslot =
        usable_none real.modules.items wanteds (rows_of request real).modules
        (and_parts (list_all is_usable_module (rows_of request real).modules) (list_all is_usable_submodule (rows_of request real).submodules) e).1 slot subslot
    by_usable false e found is same slot subslot = absurd (false≢true (sym same ∙ sym (ap (λ (f : Found). f.differs) is)))

    differing_found : found_in 396 (block_bytes differing_block ++ []) whole ≡ Some (with_diff (is_usable (rows_of request real)) whole)
    differing_found = one_found 395 differing_block [] whole differing_is differing_can ∙ found_all 394 (with_diff (is_usable (rows_of request real)) whole)

    abbrev differing_if : Bool → List ℕ
    differing_if none = cond none [] (block_bytes differing_block)

    by_rows : (b : Bool) → (length (rows_of request real).modules == 0) ≡ b → (found : Found) → found_in 396 (differing_if b) whole ≡ Some found → found.differs ≡ false
        → (slot subslot : ℕ) → (is_listed slot subslot (rows_of request real) ≡ false) × (is_listed_in 396 (differing_if b) slot subslot ≡ false)
    by_rows true e found is same slot subslot =
        (empty_rows (rows_of request real).modules (rows_of request real).submodules e slot subslot, none_there 395 slot subslot)
    by_rows false e found is same slot subslot =
        let all = append-nil (block_bytes differing_block) in
        let none = by_usable (is_usable (rows_of request real)) refl found
        (some_is _ found (sym differing_found ∙ (ap (λ (bytes : List ℕ). found_in 396 bytes whole) all ∙ is))) same in (
          none slot subslot,
          ap (λ (bytes : List ℕ). is_listed_in 396 bytes slot subslot) (sym all)
              ∙ (one_unlisted 395 differing_block [] slot subslot (none slot subslot) differing_can ∙ none_there 394 slot subslot),
        )

    pub answer_tells : Tells (IsClear setup real.modules.items) (connect_blocks identity number request (differing_of request real))
    answer_tells found is all same =
        let rows = by_rows (length (rows_of request real).modules == 0) refl found (sym (blocks_found (differing_of request real)) ∙ is) same in
        (λ slot subslot. (rows slot subslot).0, λ slot subslot. blocks_unlisted (differing_of request real) slot subslot ∙ (rows slot subslot).1)

-- nothing is found in no blocks
nothing_found : (most : ℕ) → found_in (suc most) [] nothing ≡ Some nothing
unfolding found_in
nothing_found most = refl

-- that is not everything that a relation needs
pub empty_tells : (Clear : Type 0) → Tells Clear []
empty_tells Clear found e all same = absurd (false≢true (ap (λ (one : Found). is_whole one) (some_is nothing found (sym (nothing_found 399) ∙ e)) ∙ all))
