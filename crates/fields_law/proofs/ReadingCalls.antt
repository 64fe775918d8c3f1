-- The blocks of Control, Release, Read and Write, read at their places.
use Rattle.std.proofs.Common.{◌≡◌, ◌+◌, ◌<◌, ◌++◌, ℕ, List, [], ◌∷◌, drop, length, take, replicate, refl, sym, ap, ◌∙◌, subst, arith}
use Rattle.std.proofs.lemmas.List.{append-nil, length-append}
use Rattle.byteorder.specs.Endian.{big_bytes, big_number}
use Rattle.byteorder.specs.Numbers.{big_number-reads_back}
use Rattle.wire.specs.blocks.Fields.{body, number_bytes, octet_bytes, version, zeros}
use Rattle.connect_blocks.specs.declared.control.ControlBlock.{ControlBlock}
use Rattle.connect_blocks.specs.declared.plug_control.PlugControlBlock.{PlugControlBlock}
use Rattle.connect_blocks.specs.Control.{command, control}
use Rattle.connect_blocks.specs.PlugControl.{plug_control}
use Rattle.record_blocks.specs.declared.read_record.IodReadReq.{IodReadReq}
use Rattle.record_blocks.specs.declared.read_record.IodReadRes.{IodReadRes}
use Rattle.record_blocks.specs.declared.record_header.RecordHeader.{RecordHeader}
use Rattle.record_blocks.specs.declared.write_record.IodWriteReq.{IodWriteReq}
use Rattle.record_blocks.specs.declared.write_record.IodWriteRes.{IodWriteRes}
use Rattle.record_blocks.specs.ReadRecord.{iod_read_req, iod_read_res}
use Rattle.record_blocks.specs.RecordHeader.{record_header}
use Rattle.record_blocks.specs.WriteRecord.{iod_write_req, iod_write_res}
use Rattle.block_codec.specs.declared.block.Block.{Block}
use Rattle.block_codec.specs.declared.block.Block.TheVariants as is
use Rattle.block_codec.specs.Block.{block, block_bytes, body_of, fields_of}
use Rattle.block_codec.specs.Kinds.{number_of, type_of}
use Rattle.block_codec.specs.Writable.{IsControl as IsSizedControl, IsRecord as IsSizedRecord, IsWritten}
use Rattle.fields_law.specs.Calls.{IsControl, IsControlOf, IsPlugControl, IsReadAnswer, IsReadRequest, IsRecordBlock, IsSizedPlugControl, IsWriteAnswer, IsWriteRequest}
use Rattle.fields_law.proofs.ReadingBlocks.{AreLong, block_is, headed, headed_is, headed_long, header, size_in, with_size}
use Rattle.fields_law.proofs.ReadingPlaces.{at_place, beyond, joined, joined_long, number_is, octets_are}

-- ---- Control and Release

module _ (uuid : List ℕ) (session sequence instruction properties : ℕ) (long : length uuid ≡ 16) (session_fits : session < 65536)
    (sequence_fits : sequence < 65536) (instruction_fits : instruction < 65536) (properties_fit : properties < 65536) where
  abbrev control_parts : List (List ℕ)
  control_parts =
      big_bytes 2 0 ∷ uuid ∷ big_bytes 2 session ∷ big_bytes 2 sequence ∷ big_bytes 2 instruction ∷ big_bytes 2 properties ∷ []

  abbrev control_inside : List ℕ
  control_inside = joined control_parts []

  control_long : length control_inside ≡ 26
  control_long = let all = joined_long control_parts [] in omega (arith, all, long)

  control_whole : (type : ℕ) → headed type control_inside ≡ joined (header type control_inside ∷ control_parts) []
  control_whole type = refl

  abbrev control_first : ℕ → ℕ → List (List ℕ)
  control_first type count = take count (header type control_inside ∷ control_parts)

  control_is : (type : ℕ) → type < 65536 → IsControl (headed type control_inside) type uuid session sequence instruction properties
  control_is type fits =
      let few = control_long in
      let all = headed_long type control_inside in
      record {
        block = block_is type control_inside fits (omega (arith, few));
        reserved = number_is _ (control_first type 1) 6 2 0 (control_whole type) refl (omega arith);
        ar_uuid = octets_are _ (control_first type 2) 8 16 uuid (control_whole type) refl long;
        session_key = number_is _ (control_first type 3) 24 2 session (control_whole type) (omega (arith, long)) session_fits;
        sequence_is = number_is _ (control_first type 4) 26 2 sequence (control_whole type) (omega (arith, long)) sequence_fits;
        command_is = number_is _ (control_first type 5) 28 2 instruction (control_whole type) (omega (arith, long)) instruction_fits;
        properties_are = number_is _ (control_first type 6) 30 2 properties (control_whole type) (omega (arith, long)) properties_fit;
        end = omega (arith, few, all);
      }

module _ (long : AreLong) (asked : ControlBlock) (sized : IsSizedControl asked) where
  abbrev asked_inside : List ℕ
  asked_inside = joined (big_bytes 2 0 ∷ asked.ar_uuid ∷ big_bytes 2 asked.session_key ∷ big_bytes 2 0 ∷ big_bytes 2 asked.control_command
      ∷ big_bytes 2 asked.control_block_properties ∷ []) []

  one_control : (one : Block) (type : ℕ) → type < 65536 → block_bytes one ≡ with_size type (size_in one) asked_inside
      → IsControlOf (block_bytes one) type asked
  one_control one type fits written =
      subst (λ (xs : List ℕ). IsControlOf xs type asked) (sym (headed_is long one type asked_inside written))
      (control_is asked.ar_uuid asked.session_key 0 asked.control_command asked.control_block_properties sized.ar_uuid sized.session_key (omega arith)
      sized.control_command sized.control_block_properties type fits)

  prm_end_written : block_bytes (is.PrmEnd asked) ≡ with_size 0x0110 (size_in (is.PrmEnd asked)) asked_inside
  unfolding block_bytes block body_of fields_of number_of type_of body version control command number_bytes octet_bytes zeros
  prm_end_written = ap (λ (xs : List ℕ). big_bytes 2 0x0110 ++ (big_bytes 2 (size_in (is.PrmEnd asked)) ++ xs)) (append-nil (1 ∷ 0 ∷ asked_inside))

  prm_end_res_written : block_bytes (is.PrmEndRes asked) ≡ with_size 0x8110 (size_in (is.PrmEndRes asked)) asked_inside
  unfolding block_bytes block body_of fields_of number_of type_of body version control command number_bytes octet_bytes zeros
  prm_end_res_written = ap (λ (xs : List ℕ). big_bytes 2 0x8110 ++ (big_bytes 2 (size_in (is.PrmEndRes asked)) ++ xs)) (append-nil (1 ∷ 0 ∷ asked_inside))

  ready_written : block_bytes (is.ApplicationReady asked) ≡ with_size 0x0112 (size_in (is.ApplicationReady asked)) asked_inside
  unfolding block_bytes block body_of fields_of number_of type_of body version control command number_bytes octet_bytes zeros
  ready_written =
      ap (λ (xs : List ℕ). big_bytes 2 0x0112 ++ (big_bytes 2 (size_in (is.ApplicationReady asked)) ++ xs)) (append-nil (1 ∷ 0 ∷ asked_inside))

  ready_res_written : block_bytes (is.ApplicationReadyRes asked) ≡ with_size 0x8112 (size_in (is.ApplicationReadyRes asked)) asked_inside
  unfolding block_bytes block body_of fields_of number_of type_of body version control command number_bytes octet_bytes zeros
  ready_res_written =
      ap (λ (xs : List ℕ). big_bytes 2 0x8112 ++ (big_bytes 2 (size_in (is.ApplicationReadyRes asked)) ++ xs)) (append-nil (1 ∷ 0 ∷ asked_inside))

  release_written : block_bytes (is.Release asked) ≡ with_size 0x0114 (size_in (is.Release asked)) asked_inside
  unfolding block_bytes block body_of fields_of number_of type_of body version control command number_bytes octet_bytes zeros
  release_written = ap (λ (xs : List ℕ). big_bytes 2 0x0114 ++ (big_bytes 2 (size_in (is.Release asked)) ++ xs)) (append-nil (1 ∷ 0 ∷ asked_inside))

  release_res_written : block_bytes (is.ReleaseRes asked) ≡ with_size 0x8114 (size_in (is.ReleaseRes asked)) asked_inside
  unfolding block_bytes block body_of fields_of number_of type_of body version control command number_bytes octet_bytes zeros
  release_res_written = ap (λ (xs : List ℕ). big_bytes 2 0x8114 ++ (big_bytes 2 (size_in (is.ReleaseRes asked)) ++ xs)) (append-nil (1 ∷ 0 ∷ asked_inside))

  pub requests_are : IsControlOf (block_bytes (is.PrmEnd asked)) 0x0110 asked × IsControlOf (block_bytes (is.ApplicationReady asked)) 0x0112 asked
      × IsControlOf (block_bytes (is.Release asked)) 0x0114 asked
  requests_are = (
    one_control (is.PrmEnd asked) 0x0110 (omega arith) prm_end_written,
    one_control (is.ApplicationReady asked) 0x0112 (omega arith) ready_written,
    one_control (is.Release asked) 0x0114 (omega arith) release_written,
  )

  pub answers_are : IsControlOf (block_bytes (is.PrmEndRes asked)) 0x8110 asked × IsControlOf (block_bytes (is.ApplicationReadyRes asked)) 0x8112 asked
      × IsControlOf (block_bytes (is.ReleaseRes asked)) 0x8114 asked
  answers_are = (
    one_control (is.PrmEndRes asked) 0x8110 (omega arith) prm_end_res_written,
    one_control (is.ApplicationReadyRes asked) 0x8112 (omega arith) ready_res_written,
    one_control (is.ReleaseRes asked) 0x8114 (omega arith) release_res_written,
  )

-- ---- after a plug

abbrev plug_inside : PlugControlBlock → List ℕ
plug_inside asked = joined (big_bytes 2 0 ∷ asked.ar_uuid ∷ big_bytes 2 asked.session_key ∷ big_bytes 2 asked.alarm_sequence_number
    ∷ big_bytes 2 asked.control_command ∷ big_bytes 2 asked.control_block_properties ∷ []) []

plug_written : (type : ℕ) (asked : PlugControlBlock) → (plug_control type).write asked [] ≡ with_size type 28 (plug_inside asked)
unfolding plug_control number_bytes octet_bytes zeros
plug_written type asked = refl

pub plug_is : (type : ℕ) (asked : PlugControlBlock) → type < 65536 → IsSizedPlugControl asked → IsPlugControl ((plug_control type).write asked []) type asked
plug_is type asked fits sized =
    let few : length (plug_inside asked) ≡ 26 =
    control_long asked.ar_uuid asked.session_key asked.alarm_sequence_number asked.control_command asked.control_block_properties sized.ar_uuid
    sized.session_key sized.sequence sized.command sized.properties in
    let same : 28 ≡ 2 + length (plug_inside asked) = omega (arith, few) in
    subst (λ (xs : List ℕ). IsPlugControl xs type asked) (sym (plug_written type asked ∙ ap (λ (n : ℕ). with_size type n (plug_inside asked)) same))
    (control_is asked.ar_uuid asked.session_key asked.alarm_sequence_number asked.control_command asked.control_block_properties sized.ar_uuid
    sized.session_key sized.sequence sized.command sized.properties type fits)

-- ---- Read and Write

module _ (long : AreLong) (asked : RecordHeader) (sized : IsSizedRecord asked) (after : List ℕ) (after_long : length after ≡ 24) where
  abbrev record_parts : List (List ℕ)
  record_parts =
      big_bytes 2 asked.seq_number ∷ asked.ar_uuid ∷ big_bytes 4 asked.api ∷ big_bytes 2 asked.slot_number ∷ big_bytes 2 asked.subslot_number
      ∷ big_bytes 2 0 ∷ big_bytes 2 asked.index ∷ big_bytes 4 asked.record_data_length ∷ []

  abbrev record_inside : List ℕ
  record_inside = joined record_parts after

  record_long : length record_inside ≡ 58
  record_long =
      let all = joined_long record_parts after in
      let sixteen = sized.ar_uuid in
      omega (arith, all, sixteen, after_long)

  record_whole : (type : ℕ) → headed type record_inside ≡ joined (header type record_inside ∷ record_parts) after
  record_whole type = refl

  abbrev record_first : ℕ → ℕ → List (List ℕ)
  record_first type count = take count (header type record_inside ∷ record_parts)

  record_is : (type : ℕ) → type < 65536 → IsRecordBlock (headed type record_inside) type asked
  record_is type fits =
      let few = record_long in
      let all = headed_long type record_inside in
      let a = sized.ar_uuid in
      record {
        block = block_is type record_inside fits (omega (arith, few));
        seq_number = number_is _ (record_first type 1) 6 2 asked.seq_number (record_whole type) refl sized.seq_number;
        ar_uuid = octets_are _ (record_first type 2) 8 16 asked.ar_uuid (record_whole type) refl a;
        api = number_is _ (record_first type 3) 24 4 asked.api (record_whole type) (omega (arith, a)) sized.api;
        slot = number_is _ (record_first type 4) 28 2 asked.slot_number (record_whole type) (omega (arith, a)) sized.slot_number;
        subslot = number_is _ (record_first type 5) 30 2 asked.subslot_number (record_whole type) (omega (arith, a)) sized.subslot_number;
        padding = number_is _ (record_first type 6) 32 2 0 (record_whole type) (omega (arith, a)) (omega arith);
        index = number_is _ (record_first type 7) 34 2 asked.index (record_whole type) (omega (arith, a)) sized.index;
        data_length = number_is _ (record_first type 8) 36 4 asked.record_data_length (record_whole type) (omega (arith, a)) sized.record_data_length;
        end = omega (arith, few, all);
      }

  pub after_there : (type : ℕ) → drop 40 (headed type record_inside) ≡ after
  after_there type =
      let a = sized.ar_uuid in
      at_place (headed type record_inside) after (header type record_inside ∷ record_parts) 40 (record_whole type) (omega (arith, a))

  -- a block of this type with these octets after its header
  pub made_of : (one : Block) (type : ℕ) → block_bytes one ≡ with_size type (size_in one) (record_inside ++ []) → block_bytes one ≡ headed type record_inside
  made_of one type written =
      headed_is long one type record_inside
      (written ∙ ap (λ (xs : List ℕ). with_size type (size_in one) xs) (append-nil record_inside))

-- ---- the four of them

module _ (long : AreLong) (asked : IodWriteReq) (sized : IsSizedRecord asked.header) where
  abbrev write_inside : List ℕ
  write_inside = record_inside long asked.header sized (replicate 24 0) refl

  write_written : block_bytes (is.IodWriteReq asked) ≡ with_size 0x0008 (size_in (is.IodWriteReq asked)) (write_inside ++ [])
  unfolding block_bytes block body_of fields_of number_of type_of body version iod_write_req record_header number_bytes octet_bytes zeros
  write_written = refl

  pub write_is : IsWriteRequest (block_bytes (is.IodWriteReq asked)) asked
  write_is =
      let made = made_of long asked.header sized (replicate 24 0) refl (is.IodWriteReq asked) 0x0008 write_written in
      subst (λ (xs : List ℕ). IsWriteRequest xs asked) (sym made) (record {
        head = record_is long asked.header sized (replicate 24 0) refl 0x0008 (omega arith);
        rest = after_there long asked.header sized (replicate 24 0) refl 0x0008;
      })

module _ (long : AreLong) (written : IodWriteRes) (sized : IsWritten written) where
  abbrev written_after : List ℕ
  written_after =
      big_bytes 2 written.additional_value_1 ++ (big_bytes 2 written.additional_value_2 ++ (big_bytes 4 written.pnio_status ++ replicate 16 0))

  abbrev written_inside : List ℕ
  written_inside = record_inside long written.header sized.header written_after refl

  written_written : block_bytes (is.IodWriteRes written) ≡ with_size 0x8008 (size_in (is.IodWriteRes written)) (written_inside ++ [])
  unfolding block_bytes block body_of fields_of number_of type_of body version iod_write_res record_header number_bytes octet_bytes zeros
  written_written = refl

  pub written_is : IsWriteAnswer (block_bytes (is.IodWriteRes written)) written
  written_is =
      let made = made_of long written.header sized.header written_after refl (is.IodWriteRes written) 0x8008 written_written in
      let there = after_there long written.header sized.header written_after refl 0x8008 in
      let whole = headed 0x8008 written_inside in
      subst (λ (xs : List ℕ). IsWriteAnswer xs written) (sym made) (record {
        head = record_is long written.header sized.header written_after refl 0x8008 (omega arith);
        value_1 = ap (big_number 2) there ∙ big_number-reads_back 2 written.additional_value_1 [] sized.additional_value_1;
        value_2 =
            ap (big_number 2) (beyond whole written_after (drop 2 written_after) 40 2 there refl)
            ∙ big_number-reads_back 2 written.additional_value_2 [] sized.additional_value_2;
        status =
            ap (big_number 4) (beyond whole written_after (drop 4 written_after) 40 4 there refl)
            ∙ big_number-reads_back 4 written.pnio_status [] sized.pnio_status;
        rest = beyond whole written_after (drop 8 written_after) 40 8 there refl;
      })

module _ (long : AreLong) (asked : IodReadReq) (sized : IsSizedRecord asked.header) (target : length asked.target_ar_uuid ≡ 16) where
  abbrev read_after : List ℕ
  read_after = asked.target_ar_uuid ++ replicate 8 0

  read_after_long : length read_after ≡ 24
  read_after_long = let both = length-append asked.target_ar_uuid (replicate 8 0) in omega (arith, both, target)

  abbrev read_inside : List ℕ
  read_inside = record_inside long asked.header sized read_after read_after_long

  read_written : block_bytes (is.IodReadReq asked) ≡ with_size 0x0009 (size_in (is.IodReadReq asked)) (read_inside ++ [])
  unfolding block_bytes block body_of fields_of number_of type_of body version iod_read_req record_header number_bytes octet_bytes zeros
  read_written = refl

  pub read_is : IsReadRequest (block_bytes (is.IodReadReq asked)) asked
  read_is =
      let made = made_of long asked.header sized read_after read_after_long (is.IodReadReq asked) 0x0009 read_written in
      let there = after_there long asked.header sized read_after read_after_long 0x0009 in
      let whole = headed 0x0009 read_inside in
      subst (λ (xs : List ℕ). IsReadRequest xs asked) (sym made) (record {
        head = record_is long asked.header sized read_after read_after_long 0x0009 (omega arith);
        target = ap (take 16) there ∙ octets_are (replicate 8 0) [] 0 16 asked.target_ar_uuid refl refl target;
        rest = beyond whole read_after (replicate 8 0) 40 16 there
            (at_place read_after (replicate 8 0) (asked.target_ar_uuid ∷ []) 16 refl (omega (arith, target)));
      })

module _ (long : AreLong) (given : IodReadRes) (sized : IsSizedRecord given.header) (first_fits : given.additional_value_1 < 65536)
    (second_fits : given.additional_value_2 < 65536) where
  abbrev given_after : List ℕ
  given_after = big_bytes 2 given.additional_value_1 ++ (big_bytes 2 given.additional_value_2 ++ replicate 20 0)

  abbrev given_inside : List ℕ
  given_inside = record_inside long given.header sized given_after refl

  given_written : block_bytes (is.IodReadRes given) ≡ with_size 0x8009 (size_in (is.IodReadRes given)) (given_inside ++ [])
  unfolding block_bytes block body_of fields_of number_of type_of body version iod_read_res record_header number_bytes octet_bytes zeros
  given_written = refl

  pub given_is : IsReadAnswer (block_bytes (is.IodReadRes given)) given
  given_is =
      let made = made_of long given.header sized given_after refl (is.IodReadRes given) 0x8009 given_written in
      let there = after_there long given.header sized given_after refl 0x8009 in
      let whole = headed 0x8009 given_inside in
      subst (λ (xs : List ℕ). IsReadAnswer xs given) (sym made) (record {
        head = record_is long given.header sized given_after refl 0x8009 (omega arith);
        value_1 = ap (big_number 2) there ∙ big_number-reads_back 2 given.additional_value_1 [] first_fits;
        value_2 =
            ap (big_number 2) (beyond whole given_after (drop 2 given_after) 40 2 there refl)
            ∙ big_number-reads_back 2 given.additional_value_2 [] second_fits;
        rest = beyond whole given_after (drop 4 given_after) 40 4 there refl;
      })
