-- I&M0 to I&M4, APIData and the data of submodules, read at their places.
use Rattle.std.proofs.Common.{◌≡◌, ◌+◌, ◌*◌, ◌<◌, ◌≤◌, ◌++◌, ℕ, Bool, true, List, [], ◌∷◌, drop, length, take, replicate, Option, Some, None, refl, sym, ap, ◌∙◌, subst, arith}
use Rattle.std.specs.Prelude.{option_map, unwrap_or}
use Rattle.std.proofs.lemmas.List.{append-nil, length-append, length-replicate, take-append-drop}
use Rattle.byteorder.specs.Endian.{big_bytes}
use Rattle.byteorder.specs.Numbers.{big_number-reads_back}
use Rattle.pn_values.specs.declared.identity.Identity.{Identity}
use Rattle.pn_values.specs.declared.real.Real.{Real}
use Rattle.pn_values.specs.declared.settings.Settings.{Settings}
use Rattle.wire.specs.blocks.Fields.{body, number_bytes, octet_bytes, version}
use Rattle.record_blocks.specs.Im0.{im0, im0_order, im0_revision}
use Rattle.record_blocks.specs.Im1.{im1}
use Rattle.record_blocks.specs.Im2.{im2}
use Rattle.record_blocks.specs.Im3.{im3}
use Rattle.record_blocks.specs.Im4.{im4}
use Rattle.block_codec.specs.declared.block.Block.TheVariants as is
use Rattle.block_codec.specs.Block.{block, block_bytes, body_of, fields_of}
use Rattle.block_codec.specs.Kinds.{number_of, type_of}
use Rattle.im_records.specs.Indices.{record_with}
use Rattle.im_records.specs.Records.{im0_of, im0_record, im1_of, im1_record, im2_record, im3_record, im4_record, is_real, record_of, where_holds}
use Rattle.records.specs.reads.Listing.{api_bytes}
use Rattle.cyclic_data.specs.declared.place.PlaceKind.TheVariants.{Data, Iocs}
use Rattle.cyclic_data.specs.Image.{Cell, cell_at}
use Rattle.cyclic_data.specs.exchange.Cyclic.{Cyclic}
use Rattle.device_records.specs.Elements.{input_element, input_of, iocs_in, output_element, output_of, substitute}
use Rattle.fields_law.specs.Records.{HasIm0, HasInput, HasOutput, HasText, IsApiData, IsIm0, IsInputElement, IsOutputElement, IsSizedIdentity, IsSubstitute, IsText, status_or}
use Rattle.fields_law.proofs.ReadingBlocks.{AreLong, block_is, headed, headed_is, headed_long, header, size_in, with_size}
use Rattle.fields_law.proofs.ReadingPlaces.{at_place, joined, joined_long, number_is, octets_are}

-- ---- I&M0

module _ (long : AreLong) (identity : Identity) (sized : IsSizedIdentity identity) where
  abbrev im0_parts : List (List ℕ)
  im0_parts =
      big_bytes 2 identity.vendor_id ∷ identity.order_id ∷ identity.serial_number ∷ big_bytes 2 identity.hardware_revision ∷ identity.software_revision
      ∷ big_bytes 2 0 ∷ big_bytes 2 identity.profile_id ∷ big_bytes 2 identity.profile_specific_type ∷ (1 ∷ 1 ∷ []) ∷ big_bytes 2 0x001E ∷ []

  abbrev im0_inside : List ℕ
  im0_inside = joined im0_parts []

  im0_written : im0_record identity ≡ with_size 0x0020 (size_in (is.Im0 (im0_of identity))) im0_inside
  unfolding block_bytes block body_of fields_of number_of type_of body version im0 im0_order im0_revision number_bytes octet_bytes
  im0_written = ap (λ (xs : List ℕ). big_bytes 2 0x0020 ++ (big_bytes 2 (size_in (is.Im0 (im0_of identity))) ++ xs)) (append-nil (1 ∷ 0 ∷ im0_inside))

  im0_made : im0_record identity ≡ headed 0x0020 im0_inside
  im0_made = headed_is long (is.Im0 (im0_of identity)) 0x0020 im0_inside im0_written

  im0_long : length im0_inside ≡ 54
  im0_long =
      let all = joined_long im0_parts [] in
      let a = sized.order_id in
      let b = sized.serial_number in
      let c = sized.software_revision in
      omega (arith, all, a, b, c)

  im0_whole : headed 0x0020 im0_inside ≡ joined (header 0x0020 im0_inside ∷ im0_parts) []
  im0_whole = refl

  abbrev im0_first : ℕ → List (List ℕ)
  im0_first count = take count (header 0x0020 im0_inside ∷ im0_parts)

  im0_there : IsIm0 (headed 0x0020 im0_inside) identity
  im0_there =
      let a = sized.order_id in
      let b = sized.serial_number in
      let c = sized.software_revision in
      let l = im0_long in
      let h = headed_long 0x0020 im0_inside in
      record {
        block = block_is 0x0020 im0_inside (omega arith) (omega (arith, l));
        vendor_id = number_is _ (im0_first 1) 6 2 identity.vendor_id im0_whole refl sized.vendor_id;
        order_id = octets_are _ (im0_first 2) 8 20 identity.order_id im0_whole refl a;
        serial_number = octets_are _ (im0_first 3) 28 16 identity.serial_number im0_whole (omega (arith, a)) b;
        hardware_revision = number_is _ (im0_first 4) 44 2 identity.hardware_revision im0_whole (omega (arith, a, b)) sized.hardware_revision;
        software_revision = octets_are _ (im0_first 5) 46 4 identity.software_revision im0_whole (omega (arith, a, b)) c;
        revision_counter = number_is _ (im0_first 6) 50 2 0 im0_whole (omega (arith, a, b, c)) (omega arith);
        profile_id = number_is _ (im0_first 7) 52 2 identity.profile_id im0_whole (omega (arith, a, b, c)) sized.profile_id;
        profile_type = number_is _ (im0_first 8) 54 2 identity.profile_specific_type im0_whole (omega (arith, a, b, c)) sized.profile_type;
        version = octets_are _ (im0_first 9) 56 2 (1 ∷ 1 ∷ []) im0_whole (omega (arith, a, b, c)) refl;
        supported = number_is _ (im0_first 10) 58 2 0x001E im0_whole (omega (arith, a, b, c)) (omega arith);
        end = omega (arith, h, l);
      }

  pub im0_read : (real : Real) (settings : Settings) (slot subslot : ℕ) → is_real real slot subslot ≡ true
      → HasIm0 (record_of 0xAFF0 slot subslot identity real settings) identity
  unfolding record_with
  im0_read real settings slot subslot plugged =
      subst (λ (found : Bool). HasIm0 (where_holds found (im0_record identity)) identity) (sym plugged)
      (subst (λ (xs : List ℕ). IsIm0 xs identity) (sym im0_made) im0_there)

-- ---- I&M1 to I&M4

-- a block that has nothing but a text
text_is : (octets : List ℕ) (type : ℕ) (text : List ℕ) → type < 65536 → length text < 65000 → octets ≡ headed type text → IsText octets type text
text_is octets type text fits few made =
    subst (λ (xs : List ℕ). IsText xs type text) (sym made) (record { block = block_is type text fits few; text_is = refl })

module _ (text : List ℕ) where
  twice_nil : (text ++ []) ++ [] ≡ text
  twice_nil = append-nil (text ++ []) ∙ append-nil text

  abbrev both_parts : List ℕ
  both_parts = (take 32 text ++ (drop 32 text ++ [])) ++ []

  both_there : both_parts ≡ text
  both_there =
      append-nil (take 32 text ++ (drop 32 text ++ [])) ∙ ap (λ (xs : List ℕ). take 32 text ++ xs) (append-nil (drop 32 text)) ∙ take-append-drop 32 text

  im1_written : im1_record text ≡ with_size 0x0021 (size_in (is.Im1 (im1_of text))) text
  unfolding block_bytes block body_of fields_of number_of type_of body version im1 number_bytes octet_bytes
  im1_written = ap (λ (xs : List ℕ). with_size 0x0021 (size_in (is.Im1 (im1_of text))) xs) both_there

  im2_written : im2_record text ≡ with_size 0x0022 (size_in (is.Im2 (record { im_date = text }))) text
  unfolding block_bytes block body_of fields_of number_of type_of body version im2 number_bytes octet_bytes
  im2_written = ap (λ (xs : List ℕ). with_size 0x0022 (size_in (is.Im2 (record { im_date = text }))) xs) twice_nil

  im3_written : im3_record text ≡ with_size 0x0023 (size_in (is.Im3 (record { im_descriptor = text }))) text
  unfolding block_bytes block body_of fields_of number_of type_of body version im3 number_bytes octet_bytes
  im3_written = ap (λ (xs : List ℕ). with_size 0x0023 (size_in (is.Im3 (record { im_descriptor = text }))) xs) twice_nil

  im4_written : im4_record text ≡ with_size 0x0024 (size_in (is.Im4 (record { im_signature = text }))) text
  unfolding block_bytes block body_of fields_of number_of type_of body version im4 number_bytes octet_bytes
  im4_written = ap (λ (xs : List ℕ). with_size 0x0024 (size_in (is.Im4 (record { im_signature = text }))) xs) twice_nil

module _ (long : AreLong) (text : List ℕ) where
  im1_made : im1_record text ≡ headed 0x0021 text
  im1_made = headed_is long (is.Im1 (im1_of text)) 0x0021 text (im1_written text)

  im2_made : im2_record text ≡ headed 0x0022 text
  im2_made = headed_is long (is.Im2 (record { im_date = text })) 0x0022 text (im2_written text)

  im3_made : im3_record text ≡ headed 0x0023 text
  im3_made = headed_is long (is.Im3 (record { im_descriptor = text })) 0x0023 text (im3_written text)

  im4_made : im4_record text ≡ headed 0x0024 text
  im4_made = headed_is long (is.Im4 (record { im_signature = text })) 0x0024 text (im4_written text)

module _ (long : AreLong) (identity : Identity) (real : Real) (settings : Settings) where
  pub im1_read : length settings.im1 ≡ 54 → HasText (record_of 0xAFF1 0 1 identity real settings) 0x0021 settings.im1
  unfolding record_with
  im1_read is_long = text_is (im1_record settings.im1) 0x0021 settings.im1 (omega arith) (omega (arith, is_long)) (im1_made long settings.im1)

  pub im2_read : length settings.im2 ≡ 16 → HasText (record_of 0xAFF2 0 1 identity real settings) 0x0022 settings.im2
  unfolding record_with
  im2_read is_long = text_is (im2_record settings.im2) 0x0022 settings.im2 (omega arith) (omega (arith, is_long)) (im2_made long settings.im2)

  pub im3_read : length settings.im3 ≡ 54 → HasText (record_of 0xAFF3 0 1 identity real settings) 0x0023 settings.im3
  unfolding record_with
  im3_read is_long = text_is (im3_record settings.im3) 0x0023 settings.im3 (omega arith) (omega (arith, is_long)) (im3_made long settings.im3)

  pub im4_read : length settings.im4 ≡ 54 → HasText (record_of 0xAFF4 0 1 identity real settings) 0x0024 settings.im4
  unfolding record_with
  im4_read is_long = text_is (im4_record settings.im4) 0x0024 settings.im4 (omega arith) (omega (arith, is_long)) (im4_made long settings.im4)

-- ---- APIData

pub api_is : IsApiData api_bytes
unfolding api_bytes
api_is = record { block = record { kind = refl; size = refl; version = refl }; count = refl; api = refl; end = refl }

-- ---- the data of a submodule

module _ (iocs iops : ℕ) (value : List ℕ) (few : length value ≤ 1440) where
  input_there : IsInputElement (headed 0x0015 (1 ∷ iocs ∷ 1 ∷ iops ∷ (big_bytes 2 (length value) ++ value))) iocs iops value
  input_there = record {
    block = block_is 0x0015 (1 ∷ iocs ∷ 1 ∷ iops ∷ (big_bytes 2 (length value) ++ value)) (omega arith) (omega (arith, few));
    length_iocs = refl;
    iocs_is = refl;
    length_iops = refl;
    iops_is = refl;
    length_data = big_number-reads_back 2 (length value) [] (omega (arith, few));
    data_is = refl;
  }

  input_made : input_element iocs value iops ≡ headed 0x0015 (1 ∷ iocs ∷ 1 ∷ iops ∷ (big_bytes 2 (length value) ++ value))
  unfolding input_element
  input_made = refl

  pub input_is : IsInputElement (input_element iocs value iops) iocs iops value
  input_is = subst (λ (xs : List ℕ). IsInputElement xs iocs iops value) (sym input_made) input_there

  -- the substitute value
  abbrev size : ℕ
  size = length value

  abbrev zeros : List ℕ
  zeros = replicate size 0

  abbrev substitute_inside : List ℕ
  substitute_inside = 0 ∷ 0 ∷ iocs ∷ (zeros ++ 0x80 ∷ [])

  substitute_parts_long : length zeros ≡ size
  substitute_parts_long = length-replicate {A = ℕ} size 0

  substitute_long : length substitute_inside ≡ 4 + size
  substitute_long =
      let a = length-append zeros (0x80 ∷ []) in
      let b = substitute_parts_long in
      omega (arith, a, b)

  abbrev substitute_parts : List (List ℕ)
  substitute_parts = header 0x0014 substitute_inside ∷ (0 ∷ 0 ∷ []) ∷ (iocs ∷ []) ∷ zeros ∷ []

  substitute_there : IsSubstitute (headed 0x0014 substitute_inside) iocs size
  substitute_there =
      let l = substitute_long in
      let b = substitute_parts_long in
      record {
        block = block_is 0x0014 substitute_inside (omega arith) (omega (arith, l, few));
        mode = refl;
        iocs_is = refl;
        value = octets_are (0x80 ∷ []) (take 3 substitute_parts) 9 size zeros refl refl b;
        iops = at_place (headed 0x0014 substitute_inside) (0x80 ∷ []) substitute_parts (9 + size) refl (omega (arith, b));
      }

  substitute_made : substitute iocs size ≡ headed 0x0014 substitute_inside
  unfolding substitute
  substitute_made = refl

  pub substitute_is : IsSubstitute (substitute iocs size) iocs size
  substitute_is = subst (λ (xs : List ℕ). IsSubstitute xs iocs size) (sym substitute_made) substitute_there

  -- the output
  abbrev output_inside : List ℕ
  output_inside = 0 ∷ 0 ∷ 1 ∷ 1 ∷ (big_bytes 2 (length value) ++ iocs ∷ (value ++ iops ∷ substitute iocs (length value)))

  output_long : length output_inside ≡ 18 + 2 * length value
  output_long =
      let a = length-append value (iops ∷ substitute iocs (length value)) in
      let b = ap length substitute_made in
      let c = headed_long 0x0014 substitute_inside in
      let d = substitute_long in
      omega (arith, a, b, c, d)

  output_made : output_element iocs value iops ≡ headed 0x0016 output_inside
  unfolding output_element
  output_made =
      let l = output_long in
      let same : 2 + (18 + 2 * length value) ≡ 2 + length output_inside = omega (arith, l) in
      ap (λ (n : ℕ). with_size 0x0016 n output_inside) same

  abbrev output_parts : List (List ℕ)
  output_parts = header 0x0016 output_inside ∷ (0 ∷ 0 ∷ 1 ∷ 1 ∷ big_bytes 2 (length value)) ∷ (iocs ∷ []) ∷ value ∷ (iops ∷ []) ∷ []

  output_there : IsOutputElement (headed 0x0016 output_inside) iocs iops value
  output_there =
      let l = output_long in
      record {
        block = block_is 0x0016 output_inside (omega arith) (omega (arith, l, few));
        active = refl;
        length_iocs = refl;
        length_iops = refl;
        length_data = big_number-reads_back 2 (length value) [] (omega (arith, few));
        iocs_is = refl;
        data_is = octets_are _ (take 3 output_parts) 13 (length value) value refl refl refl;
        iops_is = octets_are _ (take 4 output_parts) (13 + length value) 1 (iops ∷ []) refl (omega arith) refl;
        substitute_is =
            subst (λ (xs : List ℕ). IsSubstitute xs iocs (length value))
            (sym (at_place (headed 0x0016 output_inside) (substitute iocs (length value)) output_parts (14 + length value) refl (omega arith))) substitute_is;
      }

  pub output_is : IsOutputElement (output_element iocs value iops) iocs iops value
  output_is = subst (λ (xs : List ℕ). IsOutputElement xs iocs iops value) (sym output_made) output_there

-- the IOCS in an image
iocs_same : (found : Option Cell) → unwrap_or (option_map (λ (cell : Cell). cell.status) found) 0 ≡ status_or found
iocs_same None = refl
iocs_same (Some cell) = refl

-- the record of a cell, if there is one
abbrev input_found : Cyclic → ℕ → ℕ → Option Cell → Option (List ℕ)
input_found cyclic slot subslot found = option_map (λ (cell : Cell). input_element (iocs_in cyclic.taken slot subslot) cell.value cell.status) found

abbrev output_found : Cyclic → ℕ → ℕ → Option Cell → Option (List ℕ)
output_found cyclic slot subslot found = option_map (λ (cell : Cell). output_element (iocs_in cyclic.shown slot subslot) cell.value cell.status) found

pub input_read : (cyclic : Cyclic) (slot subslot : ℕ) (sent : Cell) → cell_at Data slot subslot cyclic.shown.cells ≡ Some sent → length sent.value ≤ 1440
    → HasInput (input_of cyclic slot subslot) cyclic slot subslot sent
input_read cyclic slot subslot sent found few =
    let same = iocs_same (cell_at Iocs slot subslot cyclic.taken.cells) in
    subst (λ (cell : Option Cell). HasInput (input_found cyclic slot subslot cell) cyclic slot subslot sent) (sym found)
    (subst (λ (iocs : ℕ). IsInputElement (input_element (iocs_in cyclic.taken slot subslot) sent.value sent.status) iocs sent.status sent.value) same
    (input_is (iocs_in cyclic.taken slot subslot) sent.status sent.value few))

pub output_read : (cyclic : Cyclic) (slot subslot : ℕ) (taken : Cell) → cell_at Data slot subslot cyclic.taken.cells ≡ Some taken → length taken.value ≤ 1440
    → HasOutput (output_of cyclic slot subslot) cyclic slot subslot taken
output_read cyclic slot subslot taken found few =
    let same = iocs_same (cell_at Iocs slot subslot cyclic.shown.cells) in
    subst (λ (cell : Option Cell). HasOutput (output_found cyclic slot subslot cell) cyclic slot subslot taken) (sym found)
    (subst (λ (iocs : ℕ). IsOutputElement (output_element (iocs_in cyclic.shown slot subslot) taken.value taken.status) iocs taken.status taken.value) same
    (output_is (iocs_in cyclic.shown slot subslot) taken.status taken.value few))
