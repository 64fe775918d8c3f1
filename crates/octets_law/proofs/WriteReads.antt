-- The header of a Write, read at fixed places.
use Rattle.std.proofs.Common.{◌≡◌, ◌+◌, ◌*◌, ℕ, List, [], ◌∷◌, ◌++◌, length, drop, Option, Some, None, refl, sym, ap, subst, ◌∙◌, arith, append_assoc}
use Rattle.byteorder.specs.Endian.{big_number}
use Rattle.wire.specs.blocks.Fields.{body, version}
use Rattle.block_codec.specs.declared.block.Block.TheVariants as is
use Rattle.block_codec.specs.declared.block_type.BlockType.{BlockType}
use Rattle.block_codec.specs.declared.block_type.BlockType.TheVariants as kind
use Rattle.block_codec.specs.Block.{IsBlock, block, body_of, fields_of}
use Rattle.block_codec.specs.Kinds.{type_of}
use Rattle.record_blocks.specs.RecordHeader.{record_header}
use Rattle.record_blocks.specs.WriteRecord.{iod_write_req}
use Rattle.record_blocks.specs.declared.write_record.IodWriteReq.{IodWriteReq}
use Rattle.octets_law.specs.Octets.{number}
use Rattle.octets_law.proofs.CallPlaces.{four_octets, skip}
use Rattle.octets_law.proofs.SetReads.{two_octets}

-- What BlockLength counts of a block that is an IODWriteReqHeader.
written_fields : (k : Option BlockType) (inside : List ℕ) (request : IodWriteReq) → (body_of k).Spells inside (is.IodWriteReq request) → (body iod_write_req).Spells inside request
unfolding body_of fields_of
written_fields None inside request spells = absurd spells
written_fields (Some kind.IodWriteReq) inside request spells = subst (λ r. (body iod_write_req).Spells inside r) (same_request spells.0 request spells.1) spells.2
  where
    same_request : (one other : IodWriteReq) → is.IodWriteReq one ≡ is.IodWriteReq other → one ≡ other
    same_request one other e = cc
written_fields (Some kind.ArBlockReq) inside request spells = let e = spells.1 in absurd cc
written_fields (Some kind.ArBlockRes) inside request spells = let e = spells.1 in absurd cc
written_fields (Some kind.IocrBlockReq) inside request spells = let e = spells.1 in absurd cc
written_fields (Some kind.IocrBlockRes) inside request spells = let e = spells.1 in absurd cc
written_fields (Some kind.AlarmCrBlockReq) inside request spells = let e = spells.1 in absurd cc
written_fields (Some kind.AlarmCrBlockRes) inside request spells = let e = spells.1 in absurd cc
written_fields (Some kind.ExpectedSubmoduleBlockReq) inside request spells = let e = spells.1 in absurd cc
written_fields (Some kind.ModuleDiffBlock) inside request spells = let e = spells.1 in absurd cc
written_fields (Some kind.PrmEnd) inside request spells = let e = spells.1 in absurd cc
written_fields (Some kind.PrmEndRes) inside request spells = let e = spells.1 in absurd cc
written_fields (Some kind.ApplicationReady) inside request spells = let e = spells.1 in absurd cc
written_fields (Some kind.ApplicationReadyRes) inside request spells = let e = spells.1 in absurd cc
written_fields (Some kind.Release) inside request spells = let e = spells.1 in absurd cc
written_fields (Some kind.ReleaseRes) inside request spells = let e = spells.1 in absurd cc
written_fields (Some kind.IodReadReq) inside request spells = let e = spells.1 in absurd cc
written_fields (Some kind.IodReadRes) inside request spells = let e = spells.1 in absurd cc
written_fields (Some kind.IodWriteRes) inside request spells = let e = spells.1 in absurd cc
written_fields (Some kind.Im0) inside request spells = let e = spells.1 in absurd cc
written_fields (Some kind.Im1) inside request spells = let e = spells.1 in absurd cc
written_fields (Some kind.Im2) inside request spells = let e = spells.1 in absurd cc
written_fields (Some kind.Im3) inside request spells = let e = spells.1 in absurd cc
written_fields (Some kind.Im4) inside request spells = let e = spells.1 in absurd cc
written_fields (Some kind.ImFilterDataSubmodule) inside request spells = let e = spells.1 in absurd cc
written_fields (Some kind.ImFilterDataDevice) inside request spells = let e = spells.1 in absurd cc
written_fields (Some kind.AlarmNotification) inside request spells = let e = spells.1 in absurd cc
written_fields (Some kind.AlarmAck) inside request spells = let e = spells.1 in absurd cc

-- What is read of a header at fixed places.
pub record IsHeaderRead (bytes : List ℕ) (request : IodWriteReq) (rest : List ℕ) : Type 0 where
  pub uuid : length request.header.ar_uuid ≡ 16
  pub slots : number 28 4 bytes ≡ request.header.slot_number * 65536 + request.header.subslot_number
  pub slot : number 28 2 bytes ≡ request.header.slot_number
  pub subslot : number 30 2 bytes ≡ request.header.subslot_number
  pub index : number 34 2 bytes ≡ request.header.index
  pub count : number 36 4 bytes ≡ request.header.record_data_length
  pub behind : (n : ℕ) → drop (64 + n) bytes ≡ drop n rest

past : (n m : ℕ) (bytes front rest : List ℕ) → bytes ≡ front ++ rest → length front ≡ m → drop (m + n) bytes ≡ drop n rest
past n m bytes front rest is wide = ap (drop (m + n)) is ∙ skip n m front rest wide

within : (n m : ℕ) (bytes front mid rest : List ℕ) → bytes ≡ front ++ mid → length front ≡ m → drop (m + n) (bytes ++ rest) ≡ drop n (mid ++ rest)
within n m bytes front mid rest is wide = ap (λ l. drop (m + n) (l ++ rest)) is ∙ ap (drop (m + n)) (append_assoc front mid rest) ∙ skip n m front (mid ++ rest) wide

front_two : (bytes front mid rest : List ℕ) → bytes ≡ front ++ mid → length front ≡ 2 → big_number 2 (bytes ++ rest) ≡ big_number 2 front
front_two bytes front mid rest is wide =
    ap (λ l. big_number 2 (l ++ rest)) is ∙ two_octets (λ l. big_number 2 ((l ++ mid) ++ rest) ≡ big_number 2 l) front wide (λ a b. refl)

front_four : (bytes front mid rest : List ℕ) → bytes ≡ front ++ mid → length front ≡ 4 → big_number 4 (bytes ++ rest) ≡ big_number 4 front
front_four bytes front mid rest is wide =
    ap (λ l. big_number 4 (l ++ rest)) is ∙ four_octets (λ l. big_number 4 ((l ++ mid) ++ rest) ≡ big_number 4 l) front wide (λ a b c d. refl)

front_slots : (bytes one mid two behind rest : List ℕ) → bytes ≡ one ++ mid → mid ≡ two ++ behind → length one ≡ 2 → length two ≡ 2
    → big_number 4 (bytes ++ rest) ≡ big_number 2 one * 65536 + big_number 2 two
front_slots bytes one mid two behind rest is then l m =
    ap (λ l. big_number 4 (l ++ rest)) (is ∙ ap (λ l. one ++ l) then)
    ∙ two_octets (λ o. big_number 4 ((o ++ (two ++ behind)) ++ rest) ≡ big_number 2 o * 65536 + big_number 2 two) one l (λ a b.
    two_octets (λ t. big_number 4 ((a ∷ b ∷ (t ++ behind)) ++ rest) ≡ big_number 2 (a ∷ b ∷ []) * 65536 + big_number 2 t) two m (λ c d. omega arith))

placed : (n : ℕ) → 64 + n ≡ 2 + (2 + (1 + (1 + (2 + (16 + (4 + (2 + (2 + (2 + (2 + (4 + (24 + n))))))))))))
placed n = omega arith

-- A block that is the header of a Write is read so.
pub header_read : (bytes : List ℕ) (request : IodWriteReq) (rest : List ℕ) → IsBlock bytes (is.IodWriteReq request) rest → IsHeaderRead bytes request rest
unfolding IsBlock block body version iod_write_req record_header
header_read bytes request rest spells =
    let type = spells.2.1 in
    let frame = spells.2.2 in
    let size = frame.2 in
    let whole = written_fields (type_of spells.0.0) frame.0 request (subst (λ v. (body_of (type_of spells.0.0)).Spells frame.0 v) spells.1 frame.4) in
    let versions = whole.2.1 in
    let high = versions.2.1.1 in
    let low = versions.2.2.1 in
    let fields = whole.2.2 in
    let last = fields.2.2 in
    let header = fields.2.1 in
    let sequence = header.2.1 in
    let uuid = header.2.2.1 in
    let api = header.2.2.2.1 in
    let slot = header.2.2.2.2.1 in
    let subslot = header.2.2.2.2.2.1 in
    let blank = header.2.2.2.2.2.2.1 in
    let index = header.2.2.2.2.2.2.2.1 in
    let count = header.2.2.2.2.2.2.2.2 in
    let same : fields.0.0 ≡ request.header = ap (λ r. r.header) (fields.1 ∙ whole.1) in
    let named = header.1 ∙ same in
    let at : (k : ℕ) → drop (2 + (2 + (1 + (1 + (2 + (16 + (4 + k))))))) bytes ≡ drop k (header.2.2.2.0 ++ rest) = λ k.
    past (2 + (1 + (1 + (2 + (16 + (4 + k)))))) 2 bytes type.0 spells.2.0 type.2 type.1
    ∙ past (1 + (1 + (2 + (16 + (4 + k))))) 2 spells.2.0 size.0 frame.1 size.2 size.1
    ∙ ap (drop (1 + (1 + (2 + (16 + (4 + k)))))) frame.3
    ∙ within (1 + (2 + (16 + (4 + k)))) 1 frame.0 high.0 _ rest high.2 high.1
    ∙ within (2 + (16 + (4 + k))) 1 _ low.0 _ rest low.2 low.1
    ∙ within (16 + (4 + k)) 2 _ sequence.0 _ rest sequence.2 sequence.1
    ∙ within (4 + k) 16 _ _ _ rest uuid.1 uuid.0
    ∙ within k 4 _ api.0 _ rest api.2 api.1 in
    record {
      uuid = ap (λ h. length h.ar_uuid) (sym named) ∙ uuid.0;
      slots = ap (big_number 4) (at 0) ∙ front_slots _ slot.0 _ subslot.0 _ rest slot.2 subslot.2 slot.1 subslot.1
          ∙ ap (λ n. n * 65536 + big_number 2 subslot.0) (sym slot.3 ∙ ap (λ h. h.slot_number) named)
          ∙ ap (λ n. request.header.slot_number * 65536 + n) (sym subslot.3 ∙ ap (λ h. h.subslot_number) named);
      slot = ap (big_number 2) (at 0) ∙ front_two _ slot.0 _ rest slot.2 slot.1 ∙ sym slot.3 ∙ ap (λ h. h.slot_number) named;
      subslot = ap (big_number 2) (at 2 ∙ within 0 2 _ slot.0 _ rest slot.2 slot.1)
          ∙ front_two _ subslot.0 _ rest subslot.2 subslot.1 ∙ sym subslot.3 ∙ ap (λ h. h.subslot_number) named;
      index = ap (big_number 2) (at 6 ∙ within 4 2 _ slot.0 _ rest slot.2 slot.1 ∙ within 2 2 _ subslot.0 _ rest subslot.2 subslot.1 ∙ within 0 2 _ blank.0 _ rest blank.2.1 blank.2.0)
          ∙ front_two _ index.0 _ rest index.2 index.1 ∙ sym index.3 ∙ ap (λ h. h.index) named;
      count = ap (big_number 4) (at 8 ∙ within 6 2 _ slot.0 _ rest slot.2 slot.1 ∙ within 4 2 _ subslot.0 _ rest subslot.2 subslot.1 ∙ within 2 2 _ blank.0 _ rest blank.2.1 blank.2.0
          ∙ within 0 2 _ index.0 _ rest index.2 index.1)
          ∙ front_four _ count.0 _ rest count.2 count.1 ∙ sym count.3 ∙ ap (λ h. h.record_data_length) named;
      behind = λ n. ap (λ m. drop m bytes) (placed n) ∙ at (2 + (2 + (2 + (2 + (4 + (24 + n))))))
          ∙ within (2 + (2 + (2 + (4 + (24 + n))))) 2 _ slot.0 _ rest slot.2 slot.1 ∙ within (2 + (2 + (4 + (24 + n)))) 2 _ subslot.0 _ rest subslot.2 subslot.1
          ∙ within (2 + (4 + (24 + n))) 2 _ blank.0 _ rest blank.2.1 blank.2.0 ∙ within (4 + (24 + n)) 2 _ index.0 _ rest index.2 index.1
          ∙ within (24 + n) 4 _ count.0 _ rest count.2 count.1 ∙ within n 24 _ last.0 [] rest last.2.1 last.2.0;
    }
