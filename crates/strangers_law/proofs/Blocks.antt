-- The ARUUID in the first block of a call, read at its place.
use Rattle.std.proofs.Common.{◌≡◌, ◌==◌, ◌+◌, ℕ, Bool, true, false, not, List, ◌++◌, length, take, drop, nat_lt, Option, Some, None, Result, Ok, Err, refl, sym, ap, subst, ◌∙◌, append_assoc}
use Rattle.std.proofs.lemmas.Bool.{cond_both}
use Rattle.byteorder.specs.Endian.{big_number}
use Rattle.wire.specs.Checks.{or_fault}
use Rattle.wire.specs.Codec.{IsSound}
use Rattle.wire.proofs.BlocksSound.{blank_sound, fixed_one_sound, fixed_sound, numeral_sound, octets_sound}
use Rattle.wire.proofs.Joined.{seen_sound, then_by_sound}
use Rattle.wire.specs.blocks.Fields.{body, version}
use Rattle.wire.specs.declared.blocks.fault.BlockFault.{BlockFault}
use Rattle.connect_blocks.specs.Control.{control}
use Rattle.connect_blocks.specs.declared.control.ControlBlock.{ControlBlock}
use Rattle.connect_blocks.specs.declared.plug_control.PlugControlBlock.{PlugControlBlock}
use Rattle.connect_blocks.specs.PlugControl.{plug_control}
use Rattle.record_blocks.specs.RecordHeader.{record_header}
use Rattle.record_blocks.specs.ReadRecord.{iod_read_req}
use Rattle.record_blocks.specs.WriteRecord.{iod_write_req}
use Rattle.record_blocks.specs.declared.read_record.IodReadReq.{IodReadReq}
use Rattle.record_blocks.specs.declared.write_record.IodWriteReq.{IodWriteReq}
use Rattle.block_codec.specs.declared.block.Block.{Block}
use Rattle.block_codec.specs.declared.block.Block.TheVariants as is
use Rattle.block_codec.specs.declared.block_type.BlockType.{BlockType}
use Rattle.block_codec.specs.declared.block_type.BlockType.TheVariants as kind
use Rattle.block_codec.specs.Block.{IsBlock, block, block_of, body_of, fields_of, in_application_ready, in_iod_read_req, in_iod_write_req}
use Rattle.block_codec.specs.Kinds.{number_of, type_of}
use Rattle.block_codec.proofs.Sound.{block_takes}
use Rattle.records.specs.declared.status.call_fault.CallFault.{CallFault}
use Rattle.records.specs.declared.status.call_fault.CallFault.TheVariants as fault
use Rattle.records.specs.calls.Single.{formed, single_of}
use Rattle.records.specs.reads.Handled.{request_of}
use Rattle.relations.specs.Calls.{control_block, in_control}
use Rattle.relations.specs.Plugging.{block_in}
use Rattle.octets_law.specs.Octets.{part}
use Rattle.octets_law.proofs.CallPlaces.{skip}
use Rattle.octets_law.proofs.CallReads.{tested}
use Rattle.octets_law.proofs.SetFrames.{take_front}
use Rattle.octets_law.proofs.SetHeard.{two_ahead}
use Rattle.octets_law.proofs.WriteCalls.{bind_ok}

past : (n m : ℕ) (bytes front rest : List ℕ) → bytes ≡ front ++ rest → length front ≡ m → drop (m + n) bytes ≡ drop n rest
past n m bytes front rest is wide = ap (drop (m + n)) is ∙ skip n m front rest wide

within : (n m : ℕ) (bytes front mid rest : List ℕ) → bytes ≡ front ++ mid → length front ≡ m → drop (m + n) (bytes ++ rest) ≡ drop n (mid ++ rest)
within n m bytes front mid rest is wide = ap (λ l. drop (m + n) (l ++ rest)) is ∙ ap (drop (m + n)) (append_assoc front mid rest) ∙ skip n m front (mid ++ rest) wide

sixteen : (uuid mid more rest : List ℕ) → mid ≡ uuid ++ more → length uuid ≡ 16 → take 16 (mid ++ rest) ≡ uuid
sixteen uuid mid more rest is wide =
    ap (λ l. take 16 (l ++ rest)) is ∙ ap (take 16) (append_assoc uuid more rest)
    ∙ subst (λ n. take n (uuid ++ (more ++ rest)) ≡ uuid) wide (take_front uuid (more ++ rest))

-- ---- a block of a known type

record IsOfKind (type : BlockType) (bytes : List ℕ) (value : Block) (rest : List ℕ) : Type 0 where
  inside : List ℕ
  spelled : (fields_of type).Spells inside value
  after : (n : ℕ) → drop (2 + (2 + n)) bytes ≡ drop n (inside ++ rest)

of_kind : (type : BlockType) (bytes : List ℕ) (value : Block) (rest : List ℕ) → type_of (number_of type) ≡ Some type → big_number 2 bytes ≡ number_of type
    → IsBlock bytes value rest → IsOfKind type bytes value rest
unfolding IsBlock block body_of
of_kind type bytes value rest known number spells =
    let first = spells.2.1 in
    let frame = spells.2.2 in
    let size = frame.2 in
    let read : spells.0.0 ≡ number_of type = first.3 ∙ sym (ap (big_number 2) first.2 ∙ two_ahead first.0 _ first.1) ∙ number in
    record {
      inside = frame.0;
      spelled = subst (λ k. (body_of k).Spells frame.0 value) (ap type_of read ∙ known)
          (subst (λ v. (body_of (type_of spells.0.0)).Spells frame.0 v) spells.1 frame.4);
      after = λ n. past (2 + n) 2 bytes first.0 spells.2.0 first.2 first.1 ∙ past n 2 spells.2.0 size.0 frame.1 size.2 size.1 ∙ ap (drop n) frame.3;
    }

-- ---- the fields

control_named : (wanted : Option ℕ) (inside : List ℕ) (value : ControlBlock) (rest : List ℕ) → (body (control wanted)).Spells inside value → take 16 (drop 4 (inside ++ rest)) ≡ value.ar_uuid
unfolding body version control
control_named wanted inside value rest spells =
    let versions = spells.2.1 in
    let high = versions.2.1.1 in
    let low = versions.2.2.1 in
    let fields = spells.2.2 in
    let blank = fields.2.1 in
    let uuid = fields.2.2.1 in
    ap (take 16) (within (1 + (2 + 0)) 1 inside high.0 _ rest high.2 high.1 ∙ within (2 + 0) 1 _ low.0 _ rest low.2 low.1 ∙ within 0 2 _ blank.0 _ rest blank.2.1 blank.2.0)
    ∙ sixteen fields.0.1.0 _ _ rest uuid.1 uuid.0 ∙ ap (λ c. c.ar_uuid) (fields.1 ∙ spells.1)

read_named : (inside : List ℕ) (value : IodReadReq) (rest : List ℕ) → (body iod_read_req).Spells inside value → take 16 (drop 4 (inside ++ rest)) ≡ value.header.ar_uuid
unfolding body version iod_read_req record_header
read_named inside value rest spells =
    let versions = spells.2.1 in
    let high = versions.2.1.1 in
    let low = versions.2.2.1 in
    let fields = spells.2.2 in
    let header = fields.2.1 in
    let sequence = header.2.1 in
    let uuid = header.2.2.1 in
    ap (take 16) (within (1 + (2 + 0)) 1 inside high.0 _ rest high.2 high.1 ∙ within (2 + 0) 1 _ low.0 _ rest low.2 low.1 ∙ within 0 2 _ sequence.0 _ rest sequence.2 sequence.1)
    ∙ sixteen header.0.1.0 _ _ rest uuid.1 uuid.0 ∙ ap (λ h. h.ar_uuid) (header.1 ∙ ap (λ r. r.header) (fields.1 ∙ spells.1))

write_named : (inside : List ℕ) (value : IodWriteReq) (rest : List ℕ) → (body iod_write_req).Spells inside value → take 16 (drop 4 (inside ++ rest)) ≡ value.header.ar_uuid
unfolding body version iod_write_req record_header
write_named inside value rest spells =
    let versions = spells.2.1 in
    let high = versions.2.1.1 in
    let low = versions.2.2.1 in
    let fields = spells.2.2 in
    let header = fields.2.1 in
    let sequence = header.2.1 in
    let uuid = header.2.2.1 in
    ap (take 16) (within (1 + (2 + 0)) 1 inside high.0 _ rest high.2 high.1 ∙ within (2 + 0) 1 _ low.0 _ rest low.2 low.1 ∙ within 0 2 _ sequence.0 _ rest sequence.2 sequence.1)
    ∙ sixteen header.0.1.0 _ _ rest uuid.1 uuid.0 ∙ ap (λ h. h.ar_uuid) (header.1 ∙ ap (λ r. r.header) (fields.1 ∙ spells.1))

-- ---- the single block of a call

formed_ok : (came : Result (Block × List ℕ) BlockFault) (x : Block × List ℕ) → formed came ≡ Ok x → came ≡ Ok x
formed_ok (Ok value) x e = cc
formed_ok (Err why) x e = absurd cc

is_true : (b : Bool) → not b ≡ false → b ≡ true
is_true true e = refl
is_true false e = absurd cc

abbrev IsSingle : BlockType → List ℕ → Block × List ℕ → Type 0
IsSingle type blocks x = (big_number 2 blocks ≡ number_of type) × (block_of blocks ≡ Ok x)

single_parts : (type : BlockType) (blocks : List ℕ) (x : Block × List ℕ) → single_of type blocks ≡ Ok x → IsSingle type blocks x
unfolding single_of
single_parts type blocks x =
    cond_both (length blocks == 0) _ _ (λ (r : Result (Block × List ℕ) CallFault). r ≡ Ok x → IsSingle type blocks x) (λ _ e. absurd cc)
    (λ _. cond_both (nat_lt (length blocks) 4) _ _ (λ (r : Result (Block × List ℕ) CallFault). r ≡ Ok x → IsSingle type blocks x) (λ _ e. absurd cc)
    (λ _. cond_both (not (big_number 2 blocks == number_of type)) _ _ (λ (r : Result (Block × List ℕ) CallFault). r ≡ Ok x → IsSingle type blocks x) (λ _ e. absurd cc)
    (λ is e. (tested _ _ (is_true _ is), formed_ok (block_of blocks) x e))))

single_kind : (type : BlockType) (blocks : List ℕ) (x : Block × List ℕ) → type_of (number_of type) ≡ Some type → single_of type blocks ≡ Ok x → IsOfKind type blocks x.0 x.1
single_kind type blocks x known e =
    let is = single_parts type blocks x e in
    of_kind type blocks x.0 x.1 known is.0 (block_takes blocks x.0 x.1 is.1)

-- PrmEnd and Release.
pub prm_end_named : (blocks : List ℕ) (value : ControlBlock) → control_block kind.PrmEnd blocks ≡ Ok value → part 8 16 blocks ≡ value.ar_uuid
unfolding fields_of number_of type_of
prm_end_named blocks value e =
    let one = bind_ok (single_of kind.PrmEnd blocks) (λ x. or_fault fault.BlockForm (in_control x.0)) value e in
    let at = single_kind kind.PrmEnd blocks one.0 refl one.1 in
    let fields = at.spelled in
    let same : fields.0 ≡ value = let e : Ok fields.0 ≡ Ok value = ap (λ v. or_fault fault.BlockForm (in_control v)) fields.1 ∙ one.2 in cc in
    ap (take 16) (at.after 4) ∙ control_named None at.inside fields.0 one.0.1 fields.2 ∙ ap (λ c. c.ar_uuid) same

pub release_named : (blocks : List ℕ) (value : ControlBlock) → control_block kind.Release blocks ≡ Ok value → part 8 16 blocks ≡ value.ar_uuid
unfolding fields_of number_of type_of
release_named blocks value e =
    let one = bind_ok (single_of kind.Release blocks) (λ x. or_fault fault.BlockForm (in_control x.0)) value e in
    let at = single_kind kind.Release blocks one.0 refl one.1 in
    let fields = at.spelled in
    let same : fields.0 ≡ value = let e : Ok fields.0 ≡ Ok value = ap (λ v. or_fault fault.BlockForm (in_control v)) fields.1 ∙ one.2 in cc in
    ap (take 16) (at.after 4) ∙ control_named None at.inside fields.0 one.0.1 fields.2 ∙ ap (λ c. c.ar_uuid) same

-- PrmEnd and ApplicationReady after a plug, which are read as whole blocks.
plug_control_sound : (kind : ℕ) → IsSound (plug_control kind)
unfolding plug_control
plug_control_sound kind = seen_sound _ _ _ (λ _. refl) (then_by_sound _ _ (fixed_sound 0 kind) (λ _. then_by_sound _ _ (fixed_sound 1 28)
    (λ _. then_by_sound _ _ (fixed_one_sound 2 1) (λ _. then_by_sound _ _ (fixed_one_sound 3 0) (λ _. then_by_sound _ _ (blank_sound 2)
    (λ _. then_by_sound _ _ (octets_sound 16) (λ _. then_by_sound _ _ (numeral_sound 2) (λ _. then_by_sound _ _ (numeral_sound 2)
    (λ _. then_by_sound _ _ (numeral_sound 2) (λ _. numeral_sound 2))))))))))

plug_at : (kind : ℕ) (bytes : List ℕ) (value : PlugControlBlock) (rest : List ℕ) → (plug_control kind).Spells bytes value rest → part 8 16 bytes ≡ value.ar_uuid
unfolding plug_control
plug_at kind bytes value rest spells =
    let type = spells.2 in
    let size = type.2 in
    let high = size.2 in
    let low = high.2 in
    let reserved = low.2 in
    let fields = reserved.2 in
    let uuid = fields.1 in
    ap (take 16) (past (2 + (1 + (1 + (2 + 0)))) 2 bytes type.1.2.1.0 type.0 type.1.2.1.2 type.1.2.1.1
    ∙ past (1 + (1 + (2 + 0))) 2 type.0 size.1.2.1.0 size.0 size.1.2.1.2 size.1.2.1.1
    ∙ past (1 + (2 + 0)) 1 size.0 high.1.2.1.0 high.0 high.1.2.1.2 high.1.2.1.1
    ∙ past (2 + 0) 1 high.0 low.1.2.1.0 low.0 low.1.2.1.2 low.1.2.1.1
    ∙ past 0 2 low.0 reserved.1.0 reserved.0 reserved.1.2.1 reserved.1.2.0)
    ∙ sixteen_of reserved.0 spells.0.1.1.1.1.1.0 fields.0 uuid.1 uuid.0 ∙ ap (λ b. b.ar_uuid) spells.1
  where
    sixteen_of : (octets uuid more : List ℕ) → octets ≡ uuid ++ more → length uuid ≡ 16 → take 16 octets ≡ uuid
    sixteen_of octets uuid more is wide = ap (take 16) is ∙ subst (λ n. take n (uuid ++ more) ≡ uuid) wide (take_front uuid more)

pub plug_read_named : (kind : ℕ) (blocks : List ℕ) (x : PlugControlBlock × List ℕ) → (plug_control kind).read blocks ≡ Ok x → part 8 16 blocks ≡ x.0.ar_uuid
plug_read_named kind blocks x is = plug_at kind blocks x.0 x.1 ((plug_control_sound kind).takes blocks x.0 x.1 is)

pub plug_end_named : (blocks : List ℕ) (value : PlugControlBlock) → block_in ((plug_control 0x0111).read blocks) ≡ Ok value → part 8 16 blocks ≡ value.ar_uuid
plug_end_named blocks value = by_read ((plug_control 0x0111).read blocks) refl
  where
    by_read : (r : Result (PlugControlBlock × List ℕ) BlockFault) → (plug_control 0x0111).read blocks ≡ r → block_in r ≡ Ok value → part 8 16 blocks ≡ value.ar_uuid
    by_read (Ok x) is e =
        let same : x.0 ≡ value = cc in
        plug_read_named 0x0111 blocks x is ∙ ap (λ b. b.ar_uuid) same
    by_read (Err why) is e = absurd cc

-- A Read.
pub request_named : (blocks : List ℕ) (value : IodReadReq) → request_of blocks ≡ Ok value → part 8 16 blocks ≡ value.header.ar_uuid
unfolding request_of fields_of number_of type_of
request_named blocks value e =
    let one = bind_ok (single_of kind.IodReadReq blocks) (λ x. or_fault fault.BlockForm (in_iod_read_req x.0)) value e in
    let at = single_kind kind.IodReadReq blocks one.0 refl one.1 in
    let fields = at.spelled in
    let same : fields.0 ≡ value = let e : Ok fields.0 ≡ Ok value = ap (λ v. or_fault fault.BlockForm (in_iod_read_req v)) fields.1 ∙ one.2 in cc in
    ap (take 16) (at.after 4) ∙ read_named at.inside fields.0 one.0.1 fields.2 ∙ ap (λ c. c.header.ar_uuid) same

-- A Write.
pub header_named : (blocks : List ℕ) (x : Block × List ℕ) (value : IodWriteReq) → single_of kind.IodWriteReq blocks ≡ Ok x → in_iod_write_req x.0 ≡ Some value
    → part 8 16 blocks ≡ value.header.ar_uuid
unfolding fields_of number_of type_of
header_named blocks x value e found =
    let at = single_kind kind.IodWriteReq blocks x refl e in
    let fields = at.spelled in
    let same : fields.0 ≡ value = let e : Some fields.0 ≡ Some value = ap in_iod_write_req fields.1 ∙ found in cc in
    ap (take 16) (at.after 4) ∙ write_named at.inside fields.0 x.1 fields.2 ∙ ap (λ c. c.header.ar_uuid) same

-- An ApplicationReady, whatever the type of the block.
ready_fields : (k : Option BlockType) (inside : List ℕ) (value : ControlBlock) → (body_of k).Spells inside (is.ApplicationReady value) → (body (control (Some 2))).Spells inside value
unfolding body_of fields_of
ready_fields None inside value spells = absurd spells
ready_fields (Some kind.ApplicationReady) inside value spells = subst (λ r. (body (control (Some 2))).Spells inside r) (same_value spells.0 value spells.1) spells.2
  where
    same_value : (one other : ControlBlock) → is.ApplicationReady one ≡ is.ApplicationReady other → one ≡ other
    same_value one other e = cc
ready_fields (Some kind.ArBlockReq) inside value spells = let e = spells.1 in absurd cc
ready_fields (Some kind.ArBlockRes) inside value spells = let e = spells.1 in absurd cc
ready_fields (Some kind.IocrBlockReq) inside value spells = let e = spells.1 in absurd cc
ready_fields (Some kind.IocrBlockRes) inside value spells = let e = spells.1 in absurd cc
ready_fields (Some kind.AlarmCrBlockReq) inside value spells = let e = spells.1 in absurd cc
ready_fields (Some kind.AlarmCrBlockRes) inside value spells = let e = spells.1 in absurd cc
ready_fields (Some kind.ExpectedSubmoduleBlockReq) inside value spells = let e = spells.1 in absurd cc
ready_fields (Some kind.ModuleDiffBlock) inside value spells = let e = spells.1 in absurd cc
ready_fields (Some kind.PrmEnd) inside value spells = let e = spells.1 in absurd cc
ready_fields (Some kind.PrmEndRes) inside value spells = let e = spells.1 in absurd cc
ready_fields (Some kind.ApplicationReadyRes) inside value spells = let e = spells.1 in absurd cc
ready_fields (Some kind.Release) inside value spells = let e = spells.1 in absurd cc
ready_fields (Some kind.ReleaseRes) inside value spells = let e = spells.1 in absurd cc
ready_fields (Some kind.IodReadReq) inside value spells = let e = spells.1 in absurd cc
ready_fields (Some kind.IodReadRes) inside value spells = let e = spells.1 in absurd cc
ready_fields (Some kind.IodWriteReq) inside value spells = let e = spells.1 in absurd cc
ready_fields (Some kind.IodWriteRes) inside value spells = let e = spells.1 in absurd cc
ready_fields (Some kind.Im0) inside value spells = let e = spells.1 in absurd cc
ready_fields (Some kind.Im1) inside value spells = let e = spells.1 in absurd cc
ready_fields (Some kind.Im2) inside value spells = let e = spells.1 in absurd cc
ready_fields (Some kind.Im3) inside value spells = let e = spells.1 in absurd cc
ready_fields (Some kind.Im4) inside value spells = let e = spells.1 in absurd cc
ready_fields (Some kind.ImFilterDataSubmodule) inside value spells = let e = spells.1 in absurd cc
ready_fields (Some kind.ImFilterDataDevice) inside value spells = let e = spells.1 in absurd cc
ready_fields (Some kind.AlarmNotification) inside value spells = let e = spells.1 in absurd cc
ready_fields (Some kind.AlarmAck) inside value spells = let e = spells.1 in absurd cc

ready_at : (bytes : List ℕ) (value : ControlBlock) (rest : List ℕ) → IsBlock bytes (is.ApplicationReady value) rest → part 8 16 bytes ≡ value.ar_uuid
unfolding IsBlock block
ready_at bytes value rest spells =
    let first = spells.2.1 in
    let frame = spells.2.2 in
    let size = frame.2 in
    let fields = ready_fields (type_of spells.0.0) frame.0 value (subst (λ v. (body_of (type_of spells.0.0)).Spells frame.0 v) spells.1 frame.4) in
    ap (take 16) (past (2 + 4) 2 bytes first.0 spells.2.0 first.2 first.1 ∙ past 4 2 spells.2.0 size.0 frame.1 size.2 size.1 ∙ ap (drop 4) frame.3)
    ∙ control_named (Some 2) frame.0 value rest fields

pub ready_named : (blocks : List ℕ) (x : Block × List ℕ) (value : ControlBlock) → block_of blocks ≡ Ok x → in_application_ready x.0 ≡ Some value → part 8 16 blocks ≡ value.ar_uuid
ready_named blocks x value read found = ready_at blocks value x.1 (subst (λ v. IsBlock blocks v x.1) (is_ready x.0 found) (block_takes blocks x.0 x.1 read))
  where
    is_ready : (block : Block) → in_application_ready block ≡ Some value → block ≡ is.ApplicationReady value
    is_ready (is.ApplicationReady other) e = cc
    is_ready _ e = absurd cc
