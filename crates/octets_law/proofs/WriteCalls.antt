-- The blocks of a Write of one record, read at fixed places.
use Rattle.std.proofs.Common.{◌≡◌, ◌==◌, ◌-◌, ℕ, Bool, true, not, List, [], ◌∷◌, length, take, nat_lt, Option, Some, None, Result, Ok, Err, refl, sym, ap, subst, ◌∙◌}
use Rattle.std.proofs.lemmas.Bool.{cond_both}
use Rattle.wire.specs.Codec.{◌>>=◌}
use Rattle.wire.specs.Checks.{or_fault}
use Rattle.pn_values.specs.declared.real.Real.{Real}
use Rattle.pn_values.specs.declared.im_value.ImValue.{ImValue}
use Rattle.pn_values.specs.declared.command.Command.{Command}
use Rattle.pn_values.specs.declared.command.Command.TheVariants.{SetIm}
use Rattle.byteorder.specs.Endian.{big_number}
use Rattle.im_records.specs.Indices.{is_read_only, record_with}
use Rattle.block_codec.specs.Kinds.{number_of}
use Rattle.wire.specs.declared.blocks.fault.BlockFault.{BlockFault}
use Rattle.block_codec.specs.declared.block.Block.{Block}
use Rattle.block_codec.specs.declared.block.Block.TheVariants as is
use Rattle.block_codec.specs.declared.block_type.BlockType.TheVariants as kind
use Rattle.block_codec.specs.Block.{IsBlock, block_of, in_iod_write_req}
use Rattle.block_codec.proofs.Sound.{block_takes}
use Rattle.record_blocks.specs.declared.write_record.IodWriteReq.{IodWriteReq}
use Rattle.records.specs.declared.status.call_fault.CallFault.{CallFault}
use Rattle.records.specs.declared.status.call_fault.CallFault.TheVariants as fault
use Rattle.records.specs.declared.writes.write.Effect.{Effect}
use Rattle.records.specs.declared.writes.write.Effect.TheVariants.{Stores, Keeps}
use Rattle.records.specs.declared.writes.write.Write.{Write}
use Rattle.records.specs.declared.writes.writing.Writing.{Writing}
use Rattle.records.specs.declared.writes.writing.Writing.TheVariants.{One, Each}
use Rattle.records.specs.writes.Entry.{Entry}
use Rattle.records.specs.calls.Handled.{handled as in_order}
use Rattle.records.specs.calls.Single.{formed, single_of}
use Rattle.records.specs.writes.Asked.{handled_writing, several_of, writing_of}
use Rattle.records.specs.writes.Handled.{effect_of, handled_request, is_known, targeted, written}
use Rattle.records.specs.writes.Several.{is_several}
use Rattle.octets_law.specs.Octets.{number, part, text_in, written_by}
use Rattle.octets_law.proofs.CallReads.{tested}
use Rattle.octets_law.proofs.WriteReads.{IsHeaderRead, header_read}
use Rattle.octets_law.proofs.WriteTexts.{text_at, text_for, text_read}
use Rattle.octets_law.proofs.WriteMarks.{IsTaken}

pub bind_ok : {A B : Type 0} (r : Result A CallFault) (f : A → Result B CallFault) (y : B) → (r >>= f) ≡ Ok y → (x : A) × (r ≡ Ok x) × (f x ≡ Ok y)
bind_ok (Ok x) f y e = (x, refl, e)
bind_ok (Err why) f y e = absurd cc

ordered_ok : {A : Type 0} (judgements : List (Bool × CallFault)) (otherwise : Result A CallFault) (y : A) → in_order judgements otherwise ≡ Ok y → otherwise ≡ Ok y
ordered_ok [] otherwise y e = e
ordered_ok {A} (one ∷ others) otherwise y e =
    cond_both one.0 (Err one.1) (in_order others otherwise) (λ (r : Result A CallFault). r ≡ Ok y → otherwise ≡ Ok y) (λ _ e. absurd cc) (λ _ e. ordered_ok others otherwise y e) e

pub fault_ok : {A : Type 0} (why : CallFault) (value : Option A) (y : A) → or_fault why value ≡ Ok y → value ≡ Some y
fault_ok why (Some value) y e = cc
fault_ok why None y e = absurd cc

formed_ok : (came : Result (Block × List ℕ) BlockFault) (x : Block × List ℕ) → formed came ≡ Ok x → came ≡ Ok x
formed_ok (Ok value) x e = cc
formed_ok (Err why) x e = absurd cc

pub single_ok : (blocks : List ℕ) (x : Block × List ℕ) → single_of kind.IodWriteReq blocks ≡ Ok x → block_of blocks ≡ Ok x
unfolding single_of
single_ok blocks x e = formed_ok (block_of blocks) x (ordered_ok
    ((length blocks == 0, fault.BlockMissing) ∷ (nat_lt (length blocks) 4, fault.BlockHeader) ∷ (not (big_number 2 blocks == number_of kind.IodWriteReq), fault.BlockType) ∷ []) (formed (block_of blocks)) x e)

pub request_in : (value : Block) (request : IodWriteReq) → in_iod_write_req value ≡ Some request → is.IodWriteReq request ≡ value
request_in (is.IodWriteReq other) request e = cc
request_in _ request e = absurd cc

-- What is read of a Write: its header, and what it asks for.
pub record IsWriteRead (standing : Option (List ℕ)) (real : Real) (blocks : List ℕ) (writing : Writing) : Type 0 where
  pub request : IodWriteReq
  pub rest : List ℕ
  pub header : IsHeaderRead blocks request rest
  pub asked : handled_writing standing real request rest ≡ Ok writing

pub write_read : (standing : Option (List ℕ)) (real : Real) (blocks : List ℕ) (writing : Writing) → writing_of standing real blocks ≡ Ok writing → IsWriteRead standing real blocks writing
unfolding writing_of
write_read standing real blocks writing e =
    let one = bind_ok (single_of kind.IodWriteReq blocks) (λ x. or_fault fault.BlockForm (in_iod_write_req x.0) >>= λ request. handled_writing standing real request x.1) writing e in
    let two = bind_ok (or_fault fault.BlockForm (in_iod_write_req one.0.0)) (λ request. handled_writing standing real request one.0.1) writing one.2 in
    let is_block = block_takes blocks one.0.0 one.0.1 (single_ok blocks one.0 one.1) in
    let same = request_in one.0.0 two.0 (fault_ok fault.BlockForm (in_iod_write_req one.0.0) two.0 two.1) in
    record {
      request = two.0;
      rest = one.0.1;
      header = header_read blocks two.0 one.0.1 (subst (λ v. IsBlock blocks v one.0.1) (sym same) is_block);
      asked = two.2;
    }

written_ok : (real : Real) (request : IodWriteReq) (behind : List ℕ) (effect : Effect) → written real request behind ≡ Ok effect
    → effect_of real request (take request.header.record_data_length behind) ≡ Some effect
unfolding written
written_ok real request behind effect e = fault_ok fault.WriteLength _ effect (ordered_ok
    ((not (is_known real request), fault.Index) ∷ (is_read_only (record_with request.header.index), fault.Access) ∷ (nat_lt (length behind) request.header.record_data_length, fault.WriteLength) ∷ [])
    (or_fault fault.WriteLength (effect_of real request (take request.header.record_data_length behind))) effect e)

pub request_ok : (standing : Option (List ℕ)) (real : Real) (request : IodWriteReq) (behind : List ℕ) (write : Write) → handled_request standing real request behind ≡ Ok write
    → effect_of real request (take request.header.record_data_length behind) ≡ Some write.effect
unfolding handled_request
request_ok standing real request behind write e =
    let one = bind_ok (targeted standing real request) (λ _. written real request behind >>= λ effect. Ok (record { request = request; effect = effect })) write e in
    let two = bind_ok (written real request behind) (λ effect. Ok (record { request = request; effect = effect })) write one.2 in
    written_ok real request behind two.0 two.1 ∙ ap (λ (w : Result Write CallFault). effect_from w two.0) two.2
  where
    effect_from : Result Write CallFault → Effect → Option Effect
    effect_from (Ok write) other = Some write.effect
    effect_from (Err why) other = Some other

pub request_same : (standing : Option (List ℕ)) (real : Real) (request : IodWriteReq) (behind : List ℕ) (write : Write) → handled_request standing real request behind ≡ Ok write → request ≡ write.request
unfolding handled_request
request_same standing real request behind write e =
    let one = bind_ok (targeted standing real request) (λ _. written real request behind >>= λ effect. Ok (record { request = request; effect = effect })) write e in
    let two = bind_ok (written real request behind) (λ effect. Ok (record { request = request; effect = effect })) write one.2 in
    ap (λ (w : Result Write CallFault). request_from w request) two.2
  where
    request_from : Result Write CallFault → IodWriteReq → IodWriteReq
    request_from (Ok write) other = write.request
    request_from (Err why) other = other

-- ---- one record

each_one : (header : IodWriteReq) (entries : List Entry) (write : Write) → ◌≡◌ {A = Result Writing CallFault} (Ok (Each header entries)) (Ok (One write)) → ⊥
each_one header entries write e = absurd cc

same_one : (one other : Write) → ◌≡◌ {A = Result Writing CallFault} (Ok (One one)) (Ok (One other)) → ◌≡◌ {A = Result Write CallFault} (Ok one) (Ok other)
same_one one other e = cc

one_inside : (standing : Option (List ℕ)) (real : Real) (request : IodWriteReq) (rest : List ℕ) (write : Write) → handled_writing standing real request rest ≡ Ok (One write)
    → handled_request standing real request rest ≡ Ok write
one_inside standing real request rest write =
    cond_both (is_several request) _ _ (λ (r : Result Writing CallFault). r ≡ Ok (One write) → handled_request standing real request rest ≡ Ok write)
    (λ _ e. let t = bind_ok (several_of standing request rest) (λ entries. Ok (Each request entries)) (One write) e in absurd (each_one request t.0 write t.2))
    (λ _ e. let t = bind_ok (handled_request standing real request rest) (λ write. Ok (One write)) (One write) e in t.1 ∙ same_one t.0 write t.2)

none_at : (slots : ℕ) (text : List ℕ) → text_for slots 0xE040 text ≡ None
none_at slots text = cond_both (not (slots == 1)) None (text_at 0xE040 text) (λ (r : Option Command). r ≡ None) (λ _. refl) (λ _. refl)

none_listed : (bytes : List ℕ) → (number 34 2 bytes == 0xE040) ≡ true → text_in bytes ≡ None
none_listed bytes is = ap (λ i. text_for (number 28 4 bytes) i (part 70 (number 36 4 bytes - 6) bytes)) (tested (number 34 2 bytes) 0xE040 is) ∙ none_at (number 28 4 bytes) (part 70 (number 36 4 bytes - 6) bytes)

-- What is read of one record: its text alone; or nothing, before anything.
abbrev pub IsAsked : Effect → List (Option Command) → Type 0
IsAsked (Stores value) reads = reads ≡ Some (SetIm value) ∷ []
IsAsked (Keeps parameter) reads = (behind : List (Option Command)) × (reads ≡ None ∷ behind)

none_some : (value : ImValue) (read : Option Command) → read ≡ None → read ≡ Some (SetIm value) → ⊥
none_some value read none some = absurd cc

asked_so : (blocks : List ℕ) (effect : Effect) → IsTaken effect (text_in blocks) → IsAsked effect (written_by blocks)
asked_so blocks (Stores value) is =
    cond_both (number 34 2 blocks == 0xE040) _ _ (λ (r : List (Option Command)). r ≡ Some (SetIm value) ∷ []) (λ listed. absurd (none_some value (text_in blocks) (none_listed blocks listed) is)) (λ _. ap (λ r. r ∷ []) is)
asked_so blocks (Keeps parameter) is =
    cond_both (number 34 2 blocks == 0xE040) _ _ (λ (r : List (Option Command)). (behind : List (Option Command)) × (r ≡ None ∷ behind)) (λ _. (_, refl)) (λ _. ([], ap (λ r. r ∷ []) is))

-- The blocks of a Write of one record are read as what it asks for.
pub one_asked : (standing : Option (List ℕ)) (real : Real) (blocks : List ℕ) (write : Write) → writing_of standing real blocks ≡ Ok (One write) → IsAsked write.effect (written_by blocks)
one_asked standing real blocks write e =
    let it = write_read standing real blocks (One write) e in
    asked_so blocks write.effect (text_read real blocks it.request it.rest write.effect it.header
    (request_ok standing real it.request it.rest write (one_inside standing real it.request it.rest write it.asked)))

-- Its header names a relation by 16 octets.
pub one_wide : (standing : Option (List ℕ)) (real : Real) (blocks : List ℕ) (write : Write) → writing_of standing real blocks ≡ Ok (One write) → length write.request.header.ar_uuid ≡ 16
one_wide standing real blocks write e =
    let it = write_read standing real blocks (One write) e in
    subst (λ (r : IodWriteReq). length r.header.ar_uuid ≡ 16) (request_same standing real it.request it.rest write (one_inside standing real it.request it.rest write it.asked)) it.header.uuid
