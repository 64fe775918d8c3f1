-- What a Write of the application of a controller leaves at other submodules, and one record more at a submodule.
use Rattle.std.proofs.Common.{◌≡◌, inl, inr, ◌&&◌, ◌==◌, ◌++◌, ℕ, Bool, true, false, not, cond, List, [], ◌∷◌, length, take, Option, Some, None, Result, Ok, Err, refl, sym, ap, subst, ◌∙◌}
use Rattle.std.specs.Prelude.{nat_lt}
use Rattle.std.proofs.lemmas.Bool.{and_from, and_parts, cond-false, eq-eqb, eqb-true}
use Rattle.std.proofs.lemmas.List.Elements.{filter-append}
use Rattle.wire.specs.Codec.{◌>>=◌}
use Rattle.wire.specs.Checks.{or_fault}
use Rattle.wire.proofs.Fields.{bind_ok, ok_is}
use Rattle.pn_values.specs.declared.real.Real.{Real}
use Rattle.pn_values.specs.declared.command.Command.{Command}
use Rattle.pn_values.specs.declared.command.Command.TheVariants as command
use Rattle.block_codec.specs.declared.block.Block.{Block}
use Rattle.block_codec.specs.declared.block.Block.TheVariants as variant
use Rattle.block_codec.specs.declared.block_type.BlockType.TheVariants as kind
use Rattle.block_codec.specs.Block.{block_bytes, block_of, front, in_iod_write_req}
use Rattle.block_codec.specs.Writable.{CanBeWritten}
use Rattle.record_blocks.specs.declared.write_record.IodWriteReq.{IodWriteReq}
use Rattle.im_records.specs.declared.fault.RecordFault.{RecordFault}
use Rattle.im_records.specs.Indices.{is_read_only, record_with}
use Rattle.im_records.specs.Writable.{is_writable}
use Rattle.im_records.specs.Writes.{command_of}
use Rattle.records.specs.declared.status.call_fault.CallFault.TheVariants as fault
use Rattle.records.specs.calls.Single.{single_of}
use Rattle.records.specs.reads.Parameters.{parameter_length}
use Rattle.records.specs.declared.writes.taken.TakenRecord.{TakenRecord}
use Rattle.records.specs.declared.writes.write.Effect.{Effect}
use Rattle.records.specs.declared.writes.write.Effect.TheVariants.{Keeps, Stores}
use Rattle.records.specs.declared.writes.write.Write.{Write}
use Rattle.records.specs.declared.writes.writing.Writing.{Writing}
use Rattle.records.specs.declared.writes.writing.Writing.TheVariants.{One}
use Rattle.records.specs.writes.Asked.{handled_writing, writing_of}
use Rattle.records.specs.writes.Handled.{effect_of, is_known, is_length, handled_request, kept, stored, targeted, text_in, written}
use Rattle.records.specs.writes.Several.{is_several}
use Rattle.records.specs.writes.Taken.{is_at}
use Rattle.plug_ends.specs.Places.{taken_at}
use Rattle.plug_ends.proofs.DeviceGoes.{AreOf}
use Rattle.plug_ends.proofs.Written.{fault_ok, handled_ok, single_is}

-- ---- one record more

some_is : {A : Type 0} (x y : A) → Some x ≡ Some y → x ≡ y
some_is x y e = cc

pub own_more : (slot subslot : ℕ) (taken : List TakenRecord) (value : TakenRecord) → value.slot ≡ slot → value.subslot ≡ subslot
    → taken_at slot subslot (taken ++ value ∷ []) ≡ taken_at slot subslot taken ++ value ∷ []
own_more slot subslot taken value slot_is subslot_is =
    filter-append (is_at slot subslot) taken (value ∷ [])
    ∙ ap (λ (b : Bool). taken_at slot subslot taken ++ cond b (value ∷ []) [])
    (and_from (value.slot == slot) (value.subslot == subslot) (eq-eqb value.slot slot slot_is) (eq-eqb value.subslot subslot subslot_is))

none_at : (slot subslot : ℕ) (value : TakenRecord) → (value.slot ≡ slot → value.subslot ≡ subslot → ⊥) → taken_at slot subslot (value ∷ []) ≡ []
none_at slot subslot value other = by_test (is_at slot subslot value) refl
  where
    by_test : (b : Bool) → is_at slot subslot value ≡ b → cond b (value ∷ []) [] ≡ []
    by_test true is =
        let both = and_parts (value.slot == slot) (value.subslot == subslot) is in
        absurd (other (eqb-true value.slot slot both.0) (eqb-true value.subslot subslot both.1))
    by_test false is = refl

nothing_more : (values : List TakenRecord) → values ++ [] ≡ values
nothing_more [] = refl
nothing_more (value ∷ values) = ap (λ (xs : List TakenRecord). value ∷ xs) (nothing_more values)

pub other_more : (slot subslot : ℕ) (taken : List TakenRecord) (value : TakenRecord) → (value.slot ≡ slot → value.subslot ≡ subslot → ⊥)
    → taken_at slot subslot (taken ++ value ∷ []) ≡ taken_at slot subslot taken
other_more slot subslot taken value other =
    filter-append (is_at slot subslot) taken (value ∷ [])
    ∙ (ap (λ (xs : List TakenRecord). taken_at slot subslot taken ++ xs) (none_at slot subslot value other)
    ∙ nothing_more (taken_at slot subslot taken))

-- ---- a Write of any index

text_stores : (read : Result Command RecordFault) (effect : Effect) (value : TakenRecord) → text_in read ≡ Some effect → effect ≡ Keeps value → ⊥
text_stores (Ok (command.SetIm value)) effect kept_one e f = absurd (stores_keeps (some_is (Stores value) effect e ∙ f))
  where
    stores_keeps : Stores value ≡ Keeps kept_one → ⊥
    stores_keeps g = absurd cc
text_stores (Ok (command.SetName permanent name)) effect value e f = absurd cc
text_stores (Ok (command.SetIp permanent suite)) effect value e f = absurd cc
text_stores (Ok command.ResetApplication) effect value e f = absurd cc
text_stores (Ok command.ResetCommunication) effect value e f = absurd cc
text_stores (Ok command.ResetAll) effect value e f = absurd cc
text_stores (Err why) effect value e f = absurd cc

module _ (read : (block : Block) (rest : List ℕ) → CanBeWritten block → block_of (block_bytes block ++ rest) ≡ front block rest)
    (real : Real) (asked : IodWriteReq) (octets : List ℕ) (in_api : asked.header.api ≡ 0) (can : CanBeWritten (variant.IodWriteReq asked)) where
  abbrev IsOwn : Effect → Type 0
  IsOwn effect = (value : TakenRecord) → effect ≡ Keeps value → (value.slot ≡ asked.header.slot_number) × (value.subslot ≡ asked.header.subslot_number)

  keeps_same : (one other : TakenRecord) → Keeps one ≡ Keeps other → one ≡ other
  keeps_same one other e = cc

  abbrev kept_value : List ℕ → TakenRecord
  kept_value all = record {
    slot = asked.header.slot_number;
    subslot = asked.header.subslot_number;
    index = asked.header.index;
    value = record { items = all };
  }

  kept_own : (all : List ℕ) (effect : Effect) → kept real asked all ≡ Some effect → IsOwn effect
  kept_own all effect = by_length (is_length (parameter_length real.modules.items asked.header.slot_number asked.header.subslot_number asked.header.index) (length all))
    where
      by_length : (b : Bool) → cond b (Some (Keeps (kept_value all))) None ≡ Some effect → IsOwn effect
      by_length true e value f =
          let same : kept_value all ≡ value = keeps_same (kept_value all) value (some_is (Keeps (kept_value all)) effect e ∙ f) in
          (sym (ap (λ (v : TakenRecord). v.slot) same), sym (ap (λ (v : TakenRecord). v.subslot) same))
      by_length false e value f = absurd cc

  effect_own : (all : List ℕ) (effect : Effect) → effect_of real asked all ≡ Some effect → IsOwn effect
  effect_own all effect = by_test (is_writable asked.header.index asked.header.slot_number asked.header.subslot_number)
    where
      by_test : (b : Bool) → cond b (stored asked.header.index all) (kept real asked all) ≡ Some effect → IsOwn effect
      by_test true e value f = absurd (text_stores (command_of asked.header.index all) effect value e f)
      by_test false e value f = kept_own all effect e value f

  written_own : (effect : Effect) → written real asked octets ≡ Ok effect → IsOwn effect
  unfolding written
  written_own effect e =
      let all = take asked.header.record_data_length octets in
      effect_own all effect (fault_ok fault.WriteLength (effect_of real asked all) effect (handled_ok
      ((not (is_known real asked), fault.Index)
      ∷ (is_read_only (record_with asked.header.index), fault.Access)
      ∷ (nat_lt (length octets) asked.header.record_data_length, fault.WriteLength)
      ∷ [])
      (or_fault fault.WriteLength (effect_of real asked all)) effect e))

  request_own : (standing : Option (List ℕ)) (write : Write) → handled_request standing real asked octets ≡ Ok write → IsOwn write.effect
  unfolding handled_request
  request_own standing write e =
      let one = bind_ok (targeted standing real asked) (λ _. written real asked octets >>= λ effect. Ok (record { request = asked; effect = effect })) write e in
      let two = bind_ok (written real asked octets) (λ effect. Ok (record { request = asked; effect = effect })) write one.2 in
      subst IsOwn (ap (λ (w : Write). w.effect) (ok_is (record { request = asked; effect = two.0 }) write two.2)) (written_own two.0 two.1)

  -- one record, of this place if it is kept
  abbrev IsOwnWriting : Writing → Type 0
  IsOwnWriting writing = (write : Write) × (writing ≡ One write) × IsOwn write.effect

  and_none : (b : Bool) → (b && false) ≡ false
  and_none true = refl
  and_none false = refl

  one_record : is_several asked ≡ false
  one_record =
      ap (λ (n : ℕ). asked.header.index == 0xE040 && (n == 0xFFFFFFFF && (asked.header.slot_number == 0xFFFF && asked.header.subslot_number == 0xFFFF))) in_api
      ∙ and_none (asked.header.index == 0xE040)

  writing_own : (standing : Option (List ℕ)) (writing : Writing) → handled_writing standing real asked octets ≡ Ok writing → IsOwnWriting writing
  writing_own standing writing e =
      let alone : (handled_request standing real asked octets >>= λ write. Ok (One write)) ≡ Ok writing = sym (cond-false _ _ _ one_record) ∙ e in
      let there = bind_ok (handled_request standing real asked octets) (λ write. Ok (One write)) writing alone in
      (there.0, sym (ok_is (One there.0) writing there.2), request_own standing there.0 there.1)

  blocks_own : (standing : Option (List ℕ)) (writing : Writing) → writing_of standing real (block_bytes (variant.IodWriteReq asked) ++ octets) ≡ Ok writing
      → IsOwnWriting writing
  unfolding writing_of
  blocks_own standing writing e =
      let blocks = block_bytes (variant.IodWriteReq asked) ++ octets in
      let one = bind_ok (single_of kind.IodWriteReq blocks) (λ x. or_fault fault.BlockForm (in_iod_write_req x.0) >>= λ request. handled_writing standing real request x.1)
      writing e in
      let same : one.0 ≡ (variant.IodWriteReq asked, octets) =
      ok_is one.0 (variant.IodWriteReq asked, octets) (sym (single_is kind.IodWriteReq blocks one.0 one.1) ∙ read (variant.IodWriteReq asked) octets can) in
      writing_own standing writing
      (subst (λ (x : Block × List ℕ). (or_fault fault.BlockForm (in_iod_write_req x.0) >>= λ request. handled_writing standing real request x.1) ≡ Ok writing)
      same one.2)

  one_same : (one other : Write) → One one ≡ One other → one ≡ other
  one_same one other e = cc

  -- nothing that it writes is at another submodule
  pub writes_elsewhere : (slot subslot : ℕ) → (asked.header.slot_number ≡ slot → asked.header.subslot_number ≡ subslot → ⊥)
      → (standing : Option (List ℕ)) (writing : Writing) (values : List TakenRecord)
      → writing_of standing real (block_bytes (variant.IodWriteReq asked) ++ octets) ≡ Ok writing → AreOf writing values → taken_at slot subslot values ≡ []
  writes_elsewhere slot subslot other standing writing values e are =
      let own = blocks_own standing writing e in
      by_values own.0 own.2 (subst (λ (w : Writing). AreOf w values) own.1 are)
    where
      by_values : (write : Write) → IsOwn write.effect → AreOf (One write) values → taken_at slot subslot values ≡ []
      by_values write own (inl none) = ap (λ (xs : List TakenRecord). taken_at slot subslot xs) none
      by_values write own (inr one) =
          let place = own one.0 one.1 in
          ap (λ (xs : List TakenRecord). taken_at slot subslot xs) one.2
          ∙ none_at slot subslot one.0 (λ slot_is subslot_is. other (sym place.0 ∙ slot_is) (sym place.1 ∙ subslot_is))
