-- The records that a Write of the plan adds to a relation are those that its answer confirms.
use Rattle.std.proofs.Common.{◌≡◌, ◌⊎◌, inl, inr, ◌≤◌, ◌<◌, ◌==◌, ◌&&◌, ◌+◌, ◌*◌, ◌/◌, ℕ, zero, suc, Bool, true, false, cond, List, [], ◌∷◌, ◌++◌, length, take, drop, map, zip, Option, Some, None, option_map, Result, Ok, Err, refl, sym, ap, subst, ◌∙◌, arith}
use Rattle.std.specs.Prelude.{not, nat_lt, slice_get}
use Rattle.std.specs.List.{AllByRecursion}
use Rattle.std.proofs.lemmas.Bool.{cond-false, cond-true, cond_both, ne_eqb}
use Rattle.byteorder.specs.Endian.{big_number}
use Rattle.wire.specs.Codec.{◌>>=◌}
use Rattle.wire.specs.Checks.{or_fault}
use Rattle.wire.specs.declared.blocks.fault.BlockFault.{BlockFault}
use Rattle.pn_values.specs.declared.real.Real.{Real}
use Rattle.pn_values.specs.declared.im_value.ImValue.{ImValue}
use Rattle.block_codec.specs.declared.block.Block.{Block}
use Rattle.block_codec.specs.declared.block.Block.TheVariants as is
use Rattle.block_codec.specs.declared.block_type.BlockType.TheVariants as kind
use Rattle.block_codec.specs.Block.{block_bytes, block_of, block_size, front, in_iod_write_req}
use Rattle.block_codec.specs.Kinds.{number_of as kind_number}
use Rattle.block_codec.specs.Writable.{CanBeWritten, IsRecord}
use Rattle.record_blocks.specs.declared.write_record.IodWriteReq.{IodWriteReq}
use Rattle.records.specs.declared.status.call_fault.CallFault.{CallFault}
use Rattle.records.specs.declared.status.call_fault.CallFault.TheVariants as fault
use Rattle.records.specs.declared.writes.taken.TakenRecord.{TakenRecord}
use Rattle.records.specs.declared.writes.write.Effect.TheVariants.{Stores, Keeps}
use Rattle.records.specs.declared.writes.write.Write.{Write}
use Rattle.records.specs.declared.writes.writing.Writing.{Writing}
use Rattle.records.specs.declared.writes.writing.Writing.TheVariants.{One, Each}
use Rattle.records.specs.calls.Handled.{handled as in_order}
use Rattle.records.specs.calls.Single.{formed, single_of}
use Rattle.records.specs.writes.Asked.{handled_writing, several_of, writing_of}
use Rattle.records.specs.writes.Entry.{Entry}
use Rattle.records.specs.writes.Handled.{handled_request}
use Rattle.records.specs.writes.Several.{is_several}
use Rattle.plans.specs.declared.parts.PlanRecord.{PlanRecord}
use Rattle.plans.specs.Plan.{AreShort}
use Rattle.relations.specs.declared.phase.Partner.{Partner}
use Rattle.relations.specs.declared.phase.Phase.TheVariants.{Started}
use Rattle.relations.specs.Phases.{restarted}
use Rattle.relations.specs.RelationState.{RelationState, uuid_of}
use Rattle.asked_records.specs.declared.names.RecordName.{RecordName}
use Rattle.device_core.specs.Several.{Judged, judged_each}
use Rattle.device_core.specs.Machine.{link_behind, statuses_of}
use Rattle.device_core.specs.State.{Station}
use Rattle.controller_messages.specs.declared.setup.Setup.{Setup}
use Rattle.controller_messages.specs.Requests.{entries_bytes, group_of, list_blocks, list_of, write_blocks, write_count, write_of, writing_blocks}
use Rattle.end_laws.specs.device.Does.{Stored, Written as Grown, WrittenEach}
use Rattle.end_laws.specs.device.Small.{IsWritingOf}
use Rattle.both_ends.specs.startup.Played.{IsParameter, IsPlaced}
use Rattle.both_ends.specs.startup.View.{rules_of, taken_for}
use Rattle.both_ends.proofs.StartupEach.{each_at}
use Rattle.both_ends.proofs.StartupLists.{list_can}
use Rattle.octets_law.specs.Octets.{statuses_in}
use Rattle.octets_law.proofs.WriteAnswers.{several_read}
use Rattle.octets_law.proofs.WriteCalls.{bind_ok}
use Rattle.octets_law.proofs.WriteJudged.{each_listed}
use Rattle.octets_law.proofs.WriteMarks.{numbers}
use Rattle.startup_octets.specs.StartUp.{Written, parameters_by}
use Rattle.startup_octets.proofs.Blocks.{IsBlockOf}
use Rattle.startup_octets.proofs.Exact.{AreFit, list_block, list_read, one_block, one_read, written_of}
use Rattle.startup_octets.proofs.Taking.{AreNotDone, IsGrown, IsStarted, all_refused, each_taken, granted_in, granted_none, keeping_more}

-- ---- lists

there_is : {A : Type 0} (all : List A) (number : ℕ) → number < length all → (one : A) × (slice_get all number ≡ Some one)
there_is [] number below = absurd (omega (arith, below))
there_is (one ∷ all) zero below = (one, refl)
there_is (one ∷ all) (suc number) below = there_is all number (omega (arith, below))

one_at : {A : Type 0} (all : List A) (number : ℕ) (one : A) → slice_get all number ≡ Some one → take 1 (drop number all) ≡ one ∷ []
one_at [] number one there = absurd cc
one_at (first ∷ all) zero one there = let e : first ≡ one = cc in ap (λ x. x ∷ []) e
one_at (first ∷ all) (suc number) one there = one_at all number one there

some_at : {A : Type 0} (all : List A) (number : ℕ) → number < length all → (one : A) × (more : List A) × (drop number all ≡ one ∷ more)
some_at [] number below = absurd (omega (arith, below))
some_at (one ∷ all) zero below = (one, all, refl)
some_at (one ∷ all) (suc number) below = some_at all number (omega (arith, below))

few_taken : {A : Type 0} (n : ℕ) (all : List A) → length (take n all) ≤ n
few_taken zero [] = omega arith
few_taken zero (one ∷ all) = omega arith
few_taken (suc n) [] = omega arith
few_taken (suc n) (one ∷ all) = omega (arith, few_taken n all)

each_taken_of : {A : Type 0} (P : A → Type 0) (n : ℕ) (all : List A) → AllByRecursion P all → AllByRecursion P (take n all)
each_taken_of P zero [] each = tt
each_taken_of P zero (one ∷ all) each = tt
each_taken_of P (suc n) [] each = tt
each_taken_of P (suc n) (one ∷ all) each = (each.0, each_taken_of P n all each.1)

each_dropped_of : {A : Type 0} (P : A → Type 0) (n : ℕ) (all : List A) → AllByRecursion P all → AllByRecursion P (drop n all)
each_dropped_of P zero [] each = tt
each_dropped_of P zero (one ∷ all) each = each
each_dropped_of P (suc n) [] each = tt
each_dropped_of P (suc n) (one ∷ all) each = each_dropped_of P n all each.1

mapped : (entries : List PlanRecord) → map (λ entry. Some (written_of (taken_for entry))) entries ≡ map (λ value. Some (written_of value)) (map taken_for entries)
mapped [] = refl
mapped (entry ∷ entries) = ap (λ l. Some (written_of (taken_for entry)) ∷ l) (mapped entries)

-- ---- a Write whose first block is known

ordered_ok : {A : Type 0} (judgements : List (Bool × CallFault)) (otherwise : Result A CallFault) (y : A) → in_order judgements otherwise ≡ Ok y → otherwise ≡ Ok y
ordered_ok [] otherwise y e = e
ordered_ok {A} (one ∷ others) otherwise y e =
    cond_both one.0 (Err one.1) (in_order others otherwise) (λ (r : Result A CallFault). r ≡ Ok y → otherwise ≡ Ok y) (λ _ e. absurd cc) (λ _ e. ordered_ok others otherwise y e) e

formed_ok : (came : Result (Block × List ℕ) BlockFault) (x : Block × List ℕ) → formed came ≡ Ok x → came ≡ Ok x
formed_ok (Ok value) x e = cc
formed_ok (Err why) x e = absurd cc

single_ok : (blocks : List ℕ) (x : Block × List ℕ) → single_of kind.IodWriteReq blocks ≡ Ok x → block_of blocks ≡ Ok x
unfolding single_of
single_ok blocks x e = formed_ok (block_of blocks) x (ordered_ok
    ((length blocks == 0, fault.BlockMissing) ∷ (nat_lt (length blocks) 4, fault.BlockHeader) ∷ (not (big_number 2 blocks == kind_number kind.IodWriteReq), fault.BlockType) ∷ []) (formed (block_of blocks)) x e)

same_read : (one other : Block × List ℕ) → ◌≡◌ {A = Result (Block × List ℕ) BlockFault} (Ok one) (Ok other) → one ≡ other
same_read one other e = cc

request_known : (standing : Option (List ℕ)) (real : Real) (blocks rest : List ℕ) (header : IodWriteReq) (writing : Writing) → block_of blocks ≡ Ok (is.IodWriteReq header, rest)
    → writing_of standing real blocks ≡ Ok writing → handled_writing standing real header rest ≡ Ok writing
unfolding writing_of
request_known standing real blocks rest header writing read e =
    let one = bind_ok (single_of kind.IodWriteReq blocks) (λ x. or_fault fault.BlockForm (in_iod_write_req x.0) >>= λ request. handled_writing standing real request x.1) writing e in
    let same : one.0 ≡ (is.IodWriteReq header, rest) = same_read one.0 (is.IodWriteReq header, rest) (sym (single_ok blocks one.0 one.1) ∙ read) in
    subst (λ (x : Block × List ℕ). (or_fault fault.BlockForm (in_iod_write_req x.0) >>= λ request. handled_writing standing real request x.1) ≡ Ok writing) same one.2

one_each : (write : Write) (header : IodWriteReq) (entries : List Entry) → ◌≡◌ {A = Result Writing CallFault} (Ok (One write)) (Ok (Each header entries)) → ⊥
one_each write header entries e = absurd cc

each_one : (header : IodWriteReq) (entries : List Entry) (write : Write) → ◌≡◌ {A = Result Writing CallFault} (Ok (Each header entries)) (Ok (One write)) → ⊥
each_one header entries write e = absurd cc

-- A header that is not that of a list asks for one record, and one of a list for a list.
no_each : (standing : Option (List ℕ)) (real : Real) (request : IodWriteReq) (rest : List ℕ) (header : IodWriteReq) (entries : List Entry) → is_several request ≡ false
    → handled_writing standing real request rest ≡ Ok (Each header entries) → ⊥
no_each standing real request rest header entries single e =
    let t = bind_ok (handled_request standing real request rest) (λ write. Ok (One write)) (Each header entries) (sym (cond-false (is_several request) _ _ single) ∙ e) in
    one_each t.0 header entries t.2

no_one : (standing : Option (List ℕ)) (real : Real) (request : IodWriteReq) (rest : List ℕ) (write : Write) → is_several request ≡ true
    → handled_writing standing real request rest ≡ Ok (One write) → ⊥
no_one standing real request rest write several e =
    let t = bind_ok (several_of standing request rest) (λ entries. Ok (Each request entries)) (One write) (sym (cond-true (is_several request) _ _ several) ∙ e) in
    each_one request t.0 write t.2

-- ---- what a Write of the plan does

-- The premises about a set-up.
pub record IsFit (setup : Setup) : Type 0 where
  pub named : length setup.ar ≡ 16
  pub few : length setup.plan.records.items ≤ 32
  pub fit : AllByRecursion (λ entry. IsParameter entry × IsPlaced entry × (length entry.data.items ≤ 64)) setup.plan.records.items

-- The law by which a block that is written is read.
abbrev pub AreBlocksRead : Type 0
AreBlocksRead = (block : Block) (rest : List ℕ) → CanBeWritten block → block_of (block_bytes block ++ rest) ≡ front block rest

-- The records that it adds, which are those that the statuses say.
pub record IsAdding (blocks octets : List ℕ) (relation : List ℕ) (before after : Option RelationState) : Type 0 where
  pub block : IsBlockOf 0x0008 relation blocks
  pub now : List TakenRecord
  pub grown : IsGrown before after now
  pub granted : granted_in (zip (parameters_by blocks) (0 ∷ statuses_in 16 (drop 64 octets))) ≡ map written_of now

abbrev pub IsWriteEffect : List RecordName → Real → List ℕ → List ℕ → Option RelationState → Option RelationState → Type 0
IsWriteEffect named real blocks octets before after =
    Grown real blocks before after ⊎ (Stored real blocks before after ⊎ WrittenEach named real blocks octets before after)

some_value : (one other : TakenRecord) → Keeps one ≡ Keeps other → one ≡ other
some_value one other e = cc

same_head : (one other : TakenRecord) (some more : List TakenRecord) → one ∷ some ≡ other ∷ more → one ≡ other
same_head one other some more e = cc

stores_keeps : (value : ImValue) (kept : TakenRecord) → Stores value ≡ Keeps kept → ⊥
stores_keeps value kept e = cc

restarted_more : (source : Partner) (link after : Option RelationState) (now : List TakenRecord) → IsGrown link after now → IsGrown link (option_map (restarted source) after) now
restarted_more source None after now grown = (ap (option_map (restarted source)) grown.0, grown.1)
restarted_more source (Some link) after now grown = (restarted source grown.0, ap (option_map (restarted source)) grown.1, grown.2, grown.3, grown.4)

module _ (undone : AreNotDone) (blocks_read : AreBlocksRead) (long : (block : Block) → length (block_bytes block) ≡ block_size block) (setup : Setup) (station : Station) (real : Real) (fit : IsFit setup) (number : ℕ)
    (listed : number < write_count setup.plan) where
  abbrev pub records : List PlanRecord
  records = setup.plan.records.items

  abbrev pub values : List TakenRecord
  values = map taken_for (group_of setup.plan number)

  -- What the Writes of the plan ask for.
  abbrev pub IsMeant : Option RelationState → List ℕ → Type 0
  IsMeant before blocks = (writing : Writing) → writing_of (uuid_of before) real blocks ≡ Ok writing → IsWritingOf (rules_of setup station) station.named real (uuid_of before) (suc number) values writing

  below_count : (b : Bool) (count : ℕ) → count ≤ 32 → number < cond b ((count + 9) / 10) count → number < 65535
  below_count true count few below = omega (arith, few, below)
  below_count false count few below = omega (arith, few, below)

  number_small : number < 65535
  number_small = below_count setup.plan.multiple_write (length records) fit.few listed

  module _ (octets : List ℕ) (before after : Option RelationState) (started : IsStarted before) where
    -- ---- one record

    module _ (single : setup.plan.multiple_write ≡ false) where
      inside : number < length records
      inside = subst (λ (count : ℕ). number < count) (ap (λ (b : Bool). cond b ((length records + 9) / 10) (length records)) single) listed

      abbrev entry : PlanRecord
      entry = (there_is records number inside).0

      there : slice_get records number ≡ Some entry
      there = (there_is records number inside).1

      good : IsParameter entry × IsPlaced entry × (length entry.data.items ≤ 64)
      good = each_at (λ (e : PlanRecord). IsParameter e × IsPlaced e × (length e.data.items ≤ 64)) records number entry fit.fit there

      blocks_are : writing_blocks setup number ≡ block_bytes (is.IodWriteReq (write_of setup number entry)) ++ entry.data.items
      blocks_are =
          ap (λ (b : Bool). cond b (list_blocks setup number (group_of setup.plan number)) (write_blocks setup number (slice_get records number))) single
          ∙ ap (λ (o : Option PlanRecord). write_blocks setup number o) there

      values_are : values ≡ taken_for entry ∷ []
      values_are = ap (map taken_for) (ap (λ (b : Bool). take (cond b 10 1) (drop (cond b (number * 10) number) records)) single ∙ one_at records number entry there)

      can : CanBeWritten (is.IodWriteReq (write_of setup number entry))
      can = record {
        header = record {
          seq_number = omega (arith, number_small);
          ar_uuid = fit.named;
          api = omega arith;
          slot_number = good.1.0;
          subslot_number = good.1.1;
          index = omega (arith, good.0);
          record_data_length = omega (arith, good.2);
        };
      }

      not_several : is_several (write_of setup number entry) ≡ false
      not_several = ap (λ (b : Bool). b && (0 == 0xFFFFFFFF && (entry.slot == 0xFFFF && entry.subslot == 0xFFFF))) (ne_eqb entry.index 0xE040 (λ same. omega (arith, good.0, same)))

      meant_value : (blocks : List ℕ) → IsMeant before blocks → (write : Write) → writing_of (uuid_of before) real blocks ≡ Ok (One write) → write.effect ≡ Keeps (taken_for entry)
      meant_value blocks meant write judged =
          let it = meant (One write) judged in
          it.2 ∙ ap (λ (v : TakenRecord). Keeps v) (sym (same_head (taken_for entry) it.0 [] [] (sym values_are ∙ it.1)))

      one_adds : IsMeant before (writing_blocks setup number) → IsWriteEffect station.named real (writing_blocks setup number) octets before after
          → IsAdding (writing_blocks setup number) octets setup.ar before after
      one_adds meant (inl it) =
          let value_is : it.value ≡ taken_for entry = some_value it.value (taken_for entry) (sym it.keeps ∙ meant_value (writing_blocks setup number) meant it.write it.judged) in
          let began : it.link.phase ≡ Started = subst IsStarted it.was started in
          record {
            block = subst (IsBlockOf 0x0008 setup.ar) (sym blocks_are) (one_block setup fit.named number entry good.0 good.1 good.2);
            now = it.value ∷ [];
            grown = subst (λ (b : Option RelationState). IsGrown b after (it.value ∷ [])) (sym it.was)
                (restarted it.source _, it.becomes, refl, refl, keeping_more it.value it.link it.more began it.kept);
            granted =
                ap (λ l. granted_in (zip (parameters_by l) (0 ∷ statuses_in 16 (drop 64 octets)))) blocks_are
                ∙ ap (λ l. granted_in (zip l (0 ∷ statuses_in 16 (drop 64 octets)))) (one_read setup fit.named number entry good.0 good.1 good.2)
                ∙ ap (λ v. written_of v ∷ []) (sym value_is);
          }
      one_adds meant (inr (inl it)) = absurd (stores_keeps it.value (taken_for entry) (sym it.stores ∙ meant_value (writing_blocks setup number) meant it.write it.judged))
      one_adds meant (inr (inr it)) =
          absurd (no_each (uuid_of before) real (write_of setup number entry) entry.data.items it.header it.entries not_several
          (request_known (uuid_of before) real (writing_blocks setup number) entry.data.items (write_of setup number entry) (Each it.header it.entries)
          (ap block_of blocks_are ∙ blocks_read (is.IodWriteReq (write_of setup number entry)) entry.data.items can) it.judged))

    -- ---- a list of records

    module _ (several : setup.plan.multiple_write ≡ true) where
      more_left : (n count : ℕ) → n < (count + 9) / 10 → n * 10 < count
      more_left n count below = omega (arith, below)

      inside_list : number * 10 < length records
      inside_list = more_left number (length records) (subst (λ (count : ℕ). number < count) (ap (λ (b : Bool). cond b ((length records + 9) / 10) (length records)) several) listed)

      abbrev first : PlanRecord
      first = (some_at records (number * 10) inside_list).0

      abbrev others : List PlanRecord
      others = take 9 (some_at records (number * 10) inside_list).1

      group_is : group_of setup.plan number ≡ first ∷ others
      group_is =
          ap (λ (b : Bool). take (cond b 10 1) (drop (cond b (number * 10) number) records)) several
          ∙ ap (take 10) (some_at records (number * 10) inside_list).2

      all_fit : AreFit setup fit.named number (first ∷ others)
      all_fit = subst (AreFit setup fit.named number) group_is
          (subst (λ (b : Bool). AreFit setup fit.named number (take (cond b 10 1) (drop (cond b (number * 10) number) records))) (sym several)
          (each_taken_of _ 10 (drop (number * 10) records) (each_dropped_of _ (number * 10) records fit.fit)))

      list_is : writing_blocks setup number ≡ list_blocks setup number (first ∷ others)
      list_is =
          ap (λ (b : Bool). cond b (list_blocks setup number (group_of setup.plan number)) (write_blocks setup number (slice_get records number))) several
          ∙ ap (list_blocks setup number) group_is

      few_listed : length (first ∷ others) ≤ 10
      few_listed = omega (arith, few_taken 9 (some_at records (number * 10) inside_list).1)

      short_each : (entries : List PlanRecord) → AreFit setup fit.named number entries → AreShort entries
      short_each [] each = tt
      short_each (one ∷ entries) each = (each.0.2, short_each entries each.1)

      abbrev inside_octets : List ℕ
      inside_octets = entries_bytes setup number (first ∷ others)

      abbrev header : IodWriteReq
      header = list_of setup number (length inside_octets)

      can_list : IsRecord header.header
      can_list = list_can blocks_read setup number long (first ∷ others) fit.named (omega (arith, number_small)) few_listed (short_each (first ∷ others) all_fit)

      known : (writing : Writing) → writing_of (uuid_of before) real (writing_blocks setup number) ≡ Ok writing
          → handled_writing (uuid_of before) real header inside_octets ≡ Ok writing
      known writing e =
          request_known (uuid_of before) real (writing_blocks setup number) inside_octets header writing
          (ap block_of list_is ∙ blocks_read (is.IodWriteReq header) inside_octets (record { header = can_list })) e

      list_adds : IsMeant before (writing_blocks setup number) → IsWriteEffect station.named real (writing_blocks setup number) octets before after
          → IsAdding (writing_blocks setup number) octets setup.ar before after
      list_adds meant (inl it) = absurd (no_one (uuid_of before) real header inside_octets it.write refl (known (One it.write) it.judged))
      list_adds meant (inr (inl it)) = absurd (no_one (uuid_of before) real header inside_octets it.write refl (known (One it.write) it.judged))
      list_adds meant (inr (inr it)) =
          let judged : List Judged = judged_each station.named (uuid_of before) real it.entries in
          let each = each_taken undone judged values it.answers before (meant (Each it.header it.entries) it.judged).0
          (all_refused undone station.named (uuid_of before) real it.entries) started in
          let list = each_listed station.named (uuid_of before) real (writing_blocks setup number) it.header it.entries it.judged in
          let told : statuses_in 16 (drop 64 octets) ≡ numbers (statuses_of judged it.answers before) =
          ap (λ l. statuses_in 16 (drop 64 l)) it.tells ∙ several_read it.header judged it.answers before list.wide list.judged list.few in
          let carried : List (Option Written) = map (λ value. Some (written_of value)) values in
          let reads : parameters_by (writing_blocks setup number) ≡ None ∷ carried =
          ap parameters_by list_is ∙ list_read setup fit.named number first others all_fit (omega (arith, few_listed)) can_list.record_data_length
          ∙ ap (λ l. None ∷ l) (mapped (first ∷ others) ∙ ap (λ (l : List PlanRecord). map (λ value. Some (written_of value)) (map taken_for l)) (sym group_is)) in
          record {
            block = subst (IsBlockOf 0x0008 setup.ar) (sym list_is) (list_block setup fit.named number first others can_list.record_data_length);
            now = each.now;
            grown = subst (λ (a : Option RelationState). IsGrown before a each.now) (sym it.carried) (restarted_more it.source before (link_behind judged before) each.now each.grown);
            granted =
                ap (λ l. granted_in (zip l (0 ∷ statuses_in 16 (drop 64 octets)))) reads
                ∙ ap (λ l. granted_in ((None, 0) ∷ zip carried l)) told
                ∙ granted_none 0 (zip carried (numbers (statuses_of judged it.answers before)))
                ∙ each.granted;
          }

    -- The records that a Write adds.
    pub write_adds : IsMeant before (writing_blocks setup number) → IsWriteEffect station.named real (writing_blocks setup number) octets before after
        → IsAdding (writing_blocks setup number) octets setup.ar before after
    write_adds meant effect = by_kind setup.plan.multiple_write refl
      where
        by_kind : (b : Bool) → setup.plan.multiple_write ≡ b → IsAdding (writing_blocks setup number) octets setup.ar before after
        by_kind true several = list_adds several meant effect
        by_kind false single = one_adds single meant effect
