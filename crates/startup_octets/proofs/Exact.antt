-- The calls of a controller, and the records that the blocks of its Writes carry, read at fixed places.
use Rattle.std.proofs.Common.{◌≡◌, inl, inr, ◌≤◌, ◌<◌, ◌==◌, ◌&&◌, ◌+◌, ◌-◌, ◌*◌, ◌/◌, ℕ, zero, suc, true, false, List, [], ◌∷◌, ◌++◌, length, take, drop, map, replicate, nat_lt, nat_eq, Option, Some, None, refl, sym, ap, subst, ◌∙◌, arith, append_assoc}
use Rattle.std.proofs.lemmas.Bool.{and_parts, cond-false, cond-true, ltb-true, ne_eqb}
use Rattle.std.proofs.lemmas.List.{append-nil, drop_at, length-append}
use Rattle.std.specs.List.{AllByRecursion}
use Rattle.std.specs.Cmp.Lexicographic.{pointwise, same_text}
use Rattle.frame_codec.specs.declared.udp.Caller.{Caller}
use Rattle.rpc_core.specs.Call.{Asked as Called}
use Rattle.block_codec.specs.declared.block.Block.TheVariants as variant
use Rattle.block_codec.specs.Block.{block_bytes}
use Rattle.record_blocks.specs.declared.write_record.IodWriteReq.{IodWriteReq}
use Rattle.records.specs.declared.status.operation.Operation.{Operation}
use Rattle.records.specs.declared.status.operation.Operation.TheVariants as operation
use Rattle.records.specs.status.Operation.{operation_of}
use Rattle.records.specs.declared.writes.taken.TakenRecord.{TakenRecord}
use Rattle.plans.specs.declared.parts.PlanRecord.{PlanRecord}
use Rattle.plans.specs.Connect.{connect_of}
use Rattle.controller_messages.specs.declared.plug_request.PlugStep.{PlugStep}
use Rattle.controller_messages.specs.declared.plug_request.PlugStep.TheVariants as plug_step
use Rattle.controller_messages.specs.declared.record_request.RecordService.{RecordService}
use Rattle.controller_messages.specs.declared.record_request.RecordService.TheVariants as service
use Rattle.controller_messages.specs.declared.request.Request.{Request}
use Rattle.controller_messages.specs.declared.request.Request.TheVariants as asks
use Rattle.controller_messages.specs.declared.setup.Setup.{Setup}
use Rattle.controller_messages.specs.PlugRequests.{plug_blocks, plug_operation}
use Rattle.controller_messages.specs.RecordRequests.{record_blocks, service_operation}
use Rattle.controller_messages.specs.Requests.{blocks_of, call_for, control_of, entries_bytes, list_blocks, list_of, operation_of as number_for, padding_of, write_count, write_of, writing_blocks}
use Rattle.end_laws.specs.hearing.Stations.{IsCalled}
use Rattle.both_ends.specs.startup.Played.{IsParameter, IsPlaced}
use Rattle.end_laws.specs.device.Small.{number_in as write_in}
use Rattle.both_ends.specs.startup.View.{is_planned, taken_for}
use Rattle.both_ends.proofs.StartupHeard.{IsKnownCall, IsListed}
use Rattle.octets_law.specs.Octets.{number as number_in}
use Rattle.startup_octets.specs.StartUp.{Written, parameter_in, parameters_by, parameters_in}
use Rattle.startup_octets.proofs.Blocks.{IsBlockOf, IsWriteHeader, parameter_read, parameters_step, write_read}
use Rattle.startup_octets.proofs.PlugEnds.{IsPlugEnd}

-- A record that a relation accepted.
abbrev pub written_of : TakenRecord → Written
written_of taken = record { slot = taken.slot; subslot = taken.subslot; index = taken.index; octets = taken.value.items }

-- ---- which call it is

module _ (setup : Setup) where
  -- The blocks of a Write are those of the plan's Write with a number.
  pub record IsOfPlan (blocks : List ℕ) : Type 0 where
    pub number : ℕ
    pub numbered : write_in blocks ≡ number
    pub listed : number < write_count setup.plan
    pub is : blocks ≡ writing_blocks setup number

  abbrev pub IsExact : ℕ → Operation → List ℕ → Type 0
  IsExact sequence operation.Connect blocks = blocks ≡ connect_of setup.plan setup.ar
  IsExact sequence operation.Write blocks = Unit {0}
  IsExact sequence operation.Control blocks = blocks ≡ block_bytes (variant.PrmEnd (control_of setup 1))
  IsExact sequence operation.Release blocks = Unit {0}
  IsExact sequence operation.Read blocks = Unit {0}
  IsExact sequence operation.ReadImplicit blocks = Unit {0}

  some_operation : (one other : Operation) → Some one ≡ Some other → one ≡ other
  some_operation one other e = cc

  some_blocks : (one other : List ℕ) → Some one ≡ Some other → one ≡ other
  some_blocks one other e = cc

  own_exact : (request : Request) → IsCalled request → IsListed setup.plan request → (which : Operation) → operation_of (number_for request) ≡ Some which
      → IsExact (call_for setup request).header.sequence which (blocks_of setup request)
  unfolding operation_of
  own_exact asks.Identify called listed which is = absurd called
  own_exact asks.Address called listed which is = absurd called
  own_exact asks.Connect called listed which is = subst (λ w. IsExact 0 w (connect_of setup.plan setup.ar)) (some_operation operation.Connect which is) refl
  own_exact (asks.Write number) called listed which is =
      subst (λ w. IsExact (number + 1) w (writing_blocks setup number)) (some_operation operation.Write which is) tt
  own_exact (asks.WriteAfter number tries) called listed which is =
      subst (λ w. IsExact (number + tries + 1) w (writing_blocks setup number)) (some_operation operation.Write which is) tt
  own_exact (asks.PrmEndAfter tries) called listed which is =
      subst (λ w. IsExact (write_count setup.plan + tries + 1) w (block_bytes (variant.PrmEnd (control_of setup 1)))) (some_operation operation.Control which is) refl
  own_exact asks.PrmEnd called listed which is =
      subst (λ w. IsExact (write_count setup.plan + 1) w (block_bytes (variant.PrmEnd (control_of setup 1)))) (some_operation operation.Control which is) refl
  own_exact (asks.Release sequence) called listed which is =
      subst (λ w. IsExact sequence w (block_bytes (variant.Release (control_of setup 4)))) (some_operation operation.Release which is) tt

  -- A Write of the plan.
  pub planned_exact : (sequence : ℕ) (blocks : List ℕ) → is_planned setup sequence blocks ≡ true → IsOfPlan blocks
  planned_exact sequence blocks e =
      let number = write_in blocks in
      let same = pointwise nat_eq blocks (writing_blocks setup number) in
      let parts = and_parts (nat_lt number (write_count setup.plan)) (same && nat_lt number sequence) e in
      record {
        number = number;
        numbered = refl;
        listed = ltb-true number (write_count setup.plan) parts.0;
        is = same_text blocks (writing_blocks setup number) (sym (and_parts same (nat_lt number sequence) parts.1).0);
      }

  access_exact : (kind : RecordService) (sequence : ℕ) (blocks : List ℕ) (which : Operation) → operation_of (service_operation kind) ≡ Some which → IsExact sequence which blocks
  unfolding operation_of
  access_exact service.Read sequence blocks which is = subst (λ w. IsExact sequence w blocks) (some_operation operation.Read which is) tt
  access_exact service.Write sequence blocks which is =
      subst (λ w. IsExact sequence w blocks) (some_operation operation.Write which is) tt

  -- A Write after a plug; PrmEnd after a plug is left out.
  plug_exact : (step : PlugStep) (sequence : ℕ) (blocks : List ℕ) (which : Operation) → (step ≡ plug_step.PrmEnd → ⊥) → operation_of (plug_operation step) ≡ Some which → IsExact sequence which blocks
  unfolding operation_of
  plug_exact (plug_step.Record number) sequence blocks which no_end is = subst (λ w. IsExact sequence w blocks) (some_operation operation.Write which is) tt
  plug_exact plug_step.PrmEnd sequence blocks which no_end is = absurd (no_end refl)

  pub exact_of : (caller : Caller) (call : Called) → IsKnownCall setup caller call → (IsPlugEnd setup call → ⊥) → (which : Operation) → operation_of call.header.operation ≡ Some which
      → (blocks : List ℕ) → call.blocks ≡ Some blocks → IsExact call.header.sequence which blocks
  exact_of caller call (inl own) no_end which asks blocks counted =
      let same : blocks_of setup own.request ≡ blocks = some_blocks _ _ (sym (ap (λ (c : Called). c.blocks) own.is) ∙ counted) in
      subst (λ (n : ℕ). IsExact n which blocks) (sym (ap (λ (c : Called). c.header.sequence) own.is))
      (subst (λ (l : List ℕ). IsExact (call_for setup own.request).header.sequence which l) same
      (own_exact own.request own.called own.listed which (sym (ap (λ (c : Called). operation_of c.header.operation) own.is) ∙ asks)))
  exact_of caller call (inr (inl access)) no_end which asks blocks counted =
      let same : record_blocks setup access.request access.octets access.request.service ≡ blocks =
      some_blocks _ _ (sym (ap (λ (c : Called). c.blocks) access.is) ∙ counted) in
      subst (λ (n : ℕ). IsExact n which blocks) (sym (ap (λ (c : Called). c.header.sequence) access.is))
      (subst (λ (l : List ℕ). IsExact access.request.sequence which l) same
      (access_exact access.request.service access.request.sequence _ which (sym (ap (λ (c : Called). operation_of c.header.operation) access.is) ∙ asks)))
  exact_of caller call (inr (inr plugged)) no_end which asks blocks counted =
      let same : plug_blocks setup plugged.request plugged.request.step ≡ blocks = some_blocks _ _ (sym (ap (λ (c : Called). c.blocks) plugged.is) ∙ counted) in
      subst (λ (n : ℕ). IsExact n which blocks) (sym (ap (λ (c : Called). c.header.sequence) plugged.is))
      (subst (λ (l : List ℕ). IsExact plugged.request.sequence which l) same
      (plug_exact plugged.request.step plugged.request.sequence _ which (λ ends. no_end (record { request = plugged.request; ends = ends; is = plugged.is }))
      (sym (ap (λ (c : Called). operation_of c.header.operation) plugged.is) ∙ asks)))

  -- ---- the records of a Write

  module _ (named : length setup.ar ≡ 16) (number : ℕ) where
    abbrev pub asked : PlanRecord → IodWriteReq
    asked entry = write_of setup number entry

    entry_header : (entry : PlanRecord) (rest : List ℕ) → IsParameter entry → IsPlaced entry → length entry.data.items ≤ 64
        → IsWriteHeader (asked entry) (block_bytes (variant.IodWriteReq (asked entry)) ++ rest) rest
    entry_header entry rest below fits short = write_read (asked entry) rest named fits.0 fits.1 (omega (arith, below)) (omega (arith, short))

    -- The first record of octets.
    entry_read : (entry : PlanRecord) (rest : List ℕ) → IsParameter entry → IsPlaced entry → length entry.data.items ≤ 64
        → parameter_in (block_bytes (variant.IodWriteReq (asked entry)) ++ (entry.data.items ++ rest)) ≡ Some (written_of (taken_for entry))
    entry_read entry rest below fits short =
        parameter_read (asked entry) _ entry.data.items rest (entry_header entry (entry.data.items ++ rest) below fits short) below refl

    -- ---- a list of records

    abbrev pub AreFit : List PlanRecord → Type 0
    AreFit entries = AllByRecursion (λ entry. IsParameter entry × IsPlaced entry × (length entry.data.items ≤ 64)) entries

    take_padding : (n : ℕ) (zeros : List ℕ) → n ≤ length zeros → length (take n zeros) ≡ n
    take_padding zero [] few = refl
    take_padding zero (x ∷ zeros) few = refl
    take_padding (suc n) [] few = absurd (omega (arith, few))
    take_padding (suc n) (x ∷ zeros) few = omega (arith, take_padding n zeros (omega (arith, few)))

    padded_is : (size : ℕ) → size + length (padding_of size) ≡ (size + 3) / 4 * 4
    padded_is size =
        let zeros : List ℕ = replicate 3 0 in
        let few : (size + 3) / 4 * 4 - size ≤ 3 = omega arith in
        omega (arith, take_padding ((size + 3) / 4 * 4 - size) zeros few)

    shape : (front octets padding rest : List ℕ) → ((front ++ octets) ++ padding) ++ rest ≡ front ++ (octets ++ (padding ++ rest))
    shape front octets padding rest = append_assoc (front ++ octets) padding rest ∙ append_assoc front octets (padding ++ rest)

    same_list : (one other : Option Written) (some more : List (Option Written)) → one ≡ other → some ≡ more → one ∷ some ≡ other ∷ more
    same_list one other some more a b = cc

    entries_read : (most : ℕ) (entries : List PlanRecord) → AreFit entries → length entries ≤ most
        → parameters_in most (entries_bytes setup number entries) ≡ map (λ entry. Some (written_of (taken_for entry))) entries
    entries_read zero [] fit few = refl
    entries_read (suc most) [] fit few = refl
    entries_read zero (entry ∷ entries) fit few = absurd (omega (arith, few))
    entries_read (suc most) (entry ∷ entries) fit few =
        let octets_of : List ℕ = entry.data.items in
        let padding : List ℕ = padding_of (length octets_of) in
        let more : List ℕ = entries_bytes setup number entries in
        let rest : List ℕ = octets_of ++ (padding ++ more) in
        let octets : List ℕ = block_bytes (variant.IodWriteReq (asked entry)) ++ rest in
        let it = entry_header entry rest fit.0.0 fit.0.1 fit.0.2 in
        let size : ℕ = (length octets_of + 3) / 4 * 4 in
        let next : drop (64 + (number_in 36 4 octets + 3) / 4 * 4) octets ≡ more =
        ap (λ n. drop (64 + (n + 3) / 4 * 4) octets) it.count ∙ it.behind size
        ∙ ap (drop size) (sym (append_assoc octets_of padding more)) ∙ drop_at (octets_of ++ padding) more size (length-append octets_of padding ∙ padded_is (length octets_of)) in
        ap (parameters_in (suc most)) (shape (block_bytes (variant.IodWriteReq (asked entry))) octets_of padding more)
        ∙ parameters_step most (asked entry) rest
        ∙ same_list _ _ _ _ (entry_read entry (padding ++ more) fit.0.0 fit.0.1 fit.0.2) (ap (parameters_in most) next ∙ entries_read most entries fit.1 (omega (arith, few)))

    differs : (index other : ℕ) → index < other → (index == other) ≡ false
    differs index other below = ne_eqb index other (λ same. omega (arith, below, same))

    -- A Write of one record.
    pub one_read : (entry : PlanRecord) → IsParameter entry → IsPlaced entry → length entry.data.items ≤ 64
        → parameters_by (block_bytes (variant.IodWriteReq (asked entry)) ++ entry.data.items) ≡ Some (written_of (taken_for entry)) ∷ []
    one_read entry below fits short =
        let octets : List ℕ = block_bytes (variant.IodWriteReq (asked entry)) ++ entry.data.items in
        let it = entry_header entry entry.data.items below fits short in
        cond-false (number_in 34 2 octets == 0xE040) _ _ (ap (λ n. n == 0xE040) it.index ∙ differs entry.index 0xE040 (omega (arith, below)))
        ∙ ap (λ r. r ∷ []) (ap (λ l. parameter_in (block_bytes (variant.IodWriteReq (asked entry)) ++ l)) (sym (append-nil entry.data.items)) ∙ entry_read entry [] below fits short)

    pub one_block : (entry : PlanRecord) → IsParameter entry → IsPlaced entry → length entry.data.items ≤ 64
        → IsBlockOf 0x0008 setup.ar (block_bytes (variant.IodWriteReq (asked entry)) ++ entry.data.items)
    one_block entry below fits short = (entry_header entry entry.data.items below fits short).block

    -- A Write of several.
    list_header : (octets : List ℕ) → length octets < 4294967296
        → IsWriteHeader (list_of setup number (length octets)) (block_bytes (variant.IodWriteReq (list_of setup number (length octets))) ++ octets) octets
    list_header octets few = write_read (list_of setup number (length octets)) octets named (omega arith) (omega arith) (omega arith) few

    pub list_read : (entry : PlanRecord) (entries : List PlanRecord) → AreFit (entry ∷ entries) → length (entry ∷ entries) ≤ 16
        → length (entries_bytes setup number (entry ∷ entries)) < 4294967296
        → parameters_by (list_blocks setup number (entry ∷ entries)) ≡ None ∷ map (λ entry. Some (written_of (taken_for entry))) (entry ∷ entries)
    list_read entry entries fit few short =
        let inside : List ℕ = entries_bytes setup number (entry ∷ entries) in
        let octets : List ℕ = list_blocks setup number (entry ∷ entries) in
        let it = list_header inside short in
        cond-true (number_in 34 2 octets == 0xE040) _ _ (ap (λ n. n == 0xE040) it.index)
        ∙ ap (λ l. None ∷ l) (ap (parameters_in 16) (it.behind 0) ∙ entries_read 16 (entry ∷ entries) fit few)

    pub list_block : (entry : PlanRecord) (entries : List PlanRecord) → length (entries_bytes setup number (entry ∷ entries)) < 4294967296
        → IsBlockOf 0x0008 setup.ar (list_blocks setup number (entry ∷ entries))
    list_block entry entries short = (list_header (entries_bytes setup number (entry ∷ entries)) short).block
