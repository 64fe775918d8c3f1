-- Calls that do not name a relation leave it.
use Rattle.std.proofs.Common.{◌≡◌, ◌&&◌, ℕ, Bool, true, false, not, nat_eq, List, [], ◌∷◌, Option, Some, None, Result, Ok, Err, refl, ap, subst, if◌then◌else◌}
use Rattle.std.proofs.lemmas.Bool.{cond_both, cond-false, cond-true}
use Rattle.std.specs.Cmp.Lexicographic.{pointwise}
use Rattle.pn_values.specs.declared.mac.Mac.{Mac}
use Rattle.pn_values.specs.declared.real.Real.{Real}
use Rattle.pn_values.specs.declared.identity.Identity.{Identity}
use Rattle.pn_values.specs.declared.settings.Settings.{Settings}
use Rattle.wire.specs.Codec.{◌>>=◌}
use Rattle.wire.specs.Checks.{or_fault}
use Rattle.block_codec.specs.declared.block_type.BlockType.TheVariants as kind
use Rattle.block_codec.specs.Block.{in_iod_write_req}
use Rattle.connect_blocks.specs.declared.control.ControlBlock.{ControlBlock}
use Rattle.connect_blocks.specs.declared.plug_control.PlugControlBlock.{PlugControlBlock}
use Rattle.connect_blocks.specs.PlugControl.{plug_control}
use Rattle.record_blocks.specs.declared.read_record.IodReadReq.{IodReadReq}
use Rattle.record_blocks.specs.declared.write_record.IodWriteReq.{IodWriteReq}
use Rattle.expected_places.specs.declared.calls.PlugCall.{PlugCall}
use Rattle.rpc_core.specs.Response.{Answered}
use Rattle.records.specs.declared.status.call_fault.CallFault.{CallFault}
use Rattle.records.specs.declared.status.call_fault.CallFault.TheVariants as fault
use Rattle.records.specs.declared.writes.writing.Writing.{Writing}
use Rattle.records.specs.calls.Naming.{in_relation, is_relation}
use Rattle.records.specs.calls.Single.{single_of}
use Rattle.records.specs.reads.Handled.{request_of}
use Rattle.records.specs.reads.Within.{is_named as is_named_by, names_relation, request_within as read_within}
use Rattle.records.specs.writes.Asked.{handled_writing, several_of, writing_of}
use Rattle.records.specs.writes.Handled.{handled_request as handled_record, targeted}
use Rattle.records.specs.writes.Several.{is_several}
use Rattle.connects.specs.declared.requests.parts.Ar.{Ar}
use Rattle.connects.specs.requests.Handled.{admitted, any_short, ar_in, request_behind, request_in, request_of as connect_request, request_within}
use Rattle.connects.specs.requests.Pieces.{Piece, pieces_of}
use Rattle.connects.specs.requests.Request.{Request}
use Rattle.relations.specs.declared.options.DeviceOptions.{DeviceOptions}
use Rattle.relations.specs.declared.phase.Partner.{Partner}
use Rattle.relations.specs.exchange.Marks.{Starting}
use Rattle.relations.specs.Calls.{control_block, in_started, named_of, prm_end_of, release_of}
use Rattle.relations.specs.Connect.{connect_answer, connect_blocks, connect_within, differing_of, making}
use Rattle.relations.specs.Phases.{Ended, answered, updated}
use Rattle.relations.specs.declared.plugging.PlugAnswer.TheVariants as to_plug
use Rattle.relations.specs.Plugging.{answer_to, block_in, is_plug_answer, plug_answer_in, plug_end_in, plug_named, plug_told}
use Rattle.relations.specs.RelationState.{RelationState, uuid_of}
use Rattle.device_core.specs.State.{Rest}
use Rattle.device_core.specs.Handled.{counted_by}
use Rattle.device_records.specs.Reading.{relation_read}
use Rattle.device_records.specs.Sources.{Known}
use Rattle.strangers_law.proofs.Harmless.{Names}
use Rattle.strangers_law.proofs.Blocks.{header_named, plug_end_named, prm_end_named, release_named, request_named}
use Rattle.octets_law.specs.Octets.{part}
use Rattle.octets_law.proofs.WriteCalls.{bind_ok, fault_ok}

-- ---- calls that do not name the relation

pub unnamed : (link : RelationState) (blocks uuid : List ℕ) → Names link blocks ≡ false → part 8 16 blocks ≡ uuid → is_relation (uuid_of (Some link)) uuid ≡ false
unnamed link blocks uuid other at = subst (λ l. pointwise nat_eq link.request.ar.uuid l ≡ false) at other

pub refused_in : (standing : Option (List ℕ)) (uuid : List ℕ) → is_relation standing uuid ≡ false → in_relation standing uuid ≡ Ok tt → ⊥
unfolding in_relation
refused_in standing uuid other e =
    let no : (not (is_relation standing uuid)) ≡ true = ap not other in
    let refused : Result (Unit {0}) CallFault = Err fault.UnknownRelation in
    let fine : Result (Unit {0}) CallFault = Ok tt in
    let r : (if not (is_relation standing uuid) then refused else fine) ≡ refused = cond-true _ refused fine no in
    absurd cc

pub refused_relation : (link : RelationState) (blocks uuid : List ℕ) → Names link blocks ≡ false → part 8 16 blocks ≡ uuid
    → in_relation (uuid_of (Some link)) uuid ≡ Ok tt → ⊥
refused_relation link blocks uuid other at e = refused_in (uuid_of (Some link)) uuid (unnamed link blocks uuid other at) e

pub no_connect : (uuid : List ℕ) (pieces : List Piece) (request : Request) → request_in (Some uuid) pieces ≡ Ok request → ⊥
unfolding request_in
no_connect uuid [] request e = absurd cc
no_connect uuid (piece ∷ pieces) request e = by_ar (ar_in piece) e
  where
    by_ar : (r : Result Ar CallFault) → (r >>= λ ar. admitted (Some uuid) ar >>= λ _. request_behind ar pieces) ≡ Ok request → ⊥
    by_ar (Ok ar) e = absurd cc
    by_ar (Err why) e = absurd cc

pub no_request : (smallest : ℕ) (uuid blocks : List ℕ) (request : Request) → request_within smallest (Some uuid) blocks ≡ Ok request → ⊥
unfolding request_within any_short connect_request
no_request smallest uuid blocks request e = no_connect uuid (pieces_of blocks) request e

-- While a relation exists no Connect makes another one.
pub connect_still : (real : Real) (partner : Partner) (options : DeviceOptions) (starting : Starting) (mac : Mac) (link : RelationState) (blocks : List ℕ)
    → updated (making real partner options starting (connect_within options mac (Some link) blocks)) (Some link) ≡ Some link
connect_still real partner options starting mac link blocks = by_result (connect_within options mac (Some link) blocks) refl
  where
    by_result : (r : Result Request CallFault) → connect_within options mac (Some link) blocks ≡ r → updated (making real partner options starting r) (Some link) ≡ Some link
    by_result (Ok request) is = absurd (no_request options.smallest_interval link.request.ar.uuid blocks request is)
    by_result (Err why) is = refl

-- And it is not counted.
pub connect_uncounted : (identity : Identity) (real : Real) (options : DeviceOptions) (number : ℕ) (mac : Mac) (link : RelationState) (blocks : List ℕ) (rest : Rest)
    → (counted_by (connect_answer identity real options number mac (Some link) blocks) rest).made ≡ rest.made
connect_uncounted identity real options number mac link blocks rest = by_result (connect_within options mac (Some link) blocks) refl
  where
    by_result : (r : Result Request CallFault) → connect_within options mac (Some link) blocks ≡ r
        → (counted_by (r >>= λ request. Ok (connect_blocks identity number request (differing_of request real))) rest).made ≡ rest.made
    by_result (Ok request) is = absurd (no_request options.smallest_interval link.request.ar.uuid blocks request is)
    by_result (Err why) is = refl

named_refused : (link : RelationState) (blocks : List ℕ) (block : ControlBlock) (command : ℕ) → Names link blocks ≡ false → part 8 16 blocks ≡ block.ar_uuid
    → named_of (Some link) block command ≡ Err fault.UnknownRelation
named_refused link blocks block command other at = cond-true _ _ _ (ap not (unnamed link blocks block.ar_uuid other at))

pub no_release : (link : RelationState) (blocks : List ℕ) (block : ControlBlock) → Names link blocks ≡ false → release_of (Some link) blocks ≡ Ok block → ⊥
unfolding release_of
no_release link blocks block other e =
    let one = bind_ok (control_block kind.Release blocks) (λ block. named_of (Some link) block 4 >>= λ _. Ok block) block e in
    let two = bind_ok (named_of (Some link) one.0 4) (λ _. Ok one.0) block one.2 in
    let refused = named_refused link blocks one.0 4 other (release_named blocks one.0 one.1) in
    let is = two.1 in absurd cc

pub release_still : (link : RelationState) (blocks : List ℕ) → Names link blocks ≡ false → updated (answered Ended (release_of (Some link) blocks)) (Some link) ≡ Some link
release_still link blocks other = by_result (release_of (Some link) blocks) refl
  where
    by_result : (r : Result ControlBlock CallFault) → release_of (Some link) blocks ≡ r → updated (answered Ended r) (Some link) ≡ Some link
    by_result (Ok block) is = absurd (no_release link blocks block other is)
    by_result (Err why) is = refl

pub record IsNoEnd (link : RelationState) (blocks : List ℕ) : Type 0 where
  pub why : CallFault
  pub is : prm_end_of (Some link) blocks ≡ Err why

pub no_prm_end : (link : RelationState) (blocks : List ℕ) → Names link blocks ≡ false → IsNoEnd link blocks
unfolding prm_end_of
no_prm_end link blocks other = by_result (prm_end_of (Some link) blocks) refl
  where
    by_result : (r : Result ControlBlock CallFault) → prm_end_of (Some link) blocks ≡ r → IsNoEnd link blocks
    by_result (Err why) is = record { why = why; is = is }
    by_result (Ok block) e =
        let one = bind_ok (control_block kind.PrmEnd blocks) (λ block. named_of (Some link) block 1 >>= λ _. in_started (Some link) >>= λ _. Ok block) block e in
        let two = bind_ok (named_of (Some link) one.0 1) (λ _. in_started (Some link) >>= λ _. Ok one.0) block one.2 in
        let refused = named_refused link blocks one.0 1 other (prm_end_named blocks one.0 one.1) in
        let is = two.1 in absurd cc

-- A PrmEnd after a plug.
plug_refused : (link : RelationState) (blocks : List ℕ) (block : PlugControlBlock) → Names link blocks ≡ false → part 8 16 blocks ≡ block.ar_uuid
    → plug_named (Some link) block ≡ Err fault.UnknownRelation
plug_refused link blocks block other at = cond-true _ _ _ (ap not (unnamed link blocks block.ar_uuid other at))

pub record IsNoPlugEnd (link : RelationState) (blocks : List ℕ) : Type 0 where
  pub why : CallFault
  pub is : plug_end_in blocks (Some link) ≡ Err why

pub no_plug_end : (link : RelationState) (blocks : List ℕ) → Names link blocks ≡ false → IsNoPlugEnd link blocks
unfolding plug_end_in
no_plug_end link blocks other = by_result (plug_end_in blocks (Some link)) refl
  where
    by_result : (r : Result PlugControlBlock CallFault) → plug_end_in blocks (Some link) ≡ r → IsNoPlugEnd link blocks
    by_result (Err why) is = record { why = why; is = is }
    by_result (Ok block) e =
        let one = bind_ok (block_in ((plug_control 0x0111).read blocks)) (λ block. plug_named (Some link) block >>= λ _. plug_told (Some link) block >>= λ _. Ok block) block e in
        let two = bind_ok (plug_named (Some link) one.0) (λ _. plug_told (Some link) one.0 >>= λ _. Ok one.0) block one.2 in
        let refused = plug_refused link blocks one.0 other (plug_end_named blocks one.0 one.1) in
        let is = two.1 in absurd cc

-- A response to another call answers no ApplicationReady of a plug.
pub plug_unwanted : (response : Answered) (link : RelationState) → pointwise nat_eq response.header.activity link.request.ar.uuid ≡ false
    → plug_answer_in response (Some link) ≡ to_plug.NotWanted
plug_unwanted response link other = by_call link.plugs.calls.standing
  where
    first_not : (a b : Bool) → a ≡ false → a && b ≡ false
    first_not true b is = absurd cc
    first_not false b is = refl

    by_call : (call : Option PlugCall) → answer_to link.request.ar.uuid call response ≡ to_plug.NotWanted
    by_call None = refl
    by_call (Some call) = cond-false (is_plug_answer link.request.ar.uuid call response.header) _ _
        (first_not (pointwise nat_eq response.header.activity link.request.ar.uuid) _ other)

pub no_read : (known : Known) (identity : Identity) (real : Real) (settings : Settings) (link : RelationState) (blocks octets : List ℕ) → known.link ≡ Some link → Names link blocks ≡ false
    → relation_read known identity real settings blocks ≡ Ok octets → ⊥
unfolding relation_read read_within
no_read known identity real settings link blocks octets exists other e =
    let one = bind_ok (read_within (uuid_of known.link) blocks) _ octets e in
    let two = bind_ok (request_of blocks) (λ request. in_relation (uuid_of known.link) request.header.ar_uuid >>= λ _. Ok request) one.0 one.1 in
    let three = bind_ok (in_relation (uuid_of known.link) two.0.header.ar_uuid) (λ _. Ok two.0) one.0 two.2 in
    refused_relation link blocks two.0.header.ar_uuid other (request_named blocks two.0 two.1)
    (subst (λ l. in_relation (uuid_of l) two.0.header.ar_uuid ≡ Ok tt) exists three.1)

pub unnamed_read : (link : RelationState) (blocks : List ℕ) → Names link blocks ≡ false → names_relation (uuid_of (Some link)) blocks ≡ false
unfolding names_relation
unnamed_read link blocks other = by_result (request_of blocks) refl
  where
    by_result : (r : Result IodReadReq CallFault) → request_of blocks ≡ r → is_named_by (uuid_of (Some link)) r ≡ false
    by_result (Ok request) is = unnamed link blocks request.header.ar_uuid other (request_named blocks request is)
    by_result (Err why) is = refl

-- A Write in which the ARUUID is not that of the relation, if there is one, is refused.
pub no_writing : (standing : Option (List ℕ)) (real : Real) (blocks : List ℕ) (writing : Writing) → ((uuid : List ℕ) → part 8 16 blocks ≡ uuid → is_relation standing uuid ≡ false)
    → writing_of standing real blocks ≡ Ok writing → ⊥
unfolding writing_of several_of handled_record targeted
no_writing standing real blocks writing other e =
    let one = bind_ok (single_of kind.IodWriteReq blocks) (λ x. or_fault fault.BlockForm (in_iod_write_req x.0) >>= λ request. handled_writing standing real request x.1) writing e in
    let two = bind_ok (or_fault fault.BlockForm (in_iod_write_req one.0.0)) (λ request. handled_writing standing real request one.0.1) writing one.2 in
    let named = header_named blocks one.0 two.0 one.1 (fault_ok fault.BlockForm (in_iod_write_req one.0.0) two.0 two.1) in
    refused_in standing two.0.header.ar_uuid (other two.0.header.ar_uuid named) (by_kind two.0 one.0.1 two.2)
  where
    by_kind : (request : IodWriteReq) (behind : List ℕ) → handled_writing standing real request behind ≡ Ok writing → in_relation standing request.header.ar_uuid ≡ Ok tt
    by_kind request behind =
        cond_both (is_several request) _ _ (λ (r : Result Writing CallFault). r ≡ Ok writing → in_relation standing request.header.ar_uuid ≡ Ok tt)
        (λ _ e.
        let one = bind_ok (several_of standing request behind) _ writing e in
        let two = bind_ok (in_relation standing request.header.ar_uuid) _ one.0 one.1 in two.1)
        (λ _ e.
        let one = bind_ok (handled_record standing real request behind) _ writing e in
        let two = bind_ok (targeted standing real request) _ one.0 one.1 in
        let three = bind_ok (in_relation standing request.header.ar_uuid) _ two.0 two.1 in three.1)

pub no_write : (link : RelationState) (real : Real) (blocks : List ℕ) (writing : Writing) → Names link blocks ≡ false → writing_of (uuid_of (Some link)) real blocks ≡ Ok writing → ⊥
no_write link real blocks writing other e = no_writing (uuid_of (Some link)) real blocks writing (λ uuid at. unnamed link blocks uuid other at) e
