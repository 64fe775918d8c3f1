-- The Release of a controller at a device, and its response, in which a controller finds nothing of a Connect.
use Rattle.std.proofs.Common.{◌≡◌, ◌⊎◌, inl, inr, ◌==◌, ℕ, Bool, true, false, not, List, [], ◌∷◌, length, Option, Some, None, Result, Ok, Err}
use Rattle.std.proofs.Common.{refl, sym, ap, subst, ◌∙◌}
use Rattle.std.specs.Prelude.{if◌then◌else◌, drop, nat_lt, option_and_then}
use Rattle.wire.specs.Codec.{Whole, ◌>>=◌}
use Rattle.wire.specs.Checks.{or_fault}
use Rattle.wire.specs.Formats.{big_number, framed, number, raw}
use Rattle.wire.specs.Whole.{everything}
use Rattle.wire.specs.declared.blocks.fault.BlockFault.{BlockFault}
use Rattle.wire.specs.declared.blocks.fault.BlockFault.TheVariants.{Truncated}
use Rattle.connect_blocks.specs.declared.control.ControlBlock.{ControlBlock}
use Rattle.block_codec.specs.declared.block.Block.{Block}
use Rattle.block_codec.specs.declared.block.Block.TheVariants as is
use Rattle.block_codec.specs.declared.block_type.BlockType.TheVariants as kind
use Rattle.block_codec.specs.Kinds.{number_of, type_of}
use Rattle.block_codec.specs.Block.{block, block_bytes, block_of, block_size, body_of, fields_of}
use Rattle.connects.specs.declared.answers.connect.Found.{Found}
use Rattle.connects.specs.answers.Connect.{behind_block, chosen_of, found_in, next_as, next_by, next_found, nothing, other_next}
use Rattle.connects.specs.answers.OtherBlock.{other_block}
use Rattle.records.specs.declared.status.call_fault.CallFault.{CallFault}
use Rattle.records.specs.declared.status.call_fault.CallFault.TheVariants as fault
use Rattle.records.specs.calls.Single.{formed, single_of}
use Rattle.relations.specs.Calls.{in_control, named_of, release_of}
use Rattle.relations.specs.RelationState.{RelationState}
use Rattle.end_laws.specs.turns.Turns.{chosen_in}
use Rattle.rounds_law.proofs.DeviceCallingBlocks.{HasSize, IsReadAlone, alike, at_least, not_none, passed}

-- ---- its block

release_type : (control : ControlBlock) → big_number 2 (block_bytes (is.Release control)) ≡ number_of kind.Release
unfolding block block_bytes number_of
release_type control = refl

release_some : HasSize → (control : ControlBlock) → (length (block_bytes (is.Release control)) == 0) ≡ false
unfolding block_size
release_some long control = ap (λ (n : ℕ). n == 0) (long (is.Release control)) ∙ not_none ((fields_of kind.Release).size (is.Release control))

release_long : HasSize → (control : ControlBlock) → nat_lt (length (block_bytes (is.Release control))) 4 ≡ false
unfolding block_size
release_long long control = ap (λ (n : ℕ). nat_lt n 4) (long (is.Release control)) ∙ at_least ((fields_of kind.Release).size (is.Release control))

single_release : HasSize → (control : ControlBlock) → IsReadAlone (is.Release control)
    → single_of kind.Release (block_bytes (is.Release control)) ≡ Ok (is.Release control, [])
unfolding single_of
single_release long control read =
    let blocks = block_bytes (is.Release control) in
    let typed = (not (big_number 2 blocks == number_of kind.Release), fault.BlockType) ∷ [] in
    passed (length blocks == 0) fault.BlockMissing ((nat_lt (length blocks) 4, fault.BlockHeader) ∷ typed)
    (formed (block_of blocks)) (release_some long control)
    ∙ (passed (nat_lt (length blocks) 4) fault.BlockHeader typed (formed (block_of blocks)) (release_long long control)
    ∙ (passed (not (big_number 2 blocks == number_of kind.Release)) fault.BlockType [] (formed (block_of blocks))
    (ap (λ (n : ℕ). not (n == number_of kind.Release)) (release_type control) ∙ alike (number_of kind.Release))
    ∙ ap (λ (r : Result (Block × List ℕ) BlockFault). formed r) read))

-- it is accepted, or refused
pub released_or : HasSize → (link : Option RelationState) (control : ControlBlock) → IsReadAlone (is.Release control)
    → (release_of link (block_bytes (is.Release control)) ≡ Ok control)
    ⊎ ((refusal : CallFault) × (release_of link (block_bytes (is.Release control)) ≡ Err refusal))
unfolding release_of
released_or long link control read =
    let single = ap (λ (r : Result (Block × List ℕ) CallFault). r >>= λ x. or_fault fault.BlockForm (in_control x.0)) (single_release long control read) in
    by_name (release_of link (block_bytes (is.Release control))) (named_of link control 4)
    (ap (λ (r : Result ControlBlock CallFault). r >>= λ block. named_of link block 4 >>= λ _. Ok block) single)
  where
    by_name : (released : Result ControlBlock CallFault) (named : Result (Unit {0}) CallFault) → released ≡ (named >>= λ _. Ok control)
        → (released ≡ Ok control) ⊎ ((refusal : CallFault) × (released ≡ Err refusal))
    by_name released (Ok it) e = inl e
    by_name released (Err refusal) e = inr (refusal, e)

-- ---- a block of any type

abbrev second_of : {A B : Type 0} → Result (A × List B) BlockFault → List B
second_of (Ok x) = x.1
second_of (Err why) = []

-- octets that a length counts can be cut off, for any that are read
module _ {A : Type 0} (whole : Whole BlockFault A) (x : A × List ℕ) where
  by_value : (cut : List ℕ × List ℕ) (r : Result A BlockFault) → (r >>= λ value. Ok (value, cut.1)) ≡ Ok x → cut.1 ≡ x.1
  by_value cut (Ok value) e = ap (λ (r : Result (A × List ℕ) BlockFault). second_of r) e
  by_value cut (Err why) e = absurd cc

  abbrev IsCut : Result (List ℕ × List ℕ) BlockFault → Type 0
  IsCut r = (inside : List ℕ) × (r ≡ Ok (inside, x.1))

  by_cut : (r : Result (List ℕ × List ℕ) BlockFault) → (r >>= λ cut. whole.read cut.0 >>= λ value. Ok (value, cut.1)) ≡ Ok x
      → IsCut (r >>= λ cut. Ok (cut.0, cut.1))
  by_cut (Ok cut) e =
      (cut.0, ap (λ (rest : List ℕ). let o : Result (List ℕ × List ℕ) BlockFault = Ok (cut.0, rest) in o) (by_value cut (whole.read cut.0) e))
  by_cut (Err why) e = absurd cc

  by_length : (r : Result (ℕ × List ℕ) BlockFault)
      → (r >>= λ n. (raw Truncated n.0).read n.1 >>= λ cut. whole.read cut.0 >>= λ value. Ok (value, cut.1)) ≡ Ok x
      → IsCut (r >>= λ n. (raw Truncated n.0).read n.1 >>= λ cut. Ok (cut.0, cut.1))
  by_length (Ok n) e = by_cut ((raw Truncated n.0).read n.1) e
  by_length (Err why) e = absurd cc

  framed_cut : (octets : List ℕ) → (framed (number Truncated 2) Truncated whole).read octets ≡ Ok x
      → IsCut ((framed (number Truncated 2) Truncated everything).read octets)
  framed_cut octets e = by_length ((number Truncated 2).read octets) e

-- a value of this type, and what is read as a block
abbrev typed : {A : Type 0} → ℕ → A × List ℕ → Result ((ℕ × A) × List ℕ) BlockFault
typed k y = Ok ((k, y.0), y.1)

abbrev untyped : (ℕ × Block) × List ℕ → Result (Block × List ℕ) BlockFault
untyped z = Ok (z.0.1, z.1)

-- The octets are skipped as one block.
abbrev pub IsSkipped : Result ((ℕ × List ℕ) × List ℕ) BlockFault → Type 0
IsSkipped r = (x : ℕ × List ℕ) × (r ≡ Ok (x, []))

module _ (value : Block) where
  by_framed : (k : ℕ) (more : List ℕ) (r : Result (Block × List ℕ) BlockFault)
      → (framed (number Truncated 2) Truncated (body_of (type_of k))).read more ≡ r
      → ((r >>= λ y. typed k y) >>= λ z. untyped z) ≡ Ok (value, [])
      → IsSkipped ((framed (number Truncated 2) Truncated everything).read more >>= λ y. typed k y)
  by_framed k more (Ok y) e is =
      let cut = framed_cut (body_of (type_of k)) y more e in
      let behind = ap (λ (r : Result (Block × List ℕ) BlockFault). second_of r) is in (
        (k, cut.0),
        ap (λ (r : Result (List ℕ × List ℕ) BlockFault). r >>= λ z. typed k z) cut.1
            ∙ ap (λ (rest : List ℕ). let o : Result ((ℕ × List ℕ) × List ℕ) BlockFault = Ok ((k, cut.0), rest) in o) behind,
      )
  by_framed k more (Err why) e is = absurd cc

  by_kind : (r : Result (ℕ × List ℕ) BlockFault)
      → ((r >>= λ x. (framed (number Truncated 2) Truncated (body_of (type_of x.0))).read x.1 >>= λ y. typed x.0 y) >>= λ z. untyped z) ≡ Ok (value, [])
      → IsSkipped (r >>= λ x. (framed (number Truncated 2) Truncated everything).read x.1 >>= λ y. typed x.0 y)
  by_kind (Ok x) is = by_framed x.0 x.1 ((framed (number Truncated 2) Truncated (body_of (type_of x.0))).read x.1) refl is
  by_kind (Err why) is = absurd cc

  -- what is read as a block alone can be skipped
  pub skipped : (octets : List ℕ) → block_of octets ≡ Ok (value, []) → IsSkipped (other_block.read octets)
  unfolding block_of block other_block
  skipped octets is = by_kind ((number Truncated 2).read octets) is

-- ---- a response of one block

-- Octets that begin with a type that is not looked for, and that are skipped as one block.
module _ (octets : List ℕ) (type : ℕ) (is_type : big_number 2 octets ≡ type)
    (other : next_by nothing octets type ≡ other_next nothing (other_block.read octets)) (skip : IsSkipped (other_block.read octets)) where
  abbrev Goes : Option (Found × List ℕ) → Type 0
  Goes o = (o ≡ Some (nothing, [])) ⊎ (o ≡ None)

  by_short : (short : Bool) → Goes (next_as nothing octets (if short then Err Truncated else Ok (big_number 2 octets, drop 2 octets)))
  by_short true = inr refl
  by_short false =
      inl (ap (λ (k : ℕ). next_by nothing octets k) is_type
      ∙ (other ∙ ap (λ (r : Result ((ℕ × List ℕ) × List ℕ) BlockFault). other_next nothing r) skip.1))

  next_is : Goes (next_found nothing octets)
  unfolding next_found
  next_is = by_short (nat_lt (length octets) 2)

  abbrev Unchosen : Option (Found × List ℕ) → Type 0
  Unchosen o = option_and_then (λ (found : Found). chosen_of found) (behind_block o (λ next rest. found_in 399 rest next)) ≡ None

  nothing_more : Unchosen (Some (nothing, []))
  unfolding found_in
  nothing_more = refl

  by_next : Goes (next_found nothing octets) → Unchosen (next_found nothing octets)
  by_next (inl is) = subst Unchosen (sym is) nothing_more
  by_next (inr is) = subst Unchosen (sym is) refl

  by_empty : (empty : Bool) → option_and_then (λ (found : Found). chosen_of found)
      (if empty then Some nothing else behind_block (next_found nothing octets) (λ next rest. found_in 399 rest next)) ≡ None
  by_empty true = refl
  by_empty false = by_next next_is

  -- A controller finds nothing of a Connect in them.
  pub none_chosen : chosen_in octets ≡ None
  unfolding found_in
  none_chosen = by_empty (length octets == 0)

-- ---- the response to a Release

response_type : (control : ControlBlock) → big_number 2 (block_bytes (is.ReleaseRes control)) ≡ 0x8114
unfolding block block_bytes number_of
response_type control = refl

pub response_unchosen : (control : ControlBlock) → block_of (block_bytes (is.ReleaseRes control)) ≡ Ok (is.ReleaseRes control, [])
    → chosen_in (block_bytes (is.ReleaseRes control)) ≡ None
response_unchosen control read =
    none_chosen (block_bytes (is.ReleaseRes control)) 0x8114 (response_type control) refl
    (skipped (is.ReleaseRes control) (block_bytes (is.ReleaseRes control)) read)
