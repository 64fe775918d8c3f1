-- The intervals of a Connect that is accepted.
use Rattle.std.proofs.Common.{◌≡◌, inl, inr, ◌==◌, ◌*◌, ◌<◌, ◌≤◌, ◌||◌, ◌&&◌, ℕ, zero, suc, Bool, true, false, cond, List, [], ◌∷◌, length, Option, Some, None, Result, Ok, Err, refl, sym, ap, ◌∙◌, arith}
use Rattle.std.specs.Prelude.{nat_lt, is_some, not}
use Rattle.std.proofs.lemmas.Bool.{cases_lt, lt-ltb, le-ltb, true≢false}
use Rattle.wire.specs.Codec.{◌>>=◌}
use Rattle.wire.specs.Checks.{or_fault}
use Rattle.records.specs.declared.status.call_fault.CallFault.{CallFault}
use Rattle.records.specs.declared.status.call_fault.CallFault.TheVariants as faults
use Rattle.records.specs.calls.Handled.{handled}
use Rattle.wire.specs.declared.blocks.fault.BlockFault.{BlockFault}
use Rattle.connect_blocks.specs.declared.iocr.IocrType.{IocrType}
use Rattle.connect_blocks.specs.declared.iocr.IocrType.TheVariants.{Input, Output}
use Rattle.connect_blocks.specs.declared.iocr.IocrBlockReq.{IocrBlockReq}
use Rattle.block_codec.specs.declared.block.Block.{Block}
use Rattle.block_codec.specs.declared.block.Block.TheVariants as is
use Rattle.block_codec.specs.declared.block_type.BlockType.TheVariants as kind
use Rattle.block_codec.specs.Kinds.{number_of}
use Rattle.module_diff.specs.declared.expected.Expected.{Expected}
use Rattle.cyclic_data.specs.Layout.{Table}
use Rattle.connects.specs.declared.requests.parts.Ar.{Ar}
use Rattle.connects.specs.declared.requests.parts.AlarmCr.{AlarmCr}
use Rattle.connects.specs.requests.Pieces.{Piece, pieces_of}
use Rattle.connects.specs.requests.Layouts.{data_of, in_order, layout_of}
use Rattle.connects.specs.requests.Request.{Request, iocr_of}
use Rattle.connects.specs.requests.Handled.{Sofar, admitted, any_short, ar_in, behind_ar, expected_with, has_iocr, is_further, is_short, is_short_in, nothing, request_behind, request_in, request_of, request_with, request_within, some_short, this_or, well_formed, with_block, with_iocr, with_piece, with_pieces}

bind_ok : {A B : Type 0} (r : Result A CallFault) (f : A → Result B CallFault) (y : B) → (r >>= f) ≡ Ok y → (x : A) × (r ≡ Ok x) × (f x ≡ Ok y)
bind_ok (Ok x) f y e = (x, refl, e)
bind_ok (Err why) f y e = absurd cc

handled_ok : {A : Type 0} (fails : Bool) (why : CallFault) (otherwise : Result A CallFault) (y : A) → handled ((fails, why) ∷ []) otherwise ≡ Ok y
    → (fails ≡ false) × (otherwise ≡ Ok y)
handled_ok true why otherwise y e = absurd cc
handled_ok false why otherwise y e = (refl, e)

-- ---- one more block

-- Whether the block of one of the two types, if there is one, asks for a smaller interval.
abbrev short_at : ℕ → Option IocrBlockReq → Bool
short_at smallest None = false
short_at smallest (Some block) = nat_lt (block.send_clock_factor * block.reduction_ratio) smallest

abbrev short_by : ℕ → Sofar → Bool
short_by smallest sofar = short_at smallest sofar.input || short_at smallest sofar.output

or_none : (a : Bool) → (a || false) ≡ a
or_none true = refl
or_none false = refl

or_turned : (a b : Bool) → (a || b) ≡ (b || a)
or_turned true true = refl
or_turned true false = refl
or_turned false true = refl
or_turned false false = refl

first_input : (smallest : ℕ) (sofar : Sofar) (block : IocrBlockReq) (before : Option IocrBlockReq) → is_some before ≡ false
    → (nat_lt (block.send_clock_factor * block.reduction_ratio) smallest || (short_at smallest before || short_at smallest sofar.output))
    ≡ (nat_lt (block.send_clock_factor * block.reduction_ratio) smallest || short_at smallest sofar.output)
first_input smallest sofar block None none = refl
first_input smallest sofar block (Some before) none = absurd cc

first_output : (smallest : ℕ) (sofar : Sofar) (block : IocrBlockReq) (before : Option IocrBlockReq) → is_some before ≡ false
    → (nat_lt (block.send_clock_factor * block.reduction_ratio) smallest || (short_at smallest sofar.input || short_at smallest before))
    ≡ (short_at smallest sofar.input || nat_lt (block.send_clock_factor * block.reduction_ratio) smallest)
first_output smallest sofar block None none =
    ap (λ (b : Bool). nat_lt (block.send_clock_factor * block.reduction_ratio) smallest || b) (or_none (short_at smallest sofar.input))
    ∙ or_turned (nat_lt (block.send_clock_factor * block.reduction_ratio) smallest) (short_at smallest sofar.input)
first_output smallest sofar block (Some before) none = absurd cc

iocr_counts : (smallest : ℕ) (sofar : Sofar) (block : IocrBlockReq) (type : IocrType) → has_iocr sofar type ≡ false
    → (nat_lt (block.send_clock_factor * block.reduction_ratio) smallest || short_by smallest sofar) ≡ short_by smallest (with_iocr sofar block type)
iocr_counts smallest sofar block Input none = first_input smallest sofar block sofar.input none
iocr_counts smallest sofar block Output none = first_output smallest sofar block sofar.output none

same_ok : {A : Type 0} (x y : A) → ◌≡◌ {A = Result A CallFault} (Ok x) (Ok y) → x ≡ y
same_ok x y e = cc

block_counts : (smallest : ℕ) (sofar next : Sofar) (block : Block) → with_block sofar block ≡ Ok next
    → (is_short smallest block || short_by smallest sofar) ≡ short_by smallest next
block_counts smallest sofar next (is.IocrBlockReq block) e =
    let taken = handled_ok (has_iocr sofar block.iocr_type) (faults.IocrField 4) (Ok (with_iocr sofar block block.iocr_type)) next e in
    iocr_counts smallest sofar block block.iocr_type taken.0
    ∙ ap (λ (s : Sofar). short_by smallest s) (same_ok (with_iocr sofar block block.iocr_type) next taken.1)
block_counts smallest sofar next (is.AlarmCrBlockReq block) e = ap (λ (s : Sofar). short_by smallest s) (same_ok _ next e)
block_counts smallest sofar next (is.ExpectedSubmoduleBlockReq block) e =
    let found = bind_ok (expected_with sofar.expected block.modules) (λ (expected : Expected). Ok (record sofar { has_expected = true; expected = expected })) next e in
    ap (λ (s : Sofar). short_by smallest s) (same_ok _ next found.2)
block_counts smallest sofar next _ e = absurd cc

found_counts : (smallest number : ℕ) (sofar next : Sofar) (found : Result Block BlockFault)
    → (well_formed number found >>= λ (block : Block). with_block sofar block) ≡ Ok next
    → (is_short_in smallest found || short_by smallest sofar) ≡ short_by smallest next
found_counts smallest number sofar next (Ok block) e = block_counts smallest sofar next block e
found_counts smallest number sofar next (Err form) e = absurd cc

handled_three : {A : Type 0} (a b c : Bool) (x y z : CallFault) (otherwise : Result A CallFault) (taken : A)
    → handled ((a, x) ∷ (b, y) ∷ (c, z) ∷ []) otherwise ≡ Ok taken → otherwise ≡ Ok taken
handled_three true b c x y z otherwise taken e = absurd cc
handled_three false true c x y z otherwise taken e = absurd cc
handled_three false false true x y z otherwise taken e = absurd cc
handled_three false false false x y z otherwise taken e = e

piece_counts : (smallest : ℕ) (sofar next : Sofar) (piece : Piece) → with_piece sofar piece ≡ Ok next
    → (is_short_in smallest piece.found || short_by smallest sofar) ≡ short_by smallest next
unfolding with_piece
piece_counts smallest sofar next piece e =
    found_counts smallest piece.number sofar next piece.found
    (handled_three (nat_lt piece.left 4) (not (is_further piece.number)) (piece.number == number_of kind.AlarmCrBlockReq && is_some sofar.alarm)
    faults.BlockHeader faults.BlockType faults.AlarmCrRepeated (well_formed piece.number piece.found >>= λ (block : Block). with_block sofar block) next e)

-- ---- all blocks

or_swapped : (a b c : Bool) → ((a || b) || c) ≡ (b || (a || c))
or_swapped true true c = refl
or_swapped true false c = refl
or_swapped false true c = refl
or_swapped false false c = refl

-- One of the blocks, or of those before, asks for a smaller interval exactly if one of the two that are read at the end
-- does.
pieces_count : (smallest : ℕ) (sofar last : Sofar) (pieces : List Piece) → with_pieces sofar pieces ≡ Ok last
    → (some_short smallest sofar pieces || short_by smallest sofar) ≡ short_by smallest last
unfolding with_pieces some_short
pieces_count smallest sofar last [] e = ap (λ (s : Sofar). short_by smallest s) (same_ok sofar last e)
pieces_count smallest sofar last (piece ∷ pieces) e =
    let one = bind_ok (with_piece sofar piece) (λ (next : Sofar). with_pieces next pieces) last e in
    let this = piece_counts smallest sofar one.0 piece one.1 in
    let others = pieces_count smallest one.0 last pieces one.2 in
    ap (λ (r : Result Sofar CallFault). this_or r (is_short_in smallest piece.found) (λ next. some_short smallest next pieces) || short_by smallest sofar) one.1
    ∙ (or_swapped (is_short_in smallest piece.found) (some_short smallest one.0 pieces) (short_by smallest sofar)
    ∙ (ap (λ (b : Bool). some_short smallest one.0 pieces || b) this ∙ others))

-- ---- the request

abbrev short_of : ℕ → Request → Bool
short_of smallest request =
    nat_lt (request.input.send_clock_factor * request.input.reduction_ratio) smallest
    || nat_lt (request.output.send_clock_factor * request.output.reduction_ratio) smallest

some_ok : {A : Type 0} (why : CallFault) (found : Option A) (value : A) → or_fault why found ≡ Ok value → found ≡ Some value
some_ok why None value e = absurd cc
some_ok why (Some found) value e = cc e

request_counts : (smallest : ℕ) (ar : Ar) (last : Sofar) (request : Request) → request_with ar last ≡ Ok request
    → short_by smallest last ≡ short_of smallest request
unfolding request_with
request_counts smallest ar last request e =
    let first = bind_ok (handled ((not last.has_expected, faults.BlockMissing) ∷ []) (or_fault faults.IocrMissing last.input)) _ request e in
    let input = some_ok faults.IocrMissing last.input first.0 (handled_ok (not last.has_expected) faults.BlockMissing (or_fault faults.IocrMissing last.input) first.0 first.1).1 in
    let second = bind_ok (or_fault faults.IocrMissing last.output) _ request first.2 in
    let output = some_ok faults.IocrMissing last.output second.0 second.1 in
    let third = bind_ok (or_fault faults.AlarmCrMissing last.alarm) _ request second.2 in
    let fourth = bind_ok (in_order last.input_first (layout_of (data_of last.expected) first.0) (layout_of (data_of last.expected) second.0)) _ request third.2 in
    ap (λ (i : Option IocrBlockReq). short_at smallest i || short_at smallest last.output) input
    ∙ (ap (λ (o : Option IocrBlockReq). short_at smallest (Some first.0) || short_at smallest o) output
    ∙ ap (λ (r : Request). short_of smallest r) (same_ok _ request fourth.2))

any_counts : (smallest : ℕ) (pieces : List Piece) (request : Request) → request_in None pieces ≡ Ok request
    → any_short smallest None pieces ≡ short_of smallest request
unfolding request_in request_behind any_short
any_counts smallest [] request e = absurd cc
any_counts smallest (piece ∷ pieces) request e =
    let first = bind_ok (ar_in piece) _ request e in
    let rest = bind_ok (with_pieces nothing pieces) (λ (sofar : Sofar). request_with first.0 sofar) request first.2 in
    ap (λ (r : Result Ar CallFault). behind_ar r (some_short smallest nothing pieces)) first.1
    ∙ (sym (or_none (some_short smallest nothing pieces))
    ∙ (pieces_count smallest nothing rest.0 pieces rest.1 ∙ request_counts smallest first.0 rest.0 request rest.2))

-- ---- the laws

parts_false : (a b : Bool) → (a || b) ≡ false → (a ≡ false) × (b ≡ false)
parts_false true b e = absurd cc
parts_false false b e = (refl, e)

not_less : (a b : ℕ) → nat_lt a b ≡ false → b ≤ a
not_less a b e =
    elim (cases_lt a b) [ inl below ↦ absurd (true≢false (sym (lt-ltb a b below) ∙ e)) | inr above ↦ omega (arith, above) ]

unshort : (short : Bool) (read : Result Request CallFault) (request : Request) → cond short (Err (faults.IocrField 10)) read ≡ Ok request
    → (short ≡ false) × (read ≡ Ok request)
unshort true read request e = absurd cc
unshort false read request e = (refl, e)

pub accepted_within : (smallest : ℕ) (blocks : List ℕ) (request : Request) → request_within smallest None blocks ≡ Ok request
    → (request_of None blocks ≡ Ok request) × (smallest ≤ request.input.send_clock_factor * request.input.reduction_ratio)
    × (smallest ≤ request.output.send_clock_factor * request.output.reduction_ratio)
unfolding request_within request_of
accepted_within smallest blocks request e =
    let is = unshort (any_short smallest None (pieces_of blocks)) (request_in None (pieces_of blocks)) request e in
    let none = parts_false _ _ (sym (any_counts smallest (pieces_of blocks) request is.1) ∙ is.0) in
    (is.1, not_less _ smallest none.0, not_less _ smallest none.1)

pub same_within : (smallest : ℕ) (blocks : List ℕ) (request : Request) → request_of None blocks ≡ Ok request
    → smallest ≤ request.input.send_clock_factor * request.input.reduction_ratio → smallest ≤ request.output.send_clock_factor * request.output.reduction_ratio
    → request_within smallest None blocks ≡ Ok request
unfolding request_within request_of
same_within smallest blocks request e input output =
    let a = le-ltb (request.input.send_clock_factor * request.input.reduction_ratio) smallest input in
    let b = le-ltb (request.output.send_clock_factor * request.output.reduction_ratio) smallest output in
    let none : any_short smallest None (pieces_of blocks) ≡ false = any_counts smallest (pieces_of blocks) request e ∙ rw (a, b) refl in
    rw none e

refused_within : (smallest : ℕ) (blocks : List ℕ) (request : Request) → request_of None blocks ≡ Ok request → short_of smallest request ≡ true
    → request_within smallest None blocks ≡ Err (faults.IocrField 10)
unfolding request_within request_of
refused_within smallest blocks request e short =
    let any : any_short smallest None (pieces_of blocks) ≡ true = any_counts smallest (pieces_of blocks) request e ∙ short in
    rw any refl

or_right : (a b : Bool) → b ≡ true → (a || b) ≡ true
or_right true b e = refl
or_right false b e = e

pub input_within : (smallest : ℕ) (blocks : List ℕ) (request : Request) → request_of None blocks ≡ Ok request
    → request.input.send_clock_factor * request.input.reduction_ratio < smallest → request_within smallest None blocks ≡ Err (faults.IocrField 10)
input_within smallest blocks request e less =
    let short = lt-ltb (request.input.send_clock_factor * request.input.reduction_ratio) smallest less in
    refused_within smallest blocks request e (rw short refl)

pub output_within : (smallest : ℕ) (blocks : List ℕ) (request : Request) → request_of None blocks ≡ Ok request
    → request.output.send_clock_factor * request.output.reduction_ratio < smallest → request_within smallest None blocks ≡ Err (faults.IocrField 10)
output_within smallest blocks request e less =
    refused_within smallest blocks request e (or_right _ _ (lt-ltb (request.output.send_clock_factor * request.output.reduction_ratio) smallest less))
