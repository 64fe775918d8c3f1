-- One block after another.
use Rattle.std.proofs.Common.{◌≡◌, ◌==◌, ◌-◌, ℕ, zero, suc, Bool, true, false, cond, List, [], ◌∷◌, length, Option, Some, None, Result, Ok, Err, refl, ap, subst, ◌∙◌, arith}
use Rattle.std.proofs.lemmas.Bool.{true≢false}
use Rattle.block_codec.specs.Block.{block_of}
use Rattle.wire.specs.Codec.{◌>>=◌}
use Rattle.records.specs.calls.Handled.{handled}
use Rattle.records.specs.declared.status.call_fault.CallFault.{CallFault}
use Rattle.records.specs.declared.status.call_fault.CallFault.TheVariants as faults
use Rattle.connects.specs.requests.Pieces.{Piece, behind, piece_at, pieces_in}
use Rattle.module_diff.specs.declared.expected.Expected.{Expected}
use Rattle.connects.specs.declared.requests.parts.Ar.{Ar}
use Rattle.connects.specs.declared.requests.draft.Draft.{Draft}
use Rattle.connects.specs.requests.Drafts.{behind_within, piece_within, pieces_within, sofar_of}
use Rattle.connects.specs.requests.Request.{Request}
use Rattle.connects.specs.requests.Handled.{Sofar, any_short, conflict, ar_in, is_short_in, nothing, request_behind, request_in, request_of, request_with, request_within, some_short, this_or, with_piece, with_pieces}

pub none_left : (most : ℕ) (bytes : List ℕ) → (length bytes == 0) ≡ true → pieces_in most bytes ≡ []
unfolding pieces_in
none_left zero bytes empty = refl
none_left (suc most) bytes empty = rw empty refl

pub one_left : (most : ℕ) (bytes : List ℕ) → (length bytes == 0) ≡ false → pieces_in (suc most) bytes ≡ piece_at bytes ∷ pieces_in most (behind (block_of bytes))
unfolding pieces_in
one_left most bytes some = rw some refl

-- No octet remains: what was read is all.
pub ends : (smallest : ℕ) (sofar : Sofar) (most : ℕ) (bytes : List ℕ) → (length bytes == 0) ≡ true → pieces_within smallest sofar (pieces_in most bytes) ≡ Ok sofar
unfolding with_pieces some_short
ends smallest sofar most bytes empty = rw (none_left most bytes empty) refl

pub out_of : (smallest : ℕ) (sofar : Sofar) (most : ℕ) (bytes : List ℕ) → most ≡ 0 → pieces_within smallest sofar (pieces_in most bytes) ≡ Ok sofar
unfolding with_pieces pieces_in some_short
out_of smallest sofar most bytes none = rw none refl

-- One more block that is accepted: so it was without the smallest interval, and its own is not smaller.
taken_is : (taken : Result Sofar CallFault) (short : Bool) (next : Sofar)
    → (taken >>= λ (x : Sofar). handled ((short, faults.IocrField 10) ∷ []) (Ok x)) ≡ Ok next → (taken ≡ Ok next) × (short ≡ false)
taken_is (Ok x) true next e = absurd cc
taken_is (Ok x) false next e = (e, refl)
taken_is (Err fault) short next e = absurd cc

-- One more block that is refused: for a fault of its own, or else for its interval.
refused_is : (taken : Result Sofar CallFault) (short : Bool) (others : Sofar → Bool) (pieces : Sofar → Result Sofar CallFault) (fault : CallFault)
    → (taken >>= λ (x : Sofar). handled ((short, faults.IocrField 10) ∷ []) (Ok x)) ≡ Err fault
    → cond (this_or taken short others) (Err (faults.IocrField 10)) (taken >>= pieces) ≡ Err fault
refused_is (Ok x) true others pieces fault e = e
refused_is (Ok x) false others pieces fault e = absurd cc
refused_is (Err why) short others pieces fault e = cc e

pub goes_on : (smallest : ℕ) (sofar next : Sofar) (more most : ℕ) (bytes : List ℕ) → more ≡ suc most → (length bytes == 0) ≡ false
    → piece_within smallest sofar (piece_at bytes) ≡ Ok next
    → pieces_within smallest sofar (pieces_in more bytes) ≡ pieces_within smallest next (pieces_in most (behind (block_of bytes)))
unfolding with_pieces some_short
goes_on smallest sofar next more most bytes count some took =
    let is = taken_is (with_piece sofar (piece_at bytes)) (is_short_in smallest (piece_at bytes).found) next took in
    rw (count, one_left most bytes some, is.0, is.1) refl

pub stops : (smallest : ℕ) (sofar : Sofar) (fault : CallFault) (more most : ℕ) (bytes : List ℕ) → more ≡ suc most → (length bytes == 0) ≡ false
    → piece_within smallest sofar (piece_at bytes) ≡ Err fault → pieces_within smallest sofar (pieces_in more bytes) ≡ Err fault
unfolding with_pieces some_short
stops smallest sofar fault more most bytes count some refused =
    rw (count, one_left most bytes some) (refused_is (with_piece sofar (piece_at bytes)) (is_short_in smallest (piece_at bytes).found)
    (λ (x : Sofar). some_short smallest x (pieces_in most (behind (block_of bytes)))) (λ (x : Sofar). with_pieces x (pieces_in most (behind (block_of bytes)))) fault refused)

-- ---- after the first block

-- An empty draft and an empty table.
pub from_nothing : (draft : Draft) (expected : Expected) → ((e : Expected) → sofar_of draft e ≡ record nothing { expected = e }) → expected ≡ nothing.expected
    → sofar_of draft expected ≡ nothing
from_nothing draft expected h e = h expected ∙ ap (λ (x : Expected). record nothing { expected = x }) e

fails_as : (short : Bool) (taken : Result Sofar CallFault) (request : Sofar → Result Request CallFault) (fault : CallFault)
    → cond short (Err (faults.IocrField 10)) taken ≡ Err fault → cond short (Err (faults.IocrField 10)) (taken >>= request) ≡ Err fault
fails_as true taken request fault e = cc e
fails_as false taken request fault e = rw e refl

goes_as : (short : Bool) (taken : Result Sofar CallFault) (request : Sofar → Result Request CallFault) (read : Sofar)
    → cond short (Err (faults.IocrField 10)) taken ≡ Ok read → cond short (Err (faults.IocrField 10)) (taken >>= request) ≡ request read
goes_as true taken request read e = absurd cc
goes_as false taken request read e = rw e refl

pub fails_behind : (smallest : ℕ) (ar : Ar) (pieces : List Piece) (start : Sofar) (fault : CallFault) → start ≡ nothing
    → pieces_within smallest start pieces ≡ Err fault → behind_within smallest ar pieces ≡ Err fault
unfolding request_behind
fails_behind smallest ar pieces start fault e h =
    let g : pieces_within smallest nothing pieces ≡ Err fault = subst (λ (s : Sofar). pieces_within smallest s pieces ≡ Err fault) e h in
    fails_as (some_short smallest nothing pieces) (with_pieces nothing pieces) (λ (sofar : Sofar). request_with ar sofar) fault g

pub goes_behind : (smallest : ℕ) (ar : Ar) (pieces : List Piece) (start read : Sofar) → start ≡ nothing
    → pieces_within smallest start pieces ≡ Ok read → behind_within smallest ar pieces ≡ request_with ar read
unfolding request_behind
goes_behind smallest ar pieces start read e h =
    let g : pieces_within smallest nothing pieces ≡ Ok read = subst (λ (s : Sofar). pieces_within smallest s pieces ≡ Ok read) e h in
    goes_as (some_short smallest nothing pieces) (with_pieces nothing pieces) (λ (sofar : Sofar). request_with ar sofar) read g

-- ---- all blocks

counted : (bytes : List ℕ) → (length bytes == 0) ≡ false → length bytes ≡ suc (length bytes - 1)
counted [] some = absurd (true≢false some)
counted (octet ∷ octets) some = omega arith

first_left : (bytes : List ℕ) → (length bytes == 0) ≡ false → pieces_in (length bytes) bytes ≡ piece_at bytes ∷ pieces_in (length bytes - 1) (behind (block_of bytes))
first_left bytes some = ap (λ (n : ℕ). pieces_in n bytes) (counted bytes some) ∙ one_left (length bytes - 1) bytes some

-- No octets, and a first block that is refused, with a smallest interval or without.
pub nothing_there : (standing : Option (List ℕ)) (bytes : List ℕ) → (length bytes == 0) ≡ true → request_of standing bytes ≡ Err faults.BlockMissing
unfolding request_of request_in
nothing_there standing bytes empty = rw (none_left (length bytes) bytes empty) refl

pub first_faulty : (standing : Option (List ℕ)) (bytes : List ℕ) (fault : CallFault) → (length bytes == 0) ≡ false → ar_in (piece_at bytes) ≡ Err fault
    → request_of standing bytes ≡ Err fault
unfolding request_of request_in
first_faulty standing bytes fault some h = rw (first_left bytes some, h) refl

pub first_refused : (standing bytes : List ℕ) (ar : Ar) → (length bytes == 0) ≡ false → ar_in (piece_at bytes) ≡ Ok ar
    → request_of (Some standing) bytes ≡ Err (conflict standing ar.uuid)
unfolding request_of request_in
first_refused standing bytes ar some h = rw (first_left bytes some, h) refl

pub nothing_within : (smallest : ℕ) (bytes : List ℕ) → (length bytes == 0) ≡ true → request_within smallest None bytes ≡ Err faults.BlockMissing
unfolding request_within any_short
nothing_within smallest bytes empty = rw (none_left (length bytes) bytes empty) (nothing_there None bytes empty)

pub faulty_within : (smallest : ℕ) (bytes : List ℕ) (fault : CallFault) → (length bytes == 0) ≡ false → ar_in (piece_at bytes) ≡ Err fault
    → request_within smallest None bytes ≡ Err fault
unfolding request_within any_short
faulty_within smallest bytes fault some h = rw (first_left bytes some, h) (first_faulty None bytes fault some h)

-- While a relation exists no interval is looked at.
pub standing_within : (smallest : ℕ) (standing bytes : List ℕ) → request_within smallest (Some standing) bytes ≡ request_of (Some standing) bytes
unfolding request_within any_short
standing_within smallest standing bytes = refl

pub first_good : (smallest : ℕ) (bytes rest : List ℕ) (ar : Ar) → (length bytes == 0) ≡ false → ar_in (piece_at bytes) ≡ Ok ar → rest ≡ behind (block_of bytes)
    → request_within smallest None bytes ≡ behind_within smallest ar (pieces_in (length bytes - 1) rest)
unfolding request_within any_short request_of request_in
first_good smallest bytes rest ar some h e = rw (first_left bytes some, h, e) refl
