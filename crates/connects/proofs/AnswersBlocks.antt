-- One block of the answer to a Connect after another.
use Rattle.std.proofs.Common.{◌≡◌, ◌==◌, ℕ, suc, true, false, List, length, Some, None, refl}
use Rattle.connects.specs.declared.answers.connect.Found.{Found}
use Rattle.connects.specs.answers.Connect.{found_in, next_found}

-- No octet remains: what was found is all.
pub ends : (more most : ℕ) (bytes : List ℕ) (found : Found) → more ≡ suc most → (length bytes == 0) ≡ true → found_in more bytes found ≡ Some found
unfolding found_in
ends more most bytes found count empty = rw (count, empty) refl

-- One more block.
pub goes_on : (more most : ℕ) (bytes rest : List ℕ) (found next : Found) → more ≡ suc most → (length bytes == 0) ≡ false
    → next_found found bytes ≡ Some (next, rest) → found_in more bytes found ≡ found_in most rest next
unfolding found_in
goes_on more most bytes rest found next count some read = rw (count, some, read) refl

-- A block that cannot be read.
pub stops : (more most : ℕ) (bytes : List ℕ) (found : Found) → more ≡ suc most → (length bytes == 0) ≡ false
    → next_found found bytes ≡ None → found_in more bytes found ≡ None
unfolding found_in
stops more most bytes found count some read = rw (count, some, read) refl

-- The maximum number of blocks.
pub out_of : (most : ℕ) (bytes : List ℕ) (found : Found) → most ≡ 0 → found_in most bytes found ≡ None
unfolding found_in
out_of most bytes found none = rw none refl
