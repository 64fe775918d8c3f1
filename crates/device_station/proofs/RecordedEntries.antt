-- Stored calls.
use Rattle.std.proofs.Common.{◌≡◌, ◌+◌, ◌-◌, ◌≤◌, ℕ, zero, suc, Option, Some, None, Result, Ok, Err, Bool, true, false, List, [], ◌∷◌, length, drop, map, refl, sym, ap, ◌∙◌}
use Rattle.std.specs.Prelude.{◌&&◌, IsOk, OnOk, slice_get, nat_le}
use Rattle.std.specs.List.{list_all}
use Rattle.std.proofs.lemmas.Bool.{and_from, and_parts, leb-true}
use Rattle.std.proofs.lemmas.List.Folds.{list_all-append}
use Rattle.flash_model.specs.Calls.{Call, Programs}
use Rattle.flash_model.specs.declared.flash.Sector.{Sector}
use Rattle.device_station.specs.recorded.Fits.{entry_fits, fits_in}
use Rattle.device_station.specs.recorded.Pushed.{pushed}
use Rattle.device_station.specs.declared.recorded.entry.Entry.{Entry}
use Rattle.device_station.specs.declared.recorded.entry.Entry.TheVariants.{Program}

-- ---- what holds of each of them

all_dropped : {A : Type 0} (test : A → Bool) (many : ℕ) (all : List A) → list_all test all ≡ true → list_all test (drop many all) ≡ true
all_dropped test zero all holds = holds
all_dropped test (suc many) [] holds = refl
all_dropped test (suc many) (one ∷ all) holds = all_dropped test many all (and_parts (test one) (list_all test all) holds).1

pub all_pushed : (test : Entry → Bool) (recent : List Entry) (entry : Entry) → list_all test recent ≡ true → test entry ≡ true → list_all test (pushed recent entry) ≡ true
all_pushed test recent entry all one =
    let kept = drop (length recent - 47) recent in
    list_all-append test kept (entry ∷ []) ∙ and_from (list_all test kept) (list_all test (entry ∷ [])) (all_dropped test (length recent - 47) recent all) (and_from (test entry) true one refl)

abbrev test_or : (Entry → Bool) → Option Entry → Bool
test_or test None = false
test_or test (Some entry) = test entry

pub all_at : (test : Entry → Bool) (entries : List Entry) (k : ℕ) (entry : Entry) → list_all test entries ≡ true → slice_get entries k ≡ Some entry → test entry ≡ true
all_at test [] k entry all is = cc is
all_at test (one ∷ entries) zero entry all is = ap (test_or test) (sym is) ∙ (and_parts (test one) (list_all test entries) all).0
all_at test (one ∷ entries) (suc k) entry all is = all_at test entries k entry (and_parts (test one) (list_all test entries) all).1 is

-- ---- one of them, read

abbrev map_or : (Entry → Call) → Option Entry → Option Call
map_or read None = None
map_or read (Some entry) = Some (read entry)

-- The stored call at a position is that of the entry there.
pub read_at : (read : Entry → Call) (entries : List Entry) (k : ℕ) (entry : Entry) → slice_get entries k ≡ Some entry → slice_get (map read entries) k ≡ Some (read entry)
read_at read [] k entry is = cc is
read_at read (one ∷ entries) zero entry is = ap (map_or read) is
read_at read (one ∷ entries) (suc k) entry is = read_at read entries k entry is

-- A stored program call lies in its sector.
pub program_fits : (size : ℕ) (sector : Sector) (place many : ℕ) → entry_fits size (Program sector place many) ≡ true → (many ≤ 437) × (place + many ≤ size)
program_fits size sector place many fits =
    let both = and_parts (nat_le many 437) (nat_le (place + many) size) fits in
    (leb-true many 437 both.0, leb-true (place + many) size both.1)

-- That many bytes fit.
pub bytes_fit : (size : ℕ) (sector : Sector) (place many : ℕ) (bytes : List ℕ) → length bytes ≡ many → entry_fits size (Program sector place many) ≡ true → fits_in size (Programs sector place bytes) ≡ true
bytes_fit size sector place many bytes is fits = ap (λ n. nat_le n 437 && nat_le (place + n) size) is ∙ fits

-- ---- a result

pub on_ok : {T E P : Type 0} (result : Result T E) → IsOk result → OnOk result P → P
on_ok (Ok value) ok is = is
on_ok (Err fault) ok is = cc ok
