-- Reading a value of JSON: a function of the value, so that of several faults the first is defined, and its place.
use Rattle.std.specs.Prelude.{◌≡◌, ◌⊎◌, ◌&&◌, ◌++◌, ℕ, Bool, false, List, [], ◌∷◌, length, Option, Some, None, is_some, option_and_then, ok_or, Result, Ok, Err, nat_le, if◌then◌else◌}
pub use Rattle.wire.specs.Codec.{◌>>=◌, Gives}
use Rattle.serde_json.specs.Data.{Data, Items, no_items, item}
use Rattle.serde_json.specs.Find.{get, as_object, as_array, as_bool, as_str, as_number, as_u64}
use Rattle.catalogue.specs.declared.keys.key.Key.{Key}
use Rattle.catalogue.specs.declared.keys.fault.CatalogueFault.{CatalogueFault}
use Rattle.catalogue.specs.declared.keys.fault.CatalogueFault.TheVariants.{MissingKey, WrongKind, Number, OutOfMemory}
use Rattle.catalogue.specs.declared.keys.fault.PlacedFault.{PlacedFault}
use Rattle.catalogue.specs.declared.keys.fault.Step.TheVariants.{At, Entry}
use Rattle.catalogue.specs.keys.Keys.{name_of}
use Rattle.catalogue.specs.keys.Placed.{at_key, behind, here, placed}

-- What is read from a value, or its first fault and the place of that.
abbrev pub Reader : Type 0 → Type 0
Reader A = Data → Result A PlacedFault

-- What is read from one value, or its fault. The caller knows the place.
abbrev pub ValueReader : Type 0 → Type 0
ValueReader A = Data → Result A CatalogueFault

-- What the code returned, by its view, is what is read; or there was not enough memory.
abbrev pub Reads : {A B : Type 0} → (A → B) → Result A PlacedFault → Result B PlacedFault → Type 0
Reads view (Ok value) read = read ≡ Ok (view value)
Reads view (Err found) read = (found.fault ≡ OutOfMemory) ⊎ (read ≡ Err found)

-- the value at a required key
unfoldable pub member : Key → Reader Data
member key tree = if is_some (as_object tree) then ok_or (get (name_of key) tree) (at_key key MissingKey) else Err (here WrongKind)

-- the list that is at a key, or an empty list if nothing is
abbrev pub items_within : Key → Option Data → Result Items PlacedFault
items_within key None = Ok no_items
items_within key (Some tree) = ok_or (as_array tree) (at_key key WrongKind)

-- the list at a key of an object: an empty list if the key is absent
unfoldable pub items_of : Key → Reader Items
items_of key tree = if is_some (as_object tree) then items_within key (get (name_of key) tree) else Err (here WrongKind)

-- a number within its range
abbrev pub within : ℕ → ℕ → ℕ → Result ℕ CatalogueFault
within least greatest n = if nat_le least n && nat_le n greatest then Ok n else Err Number

-- a whole number
unfoldable pub whole : ValueReader ℕ
whole tree = ok_or (option_and_then as_u64 (as_number tree)) WrongKind

-- a whole number, at a key
unfoldable pub whole_at : Key → Reader ℕ
whole_at key tree = member key tree >>= λ value. placed key (whole value)

-- a whole number within a range
unfoldable pub number : ℕ → ℕ → ValueReader ℕ
number least greatest tree = whole tree >>= within least greatest

-- a whole number within a range, at a key
unfoldable pub number_at : Key → ℕ → ℕ → Reader ℕ
number_at key least greatest tree = member key tree >>= λ value. placed key (number least greatest value)

-- the text at a key
unfoldable pub text_at : Key → Reader (List ℕ)
text_at key tree = member key tree >>= λ value. ok_or (as_str value) (at_key key WrongKind)

-- the Boolean that is at a key: false if nothing is
abbrev pub flag_within : Key → Option Data → Result Bool PlacedFault
flag_within key None = Ok false
flag_within key (Some tree) = ok_or (as_bool tree) (at_key key WrongKind)

-- the Boolean at a key of an object: false if the key is absent
unfoldable pub flag_at : Key → Reader Bool
flag_at key tree = if is_some (as_object tree) then flag_within key (get (name_of key) tree) else Err (here WrongKind)

-- one entry after another, each given those before it
abbrev pub each : {A : Type 0} → (List A → Reader A) → List A → Items → Result (List A) PlacedFault
each reader before no_items = Ok before
each reader before (item tree trees) = behind (Entry (length before)) (reader before tree) >>= λ value. each reader (before ++ value ∷ []) trees

-- the entries of the list at a key
unfoldable pub list_at : {A : Type 0} → Key → (List A → Reader A) → Reader (List A)
list_at key reader tree = items_of key tree >>= λ trees. behind (At key) (each reader [] trees)
