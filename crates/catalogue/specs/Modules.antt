-- The modules of a catalogue.
use Rattle.std.specs.Prelude.{ℕ, List, [], ◌∷◌, Bool, Option, Ok, if◌then◌else◌}
use Rattle.std.specs.List.{list_any}
use Rattle.std.specs.Str.{bytes_eq}
use Rattle.catalogue.specs.declared.keys.key.Key.TheVariants as key
use Rattle.catalogue.specs.keys.Reader.{◌>>=◌, Reader, number_at, text_at, list_at}
use Rattle.catalogue.specs.Submodules.{Submodule, place_where, submodule, unless}

-- A module.
pub record Module : Type 0 where
  pub id : List ℕ
  pub ident : ℕ
  pub submodules : List Submodule

-- one of the modules has this ID
abbrev pub has_id : List ℕ → List Module → Bool
has_id id modules = list_any (λ other. bytes_eq other.id id) modules

-- the place of the first module with this ID, counted from 0
abbrev pub place_of : List ℕ → List Module → Option ℕ
place_of id modules = place_where (λ other. bytes_eq other.id id) modules

-- the submodules of the first module with this ID: an empty list if no module has it
abbrev pub submodules_of : List ℕ → List Module → List Submodule
submodules_of id [] = []
submodules_of id (entry ∷ entries) = if bytes_eq entry.id id then entry.submodules else submodules_of id entries

-- a module, whose ID no module before it has
unfoldable pub module_item : List Module → Reader Module
module_item before tree =
    text_at key.Id tree >>= λ id.
    unless key.Id (has_id id before) (
    number_at key.ModuleIdentNumber 1 4294967295 tree >>= λ ident.
    list_at key.VirtualSubmoduleItem submodule tree >>= λ submodules.
    Ok (record { id = id; ident = ident; submodules = submodules }))
