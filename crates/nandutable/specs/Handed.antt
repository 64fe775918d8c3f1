-- Octets of a device that C reads where they lie.
use Rattle.std.specs.Prelude.{ℕ, List, [], ◌∷◌, length}
use Rattle.std.specs.Borrow.{full_share}
use base.Fml.{Fml, Lft, fex, fsep, feq, flft}
use base.Logic.{SProp, ex, sep, wand}
use mir.Syntax.{named}
use seplogic.Ra.Ura.{Ura}
use types.Logic.{Logic, sem}
use denote.Builtin.{u8}
use denote.RattleType.{RattleType}
use denote.RawPtr.{Ptr, block_ptr, lies_at}
use denote.Slice.{ShrSlice, slice_val}

-- These octets lie at a place, one after the other, and may be read as long as the lifetime lasts: what is owned by a
-- `&[u8]` whose octets these are, and whose address this is.
abbrev pub lie_for : Lft → Ptr → List ℕ → Fml
lie_for κ place octets = fex (ℕ × ℕ) (λ at. fsep (feq Ptr place (block_ptr at.0 at.1))
    ((ShrSlice (named 0) κ u8).own_val (record { ref_ptr = at; now = octets }) (slice_val at (length octets) ∷ [])))

-- A room is lent for a lifetime, which the caller may end at any time. As long as it lasts these octets lie at this place.
-- Once it is over, the value `new` lies in the room.
abbrev pub Lends : {M : Type 1} {𝓤 : Ura M} → Logic 𝓤 → (R : RattleType) → Ptr → R.Denot → Ptr → List ℕ → SProp 𝓤
Lends {𝓤 = 𝓤} 𝓛 R room new place octets = ex 𝓤 (λ (κ : Lft). sep 𝓤 (sem 𝓛 (flft κ full_share)) (sep 𝓤 (sem 𝓛 (lie_for κ place octets))
    (wand 𝓤 (𝓛.A.dead κ) (𝓛.H.⇛ (sem 𝓛 (lies_at R full_share room new))))))
