-- The pairs of a Get, one after another, and the room that they take.
use Rattle.std.proofs.Common.{◌≡◌, ◌⊎◌, ◌+◌, ◌*◌, ◌≤◌, ◌<◌, ◌++◌, ℕ, Bool, true, false, cond, List, [], ◌∷◌, length, map, take, drop, get_or, refl, sym, ap, ◌∙◌, inl, inr, subst, arith}
use Rattle.std.specs.Prelude.{◌||◌}
use Rattle.std.specs.List.{list_any, flat_map}
use Rattle.std.proofs.lemmas.List.{append-nil, append_assoc, drop_all, drop_more, map_more}
use Rattle.std.proofs.lemmas.List.Folds.{list_any-append}
use Rattle.dcp_core.specs.declared.request.Block.{Block}
use Rattle.dcp_core.specs.declared.kind.Kind.{Kind}
use Rattle.dcp_core.specs.declared.kind.Kind.TheVariants.{NameOfStation}
use Rattle.dcp_core.specs.Kinds.{is_same}
use Rattle.dcp_core.specs.Get.{firsts_of}
use Rattle.controller_dcp.specs.Values.{most_of}

-- the kinds of blocks
abbrev pub kinds_in : List Block → List Kind
kinds_in blocks = map (λ (block : Block). block.kind) blocks

-- what was written for the earlier kinds, and what the remaining kinds add
abbrev pub Gets : (Kind → List ℕ) → List ℕ → List Kind → List Kind → List ℕ → Type 0
Gets got written before left all = written ++ flat_map got (firsts_of before left) ≡ all

gets_new : (got : Kind → List ℕ) (written : List ℕ) (before : List Kind) (kind : Kind) (left : List Kind) (all : List ℕ)
    → list_any (is_same kind) before ≡ false → Gets got written before (kind ∷ left) all → Gets got (written ++ got kind) (before ++ kind ∷ []) left all
gets_new got written before kind left all new h =
    let first : firsts_of before (kind ∷ left) ≡ kind ∷ firsts_of (before ++ kind ∷ []) left = rw new refl in
    append_assoc written (got kind) (flat_map got (firsts_of (before ++ kind ∷ []) left))
    ∙ ap (λ (kinds : List Kind). written ++ flat_map got kinds) (sym first) ∙ h

gets_again : (got : Kind → List ℕ) (written : List ℕ) (before : List Kind) (kind : Kind) (left : List Kind) (all : List ℕ)
    → list_any (is_same kind) before ≡ true → Gets got written before (kind ∷ left) all → Gets got written (before ++ kind ∷ []) left all
gets_again got written before kind left all again h =
    let first : firsts_of before (kind ∷ left) ≡ firsts_of (before ++ kind ∷ []) left = rw again refl in
    ap (λ (kinds : List Kind). written ++ flat_map got kinds) (sym first) ∙ h

-- the room that the name needs beyond that of other values
abbrev pub for_name : List Kind → ℕ
for_name kinds = cond (list_any (is_same NameOfStation) kinds) 215 0

-- only the name takes more than 32 octets
is_name_or_small : (kind : Kind) → (kind ≡ NameOfStation) ⊎ (most_of kind ≡ 32)
is_name_or_small NameOfStation = inl refl
is_name_or_small _ = inr refl

kept : (b d : Bool) → cond b 215 0 ≤ cond (b || d) 215 0
kept true d = omega arith
kept false true = omega arith
kept false false = omega arith

joined : (before : List Kind) (kind : Kind)
    → list_any (is_same NameOfStation) (before ++ kind ∷ []) ≡ (list_any (is_same NameOfStation) before || list_any (is_same NameOfStation) (kind ∷ []))
joined before kind = list_any-append (is_same NameOfStation) before (kind ∷ [])

room_again : (before : List Kind) (kind : Kind) → for_name before ≤ for_name (before ++ kind ∷ [])
room_again before kind = rw (joined before kind) (kept (list_any (is_same NameOfStation) before) (list_any (is_same NameOfStation) (kind ∷ [])))

-- a name that did not occur before takes the room for it
name_new : (before : List Kind) → list_any (is_same NameOfStation) before ≡ false → for_name before + 215 ≤ for_name (before ++ NameOfStation ∷ [])
name_new before new = rw (joined before NameOfStation, new) (omega arith)

room_new : (before : List Kind) (kind : Kind) → list_any (is_same kind) before ≡ false → for_name before + most_of kind ≤ for_name (before ++ kind ∷ []) + 32
room_new before kind new = by kind (is_name_or_small kind) new
  where
    Fits : Kind → Type 0
    Fits kind = list_any (is_same kind) before ≡ false → for_name before + most_of kind ≤ for_name (before ++ kind ∷ []) + 32

    named : Fits NameOfStation
    named new = let more = name_new before new in omega arith

    by : (kind : Kind) → (kind ≡ NameOfStation) ⊎ (most_of kind ≡ 32) → Fits kind
    by kind (inr small) new = let more = room_again before kind in omega arith
    by kind (inl name) new = subst Fits (sym name) named new

for_name-most : (kinds : List Kind) → for_name kinds ≤ 215
for_name-most kinds = by (list_any (is_same NameOfStation) kinds)
  where
    by : (b : Bool) → cond b 215 0 ≤ 215
    by true = omega arith
    by false = omega arith

-- the facts about the bytes written for the blocks before an index
pub record IsSoFar (got : Kind → List ℕ) (written : List ℕ) (blocks : List Block) (i : ℕ) : Type 0 where
  -- with what follows they make the whole response
  pub all : Gets got written (kinds_in (take i blocks)) (kinds_in (drop i blocks)) (flat_map got (firsts_of [] (kinds_in blocks)))
  -- they take 32 bytes for each block, and more for the name
  pub room : length written ≤ 32 * i + for_name (kinds_in (take i blocks))

-- the facts before the first block
pub so_far_none : (got : Kind → List ℕ) (written : List ℕ) (blocks : List Block) → written ≡ [] → IsSoFar got written blocks 0
so_far_none got written blocks none = record { all = rw none refl; room = rw none (omega arith) }

-- the facts after the last block
pub so_far_all : (got : Kind → List ℕ) (written : List ℕ) (blocks : List Block) (i : ℕ) → length blocks ≤ i → IsSoFar got written blocks i
    → written ≡ flat_map got (firsts_of [] (kinds_in blocks))
so_far_all got written blocks i end h =
    let none : kinds_in (drop i blocks) ≡ [] = ap kinds_in (drop_all i blocks end) in
    sym (append-nil written)
    ∙ ap (λ (left : List Kind). written ++ flat_map got (firsts_of (kinds_in (take i blocks)) left)) (sym none)
    ∙ h.all

module _ (got : Kind → List ℕ) (blocks : List Block) (i : ℕ) (d : Block) (below : i < length blocks) where
  abbrev whole : List ℕ
  whole = flat_map got (firsts_of [] (kinds_in blocks))

  abbrev kind : Kind
  kind = (get_or blocks i d).kind

  abbrev before : List Kind
  before = kinds_in (take i blocks)

  more_before : kinds_in (take (i + 1) blocks) ≡ before ++ kind ∷ []
  more_before = map_more (λ (block : Block). block.kind) blocks i d below

  less_left : kinds_in (drop i blocks) ≡ kind ∷ kinds_in (drop (i + 1) blocks)
  less_left = ap kinds_in (drop_more blocks i d below)

  pub so_far_new : (written more : List ℕ) → list_any (is_same kind) before ≡ false → more ≡ written ++ got kind → length more ≤ length written + most_of kind
      → IsSoFar got written blocks i → IsSoFar got more blocks (i + 1)
  so_far_new written more new appended most h = record {
    all = rw (appended, more_before) (gets_new got written before kind (kinds_in (drop (i + 1) blocks)) whole new (subst (λ (left : List Kind). Gets got written before left whole) less_left h.all));
    room = let room = room_new before kind new in let was = h.room in rw more_before (omega arith);
  }

  pub so_far_again : (written : List ℕ) → list_any (is_same kind) before ≡ true → IsSoFar got written blocks i → IsSoFar got written blocks (i + 1)
  so_far_again written again h = record {
    all = rw more_before (gets_again got written before kind (kinds_in (drop (i + 1) blocks)) whole again (subst (λ (left : List Kind). Gets got written before left whole) less_left h.all));
    room = let room = room_again before kind in let was = h.room in rw more_before (omega arith);
  }

  -- there is room for one more block
  pub has_room : (written : List ℕ) → list_any (is_same kind) before ≡ false → length blocks ≤ 16 → IsSoFar got written blocks i → length written + most_of kind ≤ 1213
  has_room written new few h =
      let room = room_new before kind new in
      let was = h.room in
      let most = for_name-most (before ++ kind ∷ []) in
      omega arith
