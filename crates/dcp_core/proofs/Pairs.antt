-- The pairs of a Get, one after another, and the room that they take.
use Rattle.std.proofs.Common.{◌≡◌, ◌⊎◌, ◌+◌, ◌*◌, ◌≤◌, ◌<◌, ◌++◌, ℕ, Bool, true, false, cond, List, [], ◌∷◌, length, map, take, drop, get_or, refl, sym, ap, ◌∙◌, inl, inr, subst, arith}
use Rattle.std.specs.Prelude.{◌||◌}
use Rattle.std.specs.List.{list_any, flat_map}
use Rattle.std.proofs.lemmas.List.{append-nil, append_assoc, drop_all, drop_more, map_more}
use Rattle.std.proofs.lemmas.List.Folds.{list_any-append}
use Rattle.dcp_core.specs.declared.request.Block.{Block}
use Rattle.dcp_core.specs.declared.kind.Kind.{Kind}
use Rattle.dcp_core.specs.declared.kind.Kind.TheVariants.{AliasName, NameOfStation}
use Rattle.dcp_core.specs.Kinds.{is_same}
use Rattle.dcp_core.specs.Identify.{most_of}
use Rattle.dcp_core.specs.Get.{firsts_of}

-- the kinds of blocks
abbrev pub kinds_in : List Block → List Kind
kinds_in blocks = map (λ (block : Block). block.kind) blocks

-- what was written for the earlier kinds, and what the remaining kinds add
abbrev pub Gets : (Kind → List ℕ) → List ℕ → List Kind → List Kind → List ℕ → Type 0
Gets got written before left all = written ++ flat_map got (firsts_of before left) ≡ all

-- a pair that did not occur before
gets_new : (got : Kind → List ℕ) (written : List ℕ) (before : List Kind) (kind : Kind) (left : List Kind) (all : List ℕ)
    → list_any (is_same kind) before ≡ false → Gets got written before (kind ∷ left) all → Gets got (written ++ got kind) (before ++ kind ∷ []) left all
gets_new got written before kind left all new h =
    let first : firsts_of before (kind ∷ left) ≡ kind ∷ firsts_of (before ++ kind ∷ []) left = rw new refl in
    append_assoc written (got kind) (flat_map got (firsts_of (before ++ kind ∷ []) left))
    ∙ ap (λ (kinds : List Kind). written ++ flat_map got kinds) (sym first) ∙ h

-- a pair that occurred before
gets_again : (got : Kind → List ℕ) (written : List ℕ) (before : List Kind) (kind : Kind) (left : List Kind) (all : List ℕ)
    → list_any (is_same kind) before ≡ true → Gets got written before (kind ∷ left) all → Gets got written (before ++ kind ∷ []) left all
gets_again got written before kind left all again h =
    let first : firsts_of before (kind ∷ left) ≡ firsts_of (before ++ kind ∷ []) left = rw again refl in
    ap (λ (kinds : List Kind). written ++ flat_map got kinds) (sym first) ∙ h

-- the room that the block of a large kind needs beyond that of other kinds, if there is one
abbrev pub beyond : Kind → ℕ → List Kind → ℕ
beyond large more kinds = cond (list_any (is_same large) kinds) more 0

-- the room that names need beyond that of other values
abbrev pub for_names : List Kind → ℕ
for_names kinds = beyond NameOfStation 215 kinds + beyond AliasName 486 kinds

-- only names take more than 32 bytes
is_name_or_small : (kind : Kind) → (kind ≡ NameOfStation) ⊎ ((kind ≡ AliasName) ⊎ (most_of kind ≡ 32))
is_name_or_small NameOfStation = inl refl
is_name_or_small AliasName = inr (inl refl)
is_name_or_small _ = inr (inr refl)

kept : (b d : Bool) (more : ℕ) → cond b more 0 ≤ cond (b || d) more 0
kept true d more = omega arith
kept false true more = omega arith
kept false false more = omega arith

joined : (large : Kind) (before : List Kind) (kind : Kind)
    → list_any (is_same large) (before ++ kind ∷ []) ≡ (list_any (is_same large) before || list_any (is_same large) (kind ∷ []))
joined large before kind = list_any-append (is_same large) before (kind ∷ [])

beyond_again : (large : Kind) (more : ℕ) (before : List Kind) (kind : Kind) → beyond large more before ≤ beyond large more (before ++ kind ∷ [])
beyond_again large more before kind = rw (joined large before kind) (kept (list_any (is_same large) before) (list_any (is_same large) (kind ∷ [])) more)

room_again : (before : List Kind) (kind : Kind) → for_names before ≤ for_names (before ++ kind ∷ [])
room_again before kind =
    let name = beyond_again NameOfStation 215 before kind in
    let alias = beyond_again AliasName 486 before kind in
    omega arith

-- a name that did not occur before takes the room for it
name_new : (before : List Kind) → list_any (is_same NameOfStation) before ≡ false
    → beyond NameOfStation 215 before + 215 ≤ beyond NameOfStation 215 (before ++ NameOfStation ∷ [])
name_new before new = rw (joined NameOfStation before NameOfStation, new) (omega arith)

alias_new : (before : List Kind) → list_any (is_same AliasName) before ≡ false
    → beyond AliasName 486 before + 486 ≤ beyond AliasName 486 (before ++ AliasName ∷ [])
alias_new before new = rw (joined AliasName before AliasName, new) (omega arith)

room_new : (before : List Kind) (kind : Kind) → list_any (is_same kind) before ≡ false → for_names before + most_of kind ≤ for_names (before ++ kind ∷ []) + 32
room_new before kind new = by kind (is_name_or_small kind) new
  where
    Fits : Kind → Type 0
    Fits kind = list_any (is_same kind) before ≡ false → for_names before + most_of kind ≤ for_names (before ++ kind ∷ []) + 32

    named : Fits NameOfStation
    named new = let more = name_new before new in let other = beyond_again AliasName 486 before NameOfStation in omega arith

    aliased : Fits AliasName
    aliased new = let more = alias_new before new in let other = beyond_again NameOfStation 215 before AliasName in omega arith

    by : (kind : Kind) → (kind ≡ NameOfStation) ⊎ ((kind ≡ AliasName) ⊎ (most_of kind ≡ 32)) → Fits kind
    by kind (inr (inr small)) new = let more = room_again before kind in omega arith
    by kind (inl name) new = subst Fits (sym name) named new
    by kind (inr (inl alias)) new = subst Fits (sym alias) aliased new

for_names-most : (kinds : List Kind) → for_names kinds ≤ 701
for_names-most kinds =
    let name = by (list_any (is_same NameOfStation) kinds) 215 in
    let alias = by (list_any (is_same AliasName) kinds) 486 in
    omega arith
  where
    by : (b : Bool) (more : ℕ) → cond b more 0 ≤ more
    by true more = omega arith
    by false more = omega arith

-- the facts about the bytes written for the blocks before an index
pub record IsSoFar (got : Kind → List ℕ) (written : List ℕ) (blocks : List Block) (i : ℕ) : Type 0 where
  -- with what follows they make the whole response
  pub all : Gets got written (kinds_in (take i blocks)) (kinds_in (drop i blocks)) (flat_map got (firsts_of [] (kinds_in blocks)))
  -- they take 32 bytes for each block, and more for the names
  pub room : length written ≤ 32 * i + for_names (kinds_in (take i blocks))

-- the facts before the first block
pub so_far_none : (got : Kind → List ℕ) (written : List ℕ) (blocks : List Block) → written ≡ [] → IsSoFar got written blocks 0
so_far_none got written blocks none = record { all = rw none refl; room = rw none (omega arith) }

-- the facts after the last block
pub so_far_all : (got : Kind → List ℕ) (written : List ℕ) (blocks : List Block) (i : ℕ) → length blocks ≤ i → IsSoFar got written blocks i
    → written ≡ flat_map got (firsts_of [] (kinds_in blocks))
so_far_all got written blocks i end h =
    let none : kinds_in (drop i blocks) ≡ [] = ap kinds_in (drop_all i blocks end) in
    sym (append-nil written)
    ∙ ap (λ (left : List Kind). written ++ flat_map got (firsts_of (kinds_in (take i blocks)) left)) (sym none)
    ∙ h.all

module _ (got : Kind → List ℕ) (blocks : List Block) (i : ℕ) (d : Block) (below : i < length blocks) where
  abbrev whole : List ℕ
  whole = flat_map got (firsts_of [] (kinds_in blocks))

  abbrev kind : Kind
  kind = (get_or blocks i d).kind

  abbrev before : List Kind
  before = kinds_in (take i blocks)

  more_before : kinds_in (take (i + 1) blocks) ≡ before ++ kind ∷ []
  more_before = map_more (λ (block : Block). block.kind) blocks i d below

  less_left : kinds_in (drop i blocks) ≡ kind ∷ kinds_in (drop (i + 1) blocks)
  less_left = ap kinds_in (drop_more blocks i d below)

  pub so_far_new : (written more : List ℕ) → list_any (is_same kind) before ≡ false → more ≡ written ++ got kind → length more ≤ length written + most_of kind
      → IsSoFar got written blocks i → IsSoFar got more blocks (i + 1)
  so_far_new written more new appended most h = record {
    all = rw (appended, more_before) (gets_new got written before kind (kinds_in (drop (i + 1) blocks)) whole new (subst (λ (left : List Kind). Gets got written before left whole) less_left h.all));
    room = let room = room_new before kind new in let was = h.room in rw more_before (omega arith);
  }

  pub so_far_again : (written : List ℕ) → list_any (is_same kind) before ≡ true → IsSoFar got written blocks i → IsSoFar got written blocks (i + 1)
  so_far_again written again h = record {
    all = rw more_before (gets_again got written before kind (kinds_in (drop (i + 1) blocks)) whole again (subst (λ (left : List Kind). Gets got written before left whole) less_left h.all));
    room = let room = room_again before kind in let was = h.room in rw more_before (omega arith);
  }

  -- there is room for one more block
  pub has_room : (written : List ℕ) → list_any (is_same kind) before ≡ false → length blocks ≤ 16 → IsSoFar got written blocks i → length written + most_of kind ≤ 1213
  has_room written new few h =
      let room = room_new before kind new in
      let was = h.room in
      let most = for_names-most (before ++ kind ∷ []) in
      omega arith
