-- While no first input is awaited.
use Rattle.std.proofs.Common.{◌≡◌, ◌&&◌, ◌||◌, ℕ, Bool, true, false, nat_lt, List, [], ◌∷◌, map, length, Option, Some, None, if◌then◌else◌, refl, ap, subst, sym, ◌∙◌}
use Rattle.std.proofs.lemmas.List.{length-map}
use Rattle.arrayvec.specs.ArrayVec.{ArrayVec, with_items}
use Rattle.arrayvec.proofs.ArrayVecLemmas.{items-with_items}
use Rattle.wire.specs.blocks.modules.Lists.{Listed}
use Rattle.connect_blocks.specs.declared.module_diff.DiffModule.{DiffModule}
use Rattle.connect_blocks.specs.declared.module_diff.DiffSubmodule.{DiffSubmodule}
use Rattle.module_diff.specs.declared.changes.Affected.{Affected}
use Rattle.module_diff.specs.Changes.{covers}
use Rattle.cyclic_data.specs.declared.place.Place.{Place}
use Rattle.cyclic_data.specs.declared.place.PlaceKind.TheVariants.{Data}
use Rattle.cyclic_data.specs.Layout.{is_of}
use Rattle.expected_places.specs.Machine.{PlugState}
use Rattle.relations.specs.declared.exchange.marks.Mark.{Mark}
use Rattle.relations.specs.exchange.Marks.{MayAwait, NoneAwaited, Starting, awaits, change_by, first_mark, is_awaited_in, mark_at, marked}
use Rattle.relations.specs.exchange.Modules.{renewed_mark, renewed_marks, restated_mark, restated_marks}

-- ---- a relation begins

first_ones : (starting : Starting) (rows : Listed DiffModule DiffSubmodule) (places : List Place) → starting.begin_bad ≡ false → NoneAwaited (map (first_mark starting rows) places)
first_ones starting rows [] good = tt
first_ones starting rows (place ∷ places) good = (ap (λ (b : Bool). b && nat_lt 1 place.size) good, first_ones starting rows places good)

pub begun_await : (starting : Starting) (rows : Listed DiffModule DiffSubmodule) (places : List Place) (marks : List Mark) → marks ≡ map (first_mark starting rows) places
    → MayAwait starting.begin_bad marks
begun_await starting rows places marks is good = subst NoneAwaited (sym is) (first_ones starting rows places good)

-- ---- an input, or a status

changed_one : (status : Option Bool) (mark : Mark) → mark.is_awaited ≡ false → (change_by status mark).is_awaited ≡ false
changed_one None mark none = refl
changed_one (Some is_good) mark none = none

changed_if : (b : Bool) (status : Option Bool) (mark : Mark) → mark.is_awaited ≡ false → (if b then change_by status mark else mark).is_awaited ≡ false
changed_if true status mark none = changed_one status mark none
changed_if false status mark none = none

changed_all : (slot subslot : ℕ) (status : Option Bool) (marks : List Mark) → NoneAwaited marks → NoneAwaited (marked slot subslot (change_by status) marks)
changed_all slot subslot status [] all = tt
changed_all slot subslot status (mark ∷ marks) all = (changed_if (is_of Data slot subslot mark.place) status mark all.0, changed_all slot subslot status marks all.1)

pub changed_await : (may_await : Bool) (slot subslot : ℕ) (status : Option Bool) (marks new : List Mark) → new ≡ marked slot subslot (change_by status) marks → MayAwait may_await marks → MayAwait may_await new
changed_await may_await slot subslot status marks new is known none = subst NoneAwaited (sym is) (changed_all slot subslot status marks (known none))

-- ---- pulls and plugs

restated_all : (plugs : PlugState) (marks : List Mark) → NoneAwaited marks → NoneAwaited (restated_marks plugs marks)
restated_all plugs [] all = tt
restated_all plugs (mark ∷ marks) all = (all.0, restated_all plugs marks all.1)

pub restated_await : (may_await : Bool) (plugs : PlugState) (marks new : List Mark) → new ≡ restated_marks plugs marks → MayAwait may_await marks → MayAwait may_await new
restated_await may_await plugs marks new is known none = subst NoneAwaited (sym is) (restated_all plugs marks (known none))

renewed_if : (b begin_bad : Bool) (mark : Mark) → begin_bad ≡ false → mark.is_awaited ≡ false
    → (if b then record mark { is_awaited = begin_bad && nat_lt 1 mark.place.size; is_bad = false } else mark).is_awaited ≡ false
renewed_if true begin_bad mark good none = ap (λ (b : Bool). b && nat_lt 1 mark.place.size) good
renewed_if false begin_bad mark good none = none

renewed_one : (affected : Affected) (begin_bad : Bool) (mark : Mark) → begin_bad ≡ false → mark.is_awaited ≡ false → (renewed_mark affected begin_bad mark).is_awaited ≡ false
renewed_one affected begin_bad mark good none = renewed_if (covers affected mark.place.slot mark.place.subslot) begin_bad mark good none

renewed_all : (affected : Affected) (begin_bad : Bool) (marks : List Mark) → begin_bad ≡ false → NoneAwaited marks → NoneAwaited (renewed_marks affected begin_bad marks)
renewed_all affected begin_bad [] good all = tt
renewed_all affected begin_bad (mark ∷ marks) good all = (renewed_one affected begin_bad mark good all.0, renewed_all affected begin_bad marks good all.1)

none_of : (one other : Bool) → (one || other) ≡ false → (one ≡ false) × (other ≡ false)
none_of true other none = cc none
none_of false other none = (refl, none)

pub renewed_await : (may_await : Bool) (affected : Affected) (begin_bad : Bool) (marks new : List Mark) → new ≡ renewed_marks affected begin_bad marks → MayAwait may_await marks
    → MayAwait (may_await || begin_bad) new
renewed_await may_await affected begin_bad marks new is known none =
    let both = none_of may_await begin_bad none in
    subst NoneAwaited (sym is) (renewed_all affected begin_bad marks both.1 (known both.0))

-- ---- an input that is not the first

found_if : (b : Bool) (mark : Mark) (found : Option Mark) → mark.is_awaited ≡ false → is_awaited_in found ≡ false → is_awaited_in (if b then Some mark else found) ≡ false
found_if true mark found one other = one
found_if false mark found one other = other

pub none_awaits : (slot subslot : ℕ) (marks : List Mark) → NoneAwaited marks → awaits slot subslot marks ≡ false
none_awaits slot subslot [] all = refl
none_awaits slot subslot (mark ∷ marks) all = found_if (is_of Data slot subslot mark.place) mark (mark_at slot subslot marks) all.0 (none_awaits slot subslot marks all.1)

-- ---- marks that lie where they stay

abbrev changed_to : ArrayVec Mark → List Mark → List Mark
changed_to marks new = (with_items marks new).items

mapped : (f : Mark → Mark) (marks : ArrayVec Mark) (new : List Mark) → new ≡ map f marks.items → changed_to marks new ≡ map f marks.items
mapped f marks new is = items-with_items marks new (ap (λ (xs : List Mark). length xs) is ∙ length-map marks.items f) ∙ is

pub restated_there : (may_await : Bool) (plugs : PlugState) (marks : ArrayVec Mark) (new : List Mark) → new ≡ restated_marks plugs marks.items → MayAwait may_await marks.items
    → MayAwait may_await (changed_to marks new)
restated_there may_await plugs marks new is known = restated_await may_await plugs marks.items (changed_to marks new) (mapped (restated_mark plugs) marks new is) known

pub renewed_there : (may_await now : Bool) (affected : Affected) (begin_bad : Bool) (marks : ArrayVec Mark) (new : List Mark) → now ≡ (may_await || begin_bad) → new ≡ renewed_marks affected begin_bad marks.items
    → MayAwait may_await marks.items → MayAwait now (changed_to marks new)
renewed_there may_await now affected begin_bad marks new either is known =
    subst (λ (b : Bool). MayAwait b (changed_to marks new)) (sym either)
    (renewed_await may_await affected begin_bad marks.items (changed_to marks new) (mapped (renewed_mark affected begin_bad) marks new is) known)
