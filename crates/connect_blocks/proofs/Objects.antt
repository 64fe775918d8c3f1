-- Lists of places in a frame.
use Rattle.std.proofs.Common.{◌≡◌, ◌+◌, ◌-◌, ◌*◌, ◌<◌, ◌≤◌, ℕ, zero, suc, Bool, true, false, cond, subst, List, [], ◌∷◌, ◌++◌, length, take, drop, get_or, Ok, Err, refl, sym, ap, ◌∙◌, arith}
use Rattle.std.specs.Prelude.{nat_lt, slice_get, Some, if◌then◌else◌}
use Rattle.std.proofs.lemmas.Bool.{lt-ltb}
use Rattle.std.proofs.lemmas.Option.{get_or_from_slice_get, slice_get_read}
use Rattle.std.proofs.lemmas.List.{take_more, length-take, length-append, length-drop, take_all, drop_at, drop-drop}
use Rattle.wire.specs.Counted.{size_each, read_each, write_each, FitsEach}
use Rattle.wire.specs.Codec.{◌>>=◌}
use Rattle.wire.proofs.Fields.{bind_ok, ok_is}
use Rattle.wire.proofs.Counts.{fits_more, write_more, write_done}
use Rattle.wire.specs.declared.blocks.fault.BlockFault.{BlockFault}
use Rattle.wire.specs.declared.blocks.fault.BlockFault.TheVariants.{Count}
use Rattle.wire.specs.blocks.Fields.{two}
use Rattle.connect_blocks.specs.declared.io_object.IoObject.{IoObject}
use Rattle.connect_blocks.specs.Objects.{io_object, next_object, io_objects}
use Rattle.connect_blocks.proofs.Sound.{io_object_sound}

-- Each place takes six octets.
pub objects_size : (before objects : List IoObject) → size_each next_object before objects ≡ 6 * length objects
unfolding next_object io_object
objects_size before [] = omega arith
objects_size before (object ∷ objects) = omega (arith, objects_size (before ++ object ∷ []) objects)

-- ---- reading a list from its count and its places

pub objects_ok : (bytes first : List ℕ) (count : ℕ) (objects : List IoObject) (rest : List ℕ)
    → two.read bytes ≡ Ok (count, first) → read_each next_object count [] first ≡ Ok (objects, rest) → io_objects.read bytes ≡ Ok (objects, rest)
unfolding io_objects
objects_ok bytes first count objects rest a b = rw (a, b) refl

pub objects_err : (bytes first : List ℕ) (count : ℕ) (fault : BlockFault)
    → two.read bytes ≡ Ok (count, first) → read_each next_object count [] first ≡ Err fault → io_objects.read bytes ≡ Err fault
unfolding io_objects
objects_err bytes first count fault a b = rw (a, b) refl

-- ---- one place of a list that was read

-- The octets after a prefix of `n` octets.
pass : (bytes front rest : List ℕ) (n : ℕ) → length front ≡ n → bytes ≡ front ++ rest → rest ≡ drop n bytes
pass bytes front rest n long e = rw e (sym (drop_at front rest n long))

-- The octets after a place.
object_left : (bytes : List ℕ) (object : IoObject) (rest : List ℕ) → io_object.read bytes ≡ Ok (object, rest) → rest ≡ drop 6 bytes
unfolding io_object
object_left bytes object rest e =
    let s = io_object_sound.takes bytes object rest e in
    let one = pass bytes s.2.1.0 s.2.0 2 s.2.1.1 s.2.1.2 in
    let two_more = pass s.2.0 s.2.2.1.0 s.2.2.0 2 s.2.2.1.1 s.2.2.1.2 in
    let last = pass s.2.2.0 s.2.2.2.0 rest 2 s.2.2.2.1 s.2.2.2.2 in
    last ∙ ap (λ (xs : List ℕ). drop 2 xs) two_more ∙ ap (λ (xs : List ℕ). drop 2 (drop 2 xs)) one
    ∙ ap (λ (xs : List ℕ). drop 2 xs) (drop-drop 2 2 bytes) ∙ drop-drop 2 4 bytes

-- A place takes six octets.
object_takes : (bytes : List ℕ) (object : IoObject) (rest : List ℕ) → io_object.read bytes ≡ Ok (object, rest) → length bytes ≡ 6 + length rest
unfolding io_object
object_takes bytes object rest e =
    let s = io_object_sound.takes bytes object rest e in
    let one = s.2.1 in
    let other = s.2.2.1 in
    let last = s.2.2.2 in
    omega (
      arith,
      ap (λ (xs : List ℕ). length xs) one.2,
      length-append one.0 s.2.0,
      one.1,
      ap (λ (xs : List ℕ). length xs) other.2,
      length-append other.0 s.2.2.0,
      other.1,
      ap (λ (xs : List ℕ). length xs) last.2,
      length-append last.0 rest,
      last.1,
    )

-- A choice whose result is a value.
chosen : (b : Bool) (x y : IoObject × List ℕ) → cond b (Ok x) (Err Count) ≡ Ok y → x ≡ y
chosen true x y e = ok_is {F = BlockFault} x y e
chosen false x y e = absurd cc

-- A place that is read after others is a place.
next_is : (before : List IoObject) (bytes : List ℕ) (x : IoObject × List ℕ) → (next_object before).read bytes ≡ Ok x → io_object.read bytes ≡ Ok x
unfolding next_object
next_is before bytes x e =
    let a = bind_ok (io_object.read bytes) (λ y. if nat_lt (length before) 256 then Ok y else Err Count) x e in
    a.1 ∙ ap (λ (y : IoObject × List ℕ). Ok y) (chosen (nat_lt (length before) 256) a.0 x a.2)

-- The place with index `k` starts 6 * k octets into the list.
place_of : (count : ℕ) (before : List IoObject) (bytes : List ℕ) (objects : List IoObject) (rest : List ℕ) (k : ℕ) (d : IoObject)
    → read_each next_object count before bytes ≡ Ok (objects, rest) → k < length objects
    → (behind : List ℕ) × (io_object.read (drop (6 * k) bytes) ≡ Ok (get_or objects k d, behind)) × (6 * k ≤ length bytes)
unfolding read_each
place_of zero before bytes objects rest k d e below =
    let same = ok_is {F = BlockFault} ([], bytes) (objects, rest) e in absurd (omega (arith, below, ap (λ (p : List IoObject × List ℕ). length p.0) same))
place_of (suc count) before bytes objects rest zero d e below =
    let a = bind_ok ((next_object before).read bytes) (λ x. read_each next_object count (before ++ x.0 ∷ []) x.1 >>= λ y. Ok (x.0 ∷ y.0, y.1)) (objects, rest) e in
    let b = bind_ok (read_each next_object count (before ++ a.0.0 ∷ []) a.0.1) (λ y. Ok (a.0.0 ∷ y.0, y.1)) (objects, rest) a.2 in
    let same : a.0.0 ∷ b.0.0 ≡ objects = ap (λ (p : List IoObject × List ℕ). p.0) (ok_is {F = BlockFault} (a.0.0 ∷ b.0.0, b.0.1) (objects, rest) b.2) in
    subst (λ (all : List IoObject). (behind : List ℕ) × (io_object.read bytes ≡ Ok (get_or all 0 d, behind)) × (0 ≤ length bytes)) same (a.0.1, next_is before bytes a.0 a.1, omega arith)
place_of (suc count) before bytes objects rest (suc k) d e below =
    let a = bind_ok ((next_object before).read bytes) (λ x. read_each next_object count (before ++ x.0 ∷ []) x.1 >>= λ y. Ok (x.0 ∷ y.0, y.1)) (objects, rest) e in
    let b = bind_ok (read_each next_object count (before ++ a.0.0 ∷ []) a.0.1) (λ y. Ok (a.0.0 ∷ y.0, y.1)) (objects, rest) a.2 in
    let same : a.0.0 ∷ b.0.0 ≡ objects = ap (λ (p : List IoObject × List ℕ). p.0) (ok_is {F = BlockFault} (a.0.0 ∷ b.0.0, b.0.1) (objects, rest) b.2) in
    let more : k < length b.0.0 = omega (arith, below, ap (λ (xs : List IoObject). length xs) same) in
    let others = place_of count (before ++ a.0.0 ∷ []) a.0.1 b.0.0 b.0.1 k d b.1 more in
    let number : 6 + 6 * k ≡ 6 * suc k = omega arith in
    let inside : 6 * suc k ≤ length bytes = omega (arith, number, others.2, object_takes bytes a.0.0 a.0.1 (next_is before bytes a.0 a.1)) in
    let there : drop (6 * k) a.0.1 ≡ drop (6 * suc k) bytes =
    ap (λ (xs : List ℕ). drop (6 * k) xs) (object_left bytes a.0.0 a.0.1 (next_is before bytes a.0 a.1)) ∙ drop-drop (6 * k) 6 bytes ∙ ap (λ n. drop n bytes) number in
    subst (λ (all : List IoObject). (behind : List ℕ) × (io_object.read (drop (6 * suc k) bytes) ≡ Ok (get_or all (suc k) d, behind)) × (6 * suc k ≤ length bytes)) same
    (others.0, subst (λ (xs : List ℕ). io_object.read xs ≡ Ok (get_or b.0.0 k d, others.0)) there others.1, inside)

-- The facts about a list that was read.
module _ (count : ℕ) (bytes : List ℕ) (objects : List IoObject) (rest : List ℕ) (k : ℕ) (all : read_each next_object count [] bytes ≡ Ok (objects, rest)) (below : k < length objects) where
  -- The octets reach to the place.
  pub place_inside : 6 * k ≤ length bytes
  place_inside = (place_of count [] bytes objects rest k (record { slot_number = 0; subslot_number = 0; frame_offset = 0 }) all below).2

  -- The slice from the place on is the rest of the octets there.
  part : take (length bytes - 6 * k) (drop (6 * k) bytes) ≡ drop (6 * k) bytes
  part = take_all _ (drop (6 * k) bytes) (omega (arith, length-drop (6 * k) bytes))

  -- The octets at that offset are read as the place.
  pub place_found : (object : IoObject) (behind : List ℕ) → io_object.read (take (length bytes - 6 * k) (drop (6 * k) bytes)) ≡ Ok (object, behind) → slice_get objects k ≡ Some object
  place_found object behind e =
      let there = place_of count [] bytes objects rest k object all below in
      let same = ok_is {F = BlockFault} (object, behind) (get_or objects k object, there.0) (sym e ∙ ap (λ (xs : List ℕ). io_object.read xs) part ∙ there.1) in
      slice_get_read objects (length objects) k object refl below (ap (λ (x : IoObject × List ℕ). x.0) same)

  -- Reading the place there does not fail.
  pub place_missed : (fault : BlockFault) → io_object.read (take (length bytes - 6 * k) (drop (6 * k) bytes)) ≡ Err fault → ⊥
  place_missed fault e =
      let there = place_of count [] bytes objects rest k (record { slot_number = 0; subslot_number = 0; frame_offset = 0 }) all below in
      apart _ _ (sym there.1 ∙ sym (ap (λ (xs : List ℕ). io_object.read xs) part) ∙ e)
    where
      apart : (x : IoObject × List ℕ) (f : BlockFault) → Ok x ≡ Err f → ⊥
      apart x f e = absurd cc

-- ---- writing a list

-- The state of writing after the first `i` places.
pub record IsPut (initial out : List ℕ) (objects : List IoObject) (i : ℕ) : Type 0 where
  -- The places written and those still to be written make up the whole list.
  pub items : (tail : List ℕ) → out ++ write_each next_object (take i objects) (drop i objects) tail ≡ initial ++ write_each next_object [] objects tail
  -- Each place took six octets.
  pub room : length out ≡ length initial + 6 * i
  -- The places written so far fit.
  pub fits : FitsEach next_object [] (take i objects)

pub put_starts : (initial : List ℕ) (objects : List IoObject) → IsPut initial initial objects 0
put_starts initial objects = record { items = λ tail. refl; room = omega arith; fits = tt }

pub put_one : (initial old new : List ℕ) (objects : List IoObject) (i : ℕ) (object : IoObject) → i < length objects → length objects ≤ 256
    → slice_get objects i ≡ Some object → ((tail : List ℕ) → new ++ tail ≡ old ++ io_object.write object tail) → length new ≡ length old + 6 → io_object.Fits object
    → IsPut initial old objects i → IsPut initial new objects (i + 1)
unfolding next_object
put_one initial old new objects i object below few there one long fit so_far =
    let same : get_or objects i object ≡ object = get_or_from_slice_get objects i object object there in
    let front : take (i + 1) objects ≡ take i objects ++ object ∷ [] = take_more objects i object below ∙ ap (λ (x : IoObject). take i objects ++ x ∷ []) same in
    let short : length (take i objects) < 256 = omega (arith, length-take i objects) in
    let may : nat_lt (length (take i objects)) 256 ≡ true = lt-ltb _ _ short in
    record {
      items = λ tail.
          let behind = write_each next_object (take (i + 1) objects) (drop (i + 1) objects) tail in
          one behind
          ∙ ap (λ (x : IoObject). old ++ io_object.write x behind) (sym same)
          ∙ ap (λ (xs : List ℕ). old ++ xs) (sym (write_more next_object objects i object tail below))
          ∙ so_far.items tail;
      room = let was = so_far.room in omega arith;
      fits = rw front (fits_more next_object [] (take i objects) object so_far.fits (may, fit));
    }

pub put_all : (initial out : List ℕ) (objects : List IoObject) (i : ℕ) → length objects ≤ i → IsPut initial out objects i
    → (tail : List ℕ) → out ++ tail ≡ initial ++ write_each next_object [] objects tail
put_all initial out objects i end so_far tail =
    ap (λ (xs : List ℕ). out ++ xs) (sym (write_done next_object objects i tail end)) ∙ so_far.items tail

-- The octets of a count and its places, followed by the rest.
pub objects_put : (old mid out : List ℕ) (list : List IoObject) → ((tail : List ℕ) → mid ++ tail ≡ old ++ two.write (length list) tail)
    → ((tail : List ℕ) → out ++ tail ≡ mid ++ write_each next_object [] list tail) → (tail : List ℕ) → out ++ tail ≡ old ++ io_objects.write list tail
unfolding io_objects
objects_put old mid out list count all tail = all tail ∙ count (write_each next_object [] list tail)

-- The number of octets that a list takes.
pub list_size : (list : List IoObject) → io_objects.size list ≡ 2 + 6 * length list
unfolding io_objects
list_size list = omega (arith, objects_size [] list)

-- A list of at most 256 places whose places fit can be written.
pub list_fits : (list : List IoObject) → length list ≤ 256 → FitsEach next_object [] list → io_objects.Fits list
unfolding io_objects
list_fits list few fits = (omega (arith, few), (refl, fits))
