-- The lists are sound. Reading goes on after an entry or ends at a fault.
use Rattle.std.proofs.Common.{◌≡◌, ℕ, ◌+◌, ◌<◌, List, [], ◌∷◌, ◌++◌, length, take, drop, sum_by, Ok, Err, refl, sym, ap, subst, arith}
use Rattle.std.proofs.lemmas.List.{length-append, take-append-drop, length-take-le}
use Rattle.std.proofs.lemmas.List.Sums.{sum_by-cons}
use Rattle.wire.specs.Codec.{Codec, IsSound}
use Rattle.wire.specs.Nested.{SpellOuter}
use Rattle.wire.proofs.Counts.{bounded_sound}
use Rattle.wire.proofs.Joined.{seen_sound}
use Rattle.wire.proofs.Nesting.{nested_sound, inner_goes_on, inner_fails, inner_ends, outer_goes_on, outer_fails, outer_fails_inside, outer_ends}
use Rattle.wire.specs.declared.blocks.fault.BlockFault.{BlockFault}
use Rattle.wire.specs.declared.blocks.fault.BlockFault.TheVariants.{Count}
use Rattle.wire.specs.blocks.Fields.{two}
use Rattle.wire.proofs.BlocksSound.{numeral_sound}
use Rattle.wire.specs.blocks.modules.Lists.{Listed, next_entry, module_list, listed_modules, submodules_read, modules_read}

next_sound : {E : Type 0} (format : List E → Codec BlockFault E) → ((before : List E) → IsSound (format before)) → (start : ℕ) (before : List E)
    → IsSound (next_entry format start before)
unfolding next_entry
next_sound format sound start before = bounded_sound (λ all. format (drop start all)) (λ all. sound (drop start all)) 256 Count before

module _ {S : Type 0} (item : List S → Codec BlockFault S) (start : ℕ) (before : List S) (bytes : List ℕ) where
  pub submodules_go_on : (behind : List ℕ) (entry : S) (left n : ℕ) → left ≡ n + 1 → (next_entry item start before).read bytes ≡ Ok (entry, behind)
      → submodules_read item start left before bytes ≡ submodules_read item start n (before ++ entry ∷ []) behind
  unfolding submodules_read
  submodules_go_on behind entry left n h e = inner_goes_on (next_entry item start) before bytes left entry behind n h e

  pub submodules_fail : (fault : BlockFault) (left : ℕ) → 0 < left → (next_entry item start before).read bytes ≡ Err fault → submodules_read item start left before bytes ≡ Err fault
  unfolding submodules_read
  submodules_fail fault left h e = inner_fails (next_entry item start) before bytes left fault h e

  pub submodules_end : (left : ℕ) → left ≡ 0 → submodules_read item start left before bytes ≡ Ok (before, bytes)
  unfolding submodules_read
  submodules_end left h = inner_ends (next_entry item start) before bytes left h

module _ {M S : Type 0} (head : List M → Codec BlockFault M) (own : M → ℕ) (item : List S → Codec BlockFault S) where
  modules_sound : ((before : List M) → IsSound (head before)) → ((before : List S) → IsSound (item before)) → IsSound (module_list head own item)
  unfolding module_list
  modules_sound heads items = nested_sound (next_entry head 0) own (next_entry item) (next_sound head heads 0) (next_sound item items) two (numeral_sound 2)

  pub listed_sound : ((before : List M) → IsSound (head before)) → ((before : List S) → IsSound (item before)) → IsSound (listed_modules head own item)
  unfolding listed_modules
  listed_sound heads items = seen_sound _ _ _ (λ _. refl) (modules_sound heads items)

  pub modules_go_on : (modules : List M) (submodules more : List S) (bytes behind rest : List ℕ) (entry : M) (left n : ℕ) → left ≡ n + 1
      → (next_entry head 0 modules).read bytes ≡ Ok (entry, behind) → submodules_read item (length submodules) (own entry) submodules behind ≡ Ok (more, rest)
      → modules_read head own item left modules submodules bytes ≡ modules_read head own item n (modules ++ entry ∷ []) more rest
  unfolding modules_read submodules_read
  modules_go_on modules submodules more bytes behind rest entry left n h e f =
      outer_goes_on (next_entry head 0) own (next_entry item) modules submodules bytes left entry more behind rest n h e f

  pub modules_fail : (modules : List M) (submodules : List S) (bytes : List ℕ) (fault : BlockFault) (left : ℕ) → 0 < left
      → (next_entry head 0 modules).read bytes ≡ Err fault → modules_read head own item left modules submodules bytes ≡ Err fault
  unfolding modules_read
  modules_fail modules submodules bytes fault left h e = outer_fails (next_entry head 0) own (next_entry item) modules submodules bytes left fault h e

  pub modules_fail_inside : (modules : List M) (submodules : List S) (bytes behind : List ℕ) (entry : M) (fault : BlockFault) (left : ℕ) → 0 < left
      → (next_entry head 0 modules).read bytes ≡ Ok (entry, behind) → submodules_read item (length submodules) (own entry) submodules behind ≡ Err fault
      → modules_read head own item left modules submodules bytes ≡ Err fault
  unfolding modules_read submodules_read
  modules_fail_inside modules submodules bytes behind entry fault left h e f =
      outer_fails_inside (next_entry head 0) own (next_entry item) modules submodules bytes left entry behind fault h e f

  pub modules_end : (modules : List M) (submodules : List S) (bytes : List ℕ) (left : ℕ) → left ≡ 0
      → modules_read head own item left modules submodules bytes ≡ Ok ((modules, submodules), bytes)
  unfolding modules_read
  modules_end modules submodules bytes left h = outer_ends (next_entry head 0) own (next_entry item) modules submodules bytes left h

-- ---- what is spelled

module _ {M S : Type 0} (head : List M → Codec BlockFault M) (own : M → ℕ) (item : List S → Codec BlockFault S) where
  outer_counted : (first : List M) (second : List S) (bytes : List ℕ) (modules : List M) (submodules : List S) (rest : List ℕ)
      → SpellOuter (next_entry head 0) own (next_entry item) first second bytes modules submodules rest → sum_by own modules ≡ length submodules
  outer_counted first second bytes [] submodules rest s = sym (ap (λ (xs : List S). length xs) s.0)
  outer_counted first second bytes (entry ∷ modules) submodules rest s =
      let n = own entry in
      let others : sum_by own modules ≡ length (drop n submodules) =
      outer_counted (first ++ entry ∷ []) (second ++ take n submodules) s.1 modules (drop n submodules) rest s.5 in
      let sum : sum_by own (entry ∷ modules) ≡ n + sum_by own modules = sum_by-cons own entry modules in
      let mine : length (take n submodules) ≡ n = length-take-le n submodules s.3 in
      let both : length (take n submodules) + length (drop n submodules) ≡ length submodules =
      rw (← length-append (take n submodules) (drop n submodules), take-append-drop n submodules) refl in
      omega (arith, others, sum, mine, both)

  -- The counts of the modules add up to the number of submodules.
  pub listed_counted : (bytes : List ℕ) (value : Listed M S) (rest : List ℕ) → (listed_modules head own item).Spells bytes value rest
      → sum_by own value.modules ≡ length value.submodules
  unfolding listed_modules module_list
  listed_counted bytes value rest s =
      subst (λ (x : Listed M S). sum_by own x.modules ≡ length x.submodules) s.1
      (outer_counted [] [] s.2.0 s.0.0 s.0.1 rest s.2.2)
