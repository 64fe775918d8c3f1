-- The effect of a step of the device: accepted records stay accepted, the invariant of its relation is kept, and what
-- it sends is fine.
use Rattle.std.proofs.Common.{◌≡◌, ◌⊎◌, inl, inr, ◌+◌, ◌<◌, ◌≤◌, ◌&&◌, ℕ, zero, suc, Bool, true, false, List, [], ◌∷◌, ◌++◌, length, Option, Some, None, refl, sym, ap, subst, ◌∙◌, append_assoc, append-nil, length-append, arith}
use Rattle.std.proofs.lemmas.Bool.{and_parts, leb-true, leb-false}
use Rattle.std.specs.List.{AllByRecursion}
use Rattle.std.specs.Prelude.{nat_le, slice_get}
use Rattle.end_laws.specs.both.Small.{Ask, Connects, Writes, Parameterized, Releases, Accesses, ToDevice, Call, Confirms, Idle, Reply, Answers, Readies, Nothing, Rules, Started, Awaiting, Exchanging, RelationState, Kept, Device}
use Rattle.end_laws.specs.both.Steps.{IsAsked, IsNew, IsPart, IsSameOrNone, made, records_before, records_of, TakesRecords, PassesOn, TakesSome, IsParameterized, Carries, Written, Succeeds, ComesBy, Comes, Forgets, IsReady, IsDull, IsAnswered, IsAgain, IsQuestion, Rests, GoesBy, Replies, DeviceSteps}
use Rattle.end_laws.proofs.BothEach.{none_is, part_all, part_both, part_few, part_front, part_whole}
use Rattle.end_laws.proofs.BothHolds.{At, IsOld, IsSomeKept, TookIn, Took, earlier, IsPast, HasPart, IsHeld, IsHeldIn, HoldsAt, Behind, IsCall, TellsDevice, Reported, IsResponse, TellsController, IsFine, AreFine, KeepsFine, Unconfirmed}
use Rattle.end_laws.proofs.BothGoes.{Grows, are_fine_on, keeps_on, same_grows, fine_as, fine_at_most}

module _ {T Q : Type 0} (rules : Rules T Q) where
  -- ---- the records of the first Writes

  -- their number
  abbrev pub size : ℕ → ℕ
  size number = length (records_before rules number)

  -- those of more Writes begin with those of fewer
  more : (number later : ℕ) → number ≤ later → (rest : List T) × (records_before rules later ≡ records_before rules number ++ rest)
  more zero zero few = ([], refl)
  more (suc number) zero few = absurd (omega (arith, few))
  more number (suc later) few = by_order (nat_le number later) refl (more number later)
    where
      by_order : (b : Bool) → nat_le number later ≡ b → (number ≤ later → (rest : List T) × (records_before rules later ≡ records_before rules number ++ rest))
          → (rest : List T) × (records_before rules (suc later) ≡ records_before rules number ++ rest)
      by_order true e before =
          let there = before (leb-true number later e) in (
            there.0 ++ rules.group later,
            ap (λ (xs : List T). xs ++ rules.group later) there.1 ∙ append_assoc (records_before rules number) there.0 (rules.group later),
          )
      by_order false e before =
          let same : suc later ≡ number = omega (arith, few, leb-false number later e) in
          ([], ap (λ (n : ℕ). records_before rules n) same ∙ sym (append-nil (records_before rules number)))

  size_grows : (number later : ℕ) → number ≤ later → size number ≤ size later
  size_grows number later few =
      let there = more number later few in
      omega (arith, ap length there.1, length-append (records_before rules number) there.0)

  -- if they are as many, they are the same
  same_records : (number later : ℕ) → number ≤ later → size later ≤ size number → records_before rules later ≡ records_before rules number
  same_records number later few all =
      let there = more number later few in
      let rest : there.0 ≡ [] = none_is there.0 (omega (arith, all, ap length there.1, length-append (records_before rules number) there.0)) in
      there.1 ∙ (ap (λ (xs : List T). records_before rules number ++ xs) rest ∙ append-nil (records_before rules number))

  -- ---- a new call

  -- no sequence number is below the first
  never_first : (sequence : ℕ) (kept : Option Kept) → sequence ≡ 0 → IsNew sequence kept → IsSomeKept kept → ⊥
  never_first sequence None first new some = some
  never_first sequence (Some kept) first new some = absurd (omega (arith, first, new))

  -- the effect of a call that succeeds, or of a Write of which only some records are accepted
  abbrev pub Partly : Ask → Option (RelationState T Q) → Option (RelationState T Q) → Type 0
  Partly (Writes number) link after = TakesSome rules number link after
  Partly Parameterized link after = IsParameterized link after
  Partly ask link after = Carries rules ask link after

  -- the effect of a call: none, or at least some of that which it asks for
  abbrev pub MayCome : Ask → Option (RelationState T Q) → Option (RelationState T Q) → Type 0
  MayCome ask link after = (after ≡ link) ⊎ Partly ask link after

  pub carries_some : (number : ℕ) (link after : Option (RelationState T Q)) → Carries rules (Writes number) link after → MayCome (Writes number) link after
  carries_some number link after (inr passes) = inl passes.same
  carries_some number link after (inl comes) =
      inr (record { link = comes.link; values = rules.group number; was = comes.was; part = part_all (rules.group number); becomes = comes.becomes })

  may_write : (granted : Bool) (number : ℕ) (link after : Option (RelationState T Q)) → Written rules granted number link after → MayCome (Writes number) link after
  may_write true number link after comes = carries_some number link after comes
  may_write false number link after comes = comes

  may_succeed : (ask : Ask) (blocks : List ℕ) (link after : Option (RelationState T Q)) → Succeeds rules blocks ask link after → MayCome ask link after
  may_succeed (Writes number) blocks link after comes = may_write (rules.grants (suc number) blocks) number link after comes
  may_succeed Connects blocks link after comes = inr comes
  may_succeed Parameterized blocks link after (inr passes) = inl passes.same
  may_succeed Parameterized blocks link after (inl comes) = inr comes
  may_succeed Releases blocks link after comes = inr comes
  may_succeed Accesses blocks link after comes = inr comes

  may_come_by : (ask : Ask) (done : Bool) (blocks : List ℕ) (link after : Option (RelationState T Q)) → ComesBy rules done blocks ask link after → MayCome ask link after
  may_come_by ask true blocks link after comes = may_succeed ask blocks link after comes
  may_come_by ask false blocks link after same = inl same

  pub may_come : (ask : Ask) (reply : Reply) (link after : Option (RelationState T Q)) → Comes rules reply ask link after → MayCome ask link after
  may_come ask reply link after comes = may_come_by ask reply.done reply.blocks link after comes

  -- a call that is refused has no effect
  refused_by : (ask : Ask) (done : Bool) (blocks : List ℕ) (link after : Option (RelationState T Q)) → done ≡ false → ComesBy rules done blocks ask link after → after ≡ link
  refused_by ask false blocks link after is same = same
  refused_by ask true blocks link after is comes = absurd cc

  -- one that is accepted succeeds
  accepted_by : (ask : Ask) (done : Bool) (blocks : List ℕ) (link after : Option (RelationState T Q)) → done ≡ true → ComesBy rules done blocks ask link after
      → Succeeds rules blocks ask link after
  accepted_by ask true blocks link after is comes = comes
  accepted_by ask false blocks link after is comes = absurd cc

  written_by : (granted : Bool) (number : ℕ) (link after : Option (RelationState T Q)) → granted ≡ true → Written rules granted number link after
      → Carries rules (Writes number) link after
  written_by true number link after is comes = comes
  written_by false number link after is comes = absurd cc

  -- ---- the relation after a stage

  -- the relation is held after the next stage too
  past_later : (stage : ℕ) (link : RelationState T Q) → IsPast rules stage link → IsPast rules (suc stage) link
  past_later stage link (inl started) = inl started
  past_later stage link (inr past) = inr (omega (arith, past.0), past.1)

  whole_later : (stage later : ℕ) (link : RelationState T Q) → stage ≤ later → IsHeld rules stage link → size later ≤ length link.taken → link.taken ≡ records_before rules later
  whole_later stage later link before held all =
      let grows = size_grows stage later before in
      held.whole (omega (arith, all, grows)) ∙ sym (same_records stage later before (omega (arith, all, held.few)))

  -- they are some of the records of as many Writes, or of more
  part_of : (stage number : ℕ) (taken : List T) → (has : HasPart rules stage taken) → has.number ≤ number → IsPart taken (records_before rules number)
  part_of stage number taken has few =
      let there = more has.number number few in
      subst (λ (xs : List T). IsPart taken xs) (sym there.1) (part_front taken (records_before rules has.number) there.0 has.part)

  part_of_all : (stage : ℕ) (taken : List T) → HasPart rules stage taken → IsPart taken (records_of rules)
  part_of_all stage taken has = part_of stage rules.count taken has has.planned

  held_suc : (stage : ℕ) (link : RelationState T Q) → IsHeld rules stage link → IsHeld rules (suc stage) link
  held_suc stage link held =
      let grows = size_grows stage (suc stage) (omega arith) in
      record {
        few = omega (arith, held.few, grows);
        made = held.made;
        whole = whole_later stage (suc stage) link (omega arith) held;
        past = past_later stage link held.past;
        part = record { number = held.part.number; before = omega (arith, held.part.before); planned = held.part.planned; part = held.part.part };
      }

  pub held_later : (stage : ℕ) (link : Option (RelationState T Q)) → IsHeldIn rules stage link → IsHeldIn rules (suc stage) link
  held_later stage None held = tt
  held_later stage (Some link) held = held_suc stage link held

  held_from : (stage : ℕ) (link : Option (RelationState T Q)) → IsHeldIn rules (earlier stage) link → IsHeldIn rules stage link
  held_from zero link held = held
  held_from (suc stage) link held = held_later stage link held

  held_none : (stage : ℕ) (link : Option (RelationState T Q)) → link ≡ None → IsHeldIn rules stage link
  held_none stage link none = subst (λ (l : Option (RelationState T Q)). IsHeldIn rules stage l) (sym none) tt

  held_is : (stage : ℕ) (link : Option (RelationState T Q)) (there : RelationState T Q) → link ≡ Some there → IsHeldIn rules stage link → IsHeld rules stage there
  held_is stage link there is held = subst (λ (l : Option (RelationState T Q)). IsHeldIn rules stage l) is held

  -- the relation is held after the current call, if there is one
  is_held : (at : At) (kept : Option Kept) (link : Option (RelationState T Q)) (there : RelationState T Q) → link ≡ Some there → HoldsAt rules at kept link → IsHeld rules at.stage there
  is_held at None link there is none = absurd cc
  is_held at (Some kept) link there is held = held_is at.stage link there is held.0

  -- as long as the current call is new, the relation is that after the stage before
  held_before : (at : At) (kept : Option Kept) (link : Option (RelationState T Q)) → IsNew at.number kept → HoldsAt rules at kept link → IsHeldIn rules (earlier at.stage) link
  held_before at None link new none = held_none (earlier at.stage) link none
  held_before at (Some kept) link new held = held.1 new

  past_write : (number : ℕ) (link : RelationState T Q) → number < rules.count → IsPast rules number link → link.phase ≡ Started
  past_write number link inside (inl started) = started
  past_write number link inside (inr past) = absurd (omega (arith, inside, past.0))

  -- the records of a Write are accepted, or some of them
  write_held : (number : ℕ) (link after : Option (RelationState T Q)) → number < rules.count → TakesSome rules number link after
      → IsHeldIn rules number link → IsHeldIn rules (suc number) after
  write_held number link after inside takes holds =
      let held = held_is number link takes.link takes.was holds in
      let some : length takes.values ≤ length (rules.group number) = part_few takes.values (rules.group number) takes.part in
      let front : size (suc number) ≡ size number + length (rules.group number) = length-append (records_before rules number) (rules.group number) in
      let now : length (takes.link.taken ++ takes.values) ≡ length takes.link.taken + length takes.values = length-append takes.link.taken takes.values in
      subst (λ (l : Option (RelationState T Q)). IsHeldIn rules (suc number) l) (sym takes.becomes) (record {
        few = omega (arith, held.few, some, front, now);
        made = held.made;
        whole = λ all.
            let first : takes.link.taken ≡ records_before rules number = held.whole (omega (arith, all, some, front, now)) in
            let others : takes.values ≡ rules.group number = part_whole takes.values (rules.group number) takes.part (omega (arith, all, held.few, front, now)) in
            ap (λ (xs : List T). xs ++ takes.values) first ∙ ap (λ (xs : List T). records_before rules number ++ xs) others;
        past = inl (past_write number takes.link inside held.past);
        part = record {
          number = suc number;
          before = omega arith;
          planned = omega (arith, inside);
          part = part_both takes.link.taken (records_before rules number) takes.values (rules.group number)
              (part_of number number takes.link.taken held.part held.part.before) takes.part;
        };
      })

  -- all records are accepted, or were skipped
  end_held : (kept : Option Kept) (link after : Option (RelationState T Q)) → (rules.skips ≡ false → Took rules rules.count kept link) → IsParameterized link after
      → IsHeldIn rules rules.count link → IsHeldIn rules (suc rules.count) after
  end_held kept link after took ends holds =
      let held = held_is rules.count link ends.link ends.was holds in
      let later = held_suc rules.count ends.link held in
      subst (λ (l : Option (RelationState T Q)). IsHeldIn rules (suc rules.count) l) (sym ends.becomes) (record {
        few = later.few;
        made = later.made;
        whole = later.whole;
        past = inr (
          omega arith,
          λ strict. held.whole (subst (λ (l : Option (RelationState T Q)). TookIn (size rules.count) l) ends.was (took strict).taken),
        );
        part = later.part;
      })

  new_held : (stage : ℕ) → IsHeld rules stage (made rules)
  new_held stage = record {
    few = omega arith;
    made = refl;
    whole = λ all. sym (none_is (records_before rules stage) all);
    past = inl refl;
    part = record { number = 0; before = omega arith; planned = omega arith; part = refl };
  }

  -- the current call is answered
  held_by : (stage : ℕ) (ask : Ask) (kept : Option Kept) (link after : Option (RelationState T Q)) → IsAsked rules.count stage ask → Behind rules stage kept link
      → MayCome ask link after → IsHeldIn rules (earlier stage) link → IsHeldIn rules stage after
  held_by stage ask kept link after asked behind (inl same) holds =
      subst (λ (l : Option (RelationState T Q)). IsHeldIn rules stage l) (sym same) (held_from stage link holds)
  held_by stage Connects kept link after asked behind (inr comes) holds = subst (λ (l : Option (RelationState T Q)). IsHeldIn rules stage l) (sym comes) (new_held stage)
  held_by stage (Writes number) kept link after asked behind (inr comes) holds =
      let is : stage ≡ suc number = omega (arith, asked.1) in
      subst (λ (n : ℕ). IsHeldIn rules n after) (sym is)
      (write_held number link after asked.0 comes (subst (λ (n : ℕ). IsHeldIn rules (earlier n) link) is holds))
  held_by stage Parameterized kept link after asked behind (inr comes) holds =
      let is : stage ≡ suc rules.count = omega (arith, asked) in
      subst (λ (n : ℕ). IsHeldIn rules n after) (sym is)
      (end_held kept link after (subst (λ (n : ℕ). Behind rules n kept link) is behind) comes (subst (λ (n : ℕ). IsHeldIn rules (earlier n) link) is holds))
  held_by stage Accesses kept link after asked behind (inr comes) holds = absurd asked
  held_by stage Releases kept link after asked behind (inr comes) holds = absurd asked

  -- a response that says that all went well says what was accepted, unless records may be skipped
  reported_by : (stage : ℕ) (ask : Ask) (blocks : List ℕ) (kept : Option Kept) (link after : Option (RelationState T Q)) → IsAsked rules.count stage ask
      → Behind rules stage kept link → Succeeds rules blocks ask link after → rules.grants stage blocks ≡ true → Unconfirmed link → stage ≤ rules.count
      → rules.skips ≡ false → TookIn (size stage) after
  reported_by stage Connects blocks kept link after asked behind comes granted unconfirmed few strict =
      let none : size stage ≤ 0 = subst (λ (n : ℕ). size n ≤ 0) (sym asked) (omega arith) in
      subst (λ (l : Option (RelationState T Q)). TookIn (size stage) l) (sym comes) none
  reported_by stage (Writes number) blocks kept link after asked behind comes granted unconfirmed few strict =
      by_kind (written_by (rules.grants (suc number) blocks) number link after (ap (λ (n : ℕ). rules.grants n blocks) (sym is) ∙ granted) comes)
    where
      is : stage ≡ suc number
      is = omega (arith, asked.1)

      by_kind : TakesRecords rules number link after ⊎ PassesOn link after → TookIn (size stage) after
      by_kind (inr passes) =
          let none : Unconfirmed (Some passes.link) = subst (λ (l : Option (RelationState T Q)). Unconfirmed l) passes.was unconfirmed in
          absurd (none passes.exchanges)
      by_kind (inl takes) =
          let took = subst (λ (n : ℕ). Behind rules n kept link) is behind strict in
          let there : TookIn (size number) (Some takes.link) = subst (λ (l : Option (RelationState T Q)). TookIn (size number) l) takes.was took.taken in
          let enough : size (suc number) ≤ length (takes.link.taken ++ rules.group number) =
          omega (arith, there, length-append takes.link.taken (rules.group number), length-append (records_before rules number) (rules.group number)) in
          subst (λ (l : Option (RelationState T Q)). TookIn (size stage) l) (sym takes.becomes)
          (subst (λ (n : ℕ). size n ≤ length (takes.link.taken ++ rules.group number)) (sym is) enough)
  reported_by stage Parameterized blocks kept link after asked behind comes granted unconfirmed few strict = absurd (omega (arith, asked, few))
  reported_by stage Releases blocks kept link after asked behind comes granted unconfirmed few strict = absurd asked
  reported_by stage Accesses blocks kept link after asked behind comes granted unconfirmed few strict = absurd asked

  -- ---- the effect on what was accepted before

  took_takes : (count : ℕ) (link after : Option (RelationState T Q)) (there now : RelationState T Q) → link ≡ Some there → after ≡ Some now
      → length there.taken ≤ length now.taken → TookIn count link → TookIn count after
  took_takes count link after there now was becomes more took =
      let before : TookIn count (Some there) = subst (λ (l : Option (RelationState T Q)). TookIn count l) was took in
      subst (λ (l : Option (RelationState T Q)). TookIn count l) (sym becomes) (omega (arith, before, more))

  -- the current call is answered: no record is lost, and no relation is made twice
  took_by : (at : At) (ask : Ask) (kept : Option Kept) (link after : Option (RelationState T Q)) (count : ℕ) → IsAsked rules.count at.stage ask
      → (at.stage ≡ 0 → at.number ≡ 0) → IsNew at.number kept → MayCome ask link after → Took rules count kept link → TookIn (size count) after
  took_by at ask kept link after count asked first new (inl same) took = subst (λ (l : Option (RelationState T Q)). TookIn (size count) l) (sym same) took.taken
  took_by at Connects kept link after count asked first new (inr comes) took = absurd (never_first at.number kept (first asked) new took.called)
  took_by at (Writes number) kept link after count asked first new (inr comes) took =
      took_takes (size count) link after comes.link (record comes.link { taken = comes.link.taken ++ comes.values }) comes.was comes.becomes
      (omega (arith, length-append comes.link.taken comes.values)) took.taken
  took_by at Parameterized kept link after count asked first new (inr comes) took =
      took_takes (size count) link after comes.link (record comes.link { phase = Awaiting }) comes.was comes.becomes (omega arith) took.taken
  took_by at Releases kept link after count asked first new (inr comes) took = absurd asked
  took_by at Accesses kept link after count asked first new (inr comes) took = absurd asked

  -- while ApplicationReady waits for its response, all records were accepted, unless records may be skipped
  past_ready : (stage : ℕ) (link : RelationState T Q) → link.phase ≡ Awaiting → IsPast rules stage link → rules.skips ≡ false → link.taken ≡ records_of rules
  past_ready stage link awaits (inl started) strict = absurd cc
  past_ready stage link awaits (inr past) strict = past.1 strict

  pub ready_is : (at : At) (kept : Option Kept) (link : Option (RelationState T Q)) (there : RelationState T Q) → link ≡ Some there → there.phase ≡ Awaiting → HoldsAt rules at kept link
      → (there.request ≡ rules.request) × (rules.skips ≡ false → there.taken ≡ records_of rules) × IsPart there.taken (records_of rules)
  ready_is at kept link there is awaits holds =
      let held = is_held at kept link there is holds in
      (held.made, past_ready at.stage there awaits held.past, part_of_all at.stage there.taken held.part)

  -- whatever a relation accepted is a part of the records, in order, each once
  pub part_is : (at : At) (kept : Option Kept) (link : Option (RelationState T Q)) (there : RelationState T Q) → link ≡ Some there → HoldsAt rules at kept link
      → IsPart there.taken (records_of rules)
  part_is at kept link there is holds = part_of_all at.stage there.taken (is_held at kept link there is holds).part

  -- a relation is the one that the Connect asks for
  pub made_is : (at : At) (kept : Option Kept) (link : Option (RelationState T Q)) (there : RelationState T Q) → link ≡ Some there → HoldsAt rules at kept link → there.request ≡ rules.request
  made_is at kept link there is holds = (is_held at kept link there is holds).made

  -- ---- steps

  module _ (at : At) (Good GoodNow : List ℕ → Type 0) (good_on : (frame : List ℕ) → Good frame → GoodNow frame) where
    -- the effect of a step of the device that sends these frames
    pub record Leaves (before after : Device T Q) (frames : List (List ℕ)) : Type 0 where
      pub grows : Grows rules at before.kept before.link after.kept after.link
      pub held : HoldsAt rules at after.kept after.link
      pub kept : KeepsFine rules GoodNow at after.kept after.link after.kept
      pub new : AreFine rules GoodNow at after.kept after.link frames
      pub unconfirmed : Unconfirmed after.link
      pub unasked : after.asked ≡ None

    -- what is not asked is not asked later, unless it is asked now
    still_unasked : (asked now : Option ℕ) → IsSameOrNone asked now → asked ≡ None → now ≡ None
    still_unasked asked now (inl same) none = same ∙ none
    still_unasked asked now (inr gone) none = gone

    -- each ApplicationReady that is sent now is good from now on
    abbrev pub AreGood : Device T Q → List (List ℕ) → Type 0
    AreGood after frames = (number : ℕ) (frame : List ℕ) → slice_get frames number ≡ Some frame → IsReady rules after frame → GoodNow frame

    good_behind : (after : Device T Q) (frame : List ℕ) (frames : List (List ℕ)) → AreGood after (frame ∷ frames) → AreGood after frames
    good_behind after frame frames good number other there ready = good (suc number) other there ready

    ready_fine : (after : Device T Q) (frame : List ℕ) → GoodNow frame → IsReady rules after frame → IsFine rules GoodNow at after.kept after.link frame
    ready_fine after frame good ready = fine_at_most rules GoodNow at after.kept after.link frame Readies ready.to_device ready.to_controller good

    dull_fine : (after : Device T Q) (frame : List ℕ) → (IsReady rules after frame → GoodNow frame) → IsDull rules frame ⊎ IsReady rules after frame
        → IsFine rules GoodNow at after.kept after.link frame
    dull_fine after frame good (inl dull) = fine_as rules GoodNow at after.kept after.link frame Idle Nothing dull.0 dull.1 tt tt
    dull_fine after frame good (inr ready) = ready_fine after frame (good ready) ready

    all_dull_fine : (after : Device T Q) (frames : List (List ℕ)) → AreGood after frames → AllByRecursion (λ frame. IsDull rules frame ⊎ IsReady rules after frame) frames
        → AreFine rules GoodNow at after.kept after.link frames
    all_dull_fine after [] good all = tt
    all_dull_fine after (frame ∷ frames) good all = (
      dull_fine after frame (good 0 frame refl) all.0,
      all_dull_fine after frames (good_behind after frame frames good) all.1,
    )

    -- no call confirms a relation
    still_unconfirmed : (link after : Option (RelationState T Q)) → (after ≡ link) ⊎ (after ≡ None) → Unconfirmed link → Unconfirmed after
    still_unconfirmed link after (inl same) unconfirmed = subst (λ (l : Option (RelationState T Q)). Unconfirmed l) (sym same) unconfirmed
    still_unconfirmed link after (inr none) unconfirmed = subst (λ (l : Option (RelationState T Q)). Unconfirmed l) (sym none) tt

    started_is : Started ≡ Exchanging → ⊥
    started_is e = absurd cc

    awaiting_is : Awaiting ≡ Exchanging → ⊥
    awaiting_is e = absurd cc

    unconfirmed_by : (ask : Ask) (link after : Option (RelationState T Q)) → MayCome ask link after → Unconfirmed link → Unconfirmed after
    unconfirmed_by ask link after (inl same) unconfirmed = still_unconfirmed link after (inl same) unconfirmed
    unconfirmed_by Connects link after (inr comes) unconfirmed = subst (λ (l : Option (RelationState T Q)). Unconfirmed l) (sym comes) started_is
    unconfirmed_by (Writes number) link after (inr comes) unconfirmed =
        subst (λ (l : Option (RelationState T Q)). Unconfirmed l) (sym comes.becomes) (subst (λ (l : Option (RelationState T Q)). Unconfirmed l) comes.was unconfirmed)
    unconfirmed_by Parameterized link after (inr comes) unconfirmed = subst (λ (l : Option (RelationState T Q)). Unconfirmed l) (sym comes.becomes) awaiting_is
    unconfirmed_by Releases link after (inr comes) unconfirmed = subst (λ (l : Option (RelationState T Q)). Unconfirmed l) (sym comes) tt
    unconfirmed_by Accesses link after (inr (inl same)) unconfirmed = still_unconfirmed link after (inl same) unconfirmed
    unconfirmed_by Accesses link after (inr (inr takes)) unconfirmed =
        subst (λ (l : Option (RelationState T Q)). Unconfirmed l) (sym takes.becomes) (subst (λ (l : Option (RelationState T Q)). Unconfirmed l) takes.was unconfirmed)

    -- ---- a new call that is answered

    -- what was true of the calls and responses before stays true, since the call was new
    newer_on : (sequence : ℕ) (kept : Option Kept) (frame : List ℕ) → IsNew sequence kept → (other : ℕ) → IsNew other (Some (record { sequence = sequence; frame = frame }))
        → IsNew other kept
    newer_on sequence None frame new other more = tt
    newer_on sequence (Some kept) frame new other more = omega (arith, new, more)

    older_on : (sequence : ℕ) (kept : Option Kept) (frame : List ℕ) → IsNew sequence kept → (other : ℕ) → IsOld other kept
        → IsOld other (Some (record { sequence = sequence; frame = frame }))
    older_on sequence None frame new other old = absurd old
    older_on sequence (Some kept) frame new other old = omega (arith, new, old)

    never_both : (sequence other : ℕ) (kept : Option Kept) → sequence ≤ other → IsNew sequence kept → IsOld other kept → ⊥
    never_both sequence other None less new old = old
    never_both sequence other (Some kept) less new old = absurd (omega (arith, less, new, old))

    -- a Release is answered: nothing changes, or the relation has ended
    released_now : (reply : Reply) (link after : Option (RelationState T Q)) → Comes rules reply Releases link after → (after ≡ link) ⊎ (after ≡ None)
    released_now reply link after comes = may_come Releases reply link after comes

    took_same : (link now : Option (RelationState T Q)) (count : ℕ) → (now ≡ link) ⊎ (now ≡ None) → TookIn count link → TookIn count now
    took_same link now count (inl same) took = subst (λ (l : Option (RelationState T Q)). TookIn count l) (sym same) took
    took_same link now count (inr none) took = subst (λ (l : Option (RelationState T Q)). TookIn count l) (sym none) tt

    held_same : (stage : ℕ) (link now : Option (RelationState T Q)) → (now ≡ link) ⊎ (now ≡ None) → IsHeldIn rules stage link → IsHeldIn rules stage now
    held_same stage link now (inl same) holds = subst (λ (l : Option (RelationState T Q)). IsHeldIn rules stage l) (sym same) holds
    held_same stage link now (inr none) holds = held_none stage now none

    none_same : (link now : Option (RelationState T Q)) → (now ≡ link) ⊎ (now ≡ None) → link ≡ None → now ≡ None
    none_same link now (inl same) none = same ∙ none
    none_same link now (inr gone) none = gone

    -- the invariant, if the relation stays or ends and a call with this number is answered
    holds_same : (sequence : ℕ) (frame : List ℕ) (kept : Option Kept) (link now : Option (RelationState T Q)) → IsNew sequence kept → (now ≡ link) ⊎ (now ≡ None)
        → HoldsAt rules at kept link → HoldsAt rules at (Some (record { sequence = sequence; frame = frame })) now
    holds_same sequence frame None link now new goes none =
        let gone = none_same link now goes none in
        (held_none at.stage now gone, λ less. held_none (earlier at.stage) now gone)
    holds_same sequence frame (Some kept) link now new goes holds =
        (held_same at.stage link now goes holds.0, λ less. held_same (earlier at.stage) link now goes (holds.1 (omega (arith, new, less))))

    -- A new call: a Release, or the current one.
    abbrev IsNewCall : ℕ → Ask → Type 0
    IsNewCall sequence ask = (ask ≡ Releases) ⊎ ((sequence ≡ at.number) × IsAsked rules.count at.stage ask)

    new_call : (sequence : ℕ) (ask : Ask) (kept : Option Kept) → IsNew sequence kept → IsCall rules at sequence ask kept → IsNewCall sequence ask
    new_call sequence ask kept new (inl releases) = inl releases
    new_call sequence ask kept new (inr current) = inr (current new)

    module _ (sequence : ℕ) (ask : Ask) (reply : Reply) (kept : Option Kept) (link after : Option (RelationState T Q)) (frame : List ℕ) (new : IsNew sequence kept)
        (comes : Comes rules reply ask link after) (unconfirmed : Unconfirmed link) (first : at.stage ≡ 0 → at.number ≡ 0) (behind : Behind rules at.stage kept link)
        (holds : HoldsAt rules at kept link) where
      abbrev stored : Option Kept
      stored = Some (record { sequence = sequence; frame = frame })

      goes_release : ask ≡ Releases → (after ≡ link) ⊎ (after ≡ None)
      goes_release is = released_now reply link after (subst (λ (a : Ask). Comes rules reply a link after) is comes)

      may : MayCome ask link after
      may = may_come ask reply link after comes

      new_at : sequence ≡ at.number → IsNew at.number kept
      new_at is = subst (λ (n : ℕ). IsNew n kept) is new

      answer_grows : IsNewCall sequence ask → Grows rules at kept link stored after
      answer_grows (inl is) = record {
        took = λ count took. record { called = tt; taken = took_same link after (size count) (goes_release is) took.taken };
        newer = newer_on sequence kept frame new;
        older = older_on sequence kept frame new;
        held = λ old held. held_same (earlier at.stage) link after (goes_release is) held;
        gone = λ other old more none. none_same link after (goes_release is) none;
      }
      answer_grows (inr current) = record {
        took = λ count took. record { called = tt; taken = took_by at ask kept link after count current.1 first (new_at current.0) may took };
        newer = newer_on sequence kept frame new;
        older = older_on sequence kept frame new;
        held = λ old held. absurd (never_both at.number at.number kept (omega arith) (new_at current.0) old);
        gone = λ other old more none. absurd (never_both at.number other kept more (new_at current.0) old);
      }

      answer_holds : IsNewCall sequence ask → HoldsAt rules at stored after
      answer_holds (inl is) = holds_same sequence frame kept link after new (goes_release is) holds
      answer_holds (inr current) = (
        held_by at.stage ask kept link after current.1 behind may (held_before at kept link (new_at current.0) holds),
        λ less. absurd (omega (arith, less, current.0)),
      )

      -- what the response reports
      answer_refused : sequence ≡ at.number → reply.done ≡ false → IsHeldIn rules (earlier at.stage) after
      answer_refused is refused =
          subst (λ (l : Option (RelationState T Q)). IsHeldIn rules (earlier at.stage) l) (sym (refused_by ask reply.done reply.blocks link after refused comes))
          (held_before at kept link (new_at is) holds)

      release_done : ask ≡ Releases → reply.done ≡ true → after ≡ None
      release_done is done =
          accepted_by Releases reply.done reply.blocks link after done (subst (λ (a : Ask). Comes rules reply a link after) is comes)

      answer_well : IsNewCall sequence ask → (reply.done && rules.grants at.stage reply.blocks) ≡ true → at.stage ≤ rules.count → rules.skips ≡ false
          → Took rules at.stage stored after
      answer_well (inl is) well few strict =
          let parts = and_parts reply.done (rules.grants at.stage reply.blocks) well in
          record { called = tt; taken = subst (λ (l : Option (RelationState T Q)). TookIn (size at.stage) l) (sym (release_done is parts.0)) tt }
      answer_well (inr current) well few strict =
          let parts = and_parts reply.done (rules.grants at.stage reply.blocks) well in
          record {
            called = tt;
            taken = reported_by at.stage ask reply.blocks kept link after current.1 behind (accepted_by ask reply.done reply.blocks link after parts.0 comes) parts.1 unconfirmed few strict;
          }

      answer_later : IsNewCall sequence ask → at.number < sequence → reply.done ≡ true → after ≡ None
      answer_later (inl is) more done = release_done is done
      answer_later (inr current) more done = absurd (omega (arith, more, current.0))

      answer_tells : IsNewCall sequence ask → IsResponse rules at stored after sequence reply
      answer_tells call = record {
        old = omega arith;
        now = λ is. record { refused = answer_refused is; well = answer_well call };
        later = answer_later call;
      }

    module _ (before after : Device T Q) (frames : List (List ℕ)) (first : at.stage ≡ 0 → at.number ≡ 0) (behind : Behind rules at.stage before.kept before.link)
        (held : HoldsAt rules at before.kept before.link) (kept : KeepsFine rules Good at before.kept before.link before.kept) (unconfirmed : Unconfirmed before.link)
        (unasked : before.asked ≡ None) where
      answered_leaves : (sequence : ℕ) (ask : Ask) → IsCall rules at sequence ask before.kept → AreGood after frames → IsAnswered rules sequence ask before after frames
          → Leaves before after frames
      answered_leaves sequence ask called good answered =
          let answer : Kept = record { sequence = sequence; frame = answered.frame } in
          let call = new_call sequence ask before.kept answered.new called in
          let fine : IsFine rules GoodNow at (Some answer) after.link answered.frame =
          fine_at_most rules GoodNow at (Some answer) after.link answered.frame (Answers sequence answered.reply) answered.to_device answered.to_controller
          (answer_tells sequence ask answered.reply before.kept before.link after.link answered.frame answered.new answered.does unconfirmed first behind held call) in
          let more : AreGood after (answered.frame ∷ answered.others) = subst (λ (fs : List (List ℕ)). AreGood after fs) answered.sent good in
          record {
            grows = subst (λ (k : Option Kept). Grows rules at before.kept before.link k after.link) (sym answered.keeps)
                (answer_grows sequence ask answered.reply before.kept before.link after.link answered.frame answered.new answered.does unconfirmed first behind held call);
            held = subst (λ (k : Option Kept). HoldsAt rules at k after.link) (sym answered.keeps)
                (answer_holds sequence ask answered.reply before.kept before.link after.link answered.frame answered.new answered.does unconfirmed first behind held call);
            kept = subst (λ (k : Option Kept). KeepsFine rules GoodNow at k after.link k) (sym answered.keeps) fine;
            new = subst (λ (fs : List (List ℕ)). AreFine rules GoodNow at after.kept after.link fs) (sym answered.sent) (
              subst (λ (k : Option Kept). IsFine rules GoodNow at k after.link answered.frame) (sym answered.keeps) fine,
              all_dull_fine after answered.others (good_behind after answered.frame answered.others more) answered.readies,
            );
            unconfirmed = unconfirmed_by ask before.link after.link (may_come ask answered.reply before.link after.link answered.does) unconfirmed;
            unasked = still_unasked before.asked after.asked answered.asked unasked;
          }

      -- nothing changed, and what is sent was fine
      same_leaves : after ≡ before → AreFine rules Good at before.kept before.link frames → Leaves before after frames
      same_leaves same fine = subst (λ (d : Device T Q). Leaves before d frames) (sym same) (record {
        grows = same_grows rules at before.kept before.link;
        held = held;
        kept = keeps_on rules at before.kept before.kept before.link before.link (same_grows rules at before.kept before.link) Good GoodNow good_on before.kept kept;
        new = are_fine_on rules at before.kept before.kept before.link before.link (same_grows rules at before.kept before.link) Good GoodNow good_on frames fine;
        unconfirmed = unconfirmed;
        unasked = unasked;
      })

      again_leaves : (sequence : ℕ) → IsAgain sequence before after frames → Leaves before after frames
      again_leaves sequence again = same_leaves again.unchanged (subst (λ (fs : List (List ℕ)). AreFine rules Good at before.kept before.link fs) (sym again.sent) (
        subst (λ (k : Option Kept). KeepsFine rules Good at before.kept before.link k) again.has kept,
        tt,
      ))

      rests_leaves : Rests before after frames → Leaves before after frames
      rests_leaves rests = same_leaves rests.0 (subst (λ (fs : List (List ℕ)). AreFine rules Good at before.kept before.link fs) (sym rests.1) tt)

      -- no call of a start-up is one of the application
      never_asked : (sequence : ℕ) (ask : Ask) → ask ≡ Accesses → IsNew sequence before.kept → IsCall rules at sequence ask before.kept → ⊥
      never_asked sequence ask accesses new (inl releases) = no_access (sym accesses ∙ releases)
        where
          no_access : Accesses ≡ Releases → ⊥
          no_access e = absurd cc
      never_asked sequence ask accesses new (inr current) = subst (λ (a : Ask). IsAsked rules.count at.stage a) accesses (current new).1

      call_leaves : (sequence : ℕ) (ask : Ask) → IsCall rules at sequence ask before.kept → AreGood after frames
          → IsAnswered rules sequence ask before after frames
          ⊎ (IsAgain sequence before after frames ⊎ (Rests before after frames ⊎ IsQuestion sequence ask before after frames))
          → Leaves before after frames
      call_leaves sequence ask call good (inl answered) = answered_leaves sequence ask call good answered
      call_leaves sequence ask call good (inr (inl again)) = again_leaves sequence again
      call_leaves sequence ask call good (inr (inr (inl rests))) = rests_leaves rests
      call_leaves sequence ask call good (inr (inr (inr question))) = absurd (never_asked sequence ask question.accesses question.new call)

      -- no record is forgotten before data is exchanged
      link_same : (after.link ≡ before.link) ⊎ ((after.link ≡ None) ⊎ Forgets before.link after.link) → (after.link ≡ before.link) ⊎ (after.link ≡ None)
      link_same (inl same) = inl same
      link_same (inr (inl none)) = inr none
      link_same (inr (inr forgets)) =
          let none : Unconfirmed (Some forgets.link) = subst (λ (l : Option (RelationState T Q)). Unconfirmed l) forgets.was unconfirmed in
          absurd (none forgets.exchanges)

      -- a move of the relation to its end does not change what was accepted
      holds_still : (answer : Option Kept) (link now : Option (RelationState T Q)) → (now ≡ link) ⊎ (now ≡ None) → HoldsAt rules at answer link → HoldsAt rules at answer now
      holds_still None link now goes none = none_same link now goes none
      holds_still (Some answer) link now goes holds = (
        held_same at.stage link now goes holds.0,
        λ less. held_same (earlier at.stage) link now goes (holds.1 less),
      )

      by_leaves : AreGood after frames → GoesBy rules before after frames → Leaves before after frames
      by_leaves good goes =
          let link = link_same goes.link in
          let same : Grows rules at before.kept before.link before.kept after.link = record {
            took = λ count took. record { called = took.called; taken = took_same before.link after.link (size count) link took.taken };
            newer = λ sequence new. new;
            older = λ sequence old. old;
            held = λ old held_now. held_same (earlier at.stage) before.link after.link link held_now;
            gone = λ sequence old more none. none_same before.link after.link link none;
          } in
          let grows = subst (λ (k : Option Kept). Grows rules at before.kept before.link k after.link) (sym goes.keeps) same in
          record {
            grows = grows;
            held = subst (λ (k : Option Kept). HoldsAt rules at k after.link) (sym goes.keeps) (holds_still before.kept before.link after.link link held);
            kept = subst (λ (k : Option Kept). KeepsFine rules GoodNow at after.kept after.link k) (sym goes.keeps)
                (keeps_on rules at before.kept after.kept before.link after.link grows Good GoodNow good_on before.kept kept);
            new = all_dull_fine after frames good goes.sent;
            unconfirmed = still_unconfirmed before.link after.link link unconfirmed;
            unasked = still_unasked before.asked after.asked goes.asked unasked;
          }

      -- nothing is asked that could be answered
      never_replies : Replies rules before after frames → ⊥
      never_replies replies = none_some replies.sequence (sym unasked ∙ replies.asked)
        where
          none_some : (sequence : ℕ) → None ≡ Some sequence → ⊥
          none_some sequence e = absurd cc

      pub device_leaves : (heard : ToDevice) → TellsDevice rules at before.kept heard → AreGood after frames → DeviceSteps rules heard before after frames
          → Leaves before after frames
      device_leaves (Call sequence ask) tells good steps = call_leaves sequence ask tells good steps
      device_leaves Confirms tells good steps = absurd tells
      device_leaves Idle tells good (inl goes) = by_leaves good goes
      device_leaves Idle tells good (inr replies) = absurd (never_replies replies)
