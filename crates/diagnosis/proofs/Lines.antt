-- One direction: what is accepted is a prefix of what was sent, as long as the numbers are different.
use Rattle.std.proofs.Common.{◌≡◌, ℕ, zero, suc, ◌≤◌, ◌+◌, Bool, true, false, cond, eqb, List, [], ◌∷◌, ◌++◌, length, Option, Some, None, refl, sym, ap, subst, ◌∙◌, append_assoc, arith}
use Rattle.std.specs.Prelude.{slice_get}
use Rattle.std.specs.List.{AllByRecursion}
use Rattle.std.proofs.lemmas.Bool.{eqb-true}
use Rattle.std.proofs.lemmas.List.{length-append}
use Rattle.pn_alarms.specs.declared.receiver.Taken.{Taken}
use Rattle.pn_alarms.specs.declared.receiver.Taken.TheVariants.{New, Again, Refused}
use Rattle.pn_alarms.specs.declared.repeats.Due.{Due}
use Rattle.pn_alarms.specs.declared.repeats.Due.TheVariants as due_is
use Rattle.pn_alarms.specs.Numbers.{next_number, send_number, is_last}
use Rattle.pn_alarms.specs.Receiver.{last_behind}
use Rattle.diagnosis.specs.Line.{Line, empty, with_sent, with_again, more_taken, with_come}
use Rattle.diagnosis.specs.World.{repeated, line_after}
use Rattle.diagnosis.proofs.Numbered.{number_of, last_of, next_is, same_number}

-- ---- lists

some_is : {A : Type 0} (x y : A) → Some x ≡ Some y → x ≡ y
some_is x y e = cc

-- two equal lists whose prefixes have the same length
same_front : {A : Type 0} (xs ys us vs : List A) → length xs ≡ length us → xs ++ ys ≡ us ++ vs → (xs ≡ us) × (ys ≡ vs)
same_front [] ys [] vs long e = (refl, e)
same_front [] ys (u ∷ us) vs long e = absurd (omega (arith, long))
same_front (x ∷ xs) ys [] vs long e = absurd (omega (arith, long))
same_front {A = A} (x ∷ xs) ys (u ∷ us) vs long e =
    let first : x ≡ u = cc in
    let others : xs ++ ys ≡ us ++ vs = cc in
    let both = same_front xs ys us vs (omega (arith, long)) others in
    (ap (λ (z : A). z ∷ xs) first ∙ ap (λ (zs : List A). u ∷ zs) both.0, both.1)

all_more : {X : Type 0} (P : X → Type 0) (xs : List X) (x : X) → AllByRecursion P xs → P x → AllByRecursion P (xs ++ x ∷ [])
all_more P [] x all one = (one, tt)
all_more P (y ∷ ys) x all one = (all.0, all_more P ys x all.1 one)

all_at : {X : Type 0} (P : X → Type 0) (xs : List X) (k : ℕ) (x : X) → AllByRecursion P xs → slice_get xs k ≡ Some x → P x
all_at P [] k x all e = absurd cc
all_at P (y ∷ ys) zero x all e = subst P (some_is y x e) all.0
all_at P (y ∷ ys) (suc k) x all e = all_at P ys k x all.1 e

one_more : {A : Type 0} (xs : List A) (x : A) → length (xs ++ x ∷ []) ≡ suc (length xs)
one_more xs x = omega (arith, length-append xs (x ∷ []))

-- ---- the invariant of a direction

-- a PDU is of data that was sent, and has its number
pub record IsSent {A : Type 0} (sent : List A) (pdu : ℕ × A) : Type 0 where
  pub front : List A
  pub back : List A
  pub parts : sent ≡ front ++ pdu.1 ∷ back
  pub number : pdu.0 ≡ number_of (length front)

pub record IsLine {A : Type 0} (last seen : Option ℕ) (line : Line A) : Type 0 where
  -- the numbers of the last data sent and of the last data accepted
  pub last_is : last ≡ last_of (length line.sent)
  pub seen_is : seen ≡ last_of (length line.taken)
  pub pdus : AllByRecursion (IsSent line.sent) line.pdus
  -- what is accepted is a prefix of what was sent
  pub rest : List A
  pub begins : line.taken ++ rest ≡ line.sent

-- the option is the last item of the list, if there is one
abbrev pub IsLast : {A : Type 0} → List A → Option A → Type 0
IsLast sent None = Unit {0}
IsLast {A = A} sent (Some value) = (front : List A) × (sent ≡ front ++ value ∷ [])

module _ {A : Type 0} where
  grows : (sent more : List A) (pdu : ℕ × A) → IsSent sent pdu → IsSent (sent ++ more) pdu
  grows sent more pdu s = record {
    front = s.front;
    back = s.back ++ more;
    parts = ap (λ (xs : List A). xs ++ more) s.parts ∙ append_assoc s.front (pdu.1 ∷ s.back) more;
    number = s.number;
  }

  all_grow : (sent more : List A) (pdus : List (ℕ × A)) → AllByRecursion (IsSent sent) pdus → AllByRecursion (IsSent (sent ++ more)) pdus
  all_grow sent more [] all = tt
  all_grow sent more (pdu ∷ pdus) all = (grows sent more pdu all.0, all_grow sent more pdus all.1)

  pub line_starts : IsLine {A = A} None None empty
  line_starts = record { last_is = refl; seen_is = refl; pdus = tt; rest = []; begins = refl }

  -- not more is accepted than was sent
  pub few_taken : (last seen : Option ℕ) (line : Line A) → IsLine last seen line → length line.taken ≤ length line.sent
  few_taken last seen line l = omega (arith, length-append line.taken l.rest, ap length l.begins)

  pub line_sends : (last seen : Option ℕ) (line : Line A) (value : A) → IsLine last seen line → IsLine (Some (next_number last)) seen (with_sent line (next_number last) value)
  line_sends last seen line value l =
      let here : next_number last ≡ number_of (length line.sent) = ap next_number l.last_is ∙ next_is (length line.sent) in
      record {
        last_is = ap (λ (n : ℕ). Some n) here ∙ sym (ap last_of (one_more line.sent value));
        seen_is = l.seen_is;
        pdus = all_more (IsSent (line.sent ++ value ∷ [])) line.pdus (next_number last, value) (all_grow line.sent (value ∷ []) line.pdus l.pdus)
            (record { front = line.sent; back = []; parts = refl; number = here });
        rest = l.rest ++ value ∷ [];
        begins = sym (append_assoc line.taken l.rest (value ∷ [])) ∙ ap (λ (xs : List A). xs ++ value ∷ []) l.begins;
      }

  line_repeats : (last seen : Option ℕ) (line : Line A) (value : A) → IsLast line.sent (Some value) → IsLine last seen line → IsLine last seen (with_again line (send_number last) value)
  line_repeats last seen line value there l =
      let long : length line.sent ≡ suc (length there.0) = ap length there.1 ∙ one_more there.0 value in
      let here : send_number last ≡ number_of (length there.0) = ap send_number (l.last_is ∙ ap last_of long) in
      record {
        last_is = l.last_is;
        seen_is = l.seen_is;
        pdus = all_more (IsSent line.sent) line.pdus (send_number last, value) l.pdus (record { front = there.0; back = []; parts = there.1; number = here });
        rest = l.rest;
        begins = l.begins;
      }

  repeated_holds : (last seen : Option ℕ) (line : Line A) (o : Option A) → IsLast line.sent o → IsLine last seen line → IsLine last seen (repeated line (send_number last) o)
  repeated_holds last seen line None there l = l
  repeated_holds last seen line (Some value) there l = line_repeats last seen line value there l

  pub line_ticks : (last seen : Option ℕ) (line : Line A) (o : Option A) (due : Due) → IsLast line.sent o → IsLine last seen line → IsLine last seen (line_after line (send_number last) o due)
  line_ticks last seen line o due_is.Nothing there l = l
  line_ticks last seen line o due_is.Again there l = repeated_holds last seen line o there l
  line_ticks last seen line o due_is.Spent there l = l

  repeated_sent : (line : Line A) (number : ℕ) (o : Option A) → (repeated line number o).sent ≡ line.sent
  repeated_sent line number None = refl
  repeated_sent line number (Some value) = refl

  repeated_taken : (line : Line A) (number : ℕ) (o : Option A) → (repeated line number o).taken ≡ line.taken
  repeated_taken line number None = refl
  repeated_taken line number (Some value) = refl

  pub same_sent : (line : Line A) (number : ℕ) (o : Option A) (due : Due) → (line_after line number o due).sent ≡ line.sent
  same_sent line number o due_is.Nothing = refl
  same_sent line number o due_is.Again = repeated_sent line number o
  same_sent line number o due_is.Spent = refl

  pub same_taken : (line : Line A) (number : ℕ) (o : Option A) (due : Due) → (line_after line number o due).taken ≡ line.taken
  same_taken line number o due_is.Nothing = refl
  same_taken line number o due_is.Again = repeated_taken line number o
  same_taken line number o due_is.Spent = refl

  not_taken : (taken : List A) (value : A) (b : Bool) → more_taken taken value (cond b Again Refused) ≡ taken
  not_taken taken value true = refl
  not_taken taken value false = refl

  -- data arrives, with the expected number or with another
  comes_as : (last seen : Option ℕ) (line : Line A) (pdu : ℕ × A) (b : Bool) → eqb pdu.0 (next_number seen) ≡ b → length line.sent ≤ 32768 → IsLine last seen line → IsSent line.sent pdu
      → IsLine last (cond b (Some pdu.0) seen) (record {
        sent = line.sent;
        pdus = line.pdus;
        taken = more_taken line.taken pdu.1 (cond b New (cond (is_last seen pdu.0) Again Refused));
      })
  comes_as last seen line pdu true e few l s =
      let here : pdu.0 ≡ number_of (length line.taken) = eqb-true _ _ e ∙ ap next_number l.seen_is ∙ next_is (length line.taken) in
      let inside : length line.sent ≡ length s.front + suc (length s.back) = ap length s.parts ∙ length-append s.front (pdu.1 ∷ s.back) in
      let same : length line.taken ≡ length s.front =
      same_number (length line.taken) (length s.front) (omega (arith, few_taken last seen line l, few)) (omega (arith, inside, few)) (sym here ∙ s.number) in
      let both = same_front line.taken l.rest s.front (pdu.1 ∷ s.back) same (l.begins ∙ s.parts) in
      record {
        last_is = l.last_is;
        seen_is = ap (λ (n : ℕ). Some n) here ∙ sym (ap last_of (one_more line.taken pdu.1));
        pdus = l.pdus;
        rest = s.back;
        begins = append_assoc line.taken (pdu.1 ∷ []) s.back ∙ ap (λ (xs : List A). line.taken ++ xs) (sym both.1) ∙ l.begins;
      }
  comes_as last seen line pdu false e few l s =
      let none = not_taken line.taken pdu.1 (is_last seen pdu.0) in
      record {
        last_is = l.last_is;
        seen_is = l.seen_is ∙ ap (λ (xs : List A). last_of (length xs)) (sym none);
        pdus = l.pdus;
        rest = l.rest;
        begins = ap (λ (xs : List A). xs ++ l.rest) none ∙ l.begins;
      }

  pub line_comes : (last seen : Option ℕ) (line : Line A) (k : ℕ) (pdu : ℕ × A) → slice_get line.pdus k ≡ Some pdu → length line.sent ≤ 32768 → IsLine last seen line → IsLine last (last_behind seen pdu.0) (with_come line seen pdu)
  line_comes last seen line k pdu there few l =
      comes_as last seen line pdu (eqb pdu.0 (next_number seen)) refl few l (all_at (IsSent line.sent) line.pdus k pdu l.pdus there)

  -- what is accepted grows, by one if the data is new
  pub more_is_more : (taken : List A) (value : A) (t : Taken) → length taken ≤ length (more_taken taken value t)
  more_is_more taken value New = omega (arith, length-append taken (value ∷ []))
  more_is_more taken value Again = omega arith
  more_is_more taken value Refused = omega arith
