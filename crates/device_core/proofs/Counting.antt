-- What is asked of the application: the response that is kept or not, and how many frames a unit sends.
use Rattle.std.proofs.Common.{◌≡◌, ◌+◌, ◌==◌, ◌++◌, ◌∷◌, ◌&&◌, [], ℕ, Bool, List, Option, Some, None, Result, Ok, Err, is_some, true, false, cond, not, get_or, length, map, refl, sym, ap, ◌∙◌, arith}
use Rattle.std.specs.Prelude.{option_map, unwrap_or}
use Rattle.std.proofs.lemmas.Bool.{false≢true, true≢false, ne_eqb}
use Rattle.std.proofs.Math.ListN.{get_or-map}
use Rattle.std.proofs.lemmas.List.{length-map}
use Rattle.arrayvec.specs.ArrayVec.{ArrayVec}
use Rattle.wire.specs.Codec.{Gives}
use Rattle.asked_records.specs.declared.question.Question.{Question}
use Rattle.asked_records.specs.Asked.{AskedState, Standing, asks, behind_displaced, due_in, due_with, is_over, last_number, limit, over_with, question_in, ticked as asked_ticked}
use Rattle.rpc_core.specs.Cache.{Kept, Reported as Looked, new, again, old, behind_call, behind_reported, kept_more, looked}
use Rattle.device_frames.specs.Sent.{Sent}
use Rattle.device_core.specs.Asking.{asked_later, is_full, is_new, late_in}

-- A response after a later one of its activity is not kept.
pub kept_unless : (kept : Kept) (calls : List Kept) (reported : Looked) → looked kept.activity kept.sequence calls ≡ reported → is_new reported ≡ false
    → behind_call 4 kept calls ≡ calls
kept_unless kept calls new is none = absurd (true≢false none)
kept_unless kept calls (again frame) is none = ap (behind_reported 4 kept calls) is
kept_unless kept calls old is none = ap (behind_reported 4 kept calls) is

-- Any other is.
pub kept_when : (kept : Kept) (calls : List Kept) (reported : Looked) → looked kept.activity kept.sequence calls ≡ reported → is_new reported ≡ true
    → behind_call 4 kept calls ≡ kept_more 4 kept calls
kept_when kept calls new is some = ap (behind_reported 4 kept calls) is
kept_when kept calls (again frame) is some = absurd (false≢true some)
kept_when kept calls old is some = absurd (false≢true some)

-- As many frames are in the outbox as messages are sent.
pub count_sent : (f : Sent → List ℕ) (frames : List (ArrayVec ℕ)) (sent : List Sent) → map (λ (frame : ArrayVec ℕ). frame.items) frames ≡ map f sent → length frames ≡ length sent
count_sent f frames sent is = sym (length-map frames (λ (frame : ArrayVec ℕ). frame.items)) ∙ (ap length is ∙ length-map sent f)

-- The last frame of an outbox to which one was appended.
last_is : (frames : List (List ℕ)) (one other : List ℕ) → get_or (frames ++ one ∷ []) (length frames) other ≡ one
last_is [] one other = refl
last_is (frame ∷ frames) one other = last_is frames one other

pub last_sent : (frames before : List (ArrayVec ℕ)) (octets : List ℕ) (one : ArrayVec ℕ) (place : ℕ)
    → map (λ (frame : ArrayVec ℕ). frame.items) frames ≡ map (λ (frame : ArrayVec ℕ). frame.items) before ++ octets ∷ []
    → place ≡ length before → one ≡ get_or frames place one → one.items ≡ octets
last_sent frames before octets one place is there at =
    ap (λ (frame : ArrayVec ℕ). frame.items) at ∙ sym (get_or-map (λ (frame : ArrayVec ℕ). frame.items) frames place one)
    ∙ ap (λ (all : List (List ℕ)). get_or all place one.items) is
    ∙ ap (λ (n : ℕ). get_or (map (λ (frame : ArrayVec ℕ). frame.items) before ++ octets ∷ []) n one.items)
    (there ∙ sym (length-map before (λ (frame : ArrayVec ℕ). frame.items)))
    ∙ last_is (map (λ (frame : ArrayVec ℕ). frame.items) before) octets one.items

-- A call was asked under this number, or another one is asked.
pub was_asked : (number : Option ℕ) (made : Option AskedState) (before : AskedState) → number ≡ option_map last_number made → is_some number ≡ true
    → made ≡ Some (unwrap_or made before)
was_asked number (Some state) before is some = refl
was_asked number None before is some = absurd (false≢true (sym (ap is_some is) ∙ some))

pub was_not_asked : (number : Option ℕ) (made : Option AskedState) → number ≡ option_map last_number made → is_some number ≡ false → made ≡ None
was_not_asked number None is none = refl
was_not_asked number (Some state) is none = absurd (true≢false (sym (ap is_some is) ∙ none))

-- A call that is refused beside another one displaced none.
pub none_displaced : (question : Question) (octets : List ℕ) (displaced : Option Question) (state : AskedState) → asks question octets (behind_displaced displaced state) ≡ None
    → behind_displaced displaced state ≡ state
none_displaced question octets None state none = refl
none_displaced question octets (Some other) state none = cc

-- A call is refused with the next unit exactly if that is due then.
over_with_at : (standing : Option Standing) → due_with standing ≡ 1 → over_with standing ≡ true
over_with_at None due = absurd (omega (arith, due))
over_with_at (Some standing) due =
    let last : standing.waited + 1 ≡ limit = omega (arith, due) in
    ap (λ (n : ℕ). n == limit) last

over_with_not : (standing : Option Standing) → (due_with standing ≡ 1 → ⊥) → over_with standing ≡ false
over_with_not None due = refl
over_with_not (Some standing) due = ne_eqb (standing.waited + 1) limit (λ e. due (omega (arith, e)))

pub over_at : (state : AskedState) → due_in state ≡ 1 → is_over state ≡ true
over_at state due = over_with_at state.standing due

pub over_not : (state : AskedState) → (due_in state ≡ 1 → ⊥) → is_over state ≡ false
over_not state due = over_with_not state.standing due

-- Then one is asked.
one_with : (standing : Option Standing) → due_with standing ≡ 1 → option_map (λ (one : Standing). one.question) standing ≡ None → ⊥
one_with None due none = omega (arith, due)
one_with (Some standing) due none = cc

pub one_asked : (state : AskedState) → due_in state ≡ 1 → question_in state ≡ None → ⊥
one_asked state due none = one_with state.standing due none

-- If there is no room for its response, it waits for the next unit.
pub waits_full : (count : ℕ) (asked : AskedState) → is_over asked ≡ true → is_full count ≡ true → asked_later count asked ≡ asked
waits_full count asked over full =
    ap (λ (b : Bool). cond (b && is_full count) asked (asked_ticked asked)) over ∙ ap (λ (b : Bool). cond b asked (asked_ticked asked)) full

pub none_full : (count : ℕ) (asked : AskedState) → is_over asked ≡ true → is_full count ≡ true → late_in count asked ≡ None
none_full count asked over full =
    ap (λ (b : Bool). cond (b && not (is_full count)) (question_in asked) None) over ∙ ap (λ (b : Bool). cond (not b) (question_in asked) None) full

-- If there is room, it is refused.
pub late_if : (count : ℕ) (asked : AskedState) → is_over asked ≡ true → is_full count ≡ false → late_in count asked ≡ question_in asked
late_if count asked over room =
    ap (λ (b : Bool). cond (b && not (is_full count)) (question_in asked) None) over ∙ ap (λ (b : Bool). cond (not b) (question_in asked) None) room

pub goes_if : (count : ℕ) (asked : AskedState) → is_full count ≡ false → asked_later count asked ≡ asked_ticked asked
goes_if count asked room = goes_with (is_over asked)
  where
    goes_with : (over : Bool) → cond (over && is_full count) asked (asked_ticked asked) ≡ asked_ticked asked
    goes_with true = ap (λ (b : Bool). cond b asked (asked_ticked asked)) room
    goes_with false = refl

-- A value that is given as it is, is the result.
pub given_is : {X F : Type 0} (came read : Result X F) → Gives (λ (x : X). x) came read → read ≡ came
given_is (Ok x) read is = is
given_is (Err fault) read is = is
