-- The frames that remain after a position.
use Rattle.std.proofs.Common.{◌≡◌, ◌+◌, ◌<◌, ◌≤◌, ℕ, true, false, List, [], length, drop, Option, Some, None, sym, ap, ◌∙◌, inl, inr}
use Rattle.std.specs.Prelude.{nat_lt, option_map}
use Rattle.std.proofs.lemmas.Bool.{cases_Bool, ltb-true, ltb-false}
use Rattle.std.proofs.lemmas.List.{drop_more, drop_all, drop-drop}
use Rattle.arrayvec.specs.ArrayVec.{ArrayVec as Items}
use Rattle.controller_station.specs.Served.{IsFrameAt}
use Rattle.controller_abi.specs.State.{IsNext, has_frames}

pub some_left : (n : ℕ) (frames : List (List ℕ)) → n < length frames → has_frames (drop n frames) ≡ true
some_left n frames some = ap has_frames (drop_more frames n [] some)

pub none_left : (n : ℕ) (frames : List (List ℕ)) → length frames ≤ n → has_frames (drop n frames) ≡ false
none_left n frames none = ap has_frames (drop_all n frames none)

-- Whether one remains.
pub left_is : (n : ℕ) (frames : List (List ℕ)) → has_frames (drop n frames) ≡ nat_lt n (length frames)
left_is n frames = elim (cases_Bool (nat_lt n (length frames))) [
  | inl there ↦ some_left n frames (ltb-true n (length frames) there) ∙ sym there
  | inr gone ↦ none_left n frames (ltb-false n (length frames) gone) ∙ sym gone
]

-- The frame at a place is the next one after those before it.
pub next_is : {R : Type 0} (now : R → Items ℕ) (frames : List (List ℕ)) (place : ℕ) (one : Option R) → IsFrameAt frames place (option_map (λ frame. (now frame).items) one) → IsNext (drop place frames) (option_map now one)
next_is now frames place (Some frame) here = here
next_is now frames place None gone = gone

-- One more is fetched.
pub taken : (n : ℕ) (frames : List (List ℕ)) → drop (n + 1) frames ≡ drop 1 (drop n frames)
taken n frames = sym (drop-drop 1 n frames)

-- If none remains, none is fetched.
pub none_taken : (n : ℕ) (frames : List (List ℕ)) → length frames ≤ n → drop n frames ≡ drop 1 (drop n frames)
none_taken n frames none = drop_all n frames none ∙ sym (ap (drop 1) (drop_all n frames none))
