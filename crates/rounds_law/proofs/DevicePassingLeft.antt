-- What a cyclic frame does not change at an end of cyclic data.
use Rattle.std.proofs.Common.{◌≡◌, ◌≤◌, inl, inr, ℕ, List, Result, Ok, Err, refl, arith}
use Rattle.std.proofs.lemmas.Bool.{cases_Bool}
use Rattle.pn_values.specs.declared.mac.Mac.{Mac}
use Rattle.cyclic_data.specs.declared.tail.CyclicTail.{CyclicTail}
use Rattle.cyclic_data.specs.declared.tail.ShortFrame.{ShortFrame}
use Rattle.cyclic_data.specs.Tail.{cyclic_of}
use Rattle.cyclic_data.specs.exchange.Cyclic.{Cyclic}
use Rattle.cyclic_data.specs.exchange.Received.{behind_frame, behind_read, is_new, is_of_partner}

-- All but what was accepted is as it was, and its data hold time restarts or goes on.
pub record IsLeft (before after : Cyclic) : Type 0 where
  pub route : after.route ≡ before.route
  pub begun : after.begun ≡ before.begun
  pub limit : after.hearing.limit ≡ before.hearing.limit
  pub held : after.hearing.held ≤ before.hearing.held

read_left : (cyclic : Cyclic) (read : Result (List ℕ × CyclicTail) ShortFrame) → IsLeft cyclic (behind_read cyclic read)
read_left cyclic (Ok x) =
    elim (cases_Bool (is_new cyclic x.1)) [
      | inl t ↦ rw t (record { route = refl; begun = refl; limit = refl; held = omega arith })
      | inr t ↦ rw t (record { route = refl; begun = refl; limit = refl; held = omega arith })
    ]
read_left cyclic (Err short) = record { route = refl; begun = refl; limit = refl; held = omega arith }

pub frame_left : (cyclic : Cyclic) (source : Mac) (frame_id : ℕ) (body : List ℕ) → IsLeft cyclic (behind_frame cyclic source frame_id body)
frame_left cyclic source frame_id body =
    elim (cases_Bool (is_of_partner cyclic.route source frame_id)) [
      | inl t ↦ rw t (read_left cyclic (cyclic_of cyclic.taken.data_length body))
      | inr t ↦ rw t (record { route = refl; begun = refl; limit = refl; held = omega arith })
    ]
