-- What a frame does, by what it tells.
use Rattle.std.proofs.Common.{◌≡◌, ◌==◌, ◌+◌, ◌*◌, ℕ, true, false, List, Some, None, refl, arith}
use Rattle.std.proofs.lemmas.Bool.{ne_eqb}
use Rattle.lldp.specs.Peer.{Told}
use Rattle.lldp.specs.Frame.{told_in}
use Rattle.lldp.specs.State.{State, heard, is_known}

pub dropped : (state : State) (bytes : List ℕ) → told_in state.mac bytes ≡ None → heard state bytes ≡ state
unfolding heard
dropped state bytes e = rw e refl

pub learnt : (state : State) (bytes : List ℕ) (told : Told) (seconds : ℕ) → told_in state.mac bytes ≡ Some told → told.lifetime ≡ seconds + 1
    → (heard state bytes).known ≡ Some (record { peer = told.peer; left = told.lifetime * 32000 })
unfolding heard
learnt state bytes told seconds e f = let some : (told.lifetime == 0) ≡ false = ne_eqb _ _ (omega (arith, f)) in rw (e, some) refl

pub forgotten : (state : State) (bytes : List ℕ) (told : Told) → told_in state.mac bytes ≡ Some told → told.lifetime ≡ 0 → is_known state.known told.peer ≡ true → (heard state bytes).known ≡ None
unfolding heard
forgotten state bytes told e f is = rw (e, f, is) refl

pub other : (state : State) (bytes : List ℕ) (told : Told) → told_in state.mac bytes ≡ Some told → told.lifetime ≡ 0 → is_known state.known told.peer ≡ false → heard state bytes ≡ state
unfolding heard
other state bytes told e f is = rw (e, f, is) refl
