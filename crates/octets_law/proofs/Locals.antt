-- What the application says: an answer to a call that it is asked, or what is local.
use Rattle.std.proofs.Common.{ℕ, List, Option, refl}
use Rattle.arrayvec.specs.ArrayVec.{ArrayVec}
use Rattle.pn_values.specs.declared.real.RealModule.{RealModule}
use Rattle.asked_records.specs.Answers.{Gives, gives_done, gives_octets, gives_refusal}
use Rattle.device_frames.specs.declared.local.Local.{Local}
use Rattle.device_frames.specs.declared.local.Local.TheVariants as local
use Rattle.device_core.specs.Handled.{Handled, handled_gives, handled_local}
use Rattle.device_core.specs.Local.{IsLocal}
use Rattle.device_core.specs.State.{Live, Station}
use Rattle.device_core.proofs.Applied.{local_is}

-- This holds of whatever it says, if it holds of what is local and of each answer.
pub by_local : (station : Station) (live : Live) (P : Handled → Type 0) (said : Local (ArrayVec ℕ))
    → ((made : Option (List RealModule)) (what : Handled) → IsLocal station live made what → P what)
    → ((number : ℕ) (given : Gives) → P (handled_gives station live number given)) → P (handled_local station live said)
by_local station live P (local.Answer number octets) plain answer = answer number (gives_octets octets.items)
by_local station live P (local.Written number) plain answer = answer number gives_done
by_local station live P (local.Refuse number code1 code2) plain answer = answer number (gives_refusal code1 code2)
by_local station live P (local.Input slot subslot value) plain answer = plain _ _ (local_is station live (local.Input slot subslot value) refl)
by_local station live P (local.Alarm slot subslot octets) plain answer = plain _ _ (local_is station live (local.Alarm slot subslot octets) refl)
by_local station live P (local.Status slot subslot is_good) plain answer = plain _ _ (local_is station live (local.Status slot subslot is_good) refl)
by_local station live P (local.Diagnosis slot subslot channel error appears) plain answer =
    plain _ _ (local_is station live (local.Diagnosis slot subslot channel error appears) refl)
by_local station live P (local.Pull slot subslot) plain answer = plain _ _ (local_is station live (local.Pull slot subslot) refl)
by_local station live P (local.PullModule slot) plain answer = plain _ _ (local_is station live (local.PullModule slot) refl)
by_local station live P (local.Plug slot ident part) plain answer = plain _ _ (local_is station live (local.Plug slot ident part) refl)
by_local station live P (local.ReadyAt slot subslot) plain answer = plain _ _ (local_is station live (local.ReadyAt slot subslot) refl)
by_local station live P local.Ready plain answer = plain _ _ (local_is station live local.Ready refl)
by_local station live P (local.ProviderState is_running) plain answer = plain _ _ (local_is station live (local.ProviderState is_running) refl)
