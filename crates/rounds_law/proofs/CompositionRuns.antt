-- If both ends exchange data after at most some rounds, they do so in each run of that number of rounds.
use Rattle.std.proofs.Common.{inl, inr, ℕ, zero, suc, refl, sym, subst, arith}
use Rattle.std.specs.List.{AllByRecursion}
use Rattle.flash_model.specs.declared.flash.Flash.{Ghosts as Flash}
use Rattle.pn_values.specs.declared.identity.Identity.{Identity}
use Rattle.controller_messages.specs.declared.setup.Setup.{Setup}
use Rattle.rounds_law.specs.Path.{IsIgnored}
use Rattle.rounds_law.specs.Rounds.{ExchangeWithin, Net, Rounds}
use Rattle.rounds_law.specs.Stages.{IsLooking, Leads}
use Rattle.rounds_law.proofs.CompositionEnds.{searching_first}
use Rattle.rounds_law.specs.Start.{IsStart}

module _ {F : Type 0} {S : ℕ} (as_flash : Flash F S) where
  pub within : (limit : ℕ) (first last : Net F) → Leads as_flash limit first → Rounds as_flash limit first last → ExchangeWithin as_flash limit first last
  within zero first last both rounds = record { before = 0; after = 0; in_time = omega arith; net = first; to = refl; from = rounds; both = both }
  within (suc limit) first last (inl both) rounds =
      record { before = 0; after = suc limit; in_time = omega arith; net = first; to = refl; from = rounds; both = both }
  within (suc limit) first last (inr leads) rounds =
      let later = within limit rounds.0 last (leads.1 rounds.0 rounds.1) rounds.2 in
      record {
        before = suc later.before;
        after = later.after;
        in_time = omega (arith, later.in_time);
        net = later.net;
        to = (rounds.0, rounds.1, later.to);
        from = later.from;
        both = later.both;
      }

-- a start is the first stage
pub start_looks : {F : Type 0} (setup : Setup) (identity : Identity) (net : Net F) → IsStart setup identity net → IsLooking setup identity net
start_looks setup identity net start = record {
  searches = searching_first setup net.controller start.of_setup start.made;
  opened = start.opened;
  ignored = subst (λ fs. AllByRecursion (IsIgnored setup) fs) (sym start.silent) tt;
  of_device = start.of_device;
  of_plan = start.of_plan;
  named = start.named;
  free = start.free;
  sized = start.sized;
  addressed = start.addressed;
}
