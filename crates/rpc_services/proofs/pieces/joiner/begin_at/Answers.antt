-- An age that is passed is at most 3, as it was below another one.
use Rattle.std.proofs.Common.{◌≤◌, ℕ, List, set, ap, subst, sym}
use Rattle.std.specs.List.{All}
use Rattle.rpc_services.proofs.PiecesPlaces.{young_ages}
use Rattle.rpc_services.proofs.pieces.joiner.begin_at.Goals as goal

pub returns : goal.returns
returns c =
    let ages = c.args.ages.now in
    let place = c.args.place in
    let passed = ap (λ (xs : List ℕ). set xs place 0) c.pass.ensures in
    record {
      value = rw c.if-not-begins.false passed;
      few = subst (λ (xs : List ℕ). All (λ (age : ℕ). age ≤ 3) xs) (sym passed) (young_ages _ place ages (c.requires.few place 0 c.requires.there) c.requires.few);
    }
