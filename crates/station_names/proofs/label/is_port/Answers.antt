use Rattle.std.proofs.Common.{Some, [], ◌∷◌, sym, ◌∙◌}
use Rattle.std.proofs.lemmas.Bool.Decides.{Decides-eqb}
use Rattle.std.proofs.lemmas.Slice.Eq.{strip_prefix_is}
use Rattle.std.proofs.lemmas.Bool.{eqb-true, eq-eqb}
use Rattle.pn_values.specs.StationName.{hyphen}
use Rattle.station_names.proofs.SingleLabel.{long_port}
use Rattle.station_names.proofs.label.is_port.Goals as goal
use Rattle.station_names.proofs.label.is_port.Goals.{then-all_digits, else-all_digits}

pub returns-then-port-eq45 : goal.returns-then-port-eq45
returns-then-port-eq45 c =
    let is = strip_prefix_is Decides-eqb c.args.label.now (112 ∷ 111 ∷ 114 ∷ 116 ∷ hyphen ∷ []) (Some c.in-Some.port) c.in-Some.ensures.cases in
    let test = long_port c.args.label.now c.in-Some.port.now is c.if-port-eq9.true in
    elim c.if-all_digits.branch [
      | then-all_digits w ↦ (
        λ yes. test.1 (c.all_digits-in-Some-2.ensures.0 w.if-all_digits.true, eqb-true _ _ (sym w.value-is ∙ c.if-port-eq45.true), c.all_digits-then-port-eq45.ensures.0 yes),
        λ h. c.all_digits-then-port-eq45.ensures.1 (test.0 h).2,
      )
      | else-all_digits w ↦ cc
    ]

pub returns-else-port-eq45 : goal.returns-else-port-eq45
returns-else-port-eq45 c =
    let is = strip_prefix_is Decides-eqb c.args.label.now (112 ∷ 111 ∷ 114 ∷ 116 ∷ hyphen ∷ []) (Some c.in-Some.port) c.in-Some.ensures.cases in
    let test = long_port c.args.label.now c.in-Some.port.now is c.if-port-eq9.true in
    elim c.if-all_digits.branch [
      | then-all_digits w ↦ (λ yes. cc, λ h. w.value-is ∙ eq-eqb _ _ (test.0 h).1)
      | else-all_digits w ↦ (λ yes. cc, λ h. let front = c.all_digits-in-Some-2.ensures.1 (test.0 h).0 in cc)
    ]
