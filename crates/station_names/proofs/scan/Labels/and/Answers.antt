-- One more label.
use Rattle.std.proofs.Common.{◌≡◌, ◌↔◌, ◌<◌, ◌==◌, ℕ, Bool, List, [], ◌∷◌, ◌++◌, length, take, All, IsTrue, ltb, refl, ap, sym, ◌∙◌, arith}
use Rattle.std.proofs.lemmas.Bool.{eqb-true, eq-eqb, ltb-true, lt-ltb}
use Rattle.std.proofs.lemmas.List.{length_push, nil_from_length}
use Rattle.std.proofs.lemmas.List.Elements.{All-cons, All-nil, All-head}
use Rattle.pn_values.specs.StationName.{IsAddressPart, IsPort}
use Rattle.station_names.specs.NameFault.{HasHyphenEnd}
use Rattle.station_names.proofs.Lists.{or_push, and_push}
use Rattle.station_names.proofs.scan.Labels.and.Goals as goal

is_empty : (label : List ℕ) (empty : Bool) → empty ≡ (length label == 0) → IsTrue empty ↔ (label ≡ [])
is_empty label empty is = (λ yes. nil_from_length label (eqb-true _ _ (sym is ∙ yes)), λ nil. is ∙ eq-eqb _ _ (ap length nil))

is_long : (label : List ℕ) → IsTrue (ltb 63 (length label)) ↔ (63 < length label)
is_long label = (λ yes. ltb-true _ _ yes, λ h. lt-ltb _ _ h)

-- the first of some labels and one more
first_port : (labels : List (List ℕ)) (label : List ℕ) (before now : Bool) → (length labels ≡ 0 → IsTrue now ↔ IsPort label) → (0 < length labels → now ≡ before)
    → (0 < length labels → IsTrue before ↔ All IsPort (take 1 labels)) → IsTrue now ↔ All IsPort (take 1 (labels ++ label ∷ []))
first_port [] label before now first later port =
    (λ yes. All-cons IsPort label [] ((first refl).0 yes) (All-nil IsPort), λ all. (first refl).1 (All-head IsPort label [] all))
first_port (one ∷ labels) label before now first later port =
    let some : 0 < length (one ∷ labels) = omega arith in
    (λ yes. (port some).0 (sym (later some) ∙ yes), λ all. later some ∙ (port some).1 all)

pub returns-clause-seen : goal.returns-clause-seen
returns-clause-seen c = λ labels seen.
    let counted = seen.count in
    record {
      count = omega (arith, counted, length_push labels c.args.label.now);
      empty = or_push (λ label. label ≡ []) labels c.args.label.now c.args.self.has_empty c.is_empty.result seen.empty (is_empty c.args.label.now c.is_empty.result c.is_empty.ensures);
      long = or_push (λ label. 63 < length label) labels c.args.label.now c.args.self.has_long (ltb 63 (length c.args.label.now)) seen.long (is_long c.args.label.now);
      hyphen_end = or_push HasHyphenEnd labels c.args.label.now c.args.self.has_hyphen_end c.has_hyphen_end.result seen.hyphen_end c.has_hyphen_end.ensures;
      parts = and_push IsAddressPart labels c.args.label.now c.args.self.are_address_parts c.is_address_part.result seen.parts c.is_address_part.ensures;
      port = λ _. first_port labels c.args.label.now c.args.self.begins_with_port c.begins_with_port_before.result
          (λ none. c.begins_with_port_before.ensures.first (counted ∙ none))
          (λ some. c.begins_with_port_before.ensures.later (λ none. absurd (omega arith))) seen.port;
    }
