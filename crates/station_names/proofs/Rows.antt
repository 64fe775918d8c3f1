-- Texts that are names and texts that are not, judged by the definition itself.
use Rattle.std.proofs.Common.{◌≡◌, ℕ, false, true, get_or, ap, [], ◌∷◌, IsTrue, codes, inl, inr, refl, lit≤, lit<, arith}
use Rattle.std.proofs.lemmas.Bool.Decides.{Decides-eqb}
use Rattle.std.proofs.lemmas.List.Elements.{All-from_recursion, All-head}
use Rattle.std.proofs.lemmas.Slice.Eq.{ends_is}
use Rattle.pn_values.specs.StationName.{hyphen, is_label_byte, IsLabel, IsAddressPart, IsPort, IsStationName}
use Rattle.station_names.proofs.SingleLabel.{IsDigit}

pump_is_label : IsLabel (codes "pump-1")
pump_is_label = record {
  some = lit≤ tt;
  short = lit≤ tt;
  bytes = All-from_recursion (λ byte. IsTrue (is_label_byte byte)) (codes "pump-1") (refl, (refl, (refl, (refl, (refl, (refl, tt))))));
  first = λ at. cc;
  last = λ front at. let ends : false ≡ true = (ends_is Decides-eqb (codes "pump-1") (hyphen ∷ []) false refl).1 front at in cc;
}

pump_is_name : IsStationName (codes "pump-1")
pump_is_name = record {
  short = lit≤ tt;
  labels = All-from_recursion IsLabel (codes "pump-1" ∷ []) (pump_is_label, tt);
  no_address = λ (four, parts). omega arith;
  no_port = λ ports. elim (All-head IsPort (codes "pump-1") [] ports).2 [
    | inl form ↦ omega (arith, ap (λ bytes. get_or bytes 1 0) form)
    | inr form ↦ omega (arith, ap (λ bytes. get_or bytes 1 0) form.2)
  ];
}

hyphen_before_dot : ¬ IsStationName (codes "a-.b")
hyphen_before_dot name = (name.labels 0 [] (lit< tt)).last (codes "a") refl

port : ¬ IsStationName (codes "port-001")
port name = name.no_port (All-from_recursion IsPort (codes "port-001" ∷ [])
    ((codes "001", (refl, All-from_recursion IsDigit (codes "001") (refl, (refl, (refl, tt)))), inl refl), tt))

port_of_slot : ¬ IsStationName (codes "port-001-00002")
port_of_slot name = name.no_port (All-from_recursion IsPort (codes "port-001-00002" ∷ []) (
  (
    codes "001",
    (refl, All-from_recursion IsDigit (codes "001") (refl, (refl, (refl, tt)))),
    inr (codes "00002", (refl, All-from_recursion IsDigit (codes "00002") (refl, (refl, (refl, (refl, (refl, tt)))))), refl),
  ),
  tt,
))

digit : (byte : ℕ) → IsDigit byte → IsAddressPart (byte ∷ [])
digit byte is = (lit≤ tt, lit≤ tt, All-from_recursion IsDigit (byte ∷ []) (is, tt))

address : ¬ IsStationName (codes "1.2.3.4")
address name = name.no_address (
  refl,
  All-from_recursion IsAddressPart (codes "1" ∷ codes "2" ∷ codes "3" ∷ codes "4" ∷ [])
      (digit 49 refl, (digit 50 refl, (digit 51 refl, (digit 52 refl, tt)))),
)
