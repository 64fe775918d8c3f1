-- A catalogue has at most one plan, and one that has a plan is refused only if there is no memory.
use Rattle.std.proofs.Common.{◌≡◌, inl, inr, ℕ, Bool, true, false, List, Option, Some, Result, Ok, Err, ap, refl, sym, subst, ◌∙◌}
use Rattle.std.specs.declared.net.ipv4_addr.Ipv4Addr.{Ipv4Addr}
use Rattle.std.specs.Net.Addr.{ipv4_octets}
use Rattle.std.specs.Net.Grammar.{IsDotted}
use Rattle.std.proofs.NetLemmas.Theorems.{IsIpv4Text_unique}
use Rattle.serde_json.specs.Read.{read}
use Rattle.plans.specs.declared.parts.Parts.{Parts}
use Rattle.plans.specs.declared.plan.TooLong.{TooLong}
use Rattle.plans.specs.declared.plan.TooLong.TheVariants as long
use Rattle.plans.specs.Plan.{plan_of}
use Rattle.catalogue.specs.declared.keys.fault.CatalogueFault.TheVariants as reading
use Rattle.catalogue.specs.declared.keys.fault.PlacedFault.{PlacedFault}
use Rattle.catalogue.specs.Catalogues.{Catalogue, Found, Refuses, catalogue}
use Rattle.catalogue.specs.Projects.{Project}
use Rattle.configurator.specs.declared.fault.PlanFault.{PlanFault}
use Rattle.configurator.specs.declared.fault.PlanFault.TheVariants.{Json, MissingKey, WrongKind, Number, NotAllowedInSlot, TooManySlots, FrameTooLong, ConnectTooLong, Name, Address, OutOfMemory}
use Rattle.configurator.specs.Addresses.{AreAddresses}
use Rattle.configurator.specs.Allowed.{are_allowed}
use Rattle.configurator.specs.Few.{are_few}
use Rattle.configurator.specs.Fault.{of_catalogue}
use Rattle.configurator.specs.Planned.{ArePartsOf, IsPlanOf, IsRefused, Handled, parts_of}
use Rattle.script_session.specs.Ends.{KnowsThePlan, KnowsTheRefusal}

some_same : {A : Type 0} (a b : A) (found : Option A) → found ≡ Some a → found ≡ Some b → a ≡ b
some_same a b found one other = cc

ok_same : {A F : Type 0} (a b : A) (found : Result A F) → found ≡ Ok a → found ≡ Ok b → a ≡ b
ok_same a b found one other = cc

ok_not : {A F : Type 0} (a : A) (fault : F) (found : Result A F) → found ≡ Ok a → found ≡ Err fault → ⊥
ok_not a fault found one other = cc

true_not : (b : Bool) → b ≡ true → b ≡ false → ⊥
true_not b one other = cc

-- A text is JSON of at most one tree, which is at most one catalogue.
found_same : (text : List ℕ) (a b : Catalogue) → Found text a → Found text b → a ≡ b
found_same text a b one other =
    let tree = some_same one.0 other.0 (read text) one.1.1 other.1.1 in
    ok_same a b (catalogue one.0) one.2 (subst (λ t. catalogue t ≡ Ok b) (sym tree) other.2)

-- An address is written in one way.
address_of : List ℕ → Ipv4Addr
address_of octets = record { octets = octets }

dotted_same : (text a b : List ℕ) → IsDotted text a → IsDotted text b → a ≡ b
unfolding address_of
dotted_same text a b one other = ap ipv4_octets (IsIpv4Text_unique text (address_of a) (address_of b) one other)

addresses_same : (wanted : Project) (a b : _) → AreAddresses wanted a → AreAddresses wanted b → a ≡ b
addresses_same wanted a b one other =
    let address = dotted_same wanted.station.address a.suite.address b.suite.address one.suite.address other.suite.address in
    let mask = dotted_same wanted.station.mask a.suite.mask b.suite.mask one.suite.mask other.suite.mask in
    let gateway = dotted_same wanted.station.gateway a.suite.gateway b.suite.gateway one.suite.gateway other.suite.gateway in
    let mac = some_same a.mac.octets b.mac.octets _ one.mac.spelled other.mac.spelled in
    let host = dotted_same wanted.controller.address a.address b.address one.host.spelled other.host.spelled in
    λ i. record { suite = record { address = address i; mask = mask i; gateway = gateway i }; mac = record { octets = mac i }; address = host i }

parts_same : (found : Catalogue) (a b : Parts) → ArePartsOf found a → ArePartsOf found b → a ≡ b
parts_same found a b one other =
    one.made
    ∙ ap (parts_of found) (addresses_same found.project one.addressed.addresses other.addressed.addresses one.addressed.addressed other.addressed.addressed)
    ∙ sym other.made

pub one_plan : (text : List ℕ) (a b : Parts) → IsPlanOf text a → IsPlanOf text b → a ≡ b
one_plan text a b one other =
    let found = found_same text one.0 other.0 one.1 other.1 in
    parts_same other.0 a b (subst (λ f. ArePartsOf f a) found one.2.0) other.2.0

-- ---- a catalogue with a plan is not refused

-- Reading a text that is a catalogue fails only if there is no memory.
read_refused : (text : List ℕ) (found : Catalogue) (fault : PlacedFault) → Found text found → Refuses text fault → fault.fault ≡ reading.OutOfMemory
read_refused text found fault is (inl memory) = memory
read_refused text found fault is (inr (inl json)) = absurd (json.1 is.0 is.1)
read_refused text found fault is (inr (inr bad)) =
    let tree = some_same is.0 bad.0 (read text) is.1.1 bad.1.1 in
    absurd (ok_not found fault (catalogue is.0) is.2 (subst (λ t. catalogue t ≡ Err fault) (sym tree) bad.2))

too_long : (found : Catalogue) (parts other : Parts) (fault : TooLong) → ArePartsOf found parts → plan_of parts ≡ Ok parts → ArePartsOf found other → plan_of other ≡ Err fault → ⊥
too_long found parts other fault are plan have long =
    let same = parts_same found other parts have are in
    ok_not parts fault (plan_of parts) plan (subst (λ p. plan_of p ≡ Err fault) same long)

-- A catalogue whose parts are a plan is refused as a whole only if there is no memory.
handled_for_memory : (found : Catalogue) (parts : Parts) (fault : PlanFault) → ArePartsOf found parts → plan_of parts ≡ Ok parts → Handled found (Err fault) → fault ≡ OutOfMemory
handled_for_memory found parts Name are plan handled = absurd (handled are.addressed.named)
handled_for_memory found parts Address are plan handled = absurd (handled.1 are.addressed.addresses are.addressed.addressed)
handled_for_memory found parts NotAllowedInSlot are plan handled = absurd (true_not (are_allowed found) are.allowed handled.1)
handled_for_memory found parts TooManySlots are plan handled = absurd (true_not (are_few found) are.few handled.2)
handled_for_memory found parts FrameTooLong are plan handled = absurd (too_long found parts handled.0 long.Frame are plan handled.1 handled.2)
handled_for_memory found parts ConnectTooLong are plan handled = absurd (too_long found parts handled.0 long.Connect are plan handled.1 handled.2)
handled_for_memory found parts Json are plan handled = absurd handled
handled_for_memory found parts MissingKey are plan handled = absurd handled
handled_for_memory found parts WrongKind are plan handled = absurd handled
handled_for_memory found parts Number are plan handled = absurd handled
handled_for_memory found parts OutOfMemory are plan handled = refl

pub memory_alone : (text : List ℕ) (parts : Parts) (fault : PlanFault) → IsPlanOf text parts → IsRefused text fault → fault ≡ OutOfMemory
memory_alone text parts fault plan (inl read) = read.2 ∙ ap of_catalogue (read_refused text plan.0 read.0 plan.1 read.1)
memory_alone text parts fault plan (inr handled) =
    let found = found_same text handled.0 plan.0 handled.1 plan.1 in
    handled_for_memory plan.0 parts fault plan.2.0 plan.2.1 (subst (λ f. Handled f (Err fault)) found handled.2)

-- ---- tables of plans

pub knows_the_plan : KnowsThePlan
knows_the_plan plans catalogue plan is has = record {
  planned = λ other is_other. has ∙ ap Some (one_plan catalogue plan other is is_other);
  refused = λ fault refused. inl (memory_alone catalogue plan fault is refused);
}

pub knows_the_refusal : KnowsTheRefusal
knows_the_refusal plans catalogue fault refused other none = record {
  planned = λ plan is. absurd (other (memory_alone catalogue plan fault is refused));
  refused = λ again is. inr none;
}
