-- An input that is given while the first one is awaited.
use Rattle.std.proofs.Common.{◌≡◌, ℕ, true, Option, Some, None, is_some, option_map, unwrap_or, refl}
use Rattle.std.proofs.lemmas.Bool.{false≢true}
use Rattle.cyclic_data.specs.exchange.Cyclic.{Cyclic}
use Rattle.relations.specs.exchange.Flow.{Flow}
use Rattle.relations.specs.exchange.Marks.{awaits}
use Rattle.relations.specs.exchange.Process.{remarked, with_cyclic, with_input}

pub given_first : (flow : Flow) (slot subslot : ℕ) (given : Option Cyclic) → is_some given ≡ true → awaits slot subslot flow.marks ≡ true
    → remarked (with_cyclic flow (unwrap_or given flow.cyclic)) slot subslot None ≡ unwrap_or (option_map (with_input flow slot subslot) given) flow
given_first flow slot subslot (Some cyclic) is first = rw first refl
given_first flow slot subslot None is first = absurd (false≢true is)
