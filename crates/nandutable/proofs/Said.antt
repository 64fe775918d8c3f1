-- What a call says of the last value of a reference that it lends on.
use Rattle.std.proofs.Common.{[], ◌∷◌}
use mathlib.Core.Option.{none}
use seplogic.Ra.Ura.{Ura}
use base.Logic.{ent, ex, ex_e, sep}
use base.Fml.{GName, fres}
use contract.Monad.{fact}
use types.Logic.{Logic, sem}
use types.Kit.{‵, ◌$◌, ◌∵◌, !, qed, show, done}
use denote.Follow.{follows_so, follows_by, such_by}
use denote.RattleType.{RattleType}
use denote.Triple.Walked.{says}

pub said : {M : Type 1} {𝓤 : Ura M} (𝓛 : Logic 𝓤) (R : RattleType) (γ : GName) (P : R.Denot → R.Denot → Type 0) (P₀ : R.Denot → Type 0)
    → ent 𝓤 (sem 𝓛 (follows_so R R γ none P P₀)) (ex 𝓤 (λ (v : R.Denot). sep 𝓤 (sem 𝓛 (fres γ (R.coded.code v))) (fact 𝓤 (P₀ v))))
unfolding such_by follows_by
said {𝓤 = 𝓤} 𝓛 R γ P P₀ = ex_e 𝓤 _ (λ s. qed 𝓛 (‵ (fres γ (R.coded.code s.0.1)) ∷ []) ∵
    show ! (λ (v : R.Denot). sep 𝓤 (sem 𝓛 (fres γ (R.coded.code v))) (fact 𝓤 (P₀ v))) s.0.1 $ says ! s.2 $ done !)
