-- The header of an answer, part by part.
use Rattle.std.proofs.Common.{◌≡◌, ℕ, Bool, true, false, List, [], ◌∷◌, ◌++◌, sym, ap, ◌∙◌, append_assoc}
use Rattle.std.proofs.lemmas.List.{append-nil}
use Rattle.byteorder.specs.Endian.{big_bytes}
use Rattle.wire.specs.Codec.{Codec}
use Rattle.wire.specs.Formats.{raw, number, then_by, seen}
use Rattle.wire.specs.Checks.{fixed}
use Rattle.rpc_core.specs.declared.fault.RpcFault.{RpcFault}
use Rattle.rpc_core.specs.declared.fault.RpcFault.TheVariants.{Short, Version}
use Rattle.rpc_core.specs.Fields.{one, little, any}
use Rattle.rpc_core.specs.call_headers.Call.{in_order, opening, names, turn}

-- what is written does not depend on what follows
pub record IsLocal {A : Type 0} (codec : Codec RpcFault A) : Type 0 where
  pub local : (value : A) (rest : List ℕ) → codec.write value rest ≡ codec.write value [] ++ rest

front_local : (front rest : List ℕ) → front ++ rest ≡ (front ++ []) ++ rest
front_local front rest = ap (λ (xs : List ℕ). xs ++ rest) (sym (append-nil front))

raw_local : (fault : RpcFault) (size : ℕ) → IsLocal (raw fault size)
raw_local fault size = record { local = λ value rest. front_local value rest }

number_local : (fault : RpcFault) (size : ℕ) → IsLocal (number fault size)
number_local fault size = record { local = λ value rest. front_local _ rest }

little_local : (size : ℕ) → IsLocal (little size)
little_local size = record { local = λ value rest. front_local _ rest }

module _ {A B : Type 0} (first : Codec RpcFault A) (second : A → Codec RpcFault B) where
  then_local : IsLocal first → ((value : A) → IsLocal (second value)) → IsLocal (then_by first second)
  then_local one other = record {
    local = λ value rest.
        one.local value.0 ((second value.0).write value.1 rest)
        ∙ ap (λ (xs : List ℕ). first.write value.0 [] ++ xs) ((other value.0).local value.1 rest)
        ∙ sym (append_assoc (first.write value.0 []) ((second value.0).write value.1 []) rest)
        ∙ ap (λ (xs : List ℕ). xs ++ rest) (sym (one.local value.0 ((second value.0).write value.1 [])));
  }

module _ {A B : Type 0} (to : A → B) (from : B → A) (codec : Codec RpcFault A) where
  seen_local : IsLocal codec → IsLocal (seen to from codec)
  seen_local one = record { local = λ value rest. one.local (from value) rest }

any_local : (size : ℕ) (written : List ℕ) → IsLocal (any size written)
any_local size written = seen_local _ _ _ (raw_local Short size)

version_local : IsLocal (fixed Version 1 4)
version_local = record { local = λ value rest. front_local (big_bytes 1 4) rest }

pub order_local : (is_low : Bool) (size : ℕ) → IsLocal (in_order is_low size)
unfolding in_order
order_local true size = little_local size
order_local false size = number_local Short size

pub opening_local : IsLocal opening
unfolding opening
opening_local = seen_local _ _ _ (then_local _ _ version_local (λ _. then_local _ _ (number_local Short 1) (λ _. then_local _ _ (number_local Short 1)
    (λ _. then_local _ _ (any_local 1 (0 ∷ [])) (λ _. then_local _ _ (number_local Short 1) (λ _. any_local 3 (0 ∷ 0 ∷ 0 ∷ [])))))))

pub names_local : IsLocal names
unfolding names
names_local = seen_local _ _ _ (then_local _ _ (raw_local Short 16) (λ _. then_local _ _ (raw_local Short 16) (λ _. raw_local Short 16)))

pub turn_local : (is_low : Bool) → IsLocal (turn is_low)
unfolding turn
turn_local is_low = seen_local _ _ _ (then_local _ _ (any_local 4 (0 ∷ 0 ∷ 0 ∷ 0 ∷ [])) (λ _. then_local _ _ (raw_local Short 4)
    (λ _. then_local _ _ (raw_local Short 4) (λ _. order_local is_low 2))))

-- what follows a value that was appended follows it in its spelling too
pub put_on : {A : Type 0} (codec : Codec RpcFault A) (value : A) (front mid all rest : List ℕ) → IsLocal codec
    → mid ≡ front ++ codec.write value [] → all ≡ mid ++ rest → all ≡ front ++ codec.write value rest
put_on codec value front mid all rest is_local e f =
    f ∙ ap (λ (xs : List ℕ). xs ++ rest) e ∙ append_assoc front (codec.write value []) rest ∙ ap (λ (xs : List ℕ). front ++ xs) (sym (is_local.local value rest))
