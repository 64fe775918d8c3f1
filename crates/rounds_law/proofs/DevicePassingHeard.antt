-- What a device hears of a frame of outputs.
use Rattle.std.proofs.Common.{◌≡◌, ◌<◌, ◌+◌, ◌==◌, Option, ◌⊎◌, inl, inr, ℕ, true, false, nat_eq, List, [], ◌∷◌, ◌++◌, Some, Result, Ok, Err, refl, sym, ap, subst, ◌∙◌, arith}
use Rattle.std.specs.Cmp.Lexicographic.{pointwise}
use Rattle.std.proofs.lemmas.Bool.{eq-eqb}
use Rattle.std.proofs.lemmas.Bool.Decides.{nat_tests}
use Rattle.pn_values.specs.declared.identity.Identity.{Identity}
use Rattle.pn_values.specs.declared.mac.Mac.{Mac}
use Rattle.wire.specs.Codec.{IsSound, IsSoundWhole}
use Rattle.frame_codec.specs.declared.fault.FrameFault.{FrameFault}
use Rattle.frame_codec.specs.FrameId.{is_alarm, is_cyclic}
use Rattle.frame_codec.specs.Meaning.{Meaning, RealTime}
use Rattle.frame_codec.specs.Frame.{ethernet, frame_bytes, frame_of, layers, padding_of}
use Rattle.frame_codec.specs.Sendable.{carrying}
use Rattle.cyclic_data.specs.exchange.Frames.{cyclic_body}
use Rattle.device_frames.specs.Heard.{Cyclic, Heard, Unreadable, heard_content, heard_frame, heard_of}
use Rattle.controller_messages.specs.declared.setup.Setup.{Setup}
use Rattle.end_laws.specs.hearing.Hearing.{comes}
use Rattle.end_laws.specs.hearing.Stations.{IsDevice, IsSetup}
use Rattle.rounds_law.specs.Path.{IsOutputs}
use Rattle.rounds_law.proofs.DevicePassingRead.{data_is_read}

-- It is a cyclic frame of the controller, or it cannot be read.
abbrev pub AreOutputs : Setup → Heard → Type 0
AreOutputs setup heard = ((frame_id : ℕ) × (body : List ℕ) × (heard ≡ Cyclic setup.plan.controller.mac frame_id body)) ⊎ (heard ≡ Unreadable)

own_octets : (octets : List ℕ) → pointwise nat_eq octets octets ≡ true
own_octets [] = refl
own_octets (octet ∷ octets) = rw (eq-eqb octet octet refl) (own_octets octets)

-- A FrameID that the device chooses in class 1 is one of cyclic frames, and of no others.
record IsCyclicId (id : ℕ) : Type 0 where
  one : (id == 65277) ≡ false
  two : (id == 65278) ≡ false
  three : is_alarm id ≡ false
  cyclic : is_cyclic id ≡ true

cyclic_id : (serial : ℕ) → serial < 14336 → IsCyclicId (0xC000 + serial)
cyclic_id serial few = record { one = grind (arith, nat_tests); two = grind (arith, nat_tests); three = grind (arith, nat_tests); cyclic = grind (arith, nat_tests) }

content_heard : (identity : Identity) (source : Mac) (id : ℕ) (body : List ℕ) → IsCyclicId id
    → heard_content identity identity.mac source (RealTime id body) ≡ Cyclic source id body
content_heard identity source id body is = rw (own_octets identity.mac.octets, is.one, is.two, is.three, is.cyclic) refl

frame_heard : (setup : Setup) (identity : Identity) (id : ℕ) (body : List ℕ) (read : Result Meaning FrameFault) → IsCyclicId id
    → (read ≡ Ok (carrying identity.mac setup.plan.controller.mac (Some 0xC000) (RealTime id body))) ⊎ ((fault : FrameFault) × (read ≡ Err fault))
    → AreOutputs setup (heard_frame identity read)
frame_heard setup identity id body read is (inl e) =
    inl (id, body, ap (λ (r : Result Meaning FrameFault). heard_frame identity r) e ∙ content_heard identity setup.plan.controller.mac id body is)
frame_heard setup identity id body read is (inr e) = inr (ap (λ (r : Result Meaning FrameFault). heard_frame identity r) e.1)

pub outputs_heard : (stands : Option ℕ) → IsSound ethernet → IsSoundWhole layers → (setup : Setup) (identity : Identity) (octets : List ℕ) → IsSetup setup → IsDevice identity
    → IsOutputs setup stands identity.mac octets → AreOutputs setup (heard_of identity (comes octets))
unfolding heard_of
outputs_heard stands sound whole setup identity octets good real is =
    let body = cyclic_body is.shown is.counter in
    let source = setup.plan.controller.mac in
    let id : ℕ = 0xC000 + is.serial in
    let meaning = carrying identity.mac source (Some 0xC000) (RealTime id body) in
    subst (λ (xs : List ℕ). AreOutputs setup (heard_frame identity (frame_of xs))) (sym is.frame)
    (frame_heard setup identity id (body ++ padding_of meaning) (frame_of (frame_bytes meaning)) (cyclic_id is.serial is.few)
    (data_is_read sound whole identity.mac source 0xC000 id body real good.mac (omega arith) (omega (arith, is.few))))
