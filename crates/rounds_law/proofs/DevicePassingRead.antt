-- Real-time data of any length is read as it was written, or the frame is too long.
use Rattle.std.proofs.Common.{◌≡◌, ◌⊎◌, inl, inr, ◌<◌, ℕ, Bool, true, false, cond, nat_lt, List}
use Rattle.std.proofs.Common.{[], ◌++◌, length, Some, Result, Ok, Err, refl, sym, ap, ◌∙◌, append_assoc, arith}
use Rattle.pn_values.specs.declared.mac.Mac.{Mac}
use Rattle.wire.specs.Codec.{IsSound, IsSoundWhole, ◌>>=◌}
use Rattle.frame_codec.specs.declared.fault.FrameFault.{FrameFault}
use Rattle.frame_codec.specs.declared.fault.FrameFault.TheVariants.{TooLong}
use Rattle.frame_codec.specs.Meaning.{Meaning, RealTime}
use Rattle.frame_codec.specs.Frame.{content_under, ethernet, frame_bytes, frame_of, header_of, layers}
use Rattle.frame_codec.specs.Frame.{longest, mac, padding_of, profinet, real_time, tag_and_type}
use Rattle.frame_codec.specs.Sendable.{IsMac, carrying}

-- Data of any length fits the layers.
data_fits : (destination source : Mac) (tag frame_id : ℕ) (body : List ℕ) → IsMac destination → IsMac source → tag < 65536 → frame_id < 65536
    → layers.Fits (carrying destination source (Some tag) (RealTime frame_id body))
unfolding layers ethernet mac tag_and_type real_time
data_fits destination source tag frame_id body one other tagged small =
    ((one, (other, (omega arith, (omega (arith, tagged), omega arith)))), (omega (arith, small), tt))

-- What is written after a frame of data belongs to its data.
data_behind : IsSound ethernet → (destination source : Mac) (tag frame_id : ℕ) (body more : List ℕ)
    → layers.write (carrying destination source (Some tag) (RealTime frame_id body)) ++ more
    ≡ layers.write (carrying destination source (Some tag) (RealTime frame_id (body ++ more)))
unfolding layers real_time
data_behind sound destination source tag frame_id body more =
    let header = header_of (carrying destination source (Some tag) (RealTime frame_id body)) in
    let content = (content_under profinet).write (RealTime frame_id body) in
    ap (λ (xs : List ℕ). xs ++ more) (sound.local header content) ∙ append_assoc (ethernet.write header []) content more
    ∙ sym (sound.local header (content ++ more))

-- The outcome of a reader that judges the length first.
judged : (long : Bool) (r : Result Meaning FrameFault) (meaning : Meaning) → r ≡ Ok meaning
    → (cond long (Err TooLong) r ≡ Ok meaning) ⊎ ((fault : FrameFault) × (cond long (Err TooLong) r ≡ Err fault))
judged true r meaning e = inr (TooLong, refl)
judged false r meaning e = inl e

read_under : {H : Type 0} (long : H → Bool) (header : Result H FrameFault) (r : Result Meaning FrameFault) (meaning : Meaning) → r ≡ Ok meaning
    → ((header >>= λ h. cond (long h) (Err TooLong) r) ≡ Ok meaning) ⊎ ((fault : FrameFault) × ((header >>= λ h. cond (long h) (Err TooLong) r) ≡ Err fault))
read_under long (Ok h) r meaning e = judged (long h) r meaning e
read_under long (Err fault) r meaning e = inr (fault, refl)

pub data_is_read : IsSound ethernet → IsSoundWhole layers → (destination source : Mac) (tag frame_id : ℕ) (body : List ℕ)
    → IsMac destination → IsMac source → tag < 65536 → frame_id < 65536
    → (frame_of (frame_bytes (carrying destination source (Some tag) (RealTime frame_id body)))
    ≡ Ok (carrying destination source (Some tag) (RealTime frame_id (body ++ padding_of (carrying destination source (Some tag) (RealTime frame_id body))))))
    ⊎ ((fault : FrameFault) × (frame_of (frame_bytes (carrying destination source (Some tag) (RealTime frame_id body))) ≡ Err fault))
unfolding frame_of frame_bytes
data_is_read sound whole destination source tag frame_id body one other tagged small =
    let meaning = carrying destination source (Some tag) (RealTime frame_id body) in
    let octets = layers.write meaning ++ padding_of meaning in
    let padded = carrying destination source (Some tag) (RealTime frame_id (body ++ padding_of meaning)) in
    let fits = data_fits destination source tag frame_id (body ++ padding_of meaning) one other tagged small in
    let spelled = whole.again (layers.write padded) padded (whole.written padded fits) in
    read_under (λ h. nat_lt (longest h.0.tag) (length octets)) (ethernet.read octets) (layers.read octets) padded
    (ap (λ (xs : List ℕ). layers.read xs) (data_behind sound destination source tag frame_id body (padding_of meaning)) ∙ spelled)
