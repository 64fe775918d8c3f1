-- A frame by its kind, and one of EtherType 0x8892 by what it means to the device.
use Rattle.std.proofs.Common.{◌≡◌, ℕ, List, [], Some, Result, Ok, Err, refl, sym, ap, subst, ◌∙◌}
use Rattle.flash_model.specs.declared.flash.Flash.{Ghosts as Flash}
use Rattle.pn_values.specs.declared.identity.Identity.{Identity}
use Rattle.pn_values.specs.declared.mac.Mac.{Mac}
use Rattle.frame_codec.specs.declared.fault.FrameFault.{FrameFault}
use Rattle.frame_codec.specs.declared.layered.OpenFrame.{OpenFrame}
use Rattle.frame_codec.specs.declared.ethernet.ContentKind.{ContentKind}
use Rattle.frame_codec.specs.Meaning.{Content, RealTime}
use Rattle.frame_codec.specs.Frame.{content_as}
use Rattle.device_frames.specs.declared.hearing.RealTimeKind.{RealTimeKind}
use Rattle.device_frames.specs.Heard.{Heard, heard_by, heard_content}
use Rattle.device_frames.specs.Hearing.{heard_as, heard_in}
use Rattle.device_frames.specs.declared.note.Note.{Note}
use Rattle.device_frames.specs.declared.note.Note.TheVariants.{Fault}
use Rattle.settings_journal.specs.settings_store.Carries.{Holds}
use Rattle.device_core.specs.Handled.{handled}
use Rattle.device_core.specs.State.{State}
use Rattle.device_core.specs.Steps.{Steps}
use Rattle.device_core.proofs.Steps.{refuses_steps}

-- A frame whose Ethernet header was read changes a device as its content does, by its kind.
pub opened_steps : {F : Type 0} {S : ℕ} (as_flash : Flash F S) (old new : State F) (heard : Heard) (frame : OpenFrame) (kind : ContentKind)
    (frames : List (List ℕ)) (said : Note) → heard ≡ heard_in old.station.identity (Some frame) → frame.kind ≡ kind
    → Steps as_flash old (heard_by old.station.identity frame.destination frame.source ((content_as kind).read frame.content.now)) frames said new
    → Steps as_flash old heard frames said new
opened_steps as_flash old new heard frame kind frames said is one steps =
    subst (λ what. Steps as_flash old what frames said new)
    (sym (is ∙ ap (λ k. heard_by old.station.identity frame.destination frame.source ((content_as k).read frame.content.now)) one)) steps

-- A content that was read.
pub read_steps : {F : Type 0} {S : ℕ} (as_flash : Flash F S) (old new : State F) (destination source : Mac) (read : Result Content FrameFault) (content : Content)
    (frames : List (List ℕ)) (said : Note) → read ≡ Ok content → Steps as_flash old (heard_content old.station.identity destination source content) frames said new
    → Steps as_flash old (heard_by old.station.identity destination source read) frames said new
read_steps as_flash old new destination source read content frames said is steps =
    subst (λ r. Steps as_flash old (heard_by old.station.identity destination source r) frames said new) (sym is) steps

-- A content that could not be read: its reader returned no value.
pub unread_steps : {F X : Type 0} {S : ℕ} (as_flash : Flash F S) (old : State F) (destination source : Mac) (result : Result X FrameFault) (read : Result Content FrameFault)
    (frames : List (List ℕ)) (said : Note) → Holds (as_flash.image old.flash) old.live.values → ((fault : FrameFault) → result ≡ Err fault → read ≡ Err fault)
    → ((x : X) → result ≡ Ok x → ⊥) → frames ≡ [] → said ≡ Fault
    → Steps as_flash old (heard_by old.station.identity destination source read) frames said old
unread_steps as_flash old destination source (Ok x) read frames said holds gives not' none note = absurd (not' x refl)
unread_steps as_flash old destination source (Err fault) read frames said holds gives not' none note =
    refuses_steps as_flash old (heard_by old.station.identity destination source read) Fault frames said holds
    (ap (λ r. handled old.station old.live (heard_by old.station.identity destination source r)) (gives fault refl)) none note

-- A frame of a kind changes a device as the frame does.
pub kind_steps : {F : Type 0} {S : ℕ} (as_flash : Flash F S) (old new : State F) (inside : Identity) (destination source : Mac) (frame_id : ℕ) (body : List ℕ)
    (kind is : RealTimeKind) (frames : List (List ℕ)) (said : Note) → inside ≡ old.station.identity
    → heard_content inside destination source (RealTime frame_id body) ≡ heard_as kind source frame_id body → kind ≡ is
    → Steps as_flash old (heard_as is source frame_id body) frames said new
    → Steps as_flash old (heard_content old.station.identity destination source (RealTime frame_id body)) frames said new
kind_steps as_flash old new inside destination source frame_id body kind is frames said own heard one steps =
    subst (λ what. Steps as_flash old what frames said new)
    (sym (sym (ap (λ identity. heard_content identity destination source (RealTime frame_id body)) own) ∙ heard ∙ ap (λ k. heard_as k source frame_id body) one)) steps
