-- An image has one start: one active sector and one result.
use Rattle.std.proofs.Common.{◌≡◌, ◌≢◌, ◌⊎◌, ◌<◌, ◌≤◌, ℕ, List, refl, sym, ap, subst, ◌∙◌, inl, inr, arith, Option, Some, None, lit<}
use Rattle.pn_values.specs.Settings.{factory_settings}
use Rattle.pn_values.specs.declared.settings.Settings.{Settings}
use Rattle.std.proofs.lemmas.List.{get_or-take, get_or-replicate, length-replicate}
use Rattle.flash_model.specs.Image.{Image, erased, slots_in, sector_of, IsImage, IsSectorSize}
use Rattle.flash_model.specs.declared.flash.Sector.{Sector}
use Rattle.flash_model.specs.declared.flash.Sector.TheVariants.{First, Second}
use Rattle.settings_journal.specs.Head.{head_of, gate_of, version_at, generation_at, Counts}
use Rattle.settings_journal.specs.Image.{head_in, slots_of, left_in, room_of, IsActive, IsClosed, Reads, StartsAt, StartsWith, IsForeign, LeftByDevice, capacity}
use Rattle.settings_journal.proofs.Parts.{Spells-same}
use Rattle.settings_journal.proofs.Slots.{After-same}

-- at most one sector is active
pub active_same : (image : Image) (s t : Sector) → IsActive image s → IsActive image t → s ≡ t
active_same image First First a b = refl
active_same image Second Second a b = refl
active_same image First Second a b = absurd (omega (arith, a.newest b.counts, b.newest a.counts))
active_same image Second First a b = absurd (omega (arith, a.newest b.counts, b.newest a.counts))

-- if no gate is open, no sector is active
pub closed_none : (image : Image) (s : Sector) → IsClosed image → ¬ Counts (head_in image s)
closed_none image First closed counts = closed.first counts.gate
closed_none image Second closed counts = closed.second counts.gate

-- a sector is read as at most one value of settings
pub Reads-same : (sector : List ℕ) (x y : Settings) → Reads sector x → Reads sector y → x ≡ y
Reads-same sector x y p q =
    let base = Spells-same (head_of sector) p.base q.base p.spells q.spells in
    After-same (version_at (head_of sector)) sector (slots_of sector) p.base q.base x y base p.after q.after

reads_same : (image : Image) (s t : Sector) (x y : Settings) → s ≡ t → Reads (sector_of image s) x → Reads (sector_of image t) y → x ≡ y
reads_same image s t x y e p q = Reads-same (sector_of image t) x y (subst (λ u. Reads (sector_of image u) x) e p) q

-- an image has at most one start
pub start_same : (image : Image) (a b : Option Sector) (x y : Settings) (g h m n : ℕ) → StartsAt image a x g m → StartsAt image b y h n → (x ≡ y) × (g ≡ h) × (m ≡ n)
start_same image None None x y g h m n p q = (p.1 ∙ sym q.1, p.2 ∙ sym q.2, p.3 ∙ sym q.3)
start_same image None (Some t) x y g h m n p q = absurd (closed_none image t p.0 q.0.counts)
start_same image (Some s) None x y g h m n p q = absurd (closed_none image s q.0 p.0.counts)
start_same image (Some s) (Some t) x y g h m n p q =
    let e = active_same image s t p.0 q.0 in
    (reads_same image s t x y e p.1 q.1, p.2 ∙ ap (λ u. generation_at (head_in image u)) e ∙ sym q.2, p.3 ∙ ap (λ u. left_in (sector_of image u)) e ∙ sym q.3)

-- if the image can be read, the start gives what is read
pub known : (image : Image) (a : Option Sector) (x y : Settings) (g m room slots : ℕ) → slots ≡ slots_of image.first → StartsAt image a x g m → StartsWith image y room → (x ≡ y) × (room_of slots g m ≡ room)
known image a x y g m room slots few p q =
    let same = start_same image a q.0 x y g q.1 m q.2 p q.3 in
    (same.0, ap (λ s. room_of s g m) few ∙ ap (λ k. room_of (slots_of image.first) k m) same.1 ∙ ap (λ k. room_of (slots_of image.first) q.1 k) same.2 ∙ sym q.4)

-- a start, with the room in sectors of this size
pub starts_with : (image : Image) (a : Option Sector) (x : Settings) (g m size : ℕ) → IsImage size image → StartsAt image a x g m → StartsWith image x (room_of (slots_in size) g m)
starts_with image a x g m size sized p = (a, g, m, p, ap (λ n. room_of (slots_in n) g m) (sym sized.first_size))

-- an image that a journal left has a start
pub left_starts : (image : Image) → LeftByDevice image → (a : Option Sector) × (x : Settings) × (g : ℕ) × (m : ℕ) × StartsAt image a x g m
left_starts image (None, left) = (None, factory_settings, 0, 0, (left, refl, refl, refl))
left_starts image (Some s, left) = (Some s, left.settings.0, generation_at (head_in image s), left_in (sector_of image s), (left.active, left.settings.1, refl, refl))

active_first : (image : Image) (s : Sector) → IsActive image s → Counts (head_in image First) → Counts (head_in image Second) → generation_at (head_in image First) ≢ generation_at (head_in image Second)
active_first image First a p q e = omega (arith, a.newest q)
active_first image Second a p q e = omega (arith, a.newest p)

active_counts : (image : Image) (s : Sector) → IsActive image s → ¬ Counts (head_in image First) → ¬ Counts (head_in image Second) → ⊥
active_counts image First a p q = p a.counts
active_counts image Second a p q = q a.counts

open_closed : (image : Image) → IsClosed image → (gate_of (head_in image First) ≡ 0) ⊎ (gate_of (head_in image Second) ≡ 0) → ⊥
open_closed image closed (inl e) = closed.first e
open_closed image closed (inr e) = closed.second e

foreign_reads : (image : Image) (s t : Sector) (x : Settings) → s ≡ t → Reads (sector_of image s) x → ((y : Settings) → ¬ Reads (sector_of image t) y) → ⊥
foreign_reads image s t x e p none = none x (subst (λ u. Reads (sector_of image u) x) e p)

-- a foreign image has no start
pub foreign_none : (image : Image) (a : Option Sector) (x : Settings) (g n : ℕ) → IsForeign image → StartsAt image a x g n → ⊥
foreign_none image None x g n (inl tie) p = closed_none image First p.0 tie.0
foreign_none image (Some s) x g n (inl tie) p = active_first image s p.0 tie.0 tie.1 tie.2
foreign_none image None x g n (inr (inl none)) p = open_closed image p.0 none.2
foreign_none image (Some s) x g n (inr (inl none)) p = active_counts image s p.0 none.0 none.1
foreign_none image None x g n (inr (inr strange)) p = closed_none image strange.0 p.0 strange.1.counts
foreign_none image (Some s) x g n (inr (inr strange)) p = foreign_reads image s strange.0 x (active_same image s strange.0 p.0 strange.1) p.1 strange.2

zero≢255 : ◌≡◌ {A = ℕ} 0 255 → ⊥
zero≢255 e = cc

erased_gate : (size : ℕ) → IsSectorSize size → gate_of (head_of (erased size)) ≢ 0
erased_gate size wide e =
    let inside : 511 < size = omega (arith, wide.at_least, wide.whole) in
    let gate : gate_of (head_of (erased size)) ≡ 255 = get_or-take 512 (erased size) 511 0 (lit< tt) ∙ get_or-replicate size 511 255 0 inside in
    absurd (zero≢255 (sym e ∙ gate))

-- a flash that was never written starts with the factory settings
pub blank_starts : (size : ℕ) (image : Image) → IsSectorSize size → image ≡ record { first = erased size; second = erased size } → LeftByDevice image × StartsWith image factory_settings (capacity size)
unfolding capacity
blank_starts size image wide e =
    let closed : IsClosed image = rw e (record { first = erased_gate size wide; second = erased_gate size wide }) in
    let long : slots_in size ≡ slots_of image.first = sym (ap (λ i. slots_of i.first) e ∙ ap slots_in (length-replicate size 255)) in
    ((None, closed), (None, 0, 0, (closed, refl, refl, refl), ap (λ s. room_of s 0 0) long))

-- each generation takes a commit, and so does each slot
pub ample : (slots : ℕ) → 65535 ≤ room_of slots 0 0
ample slots = omega arith
