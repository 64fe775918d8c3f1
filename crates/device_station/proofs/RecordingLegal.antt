-- If the calls of accepted commands are cut off anywhere, the chip is a legal end.
use Rattle.std.proofs.Common.{◌≡◌, ◌⊎◌, ◌-◌, ℕ, List, [], ◌∷◌, ◌++◌, length, refl, sym, ap, subst, ◌∙◌, inl, inr}
use Rattle.std.proofs.lemmas.List.{length-replicate, append_assoc}
use Rattle.pn_values.specs.Command.{apply}
use Rattle.pn_values.specs.declared.settings.Settings.{Settings}
use Rattle.flash_model.specs.Calls.{Call, Programs, Erases, Arms}
use Rattle.flash_model.specs.Image.{Image, IsImage}
use Rattle.flash_model.specs.declared.flash.Sector.TheVariants.{First, Second}
use Rattle.settings_journal.specs.Commit.{IsKept}
use Rattle.settings_journal.specs.Cut.{CutOff, carried_out, all_carried_out}
use Rattle.settings_journal.specs.Image.{BootsTo, LeftByDevice}
use Rattle.settings_journal.specs.settings_store.Legal.{LegalEnd, made_of}
use Rattle.settings_journal.specs.settings_store.Machine.{Accepted}
use Rattle.device_station.specs.recording.Calls.{CallsOf, AcceptedOf, AreLegal, unanswered}
use Rattle.device_station.proofs.RecordingBytes.{programmed_length}

-- ---- lengths do not change

call_length : (image : Image) (call : Call) → length (carried_out image call).first ≡ length image.first
call_length image (Programs First place bytes) = programmed_length image.first place bytes
call_length image (Programs Second place bytes) = refl
call_length image (Erases First) = length-replicate (length image.first) 255
call_length image (Erases Second) = refl
call_length image (Arms order) = refl

calls_length : (image : Image) (calls : List Call) → length (all_carried_out image calls).first ≡ length image.first
calls_length image [] = refl
calls_length image (call ∷ calls) = calls_length (carried_out image call) calls ∙ call_length image call

-- ---- calls after calls that are cut off

cut_split : (image chip : Image) (front back : List Call) → CutOff image (front ++ back) chip → CutOff image front chip ⊎ CutOff (all_carried_out image front) back chip
cut_split image chip [] back cut = inr cut
cut_split image chip (call ∷ front) back (inl torn) = inl (inl torn)
cut_split image chip (call ∷ front) back (inr cut) =
    elim (cut_split (carried_out image call) chip front back cut) [ inl here ↦ inl (inr here) | inr later ↦ inr later ]

cut_none : (image : Image) (calls : List Call) → CutOff image calls (all_carried_out image calls)
cut_none image [] = refl
cut_none image (call ∷ calls) = inr (cut_none (carried_out image call) calls)

-- ---- the effect of commands

made_append : (front back : List Accepted) (first : Settings) → made_of (front ++ back) first ≡ made_of back (made_of front first)
made_append [] back first = refl
made_append (one ∷ front) back first = made_append front back (apply one.command first)

-- a legal end is one after the commands of earlier steps too
behind_earlier : (chip : Image) (earlier some : List Accepted) (first stored : Settings) → stored ≡ made_of earlier first → LegalEnd chip some stored → LegalEnd chip (earlier ++ some) first
behind_earlier chip earlier some first stored made (inl boots) =
    inl (subst (BootsTo chip) (ap (made_of some) made ∙ sym (made_append earlier some first)) boots)
behind_earlier chip earlier some first stored made (inr but) =
    inr (record {
      front = earlier ++ but.front;
      last = but.last;
      parts = ap (λ l. earlier ++ l) but.parts ∙ sym (append_assoc earlier but.front (but.last ∷ []));
      not_done = but.not_done;
      boots = subst (BootsTo chip) (ap (made_of but.front) made ∙ sym (made_append earlier but.front first)) but.boots;
    })

-- the same after one more command
behind_one : (chip : Image) (one : Accepted) (rest : List Accepted) (stored : Settings) → LegalEnd chip rest (apply one.command stored) → LegalEnd chip (one ∷ rest) stored
behind_one chip one rest stored legal = behind_earlier chip (one ∷ []) rest stored (apply one.command stored) refl legal

-- the accepted commands, and a legal end of them
pub record Ends (chip : Image) (accepted : List Accepted) (stored : Settings) : Type 0 where
  pub some : List Accepted
  pub some_of : AcceptedOf accepted some
  pub left : LeftByDevice chip
  pub legal : LegalEnd chip some stored
  pub kept : List Accepted
  pub later : List Accepted
  pub parts : accepted ≡ kept ++ later
  pub boots : BootsTo chip (made_of kept stored)

-- a prefix of the commands is stored
pub record Keeps (chip : Image) (accepted : List Accepted) (stored : Settings) : Type 0 where
  pub kept : List Accepted
  pub later : List Accepted
  pub parts : accepted ≡ kept ++ later
  pub boots : BootsTo chip (made_of kept stored)

-- none of the commands is stored, or the first one
keeps_here : (chip : Image) (one : Accepted) (more : List Accepted) (stored : Settings) → IsKept chip stored (apply one.command stored) → Keeps chip (one ∷ more) stored
keeps_here chip one more stored kept = elim kept.boots [
  | inl before ↦ record { kept = []; later = one ∷ more; parts = refl; boots = before }
  | inr now ↦ record { kept = one ∷ []; later = more; parts = refl; boots = now }
]

-- the commit of the first command was cut off
ends_here : (chip : Image) (one : Accepted) (more : List Accepted) (stored : Settings) → IsKept chip stored (apply one.command stored) → Ends chip (one ∷ more) stored
ends_here chip one more stored kept = record {
  some = unanswered one ∷ [];
  some_of = inl refl;
  left = kept.left;
  legal = elim kept.boots [
    | inl before ↦ inr (record { front = []; last = unanswered one; parts = refl; not_done = refl; boots = before })
    | inr now ↦ inl now
  ];
  kept = (keeps_here chip one more stored kept).kept;
  later = (keeps_here chip one more stored kept).later;
  parts = (keeps_here chip one more stored kept).parts;
  boots = (keeps_here chip one more stored kept).boots;
}

ends_later : (chip : Image) (one : Accepted) (more : List Accepted) (stored : Settings) → Ends chip more (apply one.command stored) → Ends chip (one ∷ more) stored
ends_later chip one more stored ends = record {
  some = one ∷ ends.some;
  some_of = inr (ends.some, refl, ends.some_of);
  left = ends.left;
  legal = behind_one chip one ends.some stored ends.legal;
  kept = one ∷ ends.kept;
  later = ends.later;
  parts = ap (λ l. one ∷ l) ends.parts;
  boots = ends.boots;
}

ends : (size : ℕ) (image chip : Image) (stored : Settings) (room : ℕ) (accepted : List Accepted) (calls : List Call) → length image.first ≡ size → IsImage size chip → CallsOf image stored room accepted calls
    → CutOff image calls chip → LeftByDevice image → Ends chip accepted stored
ends size image chip stored room [] calls long now of cut left =
    let is : chip ≡ image = subst (λ c. CutOff image c chip) of.0 cut in
    let boots = subst (λ i. BootsTo i stored) (sym is) (room, of.1) in
    record { some = []; some_of = refl; left = subst LeftByDevice (sym is) left; legal = inl boots; kept = []; later = []; parts = refl; boots = boots }
ends size image chip stored room (one ∷ more) calls long now of cut left =
    let parts = subst (λ c. CutOff image c chip) of.5 cut in
    elim (cut_split image chip of.0 of.1 parts) [
      | inl here ↦ ends_here chip one more stored (of.2.safe chip (subst (λ n. IsImage n chip) (sym long) now) here left)
      | inr later ↦ ends_later chip one more stored (
          let between = all_carried_out image of.0 in
          ends size between chip (apply one.command stored) (room - 1) more of.1 (calls_length image of.0 ∙ long) now of.4 later (of.3 left))
    ]

-- the same wherever the calls are cut off
pub are_legal : (size : ℕ) (image : Image) (stored : Settings) (room : ℕ) (accepted : List Accepted) (calls : List Call) → length image.first ≡ size → CallsOf image stored room accepted calls → AreLegal size image stored accepted calls
are_legal size image stored room accepted calls long of chip now cut left first earlier made =
    let e = ends size image chip stored room accepted calls long now of cut left in
    record {
      some = e.some;
      some_of = e.some_of;
      left = e.left;
      legal = behind_earlier chip earlier e.some first stored made e.legal;
      stored = e.kept;
      unstored = e.later;
      parts = e.parts;
      boots = subst (BootsTo chip) (ap (made_of e.kept) made ∙ sym (made_append earlier e.kept first)) e.boots;
    }
