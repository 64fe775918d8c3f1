-- What a status of inputs leaves, if it is kept and if it is refused.
use Rattle.std.proofs.Common.{◌≡◌, ℕ, Bool, true, false, List, Option, Some, None, is_some, unwrap_or, refl}
use Rattle.std.proofs.lemmas.Bool.{false≢true, true≢false}
use Rattle.relations.specs.declared.exchange.statuses.InputStatus.{InputStatus}
use Rattle.relations.specs.Phases.{updated}
use Rattle.relations.specs.Exchanged.{rating}
use Rattle.device_frames.specs.declared.note.Note.TheVariants.{Done, Refused}
use Rattle.device_core.specs.State.{Station, Live}
use Rattle.device_core.specs.Handled.{kept_status}
use Rattle.device_core.specs.Machine.{end_of}

module _ (station : Station) (live : Live) (slot subslot : ℕ) (is_good : Bool) where
  pub kept_rest : (statuses : Option (List InputStatus)) → is_some statuses ≡ true
      → (end_of station live (kept_status live slot subslot is_good statuses)).rest
      ≡ record live.rest { link = updated (rating slot subslot is_good live.rest.link) live.rest.link; statuses = unwrap_or statuses live.rest.statuses }
  kept_rest (Some statuses) is = refl
  kept_rest None is = absurd (false≢true is)

  pub kept_note : (statuses : Option (List InputStatus)) → is_some statuses ≡ true → (end_of station live (kept_status live slot subslot is_good statuses)).note ≡ Done
  kept_note (Some statuses) is = refl
  kept_note None is = absurd (false≢true is)

  pub refused_rest : (statuses : Option (List InputStatus)) → is_some statuses ≡ false
      → (end_of station live (kept_status live slot subslot is_good statuses)).rest ≡ record live.rest { statuses = unwrap_or statuses live.rest.statuses }
  refused_rest (Some statuses) is = absurd (true≢false is)
  refused_rest None is = refl

  pub refused_note : (statuses : Option (List InputStatus)) → is_some statuses ≡ false → (end_of station live (kept_status live slot subslot is_good statuses)).note ≡ Refused
  refused_note (Some statuses) is = absurd (true≢false is)
  refused_note None is = refl
