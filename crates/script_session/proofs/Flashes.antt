-- A start over a flash that is the same.
use Rattle.std.proofs.Common.{◌≡◌, Bool, true, false, refl, ap, subst, sym, ◌∙◌}
use Rattle.flash_model.specs.declared.memory.MemoryFlash.{MemoryFlash}
use Rattle.pn_values.specs.demo.Demo.{demo, demo_real}
use Rattle.device_core.specs.State.{Station as Device, station_named}
use Rattle.flash_model.specs.Fate.{against_writes}
use Rattle.flash_model.specs.Memory.{armed_in, image_of, failures_of}
use Rattle.settings_journal.specs.Commit.{HasBootCause}
use Rattle.script_session.specs.declared.power.Power.{Power}
use Rattle.script_session.specs.declared.power.Power.TheVariants.{On, Off, Away}
use Rattle.script_session.specs.declared.demo.DemoOptions.{DemoOptions}
use Rattle.script_session.specs.Demo.{demo_device, demo_named, has_names, options_of}
use Rattle.script_session.specs.Power.{IsBack, IsDemo, IsOver}

-- If two flashes have the same bytes, the same count of failures and the same order, a start over one is a start over the
-- other.
pub over_same : (options : DemoOptions) (serves : Bool) (old new : MemoryFlash 4096) (power : Power) → image_of new ≡ image_of old → failures_of new ≡ failures_of old → armed_in new ≡ armed_in old
    → IsOver options serves new power → IsOver options serves old power
over_same options serves old new (On device) image failures armed over = (over.0, over.1, over.2, over.3, (over.4.0 ∙ image, over.4.1 ∙ ap against_writes armed))
over_same options serves old new (Off fault left) image failures armed over =
    (subst (λ n. HasBootCause fault n (failures_of left)) failures over.0, over.1, (over.2.0 ∙ image, over.2.1 ∙ ap against_writes armed))
over_same options serves old new Away image failures armed over = over

-- The records of a demo station say whether its application answers records.
named_again : (answers : Bool) → demo_named (has_names (demo_named answers)) ≡ demo_named answers
named_again true = refl
named_again false = refl

-- A demo station is the one with its own options.
options_again : (options : DemoOptions) → demo_device (options_of (demo_device options)) ≡ demo_device options
options_again options = ap (station_named demo demo_real options.device) (named_again options.answers_records)

-- A start over a flash gives the demo device, with the options of that start.
over_demo : (options : DemoOptions) (serves : Bool) (flash : MemoryFlash 4096) (power : Power) → IsOver options serves flash power → IsDemo power
over_demo options serves flash (On device) over = over.0 ∙ sym (options_again options) ∙ ap (λ (s : Device). demo_device (options_of s)) (sym over.0)
over_demo options serves flash (Off fault left) over = tt
over_demo options serves flash Away over = absurd over

pub back_demo : (options : DemoOptions) (serves : Bool) (old new : Power) → IsDemo old → IsBack options serves old new → IsDemo new
back_demo options serves (On device) new demo back = over_demo options serves device.flash new back
back_demo options serves (Off fault flash) new demo back = over_demo options serves flash new back
back_demo options serves Away new demo back = absurd demo
