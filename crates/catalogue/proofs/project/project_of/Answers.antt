use Rattle.std.proofs.Common.{refl, rules, inr}
use Rattle.catalogue.proofs.Chains.{fails}
use Rattle.catalogue.specs.Projects.{project}
use Rattle.catalogue.proofs.project.project_of.Goals as goal

pub returns-in_err-send_clock_factor : goal.returns-in_err-send_clock_factor
unfolding project
returns-in_err-send_clock_factor c = rw c.in_ok-station.ensures (rw c.in_ok-controller.ensures (fails _ _ _ _ _ (let h = c.from_residual-in_err-send_clock_factor.ensures in search rules) (inr c.in_err-send_clock_factor.ensures)))

pub returns-in_err-reduction_ratio : goal.returns-in_err-reduction_ratio
unfolding project
returns-in_err-reduction_ratio c = rw c.in_ok-station.ensures (rw c.in_ok-controller.ensures (rw c.in_ok-send_clock_factor.ensures (fails _ _ _ _ _ (let h = c.from_residual-in_err-reduction_ratio.ensures in search rules) (inr c.in_err-reduction_ratio.ensures))))

pub returns-in_err-data_hold_factor : goal.returns-in_err-data_hold_factor
unfolding project
returns-in_err-data_hold_factor c = rw c.in_ok-station.ensures (rw c.in_ok-controller.ensures (rw c.in_ok-send_clock_factor.ensures (rw c.in_ok-reduction_ratio.ensures (fails _ _ _ _ _ (let h = c.from_residual-in_err-data_hold_factor.ensures in search rules) (inr c.in_err-data_hold_factor.ensures)))))

pub returns-in_err-slots : goal.returns-in_err-slots
unfolding project
returns-in_err-slots c = rw c.in_ok-station.ensures (rw c.in_ok-controller.ensures (rw c.in_ok-send_clock_factor.ensures (rw c.in_ok-reduction_ratio.ensures (rw c.in_ok-data_hold_factor.ensures (fails _ _ _ _ _ (let h = c.from_residual-in_err-slots.ensures in search rules) c.in_err-slots.ensures)))))

pub returns-in_err-continue_on_refused_record : goal.returns-in_err-continue_on_refused_record
unfolding project
returns-in_err-continue_on_refused_record c = rw c.in_ok-station.ensures (rw c.in_ok-controller.ensures (rw c.in_ok-send_clock_factor.ensures (rw c.in_ok-reduction_ratio.ensures (rw c.in_ok-data_hold_factor.ensures (rw c.in_ok-slots.ensures (fails _ _ _ _ _ (let h = c.from_residual-in_err-continue_on_refused_record.ensures in search rules) (inr c.in_err-continue_on_refused_record.ensures)))))))

pub returns-in_err-release_on_refused_record : goal.returns-in_err-release_on_refused_record
unfolding project
returns-in_err-release_on_refused_record c = rw c.in_ok-station.ensures (rw c.in_ok-controller.ensures (rw c.in_ok-send_clock_factor.ensures (rw c.in_ok-reduction_ratio.ensures (rw c.in_ok-data_hold_factor.ensures (rw c.in_ok-slots.ensures (rw c.in_ok-continue_on_refused_record.ensures (fails _ _ _ _ _ (let h = c.from_residual-in_err-release_on_refused_record.ensures in search rules) (inr c.in_err-release_on_refused_record.ensures))))))))

pub returns-in_err-parameters_after_plug : goal.returns-in_err-parameters_after_plug
unfolding project
returns-in_err-parameters_after_plug c = rw c.in_ok-station.ensures (rw c.in_ok-controller.ensures (rw c.in_ok-send_clock_factor.ensures (rw c.in_ok-reduction_ratio.ensures (rw c.in_ok-data_hold_factor.ensures (rw c.in_ok-slots.ensures (rw c.in_ok-continue_on_refused_record.ensures (rw c.in_ok-release_on_refused_record.ensures (fails _ _ _ _ _ (let h = c.from_residual-in_err-parameters_after_plug.ensures in search rules) (inr c.in_err-parameters_after_plug.ensures)))))))))

pub returns-in_err-persistent_start : goal.returns-in_err-persistent_start
unfolding project
returns-in_err-persistent_start c = rw c.in_ok-station.ensures (rw c.in_ok-controller.ensures (rw c.in_ok-send_clock_factor.ensures (rw c.in_ok-reduction_ratio.ensures (rw c.in_ok-data_hold_factor.ensures (rw c.in_ok-slots.ensures (rw c.in_ok-continue_on_refused_record.ensures (rw c.in_ok-release_on_refused_record.ensures (rw c.in_ok-parameters_after_plug.ensures (fails _ _ _ _ _ (let h = c.from_residual-in_err-persistent_start.ensures in search rules) (inr c.in_err-persistent_start.ensures))))))))))

pub returns : goal.returns
unfolding project
returns c = rw c.in_ok-station.ensures (rw c.in_ok-controller.ensures (rw c.in_ok-send_clock_factor.ensures (rw c.in_ok-reduction_ratio.ensures (rw c.in_ok-data_hold_factor.ensures (rw c.in_ok-slots.ensures (rw c.in_ok-continue_on_refused_record.ensures (rw c.in_ok-release_on_refused_record.ensures (rw c.in_ok-parameters_after_plug.ensures (rw c.in_ok-persistent_start.ensures refl)))))))))
