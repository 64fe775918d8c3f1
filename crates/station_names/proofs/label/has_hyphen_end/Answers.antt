use Rattle.station_names.proofs.SingleLabel.{hyphen_end}
use Rattle.station_names.proofs.label.has_hyphen_end.Goals as goal

pub returns-else-starts_with : goal.returns-else-starts_with
returns-else-starts_with c =
    hyphen_end c.args.label.now c.starts_with.result c.ends_with.result c.starts_with.ensures.value c.if-starts_with.false c.ends_with.ensures.value
