-- `marker::inner::spread::lead_from` meets its contract. Assumes nothing.
use Rattle.marker.proofs.Leads.{led_from_lem, led_not}
use Rattle.marker.proofs.inner.spread.lead_from.Goals as goal

pub returns-then-marks-i-eq4 : goal.returns-then-marks-i-eq4
returns-then-marks-i-eq4 c = search led_from_lem

pub returns-else-marks-i-eq4 : goal.returns-else-marks-i-eq4
returns-else-marks-i-eq4 c = search led_not
