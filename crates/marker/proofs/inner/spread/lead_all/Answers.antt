-- `marker::inner::spread::lead_all` meets its contract. Assumes nothing.
use Rattle.marker.proofs.Leads.{led_start, led_more, led_end}
use Rattle.marker.proofs.inner.spread.lead_all.Goals as goal

pub loop-p-init : goal.loop-p-init
loop-p-init c = search led_start

pub loop-p-preserved : goal.loop-p-preserved
loop-p-preserved c = search led_more

pub returns : goal.returns
returns c = search led_end
