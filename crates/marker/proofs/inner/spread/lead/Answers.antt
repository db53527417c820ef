-- `marker::inner::spread::lead` meets its contract. Assumes nothing.
use Rattle.marker.proofs.Leads.{led_pair, led_node}
use Rattle.marker.proofs.inner.spread.lead.Goals as goal

pub returns-then-target-lt4096 : goal.returns-then-target-lt4096
returns-then-target-lt4096 c = search led_pair

pub returns-else-target-lt4096 : goal.returns-else-target-lt4096
returns-else-target-lt4096 c = search led_node
