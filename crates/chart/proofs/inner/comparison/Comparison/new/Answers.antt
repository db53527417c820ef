-- `chart::inner::comparison::Comparison::new` meets its contract: faultless charts can be indexed. Assumes nothing.
use Rattle.chart.proofs.Faultless.{indexable}
use Rattle.chart.proofs.inner.comparison.Comparison.new.Goals as goal

pub index-index-requires : goal.index-index-requires
index-index-requires c = record { indexable = indexable _ c.requires.old_faultless; indexable_2 = indexable _ c.requires.new_faultless }
