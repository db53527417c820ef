-- `checker::inner::examined::Examined::joins` meets its contract: test by test. Assumes nothing.
use Rattle.checker.proofs.Targets.{joins_not, joins_absent, joins_holding}
use Rattle.checker.proofs.inner.examined.Examined.joins.Goals as goal

pub returns-then-t-pair : goal.returns-then-t-pair
returns-then-t-pair c = joins_not _ _ _ _ _ c.pair.ensures c.if-t-pair.true

pub returns-then-self-t-eq0 : goal.returns-then-self-t-eq0
returns-then-self-t-eq0 c = joins_absent _ _ _ _ _ c.pair.ensures c.if-t-pair.false c.if-self-t-eq0.true

pub returns : goal.returns
returns c = joins_holding _ _ _ _ _ c.pair.ensures c.if-t-pair.false c.if-self-t-eq0.false c.holds_all.ensures
