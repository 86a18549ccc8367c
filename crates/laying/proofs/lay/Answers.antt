use Rattle.laying.proofs.Laid.{lay_more}
use Rattle.laying.proofs.lay.Goals as goal

pub loop-i-preserved : goal.loop-i-preserved
loop-i-preserved g c = lay_more _ _ c.index-list-i.is c.loop-i.invariant c.loop-i-test.true c.requires
