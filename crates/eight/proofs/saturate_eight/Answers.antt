use Rattle.eight.proofs.Lanes.{saturated_lanes}
use Rattle.eight.proofs.saturate_eight.Goals as goal

pub returns : goal.returns
returns c = saturated_lanes c.args.drive c.args.top c.args.x c.fits-x.0 c.tanh_eight.result c.tanh_eight.ensures
