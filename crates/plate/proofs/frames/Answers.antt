use Rattle.std.proofs.Common.{rules}
use lib.Ieee.{nan}
use Rattle.eight.proofs.Lanes.{zipped_eight}
use Rattle.plate.specs.Machine.{frame}
use Rattle.plate.proofs.frames.Goals as goal

pub returns : goal.returns
returns c = search (rules, zipped_eight (frame nan nan) frame)
