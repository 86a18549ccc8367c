-- `casts::rounded_bits` meets its contract: the digits below an f32's are rounded away in place. Assumes nothing.
use Rattle.std.proofs.Common.{arith}
use Rattle.casts.proofs.Inplace.{in_place}
use Rattle.casts.proofs.rounded_bits.Goals as goal

pub returns : goal.returns
returns c = in_place c.args.bits (omega arith) c.requires.first c.requires.past
