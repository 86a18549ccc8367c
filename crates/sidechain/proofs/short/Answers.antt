use Rattle.std.proofs.Common.{arith}
use lib.Ieee.{binary64}
use Rattle.casts.proofs.Split.{plain_no_nan}
use Rattle.sidechain.proofs.Placed.{short_is}
use Rattle.sidechain.proofs.short.Goals as goal

pub float_from_bits-result : goal.float_from_bits-result
float_from_bits-result c = plain_no_nan binary64 _ (omega arith)

pub returns : goal.returns
returns c = short_is _ c.requires
