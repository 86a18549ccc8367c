-- The one-sample machine, played: what antt computes of its definition is what the Rust answered, to the last bit. Assumes nothing.
use mathlib.Core.Path.{◌≡◌, refl, ◌∙◌}
use Rattle.stage.specs.System.{through}
use Rattle.rate.specs.Rate.{rate_of}
use Rattle.strip.specs.Machine.{fresh_bus, fresh, sent_from}
use Rattle.strip.specs.Promise.{machine_system}
use Rattle.played.specs.Played.{Played, Sounded, given}
use Rattle.played.specs.Lists.{everything, plain, faint, cd}
use Rattle.played.proofs.Apart.{rolled, at, bus_call, answered_by, sent_by}
use Rattle.played.proofs.Computed.{computed}
use Rattle.played.proofs.Stretches.{everything_dry, everything_lane, cd_lane}

-- what the machine answers to a list
abbrev Agrees : Played → Type 0
Agrees p = through (machine_system (rate_of p.rate)) (fresh (rate_of p.rate) p.setup p.lists) p.calls ≡ p.answers

-- what its lane gives by itself
abbrev Sounds : Sounded → Type 0
Sounds p = sent_from (rate_of p.rate) (fresh (rate_of p.rate) p.setup p.lists) p.events ≡ given p.setup p.samples

-- at 240 Hz, 64 samples: behind the lane's four stretches, the bus at once. Left and right are apart from the 9th frame on
everything_bus : (rolled (bus_call (rate_of 240)) (at 0 (fresh_bus (rate_of 240))) everything_dry).out ≡ everything.answers
unfolding computed
everything_bus = refl

pub everything_agrees : Agrees everything
everything_agrees = answered_by (rate_of 240) everything.setup everything.lists everything_lane ∙ everything_bus

-- at 240 Hz, 12 samples: the machine whole, at once
pub plain_agrees : Agrees plain
unfolding computed
plain_agrees = refl

-- the same, of samples so faint that the lane's sections flush some of what they give: of the 24 sides 14 are not 0
pub faint_agrees : Agrees faint
unfolding computed
faint_agrees = refl

-- the lane at 44,100 Hz, 40 samples in four stretches: sound comes out of the warp from the 26th on
pub cd_agrees : Sounds cd
cd_agrees = sent_by (rate_of 44100) cd.setup cd.lists cd_lane
