-- The functions' names in the list.
use Rattle.std.specs.Prelude.{ℕ, List, codes}
use Rattle.replay_stages.specs.declared.function.Function.{Function}
use Rattle.replay_stages.specs.declared.function.Function.TheVariants.{Section, OnePole, Tilt, Delay, Ramp, Daylight, Sweep, Opened, Corner, Drive, Side, Flush}

abbrev pub letters_of : Function → List ℕ
letters_of Section = codes "section"
letters_of OnePole = codes "onepole"
letters_of Tilt = codes "tilt"
letters_of Delay = codes "delay"
letters_of Ramp = codes "ramp"
letters_of Daylight = codes "daylight"
letters_of Sweep = codes "sweep"
letters_of Opened = codes "opened"
letters_of Corner = codes "corner"
letters_of Drive = codes "drive"
letters_of Side = codes "side"
letters_of Flush = codes "flush"
