use Rattle.sidechain.proofs.Gain.{gain_releasing, releases_says}
use Rattle.sidechain.proofs.releasing_gains.Goals as goal

pub overflow_sub-first : goal.overflow_sub-first
overflow_sub-first c = (releases_says _ _ c.requires.0).0

pub short-requires : goal.short-requires
short-requires c = (releases_says _ _ c.requires.0).2

pub overflow_sub-second : goal.overflow_sub-second
overflow_sub-second c = (releases_says _ _ c.requires.1).0

pub short-requires-2 : goal.short-requires-2
short-requires-2 c = (releases_says _ _ c.requires.1).2

pub returns : goal.returns
returns c =
    let f = releases_says c.args.rate c.args.first c.requires.0 in
    let g = releases_says c.args.rate c.args.second c.requires.1 in
    record {
      at_value = rw (c.releasing.ensures, c.short.ensures) (gain_releasing _ _ f.0 f.1);
      after_value = rw (c.releasing-2.ensures, c.short-2.ensures) (gain_releasing _ _ g.0 g.1);
    }
