-- The whole part of a delay that is held within 0 and the greatest one. Assumes nothing.
use Rattle.std.proofs.Common.{◌≡◌, ◌≤◌, Bool, true, false, cond, T, sym, refl, subst, le_trans, le_refl}
use lib.Ieee.{Float, binary64, lt, of_bits, to_unsigned}
use Rattle.casts.specs.Arithmetic.{nought}
use Rattle.casts.specs.Order.{lt→le}
use Rattle.casts.specs.Step.{to_unsigned_mono}
use Rattle.delay.specs.Delay.{not_below, not_above, Reach}

-- no delay reads further back than the greatest
pub held_whole : (x most : Float) → to_unsigned 64 (not_above x most) ≤ to_unsigned 64 most
held_whole x most = go (lt x most) refl
  where
    go : (b : Bool) → lt x most ≡ b → to_unsigned 64 (cond b x most) ≤ to_unsigned 64 most
    go true e = to_unsigned_mono 64 x most (lt→le x most (subst T (sym e) tt))
    go false e = le_refl (to_unsigned 64 most)

pub reach_whole : (most : Float) → Reach most → to_unsigned 64 most ≤ 65536
unfolding of_bits to_unsigned
reach_whole most h = to_unsigned_mono 64 most (of_bits binary64 0x40f0_0000_0000_0000) (lt→le most _ h.high)

module _ (x most : Float) (h : Reach most) where
  pub held_small : to_unsigned 64 (not_above (not_below x nought) most) ≤ 65536
  held_small = le_trans (held_whole (not_below x nought) most) (reach_whole most h)
