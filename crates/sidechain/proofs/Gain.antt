-- The gain of a kick, branch by branch. Assumes nothing.
use Rattle.std.proofs.Common.{◌≡◌, ℕ, ◌-◌, ◌<◌, ◌≤◌, true, ltb, leb, arith, ltb-true, le-ltb, lt-ltb, leb-true}
use mathlib.Core.Bool.{and-eq-true_iff}
use Rattle.casts.specs.Arithmetic.{◌⊕◌, ◌⊖◌, ◌⊗◌, ◌⊘◌, whole, one}
use Rattle.attack.specs.Machine.{attack_gain}
use Rattle.sidechain.specs.declared.DuckRate.{DuckRate}
use Rattle.sidechain.specs.Sidechain.{span, sidechain_gain, releases}

module _ (r : DuckRate) (since : ℕ) where
  pub gain_attacking : since < r.attack → attack_gain r.floor r.attack since ≡ sidechain_gain r since
  unfolding sidechain_gain attack_gain
  gain_attacking h = rw (lt-ltb since r.attack h)

  pub gain_releasing : r.attack ≤ since → since - r.attack < r.release → r.floor ⊕ (one ⊖ r.floor) ⊗ whole (since - r.attack) ⊘ whole r.release ≡ sidechain_gain r since
  unfolding sidechain_gain
  gain_releasing a h = let k : since < span r = omega arith in rw (le-ltb since r.attack a, lt-ltb since (span r) k)

  pub gain_released : r.attack ≤ since → r.release ≤ since - r.attack → one ≡ sidechain_gain r since
  unfolding sidechain_gain
  gain_released a h = let k : span r ≤ since = omega arith in rw (le-ltb since r.attack a, le-ltb since (span r) k)

  -- a kick that releases
  pub releases_says : releases r since ≡ true → (r.attack ≤ since) × (since - r.attack < r.release) × (since - r.attack < 4294967296)
  unfolding releases
  releases_says e =
      let a = (and-eq-true_iff (leb r.attack since) _).0 e in
      let b = (and-eq-true_iff (ltb (since - r.attack) r.release) _).0 a.1 in
      (leb-true _ _ a.0, ltb-true _ _ b.0, ltb-true _ _ b.1)
