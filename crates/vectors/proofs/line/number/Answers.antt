-- `vectors::line::number` meets its contract. Assumes nothing.
use Rattle.std.proofs.Common.{refl, ◌≡◌, ◌<◌, ◌^◌, ◌+◌, ◌*◌, ◌∙◌, suc, ap, sym, subst, arith}
use Rattle.vectors.specs.Line.{number_of_digits, digit_of}
use Rattle.vectors.proofs.Digits.{fits, more}
use Rattle.vectors.proofs.line.number.Goals as goal

pub loop-i-init : goal.loop-i-init
unfolding number_of_digits
loop-i-init c = (refl, omega arith)

pub overflow_mul-value : goal.overflow_mul-value
overflow_mul-value c =
    let below = subst (λ v. v < 16 ^ c.loop-i.i) (sym c.loop-i.invariant.0) c.loop-i.invariant.1 in
    let f = fits c.loop-i.i c.loop-i.value 0 (omega arith) below (omega arith) in omega arith

pub overflow_add-value : goal.overflow_add-value
overflow_add-value c =
    let below = subst (λ v. v < 16 ^ c.loop-i.i) (sym c.loop-i.invariant.0) c.loop-i.invariant.1 in
    let f = fits c.loop-i.i c.loop-i.value c.digit.result (omega arith) below c.digit.ensures.below in omega arith

pub loop-i-preserved : goal.loop-i-preserved
unfolding number_of_digits
loop-i-preserved c =
    let field = c.args.field.now in
    let i = c.loop-i.i in
    let one : suc i ≡ i + 1 = omega arith in
    let below = subst (λ v. v < 16 ^ i) (sym c.loop-i.invariant.0) c.loop-i.invariant.1 in
    let value : c.loop-i.value * 16 + c.digit.result ≡ number_of_digits field (suc i) = ap (λ v. v * 16 + c.digit.result) c.loop-i.invariant.0 ∙ ap (λ d. number_of_digits field i * 16 + d) (c.digit.ensures.value ∙ ap digit_of c.byte_at.ensures) in
    let more = more i c.loop-i.value c.digit.result below c.digit.ensures.below in
    subst (λ k. (c.loop-i.value * 16 + c.digit.result ≡ number_of_digits field k) × (number_of_digits field k < 16 ^ k)) one (value, subst (λ v. v < 16 ^ suc i) value more)
