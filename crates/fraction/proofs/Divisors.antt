-- Two numbers divided by their greatest common divisor.
--   divisor_pos   the divisor is above 0, and quotient_pos what it leaves of a number above 0
--   lowest        what it leaves of both is in lowest terms
use Rattle.std.proofs.Common.{◌≡◌, ℕ, ◌*◌, ◌/◌, ◌<◌, ◌≤◌, sym, ap, ◌∙◌, subst, mul_assoc, mul_comm, mul-one, arith}
use Rattle.std.specs.Int.{◌∣◌, IsGcd}
use native.Mathlib.Nat.{dvd-mul_left, pos_of_dvd_of_pos, mul-div_cancel', mul-dvd-mul_left, dvd_of_mul-dvd-mul_left, eq-one_of_dvd-one}
use Rattle.fraction.specs.Lowest.{Lowest}

pub divisor_pos : {a b d : ℕ} → 1 ≤ b → IsGcd a b d → 1 ≤ d
divisor_pos {b = b} {d = d} h g = let some : 0 < b = omega arith in let left : 0 < d = pos_of_dvd_of_pos g.1 some in omega arith

-- what is left of a number above 0 is above 0
pub quotient_pos : (b d : ℕ) → 1 ≤ b → d ∣ b → 1 ≤ b / d
quotient_pos b d h v =
    let some : 0 < b = omega arith in
    let whole : (b / d) ∣ b = subst (λ n. (b / d) ∣ n) (mul-div_cancel' d v) (dvd-mul_left (b / d) d) in
    let left : 0 < b / d = pos_of_dvd_of_pos whole some in omega arith

-- two divisions by one divisor keep the ratio
cross : (a b d : ℕ) → d ∣ a → d ∣ b → a / d * b ≡ a * (b / d)
cross a b d va vb =
    ap (λ n. a / d * n) (sym (mul-div_cancel' d vb))
    ∙ (sym (mul_assoc (a / d) d (b / d))
    ∙ ap (λ n. n * (b / d)) (mul_comm (a / d) d ∙ mul-div_cancel' d va))

-- d times a divisor of what is left divides the number
lifted : (a d k : ℕ) → d ∣ a → k ∣ a / d → d * k ∣ a
lifted a d k v h = subst (λ n. d * k ∣ n) (mul-div_cancel' d v) (mul-dvd-mul_left k d h)

pub lowest : {a b d : ℕ} → 1 ≤ b → IsGcd a b d → Lowest a b (a / d) (b / d)
lowest {a} {b} {d} h g = record {
  ratio = cross a b d g.0 g.1;
  coprime = λ k p w.
      eq-one_of_dvd-one (dvd_of_mul-dvd-mul_left {k = d} k {n = 1} (divisor_pos h g)
      (subst (λ n. d * k ∣ n) (sym (mul-one d)) (g.2 (d * k) (lifted a d k g.0 p) (lifted b d k g.1 w))));
}
