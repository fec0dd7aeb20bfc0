-- Fractions in lowest terms.
--   Lowest   p / w is a / b, and only 1 divides both p and w
use Rattle.std.specs.Prelude.{◌≡◌, ℕ, ◌*◌}
use Rattle.std.specs.Int.{◌∣◌}

pub record Lowest (a b p w : ℕ) : Type 0 where
  pub ratio : p * b ≡ a * w
  pub coprime : (k : ℕ) → k ∣ p → k ∣ w → k ≡ 1
