-- Values held within bounds.
--   held    a value, or the nearer bound where it lies outside
use Rattle.std.specs.Prelude.{cond, ℤ, int_lt}

-- v, brought to the nearer of low and high if it lies outside
abbrev pub held : ℤ → ℤ → ℤ → ℤ
held low high v = cond (int_lt v low) low (cond (int_lt high v) high v)
