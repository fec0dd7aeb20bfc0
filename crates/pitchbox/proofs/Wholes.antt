-- The whole of a load sum is above 0: each window counts as at least 1.
use Rattle.std.proofs.Common.{ℕ, zero, suc, ◌≤◌, arith, lit≤}
use native.Mathlib.Nat.{one-le-mul}
use Rattle.ecode.specs.Load.{product_below, width, whole}

width_pos : (win : ℕ → ℕ) (t : ℕ) → 1 ≤ width win t
width_pos win t = grind arith

-- a product of numbers that are each at least 1 is at least 1
pub product_pos : (n : ℕ) (f : ℕ → ℕ) → ((t : ℕ) → 1 ≤ f t) → 1 ≤ product_below n f
unfolding product_below
product_pos zero f h = lit≤ tt
product_pos (suc n) f h = one-le-mul (product_pos n f h) (h n)

pub whole_pos : (n : ℕ) (win : ℕ → ℕ) → 1 ≤ whole n win
whole_pos n win = product_pos n (width win) (width_pos win)
