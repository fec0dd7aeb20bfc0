-- Sums over the tasks below n: they rise and add up term by term.
use Rattle.std.proofs.Common.{◌≡◌, ℕ, zero, suc, ◌+◌, ◌*◌, ◌<◌, ◌≤◌, sym, refl, subst, inl, inr, arith}
use Rattle.std.proofs.lemmas.Bool.{cases_lt}
use Rattle.ecode.specs.Load.{sum_below}

pub sum_mono : (n : ℕ) (f g : ℕ → ℕ) → ((t : ℕ) → t < n → f t ≤ g t) → sum_below n f ≤ sum_below n g
unfolding sum_below
sum_mono zero f g h = omega arith
sum_mono (suc n) f g h = omega (arith, h n (omega arith), sum_mono n f g (λ t k. h t (omega arith)))

pub sum_add : (n : ℕ) (f g : ℕ → ℕ) → sum_below n (λ t. f t + g t) ≡ sum_below n f + sum_below n g
unfolding sum_below
sum_add zero f g = refl
sum_add (suc n) f g = omega (arith, sum_add n f g)

pub sum_mul : (n K : ℕ) (f : ℕ → ℕ) → sum_below n (λ t. K * f t) ≡ K * sum_below n f
unfolding sum_below
sum_mul zero K f = omega arith
sum_mul (suc n) K f = omega (arith, sum_mul n K f)

pub sum_zero : (n : ℕ) (f : ℕ → ℕ) → ((t : ℕ) → t < n → f t ≡ 0) → sum_below n f ≡ 0
unfolding sum_below
sum_zero zero f h = refl
sum_zero (suc n) f h = omega (arith, h n (omega arith), sum_zero n f (λ t k. h t (omega arith)))

pub sum_at : (n : ℕ) (f : ℕ → ℕ) (i : ℕ) → i < n → f i ≤ sum_below n f
unfolding sum_below
sum_at zero f i h = omega arith
sum_at (suc n) f i h =
    elim (cases_lt i n) [
      | inl k ↦ omega (arith, sum_at n f i k)
      | inr k ↦ let e : i ≡ n = omega arith in subst (λ (m : ℕ). f m ≤ sum_below n f + f n) (sym e) (omega arith)
    ]

-- no term rises and the one at i falls: so does the sum
pub sum_point : (n : ℕ) (f g : ℕ → ℕ) (i : ℕ) → i < n → ((t : ℕ) → t < n → f t ≤ g t) → f i + 1 ≤ g i → sum_below n f + 1 ≤ sum_below n g
unfolding sum_below
sum_point zero f g i k h p = omega arith
sum_point (suc n) f g i k h p =
    elim (cases_lt i n) [
      | inl l ↦ omega (arith, h n (omega arith), sum_point n f g i l (λ t j. h t (omega arith)) p)
      | inr l ↦
          let e : i ≡ n = omega arith in
          let q : f n + 1 ≤ g n = subst (λ (m : ℕ). f m + 1 ≤ g m) e p in
          omega (arith, q, sum_mono n f g (λ t j. h t (omega arith)))
    ]

pub sum_ones : (n : ℕ) (f : ℕ → ℕ) → ((t : ℕ) → t < n → f t ≤ 1) → sum_below n f ≤ n
unfolding sum_below
sum_ones zero f h = omega arith
sum_ones (suc n) f h = omega (arith, h n (omega arith), sum_ones n f (λ t k. h t (omega arith)))
