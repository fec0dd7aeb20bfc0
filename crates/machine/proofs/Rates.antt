-- The load sum gives each task a rate: its part of the whole, and the part times the window is the budget times the whole.
use Rattle.std.proofs.Common.{◌≡◌, ℕ, zero, suc, ◌*◌, ◌<◌, ◌≤◌, false, cond, eqb, sym, refl, ap, inl, inr, mul-le-mul_right, mul-le-mul_left, arith}
use Rattle.std.proofs.lemmas.Bool.{cases_lt, eq-eqb, ne_eqb, cond-true, cond-false}
use Rattle.ecode.specs.Load.{product_below, without, width, whole, part}
use Rattle.loader.proofs.Shares.{prod_cong}

pub prod_pos : (n : ℕ) (f : ℕ → ℕ) → ((t : ℕ) → 1 ≤ f t) → 1 ≤ product_below n f
unfolding product_below
prod_pos zero f h = omega arith
prod_pos (suc n) f h = omega (arith, mul-le-mul_right (f n) (prod_pos n f h), h n)

at_without : (f : ℕ → ℕ) (t : ℕ) → without f t t ≡ 1
at_without f t = cond-true (eqb t t) 1 (f t) (eq-eqb t t refl)

off_without : (f : ℕ → ℕ) (t s : ℕ) → (s ≡ t → ⊥) → without f t s ≡ f s
off_without f t s k = cond-false (eqb s t) 1 (f s) (ne_eqb s t k)

pub prod_split : (n : ℕ) (f : ℕ → ℕ) (t : ℕ) → t < n → product_below n (without f t) * f t ≡ product_below n f
unfolding product_below
prod_split zero f t k = omega arith
prod_split (suc n) f t k =
    elim (cases_lt t n) [
      | inl l ↦
          let a : without f t n ≡ f n = off_without f t n (λ e. omega arith) in
          rw a (omega (arith, ap (λ x. x * f n) (prod_split n f t l)))
      | inr l ↦
          let e : n ≡ t = omega arith in
          let a : without f t n ≡ 1 = rw e (at_without f t) in
          let b : product_below n (without f t) ≡ product_below n f = prod_cong n (without f t) f (λ s j. off_without f t s (λ e. omega arith)) in
          let c : f t ≡ f n = ap f (sym e) in
          rw (a, b, c) (omega arith)
    ]

pub whole_pos : (n : ℕ) (win : ℕ → ℕ) → 1 ≤ whole n win
whole_pos n win = prod_pos n (width win) at
  where
    pos : (x : ℕ) → 1 ≤ cond (eqb x 0) 1 x
    pos x = grind arith

    at : (t : ℕ) → 1 ≤ width win t
    at t = pos (win t)

-- a job with at least the window has all its budget covered
pub rate_covers : (n : ℕ) (win bud : ℕ → ℕ) (t w : ℕ) → t < n → 1 ≤ win t → win t ≤ w → whole n win * bud t ≤ part n win bud t * w
rate_covers n win bud t w k p l =
    let off : eqb (win t) 0 ≡ false = ne_eqb (win t) 0 (λ e. omega arith) in
    let a : part n win bud t ≡ bud t * product_below n (without (width win) t) = cond-false (eqb (win t) 0) 0 (bud t * product_below n (without (width win) t)) off in
    let b : width win t ≡ win t = cond-false (eqb (win t) 0) 1 (win t) off in
    let c : product_below n (without (width win) t) * win t ≡ whole n win = rw b at (prod_split n (width win) t k) in
    rw (a, ← c) (omega (arith, mul-le-mul_left (bud t * product_below n (without (width win) t)) l))
