-- The load sum, one task at a time. Assumes nothing.
use Rattle.std.proofs.Common.{◌≡◌, ℕ, zero, suc, ◌+◌, ◌*◌, ◌^◌, ◌<◌, ◌≤◌, Bool, true, false, cond, eqb, List, get_or, sym, refl, ap, ◌∙◌, ap₂, mul_assoc, add-mul, mul-le-mul, pow-suc, mul-one, add-one, arith}
use Rattle.std.proofs.lemmas.Bool.{ne_eqb, eq-eqb, le-leb, lt-leb, cond-true, cond-false}
use Rattle.ecode.specs.declared.code.Line.{Line}
use Rattle.ecode.specs.declared.code.LoadSum.{LoadSum}
use Rattle.ecode.specs.Load.{window, sum_below, product_below, without, width, part, parts, whole, fits}
use Rattle.ecode.specs.Accepted.{LoadIs}

pub prod_cong : (n : ℕ) (f g : ℕ → ℕ) → ((t : ℕ) → t < n → f t ≡ g t) → product_below n f ≡ product_below n g
unfolding product_below
prod_cong zero f g h = refl
prod_cong (suc n) f g h = ap₂ (λ a b. a * b) (prod_cong n f g (λ t k. h t (omega arith))) (h n (omega arith))

pub sum_cong : (n : ℕ) (f g : ℕ → ℕ) → ((t : ℕ) → t < n → f t ≡ g t) → sum_below n f ≡ sum_below n g
unfolding sum_below
sum_cong zero f g h = refl
sum_cong (suc n) f g h = ap₂ (λ a b. a + b) (sum_cong n f g (λ t k. h t (omega arith))) (h n (omega arith))

pub sum_times : (n : ℕ) (f : ℕ → ℕ) (w : ℕ) → sum_below n (λ t. f t * w) ≡ sum_below n f * w
unfolding sum_below
sum_times zero f w = omega arith
sum_times (suc n) f w = ap (λ a. a + f n * w) (sum_times n f w) ∙ sym (add-mul (sum_below n f) (f n) w)

off_without : (f : ℕ → ℕ) (t s : ℕ) → (s ≡ t → ⊥) → without f t s ≡ f s
off_without f t s k = cond-false (eqb s t) 1 (f s) (ne_eqb s t k)

at_without : (f : ℕ → ℕ) (t : ℕ) → without f t t ≡ 1
at_without f t = cond-true (eqb t t) 1 (f t) (eq-eqb t t refl)

module _ (win bud : ℕ → ℕ) (n : ℕ) where
  -- the parts of the tasks before, over a whole that has one more window
  before : (t : ℕ) → t < n → part (suc n) win bud t ≡ part n win bud t * width win n
  unfolding product_below
  before t h = go (eqb (win t) 0)
    where
      last : without (width win) t n ≡ width win n
      last = off_without (width win) t n (λ e. omega arith)

      go : (b : Bool) → cond b 0 (bud t * (product_below n (without (width win) t) * without (width win) t n)) ≡ cond b 0 (bud t * product_below n (without (width win) t)) * width win n
      go true = omega arith
      go false = ap (λ x. bud t * (product_below n (without (width win) t) * x)) last ∙ sym (mul_assoc (bud t) (product_below n (without (width win) t)) (width win n))

  here : part (suc n) win bud n ≡ cond (eqb (win n) 0) 0 (bud n * product_below n (width win))
  unfolding product_below
  here = ap (λ x. cond (eqb (win n) 0) 0 (bud n * x))
      (ap (λ x. product_below n (without (width win) n) * x) (at_without (width win) n) ∙ mul-one (product_below n (without (width win) n))
      ∙ prod_cong n (without (width win) n) (width win) (λ s h. off_without (width win) n s (λ e. omega arith)))

  sums : sum_below (suc n) (part (suc n) win bud) ≡ sum_below n (part n win bud) * width win n + cond (eqb (win n) 0) 0 (bud n * product_below n (width win))
  unfolding sum_below
  sums = ap₂ (λ a b. a + b) (sum_cong n (part (suc n) win bud) (λ t. part n win bud t * width win n) before ∙ sum_times n (part n win bud) (width win n)) here

  -- what one step of the sum makes
  pub sum_more : sum_below (n + 1) (part (n + 1) win bud)
      ≡ cond (eqb (win n) 0) (sum_below n (part n win bud)) (sum_below n (part n win bud) * win n + bud n * product_below n (width win))
  sum_more = ap (λ m. sum_below m (part m win bud)) (add-one n) ∙ sums ∙ go (eqb (win n) 0)
    where
      go : (b : Bool) → sum_below n (part n win bud) * cond b 1 (win n) + cond b 0 (bud n * product_below n (width win))
          ≡ cond b (sum_below n (part n win bud)) (sum_below n (part n win bud) * win n + bud n * product_below n (width win))
      go true = omega arith
      go false = refl

  pub whole_more : product_below (n + 1) (width win) ≡ cond (eqb (win n) 0) (product_below n (width win)) (product_below n (width win) * win n)
  unfolding product_below
  whole_more = ap (λ m. product_below m (width win)) (add-one n) ∙ go (eqb (win n) 0)
    where
      go : (b : Bool) → product_below n (width win) * cond b 1 (win n) ≡ cond b (product_below n (width win)) (product_below n (width win) * win n)
      go true = omega arith
      go false = refl

-- the whole stays small
pub whole_small : (n x y w : ℕ) → x ≤ 255 ^ n → w ≤ 255 → y ≡ cond (eqb w 0) x (x * w) → y ≤ 255 ^ (n + 1)
whole_small n x y w h k e = go (eqb w 0) e
  where
    top : 255 ^ (n + 1) ≡ 255 ^ n * 255
    top = ap (λ m. 255 ^ m) (add-one n) ∙ pow-suc 255 n

    go : (b : Bool) → y ≡ cond b x (x * w) → y ≤ 255 ^ (n + 1)
    go true e = omega (arith, top)
    go false e = omega (arith, top, mul-le-mul h k)

-- one more task in the code's sum is one more in the load sum
pub load_step : (ls : List Line) (bud : List ℕ) (n w b : ℕ) (old new : LoadSum) → LoadIs n ls bud old → w ≡ window ls n → b ≡ get_or bud n 0
    → new.parts ≡ cond (eqb w 0) old.parts (old.parts * w + b * old.whole) → new.whole ≡ cond (eqb w 0) old.whole (old.whole * w)
    → LoadIs (n + 1) ls bud new
load_step ls bud n w b old new is ew eb p x = record {
  parts =
      p ∙ ap₂ (λ v c. cond (eqb v 0) old.parts (old.parts * v + c * old.whole)) ew eb
      ∙ ap₂ (λ q y. cond (eqb (window ls n) 0) q (q * window ls n + get_or bud n 0 * y)) is.parts is.whole
      ∙ sym (sum_more (window ls) (λ t. get_or bud t 0) n);
  whole = x ∙ ap₂ (λ y v. cond (eqb v 0) y (y * v)) is.whole ew ∙ sym (whole_more (window ls) (λ t. get_or bud t 0) n);
}

module _ (ls : List Line) (bud : List ℕ) (n : ℕ) (sum : LoadSum) (is : LoadIs n ls bud sum) where
  pub fits_when : sum.parts ≤ sum.whole → fits n (window ls) (λ t. get_or bud t 0) ≡ true
  unfolding fits
  fits_when h = le-leb (parts n (window ls) (λ t. get_or bud t 0)) (whole n (window ls)) (omega (arith, is.parts, is.whole))

  pub over_when : sum.whole < sum.parts → fits n (window ls) (λ t. get_or bud t 0) ≡ false
  unfolding fits
  over_when h = lt-leb (parts n (window ls) (λ t. get_or bud t 0)) (whole n (window ls)) (omega (arith, is.parts, is.whole))
