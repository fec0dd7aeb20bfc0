-- Earliest deadline first keeps the work that is owed covered. Each task has a rate, its share of every slot, and K is a whole
-- slot; within any horizon the slots owed are at most what the rates still give. A slot for the earliest task, a tick that
-- passes and a release keep it so; and at its deadline a task owes nothing.
use Rattle.std.proofs.Common.{◌≡◌, ℕ, zero, suc, ◌+◌, ◌-◌, ◌*◌, ◌<◌, ◌≤◌, cond, leb, ◌⊎◌, inl, inr, ⊎_elim, mul-le-mul_right, mul-le-mul_left, arith}
use Rattle.std.proofs.lemmas.Bool.{cases_lt, le-leb, lt-leb, cond-true, cond-false}
use Rattle.ecode.specs.Load.{sum_below}
use Rattle.loader.proofs.Shares.{sum_cong}
use Rattle.machine.proofs.Sums.{sum_mono, sum_add, sum_mul, sum_zero, sum_at, sum_point}

-- x where l is within the horizon h, else 0
unfoldable pub cut : ℕ → ℕ → ℕ → ℕ
cut h l x = cond (leb l h) x 0

-- slots still owed to the tasks whose ticks left are at most h
abbrev pub need : ℕ → (ℕ → ℕ) → (ℕ → ℕ) → ℕ → ℕ
need n left rem h = sum_below n (λ t. cut h (left t) (rem t))

-- what the rates still give them
abbrev pub flow : ℕ → (ℕ → ℕ) → (ℕ → ℕ) → ℕ → ℕ
flow n rate left h = sum_below n (λ t. cut h (left t) (rate t * left t))

-- at each horizon the work owed is covered
abbrev pub Covered : ℕ → ℕ → (ℕ → ℕ) → (ℕ → ℕ) → (ℕ → ℕ) → Type 0
Covered n K rate left rem = (h : ℕ) → K * need n left rem h ≤ flow n rate left h

-- the same with the running slot already paid
abbrev pub Paid : ℕ → ℕ → (ℕ → ℕ) → (ℕ → ℕ) → (ℕ → ℕ) → Type 0
Paid n K rate left rem = (h : ℕ) → (need n left rem h ≡ 0) ⊎ (K * (need n left rem h + 1) ≤ flow n rate left h)

-- i is pending, and no pending task has fewer ticks left
pub record Earliest (n : ℕ) (left rem : ℕ → ℕ) (i : ℕ) : Type 0 where
  pub below : i < n
  pub pending : 1 ≤ rem i
  pub first : (t : ℕ) → t < n → 1 ≤ rem t → left i ≤ left t

pub cut_in : (h l x : ℕ) → l ≤ h → cut h l x ≡ x
unfolding cut
cut_in h l x k = cond-true (leb l h) x 0 (le-leb l h k)

pub cut_out : (h l x : ℕ) → h < l → cut h l x ≡ 0
unfolding cut
cut_out h l x k = cond-false (leb l h) x 0 (lt-leb l h k)

pub cut_zero : (h l : ℕ) → cut h l 0 ≡ 0
cut_zero h l = elim (cases_lt h l) [ inl k ↦ cut_out h l 0 k | inr k ↦ cut_in h l 0 k ]

cut_mono : (h l x y : ℕ) → x ≤ y → cut h l x ≤ cut h l y
cut_mono h l x y k =
    elim (cases_lt h l) [
      | inl o ↦ omega (arith, cut_out h l x o)
      | inr i ↦ omega (arith, cut_in h l x i, cut_in h l y i)
    ]

-- one tick less
cut_down : (h l x : ℕ) → cut h (l - 1) x ≡ cut (suc h) l x
cut_down h l x =
    elim (cases_lt (suc h) l) [
      | inl o ↦ omega (arith, cut_out (suc h) l x o, cut_out h (l - 1) x (omega arith))
      | inr i ↦ omega (arith, cut_in (suc h) l x i, cut_in h (l - 1) x (omega arith))
    ]

suc_less : (l r : ℕ) → r * (suc l - 1) ≡ r * l
suc_less l r = let e : suc l - 1 ≡ l = omega arith in rw e

fall : (l r : ℕ) → r * l ≤ r * (l - 1) + r
fall zero r = omega arith
fall (suc l) r = omega (arith, suc_less l r)

cut_fall : (h l r : ℕ) → cut (suc h) l (r * l) ≤ cut h (l - 1) (r * (l - 1)) + r
cut_fall h l r =
    elim (cases_lt (suc h) l) [
      | inl o ↦ omega (arith, cut_out (suc h) l (r * l) o)
      | inr i ↦ omega (arith, cut_in (suc h) l (r * l) i, cut_in h (l - 1) (r * (l - 1)) (omega arith), fall l r)
    ]

-- at horizon 0 nothing flows any more
cut_none : (l r : ℕ) → cut 0 l (r * l) ≡ 0
cut_none zero r = omega (arith, cut_in 0 0 (r * 0) (omega arith))
cut_none (suc l) r = cut_out 0 (suc l) (r * suc l) (omega arith)

zero_of_mul : (K s x : ℕ) → 1 ≤ K → K * s ≤ 0 → x ≤ s → x ≡ 0
zero_of_mul K s x p q r = omega (arith, mul-le-mul_right s p)

still : (h r : ℕ) → cut h 0 (r * 0) ≡ 0
still h r = omega (arith, cut_in h 0 (r * 0) (omega arith))

cut_times : (h l K x y : ℕ) → K * x ≤ y → K * cut h l x ≤ cut h l y
cut_times h l K x y k =
    elim (cases_lt h l) [
      | inl o ↦ rw (cut_out h l x o) (omega arith)
      | inr i ↦ rw (cut_in h l x i, cut_in h l y i) k
    ]

module _ (n K : ℕ) (rate : ℕ → ℕ) where
  -- the earliest pending task gets a slot, or more of its work falls away
  pub charge : (left rem rem' : ℕ → ℕ) (i : ℕ) → Covered n K rate left rem → Earliest n left rem i →
      ((t : ℕ) → t < n → rem' t ≤ rem t) → rem' i + 1 ≤ rem i → Paid n K rate left rem'
  charge left rem rem' i inv e down one h =
      elim (cases_lt h (left i)) [
        | inl o ↦ inl (sum_zero n (λ t. cut h (left t) (rem' t)) (λ t k. none_before t k o))
        | inr j ↦ inr (owed j)
      ]
    where
      none_before : (t : ℕ) → t < n → h < left i → cut h (left t) (rem' t) ≡ 0
      none_before t k o =
          elim (cases_lt h (left t)) [
            | inl p ↦ cut_out h (left t) (rem' t) p
            | inr p ↦ ⊎_elim
                (λ (z : rem t < 1). omega (arith, cut_in h (left t) (rem' t) p, down t k))
                (λ (z : 1 ≤ rem t). omega (arith, e.first t k z))
                (cases_lt (rem t) 1)
          ]

      owed : left i ≤ h → K * (need n left rem' h + 1) ≤ flow n rate left h
      owed j =
          let at : cut h (left i) (rem' i) + 1 ≤ cut h (left i) (rem i) =
          omega (arith, cut_in h (left i) (rem' i) j, cut_in h (left i) (rem i) j) in
          let falls : need n left rem' h + 1 ≤ need n left rem h =
          sum_point n (λ t. cut h (left t) (rem' t)) (λ t. cut h (left t) (rem t)) i e.below
          (λ t k. cut_mono h (left t) (rem' t) (rem t) (down t k)) at in
          omega (arith, mul-le-mul_left K falls, inv h)

  -- a slot passes: every job has one tick less left
  pub pass : (left rem : ℕ → ℕ) → sum_below n rate ≤ K → Paid n K rate left rem → Covered n K rate (λ t. left t - 1) rem
  pass left rem load paid h =
      let same : need n (λ t. left t - 1) rem h ≡ need n left rem (suc h) =
      sum_cong n (λ t. cut h (left t - 1) (rem t)) (λ t. cut (suc h) (left t) (rem t)) (λ t k. cut_down h (left t) (rem t)) in
      let gone : flow n rate left (suc h) ≤ sum_below n (λ t. cut h (left t - 1) (rate t * (left t - 1)) + rate t) =
      sum_mono n (λ t. cut (suc h) (left t) (rate t * left t)) (λ t. cut h (left t - 1) (rate t * (left t - 1)) + rate t)
      (λ t k. cut_fall h (left t) (rate t)) in
      let apart = sum_add n (λ t. cut h (left t - 1) (rate t * (left t - 1))) rate in
      rw same
      (⊎_elim
      (λ (z : need n left rem (suc h) ≡ 0). rw z (omega arith))
      (λ (z : K * (need n left rem (suc h) + 1) ≤ flow n rate left (suc h)). omega arith)
      (paid (suc h)))

  -- nothing pending: the slot is paid
  pub idle : (left rem : ℕ → ℕ) → ((t : ℕ) → t < n → rem t ≡ 0) → Paid n K rate left rem
  idle left rem none h = inl (sum_zero n (λ t. cut h (left t) (rem t)) (λ t k. rw (none t k) (cut_zero h (left t))))

  -- a task with no ticks left and no work owed gets ticks, and at most the work that its ticks cover; others keep theirs
  pub turn : (left rem left' rem' : ℕ → ℕ) → Covered n K rate left rem →
      ((t : ℕ) → t < n → ((left' t ≡ left t) × (rem' t ≤ rem t)) ⊎ ((left t ≡ 0) × (rem t ≡ 0) × (K * rem' t ≤ rate t * left' t))) →
      Covered n K rate left' rem'
  turn left rem left' rem' inv each h =
      let m : sum_below n (λ t. K * cut h (left' t) (rem' t) + cut h (left t) (rate t * left t)) ≤ sum_below n (λ t. cut h (left' t) (rate t * left' t) + K * cut h (left t) (rem t)) =
      sum_mono n (λ t. K * cut h (left' t) (rem' t) + cut h (left t) (rate t * left t)) (λ t. cut h (left' t) (rate t * left' t) + K * cut h (left t) (rem t)) point in
      let a = sum_add n (λ t. K * cut h (left' t) (rem' t)) (λ t. cut h (left t) (rate t * left t)) in
      let b = sum_add n (λ t. cut h (left' t) (rate t * left' t)) (λ t. K * cut h (left t) (rem t)) in
      let c = sum_mul n K (λ t. cut h (left' t) (rem' t)) in
      let d = sum_mul n K (λ t. cut h (left t) (rem t)) in
      omega (arith, inv h)
    where
      point : (t : ℕ) → t < n → K * cut h (left' t) (rem' t) + cut h (left t) (rate t * left t) ≤ cut h (left' t) (rate t * left' t) + K * cut h (left t) (rem t)
      point t k =
          elim (each t k) [
            | inl s ↦ rw s.0 (omega (arith, mul-le-mul_left K (cut_mono h (left t) (rem' t) (rem t) s.1)))
            | inr s ↦
                let z : cut h (left t) (rate t * left t) ≡ 0 = rw s.0 (still h (rate t)) in
                omega (arith, cut_times h (left' t) K (rem' t) (rate t * left' t) s.2)
          ]

  -- at its deadline a job owes nothing
  pub kept : (left rem : ℕ → ℕ) → 1 ≤ K → Covered n K rate left rem → (i : ℕ) → i < n → left i ≡ 0 → rem i ≡ 0
  kept left rem pos inv i k z =
      let f : flow n rate left 0 ≡ 0 = sum_zero n (λ t. cut 0 (left t) (rate t * left t)) (λ t j. cut_none (left t) (rate t)) in
      let a = sum_at n (λ t. cut 0 (left t) (rem t)) i k in
      let b : cut 0 (left i) (rem i) ≡ rem i = cut_in 0 (left i) (rem i) (omega arith) in
      zero_of_mul K (need n left rem 0) (rem i) pos (omega (arith, inv 0)) (omega arith)
