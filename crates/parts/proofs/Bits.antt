-- Sets of tasks as masks: the members of a meet, of a set with one task more or less, and the lowest member.
use Rattle.std.proofs.Common.{◌≡◌, ℕ, zero, suc, ◌+◌, ◌-◌, ◌*◌, ◌%◌, ◌^◌, ◌<◌, ◌≤◌, w8, min, Bool, true, false, cond, not, ◌&&◌, ◌||◌, eqb, ltb, Some, None, Option, sym, refl, ap, ◌∙◌, inl, inr, arith}
use Rattle.std.specs.Int.{bit_at, trailing_zeros}
use lib.Bits.{bit_and, bit_or}
use Rattle.std.proofs.lemmas.Nat.Bits.{bit_at-lt, bit_at-zero, bit_at_and, bit_at_above, bit_at_set_same, bit_at_set_other, bit_at_clear_same, bit_at_clear_other, bit_at-trailing_zeros}
use Rattle.std.proofs.lemmas.Bool.{cases_eq, cases_lt, cases_order, eq-eqb, ne_eqb, lt-ltb, le-ltb, and_from, and_left, and_right, or_left}
use Rattle.ecode.specs.Wiring.{has}
use Rattle.machine.specs.Runner.{or_else, lowest}

pub has_and : (a b k : ℕ) → has (bit_and a b) k ≡ (has a k && has b k)
has_and a b k = ap (λ n. eqb n 1) (bit_at_and a b k) ∙ both (bit_at a k) (bit_at b k) (bit_at-lt a k) (bit_at-lt b k)
  where
    both : (u v : ℕ) → u < 2 → v < 2 → eqb (min u v) 1 ≡ (eqb u 1 && eqb v 1)
    both zero zero h l = refl
    both zero (suc zero) h l = refl
    both zero (suc (suc v)) h l = absurd (omega arith)
    both (suc zero) zero h l = refl
    both (suc zero) (suc zero) h l = refl
    both (suc zero) (suc (suc v)) h l = absurd (omega arith)
    both (suc (suc u)) v h l = absurd (omega arith)

-- one member more
pub has_with : (set t k : ℕ) → t < 8 → has (bit_or set ((1 * 2 ^ t) % 256)) k ≡ (eqb k t || has set k)
has_with set t k low = elim (cases_eq k t) [
  | inl e ↦ ap (has (bit_or set ((1 * 2 ^ t) % 256))) e ∙ eq-eqb _ 1 (bit_at_set_same w8 set t low) ∙ sym (or_left (eqb k t) (has set k) (eq-eqb k t e))
  | inr ne ↦ ap (λ n. eqb n 1) (bit_at_set_other w8 set t low k ne) ∙ sym (ap (λ b. b || has set k) (ne_eqb k t ne))
]

-- one member less: past its eight places a byte has none
pub has_without : (set t k : ℕ) → set < 256 → t < 8 → has (bit_and set (255 - (1 * 2 ^ t) % 256)) k ≡ (not (eqb k t) && has set k)
has_without set t k byte low =
    let others = 255 - (1 * 2 ^ t) % 256 in
    elim (cases_eq k t) [
      | inl e ↦ ap (has (bit_and set others)) e ∙ ap (λ n. eqb n 1) (bit_at_clear_same w8 set t low) ∙ sym (and_left (not (eqb k t)) (has set k) (ap not (eq-eqb k t e)))
      | inr ne ↦ elim (cases_lt k 8) [
        | inl l ↦ ap (λ n. eqb n 1) (bit_at_clear_other w8 set t low k l ne) ∙ sym (ap (λ b. not b && has set k) (ne_eqb k t ne))
        | inr l ↦
            let none : has set k ≡ false = ap (λ n. eqb n 1) (bit_at_above set 8 k byte l) in
            has_and set others k ∙ and_left (has set k) (has others k) none ∙ sym (and_right (not (eqb k t)) (has set k) none)
      ]
    ]

-- the lowest number that passes, found from below
module _ (f : ℕ → Bool) where
  pub lowest_clear : (n : ℕ) → ((k : ℕ) → k < n → f k ≡ false) → lowest n f ≡ None
  lowest_clear zero h = refl
  lowest_clear (suc n) h =
      ap (λ o. or_else o (cond (f n) (Some n) None)) (lowest_clear n (λ k l. h k (omega arith))) ∙ ap (λ b. cond b (Some n) None) (h n (omega arith))

  pub lowest_at : (t : ℕ) → f t ≡ true → ((k : ℕ) → k < t → f k ≡ false) → (n : ℕ) → t < n → lowest n f ≡ Some t
  lowest_at t e h zero l = absurd (omega arith)
  lowest_at t e h (suc n) l = elim (cases_lt t n) [
    | inl b ↦ ap (λ o. or_else o (cond (f n) (Some n) None)) (lowest_at t e h n b)
    | inr b ↦
        let same : n ≡ t = omega arith in
        ap (λ o. or_else o (cond (f n) (Some n) None)) (lowest_clear n (λ k l. h k (omega arith)))
        ∙ ap (λ m. cond (f m) (Some m) None) same ∙ ap (λ b. cond b (Some t) None) e
  ]

-- the lowest member of a byte
pub lowest_member : (set : ℕ) → set < 256 → lowest 8 (has set) ≡ cond (eqb set 0) None (Some (trailing_zeros w8 set))
lowest_member zero byte = lowest_clear (has 0) 8 (λ k l. ap (λ n. eqb n 1) (bit_at-zero k))
lowest_member (suc set) byte =
    let low = bit_at-trailing_zeros w8 (suc set) (omega arith) byte in
    lowest_at (has (suc set)) (trailing_zeros w8 (suc set)) (eq-eqb _ 1 low.1) (λ j l. ap (λ n. eqb n 1) (low.2 j l)) 8 low.0
    ∙ sym (ap (λ b. cond b None (Some (trailing_zeros w8 (suc set)))) (ne_eqb (suc set) 0 (λ e. omega arith)))

-- two tests that agree below n have the same lowest number
pub lowest_same : (f g : ℕ → Bool) (n : ℕ) → ((k : ℕ) → k < n → f k ≡ g k) → lowest n f ≡ lowest n g
lowest_same f g zero h = refl
lowest_same f g (suc n) h =
    ap (λ o. or_else o (cond (f n) (Some n) None)) (lowest_same f g n (λ k l. h k (omega arith))) ∙ ap (λ b. or_else (lowest n g) (cond b (Some n) None)) (h n (omega arith))

-- where nothing passes from n on, it does not matter how far one looks
pub lowest_further : (f : ℕ → Bool) (n m : ℕ) → n ≤ m → ((k : ℕ) → n ≤ k → f k ≡ false) → lowest m f ≡ lowest n f
lowest_further f n zero h e = let same : n ≡ 0 = omega arith in ap (λ k. lowest k f) (sym same)
lowest_further f n (suc m) h e = elim (cases_lt m n) [
  | inl b ↦ let same : suc m ≡ n = omega arith in ap (λ k. lowest k f) same
  | inr b ↦ ap (λ b. or_else (lowest m f) (cond b (Some m) None)) (e m b) ∙ last (lowest m f) ∙ lowest_further f n m b e
]
  where
    last : (o : Option ℕ) → or_else o None ≡ o
    last None = refl
    last (Some x) = refl

-- either side of an `or` may stand first
pub or_swap : (x y : Bool) → (x || y) ≡ (y || x)
or_swap true true = refl
or_swap true false = refl
or_swap false true = refl
or_swap false false = refl

-- and either side of an `and`
pub and_swap : (x y : Bool) → (x && y) ≡ (y && x)
and_swap true true = refl
and_swap true false = refl
and_swap false true = refl
and_swap false false = refl

-- the members below t that pass, and t itself
module _ (test : ℕ → Bool) (t : ℕ) (old : Bool) (k : ℕ) (e : old ≡ (ltb k t && test k)) where
  pub one_more_in : test t ≡ true → (eqb k t || old) ≡ (ltb k (t + 1) && test k)
  one_more_in p = elim (cases_order k t) [
    | inl q ↦ or_left (eqb k t) old (eq-eqb k t q) ∙ sym (and_from (ltb k (t + 1)) (test k) (lt-ltb k (t + 1) (omega arith)) (ap test q ∙ p))
    | inr (inl l) ↦ ap (λ b. b || old) (ne_eqb k t (λ q. omega arith)) ∙ e ∙ ap (λ b. b && test k) (lt-ltb k t l ∙ sym (lt-ltb k (t + 1) (omega arith)))
    | inr (inr l) ↦ ap (λ b. b || old) (ne_eqb k t (λ q. omega arith)) ∙ e ∙ ap (λ b. b && test k) (le-ltb k t (omega arith) ∙ sym (le-ltb k (t + 1) (omega arith)))
  ]

  pub one_more_out : test t ≡ false → old ≡ (ltb k (t + 1) && test k)
  one_more_out p = elim (cases_order k t) [
    | inl q ↦ e ∙ and_left (ltb k t) (test k) (le-ltb k t (omega arith)) ∙ sym (and_right (ltb k (t + 1)) (test k) (ap test q ∙ p))
    | inr (inl l) ↦ e ∙ ap (λ b. b && test k) (lt-ltb k t l ∙ sym (lt-ltb k (t + 1) (omega arith)))
    | inr (inr l) ↦ e ∙ ap (λ b. b && test k) (le-ltb k t (omega arith) ∙ sym (le-ltb k (t + 1) (omega arith)))
  ]
