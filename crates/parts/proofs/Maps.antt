-- A loop that changes each element in its turn, over a whole list or over its front.
use Rattle.std.proofs.Common.{◌≡◌, ℕ, zero, suc, ◌+◌, ◌-◌, ◌<◌, ◌≤◌, List, [], ◌∷◌, ◌++◌, map, length, get_or, take, drop, set, refl, ap, ◌∙◌, add-one, arith, length-append, length-drop, length-take, take_all}
use lib.ListN.{length-map}
use Rattle.std.proofs.lemmas.List.{drop_all, append-nil}

module _ {X : Type 0} (f : X → X) where
  -- the first i elements are changed
  abbrev pub upto : ℕ → List X → List X
  upto i xs = map f (take i xs) ++ drop i xs

  pub upto_more : (xs : List X) (i : ℕ) (d : X) → i < length xs → set (upto i xs) i (f (get_or (upto i xs) i d)) ≡ upto (i + 1) xs
  upto_more [] i d h = absurd (omega arith)
  upto_more (x ∷ xs) zero d h = refl
  upto_more (x ∷ xs) (suc i) d h = rw (add-one) (ap (λ l. f x ∷ l) (upto_more xs i d (omega arith) ∙ ap (λ n. upto n xs) (add-one i)))

  pub upto_all : (xs : List X) (i : ℕ) → length xs ≤ i → upto i xs ≡ map f xs
  upto_all xs i h = simp (take_all i xs h, drop_all i xs h, append-nil)

  -- a front part that was lent comes back changed
  pub front_upto : (n : ℕ) (xs ys : List X) → ys ≡ map f (take (n - 0) xs) → ys ++ drop (n - 0) xs ≡ upto n xs
  front_upto n xs ys e = ap (λ l. l ++ drop (n - 0) xs) e ∙ ap (λ k. upto k xs) (let z : n - 0 ≡ n = omega arith in z)

  -- as long as the list
  pub length_upto : (n : ℕ) (xs : List X) → length (upto n xs) ≡ length xs
  length_upto n xs = length-append (map f (take n xs)) (drop n xs) ∙ omega (arith, length-map (take n xs) f, length-take n xs, length-drop n xs)

  -- its front is the front changed
  pub take_upto : (n : ℕ) (xs : List X) → n ≤ length xs → take n (upto n xs) ≡ map f (take n xs)
  take_upto zero xs h = refl
  take_upto (suc n) [] h = absurd (omega arith)
  take_upto (suc n) (x ∷ xs) h = ap (λ l. f x ∷ l) (take_upto n xs (omega arith))

  -- a place below n is changed
  pub upto_below : (n : ℕ) (xs : List X) (k : ℕ) (d : X) → k < n → n ≤ length xs → get_or (upto n xs) k d ≡ f (get_or xs k d)
  upto_below zero xs k d h l = absurd (omega arith)
  upto_below (suc n) [] k d h l = absurd (omega arith)
  upto_below (suc n) (x ∷ xs) zero d h l = refl
  upto_below (suc n) (x ∷ xs) (suc k) d h l = upto_below n xs k d (omega arith) (omega arith)

  -- one from n on is not
  pub upto_above : (n : ℕ) (xs : List X) (k : ℕ) (d : X) → n ≤ k → get_or (upto n xs) k d ≡ get_or xs k d
  upto_above zero xs k d h = refl
  upto_above (suc n) [] k d h = refl
  upto_above (suc n) (x ∷ xs) zero d h = absurd (omega arith)
  upto_above (suc n) (x ∷ xs) (suc k) d h = upto_above n xs k d (omega arith)

-- the first i places have got their values, which stand in ys
module _ {X : Type 0} where
  pub filled_more : (ys xs : List X) (i : ℕ) (d : X) → i < length ys → i < length xs
      → set (take i ys ++ drop i xs) i (get_or ys i d) ≡ take (i + 1) ys ++ drop (i + 1) xs
  filled_more [] xs i d h l = absurd (omega arith)
  filled_more (y ∷ ys) [] i d h l = absurd (omega arith)
  filled_more (y ∷ ys) (x ∷ xs) zero d h l = refl
  filled_more (y ∷ ys) (x ∷ xs) (suc i) d h l =
      rw (add-one) (ap (λ l. y ∷ l) (filled_more ys xs i d (omega arith) (omega arith) ∙ ap (λ n. take n ys ++ drop n xs) (add-one i)))
