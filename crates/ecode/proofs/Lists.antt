-- Lists filled place by place, and tests of every number below a bound. Assumes nothing.
use Rattle.std.specs.List.{list_all}
use Rattle.std.proofs.Common.{[], ◌∷◌, ◌≡◌, ℕ, zero, suc, ◌+◌, ◌<◌, ◌≤◌, Bool, true, false, not, ◌&&◌, ◌||◌, List, length, get_or, take, set, sym, refl, ap, ◌∙◌, subst, ap₂, inl, inr, add-one, arith, length-take, get_or-set_other, get_or-take, get_or-set_same, ext_get_or}
use native.Mathlib.Decide.{le_ind}
use Rattle.std.proofs.lemmas.Bool.{cases_eq, and_from, and_parts, and_left}
use Rattle.ecode.specs.Wiring.{all_below}
use Rattle.ecode.specs.Image.{listed}

pub length_listed : {X : Type 0} (n : ℕ) (f : ℕ → X) → length (listed n f) ≡ n
unfolding listed
length_listed zero f = refl
length_listed (suc n) f = ap suc (length_listed n (λ k. f (suc k)))

pub getD_listed : {X : Type 0} (n : ℕ) (f : ℕ → X) (k : ℕ) (d : X) → k < n → get_or (listed n f) k d ≡ f k
unfolding listed
getD_listed zero f k d h = absurd (omega arith)
getD_listed (suc n) f zero d h = refl
getD_listed (suc n) f (suc k) d h = getD_listed n (λ j. f (suc j)) k d (omega arith)

-- one more place is filled
pub fill_more : {X : Type 0} (Q : ℕ → X) (xs : List X) (i : ℕ) (v d : X) → i < length xs
    → ((k : ℕ) → k < i → get_or xs k d ≡ Q k) → v ≡ Q i → (k : ℕ) → k < i + 1 → get_or (set xs i v) k d ≡ Q k
fill_more Q xs i v d h below e k lt = elim (cases_eq k i) [
  | inl s ↦ ap (λ j. get_or (set xs i v) j d) s ∙ get_or-set_same xs i v d h ∙ e ∙ ap Q (sym s)
  | inr n ↦ get_or-set_other xs i k v d n ∙ below k (omega arith)
]

pub filled : {X : Type 0} (n : ℕ) (Q : ℕ → X) (xs : List X) (d : X) → length xs ≡ n → ((k : ℕ) → k < n → get_or xs k d ≡ Q k) → xs ≡ listed n Q
filled n Q xs d len at = ext_get_or d xs (listed n Q) (len ∙ sym (length_listed n Q)) (λ k h. at k (omega arith) ∙ sym (getD_listed n Q k d (omega arith)))

module _ (f : ℕ → Bool) where
  pub all_none : all_below 0 f ≡ true
  unfolding all_below
  all_none = refl

  pub all_more : (i : ℕ) → all_below i f ≡ true → f i ≡ true → all_below (i + 1) f ≡ true
  unfolding all_below
  all_more i e h = ap (λ n. all_below n f) (add-one i) ∙ and_from (all_below i f) (f i) e h

  all_stays : (i : ℕ) → all_below i f ≡ false → (n : ℕ) → i ≤ n → all_below n f ≡ false
  unfolding all_below
  all_stays i e n h = le_ind (λ m. all_below m f ≡ false) e (λ m _ r. and_left (all_below m f) (f m) r) n h

  pub all_fails : (i n : ℕ) → i < n → f i ≡ false → all_below n f ≡ false
  unfolding all_below
  all_fails i n h e = all_stays (suc i) (go (all_below i f) (f i) e) n h
    where
      go : (a b : Bool) → b ≡ false → (a && b) ≡ false
      go true b e = e
      go false b e = refl

  pub all_at : (n k : ℕ) → all_below n f ≡ true → k < n → f k ≡ true
  unfolding all_below
  all_at zero k e h = absurd (omega arith)
  all_at (suc n) k e h = elim (cases_eq k n) [
    | inl s ↦ ap f s ∙ (and_parts (all_below n f) (f n) e).1
    | inr d ↦ all_at n k (and_parts (all_below n f) (f n) e).0 (omega arith)
  ]

  pub all_from : (n : ℕ) → ((k : ℕ) → k < n → f k ≡ true) → all_below n f ≡ true
  unfolding all_below
  all_from zero h = refl
  all_from (suc n) h = and_from (all_below n f) (f n) (all_from n (λ k l. h k (omega arith))) (h n (omega arith))

pub all_cong : (n : ℕ) (f g : ℕ → Bool) → ((t : ℕ) → t < n → f t ≡ g t) → all_below n f ≡ all_below n g
unfolding all_below
all_cong zero f g h = refl
all_cong (suc n) f g h = ap₂ (λ a b. a && b) (all_cong n f g (λ t k. h t (omega arith))) (h n (omega arith))

pub all_and : (n : ℕ) (f g : ℕ → Bool) → all_below n (λ t. f t && g t) ≡ (all_below n f && all_below n g)
unfolding all_below
all_and zero f g = refl
all_and (suc n) f g = ap (λ a. a && (f n && g n)) (all_and n f g) ∙ swap (all_below n f) (all_below n g) (f n) (g n)
  where
    swap : (a b c d : Bool) → ((a && b) && (c && d)) ≡ ((a && c) && (b && d))
    swap true true c d = refl
    swap true false true d = refl
    swap true false false d = refl
    swap false b c d = refl

pub all_or : (n : ℕ) (b : Bool) (f : ℕ → Bool) → all_below n (λ t. b || f t) ≡ (b || all_below n f)
all_or n true f = all_from (λ _. true) n (λ _ _. refl)
all_or n false f = refl

-- the first of the numbers aside
all_front : (n : ℕ) (f : ℕ → Bool) → all_below (suc n) f ≡ (f 0 && all_below n (λ k. f (suc k)))
unfolding all_below
all_front zero f = go (f 0)
  where
    go : (b : Bool) → (true && b) ≡ (b && true)
    go true = refl
    go false = refl
all_front (suc n) f = ap (λ b. b && f (suc n)) (all_front n f) ∙ go (f 0) (all_below n (λ k. f (suc k))) (f (suc n))
  where
    go : (a b c : Bool) → ((a && b) && c) ≡ (a && (b && c))
    go true b c = refl
    go false b c = refl

all_listed : {X : Type 0} (f : X → Bool) (xs : List X) (d : X) → list_all f xs ≡ all_below (length xs) (λ t. f (get_or xs t d))
unfolding all_below
all_listed f [] d = refl
all_listed f (x ∷ xs) d = ap (λ b. f x && b) (all_listed f xs d) ∙ sym (all_front (length xs) (λ t. f (get_or (x ∷ xs) t d)))

-- a test of every element of a list, as one of every number
pub all_places : {X : Type 0} (f : X → Bool) (xs : List X) (d : X) (n : ℕ) (g : ℕ → Bool) → length xs ≡ n → ((t : ℕ) → t < n → f (get_or xs t d) ≡ g t) → list_all f xs ≡ all_below n g
all_places f xs d n g len at = all_listed f xs d ∙ ap (λ m. all_below m (λ t. f (get_or xs t d))) len ∙ all_cong n (λ t. f (get_or xs t d)) g at

-- a test that is asked for counts
pub asked : (b x : Bool) → true ≡ b → x ≡ (not b || x)
asked true x e = refl
asked false x e = let z : ◌≡◌ {A = ℕ} 0 1 = cc in absurd (omega arith)

pub filled_front : {X : Type 0} (n : ℕ) (Q : ℕ → X) (xs : List X) (d : X) → n ≤ length xs → ((k : ℕ) → k < n → get_or xs k d ≡ Q k) → take n xs ≡ listed n Q
filled_front n Q xs d len at =
    let long : length (take n xs) ≡ n = simp length-take (omega arith) in
    filled n Q (take n xs) d long (λ k h. get_or-take n xs k d h ∙ at k h)

-- each place in its turn is changed
module _ {X : Type 0} (d : X) (xs ys : List X) (i : ℕ) (h : i < length xs) where
  -- with a place set, what holds of each below it and of the value holds of each below the next
  pub change_here : (P : ℕ → X → Type 0) (v : X) → ((k : ℕ) → k < i → P k (get_or xs k d)) → P i v → (k : ℕ) → k < i + 1 → P k (get_or (set xs i v) k d)
  change_here P v below at k lt = elim (cases_eq k i) [
    | inl s ↦ subst (λ j. P j (get_or (set xs i v) j d)) (sym s) (subst (P i) (sym (get_or-set_same xs i v d h)) at)
    | inr n ↦ subst (P k) (sym (get_or-set_other xs i k v d n)) (below k (omega arith))
  ]

  -- above it all stands as it stood
  pub change_not : (v : X) → ((k : ℕ) → i ≤ k → get_or xs k d ≡ get_or ys k d) → (k : ℕ) → i + 1 ≤ k → get_or (set xs i v) k d ≡ get_or ys k d
  change_not v above k le = let ne : (k ≡ i → ⊥) = λ e. omega arith in get_or-set_other xs i k v d ne ∙ above k (omega arith)
