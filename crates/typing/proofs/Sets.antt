-- The set of the tasks held, made bit by bit. Assumes nothing.
use Rattle.std.proofs.Common.{◌≡◌, ℕ, suc, ◌+◌, ◌*◌, ◌%◌, ◌^◌, ◌<◌, ◌≤◌, Bool, true, false, cond, List, [], ◌∷◌, ◌++◌, reverse, length, get_or, take, sym, refl, ap, ◌∙◌, subst, pow-suc, pow_mono, arith, length-take}
use lib.Bits.{bit_or, or_shifted_r}
use Rattle.std.specs.List.{fold}
use Rattle.std.proofs.lemmas.Bool.{cond_both}
use Rattle.std.proofs.lemmas.List.{reverse-append, take_more}
use Rattle.std.proofs.lemmas.List.Sums.{fold-append}
use Rattle.std.proofs.lemmas.Nat.{or_shifted, one_shl}
use Rattle.ecode.specs.declared.code.Cell.{Cell}
use Rattle.ecode.specs.Typing.{held, held_set}

-- a mask moved up for the task before those in it
abbrev pub with_next : ℕ → Cell → ℕ
with_next mask c = bit_or (mask * 2 ^ 1 % 256) (cond (held c) 1 0)

-- it is below the power of two for their number
pub held_lt : (ps : List Cell) → held_set ps < 2 ^ length ps
unfolding held_set
held_lt [] = omega arith
held_lt (p ∷ ps) = cond_both (held p) 1 0 (λ b. b + 2 * held_set ps < 2 ^ suc (length ps))
    (λ _. omega (arith, held_lt ps, pow-suc 2 (length ps))) (λ _. omega (arith, held_lt ps, pow-suc 2 (length ps)))

-- one more task puts its bit on top
pub held_push : (ps : List Cell) (p : Cell) → held_set (ps ++ (p ∷ [])) ≡ held_set ps + cond (held p) 1 0 * 2 ^ length ps
unfolding held_set
held_push [] p = omega arith
held_push (q ∷ ps) p = cond_both (held p) 1 0 (λ b. held_set (ps ++ (p ∷ [])) ≡ held_set ps + b * 2 ^ length ps → cond (held q) 1 0 + 2 * held_set (ps ++ (p ∷ [])) ≡ cond (held q) 1 0 + 2 * held_set ps + b * 2 ^ suc (length ps))
    (λ _ h. omega (arith, h, pow-suc 2 (length ps))) (λ _ h. omega (arith, h, pow-suc 2 (length ps))) (held_push ps p)

-- the mask of the first t, with the bit of task t joined where it is held, is that of the first t + 1
pub held_more : (ps : List Cell) (t : ℕ) (d : Cell) (m : ℕ) → t < length ps → t < 8 → m ≡ held_set (take t ps) → (b : Bool) → b ≡ held (get_or ps t d)
    → cond b (bit_or m ((1 * 2 ^ t) % 256)) m ≡ held_set (take (t + 1) ps)
held_more ps t d m h k e b hb =
    let front = take t ps in
    let len : length front ≡ t = simp length-take (omega arith) in
    let small : m < 2 ^ t = subst (λ n. m < 2 ^ n) len (omega (arith, held_lt front)) in
    let push : held_set (take (t + 1) ps) ≡ m + cond b 1 0 * 2 ^ t =
    ap held_set (take_more ps t d h) ∙ held_push front (get_or ps t d)
    ∙ ap (λ x. held_set front + cond x 1 0 * 2 ^ length front) (sym hb) ∙ ap (λ n. held_set front + cond b 1 0 * 2 ^ n) len ∙ ap (λ x. x + cond b 1 0 * 2 ^ t) (sym e) in
    let shl : (1 * 2 ^ t) % 256 ≡ 1 * 2 ^ t = omega (arith, one_shl t 8 k) in
    go b small shl ∙ sym push
  where
    go : (b : Bool) → m < 2 ^ t → (1 * 2 ^ t) % 256 ≡ 1 * 2 ^ t → cond b (bit_or m ((1 * 2 ^ t) % 256)) m ≡ m + cond b 1 0 * 2 ^ t
    go true small shl = ap (bit_or m) shl ∙ or_shifted_r 1 t m small ∙ omega arith
    go false small shl = omega arith

-- made from the last task down it is the set
pub held_folded : (ps : List Cell) → length ps ≤ 8 → fold with_next 0 (reverse ps) ≡ held_set ps
unfolding held_set
held_folded [] h = refl
held_folded (p ∷ ps) h =
    let few : length ps ≤ 7 = omega arith in
    let top : 2 ^ length ps ≤ 2 ^ 7 = pow_mono few in
    ap (fold with_next 0) (reverse-append (p ∷ []) ps)
    ∙ fold-append with_next 0 (reverse ps) (p ∷ [])
    ∙ ap (λ m. with_next m p) (held_folded ps (omega arith))
    ∙ go (held_set ps) (cond (held p) 1 0) (omega (arith, held_lt ps, top)) (cond_both (held p) 1 0 (λ b. b < 2) (λ _. omega arith) (λ _. omega arith))
  where
    go : (m b : ℕ) → m < 128 → b < 2 → bit_or (m * 2 ^ 1 % 256) b ≡ b + 2 * m
    go m b h k = let same : m * 2 ^ 1 % 256 ≡ m * 2 ^ 1 = omega arith in ap (λ n. bit_or n b) same ∙ or_shifted m 1 b k ∙ omega arith
