-- A set among the tasks held has fewer members than they exactly when it leaves one of them. Assumes nothing.
use Rattle.std.proofs.Common.{◌≡◌, ℕ, zero, suc, ◌+◌, ◌*◌, ◌/◌, ◌%◌, ◌^◌, ◌<◌, ◌≤◌, cond, ◌⊎◌, List, [], ◌∷◌, length, get_or, sym, refl, ap, ◌∙◌, ap₂, inl, inr, pow-suc, div-one, one-add, arith, shr-shr}
use lib.Count.{ones, ones_step}
use Rattle.std.proofs.lemmas.Bool.{cases_eq}
use Rattle.ecode.specs.declared.code.Cell.{Cell}
use Rattle.ecode.specs.declared.code.Cell.TheVariants.{NotHeld, Idle, Released}
use Rattle.ecode.specs.Sheets.{In}
use Rattle.ecode.specs.Typing.{held, held_set}
use Rattle.ecode.specs.Accepted.{Held}
use Rattle.ecode.specs.Laws.{Among, Leaves, FuturesPart}

low : (z : ℕ) → (z / 2 ^ 0 % 2) ≡ z % 2
low z = ap (λ n. n % 2) (div-one z)

next : (z t : ℕ) → (z / 2 ^ suc t % 2) ≡ (z / 2 / 2 ^ t % 2)
next z t = ap (λ n. n % 2) (ap (λ n. z / 2 ^ n) (sym (one-add t)) ∙ sym (shr-shr z 1 t))

bit_held : (c : Cell) → Held c → ◌≡◌ {A = ℕ} (cond (held c) 1 0) 1
bit_held NotHeld h = absurd h
bit_held Idle h = refl
bit_held (Released x y) h = refl

held_bit : (c : Cell) → (Held c → ⊥) ⊎ Held c
held_bit NotHeld = inl (λ h. h)
held_bit Idle = inr tt
held_bit (Released x y) = inr tt

bit_none : (c : Cell) → (Held c → ⊥) → ◌≡◌ {A = ℕ} (cond (held c) 1 0) 0
bit_none NotHeld h = refl
bit_none Idle h = absurd (h tt)
bit_none (Released x y) h = absurd (h tt)

module _ (z : ℕ) (c : Cell) (cs : List Cell) where
  short : z < 2 ^ length (c ∷ cs) → z / 2 < 2 ^ length cs
  short h = let p = pow-suc 2 (length cs) in omega arith

  tail_among : Among z (c ∷ cs) → Among (z / 2) cs
  tail_among A t h m = A (suc t) (omega arith) (next z t ∙ m)

  -- the counts of the set and of the tasks held, by the lowest digit
  counts : (b : ℕ) → b < 2 → ones (b + 2 * held_set cs) ≡ b + ones (held_set cs)
  counts b h =
      let q : (b + 2 * held_set cs) % 2 ≡ b = omega arith in
      let r : (b + 2 * held_set cs) / 2 ≡ held_set cs = omega arith in
      ones_step (b + 2 * held_set cs) ∙ ap₂ (λ x y. x + ones y) q r

-- a set among the tasks held has at most as many members
at_most : (z : ℕ) (row : List Cell) → z < 2 ^ length row → Among z row → ones z ≤ ones (held_set row)
unfolding held_set
at_most z [] h A = let e : z ≡ 0 = omega arith in let f = ap ones e in omega arith
at_most z (c ∷ cs) h A = elim (held_bit c) [
  | inl n ↦
      let o : (z % 2 ≡ 1 → ⊥) = λ e. n (A 0 (omega arith) (low z ∙ e)) in
      let k = ap (λ b. ones (b + 2 * held_set cs)) (bit_none c n) ∙ counts z c cs 0 (omega arith) in
      let ih = at_most (z / 2) cs (short z c cs h) (tail_among z c cs A) in
      omega (arith, ones_step z)
  | inr y ↦
      let k = ap (λ b. ones (b + 2 * held_set cs)) (bit_held c y) ∙ counts z c cs 1 (omega arith) in
      let ih = at_most (z / 2) cs (short z c cs h) (tail_among z c cs A) in
      omega (arith, ones_step z)
]

leaves : (z : ℕ) (row : List Cell) → z < 2 ^ length row → Among z row → ones z < ones (held_set row) → Leaves z row
unfolding held_set
leaves z [] h A lt = let e : z ≡ 0 = omega arith in let f = ap ones e in absurd (omega arith)
leaves z (c ∷ cs) h A lt = elim (held_bit c) [
  | inl n ↦
      let k = ap (λ b. ones (b + 2 * held_set cs)) (bit_none c n) ∙ counts z c cs 0 (omega arith) in
      let ih = leaves (z / 2) cs (short z c cs h) (tail_among z c cs A) (omega (arith, ones_step z)) in
      (suc ih.0, omega (arith, ih.1), ih.2, λ m. ih.3 (sym (next z ih.0) ∙ m))
  | inr y ↦
      let k = ap (λ b. ones (b + 2 * held_set cs)) (bit_held c y) ∙ counts z c cs 1 (omega arith) in
      elim (cases_eq (z % 2) 1) [
        | inl o ↦
            let ih = leaves (z / 2) cs (short z c cs h) (tail_among z c cs A) (omega (arith, ones_step z)) in
            (suc ih.0, omega (arith, ih.1), ih.2, λ m. ih.3 (sym (next z ih.0) ∙ m))
        | inr o ↦ (0, omega arith, y, λ m. o (sym (low z) ∙ m))
      ]
]

fewer_when : (z : ℕ) (row : List Cell) → z < 2 ^ length row → Among z row → (t : ℕ) → t < length row → Held (get_or row t NotHeld) → (In t z → ⊥) → ones z < ones (held_set row)
unfolding held_set
fewer_when z [] h A t lt y out = absurd (omega arith)
fewer_when z (c ∷ cs) h A zero lt y out =
    let o : (z % 2 ≡ 1 → ⊥) = λ e. out (low z ∙ e) in
    let k = ap (λ b. ones (b + 2 * held_set cs)) (bit_held c y) ∙ counts z c cs 1 (omega arith) in
    let le = at_most (z / 2) cs (short z c cs h) (tail_among z c cs A) in
    omega (arith, ones_step z)
fewer_when z (c ∷ cs) h A (suc t) lt y out =
    let ih = fewer_when (z / 2) cs (short z c cs h) (tail_among z c cs A) t (omega arith) y (λ m. out (next z t ∙ m)) in
    elim (held_bit c) [
      | inl n ↦
          let o : (z % 2 ≡ 1 → ⊥) = λ e. n (A 0 (omega arith) (low z ∙ e)) in
          let k = ap (λ b. ones (b + 2 * held_set cs)) (bit_none c n) ∙ counts z c cs 0 (omega arith) in
          omega (arith, ones_step z)
      | inr y ↦
          let k = ap (λ b. ones (b + 2 * held_set cs)) (bit_held c y) ∙ counts z c cs 1 (omega arith) in
          omega (arith, ones_step z)
    ]

pub parting : FuturesPart
parting z row h A = (leaves z row h A, λ l. fewer_when z row h A l.0 l.1 l.2 l.3)
