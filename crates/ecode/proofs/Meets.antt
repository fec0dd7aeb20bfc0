-- Two masks meet exactly when they have a member in common. Assumes nothing.
use Rattle.std.proofs.Common.{◌≡◌, ℕ, zero, suc, ◌/◌, ◌%◌, ◌^◌, ◌≤◌, min, not, eqb, Decides, sym, ap, ◌∙◌, inl, inr, div-one, one-add, arith, pow_pos, shr-shr}
use native.Mathlib.Nat.{div-eq_of_lt}
use lib.Arith.{half_le}
use lib.Bits.{bit_and, and_step, and_shr, and_zero_l}
use Rattle.std.proofs.lemmas.Bool.{cases_eq}
use Rattle.std.proofs.lemmas.Bool.Decides.{Decides-eqb, Decides-not, Decides-like, Decides-or}
use Rattle.ecode.specs.declared.sheet.Sheet.{Sheet}
use Rattle.ecode.specs.Sheets.{shares, In, Shares, owns_of, reads_of, sees_of, writes_of}

-- sets with nothing in common share no member
pub none_shared : (a b p : ℕ) → bit_and a b ≡ 0 → In p a → In p b → ⊥
none_shared a b p e x y =
    let s : bit_and (a / 2 ^ p) (b / 2 ^ p) ≡ 0 = sym (and_shr a b p) ∙ ap (λ n. n / 2 ^ p) e ∙ div-eq_of_lt (pow_pos p) in
    let t = and_step (a / 2 ^ p) (b / 2 ^ p) in
    omega (arith, t, s, x, y)

lowest : (a : ℕ) → a % 2 ≡ 1 → In 0 a
lowest a e = ap (λ n. n % 2) (div-one a) ∙ e

higher : (a p : ℕ) → In p (a / 2) → In (suc p) a
higher a p e = ap (λ n. n % 2) (ap (λ n. a / 2 ^ n) (sym (one-add p)) ∙ sym (shr-shr a 1 p)) ∙ e

meeting : (k a b : ℕ) → a ≤ k → (bit_and a b ≡ 0 → ⊥) → (p : ℕ) × In p a × In p b
meeting zero a b h n = absurd (n (ap (λ x. bit_and x b) (let z : a ≡ 0 = omega arith in z) ∙ and_zero_l b))
meeting (suc k) a b h n = elim (cases_eq (min (a % 2) (b % 2)) 1) [
  | inl e ↦ (0, lowest a (omega arith), lowest b (omega arith))
  | inr e ↦
      let t = and_step a b in
      let m = meeting k (a / 2) (b / 2) (half_le h) (λ z. n (omega arith)) in
      (suc m.0, higher a m.0 m.1, higher b m.0 m.2)
]

pub meets : (a b : ℕ) → Decides (not (eqb (bit_and a b) 0)) ((p : ℕ) × In p a × In p b)
meets a b = Decides-like (not (eqb (bit_and a b) 0)) (meeting a a b (omega arith)) (λ m e. none_shared a b m.0 e m.1 m.2)
    (Decides-not (eqb (bit_and a b) 0) (Decides-eqb (bit_and a b) 0))

pub tells_shares : (s : Sheet) (d t : ℕ) → Decides (shares s d t) (Shares s d t)
tells_shares s d t = Decides-or _ _ (meets (reads_of s d) (owns_of s t)) (meets (writes_of s d) (sees_of s t))
