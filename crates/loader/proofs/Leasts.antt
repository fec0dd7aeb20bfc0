-- The window of a task is the smallest of its releases. Assumes nothing.
use Rattle.std.proofs.Common.{◌≡◌, ℕ, zero, suc, ◌+◌, ◌<◌, ◌≤◌, cond, ◌&&◌, ◌||◌, eqb, ltb, ◌⊎◌, List, length, get_or, take, sym, refl, ap, ◌∙◌, subst, inl, inr, add-one, arith, take_all}
use Rattle.std.proofs.lemmas.Bool.{cases_eq, cases_Bool, eq-eqb, ne_eqb}
use Rattle.std.proofs.lemmas.List.Sums.{fold_more}
use Rattle.std.proofs.lemmas.Bool.Decides.{nat_tests}
use Rattle.ecode.specs.declared.code.Instruction.{Instruction}
use Rattle.ecode.specs.declared.code.Instruction.TheVariants.{Call, Release, Future, If, Jump, Return}
use Rattle.ecode.specs.declared.code.Line.{Line}
use Rattle.ecode.specs.Typing.{blank}
use Rattle.ecode.specs.Load.{lesser, window}
use Rattle.ecode.specs.Accepted.{LeastWindow}

same_task : (t x v w : ℕ) → Release x v ≡ Release t w → x ≡ t
same_task t x v w e = cc

same_window : (t x v w : ℕ) → Release x v ≡ Release t w → v ≡ w
same_window t x v w e = cc

-- an instruction that releases t, or not
lesser_cases : (t : ℕ) (i : Instruction) (best : ℕ)
    → (((v : ℕ) → i ≡ Release t v → ⊥) × (lesser t i best ≡ best))
    ⊎ ((v : ℕ) × (i ≡ Release t v) × (lesser t i best ≡ cond (eqb best 0 || ltb v best) v best))
lesser_cases t (Call d) best = inl ((λ v e. let z : ◌≡◌ {A = ℕ} 0 1 = cc in omega arith), refl)
lesser_cases t (Release x w) best = elim (cases_eq x t) [
  | inl e ↦ inr (w, ap (λ k. Release k w) e, ap (λ b. cond (b && (eqb best 0 || ltb w best)) w best) (eq-eqb x t e))
  | inr n ↦ inl ((λ v e. n (same_task t x w v e)), ap (λ b. cond (b && (eqb best 0 || ltb w best)) w best) (ne_eqb x t n))
]
lesser_cases t (Future x y z) best = inl ((λ v e. let z : ◌≡◌ {A = ℕ} 0 1 = cc in omega arith), refl)
lesser_cases t (If q y) best = inl ((λ v e. let z : ◌≡◌ {A = ℕ} 0 1 = cc in omega arith), refl)
lesser_cases t (Jump y) best = inl ((λ v e. let z : ◌≡◌ {A = ℕ} 0 1 = cc in omega arith), refl)
lesser_cases t Return best = inl ((λ v e. let z : ◌≡◌ {A = ℕ} 0 1 = cc in omega arith), refl)

record LeastTo (at : ℕ → Instruction) (n t w : ℕ) : Type 0 where
  none : w ≡ 0 → (a v : ℕ) → a < n → at a ≡ Release t v → ⊥
  some : (w ≡ 0 → ⊥) → (a : ℕ) × (a < n) × (at a ≡ Release t w)
  least : (a v : ℕ) → a < n → at a ≡ Release t v → w ≤ v

module _ (at : ℕ → Instruction) (t : ℕ) (positive : (a v : ℕ) → at a ≡ Release t v → 1 ≤ v) (n best : ℕ) (old : LeastTo at n t best) where
  -- what an instruction that releases v makes of the least
  chosen : (v r : ℕ) → 1 ≤ v → r ≡ cond (eqb best 0 || ltb v best) v best → ((r ≡ v) × ((best ≡ 0) ⊎ (v < best))) ⊎ ((r ≡ best) × (best ≡ 0 → ⊥) × (best ≤ v))
  chosen v r h e = elim (cases_Bool (eqb best 0 || ltb v best)) [
    | inl b ↦ inl (e ∙ ap (λ c. cond c v best) b, grind (arith, nat_tests))
    | inr b ↦ inr (e ∙ ap (λ c. cond c v best) b, (λ z. grind (arith, nat_tests)), grind (arith, nat_tests))
  ]

  least_more : LeastTo at (n + 1) t (lesser t (at n) best)
  least_more = elim (lesser_cases t (at n) best) [
    | inl c ↦ subst (LeastTo at (n + 1) t) (sym c.1) (record {
      none = λ z a v h e. elim (cases_eq a n) [ inl q ↦ c.0 v (ap at (sym q) ∙ e) | inr q ↦ old.none z a v (omega arith) e ];
      some = λ z. let o = old.some z in (o.0, omega (arith, o.1), o.2);
      least = λ a v h e. elim (cases_eq a n) [ inl q ↦ absurd (c.0 v (ap at (sym q) ∙ e)) | inr q ↦ old.least a v (omega arith) e ];
    })
    | inr c ↦
        let v₀ = c.0 in
        let p : 1 ≤ v₀ = positive n v₀ c.1 in
        elim (chosen v₀ (lesser t (at n) best) p c.2) [
          | inl k ↦ subst (LeastTo at (n + 1) t) (sym k.0) (record {
            none = λ z a v h e. omega arith;
            some = λ z. (n, omega arith, c.1);
            least = λ a v h e. elim (cases_eq a n) [
              | inl q ↦ let w : v₀ ≡ v = same_window t t v₀ v (sym c.1 ∙ ap at (sym q) ∙ e) in omega arith
              | inr q ↦ elim k.1 [ inl nil ↦ absurd (old.none nil a v (omega arith) e) | inr lt ↦ let le = old.least a v (omega arith) e in omega arith ]
            ];
          })
          | inr k ↦ subst (LeastTo at (n + 1) t) (sym k.0) (record {
            none = λ z. absurd (k.1 z);
            some = λ z. let o = old.some z in (o.0, omega (arith, o.1), o.2);
            least = λ a v h e. elim (cases_eq a n) [
              | inl q ↦ let w : v₀ ≡ v = same_window t t v₀ v (sym c.1 ∙ ap at (sym q) ∙ e) in omega (arith, k.2)
              | inr q ↦ old.least a v (omega arith) e
            ];
          })
        ]
  ]

module _ (ls : List Line) (t : ℕ) (positive : (a v : ℕ) → (get_or ls a blank).instruction ≡ Release t v → 1 ≤ v) where
  abbrev at : ℕ → Instruction
  at a = (get_or ls a blank).instruction

  least_to : (n : ℕ) → n ≤ length ls → LeastTo at n t (window (take n ls) t)
  unfolding window
  least_to zero h = record { none = λ z a v h e. omega arith; some = λ z. absurd (z refl); least = λ a v h e. absurd (omega arith) }
  least_to (suc n) h =
      let lt : n < length ls = h in
      let more = fold_more (λ (best : ℕ) (l : Line). lesser t l.instruction best) 0 ls n blank lt in
      subst (λ m. LeastTo at m t (window (take m ls) t)) (add-one n)
      (subst (LeastTo at (n + 1) t) (sym more) (least_more at t positive n (window (take n ls) t) (least_to n (omega arith))))

  pub window_least : LeastWindow ls t (window ls t)
  window_least =
      let all = take_all (length ls) ls (omega arith) in
      let r = subst (λ xs. LeastTo at (length ls) t (window xs t)) all (least_to (length ls) (omega arith)) in
      record { none = r.none; some = r.some; least = r.least }

  pub least_unique : (w w' : ℕ) → LeastWindow ls t w → LeastWindow ls t w' → w ≡ w'
  least_unique w w' p q = elim (cases_eq w 0) [
    | inl z ↦ elim (cases_eq w' 0) [
      | inl z' ↦ z ∙ sym z'
      | inr n' ↦ let o = q.some n' in absurd (p.none z o.0 w' o.1 o.2)
    ]
    | inr n ↦ elim (cases_eq w' 0) [
      | inl z' ↦ let o = p.some n in absurd (q.none z' o.0 w o.1 o.2)
      | inr n' ↦
          let o = p.some n in
          let o' = q.some n' in
          let a = q.least o.0 w o.1 o.2 in
          let b = p.least o'.0 w' o'.1 o'.2 in
          omega arith
    ]
  ]
