-- The first program of a bench, a lone return, is accepted for every sheet.
use Rattle.std.proofs.Common.{◌≡◌, ℕ, zero, suc, ◌+◌, ◌-◌, ◌*◌, ◌<◌, ◌≤◌, Bool, true, false, cond, eqb, ltb, List, [], ◌∷◌, ◌++◌, length, get_or, drop, replicate, sym, refl, ap, ◌∙◌, subst, inl, inr, arith, length-append, length-drop}
use lib.ListN.{length-replicate, get_or-replicate}
use Rattle.std.proofs.lemmas.Bool.{cases_eq, cases_lt, lt-ltb, le-ltb, ltb-true}
use Rattle.std.proofs.lemmas.List.{get_or_past, get_or_append_left, get_or-append-add, get_or-drop}
use Rattle.ecode.specs.declared.sheet.Sheet.{Sheet}
use Rattle.ecode.specs.declared.code.Cell.{Cell}
use Rattle.ecode.specs.declared.code.Cell.TheVariants.{NotHeld, Idle}
use Rattle.ecode.specs.declared.code.Instruction.TheVariants.{Release, Return}
use Rattle.ecode.specs.declared.code.Line.{Line}
use Rattle.ecode.specs.Instructions.{target}
use Rattle.ecode.specs.Image.{listed}
use Rattle.ecode.specs.Typing.{cell, blank}
use Rattle.ecode.specs.Load.{sum_below, product_below, part, width, without}
use Rattle.ecode.specs.Accepted.{Ticks, Held, IsReleased, CellRanged, Ranged, KeepsFewer, Aimed, Typed, LeastWindow, Accepted, lone_return}
use Rattle.ecode.proofs.Lists.{filled, length_listed, getD_listed}
use Rattle.loader.proofs.Shares.{sum_cong}

-- idle cells as far as there are tasks
pub idle_front : (n : ℕ) → n ≤ 8 → replicate n Idle ++ drop n (replicate 8 NotHeld) ≡ listed 8 (λ t. cond (ltb t n) Idle NotHeld)
idle_front n h =
    let rest = drop n (replicate 8 NotHeld) in
    let row = replicate n Idle ++ rest in
    let long : length row ≡ 8 = simp (length-append, length-replicate, length-drop) (omega arith) in
    filled 8 (λ t. cond (ltb t n) Idle NotHeld) row NotHeld long (λ k few. elim (cases_lt k n) [
      | inl l ↦
          let here : k < length (replicate n Idle) = simp length-replicate l in
          get_or_append_left (replicate n Idle) rest NotHeld k here ∙ get_or-replicate n k Idle NotHeld l ∙ sym (ap (λ b. cond b Idle NotHeld) (lt-ltb k n l))
      | inr l ↦
          let at : k ≡ length (replicate n Idle) + (k - n) = simp length-replicate (omega arith) in
          ap (λ i. get_or row i NotHeld) at ∙ get_or-append-add (replicate n Idle) rest (k - n) NotHeld ∙ get_or-drop n (replicate 8 NotHeld) (k - n) NotHeld
          ∙ get_or-replicate 8 (n + (k - n)) NotHeld NotHeld (omega arith) ∙ sym (ap (λ b. cond b Idle NotHeld) (le-ltb k n l))
    ])

zeros : (n : ℕ) → sum_below n (λ _. 0) ≡ 0
unfolding sum_below
zeros zero = refl
zeros (suc n) = ap (λ a. a + 0) (zeros n)

module _ (s : Sheet) where
  abbrev idle_cell : ℕ → Cell
  idle_cell t = cond (ltb t s.tasks) Idle NotHeld

  abbrev bare : Line
  bare = record { instruction = Return; row = listed 8 idle_cell }

  abbrev it : List Line
  it = bare ∷ []

  -- tasks from T on, and from 8 on, are not held
  idles : (t : ℕ) → cell bare t ≡ idle_cell t
  idles t = elim (cases_lt t 8) [
    | inl h ↦ getD_listed 8 idle_cell t NotHeld h
    | inr h ↦
        let long = length_listed 8 idle_cell in
        let few = s.few_tasks in
        get_or_past (listed 8 idle_cell) t NotHeld (omega arith) ∙ sym (ap (λ b. cond b Idle NotHeld) (le-ltb t s.tasks (omega arith)))
  ]

  celled : (t : ℕ) (b : Bool) → (b ≡ true → t < s.tasks) → CellRanged s.tasks t (cond b Idle NotHeld)
  celled t true h = h refl
  celled t false h = tt

  calm : (b : Bool) → IsReleased (cond b Idle NotHeld) → ⊥
  calm true r = r
  calm false r = r

  pub lone_accepted : Accepted s (lone_return s)
  lone_accepted = record {
    bounds = record {
      starts = omega arith;
      few = omega arith;
      ranges = λ a h. at (λ l. Ranged s l.instruction) a h tt;
      addresses = λ a h. at0 a h;
      rows = λ a t h k. at (λ l. CellRanged s.tasks t (cell l t)) a h (subst (CellRanged s.tasks t) (sym (idles t)) (celled t (ltb t s.tasks) (ltb-true t s.tasks)));
    };
    typing = record {
      cells = λ a t h k. quiet a t h;
      futures = λ a h. at (λ l. KeepsFewer l.instruction l.row) a h tt;
      start = λ t k. subst Held (sym (idles t ∙ ap (λ b. cond b Idle NotHeld) (lt-ltb t s.tasks k))) tt;
    };
    load = record {
      budgets = length-replicate s.tasks 1;
      ticks = λ t h. subst Ticks (sym (get_or-replicate s.tasks t 1 0 h)) (omega arith, omega arith);
      sum = λ win least.
          let none = sum_cong s.tasks (part s.tasks win (λ t. get_or (replicate s.tasks 1) t 0)) (λ _. 0) (λ t h. idle_part win t (unreleased win t (least t h))) ∙ zeros s.tasks in
          omega arith;
    };
  }
    where
      at : (P : Line → Type 0) (a : ℕ) → a < 1 → P bare → P (get_or it a blank)
      at P zero h p = p
      at P (suc a) h p = absurd (omega arith)

      at0 : (a : ℕ) → a < 1 → Aimed 1 a (get_or it a blank).instruction
      at0 zero h = tt
      at0 (suc a) h = absurd (omega arith)

      quiet : (a t : ℕ) → a < 1 → Typed s (get_or it a blank).instruction t (cell (get_or it a blank) t) (cell (get_or it (a + 1) blank) t) (cell (get_or it (target (get_or it a blank).instruction) blank) t)
      quiet zero t h = λ r. calm (ltb t s.tasks) (subst IsReleased (idles t) r)
      quiet (suc a) t h = absurd (omega arith)

      lie : (t v : ℕ) → Return ≡ Release t v → ◌≡◌ {A = ℕ} 0 1
      lie t v e = cc

      unreleased : (win : ℕ → ℕ) (t : ℕ) → LeastWindow it t (win t) → win t ≡ 0
      unreleased win t l = elim (cases_eq (win t) 0) [
        | inl z ↦ z
        | inr n ↦ let o = l.some n in let z = lie t (win t) (sym (at (λ m. m.instruction ≡ Return) o.0 o.1 refl) ∙ o.2) in absurd (omega arith)
      ]

      idle_part : (win : ℕ → ℕ) (t : ℕ) → win t ≡ 0 → part s.tasks win (λ t. get_or (replicate s.tasks 1) t 0) t ≡ 0
      idle_part win t e = ap (λ w. cond (eqb w 0) 0 (get_or (replicate s.tasks 1) t 0 * product_below s.tasks (without (width win) t))) e
