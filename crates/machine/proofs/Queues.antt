-- Sums over the waiting bindings: how many hold a task, have it released, and the ticks to its deadline. Where each holds a task
-- and none is held twice, they are no more than the tasks. A tick brings every deadline one nearer.
use lib.ListN.{length-map}
use Rattle.std.proofs.Common.{◌≡◌, ℕ, ◌+◌, ◌-◌, ◌<◌, ◌≤◌, Bool, true, false, cond, eqb, List, [], ◌∷◌, ◌++◌, map, length, Some, None, Option, refl, arith}
use Rattle.std.specs.List.{AllByRecursion}
use Rattle.std.proofs.lemmas.Bool.{eqb-true}
use Rattle.ecode.specs.declared.code.Cell.{Cell}
use Rattle.ecode.specs.declared.code.Cell.TheVariants.{NotHeld, Idle, Released}
use Rattle.ecode.specs.Load.{sum_below}
use Rattle.ecode.specs.Verdict.{Contents}
use Rattle.machine.specs.declared.binding.Binding.{Binding}
use Rattle.machine.specs.State.{size}
use Rattle.machine.specs.Runner.{Due, first_due, one_less_wait}
use Rattle.machine.proofs.Sums.{sum_add, sum_ones}
use Rattle.machine.proofs.Cells.{cell_at, held_count, released_count, due_in}

abbrev pub over_queue : (Binding → ℕ) → List Binding → ℕ
over_queue f [] = 0
over_queue f (b ∷ q) = f b + over_queue f q

pub over_push : (f : Binding → ℕ) (q : List Binding) (b : Binding) → over_queue f (q ++ (b ∷ [])) ≡ over_queue f q + f b
over_push f [] b = omega arith
over_push f (x ∷ q) b = omega (arith, over_push f q b)

pub over_append : (f : Binding → ℕ) (l r : List Binding) → over_queue f (l ++ r) ≡ over_queue f l + over_queue f r
over_append f [] r = omega arith
over_append f (b ∷ l) r = omega (arith, over_append f l r)

abbrev pub due_at : ℕ → Binding
due_at a = record { wait = 0; at = a }

-- where the due binding stood
pub record Split (q : List Binding) (d : Due) : Type 0 where
  pub l : List Binding
  pub r : List Binding
  pub was : q ≡ l ++ (due_at d.address ∷ r)
  pub rest : d.others ≡ l ++ r

zero_wait : (b : Binding) → b.wait ≡ 0 → b ≡ due_at b.at
zero_wait b e = λ i. record { wait = e i; at = b.at }

pub due_split : (q : List Binding) (d : Due) → first_due q ≡ Some d → Split q d
due_split [] d e = cc
due_split (b ∷ q) d e = go (eqb b.wait 0) refl (first_due q) refl (λ x r. due_split q x r)
  where
    go : (t : Bool) → eqb b.wait 0 ≡ t → (o : Option Due) → first_due q ≡ o → ((x : Due) → first_due q ≡ Some x → Split q x) → Split (b ∷ q) d
    go true p o r ih =
        let w = zero_wait b (eqb-true b.wait 0 p) in
        let z : record { address = b.at; others = q } ≡ d = cc in
        record { l = []; r = q; was = cc; rest = cc }
    go false p None r ih = cc
    go false p (Some x) r ih =
        let s = ih x r in
        record { l = b ∷ s.l; r = s.r; was = cc; rest = cc }

module _ (p : Contents) (t : ℕ) where
  abbrev pub held_in : List Binding → ℕ
  held_in q = over_queue (λ b. held_count (cell_at p b.at t)) q

  abbrev pub released_in : List Binding → ℕ
  released_in q = over_queue (λ b. released_count (cell_at p b.at t)) q

  abbrev pub due_ticks : List Binding → ℕ
  due_ticks q = over_queue (λ b. due_in b.wait (cell_at p b.at t)) q

pub all_left : (P : Binding → Type 0) (l r : List Binding) → AllByRecursion P (l ++ r) → AllByRecursion P l
all_left P [] r x = tt
all_left P (b ∷ l) r x = (x.0, all_left P l r x.1)

pub all_right : (P : Binding → Type 0) (l r : List Binding) → AllByRecursion P (l ++ r) → AllByRecursion P r
all_right P [] r x = x
all_right P (b ∷ l) r x = all_right P l r x.1

-- some task below n is held at the binding's address, which is in the program
pub record Placed (p : Contents) (n : ℕ) (b : Binding) : Type 0 where
  pub inside : b.at < size p
  pub some : 1 ≤ sum_below n (λ t. held_count (cell_at p b.at t))

pub held_all : (p : Contents) (n : ℕ) (q : List Binding) → AllByRecursion (Placed p n) q → length q ≤ sum_below n (λ t. held_in p t q)
held_all p n [] a = omega arith
held_all p n (b ∷ q) a =
    omega (arith, held_all p n q a.1, a.0.some, sum_add n (λ t. held_count (cell_at p b.at t)) (λ t. held_in p t q))

-- each waiting binding holds some task, and none is held twice: they are no more than the tasks
pub queue_small : (p : Contents) (n : ℕ) (q : List Binding) → AllByRecursion (Placed p n) q → ((t : ℕ) → t < n → held_in p t q ≤ 1) → length q ≤ n
queue_small p n q a one = omega (arith, held_all p n q a, sum_ones n (λ t. held_in p t q) one)

pub released_low : (p : Contents) (t : ℕ) (q : List Binding) → released_in p t q ≤ held_in p t q
released_low p t [] = omega arith
released_low p t (b ∷ q) = omega (arith, released_low p t q, cell_low (cell_at p b.at t))
  where
    cell_low : (c : Cell) → released_count c ≤ held_count c
    cell_low NotHeld = omega arith
    cell_low Idle = omega arith
    cell_low (Released c r) = omega arith

pub no_due_ticks : (p : Contents) (t : ℕ) (q : List Binding) → released_in p t q ≡ 0 → due_ticks p t q ≡ 0
no_due_ticks p t [] e = refl
no_due_ticks p t (b ∷ q) e = omega (arith, no_due_ticks p t q (omega arith), cell_none (cell_at p b.at t) (omega arith))
  where
    cell_none : (c : Cell) → released_count c ≡ 0 → due_in b.wait c ≡ 0
    cell_none NotHeld e = refl
    cell_none Idle e = refl
    cell_none (Released c r) e = omega arith

-- how many are due
abbrev pub due_count : List Binding → ℕ
due_count q = over_queue (λ b. cond (eqb b.wait 0) 1 0) q

pub due_few : (q : List Binding) → due_count q ≤ length q
due_few [] = omega arith
due_few (b ∷ q) = omega (arith, due_few q, bit_low (eqb b.wait 0))
  where
    bit_low : (t : Bool) → cond t 1 0 ≤ 1
    bit_low true = omega arith
    bit_low false = omega arith

pub none_due : (q : List Binding) → first_due q ≡ None → due_count q ≡ 0
none_due [] e = refl
none_due (b ∷ q) e = go (eqb b.wait 0) refl (first_due q) refl (λ x. none_due q x)
  where
    go : (t : Bool) → eqb b.wait 0 ≡ t → (o : Option Due) → first_due q ≡ o → (first_due q ≡ None → due_count q ≡ 0) → cond (eqb b.wait 0) 1 0 + due_count q ≡ 0
    go true p o r ih = cc
    go false p (Some x) r ih = cc
    go false p None r ih = rw p (omega (arith, ih r))

-- one tick less: a released task's deadline is one tick nearer
abbrev pub fall : List Binding → List Binding
fall q = map one_less_wait q

pub held_fall : (p : Contents) (t : ℕ) (q : List Binding) → held_in p t (fall q) ≡ held_in p t q
held_fall p t [] = refl
held_fall p t (b ∷ q) = omega (arith, held_fall p t q)

pub released_fall : (p : Contents) (t : ℕ) (q : List Binding) → released_in p t (fall q) ≡ released_in p t q
released_fall p t [] = refl
released_fall p t (b ∷ q) = omega (arith, released_fall p t q)

waits : (b : Binding) (z : ℕ) → cond (eqb b.wait 0) 1 0 + z ≡ 0 → (1 ≤ b.wait) × (z ≡ 0)
waits b z e = grind arith

-- where none is due, every binding waits
pub all_wait : (q : List Binding) → due_count q ≡ 0 → AllByRecursion (λ b. 1 ≤ b.wait) q
all_wait [] e = tt
all_wait (b ∷ q) e = let w = waits b (due_count q) e in (w.0, all_wait q w.1)

cell_fall : (c : Cell) (w d h o : ℕ) → 1 ≤ w → held_count c + h ≤ 1 → o ≤ h → (o ≡ 0 → d ≡ 0) → due_in (w - 1) c + (d - 1) ≡ due_in w c + d - 1
cell_fall NotHeld w d h o l k m n = omega arith
cell_fall Idle w d h o l k m n = omega arith
cell_fall (Released c r) w d h o l k m n = let z : d ≡ 0 = n (omega arith) in omega arith

pub due_ticks_fall : (p : Contents) (t : ℕ) (q : List Binding) → due_count q ≡ 0 → held_in p t q ≤ 1 → due_ticks p t (fall q) ≡ due_ticks p t q - 1
due_ticks_fall p t [] z o = refl
due_ticks_fall p t (b ∷ q) z o =
    let w = waits b (due_count q) z in
    omega (
      arith,
      due_ticks_fall p t q w.1 (omega arith),
      cell_fall (cell_at p b.at t) b.wait (due_ticks p t q) (held_in p t q) (released_in p t q) w.0 o (released_low p t q) (no_due_ticks p t q),
    )

pub length_fall : (q : List Binding) → length (fall q) ≡ length q
length_fall q = length-map q one_less_wait

-- a task released in a waiting binding has ticks left
pub due_ticks_left : (p : Contents) (t : ℕ) (q : List Binding) → due_count q ≡ 0 → released_in p t q ≡ 1 → 1 ≤ due_ticks p t q
due_ticks_left p t [] z o = omega arith
due_ticks_left p t (b ∷ q) z o =
    let w = waits b (due_count q) z in
    go (cell_at p b.at t) w.0 o (λ e. due_ticks_left p t q w.1 e)
  where
    go : (c : Cell) → 1 ≤ b.wait → released_count c + released_in p t q ≡ 1 → (released_in p t q ≡ 1 → 1 ≤ due_ticks p t q) → 1 ≤ due_in b.wait c + due_ticks p t q
    go NotHeld l e ih = omega (arith, ih (omega arith))
    go Idle l e ih = omega (arith, ih (omega arith))
    go (Released c r) l e ih = omega arith

pub all_fall : (p : Contents) (n : ℕ) (q : List Binding) → AllByRecursion (Placed p n) q → AllByRecursion (Placed p n) (fall q)
all_fall p n [] a = tt
all_fall p n (b ∷ q) a = (record { inside = a.0.inside; some = a.0.some }, all_fall p n q a.1)
