-- One instruction that touches nothing keeps what the rows say of a task, and the task's clock says what its row does.
use Rattle.std.proofs.Common.{◌≡◌, ℕ, ◌+◌, ◌*◌, ◌/◌, ◌%◌, ◌^◌, ◌<◌, ◌≤◌, Bool, true, false, cond, eqb, ◌⊎◌, List, is_some, Some, None, Option, sym, refl, ap, ◌∙◌, subst, inl, inr, true≢false, arith}
use mathlib.Core.Bool.{false≢true}
use Rattle.std.proofs.lemmas.Bool.{cases_eq, eqb-true, eqb-false}
use Rattle.ecode.specs.declared.sheet.Sheet.{Sheet}
use Rattle.ecode.specs.declared.code.Cell.{Cell}
use Rattle.ecode.specs.declared.code.Cell.TheVariants.{NotHeld, Idle, Released}
use Rattle.ecode.specs.declared.code.Instruction.{Instruction}
use Rattle.ecode.specs.declared.code.Instruction.TheVariants.{Call, Release, Future, If, Jump, Return}
use Rattle.ecode.specs.Sheets.{In, shares, Shares}
use Rattle.ecode.specs.Instructions.{target}
use Rattle.ecode.specs.Verdict.{Contents}
use Rattle.ecode.specs.Accepted.{IsIdle, Typed}
use Rattle.ecode.proofs.Meets.{tells_shares}
use Rattle.host.specs.Meaning.{Meaning}
use Rattle.machine.specs.declared.binding.Binding.{Binding}
use Rattle.machine.specs.State.{Ports, budget, Job, Table, is_pending}
use Rattle.machine.specs.Runner.{touched, queue_after, pending_after, next_after}
use Rattle.machine.specs.Windows.{shares_by}
use Rattle.machine.proofs.Lowest.{not_touched}
use Rattle.machine.proofs.Cells.{cell_at, held_count, released_count, due_in, TaskSound, Moved, along, touches, starts, keeps, sends, returns}
use Rattle.machine.proofs.Queues.{over_push, held_in, released_in, due_ticks}
use Rattle.machine.proofs.Clocks.{clocked, releases}

-- the row where the thread goes on; none holds anything after a return
abbrev pub row_of : Contents → Option ℕ → ℕ → Cell
row_of p None t = NotHeld
row_of p (Some a) t = cell_at p a t

-- the window of a release covers the budget
abbrev pub Wide : ℕ → (ℕ → ℕ) → Contents → Instruction → Type 0
Wide K rate p (Call d) = Unit {0}
Wide K rate p (Release x w) = (1 ≤ budget p x) × (K * budget p x ≤ rate x * w)
Wide K rate p (Future x a z) = Unit {0}
Wide K rate p (If q a) = Unit {0}
Wide K rate p (Jump a) = Unit {0}
Wide K rate p Return = Unit {0}

not_some : (o : Option Job) → is_some o ≡ false → o ≡ None
not_some None e = refl
not_some (Some k) e = absurd (true≢false e)

not_shared : (s : Sheet) (d t : ℕ) → shares s d t ≡ false → Shares s d t → ⊥
not_shared s d t e x = true≢false (sym ((tells_shares s d t).1 x) ∙ e)

module _ (h : Meaning) (p : Contents) (K : ℕ) (rate : ℕ → ℕ) where
  abbrev pub At : ℕ → Cell → List Binding → Option Job → Type 0
  At t c q k = TaskSound (budget p t) c (held_in p t q) (released_in p t q) (due_ticks p t q) k

  abbrev pub Goes : Bool → ℕ → Cell → List Binding → Option Job → Cell → List Binding → Option Job → Type 0
  Goes b t c q k c' q' k' = Moved b K (rate t) (budget p t) c (held_in p t q) (released_in p t q) (due_ticks p t q) k c' (held_in p t q') (released_in p t q') (due_ticks p t q') k'

  pub move : (i : Instruction) (a : ℕ) (v : Ports) (q : List Binding) (f : Table) (t : ℕ) → t < h.sheet.tasks →
      Typed h.sheet i t (cell_at p a t) (cell_at p (a + 1) t) (cell_at p (target i) t) →
      touched h.sheet f i ≡ None → Wide K rate p i → At t (cell_at p a t) q (f t) →
      Goes (shares_by h.sheet i t) t (cell_at p a t) q (f t) (row_of p (next_after h i a v) t) (queue_after i q) (pending_after i v f t)
  move (Call d) a v q f t k rule free wide inv = go (shares h.sheet d t) refl
    where
      go : (b : Bool) → shares h.sheet d t ≡ b → Goes (shares h.sheet d t) t (cell_at p a t) q (f t) (cell_at p (a + 1) t) q (f t)
      go true e =
          let s = rule.0 ((tells_shares h.sheet d t).0 e) in
          let w = not_some (f t) (not_touched h.sheet d f t k free e) in
          rw e (touches K (rate t) (budget p t) (held_in p t q) (released_in p t q) (due_ticks p t q) (f t) (cell_at p a t) (cell_at p (a + 1) t) s.0 s.1 w inv)
      go false e =
          rw e (along K (rate t) (budget p t) (held_in p t q) (released_in p t q) (due_ticks p t q) (f t) (cell_at p a t) (cell_at p (a + 1) t) (rule.1 (not_shared h.sheet d t e)) inv)
  move (Release x w) a v q f t k rule free wide inv = go (eqb t x) refl
    where
      go : (b : Bool) → eqb t x ≡ b → Goes false t (cell_at p a t) q (f t) (cell_at p (a + 1) t) q (cond (eqb t x) (Some (record { left = w; used = 0; taken = v })) (f t))
      go true e =
          let s = rule.0 (eqb-true t x e) in
          let u : x ≡ t = sym (eqb-true t x e) in
          let z : (1 ≤ budget p t) × (K * budget p t ≤ rate t * w) = subst (λ (y : ℕ). (1 ≤ budget p y) × (K * budget p y ≤ rate y * w)) u wide in
          rw e (starts K (rate t) (budget p t) (held_in p t q) (released_in p t q) (due_ticks p t q) (f t) (cell_at p a t) (cell_at p (a + 1) t) w v z.0 z.1 s.0 s.1 inv).0
      go false e =
          rw e (along K (rate t) (budget p t) (held_in p t q) (released_in p t q) (due_ticks p t q) (f t) (cell_at p a t) (cell_at p (a + 1) t) (rule.1 (eqb-false t x e)) inv)
  move (Future x y z) a v q f t k rule free wide inv =
      rw (
        over_push (λ b. held_count (cell_at p b.at t)) q (record { wait = x; at = y }),
        over_push (λ b. released_count (cell_at p b.at t)) q (record { wait = x; at = y }),
        over_push (λ b. due_in b.wait (cell_at p b.at t)) q (record { wait = x; at = y }),
      )
      (go (cases_eq (z / 2 ^ t % 2) 1))
    where
      go : In t z ⊎ (In t z → ⊥) → Moved false K (rate t) (budget p t) (cell_at p a t) (held_in p t q) (released_in p t q) (due_ticks p t q) (f t)
          (cell_at p (a + 1) t) (held_in p t q + held_count (cell_at p y t)) (released_in p t q + released_count (cell_at p y t)) (due_ticks p t q + due_in x (cell_at p y t)) (f t)
      go (inl e) =
          let s = rule.0 e in
          keeps K (rate t) (budget p t) (held_in p t q) (released_in p t q) (due_ticks p t q) (f t) (cell_at p a t) (cell_at p (a + 1) t) (cell_at p y t) x s.1 s.2 inv
      go (inr e) =
          let s = rule.1 e in
          sends K (rate t) (budget p t) (held_in p t q) (released_in p t q) (due_ticks p t q) (f t) (cell_at p a t) (cell_at p (a + 1) t) (cell_at p y t) x s.0 s.1 s.2 inv
  move (If c y) a v q f t k rule free wide inv = go (h.test c v)
    where
      go : (b : Bool) → Goes false t (cell_at p a t) q (f t) (cell_at p (cond b y (a + 1)) t) q (f t)
      go true =
          along K (rate t) (budget p t) (held_in p t q) (released_in p t q) (due_ticks p t q) (f t) (cell_at p a t) (cell_at p y t) rule.1 inv
      go false =
          along K (rate t) (budget p t) (held_in p t q) (released_in p t q) (due_ticks p t q) (f t) (cell_at p a t) (cell_at p (a + 1) t) rule.0 inv
  move (Jump y) a v q f t k rule free wide inv =
      along K (rate t) (budget p t) (held_in p t q) (released_in p t q) (due_ticks p t q) (f t) (cell_at p a t) (cell_at p y t) rule inv
  move Return a v q f t k rule free wide inv =
      returns K (rate t) (budget p t) (held_in p t q) (released_in p t q) (due_ticks p t q) (f t) (cell_at p a t) rule inv

  -- the clock says what the rows say
  abbrev pub Match : ℕ → Option ℕ → Cell → List Binding → Type 0
  Match t None c q = Unit {0}
  Match t (Some d) c q = (released_count c + released_in p t q ≡ 1) × (due_in 0 c + due_ticks p t q ≡ d)

  match_goes : (t : ℕ) (o : Option ℕ) (c c' : Cell) (q q' : List Binding) (k k' : Option Job) → Goes false t c q k c' q' k' → Match t o c q → Match t o c' q'
  match_goes t None c c' q q' k k' m x = tt
  match_goes t (Some d) c c' q q' k k' m x = let s = m.stays refl x.0 in (s.0, omega arith)

  match_touch : (t : ℕ) (o : Option ℕ) (b : Bool) (c c' : Cell) (q q' : List Binding) (k k' : Option Job) → Goes b t c q k c' q' k' → b ≡ true → Match t o c q →
      (o ≡ None) ⊎ (o ≡ Some 0)
  match_touch t None b c c' q q' k k' m e x = inl refl
  match_touch t (Some d) b c c' q q' k k' m e x =
      let z : d ≡ 0 = omega (arith, m.meets e x.0) in
      inr (ap (λ (n : ℕ). Some n) z)

  pub clock_move : (i : Instruction) (a : ℕ) (v : Ports) (q : List Binding) (f : Table) (t : ℕ) (o : Option ℕ) → t < h.sheet.tasks →
      Typed h.sheet i t (cell_at p a t) (cell_at p (a + 1) t) (cell_at p (target i) t) →
      touched h.sheet f i ≡ None → Wide K rate p i → At t (cell_at p a t) q (f t) → Match t o (cell_at p a t) q →
      Match t (clocked h.sheet t i o) (row_of p (next_after h i a v) t) (queue_after i q)
  clock_move (Call d) a v q f t o k rule free wide inv m = go (shares h.sheet d t) refl (move (Call d) a v q f t k rule free wide inv)
    where
      go : (b : Bool) → shares h.sheet d t ≡ b → Goes (shares h.sheet d t) t (cell_at p a t) q (f t) (cell_at p (a + 1) t) q (f t) →
          Match t (cond (shares h.sheet d t) None o) (cell_at p (a + 1) t) q
      go true e g = rw e tt
      go false e g = rw e (match_goes t o (cell_at p a t) (cell_at p (a + 1) t) q q (f t) (f t) (rw e at g) m)
  clock_move (Release x w) a v q f t o k rule free wide inv m = go (eqb t x) refl (move (Release x w) a v q f t k rule free wide inv)
    where
      go : (b : Bool) → eqb t x ≡ b → Goes false t (cell_at p a t) q (f t) (cell_at p (a + 1) t) q (pending_after (Release x w) v f t) →
          Match t (cond (eqb t x) (Some w) o) (cell_at p (a + 1) t) q
      go true e g =
          let s = rule.0 (eqb-true t x e) in
          let u : x ≡ t = sym (eqb-true t x e) in
          let z : (1 ≤ budget p t) × (K * budget p t ≤ rate t * w) = subst (λ (y : ℕ). (1 ≤ budget p y) × (K * budget p y ≤ rate y * w)) u wide in
          let y = starts K (rate t) (budget p t) (held_in p t q) (released_in p t q) (due_ticks p t q) (f t) (cell_at p a t) (cell_at p (a + 1) t) w v z.0 z.1 s.0 s.1 inv in
          rw e (y.1, y.2)
      go false e g = rw e (match_goes t o (cell_at p a t) (cell_at p (a + 1) t) q q (f t) (pending_after (Release x w) v f t) g m)
  clock_move (Future x y z) a v q f t o k rule free wide inv m =
      match_goes t o (cell_at p a t) (cell_at p (a + 1) t) q (queue_after (Future x y z) q) (f t) (f t) (move (Future x y z) a v q f t k rule free wide inv) m
  clock_move (If c y) a v q f t o k rule free wide inv m =
      match_goes t o (cell_at p a t) (row_of p (next_after h (If c y) a v) t) q q (f t) (f t) (move (If c y) a v q f t k rule free wide inv) m
  clock_move (Jump y) a v q f t o k rule free wide inv m =
      match_goes t o (cell_at p a t) (cell_at p y t) q q (f t) (f t) (move (Jump y) a v q f t k rule free wide inv) m
  clock_move Return a v q f t o k rule free wide inv m =
      match_goes t o (cell_at p a t) NotHeld q q (f t) (f t) (move Return a v q f t k rule free wide inv) m

  -- a call that shares with it finds it at the end of its window, and not pending
  pub clock_touch : (i : Instruction) (a : ℕ) (v : Ports) (q : List Binding) (f : Table) (t : ℕ) (o : Option ℕ) → t < h.sheet.tasks →
      Typed h.sheet i t (cell_at p a t) (cell_at p (a + 1) t) (cell_at p (target i) t) →
      touched h.sheet f i ≡ None → Wide K rate p i → At t (cell_at p a t) q (f t) → Match t o (cell_at p a t) q →
      shares_by h.sheet i t ≡ true → ((o ≡ None) ⊎ (o ≡ Some 0)) × (is_pending f t ≡ false)
  clock_touch i a v q f t o k rule free wide inv m e = (
    match_touch t o (shares_by h.sheet i t) (cell_at p a t) (row_of p (next_after h i a v) t) q (queue_after i q) (f t) (pending_after i v f t) (move i a v q f t k rule free wide inv) e m,
    untouched i f t k free e,
  )
    where
      untouched : (i : Instruction) (f : Table) (t : ℕ) → t < h.sheet.tasks → touched h.sheet f i ≡ None → shares_by h.sheet i t ≡ true → is_pending f t ≡ false
      untouched (Call d) f t k free e = not_touched h.sheet d f t k free e
      untouched (Release x w) f t k free e = absurd (false≢true e)
      untouched (Future x y z) f t k free e = absurd (false≢true e)
      untouched (If c y) f t k free e = absurd (false≢true e)
      untouched (Jump y) f t k free e = absurd (false≢true e)
      untouched Return f t k free e = absurd (false≢true e)

  -- a released task is not released again
  pub clock_again : (i : Instruction) (a : ℕ) (q : List Binding) (k : Option Job) (t : ℕ) (o : Option ℕ) →
      Typed h.sheet i t (cell_at p a t) (cell_at p (a + 1) t) (cell_at p (target i) t) → At t (cell_at p a t) q k → Match t o (cell_at p a t) q →
      releases i t ≡ true → o ≡ None
  clock_again (Call d) a q k t o rule inv m e = absurd (false≢true e)
  clock_again (Release x w) a q k t o rule inv m e =
      go (cell_at p a t) o (rule.0 (eqb-true t x e)).0 inv m
    where
      go : (c : Cell) (o : Option ℕ) → IsIdle c → At t c q k → Match t o c q → o ≡ None
      go c None e i m = refl
      go NotHeld (Some d) e i m = absurd e
      go Idle (Some d) e i m = absurd (omega arith)
      go (Released b r) (Some d) e i m = absurd e
  clock_again (Future x y z) a q k t o rule inv m e = absurd (false≢true e)
  clock_again (If c y) a q k t o rule inv m e = absurd (false≢true e)
  clock_again (Jump y) a q k t o rule inv m e = absurd (false≢true e)
  clock_again Return a q k t o rule inv m e = absurd (false≢true e)
