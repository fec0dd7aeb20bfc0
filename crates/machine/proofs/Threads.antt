-- A thread keeps what the rows say of all tasks, and under the earliest deadline it touches nothing.
use Rattle.std.proofs.Common.{◌≡◌, ℕ, zero, suc, ◌+◌, ◌-◌, ◌<◌, ◌≤◌, Bool, true, false, cond, ◌&&◌, eqb, ◌⊎◌, List, [], ◌∷◌, length, Some, None, Option, refl, subst, inl, inr, arith}
use mathlib.Core.Bool.{false≢true}
use Rattle.std.specs.List.{AllByRecursion}
use Rattle.std.proofs.ByRecursion.{All-append}
use Rattle.std.proofs.lemmas.Bool.{and_parts, ne_eqb}
use Rattle.ecode.specs.declared.code.Cell.{Cell}
use Rattle.ecode.specs.declared.code.Cell.TheVariants.{NotHeld, Idle, Released}
use Rattle.ecode.specs.declared.code.Instruction.{Instruction}
use Rattle.ecode.specs.declared.code.Instruction.TheVariants.{Call, Release, Future, If, Jump, Return}
use Rattle.ecode.specs.Sheets.{shares}
use Rattle.ecode.specs.Instructions.{target}
use Rattle.ecode.specs.Typing.{aged}
use Rattle.ecode.specs.Verdict.{Contents}
use Rattle.ecode.specs.Accepted.{Aimed, Flows, Held, Touchable, IsIdle, Typed, Ranged}
use Rattle.ecode.proofs.Meets.{tells_shares}
use Rattle.host.specs.Meaning.{Meaning}
use Rattle.machine.specs.declared.binding.Binding.{Binding}
use Rattle.machine.specs.State.{Ports, size, instruction_at, budget, Job, Table, is_pending, State}
use Rattle.machine.specs.Runner.{touched, queue_after, pending_after, next_after, performed, onward, thread}
use Rattle.machine.specs.Windows.{shares_by}
use Rattle.machine.proofs.Lowest.{lowest_some}
use Rattle.machine.proofs.Sums.{sum_at}
use Rattle.machine.proofs.Coverage.{Covered}
use Rattle.machine.proofs.Cells.{cell_at, held_count, due_in, owed, TaskSound, Moved}
use Rattle.machine.proofs.Queues.{over_push, held_in, released_in, due_ticks, Placed, queue_small, due_count}
use Rattle.machine.proofs.Clocks.{clock_after, releases, window_of, OnTime}
use Rattle.machine.proofs.Steps.{row_of, Wide, move, Match, clock_move, clock_touch, clock_again}
use Rattle.machine.proofs.Formed.{Parts, Formed, Higher, higher}
use Rattle.machine.proofs.Choosing.{pending_job}
use Rattle.machine.proofs.Coverage as cover

-- a pending task that a driver may touch is at its deadline
at_deadline : (b : ℕ) (c : Cell) (H O D : ℕ) (k : Job) → Touchable c → TaskSound b c H O D (Some k) → due_in 0 c + D ≡ 0
at_deadline b NotHeld H O D k e i = absurd e
at_deadline b Idle H O D k e i = absurd (omega arith)
at_deadline b (Released c r) H O D k e i =
    let z : r ≡ 0 = e in
    let o : O ≡ 0 = omega arith in
    let d : D ≡ 0 = i.none o in
    omega arith

-- an idle task is not pending
idle_free : (b : ℕ) (c : Cell) (H O D : ℕ) (k : Job) → IsIdle c → TaskSound b c H O D (Some k) → ⊥
idle_free b NotHeld H O D k e i = absurd e
idle_free b Idle H O D k e i = omega arith
idle_free b (Released c r) H O D k e i = absurd e

held_later : (x : ℕ) (c y : Cell) → Held c → Flows (aged x c) y → 1 ≤ held_count y
held_later x NotHeld y e f = absurd e
held_later x Idle NotHeld e f = absurd f
held_later x Idle Idle e f = omega arith
held_later x Idle (Released d s) e f = omega arith
held_later x (Released c r) NotHeld e f = absurd f
held_later x (Released c r) Idle e f = absurd f
held_later x (Released c r) (Released d s) e f = omega arith

module _ (h : Meaning) (p : Contents) (K : ℕ) (rate : ℕ → ℕ) (mark : Bool) where
  abbrev n : ℕ
  n = h.sheet.tasks

  -- the rows of the running thread and of the waiting bindings hold every task at most once, pending tasks as released, and,
  -- under an earliest choice, what is owed is covered
  pub record Sound (cur : ℕ → Cell) (q : List Binding) (f : Table) : Type 0 where
    pub tasks : (t : ℕ) → t < h.sheet.tasks → TaskSound (budget p t) (cur t) (held_in p t q) (released_in p t q) (due_ticks p t q) (f t)
    pub binds : AllByRecursion (Placed p h.sheet.tasks) q
    pub cover : mark ≡ true → Covered h.sheet.tasks K rate (λ t. due_in 0 (cur t) + due_ticks p t q) (λ t. owed (budget p t) (f t))

  module _ (pos : 1 ≤ K) (ty : Formed h.sheet p) (wide : (a : ℕ) → a < size p → Wide K rate p (instruction_at p a)) where
    late : (a : ℕ) (q : List Binding) (f : Table) → mark ≡ true → Sound (cell_at p a) q f → (t : ℕ) → t < h.sheet.tasks → (k : Job) → f t ≡ Some k →
        Touchable (cell_at p a t) → ⊥
    late a q f m s t j k e touch =
        let i = subst (λ (o : Option Job). TaskSound (budget p t) (cell_at p a t) (held_in p t q) (released_in p t q) (due_ticks p t q) o) e (s.tasks t j) in
        let z = at_deadline (budget p t) (cell_at p a t) (held_in p t q) (released_in p t q) (due_ticks p t q) k touch i in
        let o : owed (budget p t) (f t) ≡ 0 = cover.kept h.sheet.tasks K rate (λ t. due_in 0 (cell_at p a t) + due_ticks p t q) (λ t. owed (budget p t) (f t)) pos (s.cover m) t j z in
        let w : budget p t - k.used ≡ 0 = rw e at o in
        omega arith

    -- under an earliest choice no instruction touches a pending task
    free : (i : Instruction) (a : ℕ) (q : List Binding) (f : Table) → mark ≡ true → Sound (cell_at p a) q f →
        ((t : ℕ) → t < h.sheet.tasks → Typed h.sheet i t (cell_at p a t) (cell_at p (a + 1) t) (cell_at p (target i) t)) →
        Ranged h.sheet i → touched h.sheet f i ≡ None
    free (Call d) a q f m s rule range = go (touched h.sheet f (Call d)) refl
      where
        go : (o : Option ℕ) → touched h.sheet f (Call d) ≡ o → touched h.sheet f (Call d) ≡ None
        go None e = e
        go (Some t) e =
            let l = lowest_some h.sheet.tasks (λ t. shares h.sheet d t && is_pending f t) t e in
            let b = and_parts (shares h.sheet d t) (is_pending f t) l.1 in
            let v = (rule t l.0).0 ((tells_shares h.sheet d t).0 b.0) in
            let k = pending_job (f t) b.1 in
            absurd (late a q f m s t l.0 k.0 k.1 v.0)
    free (Release x w) a q f m s rule range = go (is_pending f x) refl
      where
        go : (b : Bool) → is_pending f x ≡ b → cond (is_pending f x) (Some x) None ≡ None
        go false e = rw e
        go true e =
            let j : x < h.sheet.tasks = range.0 in
            let v = (rule x j).0 refl in
            let k = pending_job (f x) e in
            absurd (idle_free (budget p x) (cell_at p a x) (held_in p x q) (released_in p x q) (due_ticks p x q) k.0 v.0
            (subst (λ (o : Option Job). TaskSound (budget p x) (cell_at p a x) (held_in p x q) (released_in p x q) (due_ticks p x q) o) k.1 (s.tasks x j)))
    free (Future x y z) a q f m s rule range = refl
    free (If c y) a q f m s rule range = refl
    free (Jump y) a q f m s rule range = refl
    free Return a q f m s rule range = refl

    room_of : (i : Instruction) (t : ℕ) → Ranged h.sheet i → releases i t ≡ true → 1 ≤ window_of i
    room_of (Call d) t e r = absurd (false≢true r)
    room_of (Release x w) t e r = e.1.0
    room_of (Future x y z) t e r = absurd (false≢true r)
    room_of (If c y) t e r = absurd (false≢true r)
    room_of (Jump y) t e r = absurd (false≢true r)
    room_of Return t e r = absurd (false≢true r)

    -- a binding made now is not due now
    due_step : (i : Instruction) (q : List Binding) → Ranged h.sheet i → due_count (queue_after i q) ≤ due_count q
    due_step (Call d) q e = omega arith
    due_step (Release x w) q e = omega arith
    due_step (If c y) q e = omega arith
    due_step (Jump y) q e = omega arith
    due_step Return q e = omega arith
    due_step (Future x y z) q e =
        let k : 1 ≤ x = e.0.0 in
        let m : eqb x 0 ≡ false = ne_eqb x 0 (λ w. omega arith) in
        let b : cond {A = ℕ} (eqb x 0) 1 0 ≡ 0 = rw m in
        omega (arith, over_push (λ b. cond (eqb b.wait 0) 1 0) q (record { wait = x; at = y }))

    -- a future's binding is in the program and holds a task
    placed : (i : Instruction) (a : ℕ) (q : List Binding) →
        ((t : ℕ) → t < h.sheet.tasks → Typed h.sheet i t (cell_at p a t) (cell_at p (a + 1) t) (cell_at p (target i) t)) →
        Parts h.sheet.tasks (cell_at p a) i → Aimed (size p) a i →
        AllByRecursion (Placed p h.sheet.tasks) q → AllByRecursion (Placed p h.sheet.tasks) (queue_after i q)
    placed (Call d) a q rule leave shape s = s
    placed (Release x w) a q rule leave shape s = s
    placed (If c y) a q rule leave shape s = s
    placed (Jump y) a q rule leave shape s = s
    placed Return a q rule leave shape s = s
    placed (Future x y z) a q rule leave shape s =
        let t = leave.0 in
        let c : 1 ≤ held_count (cell_at p y t) = held_later x (cell_at p a t) (cell_at p y t) leave.2 ((rule t leave.1).1 leave.3).2 in
        All-append (Placed p h.sheet.tasks) q (record { wait = x; at = y } ∷ []) s (
          record {
            inside = shape.1;
            some = omega (arith, sum_at h.sheet.tasks (λ t. held_count (cell_at p y t)) t leave.1);
          },
          tt,
        )

    -- one instruction, untouched
    goes_on : (a : ℕ) (v : Ports) (q : List Binding) (f : Table) → a < size p → touched h.sheet f (instruction_at p a) ≡ None → Sound (cell_at p a) q f →
        Sound (row_of p (next_after h (instruction_at p a) a v)) (queue_after (instruction_at p a) q) (pending_after (instruction_at p a) v f)
    goes_on a v q f k e s = record {
      tasks = λ t j. (moved t j).inv;
      binds = placed (instruction_at p a) a q (ty.cells a k) (ty.leaves a k) (ty.aims a k) s.binds;
      cover = λ m. cover.turn h.sheet.tasks K rate
          (λ t. due_in 0 (cell_at p a t) + due_ticks p t q) (λ t. owed (budget p t) (f t))
          (λ t. due_in 0 (row_of p (next_after h (instruction_at p a) a v) t) + due_ticks p t (queue_after (instruction_at p a) q)) (λ t. owed (budget p t) (pending_after (instruction_at p a) v f t))
          (s.cover m) (λ t j. (moved t j).load);
    }
      where
        moved : (t : ℕ) → t < h.sheet.tasks →
            Moved (shares_by h.sheet (instruction_at p a) t) K (rate t) (budget p t) (cell_at p a t) (held_in p t q) (released_in p t q) (due_ticks p t q) (f t)
            (row_of p (next_after h (instruction_at p a) a v) t) (held_in p t (queue_after (instruction_at p a) q)) (released_in p t (queue_after (instruction_at p a) q)) (due_ticks p t (queue_after (instruction_at p a) q)) (pending_after (instruction_at p a) v f t)
        moved t j = move h p K rate (instruction_at p a) a v q f t j (ty.cells a k t j) e (wide a k) (s.tasks t j)

    few_of : (cur : ℕ → Cell) (q : List Binding) (f : Table) → Sound cur q f → length q ≤ h.sheet.tasks
    few_of cur q f s = queue_small p h.sheet.tasks q s.binds (λ t k. omega (arith, (s.tasks t k).one))

    -- not stopped, the row cur at hand; c0 has the tasks' clocks at the start of the tick
    pub record Here (Z : ℕ) (c0 : ℕ → Option ℕ) (cur : ℕ → Cell) (s : State) : Type 0 where
      pub going : s.stop ≡ None
      pub rest : due_count s.queue ≤ Z
      pub sound : Sound cur s.queue s.pending
      pub clocks : (t : ℕ) → t < h.sheet.tasks → Match h p K rate t (clock_after h.sheet t (c0 t) s.log) (cur t) s.queue
      pub ontime : (t : ℕ) → t < h.sheet.tasks → OnTime h.sheet t (c0 t) s.log
      pub small : AllByRecursion (λ e. e.waiting ≤ h.sheet.tasks) s.log

    -- stopped, which an earliest choice rules out
    pub record Halted (s : State) : Type 0 where
      pub unmarked : mark ≡ true → ⊥
      pub few : length s.queue ≤ h.sheet.tasks
      pub small : AllByRecursion (λ e. e.waiting ≤ h.sheet.tasks) s.log
      pub halt : s.stop ≡ None → ⊥

    abbrev pub Ran : ℕ → (ℕ → Option ℕ) → State → Type 0
    Ran Z c0 s = Here Z c0 (λ t. NotHeld) s ⊎ Halted s

    module _ (Z : ℕ) (c0 : ℕ → Option ℕ) where
      step_here : (a : ℕ) (s : State) → a < size p → Here Z c0 (cell_at p a) s → touched h.sheet s.pending (instruction_at p a) ≡ None →
          Here Z c0 (row_of p (next_after h (instruction_at p a) a s.ports)) (performed h (instruction_at p a) a None s).state
      step_here a s k i e =
          let next = goes_on a s.ports s.queue s.pending k e i.sound in
          record {
            going = i.going;
            rest = omega (arith, i.rest, due_step (instruction_at p a) s.queue (ty.ranges a k));
            sound = next;
            clocks = λ t j. clock_move h p K rate (instruction_at p a) a s.ports s.queue s.pending t (clock_after h.sheet t (c0 t) s.log) j (ty.cells a k t j) e (wide a k) (i.sound.tasks t j) (i.clocks t j);
            ontime = λ t j. (
              i.ontime t j,
              record {
                met = clock_touch h p K rate (instruction_at p a) a s.ports s.queue s.pending t (clock_after h.sheet t (c0 t) s.log) j (ty.cells a k t j) e (wide a k) (i.sound.tasks t j) (i.clocks t j);
                again = clock_again h p K rate (instruction_at p a) a s.queue (s.pending t) t (clock_after h.sheet t (c0 t) s.log) (ty.cells a k t j) (i.sound.tasks t j) (i.clocks t j);
                room = room_of (instruction_at p a) t (ty.ranges a k);
                range = ty.ranges a k;
              },
            );
            small = (few_of (row_of p (next_after h (instruction_at p a) a s.ports)) (queue_after (instruction_at p a) s.queue) (pending_after (instruction_at p a) s.ports s.pending) next, i.small);
          }

      step_halt : (a : ℕ) (s : State) (t : ℕ) → a < size p → Here Z c0 (cell_at p a) s → touched h.sheet s.pending (instruction_at p a) ≡ Some t →
          Halted (performed h (instruction_at p a) a (Some t) s).state
      step_halt a s t k i e = record {
        unmarked = λ m. (let z = free (instruction_at p a) a s.queue s.pending m i.sound (ty.cells a k) (ty.ranges a k) in cc);
        few = few_of (cell_at p a) s.queue s.pending i.sound;
        small = (few_of (cell_at p a) s.queue s.pending i.sound, i.small);
        halt = λ z. (cc);
      }

      pub thread_ran : (turns a : ℕ) (s : State) → size p ≤ a + turns → a < size p → Here Z c0 (cell_at p a) s → Ran Z c0 (thread h p turns a s)
      thread_ran zero a s l k i = absurd (omega arith)
      thread_ran (suc turns) a s l k i =
          go (touched h.sheet s.pending (instruction_at p a)) refl (λ b s' x y z. thread_ran turns b s' x y z)
        where
          onto : (o : Option ℕ) (s' : State) → Higher p a o → Here Z c0 (row_of p o) s' →
              ((b : ℕ) (s' : State) → size p ≤ b + turns → b < size p → Here Z c0 (cell_at p b) s' → Ran Z c0 (thread h p turns b s')) →
              Ran Z c0 (onward (thread h p turns) s' o)
          onto None s' up j ih = inl j
          onto (Some b) s' up j ih = ih b s' (omega arith) up.1 j

          go : (o : Option ℕ) → touched h.sheet s.pending (instruction_at p a) ≡ o →
              ((b : ℕ) (s' : State) → size p ≤ b + turns → b < size p → Here Z c0 (cell_at p b) s' → Ran Z c0 (thread h p turns b s')) →
              Ran Z c0 (onward (thread h p turns) (performed h (instruction_at p a) a (touched h.sheet s.pending (instruction_at p a)) s).state
              (performed h (instruction_at p a) a (touched h.sheet s.pending (instruction_at p a)) s).next)
          go None e ih = rw e (onto (next_after h (instruction_at p a) a s.ports) (performed h (instruction_at p a) a None s).state (higher h p (instruction_at p a) a s.ports (ty.aims a k)) (step_here a s k i e) ih)
          go (Some t) e ih = rw e (inr (step_halt a s t k i e))
