-- A tick keeps what the rows say, or stops the run: under the earliest deadline only by a budget used up. So do the begin of a run
-- and the end of a task.
use Rattle.std.proofs.Common.{◌≡◌, ℕ, zero, suc, ◌+◌, ◌-◌, ◌<◌, ◌≤◌, Bool, true, false, cond, eqb, ◌⊎◌, List, [], ◌∷◌, ◌++◌, length, ℤ, is_some, Some, None, Option, sym, refl, ap, ◌∙◌, subst, inl, inr, ⊎_elim, true≢false, arith}
use mathlib.Core.Bool.{false≢true}
use Rattle.std.specs.List.{AllByRecursion}
use Rattle.std.proofs.ByRecursion.{All-append}
use Rattle.std.proofs.lemmas.Bool.{eqb-true, eq-eqb, leb-true, leb-false}
use Rattle.ecode.specs.declared.code.Cell.{Cell}
use Rattle.ecode.specs.declared.code.Cell.TheVariants.{NotHeld, Idle, Released}
use Rattle.ecode.specs.Load.{sum_below}
use Rattle.ecode.specs.Verdict.{Contents}
use Rattle.ecode.specs.Accepted.{Held}
use Rattle.host.specs.Meaning.{Meaning}
use Rattle.policy.specs.Choice.{Choice}
use Rattle.machine.specs.declared.binding.Binding.{Binding}
use Rattle.machine.specs.declared.stop.Stop.{Stop}
use Rattle.machine.specs.State.{Ports, size, instruction_at, budget, Job, Table, is_pending, State, fresh}
use Rattle.machine.specs.Runner.{changed, thread, Due, first_due, with_queue, threads_on, unless_stopped, threads, one_more_used, charged, spent, exhausted, one_less_left, kinds_of, put_readings, runs, tick_on, tick, finish, done}
use Rattle.machine.specs.Choices.{pending_tasks}
use Rattle.machine.proofs.Stops.{unless_going, threads_halt}
use Rattle.machine.proofs.Sums.{sum_at}
use Rattle.machine.proofs.Coverage.{Covered, Paid, Earliest}
use Rattle.machine.proofs.Cells.{cell_at, held_count, released_count, due_in, owed, TaskSound, pends_at}
use Rattle.machine.proofs.Queues.{over_queue, over_append, due_at, Split, due_split, held_in, released_in, due_ticks, all_left, all_right, Placed, queue_small, released_low, no_due_ticks, due_count, due_few, none_due, fall, held_fall, released_fall, due_ticks_fall, length_fall, due_ticks_left, all_fall}
use Rattle.machine.proofs.Clocks.{clock_after, one_tick_less, OnTime}
use Rattle.machine.proofs.Steps.{Wide, Match}
use Rattle.machine.proofs.Formed.{Formed}
use Rattle.machine.proofs.Threads.{Sound, Here, Halted, thread_ran}
use Rattle.machine.proofs.Choosing.{ticks_left, chosen, earliest}
use Rattle.machine.proofs.Coverage as cover

-- taking the due binding out of a sum over the queue
split_sum : (f : Binding → ℕ) (q : List Binding) (d : Due) → Split q d → over_queue f q ≡ f (due_at d.address) + over_queue f d.others
split_sum f q d s =
    let a : over_queue f q ≡ over_queue f (s.l ++ (due_at d.address ∷ s.r)) = ap (over_queue f) s.was in
    let b : over_queue f d.others ≡ over_queue f (s.l ++ s.r) = ap (over_queue f) s.rest in
    omega (arith, over_append f s.l (due_at d.address ∷ s.r), over_append f s.l s.r)

pub split_all : (P : Binding → Type 0) (q : List Binding) (d : Due) → Split q d → AllByRecursion P q → P (due_at d.address) × AllByRecursion P d.others
split_all P q d s a =
    let b : AllByRecursion P (s.l ++ (due_at d.address ∷ s.r)) = subst (AllByRecursion P) s.was a in
    let r = all_right P s.l (due_at d.address ∷ s.r) b in
    let l = all_left P s.l (due_at d.address ∷ s.r) b in
    (r.0, subst (AllByRecursion P) (sym s.rest) (All-append P s.l s.r l r.1))

cover_same : (n K : ℕ) (rate left rem left' rem' : ℕ → ℕ) → ((t : ℕ) → t < n → left' t ≡ left t) → ((t : ℕ) → t < n → rem' t ≤ rem t) →
    Covered n K rate left rem → Covered n K rate left' rem'
cover_same n K rate left rem left' rem' e f c = cover.turn n K rate left rem left' rem' c (λ t k. inl (e t k, f t k))

pub cond_none : (b : Bool) (i : ℕ) → cond b (Some i) None ≡ None → b ≡ false
cond_none true i e = cc
cond_none false i e = refl

match_same : (h : Meaning) (p : Contents) (K : ℕ) (rate : ℕ → ℕ) (t : ℕ) (o : Option ℕ) (c c' : Cell) (q q' : List Binding) →
    released_count c + released_in p t q ≡ released_count c' + released_in p t q' → due_in 0 c + due_ticks p t q ≡ due_in 0 c' + due_ticks p t q' → Match h p K rate t o c q → Match h p K rate t o c' q'
match_same h p K rate t None c c' q q' e f m = tt
match_same h p K rate t (Some d) c c' q q' e f m = (omega arith, omega arith)

module _ (h : Meaning) (p : Contents) (K : ℕ) (rate : ℕ → ℕ) (mark : Bool) (pos : 1 ≤ K) (ty : Formed h.sheet p) (wide : (a : ℕ) → a < size p → Wide K rate p (instruction_at p a)) where
  abbrev Now : ℕ → (ℕ → Option ℕ) → (ℕ → Cell) → State → Type 0
  Now Z c0 cur s = Here h p K rate mark pos ty wide Z c0 cur s

  abbrev Halt : State → Type 0
  Halt s = Halted h p K rate mark pos ty wide s

  -- the due binding's thread begins
  begins : (Z : ℕ) (c0 : ℕ → Option ℕ) (s : State) (d : Due) → first_due s.queue ≡ Some d → Now (suc Z) c0 (λ t. NotHeld) s →
      Now Z c0 (cell_at p d.address) (with_queue s d.others) × (d.address < size p)
  begins Z c0 s d e i = (
    record {
      going = i.going;
      rest = omega (arith, i.rest, split_sum (λ b. cond (eqb b.wait 0) 1 0) s.queue d sp);
      sound = record {
        tasks = λ t k. at t (i.sound.tasks t k);
        binds = (split_all (Placed p h.sheet.tasks) s.queue d sp i.sound.binds).1;
        cover = λ m. cover_same h.sheet.tasks K rate (λ t. 0 + due_ticks p t s.queue) (λ t. owed (budget p t) (s.pending t))
            (λ t. due_in 0 (cell_at p d.address t) + due_ticks p t d.others) (λ t. owed (budget p t) (s.pending t))
            (λ t k. omega (arith, split_sum (λ b. due_in b.wait (cell_at p b.at t)) s.queue d sp)) (λ t k. omega arith) (i.sound.cover m);
      };
      clocks = λ t k. match_same h p K rate t (clock_after h.sheet t (c0 t) s.log) NotHeld (cell_at p d.address t) s.queue d.others
          (omega (arith, split_sum (λ b. released_count (cell_at p b.at t)) s.queue d sp))
          (omega (arith, split_sum (λ b. due_in b.wait (cell_at p b.at t)) s.queue d sp)) (i.clocks t k);
      ontime = i.ontime;
      small = i.small;
    },
    (split_all (Placed p h.sheet.tasks) s.queue d sp i.sound.binds).0.inside,
  )
    where
      sp : Split s.queue d
      sp = due_split s.queue d e

      at : (t : ℕ) → TaskSound (budget p t) NotHeld (held_in p t s.queue) (released_in p t s.queue) (due_ticks p t s.queue) (s.pending t) →
          TaskSound (budget p t) (cell_at p d.address t) (held_in p t d.others) (released_in p t d.others) (due_ticks p t d.others) (s.pending t)
      at t j = record {
        one = omega (arith, j.one, split_sum (λ b. held_count (cell_at p b.at t)) s.queue d sp);
        low = released_low p t d.others;
        none = no_due_ticks p t d.others;
        pending = pends_at (budget p t) (s.pending t) (0 + released_in p t s.queue) (0 + due_ticks p t s.queue)
            (released_count (cell_at p d.address t) + released_in p t d.others) (due_in 0 (cell_at p d.address t) + due_ticks p t d.others)
            (omega (arith, split_sum (λ b. released_count (cell_at p b.at t)) s.queue d sp))
            (omega (arith, split_sum (λ b. due_in b.wait (cell_at p b.at t)) s.queue d sp)) j.pending;
      }

  -- all due threads run, and then none is due
  pub threads_ran : (turns Z : ℕ) (c0 : ℕ → Option ℕ) (s : State) → Z ≤ turns → Now Z c0 (λ t. NotHeld) s → Now 0 c0 (λ t. NotHeld) (threads h p turns s) ⊎ Halt (threads h p turns s)
  threads_ran zero Z c0 s l i = inl (record { going = i.going; rest = omega (arith, i.rest); sound = i.sound; clocks = i.clocks; ontime = i.ontime; small = i.small })
  threads_ran (suc turns) Z c0 s l i = go (first_due s.queue) refl (λ s' j. threads_ran turns turns c0 s' (omega arith) j)
    where
      Left : Option Due → Type 0
      Left o = Now 0 c0 (λ t. NotHeld) (threads_on (threads h p turns) h p s o) ⊎ Halt (threads_on (threads h p turns) h p s o)

      halted : (s' : State) → Halt s' → Halt (threads h p turns s')
      halted s' j = subst Halt (sym (threads_halt h p turns s' j.halt)) j

      next : (d : Due) → first_due s.queue ≡ Some d → ((s' : State) → Now turns c0 (λ t. NotHeld) s' → Now 0 c0 (λ t. NotHeld) (threads h p turns s') ⊎ Halt (threads h p turns s')) →
          Now 0 c0 (λ t. NotHeld) (threads h p turns (thread h p (size p) d.address (with_queue s d.others))) ⊎ Halt (threads h p turns (thread h p (size p) d.address (with_queue s d.others)))
      next d e ih =
          let b = begins turns c0 s d e (record { going = i.going; rest = omega (arith, i.rest); sound = i.sound; clocks = i.clocks; ontime = i.ontime; small = i.small }) in
          ⊎_elim (λ j. ih (thread h p (size p) d.address (with_queue s d.others)) j)
          (λ j. inr (halted (thread h p (size p) d.address (with_queue s d.others)) j))
          (thread_ran h p K rate mark pos ty wide turns c0 (size p) d.address (with_queue s d.others) (omega arith) b.1 b.0)

      go : (o : Option Due) → first_due s.queue ≡ o → ((s' : State) → Now turns c0 (λ t. NotHeld) s' → Now 0 c0 (λ t. NotHeld) (threads h p turns s') ⊎ Halt (threads h p turns s')) →
          Now 0 c0 (λ t. NotHeld) (threads_on (threads h p turns) h p s (unless_stopped s.stop (first_due s.queue))) ⊎ Halt (threads_on (threads h p turns) h p s (unless_stopped s.stop (first_due s.queue)))
      go None e ih = subst Left (sym (unless_going s.stop (first_due s.queue) None i.going e))
          (inl (record { going = i.going; rest = omega (arith, none_due s.queue e); sound = i.sound; clocks = i.clocks; ontime = i.ontime; small = i.small }))
      go (Some d) e ih = subst Left (sym (unless_going s.stop (first_due s.queue) (Some d) i.going e)) (next d e ih)

  abbrev pub Runs : Table → Option ℕ → Type 0
  Runs f None = Unit {0}
  Runs f (Some i) = (i < h.sheet.tasks) × (is_pending f i ≡ true)

  -- a running task is the earliest; with none running the slot is paid
  abbrev pub Cover : List Binding → Table → Option ℕ → Type 0
  Cover q f None = Paid h.sheet.tasks K rate (λ t. 0 + due_ticks p t q) (λ t. owed (budget p t) (f t))
  Cover q f (Some i) = Covered h.sheet.tasks K rate (λ t. 0 + due_ticks p t q) (λ t. owed (budget p t) (f t))
      × Earliest h.sheet.tasks (λ t. 0 + due_ticks p t q) (λ t. owed (budget p t) (f t)) i

  -- between ticks
  pub record Ready (c : ℕ → Option ℕ) (s : State) : Type 0 where
    pub going : s.stop ≡ None
    pub rest : due_count s.queue ≡ 0
    pub tasks : (t : ℕ) → t < h.sheet.tasks → TaskSound (budget p t) NotHeld (held_in p t s.queue) (released_in p t s.queue) (due_ticks p t s.queue) (s.pending t)
    pub binds : AllByRecursion (Placed p h.sheet.tasks) s.queue
    pub runs : mark ≡ true → Runs s.pending s.running
    pub cover : mark ≡ true → Cover s.queue s.pending s.running
    pub clocks : (t : ℕ) → t < h.sheet.tasks → Match h p K rate t (c t) NotHeld s.queue

  -- one task's table entry after a slot
  pub record Charged (q : List Binding) (f f' : Table) (t : ℕ) : Type 0 where
    pub inv : TaskSound (budget p t) NotHeld (held_in p t q) (released_in p t q) (due_ticks p t q) (f' t)
    pub less : owed (budget p t) (f' t) ≤ owed (budget p t) (f t)

  charge_one : (b H O D : ℕ) (o : Option Job) → spent b (one_more_used o) ≡ false → TaskSound b NotHeld H O D o → TaskSound b NotHeld H O D (one_more_used o)
  charge_one b H O D None f i = i
  charge_one b H O D (Some k) f i =
      let l : k.used + 1 < b = leb-false b (k.used + 1) f in
      record { one = i.one; low = i.low; none = i.none; pending = (i.pending.0, i.pending.1, l) }

  less_owed : (b : ℕ) (o : Option Job) → owed b (one_more_used o) ≤ owed b o
  less_owed b None = omega arith
  less_owed b (Some k) = omega arith

  -- a pending task owes one slot less
  one_less_owed : (b H O D : ℕ) (o : Option Job) → is_some o ≡ true → TaskSound b NotHeld H O D o → owed b (one_more_used o) + 1 ≤ owed b o
  one_less_owed b H O D None e i = absurd (false≢true e)
  one_less_owed b H O D (Some k) e i = omega (arith, i.pending.2)

  slot_charged : (q : List Binding) (f : Table) (r : Option ℕ) → (mark ≡ true → Runs f r) → exhausted (budget p) (charged f r) r ≡ None →
      ((t : ℕ) → t < h.sheet.tasks → TaskSound (budget p t) NotHeld (held_in p t q) (released_in p t q) (due_ticks p t q) (f t)) →
      (mark ≡ true → Cover q f r) →
      ((t : ℕ) → t < h.sheet.tasks → TaskSound (budget p t) NotHeld (held_in p t q) (released_in p t q) (due_ticks p t q) (charged f r t))
      × (mark ≡ true → Paid h.sheet.tasks K rate (λ t. 0 + due_ticks p t q) (λ t. owed (budget p t) (charged f r t)))
  slot_charged q f None run e inv covered = (inv, covered)
  slot_charged q f (Some i) run e inv covered = (
    (λ t k. (each t k (eqb t i) refl).inv),
    λ m. cover.charge h.sheet.tasks K rate (λ t. 0 + due_ticks p t q) (λ t. owed (budget p t) (f t)) (λ t. owed (budget p t) (charged f (Some i) t)) i
        (covered m).0 (covered m).1 (λ t k. (each t k (eqb t i) refl).less)
        (rw same (one_less_owed (budget p i) (held_in p i q) (released_in p i q) (due_ticks p i q) (f i) (run m).1 (inv i (run m).0))),
  )
    where
      same : changed f i (one_more_used (f i)) i ≡ one_more_used (f i)
      same = rw (eq-eqb i i refl)

      unspent : spent (budget p i) (one_more_used (f i)) ≡ false
      unspent = rw same at (cond_none (spent (budget p i) (changed f i (one_more_used (f i)) i)) i e)

      here : i < h.sheet.tasks → Charged q f (charged f (Some i)) i
      here l = record {
        inv = rw same (charge_one (budget p i) (held_in p i q) (released_in p i q) (due_ticks p i q) (f i) unspent (inv i l));
        less = rw same (less_owed (budget p i) (f i));
      }

      each : (t : ℕ) → t < h.sheet.tasks → (b : Bool) → eqb t i ≡ b → Charged q f (charged f (Some i)) t
      each t k true u =
          let z : t ≡ i = eqb-true t i u in
          subst (λ (x : ℕ). Charged q f (charged f (Some i)) x) (sym z) (here (omega arith))
      each t k false u = record { inv = rw u (inv t k); less = rw u (omega arith) }

  -- one tick less for a table entry
  down_one : (b H O D D' : ℕ) (o : Option Job) → D' ≡ D - 1 → TaskSound b NotHeld H O D o → TaskSound b NotHeld H O D' (one_less_left o) × (owed b (one_less_left o) ≡ owed b o)
  down_one b H O D D' None e i = (record { one = i.one; low = i.low; none = λ z. omega (arith, i.none z); pending = tt }, refl)
  down_one b H O D D' (Some k) e i = (record { one = i.one; low = i.low; none = λ z. omega (arith, i.none z); pending = (i.pending.0, omega arith, i.pending.2) }, refl)

  match_down : (t : ℕ) (o : Option ℕ) (q : List Binding) → due_count q ≡ 0 → held_in p t q ≤ 1 → Match h p K rate t o NotHeld q → Match h p K rate t (one_tick_less o) NotHeld (fall q)
  match_down t None q z k m = tt
  match_down t (Some d) q z k m = (omega (arith, released_fall p t q), omega (arith, due_ticks_fall p t q z k))

  -- steps 1 and 2
  abbrev mid : State → List ℤ → State
  mid s readings = record {
    ports = put_readings (kinds_of h.sheet) s.ports readings;
    queue = fall s.queue;
    pending = λ t. one_less_left (charged s.pending s.running t);
    running = s.running;
    stop = None;
    log = [];
  }

  begun : (c : ℕ → Option ℕ) (s : State) (readings : List ℤ) → sum_below h.sheet.tasks rate ≤ K → Ready c s → exhausted (budget p) (charged s.pending s.running) s.running ≡ None →
      Now (length s.queue) (λ t. one_tick_less (c t)) (λ t. NotHeld) (mid s readings)
  begun c s readings load i e = record {
    going = refl;
    rest = omega (arith, due_few (fall s.queue), length_fall s.queue);
    sound = record {
      tasks = λ t k. (fallen t k).0;
      binds = all_fall p h.sheet.tasks s.queue i.binds;
      cover = λ m. cover_same h.sheet.tasks K rate (λ t. 0 + due_ticks p t s.queue - 1) (λ t. owed (budget p t) (charged s.pending s.running t))
          (λ t. 0 + due_ticks p t (fall s.queue)) (λ t. owed (budget p t) (one_less_left (charged s.pending s.running t)))
          (λ t k. omega (arith, due_ticks_fall p t s.queue i.rest (once t k)))
          (λ t k. omega (arith, (fallen t k).1))
          (cover.pass h.sheet.tasks K rate (λ t. 0 + due_ticks p t s.queue) (λ t. owed (budget p t) (charged s.pending s.running t)) load (paid.1 m));
    };
    clocks = λ t k. match_down t (c t) s.queue i.rest (once t k) (i.clocks t k);
    ontime = λ t k. tt;
    small = tt;
  }
    where
      once : (t : ℕ) → t < h.sheet.tasks → held_in p t s.queue ≤ 1
      once t k = omega (arith, (i.tasks t k).one)

      paid : ((t : ℕ) → t < h.sheet.tasks → TaskSound (budget p t) NotHeld (held_in p t s.queue) (released_in p t s.queue) (due_ticks p t s.queue) (charged s.pending s.running t))
          × (mark ≡ true → Paid h.sheet.tasks K rate (λ t. 0 + due_ticks p t s.queue) (λ t. owed (budget p t) (charged s.pending s.running t)))
      paid = slot_charged s.queue s.pending s.running i.runs e i.tasks i.cover

      fallen : (t : ℕ) → t < h.sheet.tasks → TaskSound (budget p t) NotHeld (held_in p t (fall s.queue)) (released_in p t (fall s.queue)) (due_ticks p t (fall s.queue)) (one_less_left (charged s.pending s.running t))
          × (owed (budget p t) (one_less_left (charged s.pending s.running t)) ≡ owed (budget p t) (charged s.pending s.running t))
      fallen t k = rw (held_fall p t s.queue, released_fall p t s.queue)
          (down_one (budget p t) (held_in p t s.queue) (released_in p t s.queue) (due_ticks p t s.queue) (due_ticks p t (fall s.queue)) (charged s.pending s.running t)
          (due_ticks_fall p t s.queue i.rest (once t k)) (paid.0 t k))

  -- some task has used up its budget
  abbrev pub UsedUp : State → Type 0
  UsedUp s = (t : ℕ) × (k : Job) × (t < h.sheet.tasks) × (s.pending t ≡ Some k) × (budget p t ≤ k.used)

  -- stopped: by a budget, or by a touch under a choice that is not the earliest
  pub record Over (s : State) : Type 0 where
    pub halt : s.stop ≡ None → ⊥
    pub used_up : mark ≡ true → UsedUp s
    pub few : length s.queue ≤ h.sheet.tasks
    pub small : AllByRecursion (λ e. e.waiting ≤ h.sheet.tasks) s.log

  -- a tick that did not stop, the clocks c before it
  pub record Ticked (c : ℕ → Option ℕ) (s : State) : Type 0 where
    pub ready : Ready (λ t. clock_after h.sheet t (one_tick_less (c t)) s.log) s
    pub ontime : (t : ℕ) → t < h.sheet.tasks → OnTime h.sheet t (one_tick_less (c t)) s.log
    pub small : AllByRecursion (λ e. e.waiting ≤ h.sheet.tasks) s.log

  owed_none : (b : ℕ) (o : Option Job) → is_some o ≡ false → owed b o ≡ 0
  owed_none b None e = refl
  owed_none b (Some k) e = absurd (true≢false e)

  owed_some : (b H O D : ℕ) (o : Option Job) → is_some o ≡ true → TaskSound b NotHeld H O D o → (1 ≤ owed b o) × (ticks_left o ≡ 0 + D)
  owed_some b H O D None e i = absurd (false≢true e)
  owed_some b H O D (Some k) e i = (omega arith, i.pending.1)

  some_owed : (b : ℕ) (o : Option Job) → 1 ≤ owed b o → is_some o ≡ true
  some_owed b None e = absurd (omega arith)
  some_owed b (Some k) e = refl

  chosen_runs : (f : Table) (o : Option ℕ) → Choice true (pending_tasks h.sheet.tasks f) o → Runs f o
  chosen_runs f None a = tt
  chosen_runs f (Some i) a = chosen true h.sheet.tasks f (Some i) a

  chosen_covers : (q : List Binding) (f : Table) (o : Option ℕ) → Choice true (pending_tasks h.sheet.tasks f) o → mark ≡ true → Sound h p K rate mark (λ t. NotHeld) q f → Cover q f o
  chosen_covers q f None a m s =
      cover.idle h.sheet.tasks K rate (λ t. 0 + due_ticks p t q) (λ t. owed (budget p t) (f t)) (λ t k. owed_none (budget p t) (f t) (chosen true h.sheet.tasks f None a t k))
  chosen_covers q f (Some i) a m s = (
    s.cover m,
    record {
      below = run.0;
      pending = (own i run.0 run.1).0;
      first = λ t k o. (let z = some_owed (budget p t) (f t) o in omega (arith, earliest h.sheet.tasks f i a t k z, (own t k z).1, (own i run.0 run.1).1));
    },
  )
    where
      run : (i < h.sheet.tasks) × (is_pending f i ≡ true)
      run = chosen true h.sheet.tasks f (Some i) a

      own : (t : ℕ) → t < h.sheet.tasks → is_pending f t ≡ true → (1 ≤ owed (budget p t) (f t)) × (ticks_left (f t) ≡ 0 + due_ticks p t q)
      own t k e = owed_some (budget p t) (held_in p t q) (released_in p t q) (due_ticks p t q) (f t) e (s.tasks t k)

  runs_choice : (x : Option Stop) (o c : Option ℕ) → x ≡ None → runs x o c ≡ c
  runs_choice None o c e = refl
  runs_choice (Some x) o c e = cc

  abbrev with_choice : State → Option ℕ → State
  with_choice m choice = record { ports = m.ports; queue = m.queue; pending = m.pending; running = runs m.stop m.running choice; stop = m.stop; log = m.log }

  closes : (c : ℕ → Option ℕ) (m : State) (choice : Option ℕ) → (mark ≡ true → Choice true (pending_tasks h.sheet.tasks m.pending) choice) → Now 0 (λ t. one_tick_less (c t)) (λ t. NotHeld) m → Ticked c (with_choice m choice)
  closes c m choice fair i = record {
    ready = record {
      going = i.going;
      rest = omega (arith, i.rest);
      tasks = i.sound.tasks;
      binds = i.sound.binds;
      runs = λ k. subst (Runs m.pending) (sym picked) (chosen_runs m.pending choice (fair k));
      cover = λ k. subst (Cover m.queue m.pending) (sym picked) (chosen_covers m.queue m.pending choice (fair k) k i.sound);
      clocks = i.clocks;
    };
    ontime = i.ontime;
    small = i.small;
  }
    where
      picked : runs m.stop m.running choice ≡ choice
      picked = runs_choice m.stop m.running choice i.going

  pub ready_few : (c : ℕ → Option ℕ) (s : State) → Ready c s → length s.queue ≤ h.sheet.tasks
  ready_few c s i = queue_small p h.sheet.tasks s.queue i.binds (λ t k. omega (arith, (i.tasks t k).one))

  -- a budget that the tick finds used up
  found_used_up : (f : Table) (r : Option ℕ) (x : ℕ) → Runs f r → exhausted (budget p) (charged f r) r ≡ Some x →
      (t : ℕ) × (k : Job) × (t < h.sheet.tasks) × (charged f r t ≡ Some k) × (budget p t ≤ k.used)
  found_used_up f None x run e = cc
  found_used_up f (Some i) x run e = go (charged f (Some i) i) refl (cond_some (spent (budget p i) (charged f (Some i) i)) i x e)
    where
      cond_some : (b : Bool) (i x : ℕ) → cond b (Some i) None ≡ Some x → b ≡ true
      cond_some true i x e = refl
      cond_some false i x e = cc

      go : (o : Option Job) → charged f (Some i) i ≡ o → spent (budget p i) (charged f (Some i) i) ≡ true →
          (t : ℕ) × (k : Job) × (t < h.sheet.tasks) × (charged f (Some i) t ≡ Some k) × (budget p t ≤ k.used)
      go None u b = absurd (false≢true (sym (ap (spent (budget p i)) u) ∙ b))
      go (Some k) u b = (i, k, run.0, u, leb-true (budget p i) k.used (sym (ap (spent (budget p i)) u) ∙ b))

  pub tick_ran : (c : ℕ → Option ℕ) (s : State) (readings : List ℤ) (choice : Option ℕ) → sum_below h.sheet.tasks rate ≤ K → Ready c s →
      (mark ≡ true → (tick h p readings choice s).stop ≡ None → Choice true (pending_tasks h.sheet.tasks (tick h p readings choice s).pending) choice) →
      Ticked c (tick h p readings choice s) ⊎ Over (tick h p readings choice s)
  tick_ran c s readings choice load i fair = go (exhausted (budget p) (charged s.pending s.running) s.running) refl fair
    where
      After : Option ℕ → State
      After o = tick_on h p readings choice s (charged s.pending s.running) o

      Left : Option ℕ → Type 0
      Left o = Ticked c (After o) ⊎ Over (After o)

      Fair : Option ℕ → Type 0
      Fair o = mark ≡ true → (After o).stop ≡ None → Choice true (pending_tasks h.sheet.tasks (After o).pending) choice

      go : (o : Option ℕ) → exhausted (budget p) (charged s.pending s.running) s.running ≡ o →
          Fair (exhausted (budget p) (charged s.pending s.running) s.running) →
          Left (exhausted (budget p) (charged s.pending s.running) s.running)
      go None e a = subst Left (sym e)
          (⊎_elim (λ j. inl (closes c (threads h p (length s.queue) (mid s readings)) choice (λ m. subst Fair e a m j.going) j))
          (λ j. inr (record { halt = j.halt; used_up = λ m. absurd (j.unmarked m); few = j.few; small = j.small }))
          (threads_ran (length s.queue) (length s.queue) (λ t. one_tick_less (c t)) (mid s readings) (omega arith) (begun c s readings load i e)))
      go (Some x) e a = subst Left (sym e) (inr (record {
        halt = λ z. (cc);
        used_up = λ m. found_used_up s.pending s.running x (i.runs m) e;
        few = ready_few c s i;
        small = tt;
      }))

  -- one table entry after a task's end
  ended_inv : (f : Table) (q : List Binding) (i t : ℕ) (b : Bool) → eqb t i ≡ b → TaskSound (budget p t) NotHeld (held_in p t q) (released_in p t q) (due_ticks p t q) (f t) →
      Charged q f (changed f i None) t
  ended_inv f q i t true u j = record { inv = rw u (record { one = j.one; low = j.low; none = j.none; pending = tt }); less = rw u (omega arith) }
  ended_inv f q i t false u j = record { inv = rw u j; less = rw u (omega arith) }

  -- the end of the running task
  pub done_ran : (c : ℕ → Option ℕ) (s : State) (i : ℕ) → s.running ≡ Some i → Ready c s → Ready c (done h i s)
  done_ran c s i e r = go (s.pending i) refl
    where
      fits : Option Job → Type 0
      fits o = Ready c (finish h i o s)

      gone : changed s.pending i None i ≡ None
      gone = rw (eq-eqb i i refl)

      go : (o : Option Job) → s.pending i ≡ o → fits (s.pending i)
      go None u = subst fits (sym u) r
      go (Some k) u = subst fits (sym u) (record {
        going = r.going;
        rest = r.rest;
        tasks = λ t j. (ended_inv s.pending s.queue i t (eqb t i) refl (r.tasks t j)).inv;
        binds = r.binds;
        runs = λ m. tt;
        cover = λ m. (let a : Cover s.queue s.pending (Some i) = subst (Cover s.queue s.pending) e (r.cover m) in
            cover.charge h.sheet.tasks K rate (λ t. 0 + due_ticks p t s.queue) (λ t. owed (budget p t) (s.pending t)) (λ t. owed (budget p t) (changed s.pending i None t)) i
            a.0 a.1 (λ t j. (ended_inv s.pending s.queue i t (eqb t i) refl (r.tasks t j)).less) (rw gone (omega (arith, a.1.pending))));
        clocks = r.clocks;
      })

  held_one : (c : Cell) → held_count c ≤ 1
  held_one NotHeld = omega arith
  held_one Idle = omega arith
  held_one (Released c r) = omega arith

  held_more : (c : Cell) → Held c → 1 ≤ held_count c
  held_more NotHeld e = absurd e
  held_more Idle e = omega arith
  held_more (Released c r) e = omega arith

  -- a fresh run
  pub fresh_ready : (v : Ports) → 1 ≤ h.sheet.tasks → Ready (λ t. None) (fresh p v)
  fresh_ready v some = record {
    going = refl;
    rest = refl;
    tasks = λ t k. record {
      one = omega (arith, held_one (cell_at p p.entry t));
      low = released_low p t (fresh p v).queue;
      none = no_due_ticks p t (fresh p v).queue;
      pending = tt;
    };
    binds = (
      record {
        inside = ty.inside;
        some = omega (arith, held_more (cell_at p p.entry 0) (ty.whole 0 some), sum_at h.sheet.tasks (λ t. held_count (cell_at p p.entry t)) 0 some);
      },
      tt,
    );
    runs = λ m. tt;
    cover = λ m. cover.idle h.sheet.tasks K rate (λ t. 0 + due_ticks p t (fresh p v).queue) (λ t. 0) (λ t k. refl);
    clocks = λ t k. tt;
  }

  -- at the end of a tick no window is at its end
  pub not_late : (c : ℕ → Option ℕ) (s : State) → Ready c s → (t : ℕ) → t < h.sheet.tasks → c t ≡ Some 0 → ⊥
  not_late c s r t k e =
      let m : Match h p K rate t (Some 0) NotHeld s.queue = subst (λ (o : Option ℕ). Match h p K rate t o NotHeld s.queue) e (r.clocks t k) in
      omega (arith, due_ticks_left p t s.queue r.rest (omega arith))
