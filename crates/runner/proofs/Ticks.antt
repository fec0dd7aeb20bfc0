-- A tick of the code, step by step, is a tick of the reference runner.
use Rattle.std.proofs.Common.{◌≡◌, ℕ, ◌<◌, ◌≤◌, Bool, true, false, cond, eqb, List, [], ◌∷◌, map, length, get_or, take, ℤ, is_some, Some, None, Ok, Err, Option, sym, refl, ap, ◌∙◌, subst, arith, length-take}
use Rattle.std.proofs.lemmas.List.{get_or-take}
use Rattle.std.proofs.lemmas.Bool.{cond-true, cond-false, eqb-true}
use Rattle.ecode.specs.Wiring.{has}
use Rattle.ecode.specs.Verdict.{Contents}
use Rattle.ecode.specs.declared.sheet.Sheet.{Sheet}
use Rattle.host.specs.Meaning.{Meaning}
use Rattle.machine.specs.declared.binding.Binding.{Binding}
use Rattle.machine.specs.declared.stop.Stop.{Stop}
use Rattle.machine.specs.declared.stop.Stop.TheVariants as stop
use Rattle.machine.specs.declared.fault.RunFault.{RunFault}
use Rattle.machine.specs.declared.fault.RunFault.TheVariants.{Readings}
use Rattle.machine.specs.State.{Ports, Job, Table, State, is_pending, budget}
use Rattle.machine.specs.Runner.{one_more_used, charged, spent, exhausted, one_less_wait, kinds_of, opening, runs, closing, threads, tick_on, tick}
use Rattle.machine.specs.Calls.{Tick, counts, sensor_count, if_going, leaves, fault_of, unless_over, ran_or_stopped, tick_answer}
use Rattle.machine.proofs.Reached.{Busy, Steady}
use Rattle.parts.specs.declared.data.TaskTable.{TaskTable}
use Rattle.parts.specs.declared.data.Wiring.{Wiring}
use Rattle.parts.specs.Shown.{no_slot, job, jobs, Chargeable}
use Rattle.parts.specs.Wired.{sensed, WiredFor}
use Rattle.parts.proofs.Feeds.{sensors_many}
use Rattle.runner.specs.declared.progress.Progress.{Progress}
use Rattle.runner.specs.Standing.{standing}
use Rattle.runner.specs.Follows.{Leaves}
use Rattle.runner.specs.Turns.{Inside}

-- a wiring has as many sensors as a tick takes readings
pub sensors_long : (s : Sheet) (w : Wiring) → WiredFor s w → w.sensors.len ≡ sensor_count (kinds_of s)
sensors_long s w r =
    let long : length (sensed w.sensors) ≡ w.sensors.len = simp length-take (omega arith) in
    sym long ∙ ap length r.sensors ∙ sensors_many 0 (kinds_of s)

module _ (m : Meaning) (p : Contents) (rd : List ℤ) (s : State) (going : s.stop ≡ None) where
  -- refused for the number of its readings
  pub refused : counts m rd ≡ false → (c : Option ℕ) → leaves m p (Tick rd c) s ≡ s
  refused k c = ap (λ o. if_going o (cond (counts m rd) (tick m p rd c s) s) s) going ∙ cond-false (counts m rd) _ _ k

  pub refuses : counts m rd ≡ false → (s' : State) → tick_answer m rd s s' ≡ Err (Readings (length rd))
  refuses k s' =
      ap (λ o. unless_over o (cond (counts m rd) (ran_or_stopped s'.stop (length s'.log) s'.running) (Err (Readings (length rd))))) going ∙ cond-false (counts m rd) _ _ k

  module _ (k : counts m rd ≡ true) where
    pub ticks : (c : Option ℕ) → leaves m p (Tick rd c) s ≡ tick m p rd c s
    ticks c = ap (λ o. if_going o (cond (counts m rd) (tick m p rd c s) s) s) going ∙ cond-true (counts m rd) _ _ k

    pub answers : (s' : State) → tick_answer m rd s s' ≡ ran_or_stopped s'.stop (length s'.log) s'.running
    answers s' =
        ap (λ o. unless_over o (cond (counts m rd) (ran_or_stopped s'.stop (length s'.log) s'.running) (Err (Readings (length rd))))) going ∙ cond-true (counts m rd) _ _ k

  abbrev slots : Table
  slots = charged s.pending s.running

  -- a budget is used up
  pub used_up : (c : Option ℕ) (t : ℕ) → exhausted (budget p) slots s.running ≡ Some t
      → tick m p rd c s ≡ record { ports = s.ports; queue = s.queue; pending = slots; running = s.running; stop = Some (stop.BudgetUsedUp t); log = [] }
  used_up c t e = ap (tick_on m p rd c s slots) e

  -- none is
  pub goes : (c : Option ℕ) → exhausted (budget p) slots s.running ≡ None → tick m p rd c s ≡ closing (threads m p (length s.queue) (opening m rd s slots)) c
  goes c e = ap (tick_on m p rd c s slots) e

-- the budgets of the tasks that there are
pub exhausted_same : (budgets : List ℕ) (tasks : ℕ) (f : Table) (o : Option ℕ) → ((i : ℕ) → o ≡ Some i → i < tasks)
    → exhausted (λ t. get_or budgets t 0) f o ≡ exhausted (λ t. get_or (take tasks budgets) t 0) f o
exhausted_same budgets tasks f None low = refl
exhausted_same budgets tasks f (Some i) low = ap (λ b. cond (spent b (f i)) (Some i) None) (sym (get_or-take tasks budgets i 0 (low i refl)))

-- a pending task has its slot
pub record Slotted (f : TaskTable) (t : ℕ) (k : Job) : Type 0 where
  pub member : has f.pending t ≡ true
  pub used : (get_or f.slots t no_slot).used ≡ k.used

slotted : (n : ℕ) (f : TaskTable) (t : ℕ) (k : Job) → jobs n f t ≡ Some k → Slotted f t k
slotted n f t k e = go (has f.pending t) refl e
  where
    go : (b : Bool) → has f.pending t ≡ b → cond b (Some (job n (get_or f.slots t no_slot))) None ≡ Some k → Slotted f t k
    go true q e = let z : job n (get_or f.slots t no_slot) ≡ k = cc in record { member = q; used = ap (λ (j : Job). j.used) z }
    go false q e = cc

-- the running task can be charged
pub chargeable : (m : Meaning) (p : Contents) (w : Wiring) (v : Ports) (g : Progress) → m.sheet.tasks ≤ 8 → Steady m p (standing w v [] g) → Chargeable g.table g.running
chargeable m p w v g few k = go g.running (λ i e. k.busy i e)
  where
    go : (o : Option ℕ) → ((i : ℕ) → o ≡ Some i → Busy m p (standing w v [] g) i) → Chargeable g.table o
    go None b = tt
    go (Some i) b =
        let x = b i refl in
        let y = slotted w.ports g.table i x.job x.is in
        (omega (arith, x.below), y.member, omega (arith, x.used, x.budget_small, y.used))

-- charging makes no task pending
pub charged_pending : (f : Table) (r : Option ℕ) (t : ℕ) → is_pending (charged f r) t ≡ is_pending f t
charged_pending f None t = refl
charged_pending f (Some i) t = go (eqb t i) refl
  where
    more : (o : Option Job) → is_some (one_more_used o) ≡ is_some o
    more None = refl
    more (Some k) = refl

    go : (b : Bool) → eqb t i ≡ b → is_some (cond b (one_more_used (f i)) (f t)) ≡ is_some (f t)
    go true e = more (f i) ∙ ap (λ u. is_some (f u)) (sym (eqb-true t i e))
    go false e = refl

-- only tasks of the sheet are pending
pub none_beyond : (m : Meaning) (p : Contents) (s : State) → Steady m p s → (t : ℕ) → m.sheet.tasks ≤ t → is_pending s.pending t ≡ false
none_beyond m p s k t h = go (s.pending t) refl
  where
    go : (o : Option Job) → s.pending t ≡ o → is_some o ≡ false
    go None e = refl
    go (Some j) e = absurd (omega (arith, k.below t j e))

pub inside_fallen : (n : ℕ) (q : List Binding) → Inside n q → Inside n (map one_less_wait q)
inside_fallen n [] a = tt
inside_fallen n (b ∷ q) a = (a.0, inside_fallen n q a.1)

-- a stopped tick closes as it is
pub closed_stopped : (s : State) (x : Stop) (c : Option ℕ) → s.stop ≡ Some x → closing s c ≡ s
closed_stopped s x c e = λ i. record { ports = s.ports; queue = s.queue; pending = s.pending; running = ap (λ o. runs o s.running c) e i; stop = s.stop; log = s.log }

pub closed_going : (s : State) (c : Option ℕ) → s.stop ≡ None → closing s c ≡ record { ports = s.ports; queue = s.queue; pending = s.pending; running = c; stop = s.stop; log = s.log }
closed_going s c e = λ i. record { ports = s.ports; queue = s.queue; pending = s.pending; running = ap (λ o. runs o s.running c) e i; stop = s.stop; log = s.log }

-- the answers
pub stopped_answer : (o : Option Stop) (x : Stop) (n : ℕ) (q : Option ℕ) → o ≡ Some x → Err (fault_of x) ≡ ran_or_stopped o n q
stopped_answer o x n q e = sym (ap (λ y. ran_or_stopped y n q) e)

-- the refusal of a tick that stopped says nothing of what is left
pub stop_leaves : {A : Type 0} (before then : A) (x : Stop) (fault : RunFault) → fault ≡ fault_of x → Leaves before then fault
stop_leaves before then x fault e = subst (Leaves before then) (sym e) (go x)
  where
    go : (x : Stop) → Leaves before then (fault_of x)
    go (stop.BudgetUsedUp t) = tt
    go (stop.Touched t a) = tt

pub ran_answer : (o : Option Stop) (n n' : ℕ) (q : Option ℕ) → o ≡ None → n ≡ n' → Ok (record { instructions = n; running = q }) ≡ ran_or_stopped o n' q
ran_answer o n n' q e f = ap (λ k. Ok (record { instructions = k; running = q })) f ∙ sym (ap (λ y. ran_or_stopped y n' q) e)
