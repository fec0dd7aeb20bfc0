-- Nothing in a run grows: one invariant on the state, which instructions, ticks and ends of tasks keep.
use Rattle.std.proofs.Common.{◌≡◌, ℕ, zero, suc, ◌+◌, ◌-◌, ◌*◌, ◌<◌, ◌≤◌, Bool, true, false, cond, ◌&&◌, eqb, ◌⊎◌, List, [], ◌∷◌, map, length, ℤ, is_some, Some, None, Option, sym, refl, ap, ◌∙◌, subst, inl, inr, arith}
use Rattle.std.specs.List.{AllByRecursion}
use Rattle.std.proofs.ByRecursion.{All-push, All-weaker, All-map}
use Rattle.std.proofs.lemmas.Bool.{eqb-true, eq-eqb, leb-false}
use Rattle.ecode.specs.declared.code.Instruction.{Instruction}
use Rattle.ecode.specs.declared.code.Instruction.TheVariants.{Call, Release, Future, If, Jump, Return}
use Rattle.ecode.specs.Sheets.{shares, owns_of}
use Rattle.ecode.specs.Verdict.{Contents}
use Rattle.ecode.specs.Accepted.{Ticks, Aimed, Ranged}
use Rattle.host.specs.Meaning.{Meaning, Lawful}
use Rattle.policy.specs.Choice.{Choice}
use Rattle.machine.specs.declared.binding.Binding.{Binding}
use Rattle.machine.specs.declared.stop.Stop.{Stop}
use Rattle.machine.specs.declared.stop.Stop.TheVariants.{BudgetUsedUp, Touched}
use Rattle.machine.specs.Refusals.{stop_number, stop_task, stop_address}
use Rattle.machine.specs.State.{Ports, size, instruction_at, budget, Job, Table, is_pending, Event, State, fresh}
use Rattle.machine.specs.Runner.{changed, touched, ports_after, queue_after, pending_after, next_after, performed, onward, thread, Due, first_due, with_queue, threads_on, unless_stopped, threads, one_more_used, charged, spent, exhausted, one_less_left, one_less_wait, kinds_of, opening, runs, tick_on, tick, finish, done}
use Rattle.machine.specs.Choices.{pending_tasks}
use Rattle.machine.specs.Calls.{RunCall, counts, is_running, if_going, leaves, after, ticks_of, AsChosen, ByPolicy, Tick, Done, AskState, AskPort}
use Rattle.machine.specs.Begins.{Begins}
use Rattle.machine.specs.Growth.{NothingGrows}
use Rattle.machine.proofs.Lowest.{lowest_some}
use Rattle.machine.proofs.Alike.{put_long, own_long, drive_long}
use Rattle.machine.proofs.Queues.{due_split}
use Rattle.machine.proofs.Formed.{Formed, Higher, higher, formed}
use Rattle.machine.proofs.Choosing.{chosen}
use Rattle.machine.proofs.Ticks.{split_all, cond_none}
use Rattle.machine.proofs.Wholes.{work}

-- a binding in the queue
abbrev pub Fits : Contents → Binding → Type 0
Fits p b = (b.wait ≤ 240) × (b.at < size p)

-- the job of a pending task; its slots used reach its budget only where the run stops
pub record JobFits (m : Meaning) (p : Contents) (t : ℕ) (k : Job) : Type 0 where
  pub below : t < m.sheet.tasks
  pub left : k.left ≤ 240
  pub used : k.used ≤ budget p t
  pub taken : length k.taken ≡ m.sheet.ports

abbrev StopFits : Meaning → Contents → Stop → Type 0
StopFits m p x = ((stop_number x ≡ 14) ⊎ (stop_number x ≡ 15)) × (stop_task x < m.sheet.tasks) × (stop_address x < size p)

abbrev Jobs : Meaning → Contents → Table → Type 0
Jobs m p f = (t : ℕ) (k : Job) → f t ≡ Some k → JobFits m p t k

-- budgets are not used up
abbrev Under : Contents → Table → Type 0
Under p f = (t : ℕ) (k : Job) → f t ≡ Some k → k.used < budget p t

-- within a tick
record Inside (m : Meaning) (p : Contents) (s : State) : Type 0 where
  ports : length s.ports ≡ m.sheet.ports
  queue : AllByRecursion (Fits p) s.queue
  jobs : Jobs m p s.pending
  under : Under p s.pending
  stop : (x : Stop) → s.stop ≡ Some x → StopFits m p x
  log : AllByRecursion (λ e. e.at < size p) s.log

-- between calls
pub record Small (m : Meaning) (p : Contents) (s : State) : Type 0 where
  pub ports : length s.ports ≡ m.sheet.ports
  pub queue : AllByRecursion (Fits p) s.queue
  pub jobs : Jobs m p s.pending
  pub under : s.stop ≡ None → Under p s.pending
  pub running : (i : ℕ) → s.running ≡ Some i → (i < m.sheet.tasks) × (is_pending s.pending i ≡ true)
  pub stop : (x : Stop) → s.stop ≡ Some x → StopFits m p x
  pub log : AllByRecursion (λ e. e.at < size p) s.log

-- a value that holds at one place and everywhere else
at_place : {A : Type 0} (P : ℕ → A → Type 0) (f : ℕ → A) (i : ℕ) (v : A) (t : ℕ) → P i v → P t (f t) → P t (changed f i v t)
at_place P f i v t here there = go (eqb t i) refl
  where
    go : (b : Bool) → eqb t i ≡ b → P t (cond b v (f t))
    go true e = subst (λ (u : ℕ). P u v) (sym (eqb-true t i e)) here
    go false e = there

module _ (m : Meaning) (p : Contents) (ok : Lawful m) (ty : Formed m.sheet p) (ticks : (t : ℕ) → t < m.sheet.tasks → Ticks (budget p t)) where
  -- what an instruction makes of each part
  ports_fit : (i : Instruction) (v : Ports) → length v ≡ m.sheet.ports → length (ports_after m i v) ≡ m.sheet.ports
  ports_fit (Call d) v e = drive_long m ok d v ∙ e
  ports_fit (Release t w) v e = e
  ports_fit (Future x a k) v e = e
  ports_fit (If q a) v e = e
  ports_fit (Jump a) v e = e
  ports_fit Return v e = e

  queue_fits : (i : Instruction) (a : ℕ) (q : List Binding) → Ranged m.sheet i → Aimed (size p) a i → AllByRecursion (Fits p) q → AllByRecursion (Fits p) (queue_after i q)
  queue_fits (Call d) a q r e s = s
  queue_fits (Release t w) a q r e s = s
  queue_fits (Future x y k) a q r e s = All-push (Fits p) q (record { wait = x; at = y }) s (r.0.1, e.1)
  queue_fits (If c y) a q r e s = s
  queue_fits (Jump y) a q r e s = s
  queue_fits Return a q r e s = s

  abbrev OfJob : (ℕ → Job → Type 0) → ℕ → Option Job → Type 0
  OfJob P t o = (k : Job) → o ≡ Some k → P t k

  same_job : (P : ℕ → Job → Type 0) (t : ℕ) (j : Job) → P t j → OfJob P t (Some j)
  same_job P t j h k e = let z : j ≡ k = cc in subst (P t) z h

  jobs_fit : (i : Instruction) (v : Ports) (f : Table) → Ranged m.sheet i → length v ≡ m.sheet.ports → Jobs m p f → Jobs m p (pending_after i v f)
  jobs_fit (Call d) v f r e s = s
  jobs_fit (Release x w) v f r e s = λ t. at_place (OfJob (JobFits m p)) f x (Some (record { left = w; used = 0; taken = v })) t
      (same_job (JobFits m p) x (record { left = w; used = 0; taken = v }) (record { below = r.0; left = r.1.1; used = omega arith; taken = e })) (s t)
  jobs_fit (Future x a k) v f r e s = s
  jobs_fit (If q a) v f r e s = s
  jobs_fit (Jump a) v f r e s = s
  jobs_fit Return v f r e s = s

  under_fits : (i : Instruction) (v : Ports) (f : Table) → Ranged m.sheet i → Under p f → Under p (pending_after i v f)
  under_fits (Call d) v f r s = s
  under_fits (Release x w) v f r s = λ t. at_place (OfJob (λ t k. k.used < budget p t)) f x (Some (record { left = w; used = 0; taken = v })) t
      (same_job (λ t k. k.used < budget p t) x (record { left = w; used = 0; taken = v }) (omega (arith, (ticks x r.0).0))) (s t)
  under_fits (Future x a k) v f r s = s
  under_fits (If q a) v f r s = s
  under_fits (Jump a) v f r s = s
  under_fits Return v f r s = s

  -- a touched task is one of the sheet
  touched_below : (i : Instruction) (f : Table) (t : ℕ) → Ranged m.sheet i → touched m.sheet f i ≡ Some t → t < m.sheet.tasks
  touched_below (Call d) f t r e = (lowest_some m.sheet.tasks (λ t. shares m.sheet d t && is_pending f t) t e).0
  touched_below (Release x w) f t r e = go (is_pending f x) e
    where
      go : (b : Bool) → cond b (Some x) None ≡ Some t → t < m.sheet.tasks
      go true e = let z : x ≡ t = cc in omega (arith, r.0)
      go false e = cc
  touched_below (Future x a k) f t r e = cc
  touched_below (If q a) f t r e = cc
  touched_below (Jump a) f t r e = cc
  touched_below Return f t r e = cc

  thread_fits : (turns a : ℕ) (s : State) → a < size p → Inside m p s → Inside m p (thread m p turns a s)
  thread_fits zero a s l i = i
  thread_fits (suc turns) a s l i = go (touched m.sheet s.pending (instruction_at p a)) refl (λ b s'. thread_fits turns b s')
    where
      After : Option ℕ → State
      After o = onward (thread m p turns) (performed m (instruction_at p a) a o s).state (performed m (instruction_at p a) a o s).next

      onto : (o : Option ℕ) (s' : State) → Higher p a o → Inside m p s' → ((b : ℕ) (s' : State) → b < size p → Inside m p s' → Inside m p (thread m p turns b s')) →
          Inside m p (onward (thread m p turns) s' o)
      onto None s' b j ih = j
      onto (Some c) s' b j ih = ih c s' b.1 j

      go : (o : Option ℕ) → touched m.sheet s.pending (instruction_at p a) ≡ o → ((b : ℕ) (s' : State) → b < size p → Inside m p s' → Inside m p (thread m p turns b s')) →
          Inside m p (After (touched m.sheet s.pending (instruction_at p a)))
      go None e ih = subst (λ (o : Option ℕ). Inside m p (After o)) (sym e)
          (onto (next_after m (instruction_at p a) a s.ports) (performed m (instruction_at p a) a None s).state (higher m p (instruction_at p a) a s.ports (ty.aims a l))
          (record {
            ports = ports_fit (instruction_at p a) s.ports i.ports;
            queue = queue_fits (instruction_at p a) a s.queue (ty.ranges a l) (ty.aims a l) i.queue;
            jobs = jobs_fit (instruction_at p a) s.ports s.pending (ty.ranges a l) i.ports i.jobs;
            under = under_fits (instruction_at p a) s.ports s.pending (ty.ranges a l) i.under;
            stop = i.stop;
            log = (l, i.log);
          }) ih)
      go (Some t) e ih = subst (λ (o : Option ℕ). Inside m p (After o)) (sym e)
          (record {
            ports = i.ports;
            queue = i.queue;
            jobs = i.jobs;
            under = i.under;
            stop = λ x q. (let z : Touched t a ≡ x = cc in
                subst (StopFits m p) z (inr refl, touched_below (instruction_at p a) s.pending t (ty.ranges a l) e, l));
            log = (l, i.log);
          })

  threads_fit : (turns : ℕ) (s : State) → Inside m p s → Inside m p (threads m p turns s)
  threads_fit zero s i = i
  threads_fit (suc turns) s i = go s.stop (first_due s.queue) refl (λ s'. threads_fit turns s')
    where
      go : (x : Option Stop) (o : Option Due) → first_due s.queue ≡ o → ((s' : State) → Inside m p s' → Inside m p (threads m p turns s')) →
          Inside m p (threads_on (threads m p turns) m p s (unless_stopped x (first_due s.queue)))
      go (Some x) o e ih = i
      go None None e ih = subst (λ (o : Option Due). Inside m p (threads_on (threads m p turns) m p s o)) (sym e) i
      go None (Some d) e ih =
          let parts = split_all (Fits p) s.queue d (due_split s.queue d e) i.queue in
          subst (λ (o : Option Due). Inside m p (threads_on (threads m p turns) m p s o)) (sym e)
          (ih (thread m p (size p) d.address (with_queue s d.others))
          (thread_fits (size p) d.address (with_queue s d.others) parts.0.1
          (record { ports = i.ports; queue = parts.1; jobs = i.jobs; under = i.under; stop = i.stop; log = i.log })))

  -- step 1: a slot more is at most the budget
  charged_fits : (f : Table) (r : Option ℕ) → Jobs m p f → Under p f → Jobs m p (charged f r)
  charged_fits f None s u = s
  charged_fits f (Some i) s u = λ t. at_place (OfJob (JobFits m p)) f i (one_more_used (f i)) t (more (f i) (s i) (u i)) (s t)
    where
      more : (o : Option Job) → OfJob (JobFits m p) i o → OfJob (λ t k. k.used < budget p t) i o → OfJob (JobFits m p) i (one_more_used o)
      more None s u = λ k e. cc
      more (Some j) s u =
          let old = s j refl in
          same_job (JobFits m p) i (record { left = j.left; used = j.used + 1; taken = j.taken })
          (record { below = old.below; left = old.left; used = omega (arith, u j refl); taken = old.taken })

  -- and below it where the tick goes on
  charged_under : (f : Table) (r : Option ℕ) → Under p f → exhausted (budget p) (charged f r) r ≡ None → Under p (charged f r)
  charged_under f None u e = u
  charged_under f (Some i) u e = λ t. at_place (OfJob (λ t k. k.used < budget p t)) f i (one_more_used (f i)) t here (u t)
    where
      same : changed f i (one_more_used (f i)) i ≡ one_more_used (f i)
      same = rw (eq-eqb i i refl)

      unspent : spent (budget p i) (one_more_used (f i)) ≡ false
      unspent = ap (spent (budget p i)) (sym same) ∙ cond_none (spent (budget p i) (changed f i (one_more_used (f i)) i)) i e

      here : OfJob (λ t k. k.used < budget p t) i (one_more_used (f i))
      here k q = leb-false (budget p i) k.used (ap (spent (budget p i)) (sym q) ∙ unspent)

  -- step 2
  fallen_fits : (f : Table) → Jobs m p f → Jobs m p (λ t. one_less_left (f t))
  fallen_fits f s t k e = go (f t) (s t) k e
    where
      go : (o : Option Job) → OfJob (JobFits m p) t o → OfJob (JobFits m p) t (one_less_left o)
      go None s = λ k e. cc
      go (Some j) s =
          let old = s j refl in
          same_job (JobFits m p) t (record { left = j.left - 1; used = j.used; taken = j.taken })
          (record { below = old.below; left = omega (arith, old.left); used = old.used; taken = old.taken })

  fallen_under : (f : Table) → Under p f → Under p (λ t. one_less_left (f t))
  fallen_under f s t k e = go (f t) (s t) k e
    where
      go : (o : Option Job) → OfJob (λ t k. k.used < budget p t) t o → OfJob (λ t k. k.used < budget p t) t (one_less_left o)
      go None s = λ k e. cc
      go (Some j) s = same_job (λ t k. k.used < budget p t) t (record { left = j.left - 1; used = j.used; taken = j.taken }) (s j refl)

  queue_falls : (q : List Binding) → AllByRecursion (Fits p) q → AllByRecursion (Fits p) (map one_less_wait q)
  queue_falls q s = All-map (Fits p) one_less_wait q (All-weaker (Fits p) (λ b. Fits p (one_less_wait b)) (λ b h. (omega (arith, h.0), h.1)) q s)

  exhausted_is : (f : Table) (r : Option ℕ) (x : ℕ) → exhausted (budget p) f r ≡ Some x → r ≡ Some x
  exhausted_is f None x e = cc
  exhausted_is f (Some i) x e = go (spent (budget p i) (f i)) e
    where
      go : (b : Bool) → cond b (Some i) None ≡ Some x → ◌≡◌ {A = Option ℕ} (Some i) (Some x)
      go true e = e
      go false e = cc

  -- nothing but the policy and the end of a task changes which task runs
  thread_running : (turns a : ℕ) (s : State) → (thread m p turns a s).running ≡ s.running
  thread_running zero a s = refl
  thread_running (suc turns) a s = go (touched m.sheet s.pending (instruction_at p a)) (λ b s'. thread_running turns b s')
    where
      onto : (o : Option ℕ) (s' : State) → s'.running ≡ s.running → ((b : ℕ) (s' : State) → (thread m p turns b s').running ≡ s'.running) → (onward (thread m p turns) s' o).running ≡ s.running
      onto None s' e ih = e
      onto (Some b) s' e ih = ih b s' ∙ e

      go : (o : Option ℕ) → ((b : ℕ) (s' : State) → (thread m p turns b s').running ≡ s'.running) →
          (onward (thread m p turns) (performed m (instruction_at p a) a o s).state (performed m (instruction_at p a) a o s).next).running ≡ s.running
      go None ih = onto (performed m (instruction_at p a) a None s).next (performed m (instruction_at p a) a None s).state refl ih
      go (Some t) ih = refl

  threads_running : (turns : ℕ) (s : State) → (threads m p turns s).running ≡ s.running
  threads_running zero s = refl
  threads_running (suc turns) s = go (unless_stopped s.stop (first_due s.queue)) (λ s'. threads_running turns s')
    where
      go : (o : Option Due) → ((s' : State) → (threads m p turns s').running ≡ s'.running) → (threads_on (threads m p turns) m p s o).running ≡ s.running
      go None ih = refl
      go (Some d) ih = ih (thread m p (size p) d.address (with_queue s d.others)) ∙ thread_running (size p) d.address (with_queue s d.others)

  -- a task that is pending stays so through a tick
  pending_stays : (i : Instruction) (v : Ports) (f : Table) (t : ℕ) → is_pending f t ≡ true → is_pending (pending_after i v f) t ≡ true
  pending_stays (Call d) v f t e = e
  pending_stays (Release x w) v f t e = at_place (λ t o. is_some o ≡ true) f x (Some (record { left = w; used = 0; taken = v })) t refl e
  pending_stays (Future x a k) v f t e = e
  pending_stays (If q a) v f t e = e
  pending_stays (Jump a) v f t e = e
  pending_stays Return v f t e = e

  thread_keeps : (turns a : ℕ) (s : State) (t : ℕ) → is_pending s.pending t ≡ true → is_pending (thread m p turns a s).pending t ≡ true
  thread_keeps zero a s t e = e
  thread_keeps (suc turns) a s t e = go (touched m.sheet s.pending (instruction_at p a)) (λ b s'. thread_keeps turns b s' t)
    where
      onto : (o : Option ℕ) (s' : State) → is_pending s'.pending t ≡ true →
          ((b : ℕ) (s' : State) → is_pending s'.pending t ≡ true → is_pending (thread m p turns b s').pending t ≡ true) → is_pending (onward (thread m p turns) s' o).pending t ≡ true
      onto None s' e ih = e
      onto (Some b) s' e ih = ih b s' e

      go : (o : Option ℕ) → ((b : ℕ) (s' : State) → is_pending s'.pending t ≡ true → is_pending (thread m p turns b s').pending t ≡ true) →
          is_pending (onward (thread m p turns) (performed m (instruction_at p a) a o s).state (performed m (instruction_at p a) a o s).next).pending t ≡ true
      go None ih = onto (performed m (instruction_at p a) a None s).next (performed m (instruction_at p a) a None s).state (pending_stays (instruction_at p a) s.ports s.pending t e) ih
      go (Some u) ih = e

  threads_keep : (turns : ℕ) (s : State) (t : ℕ) → is_pending s.pending t ≡ true → is_pending (threads m p turns s).pending t ≡ true
  threads_keep zero s t e = e
  threads_keep (suc turns) s t e = go (unless_stopped s.stop (first_due s.queue)) (λ s'. threads_keep turns s' t)
    where
      go : (o : Option Due) → ((s' : State) → is_pending s'.pending t ≡ true → is_pending (threads m p turns s').pending t ≡ true) →
          is_pending (threads_on (threads m p turns) m p s o).pending t ≡ true
      go None ih = e
      go (Some d) ih = ih (thread m p (size p) d.address (with_queue s d.others)) (thread_keeps (size p) d.address (with_queue s d.others) t e)

  charged_keeps : (f : Table) (r : Option ℕ) (t : ℕ) → is_pending f t ≡ true → is_pending (charged f r) t ≡ true
  charged_keeps f None t e = e
  charged_keeps f (Some i) t e = go (eqb t i) refl
    where
      more : (o : Option Job) → is_some o ≡ true → is_some (one_more_used o) ≡ true
      more None e = e
      more (Some k) e = refl

      go : (b : Bool) → eqb t i ≡ b → is_some (cond b (one_more_used (f i)) (f t)) ≡ true
      go true q = more (f i) (ap (λ (u : ℕ). is_some (f u)) (sym (eqb-true t i q)) ∙ e)
      go false q = e

  fallen_keeps : (o : Option Job) → is_some o ≡ true → is_some (one_less_left o) ≡ true
  fallen_keeps None e = e
  fallen_keeps (Some k) e = refl

  tick_fits : (mark : Bool) (r : List ℤ) (c : Option ℕ) (s : State) → s.stop ≡ None → Small m p s →
      ((tick m p r c s).stop ≡ None → Choice mark (pending_tasks m.sheet.tasks (tick m p r c s).pending) c) → Small m p (tick m p r c s)
  tick_fits mark r c s g i fair = go (exhausted (budget p) (charged s.pending s.running) s.running) refl fair
    where
      After : Option ℕ → State
      After o = tick_on m p r c s (charged s.pending s.running) o

      Fair : Option ℕ → Type 0
      Fair o = (After o).stop ≡ None → Choice mark (pending_tasks m.sheet.tasks (After o).pending) c

      mid : State
      mid = threads m p (length s.queue) (opening m r s (charged s.pending s.running))

      still : (t : ℕ) → is_pending s.pending t ≡ true → is_pending mid.pending t ≡ true
      still t e = threads_keep (length s.queue) (opening m r s (charged s.pending s.running)) t
          (fallen_keeps (charged s.pending s.running t) (charged_keeps s.pending s.running t e))

      runs_pending : (x : Option Stop) → (x ≡ None → Choice mark (pending_tasks m.sheet.tasks mid.pending) c) →
          mid.running ≡ s.running → (n : ℕ) → runs x mid.running c ≡ Some n → (n < m.sheet.tasks) × (is_pending mid.pending n ≡ true)
      runs_pending None f e n q = chosen mark m.sheet.tasks mid.pending (Some n) (subst (Choice mark (pending_tasks m.sheet.tasks mid.pending)) q (f refl))
      runs_pending (Some x) f e n q = let old = i.running n (sym e ∙ q) in (old.0, still n old.1)

      go : (o : Option ℕ) → exhausted (budget p) (charged s.pending s.running) s.running ≡ o →
          Fair (exhausted (budget p) (charged s.pending s.running) s.running) → Small m p (After (exhausted (budget p) (charged s.pending s.running) s.running))
      go (Some x) e f = subst (λ (o : Option ℕ). Small m p (After o)) (sym e) (record {
        ports = i.ports;
        queue = i.queue;
        jobs = charged_fits s.pending s.running i.jobs (i.under g);
        under = λ z. cc;
        running = λ n q. (let old = i.running n q in (old.0, charged_keeps s.pending s.running n old.1));
        stop = λ y q. (let z : BudgetUsedUp x ≡ y = cc in
            subst (StopFits m p) z (inl refl, (i.running x (exhausted_is (charged s.pending s.running) s.running x e)).0, omega (arith, ty.inside)));
        log = tt;
      })
      go None e f =
          let t : Inside m p mid = threads_fit (length s.queue) (opening m r s (charged s.pending s.running)) (record {
            ports = put_long (kinds_of m.sheet) s.ports r ∙ i.ports;
            queue = queue_falls s.queue i.queue;
            jobs = fallen_fits (charged s.pending s.running) (charged_fits s.pending s.running i.jobs (i.under g));
            under = fallen_under (charged s.pending s.running) (charged_under s.pending s.running (i.under g) e);
            stop = λ x q. cc;
            log = tt;
          }) in
          subst (λ (o : Option ℕ). Small m p (After o)) (sym e) (record {
            ports = t.ports;
            queue = t.queue;
            jobs = t.jobs;
            under = λ z. t.under;
            running = runs_pending mid.stop (subst Fair e f) (threads_running (length s.queue) (opening m r s (charged s.pending s.running)));
            stop = t.stop;
            log = t.log;
          })

  done_fits : (t : ℕ) (s : State) → Small m p s → Small m p (done m t s)
  done_fits t s i = go (s.pending t)
    where
      gone : (P : ℕ → Job → Type 0) (u : ℕ) → OfJob P u (s.pending u) → OfJob P u (changed s.pending t None u)
      gone P u h = at_place (OfJob P) s.pending t None u (λ k e. cc) h

      go : (o : Option Job) → Small m p (finish m t o s)
      go None = i
      go (Some k) = record {
        ports = own_long (owns_of m.sheet t) 0 s.ports (m.work t k.taken) ∙ i.ports;
        queue = i.queue;
        jobs = λ u. gone (JobFits m p) u (i.jobs u);
        under = λ z u. gone (λ t k. k.used < budget p t) u (i.under z u);
        running = λ n e. cc;
        stop = i.stop;
        log = i.log;
      }

  calls_fit : (mark : Bool) (calls : List RunCall) (s : State) → Small m p s → AsChosen (Choice mark) m p calls s → Small m p (after m p calls s)
  calls_fit mark [] s i fair = i
  calls_fit mark (Tick r c ∷ calls) s i fair = go s.stop refl (counts m r) refl fair (λ s'. calls_fit mark calls s')
    where
      Gone : Option Stop → Bool → State
      Gone x k = if_going x (cond k (tick m p r c s) s) s

      Fair : Option Stop → Bool → Type 0
      Fair x k = (k ≡ true → (Gone x k).stop ≡ None → Choice mark (pending_tasks m.sheet.tasks (Gone x k).pending) c) × AsChosen (Choice mark) m p calls (Gone x k)

      IH : Type 0
      IH = (s' : State) → Small m p s' → AsChosen (Choice mark) m p calls s' → Small m p (after m p calls s')

      on : (x : Option Stop) (k : Bool) → s.stop ≡ x → IH → Fair x k → Small m p (after m p calls (Gone x k))
      on (Some x) k e ih f = ih s i f.1
      on None false e ih f = ih s i f.1
      on None true e ih f = ih (tick m p r c s) (tick_fits mark r c s e i (f.0 refl)) f.1

      go : (x : Option Stop) → s.stop ≡ x → (k : Bool) → counts m r ≡ k → Fair s.stop (counts m r) → IH → Small m p (after m p calls (Gone s.stop (counts m r)))
      go x e k q f ih =
          subst (λ (y : Option Stop). Small m p (after m p calls (Gone y (counts m r)))) (sym e)
          (subst (λ (b : Bool). Small m p (after m p calls (Gone x b))) (sym q)
          (on x k e ih (subst (λ (b : Bool). Fair x b) q (subst (λ (y : Option Stop). Fair y (counts m r)) e f))))
  calls_fit mark (Done t ∷ calls) s i fair = calls_fit mark calls (leaves m p (Done t) s) (on s.stop (is_running s.running t)) fair.1
    where
      on : (x : Option Stop) (k : Bool) → Small m p (if_going x (cond k (done m t s) s) s)
      on (Some x) k = i
      on None true = done_fits t s i
      on None false = i
  calls_fit mark (AskState ∷ calls) s i fair = calls_fit mark calls s i fair.1
  calls_fit mark (AskPort x ∷ calls) s i fair = calls_fit mark calls s i fair.1

-- the log in a state is that of one of the ticks, or of the begin
last_log : (m : Meaning) (p : Contents) (P : List Event → Type 0) (calls : List RunCall) (s : State) → P s.log → AllByRecursion P (ticks_of m p calls s) → P (after m p calls s).log
last_log m p P [] s l a = l
last_log m p P (Tick r c ∷ calls) s l a = on s.stop (counts m r) a (λ s'. last_log m p P calls s')
  where
    Gone : Option Stop → Bool → State
    Gone x k = if_going x (cond k (tick m p r c s) s) s

    on : (x : Option Stop) (k : Bool) →
        AllByRecursion P (if_going x (cond k ((Gone x k).log ∷ ticks_of m p calls (Gone x k)) (ticks_of m p calls (Gone x k))) (ticks_of m p calls (Gone x k))) →
        ((s' : State) → P s'.log → AllByRecursion P (ticks_of m p calls s') → P (after m p calls s').log) → P (after m p calls (Gone x k)).log
    on (Some x) k a ih = ih s l a
    on None false a ih = ih s l a
    on None true a ih = ih (tick m p r c s) a.0 a.1
last_log m p P (Done t ∷ calls) s l a = last_log m p P calls (leaves m p (Done t) s) (on s.stop (is_running s.running t)) a
  where
    kept : (o : Option Job) → P (finish m t o s).log
    kept None = l
    kept (Some k) = l

    on : (x : Option Stop) (k : Bool) → P (if_going x (cond k (done m t s) s) s).log
    on (Some x) k = l
    on None true = kept (s.pending t)
    on None false = l
last_log m p P (AskState ∷ calls) s l a = last_log m p P calls s l a
last_log m p P (AskPort x ∷ calls) s l a = last_log m p P calls s l a

-- every state that a run comes to is small
pub stays_small : (mark : Bool) (m : Meaning) (p : Contents) (v : Ports) (calls : List RunCall) → Begins m p v → ByPolicy mark m p calls (fresh p v) →
    Small m p (after m p calls (fresh p v))
stays_small mark m p v calls b fair =
    let ty = formed m.sheet p b.lawful.rules.few_tasks b.accepted b.rows in
    let begun : Small m p (fresh p v) = record {
      ports = b.ports;
      queue = ((omega arith, ty.inside), tt);
      jobs = λ t k e. cc;
      under = λ z t k e. cc;
      running = λ i e. cc;
      stop = λ x e. cc;
      log = tt;
    } in
    calls_fit m p b.lawful ty b.accepted.load.ticks mark calls (fresh p v) begun fair

pub grows : NothingGrows
grows mark m p v calls b fair =
    let ticks = b.accepted.load.ticks in
    let s : State = after m p calls (fresh p v) in
    let i : Small m p s = stays_small mark m p v calls b fair in
    let w = work m p v calls b in
    record {
      ports = i.ports;
      bindings = w.bindings;
      waits = All-weaker (Fits p) (λ b. b.wait ≤ 240) (λ b h. h.0) s.queue i.queue;
      addresses = All-weaker (Fits p) (λ b. b.at < size p) (λ b h. h.1) s.queue i.queue;
      tasks = λ t k e. (i.jobs t k e).below;
      left = λ t k e. (i.jobs t k e).left;
      used = λ t k e. (let j = i.jobs t k e in omega (arith, j.used, (ticks t j.below).1));
      taken = λ t k e. (i.jobs t k e).taken;
      running = λ n e. (i.running n e).1;
      stop = i.stop;
      log = last_log m p (λ log. length log ≤ m.sheet.tasks * size p) calls (fresh p v) (omega arith) w.instructions;
      events = both s.log i.log (last_log m p (AllByRecursion (λ e. e.waiting ≤ m.sheet.tasks)) calls (fresh p v) tt w.waiting);
    }
  where
    both : (log : List Event) → AllByRecursion (λ e. e.at < size p) log → AllByRecursion (λ e. e.waiting ≤ m.sheet.tasks) log → AllByRecursion (λ e. (e.at < size p) × (e.waiting ≤ m.sheet.tasks)) log
    both [] x y = tt
    both (e ∷ log) x y = ((x.0, y.0), both log x.1 y.1)
