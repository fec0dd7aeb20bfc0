-- The phases of a tick on a sound run: what each leaves, and what the tick then answers, by the reference runner.
use Rattle.std.proofs.Common.{◌≡◌, ℕ, ◌≤◌, Bool, true, false, List, [], length, get_or, ℤ, Some, None, Ok, Err, Option, sym, ap, ◌∙◌, subst, arith}
use lib.ListN.{length-map}
use Rattle.std.proofs.lemmas.Bool.{eq-eqb}
use Rattle.ecode.specs.Verdict.{Contents}
use Rattle.host.specs.Meaning.{Meaning, Lawful}
use Rattle.policy.specs.declared.pending.PendingTask.{PendingTask}
use Rattle.policy.specs.Choice.{Choice}
use Rattle.machine.specs.declared.stop.Stop.{Stop}
use Rattle.machine.specs.declared.stop.Stop.TheVariants as stop
use Rattle.machine.specs.declared.fault.RunFault.TheVariants.{BudgetUsedUp}
use Rattle.machine.specs.State.{Ports, Table, State, bare, is_pending, budget}
use Rattle.machine.specs.Runner.{charged, exhausted, one_less_wait, kinds_of, opening, closing, threads}
use Rattle.machine.specs.Choices.{pending_tasks}
use Rattle.machine.specs.Calls.{Tick, counts, sensor_count, leaves, fault_of, ran_or_stopped, tick_answer, Asked}
use Rattle.machine.proofs.Reached.{Steady}
use Rattle.parts.specs.declared.data.Wiring.{Wiring}
use Rattle.parts.specs.Shown.{queued, jobs}
use Rattle.runner.specs.declared.bench.Bench.{Bench}
use Rattle.runner.specs.declared.progress.Progress.{Progress}
use Rattle.runner.specs.declared.run.Run.{Run}
use Rattle.runner.specs.Standing.{standing, after_charge}
use Rattle.runner.specs.Turns.{Inside, Roomy}
use Rattle.runner.specs.Sound.{loaded, SameBench, working, shown, SoundRun}
use Rattle.runner.proofs.Sounds.{same_program, same_count, both_same, steady_run}
use Rattle.runner.proofs.Turns.{size_is}
use Rattle.runner.proofs.Ticks.{sensors_long, ticks, answers, used_up, goes, exhausted_same, charged_pending, none_beyond, inside_fallen, closed_stopped, closed_going, stopped_answer, ran_answer}

-- a tick of a sound run that has not stopped, with a reading for each sensor port
pub record Begun {H P : Type 0} (meaning : H → Meaning) (ports : H → Ports) (mark : P → Bool) (r : Run H P) (rd : List ℤ) : Type 0 where
  pub lawful : (h : H) → Lawful (meaning h)
  pub sound : SoundRun meaning ports mark r
  pub none : r.progress.stop ≡ None
  pub enough : length rd ≡ r.bench.wiring.sensors.len

module _ {H P : Type 0} {meaning : H → Meaning} {ports : H → Ports} {mark : P → Bool} {r : Run H P} {rd : List ℤ} (k : Begun meaning ports mark r rd) where
  abbrev m : Meaning
  m = meaning r.bench.host

  abbrev w : Wiring
  w = r.bench.wiring

  abbrev p : Contents
  p = loaded r.bench

  abbrev v : Ports
  v = ports r.bench.host

  abbrev s : State
  s = shown ports r

  -- the table once the slot is charged
  abbrev slots : Table
  slots = charged s.pending s.running

  pub rests : Steady m p s
  rests = steady_run meaning ports mark k.lawful r k.sound k.none

  takes : counts m rd ≡ true
  takes = eq-eqb (length rd) (sensor_count (kinds_of m.sheet)) (k.enough ∙ sensors_long m.sheet w k.sound.bench.wired)

  -- what the charge answered, and left
  pub record Charged (o : Option ℕ) (g : Progress) : Type 0 where
    pub said : o ≡ exhausted (λ t. get_or r.bench.program.budgets t 0) slots s.running
    pub left : standing w v [] g ≡ after_charge o s

  charges : (o : Option ℕ) (g : Progress) → Charged o g → exhausted (budget p) slots s.running ≡ o
  charges o g q =
      sym (q.said ∙ exhausted_same r.bench.program.budgets w.tasks slots s.running (λ i e. omega (arith, (rests.busy i e).below, k.sound.bench.wired.tasks)))

  -- a budget is used up
  module _ {t : ℕ} {g : Progress} (q : Charged (Some t) g) where
    is_over : leaves m p (Tick rd None) s ≡ after_charge (Some t) s
    is_over = ticks m p rd s k.none takes None ∙ used_up m p rd s k.none None t (charges (Some t) g q)

    pub over_state : standing w v [] g ≡ bare (leaves m p (Tick rd None) s)
    over_state = q.left ∙ sym (ap bare is_over)

    pub over_answer : Err (BudgetUsedUp t) ≡ tick_answer m rd s (leaves m p (Tick rd None) s)
    over_answer = sym (answers m p rd s k.none takes (leaves m p (Tick rd None) s) ∙ ap (λ (x : State). ran_or_stopped x.stop (length x.log) x.running) is_over)

    pub over_asked : Asked (Choice (mark r.policy)) m (Tick rd None) (leaves m p (Tick rd None) s)
    over_asked c e = absurd (let z : Some (stop.BudgetUsedUp t) ≡ None = sym (ap (λ (x : State). x.stop) is_over) ∙ e in cc)

  -- none is: g is what the charge left
  module _ {g : Progress} (q : Charged None g) where
    pub still_going : g.stop ≡ None
    still_going = ap (λ (x : State). x.stop) q.left ∙ k.none

    pub still_below : (t : ℕ) → w.tasks ≤ t → is_pending (jobs w.ports g.table) t ≡ false
    still_below t h =
        ap (λ (x : State). is_pending x.pending t) q.left ∙ charged_pending s.pending s.running t ∙ none_beyond m p s rests t (omega (arith, k.sound.bench.wired.tasks))

    -- time has passed: b₁ and g₁ are what is left then
    pub record Opened (b₁ : Bench H) (g₁ : Progress) : Type 0 where
      pub same : SameBench meaning r.bench b₁
      pub opens : working ports b₁ [] g₁ ≡ opening m rd (standing w v [] g) (jobs w.ports g.table)

    module _ {b₁ : Bench H} {g₁ : Progress} (u : Opened b₁ g₁) where
      opened : working ports b₁ [] g₁ ≡ opening m rd s slots
      opened = u.opens ∙ ap (λ (x : State). opening m rd x x.pending) q.left

      pub no_stop : g₁.stop ≡ None
      no_stop = ap (λ (x : State). x.stop) opened

      pub queue_inside : Inside b₁.program.listing.count (queued g₁.queue)
      queue_inside =
          subst (λ n. Inside n (queued g₁.queue)) (size_is w r.bench.program ∙ sym (same_count meaning r.bench b₁ u.same))
          (subst (Inside _) (sym (ap (λ (x : State). x.queue) opened)) (inside_fallen _ s.queue rests.inside))

      -- what the due loop comes to
      abbrev pub whole : State
      whole = threads m p (length s.queue) (opening m rd s slots)

      -- the same as the due loop's contract has it
      abbrev pub due : State
      due = threads (meaning b₁.host) (loaded b₁) (length (queued g₁.queue)) (working ports b₁ [] g₁)

      -- it is what the due loop comes to
      pub whole_is : due ≡ whole
      whole_is =
          ap (λ x. threads x (loaded b₁) (length (queued g₁.queue)) (working ports b₁ [] g₁)) u.same.host
          ∙ ap (λ q. threads m q (length (queued g₁.queue)) (working ports b₁ [] g₁)) (same_program meaning r.bench b₁ u.same)
          ∙ ap (λ n. threads m p n (working ports b₁ [] g₁)) (ap (λ (x : State). length x.queue) opened ∙ length-map s.queue one_less_wait)
          ∙ ap (threads m p (length s.queue)) opened

      ends_as : (c : Option ℕ) → leaves m p (Tick rd c) s ≡ closing whole c
      ends_as c = ticks m p rd s k.none takes c ∙ goes m p rd s k.none c (charges None g q)

      pub room : Roomy due.log
      room =
          subst (λ (x : State). Roomy x.log) (sym whole_is)
          (subst (λ (x : State). Roomy x.log) (goes m p rd s k.none None (charges None g q)) (rests.room rd None))

      -- the due loop has ended: b₂ and g₂ are what is left then, and it ran n instructions
      pub record Ended (b₂ : Bench H) (g₂ : Progress) (n : ℕ) : Type 0 where
        pub after : working ports b₂ due.log g₂ ≡ due
        pub counted : n ≡ length due.log
        pub same : SameBench meaning b₁ b₂

      module _ {b₂ : Bench H} {g₂ : Progress} {n : ℕ} (e : Ended b₂ g₂ n) where
        pub kept : SameBench meaning r.bench b₂
        kept = both_same meaning r.bench b₁ b₂ u.same e.same

        came : working ports b₂ whole.log g₂ ≡ whole
        came = subst (λ (x : State). working ports b₂ x.log g₂ ≡ x) whole_is e.after

        -- it stopped
        module _ (x : Stop) (stopped : g₂.stop ≡ Some x) where
          whole_stop : whole.stop ≡ Some x
          whole_stop = ap (λ (y : State). y.stop) (sym came) ∙ stopped

          stays : leaves m p (Tick rd None) s ≡ whole
          stays = ends_as None ∙ closed_stopped whole x None whole_stop

          pub stop_state : working ports b₂ [] g₂ ≡ bare (leaves m p (Tick rd None) s)
          stop_state = ap bare came ∙ sym (ap bare stays)

          pub stop_answer : Err (fault_of x) ≡ tick_answer m rd s (leaves m p (Tick rd None) s)
          stop_answer =
              stopped_answer whole.stop x (length whole.log) whole.running whole_stop
              ∙ sym (answers m p rd s k.none takes (leaves m p (Tick rd None) s) ∙ ap (λ (y : State). ran_or_stopped y.stop (length y.log) y.running) stays)

          pub stop_asked : Asked (Choice (mark r.policy)) m (Tick rd None) (leaves m p (Tick rd None) s)
          stop_asked c f = absurd (let z : Some x ≡ None = sym (ap (λ (y : State). y.stop) stays ∙ whole_stop) ∙ f in cc)

        -- it did not, and the policy chose c
        module _ (c : Option ℕ) (going : g₂.stop ≡ None) where
          goes_on : leaves m p (Tick rd c) s ≡ record { ports = whole.ports; queue = whole.queue; pending = whole.pending; running = c; stop = whole.stop; log = whole.log }
          goes_on = ends_as c ∙ closed_going whole c (ap (λ (y : State). y.stop) (sym came) ∙ going)

          pub ran_state : working ports b₂ [] (record { queue = g₂.queue; table = g₂.table; running = c; stop = g₂.stop }) ≡ bare (leaves m p (Tick rd c) s)
          ran_state = ap (λ (y : State). record { ports = y.ports; queue = y.queue; pending = y.pending; running = c; stop = y.stop; log = [] }) came ∙ sym (ap bare goes_on)

          pub ran_answer_is : Ok (record { instructions = n; running = c }) ≡ tick_answer m rd s (leaves m p (Tick rd c) s)
          ran_answer_is =
              ran_answer whole.stop n (length whole.log) c (ap (λ (y : State). y.stop) (sym came) ∙ going) (e.counted ∙ ap (λ (x : State). length x.log) whole_is)
              ∙ sym (answers m p rd s k.none takes (leaves m p (Tick rd c) s) ∙ ap (λ (y : State). ran_or_stopped y.stop (length y.log) y.running) goes_on)

          -- the policy was told the pending tasks
          pub ran_asked : (list : List PendingTask) → list ≡ pending_tasks b₂.wiring.tasks (jobs b₂.wiring.ports g₂.table)
              → Choice (mark r.policy) list c → Asked (Choice (mark r.policy)) m (Tick rd c) (leaves m p (Tick rd c) s)
          ran_asked list told choice a f =
              let told_all : list ≡ pending_tasks m.sheet.tasks (leaves m p (Tick rd c) s).pending =
              told ∙ ap (λ j. pending_tasks j (jobs b₂.wiring.ports g₂.table)) (ap (λ (w : Wiring). w.tasks) kept.wiring ∙ k.sound.bench.wired.tasks)
              ∙ ap (pending_tasks m.sheet.tasks) (ap (λ (y : State). y.pending) came ∙ sym (ap (λ (y : State). y.pending) goes_on)) in
              subst (λ l. Choice (mark r.policy) l c) told_all choice
