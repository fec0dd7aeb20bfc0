-- Whole runs of an accepted program: every state between ticks is sound, so that work is bounded, and windows are kept under the
-- earliest deadline.
use Rattle.std.proofs.Common.{◌≡◌, ℕ, zero, suc, ◌+◌, ◌*◌, ◌<◌, ◌≤◌, Bool, true, false, cond, ◌⊎◌, List, [], ◌∷◌, length, get_or, ℤ, Some, None, Option, sym, refl, ap, ◌∙◌, subst, inl, inr, ⊎_elim, mul-le-mul_right, arith}
use mathlib.Core.Bool.{false≢true}
use Rattle.std.specs.List.{AllByRecursion}
use Rattle.std.proofs.lemmas.Bool.{cases_lt, eqb-true}
use Rattle.std.proofs.lemmas.List.{get_or_past}
use Rattle.ecode.specs.declared.code.Instruction.{Instruction}
use Rattle.ecode.specs.declared.code.Instruction.TheVariants.{Call, Release, Future, If, Jump, Return}
use Rattle.ecode.specs.Typing.{blank}
use Rattle.ecode.specs.Load.{window, sum_below, whole, part}
use Rattle.ecode.specs.Verdict.{Contents}
use Rattle.ecode.specs.Accepted.{LeastWindow, Ranged}
use Rattle.loader.proofs.Leasts.{window_least}
use Rattle.host.specs.Meaning.{Meaning}
use Rattle.policy.specs.Choice.{Choice}
use Rattle.machine.specs.declared.stop.Stop.{Stop}
use Rattle.machine.specs.State.{Ports, size, instruction_at, budget, Event, State, fresh}
use Rattle.machine.specs.Runner.{touched, next_after, performed, onward, thread, Due, first_due, with_queue, threads_on, unless_stopped, threads, charged, exhausted, opening, tick_on, tick, done}
use Rattle.machine.specs.Choices.{pending_tasks}
use Rattle.machine.specs.Calls.{RunCall, counts, is_running, if_going, leaves, after, ticks_of, AsChosen, Tick, Done, AskState, AskPort}
use Rattle.machine.specs.Begins.{Begins}
use Rattle.machine.specs.Loops.{LoopsEnd}
use Rattle.machine.specs.Work.{WorkIsBounded}
use Rattle.machine.specs.Windows.{UnderBudgets, NoneUsedUp, WindowsAreKept}
use Rattle.machine.proofs.Stops.{run_halts}
use Rattle.machine.proofs.Rates.{whole_pos, rate_covers}
use Rattle.machine.proofs.Queues.{all_wait}
use Rattle.machine.proofs.Clocks.{clock_after, one_tick_less, Clocked, clocked_kept}
use Rattle.machine.proofs.Steps.{Wide}
use Rattle.machine.proofs.Formed.{Formed, Higher, higher, formed}
use Rattle.machine.proofs.Ticks.{Ready, Over, Ticked, ready_few, tick_ran, done_ran, fresh_ready, not_late}

-- each thread runs at most so many instructions as it has turns
thread_long : (h : Meaning) (p : Contents) (turns a : ℕ) (s : State) → length (thread h p turns a s).log ≤ length s.log + turns
thread_long h p zero a s = omega arith
thread_long h p (suc turns) a s = go (touched h.sheet s.pending (instruction_at p a)) (λ b s'. thread_long h p turns b s')
  where
    onto : (o : Option ℕ) (s' : State) → length s'.log ≤ length s.log + 1 → ((b : ℕ) (s' : State) → length (thread h p turns b s').log ≤ length s'.log + turns) →
        length (onward (thread h p turns) s' o).log ≤ length s.log + suc turns
    onto None s' l ih = omega arith
    onto (Some b) s' l ih = omega (arith, ih b s')

    go : (o : Option ℕ) → ((b : ℕ) (s' : State) → length (thread h p turns b s').log ≤ length s'.log + turns) →
        length (onward (thread h p turns) (performed h (instruction_at p a) a o s).state (performed h (instruction_at p a) a o s).next).log ≤ length s.log + suc turns
    go None ih = onto (performed h (instruction_at p a) a None s).next (performed h (instruction_at p a) a None s).state (omega arith) ih
    go (Some t) ih = onto None (performed h (instruction_at p a) a (Some t) s).state (omega arith) ih

threads_long : (h : Meaning) (p : Contents) (turns : ℕ) (s : State) → length (threads h p turns s).log ≤ length s.log + turns * size p
threads_long h p zero s = omega arith
threads_long h p (suc turns) s = go (unless_stopped s.stop (first_due s.queue)) (λ s'. threads_long h p turns s')
  where
    go : (o : Option Due) → ((s' : State) → length (threads h p turns s').log ≤ length s'.log + turns * size p) →
        length (threads_on (threads h p turns) h p s o).log ≤ length s.log + suc turns * size p
    go None ih = omega arith
    go (Some d) ih = omega (arith, ih (thread h p (size p) d.address (with_queue s d.others)), thread_long h p (size p) d.address (with_queue s d.others))

tick_long : (h : Meaning) (p : Contents) (r : List ℤ) (c : Option ℕ) (s : State) → length (tick h p r c s).log ≤ length s.queue * size p
tick_long h p r c s = go (exhausted (budget p) (charged s.pending s.running) s.running)
  where
    go : (o : Option ℕ) → length (tick_on h p r c s (charged s.pending s.running) o).log ≤ length s.queue * size p
    go None = omega (arith, threads_long h p (length s.queue) (opening h r s (charged s.pending s.running)))
    go (Some x) = omega arith

running_is : (o : Option ℕ) (t : ℕ) → is_running o t ≡ true → o ≡ Some t
running_is None t e = absurd (false≢true e)
running_is (Some i) t e = ap (λ (n : ℕ). Some n) (eqb-true i t e)

module _ (h : Meaning) (p : Contents) (v : Ports) (mark : Bool) (b : Begins h p v) where
  -- K is a whole slot, and a task's rate its part of each
  abbrev K : ℕ
  K = whole h.sheet.tasks (window p.lines)

  abbrev rate : ℕ → ℕ
  rate = part h.sheet.tasks (window p.lines) (budget p)

  ty : Formed h.sheet p
  ty = formed h.sheet p b.lawful.rules.few_tasks b.accepted b.rows

  -- windows are not 0
  positive : (t a w : ℕ) → (get_or p.lines a blank).instruction ≡ Release t w → 1 ≤ w
  positive t a w e = elim (cases_lt a (size p)) [
    | inl l ↦ (subst (Ranged h.sheet) e (b.accepted.bounds.ranges a l)).1.0
    | inr l ↦ absurd (let z = sym (ap (λ x. x.instruction) (get_or_past p.lines a blank l)) ∙ e in cc)
  ]

  least : (t : ℕ) → LeastWindow p.lines t (window p.lines t)
  least t = window_least p.lines t (positive t)

  some_slot : 1 ≤ K
  some_slot = whole_pos h.sheet.tasks (window p.lines)

  load : sum_below h.sheet.tasks rate ≤ K
  load = b.accepted.load.sum (window p.lines) (λ t l. least t)

  wide : (a : ℕ) → a < size p → Wide K rate p (instruction_at p a)
  wide a k = go (instruction_at p a) refl
    where
      go : (i : Instruction) → instruction_at p a ≡ i → Wide K rate p i
      go (Call d) e = tt
      go (Release x w) e =
          let r = subst (Ranged h.sheet) e (b.accepted.bounds.ranges a k) in (
            (b.accepted.load.ticks x r.0).0,
            rate_covers h.sheet.tasks (window p.lines) (budget p) x w r.0
                (⊎_elim (λ (z : window p.lines x < 1). absurd ((least x).none (omega arith) a w k e)) (λ (z : 1 ≤ window p.lines x). z) (cases_lt (window p.lines x) 1))
                ((least x).least a w k e),
          )
      go (Future x y z) e = tt
      go (If c y) e = tt
      go (Jump y) e = tt
      go Return e = tt

  -- between ticks, the clocks c at hand
  abbrev Steady : (ℕ → Option ℕ) → State → Type 0
  Steady c s = Ready h p K rate mark some_slot ty wide c s

  -- whatever the next tick reads and chooses, none of its instructions leaves more bindings than tasks
  next_small : (c : ℕ → Option ℕ) (s : State) → mark ≡ false → Steady c s → (rd : List ℤ) (ch : Option ℕ) → AllByRecursion (λ e. e.waiting ≤ h.sheet.tasks) (tick h p rd ch s).log
  next_small c s e r rd ch =
      ⊎_elim (λ (k : Ticked h p K rate mark some_slot ty wide c (tick h p rd ch s)). k.small) (λ (k : Over h p K rate mark some_slot ty wide (tick h p rd ch s)). k.small)
      (tick_ran h p K rate mark some_slot ty wide c s rd ch load r (λ m. absurd (false≢true (sym e ∙ m))))

  -- what a run to the state e by these ticks keeps to, with the clocks c at its start and no budget used up
  record Keeps (c : ℕ → Option ℕ) (used : Type 0) (e : State) (ticks : List (List Event)) : Type 0 where
    bindings : length e.queue ≤ h.sheet.tasks
    instructions : AllByRecursion (λ log. length log ≤ h.sheet.tasks * size p) ticks
    waiting : AllByRecursion (λ log. AllByRecursion (λ e. e.waiting ≤ h.sheet.tasks) log) ticks
    ready : e.stop ≡ None → (c' : ℕ → Option ℕ) × Steady c' e
    timely : mark ≡ true → used → (e.stop ≡ None) × ((t : ℕ) → t < h.sheet.tasks → Clocked h.sheet t (c t) ticks)

  eased : (c : ℕ → Option ℕ) (used used' : Type 0) (e : State) (ticks : List (List Event)) → (used' → used) → Keeps c used e ticks → Keeps c used' e ticks
  eased c used used' e ticks f k = record { bindings = k.bindings; instructions = k.instructions; waiting = k.waiting; ready = k.ready; timely = λ m u. k.timely m (f u) }

  -- a tick, and what follows it
  ticked_on : (calls : List RunCall) (c : ℕ → Option ℕ) (s : State) → length s.log ≤ h.sheet.tasks * size p →
      ((c' : ℕ → Option ℕ) → Steady c' s → Keeps c' (NoneUsedUp h p calls s) (after h p calls s) (ticks_of h p calls s)) →
      Ticked h p K rate mark some_slot ty wide c s ⊎ Over h p K rate mark some_slot ty wide s →
      Keeps c (NoneUsedUp h p calls s) (after h p calls s) (s.log ∷ ticks_of h p calls s)
  ticked_on calls c s long ih (inl k) =
      let c' : ℕ → Option ℕ = λ t. clock_after h.sheet t (one_tick_less (c t)) s.log in
      let r = ih c' k.ready in
      record {
        bindings = r.bindings;
        instructions = (long, r.instructions);
        waiting = (k.small, r.waiting);
        ready = r.ready;
        timely = λ m u. (let z = r.timely m u in
            (z.0, λ t j. (k.ontime t j, (λ e. not_late h p K rate mark some_slot ty wide c' s k.ready t j e), z.1 t j)));
      }
  ticked_on calls c s long ih (inr k) =
      let st = run_halts h p calls s k.halt in
      record {
        bindings = subst (λ (e : State). length e.queue ≤ h.sheet.tasks) (sym st.0) k.few;
        instructions = (long, subst (AllByRecursion (λ log. length log ≤ h.sheet.tasks * size p)) (sym st.1) tt);
        waiting = (k.small, subst (AllByRecursion (λ log. AllByRecursion (λ e. e.waiting ≤ h.sheet.tasks) log)) (sym st.1) tt);
        ready = λ g. absurd (k.halt (sym (ap (λ (e : State). e.stop) st.0) ∙ g));
        timely = λ m u. absurd (let w = k.used_up m in omega (arith, under calls u w.0 w.1 w.2 w.3, w.4));
      }
    where
      under : (calls : List RunCall) → NoneUsedUp h p calls s → UnderBudgets h p s
      under [] u = u
      under (c ∷ calls) u = u.0

  whole_run : (calls : List RunCall) (c : ℕ → Option ℕ) (s : State) → Steady c s → (mark ≡ true → AsChosen (Choice true) h p calls s) →
      Keeps c (NoneUsedUp h p calls s) (after h p calls s) (ticks_of h p calls s)
  whole_run [] c s r fair = record {
    bindings = ready_few h p K rate mark some_slot ty wide c s r;
    instructions = tt;
    waiting = tt;
    ready = λ g. (c, r);
    timely = λ m u. (r.going, λ t k. tt);
  }
  whole_run (Tick rd ch ∷ calls) c s r fair =
      eased c (NoneUsedUp h p calls (leaves h p (Tick rd ch) s)) (NoneUsedUp h p (Tick rd ch ∷ calls) s) (after h p (Tick rd ch ∷ calls) s) (ticks_of h p (Tick rd ch ∷ calls) s) (λ u. u.1)
      (subst (λ (x : Option Stop). Fair x (counts h rd) → Left x (counts h rd)) (sym r.going) (go (counts h rd) refl (λ c' s'. whole_run calls c' s')) fair)
    where
      Gone : Option Stop → Bool → State
      Gone x k = if_going x (cond k (tick h p rd ch s) s) s

      Left : Option Stop → Bool → Type 0
      Left x k = Keeps c (NoneUsedUp h p calls (Gone x k)) (after h p calls (Gone x k))
          (if_going x (cond k ((Gone x k).log ∷ ticks_of h p calls (Gone x k)) (ticks_of h p calls (Gone x k))) (ticks_of h p calls (Gone x k)))

      Fair : Option Stop → Bool → Type 0
      Fair x k = mark ≡ true → (k ≡ true → (Gone x k).stop ≡ None → Choice true (pending_tasks h.sheet.tasks (Gone x k).pending) ch) × AsChosen (Choice true) h p calls (Gone x k)

      IH : Type 0
      IH = (c' : ℕ → Option ℕ) (s' : State) → Steady c' s' → (mark ≡ true → AsChosen (Choice true) h p calls s') → Keeps c' (NoneUsedUp h p calls s') (after h p calls s') (ticks_of h p calls s')

      on : (k : Bool) → IH → Fair None k → Left None k
      on false ih f = ih c s r (λ m. (f m).1)
      on true ih f =
          ticked_on calls c (tick h p rd ch s)
          (omega (arith, tick_long h p rd ch s, mul-le-mul_right (size p) (ready_few h p K rate mark some_slot ty wide c s r)))
          (λ c' r'. ih c' (tick h p rd ch s) r' (λ m. (f m).1))
          (tick_ran h p K rate mark some_slot ty wide c s rd ch load r (λ m. (f m).0 refl))

      go : (k : Bool) → counts h rd ≡ k → IH → Fair None (counts h rd) → Left None (counts h rd)
      go k e ih f = subst (Left None) (sym e) (on k ih (subst (Fair None) e f))
  whole_run (Done t ∷ calls) c s r fair =
      eased c (NoneUsedUp h p calls (leaves h p (Done t) s)) (NoneUsedUp h p (Done t ∷ calls) s) (after h p (Done t ∷ calls) s) (ticks_of h p (Done t ∷ calls) s) (λ u. u.1)
      (subst (λ (x : Option Stop). Fair x → Left x) (sym r.going) (go (is_running s.running t) refl (λ s'. whole_run calls c s')) fair)
    where
      Gone : Option Stop → State
      Gone x = if_going x (cond (is_running s.running t) (done h t s) s) s

      Left : Option Stop → Type 0
      Left x = Keeps c (NoneUsedUp h p calls (Gone x)) (after h p calls (Gone x)) (ticks_of h p calls (Gone x))

      Fair : Option Stop → Type 0
      Fair x = mark ≡ true → Unit {0} × AsChosen (Choice true) h p calls (Gone x)

      Rest : State → Type 0
      Rest s' = (mark ≡ true → AsChosen (Choice true) h p calls s') → Keeps c (NoneUsedUp h p calls s') (after h p calls s') (ticks_of h p calls s')

      go : (k : Bool) → is_running s.running t ≡ k → ((s' : State) → Steady c s' → Rest s') → Fair None → Left None
      go true e ih f =
          let u : cond (is_running s.running t) (done h t s) s ≡ done h t s = ap (λ (b : Bool). cond b (done h t s) s) e in
          subst Rest (sym u) (ih (done h t s) (done_ran h p K rate mark some_slot ty wide c s t (running_is s.running t e) r)) (λ m. (f m).1)
      go false e ih f =
          let u : cond (is_running s.running t) (done h t s) s ≡ s = ap (λ (b : Bool). cond b (done h t s) s) e in
          subst Rest (sym u) (ih s r) (λ m. (f m).1)
  whole_run (AskState ∷ calls) c s r fair =
      eased c (NoneUsedUp h p calls s) (NoneUsedUp h p (AskState ∷ calls) s) (after h p calls s) (ticks_of h p calls s) (λ u. u.1) (whole_run calls c s r (λ m. (fair m).1))
  whole_run (AskPort x ∷ calls) c s r fair =
      eased c (NoneUsedUp h p calls s) (NoneUsedUp h p (AskPort x ∷ calls) s) (after h p calls s) (ticks_of h p calls s) (λ u. u.1) (whole_run calls c s r (λ m. (fair m).1))

  from_fresh : (calls : List RunCall) → (mark ≡ true → AsChosen (Choice true) h p calls (fresh p v)) →
      Keeps (λ t. None) (NoneUsedUp h p calls (fresh p v)) (after h p calls (fresh p v)) (ticks_of h p calls (fresh p v))
  from_fresh calls fair = whole_run calls (λ t. None) (fresh p v) (fresh_ready h p K rate mark some_slot ty wide v b.lawful.rules.some_tasks) fair

pub windows : WindowsAreKept
windows m p v calls b fair none =
    let r = from_fresh m p v true b calls (λ e. fair) in
    let z = r.timely refl none in
    (z.0, clocked_kept m.sheet b.lawful.rules.some_tasks (λ t. None) (ticks_of m p calls (fresh p v)) z.1)

pub work : WorkIsBounded
work m p v calls b =
    let r = from_fresh m p v false b calls (λ e. absurd (false≢true e)) in
    record { bindings = r.bindings; instructions = r.instructions; waiting = r.waiting }

-- so it is of the tick after any calls, with any number of readings
pub next_waiting : (m : Meaning) (p : Contents) (v : Ports) (calls : List RunCall) → Begins m p v → (after m p calls (fresh p v)).stop ≡ None →
    (readings : List ℤ) (choice : Option ℕ) → AllByRecursion (λ e. e.waiting ≤ m.sheet.tasks) (tick m p readings choice (after m p calls (fresh p v))).log
next_waiting m p v calls b g readings choice =
    let r = (from_fresh m p v false b calls (λ e. absurd (false≢true e))).ready g in
    next_small m p v false b r.0 (after m p calls (fresh p v)) refl r.1 readings choice

-- more turns than a thread needs do nothing
module _ (m : Meaning) (p : Contents) (ty : Formed m.sheet p) where
  more_turns : (f g a : ℕ) (s : State) → a < size p → size p ≤ a + f → size p ≤ a + g → thread m p f a s ≡ thread m p g a s
  more_turns zero g a s k l n = absurd (omega arith)
  more_turns (suc f) zero a s k l n = absurd (omega arith)
  more_turns (suc f) (suc g) a s k l n = go (touched m.sheet s.pending (instruction_at p a)) (λ b s' x y z. more_turns f g b s' x y z)
    where
      IH : Type 0
      IH = (b : ℕ) (s' : State) → b < size p → size p ≤ b + f → size p ≤ b + g → thread m p f b s' ≡ thread m p g b s'

      onto : (o : Option ℕ) (s' : State) → Higher p a o → IH → onward (thread m p f) s' o ≡ onward (thread m p g) s' o
      onto None s' u ih = refl
      onto (Some b) s' u ih = ih b s' u.1 (omega arith) (omega arith)

      go : (o : Option ℕ) → IH →
          onward (thread m p f) (performed m (instruction_at p a) a o s).state (performed m (instruction_at p a) a o s).next
          ≡ onward (thread m p g) (performed m (instruction_at p a) a o s).state (performed m (instruction_at p a) a o s).next
      go None ih = onto (next_after m (instruction_at p a) a s.ports) (performed m (instruction_at p a) a None s).state (higher m p (instruction_at p a) a s.ports (ty.aims a k)) ih
      go (Some t) ih = refl

pub loops : LoopsEnd
loops m p v b = record {
  thread_ends = λ a more s l. more_turns m p (formed m.sheet p b.lawful.rules.few_tasks b.accepted b.rows) (size p + more) (size p) a s l (omega arith) (omega arith);
  none_due = λ calls g. all_wait (after m p calls (fresh p v)).queue ((from_fresh m p v false b calls (λ e. absurd (false≢true e))).ready g).1.rest;
}
