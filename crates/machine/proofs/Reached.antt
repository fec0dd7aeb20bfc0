-- What the code of a run rests on, of every state that a list of calls comes to.
use Rattle.std.proofs.Common.{◌≡◌, ℕ, zero, suc, ◌<◌, ◌≤◌, Bool, true, false, cond, List, [], ◌∷◌, ◌++◌, length, take, ℤ, is_some, Some, None, Err, Option, Result, refl, ap, subst, arith}
use mathlib.Core.Bool.{false≢true}
use Rattle.std.specs.List.{AllByRecursion}
use Rattle.std.proofs.ByRecursion.{All-weaker}
use Rattle.ecode.specs.Verdict.{Contents}
use Rattle.host.specs.Meaning.{Meaning}
use Rattle.policy.specs.declared.pending.PendingTask.{PendingTask}
use Rattle.machine.specs.declared.answer.Answer.{Answer}
use Rattle.machine.specs.declared.answer.Answer.TheVariants.{Ran}
use Rattle.machine.specs.declared.fault.RunFault.{RunFault}
use Rattle.machine.specs.declared.fault.RunFault.TheVariants.{Readings}
use Rattle.machine.specs.declared.stop.Stop.{Stop}
use Rattle.machine.specs.State.{Ports, size, budget, Job, State, fresh, bare}
use Rattle.machine.specs.Runner.{charged, exhausted, tick_on, tick, finish, done}
use Rattle.machine.specs.Calls.{RunCall, counts, is_running, if_going, leaves, ran_or_stopped, unless_over, answered, answer, after, answers, Asked, AsChosen, ByPolicy, Tick, Done, AskState, AskPort}
use Rattle.machine.specs.Begins.{Begins}
use Rattle.machine.proofs.Wholes.{work, next_waiting, loops}
use Rattle.machine.proofs.Growth.{Fits, Small, stays_small}
use Rattle.machine.proofs.Taken.{AsTaken, Finds, kept, as_taken}

-- a tick does not look at the log before it
tick_bare : (m : Meaning) (p : Contents) (r : List ℤ) (c : Option ℕ) (s : State) → tick m p r c (bare s) ≡ tick m p r c s
tick_bare m p r c s = go (exhausted (budget p) (charged s.pending s.running) s.running)
  where
    go : (o : Option ℕ) → tick_on m p r c (bare s) (charged s.pending s.running) o ≡ tick_on m p r c s (charged s.pending s.running) o
    go None = refl
    go (Some i) = refl

-- nor does the end of a task
finish_bare : (m : Meaning) (t : ℕ) (o : Option Job) (s : State) → bare (finish m t o (bare s)) ≡ bare (finish m t o s)
finish_bare m t None s = refl
finish_bare m t (Some k) s = refl

-- the log of the state before does not matter to what a call leaves
pub leaves_bare : (m : Meaning) (p : Contents) (c : RunCall) (s : State) → bare (leaves m p c (bare s)) ≡ bare (leaves m p c s)
leaves_bare m p (Tick r c) s = go s.stop (counts m r)
  where
    go : (x : Option Stop) (b : Bool) → bare (if_going x (cond b (tick m p r c (bare s)) (bare s)) (bare s)) ≡ bare (if_going x (cond b (tick m p r c s) s) s)
    go None true = ap bare (tick_bare m p r c s)
    go None false = refl
    go (Some x) b = refl
leaves_bare m p (Done t) s = go s.stop (is_running s.running t)
  where
    go : (x : Option Stop) (b : Bool) → bare (if_going x (cond b (done m t (bare s)) (bare s)) (bare s)) ≡ bare (if_going x (cond b (done m t s) s) s)
    go None true = finish_bare m t (s.pending t) s
    go None false = refl
    go (Some x) b = refl
leaves_bare m p AskState s = refl
leaves_bare m p (AskPort x) s = refl

-- nor to what it answers
pub answer_bare : (m : Meaning) (p : Contents) (c : RunCall) (s : State) → answer m p c (bare s) ≡ answer m p c s
answer_bare m p (Tick r c) s = go s.stop (counts m r)
  where
    -- the answer of a tick to s', with the run stopped or not before it and the readings counted or not
    told : Option Stop → Bool → State → Result Answer RunFault
    told x b s' = answered Ran (unless_over x (cond b (ran_or_stopped s'.stop (length s'.log) s'.running) (Err (Readings (length r)))))

    go : (x : Option Stop) (b : Bool) → told x b (if_going x (cond b (tick m p r c (bare s)) (bare s)) (bare s)) ≡ told x b (if_going x (cond b (tick m p r c s) s) s)
    go None true = ap (told None true) (tick_bare m p r c s)
    go None false = refl
    go (Some x) b = refl
answer_bare m p (Done t) s = refl
answer_bare m p AskState s = refl
answer_bare m p (AskPort x) s = refl

-- one call more at the end of a list
pub after_more : (m : Meaning) (p : Contents) (calls : List RunCall) (c : RunCall) (s : State) → after m p (calls ++ (c ∷ [])) s ≡ leaves m p c (after m p calls s)
after_more m p [] c s = refl
after_more m p (d ∷ calls) c s = after_more m p calls c (leaves m p d s)

pub answers_more : (m : Meaning) (p : Contents) (calls : List RunCall) (c : RunCall) (s : State) →
    answers m p (calls ++ (c ∷ [])) s ≡ answers m p calls s ++ (answer m p c (after m p calls s) ∷ [])
answers_more m p [] c s = refl
answers_more m p (d ∷ calls) c s = ap (λ (xs : List (Result Answer RunFault)). answer m p d s ∷ xs) (answers_more m p calls c (leaves m p d s))

-- its choice is right after right ones
pub chosen_more : (Right : List PendingTask → Option ℕ → Type 0) (m : Meaning) (p : Contents) (calls : List RunCall) (c : RunCall) (s : State) →
    AsChosen Right m p calls s → Asked Right m c (leaves m p c (after m p calls s)) → AsChosen Right m p (calls ++ (c ∷ [])) s
chosen_more Right m p [] c s fair right = (right, tt)
chosen_more Right m p (d ∷ calls) c s fair right = (fair.0, chosen_more Right m p calls c (leaves m p d s) fair.1 right)

-- the first calls of a list whose choices are right
pub chosen_front : (Right : List PendingTask → Option ℕ → Type 0) (m : Meaning) (p : Contents) (n : ℕ) (calls : List RunCall) (s : State) →
    AsChosen Right m p calls s → AsChosen Right m p (take n calls) s
chosen_front Right m p zero calls s fair = tt
chosen_front Right m p (suc n) [] s fair = tt
chosen_front Right m p (suc n) (c ∷ calls) s fair = (fair.0, chosen_front Right m p n calls (leaves m p c s) fair.1)

-- in every state, stopped or not, there are as many ports as the sheet has
pub reached_ports : (m : Meaning) (p : Contents) (v : Ports) (calls : List RunCall) → Begins m p v → length (after m p calls (fresh p v)).ports ≡ m.sheet.ports
reached_ports m p v calls b = (kept m p v calls b).long

-- and only tasks of the sheet are pending
pub reached_below : (m : Meaning) (p : Contents) (v : Ports) (calls : List RunCall) → Begins m p v → (t : ℕ) (k : Job) →
    (after m p calls (fresh p v)).pending t ≡ Some k → t < m.sheet.tasks
reached_below m p v calls b t k e = (subst (Finds m (after m p calls (fresh p v)).ports t) e ((kept m p v calls b).tasks t)).0

-- the running task i: it is pending, has not used up its budget, and finds its ports as they were taken
pub record Busy (m : Meaning) (p : Contents) (s : State) (i : ℕ) : Type 0 where
  pub below : i < m.sheet.tasks
  pub job : Job
  pub is : s.pending i ≡ Some job
  pub used : job.used < budget p i
  pub budget_small : budget p i ≤ 240
  pub as_taken : AsTaken m s.ports i job

-- what a call on a run that has not stopped rests on
pub record Steady (m : Meaning) (p : Contents) (s : State) : Type 0 where
  -- with any readings, however many, no instruction of the next tick leaves more than 8 bindings
  pub room : (readings : List ℤ) (choice : Option ℕ) → AllByRecursion (λ e. e.waiting ≤ 8) (tick m p readings choice s).log
  -- at most 8 bindings wait, each at an address of the program and for a later tick
  pub few : length s.queue ≤ 8
  pub inside : AllByRecursion (λ b. b.at < size p) s.queue
  pub waits : AllByRecursion (λ b. 1 ≤ b.wait) s.queue
  -- only tasks of the sheet are pending, and there are as many ports as it has
  pub below : (t : ℕ) (k : Job) → s.pending t ≡ Some k → t < m.sheet.tasks
  pub long : length s.ports ≡ m.sheet.ports
  pub busy : (i : ℕ) → s.running ≡ Some i → Busy m p s i

pub steady : (mark : Bool) (m : Meaning) (p : Contents) (v : Ports) (calls : List RunCall) → Begins m p v → ByPolicy mark m p calls (fresh p v) →
    (after m p calls (fresh p v)).stop ≡ None → Steady m p (after m p calls (fresh p v))
steady mark m p v calls b fair going = record {
  room = λ readings choice. All-weaker (λ e. e.waiting ≤ m.sheet.tasks) (λ e. e.waiting ≤ 8) (λ e l. omega (arith, b.lawful.rules.few_tasks))
      (tick m p readings choice s).log (next_waiting m p v calls b going readings choice);
  few = omega (arith, (work m p v calls b).bindings, b.lawful.rules.few_tasks);
  inside = All-weaker (Fits p) (λ x. x.at < size p) (λ x h. h.1) s.queue small.queue;
  waits = (loops m p v b).none_due calls going;
  below = reached_below m p v calls b;
  long = reached_ports m p v calls b;
  busy = λ i e. (let r = small.running i e in at i r.0 (s.pending i) refl r.1);
}
  where
    s : State
    s = after m p calls (fresh p v)

    small : Small m p s
    small = stays_small mark m p v calls b fair

    at : (i : ℕ) → i < m.sheet.tasks → (o : Option Job) → s.pending i ≡ o → is_some o ≡ true → Busy m p s i
    at i l None e q = absurd (false≢true q)
    at i l (Some k) e q = record {
      below = l;
      job = k;
      is = e;
      used = small.under going i k e;
      budget_small = (b.accepted.load.ticks i l).1;
      as_taken = as_taken m p v calls b i k l e;
    }
