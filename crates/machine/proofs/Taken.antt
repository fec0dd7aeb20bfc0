-- While a task is pending, the ports that it owns and reads stay as they were taken at its release. So a task that works on the
-- ports as they are does what it would have done to those taken.
use Rattle.std.proofs.Common.{◌≡◌, ℕ, zero, suc, ◌+◌, ◌-◌, ◌/◌, ◌%◌, ◌^◌, ◌<◌, ◌≤◌, Bool, true, false, cond, eqb, List, [], ◌∷◌, length, ℤ, pos, is_some, Some, None, Option, sym, refl, ap, ◌∙◌, subst, inr, ⊎_elim, true≢false, zero-add, arith, get_or-take, ext_get_or}
use Rattle.std.proofs.lemmas.Bool.{cases_lt, eqb-true, eqb-false}
use Rattle.std.proofs.lemmas.List.{get_or_past}
use Rattle.ecode.specs.declared.port.PortKind.{PortKind}
use Rattle.ecode.specs.declared.port.PortKind.TheVariants.{Sensor, Driver, Task}
use Rattle.ecode.specs.declared.code.Instruction.{Instruction}
use Rattle.ecode.specs.declared.code.Instruction.TheVariants.{Call, Release, Future, If, Jump, Return}
use Rattle.ecode.specs.Wiring.{has}
use Rattle.ecode.specs.Sheets.{In, Port, kind, owns_of, sees_of}
use Rattle.ecode.specs.Typing.{blank}
use Rattle.ecode.specs.Verdict.{Contents}
use Rattle.ecode.specs.Accepted.{Ranged}
use Rattle.ecode.proofs.Meets.{tells_shares}
use Rattle.host.specs.Meaning.{Meaning, Lawful, Agree, reading}
use Rattle.machine.specs.declared.stop.Stop.{Stop}
use Rattle.machine.specs.State.{Ports, size, instruction_at, budget, Job, Table, State, fresh}
use Rattle.machine.specs.Runner.{touched, performed, step, onward, thread, Due, first_due, with_queue, threads_on, unless_stopped, threads, one_more_used, charged, exhausted, one_less_left, kinds_of, put_readings, opening, tick_on, tick, put_own, finish, done}
use Rattle.machine.specs.Calls.{RunCall, counts, is_running, if_going, leaves, after, Tick, Done, AskState, AskPort}
use Rattle.machine.specs.Begins.{Begins}
use Rattle.machine.proofs.Lowest.{not_touched}
use Rattle.machine.proofs.Alike.{put_long, put_other, own_long, own_off, own_on, not_in, apart, drive_long, drive_only}

-- the job k of task t has its ports taken as they are in v
pub record AsTaken (m : Meaning) (v : Ports) (t : ℕ) (k : Job) : Type 0 where
  pub long : length k.taken ≡ length v
  pub own : Agree (owns_of m.sheet t) v k.taken
  pub seen : Agree (sees_of m.sheet t) v k.taken

-- what is pending is a task of the sheet, and finds its ports as taken
abbrev pub Finds : Meaning → Ports → ℕ → Option Job → Type 0
Finds m v t None = Unit {0}
Finds m v t (Some k) = (t < m.sheet.tasks) × AsTaken m v t k

-- so it is of every task, and the ports are those of the sheet
pub record Kept (m : Meaning) (v : Ports) (f : Table) : Type 0 where
  pub long : length v ≡ m.sheet.ports
  pub tasks : (t : ℕ) → Finds m v t (f t)

-- ports that change only elsewhere
moved : (m : Meaning) (v w : Ports) (t : ℕ) (k k' : Job) → k'.taken ≡ k.taken → length w ≡ length v →
    Agree (owns_of m.sheet t) w v → Agree (sees_of m.sheet t) w v → AsTaken m v t k → AsTaken m w t k'
moved m v w t k k' e l a b x = record {
  long = ap length e ∙ x.long ∙ sym l;
  own = λ p i. a p i ∙ x.own p i ∙ ap (λ (u : Ports). reading u p) (sym e);
  seen = λ p i. b p i ∙ x.seen p i ∙ ap (λ (u : Ports). reading u p) (sym e);
}

-- a slot used, or a tick less left
more_finds : (m : Meaning) (v : Ports) (t : ℕ) (o : Option Job) → Finds m v t o → Finds m v t (one_more_used o)
more_finds m v t None x = tt
more_finds m v t (Some k) x = (x.0, moved m v v t k (record { left = k.left; used = k.used + 1; taken = k.taken }) refl refl (λ p i. refl) (λ p i. refl) x.1)

charged_finds : (m : Meaning) (v : Ports) (f : Table) (r : Option ℕ) → ((t : ℕ) → Finds m v t (f t)) → (t : ℕ) → Finds m v t (charged f r t)
charged_finds m v f None x t = x t
charged_finds m v f (Some i) x t = go (eqb t i) refl
  where
    go : (b : Bool) → eqb t i ≡ b → Finds m v t (cond b (one_more_used (f i)) (f t))
    go true e = subst (λ (u : ℕ). Finds m v u (one_more_used (f i))) (sym (eqb-true t i e)) (more_finds m v i (f i) (x i))
    go false e = x t

module _ (m : Meaning) (ok : Lawful m) where
  -- readings are put on sensor ports only
  unread : (v : Ports) (r : List ℤ) (p : ℕ) → Port m.sheet p → (kind m.sheet p ≡ Sensor → ⊥) → reading (put_readings (kinds_of m.sheet) v r) p ≡ reading v p
  unread v r p l n = put_other (kinds_of m.sheet) v r p (λ e. n (sym (get_or-take m.sheet.ports m.sheet.kinds p Sensor l) ∙ e))

  fallen_finds : (v : Ports) (r : List ℤ) (t : ℕ) (o : Option Job) → Finds m v t o → Finds m (put_readings (kinds_of m.sheet) v r) t (one_less_left o)
  fallen_finds v r t None x = tt
  fallen_finds v r t (Some k) x = (
    x.0,
    moved m v (put_readings (kinds_of m.sheet) v r) t k (record { left = k.left - 1; used = k.used; taken = k.taken }) refl (put_long (kinds_of m.sheet) v r)
        (λ p i. (let q = ok.rules.owned t p i in unread v r p q.0 (λ e. not_task q.1 e)))
        (λ p i. (let q = ok.rules.seen t p i in unread v r p q.0 (λ e. not_driver q.1 e))) x.1,
  )
    where
      not_task : {y : PortKind} → y ≡ Task → y ≡ Sensor → ⊥
      not_task e f = cc

      not_driver : {y : PortKind} → y ≡ Driver → y ≡ Sensor → ⊥
      not_driver e f = cc

  -- a call that touches no pending task writes no port of one
  call_finds : (d : ℕ) (v : Ports) (f : Table) → touched m.sheet f (Call d) ≡ None → (t : ℕ) (o : Option Job) → f t ≡ o → Finds m v t o → Finds m (m.drive d v) t o
  call_finds d v f free t None e x = tt
  call_finds d v f free t (Some k) e x = (
    x.0,
    moved m v (m.drive d v) t k k refl (drive_long m ok d v)
        (λ p i. drive_only m ok d v p (λ w. apart (ok.rules.written d p w).1 (ok.rules.owned t p i).1))
        (λ p i. drive_only m ok d v p (λ w. true≢false (sym (ap is_some e) ∙ not_touched m.sheet d f t x.0 free ((tells_shares m.sheet d t).1 (inr (p, w, i))))))
        x.1,
  )

  performed_keeps : (i : Instruction) (a : ℕ) (o : Option ℕ) (s : State) → touched m.sheet s.pending i ≡ o → Ranged m.sheet i → Kept m s.ports s.pending →
      Kept m (performed m i a o s).state.ports (performed m i a o s).state.pending
  performed_keeps i a (Some t) s e r x = record { long = x.long; tasks = x.tasks }
  performed_keeps (Call d) a None s e r x = record {
    long = drive_long m ok d s.ports ∙ x.long;
    tasks = λ t. call_finds d s.ports s.pending e t (s.pending t) refl (x.tasks t);
  }
  performed_keeps (Release u w) a None s e r x = record { long = x.long; tasks = λ t. go t (eqb t u) refl }
    where
      job : Job
      job = record { left = w; used = 0; taken = s.ports }

      go : (t : ℕ) (b : Bool) → eqb t u ≡ b → Finds m s.ports t (cond b (Some job) (s.pending t))
      go t true q = subst (λ (n : ℕ). Finds m s.ports n (Some job)) (sym (eqb-true t u q)) (r.0, record { long = refl; own = λ p i. refl; seen = λ p i. refl })
      go t false q = x.tasks t
  performed_keeps (Future y b k) a None s e r x = x
  performed_keeps (If q b) a None s e r x = x
  performed_keeps (Jump b) a None s e r x = x
  performed_keeps Return a None s e r x = x

  module _ (p : Contents) (ranged : (a : ℕ) → Ranged m.sheet (instruction_at p a)) where
    thread_keeps : (turns a : ℕ) (s : State) → Kept m s.ports s.pending → Kept m (thread m p turns a s).ports (thread m p turns a s).pending
    thread_keeps zero a s x = x
    thread_keeps (suc turns) a s x =
        onto (step m p a s).next (step m p a s).state (performed_keeps (instruction_at p a) a (touched m.sheet s.pending (instruction_at p a)) s refl (ranged a) x)
        (λ b s'. thread_keeps turns b s')
      where
        onto : (o : Option ℕ) (s' : State) → Kept m s'.ports s'.pending →
            ((b : ℕ) (s' : State) → Kept m s'.ports s'.pending → Kept m (thread m p turns b s').ports (thread m p turns b s').pending) →
            Kept m (onward (thread m p turns) s' o).ports (onward (thread m p turns) s' o).pending
        onto None s' x ih = x
        onto (Some b) s' x ih = ih b s' x

    threads_keep : (turns : ℕ) (s : State) → Kept m s.ports s.pending → Kept m (threads m p turns s).ports (threads m p turns s).pending
    threads_keep zero s x = x
    threads_keep (suc turns) s x = go (unless_stopped s.stop (first_due s.queue)) (λ s'. threads_keep turns s')
      where
        go : (o : Option Due) → ((s' : State) → Kept m s'.ports s'.pending → Kept m (threads m p turns s').ports (threads m p turns s').pending) →
            Kept m (threads_on (threads m p turns) m p s o).ports (threads_on (threads m p turns) m p s o).pending
        go None ih = x
        go (Some d) ih = ih (thread m p (size p) d.address (with_queue s d.others))
            (thread_keeps (size p) d.address (with_queue s d.others) (record { long = x.long; tasks = x.tasks }))

    tick_keeps : (r : List ℤ) (c : Option ℕ) (s : State) → Kept m s.ports s.pending → Kept m (tick m p r c s).ports (tick m p r c s).pending
    tick_keeps r c s x = go (exhausted (budget p) (charged s.pending s.running) s.running)
      where
        f : (t : ℕ) → Finds m s.ports t (charged s.pending s.running t)
        f = charged_finds m s.ports s.pending s.running x.tasks

        go : (o : Option ℕ) → Kept m (tick_on m p r c s (charged s.pending s.running) o).ports (tick_on m p r c s (charged s.pending s.running) o).pending
        go (Some i) = record { long = x.long; tasks = f }
        go None = threads_keep (length s.queue) (opening m r s (charged s.pending s.running)) (record {
          long = put_long (kinds_of m.sheet) s.ports r ∙ x.long;
          tasks = λ t. fallen_finds s.ports r t (charged s.pending s.running t) (f t);
        })

    -- a task that ends writes only its own ports, which no other task owns or reads
    done_keeps : (t : ℕ) (s : State) → Kept m s.ports s.pending → Kept m (done m t s).ports (done m t s).pending
    done_keeps t s x = go (s.pending t)
      where
        own : ℕ
        own = owns_of m.sheet t

        kept : (w : Ports) (q : ℕ) → (In q own → ⊥) → reading (put_own own 0 s.ports w) q ≡ reading s.ports q
        kept w q n = own_off own 0 s.ports w q (ap (has own) (zero-add q) ∙ not_in q own n)

        other : (w : Ports) (u : ℕ) → (u ≡ t → ⊥) → (o : Option Job) → Finds m s.ports u o → Finds m (put_own own 0 s.ports w) u o
        other w u n None y = tt
        other w u n (Some k) y = (
          y.0,
          moved m s.ports (put_own own 0 s.ports w) u k k refl (own_long own 0 s.ports w)
              (λ q i. kept w q (λ j. n (ok.rules.owned_once u t q i j)))
              (λ q i. kept w q (λ j. apart (ok.rules.seen u q i).1 (ok.rules.owned t q j).1))
              y.1,
        )

        gone : (w : Ports) (u : ℕ) (b : Bool) → eqb u t ≡ b → Finds m (put_own own 0 s.ports w) u (cond b None (s.pending u))
        gone w u true e = tt
        gone w u false e = other w u (eqb-false u t e) (s.pending u) (x.tasks u)

        go : (o : Option Job) → Kept m (finish m t o s).ports (finish m t o s).pending
        go None = x
        go (Some k) = record {
          long = own_long own 0 s.ports (m.work t k.taken) ∙ x.long;
          tasks = λ u. gone (m.work t k.taken) u (eqb u t) refl;
        }

    call_keeps : (c : RunCall) (s : State) → Kept m s.ports s.pending → Kept m (leaves m p c s).ports (leaves m p c s).pending
    call_keeps (Tick r c) s x = go s.stop (counts m r)
      where
        go : (y : Option Stop) (b : Bool) → Kept m (if_going y (cond b (tick m p r c s) s) s).ports (if_going y (cond b (tick m p r c s) s) s).pending
        go None true = tick_keeps r c s x
        go None false = x
        go (Some y) b = x
    call_keeps (Done t) s x = go s.stop (is_running s.running t)
      where
        go : (y : Option Stop) (b : Bool) → Kept m (if_going y (cond b (done m t s) s) s).ports (if_going y (cond b (done m t s) s) s).pending
        go None true = done_keeps t s x
        go None false = x
        go (Some y) b = x
    call_keeps AskState s x = x
    call_keeps (AskPort y) s x = x

    calls_keep : (calls : List RunCall) (s : State) → Kept m s.ports s.pending → Kept m (after m p calls s).ports (after m p calls s).pending
    calls_keep [] s x = x
    calls_keep (c ∷ calls) s x = calls_keep calls (leaves m p c s) (call_keeps c s x)

-- in every state that a list of calls comes to, stopped or not
pub kept : (m : Meaning) (p : Contents) (v : Ports) (calls : List RunCall) → Begins m p v → Kept m (after m p calls (fresh p v)).ports (after m p calls (fresh p v)).pending
kept m p v calls b = calls_keep m b.lawful p ranged calls (fresh p v) (record { long = b.ports; tasks = λ t. tt })
  where
    -- past its end a program has returns
    ranged : (a : ℕ) → Ranged m.sheet (instruction_at p a)
    ranged a = ⊎_elim (λ (l : a < size p). b.accepted.bounds.ranges a l)
        (λ (l : size p ≤ a). subst (Ranged m.sheet) (sym (ap (λ x. x.instruction) (get_or_past p.lines a blank l))) tt) (cases_lt a (size p))

pub as_taken : (m : Meaning) (p : Contents) (v : Ports) (calls : List RunCall) → Begins m p v → (t : ℕ) (k : Job) →
    t < m.sheet.tasks → (after m p calls (fresh p v)).pending t ≡ Some k → AsTaken m (after m p calls (fresh p v)).ports t k
as_taken m p v calls b t k l e = (subst (Finds m (after m p calls (fresh p v)).ports t) e ((kept m p v calls b).tasks t)).1

-- so a task that works on the ports as they are does what it would have done to those taken
pub work_as_taken : (m : Meaning) → Lawful m → (t : ℕ) (v : Ports) (k : Job) → t < m.sheet.tasks → AsTaken m v t k →
    m.work t v ≡ put_own (owns_of m.sheet t) 0 v (m.work t k.taken)
work_as_taken m ok t v k l x =
    ext_get_or (pos 0) (m.work t v) (put_own own 0 v done_to_taken) ((ok.works t l).keeps_length v ∙ sym (own_long own 0 v done_to_taken))
    (λ p h. at p (omega (arith, (ok.works t l).keeps_length v)) (has own p) refl)
  where
    own : ℕ
    own = owns_of m.sheet t

    done_to_taken : Ports
    done_to_taken = m.work t k.taken

    at : (p : ℕ) → p < length v → (b : Bool) → has own p ≡ b → reading (m.work t v) p ≡ reading (put_own own 0 v done_to_taken) p
    at p h true e =
        (ok.works t l).depends v k.taken (sym x.long) x.own x.seen p (eqb-true (own / 2 ^ p % 2) 1 e)
        ∙ sym (own_on own 0 v done_to_taken p h (ap (has own) (zero-add p) ∙ e) ∙ ap (reading done_to_taken) (zero-add p))
    at p h false e = (ok.works t l).only v p (eqb-false (own / 2 ^ p % 2) 1 e) ∙ sym (own_off own 0 v done_to_taken p (ap (has own) (zero-add p) ∙ e))
