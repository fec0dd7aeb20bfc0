-- The loops of a tick, one turn at a time: what is left to do from here gives what the whole gives.
use Rattle.std.proofs.Common.{◌≡◌, ℕ, zero, suc, ◌+◌, ◌-◌, ◌<◌, ◌≤◌, cond, eqb, List, [], ◌∷◌, length, Some, None, Option, sym, refl, ap, ◌∙◌, subst, arith, length-append}
use Rattle.std.specs.List.{AllByRecursion}
use Rattle.std.proofs.ByRecursion.{All-push}
use Rattle.std.proofs.lemmas.Bool.{ne_eqb}
use Rattle.ecode.specs.declared.code.Instruction.{Instruction}
use Rattle.ecode.specs.declared.code.Instruction.TheVariants.{Call, Release, Future, If, Jump, Return}
use Rattle.ecode.specs.Verdict.{Contents}
use Rattle.ecode.specs.Accepted.{Ranged, Aimed}
use Rattle.host.specs.Meaning.{Meaning}
use Rattle.machine.specs.declared.binding.Binding.{Binding}
use Rattle.machine.specs.declared.stop.Stop.{Stop}
use Rattle.machine.specs.State.{Event, State, size, instruction_at}
use Rattle.machine.specs.Runner.{touched, queue_after, Turn, performed, step, onward, thread, Due, first_due, with_queue, threads_on, unless_stopped, threads}
use Rattle.machine.proofs.Queues.{over_push, over_append, due_split, due_count}
use Rattle.machine.proofs.Ticks.{split_all}
use Rattle.runner.specs.Turns.{Room, Touch, Inside, Roomy}
use Rattle.runner.specs.declared.bench.Bench.{Bench}
use Rattle.runner.specs.Sound.{loaded, SameBench}
use Rattle.runner.proofs.Sounds.{same_program}

-- an instruction stands in the log
pub one_logged : (m : Meaning) (p : Contents) (a : ℕ) (s : State) → length (step m p a s).state.log ≡ length s.log + 1
one_logged m p a s = go (touched m.sheet s.pending (instruction_at p a))
  where
    go : (o : Option ℕ) → length (performed m (instruction_at p a) a o s).state.log ≡ length s.log + 1
    go None = omega arith
    go (Some t) = omega arith

-- a future that left no more than eight bindings had room
pub room_from : (m : Meaning) (p : Contents) (a : ℕ) (s : State) → Roomy (step m p a s).state.log → Room (length s.queue) (instruction_at p a)
room_from m p a s r = by (instruction_at p a) r
  where
    by : (i : Instruction) → Roomy (performed m i a (touched m.sheet s.pending i) s).state.log → Room (length s.queue) i
    by (Call d) r = tt
    by (Release t w) r = tt
    by (Future x y k) r = omega (arith, r.0, length-append s.queue (record { wait = x; at = y } ∷ []))
    by (If q y) r = tt
    by (Jump y) r = tt
    by Return r = tt

-- the queue after an instruction: addresses stay inside, and nothing that is made is due
pub record Queued (n : ℕ) (q q' : List Binding) : Type 0 where
  pub inside : Inside n q → Inside n q'
  pub few : due_count q' ≤ due_count q

pub step_queue : (m : Meaning) (p : Contents) (n a : ℕ) (s : State) → Ranged m.sheet (instruction_at p a) → Aimed n a (instruction_at p a) → Queued n s.queue (step m p a s).state.queue
step_queue m p n a s r e = go (touched m.sheet s.pending (instruction_at p a))
  where
    same : Queued n s.queue s.queue
    same = record { inside = λ x. x; few = omega arith }

    by : (i : Instruction) → Ranged m.sheet i → Aimed n a i → Queued n s.queue (queue_after i s.queue)
    by (Call d) r e = same
    by (Release t w) r e = same
    by (Future x y k) r e = record {
      inside = λ q. All-push (λ b. b.at < n) s.queue (record { wait = x; at = y }) q e.1;
      few = (let later : ◌≡◌ {A = ℕ} (cond (eqb x 0) 1 0) 0 = ap (λ b. cond b 1 0) (ne_eqb x 0 (λ z. omega (arith, r.0.0))) in
          omega (arith, over_push (λ b. cond (eqb b.wait 0) 1 0) s.queue (record { wait = x; at = y })));
    }
    by (If q y) r e = same
    by (Jump y) r e = same
    by Return r e = same

    go : (o : Option ℕ) → Queued n s.queue (performed m (instruction_at p a) a o s).state.queue
    go None = by (instruction_at p a) r e
    go (Some t) = same

-- the code's instruction at address a leads from the state v to the state v', their logs aside, and to the address o
abbrev pub Stepped : Meaning → Contents → ℕ → (List Event → State) → (List Event → State) → Option ℕ → Type 0
Stepped m p a v v' o = (l : List Event) → record { state = v' (step m p a (v l)).state.log; next = o } ≡ step m p a (v l)

-- the same of a bench that is the same
pub moved : {H : Type 0} (meaning : H → Meaning) (b b' : Bench H) → SameBench meaning b b' → (a : ℕ) (v v' : List Event → State) (o : Option ℕ)
    → Stepped (meaning b'.host) (loaded b') a v v' o → Stepped (meaning b.host) (loaded b) a v v' o
moved meaning b b' k a v v' o t =
    subst (λ x. Stepped x (loaded b) a v v' o) k.host
    (subst (λ q. Stepped (meaning b'.host) q a v v' o) (same_program meaning b b' k) t)

pub queue_stepped : (m : Meaning) (p : Contents) (n a : ℕ) (v v' : List Event → State) (o : Option ℕ) → Stepped m p a v v' o
    → Ranged m.sheet (instruction_at p a) → Aimed n a (instruction_at p a) → Queued n (v []).queue (v' (step m p a (v [])).state.log).queue
queue_stepped m p n a v v' o turn r e = subst (Queued n (v []).queue) (sym (ap (λ (t : Turn). t.state.queue) (turn []))) (step_queue m p n a (v []) r e)

-- the binding that is taken out, and those left
pub record Drawn (n : ℕ) (q : List Binding) (d : Due) : Type 0 where
  pub address : Inside n q → d.address < n
  pub inside : Inside n q → Inside n d.others
  pub fewer : due_count q ≡ due_count d.others + 1

pub drawn : (n : ℕ) (q : List Binding) (d : Due) → first_due q ≡ Some d → Drawn n q d
drawn n q d e =
    let x = due_split q d e in
    let count : List Binding → ℕ = due_count in
    record {
      address = λ a. (split_all (λ b. b.at < n) q d x a).0;
      inside = λ a. (split_all (λ b. b.at < n) q d x a).1;
      fewer = omega (arith, ap count x.was, ap count x.rest, over_append (λ b. cond (eqb b.wait 0) 1 0) x.l (record { wait = 0; at = d.address } ∷ x.r), over_append (λ b. cond (eqb b.wait 0) 1 0) x.l x.r);
    }

module _ (m : Meaning) (p : Contents) where
  module _ (turns : ℕ) (a : ℕ) (s s' : State) where
    thread_next : (b : ℕ) → record { state = s'; next = Some b } ≡ step m p a s → thread m p (suc turns) a s ≡ thread m p turns b s'
    thread_next b e = sym (ap (λ (u : Turn). onward (thread m p turns) u.state u.next) e)

    thread_last : record { state = s'; next = None } ≡ step m p a s → thread m p (suc turns) a s ≡ s'
    thread_last e = sym (ap (λ (u : Turn). onward (thread m p turns) u.state u.next) e)

  threads_next : (turns : ℕ) (s : State) (d : Due) → s.stop ≡ None → first_due s.queue ≡ Some d
      → threads m p (suc turns) s ≡ threads m p turns (thread m p (size p) d.address (with_queue s d.others))
  threads_next turns s d e g = ap (λ x. threads_on (threads m p turns) m p s (unless_stopped x (first_due s.queue))) e ∙ ap (threads_on (threads m p turns) m p s) g

  threads_still : (turns : ℕ) (s : State) → unless_stopped s.stop (first_due s.queue) ≡ None → threads m p turns s ≡ s
  threads_still zero s e = refl
  threads_still (suc turns) s e = ap (threads_on (threads m p turns) m p s) e

  -- nothing is due
  pub threads_none : (turns : ℕ) (s : State) → first_due s.queue ≡ None → threads m p turns s ≡ s
  threads_none turns s e = threads_still turns s (go s.stop)
    where
      go : (o : Option Stop) → unless_stopped o (first_due s.queue) ≡ None
      go None = e
      go (Some x) = refl

  -- the run has stopped
  pub threads_stopped : (turns : ℕ) (s : State) → Touch s.stop → threads m p turns s ≡ s
  threads_stopped turns s e = threads_still turns s (go s.stop e)
    where
      go : (o : Option Stop) → Touch o → unless_stopped o (first_due s.queue) ≡ None
      go None e = absurd e
      go (Some x) e = refl

  -- what holds of a whole log holds of it as it was before
  module _ (P : Event → Type 0) where
    step_log : (a : ℕ) (s : State) → AllByRecursion P (step m p a s).state.log → AllByRecursion P s.log
    step_log a s x = go (touched m.sheet s.pending (instruction_at p a)) x
      where
        go : (o : Option ℕ) → AllByRecursion P (performed m (instruction_at p a) a o s).state.log → AllByRecursion P s.log
        go None x = x.1
        go (Some t) x = x.1

    onward_log : (turns : ℕ) (s : State) (o : Option ℕ) → ((b : ℕ) (t : State) → AllByRecursion P (thread m p turns b t).log → AllByRecursion P t.log)
        → AllByRecursion P (onward (thread m p turns) s o).log → AllByRecursion P s.log
    onward_log turns s None ih x = x
    onward_log turns s (Some b) ih x = ih b s x

    thread_log : (turns a : ℕ) (s : State) → AllByRecursion P (thread m p turns a s).log → AllByRecursion P s.log
    thread_log zero a s x = x
    thread_log (suc turns) a s x = step_log a s (onward_log turns (step m p a s).state (step m p a s).next (λ b t y. thread_log turns b t y) x)

    thread_head : (turns a : ℕ) (s : State) → AllByRecursion P (thread m p (suc turns) a s).log → AllByRecursion P (step m p a s).state.log
    thread_head turns a s x = onward_log turns (step m p a s).state (step m p a s).next (thread_log turns) x

    threads_log : (turns : ℕ) (s : State) → AllByRecursion P (threads m p turns s).log → AllByRecursion P s.log
    threads_log zero s x = x
    threads_log (suc turns) s x = go (unless_stopped s.stop (first_due s.queue)) (λ t y. threads_log turns t y) x
      where
        go : (o : Option Due) → ((t : State) → AllByRecursion P (threads m p turns t).log → AllByRecursion P t.log) → AllByRecursion P (threads_on (threads m p turns) m p s o).log → AllByRecursion P s.log
        go None ih y = y
        go (Some d) ih y = thread_log (size p) d.address (with_queue s d.others) (ih _ y)

-- in a thread at address a: v is the state but for the log, and n instructions were run
pub record Mid (m : Meaning) (p : Contents) (a : ℕ) (v : List Event → State) (n : ℕ) (whole : State) : Type 0 where
  pub turns : ℕ
  pub log : List Event
  pub enough : size p ≤ a + turns
  pub count : n ≡ length log
  pub same : thread m p turns a (v log) ≡ whole

-- between threads
pub record Left (m : Meaning) (p : Contents) (v : List Event → State) (n : ℕ) (whole : State) : Type 0 where
  pub turns : ℕ
  pub log : List Event
  pub enough : due_count (v log).queue ≤ turns
  pub count : n ≡ length log
  pub same : threads m p turns (v log) ≡ whole

pub recount : {m : Meaning} {p : Contents} {a : ℕ} {v : List Event → State} {whole : State} (n k : ℕ) → n ≡ k → Mid m p a v n whole → Mid m p a v k whole
recount {m = m} {p = p} {a = a} {v = v} {whole = whole} n k e x = subst (λ j. Mid m p a v j whole) e x

-- a thread at address a, of a binding with the address b that was taken out: v₀ is the state before that, v₁ after it, v now
module _ (m : Meaning) (p : Contents) (v₀ v₁ v : List Event → State) (a b n₀ n : ℕ) (whole : State)
    (left : Left m p v₀ n₀ whole)
    (going : (v₀ left.log).stop ≡ None)
    (draws : first_due (v₀ left.log).queue ≡ Some (record { address = b; others = (v₁ left.log).queue }))
    (then : (k : List Event) → with_queue (v₀ k) (v₁ k).queue ≡ v₁ k)
    (mids : (k : List Event) → Mid m p a v (n + length k) (thread m p (size p) b (v₁ k)))
    (low : a < size p) where
  drawn_here : due_count (v₀ left.log).queue ≡ due_count (v₁ left.log).queue + 1
  drawn_here = (drawn 0 (v₀ left.log).queue (record { address = b; others = (v₁ left.log).queue }) draws).fewer

  -- the rest of the threads gives the whole
  after_it : threads m p (left.turns - 1) (thread m p (size p) b (v₁ left.log)) ≡ whole
  after_it =
      let more : suc (left.turns - 1) ≡ left.turns = omega (arith, left.enough, drawn_here) in
      ap (λ s. threads m p (left.turns - 1) (thread m p (size p) b s)) (sym (then left.log))
      ∙ sym (threads_next m p (left.turns - 1) (v₀ left.log) (record { address = b; others = (v₁ left.log).queue }) going draws) ∙ ap (λ f. threads m p f (v₀ left.log)) more ∙ left.same

  -- there is room for the next instruction, since there is at the end
  pub room_here : Roomy whole.log → Room (length (v (mids left.log).log).queue) (instruction_at p a)
  room_here all =
      let mid = mids left.log in
      let more : mid.turns ≡ suc (mid.turns - 1) = omega (arith, mid.enough) in
      let part : Roomy (thread m p (size p) b (v₁ left.log)).log =
      threads_log m p (λ e. e.waiting ≤ 8) (left.turns - 1) (thread m p (size p) b (v₁ left.log)) (subst (λ (s : State). Roomy s.log) (sym after_it) all) in
      room_from m p a (v mid.log) (thread_head m p (λ e. e.waiting ≤ 8) (mid.turns - 1) a (v mid.log)
      (subst (λ (s : State). Roomy s.log) (sym mid.same ∙ ap (λ k. thread m p k a (v mid.log)) more) part))

  module _ (v' : List Event → State) (o : Option ℕ) (turn : (l : List Event) → record { state = v' (step m p a (v l)).state.log; next = o } ≡ step m p a (v l)) (own : (l : List Event) → (v l).log ≡ l) where
    one : (l : List Event) → length (step m p a (v l)).state.log ≡ length l + 1
    one l = one_logged m p a (v l) ∙ ap (λ k. length k + 1) (own l)

    -- the thread goes on
    pub goes_on : (to : ℕ) → o ≡ Some to → a < to → (k : List Event) → Mid m p to v' (n + length k + 1) (thread m p (size p) b (v₁ k))
    goes_on to e up k =
        let mid = mids k in
        let more : suc (mid.turns - 1) ≡ mid.turns = omega (arith, mid.enough) in
        let log = (step m p a (v mid.log)).state.log in
        record {
          turns = mid.turns - 1;
          log = log;
          enough = omega (arith, mid.enough);
          count = omega (arith, mid.count, one mid.log);
          same = sym (thread_next m p (mid.turns - 1) a (v mid.log) (v' log) to (ap (λ x. record { state = v' log; next = x }) (sym e) ∙ turn mid.log))
              ∙ ap (λ f. thread m p f a (v mid.log)) more ∙ mid.same;
        }

    -- the thread has ended: what is left are the other threads
    pub comes_back : o ≡ None → ((l : List Event) → due_count (v' l).queue ≤ due_count (v₁ l).queue) → ((j k : List Event) → (v₁ j).queue ≡ (v₁ k).queue) → Left m p v' (n + n₀ + 1) whole
    comes_back e few same_queue =
        let mid = mids left.log in
        let more : suc (mid.turns - 1) ≡ mid.turns = omega (arith, mid.enough) in
        let log = (step m p a (v mid.log)).state.log in
        let ended : v' log ≡ thread m p (size p) b (v₁ left.log) =
        sym (thread_last m p (mid.turns - 1) a (v mid.log) (v' log) (ap (λ x. record { state = v' log; next = x }) (sym e) ∙ turn mid.log))
        ∙ ap (λ f. thread m p f a (v mid.log)) more ∙ mid.same in
        record {
          turns = left.turns - 1;
          log = log;
          enough = omega (arith, left.enough, few log, ap due_count (same_queue log left.log), drawn_here);
          count = omega (arith, mid.count, one mid.log, left.count);
          same = ap (threads m p (left.turns - 1)) ended ∙ after_it;
        }

-- with the log of the whole the state is the whole
pub whole_from : (v : List Event → State) (l : List Event) (whole : State) → ((k : List Event) → (v k).log ≡ k) → v l ≡ whole → v whole.log ≡ whole
whole_from v l whole own e = ap v (ap (λ (s : State). s.log) (sym e) ∙ own l) ∙ e
