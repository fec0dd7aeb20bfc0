-- Inside a thread of the due loop: what its answers rest on, put together once.
use Rattle.std.proofs.Common.{◌≡◌, ℕ, ◌+◌, ◌-◌, ◌<◌, ◌≤◌, List, [], length, Some, None, Option, sym, refl, subst, arith}
use Rattle.ecode.specs.Verdict.{Contents}
use Rattle.ecode.specs.Accepted.{Aimed}
use Rattle.host.specs.Meaning.{Meaning}
use Rattle.machine.specs.State.{Ports, Event, State, size, instruction_at}
use Rattle.machine.specs.Runner.{first_due, thread, threads}
use Rattle.machine.proofs.Queues.{due_count}
use Rattle.parts.specs.declared.data.Queue.{Queue}
use Rattle.parts.specs.Shown.{queued}
use Rattle.runner.specs.declared.bench.Bench.{Bench}
use Rattle.runner.specs.declared.progress.Progress.{Progress}
use Rattle.runner.specs.Sound.{loaded, FitBench, SameBench, working}
use Rattle.runner.specs.Turns.{Room, Roomy}
use Rattle.runner.proofs.Sounds.{same_program}
use Rattle.runner.proofs.Turns.{size_is, requeued}
use Rattle.runner.proofs.Threads.{Mid, Left, Queued, Stepped, drawn, moved, queue_stepped, room_here, goes_on, comes_back}

-- what all the threads of the bench b and the progress g give
abbrev pub gives : {H : Type 0} → (H → Meaning) → (H → Ports) → Bench H → Progress → State
gives meaning ports b g = threads (meaning b.host) (loaded b) (length (queued g.queue)) (working ports b [] g)

-- the loop began with b and g; at b₀ and g₀, with n₀ instructions run, a binding with the address `first` was taken out, which left
-- the queue q₁; its thread has come to b₁ and g₁ and is at the address a, with n instructions run
pub record Within {H : Type 0} (meaning : H → Meaning) (ports : H → Ports) (b : Bench H) (g : Progress) (b₀ : Bench H) (g₀ : Progress) (n₀ : ℕ) (q₁ : Queue) (first : ℕ) (b₁ : Bench H) (g₁ : Progress) (a n : ℕ) : Type 0 where
  pub fit : FitBench meaning b
  pub left : Left (meaning b.host) (loaded b) (λ j. working ports b₀ j g₀) n₀ (gives meaning ports b g)
  pub going : g₀.stop ≡ None
  pub draws : first_due (queued g₀.queue) ≡ Some (record { address = first; others = queued q₁ })
  pub same : SameBench meaning b b₁
  pub low : a < b.program.listing.count
  pub mids : (l : List Event) → Mid (meaning b.host) (loaded b) a (λ j. working ports b₁ j g₁) (n - n₀ + length l)
      (thread (meaning b.host) (loaded b) (size (loaded b)) first (working ports b₀ l (requeued g₀ q₁)))

module _ {H : Type 0} {meaning : H → Meaning} {ports : H → Ports} {b : Bench H} {g : Progress} {b₀ : Bench H} {g₀ : Progress} {n₀ : ℕ} {q₁ : Queue} {first : ℕ} {b₁ : Bench H} {g₁ : Progress} {a n : ℕ}
    (k : Within meaning ports b g b₀ g₀ n₀ q₁ first b₁ g₁ a n) where
  abbrev m : Meaning
  m = meaning b.host

  abbrev p : Contents
  p = loaded b

  abbrev pub whole : State
  whole = gives meaning ports b g

  abbrev v₀ : List Event → State
  v₀ j = working ports b₀ j g₀

  abbrev v₁ : List Event → State
  v₁ j = working ports b₀ j (requeued g₀ q₁)

  abbrev v : List Event → State
  v j = working ports b₁ j g₁

  inside : a < size p
  inside = omega (arith, k.low, size_is b.wiring b.program)

  pub fewer : due_count (queued g₀.queue) ≡ due_count (queued q₁) + 1
  fewer = (drawn 0 (queued g₀.queue) (record { address = first; others = queued q₁ }) k.draws).fewer

  -- there is room for the next instruction, since there is at the end
  pub room : Roomy whole.log → Room (length (queued g₁.queue)) (instruction_at (loaded b₁) a)
  room all =
      subst (λ q. Room (length (queued g₁.queue)) (instruction_at q a)) (sym (same_program meaning b b₁ k.same))
      (room_here m p v₀ v₁ v a first n₀ (n - n₀) whole k.left k.going k.draws (λ l. refl) k.mids inside all)

  -- the instruction led to b₂ and g₂, and to the address o
  module _ (b₂ : Bench H) (g₂ : Progress) (o : Option ℕ) (turn : Stepped (meaning b₁.host) (loaded b₁) a v (λ j. working ports b₂ j g₂) o) where
    abbrev v' : List Event → State
    v' j = working ports b₂ j g₂

    here : Stepped m p a v v' o
    here = moved meaning b b₁ k.same a v v' o turn

    pub step_queued : Queued b.program.listing.count (queued g₁.queue) (queued g₂.queue)
    step_queued =
        let bounds = k.fit.bounds in
        queue_stepped m p b.program.listing.count a v v' o here (bounds.ranges a inside) (subst (λ j. Aimed j a (instruction_at p a)) (size_is b.wiring b.program) (bounds.addresses a inside))

    -- the thread goes on
    pub further : (to : ℕ) → o ≡ Some to → a < to → (l : List Event) → Mid m p to v' (n - n₀ + length l + 1) (thread m p (size p) first (v₁ l))
    further to e up l = goes_on m p v₀ v₁ v a first n₀ (n - n₀) whole k.left k.going k.draws (λ l. refl) k.mids inside v' o here (λ l. refl) to e up l

    -- the thread has ended
    pub back : o ≡ None → due_count (queued g₂.queue) ≤ due_count (queued q₁) → Left m p v' (n - n₀ + n₀ + 1) whole
    back e few = comes_back m p v₀ v₁ v a first n₀ (n - n₀) whole k.left k.going k.draws (λ l. refl) k.mids inside v' o here (λ l. refl) e (λ l. few) (λ i j. refl)
