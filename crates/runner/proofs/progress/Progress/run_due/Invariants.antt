use Rattle.std.proofs.Common.{◌≡◌, ◌+◌, ◌-◌, ◌*◌, ◌<◌, ◌≤◌, List, [], length, None}
use Rattle.machine.specs.State.{Event, size}
use Rattle.machine.specs.Runner.{thread, threads}
use Rattle.machine.proofs.Queues.{due_count}
use Rattle.parts.specs.Shown.{queued}
use Rattle.runner.specs.Standing.{program_of, standing}
use Rattle.runner.specs.Turns.{Inside}
use Rattle.runner.proofs.Threads.{Mid, Left}
use Rattle.runner.proofs.progress.Progress.run_due.Given as goal

-- in a thread: what is left of it gives what the whole thread gives, whatever log it began with
abbrev pub invariant-loop-next : goal.invariant-loop-next
invariant-loop-next g l =
    let m = g.H.Host.meaning l.fn.host in
    let w = l.wiring in
    let p = program_of w l.program in
    let n = l.program.listing.count in
    (g.H.Host.meaning l.host ≡ m)
    × (l.self.stop ≡ l.initial.self.stop)
    × (l.at < n)
    × (l.initial.count ≤ l.count)
    × (l.count ≤ l.initial.count + l.at)
    × Inside n (queued l.self.queue)
    × (due_count (queued l.self.queue) ≤ due_count (queued l.initial.self.queue))
    × ((k : List Event) → Mid m p l.at (λ j. standing w (g.H.Host.ports l.host) j l.self) (l.count - l.initial.count + length k)
    (thread m p (size p) l.initial.at (standing w (g.H.Host.ports l.initial.host) k l.initial.self)))

abbrev pub decreases-loop-next : goal.decreases-loop-next
decreases-loop-next g l = 200 - l.at

-- between threads: the threads that are left give what all of them give
abbrev pub invariant-due : goal.invariant-due
invariant-due g l =
    let m = g.H.Host.meaning l.fn.host in
    let w = l.wiring in
    let p = program_of w l.program in
    (g.H.Host.meaning l.host ≡ m)
    × (l.self.stop ≡ None)
    × Inside l.program.listing.count (queued l.self.queue)
    × (l.count + 200 * due_count (queued l.self.queue) ≤ 1600)
    × Left m p (λ j. standing w (g.H.Host.ports l.host) j l.self) l.count
    (threads m p (length (queued l.fn.self.queue)) (standing w (g.H.Host.ports l.fn.host) [] l.fn.self))

abbrev pub decreases-due : goal.decreases-due
decreases-due g l = due_count (queued l.self.queue)
