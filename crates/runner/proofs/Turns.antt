-- One instruction of the code is one of the reference runner's.
use Rattle.std.proofs.Common.{◌≡◌, ℕ, zero, suc, ◌<◌, ◌≤◌, ◌&&◌, List, [], ◌∷◌, length, get_or, Some, None, Option, sym, refl, ap, ◌∙◌, subst, arith, length-take}
use Rattle.std.proofs.lemmas.List.{get_or-take}
use Rattle.std.proofs.lemmas.Bool.{lt-ltb, le-ltb}
use Rattle.ecode.specs.declared.sheet.Sheet.{Sheet}
use Rattle.ecode.specs.declared.code.Instruction.{Instruction}
use Rattle.ecode.specs.declared.code.Instruction.TheVariants.{Call, Future}
use Rattle.ecode.specs.declared.code.Line.{Line}
use Rattle.ecode.specs.declared.code.Program.{Program}
use Rattle.ecode.specs.Wiring.{has}
use Rattle.ecode.specs.Sheets.{shares}
use Rattle.ecode.specs.Typing.{blank}
use Rattle.ecode.specs.Accepted.{Bounded, Ranged, Aimed}
use Rattle.host.specs.Meaning.{Meaning, Lawful}
use Rattle.machine.specs.State.{Event, State, Table, is_pending, size, instruction_at}
use Rattle.machine.specs.Runner.{lowest, touched, ports_after, queue_after, pending_after, next_after, performed, step}
use Rattle.parts.specs.declared.data.Wiring.{Wiring}
use Rattle.parts.specs.Wired.{WiredFor}
use Rattle.parts.specs.Shown.{queued}
use Rattle.parts.proofs.Bits.{lowest_same, lowest_further}
use Rattle.runner.specs.Standing.{program_of}
use Rattle.runner.specs.declared.bench.Bench.{Bench}
use Rattle.runner.specs.Sound.{loaded, FitBench}
use Rattle.runner.specs.Turns.{Room, Touch, OnlyTouch}
use Rattle.runner.specs.declared.progress.Progress.{Progress}
use Rattle.parts.specs.declared.data.Queue.{Queue}
use Rattle.machine.specs.declared.stop.Stop.{Stop}
use Rattle.machine.specs.declared.stop.Stop.TheVariants.{Touched}

-- as many lines as the listing counts
pub size_is : (w : Wiring) (p : Program) → size (program_of w p) ≡ p.listing.count
size_is w p = simp length-take (omega arith)

-- inside a list it does not matter what stands past its end
any_default : (xs : List Line) (i : ℕ) (d e : Line) → i < length xs → get_or xs i d ≡ get_or xs i e
any_default [] i d e h = absurd (omega arith)
any_default (x ∷ xs) zero d e h = refl
any_default (x ∷ xs) (suc i) d e h = any_default xs i d e (omega arith)

-- the instruction that the code reads
pub reads : (w : Wiring) (p : Program) (a : ℕ) → a < p.listing.count → (i : Instruction)
    → (get_or p.listing.lines a (record { instruction = Call 0; row = [] })).instruction ≡ i → instruction_at (program_of w p) a ≡ i
reads w p a l i e =
    ap (λ (x : Line). x.instruction) (get_or-take p.listing.count p.listing.lines a blank l ∙ any_default p.listing.lines a blank (record { instruction = Call 0; row = [] }) (omega arith)) ∙ e

-- the instruction i at the address a of a fit bench's program
pub record Read {H : Type 0} (meaning : H → Meaning) (b : Bench H) (a : ℕ) (i : Instruction) : Type 0 where
  pub fit : FitBench meaning b
  pub lawful : Lawful (meaning b.host)
  pub low : a < b.program.listing.count
  pub is : instruction_at (loaded b) a ≡ i

pub read : {H : Type 0} {meaning : H → Meaning} (lawful : (h : H) → Lawful (meaning h)) (b : Bench H) → WiredFor (meaning b.host).sheet b.wiring
    → Bounded (meaning b.host).sheet (loaded b).entry (loaded b).lines → (a : ℕ) → a < b.program.listing.count → (i : Instruction)
    → (get_or b.program.listing.lines a (record { instruction = Call 0; row = [] })).instruction ≡ i → Read meaning b a i
read lawful b wired bounds a low i e = record { fit = record { bounds = bounds; wired = wired }; lawful = lawful b.host; low = low; is = reads b.wiring b.program a low i e }

module _ {H : Type 0} {meaning : H → Meaning} {b : Bench H} {a : ℕ} {i : Instruction} (k : Read meaning b a i) where
  abbrev m : Meaning
  m = meaning b.host

  inside : a < size (loaded b)
  inside = omega (arith, k.low, size_is b.wiring b.program)

  -- its operands are in range, and its addresses in the program
  pub ranged : Ranged m.sheet i
  ranged = subst (Ranged m.sheet) k.is (k.fit.bounds.ranges a inside)

  pub aimed : Aimed b.program.listing.count a i
  aimed = subst (λ n. Aimed n a i) (size_is b.wiring b.program) (subst (Aimed (size (loaded b)) a) k.is (k.fit.bounds.addresses a inside))

  module _ (s : State) (v : List Event → State) where
    -- the state v, but for its log, and the address n are what the instruction leads to
    abbrev Leads : Option ℕ → Type 0
    Leads n = record { state = v (step m (loaded b) a s).state.log; next = n } ≡ step m (loaded b) a s

    abbrev By : Instruction → Option ℕ → Option ℕ → Type 0
    By i o n = record { state = v (performed m i a o s).state.log; next = n } ≡ performed m i a o s

    -- it touches a pending task
    pub touches : (t : ℕ) → Some t ≡ touched m.sheet s.pending i
        → ((l : List Event) → v l ≡ record { ports = s.ports; queue = s.queue; pending = s.pending; running = s.running; stop = Some (Touched t a); log = l })
        → Leads None
    touches t f g =
        subst (λ k. By k (touched m.sheet s.pending k) None) (sym k.is)
        (subst (λ o. By i o None) f (λ x. record { state = g (performed m i a (Some t) s).state.log x; next = None }))

    -- it touches none
    pub passes : (n : Option ℕ) → None ≡ touched m.sheet s.pending i
        → ((l : List Event) → v l ≡ record { ports = ports_after m i s.ports; queue = queue_after i s.queue; pending = pending_after i s.ports s.pending; running = s.running; stop = s.stop; log = l })
        → n ≡ next_after m i a s.ports → Leads n
    passes n f g e =
        subst (λ j. By j (touched m.sheet s.pending j) n) (sym k.is)
        (subst (λ o. By i o n) f (λ x. record { state = g (performed m i a None s).state.log x; next = e x }))

-- the tasks that a call touches, by the masks of the wiring
pub call_touches : (s : Sheet) (w : Wiring) → WiredFor s w → s.tasks ≤ 8 → (d : ℕ) → d < s.drivers → (f : Table)
    → lowest 8 (λ t. has (get_or w.sharing d 0) t && is_pending f t) ≡ lowest s.tasks (λ t. shares s d t && is_pending f t)
call_touches s w r few d l f =
    lowest_further (λ t. has (get_or w.sharing d 0) t && is_pending f t) s.tasks 8 few (λ t h. ap (λ b. b && is_pending f t) (r.sharing d t l ∙ ap (λ b. b && shares s d t) (le-ltb t s.tasks h)))
    ∙ lowest_same (λ t. has (get_or w.sharing d 0) t && is_pending f t) (λ t. shares s d t && is_pending f t) s.tasks
    (λ t h. ap (λ b. b && is_pending f t) (r.sharing d t l ∙ ap (λ b. b && shares s d t) (lt-ltb t s.tasks h)))

pub room_at : (n : ℕ) (j : Instruction) (x y k : ℕ) → Room n j → j ≡ Future x y k → n < 8
room_at n j x y k r e = subst (Room n) e r

-- as many bindings as the queue counts
pub queue_long : (q : Queue) → length (queued q) ≡ q.len
queue_long q = simp length-take (omega arith)

-- the same with another queue
abbrev pub requeued : Progress → Queue → Progress
requeued g q = record { queue = q; table = g.table; running = g.running; stop = g.stop }

pub touch_only : (o : Option Stop) → Touch o → OnlyTouch o
touch_only None e = absurd e
touch_only (Some x) e = e
