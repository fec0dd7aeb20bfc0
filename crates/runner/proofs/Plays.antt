-- A whole run keeps the promise: it went as the reference runner goes, of whose runs the laws hold.
use Rattle.std.proofs.Common.{◌≡◌, ℕ, Bool, List, ◌++◌, length, take, drop, Result, ap, ◌∙◌, subst}
use Rattle.ecode.specs.Verdict.{Contents}
use Rattle.host.specs.Meaning.{Meaning, Lawful}
use Rattle.policy.specs.Choice.{Choice}
use Rattle.machine.specs.declared.answer.Answer.{Answer}
use Rattle.machine.specs.declared.fault.RunFault.{RunFault}
use Rattle.machine.specs.State.{Ports, Table, State, fresh}
use Rattle.machine.specs.Begins.{Begins}
use Rattle.machine.specs.Calls.{RunCall, after, answers, ByPolicy, Written, GivenBack}
use Rattle.machine.proofs.Twins.{agree}
use Rattle.machine.proofs.Wholes.{windows, work}
use Rattle.machine.proofs.Growth.{grows}
use Rattle.machine.proofs.Reached.{chosen_front}
use Rattle.runner.specs.declared.bench.Bench.{Bench}
use Rattle.runner.specs.declared.call.Call.{Call}
use Rattle.runner.specs.declared.run.Run.{Run}
use Rattle.runner.specs.Sound.{loaded, SoundBench, shown}
use Rattle.runner.specs.Record.{record_of, PlaysOn}
use Rattle.runner.specs.Promise.{PlaysAsPromised}
use Rattle.runner.proofs.Sounds.{same_program}

-- a run r that was begun of the bench b came by these calls to r', and what end gave back of that is m', p', v' and the bytes
module _ {H P : Type 0} (meaning : H → Meaning) (ports : H → Ports) (mark : P → Bool) (lawful : (h : H) → Lawful (meaning h))
    (long : (h : H) → length (ports h) ≡ (meaning h).sheet.ports) (b : Bench H) (policy : P) (sound : SoundBench meaning b)
    (r : Run H P) (of_bench : r.bench ≡ b) (of_policy : r.policy ≡ policy) (begun : shown ports r ≡ fresh (loaded b) (ports b.host))
    (cs : List Call) (old new : List (Result Answer RunFault)) (r' : Run H P) (plays : PlaysOn meaning ports mark cs old new r r') where
  abbrev m : Meaning
  m = meaning b.host

  abbrev p : Contents
  p = loaded b

  abbrev v : Ports
  v = ports b.host

  abbrev made : List RunCall
  made = record_of cs new

  begins : Begins m p v
  begins = record { lawful = lawful b.host; accepted = sound.accepted; rows = sound.rows; ports = long b.host }

  -- what is said of the run's own bench and state is said of the bench and of the fresh run
  moved : (F : Meaning → Contents → State → Type 0) → F (meaning r.bench.host) (loaded r.bench) (shown ports r) → F m p (fresh p v)
  moved F x = subst (F m p) begun (subst (λ (y : Bench H). F (meaning y.host) (loaded y) (shown ports r)) of_bench x)

  chosen : ByPolicy (mark policy) m p made (fresh p v)
  chosen =
      subst (λ (x : P). ByPolicy (mark x) m p made (fresh p v)) of_policy
      (moved (λ y q s. ByPolicy (mark r.policy) y q made s) plays.chosen)

  -- nor is anything said of the calls after the n-th
  front : (n : ℕ) → ByPolicy (mark policy) m p (take n made) (fresh p v)
  front n = chosen_front (Choice (mark policy)) m p n made (fresh p v) chosen

  same_ports : (shown ports r').ports ≡ (after m p made (fresh p v)).ports
  same_ports = moved (λ y q s. (shown ports r').ports ≡ (after y q made s).ports) (ap (λ (s : State). s.ports) plays.state)

  same_pending : (shown ports r').pending ≡ (after m p made (fresh p v)).pending
  same_pending = moved (λ y q s. (shown ports r').pending ≡ (after y q made s).pending) (ap (λ (s : State). s.pending) plays.state)

  same_host : meaning r'.bench.host ≡ m
  same_host = plays.bench.host ∙ ap (λ (y : Bench H). meaning y.host) of_bench

  same_loaded : loaded r'.bench ≡ p
  same_loaded = same_program meaning r.bench r'.bench plays.bench ∙ ap loaded of_bench

  given_back : (m' : Meaning) (v' : Ports) (p' : Contents) (bytes : List ℕ) → GivenBack (meaning r'.bench.host) (loaded r'.bench) (shown ports r') m' v' p' bytes
      → GivenBack m p (after m p made (fresh p v)) m' v' p' bytes
  given_back m' v' p' bytes g = record {
    host = g.host ∙ same_host;
    ports = g.ports ∙ same_ports;
    program = g.program ∙ same_loaded;
    pending = subst (λ (f : Table). Written m.sheet.tasks f bytes) same_pending (subst (λ (y : Meaning). Written y.sheet.tasks (shown ports r').pending bytes) same_host g.pending);
  }

  pub promised : (m' : Meaning) (v' : Ports) (p' : Contents) (bytes : List ℕ) → GivenBack (meaning r'.bench.host) (loaded r'.bench) (shown ports r') m' v' p' bytes
      → PlaysAsPromised (mark policy) m p v cs old new m' p' v' bytes
  promised m' v' p' bytes g = record {
    answers_follow = moved (λ y q s. new ≡ answers y q made s ++ drop (length cs) old) plays.answered;
    choices_follow = chosen;
    bench_follows = given_back m' v' p' bytes g;
    windows_are_kept = λ e n none. windows m p v (take n made) begins (subst (λ k. ByPolicy k m p (take n made) (fresh p v)) e (front n)) none;
    work_is_bounded = λ n. work m p v (take n made) begins;
    driver_ports_agree = λ n other w others like same going going' x on kind. agree m other p v w (take n made) others begins like same going going' x on kind;
    nothing_grows = λ n. grows (mark policy) m p v (take n made) begins (front n);
  }
