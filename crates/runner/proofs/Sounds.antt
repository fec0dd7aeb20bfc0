-- Soundness is kept: one call more is made on a run that some calls came to.
use Rattle.std.proofs.Common.{◌≡◌, ℕ, Bool, List, [], ◌∷◌, ◌++◌, length, None, Option, refl, sym, ap, ◌∙◌, subst}
use Rattle.ecode.specs.declared.code.Program.{Program}
use Rattle.ecode.specs.Verdict.{Contents}
use Rattle.ecode.specs.Accepted.{Bounded, Accepted}
use Rattle.host.specs.Meaning.{Meaning, Lawful}
use Rattle.policy.specs.declared.pending.PendingTask.{PendingTask}
use Rattle.policy.specs.Choice.{Choice}
use Rattle.machine.specs.State.{Ports, State, bare, fresh}
use Rattle.machine.specs.Choices.{pending_tasks}
use Rattle.machine.specs.Calls.{RunCall, Tick, Done, AskState, AskPort, leaves, after, Asked, ByPolicy}
use Rattle.machine.specs.Begins.{RowsOfEight, Begins}
use Rattle.machine.proofs.Reached.{leaves_bare, after_more, chosen_more, Steady, steady}
use Rattle.parts.specs.Wired.{WiredFor}
use Rattle.parts.specs.declared.data.Wiring.{Wiring}
use Rattle.runner.specs.declared.bench.Bench.{Bench}
use Rattle.runner.specs.declared.run.Run.{Run}
use Rattle.runner.specs.Standing.{program_of}
use Rattle.runner.specs.Sound.{loaded, SoundBench, FitBench, SameBench, shown, SoundRun}
use Rattle.runner.specs.Follows.{Follows}

-- a host, a program and a wiring, as the bench that they make
abbrev pub bench_of : {H : Type 0} → H → Program → Wiring → Bench H
bench_of h p w = record { host = h; program = p; wiring = w }

-- what a run rests on holds of it without its log
bare_steady : (m : Meaning) (p : Contents) (s : State) → Steady m p s → Steady m p (bare s)
bare_steady m p s k = record {
  room = k.room;
  few = k.few;
  inside = k.inside;
  waits = k.waits;
  below = k.below;
  long = k.long;
  busy = λ i e. (let b = k.busy i e in record { below = b.below; job = b.job; is = b.is; used = b.used; budget_small = b.budget_small; as_taken = b.as_taken });
}

-- what is asked of a choice does not depend on the log
pub asked_same : (Right : List PendingTask → Option ℕ → Type 0) (m : Meaning) (c : RunCall) (s t : State) → bare s ≡ bare t → Asked Right m c s → Asked Right m c t
asked_same Right m (Tick readings choice) s t e a = λ k g.
    subst (λ (x : State). Right (pending_tasks m.sheet.tasks x.pending) choice) e (a k (ap (λ (x : State). x.stop) e ∙ g))
asked_same Right m (Done t) s s' e a = tt
asked_same Right m AskState s t e a = tt
asked_same Right m (AskPort x) s t e a = tt

module _ {H : Type 0} (meaning : H → Meaning) where
  -- a bench is as it was, and so it is after two calls that leave it so
  pub unchanged : (b : Bench H) → SameBench meaning b b
  unchanged b = record { host = refl; program = refl; wiring = refl }

  pub both_same : (b b' b'' : Bench H) → SameBench meaning b b' → SameBench meaning b' b'' → SameBench meaning b b''
  both_same b b' b'' k l = record { host = l.host ∙ k.host; program = l.program ∙ k.program; wiring = l.wiring ∙ k.wiring }

  pub same_program : (b b' : Bench H) → SameBench meaning b b' → loaded b' ≡ loaded b
  same_program b b' k = ap (program_of b'.wiring) k.program ∙ ap (λ w. program_of w b.program) k.wiring

  pub same_count : (b b' : Bench H) → SameBench meaning b b' → b'.program.listing.count ≡ b.program.listing.count
  same_count b b' k = ap (λ (p : Program). p.listing.count) k.program

  -- a bench that stays so stays sound
  pub bench_kept : (b b' : Bench H) → SameBench meaning b b' → SoundBench meaning b → SoundBench meaning b'
  bench_kept b b' k s = record {
    accepted = subst (λ (m : Meaning). Accepted m.sheet (loaded b')) (sym k.host) (subst (Accepted (meaning b.host).sheet) (sym (same_program b b' k)) s.accepted);
    rows = subst RowsOfEight (sym (same_program b b' k)) s.rows;
    wired = subst (λ (m : Meaning). WiredFor m.sheet b'.wiring) (sym k.host) (subst (WiredFor (meaning b.host).sheet) (sym k.wiring) s.wired);
  }

  -- a sound bench is fit for its instructions, and a bench that stays so stays fit
  pub fit : (b : Bench H) → SoundBench meaning b → FitBench meaning b
  fit b s = record { bounds = s.accepted.bounds; wired = s.wired }

  pub fit_kept : (b b' : Bench H) → SameBench meaning b b' → FitBench meaning b → FitBench meaning b'
  fit_kept b b' k f = record {
    bounds = subst (λ (m : Meaning). Bounded m.sheet (loaded b').entry (loaded b').lines) (sym k.host) (subst (λ p. Bounded (meaning b.host).sheet p.entry p.lines) (sym (same_program b b' k)) f.bounds);
    wired = subst (λ (m : Meaning). WiredFor m.sheet b'.wiring) (sym k.host) (subst (WiredFor (meaning b.host).sheet) (sym k.wiring) f.wired);
  }

  module _ {P : Type 0} (ports : H → Ports) (mark : P → Bool) (lawful : (h : H) → Lawful (meaning h)) (r : Run H P) (s : SoundRun meaning ports mark r) where
    abbrev m : Meaning
    m = meaning r.bench.host

    abbrev p : Contents
    p = loaded r.bench

    begins : Begins m p s.begun
    begins = record { lawful = lawful r.bench.host; accepted = s.bench.accepted; rows = s.bench.rows; ports = s.long }

    -- what a call on a run that has not stopped rests on
    pub steady_run : r.progress.stop ≡ None → Steady m p (shown ports r)
    steady_run e =
        subst (Steady m p) (sym s.came_to)
        (bare_steady m p _ (steady (mark r.policy) m p s.begun s.calls begins s.chosen (ap (λ (x : State). x.stop) (sym s.came_to) ∙ e)))

    module _ (c : RunCall) (r' : Run H P) (same : SameBench meaning r.bench r'.bench)
        (ek : mark r'.policy ≡ mark r.policy) (state : shown ports r' ≡ bare (leaves m p c (shown ports r))) (asked : Asked (Choice (mark r.policy)) m c (leaves m p c (shown ports r))) where
      abbrev reached : State
      reached = after m p s.calls (fresh p s.begun)

      pub sound_next : SoundRun meaning ports mark r'
      sound_next =
          let before = s.calls in
          let calls = before ++ (c ∷ []) in
          let v = s.begun in
          let m' = meaning r'.bench.host in
          let p' = loaded r'.bench in
          let eq = same_program r.bench r'.bench same in
          let one : bare (leaves m p c (shown ports r)) ≡ bare (leaves m p c reached) = ap (λ x. bare (leaves m p c x)) s.came_to ∙ leaves_bare m p c reached in
          let chosen : ByPolicy (mark r.policy) m p calls (fresh p v) =
          chosen_more (Choice (mark r.policy)) m p before c (fresh p v) s.chosen (asked_same (Choice (mark r.policy)) m c (leaves m p c (shown ports r)) (leaves m p c reached) one asked) in
          record {
            bench = bench_kept r.bench r'.bench same s.bench;
            begun = v;
            long = subst (λ (x : Meaning). length v ≡ x.sheet.ports) (sym same.host) s.long;
            calls = calls;
            chosen = subst (λ k. ByPolicy k m' p' calls (fresh p' v)) (sym ek) (subst (λ x. ByPolicy (mark r.policy) x p' calls (fresh p' v)) (sym same.host) (subst (λ q. ByPolicy (mark r.policy) m q calls (fresh q v)) (sym eq) chosen));
            came_to = state ∙ one ∙ ap bare (sym (after_more m p before c (fresh p v))) ∙ ap (λ x. bare (after x p calls (fresh p v))) (sym same.host) ∙ ap (λ q. bare (after m' q calls (fresh q v))) (sym eq);
          }

      pub follows : Follows meaning ports mark c r r'
      follows = record { state = state; bench = same; mark_stays = ek; chosen = asked; sound = sound_next }
