-- A stop lasts: nothing that comes after it changes the state, and its ticks do not count.
use Rattle.std.proofs.Common.{◌≡◌, ℕ, zero, suc, cond, List, [], ◌∷◌, Some, None, Option, refl, ap, ◌∙◌, arith}
use Rattle.ecode.specs.Verdict.{Contents}
use Rattle.host.specs.Meaning.{Meaning}
use Rattle.machine.specs.declared.stop.Stop.{Stop}
use Rattle.machine.specs.State.{Event, State}
use Rattle.machine.specs.Runner.{first_due, threads_on, unless_stopped, threads, tick, done}
use Rattle.machine.specs.Calls.{RunCall, counts, is_running, if_going, leaves, after, logged, ticks_of, Tick, Done, AskState, AskPort}

-- a stop is not the absence of one
pub clash : {A : Type 0} {x : Stop} → ◌≡◌ {A = Option Stop} (Some x) None → A
clash e = absurd (let z : ◌≡◌ {A = ℕ} 0 1 = cc in omega arith)

abbrev pub Going : State → Type 0
Going s = s.stop ≡ None

pub unless_going : {A : Type 0} (x : Option Stop) (o o' : Option A) → x ≡ None → o ≡ o' → unless_stopped x o ≡ o'
unless_going None o o' e f = f
unless_going (Some x) o o' e f = cc

the_stop : (o : Option Stop) → (o ≡ None → ⊥) → (x : Stop) × (o ≡ Some x)
the_stop None e = absurd (e refl)
the_stop (Some x) e = (x, refl)

threads_stay : (m : Meaning) (p : Contents) (turns : ℕ) (s : State) (x : Stop) → s.stop ≡ Some x → threads m p turns s ≡ s
threads_stay m p zero s x e = refl
threads_stay m p (suc turns) s x e = ap (threads_on (threads m p turns) m p s) (ap (λ (y : Option Stop). unless_stopped y (first_due s.queue)) e)

pub threads_halt : (m : Meaning) (p : Contents) (turns : ℕ) (s : State) → (s.stop ≡ None → ⊥) → threads m p turns s ≡ s
threads_halt m p turns s e = let x = the_stop s.stop e in threads_stay m p turns s x.0 x.1

pub threads_went : (m : Meaning) (p : Contents) (turns : ℕ) (s : State) → Going (threads m p turns s) → Going s
threads_went m p turns s g = go s.stop refl
  where
    go : (y : Option Stop) → s.stop ≡ y → Going s
    go None e = e
    go (Some x) e = let u = threads_stay m p turns s x e in cc

call_stays : (m : Meaning) (p : Contents) (c : RunCall) (s : State) (x : Stop) → s.stop ≡ Some x → leaves m p c s ≡ s
call_stays m p (Tick r c) s x e = ap (λ (y : Option Stop). if_going y (cond (counts m r) (tick m p r c s) s) s) e
call_stays m p (Done t) s x e = ap (λ (y : Option Stop). if_going y (cond (is_running s.running t) (done m t s) s) s) e
call_stays m p AskState s x e = refl
call_stays m p (AskPort y) s x e = refl

run_stays : (m : Meaning) (p : Contents) (calls : List RunCall) (s : State) (x : Stop) → s.stop ≡ Some x → after m p calls s ≡ s
run_stays m p [] s x e = refl
run_stays m p (c ∷ calls) s x e = ap (after m p calls) (call_stays m p c s x e) ∙ run_stays m p calls s x e

-- what has not stopped after the calls had not stopped before them
pub went : (m : Meaning) (p : Contents) (calls : List RunCall) (s : State) → Going (after m p calls s) → Going s
went m p calls s g = go s.stop refl
  where
    go : (y : Option Stop) → s.stop ≡ y → Going s
    go None e = e
    go (Some x) e = let u = run_stays m p calls s x e in cc

-- a stopped run stays, and its ticks do not count
pub run_halts : (m : Meaning) (p : Contents) (calls : List RunCall) (s : State) → (s.stop ≡ None → ⊥) → (after m p calls s ≡ s) × (ticks_of m p calls s ≡ [])
run_halts m p calls s e = let x = the_stop s.stop e in (run_stays m p calls s x.0 x.1, none calls x.0 x.1)
  where
    none_logged : (c : RunCall) (x : Stop) (s' : State) (later : List (List Event)) → logged m c (Some x) s' later ≡ later
    none_logged (Tick r c) x s' later = refl
    none_logged (Done t) x s' later = refl
    none_logged AskState x s' later = refl
    none_logged (AskPort y) x s' later = refl

    none : (calls : List RunCall) (x : Stop) → s.stop ≡ Some x → ticks_of m p calls s ≡ []
    none [] x e = refl
    none (c ∷ calls) x e =
        let u = call_stays m p c s x e in
        ap (λ (y : Option Stop). logged m c y (leaves m p c s) (ticks_of m p calls (leaves m p c s))) e
        ∙ none_logged c x (leaves m p c s) (ticks_of m p calls (leaves m p c s)) ∙ ap (ticks_of m p calls) u ∙ none calls x e
