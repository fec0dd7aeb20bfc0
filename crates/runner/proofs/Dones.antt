-- The end of a task by the code is one by the reference runner.
use Rattle.std.proofs.Common.{◌≡◌, ℕ, true, false, not, cond, eqb, Option, Some, None, Ok, Err, sym, refl, ap, ◌∙◌}
use Rattle.std.proofs.lemmas.Bool.{eq-eqb, cond-true, eqb-true, not-false}
use Rattle.std.specs.Option.{option_eq}
use Rattle.ecode.specs.Verdict.{Contents}
use Rattle.host.specs.Meaning.{Meaning}
use Rattle.machine.specs.declared.fault.RunFault.TheVariants.{NotRunning}
use Rattle.machine.specs.State.{Job, State}
use Rattle.machine.specs.Runner.{changed, put_own, finish, done}
use Rattle.machine.specs.Calls.{Done, is_running, if_going, leaves, unless_over, done_answer}
use Rattle.ecode.specs.Sheets.{owns_of}

-- what is equal to a task that runs is that task
pub running_is : (o : Option ℕ) (t : ℕ) → not (option_eq eqb o (Some t)) ≡ false → o ≡ Some t
running_is None t e = cc
running_is (Some i) t e = ap Some (eqb-true i t (not-false (eqb i t) e))

module _ (m : Meaning) (p : Contents) (t : ℕ) (s : State) (going : s.stop ≡ None) (runs : s.running ≡ Some t) where
  is_on : is_running s.running t ≡ true
  is_on = ap (λ o. is_running o t) runs ∙ eq-eqb t t refl

  pub ends : (k : Job) → s.pending t ≡ Some k → leaves m p (Done t) s ≡ record {
    ports = put_own (owns_of m.sheet t) 0 s.ports (m.work t k.taken);
    queue = s.queue;
    pending = changed s.pending t None;
    running = None;
    stop = s.stop;
    log = s.log;
  }
  ends k e =
      ap (λ o. if_going o (cond (is_running s.running t) (done m t s) s) s) going ∙ cond-true (is_running s.running t) _ _ is_on
      ∙ ap (λ o. finish m t o s) e

  pub ended : Ok tt ≡ done_answer t s
  ended = sym (ap (λ o. unless_over o (cond (is_running s.running t) (Ok tt) (Err (NotRunning t)))) going ∙ cond-true (is_running s.running t) _ _ is_on)
