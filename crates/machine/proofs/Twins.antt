-- Two runs of one program side by side: equal queues and alike ports, as long as neither has stopped. From it, that their driver
-- ports agree.
use Rattle.std.proofs.Common.{◌≡◌, ℕ, zero, suc, ◌+◌, ◌<◌, ◌≤◌, Bool, true, false, cond, ◌⊎◌, List, [], ◌∷◌, map, length, ℤ, Some, None, Option, sym, refl, ap, ◌∙◌, subst, inl, inr, ⊎_elim, arith}
use Rattle.std.proofs.lemmas.Bool.{cases_lt}
use Rattle.std.proofs.lemmas.List.{get_or_past}
use Rattle.ecode.specs.declared.port.PortKind.TheVariants.{Driver}
use Rattle.ecode.specs.Sheets.{kind, Port}
use Rattle.ecode.specs.Typing.{blank}
use Rattle.ecode.specs.Verdict.{Contents}
use Rattle.ecode.specs.Accepted.{Ranged, Accepted}
use Rattle.host.specs.Meaning.{Meaning, Lawful, reading}
use Rattle.machine.specs.declared.stop.Stop.{Stop}
use Rattle.machine.specs.State.{Ports, size, instruction_at, budget, Job, State, fresh}
use Rattle.machine.specs.Runner.{touched, queue_after, next_after, performed, onward, thread, Due, first_due, with_queue, threads_on, unless_stopped, threads, charged, exhausted, one_less_wait, opening, tick_on, tick, finish, done}
use Rattle.machine.specs.Calls.{RunCall, counts, is_running, if_going, leaves, after, Tick, Done, AskState, AskPort}
use Rattle.machine.specs.Begins.{Begins}
use Rattle.machine.specs.Agreement.{readings_of, LikeHosts, DriverPortsAgree}
use Rattle.machine.proofs.Stops.{Going, unless_going, threads_went, went}
use Rattle.machine.proofs.Alike.{Alike, drivers_plain, alike_sym, alike_open, alike_instruction, alike_next, alike_done}

-- every instruction of the program is in range, and past its end stands a return
ranged : (m : Meaning) (p : Contents) → Accepted m.sheet p → (a : ℕ) → Ranged m.sheet (instruction_at p a)
ranged m p ok a = ⊎_elim
    (λ (l : a < size p). ok.bounds.ranges a l)
    (λ (l : size p ≤ a). subst (λ x. Ranged m.sheet x.instruction) (sym (get_or_past p.lines a blank l)) tt)
    (cases_lt a (size p))

module _ (m : Meaning) (p : Contents) (ok : Lawful m) (range : (a : ℕ) → Ranged m.sheet (instruction_at p a)) where
  pub record Twin (s s' : State) : Type 0 where
    pub queue : s.queue ≡ s'.queue
    pub alike : Alike m s.ports s'.ports s.pending s'.pending

  thread_twin : (turns a : ℕ) (s s' : State) → Twin s s' → Going (thread m p turns a s) → Going (thread m p turns a s') → Twin (thread m p turns a s) (thread m p turns a s')
  thread_twin zero a s s' t g g' = t
  thread_twin (suc turns) a s s' t g g' =
      go (touched m.sheet s.pending (instruction_at p a)) refl (touched m.sheet s'.pending (instruction_at p a)) refl g g' (λ b u u'. thread_twin turns b u u')
    where
      Run : State → Option ℕ → State
      Run u o = onward (thread m p turns) (performed m (instruction_at p a) a o u).state (performed m (instruction_at p a) a o u).next

      IH : Type 0
      IH = (b : ℕ) (u u' : State) → Twin u u' → Going (thread m p turns b u) → Going (thread m p turns b u') → Twin (thread m p turns b u) (thread m p turns b u')

      onto : (o o' : Option ℕ) (u u' : State) → o ≡ o' → Twin u u' → Going (onward (thread m p turns) u o) → Going (onward (thread m p turns) u' o') → IH →
          Twin (onward (thread m p turns) u o) (onward (thread m p turns) u' o')
      onto None None u u' e t g g' ih = t
      onto None (Some b) u u' e t g g' ih = cc
      onto (Some b) None u u' e t g g' ih = cc
      onto (Some b) (Some c) u u' e t g g' ih =
          let z : b ≡ c = cc in
          subst (λ (x : ℕ). Twin (thread m p turns b u) (thread m p turns x u')) z
          (ih b u u' t g (subst (λ (x : ℕ). Going (thread m p turns x u')) (sym z) g'))

      go : (o : Option ℕ) → touched m.sheet s.pending (instruction_at p a) ≡ o → (o' : Option ℕ) → touched m.sheet s'.pending (instruction_at p a) ≡ o' →
          Going (Run s (touched m.sheet s.pending (instruction_at p a))) → Going (Run s' (touched m.sheet s'.pending (instruction_at p a))) → IH →
          Twin (Run s (touched m.sheet s.pending (instruction_at p a))) (Run s' (touched m.sheet s'.pending (instruction_at p a)))
      go (Some x) e o' e' g g' ih = let k : Going (Run s (Some x)) = subst (λ (o : Option ℕ). Going (Run s o)) e g in cc
      go None e (Some x) e' g g' ih = let k : Going (Run s' (Some x)) = subst (λ (o : Option ℕ). Going (Run s' o)) e' g' in cc
      go None e None e' g g' ih =
          subst (λ (o : Option ℕ). Twin (Run s o) (Run s' (touched m.sheet s'.pending (instruction_at p a)))) (sym e)
          (subst (λ (o : Option ℕ). Twin (Run s None) (Run s' o)) (sym e')
          (onto (next_after m (instruction_at p a) a s.ports) (next_after m (instruction_at p a) a s'.ports) (performed m (instruction_at p a) a None s).state (performed m (instruction_at p a) a None s').state
          (alike_next m ok (instruction_at p a) a s.ports s'.ports s.pending s'.pending t.alike)
          (record {
            queue = ap (queue_after (instruction_at p a)) t.queue;
            alike = alike_instruction m ok (instruction_at p a) s.ports s'.ports s.pending s'.pending (range a) e e' t.alike;
          })
          (subst (λ (o : Option ℕ). Going (Run s o)) e g) (subst (λ (o : Option ℕ). Going (Run s' o)) e' g') ih))

  threads_twin : (turns : ℕ) (s s' : State) → Going s → Going s' → Twin s s' → Going (threads m p turns s) → Going (threads m p turns s') → Twin (threads m p turns s) (threads m p turns s')
  threads_twin zero s s' a a' t g g' = t
  threads_twin (suc turns) s s' a a' t g g' = go (first_due s.queue) refl g g' (λ u u'. threads_twin turns u u')
    where
      Run : State → Option Due → State
      Run u o = threads_on (threads m p turns) m p u o

      IH : Type 0
      IH = (u u' : State) → Going u → Going u' → Twin u u' → Going (threads m p turns u) → Going (threads m p turns u') → Twin (threads m p turns u) (threads m p turns u')

      at : (o : Option Due) → Going (Run s o) → Going (Run s' o) → IH → Twin (Run s o) (Run s' o)
      at None g g' ih = t
      at (Some d) g g' ih =
          let q = threads_went m p turns (thread m p (size p) d.address (with_queue s d.others)) g in
          let q' = threads_went m p turns (thread m p (size p) d.address (with_queue s' d.others)) g' in
          ih (thread m p (size p) d.address (with_queue s d.others)) (thread m p (size p) d.address (with_queue s' d.others)) q q'
          (thread_twin (size p) d.address (with_queue s d.others) (with_queue s' d.others) (record { queue = refl; alike = t.alike }) q q') g g'

      go : (o : Option Due) → first_due s.queue ≡ o →
          Going (Run s (unless_stopped s.stop (first_due s.queue))) → Going (Run s' (unless_stopped s'.stop (first_due s'.queue))) → IH →
          Twin (Run s (unless_stopped s.stop (first_due s.queue))) (Run s' (unless_stopped s'.stop (first_due s'.queue)))
      go o e g g' ih =
          let e1 = unless_going s.stop (first_due s.queue) o a e in
          let e2 = unless_going s'.stop (first_due s'.queue) o a' (ap first_due (sym t.queue) ∙ e) in
          subst (λ (x : Option Due). Twin (Run s x) (Run s' (unless_stopped s'.stop (first_due s'.queue)))) (sym e1)
          (subst (λ (x : Option Due). Twin (Run s o) (Run s' x)) (sym e2)
          (at o (subst (λ (x : Option Due). Going (Run s x)) e1 g) (subst (λ (x : Option Due). Going (Run s' x)) e2 g') ih))

  tick_twin : (r : List ℤ) (c c' : Option ℕ) (s s' : State) → Twin s s' → Going (tick m p r c s) → Going (tick m p r c' s') → Twin (tick m p r c s) (tick m p r c' s')
  tick_twin r c c' s s' t g g' =
      go (exhausted (budget p) (charged s.pending s.running) s.running) (exhausted (budget p) (charged s'.pending s'.running) s'.running) g g'
    where
      Run : Option ℕ → State
      Run o = tick_on m p r c s (charged s.pending s.running) o

      Run' : Option ℕ → State
      Run' o = tick_on m p r c' s' (charged s'.pending s'.running) o

      begun : Twin (opening m r s (charged s.pending s.running)) (opening m r s' (charged s'.pending s'.running))
      begun = record {
        queue = ap (map one_less_wait) t.queue;
        alike = alike_open m ok s.ports s'.ports s.pending s'.pending r s.running s'.running t.alike;
      }

      go : (o o' : Option ℕ) → Going (Run o) → Going (Run' o') → Twin (Run o) (Run' o')
      go (Some x) o' g g' = cc
      go None (Some x) g g' = cc
      go None None g g' =
          let l : length s'.queue ≡ length s.queue = ap length (sym t.queue) in
          let u : Going (threads m p (length s.queue) (opening m r s' (charged s'.pending s'.running))) =
          subst (λ (n : ℕ). Going (threads m p n (opening m r s' (charged s'.pending s'.running)))) l g' in
          let w = threads_twin (length s.queue) (opening m r s (charged s.pending s.running)) (opening m r s' (charged s'.pending s'.running)) refl refl begun g u in
          let x : Twin (threads m p (length s.queue) (opening m r s (charged s.pending s.running))) (threads m p (length s'.queue) (opening m r s' (charged s'.pending s'.running))) =
          subst (λ (n : ℕ). Twin (threads m p (length s.queue) (opening m r s (charged s.pending s.running))) (threads m p n (opening m r s' (charged s'.pending s'.running)))) (sym l) w in
          record { queue = x.queue; alike = x.alike }

  twin_sym : (s s' : State) → Twin s s' → Twin s' s
  twin_sym s s' t = record { queue = sym t.queue; alike = alike_sym m ok s.ports s'.ports s.pending s'.pending t.alike }

  done_twin : (i : ℕ) (s s' : State) → Twin s s' → Twin (done m i s) s'
  done_twin i s s' t = go (s.pending i) refl
    where
      go : (o : Option Job) → s.pending i ≡ o → Twin (finish m i (s.pending i) s) s'
      go None e = subst (λ (o : Option Job). Twin (finish m i o s) s') (sym e) t
      go (Some k) e = subst (λ (o : Option Job). Twin (finish m i o s) s') (sym e)
          (record { queue = t.queue; alike = alike_done m ok i k s.ports s'.ports s.pending s'.pending e t.alike })

  -- a call that is no tick, or a tick that is refused for its readings
  abbrev Aside : RunCall → Type 0
  Aside (Tick r c) = counts m r ≡ false
  Aside (Done t) = Unit {0}
  Aside AskState = Unit {0}
  Aside (AskPort x) = Unit {0}

  aside_twin : (c : RunCall) (s s' : State) → Aside c → Twin s s' → Twin (leaves m p c s) s'
  aside_twin (Tick r c) s s' e t = subst (λ (u : State). Twin u s') (sym same) t
    where
      same : leaves m p (Tick r c) s ≡ s
      same = ap (λ (b : Bool). if_going s.stop (cond b (tick m p r c s) s) s) e ∙ go s.stop
        where
          go : (x : Option Stop) → if_going x s s ≡ s
          go None = refl
          go (Some x) = refl
  aside_twin (Done i) s s' e t = go s.stop (is_running s.running i)
    where
      go : (x : Option Stop) (b : Bool) → Twin (if_going x (cond b (done m i s) s) s) s'
      go (Some x) b = t
      go None true = done_twin i s s' t
      go None false = t
  aside_twin AskState s s' e t = t
  aside_twin (AskPort x) s s' e t = t

  aside_right : (c : RunCall) (s s' : State) → Aside c → Twin s s' → Twin s (leaves m p c s')
  aside_right c s s' e t = twin_sym (leaves m p c s') s (aside_twin c s' s e (twin_sym s s' t))

  -- a tick that counts
  record Counted (c : RunCall) : Type 0 where
    readings : List ℤ
    choice : Option ℕ
    says : (calls : List RunCall) → readings_of m (c ∷ calls) ≡ readings ∷ readings_of m calls
    does : (s : State) → Going s → leaves m p c s ≡ tick m p readings choice s

  -- a call is one or the other
  head : (c : RunCall) → (Aside c × ((calls : List RunCall) → readings_of m (c ∷ calls) ≡ readings_of m calls)) ⊎ Counted c
  head (Tick r c) = go (counts m r) refl
    where
      go : (b : Bool) → counts m r ≡ b → (Aside (Tick r c) × ((calls : List RunCall) → readings_of m (Tick r c ∷ calls) ≡ readings_of m calls)) ⊎ Counted (Tick r c)
      go true e = inr (record {
        readings = r;
        choice = c;
        says = λ calls. ap (λ (x : Bool). cond x (r ∷ readings_of m calls) (readings_of m calls)) e;
        does = λ s g. ap (λ (x : Option Stop). if_going x (cond (counts m r) (tick m p r c s) s) s) g ∙ ap (λ (b : Bool). cond b (tick m p r c s) s) e;
      })
      go false e = inl (e, λ calls. ap (λ (x : Bool). cond x (r ∷ readings_of m calls) (readings_of m calls)) e)
  head (Done t) = inl (tt, λ calls. refl)
  head AskState = inl (tt, λ calls. refl)
  head (AskPort x) = inl (tt, λ calls. refl)

  both_tick : (c c' : RunCall) (k : Counted c) (k' : Counted c') (s s' : State) → k.readings ≡ k'.readings → Going s → Going s' → Going (leaves m p c s) → Going (leaves m p c' s') →
      Twin s s' → Twin (leaves m p c s) (leaves m p c' s')
  both_tick c c' k k' s s' e a a' g g' t =
      let b = k.does s a in
      let b' : leaves m p c' s' ≡ tick m p k.readings k'.choice s' = k'.does s' a' ∙ ap (λ (r : List ℤ). tick m p r k'.choice s') (sym e) in
      let w = tick_twin k.readings k.choice k'.choice s s' t (subst Going b g) (subst Going b' g') in
      subst (λ (u : State). Twin u (leaves m p c' s')) (sym b) (subst (λ (u : State). Twin (tick m p k.readings k.choice s) u) (sym b') w)

  pub run_twin : (n : ℕ) (calls calls' : List RunCall) (s s' : State) → length calls + length calls' ≤ n → Twin s s' → readings_of m calls ≡ readings_of m calls' →
      Going (after m p calls s) → Going (after m p calls' s') → Twin (after m p calls s) (after m p calls' s')
  run_twin n [] [] s s' l t e g g' = t
  run_twin zero (c ∷ calls) calls' s s' l t e g g' = absurd (omega arith)
  run_twin zero [] (c ∷ calls') s s' l t e g g' = absurd (omega arith)
  run_twin (suc n) [] (c ∷ calls') s s' l t e g g' =
      elim (head c) [
        | inl a ↦ run_twin n [] calls' s (leaves m p c s') (omega arith) (aside_right c s s' a.0 t) (e ∙ a.1 calls') g g'
        | inr k ↦ absurd (let w = e ∙ k.says calls' in cc)
      ]
  run_twin (suc n) (c ∷ calls) [] s s' l t e g g' =
      elim (head c) [
        | inl a ↦ run_twin n calls [] (leaves m p c s) s' (omega arith) (aside_twin c s s' a.0 t) (sym (a.1 calls) ∙ e) g g'
        | inr k ↦ absurd (let w = sym (k.says calls) ∙ e in cc)
      ]
  run_twin (suc n) (c ∷ calls) (c' ∷ calls') s s' l t e g g' =
      elim (head c) [
        | inl a ↦ run_twin n calls (c' ∷ calls') (leaves m p c s) s' (omega arith) (aside_twin c s s' a.0 t) (sym (a.1 calls) ∙ e) g g'
        | inr k ↦
            elim (head c') [
              | inl a ↦ run_twin n (c ∷ calls) calls' s (leaves m p c' s') (omega arith) (aside_right c' s s' a.0 t) (e ∙ a.1 calls') g g'
              | inr k' ↦
                  let w = sym (k.says calls) ∙ e ∙ k'.says calls' in
                  let r : k.readings ≡ k'.readings = cc in
                  let rest : readings_of m calls ≡ readings_of m calls' = cc in
                  run_twin n calls calls' (leaves m p c s) (leaves m p c' s') (omega arith)
                  (both_tick c c' k k' s s' r (went m p (c ∷ calls) s g) (went m p (c' ∷ calls') s' g')
                  (went m p calls (leaves m p c s) g) (went m p calls' (leaves m p c' s') g') t) rest g g'
            ]
      ]

-- on one host
abbrev AgreeOn : Contents → Meaning → Meaning → Ports → Ports → List RunCall → List RunCall → Type 0
AgreeOn p m m' v v' calls calls' = readings_of m calls ≡ readings_of m' calls'
    → Going (after m p calls (fresh p v)) → Going (after m' p calls' (fresh p v'))
    → (x : ℕ) → Port m.sheet x → kind m.sheet x ≡ Driver
    → reading (after m p calls (fresh p v)).ports x ≡ reading (after m' p calls' (fresh p v')).ports x

agree_one : (m : Meaning) (p : Contents) (v : Ports) (calls calls' : List RunCall) → Begins m p v → AgreeOn p m m v v calls calls'
agree_one m p v calls calls' b e g g' x px d =
    let ok = b.lawful in
    let range = ranged m p b.accepted in
    let begun : Twin m p ok range (fresh p v) (fresh p v) = record {
      queue = refl;
      alike = record { long = b.ports; long' = b.ports; off = λ t k. refl; off' = λ t k. refl; plain = λ q f. refl; owned = λ t q k f. refl };
    } in
    let r = run_twin m p ok range (length calls + length calls') calls calls' (fresh p v) (fresh p v) (omega arith) begun e g g' in
    drivers_plain m ok (after m p calls (fresh p v)).ports (after m p calls' (fresh p v)).ports (after m p calls (fresh p v)).pending (after m p calls' (fresh p v)).pending x r.alike d

-- like hosts are one
one_host : (m m' : Meaning) (v v' : Ports) → LikeHosts m m' v v' → m ≡ m'
one_host m m' v v' l = λ i. record { sheet = l.sheets i; drive = λ d xs. l.drives d xs i; work = λ t xs. l.works t xs i; test = λ q xs. l.tests q xs i }

pub agree : DriverPortsAgree
agree m m' p v v' calls calls' b l =
    subst (λ (n : Meaning). AgreeOn p m n v v' calls calls') (one_host m m' v v' l)
    (subst (λ (w : Ports). AgreeOn p m m v w calls calls') l.ports (agree_one m p v calls calls' b))
