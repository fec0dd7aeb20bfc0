-- Lists of calls, one call more at a time.
use Rattle.std.proofs.Common.{◌≡◌, ℕ, zero, suc, ◌+◌, ◌<◌, ◌≤◌, Bool, ◌⊎◌, List, [], ◌∷◌, ◌++◌, length, get_or, take, drop, set, Result, sym, refl, ap, ◌∙◌, subst, inl, inr, arith, drop-drop}
use Rattle.std.proofs.lemmas.List.{take_more, take_more_set}
use Rattle.ecode.specs.Verdict.{Contents}
use Rattle.host.specs.Meaning.{Meaning}
use Rattle.policy.specs.Choice.{Choice}
use Rattle.machine.specs.declared.answer.Answer.{Answer}
use Rattle.machine.specs.declared.fault.RunFault.{RunFault}
use Rattle.machine.specs.State.{Ports, bare}
use Rattle.machine.specs.Calls.{leaves, answer, after, answers, Asked, ByPolicy}
use Rattle.machine.proofs.Reached.{leaves_bare, answer_bare, after_more, answers_more, chosen_more}
use Rattle.runner.specs.declared.call.Call.{Call}
use Rattle.runner.specs.declared.call.Call.TheVariants.{Tick}
use Rattle.runner.specs.declared.run.Run.{Run}
use Rattle.runner.specs.Sound.{loaded, shown, SameBench, SoundRun}
use Rattle.runner.specs.Follows.{Follows}
use Rattle.runner.specs.Record.{told, record_of}
use Rattle.runner.proofs.Sounds.{asked_same, both_same, same_program}

-- what stands past the end of a list of calls
abbrev pub no_call : Call
no_call = Tick (record { ref_ptr = (0, 0); now = [] })

record_push : (cs : List Call) (given : List (Result Answer RunFault)) (c : Call) (a : Result Answer RunFault) → length cs ≡ length given → record_of (cs ++ (c ∷ [])) (given ++ (a ∷ [])) ≡ record_of cs given ++ (told c a ∷ [])
record_push [] [] c a e = refl
record_push [] (b ∷ given) c a e = absurd (omega arith)
record_push (d ∷ cs) [] c a e = absurd (omega arith)
record_push (d ∷ cs) (b ∷ given) c a e = ap (λ l. told d b ∷ l) (record_push cs given c a (omega arith))

-- what is past the calls or past the answers is not in the record
pub record_cut : (cs : List Call) (given : List (Result Answer RunFault)) (n : ℕ) → (length cs ≤ n) ⊎ (length given ≤ n) → record_of (take n cs) (take n given) ≡ record_of cs given
record_cut [] given zero h = refl
record_cut [] given (suc n) h = refl
record_cut (c ∷ cs) [] zero h = refl
record_cut (c ∷ cs) [] (suc n) h = refl
record_cut (c ∷ cs) (a ∷ given) zero (inl h) = absurd (omega arith)
record_cut (c ∷ cs) (a ∷ given) zero (inr h) = absurd (omega arith)
record_cut (c ∷ cs) (a ∷ given) (suc n) (inl h) = ap (λ l. told c a ∷ l) (record_cut cs given n (inl (omega arith)))
record_cut (c ∷ cs) (a ∷ given) (suc n) (inr h) = ap (λ l. told c a ∷ l) (record_cut cs given n (inr (omega arith)))

-- the calls cs with the answers given took the run from r₀ to r
pub record Playing {H P : Type 0} (meaning : H → Meaning) (ports : H → Ports) (mark : P → Bool) (cs : List Call) (given : List (Result Answer RunFault)) (r₀ r : Run H P) : Type 0 where
  pub answered : given ≡ answers (meaning r₀.bench.host) (loaded r₀.bench) (record_of cs given) (shown ports r₀)
  pub state : shown ports r ≡ bare (after (meaning r₀.bench.host) (loaded r₀.bench) (record_of cs given) (shown ports r₀))
  pub chosen : ByPolicy (mark r₀.policy) (meaning r₀.bench.host) (loaded r₀.bench) (record_of cs given) (shown ports r₀)
  pub bench : SameBench meaning r₀.bench r.bench
  pub mark_stays : mark r.policy ≡ mark r₀.policy
  pub sound : SoundRun meaning ports mark r

module _ {H P : Type 0} (meaning : H → Meaning) (ports : H → Ports) (mark : P → Bool) (r₀ r r' : Run H P) where
  -- one call more
  playing_push : (cs : List Call) (given : List (Result Answer RunFault)) (c : Call) (a : Result Answer RunFault) → length cs ≡ length given → Playing meaning ports mark cs given r₀ r
      → a ≡ answer (meaning r.bench.host) (loaded r.bench) (told c a) (shown ports r) → Follows meaning ports mark (told c a) r r'
      → Playing meaning ports mark (cs ++ (c ∷ [])) (given ++ (a ∷ [])) r₀ r'
  playing_push cs given c a e k said f =
      let m = meaning r₀.bench.host in
      let p = loaded r₀.bench in
      let s = shown ports r₀ in
      let made = record_of cs given in
      let t = told c a in
      let reached = after m p made s in
      let eq = same_program meaning r₀.bench r.bench k.bench in
      let both : (F : Meaning → Contents → Type 0) → F (meaning r.bench.host) (loaded r.bench) → F m p =
      λ F x. subst (λ q. F m q) eq (subst (λ y. F y (loaded r.bench)) k.bench.host x) in
      let pushed = record_push cs given c a e in
      let said_there : a ≡ answer m p t reached = both (λ y q. a ≡ answer y q t (shown ports r)) said ∙ ap (answer m p t) k.state ∙ answer_bare m p t reached in
      let leads : shown ports r' ≡ bare (leaves m p t reached) = both (λ y q. shown ports r' ≡ bare (leaves y q t (shown ports r))) f.state ∙ ap (λ x. bare (leaves m p t x)) k.state ∙ leaves_bare m p t reached in
      let one : bare (leaves m p t (shown ports r)) ≡ bare (leaves m p t reached) = ap (λ x. bare (leaves m p t x)) k.state ∙ leaves_bare m p t reached in
      let asked : Asked (Choice (mark r₀.policy)) m t (leaves m p t reached) =
      asked_same (Choice (mark r₀.policy)) m t (leaves m p t (shown ports r)) (leaves m p t reached) one
      (subst (λ b. Asked (Choice b) m t (leaves m p t (shown ports r))) k.mark_stays (both (λ y q. Asked (Choice (mark r.policy)) y t (leaves y q t (shown ports r))) f.chosen)) in
      record {
        answered = ap (λ l. l ++ (a ∷ [])) k.answered ∙ ap (λ x. answers m p made s ++ (x ∷ [])) said_there ∙ sym (answers_more m p made t s) ∙ ap (λ l. answers m p l s) (sym pushed);
        state = leads ∙ ap bare (sym (after_more m p made t s)) ∙ ap (λ l. bare (after m p l s)) (sym pushed);
        chosen = subst (λ l. ByPolicy (mark r₀.policy) m p l s) (sym pushed) (chosen_more (Choice (mark r₀.policy)) m p made t s k.chosen asked);
        bench = both_same meaning r₀.bench r.bench r'.bench k.bench f.bench;
        mark_stays = f.mark_stays ∙ k.mark_stays;
        sound = f.sound;
      }

  -- the call at i, with its answer put into its place
  pub playing_more : (cs : List Call) (given : List (Result Answer RunFault)) (i : ℕ) (a : Result Answer RunFault) → i < length cs → i < length given → Playing meaning ports mark (take i cs) (take i given) r₀ r
      → a ≡ answer (meaning r.bench.host) (loaded r.bench) (told (get_or cs i no_call) a) (shown ports r) → Follows meaning ports mark (told (get_or cs i no_call) a) r r'
      → Playing meaning ports mark (take (i + 1) cs) (take (i + 1) (set given i a)) r₀ r'
  playing_more cs given i a h₁ h₂ k said f =
      subst (λ l. Playing meaning ports mark l (take (i + 1) (set given i a)) r₀ r') (sym (take_more cs i no_call h₁))
      (subst (λ l. Playing meaning ports mark (take i cs ++ (get_or cs i no_call ∷ [])) l r₀ r') (sym (take_more_set given i a h₂))
      (playing_push (take i cs) (take i given) (get_or cs i no_call) a (simp lib.ListN.length-take (omega arith)) k said f))

-- what agrees from i on agrees from i + 1 on
pub drop_one : {A : Type 0} (i : ℕ) (xs ys : List A) → drop i xs ≡ drop i ys → drop (i + 1) xs ≡ drop (i + 1) ys
drop_one i xs ys e = sym (drop-drop 1 i xs) ∙ ap (drop 1) e ∙ drop-drop 1 i ys
