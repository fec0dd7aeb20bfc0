-- Call by call; at the end the calls or the places are all used.
use Rattle.std.proofs.Common.{◌≡◌, ◌+◌, ◌≤◌, ◌⊎◌, ◌++◌, length, take, drop, sym, ap, ◌∙◌, subst, inl, inr, arith, length-take, take-append-drop}
use Rattle.std.proofs.lemmas.List.{get_or-take, drop-set-lt, drop_all}
use Rattle.std.proofs.lemmas.Bool.{cases_lt}
use Rattle.machine.specs.State.{bare}
use Rattle.machine.specs.Calls.{answer, after, answers, ByPolicy}
use Rattle.runner.specs.Sound.{loaded, shown}
use Rattle.runner.specs.declared.call.Call.{Call}
use Rattle.runner.specs.Follows.{Follows}
use Rattle.runner.specs.Record.{told, record_of}
use Rattle.runner.proofs.Records.{no_call, playing_more, record_cut, drop_one}
use Rattle.runner.proofs.run.Run.make_all.Goals as goal

pub loop-i-preserved : goal.loop-i-preserved
loop-i-preserved g c =
    let M = g.H.Host.meaning in
    let ports = g.H.Host.ports in
    let mark = g.P.Policy.mark in
    let cs = c.args.calls.now in
    let given = c.loop-i.answers in
    let i = c.loop-i.i in
    let r = c.loop-i.self in
    let a = c.make.result in
    let long : length (take c.min-n.result cs) ≡ c.min-n.result = simp length-take (omega arith) in
    let same = get_or-take c.min-n.result cs i no_call (omega (arith, long)) in (
      playing_more M ports mark c.args.self.now r c.make.new.self cs given i a (omega (arith, long)) (omega (arith, long)) c.loop-i.invariant.0
          (subst (λ (x : Call). a ≡ answer (M r.bench.host) (loaded r.bench) (told x a) (shown ports r)) same c.make.ensures.answer)
          (subst (λ (x : Call). Follows M ports mark (told x a) r c.make.new.self) same c.make.ensures.follows),
      drop-set-lt (i + 1) given i a (omega arith) ∙ drop_one i given c.args.answers.now c.loop-i.invariant.1,
    )

pub returns : goal.returns
returns g c =
    let cs = c.args.calls.now in
    let old = c.args.answers.now in
    let new = c.loop-i.answers in
    let n = c.loop-i.i in
    let r₀ = c.args.self.now in
    let m = g.H.Host.meaning r₀.bench.host in
    let p = loaded r₀.bench in
    let s = shown g.H.Host.ports r₀ in
    let k = c.loop-i.invariant.0 in
    let long : length new ≡ length old = omega arith in
    let all : length (take c.min-n.result cs) ≡ c.min-n.result = simp length-take (omega arith) in
    let ends : (length cs ≤ n) ⊎ (length new ≤ n) = elim (cases_lt (length cs) (length new)) [ inl l ↦ inl (omega (arith, all)) | inr l ↦ inr (omega (arith, all)) ] in
    let rest : drop n old ≡ drop (length cs) old = elim (cases_lt (length cs) (length new)) [
      | inl l ↦ let e : n ≡ length cs = omega (arith, all) in ap (λ j. drop j old) e
      | inr l ↦ drop_all n old (omega (arith, all)) ∙ sym (drop_all (length cs) old (omega arith))
    ] in
    let cut = record_cut cs new n ends in
    record {
      answered = sym (take-append-drop n new) ∙ ap (λ l. l ++ drop n new) k.answered ∙ ap (λ l. answers m p l s ++ drop n new) cut ∙ ap (λ l. answers m p (record_of cs new) s ++ l) (c.loop-i.invariant.1 ∙ rest);
      state = k.state ∙ ap (λ l. bare (after m p l s)) cut;
      chosen = subst (λ l. ByPolicy (g.P.Policy.mark r₀.policy) m p l s) cut k.chosen;
      bench = k.bench;
      sound = k.sound;
    }
