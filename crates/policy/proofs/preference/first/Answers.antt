use Rattle.std.proofs.Common.{◌≡◌, ◌⊎◌, ◌∷◌, refl, ap, ◌∙◌, subst, rules}
use Rattle.std.proofs.lemmas.Fn.{fold_same}
use Rattle.std.proofs.iter.Yields.{Copied-Drains}
use Rattle.policy.proofs.Bests.{Best, best_push, best_alone}
use Rattle.policy.proofs.preference.first.Goals as goal

pub returns : goal.returns
returns g c =
    let order = g.P.Preference.ahead c.args.preference.now in
    let laws = g.met.P.Preference in
    let chained = laws.chained c.args.preference.now in
    let ran = c.in_ok-best.ensures.ran in
    let whole = Copied-Drains c.copied.result (ran.0 ∷ ran.1) ran.3 in
    let found : Best order chained (ran.0 ∷ ran.1) c.in_ok-best.best =
    fold_same _ (λ ys a. Best order chained (ran.0 ∷ ys) a) _
    (λ ys a x b f' best call.
    let one : (b ≡ x) ⊎ (b ≡ a) = search rules in
    let over : order b x × order b a = search rules in
    (best_push order chained (ran.0 ∷ ys) a x b best one over.0 over.1, search rules))
    ran.1 ran.0 c.in_ok-best.best ran.2 (best_alone order chained (laws.level c.args.preference.now) ran.0) ran.4 in
    let best = subst (λ xs. Best order chained xs c.in_ok-best.best) (whole ∙ ap (λ s. s.rest.now) c.copied.ensures.source ∙ c.iter.ensures.rest) found in
    record {
      answer = (c.in_ok-best.best, refl, best.0, best.1);
      only = search rules;
    }
