-- The verdict on a load: the code's fault comes first, then the budgets', then the load sum decides.
use Rattle.std.proofs.Common.{◌≡◌, ℕ, List, ◌++◌, take, Some, None, Ok, Err, Result, sym, ap, ◌∙◌, ap₂}
use Rattle.ecode.specs.declared.sheet.Sheet.{Sheet}
use Rattle.ecode.specs.declared.code.Line.{Line}
use Rattle.ecode.specs.declared.code.Program.{Program}
use Rattle.ecode.specs.declared.fault.CodeFault.{CodeFault}
use Rattle.ecode.specs.declared.fault.LoadFault.{LoadFault}
use Rattle.ecode.specs.declared.fault.LoadFault.TheVariants.{Code}
use Rattle.ecode.specs.Rules.{broken, inside, Judged}
use Rattle.ecode.specs.Image.{entry, code}
use Rattle.ecode.specs.Verdict.{lines_of, code_rules, budget_rules, sum_rules, rules, verdict, ruled, outcome, Contents}
use Rattle.ecode.specs.Parts.{FromBytes}
use Rattle.ecode.proofs.Firsts.{past, stops, clean_inside, stop_inside}

abbrev made : ℕ → List Line → List ℕ → Contents
made e ls b = record { entry = e; lines = ls; budgets = b }

module _ (s : Sheet) (im bud : List ℕ) where
  pub code_refused : (x : CodeFault) → broken (code_rules s im) ≡ Some x → broken (rules s im bud) ≡ Some (Code x)
  code_refused x e = stops (inside Code (code_rules s im)) (budget_rules s bud ++ sum_rules s (code s im) bud) (Code x) (stop_inside Code (code_rules s im) x e)

  module _ (clean : broken (code_rules s im) ≡ None) where
    rest : broken (rules s im bud) ≡ broken (budget_rules s bud ++ sum_rules s (code s im) bud)
    rest = past (inside Code (code_rules s im)) (budget_rules s bud ++ sum_rules s (code s im) bud) (clean_inside Code (code_rules s im) clean)

    pub budget_refused : (x : LoadFault) → broken (budget_rules s bud) ≡ Some x → broken (rules s im bud) ≡ Some x
    budget_refused x e = rest ∙ stops (budget_rules s bud) (sum_rules s (code s im) bud) x e

    pub sum_decides : (p : Program) → FromBytes s im bud p → broken (budget_rules s bud) ≡ None
        → broken (rules s im bud) ≡ broken (sum_rules s (lines_of p.listing) (take s.tasks p.budgets))
    sum_decides p w e =
        rest ∙ past (budget_rules s bud) (sum_rules s (code s im) bud) e
        ∙ ap₂ (λ ls b. broken (sum_rules s ls b)) (sym w.listing.code) (sym w.budgets)

  -- an answer under all the rules is the verdict
  pub verdict_is : (r : Result Program LoadFault) → Judged (rules s im bud) (FromBytes s im bud) r → outcome s.tasks r ≡ verdict s im bud
  verdict_is (Ok p) h =
      ap₂ (λ e ls. Ok (made e ls (take s.tasks p.budgets))) h.1.listing.start h.1.listing.code
      ∙ ap (λ b. Ok (made (entry im) (code s im) b)) h.1.budgets
      ∙ sym (ap (λ o. ruled o (made (entry im) (code s im) bud)) h.0)
  verdict_is (Err e) h = sym (ap (λ o. ruled o (made (entry im) (code s im) bud)) h)
