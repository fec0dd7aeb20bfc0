-- A program that the check accepts breaks no rule of the load sum.
use Rattle.std.proofs.Common.{◌≡◌, ℕ, List, ◌++◌, Some, None, Ok, Option, sym, refl, ap, ◌∙◌, ap₂}
use Rattle.ecode.specs.declared.sheet.Sheet.{Sheet}
use Rattle.ecode.specs.declared.code.Program.{Program}
use Rattle.ecode.specs.declared.fault.LoadFault.{LoadFault}
use Rattle.ecode.specs.declared.fault.LoadFault.TheVariants.{Code}
use Rattle.ecode.specs.Image.{entry, code}
use Rattle.ecode.specs.Rules.{Rule, broken, inside}
use Rattle.ecode.specs.Verdict.{Contents, contents, ruled, rules, code_rules, budget_rules, sum_rules, verdict}
use Rattle.ecode.proofs.Firsts.{broken-++, none_parts}
use Rattle.pitchbox.specs.Loads.{sums}

-- of rules joined and unbroken, the later ones are unbroken
after : {F : Type 0} (rs qs : List (Rule F)) → broken (rs ++ qs) ≡ None → broken qs ≡ None
after rs qs e = (none_parts (broken rs) (broken qs) (sym (broken-++ rs qs) ∙ e)).1

module _ (s : Sheet) (im bud : List ℕ) (p : Program) where
  from_verdict : (o : Option LoadFault) (c : Contents) → Ok (contents s.tasks p) ≡ ruled o c → (o ≡ None) × (contents s.tasks p ≡ c)
  from_verdict None c e = (refl, cc)
  from_verdict (Some x) c e = (cc, cc)

  pub accepted_sums : Ok (contents s.tasks p) ≡ verdict s im bud → broken (sums s p) ≡ None
  accepted_sums e =
      let both = from_verdict (broken (rules s im bud)) (record { entry = entry im; lines = code s im; budgets = bud }) e in
      let clean = after (budget_rules s bud) (sum_rules s (code s im) bud)
      (after (inside Code (code_rules s im)) (budget_rules s bud ++ sum_rules s (code s im) bud) both.0) in
      ap₂ (λ ls b. broken (sum_rules s ls b)) (ap (λ c. c.lines) both.1) (ap (λ c. c.budgets) both.1) ∙ clean
