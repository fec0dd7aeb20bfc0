use Rattle.std.proofs.Common.{◌≡◌, ◌<◌, ◌≤◌, length, sym, ◌∙◌, subst, arith}
use Rattle.host.specs.Stops.{kept, kept_of}
use Rattle.host.specs.StopLaws.{KeptRules}
use Rattle.host.proofs.Keeping.{admit_more, admit_none, kept_rules}
use Rattle.host.proofs.stop.StopTable.new.Goals as goal

pub loop-name-preserved : goal.loop-name-preserved
loop-name-preserved c =
    let names = c.args.names.now in
    let lt : c.loop-name.name-index < length names = omega arith in
    admit_more c.args.sheet.now names c.loop-name.name-index _ (kept c.loop-name.table) _ lt c.admit.ensures ∙ c.loop-name.invariant

pub returns : goal.returns
returns c =
    let sheet = c.args.sheet.now in
    let names = c.args.names.now in
    let ge : length names ≤ c.loop-name.name-index = omega arith in
    let all : kept c.loop-name.table ≡ kept_of sheet names =
    admit_none sheet names c.loop-name.name-index (kept c.loop-name.table) ge ∙ c.loop-name.invariant in
    record { kept = all; rules = subst (KeptRules sheet names) (sym all) (kept_rules sheet names) }
