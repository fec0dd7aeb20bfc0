use Rattle.std.proofs.Common.{◌≡◌, length, take, ◌∙◌, arith, length-take, get_or-take, rules, ap}
use borrow.Author.Tests.{tests}
use Rattle.std.proofs.lemmas.Iterator.{YieldsList-from_slice, YieldsList-from_take}
use Rattle.std.proofs.lemmas.Iterator.Consumers.{YieldsList-at}
use Rattle.std.proofs.lemmas.Iterator.Search.{all_from_yields_List}
use Rattle.ecode.specs.declared.code.Cell.{Cell}
use Rattle.ecode.specs.declared.code.Cell.TheVariants.{NotHeld}
use Rattle.ecode.specs.Typing.{held}
use Rattle.ecode.proofs.Lists.{all_places}
use Rattle.typing.proofs.row.all_held.Goals as goal

pub returns : goal.returns
returns c =
    let row = c.args.row.now in
    let n = c.args.sheet.now.tasks in
    let eight : length row ≡ 8 = search rules in
    let long : length (take n row) ≡ n = simp length-take (omega arith) in
    all_from_yields_List (λ (x : Cell). held x) _ _ _ c.all.ensures.ran
    (YieldsList-from_take n (YieldsList-at c.take.ensures.source (YieldsList-from_slice row cc)) cc) (λ x b q k. search (rules, tests))
    ∙ all_places (λ (x : Cell). held x) (take n row) NotHeld n _ long (λ t h. ap held (get_or-take n row t NotHeld h))
