use Rattle.std.proofs.Common.{◌≡◌, ◌<◌, length, take, ◌∙◌, arith, length-take, get_or-take, rules, ap}
use borrow.Author.Tests.{tests}
use Rattle.std.specs.List.{zip}
use Rattle.std.proofs.lemmas.Iterator.{YieldsList-from_slice, YieldsList-from_take, YieldsList-from_zip}
use Rattle.std.proofs.lemmas.Iterator.Consumers.{YieldsList-at}
use Rattle.std.proofs.lemmas.Iterator.Search.{all_from_yields_List}
use Rattle.std.proofs.lemmas.Slice.Zip.{length-zip, get_or-zip}
use Rattle.ecode.specs.declared.code.Cell.{Cell}
use Rattle.ecode.specs.declared.code.Cell.TheVariants.{NotHeld}
use Rattle.ecode.specs.Typing.{flows}
use Rattle.ecode.proofs.Lists.{all_places}
use Rattle.typing.proofs.row.row_flows.Goals as goal

pub returns : goal.returns
returns c =
    let row = c.args.row.now in
    let into = c.args.into.now in
    let n = c.args.sheet.now.tasks in
    let eight : length row ≡ 8 = search rules in
    let other : length into ≡ 8 = search rules in
    let both = zip row into in
    let test = λ (p : Cell × Cell). flows p.0 p.1 in
    let long : length (take n both) ≡ n = simp (length-take, length-zip) (omega arith) in
    all_from_yields_List test c.all.new.self _ _ c.all.ensures.ran
    (YieldsList-from_take n (YieldsList-at c.take.ensures.source (YieldsList-from_zip (YieldsList-at c.zip.ensures.first (YieldsList-from_slice row cc)) (YieldsList-from_slice into cc))) cc)
    (λ x b q k. search (rules, tests))
    ∙ all_places test (take n both) (NotHeld, NotHeld) n _ long
    (λ t h. let a : t < length row = omega arith in let b : t < length into = omega arith in ap test (get_or-take n both t (NotHeld, NotHeld) h ∙ get_or-zip row into t (NotHeld, NotHeld) a b))
