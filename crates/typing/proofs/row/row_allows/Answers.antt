use Rattle.std.proofs.Common.{◌≡◌, ℕ, ◌+◌, ◌<◌, length, get_or, refl, ◌∙◌, arith, rules, ap}
use borrow.Author.Tests.{tests}
use Rattle.std.specs.List.{zip, range_with_len}
use Rattle.std.proofs.lemmas.Iterator.{YieldsList-from_slice, YieldsList-from_range, YieldsList-from_zip}
use Rattle.std.proofs.lemmas.Iterator.Consumers.{YieldsList-at}
use Rattle.std.proofs.lemmas.Iterator.Search.{all_from_yields_List}
use Rattle.std.proofs.lemmas.Slice.Zip.{length-zip, get_or-zip}
use Rattle.std.proofs.lemmas.List.FromFn.{length-range_with_len, get_or-range_with_len}
use Rattle.ecode.specs.declared.code.Cell.{Cell}
use Rattle.ecode.specs.declared.code.Cell.TheVariants.{NotHeld}
use Rattle.ecode.specs.Typing.{allowed}
use Rattle.ecode.proofs.Lists.{all_places}
use Rattle.typing.proofs.row.row_allows.Goals as goal

pub returns : goal.returns
returns c =
    let s = c.args.sheet.now in
    let l = c.args.line.now in
    let n = s.tasks in
    let row = l.row in
    let eight : length row ≡ 8 = search rules in
    let ks = range_with_len 0 n in
    let none : ℕ × Cell = (0, NotHeld) in
    let test = λ (p : ℕ × Cell). allowed s l.instruction p.0 p.1 in
    let long : length (zip ks row) ≡ n = simp (length-zip, length-range_with_len) (omega arith) in
    all_from_yields_List test c.all.new.self _ _ c.all.ensures.ran
    (YieldsList-from_zip (YieldsList-at c.zip.ensures.first (YieldsList-from_range 0 n n refl (omega arith))) (YieldsList-from_slice row cc))
    (λ x b q k. search (rules, tests))
    ∙ all_places test (zip ks row) none n _ long
    (λ t h.
    let a : t < length ks = simp length-range_with_len h in
    let b : t < length row = omega arith in
    let at : get_or ks t 0 ≡ 0 + t = get_or-range_with_len 0 n t 0 h in
    let same : get_or ks t 0 ≡ t = omega arith in
    ap test (get_or-zip ks row t none a b) ∙ ap (λ k. test (k, get_or row t NotHeld)) same)
