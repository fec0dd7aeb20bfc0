use Rattle.std.proofs.Common.{ℕ, ◌<◌, length, get_or, take, sym, refl, ap, ◌∙◌, arith}
use Rattle.std.proofs.lemmas.List.Sums.{fold_more}
use Rattle.std.proofs.lemmas.List.{get_or_default}
use Rattle.ecode.specs.declared.code.Line.{Line}
use Rattle.ecode.specs.Typing.{blank}
use Rattle.ecode.specs.Load.{lesser, window}
use Rattle.loader.proofs.load.least_window.Goals as goal

pub loop-a-init : goal.loop-a-init
unfolding window
loop-a-init c = refl

pub loop-a-preserved : goal.loop-a-preserved
unfolding window
loop-a-preserved c =
    let b = c.args.listing.now in
    let a = c.loop-a.a in
    let t = c.args.t in
    let lt : a < length b.lines = omega arith in
    c.lesser_window-best.ensures
    ∙ ap (λ (l : Line). lesser t l.instruction c.loop-a.best) (get_or_default b.lines a _ blank lt)
    ∙ ap (lesser t (get_or b.lines a blank).instruction) c.loop-a.invariant
    ∙ sym (fold_more (λ (best : ℕ) (l : Line). lesser t l.instruction best) 0 b.lines a blank lt)

pub returns : goal.returns
returns c = c.loop-a.invariant ∙ ap (λ n. window (take n c.args.listing.now.lines) c.args.t) (omega arith)
