use Rattle.std.proofs.Common.{◌≡◌, true, is_some, Some, None, unwrap_or, sym, refl, ap, ◌∙◌, arith, length-set}
use Rattle.std.proofs.lemmas.Bool.{cond-true, cond-false}
use Rattle.ecode.specs.declared.code.Cell.TheVariants.{NotHeld}
use Rattle.ecode.specs.Wiring.{all_below}
use Rattle.ecode.specs.Image.{cell_in, row_fine, row_in}
use Rattle.ecode.proofs.Lists.{fill_more, filled, all_none, all_more, all_fails}
use Rattle.image.proofs.Records.{cell_read}
use Rattle.image.proofs.record.read_row.Goals as goal

pub loop-t-init : goal.loop-t-init
loop-t-init c = (refl, all_none (λ t. is_some (cell_in c.args.tasks c.args.bytes.now t)), λ k h. absurd (omega arith))

pub loop-t-preserved : goal.loop-t-preserved
loop-t-preserved c =
    let ps = c.args.bytes.now in
    let f = cell_in c.args.tasks ps in
    let t = c.loop-t.t in
    let e : Some c.in_ok-row.field-0 ≡ f t = c.in_ok-row.ensures ∙ cell_read c.args.tasks t ps _ c.as_chunks.ensures.front c.requires (omega arith) in (
      length-set _ _ _ ∙ c.loop-t.invariant.0,
      all_more (λ t. is_some (f t)) t c.loop-t.invariant.1 (sym (ap is_some e)),
      fill_more (λ t. unwrap_or (f t) NotHeld) c.loop-t.row t _ NotHeld (omega arith) c.loop-t.invariant.2 (ap (λ o. unwrap_or o NotHeld) e),
    )

pub returns-in_err-row : goal.returns-in_err-row
returns-in_err-row c =
    let ps = c.args.bytes.now in
    let f = cell_in c.args.tasks ps in
    let t = c.loop-t.t in
    let e : None ≡ f t = c.in_err-row.ensures ∙ cell_read c.args.tasks t ps _ c.as_chunks.ensures.front c.requires (omega arith) in
    let fine = all_fails (λ t. is_some (f t)) t 8 (omega arith) (sym (ap is_some e)) in
    c.from_residual.ensures ∙ sym (cond-false (row_fine c.args.tasks ps) (Some (row_in c.args.tasks ps)) None fine)

pub returns : goal.returns
returns c =
    let ps = c.args.bytes.now in
    let f = cell_in c.args.tasks ps in
    let end : c.loop-t.t ≡ 8 = omega arith in
    let fine : row_fine c.args.tasks ps ≡ true = ap (λ n. all_below n (λ t. is_some (f t))) (sym end) ∙ c.loop-t.invariant.1 in
    ap Some (filled 8 (λ t. unwrap_or (f t) NotHeld) c.loop-t.row NotHeld c.loop-t.invariant.0 (λ k h. c.loop-t.invariant.2 k (omega arith)))
    ∙ sym (cond-true (row_fine c.args.tasks ps) (Some (row_in c.args.tasks ps)) None fine)
