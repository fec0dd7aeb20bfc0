use Rattle.std.proofs.Common.{◌∙◌}
use Rattle.ecode.specs.Verdict.{code_rules}
use Rattle.ecode.specs.Parts.{FromImage}
use Rattle.ecode.proofs.Firsts.{judged_stop}
use Rattle.typing.proofs.Layers.{image_refused, whole_sound, typing_decides}
use Rattle.typing.proofs.check_code.Goals as goal

pub returns-in_err-listing : goal.returns-in_err-listing
returns-in_err-listing c =
    let s = c.args.sheet.now in
    let im = c.args.image.now in
    judged_stop (code_rules s im) (FromImage s im) c.from_residual.result _ c.from_residual.ensures.1
    (image_refused s im c.in_err-listing.field-0.0 c.in_err-listing.ensures)

pub check_typing-requires : goal.check_typing-requires
check_typing-requires c =
    whole_sound c.args.sheet.now c.args.image.now c.in_ok-listing.listing c.in_ok-listing.ensures.1

pub returns-in_err-check_typing : goal.returns-in_err-check_typing
returns-in_err-check_typing c =
    let s = c.args.sheet.now in
    let im = c.args.image.now in
    let got = c.in_ok-listing.ensures in
    let q = c.from_residual-in_err-check_typing in
    judged_stop (code_rules s im) (FromImage s im) q.result _ q.ensures.1
    (typing_decides s im c.in_ok-listing.listing got.1 got.0 ∙ c.in_err-check_typing.ensures)

pub returns : goal.returns
returns c =
    let got = c.in_ok-listing.ensures in (
      typing_decides c.args.sheet.now c.args.image.now c.in_ok-listing.listing got.1 got.0 ∙ c.in_ok-check_typing.ensures.0,
      got.1,
    )
