use Rattle.std.proofs.Common.{◌+◌, ap, ◌∙◌}
use Rattle.ecode.specs.Typing.{flows, cell}
use Rattle.ecode.proofs.Lists.{all_cong, asked}
use Rattle.typing.specs.Rows.{flows_next, line_in}
use Rattle.typing.proofs.line.Place.flows_on.Goals as goal

pub returns-else-not-has_next : goal.returns-else-not-has_next
returns-else-not-has_next c =
    let s = c.args.self.now.sheet.now in
    let next = line_in c.args.self.now.listing.now (c.args.self.now.address + 1) in
    c.flows_at.ensures
    ∙ all_cong s.tasks _ _ (λ t h. ap (λ v. flows v (cell next t)) (c.row_after.ensures t h))
    ∙ asked _ _ c.if-not-has_next.ensures
    ∙ ap (λ l. flows_next s l next) c.line-line.ensures
