use Rattle.std.proofs.Common.{ℕ, ◌≡◌, true, sym, ap, subst, ◌∙◌}
use Rattle.ecode.specs.Instructions.{target}
use Rattle.ecode.specs.Typing.{allowed, flows, cell}
use Rattle.ecode.specs.declared.code.Line.{Line}
use Rattle.ecode.proofs.Lists.{all_at, all_cong, asked}
use Rattle.ecode.specs.Parts.{Small}
use Rattle.image.proofs.Records.{some_when}
use Rattle.typing.specs.Rows.{allows, flows_there, line_in}
use Rattle.typing.proofs.Waiting.{as_allowed}
use Rattle.typing.proofs.line.Place.flows_to_target.Goals as goal

pub returns-in-Some : goal.returns-in-Some
returns-in-Some c al =
    let s = c.args.self.now.sheet.now in
    let b = c.args.self.now.listing.now in
    let l = c.line-line.result.now in
    let i = l.instruction in
    let there = line_in b c.in-Some.to in
    let fine : allows s l ≡ true = ap (allows s) c.line-line.ensures ∙ al in
    let named = some_when _ (target i) c.in-Some.to c.in-Some.ensures in
    c.flows_at.ensures
    ∙ all_cong s.tasks _ _ (λ t h. ap (λ v. flows v (cell there t)) (c.row_at_target.ensures t h ∙ as_allowed s i t (cell l t) (subst (λ (m : Line). Small (cell m t)) (sym c.line-line.ensures) (c.args.self.now.sound c.args.self.now.address t)) (all_at (λ (k : ℕ). allowed s i k (cell l k)) s.tasks t fine h)))
    ∙ asked _ _ (sym named.0)
    ∙ ap (λ a. flows_there s l (line_in b a)) named.1
    ∙ ap (λ (m : Line). flows_there s m (line_in b (target m.instruction))) c.line-line.ensures
