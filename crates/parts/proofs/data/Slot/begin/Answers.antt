-- One port more.
use Rattle.std.proofs.Common.{◌≡◌, ◌<◌, length, take, set, get_or, pos, ap, ◌∙◌, arith, length-take, w32, SFits, to_z, of_z, rules}
use Rattle.std.proofs.lemmas.Int.{to_z-of_z}
use Rattle.parts.proofs.Maps.{filled_more}
use Rattle.parts.proofs.data.Slot.begin.Goals as goal

pub loop-p-preserved : goal.loop-p-preserved
loop-p-preserved g c =
    let host = c.args.host.now in
    let ports = g.H.Host.ports host in
    let old = take c.args.ports c.args.self.now.taken in
    let p = c.loop-p.p in
    let fits : SFits w32 c.look.result = search rules in
    let kept : to_z w32 (of_z w32 c.look.result) ≡ c.look.result = simp to_z-of_z in
    let seen : p < length ports = omega (arith, g.met.H.Host.long host, length-take c.args.ports c.args.self.now.taken) in
    ap (set c.loop-p.taken-items p) (kept ∙ c.look.ensures) ∙ ap (λ l. set l p (get_or ports p (pos 0))) c.loop-p.invariant
    ∙ filled_more ports old p (pos 0) seen (omega arith)
