-- The members of the meet are the pending tasks of the set.
use Rattle.std.proofs.Common.{◌≡◌, ◌<◌, ◌&&◌, cond, eqb, Some, None, w8, sym, ap, ◌∙◌, rules}
use lib.Bits.{bit_and}
use Rattle.std.specs.Int.{trailing_zeros}
use Rattle.ecode.specs.Wiring.{has}
use Rattle.machine.specs.State.{is_pending}
use Rattle.parts.specs.Shown.{jobs}
use Rattle.parts.proofs.Bits.{has_and, lowest_member, lowest_same}
use Rattle.parts.proofs.Tables.{is_pending_has}
use Rattle.parts.proofs.data.TaskTable.touched.Goals as goal

pub returns : goal.returns
returns c ports =
    let set = c.args.set in
    let table = c.args.self.now in
    let both = bit_and set table.pending in
    let found : c.then.result ≡ cond (eqb both 0) None (Some (trailing_zeros w8 both)) = search rules in
    let byte : both < 256 = search rules in
    found ∙ sym (lowest_member both byte)
    ∙ lowest_same (has both) (λ t. has set t && is_pending (jobs ports table) t) 8
    (λ t l. has_and set table.pending t ∙ ap (λ b. has set t && b) (sym (is_pending_has ports table t)))
