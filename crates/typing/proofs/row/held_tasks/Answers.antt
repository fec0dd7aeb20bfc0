use Rattle.std.proofs.Common.{◌≡◌, ◌≤◌, reverse, length, ◌∙◌, rules}
use Rattle.std.proofs.iter.runs.Made.{chains}
use Rattle.std.specs.List.{fold}
use Rattle.typing.proofs.Sets.{with_next, held_folded}
use Rattle.typing.proofs.row.held_tasks.Goals as goal

pub returns : goal.returns
returns c =
    let row = c.args.row.now in
    let few : length row ≤ 8 = search rules in
    let run : c.fold.result ≡ fold with_next 0 (reverse row) = search (rules, chains) in
    run ∙ held_folded row few
