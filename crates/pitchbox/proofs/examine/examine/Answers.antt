use Rattle.pitchbox.proofs.Examines.{accepted_sums}
use Rattle.pitchbox.proofs.examine.examine.Goals as goal

-- an accepted program breaks no rule of the load sum
pub returns-in_err-load : goal.returns-in_err-load
returns-in_err-load c =
    let clean = accepted_sums c.args.sheet.now c.args.image.now c.args.budgets.now c.in_ok-program.program c.in_ok-program.ensures.verdict in
    let told = c.in_err-load.ensures in cc
