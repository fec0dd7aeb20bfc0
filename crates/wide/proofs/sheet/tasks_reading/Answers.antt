use Rattle.std.proofs.Common.{◌+◌, ◌^◌, bit_or, rules}
use Rattle.ecode.specs.Sheets.{task}
use Rattle.wide.proofs.Made.{made_by}
use Rattle.wide.proofs.sheet.tasks_reading.Goals as goal

pub returns : goal.returns
returns c =
    made_by _ _ (λ t. task (2 ^ (16 + t)) (bit_or (2 ^ t) c.args.also)) 8 (λ k y q h call. search rules) c.from_fn.result c.from_fn.ensures.items
