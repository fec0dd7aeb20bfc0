use Rattle.std.proofs.Common.{rules}
use Rattle.typing.proofs.Typings.{typed_by_rows}
use Rattle.typing.proofs.line.Place.is_well_typed.Goals as goal

pub returns-then-parts_with_a_task : goal.returns-then-parts_with_a_task
returns-then-parts_with_a_task c = rw (typed_by_rows c.args.self.now.sheet.now c.args.self.now.listing.now c.args.self.now.address) (search rules)

pub returns-else-parts_with_a_task : goal.returns-else-parts_with_a_task
returns-else-parts_with_a_task c = rw (typed_by_rows c.args.self.now.sheet.now c.args.self.now.listing.now c.args.self.now.address) (search rules)
