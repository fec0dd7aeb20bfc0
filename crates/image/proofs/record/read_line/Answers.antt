use Rattle.image.proofs.Records.{row_refused, target_refused, record_taken}
use Rattle.image.proofs.record.read_line.Goals as goal

pub returns-in_default-read_row : goal.returns-in_default-read_row
returns-in_default-read_row c =
    row_refused c.args.sheet.now c.args.n c.args.a c.args.bytes.now c.in-Some.instruction c.in-Some.ensures c.in_default-read_row.ensures

pub returns-then-not-is_aimed : goal.returns-then-not-is_aimed
returns-then-not-is_aimed c =
    target_refused c.args.sheet.now c.args.n c.args.a c.args.bytes.now c.in-Some.instruction c.in-Some.ensures
    c.in-Some-read_row.row c.in-Some-read_row.ensures c.if-not-is_aimed.ensures

pub returns : goal.returns
returns c =
    record_taken c.args.sheet.now c.args.n c.args.a c.args.bytes.now c.in-Some.instruction c.in-Some.ensures
    c.in-Some-read_row.row c.in-Some-read_row.ensures c.if-not-is_aimed.ensures
