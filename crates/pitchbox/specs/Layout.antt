-- An image's bytes as pitchbox tells of them.
--   going         an instruction of an opcode that goes to an address
--   misfit_byte   the byte of a record that does not fit
--   TrailerIs     a trailer has the last 8 bytes of an image
--   RecordIs      a record has the bytes of an image at an address
use Rattle.std.specs.Prelude.{◌≡◌, ℕ, ◌<◌, ◌≤◌, List, drop, slice_index}
use Rattle.ecode.specs.declared.code.Instruction.{Instruction}
use Rattle.ecode.specs.declared.code.Instruction.TheVariants as instruction
use Rattle.ecode.specs.Image.{trailer_byte, told, entry, record_at}
use Rattle.image.specs.declared.opcode.Opcode.{Opcode}
use Rattle.image.specs.declared.opcode.Opcode.TheVariants.{Call, Release, Future, If, Jump, Return}
use Rattle.pitchbox.specs.declared.layout.Misfit.{Misfit}
use Rattle.pitchbox.specs.declared.layout.Misfit.TheVariants as misfit
use Rattle.pitchbox.specs.declared.layout.Trailer.{Trailer}
use Rattle.pitchbox.specs.declared.layout.Record.{Record}

-- the operands that say nothing of where it goes are 0
abbrev pub going : Opcode → ℕ → Instruction
going Call a = instruction.Call 0
going Release a = instruction.Release 0 0
going Future a = instruction.Future 0 a 0
going If a = instruction.If 0 a
going Jump a = instruction.Jump a
going Return a = instruction.Return

-- the opcode is byte 0, and operand n byte n
abbrev pub misfit_byte : Misfit → ℕ
misfit_byte misfit.Opcode = 0
misfit_byte misfit.Driver = 1
misfit_byte misfit.Task = 1
misfit_byte misfit.Condition = 1
misfit_byte misfit.Window = 2
misfit_byte misfit.Wait = 1
misfit_byte misfit.Kept = 3
misfit_byte (misfit.Unused n) = n

abbrev pub TrailerIs : List ℕ → Trailer → Type 0
TrailerIs im t =
    (t.length ≡ told im) × (t.entry ≡ entry im)
    × (t.counts.tasks ≡ trailer_byte im 3) × (t.counts.drivers ≡ trailer_byte im 4) × (t.counts.conditions ≡ trailer_byte im 5)
    × (t.form ≡ trailer_byte im 6) × (t.mark ≡ trailer_byte im 7)

abbrev pub RecordIs : List ℕ → ℕ → Record → Type 0
RecordIs im a r =
    (r.opcode ≡ slice_index (record_at im a) 0) × (r.x ≡ slice_index (record_at im a) 1)
    × (r.y ≡ slice_index (record_at im a) 2) × (r.z ≡ slice_index (record_at im a) 3)
    × (r.row.now ≡ drop 4 (record_at im a))
