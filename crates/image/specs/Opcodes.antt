-- The opcodes of the image format.
--   byte_of    the byte that stands for an opcode
--   Decodes    what a byte is read as: the opcode that it stands for, or none
use Rattle.std.specs.Prelude.{◌≡◌, ℕ, ◌<◌, ◌≤◌, Result, MatchResult}
use Rattle.image.specs.declared.opcode.Opcode.{Opcode}
use Rattle.image.specs.declared.opcode.Opcode.TheVariants.{Call, Release, Future, If, Jump, Return}
use Rattle.image.specs.declared.opcode.NoOpcode.{NoOpcode}

abbrev pub byte_of : Opcode → ℕ
byte_of Call = 1
byte_of Release = 2
byte_of Future = 3
byte_of If = 4
byte_of Jump = 5
byte_of Return = 6

abbrev pub Decodes : ℕ → Result Opcode NoOpcode → Type 0
Decodes b r = MatchResult r (λ o. b ≡ byte_of o) (λ _. 1 ≤ b → 6 < b)
