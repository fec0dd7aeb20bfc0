-- Where an instruction can go on, and which addresses it may name.
--   goes_on         it has a next address
--   names_address   it names an address, its target
--   rises           its target must be a higher address
--   aimed           its addresses lie in a listing of n lines
use Rattle.std.specs.Prelude.{ℕ, ◌+◌, Bool, true, false, not, ◌&&◌, ◌||◌, nat_lt}
use Rattle.ecode.specs.declared.code.Instruction.{Instruction}
use Rattle.ecode.specs.declared.code.Instruction.TheVariants.{Call, Release, Future, If, Jump, Return}

-- only jump and return lack a next address
abbrev pub goes_on : Instruction → Bool
goes_on (Call d) = true
goes_on (Release t w) = true
goes_on (Future w a k) = true
goes_on (If q a) = true
goes_on (Jump a) = false
goes_on Return = false

abbrev pub names_address : Instruction → Bool
names_address (Call d) = false
names_address (Release t w) = false
names_address (Future w a k) = true
names_address (If q a) = true
names_address (Jump a) = true
names_address Return = false

-- the address that it names, 0 if none
abbrev pub target : Instruction → ℕ
target (Call d) = 0
target (Release t w) = 0
target (Future w a k) = a
target (If q a) = a
target (Jump a) = a
target Return = 0

-- if and jump go upward
abbrev pub rises : Instruction → Bool
rises (Call d) = false
rises (Release t w) = false
rises (Future w a k) = false
rises (If q a) = true
rises (Jump a) = true
rises Return = false

-- the instruction at address a of n
abbrev pub aimed : ℕ → ℕ → Instruction → Bool
aimed n a i =
    (not (goes_on i) || nat_lt (a + 1) n)
    && ((not (names_address i) || nat_lt (target i) n) && (not (rises i) || nat_lt a (target i)))
