-- Where an instruction is allowed, what flows to its target as bytes hold it is what the typing rules say.
use Rattle.std.proofs.Common.{◌≡◌, ℕ, ◌+◌, ◌-◌, min, Bool, true, false, cond, refl, ap, arith}
use Rattle.std.proofs.lemmas.Bool.{leb-true}
use Rattle.ecode.specs.declared.sheet.Sheet.{Sheet}
use Rattle.ecode.specs.declared.code.Cell.{Cell}
use Rattle.ecode.specs.declared.code.Cell.TheVariants.{NotHeld, Idle, Released}
use Rattle.ecode.specs.declared.code.Instruction.{Instruction}
use Rattle.ecode.specs.declared.code.Instruction.TheVariants.{Call, Release, Future, If, Jump, Return}
use Rattle.ecode.specs.Wiring.{has}
use Rattle.ecode.specs.Typing.{held, lasts, aged, allowed, target_cell}
use Rattle.ecode.specs.Parts.{Small}
use Rattle.typing.specs.Waits.{aged_byte, target_byte}

-- a pair's sum is at most 240, so that what lasts the wait does not reach 255
aged_same : (x : ℕ) (c : Cell) → Small c → lasts x c ≡ true → aged_byte x c ≡ aged x c
aged_same x NotHeld h e = refl
aged_same x Idle h e = refl
aged_same x (Released c r) h e =
    let le = leb-true x r e in
    let low : min (c + x) 255 ≡ c + x = omega arith in
    ap (λ n. Released n (r - x)) low

pub as_allowed : (s : Sheet) (i : Instruction) (t : ℕ) (c : Cell) → Small c → allowed s i t c ≡ true → target_byte i t c ≡ target_cell i t c
as_allowed s (Call d) t c h a = refl
as_allowed s (Release u w) t c h a = refl
as_allowed s (Future x y k) t c h a = go (has k t) a
  where
    go : (b : Bool) → cond b (held c) (lasts x c) ≡ true → cond b NotHeld (aged_byte x c) ≡ cond b NotHeld (aged x c)
    go true e = refl
    go false e = aged_same x c h e
as_allowed s (If q y) t c h a = refl
as_allowed s (Jump y) t c h a = refl
as_allowed s Return t c h a = refl
