-- The load sum, in whole numbers.
--   window        the smallest window among the releases of a task
--   part, whole   each budget times the product of the other windows; the product of all the windows
--   fits          the parts add up to the whole and no more
use Rattle.std.specs.Prelude.{ℕ, zero, suc, ◌+◌, ◌*◌, Bool, cond, ◌&&◌, ◌||◌, List, fold, ◌==◌, nat_le, nat_lt}
use Rattle.ecode.specs.declared.code.Instruction.{Instruction}
use Rattle.ecode.specs.declared.code.Instruction.TheVariants.{Call, Release, Future, If, Jump, Return}
use Rattle.ecode.specs.declared.code.Line.{Line}

-- the smaller window of task t, 0 standing for none yet
abbrev pub lesser : ℕ → Instruction → ℕ → ℕ
lesser t (Call d) best = best
lesser t (Release u w) best = cond (u == t && (best == 0 || nat_lt w best)) w best
lesser t (Future x a k) best = best
lesser t (If q a) best = best
lesser t (Jump a) best = best
lesser t Return best = best

-- the smallest window among the release instructions of task t, 0 if there is none
unfoldable pub window : List Line → ℕ → ℕ
window ls t = fold (λ best l. lesser t l.instruction best) 0 ls

-- f 0 + f 1 + ..., n of them
unfoldable pub sum_below : ℕ → (ℕ → ℕ) → ℕ
sum_below zero f = 0
sum_below (suc n) f = sum_below n f + f n

-- f 0 * f 1 * ..., n of them
unfoldable pub product_below : ℕ → (ℕ → ℕ) → ℕ
product_below zero f = 1
product_below (suc n) f = product_below n f * f n

-- f with 1 in place of its value at t
abbrev pub without : (ℕ → ℕ) → ℕ → ℕ → ℕ
without f t k = cond (k == t) 1 (f k)

-- a task's window in the products; 0, no release, does not count
abbrev pub width : (ℕ → ℕ) → ℕ → ℕ
width win t = cond (win t == 0) 1 (win t)

-- the product of all the windows
abbrev pub whole : ℕ → (ℕ → ℕ) → ℕ
whole n win = product_below n (width win)

-- a task's budget times the product of the other windows; a task that no instruction releases does not count
abbrev pub part : ℕ → (ℕ → ℕ) → (ℕ → ℕ) → ℕ → ℕ
part n win bud t = cond (win t == 0) 0 (bud t * product_below n (without (width win) t))

-- all the parts
abbrev pub parts : ℕ → (ℕ → ℕ) → (ℕ → ℕ) → ℕ
parts n win bud = sum_below n (part n win bud)

-- the budgets of the tasks below n, divided by their windows, add up to 1 and no more
unfoldable pub fits : ℕ → (ℕ → ℕ) → (ℕ → ℕ) → Bool
fits n win bud = nat_le (parts n win bud) (whole n win)
