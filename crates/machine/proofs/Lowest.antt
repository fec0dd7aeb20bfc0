-- The lowest number below n that passes a test: it passes, and where there is none, no number does. So a call that touches nothing
-- finds no task pending that its driver shares with.
use Rattle.std.proofs.Common.{◌≡◌, ℕ, zero, suc, ◌<◌, Bool, true, false, cond, ◌&&◌, Some, None, Option, refl, inl, inr, arith}
use Rattle.std.proofs.lemmas.Bool.{cases_lt}
use Rattle.ecode.specs.declared.sheet.Sheet.{Sheet}
use Rattle.ecode.specs.declared.code.Instruction.TheVariants.{Call}
use Rattle.ecode.specs.Sheets.{shares}
use Rattle.machine.specs.State.{Table, is_pending}
use Rattle.machine.specs.Runner.{or_else, lowest, touched}

or_none : (o : Option ℕ) (b : Bool) (n : ℕ) → or_else o (cond b (Some n) None) ≡ None → (o ≡ None) × (b ≡ false)
or_none None true n e = cc
or_none None false n e = (refl, refl)
or_none (Some x) b n e = cc

pub lowest_none : (n : ℕ) (f : ℕ → Bool) → lowest n f ≡ None → (t : ℕ) → t < n → f t ≡ false
lowest_none zero f e t k = absurd (omega arith)
lowest_none (suc n) f e t k =
    let p = or_none (lowest n f) (f n) n e in
    elim (cases_lt t n) [
      | inl l ↦ lowest_none n f p.0 t l
      | inr l ↦ let q : n ≡ t = omega arith in rw q at p.1
    ]

pub lowest_some : (n : ℕ) (f : ℕ → Bool) (t : ℕ) → lowest n f ≡ Some t → (t < n) × (f t ≡ true)
lowest_some zero f t e = cc
lowest_some (suc n) f t e = go (lowest n f) refl (f n) refl (λ x p. lowest_some n f x p)
  where
    go : (o : Option ℕ) → lowest n f ≡ o → (b : Bool) → f n ≡ b → ((x : ℕ) → lowest n f ≡ Some x → (x < n) × (f x ≡ true)) → (t < suc n) × (f t ≡ true)
    go (Some x) p b q ih =
        let z : x ≡ t = cc in
        let r = ih x p in
        (omega arith, rw z at r.1)
    go None p true q ih =
        let z : n ≡ t = cc in
        (omega arith, rw z at q)
    go None p false q ih = cc

pub not_touched : (s : Sheet) (d : ℕ) (f : Table) (t : ℕ) → t < s.tasks → touched s f (Call d) ≡ None → shares s d t ≡ true → is_pending f t ≡ false
not_touched s d f t k free e = rw e at (lowest_none s.tasks (λ t. shares s d t && is_pending f t) free t k)
