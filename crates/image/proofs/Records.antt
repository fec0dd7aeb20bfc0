-- The rules of one record, and the parts that it is cut into. Assumes nothing.
use Rattle.std.proofs.Common.{◌≡◌, ℕ, zero, suc, ◌+◌, ◌-◌, ◌*◌, ◌/◌, ◌<◌, ◌≤◌, Bool, true, false, cond, List, [], ◌∷◌, length, get_or, take, drop, is_some, Some, None, unwrap_or, sym, refl, ap, ◌∙◌, ap₂, arith, length-drop, take_all, get_or-take}
use native.Mathlib.Nat.{mul-suc}
use Rattle.std.specs.Simd.{first_chunks}
use Rattle.std.proofs.lemmas.List.{get_or-drop, drop-drop}
use Rattle.std.proofs.lemmas.Bool.{cond-true, cond-false}
use Rattle.ecode.specs.Rules.{Rule, broken}
use Rattle.ecode.specs.Instructions.{aimed}
use Rattle.ecode.specs.Image.{instruction_in, cell_of, cell_in, row_fine, row_in, line}
use Rattle.ecode.specs.Verdict.{record_rules}
use Rattle.ecode.specs.declared.sheet.Sheet.{Sheet}
use Rattle.ecode.specs.declared.code.Cell.{Cell}
use Rattle.ecode.specs.declared.code.Instruction.{Instruction}
use Rattle.ecode.specs.declared.code.Instruction.TheVariants.{Return}
use Rattle.ecode.specs.declared.code.Line.{Line}
use Rattle.ecode.specs.declared.fault.ImageFault.TheVariants.{Operation, RowPair, Target}

pub rest_of : (bs : List ℕ) → take (length bs - 4) (drop 4 bs) ≡ drop 4 bs
rest_of bs = let short : length (drop 4 bs) ≤ length bs - 4 = simp length-drop (omega arith) in take_all (length bs - 4) (drop 4 bs) short

pub none_when : {X : Type 0} (b : Bool) (x : X) → None ≡ cond b (Some x) None → b ≡ false
none_when true x e = let z : ◌≡◌ {A = ℕ} 0 1 = cc in absurd (omega arith)
none_when false x e = refl

pub some_when : {X : Type 0} (b : Bool) (x y : X) → Some y ≡ cond b (Some x) None → (b ≡ true) × (y ≡ x)
some_when true x y e = (refl, cc)
some_when false x y e = let z : ◌≡◌ {A = ℕ} 0 1 = cc in absurd (omega arith)

abbrev made : Instruction → List Cell → Line
made i row = record { instruction = i; row = row }

module _ {F : Type 0} (b₁ b₂ b₃ : Bool) (e₁ e₂ e₃ : F) where
  abbrev three : List (Rule F)
  three = (b₁, e₁) ∷ (b₂, e₂) ∷ (b₃, e₃) ∷ []

  pub second : b₁ ≡ true → b₂ ≡ false → broken three ≡ Some e₂
  second p q = cond-true b₁ _ _ p ∙ cond-false b₂ _ _ q

  pub third : b₁ ≡ true → b₂ ≡ true → b₃ ≡ false → broken three ≡ Some e₃
  third p q r = cond-true b₁ _ _ p ∙ cond-true b₂ _ _ q ∙ cond-false b₃ _ _ r

  pub unbroken : b₁ ≡ true → b₂ ≡ true → b₃ ≡ true → broken three ≡ None
  unbroken p q r = cond-true b₁ _ _ p ∙ cond-true b₂ _ _ q ∙ cond-true b₃ _ _ r

-- the record at a, once its instruction is read
module _ (s : Sheet) (n a : ℕ) (bs : List ℕ) (i : Instruction) (read : Some i ≡ instruction_in s bs) where
  fine : is_some (instruction_in s bs) ≡ true
  fine = sym (ap is_some read)

  same : aimed n a (line s bs).instruction ≡ aimed n a i
  same = ap (λ o. aimed n a (unwrap_or o Return)) (sym read)

  pub row_refused : None ≡ cond (row_fine s.tasks (take (length bs - 4) (drop 4 bs))) (Some (row_in s.tasks (take (length bs - 4) (drop 4 bs)))) None
      → broken (record_rules s n a bs) ≡ Some (RowPair a)
  row_refused e = second (is_some (instruction_in s bs)) (row_fine s.tasks (drop 4 bs)) (aimed n a (line s bs).instruction) (Operation a) (RowPair a) (Target a) fine
      (none_when _ (row_in s.tasks (drop 4 bs)) (e ∙ ap (λ ps. cond (row_fine s.tasks ps) (Some (row_in s.tasks ps)) None) (rest_of bs)))

  module _ (row : List Cell)
      (e : Some row ≡ cond (row_fine s.tasks (take (length bs - 4) (drop 4 bs))) (Some (row_in s.tasks (take (length bs - 4) (drop 4 bs)))) None) where
    got : (row_fine s.tasks (drop 4 bs) ≡ true) × (row ≡ row_in s.tasks (drop 4 bs))
    got = some_when _ _ _ (e ∙ ap (λ ps. cond (row_fine s.tasks ps) (Some (row_in s.tasks ps)) None) (rest_of bs))

    pub target_refused : false ≡ aimed n a i → broken (record_rules s n a bs) ≡ Some (Target a)
    target_refused h = third (is_some (instruction_in s bs)) (row_fine s.tasks (drop 4 bs)) (aimed n a (line s bs).instruction) (Operation a) (RowPair a) (Target a) fine
        got.0 (same ∙ sym h)

    pub record_taken : true ≡ aimed n a i → (broken (record_rules s n a bs) ≡ None) × (record { instruction = i; row = row } ≡ line s bs)
    record_taken h = (
      unbroken (is_some (instruction_in s bs)) (row_fine s.tasks (drop 4 bs)) (aimed n a (line s bs).instruction) (Operation a) (RowPair a) (Target a) fine got.0 (same ∙ sym h),
      ap (λ o. made (unwrap_or o Return) row) read ∙ ap (made (line s bs).instruction) got.1,
    )

-- a whole chunk of a list
pub chunk_at : {X : Type 0} (n m : ℕ) (xs : List X) (k : ℕ) (d : List X) → k < m → get_or (first_chunks n m xs) k d ≡ take n (drop (n * k) xs)
chunk_at n zero xs k d h = absurd (omega arith)
chunk_at n (suc m) xs zero d h = let none : n * 0 ≡ 0 = omega arith in ap (λ i. take n (drop i xs)) (sym none)
chunk_at n (suc m) xs (suc k) d h =
    let more : n + n * k ≡ n * suc k = omega (arith, mul-suc n k) in
    chunk_at n m (drop n xs) k d (omega arith) ∙ ap (take n) (drop-drop (n * k) n xs ∙ ap (λ i. drop i xs) more)

-- the cell that a pair of 16 bytes says
pub cell_read : (tasks t : ℕ) (ps : List ℕ) (qs : List (List ℕ)) → qs ≡ first_chunks 2 (length ps / 2) ps → length ps ≡ 16 → t < 8
    → cell_of tasks t (get_or (get_or qs t []) 0 0) (get_or (get_or qs t []) 1 0) ≡ cell_in tasks ps t
cell_read tasks t ps qs e l h =
    let pair : get_or qs t [] ≡ take 2 (drop (2 * t) ps) = ap (λ r. get_or r t []) e ∙ chunk_at 2 (length ps / 2) ps t [] (omega arith) in
    let left : get_or (get_or qs t []) 0 0 ≡ get_or ps (2 * t) 0 =
    ap (λ p. get_or p 0 0) pair ∙ get_or-take 2 (drop (2 * t) ps) 0 0 (omega arith) ∙ get_or-drop (2 * t) ps 0 0 ∙ ap (λ i. get_or ps i 0) (omega arith) in
    let right : get_or (get_or qs t []) 1 0 ≡ get_or ps (2 * t + 1) 0 =
    ap (λ p. get_or p 1 0) pair ∙ get_or-take 2 (drop (2 * t) ps) 1 0 (omega arith) ∙ get_or-drop (2 * t) ps 1 0 in
    ap₂ (cell_of tasks t) left right
