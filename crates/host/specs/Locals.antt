-- What touches only its sets: nothing at all, one port more set from what may be touched, and one such function after another.
-- A host shows its law by these. Rests on nothing else.
use Rattle.std.specs.Prelude.{◌≡◌, ℕ, ◌/◌, ◌%◌, ◌^◌, List, length, ℤ, pos, slice_set, refl}
use Rattle.std.proofs.Common.{sym, subst, ◌∙◌, inl, inr, arith, length-set, get_or-set_same, get_or-set_other}
use Rattle.std.proofs.lemmas.List.{get_or_past}
use Rattle.std.proofs.lemmas.Bool.{cases_eq, cases_lt}
use Rattle.ecode.specs.Sheets.{In}
use Rattle.host.specs.Meaning.{reading, Agree, Local}

-- lists with as many ports agree at a port that is set to the same value in both
set_agrees : (xs ys : List ℤ) (k : ℕ) (v w : ℤ) → length xs ≡ length ys → v ≡ w → reading (slice_set xs k v) k ≡ reading (slice_set ys k w) k
set_agrees xs ys k v w len e = elim (cases_lt k (length xs)) [
  | inl lt ↦ get_or-set_same xs k v (pos 0) lt ∙ e ∙ sym (get_or-set_same ys k w (pos 0) (omega arith))
  | inr ge ↦
      get_or_past (slice_set xs k v) k (pos 0) (simp length-set ge)
      ∙ sym (get_or_past (slice_set ys k w) k (pos 0) (simp length-set (omega arith)))
]

module _ (written read : ℕ) where
  -- a value that is worked out from ports that are written or read
  abbrev pub From : (List ℤ → ℤ) → Type 0
  From v = (xs ys : List ℤ) → Agree written xs ys → Agree read xs ys → v xs ≡ v ys

  pub keep_local : Local written read (λ xs. xs)
  keep_local = record { keeps_length = λ xs. refl; only = λ xs p n. refl; depends = λ xs ys len aw ar. aw }

  -- besides what f does, a written port may be set to such a value of the ports as they were
  pub also_local : (f : List ℤ → List ℤ) → Local written read f → (k : ℕ) (v : List ℤ → ℤ) → In k written → From v
      → Local written read (λ xs. slice_set (f xs) k (v xs))
  also_local f lf k v in_written from = record {
    keeps_length = λ xs. length-set (f xs) k (v xs) ∙ lf.keeps_length xs;
    only = λ xs p n.
        get_or-set_other (f xs) k p (v xs) (pos 0) (λ e. n (subst (λ q. In q written) (sym e) in_written)) ∙ lf.only xs p n;
    depends = λ xs ys len aw ar p in_p. elim (cases_eq p k) [
      | inl e ↦
          subst (λ q. reading (slice_set (f xs) k (v xs)) q ≡ reading (slice_set (f ys) k (v ys)) q) (sym e)
          (set_agrees (f xs) (f ys) k (v xs) (v ys) (lf.keeps_length xs ∙ len ∙ sym (lf.keeps_length ys)) (from xs ys aw ar))
      | inr ne ↦
          get_or-set_other (f xs) k p (v xs) (pos 0) ne ∙ lf.depends xs ys len aw ar p in_p
          ∙ sym (get_or-set_other (f ys) k p (v ys) (pos 0) ne)
    ];
  }

  pub set_local : (k : ℕ) (v : List ℤ → ℤ) → In k written → From v → Local written read (λ xs. slice_set xs k (v xs))
  set_local k v in_written from = also_local (λ xs. xs) keep_local k v in_written from

  pub then_local : (f g : List ℤ → List ℤ) → Local written read f → Local written read g → Local written read (λ xs. g (f xs))
  then_local f g lf lg = record {
    keeps_length = λ xs. lg.keeps_length (f xs) ∙ lf.keeps_length xs;
    only = λ xs p n. lg.only (f xs) p n ∙ lf.only xs p n;
    depends = λ xs ys len aw ar. lg.depends (f xs) (f ys)
        (lf.keeps_length xs ∙ len ∙ sym (lf.keeps_length ys))
        (lf.depends xs ys len aw ar)
        (λ p in_p. elim (cases_eq (written / 2 ^ p % 2) 1) [
          | inl in_written ↦ lf.depends xs ys len aw ar p in_written
          | inr out ↦ lf.only xs p out ∙ ar p in_p ∙ sym (lf.only ys p out)
        ]);
  }
