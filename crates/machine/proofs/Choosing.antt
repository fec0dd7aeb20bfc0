-- A choice among the entries that a policy is told, read off the table of pending tasks: none where no task is pending, else a
-- pending task, and by the earliest deadline one with the fewest ticks left.
use Rattle.std.proofs.Common.{◌≡◌, ℕ, zero, suc, ◌<◌, ◌≤◌, Bool, true, false, [], ◌∷◌, ◌++◌, get_or, is_some, Some, None, Option, sym, refl, ap, ◌∙◌, subst, inl, inr, arith}
use mathlib.Core.Bool.{false≢true}
use Rattle.std.specs.List.{ContainsAt as Has, AllByRecursion}
use Rattle.std.proofs.ByRecursion.{All-get_or, All-append, All-weaker, has_append_left, has_push}
use Rattle.std.proofs.lemmas.Bool.{cases_lt, cases_Bool}
use Rattle.policy.specs.declared.pending.PendingTask.{PendingTask}
use Rattle.policy.specs.Choice.{Choice, nobody}
use Rattle.machine.specs.State.{Job, Table, is_pending}
use Rattle.machine.specs.Choices.{entry_of, pending_tasks}

abbrev pub ticks_left : Option Job → ℕ
ticks_left None = 0
ticks_left (Some k) = k.left

abbrev entry : ℕ → Job → PendingTask
entry t k = record { task = t; left = k.left }

-- every pending task is told
told : (n : ℕ) (f : Table) (t : ℕ) (k : Job) → t < n → f t ≡ Some k → Has (pending_tasks n f) (entry t k)
told zero f t k l e = absurd (omega arith)
told (suc n) f t k l e =
    elim (cases_lt t n) [
      | inl b ↦ has_append_left (pending_tasks n f) (entry_of n (f n)) (entry t k) (told n f t k b e)
      | inr b ↦
          let q : n ≡ t = omega arith in
          let here : f n ≡ Some k = ap f q ∙ e in
          subst (λ (o : Option Job). Has (pending_tasks n f ++ entry_of n o) (entry t k)) (sym here)
          (subst (λ (u : ℕ). Has (pending_tasks n f ++ (entry n k ∷ [])) (entry u k)) q (has_push (pending_tasks n f) (entry n k)))
    ]

-- and nothing else is: an entry is that of a pending task below n
abbrev Told : ℕ → Table → PendingTask → Type 0
Told n f e = (e.task < n) × (k : Job) × (f e.task ≡ Some k) × (k.left ≡ e.left)

only_told : (n : ℕ) (f : Table) → AllByRecursion (Told n f) (pending_tasks n f)
only_told zero f = tt
only_told (suc n) f =
    All-append (Told (suc n) f) (pending_tasks n f) (entry_of n (f n))
    (All-weaker (Told n f) (Told (suc n) f) (λ e h. (omega (arith, h.0), h.1, h.2, h.3)) (pending_tasks n f) (only_told n f))
    (last (f n) refl)
  where
    last : (o : Option Job) → f n ≡ o → AllByRecursion (Told (suc n) f) (entry_of n o)
    last None e = tt
    last (Some k) e = ((omega arith, k, e, refl), tt)

pub pending_job : (o : Option Job) → is_some o ≡ true → (k : Job) × (o ≡ Some k)
pending_job None e = absurd (false≢true e)
pending_job (Some k) e = (k, refl)

-- what a policy may choose, by the table
abbrev pub Chosen : ℕ → Table → Option ℕ → Type 0
Chosen n f None = (t : ℕ) → t < n → is_pending f t ≡ false
Chosen n f (Some i) = (i < n) × (is_pending f i ≡ true)

pub chosen : (mark : Bool) (n : ℕ) (f : Table) (c : Option ℕ) → Choice mark (pending_tasks n f) c → Chosen n f c
chosen mark n f None h = λ t l. elim (cases_Bool (is_pending f t)) [
  | inl b ↦
      let k = pending_job (f t) b in
      let w = told n f t k.0 l k.1 in
      absurd (omega (arith, w.1, h))
  | inr b ↦ b
]
chosen mark n f (Some i) h =
    let e = h.0 in
    let place = h.2 in
    let r : Told n f e = subst (Told n f) place.2 (All-get_or (Told n f) (pending_tasks n f) place.0 nobody place.1 (only_told n f)) in
    let z : e.task ≡ i = h.1 in
    (omega (arith, r.0), ap is_some (ap f (sym z) ∙ r.2))

-- by the earliest deadline no pending task has fewer ticks left
pub earliest : (n : ℕ) (f : Table) (i : ℕ) → Choice true (pending_tasks n f) (Some i) → (t : ℕ) → t < n → is_pending f t ≡ true → ticks_left (f i) ≤ ticks_left (f t)
earliest n f i h t l b =
    let e = h.0 in
    let place = h.2 in
    let r : Told n f e = subst (Told n f) place.2 (All-get_or (Told n f) (pending_tasks n f) place.0 nobody place.1 (only_told n f)) in
    let z : e.task ≡ i = h.1 in
    let own : ticks_left (f i) ≡ e.left = ap ticks_left (ap f (sym z) ∙ r.2) ∙ r.3 in
    let k = pending_job (f t) b in
    let w = told n f t k.0 l k.1 in
    let other : get_or (pending_tasks n f) w.0 nobody ≡ entry t k.0 = w.2 nobody in
    let first : e.left ≤ (get_or (pending_tasks n f) w.0 nobody).left = h.3 w.0 w.1 refl in
    let same : (get_or (pending_tasks n f) w.0 nobody).left ≡ k.0.left = ap (λ (x : PendingTask). x.left) other in
    let its : ticks_left (f t) ≡ k.0.left = ap ticks_left k.1 in
    omega arith
