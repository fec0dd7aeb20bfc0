-- The table of tasks as the reference runner has it.
use Rattle.std.proofs.Common.{◌≡◌, ℕ, ◌+◌, ◌-◌, ◌<◌, ◌≤◌, Bool, true, false, cond, not, ◌&&◌, ◌||◌, eqb, List, [], ◌∷◌, ◌++◌, map, length, get_or, set, replicate, is_some, Option, Some, None, sym, refl, ap, ◌∙◌, inl, inr, add-one, arith, length-append, ext_get_or, get_or-set_same, get_or-set_other}
use mathlib.Core.Path.{fun_ext}
use lib.ListN.{length-map, length-replicate, get_or-replicate}
use Rattle.std.proofs.lemmas.List.{get_or_append_left, get_or-append_right, get_or-map}
use Rattle.std.proofs.lemmas.Bool.{cases_lt, cases_eq, eq-eqb, ne_eqb, or_left, cond-true, cond-false}
use Rattle.ecode.specs.Wiring.{has}
use Rattle.policy.specs.declared.pending.PendingTask.{PendingTask}
use Rattle.policy.specs.Choice.{nobody}
use Rattle.machine.specs.State.{Job, Table, is_pending}
use Rattle.machine.specs.Choices.{entry_of, pending_tasks}
use Rattle.machine.specs.Runner.{changed, one_less_left}
use Rattle.parts.specs.declared.data.Slot.{Slot}
use Rattle.parts.specs.declared.data.TaskTable.{TaskTable}
use Rattle.parts.proofs.Maps.{upto, upto_below}
use Rattle.parts.specs.Shown.{no_slot, one_less, job, jobs, written}

some_cond : (b : Bool) (k : Job) → is_some (cond b (Some k) None) ≡ b
some_cond true k = refl
some_cond false k = refl

-- a task is pending where the set has it
pub is_pending_has : (ports : ℕ) (f : TaskTable) (t : ℕ) → is_pending (jobs ports f) t ≡ has f.pending t
is_pending_has ports f t = some_cond (has f.pending t) (job ports (get_or f.slots t no_slot))

-- every job with one tick less left
pub jobs_fallen : (ports : ℕ) (f : TaskTable) (n : ℕ) → n ≤ length f.slots → ((t : ℕ) → n ≤ t → has f.pending t ≡ false)
    → (slots : List Slot) → slots ≡ upto one_less n f.slots
    → ◌≡◌ {A = Table} (λ t. cond (has f.pending t) (Some (job ports (get_or slots t no_slot))) None) (λ t. one_less_left (jobs ports f t))
jobs_fallen ports f n few none slots e = fun_ext (λ t. elim (cases_lt t n) [
  | inl l ↦ ap (λ s. cond (has f.pending t) (Some (job ports s)) None) (ap (λ l. get_or l t no_slot) e ∙ upto_below one_less n f.slots t no_slot l few) ∙ fallen (has f.pending t) (get_or f.slots t no_slot)
  | inr l ↦ cond-false (has f.pending t) _ _ (none t l) ∙ sym (ap one_less_left (cond-false (has f.pending t) _ _ (none t l)))
])
  where
    fallen : (b : Bool) (s : Slot) → cond b (Some (job ports (one_less s))) None ≡ one_less_left (cond b (Some (job ports s)) None)
    fallen true s = refl
    fallen false s = refl

-- a task taken out of the set of those pending
pub cleared : (ports : ℕ) (f : TaskTable) (t pending : ℕ) → ((k : ℕ) → has pending k ≡ (not (eqb k t) && has f.pending k))
    → ◌≡◌ {A = Table} (λ k. cond (has pending k) (Some (job ports (get_or f.slots k no_slot))) None) (changed (jobs ports f) t None)
cleared ports f t pending without = fun_ext (λ k. let j = Some (job ports (get_or f.slots k no_slot)) in ap (λ b. cond b j None) (without k) ∙ out (eqb k t) (has f.pending k) j)
  where
    out : (b c : Bool) (j : Option Job) → cond (not b && c) j None ≡ cond b None (cond c j None)
    out true true j = refl
    out true false j = refl
    out false true j = refl
    out false false j = refl

-- a task put into it, with a slot of its own
pub released : (ports : ℕ) (f : TaskTable) (t pending : ℕ) (s : Slot) (k : Job) → t < length f.slots → ((k : ℕ) → has pending k ≡ (eqb k t || has f.pending k)) → job ports s ≡ k
    → ◌≡◌ {A = Table} (λ i. cond (has pending i) (Some (job ports (get_or (set f.slots t s) i no_slot))) None) (changed (jobs ports f) t (Some k))
released ports f t pending s k low with_t is = fun_ext (λ i. elim (cases_eq i t) [
  | inl e ↦
      cond-true (has pending i) _ _ (with_t i ∙ or_left (eqb i t) (has f.pending i) (eq-eqb i t e))
      ∙ ap Some (ap (λ i. job ports (get_or (set f.slots t s) i no_slot)) e ∙ ap (job ports) (get_or-set_same f.slots t s no_slot low) ∙ is)
      ∙ sym (cond-true (eqb i t) _ _ (eq-eqb i t e))
  | inr ne ↦
      ap (λ b. cond b (Some (job ports (get_or (set f.slots t s) i no_slot))) None) (with_t i ∙ ap (λ b. b || has f.pending i) (ne_eqb i t ne))
      ∙ ap (λ s. cond (has f.pending i) (Some (job ports s)) None) (get_or-set_other f.slots t i s no_slot ne)
      ∙ sym (cond-false (eqb i t) _ _ (ne_eqb i t ne))
])

-- one task more, listed if it is pending
pub one_more : (ports : ℕ) (f : TaskTable) (t : ℕ) (b : Bool) → b ≡ is_pending (jobs ports f) t
    → pending_tasks (t + 1) (jobs ports f) ≡ pending_tasks t (jobs ports f) ++ cond b (record { task = t; left = (get_or f.slots t no_slot).left } ∷ []) []
one_more ports f t b e =
    let s = get_or f.slots t no_slot in
    ap (λ n. pending_tasks n (jobs ports f)) (add-one t)
    ∙ ap (λ l. pending_tasks t (jobs ports f) ++ l) (listed (has f.pending t) s ∙ ap (λ b. cond b (record { task = t; left = s.left } ∷ []) []) (sym (e ∙ is_pending_has ports f t)))
  where
    listed : (b : Bool) (s : Slot) → entry_of t (cond b (Some (job ports s)) None) ≡ cond b (record { task = t; left = s.left } ∷ []) []
    listed true s = refl
    listed false s = refl

-- what stands in eight bytes, place by place
pub written_is : (items : List PendingTask) (bytes : List ℕ) → length items ≤ 8 → length bytes ≡ 8
    → ((k : ℕ) → k < length items → get_or bytes k 0 ≡ (get_or items k nobody).task) → ((k : ℕ) → length items ≤ k → k < 8 → get_or bytes k 0 ≡ 255)
    → bytes ≡ written (map (λ e. e.task) items)
written_is items bytes few long first rest =
    let numbers = map (λ (e : PendingTask). e.task) items in
    let count : length numbers ≡ length items = length-map items (λ (e : PendingTask). e.task) in
    ext_get_or 0 bytes (written numbers) (omega (arith, length-append numbers (replicate (8 - length numbers) 255), length-replicate {A = ℕ} (8 - length numbers) 255))
    (λ k h. elim (cases_lt k (length items)) [
      | inl l ↦
          first k l ∙ sym (get_or_append_left numbers (replicate (8 - length numbers) 255) 0 k (omega arith) ∙ get_or-map (λ (e : PendingTask). e.task) items k nobody 0 l)
      | inr l ↦
          rest k l (omega arith) ∙ sym (get_or-append_right numbers (replicate (8 - length numbers) 255) (length items) k 0 count l ∙ get_or-replicate (8 - length numbers) (k - length items) 255 0 (omega arith))
    ])
