-- The typing rule of a line by whole rows, as the code goes, and the rules at an address by its lines.
use Rattle.std.proofs.Common.{◌≡◌, ℕ, ◌+◌, Bool, true, false, not, ◌&&◌, ◌||◌, eqb, List, get_or, ap, ◌∙◌, ap₂}
use Rattle.ecode.specs.Wiring.{all_below}
use Rattle.ecode.specs.Instructions.{goes_on, names_address, target}
use Rattle.ecode.specs.Typing.{allowed, next_cell, target_cell, flows, held, cell, cell_rule, line_rule, keeps_fewer, blank, well_typed}
use Rattle.ecode.specs.Verdict.{lines_of}
use Rattle.ecode.proofs.Lists.{all_and, all_or}
use Rattle.ecode.specs.declared.code.Line.{Line}
use Rattle.ecode.specs.declared.code.Listing.{Listing}
use Rattle.ecode.specs.declared.sheet.Sheet.{Sheet}
use Rattle.typing.specs.Rows.{allows, flows_next, flows_there, line_in}

by_rows : (s : Sheet) (l n y : Line) → line_rule s l n y ≡ ((allows s l && (flows_next s l n && flows_there s l y)) && keeps_fewer l.instruction l.row)
unfolding cell_rule
by_rows s l n y =
    let i = l.instruction in
    ap (λ b. b && keeps_fewer i l.row)
    (all_and s.tasks (λ t. allowed s i t (cell l t)) (λ t. (not (goes_on i) || flows (next_cell s i t (cell l t)) (cell n t)) && (not (names_address i) || flows (target_cell i t (cell l t)) (cell y t)))
    ∙ ap (λ b. allows s l && b)
    (all_and s.tasks (λ t. not (goes_on i) || flows (next_cell s i t (cell l t)) (cell n t)) (λ t. not (names_address i) || flows (target_cell i t (cell l t)) (cell y t))
    ∙ ap₂ (λ a b. a && b) (all_or s.tasks (not (goes_on i)) (λ t. flows (next_cell s i t (cell l t)) (cell n t))) (all_or s.tasks (not (names_address i)) (λ t. flows (target_cell i t (cell l t)) (cell y t)))))

-- what each part of the rule of a line makes of it, where the parts before it hold
module _ (s : Sheet) (l n y : Line) where
  -- cells that the instruction does not allow break it
  pub not_allowed : allows s l ≡ false → line_rule s l n y ≡ false
  not_allowed a = by_rows s l n y ∙ ap (λ b. (b && (flows_next s l n && flows_there s l y)) && keeps_fewer l.instruction l.row) a

  module _ (a : allows s l ≡ true) where
    -- so does a row that does not flow into the next
    pub not_on : flows_next s l n ≡ false → line_rule s l n y ≡ false
    not_on o = by_rows s l n y ∙ ap₂ (λ b d. (b && (d && flows_there s l y)) && keeps_fewer l.instruction l.row) a o

    module _ (o : flows_next s l n ≡ true) where
      rest : line_rule s l n y ≡ (flows_there s l y && keeps_fewer l.instruction l.row)
      rest = by_rows s l n y ∙ ap₂ (λ b d. (b && (d && flows_there s l y)) && keeps_fewer l.instruction l.row) a o

      -- and one that does not flow into the row at the target
      pub not_there : flows_there s l y ≡ false → line_rule s l n y ≡ false
      not_there h = rest ∙ ap (λ b. b && keeps_fewer l.instruction l.row) h

      -- where all three hold, what a future keeps decides
      pub all_there : flows_there s l y ≡ true → line_rule s l n y ≡ keeps_fewer l.instruction l.row
      all_there h = rest ∙ ap (λ b. b && keeps_fewer l.instruction l.row) h

module _ (s : Sheet) (ls : List Line) (e a : ℕ) where
  abbrev rule : Line → Line → Line → Bool
  rule l n y = line_rule s l n y && (not (eqb a e) || all_below s.tasks (λ t. held (cell l t)))

  -- the rules at an address, of the lines at it, at the next and at its target
  pub typed_is : (l n y : Line) → l ≡ get_or ls a blank → n ≡ get_or ls (a + 1) blank → (g : ℕ) → g ≡ target l.instruction → y ≡ get_or ls g blank
      → rule l n y ≡ well_typed s ls e a
  unfolding well_typed
  typed_is l n y p q g r h =
      ap (rule l n) (h ∙ ap (λ k. get_or ls k blank) r)
      ∙ ap (λ m. rule l m (get_or ls (target l.instruction) blank)) q
      ∙ ap (λ m. rule m (get_or ls (a + 1) blank) (get_or ls (target m.instruction) blank)) p

-- the rules at the address a of a listing, one after another
pub typed_by_rows : (s : Sheet) (b : Listing) (a : ℕ) → well_typed s (lines_of b) b.entry a
    ≡ (((allows s (line_in b a) && (flows_next s (line_in b a) (line_in b (a + 1)) && flows_there s (line_in b a) (line_in b (target (line_in b a).instruction)))) && keeps_fewer (line_in b a).instruction (line_in b a).row)
    && (not (eqb a b.entry) || all_below s.tasks (λ t. held (cell (line_in b a) t))))
unfolding well_typed
typed_by_rows s b a =
    ap (λ r. r && (not (eqb a b.entry) || all_below s.tasks (λ t. held (cell (line_in b a) t))))
    (by_rows s (line_in b a) (line_in b (a + 1)) (line_in b (target (line_in b a).instruction)))
