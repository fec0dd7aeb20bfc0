-- No rule is broken exactly where the image and the budgets are acceptable. Assumes nothing.
use Rattle.std.proofs.Common.{◌≡◌, ℕ, zero, suc, ◌+◌, ◌*◌, ◌<◌, ◌≤◌, Bool, true, cond, eqb, List, [], ◌∷◌, ◌++◌, length, get_or, take, drop, is_some, IfOk, Some, None, Ok, Err, Decides, Option, Result, unwrap_or, sym, refl, ap, ◌∙◌, subst, ap₂, inl, inr, le_of_mul-le-mul_right, add-one, arith, get_or-drop, ext_get_or}
use native.Mathlib.Decide.{le_ind}
use Rattle.std.specs.Option.{option_map}
use Rattle.std.proofs.lemmas.Bool.{cases_Bool, cases_lt, leb-true, le-leb, eqb-false}
use Rattle.std.proofs.lemmas.List.{get_or_past}
use Rattle.std.proofs.lemmas.Bool.Decides.{Decides-eqb}
use Rattle.ecode.specs.declared.sheet.Sheet.{Sheet}
use Rattle.ecode.specs.declared.code.Cell.{Cell}
use Rattle.ecode.specs.declared.code.Cell.TheVariants.{NotHeld, Idle, Released}
use Rattle.ecode.specs.declared.code.Instruction.{Instruction}
use Rattle.ecode.specs.declared.code.Instruction.TheVariants.{Call, Release, Future, If, Jump, Return}
use Rattle.ecode.specs.declared.code.Line.{Line}
use Rattle.ecode.specs.declared.fault.ImageFault.TheVariants.{Operation, RowPair, Target}
use Rattle.ecode.specs.declared.fault.CodeFault.TheVariants.{Image, Typing}
use Rattle.ecode.specs.declared.fault.LoadFault.TheVariants.{Code, Budget, Overload}
use Rattle.ecode.specs.declared.code.Program.{Program}
use Rattle.ecode.specs.declared.fault.LoadFault.{LoadFault}
use Rattle.ecode.specs.Rules.{Rule, broken, one, each, inside, Judged}
use Rattle.ecode.specs.Instructions.{aimed, target}
use Rattle.ecode.specs.Image.{size, entry, is_ticks, instruction_in, cell_in, row_fine, row_in, record_at, line, code}
use Rattle.ecode.specs.Typing.{cell, blank, well_typed}
use Rattle.ecode.specs.Load.{sum_below, product_below, part, width, window, fits}
use Rattle.ecode.specs.Verdict.{trailer_rules, record_rules, layout_rules, typing_rules, budget_rules, sum_rules, image_rules, code_rules, rules, Contents, contents}
use Rattle.ecode.specs.Accepted.{TrailerFits, Encodes, Pairs, Holds, Aimed, Typed, KeepsFewer, Held, Acceptable, Exactly, Ranged, CellRanged, Bounded, Accepted, Checked}
use Rattle.ecode.specs.Parts.{FromBytes}
use Rattle.ecode.proofs.Firsts.{broken-++, broken_inside, none_parts, past, clean_inside, each_within, each_clean}
use Rattle.ecode.proofs.Lists.{length_listed, getD_listed, all_at, all_from}
use Rattle.image.proofs.Records.{unbroken}
use Rattle.loader.proofs.Shares.{prod_cong, sum_cong, sum_more, whole_more}
use Rattle.loader.proofs.Tells.{tells_ticks, tells_aimed, first_holds, holds_first, trailed, trails, made, makes, said, says}
use Rattle.loader.proofs.Rulings.{tells_typed}
use Rattle.loader.proofs.Verdicts.{verdict_is}
use Rattle.loader.proofs.Leasts.{window_least, least_unique}

-- ---- rules joined

none_of : {F : Type 0} (rs qs : List (Rule F)) → broken (rs ++ qs) ≡ None → (broken rs ≡ None) × (broken qs ≡ None)
none_of rs qs e = none_parts (broken rs) (broken qs) (sym (broken-++ rs qs) ∙ e)

none_within : {F G : Type 0} (c : F → G) (rs : List (Rule F)) → broken (inside c rs) ≡ None → broken rs ≡ None
none_within {F} c rs e = go (broken rs) (sym (broken_inside c rs) ∙ e)
  where
    go : (o : Option F) → option_map c o ≡ None → o ≡ None
    go None e = refl
    go (Some x) e = let z : ◌≡◌ {A = ℕ} 0 1 = cc in absurd (omega arith)

itself : (b : Bool) → Decides b (b ≡ true)
itself b = ((λ e. e), λ e. e)

one_holds : {F : Type 0} (b : Bool) (f : F) → broken (one b f) ≡ None → b ≡ true
one_holds b f e = (first_holds b f [] (itself b) e).0

holds_one : {F : Type 0} (b : Bool) (f : F) → b ≡ true → broken (one b f) ≡ None
holds_one b f e = holds_first b f [] (itself b) e refl

pub record Clean (s : Sheet) (im bud : List ℕ) : Type 0 where
  pub trailer : broken (trailer_rules s im) ≡ None
  pub layout : broken (layout_rules s im (size im)) ≡ None
  pub typing : broken (typing_rules s (code s im) (entry im) (size im)) ≡ None
  pub budget : broken (budget_rules s bud) ≡ None
  pub sum : broken (sum_rules s (code s im) bud) ≡ None

pub split : (s : Sheet) (im bud : List ℕ) → broken (rules s im bud) ≡ None → Clean s im bud
split s im bud e =
    let a = none_of (inside Code (code_rules s im)) (budget_rules s bud ++ sum_rules s (code s im) bud) e in
    let b = none_of (budget_rules s bud) (sum_rules s (code s im) bud) a.1 in
    let c = none_of (inside Image (image_rules s im)) (typing_rules s (code s im) (entry im) (size im)) (none_within Code (code_rules s im) a.0) in
    let d = none_of (trailer_rules s im) (layout_rules s im (size im)) (none_within Image (image_rules s im) c.0) in
    record { trailer = d.0; layout = d.1; typing = c.1; budget = b.0; sum = b.1 }

pub join : (s : Sheet) (im bud : List ℕ) → Clean s im bud → broken (rules s im bud) ≡ None
join s im bud c =
    let d = past (trailer_rules s im) (layout_rules s im (size im)) c.trailer ∙ c.layout in
    let e = past (inside Image (image_rules s im)) (typing_rules s (code s im) (entry im) (size im)) (clean_inside Image (image_rules s im) d) ∙ c.typing in
    past (inside Code (code_rules s im)) (budget_rules s bud ++ sum_rules s (code s im) bud) (clean_inside Code (code_rules s im) e)
    ∙ past (budget_rules s bud) (sum_rules s (code s im) bud) c.budget ∙ c.sum

-- ---- records

some_value : {X : Type 0} (o : Option X) (d : X) → is_some o ≡ true → o ≡ Some (unwrap_or o d)
some_value None d e = let z : ◌≡◌ {A = ℕ} 0 1 = cc in absurd (omega arith)
some_value (Some x) d e = refl

abbrev put_loaded : ℕ → List Line → List ℕ → Contents
put_loaded e ls b = record { entry = e; lines = ls; budgets = b }

abbrev put : Instruction → List Cell → Line
put i r = record { instruction = i; row = r }

module _ (s : Sheet) (bs : List ℕ) where
  first_byte : (t : ℕ) → get_or (drop 4 bs) (2 * t) 0 ≡ get_or bs (4 + 2 * t) 0
  first_byte t = get_or-drop 4 bs (2 * t) 0

  second_byte : (t : ℕ) → get_or (drop 4 bs) (2 * t + 1) 0 ≡ get_or bs (5 + 2 * t) 0
  second_byte t = get_or-drop 4 bs (2 * t + 1) 0 ∙ ap (λ k. get_or bs k 0) (omega arith)

  cell_line : (t : ℕ) → t < 8 → cell (line s bs) t ≡ unwrap_or (cell_in s.tasks (drop 4 bs) t) NotHeld
  cell_line t h = getD_listed 8 (λ k. unwrap_or (cell_in s.tasks (drop 4 bs) k) NotHeld) t NotHeld h

  holds : is_some (instruction_in s bs) ≡ true → row_fine s.tasks (drop 4 bs) ≡ true → Holds s bs (line s bs)
  holds i r = record {
    instruction = made s (get_or bs 0 0) (get_or bs 1 0) (get_or bs 2 0) (get_or bs 3 0) (line s bs).instruction (some_value (instruction_in s bs) Return i);
    eight = length_listed 8 (λ k. unwrap_or (cell_in s.tasks (drop 4 bs) k) NotHeld);
    row = λ t h.
        let fine = all_at (λ k. is_some (cell_in s.tasks (drop 4 bs) k)) 8 t r h in
        let e = some_value (cell_in s.tasks (drop 4 bs) t) NotHeld fine in
        let y = said s.tasks t (get_or (drop 4 bs) (2 * t) 0) (get_or (drop 4 bs) (2 * t + 1) 0) (unwrap_or (cell_in s.tasks (drop 4 bs) t) NotHeld) e in
        subst (λ v. Pairs s.tasks t (get_or bs (4 + 2 * t) 0) (get_or bs (5 + 2 * t) 0) v) (sym (cell_line t h))
        (subst (λ b. Pairs s.tasks t (get_or bs (4 + 2 * t) 0) b (unwrap_or (cell_in s.tasks (drop 4 bs) t) NotHeld)) (second_byte t)
        (subst (λ a. Pairs s.tasks t a (get_or (drop 4 bs) (2 * t + 1) 0) (unwrap_or (cell_in s.tasks (drop 4 bs) t) NotHeld)) (first_byte t) y));
  }

  module _ (l : Line) (h : Holds s bs l) where
    read_instr : instruction_in s bs ≡ Some l.instruction
    read_instr = makes s (get_or bs 0 0) (get_or bs 1 0) (get_or bs 2 0) (get_or bs 3 0) l.instruction h.instruction

    read_cell : (t : ℕ) → t < 8 → cell_in s.tasks (drop 4 bs) t ≡ Some (cell l t)
    read_cell t k = says s.tasks t (get_or (drop 4 bs) (2 * t) 0) (get_or (drop 4 bs) (2 * t + 1) 0) (cell l t)
        (subst (λ a. Pairs s.tasks t a (get_or (drop 4 bs) (2 * t + 1) 0) (cell l t)) (sym (first_byte t))
        (subst (λ b. Pairs s.tasks t (get_or bs (4 + 2 * t) 0) b (cell l t)) (sym (second_byte t)) (h.row t k)))

    -- a record holds one line
    same_line : l ≡ line s bs
    same_line = ap₂ put (sym (ap (λ o. unwrap_or o Return) read_instr))
        (ext_get_or NotHeld l.row (row_in s.tasks (drop 4 bs)) (h.eight ∙ sym (length_listed 8 (λ k. unwrap_or (cell_in s.tasks (drop 4 bs) k) NotHeld)))
        (λ t k. let lt : t < 8 = omega (arith, h.eight) in sym (cell_line t lt ∙ ap (λ o. unwrap_or o NotHeld) (read_cell t lt))))

    read_fine : (n a : ℕ) → Aimed n a l.instruction → broken (record_rules s n a bs) ≡ None
    read_fine n a g = unbroken (is_some (instruction_in s bs)) (row_fine s.tasks (drop 4 bs)) (aimed n a (line s bs).instruction) (Operation a) (RowPair a) (Target a)
        (ap is_some read_instr)
        (all_from (λ k. is_some (cell_in s.tasks (drop 4 bs) k)) 8 (λ t k. ap is_some (read_cell t k)))
        ((tells_aimed n a (line s bs).instruction).1 (subst (Aimed n a) (ap (λ m. m.instruction) same_line) g))

-- ---- the code

module _ (s : Sheet) (im : List ℕ) where
  long_code : length (code s im) ≡ size im
  long_code = length_listed (size im) (λ a. line s (record_at im a))

  code_at : (a : ℕ) → a < size im → get_or (code s im) a blank ≡ line s (record_at im a)
  code_at a h = getD_listed (size im) (λ k. line s (record_at im k)) a blank h

  -- an acceptable code is the one read
  the_code : (bud : List ℕ) (ls : List Line) → Acceptable s im bud ls → ls ≡ code s im
  the_code bud ls A = ext_get_or blank ls (code s im) (A.layout.count ∙ sym long_code)
      (λ a h. same_line s (record_at im a) (get_or ls a blank) (A.layout.records a h) ∙ sym (code_at a (omega (arith, A.layout.count))))

  -- windows are at least 1
  positive : ((a : ℕ) → a < length (code s im) → Holds s (record_at im a) (get_or (code s im) a blank))
      → (t a v : ℕ) → (get_or (code s im) a blank).instruction ≡ Release t v → 1 ≤ v
  positive all t a v e = elim (cases_lt a (length (code s im))) [
    | inl h ↦ released_fine (get_or (code s im) a blank).instruction (all a h).instruction e
    | inr h ↦ let z : ◌≡◌ {A = ℕ} 0 1 = lie (sym (ap (λ l. l.instruction) (get_or_past (code s im) a blank h)) ∙ e) in absurd (omega arith)
  ]
    where
      lie : Return ≡ Release t v → ◌≡◌ {A = ℕ} 0 1
      lie e = cc

      released_fine : (i : Instruction) → Encodes s (get_or (record_at im a) 0 0) (get_or (record_at im a) 1 0) (get_or (record_at im a) 2 0) (get_or (record_at im a) 3 0) i → i ≡ Release t v → 1 ≤ v
      released_fine i m e = (subst (Encodes s (get_or (record_at im a) 0 0) (get_or (record_at im a) 1 0) (get_or (record_at im a) 2 0) (get_or (record_at im a) 3 0)) e m).5.0

-- ---- the load sum

fits_cong : (n : ℕ) (w w' b : ℕ → ℕ) → ((t : ℕ) → t < n → w t ≡ w' t) → sum_below n (part n w b) ≤ product_below n (width w) → sum_below n (part n w' b) ≤ product_below n (width w')
fits_cong n w w' b h e =
    let widths : (t : ℕ) → t < n → width w t ≡ width w' t = λ t k. ap (λ x. cond (eqb x 0) 1 x) (h t k) in
    let withouts : (u t : ℕ) → t < n → cond (eqb t u) 1 (width w t) ≡ cond (eqb t u) 1 (width w' t) = λ u t k. ap (cond (eqb t u) 1) (widths t k) in
    let p = prod_cong n (width w) (width w') widths in
    let q = sum_cong n (part n w b) (part n w' b) (λ t k. ap₂ (λ x m. cond (eqb x 0) 0 (b t * m)) (h t k) (prod_cong n (λ u. cond (eqb u t) 1 (width w u)) (λ u. cond (eqb u t) 1 (width w' u)) (withouts t))) in
    omega arith

less : (p x p' x' w b : ℕ) → p' ≡ cond (eqb w 0) p (p * w + b * x) → x' ≡ cond (eqb w 0) x (x * w) → p' ≤ x' → p ≤ x
less p x p' x' w b e f h = elim (cases_Bool (eqb w 0)) [
  | inl z ↦ let a = ap (λ c. cond c p (p * w + b * x)) z in let c = ap (λ c. cond c x (x * w)) z in omega arith
  | inr z ↦
      let a : p' ≡ p * w + b * x = e ∙ ap (λ c. cond c p (p * w + b * x)) z in
      let c : x' ≡ x * w = f ∙ ap (λ c. cond c x (x * w)) z in
      let n = eqb-false w 0 z in
      let pos : zero < w = omega arith in
      let le : p * w ≤ x * w = omega arith in
      le_of_mul-le-mul_right le pos
]

fits_before : (w b : ℕ → ℕ) (n : ℕ) → fits (n + 1) w b ≡ true → fits n w b ≡ true
unfolding fits
fits_before w b n e = le-leb (sum_below n (part n w b)) (product_below n (width w))
    (less (sum_below n (part n w b)) (product_below n (width w)) (sum_below (n + 1) (part (n + 1) w b)) (product_below (n + 1) (width w)) (w n) (b n)
    (sum_more w b n) (whole_more w b n) (leb-true (sum_below (n + 1) (part (n + 1) w b)) (product_below (n + 1) (width w)) e))

fits_down : (w b : ℕ → ℕ) (n m : ℕ) → n ≤ m → fits m w b ≡ true → fits n w b ≡ true
fits_down w b n m h = le_ind (λ k. fits k w b ≡ true → fits n w b ≡ true) (λ e. e)
    (λ k _ r e. r (fits_before w b k (ap (λ j. fits j w b) (add-one k) ∙ e))) m h

fits_last : (w b : ℕ → ℕ) (n : ℕ) → ((t : ℕ) → t < n → fits (t + 1) w b ≡ true) → fits n w b ≡ true
unfolding fits sum_below product_below
fits_last w b zero h = refl
fits_last w b (suc n) h = ap (λ k. fits k w b) (sym (add-one n)) ∙ h n (omega arith)

fits_le : (w b : ℕ → ℕ) (n : ℕ) → fits n w b ≡ true → sum_below n (part n w b) ≤ product_below n (width w)
unfolding fits
fits_le w b n e = leb-true (sum_below n (part n w b)) (product_below n (width w)) e

le_fits : (w b : ℕ → ℕ) (n : ℕ) → sum_below n (part n w b) ≤ product_below n (width w) → fits n w b ≡ true
unfolding fits
le_fits w b n e = le-leb (sum_below n (part n w b)) (product_below n (width w)) e

-- ---- both ways

module _ (s : Sheet) (im bud : List ℕ) where
  abbrev budget : ℕ → ℕ
  budget t = get_or bud t 0

  pub acceptable : broken (rules s im bud) ≡ None → Acceptable s im bud (code s im)
  acceptable e = record {
    layout = record {
      trailer = ends;
      count = long_code s im;
      records = records;
      addresses = λ a h. subst (λ n. Aimed n a (get_or (code s im) a blank).instruction) (sym (long_code s im))
          (subst (λ l. Aimed (size im) a l.instruction) (sym (code_at s im a (below a h))) ((tells_aimed (size im) a (line s (record_at im a)).instruction).0 (three a (below a h)).2));
    };
    typing = record {
      cells = λ a t h k. (rule a (below a h)).0.0 t k;
      futures = λ a h. (rule a (below a h)).0.1;
      start = (rule (entry im) ends.starts).1 refl;
    };
    load = record {
      budgets = lengths.0;
      ticks = λ t h. (tells_ticks (budget t)).0 (one_holds (is_ticks (budget t)) (Budget t) (each_within (λ t. one (is_ticks (budget t)) (Budget t)) s.tasks t lengths.1 h));
      sum = λ win least. fits_cong s.tasks (window (code s im)) win budget
          (λ t h. least_unique (code s im) t (positive s im records t) (window (code s im) t) (win t) (window_least (code s im) t (positive s im records t)) (least t h))
          (fits_le (window (code s im)) budget s.tasks (fits_last (window (code s im)) budget s.tasks
          (λ t h. one_holds (fits (t + 1) (window (code s im)) budget) (Overload t)
          (each_within (λ t. one (fits (t + 1) (window (code s im)) budget) (Overload t)) s.tasks t c.sum h))));
    };
  }
    where
      c : Clean s im bud
      c = split s im bud e

      ends : TrailerFits s im
      ends = trailed s im c.trailer

      below : (a : ℕ) → a < length (code s im) → a < size im
      below a h = omega (arith, long_code s im)

      three : (a : ℕ) → a < size im → (is_some (instruction_in s (record_at im a)) ≡ true) × (row_fine s.tasks (drop 4 (record_at im a)) ≡ true) × (aimed (size im) a (line s (record_at im a)).instruction ≡ true)
      three a h =
          let r = each_within (λ a. record_rules s (size im) a (record_at im a)) (size im) a c.layout h in
          let p = first_holds (is_some (instruction_in s (record_at im a))) (Operation a) ((row_fine s.tasks (drop 4 (record_at im a)), RowPair a) ∷ (aimed (size im) a (line s (record_at im a)).instruction, Target a) ∷ []) (itself _) r in
          let q = first_holds (row_fine s.tasks (drop 4 (record_at im a))) (RowPair a) ((aimed (size im) a (line s (record_at im a)).instruction, Target a) ∷ []) (itself _) p.1 in
          (p.0, q.0, one_holds (aimed (size im) a (line s (record_at im a)).instruction) (Target a) q.1)

      records : (a : ℕ) → a < length (code s im) → Holds s (record_at im a) (get_or (code s im) a blank)
      records a h = subst (Holds s (record_at im a)) (sym (code_at s im a (below a h))) (holds s (record_at im a) (three a (below a h)).0 (three a (below a h)).1)

      rule : (a : ℕ) → a < size im → ((((t : ℕ) → t < s.tasks → Typed s (get_or (code s im) a blank).instruction t (cell (get_or (code s im) a blank) t) (cell (get_or (code s im) (a + 1) blank) t) (cell (get_or (code s im) (target (get_or (code s im) a blank).instruction) blank) t)) × KeepsFewer (get_or (code s im) a blank).instruction (get_or (code s im) a blank).row)
          × (a ≡ entry im → (t : ℕ) → t < s.tasks → Held (cell (get_or (code s im) a blank) t)))
      rule a h = (tells_typed s (code s im) (entry im) a).0
          (one_holds (well_typed s (code s im) (entry im) a) (Typing a) (each_within (λ a. one (well_typed s (code s im) (entry im) a) (Typing a)) (size im) a c.typing h))

      lengths : (length bud ≡ s.tasks) × (broken (each s.tasks (λ t. one (is_ticks (budget t)) (Budget t))) ≡ None)
      lengths = first_holds (eqb (length bud) s.tasks) (Budget s.tasks) (each s.tasks (λ t. one (is_ticks (budget t)) (Budget t))) (Decides-eqb (length bud) s.tasks) c.budget

  pub unbroken_when : (ls : List Line) → Acceptable s im bud ls → broken (rules s im bud) ≡ None
  unbroken_when ls A₀ = join s im bud (record {
    trailer = trails s im A.layout.trailer;
    layout = each_clean (λ a. record_rules s (size im) a (record_at im a)) (size im)
        (λ a h. read_fine s (record_at im a) (get_or (code s im) a blank) (A.layout.records a (above a h)) (size im) a
        (subst (λ n. Aimed n a (get_or (code s im) a blank).instruction) (long_code s im) (A.layout.addresses a (above a h))));
    typing = each_clean (λ a. one (well_typed s (code s im) (entry im) a) (Typing a)) (size im)
        (λ a h. holds_one (well_typed s (code s im) (entry im) a) (Typing a) ((tells_typed s (code s im) (entry im) a).1
        (((λ t k. A.typing.cells a t (above a h) k), A.typing.futures a (above a h)), λ q t k. subst (λ j. Held (cell (get_or (code s im) j blank) t)) (sym q) (A.typing.start t k))));
    budget = holds_first (eqb (length bud) s.tasks) (Budget s.tasks) (each s.tasks (λ t. one (is_ticks (budget t)) (Budget t))) (Decides-eqb (length bud) s.tasks) A.load.budgets
        (each_clean (λ t. one (is_ticks (budget t)) (Budget t)) s.tasks (λ t h. holds_one (is_ticks (budget t)) (Budget t) ((tells_ticks (budget t)).1 (A.load.ticks t h))));
    sum = each_clean (λ t. one (fits (t + 1) (window (code s im)) budget) (Overload t)) s.tasks
        (λ t h. holds_one (fits (t + 1) (window (code s im)) budget) (Overload t)
        (fits_down (window (code s im)) budget (t + 1) s.tasks (omega arith)
        (le_fits (window (code s im)) budget s.tasks (A.load.sum (window (code s im)) (λ t h. window_least (code s im) t (positive s im A.layout.records t))))));
  })
    where
      A : Acceptable s im bud (code s im)
      A = subst (Acceptable s im bud) (the_code s im bud ls A₀) A₀

      above : (a : ℕ) → a < size im → a < length (code s im)
      above a h = omega (arith, long_code s im)

  -- what a check answers is exact
  exactly : (r : Result Program LoadFault) → Judged (rules s im bud) (FromBytes s im bud) r → Exactly s im bud r
  exactly (Ok p) a = subst (Acceptable s im bud) (sym a.1.listing.code) (acceptable a.0)
  exactly (Err x) a = λ ls A. let e = unbroken_when ls A in let z : ◌≡◌ {A = ℕ} 0 1 = cc in omega arith

  -- what an acceptable code keeps, the image aside
  shaped : (ls : List Line) → Acceptable s im bud ls → Bounded s (entry im) ls
  shaped ls A = record {
    starts = omega (arith, A.layout.count, A.layout.trailer.starts);
    few = omega (arith, A.layout.count, A.layout.trailer.few);
    ranges = λ a h. ranged (get_or (record_at im a) 0 0) (get_or (record_at im a) 1 0) (get_or (record_at im a) 2 0) (get_or (record_at im a) 3 0) (get_or ls a blank).instruction (A.layout.records a h).instruction;
    addresses = A.layout.addresses;
    rows = λ a t h k. celled s.tasks t (get_or (record_at im a) (4 + 2 * t) 0) (get_or (record_at im a) (5 + 2 * t) 0) (cell (get_or ls a blank) t) ((A.layout.records a h).row t k);
  }
    where
      ranged : (op x y z : ℕ) (i : Instruction) → Encodes s op x y z i → Ranged s i
      ranged op x₀ y z₀ (Call d) m = m.4
      ranged op x₀ y z₀ (Release t w) m = (m.4, m.5)
      ranged op x₀ y z₀ (Future x a z) m = (m.4, m.5)
      ranged op x₀ y z₀ (If q a) m = m.4
      ranged op x₀ y z₀ (Jump a) m = tt
      ranged op x₀ y z₀ Return m = tt

      celled : (tasks t c r : ℕ) (v : Cell) → Pairs tasks t c r v → CellRanged tasks t v
      celled tasks t c r NotHeld m = tt
      celled tasks t c r Idle m = m.2
      celled tasks t c r (Released d e) m = (m.2, (omega arith, omega arith))

  keeps : (r : Result Program LoadFault) → Judged (rules s im bud) (FromBytes s im bud) r → IfOk r (λ p. Accepted s (contents s.tasks p))
  keeps (Ok p) a =
      let A = acceptable a.0 in
      let w = a.1 in
      subst (Accepted s) (sym (ap₂ (λ e ls. put_loaded e ls (take s.tasks p.budgets)) w.listing.start w.listing.code ∙ ap (put_loaded (entry im) (code s im)) w.budgets))
      (record { bounds = shaped (code s im) A; typing = A.typing; load = A.load })
  keeps (Err e) a = tt

  -- what follows from an answer under all the rules
  pub checked : (r : Result Program LoadFault) → Judged (rules s im bud) (FromBytes s im bud) r → Checked s im bud r
  checked r a = record { verdict = verdict_is s im bud r a; exactly = exactly r a; accepted = keeps r a }
