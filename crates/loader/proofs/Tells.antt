-- Tests and what they tell. Assumes nothing.
use Rattle.std.proofs.Common.{◌≡◌, ℕ, ◌+◌, ◌^◌, ◌<◌, ◌≤◌, Bool, true, false, cond, ◌&&◌, eqb, ltb, leb, ◌⊎◌, List, ◌∷◌, Some, None, Decides, Option, refl, ap, ◌∙◌, subst, inl, inr, arith}
use Rattle.std.proofs.lemmas.Bool.{ltb-true, lt-ltb, leb-true, le-leb, and_parts}
use Rattle.std.proofs.lemmas.Bool.Decides.{Decides-eqb, Decides-and, Decides-like, nat_tests}
use Rattle.ecode.specs.declared.sheet.Sheet.{Sheet}
use Rattle.ecode.specs.declared.code.Cell.{Cell}
use Rattle.ecode.specs.declared.code.Cell.TheVariants.{NotHeld, Idle, Released}
use Rattle.ecode.specs.declared.code.Instruction.{Instruction}
use Rattle.ecode.specs.declared.code.Instruction.TheVariants.{Call, Release, Future, If, Jump, Return}
use Rattle.ecode.specs.Rules.{Rule, broken}
use Rattle.ecode.specs.Instructions.{aimed}
use Rattle.ecode.specs.Image.{is_ticks, decoded, cell_of}
use Rattle.ecode.specs.Typing.{flows, held, touchable, idle, released, lasts}
use Rattle.ecode.specs.Verdict.{trailer_rules}
use Rattle.ecode.specs.Accepted.{Ticks, TrailerFits, Encodes, Pairs, Aimed, Flows, Held, Touchable, IsIdle, IsReleased, Lasts}

-- a test that is true exactly when P holds is a `Decides`
pub tells_le : (a b : ℕ) → Decides (leb a b) (a ≤ b)
tells_le a b = (leb-true a b, le-leb a b)

pub tells_lt : (a b : ℕ) → Decides (ltb a b) (a < b)
tells_lt a b = (ltb-true a b, lt-ltb a b)

never : false ≡ true → ⊥
never e = let z : ◌≡◌ {A = ℕ} 0 1 = cc in omega arith

pub tells_yes : Decides true (Unit {0})
tells_yes = ((λ _. tt), λ _. refl)

pub tells_no : Decides false ⊥
tells_no = (never, λ h. absurd h)

-- a test in a test
pub tells_when : {P Q R : Type 0} (b x y : Bool) → Decides b P → Decides x Q → Decides y R → Decides (cond b x y) ((P → Q) × ((P → ⊥) → R))
tells_when true x y p q r = ((λ e. ((λ _. q.0 e), λ n. absurd (n (p.0 refl)))), λ h. q.1 (h.0 (p.0 refl)))
tells_when false x y p q r = ((λ e. ((λ w. absurd (never (p.1 w))), λ _. r.0 e)), λ h. r.1 (h.1 (λ w. never (p.1 w))))

pub tells_ticks : (x : ℕ) → Decides (is_ticks x) (Ticks x)
tells_ticks x = Decides-and (leb 1 x) (leb x 240) (tells_le 1 x) (tells_le x 240)

pub tells_flows : (a b : Cell) → Decides (flows a b) (Flows a b)
tells_flows NotHeld NotHeld = tells_yes
tells_flows NotHeld Idle = tells_no
tells_flows NotHeld (Released c r) = tells_no
tells_flows Idle NotHeld = tells_no
tells_flows Idle Idle = tells_yes
tells_flows Idle (Released c r) = tells_yes
tells_flows (Released c r) NotHeld = tells_no
tells_flows (Released c r) Idle = tells_no
tells_flows (Released c r) (Released d e) = Decides-and (eqb c d) (eqb r e) (Decides-eqb c d) (Decides-eqb r e)

pub tells_held : (c : Cell) → Decides (held c) (Held c)
tells_held NotHeld = tells_no
tells_held Idle = tells_yes
tells_held (Released c r) = tells_yes

pub tells_touchable : (c : Cell) → Decides (touchable c) (Touchable c)
tells_touchable NotHeld = tells_no
tells_touchable Idle = tells_yes
tells_touchable (Released c r) = Decides-eqb r 0

pub tells_idle : (c : Cell) → Decides (idle c) (IsIdle c)
tells_idle NotHeld = tells_no
tells_idle Idle = tells_yes
tells_idle (Released c r) = tells_no

pub tells_released : (c : Cell) → Decides (released c) (IsReleased c)
tells_released NotHeld = tells_no
tells_released Idle = tells_no
tells_released (Released c r) = tells_yes

pub tells_lasts : (x : ℕ) (c : Cell) → Decides (lasts x c) (Lasts x c)
tells_lasts x NotHeld = tells_yes
tells_lasts x Idle = tells_yes
tells_lasts x (Released c r) = tells_le x r

pub tells_aimed : (n a : ℕ) (i : Instruction) → Decides (aimed n a i) (Aimed n a i)
tells_aimed n a (Call d) = Decides-like (ltb (a + 1) n && true) (λ h. h.0) (λ h. (h, tt)) (Decides-and (ltb (a + 1) n) true (tells_lt (a + 1) n) tells_yes)
tells_aimed n a (Release x w) = Decides-like (ltb (a + 1) n && true) (λ h. h.0) (λ h. (h, tt)) (Decides-and (ltb (a + 1) n) true (tells_lt (a + 1) n) tells_yes)
tells_aimed n a (Future x y z) =
    Decides-like (ltb (a + 1) n && (ltb y n && true)) (λ h. (h.0, h.1.0)) (λ h. (h.0, (h.1, tt)))
    (Decides-and (ltb (a + 1) n) (ltb y n && true) (tells_lt (a + 1) n) (Decides-and (ltb y n) true (tells_lt y n) tells_yes))
tells_aimed n a (If q y) =
    Decides-like (ltb (a + 1) n && (ltb y n && ltb a y)) (λ h. (h.0, h.1.0, h.1.1)) (λ h. (h.0, (h.1, h.2)))
    (Decides-and (ltb (a + 1) n) (ltb y n && ltb a y) (tells_lt (a + 1) n) (Decides-and (ltb y n) (ltb a y) (tells_lt y n) (tells_lt a y)))
tells_aimed n a (Jump y) = Decides-and (ltb y n) (ltb a y) (tells_lt y n) (tells_lt a y)
tells_aimed n a Return = tells_yes

-- where the first rule holds, and the others do
pub first_holds : {F : Type 0} {P : Type 0} (b : Bool) (f : F) (rs : List (Rule F)) → Decides b P → broken ((b, f) ∷ rs) ≡ None → P × (broken rs ≡ None)
first_holds true f rs p e = (p.0 refl, e)
first_holds false f rs p e = let z : ◌≡◌ {A = ℕ} 0 1 = cc in absurd (omega arith)

pub holds_first : {F : Type 0} {P : Type 0} (b : Bool) (f : F) (rs : List (Rule F)) → Decides b P → P → broken rs ≡ None → broken ((b, f) ∷ rs) ≡ None
holds_first b f rs p h e = ap (λ v. cond v (broken rs) (Some f)) (p.1 h) ∙ e

-- the trailer
pub trailed : (s : Sheet) (im : List ℕ) → broken (trailer_rules s im) ≡ None → TrailerFits s im
trailed s im e = record {
  long = grind (arith, nat_tests);
  form = grind (arith, nat_tests);
  mark = grind (arith, nat_tests);
  some = grind (arith, nat_tests);
  records = grind (arith, nat_tests);
  few = grind (arith, nat_tests);
  exact = grind (arith, nat_tests);
  tasks = grind (arith, nat_tests);
  drivers = grind (arith, nat_tests);
  conditions = grind (arith, nat_tests);
  starts = grind (arith, nat_tests);
}

pub trails : (s : Sheet) (im : List ℕ) → TrailerFits s im → broken (trailer_rules s im) ≡ None
trails s im h = grind (arith, nat_tests)

-- an entry of the opcode table gave the instruction, or a later one did
entered : (b c : Bool) (v i : Instruction) (o : Option Instruction) → cond b (cond c (Some v) None) o ≡ Some i → ((b ≡ true) × (c ≡ true) × (v ≡ i)) ⊎ (o ≡ Some i)
entered true true v i o e = inl (refl, refl, cc)
entered true false v i o e = let z : ◌≡◌ {A = ℕ} 0 1 = cc in absurd (omega arith)
entered false c v i o e = inr e

module _ (s : Sheet) (op x y z : ℕ) where
  called : eqb op 1 ≡ true → (ltb x s.drivers && (eqb y 0 && eqb z 0)) ≡ true → Encodes s op x y z (Call x)
  called b c = (grind (arith, nat_tests), refl, grind (arith, nat_tests), grind (arith, nat_tests), grind (arith, nat_tests))

  released_by : eqb op 2 ≡ true → (ltb x s.tasks && (is_ticks y && eqb z 0)) ≡ true → Encodes s op x y z (Release x y)
  released_by b c = (grind (arith, nat_tests), refl, refl, grind (arith, nat_tests), grind (arith, nat_tests), (grind (arith, nat_tests), grind (arith, nat_tests)))

  deferred : eqb op 3 ≡ true → (is_ticks x && ltb z (2 ^ s.tasks)) ≡ true → Encodes s op x y z (Future x y z)
  deferred b c = (grind (arith, nat_tests), refl, refl, refl, (grind (arith, nat_tests), grind (arith, nat_tests)), ltb-true z (2 ^ s.tasks) (and_parts (is_ticks x) (ltb z (2 ^ s.tasks)) c).1)

  branched : eqb op 4 ≡ true → (ltb x s.conditions && eqb z 0) ≡ true → Encodes s op x y z (If x y)
  branched b c = (grind (arith, nat_tests), refl, refl, grind (arith, nat_tests), grind (arith, nat_tests))

  jumped : eqb op 5 ≡ true → (eqb x 0 && eqb z 0) ≡ true → Encodes s op x y z (Jump y)
  jumped b c = (grind (arith, nat_tests), grind (arith, nat_tests), refl, grind (arith, nat_tests))

  returned : eqb op 6 ≡ true → (eqb x 0 && (eqb y 0 && eqb z 0)) ≡ true → Encodes s op x y z Return
  returned b c = (grind (arith, nat_tests), grind (arith, nat_tests), grind (arith, nat_tests), grind (arith, nat_tests))

  pub made : (i : Instruction) → decoded s op x y z ≡ Some i → Encodes s op x y z i
  made i e = elim (entered (eqb op 1) _ (Call x) i _ e) [
    | inl h ↦ subst (Encodes s op x y z) h.2 (called h.0 h.1)
    | inr e₁ ↦
        elim (entered (eqb op 2) _ (Release x y) i _ e₁) [
          | inl h ↦ subst (Encodes s op x y z) h.2 (released_by h.0 h.1)
          | inr e₂ ↦
              elim (entered (eqb op 3) _ (Future x y z) i _ e₂) [
                | inl h ↦ subst (Encodes s op x y z) h.2 (deferred h.0 h.1)
                | inr e₃ ↦
                    elim (entered (eqb op 4) _ (If x y) i _ e₃) [
                      | inl h ↦ subst (Encodes s op x y z) h.2 (branched h.0 h.1)
                      | inr e₄ ↦
                          elim (entered (eqb op 5) _ (Jump y) i _ e₄) [
                            | inl h ↦ subst (Encodes s op x y z) h.2 (jumped h.0 h.1)
                            | inr e₅ ↦
                                elim (entered (eqb op 6) _ Return i None e₅) [
                                  | inl h ↦ subst (Encodes s op x y z) h.2 (returned h.0 h.1)
                                  | inr e₆ ↦
                                      let n : ◌≡◌ {A = ℕ} 0 1 = cc in absurd (omega arith)
                                ]
                          ]
                    ]
              ]
        ]
  ]

pub said : (tasks t c r : ℕ) (v : Cell) → cell_of tasks t c r ≡ Some v → Pairs tasks t c r v
said tasks t c r NotHeld e = (grind (arith, nat_tests), grind (arith, nat_tests))
said tasks t c r Idle e = (grind (arith, nat_tests), grind (arith, nat_tests), grind (arith, nat_tests))
said tasks t c r (Released d f) e = (grind (arith, nat_tests), grind (arith, nat_tests), grind (arith, nat_tests), (grind (arith, nat_tests), grind (arith, nat_tests)))

pub makes : (s : Sheet) (op x y z : ℕ) (i : Instruction) → Encodes s op x y z i → decoded s op x y z ≡ Some i
makes s op x y z (Call d) h = grind (arith, nat_tests)
makes s op x y z (Release t w) h = grind (arith, nat_tests)
makes s op x y z (Future t w k) h = grind (arith, nat_tests)
makes s op x y z (If t w) h = grind (arith, nat_tests)
makes s op x y z (Jump w) h = grind (arith, nat_tests)
makes s op x y z Return h = grind (arith, nat_tests)

pub says : (tasks t c r : ℕ) (v : Cell) → Pairs tasks t c r v → cell_of tasks t c r ≡ Some v
says tasks t c r NotHeld h = grind (arith, nat_tests)
says tasks t c r Idle h = grind (arith, nat_tests)
says tasks t c r (Released d e) h = grind (arith, nat_tests)
