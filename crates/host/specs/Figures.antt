-- Figures of the static check, worked out from its definitions for the pitch drive.
--   lone, two_rate    the images; answer is what the verdict says of one: none where it is accepted
use Rattle.std.specs.Prelude.{◌≡◌, ℕ, true, false, List, [], ◌∷◌, ◌++◌, Some, None, Ok, Err, Option, Result, slice_index, slice_set}
use Rattle.ecode.specs.declared.fault.LoadFault.{LoadFault}
use Rattle.ecode.specs.declared.fault.Layer.TheVariants.{Image as image, Check as check, Load as load}
use Rattle.ecode.specs.declared.fault.Refusal.{Refusal}
use Rattle.ecode.specs.Load.{fits, parts, whole}
use Rattle.ecode.specs.Refusals.{load_refusal}
use Rattle.ecode.specs.Verdict.{Contents, verdict}
use Rattle.host.specs.Pitch.{pitch_sheet}

-- a record: opcode, operands, the pairs of control and filter, and not held for the six tasks that the drive lacks
abbrev pub record_of : ℕ → ℕ → ℕ → ℕ → ℕ → ℕ → ℕ → ℕ → List ℕ
record_of op x y z c₀ r₀ c₁ r₁ =
    op ∷ x ∷ y ∷ z ∷ c₀ ∷ r₀ ∷ c₁ ∷ r₁ ∷ 255 ∷ 0 ∷ 255 ∷ 0 ∷ 255 ∷ 0 ∷ 255 ∷ 0 ∷ 255 ∷ 0 ∷ 255 ∷ 0 ∷ []

-- a trailer for so many bytes of records, entry 0
abbrev pub trailer : ℕ → List ℕ
trailer length = 0 ∷ length ∷ 0 ∷ 2 ∷ 3 ∷ 1 ∷ 1 ∷ 0xe5 ∷ []

-- a return, both tasks idle
abbrev pub lone : List ℕ
lone = record_of 6 0 0 0 254 0 254 0 ++ trailer 20

-- control every 20 ticks and filter every 10
abbrev pub two_rate : List ℕ
two_rate =
    record_of 1 2 0 0 20 0 10 0
    ++ (record_of 1 1 0 0 254 0 10 0
    ++ (record_of 1 0 0 0 254 0 254 0
    ++ (record_of 2 0 20 0 254 0 254 0
    ++ (record_of 2 1 10 0 0 20 254 0
    ++ (record_of 3 10 7 0 0 20 0 10
    ++ (record_of 6 0 0 0 255 0 255 0
    ++ (record_of 1 0 0 0 10 10 10 0
    ++ (record_of 2 1 10 0 10 10 254 0
    ++ (record_of 3 10 0 0 10 10 0 10
    ++ (record_of 6 0 0 0 255 0 255 0
    ++ trailer 220))))))))))

-- a jump to its own address
abbrev pub circle : List ℕ
circle = record_of 5 0 0 0 254 0 254 0 ++ trailer 20

abbrev pub refusal : Result Contents LoadFault → Option Refusal
refusal (Ok p) = None
refusal (Err e) = Some (load_refusal e)

abbrev pub answer : List ℕ → List ℕ → Option Refusal
answer im bud = refusal (verdict pitch_sheet im bud)

-- one tick in each of four windows
abbrev pub four : ℕ → ℕ → ℕ
four last k = slice_index (2 ∷ 3 ∷ 7 ∷ last ∷ []) k

pub record CheckFigures : Type 0 where
  -- the lone return is accepted; with its last byte E4 it has the wrong mark
  pub lone_accepted : answer lone (1 ∷ 1 ∷ []) ≡ None
  pub wrong_mark : answer (slice_set lone 27 0xe4) (1 ∷ 1 ∷ []) ≡ Some (record { number = 2; place = 26; layer = image })
  -- the two-rate program fits with budgets 12 and 4, and one tick more does not
  pub two_rate_accepted : answer two_rate (12 ∷ 4 ∷ []) ≡ None
  pub overload : answer two_rate (13 ∷ 4 ∷ []) ≡ Some (record { number = 11; place = 1; layer = load })
  -- a release window of 241
  pub long_window : answer (slice_set two_rate 62 241) (12 ∷ 4 ∷ []) ≡ Some (record { number = 6; place = 3; layer = image })
  -- task 0 of row 7 as 10, 9: what the future at 5 leaves does not flow into it
  pub mistyped : answer (slice_set two_rate 145 9) (12 ∷ 4 ∷ []) ≡ Some (record { number = 9; place = 5; layer = check })
  pub jump_to_itself : answer circle (1 ∷ 1 ∷ []) ≡ Some (record { number = 8; place = 0; layer = image })
  -- 1/2 + 1/3 + 1/7 + 1/42 is 1; with 41 for 42 it is 1,723/1,722
  pub one_fits : fits 4 (four 42) (λ k. 1) ≡ true
  pub exactly_one : parts 4 (four 42) (λ k. 1) ≡ whole 4 (four 42)
  pub a_hair_more : fits 4 (four 41) (λ k. 1) ≡ false
  pub parts_of : parts 4 (four 41) (λ k. 1) ≡ 1723
  pub whole_of : whole 4 (four 41) ≡ 1722
