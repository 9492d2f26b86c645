-- A plan told and carried out: its clash, or the answer of its codes. Assumes nothing.
use Prim.Native.Nat.{ℕ, ◌+◌, ◌≤◌, ◌<◌}
use mathlib.Core.Path.{◌≡◌, refl, sym, ap}
use mathlib.Core.Option.{Option, none, some}
use mathlib.Core.List.{List, map}
use native.Mathlib.Omega.{arith}
use lib.ListN.{length, take, drop}
use lib.Seq.{sets, sets-eq, take_at}
use Rattle.model.specs.Limits.{max_series}
use Rattle.model.specs.Vector.{Series, Shape}
use Rattle.semantics.specs.Events.{Duplicate}
use Rattle.semantics.specs.Call.{fit}
use Rattle.plan.specs.Conclude.{conclude}
use Rattle.std.specs.Prelude.{Result, Ok, Err}
use Rattle.answers.specs.declared.Answer.{Answer}
use Rattle.answers.specs.declared.Refusal.{Refusal}
use Rattle.answers.specs.declared.Refusal.TheVariants as R
use Rattle.answers.specs.declared.Twice.{Twice}
use Rattle.answers.specs.Outcomes.{Ran, refused_twice}
use Rattle.answers.specs.Plans.{rows, clashes, duplicate_of, wanted_plan, PlannedAs}
use Rattle.answers.proofs.Concluding.{ran_twice, ran_without_clash, ran_too_many}

clash_told : (clash : Option Duplicate) (codes : List ℕ) (d : Duplicate) → clashes d ≡ wanted_plan clash codes → clash ≡ some d
clash_told none codes d h = absurd (let z : ◌≡◌ {A = ℕ} 0 1 = cc in omega arith)
clash_told (some e) codes d h = cc

rows_told : (clash : Option Duplicate) (codes : List ℕ) (n : ℕ) → rows n ≡ wanted_plan clash codes → (clash ≡ none) × (n ≡ length codes)
rows_told none codes n h = (refl, cc)
rows_told (some e) codes n h = absurd (let z : ◌≡◌ {A = ℕ} 0 1 = cc in omega arith)

-- a plan told: a clash, or codes noted from the start of a list

module _ (clash : Option Duplicate) (codes early before after : List ℕ) where
  pub plan_twice : (t : Twice) → clash ≡ some (duplicate_of t) → after ≡ sets before 0 early
      → PlannedAs clash codes early before after (Err t)
  plan_twice t h e = record { told = rw h; list = rw h e }

  pub plan_rows : clash ≡ none → (n : ℕ) → n ≡ length codes → after ≡ sets before 0 codes → PlannedAs clash codes early before after (Ok n)
  plan_rows h n c e = record { told = rw h (ap rows c); list = rw h e }

-- a plan carried out

module _ (clash : Option Duplicate) (codes early before after : List ℕ) (r : Result ℕ Twice) (w : PlannedAs clash codes early before after r) where
  -- its clash is the outcome
  pub planned_twice : (shape : Shape) (ss : List Series) (labels₀ out₀ : List ℕ) (twice : Twice) → r ≡ Err twice
      → Ran (conclude (length labels₀) (length out₀) shape clash ss) labels₀ out₀ labels₀ out₀ (Err (refused_twice twice))
  planned_twice shape ss labels₀ out₀ twice h =
      ran_twice shape labels₀ out₀ clash ss twice (clash_told clash codes (duplicate_of twice) (rw h at w.told))

  module _ (n : ℕ) (h : r ≡ Ok n) where
    told : (clash ≡ none) × (n ≡ length codes)
    told = rows_told clash codes n (rw h at w.told)

    pub planned_clear : clash ≡ none
    planned_clear = told.0

    pub planned_count : n ≡ length codes
    planned_count = told.1

    listed : after ≡ sets before 0 codes
    listed = rw planned_clear at w.list

    -- codes that the list has room for stand at its start
    pub planned_codes : n ≤ length before → take n after ≡ codes
    planned_codes room =
        let k : 0 + length codes ≤ length before = omega (arith, planned_count, room) in
        rw (listed, sets-eq codes before 0 k) (take_at codes (drop (0 + length codes) before) n (sym planned_count))

    -- more rows than an answer may have
    pub planned_too_many : (shape : Shape) (ss : List Series) (labels₀ out₀ : List ℕ) → length ss ≡ length codes → max_series < n
        → Ran (conclude (length labels₀) (length out₀) shape clash ss) labels₀ out₀ labels₀ out₀ (Err R.TooLarge)
    planned_too_many shape ss labels₀ out₀ e many =
        ran_without_clash shape labels₀ out₀ clash ss labels₀ out₀ (Err R.TooLarge) planned_clear
        (ran_too_many shape labels₀ out₀ ss (omega (arith, e, planned_count, many)))

    -- the answer of the rows is that of the series that they stand for
    pub planned_answer : (shape : Shape) (S : ℕ → Series) (ks : List ℕ) (ss : List Series) (labels₀ out₀ labels out : List ℕ) (x : Result Answer Refusal) → map S ks ≡ ss
        → Ran (fit (length labels₀) (length out₀) shape (map S ks)) labels₀ out₀ labels out x
        → Ran (conclude (length labels₀) (length out₀) shape clash ss) labels₀ out₀ labels out x
    planned_answer shape S ks ss labels₀ out₀ labels out x e a =
        ran_without_clash shape labels₀ out₀ clash ss labels out x planned_clear (rw (← e) a)
