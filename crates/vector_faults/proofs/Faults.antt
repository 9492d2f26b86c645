-- A vector that is refused, or taken, and what comes of it. Assumes nothing.
use Prim.Native.Nat.{ℕ, ◌+◌, ◌-◌, ◌<◌}
use mathlib.Core.Path.{◌≡◌, refl, ap, subst}
use mathlib.Core.List.{List}
use native.Mathlib.Omega.{arith}
use lib.ListN.{length, take, drop}
use Rattle.std.specs.Prelude.{Result, Ok, Err, MatchResult, IsErrAnd}
use Rattle.model.specs.Limits.{sizes_length}
use Rattle.model.specs.Vector.{Shape, Vector, take_vector}
use Rattle.semantics.specs.Call as Call
use Rattle.semantics.specs.Call.{on_vector}
use Rattle.timeseries.specs.declared.Vector as Code
use Rattle.timeseries.specs.declared.VectorFault.{VectorFault}
use Rattle.timeseries.specs.declared.VectorFault.TheVariants as T
use Rattle.timeseries.specs.record_walk.Walks.{fault_number, fault_place}
use Rattle.timeseries.specs.Takes.{TakenInto}
use Rattle.timeseries.specs.TakeLaws.{taken_refused}
use Rattle.keyed_sides.specs.TakenSides.{lent_vector, Took}
use Rattle.answers.specs.declared.Answer.{Answer}
use Rattle.answers.specs.declared.Refusal.{Refusal}
use Rattle.answers.specs.Outcomes.{Ran, numbers, numbers_of}

pub numbered : (f : VectorFault) → 0 < fault_number f
numbered (T.Cut i) = omega arith
numbered (T.BadKey i) = omega arith
numbered T.Readings = omega arith
numbered T.BadGrid = omega arith

-- a vector that goes on is the one that is taken
pub told_vector : (t : Result Code.Vector VectorFault) (y : Result Code.Vector Refusal) (P : VectorFault → Refusal → Type 0)
    → MatchResult t (λ v. y ≡ Ok v) (λ e. IsErrAnd y (P e)) → (v : Code.Vector) → y ≡ Ok v → t ≡ Ok v
told_vector (Ok w) y P m v e = cc
told_vector (Err fault) y P m v e = elim (subst (λ y. IsErrAnd y (P fault)) e m) [ ]

-- a side that is refused ends the call; with one that is taken it goes on
module _ (side : ℕ) (s x : List ℕ) (f : Vector → Call.Outcome) (labels₀ out₀ : List ℕ) where
  ran_fault : (before after : List ℕ) (t : Result Code.Vector VectorFault) → TakenInto s x before t after
      → (fault : VectorFault) → t ≡ Err fault → (y : Refusal)
      → numbers_of y ≡ numbers (fault_number fault) side (fault_place fault)
      → Ran (on_vector (take_vector side s x) f) labels₀ out₀ labels₀ out₀ (Err y)
  ran_fault before after t into fault e y told =
      rw (taken_refused side s x t into.answer (rw e (numbered fault)), e)
      (record { outcome = ap Err told; label_part = refl; reading_part = refl })

  -- as the code tells it: y is t with the side
  pub ran_told : (before after : List ℕ) (t : Result Code.Vector VectorFault) → TakenInto s x before t after
      → (y : Result Code.Vector Refusal) (P : VectorFault → Refusal → Type 0)
      → MatchResult t (λ v. y ≡ Ok v) (λ e. IsErrAnd y (P e))
      → ((e : VectorFault) (r : Refusal) → P e r → numbers_of r ≡ numbers (fault_number e) side (fault_place e))
      → (r : Refusal) → y ≡ Err r → Ran (on_vector (take_vector side s x) f) labels₀ out₀ labels₀ out₀ (Err r)
  ran_told before after t into y P m tells r e = go t refl m
    where
      go : (u : Result Code.Vector VectorFault) → t ≡ u → MatchResult u (λ v. y ≡ Ok v) (λ e. IsErrAnd y (P e))
          → Ran (on_vector (take_vector side s x) f) labels₀ out₀ labels₀ out₀ (Err r)
      go (Ok v) h m = absurd (let z : ◌≡◌ {A = ℕ} 0 1 = cc in omega arith)
      go (Err fault) h m = ran_fault before after t into fault h r (tells fault r (subst (λ y. IsErrAnd y (P fault)) e m))

  pub ran_taken_lem : (after : List ℕ) (n : ℕ) (shape : Shape) → Took side s x after n shape → (d o : List ℕ) (y : Result Answer Refusal)
      → Ran (f (lent_vector shape (take (length s - sizes_length) (drop sizes_length s)) (take (n + 1) after) x))
      labels₀ out₀ d o y
      → Ran (on_vector (take_vector side s x) f) labels₀ out₀ d o y
  ran_taken_lem after n shape took d o y k = rw took.vector k
