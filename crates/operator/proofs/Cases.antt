-- A law for a `match` on an operator. Assumes nothing.
use mathlib.Core.Path.{◌≡◌, refl, sym, ◌∙◌, ap}
use mathlib.Core.Bool.{Bool, true, false, ◌&&◌, beq}
use mathlib.Core.List.{List, [], ◌∷◌}
use mathlib.Core.Logic.{inl, inr}
use Prim.Native.Nat.{ℕ}
use lib.Dec.{T}
use lib.ListN.{get_or}
use types.Run.{OneOf}
use denote.Enum.Declared.{tag_of}
use Rattle.operator.specs.declared.Operator.{Operator}
use Rattle.operator.specs.declared.Operator.TheVariants.{Add, And, Atan2, Default, Div, Eql, Mod, Mul, Pow, Sub, Gt, Gte, If, IfNot, Lt, Lte}
use Rattle.operator.specs.declared.Operator.TheVariants.{NotEq, Or, Unless}
use Rattle.operator.specs.Operators.{operators}
use Rattle.operator.specs.contracts.Operator.{the_type}

abbrev numbered : ℕ → Operator
numbered k = get_or operators k Add

numbered_tag : (o : Operator) → numbered (tag_of the_type o) ≡ o
numbered_tag Add = refl
numbered_tag And = refl
numbered_tag Atan2 = refl
numbered_tag Default = refl
numbered_tag Div = refl
numbered_tag Eql = refl
numbered_tag Mod = refl
numbered_tag Mul = refl
numbered_tag Pow = refl
numbered_tag Sub = refl
numbered_tag Gt = refl
numbered_tag Gte = refl
numbered_tag If = refl
numbered_tag IfNot = refl
numbered_tag Lt = refl
numbered_tag Lte = refl
numbered_tag NotEq = refl
numbered_tag Or = refl
numbered_tag Unless = refl

-- the test f says b at each of the numbers
abbrev every : (Operator → Bool) → Bool → List ℕ → Bool
every f b [] = true
every f b (k ∷ ks) = beq b (f (numbered k)) && every f b ks

and_both : (a b : Bool) → T (a && b) → T a × T b
and_both true true t = (tt, tt)
and_both true false t = absurd t
and_both false b t = absurd t

beq_same : (a b : Bool) → T (beq a b) → a ≡ b
beq_same true true t = refl
beq_same true false t = absurd t
beq_same false true t = absurd t
beq_same false false t = refl

at_one : (f : Operator → Bool) (b : Bool) (k : ℕ) (ks : List ℕ) → T (every f b (k ∷ ks)) → (o : Operator) → tag_of the_type o ≡ k → b ≡ f o
at_one f b k ks t o h =
    beq_same b (f (numbered k)) (and_both (beq b (f (numbered k))) (every f b ks) t).0 ∙ ap (λ (n : ℕ). f (numbered n)) (sym h) ∙ ap f (numbered_tag o)

-- an arm of several operators, by their numbers: what f is computed to be at each, it is of the operator there
pub by_numbers : (f : Operator → Bool) (b : Bool) (ks : List ℕ) → T (every f b ks) → (o : Operator) → OneOf ks (tag_of the_type o) → b ≡ f o
by_numbers f b [] t o h = absurd h
by_numbers f b (k ∷ []) t o h = at_one f b k [] t o h
by_numbers f b (k ∷ k' ∷ ks) t o (inl h) = at_one f b k (k' ∷ ks) t o h
by_numbers f b (k ∷ k' ∷ ks) t o (inr h) = by_numbers f b (k' ∷ ks) (and_both (beq b (f (numbered k))) (every f b (k' ∷ ks)) t).1 o h
