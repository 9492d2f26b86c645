-- The frame of `vecop`'s input: three parts, each after its length. Assumes nothing.
use Rattle.std.specs.Prelude.{ℕ, cond, List, [], ◌∷◌, leb, length, take, drop}
use Rattle.model.specs.Vector.{four_bytes_at}

-- a part, and what follows it; or a length or a part cut short
pub data Part : Type 0 where
  cut_part : Part
  part : List ℕ → List ℕ → Part

abbrev pub part_of : ℕ → List ℕ → Part
part_of n s = cond (leb n (length s)) (part (take n s) (drop n s)) cut_part

-- 01: each after its length (4 bytes)
unfoldable pub read_part : List ℕ → Part
read_part s = cond (leb 4 (length s)) (part_of (four_bytes_at s 0) (drop 4 s)) cut_part

pub data Framed : Type 0 where
  unreadable : Framed
  three : List ℕ → List ℕ → List ℕ → Framed  -- query, left, right

abbrev pub on_part : Part → (List ℕ → List ℕ → Framed) → Framed
on_part cut_part f = unreadable
on_part (part x rest) f = f x rest

abbrev pub ending : List ℕ → List ℕ → List ℕ → List ℕ → Framed
ending q l r [] = three q l r
ending q l r (x ∷ s) = unreadable

abbrev pub max_input : ℕ
max_input = 65536

-- 01: Input too long, a length or part cut short, or bytes after the third part print `unreadable`
unfoldable pub framed : List ℕ → Framed
framed s =
    cond (leb (length s) max_input)
    (on_part (read_part s) (λ q s₁. on_part (read_part s₁) (λ l s₂. on_part (read_part s₂) (λ r s₃. ending q l r s₃))))
    unreadable
