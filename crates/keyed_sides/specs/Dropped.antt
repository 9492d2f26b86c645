-- Key numbers with the series that have only missing readings taken out. Assumes nothing.
use Rattle.std.specs.Prelude.{ℕ, zero, suc, ◌*◌, ◌<◌, ◌≡◌, refl, false, cond, List, [], ◌∷◌, eqb, length, get_or, take, drop}
use Rattle.std.proofs.Common.{sym, ap, ◌∙◌, zero-mul, suc-mul, add_comm, arith, drop-drop, ne_eqb}
use Rattle.model.specs.Row.{only_missing}
use Rattle.plan.specs.Keys.{dropped}
use Rattle.side_parts.specs.Sides.{row_at}

-- 01: first drops series with only N
abbrev pub kept_number : List ℕ → ℕ → ℕ
kept_number row k = cond (only_missing row) dropped k

unfoldable pub dropped_missing : ℕ → List ℕ → List ℕ → List ℕ
dropped_missing p rows [] = []
dropped_missing p rows (k ∷ ks) = kept_number (take p rows) k ∷ dropped_missing p (drop p rows) ks

-- a series with only missing readings has a number that no key has

pub dropped_count : (p : ℕ) (rows keys : List ℕ) → length (dropped_missing p rows keys) ≡ length keys
unfolding dropped_missing
dropped_count p rows [] = refl
dropped_count p rows (k ∷ ks) = ap suc (dropped_count p (drop p rows) ks)

pub dropped_at : (p : ℕ) (rows keys : List ℕ) (i : ℕ) → i < length keys → get_or (dropped_missing p rows keys) i 0 ≡ kept_number (row_at p rows i) (get_or keys i 0)
unfolding dropped_missing
dropped_at p rows [] i h = absurd (omega arith)
dropped_at p rows (k ∷ ks) zero h = rw (zero-mul p)
dropped_at p rows (k ∷ ks) (suc i) h =
    let next : drop (suc i * p) rows ≡ drop (i * p) (drop p rows) =
    ap (λ (n : ℕ). drop n rows) (suc-mul i p ∙ add_comm (i * p) p) ∙ sym (drop-drop (i * p) p rows) in
    rw next (dropped_at p (drop p rows) ks i (omega arith))

pub dropped_apart : (k : ℕ) → k < 1024 → eqb k dropped ≡ false
dropped_apart k h = ne_eqb k dropped (λ e. absurd (omega (arith, e)))
