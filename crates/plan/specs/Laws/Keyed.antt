-- The series that a rule sees, by their key numbers. Assumes nothing.
use Rattle.std.specs.Prelude.{ℕ, zero, suc, ◌+◌, ◌≡◌, refl, Bool, true, false, not, ◌&&◌, List, [], ◌∷◌, eqb}
use Rattle.std.proofs.Common.{sym, ap, ◌∙◌, append-nil, arith}
use Rattle.model.specs.Lists.{cases, keep}
use Rattle.model.proofs.Laws.Lists.{keep_append, keep_cong, All-each}
use Rattle.model.proofs.Laws.Booleans.{and_true}
use Rattle.model.specs.Query.{Query, Side, left, right, same_key}
use Rattle.model.specs.Vector.{Series}
use Rattle.semantics.specs.Laws.Places.{on_same}
use Rattle.semantics.specs.Places.{Placed, numbered, placed}
use Rattle.semantics.specs.Events.{of_key}
use Rattle.semantics.specs.Rules.{on_side, of_side, has_readings}
use Rattle.plan.specs.Keys.{dropped, keyed}

-- a test of series told by their numbers: it holds just where the number is k
abbrev pub ToldBy : (Series → Bool) → ℕ → List ℕ → List Series → Type 0
ToldBy f k [] [] = Unit {0}
ToldBy f k [] (b ∷ bs) = ⊥
ToldBy f k (x ∷ xs) [] = ⊥
ToldBy f k (x ∷ xs) (b ∷ bs) = (f b ≡ eqb x k) × ToldBy f k xs bs

-- what passes such a test, of a side numbered from i on
pub told_keyed : (side : Side) (f : Series → Bool) (k i : ℕ) (g : ℕ → ℕ) (xs : List ℕ) (bs : List Series) → ((j : ℕ) → g j ≡ i + j) → ToldBy f k xs bs
    → keep (λ x. f x.series) (numbered side g bs) ≡ keyed side k i xs bs
unfolding keyed
told_keyed side f k i g [] [] h t = refl
told_keyed side f k i g [] (b ∷ bs) h t = absurd t
told_keyed side f k i g (x ∷ xs) [] h t = absurd t
told_keyed side f k i g (x ∷ xs) (b ∷ bs) h t =
    let first : g zero ≡ i = h zero ∙ (omega arith) in
    let rest = told_keyed side f k (suc i) (λ j. g (suc j)) xs bs (λ j. h (suc j) ∙ (omega arith)) t.1 in
    cases (eqb x k)
    (λ e. rw (t.0, e, first, rest))
    (λ e. rw (t.0, e, rest))

-- tests one behind the other

keep_both : (p q : Placed → Bool) (xs : List Placed) → keep p (keep q xs) ≡ keep (λ x. q x && p x) xs
keep_both p q [] = refl
keep_both p q (x ∷ xs) =
    cases (q x)
    (λ e. cases (p x) (λ f. rw (e, f, keep_both p q xs)) (λ f. rw (e, f, keep_both p q xs)))
    (λ e. rw (e, keep_both p q xs))

side_all : (s : Side) (p : Placed → Bool) (g : ℕ → ℕ) (bs : List Series) → of_side s (keep p (numbered s g bs)) ≡ keep p (numbered s g bs)
side_all s p g [] = refl
side_all s p g (b ∷ bs) =
    cases (p (record { place = record { side = s; number = g zero }; series = b }))
    (λ e. rw (e, on_same s, side_all s p (λ j. g (suc j)) bs))
    (λ e. rw (e, side_all s p (λ j. g (suc j)) bs))

side_none : (s t : Side) → on_side s t ≡ false → (p : Placed → Bool) (g : ℕ → ℕ) (bs : List Series) → of_side s (keep p (numbered t g bs)) ≡ []
side_none s t h p g [] = refl
side_none s t h p g (b ∷ bs) =
    cases (p (record { place = record { side = t; number = g zero }; series = b }))
    (λ e. rw (e, h, side_none s t h p (λ j. g (suc j)) bs))
    (λ e. rw (e, side_none s t h p (λ j. g (suc j)) bs))

-- the left and the right series that pass a test, of a call's
module _ (ls rs : List Series) (p : Placed → Bool) where
  lefts_of : of_side left (keep p (placed ls rs)) ≡ keep p (numbered left (λ i. i) ls)
  lefts_of =
      ap (of_side left) (keep_append p (numbered left (λ i. i) ls) (numbered right (λ i. i) rs))
      ∙ keep_append (λ x. on_side left x.place.side) (keep p (numbered left (λ i. i) ls)) (keep p (numbered right (λ i. i) rs))
      ∙ rw (side_all left p (λ i. i) ls, side_none left right refl p (λ i. i) rs) (append-nil (keep p (numbered left (λ i. i) ls)))

  rights_of : of_side right (keep p (placed ls rs)) ≡ keep p (numbered right (λ i. i) rs)
  rights_of =
      ap (of_side right) (keep_append p (numbered left (λ i. i) ls) (numbered right (λ i. i) rs))
      ∙ keep_append (λ x. on_side right x.place.side) (keep p (numbered left (λ i. i) ls)) (keep p (numbered right (λ i. i) rs))
      ∙ rw (side_none right left refl p (λ i. i) ls, side_all right p (λ i. i) rs)

-- which series take part: all of them, or under arithmetic those with readings
abbrev pub takes_part : Bool → Series → Bool
takes_part false b = true
takes_part true b = has_readings b

-- the series of the key of b that take part
abbrev pub seen_by : Query → Bool → Series → Series → Bool
seen_by q drops b c = same_key q b.labels c.labels && takes_part drops c

-- a series b with the number k: what it sees is told by the numbers, unless it takes no part
pub record Sees (q : Query) (drops : Bool) (ls rs : List Series) (ks ms : List ℕ) (b : Series) (k : ℕ) : Type 0 where
  pub takes : takes_part drops b ≡ not (eqb k dropped)
  pub lefts : takes_part drops b ≡ true → ToldBy (seen_by q drops b) k ks ls
  pub rights : takes_part drops b ≡ true → ToldBy (seen_by q drops b) k ms rs

abbrev pub EachSees : (Series → ℕ → Type 0) → List Series → List ℕ → Type 0
EachSees P [] [] = Unit {0}
EachSees P [] (k ∷ ks) = ⊥
EachSees P (b ∷ bs) [] = ⊥
EachSees P (b ∷ bs) (k ∷ ks) = P b k × EachSees P bs ks

-- the numbers ks and ms of the two sides' series tell their keys
pub record Numbers (q : Query) (drops : Bool) (ls rs : List Series) (ks ms : List ℕ) : Type 0 where
  pub of_lefts : EachSees (Sees q drops ls rs ks ms) ls ks
  pub of_rights : EachSees (Sees q drops ls rs ks ms) rs ms

module _ (q : Query) (ls rs : List Series) (ks ms : List ℕ) (b : Series) (k : ℕ) where
  -- arithmetic drops first, and a rule then sees what is left
  module _ (s : Sees q true ls rs ks ms b k) (part : has_readings b ≡ true) where
    dropped_seen : keep (λ x. has_readings x.series) (of_key (same_key q) b.labels (placed ls rs))
        ≡ keep (λ x. seen_by q true b x.series) (placed ls rs)
    dropped_seen = keep_both (λ x. has_readings x.series) (λ x. same_key q b.labels x.series.labels) (placed ls rs)

    pub kept_lefts : of_side left (keep (λ x. has_readings x.series) (of_key (same_key q) b.labels (placed ls rs)))
        ≡ keyed left k 0 ks ls
    kept_lefts =
        ap (of_side left) dropped_seen ∙ lefts_of ls rs (λ x. seen_by q true b x.series)
        ∙ told_keyed left (seen_by q true b) k 0 (λ i. i) ks ls (λ j. omega arith) (s.lefts part)

    pub kept_rights : of_side right (keep (λ x. has_readings x.series)
        (of_key (same_key q) b.labels (placed ls rs))) ≡ keyed right k 0 ms rs
    kept_rights =
        ap (of_side right) dropped_seen ∙ rights_of ls rs (λ x. seen_by q true b x.series)
        ∙ told_keyed right (seen_by q true b) k 0 (λ i. i) ms rs (λ j. omega arith) (s.rights part)

  -- the others see all
  module _ (s : Sees q false ls rs ks ms b k) where
    all_seen : of_key (same_key q) b.labels (placed ls rs) ≡ keep (λ x. seen_by q false b x.series) (placed ls rs)
    all_seen = keep_cong (λ x. same_key q b.labels x.series.labels) (λ x. seen_by q false b x.series) (placed ls rs)
        (All-each (λ x. sym (and_true (same_key q b.labels x.series.labels))) (placed ls rs))

    pub all_lefts : of_side left (of_key (same_key q) b.labels (placed ls rs)) ≡ keyed left k 0 ks ls
    all_lefts =
        ap (of_side left) all_seen ∙ lefts_of ls rs (λ x. seen_by q false b x.series)
        ∙ told_keyed left (seen_by q false b) k 0 (λ i. i) ks ls (λ j. omega arith) (s.lefts refl)

    pub all_rights : of_side right (of_key (same_key q) b.labels (placed ls rs)) ≡ keyed right k 0 ms rs
    all_rights =
        ap (of_side right) all_seen ∙ rights_of ls rs (λ x. seen_by q false b x.series)
        ∙ told_keyed right (seen_by q false b) k 0 (λ i. i) ms rs (λ j. omega arith) (s.rights refl)
