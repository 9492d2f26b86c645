-- The codes of an answer's rows listed: the left rows, then the right ones. Assumes nothing.
use Prim.Native.Nat.{ℕ, suc, ◌+◌, ◌≤◌, ◌<◌}
use mathlib.Core.Path.{◌≡◌, refl, sym, ap, ◌∙◌}
use mathlib.Core.Bool.{Bool, true, false, cond}
use mathlib.Core.List.{List, [], ◌∷◌, ◌++◌, map}
use native.Mathlib.Numerals.{add-one}
use native.Mathlib.Omega.{arith}
use lib.Dec.{eqb}
use lib.ListN.{length, get_or, drop, length-append, length-map, drop_of_length-le}
use lib.Seq.{drop-cons, sets, length-sets}
use borrow.Author.Tests.{lt-ltb, le-ltb}
use Rattle.model.specs.Limits.{max_series}
use Rattle.model.specs.Lists.{cases}
use Rattle.model.proofs.Laws.Booleans.{never}
use Rattle.model.proofs.Laws.Lists.{sets_append, map_append}
use Rattle.side_parts.specs.Sides.{row_at}
use Rattle.side_parts.specs.Lent.{Sides}
use Rattle.plan.specs.Keys.{first_of}
use Rattle.plan.specs.Sets.{SetWork, met_places, answers_at, lefts_from, rights_from}
use Rattle.side_parts.specs.SideLaws.{row_width}
use Rattle.end_codes.specs.Codes.{codes, both_code, side_first}
use Rattle.key_ends.specs.Ends.{SideEnds, side_first_lem, ends_at}
use Rattle.index_lists.specs.Places.{NotedIf, NotedAll}
use Rattle.index_lists.proofs.Noting.{noted_most, Noting, noting_turn, noting_ends}
use Rattle.set_series.proofs.Rows.{row_in}
use Rattle.set_plan.specs.Codes.{fallen, met_code, set_code, set_codes}
use Rattle.set_plan.specs.left_series.Answering.{met_by, Answered}
use Rattle.set_plan.specs.set_listing.Lists.{SetHeld, met_over, left_codes, right_codes, LeftsListed}
use Rattle.set_plan.proofs.Coding.{met_small, met_code_lem}

map_if : (f : ℕ → ℕ) (b : Bool) (x : ℕ) (xs : List ℕ) → map f (cond b (x ∷ xs) xs) ≡ cond b (f x ∷ map f xs) (map f xs)
map_if f true x xs = refl
map_if f false x xs = refl

-- what is met is listed within a part

over_length : (falls : Bool) (keys asked places : List ℕ) → length (met_over falls keys asked places) ≡ length places
unfolding met_over
over_length falls keys [] places = refl
over_length falls keys (k ∷ asked) places =
    over_length falls keys asked (sets places 0 (met_places falls keys k))
    ∙ length-sets places 0 (met_places falls keys k)

-- left rows

module _ (w : SetWork) (s : Sides) (places₀ before : List ℕ) where
  abbrev lefts_left : ℕ → List ℕ
  lefts_left i = left_codes w s i (drop i s.left.keys)

  pub record LeftListing (places : List ℕ) (n i : ℕ) (list : List ℕ) : Type 0 where
    pub reached : i ≤ length s.left.keys
    pub few : n ≤ i
    pub noting : Noting (left_codes w s 0 s.left.keys) 0 before (lefts_left i) n list
    pub over : met_over w.falls s.right.keys (drop i s.left.keys) places
        ≡ met_over w.falls s.right.keys s.left.keys places₀

  module _ (places : List ℕ) (n i : ℕ) (list : List ℕ) (inv : LeftListing places n i list) where
    pub left_ends : length s.left.keys ≤ i → LeftsListed w s places₀ places before list n
    unfolding lefts_from met_over
    left_ends h = record {
      codes =
          noting_ends (left_codes w s 0 s.left.keys) 0 before n list
          (rw (drop_of_length-le s.left.keys h) at inv.noting);
      met = rw (drop_of_length-le s.left.keys h) at inv.over;
    }

    module _ (held : SetHeld w.falls s) (h : i < length s.left.keys) (ends : List ℕ)
        (known : SideEnds s.right.keys s.left.keys ends) (e : ℕ)
        (told : e ≡ fallen w.falls (length s.right.keys) (get_or ends i 0)) where
      abbrev key : ℕ
      key = get_or s.left.keys i 0

      met_is : e ≡ met_code w.falls s.right.keys key
      met_is = told ∙ ap (fallen w.falls (length s.right.keys)) (known.each i h)

      pub met_fits : e < codes
      met_fits = rw met_is (met_small w.falls s.right.keys held.rows.right.few key)

      meets : met_by s.right.keys e ≡ met_places w.falls s.right.keys key
      meets =
          ap (met_by s.right.keys) met_is
          ∙ met_code_lem w.falls s.right.keys held.rows.right.few key held.some

      module _ (x : List ℕ) (row : x ≡ row_at s.shape.points s.left.rows i) where
        wide : length x ≡ s.shape.points
        wide =
            row_width s.shape.points s.left.rows x i
            (row_in s.shape.points s.left.keys s.left.rows i held.rows.left h) row

        module _ (places' : List ℕ) (here : Bool)
            (asked : Answered w.rule x s.right.keys s.right.rows e places places' here) where
          answers : here ≡ answers_at w s i key
          answers = asked.answers ∙ rw (meets, wide, row)

          code_is : set_code w s i ≡ both_code i e
          unfolding set_code
          code_is = rw (lt-ltb i (length s.left.keys) h, ← met_is)

          next : lefts_left i ≡ cond here (both_code i e ∷ lefts_left (i + 1)) (lefts_left (i + 1))
          unfolding lefts_from
          next = rw (drop-cons s.left.keys i 0 h, ← answers, map_if, code_is, add-one)

          over_next : met_over w.falls s.right.keys (drop (i + 1) s.left.keys) places'
              ≡ met_over w.falls s.right.keys (drop i s.left.keys) places
          unfolding met_over
          over_next = rw (drop-cons s.left.keys i 0 h, asked.listed, meets, add-one)

          pub left_turn : (code : ℕ) → code ≡ both_code i e → (later : List ℕ) (r : ℕ) → NotedIf here code n list later r
              → LeftListing places' r (i + 1) later
          left_turn code f later r q = record {
            reached = omega arith;
            few = noted_most here code n i list later r inv.few q;
            noting =
                noting_turn (left_codes w s 0 s.left.keys) 0 before here (both_code i e) n list later
                (lefts_left (i + 1)) r (rw next at inv.noting) (rw f at q);
            over = over_next ∙ inv.over;
          }

-- right rows

module _ (lkeys keys : List ℕ) (n₀ : ℕ) (before : List ℕ) where
  abbrev rights_left : ℕ → List ℕ
  rights_left j = right_codes lkeys j (drop j keys)

  pub record RightListing (n j : ℕ) (list : List ℕ) : Type 0 where
    pub reached : j ≤ length keys
    pub few : n ≤ n₀ + j
    pub noting : Noting (right_codes lkeys 0 keys) n₀ before (rights_left j) n list

  module _ (n j : ℕ) (list : List ℕ) (inv : RightListing n j list) where
    pub right_ends : length keys ≤ j → NotedAll (right_codes lkeys 0 keys) n₀ before list n
    unfolding rights_from
    right_ends h =
        noting_ends (right_codes lkeys 0 keys) n₀ before n list (rw (drop_of_length-le keys h) at inv.noting)

    module _ (h : j < length keys) (few : length lkeys ≤ max_series) (ends : List ℕ) (known : SideEnds lkeys keys ends)
        (f : ℕ) (told : f ≡ side_first (get_or ends j 0)) where
      first_here : f ≡ first_of lkeys (get_or keys j 0)
      first_here = told ∙ side_first_lem lkeys (get_or keys j 0) (get_or ends j 0) (ends_at lkeys keys ends few known j h)

      next_right : rights_left j
          ≡ cond (eqb f (length lkeys)) (both_code (length lkeys + j) 0 ∷ rights_left (j + 1)) (rights_left (j + 1))
      unfolding rights_from
      next_right = rw (drop-cons keys j 0 h, ← first_here, map_if, add-one)

      pub right_turn : (code : ℕ) → code ≡ both_code (length lkeys + j) 0 → (later : List ℕ) (r : ℕ)
          → NotedIf (eqb f (length lkeys)) code n list later r → RightListing r (j + 1) later
      right_turn code g later r q = record {
        reached = omega arith;
        few = omega (arith, noted_most (eqb f (length lkeys)) code n (n₀ + j) list later r inv.few q);
        noting =
            noting_turn (right_codes lkeys 0 keys) n₀ before (eqb f (length lkeys)) (both_code (length lkeys + j) 0) n
            list later (rights_left (j + 1)) r (rw next_right at inv.noting) (rw g at q);
      }

-- both

noted_both : (xs ys : List ℕ) (before mid after : List ℕ) (n r : ℕ) → NotedAll xs 0 before mid n
    → NotedAll ys n mid after r → NotedAll (xs ++ ys) 0 before after r
noted_both xs ys before mid after n r a b = record {
  count = omega (arith, a.count, b.count, length-append xs ys);
  content = b.content ∙ (rw (a.content, a.count) (sym (sets_append before 0 xs ys)));
}

module _ (w : SetWork) (s : Sides) where
  lefts_few : (i : ℕ) (rest : List ℕ) → length (lefts_from w s i rest) ≤ length rest
  unfolding lefts_from
  lefts_few i [] = omega arith
  lefts_few i (k ∷ rest) = go (answers_at w s i k) (lefts_few (suc i) rest)
    where
      go : (b : Bool) → length (lefts_from w s (suc i) rest) ≤ length rest
          → length (cond b (i ∷ lefts_from w s (suc i) rest) (lefts_from w s (suc i) rest)) ≤ suc (length rest)
      go true ih = omega arith
      go false ih = omega arith

  right_code_lem : (j : ℕ) → set_code w s (length s.left.keys + j) ≡ both_code (length s.left.keys + j) 0
  unfolding set_code
  right_code_lem j = rw (le-ltb (length s.left.keys + j) (length s.left.keys) (omega arith))

  rights_coded : (j : ℕ) (rest : List ℕ)
      → map (set_code w s) (rights_from s.left.keys j rest) ≡ right_codes s.left.keys j rest
  unfolding rights_from
  rights_coded j [] = refl
  rights_coded j (k ∷ rest) =
      cases (eqb (first_of s.left.keys k) (length s.left.keys))
      (λ t. rw (t, right_code_lem j, rights_coded (suc j) rest))
      (λ t. rw (t, rights_coded (suc j) rest))

  -- the left rows, and the right ones where they are added
  abbrev with_rights : Bool → List ℕ
  with_rights t = lefts_from w s 0 s.left.keys ++ cond t (rights_from s.left.keys 0 s.right.keys) []

  module _ (held : SetHeld w.falls s) (places places' before mid : List ℕ) (n : ℕ)
      (listed : LeftsListed w s places places' before mid n) where
    pub noted_few : n ≤ max_series
    noted_few =
        omega (
          arith,
          listed.codes.count,
          length-map (lefts_from w s 0 s.left.keys) (set_code w s),
          lefts_few 0 s.left.keys,
          held.rows.left.few,
        )

    pub rows_added : (after : List ℕ) (r : ℕ) → w.adds ≡ true
        → NotedAll (right_codes s.left.keys 0 s.right.keys) n mid after r
        → NotedAll (set_codes w s) 0 before after r
    rows_added after r e b = go w.adds e
      where
        go : (t : Bool) → t ≡ true → NotedAll (map (set_code w s) (with_rights t)) 0 before after r
        go true h =
            rw (map_append, rights_coded 0 s.right.keys)
            (noted_both (left_codes w s 0 s.left.keys) (right_codes s.left.keys 0 s.right.keys) before mid after
            n r listed.codes b)
        go false h = never h
