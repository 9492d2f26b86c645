-- `try_lead`, `check_leads`, `list_lead` and `list_leads`. Assumes nothing.
use Prim.Native.Nat.{ℕ, zero, suc, ◌+◌, ◌-◌, ◌*◌, ◌/◌, ◌≤◌, ◌<◌}
use mathlib.Core.Path.{◌≡◌, refl, sym, ap, subst, ◌∙◌}
use mathlib.Core.Bool.{true, false, cond}
use mathlib.Core.Option.{none, some}
use mathlib.Core.List.{List, [], ◌∷◌}
use native.Mathlib.Numerals.{add-one}
use native.Mathlib.Omega.{arith}
use lib.Dec.{eqb, ltb}
use lib.ListN.{length, get_or, take, drop, length-set, length-take, length-drop, drop_of_length-le}
use lib.Seq.{drop-cons, get_or-take, get_or-drop, get_or-set_same, get_or-set_other, length-take-le}
use borrow.Author.Tests.{eq-eqb, ne_eqb, ltb-true, ltb-false}
use Rattle.model.specs.Lists.{cases}
use Rattle.model.specs.Row.{merged}
use Rattle.model.specs.Query.{Side}
use Rattle.plan.specs.Keys.{dropped}
use Rattle.plan.specs.Conclude.{or_else}
use Rattle.plan.specs.Merging.{RowMerge, row, failed_at, on_row, merge_group, merge_lead, clash}
use Rattle.side_parts.specs.Sides.{row_at}
use Rattle.plan.specs.Joins.{leads_clash, lead_rows, row_code, one_place}
use Rattle.std.specs.Prelude.{Result, Ok, Err, ⊤, MatchResult, IsErrAnd}
use Rattle.merging.specs.declared.Unmerged.{Unmerged}
use Rattle.answers.specs.declared.Clash.{Clash}
use Rattle.index_lists.specs.Places.{NotedAll}
use Rattle.index_lists.proofs.Noting.{Noting, noting_starts, noting_turn, noting_ends}
use Rattle.row_marks.specs.Words.{ChangedIn, word_count, WordsPut, members_to, MarksAt}
use Rattle.row_marks.specs.WordLaws.{row_marks}
use Rattle.join_plan.specs.lead_marks.Marks.{LastAt, LastsNoted}
use Rattle.join_plan.specs.join_leads.Checks.{TriedFrom, TriedAs, clash_as, LedAs, ClashOf, CodesFit, RowFits}
use Rattle.join_plan.specs.join_leads.Checks.{RowsListed}

module _ (allowance p : ℕ) (rows : List ℕ) where
  pub none_merge : (g : ℕ) (groups : List ℕ) (i : ℕ) (d : List ℕ)
      → ((j : ℕ) → j < length groups → eqb (get_or groups j 0) g ≡ false)
      → merge_group allowance p rows g i groups d ≡ row d
  unfolding merge_group
  none_merge g [] i d h = refl
  none_merge g (x ∷ groups) i d h =
      rw (h 0 (omega arith)) (none_merge g groups (suc i) d (λ j w. h (suc j) (omega (arith, w))))

  -- groups that begin alike merge alike, where the rest has none of the group
  merge_front : (g : ℕ) (xs ys : List ℕ) (i : ℕ) (d : List ℕ) → length ys ≤ length xs
      → ((j : ℕ) → j < length ys → get_or xs j 0 ≡ get_or ys j 0)
      → ((j : ℕ) → length ys ≤ j → j < length xs → eqb (get_or xs j 0) g ≡ false)
      → merge_group allowance p rows g i xs d ≡ merge_group allowance p rows g i ys d
  unfolding merge_group
  merge_front g [] [] i d l same rest = refl
  merge_front g [] (y ∷ ys) i d l same rest = absurd (omega arith)
  merge_front g (x ∷ xs) [] i d l same rest = none_merge g (x ∷ xs) i d (λ j w. rest j (omega arith) w)
  merge_front g (x ∷ xs) (y ∷ ys) i d l same rest =
      let later : (d : List ℕ) → merge_group allowance p rows g (suc i) xs d
      ≡ merge_group allowance p rows g (suc i) ys d =
      λ d. merge_front g xs ys (suc i) d (omega arith) (λ j w. same (suc j) (omega arith))
      (λ j w v. rest (suc j) (omega arith) (omega arith)) in
      rw (same 0 (omega arith))
      (cases (eqb y g) (λ e. rw e (both (merged allowance d (row_at p rows i)) later)) (λ e. rw e (later d)))
    where
      both : (o : _)
          → ((d : List ℕ)
          → merge_group allowance p rows g (suc i) xs d ≡ merge_group allowance p rows g (suc i) ys d)
          → on_row o (failed_at i d) (merge_group allowance p rows g (suc i) xs)
          ≡ on_row o (failed_at i d) (merge_group allowance p rows g (suc i) ys)
      both none later = refl
      both (some e) later = later e

  -- `try_lead`

  -- a leader without others behind it is its row
  lead_alone : (leads : List ℕ) (o : ℕ) → merge_lead allowance p rows (take (o + 1) leads) o ≡ row (row_at p rows o)
  unfolding merge_lead
  lead_alone leads o =
      rw (drop_of_length-le (take (o + 1) leads) (short o))
      (none_merge o [] (suc o) (row_at p rows o) (λ j w. absurd (omega (arith, w))))
    where
      short : (o : ℕ) → length (take (o + 1) leads) ≤ suc o
      short o = simp length-take (omega arith)

  pub tried_alone : (leads : List ℕ) (o l : ℕ) → l ≡ o
      → TriedAs (merge_lead allowance p rows (take (l + 1) leads) o) (Ok tt)
  tried_alone leads o l e = record { answer = rw (e, lead_alone leads o) refl }

-- the definitions, step by step

module _ (allowance p : ℕ) (rows leads : List ℕ) where
  pub clash_test : (side : Side) (o x : ℕ) (rest : List ℕ) → leads_clash allowance p rows side leads o (x ∷ rest)
      ≡ or_else (cond (eqb x o) (clash side o (merge_lead allowance p rows leads o)) none)
      (leads_clash allowance p rows side leads (suc o) rest)
  unfolding leads_clash
  clash_test side o x rest = refl

  pub clash_none : (side : Side) (o : ℕ) → leads_clash allowance p rows side leads o [] ≡ none
  unfolding leads_clash
  clash_none side o = refl

  clash_step : (side : Side) (n : ℕ) → n < length leads → leads_clash allowance p rows side leads n (drop n leads)
      ≡ or_else (cond (eqb (get_or leads n 0) n) (clash side n (merge_lead allowance p rows leads n)) none)
      (leads_clash allowance p rows side leads (n + 1) (drop (n + 1) leads))
  clash_step side n h = rw (drop-cons leads n 0 h, add-one n) (clash_test side n (get_or leads n 0) (drop (suc n) leads))

pub rows_none : (m o : ℕ) → lead_rows m o [] ≡ []
unfolding lead_rows
rows_none m o = refl

pub rows_test : (m o x : ℕ) (rest : List ℕ)
    → lead_rows m o (x ∷ rest) ≡ cond (eqb x o) (row_code m o ∷ lead_rows m (suc o) rest) (lead_rows m (suc o) rest)
unfolding lead_rows
rows_test m o x rest = refl

rows_step : (m o : ℕ) (leads : List ℕ) → o < length leads
    → lead_rows m o (drop o leads)
    ≡ cond (eqb (get_or leads o 0) o) (row_code m o ∷ lead_rows m (o + 1) (drop (o + 1) leads))
    (lead_rows m (o + 1) (drop (o + 1) leads))
rows_step m o leads h = rw (drop-cons leads o 0 h, add-one o) (rows_test m o (get_or leads o 0) (drop (suc o) leads))

-- leaders of all places, of which those from first on stand in `leads`
module _ (all : List ℕ) (first : ℕ) (leads : List ℕ) (led : LedAs all first leads) where
  no_lead : (i : ℕ) → i < length all → get_or all i 0 ≡ dropped → eqb (get_or all i 0) i ≡ false
  no_lead i h e = ne_eqb (get_or all i 0) i (λ z. omega (arith, e, z, h, led.few))

  -- none behind a leader's last place has it
  none_behind : (o l : ℕ) → first ≤ o → LastAt leads (length leads) o l → (j : ℕ) → l < j → j < length all
      → eqb (get_or all j 0) o ≡ false
  none_behind o l a last j h g =
      cases (ltb j (length leads))
      (λ e. (let b = ltb-true j (length leads) e in
      ap (λ x. eqb x o) (sym (led.same j (omega (arith, a, h, last.from)) b)) ∙ last.none j h b))
      (λ e. (let b = ltb-false j (length leads) e in
      ne_eqb (get_or all j 0) o
      (λ z. omega (arith, z, led.behind j b g, led.few, led.part, last.from, last.within))))

  step_past : (side : Side) (allowance p : ℕ) (rows : List ℕ) (n : ℕ) → n < length all → eqb (get_or all n 0) n ≡ false
      → leads_clash allowance p rows side all n (drop n all)
      ≡ leads_clash allowance p rows side all (n + 1) (drop (n + 1) all)
  step_past side allowance p rows n h e = clash_step allowance p rows all side n h ∙ rw e

  rows_past : (m n : ℕ) → n < length all → eqb (get_or all n 0) n ≡ false
      → lead_rows m n (drop n all) ≡ lead_rows m (n + 1) (drop (n + 1) all)
  rows_past m n h e = rows_step m n all h ∙ rw e

  -- so before first there is neither clash nor row

  clash_before_lem : (side : Side) (allowance p : ℕ) (rows : List ℕ) (n : ℕ) → n ≤ first → n ≤ length all
      → leads_clash allowance p rows side all 0 all ≡ leads_clash allowance p rows side all n (drop n all)
  clash_before_lem side allowance p rows zero h g = refl
  clash_before_lem side allowance p rows (suc n) h g =
      rw (← add-one n) (clash_before_lem side allowance p rows n (omega arith) (omega arith)
      ∙ step_past side allowance p rows n (omega arith)
      (no_lead n (omega arith) (led.before n (omega arith) (omega arith))))

  rows_before : (m n : ℕ) → n ≤ first → n ≤ length all → lead_rows m 0 all ≡ lead_rows m n (drop n all)
  rows_before m zero h g = refl
  rows_before m (suc n) h g =
      rw (← add-one n) (rows_before m n (omega arith) (omega arith)
      ∙ rows_past m n (omega arith) (no_lead n (omega arith) (led.before n (omega arith) (omega arith))))

  -- nor behind

  clash_behind : (side : Side) (allowance p : ℕ) (rows : List ℕ) (d n : ℕ) → length leads ≤ n → length all ≤ n + d
      → leads_clash allowance p rows side all n (drop n all) ≡ none
  clash_behind side allowance p rows zero n h g =
      let l : length all ≤ n = omega (arith, g) in
      rw (drop_of_length-le all l) (clash_none allowance p rows all side n)
  clash_behind side allowance p rows (suc d) n h g =
      cases (ltb n (length all))
      (λ e. (let l = ltb-true n (length all) e in
      step_past side allowance p rows n l (no_lead n l (led.behind n h l))
      ∙ clash_behind side allowance p rows d (n + 1) (omega arith) (omega arith)))
      (λ e. (let l = ltb-false n (length all) e in
      rw (drop_of_length-le all l) (clash_none allowance p rows all side n)))

  rows_behind : (m d n : ℕ) → length leads ≤ n → length all ≤ n + d → lead_rows m n (drop n all) ≡ []
  rows_behind m zero n h g =
      let l : length all ≤ n = omega (arith, g) in rw (drop_of_length-le all l) (rows_none m n)
  rows_behind m (suc d) n h g =
      cases (ltb n (length all))
      (λ e. (let l = ltb-true n (length all) e in
      rows_past m n l (no_lead n l (led.behind n h l)) ∙ rows_behind m d (n + 1) (omega arith) (omega arith)))
      (λ e. (let l = ltb-false n (length all) e in rw (drop_of_length-le all l) (rows_none m n)))

  -- the merges behind a leader go up to its last place
  lead_merge : (allowance p : ℕ) (rows : List ℕ) (o l : ℕ) → first ≤ o → LastAt leads (length leads) o l
      → merge_lead allowance p rows all o ≡ merge_lead allowance p rows (take (l + 1) leads) o
  unfolding merge_lead
  lead_merge allowance p rows o l a last =
      merge_front allowance p rows o (drop (suc o) all) (drop (suc o) (take (l + 1) leads)) (suc o) (row_at p rows o)
      (omega (arith, here, there, led.part, last.within))
      (λ j w. get_or-drop (suc o) all j 0
      ∙ sym (get_or-drop (suc o) (take (l + 1) leads) j 0
      ∙ get_or-take (l + 1) leads (suc o + j) 0 (omega (arith, w, there))
      ∙ led.same (suc o + j) (omega (arith, a)) (omega (arith, w, there, last.within))))
      (λ j w v. ap (λ x. eqb x o) (get_or-drop (suc o) all j 0)
      ∙ none_behind o l a last (suc o + j) (omega (arith, w, there)) (omega (arith, v, here)))
    where
      here : length (drop (suc o) all) ≡ length all - suc o
      here = length-drop (suc o) all

      there : length (drop (suc o) (take (l + 1) leads)) ≡ l + 1 - suc o
      there = length-drop (suc o) (take (l + 1) leads)
          ∙ ap (λ n. n - suc o) (length-take-le (l + 1) leads (omega (arith, last.within)))

-- `check_leads`

-- the merges before n are done, in a work row of p readings
pub record Checking (allowance p : ℕ) (rows : List ℕ) (first : ℕ) (leads lasts work : List ℕ) (n : ℕ) : Type 0 where
  pub wide : length work ≡ p
  pub noted : LastsNoted first leads lasts
  pub after : first ≤ n
  pub within : n ≤ length leads
  pub rest : (all : List ℕ) → LedAs all first leads → (side : Side)
      → leads_clash allowance p rows side all 0 all ≡ leads_clash allowance p rows side all n (drop n all)

module _ (allowance p : ℕ) (rows : List ℕ) (first : ℕ) (leads lasts : List ℕ) where
  pub check_starts : (work : List ℕ) → p ≡ length work → LastsNoted first leads lasts → first ≤ length leads
      → Checking allowance p rows first leads lasts work first
  check_starts work h noted order = record {
    wide = sym h;
    noted = noted;
    after = omega arith;
    within = order;
    rest = λ all led side. clash_before_lem all first leads led side allowance p rows first (omega arith)
        (omega (arith, order, led.part));
  }

  module _ (work : List ℕ) (n : ℕ) (s : Checking allowance p rows first leads lasts work n) where
    module _ (h : n < length leads) where
      pub check_past : (get_or leads n 0 ≡ n → ⊥) → Checking allowance p rows first leads lasts work (n + 1)
      check_past f = record {
        wide = s.wide;
        noted = s.noted;
        after = omega (arith, s.after);
        within = omega arith;
        rest = λ all led side. s.rest all led side
            ∙ step_past all first leads led side allowance p rows n (omega (arith, h, led.part))
            (ne_eqb (get_or all n 0) n (λ z. f (led.same n s.after h ∙ z)));
      }

      module _ (lead : get_or leads n 0 ≡ n) where
        last : LastAt leads (length leads) n (get_or lasts n 0)
        last = s.noted.each n s.after h lead

        pub last_inside : get_or lasts n 0 < length leads
        last_inside = last.within

        module _ (r : Result ⊤ Unmerged)
            (tried : TriedAs (merge_lead allowance (length work) rows (take (get_or lasts n 0 + 1) leads) n) r) where
          module _ (all : List ℕ) (led : LedAs all first leads) where
            step : (side : Side) → leads_clash allowance p rows side all n (drop n all)
                ≡ or_else (clash side n (merge_lead allowance p rows all n))
                (leads_clash allowance p rows side all (n + 1) (drop (n + 1) all))
            step side =
                clash_step allowance p rows all side n (omega (arith, h, led.part))
                ∙ rw (eq-eqb (get_or all n 0) n (sym (led.same n s.after h) ∙ lead))

            t : TriedAs (merge_lead allowance p rows all n) r
            t = rw (
              s.wide,
              ← lead_merge all first leads led allowance p rows n (get_or lasts n 0) s.after last,
            ) at tried

          -- the merges' failure told as a clash with the leader
          module _ (x : Result ⊤ Clash) (P : Unmerged → Clash → Type 0)
              (told : MatchResult r (λ v. x ≡ Ok v) (λ e. IsErrAnd x (P e))) where
            done_row : (side : Side) (r : Result ⊤ Unmerged) → MatchResult r (λ v. x ≡ Ok v) (λ e. IsErrAnd x (P e))
                → (v : ⊤) → x ≡ Ok v → (w : RowMerge) → TriedFrom w r → clash side n w ≡ none
            done_row side r m v e (row d) f = refl
            done_row side (Ok _) m v e (failed_at i d) f = cc
            done_row side (Err u) m v e (failed_at i d) f = elim (subst (λ y. IsErrAnd y (P u)) e m) [ ]

            pub check_done : (v : ⊤) → x ≡ Ok v → (work' : List ℕ) → length work' ≡ length work
                → Checking allowance p rows first leads lasts work' (n + 1)
            check_done v e work' g = record {
              wide = g ∙ s.wide;
              noted = s.noted;
              after = omega (arith, s.after);
              within = omega arith;
              rest = λ all led side. s.rest all led side ∙ step all led side
                  ∙ rw (done_row side r told v e (merge_lead allowance p rows all n) (t all led).answer);
            }

            failed_row : (tells : (u : Unmerged) (c : Clash) → P u c → c ≡ record { kept = n; failed = u.0 })
                → (side : Side) (r : Result ⊤ Unmerged) → MatchResult r (λ v. x ≡ Ok v) (λ e. IsErrAnd x (P e))
                → (c : Clash) → x ≡ Err c → (w : RowMerge) → TriedFrom w r → clash side n w ≡ clash_as side (Err c)
            failed_row tells side (Ok v) m c e (row d) f = cc
            failed_row tells side (Err u) m c e (row d) f = cc
            failed_row tells side (Ok v) m c e (failed_at j d) f = cc
            failed_row tells side (Err u) m c e (failed_at j d) f =
                let z : j ≡ u.0 = cc in
                rw (z, tells u c (subst (λ y. IsErrAnd y (P u)) e m))

            pub check_failed : ((u : Unmerged) (c : Clash) → P u c → c ≡ record { kept = n; failed = u.0 })
                → (c : Clash) → x ≡ Err c → ClashOf allowance p rows first leads (Err c)
            check_failed tells c e = record {
              each = λ all led side. s.rest all led side ∙ step all led side
                  ∙ rw (failed_row tells side r told c e (merge_lead allowance p rows all n) (t all led).answer);
            }

    pub work_held : length leads * p ≤ length rows → length leads * length work ≤ length rows
    work_held h = rw s.wide h

    pub check_ends : length leads ≤ n → ClashOf allowance p rows first leads (Ok tt)
    check_ends h = record {
      each = λ all led side. s.rest all led side
          ∙ clash_behind all first leads led side allowance p rows (length all) n h (omega arith);
    }

-- `list_leads`

-- the rows of the leaders before o are noted, and marked where no mark stood behind the n before
pub record Listing (m n first : ℕ) (leads lasts list₀ marks₀ list marks : List ℕ) (r o : ℕ) : Type 0 where
  pub noted : LastsNoted first leads lasts
  pub after : first ≤ o
  pub within : o ≤ length leads
  pub fit : CodesFit m n leads
  pub from : n ≤ r
  pub small : r ≤ n + o
  pub long : length list ≡ length list₀
  pub frame : ChangedIn (n * 8) (r * 8) marks₀ marks
  pub noting : (all : List ℕ) → LedAs all first leads
      → Noting (lead_rows m 0 all) n list₀ (lead_rows m o (drop o all)) r list
  pub marked : (all : List ℕ) → LedAs all first leads → ((i : ℕ) → n * 8 ≤ i → get_or marks₀ i 0 ≡ 0)
      → (k : ℕ) → n ≤ k → k < r → k < length list → k * 8 + 8 ≤ length marks₀
      → MarksAt all (one_place (get_or list k 0)) (k * 8) marks

module _ (m n first : ℕ) (leads lasts list₀ marks₀ : List ℕ) where
  pub listing_starts : LastsNoted first leads lasts → first ≤ length leads → CodesFit m n leads
      → Listing m n first leads lasts list₀ marks₀ list₀ marks₀ n first
  listing_starts noted order f = record {
    noted = noted;
    after = omega arith;
    within = order;
    fit = f;
    from = omega arith;
    small = omega arith;
    long = refl;
    frame = record { long = refl; below = λ i h. refl; above = λ i h. refl };
    noting = λ all led. rw (← rows_before all first leads led m first (omega arith) (omega (arith, order, led.part)))
        (noting_starts (lead_rows m 0 all) n list₀);
    marked = λ all led clean k a b. absurd (omega (arith, a, b));
  }

  module _ (list marks : List ℕ) (r o : ℕ) (s : Listing m n first leads lasts list₀ marks₀ list marks r o) where
    pub list_room : length list ≡ length list₀
    list_room = s.long

    pub marks_room : length marks ≡ length marks₀
    marks_room = s.frame.long

    module _ (h : o < length leads) where
      pub leads_small : length leads ≤ 512
      leads_small = s.fit.few

      pub row_fits : RowFits m o r
      row_fits = record {
        many = s.fit.place;
        one = omega (arith, s.fit.few);
        before = omega (arith, s.small, s.fit.place, s.fit.before, s.fit.few);
      }

      pub listing_past : (get_or leads o 0 ≡ o → ⊥) → Listing m n first leads lasts list₀ marks₀ list marks r (o + 1)
      listing_past f = record {
        noted = s.noted;
        after = omega (arith, s.after);
        within = omega arith;
        fit = s.fit;
        from = s.from;
        small = omega (arith, s.small);
        long = s.long;
        frame = s.frame;
        noting = λ all led. rw (rows_past all first leads led m o (omega (arith, h, led.part))
            (ne_eqb (get_or all o 0) o (λ z. f (led.same o s.after h ∙ z)))) at (s.noting all led);
        marked = s.marked;
      }

      module _ (lead : get_or leads o 0 ≡ o) where
        last_here : LastAt leads (length leads) o (get_or lasts o 0)
        last_here = s.noted.each o s.after h lead

        module _ (marks' : List ℕ) (put : WordsPut (members_to o (get_or lasts o 0) leads) o (r * 8) marks marks')
            (list' : List ℕ) (r' : ℕ) (row : NotedAll (row_code m o ∷ []) r list list' r') where
          more : r' ≡ r + 1
          more = row.count

          same_long : length list' ≡ length list
          same_long = ap length row.content ∙ length-set list r (row_code m o)

          words : word_count (length (members_to o (get_or lasts o 0) leads)) ≤ 8
          words = omega (arith, members, s.fit.few)
            where
              members : length (members_to o (get_or lasts o 0) leads) ≤ length leads
              members = simp (length-take, length-drop) (omega arith)

          module _ (all : List ℕ) (led : LedAs all first leads) where
            next : lead_rows m o (drop o all) ≡ row_code m o ∷ lead_rows m (o + 1) (drop (o + 1) all)
            next =
                rows_step m o all (omega (arith, h, led.part))
                ∙ rw (eq-eqb (get_or all o 0) o (sym (led.same o s.after h) ∙ lead))

            noting_next : Noting (lead_rows m 0 all) n list₀ (lead_rows m (o + 1) (drop (o + 1) all)) r' list'
            noting_next =
                noting_turn (lead_rows m 0 all) n list₀ true (row_code m o) r list list'
                (lead_rows m (o + 1) (drop (o + 1) all)) r'
                (rw next at (s.noting all led))
                (record { count = more; content = row.content })

            module _ (clean : (i : ℕ) → n * 8 ≤ i → get_or marks₀ i 0 ≡ 0) where
              new_row : r < length list' → r * 8 + 8 ≤ length marks₀
                  → MarksAt all (one_place (get_or list' r 0)) (r * 8) marks'
              new_row l room =
                  let code : get_or list' r 0 ≡ row_code m o = ap (λ (y : List ℕ). get_or y r 0) row.content
                  ∙ get_or-set_same list r (row_code m o) 0 (omega (arith, l, same_long)) in
                  let one : one_place (get_or list' r 0) ≡ o = omega (arith, code, h, s.fit.few) in
                  rw one (row_marks all leads o (get_or lasts o 0) (r * 8) marks marks' put last_here.within
                  (none_behind all first leads led o (get_or lasts o 0) s.after last_here)
                  (omega (arith, last_here.within, led.part))
                  (λ i a b. led.same i (omega (arith, a, s.after)) (omega (arith, b, last_here.within)))
                  (λ i a. s.frame.above i a ∙ clean i (omega (arith, a, s.from)))
                  (omega (arith, room, s.frame.long)))

              old_row : (k : ℕ) → n ≤ k → k < r → k < length list' → k * 8 + 8 ≤ length marks₀
                  → MarksAt all (one_place (get_or list' k 0)) (k * 8) marks'
              old_row k a b l room =
                  let same : get_or list' k 0 ≡ get_or list k 0 = ap (λ (y : List ℕ). get_or y k 0) row.content
                  ∙ get_or-set_other list r k (row_code m o) 0 (λ z. omega (arith, z, b)) in
                  rw same (record {
                    each = λ j u. (let low : j / 64 < 8 = omega (arith, u) in
                        rw (put.frame.below (k * 8 + j / 64) (omega (arith, low, b)))
                        ((s.marked all led clean k a b (omega (arith, l, same_long)) room).each j u));
                  })

          pub listing_lead : Listing m n first leads lasts list₀ marks₀ list' marks' r' (o + 1)
          listing_lead = record {
            noted = s.noted;
            after = omega (arith, s.after);
            within = omega arith;
            fit = s.fit;
            from = omega (arith, s.from, more);
            small = omega (arith, s.small, more);
            long = same_long ∙ s.long;
            frame = record {
              long = put.frame.long ∙ s.frame.long;
              below = λ i a. put.frame.below i (omega (arith, a, s.from)) ∙ s.frame.below i a;
              above = λ i a. put.frame.above i (omega (arith, a, more, words))
                  ∙ s.frame.above i (omega (arith, a, more));
            };
            noting = noting_next;
            marked = λ all led clean k a b l room. cases (ltb k r)
                (λ y. old_row all led clean k a (ltb-true k r y) l room)
                (λ y. (let z : k ≡ r = (let g = ltb-false k r y in omega (arith, g, b, more)) in
                rw z (new_row all led clean (rw z at l) (rw z at room))));
          }

    pub listing_ends : length leads ≤ o → RowsListed m n first leads list₀ marks₀ list marks r
    listing_ends h = record {
      rows = λ all led.
          noting_ends (lead_rows m 0 all) n list₀ r list
          (rw (rows_behind all first leads led m (length all) o h (omega arith)) at (s.noting all led));
      marked = λ all led clean. record { frame = s.frame; marks = s.marked all led clean };
    }
