-- A key with at most one series on the one side: no merge behind a leader, one answer row at most. Assumes nothing.
use Prim.Native.Nat.{ℕ, zero, suc, ◌+◌, ◌≤◌, ◌<◌}
use mathlib.Core.Path.{◌≡◌, refl, sym, ap, ◌∙◌}
use mathlib.Core.Bool.{true, false, cond}
use mathlib.Core.Option.{none}
use mathlib.Core.List.{List, [], ◌∷◌}
use native.Mathlib.Omega.{arith}
use lib.Dec.{eqb}
use lib.ListN.{length, get_or, drop, length-drop}
use lib.Seq.{get_or-drop, ext_get_or}
use borrow.Author.Tests.{eqb-true, eq-eqb, ne_eqb}
use Rattle.model.specs.Lists.{cases}
use Rattle.model.specs.Labels.{Labels}
use Rattle.model.specs.Query.{Side}
use Rattle.plan.specs.Keys.{dropped, first_of, last_of}
use Rattle.plan.specs.Pairs.{no_labels}
use Rattle.plan.specs.Merging.{row, merge_lead}
use Rattle.plan.specs.Joins.{Edit, same_edited_by, lead_of, leads_of, leads_clash, lead_rows, row_code}
use Rattle.plan.specs.Laws.Ends.{first_before, first_is, last_greatest}
use Rattle.plan.specs.Laws.Joins.{alike_refl}
use Rattle.side_parts.specs.Sides.{row_at}
use Rattle.join_plan.specs.place_plans.Places.{sole_leads}
use Rattle.join_plan.proofs.lead_marks.Leaders.{leads_among_long, leads_among_at}
use Rattle.join_plan.proofs.join_leads.Checking.{none_merge, clash_test, clash_none, rows_test, rows_none}

no : true ≡ false → ⊥
no e = let z : ◌≡◌ {A = ℕ} 0 1 = cc in omega arith

-- one leader at most

pub sole_long : (f i n : ℕ) → length (sole_leads f i n) ≡ n
unfolding sole_leads
sole_long f i zero = refl
sole_long f i (suc n) = ap suc (sole_long f (suc i) n)

sole_from : (f i n j : ℕ) → j < n → get_or (sole_leads f i n) j 0 ≡ cond (eqb (i + j) f) f dropped
unfolding sole_leads
sole_from f i zero j h = absurd (omega arith)
sole_from f i (suc n) zero h = let z : i + 0 ≡ i = omega arith in rw z
sole_from f i (suc n) (suc j) h = let z : i + suc j ≡ suc i + j = omega arith in
    rw z (sole_from f (suc i) n j (omega arith))

sole_at : (f n j : ℕ) → j < n → get_or (sole_leads f 0 n) j 0 ≡ cond (eqb j f) f dropped
sole_at f n j h = let z : 0 + j ≡ j = omega arith in sole_from f 0 n j h ∙ rw z

sole_step : (f i n m : ℕ) → lead_rows m i (sole_leads f i (suc n))
    ≡ cond (eqb (cond (eqb i f) f dropped) i) (row_code m i ∷ lead_rows m (suc i) (sole_leads f (suc i) n))
    (lead_rows m (suc i) (sole_leads f (suc i) n))
unfolding sole_leads
sole_step f i n m = rows_test m i (cond (eqb i f) f dropped) (sole_leads f (suc i) n)

sole_none : (f i m : ℕ) → lead_rows m i (sole_leads f i zero) ≡ []
unfolding sole_leads
sole_none f i m = rows_none m i

passed : (f i : ℕ) → (i ≡ f → ⊥) → i < dropped → eqb (cond (eqb i f) f dropped) i ≡ false
passed f i h l = rw (ne_eqb i f h) (ne_eqb dropped i (λ z. omega (arith, z, l)))

module _ (f m : ℕ) where
  -- behind the leader
  behind : (n i : ℕ) → f < i → i + n ≤ 512 → lead_rows m i (sole_leads f i n) ≡ []
  behind zero i h k = sole_none f i m
  behind (suc n) i h k =
      sole_step f i n m ∙ rw (passed f i (λ z. omega (arith, z, h)) (omega arith))
      (behind n (suc i) (omega arith) (omega arith))

  pub nowhere_rows : (n i : ℕ) → i + n ≤ f → i + n ≤ 512 → lead_rows m i (sole_leads f i n) ≡ []
  nowhere_rows zero i h k = sole_none f i m
  nowhere_rows (suc n) i h k =
      sole_step f i n m ∙ rw (passed f i (λ z. omega (arith, z, h)) (omega arith))
      (nowhere_rows n (suc i) (omega arith) (omega arith))

  pub sole_rows : (n i : ℕ) → i ≤ f → f < i + n → i + n ≤ 512 → lead_rows m i (sole_leads f i n) ≡ row_code m f ∷ []
  sole_rows zero i h w k = absurd (omega arith)
  sole_rows (suc n) i h w k =
      sole_step f i n m
      ∙ cases (eqb i f)
      (λ e. (let z : i ≡ f = eqb-true i f e in rw (e, eq-eqb f i (sym z), z)
      (ap (λ xs. row_code m f ∷ xs) (behind n (suc f) (omega arith) (omega (arith, z, k))))))
      (λ e. rw (passed f i (λ z. no (sym (eq-eqb i f z) ∙ e)) (omega arith))
      (sole_rows n (suc i) (later e) (omega arith) (omega arith)))
    where
      later : eqb i f ≡ false → suc i ≤ f
      later e = let z : i ≡ f → ⊥ = λ z. no (sym (eq-eqb i f z) ∙ e) in omega (arith, z, h)

module _ (f n : ℕ) (few : n ≤ 512) where
  pub not_led : (o i : ℕ) → o < n → i < n → (i ≡ o → ⊥) → eqb (get_or (sole_leads f 0 n) i 0) o ≡ false
  not_led o i g h d =
      ap (λ x. eqb x o) (sole_at f n i h)
      ∙ cases (eqb i f)
      (λ e. rw e (ne_eqb f o (λ z. d (eqb-true i f e ∙ z))))
      (λ e. rw e (ne_eqb dropped o (λ z. omega (arith, z, g, few))))

  -- nothing is merged behind a place
  sole_merge : (allowance p : ℕ) (rows : List ℕ) (o : ℕ) → o < n
      → merge_lead allowance p rows (sole_leads f 0 n) o ≡ row (row_at p rows o)
  unfolding merge_lead
  sole_merge allowance p rows o h =
      none_merge allowance p rows o (drop (suc o) (sole_leads f 0 n)) (suc o) (row_at p rows o)
      (λ j w.
      let l : suc o + j < n = omega (arith, w, length-drop (suc o) (sole_leads f 0 n), sole_long f 0 n) in
      rw get_or-drop (not_led o (suc o + j) h l (λ z. omega (arith, z))))

  module _ (allowance p : ℕ) (rows : List ℕ) (side : Side) where
    alone_clash : (o : ℕ) (rest : List ℕ) → o + length rest ≡ n
        → leads_clash allowance p rows side (sole_leads f 0 n) o rest ≡ none
    alone_clash o [] e = clash_none allowance p rows (sole_leads f 0 n) side o
    alone_clash o (x ∷ rest) e =
        clash_test allowance p rows (sole_leads f 0 n) side o x rest
        ∙ cases (eqb x o)
        (λ y. rw (y, sole_merge allowance p rows o (omega (arith, e)), alone_clash (suc o) rest (omega (arith, e))))
        (λ y. rw (y, alone_clash (suc o) rest (omega (arith, e))))

    -- so nothing clashes
    pub sole_clash : leads_clash allowance p rows side (sole_leads f 0 n) 0 (sole_leads f 0 n) ≡ none
    sole_clash = alone_clash 0 (sole_leads f 0 n) (omega (arith, sole_long f 0 n))

-- a key whose first place is its last stands nowhere else

module _ (keys : List ℕ) (k : ℕ) (e : first_of keys k ≡ last_of keys k) where
  only_first : (i : ℕ) → i < length keys → get_or keys i 0 ≡ k → i ≡ first_of keys k
  only_first i h g =
      cases (eqb i (first_of keys k))
      (λ f. eqb-true i (first_of keys k) f)
      (λ f. absurd (later (λ z. no (sym (eq-eqb i (first_of keys k) z) ∙ f))))
    where
      later : (i ≡ first_of keys k → ⊥) → ⊥
      later f = no (sym (eq-eqb (get_or keys i 0) k g)
          ∙ last_greatest k keys i (omega (arith, first_before k keys i h g, f, e)) h)

  module _ (edit : Edit) (m : Labels) where
    -- the first place of the key is the first that is edited alike, if it is
    lead_first : (c : Labels) (i : ℕ) (ks : List ℕ) (ls : List Labels) (f j : ℕ) → first_of ks k ≡ f → f < length ks
        → length ks ≡ length ls
        → same_edited_by edit m (get_or ls f no_labels) c ≡ true → j ≡ i + f → lead_of edit m k c i ks ls ≡ j
    unfolding first_of lead_of
    lead_first c i [] ls f j h g n s hj = absurd (omega (arith, g))
    lead_first c i (x ∷ ks) [] f j h g n s hj = absurd (omega (arith, n))
    lead_first c i (x ∷ ks) (l ∷ ls) zero j h g n s hj =
        cases (eqb x k)
        (λ y. let z : j ≡ i = omega (arith, hj) in rw (y, s, z))
        (λ y. absurd (let z : suc (first_of ks k) ≡ 0 = rw y at h in omega (arith, z)))
    lead_first c i (x ∷ ks) (l ∷ ls) (suc f) j h g n s hj =
        cases (eqb x k)
        (λ y. absurd (let z : 0 ≡ suc f = rw y at h in omega (arith, z)))
        (λ y. rw y (lead_first c (suc i) ks ls f j (let z : suc (first_of ks k) ≡ suc f = rw y at h in
        omega (arith, z)) (omega (arith, g))
        (omega (arith, n)) s (omega (arith, hj))))

    module _ (labels : List Labels) (long : length labels ≡ length keys) where
      lead_here : (i : ℕ) → i < length keys
          → get_or (leads_of edit m k keys labels) i 0 ≡ cond (eqb i (first_of keys k)) (first_of keys k) dropped
      lead_here i h =
          leads_among_at edit m k keys labels keys labels i h (omega (arith, h, long))
          ∙ cases (eqb (get_or keys i 0) k)
          (λ y. (let z : i ≡ first_of keys k = only_first i h (eqb-true (get_or keys i 0) k y) in
          rw (y, eq-eqb i (first_of keys k) z)
          (lead_first (get_or labels i no_labels) 0 keys labels i (first_of keys k) (sym z) h (sym long)
          (alike_refl edit m (get_or labels i no_labels))
          (omega (arith, z)))))
          (λ y. rw (y, ne_eqb i (first_of keys k) (λ z. no (sym (eq-eqb (get_or keys i 0) k (at_first i h z)) ∙ y))))
        where
          at_first : (i : ℕ) → i < length keys → i ≡ first_of keys k → get_or keys i 0 ≡ k
          at_first i h z = rw z (first_is k keys (omega (arith, h, z)))

      -- so it leads alone
      pub sole_leads_lem : leads_of edit m k keys labels ≡ sole_leads (first_of keys k) 0 (length keys)
      sole_leads_lem =
          let n = leads_among_long edit m k keys labels keys labels (sym long) in
          ext_get_or 0 (leads_of edit m k keys labels) (sole_leads (first_of keys k) 0 (length keys))
          (n ∙ sym (sole_long (first_of keys k) 0 (length keys)))
          (λ i h. (let l : i < length keys = omega (arith, h, n) in
          lead_here i l ∙ sym (sole_at (first_of keys k) (length keys) i l)))
