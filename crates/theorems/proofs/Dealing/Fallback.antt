-- Operators that fall back: under the demand's two conditions a pile's call emits what its series emit with the whole call's sides in sight. Assumes nothing.
use Rattle.std.specs.Prelude.{ℕ, zero, suc, ◌≡◌, refl, Bool, true, false, cond, ◌&&◌, List, [], ◌∷◌, ◌++◌, map}
use Rattle.std.proofs.Common.{sym, ap, ◌∙◌}
use Rattle.std.proofs.lemmas.Bool.{false≢true}
use Rattle.std.proofs.Math.Option.{Option, none, some}
use Rattle.operator.specs.Kinds.{fallback, SetRule, where_found, where_none, filled}
use Rattle.model.specs.Lists.{cases, is_empty, All}
use Rattle.model.specs.Query.{Query, same_key, Side, left, right}
use Rattle.model.specs.Vector.{Series}
use Rattle.model.proofs.Laws.Lists.{All-map, All-each, All-append, All-front, All-zip, gather_cong, keep_map, keep_keep, keep_append, map_map, map_append}
use Rattle.semantics.specs.Places.{Placed, numbered, placed}
use Rattle.semantics.specs.Events.{mark, of_key, produced_by, emission, settle, run}
use Rattle.semantics.specs.Rules.{of_side, optional, left_result, right_result}
use Rattle.semantics.specs.Binop.{met, unmatched, adds, Seen, rule_of, scalar_side, look}
use Rattle.theorems.proofs.Laws.Renumber.{moved_series}
use Rattle.theorems.specs.Claims.Dealing.{Renumber, Deal, pick, pile, whole_places, Apart, is_some, same_key_of, falls_back, FallsAlike}
use Rattle.theorems.proofs.Dealing.Numbers.{pile_placed, pile_whole}

abbrev series_of : List Placed → List Series
series_of xs = map (λ x. x.series) xs

module _ (q : Query) where
  -- the right series of a key
  abbrev pub rights : Series → List Placed → List Series
  rights b xs = series_of (of_side right (of_key (same_key q) b.labels xs))

  rights_left_lem : (b : Series) (g : ℕ → ℕ) (ls : List Series) → rights b (numbered left g ls) ≡ []
  rights_left_lem b g [] = refl
  rights_left_lem b g (l ∷ ls) = cases (same_key q b.labels l.labels) (λ e. rw e (rights_left_lem b (λ i. g (suc i)) ls))
      (λ e. rw e (rights_left_lem b (λ i. g (suc i)) ls))

  rights_right : (b : Series) (g : ℕ → ℕ) (rs : List Series) → rights b (numbered right g rs) ≡ same_key_of q b rs
  rights_right b g [] = refl
  rights_right b g (r ∷ rs) = cases (same_key q b.labels r.labels) (λ e. rw (e, rights_right b (λ i. g (suc i)) rs))
      (λ e. rw e (rights_right b (λ i. g (suc i)) rs))

  rights_append : (b : Series) (xs ys : List Placed) → rights b (xs ++ ys) ≡ rights b xs ++ rights b ys
  rights_append b xs ys = simp (keep_append, map_append)

  pub rights_placed : (b : Series) (ls rs : List Series) → rights b (placed ls rs) ≡ same_key_of q b rs
  rights_placed b ls rs = rw (rights_append, rights_left_lem b (λ i. i) ls, rights_right b (λ i. i) rs)

  rights_moved : (b : Series) (ρ : Renumber) (xs : List Placed) → rights b (map (moved_series ρ) xs) ≡ rights b xs
  rights_moved b ρ xs = simp (keep_map, map_map)

  -- a pile has all the right series of its series' keys
  key_whole : (deal : Deal) (ls rs : List Series) → Apart (same_key q) deal (placed ls rs)
      → All (λ x. deal x.place ≡ true → same_key_of q x.series (pile deal right rs) ≡ same_key_of q x.series rs) (placed ls rs)
  key_whole deal ls rs a =
      All-map
      (λ x h e.
      sym (rights_placed x.series (pile deal left ls) (pile deal right rs))
      ∙ sym (rights_moved x.series (whole_places deal ls rs) (pile_placed deal ls rs))
      ∙ sym (ap (rights x.series) (pile_whole deal ls rs))
      ∙ ap (λ l. series_of (of_side right l))
      (keep_keep (λ s. same_key q x.series.labels s.series.labels) (λ s. deal s.place) (placed ls rs)
      (All-map (λ y g r. g r ∙ e) (placed ls rs) h))
      ∙ rights_placed x.series ls rs)
      (placed ls rs) a

All-picked : (P : Series → Type 0) (deal : Deal) (s : Side) (g : ℕ → ℕ) (bs : List Series)
    → All (λ x. deal x.place ≡ true → P x.series) (numbered s g bs) → All P (pick (λ i. deal (record { side = s; number = g i })) bs)
All-picked P deal s g [] a = tt
All-picked P deal s g (b ∷ bs) a =
    cases (deal (record { side = s; number = g zero }))
    (λ e. rw e (a.0 e, All-picked P deal s (λ i. g (suc i)) bs a.1))
    (λ e. rw e (All-picked P deal s (λ i. g (suc i)) bs a.1))

pub All-numbered : (P : Series → Type 0) (Q : Placed → Type 0) (s : Side)
    → ((n : ℕ) (b : Series) → P b → Q (record { place = record { side = s; number = n }; series = b }))
    → (g : ℕ → ℕ) (bs : List Series) → All P bs → All Q (numbered s g bs)
All-numbered P Q s h g [] a = tt
All-numbered P Q s h g (b ∷ bs) a = (h (g zero) b a.0, All-numbered P Q s h (λ i. g (suc i)) bs a.1)

none_found : (o : Option Series) → is_some o ≡ false → o ≡ none
none_found none e = refl
none_found (some r) e = absurd (false≢true (sym e))

-- where both find a right series to fall back to, it is the same
scalar_same : (d : ℕ → Bool) (rs : List Series) → is_some (scalar_side (pick d rs)) ≡ is_some (scalar_side rs) → scalar_side (pick d rs) ≡ scalar_side rs
scalar_same d [] e = refl
scalar_same d (r ∷ []) e = go (d zero) (scalar_side (r ∷ [])) refl e
  where
    go : (t : Bool) (o : Option Series) → scalar_side (r ∷ []) ≡ o → is_some (scalar_side (cond t (r ∷ []) [])) ≡ is_some o → scalar_side (cond t (r ∷ []) []) ≡ o
    go true o h e = h
    go false o h e = sym (none_found o (sym e))
scalar_same d (r ∷ s ∷ rs) e = none_found (scalar_side (pick d (r ∷ s ∷ rs))) e

left_same : (lone lone' : Series → Option Series) (meet : Series → List Placed → Option Series) (b : Series) (xs : List Placed)
    → (series_of xs ≡ [] → lone b ≡ lone' b) → left_result lone meet b xs ≡ left_result lone' meet b xs
left_same lone lone' meet b [] h = ap optional (h refl)
left_same lone lone' meet b (x ∷ xs) h = refl

empty_picked : (d : ℕ → Bool) (ls : List Series) → (is_empty ls ≡ false → is_empty (pick d ls) ≡ false) → is_empty (pick d ls) ≡ is_empty ls
empty_picked d [] h = refl
empty_picked d (l ∷ ls) h = h refl

bare : (xs ys : List Series) (s t : Bool) → xs ≡ [] → ys ≡ [] → (is_empty xs && s) ≡ (is_empty ys && t) → s ≡ t
bare xs ys s t e f h = sym (ap (λ l. is_empty l && s) e) ∙ h ∙ ap (λ l. is_empty l && t) f

adds_same : (k : SetRule) (s t : Bool) → (k ≡ filled → s ≡ t) → (adds k && s) ≡ (adds k && t)
adds_same where_found s t h = refl
adds_same where_none s t h = refl
adds_same filled s t h = h refl

if_any : (Q : Placed → Type 0) (s : Side) (g : ℕ → ℕ) (bs : List Series)
    → (is_empty bs ≡ false → (n : ℕ) (b : Series) → Q (record { place = record { side = s; number = n }; series = b })) → All Q (numbered s g bs)
if_any Q s g [] h = tt
if_any Q s g (b ∷ bs) h = All-numbered (λ b. Unit {0}) Q s (λ n b u. h refl n b) g (b ∷ bs) (All-each (λ b. tt) (b ∷ bs))

module _ (q : Query) (k : SetRule) (deal : Deal) (ls rs : List Series) (apart : Apart (same_key q) deal (placed ls rs))
    (alike : FallsAlike q k (pile deal left ls) (pile deal right rs) ls rs) where
  abbrev pl : List Series
  pl = pile deal left ls

  abbrev pr : List Series
  pr = pile deal right rs

  abbrev SameEmission : Seen → Placed → Type 0
  SameEmission c s = emission (same_key q) (rule_of q (fallback k) c) (pile_placed deal ls rs) s
      ≡ emission (same_key q) (rule_of q (fallback k) (look (fallback k) ls rs)) (pile_placed deal ls rs) s

  keys : All (λ b. same_key_of q b pr ≡ same_key_of q b rs) pl
  keys = All-picked _ deal left (λ i. i) ls (All-front _ (numbered left (λ i. i) ls) _ (key_whole q deal ls rs apart))

  unmatched_same : (b : Series) → falls_back q pr b ≡ falls_back q rs b → same_key_of q b pr ≡ same_key_of q b rs → rights q b (pile_placed deal ls rs) ≡ []
      → unmatched k (scalar_side pr) b ≡ unmatched k (scalar_side rs) b
  unmatched_same b h g e =
      let e' : same_key_of q b pr ≡ [] = sym (rights_placed q b pl pr) ∙ e in
      ap (λ o. unmatched k o b) (scalar_same (λ i. deal (record { side = right; number = i })) rs (bare _ _ _ _ e' (sym g ∙ e') h))

  lefts_same : All (SameEmission (look (fallback k) pl pr)) (numbered left (λ i. i) pl)
  lefts_same =
      All-numbered (λ b. (falls_back q pr b ≡ falls_back q rs b) × (same_key_of q b pr ≡ same_key_of q b rs)) _ left
      (λ n b h.
      ap (λ l. produced_by (record { side = left; number = n }) (mark (record { side = left; number = n }) l))
      (left_same (unmatched k (scalar_side pr)) (unmatched k (scalar_side rs)) (met k) b
      (of_side right (of_key (same_key q) b.labels (pile_placed deal ls rs)))
      (unmatched_same b h.0 h.1)))
      (λ i. i) pl (All-zip (λ b x y. (x, y)) pl alike.falls keys)

  rights_same : All (SameEmission (look (fallback k) pl pr)) (numbered right (λ i. i) pr)
  rights_same =
      if_any _ right (λ i. i) pr
      (λ e n b.
      ap (λ t. produced_by (record { side = right; number = n })
      (mark (record { side = right; number = n }) (cond t
      (right_result b (of_side left (of_key (same_key q) b.labels (pile_placed deal ls rs)))) [])))
      (adds_same k (is_empty pl) (is_empty ls) (λ f. empty_picked (λ i. deal (record { side = left; number = i })) ls (alike.holds f e))))

  pub falls_same : run (same_key q) (rule_of q (fallback k) (look (fallback k) pl pr)) (pile_placed deal ls rs)
      ≡ run (same_key q) (rule_of q (fallback k) (look (fallback k) ls rs)) (pile_placed deal ls rs)
  falls_same =
      ap settle
      (gather_cong (emission (same_key q) (rule_of q (fallback k) (look (fallback k) pl pr)) (pile_placed deal ls rs))
      (emission (same_key q) (rule_of q (fallback k) (look (fallback k) ls rs)) (pile_placed deal ls rs))
      (pile_placed deal ls rs)
      (All-append _ (numbered left (λ i. i) pl) (numbered right (λ i. i) pr) lefts_same rights_same))
