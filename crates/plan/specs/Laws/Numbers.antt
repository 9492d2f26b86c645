-- Numbers that are equal exactly where keys are tell every series what it sees; so do they with the dropped series taken out. Assumes nothing.
use Prim.Native.Nat.{ℕ, zero, suc, ◌<◌}
use Rattle.std.specs.Prelude.{◌≡◌, Bool, true, false, not, cond, eqb, length, get_or}
use Rattle.std.proofs.Math.Path.{refl, ap}
use Rattle.std.proofs.Common.{sym, ◌∙◌, arith, ne_eqb}
use mathlib.Core.List.{List, [], ◌∷◌}
use Rattle.model.specs.Lists.{cases}
use Rattle.model.proofs.Laws.Tags.{same_tags_is, is_same_tags}
use Rattle.model.proofs.Laws.Booleans.{never, not_true, and_true, and_false}
use Rattle.model.specs.Row.{only_missing}
use Rattle.model.specs.Labels.{Labels, same_tags}
use Rattle.model.specs.Query.{Query, same_key, key_of}
use Rattle.model.specs.Vector.{Series}
use Rattle.semantics.specs.Rules.{has_readings}
use Rattle.plan.specs.Keys.{dropped}
use Rattle.plan.specs.Laws.Keyed.{ToldBy, seen_by, EachSees, Numbers}
use Rattle.plan.specs.Laws.Common.{no_series, eqb_sym}

-- equal numbers exactly where keys are equal, over both sides; and numbers of keys are below that of dropped series
pub record TellsKeys (q : Query) (cs bs : List Series) (xs ys : List ℕ) : Type 0 where
  pub tells : (i j : ℕ) → i < length cs → j < length bs → eqb (get_or xs i 0) (get_or ys j 0) ≡ same_key q (get_or cs i no_series).labels (get_or bs j no_series).labels

pub record KeysTold (q : Query) (ls rs : List Series) (ks ms : List ℕ) : Type 0 where
  pub same_left : length ks ≡ length ls
  pub same_right : length ms ≡ length rs
  pub left_left : TellsKeys q ls ls ks ks
  pub left_right : TellsKeys q ls rs ks ms
  pub right_right : TellsKeys q rs rs ms ms
  pub left_below : (i : ℕ) → i < length ls → get_or ks i 0 < dropped
  pub right_below : (i : ℕ) → i < length rs → get_or ms i 0 < dropped

-- a series with only missing readings takes no part
unfoldable pub dropped_keys : List ℕ → List Series → List ℕ
dropped_keys [] bs = []
dropped_keys (k ∷ ks) [] = []
dropped_keys (k ∷ ks) (b ∷ bs) = cond (only_missing b.row) dropped k ∷ dropped_keys ks bs

key_sym : (q : Query) (a b : Labels) → same_key q a b ≡ same_key q b a
unfolding same_key
key_sym q a b =
    let x = key_of q.matching q.matching_list a.tags in
    let y = key_of q.matching q.matching_list b.tags in
    cases (same_tags y x)
    (λ e. is_same_tags x y (sym (same_tags_is y x e)) ∙ sym e)
    (λ e. cases (same_tags x y) (λ f. never (sym e ∙ is_same_tags y x (sym (same_tags_is x y f)))) (λ f. f ∙ sym e))

-- from places to lists

pub told_by : (f : Series → Bool) (k : ℕ) (xs : List ℕ) (bs : List Series) → length xs ≡ length bs
    → ((j : ℕ) → j < length bs → f (get_or bs j no_series) ≡ eqb (get_or xs j 0) k) → ToldBy f k xs bs
told_by f k [] [] e h = tt
told_by f k [] (b ∷ bs) e h = absurd (omega (arith, e))
told_by f k (x ∷ xs) [] e h = absurd (omega (arith, e))
told_by f k (x ∷ xs) (b ∷ bs) e h = (h 0 (omega arith), told_by f k xs bs (omega (arith, e)) (λ j w. h (suc j) (omega (arith, w))))

pub each_by : (P : Series → ℕ → Type 0) (bs : List Series) (xs : List ℕ) → length xs ≡ length bs
    → ((j : ℕ) → j < length bs → P (get_or bs j no_series) (get_or xs j 0)) → EachSees P bs xs
each_by P [] [] e h = tt
each_by P [] (x ∷ xs) e h = absurd (omega (arith, e))
each_by P (b ∷ bs) [] e h = absurd (omega (arith, e))
each_by P (b ∷ bs) (x ∷ xs) e h = (h 0 (omega arith), each_by P bs xs (omega (arith, e)) (λ j w. h (suc j) (omega (arith, w))))

module _ (q : Query) where
  tells_back : (cs bs : List Series) (xs ys : List ℕ) → TellsKeys q cs bs xs ys → TellsKeys q bs cs ys xs
  tells_back cs bs xs ys t =
      record {
        tells = λ i j hi hj. eqb_sym (get_or ys i 0) (get_or xs j 0) ∙ t.tells j i hj hi ∙ key_sym q (get_or cs j no_series).labels (get_or bs i no_series).labels;
      }

  -- all series take part

  seen_all : (cs bs : List Series) (xs ys : List ℕ) → length ys ≡ length bs → TellsKeys q cs bs xs ys → (i : ℕ) → i < length cs
      → ToldBy (seen_by q false (get_or cs i no_series)) (get_or xs i 0) ys bs
  seen_all cs bs xs ys e t i h =
      told_by (seen_by q false (get_or cs i no_series)) (get_or xs i 0) ys bs e
      (λ j w. and_true (same_key q (get_or cs i no_series).labels (get_or bs j no_series).labels) ∙ sym (t.tells i j h w) ∙ eqb_sym (get_or xs i 0) (get_or ys j 0))

  part_of : (k : ℕ) → k < dropped → true ≡ not (eqb k dropped)
  part_of k h = rw (ne_eqb k dropped (λ e. omega (arith, e, h)))

  pub numbers_all : (ls rs : List Series) (ks ms : List ℕ) → KeysTold q ls rs ks ms → Numbers q false ls rs ks ms
  numbers_all ls rs ks ms t =
      record {
        of_lefts = each_by _ ls ks t.same_left (λ i h. record {
          takes = part_of (get_or ks i 0) (t.left_below i h);
          lefts = λ p. seen_all ls ls ks ks t.same_left t.left_left i h;
          rights = λ p. seen_all ls rs ks ms t.same_right t.left_right i h;
        });
        of_rights = each_by _ rs ms t.same_right (λ i h. record {
          takes = part_of (get_or ms i 0) (t.right_below i h);
          lefts = λ p. seen_all rs ls ms ks t.same_left (tells_back ls rs ks ms t.left_right) i h;
          rights = λ p. seen_all rs rs ms ms t.same_right t.right_right i h;
        });
      }

  -- those with only missing readings do not

  pub dropped_length : (ks : List ℕ) (bs : List Series) → length ks ≡ length bs → length (dropped_keys ks bs) ≡ length bs
  unfolding dropped_keys
  dropped_length [] [] e = refl
  dropped_length [] (b ∷ bs) e = absurd (omega (arith, e))
  dropped_length (k ∷ ks) [] e = absurd (omega (arith, e))
  dropped_length (k ∷ ks) (b ∷ bs) e = ap suc (dropped_length ks bs (omega (arith, e)))

  dropped_at : (ks : List ℕ) (bs : List Series) → length ks ≡ length bs → (j : ℕ) → j < length bs
      → get_or (dropped_keys ks bs) j 0 ≡ cond (only_missing (get_or bs j no_series).row) dropped (get_or ks j 0)
  unfolding dropped_keys
  dropped_at [] [] e j h = absurd (omega (arith, h))
  dropped_at [] (b ∷ bs) e j h = absurd (omega (arith, e))
  dropped_at (k ∷ ks) [] e j h = absurd (omega (arith, e))
  dropped_at (k ∷ ks) (b ∷ bs) e zero h = refl
  dropped_at (k ∷ ks) (b ∷ bs) e (suc j) h = dropped_at ks bs (omega (arith, e)) j (omega (arith, h))

  reads : (b : Series) → has_readings b ≡ not (only_missing b.row)
  unfolding has_readings
  reads b = refl

  -- one series against another
  pair_told : (a b : Series) (x y : ℕ) → x < dropped → y < dropped → eqb x y ≡ same_key q a.labels b.labels → has_readings a ≡ true
      → seen_by q true a b ≡ eqb (cond (only_missing b.row) dropped y) (cond (only_missing a.row) dropped x)
  pair_told a b x y hx hy t part =
      let has : only_missing a.row ≡ false = not_true (only_missing a.row) (sym (reads a) ∙ part) in
      cases (only_missing b.row)
      (λ e. rw (has, reads b, e, ne_eqb dropped x (λ g. omega (arith, g, hx))) (and_false (same_key q a.labels b.labels)))
      (λ e. rw (has, reads b, e) (and_true (same_key q a.labels b.labels) ∙ sym t ∙ eqb_sym x y))

  seen_kept : (cs bs : List Series) (xs ys : List ℕ) → length xs ≡ length cs → length ys ≡ length bs → TellsKeys q cs bs xs ys
      → ((i : ℕ) → i < length cs → get_or xs i 0 < dropped) → ((i : ℕ) → i < length bs → get_or ys i 0 < dropped)
      → (i : ℕ) → i < length cs → has_readings (get_or cs i no_series) ≡ true
      → ToldBy (seen_by q true (get_or cs i no_series)) (get_or (dropped_keys xs cs) i 0) (dropped_keys ys bs) bs
  seen_kept cs bs xs ys ea eb t la lb i h part =
      told_by (seen_by q true (get_or cs i no_series)) (get_or (dropped_keys xs cs) i 0) (dropped_keys ys bs) bs (dropped_length ys bs eb)
      (λ j w. rw (dropped_at xs cs ea i h, dropped_at ys bs eb j w)
      (pair_told (get_or cs i no_series) (get_or bs j no_series) (get_or xs i 0) (get_or ys j 0) (la i h) (lb j w) (t.tells i j h w) part))

  kept_part : (b : Series) (k : ℕ) → k < dropped → has_readings b ≡ not (eqb (cond (only_missing b.row) dropped k) dropped)
  kept_part b k h =
      reads b ∙ cases (only_missing b.row) (λ e. rw e) (λ e. rw (e, ne_eqb k dropped (λ g. omega (arith, g, h))))

  pub numbers_kept : (ls rs : List Series) (ks ms : List ℕ) → KeysTold q ls rs ks ms → Numbers q true ls rs (dropped_keys ks ls) (dropped_keys ms rs)
  numbers_kept ls rs ks ms t =
      record {
        of_lefts = each_by _ ls (dropped_keys ks ls) (dropped_length ks ls t.same_left) (λ i h. record {
          takes = rw (dropped_at ks ls t.same_left i h) (kept_part (get_or ls i no_series) (get_or ks i 0) (t.left_below i h));
          lefts = λ p. seen_kept ls ls ks ks t.same_left t.same_left t.left_left t.left_below t.left_below i h p;
          rights = λ p. seen_kept ls rs ks ms t.same_left t.same_right t.left_right t.left_below t.right_below i h p;
        });
        of_rights = each_by _ rs (dropped_keys ms rs) (dropped_length ms rs t.same_right) (λ i h. record {
          takes = rw (dropped_at ms rs t.same_right i h) (kept_part (get_or rs i no_series) (get_or ms i 0) (t.right_below i h));
          lefts = λ p. seen_kept rs ls ms ks t.same_right t.same_left (tells_back ls rs ks ms t.left_right) t.right_below t.left_below i h p;
          rights = λ p. seen_kept rs rs ms ms t.same_right t.same_right t.right_right t.right_below t.right_below i h p;
        });
      }
