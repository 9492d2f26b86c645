-- Queries: the bytes of a query and what is taken from them. Assumes nothing.
use Rattle.std.specs.Prelude.{ℕ, zero, suc, ◌≤◌, ◌<◌, ◌≡◌, Bool, ◌&&◌, length}
use Rattle.std.proofs.Math.Path.{refl, sym, ap}
use Rattle.std.proofs.Common.{◌∙◌, arith}
use Rattle.std.proofs.Math.Bool.{true, false, cond}
use Rattle.std.proofs.Math.Option.{Option, none, some}
use mathlib.Core.List.{List, [], ◌∷◌, ◌++◌, append_assoc}
use Rattle.std.proofs.Math.Dec.{leb}
use borrow.Author.Tests.{le-leb, lt-leb, leb-true, leb-false}
use Rattle.operator.specs.declared.Operator.{Operator}
use Rattle.operator.specs.Operators.{operator_of, is_carried}
use Rattle.model.specs.Encoded.{encode_names, encode_list, query_bytes}
use Rattle.model.specs.Limits.{max_listed, max_allowance}
use Rattle.model.specs.Lists.{All, is_empty}
use Rattle.model.specs.Record.{Field, short, field, read_field, on_field, encode_field}
use Rattle.model.specs.Edits.{Names}
use Rattle.model.specs.Query.{Query, TakenQuery, query, bad_operator, malformed, bad_allowance, Listed, not_listed, listed, with_name, names_in, list_in}
use Rattle.model.specs.Query.{on_listed, fitting, allowing, ended, query_of, with_lists, modified, asked, take_query}
use Rattle.model.proofs.Laws.Booleans.{never, both_of}
use Rattle.model.proofs.Laws.Record.{read_field_lem, field_read}

-- lists

pub record GoodList (ns : Names) : Type 0 where
  pub few : length ns ≤ max_listed
  pub each : All (λ n. is_empty n ≡ false) ns

names_again : (ns : Names) (rest : List ℕ) → All (λ n. is_empty n ≡ false) ns → names_in (length ns) (encode_names ns ++ rest) ≡ listed ns rest
unfolding names_in
names_again [] rest a = refl
names_again ([] ∷ ns) rest a = never (sym a.0)
names_again ((x ∷ xs) ∷ ns) rest a = simp (append_assoc, read_field_lem (x ∷ xs), names_again ns rest a.1)

pub list_again : (ns : Names) (rest : List ℕ) → GoodList ns → list_in (encode_list ns ++ rest) ≡ listed ns rest
unfolding list_in
list_again ns rest g = rw (le-leb (length ns) max_listed g.few) (names_again ns rest g.each)

pub record NamesAre (n : ℕ) (s : List ℕ) (ns : Names) (rest : List ℕ) : Type 0 where
  pub count : length ns ≡ n
  pub each : All (λ x. is_empty x ≡ false) ns
  pub bytes : s ≡ encode_names ns ++ rest

pub not_listed_lem : {X : Type 0} (ns : Names) (rest : List ℕ) → not_listed ≡ listed ns rest → X
not_listed_lem ns rest e = absurd (let z : ◌≡◌ {A = ℕ} 0 1 = cc in omega arith)

pub names_are : (n : ℕ) (s : List ℕ) (ns : Names) (rest : List ℕ) → names_in n s ≡ listed ns rest → NamesAre n s ns rest
unfolding names_in
names_are zero s ns rest e = let h : ns ≡ [] = cc in let g : s ≡ rest = cc in rw (h, g) (record { count = refl; each = tt; bytes = refl })
names_are (suc n) s ns rest e = go (names_are n) (read_field s) refl e
  where
    Shorter : Type 0
    Shorter = (s : List ℕ) (ns : Names) (rest : List ℕ) → names_in n s ≡ listed ns rest → NamesAre n s ns rest

    last : Shorter → (x : ℕ) (xs s₁ : List ℕ) → s ≡ encode_field (x ∷ xs) ++ s₁ → (l : Listed) → names_in n s₁ ≡ l
        → with_name (x ∷ xs) l ≡ listed ns rest → NamesAre (suc n) s ns rest
    last ih x xs s₁ h not_listed g e = not_listed_lem ns rest e
    last ih x xs s₁ h (listed ms r) g e =
        let below = ih s₁ ms r g in
        let hns : ns ≡ (x ∷ xs) ∷ ms = cc in
        let hr : rest ≡ r = cc in
        rw (hns, hr) (record {
          count = ap suc below.count;
          each = (refl, below.each);
          bytes = h
              ∙ ap (λ t. encode_field (x ∷ xs) ++ t) below.bytes ∙ sym (append_assoc (encode_field (x ∷ xs)) (encode_names ms) r);
        })

    named : Shorter → (x s₁ : List ℕ) → s ≡ encode_field x ++ s₁ → with_name x (names_in n s₁) ≡ listed ns rest → NamesAre (suc n) s ns rest
    named ih [] s₁ h e = not_listed_lem ns rest e
    named ih (x ∷ xs) s₁ h e = last ih x xs s₁ h (names_in n s₁) refl e

    go : Shorter → (f : Field) → read_field s ≡ f → on_field f not_listed (λ x r. with_name x (names_in n r)) ≡ listed ns rest → NamesAre (suc n) s ns rest
    go ih short h e = not_listed_lem ns rest e
    go ih (field x s₁) h e = named ih x s₁ (field_read s x s₁ h) e

pub record ListIs (s : List ℕ) (ns : Names) (rest : List ℕ) : Type 0 where
  pub good : GoodList ns
  pub bytes : s ≡ encode_list ns ++ rest

pub list_is : (s : List ℕ) (ns : Names) (rest : List ℕ) → list_in s ≡ listed ns rest → ListIs s ns rest
unfolding list_in
list_is [] ns rest e = not_listed_lem ns rest e
list_is (n ∷ s) ns rest e = go (leb n max_listed) refl e
  where
    go : (t : Bool) → leb n max_listed ≡ t → cond t (names_in n s) not_listed ≡ listed ns rest → ListIs (n ∷ s) ns rest
    go false h e = not_listed_lem ns rest e
    go true h e =
        let a = names_are n s ns rest e in
        let few = leb-true n max_listed h in
        record { good = record { few = omega (arith, a.count); each = a.each }; bytes = rw a.count (ap (λ t. n ∷ t) a.bytes) }

-- queries

-- what numbers 1 and 2 ask of them
pub record GoodQuery (n m j f : ℕ) (o : Operator) (ns js : Names) (a : ℕ) : Type 0 where
  pub operator : operator_of n ≡ some o
  pub carried : is_carried o ≡ true
  pub matching : m ≤ 2
  pub join : j ≤ 3
  pub flags : f ≤ 3
  pub names : GoodList ns
  pub sources : GoodList js
  pub fits : fitting (query_of o m j f ns js a) ≡ true

module _ (n m j f : ℕ) (o : Operator) (ns js : Names) (a : ℕ) (g : GoodQuery n m j f o ns js a) where
  -- such bytes go by their allowance alone
  take-good : take_query (query_bytes n m j f ns js a) ≡ allowing (query_of o m j f ns js a)
  unfolding take_query
  take-good =
      rw (
        g.operator,
        g.carried,
        le-leb m 2 g.matching,
        le-leb j 3 g.join,
        le-leb f 3 g.flags,
        list_again ns (encode_list js ++ (a ∷ [])) g.names,
        list_again js (a ∷ []) g.sources,
        g.fits,
      )

  pub take-query : a ≤ max_allowance → take_query (query_bytes n m j f ns js a) ≡ query (query_of o m j f ns js a)
  take-query h = take-good ∙ rw (le-leb a max_allowance h)

  -- 02: 13, an allowance above 8
  pub take-over : max_allowance < a → take_query (query_bytes n m j f ns js a) ≡ bad_allowance
  take-over h = take-good ∙ rw (lt-leb a max_allowance h)

-- and no others
pub record BytesAre (s : List ℕ) (t : TakenQuery) : Type 0 where
  pub number : ℕ
  pub matching : ℕ
  pub join : ℕ
  pub flags : ℕ
  pub operator : Operator
  pub names : Names
  pub sources : Names
  pub allowance : ℕ
  pub good : GoodQuery number matching join flags operator names sources allowance
  pub bytes : s ≡ query_bytes number matching join flags names sources allowance
  pub is : t ≡ allowing (query_of operator matching join flags names sources allowance)

-- neither 1 nor 2
abbrev pub well_formed : TakenQuery → Bool
well_formed (query q) = true
well_formed bad_operator = false
well_formed malformed = false
well_formed bad_allowance = true

module _ (t : TakenQuery) (well : well_formed t ≡ true) where
  not_malformed : {X : Type 0} → malformed ≡ t → X
  not_malformed e = never (ap well_formed e ∙ well)

  not_unknown : {X : Type 0} → bad_operator ≡ t → X
  not_unknown e = never (ap well_formed e ∙ well)

  module _ (n m j f : ℕ) (o : Operator) (s : List ℕ) (known : operator_of n ≡ some o) (carried : is_carried o ≡ true) (hm : m ≤ 2)
      (hj : j ≤ 3) (hf : f ≤ 3) where
    Taken : Type 0
    Taken = BytesAre (n ∷ m ∷ j ∷ f ∷ s) t

    taken_end : (ns js : Names) (s₁ rest : List ℕ) (a : ℕ) → ListIs s ns s₁ → ListIs s₁ js (a ∷ rest) → (b : Bool)
        → (is_empty rest && fitting (query_of o m j f ns js a)) ≡ b
        → cond b (allowing (query_of o m j f ns js a)) malformed ≡ t → Taken
    unfolding Taken
    taken_end ns js s₁ rest a h g false k e = not_malformed e
    taken_end ns js s₁ (x ∷ rest) a h g true k e = never k
    taken_end ns js s₁ [] a h g true k e =
        record {
          number = n;
          matching = m;
          join = j;
          flags = f;
          operator = o;
          names = ns;
          sources = js;
          allowance = a;
          good = record { operator = known; carried = carried; matching = hm; join = hj; flags = hf; names = h.good; sources = g.good; fits = k };
          bytes = ap (λ r. n ∷ m ∷ j ∷ f ∷ r) (h.bytes ∙ ap (λ r. encode_list ns ++ r) g.bytes);
          is = sym e;
        }

    taken_last : (ns js : Names) (s₁ rest : List ℕ) → ListIs s ns s₁ → ListIs s₁ js rest → ended (query_of o m j f ns js) rest ≡ t → Taken
    taken_last ns js s₁ [] h g e = not_malformed e
    taken_last ns js s₁ (a ∷ rest) h g e = taken_end ns js s₁ rest a h g _ refl e

    taken_second : (ns : Names) (s₁ : List ℕ) → ListIs s ns s₁ → (l : Listed) → list_in s₁ ≡ l
        → on_listed l malformed (λ js s₂. ended (query_of o m j f ns js) s₂) ≡ t → Taken
    taken_second ns s₁ h not_listed g e = not_malformed e
    taken_second ns s₁ h (listed js rest) g e = taken_last ns js s₁ rest h (list_is s₁ js rest g) e

    taken_first : (l : Listed) → list_in s ≡ l → on_listed l malformed
        (λ ns s₁. on_listed (list_in s₁) malformed (λ js s₂. ended (query_of o m j f ns js) s₂)) ≡ t → Taken
    taken_first not_listed h e = not_malformed e
    taken_first (listed ns s₁) h e = taken_second ns s₁ (list_is s ns s₁ h) (list_in s₁) refl e

  module _ (n : ℕ) (o : Operator) (known : operator_of n ≡ some o) (carried : is_carried o ≡ true) where
    taken_bytes : (m j f : ℕ) (s : List ℕ) (b : Bool) → (leb m 2 && (leb j 3 && leb f 3)) ≡ b → cond b (with_lists o m j f s) malformed ≡ t
        → BytesAre (n ∷ m ∷ j ∷ f ∷ s) t
    unfolding Taken
    taken_bytes m j f s false h e = not_malformed e
    taken_bytes m j f s true h e =
        let y = both_of (leb m 2) (leb j 3 && leb f 3) h in
        let z = both_of (leb j 3) (leb f 3) y.1 in
        taken_first n m j f o s known carried (leb-true m 2 y.0) (leb-true j 3 z.0) (leb-true f 3 z.1) (list_in s) refl e

    taken_modified : (s : List ℕ) → modified o s ≡ t → BytesAre (n ∷ s) t
    taken_modified [] e = not_malformed e
    taken_modified (m ∷ []) e = not_malformed e
    taken_modified (m ∷ j ∷ []) e = not_malformed e
    taken_modified (m ∷ j ∷ f ∷ s) e = taken_bytes m j f s _ refl e

  pub taken_is : (s : List ℕ) → take_query s ≡ t → BytesAre s t
  unfolding take_query
  taken_is [] e = not_malformed e
  taken_is (n ∷ s) e = go (operator_of n) refl e
    where
      carried_by : (o : Operator) → operator_of n ≡ some o → (b : Bool) → is_carried o ≡ b → cond b (modified o s) bad_operator ≡ t
          → BytesAre (n ∷ s) t
      carried_by o h false g e = not_unknown e
      carried_by o h true g e = taken_modified n o h g s e

      go : (o : Option Operator) → operator_of n ≡ o → asked o s ≡ t → BytesAre (n ∷ s) t
      go none h e = not_unknown e
      go (some o) h e = carried_by o h (is_carried o) refl e

-- the bytes of a query that is taken
pub record QueryIs (s : List ℕ) (q : Query) : Type 0 where
  pub whole : BytesAre s (query q)
  pub few : whole.allowance ≤ max_allowance
  pub is : q ≡ query_of whole.operator whole.matching whole.join whole.flags whole.names whole.sources whole.allowance

query_is : (q r : Query) → query q ≡ query r → q ≡ r
query_is q r e = cc

pub taken_query : (s : List ℕ) (q : Query) → take_query s ≡ query q → QueryIs s q
taken_query s q e = go (leb w.allowance max_allowance) refl w.is
  where
    w : BytesAre s (query q)
    w = taken_is (query q) refl s e

    r : Query
    r = query_of w.operator w.matching w.join w.flags w.names w.sources w.allowance

    go : (b : Bool) → leb w.allowance max_allowance ≡ b → query q ≡ cond b (query r) bad_allowance → QueryIs s q
    go true h g = record { whole = w; few = leb-true w.allowance max_allowance h; is = query_is q r g }
    go false h g = absurd (let z : ◌≡◌ {A = ℕ} 0 1 = cc in omega arith)

-- 02: 13, an allowance above 8: only where the query is otherwise well formed
pub record OverIs (s : List ℕ) : Type 0 where
  pub whole : BytesAre s bad_allowance
  pub over : max_allowance < whole.allowance

pub taken_over : (s : List ℕ) → take_query s ≡ bad_allowance → OverIs s
taken_over s e = go (leb w.allowance max_allowance) refl w.is
  where
    w : BytesAre s bad_allowance
    w = taken_is bad_allowance refl s e

    r : Query
    r = query_of w.operator w.matching w.join w.flags w.names w.sources w.allowance

    go : (b : Bool) → leb w.allowance max_allowance ≡ b → bad_allowance ≡ cond b (query r) bad_allowance → OverIs s
    go true h g = absurd (let z : ◌≡◌ {A = ℕ} 0 1 = cc in omega arith)
    go false h g = record { whole = w; over = leb-false w.allowance max_allowance h }
