-- Two lists, taken one after the other. Assumes nothing.
use Prim.Native.Nat.{ℕ, zero, suc, ◌≤◌, ◌<◌, ◌+◌, ◌-◌}
use mathlib.Core.Path.{◌≡◌, refl, sym, ap, ◌∙◌}
use mathlib.Core.List.{List, [], ◌∷◌, ◌++◌, append_assoc}
use mathlib.Core.Bool.{Bool, true, false, cond}
use native.Mathlib.Nat.{add-zero}
use native.Mathlib.Omega.{arith}
use lib.Dec.{leb, eqb}
use lib.ListN.{length, get_or, take, drop, length-append, length-drop, drop_of_length-le}
use lib.Seq.{take_all, take_at, drop_at, drop-drop, drop-cons, get_or-drop}
use borrow.Author.Tests.{ne_eqb}
use Rattle.model.specs.Limits.{max_listed}
use Rattle.model.specs.Lists.{is_empty}
use Rattle.model.specs.Record.{Field, short, field, read_field, on_field, encode_field}
use Rattle.model.proofs.Laws.Record.{read_field_lem, field_read}
use Rattle.model.specs.Edits.{Names}
use Rattle.model.specs.Query.{Listed, not_listed, listed, with_name, names_in, list_in, on_listed}
use Rattle.model.proofs.Laws.Query.{not_listed_lem}
use Rattle.labels.specs.Names.{names_of, names_listed}
use Rattle.std.specs.Prelude.{Option, Some, None}
use Rattle.query.specs.list_ends.Ends.{end_of, end_told}
use Rattle.query.specs.Queries.{no_lists, closed, lists_in, matching_part, Counts, ListsAt}

-- what is read as ns with `rest` behind it is a front that is read as ns alone
record Front (read : List ℕ → Listed) (s : List ℕ) (ns : Names) (rest : List ℕ) : Type 0 where
  front : List ℕ
  joined : s ≡ front ++ rest
  alone : read front ≡ listed ns []

names_front : (n : ℕ) (s : List ℕ) (ns : Names) (rest : List ℕ) → names_in n s ≡ listed ns rest → Front (names_in n) s ns rest
unfolding names_in
names_front zero s ns rest e = record { front = []; joined = cc; alone = cc }
names_front (suc n) s ns rest e = go (names_front n) (read_field s) refl e
  where
    Fewer : Type 0
    Fewer = (s : List ℕ) (ns : Names) (rest : List ℕ) → names_in n s ≡ listed ns rest → Front (names_in n) s ns rest

    last : Fewer → (y : ℕ) (x s₁ : List ℕ) → s ≡ encode_field (y ∷ x) ++ s₁ → (l : Listed) → names_in n s₁ ≡ l
        → with_name (y ∷ x) l ≡ listed ns rest → Front (names_in (suc n)) s ns rest
    last ih y x s₁ h not_listed hl e = not_listed_lem ns rest e
    last ih y x s₁ h (listed ms r) hl e =
        let f = ih s₁ ms r hl in
        let er : r ≡ rest = cc in
        record {
          front = encode_field (y ∷ x) ++ f.front;
          joined = h ∙ ap (λ z. encode_field (y ∷ x) ++ z) (f.joined ∙ ap (λ z. f.front ++ z) er) ∙ sym (append_assoc (encode_field (y ∷ x)) f.front rest);
          alone = rw (read_field_lem (y ∷ x) f.front, f.alone) (cc);
        }

    go : Fewer → (f : Field) → read_field s ≡ f → on_field f not_listed (λ x s₁. with_name x (names_in n s₁)) ≡ listed ns rest → Front (names_in (suc n)) s ns rest
    go ih short h e = not_listed_lem ns rest e
    go ih (field [] s₁) h e = not_listed_lem ns rest e
    go ih (field (y ∷ x) s₁) h e = last ih y x s₁ (field_read s (y ∷ x) s₁ h) (names_in n s₁) refl e

list_front : (s : List ℕ) (ns : Names) (rest : List ℕ) → list_in s ≡ listed ns rest → Front list_in s ns rest
unfolding list_in
list_front [] ns rest e = not_listed_lem ns rest e
list_front (n ∷ s) ns rest e = go (leb n max_listed) refl e
  where
    go : (b : Bool) → leb n max_listed ≡ b → cond b (names_in n s) not_listed ≡ listed ns rest → Front list_in (n ∷ s) ns rest
    go true h e =
        let f = names_front n s ns rest e in
        record { front = n ∷ f.front; joined = ap (λ z. n ∷ z) f.joined; alone = rw h f.alone }
    go false h e = not_listed_lem ns rest e

-- a list is empty where its count is 0

names_count : (n : ℕ) (s : List ℕ) (ns : Names) (rest : List ℕ) → names_in n s ≡ listed ns rest → is_empty ns ≡ eqb n 0
unfolding names_in
names_count zero s ns rest e = ap is_empty (let z : ns ≡ [] = cc in z)
names_count (suc n) s ns rest e = go (read_field s) e
  where
    last : (y : ℕ) (x : List ℕ) (l : Listed) → with_name (y ∷ x) l ≡ listed ns rest → is_empty ns ≡ false
    last y x not_listed e = not_listed_lem ns rest e
    last y x (listed ms r) e = ap is_empty (let z : ns ≡ (y ∷ x) ∷ ms = cc in z)

    go : (f : Field) → on_field f not_listed (λ x s₁. with_name x (names_in n s₁)) ≡ listed ns rest → is_empty ns ≡ eqb (suc n) 0
    go short e = not_listed_lem ns rest e
    go (field [] s₁) e = not_listed_lem ns rest e
    go (field (y ∷ x) s₁) e = last y x (names_in n s₁) e ∙ sym (ne_eqb (suc n) 0 (λ z. omega (arith, z)))

list_count : (s : List ℕ) (ns : Names) (rest : List ℕ) → list_in s ≡ listed ns rest → is_empty ns ≡ eqb (get_or s 0 0) 0
unfolding list_in
list_count [] ns rest e = not_listed_lem ns rest e
list_count (n ∷ s) ns rest e = go (leb n max_listed) e
  where
    go : (b : Bool) → cond b (names_in n s) not_listed ≡ listed ns rest → is_empty ns ≡ eqb n 0
    go true e = names_count n s ns rest e
    go false e = not_listed_lem ns rest e

-- the first n bytes are a list
pub record ListTaken (t : List ℕ) (n : ℕ) : Type 0 where
  pub names : Names
  pub some : 0 < n
  pub within : n ≤ length t
  pub is : list_in t ≡ listed names (drop n t)
  pub part : names_of (take n t) ≡ names
  pub count : is_empty names ≡ eqb (get_or t 0 0) 0

front_some : (s : List ℕ) (ns : Names) → list_in s ≡ listed ns [] → 0 < length s
unfolding list_in
front_some [] ns e = not_listed_lem ns [] e
front_some (x ∷ xs) ns e = omega arith

taken_front : (t : List ℕ) (ns : Names) (rest : List ℕ) (n : ℕ) → list_in t ≡ listed ns rest → n ≡ length t - length rest → ListTaken t n
taken_front t ns rest n e h =
    let f = list_front t ns rest e in
    let k : n ≡ length f.front = omega (arith, h, ap length f.joined, length-append f.front rest) in
    let d : drop n t ≡ rest = ap (drop n) f.joined ∙ drop_at f.front rest n (sym k) in
    let p : take n t ≡ f.front = ap (take n) f.joined ∙ take_at f.front rest n (sym k) in
    record {
      names = ns;
      some = omega (arith, k, front_some f.front ns f.alone);
      within = omega (arith, h);
      is = e ∙ ap (listed ns) (sym d);
      part = ap names_of p ∙ names_listed f.front ns [] f.alone;
      count = list_count t ns rest e;
    }

pub list_taken : (t : List ℕ) (n : ℕ) → end_told (Some n) ≡ end_of (length t) (list_in t) → ListTaken t n
list_taken t n e = go (list_in t) refl e
  where
    go : (l : Listed) → list_in t ≡ l → end_told (Some n) ≡ end_of (length t) l → ListTaken t n
    go not_listed h e = cc
    go (listed ns rest) h e = taken_front t ns rest n h (cc)

pub list_refused : (t : List ℕ) → end_told None ≡ end_of (length t) (list_in t) → list_in t ≡ not_listed
list_refused t e = go (list_in t) e
  where
    go : (l : Listed) → end_told None ≡ end_of (length t) l → l ≡ not_listed
    go not_listed e = refl
    go (listed ns rest) e = cc

-- the part of a slice from k on, as the code lends it
abbrev pub part_from : ℕ → List ℕ → List ℕ
part_from k s = take (length s - k) (drop k s)

pub part_is : (k : ℕ) (s : List ℕ) → part_from k s ≡ drop k s
part_is k s = take_all (length s - k) (drop k s) (omega (arith, length-drop k s))

module _ (k : ℕ) (s : List ℕ) where
  pub part_taken : (n : ℕ) → end_told (Some n) ≡ end_of (length (part_from k s)) (list_in (part_from k s)) → ListTaken (drop k s) n
  part_taken n e = rw (← part_is k s) (list_taken (part_from k s) n e)

  pub part_refused : end_told None ≡ end_of (length (part_from k s)) (list_in (part_from k s)) → list_in (drop k s) ≡ not_listed
  part_refused e = rw (← part_is k s) (list_refused (part_from k s) e)

-- the lists of a query

not_closed : (ns js : Names) (s : List ℕ) → (length s ≡ 1 → ⊥) → closed ns js s ≡ no_lists
not_closed ns js [] h = refl
not_closed ns js (x ∷ []) h = absurd (h refl)
not_closed ns js (x ∷ y ∷ s) h = refl

-- the last byte by itself
last_alone : (s : List ℕ) (k : ℕ) → k < length s → k ≡ length s - 1 → drop k s ≡ get_or s (length s - 1) 0 ∷ []
last_alone s k l h =
    let past : length s ≤ suc k = omega (arith, h) in
    rw (← h) (drop-cons s k 0 l ∙ ap (λ t. get_or s k 0 ∷ t) (drop_of_length-le s past))

refused_lists_lem : (s : List ℕ) → no_lists ≡ lists_in (drop 4 s) → (r : Option ℕ) → r ≡ None → ListsAt s r
refused_lists_lem s e r u = rw u (record { same = e; counts = λ at h. cc })

module _ (s : List ℕ) (n : ℕ) (first : ListTaken (drop 4 s) n) where
  second_at : lists_in (drop 4 s) ≡ on_listed (list_in (drop (4 + n) s)) no_lists (λ js s₂. closed first.names js s₂)
  second_at = rw (first.is, drop-drop n 4 s)

  pub second_bad : list_in (drop (4 + n) s) ≡ not_listed → (r : Option ℕ) → r ≡ None → ListsAt s r
  second_bad e = refused_lists_lem s (sym (second_at ∙ rw e))

  module _ (m : ℕ) (second : ListTaken (drop (4 + n) s) m) where
    behind : lists_in (drop 4 s) ≡ closed first.names second.names (drop (4 + n + m) s)
    behind = second_at ∙ rw (second.is, drop-drop m (4 + n) s)

    pub not_one_behind : (4 + n + m ≡ length s - 1 → ⊥) → ListsAt s None
    not_one_behind h =
        let other : length (drop (4 + n + m) s) ≡ 1 → ⊥ = simp length-drop (λ e. omega (arith, h, e)) in
        refused_lists_lem s (sym (behind ∙ not_closed first.names second.names (drop (4 + n + m) s) other)) None refl

    pub both_lists : 4 + n + m ≡ length s - 1 → ListsAt s (Some (4 + n))
    both_lists h =
        let k : 4 + n - 4 ≡ n = omega arith in
        let last = last_alone s (4 + n + m) (omega (arith, h)) h in
        let e₁ : names_of (matching_part s (4 + n)) ≡ first.names = rw k first.part in
        let e₂ : names_of (drop (4 + n) s) ≡ second.names = names_listed (drop (4 + n) s) second.names (drop m (drop (4 + n) s)) second.is in
        record {
          same = rw (e₁, e₂) (sym (behind ∙ rw last));
          counts = λ at u. both_counted at u e₁ e₂;
        }
      where
        both_counted : (at : ℕ) → Some (4 + n) ≡ Some at → names_of (matching_part s (4 + n)) ≡ first.names
            → names_of (drop (4 + n) s) ≡ second.names → Counts s at
        both_counted at u e₁ e₂ =
            let a : at ≡ 4 + n = cc in
            rw a (record {
              within = record { first = omega (arith, first.some); second = omega (arith, length-drop (4 + n) s, second.some, second.within) };
              matching = ap is_empty e₁ ∙ first.count ∙ ap (λ z. eqb z 0) (get_or-drop 4 s 0 0);
              join = ap is_empty e₂ ∙ second.count ∙ ap (λ z. eqb z 0) (get_or-drop (4 + n) s 0 0 ∙ ap (λ k. get_or s k 0) (add-zero (4 + n)));
            })
