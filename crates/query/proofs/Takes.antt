-- What taking a query answers, by what the tests found. Assumes nothing.
use Prim.Native.Nat.{ℕ, zero, suc, ◌≤◌, ◌<◌, ◌-◌, ◌%◌}
use mathlib.Core.Path.{◌≡◌, refl, sym, ap, ◌∙◌}
use mathlib.Core.List.{List, [], ◌∷◌, map}
use mathlib.Core.Option.{Option, none, some}
use mathlib.Core.Bool.{Bool, true, false, cond, ◌||◌}
use native.Mathlib.Omega.{arith}
use lib.Dec.{leb, eqb}
use lib.ListN.{length, get_or, drop}
use lib.Seq.{drop-cons}
use borrow.Author.Tests.{le-leb}
use Rattle.operator.specs.declared.Operator.{Operator}
use Rattle.std.specs.Prelude.{Some, slice_get, Result, Ok, Err, IsErrAnd}
use Rattle.operator.specs.declared.UnknownOperator.{UnknownOperator}
use Rattle.operator.specs.Operators.{operators, nth, operator_of, coded, coded_of, is_carried}
use Rattle.query.specs.operator_table.Table as Table
use Rattle.query.specs.operator_table.Table.{table, table_row, carried_by, Claims, claimed, agrees}
use Rattle.model.specs.Limits.{max_allowance}
use Rattle.model.specs.Edits.{Names}
use Rattle.model.specs.Query as Model
use Rattle.labels.specs.declared.Matching.{Matching}
use Rattle.labels.specs.Matchings.{matching_of}
use Rattle.query.specs.declared.Join.{Join}
use Rattle.query.specs.declared.Query.{Query}
use Rattle.query.specs.declared.QueryError.{QueryError}
use Rattle.query.specs.declared.QueryError.TheVariants.{BadOperator, Malformed, BadAllowance}
use Rattle.query.specs.Queries.{join_of, query_of, TakenAs}
use Rattle.query.specs.Queries.{Lists, no_lists, refused_lists, lists, closed, lists_in, ListsAt}

-- refusals

refused_malformed : (s : List ℕ) (t : Model.TakenQuery) → t ≡ Model.malformed → TakenAs s t (Err Malformed)
refused_malformed s t e = record { answer = rw e; within = λ q u. cc }

refused_operator : (s : List ℕ) (t : Model.TakenQuery) → t ≡ Model.bad_operator → TakenAs s t (Err BadOperator)
refused_operator s t e = record { answer = rw e; within = λ q u. cc }

-- the modifier by its lists

module _ (o : Operator) (m j f : ℕ) where
  as_query : Names → Names → ℕ → Model.Query
  as_query ns js a = Model.query_of o m j f ns js a

  of_lists : Lists → Model.TakenQuery
  of_lists (refused_lists k) = Model.malformed
  of_lists (lists ns js a) = cond (Model.fitting (as_query ns js a)) (Model.allowing (as_query ns js a)) Model.malformed

  by_lists : (t : List ℕ) → Model.with_lists o m j f t ≡ of_lists (lists_in t)
  unfolding as_query of_lists
  by_lists t = go (Model.list_in t)
    where
      end : (ns js : Names) (s₂ : List ℕ) → Model.ended (as_query ns js) s₂ ≡ of_lists (closed ns js s₂)
      end ns js [] = refl
      end ns js (a ∷ []) = refl
      end ns js (a ∷ x ∷ xs) = refl

      go₂ : (ns : Names) (l : Model.Listed)
          → Model.on_listed l Model.malformed (λ js s₂. Model.ended (as_query ns js) s₂)
          ≡ of_lists (Model.on_listed l no_lists (λ js s₂. closed ns js s₂))
      go₂ ns Model.not_listed = refl
      go₂ ns (Model.listed js s₂) = end ns js s₂

      go : (l : Model.Listed)
          → Model.on_listed l Model.malformed
          (λ ns s₁. Model.on_listed (Model.list_in s₁) Model.malformed (λ js s₂. Model.ended (as_query ns js) s₂))
          ≡ of_lists
          (Model.on_listed l no_lists
          (λ ns s₁. Model.on_listed (Model.list_in s₁) no_lists (λ js s₂. closed ns js s₂)))
      go Model.not_listed = refl
      go (Model.listed ns s₁) = go₂ ns (Model.list_in s₁)

-- 01: flag byte (0 neither, 1 keep names, 2 bool, 3 both)
pub keep_flag : (f : ℕ) → f ≤ 3 → eqb (f % 2) 1 ≡ (eqb f 1 || eqb f 3)
keep_flag zero h = refl
keep_flag (suc zero) h = refl
keep_flag (suc (suc zero)) h = refl
keep_flag (suc (suc (suc zero))) h = refl
keep_flag (suc (suc (suc (suc n)))) h = absurd (omega arith)

-- the modifier's bytes
module _ (o : Operator) (s : List ℕ) (long : 4 ≤ length s) (h₁ : get_or s 1 0 ≤ 2) (h₂ : get_or s 2 0 ≤ 3) (h₃ : get_or s 3 0 ≤ 3) where
  four : drop 1 s ≡ get_or s 1 0 ∷ get_or s 2 0 ∷ get_or s 3 0 ∷ drop 4 s
  four = rw (drop-cons s 1 0 (omega arith), drop-cons s 2 0 (omega arith), drop-cons s 3 0 (omega arith))

  by_parts : Model.modified o (drop 1 s) ≡ of_lists o (get_or s 1 0) (get_or s 2 0) (get_or s 3 0) (lists_in (drop 4 s))
  by_parts =
      ap (Model.modified o) four
      ∙ rw (le-leb (get_or s 1 0) 2 h₁, le-leb (get_or s 2 0) 3 h₂, le-leb (get_or s 3 0) 3 h₃)
      (by_lists o (get_or s 1 0) (get_or s 2 0) (get_or s 3 0) (drop 4 s))

  module _ (m : Matching) (hm : matching_of m ≡ Model.matching_of (get_or s 1 0))
      (j : Join) (hj : join_of j ≡ Model.join_of (get_or s 2 0))
      (at : ℕ) (found : ListsAt s (Some at)) (a : ℕ) (ha : a ≡ get_or s (length s - 1) 0) where
    abbrev code : Query
    code = record {
      operator = o;
      matching = m;
      join = j;
      keep_names = eqb (get_or s 3 0 % 2) 1;
      as_bool = leb 2 (get_or s 3 0);
      join_at = at;
      allowance = a;
    }

    by_query : Model.modified o (drop 1 s)
        ≡ cond (Model.fitting (query_of s code)) (Model.allowing (query_of s code)) Model.malformed
    unfolding of_lists as_query
    by_query = by_parts ∙ rw (← found.same, ← hm, ← hj, ← ha, keep_flag (get_or s 3 0) h₃)

    pub taken : (b : Bool) → b ≡ Model.fitting (query_of s code) → b ≡ true → a ≤ max_allowance
        → TakenAs s (Model.modified o (drop 1 s)) (Ok code)
    taken b fits e h = record {
      answer = rw (by_query, ← fits, e, le-leb a max_allowance h);
      within = λ q u. let z : at ≡ q.join_at = cc in rw (← z) (found.counts at refl).within;
    }

-- the operator's byte

none_asked : (s : List ℕ) → length s < 1 → Model.take_query s ≡ Model.malformed
unfolding Model.take_query
none_asked [] h = refl
none_asked (x ∷ s) h = absurd (omega arith)

begun : (s : List ℕ) → 1 ≤ length s → Model.take_query s ≡ Model.asked (operator_of (get_or s 0 0)) (drop 1 s)
unfolding Model.take_query
begun [] h = absurd (omega (arith, h))
begun (x ∷ s) h = refl

coded_none : (n : ℕ) (w : Option Operator) (e : UnknownOperator) → coded n w ≡ Err e → w ≡ none
coded_none n none e h = refl
coded_none n (some o) e h = cc

coded_some : (n : ℕ) (w : Option Operator) (o : Operator) → coded n w ≡ Ok o → w ≡ some o
coded_some n none o h = cc
coded_some n (some p) o h = cc

-- the table's row of an operator's byte says whether it is carried

row_carried : (rs : List Table.Row) (os : List Operator) → map claimed rs ≡ map Table.tested os
    → (n : ℕ) (o : Operator) → nth os n ≡ some o → carried_by (slice_get rs n) ≡ is_carried o
row_carried rs [] e n o h = cc
row_carried [] (p ∷ os) e n o h = cc
row_carried (r ∷ rs) (p ∷ os) e zero o h = let z : claimed r ≡ Table.tested o = cc in ap (λ (c : Claims). c.carried) z
row_carried (r ∷ rs) (p ∷ os) e (suc n) o h = row_carried rs os (cc) n o h

carried_byte : (n : ℕ) (o : Operator) → operator_of n ≡ some o → carried_by (table_row n) ≡ is_carried o
carried_byte n o h = row_carried table operators agrees n o h

module _ (s : List ℕ) where
  pub nothing_asked : length s < 1 → TakenAs s (Model.take_query s) (Err Malformed)
  nothing_asked h = refused_malformed s _ (none_asked s h)

  module _ (nonempty : 1 ≤ length s) where
    pub unknown : (e : UnknownOperator) → Err e ≡ coded_of (get_or s 0 0)
        → (r : Result Query QueryError) → IsErrAnd r (λ x. x ≡ BadOperator) → TakenAs s (Model.take_query s) r
    unknown e h (Ok q) u = elim u [ ]
    unknown e h (Err x) u =
        rw u (refused_operator s _ (begun s nonempty ∙ rw (coded_none (get_or s 0 0) (operator_of (get_or s 0 0)) e (sym h))))

    module _ (o : Operator) (ho : Ok o ≡ coded_of (get_or s 0 0)) (b : Bool) (hb : b ≡ carried_by (table_row (get_or s 0 0))) where
      stands : operator_of (get_or s 0 0) ≡ some o
      stands = coded_some (get_or s 0 0) (operator_of (get_or s 0 0)) o (sym ho)

      known : Model.take_query s ≡ cond b (Model.modified o (drop 1 s)) Model.bad_operator
      known = begun s nonempty ∙ rw (stands, hb, carried_byte (get_or s 0 0) o stands)

      pub not_carried_lem : b ≡ false → TakenAs s (Model.take_query s) (Err BadOperator)
      not_carried_lem e = refused_operator s _ (known ∙ rw e)

      pub carried : b ≡ true → (r : Result Query QueryError) → TakenAs s (Model.modified o (drop 1 s)) r → TakenAs s (Model.take_query s) r
      carried e r t = rw (known, e) t

-- what an answer says of the query that is taken, for callers

pub query_taken : (s : List ℕ) (t : Model.TakenQuery) (q : Query) → TakenAs s t (Ok q) → t ≡ Model.query (query_of s q)
query_taken s (Model.query p) q h = let e = h.answer in cc
query_taken s Model.bad_operator q h = let e = h.answer in cc
query_taken s Model.malformed q h = let e = h.answer in cc
query_taken s Model.bad_allowance q h = let e = h.answer in cc

pub operator_refused : (s : List ℕ) (t : Model.TakenQuery) → TakenAs s t (Err BadOperator) → t ≡ Model.bad_operator
operator_refused s (Model.query p) h = let e = h.answer in cc
operator_refused s Model.bad_operator h = refl
operator_refused s Model.malformed h = let e = h.answer in grind arith
operator_refused s Model.bad_allowance h = let e = h.answer in grind arith

pub query_malformed : (s : List ℕ) (t : Model.TakenQuery) → TakenAs s t (Err Malformed) → t ≡ Model.malformed
query_malformed s (Model.query p) h = let e = h.answer in cc
query_malformed s Model.bad_operator h = let e = h.answer in grind arith
query_malformed s Model.malformed h = refl
query_malformed s Model.bad_allowance h = let e = h.answer in grind arith

pub allowance_refused : (s : List ℕ) (t : Model.TakenQuery) → TakenAs s t (Err BadAllowance) → t ≡ Model.bad_allowance
allowance_refused s (Model.query p) h = let e = h.answer in cc
allowance_refused s Model.bad_operator h = let e = h.answer in grind arith
allowance_refused s Model.malformed h = let e = h.answer in grind arith
allowance_refused s Model.bad_allowance h = refl
