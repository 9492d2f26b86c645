-- A table of places by key number, filled. Assumes nothing.
use Prim.Native.Nat.{ℕ, suc, min, ◌+◌, ◌≤◌, ◌<◌}
use mathlib.Core.Path.{◌≡◌, refl, sym, ap, ◌∙◌}
use mathlib.Core.Bool.{Bool, true, false, cond}
use mathlib.Core.List.{List}
use native.Mathlib.Numerals.{add-one}
use native.Mathlib.Omega.{arith}
use lib.Dec.{eqb, ltb}
use lib.ListN.{length, get_or, drop, set, length-set, replicate, length-replicate, get_or-replicate, drop_of_length-le}
use lib.Seq.{drop-cons, get_or-set_same, get_or-set_other}
use borrow.Author.Tests.{eqb-true, eqb-false, lt-ltb}
use Rattle.model.specs.Lists.{cases}
use Rattle.plan.specs.Keys.{first_of, last_from, last_of}
use Rattle.plan.specs.Laws.Ends.{first_most}
use Rattle.key_ends.specs.declared.Ends.{Ends}
use Rattle.key_ends.specs.Ends.{first_small, last_small}
use Rattle.key_ends.specs.Tables.{beyond, noted, Table}

noted_size : (t : List Ends) (x i : ℕ) → length (noted t x i) ≡ length t
noted_size t x i = cases (ltb x (length t)) (λ e. rw e (length-set t x _)) (λ e. rw e)

noted_at : (t : List Ends) (x i k : ℕ) → k < length t
    → get_or (noted t x i) k beyond
    ≡ cond (eqb x k) (record { first = min (get_or t k beyond).first i; last = i }) (get_or t k beyond)
noted_at t x i k h =
    cases (eqb x k)
    (λ e. let z : x ≡ k = eqb-true x k e in rw (e, z, lt-ltb k (length t) h) (get_or-set_same t k _ beyond h))
    (λ e. rw e (other e (ltb x (length t))))
  where
    other : eqb x k ≡ false → (b : Bool)
        → get_or (cond b (set t x (record { first = min (get_or t x beyond).first i; last = i })) t) k beyond
        ≡ get_or t k beyond
    other e true = get_or-set_other t x k _ beyond (λ z. eqb-false x k e (sym z))
    other e false = refl

-- a table that says that there is none
pub blank : (n : ℕ) → Table (λ k. n) (λ k. n) (replicate 1024 (record { first = n; last = n }))
blank n = record {
  size = length-replicate {A = Ends} 1024 (record { first = n; last = n });
  first = λ k h. ap (λ (e : Ends). e.first) (get_or-replicate {A = Ends} 1024 k (record { first = n; last = n }) beyond h);
  last = λ k h. ap (λ (e : Ends). e.last) (get_or-replicate {A = Ends} 1024 k (record { first = n; last = n }) beyond h);
}

-- the places that a table has are few
module _ (keys : List ℕ) (few : length keys ≤ 512) (t : List Ends) (b : Table (first_of keys) (last_of keys) t) (k : ℕ)
    (h : k < length t) (e : Ends) (is : e ≡ get_or t k beyond) where
  pub first_fine : e.first ≤ 512
  first_fine = rw is (omega (arith, b.first k (omega (arith, b.size)), first_small keys few k))

  pub last_fine : e.last ≤ 512
  last_fine = rw is (omega (arith, b.last k (omega (arith, b.size)), last_small keys few k))

-- the places before i are noted
pub record Noting (keys : List ℕ) (i : ℕ) (t : List Ends) : Type 0 where
  pub size : length t ≡ 1024
  pub small : (k : ℕ) → k < 1024 → (get_or t k beyond).first ≤ length keys
  pub first : (k : ℕ) → k < 1024 → min (get_or t k beyond).first (i + first_of (drop i keys) k) ≡ first_of keys k
  pub last : (k : ℕ) → k < 1024 → last_from (get_or t k beyond).last i (drop i keys) k ≡ last_of keys k

module _ (keys : List ℕ) where
  pub noting_starts : (t : List Ends) → Table (λ k. length keys) (λ k. length keys) t → Noting keys 0 t
  noting_starts t b = record {
    size = b.size;
    small = λ k h. omega (arith, b.first k h);
    first = λ k h. omega (arith, b.first k h, first_most k keys);
    last = λ k h. ap (λ n. last_from n 0 keys k) (b.last k h);
  }

  module _ (i : ℕ) (t : List Ends) (inv : Noting keys i t) where
    module _ (h : i < length keys) (t' : List Ends) (e : t' ≡ noted t (get_or keys i 0) i) where
      abbrev x : ℕ
      x = get_or keys i 0

      -- from one place to the next

      first_step : (k : ℕ) → first_of (drop i keys) k ≡ cond (eqb x k) 0 (suc (first_of (drop (i + 1) keys) k))
      unfolding first_of
      first_step k = rw (drop-cons keys i 0 h, add-one)

      last_step : (k n : ℕ) → last_from n i (drop i keys) k ≡ last_from (cond (eqb x k) i n) (i + 1) (drop (i + 1) keys) k
      unfolding last_from
      last_step k n = rw (drop-cons keys i 0 h, add-one)

      module _ (k : ℕ) (l : k < 1024) where
        here : get_or t' k beyond
            ≡ cond (eqb x k) (record { first = min (get_or t k beyond).first i; last = i }) (get_or t k beyond)
        here = ap (λ (s : List Ends). get_or s k beyond) e ∙ noted_at t x i k (omega (arith, inv.size))

        next_small : (get_or t' k beyond).first ≤ length keys
        next_small =
            cases (eqb x k)
            (λ f. rw (here, f) (omega (arith, inv.small k l)))
            (λ f. rw (here, f) (inv.small k l))

        next_first : min (get_or t' k beyond).first (i + 1 + first_of (drop (i + 1) keys) k) ≡ first_of keys k
        next_first =
            cases (eqb x k)
            (λ f. let s = rw f at (first_step k) in rw (here, f) (omega (arith, inv.first k l, s)))
            (λ f. let s = rw f at (first_step k) in rw (here, f) (omega (arith, inv.first k l, s)))

        next_last : last_from (get_or t' k beyond).last (i + 1) (drop (i + 1) keys) k ≡ last_of keys k
        next_last =
            cases (eqb x k)
            (λ f. let s = rw f at (last_step k (get_or t k beyond).last) in rw (here, f) (sym s ∙ inv.last k l))
            (λ f. let s = rw f at (last_step k (get_or t k beyond).last) in rw (here, f) (sym s ∙ inv.last k l))

      pub noting_turn : Noting keys (i + 1) t'
      noting_turn = record {
        size = ap length e ∙ noted_size t x i ∙ inv.size;
        small = next_small;
        first = next_first;
        last = next_last;
      }

    pub noting_ends : length keys ≤ i → Table (first_of keys) (last_of keys) t
    unfolding first_of last_from
    noting_ends h = record {
      size = inv.size;
      first = λ k l. let s = rw (drop_of_length-le keys h) at (inv.first k l) in omega (arith, s, inv.small k l);
      last = λ k l. rw (drop_of_length-le keys h) at (inv.last k l);
    }
