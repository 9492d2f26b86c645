-- The next tag of a choice, by the next of all: a walk by a test of keys, as `next_chosen`. Assumes nothing.
use Prim.Native.Nat.{ℕ, zero, suc, ◌≤◌, ◌<◌, ◌-◌}
use mathlib.Core.Path.{◌≡◌, refl, sym, ap, ◌∙◌}
use mathlib.Core.List.{List, [], ◌∷◌}
use mathlib.Core.Bool.{Bool, true, false, not, cond}
use native.Mathlib.Omega.{arith}
use lib.ListN.{length, take, drop}
use Rattle.model.specs.Lists.{is_empty}
use Rattle.model.specs.Labels.{Tag}
use Rattle.fields.specs.Fields.{field_at}
use Rattle.record_tags.specs.Lenient.{tags_up_to}
use Rattle.record_tags.specs.Cursors.{on_place, tag_at, some_tag, Standing, keeps, next_tag, NextAt, every, Sieve}
use Rattle.std.specs.Prelude.{Some, None, unwrap_or}
use Rattle.std.specs.declared.option.Option.{Option}
use Rattle.fields.specs.declared.Span.{Span}
use Rattle.record_tags.specs.declared.TagSpan.{TagSpan}
use Rattle.record_tags.proofs.Cursors.{next_ended}

module _ (f : List Tag → List Tag) (s : List ℕ) (n p : ℕ) (x : Option TagSpan) (hx : NextAt f s n p x) (t : TagSpan) (ex : x ≡ Some t) where
  found : Standing s t.start t.key t.key_end t.end × (t.left < n)
  found = rw ex at hx.stands

  pub next_stands : Standing s t.start t.key t.key_end t.end
  next_stands = found.0

  pub next_fewer : t.left < n
  next_fewer = found.1

  pub next_tags : f (tags_up_to n (drop p s)) ≡ tag_at s t.key t.key_end t.end ∷ f (tags_up_to t.left (drop t.end s))
  next_tags = rw ex at hx.tags

  pub key_order_lem : t.key ≤ t.key_end
  key_order_lem = found.0.key_order

  pub key_within : t.key_end ≤ length s
  key_within = omega (arith, found.0.value_order, found.0.within)

sieve_keeps : (test : List ℕ → Bool) (f : List Tag → List Tag) → Sieve test f → (t : Tag) → keeps f t ≡ test t.key
sieve_keeps test f v t = rw (v.one t [], v.none) (go (test t.key))
  where
    go : (b : Bool) → not (is_empty (cond b (t ∷ []) [])) ≡ b
    go true = refl
    go false = refl

module _ (f : List Tag → List Tag) (s : List ℕ) where
  -- at the fields of a tag, found or short
  abbrev among : ℕ → ℕ → Option Span → (ℕ → Option Span) → Option TagSpan
  among n p x value =
      on_place x None (λ a e. on_place (value e) None (λ b z. cond (keeps f (tag_at s a e z)) (some_tag p a e z n) (next_tag f s n z)))

  abbrev plain : ℕ → ℕ → Option Span → (ℕ → Option Span) → Option TagSpan
  plain n p x value = on_place x None (λ a e. on_place (value e) None (λ b z. some_tag p a e z n))

  end_among : (n p : ℕ) (x : Option Span) (value : ℕ → Option Span) → plain n p x value ≡ None → among n p x value ≡ None
  end_among n p None value h = refl
  end_among n p (Some k) value h = go (value k.end) h
    where
      go : (y : Option Span) → plain n p (Some k) (λ i. y) ≡ None → among n p (Some k) (λ i. y) ≡ None
      go None h = refl
      go (Some v) h = grind arith

  abbrev spanned : ℕ → ℕ → Span → Span → TagSpan
  spanned n p k v = record { start = p; key = k.start; key_end = k.end; end = v.end; left = n }

  tag_among : (n p : ℕ) (x : Option Span) (value : ℕ → Option Span) (t : TagSpan) → plain n p x value ≡ Some t
      → among n p x value ≡ cond (keeps f (tag_at s t.key t.key_end t.end)) (Some t) (next_tag f s t.left t.end)
  tag_among n p None value t h = grind arith
  tag_among n p (Some k) value t h = go (value k.end) h
    where
      go : (y : Option Span) → plain n p (Some k) (λ i. y) ≡ Some t
          → among n p (Some k) (λ i. y) ≡ cond (keeps f (tag_at s t.key t.key_end t.end)) (Some t) (next_tag f s t.left t.end)
      go None h = grind arith
      go (Some v) h =
          let e : spanned n p k v ≡ t = ap (λ (o : Option TagSpan). unwrap_or o (spanned n p k v)) h in
          rw (← e) refl

  pub choice_ended : (n p : ℕ) → next_tag every s n p ≡ None → next_tag f s n p ≡ None
  unfolding next_tag
  choice_ended zero p h = refl
  choice_ended (suc n) p h = end_among n p (field_at s p) (field_at s) h

  pub choice_stepped : (n p : ℕ) (t : TagSpan) → next_tag every s n p ≡ Some t
      → next_tag f s n p ≡ cond (keeps f (tag_at s t.key t.key_end t.end)) (Some t) (next_tag f s t.left t.end)
  unfolding next_tag
  choice_stepped zero p t h = grind arith
  choice_stepped (suc n) p t h = tag_among n p (field_at s p) (field_at s) t h

-- n tags are left at p of the n₀ at p₀, and none of those passed is chosen
pub record Passed (test : List ℕ → Bool) (f : List Tag → List Tag) (s : List ℕ) (n₀ p₀ n p : ℕ) : Type 0 where
  pub sieve : Sieve test f
  pub asked : next_tag f s n₀ p₀ ≡ next_tag f s n p
  pub same : f (tags_up_to n₀ (drop p₀ s)) ≡ f (tags_up_to n (drop p s))
  pub fewer : n ≤ n₀

pub none_passed : (test : List ℕ → Bool) (f : List Tag → List Tag) (s : List ℕ) (n p : ℕ) → Sieve test f → Passed test f s n p n p
none_passed test f s n p v = record { sieve = v; asked = refl; same = refl; fewer = omega arith }

module _ (test : List ℕ → Bool) (f : List Tag → List Tag) (s : List ℕ) (n₀ p₀ n p : ℕ) (inv : Passed test f s n₀ p₀ n p)
    (x : Option TagSpan) (hx : NextAt every s n p x) where
  pub all_passed : x ≡ None → NextAt f s n₀ p₀ None
  all_passed ex =
      record {
        next = sym (inv.asked ∙ choice_ended f s n p (sym hx.next ∙ ex));
        tags = inv.same ∙ rw (next_ended every s n p x hx ex) inv.sieve.none;
        stands = tt;
      }

  module _ (t : TagSpan) (ex : x ≡ Some t) (b : Bool) (hb : b ≡ test (take (t.key_end - t.key) (drop t.key s))) where
    found_next : next_tag f s n₀ p₀ ≡ cond b (Some t) (next_tag f s t.left t.end)
    found_next =
        inv.asked ∙ choice_stepped f s n p t (sym hx.next ∙ ex)
        ∙ rw (sieve_keeps test f inv.sieve (tag_at s t.key t.key_end t.end), hb)

    tested : f (tags_up_to n₀ (drop p₀ s))
        ≡ cond b (tag_at s t.key t.key_end t.end ∷ f (tags_up_to t.left (drop t.end s))) (f (tags_up_to t.left (drop t.end s)))
    tested =
        inv.same
        ∙ rw (next_tags every s n p x hx t ex, hb) (inv.sieve.one (tag_at s t.key t.key_end t.end) (tags_up_to t.left (drop t.end s)))

    pub one_chosen : b ≡ true → NextAt f s n₀ p₀ (Some t)
    one_chosen eb =
        record {
          next = sym (rw eb at found_next);
          tags = rw eb at tested;
          stands = (next_stands every s n p x hx t ex, omega (arith, inv.fewer, next_fewer every s n p x hx t ex));
        }

    pub one_passed : b ≡ false → Passed test f s n₀ p₀ t.left t.end
    one_passed eb =
        record {
          sieve = inv.sieve;
          asked = rw eb at found_next;
          same = rw eb at tested;
          fewer = omega (arith, inv.fewer, next_fewer every s n p x hx t ex);
        }
