-- A walk over the tags of a record: where the next tag stands, and what is left behind it. Assumes nothing.
use Rattle.std.specs.Prelude.{ℕ, zero, suc, ◌+◌, ◌-◌, ◌≤◌, ◌<◌, ◌≡◌, refl, Bool, not, cond, List, [], ◌∷◌, ◌++◌, ltb, length, get_or, take, drop}
use Rattle.std.proofs.Common.{sym, append_assoc}
use Rattle.model.specs.Lists.{keep, is_empty}
use Rattle.model.specs.Labels.{Tag}
use Rattle.model.specs.Record.{encode_field, encode_tags}
use Rattle.fields.specs.Fields.{field_at}
use Rattle.std.specs.Prelude.{Some, None}
use Rattle.std.specs.declared.option.Option.{Option}
use Rattle.fields.specs.declared.Span.{Span}
use Rattle.record_tags.specs.Lenient.{tags_up_to, labels_of}
use Rattle.record_tags.specs.declared.Tags.{Tags}
use Rattle.record_tags.specs.declared.TagSpan.{TagSpan}
use Rattle.record_tags.specs.declared.tag_parts.Tag as T

abbrev pub on_place : {A : Type 0} → Option Span → A → (ℕ → ℕ → A) → A
on_place (Some x) a f = f x.start x.end
on_place None a f = a

-- where a record's tags stand, and how many there are
pub record TagsPlace : Type 0 where
  pub at : ℕ
  pub count : ℕ

abbrev pub no_tags : TagsPlace
no_tags = record { at = 0; count = 0 }

-- 01: name, tag count (1), then per tag .. . Where the bytes end before the count there are no tags.
unfoldable pub tags_place : List ℕ → TagsPlace
tags_place s =
    on_place (field_at s 0) no_tags (λ start end. cond (ltb end (length s)) (record { at = end + 1; count = get_or s end 0 }) no_tags)

-- the tags that are left
abbrev pub tags_left : Tags → List Tag
tags_left t = tags_up_to t.count (drop t.at t.bytes.now)

-- t has a record's tags: where they stand and how many there are; and what follows of it
pub record TagsOf (s : List ℕ) (t : Tags) : Type 0 where
  pub bytes : t.bytes.now ≡ s
  pub place : ◌≡◌ {A = TagsPlace} (record { at = t.at; count = t.count }) (tags_place s)
  pub tags : tags_left t ≡ (labels_of s).tags
  pub few : t.count ≤ 255

-- a tag's bytes
abbrev pub encode_tag : Tag → List ℕ
encode_tag t = encode_field t.key ++ encode_field t.value

-- a tag of the code, as one of the definitions
abbrev pub tag_of : T.Tag → Tag
tag_of t = record { key = t.key.now; value = t.value.now }

pub encode_tag_lem : (t : Tag) (ts : List Tag) → encode_tags (t ∷ ts) ≡ encode_tag t ++ encode_tags ts
unfolding encode_tags
encode_tag_lem t ts = sym (append_assoc (encode_field t.key) (encode_field t.value) (encode_tags ts))

-- the tag whose key lies from `key` to `key_end`, and whose value, behind its length byte, ends at `end`
abbrev pub tag_at : List ℕ → ℕ → ℕ → ℕ → Tag
tag_at s key key_end end =
    record { key = take (key_end - key) (drop key s); value = take (end - (key_end + 1)) (drop (key_end + 1) s) }

-- such a tag, its bytes from `start` to `end`
pub record Standing (s : List ℕ) (start key key_end end : ℕ) : Type 0 where
  pub first : key ≡ start + 1
  pub key_order : key ≤ key_end
  pub value_order : key_end + 1 ≤ end
  pub within : end ≤ length s
  pub bytes : take (end - start) (drop start s) ≡ encode_tag (tag_at s key key_end end)

-- the tag that stands so, and how many tags are left behind it
abbrev pub some_tag : ℕ → ℕ → ℕ → ℕ → ℕ → Option TagSpan
some_tag start key key_end end left =
    Some (record { start = start; key = key; key_end = key_end; end = end; left = left })

-- the tags that a choice f makes among those left: the next one, and the choice among those behind it
abbrev pub chosen_from : (List Tag → List Tag) → List ℕ → Option TagSpan → List Tag
chosen_from f s (Some t) = tag_at s t.key t.key_end t.end ∷ f (tags_up_to t.left (drop t.end s))
chosen_from f s None = []

abbrev pub StandingNext : List ℕ → ℕ → Option TagSpan → Type 0
StandingNext s n (Some t) = Standing s t.start t.key t.key_end t.end × (t.left < n)
StandingNext s n None = Unit {0}

-- whether a choice f keeps a tag
abbrev pub keeps : (List Tag → List Tag) → Tag → Bool
keeps f t = not (is_empty (f (t ∷ [])))

-- the first of the n tags at a place that a choice f keeps, and how many are left behind it; a tag that is cut ends them
unfoldable pub next_tag : (List Tag → List Tag) → List ℕ → ℕ → ℕ → Option TagSpan
next_tag f s zero at = None
next_tag f s (suc n) at =
    on_place (field_at s at) None (λ key key_end.
    on_place (field_at s key_end) None (λ value end.
    cond (keeps f (tag_at s key key_end end)) (some_tag at key key_end end n) (next_tag f s n end)))

-- x is the first tag that the choice f makes among the n tags at a place; and what follows of it
pub record NextAt (f : List Tag → List Tag) (s : List ℕ) (n at : ℕ) (x : Option TagSpan) : Type 0 where
  pub next : x ≡ next_tag f s n at
  pub tags : f (tags_up_to n (drop at s)) ≡ chosen_from f s x
  pub stands : StandingNext s n x

-- every tag is chosen
abbrev pub every : List Tag → List Tag
every ts = ts

-- f chooses tags by a test of their keys
pub record Sieve (test : List ℕ → Bool) (f : List Tag → List Tag) : Type 0 where
  pub none : f [] ≡ []
  pub one : (t : Tag) (ts : List Tag) → f (t ∷ ts) ≡ cond (test t.key) (t ∷ f ts) (f ts)

pub keep_sieve : (test : List ℕ → Bool) → Sieve test (keep (λ t. test t.key))
keep_sieve test = record { none = refl; one = λ t ts. refl }
