-- The one-side leaders of a many-side record, marked up to a place, and their last places. Assumes nothing.
use Rattle.std.specs.Prelude.{ℕ, ◌+◌, ◌%◌, ◌≤◌, ◌<◌, ◌≡◌, false, cond, List, eqb, ltb, length, get_or, set}
use Rattle.model.specs.Limits.{max_series}
use Rattle.model.specs.Edits.{Names}
use Rattle.plan.specs.Joins.{lead_of, leads_of}
use Rattle.record_tags.specs.Lenient.{labels_of}
use Rattle.chosen_tags.specs.Keys.{hash_of}
use Rattle.set_tags.specs.edited_tags.Walks.{edited_tags}
use Rattle.side_parts.specs.Sides.{record_at, labels_in}
use Rattle.join_records.specs.Edits.{tags_by}

-- the leaders of all one-side places for a many-side record of the key k
abbrev pub leads_in : Names → Names → List ℕ → ℕ → List ℕ → List ℕ → List ℕ → List ℕ
leads_in join skip rec k array at keys = leads_of (tags_by join skip) (labels_of rec) k keys (labels_in array at)

-- the hash of the tags edited from the record i
abbrev pub edited_hash : Names → Names → List ℕ → List ℕ → List ℕ → ℕ → ℕ
edited_hash join skip many array at i = hash_of (edited_tags join skip many (record_at array at i))

-- places are noted by the buckets of their hashes
abbrev pub buckets : ℕ
buckets = 512

abbrev pub bucket_of : ℕ → ℕ
bucket_of h = h % buckets

-- the place o is noted for the hash h, where none before it is; r is what is noted then
pub record BucketNoted (table : List ℕ) (h o : ℕ) (after : List ℕ) (r : ℕ) : Type 0 where
  pub place : r ≡ cond (ltb o (get_or table (bucket_of h) 0)) o (get_or table (bucket_of h) 0)
  pub noted : after ≡ set table (bucket_of h) r

-- no place of the key k from its first up to `from` has the hash h
pub record NoneHashed (k : ℕ) (keys hashes : List ℕ) (first from h : ℕ) : Type 0 where
  pub order : first ≤ from
  pub each : (i : ℕ) → first ≤ i → i < from → get_or keys i 0 ≡ k → get_or hashes i 0 ≡ h → ⊥

-- the places from the key's first up to o have their leaders, and those of the key their hashes
pub record Marking (join skip : Names) (many : List ℕ) (k : ℕ) (array at keys leads hashes : List ℕ) (first o : ℕ) :
    Type 0 where
  pub count : length at ≡ length keys + 1
  pub few : length keys ≤ max_series
  pub none : (i : ℕ) → i < first → i < length keys → eqb (get_or keys i 0) k ≡ false
  pub led : (i : ℕ) → first ≤ i → i < o → get_or leads i 0 ≡ get_or (leads_in join skip many k array at keys) i 0
  pub hashed : (i : ℕ) → first ≤ i → i < o → get_or keys i 0 ≡ k
      → get_or hashes i 0 ≡ edited_hash join skip many array at i

-- r leads the place o, of whatever key and keys the leaders before it are, where none before `from` has its hash
pub record LeadFound (join skip : Names) (many array at leads hashes : List ℕ) (from o r : ℕ) : Type 0 where
  pub each : (k : ℕ) (keys : List ℕ) (first : ℕ) → Marking join skip many k array at keys leads hashes first o
      → NoneHashed k keys hashes first from (edited_hash join skip many array at o) → o < length keys
      → get_or keys o 0 ≡ k
      → r ≡ lead_of (tags_by join skip) (labels_of many) k (labels_of (record_at array at o)) 0 keys (labels_in array at)

-- the leaders of the places from first to last are written
pub record LeadsPut (first last : ℕ) (all leads : List ℕ) : Type 0 where
  pub each : (i : ℕ) → first ≤ i → i ≤ last → get_or leads i 0 ≡ get_or all i 0

-- of the places before `to` l is the last that has the leader o
pub record LastAt (leads : List ℕ) (to o l : ℕ) : Type 0 where
  pub from : o ≤ l
  pub within : l < to
  pub led : get_or leads l 0 ≡ o
  pub none : (j : ℕ) → l < j → j < to → eqb (get_or leads j 0) o ≡ false

-- each leader from the place first on has its last place noted
pub record LastsNoted (first : ℕ) (leads lasts : List ℕ) : Type 0 where
  pub each : (o : ℕ) → first ≤ o → o < length leads → get_or leads o 0 ≡ o
      → LastAt leads (length leads) o (get_or lasts o 0)
