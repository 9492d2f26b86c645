-- One many-side place of a join planned: its clash, or its answer rows noted and marked. Assumes nothing.
use Rattle.std.specs.Prelude.{ℕ, zero, suc, ◌+◌, ◌*◌, ◌≤◌, ◌<◌, ◌≡◌, cond, List, [], ◌∷◌, eqb, length, get_or, take, Result, Ok, Err}
use Rattle.std.proofs.Math.Option.{Option, none, some}
use Rattle.model.specs.Limits.{max_series}
use Rattle.model.specs.Query.{Side}
use Rattle.semantics.specs.Events.{Duplicate}
use Rattle.plan.specs.Keys.{dropped}
use Rattle.plan.specs.Joins.{leads_clash, lead_rows}
use Rattle.answers.specs.Plans.{duplicate}
use Rattle.end_codes.specs.Codes.{side_first, side_last}
use Rattle.index_lists.specs.Places.{NotedAll}
use Rattle.join_plan.specs.lead_marks.Marks.{LeadsPut, LastsNoted}
use Rattle.join_plan.specs.join_leads.Checks.{LedAs, RowsMarked}
use Rattle.answers.specs.declared.Clash.{Clash}

-- no mark stands from the row n on
pub record Clean (n : ℕ) (marks : List ℕ) : Type 0 where
  pub each : (i : ℕ) → n * 8 ≤ i → get_or marks i 0 ≡ 0

-- the clash that is told, on the one side
abbrev pub place_clash : Side → Result ℕ Clash → Option Duplicate
place_clash side (Ok n) = none
place_clash side (Err c) = some (duplicate side c.kept c.failed)

-- rows are noted behind the n before; at a clash none is
pub record PlaceNotes (rows before : List ℕ) (n : ℕ) (after : List ℕ) (r : Result ℕ Clash) : Type 0 where
  pub noted : (c : ℕ) → r ≡ Ok c → NotedAll rows n before after c
  pub stopped : (d : Clash) → r ≡ Err d → after ≡ before
  pub long : length after ≡ length before

-- the marks of the rows that are noted behind the n before, by leaders
pub record LeadsMarked (leads list : List ℕ) (n : ℕ) (before after : List ℕ) (r : Result ℕ Clash) : Type 0 where
  pub rows : (c : ℕ) → r ≡ Ok c → RowsMarked leads list n c before after
  pub stopped : (d : Clash) → r ≡ Err d → after ≡ before
  pub long : length after ≡ length before

-- the place m by its leaders: all their merges are tried before a row is noted
pub record PlacePlanned (allowance m n p : ℕ) (rows leads list₀ marks₀ list marks : List ℕ) (r : Result ℕ Clash) : Type 0 where
  pub clash : (side : Side) → leads_clash allowance p rows side leads 0 leads ≡ place_clash side r
  pub notes : PlaceNotes (lead_rows m 0 leads) list₀ n list r
  pub marked : LeadsMarked leads list n marks₀ marks r

-- of the n places from i on the place f leads itself, and no other has a leader
unfoldable pub sole_leads : ℕ → ℕ → ℕ → List ℕ
sole_leads f i zero = []
sole_leads f i (suc n) = cond (eqb i f) f dropped ∷ sole_leads f (suc i) n

-- by leaders of which those from first on stand in `leads`, where no mark stood behind the n rows before
pub record LeadsPlanned (allowance m n p : ℕ) (rows : List ℕ) (first : ℕ) (leads list₀ marks₀ list marks : List ℕ)
    (r : Result ℕ Clash) : Type 0 where
  pub each : (all : List ℕ) → LedAs all first leads → Clean n marks₀
      → PlacePlanned allowance m n p rows all list₀ marks₀ list marks r

-- the leaders of all places, where the code c has the first and the last place of a key: of one place it leads itself,
-- of several those between stand in `leads`
pub record PlaceLeads (all : List ℕ) (c : ℕ) (leads : List ℕ) : Type 0 where
  pub sole : side_first c ≡ side_last c → all ≡ sole_leads (side_first c) 0 (length leads)
  pub several : (side_first c ≡ side_last c → ⊥) → LedAs all (side_first c) (take (side_last c + 1) leads)

-- the place m by the leaders of its key, whose code is c
pub record PlaceDone (allowance m c n p : ℕ) (rows leads list₀ marks₀ list marks : List ℕ) (r : Result ℕ Clash) : Type 0 where
  pub each : (all : List ℕ) → PlaceLeads all c leads
      → PlacePlanned allowance m n p rows all list₀ marks₀ list marks r

-- where a key has several places, its leaders are written, and their last places noted
pub record PlaceMarked (c : ℕ) (all leads lasts : List ℕ) : Type 0 where
  pub led : (side_first c ≡ side_last c → ⊥) → LeadsPut (side_first c) (side_last c) all leads
  pub noted : (side_first c ≡ side_last c → ⊥) → LastsNoted (side_first c) (take (side_last c + 1) leads) lasts

-- what is asked for the place m: rows of p readings, leaders and their last places
pub record PlaceHeld (m c n p : ℕ) (rows leads lasts marks : List ℕ) : Type 0 where
  pub place : m < max_series
  pub before : n ≤ m * max_series
  pub few : length leads ≤ max_series
  pub first : side_first c ≤ length leads
  pub order : side_first c ≤ side_last c
  pub last : (side_first c ≡ side_last c → ⊥) → side_last c < length leads
  pub held : length leads * p ≤ length rows
  pub room : length leads ≤ length lasts
  pub noted : (side_first c ≡ side_last c → ⊥) → LastsNoted (side_first c) (take (side_last c + 1) leads) lasts
  pub clean : Clean n marks
