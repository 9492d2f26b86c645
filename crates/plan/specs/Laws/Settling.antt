-- What events come to, as their first clash and their good series. Assumes nothing.
use Rattle.std.specs.Prelude.{ℕ, ◌≡◌, refl, List, [], ◌∷◌, ◌++◌, map}
use Rattle.std.proofs.Common.{sym, ap, ◌∙◌, arith}
use Rattle.std.proofs.Math.Option.{Option, none, some}
use Rattle.model.specs.Lists.{gather}
use Rattle.model.specs.Vector.{Series, Shape}
use Rattle.semantics.specs.Places.{Place, Rank}
use Rattle.semantics.specs.Events.{Duplicate, Event, good, bad, Ranked, produced_by, Verdict, answer, duplicate, front, settle}
use Rattle.semantics.specs.Call.{concluded}
use Rattle.plan.specs.Conclude.{or_else, conclude}
use Rattle.plan.specs.Laws.Common.{or_assoc}

abbrev clash_before : Event → Option Duplicate → Option Duplicate
clash_before (bad d) o = some d
clash_before (good s) o = o

abbrev good_before : Event → List Series → List Series
good_before (bad d) l = l
good_before (good s) l = s ∷ l

clash_before_lem : (e : Event) (o p : Option Duplicate) → clash_before e (or_else o p) ≡ or_else (clash_before e o) p
clash_before_lem (bad d) o p = refl
clash_before_lem (good s) o p = refl

good_before_lem : (e : Event) (l m : List Series) → good_before e (l ++ m) ≡ good_before e l ++ m
good_before_lem (bad d) l m = refl
good_before_lem (good s) l m = refl

module _ {R : Type 0} where
  abbrev pub first_clash : List (Ranked R Event) → Option Duplicate
  first_clash [] = none
  first_clash (e ∷ l) = clash_before e.what (first_clash l)

  abbrev pub good_series : List (Ranked R Event) → List Series
  good_series [] = []
  good_series (e ∷ l) = good_before e.what (good_series l)

  pub clash_append : (l m : List (Ranked R Event)) → first_clash (l ++ m) ≡ or_else (first_clash l) (first_clash m)
  clash_append [] m = refl
  clash_append (e ∷ l) m = ap (clash_before e.what) (clash_append l m) ∙ clash_before_lem e.what (first_clash l) (first_clash m)

  pub good_append : (l m : List (Ranked R Event)) → good_series (l ++ m) ≡ good_series l ++ good_series m
  good_append [] m = refl
  good_append (e ∷ l) m = ap (good_before e.what) (good_append l m) ∙ good_before_lem e.what (good_series l) (good_series m)

-- the first that there is
abbrev pub first_over : {A : Type 0} → (A → Option Duplicate) → List A → Option Duplicate
first_over f [] = none
first_over f (x ∷ xs) = or_else (f x) (first_over f xs)

pub first_append : {A : Type 0} (f : A → Option Duplicate) (xs ys : List A) → first_over f (xs ++ ys) ≡ or_else (first_over f xs) (first_over f ys)
first_append f [] ys = refl
first_append f (x ∷ xs) ys = rw (first_append f xs ys) (or_assoc (f x) (first_over f xs) (first_over f ys))

pub clash_gather : {R A : Type 0} (g : A → List (Ranked R Event)) (xs : List A) → first_clash (gather g xs) ≡ first_over (λ x. first_clash (g x)) xs
clash_gather g [] = refl
clash_gather g (x ∷ xs) = clash_append (g x) (gather g xs) ∙ ap (or_else (first_clash (g x))) (clash_gather g xs)

pub good_gather : {R A : Type 0} (g : A → List (Ranked R Event)) (xs : List A) → good_series (gather g xs) ≡ gather (λ x. good_series (g x)) xs
good_gather g [] = refl
good_gather g (x ∷ xs) = good_append (g x) (gather g xs) ∙ ap (λ l. good_series (g x) ++ l) (good_gather g xs)

pub clash_produced : (p : Place) (l : List (Ranked Place Event)) → first_clash (produced_by p l) ≡ first_clash l
clash_produced p [] = refl
clash_produced p (e ∷ l) = ap (clash_before e.what) (clash_produced p l)

pub good_produced : (p : Place) (l : List (Ranked Place Event)) → good_series (produced_by p l) ≡ good_series l
good_produced p [] = refl
good_produced p (e ∷ l) = ap (good_before e.what) (good_produced p l)

-- of a verdict

abbrev verdict_clash : Verdict → Option Duplicate
verdict_clash (answer l) = none
verdict_clash (duplicate x) = some x.what

abbrev verdict_series : Verdict → List Series
verdict_series (answer l) = map (λ e. e.what) l
verdict_series (duplicate x) = []

clash_front : (r : Rank) (e : Event) (v : Verdict) → verdict_clash (front r e v) ≡ clash_before e (verdict_clash v)
clash_front r (bad d) v = refl
clash_front r (good s) (answer l) = refl
clash_front r (good s) (duplicate x) = refl

settled_clash : (l : List (Ranked Rank Event)) → verdict_clash (settle l) ≡ first_clash l
settled_clash [] = refl
settled_clash (e ∷ l) = clash_front e.rank e.what (settle l) ∙ ap (clash_before e.what) (settled_clash l)

not_none : {X : Type 0} (d : Duplicate) → ◌≡◌ {A = Option Duplicate} (some d) none → X
not_none d e = absurd (let z : ◌≡◌ {A = ℕ} 0 1 = cc in omega arith)

settled_series : (l : List (Ranked Rank Event)) → first_clash l ≡ none → verdict_series (settle l) ≡ good_series l
settled_series [] h = refl
settled_series (e ∷ l) h = go e.what (settle l) refl h (settled_series l)
  where
    go : (w : Event) (v : Verdict) → settle l ≡ v → clash_before w (first_clash l) ≡ none → (first_clash l ≡ none → verdict_series (settle l) ≡ good_series l)
        → verdict_series (front e.rank w v) ≡ good_before w (good_series l)
    go (bad d) v hv h ih = not_none d h
    go (good s) (duplicate x) hv h ih = not_none x.what (ap verdict_clash (sym hv) ∙ settled_clash l ∙ h)
    go (good s) (answer m) hv h ih = ap (λ t. s ∷ t) (ap verdict_series (sym hv) ∙ ih h)

-- the law: a settled list of events concludes by its first clash and its good series
pub settled_concludes : (label_room room : ℕ) (shape : Shape) (l : List (Ranked Rank Event))
    → concluded label_room room shape (settle l) ≡ conclude label_room room shape (first_clash l) (good_series l)
settled_concludes a b shape l = go (settle l) refl (first_clash l) refl
  where
    go : (v : Verdict) → settle l ≡ v → (o : Option Duplicate) → first_clash l ≡ o → concluded a b shape v ≡ conclude a b shape o (good_series l)
    go (answer m) hv none ho = ap (conclude a b shape none) (ap verdict_series (sym hv) ∙ settled_series l ho)
    go (answer m) hv (some d) ho = not_none d (sym ho ∙ sym (settled_clash l) ∙ ap verdict_clash hv)
    go (duplicate x) hv none ho = not_none x.what (ap verdict_clash (sym hv) ∙ settled_clash l ∙ ho)
    go (duplicate x) hv (some d) ho =
        let same : x.what ≡ d = is_some (ap verdict_clash (sym hv) ∙ settled_clash l ∙ ho) in
        ap (λ e. conclude a b shape (some e) (good_series l)) same
      where
        is_some : {c d : Duplicate} → ◌≡◌ {A = Option Duplicate} (some c) (some d) → c ≡ d
        is_some e = cc
