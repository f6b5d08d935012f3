-- The changes of fields and entries.
use Rattle.std.proofs.Common.{◌≡◌, ℕ, ◌+◌, ◌<◌, Bool, true, false, cond, List, [], ◌∷◌, ◌++◌, length, map, drop, get_or, refl, sym, ap, ◌∙◌, arith, append_assoc, Option}
use Rattle.std.specs.Prelude.{count_by, ◌==◌, ◌||◌}
use Rattle.std.specs.List.{list_any}
use Rattle.std.proofs.lemmas.Bool.Decides.{nat_tests}
use Rattle.std.proofs.lemmas.List.{drop_more}
use Rattle.std.proofs.lemmas.List.Sums.{sum_by-cons}
use Rattle.bib_syntax.specs.Reading.{FieldReading}
use Rattle.edit_entries.specs.Changes.{FieldChange, edits_of_field, edits_of_fields}
use Rattle.edit_entries.specs.Edits.{Edit}
use Rattle.edit_resolve.specs.Resolved.{Named, field_resolution, field_resolutions, last_change, own_change}
use Rattle.edit_resolve.specs.Working.{last_or_removed, named_of}
use Rattle.edit_resolve.specs.declared.gathering.Named.{Named as NamedField}

module _ (text : List ℕ) (resolved : FieldReading → Bool) (instead : FieldReading → Option Named) (new : List Named) where
  -- the edits of fields
  abbrev pub edits_from : List FieldReading → List Edit
  edits_from fs = edits_of_fields text fs (field_resolutions text resolved instead new fs)

  -- a field passes the test exactly if the number of those that pass isn't 0
  any_counted : {A : Type 0} (fs : List FieldReading) (x y : A)
      → cond (list_any resolved fs) x y ≡ cond (count_by resolved fs == 0) y x
  any_counted [] x y = refl
  any_counted (f ∷ fs) x y =
      ap (λ b. cond (b || list_any resolved fs) x y) refl
      ∙ by_case (resolved f) (any_counted fs x y)
      ∙ ap (λ n. cond (n == 0) y x) (sym (sum_by-cons (λ g. cond (resolved g) 1 0) f fs))
    where
      by_case : (b : Bool) → cond (list_any resolved fs) x y ≡ cond (count_by resolved fs == 0) y x
          → cond (b || list_any resolved fs) x y ≡ cond (cond b 1 0 + count_by resolved fs == 0) y x
      by_case true rest = ap (λ n. cond n y x) (some (count_by resolved fs))
        where
          some : (n : ℕ) → false ≡ (1 + n == 0)
          some n = grind (arith, nat_tests)
      by_case false rest = rest ∙ ap (λ n. cond (n == 0) y x) (none (count_by resolved fs))
        where
          none : (n : ℕ) → n ≡ 0 + n
          none n = omega arith

  -- the change of a resolved reference is that by the number of resolved references after it
  pub change_is : (f : FieldReading) (following : List FieldReading) (left : ℕ) → resolved f ≡ true → left ≡ count_by resolved following
      → field_resolution text resolved instead new f following ≡ last_or_removed text (left == 0) new f following
  change_is f following left is count =
      ap
      (λ b.
      cond b (cond (list_any resolved following) FieldChange.removed (last_change text new f following)) (own_change text (instead f))) is
      ∙ any_counted following FieldChange.removed (last_change text new f following)
      ∙ ap (λ n. cond (n == 0) (last_change text new f following) FieldChange.removed) (sym count)

  -- the number of resolved references from a field on is 1 more than that after it, if the field is one
  pub count_step : {A : Type 0} (view : A → FieldReading) (xs : List A) (i : ℕ) (x : A) → i < length xs → x ≡ get_or xs i x
      → count_by resolved (map view (drop i xs)) ≡ cond (resolved (view x)) 1 0 + count_by resolved (map view (drop (i + 1) xs))
  count_step view xs i x within is =
      ap (λ l. count_by resolved (map view l)) (drop_more xs i x within ∙ ap (λ y. y ∷ drop (i + 1) xs) (sym is))
      ∙ sum_by-cons (λ g. cond (resolved g) 1 0) (view x) (map view (drop (i + 1) xs))

  -- the change of a field that is no resolved reference is that of an own field
  pub own_is : (f : FieldReading) (following : List FieldReading) → resolved f ≡ false
      → own_change text (instead f) ≡ field_resolution text resolved instead new f following
  own_is f following is =
      ap
      (λ b.
      cond b (cond (list_any resolved following) FieldChange.removed (last_change text new f following)) (own_change text (instead f)))
      (sym is)

  -- after the edits of one more field are added, the edits so far and those of the fields after it are those of all fields
  pub edits_step : {A : Type 0} (view : A → FieldReading) (xs : List A) (i : ℕ) (x : A) → i < length xs → x ≡ get_or xs i x
      → (old now all : List Edit)
      → now ≡ old ++ edits_of_field text (view x) (map view (drop (i + 1) xs))
      (field_resolution text resolved instead new (view x) (map view (drop (i + 1) xs)))
      → old ++ edits_from (map view (drop i xs)) ≡ all → now ++ edits_from (map view (drop (i + 1) xs)) ≡ all
  edits_step view xs i x within is old now all added so_far =
      let rest : List FieldReading = map view (drop (i + 1) xs) in
      let left : map view (drop i xs) ≡ view x ∷ rest =
      ap (map view) (drop_more xs i x within ∙ ap (λ y. y ∷ drop (i + 1) xs) (sym is)) in
      ap (λ l. l ++ edits_from rest) added
      ∙ append_assoc old (edits_of_field text (view x) rest (field_resolution text resolved instead new (view x) rest)) (edits_from rest)
      ∙ ap (λ l. old ++ edits_from l) (sym left) ∙ so_far

-- if the fields of an entry are the own ones and the inherited ones, the latter are those after the number of own ones
pub new_part : (own : FieldReading → Named) (all : List NamedField) (fs : List FieldReading) (inherits : List Named) (n : ℕ)
    → map named_of all ≡ map own fs ++ inherits → n ≡ length fs → map named_of (drop n all) ≡ inherits
new_part own all [] inherits n is size = ap (λ m. map named_of (drop m all)) size ∙ is
new_part own [] (f ∷ fs) inherits n is size = absurd (cc)
new_part own (a ∷ as') (f ∷ fs) inherits n is size =
    ap (λ m. map named_of (drop m (a ∷ as'))) size
    ∙ new_part own as' fs inherits (length fs) (let tails : map named_of as' ≡ map own fs ++ inherits = cc in tails) refl

-- two functions that substitute the same fields give the same changes
pub changes_same : (text : List ℕ) (resolved : FieldReading → Bool) (one other : FieldReading → Option Named) (new : List Named)
    (fs : List FieldReading) → ((f : FieldReading) → one f ≡ other f)
    → field_resolutions text resolved one new fs ≡ field_resolutions text resolved other new fs
changes_same text resolved one other new [] same = refl
changes_same text resolved one other new (f ∷ fs) same =
    ap
    (λ o.
    cond (resolved f) (cond (list_any resolved fs) FieldChange.removed (last_change text new f fs)) (own_change text o)
    ∷ field_resolutions text resolved one new fs) (same f)
    ∙ ap (λ l. field_resolution text resolved other new f fs ∷ l) (changes_same text resolved one other new fs same)
