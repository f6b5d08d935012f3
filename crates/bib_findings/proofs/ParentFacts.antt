-- Entries without a parent.
use Rattle.std.proofs.Common.{◌≡◌, ℕ, zero, suc, false, ◌&&◌, ◌++◌, List, [], ◌∷◌, Option, Some, None, refl, sym, ap, ap₂, ◌∙◌, subst, cond}
use Rattle.std.specs.List.{All, cons_option, filter, filter_map, list_any, slice_get}
use Rattle.std.proofs.lemmas.List.Elements.{All-cons, All-filter, All-head, All-nil, All-tail}
use Rattle.bib_text.proofs.BoolFacts.{or_false_left, or_false_right}
use Rattle.bib_syntax.specs.Reading.{EntryReading}
use Rattle.bib_findings.specs.After.{each_after}
use Rattle.bib_findings.specs.Duplicates.{entries_at}
use Rattle.bib_findings.specs.ParentOrder.{early_after, early_finding, early_findings, has_bibtex_type, has_parent, is_key_of, parent_key}

-- whether an entry has no parent
abbrev IsWithout : EntryReading → Type 0
IsWithout said = has_parent said ≡ false

-- if no entry has a parent, each is without one
all_without : (said : List EntryReading) → list_any has_parent said ≡ false → All IsWithout said
all_without [] none = All-nil IsWithout
all_without (one ∷ said) none =
    All-cons IsWithout one said (or_false_left (has_parent one) (list_any has_parent said) none)
    (all_without said (or_false_right (has_parent one) (list_any has_parent said) none))

one_without : (said : List EntryReading) (index : ℕ) → All IsWithout said → (one : EntryReading) → slice_get said index ≡ Some one
    → IsWithout one
one_without [] index all one is = absurd (let clash : None ≡ Some one = is in cc)
one_without (first ∷ said) zero all one is =
    subst IsWithout (let same : first ≡ one = cc in same) (All-head IsWithout first said all)
one_without (first ∷ said) (suc index) all one is = one_without said index (All-tail IsWithout first said all) one is

some_without : (said : List EntryReading) (indices : List ℕ) → All IsWithout said → All IsWithout (entries_at said indices)
some_without said [] all = All-nil IsWithout
some_without said (index ∷ indices) all = by (slice_get said index) refl (some_without said indices all) where
  by : (one : Option EntryReading) → slice_get said index ≡ one → All IsWithout (entries_at said indices)
      → All IsWithout (cons_option (slice_get said index) (entries_at said indices))
  by None is rest = subst (λ o. All IsWithout (cons_option o (entries_at said indices))) (sym is) rest
  by (Some one) is rest =
      subst (λ o. All IsWithout (cons_option o (entries_at said indices))) (sym is)
      (All-cons IsWithout one (entries_at said indices) (one_without said index all one is) rest)

-- entries without a parent have no findings
none_among : (earlier entries : List EntryReading) → All IsWithout entries → each_after early_after earlier entries ≡ []
none_among earlier [] all = refl
none_among earlier (one ∷ entries) all =
    ap₂ (λ l m. l ++ m)
    (ap (λ b. cond (b && list_any (is_key_of (parent_key one)) earlier) (early_finding one (parent_key one) ∷ []) [])
    (All-head IsWithout one entries all)) (none_among (earlier ++ one ∷ []) entries (All-tail IsWithout one entries all))

-- if none of some entries has a parent, those at some indices have no findings
pub no_parents : (said : List EntryReading) (indices : List ℕ) → list_any has_parent said ≡ false
    → early_findings (entries_at said indices) ≡ []
no_parents said indices none =
    none_among [] (filter has_bibtex_type (entries_at said indices))
    (All-filter has_bibtex_type IsWithout (entries_at said indices) (some_without said indices (all_without said none)))
