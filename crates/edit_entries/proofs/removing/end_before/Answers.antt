use Rattle.std.proofs.Common.{◌≡◌, ◌-◌, ◌<◌, ℕ, zero, suc, List, Some, get_or, length, map, refl, sym, ap, subst, arith}
use Rattle.std.specs.Prelude.{slice_get}
use Rattle.std.specs.Option.{option_map_or}
use Rattle.std.proofs.lemmas.List.{length-map}
use Rattle.bib_syntax.specs.Views.{entry_reading_of, field_of}
use Rattle.bib_syntax.specs.declared.raw.Pair.{Pair}
use Rattle.bib_syntax.specs.Reading.{EntryReading}
use Rattle.edit_entries.specs.Unset.{end_before}
use Rattle.edit_entries.proofs.PositionFacts.{slice_get-map}
use Rattle.edit_entries.proofs.removing.end_before.Goals as goal

before_is : (e : EntryReading) (fields : List Pair) (j : ℕ) (p : Pair) → e.fields ≡ map field_of fields → (j ≡ 0 → ⊥)
    → j < length e.fields → p ≡ get_or fields (j - 1) p → (field_of p).value.end ≡ end_before e j
before_is e fields zero p are some within is = absurd (some refl)
before_is e fields (suc j) p are some within is =
    let index : suc j - 1 ≡ j = omega arith in
    let size : length e.fields ≡ length fields = subst (λ l. length l ≡ length fields) (sym are) (length-map fields field_of) in
    let is' : p ≡ get_or fields j p = subst (λ n. p ≡ get_or fields n p) index is in
    sym
    (ap (λ o. option_map_or (λ f. f.value.end) o e.key.end)
    (subst (λ l. slice_get l j ≡ Some (field_of p)) (sym are) (slice_get-map field_of fields j p (omega (arith, within, size)) is')))

pub returns : goal.returns
returns c =
    before_is (entry_reading_of c.args.entry.now) c.args.entry.now.v.fields.items c.args.index c.index.result.now refl
    c.if-index-eq0.false c.requires c.index.ensures
