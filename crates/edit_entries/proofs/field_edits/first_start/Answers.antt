use Rattle.std.proofs.Common.{◌≡◌, ◌+◌, ◌<◌, ◌∷◌, ℕ, Bool, true, false, cond, List, drop, get_or, length, map, sym, ap, ◌∙◌}
use Rattle.std.proofs.lemmas.List.{drop_more}
use Rattle.bib_queries.specs.Sets.{is_in_set}
use Rattle.bib_syntax.specs.Reading.{EntryReading}
use Rattle.bib_syntax.specs.Views.{entry_reading_of}
use Rattle.edit_entries.specs.FieldEdits.{first_start}
use Rattle.edit_entries.proofs.field_edits.first_start.Goals as goal

-- the first selected entry from an index on is the one there if it is selected, or else the first selected one after it
first_step : {A : Type 0} (view : A → EntryReading) (selected : List ℕ → Bool) (other : ℕ) (xs : List A) (i : ℕ) (x : A)
    → i < length xs → x ≡ get_or xs i x → (b : Bool) → selected (view x).key.text ≡ b
    → first_start selected other (map view (drop i xs)) ≡ cond b (view x).start (first_start selected other (map view (drop (i + 1) xs)))
first_step view selected other xs i x within is b tests =
    ap (λ l. first_start selected other (map view l)) (drop_more xs i x within ∙ ap (λ y. y ∷ drop (i + 1) xs) (sym is))
    ∙ ap (λ c. cond c (view x).start (first_start selected other (map view (drop (i + 1) xs)))) tests

pub returns-then-contains : goal.returns-then-contains
returns-then-contains c =
    sym
    (c.entries.invariant
    ∙ first_step entry_reading_of (is_in_set c.args.keys.now) (length c.args.text.now) c.args.entries.now c.entries.entry-index
    c.entry-item.result c.entries-test.true c.entry-item.is true (sym c.contains.ensures ∙ c.if-contains.true))

pub entries-preserved : goal.entries-preserved
entries-preserved c =
    c.entries.invariant
    ∙ first_step entry_reading_of (is_in_set c.args.keys.now) (length c.args.text.now) c.args.entries.now c.entries.entry-index
    c.entry-item.result c.entries-test.true c.entry-item.is false (sym c.contains.ensures ∙ c.if-contains.false)
