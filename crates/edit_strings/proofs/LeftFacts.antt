-- The expansions of all values by the rows of the definitions, and the references that stay.
use Rattle.std.proofs.Common.{◌≡◌, ℕ, ◌≤◌, List, [], ◌∷◌, length, ap, ◌∙◌, Option}
use Rattle.std.specs.List.{AllByRecursion, flat_map}
use Rattle.std.specs.Prelude.{nat_lt}
use Rattle.std.proofs.lemmas.List.Sums.{count_by-le-length}
use Rattle.bib_syntax.specs.Reading.{EntryReading, FieldReading, FileReading}
use Rattle.edit_entries.specs.References.{new_reference}
use Rattle.edit_strings.specs.Expanded.{AreWrittenOut, WritesOut, count_before, elements}
use Rattle.edit_strings.specs.Left.{AreLeft, Left, left_in}
use Rattle.edit_strings.specs.Tables.{AreRows, IndexedPiece, written_by}
use Rattle.edit_strings.proofs.WrittenFacts.{expanded_writes}

all_true : {A : Type 0} (P : A → Type 0) → ((x : A) → P x) → (xs : List A) → AllByRecursion P xs
all_true P each [] = tt
all_true P each (x ∷ xs) = (each x, all_true P each xs)

-- no more definitions begin before an entry than there are
pub count_within : (definitions : List FieldReading) (e : EntryReading) → count_before definitions e ≤ length definitions
count_within definitions e = count_by-le-length (λ f. nat_lt f.name.start e.start) definitions

module _ (says : FileReading) (rows : List (List IndexedPiece))
    (known : AreRows says.abbreviations (length says.abbreviations) rows) where
  -- the expansion of a value by the rows is the expansion of the value
  pub writes_by : (e : EntryReading) (f : FieldReading)
      → WritesOut says.abbreviations (count_before says.abbreviations e) (elements f) (written_by says.abbreviations rows e f)
  writes_by e f =
      expanded_writes says.abbreviations rows known (count_before says.abbreviations e) (count_within says.abbreviations e) (elements f)

  -- the expansions of all values by the rows are their expansions
  pub all_written : AreWrittenOut says (written_by says.abbreviations rows)
  all_written =
      all_true
      (λ e.
      AllByRecursion
      (λ f. WritesOut says.abbreviations (count_before says.abbreviations e) (elements f) (written_by says.abbreviations rows e f))
      e.fields)
      (λ e.
      all_true
      (λ f. WritesOut says.abbreviations (count_before says.abbreviations e) (elements f) (written_by says.abbreviations rows e f))
      (writes_by e) e.fields)
      says.entries

  -- the references that stay are those by the rows, and by names that a lookup finds
  pub are_left : (keys : ℕ → Option (List ℕ)) (names : List ℕ → List ℕ → Option (List ℕ))
      → ((field name : List ℕ) → names field name ≡ new_reference says.entries keys field name) → (left : List Left)
      → left ≡ flat_map (left_in names (written_by says.abbreviations rows)) says.entries → AreLeft says keys left
  are_left keys names same left are =
      let meant : names ≡ new_reference says.entries keys = λ k field name. same field name k in
      record {
        written = written_by says.abbreviations rows;
        each = all_written;
        are = are ∙ ap (λ ns. flat_map (left_in ns (written_by says.abbreviations rows)) says.entries) meant;
      }
