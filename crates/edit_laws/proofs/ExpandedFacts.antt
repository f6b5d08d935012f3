-- Expanded abbreviations: the expansion of pieces has their value, and can be parsed if they can.
use Rattle.std.proofs.Common.{◌≡◌, ◌⊎◌, ℕ, List, [], ◌∷◌, ◌++◌, Bool, true, false, refl, sym, ap, ◌∙◌, subst, inl, inr, Some, None, option_map}
use Rattle.std.specs.Prelude.{if◌then◌else◌}
use Rattle.std.specs.List.{AllByRecursion}
use Rattle.std.specs.Str.{chars}
use Rattle.bib_abbreviations.proofs.MemoFacts.{evaluates_append}
use Rattle.bib_abbreviations.specs.Abbreviations.{Definitions, Evaluates, HoldsName, HoldsText, IsReadable, Reaches}
use Rattle.bib_abbreviations.specs.Abbreviations.{Evaluates as evaluates, Reaches as reaches}
use Rattle.bib_chunks.specs.Styled.{Atom}
use Rattle.bib_contents.specs.Contents.{IsContent}
use Rattle.bib_file_entries.specs.Loaded.{definition_in}
use Rattle.bib_syntax.specs.Reading.{EntryReading, FieldReading, FileReading, Part, Piece}
use Rattle.bib_text.proofs.ListFacts.{some_same, all_weaker}
use Rattle.bib_syntax.specs.Reading.Piece.{abbreviation, literal}
use Rattle.edit_entries.proofs.AllFacts.{all_both}
use Rattle.edit_entries.specs.Documents.{Document}
use Rattle.edit_laws.proofs.AlikeFacts.{MeanTheSame}
use Rattle.edit_laws.proofs.ExchangedFacts.{exchanged_pieces, files_exchanged}
use Rattle.edit_laws.proofs.ReadAlikeFacts.{AreAlikeFiles}
use Rattle.edit_laws.specs.DefinedAlike.{AreDefinedAlike, HasSameDefinition}
use Rattle.edit_strings.specs.Expanded.{AreWrittenOut, IsExpanded, WritesOut, count_before, document_expansion, elements, elements_at, expansion, has_defined, index_before, laid_out}
use Rattle.edit_strings.specs.Expanded.{WritesOut as writes_out}

module _ (abbreviations : List FieldReading) where
  abbrev pub defined : Definitions
  defined = definition_in abbreviations

  -- the second list is the first with some names replaced by the expansions of the definitions that `defined` finds for them
  data Replaces : List Piece → List Piece → Type 0 where
    none : Replaces [] []
    itself : {piece : Piece} {rest more : List Piece} → Replaces rest more → Replaces (piece ∷ rest) (piece ∷ more)
    replaced : {p : Part} {definition rest first more : List Piece} → defined p.text ≡ Some definition → Replaces definition first
        → Replaces rest more → Replaces (abbreviation p ∷ rest) (first ++ more)

  replaces : {count : ℕ} {ps qs : List Piece}
      → ((index : ℕ) → AllByRecursion (HasSameDefinition abbreviations index) (elements_at abbreviations index))
      → AllByRecursion (HasSameDefinition abbreviations count) ps → WritesOut abbreviations count ps qs → Replaces ps qs
  replaces each same writes_out.none = Replaces.none
  replaces each same (writes_out.itself absent rest) = Replaces.itself (replaces each same.1 rest)
  replaces each same (writes_out.defined {piece = literal p} is first rest) = cc
  replaces each same (writes_out.defined {piece = abbreviation p} {index = i} is first rest) =
      Replaces.replaced (sym same.0 ∙ ap (option_map (elements_at abbreviations)) is) (replaces each (each i) first)
      (replaces each same.1 rest)

  -- ---- the value

  -- the expansion of pieces has their value
  writes_value : {is_verbatim : Bool} {ps qs : List Piece} {atoms : List Atom} → Replaces ps qs
      → Evaluates defined is_verbatim ps atoms → Evaluates defined is_verbatim qs atoms
  writes_value Replaces.none says = says
  writes_value (Replaces.itself rest) (evaluates.text x more) = evaluates.text x (writes_value rest more)
  writes_value (Replaces.itself rest) (evaluates.defined d x more) = evaluates.defined d x (writes_value rest more)
  writes_value (Replaces.itself rest) (evaluates.month_name d m more) = evaluates.month_name d m (writes_value rest more)
  writes_value {is_verbatim} (Replaces.replaced {definition = own} is first rest)
      (evaluates.defined {definition = definition} {first = a} {more = b} d x more) =
      let same : definition ≡ own = some_same (sym d ∙ is) in
      evaluates_append b (writes_value first (subst (λ ps. Evaluates defined is_verbatim ps a) same x)) (writes_value rest more)
  writes_value (Replaces.replaced is first rest) (evaluates.month_name d m more) = let both = sym d ∙ is in cc

  -- ---- the names and texts in an expansion

  -- a list of pieces reaches each name that the list without its first piece reaches
  reaches_more : {piece : Piece} {rest : List Piece} {name : List ℕ} → Reaches defined rest name → Reaches defined (piece ∷ rest) name
  reaches_more {piece = literal p} (reaches.held held) = reaches.held held
  reaches_more {piece = abbreviation p} (reaches.held held) = reaches.held (inr held)
  reaches_more (reaches.through before d held) = reaches.through (reaches_more before) d held

  -- pieces reach each name that the definition of a name that they reach reaches
  reaches_inside : {ps definition : List Piece} {name next : List ℕ} → Reaches defined ps name → defined name ≡ Some definition
      → Reaches defined definition next → Reaches defined ps next
  reaches_inside there d (reaches.held held) = reaches.through there d held
  reaches_inside there d (reaches.through before d' held) = reaches.through (reaches_inside there d before) d' held

  held_append : (first more : List Piece) (name : List ℕ) → HoldsName (first ++ more) name → HoldsName first name ⊎ HoldsName more name
  held_append [] more name held = inr held
  held_append (literal p ∷ first) more name held = held_append first more name held
  held_append (abbreviation p ∷ first) more name (inl is) = inl (inl is)
  held_append (abbreviation p ∷ first) more name (inr held) = by_part (held_append first more name held)
    where
      by_part : HoldsName first name ⊎ HoldsName more name → HoldsName (abbreviation p ∷ first) name ⊎ HoldsName more name
      by_part (inl there) = inl (inr there)
      by_part (inr there) = inr there

  text_append : (first more : List Piece) (text : List ℕ) → HoldsText (first ++ more) text → HoldsText first text ⊎ HoldsText more text
  text_append [] more text held = inr held
  text_append (abbreviation p ∷ first) more text held = text_append first more text held
  text_append (literal p ∷ first) more text (inl is) = inl (inl is)
  text_append (literal p ∷ first) more text (inr held) = by_part (text_append first more text held)
    where
      by_part : HoldsText first text ⊎ HoldsText more text → HoldsText (literal p ∷ first) text ⊎ HoldsText more text
      by_part (inl there) = inl (inr there)
      by_part (inr there) = inr there

  -- pieces reach each name in their expansion
  reaches_written : {ps qs : List Piece} (name : List ℕ) → Replaces ps qs → HoldsName qs name → Reaches defined ps name
  reaches_written name Replaces.none held = reaches.held held
  reaches_written name (Replaces.itself {piece = literal p} rest) held = reaches_more (reaches_written name rest held)
  reaches_written name (Replaces.itself {piece = abbreviation p} rest) (inl is) = reaches.held (inl is)
  reaches_written name (Replaces.itself {piece = abbreviation p} rest) (inr held) = reaches_more (reaches_written name rest held)
  reaches_written name (Replaces.replaced {first = qs} {more = rs} is first rest) held =
      elim (held_append qs rs name held) [
        | inl there ↦ reaches_inside (reaches.held (inl refl)) is (reaches_written name first there)
        | inr there ↦ reaches_more (reaches_written name rest there)
      ]

  -- pieces reach each name that their expansion reaches
  reaches_through : {ps qs : List Piece} {name : List ℕ} → Replaces ps qs → Reaches defined qs name → Reaches defined ps name
  reaches_through written (reaches.held {name = name} held) = reaches_written name written held
  reaches_through written (reaches.through before d held) = reaches.through (reaches_through written before) d held

  -- a text is in pieces, or in the definition of a name that they reach
  data ComesFrom (ps : List Piece) (text : List ℕ) : Type 0 where
    own : HoldsText ps text → ComesFrom ps text
    inside : {name : List ℕ} {definition : List Piece} → Reaches defined ps name → defined name ≡ Some definition
        → HoldsText definition text → ComesFrom ps text

  comes_more : {piece : Piece} {rest : List Piece} {text : List ℕ} → ComesFrom rest text → ComesFrom (piece ∷ rest) text
  comes_more {piece = literal p} (ComesFrom.own held) = ComesFrom.own (inr held)
  comes_more {piece = abbreviation p} (ComesFrom.own held) = ComesFrom.own held
  comes_more (ComesFrom.inside there d held) = ComesFrom.inside (reaches_more there) d held

  comes_inside : (p : Part) {definition rest : List Piece} {text : List ℕ} → defined p.text ≡ Some definition
      → ComesFrom definition text → ComesFrom (abbreviation p ∷ rest) text
  comes_inside p is (ComesFrom.own there) = ComesFrom.inside (reaches.held (inl refl)) is there
  comes_inside p is (ComesFrom.inside reached d there) =
      ComesFrom.inside (reaches_inside (reaches.held (inl refl)) is reached) d there

  comes_written : {ps qs : List Piece} (text : List ℕ) → Replaces ps qs → HoldsText qs text → ComesFrom ps text
  comes_written text Replaces.none held = ComesFrom.own held
  comes_written text (Replaces.itself {piece = literal p} rest) (inl is) = ComesFrom.own (inl is)
  comes_written text (Replaces.itself {piece = literal p} rest) (inr held) = comes_more (comes_written text rest held)
  comes_written text (Replaces.itself {piece = abbreviation p} rest) held = comes_more (comes_written text rest held)
  comes_written text (Replaces.replaced {p = p} {first = qs} {more = rs} is first rest) held =
      elim (text_append qs rs text held) [
        | inl there ↦ comes_inside p is (comes_written text first there)
        | inr there ↦ comes_more (comes_written text rest there)
      ]

  -- the expansion of pieces that can be parsed can be parsed
  writes_readable : {is_verbatim : Bool} {ps qs : List Piece} → Replaces ps qs
      → IsReadable defined is_verbatim ps → IsReadable defined is_verbatim qs
  writes_readable {is_verbatim} {ps} {qs} written read = record {
    known = λ name there. read.known name (reaches_through written there);
    no_cycle = λ name definition there is again. read.no_cycle name definition (reaches_through written there) is again;
    texts = λ text held. by_source text (comes_written text written held);
    inner_texts = λ name definition there is. read.inner_texts name definition (reaches_through written there) is;
  }
    where
      by_source : (text : List ℕ) → ComesFrom ps text → (atoms : List Atom) × IsContent is_verbatim (chars text) atoms
      by_source text (ComesFrom.own held) = read.texts text held
      by_source text (ComesFrom.inside {name = name} {definition = definition} there d held) =
          read.inner_texts name definition there d text held

  -- pieces and their expansion mean the same
  expansion_means : {ps qs : List Piece} → Replaces ps qs → MeanTheSame defined defined ps qs
  expansion_means written = record {
    value = λ is_verbatim atoms says. writes_value written says;
    readable = λ is_verbatim read. writes_readable written read;
  }

  -- pieces mean the same as themselves
  mean_itself : (ps : List Piece) → MeanTheSame defined defined ps ps
  mean_itself ps = record { value = λ is_verbatim atoms says. says; readable = λ is_verbatim read. read }

-- a field and its expansion mean the same, if both rules find the same definitions of the names in it
field_means : (says : FileReading) (text : List ℕ) (written : EntryReading → FieldReading → List Piece) (e : EntryReading)
    (f : FieldReading) → AreDefinedAlike says
    → AllByRecursion (HasSameDefinition says.abbreviations (count_before says.abbreviations e)) (elements f)
    → WritesOut says.abbreviations (count_before says.abbreviations e) (elements f) (written e f)
    → MeanTheSame (defined says.abbreviations) (defined says.abbreviations) (elements f)
    (exchanged_pieces
    (expansion text (index_before says.abbreviations (count_before says.abbreviations e)) (written e) f) (elements f))
field_means says text written e f alike same writes =
    by_case (has_defined (index_before says.abbreviations (count_before says.abbreviations e)) (elements f))
  where
    by_case : (b : Bool)
        → MeanTheSame (defined says.abbreviations) (defined says.abbreviations) (elements f)
        (exchanged_pieces (if b then Some (record { bytes = laid_out text (written e f); pieces = written e f }) else None) (elements f))
    by_case true = expansion_means says.abbreviations (replaces says.abbreviations alike.definitions same writes)
    by_case false = mean_itself says.abbreviations (elements f)

module _ (d : Document) (written : EntryReading → FieldReading → List Piece) where
  -- the names in a field have the same definition by both rules
  abbrev Same : EntryReading → FieldReading → Type 0
  Same e f = AllByRecursion (HasSameDefinition d.says.abbreviations (count_before d.says.abbreviations e)) (elements f)

  -- the pieces `written e f` are the expansion of a field
  abbrev Written : EntryReading → FieldReading → Type 0
  Written e f = WritesOut d.says.abbreviations (count_before d.says.abbreviations e) (elements f) (written e f)

  -- a field means the same after it is expanded
  abbrev Means : EntryReading → FieldReading → Type 0
  Means e f =
      MeanTheSame (definition_in d.says.abbreviations) (definition_in d.says.abbreviations) f.value.pieces
      (exchanged_pieces (document_expansion d written e f) f.value.pieces)

  entries_mean : AreDefinedAlike d.says → AreWrittenOut d.says written
      → AllByRecursion (λ e. AllByRecursion (Means e) e.fields) d.says.entries
  entries_mean alike each =
      all_weaker (λ e. AllByRecursion (Same e) e.fields × AllByRecursion (Written e) e.fields) (λ e. AllByRecursion (Means e) e.fields)
      (λ e both.
      all_weaker (λ f. Same e f × Written e f) (Means e) (λ f here. field_means d.says d.text written e f alike here.0 here.1) e.fields
      (all_both (Same e) (Written e) e.fields both.0 both.1))
      d.says.entries
      (all_both (λ e. AllByRecursion (Same e) e.fields) (λ e. AllByRecursion (Written e) e.fields) d.says.entries alike.entries each)

-- if both rules find the same definitions of its names, a file is alike to the reading of its text with expanded abbreviations
pub files_expanded : (d : Document) (text : List ℕ) (expanded : IsExpanded d text) → AreDefinedAlike d.says
    → AreAlikeFiles d.says expanded.changed.read.tells
files_expanded d text expanded alike =
    files_exchanged (document_expansion d expanded.written) d.says expanded.changed.read.tells d.says.abbreviations
    (entries_mean d expanded.written alike expanded.each) expanded.changed.read.alike
