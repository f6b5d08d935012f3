-- Texts that are replaced by abbreviations: each value of the new file means the same as the old one.
use Rattle.std.proofs.Common.{◌≡◌, ◌⊎◌, ℕ, List, [], ◌∷◌, ◌++◌, Bool, true, false, cond, filter, reverse, refl, sym, ap, ◌∙◌, subst, inl, inr, Some, None, Option, option_map}
use Rattle.std.specs.Prelude.{◌==◌, ◌&&◌, bytes_eq, count_by, find, is_some, not, slice_index_or}
use Rattle.std.specs.List.{AllByRecursion, AllZip, flat_map}
use Rattle.std.specs.Option.{option_map_or, option_or}
use Rattle.std.specs.Str.{chars}
use Rattle.std.proofs.lemmas.Bool.{both_ways, eqb-true}
use Rattle.std.proofs.lemmas.List.{append-nil}
use Rattle.std.proofs.lemmas.List.Folds.{list_any-append}
use Rattle.std.proofs.lemmas.Slice.Eq.{bytes_eq-Decides}
use Rattle.bib_abbreviations.specs.Abbreviations.{Definitions, Evaluates, HoldsName, HoldsText, IsKnown, IsReadable, Reaches}
use Rattle.bib_abbreviations.specs.Abbreviations.{Evaluates as evaluates, Reaches as reaches}
use Rattle.bib_chunks.specs.Styled.{Atom}
use Rattle.bib_contents.specs.Contents.{IsContent}
use Rattle.bib_file_entries.specs.Loaded.{definition_in}
use Rattle.bib_syntax.specs.Grammar.{is_word}
use Rattle.bib_syntax.specs.Reading.{EntryReading, FieldReading, FileReading, Part, Piece}
use Rattle.bib_syntax.specs.Reading.Piece.{abbreviation, literal}
use Rattle.bib_text.proofs.ListFacts.{some_same, all_zip_push}
use Rattle.bib_text.proofs.BoolFacts.{or_false_left, or_false_right, and_true_right}
use Rattle.bib_text.proofs.OptionFacts.{or_none}
use Rattle.edit_entries.specs.Documents.{Document, IsDocument, has_name, or_first, text_at}
use Rattle.edit_laws.proofs.LeadNameFacts.{words_differ}
use Rattle.edit_laws.proofs.AlikeFacts.{MeanTheSame}
use Rattle.edit_laws.proofs.DefinedFacts.{IsNew, absent, defined_append, found_in, is_new, line_defined, one_literal, only_last, own_word, readings_push}
use Rattle.edit_laws.proofs.ExchangedFacts.{EachMeansTheSame, exchanged_pieces, files_exchanged}
use Rattle.edit_laws.proofs.ReadAlikeFacts.{AreAlikeFiles}
use Rattle.edit_laws.proofs.UsedNameFacts.{definitions_closed, entries_in, right_listed}
use Rattle.edit_strings.proofs.CollectFacts.{definitions_parted}
use Rattle.edit_strings.proofs.NamesFacts.{find_passes, known_definition, known_in_file, length-names}
use Rattle.edit_strings.specs.Collected.{AreMadeAbbreviations, AreNames, collection, definition_names, first_entry_start, has_digit_first, is_before, is_month, is_named_by, is_one_in_any_case, is_reusable, is_reusable_name, known_name, line_reading, line_readings, name_value, named_text, names_of_file, reusable_text, single_text, text_index, text_value, used_names}
use Rattle.edit_strings.specs.Expanded.{elements}

module _ (says : FileReading) where
  abbrev InFile : List ℕ → Type 0
  InFile name = is_one_in_any_case (names_of_file says) name ≡ true

  new_bytes : (earlier : List (List ℕ)) (name n : List ℕ) → InFile name → IsNew says earlier n → bytes_eq name n ≡ false
  new_bytes earlier name n inside new = by_case (bytes_eq name n) refl
    where
      by_case : (b : Bool) → bytes_eq name n ≡ b → b ≡ false
      by_case false is = refl
      by_case true is =
          let same : name ≡ n = (bytes_eq-Decides name n).0 is in
          absurd (both_ways _ new.no_other (subst InFile same inside))

  -- no new definition has a name of the file
  none_new : {texts names : List (List ℕ)} → AreNames says texts names → (name : List ℕ) → InFile name
      → definition_in (line_readings says names texts) name ≡ None
  none_new AreNames.none name inside = refl
  none_new (AreNames.known {texts = texts} {names = names} text own others known) name inside =
      ap (λ fs. definition_in fs name) (readings_push says names texts own text (length-names says others))
      ∙ ap (λ o. definition_in (line_readings says names texts ++ cond (is_some o) [] (line_reading own text ∷ [])) name) known
      ∙ ap (λ fs. definition_in fs name) (append-nil (line_readings says names texts))
      ∙ none_new others name inside
  none_new (AreNames.new {texts = texts} {names = names} text own others known first) name inside =
      ap (λ fs. definition_in fs name) (readings_push says names texts own text (length-names says others))
      ∙ ap (λ o. definition_in (line_readings says names texts ++ cond (is_some o) [] (line_reading own text ∷ [])) name) known
      ∙ defined_append (line_readings says names texts) (line_reading own text ∷ []) name
      ∙ ap (λ o. option_or o (definition_in (line_readings says names texts) name))
      (line_defined own text name false (new_bytes names name own inside (is_new says names own first.new)))
      ∙ none_new others name inside

  -- ---- the one definition of a known name

  -- a definition can be reused for a text: no other definition has its name in any ASCII case, and its value is this text
  record IsReusable (f : FieldReading) (text : List ℕ) : Type 0 where
    one : count_by (has_name f.name.text) says.abbreviations ≡ 1
    value : single_text (elements f) ≡ Some text

  reusable : (f : FieldReading) (text : List ℕ) → is_reusable says text f ≡ true → IsReusable f text
  reusable f text is = by_text (reusable_text says f) refl is
    where
      by_text : (o : Option (List ℕ)) → reusable_text says f ≡ o → option_map_or (λ own. bytes_eq own text) o false ≡ true
          → IsReusable f text
      by_text None is' none = absurd (cc)
      by_text (Some own) is' same =
          by_test (is_before (first_entry_start says.entries) f && is_reusable_name says f.name.text) refl
          (is' ∙ ap Some ((bytes_eq-Decides own text).0 same))
        where
          by_test : (b : Bool) → (is_before (first_entry_start says.entries) f && is_reusable_name says f.name.text) ≡ b
              → cond b (single_text (elements f)) None ≡ Some text → IsReusable f text
          by_test false test value = absurd (cc)
          by_test true test value =
              let named = and_true_right (is_before (first_entry_start says.entries) f) _ test in
              let counted =
              and_true_right (not (is_month f.name.text) && not (has_digit_first f.name.text))
              (count_by (has_name f.name.text) says.abbreviations == 1) named in
              record { one = eqb-true (count_by (has_name f.name.text) says.abbreviations) 1 counted; value = value }

  -- a known name is defined as its text
  known_means : (text name : List ℕ) → known_name says text ≡ Some name
      → (part : Part) × (definition_in says.abbreviations name ≡ Some (literal part ∷ [])) × (part.text ≡ text)
  known_means text name is =
      let k = known_definition says text name is in
      let f : FieldReading = k.definition in
      let r = reusable f text (find_passes (is_reusable says text) says.abbreviations f k.found) in
      let l = one_literal (elements f) text r.value in
      let last : find (λ g. bytes_eq f.name.text g.name.text) (reverse says.abbreviations) ≡ Some f =
      only_last (has_name f.name.text) (λ g. bytes_eq f.name.text g.name.text)
      (λ g same. subst (λ n. is_word n f.name.text ≡ true) ((bytes_eq-Decides f.name.text g.name.text).0 same) (own_word f.name.text))
      says.abbreviations f r.one (found_in (is_reusable says text) says.abbreviations f k.found)
      ((bytes_eq-Decides f.name.text f.name.text).1 refl) in (
        l.part,
        ap (λ n. definition_in says.abbreviations n) (sym k.named) ∙ ap (option_map elements) last ∙ ap Some l.is,
        l.same,
      )

  -- ---- the meaning of each name

  -- a name is defined as its text: in the file if the file has the name, and by the new definitions otherwise
  record NameMeans (added : List FieldReading) (name text : List ℕ) : Type 0 where
    inside : InFile name
        → (part : Part) × (definition_in says.abbreviations name ≡ Some (literal part ∷ [])) × (part.text ≡ text)
    fresh : is_one_in_any_case (names_of_file says) name ≡ false → definition_in added name ≡ Some (literal (text_at 0 text) ∷ [])

  -- each name still means its text after a definition of another name is added
  still_mean : (added : List FieldReading) (n t : List ℕ) (names texts : List (List ℕ)) → is_one_in_any_case names n ≡ false
      → AllZip (NameMeans added) names texts → AllZip (NameMeans (added ++ line_reading n t ∷ [])) names texts
  still_mean added n t [] [] none all = tt
  still_mean added n t [] (text ∷ texts) none all = absurd all
  still_mean added n t (name ∷ names) [] none all = absurd all
  still_mean added n t (name ∷ names) (text ∷ texts) none all = (
    record {
      inside = all.0.inside;
      fresh = λ fresh.
          defined_append added (line_reading n t ∷ []) name
          ∙ ap (λ o. option_or o (definition_in added name))
          (line_defined n t name false (words_differ name n (or_false_left (is_word name n) _ none)))
          ∙ all.0.fresh fresh;
    },
    still_mean added n t names texts (or_false_right (is_word name n) _ none) all.1,
  )

  names_mean : {texts names : List (List ℕ)} → AreNames says texts names → AllZip (NameMeans (line_readings says names texts)) names texts
  names_mean AreNames.none = tt
  names_mean (AreNames.known {texts = texts} {names = names} text name others known) =
      let same : line_readings says (names ++ name ∷ []) (texts ++ text ∷ []) ≡ line_readings says names texts =
      readings_push says names texts name text (length-names says others)
      ∙ ap (λ o. line_readings says names texts ++ cond (is_some o) [] (line_reading name text ∷ [])) known
      ∙ append-nil (line_readings says names texts) in
      subst (λ added. AllZip (NameMeans added) (names ++ name ∷ []) (texts ++ text ∷ [])) (sym same)
      (all_zip_push (NameMeans (line_readings says names texts)) names texts name text (names_mean others)
      (record {
        inside = λ there. known_means text name known;
        fresh = λ fresh. absurd (both_ways _ fresh (known_in_file says text name name known (own_word name)));
      }))
  names_mean (AreNames.new {texts = texts} {names = names} text name others known first) =
      let new = is_new says names name first.new in
      let added : List FieldReading = line_readings says names texts ++ line_reading name text ∷ [] in
      let same : line_readings says (names ++ name ∷ []) (texts ++ text ∷ []) ≡ added =
      readings_push says names texts name text (length-names says others)
      ∙ ap (λ o. line_readings says names texts ++ cond (is_some o) [] (line_reading name text ∷ [])) known in
      subst (λ fs. AllZip (NameMeans fs) (names ++ name ∷ []) (texts ++ text ∷ [])) (sym same)
      (all_zip_push (NameMeans added) names texts name text
      (still_mean (line_readings says names texts) name text names texts new.no_earlier (names_mean others))
      (record {
        inside = λ there. absurd (both_ways _ new.no_other there);
        fresh = λ fresh.
            defined_append (line_readings says names texts) (line_reading name text ∷ []) name
            ∙ ap (λ o. option_or o (definition_in (line_readings says names texts) name))
            (line_defined name text name true ((bytes_eq-Decides name name).1 refl));
      }))

  -- ---- the definitions of the new file

  module _ (texts names : List (List ℕ)) (named : AreNames says texts names) (one other : List FieldReading)
      (whole : one ++ other ≡ says.abbreviations) where
    abbrev added : List FieldReading
    added = line_readings says names texts

    abbrev pub all_definitions : List FieldReading
    all_definitions = one ++ (added ++ other)

    abbrev old : Definitions
    old = definition_in says.abbreviations

    abbrev new : Definitions
    new = definition_in all_definitions

    found_new : (name : List ℕ)
        → new name ≡ option_or (option_or (definition_in other name) (definition_in added name)) (definition_in one name)
    found_new name =
        defined_append one (added ++ other) name
        ∙ ap (λ o. option_or o (definition_in one name)) (defined_append added other name)

    found_old : (name : List ℕ) → old name ≡ option_or (definition_in other name) (definition_in one name)
    found_old name = ap (λ fs. definition_in fs name) (sym whole) ∙ defined_append one other name

    -- a name of the file has the definition that it had
    same_in_file : (name : List ℕ) → InFile name → new name ≡ old name
    same_in_file name inside =
        found_new name
        ∙ ap (λ o. option_or (option_or (definition_in other name) o) (definition_in one name)) (none_new named name inside)
        ∙ ap (λ o. option_or o (definition_in one name)) (or_none (definition_in other name))
        ∙ sym (found_old name)

    -- a name that the file neither defines nor uses has no definition in the second part of its definitions
    no_other : (name : List ℕ) → is_one_in_any_case (names_of_file says) name ≡ false → definition_in other name ≡ None
    no_other name fresh =
        first_none (definition_in other name) (definition_in one name)
        (sym (found_old name)
        ∙ absent says.abbreviations name
        (or_false_left (is_one_in_any_case (definition_names says.abbreviations) name) _
        (sym
        (list_any-append (λ o. is_word o name) (definition_names says.abbreviations)
        (flat_map (λ e. used_names e.fields) says.entries))
        ∙ fresh)))
      where
        first_none : {A : Type 0} (o p : Option A) → option_or o p ≡ None → o ≡ None
        first_none None p is = refl
        first_none (Some x) p is = cc

    -- the name of a text is defined as this text
    defines_text : (name text : List ℕ) → NameMeans added name text
        → (part : Part) × (new name ≡ Some (literal part ∷ [])) × (part.text ≡ text)
    defines_text name text means = by_case (is_one_in_any_case (names_of_file says) name) refl
      where
        by_case : (b : Bool) → is_one_in_any_case (names_of_file says) name ≡ b
            → (part : Part) × (new name ≡ Some (literal part ∷ [])) × (part.text ≡ text)
        by_case true is = let m = means.inside is in (m.0, same_in_file name is ∙ m.1, m.2)
        by_case false is = (
          text_at 0 text,
          found_new name
              ∙ ap (λ o. option_or (option_or o (definition_in added name)) (definition_in one name)) (no_other name is)
              ∙ ap (λ o. option_or o (definition_in one name)) (means.fresh is),
          refl,
        )

    -- ---- values of which no name changes

    abbrev pub AllInFile : List Piece → Type 0
    AllInFile ps = (name : List ℕ) → HoldsName ps name → InFile name

    module _ (closed : (name : List ℕ) (definition : List Piece) → old name ≡ Some definition → AllInFile definition) where
      rest_in : (p : Piece) (ps : List Piece) → AllInFile (p ∷ ps) → AllInFile ps
      rest_in (literal p) ps all name held = all name held
      rest_in (abbreviation p) ps all name held = all name (inr held)

      stays_value : {is_verbatim : Bool} {ps : List Piece} {atoms : List Atom} → AllInFile ps → Evaluates old is_verbatim ps atoms
          → Evaluates new is_verbatim ps atoms
      stays_value all evaluates.none = evaluates.none
      stays_value all (evaluates.text {p = p} {rest = rest} x more) = evaluates.text x (stays_value (rest_in (literal p) rest all) more)
      stays_value all (evaluates.defined {p = p} {rest = rest} {definition = definition} d x more) =
          evaluates.defined (same_in_file p.text (all p.text (inl refl)) ∙ d) (stays_value (closed p.text definition d) x)
          (stays_value (rest_in (abbreviation p) rest all) more)
      stays_value all (evaluates.month_name {p = p} {rest = rest} d m more) =
          evaluates.month_name (same_in_file p.text (all p.text (inl refl)) ∙ d) m (stays_value (rest_in (abbreviation p) rest all) more)

      -- pieces whose names are in the file reach only names in the file
      reached_in : {ps : List Piece} {name : List ℕ} → AllInFile ps → Reaches old ps name → InFile name
      reached_in all (reaches.held {name = name} held) = all name held
      reached_in all (reaches.through {name = name} {next = next} {definition = definition} before d held) =
          closed name definition d next held

      reaches_back : {ps : List Piece} {name : List ℕ} → AllInFile ps → Reaches new ps name → Reaches old ps name
      reaches_back all (reaches.held held) = reaches.held held
      reaches_back all (reaches.through {name = name} before d held) =
          let earlier = reaches_back all before in
          reaches.through earlier (sym (same_in_file name (reached_in all earlier)) ∙ d) held

      stays_readable : {is_verbatim : Bool} {ps : List Piece} → AllInFile ps → IsReadable old is_verbatim ps → IsReadable new is_verbatim ps
      stays_readable {is_verbatim} {ps} all read = record {
        known = λ name there. by_known name (reached_in all (reaches_back all there)) (read.known name (reaches_back all there));
        no_cycle = λ name definition there is again.
            let back = reaches_back all there in
            let was : old name ≡ Some definition = sym (same_in_file name (reached_in all back)) ∙ is in
            read.no_cycle name definition back was (reaches_back (closed name definition was) again);
        texts = read.texts;
        inner_texts = λ name definition there is.
            let back = reaches_back all there in
            read.inner_texts name definition back (sym (same_in_file name (reached_in all back)) ∙ is);
      }
        where
          by_known : (name : List ℕ) → InFile name → IsKnown old name → IsKnown new name
          by_known name inside (inl defined) = inl (defined.0, same_in_file name inside ∙ defined.1)
          by_known name inside (inr english) = inr english

      stays_same : (ps : List Piece) → AllInFile ps → MeanTheSame old new ps ps
      stays_same ps all = record {
        value = λ is_verbatim atoms says. stays_value all says;
        readable = λ is_verbatim read. stays_readable all read;
      }

      -- ---- a text that is replaced by its abbreviation

      reaches_none : {q : Part} {name : List ℕ} → Reaches new (literal q ∷ []) name → ⊥
      reaches_none (reaches.held held) = held
      reaches_none (reaches.through before d held) = reaches_none before

      module _ (p q : Part) (own : List ℕ) (d : new own ≡ Some (literal q ∷ [])) (same : q.text ≡ p.text) where
        abbrev replacement : List Piece
        replacement = abbreviation (text_at 0 own) ∷ []

        reaches_own : {name : List ℕ} → Reaches new replacement name → own ≡ name
        reaches_own (reaches.held (inl is)) = is
        reaches_own (reaches.held (inr held)) = absurd held
        reaches_own (reaches.through {name = name} {next = next} {definition = definition} before is held) =
            let pieces : literal q ∷ [] ≡ definition = some_same (sym d ∙ ap new (reaches_own before) ∙ is) in
            absurd (subst (λ ps. HoldsName ps next) (sym pieces) held)

        replaced_value : {is_verbatim : Bool} {atoms : List Atom} → Evaluates old is_verbatim (literal p ∷ []) atoms
            → Evaluates new is_verbatim replacement atoms
        replaced_value {is_verbatim} (evaluates.text {first = a} x evaluates.none) =
            subst (λ atoms. Evaluates new is_verbatim replacement atoms) (append-nil (a ++ []))
            (evaluates.defined {first = a ++ []} {more = []} d
            (evaluates.text {first = a} {more = []} (subst (λ t. IsContent is_verbatim (chars t) a) (sym same) x) evaluates.none)
            evaluates.none)

        replaced_readable : {is_verbatim : Bool} → IsReadable old is_verbatim (literal p ∷ []) → IsReadable new is_verbatim replacement
        replaced_readable {is_verbatim} read = record {
          known = λ name there. inl (literal q ∷ [], ap new (sym (reaches_own there)) ∙ d);
          no_cycle = λ name definition there is again.
              let pieces : definition ≡ literal q ∷ [] = some_same (sym is ∙ ap new (sym (reaches_own there)) ∙ d) in
              reaches_none (subst (λ ps. Reaches new ps name) pieces again);
          texts = λ text held. absurd held;
          inner_texts = λ name definition there is text held.
              let pieces : definition ≡ literal q ∷ [] = some_same (sym is ∙ ap new (sym (reaches_own there)) ∙ d) in
              by_held text (subst (λ ps. HoldsText ps text) pieces held);
        }
          where
            by_held : (text : List ℕ) → (q.text ≡ text) ⊎ ⊥ → (atoms : List Atom) × IsContent is_verbatim (chars text) atoms
            by_held text (inl is) = read.texts text (inl (sym same ∙ is))
            by_held text (inr none) = absurd none

        replaced_same : MeanTheSame old new (literal p ∷ []) replacement
        replaced_same = record {
          value = λ is_verbatim atoms says. replaced_value says;
          readable = λ is_verbatim read. replaced_readable read;
        }

      -- ---- a field

      zip_last : (ns ts : List (List ℕ)) (text : List ℕ) (i : ℕ) → AllZip (NameMeans added) ns ts → text_index ts text ≡ Some i
          → NameMeans added (slice_index_or ns i []) text
      zip_last ns [] text i all is = cc
      zip_last [] (t ∷ ts) text i all is = absurd all
      zip_last (n ∷ ns) (t ∷ ts) text i all is =
          by_rest (text_index ts text) refl (λ j found. zip_last ns ts text j all.1 found) is
        where
          by_test : (b : Bool) → bytes_eq t text ≡ b → cond b (Some 0) None ≡ Some i → NameMeans added (slice_index_or (n ∷ ns) i []) text
          by_test false test found = cc
          by_test true test found =
              subst (λ k. NameMeans added (slice_index_or (n ∷ ns) k []) text) (some_same found)
              (subst (NameMeans added n) ((bytes_eq-Decides t text).0 test) all.0)

          by_rest : (o : Option ℕ) → text_index ts text ≡ o
              → ((j : ℕ) → text_index ts text ≡ Some j → NameMeans added (slice_index_or ns j []) text)
              → or_first (bytes_eq t text) o ≡ Some i → NameMeans added (slice_index_or (n ∷ ns) i []) text
          by_rest None none later found = by_test (bytes_eq t text) refl found
          by_rest (Some j) some later found =
              subst (λ k. NameMeans added (slice_index_or (n ∷ ns) k []) text) (some_same found) (later j some)

      module _ (fields : List (List ℕ)) where
        text_means : (ps : List Piece) (text : List ℕ) (o : Option ℕ) → text_index texts text ≡ o → single_text ps ≡ Some text
            → AllInFile ps
            → MeanTheSame old new ps (exchanged_pieces (option_map (λ i. name_value (slice_index_or names i [])) o) ps)
        text_means ps text None found one inside = stays_same ps inside
        text_means ps text (Some i) found one inside =
            let l = one_literal ps text one in
            let means = defines_text (slice_index_or names i []) text (zip_last names texts text i (names_mean named) found) in
            subst (λ xs. MeanTheSame old new xs (abbreviation (text_at 0 (slice_index_or names i [])) ∷ [])) (sym l.is)
            (replaced_same l.part means.0 (slice_index_or names i []) means.1 (means.2 ∙ sym l.same))

        named_means : (f : FieldReading) (o : Option (List ℕ)) → named_text fields f ≡ o → AllInFile (elements f)
            → MeanTheSame old new (elements f) (exchanged_pieces (text_value (text_index texts) names o) (elements f))
        named_means f None is inside = stays_same (elements f) inside
        named_means f (Some text) is inside =
            text_means (elements f) text (text_index texts text) refl (by_name (is_named_by fields f) is) inside
          where
            by_name : (b : Bool) → cond b (single_text (elements f)) None ≡ Some text → single_text (elements f) ≡ Some text
            by_name true found = found
            by_name false found = cc

        fields_mean : (fs : List FieldReading) → AllByRecursion (λ f. AllInFile (elements f)) fs
            → AllByRecursion
            (λ f. MeanTheSame old new f.value.pieces (exchanged_pieces (collection fields texts names f) f.value.pieces)) fs
        fields_mean [] all = _
        fields_mean (f ∷ fs) all = (named_means f (named_text fields f) refl all.0, fields_mean fs all.1)

        pub entries_mean : (es : List EntryReading) → AllByRecursion (λ e. AllByRecursion (λ f. AllInFile (elements f)) e.fields) es
            → EachMeansTheSame old new (λ e. collection fields texts names) es
        entries_mean [] all = _
        entries_mean (e ∷ es) all = (fields_mean e.fields all.0, entries_mean es all.1)

-- a file is alike to the reading of its text with collected abbreviations
pub files_collected : (d : Document) → IsDocument d → (fields : List (List ℕ)) (least : ℕ) (text : List ℕ)
    (made : AreMadeAbbreviations d fields least text) → AreAlikeFiles d.says made.read.tells
files_collected d read fields least text made =
    let at : ℕ = first_entry_start d.says.entries in
    let one : List FieldReading = filter (is_before at) d.says.abbreviations in
    let other : List FieldReading = filter (λ f. not (is_before at f)) d.says.abbreviations in
    files_exchanged (λ e. collection fields made.texts made.names) d.says made.read.tells
    (one ++ (line_readings d.says made.names made.texts ++ other))
    (entries_mean d.says made.texts made.names made.named one other (definitions_parted d read) (definitions_closed d.says) fields
    d.says.entries
    (entries_in d.says d.says.entries
    (λ name listed.
    right_listed d.says (definition_names d.says.abbreviations) (flat_map (λ e. used_names e.fields) d.says.entries) name
    listed)))
    made.read.alike
