-- The file grammar parses the output for settled entries in BibLaTeX's types and fields.
use Rattle.std.proofs.Common.{◌≡◌, ℕ, Bool, true, false, cond, List, [], ◌∷◌, ◌++◌, length, map, refl, sym, ap, ◌∙◌, subst, Some, None, inl, inr}
use Rattle.std.specs.Prelude.{encode_utf8_all, codes, bytes_eq, ◌⊎◌, unwrap_or}
use Rattle.std.specs.FinMap as by_name
use Rattle.std.specs.List.{list_all, AllByRecursion, flat_map}
use Rattle.std.specs.Str.{IsUtf8}
use Rattle.std.proofs.lemmas.Bool.{cases_Bool}
use lib.Utf8.{encode}
use Rattle.bib_text.specs.Places.{place}
use Rattle.bib_text.specs.declared.spanned.Spanned.{Spanned}
use Rattle.bib_text.proofs.BytesFacts.{bytes_same}
use Rattle.bib_chunks.specs.Written.{written_chunks}
use Rattle.bib_chunks.specs.declared.chunk.Chunk.{Chunk}
use Rattle.bib_syntax.specs.Characters.{is_id_start, is_id_continue}
use Rattle.bib_syntax.specs.Grammar.{block_kind}
use Rattle.bib_syntax.specs.Reading.{part}
use Rattle.bib_tables.specs.VerbatimFields.{is_verbatim_field}
use Rattle.bib_tables.specs.EntryType.{entry_type_name, entry_type_by_name_or_alias, entry_type_of, biblatex_type}
use Rattle.bib_tables.specs.declared.mechanics.EntryType.{EntryType}
use Rattle.bib_tables.specs.declared.mechanics.EntryType.TheVariants.{Article, Book, Booklet, InBook, InCollection, InProceedings, Manual, MastersThesis, PhdThesis, Misc, Proceedings, TechReport, Unpublished, MvBook, BookInBook, SuppBook, Periodical, SuppPeriodical, Collection, MvCollection, SuppCollection, Reference, MvReference, InReference, MvProceedings, Report, Patent, Thesis, Online, Software, Dataset, Set, XData, Unknown}
use Rattle.bib_tables.specs.Dialects.{biblatex_name}
use Rattle.bib_entry.specs.WrittenEntries.{biblatex_field, biblatex_entry, entries_text}
use Rattle.bib_entry.specs.declared.entry.Entry.{Entry}
use Rattle.biblatex.specs.Settled.{IsIdentifier, IsSettledField, IsSettledEntry}
use Rattle.biblatex.proofs.StandsFacts.{Stands, stands_whole, stands_run, stands_chars}
use Rattle.biblatex.proofs.WrittenParts.{parts_of_value}
use Rattle.biblatex.proofs.EntryReread.{Line, IsLine, WrittenEntry, IsWritten, line_text, entry_bytes, file_bytes, FileAgain, file_again}

abbrev pub Value' : Type 0
Value' = List (Spanned Chunk)

-- the name of a BibLaTeX type is an identifier, parses back to the type and begins an entry
pub record IsKind (t : EntryType) : Type 0 where
  pub again : entry_type_of (entry_type_name (biblatex_type t)) ≡ biblatex_type t
  pub entry : block_kind (entry_type_name (biblatex_type t)) ≡ block_kind (codes "misc")
  pub first : ℕ
  pub rest : List ℕ
  pub spelt : entry_type_name (biblatex_type t) ≡ encode_utf8_all (first ∷ rest)
  pub starts : is_id_start first ≡ true
  pub goes : list_all is_id_continue rest ≡ true

-- each type has such a name
pub kind : (t : EntryType) → IsKind t
unfolding entry_type_of entry_type_by_name_or_alias encode
kind Article = record { again = refl; entry = refl; first = 97; rest = codes "rticle"; spelt = refl; starts = refl; goes = refl }
kind Book = record { again = refl; entry = refl; first = 98; rest = codes "ook"; spelt = refl; starts = refl; goes = refl }
kind Booklet = record { again = refl; entry = refl; first = 98; rest = codes "ooklet"; spelt = refl; starts = refl; goes = refl }
kind InBook = record { again = refl; entry = refl; first = 105; rest = codes "nbook"; spelt = refl; starts = refl; goes = refl }
kind InCollection = record { again = refl; entry = refl; first = 105; rest = codes "ncollection"; spelt = refl; starts = refl; goes = refl }
kind InProceedings = record {
  again = refl;
  entry = refl;
  first = 105;
  rest = codes "nproceedings";
  spelt = refl;
  starts = refl;
  goes = refl;
}
kind Manual = record { again = refl; entry = refl; first = 109; rest = codes "anual"; spelt = refl; starts = refl; goes = refl }
kind MastersThesis = record { again = refl; entry = refl; first = 116; rest = codes "hesis"; spelt = refl; starts = refl; goes = refl }
kind PhdThesis = record { again = refl; entry = refl; first = 116; rest = codes "hesis"; spelt = refl; starts = refl; goes = refl }
kind Misc = record { again = refl; entry = refl; first = 109; rest = codes "isc"; spelt = refl; starts = refl; goes = refl }
kind Proceedings = record { again = refl; entry = refl; first = 112; rest = codes "roceedings"; spelt = refl; starts = refl; goes = refl }
kind TechReport = record { again = refl; entry = refl; first = 114; rest = codes "eport"; spelt = refl; starts = refl; goes = refl }
kind Unpublished = record { again = refl; entry = refl; first = 117; rest = codes "npublished"; spelt = refl; starts = refl; goes = refl }
kind MvBook = record { again = refl; entry = refl; first = 109; rest = codes "vbook"; spelt = refl; starts = refl; goes = refl }
kind BookInBook = record { again = refl; entry = refl; first = 98; rest = codes "ookinbook"; spelt = refl; starts = refl; goes = refl }
kind SuppBook = record { again = refl; entry = refl; first = 115; rest = codes "uppbook"; spelt = refl; starts = refl; goes = refl }
kind Periodical = record { again = refl; entry = refl; first = 112; rest = codes "eriodical"; spelt = refl; starts = refl; goes = refl }
kind SuppPeriodical = record {
  again = refl;
  entry = refl;
  first = 115;
  rest = codes "uppperiodical";
  spelt = refl;
  starts = refl;
  goes = refl;
}
kind Collection = record { again = refl; entry = refl; first = 99; rest = codes "ollection"; spelt = refl; starts = refl; goes = refl }
kind MvCollection = record { again = refl; entry = refl; first = 109; rest = codes "vcollection"; spelt = refl; starts = refl; goes = refl }
kind SuppCollection = record {
  again = refl;
  entry = refl;
  first = 115;
  rest = codes "uppcollection";
  spelt = refl;
  starts = refl;
  goes = refl;
}
kind Reference = record { again = refl; entry = refl; first = 114; rest = codes "eference"; spelt = refl; starts = refl; goes = refl }
kind MvReference = record { again = refl; entry = refl; first = 109; rest = codes "vreference"; spelt = refl; starts = refl; goes = refl }
kind InReference = record { again = refl; entry = refl; first = 105; rest = codes "nreference"; spelt = refl; starts = refl; goes = refl }
kind MvProceedings = record {
  again = refl;
  entry = refl;
  first = 109;
  rest = codes "vproceedings";
  spelt = refl;
  starts = refl;
  goes = refl;
}
kind Report = record { again = refl; entry = refl; first = 114; rest = codes "eport"; spelt = refl; starts = refl; goes = refl }
kind Patent = record { again = refl; entry = refl; first = 112; rest = codes "atent"; spelt = refl; starts = refl; goes = refl }
kind Thesis = record { again = refl; entry = refl; first = 116; rest = codes "hesis"; spelt = refl; starts = refl; goes = refl }
kind Online = record { again = refl; entry = refl; first = 111; rest = codes "nline"; spelt = refl; starts = refl; goes = refl }
kind Software = record { again = refl; entry = refl; first = 115; rest = codes "oftware"; spelt = refl; starts = refl; goes = refl }
kind Dataset = record { again = refl; entry = refl; first = 100; rest = codes "ataset"; spelt = refl; starts = refl; goes = refl }
kind Set = record { again = refl; entry = refl; first = 115; rest = codes "et"; spelt = refl; starts = refl; goes = refl }
kind XData = record { again = refl; entry = refl; first = 120; rest = codes "data"; spelt = refl; starts = refl; goes = refl }
kind (Unknown name) = record { again = refl; entry = refl; first = 109; rest = codes "isc"; spelt = refl; starts = refl; goes = refl }

-- a text is an identifier if its first character begins one and its other characters continue it
identifier_of : (c : ℕ) (cs : List ℕ) (text : List ℕ) → text ≡ encode_utf8_all (c ∷ cs) → is_id_start c ≡ true
    → list_all is_id_continue cs ≡ true → IsIdentifier text
identifier_of c cs text spelt starts goes =
    let stands : Stands (place text 0) (encode_utf8_all (c ∷ cs)) (place text (length text)) =
    subst (λ bs. Stands (place text 0) bs (place text (length text))) spelt (stands_whole text) in
    let first = stands_chars c cs stands in (
      part (place text 0) (place text (length text)),
      record {
        second = first.0;
        first = c;
        here = first.1;
        starts = starts;
        rest = stands_run is_id_continue cs goes first.2;
        reading = refl;
      },
    )

-- a property holds for the mapped name of a field if it holds for the name and for the three names that others are mapped to
pub by_written_name : (P : List ℕ → Type 0) (name : List ℕ) → P name → P (codes "journaltitle") → P (codes "location")
    → P (codes "institution") → P (biblatex_name name)
by_written_name P name own one two three =
    go (bytes_eq (codes "journal") name) (bytes_eq (codes "address") name) (bytes_eq (codes "school") name)
  where
    go : (a b c : Bool)
        → P
        (unwrap_or
        (cond a (Some (codes "journaltitle"))
        (cond b (Some (codes "location")) (cond c (Some (codes "institution")) None))) name)
    go true b c = one
    go false true c = two
    go false false true = three
    go false false false = own

-- a field is verbatim under its mapped name exactly if it is under its own
pub same_rule : (name : List ℕ) → is_verbatim_field (biblatex_name name) ≡ is_verbatim_field name
same_rule name =
    go (cases_Bool (bytes_eq (codes "journal") name)) (cases_Bool (bytes_eq (codes "address") name))
    (cases_Bool (bytes_eq (codes "school") name))
  where
    go : (bytes_eq (codes "journal") name ≡ true) ⊎ (bytes_eq (codes "journal") name ≡ false)
        → (bytes_eq (codes "address") name ≡ true) ⊎ (bytes_eq (codes "address") name ≡ false)
        → (bytes_eq (codes "school") name ≡ true) ⊎ (bytes_eq (codes "school") name ≡ false)
        → is_verbatim_field (biblatex_name name) ≡ is_verbatim_field name
    go (inl is) b c = subst (λ n. is_verbatim_field (biblatex_name n) ≡ is_verbatim_field n) (bytes_same (codes "journal") name is) refl
    go (inr first_not) (inl is) c =
        subst (λ n. is_verbatim_field (biblatex_name n) ≡ is_verbatim_field n) (bytes_same (codes "address") name is)
        refl
    go (inr first_not) (inr second_not) (inl is) =
        subst (λ n. is_verbatim_field (biblatex_name n) ≡ is_verbatim_field n) (bytes_same (codes "school") name is)
        refl
    go (inr first_not) (inr second_not) (inr third_not) = rw (first_not, second_not, third_not) refl

-- ---- the output for entries

-- the line of a field in the output
abbrev pub line_of : List ℕ × Value' → Line
line_of f = (biblatex_name f.0, written_chunks (is_verbatim_field f.0) false f.1)

-- the parts of an entry in the output
abbrev pub written_of : Entry → WrittenEntry
written_of e = record { kind = entry_type_name (biblatex_type e.entry_type); key = e.key; lines = map line_of (by_name.entries e.fields) }

-- the line of a settled field is valid
line_right : (f : List ℕ × Value') → IsSettledField f → IsLine (line_of f)
unfolding encode
line_right f settled = record {
  identifier = by_written_name IsIdentifier f.0 settled.name.identifier
      (identifier_of 106 (codes "ournaltitle") (codes "journaltitle") refl refl refl)
      (identifier_of 108 (codes "ocation") (codes "location") refl refl refl)
      (identifier_of 105 (codes "nstitution") (codes "institution") refl refl refl);
  parts = λ x y spells. parts_of_value (is_verbatim_field f.0) f.1 settled.value.each spells;
}

-- the lines of settled fields are valid
lines_right : (fs : List (List ℕ × Value')) → AllByRecursion IsSettledField fs → AllByRecursion IsLine (map line_of fs)
lines_right [] all = tt
lines_right (f ∷ fs) all = (line_right f all.0, lines_right fs all.1)

-- the parts of a settled entry are valid
pub written_right : (e : Entry) → IsSettledEntry e → IsWritten (written_of e)
written_right e settled = let k = kind e.entry_type in record {
  kind = identifier_of k.first k.rest (entry_type_name (biblatex_type e.entry_type)) k.spelt k.starts k.goes;
  entry = k.entry;
  key = settled.key;
  lines = lines_right (by_name.entries e.fields) settled.fields;
}

-- the text of fields is the text of their lines
lines_same : (fs : List (List ℕ × Value')) → flat_map biblatex_field fs ≡ flat_map line_text (map line_of fs)
lines_same [] = refl
lines_same (f ∷ fs) = ap (λ bs. line_text (line_of f) ++ bs) (lines_same fs)

-- the text of an entry is the bytes of its parts
entry_same : (e : Entry) → biblatex_entry e ≡ entry_bytes (written_of e)
entry_same e =
    ap (λ bs. 64 ∷ (entry_type_name (biblatex_type e.entry_type) ++ (123 ∷ (e.key ++ (44 ∷ 10 ∷ (bs ++ 125 ∷ []))))))
    (lines_same (by_name.entries e.fields))

-- the text of entries is the bytes of their parts
text_same : (es : List Entry) → entries_text biblatex_entry es ≡ file_bytes (map written_of es)
text_same [] = refl
text_same (e ∷ []) = ap (λ bs. bs ++ 10 ∷ []) (entry_same e)
text_same (e ∷ next ∷ rest) =
    ap (λ bs. bs ++ (10 ∷ 10 ∷ entries_text biblatex_entry (next ∷ rest))) (entry_same e)
    ∙ ap (λ bs. entry_bytes (written_of e) ++ (10 ∷ 10 ∷ bs)) (text_same (next ∷ rest))

-- the parts of settled entries are valid
all_written : (es : List Entry) → AllByRecursion IsSettledEntry es → AllByRecursion IsWritten (map written_of es)
all_written [] all = tt
all_written (e ∷ es) all = (written_right e all.0, all_written es all.1)

-- if the output for settled entries is valid UTF-8, it is parsed as a raw bibliography with the parts of these entries
pub entries_again : (es : List Entry) → AllByRecursion IsSettledEntry es → IsUtf8 (entries_text biblatex_entry es)
    → FileAgain (map written_of es) (place (entries_text biblatex_entry es) 0)
entries_again es settled utf8 =
    let text = file_bytes (map written_of es) in
    let again : FileAgain (map written_of es) (place text 0) =
    file_again (map written_of es) (all_written es settled) (subst IsUtf8 (text_same es) utf8) (stands_whole text)
    refl in
    subst (λ t. FileAgain (map written_of es) (place t 0)) (sym (text_same es)) again
