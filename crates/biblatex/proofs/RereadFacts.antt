-- The bibliography of the output for settled entries.
use Rattle.std.proofs.Common.{◌≡◌, ℕ, Bool, true, false, cond, List, [], ◌∷◌, ◌++◌, map, reverse, refl, sym, ap, ◌∙◌, subst, arith, length, get_or, drop, ◌+◌, Option, Some, None, MatchOption, inl, inr, ⊎_elim}
use Rattle.std.specs.declared.string.String.{String}
use Rattle.std.specs.Prelude.{◌⊎◌, Result, Ok, Err, IfOk, string_bytes, encode_utf8_all, codes, find, bytes_eq, option_map}
use Rattle.std.specs.Char.{to_ascii_lowercase}
use Rattle.std.specs.List.{list_any, AllByRecursion, AllZip, IsDistinct}
use Rattle.std.specs.Str.{chars, IsUtf8}
use Rattle.std.specs.Option.{option_map_or}
use Rattle.std.specs.Ordering.{is_eq}
use Rattle.std.specs.FinMap as by_name
use Rattle.std.specs.FinMap.{get-from_entries}
use Rattle.std.proofs.Math.Utf8.{scalars}
use Rattle.std.proofs.lemmas.Bool.{both_ways, cases_Bool}
use Rattle.std.proofs.lemmas.Str.{scalars-chars, IsUtf8-string_bytes}
use Rattle.std.proofs.lemmas.Cmp.{nat_list_cmp_total}
use Rattle.std.proofs.lemmas.List.{append-nil}
use Rattle.std.proofs.lemmas.List.Folds.{list_any-append}
use Rattle.std.proofs.lemmas.Slice.Eq.{bytes_eq-Decides}
use Rattle.std.proofs.lemmas.Map.Keys.{IsDistinct-head, IsDistinct-tail}
use Rattle.std.proofs.lemmas.Map.Text.{is_eq-slice_cmp}
use Rattle.bib_text.proofs.TextFacts.{chars_whole}
use Rattle.bib_text.specs.Places.{place}
use Rattle.bib_text.specs.declared.spanned.Spanned.{Spanned}
use Rattle.bib_chunks.specs.Lists.{comma_texts}
use Rattle.bib_chunks.specs.Styled.{Atom, styled}
use Rattle.bib_chunks.specs.Written.{written_chunks}
use Rattle.bib_chunks.specs.declared.chunk.Chunk.{Chunk}
use Rattle.bib_syntax.proofs.FileFacts.{file_same}
use Rattle.bib_syntax.specs.Reading.{Part, part, Piece, FieldReading, EntryReading, FileReading}
use Rattle.bib_syntax.specs.Reading.Piece.{literal}
use Rattle.bib_abbreviations.specs.Abbreviations.{Definitions, Evaluates, IsReadable, Reaches}
use Rattle.bib_tables.specs.VerbatimFields.{is_verbatim_field}
use Rattle.bib_contents.specs.Contents.{IsContent}
use Rattle.bib_chunks.specs.Joined.{ArePlaced}
use Rattle.bib_tables.specs.EntryType.{entry_type_of, biblatex_type}
use Rattle.bib_collections.specs.Sorted.{by_bytes}
use Rattle.bib_tables.specs.Dialects.{biblatex_name}
use Rattle.bib_entry.specs.WrittenEntries.{biblatex_entry, entries_text}
use Rattle.bib_entry.specs.declared.entry.Entry.{Entry}
use Rattle.biblatex.specs.Mapped.{IsMapped}
use Rattle.biblatex.specs.Settled.{link_names, IsSettledField, IsSettledEntry, AreSettled}
use Rattle.biblatex.proofs.JoinedAgain.{Again, joined_again, written_texts}
use Rattle.biblatex.proofs.ValueReread.{reread}
use Rattle.biblatex.proofs.StandsFacts.{stands_between}
use Rattle.biblatex.proofs.EntryReread.{SaysLine, SayLines, SaysEntry, SayEntries, FileAgain}
use Rattle.biblatex.proofs.WrittenReread.{kind, by_written_name, same_rule, line_of, written_of, entries_again}
use Rattle.bib_file_entries.specs.Bibliography.{Bibliography, claims}
use Rattle.bib_inheritance.specs.Resolving.{Inherits, texts_of_entries}
use Rattle.biblatex.specs.Resolved.{AreOwn, IsLoaded, graph_of}
use Rattle.bib_file_entries.specs.Loaded.{definition_in, name_of, field_in, FieldSays, CanBeRead, AllCanBeRead, IsEntry, AreEntries, is_claimed}
use Rattle.biblatex.specs.Headline.{IsReadAgain}
use Rattle.biblatex.proofs.AloneFacts.{RefersToNothing, IsAsWritten, no_cycle, no_dates, entries_as_written}
use Rattle.biblatex.proofs.ResolvedFacts.{all_texts_same, graph_same, keys_same}
use Rattle.bib_file_entries.proofs.LoadingFacts.{AllZip-reverse}

abbrev Value' : Type 0
Value' = List (Spanned Chunk)

-- inequality of names is symmetric
differ : (one two : List ℕ) → bytes_eq one two ≡ false → bytes_eq two one ≡ false
differ one two other =
    go (cases_Bool (bytes_eq two one))
  where
    go : (bytes_eq two one ≡ true) ⊎ (bytes_eq two one ≡ false) → bytes_eq two one ≡ false
    go (inl same) = absurd (both_ways _ other ((bytes_eq-Decides one two).1 (sym ((bytes_eq-Decides two one).0 same))))
    go (inr apart) = apart

-- ---- the fields and entries of the output

module _ (definitions : Definitions) where
  -- a value that is one literal reaches no abbreviation
  no_names : {p : Part} {name : List ℕ} → Reaches definitions (literal p ∷ []) name → ⊥
  no_names (Reaches.held held) = held
  no_names (Reaches.through before defined holds) = no_names before

  -- a raw field can be parsed as chunks with the written field's styled text, and has its mapped name, not one of `link_names`
  record SaysField (f : List ℕ × Value') (r : FieldReading) : Type 0 where
    chunks : Value'
    same : styled chunks ≡ styled f.1
    name : name_of r ≡ biblatex_name f.0
    says : FieldSays definitions r chunks
    readable : CanBeRead definitions r
    apart : list_any (bytes_eq (name_of r)) link_names ≡ false

  one_piece : {p q : Part} → literal p ∷ [] ≡ literal q ∷ [] → p ≡ q
  one_piece same = cc

  -- chunks at the start of a literal lie in its span
  placed : {p q : Part} {pieces : List Piece} {atoms : List Atom} (again : Again atoms p.start)
      → pieces ≡ literal p ∷ [] → pieces ≡ literal q ∷ [] → q.end ≡ q.start + length q.text
      → ArePlaced q.start q.end again.chunks
  placed {p} {q} again is also size =
      let same : p ≡ q = one_piece (sym is ∙ also) in
      let starts : p.start ≡ q.start = ap (λ x. x.start) same in
      subst (λ n. ArePlaced n q.end again.chunks) starts (again.placed q.end (omega (arith, starts, size)))

  -- the raw field of a settled field's line has its styled text
  field_says : (f : List ℕ × Value') (r : FieldReading) → IsSettledField f → SaysLine (line_of f) r → SaysField f r
  field_says f r settled said =
      let v = is_verbatim_field f.0 in
      let cs = written_chunks v false f.1 in
      let p = part said.inside said.following in
      let small : name_of r ≡ biblatex_name f.0 =
      ap (map to_ascii_lowercase) said.name
      ∙ by_written_name (λ n. map to_ascii_lowercase n ≡ n) f.0 settled.name.small refl refl refl in
      let rule : is_verbatim_field (name_of r) ≡ v = ap is_verbatim_field small ∙ same_rule f.0 in
      let spelt : chars (encode_utf8_all cs) ≡ cs = chars_whole cs (encode_utf8_all cs) said.utf8 refl in
      let text : chars p.text ≡ cs = ap chars (stands_between said.spells) ∙ spelt in
      let valid : scalars cs ≡ true = ap scalars (sym spelt) ∙ scalars-chars (encode_utf8_all cs) said.utf8 in
      let again : Again (styled f.1) p.start = joined_again (styled f.1) p.start (written_texts v false f.1 valid) in
      let content : IsContent v (chars p.text) (styled f.1) =
      subst (λ t. IsContent v t (styled f.1)) (sym text) (reread v f.1 settled.value) in
      let all : Evaluates definitions v (literal p ∷ []) (styled f.1 ++ []) = Evaluates.text content Evaluates.none in
      let whole : Evaluates definitions v (literal p ∷ []) (styled f.1) =
      subst (Evaluates definitions v (literal p ∷ [])) (append-nil (styled f.1)) all in
      let read : Evaluates definitions v (literal p ∷ []) (styled again.chunks) =
      subst (Evaluates definitions v (literal p ∷ [])) (sym again.says) whole in
      let readable : IsReadable definitions v (literal p ∷ []) = record {
        known = λ name reaches. absurd (no_names reaches);
        no_cycle = λ name definition reaches defined again. absurd (no_names reaches);
        texts = λ t holds.
            ⊎_elim (λ same. (styled f.1, subst (λ x. IsContent v (chars x) (styled f.1)) same content))
            (λ none. absurd none) holds;
        inner_texts = λ name definition reaches defined. absurd (no_names reaches);
      } in
      record {
        chunks = again.chunks;
        same = again.says;
        name = small;
        says = record {
          says =
              subst (λ b. Evaluates definitions b r.value.pieces (styled again.chunks)) (sym rule)
              (subst (λ ps. Evaluates definitions v ps (styled again.chunks)) (sym said.pieces) read);
          joined = again.joined;
          placed = λ q is size. placed {p = p} again said.pieces is size;
        };
        readable =
            subst (λ b. IsReadable definitions b r.value.pieces) (sym rule)
            (subst (IsReadable definitions v) (sym said.pieces) readable);
        apart =
            ap (λ n. list_any (bytes_eq n) link_names) small
            ∙ by_written_name (λ n. list_any (bytes_eq n) link_names ≡ false) f.0 settled.name.apart refl refl refl;
      }

  -- a parsed field: it has the name, not one of `link_names`, and the contents of its raw field
  record IsRead (w : List ℕ × Value') (r : FieldReading) : Type 0 where
    name : name_of r ≡ w.0
    says : FieldSays definitions r w.1
    readable : CanBeRead definitions r
    apart : list_any (bytes_eq (name_of r)) link_names ≡ false

  -- the parsed fields of the output for these fields
  record AreAgain (fs : List (List ℕ × Value')) (rs : List FieldReading) : Type 0 where
    read : List (List ℕ × Value')
    are : AllZip IsRead read rs
    same : AllZip (λ f w. (w.0 ≡ biblatex_name f.0) × (styled w.1 ≡ styled f.1)) fs read

  -- settled fields are parsed from the raw fields of their lines
  fields_say : (fs : List (List ℕ × Value')) (rs : List FieldReading) → AllByRecursion IsSettledField fs
      → SayLines (map line_of fs) rs → AreAgain fs rs
  fields_say [] [] settled said = record { read = []; are = tt; same = tt }
  fields_say [] (r ∷ rs) settled said = absurd said
  fields_say (f ∷ fs) [] settled said = absurd said
  fields_say (f ∷ fs) (r ∷ rs) settled said =
      let one = field_says f r settled.0 said.0 in
      let more = fields_say fs rs settled.1 said.1 in
      record {
        read = (biblatex_name f.0, one.chunks) ∷ more.read;
        are = (record { name = one.name; says = one.says; readable = one.readable; apart = one.apart }, more.are);
        same = ((refl, one.same), more.same);
      }

  -- raw fields with parsed contents can be parsed
  all_readable : (ws : List (List ℕ × Value')) (rs : List FieldReading) → AllZip IsRead ws rs → AllCanBeRead definitions rs
  all_readable [] [] all = tt
  all_readable [] (r ∷ rs) all = absurd all
  all_readable (w ∷ ws) [] all = absurd all
  all_readable (w ∷ ws) (r ∷ rs) all = (all.0.readable, all_readable ws rs all.1)

  abbrev IsFound : Option FieldReading → Option Value' → Type 0
  IsFound field value = MatchOption field (value ≡ None) (λ r. (chunks : Value') × (value ≡ Some chunks) × FieldSays definitions r chunks)

  found_first : (name : List ℕ) (ws : List (List ℕ × Value')) (rs : List FieldReading) → AllZip IsRead ws rs
      → IsFound (find (λ r. bytes_eq name (name_of r)) rs) (by_name.find by_bytes name ws)
  found_first name [] [] all = refl
  found_first name [] (r ∷ rs) all = absurd all
  found_first name (w ∷ ws) [] all = absurd all
  found_first name (w ∷ ws) (r ∷ rs) all =
      let same : bytes_eq name (name_of r) ≡ is_eq (by_bytes name w.0) = ap (bytes_eq name) all.0.name ∙ sym (is_eq-slice_cmp name w.0) in
      elim (is_eq (by_bytes name w.0)) as
      (λ b.
      bytes_eq name (name_of r) ≡ b
      → IsFound (cond (bytes_eq name (name_of r)) (Some r) (find (λ q. bytes_eq name (name_of q)) rs))
      (cond b (Some w.1) (by_name.find by_bytes name ws))) [
        | true ↦
            λ e.
            subst (λ b. IsFound (cond b (Some r) (find (λ q. bytes_eq name (name_of q)) rs)) (Some w.1)) (sym e)
            (w.1, refl, all.0.says)
        | false ↦
            λ e.
            subst
            (λ b.
            IsFound (cond b (Some r) (find (λ q. bytes_eq name (name_of q)) rs))
            (by_name.find by_bytes name ws)) (sym e) (found_first name ws rs all.1)
      ] same

  found_last : (name : List ℕ) (ws : List (List ℕ × Value')) (rs : List FieldReading) → AllZip IsRead ws rs
      → IsFound (field_in rs name) (by_name.get (by_name.from_entries {R = by_bytes} (reverse ws)) name)
  found_last name ws rs all =
      subst (IsFound (field_in rs name)) (sym (get-from_entries nat_list_cmp_total (reverse ws) name))
      (found_first name (reverse ws) (reverse rs) (AllZip-reverse IsRead ws rs all))

  none_named : (name : List ℕ) (ws : List (List ℕ × Value')) (rs : List FieldReading)
      → AllZip (λ w r. bytes_eq name (name_of r) ≡ false) ws rs → find (λ r. bytes_eq name (name_of r)) rs ≡ None
  none_named name [] [] all = refl
  none_named name [] (r ∷ rs) all = absurd all
  none_named name (w ∷ ws) [] all = absurd all
  none_named name (w ∷ ws) (r ∷ rs) all = rw (all.0) (none_named name ws rs all.1)

  -- a name that differs from each name that isn't in `link_names`
  abbrev IsLink : List ℕ → Type 0
  IsLink word = (name : List ℕ) → list_any (bytes_eq name) link_names ≡ false → bytes_eq word name ≡ false

  linking_word : (word : List ℕ) → list_any (bytes_eq word) link_names ≡ true → IsLink word
  linking_word word links name apart =
      elim (cases_Bool (bytes_eq word name)) [
        | inl same ↦ absurd
            (both_ways _
            (subst (λ n. list_any (bytes_eq n) link_names ≡ false) (sym ((bytes_eq-Decides word name).0 same)) apart)
            links)
        | inr other ↦ other
      ]

  zip_apart : (word : List ℕ) → IsLink word → (ws : List (List ℕ × Value')) (rs : List FieldReading)
      → AllZip IsRead ws rs → AllZip (λ w r. bytes_eq word (name_of r) ≡ false) ws rs
  zip_apart word link [] [] all = tt
  zip_apart word link [] (r ∷ rs) all = absurd all
  zip_apart word link (w ∷ ws) [] all = absurd all
  zip_apart word link (w ∷ ws) (r ∷ rs) all = (link (name_of r) all.0.apart, zip_apart word link ws rs all.1)

  -- no parsed field has the name `word`, if that differs from each name that isn't in `link_names`
  no_link : (word : List ℕ) → IsLink word → (ws : List (List ℕ × Value')) (rs : List FieldReading) → AllZip IsRead ws rs
      → by_name.get (by_name.from_entries {R = by_bytes} (reverse ws)) word ≡ None
  no_link word link ws rs all =
      let none : field_in rs word ≡ None =
      none_named word (reverse ws) (reverse rs)
      (AllZip-reverse (λ w r. bytes_eq word (name_of r) ≡ false) ws rs (zip_apart word link ws rs all)) in
      subst (λ o. IsFound o (by_name.get (by_name.from_entries {R = by_bytes} (reverse ws)) word)) none (found_last word ws rs all)

  -- the fields are these fields with names mapped to BibLaTeX's and with equal styled texts
  abbrev AreSame : List (List ℕ × Value') → List (List ℕ × Value') → Type 0
  AreSame fs ws = AllZip (λ f w. (w.0 ≡ biblatex_name f.0) × (styled w.1 ≡ styled f.1)) fs ws

  same_found : (name : List ℕ) (fs ws : List (List ℕ × Value')) → AreSame fs ws
      → option_map styled (by_name.find by_bytes name ws)
      ≡ option_map (λ f. styled f.1) (find (λ f. bytes_eq name (biblatex_name f.0)) fs)
  same_found name [] [] all = refl
  same_found name [] (w ∷ ws) all = absurd all
  same_found name (f ∷ fs) [] all = absurd all
  same_found name (f ∷ fs) (w ∷ ws) all =
      ap (λ b. option_map styled (cond b (Some w.1) (by_name.find by_bytes name ws)))
      (is_eq-slice_cmp name w.0 ∙ ap (bytes_eq name) all.0.0)
      ∙ either (bytes_eq name (biblatex_name f.0)) (same_found name fs ws all.1)
    where
      either : (b : Bool)
          → option_map styled (by_name.find by_bytes name ws)
          ≡ option_map (λ g. styled g.1) (find (λ g. bytes_eq name (biblatex_name g.0)) fs)
          → option_map styled (cond b (Some w.1) (by_name.find by_bytes name ws))
          ≡ option_map (λ g. styled g.1) (cond b (Some f) (find (λ g. bytes_eq name (biblatex_name g.0)) fs))
      either true rest = ap Some all.0.1
      either false rest = rest

  -- the entry in the output for an entry: no field claims other names or refers to other entries
  record IsAgain (e : Entry) (said : EntryReading) : Type 0 where
    read : Entry
    is : IsEntry definitions said read
    claims : claims read ≡ e.key ∷ []
    alone : RefersToNothing read
    mapped : IsMapped e read

  -- a settled entry is parsed from the raw entry with its parts
  entry_again : (e : Entry) (said : EntryReading) → IsSettledEntry e → SaysEntry (written_of e) said → IsAgain e said
  entry_again e said settled says =
      let fs = by_name.entries e.fields in
      let all = fields_say fs said.fields settled.fields says.lines in
      let ws = all.read in
      record {
        read = record { key = e.key; entry_type = biblatex_type e.entry_type; fields = by_name.from_entries {R = by_bytes} (reverse ws) };
        is = record {
          key = sym says.key;
          kind = sym (kind e.entry_type).again ∙ ap entry_type_of (sym says.kind);
          fields = λ name. found_last name ws said.fields all.are;
          readable = all_readable ws said.fields all.are;
        };
        claims =
            ap (λ o. e.key ∷ option_map_or (λ chunks. comma_texts (styled chunks)) o [])
            (no_link (codes "ids") (linking_word (codes "ids") refl) ws said.fields all.are);
        alone = record {
          crossref = no_link (codes "crossref") (linking_word (codes "crossref") refl) ws said.fields all.are;
          xdata = no_link (codes "xdata") (linking_word (codes "xdata") refl) ws said.fields all.are;
        };
        mapped = record {
          key = refl;
          entry_type = refl;
          fields = λ name.
              ap (option_map styled) (get-from_entries nat_list_cmp_total (reverse ws) name)
              ∙ same_found name (reverse fs) (reverse ws)
              (AllZip-reverse (λ f w. (w.0 ≡ biblatex_name f.0) × (styled w.1 ≡ styled f.1)) fs ws all.same);
        };
      }

  abbrev AreFresh : List (List ℕ) → List Entry → Type 0
  AreFresh claimed es = AllByRecursion (λ e. is_claimed claimed e.key ≡ false) es

  fresh_more : (claimed : List (List ℕ)) (key : List ℕ) (es : List Entry) → AreFresh claimed es
      → AllByRecursion (λ other. bytes_eq key other ≡ false) (map (λ e. e.key) es) → AreFresh (claimed ++ key ∷ []) es
  fresh_more claimed key [] fresh apart = tt
  fresh_more claimed key (e ∷ es) fresh apart = (
    list_any-append (bytes_eq e.key) claimed (key ∷ []) ∙ rw (fresh.0, differ key e.key apart.0) refl,
    fresh_more claimed key es fresh.1 apart.1,
  )

  -- the entries in the output for these entries
  record EntriesAgain (claimed : List (List ℕ)) (es : List Entry) (said : List EntryReading) : Type 0 where
    read : List Entry
    are : AreEntries definitions claimed said read
    alone : AllByRecursion RefersToNothing read
    mapped : AllZip IsMapped es read

  -- settled entries with distinct keys that were not claimed before are parsed from the raw entries with their parts
  entries_again_of : (claimed : List (List ℕ)) (es : List Entry) (said : List EntryReading)
      → AllByRecursion IsSettledEntry es → IsDistinct bytes_eq (map (λ e. e.key) es) → AreFresh claimed es
      → SayEntries (map written_of es) said
      → EntriesAgain claimed es said
  entries_again_of claimed [] [] settled distinct fresh says = record { read = []; are = AreEntries.none; alone = tt; mapped = tt }
  entries_again_of claimed [] (s ∷ ss) settled distinct fresh says = absurd says
  entries_again_of claimed (e ∷ es) [] settled distinct fresh says = absurd says
  entries_again_of claimed (e ∷ es) (s ∷ ss) settled distinct fresh says =
      let one = entry_again e s settled.0 says.0 in
      let more =
      entries_again_of (claimed ++ claims one.read) es ss settled.1
      (IsDistinct-tail bytes_eq e.key (map (λ x. x.key) es) distinct)
      (subst (λ names. AreFresh (claimed ++ names) es) (sym one.claims)
      (fresh_more claimed e.key es fresh.1 (IsDistinct-head bytes_eq e.key (map (λ x. x.key) es) distinct)))
      says.1 in
      record {
        read = one.read ∷ more.read;
        are = AreEntries.next (ap (is_claimed claimed) says.0.key ∙ fresh.0) one.is more.are;
        alone = (one.alone, more.alone);
        mapped = (one.mapped, more.mapped);
      }

-- ---- the bibliography of the output

-- if own entries are mapped from some entries, so are entries with the same keys, types and styled texts
loaded_mapped : (es own entries : List Entry) → AllZip IsMapped es own → AllZip IsAsWritten own entries
    → map (λ e. e.key) entries ≡ map (λ e. e.key) own → AllZip IsMapped es entries
loaded_mapped [] [] [] all plain keys = tt
loaded_mapped [] [] (x ∷ xs) all plain keys = absurd plain
loaded_mapped [] (o ∷ os) entries all plain keys = absurd all
loaded_mapped (e ∷ es) [] entries all plain keys = absurd all
loaded_mapped (e ∷ es) (o ∷ os) [] all plain keys = absurd plain
loaded_mapped (e ∷ es) (o ∷ os) (x ∷ xs) all plain keys = (
  record {
    key = ap (λ l. get_or l 0 []) keys ∙ all.0.key;
    entry_type = plain.0.entry_type ∙ all.0.entry_type;
    fields = λ name. plain.0.fields name ∙ all.0.fields name;
  },
  loaded_mapped es os xs all.1 plain.1 (ap (drop 1) keys),
)

-- if the own entries of a file have no `crossref` and `xdata`, and are mapped from some entries, so are those of each bibliography of it
loaded_reread : (says : FileReading) (es own : List Entry) → AreOwn says own → AllByRecursion RefersToNothing own
    → AllZip IsMapped es own → (read : Bibliography) → IsLoaded says read → AllZip IsMapped es read.entries
loaded_reread says es own are alone mapped read loaded =
    let all_texts : texts_of_entries loaded.accepted.own ≡ texts_of_entries own = all_texts_same says loaded.accepted.entries are in
    let graph : graph_of loaded.accepted.own ≡ graph_of own = graph_same says loaded.accepted.entries are in
    let inherits : Inherits (texts_of_entries own) (graph_of own) (texts_of_entries read.entries) =
    subst (λ g. Inherits (texts_of_entries own) g (texts_of_entries read.entries)) graph
    (subst (λ s. Inherits s (graph_of loaded.accepted.own) (texts_of_entries read.entries)) all_texts
    loaded.inherits) in
    loaded_mapped es own read.entries mapped (entries_as_written own read.entries alone inherits)
    (loaded.keys ∙ keys_same says loaded.accepted.entries are)

nothing_claimed : (es : List Entry) → AllByRecursion (λ e. is_claimed [] e.key ≡ false) es
nothing_claimed [] = tt
nothing_claimed (e ∷ es) = (refl, nothing_claimed es)

-- if the output for settled entries is valid UTF-8, it parses back to these entries in BibLaTeX's types and fields
pub entries_reread : (es : List Entry) → AreSettled es → IsUtf8 (entries_text biblatex_entry es)
    → IsReadAgain es (entries_text biblatex_entry es)
entries_reread es settled utf8 =
    let again : FileAgain (map written_of es) (place (entries_text biblatex_entry es) 0) = entries_again es settled.each utf8 in
    let all = entries_again_of (definition_in []) [] es again.said settled.each settled.keys (nothing_claimed es) again.says in
    let says : FileReading = record { preamble = []; entries = again.said; abbreviations = [] } in
    record {
      accepted = record {
        says = says;
        reading = again.file;
        accepted = record {
          own = all.read;
          entries = all.are;
          no_cycle = no_cycle all.read all.alone;
          dates = λ values inherits. no_dates all.read values all.alone;
        };
      };
      mapped = λ read is.
          loaded_reread says es all.read all.are all.alone all.mapped read
          (subst (λ s. IsLoaded s read) (file_same is.reading again.file) is.loaded);
    }

-- the same for a result whose text is the output for settled entries
pub text_reread : {Z E : Type 0} (es given : List Entry) (r : Result (String Z) E)
    → IfOk r (λ text. string_bytes text ≡ entries_text biblatex_entry given) → given ≡ es → AreSettled es
    → IfOk r (λ text. IsReadAgain es (string_bytes text))
text_reread es given (Ok text) is same settled =
    let whole : string_bytes text ≡ entries_text biblatex_entry es = is ∙ ap (entries_text biblatex_entry) same in
    subst (IsReadAgain es) (sym whole) (entries_reread es settled (subst IsUtf8 whole (IsUtf8-string_bytes text)))
text_reread es given (Err e) is same settled = tt
