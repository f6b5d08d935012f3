-- Laws of recovery: two recoveries of a text agree, and the recovery of an accepted text is a bibliography of it.
use Rattle.std.proofs.Common.{◌≡◌, ℕ, zero, suc, ◌+◌, ◌<◌, ◌≤◌, Bool, true, false, List, [], ◌∷◌, ◌++◌, length, map, drop, get_or, refl, sym, ap, ◌∙◌, subst, arith, inl, inr, ◌⊎◌, Option, Some, None}
use Rattle.std.specs.Prelude.{slice_get, slice_index_or, ◌&&◌}
use Rattle.std.specs.List.{AllZip, list_any}
use Rattle.std.specs.declared.ops.Range.{Range}
use Rattle.std.proofs.lemmas.Bool.{cases_lt, false≢true, false_from_ne_true}
use Rattle.std.proofs.lemmas.List.{length-map}
use Rattle.bib_text.proofs.ListFacts.{all_zip_append, some_same}
use Rattle.bib_abbreviations.specs.Abbreviations.{AreOneError}
use Rattle.bib_entry.specs.declared.entry.Entry.{Entry}
use Rattle.bib_file_entries.specs.Bibliography.{Bibliography}
use Rattle.bib_file_entries.specs.Claiming.{place_of}
use Rattle.bib_file_entries.specs.Kept.{EntriesKept, IsKeptFrom}
use Rattle.bib_file_entries.specs.Loaded.{AreEntries, definition_in}
use Rattle.bib_collections.specs.Graph.{Graph, HasNoCycle, Leads, refs_of}
use Rattle.bib_inheritance.specs.InheritableDate.{looks_for_date}
use Rattle.bib_inheritance.specs.EntryTexts.{EntryTexts}
use Rattle.bib_collections.specs.Names.{AreIndicesBelow}
use Rattle.bib_collections.specs.Sorted.{ByText}
use Rattle.bib_inheritance.specs.Recovered.{AreCut, AreRecovered, EachReported}
use Rattle.bib_inheritance.specs.Resolving.{AllKeepChunks, AreDatesRead, Inherits, IsCycleAt, IsDateError, at_index, graph_by, has_bad_date, is_bad_date, texts_of_entries}
use Rattle.bib_syntax.specs.Grammar.{IsRawReading}
use Rattle.bib_syntax.specs.Reading.{EntryReading, FileReading}
use Rattle.bib_syntax.specs.Recovery.{IsFullRecovery}
use Rattle.bib_syntax.specs.declared.raw.ParseError.{ParseError}
use Rattle.bib_syntax.specs.declared.raw.ParseErrorKind.TheVariants.{ReferenceCycle}
use Rattle.bib_syntax.specs.declared.raw.recovery.SkippedBlock.{SkippedBlock}
use Rattle.bib_syntax.proofs.RecoveryFacts as raw
use Rattle.biblatex.specs.BibliographyRecovery.{IsRecoveredBibliography, IsSameRecovery}
use Rattle.biblatex.specs.Headline.{IsAcceptedText, IsBibliographyOf}
use Rattle.biblatex.specs.Resolved.{AreOneErrorOf, AreOwn, IsAccepted, IsLoaded, graph_of, names_of}
use Rattle.biblatex.proofs.KeptFacts.{entries_all, entries_fine, entries_once, kept_are_entries, none_after, none_before}
use Rattle.biblatex.proofs.RecoveryFacts.{cut_alike, decided, fine_is_silent, none_fails, nothing_cut, reported_once}
use Rattle.biblatex.proofs.ResolvedFacts.{all_texts_same, dates_of_each, graph_same, graphs_by, keys_same, names_below, names_same, solutions_by}
use Rattle.biblatex.proofs.AloneFacts.{rows_length}
use Rattle.std.proofs.Math.Bool.{and-false}

-- an index out of range has no references
nothing_past : (graph : Graph) (index : ℕ) → length graph ≤ index → refs_of graph index ≡ []
nothing_past [] index past = refl
nothing_past (row ∷ graph) zero past = absurd (omega arith)
nothing_past (row ∷ graph) (suc index) past = nothing_past graph index (omega arith)

-- if `has_bad_date` fails for each index in range, it fails for each index
dates_everywhere : (own : List EntryTexts) (graph : Graph) (values : List EntryTexts)
    → ((index : ℕ) → index < length graph → has_bad_date own graph values index ≡ true → ⊥)
    → AreDatesRead own graph values
dates_everywhere own graph values fine index = elim (cases_lt index (length graph)) [
  | inl less ↦ false_from_ne_true (has_bad_date own graph values index) (fine index less)
  | inr past ↦ ap (λ refs. looks_for_date (at_index own index) && list_any (is_bad_date values) refs)
      (nothing_past graph index past) ∙ and-false (looks_for_date (at_index own index))
]

-- ---- without errors, inheriting is as without recovery

module _ {places : List (Range ℕ)} {own entries : List Entry} {errors : List ParseError}
    (found : AreRecovered places (names_of own) own entries errors) where
  -- without errors, no entry leads to itself
  no_cycle_told : errors ≡ [] → (index : ℕ) → index < length own → Leads (graph_of own) index index → ⊥
  no_cycle_told none = none_fails found.each_cycle (none_before found.cycles found.dates (sym found.are ∙ none))

  -- if no entry leads to itself, no entry loses its references
  pub all_stay : ((index : ℕ) → index < length own → Leads (graph_of own) index index → ⊥) → found.cut ≡ own
  all_stay fine = nothing_cut (graph_of own) own found.cut fine found.are_cut

  -- without errors, the graph has no cycle
  pub without_cycle : errors ≡ [] → HasNoCycle (graph_of own)
  without_cycle none index less = no_cycle_told none index (omega (arith, less, rows_length (names_of own) own))

  -- if no entry loses its references, the entries solve the equation of the own entries
  pub inherits_all : found.cut ≡ own → Inherits (texts_of_entries own) (graph_of own) (texts_of_entries entries)
  inherits_all stays =
      subst (λ c. Inherits (texts_of_entries c) (graph_by (names_of own) c) (texts_of_entries entries)) stays
      found.inherits

  -- if no entry loses its references, each own field that isn't removed keeps its chunks
  pub chunks_kept : found.cut ≡ own → AllKeepChunks own entries
  chunks_kept stays = subst (λ c. AllKeepChunks c entries) stays found.chunks

  -- and the errors of dates are those of the own entries
  pub dates_told : found.cut ≡ own
      → EachReported
      (λ index. has_bad_date (texts_of_entries own) (graph_of own) (texts_of_entries entries) index ≡ true)
      (IsDateError own (graph_of own) (texts_of_entries entries)) (length own) found.dates
  dates_told stays = subst
      (λ c.
      EachReported
      (λ index.
      has_bad_date (texts_of_entries c) (graph_by (names_of own) c) (texts_of_entries entries) index ≡ true)
      (IsDateError c (graph_by (names_of own) c) (texts_of_entries entries)) (length own) found.dates)
      stays found.each_date

  -- without errors, no entry that lacks a required date refers to an entry with an unreadable date
  pub read_all : errors ≡ [] → AreDatesRead (texts_of_entries own) (graph_of own) (texts_of_entries entries)
  read_all none =
      let told = dates_told (all_stay (no_cycle_told none)) in
      dates_everywhere (texts_of_entries own) (graph_of own) (texts_of_entries entries)
      (λ index less.
      none_fails told (none_after found.cycles found.dates (sym found.are ∙ none)) index
      (omega (arith, less, rows_length (names_of own) own)))

  -- without errors, no entry loses its references
  pub stays_all : errors ≡ [] → found.cut ≡ own
  stays_all none = all_stay (no_cycle_told none)

-- a raw bibliography with own entries is accepted if recovering the references of these has no errors
abbrev accepted_of : {says : FileReading} {own entries : List Entry} {places : List (Range ℕ)}
    {errors : List ParseError} → AreOwn says own → AreRecovered places (names_of own) own entries errors
    → errors ≡ [] → IsAccepted says
accepted_of {own = own} {entries = entries} are found none = record {
  own = own;
  entries = are;
  no_cycle = without_cycle found none;
  dates =
      dates_of_each own (texts_of_entries entries) (without_cycle found none)
      (inherits_all found (stays_all found none)) (read_all found none);
}

-- a recovery without skipped blocks and errors is a bibliography of the text
pub recovered_loaded : {text : List ℕ} {bibliography : Bibliography} {origins : List ℕ}
    → IsRecoveredBibliography text bibliography origins [] [] → IsBibliographyOf text bibliography
recovered_loaded {text} {bibliography} {origins} r =
    let of_entries : r.of_entries ≡ [] = none_before r.of_entries r.of_references (sym r.all) in
    let of_references : r.of_references ≡ [] = none_after r.of_entries r.of_references (sym r.all) in
    let are : AreOwn r.says r.own =
    subst (λ k. AreEntries (definition_in r.says.abbreviations) [] k r.own) (entries_all r.entries of_entries)
    (kept_are_entries r.entries) in
    record {
      says = r.says;
      reading = raw.all_read r.recovery;
      loaded = record {
        accepted = accepted_of are r.resolved of_references;
        keys = r.resolved.keys;
        inherits = inherits_all r.resolved (stays_all r.resolved of_references);
        chunks = chunks_kept r.resolved (stays_all r.resolved of_references);
        names = r.names;
      };
    }

-- a text whose recovery has no skipped blocks and no errors is accepted
pub recovered_accepted : {text : List ℕ} {bibliography : Bibliography} {origins : List ℕ}
    → IsRecoveredBibliography text bibliography origins [] [] → IsAcceptedText text
recovered_accepted r = let is = recovered_loaded r in record { says = is.says; reading = is.reading; accepted = is.loaded.accepted }

-- ---- an accepted text loses nothing

-- inheriting in an accepted raw bibliography has no errors
references_fine : {says : FileReading} {own entries : List Entry} {places : List (Range ℕ)} {errors : List ParseError}
    → IsAccepted says → AreOwn says own → AreRecovered places (names_of own) own entries errors → errors ≡ []
references_fine {says} {own} {entries} accepted are found =
    let one_graph : graph_of accepted.own ≡ graph_of own = graph_same says accepted.entries are in
    let no_cycle : (index : ℕ) → index < length own → Leads (graph_of own) index index → ⊥ =
    λ index less leads.
    accepted.no_cycle index
    (subst (λ g. index < length g) (sym one_graph) (omega (arith, less, rows_length (names_of own) own)))
    (subst (λ g. Leads g index index) (sym one_graph) leads) in
    let stays = all_stay found no_cycle in
    let inherits : Inherits (texts_of_entries accepted.own) (graph_of accepted.own) (texts_of_entries entries) =
    subst (λ g. Inherits (texts_of_entries accepted.own) g (texts_of_entries entries)) (sym one_graph)
    (subst (λ s. Inherits s (graph_of own) (texts_of_entries entries)) (sym (all_texts_same says accepted.entries are))
    (inherits_all found stays)) in
    let read : AreDatesRead (texts_of_entries own) (graph_of own) (texts_of_entries entries) =
    subst (λ g. AreDatesRead (texts_of_entries own) g (texts_of_entries entries)) one_graph
    (subst (λ s. AreDatesRead s (graph_of accepted.own) (texts_of_entries entries))
    (all_texts_same says accepted.entries are) (accepted.dates (texts_of_entries entries) inherits)) in
    found.are
    ∙ ap (λ es. es ++ found.dates) (fine_is_silent found.each_cycle no_cycle)
    ∙ fine_is_silent (dates_told found stays) (λ index less bad. false≢true (sym (read index) ∙ bad))

-- loading and inheriting in an accepted raw bibliography have no errors
nothing_told : {says : FileReading} {own : List Entry} {kept : List EntryReading} {entries : List Entry}
    {of_entries of_references : List ParseError} → IsAccepted says
    → EntriesKept (definition_in says.abbreviations) [] says.entries kept own of_entries
    → AreRecovered (map place_of kept) (names_of own) own entries of_references → of_entries ++ of_references ≡ []
nothing_told {says} {own} {kept} {entries} {of_entries} {of_references} accepted is found =
    let none : of_entries ≡ [] = entries_fine accepted.entries is in
    let are : AreOwn says own =
    subst (λ k. AreEntries (definition_in says.abbreviations) [] k own) (entries_all is none) (kept_are_entries is) in
    ap (λ es. es ++ of_references) none ∙ references_fine accepted are found

-- the recovery of an accepted text has no skipped blocks and no errors
pub accepted_recovered : {text : List ℕ} {bibliography : Bibliography} {origins : List ℕ} {skipped : List SkippedBlock}
    {errors : List ParseError} → IsAcceptedText text
    → IsRecoveredBibliography text bibliography origins skipped errors
    → (skipped ≡ []) × (errors ≡ [])
accepted_recovered {text} {bibliography} {origins} accepted r =
    let same = raw.recovery_same r.recovery (raw.all_parsed accepted.reading) in
    (same.1, r.all ∙ nothing_told (subst IsAccepted (sym same.0) accepted.accepted) r.entries r.resolved)

-- ---- two recoveries agree

-- errors that agree as errors of pieces agree as errors of a file
each_weaker : (errors faults : List ParseError) → AllZip AreOneError errors faults → AllZip AreOneErrorOf errors faults
each_weaker [] [] all = tt
each_weaker [] (f ∷ faults) all = absurd all
each_weaker (e ∷ errors) [] all = absurd all
each_weaker (e ∷ errors) (f ∷ faults) all = (inl all.0, each_weaker errors faults all.1)

-- entries at the same index have the same key if the lists of keys are equal
key_at : (own others : List Entry) (index : ℕ) (a b : Entry) → map (λ e. e.key) own ≡ map (λ e. e.key) others
    → slice_get own index ≡ Some a → slice_get others index ≡ Some b → a.key ≡ b.key
key_at [] [] index a b keys here there = cc
key_at [] (y ∷ others) index a b keys here there = cc
key_at (x ∷ own) [] index a b keys here there = cc
key_at (x ∷ own) (y ∷ others) zero a b keys here there =
    let p : x ≡ a = cc in
    let q : y ≡ b = cc in ap (λ (e : Entry). e.key) (sym p) ∙ ap (λ l. get_or l 0 []) keys ∙ ap (λ (e : Entry). e.key) q
key_at (x ∷ own) (y ∷ others) (suc index) a b keys here there = key_at own others index a b (ap (drop 1) keys) here there

-- the error of the cycle of an index is unique if the lists of keys are equal
cycle_once : (places : List (Range ℕ)) (own others : List Entry) (index : ℕ) (e f : ParseError)
    → map (λ e. e.key) own ≡ map (λ e. e.key) others → IsCycleAt places own index e → IsCycleAt places others index f
    → e ≡ f
cycle_once places own others index e f keys one other =
    let spans : one.span ≡ other.span = some_same (sym one.stands ∙ other.stands) in
    one.is ∙ error_of spans (key_at own others index one.entry other.entry keys one.here other.here) ∙ sym other.is
  where
    error_of : {s t : Range ℕ} {k l : List ℕ} → s ≡ t → k ≡ l
        → (let a : ParseError = record { span = s; kind = ReferenceCycle k } in a)
        ≡ (let b : ParseError = record { span = t; kind = ReferenceCycle l } in b)
    error_of p q = λ i. record { span = p i; kind = ReferenceCycle (q i) }

-- two recoveries of the references of entries with the same keys, names and texts
module _ {places : List (Range ℕ)} {own others entries found : List Entry} {errors faults : List ParseError}
    (one : AreRecovered places (names_of own) own entries errors) (other : AreRecovered places (names_of others) others found faults)
    (keys : map (λ e. e.key) own ≡ map (λ e. e.key) others) (names : names_of own ≡ names_of others)
    (all_texts : texts_of_entries own ≡ texts_of_entries others) where
  one_graph : graph_of own ≡ graph_of others
  one_graph = graphs_by (names_of own) (names_of others) own others names all_texts

  long : length own ≡ length others
  long = sym (length-map own _) ∙ ap length all_texts ∙ length-map others _

  -- after the entries on cycles have lost their references, the entries have the same texts
  cuts : texts_of_entries one.cut ≡ texts_of_entries other.cut
  cuts =
      cut_alike (graph_of own) own others one.cut other.cut all_texts (decided one.each_cycle) one.are_cut
      (subst (λ g. AreCut g others other.cut) (sym one_graph) other.are_cut)

  cut_graph : graph_by (names_of own) one.cut ≡ graph_by (names_of others) other.cut
  cut_graph = graphs_by (names_of own) (names_of others) one.cut other.cut names cuts

  -- the resolved entries have the same texts
  pub fields_once : texts_of_entries entries ≡ texts_of_entries found
  fields_once =
      solutions_by (names_of own) one.cut (texts_of_entries entries) (texts_of_entries found)
      (subst (λ n. AreIndicesBelow n (names_of own)) (sym one.are_cut.same_length) (names_below own)) one.no_cycle
      one.inherits
      (subst (λ g. Inherits (texts_of_entries one.cut) g (texts_of_entries found)) (sym cut_graph)
      (subst (λ s. Inherits s (graph_by (names_of others) other.cut) (texts_of_entries found)) (sym cuts)
      other.inherits))

  bad_same : (index : ℕ)
      → has_bad_date (texts_of_entries one.cut) (graph_by (names_of own) one.cut) (texts_of_entries entries) index
      ≡ has_bad_date (texts_of_entries other.cut) (graph_by (names_of others) other.cut) (texts_of_entries found)
      index
  bad_same index =
      ap (λ s. has_bad_date s (graph_by (names_of own) one.cut) (texts_of_entries entries) index) cuts
      ∙ ap (λ g. has_bad_date (texts_of_entries other.cut) g (texts_of_entries entries) index) cut_graph
      ∙ ap (λ v. has_bad_date (texts_of_entries other.cut) (graph_by (names_of others) other.cut) v index) fields_once

  -- the errors agree
  pub errors_once : AllZip AreOneErrorOf errors faults
  errors_once =
      let cycles : AllZip AreOneErrorOf one.cycles other.cycles =
      reported_once AreOneErrorOf one.each_cycle other.each_cycle long
      (λ index less leads. subst (λ g. Leads g index index) one_graph leads)
      (λ index less leads. subst (λ g. Leads g index index) (sym one_graph) leads)
      (λ index e f less a b. inl (inl (cycle_once places own others index e f keys a b))) in
      let dates : AllZip AreOneErrorOf one.dates other.dates =
      reported_once AreOneErrorOf one.each_date other.each_date long (λ index less bad. sym (bad_same index) ∙ bad)
      (λ index less bad. bad_same index ∙ bad)
      (λ index e f less a b.
      inr (
        record { kind = a.kind; is = a.is; of_dates = a.of_dates },
        record { kind = b.kind; is = b.is; of_dates = b.of_dates },
      )) in
      subst (λ es. AllZip AreOneErrorOf es faults) (sym one.are)
      (subst (λ fs. AllZip AreOneErrorOf (one.cycles ++ one.dates) fs) (sym other.are)
      (all_zip_append AreOneErrorOf one.cycles one.dates other.cycles other.dates cycles dates))

-- two recoveries of one raw bibliography agree, if they have the same skipped blocks
once_of : (says : FileReading) {kept left : List EntryReading} {own others : List Entry} (one other : Bibliography)
    {skipped passed : List SkippedBlock} {of_entries of_others of_references of_fields : List ParseError}
    → skipped ≡ passed
    → EntriesKept (definition_in says.abbreviations) [] says.entries kept own of_entries
    → EntriesKept (definition_in says.abbreviations) [] says.entries left others of_others
    → AreRecovered (map place_of kept) (names_of own) own one.entries of_references
    → AreRecovered (map place_of left) (names_of others) others other.entries of_fields
    → one.names ≡ names_of own → other.names ≡ names_of others
    → IsSameRecovery one other skipped passed (of_entries ++ of_references) (of_others ++ of_fields)
once_of says {kept} {left} {own} {others} one other {skipped} {passed} {of_entries} {of_others} {of_references}
    {of_fields} skips is is' found found' names names' =
    let same = entries_once is is' in
    let file : FileReading = record { preamble = []; entries = kept; abbreviations = says.abbreviations } in
    let first : AreOwn file own = kept_are_entries is in
    let second : AreOwn file others =
    subst (λ k. AreEntries (definition_in says.abbreviations) [] k others) (sym same.0) (kept_are_entries is') in
    let moved : AreRecovered (map place_of kept) (names_of others) others other.entries of_fields =
    subst (λ k. AreRecovered (map place_of k) (names_of others) others other.entries of_fields) (sym same.0) found' in
    let one_keys = keys_same file first second in
    record {
      skips = skips;
      tells =
          all_zip_append AreOneErrorOf of_entries of_references of_others of_fields
          (each_weaker of_entries of_others same.1)
          (errors_once found moved one_keys (names_same file first second) (all_texts_same file first second));
      keys = found.keys ∙ one_keys ∙ sym moved.keys;
      fields = fields_once found moved one_keys (names_same file first second) (all_texts_same file first second);
      names = names ∙ names_same file first second ∙ sym names';
    }

-- two recoveries of a text have the same raw entries, and keep the same of them
pub kept_once : {text : List ℕ} (one other : Bibliography) {origins indices : List ℕ}
    {skipped passed : List SkippedBlock} {errors faults : List ParseError}
    → (r : IsRecoveredBibliography text one origins skipped errors) (s : IsRecoveredBibliography text other indices passed faults)
    → (r.says.entries ≡ s.says.entries) × (r.kept ≡ s.kept)
kept_once one other r s =
    let same = raw.recovery_same r.recovery s.recovery in
    let moved : EntriesKept (definition_in r.says.abbreviations) [] r.says.entries s.kept s.own s.of_entries =
    subst (λ t. EntriesKept (definition_in t.abbreviations) [] t.entries s.kept s.own s.of_entries) (sym same.0) s.entries in
    (ap (λ (t : FileReading). t.entries) same.0, (entries_once r.entries moved).0)

-- two recoveries of a text agree
pub recovered_once : {text : List ℕ} (one other : Bibliography) {origins indices : List ℕ}
    {skipped passed : List SkippedBlock} {errors faults : List ParseError}
    → IsRecoveredBibliography text one origins skipped errors → IsRecoveredBibliography text other indices passed faults
    → IsSameRecovery one other skipped passed errors faults
recovered_once {text} one other {origins} {indices} {skipped} {passed} {errors} {faults} r s =
    let same = raw.recovery_same r.recovery s.recovery in
    let moved : EntriesKept (definition_in r.says.abbreviations) [] r.says.entries s.kept s.own s.of_entries =
    subst (λ t. EntriesKept (definition_in t.abbreviations) [] t.entries s.kept s.own s.of_entries) (sym same.0)
    s.entries in
    subst (λ es. IsSameRecovery one other skipped passed es faults) (sym r.all)
    (subst (λ fs. IsSameRecovery one other skipped passed (r.of_entries ++ r.of_references) fs) (sym s.all)
    (once_of r.says one other same.1 r.entries moved r.resolved s.resolved r.names s.names))

-- parsing, keeping and resolving the entries of a text give its recovery
pub recovered_of : {text : List ℕ} (says : FileReading) (kept : List EntryReading) (own entries : List Entry)
    (names : ByText ℕ) (places : List (Range ℕ)) (origins : List ℕ) {skipped : List SkippedBlock}
    (of_entries of_references : List ParseError) {errors : List ParseError}
    → IsFullRecovery text says skipped → EntriesKept (definition_in says.abbreviations) [] says.entries kept own of_entries
    → places ≡ map place_of kept → AllZip (IsKeptFrom says.entries) origins kept → names_of own ≡ names
    → AreRecovered places names own entries of_references → errors ≡ of_entries ++ of_references
    → IsRecoveredBibliography text (record { entries = entries; names = names }) origins skipped errors
recovered_of says kept own entries names places origins of_entries of_references recovery is stand origin named resolved all = record {
  says = says;
  recovery = recovery;
  kept = kept;
  own = own;
  of_entries = of_entries;
  entries = is;
  origin = origin;
  of_references = of_references;
  resolved =
      subst (λ p. AreRecovered p (names_of own) own entries of_references) stand
      (subst (λ n. AreRecovered places n own entries of_references) (sym named) resolved);
  names = sym named;
  all = all;
}
