-- Accepted files in which an unlinked field of an entry is set or unset: whether they stay accepted.
use Rattle.std.proofs.Common.{◌≡◌, ◌⊎◌, ℕ, zero, suc, ◌<◌, ◌≤◌, eqb, inl, inr, List, [], ◌∷◌, ◌++◌, Bool, true, false, length, map, refl, sym, ap, ◌∙◌, subst, arith, Some, Option}
use Rattle.std.specs.Prelude.{codes, slice_get, slice_set, ◌||◌}
use Rattle.std.specs.List.{AllZip, list_any}
use Rattle.std.specs.Option.{option_map_or}
use Rattle.std.proofs.lemmas.Bool.{both_ways, cases_lt}
use Rattle.std.proofs.lemmas.Bool.Decides.{eqb_tells}
use Rattle.bib_abbreviations.specs.Abbreviations.{Definitions}
use Rattle.bib_chunks.specs.Lists.{comma_texts}
use Rattle.bib_chunks.specs.Styled.{Atom}
use Rattle.bib_entry.specs.declared.entry.Entry.{Entry}
use Rattle.bib_file_entries.specs.Bibliography.{claims}
use Rattle.bib_file_entries.specs.Loaded.{AllCanBeRead, IsFirstErrorOfEntries, definition_in, is_claimed}
use Rattle.bib_inheritance.specs.EntryTexts.{EntryTexts, no_entry}
use Rattle.bib_inheritance.specs.Resolving.{Inherits, at_index, is_bad_date, rule_by, texts_of_entries, texts_of_entry}
use Rattle.bib_syntax.specs.Reading.{EntryReading, FileReading}
use Rattle.bib_syntax.specs.declared.raw.ParseError.{ParseError}
use Rattle.bib_collections.proofs.Walks.{one_solution}
use Rattle.bib_collections.specs.Graph.{IsInRange, Leads, refs_of}
use Rattle.bib_inheritance.proofs.RangeFacts.{graph_in_range}
use Rattle.bib_inheritance.specs.InheritableDate.{inheritable_date, is_unreadable}
use Rattle.bib_text.proofs.ListFacts.{found_any, get_mapped}
use Rattle.biblatex.proofs.ResolvedFacts.{bad_apart, names_below}
use Rattle.biblatex.specs.Resolved.{AreOwn, IsAccepted, IsFirstErrorOf, graph_of, names_of}
use Rattle.edit_laws.proofs.DateFacts.{HaveSameDate, date_same, dates_inherited, looks_alike}
use Rattle.edit_laws.proofs.DifferFacts.{IsUnlinked, differ_apart, differ_graph, differ_here, other_field, past, map_itself}
use Rattle.edit_laws.proofs.LiftFacts.{at_texts}
use Rattle.edit_laws.proofs.ReplacedFacts.{IsReplaced, entries_alike}
use Rattle.edit_laws.proofs.SolutionFacts.{related}
use Rattle.edit_laws.specs.OneField.{DifferInField, with_field_text}
use Rattle.edit_laws.proofs.ReadAlikeFacts.{AreAlikeEntries, fields_faultless}
use Rattle.edit_laws.proofs.TextFacts.{AreTexts, AreTextsOf, claims_are, claims_by, own_at, texts_are, texts_of_entry_are, texts_same}

-- ---- the own entries

-- raw entries that are alike to accepted ones have no error
pub texts_faultless : (one other : Definitions) (earlier : List (List ℕ)) (said tells : List EntryReading) {texts : List EntryTexts}
    {e : ParseError} → AllZip (AreAlikeEntries one other) said tells → AreTexts one earlier said texts
    → IsFirstErrorOfEntries other earlier tells e → ⊥
texts_faultless one other earlier [] [] are read error = elim error [ ]
texts_faultless one other earlier [] (t ∷ tells) are read error = absurd are
texts_faultless one other earlier (s ∷ said) [] are read error = absurd are
texts_faultless one other earlier (s ∷ said) (t ∷ tells) are (AreTexts.next fresh is read rest)
    (IsFirstErrorOfEntries.duplicate was error) =
    both_ways _ (sym (ap (is_claimed earlier) are.0.key) ∙ fresh) was
texts_faultless one other earlier (s ∷ said) (t ∷ tells) are (AreTexts.next fresh is read rest)
    (IsFirstErrorOfEntries.unreadable fresh' error) =
    fields_faultless one other are.0.ordered t.fields are.0.fields (are.0.reordered.readable one read) error
texts_faultless one other earlier (s ∷ said) (t ∷ tells) {e = e} are (AreTexts.next {texts = a} fresh is read rest)
    (IsFirstErrorOfEntries.following {entry = b} fresh' is' error) =
    let same : claims b ≡ claims_by s.key.text a =
    claims_are b ∙ ap (λ key. claims_by key (texts_of_entry b)) (is'.key ∙ sym are.0.key)
    ∙ ap (claims_by s.key.text) (sym (texts_same one other a (texts_of_entry b) are.0 is (texts_of_entry_are b is'))) in
    texts_faultless one other (earlier ++ claims_by s.key.text a) said tells are.1 rest
    (subst (λ names. IsFirstErrorOfEntries other (earlier ++ names) tells e) same error)

-- if a raw entry is replaced by a readable one with the same key and the same `ids`, the list of texts changes only at its index
pub texts_set : {definitions : Definitions} {earlier : List (List ℕ)} {said : List EntryReading} {texts : List EntryTexts} (k : ℕ)
    (e changed : EntryReading) (t u : EntryTexts) → AreTexts definitions earlier said texts → slice_get said k ≡ Some e
    → slice_get texts k ≡ Some t → changed.key.text ≡ e.key.text → (AreTextsOf definitions e t → AreTextsOf definitions changed u)
    → (AllCanBeRead definitions e.fields → AllCanBeRead definitions changed.fields) → u.fields (codes "ids") ≡ t.fields (codes "ids")
    → AreTexts definitions earlier (slice_set said k changed) (slice_set texts k u)
texts_set k e changed t u AreTexts.none here there key becomes read ids = cc
texts_set {definitions} {earlier} zero e changed t u
    (AreTexts.next {said = s} {rest = rest} {texts = a} {more = more} fresh is can following)
    here there key becomes read ids =
    let same : s ≡ e = cc in
    let with_texts : a ≡ t = cc in
    let entry : AreTextsOf definitions e t =
    subst (AreTextsOf definitions e) with_texts (subst (λ x. AreTextsOf definitions x a) same is) in
    let claimed : claims_by s.key.text a ≡ claims_by changed.key.text u =
    ap (λ k. claims_by k a) (ap (λ (x : EntryReading). x.key.text) same ∙ sym key)
    ∙ ap (λ o. changed.key.text ∷ option_map_or comma_texts o []) (ap (λ (x : EntryTexts). x.fields (codes "ids")) with_texts
    ∙ sym ids) in
    AreTexts.next
    (ap (is_claimed earlier) (key ∙ ap (λ (x : EntryReading). x.key.text) (sym same)) ∙ fresh) (becomes entry)
    (read (subst (λ (x : EntryReading). AllCanBeRead definitions x.fields) same can))
    (subst (λ names. AreTexts definitions (earlier ++ names) rest more) claimed following)
texts_set (suc k) e changed t u (AreTexts.next fresh is can following) here there key becomes read ids =
    AreTexts.next fresh is can (texts_set k e changed t u following here there key becomes read ids)

-- ---- the file

any_same : (f g : ℕ → Bool) (xs : List ℕ) → ((x : ℕ) → f x ≡ g x) → list_any f xs ≡ list_any g xs
any_same f g [] same = refl
any_same f g (x ∷ xs) same = ap (λ b. b || list_any f xs) (same x) ∙ ap (λ b. g x || b) (any_same f g xs same)

-- the own entries of two files have the same dates if the field in which they differ is unlinked
dates_apart : {own others : List Entry} {k : ℕ} {name : List ℕ} {text : Option (List Atom)} → DifferInField own others k name text
    → IsUnlinked name → (a : ℕ) → HaveSameDate (at_index (texts_of_entries own) a) (at_index (texts_of_entries others) a)
dates_apart {own} {others} {k} {name} {text} differ apart a = by_index (eqb_tells a k)
  where
    equal : (x y : EntryTexts) → x ≡ y → HaveSameDate x y
    equal x y is = record {
      kind = ap (λ (z : EntryTexts). z.entry_type) is;
      date = ap (λ (z : EntryTexts). z.fields (codes "date")) is;
      year = ap (λ (z : EntryTexts). z.fields (codes "year")) is;
      month = ap (λ (z : EntryTexts). z.fields (codes "month")) is;
      day = ap (λ (z : EntryTexts). z.fields (codes "day")) is;
    }

    here : HaveSameDate (texts_of_entry differ.entry) (with_field_text name text (texts_of_entry differ.entry))
    here = record {
      kind = refl;
      date = sym (other_field name text (texts_of_entry differ.entry) (codes "date") apart.date);
      year = sym (other_field name text (texts_of_entry differ.entry) (codes "year") apart.year);
      month = sym (other_field name text (texts_of_entry differ.entry) (codes "month") apart.month);
      day = sym (other_field name text (texts_of_entry differ.entry) (codes "day") apart.day);
    }

    by_index : ((eqb a k ≡ true) × (a ≡ k)) ⊎ ((eqb a k ≡ false) × (a ≡ k → ⊥))
        → HaveSameDate (at_index (texts_of_entries own) a) (at_index (texts_of_entries others) a)
    by_index (inl is) =
        subst (λ i. HaveSameDate (at_index (texts_of_entries own) i) (at_index (texts_of_entries others) i)) (sym is.1)
        (subst (λ x. HaveSameDate x (at_index (texts_of_entries others) k)) (sym (at_texts own k differ.entry differ.here))
        (subst (HaveSameDate (texts_of_entry differ.entry)) (sym (differ_here differ apart)) here))
    by_index (inr is) = equal (at_index (texts_of_entries own) a) (at_index (texts_of_entries others) a)
        (differ_apart differ apart a is.1)

module _ {said tells : FileReading} {k : ℕ} {e changed : EntryReading} (replaced : IsReplaced said tells k e changed) (name : List ℕ)
    (text : Option (List Atom)) (apart : IsUnlinked name) (accepted : IsAccepted said)
    (becomes : (t : EntryTexts) → AreTextsOf (definition_in said.abbreviations) e t
    → AreTextsOf (definition_in said.abbreviations) changed (with_field_text name text t))
    (read : AllCanBeRead (definition_in said.abbreviations) e.fields → AllCanBeRead (definition_in said.abbreviations) changed.fields)
    (differs : (others : List Entry) → AreOwn tells others → DifferInField accepted.own others k name text) where
  abbrev own : List Entry
  own = accepted.own

  in_range : IsInRange (graph_of own)
  in_range = graph_in_range (names_of own) own (names_below own)

  -- entries with the same index have the same dates after inheriting
  same_dates : (others : List Entry) (values news : List EntryTexts) → AreOwn tells others
      → Inherits (texts_of_entries own) (graph_of own) values → Inherits (texts_of_entries others) (graph_of own) news
      → (a : ℕ) → HaveSameDate (at_index values a) (at_index news a)
  same_dates others values news are first second a = by_range (cases_lt a (length (graph_of own)))
    where
      by_range : (a < length (graph_of own)) ⊎ (length (graph_of own) ≤ a) → HaveSameDate (at_index values a) (at_index news a)
      by_range (inl below) =
          related (graph_of own) (graph_of own) in_range (λ x. x) no_entry (rule_by (texts_of_entries own))
          (rule_by (texts_of_entries others)) HaveSameDate (λ x. Unit {0}) (λ x within. within)
          (λ x within q. sym (map_itself (refs_of (graph_of own) x))) (λ x y q edge. tt)
          (λ x within q xs ys all.
          dates_inherited (at_index (texts_of_entries own) x) (at_index (texts_of_entries others) x)
          (dates_apart (differs others are) apart x) xs ys all) accepted.no_cycle values news a first second below tt
      by_range (inr above) =
          subst (λ x. HaveSameDate x (at_index news a)) (sym (past values a (omega (arith, above, first.same_length))))
          (subst (HaveSameDate no_entry) (sym (past news a (omega (arith, above, second.same_length))))
          (record { kind = refl; date = refl; year = refl; month = refl; day = refl }))

  bad_same : (x y : EntryTexts) → HaveSameDate x y → is_unreadable (inheritable_date x.fields) ≡ is_unreadable (inheritable_date y.fields)
  bad_same x y same = ap is_unreadable (date_same x y same)

  pub still_accepted : {error : ParseError} → IsFirstErrorOf tells error → ⊥
  still_accepted (IsFirstErrorOf.entry error) =
      let at = own_at k e accepted.entries replaced.here in
      texts_faultless (definition_in said.abbreviations) (definition_in tells.abbreviations) [] (slice_set said.entries k changed)
      tells.entries (entries_alike replaced)
      (texts_set k e changed (texts_of_entry at.0) (with_field_text name text (texts_of_entry at.0))
      (texts_are accepted.entries) replaced.here
      (get_mapped texts_of_entry own k at.0 at.1) replaced.key (becomes (texts_of_entry at.0)) read
      (other_field name text (texts_of_entry at.0) (codes "ids") apart.ids)) error
  still_accepted (IsFirstErrorOf.cycle {own = others} {index = index} are first is) =
      let graph = sym (differ_graph (differs others are) apart) in
      accepted.no_cycle index (subst (λ g. index < length g) graph first.within) (subst (λ g. Leads g index index) graph first.cycle)
  still_accepted (IsFirstErrorOf.date {own = others} {values = news} {index = index} are none solves looks earlier is) =
      let differ = differs others are in
      let graph = sym (differ_graph differ apart) in
      let moved : Inherits (texts_of_entries others) (graph_of own) news =
      subst (λ g. Inherits (texts_of_entries others) g news) graph solves in
      let old = one_solution (graph_of own) in_range accepted.no_cycle no_entry (rule_by (texts_of_entries own)) in
      let bad : list_any (is_bad_date news) (refs_of (graph_of own) index) ≡ true =
      subst (λ g. list_any (is_bad_date news) (refs_of g index) ≡ true) graph
      (found_any (is_bad_date news) (refs_of (graph_of others) index) is.reference is.first) in
      bad_apart (texts_of_entries own) (graph_of own) old.0 index
      (looks_alike (at_index (texts_of_entries own) index) (at_index (texts_of_entries others) index)
      (dates_apart differ apart index) ∙ looks)
      (any_same (is_bad_date old.0) (is_bad_date news) (refs_of (graph_of own) index)
      (λ a. bad_same (at_index old.0 a) (at_index news a) (same_dates others old.0 news are old.1 moved a)) ∙ bad)
      (accepted.dates old.0 old.1)
