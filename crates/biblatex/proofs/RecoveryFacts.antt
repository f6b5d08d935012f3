-- Facts about the recovery of a file: the reported errors, and the entries that lose their references.
use Rattle.std.proofs.Common.{◌≡◌, ℕ, zero, suc, ◌+◌, ◌<◌, List, [], ◌∷◌, ◌++◌, length, map, refl, sym, ap, ◌∙◌, subst, arith, inl, inr, ◌⊎◌, Option, Some, None, option_map, cond, Bool, true, false}
use Rattle.std.specs.Prelude.{codes, slice_get}
use Rattle.std.specs.FinMap as by_name
use Rattle.std.specs.FinMap.{get-remove}
use Rattle.std.specs.Ordering.{eq_by_cmp}
use Rattle.std.specs.List.{AllZip}
use Rattle.std.specs.declared.ops.Range.{Range}
use Rattle.std.proofs.lemmas.Bool.{cases_lt}
use Rattle.std.proofs.lemmas.Cmp.{nat_list_cmp_total}
use Rattle.std.proofs.lemmas.List.{length-map}
use Rattle.std.proofs.lemmas.Option.{slice_get-map, slice_get_past, slice_get_within}
use Rattle.bib_chunks.specs.Styled.{Atom, styled}
use Rattle.bib_chunks.specs.declared.chunk.Chunk.{Chunk}
use Rattle.bib_entry.specs.declared.entry.Entry.{Entry}
use Rattle.bib_tables.specs.declared.mechanics.EntryType.{EntryType}
use Rattle.bib_collections.specs.Graph.{Graph, Leads}
use Rattle.bib_inheritance.specs.EntryTexts.{EntryTexts, fields_of}
use Rattle.bib_collections.specs.Sorted.{ByText, by_bytes}
use Rattle.bib_inheritance.specs.Recovered.{AreCut, EachReported, without_references}
use Rattle.bib_inheritance.specs.Resolving.{texts_of_entries, texts_of_entry}
use Rattle.bib_syntax.specs.declared.raw.ParseError.{ParseError}
use Rattle.bib_text.specs.declared.spanned.Spanned.{Spanned}
use Rattle.bib_text.proofs.ListFacts.{all_zip_append, element_at, some_same}
use Rattle.biblatex.proofs.ResolvedFacts.{entry_texts_same}

-- ---- each index either fails and is reported, or doesn't fail

-- it is decidable whether an index fails
pub decided : {fails : ℕ → Type 0} {reports : ℕ → ParseError → Type 0} {n : ℕ} {errors : List ParseError}
    → EachReported fails reports n errors → (index : ℕ) → index < n → fails index ⊎ (fails index → ⊥)
decided EachReported.none index within = absurd (omega arith)
decided {fails} (EachReported.passed {index = last} rest fine) index within = elim (cases_lt index last) [
  | inl less ↦ decided rest index less
  | inr more ↦ let same : index ≡ last = omega (arith, within, more) in inr (subst (λ k. fails k → ⊥) (sym same) fine)
]
decided {fails} (EachReported.reported {index = last} rest fault report) index within = elim (cases_lt index last) [
  | inl less ↦ decided rest index less
  | inr more ↦ let same : index ≡ last = omega (arith, within, more) in inl (subst fails (sym same) fault)
]

no_last : {A B : Type 0} (xs : List A) (x : A) → xs ++ x ∷ [] ≡ [] → B
no_last [] x e = cc
no_last (y ∷ xs) x e = cc

-- if no error is reported, no index fails
pub none_fails : {fails : ℕ → Type 0} {reports : ℕ → ParseError → Type 0} {n : ℕ} {errors : List ParseError}
    → EachReported fails reports n errors → errors ≡ [] → (index : ℕ) → index < n → fails index → ⊥
none_fails EachReported.none e index within = absurd (omega arith)
none_fails {fails} (EachReported.passed {index = last} rest fine) e index within = elim (cases_lt index last) [
  | inl less ↦ none_fails rest e index less
  | inr more ↦ let same : index ≡ last = omega (arith, within, more) in subst (λ k. fails k → ⊥) (sym same) fine
]
none_fails (EachReported.reported {errors = before} {e = error} rest fault report) e index within = no_last before error e

-- if no index fails, no error is reported
pub fine_is_silent : {fails : ℕ → Type 0} {reports : ℕ → ParseError → Type 0} {n : ℕ} {errors : List ParseError}
    → EachReported fails reports n errors → ((index : ℕ) → index < n → fails index → ⊥) → errors ≡ []
fine_is_silent EachReported.none fine = refl
fine_is_silent (EachReported.passed rest never) fine = fine_is_silent rest (λ index less. fine index (omega arith))
fine_is_silent (EachReported.reported {index = last} rest fault report) fine = absurd (fine last (omega arith) fault)

-- two lists of reports are related by `R`, if the same indices fail and the two reports of an index are related
pub reported_once : {fails others : ℕ → Type 0} {reports tells : ℕ → ParseError → Type 0} {n m : ℕ}
    {errors faults : List ParseError} (R : ParseError → ParseError → Type 0)
    → EachReported fails reports n errors → EachReported others tells m faults → n ≡ m
    → ((index : ℕ) → index < n → fails index → others index) → ((index : ℕ) → index < n → others index → fails index)
    → ((index : ℕ) (e f : ParseError) → index < n → reports index e → tells index f → R e f) → AllZip R errors faults
reported_once R EachReported.none EachReported.none same there back alike = tt
reported_once R EachReported.none (EachReported.passed rest fine) same there back alike = absurd (omega (arith, same))
reported_once R EachReported.none (EachReported.reported rest fault report) same there back alike = absurd (omega (arith, same))
reported_once R (EachReported.passed rest fine) EachReported.none same there back alike = absurd (omega (arith, same))
reported_once R (EachReported.reported rest fault report) EachReported.none same there back alike = absurd (omega (arith, same))
reported_once {others = others} R (EachReported.passed {index = i} rest fine)
    (EachReported.passed {index = j} rest' fine') same there back alike =
    reported_once R rest rest' (omega (arith, same)) (λ k less. there k (omega arith)) (λ k less. back k (omega arith))
    (λ k e f less. alike k e f (omega arith))
reported_once {fails} {others} R (EachReported.passed {index = i} rest fine)
    (EachReported.reported {index = j} rest' fault report) same there back alike =
    let one : j ≡ i = omega (arith, same) in absurd (fine (back i (omega arith) (subst others one fault)))
reported_once {fails} {others} R (EachReported.reported {index = i} rest fault report)
    (EachReported.passed {index = j} rest' fine) same there back alike =
    let one : i ≡ j = omega (arith, same) in absurd (fine (subst others one (there i (omega arith) fault)))
reported_once {tells = tells} R (EachReported.reported {index = i} {errors = es} {e = e} rest fault report)
    (EachReported.reported {index = j} {errors = fs} {e = f} rest' fault' report') same there back alike =
    let one : j ≡ i = omega (arith, same) in
    all_zip_append R es (e ∷ []) fs (f ∷ [])
    (reported_once R rest rest' (omega (arith, same)) (λ k less. there k (omega arith)) (λ k less. back k (omega arith))
    (λ k a b less. alike k a b (omega arith)))
    (alike i e f (omega arith) report (subst (λ k. tells k f) one report'), tt)

-- ---- entries that lose their references

-- lists of the same length with the same element at each index are equal
pub same_by_index : {A : Type 0} (xs ys : List A) → length xs ≡ length ys
    → ((index : ℕ) → index < length xs → slice_get xs index ≡ slice_get ys index) → xs ≡ ys
same_by_index [] [] long same = refl
same_by_index [] (y ∷ ys) long same = cc
same_by_index (x ∷ xs) [] long same = cc
same_by_index (x ∷ xs) (y ∷ ys) long same =
    let first : zero < length (x ∷ xs) = omega arith in
    let head : x ≡ y = some_same (same zero first) in
    let longer : length xs ≡ length ys = omega (arith, long) in
    let rest : (index : ℕ) → index < length xs → slice_get xs index ≡ slice_get ys index =
    λ index less. same (suc index) (omega (arith, less)) in
    ap (λ z. z ∷ xs) head ∙ ap (λ zs. y ∷ zs) (same_by_index xs ys longer rest)

abbrev Fields : Type 0
Fields = ByText (List (Spanned Chunk))

-- removing the same key from maps with the same styled texts gives maps with the same styled texts
removed_alike : (one other : Fields) (key : List ℕ) → ((name : List ℕ) → fields_of one name ≡ fields_of other name)
    → (name : List ℕ) → fields_of (by_name.remove one key) name ≡ fields_of (by_name.remove other key) name
removed_alike one other key same name =
    ap (option_map styled) (get-remove nat_list_cmp_total one key name)
    ∙ chosen (eq_by_cmp by_bytes name key) (by_name.get one name) (by_name.get other name) (same name)
    ∙ sym (ap (option_map styled) (get-remove nat_list_cmp_total other key name))
  where
    chosen : (b : Bool) (x y : Option (List (Spanned Chunk))) → option_map styled x ≡ option_map styled y
        → option_map styled (cond b None x) ≡ option_map styled (cond b None y)
    chosen true x y e = refl
    chosen false x y e = e

-- entries with the same texts have the same texts without references
without_alike : (one other : Entry) → texts_of_entry one ≡ texts_of_entry other
    → texts_of_entry (without_references one) ≡ texts_of_entry (without_references other)
without_alike one other same =
    entry_texts_same one.entry_type other.entry_type _ _ (ap (λ (s : EntryTexts). s.entry_type) same)
    (removed_alike (by_name.remove one.fields (codes "crossref")) (by_name.remove other.fields (codes "crossref")) (codes "xdata")
    (removed_alike one.fields other.fields (codes "crossref") (λ name. ap (λ (s : EntryTexts). s.fields name) same)))

-- removing the references of entries on cycles gives the same texts, if the texts were the same
pub cut_alike : (graph : Graph) (own others cut left : List Entry) → texts_of_entries own ≡ texts_of_entries others
    → ((index : ℕ) → index < length own → Leads graph index index ⊎ (Leads graph index index → ⊥))
    → AreCut graph own cut → AreCut graph others left → texts_of_entries cut ≡ texts_of_entries left
cut_alike graph own others cut left same decide one two =
    let long : length own ≡ length others = sym (length-map own texts_of_entry) ∙ ap length same ∙ length-map others texts_of_entry in
    same_by_index (texts_of_entries cut) (texts_of_entries left)
    (length-map cut texts_of_entry ∙ one.same_length ∙ long ∙ sym two.same_length ∙ sym (length-map left texts_of_entry))
    (λ index less.
    let within : index < length own = omega (arith, less, length-map cut texts_of_entry, one.same_length) in
    let also : index < length others = omega (arith, within, long) in
    let here : option_map texts_of_entry (slice_get own index) ≡ option_map texts_of_entry (slice_get others index) =
    sym (slice_get-map texts_of_entry own index) ∙ ap (λ l. slice_get l index) same ∙ slice_get-map texts_of_entry others index in
    slice_get-map texts_of_entry cut index
    ∙ at_index (slice_get own index) (slice_get others index) index (element_at own index within)
    (element_at others index also) refl refl here (decide index within)
    ∙ sym (slice_get-map texts_of_entry left index))
  where
    texts_there : (a b : Option Entry) (x y : Entry) → a ≡ Some x → b ≡ Some y
        → option_map texts_of_entry a ≡ option_map texts_of_entry b → texts_of_entry x ≡ texts_of_entry y
    texts_there a b x y first second alike =
        some_same (sym (ap (option_map texts_of_entry) first) ∙ alike ∙ ap (option_map texts_of_entry) second)

    at_index : (a b : Option Entry) (index : ℕ) → ((x : Entry) × (slice_get own index ≡ Some x))
        → ((x : Entry) × (slice_get others index ≡ Some x)) → a ≡ slice_get own index → b ≡ slice_get others index
        → option_map texts_of_entry a ≡ option_map texts_of_entry b → Leads graph index index ⊎ (Leads graph index index → ⊥)
        → option_map texts_of_entry (slice_get cut index) ≡ option_map texts_of_entry (slice_get left index)
    at_index a b index x y first second alike (inl on) =
        ap (option_map texts_of_entry) (one.on_cycle index x.0 x.1 on)
        ∙ ap Some (without_alike x.0 y.0 (texts_there a b x.0 y.0 (first ∙ x.1) (second ∙ y.1) alike))
        ∙ sym (ap (option_map texts_of_entry) (two.on_cycle index y.0 y.1 on))
    at_index a b index x y first second alike (inr off) =
        ap (option_map texts_of_entry) (one.off_cycle index x.0 x.1 off)
        ∙ ap Some (texts_there a b x.0 y.0 (first ∙ x.1) (second ∙ y.1) alike)
        ∙ sym (ap (option_map texts_of_entry) (two.off_cycle index y.0 y.1 off))

-- if no entry refers to itself, directly or through others, nothing is removed
pub nothing_cut : (graph : Graph) (own cut : List Entry)
    → ((index : ℕ) → index < length own → Leads graph index index → ⊥) → AreCut graph own cut → cut ≡ own
nothing_cut graph own cut none is =
    same_by_index cut own is.same_length
    (λ index less.
    let within : index < length own = omega (arith, less, is.same_length) in
    let here = element_at own index within in
    is.off_cycle index here.0 here.1 (none index within) ∙ sym here.1)
