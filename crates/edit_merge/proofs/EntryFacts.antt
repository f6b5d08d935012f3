-- The documents of the texts of units: each text has at most one, and none if it has a syntax error.
use Rattle.std.proofs.Common.{◌≡◌, ◌⊎◌, inl, inr, ℕ, List, [], ◌∷◌, ◌++◌, append_assoc, append-nil, arith, length, MatchOption, Option, Some, None, refl, sym, ap, ◌∙◌, subst}
use Rattle.bib_text.specs.Places.{place}
use Rattle.bib_syntax.specs.Grammar.{File, IsFile, any, longest}
use Rattle.bib_syntax.specs.Reading.{FileReading}
use Rattle.bib_syntax.proofs.AnyFacts.{file_any}
use Rattle.bib_syntax.proofs.FileFacts.{file_same}
use Rattle.edit_entries.specs.Documents.{Document, IsDocument}
use Rattle.edit_entry_merge.specs.Merges.{MergeReading, entry_merge}
use Rattle.std.specs.Prelude.{zip}
use Rattle.edit_merge.specs.Entries.{HasMergedEntries, HasMergedUnits, HasDocument, IsFieldMerge, IsSlotMerge, text_on, version_on}
use Rattle.edit_merge.specs.Entries.HasMergedUnits.{none, some}
use Rattle.edit_merge.specs.Picked.{Versions, slot_of}
use Rattle.edit_merge.specs.declared.entries.Side.{Side}
use Rattle.edit_units.specs.Units.{UnitTexts}
use Rattle.edit_versions.specs.Versions.{VersionReading, end_of, version_names, version_texts}

-- a text without a document in the file grammar has no document
pub no_document : {text : List ℕ} {d : Document} → (IsFile text → ⊥) → HasDocument (Some text) (Some d) → ⊥
no_document {text} {d} no_file (same, read) = no_file (d.says, subst (λ t. File any (place t 0) d.says) same (file_any read))

-- a text has one document
pub same_document : {text : List ℕ} {d e : Document} → HasDocument (Some text) (Some d) → HasDocument (Some text) (Some e) → d ≡ e
same_document {text} {d} {e} (same, read) (same', read') =
    let texts : d.text ≡ e.text = same ∙ sym same' in
    let says : d.says ≡ e.says = file_same read (subst (λ t. File longest (place t 0) e.says) (sym texts) read') in
    ap (λ t. record { text = t; says = d.says }) texts ∙ ap (λ s. record { text = e.text; says = s }) says

-- the documents of a base text that may be absent
pub same_base : (base : Option (List ℕ)) (d e : Option Document) → HasDocument base d → HasDocument base e → d ≡ e
same_base None None None is other = refl
same_base None None (Some e) is other = absurd other
same_base None (Some d) e is other = absurd is
same_base (Some text) None e is other = absurd is
same_base (Some text) (Some d) None is other = absurd other
same_base (Some text) (Some d) (Some e) is other = ap Some (same_document is other)

-- the merge of the documents of these texts is the merge of the texts
pub merge_of_texts : (base : Option (List ℕ)) {ours theirs : List ℕ} (b : Option Document) (o t : Document) {m : MergeReading}
    → HasDocument base b → HasDocument (Some ours) (Some o) → HasDocument (Some theirs) (Some t) → m ≡ entry_merge b o t
    → IsFieldMerge base (Some ours) (Some theirs) m
merge_of_texts base b o t is_b is_o is_t made = λ b' o' t' is_b' is_o' is_t'.
    made ∙ ap (λ x. entry_merge x o t) (same_base base b b' is_b is_b') ∙ ap (λ x. entry_merge b' x t) (same_document is_o is_o')
    ∙ ap (entry_merge b' o') (same_document is_t is_t')

pub no_base : {text : List ℕ} (b : Option Document) → (IsFile text → ⊥) → HasDocument (Some text) b → ⊥
no_base None no_file is = is
no_base (Some d) no_file is = no_document no_file is

-- what a search that found nothing says, and one that found something
pub none_found : {T A : Type 0} (B : T → Type 0) {found : Option T} → found ≡ None → MatchOption found A B → A
none_found {A = A} B same match = subst (λ r. MatchOption r A B) same match

pub some_found : {T : Type 0} (A : Type 0) (B : T → Type 0) {found : Option T} {x : T} → found ≡ Some x → MatchOption found A B → B x
some_found A B same match = subst (λ r. MatchOption r A B) same match

-- ---- the loop over the units of a side

-- a text of the units up to here, whatever the text `t` of the units that are left is
abbrev pub IsAhead : Side → Versions → List (List ℕ × UnitTexts) → List ℕ → List (List ℕ × UnitTexts) → Type 0
IsAhead side vs all text left = (t : List ℕ) → HasMergedUnits side vs left t → HasMergedUnits side vs all (text ++ t)

-- one more unit is merged
pub unit_merged : {side : Side} {vs : Versions} {all left : List (List ℕ × UnitTexts)} {name : List ℕ} {u : UnitTexts} (m : MergeReading)
    (old : List ℕ) {new : List ℕ} → IsSlotMerge vs name (slot_of vs name) m → new ≡ old ++ (u.space ++ text_on side m u.text)
    → IsAhead side vs all old ((name, u) ∷ left) → IsAhead side vs all new left
unit_merged {side} {vs} {all} {u = u} m old is text ahead = λ t rest.
    let on : List ℕ = text_on side m u.text in
    let same = ap (λ x. x ++ t) text ∙ append_assoc old (u.space ++ on) t ∙ ap (λ x. old ++ x) (append_assoc u.space on t) in
    subst (HasMergedUnits side vs all) (sym same) (ahead (u.space ++ (on ++ t)) (some m is rest))

-- no unit is left if one of two lists has none left
none_left : (names : List (List ℕ)) (units : List UnitTexts) → (length names ≡ 0) ⊎ (length units ≡ 0) → zip names units ≡ []
none_left [] units ended = refl
none_left (n ∷ names) [] ended = refl
none_left (n ∷ names) (u ∷ units) (inl ended) = absurd (omega (arith, ended))
none_left (n ∷ names) (u ∷ units) (inr ended) = absurd (omega (arith, ended))

-- at the end the text has all units
pub all_merged : {side : Side} {vs : Versions} {all : List (List ℕ × UnitTexts)} {text : List ℕ} (names : List (List ℕ))
    (units : List UnitTexts) → (length names ≡ 0) ⊎ (length units ≡ 0) → IsAhead side vs all text (zip names units)
    → HasMergedUnits side vs all text
all_merged {side} {vs} {all} {text} names units ended ahead =
    subst (HasMergedUnits side vs all) (append-nil text)
    (ahead [] (subst (λ left. HasMergedUnits side vs left []) (sym (none_left names units ended)) none))

-- the text of a side, given the version of this side
pub side_merged : {side : Side} {vs : Versions} (v : VersionReading) {units text : List ℕ} → v ≡ version_on side vs
    → HasMergedUnits side vs (zip (version_names v) (version_texts v)) units → text ≡ units ++ end_of v → HasMergedEntries side vs text
side_merged {side} {vs} v {units} {text} same merged whole =
    record {
      units = units;
      merged = subst (λ w. HasMergedUnits side vs (zip (version_names w) (version_texts w)) units) same merged;
      whole = subst (λ w. text ≡ units ++ end_of w) same whole;
    }
