-- The version that a document is.
use Rattle.std.proofs.Common.{◌≡◌, ℕ, Bool, true, false, cond, List, [], ◌∷◌, length, get_or, refl, sym, ap, ◌∙◌, subst, arith, Some, None}
use Rattle.std.specs.Prelude.{◌==◌}
use Rattle.bib_syntax.specs.Reading.{EntryReading, FieldReading}
use Rattle.std.specs.Str.{IsUtf8}
use Rattle.bib_text.proofs.ListFacts.{some_same}
use Rattle.edit_entries.specs.Documents.{Document, IsDocument}
use Rattle.edit_entry_merge.specs.Versions.{Version, are_found_by_name, have_distinct_names, version_by, version_of}
use Rattle.edit_entry_merge.specs.Working.{IsReadVersion}

-- a list with one element is this element
pub one_item : {A : Type 0} (xs : List A) (x : A) → length xs ≡ 1 → x ≡ get_or xs 0 x → xs ≡ x ∷ []
one_item [] x size is = absurd (omega (arith, size))
one_item (y ∷ []) x size is = ap (λ z. z ∷ []) (sym is)
one_item (y ∷ z ∷ zs) x size is = absurd (omega (arith, size))

found : (fs : List FieldReading) → (length fs == 0) ≡ false → have_distinct_names fs ≡ true → are_found_by_name fs ≡ true
found [] some distinct = absurd (let clash : true ≡ false = some in cc)
found (f ∷ fs) some distinct = distinct

-- one entry with fields whose names differ is a version
pub version_is : (text : List ℕ) (es : List EntryReading) (e : EntryReading) → es ≡ e ∷ [] → (length e.fields == 0) ≡ false
    → have_distinct_names e.fields ≡ true → Some (record { text = text; entry = e }) ≡ version_by text es
version_is text es e is some distinct =
    sym
    (ap (version_by text) is
    ∙ ap (λ b. cond b (Some (record { text = text; entry = e })) None) (found e.fields some distinct))

-- a document that is a version has its text, and its entry as its only one
pub version_only : (text : List ℕ) (es : List EntryReading) (v : Version) → version_by text es ≡ Some v
    → (text ≡ v.text) × (es ≡ v.entry ∷ [])
version_only text [] v is = absurd (cc)
version_only text (e ∷ []) v is = by_case (are_found_by_name e.fields) is
  where
    by_case : (b : Bool) → cond b (Some (record { text = text; entry = e })) None ≡ Some v → (text ≡ v.text) × (e ∷ [] ≡ v.entry ∷ [])
    by_case true is =
        let same : (let w : Version = record { text = text; entry = e } in w) ≡ v = some_same is in
        (ap (λ w. w.text) same, ap (λ w. w.entry ∷ []) same)
    by_case false is = absurd (cc)
version_only text (e ∷ other ∷ es) v is = absurd (cc)

-- the version that a document is
pub version_read : (d : Document) (v : Version) → IsDocument d → IsUtf8 d.text → version_of d ≡ Some v
    → (r : IsReadVersion v) × (r.says ≡ d.says)
version_read d v read utf8 is =
    let both = version_only d.text d.says.entries v is in (
      record {
        says = d.says;
        read = subst (λ t. IsDocument (record { text = t; says = d.says })) both.0 read;
        only = both.1;
        utf8 = subst IsUtf8 both.0 utf8;
      },
      refl,
    )
