-- Properties of each element of a list, and of each field of entries.
use Rattle.std.proofs.Common.{◌≡◌, ℕ, zero, suc, List, [], ◌∷◌, refl, subst, Some}
use Rattle.std.specs.Prelude.{slice_get}
use Rattle.std.specs.List.{AllByRecursion}
use Rattle.bib_text.proofs.ListFacts.{all_weaker}
use Rattle.bib_syntax.specs.Reading.{EntryReading, FieldReading}
use Rattle.edit_entries.specs.Documents.{Document, IsDocument}
use Rattle.edit_entries.specs.Placed.{IsPlaced}
use Rattle.edit_entries.proofs.ValueFacts.{field_placed}

-- ---- properties of each element of a list

pub all_both : {A : Type 0} (P Q : A → Type 0) (xs : List A) → AllByRecursion P xs → AllByRecursion Q xs
    → AllByRecursion (λ x. P x × Q x) xs
all_both P Q [] all others = tt
all_both P Q (x ∷ xs) all others = ((all.0, others.0), all_both P Q xs all.1 others.1)

pub all_found : {A : Type 0} (P : A → Type 0) (xs : List A) → ((k : ℕ) (x : A) → slice_get xs k ≡ Some x → P x) → AllByRecursion P xs
all_found P [] each = tt
all_found P (x ∷ xs) each = (each zero x refl, all_found P xs (λ k. each (suc k)))

pub all_there : {A : Type 0} (P : A → Type 0) (xs : List A) (k : ℕ) (x : A) → AllByRecursion P xs → slice_get xs k ≡ Some x → P x
all_there P [] k x all found = absurd (cc)
all_there P (y ∷ ys) zero x all found = let same : y ≡ x = cc in subst P same all.0
all_there P (y ∷ ys) (suc k) x all found = all_there P ys k x all.1 found

-- each field of each of these entries has a property
abbrev pub OfFields : (FieldReading → Type 0) → List EntryReading → Type 0
OfFields P es = AllByRecursion (λ e. AllByRecursion P e.fields) es

pub fields_weaker : (P Q R : FieldReading → Type 0) → ((f : FieldReading) → P f → Q f → R f) → (es : List EntryReading)
    → OfFields P es → OfFields Q es → OfFields R es
fields_weaker P Q R weaker es all others =
    all_weaker (λ e. AllByRecursion P e.fields × AllByRecursion Q e.fields) (λ e. AllByRecursion R e.fields)
    (λ e both. all_weaker (λ f. P f × Q f) R (λ f here. weaker f here.0 here.1) e.fields (all_both P Q e.fields both.0 both.1)) es
    (all_both (λ e. AllByRecursion P e.fields) (λ e. AllByRecursion Q e.fields) es all others)

pub all_placed : (d : Document) → IsDocument d → OfFields (IsPlaced d.text) d.says.entries
all_placed d read =
    all_found (λ e. AllByRecursion (IsPlaced d.text) e.fields) d.says.entries
    (λ k e here. all_found (IsPlaced d.text) e.fields (λ j f there. field_placed d k e j f read here there))
