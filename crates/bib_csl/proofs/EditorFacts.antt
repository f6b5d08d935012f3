-- An entry without fields of editors has no variables of editors.
use Rattle.std.proofs.Common.{◌≡◌, ◌++◌, if◌then◌else◌, ℕ, Bool, true, false, List, [], Option, Some, None, is_some, refl, ap₂, codes, true≢false}
use Rattle.bib_chunks.specs.Values.{Value}
use Rattle.bib_entry.specs.declared.entry.Entry.{Entry}
use Rattle.bib_entry.specs.Editors.{role_of}
use Rattle.bib_csl.specs.declared.item.Name.{Name}
use Rattle.bib_csl.specs.declared.variables.Variable.{Variable}
use Rattle.bib_csl.specs.declared.variables.Variable.TheVariants.{Editor, Compiler, Director, Organizer}
use Rattle.bib_csl.specs.Fields.{given_people}
use Rattle.bib_csl.specs.People.{editor_fields, names_said, is_under, editors_listed, editors_under, uses_prefix}
use Rattle.bib_csl.specs.Texts.{field}

either_way : (b : Bool) (names : List Name) → names ≡ [] → (if b then names else []) ≡ []
either_way true names none = none
either_way false names none = refl

nobody : (uses : Bool) (people : Option Value) → is_some people ≡ false → names_said uses people ≡ []
unfolding names_said
nobody uses None none = refl
nobody uses (Some people) none = absurd (true≢false none)

-- a missing field lists nobody
pub none_listed : (v : Variable) (entry : Entry) (people role : List ℕ) → is_some (field entry people) ≡ false
    → editors_listed v entry people role ≡ []
unfolding editors_listed
none_listed v entry people role none =
    either_way (is_under v (role_of (field entry role))) (names_said (uses_prefix entry) (field entry people))
    (nobody (uses_prefix entry) (field entry people) none)

-- if the four fields of editors are missing, they list nobody
pub none_under : (v : Variable) (entry : Entry) → is_some (field entry (codes "editor")) ≡ false
    → is_some (field entry (codes "editora")) ≡ false
    → is_some (field entry (codes "editorb")) ≡ false → is_some (field entry (codes "editorc")) ≡ false → editors_under v entry ≡ []
unfolding editors_under
none_under v entry first second third fourth =
    ap₂ (λ a b. a ++ b) (none_listed v entry (codes "editor") (codes "editortype") first)
    (ap₂ (λ a b. a ++ b) (none_listed v entry (codes "editora") (codes "editoratype") second)
    (ap₂ (λ a b. a ++ b) (none_listed v entry (codes "editorb") (codes "editorbtype") third)
    (none_listed v entry (codes "editorc") (codes "editorctype") fourth)))

-- a variable without names isn't given; by the next lemma, an item has no variable of editors if the four fields list nobody
nothing_given : (v : Variable) (names : List Name) → names ≡ [] → given_people v names ≡ []
unfolding given_people
nothing_given v names none = rw none refl

pub none_given : (entry : Entry) → ((v : Variable) → editors_under v entry ≡ []) → editor_fields entry ≡ []
unfolding editor_fields
none_given entry none =
    ap₂ (λ a b. a ++ b) (nothing_given Editor _ (none Editor)) (ap₂ (λ a b. a ++ b) (nothing_given Compiler _ (none Compiler))
    (ap₂ (λ a b. a ++ b) (nothing_given Director _ (none Director)) (nothing_given Organizer _ (none Organizer))))
