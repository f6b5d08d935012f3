-- Laws of renamed entries in merges.
use Rattle.std.proofs.Common.{◌≡◌, ℕ, Bool, true, false, List, [], ◌∷◌, Option, Some, None, arith, cond, length, map, refl, sym, ap, ◌∙◌, subst}
use Rattle.std.specs.Prelude.{◌==◌, ◌&&◌, bytes_eq, filter, not, option_and_then, slice_get}
use Rattle.std.specs.List.{enumerate_from, filter_map}
use Rattle.std.proofs.lemmas.Bool.{eqb-true}
use Rattle.std.proofs.lemmas.Slice.Eq.{bytes_eq-Decides}
use mathlib.Core.Path.{fun_ext}
use Rattle.bib_syntax.specs.Lines.{lines_together}
use Rattle.bib_syntax.specs.Reading.{EntryReading}
use Rattle.bib_syntax.proofs.LineReadFacts.{lines_are_file}
use Rattle.edit_entries.specs.Documents.{Document}
use Rattle.edit_merge.specs.Clean.{HaveUnits}
use Rattle.edit_merge.specs.Picked.{Versions, exchanged}
use Rattle.edit_merge.specs.Renames.{AreDocumentsOf, AreNewTexts, AreRefusedIn, Documents, HasNewKey, HaveNewTexts, IsNewText, IsRenamedText, IsVersionDocument, NewTexts, RenameReading, agreed_key, have_different_texts, exchanged_documents, exchanged_texts, has_one, have_one, key_on_side, keys_after, new_key, no_texts, rename_at, rename_from, renames, renames_of_sides, single_key}
use Rattle.edit_versions.proofs.SymmetryFacts.{bytes_symmetric}
use Rattle.edit_units.specs.Units.{AreUnits}
use Rattle.edit_versions.specs.Versions.{VersionReading, version_names, version_unit}

-- ---- equal texts

abbrev no_key : List ℕ → Option (List ℕ)
no_key key = None

none_after : (d : Document) (index : ℕ) → keys_after no_key d index ≡ None
none_after d index = by (slice_get d.says.entries index)
  where
    by : (found : Option EntryReading) → option_and_then (λ (e : EntryReading). no_key e.key.text) found ≡ None
    by None = refl
    by (Some e) = refl

no_text : (d : Document) (text : Option (List ℕ)) → IsNewText no_key d text → text ≡ None
no_text d None is = refl
no_text d (Some text) is =
    let some : HasNewKey no_key d = is.some in
    let clash : None ≡ Some some.key = sym (none_after d some.index) ∙ some.is in absurd (cc)

-- if no key is replaced, all texts stay
all_stay : (ds : Documents) (texts : NewTexts) → AreNewTexts no_key ds texts → texts ≡ no_texts
all_stay ds texts (AreNewTexts.renamed {base = base} {ours = ours} {theirs = theirs} b o t) =
    ap (λ x. record { base = x; ours = ours; theirs = theirs }) (no_text ds.base base b)
    ∙ ap (λ x. record { base = None; ours = x; theirs = theirs }) (no_text ds.ours ours o)
    ∙ ap (λ x. record { base = None; ours = None; theirs = x }) (no_text ds.theirs theirs t)
all_stay ds texts (AreNewTexts.refused_base refused) = refl
all_stay ds texts (AreNewTexts.refused_ours refused) = refl
all_stay ds texts (AreNewTexts.refused_theirs refused) = refl

-- without renames all texts stay
pub no_renames : (vs : Versions) (ds : Documents) → renames vs ds ≡ [] → AreNewTexts (new_key (renames vs ds)) ds no_texts
no_renames vs ds none =
    subst (λ rs. AreNewTexts (new_key rs) ds no_texts) (sym none)
    (AreNewTexts.renamed (none_after ds.base) (none_after ds.ours) (none_after ds.theirs))

-- versions with the same text have no renames that count
pub equal_renames : (vs : Versions) (ds : Documents) → have_different_texts vs ≡ false → renames vs ds ≡ []
equal_renames vs ds equal = ap (λ b. cond b (filter (have_one ds) (renames_of_sides vs)) []) equal

-- the renames that count, if no two versions have the same text
pub different_renames : (vs : Versions) (ds : Documents) (all : List RenameReading) → have_different_texts vs ≡ true
    → all ≡ renames_of_sides vs → renames vs ds ≡ filter (have_one ds) all
different_renames vs ds all differ is =
    ap (λ b. cond b (filter (have_one ds) (renames_of_sides vs)) []) differ ∙ sym (ap (filter (have_one ds)) is)

-- without renames of the sides all texts stay
pub nothing_renamed : {A : Type 0} (ds : Documents) (view : A → RenameReading) (all : List A) → (length all == 0) ≡ true
    → AreNewTexts (new_key (filter (have_one ds) (map view all))) ds no_texts
nothing_renamed ds view [] empty = AreNewTexts.renamed (none_after ds.base) (none_after ds.ours) (none_after ds.theirs)
nothing_renamed ds view (x ∷ xs) empty = absurd (omega (arith, eqb-true (length (x ∷ xs)) 0 empty))

pub equal_texts_stay : (vs : Versions) (ds : Documents) (texts : NewTexts) → have_different_texts vs ≡ false → AreDocumentsOf vs ds
    → HaveNewTexts vs texts → texts ≡ no_texts
equal_texts_stay vs ds texts equal are have =
    all_stay ds texts (subst (λ rs. AreNewTexts (new_key rs) ds texts) (equal_renames vs ds equal) (have ds are))

-- ---- documents of versions

document_of : (v : VersionReading) → AreUnits v.text v.units → Document
document_of v are = record { text = v.text; says = lines_together are.lines }

is_document : (v : VersionReading) (are : AreUnits v.text v.units) → IsVersionDocument v (document_of v are)
unfolding document_of
is_document v are = record { text = refl; read = lines_are_file are.are }

-- versions of which two have the same text stay
pub equal_versions_stay : (vs : Versions) (texts : NewTexts) → HaveUnits vs → have_different_texts vs ≡ false → HaveNewTexts vs texts
    → texts ≡ no_texts
equal_versions_stay vs texts all equal have =
    let ds : Documents = record {
      base = document_of vs.base all.base;
      ours = document_of vs.ours all.ours;
      theirs = document_of vs.theirs all.theirs;
    } in
    equal_texts_stay vs ds texts equal
    (record {
      base = is_document vs.base all.base;
      ours = is_document vs.ours all.ours;
      theirs = is_document vs.theirs all.theirs;
    })
    have

-- a test of two equal texts
same_texts : (text other : List ℕ) → text ≡ other → bytes_eq text other ≡ true
same_texts text other same = (bytes_eq-Decides text other).1 same

pub theirs_equal : (vs : Versions) → vs.theirs.text ≡ vs.base.text → have_different_texts vs ≡ false
theirs_equal vs same =
    ap (λ b. not (bytes_eq vs.ours.text vs.base.text) && (not b && not (bytes_eq vs.ours.text vs.theirs.text)))
    (same_texts vs.theirs.text vs.base.text same)
    ∙ by (not (bytes_eq vs.ours.text vs.base.text))
  where
    by : (b : Bool) → (b && false) ≡ false
    by true = refl
    by false = refl

pub ours_equal : (vs : Versions) → vs.ours.text ≡ vs.base.text → have_different_texts vs ≡ false
ours_equal vs same =
    ap (λ b. not b && (not (bytes_eq vs.theirs.text vs.base.text) && not (bytes_eq vs.ours.text vs.theirs.text)))
    (same_texts vs.ours.text vs.base.text same)

pub sides_equal : (vs : Versions) → vs.ours.text ≡ vs.theirs.text → have_different_texts vs ≡ false
sides_equal vs same =
    ap (λ b. not (bytes_eq vs.ours.text vs.base.text) && (not (bytes_eq vs.theirs.text vs.base.text) && not b))
    (same_texts vs.ours.text vs.theirs.text same)
    ∙ by (not (bytes_eq vs.ours.text vs.base.text)) (not (bytes_eq vs.theirs.text vs.base.text))
  where
    by : (a b : Bool) → (a && (b && false)) ≡ false
    by true true = refl
    by true false = refl
    by false b = refl

-- ---- exchanged sides

agreed_symmetric : (ours theirs : Option (List ℕ)) → agreed_key ours theirs ≡ agreed_key theirs ours
agreed_symmetric None None = refl
agreed_symmetric None (Some t) = refl
agreed_symmetric (Some o) None = refl
agreed_symmetric (Some o) (Some t) =
    by (bytes_eq o t) refl ∙ ap (λ b. cond b (Some t) None) (bytes_symmetric o t)
  where
    by : (b : Bool) → bytes_eq o t ≡ b → cond b (Some o) None ≡ cond b (Some t) None
    by true same = ap Some ((bytes_eq-Decides o t).0 same)
    by false other = refl

rename_symmetric : (vs : Versions) (index : ℕ) → rename_at (exchanged vs) index ≡ rename_at vs index
rename_symmetric vs index =
    ap (rename_from (single_key (version_unit vs.base (Some index))))
    (agreed_symmetric (key_on_side vs.base vs.theirs index) (key_on_side vs.base vs.ours index))

of_sides_symmetric : (vs : Versions) → renames_of_sides (exchanged vs) ≡ renames_of_sides vs
of_sides_symmetric vs =
    let both : ℕ × List ℕ → Option RenameReading = λ x. rename_at (exchanged vs) x.0 in
    let same : both ≡ (λ x. rename_at vs x.0) = fun_ext (λ x. rename_symmetric vs x.0) in
    ap (λ f. filter_map f (enumerate_from 0 (version_names vs.base))) same

swapped : (a b c : Bool) → (a && (b && c)) ≡ (a && (c && b))
swapped true true true = refl
swapped true true false = refl
swapped true false true = refl
swapped true false false = refl
swapped false b c = refl

one_symmetric : (ds : Documents) → have_one (exchanged_documents ds) ≡ have_one ds
one_symmetric ds = fun_ext (λ r. swapped (has_one ds.base r) (has_one ds.theirs r) (has_one ds.ours r))

different_symmetric : (vs : Versions) → have_different_texts (exchanged vs) ≡ have_different_texts vs
different_symmetric vs =
    ap (λ b. not (bytes_eq vs.theirs.text vs.base.text) && (not (bytes_eq vs.ours.text vs.base.text) && not b))
    (bytes_symmetric vs.theirs.text vs.ours.text)
    ∙ by (not (bytes_eq vs.theirs.text vs.base.text)) (not (bytes_eq vs.ours.text vs.base.text))
    (not (bytes_eq vs.ours.text vs.theirs.text))
  where
    by : (a b c : Bool) → (a && (b && c)) ≡ (b && (a && c))
    by true true c = refl
    by true false c = refl
    by false true c = refl
    by false false c = refl

renames_symmetric : (vs : Versions) (ds : Documents) → renames (exchanged vs) (exchanged_documents ds) ≡ renames vs ds
renames_symmetric vs ds =
    ap (λ b. cond b (filter (have_one (exchanged_documents ds)) (renames_of_sides (exchanged vs))) []) (different_symmetric vs)
    ∙ ap (λ p. cond (have_different_texts vs) (filter p (renames_of_sides (exchanged vs))) []) (one_symmetric ds)
    ∙ ap (λ rs. cond (have_different_texts vs) (filter (have_one ds) rs) []) (of_sides_symmetric vs)

texts_exchanged : {keys : List ℕ → Option (List ℕ)} {ds : Documents} {texts : NewTexts} → AreNewTexts keys ds texts
    → AreNewTexts keys (exchanged_documents ds) (exchanged_texts texts)
texts_exchanged (AreNewTexts.renamed b o t) = AreNewTexts.renamed b t o
texts_exchanged (AreNewTexts.refused_base refused) = AreNewTexts.refused_base refused
texts_exchanged (AreNewTexts.refused_ours refused) = AreNewTexts.refused_theirs refused
texts_exchanged (AreNewTexts.refused_theirs refused) = AreNewTexts.refused_ours refused

pub renames_exchanged : (vs : Versions) (texts : NewTexts) → HaveNewTexts vs texts → HaveNewTexts (exchanged vs) (exchanged_texts texts)
renames_exchanged vs texts have = λ ds are.
    let back : Documents = exchanged_documents ds in
    let are_back : AreDocumentsOf vs back = record { base = are.base; ours = are.theirs; theirs = are.ours } in
    let new : AreNewTexts (new_key (renames vs back)) ds (exchanged_texts texts) = texts_exchanged (have back are_back) in
    subst (λ rs. AreNewTexts (new_key rs) ds (exchanged_texts texts)) (sym (renames_symmetric vs back)) new
