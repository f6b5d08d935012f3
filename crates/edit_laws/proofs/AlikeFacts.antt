-- Alike readings: the pieces of the second have each value that the pieces of the first have, and can be parsed if those can be.
use Rattle.std.proofs.Common.{◌≡◌, ℕ, List, [], ◌∷◌, Bool, true, false, cond, reverse, refl, sym, ap, ◌∙◌, subst, inl, inr, Some, None, Option, option_map}
use Rattle.std.specs.Prelude.{bytes_eq, find}
use Rattle.std.specs.List.{AllZip}
use Rattle.std.specs.Str.{chars}
use Rattle.bib_abbreviations.specs.Abbreviations.{Definitions, Evaluates, HoldsName, HoldsText, IsKnown, IsReadable, Reaches, month}
use Rattle.bib_abbreviations.specs.Abbreviations.{Evaluates as evaluates, Reaches as reaches}
use Rattle.bib_chunks.specs.Styled.{Atom}
use Rattle.bib_contents.specs.Contents.{IsContent}
use Rattle.bib_file_entries.proofs.LoadingFacts.{AllZip-reverse}
use Rattle.bib_file_entries.specs.Loaded.{definition_in, field_in, name_of}
use Rattle.bib_syntax.specs.Reading.{FieldReading, Part, Piece}
use Rattle.bib_syntax.specs.Reading.Piece.{abbreviation, literal}

-- two lists of pieces have the same texts and names
pub data Alike : List Piece → List Piece → Type 0 where
  ends : Alike [] []
  same_text : {p q : Part} {ps qs : List Piece} → p.text ≡ q.text → Alike ps qs → Alike (literal p ∷ ps) (literal q ∷ qs)
  same_name : {p q : Part} {ps qs : List Piece} → p.text ≡ q.text → Alike ps qs → Alike (abbreviation p ∷ ps) (abbreviation q ∷ qs)

pub alike_back : {ps qs : List Piece} → Alike ps qs → Alike qs ps
alike_back Alike.ends = Alike.ends
alike_back (Alike.same_text same rest) = Alike.same_text (sym same) (alike_back rest)
alike_back (Alike.same_name same rest) = Alike.same_name (sym same) (alike_back rest)

-- each name has alike definitions in both, or none in the other if it has none in the first
pub record AreAlikeDefinitions (one other : Definitions) : Type 0 where
  pub some : (name : List ℕ) (definition : List Piece) → one name ≡ Some definition
      → (also : List Piece) × (other name ≡ Some also) × Alike definition also
  pub none : (name : List ℕ) → one name ≡ None → other name ≡ None

-- definitions are alike in both directions
pub record DefineAlike (one other : Definitions) : Type 0 where
  pub onward : AreAlikeDefinitions one other
  pub back : AreAlikeDefinitions other one

pub define_back : {one other : Definitions} → DefineAlike one other → DefineAlike other one
define_back both = record { onward = both.back; back = both.onward }

module _ {one other : Definitions} (are : AreAlikeDefinitions one other) where
  -- by alike definitions, `qs` have each value of the alike pieces `ps`
  pub evaluates_alike : {is_verbatim : Bool} {ps qs : List Piece} {atoms : List Atom} → Alike ps qs
      → Evaluates one is_verbatim ps atoms → Evaluates other is_verbatim qs atoms
  evaluates_alike Alike.ends evaluates.none = evaluates.none
  evaluates_alike {is_verbatim} (Alike.same_text same rest) (evaluates.text {first = first} x more) =
      evaluates.text (subst (λ t. IsContent is_verbatim (chars t) first) same x) (evaluates_alike rest more)
  evaluates_alike (Alike.same_name {p = p} same rest) (evaluates.defined {definition = definition} d x more) =
      let also = are.some p.text definition d in
      evaluates.defined (ap other (sym same) ∙ also.1) (evaluates_alike also.2 x) (evaluates_alike rest more)
  evaluates_alike (Alike.same_name {p = p} same rest) (evaluates.month_name absent m more) =
      evaluates.month_name (ap other (sym same) ∙ are.none p.text absent) (ap month (sym same) ∙ m) (evaluates_alike rest more)

-- a name in pieces is also in the pieces that are alike to them
holds_name : {ps qs : List Piece} (name : List ℕ) → Alike ps qs → HoldsName ps name → HoldsName qs name
holds_name name Alike.ends held = elim held [ ]
holds_name name (Alike.same_text same rest) held = holds_name name rest held
holds_name name (Alike.same_name same rest) (inl is) = inl (sym same ∙ is)
holds_name name (Alike.same_name same rest) (inr held) = inr (holds_name name rest held)

holds_text : {ps qs : List Piece} (text : List ℕ) → Alike ps qs → HoldsText ps text → HoldsText qs text
holds_text text Alike.ends held = elim held [ ]
holds_text text (Alike.same_text same rest) (inl is) = inl (sym same ∙ is)
holds_text text (Alike.same_text same rest) (inr held) = inr (holds_text text rest held)
holds_text text (Alike.same_name same rest) held = holds_text text rest held

reaches_alike : {one other : Definitions} {ps qs : List Piece} {name : List ℕ} → AreAlikeDefinitions one other
    → Alike ps qs → Reaches one ps name → Reaches other qs name
reaches_alike are alike (reaches.held {name = name} held) = reaches.held (holds_name name alike held)
reaches_alike are alike (reaches.through {name = name} {next = next} {definition = definition} before d held) =
    let also = are.some name definition d in
    reaches.through (reaches_alike are alike before) also.1 (holds_name next also.2 held)

-- if definitions are alike, pieces that are alike to readable ones are readable too
pub readable_alike : {one other : Definitions} {is_verbatim : Bool} {ps qs : List Piece} → DefineAlike one other
    → Alike ps qs → IsReadable one is_verbatim ps → IsReadable other is_verbatim qs
readable_alike {one} {other} {is_verbatim} {ps} {qs} both alike read = record {
  known = λ name there. by_known name (read.known name (reaches_alike both.back (alike_back alike) there));
  no_cycle = λ name definition there is again.
      let also = both.back.some name definition is in
      read.no_cycle name also.0 (reaches_alike both.back (alike_back alike) there) also.1 (reaches_alike both.back also.2 again);
  texts = λ text held. read.texts text (holds_text text (alike_back alike) held);
  inner_texts = λ name definition there is text held.
      let also = both.back.some name definition is in
      read.inner_texts name also.0 (reaches_alike both.back (alike_back alike) there) also.1 text (holds_text text also.2 held);
}
  where
    by_known : (name : List ℕ) → IsKnown one name → IsKnown other name
    by_known name (inl defined) = let also = both.onward.some name defined.0 defined.1 in inl (also.0, also.1)
    by_known name (inr english) = inr english

-- the pieces `qs` have, by the definitions `other`, each value that `ps` have by `one`, and can be parsed if `ps` can
pub record MeanTheSame (one other : Definitions) (ps qs : List Piece) : Type 0 where
  pub value : (is_verbatim : Bool) (atoms : List Atom) → Evaluates one is_verbatim ps atoms → Evaluates other is_verbatim qs atoms
  pub readable : (is_verbatim : Bool) → IsReadable one is_verbatim ps → IsReadable other is_verbatim qs

-- alike pieces mean the same by alike definitions
pub alike_mean : {one other : Definitions} {ps qs : List Piece} → DefineAlike one other → Alike ps qs → MeanTheSame one other ps qs
alike_mean both alike = record {
  value = λ is_verbatim atoms says. evaluates_alike both.onward alike says;
  readable = λ is_verbatim read. readable_alike both alike read;
}

pub mean_both : {one other third : Definitions} {ps qs rs : List Piece} → MeanTheSame one other ps qs → MeanTheSame other third qs rs
    → MeanTheSame one third ps rs
mean_both first second = record {
  value = λ is_verbatim atoms says. second.value is_verbatim atoms (first.value is_verbatim atoms says);
  readable = λ is_verbatim read. second.readable is_verbatim (first.readable is_verbatim read);
}

-- two fields have the same name, in any ASCII case, and their pieces mean the same
pub record AreAlikeFields (one other : Definitions) (f g : FieldReading) : Type 0 where
  pub name : name_of f ≡ name_of g
  pub means : MeanTheSame one other f.value.pieces g.value.pieces

-- two abbreviations have the same name and alike pieces
pub record AreAlikeAbbreviations (one other : FieldReading) : Type 0 where
  pub name : one.name.text ≡ other.name.text
  pub pieces : Alike one.value.pieces other.value.pieces

-- two results of a search are related, or both are `None`
pub data FoundAlike {A : Type 0} (R : A → A → Type 0) : Option A → Option A → Type 0 where
  in_neither : FoundAlike R None None
  in_each : {x y : A} → R x y → FoundAlike R (Some x) (Some y)

found_first : {A : Type 0} {R : A → A → Type 0} (x y : A) {found also : Option A} (b c : Bool) → b ≡ c → R x y
    → FoundAlike R found also → FoundAlike R (cond b (Some x) found) (cond c (Some y) also)
found_first x y true true is here rest = FoundAlike.in_each here
found_first x y true false is here rest = cc
found_first x y false true is here rest = cc
found_first x y false false is here rest = rest

pub find_alike : {A : Type 0} (R : A → A → Type 0) (test : A → Bool) (xs ys : List A)
    → ((x y : A) → R x y → test x ≡ test y) → AllZip R xs ys → FoundAlike R (find test xs) (find test ys)
find_alike R test [] [] same all = FoundAlike.in_neither
find_alike R test [] (y ∷ ys) same all = absurd all
find_alike R test (x ∷ xs) [] same all = absurd all
find_alike R test (x ∷ xs) (y ∷ ys) same all = found_first x y (test x) (test y) (same x y all.0) all.0
    (find_alike R test xs ys same all.1)

-- the last fields with a name in two lists of alike fields are alike, or neither list has one
pub field_alike : {one other : Definitions} (fs gs : List FieldReading) (name : List ℕ) → AllZip (AreAlikeFields one other) fs gs
    → FoundAlike (AreAlikeFields one other) (field_in fs name) (field_in gs name)
field_alike {one} {other} fs gs name all =
    find_alike (AreAlikeFields one other) (λ f. bytes_eq name (name_of f)) (reverse fs) (reverse gs)
    (λ f g are. ap (bytes_eq name) are.name) (AllZip-reverse (AreAlikeFields one other) fs gs all)

-- alike abbreviations make alike definitions
defined_alike : (one other : List FieldReading) → AllZip AreAlikeAbbreviations one other
    → AreAlikeDefinitions (definition_in one) (definition_in other)
defined_alike one other all = record {
  some = λ name definition is.
      some
      (find_alike AreAlikeAbbreviations (λ f. bytes_eq name f.name.text) (reverse one) (reverse other)
      (λ f g are. ap (bytes_eq name) are.name) (AllZip-reverse AreAlikeAbbreviations one other all)) is;
  none = λ name is.
      none
      (find_alike AreAlikeAbbreviations (λ f. bytes_eq name f.name.text) (reverse one) (reverse other)
      (λ f g are. ap (bytes_eq name) are.name) (AllZip-reverse AreAlikeAbbreviations one other all)) is;
}
  where
    some : {o p : Option FieldReading} {definition : List Piece} → FoundAlike AreAlikeAbbreviations o p
        → option_map (λ f. f.value.pieces) o ≡ Some definition
        → (also : List Piece) × (option_map (λ f. f.value.pieces) p ≡ Some also) × Alike definition also
    some FoundAlike.in_neither is = cc
    some (FoundAlike.in_each {x = x} {y = y} are) is = (y.value.pieces, refl, subst (λ ps. Alike ps y.value.pieces) (cc is) are.pieces)

    none : {o p : Option FieldReading} → FoundAlike AreAlikeAbbreviations o p
        → option_map (λ (f : FieldReading). f.value.pieces) o ≡ None
        → option_map (λ (f : FieldReading). f.value.pieces) p ≡ None
    none FoundAlike.in_neither is = refl
    none (FoundAlike.in_each are) is = cc

pub AllZip-back : {A : Type 0} (R : A → A → Type 0) (xs ys : List A) → ((x y : A) → R x y → R y x) → AllZip R xs ys → AllZip R ys xs
AllZip-back R [] [] back all = tt
AllZip-back R [] (y ∷ ys) back all = absurd all
AllZip-back R (x ∷ xs) [] back all = absurd all
AllZip-back R (x ∷ xs) (y ∷ ys) back all = (back x y all.0, AllZip-back R xs ys back all.1)

pub definitions_alike : (one other : List FieldReading) → AllZip AreAlikeAbbreviations one other
    → DefineAlike (definition_in one) (definition_in other)
definitions_alike one other all = record {
  onward = defined_alike one other all;
  back =
      defined_alike other one
      (AllZip-back AreAlikeAbbreviations one other
      (λ f g are. record { name = sym are.name; pieces = alike_back are.pieces }) all);
}
