-- The elements of a comma list: they lack commas, they consist of characters, and a list of new elements is joined by commas.
use Rattle.std.proofs.Common.{◌≡◌, ℕ, Bool, true, false, List, [], ◌∷◌, ◌++◌, length, map, Some, refl, sym, ap, ◌∙◌, subst, arith, append-nil}
use Rattle.std.specs.Prelude.{encode_utf8, encode_utf8_all, slice_get, ◌==◌}
use Rattle.std.specs.List.{AllByRecursion, join_by, onto_first, slice_split}
use Rattle.std.proofs.lemmas.Bool.{eqb-true}
use Rattle.std.proofs.lemmas.List.Splits.{length-slice_split, slice_split-cons_no, slice_split-cons_yes}
use Rattle.std.proofs.lemmas.Str.{encode_ascii, encodes-append}
use Rattle.bib_text.specs.Braces.{Parts}
use Rattle.bib_text.specs.Braces.{Parts as parts}
use Rattle.bib_text.specs.Places.{CharAt, Place, Run, between}
use Rattle.bib_text.specs.Places.Run.{stop, step}
use Rattle.bib_syntax.specs.Grammar.{Element, Elements, Number, QuotedParts, longest}
use Rattle.bib_syntax.specs.Grammar.{Element as element}
use Rattle.bib_syntax.specs.Grammar.{Elements as elements}
use Rattle.bib_syntax.specs.Grammar.{Number as number}
use Rattle.bib_syntax.specs.Grammar.{QuotedParts as quotes}
use Rattle.bib_syntax.specs.Reading.{EntryReading, FieldReading, Part, Piece}
use Rattle.bib_syntax.specs.Reading.Piece.{abbreviation, literal}
use Rattle.edit_entries.specs.Documents.{Document, IsDocument}
use Rattle.edit_entries.specs.References.{elements_of}
use Rattle.edit_entries.proofs.SplitFacts.{split_fields, split_file}
use Rattle.edit_entries.proofs.StandsFacts.{Stands, between_stands, joined, stands_char}
use Rattle.edit_laws.proofs.LeadTextFacts.{LacksComma, char_lacks, lacks_append}

-- ---- a list of elements

-- whether a byte is a comma
abbrev is_comma : ℕ → Bool
is_comma b = b == 44

-- bytes without commas before a list belong to its first element
split_more : (xs rest part : List ℕ) (parts : List (List ℕ)) → LacksComma xs → slice_split is_comma rest ≡ part ∷ parts
    → slice_split is_comma (xs ++ rest) ≡ (xs ++ part) ∷ parts
split_more [] rest part parts all cut = cut
split_more (x ∷ xs) rest part parts all cut =
    slice_split-cons_no is_comma x (xs ++ rest) all.0 ∙ ap (onto_first x) (split_more xs rest part parts all.1 cut)

-- a comma ends the first element
split_comma : (xs rest : List ℕ) → LacksComma xs → slice_split is_comma (xs ++ 44 ∷ rest) ≡ xs ∷ slice_split is_comma rest
split_comma xs rest all =
    split_more xs (44 ∷ rest) [] (slice_split is_comma rest) all (slice_split-cons_yes is_comma 44 rest refl)
    ∙ ap (λ l. l ∷ slice_split is_comma rest) (append-nil xs)

-- one or more elements without commas, joined by commas, are split into the same elements
split_joined : (f : List ℕ → List ℕ) (x : List ℕ) (xs : List (List ℕ)) → AllByRecursion (λ e. LacksComma (f e)) (x ∷ xs)
    → slice_split is_comma (join_by f (44 ∷ []) (x ∷ xs)) ≡ map f (x ∷ xs)
split_joined f x [] all = split_more (f x) [] [] [] all.0 refl ∙ ap (λ l. l ∷ []) (append-nil (f x))
split_joined f x (y ∷ ys) all =
    split_comma (f x) (join_by f (44 ∷ []) (y ∷ ys)) all.0 ∙ ap (λ l. f x ∷ l) (split_joined f y ys all.1)

-- a comma list has at least one element
split_some : (bytes : List ℕ) → slice_split is_comma bytes ≡ [] → ⊥
split_some bytes none = omega (arith, ap length none, length-slice_split is_comma bytes)

-- if the new elements lack commas, the elements of their joined list are these
pub elements_joined : (f : List ℕ → List ℕ) (list : List ℕ) → AllByRecursion (λ e. LacksComma (f e)) (elements_of list)
    → elements_of (join_by f (44 ∷ []) (elements_of list)) ≡ map f (elements_of list)
elements_joined f list all = by_elements (elements_of list) (split_some list) all
  where
    by_elements : (es : List (List ℕ)) → (es ≡ [] → ⊥) → AllByRecursion (λ e. LacksComma (f e)) es
        → slice_split is_comma (join_by f (44 ∷ []) es) ≡ map f es
    by_elements [] some every = absurd (some refl)
    by_elements (x ∷ xs) some every = split_joined f x xs every

-- ---- the characters of elements

-- a text is the bytes of some characters
pub record IsSpelled (bytes : List ℕ) : Type 0 where
  pub characters : List ℕ
  pub is : encode_utf8_all characters ≡ bytes

-- an element has no comma and is the bytes of some characters
pub record IsElement (bytes : List ℕ) : Type 0 where
  pub lacks : LacksComma bytes
  pub spelled : IsSpelled bytes

-- the bytes of a character that isn't a comma extend the first element of a list of elements
element_more : (xs : List ℕ) (c : ℕ) (es : List (List ℕ)) → xs ≡ encode_utf8 c → LacksComma xs → (es ≡ [] → ⊥)
    → AllByRecursion IsElement es
    → (part : List ℕ) × (rest : List (List ℕ)) × (es ≡ part ∷ rest) × AllByRecursion IsElement ((xs ++ part) ∷ rest)
element_more xs c [] is lacks some all = absurd (some refl)
element_more xs c (e ∷ es) is lacks some all = (
  e,
  es,
  refl,
  (
    record {
      lacks = lacks_append xs e lacks all.0.lacks;
      spelled = record {
        characters = c ∷ all.0.spelled.characters;
        is = ap (λ l. encode_utf8 c ++ l) all.0.spelled.is ∙ ap (λ l. l ++ e) (sym is);
      };
    },
    all.1,
  ),
)

-- each element of the bytes of characters has no comma and consists of characters
split_spelled : (cs : List ℕ) → AllByRecursion IsElement (slice_split is_comma (encode_utf8_all cs))
split_spelled [] = (record { lacks = tt; spelled = record { characters = []; is = refl } }, tt)
split_spelled (c ∷ cs) = by_comma (c == 44) refl (split_spelled cs)
  where
    by_comma : (b : Bool) → (c == 44) ≡ b → AllByRecursion IsElement (slice_split is_comma (encode_utf8_all cs))
        → AllByRecursion IsElement (slice_split is_comma (encode_utf8 c ++ encode_utf8_all cs))
    by_comma true is rest =
        let same : c ≡ 44 = eqb-true c 44 is in
        let bytes : encode_utf8 c ≡ 44 ∷ [] = ap encode_utf8 same ∙ encode_ascii 44 (omega arith) in
        subst (λ l. AllByRecursion IsElement (slice_split is_comma (l ++ encode_utf8_all cs))) (sym bytes)
        (subst (AllByRecursion IsElement) (sym (slice_split-cons_yes is_comma 44 (encode_utf8_all cs) refl))
        (record { lacks = tt; spelled = record { characters = []; is = refl } }, rest))
    by_comma false is rest =
        let lacks : LacksComma (encode_utf8 c) = char_lacks c is in
        let m =
        element_more (encode_utf8 c) c (slice_split is_comma (encode_utf8_all cs)) refl lacks (split_some (encode_utf8_all cs)) rest in
        subst (AllByRecursion IsElement) (sym (split_more (encode_utf8 c) (encode_utf8_all cs) m.0 m.1 lacks m.2)) m.3

-- each element of a text of characters has no comma and consists of characters
pub elements_spelled : (text : List ℕ) → IsSpelled text → AllByRecursion IsElement (elements_of text)
elements_spelled text s = subst (λ t. AllByRecursion IsElement (elements_of t)) s.is (split_spelled s.characters)

-- ---- the text between two places

-- the bytes from one place to another are those of some characters
record Spells (u v : Place) : Type 0 where
  characters : List ℕ
  stands : Stands u (encode_utf8_all characters) v

-- the empty text between a place and itself consists of characters
spells_here : (u : Place) → Spells u u
spells_here u = record { characters = []; stands = record { same = refl; here = refl; next = omega arith } }

-- the bytes of one character are those of some characters
spells_char : {u v : Place} {c : ℕ} → CharAt u c v → Spells u v
spells_char {u} {v} {c} char = record {
  characters = c ∷ [];
  stands = subst (λ l. Stands u l v) (sym (append-nil (encode_utf8 c))) (stands_char char);
}

-- two texts of characters, one after the other, are a text of characters
spells_then : {u v w : Place} → Spells u v → Spells v w → Spells u w
spells_then {u} {v} {w} first rest = record {
  characters = first.characters ++ rest.characters;
  stands =
      subst (λ l. Stands u l w) (sym (encodes-append first.characters rest.characters))
      (joined (encode_utf8_all first.characters) (encode_utf8_all rest.characters) first.stands rest.stands);
}

-- a run consists of characters
spells_run : {test : ℕ → Bool} {u v : Place} → Run test u v → Spells u v
spells_run {u = u} stop = spells_here u
spells_run (step char passes rest) = spells_then (spells_char char) (spells_run rest)

-- a number consists of characters
spells_number : {u v : Place} → Number longest u v → Spells u v
spells_number (number.whole char digit digits ends) = spells_then (spells_char char) (spells_run digits.run)
spells_number (number.broken char digit digits point others ends) =
    spells_then (spells_char char)
    (spells_then (spells_run digits.run) (spells_then (spells_char point) (spells_run others.run)))

-- the text between braces consists of characters
spells_parts : {u v : Place} → Parts u v → Spells u v
spells_parts {u} parts.none = spells_here u
spells_parts (parts.plain c p rest) = spells_then (spells_char c) (spells_parts rest)
spells_parts (parts.hidden s c rest) = spells_then (spells_char s) (spells_then (spells_char c) (spells_parts rest))
spells_parts (parts.nested o inner c rest) =
    spells_then (spells_char o) (spells_then (spells_parts inner) (spells_then (spells_char c) (spells_parts rest)))

-- the text between quotes consists of characters
spells_quoted : {u v : Place} → QuotedParts u v → Spells u v
spells_quoted {u} quotes.none = spells_here u
spells_quoted (quotes.plain c p rest) = spells_then (spells_char c) (spells_quoted rest)
spells_quoted (quotes.hidden s c rest) = spells_then (spells_char s) (spells_then (spells_char c) (spells_quoted rest))

-- if the bytes between two places are those of characters, so is the text `between` them
spelled_between : {u v : Place} → Spells u v → IsSpelled (between u v)
spelled_between s = record { characters = s.characters; is = sym (between_stands (encode_utf8_all s.characters) s.stands) }

-- ---- literals

-- a literal has the bytes of some characters as its text
abbrev IsPieceSpelled : Piece → Type 0
IsPieceSpelled (literal p) = IsSpelled p.text
IsPieceSpelled (abbreviation p) = Unit {0}

-- a parsed piece has the bytes of characters as its text, if it is a literal
element_spelled : {u v : Place} {e : Piece} → Element longest u e v → IsPieceSpelled e
element_spelled (element.number n) = spelled_between (spells_number n)
element_spelled (element.named none i) = tt
element_spelled (element.braced b) = subst IsSpelled (sym (ap (λ p. p.text) b.reading)) (spelled_between (spells_parts b.parts))
element_spelled (element.quoted q) = subst IsSpelled (sym (ap (λ p. p.text) q.reading)) (spelled_between (spells_quoted q.parts))

-- each literal of a parsed value has the bytes of characters as its text
pieces_spelled : {u v : Place} {ps : List Piece} → Elements longest u ps v → AllByRecursion IsPieceSpelled ps
pieces_spelled (elements.last e white ends) = (element_spelled e, tt)
pieces_spelled (elements.more e white sign white' rest) = (element_spelled e, pieces_spelled rest)

-- if the value of a field is one literal, its text is the bytes of some characters
pub literal_spelled : (d : Document) (k j : ℕ) (e : EntryReading) (f : FieldReading) (p : Part) → IsDocument d
    → slice_get d.says.entries k ≡ Some e → slice_get e.fields j ≡ Some f → f.value.pieces ≡ literal p ∷ [] → IsSpelled p.text
literal_spelled d k j e f p read here there one =
    let s = split_file k e read here in
    let g = split_fields j f s.block.fields there in
    (subst (AllByRecursion IsPieceSpelled) one (pieces_spelled g.field.elements)).0
