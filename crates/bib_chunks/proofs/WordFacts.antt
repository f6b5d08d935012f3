-- Facts about the words `and` of a list and its parts.
use Rattle.std.proofs.Common.{◌≡◌, ℕ, Bool, true, false, cond, ◌&&◌, List, [], ◌∷◌, ◌++◌, map, refl, sym, ap, subst, ◌∙◌, append-nil, append_assoc}
use Rattle.std.specs.Prelude.{◌||◌, encode_utf8_all}
use Rattle.std.specs.Char.{is_whitespace}
use Rattle.std.specs.List.{list_all, AllByRecursion}
use Rattle.std.specs.Str.{IsUtf8, chars}
use Rattle.std.specs.declared.ops.Range.{Range}
use Rattle.std.proofs.Math.Utf8.{scalars}
use Rattle.std.proofs.lemmas.Bool.{and_parts, false≢true, false_from_ne_true, or_right, or_left}
use Rattle.std.proofs.lemmas.List.{map-append}
use Rattle.std.proofs.lemmas.Str.{scalars-chars, chars-encodes, encodes-chars}
use Rattle.bib_chunks.specs.declared.chunk.Chunk.{Chunk}
use Rattle.bib_chunks.specs.declared.chunk.Chunk.TheVariants.{Normal, Verbatim, Math}
use Rattle.bib_text.specs.declared.spanned.Spanned.{Spanned}
use Rattle.bib_chunks.specs.Styled.{Atom, atoms_of, styled, text_of}
use Rattle.bib_chunks.specs.Cuts.{is_and, prepend, between_ands, piece, and_list, trimmed_chunk, trimmed_chunks, trimmed_ends}
use Rattle.bib_chunks.specs.Parted.{AreTexts, IsList, IsSpaced, and_word, HasNoAnd, HoldsNoAnd, IsWithoutAnd}
use Rattle.bib_chunks.proofs.AndFacts.{ands_some, word_here, word_letters}
use Rattle.bib_chunks.proofs.TrimFacts.{IsTrimmed, SaysPiece, piece_says}
use Rattle.bib_chunks.proofs.PartFacts.{parts_hold}
use Rattle.bib_chunks.proofs.WholeFacts.{normal, normal_space, list_whole, rejoined}

-- the letters of the word
abbrev pub letters : List ℕ
letters = 97 ∷ 110 ∷ 100 ∷ []

prepend_rejoined : (a : ℕ) (text : List ℕ) (more : List (List ℕ))
    → rejoined letters (prepend (a ∷ []) (text ∷ more)) ≡ a ∷ rejoined letters (text ∷ more)
prepend_rejoined a text [] = refl
prepend_rejoined a text (after ∷ more) = refl

cut_rejoined : (text : List ℕ) (more : List (List ℕ))
    → rejoined letters ([] ∷ text ∷ more) ≡ 97 ∷ 110 ∷ 100 ∷ rejoined letters (text ∷ more)
cut_rejoined text more = refl

-- if the word is at the start of these characters, they begin with its letters
same_letters : (a n d : ℕ) (rest : List ℕ) → word_here true (a ∷ n ∷ d ∷ rest) ≡ true → 97 ∷ 110 ∷ 100 ∷ rest ≡ a ∷ n ∷ d ∷ rest
same_letters a n d rest here = let (others, is, spaced) = word_letters true (a ∷ n ∷ d ∷ rest) here in cc

-- if `word_here` holds for a flag, it holds for the flag `true`
at_true : (space : Bool) (cs : List ℕ) → word_here space cs ≡ true → word_here true cs ≡ true
at_true true cs here = here
at_true false cs here = let (others, is, spaced) = word_letters false cs here in rw is (ap (λ b. b) spaced)

one_rejoined : (test space : Bool) (a n d : ℕ) (rest : List ℕ) → word_here space (a ∷ n ∷ d ∷ rest) ≡ test
    → rejoined letters (between_ands false rest) ≡ rest → rejoined letters (between_ands (is_whitespace a) (n ∷ d ∷ rest)) ≡ n ∷ d ∷ rest
    → rejoined letters
    (cond test ([] ∷ between_ands false rest) (prepend (a ∷ []) (between_ands (is_whitespace a) (n ∷ d ∷ rest))))
    ≡ a ∷ n ∷ d ∷ rest
one_rejoined true space a n d rest here cut on =
    let (text, more, some) = ands_some false rest in
    ap (λ ts. rejoined letters ([] ∷ ts)) some ∙ cut_rejoined text more ∙ ap (λ ts. 97 ∷ 110 ∷ 100 ∷ rejoined letters ts) (sym some)
    ∙ ap (λ l. 97 ∷ 110 ∷ 100 ∷ l) cut ∙ same_letters a n d rest (at_true space (a ∷ n ∷ d ∷ rest) here)
one_rejoined false space a n d rest here cut on =
    let (text, more, some) = ands_some (is_whitespace a) (n ∷ d ∷ rest) in
    ap (λ ts. rejoined letters (prepend (a ∷ []) ts)) some ∙ prepend_rejoined a text more
    ∙ ap (λ ts. a ∷ rejoined letters ts) (sym some) ∙ ap (λ l. a ∷ l) on

-- the texts between the words, joined by the word, are the whole text
pub ands_whole : (space : Bool) (cs : List ℕ) → rejoined letters (between_ands space cs) ≡ cs
ands_whole space [] = refl
ands_whole space (a ∷ []) = refl
ands_whole space (a ∷ n ∷ []) = refl
ands_whole space (a ∷ n ∷ d ∷ rest) =
    one_rejoined (word_here space (a ∷ n ∷ d ∷ rest)) space a n d rest refl (ands_whole false rest)
    (ands_whole (is_whitespace a) (n ∷ d ∷ rest))

-- whether characters contain a word; the flag says whether white space comes before them
abbrev pub holds_and : Bool → List ℕ → Bool
holds_and space [] = false
holds_and space (c ∷ cs) = word_here space (c ∷ cs) || holds_and (is_whitespace c) cs

-- no text contains a word; the flag says whether white space comes before the first text
abbrev pub AreFree : Bool → List (List ℕ) → Type 0
AreFree space [] = Unit {0}
AreFree space (text ∷ more) = (holds_and space text ≡ false) × AllByRecursion (λ t. holds_and false t ≡ false) more

all_free : (texts : List (List ℕ)) → AreFree false texts → AllByRecursion (λ t. holds_and false t ≡ false) texts
all_free [] free = tt
all_free (text ∷ more) free = (free.0, free.1)

-- if characters begin with a word `and`, they still begin with it after other characters are appended
word_longer : (space : Bool) (cs tail : List ℕ) → word_here space cs ≡ true → word_here space (cs ++ tail) ≡ true
word_longer space [] tail here = absurd (false≢true here)
word_longer space (a ∷ []) tail here = absurd (false≢true here)
word_longer space (a ∷ n ∷ []) tail here = absurd (false≢true here)
word_longer space (a ∷ n ∷ d ∷ []) tail here = absurd (false≢true (and_parts (space && is_and a n d) false here).1)
word_longer space (a ∷ n ∷ d ∷ e ∷ rest) tail here = here

-- the joined text begins with the first text
rejoined_first : (text : List ℕ) (more : List (List ℕ)) → (tail : List ℕ) × (rejoined letters (text ∷ more) ≡ text ++ tail)
rejoined_first text [] = ([], sym (append-nil text))
rejoined_first text (after ∷ more) = (_, refl)

one_free : (test space : Bool) (a n d : ℕ) (rest : List ℕ) → word_here space (a ∷ n ∷ d ∷ rest) ≡ test
    → AreFree false (between_ands false rest) → AreFree (is_whitespace a) (between_ands (is_whitespace a) (n ∷ d ∷ rest))
    → AreFree space (cond test ([] ∷ between_ands false rest) (prepend (a ∷ []) (between_ands (is_whitespace a) (n ∷ d ∷ rest))))
one_free true space a n d rest here cut on = (refl, all_free (between_ands false rest) cut)
one_free false space a n d rest here cut on =
    let (text, more, some) = ands_some (is_whitespace a) (n ∷ d ∷ rest) in
    let (tail, begins) = rejoined_first text more in
    let starts : n ∷ d ∷ rest ≡ text ++ tail = sym (ands_whole (is_whitespace a) (n ∷ d ∷ rest)) ∙ ap (rejoined letters) some ∙ begins in
    let free : AreFree (is_whitespace a) (text ∷ more) = rw some at on in
    let none : word_here space (a ∷ text) ≡ false =
    false_from_ne_true _
    (λ found.
    false≢true
    (sym here ∙ ap (λ l. word_here space (a ∷ l)) starts ∙ word_longer space (a ∷ text) tail found)) in
    subst (λ ts. AreFree space (prepend (a ∷ []) ts)) (sym some) (ap (λ b. b || holds_and (is_whitespace a) text) none ∙ free.0, free.1)

-- no text between words contains a word
ands_free : (space : Bool) (cs : List ℕ) → AreFree space (between_ands space cs)
ands_free space [] = (refl, tt)
ands_free space (a ∷ []) = (refl, tt)
ands_free space (a ∷ n ∷ []) = (refl, tt)
ands_free space (a ∷ n ∷ d ∷ rest) =
    one_free (word_here space (a ∷ n ∷ d ∷ rest)) space a n d rest refl (ands_free false rest) (ands_free (is_whitespace a) (n ∷ d ∷ rest))

-- `holds_and` is true if `and` occurs between two white space characters
found_and : (space : Bool) (before following : List ℕ) (s t : ℕ) → is_whitespace s ≡ true → is_whitespace t ≡ true
    → holds_and space (before ++ (s ∷ 97 ∷ 110 ∷ 100 ∷ t ∷ following)) ≡ true
found_and space [] following s t white blank =
    or_right (word_here space (s ∷ 97 ∷ 110 ∷ 100 ∷ t ∷ following)) _
    (or_left (word_here (is_whitespace s) (97 ∷ 110 ∷ 100 ∷ t ∷ following)) _
    (ap (λ b. b && true && is_whitespace t) white ∙ blank))
found_and space (c ∷ before) following s t white blank =
    or_right (word_here space (c ∷ (before ++ (s ∷ 97 ∷ 110 ∷ 100 ∷ t ∷ following)))) _
    (found_and (is_whitespace c) before following s t white blank)

-- characters that contain no word have no `and` between white space
free_no_and : (text : List ℕ) → holds_and false text ≡ false → HasNoAnd text
free_no_and text free before following s t white blank is =
    absurd (false≢true (sym free ∙ ap (holds_and false) is ∙ found_and false before following s t white blank))

all_no_and : (texts : List (List ℕ)) → AllByRecursion (λ t. holds_and false t ≡ false) texts → AllByRecursion HasNoAnd texts
all_no_and [] free = tt
all_no_and (text ∷ texts) free = (free_no_and text free.0, all_no_and texts free.1)

between_no_and : (cs : List ℕ) → AllByRecursion HasNoAnd (between_ands false cs)
between_no_and cs = all_no_and (between_ands false cs) (all_free (between_ands false cs) (ands_free false cs))

-- characters without such an `and` have none after trimming
left_no_and : (first last : Bool) (text left : List ℕ) → IsTrimmed first last text left → HasNoAnd text → HasNoAnd left
left_no_and first last text left cut none before following s t white blank is =
    none (cut.lead ++ before) (following ++ cut.trail) s t white blank
    (cut.is ∙ ap (λ l. cut.lead ++ (l ++ cut.trail)) is
    ∙ ap (λ l. cut.lead ++ l) (append_assoc before (s ∷ 97 ∷ 110 ∷ 100 ∷ t ∷ following) cut.trail)
    ∙ sym (append_assoc cut.lead before _))

-- a normal chunk of such characters has none either
chunk_no_and : (text : List ℕ) → scalars text ≡ true → HasNoAnd text → IsWithoutAnd (Normal (encode_utf8_all text))
chunk_no_and text valid none = subst HasNoAnd (sym (chars-encodes text valid)) none

-- a trimmed normal chunk of UTF-8 text has the trimmed text
pub trimmed_says : (first last : Bool) (text : List ℕ) (span : Range ℕ) → IsUtf8 text
    → SaysPiece first last (chars text) (trimmed_chunk first last (Normal text) span)
trimmed_says first last text span utf8 =
    subst (λ bs. SaysPiece first last (chars text) (piece text span 0 first last bs)) (encodes-chars text utf8)
    (piece_says text span 0 first last (chars text) (scalars-chars text utf8))

-- the text of a trimmed chunk is UTF-8
trimmed_text : (first last : Bool) (v : Chunk) (span : Range ℕ) → IsUtf8 (text_of v) → IsUtf8 (text_of (trimmed_chunk first last v span).v)
trimmed_text first last (Normal text) span utf8 =
    let says = trimmed_says first last text span utf8 in
    subst (λ v. IsUtf8 (text_of v)) (sym says.is) (says.left, (says.valid, refl))
trimmed_text first last (Verbatim text) span utf8 = utf8
trimmed_text first last (Math text) span utf8 = utf8

-- the texts of trimmed chunks are UTF-8
pub trimmed_texts : (first : Bool) (chunks : List (Spanned Chunk)) → AreTexts chunks → AreTexts (trimmed_chunks first chunks)
trimmed_texts first [] texts = tt
trimmed_texts first (c ∷ []) texts = (trimmed_text first true c.v c.span texts.0, tt)
trimmed_texts first (c ∷ after ∷ more) texts = (trimmed_text first false c.v c.span texts.0, trimmed_texts false (after ∷ more) texts.1)

-- no normal chunk of a part of an `and` list contains the word between white space
pub and_list_no_and : (chunks : List (Spanned Chunk)) → AreTexts chunks → AllByRecursion HoldsNoAnd (and_list chunks)
and_list_no_and chunks texts =
    parts_hold HasNoAnd IsWithoutAnd left_no_and chunk_no_and letters 3 (between_ands false) (ands_whole false)
    between_no_and (λ text. tt) (λ text. tt) (trimmed_ends chunks) (trimmed_texts true chunks texts)

-- the atoms of a chunk are those of the trimmed one between white space
record ChunkSpaced (first last : Bool) (v : Chunk) (here : Spanned Chunk) : Type 0 where
  lead : List ℕ
  trail : List ℕ
  is : atoms_of v ≡ normal lead ++ (atoms_of here.v ++ normal trail)
  white : list_all is_whitespace lead ≡ true
  blank : list_all is_whitespace trail ≡ true
  begins : first ≡ false → lead ≡ []
  ends : last ≡ false → trail ≡ []

-- a chunk that trimming doesn't change has no white space to remove
same_spaced : (first last : Bool) (v : Chunk) (here : Spanned Chunk) → here.v ≡ v → ChunkSpaced first last v here
same_spaced first last v here is = record {
  lead = [];
  trail = [];
  is = ap atoms_of (sym is) ∙ sym (append-nil _);
  white = refl;
  blank = refl;
  begins = λ _. refl;
  ends = λ _. refl;
}

chunk_spaced : (first last : Bool) (v : Chunk) (span : Range ℕ) → IsUtf8 (text_of v)
    → ChunkSpaced first last v (trimmed_chunk first last v span)
chunk_spaced first last (Normal text) span utf8 =
    let says = trimmed_says first last text span utf8 in
    let cut = says.trimmed in
    record {
      lead = cut.lead;
      trail = cut.trail;
      is =
          ap normal cut.is ∙ map-append Atom.normal cut.lead (says.left ++ cut.trail)
          ∙ ap (λ l. normal cut.lead ++ l)
          (map-append Atom.normal says.left cut.trail ∙ ap (λ l. l ++ normal cut.trail) (sym says.says));
      white = cut.white;
      blank = cut.blank;
      begins = cut.begins;
      ends = cut.ends;
    }
chunk_spaced first last (Verbatim text) span utf8 = same_spaced first last (Verbatim text) _ refl
chunk_spaced first last (Math text) span utf8 = same_spaced first last (Math text) _ refl

-- the atoms of chunks are those of the trimmed chunks between white space
record AreSpaced (first : Bool) (chunks : List (Spanned Chunk)) : Type 0 where
  lead : List ℕ
  trail : List ℕ
  is : styled chunks ≡ normal lead ++ (styled (trimmed_chunks first chunks) ++ normal trail)
  white : list_all is_whitespace lead ≡ true
  blank : list_all is_whitespace trail ≡ true
  begins : first ≡ false → lead ≡ []

are_spaced : (first : Bool) (chunks : List (Spanned Chunk)) → AreTexts chunks → AreSpaced first chunks
are_spaced first [] texts = record { lead = []; trail = []; is = refl; white = refl; blank = refl; begins = λ _. refl }
are_spaced first (c ∷ []) texts =
    let one = chunk_spaced first true c.v c.span texts.0 in
    record {
      lead = one.lead;
      trail = one.trail;
      is =
          append-nil (atoms_of c.v) ∙ one.is
          ∙ ap (λ l. normal one.lead ++ (l ++ normal one.trail))
          (sym (append-nil (atoms_of (trimmed_chunk first true c.v c.span).v)));
      white = one.white;
      blank = one.blank;
      begins = one.begins;
    }
are_spaced first (c ∷ after ∷ more) texts =
    let one = chunk_spaced first false c.v c.span texts.0 in
    let rest = are_spaced false (after ∷ more) texts.1 in
    let here = atoms_of (trimmed_chunk first false c.v c.span).v in
    let others = styled (trimmed_chunks false (after ∷ more)) in
    let first_atoms : atoms_of c.v ≡ normal one.lead ++ here =
    one.is ∙ ap (λ l. normal one.lead ++ (here ++ normal l)) (one.ends refl)
    ∙ ap (λ l. normal one.lead ++ l) (append-nil here) in
    let rest_atoms : styled (after ∷ more) ≡ others ++ normal rest.trail =
    rest.is ∙ ap (λ l. normal l ++ (others ++ normal rest.trail)) (rest.begins refl) in
    record {
      lead = one.lead;
      trail = rest.trail;
      is =
          ap (λ l. l ++ styled (after ∷ more)) first_atoms ∙ append_assoc (normal one.lead) here _
          ∙ ap (λ l. normal one.lead ++ (here ++ l)) rest_atoms
          ∙ ap (λ l. normal one.lead ++ l) (sym (append_assoc here others (normal rest.trail)));
      white = one.white;
      blank = rest.blank;
      begins = one.begins;
    }

-- the parts of an `and` list, with the word and white space between them, are its styled text without white space at the ends
pub and_list_whole : (chunks : List (Spanned Chunk)) → AreTexts chunks
    → (inside : List Atom) × IsSpaced inside (styled chunks) × IsList and_word (map styled (and_list chunks)) inside
and_list_whole chunks texts =
    let spaced = are_spaced true chunks texts in (
      styled (trimmed_ends chunks),
      record {
        left = normal spaced.lead;
        right = normal spaced.trail;
        is = spaced.is;
        white = normal_space spaced.lead spaced.white;
        blank = normal_space spaced.trail spaced.blank;
      },
      list_whole letters 3 (between_ands false) (ands_whole false) (trimmed_ends chunks) (trimmed_texts true chunks texts),
    )
