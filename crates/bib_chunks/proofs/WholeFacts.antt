-- Facts about the styled text of all parts of a list.
use Rattle.std.proofs.Common.{◌≡◌, ℕ, ◌+◌, Bool, true, false, ◌&&◌, List, [], ◌∷◌, ◌++◌, length, map, refl, sym, ap, subst, ◌∙◌, append-nil, append_assoc}
use Rattle.std.specs.Prelude.{encode_utf8_all}
use Rattle.std.specs.Char.{is_whitespace}
use Rattle.std.specs.List.{list_all, join_with_byte}
use Rattle.std.specs.Str.{IsUtf8, chars}
use Rattle.std.specs.declared.ops.Range.{Range}
use Rattle.std.proofs.Math.Utf8.{scalars}
use Rattle.std.proofs.lemmas.List.Concat.{flat_map-append}
use Rattle.std.proofs.lemmas.List.Splits.{join_with_byte-slice_split}
use Rattle.std.proofs.lemmas.Str.{scalars-chars}
use Rattle.bib_chunks.specs.declared.chunk.Chunk.{Chunk}
use Rattle.bib_chunks.specs.declared.chunk.Chunk.TheVariants.{Normal, Verbatim, Math}
use Rattle.bib_text.specs.declared.spanned.Spanned.{Spanned}
use Rattle.bib_chunks.specs.Styled.{Atom, atoms_of, styled, text_of}
use Rattle.bib_chunks.specs.Cuts.{piece, pieces, pieces_between, onto, joined_parts, list_parts, between_commas, comma_list}
use Rattle.bib_chunks.specs.Parted.{AreTexts, IsList, is_normal_space, comma_text}
use Rattle.bib_chunks.specs.Parted.IsList.{last, next}
use Rattle.bib_chunks.proofs.CutFacts.{pieces_some}
use Rattle.bib_chunks.proofs.TrimFacts.{scalars_parts, piece_says, SaysPiece}
use Rattle.bib_chunks.proofs.JoinedFacts.{styled-append}

-- normal characters as atoms
abbrev pub normal : List ℕ → List Atom
normal = map Atom.normal

pub normal-append : (xs ys : List ℕ) (rest : List Atom) → normal (xs ++ ys) ++ rest ≡ normal xs ++ (normal ys ++ rest)
normal-append [] ys rest = refl
normal-append (x ∷ xs) ys rest = ap (λ l. Atom.normal x ∷ l) (normal-append xs ys rest)

same_space : (cs : List ℕ) → list_all is_normal_space (normal cs) ≡ list_all is_whitespace cs
same_space [] = refl
same_space (c ∷ cs) = ap (λ b. is_whitespace c && b) (same_space cs)

pub normal_space : (cs : List ℕ) → list_all is_whitespace cs ≡ true → list_all is_normal_space (normal cs) ≡ true
normal_space cs white = same_space cs ∙ white

-- parts with these atoms prepended to the first one
abbrev pub longer : List Atom → List (List Atom) → List (List Atom)
longer leading_run [] = []
longer leading_run (part ∷ parts) = (leading_run ++ part) ∷ parts

list_longer : {separator : List Atom} {parts : List (List Atom)} {text : List Atom} (leading_run : List Atom)
    → IsList separator parts text → IsList separator (longer leading_run parts) (leading_run ++ text)
list_longer leading_run last = last
list_longer {separator} leading_run (next {part = part} {rest = rest} {parts = parts} left right white blank more) =
    subst (IsList separator ((leading_run ++ part) ∷ parts)) (append_assoc leading_run part _) (next left right white blank more)

-- a list has a part
no_parts : {separator text : List Atom} → IsList separator [] text → ⊥
no_parts list = elim list [ ]

-- prepending chunks to the first part of a list prepends their atoms to its text
list_onto : (separator : List Atom) (leading_run : List (Spanned Chunk)) (parts : List (List (Spanned Chunk)))
    (text : List Atom) → IsList separator (map styled parts) text
    → IsList separator (map styled (onto leading_run parts)) (styled leading_run ++ text)
list_onto separator leading_run [] text list = absurd (no_parts list)
list_onto separator leading_run (part ∷ parts) text list =
    subst (λ p. IsList separator (p ∷ map styled parts) (styled leading_run ++ text))
    (sym (styled-append leading_run part)) (list_longer (styled leading_run) list)

-- texts with a separator between each two
abbrev pub rejoined : List ℕ → List (List ℕ) → List ℕ
rejoined separator [] = []
rejoined separator (text ∷ []) = text
rejoined separator (text ∷ after ∷ more) = text ++ (separator ++ rejoined separator (after ∷ more))

-- the styled text of one chunk is its atoms
one_styled : (c : Spanned Chunk) (text : List Atom) → styled (c ∷ []) ++ text ≡ atoms_of c.v ++ text
one_styled c text = ap (λ l. l ++ text) (append-nil (atoms_of c.v))

-- the styled text `rest` of the pieces of a chunk, followed by `text`, is a list of `parts`; `rest` is `whole` without
-- white space after a separator before it
pub record ListFrom (separator : List ℕ) (following : Bool) (whole : List ℕ) (parts : List (List (Spanned Chunk)))
    (text : List Atom) : Type 0 where
  pub lead : List ℕ
  pub rest : List ℕ
  pub is : whole ≡ lead ++ rest
  pub white : list_all is_whitespace lead ≡ true
  pub begins : following ≡ false → lead ≡ []
  pub list : IsList (normal separator) (map styled parts) (normal rest ++ text)

joined_cons : (p x : Spanned Chunk) (xs ps : List (Spanned Chunk)) (parts : List (List (Spanned Chunk))) → ps ≡ x ∷ xs
    → joined_parts (p ∷ ps) parts ≡ (p ∷ []) ∷ joined_parts ps parts
joined_cons p x xs ps parts is = ap (λ qs. joined_parts (p ∷ qs) parts) is ∙ ap (λ qs. (p ∷ []) ∷ joined_parts qs parts) (sym is)

spread : (left trail separator lead rest : List ℕ) (text : List Atom)
    → normal left ++ (normal trail ++ (normal separator ++ (normal lead ++ (normal rest ++ text))))
    ≡ normal (left ++ (trail ++ (separator ++ (lead ++ rest)))) ++ text
spread left trail separator lead rest text =
    sym
    (normal-append left (trail ++ (separator ++ (lead ++ rest))) text
    ∙ ap (λ l. normal left ++ l)
    (normal-append trail (separator ++ (lead ++ rest)) text
    ∙ ap (λ l. normal trail ++ l)
    (normal-append separator (lead ++ rest) text
    ∙ ap (λ l. normal separator ++ l) (normal-append lead rest text))))

-- the pieces of a chunk, with the parts after it, are a list of the whole text
pub pieces_list : (separator : List ℕ) (w : ℕ) (whole : List ℕ) (span : Range ℕ) (at : ℕ) (following : Bool)
    (texts : List (List ℕ)) (parts : List (List (Spanned Chunk))) (text : List Atom)
    → scalars (rejoined separator texts) ≡ true → IsList (normal separator) (map styled parts) text
    → ListFrom separator following (rejoined separator texts) (joined_parts (pieces_between w whole span at following texts) parts) text
pieces_list separator w whole span at following [] parts text valid list = record {
  lead = [];
  rest = [];
  is = refl;
  white = refl;
  begins = λ _. refl;
  list = list;
}
pieces_list separator w whole span at following (t ∷ []) parts text valid list =
    let here = piece whole span at following false (encode_utf8_all t) in
    let says : SaysPiece following false t here = piece_says whole span at following false t valid in
    record {
      lead = says.trimmed.lead;
      rest = says.left;
      is = says.trimmed.is ∙ ap (λ l. says.trimmed.lead ++ l) (ap (λ l. says.left ++ l) (says.trimmed.ends refl) ∙ append-nil says.left);
      white = says.trimmed.white;
      begins = says.trimmed.begins;
      list =
          subst (IsList (normal separator) (map styled (onto (here ∷ []) parts)))
          (one_styled here text ∙ ap (λ l. l ++ text) says.says)
          (list_onto (normal separator) (here ∷ []) parts text list);
    }
pieces_list separator w whole span at following (t ∷ after ∷ more) parts text valid list =
    let here = piece whole span at following true (encode_utf8_all t) in
    let onward = at + (length (encode_utf8_all t) + w) in
    let valid_parts = scalars_parts t (separator ++ rejoined separator (after ∷ more)) valid in
    let valid_rest = scalars_parts separator (rejoined separator (after ∷ more)) valid_parts.1 in
    let says : SaysPiece following true t here = piece_says whole span at following true t valid_parts.0 in
    let rest_pieces = pieces_between w whole span onward true (after ∷ more) in
    let rest = pieces_list separator w whole span onward true (after ∷ more) parts text valid_rest.1 list in
    let (x, xs, some) = pieces_some w whole span onward true after more in
    let trail = says.trimmed.trail in
    let onward_text = normal trail ++ (normal separator ++ (normal rest.lead ++ (normal rest.rest ++ text))) in
    let whole_list : IsList (normal separator) (styled (here ∷ []) ∷ map styled (joined_parts rest_pieces parts))
    (styled (here ∷ []) ++ onward_text) =
    next (normal trail) (normal rest.lead) (normal_space trail says.trimmed.blank) (normal_space rest.lead rest.white) rest.list in
    record {
      lead = says.trimmed.lead;
      rest = says.left ++ (trail ++ (separator ++ (rest.lead ++ rest.rest)));
      is =
          ap (λ l. l ++ (separator ++ rejoined separator (after ∷ more))) says.trimmed.is
          ∙ append_assoc says.trimmed.lead (says.left ++ trail) _
          ∙ ap (λ l. says.trimmed.lead ++ l) (append_assoc says.left trail _ ∙ ap (λ l. says.left ++ (trail ++ (separator ++ l))) rest.is);
      white = says.trimmed.white;
      begins = says.trimmed.begins;
      list =
          subst
          (λ ps.
          IsList (normal separator) (map styled ps)
          (normal (says.left ++ (trail ++ (separator ++ (rest.lead ++ rest.rest)))) ++ text))
          (sym (joined_cons here x xs rest_pieces parts some))
          (subst (IsList (normal separator) (styled (here ∷ []) ∷ map styled (joined_parts rest_pieces parts)))
          (one_styled here onward_text ∙ ap (λ l. l ++ onward_text) says.says
          ∙ spread says.left trail separator rest.lead rest.rest text) whole_list);
    }

module _ (separator : List ℕ) (w : ℕ) (cut : List ℕ → List (List ℕ)) (whole_again : (cs : List ℕ) → rejoined separator (cut cs) ≡ cs) where
  chunk_list : (v : Chunk) (span : Range ℕ) (parts : List (List (Spanned Chunk))) (text : List Atom)
      → IsUtf8 (text_of v) → IsList (normal separator) (map styled parts) text
      → IsList (normal separator) (map styled (joined_parts (pieces w cut v span) parts)) (atoms_of v ++ text)
  chunk_list (Normal t) span parts text utf8 list =
      let same = whole_again (chars t) in
      let from = pieces_list separator w t span 0 false (cut (chars t)) parts text (ap scalars same ∙ scalars-chars t utf8) list in
      subst
      (λ cs.
      IsList (normal separator) (map styled (joined_parts (pieces w cut (Normal t) span) parts))
      (normal cs ++ text)) (ap (λ l. l ++ from.rest) (sym (from.begins refl)) ∙ sym from.is ∙ same)
      from.list
  chunk_list (Verbatim t) span parts text utf8 list =
      subst (IsList (normal separator) _)
      (one_styled (record { v = Verbatim t; span = record { start = span.start; end = span.end } }) text)
      (list_onto (normal separator) (pieces w cut (Verbatim t) span) parts text list)
  chunk_list (Math t) span parts text utf8 list =
      subst (IsList (normal separator) _)
      (one_styled (record { v = Math t; span = record { start = span.start; end = span.end } }) text)
      (list_onto (normal separator) (pieces w cut (Math t) span) parts text list)

  -- the parts of chunks, with separators and white space between them, are the styled text of the chunks
  pub list_whole : (chunks : List (Spanned Chunk)) → AreTexts chunks
      → IsList (normal separator) (map styled (list_parts w cut chunks)) (styled chunks)
  list_whole [] texts = last
  list_whole (c ∷ rest) texts = chunk_list c.v c.span (list_parts w cut rest) (styled rest) texts.0 (list_whole rest texts.1)

same_join : (c : ℕ) (texts : List (List ℕ)) → rejoined (c ∷ []) texts ≡ join_with_byte c texts
same_join c [] = refl
same_join c (text ∷ []) = refl
same_join c (text ∷ after ∷ more) = ap (λ l. text ++ (c ∷ l)) (same_join c (after ∷ more))

-- the texts between commas, joined by commas, are the whole text
pub commas_whole : (cs : List ℕ) → rejoined (44 ∷ []) (between_commas cs) ≡ cs
commas_whole cs = same_join 44 (between_commas cs) ∙ join_with_byte-slice_split 44 cs

-- the parts of a comma list, with commas and white space between them, are its styled text
pub comma_list_whole : (chunks : List (Spanned Chunk)) → AreTexts chunks
    → IsList comma_text (map styled (comma_list chunks)) (styled chunks)
comma_list_whole = list_whole (44 ∷ []) 1 between_commas commas_whole
