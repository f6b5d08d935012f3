-- Facts about merged chunks.
use Rattle.std.proofs.Common.{◌+◌, ◌<◌, take, get_or, not, ◌≡◌, ℕ, true, false, List, [], ◌∷◌, ◌++◌, length, map, refl, sym, ap, subst, ◌∙◌, append_assoc, append-nil, if◌then◌else◌, ◌==◌}
use Rattle.std.specs.Prelude.{encode_utf8, encode_utf8_all}
use Rattle.std.specs.Str.{IsUtf8, chars}
use Rattle.std.proofs.lemmas.List.{take_more}
use Rattle.std.proofs.lemmas.List.Concat.{flat_map-append}
use Rattle.std.proofs.lemmas.Str.{encodes-chars}
use Rattle.std.proofs.lemmas.Bool.{false≢true}
use Rattle.bib_chunks.specs.declared.chunk.Chunk.{Chunk}
use Rattle.bib_chunks.specs.declared.chunk.Chunk.TheVariants.{Normal, Verbatim, Math}
use Rattle.bib_text.specs.declared.spanned.Spanned.{Spanned}
use Rattle.bib_chunks.specs.Cuts.{with_span}
use Rattle.bib_chunks.specs.Styled.{Atom, atoms_of, styled, text_of, is_shown, is_same_kind}
use Rattle.bib_chunks.specs.Lists.{lengthened_chunk, at_start, chunk_of, before, chunks_of}
use Rattle.bib_chunks.proofs.StyledFacts.{no_characters, hidden}
use Rattle.bib_chunks.specs.Joining.{with_chunk}

-- two merged chunks of one kind are of the kind of the second one
joined_same : (c d e : Chunk) → is_same_kind c d ≡ true → is_same_kind (lengthened_chunk c d) e ≡ is_same_kind d e
joined_same (Normal a) (Normal b) (Normal e) h = refl
joined_same (Normal a) (Normal b) (Verbatim e) h = refl
joined_same (Normal a) (Normal b) (Math e) h = refl
joined_same (Verbatim a) (Verbatim b) (Normal e) h = refl
joined_same (Verbatim a) (Verbatim b) (Verbatim e) h = refl
joined_same (Verbatim a) (Verbatim b) (Math e) h = refl
joined_same (Normal a) (Verbatim b) e h = absurd (false≢true h)
joined_same (Normal a) (Math b) e h = absurd (false≢true h)
joined_same (Verbatim a) (Normal b) e h = absurd (false≢true h)
joined_same (Verbatim a) (Math b) e h = absurd (false≢true h)
joined_same (Math a) d e h = absurd (false≢true h)

-- a merged chunk is of the kind of the first one
same_joined : (c d e : Chunk) → is_same_kind c (lengthened_chunk d e) ≡ is_same_kind c d
same_joined (Normal a) (Normal b) (Normal e) = refl
same_joined (Normal a) (Normal b) (Verbatim e) = refl
same_joined (Normal a) (Normal b) (Math e) = refl
same_joined (Normal a) (Verbatim b) (Normal e) = refl
same_joined (Normal a) (Verbatim b) (Verbatim e) = refl
same_joined (Normal a) (Verbatim b) (Math e) = refl
same_joined (Normal a) (Math b) e = refl
same_joined (Verbatim a) (Normal b) (Normal e) = refl
same_joined (Verbatim a) (Normal b) (Verbatim e) = refl
same_joined (Verbatim a) (Normal b) (Math e) = refl
same_joined (Verbatim a) (Verbatim b) (Normal e) = refl
same_joined (Verbatim a) (Verbatim b) (Verbatim e) = refl
same_joined (Verbatim a) (Verbatim b) (Math e) = refl
same_joined (Verbatim a) (Math b) e = refl
same_joined (Math a) d e = refl

-- in which order three chunks of one kind are merged doesn't matter
lengthened_twice : (c d e : Chunk) → is_same_kind c d ≡ true → is_same_kind d e ≡ true
    → lengthened_chunk c (lengthened_chunk d e) ≡ lengthened_chunk (lengthened_chunk c d) e
lengthened_twice (Normal a) (Normal b) (Normal e) h k = ap Normal (sym (append_assoc a b e))
lengthened_twice (Verbatim a) (Verbatim b) (Verbatim e) h k = ap Verbatim (sym (append_assoc a b e))
lengthened_twice (Normal a) (Normal b) (Verbatim e) h k = absurd (false≢true k)
lengthened_twice (Normal a) (Normal b) (Math e) h k = absurd (false≢true k)
lengthened_twice (Verbatim a) (Verbatim b) (Normal e) h k = absurd (false≢true k)
lengthened_twice (Verbatim a) (Verbatim b) (Math e) h k = absurd (false≢true k)
lengthened_twice (Normal a) (Verbatim b) e h k = absurd (false≢true h)
lengthened_twice (Normal a) (Math b) e h k = absurd (false≢true h)
lengthened_twice (Verbatim a) (Normal b) e h k = absurd (false≢true h)
lengthened_twice (Verbatim a) (Math b) e h k = absurd (false≢true h)
lengthened_twice (Math a) d e h k = absurd (false≢true h)

-- two chunks merged into one
both : Spanned Chunk → Spanned Chunk → Spanned Chunk
both c d = with_span (lengthened_chunk c.v d.v) c.span.start c.span.end

module _ (c d : Spanned Chunk) where
  before_joined : is_same_kind c.v d.v ≡ true → (rest : List (Spanned Chunk)) → before c (d ∷ rest) ≡ both c d ∷ rest
  unfolding both
  before_joined h rest = ap (λ b. if b then both c d ∷ rest else c ∷ d ∷ rest) h

  before_apart : is_same_kind c.v d.v ≡ false → (rest : List (Spanned Chunk)) → before c (d ∷ rest) ≡ c ∷ d ∷ rest
  unfolding both
  before_apart h rest = ap (λ b. if b then both c d ∷ rest else c ∷ d ∷ rest) h

  -- prepending two chunks of one kind is prepending the merged one
  before_twice : is_same_kind c.v d.v ≡ true → (rest : List (Spanned Chunk)) → before c (before d rest) ≡ before (both c d) rest
  unfolding both
  before_twice h [] = before_joined h []
  before_twice h (e ∷ es) =
      elim (is_same_kind d.v e.v) as
      (λ b.
      is_same_kind d.v e.v ≡ b → before c (if b then both d e ∷ es else d ∷ e ∷ es) ≡ before (both c d) (e ∷ es)) [
        | true ↦ λ k.
            ap (λ b. if b then both c (both d e) ∷ es else c ∷ both d e ∷ es) (same_joined c.v d.v e.v ∙ h)
            ∙ ap (λ v. with_span v c.span.start c.span.end ∷ es) (lengthened_twice c.v d.v e.v h k)
            ∙ sym (ap (λ b. if b then both (both c d) e ∷ es else both c d ∷ e ∷ es) (joined_same c.v d.v e.v h ∙ k))
        | false ↦ λ k.
            before_joined h (e ∷ es)
            ∙ sym (ap (λ b. if b then both (both c d) e ∷ es else both c d ∷ e ∷ es) (joined_same c.v d.v e.v h ∙ k))
      ] refl

  before_other : is_same_kind c.v d.v ≡ false → (rest : List (Spanned Chunk)) → before c (before d rest) ≡ c ∷ before d rest
  unfolding both
  before_other h [] = before_apart h []
  before_other h (e ∷ es) =
      elim (is_same_kind d.v e.v) as
      (λ b. before c (if b then both d e ∷ es else d ∷ e ∷ es) ≡ c ∷ (if b then both d e ∷ es else d ∷ e ∷ es)) [
        | true ↦ ap (λ b. if b then both c (both d e) ∷ es else c ∷ both d e ∷ es) (same_joined c.v d.v e.v ∙ h)
        | false ↦ before_apart h (e ∷ es)
      ]

-- prepending a chunk and appending one can be exchanged
before-with_chunk : (c : Spanned Chunk) (chunks : List (Spanned Chunk)) (n : Spanned Chunk)
    → before c (with_chunk chunks n) ≡ with_chunk (before c chunks) n
unfolding both
before-with_chunk c [] n = refl
before-with_chunk c (d ∷ []) n =
    elim (is_same_kind c.v d.v) as
    (λ b.
    is_same_kind c.v d.v ≡ b
    → before c (before d (n ∷ [])) ≡ with_chunk (if b then both c d ∷ [] else c ∷ d ∷ []) n) [
      | true ↦ λ h. before_twice c d h (n ∷ [])
      | false ↦ λ h. before_other c d h (n ∷ [])
    ] refl
before-with_chunk c (d ∷ e ∷ rest) n =
    elim (is_same_kind c.v d.v) as
    (λ b.
    (if b then both c d ∷ with_chunk (e ∷ rest) n else c ∷ d ∷ with_chunk (e ∷ rest) n)
    ≡ with_chunk (if b then both c d ∷ e ∷ rest else c ∷ d ∷ e ∷ rest) n) [ true ↦ refl | false ↦ refl ]

-- if more atoms are one chunk, appending them to a styled text adds this chunk to its chunks, by `with_chunk`
chunks_of-append : (atoms more : List Atom) (n : Spanned Chunk) → chunks_of more ≡ n ∷ []
    → chunks_of (atoms ++ more) ≡ with_chunk (chunks_of atoms) n
chunks_of-append [] more n is = is
chunks_of-append (a ∷ atoms) more n is =
    ap (before (at_start (chunk_of a))) (chunks_of-append atoms more n is) ∙ before-with_chunk _ (chunks_of atoms) n

-- one or more normal atoms are one chunk
normal_run : (c : ℕ) (cs : List ℕ) → chunks_of (map Atom.normal (c ∷ cs)) ≡ at_start (Normal (encode_utf8_all (c ∷ cs))) ∷ []
normal_run c [] = ap (λ t. at_start (Normal t) ∷ []) (sym (append-nil (encode_utf8 c)))
normal_run c (d ∷ cs) = ap (before (at_start (Normal (encode_utf8 c)))) (normal_run d cs)

-- one or more verbatim atoms are one chunk
verbatim_run : (c : ℕ) (cs : List ℕ) → chunks_of (map Atom.verbatim (c ∷ cs)) ≡ at_start (Verbatim (encode_utf8_all (c ∷ cs))) ∷ []
verbatim_run c [] = ap (λ t. at_start (Verbatim t) ∷ []) (sym (append-nil (encode_utf8 c)))
verbatim_run c (d ∷ cs) = ap (before (at_start (Verbatim (encode_utf8 c)))) (verbatim_run d cs)

-- appending a chunk leaves all chunks before the last one unchanged
with_chunk-last : (leading_run : List (Spanned Chunk)) (last n : Spanned Chunk)
    → with_chunk (leading_run ++ last ∷ []) n ≡ leading_run ++ before last (n ∷ [])
with_chunk-last [] last n = refl
with_chunk-last (x ∷ []) last n = refl
with_chunk-last (x ∷ y ∷ leading_run) last n = ap (λ l. x ∷ l) (with_chunk-last (y ∷ leading_run) last n)

-- a chunk is unchanged if it and the other one are neither both normal nor both verbatim
not_lengthened : (c d : Chunk) → is_same_kind c d ≡ false → lengthened_chunk c d ≡ c
not_lengthened (Normal a) (Normal b) h = absurd (false≢true (sym h))
not_lengthened (Verbatim a) (Verbatim b) h = absurd (false≢true (sym h))
not_lengthened (Normal a) (Verbatim b) h = refl
not_lengthened (Normal a) (Math b) h = refl
not_lengthened (Verbatim a) (Normal b) h = refl
not_lengthened (Verbatim a) (Math b) h = refl
not_lengthened (Math a) d h = refl

module _ (old leading_run now : List (Spanned Chunk)) (last : Spanned Chunk) (v chunk : Chunk)
    (was : old ≡ leading_run ++ last ∷ []) (text : v ≡ lengthened_chunk last.v chunk) where
  -- the last chunk was lengthened if it and the new one are both normal or both verbatim
  pub added_joined : is_same_kind last.v chunk ≡ true → now ≡ leading_run ++ with_span v last.span.start last.span.end ∷ []
      → now ≡ with_chunk old (at_start chunk)
  unfolding both
  added_joined h is =
      is ∙ ap (λ t. leading_run ++ with_span t last.span.start last.span.end ∷ []) text
      ∙ sym
      (ap (λ l. with_chunk l (at_start chunk)) was ∙ with_chunk-last leading_run last (at_start chunk)
      ∙ ap (λ l. leading_run ++ l) (before_joined last (at_start chunk) h []))

  -- otherwise the last chunk is unchanged, and the new one comes after it
  pub added_apart : is_same_kind last.v chunk ≡ false → (middle : List (Spanned Chunk))
      → middle ≡ leading_run ++ with_span v last.span.start last.span.end ∷ [] → now ≡ middle ++ at_start chunk ∷ []
      → now ≡ with_chunk old (at_start chunk)
  added_apart h middle back is =
      is
      ∙ ap (λ l. l ++ at_start chunk ∷ [])
      (back
      ∙ ap (λ t. leading_run ++ with_span t last.span.start last.span.end ∷ [])
      (text ∙ not_lengthened last.v chunk h))
      ∙ append_assoc leading_run (last ∷ []) (at_start chunk ∷ [])
      ∙ sym
      (ap (λ l. with_chunk l (at_start chunk)) was ∙ with_chunk-last leading_run last (at_start chunk)
      ∙ ap (λ l. leading_run ++ l) (before_apart last (at_start chunk) h []))

-- the atoms of a UTF-8 text that isn't empty are one chunk, if this is so for one or more atoms of their kind
one_run : (kind : ℕ → Atom) (to : List ℕ → Chunk)
    (run : (c : ℕ) (cs : List ℕ) → chunks_of (map kind (c ∷ cs)) ≡ at_start (to (encode_utf8_all (c ∷ cs))) ∷ [])
    (text : List ℕ) → IsUtf8 text → not (length text == 0) ≡ true
    → chunks_of (map kind (chars text)) ≡ at_start (to text) ∷ []
one_run kind to run text utf8 some =
    elim (chars text) as (λ cs. chars text ≡ cs → chunks_of (map kind cs) ≡ at_start (to text) ∷ []) [
      | [] ↦ λ none. absurd (false≢true (subst (λ t. not (length t == 0) ≡ true) (no_characters text utf8 none) some))
      | c ∷ cs ↦ λ is. run c cs ∙ ap (λ t. at_start (to t) ∷ []) (ap encode_utf8_all (sym is) ∙ encodes-chars text utf8)
    ] refl

-- a chunk of UTF-8 text that has atoms is, with the span 0 to 0, the one chunk of its atoms
shown : (chunk : Chunk) → IsUtf8 (text_of chunk) → is_shown chunk ≡ true → chunks_of (atoms_of chunk) ≡ at_start chunk ∷ []
shown (Normal text) utf8 some = one_run Atom.normal Normal normal_run text utf8 some
shown (Verbatim text) utf8 some = one_run Atom.verbatim Verbatim verbatim_run text utf8 some
shown (Math text) utf8 some = ap (λ t. at_start (Math t) ∷ []) (encodes-chars text utf8)

-- a step of the loop: one more chunk is read
pub joined_more : (chunks : List (Spanned Chunk)) (i : ℕ) (d : Spanned Chunk) → i < length chunks
    → styled (take (i + 1) chunks) ≡ styled (take i chunks) ++ atoms_of (get_or chunks i d).v
joined_more chunks i d lt =
    ap styled (take_more chunks i d lt) ∙ flat_map-append (λ c. atoms_of c.v) (take i chunks) (get_or chunks i d ∷ [])
    ∙ ap (λ l. styled (take i chunks) ++ l) (append-nil _)

-- appending a chunk of UTF-8 text that has atoms gives the chunks of the longer styled text
pub joined_shown : (atoms : List Atom) (chunk : Chunk) (all more : List (Spanned Chunk)) → IsUtf8 (text_of chunk)
    → is_shown chunk ≡ true → all ≡ chunks_of atoms → more ≡ with_chunk all (at_start chunk)
    → more ≡ chunks_of (atoms ++ atoms_of chunk)
joined_shown atoms chunk all more utf8 some was is =
    is ∙ ap (λ l. with_chunk l (at_start chunk)) was
    ∙ sym (chunks_of-append atoms (atoms_of chunk) (at_start chunk) (shown chunk utf8 some))

-- a chunk without atoms does not change the chunks of a styled text
pub joined_hidden : (atoms : List Atom) (chunk : Chunk) → is_shown chunk ≡ false → chunks_of atoms ≡ chunks_of (atoms ++ atoms_of chunk)
joined_hidden atoms chunk none = sym (ap (λ l. chunks_of (atoms ++ l)) (hidden chunk none) ∙ ap chunks_of (append-nil atoms))
