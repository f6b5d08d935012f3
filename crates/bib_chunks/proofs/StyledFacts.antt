-- Facts about formatted styled texts.
use Rattle.std.proofs.Common.{◌≡◌, ℕ, ◌+◌, ◌<◌, Bool, true, false, not, List, [], ◌∷◌, ◌++◌, length, get_or, drop, map, refl, sym, ap, ◌∙◌, subst, arith, append_assoc}
use Rattle.std.specs.Prelude.{◌==◌, encode_utf8_all}
use Rattle.std.specs.Char.{is_whitespace}
use Rattle.std.specs.Str.{IsUtf8, chars}
use Rattle.std.proofs.lemmas.Bool.{false≢true, ne_eqb}
use Rattle.std.proofs.lemmas.List.{drop_more}
use Rattle.std.proofs.lemmas.Str.{encodes-chars, chars-nil}
use Rattle.bib_chunks.specs.declared.chunk.Chunk.{Chunk}
use Rattle.bib_chunks.specs.declared.chunk.Chunk.TheVariants.{Normal, Verbatim, Math}
use Rattle.bib_text.specs.declared.spanned.Spanned.{Spanned}
use Rattle.bib_text.proofs.TextFacts.{written_more}
use Rattle.bib_chunks.specs.Formatted.{flowing, char_on_line, ends_in_space, space_after, formatted_chunk, formatted_atoms}
use Rattle.bib_chunks.specs.Styled.{Atom, atoms_of, styled, text_of, is_shown}
use Rattle.bib_chunks.proofs.FormattedFacts.{ends-append}

-- normal atoms are formatted on one line
normal_text : (space : Bool) (cs : List ℕ) (more : List Atom)
    → formatted_atoms space (map Atom.normal cs ++ more)
    ≡ flowing space cs ++ formatted_atoms (ends_in_space space (flowing space cs)) more
normal_text space [] more = refl
normal_text space (c ∷ cs) more =
    let one = char_on_line space c in
    ap (λ xs. one ++ xs) (normal_text (ends_in_space space one) cs more)
    ∙ sym (append_assoc one (flowing (ends_in_space space one) cs) _)
    ∙ ap (λ b. (one ++ flowing (ends_in_space space one) cs) ++ formatted_atoms b more)
    (sym (ends-append space one (flowing (ends_in_space space one) cs)))

-- verbatim atoms are formatted as their characters
verbatim_text : (space : Bool) (cs : List ℕ) (more : List Atom)
    → formatted_atoms space (map Atom.verbatim cs ++ more) ≡ cs ++ formatted_atoms (ends_in_space space cs) more
verbatim_text space [] more = refl
verbatim_text space (c ∷ cs) more = ap (λ xs. c ∷ xs) (verbatim_text (is_whitespace c) cs more)

-- a UTF-8 text without characters is empty
pub no_characters : (text : List ℕ) → IsUtf8 text → chars text ≡ [] → text ≡ []
no_characters text utf8 none = sym (encodes-chars text utf8) ∙ ap encode_utf8_all none

-- an empty text has no characters
pub no_text : (text : List ℕ) → not (length text == 0) ≡ false → chars text ≡ []
no_text [] none = chars-nil
no_text (b ∷ text) none = absurd (false≢true (sym none ∙ ap not (ne_eqb _ _ (λ e. omega arith))))

-- whether a non-empty UTF-8 text ends in white space doesn't depend on the text before it
same_end : (space : Bool) (text : List ℕ) → IsUtf8 text → not (length text == 0) ≡ true
    → ends_in_space space (chars text) ≡ ends_in_space false (chars text)
same_end space text utf8 some =
    elim (chars text) as (λ cs. chars text ≡ cs → ends_in_space space cs ≡ ends_in_space false cs) [
      | [] ↦ λ none. absurd (false≢true (subst (λ t. not (length t == 0) ≡ true) (no_characters text utf8 none) some))
      | c ∷ cs ↦ λ is. refl
    ] refl

-- a chunk of UTF-8 text that has atoms is formatted as they are
chunk_text : (space : Bool) (v : Chunk) (more : List Atom) → IsUtf8 (text_of v) → is_shown v ≡ true
    → formatted_atoms space (atoms_of v ++ more)
    ≡ formatted_chunk (λ cs. cs) space v ++ formatted_atoms (space_after space v) more
chunk_text space (Normal text) more utf8 shown = normal_text space (chars text) more
chunk_text space (Verbatim text) more utf8 shown =
    verbatim_text space (chars text) more
    ∙ ap (λ b. chars text ++ formatted_atoms b more) (same_end space text utf8 shown)
chunk_text space (Math text) more utf8 shown = ap (λ xs. 36 ∷ xs) (sym (append_assoc (chars text) (36 ∷ []) _))

-- a chunk that isn't shown has no atoms
pub hidden : (v : Chunk) → is_shown v ≡ false → atoms_of v ≡ []
hidden (Normal text) none = ap (map Atom.normal) (no_text text none)
hidden (Verbatim text) none = ap (map Atom.verbatim) (no_text text none)
hidden (Math text) none = absurd (false≢true (sym none))

-- the styled text of the chunks from an index on is the atoms of the chunk there and those of the chunks after it
styled_from : (chunks : List (Spanned Chunk)) (i : ℕ) (x : Spanned Chunk) → i < length chunks → x ≡ get_or chunks i x
    → styled (drop i chunks) ≡ atoms_of x.v ++ styled (drop (i + 1) chunks)
styled_from chunks i x within is = ap styled (drop_more chunks i x within ∙ ap (λ y. y ∷ drop (i + 1) chunks) (sym is))

-- a step of the loop: a chunk of UTF-8 text that has atoms is written
pub shown_part : (space following : Bool) (chunks : List (Spanned Chunk)) (i : ℕ) (x : Spanned Chunk)
    (out more total : List ℕ) → i < length chunks → x ≡ get_or chunks i x
    → IsUtf8 (text_of x.v) → is_shown x.v ≡ true → more ≡ out ++ encode_utf8_all (formatted_chunk (λ cs. cs) space x.v)
    → following ≡ space_after space x.v
    → out ++ encode_utf8_all (formatted_atoms space (styled (drop i chunks))) ≡ total
    → more ++ encode_utf8_all (formatted_atoms following (styled (drop (i + 1) chunks))) ≡ total
shown_part space following chunks i x out more total within is utf8 shown written decides so_far =
    let rest = styled (drop (i + 1) chunks) in
    written_more out more total (formatted_chunk (λ cs. cs) space x.v) (formatted_atoms space (styled (drop i chunks)))
    (formatted_atoms following rest) written
    (ap (formatted_atoms space) (styled_from chunks i x within is) ∙ chunk_text space x.v rest utf8 shown
    ∙ ap (λ b. formatted_chunk (λ cs. cs) space x.v ++ formatted_atoms b rest) (sym decides))
    so_far

-- a step of the loop: a chunk is skipped
pub hidden_part : (space : Bool) (chunks : List (Spanned Chunk)) (i : ℕ) (x : Spanned Chunk) (out total : List ℕ)
    → i < length chunks → x ≡ get_or chunks i x → is_shown x.v ≡ false
    → out ++ encode_utf8_all (formatted_atoms space (styled (drop i chunks))) ≡ total
    → out ++ encode_utf8_all (formatted_atoms space (styled (drop (i + 1) chunks))) ≡ total
hidden_part space chunks i x out total within is none so_far =
    ap (λ l. out ++ encode_utf8_all (formatted_atoms space l))
    (sym (styled_from chunks i x within is ∙ ap (λ l. l ++ styled (drop (i + 1) chunks)) (hidden x.v none)))
    ∙ so_far
