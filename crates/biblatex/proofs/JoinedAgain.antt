-- Each valid styled text has chunks at one position, no two neighbours of which are both normal or both verbatim.
use Rattle.std.proofs.Common.{◌≡◌, ℕ, ◌≤◌, Bool, true, false, cond, List, [], ◌∷◌, ◌++◌, map, refl, sym, ap, ◌∙◌, subst, arith}
use Rattle.std.specs.Prelude.{encode_utf8_all, codes, ◌==◌}
use Rattle.std.specs.List.{AllByRecursion, flat_map}
use Rattle.std.specs.Str.{chars}
use Rattle.std.proofs.Math.Utf8.{scalar, scalars}
use Rattle.std.proofs.lemmas.Bool.{eqb-true, and_from, and_parts}
use Rattle.std.proofs.lemmas.Str.{chars-encodes}
use Rattle.bib_text.specs.declared.spanned.Spanned.{Spanned}
use Rattle.bib_chunks.specs.Styled.{Atom, atoms_of, styled}
use Rattle.bib_chunks.specs.Written.{is_grouping, is_reserved, char_spelling, spelling, lead, trail, is_open_after, written_chunk, written_chunks}
use Rattle.bib_chunks.specs.declared.chunk.Chunk.{Chunk}
use Rattle.bib_chunks.specs.declared.chunk.Chunk.TheVariants.{Normal, Verbatim, Math}
use Rattle.bib_chunks.proofs.TrimFacts.{scalars_parts}
use Rattle.bib_chunks.specs.Joined.{AreJoined, ArePlaced}

-- an atom whose characters are valid in a text
abbrev pub IsText : Atom → Type 0
IsText (Atom.normal c) = scalars (c ∷ []) ≡ true
IsText (Atom.verbatim c) = scalars (c ∷ []) ≡ true
IsText (Atom.math text) = scalars text ≡ true

-- normal characters, verbatim characters, or the text of one math chunk
data Run' : Type 0 where
  normal : List ℕ → Run'
  verbatim : List ℕ → Run'
  math : List ℕ → Run'

-- an atom before runs: a character is added to the first run if that is of its kind; math is a run of its own
abbrev put : Atom → List Run' → List Run'
put (Atom.normal c) [] = Run'.normal (c ∷ []) ∷ []
put (Atom.normal c) (Run'.normal cs ∷ rest) = Run'.normal (c ∷ cs) ∷ rest
put (Atom.normal c) (Run'.verbatim cs ∷ rest) = Run'.normal (c ∷ []) ∷ Run'.verbatim cs ∷ rest
put (Atom.normal c) (Run'.math cs ∷ rest) = Run'.normal (c ∷ []) ∷ Run'.math cs ∷ rest
put (Atom.verbatim c) [] = Run'.verbatim (c ∷ []) ∷ []
put (Atom.verbatim c) (Run'.normal cs ∷ rest) = Run'.verbatim (c ∷ []) ∷ Run'.normal cs ∷ rest
put (Atom.verbatim c) (Run'.verbatim cs ∷ rest) = Run'.verbatim (c ∷ cs) ∷ rest
put (Atom.verbatim c) (Run'.math cs ∷ rest) = Run'.verbatim (c ∷ []) ∷ Run'.math cs ∷ rest
put (Atom.math text) rest = Run'.math text ∷ rest

-- the runs of atoms: neighbouring characters of the same kind are grouped
abbrev grouped : List Atom → List Run'
grouped [] = []
grouped (a ∷ atoms) = put a (grouped atoms)

abbrev run_atoms : Run' → List Atom
run_atoms (Run'.normal cs) = map Atom.normal cs
run_atoms (Run'.verbatim cs) = map Atom.verbatim cs
run_atoms (Run'.math text) = Atom.math text ∷ []

abbrev run_chunk : Run' → Chunk
run_chunk (Run'.normal cs) = Normal (encode_utf8_all cs)
run_chunk (Run'.verbatim cs) = Verbatim (encode_utf8_all cs)
run_chunk (Run'.math text) = Math (encode_utf8_all text)

abbrev run_text : Run' → List ℕ
run_text (Run'.normal cs) = cs
run_text (Run'.verbatim cs) = cs
run_text (Run'.math text) = text

-- adding an atom before runs adds it to their atoms
put_says : (a : Atom) (runs : List Run') → flat_map run_atoms (put a runs) ≡ a ∷ flat_map run_atoms runs
put_says (Atom.normal c) [] = refl
put_says (Atom.normal c) (Run'.normal cs ∷ rest) = refl
put_says (Atom.normal c) (Run'.verbatim cs ∷ rest) = refl
put_says (Atom.normal c) (Run'.math cs ∷ rest) = refl
put_says (Atom.verbatim c) [] = refl
put_says (Atom.verbatim c) (Run'.normal cs ∷ rest) = refl
put_says (Atom.verbatim c) (Run'.verbatim cs ∷ rest) = refl
put_says (Atom.verbatim c) (Run'.math cs ∷ rest) = refl
put_says (Atom.math text) rest = refl

-- grouping atoms into runs keeps the atoms
grouped_says : (atoms : List Atom) → flat_map run_atoms (grouped atoms) ≡ atoms
grouped_says [] = refl
grouped_says (a ∷ atoms) = put_says a (grouped atoms) ∙ ap (λ rest. a ∷ rest) (grouped_says atoms)

-- the characters of each run are valid
abbrev AreRuns : List Run' → Type 0
AreRuns = AllByRecursion (λ r. scalars (run_text r) ≡ true)

one_more : (c : ℕ) (cs : List ℕ) → scalars (c ∷ []) ≡ true → scalars cs ≡ true → scalars (c ∷ cs) ≡ true
one_more c cs first rest = and_from (scalar c) (scalars cs) (and_parts (scalar c) (scalars []) first).0 rest

-- adding a valid atom keeps runs valid
put_valid : (a : Atom) (runs : List Run') → IsText a → AreRuns runs → AreRuns (put a runs)
put_valid (Atom.normal c) [] one all = (one, tt)
put_valid (Atom.normal c) (Run'.normal cs ∷ rest) one all = (one_more c cs one all.0, all.1)
put_valid (Atom.normal c) (Run'.verbatim cs ∷ rest) one all = (one, all)
put_valid (Atom.normal c) (Run'.math cs ∷ rest) one all = (one, all)
put_valid (Atom.verbatim c) [] one all = (one, tt)
put_valid (Atom.verbatim c) (Run'.normal cs ∷ rest) one all = (one, all)
put_valid (Atom.verbatim c) (Run'.verbatim cs ∷ rest) one all = (one_more c cs one all.0, all.1)
put_valid (Atom.verbatim c) (Run'.math cs ∷ rest) one all = (one, all)
put_valid (Atom.math text) rest one all = (one, all)

-- the runs of valid atoms are valid
grouped_valid : (atoms : List Atom) → AllByRecursion IsText atoms → AreRuns (grouped atoms)
grouped_valid [] all = tt
grouped_valid (a ∷ atoms) all = put_valid a (grouped atoms) all.0 (grouped_valid atoms all.1)

-- a chunk with an empty span at this position
abbrev here : ℕ → Run' → Spanned Chunk
here at r = record { v = run_chunk r; span = record { start = at; end = at } }

-- the chunk of a valid run has the atoms of the run
run_says : (at : ℕ) (r : Run') → scalars (run_text r) ≡ true → atoms_of (run_chunk r) ≡ run_atoms r
run_says at (Run'.normal cs) valid = ap (map Atom.normal) (chars-encodes cs valid)
run_says at (Run'.verbatim cs) valid = ap (map Atom.verbatim) (chars-encodes cs valid)
run_says at (Run'.math text) valid = ap (λ cs. Atom.math cs ∷ []) (chars-encodes text valid)

-- the chunks of valid runs have the atoms of the runs as their styled text
runs_say : (at : ℕ) (runs : List Run') → AreRuns runs → styled (map (here at) runs) ≡ flat_map run_atoms runs
runs_say at [] all = refl
runs_say at (r ∷ runs) all =
    ap (λ xs. xs ++ styled (map (here at) runs)) (run_says at r all.0)
    ∙ ap (λ xs. run_atoms r ++ xs) (runs_say at runs all.1)

-- adding an atom before runs keeps their chunks joined
put_joined : (at : ℕ) (a : Atom) (runs : List Run') → AreJoined (map (here at) runs) → AreJoined (map (here at) (put a runs))
put_joined at (Atom.normal c) [] all = tt
put_joined at (Atom.normal c) (Run'.normal cs ∷ []) all = tt
put_joined at (Atom.normal c) (Run'.normal cs ∷ next ∷ rest) all = all
put_joined at (Atom.normal c) (Run'.verbatim cs ∷ rest) all = (refl, all)
put_joined at (Atom.normal c) (Run'.math cs ∷ rest) all = (refl, all)
put_joined at (Atom.verbatim c) [] all = tt
put_joined at (Atom.verbatim c) (Run'.normal cs ∷ rest) all = (refl, all)
put_joined at (Atom.verbatim c) (Run'.verbatim cs ∷ []) all = tt
put_joined at (Atom.verbatim c) (Run'.verbatim cs ∷ next ∷ rest) all = all
put_joined at (Atom.verbatim c) (Run'.math cs ∷ rest) all = (refl, all)
put_joined at (Atom.math text) [] all = tt
put_joined at (Atom.math text) (next ∷ rest) all = (refl, all)

-- the chunks of grouped atoms are joined
grouped_joined : (at : ℕ) (atoms : List Atom) → AreJoined (map (here at) (grouped atoms))
grouped_joined at [] = tt
grouped_joined at (a ∷ atoms) = put_joined at a (grouped atoms) (grouped_joined at atoms)

-- chunks at one position lie in any span from there, in order
placed_here : (at high : ℕ) (runs : List Run') → at ≤ high → ArePlaced at high (map (here at) runs)
placed_here at high [] within = within
placed_here at high (r ∷ runs) within = (omega arith, omega arith, placed_here at high runs within)

-- chunks with this styled text at this position, as parsing could return them
pub record Again (atoms : List Atom) (at : ℕ) : Type 0 where
  pub chunks : List (Spanned Chunk)
  pub says : styled chunks ≡ atoms
  pub joined : AreJoined chunks
  pub placed : (high : ℕ) → at ≤ high → ArePlaced at high chunks

-- each valid styled text has such chunks at any position
pub joined_again : (atoms : List Atom) (at : ℕ) → AllByRecursion IsText atoms → Again atoms at
joined_again atoms at all = record {
  chunks = map (here at) (grouped atoms);
  says = runs_say at (grouped atoms) (grouped_valid atoms all) ∙ grouped_says atoms;
  joined = grouped_joined at atoms;
  placed = λ high within. placed_here at high (grouped atoms) within;
}

-- ---- the characters of the output

valid_by : (v grouping reserved tilde circumflex : Bool) (c : ℕ) → (c == 126) ≡ tilde → (c == 94) ≡ circumflex
    → scalars
    (cond grouping (92 ∷ c ∷ [])
    (cond v (c ∷ [])
    (cond reserved (92 ∷ c ∷ [])
    (cond tilde (codes "\\textasciitilde{}")
    (cond circumflex (codes "\\textasciicircum{}") (c ∷ [])))))) ≡ true
    → scalars (c ∷ []) ≡ true
valid_by v true reserved tilde circumflex c is is' all = (scalars_parts (92 ∷ []) (c ∷ []) all).1
valid_by true false reserved tilde circumflex c is is' all = all
valid_by false false true tilde circumflex c is is' all = (scalars_parts (92 ∷ []) (c ∷ []) all).1
valid_by false false false true circumflex c is is' all = subst (λ d. scalars (d ∷ []) ≡ true) (sym (eqb-true c 126 is)) refl
valid_by false false false false true c is is' all = subst (λ d. scalars (d ∷ []) ≡ true) (sym (eqb-true c 94 is')) refl
valid_by false false false false false c is is' all = all

valid_spelled : (v : Bool) (c : ℕ) → scalars (char_spelling v c) ≡ true → scalars (c ∷ []) ≡ true
unfolding char_spelling
valid_spelled v c all = valid_by v (is_grouping c) (is_reserved c) (c == 126) (c == 94) c refl refl all

valid_spelling : (v : Bool) (cs : List ℕ) → scalars (spelling v cs) ≡ true → scalars cs ≡ true
valid_spelling v [] all = refl
valid_spelling v (c ∷ cs) all =
    let parts = scalars_parts (char_spelling v c) (spelling v cs) all in
    one_more c cs (valid_spelled v c parts.0) (valid_spelling v cs parts.1)

text_atoms : (f : ℕ → Atom) → ((c : ℕ) → scalars (c ∷ []) ≡ true → IsText (f c)) → (cs : List ℕ) (atoms : List Atom)
    → scalars cs ≡ true → AllByRecursion IsText atoms → AllByRecursion IsText (map f cs ++ atoms)
text_atoms f valid [] atoms all rest = rest
text_atoms f valid (c ∷ cs) atoms all rest =
    let parts = scalars_parts (c ∷ []) cs all in
    (valid c parts.0, text_atoms f valid cs atoms parts.1 rest)

valid_chunk : (v : Bool) (chunk : Chunk) (atoms : List Atom) → scalars (written_chunk chunk v) ≡ true
    → AllByRecursion IsText atoms → AllByRecursion IsText (atoms_of chunk ++ atoms)
valid_chunk v (Normal text) atoms all rest = text_atoms Atom.normal (λ c is. is) (chars text) atoms (valid_spelling v (chars text) all) rest
valid_chunk v (Verbatim text) atoms all rest =
    text_atoms Atom.verbatim (λ c is. is) (chars text) atoms (valid_spelling v (chars text) all) rest
valid_chunk true (Math text) atoms all rest = (valid_spelling true (chars text) all, rest)
valid_chunk false (Math text) atoms all rest = (all, rest)

-- if the output for chunks is a valid text, so is each atom of the chunks
pub written_texts : (v o : Bool) (chunks : List (Spanned Chunk)) → scalars (written_chunks v o chunks) ≡ true
    → AllByRecursion IsText (styled chunks)
written_texts v o [] all = tt
written_texts v o (c ∷ rest) all =
    let following = scalars_parts (lead o c.v ++ written_chunk c.v v ++ trail c.v) (written_chunks v (is_open_after o c.v) rest) all in
    let before = scalars_parts (lead o c.v ++ written_chunk c.v v) (trail c.v) following.0 in
    let chunk = scalars_parts (lead o c.v) (written_chunk c.v v) before.0 in
    valid_chunk v c.v (styled rest) chunk.1 (written_texts v (is_open_after o c.v) rest following.1)
