-- The output for settled text parses back to that text.
use Rattle.std.proofs.Common.{◌≡◌, ℕ, Bool, true, false, not, ◌&&◌, cond, List, [], ◌∷◌, ◌++◌, map, refl, sym, ap, ◌∙◌, subst, append_assoc, inl, inr, Some, None, arith}
use Rattle.std.specs.Prelude.{◌==◌, codes}
use Rattle.std.specs.Char.{is_whitespace}
use Rattle.std.specs.List.{list_any, AllByRecursion}
use Rattle.std.specs.Str.{chars}
use Rattle.std.proofs.lemmas.Bool.{both_ways, ne_eqb, eq-eqb, or_parts, cases_Bool, cases_eq}
use Rattle.std.proofs.lemmas.List.{append-nil}
use lib.Utf8.{encode}
use Rattle.bib_chunks.specs.Styled.{Atom, styled, atoms_of}
use Rattle.bib_chunks.specs.Settled.{IsSettledAtom, AreApart, IsSettled, is_pair}
use Rattle.bib_chunks.specs.Written.{is_grouping, is_reserved, char_spelling, spelling, lead, trail, is_open_after, written_chunk, written_chunks}
use Rattle.bib_chunks.proofs.WrittenFacts.{spelled_grouping, spelled_verbatim, spelled_reserved, spelled_tilde, spelled_circumflex, spelled_other}
use Rattle.bib_chunks.specs.declared.chunk.Chunk.{Chunk}
use Rattle.bib_chunks.specs.declared.chunk.Chunk.TheVariants.{Normal, Verbatim, Math}
use Rattle.bib_text.specs.declared.spanned.Spanned.{Spanned}
use Rattle.bib_text.proofs.ListFacts.{some_same}
use Rattle.bib_contents.specs.Commands.{command_text, accents, symbols}
use Rattle.bib_contents.specs.Contents.{ContentUnit, Argument, is_escapable, is_escaped, is_space, is_blank, is_name_character, is_sign, is_mark, is_accent_letter, is_ordinary, begins, unit_spelling, fits, IsNext, meaning, character, depth_after, is_closable, inner_text, Reads}
use Rattle.bib_contents.specs.Contents.Reads.{end, next}

-- the depth of braces, given whether the pair of braces around verbatim chunks is open
abbrev pub depth_of : Bool → ℕ
depth_of true = 1
depth_of false = 0

-- the unit that a character is written as, before the rest of a text
pub record IsSpelt (v : Bool) (c : ℕ) (rest : List ℕ) : Type 0 where
  pub unit : ContentUnit
  pub right : fits v unit rest ≡ true
  pub spelt : unit_spelling unit ≡ char_spelling v c
  pub means : (depth : ℕ) → meaning depth unit [] ≡ character depth c ∷ []
  pub stays : (depth : ℕ) → depth_after depth unit ≡ depth
  pub closable : (depth : ℕ) → is_closable depth unit ≡ true
  pub holds : (text : List ℕ) → inner_text unit ≡ Some text → [] ≡ text

no_text : {P : Type 0} {text : List ℕ} → None ≡ Some text → P
no_text none = absurd (cc)

escaped_grouping : (v : Bool) (c : ℕ) → is_grouping c ≡ true → is_escaped v c ≡ true
unfolding is_grouping is_escaped is_escapable is_reserved
escaped_grouping v c grouping = grind arith

escaped_reserved : (c : ℕ) → is_reserved c ≡ true → is_escaped false c ≡ true
unfolding is_grouping is_escaped is_escapable is_reserved
escaped_reserved c reserved = grind arith

-- a character that is written after a backslash
spelt_escaped : (v : Bool) (c : ℕ) (rest : List ℕ) → is_escaped v c ≡ true → char_spelling v c ≡ 92 ∷ c ∷ [] → IsSpelt v c rest
spelt_escaped v c rest escaped spells = record {
  unit = ContentUnit.escaped c;
  right = escaped;
  spelt = sym spells;
  means = λ depth. refl;
  stays = λ depth. refl;
  closable = λ depth. refl;
  holds = λ text holds. no_text holds;
}

-- a character that is written unchanged
spelt_bare : (v : Bool) (c : ℕ) (rest : List ℕ) → char_spelling v c ≡ c ∷ [] → is_grouping c ≡ false
    → (not v && c == 36) ≡ false → (is_space c ≡ true → c ≡ 32)
    → (c ≡ 45 → begins (λ d. d == 45) rest ≡ false) → (is_space c ≡ true → begins is_space rest ≡ false) → IsSpelt v c rest
unfolding is_ordinary
spelt_bare v c rest spells grouping dollar settled hyphen space =
    elim (cases_eq c 45) [
      | inl same ↦ record {
        unit = ContentUnit.hyphens 1;
        right = rw (hyphen same) refl;
        spelt = ap (λ d. d ∷ []) (sym same) ∙ sym spells;
        means = λ depth. ap (λ d. character depth d ∷ []) (sym same);
        stays = λ depth. refl;
        closable = λ depth. refl;
        holds = λ text holds. no_text holds;
      }
      | inr differs ↦
          elim (cases_Bool (is_space c)) [
            | inl white ↦ record {
              unit = ContentUnit.spaces (c ∷ []);
              right = rw (white, space white) refl;
              spelt = sym spells;
              means = λ depth. ap (λ d. character depth d ∷ []) (sym (settled white));
              stays = λ depth. refl;
              closable = λ depth. refl;
              holds = λ text holds. no_text holds;
            }
            | inr dark ↦ record {
              unit = ContentUnit.other c;
              right = rw (ne_eqb c 45 differs, dark, grouping, dollar) refl;
              spelt = sym spells;
              means = λ depth. refl;
              stays = λ depth. refl;
              closable = λ depth. refl;
              holds = λ text holds. no_text holds;
            }
          ]
    ]

-- a command with an empty argument
abbrev signed : List ℕ → ContentUnit
signed name = ContentUnit.command name [] (Argument.braced [])

tilde_given : command_text (codes "textasciitilde") (Some []) ≡ 126 ∷ []
unfolding command_text accents symbols encode
tilde_given = refl

circumflex_given : command_text (codes "textasciicircum") (Some []) ≡ 94 ∷ []
unfolding command_text accents symbols encode
circumflex_given = refl

spelt_tilde : (c : ℕ) (rest : List ℕ) → c ≡ 126 → char_spelling false c ≡ codes "\\textasciitilde{}" → IsSpelt false c rest
unfolding is_escaped is_escapable is_grouping is_reserved is_blank is_sign is_mark is_accent_letter is_name_character is_space
spelt_tilde c rest is spells = record {
  unit = signed (codes "textasciitilde");
  right = refl;
  spelt = sym spells;
  means = λ depth. ap (λ cs. map (character depth) cs) tilde_given ∙ ap (λ d. character depth d ∷ []) (sym is);
  stays = λ depth. refl;
  closable = λ depth. refl;
  holds = λ text holds. some_same holds;
}

spelt_circumflex : (c : ℕ) (rest : List ℕ) → c ≡ 94 → char_spelling false c ≡ codes "\\textasciicircum{}" → IsSpelt false c rest
unfolding is_escaped is_escapable is_grouping is_reserved is_blank is_sign is_mark is_accent_letter is_name_character is_space
spelt_circumflex c rest is spells = record {
  unit = signed (codes "textasciicircum");
  right = refl;
  spelt = sym spells;
  means = λ depth. ap (λ cs. map (character depth) cs) circumflex_given ∙ ap (λ d. character depth d ∷ []) (sym is);
  stays = λ depth. refl;
  closable = λ depth. refl;
  holds = λ text holds. some_same holds;
}

dollar_reserved : (c : ℕ) → is_reserved c ≡ false → (c == 36) ≡ false
unfolding is_reserved
dollar_reserved c free = grind arith

-- each settled character is written as a unit, if no hyphen follows a hyphen and no white space a space
spelt : (v : Bool) (c : ℕ) (rest : List ℕ) → (is_space c ≡ true → c ≡ 32)
    → (c ≡ 45 → begins (λ d. d == 45) rest ≡ false) → (is_space c ≡ true → begins is_space rest ≡ false)
    → IsSpelt v c rest
spelt true c rest settled hyphen space =
    elim (cases_Bool (is_grouping c)) [
      | inl grouping ↦ spelt_escaped true c rest (escaped_grouping true c grouping) (spelled_grouping true c grouping)
      | inr other ↦ spelt_bare true c rest (spelled_verbatim true c other refl) other refl settled hyphen space
    ]
spelt false c rest settled hyphen space =
    elim (cases_Bool (is_grouping c)) [
      | inl grouping ↦ spelt_escaped false c rest (escaped_grouping false c grouping) (spelled_grouping false c grouping)
      | inr other ↦
          elim (cases_Bool (is_reserved c)) [
            | inl reserved ↦ spelt_escaped false c rest (escaped_reserved c reserved) (spelled_reserved false c other refl reserved)
            | inr free ↦
                elim (cases_eq c 126) [
                  | inl tilde ↦ spelt_tilde c rest tilde (spelled_tilde false c other refl free tilde)
                  | inr no_tilde ↦
                      elim (cases_eq c 94) [
                        | inl circumflex ↦ spelt_circumflex c rest circumflex
                            (spelled_circumflex false c other refl free no_tilde circumflex)
                        | inr no_circumflex ↦ spelt_bare false c rest
                            (spelled_other false c other refl free no_tilde no_circumflex) other
                            (dollar_reserved c free) settled hyphen space
                      ]
                ]
          ]
    ]

-- if `IsSpelt` holds for a character, its output, before text that parses, parses as the character
put : {v : Bool} {c : ℕ} {rest : List ℕ} {atoms : List Atom} (depth : ℕ) → IsSpelt v c rest → Reads v depth rest atoms
    → Reads v depth (char_spelling v c ++ rest) (character depth c ∷ atoms)
put {v} {c} {rest} {atoms} depth one read =
    let first : IsNext v one.unit (char_spelling v c ++ rest) rest =
    record { fits = one.right; spells = ap (λ cs. cs ++ rest) (sym one.spelt) } in
    let inside : (text : List ℕ) → inner_text one.unit ≡ Some text → Reads false 0 text [] =
    λ text holds. subst (λ t. Reads false 0 t []) (one.holds text holds) end in
    let following : Reads v (depth_after depth one.unit) rest atoms = subst (λ d. Reads v d rest atoms) (sym (one.stays depth)) read in
    subst (λ xs. Reads v depth (char_spelling v c ++ rest) (xs ++ atoms)) (one.means depth)
    (next first (one.closable depth) inside following)

-- if the next atom is a character of this kind (verbatim if `is_open`), it fails the test
abbrev pub NextFails : (ℕ → Bool) → Bool → List Atom → Type 0
NextFails test is_open [] = Unit {0}
NextFails test true (Atom.verbatim c ∷ rest) = test c ≡ false
NextFails test false (Atom.normal c ∷ rest) = test c ≡ false
NextFails test true (Atom.normal c ∷ rest) = Unit {0}
NextFails test false (Atom.verbatim c ∷ rest) = Unit {0}
NextFails test is_open (Atom.math text ∷ rest) = Unit {0}

-- a test that fails for a backslash, a brace and a dollar sign
pub record IsOfCharacters (test : ℕ → Bool) : Type 0 where
  pub slash : test 92 ≡ false
  pub opens : test 123 ≡ false
  pub closes : test 125 ≡ false
  pub dollar : test 36 ≡ false

begins_by : (test : ℕ → Bool) (v grouping reserved tilde circumflex : Bool) (c : ℕ) (rest : List ℕ) → test 92 ≡ false → test c ≡ false
    → begins test
    (cond grouping (92 ∷ c ∷ [])
    (cond v (c ∷ [])
    (cond reserved (92 ∷ c ∷ [])
    (cond tilde (codes "\\textasciitilde{}")
    (cond circumflex (codes "\\textasciicircum{}") (c ∷ []))))) ++ rest) ≡ false
begins_by test v true reserved tilde circumflex c rest slash fails = slash
begins_by test true false reserved tilde circumflex c rest slash fails = fails
begins_by test false false true tilde circumflex c rest slash fails = slash
begins_by test false false false true circumflex c rest slash fails = slash
begins_by test false false false false true c rest slash fails = slash
begins_by test false false false false false c rest slash fails = fails

-- for a test that a backslash fails: the output for a character that fails it doesn't begin with one that passes it
begins_spelled : (test : ℕ → Bool) (v : Bool) (c : ℕ) (rest : List ℕ) → test 92 ≡ false → test c ≡ false
    → begins test (char_spelling v c ++ rest) ≡ false
unfolding char_spelling
begins_spelled test v c rest slash fails = begins_by test v (is_grouping c) (is_reserved c) (c == 126) (c == 94) c rest slash fails

-- the same for the output of several characters, if the next atom fails the test
begins_text : (test : ℕ → Bool) → IsOfCharacters test → (v o : Bool) (cs : List ℕ) (atoms : List Atom) (rest : List ℕ)
    → (NextFails test o atoms → begins test rest ≡ false)
    → NextFails test o (map (character (depth_of o)) cs ++ atoms) → begins test (spelling v cs ++ rest) ≡ false
begins_text test of v o [] atoms rest following fails = following fails
begins_text test of v true (c ∷ cs) atoms rest following fails =
    rw (append_assoc (char_spelling v c) (spelling v cs) rest)
    (begins_spelled test v c (spelling v cs ++ rest) of.slash fails)
begins_text test of v false (c ∷ cs) atoms rest following fails =
    rw (append_assoc (char_spelling v c) (spelling v cs) rest)
    (begins_spelled test v c (spelling v cs ++ rest) of.slash fails)

-- the same for the output of a chunk before others
begins_chunk : (test : ℕ → Bool) → IsOfCharacters test → (v o : Bool) (chunk : Chunk) (rest : List (Spanned Chunk))
    → ((b : Bool) → NextFails test b (styled rest) → begins test (written_chunks v b rest) ≡ false)
    → NextFails test o (atoms_of chunk ++ styled rest)
    → begins test
    (lead o chunk ++ written_chunk chunk v ++ trail chunk ++ written_chunks v (is_open_after o chunk) rest)
    ≡ false
begins_chunk test of v true (Normal text) rest following fails = of.closes
begins_chunk test of v false (Normal text) rest following fails =
    rw (append-nil (spelling v (chars text)))
    (begins_text test of v false (chars text) (styled rest) (written_chunks v false rest) (following false) fails)
begins_chunk test of v false (Verbatim text) rest following fails = of.opens
begins_chunk test of v true (Verbatim text) rest following fails =
    rw (append-nil (spelling v (chars text)))
    (begins_text test of v true (chars text) (styled rest) (written_chunks v true rest) (following true) fails)
begins_chunk test of v o (Math text) rest following fails = of.dollar

-- the output for chunks doesn't begin with a character that passes the test, if the next atom fails it
begins_written : (test : ℕ → Bool) → IsOfCharacters test → (v o : Bool) (chunks : List (Spanned Chunk))
    → NextFails test o (styled chunks) → begins test (written_chunks v o chunks) ≡ false
begins_written test of v true [] fails = of.closes
begins_written test of v false [] fails = refl
begins_written test of v o (c ∷ rest) fails = begins_chunk test of v o c.v rest (λ b. begins_written test of v b rest) fails

-- the tests for hyphens and for white space fail for a backslash, a brace and a dollar sign
hyphens_of : IsOfCharacters (λ c. c == 45)
hyphens_of = record { slash = refl; opens = refl; closes = refl; dollar = refl }

spaces_of : IsOfCharacters is_space
unfolding is_space
spaces_of = record { slash = refl; opens = refl; closes = refl; dollar = refl }

-- two characters that are no pair are not both hyphens
hyphen_apart : (c d : ℕ) → c ≡ 45 → is_pair c d ≡ false → (d == 45) ≡ false
hyphen_apart c d is apart =
    let shown : is_pair 45 d ≡ false = subst (λ x. is_pair x d ≡ false) is apart in
    (or_parts (45 == 32 && d == 32) (45 == 45 && d == 45) shown).1

space_apart : (c d : ℕ) → c ≡ 32 → is_pair c d ≡ false → (d == 32) ≡ false
space_apart c d is apart =
    let shown : is_pair 32 d ≡ false = subst (λ x. is_pair x d ≡ false) is apart in
    (or_parts (32 == 32 && d == 32) (32 == 45 && d == 45) shown).0

-- a settled character other than a space is not white space
no_white : (d : ℕ) → (is_space d ≡ true → d ≡ 32) → (d == 32) ≡ false → is_space d ≡ false
no_white d settled other =
    elim (cases_Bool (is_space d)) [
      | inl white ↦ absurd (both_ways (d == 32) other (eq-eqb d 32 (settled white)))
      | inr dark ↦ dark
    ]

white_32 : (c : ℕ) → (is_whitespace c ≡ true → c ≡ 32) → is_space c ≡ true → c ≡ 32
unfolding is_space
white_32 c settled white = settled white

hyphens_next : (o : Bool) (c : ℕ) (atoms : List Atom) → AreApart (character (depth_of o) c ∷ atoms) → c ≡ 45
    → NextFails (λ d. d == 45) o atoms
hyphens_next o c [] apart is = tt
hyphens_next true c (Atom.verbatim d ∷ rest) apart is = hyphen_apart c d is apart.0
hyphens_next false c (Atom.normal d ∷ rest) apart is = hyphen_apart c d is apart.0
hyphens_next true c (Atom.normal d ∷ rest) apart is = tt
hyphens_next false c (Atom.verbatim d ∷ rest) apart is = tt
hyphens_next o c (Atom.math text ∷ rest) apart is = tt

spaces_next : (v o : Bool) (c : ℕ) (atoms : List Atom) → AreApart (character (depth_of o) c ∷ atoms)
    → AllByRecursion (IsSettledAtom v) atoms → c ≡ 32 → NextFails is_space o atoms
spaces_next v o c [] apart each is = tt
spaces_next v true c (Atom.verbatim d ∷ rest) apart each is = no_white d (white_32 d each.0) (space_apart c d is apart.0)
spaces_next v false c (Atom.normal d ∷ rest) apart each is = no_white d (white_32 d each.0) (space_apart c d is apart.0)
spaces_next v true c (Atom.normal d ∷ rest) apart each is = tt
spaces_next v false c (Atom.verbatim d ∷ rest) apart each is = tt
spaces_next v o c (Atom.math text ∷ rest) apart each is = tt

settled_white : (v o : Bool) (c : ℕ) → IsSettledAtom v (character (depth_of o) c) → is_space c ≡ true → c ≡ 32
settled_white v true c settled = white_32 c settled
settled_white v false c settled = white_32 c settled

apart_rest : (a : Atom) (atoms : List Atom) → AreApart (a ∷ atoms) → AreApart atoms
apart_rest a [] apart = tt
apart_rest a (b ∷ rest) apart = apart.1

-- the output for settled text, before that for other chunks that parses back, parses as the characters of the text and those chunks
read_text : (v o : Bool) (cs : List ℕ) (chunks : List (Spanned Chunk))
    → AllByRecursion (IsSettledAtom v) (map (character (depth_of o)) cs ++ styled chunks)
    → AreApart (map (character (depth_of o)) cs ++ styled chunks)
    → Reads v (depth_of o) (written_chunks v o chunks) (styled chunks)
    → Reads v (depth_of o) (spelling v cs ++ written_chunks v o chunks) (map (character (depth_of o)) cs ++ styled chunks)
read_text v o [] chunks each apart read = read
read_text v o (c ∷ cs) chunks each apart read =
    let atoms = map (character (depth_of o)) cs ++ styled chunks in
    let rest = spelling v cs ++ written_chunks v o chunks in
    let settled = settled_white v o c each.0 in
    let following : Reads v (depth_of o) rest atoms =
    read_text v o cs chunks each.1 (apart_rest (character (depth_of o) c) atoms apart) read in
    let one : IsSpelt v c rest = spelt v c rest settled
    (λ is.
    begins_text (λ d. d == 45) hyphens_of v o cs (styled chunks) (written_chunks v o chunks)
    (begins_written (λ d. d == 45) hyphens_of v o chunks) (hyphens_next o c atoms apart is))
    (λ white.
    begins_text is_space spaces_of v o cs (styled chunks) (written_chunks v o chunks)
    (begins_written is_space spaces_of v o chunks) (spaces_next v o c atoms apart each.1 (settled white)))
    in
    rw (append_assoc (char_spelling v c) (spelling v cs) (written_chunks v o chunks)) (put (depth_of o) one following)

-- a closing brace at depth 1, before text that parses at depth 0, parses
read_closing : {v : Bool} {rest : List ℕ} {atoms : List Atom} → Reads v 0 rest atoms → Reads v 1 (125 ∷ rest) atoms
read_closing {v} {rest} read =
    next {u = ContentUnit.closing} {inner = []} (record { fits = refl; spells = refl }) refl
    (λ text holds. no_text holds) read

-- an opening brace at depth 0, before text that parses at depth 1, parses
read_opening : {v : Bool} {rest : List ℕ} {atoms : List Atom} → Reads v 1 rest atoms → Reads v 0 (123 ∷ rest) atoms
read_opening {v} {rest} read =
    next {u = ContentUnit.opening} {inner = []} (record { fits = refl; spells = refl }) refl
    (λ text holds. no_text holds) read

-- outside verbatim fields, math without a dollar sign, before text that parses, parses as math
read_math : (depth : ℕ) (text rest : List ℕ) (atoms : List Atom) → list_any (λ c. c == 36) text ≡ false
    → Reads false depth rest atoms → Reads false depth (36 ∷ (text ++ 36 ∷ rest)) (Atom.math text ∷ atoms)
read_math depth text rest atoms none read =
    next {u = ContentUnit.formula text} {inner = []}
    (record { fits = rw none refl; spells = ap (λ cs. 36 ∷ cs) (sym (append_assoc text (36 ∷ []) rest)) }) refl
    (λ t holds. no_text holds) read

each_rest : (v o : Bool) (cs : List ℕ) (atoms : List Atom)
    → AllByRecursion (IsSettledAtom v) (map (character (depth_of o)) cs ++ atoms)
    → AllByRecursion (IsSettledAtom v) atoms
each_rest v o [] atoms each = each
each_rest v o (c ∷ cs) atoms each = each_rest v o cs atoms each.1

apart_after : (o : Bool) (cs : List ℕ) (atoms : List Atom) → AreApart (map (character (depth_of o)) cs ++ atoms) → AreApart atoms
apart_after o [] atoms apart = apart
apart_after o (c ∷ cs) atoms apart =
    apart_after o cs atoms (apart_rest (character (depth_of o) c) (map (character (depth_of o)) cs ++ atoms) apart)

-- the output for a settled chunk, before that for other chunks that parses back, parses as the atoms of the chunk and those chunks
read_chunk : (v o : Bool) (chunk : Chunk) (rest : List (Spanned Chunk))
    → AllByRecursion (IsSettledAtom v) (atoms_of chunk ++ styled rest) → AreApart (atoms_of chunk ++ styled rest)
    →
    ((b : Bool) → AllByRecursion (IsSettledAtom v) (styled rest) → AreApart (styled rest)
    → Reads v (depth_of b) (written_chunks v b rest) (styled rest))
    → Reads v (depth_of o)
    (lead o chunk ++ written_chunk chunk v ++ trail chunk ++ written_chunks v (is_open_after o chunk) rest)
    (atoms_of chunk ++ styled rest)
read_chunk v false (Normal text) rest each apart following =
    rw (append-nil (spelling v (chars text)))
    (read_text v false (chars text) rest each apart
    (following false (each_rest v false (chars text) (styled rest) each)
    (apart_after false (chars text) (styled rest) apart)))
read_chunk v true (Normal text) rest each apart following =
    read_closing
    (rw (append-nil (spelling v (chars text)))
    (read_text v false (chars text) rest each apart
    (following false (each_rest v false (chars text) (styled rest) each)
    (apart_after false (chars text) (styled rest) apart))))
read_chunk v true (Verbatim text) rest each apart following =
    rw (append-nil (spelling v (chars text)))
    (read_text v true (chars text) rest each apart
    (following true (each_rest v true (chars text) (styled rest) each)
    (apart_after true (chars text) (styled rest) apart)))
read_chunk v false (Verbatim text) rest each apart following =
    read_opening
    (rw (append-nil (spelling v (chars text)))
    (read_text v true (chars text) rest each apart
    (following true (each_rest v true (chars text) (styled rest) each)
    (apart_after true (chars text) (styled rest) apart))))
read_chunk true o (Math text) rest each apart following = absurd (both_ways true each.0.0 refl)
read_chunk false o (Math text) rest each apart following =
    rw (append_assoc (chars text) (36 ∷ []) (written_chunks false o rest))
    (read_math (depth_of o) (chars text) (written_chunks false o rest) (styled rest) each.0.1
    (following o each.1 (apart_rest (Atom.math (chars text)) (styled rest) apart)))

-- the output for settled chunks parses back to their styled text
pub read_written : (v o : Bool) (chunks : List (Spanned Chunk)) → AllByRecursion (IsSettledAtom v) (styled chunks)
    → AreApart (styled chunks) → Reads v (depth_of o) (written_chunks v o chunks) (styled chunks)
read_written v true [] each apart = read_closing end
read_written v false [] each apart = end
read_written v o (c ∷ rest) each apart = read_chunk v o c.v rest each apart (λ b. read_written v b rest)

-- the output for the settled chunks of a value parses back to their styled text
pub reread : (v : Bool) (chunks : List (Spanned Chunk)) → IsSettled (styled chunks) v
    → Reads v 0 (written_chunks v false chunks) (styled chunks)
reread v chunks settled = read_written v false chunks settled.each settled.apart
