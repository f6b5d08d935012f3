-- The braces in the output for settled text are balanced.
use Rattle.std.proofs.Common.{◌≡◌, ℕ, Bool, true, false, cond, List, [], ◌∷◌, ◌++◌, map, refl, sym, subst, append_assoc, arith}
use Rattle.std.specs.Prelude.{encode_utf8_all, codes, ◌==◌}
use Rattle.std.specs.List.{list_all, AllByRecursion}
use Rattle.std.specs.Str.{chars}
use Rattle.std.proofs.lemmas.Bool.{both_ways}
use Rattle.std.proofs.lemmas.Str.{encodes-append}
use Rattle.std.proofs.lemmas.List.{append-nil}
use Rattle.bib_text.specs.Places.{Place, CharAt}
use Rattle.bib_text.specs.Braces.{is_plain, Parts}
use Rattle.bib_text.specs.Braces.Parts.{none, plain, hidden, nested}
use Rattle.bib_text.specs.declared.spanned.Spanned.{Spanned}
use Rattle.bib_chunks.specs.declared.chunk.Chunk.{Chunk}
use Rattle.bib_chunks.specs.declared.chunk.Chunk.TheVariants.{Normal, Verbatim, Math}
use Rattle.bib_chunks.specs.Styled.{Atom, styled, atoms_of}
use Rattle.bib_chunks.specs.Settled.{IsSettledAtom}
use Rattle.bib_chunks.specs.Written.{is_grouping, is_reserved, char_spelling, spelling, lead, trail, is_open_after, written_chunk, written_chunks}
use Rattle.biblatex.proofs.StandsFacts.{Stands, stands_none, stands_split, stands_chars, parts_stand, parts_append, parts_plain}

-- these are the characters from one place to the other
abbrev pub Spells : Place → List ℕ → Place → Type 0
Spells u cs v = Stands u (encode_utf8_all cs) v

-- a concatenation of characters can be split at a place
pub spells_split : (xs ys : List ℕ) {u w : Place} → Spells u (xs ++ ys) w → (v : Place) × Spells u xs v × Spells v ys w
spells_split xs ys {u} {w} spells =
    stands_split (encode_utf8_all xs) (encode_utf8_all ys) (subst (λ bs. Stands u bs w) (encodes-append xs ys) spells)

plain_grouping : (c : ℕ) → is_grouping c ≡ false → is_plain c ≡ true
unfolding is_grouping
plain_grouping c other = grind arith

-- an escaped character is balanced
parts_hidden : (c : ℕ) {u v : Place} → Spells u (92 ∷ c ∷ []) v → Parts u v
parts_hidden c {u} {v} spells =
    let first = stands_chars 92 (c ∷ []) spells in
    let second = stands_chars c [] first.2 in
    hidden first.1 second.1 (subst (λ p. Parts second.0 p) (sym (stands_none second.2)) none)

-- the braces of a command with an empty argument are balanced
parts_command : (c : ℕ) (cs : List ℕ) {u v : Place} → list_all is_plain cs ≡ true → Spells u (92 ∷ c ∷ (cs ++ 123 ∷ 125 ∷ [])) v → Parts u v
parts_command c cs all spells =
    let first = stands_chars 92 (c ∷ (cs ++ 123 ∷ 125 ∷ [])) spells in
    let second = stands_chars c (cs ++ 123 ∷ 125 ∷ []) first.2 in
    let third = spells_split cs (123 ∷ 125 ∷ []) second.2 in
    let fourth = stands_chars 123 (125 ∷ []) third.2 in
    let fifth = stands_chars 125 [] fourth.2 in
    hidden first.1 second.1
    (parts_append (parts_plain cs all third.1)
    (nested fourth.1 none fifth.1 (subst (λ p. Parts fifth.0 p) (sym (stands_none fifth.2)) none)))

parts_by : (v grouping reserved tilde circumflex : Bool) (c : ℕ) → is_grouping c ≡ grouping → {u w : Place}
    → Spells u
    (cond grouping (92 ∷ c ∷ [])
    (cond v (c ∷ [])
    (cond reserved (92 ∷ c ∷ [])
    (cond tilde (codes "\\textasciitilde{}") (cond circumflex (codes "\\textasciicircum{}") (c ∷ []))))))
    w → Parts u w
parts_by v true reserved tilde circumflex c is spells = parts_hidden c spells
parts_by true false reserved tilde circumflex c is spells = parts_plain (c ∷ []) (rw (plain_grouping c is) refl) spells
parts_by false false true tilde circumflex c is spells = parts_hidden c spells
parts_by false false false true circumflex c is spells = parts_command 116 (codes "extasciitilde") refl spells
parts_by false false false false true c is spells = parts_command 116 (codes "extasciicircum") refl spells
parts_by false false false false false c is spells = parts_plain (c ∷ []) (rw (plain_grouping c is) refl) spells

-- the output for a character is balanced
parts_spelled : (v : Bool) (c : ℕ) {u w : Place} → Spells u (char_spelling v c) w → Parts u w
unfolding char_spelling
parts_spelled v c spells = parts_by v (is_grouping c) (is_reserved c) (c == 126) (c == 94) c refl spells

-- the output for characters is balanced
parts_spelling : (v : Bool) (cs : List ℕ) {u w : Place} → Spells u (spelling v cs) w → Parts u w
parts_spelling v [] {u} {w} spells = subst (λ p. Parts u p) (sym (stands_none spells)) none
parts_spelling v (c ∷ cs) spells =
    let cut = spells_split (char_spelling v c) (spelling v cs) spells in
    parts_append (parts_spelled v c cut.1) (parts_spelling v cs cut.2)

-- an empty text between a text and the rest can be left out
text_before : {u w : Place} (text rest : List ℕ) → Spells u (text ++ [] ++ rest) w → Spells u (text ++ rest) w
text_before {u} {w} text rest spells = subst (λ t. Spells u (t ++ rest) w) (append-nil text) spells

math_before : {u w : Place} (text rest : List ℕ) → Spells u (36 ∷ (text ++ (36 ∷ []) ++ rest)) w → Spells u (36 ∷ (text ++ 36 ∷ rest)) w
math_before {u} {w} text rest spells = subst (λ t. Spells u (36 ∷ t) w) (append_assoc text (36 ∷ []) rest) spells

-- balanced text; if the pair of braces around verbatim chunks is open, balanced text, its closing brace, and balanced text
abbrev pub PartsOf : Bool → Place → Place → Type 0
PartsOf false u w = Parts u w
PartsOf true u w = (x : Place) × (y : Place) × Parts u x × CharAt x 125 y × Parts y w

parts_before : (o : Bool) {u v : Place} (w : Place) → Parts u v → PartsOf o v w → PartsOf o u w
parts_before false w first more = parts_append first more
parts_before true w first (x, y, inner, closes, rest) = (x, y, parts_append first inner, closes, rest)

settled_rest : (v : Bool) (f : ℕ → Atom) (cs : List ℕ) (atoms : List Atom)
    → AllByRecursion (IsSettledAtom v) (map f cs ++ atoms) → AllByRecursion (IsSettledAtom v) atoms
settled_rest v f [] atoms each = each
settled_rest v f (c ∷ cs) atoms each = settled_rest v f cs atoms each.1

-- the output for a settled chunk and then for settled others is balanced if that for the others is
parts_chunk : (v o : Bool) (chunk : Chunk) (rest : List (Spanned Chunk)) {u w : Place}
    → AllByRecursion (IsSettledAtom v) (atoms_of chunk ++ styled rest)
    → ((b : Bool) (x : Place) → AllByRecursion (IsSettledAtom v) (styled rest) → Spells x (written_chunks v b rest) w → PartsOf b x w)
    → Spells u (lead o chunk ++ written_chunk chunk v ++ trail chunk ++ written_chunks v (is_open_after o chunk) rest) w → PartsOf o u w
parts_chunk v false (Normal text) rest each following spells =
    let cut =
    spells_split (spelling v (chars text)) (written_chunks v false rest)
    (text_before (spelling v (chars text)) (written_chunks v false rest) spells) in
    parts_append (parts_spelling v (chars text) cut.1)
    (following false _ (settled_rest v Atom.normal (chars text) (styled rest) each) cut.2)
parts_chunk v true (Normal text) rest each following spells =
    let first = stands_chars 125 (spelling v (chars text) ++ [] ++ written_chunks v false rest) spells in
    let cut =
    spells_split (spelling v (chars text)) (written_chunks v false rest)
    (text_before (spelling v (chars text)) (written_chunks v false rest) first.2) in (
      _,
      first.0,
      none,
      first.1,
      parts_append (parts_spelling v (chars text) cut.1)
          (following false _ (settled_rest v Atom.normal (chars text) (styled rest) each) cut.2),
    )
parts_chunk v true (Verbatim text) rest each following spells =
    let cut =
    spells_split (spelling v (chars text)) (written_chunks v true rest)
    (text_before (spelling v (chars text)) (written_chunks v true rest) spells) in
    parts_before true _ (parts_spelling v (chars text) cut.1)
    (following true _ (settled_rest v Atom.verbatim (chars text) (styled rest) each) cut.2)
parts_chunk v false (Verbatim text) rest each following spells =
    let first = stands_chars 123 (spelling v (chars text) ++ [] ++ written_chunks v true rest) spells in
    let cut =
    spells_split (spelling v (chars text)) (written_chunks v true rest)
    (text_before (spelling v (chars text)) (written_chunks v true rest) first.2) in
    let (x, y, inner, closes, more) =
    parts_before true _ (parts_spelling v (chars text) cut.1)
    (following true _ (settled_rest v Atom.verbatim (chars text) (styled rest) each) cut.2) in
    nested first.1 inner closes more
parts_chunk true o (Math text) rest each following spells = absurd (both_ways true each.0.0 refl)
parts_chunk false o (Math text) rest each following spells =
    let first =
    stands_chars 36 (chars text ++ 36 ∷ written_chunks false o rest)
    (math_before (chars text) (written_chunks false o rest) spells) in
    let cut = spells_split (chars text) (36 ∷ written_chunks false o rest) first.2 in
    let last = stands_chars 36 (written_chunks false o rest) cut.2 in
    let math : Parts first.0 last.0 = parts_append (parts_stand cut.1 each.0.2) (plain last.1 refl none) in
    parts_before o _ (plain first.1 refl math) (following o _ each.1 last.2)

-- the output for settled chunks is balanced, up to an open pair of braces
parts_written : (v o : Bool) (chunks : List (Spanned Chunk)) {u w : Place}
    → AllByRecursion (IsSettledAtom v) (styled chunks) → Spells u (written_chunks v o chunks) w → PartsOf o u w
parts_written v false [] {u} {w} each spells = subst (λ p. Parts u p) (sym (stands_none spells)) none
parts_written v true [] {u} {w} each spells =
    let first = stands_chars 125 [] spells in
    (u, first.0, none, first.1, subst (λ p. Parts first.0 p) (sym (stands_none first.2)) none)
parts_written v o (c ∷ rest) each spells = parts_chunk v o c.v rest each (λ b x settled spelt. parts_written v b rest settled spelt) spells

-- the output for the settled chunks of a value is balanced
pub parts_of_value : (v : Bool) (chunks : List (Spanned Chunk)) {u w : Place}
    → AllByRecursion (IsSettledAtom v) (styled chunks) → Spells u (written_chunks v false chunks) w → Parts u w
parts_of_value v chunks each spells = parts_written v false chunks each spells
