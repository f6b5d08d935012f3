-- Facts about parsing contents unit by unit.
use Rattle.std.proofs.Common.{◌≡◌, ℕ, zero, suc, ◌+◌, ◌<◌, ◌≤◌, Bool, true, false, List, [], ◌∷◌, ◌++◌, length, map, refl, sym, ap, ◌∙◌, subst, arith, append_assoc, None, Some, length-append, add-one}
use Rattle.std.specs.Prelude.{string_bytes}
use Rattle.std.specs.List.{list_all}
use Rattle.std.specs.Str.{chars}
use Rattle.std.proofs.lemmas.Bool.{and_parts, both_ways}
use Rattle.std.proofs.lemmas.List.{append-nil}
use Rattle.bib_chunks.specs.Styled.{Atom, styled}
use Rattle.bib_chunks.specs.declared.chunk.Chunk.{Chunk}
use Rattle.bib_text.specs.declared.spanned.Spanned.{Spanned}
use Rattle.bib_contents.specs.Contents.{ContentUnit, Argument, Reads, IsNext, fits, unit_spelling, is_ordinary, character, meaning, is_closable, depth_after, inner_text}
use Rattle.bib_contents.specs.ContentErrors.ContentFails.{following}
use Rattle.bib_contents.specs.Contents.Reads.{end, next}
use Rattle.bib_chunks.specs.Joined.{ArePlaced}
use Rattle.bib_contents.specs.Progress.{Goes, Took, so_far}
use Rattle.bib_contents.specs.declared.growing.OpenChunk.{OpenChunk}
use Rattle.std.proofs.lemmas.Str.{chars-nil}
use Rattle.bib_contents.proofs.ContentFacts.{unit_same, rest_same, no_unit_at_end}

-- nothing was parsed
pub goes_here : (is_verbatim : Bool) (depth : ℕ) (text : List ℕ) → Goes is_verbatim depth text [] depth text
goes_here is_verbatim depth text = record { onward = λ more read. read; back = λ whole read. (whole, read); fails = λ kind fails. fails }

-- two parts were parsed, one after the other
pub goes_then : {is_verbatim : Bool} {depth after last : ℕ} {text rest tail : List ℕ} {first second : List Atom}
    → Goes is_verbatim depth text first after rest → Goes is_verbatim after rest second last tail
    → Goes is_verbatim depth text (first ++ second) last tail
goes_then {is_verbatim} {depth} {after} {last} {text} {rest} {tail} {first} {second} one two = record {
  onward = λ more read.
      subst (Reads is_verbatim depth text) (sym (append_assoc first second more))
      (one.onward (second ++ more) (two.onward more read));
  back = λ whole read. two.back (one.back whole read).0 (one.back whole read).1;
  fails = λ kind fails. one.fails kind (two.fails kind fails);
}

-- if a text can be parsed, so can the argument of its first unit and the text after the unit
pub unit_back : {is_verbatim : Bool} {depth : ℕ} {text rest : List ℕ} {u : ContentUnit} {whole : List Atom}
    → IsNext is_verbatim u text rest → Reads is_verbatim depth text whole
    → (is_closable depth u ≡ true)
    × ((argument : List ℕ) → inner_text u ≡ Some argument → (inner : List Atom) × Reads false 0 argument inner)
    × ((more : List Atom) × Reads is_verbatim (depth_after depth u) rest more)
unit_back one end = absurd (no_unit_at_end one)
unit_back {is_verbatim} {depth} {text} {rest} {u} one
    (next {u = w} {rest = left} {inner = inner} {atoms = atoms} two closable argument read) =
    let same : w ≡ u = unit_same two one in
    let tail : left ≡ rest = rest_same two one in (
      rw (← same) closable,
      λ t holds. (inner, argument t (rw same holds)),
      (atoms, rw (← same, ← tail) read),
    )

-- a unit was parsed
pub goes_unit : {is_verbatim : Bool} {depth after : ℕ} {text rest : List ℕ} {u : ContentUnit} {inner : List Atom}
    → IsNext is_verbatim u text rest → is_closable depth u ≡ true
    → ((argument : List ℕ) → inner_text u ≡ Some argument → Reads false 0 argument inner) → after ≡ depth_after depth u
    → Goes is_verbatim depth text (meaning depth u inner) after rest
goes_unit {inner = inner} one closable argument deep = record {
  onward = λ more read. next one closable argument (rw (← deep) read);
  back = λ whole read. rw deep (unit_back one read).2;
  fails = λ kind fails. following one closable (λ text holds. (inner, argument text holds)) (rw (← deep) fails);
}

-- `None` is not `Some`
pub no_argument : {t : List ℕ} → None ≡ Some t → ⊥
no_argument same = cc

-- ordinary characters are parsed as themselves
pub goes_run : (is_verbatim : Bool) (depth : ℕ) (run rest : List ℕ) → list_all (is_ordinary is_verbatim) run ≡ true
    → Goes is_verbatim depth (run ++ rest) (map (character depth) run) depth rest
goes_run is_verbatim depth [] rest all = goes_here is_verbatim depth rest
goes_run is_verbatim depth (c ∷ cs) rest all =
    let parts = and_parts (is_ordinary is_verbatim c) (list_all (is_ordinary is_verbatim) cs) all in
    let one : IsNext is_verbatim (ContentUnit.other c) (c ∷ (cs ++ rest)) (cs ++ rest) = record { fits = parts.0; spells = refl } in
    goes_then
    (goes_unit {u = ContentUnit.other c} {inner = []} one refl (λ argument holds. absurd (no_argument holds)) refl)
    (goes_run is_verbatim depth cs rest parts.1)

-- a text was parsed up to `rest`, and its atoms were added to `start`
pub record ReadSoFar (is_verbatim : Bool) (whole : List ℕ) (start : List Atom) (rest : List ℕ) (depth : ℕ) (now : List Atom) : Type 0 where
  pub atoms : List Atom
  pub goes : Goes is_verbatim 0 whole atoms depth rest
  pub is : now ≡ start ++ atoms

-- at the start of a text no atoms were added
pub read_none : (is_verbatim : Bool) (whole : List ℕ) (start now : List Atom) → now ≡ start → ReadSoFar is_verbatim whole start whole 0 now
read_none is_verbatim whole start now same = record { atoms = []; goes = goes_here is_verbatim 0 whole; is = same ∙ sym (append-nil start) }

-- after more of a text was parsed as atoms, these are added
pub read_plain : {is_verbatim : Bool} {whole text rest : List ℕ} {start now more : List Atom} {depth : ℕ}
    (atoms : List Atom) → ReadSoFar is_verbatim whole start text depth now
    → Goes is_verbatim depth text atoms depth rest
    → more ≡ now ++ atoms → ReadSoFar is_verbatim whole start rest depth more
read_plain {start = start} atoms read goes written = record {
  atoms = read.atoms ++ atoms;
  goes = goes_then read.goes goes;
  is = written ∙ ap (λ xs. xs ++ atoms) read.is ∙ append_assoc start read.atoms atoms;
}

-- after a unit was parsed, its atoms are added
pub read_unit : {is_verbatim : Bool} {whole text rest : List ℕ} {u : ContentUnit} {start now more : List Atom}
    {depth after : ℕ} → ReadSoFar is_verbatim whole start text depth now → IsNext is_verbatim u text rest
    → Took u depth now after more → ReadSoFar is_verbatim whole start rest after more
read_unit {is_verbatim} {whole} {text} {rest} {u} {start} {now} {more} {depth} {after} read one took = record {
  atoms = read.atoms ++ meaning depth u took.inner;
  goes = goes_then read.goes (goes_unit one took.closable took.argument took.deep);
  is = took.atoms ∙ ap (λ xs. xs ++ meaning depth u took.inner) read.is ∙ append_assoc start read.atoms (meaning depth u took.inner);
}

-- at the end of the text its atoms are those of the contents
pub read_all : {is_verbatim : Bool} {whole text : List ℕ} {start now : List Atom} {depth : ℕ}
    → ReadSoFar is_verbatim whole start text depth now → text ≡ []
    → (atoms : List Atom) × Reads is_verbatim 0 whole atoms × (now ≡ start ++ atoms)
read_all {is_verbatim} {whole} {text} {start} {now} {depth} read ends =
    (read.atoms, subst (Reads is_verbatim 0 whole) (append-nil read.atoms) (read.goes.onward [] (rw ends end)), read.is)

-- a non-empty text that begins with no unit can't be parsed
pub no_unit : {is_verbatim : Bool} {depth : ℕ} {text : List ℕ} {atoms : List Atom} → (text ≡ [] → ⊥)
    → ((u : ContentUnit) (rest : List ℕ) → IsNext is_verbatim u text rest → ⊥) → Reads is_verbatim depth text atoms → ⊥
no_unit more none end = more refl
no_unit more none (next {u = u} {rest = rest} one closable argument read) = none u rest one

-- the length of a unit's argument in braces, in characters; 0 if it has none
abbrev pub inner_length : ContentUnit → ℕ
inner_length (ContentUnit.command name space (Argument.braced text)) = length text
inner_length u = 0

-- the length of a unit's argument in braces is that of its text
pub inner_length_is : (u : ContentUnit) (text : List ℕ) → inner_text u ≡ Some text → length text ≡ inner_length u
inner_length_is (ContentUnit.command name space (Argument.braced inside)) text is = cc
inner_length_is (ContentUnit.command name space Argument.without) text is = absurd (no_argument is)
inner_length_is (ContentUnit.command name space Argument.empty) text is = absurd (no_argument is)
inner_length_is (ContentUnit.command name space (Argument.single c)) text is = absurd (no_argument is)
inner_length_is (ContentUnit.hyphens n) text is = absurd (no_argument is)
inner_length_is (ContentUnit.spaces cs) text is = absurd (no_argument is)
inner_length_is ContentUnit.opening text is = absurd (no_argument is)
inner_length_is ContentUnit.closing text is = absurd (no_argument is)
inner_length_is (ContentUnit.escaped c) text is = absurd (no_argument is)
inner_length_is ContentUnit.backslash text is = absurd (no_argument is)
inner_length_is (ContentUnit.copied c) text is = absurd (no_argument is)
inner_length_is (ContentUnit.formula math) text is = absurd (no_argument is)
inner_length_is (ContentUnit.other c) text is = absurd (no_argument is)

-- a unit that fits is longer than its argument in braces
unit_longer : (is_verbatim : Bool) (u : ContentUnit) (rest : List ℕ) → fits is_verbatim u rest ≡ true
    → inner_length u < length (unit_spelling u)
unit_longer is_verbatim (ContentUnit.command name space (Argument.braced text)) rest right =
    let inside : length (text ++ 125 ∷ []) ≡ length text + 1 = length-append text (125 ∷ []) in
    let spaced : length (space ++ 123 ∷ (text ++ 125 ∷ [])) ≡ length space + (length (text ++ 125 ∷ []) + 1) =
    length-append space (123 ∷ (text ++ 125 ∷ [])) ∙ ap (λ n. length space + n) (sym (add-one _)) in
    let named : length (name ++ (space ++ 123 ∷ (text ++ 125 ∷ [])))
    ≡ length name + length (space ++ 123 ∷ (text ++ 125 ∷ [])) =
    length-append name _ in
    omega arith
unit_longer is_verbatim (ContentUnit.command name space Argument.without) rest right = omega arith
unit_longer is_verbatim (ContentUnit.command name space Argument.empty) rest right = omega arith
unit_longer is_verbatim (ContentUnit.command name space (Argument.single c)) rest right = omega arith
unit_longer is_verbatim (ContentUnit.hyphens zero) rest right = absurd (both_ways false refl right)
unit_longer is_verbatim (ContentUnit.hyphens (suc n)) rest right = omega arith
unit_longer is_verbatim (ContentUnit.spaces []) rest right = absurd (both_ways false refl right)
unit_longer is_verbatim (ContentUnit.spaces (c ∷ cs)) rest right = omega arith
unit_longer is_verbatim ContentUnit.opening rest right = omega arith
unit_longer is_verbatim ContentUnit.closing rest right = omega arith
unit_longer is_verbatim (ContentUnit.escaped c) rest right = omega arith
unit_longer is_verbatim ContentUnit.backslash rest right = omega arith
unit_longer is_verbatim (ContentUnit.copied c) rest right = omega arith
unit_longer is_verbatim (ContentUnit.formula text) rest right = omega arith
unit_longer is_verbatim (ContentUnit.other c) rest right = omega arith

-- the text after a unit, and the unit's argument in braces, are shorter than the text that begins with the unit
pub unit_shorter : {is_verbatim : Bool} {u : ContentUnit} {text rest : List ℕ} → IsNext is_verbatim u text rest
    → (length rest < length text) × (inner_length u < length text)
unit_shorter {is_verbatim} {u} {text} {rest} one =
    let longer : inner_length u < length (unit_spelling u) = unit_longer is_verbatim u rest one.fits in
    let size : length text ≡ length (unit_spelling u) + length rest = ap length one.spells ∙ length-append (unit_spelling u) rest in
    (omega arith, omega arith)

-- if the open chunk is empty, the finished ones have all atoms
pub nothing_grows : (out : List (Spanned Chunk)) (growing : OpenChunk) → string_bytes growing.text ≡ [] → styled out ≡ so_far out growing
nothing_grows out growing empty =
    sym
    (ap (λ cs. styled out ++ map (character growing.depth) cs) (ap chars empty ∙ chars-nil)
    ∙ append-nil (styled out))
