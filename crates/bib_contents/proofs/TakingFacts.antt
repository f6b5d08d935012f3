-- Facts about the atoms that a unit adds to the chunks.
use Rattle.std.proofs.Common.{◌≡◌, ℕ, ◌+◌, ◌-◌, ◌≤◌, Bool, true, false, List, [], ◌∷◌, ◌++◌, length, map, refl, sym, ap, subst, ◌∙◌, arith, append_assoc, length-append, add-one, Some}
use Rattle.std.specs.Prelude.{encode_utf8_all, string_bytes}
use Rattle.std.specs.Str.{chars, IsUtf8}
use Rattle.std.proofs.lemmas.Bool.{lt-ltb}
use Rattle.std.proofs.lemmas.List.{map-append, append-nil}
use Rattle.std.proofs.lemmas.Str.{encodes-append, encodes-chars, IsUtf8-string_bytes, length-le-encodes}
use Rattle.bib_chunks.specs.Styled.{Atom, styled}
use Rattle.bib_chunks.specs.Writing.{Writes}
use Rattle.bib_chunks.specs.declared.chunk.Chunk.{Chunk}
use Rattle.bib_text.specs.declared.spanned.Spanned.{Spanned}
use Rattle.bib_text.proofs.TextFacts.{chars_whole}
use Rattle.bib_text.proofs.ListFacts.{some_same}
use Rattle.bib_contents.specs.Contents.{Argument, ContentUnit, IsNext, unit_spelling, Reads, character, meaning, is_closable, depth_after, inner_text, unit_text}
use Rattle.bib_chunks.specs.Joined.{ArePlaced}
use Rattle.bib_contents.specs.Progress.{Took, left, so_far}
use Rattle.bib_chunks.proofs.JoinedFacts.{placed_up}
use Rattle.bib_contents.proofs.UnitFacts.{command_parts}
use Rattle.bib_contents.specs.UnitViews.{text_unit_of, argument_of, unit_of}
use Rattle.bib_contents.specs.declared.growing.OpenChunk.{OpenChunk}
use Rattle.std.specs.Borrow.{Bor}
use Rattle.bib_contents.specs.declared.units.Argument as units
use Rattle.bib_chunks.specs.Formatted.{formatted_atoms}
use Rattle.bib_contents.specs.Arguments.{HasCommandName, IsArgumentBetween, unit_written}
use Rattle.bib_contents.specs.Commands.{command_text}
use Rattle.bib_contents.specs.declared.units.Unit as all_units
use Rattle.bib_contents.specs.declared.units.Unit.TheVariants as any_unit
use Rattle.bib_contents.specs.declared.units.TextUnit.{TextUnit}
use Rattle.bib_contents.specs.declared.units.TextUnit.TheVariants as shown
use Rattle.bib_contents.proofs.ReaderFacts.{nothing_grows, no_argument}

-- a UTF-8 text with appended characters has its characters and these, if the longer text is UTF-8 too
pub grown_chars : (bs more cs : List ℕ) → IsUtf8 bs → IsUtf8 more → more ≡ bs ++ encode_utf8_all cs → chars more ≡ chars bs ++ cs
grown_chars bs more cs utf8 utf8' grew =
    chars_whole (chars bs ++ cs) more utf8'
    (grew ∙ ap (λ xs. xs ++ encode_utf8_all cs) (sym (encodes-chars bs utf8)) ∙ sym (encodes-append (chars bs) cs))

-- a unit of text may occur at any depth, doesn't change it, and has characters as atoms
pub record IsTextUnit (depth : ℕ) (u : ContentUnit) : Type 0 where
  pub closable : is_closable depth u ≡ true
  pub deep : depth ≡ depth_after depth u
  pub means : (inner : List Atom) → meaning depth u inner ≡ map (character depth) (unit_text u inner)

-- each unit that is written as characters is a unit of text
pub text_unit : (depth : ℕ) (u : TextUnit) → IsTextUnit depth (text_unit_of u)
text_unit depth (shown.Hyphens n) = record { closable = refl; deep = refl; means = λ inner. refl }
text_unit depth (shown.Spaces text) = record { closable = refl; deep = refl; means = λ inner. refl }
text_unit depth (shown.Escaped c) = record { closable = refl; deep = refl; means = λ inner. refl }
text_unit depth shown.Backslash = record { closable = refl; deep = refl; means = λ inner. refl }
text_unit depth (shown.Copied c) = record { closable = refl; deep = refl; means = λ inner. refl }
text_unit depth (shown.Command name space argument) = record { closable = refl; deep = refl; means = λ inner. refl }
text_unit depth (shown.Other c) = record { closable = refl; deep = refl; means = λ inner. refl }

-- characters were appended to the open chunk
took_characters : (u : ContentUnit) (growing grown : OpenChunk) (out : List (Spanned Chunk)) (inner : List Atom)
    → IsTextUnit growing.depth u → ((argument : List ℕ) → inner_text u ≡ Some argument → Reads false 0 argument inner)
    → Writes growing.text grown.text (unit_text u inner) → grown.depth ≡ growing.depth
    → Took u growing.depth (so_far out growing) grown.depth (so_far out grown)
took_characters u growing grown out inner is argument written depth =
    let cs = unit_text u inner in
    let grew : chars (string_bytes grown.text) ≡ chars (string_bytes growing.text) ++ cs =
    grown_chars (string_bytes growing.text) (string_bytes grown.text) cs (IsUtf8-string_bytes growing.text)
    (IsUtf8-string_bytes grown.text) written in
    record {
      inner = inner;
      closable = is.closable;
      argument = argument;
      deep = depth ∙ is.deep;
      atoms =
          ap (λ d. styled out ++ map (character d) (chars (string_bytes grown.text))) depth
          ∙ ap (λ xs. styled out ++ map (character growing.depth) xs) grew
          ∙ ap (λ xs. styled out ++ xs) (map-append (character growing.depth) (chars (string_bytes growing.text)) cs)
          ∙ sym (append_assoc (styled out) _ _)
          ∙ ap (λ xs. so_far out growing ++ xs) (sym (is.means inner));
    }

-- a unit whose text was appended to the open chunk was parsed
pub took_text : (unit : TextUnit) (growing grown : OpenChunk) (out : List (Spanned Chunk)) (inner : List Atom)
    → ((argument : List ℕ) → inner_text (text_unit_of unit) ≡ Some argument → Reads false 0 argument inner)
    → Writes growing.text grown.text (unit_text (text_unit_of unit) inner) → grown.depth ≡ growing.depth
    → Took (text_unit_of unit) growing.depth (so_far out growing) grown.depth (so_far out grown)
took_text unit growing grown out inner argument written depth =
    took_characters (text_unit_of unit) growing grown out inner (text_unit growing.depth unit) argument written depth

-- the text of a command with an argument in braces was appended
pub took_applied : (name space argument : List ℕ) (growing grown : OpenChunk) (out : List (Spanned Chunk))
    (inner : List Atom) → Reads false 0 argument inner
    → Writes growing.text grown.text (command_text name (Some (formatted_atoms false inner)))
    → grown.depth ≡ growing.depth
    → Took (ContentUnit.command name space (Argument.braced argument)) growing.depth (so_far out growing) grown.depth (so_far out grown)
took_applied name space argument growing grown out inner read written depth =
    took_characters (ContentUnit.command name space (Argument.braced argument)) growing grown out inner record
    { closable = refl; deep = refl; means = λ inner. refl }
    (λ text holds. subst (λ t. Reads false 0 t inner) (some_same holds) read) written depth

-- a unit that isn't put on one line is written as its text
as_is : (unit : TextUnit) → unit_written false (text_unit_of unit) ≡ unit_text (text_unit_of unit) []
as_is (shown.Hyphens n) = refl
as_is (shown.Spaces text) = refl
as_is (shown.Escaped c) = refl
as_is shown.Backslash = refl
as_is (shown.Copied c) = refl
as_is (shown.Command name space argument) = refl
as_is (shown.Other c) = refl

-- a unit that isn't put on one line is written as its text
pub as_text : (old new : List ℕ) (unit : TextUnit)
    → new ≡ old ++ encode_utf8_all (unit_written false (text_unit_of unit))
    → new ≡ old ++ encode_utf8_all (unit_text (text_unit_of unit) [])
as_text old new unit wrote = wrote ∙ ap (λ cs. old ++ encode_utf8_all cs) (as_is unit)

-- math was appended
pub took_formula : (text : List ℕ) (depth : ℕ) (grown : OpenChunk) (before : List Atom) (out : List (Spanned Chunk))
    → string_bytes grown.text ≡ [] → grown.depth ≡ depth → styled out ≡ before ++ Atom.math text ∷ []
    → Took (ContentUnit.formula text) depth before grown.depth (so_far out grown)
took_formula text depth grown before out empty same atoms = record {
  inner = [];
  closable = refl;
  argument = λ argument holds. absurd (no_argument holds);
  deep = same;
  atoms = sym (nothing_grows out grown empty) ∙ atoms;
}

-- a brace was opened
pub took_opening : (depth : ℕ) (grown : OpenChunk) (before : List Atom) (out : List (Spanned Chunk))
    → string_bytes grown.text ≡ [] → grown.depth ≡ depth + 1 → styled out ≡ before
    → Took ContentUnit.opening depth before grown.depth (so_far out grown)
took_opening depth grown before out empty same atoms = record {
  inner = [];
  closable = refl;
  argument = λ argument holds. absurd (no_argument holds);
  deep = same ∙ add-one depth;
  atoms = sym (nothing_grows out grown empty) ∙ atoms ∙ sym (append-nil before);
}

-- a closing brace finishes the chunk and leaves one open brace less
pub took_closing : (depth : ℕ) (grown : OpenChunk) (before : List Atom) (out : List (Spanned Chunk)) → (depth ≡ 0 → ⊥)
    → string_bytes grown.text ≡ [] → grown.depth ≡ depth - 1 → styled out ≡ before
    → Took ContentUnit.closing depth before grown.depth (so_far out grown)
took_closing depth grown before out some empty same atoms = record {
  inner = [];
  closable = lt-ltb 0 depth (omega (arith, some));
  argument = λ argument holds. absurd (no_argument holds);
  deep = same;
  atoms = sym (nothing_grows out grown empty) ∙ atoms ∙ sym (append-nil before);
}

-- math is spelt with at least two bytes
pub formula_wide : (text : List ℕ) → 2 ≤ length (encode_utf8_all (36 ∷ (text ++ 36 ∷ [])))
formula_wide text =
    let characters : length (36 ∷ (text ++ 36 ∷ [])) ≤ length (encode_utf8_all (36 ∷ (text ++ 36 ∷ []))) =
    length-le-encodes (36 ∷ (text ++ 36 ∷ [])) in
    let inside : length (text ++ 36 ∷ []) ≡ length text + 1 = length-append text (36 ∷ []) in
    omega arith

-- the length of appended characters in bytes is a sum
sizes : (a b : List ℕ) → length (encode_utf8_all (a ++ b)) ≡ length (encode_utf8_all a) + length (encode_utf8_all b)
sizes a b = ap length (encodes-append a b) ∙ length-append (encode_utf8_all a) (encode_utf8_all b)

-- a command is at least three bytes longer than its argument in braces
pub braced_wide : (name space text : List ℕ)
    → length (encode_utf8_all text) + 3
    ≤ length (encode_utf8_all (unit_spelling (ContentUnit.command name space (Argument.braced text))))
braced_wide name space text =
    let one : 1 ≤ length (encode_utf8_all (125 ∷ [])) = length-le-encodes (125 ∷ []) in
    let two : 1 ≤ length (encode_utf8_all (123 ∷ [])) = length-le-encodes (123 ∷ []) in
    let three : 1 ≤ length (encode_utf8_all (92 ∷ [])) = length-le-encodes (92 ∷ []) in
    let closed = sizes text (125 ∷ []) in
    let opened = sizes (123 ∷ []) (text ++ 125 ∷ []) in
    let spaced = sizes space (123 ∷ (text ++ 125 ∷ [])) in
    let named = sizes name (space ++ 123 ∷ (text ++ 125 ∷ [])) in
    let whole = sizes (92 ∷ []) (name ++ (space ++ 123 ∷ (text ++ 125 ∷ []))) in
    omega (arith, one, two, three, closed, opened, spaced, named, whole)

-- chunks placed up to an offset are placed up to the start of the next chunk, which is that offset or a later one
pub placed_after : (low end following start : ℕ) (out : List (Spanned Chunk)) → ArePlaced low end out → end ≤ following
    → start ≡ following → ArePlaced low start out × (start ≤ following)
placed_after low end following start out placed wider is =
    (placed_up out low end start (omega (arith, wider, is)) placed, omega (arith, is))

-- the unit of a command with this argument
pub command_is : {unit : TextUnit} {name space : Bor (List ℕ)} {command_text : units.Argument}
    (argument : units.Argument) → unit ≡ shown.Command name space command_text → command_text ≡ argument
    → text_unit_of unit ≡ ContentUnit.command (chars name.now) (chars space.now) (argument_of argument)
command_is {unit} {name} {space} {command_text} argument is same =
    ap text_unit_of is ∙ ap (λ a. ContentUnit.command (chars name.now) (chars space.now) (argument_of a)) same

-- the offsets around the argument of a unit can be replaced by equal ones
pub stands_at : (text : List ℕ) (low high start end : ℕ) → start ≡ low → end ≡ high → (unit : all_units.Unit)
    → IsArgumentBetween text low unit high → IsArgumentBetween text start unit end
stands_at text low high start end first last unit stands = rw (first, last) stands

-- a command that comes next has a name
pub unit_named : (unit : all_units.Unit) {is_verbatim : Bool} {text rest : List ℕ}
    → IsNext is_verbatim (unit_of unit) text rest → HasCommandName unit
unit_named (any_unit.Shown shown) one = tt
unit_named (any_unit.Applied name space inside) {is_verbatim} {text} {rest} one =
    (command_parts is_verbatim (chars name.now) (chars space.now) rest (Argument.braced (left inside)) one.fits).1
unit_named (any_unit.Formula text) one = tt
unit_named any_unit.Opening one = tt
unit_named any_unit.Closing one = tt
