-- Machinery: words of private contracts.
-- The results of the functions that parse units, their arguments and contents.
use Rattle.std.specs.Prelude.{◌≡◌, ◌⊎◌, ℕ, ◌+◌, ◌≤◌, ◌<◌, ◌^◌, Bool, true, false, List, [], ◌∷◌, ◌++◌, length, Option, MatchOption, IfNone, IfSome, Result, IfOk, IfErr, encode_utf8_all}
use Rattle.bib_text.specs.Places.{Place}
use Rattle.bib_text.specs.declared.spanned.Spanned.{Spanned}
use Rattle.bib_text.specs.Characters as char
use Rattle.bib_chunks.specs.Joined.{AreJoined}
use Rattle.bib_chunks.specs.declared.chunk.Chunk.{Chunk}
use Rattle.bib_syntax.specs.Errors.{out_of_memory}
use Rattle.bib_syntax.specs.declared.raw.ParseError.{ParseError}
use Rattle.bib_syntax.specs.declared.raw.ParseErrorKind.{ParseErrorKind}
use Rattle.bib_contents.specs.Arguments.{HasCommandName, IsArgumentBetween, IsFoundIn, IsReadOn, IsReadTo, IsShorterThan, KeepsFrame, StandsRight}
use Rattle.bib_contents.specs.ContentErrors.{ContentFails, UnitFails}
use Rattle.bib_contents.specs.Contents.{Argument, ContentUnit, IsNext, StaysBetween, argument_spelling, balances, is_argument, is_blank, is_escaped, unit_spelling}
use Rattle.bib_contents.specs.Progress.{StaysPlaced, Took, left, so_far}
use Rattle.bib_contents.specs.UnitViews.{found_of, unit_of}
use Rattle.bib_contents.specs.declared.arguments.Frame.{Frame}
use Rattle.bib_contents.specs.declared.arguments.Next.{Next}
use Rattle.bib_contents.specs.declared.growing.OpenChunk.{OpenChunk}
use Rattle.bib_contents.specs.declared.units.Found.{Found}
use Rattle.bib_contents.specs.declared.units.Unit.{Unit}

-- a text begins with the character `first`, and a command's name can begin with it
pub record IsNameStart (first : ℕ) (text : List ℕ) : Type 0 where
  pub is_next : (rest : List ℕ) × (text ≡ first ∷ rest)
  pub is_unescaped : is_escaped false first ≡ false
  pub is_visible : is_blank first ≡ false

-- `result` is the argument of a command, from the place `u` to `v`, or `None` if its closing brace is missing
pub record IsParsedArgument (takes_next is_spaced : Bool) (u v : Place) (result : Option Found) : Type 0 where
  pub same : v.text ≡ u.text
  pub found : MatchOption result
      ((a : Argument) (rest : List ℕ) → left u ≡ argument_spelling a ++ rest → is_argument takes_next is_spaced a rest ≡ true → ⊥)
      (λ a. (left u ≡ argument_spelling (found_of a) ++ left v) × (is_argument takes_next is_spaced (found_of a) (left v) ≡ true))
  pub unclosed : IfNone result ((is_spaced ≡ false) × ((inside : List ℕ) × (left u ≡ char.open_brace ∷ inside)
      × ((text rest : List ℕ) → inside ≡ text ++ char.close_brace ∷ rest → balances 0 text ≡ true → ⊥)))
  pub inside : IfSome result (λ a. IsFoundIn u.text u.at a v.at)

-- `result` is the first unit of `text`, parsed from the place `u` to `v`, or `None` if there is none or it doesn't end
pub record IsParsedUnit (is_verbatim : Bool) (text : List ℕ) (u v : Place) (result : Option Unit) : Type 0 where
  pub same : v.text ≡ u.text
  pub found : MatchOption result
      ((c : ContentUnit) (rest : List ℕ) → IsNext is_verbatim c text rest → ⊥)
      (λ c. IsNext is_verbatim (unit_of c) text (left v))
  pub fails : IfNone result ((text ≡ [] → ⊥) → UnitFails is_verbatim text)
  pub inside : IfSome result (λ c. IsArgumentBetween u.text u.at c v.at)

-- the spelling of a unit is as long as bytes `low` to `high`. If the unit is a command with an argument in braces, the
-- argument is between them in some text, and the command has a name.
pub record IsUnitAt (unit : Unit) (low high : ℕ) : Type 0 where
  pub spelt : high ≡ low + length (encode_utf8_all (unit_spelling (unit_of unit)))
  pub inside : (text : List ℕ) × IsArgumentBetween text low unit high
  pub named : HasCommandName unit

-- a unit from byte `low` to byte `high` of the file was appended to chunks, which stay joined and placed
pub record IsUnitAppended (u : ContentUnit) (chunks : List (Spanned Chunk)) (growing : OpenChunk) (low : ℕ)
    (more : List (Spanned Chunk)) (grown : OpenChunk) (high : ℕ) : Type 0 where
  pub taken : Took u growing.depth (so_far chunks growing) grown.depth (so_far more grown)
  pub joined : AreJoined chunks → AreJoined more
  pub placed : StaysPlaced chunks growing low more grown high

-- an error in bytes `low` to `high` of a piece at byte `offset` of the file: out of memory, or one of these kinds
pub record IsErrorAt (kinds : ParseErrorKind → Type 0) (offset low high : ℕ) (e : ParseError) : Type 0 where
  pub refused : (e ≡ out_of_memory) ⊎ kinds e.kind
  pub within : offset + high < 2 ^ 64 → StaysBetween (offset + low) (offset + high) e

-- if the argument of a frame was parsed up to `rest`, with the output `was`, it fails with this kind of error
abbrev pub IsArgumentError : Frame → List ℕ → List ℕ → ParseErrorKind → Type 0
IsArgumentError frame rest was kind =
    (whole base : List ℕ) → IsReadTo frame.is_flat whole base rest frame.depth was → ContentFails false 0 whole kind

-- the argument of a frame was parsed on by `next`, from the frame `old` and the output `was` to `new` and `now`
pub record IsParsedOn (old : Frame) (was : List ℕ) (new : Frame) (now : List ℕ) (next : Next) : Type 0 where
  pub kept : KeepsFrame old new
  pub right : StandsRight new
  pub read : (whole base : List ℕ) → IsReadTo old.is_flat whole base (left old.s) old.depth was → IsReadOn whole base new now next
  pub shorter : IsShorterThan (length (left old.s)) old.s.text old.s.at new.s next

-- `new` is the frame `old`, except that another number of braces may be open, at most one more
pub record IsSameExceptDepth (old new : Frame) : Type 0 where
  pub cursor : new.s ≡ old.s
  pub effect : new.effect ≡ old.effect
  pub start : new.start ≡ old.start
  pub is_flat : new.is_flat ≡ old.is_flat
  pub deep : new.depth ≤ old.depth + 1

-- the result of parsing an argument on by one unit, which comes before the text that is left in the frame `old`
pub record IsUnitTaken (unit : Unit) (old : Frame) (was : List ℕ) (new : Frame) (now : List ℕ) (result : Result Next ParseError)
    : Type 0 where
  pub read : (whole base before : List ℕ) → IsNext false (unit_of unit) before (left old.s)
      → IsReadTo old.is_flat whole base before old.depth was → IfOk result (IsReadOn whole base new now)
  pub shorter : (before : List ℕ) (low : ℕ) → IsNext false (unit_of unit) before (left old.s)
      → IsArgumentBetween old.s.text low unit old.s.at → IfOk result (IsShorterThan (length before) old.s.text low new.s)
  pub refused : IfErr result (λ e. (e ≡ out_of_memory)
      ⊎ ((before : List ℕ) → IsNext false (unit_of unit) before (left old.s) → IsArgumentError old before was e.kind))
