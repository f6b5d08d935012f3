-- Machinery: words of private contracts.
-- Arguments in braces: where they end, and how they are written.
use Rattle.std.specs.Prelude.{◌≡◌, ◌≤◌, ◌<◌, ℕ, ◌+◌, Bool, true, false, if◌then◌else◌, List, [], ◌∷◌, ◌++◌, length, take, drop, slice_index, encode_utf8_all}
use Rattle.std.specs.Str.{chars}
use Rattle.bib_text.specs.Places.{Place}
use Rattle.bib_chunks.specs.Formatted.{flowing, formatted_atoms, is_break}
use Rattle.bib_chunks.specs.Styled.{Atom}
use Rattle.bib_contents.specs.Contents.{Argument, ContentUnit, IsNext, balances, is_name, unit_text}
use Rattle.bib_contents.specs.Progress.{Goes, left}
use Rattle.bib_contents.specs.declared.ends.Ends.{Ends}
use Rattle.bib_contents.specs.declared.arguments.Frame.{Frame}
use Rattle.bib_contents.specs.declared.arguments.Next.{Next}
use Rattle.bib_contents.specs.declared.arguments.Next.TheVariants.{Read, Follows, End}
use Rattle.bib_contents.specs.declared.units.Found.{Found}
use Rattle.bib_contents.specs.declared.units.Found.TheVariants.{Braced as InBraces}
use Rattle.bib_contents.specs.declared.units.Unit as units
use Rattle.bib_contents.specs.declared.units.Unit.TheVariants.{Applied}
use Rattle.bib_text.specs.Characters as char

-- a closing brace is at byte `end` of the text, and the braces from `begin` to before it balance
pub record Closes (text : List ℕ) (begin end : ℕ) : Type 0 where
  pub inside : List ℕ
  pub width : end ≡ begin + length (encode_utf8_all inside)
  pub spelt : drop begin text ≡ encode_utf8_all inside ++ drop end text
  pub balanced : balances 0 inside ≡ true
  pub brace : drop end text ≡ char.close_brace ∷ drop (end + 1) text

-- each known end that lies in the text is the end of the argument that begins at byte `start` plus the end's index
abbrev pub AreKnown : Ends → List ℕ → Type 0
AreKnown ends text =
    (index : ℕ) → 0 < slice_index ends.places.items index → slice_index ends.places.items index < length text
    → Closes text (ends.start + index) (slice_index ends.places.items index)

-- an argument starts at or after `low` in a text, and ends before `high`
pub record IsInside (text : List ℕ) (low : ℕ) (inside : Place) (high : ℕ) : Type 0 where
  pub cut : inside.text ≡ take (length inside.text) text
  pub following : low ≤ inside.at
  pub within : inside.at ≤ length inside.text
  pub ends : length inside.text < high

-- an argument begins at or after the place `u`, and the closing brace right after it ends at the place `v`
pub record Encloses (u inside v : Place) : Type 0 where
  pub stands : IsInside u.text u.at inside v.at
  pub spelt : left u ≡ left inside ++ char.close_brace ∷ left v
  pub balanced : balances 0 (left inside) ≡ true

-- if a unit is a command with an argument in braces, the argument is between `low` and `high` in the text
abbrev pub IsArgumentBetween : List ℕ → ℕ → units.Unit → ℕ → Type 0
IsArgumentBetween text low (Applied name space inside) high = IsInside text low inside high
IsArgumentBetween text low u high = Unit {0}

-- if a unit is a command with an argument in braces, the command has a name
abbrev pub HasCommandName : units.Unit → Type 0
HasCommandName (Applied name space inside) = is_name (chars name.now) ≡ true
HasCommandName u = Unit {0}

-- if the argument of a command is in braces, it is between `low` and `high` in the text
abbrev pub IsFoundIn : List ℕ → ℕ → Found → ℕ → Type 0
IsFoundIn text low (InBraces inside) high = IsInside text low inside high
IsFoundIn text low found high = Unit {0}

-- characters, on one line if the flag says so
abbrev pub flat_if : Bool → List ℕ → List ℕ
flat_if is_flat cs = if is_flat then flowing false cs else cs

-- the text of an argument's atoms: formatted, and put on one line if the flag is true
abbrev pub argument_written : Bool → List Atom → List ℕ
argument_written is_flat atoms = flat_if is_flat (formatted_atoms false atoms)

-- The text of a unit without an argument in braces. The flag says whether it is put on one line. A line break after a backslash
-- then becomes a space.
abbrev pub unit_written : Bool → ContentUnit → List ℕ
unit_written is_flat (ContentUnit.copied c) = char.backslash ∷ (if is_flat then (if is_break c then char.space else c) else c) ∷ []
unit_written is_flat u = unit_text u []

-- an argument `whole` was parsed up to `rest` with `depth` braces open, and the output `now` is `base` and the parsed text
pub record IsReadTo (is_flat : Bool) (whole base rest : List ℕ) (depth : ℕ) (now : List ℕ) : Type 0 where
  pub atoms : List Atom
  pub goes : Goes false 0 whole atoms depth rest
  pub wrote : now ≡ encode_utf8_all (base ++ argument_written is_flat atoms)

-- an argument was parsed up to here: after a unit, before a command with an argument in braces, or to its end
abbrev pub IsReadOn : List ℕ → List ℕ → Frame → List ℕ → Next → Type 0
IsReadOn whole base frame now Read = IsReadTo frame.is_flat whole base (left frame.s) frame.depth now
IsReadOn whole base frame now (Follows name inside) =
    (before space : List ℕ) × IsReadTo frame.is_flat whole base before frame.depth now
    × IsNext false (ContentUnit.command (chars name.now) space (Argument.braced (left inside))) before (left frame.s)
IsReadOn whole base frame now End = IsReadTo frame.is_flat whole base [] frame.depth now × (left frame.s ≡ [])

-- Fewer than `size` characters are left, counting those of an argument that follows. That argument lies between `low` and the
-- cursor. At the end, at most `size` are left.
abbrev pub IsShorterThan : ℕ → List ℕ → ℕ → Place → Next → Type 0
IsShorterThan size text low s Read = length (left s) < size
IsShorterThan size text low s (Follows name inside) = (length (left s) + length (left inside) + 1 < size) × IsInside text low inside s.at
IsShorterThan size text low s End = length (left s) ≤ size

-- a frame's offset lies in its text, and at most as many braces are open as bytes come before it
pub record StandsRight (frame : Frame) : Type 0 where
  pub within : frame.s.at ≤ length frame.s.text
  pub deep : frame.depth ≤ frame.s.at

-- `new` is a later state of the frame `old`: its offset isn't smaller, and its text, effect, start and flag are the
-- same
pub record KeepsFrame (old new : Frame) : Type 0 where
  pub text : new.s.text ≡ old.s.text
  pub effect : new.effect ≡ old.effect
  pub start : new.start ≡ old.start
  pub is_flat : new.is_flat ≡ old.is_flat
  pub ahead : old.s.at ≤ new.s.at
