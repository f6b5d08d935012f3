-- How lines become units, from the last to the first.
use Rattle.std.proofs.Common.{◌≡◌, ℕ, ◌+◌, ◌-◌, ◌≤◌, arith, Bool, true, false, cond, List, [], ◌∷◌, ◌++◌, length, map, reverse, refl, sym, ap, ◌∙◌, subst, append_assoc}
use Rattle.std.specs.Prelude.{◌&&◌, not}
use Rattle.std.specs.List.{AllByRecursion}
use Rattle.std.proofs.lemmas.List.{map-append, reverse-append}
use Rattle.bib_text.specs.Places.{Place}
use Rattle.bib_text.proofs.PlaceFacts.{char_within}
use Rattle.bib_syntax.specs.Lines.{AreLinesFrom, IsLine, LineReading}
use Rattle.bib_syntax.proofs.LineReadFacts.{ahead_in_line}
use Rattle.bib_syntax.specs.LineViews.{line_of}
use Rattle.bib_syntax.specs.declared.raw.lines.RawLine.{RawLine}
use Rattle.edit_units.specs.Cuts.{IsWithin}
use Rattle.edit_units.specs.Units.{UnitReading, begin_filled, has_no_block, is_above, is_blank_line, line_units, with_line}
use Rattle.edit_units.specs.Views.{unit_reading_of}
use Rattle.edit_units.specs.declared.units.Unit.{Unit}

-- the readings of units in reverse order, with the last of them before the others
pub reversed_last : (us : List Unit) (u : Unit)
    → reverse (map unit_reading_of (us ++ u ∷ [])) ≡ unit_reading_of u ∷ reverse (map unit_reading_of us)
reversed_last us u = ap reverse (map-append unit_reading_of us (u ∷ [])) ∙ reverse-append (map unit_reading_of us) (unit_reading_of u ∷ [])

-- a line that belongs to the first unit
pub line_joined : (l : LineReading) (us : List Unit) (u : Unit)
    → with_line true l (reverse (map unit_reading_of (us ++ u ∷ [])))
    ≡ (record (unit_reading_of u) { start = l.start }) ∷ reverse (map unit_reading_of us)
line_joined l us u = ap (with_line true l) (reversed_last us u)

-- a line that begins a unit
pub line_apart : (l : LineReading) (us : List UnitReading)
    → with_line false l us ≡ record { start = l.start; end = l.end; blocks = l.blocks; says = l.says } ∷ us
line_apart l [] = refl
line_apart l (u ∷ us) = refl

-- a part of a list that has the property for each element
pub all_of_append : {A : Type 0} (P : A → Type 0) (xs ys : List A) → AllByRecursion P (xs ++ ys) → AllByRecursion P ys
all_of_append P [] ys all = all
all_of_append P (x ∷ xs) ys all = all_of_append P xs ys all.1

-- what is known while lines become units: `done` are the lines whose units were made
pub record AreMade (text : List ℕ) (all left : List RawLine) (units : List Unit) (is_filled : Bool) : Type 0 where
  pub done : List RawLine
  pub parted : all ≡ left ++ done
  pub made : reverse (map unit_reading_of units) ≡ line_units text (map line_of done)
  pub filled : is_filled ≡ begin_filled text (map line_of done)

-- the lines up to one of them
parted_at : (all left before : List RawLine) (line : RawLine) (done : List RawLine) → all ≡ left ++ done → left ≡ before ++ line ∷ []
    → all ≡ before ++ line ∷ done
parted_at all left before line done is last = is ∙ ap (λ ls. ls ++ done) last ∙ append_assoc before (line ∷ []) done

-- a blank line belongs to no unit
pub blank_made : {text : List ℕ} {all left before : List RawLine} {units : List Unit} {is_filled : Bool} (line : RawLine)
    → AreMade text all left units is_filled → left ≡ before ++ line ∷ [] → is_blank_line text (line_of line) ≡ true
    → AreMade text all before units false
blank_made {text} {all} {left} {before} line so_far last blank = record {
  done = line ∷ so_far.done;
  parted = parted_at all left before line so_far.done so_far.parted last;
  made = so_far.made
      ∙ sym
      (ap
      (λ b.
      cond b (line_units text (map line_of so_far.done))
      (with_line (is_above text (line_of line) (map line_of so_far.done)) (line_of line) (line_units text (map line_of so_far.done))))
      blank);
  filled = sym (ap not blank);
}

-- a line that isn't blank belongs to the unit of the next line, or begins one
pub line_made : {text : List ℕ} {all left before : List RawLine} {units : List Unit} {is_filled : Bool} (line : RawLine) (joins : Bool)
    (new : List Unit) → AreMade text all left units is_filled → left ≡ before ++ line ∷ [] → is_blank_line text (line_of line) ≡ false
    → joins ≡ (is_filled && has_no_block (line_of line)) → reverse (map unit_reading_of new)
    ≡ with_line joins (line_of line) (reverse (map unit_reading_of units))
    → AreMade text all before new true
line_made {text} {all} {left} {before} line joins new so_far last filled joined is = record {
  done = line ∷ so_far.done;
  parted = parted_at all left before line so_far.done so_far.parted last;
  made = is ∙ ap (λ us. with_line joins (line_of line) us) so_far.made
      ∙ ap (λ b. with_line b (line_of line) (line_units text (map line_of so_far.done)))
      (joined ∙ ap (λ b. b && has_no_block (line_of line)) so_far.filled)
      ∙ sym
      (ap
      (λ b.
      cond b (line_units text (map line_of so_far.done))
      (with_line (is_above text (line_of line) (map line_of so_far.done)) (line_of line) (line_units text (map line_of so_far.done))))
      filled);
  filled = sym (ap not filled);
}

-- each line is within the text
pub line_within : {text : List ℕ} {all left : List RawLine} {units : List Unit} {is_filled : Bool} (before : List RawLine) (line : RawLine)
    → AllByRecursion (IsWithin text) (map line_of all) → AreMade text all left units is_filled → left ≡ before ++ line ∷ []
    → IsWithin text (line_of line)
line_within {text} {all} {left} before line within so_far last =
    let whole : map line_of all ≡ map line_of before ++ map line_of (line ∷ so_far.done) =
    ap (map line_of) (parted_at all left before line so_far.done so_far.parted last) ∙ map-append line_of before (line ∷ so_far.done) in
    (all_of_append (IsWithin text) (map line_of before) (map line_of (line ∷ so_far.done))
    (subst (AllByRecursion (IsWithin text)) whole within)).0

-- if no line is left, the units of all lines were made
pub all_made : {text : List ℕ} {all : List RawLine} {units : List Unit} {is_filled : Bool} → AreMade text all [] units is_filled
    → reverse (map unit_reading_of units) ≡ line_units text (map line_of all)
all_made {text} so_far = so_far.made ∙ ap (λ ls. line_units text (map line_of ls)) (sym so_far.parted)

-- a line from one place to another is within the text
within : {u v : Place} (l : LineReading) → IsLine u l v → v.at ≤ length u.text → IsWithin u.text l
within {u} {v} l line end =
    let ahead = ahead_in_line line.inside in
    record { order = omega (arith, line.starts, line.ends, ahead.at); end = omega (arith, line.ends, end) }

-- all lines are within the text
pub lines_within : {u : Place} {ls : List LineReading} → AreLinesFrom u ls → AllByRecursion (IsWithin u.text) ls
lines_within {u} (AreLinesFrom.last {v = v} {l = l} line at_end) =
    (within l line (omega (arith, at_end, ap length (ahead_in_line line.inside).text)), _)
lines_within {u} (AreLinesFrom.more {end = end} {v = v} {l = l} {ls = ls} line feed rest) =
    let same = (ahead_in_line line.inside).text in (
      within l line (omega (arith, char_within feed, feed.next, ap length same, ap length feed.same)),
      subst (λ t. AllByRecursion (IsWithin t) ls) (feed.same ∙ same) (lines_within rest),
    )
