-- How the lines of a file are parsed, part by part.
use Rattle.std.proofs.Common.{◌≡◌, inl, inr, map, ℕ, ◌-◌, ◌<◌, length, true, false, List, [], ◌∷◌, ◌++◌, refl, sym, ap, ◌∙◌, subst, append-nil}
use Rattle.std.specs.Prelude.{not, ◌==◌}
use Rattle.std.specs.declared.ops.Range.{Range}
use Rattle.std.proofs.lemmas.Bool.{and_parts, eqb-false, eqb-true, ne_eqb}
use Rattle.std.proofs.lemmas.List.{map-append}
use Rattle.bib_text.specs.Places.{AtEnd, EndsOr, Place, CharAt, Run, Longest}
use Rattle.bib_text.specs.Places.Run.{stop, step}
use Rattle.bib_text.proofs.PlaceFacts.{Ahead, ahead_here, ahead_then, ahead_char, ahead_run, left_smaller, longest_rest}
use Rattle.bib_syntax.specs.EntryReader.{FileRead}
use Rattle.bib_syntax.specs.Grammar.{Block, File, LineComment, longest}
use Rattle.bib_syntax.specs.Grammar.{File as file}
use Rattle.bib_syntax.specs.Lines.{AreLinesFrom, InLine, IsLine, LineReading, continues_line, lines_together}
use Rattle.bib_syntax.specs.Lines.{InLine as in_line}
use Rattle.bib_syntax.specs.LineParts.{IsPartRead}
use Rattle.bib_syntax.specs.LineViews.{line_of}
use Rattle.bib_syntax.specs.Reading.{FileReading, empty_reading, then}
use Rattle.bib_syntax.specs.Views.{file_of}
use Rattle.bib_syntax.specs.SyntaxErrors.{FileFails as file_fail}
use Rattle.bib_syntax.specs.declared.raw.lines.RawLine.{RawLine}
use Rattle.bib_syntax.proofs.FileFacts.{ahead_block, ahead_line_comment, is_skipped, no_file_read, then-empty_reading, then-then}

-- a character that continues a line is skipped in a file
skipped_in_line : (c : ℕ) → continues_line c ≡ true → is_skipped c ≡ true
skipped_in_line c passes = (and_parts (is_skipped c) (not (c == 10)) passes).0

-- a character that is neither an at sign, nor a percent sign, nor a line feed continues a line
pub continues_line_from : (c : ℕ) → (c ≡ 64 → ⊥) → (c ≡ 37 → ⊥) → (c ≡ 10 → ⊥) → continues_line c ≡ true
continues_line_from c no_at no_percent no_feed = rw (ne_eqb c 64 no_at, ne_eqb c 37 no_percent, ne_eqb c 10 no_feed)

pub ahead_in_line : {u v : Place} {blocks : List (Range ℕ)} {says : FileReading} → InLine u blocks says v → Ahead u v
ahead_in_line {u} in_line.none = ahead_here u
ahead_in_line (in_line.skipped char passes rest) = ahead_then (ahead_char char) (ahead_in_line rest)
ahead_in_line (in_line.line_comment m rest) = ahead_then (ahead_line_comment m) (ahead_in_line rest)
ahead_in_line (in_line.block b rest) = ahead_then (ahead_block b) (ahead_in_line rest)

-- a run of characters that continue a line
pub run_in_line : {u v : Place} → Run continues_line u v → InLine u [] empty_reading v
run_in_line stop = in_line.none
run_in_line (step char passes rest) = in_line.skipped char passes (run_in_line rest)

-- a block alone
pub block_in_line : {u v : Place} {first : FileReading} → Block longest u first v
    → InLine u (record { start = u.at; end = v.at } ∷ []) first v
block_in_line {u} {v} {first} b =
    subst (λ says. InLine u (record { start = u.at; end = v.at } ∷ []) says v) (then-empty_reading first) (in_line.block b in_line.none)

-- a line comment alone
pub comment_in_line : {u v : Place} → LineComment u v → InLine u [] empty_reading v
comment_in_line m = in_line.line_comment m in_line.none

-- two consecutive parts of a line are one
pub in_line_then : {u v w : Place} {blocks others : List (Range ℕ)} {says more : FileReading} → InLine u blocks says v
    → InLine v others more w → InLine u (blocks ++ others) (then says more) w
in_line_then in_line.none second = second
in_line_then (in_line.skipped char passes rest) second = in_line.skipped char passes (in_line_then rest second)
in_line_then (in_line.line_comment m rest) second = in_line.line_comment m (in_line_then rest second)
in_line_then {u} {v} {w} {others = others} {more = more}
    (in_line.block {v = x} {first = first} {rest = rest} {blocks = blocks} b inner) second =
    subst (λ r. InLine u (record { start = u.at; end = x.at } ∷ (blocks ++ others)) r w) (sym (then-then first rest more))
    (in_line.block b (in_line_then inner second))

-- a part of a line is a part of the file
pub file_in_line : {u v : Place} {blocks : List (Range ℕ)} {says : FileReading} → InLine u blocks says v → FileRead u says v
file_in_line {u} in_line.none = no_file_read u
file_in_line (in_line.skipped {c = c} char passes rest) =
    let left = file_in_line rest in
    record {
      there = λ r x. file.skipped char (skipped_in_line c passes) (left.there r x);
      fails = λ kind w f. file_fail.skipped char (skipped_in_line c passes) (left.fails kind w f);
    }
file_in_line (in_line.line_comment m rest) =
    let left = file_in_line rest in
    record {
      there = λ r x. file.line_comment m (left.there r x);
      fails = λ kind w f. file_fail.line_comment m (left.fails kind w f);
    }
file_in_line {u} (in_line.block {first = first} {rest = rest} b inner) =
    let left = file_in_line inner in
    record {
      there = λ r x. subst (λ s. File longest u s) (sym (then-then first rest r)) (file.block b (left.there r x));
      fails = λ kind w f. file_fail.more b (left.fails kind w f);
    }

-- after one or more characters that continue a line less of the text is left
pub in_line_smaller : {u x v : Place} {c : ℕ} → CharAt u c x → continues_line c ≡ true → Longest continues_line u v
    → length v.text - v.at < length u.text - u.at
in_line_smaller {u} char passes run = left_smaller (ahead_here u) char (ahead_run (longest_rest run char passes).run)

-- a part that adds nothing to a line
pub nothing_read : {u v : Place} (line : RawLine) → InLine u [] empty_reading v → length v.text - v.at < length u.text - u.at
    → IsPartRead u line v line
nothing_read line part more = record {
  blocks = [];
  says = empty_reading;
  part = part;
  more = more;
  spans = sym (append-nil line.blocks.items);
  content = sym (then-empty_reading (file_of line.raw));
  place = refl;
}

-- a block with these ends
pub block_span : {u v : Place} {first : FileReading} (start end : ℕ) → start ≡ u.at → end ≡ v.at → Block longest u first v
    → InLine u (record { start = start; end = end } ∷ []) first v
block_span {u} {v} {first} start end starts ends b =
    subst (λ n. InLine u (record { start = n; end = end } ∷ []) first v) (sym starts)
    (subst (λ n. InLine u (record { start = u.at; end = n } ∷ []) first v) (sym ends) (block_in_line b))

-- a character that isn't at a place
pub not_there : {u v : Place} {c d : ℕ} → ((w : Place) → CharAt u d w → ⊥) → CharAt u c v → c ≡ d → ⊥
not_there {u} {v} absent char same = absent v (subst (λ x. CharAt u x v) same char)

pub not_feed : (c : ℕ) → (c == 10) ≡ false → c ≡ 10 → ⊥
not_feed c differs same = eqb-false c 10 differs same

-- a part is added to a line
pub line_goes_on : {start u v : Place} {old new : RawLine} → InLine start old.blocks.items (file_of old.raw) u
    → old.span.start ≡ start.at → IsPartRead u old v new
    → InLine start new.blocks.items (file_of new.raw) v × (new.span.start ≡ start.at)
line_goes_on {start} {u} {v} {old} {new} so_far starts part = (
  rw (part.spans, part.content) (in_line_then so_far part.part),
  ap (λ s. s.start) part.place ∙ starts,
)

-- ---- lines

-- lines from one place to another, each with a line feed after it
pub data LinesBefore : Place → List LineReading → Place → Type 0 where
  none : {u : Place} → LinesBefore u [] u
  more : {u end v w : Place} {l : LineReading} {ls : List LineReading} → IsLine u l end → CharAt end 10 v → LinesBefore v ls w
      → LinesBefore u (l ∷ ls) w

pub ahead_lines : {u v : Place} {ls : List LineReading} → LinesBefore u ls v → Ahead u v
ahead_lines {u} LinesBefore.none = ahead_here u
ahead_lines (LinesBefore.more line feed rest) = ahead_then (ahead_in_line line.inside) (ahead_then (ahead_char feed) (ahead_lines rest))

-- one more line
pub lines_push : {u v end w : Place} {ls : List LineReading} {l : LineReading} → LinesBefore u ls v → IsLine v l end → CharAt end 10 w
    → LinesBefore u (ls ++ l ∷ []) w
lines_push LinesBefore.none line feed = LinesBefore.more line feed LinesBefore.none
lines_push (LinesBefore.more first feed' rest) line feed = LinesBefore.more first feed' (lines_push rest line feed)

-- the last line
pub lines_last : {u v end : Place} {ls : List LineReading} {l : LineReading} → LinesBefore u ls v → IsLine v l end → AtEnd end
    → AreLinesFrom u (ls ++ l ∷ [])
lines_last LinesBefore.none line at_end = AreLinesFrom.last line at_end
lines_last (LinesBefore.more first feed rest) line at_end = AreLinesFrom.more first feed (lines_last rest line at_end)

-- the content of a line feed and of what follows it
after_feed : {u v : Place} {r : FileReading} → CharAt u 10 v → File longest v r → File longest u r
after_feed feed x = file.skipped feed refl x

-- lines are a part of a file
pub lines_read : {u v : Place} {ls : List LineReading} → LinesBefore u ls v → FileRead u (lines_together ls) v
lines_read {u} LinesBefore.none = no_file_read u
lines_read {u} (LinesBefore.more {l = l} {ls = ls} line feed rest) =
    let first = file_in_line line.inside in
    let left = lines_read rest in
    record {
      there = λ r x.
          subst (λ s. File longest u s) (sym (then-then l.says (lines_together ls) r))
          (first.there (then (lines_together ls) r) (after_feed feed (left.there r x)));
      fails = λ kind w f. first.fails kind w (file_fail.skipped feed refl (left.fails kind w f));
    }

-- the content of the lines of a text is its raw reading
pub lines_are_file : {u : Place} {ls : List LineReading} → AreLinesFrom u ls → File longest u (lines_together ls)
lines_are_file (AreLinesFrom.last {l = l} line at_end) = (file_in_line line.inside).there empty_reading (file.end at_end)
lines_are_file (AreLinesFrom.more {l = l} {ls = ls} line feed rest) =
    (file_in_line line.inside).there (lines_together ls) (after_feed feed (lines_are_file rest))

-- the lines of a vector after a line was pushed
pub lines_pushed : {new : List RawLine} (old : List RawLine) (line : RawLine) → new ≡ old ++ line ∷ [] → map line_of new
    ≡ map line_of old ++ line_of line ∷ []
lines_pushed old line is = ap (map line_of) is ∙ map-append line_of old (line ∷ [])

-- a line without a line feed after it is the last one
pub at_last_end : {u : Place} → EndsOr (λ c. c == 10 ≡ true) u → ((v : Place) → CharAt u 10 v → ⊥) → AtEnd u
at_last_end (inl at_end) absent = at_end
at_last_end {u} (inr (c, v, char, is)) absent = absurd (absent v (subst (λ x. CharAt u x v) (eqb-true c 10 is) char))
