-- Units with the same bytes have the same reading, except for their byte offsets.
use Rattle.std.proofs.Common.{◌≡◌, ℕ, zero, suc, ◌+◌, ◌-◌, ◌<◌, ◌≤◌, arith, min, Bool, true, false, cond, List, [], ◌∷◌, ◌++◌, length, take, drop, map, refl, sym, ap, ap₂, ◌∙◌, subst, inl, inr}
use Rattle.std.specs.Prelude.{◌==◌, ◌&&◌, not}
use Rattle.std.specs.List.{AllByRecursion}
use Rattle.std.specs.declared.ops.Range.{Range}
use Rattle.std.proofs.lemmas.Bool.{and_parts, cases_lt, eqb-true}
use Rattle.std.proofs.lemmas.List.{length-drop, length-take-le}
use Rattle.bib_text.specs.Places.{AtEnd, CharAt, Place, Stops, between, place}
use Rattle.bib_text.proofs.BoundaryFacts.{Border, not_over}
use Rattle.bib_text.proofs.PlaceFacts.{Ahead, ahead_char, ahead_here, ahead_run, ahead_then, char_clash, char_left, char_within, left_smaller, pass_clash, same_char, stops_at, stops_at_end, test_clash}
use Rattle.bib_syntax.specs.Grammar.{Block, LineComment, longest}
use Rattle.bib_syntax.specs.Lines.{AreLinesFrom, InLine, IsLine, LineReading}
use Rattle.bib_syntax.specs.Lines.{InLine as in_line}
use Rattle.bib_syntax.specs.Reading.{FileReading, empty_reading, then}
use Rattle.bib_syntax.proofs.FileFacts.{ahead_block, ahead_line_comment, block_same, block_smaller, is_skipped, line_comment_smaller}
use Rattle.bib_syntax.proofs.LawFacts.{line_comment_same}
use Rattle.bib_syntax.proofs.LineReadFacts.{ahead_in_line}
use Rattle.edit_entries.specs.Edits.{moved_file}
use Rattle.edit_entries.proofs.GrammarFacts.{block_there, line_comment_there, moved-then}
use Rattle.edit_entries.proofs.ZoneFacts.{Frame, Inside, Zone, char_there, inside_between, run_there, there}
use Rattle.edit_units.proofs.UnitFacts.{line_apart}
use Rattle.edit_units.specs.Units.{AreUnits, UnitReading, begin_filled, has_no_block, is_above, is_blank_line, line_units, with_line}
use Rattle.edit_versions.specs.Versions.{text_of_unit}

-- ---- runs

-- a run of blocks with these spans and this content, of line comments, and of characters outside of them
pub data InUnit : Place → List (Range ℕ) → FileReading → Place → Type 0 where
  none : {u : Place} → InUnit u [] empty_reading u
  skipped : {u v w : Place} {c : ℕ} {blocks : List (Range ℕ)} {says : FileReading} → CharAt u c v → is_skipped c ≡ true
      → InUnit v blocks says w → InUnit u blocks says w
  line_comment : {u v w : Place} {blocks : List (Range ℕ)} {says : FileReading} → LineComment u v → InUnit v blocks says w
      → InUnit u blocks says w
  block : {u v w : Place} {first rest : FileReading} {blocks : List (Range ℕ)} → Block longest u first v → InUnit v blocks rest w
      → InUnit u (record { start = u.at; end = v.at } ∷ blocks) (then first rest) w

ahead_in_unit : {u v : Place} {blocks : List (Range ℕ)} {says : FileReading} → InUnit u blocks says v → Ahead u v
ahead_in_unit {u} InUnit.none = ahead_here u
ahead_in_unit (InUnit.skipped char passes rest) = ahead_then (ahead_char char) (ahead_in_unit rest)
ahead_in_unit (InUnit.line_comment m rest) = ahead_then (ahead_line_comment m) (ahead_in_unit rest)
ahead_in_unit (InUnit.block b rest) = ahead_then (ahead_block b) (ahead_in_unit rest)

-- the place after a character, a comment or a block isn't before it
stuck : {u v : Place} → length v.text - v.at < length u.text - u.at → Ahead v u → ⊥
stuck less ahead = omega (arith, less, ahead.at, ap length ahead.text)

smaller : {u v : Place} {c : ℕ} → CharAt u c v → length v.text - v.at < length u.text - u.at
smaller {u} {v} char = left_smaller (ahead_here u) char (ahead_here v)

-- ---- there is one run from a place to another

after_char : {u v w : Place} {c : ℕ} {blocks : List (Range ℕ)} {says : FileReading} → CharAt u c v → is_skipped c ≡ true → Ahead v w
    → InUnit u blocks says w → InUnit v blocks says w
after_char char passes ahead InUnit.none = absurd (stuck (smaller char) ahead)
after_char {w = w} {blocks = blocks} {says = says} char passes ahead (InUnit.skipped char' passes' rest) =
    subst (λ x. InUnit x blocks says w) (same_char char' char).1 rest
after_char char passes ahead (InUnit.line_comment m rest) = absurd (pass_clash is_skipped char passes m.sign refl)
after_char char passes ahead (InUnit.block b rest) = absurd (pass_clash is_skipped char passes b.head.sign refl)

after_comment : {u v w : Place} {blocks : List (Range ℕ)} {says : FileReading} → LineComment u v → Ahead v w → InUnit u blocks says w
    → InUnit v blocks says w
after_comment m ahead InUnit.none = absurd (stuck (line_comment_smaller m) ahead)
after_comment m ahead (InUnit.skipped char passes rest) = absurd (pass_clash is_skipped char passes m.sign refl)
after_comment {w = w} {blocks = blocks} {says = says} m ahead (InUnit.line_comment m' rest) =
    subst (λ x. InUnit x blocks says w) (line_comment_same m' m) rest
after_comment m ahead (InUnit.block b rest) = absurd (char_clash m.sign b.head.sign refl)

-- a run that begins with a block
record BeginsWithBlock (u : Place) (blocks : List (Range ℕ)) (says : FileReading) (w : Place) : Type 0 where
  end : Place
  first : FileReading
  others : List (Range ℕ)
  rest : FileReading
  block : Block longest u first end
  left : InUnit end others rest w
  blocks_are : blocks ≡ record { start = u.at; end = end.at } ∷ others
  says_is : says ≡ then first rest

first_block : {u v w : Place} {own : FileReading} {blocks : List (Range ℕ)} {says : FileReading} → Block longest u own v → Ahead v w
    → InUnit u blocks says w → BeginsWithBlock u blocks says w
first_block b ahead InUnit.none = absurd (stuck (block_smaller b) ahead)
first_block b ahead (InUnit.skipped char passes rest) = absurd (pass_clash is_skipped char passes b.head.sign refl)
first_block b ahead (InUnit.line_comment m rest) = absurd (char_clash b.head.sign m.sign refl)
first_block b ahead (InUnit.block b' rest) = record {
  end = _;
  first = _;
  others = _;
  rest = _;
  block = b';
  left = rest;
  blocks_are = refl;
  says_is = refl;
}

one_run : {u v w : Place} {blocks others : List (Range ℕ)} {says tells : FileReading} → v ≡ w → InUnit u blocks says v
    → InUnit u others tells w → (blocks ≡ others) × (says ≡ tells)
one_run same InUnit.none InUnit.none = (refl, refl)
one_run same InUnit.none (InUnit.skipped {v = x} char passes rest) =
    absurd (stuck (smaller char) (subst (Ahead x) (sym same) (ahead_in_unit rest)))
one_run same InUnit.none (InUnit.line_comment {v = x} m rest) =
    absurd (stuck (line_comment_smaller m) (subst (Ahead x) (sym same) (ahead_in_unit rest)))
one_run same InUnit.none (InUnit.block {v = x} b rest) =
    absurd (stuck (block_smaller b) (subst (Ahead x) (sym same) (ahead_in_unit rest)))
one_run same (InUnit.skipped {v = x} char passes rest) second =
    one_run same rest (after_char char passes (subst (Ahead x) same (ahead_in_unit rest)) second)
one_run same (InUnit.line_comment {v = x} m rest) second =
    one_run same rest (after_comment m (subst (Ahead x) same (ahead_in_unit rest)) second)
one_run {u} {v} {w} same (InUnit.block {v = x} {first = first} {rest = rest} {blocks = blocks} b left) second =
    let f = first_block b (subst (Ahead x) same (ahead_in_unit left)) second in
    let equal = block_same f.block b in
    let others = one_run same left (subst (λ y. InUnit y f.others f.rest w) equal.1 f.left) in (
      ap₂ (λ n bs. record { start = u.at; end = n } ∷ bs) (sym (ap (λ y. y.at) equal.1)) others.0 ∙ sym f.blocks_are,
      ap₂ (λ r s. then r s) (sym equal.0) others.1 ∙ sym f.says_is,
    )

-- ---- the run of a unit

line_run : {u v : Place} {blocks : List (Range ℕ)} {says : FileReading} → InLine u blocks says v → InUnit u blocks says v
line_run in_line.none = InUnit.none
line_run (in_line.skipped {c = c} char passes rest) =
    InUnit.skipped char (and_parts (is_skipped c) (not (c == 10)) passes).0 (line_run rest)
line_run (in_line.line_comment m rest) = InUnit.line_comment m (line_run rest)
line_run (in_line.block b rest) = InUnit.block b (line_run rest)

-- a line without blocks before a run
line_above : {u v w : Place} {own blocks : List (Range ℕ)} {silent says : FileReading} → InLine u own silent v → own ≡ []
    → InUnit v blocks says w → InUnit u blocks says w
line_above in_line.none empty run = run
line_above (in_line.skipped {c = c} char passes rest) empty run =
    InUnit.skipped char (and_parts (is_skipped c) (not (c == 10)) passes).0 (line_above rest empty run)
line_above (in_line.line_comment m rest) empty run = InUnit.line_comment m (line_above rest empty run)
line_above (in_line.block b rest) empty run = absurd (cc)

-- whether a character doesn't end a line
abbrev no_feed : ℕ → Bool
no_feed c = not (c == 10)

-- a unit is a run that ends with a line
pub record IsUnitRun (text : List ℕ) (u : UnitReading) : Type 0 where
  pub inside : InUnit (place text u.start) u.blocks u.says (place text u.end)
  pub within : u.end ≤ length text
  pub stops : Stops no_feed (place text u.end)
  pub border : Border (place text u.end)

place_is : {u : Place} {text : List ℕ} {n : ℕ} → u.text ≡ text → n ≡ u.at → u ≡ place text n
place_is same at = ap₂ place same (sym at)

abbrev unit_of : LineReading → UnitReading
unit_of l = record { start = l.start; end = l.end; blocks = l.blocks; says = l.says }

-- a place is the end of a line
record IsLineEnd (text : List ℕ) (v : Place) : Type 0 where
  same : v.text ≡ text
  within : v.at ≤ length text
  stops : Stops no_feed v
  border : Border v

end_of_text : {text : List ℕ} {v : Place} → v.text ≡ text → AtEnd v → IsLineEnd text v
end_of_text same end =
    record { same = same; within = omega (arith, end, ap length same); stops = stops_at_end no_feed end; border = inl end }

end_at_feed : {text : List ℕ} {v w : Place} → v.text ≡ text → CharAt v 10 w → IsLineEnd text v
end_at_feed same char = record {
  same = same;
  within = omega (arith, char_left char, ap length same);
  stops = stops_at no_feed char refl;
  border = inr (10, _, char);
}

single_line : {text : List ℕ} {u v : Place} (l : LineReading) → u.text ≡ text → IsLine u l v → IsLineEnd text v → IsUnitRun text (unit_of l)
single_line {text} {u} {v} l same line end =
    let last : v ≡ place text l.end = place_is end.same line.ends in
    record {
      inside = subst (λ x. InUnit x l.blocks l.says (place text l.end)) (place_is same line.starts)
          (subst (InUnit u l.blocks l.says) last (line_run line.inside));
      within = omega (arith, line.ends, end.within);
      stops = subst (Stops no_feed) last end.stops;
      border = subst Border last end.border;
    }

no_blocks : (blocks : List (Range ℕ)) → (length blocks == 0) ≡ true → blocks ≡ []
no_blocks [] is = refl
no_blocks (x ∷ xs) is = absurd (omega (arith, eqb-true (length (x ∷ xs)) 0 is))

joined_line : {text : List ℕ} {u end v : Place} (l : LineReading) (first : UnitReading) → u.text ≡ text → IsLine u l end → CharAt end 10 v
    → has_no_block l ≡ true → first.start ≡ v.at → IsUnitRun text first → IsUnitRun text (record first { start = l.start })
joined_line {text} {u} {end} {v} l first same line feed empty starts run =
    let next : v ≡ place text first.start = place_is (feed.same ∙ (ahead_in_line line.inside).text ∙ same) starts in
    let to : Place = place text first.end in
    record {
      inside = subst (λ x. InUnit x first.blocks first.says to) (place_is same line.starts)
          (line_above line.inside (no_blocks l.blocks empty)
          (InUnit.skipped feed refl (subst (λ x. InUnit x first.blocks first.says to) (sym next) run.inside)));
      within = run.within;
      stops = run.stops;
      border = run.border;
    }

-- the first of these units begins at this offset
record BeginsAt (at : ℕ) (units : List UnitReading) : Type 0 where
  unit : UnitReading
  others : List UnitReading
  is : units ≡ unit ∷ others
  starts : unit.start ≡ at

-- the units of lines from a place on. If the first line isn't blank, the first unit begins with it
record AreRuns (text : List ℕ) (at : ℕ) (filled : Bool) (units : List UnitReading) : Type 0 where
  all : AllByRecursion (IsUnitRun text) units
  first : filled ≡ true → BeginsAt at units

last_runs : {text : List ℕ} {u v : Place} (l : LineReading) (blank : Bool) → u.text ≡ text → IsLine u l v → IsLineEnd text v
    → AreRuns text u.at (not blank) (cond blank [] (unit_of l ∷ []))
last_runs l true same line end = record { all = _; first = λ is. absurd (test_clash false is refl) }
last_runs l false same line end = record {
  all = (single_line l same line end, _);
  first = λ is. record { unit = unit_of l; others = []; is = refl; starts = line.starts };
}

more_runs : {text : List ℕ} {u end v : Place} (l : LineReading) (ls : List LineReading) (blank joins : Bool) → u.text ≡ text
    → IsLine u l end → CharAt end 10 v → is_above text l ls ≡ joins → AreRuns text v.at (begin_filled text ls) (line_units text ls)
    → AreRuns text u.at (not blank) (cond blank (line_units text ls) (with_line joins l (line_units text ls)))
more_runs l ls true joins same line feed above others = record { all = others.all; first = λ is. absurd (test_clash false is refl) }
more_runs {text} {u} l ls false false same line feed above others =
    let whole = line_apart l (line_units text ls) in
    let own = single_line l same line (end_at_feed ((ahead_in_line line.inside).text ∙ same) feed) in
    record {
      all = subst (AllByRecursion (IsUnitRun text)) (sym whole) (own, others.all);
      first = λ is. record { unit = unit_of l; others = line_units text ls; is = whole; starts = line.starts };
    }
more_runs {text} l ls false true same line feed above others =
    let joins = and_parts (begin_filled text ls) (has_no_block l) above in
    let first = others.first joins.0 in
    let all : AllByRecursion (IsUnitRun text) (first.unit ∷ first.others) = subst (AllByRecursion (IsUnitRun text)) first.is others.all in
    let joined : UnitReading = record first.unit { start = l.start } in
    let whole : with_line true l (line_units text ls) ≡ joined ∷ first.others = ap (with_line true l) first.is in
    record {
      all = subst (AllByRecursion (IsUnitRun text)) (sym whole)
          (joined_line l first.unit same line feed joins.1 first.starts all.0, all.1);
      first = λ is. record { unit = joined; others = first.others; is = whole; starts = line.starts };
    }

runs_of_lines : {text : List ℕ} {u : Place} {ls : List LineReading} → u.text ≡ text → AreLinesFrom u ls
    → AreRuns text u.at (begin_filled text ls) (line_units text ls)
runs_of_lines {text} same (AreLinesFrom.last {l = l} line at_end) =
    last_runs l (is_blank_line text l) same line (end_of_text ((ahead_in_line line.inside).text ∙ same) at_end)
runs_of_lines {text} same (AreLinesFrom.more {l = l} {ls = ls} line feed rest) =
    more_runs l ls (is_blank_line text l) (is_above text l ls) same line feed refl
    (runs_of_lines (feed.same ∙ (ahead_in_line line.inside).text ∙ same) rest)

-- the units of a text are runs
pub units_are_runs : (text : List ℕ) (units : List UnitReading) → AreUnits text units → AllByRecursion (IsUnitRun text) units
units_are_runs text units are = subst (AllByRecursion (IsUnitRun text)) (sym are.units_are) (runs_of_lines refl are.are).all

-- ---- another text with the same bytes

-- a span with moved byte offsets
abbrev pub moved_range : (ℕ → ℕ) → Range ℕ → Range ℕ
moved_range move r = record { start = move r.start; end = move r.end }

-- a run is also at the moved places of another text, if a line ends at its end there
run_moved : {f : Frame} {u v : Place} {blocks : List (Range ℕ)} {says : FileReading} → Zone f → Stops no_feed (place f.new (f.move f.end))
    → Inside f u → Inside f v → InUnit u blocks says v
    → InUnit (there f u) (map (moved_range f.move) blocks) (moved_file f.move says) (there f v)
run_moved z stops iu iv InUnit.none = InUnit.none
run_moved z stops iu iv (InUnit.skipped char passes rest) =
    let a = inside_between z iu iv (ahead_char char) (ahead_in_unit rest) in
    InUnit.skipped (char_there z iu a char) passes (run_moved z stops a iv rest)
run_moved {f} {u} z stops iu iv (InUnit.line_comment {v = v} m rest) =
    let a = inside_between z iu iv (ahead_line_comment m) (ahead_in_unit rest) in
    let comment : LineComment (there f u) (there f v) = elim (cases_lt v.at f.end) [
      | inl before ↦ line_comment_there z iu a before m
      | inr past ↦
          let b = inside_between z iu a (ahead_char m.sign) (ahead_run m.line.run) in
          let last : f.end ≡ v.at = omega (arith, past, a.end) in
          record {
            inside = there f m.inside;
            sign = char_there z iu b m.sign;
            line = record {
              run = run_there z b a m.line.run;
              stops = subst (λ n. Stops no_feed (place f.new (f.move n))) last stops;
            };
          }
    ] in
    InUnit.line_comment comment (run_moved z stops a iv rest)
run_moved {f} {u} {v} z stops iu iv (InUnit.block {v = x} {first = first} {rest = rest} {blocks = blocks} b left) =
    let a = inside_between z iu iv (ahead_block b) (ahead_in_unit left) in
    subst (λ r. InUnit (there f u) (map (moved_range f.move) (record { start = u.at; end = x.at } ∷ blocks)) r (there f v))
    (sym (moved-then f.move first rest))
    (InUnit.block (block_there z iu a b) (run_moved z stops a iv left))

-- moves byte offsets from the stretch between two offsets to one that begins at another offset
abbrev pub moved_at : ℕ → ℕ → ℕ → ℕ → ℕ
moved_at start end to n = min n end - start + to

-- the frame of two units with the same bytes
abbrev pub unit_frame : List ℕ → UnitReading → List ℕ → UnitReading → Frame
unit_frame text u other v = record {
  old = text;
  new = other;
  move = moved_at u.start u.end v.start;
  from = u.start;
  to = v.start;
  end = u.end;
}

pub ordered : {text : List ℕ} {u : UnitReading} → IsUnitRun text u → u.start ≤ u.end
ordered run = (ahead_in_unit run.inside).at

size_of_unit : {text : List ℕ} {u : UnitReading} → IsUnitRun text u → length (text_of_unit text u) ≡ u.end - u.start
size_of_unit {text} {u} run =
    length-take-le (u.end - u.start) (drop u.start text) (omega (arith, run.within, ordered run, length-drop u.start text))

pub same_size : {text other : List ℕ} {u v : UnitReading} → IsUnitRun text u → IsUnitRun other v
    → text_of_unit text u ≡ text_of_unit other v → u.end - u.start ≡ v.end - v.start
same_size run run' same = sym (size_of_unit run) ∙ ap length same ∙ size_of_unit run'

pub unit_zone : {text other : List ℕ} {u v : UnitReading} → IsUnitRun text u → IsUnitRun other v
    → text_of_unit text u ≡ text_of_unit other v → Zone (unit_frame text u other v)
unit_zone {text} {other} {u} {v} run run' same =
    let size = same_size run run' same in
    record {
      moves = λ n from below. omega (arith, from);
      same = same ∙ ap (λ n. take n (drop v.start other)) (sym size);
      cut = λ {u = x} {v = y} {c} there char below.
          let order = ordered run in
          let order' = ordered run' in
          omega (arith, not_over other v.end run'.border there char (omega (arith, size, order, order')), size, order, order');
    }

-- a place in a unit
pub inside_unit : {text other : List ℕ} (u v : UnitReading) (n : ℕ) → u.start ≤ n → n ≤ u.end
    → Inside (unit_frame text u other v) (place text n)
inside_unit u v n from to = record { text = refl; start = from; end = to; moved = omega (arith, from, to) }

-- the reading of a unit is that of another one with moved byte offsets
pub record IsMovedUnit (move : ℕ → ℕ) (u v : UnitReading) : Type 0 where
  pub blocks : v.blocks ≡ map (moved_range move) u.blocks
  pub says : v.says ≡ moved_file move u.says

pub same_bytes_same_reading : {text other : List ℕ} {u v : UnitReading} → IsUnitRun text u → IsUnitRun other v
    → text_of_unit text u ≡ text_of_unit other v → IsMovedUnit (moved_at u.start u.end v.start) u v
same_bytes_same_reading {text} {other} {u} {v} run run' same =
    let f = unit_frame text u other v in
    let z : Zone f = unit_zone run run' same in
    let size = same_size run run' same in
    let order = ordered run in
    let order' = ordered run' in
    let first : f.move u.start ≡ v.start = omega (arith, order) in
    let last : f.move u.end ≡ v.end = omega (arith, order, order', size) in
    let moved : InUnit (place other (f.move u.start)) (map (moved_range f.move) u.blocks) (moved_file f.move u.says)
    (place other (f.move u.end)) =
    run_moved z (subst (λ n. Stops no_feed (place other n)) (sym last) run'.stops) (inside_unit u v u.start (omega arith) order)
    (inside_unit u v u.end order (omega arith)) run.inside in
    let there : InUnit (place other v.start) (map (moved_range f.move) u.blocks) (moved_file f.move u.says) (place other v.end) =
    subst (λ n. InUnit (place other n) (map (moved_range f.move) u.blocks) (moved_file f.move u.says) (place other v.end)) first
    (subst (λ n. InUnit (place other (f.move u.start)) (map (moved_range f.move) u.blocks) (moved_file f.move u.says) (place other n)) last
    moved) in
    let one = one_run refl run'.inside there in
    record { blocks = one.0; says = one.1 }
