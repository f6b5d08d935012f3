use Rattle.std.proofs.Common.{◌<◌, ◌+◌, length, get_or, sym, ◌∙◌, refl, arith}
use Rattle.std.proofs.lemmas.Str.{IsCharBoundary-after_ascii}
use Rattle.bib_text.specs.Places.{place, CharAt}
use Rattle.bib_text.proofs.PlaceFacts.{ascii_here, boundary_after}
use Rattle.bib_contents.proofs.PlainFacts.{itself_start, itself_ordinary, itself_alone, itself_char, itself_reads, reads_moved}
use Rattle.bib_contents.proofs.characters.Characters.eat_as_is.Goals as goal
use Rattle.bib_contents.proofs.characters.Characters.eat_as_is.Goals.{then-is_ordinary, else-is_ordinary}

pub run-init : goal.run-init
run-init c = (
  omega arith,
  rw c.self.invariant.1 c.cursor-start.ensures.boundary,
  itself_start c.args.is_verbatim c.self.inside.text.now c.cursor-start.result
      (rw (c.self.invariant.1, c.cursor-start.ensures.place) c.self.invariant.2),
)

pub is_alone-requires : goal.is_alone-requires
is_alone-requires c =
    let bytes = c.as_bytes-bytes.ensures.value in
    let within : c.run.at < length c.self.inside.text.now = rw bytes at c.run-test.true in
    let ascii : get_or c.self.inside.text.now c.run.at 0 < 128 = rw bytes at c.if-byte-lt128.true in
    IsCharBoundary-after_ascii _ _ c.self.invariant.0 within ascii

pub run-preserved-then-byte-lt128 : goal.run-preserved-then-byte-lt128
run-preserved-then-byte-lt128 c =
    let bytes = c.as_bytes-bytes.ensures.value in
    let within : c.run.at < length c.self.inside.text.now = rw bytes at c.run-test.true in
    let ascii : get_or c.self.inside.text.now c.run.at 0 < 128 = rw bytes at c.if-byte-lt128.true in
    let char : CharAt (place c.self.inside.text.now c.run.at) (get_or c.as_bytes-bytes.result.now c.run.at 0)
    (place c.self.inside.text.now (c.run.at + 1)) =
    rw bytes (ascii_here c.self.inside.text.now c.run.at within ascii) in (
      omega (arith, c.run.invariant.0),
      IsCharBoundary-after_ascii _ _ c.self.invariant.0 within ascii,
      elim c.if-is_ordinary.branch [
        | then-is_ordinary w ↦ itself_ordinary c.run.invariant.2 char (sym c.is_ordinary.ensures ∙ w.if-is_ordinary.true)
        | else-is_ordinary w ↦ itself_alone c.run.invariant.2 char (sym w.is_alone.ensures ∙ sym w.value-is ∙ c.if-not-is_alone.false)
      ],
    )

pub run-preserved : goal.run-preserved
run-preserved c =
    let width = c.len_utf8.ensures.value in (
      omega (arith, c.run.invariant.0),
      rw width (boundary_after _ _ refl c.self.invariant.0 c.run.invariant.1 c.in-Some.ensures.1),
      rw width
          (itself_char _ _ c.run.invariant.2 c.in-Some.ensures.1
          (sym c.is_ordinary-else-byte-lt128.ensures ∙ c.if-not-is_ordinary.false)),
    )

pub returns : goal.returns
returns c =
    rw (← c.self.view_is) (reads_moved c.self.inside.text.now c.cursor-start.result c.run.at c.self.inside.scanner
    c.jump.new.self c.self.invariant.1 c.cursor-start.ensures.place c.jump.ensures
    (itself_reads c.range.result.now c.run.invariant.2 c.range.utf8 c.range.ensures.value))
