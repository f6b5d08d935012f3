use Rattle.std.proofs.lemmas.Grind.{common_steps}
use Rattle.std.proofs.Common.{◌≡◌, false, ℕ, List, ◌∷◌, slice_index_or, arith}
use Rattle.bib_text.specs.Braces.{close_braces}
use Rattle.bib_text.proofs.BraceTestFacts.{close_byte, hidden_byte, open_byte, parts_decided, plain_byte, slash_byte}
use Rattle.bib_text.proofs.ListFacts.{next_is}
use Rattle.bib_text.proofs.braces.has_balanced_braces.Goals.{then-is_hidden, else-is_hidden+then-byte-eq92, else-is_hidden+else-byte-eq92+then-byte-eq123, else-is_hidden+else-byte-eq92+else-byte-eq123+then-byte-eq125+else-depth-eq0, else-is_hidden+else-byte-eq92+else-byte-eq123+else-byte-eq125}
use Rattle.bib_text.proofs.braces.has_balanced_braces.Goals as goal

pub bytes-preserved : goal.bytes-preserved
bytes-preserved c =
    let was = c.bytes.is_hidden in
    let h = c.if-is_hidden.is_hidden in
    let depth = c.bytes.depth in
    let d = c.if-is_hidden.depth in
    let all = c.as_bytes-byte-items.result.now in
    let i = c.bytes.byte-index in
    let b = slice_index_or all i 0 in
    let within = c.bytes.invariant.within in
    let left =
    λ (step : (bs : List ℕ) → close_braces was depth (b ∷ bs) ≡ close_braces h d bs).
    next_is (close_braces was depth) (close_braces h d) all i c.bytes-test.true step c.bytes.invariant.left in
    elim c.if-is_hidden.branch [
      | then-is_hidden w ↦ record {
        left = left (λ bs. hidden_byte was h depth d b bs w.if-is_hidden.true w.is_hidden-is w.depth-is);
        within = omega (arith, within, w.depth-is);
      }
      | else-is_hidden+then-byte-eq92 w ↦ record {
        left =
            left
            (λ bs.
            slash_byte was h depth d b bs w.if-is_hidden.false w.if-byte-eq92.true w.is_hidden-is w.depth-is);
        within = omega (arith, within, w.depth-is);
      }
      | else-is_hidden+else-byte-eq92+then-byte-eq123 w ↦ record {
        left =
            left
            (λ bs.
            open_byte was h depth d b bs w.if-is_hidden.false w.if-byte-eq123.true w.is_hidden-is w.depth-is);
        within = omega (arith, within, w.depth-is);
      }
      | else-is_hidden+else-byte-eq92+else-byte-eq123+then-byte-eq125+else-depth-eq0 w ↦ record {
        left =
            left
            (λ bs.
            close_byte was h depth d b bs w.if-is_hidden.false w.if-byte-eq125.true w.if-depth-eq0.false
            w.is_hidden-is w.depth-is);
        within = omega (arith, within, w.depth-is);
      }
      | else-is_hidden+else-byte-eq92+else-byte-eq123+else-byte-eq125 w ↦ record {
        left =
            left
            (λ bs.
            plain_byte was h depth d b bs w.if-is_hidden.false w.if-byte-eq92.false w.if-byte-eq123.false
            w.if-byte-eq125.false w.is_hidden-is w.depth-is);
        within = omega (arith, within, w.depth-is);
      }
    ]

pub returns-then-depth-eq0-clause-test : goal.returns-then-depth-eq0-clause-test
returns-then-depth-eq0-clause-test c = grind (arith, common_steps)

pub returns-then-depth-eq0-clause-parts : goal.returns-then-depth-eq0-clause-parts
returns-then-depth-eq0-clause-parts c = parts_decided false c.args.text.now c.utf8.text (returns-then-depth-eq0-clause-test c)

pub returns-then-not-is_hidden-clause-test : goal.returns-then-not-is_hidden-clause-test
returns-then-not-is_hidden-clause-test c = grind (arith, common_steps)

pub returns-then-not-is_hidden-clause-parts : goal.returns-then-not-is_hidden-clause-parts
returns-then-not-is_hidden-clause-parts c = parts_decided _ c.args.text.now c.utf8.text (returns-then-not-is_hidden-clause-test c)

pub returns-else-not-is_hidden-clause-test : goal.returns-else-not-is_hidden-clause-test
returns-else-not-is_hidden-clause-test c = grind (arith, common_steps)

pub returns-else-not-is_hidden-clause-parts : goal.returns-else-not-is_hidden-clause-parts
returns-else-not-is_hidden-clause-parts c = parts_decided _ c.args.text.now c.utf8.text (returns-else-not-is_hidden-clause-test c)
