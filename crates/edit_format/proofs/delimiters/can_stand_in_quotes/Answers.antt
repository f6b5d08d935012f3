use Rattle.std.proofs.Common.{◌≡◌, ℕ, List, ◌∷◌, slice_index_or}
use Rattle.edit_format.specs.Delimited.{hide_quotes}
use Rattle.bib_text.proofs.ListFacts.{next_is}
use Rattle.edit_format.proofs.ByteStepFacts.{hidden_sign, plain_sign, slash_sign}
use Rattle.edit_format.proofs.delimiters.can_stand_in_quotes.Goals.{then-is_hidden, else-is_hidden+then-byte-eq92, else-is_hidden+else-byte-eq92+else-byte-eq34}
use Rattle.edit_format.proofs.delimiters.can_stand_in_quotes.Goals as goal

pub bytes-preserved : goal.bytes-preserved
bytes-preserved c =
    let was = c.bytes.is_hidden in
    let h = c.if-is_hidden.is_hidden in
    let all = c.as_bytes-byte-items.result.now in
    let i = c.bytes.byte-index in
    let b = slice_index_or all i 0 in
    let left =
    λ (step : (bs : List ℕ) → hide_quotes was (b ∷ bs) ≡ hide_quotes h bs).
    next_is (hide_quotes was) (hide_quotes h) all i c.bytes-test.true step c.bytes.invariant in
    elim c.if-is_hidden.branch [
      | then-is_hidden w ↦ left (λ bs. hidden_sign was h b bs w.if-is_hidden.true w.is_hidden-is)
      | else-is_hidden+then-byte-eq92 w ↦ left (λ bs. slash_sign was h b bs w.if-is_hidden.false w.if-byte-eq92.true w.is_hidden-is)
      | else-is_hidden+else-byte-eq92+else-byte-eq34 w ↦ left
          (λ bs. plain_sign was h b bs w.if-is_hidden.false w.if-byte-eq92.false w.if-byte-eq34.false w.is_hidden-is)
    ]
