-- Facts about the bibliography recovered from bytes, for UTF-8 and for other bytes.
use Rattle.std.proofs.Common.{◌≡◌, ℕ, List, subst, Some}
use Rattle.std.specs.Str.{IsUtf8}
use Rattle.biblatex_c.specs.Recovered.{IsRecoveredIn, IsRecoveredText, format_numbered}
use Rattle.biblatex_c.specs.Recovered.IsTextOf.{utf8, windows}
use Rattle.biblatex_c.specs.declared.recovering.ExportFormat.{ExportFormat}
use Rattle.bib_source.specs.Encoding.{without_byte_order_mark, windows_1252_text}
use Rattle.bib_source.proofs.MarkFacts.{whole_utf8}

-- a bibliography recovered from the text of UTF-8 bytes is recovered from the bytes
pub recovered_utf8 : (number : ℕ) (format : ExportFormat) (bytes text answer : List ℕ)
    → format_numbered number ≡ Some format → text ≡ bytes → IsUtf8 bytes → IsRecoveredText format text answer
    → IsRecoveredIn number bytes answer
recovered_utf8 number format bytes text answer numbered same is answers =
    record {
      format = format;
      numbered = numbered;
      text = bytes;
      of_bytes = utf8 is;
      answers = subst (λ t. IsRecoveredText format t answer) same answers;
    }

-- a bibliography recovered from the Windows-1252 text of bytes that aren't UTF-8 is recovered from the bytes
pub recovered_windows : (number : ℕ) (format : ExportFormat) (bytes text answer : List ℕ)
    → format_numbered number ≡ Some format → (IsUtf8 bytes → ⊥)
    → (¬ (IsUtf8 (without_byte_order_mark bytes)) → text ≡ windows_1252_text bytes) → IsRecoveredText format text answer
    → IsRecoveredIn number bytes answer
recovered_windows number format bytes text answer numbered other decoded answers =
    let same : text ≡ windows_1252_text bytes = decoded (λ u. other (whole_utf8 bytes u)) in
    record {
      format = format;
      numbered = numbered;
      text = windows_1252_text bytes;
      of_bytes = windows other;
      answers = subst (λ t. IsRecoveredText format t answer) same answers;
    }
