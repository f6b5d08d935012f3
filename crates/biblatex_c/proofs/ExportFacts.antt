-- The text that `entries_as` returns is the bibliography in the format.
use Rattle.std.proofs.Common.{◌≡◌, ◌∙◌, List, ℕ, Bool, true, [], ◌++◌, Some, ap, ap₂}
use Rattle.std.specs.Io.KnownBytes.{Appends}
use Rattle.biblatex.specs.Syntax.{Bibliography}
use Rattle.bibkit_convert.specs.Converted.{end, is_first_after, texts_after}
use Rattle.bibkit_convert.specs.declared.target.Target.{Target}
use Rattle.biblatex_c.specs.Calls.{exported_text}

-- the entries appended to an empty text, followed by the end of the format, are the bibliography in the format
pub exported_whole : (target : Target) (b : Bibliography) (before after last answer : List ℕ) (is_empty : Bool)
    → before ≡ [] → Appends (Some before) (Some after) (texts_after target true b.entries)
    → is_empty ≡ is_first_after target true b.entries → last ≡ end target is_empty → answer ≡ after ++ last
    → answer ≡ exported_text target b
exported_whole target b before after last answer is_empty none printed next ends is =
    is ∙ ap₂ ◌++◌ (printed ∙ ap (λ x. x ++ texts_after target true b.entries) none) (ends ∙ ap (end target) next)
