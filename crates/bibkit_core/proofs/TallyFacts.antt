-- The line with the counts.
use Rattle.std.proofs.Common.{◌≡◌, ◌∙◌, ◌++◌, codes, ap, sym, Result, Ok, Err, IfOk, String}
use Rattle.std.specs.Fmt.{decimal}
use Rattle.std.specs.Global.{Global}
use Rattle.std.specs.String.{string_bytes}
use Rattle.bibkit_core.specs.Printed.{counts_line, infos_text}
use Rattle.bibkit_core.specs.declared.tally.Tally.{Tally}

-- if no finding is information, the line has only the counts of errors and of warnings
pub line_without : {E : Type 0} (t : Tally) (r : Result (String Global) E) → t.infos ≡ 0
    → IfOk r (λ text.
    string_bytes text
    ≡ codes "errors: " ++ (decimal t.errors ++ (codes ", warnings: " ++ (decimal t.warnings ++ codes "\n"))))
    → IfOk r (λ text. string_bytes text ≡ counts_line t)
line_without t (Ok text) none is =
    is
    ∙ ap (λ n. codes "errors: " ++ (decimal t.errors ++ (codes ", warnings: " ++ (decimal t.warnings ++ (infos_text n ++ codes "\n")))))
    (sym none)
line_without t (Err e) none is = tt
