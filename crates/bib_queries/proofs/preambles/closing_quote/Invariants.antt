use Rattle.std.proofs.Common.{◌≡◌, ◌≤◌, ◌-◌, ◌++◌, ◌∷◌, ℕ, List, true, drop, length}
use Rattle.bib_queries.specs.Preambles.{CanBeQuoted, are_quotes_hidden}
use Rattle.bib_queries.proofs.preambles.closing_quote.Given as goal

abbrev pub invariant-bytes : goal.invariant-bytes
invariant-bytes l =
    (inside rest : List ℕ) → CanBeQuoted inside → l.text ≡ inside ++ 34 ∷ rest
    → (l.at ≤ length inside) × (are_quotes_hidden l.is_hidden (drop l.at inside) ≡ true)

abbrev pub decreases-bytes : goal.decreases-bytes
decreases-bytes l = length l.bytes - l.at
