-- Machinery: words of private contracts.
-- The names of a bibliography while it is loaded.
use Rattle.std.specs.Prelude.{ℕ, List, map, String, string_bytes}
use Rattle.std.specs.Global.{Global}

-- the pairs with each string replaced by its bytes
abbrev pub text_pairs : List (String Global × ℕ) → List (List ℕ × ℕ)
text_pairs = map (λ e. (string_bytes e.0, e.1))
