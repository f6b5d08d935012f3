-- Machinery: words of private contracts and of proofs.
-- Texts that close braces opened before them.
use Rattle.std.specs.Prelude.{ℕ, zero, suc}
use Rattle.bib_text.specs.Braces.{Parts}
use Rattle.bib_text.specs.Characters as char
use Rattle.bib_text.specs.Places.{Place, CharAt}

-- from `u` to `v`, parts and a closing brace for each of this number of open braces, and then parts
pub data ClosesOpen : ℕ → Place → Place → Type 0 where
  last : {u v : Place} → Parts u v → ClosesOpen zero u v
  level : {n : ℕ} {u v w x : Place} → Parts u v → CharAt v char.close_brace w → ClosesOpen n w x → ClosesOpen (suc n) u x
