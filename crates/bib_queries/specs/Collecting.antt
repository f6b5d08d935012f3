-- Machinery: words of private contracts.
-- Steps of collecting citations.
use Rattle.std.specs.Prelude.{◌≡◌, ℕ, ◌||◌, List, String, bytes_eq, fold, is_some}
use Rattle.std.specs.Global.{Global}
use Rattle.std.specs.List.{list_any}
use Rattle.std.specs.BTreeMap.{BTreeMap, get_by_text}
use Rattle.bib_queries.specs.Citations.{add_citation, cites_all}
use Rattle.bib_queries.specs.Needed.{is_listed}
use Rattle.bib_queries.specs.declared.citations.Citation.{Citation}
use Rattle.bib_queries.specs.declared.citations.Collected.{Collected}

-- whether the set of keys contains exactly the keys of the citations
abbrev pub IsSeen : Collected → Type 0
IsSeen c = (key : List ℕ) → is_some (get_by_text c.seen key) ≡ list_any (λ k. bytes_eq k.key key) c.keys.items

-- whether `new` is `old`, extended by the citations `cites`
pub record IsCollected (old : Collected) (cites : List Citation) (new : Collected) : Type 0 where
  pub keys : new.keys.items ≡ fold add_citation old.keys.items cites
  pub all : new.all ≡ (old.all || cites_all cites)
  pub seen : IsSeen new

-- whether a map contains exactly these names
abbrev pub IsSetOf : {V : Type 0} → BTreeMap (String Global) V → List (List ℕ) → Type 0
IsSetOf sets names = (key : List ℕ) → is_some (get_by_text sets key) ≡ is_listed names key
