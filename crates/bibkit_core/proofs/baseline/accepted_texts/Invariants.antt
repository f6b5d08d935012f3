use Rattle.std.proofs.Common.{◌≡◌, ℕ, List, map}
use Rattle.std.specs.BTreeSet.{contains_text}
use Rattle.std.specs.List.{flat_map}
use Rattle.bib_queries.specs.Needed.{is_listed}
use Rattle.bibkit_core.specs.Baselines.{texts_of_line}
use Rattle.bibkit_core.proofs.baseline.accepted_texts.Given as goal

-- the set contains the texts of the lines so far
abbrev pub invariant-lines : goal.invariant-lines
invariant-lines l =
    (text : List ℕ) → contains_text l.texts text ≡ is_listed (flat_map texts_of_line (map (λ n. n.now) l.yielded)) text
