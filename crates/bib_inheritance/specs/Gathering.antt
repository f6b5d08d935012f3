-- Machinery: words of private contracts.
-- Fields collected from references.
use Rattle.std.specs.Prelude.{ℕ, not, ◌&&◌, List, option_map, Option, None, if◌then◌else◌}
use Rattle.std.specs.BTreeMap as tree
use Rattle.std.specs.BTreeMap.{BTreeMap}
use Rattle.std.specs.Map.{lookup}
use Rattle.std.specs.Cmp.Lexicographic.{slice_cmp}
use Rattle.std.specs.Ordering.{nat_cmp}
use denote.Ref.{Bor}
use Rattle.bib_text.specs.declared.spanned.Spanned.{Spanned}
use Rattle.bib_chunks.specs.declared.chunk.Chunk.{Chunk}
use Rattle.bib_chunks.specs.Styled.{Atom, styled}
use Rattle.bib_tables.specs.Requirements.{Names, is_one_of, never_inherited}
use Rattle.bib_inheritance.specs.Inherited.{offer}
use Rattle.bib_inheritance.specs.EntryTexts.{EntryTexts}

-- the styled text of the collected field of a name
abbrev pub gathered_text_in : List (Bor (List ℕ) × Bor (List (Spanned Chunk))) → List ℕ → Option (List Atom)
gathered_text_in gathered name =
    option_map (λ chunks. styled chunks.now) (lookup (tree.is_at (λ key. slice_cmp nat_cmp name key.now)) gathered)

-- the styled text of the collected field of a name, in the map of the collected fields
abbrev pub gathered_text : BTreeMap (Bor (List ℕ)) (Bor (List (Spanned Chunk))) → List ℕ → Option (List Atom)
gathered_text gathered name = gathered_text_in gathered.entries name

-- the field that an entry offers for a name, if the name is one of these and may be inherited at all
abbrev pub offer_among : Names → EntryTexts → List ℕ → Option (List Atom)
offer_among names reference name = if not (is_one_of never_inherited name) && is_one_of names name then offer reference name else None
