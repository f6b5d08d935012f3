-- Meaning: words of public contracts.
-- New keys by the indices of entries, and the indices of entries by names, as they are looked up.
use Rattle.std.specs.Prelude.{ℕ, String, if◌then◌else◌, codes, List, Option, None, map, option_and_then}
use Rattle.std.specs.Borrow.{Bor}
use Rattle.std.specs.BTreeMap.{BTreeMap, get_by, get_by_text}
use Rattle.std.specs.Cmp.Lexicographic.{slice_cmp}
use Rattle.std.specs.Ordering.{nat_cmp}
use Rattle.std.specs.Str.{str_to_ascii_lowercase}
use Rattle.bib_syntax.specs.Grammar.{is_word}
use Rattle.std.specs.Option.{option_or}
use Rattle.edit_entries.specs.References.{given_keys, only, unless_other}
use Rattle.edit_entries.specs.declared.new_keys.Names.{Names}
use Rattle.edit_entries.specs.declared.new_keys.NewKeys.{NewKeys}
use Rattle.edit_entries.specs.declared.new_keys.NewKeys.TheVariants.{Each, One}

-- the new keys of entries by their indices
abbrev pub key_for : NewKeys → ℕ → Option (List ℕ)
key_for (One index key) = only index key.now
key_for (Each keys) = given_keys keys.now

-- the index that a map has for a name, if there is one
abbrev pub index_for : BTreeMap (Bor (List ℕ)) ℕ → List ℕ → Option ℕ
index_for indices name = get_by (λ k. slice_cmp nat_cmp name k.now) indices

-- the index that a map has for a name in ASCII lowercase, if there is one
abbrev pub index_for_word : {A : Type 0} → BTreeMap (String A) ℕ → List ℕ → Option ℕ
index_for_word indices name = get_by_text indices (str_to_ascii_lowercase name)

-- the index of the entry that a name in a field means
abbrev pub index_in_names : Names → List ℕ → List ℕ → Option ℕ
index_in_names names field name =
    option_or (index_for names.exact name)
    (if is_word field (codes "crossref")
    then unless_other (map (λ k. k.now) names.texts.items) (index_for_word names.in_lowercase name) (index_for names.aliases name)
    else None)

-- the new key of the entry that a name in a field means, if the entry gets one
abbrev pub name_for : Names → List ℕ → List ℕ → Option (List ℕ)
name_for names field name = option_and_then (key_for names.keys) (index_in_names names field name)
