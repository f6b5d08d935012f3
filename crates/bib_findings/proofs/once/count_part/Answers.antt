use Rattle.std.proofs.Common.{◌≡◌, ◌<◌, List, ℕ, Option, Some, None, ap, refl, sym, ◌∙◌, subst}
use Rattle.std.specs.BTreeMap.{get_by_text}
use Rattle.std.specs.String.{string_bytes}
use Rattle.std.proofs.lemmas.List.{length-map}
use Rattle.std.proofs.lemmas.Map.Text.{btree_map_updates_text}
use Rattle.bib_syntax.specs.Views.{part_of}
use Rattle.bib_findings.specs.Counted.{HasIndices, counted_texts, lowercase_part}
use Rattle.bib_findings.specs.declared.once.Counted.{Counted}
use Rattle.bib_findings.proofs.CountedIndexFacts.{counted_again, counted_new, index_within, indices_more, names_kept, names_more}
use Rattle.bib_findings.proofs.once.count_part.Goals as goal

-- the value that is found under a key is the index of the name that equals the key
found : (index_of : List ℕ → Option ℕ) (key name : List ℕ) (got index : Option ℕ) → key ≡ name → got ≡ index_of key → got ≡ index
    → index_of name ≡ index
found index_of key name got index is looked says = sym (ap index_of is) ∙ sym looked ∙ says

pub index-one-requires : goal.index-one-requires
index-one-requires c =
    let name = lowercase_part (part_of c.args.part.now) in
    subst (λ n. c.in-Some.index < n) (sym c.args.counted.now.ok.0)
    (index_within (get_by_text c.args.indices.now) c.args.counted.now.items name c.in-Some.index c.requires
    (found (get_by_text c.args.indices.now) c.as_str.result.now name c.copied.result (Some c.in-Some.index)
    (c.as_str.ensures.value ∙ c.in_ok-name.ensures.ok) (c.copied.ensures ∙ c.get.ensures.value) c.in-Some.is))

pub put-requires : goal.put-requires
put-requires c =
    let name = lowercase_part (part_of c.args.part.now) in
    index_within (get_by_text c.args.indices.now) c.args.counted.now.items name c.in-Some.index c.requires
    (found (get_by_text c.args.indices.now) c.as_str.result.now name c.copied.result (Some c.in-Some.index)
    (c.as_str.ensures.value ∙ c.in_ok-name.ensures.ok) (c.copied.ensures ∙ c.get.ensures.value) c.in-Some.is)

pub returns-in-Some-clause-indices : goal.returns-in-Some-clause-indices
returns-in-Some-clause-indices c =
    let one = c.index-one.result.now in
    let raised : Counted = record { first = one.first; count = c.saturating_add.result } in
    subst (HasIndices (get_by_text c.args.indices.now))
    (sym
    (names_kept c.args.counted.now.items c.put.new.counted.items c.in-Some.index one raised c.index-one.ensures
    (ap (λ n. (part_of one.first.now, n)) c.saturating_add.ensures) c.in_ok-put.ensures)) c.requires

pub returns-in-Some-clause-counted : goal.returns-in-Some-clause-counted
returns-in-Some-clause-counted c =
    let name = lowercase_part (part_of c.args.part.now) in
    let one = c.index-one.result.now in
    let raised : Counted = record { first = one.first; count = c.saturating_add.result } in
    let at : get_by_text c.args.indices.now name ≡ Some c.in-Some.index =
    found (get_by_text c.args.indices.now) c.as_str.result.now name c.copied.result (Some c.in-Some.index)
    (c.as_str.ensures.value ∙ c.in_ok-name.ensures.ok) (c.copied.ensures ∙ c.get.ensures.value) c.in-Some.is in
    counted_again (get_by_text c.args.indices.now) c.args.counted.now.items c.put.new.counted.items (part_of c.args.part.now)
    c.in-Some.index one raised c.requires at
    (index_within (get_by_text c.args.indices.now) c.args.counted.now.items name c.in-Some.index c.requires at) c.index-one.ensures
    (ap (λ n. (part_of one.first.now, n)) c.saturating_add.ensures) c.in_ok-put.ensures

pub returns-clause-indices : goal.returns-clause-indices
returns-clause-indices c =
    let name = string_bytes c.in_ok-name.name in
    let none : get_by_text c.args.indices.now name ≡ None =
    found (get_by_text c.args.indices.now) c.as_str.result.now name c.copied.result None c.as_str.ensures.value
    (c.copied.ensures ∙ c.get.ensures.value) c.in_default.is in
    subst (HasIndices (get_by_text c.insert.new.self))
    (names_more c.args.counted.now.items c.push.new.self.items (record { first = c.args.part; count = 1 }) name
    c.in_ok-push.ensures.items c.in_ok-name.ensures.ok)
    (indices_more (get_by_text c.args.indices.now) (get_by_text c.insert.new.self) (counted_texts c.args.counted.now.items)
    name c.len.result c.requires none
    (c.len.ensures ∙ c.args.counted.now.ok.0
    ∙ sym (length-map c.args.counted.now.items (λ (c : Counted). lowercase_part (part_of c.first.now))))
    (btree_map_updates_text name c.args.indices.now c.insert.new.self (Some c.len.result) c.in_ok-insert.ensures.updates))

pub returns-clause-counted : goal.returns-clause-counted
returns-clause-counted c =
    let name = lowercase_part (part_of c.args.part.now) in
    counted_new (get_by_text c.args.indices.now) c.args.counted.now.items c.push.new.self.items (part_of c.args.part.now)
    (record { first = c.args.part; count = 1 }) c.requires
    (found (get_by_text c.args.indices.now) c.as_str.result.now name c.copied.result None
    (c.as_str.ensures.value ∙ c.in_ok-name.ensures.ok) (c.copied.ensures ∙ c.get.ensures.value) c.in_default.is) refl
    c.in_ok-push.ensures.items
