use Rattle.std.proofs.Common.{◌≡◌, ◌∙◌, ap, sym, subst, map, get_or, is_some, None, option_map, refl, cond, List, ℕ}
use Rattle.std.specs.Option.{option_copied}
use Rattle.std.proofs.lemmas.List.{get_or-map, get_or_default}
use Rattle.bib_entry.specs.declared.entry.Entry.{Entry}
use Rattle.bib_inheritance.specs.InheritableDate.{date_for}
use Rattle.bib_inheritance.specs.Inherited.{inherited_field}
use Rattle.bib_chunks.specs.Styled.{styled}
use Rattle.bib_inheritance.specs.EntryTexts.{first_named, no_entry}
use Rattle.bib_inheritance.specs.Resolving.{at_index, texts_of_entries, texts_of_entry}
use Rattle.bib_inheritance.specs.Turning.{IsTurned}
use Rattle.bib_inheritance.proofs.TurnFacts.{is_nothing, left_alone, no_indices, turned}
use Rattle.bib_inheritance.proofs.turning.take_turn.Goals as goal

pub returns-then-is_none-clause-turned : goal.returns-then-is_none-clause-turned
returns-then-is_none-clause-turned c =
    let entries = c.args.entries.now in
    let e : Entry = get_or entries c.args.index c.index-entries-index.result in
    left_alone entries c.args.index e c.args.indices.now c.requires.index
    (get_or_default entries c.args.index c.index-entries-index.result e c.requires.index)
    (no_indices c.args.indices.now (sym c.is_empty.ensures ∙ c.if-is_empty.true))
    (sym c.get.ensures ∙ ap option_copied (is_nothing c.get.result c.is_none.ensures c.if-is_none.true))

pub returns-clause-turned : goal.returns-clause-turned
returns-clause-turned c =
    let entries = c.args.entries.now in
    let index = c.args.index in
    let new : Entry = c.set_gain.new.entry in
    let old : Entry = get_or entries index c.index-entries-index-2.result in
    let same : old ≡ get_or entries index new = get_or_default entries index c.index-entries-index-2.result new c.requires.index in
    let refs = map (at_index (texts_of_entries entries)) c.args.indices.now in
    let here : at_index (texts_of_entries entries) index ≡ texts_of_entry old =
    get_or-map texts_of_entry entries index c.index-entries-index-2.result no_entry c.requires.index in (
      new,
      refl,
      subst (λ e. IsTurned e refs new) same (turned old new refs c.in_ok-given.given.items c.in_ok-date.date
          c.in_ok-set_gain.ensures.key c.in_ok-set_gain.ensures.entry_type
          (subst
          (λ s.
          (name : List ℕ)
          → option_map styled (first_named c.in_ok-given.given.items name)
          ≡ cond (is_some (s.fields name)) None (inherited_field s.entry_type name refs)) here
          c.in_ok-given.ensures)
          (subst (λ s. option_map styled c.in_ok-date.date ≡ date_for s refs) here c.in_ok-date.ensures.date)
          c.in_ok-set_gain.ensures.fields),
    )

pub returns-clause-turns : goal.returns-clause-turns
returns-clause-turns c = c.in_ok-push.ensures.items
