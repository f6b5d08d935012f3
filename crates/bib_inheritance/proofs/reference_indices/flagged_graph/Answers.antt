use Rattle.std.proofs.Common.{◌≡◌, ℕ, ◌+◌, ◌<◌, List, [], ◌∷◌, ◌++◌, Bool, true, false, ◌&&◌, length, get_or, take, map, sym, ap, ap₂, ◌∙◌, rules}
use Rattle.std.specs.declared.alloc.Global.{Global}
use Rattle.std.specs.declared.vec.Vec.{Vec}
use Rattle.std.proofs.lemmas.List.{get_or-map, map_push, take_more}
use Rattle.bib_collections.specs.Rows.{rows}
use Rattle.bib_collections.specs.Sorted.{ByText}
use Rattle.bib_entry.specs.Parents.{has_references}
use Rattle.bib_entry.specs.declared.entry.Entry.{Entry}
use Rattle.bib_inheritance.specs.EntryTexts.{fields_of}
use Rattle.bib_inheritance.specs.InheritableDate.{looks_for_date}
use Rattle.bib_inheritance.specs.References.{references}
use Rattle.bib_inheritance.specs.Resolving.{graph_by, texts_of_entry}
use Rattle.bib_inheritance.proofs.FlagFacts.{looks_by, unflagged_more}
use Rattle.bib_inheritance.proofs.reference_indices.flagged_graph.Goals as goal

-- one more entry, with its references
references_more : (names : ByText ℕ) (entries : List Entry) (i : ℕ) (e : Entry) (refs : List (Vec ℕ Global))
    (new : Vec ℕ Global) → i < length entries → e ≡ get_or entries i e → new.items ≡ references names (fields_of e.fields)
    → rows refs ≡ graph_by names (take i entries) → rows (refs ++ new ∷ []) ≡ graph_by names (take (i + 1) entries)
references_more names entries i e refs new within is found graph =
    let more : take (i + 1) entries ≡ take i entries ++ e ∷ [] =
    take_more entries i e within ∙ ap (λ x. take i entries ++ x ∷ []) (sym is) in
    map_push (λ (row : Vec ℕ Global). row.items) refs new ∙ ap₂ (λ l x. l ++ x ∷ []) graph found
    ∙ sym (map_push (λ (e : Entry). references names (fields_of e.fields)) (take i entries) e) ∙ ap (graph_by names) (sym more)

-- one more flagged entry, and whether it lacks a required date
looks_more : (entries : List Entry) (flags : List Bool) (i : ℕ) (e : Entry) (looks : List Bool) (is_looking : Bool)
    → i < length entries → flags ≡ map has_references entries → get_or flags i false ≡ true → e ≡ get_or entries i e
    → is_looking ≡ looks_for_date (texts_of_entry e)
    → looks ≡ map looks_by (take i entries) → (looks ++ is_looking ∷ []) ≡ map looks_by (take (i + 1) entries)
looks_more entries flags i e looks is_looking within are flagged is looking before =
    let has : has_references e ≡ true =
    ap has_references is ∙ sym (get_or-map has_references entries i e false within) ∙ sym (ap (λ l. get_or l i false) are) ∙ flagged in
    let more : take (i + 1) entries ≡ take i entries ++ e ∷ [] =
    take_more entries i e within ∙ ap (λ x. take i entries ++ x ∷ []) (sym is) in
    ap₂ (λ l x. l ++ x ∷ []) before (looking ∙ sym (ap (λ b. b && looks_for_date (texts_of_entry e)) has))
    ∙ sym (map_push looks_by (take i entries) e) ∙ ap (map looks_by) (sym more)

pub entries-preserved-then-not-flags-index : goal.entries-preserved-then-not-flags-index
entries-preserved-then-not-flags-index c =
    let more = unflagged_more c.args.names.now c.args.entries.now c.args.flags.now c.entries.index c.entries.refs.items
    c.entries.looks.items c.new.result c.entries-test.true c.requires c.if-not-flags-index.true c.new.ensures.items
    c.entries.invariant.graph c.entries.invariant.looks in
    record {
      graph = ap rows c.in_ok-push.ensures.items ∙ more.0;
      looks = c.in_ok-push-2.ensures.items ∙ more.1;
    }

pub entries-preserved : goal.entries-preserved
entries-preserved c = record {
  graph =
      ap rows c.in_ok-push-3.ensures.items
      ∙ references_more c.args.names.now c.args.entries.now c.entries.index c.index-entries-index.result c.entries.refs.items
      c.in_ok-found.found c.entries-test.true c.index-entries-index.is c.in_ok-found.ensures c.entries.invariant.graph;
  looks =
      c.in_ok-push-4.ensures.items
      ∙ looks_more c.args.entries.now c.args.flags.now c.entries.index c.index-entries-index.result c.entries.looks.items _
      c.entries-test.true c.requires c.if-not-flags-index.false c.index-entries-index.is (search rules) c.entries.invariant.looks;
}
