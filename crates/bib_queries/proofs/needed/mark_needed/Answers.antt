use Rattle.std.proofs.Common.{◌≡◌, ◌<◌, ◌∙◌, [], ℕ, List, false, length, map, replicate, ap, sym, subst, rules, arith}
use Rattle.std.specs.List.{All}
use Rattle.std.proofs.lemmas.List.{with_items_is, length-map, nil_from_length}
use Rattle.bib_queries.specs.Needed.{AreMarks, IsNeeded, Node}
use Rattle.bib_queries.specs.Searching.{holders_in}
use Rattle.bib_queries.specs.Texts.{node_of}
use Rattle.bib_queries.proofs.SearchFacts.{IsSearch, holders_below, search_all, search_start, search_step, start_bounded, waiting_below}
use Rattle.bib_queries.proofs.needed.mark_needed.Goals as goal

pub mark_names-requires : goal.mark_names-requires
mark_names-requires c =
    let nodes : List Node = map node_of c.args.links.now in
    let made : c.in_ok-marks.marks.items ≡ replicate (length c.args.links.now) false = search rules in
    start_bounded [] nodes c.in_ok-holders.holders c.deref_mut.result.now
    (c.deref_mut.ensures.value ∙ made ∙ ap (λ n. replicate n false) (sym (length-map c.args.links.now node_of)))
    c.in_ok-holders.ensures

pub search-init : goal.search-init
search-init c =
    let nodes : List Node = map node_of c.args.links.now in
    let made : c.in_ok-marks.marks.items ≡ replicate (length c.args.links.now) false = search rules in
    let len : length c.mark_names.new.marks ≡ length c.in_ok-marks.marks.items =
    c.in_ok-mark_names.ensures.length ∙ ap length c.deref_mut.ensures.value in
    rw (with_items_is c.in_ok-marks.marks c.mark_names.new.marks (omega (arith, len, c.in_ok-marks.marks.ok.0)))
    (search_start (map (λ n. n.now) c.args.names.now) nodes c.in_ok-holders.holders c.mark_names.new.holders
    c.deref_mut.result.now c.mark_names.new.marks c.new-pending.result.items c.mark_names.new.pending.items
    (c.deref_mut.ensures.value ∙ made ∙ ap (λ n. replicate n false) (sym (length-map c.args.links.now node_of)))
    c.new-pending.ensures.items c.in_ok-mark_names.ensures.length c.in_ok-mark_names.ensures.marks
    c.in_ok-mark_names.ensures.expands c.in_ok-holders.ensures)

pub bounds-links-index : goal.bounds-links-index
bounds-links-index c =
    let below =
    waiting_below (map (λ n. n.now) c.args.names.now) (map node_of c.args.links.now) c.search.holders
    c.search.marks.items c.search.pending.items c.pop.new.self.items c.in-Some.index c.in-Some.ensures.items
    c.search.invariant in
    omega (arith, below, length-map c.args.links.now node_of)

pub offset_bounds-links-index : goal.offset_bounds-links-index
offset_bounds-links-index c =
    let below =
    waiting_below (map (λ n. n.now) c.args.names.now) (map node_of c.args.links.now) c.search.holders
    c.search.marks.items c.search.pending.items c.pop.new.self.items c.in-Some.index c.in-Some.ensures.items
    c.search.invariant in
    let within : c.in-Some.index < length c.args.links.now = omega (arith, below, length-map c.args.links.now node_of) in
    search rules

pub mark_names-requires-in-Some : goal.mark_names-requires-in-Some
mark_names-requires-in-Some c = λ other.
    subst (λ l. All (λ i. i < length l) (holders_in c.search.holders other)) (sym c.deref_mut-in-Some.ensures.value)
    (holders_below (map (λ n. n.now) c.args.names.now) (map node_of c.args.links.now) c.search.holders c.search.marks.items
    c.search.invariant.begun other)

pub search-preserved : goal.search-preserved
search-preserved c =
    let names : List (List ℕ) = map (λ n. n.now) c.args.names.now in
    let below =
    waiting_below names (map node_of c.args.links.now) c.search.holders c.search.marks.items c.search.pending.items
    c.pop.new.self.items c.in-Some.index c.in-Some.ensures.items c.search.invariant in
    let within : c.in-Some.index < length c.args.links.now = omega (arith, below, length-map c.args.links.now node_of) in
    let says = c.in_ok-mark_names-2.ensures in
    let len : length c.mark_names-in-Some.new.marks ≡ length c.search.marks.items =
    says.length ∙ ap length c.deref_mut-in-Some.ensures.value in
    rw (with_items_is c.search.marks c.mark_names-in-Some.new.marks (omega (arith, len, c.search.marks.ok.0)))
    (search_step names c.args.links.now c.search.holders c.mark_names-in-Some.new.holders c.search.marks.items
    c.deref_mut-in-Some.result.now c.mark_names-in-Some.new.marks c.search.pending.items c.pop.new.self.items
    c.mark_names-in-Some.new.pending.items
    c.in-Some.index c.index-links-index.result c.deref.result.now c.deref_mut-in-Some.ensures.value
    c.in-Some.ensures.items within c.index-links-index.is
    (c.deref.ensures.value ∙ ap (λ l. l.references.items) (sym c.index-links-index.is)) says.length says.marks
    says.expands c.search.invariant)

pub returns : goal.returns
returns c =
    let names : List (List ℕ) = map (λ n. n.now) c.args.names.now in
    let nodes : List Node = map node_of c.args.links.now in
    let none : c.search.pending.items ≡ [] =
    nil_from_length c.search.pending.items (omega (arith, c.in_default.ensures.cases.0, c.search.pending.ok.0)) in
    subst (λ n. AreMarks (IsNeeded names nodes) n c.search.marks.items) (length-map c.args.links.now node_of)
    (search_all names nodes c.search.holders c.search.marks.items
    (subst (λ l. IsSearch names nodes c.search.holders c.search.marks.items l) none c.search.invariant))
