use Rattle.std.proofs.Common.{◌∙◌, ℕ, List, [], Some, None, cond, ap, map, sym, take, get_or, arith}
use Rattle.std.specs.Prelude.{bytes_eq}
use Rattle.std.specs.Borrow.{Bor}
use Rattle.bib_queries.specs.Needed.{is_listed}
use Rattle.bib_queries.proofs.MarkFacts.{any_more}
use Rattle.std.specs.Option.{option_or}
use Rattle.bib_text.proofs.OptionFacts.{or_none}
use Rattle.edit_entries.specs.NewKeys.{index_for}
use Rattle.edit_entries.proofs.IndexFacts.{given_more}
use Rattle.edit_entries.proofs.new_keys.give_indices.Goals as goal

pub names-init : goal.names-init
names-init c = λ other. sym (or_none (index_for c.args.indices.now other))

pub names-preserved : goal.names-preserved
names-preserved c = λ other.
    let nobody : Bor (List ℕ) = record { ref_ptr = (0, 0); now = [] } in
    let name : List ℕ = (get_or c.args.names.now c.names.name-index nobody).now in
    let before = index_for c.args.indices.now other in
    let listed = is_listed (map (λ n. n.now) (take c.names.name-index c.args.names.now)) other in
    c.in_ok-give_index.ensures other
    ∙ ap (λ o. option_or o (cond (bytes_eq name other) (Some c.args.index) None)) (c.names.invariant other)
    ∙ given_more before (bytes_eq name other) listed c.args.index
    ∙ ap (λ b. option_or before (cond b (Some c.args.index) None))
    (sym (any_more (λ n. n.now) (λ one. bytes_eq one other) c.args.names.now c.names.name-index nobody (omega arith)))
