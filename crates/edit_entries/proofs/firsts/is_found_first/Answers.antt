use Rattle.std.proofs.Common.{◌≡◌, ◌∙◌, ◌&&◌, ◌||◌, ℕ, Bool, List, true, false, cond, refl, ap, sym}
use Rattle.std.specs.Prelude.{bytes_eq}
use Rattle.std.specs.Borrow.{Bor}
use Rattle.std.proofs.lemmas.Map.Text.{is_eq-slice_cmp}
use Rattle.bib_queries.specs.Sets.{is_in_set}
use Rattle.edit_entries.proofs.firsts.is_found_first.Goals as goal

-- a choice of true is a disjunction
one_more : (same before : Bool) → cond same true before ≡ (before || (true && same))
one_more true true = refl
one_more true false = refl
one_more false true = refl
one_more false false = refl

pub returns-clause-found : goal.returns-clause-found
returns-clause-found c = λ name.
    let key : List ℕ = c.args.key.now in
    let one : Bor (List ℕ) = record { ref_ptr = (0, 0); now = name } in
    let before : Bool = is_in_set c.args.found.now name in
    c.in_ok-insert.ensures.updates.0 one
    ∙ ap (λ b. cond b true before) (is_eq-slice_cmp key name)
    ∙ one_more (bytes_eq key name) before
    ∙ ap (λ b. before || (b && bytes_eq key name)) (sym (sym c.contains.ensures ∙ c.if-not-contains.false))
