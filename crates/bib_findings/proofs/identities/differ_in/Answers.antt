use Rattle.std.proofs.Common.{◌≡◌, List, ℕ, [], ap, sym, ◌∙◌, get_or}
use denote.Ref.{Bor}
use Rattle.bib_syntax.specs.Views.{entry_reading_of}
use Rattle.bib_findings.specs.Identities.{are_different, differs_in, own_literal, unhyphened}
use Rattle.bib_findings.proofs.IdentityFacts.{any_gone, any_here}
use Rattle.bib_findings.proofs.identities.differ_in.Goals as goal

abbrev no_name : Bor (List ℕ)
no_name = record { ref_ptr = (0, 0); now = [] }

pub names-preserved : goal.names-preserved
names-preserved c =
    let said = entry_reading_of c.args.said.now in
    let other = entry_reading_of c.args.other.now in
    let name : List ℕ = (get_or c.args.names.now c.names.name-index no_name).now in
    let differ : c.in_ok-are_different.field-0 ≡ differs_in said other name =
    c.in_ok-are_different.ensures
    ∙ ap (λ t. are_different (unhyphened t) (unhyphened c.own_literal-in-names.result.now)) c.own_literal.ensures
    ∙ ap (λ t. are_different (unhyphened (own_literal said name)) (unhyphened t)) c.own_literal-in-names.ensures in
    any_gone (differs_in said other) c.args.names.now c.names.name-index no_name _ c.names-test.true c.names.invariant
    (sym differ ∙ c.if-branch.false)

pub returns-then-branch : goal.returns-then-branch
returns-then-branch c =
    let said = entry_reading_of c.args.said.now in
    let other = entry_reading_of c.args.other.now in
    let name : List ℕ = (get_or c.args.names.now c.names.name-index no_name).now in
    let differ : c.in_ok-are_different.field-0 ≡ differs_in said other name =
    c.in_ok-are_different.ensures
    ∙ ap (λ t. are_different (unhyphened t) (unhyphened c.own_literal-in-names.result.now)) c.own_literal.ensures
    ∙ ap (λ t. are_different (unhyphened (own_literal said name)) (unhyphened t)) c.own_literal-in-names.ensures in
    sym
    (any_here (differs_in said other) c.args.names.now c.names.name-index no_name _ c.names-test.true c.names.invariant
    (sym differ ∙ c.if-branch.true))
