use Rattle.std.proofs.Common.{◌≡◌, ◌↔◌, ◌⊎◌, true, map, arith, subst}
use Rattle.std.specs.List.{Contains}
use Rattle.std.proofs.lemmas.List.{take_all}
use Rattle.bib_queries.specs.Needed.{is_listed}
use Rattle.bib_queries.specs.Searching.{holders_in}
use Rattle.bib_queries.proofs.SearchFacts.{holder_more, among_more}
use Rattle.bib_queries.proofs.needed.add_holders.Goals as goal

pub names-preserved : goal.names-preserved
names-preserved c = λ name one.
    holder_more _ (holders_in c.args.holders.now name) (holders_in c.names.holders name)
    (holders_in c.add_holder.new.holders name) c.args.index one _ _
    (c.in_ok-add_holder.ensures name) (among_more c.args.names.now c.names.name-index _ name (omega arith)) (c.names.invariant name one)

pub returns : goal.returns
returns c = λ name one.
    subst
    (λ l.
    Contains (holders_in c.names.holders name) one ↔
    (Contains (holders_in c.args.holders.now name) one
    ⊎ ((one ≡ c.args.index) × (is_listed (map (λ n. n.now) l) name ≡ true))))
    (take_all c.names.name-index c.args.names.now c.names-test.false) (c.names.invariant name one)
