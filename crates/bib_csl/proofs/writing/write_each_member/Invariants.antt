use Rattle.std.proofs.Common.{◌≡◌, ◌++◌}
use Rattle.std.specs.List.{flat_map}
use Rattle.bib_csl.specs.Tokens.{member_tokens}
use Rattle.bib_csl.proofs.writing.write_each_member.Given as goal

abbrev pub invariant-members : goal.invariant-members
invariant-members l =
    (l.out.tokens ++ flat_map (λ m. member_tokens m.0.now m.1) l.name-iterator
    ≡ l.initial.out.tokens ++ flat_map (λ m. member_tokens m.0.now m.1) l.initial.name-iterator)
    × (l.out.before ≡ l.initial.out.before)
