-- Meaning: words of public contracts.
-- The order of people.
use Rattle.std.specs.Prelude.{ℕ, List}
use Rattle.std.specs.Cmp.Lexicographic.{slice_cmp}
use Rattle.std.specs.Option.{option_cmp}
use Rattle.std.specs.Ordering.{bool_cmp, nat_cmp, ordering_then}
use Rattle.std.specs.declared.cmp.Ordering.{Ordering}
use Rattle.bib_people.specs.declared.person.Person.{Person}

-- the order of texts, by their bytes
abbrev pub text_cmp : List ℕ → List ℕ → Ordering
text_cmp = slice_cmp nat_cmp

-- the order of two people: the first of these fields in which they differ decides. An absent optional field comes
-- before a present one, and `false` before `true`
abbrev pub person_cmp : Person → Person → Ordering
person_cmp p q =
    ordering_then (text_cmp p.name q.name)
    (ordering_then (text_cmp p.given_name q.given_name)
    (ordering_then (text_cmp p.prefix q.prefix)
    (ordering_then (text_cmp p.suffix q.suffix)
    (ordering_then (option_cmp text_cmp p.id q.id)
    (ordering_then (option_cmp text_cmp p.prefix_initials q.prefix_initials)
    (ordering_then (option_cmp text_cmp p.given_initials q.given_initials) (option_cmp bool_cmp p.use_prefix q.use_prefix)))))))
