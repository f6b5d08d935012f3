-- The findings of an entry's type.
use Rattle.std.proofs.Common.{◌≡◌, ℕ, true, false, List, [], Option, sym, ap, ◌∙◌, cond}
use Rattle.std.specs.Str.{str_to_ascii_lowercase}
use Rattle.bib_syntax.specs.Reading.{EntryReading}
use Rattle.bib_findings.specs.Nearest.{suggestion}
use Rattle.bib_findings.specs.Types.{is_known_type, known_types, meant_type, meant_type_findings, type_findings}

-- a known type has no finding
pub known_right : (said : EntryReading) → is_known_type said.kind.text ≡ true → type_findings said ≡ []
unfolding type_findings
known_right said known = ap (λ b. cond b [] (meant_type_findings said (meant_type said.kind.text))) known

-- an unknown type has a finding if it may mean a known one
pub unknown_by : (said : EntryReading) (meant : Option (List ℕ)) → is_known_type said.kind.text ≡ false
    → meant ≡ meant_type said.kind.text → meant_type_findings said meant ≡ type_findings said
unfolding type_findings
unknown_by said meant unknown is =
    ap (meant_type_findings said) is
    ∙ sym (ap (λ b. cond b [] (meant_type_findings said (meant_type said.kind.text))) unknown)

-- the known type that is suggested for a name in lowercase is the one that the name may mean
pub meant_by : (name lowercase : List ℕ) (meant : Option (List ℕ)) → lowercase ≡ str_to_ascii_lowercase name
    → meant ≡ suggestion known_types lowercase → meant ≡ meant_type name
unfolding meant_type
meant_by name lowercase meant is of = of ∙ ap (suggestion known_types) is
