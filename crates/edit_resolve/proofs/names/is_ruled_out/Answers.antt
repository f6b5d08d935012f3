use Rattle.std.proofs.Common.{◌≡◌, ◌∙◌, Bool, false, [], ap, sym}
use Rattle.std.specs.Prelude.{unwrap_or, ◌||◌}
use Rattle.std.specs.BTreeSet.{contains_text}
use Rattle.std.specs.List.{list_any}
use Rattle.bib_text.proofs.EnumFacts.{named_none}
use Rattle.edit_resolve.specs.Inheritance.{rival_names}
use Rattle.edit_resolve.proofs.names.is_ruled_out.Goals as goal

pub returns-in_default : goal.returns-in_default
returns-in_default c =
    let names = c.args.names.now in
    let name = c.args.name.now in
    sym
    (ap (λ found. contains_text names name || list_any (contains_text names) (unwrap_or found []))
    (named_none rival_names name (c.in_default.not-date, (c.in_default.not-year, (c.in_default.not-month, (c.in_default.not-day, tt)))))
    ∙ none (contains_text names name) (sym c.contains.ensures ∙ c.if-contains.false))
  where
    none : (b : Bool) → b ≡ false → (b || false) ≡ false
    none b is = ap (λ b. b || false) is
