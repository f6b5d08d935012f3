-- The last definition of each abbreviation.
use Rattle.std.proofs.Common.{◌≡◌, ◌+◌, ℕ, Bool, true, false, List, [], ◌∷◌, ◌++◌, Option, Some, refl, sym, ap, ◌∙◌, cond}
use Rattle.std.specs.Prelude.{bytes_eq, find, reverse}
use Rattle.std.specs.Borrow.{Bor}
use Rattle.std.specs.Map.{update}
use Rattle.std.proofs.lemmas.List.{reverse-append}
use Rattle.bib_text.proofs.BytesFacts.{bytes_turned}
use Rattle.bib_syntax.specs.Reading.{FieldReading}
use Rattle.bib_syntax.specs.Views.{field_of}
use Rattle.bib_syntax.specs.declared.raw.Pair.{Pair}
use Rattle.bib_findings.specs.Counted.{lowercase_name}
use Rattle.bib_findings.specs.LastDefinitions.{AreLastDefinitions, read_definition}

-- storing a definition under its name in lowercase extends the last definitions by it
pub lasts_more : (old new : List ℕ → Option (Bor Pair)) (earlier : List FieldReading) (definition : Bor Pair) (stored : List ℕ)
    → stored ≡ lowercase_name (field_of definition.now) → AreLastDefinitions old earlier
    → ((name : List ℕ) → new name ≡ update bytes_eq old stored (Some definition) name)
    → AreLastDefinitions new (earlier ++ field_of definition.now ∷ [])
lasts_more old new earlier definition stored is are updates name =
    ap read_definition (updates name ∙ ap (λ b. cond b (Some definition) (old name)) turned)
    ∙ by (test one)
    ∙ ap (find test) (sym (reverse-append earlier (one ∷ [])))
  where
    one : FieldReading
    one = field_of definition.now

    test : FieldReading → Bool
    test f = bytes_eq name (lowercase_name f)

    turned : bytes_eq stored name ≡ test one
    turned = ap (λ s. bytes_eq s name) is ∙ bytes_turned (lowercase_name one) name

    by : (b : Bool)
        → read_definition (cond b (Some definition) (old name)) ≡ cond b (Some one) (find test (reverse earlier))
    by true = refl
    by false = are name
