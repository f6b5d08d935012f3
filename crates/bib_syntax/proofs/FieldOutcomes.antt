-- Values, fields and lists of fields match or fail. For a list, this is proved by recursion on a bound above the number of
-- remaining characters.
use Rattle.std.proofs.Common.{◌≡◌, ℕ, zero, suc, ◌<◌, ◌≤◌, arith, Bool, false, List, [], ◌∷◌, inl, inr, refl}
use Rattle.std.specs.Prelude.{not, ◌||◌, ◌==◌}
use Rattle.std.specs.Char.{is_whitespace}
use Rattle.bib_text.specs.Places.{Place, CharAt, Stops}
use Rattle.bib_text.proofs.PlaceFacts.{no_char_at_end}
use Rattle.bib_syntax.specs.declared.raw.ParseErrorKind.{ParseErrorKind}
use Rattle.bib_syntax.specs.Characters.{is_id_start}
use Rattle.bib_syntax.specs.Reading.{part, Piece, ValueReading, FieldReading}
use Rattle.bib_syntax.specs.Grammar.{Elements, Field, LineComment, Gap, Fields, longest}
use Rattle.bib_syntax.specs.Grammar.{Elements as elements}
use Rattle.bib_syntax.specs.Grammar.{Gap as gap}
use Rattle.bib_syntax.specs.Grammar.{Fields as fields}
use Rattle.bib_syntax.specs.SyntaxErrors.{IdentifierFails, ElementsFails, FieldFails, FieldsFails}
use Rattle.bib_syntax.specs.SyntaxErrors.{IdentifierFails as identifier_fail}
use Rattle.bib_syntax.specs.SyntaxErrors.{ElementsFails as elements_fail}
use Rattle.bib_syntax.specs.SyntaxErrors.{FieldFails as field_fail}
use Rattle.bib_syntax.specs.SyntaxErrors.{FieldsFails as fields_fail}
use Rattle.bib_syntax.proofs.LeftFacts.{Left, end_or_char, RuleEnd, found_at, found_as, Outcome, run_found, first, Sign, sign}
use Rattle.bib_syntax.proofs.WordOutcomes.{NameAt, name_outcome, element_outcome}

-- pieces from one place to the other
abbrev ElementsAt : Place → Place → Type 0
ElementsAt u v = (es : List Piece) × Elements longest u es v

-- pieces match, or one fails
elements_outcome : (bound : ℕ) {n : ℕ} {u : Place} → n < bound → Left n u → Outcome n (ElementsAt u) (ElementsFails u)
elements_outcome zero below left = absurd (omega (arith, below))
elements_outcome (suc bound) below left = elim (element_outcome left) [
  | Outcome.fails f ↦ Outcome.fails (elements_fail.first f)
  | Outcome.read e ↦
      let white = run_found is_whitespace e.rest in
      elim (sign 35 white.rest) [
        | Sign.missing stops ↦ Outcome.read (found_as (omega (arith, e.fits)) white (_, elements.last e.rule.1 white.rule stops))
        | Sign.here hash rest less ↦
            let white' = run_found is_whitespace rest in
            elim (elements_outcome bound (omega (arith, below, e.fits, white.fits, less, white'.fits)) white'.rest) [
              | Outcome.fails f ↦ Outcome.fails (elements_fail.more e.rule.1 white.rule hash white'.rule f)
              | Outcome.read es ↦
                  let all = elements.more e.rule.1 white.rule hash white'.rule es.rule.1 in
                  Outcome.read (found_as (omega (arith, e.fits, white.fits, less, white'.fits)) es (_, all))
            ]
      ]
]

-- a field from one place to the other
abbrev FieldAt : Place → Place → Type 0
FieldAt u v = (f : FieldReading) × Field longest u f v

-- a field whose name matches either matches or fails
pub field_outcome : {n : ℕ} {u : Place} → RuleEnd n (NameAt u) → Outcome n (FieldAt u) (FieldFails u)
field_outcome {u = u} name =
    let white = run_found is_whitespace name.rest in
    elim (sign 61 white.rest) [
      | Sign.missing stops ↦ Outcome.fails (field_fail.equals name.rule white.rule stops)
      | Sign.here equals rest less ↦
          let white' = run_found is_whitespace rest in
          elim (elements_outcome (suc white'.left) (omega arith) white'.rest) [
            | Outcome.fails f ↦ Outcome.fails (field_fail.value name.rule white.rule equals white'.rule f)
            | Outcome.read es ↦
                let value : ValueReading = record { pieces = es.rule.0; start = white'.place.at; end = es.place.at } in
                let says : FieldReading = record { name = part u name.place; value = value } in
                Outcome.read (found_as (omega (arith, name.fits, white.fits, less, white'.fits)) es (
                  says,
                  record {
                    name_end = name.place;
                    before_sign = white.place;
                    after_sign = _;
                    value_start = white'.place;
                    name = name.rule;
                    white = white.rule;
                    sign = equals;
                    white' = white'.rule;
                    elements = es.rule.1;
                    starts = refl;
                    ends = refl;
                  },
                ))
          ]
    ]

-- a percent sign begins a line comment
pub line_comment_found : {n : ℕ} {u v : Place} → CharAt u 37 v → Left n v → RuleEnd n (LineComment u)
line_comment_found percent rest =
    let line = run_found (λ c. not (c == 10)) rest in
    found_as (omega arith) line (record { inside = _; sign = percent; line = line.rule })

-- a gap matches at each place with `Left`
pub gap_found : {n : ℕ} {u : Place} → Left n u → RuleEnd n (Gap longest u)
gap_found left =
    let white = run_found is_whitespace left in
    elim (sign 37 white.rest) [
      | Sign.missing stops ↦ found_as (omega arith) white (gap.white white.rule stops)
      | Sign.here percent rest less ↦
          let line = line_comment_found percent rest in
          let white' = run_found is_whitespace line.rest in
          found_as (omega (arith, white.fits, less, line.fits)) white' (gap.line_comment white.rule line.rule white'.rule)
    ]

-- fields from `u`, and a closing brace after them up to `w`
abbrev pub FieldsClosed : Place → Place → Type 0
FieldsClosed u w = (fs : List FieldReading) × (v : Place) × Fields longest u fs v × CharAt v 125 w

-- the character at a place can't begin a name if a name is missing there
name_missing : {u v : Place} {kind : ParseErrorKind} → IdentifierFails u kind v → Stops is_id_start u
name_missing (identifier_fail.missing stops) = stops

-- the disjunction of two false values is false
neither : (a b : Bool) → a ≡ false → b ≡ false → a || b ≡ false
neither a b first second = rw (first, second)

-- fields end or fail if no name begins
fields_end : {n : ℕ} {u : Place} → Stops is_id_start u → Left n u → Outcome n (FieldsClosed u) (FieldsFails u)
fields_end no_name left =
    let white = run_found is_whitespace left in
    elim (sign 125 white.rest) [
      | Sign.here close rest less ↦
          Outcome.read (found_at (omega (arith, white.fits, less)) rest ([], white.place, fields.none white.rule, close))
      | Sign.missing stops ↦ elim (end_or_char white.rest) [
        | inl end ↦ Outcome.fails (fields_fail.ended no_name white.rule end)
        | inr char ↦ Outcome.fails (fields_fail.name no_name white.rule stops (λ end. no_char_at_end end char.2))
      ]
    ]

-- fields end or fail after a field without a comma after it
field_last : {n m : ℕ} {u : Place} (f : RuleEnd n (FieldAt u)) (g : RuleEnd m (Gap longest f.place)) → m ≤ n → Stops (λ c. c == 44) g.place
    → Outcome n (FieldsClosed u) (FieldsFails u)
field_last f g fits no_comma = elim (sign 125 g.rest) [
  | Sign.here close rest less ↦
      Outcome.read (found_at (omega (arith, fits, g.fits, less)) rest (f.rule.0 ∷ [], g.place, fields.last f.rule.1 g.rule, close))
  | Sign.missing no_close ↦
      let missing : Stops (λ c. c == 44 || c == 125) g.place =
      λ c v char. neither (c == 44) (c == 125) (no_comma c v char) (no_close c v char) in
      Outcome.fails (fields_fail.comma f.rule.1 g.rule missing)
]

-- fields and the brace after them match or fail
pub fields_outcome : (bound : ℕ) {n : ℕ} {u : Place} → n < bound → Left n u → Outcome n (FieldsClosed u) (FieldsFails u)
fields_outcome zero below left = absurd (omega (arith, below))
fields_outcome (suc bound) {u = u} below left = elim (name_outcome left) [
  | Outcome.fails none ↦ fields_end (name_missing none) left
  | Outcome.read name ↦ elim (field_outcome name) [
    | Outcome.fails f ↦ Outcome.fails (fields_fail.first f)
    | Outcome.read f ↦
        let g = gap_found f.rest in
        elim (sign 44 g.rest) [
          | Sign.missing stops ↦ field_last f g f.fits stops
          | Sign.here comma rest less ↦
              let h = gap_found rest in
              elim (fields_outcome bound (omega (arith, below, f.fits, g.fits, less, h.fits)) h.rest) [
                | Outcome.fails x ↦ Outcome.fails (fields_fail.more f.rule.1 g.rule comma h.rule x)
                | Outcome.read fs ↦
                    let all = fields.more f.rule.1 g.rule comma h.rule fs.rule.2 in
                    let closed : FieldsClosed u fs.place = (f.rule.0 ∷ fs.rule.0, fs.rule.1, all, fs.rule.3) in
                    Outcome.read (found_as (omega (arith, f.fits, g.fits, less, h.fits)) fs closed)
              ]
        ]
  ]
]
