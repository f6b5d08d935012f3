-- The errors that are reported if a rule of the grammar fails.
use Rattle.std.proofs.Common.{◌≡◌, ℕ, Bool, true, false, refl, subst, inl, inr, length, ◌∙◌, List}
use Rattle.std.specs.Prelude.{◌==◌, ◌||◌, ◌⊎◌}
use Rattle.bib_text.specs.Braces.{is_plain}
use Rattle.std.specs.Char.{is_ascii_digit}
use Rattle.std.proofs.lemmas.Bool.{false_from_ne_true}
use Rattle.bib_text.specs.Places.{Place, place, CharAt, Stops, AtEnd, EndsOr}
use Rattle.bib_text.proofs.PlaceFacts.{Ahead, same_place, test_clash, stops_without}
use Rattle.bib_syntax.specs.declared.raw.ParseErrorKind.{ParseErrorKind}
use Rattle.bib_syntax.specs.declared.raw.ParseError.{ParseError}
use Rattle.bib_syntax.specs.Characters.{is_id_start}
use Rattle.bib_syntax.specs.SyntaxErrors.{IdentifierFails, FileFails, Reports, error_at_place, text_end, begins_element}
use Rattle.bib_syntax.specs.SyntaxErrors.{IdentifierFails as fails}
use Rattle.bib_syntax.specs.Errors.{Refuses, out_of_memory}
use Rattle.bib_syntax.proofs.QuoteFacts.{is_quotable}

-- the error of this kind at this place is reported if the rule fails with this kind at this place
pub reports_at : {Fails : ParseErrorKind → Place → Type 0} {kind : ParseErrorKind} {e : ParseError} (v : Place)
    → e ≡ error_at_place kind v → Fails kind v → Reports Fails e
reports_at v is fact = record { kind = _; place = v; fails = fact; is = is }

-- if `Fails'` is true of each error of `Fails`, an error that is reported for `Fails` is also reported for `Fails'`
pub reports_as : {Fails Fails' : ParseErrorKind → Place → Type 0} {e : ParseError}
    → ((kind : ParseErrorKind) (v : Place) → Fails kind v → Fails' kind v) → Reports Fails e → Reports Fails' e
reports_as implies r = record { kind = r.kind; place = r.place; fails = implies r.kind r.place r.fails; is = r.is }

-- if the character at a place fails both tests, it fails their disjunction
pub stops_either : (p q : ℕ → Bool) {u : Place} → Stops p u → Stops q u → Stops (λ c. p c || q c) u
stops_either p q first second c v char = rw (first c v char, second c v char) refl

-- a place ahead at the end of the text is `text_end`
pub at_text_end : {u v : Place} → Ahead u v → AtEnd v → v ≡ text_end u
at_text_end {u} {v} ahead end = same_place {u = v} {v = text_end u} ahead.text (subst (λ t. v.at ≡ length t) ahead.text end)

-- the text ends if a run stopped and no character for which `Holds` is true is there
pub ended : {Holds : ℕ → Type 0} {u : Place} → EndsOr Holds u → ((c : ℕ) (v : Place) → CharAt u c v → Holds c → ⊥) → AtEnd u
ended (inl end) none = end
ended (inr here) none = absurd (none here.0 here.1 here.2 here.3)

-- the text ends if a run of quotable characters stopped, and neither a quote nor a backslash is there
pub quoted_at_end : {u : Place} → EndsOr (λ c. is_quotable c ≡ false) u → ((v : Place) → CharAt u 34 v → ⊥)
    → ((v : Place) → CharAt u 92 v → ⊥) → AtEnd u
quoted_at_end stopped quote slash =
    ended stopped
    (λ c v char fails.
    test_clash (is_quotable c) (rw (stops_without 34 quote c v char, stops_without 92 slash c v char) refl)
    fails)

-- the text ends if a run of plain characters stopped, and neither a brace nor a backslash is there
pub braced_at_end : {u : Place} → EndsOr (λ c. is_plain c ≡ false) u → ((v : Place) → CharAt u 123 v → ⊥)
    → ((v : Place) → CharAt u 125 v → ⊥) → ((v : Place) → CharAt u 92 v → ⊥) → AtEnd u
braced_at_end stopped opens closes slash =
    ended stopped
    (λ c v char fails.
    test_clash (is_plain c)
    (rw (
      stops_without 123 opens c v char,
      stops_without 125 closes c v char,
      stops_without 92 slash c v char,
    ) refl) fails)

-- an error at a place ahead at the end of the text is reported at `text_end`
pub reported_at_end : {u v w : Place} {kind : ParseErrorKind} {e : ParseError} → e ≡ error_at_place kind w → w ≡ v
    → Ahead u v → AtEnd v → e ≡ error_at_place kind (text_end u)
reported_at_end {u} {v} {w} {kind} {e} is same ahead end = subst (λ p. e ≡ error_at_place kind p) (same ∙ at_text_end ahead end) is

-- if `v` is ahead of `u`, and a rule fails at `text_end u`, an error at `text_end v` is reported for it
pub reports_end : {Fails : ParseErrorKind → Place → Type 0} {kind : ParseErrorKind} {u v : Place} {e : ParseError}
    → Ahead u v → e ≡ error_at_place kind (text_end v) → Fails kind (text_end u) → Reports Fails e
reports_end {kind = kind} {u = u} {v = v} {e = e} ahead is fact =
    reports_at (text_end u) (subst (λ t. e ≡ error_at_place kind (place t (length t))) ahead.text is) fact

-- no identifier is missing where a character can begin one
pub identifier_begins : {u v : Place} {kind : ParseErrorKind}
    → ((c : ℕ) × (x : Place) × CharAt u c x × (is_id_start c ≡ true)) → IdentifierFails u kind v → ⊥
identifier_begins begins (fails.missing stops) = test_clash _ begins.3 (stops _ _ begins.2)

-- no piece begins at a place without an opening brace, a quote, a digit or a first character of an identifier
pub no_beginning : {u : Place} → ((v : Place) → CharAt u 123 v → ⊥) → ((v : Place) → CharAt u 34 v → ⊥)
    → ((c : ℕ) (v : Place) → CharAt u c v → is_ascii_digit c ≡ false)
    → ((c : ℕ) (v : Place) → CharAt u c v → is_id_start c ≡ false)
    → Stops begins_element u
no_beginning opens quote digit start =
    let signs = stops_either (λ c. c == 123) (λ c. c == 34) (stops_without 123 opens) (stops_without 34 quote) in
    stops_either (λ c. c == 123 || c == 34 || is_ascii_digit c) is_id_start
    (stops_either (λ c. c == 123 || c == 34) is_ascii_digit signs digit) start

-- an error reported at an equal place
pub reported_same : {u v : Place} {kind : ParseErrorKind} {e : ParseError} → e ≡ error_at_place kind u → u ≡ v → e ≡ error_at_place kind v
reported_same {u} {v} {kind} {e} is same = subst (λ p. e ≡ error_at_place kind p) same is

-- any character at a place fails a test if none there passes it
pub stops_unless : (test : ℕ → Bool) {u : Place} → ((c : ℕ) (v : Place) → CharAt u c v → test c ≡ true → ⊥) → Stops test u
stops_unless test none c v char = false_from_ne_true (test c) (none c v char)

-- the text ends if a search for a closing brace stopped and no closing brace is there
pub comment_at_end : {Holds : ℕ → Type 0} {u : Place} → EndsOr Holds u → ((c : ℕ) → Holds c → c == 125 ≡ true)
    → ((v : Place) → CharAt u 125 v → ⊥) → AtEnd u
comment_at_end stopped is_close none =
    ended stopped (λ c v char holds. test_clash (c == 125) (is_close c holds) (stops_without 125 none c v char))

-- the error of a file is out of memory, or it is also the reported error of the file from an equal place
pub reported_from : {u v : Place} {text : List ℕ} {e : ParseError} → u ≡ v → Refuses text e (Reports (FileFails u) e)
    → (e ≡ out_of_memory) ⊎ Reports (FileFails v) e
reported_from same (inl memory) = inl memory
reported_from {e = e} same (inr error) = inr (subst (λ p. Reports (FileFails p) e) same error.1)
