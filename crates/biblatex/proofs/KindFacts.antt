-- The kinds of the errors of a text.
use Rattle.std.proofs.Common.{◌≡◌, ℕ, Bool, true, IsTrue, List, sym, ap, ◌∙◌, subst, inl, inr}
use Rattle.std.proofs.lemmas.Bool.{false≢true}
use Rattle.bib_abbreviations.specs.Abbreviations.{Definitions, IsFirstError}
use Rattle.bib_abbreviations.specs.Abbreviations.{IsFirstError as of_pieces}
use Rattle.bib_file_entries.specs.Loaded.{IsFirstErrorOfEntries, IsFirstErrorOfFields}
use Rattle.bib_file_entries.specs.Loaded.{IsFirstErrorOfEntries as of_entries, IsFirstErrorOfFields as of_fields}
use Rattle.bib_contents.proofs.FailFacts.{fails_kind}
use Rattle.bib_contents.specs.Contents.{IsUnread}
use Rattle.bib_syntax.specs.Errors.{is_syntax}
use Rattle.bib_syntax.specs.Reading.{EntryReading, FieldReading, FileReading, Piece}
use Rattle.bib_syntax.specs.declared.raw.ParseError.{ParseError}
use Rattle.bib_syntax.specs.declared.raw.ParseErrorKind.{ParseErrorKind}
use Rattle.bib_syntax.specs.declared.raw.ParseErrorKind.TheVariants.{MalformedCommand}
use Rattle.biblatex.specs.Resolved.{IsFirstErrorOf}

-- the error of a literal that can't be parsed has another kind than `MalformedCommand`
literal_not_malformed : {kind : ParseErrorKind} → IsUnread kind → kind ≡ MalformedCommand → ⊥
literal_not_malformed (inl ended) is = let clash = sym is ∙ ended in cc
literal_not_malformed (inr closed) is = let clash = sym is ∙ closed in cc

-- no first error of pieces has the kind `MalformedCommand`
pieces_not_malformed : {definitions : Definitions} {is_verbatim : Bool} {path : List (List ℕ)} {pieces : List Piece} {e : ParseError}
    → IsFirstError definitions is_verbatim path pieces e → e.kind ≡ MalformedCommand → ⊥
pieces_not_malformed (of_pieces.unread fails lies) is = literal_not_malformed (fails_kind fails) is
pieces_not_malformed (of_pieces.unknown undefined no_month same) is = let clash = sym is ∙ ap (λ (x : ParseError). x.kind) same in cc
pieces_not_malformed (of_pieces.cycle on_path same) is = let clash = sym is ∙ ap (λ (x : ParseError). x.kind) same in cc
pieces_not_malformed (of_pieces.inside apart defined inner) is = pieces_not_malformed inner is
pieces_not_malformed (of_pieces.following evaluates later) is = pieces_not_malformed later is

-- no first error of fields has the kind `MalformedCommand`
fields_not_malformed : {definitions : Definitions} {fields : List FieldReading} {e : ParseError}
    → IsFirstErrorOfFields definitions fields e → e.kind ≡ MalformedCommand → ⊥
fields_not_malformed (of_fields.here first unread) is = pieces_not_malformed first is
fields_not_malformed (of_fields.following read later) is = fields_not_malformed later is

-- no first error of entries has the kind `MalformedCommand`
entries_not_malformed : {definitions : Definitions} {claimed : List (List ℕ)} {said : List EntryReading}
    {e : ParseError} → IsFirstErrorOfEntries definitions claimed said e → e.kind ≡ MalformedCommand → ⊥
entries_not_malformed (of_entries.duplicate claimed same) is = let clash = sym is ∙ ap (λ (x : ParseError). x.kind) same in cc
entries_not_malformed (of_entries.unreadable fresh first) is = fields_not_malformed first is
entries_not_malformed (of_entries.following fresh entry later) is = entries_not_malformed later is

-- no first error of a raw bibliography has the kind `MalformedCommand`
pub file_not_malformed : {says : FileReading} {e : ParseError} → IsFirstErrorOf says e → e.kind ≡ MalformedCommand → ⊥
file_not_malformed (IsFirstErrorOf.entry first) is = entries_not_malformed first is
file_not_malformed (IsFirstErrorOf.cycle own first error) is = let clash = sym is ∙ ap (λ (x : ParseError). x.kind) error.is in cc
file_not_malformed (IsFirstErrorOf.date own none inherits looks earlier error) is = let clash = sym is ∙ error.is in cc

-- no syntax error has the kind `MalformedCommand`
pub syntax_not_malformed : (kind : ParseErrorKind) → IsTrue (is_syntax kind) → kind ≡ MalformedCommand → ⊥
syntax_not_malformed kind syntax is = false≢true (subst (λ k. is_syntax k ≡ true) is syntax)
