-- The notes on references.
use Rattle.std.proofs.Common.{◌≡◌, inl, inr, ℕ, ◌+◌, ◌<◌, List, [], ◌∷◌, ◌++◌, length, take, get_or, append-nil, sym, ap, ◌∙◌}
use Rattle.std.proofs.lemmas.List.{map-append, take_more}
use Rattle.std.proofs.lemmas.Grind.{flat_map-append}
use Rattle.std.specs.List.{flat_map}
use Rattle.std.specs.Prelude.{◌≢◌}
use Rattle.bib_source.specs.Positions.{position_at}
use Rattle.bib_syntax.specs.Errors.{Refuses}
use Rattle.bib_syntax.specs.Grammar.{IsFile}
use Rattle.bib_syntax.specs.declared.raw.ParseError.{ParseError}
use Rattle.bib_syntax.specs.declared.raw.ParseErrorKind.TheVariants.{OutOfMemory}
use Rattle.edit_strings.specs.Left.{Left}
use Rattle.edit_strings.specs.Views.{left_of, lent_left}
use Rattle.edit_strings.specs.declared.left_references.LeftReference.{LeftReference}
use Rattle.bibkit_edits.specs.LeftNotes.{left_lines, left_note}

-- the notes on the references up to an index are those on the references before it, and the note on the one at it
pub notes_more : (name text : List ℕ) (xs : List LeftReference) (i : ℕ) (x : LeftReference) → i < length xs → x ≡ get_or xs i x
    → (notes old : List ℕ) → old ≡ left_lines name text (lent_left (take i xs))
    → notes ≡ old ++ left_note name (position_at text (left_of x).field.name.start) (left_of x)
    → notes ≡ left_lines name text (lent_left (take (i + 1) xs))
notes_more name text xs i x within is notes old before more =
    let each : Left → List ℕ = λ l. left_note name (position_at text l.field.name.start) l in
    let last : lent_left (take (i + 1) xs) ≡ lent_left (take i xs) ++ left_of x ∷ [] =
    ap lent_left (take_more xs i x within ∙ ap (λ y. take i xs ++ y ∷ []) (sym is)) ∙ map-append left_of (take i xs) (x ∷ []) in
    more ∙ ap (λ l. l ++ each (left_of x)) before
    ∙ ap (λ l. flat_map each (lent_left (take i xs)) ++ l) (sym (append-nil (each (left_of x))))
    ∙ sym (flat_map-append each (lent_left (take i xs)) (left_of x ∷ [])) ∙ ap (flat_map each) (sym last)

-- a text that is refused with an error other than out of memory isn't a file of the grammar
pub no_file : (text : List ℕ) (e : ParseError) → e.kind ≢ OutOfMemory → Refuses text e (IsFile text → ⊥) → IsFile text → ⊥
no_file text e kept (inl is) file = kept (ap (λ (x : ParseError). x.kind) is)
no_file text e kept (inr (report, refused)) file = refused file
