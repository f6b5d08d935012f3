-- Meaning: words of public contracts.
-- Getting fields of a map as values of a type, and the errors, with the texts of the Rust crate `biblatex`.
use Rattle.std.specs.Prelude.{◌≡◌, ◌≢◌, ℕ, List, ◌++◌, codes, Option, Some, None, Result, Ok, Err, IsSomeAnd, option_and_then, ⊤}
use Rattle.std.specs.Borrow.{Bor}
use Rattle.std.specs.Option.{option_or}
use Rattle.std.specs.FinMap as by_name
use Rattle.bib_tables.specs.TypeError.{type_error_text}
use Rattle.bib_tables.specs.declared.type_error.TypeErrorKind.{TypeErrorKind}
use Rattle.bib_tables.specs.declared.type_error.TypeErrorKind.TheVariants as kind
use Rattle.bib_tables.specs.declared.type_error.TypeError.{TypeError as ATypeError}
use Rattle.bib_collections.specs.Sorted.{ByText}
use Rattle.bib_typed.specs.declared.typed.Type.{Ghosts}
use Rattle.bib_chunks.specs.Styled.{whole_span}
use Rattle.bib_chunks.specs.Values.{Value}
use Rattle.bib_typed.specs.declared.retrieval.RetrievalError.{RetrievalError}
use Rattle.bib_typed.specs.declared.retrieval.RetrievalError.TheVariants.{Missing, TypeError, OutOfMemory}

-- the text of an error: it contains the name of the missing field, is the text of the chunks' error, or says that memory ran
-- out
abbrev pub retrieval_text : RetrievalError → List ℕ
retrieval_text (Missing name) = codes "field " ++ name ++ codes " is missing"
retrieval_text (TypeError e) = type_error_text e
retrieval_text OutOfMemory = codes "out of memory"

-- the error of a field whose chunks have an error of this kind; out of memory is not a `TypeError`
abbrev pub retrieval_error : TypeErrorKind → ATypeError → RetrievalError
retrieval_error kind.OutOfMemory e = OutOfMemory
retrieval_error _ e = TypeError e

-- the value that a field is parsed as, if it exists and can be parsed
abbrev pub field_as : {M : Type 0} → (Value → Option M) → Option Value → Option M
field_as reads field = option_and_then reads field

-- the result of getting a field as a value of a type: a value with the parsed meaning, or an error. It is `Missing` with
-- this name if there is no field. If the chunks can't be parsed, it is a `TypeError` at their span, of a kind that parsing
-- them may return. It may also be out of memory
abbrev pub IsRetrieved : {V : Type 0} → Ghosts V → Option Value → List ℕ → Result V RetrievalError → Type 0
IsRetrieved type field name (Ok v) = field_as type.reads field ≡ Some (type.meaning v)
IsRetrieved type field name (Err (Missing reported)) = (field ≡ None) × (reported ≡ name)
IsRetrieved type field name (Err (TypeError e)) =
    IsSomeAnd field
    (λ chunks.
    (e.kind ≢ kind.OutOfMemory) × (type.reads chunks ≡ None) × type.may_refuse chunks e.kind
    × (e.span ≡ whole_span chunks))
IsRetrieved type field name (Err OutOfMemory) = ⊤

-- the result of getting the chunks of a field: its chunks. If there is no field, it is `Missing` with this name, or out of
-- memory for the name
abbrev pub AreChunksOf : Option Value → List ℕ → Result (Bor Value) RetrievalError → Type 0
AreChunksOf field name (Ok chunks) = field ≡ Some chunks.now
AreChunksOf field name (Err (Missing reported)) = (field ≡ None) × (reported ≡ name)
AreChunksOf field name (Err (TypeError e)) = ⊥
AreChunksOf field name (Err OutOfMemory) = field ≡ None

-- the field of the first name, or else of the second
abbrev pub one_or_other : ByText Value → List ℕ → List ℕ → Option Value
one_or_other fields name other = option_or (by_name.get fields name) (by_name.get fields other)
