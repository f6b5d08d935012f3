-- Chunks, fields and entries, one after another.
use Rattle.std.proofs.Common.{◌≡◌, ◌+◌, ℕ, List, [], ◌∷◌, ◌++◌, refl, sym, ap, ◌∙◌, append_assoc}
use Rattle.std.specs.Prelude.{Result, Ok, Err}
use Rattle.json.specs.Json.{Json}
use Rattle.bib_chunks.specs.Values.{Value, nowhere}
use Rattle.bib_chunks.specs.declared.chunk.Chunk.{Chunk}
use Rattle.bib_from_json.specs.GivenChunks.{before_chunks, chunk_in, chunks_from, field_chunks}
use Rattle.bib_from_json.specs.GivenEntries.{before_entries, before_given_fields, entries_of_elements, entry_of_element, fields_from, unfit_in}
use Rattle.bib_from_json.specs.declared.given.GivenEntry.{GivenEntry}
use Rattle.bib_from_json.specs.declared.given.GivenField.{GivenField}
use Rattle.bib_from_json.specs.declared.reading.Fault.{Fault}
use Rattle.bib_from_json.specs.declared.reading.UnfitEntry.{UnfitEntry}

-- elements after others, unless there is a fault
abbrev pub after : {T E : Type 0} → List T → Result (List T) E → Result (List T) E
after before (Ok rest) = Ok (before ++ rest)
after before (Err fault) = Err fault

pub after_none : {T E : Type 0} (rest : Result (List T) E) → after [] rest ≡ rest
after_none (Ok rest) = refl
after_none (Err fault) = refl

-- a chunk is added to those before it, and a fault is the result
after_chunk : (before : Value) (chunk : Chunk) (rest : Result Value Fault)
    → after before (before_chunks (Ok chunk) rest) ≡ after (before ++ nowhere chunk ∷ []) rest
after_chunk before chunk (Ok rest) = ap Ok (sym (append_assoc before (nowhere chunk ∷ []) rest))
after_chunk before chunk (Err fault) = refl

pub chunk_passed : (before : Value) (j : Json) (js : List Json) (chunk : Chunk) → chunk_in j ≡ Ok chunk
    → after before (chunks_from (j ∷ js)) ≡ after (before ++ nowhere chunk ∷ []) (chunks_from js)
chunk_passed before j js chunk is =
    ap (λ r. after before (before_chunks r (chunks_from js))) is ∙ after_chunk before chunk (chunks_from js)

pub chunk_unfit : (before : Value) (j : Json) (js : List Json) (fault : Fault) → chunk_in j ≡ Err fault
    → after before (chunks_from (j ∷ js)) ≡ Err fault
chunk_unfit before j js fault is = ap (λ r. after before (before_chunks r (chunks_from js))) is

-- a field is added to those before it, and a fault is the result
after_field : (key name : List ℕ) (before : List GivenField) (chunks : Value) (rest : Result (List GivenField) UnfitEntry)
    → after before (before_given_fields key name (Ok chunks) rest) ≡ after (before ++ record { name = name; chunks = chunks } ∷ []) rest
after_field key name before chunks (Ok rest) = ap Ok (sym (append_assoc before (record { name = name; chunks = chunks } ∷ []) rest))
after_field key name before chunks (Err fault) = refl

pub field_passed : (key : List ℕ) (before : List GivenField) (m : List ℕ × Json) (ms : List (List ℕ × Json)) (chunks : Value)
    → field_chunks m.1 ≡ Ok chunks
    → after before (fields_from key (m ∷ ms)) ≡ after (before ++ record { name = m.0; chunks = chunks } ∷ []) (fields_from key ms)
field_passed key before m ms chunks is =
    ap (λ r. after before (before_given_fields key m.0 r (fields_from key ms))) is ∙ after_field key m.0 before chunks (fields_from key ms)

pub field_unfit : (key : List ℕ) (before : List GivenField) (m : List ℕ × Json) (ms : List (List ℕ × Json)) (fault : Fault)
    → field_chunks m.1 ≡ Err fault → after before (fields_from key (m ∷ ms)) ≡ Err (unfit_in fault key m.0)
field_unfit key before m ms fault is = ap (λ r. after before (before_given_fields key m.0 r (fields_from key ms))) is

-- an entry is added to those before it, and a fault is the result
after_entry : (index : ℕ) (before : List GivenEntry) (entry : GivenEntry) (rest : Result (List GivenEntry) (ℕ × UnfitEntry))
    → after before (before_entries index (Ok entry) rest) ≡ after (before ++ entry ∷ []) rest
after_entry index before entry (Ok rest) = ap Ok (sym (append_assoc before (entry ∷ []) rest))
after_entry index before entry (Err fault) = refl

pub entry_passed : (before : List GivenEntry) (index : ℕ) (j : Json) (js : List Json) (entry : GivenEntry) → entry_of_element j ≡ Ok entry
    → after before (entries_of_elements index (j ∷ js)) ≡ after (before ++ entry ∷ []) (entries_of_elements (index + 1) js)
entry_passed before index j js entry is =
    ap (λ r. after before (before_entries index r (entries_of_elements (index + 1) js))) is
    ∙ after_entry index before entry (entries_of_elements (index + 1) js)

pub entry_unfit : (before : List GivenEntry) (index : ℕ) (j : Json) (js : List Json) (unfit : UnfitEntry) → entry_of_element j ≡ Err unfit
    → after before (entries_of_elements index (j ∷ js)) ≡ Err (index, unfit)
entry_unfit before index j js unfit is = ap (λ r. after before (before_entries index r (entries_of_elements (index + 1) js))) is
