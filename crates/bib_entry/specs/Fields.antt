-- Meaning: words of public contracts.
-- Getting and setting fields of entries as values of a type.
use Rattle.std.specs.Prelude.{◌≡◌, ℕ, List, Option, Some, Result, OnOk, OnErr, IfOk, IfErr}
use Rattle.std.specs.Borrow.{Bor}
use Rattle.std.specs.declared.alloc.AllocError.{AllocError}
use Rattle.std.specs.FinMap as by_name
use Rattle.bib_typed.specs.declared.typed.Type.{Ghosts}
use Rattle.bib_chunks.specs.Values.{Value}
use Rattle.bib_entry.specs.declared.entry.Entry.{Entry}
use Rattle.bib_typed.specs.Retrieved.{AreChunksOf, IsRetrieved, field_as, one_or_other}
use Rattle.bib_typed.specs.declared.retrieval.RetrievalError.{RetrievalError}
use Rattle.bib_typed.specs.declared.setting.SetError.{SetError}

-- `result` is the result of parsing the field of this name as a value of the type
pub record GetsValue {V : Type 0} (type : Ghosts V) (entry : Entry) (name : List ℕ) (result : Result V RetrievalError) : Type 0 where
  pub retrieved : IsRetrieved type (by_name.get entry.fields name) name result

-- the field of the first name, or else of the second
abbrev pub field_or : Entry → List ℕ → List ℕ → Option Value
field_or entry name other = one_or_other entry.fields name other

-- `result` is the result of parsing the field of the first name, or else of the second. If both are missing, the error
-- contains the first name, or is out of memory
pub record GetsEitherValue {V : Type 0} (type : Ghosts V) (entry : Entry) (name other : List ℕ)
    (result : Result V RetrievalError) : Type 0 where
  pub retrieved : IsRetrieved type (field_or entry name other) name result

-- `result` contains the chunks of the field of this name. If the field is missing, the error contains the name, or is out of
-- memory
pub record GetsChunks (entry : Entry) (name : List ℕ) (result : Result (Bor Value) RetrievalError) : Type 0 where
  pub chunks : AreChunksOf (by_name.get entry.fields name) name result

-- `result` contains the chunks of the field of the first name, or else of the second. If both are missing, the error contains
-- the first name, or is out of memory
pub record GetsEitherChunks (entry : Entry) (name other : List ℕ) (result : Result (Bor Value) RetrievalError) : Type 0 where
  pub chunks : AreChunksOf (field_or entry name other) name result

-- an entry with the field of this name set to these chunks
abbrev pub with_field : Entry → List ℕ → Value → Entry
with_field entry name chunks = record entry { fields = by_name.insert entry.fields name chunks }

-- the field of this name is set to these chunks, and no other field changes. The result contains the previous chunks. If
-- memory runs out, nothing changes, and the error contains the new chunks
pub record SetsChunks (chunks : Value) (name : List ℕ) (old new : Entry) (result : Result (Option Value) SetError) : Type 0 where
  pub had : IfOk result (λ had. had ≡ by_name.get old.fields name)
  pub put : OnOk result (new ≡ with_field old name chunks)
  pub refused : OnErr result (new ≡ old)
  pub returned : IfErr result (λ e. e.chunks ≡ chunks)

-- the field of this name is set to the chunks that a value of this meaning is written as, and no other field changes. If the
-- type keeps the value, the field parses back to that value. If memory runs out, nothing changes
pub record SetsValue {V : Type 0} (type : Ghosts V) (m : type.Meaning) (name : List ℕ) (old new : Entry)
    (result : Result (Unit {0}) AllocError) : Type 0 where
  pub set : OnOk result (new ≡ with_field old name (type.writes m))
  pub kept : OnOk result (type.kept m → field_as type.reads (by_name.get new.fields name) ≡ Some m)
  pub refused : OnErr result (new ≡ old)
