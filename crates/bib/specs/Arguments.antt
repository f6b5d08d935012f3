-- Meaning: words of public contracts.
-- The arguments of the program, and its output for them.
use Rattle.std.specs.Prelude.{◌≡◌, ◌≢◌, ℕ, List, [], map, drop, codes, IfErr, Result, Ok, Err}
use Rattle.std.specs.Result.{result_map_both}
use Rattle.std.specs.String.{string_bytes}
use Rattle.std.specs.IoError.{error_kind}
use Rattle.std.specs.Vec.Iter.{into_iter_items}
use Rattle.std.specs.declared.string.String.{String}
use Rattle.std.specs.declared.vec.IntoIter.{IntoIter}
use Rattle.std.specs.declared.io.Error.{Error}
use Rattle.std.specs.declared.io.ErrorKind.{ErrorKind}
use Rattle.std.specs.declared.io.ErrorKind.TheVariants.{OutOfMemory}
use Rattle.bib.specs.Output.{IsAnswer, error_line}

-- the texts of the arguments, or the kind of the error of reading them
abbrev pub texts_of : {A B : Type 0} → Result (IntoIter (String A) B) Error → Result (List (List ℕ)) ErrorKind
texts_of arguments = result_map_both (λ all. map string_bytes (into_iter_items all)) error_kind arguments

-- the arguments after the program's name; none if reading the arguments failed
abbrev pub program_words : Result (List (List ℕ)) ErrorKind → List (List ℕ)
program_words (Ok texts) = drop 1 texts
program_words (Err error_answer) = []

-- reading the arguments succeeded, or failed with an error other than out of memory
abbrev pub AreArgumentsKnown : Result (List (List ℕ)) ErrorKind → Type 0
AreArgumentsKnown texts = IfErr texts (λ error_answer. error_answer ≢ OutOfMemory)

-- reading the arguments succeeded, or failed with out of memory
abbrev pub IsMemoryLacking : Result (List (List ℕ)) ErrorKind → Type 0
IsMemoryLacking texts = IfErr texts (λ error_answer. error_answer ≡ OutOfMemory)

-- the output and the exit status for these arguments: for out of memory while reading them, or as in `IsAnswer`. `given`,
-- `failed` and `read` are those of `IsAnswer`
pub data IsStartAnswer (texts : Result (List (List ℕ)) ErrorKind) (given : List ℕ → Type 0) (failed read : Type 0) :
    List ℕ → ℕ → Type 0 where
  no_memory : IsMemoryLacking texts → IsStartAnswer texts given failed read (error_line (codes "out of memory")) 3
  answered : {text : List ℕ} {status : ℕ} → AreArgumentsKnown texts
      → IsAnswer (program_words texts) given failed read text status → IsStartAnswer texts given failed read text status
