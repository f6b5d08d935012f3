-- Meaning: words of public contracts.
-- The output of a task for several files in turn.
use Rattle.std.specs.Prelude.{◌≡◌, ℕ, Bool, true, false, ◌&&◌, if◌then◌else◌, List, [], ◌∷◌, ◌++◌, map, Option, Some, None}
use Rattle.std.specs.Borrow.{Bor}

-- the names in a list of borrowed names
abbrev pub names_given : List (Bor (List ℕ)) → List (List ℕ)
names_given names = map (λ name. name.now) names

-- the output for a file, and whether the file could be read: the text of the task for its bytes, or an empty text if it couldn't
pub data IsStep {F T : Type 0} (reads : F → List ℕ → Option (List ℕ) → F → Type 0) (prints : T → List ℕ → List ℕ → List ℕ → T → Type 0)
    (files : F) (task : T) (name : List ℕ) : List ℕ → Bool → F → T → Type 0 where
  read : (bytes : List ℕ) {text : List ℕ} {files' : F} {task' : T} → reads files name (Some bytes) files'
      → prints task name bytes text task'
      → IsStep reads prints files task name text true files' task'
  unread : {files' : F} → reads files name None files' → IsStep reads prints files task name [] false files' task

-- the output for files in turn, and whether all of them could be read; a file that can't be read has no output
pub data AreRun {F T : Type 0} (reads : F → List ℕ → Option (List ℕ) → F → Type 0) (prints : T → List ℕ → List ℕ → List ℕ → T → Type 0)
    : F → T → List (List ℕ) → List ℕ → Bool → F → T → Type 0 where
  none : {files : F} {task : T} → AreRun reads prints files task [] [] true files task
  next : {files files'' : F} {task task'' : T} {name : List ℕ} {names : List (List ℕ)} (files' : F) (task' : T)
      (text texts : List ℕ) (is_read are_read : Bool)
      → IsStep reads prints files task name text is_read files' task' → AreRun reads prints files' task' names texts are_read files'' task''
      → AreRun reads prints files task (name ∷ names) (text ++ texts) (is_read && are_read) files'' task''

-- the whole output of a task, and its status: the texts before the files, for each file, and after them; the status is 2 if a file
-- can't be read, otherwise that of the end of the task
pub record IsTaskAnswer {F T : Type 0} (reads : F → List ℕ → Option (List ℕ) → F → Type 0) (begins : T → List ℕ)
    (prints : T → List ℕ → List ℕ → List ℕ → T → Type 0)
    (ends : T → List ℕ → ℕ → Type 0) (files : F) (task : T) (names : List (List ℕ)) (text : List ℕ) (status : ℕ) : Type 0 where
  pub texts : List ℕ
  pub last : List ℕ
  pub are_read : Bool
  pub files' : F
  pub task' : T
  pub end_status : ℕ
  pub run : AreRun reads prints files task names texts are_read files' task'
  pub ended : ends task' last end_status
  pub text_is : text ≡ begins task ++ (texts ++ last)
  pub status_is : status ≡ (if are_read then end_status else 2)

-- an output of a task, with its status if it is whole: an empty text, or the text before the files and those for some files from the
-- first on, or the whole output
pub data IsTaskPrinted {F T : Type 0} (reads : F → List ℕ → Option (List ℕ) → F → Type 0) (begins : T → List ℕ)
    (prints : T → List ℕ → List ℕ → List ℕ → T → Type 0)
    (ends : T → List ℕ → ℕ → Type 0) (files : F) (task : T) (names : List (List ℕ)) : List ℕ → Option ℕ → Type 0 where
  nothing : IsTaskPrinted reads begins prints ends files task names [] None
  first : {texts : List ℕ} {are_read : Bool} {files' : F} {task' : T} (done rest : List (List ℕ)) → names ≡ done ++ rest
      → AreRun reads prints files task done texts are_read files' task'
      → IsTaskPrinted reads begins prints ends files task names (begins task ++ texts) None
  all : {text : List ℕ} {status : ℕ} → IsTaskAnswer reads begins prints ends files task names text status
      → IsTaskPrinted reads begins prints ends files task names text (Some status)
