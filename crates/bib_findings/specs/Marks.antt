-- Machinery: words of private contracts.
-- Marks: hashes that show quickly that an entry shares no identity with another. Entries that share an identity share a mark.
use Rattle.std.specs.Prelude.{◌≡◌, ℕ, Bool, ◌++◌, List, [], ◌∷◌, codes, count_by, length, nat_eq, nat_lt, ◌==◌, Option, Some, None, if◌then◌else◌}
use Rattle.std.specs.BTreeMap.{BTreeMap, get}
use Rattle.std.specs.Hash.FoldHasher.{finish, initial, write}
use Rattle.std.specs.List.{before_first, filter, flat_map, list_any}
use Rattle.std.specs.Option.{option_to_list}
use Rattle.std.specs.Ordering.{nat_cmp}
use Rattle.bib_text.specs.Characters as char
use Rattle.bib_syntax.specs.Reading.{EntryReading}
use Rattle.bib_findings.specs.Identities.{doi_of, isbn_of, title_of}
use Rattle.bib_findings.specs.declared.marks.Marks.{Marks}

-- the text before its first opening brace, or the whole text if it has none
abbrev pub before_brace : List ℕ → List ℕ
before_brace text = before_first (λ b. b == char.open_brace) text

-- the mark of a text of this kind: a hash of the kind and of the text before its first opening brace; an empty text has no mark
abbrev pub mark : List ℕ → List ℕ → Option ℕ
mark kind text = if length text == 0 then None else Some (finish (write (write initial kind) (before_brace text)))

-- the marks of an entry
abbrev pub marks_of : EntryReading → Marks
marks_of said = record {
  doi = mark (codes "doi ") (doi_of said);
  isbn = mark (codes "isbn ") (isbn_of said);
  title = mark (codes "work ") (title_of said);
}

-- the marks of a record that exist
abbrev pub listed : Marks → List ℕ
listed marks = option_to_list marks.doi ++ (option_to_list marks.isbn ++ option_to_list marks.title)

-- the marks of all entries, in order
abbrev pub listed_all : List EntryReading → List ℕ
listed_all entries = flat_map (λ said. listed (marks_of said)) entries

-- whether a mark occurs more than once
abbrev pub is_repeated : List ℕ → ℕ → Bool
is_repeated all one = nat_lt 1 (count_by (nat_eq one) all)

-- whether a mark occurs more than once, if it occurs
abbrev pub met_mark : List ℕ → ℕ → Option Bool
met_mark all one = if list_any (nat_eq one) all then Some (is_repeated all one) else None

-- whether `met` contains exactly the marks of `all`, each with whether it occurs more than once
abbrev pub AreMetMarks : BTreeMap ℕ Bool → List ℕ → Type 0
AreMetMarks met all = (one : ℕ) → get nat_cmp met one ≡ met_mark all one

-- whether one of these marks occurs more than once
abbrev pub has_repeated : List ℕ → Marks → Bool
has_repeated all marks = list_any (is_repeated all) (listed marks)

-- the entries that have a mark which occurs more than once among all of them
abbrev pub may_share : List EntryReading → List EntryReading
may_share entries = filter (λ said. has_repeated (listed_all entries) (marks_of said)) entries

-- the indices whose marks, at the same position of the other list, include one that occurs more than once
abbrev pub chosen : List ℕ → List Marks → List ℕ → List ℕ
chosen all (marks ∷ rest) (index ∷ indices) = if has_repeated all marks then index ∷ chosen all rest indices else chosen all rest indices
chosen all _ _ = []
