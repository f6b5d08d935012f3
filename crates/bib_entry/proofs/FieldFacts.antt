-- Lemmas about setting fields.
use Rattle.std.proofs.Common.{◌≡◌, ℕ, cond, List, Option, Some, Result, Ok, Err, OnOk, OnErr, ap, ◌∙◌}
use Rattle.std.specs.declared.alloc.AllocError.{AllocError}
use Rattle.std.specs.FinMap as by_name
use Rattle.std.specs.FinMap.{get-insert}
use Rattle.std.proofs.lemmas.Cmp.{nat_list_cmp_total, eq_by_cmp_equiv}
use Rattle.bib_chunks.specs.declared.chunk.Chunk.{Chunk}
use Rattle.bib_collections.specs.Sorted.{ByText}
use Rattle.bib_text.specs.declared.spanned.Spanned.{Spanned}
use Rattle.bib_typed.specs.declared.typed.Type.{Ghosts}
use Rattle.bib_entry.specs.declared.entry.Entry.{Entry}
use Rattle.bib_entry.specs.Fields.{with_field, SetsValue}
use Rattle.bib_typed.specs.Retrieved.{field_as}
use Rattle.bib_typed.proofs.FieldFacts.{get_inserted}

-- a field that is set to chunks is parsed from these chunks
pub set_is_read : {M : Type 0} (reads : List (Spanned Chunk) → Option M) (fields : ByText (List (Spanned Chunk)))
    (name : List ℕ) (chunks : List (Spanned Chunk))
    → field_as reads (by_name.get (by_name.insert fields name chunks) name) ≡ reads chunks
set_is_read reads fields name chunks = ap (field_as reads) (get_inserted fields name chunks)

-- `SetsValue` follows from the new map, the old map after an error, and the law of the type
pub is_set : {V : Type 0} (type : Ghosts V)
    (survives : (m : type.Meaning) → type.kept m → type.reads (type.writes m) ≡ Some m) (m : type.Meaning)
    (name : List ℕ) (old new : Entry) (result : Result (Unit {0}) AllocError)
    → OnOk result (new ≡ with_field old name (type.writes m)) → OnErr result (new ≡ old) → SetsValue type m name old new result
is_set type survives m name old new (Ok u) set refused = record {
  set = set;
  kept = λ is_kept.
      ap (λ entry. field_as type.reads (by_name.get entry.fields name)) set
      ∙ set_is_read type.reads old.fields name (type.writes m) ∙ survives m is_kept;
  refused = refused;
}
is_set type survives m name old new (Err e) set refused = record { set = set; kept = set; refused = refused }
