-- Lemmas about setting fields.
use Rattle.std.proofs.Common.{◌≡◌, ℕ, cond, List, Some, ap, ◌∙◌}
use Rattle.std.specs.FinMap as by_name
use Rattle.std.specs.FinMap.{get-insert}
use Rattle.std.proofs.lemmas.Cmp.{nat_list_cmp_total, eq_by_cmp_equiv}
use Rattle.bib_chunks.specs.Values.{Value}
use Rattle.bib_collections.specs.Sorted.{ByText}
use Rattle.bib_typed.specs.declared.typed.Type.{Ghosts}
use Rattle.bib_typed.specs.Retrieved.{field_as}

-- an inserted name has the inserted value
pub get_inserted : {V : Type 0} (m : ByText V) (name : List ℕ) (v : V) → by_name.get (by_name.insert m name v) name ≡ Some v
get_inserted m name v =
    get-insert nat_list_cmp_total m name v name
    ∙ ap (λ same. cond same (Some v) (by_name.get m name)) ((eq_by_cmp_equiv nat_list_cmp_total).refl name)

-- a field that is set to the chunks written for a kept value parses back to the value, by the law of the type
pub set_is_read : {V : Type 0} (type : Ghosts V)
    (survives : (m : type.Meaning) → type.kept m → type.reads (type.writes m) ≡ Some m) (m : type.Meaning)
    (old new : ByText Value) (name : List ℕ)
    → new ≡ by_name.insert old name (type.writes m) → type.kept m → field_as type.reads (by_name.get new name) ≡ Some m
set_is_read type survives m old new name set is_kept =
    ap (λ fields. field_as type.reads (by_name.get fields name)) set
    ∙ ap (field_as type.reads) (get_inserted old name (type.writes m)) ∙ survives m is_kept
