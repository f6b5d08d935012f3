-- The changes that give entries new keys are in order, and none of them overlaps the next.
use Rattle.std.proofs.Common.{◌≡◌, ◌⊎◌, inl, inr, ℕ, zero, suc, ◌+◌, ◌<◌, ◌≤◌, Bool, true, false, cond, List, [], ◌∷◌, ◌++◌, map, refl, sym, ap, ◌∙◌, subst, arith, append-nil, Option, Some, None, Result, Ok, Err}
use Rattle.std.specs.Prelude.{IfErr, IfOk, bytes_eq, slice_get}
use Rattle.std.specs.List.{AllByRecursion}
use Rattle.std.specs.Str.{IsCharBoundary}
use Rattle.bib_text.specs.Places.{Place}
use Rattle.bib_text.proofs.PlaceFacts.{ahead_char, ahead_run, ahead_then}
use Rattle.bib_syntax.specs.Reading.{FieldReading, EntryReading, FileReading}
use Rattle.bib_syntax.specs.Grammar.{Field, Fields, File, longest}
use Rattle.bib_syntax.specs.Grammar.{Fields as fields}
use Rattle.bib_syntax.specs.Grammar.{File as file}
use Rattle.bib_syntax.proofs.FieldFacts.{ahead_elements, ahead_field, ahead_gap, ahead_identifier}
use Rattle.bib_syntax.proofs.FileFacts.{ahead_block, ahead_head, ahead_line_comment}
use Rattle.edit_entries.specs.Edits.{edited_all}
use Rattle.edit_entries.specs.Documents.{Document, HasEntry, IsDocument, IsEdited, first_position, is_keyed, next_index}
use Rattle.edit_entries.specs.References.{CanBeMade, Change, KeyRenamed, KeysAreRefused, KeysRenamed, CanGetKeys, MayGetNewKeys, RenameIsRefused, change_edit, key_change, key_renaming, new_reference, only, reference_changes, renamed_value, renaming, value_change}
use Rattle.edit_entries.specs.Stretches.{AreChangesInOrder, AreEntriesPlaced, EndsInWhite, change_end, change_start}
use Rattle.edit_entries.specs.declared.errors.EditError.{EditError}
use Rattle.edit_entries.specs.declared.errors.EditError.TheVariants.{UnknownKey, KeyIsThere, NotAKey, NotAName, NotInBraces, NotBare, DefinitionIsThere, NoFieldLeft, OutOfMemory}
use Rattle.edit_entries.proofs.SplitFacts.{EntryBlock, entry_block, one_entry}
use Rattle.edit_entries.proofs.ValueFacts.{field_placed}
use Rattle.edit_entries.proofs.RenamedFacts.{key_placed, key_some}
use Rattle.edit_entries.proofs.ChangedFacts.{IsPieceOf, all_made}
use Rattle.bib_text.proofs.ListFacts.{all_append}

-- ---- one after another

abbrev Ordered : ℕ → List Change → ℕ → Type 0
Ordered at [] end = at ≤ end
Ordered at (change ∷ changes) end =
    (at ≤ change_start change) × (change_start change ≤ change_end change) × Ordered (change_end change) changes end

ordered_from : (at less end : ℕ) (changes : List Change) → less ≤ at → Ordered at changes end → Ordered less changes end
ordered_from at less end [] small order = omega arith
ordered_from at less end (change ∷ changes) small order = (omega (arith, order.0), order.1, order.2)

ordered_append : (at mid end : ℕ) (xs ys : List Change) → Ordered at xs mid → Ordered mid ys end → Ordered at (xs ++ ys) end
ordered_append at mid end [] ys first rest = ordered_from mid at end ys first rest
ordered_append at mid end (x ∷ xs) ys first rest = (first.0, first.1, ordered_append (change_end x) mid end xs ys first.2 rest)

value_ordered : {u v : Place} {f : FieldReading} (end : ℕ) (new : Option (List ℕ)) → Field longest u f v → v.at ≤ end
    → Ordered u.at (value_change f new) end
value_ordered end None field below = omega (arith, (ahead_field field).at)
value_ordered end (Some new) field below =
    let to_value =
    ahead_then (ahead_identifier field.name)
    (ahead_then (ahead_run field.white.run) (ahead_then (ahead_char field.sign) (ahead_run field.white'.run))) in (
      omega (arith, to_value.at, field.starts),
      omega (arith, field.starts, field.ends, (ahead_elements field.elements).at),
      omega (arith, field.ends),
    )

module _ (names : List ℕ → List ℕ → Option (List ℕ)) (keys : ℕ → Option (List ℕ)) where
  fields_ordered : {u v : Place} {fs : List FieldReading} → Fields longest u fs v → Ordered u.at (reference_changes names fs) v.at
  fields_ordered (fields.none white) = (ahead_run white.run).at
  fields_ordered {u} {v} (fields.last {f = f} field gap) =
      ordered_append u.at v.at v.at (value_change f (renamed_value names f)) []
      (value_ordered v.at (renamed_value names f) field (ahead_gap gap).at) (omega arith)
  fields_ordered {u} {v} (fields.more {y = start} {f = f} {fs = fs} field gap comma gap' rest) =
      ordered_append u.at start.at v.at (value_change f (renamed_value names f)) (reference_changes names fs)
      (value_ordered start.at (renamed_value names f) field
      (ahead_then (ahead_gap gap) (ahead_then (ahead_char comma) (ahead_gap gap'))).at)
      (fields_ordered rest)

  key_ordered : (o : Option (List ℕ)) {u v : Place} {e : EntryReading} → (b : EntryBlock u e v)
      → Ordered u.at (key_change o e) b.key_end.at
  key_ordered (Some new) b =
      let start = ap (λ p. p.start) b.key_is in
      let end = ap (λ p. p.end) b.key_is in
      (omega (arith, start, (ahead_head b.head).at), omega (arith, start, end, (ahead_run b.key.run).at), omega (arith, end))
  key_ordered None b = (ahead_then (ahead_head b.head) (ahead_run b.key.run)).at

  entry_ordered : (o : Option (List ℕ)) {u v : Place} {e : EntryReading} → EntryBlock u e v
      → Ordered u.at (key_change o e ++ reference_changes names e.fields) v.at
  entry_ordered o {u} {v} {e} b =
      let to_fields = ahead_then (ahead_run b.white.run) (ahead_then (ahead_char b.comma) (ahead_gap b.gap)) in
      let references =
      ordered_append b.fields_start.at b.brace.at v.at (reference_changes names e.fields) []
      (fields_ordered b.fields) (ahead_char b.closes).at in
      ordered_append u.at b.key_end.at v.at (key_change o e) (reference_changes names e.fields) (key_ordered o b)
      (ordered_from b.fields_start.at b.key_end.at v.at (reference_changes names e.fields) to_fields.at
      (subst (λ l. Ordered b.fields_start.at l v.at) (append-nil (reference_changes names e.fields)) references))

  file_ordered : {u : Place} {says : FileReading} (index : ℕ) → File longest u says
      → (end : ℕ) × Ordered u.at (renaming names keys index says.entries) end
  file_ordered {u} index (file.end end) = (u.at, omega arith)
  file_ordered {u} {says} index (file.skipped {v = v} char passes x) =
      let rest = file_ordered index x in
      (rest.0, ordered_from v.at u.at rest.0 (renaming names keys index says.entries) (ahead_char char).at rest.1)
  file_ordered {u} {says} index (file.line_comment {v = v} m x) =
      let rest = file_ordered index x in
      (rest.0, ordered_from v.at u.at rest.0 (renaming names keys index says.entries) (ahead_line_comment m).at rest.1)
  file_ordered {u} index (file.block {v = v} {first = first} {rest = rest} b x) =
      elim (one_entry b.body) [
        | inl no_entry ↦
            let others = file_ordered index x in
            let from = ordered_from v.at u.at others.0 (renaming names keys index rest.entries) (ahead_block b).at others.1 in
            subst (λ es. (end : ℕ) × Ordered u.at (renaming names keys index (es ++ rest.entries)) end) (sym no_entry) (others.0, from)
        | inr one ↦
            let others = file_ordered (suc index) x in
            let same = ap (λ r. r.entries) one.1 in
            let block = entry_block one.0 b same in
            let all =
            ordered_append u.at v.at others.0
            (key_change (keys index) one.0 ++ reference_changes names one.0.fields)
            (renaming names keys (suc index) rest.entries) (entry_ordered (keys index) block) others.1 in
            subst (λ es. (end : ℕ) × Ordered u.at (renaming names keys index (es ++ rest.entries)) end) (sym same) (others.0, all)
      ]

-- ---- parts of the document

value_piece : (d : Document) (k : ℕ) (e : EntryReading) (j : ℕ) (f : FieldReading) (new : Option (List ℕ))
    → slice_get d.says.entries k ≡ Some e → slice_get e.fields j ≡ Some f
    → AllByRecursion (IsPieceOf d) (value_change f new)
value_piece d k e j f None here there = tt
value_piece d k e j f (Some new) here there = ((k, e, j, here, there), tt)

fields_pieces : (d : Document) (k : ℕ) (e : EntryReading) (names : List ℕ → List ℕ → Option (List ℕ)) (fs : List FieldReading)
    → slice_get d.says.entries k ≡ Some e
    → ((i : ℕ) (f : FieldReading) → slice_get fs i ≡ Some f → (j : ℕ) × (slice_get e.fields j ≡ Some f))
    → AllByRecursion (IsPieceOf d) (reference_changes names fs)
fields_pieces d k e names [] here among = tt
fields_pieces d k e names (f ∷ fs) here among =
    let found = among 0 f refl in
    all_append (IsPieceOf d) (value_change f (renamed_value names f)) (reference_changes names fs)
    (value_piece d k e found.0 f (renamed_value names f) here found.1)
    (fields_pieces d k e names fs here (λ i. among (suc i)))

key_piece : (d : Document) (k : ℕ) (e : EntryReading) (o : Option (List ℕ)) → slice_get d.says.entries k ≡ Some e
    → ((new : List ℕ) → o ≡ Some new → e.key.start < e.key.end) → AllByRecursion (IsPieceOf d) (key_change o e)
key_piece d k e (Some new) here some = ((k, e, here, refl, some new refl), tt)
key_piece d k e None here some = tt

-- the key of each entry that gets a new key isn't empty
abbrev HaveKeys : Document → (ℕ → Option (List ℕ)) → Type 0
HaveKeys d keys =
    (k : ℕ) (e : EntryReading) (new : List ℕ) → slice_get d.says.entries k ≡ Some e → keys k ≡ Some new → e.key.start < e.key.end

renaming_pieces : (d : Document) (names : List ℕ → List ℕ → Option (List ℕ)) (keys : ℕ → Option (List ℕ)) (index : ℕ)
    (es : List EntryReading)
    → ((i : ℕ) (e : EntryReading) → slice_get es i ≡ Some e → slice_get d.says.entries (index + i) ≡ Some e)
    → HaveKeys d keys → AllByRecursion (IsPieceOf d) (renaming names keys index es)
renaming_pieces d names keys index [] among have = tt
renaming_pieces d names keys index (e ∷ es) among have =
    let zero_is : index + 0 ≡ index = omega arith in
    let here : slice_get d.says.entries index ≡ Some e = subst (λ n. slice_get d.says.entries n ≡ Some e) zero_is (among 0 e refl) in
    let next =
    λ (i : ℕ) (x : EntryReading) (found : slice_get es i ≡ Some x).
    let same : index + suc i ≡ suc index + i = omega arith in
    subst (λ n. slice_get d.says.entries n ≡ Some x) same (among (suc i) x found) in
    all_append (IsPieceOf d) (key_change (keys index) e ++ reference_changes names e.fields) (renaming names keys (suc index) es)
    (all_append (IsPieceOf d) (key_change (keys index) e) (reference_changes names e.fields)
    (key_piece d index e (keys index) here (λ new gets. have index e new here gets))
    (fields_pieces d index e names e.fields here (λ j f found. (j, found))))
    (renaming_pieces d names keys (suc index) es next have)

apart_of : (d : Document) (at end : ℕ) (changes : List Change) → IsDocument d → AllByRecursion (IsPieceOf d) changes
    → Ordered at changes end → AreChangesInOrder d.text at changes
apart_of d at end [] read pieces order = tt
apart_of d at end (Change.key p new ∷ changes) read pieces order =
    let piece = pieces.0 in
    let placed = key_placed d piece.0 piece.1 read piece.2 in (
      order.0,
      order.1,
      subst (λ q. IsCharBoundary d.text q.start) piece.3 placed.start,
      subst (λ q. IsCharBoundary d.text q.end) piece.3 placed.end,
      apart_of d p.end end changes read pieces.1 order.2,
    )
apart_of d at end (Change.value f new ∷ changes) read pieces order =
    let piece = pieces.0 in
    let placed = field_placed d piece.0 piece.1 piece.2 f read piece.3 piece.4 in
    (order.0, order.1, placed.start, placed.end, apart_of d f.value.end end changes read pieces.1 order.2)

-- ---- entries get new keys

have_keys : (d : Document) (keys : ℕ → Option (List ℕ)) → IsDocument d → MayGetNewKeys d.says.entries keys → HaveKeys d keys
have_keys d keys read can k e new here gets = key_some d k e read here (can k e new here gets).filled

pieces_known : (d : Document) (keys : ℕ → Option (List ℕ)) → IsDocument d → MayGetNewKeys d.says.entries keys
    → AllByRecursion (IsPieceOf d) (key_renaming keys d.says.entries)
pieces_known d keys read can =
    renaming_pieces d (new_reference d.says.entries keys) keys 0 d.says.entries
    (λ i x found. let same : i ≡ 0 + i = omega arith in subst (λ n. slice_get d.says.entries n ≡ Some x) same found)
    (have_keys d keys read can)

pub apart_known : (d : Document) (keys : ℕ → Option (List ℕ)) → IsDocument d → MayGetNewKeys d.says.entries keys
    → AreChangesInOrder d.text 0 (key_renaming keys d.says.entries)
apart_known d keys read can =
    let order = file_ordered (new_reference d.says.entries keys) keys 0 read in
    apart_of d 0 order.0 (key_renaming keys d.says.entries) read (pieces_known d keys read can) order.1

pub entries_placed : (d : Document) → IsDocument d → AreEntriesPlaced d.text d.says.entries
entries_placed d read k e here j f there = field_placed d k e j f read here there

-- the first index at which a test is passed is that of an entry
pub first_there : (test : EntryReading → Bool) (es : List EntryReading) (k : ℕ) → first_position test es ≡ Some k
    → (e : EntryReading) × (slice_get es k ≡ Some e)
first_there test [] k found = absurd (cc)
first_there test (e ∷ es) zero found = (e, refl)
first_there test (e ∷ es) (suc k) found = first_there test es k (later (test e) (first_position test es) k found)
  where
    later : (b : Bool) (o : Option ℕ) (n : ℕ) → cond b (Some 0) (next_index o) ≡ Some (suc n) → o ≡ Some n
    later true o n is = absurd (let clash : 0 ≡ suc n = cc in omega arith)
    later false None n is = absurd (cc)
    later false (Some i) n is = let same : suc i ≡ suc n = cc in let index : i ≡ n = omega arith in ap Some index

-- if entries can get new keys and a call returns the text after the changes for them, it returns the document with the keys. This holds
-- if each change can be made, and only white space is between its stretch and the end of the changed part
pub renamed_answer : {S : Type 0} (bytes : S → List ℕ) (d : Document) (listed : List EntryReading) (keys : ℕ → Option (List ℕ))
    (r : Result S EditError) → IsDocument d → listed ≡ d.says.entries → CanGetKeys d.says.entries keys
    → IfOk r (λ made. bytes made ≡ edited_all (map (change_edit d.text) (key_renaming keys listed)) d.text)
    → IfOk r (λ _. AllByRecursion CanBeMade (key_renaming keys listed))
    → IfOk r (λ _. AllByRecursion (EndsInWhite d.text) (key_renaming keys listed))
    → IfOk r (λ made. IsEdited (KeysRenamed d keys) (bytes made))
renamed_answer bytes d listed keys (Err error) read same can text made white = _
renamed_answer bytes d listed keys (Ok new) read same can text made white =
    let after =
    all_made d 0 (key_renaming keys d.says.entries) read (apart_known d keys read can.may) (pieces_known d keys read can.may)
    (subst (λ es. AllByRecursion CanBeMade (key_renaming keys es)) same made)
    (subst (λ es. AllByRecursion (EndsInWhite d.text) (key_renaming keys es)) same white) in
    record {
      document = after.after;
      outcome = KeysRenamed.renamed can after.changed;
      is =
          subst (λ es. bytes new ≡ edited_all (map (change_edit d.text) (key_renaming keys es)) d.text) same text
          ∙ sym after.text;
      read = after.read;
    }

pub renamed_refusal : {S : Type 0} (d : Document) (listed : List EntryReading) (keys : ℕ → Option (List ℕ)) (r : Result S EditError)
    → listed ≡ d.says.entries → CanGetKeys d.says.entries keys
    → IfErr r (λ error. (error ≡ OutOfMemory) ⊎ ((error ≡ NotInBraces) × (AllByRecursion CanBeMade (key_renaming keys listed) → ⊥)))
    → IfErr r (KeysAreRefused d keys)
renamed_refusal d listed keys (Ok made) same can known = _
renamed_refusal d listed keys (Err error) same can (inl memory) = subst (KeysAreRefused d keys) (sym memory) tt
renamed_refusal d listed keys (Err error) same can (inr braces) =
    subst (KeysAreRefused d keys) (sym braces.0)
    (record { can = can; cant = λ all. braces.1 (subst (λ es. AllByRecursion CanBeMade (key_renaming keys es)) (sym same) all) })

-- ---- one key is renamed

-- the index that a lookup by a key returns is that of an entry with this key
pub entry_found : (d : Document) (listed : List EntryReading) (key : List ℕ) (k : ℕ) → listed ≡ d.says.entries
    → first_position (is_keyed key) listed ≡ Some k → (e : EntryReading) × HasEntry d key k e
entry_found d listed key k same first =
    let first' : first_position (is_keyed key) d.says.entries ≡ Some k =
    subst (λ es. first_position (is_keyed key) es ≡ Some k) same first in
    let found = first_there (is_keyed key) d.says.entries k first' in
    (found.0, record { first = first'; here = found.1 })

-- if a call returns the document with a new key for the first entry with a key, it returns the document with this key renamed
pub key_answer : {S : Type 0} (bytes : S → List ℕ) (d : Document) (old new : List ℕ) (k : ℕ) (e : EntryReading) (r : Result S EditError)
    → HasEntry d old k e → bytes_eq old new ≡ false → IfOk r (λ made. IsEdited (KeysRenamed d (only k new)) (bytes made))
    → IfOk r (λ made. IsEdited (KeyRenamed d old new) (bytes made))
key_answer bytes d old new k e (Err error) entry other known = _
key_answer bytes d old new k e (Ok made) entry other known = record {
  document = known.document;
  outcome = KeyRenamed.renamed entry other known.outcome;
  is = known.is;
  read = known.read;
}

pub key_refusal : {S : Type 0} (d : Document) (old new : List ℕ) (k : ℕ) (e : EntryReading) (r : Result S EditError) → HasEntry d old k e
    → bytes_eq old new ≡ false → IfErr r (KeysAreRefused d (only k new)) → IfErr r (RenameIsRefused d old new)
key_refusal d old new k e (Ok made) entry other known = _
key_refusal d old new k e (Err UnknownKey) entry other known = absurd known
key_refusal d old new k e (Err KeyIsThere) entry other known =
    record { index = k; entry = e; has = entry; other = other; refused = known }
key_refusal d old new k e (Err NotAKey) entry other known =
    record { index = k; entry = e; has = entry; other = other; refused = known }
key_refusal d old new k e (Err NotAName) entry other known = absurd known
key_refusal d old new k e (Err NotInBraces) entry other known =
    record { index = k; entry = e; has = entry; other = other; refused = known }
key_refusal d old new k e (Err NotBare) entry other known = absurd known
key_refusal d old new k e (Err DefinitionIsThere) entry other known = absurd known
key_refusal d old new k e (Err NoFieldLeft) entry other known = absurd known
key_refusal d old new k e (Err OutOfMemory) entry other known = tt
